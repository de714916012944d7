-- `tidy::drop_rules` meets its contract: the checks, then the rest. Assumes nothing.
use borrow.Author.Rules.{rules}
use Rattle.tidy.proofs.CheckLaws.{passed_short, passed_sound, drop_refused, drop_unwritten, drop_made, drop_written}
use Rattle.tidy.proofs.drop_rules.Goals as goal

pub drop_sound-requires : goal.drop_sound-requires
drop_sound-requires c = (search (passed_short, rules), search (passed_sound, rules))

pub returns-in_err-check_file : goal.returns-in_err-check_file
returns-in_err-check_file c = let e = drop_refused _ _ _ _ c.check_file.ensures c.args.out.now _ c.in_err-check_file.was c.args.proposal.now in
    record { answer = search rules; holds = drop_unwritten _ _ _ _ c.check_file.ensures _ _ c.in_err-check_file.was _ }

pub returns : goal.returns
returns c = record { answer = search (drop_made, rules); holds = search (drop_written, rules) }
