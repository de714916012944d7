-- `tidy::propose` meets its contract: the checks, then the rest. Assumes nothing.
use borrow.Author.Rules.{rules}
use Rattle.tidy.proofs.CheckLaws.{passed_short, passed_sound, propose_refused, propose_unwritten, propose_made, propose_written}
use Rattle.tidy.proofs.propose.Goals as goal

pub propose_sound-requires : goal.propose_sound-requires
propose_sound-requires c = (search (passed_short, rules), search (passed_sound, rules))

pub returns-in_err-check_file : goal.returns-in_err-check_file
returns-in_err-check_file c = let e = propose_refused _ _ _ _ c.check_file.ensures c.args.out.now _ c.in_err-check_file.was in
    record { answer = search rules; holds = propose_unwritten _ _ _ _ c.check_file.ensures _ _ c.in_err-check_file.was }

pub returns : goal.returns
returns c = record { answer = search (propose_made, rules); holds = search (propose_written, rules) }
