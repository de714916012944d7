-- `rules::hosts_file::examine_rule` meets its contract: the arms are the cases of what the check finds.
-- Assumes nothing.
use borrow.Author.Rules.{rules}
use Rattle.std.proofs.lemmas.Result.{err_from_is_err_and}
use Rattle.text.proofs.Search.{outright}
use Rattle.rules.proofs.FileLaws.{examined_faulty, examined_sound}
use Rattle.rules.proofs.hosts_file.examine_rule.Goals as goal

pub returns-in_err-check : goal.returns-in_err-check
returns-in_err-check c = let p = err_from_is_err_and c.from_residual.result c.from_residual.ensures.1 in rw (p.1, p.2) (examined_faulty _ _ _ _ c.pass_rule-seen.ensures _ c.in_err-check.was)

pub returns : goal.returns
returns c = outright (search (examined_sound, rules))
