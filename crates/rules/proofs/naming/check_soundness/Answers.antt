-- `naming::check_soundness` meets its contract, test by test. Assumes nothing.
use borrow.Author.Rules.{rules}
use Rattle.text.proofs.Search.{outright}
use Rattle.rules.proofs.OrderLaws.{sound_limits, sound_all, sound_unsound}
use Rattle.rules.proofs.naming.check_soundness.Goals as goal

pub returns-then-count-over : goal.returns-then-count-over
returns-then-count-over c = outright (search (sound_limits, rules))

pub returns-then-unsound-eq0 : goal.returns-then-unsound-eq0
returns-then-unsound-eq0 c = outright (search (sound_all, rules))

pub returns : goal.returns
returns c = outright (search (sound_unsound, rules))
