-- `tidy::check_whole` meets its contract: what is sound is read once. Assumes nothing.
use borrow.Author.Rules.{rules}
use Rattle.text.proofs.Search.{outright}
use Rattle.tidy.proofs.CheckLaws.{whole_sound, whole_passed}
use Rattle.tidy.proofs.check_whole.Goals as goal

pub returns-then-are_sound : goal.returns-then-are_sound
returns-then-are_sound c = outright (search (whole_sound, rules))

pub returns : goal.returns
returns c = outright (search (whole_passed, rules))
