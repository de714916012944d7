-- `tidy::propose_sound` meets its contract: the lines that are marked are those of the proposal. Assumes nothing.
use borrow.Author.Rules.{rules}
use Rattle.tidy.proofs.CheckLaws.{numbers_made, numbers_written}
use Rattle.tidy.proofs.propose_sound.Goals as goal

pub returns : goal.returns
returns c = record { answer = search (numbers_made, rules); holds = search (numbers_written, rules) }
