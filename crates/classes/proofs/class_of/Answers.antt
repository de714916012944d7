-- `class_of` meets its contract, by what the table holds. Assumes nothing.
use borrow.Author.Rules.{rules}
use Rattle.classes.proofs.class_of.Goals as goal

pub returns : goal.returns
returns c = c.requires.each _ (search rules)
