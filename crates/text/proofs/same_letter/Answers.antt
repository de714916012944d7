-- `text::same_letter` meets its contract: the same byte is the same in lower case. Assumes nothing.
use mathlib.Core.Path.{sym, ap}
use borrow.Author.Tests.{eq-eqb}
use Rattle.text.specs.Text.{lower}
use Rattle.text.proofs.same_letter.Goals as goal

pub returns-then-x-y : goal.returns-then-x-y
returns-then-x-y c = sym (eq-eqb _ _ (ap lower c.if-x-y.true))

pub returns : goal.returns
returns c = cc
