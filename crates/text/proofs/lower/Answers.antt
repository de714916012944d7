-- `text::lower` meets its contract: each branch is one of the definition's.
-- Assumes nothing.
use borrow.Author.Tests.{le-leb, lt-leb}
use Rattle.text.specs.Text.{lower}
use Rattle.text.proofs.lower.Goals as goal

pub returns-then-b-lt65 : goal.returns-then-b-lt65
unfolding lower
returns-then-b-lt65 c = simp (lt-leb 65 _ c.if-b-lt65.true)

pub returns-then-b-gt90 : goal.returns-then-b-gt90
unfolding lower
returns-then-b-gt90 c = simp (le-leb 65 _ c.if-b-lt65.false, lt-leb _ 90 c.if-b-gt90.true)

pub returns : goal.returns
unfolding lower
returns c = simp (le-leb 65 _ c.if-b-lt65.false, le-leb _ 90 c.if-b-gt90.false)
