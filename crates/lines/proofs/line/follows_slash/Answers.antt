-- `lines::line::follows_slash` meets its contract: the two branches are the two values of the test that start lies before i.
-- Assumes nothing.
use borrow.Author.Tests.{lt-ltb, le-ltb}
use Rattle.lines.specs.Scan.{slash_before}
use Rattle.lines.proofs.line.follows_slash.Goals as goal

pub returns-then-start-i : goal.returns-then-start-i
unfolding slash_before
returns-then-start-i c = rw (lt-ltb _ _ c.if-start-i.true)

pub returns-else-start-i : goal.returns-else-start-i
unfolding slash_before
returns-else-start-i c = rw (le-ltb _ _ c.if-start-i.false)
