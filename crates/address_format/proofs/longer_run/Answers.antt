-- `address_format::longer_run` meets its contract. Assumes nothing.
use borrow.Author.Tests.{le-leb, lt-leb}
use Rattle.address_format.proofs.longer_run.Goals as goal

pub returns-then-l-len : goal.returns-then-l-len
returns-then-l-len c = rw (le-leb _ _ c.if-l-len.true)

pub returns : goal.returns
returns c = rw (lt-leb _ _ c.if-l-len.false)
