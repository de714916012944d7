-- Each answer by the tests that led there. Assumes nothing.
use borrow.Author.Tests.{lt-ltb, le-ltb}
use Rattle.codes.specs.Code.{address_by}
use Rattle.codes.proofs.request.address_by.Goals as goal

pub returns-then-port-lt65536 : goal.returns-then-port-lt65536
unfolding address_by
returns-then-port-lt65536 c = rw (lt-ltb _ _ c.if-port-lt65536.true) c.address.ensures

pub returns : goal.returns
unfolding address_by
returns c = rw (le-ltb _ _ c.if-port-lt65536.false)
