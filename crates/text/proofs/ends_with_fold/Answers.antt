-- `text::ends_with_fold` meets its contract: the part from at on is what the definition drops to.
-- Assumes nothing.
use lib.ListN.{length}
use Prim.Native.Nat.{◌-◌}
use borrow.Author.Tests.{le-ltb, lt-ltb}
use Rattle.text.proofs.ScanLaws.{take_rest}
use Rattle.text.proofs.ends_with_fold.Goals as goal

pub returns-then-s-suffix : goal.returns-then-s-suffix
returns-then-s-suffix c = rw (le-ltb _ _ c.if-s-suffix.true)

pub returns : goal.returns
returns c = let a = c.args in
    rw (lt-ltb _ _ c.if-s-suffix.false, ← (take_rest a.s.now (length a.s.now - length a.suffix.now))) c.equal_fold.ensures
