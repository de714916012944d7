-- `address::prefix::mask_beyond` meets its contract: all ones shifted by n, and none at the width. Assumes nothing.
use Prim.Native.Nat.{ℕ, ◌-◌, ◌^◌}
use mathlib.Core.Path.{ap, sym}
use Rattle.address.proofs.PrefixLaws.{ones_shr}
use Rattle.address.proofs.prefix.mask_beyond.Goals as goal

pub returns-then-n-eq64 : goal.returns-then-n-eq64
returns-then-n-eq64 c = sym (ap (λ (n : ℕ). 2 ^ (64 - n) - 1) c.if-n-eq64.true)

pub returns : goal.returns
returns c = ones_shr 64 _ c.requires
