-- `address::prefix::mask_beyond_v4` meets its contract: all ones shifted by n, and none at the width. Assumes nothing.
use Prim.Native.Nat.{ℕ, ◌-◌, ◌^◌}
use mathlib.Core.Path.{ap, sym}
use Rattle.address.proofs.PrefixLaws.{ones_shr}
use Rattle.address.proofs.prefix.mask_beyond_v4.Goals as goal

pub returns-then-n-eq32 : goal.returns-then-n-eq32
returns-then-n-eq32 c = sym (ap (λ (n : ℕ). 2 ^ (32 - n) - 1) c.if-n-eq32.true)

pub returns : goal.returns
returns c = ones_shr 32 _ c.requires
