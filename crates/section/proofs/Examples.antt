-- Examples, computed from the definitions: a definition that answers otherwise is refused here.
-- Assumes nothing.
use Rattle.std.specs.Prelude.{Err, None, Ok, Some}
use Prim.Native.Nat.{ℕ}
use mathlib.Core.Bool.{true, false}
use mathlib.Core.List.{[], ◌∷◌}
use mathlib.Core.Path.{◌≡◌, refl}
use Rattle.section.specs.declared.Fault.TheVariants as F
use Rattle.section.specs.Refusal.{lowest, placeless, ◌before◌, fitting}

pub record Examples : Type 0 where
  -- "within a line the lowest number", in whatever order the tests stand
  pub lowest_number : lowest ((F.BadPercent, true) ∷ (F.Unended, false) ∷ (F.BadByte, true) ∷ (F.LongLine, true) ∷ []) ≡ Some F.BadByte
  -- "checked for 5, 6 and 11, .. then 13"
  pub first_refusal : ◌before◌ {A = ℕ} (Some (placeless F.BadPercent)) (Err (placeless F.BadRequest)) ≡ Err (placeless F.BadPercent)
  -- 13: "a request field outside its size or its kinds"
  pub outside_its_size : fitting {A = ℕ} {B = ℕ} (λ n. false) (Some 0) Ok ≡ Err (placeless F.BadRequest)
  pub outside_its_kinds : fitting {A = ℕ} {B = ℕ} (λ n. true) None Ok ≡ Err (placeless F.BadRequest)

pub examples : Examples
unfolding lowest
examples = record { lowest_number = refl; first_refusal = refl; outside_its_size = refl; outside_its_kinds = refl }
