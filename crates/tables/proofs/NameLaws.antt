-- Laws of names: when two are not equal, whatever their case.
-- Assumes nothing.
use Prim.Native.Nat.{ℕ, ◌+◌, ◌%◌}
use native.Mathlib.Omega.{arith}
use mathlib.Core.Bool.{Bool, true, false}
use mathlib.Core.List.{List, [], ◌∷◌, map}
use mathlib.Core.Path.{◌≡◌, refl, sym, ap, ◌∙◌}
use lib.ListN.{length, get_or, get_or-map}
use Rattle.text.specs.Basics.{when◌then◌else◌}
use Rattle.text.specs.Text.{char_range, lower, equal, equal_fold}
use Rattle.text.proofs.ScanLaws.{eq_of_equal, equal_fold_lengths}

-- case changes one bit, which is none of the low five
pub lower_rest : (x : ℕ) → lower x % 32 ≡ x % 32
unfolding lower
lower_rest x = by (char_range "A" "Z" x)
  where
    by : (b : Bool) → (when b then x + 32 else x) % 32 ≡ x % 32
    by true = omega arith
    by false = refl

module _ (a b : List ℕ) where
  pub named_lengths : (length a ≡ length b → ⊥) → false ≡ equal_fold a b
  named_lengths n = sym (equal_fold_lengths a b n)

  pub named_empty : length a ≡ length b → length a ≡ 0 → true ≡ equal_fold a b
  unfolding equal_fold equal
  named_empty e z = by a b e z
    where
      by : (s t : List ℕ) → length s ≡ length t → length s ≡ 0 → true ≡ equal (map lower s) (map lower t)
      by [] [] e z = refl
      by [] (y ∷ t) e z = absurd (omega arith)
      by (x ∷ s) t e z = absurd (omega arith)

  -- the names differ where the low bits of a byte do
  pub named_otherwise : (i : ℕ) → (get_or a i 0 % 32 ≡ get_or b i 0 % 32 → ⊥) → false ≡ equal_fold a b
  unfolding equal_fold
  named_otherwise i n = by (equal (map lower a) (map lower b)) refl
    where
      folded : (s : List ℕ) → get_or (map lower s) i (lower 0) ≡ lower (get_or s i 0)
      folded s = get_or-map lower s i 0

      by : (t : Bool) → equal (map lower a) (map lower b) ≡ t → false ≡ t
      by true e =
          let q : lower (get_or a i 0) ≡ lower (get_or b i 0) =
          sym (folded a) ∙ ap (λ (l : List ℕ). get_or l i (lower 0)) (eq_of_equal (map lower a) (map lower b) e) ∙ folded b in
          absurd (n (sym (lower_rest (get_or a i 0)) ∙ ap (λ (x : ℕ). x % 32) q ∙ lower_rest (get_or b i 0)))
      by false e = refl
