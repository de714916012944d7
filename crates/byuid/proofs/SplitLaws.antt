-- Laws of the parts of a text: no part holds the mark, and the parts with the mark between them are the text.
-- Assumes nothing.
use Prim.Native.Nat.{ℕ, ◌<◌}
use Prim.Native.Char.{Char, code}
use Prim.Native.String.{[] as end, ◌∷◌ as ◌then◌}
use mathlib.Core.Bool.{Bool, true, false}
use mathlib.Core.List.{List, [], ◌∷◌}
use mathlib.Core.Path.{◌≡◌, refl, ap}
use native.Mathlib.Omega.{arith}
use borrow.Author.Tests.{eqb-true}
use lib.Dec.{eqb}
use lib.ListN.{length}
use Rattle.text.specs.Basics.{when◌then◌else◌, all}
use Rattle.text.specs.Text.{cons_head, split, intercalate}
use Rattle.text.proofs.Intercalate.{free, among_one}

module _ (c : Char) where
  abbrev parts : List ℕ → List (List ℕ)
  parts t = split (c then end) t

  -- ## The parts

  pub split_some : (t : List ℕ) → 0 < length (parts t)
  unfolding split
  split_some [] = omega arith
  split_some (x ∷ t) = rw (among_one c x) (by (eqb x (code c)) (parts t) (split_some t))
    where
      by : (b : Bool) (ws : List (List ℕ)) → 0 < length ws → 0 < length (when b then [] ∷ ws else cons_head x ws)
      by true ws h = omega arith
      by false [] h = omega arith
      by false (w ∷ ws) h = omega arith

  pub split_all_free : (t : List ℕ) → all (free (code c)) (parts t) ≡ true
  unfolding split all
  split_all_free [] = refl
  split_all_free (x ∷ t) = rw (among_one c x) (by (eqb x (code c)) refl (parts t) (split_all_free t))
    where
      by : (b : Bool) → eqb x (code c) ≡ b → (ws : List (List ℕ)) → all (free (code c)) ws ≡ true
          → all (free (code c)) (when b then [] ∷ ws else cons_head x ws) ≡ true
      by true e ws h = h
      by false e [] h = rw e
      by false e (w ∷ ws) h = rw e h

  -- ## Put together

  pub intercalate_split : (t : List ℕ) → intercalate (code c ∷ []) (parts t) ≡ t
  unfolding split intercalate
  intercalate_split [] = refl
  intercalate_split (x ∷ t) = rw (among_one c x) (by (eqb x (code c)) refl (parts t) (split_some t) (intercalate_split t))
    where
      by : (b : Bool) → eqb x (code c) ≡ b → (ws : List (List ℕ)) → 0 < length ws → intercalate (code c ∷ []) ws ≡ t
          → intercalate (code c ∷ []) (when b then [] ∷ ws else cons_head x ws) ≡ x ∷ t
      by b e [] h ih = absurd (omega arith)
      by true e (w ∷ ws) h ih = rw (eqb-true x (code c) e) (ap (λ (l : List ℕ). code c ∷ l) ih)
      by false e (w ∷ []) h ih = ap (λ (l : List ℕ). x ∷ l) ih
      by false e (w ∷ v ∷ ws) h ih = ap (λ (l : List ℕ). x ∷ l) ih
