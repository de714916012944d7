-- Salvaged portacl texts: they are sound, and a sound text stays as it is.
-- Assumes nothing.
use Rattle.std.specs.Prelude.{None, Option, Some}
use Prim.Native.Nat.{ℕ, ◌+◌, ◌<◌}
use mathlib.Core.Bool.{Bool, true, false, not, ◌&&◌, true≢false}
use mathlib.Core.List.{List, [], ◌∷◌, map}
use mathlib.Core.Path.{◌≡◌, refl, sym, ap, ◌∙◌}
use native.Mathlib.Omega.{arith}
use lib.ListN.{length}
use Rattle.text.specs.Basics.{when◌then◌else◌, is_some, is_empty, all}
use Rattle.text.specs.Text.{bytes, split_once, split, intercalate}
use Rattle.text.proofs.BasicLaws.{and_true}
use Rattle.text.proofs.Intercalate.{free, is_field_free, is_empty_intercalate, split_intercalate}
use Rattle.byuid.proofs.SplitLaws.{split_all_free, intercalate_split}
use Rattle.section.specs.declared.Refusal.{Refusal}
use Rattle.portacl.specs.Portacl.{Bind, read_entry, entries, entry_fault, portacl_fault}
use Rattle.salvage.specs.Salvage.{keep, places, good_entry, salvage_portacl, bad_entries}

-- ## What is kept

module _ {A : Type 0} (p : A → Bool) where
  keep_all : (q : A → Bool) (l : List A) → all q l ≡ true → all q (keep p l) ≡ true
  unfolding keep all
  keep_all q [] e = refl
  keep_all q (x ∷ l) e = by (p x) (keep_all q l (and_true (q x) (all q l) e).1)
    where
      by : (b : Bool) → all q (keep p l) ≡ true → all q (when b then x ∷ keep p l else keep p l) ≡ true
      by true ih = rw (and_true (q x) (all q l) e).0 ih
      by false ih = ih

  keep_passes : (l : List A) → all p (keep p l) ≡ true
  unfolding keep all
  keep_passes [] = refl
  keep_passes (x ∷ l) = by (p x) refl (keep_passes l)
    where
      by : (b : Bool) → p x ≡ b → all p (keep p l) ≡ true → all p (when b then x ∷ keep p l else keep p l) ≡ true
      by true e ih = rw e ih
      by false e ih = ih

  keep_same : (l : List A) → all p l ≡ true → keep p l ≡ l
  unfolding keep all
  keep_same [] e = refl
  keep_same (x ∷ l) e = let a = and_true (p x) (all p l) e in rw a.0 (ap (λ (m : List A). x ∷ m) (keep_same l a.1))

  places_none : (n : ℕ) (l : List A) → all p l ≡ true → places (λ x. not (p x)) n l ≡ []
  unfolding places all
  places_none n [] e = refl
  places_none n (x ∷ l) e = let a = and_true (p x) (all p l) e in rw a.0 (places_none (n + 1) l a.1)

-- ## Entries

good_some : (e : List ℕ) → good_entry e ≡ true → 0 < length e
unfolding read_entry split_once
good_some [] h = absurd (true≢false (sym h))
good_some (x ∷ e) h = omega arith

all_good : (n : ℕ) (ws : List (List ℕ)) → all good_entry ws ≡ true → entry_fault n (map read_entry ws) ≡ None
unfolding entry_fault all
all_good n [] e = refl
all_good n (w ∷ ws) e = by (read_entry w) (and_true (good_entry w) (all good_entry ws) e).0 (λ m. all_good m ws (and_true (good_entry w) (all good_entry ws) e).1)
  where
    by : (o : Option (Bind → Bool)) → is_some o ≡ true → ((m : ℕ) → entry_fault m (map read_entry ws) ≡ None) → entry_fault n (o ∷ map read_entry ws) ≡ None
    by None h ih = absurd (true≢false (sym h))
    by (Some g) h ih = ih (n + 1)

good_all : (n : ℕ) (ws : List (List ℕ)) → entry_fault n (map read_entry ws) ≡ None → all good_entry ws ≡ true
unfolding entry_fault all
good_all n [] e = refl
good_all n (w ∷ ws) e = by (read_entry w) refl e (λ h. good_all (n + 1) ws h)
  where
    by : (o : Option (Bind → Bool)) → read_entry w ≡ o → entry_fault n (o ∷ map read_entry ws) ≡ None
        → (entry_fault (n + 1) (map read_entry ws) ≡ None → all good_entry ws ≡ true) → (is_some (read_entry w) && all good_entry ws) ≡ true
    by None q h ih = let z : ◌≡◌ {A = ℕ} 0 1 = cc in absurd (omega arith)
    by (Some g) q h ih = rw q (ih h)

-- ## The text

nothing : portacl_fault (intercalate (bytes ",") []) ≡ None
unfolding portacl_fault entries entry_fault intercalate
nothing = refl

pub empty_same : salvage_portacl [] ≡ []
unfolding salvage_portacl keep split intercalate read_entry split_once
empty_same = refl

joined_full : (w : List ℕ) (ws : List (List ℕ)) → all good_entry (w ∷ ws) ≡ true → all (free 44) (w ∷ ws) ≡ true → is_empty (intercalate (bytes ",")
    (w ∷ ws)) ≡ false
unfolding all
joined_full w ws g f =
    is_empty_intercalate 44 (bytes ",") w ws
    (is_field_free 44 w (good_some w (and_true (good_entry w) (all good_entry ws) g).0) (and_true (free 44 w) (all (free 44) ws) f).0)

joined_sound : (ws : List (List ℕ)) → all good_entry ws ≡ true → all (free 44) ws ≡ true → portacl_fault (intercalate (bytes ",") ws) ≡ None
unfolding portacl_fault entries entry_fault
joined_sound [] g f = nothing
joined_sound (w ∷ ws) g f = rw (joined_full w ws g f, split_intercalate "," (w ∷ ws) (omega arith) f) (all_good 1 (w ∷ ws) g)

pub salvage_portacl_sound : (t : List ℕ) → portacl_fault (salvage_portacl t) ≡ None
unfolding salvage_portacl
salvage_portacl_sound t = joined_sound (keep good_entry (split "," t)) (keep_passes good_entry (split "," t)) (keep_all good_entry (free 44) (split "," t)
    (split_all_free "," t))

pub salvage_portacl_same : (t : List ℕ) → portacl_fault t ≡ None → (salvage_portacl t ≡ t) × (bad_entries t ≡ [])
unfolding salvage_portacl portacl_fault entries
salvage_portacl_same [] e = (empty_same, refl)
salvage_portacl_same (x ∷ t) e =
    let g : all good_entry (split "," (x ∷ t)) ≡ true = good_all 1 (split "," (x ∷ t)) e in
    (rw (keep_same good_entry (split "," (x ∷ t)) g) (intercalate_split "," (x ∷ t)), places_none good_entry 1 (split "," (x ∷ t)) g)
