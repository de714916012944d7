-- Laws of the walk over the entries of a text.
-- Assumes nothing.
use Rattle.std.specs.Prelude.{Err, None, Ok, Option, Some}
use Prim.Native.Nat.{ℕ, ◌+◌, ◌-◌, ◌<◌, ◌≤◌}
use mathlib.Core.Bool.{Bool, true, false, ◌||◌}
use mathlib.Core.List.{List, [], ◌∷◌, map}
use mathlib.Core.Path.{◌≡◌, refl, sym, ◌∙◌}
use native.Mathlib.Omega.{arith}
use borrow.Author.Tests.{le-leb, lt-leb, leb-true, leb-false}
use lib.Dec.{leb}
use lib.ListN.{length, take, drop, length-drop}
use lib.Seq.{take_all, drop-drop}
use Rattle.text.specs.Basics.{when◌then◌else◌}
use Rattle.text.specs.Text.{split}
use Rattle.text.specs.Scan.{index_of}
use Rattle.text.proofs.ScanLaws.{take_rest, split_mark, split_no_mark}
use Rattle.portacl.specs.declared.Entry.{Entry}
use Rattle.portacl.specs.Portacl.{Bind}
use Rattle.portacl.specs.Code.{entry_data, grants_to, entries_data, walk}

-- the entries from a place on: past the end there is none
unfoldable pub entries_from : ℕ → List ℕ → List (Option Entry)
entries_from at t = when leb at (length t) then map entry_data (split "," (drop at t)) else []

-- the next entry, up to the comma at i of the rest
pub next : (t : List ℕ) (at i : ℕ) → at ≤ length t → i ≡ index_of 44 (drop at t) → entries_from at t ≡ entry_data (take i (drop at t)) ∷ entries_from (at + i + 1) t
unfolding entries_from
next t at i h e = by (leb (at + i + 1) (length t)) refl
  where
    by : (b : Bool) → leb (at + i + 1) (length t) ≡ b → entries_from at t ≡ entry_data (take i (drop at t)) ∷ entries_from (at + i + 1) t
    by true f =
        let k : at + i + 1 ≤ length t = leb-true (at + i + 1) (length t) f in
        let q : at + (i + 1) ≡ at + i + 1 = omega arith in
        rw (le-leb at (length t) h, f, split_mark "," 44 refl (drop at t) i e (rw (length-drop at t) (omega arith)), drop-drop (i + 1) at t, q)
    by false f =
        let k : length t < at + i + 1 = leb-false (at + i + 1) (length t) f in
        let l : length (drop at t) ≤ i = rw (length-drop at t) (omega arith) in
        rw (le-leb at (length t) h, f, split_no_mark "," 44 refl (drop at t) i e l, take_all i (drop at t) l)

-- at the place at: n is the next entry's number, and g says whether one so far grants b
pub record Walking (t : List ℕ) (b : Bind) (g : Bool) (n at : ℕ) : Type 0 where
  pub within : at ≤ length t + 1
  pub numbered : n ≤ at + 1
  pub so_far : walk b 1 false (entries_data t) ≡ walk b n g (entries_from at t)

pub walk_empty : (t : List ℕ) (b : Bind) → length t ≡ 0 → Ok false ≡ walk b 1 false (entries_data t)
unfolding walk entries_data
walk_empty [] b e = refl
walk_empty (x ∷ t) b e = absurd (omega arith)

pub walking_start : (t : List ℕ) (b : Bind) → (length t ≡ 0 → ⊥) → Walking t b false 1 0
unfolding entries_data entries_from
walking_start [] b n = absurd (n refl)
walking_start (x ∷ t) b n = record { within = omega arith; numbered = omega arith; so_far = rw (le-leb 0 (length (x ∷ t)) (omega arith)) }

module _ (t : List ℕ) (b : Bind) (g : Bool) (n at : ℕ) (w : Walking t b g n at) where
  pub walking_end : length t < at → Ok g ≡ walk b 1 false (entries_data t)
  unfolding walk entries_from
  walking_end h = sym (w.so_far ∙ rw (lt-leb at (length t) h))

  module _ (h : at ≤ length t) (i : ℕ) (is-i : i ≡ index_of 44 (take (length t - at) (drop at t))) (l : i ≤ length (take (length t - at) (drop at t)))
      (r : Option Entry) (is-r : r ≡ entry_data (take (at + i - at) (drop at t))) where
    more : walk b 1 false (entries_data t) ≡ walk b n g (entry_data (take (at + i - at) (drop at t)) ∷ entries_from (at + i + 1) t)
    more =
        let q : at + i - at ≡ i = omega arith in
        w.so_far ∙ rw (q, next t at i h (rw (take_rest t at) at is-i))

    pub walking_bad : r ≡ None → Err n ≡ walk b 1 false (entries_data t)
    unfolding walk
    walking_bad e = sym (more ∙ rw (sym is-r ∙ e))

    pub walking_on : (x : Entry) → r ≡ Some x → (y : Bool) → y ≡ grants_to x b → Walking t b (g || y) (n + 1) (at + i + 1)
    unfolding walk
    walking_on x e y is_y = record {
      within = let k : i ≤ length t - at = rw (take_rest t at, length-drop at t) at l in omega arith;
      numbered = let k = w.numbered in omega arith;
      so_far = more ∙ rw (sym is-r ∙ e, is_y);
    }
