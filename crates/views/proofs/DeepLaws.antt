-- Laws of the notes of any number of tables: the loop that marks the tables that name a marked one, and the one over the depths.
-- Assumes nothing.
use Rattle.std.specs.Prelude.{None, Option, Some}
use Prim.Native.Nat.{ℕ, zero, suc, ◌+◌, ◌-◌, ◌/◌, ◌%◌, ◌≤◌, ◌<◌}
use native.Mathlib.Nat.{mod-lt}
use native.Mathlib.Omega.{arith}
use native.Mathlib.Numerals.{add-one}
use mathlib.Core.Bool.{Bool, true, false, ◌&&◌, ◌||◌, and-false, or-false}
use mathlib.Core.List.{List, [], ◌∷◌}
use mathlib.Core.Path.{◌≡◌, refl, sym, ap, ap₂, ◌∙◌}
use lib.Dec.{eqb, ltb}
use lib.ListN.{length, drop, get_or, set, replicate, get_or-replicate, length-set, get_or-eq_default}
use lib.Seq.{get_or-drop, get_or-set_same, get_or-set_other}
use borrow.Author.Tests.{eqb-true, eqb-false, ltb-true, ltb-false, lt-ltb, le-ltb, eq-eqb, ne_eqb}
use Rattle.text.specs.Basics.{when◌then◌else◌, ◌>>=◌, holds, any}
use Rattle.text.specs.Text.{equal_fold}
use Rattle.tables.specs.Table.{Table, table_name, read_table}
use Rattle.tables.specs.Code.{table_count, entries, tables_in, followed, entry_span, entry_table, after_entry, place_named, words}
use Rattle.tables.specs.declared.entry.EntrySpan.{EntrySpan}
use Rattle.tables.proofs.EntryLaws.{none_some, some_same, table_count_none, table_count_some}
use Rattle.tables.proofs.EntryLaws.{Reached, reached_start, reached_cut, reached_end, reached_here, reached_more, count_all}
use Rattle.views.specs.View.{bit_at, Marks, no_table, table_at, is_deep, name_leads, word_leads, text_leads, past_at, Above, Deep}
use Rattle.views.proofs.BitLaws.{bit_none, bit_ones, next_bit}

-- the same of each, the same of all
pub any_same : {A : Type 0} (p q : A → Bool) → ((x : A) → p x ≡ q x) → (l : List A) → any p l ≡ any q l
unfolding any
any_same p q e [] = refl
any_same p q e (x ∷ l) = ap₂ ◌||◌ (e x) (any_same p q e l)

-- ## The table that the loop is at

module _ (t : List ℕ) (n : ℕ) (rest : List ℕ) (i : ℕ) (h : Reached t n rest i) (more : i < n) (span : EntrySpan) (is-span : span ≡ entry_span rest)
    (whole : span.cut ≡ false) where
  pub table_here : table_at (tables_in t) i ≡ entry_table rest
  table_here =
      let z : i + 0 ≡ i = omega arith in
      ap (λ (k : ℕ). get_or (tables_in t) k no_table) (sym z) ∙ sym (get_or-drop i (tables_in t) 0 no_table)
      ∙ ap (λ (l : List Table). get_or l 0 no_table) (reached_here t n rest i h more span is-span whole)

  pub place_here : i < length (tables_in t)
  place_here = omega (arith, (reached_more t n rest i h more span is-span whole (after_entry rest) refl).passed)

-- ## A note set

same_rest : (m i : ℕ) → m / 64 ≡ i / 64 → eqb (m % 64) (i % 64) ≡ eqb m i
same_rest m i q = by (eqb m i) refl
  where
    by : (b : Bool) → eqb m i ≡ b → eqb (m % 64) (i % 64) ≡ b
    by true e = eq-eqb (m % 64) (i % 64) (ap (λ (x : ℕ). x % 64) (eqb-true m i e))
    by false e = ne_eqb (m % 64) (i % 64) (λ z. eqb-false m i e (omega arith))

module _ (notes : List ℕ) (i k r : ℕ) (on : Bool) (is-k : k ≡ i / 64 + 2) (room : k < length notes)
    (is-r : Marks r 64 (λ j. bit_at j (get_or notes k 0) || on && eqb j (i % 64))) where
  pub deep_set : (m : ℕ) → is_deep (set notes k r) m ≡ (is_deep notes m || on && eqb m i)
  unfolding is_deep Marks
  deep_set m = by (eqb (m / 64) (i / 64)) refl
    where
      by : (b : Bool) → eqb (m / 64) (i / 64) ≡ b
          → bit_at (m % 64) (get_or (set notes k r) (2 + m / 64) 0) ≡ (bit_at (m % 64) (get_or notes (2 + m / 64) 0) || on && eqb m i)
      by true e =
          let q : m / 64 ≡ i / 64 = eqb-true (m / 64) (i / 64) e in
          let p : 2 + m / 64 ≡ k = omega arith in
          let s : eqb (m % 64) (i % 64) ≡ eqb m i = same_rest m i q in
          rw (p, get_or-set_same notes k r 0 room) (is-r (m % 64) (mod-lt m (omega arith)) ∙ rw s)
      by false e =
          let q : m / 64 ≡ i / 64 → ⊥ = eqb-false (m / 64) (i / 64) e in
          let s : eqb m i ≡ false = ne_eqb m i (λ z. q (ap (λ (x : ℕ). x / 64) z)) in
          rw (get_or-set_other notes k (2 + m / 64) r 0 (λ z. q (omega arith)), s, and-false on) (sym (or-false (bit_at (m % 64) (get_or notes (2 + m / 64) 0))))

-- ## The loop over the tables

-- a count of two bytes
pub count_few : (t : List ℕ) → get_or t 0 0 < 256 → get_or t 1 0 < 256 → table_count t < 65536
count_few t h k = by (ltb (length t) 2) refl
  where
    by : (b : Bool) → ltb (length t) 2 ≡ b → table_count t < 65536
    by true e = omega (arith, table_count_none t (ltb-true (length t) 2 e))
    by false e = omega (arith, table_count_some t (ltb-false (length t) 2 e))

pub record Raised (t : List ℕ) (p : ℕ → Bool) (n : ℕ) (rest notes : List ℕ) (i : ℕ) : Type 0 where
  pub so_far : Reached t n rest i
  pub few : n < 65536
  pub long : length notes ≡ 1026
  pub marked : (k : ℕ) → is_deep notes k ≡ (ltb k i && text_leads (tables_in t) p (table_at (tables_in t) k).text)

-- notes without a bit
abbrev blank : List ℕ
blank = replicate 1026 0

none_deep : (k : ℕ) → is_deep blank k ≡ false
unfolding is_deep
none_deep k = ap (bit_at (k % 64)) (by (ltb (2 + k / 64) 1026) refl) ∙ bit_none (k % 64)
  where
    by : (b : Bool) → ltb (2 + k / 64) 1026 ≡ b → get_or blank (2 + k / 64) 0 ≡ 0
    by true e = get_or-replicate 1026 (2 + k / 64) 0 0 (ltb-true (2 + k / 64) 1026 e)
    by false e = let h : length blank ≤ 2 + k / 64 = ltb-false (2 + k / 64) 1026 e in get_or-eq_default blank 0 h

pub raised_start : (t : List ℕ) (p : ℕ → Bool) (n : ℕ) → n ≡ table_count t → get_or t 0 0 < 256 → get_or t 1 0 < 256 → (rest : List ℕ) → rest ≡ drop 2 t
    → Raised t p n rest blank 0
raised_start t p n is-n h l rest is-rest = record {
  so_far = reached_start t n is-n rest is-rest;
  few = omega (arith, count_few t h l);
  long = refl;
  marked = λ k. none_deep k ∙ sym (rw (le-ltb k 0 (omega arith)));
}

module _ (t : List ℕ) (p : ℕ → Bool) (n : ℕ) (rest notes : List ℕ) (i : ℕ) (h : Raised t p n rest notes i) where
  raised_all : drop i (tables_in t) ≡ [] → Above (tables_in t) p (is_deep notes)
  unfolding Above
  raised_all e k l =
      let z : i ≡ length (tables_in t) = count_all t n rest i h.so_far e in
      h.marked k ∙ rw (lt-ltb k i (omega arith))

  pub raised_end : n ≤ i → Above (tables_in t) p (is_deep notes)
  raised_end l = raised_all (reached_end t n rest i h.so_far l)

  module _ (more : i < n) (span : EntrySpan) (is-span : span ≡ entry_span rest) where
    pub raised_cut : span.cut ≡ true → Above (tables_in t) p (is_deep notes)
    raised_cut e = raised_all (reached_cut t n rest i h.so_far more span is-span e)

    pub raised_place : i / 64 + 2 < 1026
    raised_place = omega (arith, h.few)

    raised_room : (k : ℕ) → k ≡ i / 64 + 2 → k < length notes
    raised_room k e = omega (arith, raised_place, h.long)

    module _ (whole : span.cut ≡ false) (text : List ℕ) (is-text : text ≡ (entry_table rest).text) (on : Bool) (is-on : on ≡ text_leads (tables_in t) p text)
        (k : ℕ) (is-k : k ≡ i / 64 + 2) (r : ℕ) (is-r : Marks r 64 (λ j. bit_at j (get_or notes k 0) || on && eqb j (i % 64))) where
      pub raised_more : (next : List ℕ) → next ≡ after_entry rest → Raised t p n next (set notes k r) (i + 1)
      raised_more next is-next = record {
        so_far = reached_more t n rest i h.so_far more span is-span whole next is-next;
        few = h.few;
        long = length-set notes k r ∙ h.long;
        marked = λ m.
            deep_set notes i k r on is-k (raised_room k is-k) is-r m ∙ ap (λ (b : Bool). b || on && eqb m i) (h.marked m)
            ∙ next_bit m i false (text_leads (tables_in t) p (table_at (tables_in t) m).text) on
            (λ e. ap (λ (j : ℕ). text_leads (tables_in t) p (table_at (tables_in t) j).text) e
            ∙ ap (λ (x : Table). text_leads (tables_in t) p x.text) (table_here t n rest i h.so_far more span is-span whole)
            ∙ sym (is-on ∙ ap (text_leads (tables_in t) p) is-text));
      }

-- ## The recursion over the depth

-- a name's place is that of a table
pub place_below : (ts : List Table) (n : List ℕ) (i : ℕ) → place_named ts n ≡ Some i → i < length ts
unfolding place_named
place_below [] n i e = let z : ◌≡◌ {A = ℕ} 0 1 = cc in absurd (omega arith)
place_below (t ∷ ts) n i e = by (equal_fold n t.name) (place_named ts n) refl (place_below ts n) e
  where
    by : (b : Bool) (o : Option ℕ) → place_named ts n ≡ o → ((k : ℕ) → place_named ts n ≡ Some k → k < length ts)
        → (when b then Some 0 else (o >>= λ k. Some (suc k))) ≡ Some i → i < suc (length ts)
    by true o f ih e = let z : 0 ≡ i = some_same 0 i e in omega arith
    by false None f ih e = absurd (none_some e)
    by false (Some k) f ih e = let z : suc k ≡ i = some_same (suc k) i e in omega (arith, ih k f)

module _ (ts : List Table) (p q : ℕ → Bool) (same : (i : ℕ) → i < length ts → p i ≡ q i) where
  name_same : (n : List ℕ) → name_leads ts p n ≡ name_leads ts q n
  unfolding name_leads
  name_same n = by (place_named ts n) refl
    where
      by : (o : Option ℕ) → place_named ts n ≡ o → holds p o ≡ holds q o
      by None e = refl
      by (Some i) e = same i (place_below ts n i e)

  word_same : (w : List ℕ) → word_leads ts p w ≡ word_leads ts q w
  unfolding word_leads
  word_same w = by (table_name w)
    where
      by : (o : Option (List ℕ)) → holds (name_leads ts p) o ≡ holds (name_leads ts q) o
      by None = refl
      by (Some n) = name_same n

  pub text_same : (t : List ℕ) → text_leads ts p t ≡ text_leads ts q t
  unfolding text_leads
  text_same t = any_same (word_leads ts p) (word_leads ts q) word_same (words t)

entries_few : (k : ℕ) (t : List ℕ) → length (entries k t) ≤ k
unfolding entries
entries_few zero t = omega arith
entries_few (suc k) t = by (read_table t) (entries_few k)
  where
    by : (o : Option (Table × List ℕ)) → ((u : List ℕ) → length (entries k u) ≤ k) → length (followed (entries k) o) ≤ suc k
    by None ih = omega arith
    by (Some x) ih = omega (arith, ih x.1)

module _ (t : List ℕ) where
  tables_few : get_or t 0 0 < 256 → get_or t 1 0 < 256 → length (tables_in t) < 65536
  unfolding tables_in
  tables_few h k = omega (arith, count_few t h k, entries_few (table_count t) (drop 2 t))

  -- the notes are those of a depth, up to the one that is asked for
  pub Deepening : ℕ → List ℕ → ℕ → Type 0
  Deepening depth notes d = (d ≤ depth) × Deep (tables_in t) d notes

  pub deepening_start : get_or t 0 0 < 256 → get_or t 1 0 < 256 → (depth : ℕ) → Deepening depth (replicate 1026 18446744073709551615) 0
  unfolding Deepening Deep past_at is_deep
  deepening_start h k depth =
      let few : length (tables_in t) < 65536 = tables_few h k in (
        omega arith,
        λ i l.
            ap (bit_at (i % 64)) (get_or-replicate 1026 (2 + i / 64) 18446744073709551615 0 (omega arith)) ∙ bit_ones (i % 64) (mod-lt i (omega arith)),
      )

  pub deepening_more : (depth d : ℕ) (below r : List ℕ) → Deepening depth below d → d < depth → Above (tables_in t) (is_deep below) (is_deep r)
      → Deepening depth r (d + 1)
  unfolding Deepening Deep Above past_at
  deepening_more depth d below r held l is-r = (
    omega arith,
    λ i k.
        is-r i k ∙ text_same (tables_in t) (is_deep below) (past_at (tables_in t) d) held.1 (table_at (tables_in t) i).text
        ∙ ap (λ (n : ℕ). past_at (tables_in t) n i) (sym (add-one d)),
  )

  pub deepening_end : (depth d : ℕ) (notes : List ℕ) → Deepening depth notes d → depth ≤ d → Deep (tables_in t) depth notes
  unfolding Deepening
  deepening_end depth d notes held l =
      let e : d ≡ depth = omega (arith, held.0) in
      rw (← e) held.1
