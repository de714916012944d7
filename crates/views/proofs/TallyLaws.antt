-- Laws of tallies: what is tried of a text, word after word.
--   Tallying, Both == the loop over the words, for one host and for both
--   Raising        == the loop over the tables
-- Assumes nothing.
use Rattle.std.specs.Prelude.{None, Option, Some}
use Prim.Native.Nat.{ℕ, zero, suc, ◌+◌, ◌-◌, ◌*◌, ◌^◌, ◌≤◌, ◌<◌}
use native.Mathlib.Omega.{arith}
use mathlib.Core.Bool.{Bool, true, false, ◌&&◌}
use mathlib.Core.List.{List, [], ◌∷◌}
use mathlib.Core.Path.{◌≡◌, refl, sym, ap, ap₂, subst, ◌∙◌}
use lib.Dec.{eqb}
use lib.ListN.{length, take, drop, get_or, set, replicate, length-set}
use lib.Seq.{get_or-set_same, get_or-set_other}
use borrow.Author.Tests.{eqb-true, eqb-false, eq-eqb, ne_eqb}
use Rattle.text.specs.Basics.{when◌then◌else◌, ◌>>=◌, is_some, holds}
use Rattle.text.proofs.BasicLaws.{and_true as and_both}
use Rattle.tables.specs.Table.{Table, table_name}
use Rattle.tables.specs.Tried.{capped}
use Rattle.tables.specs.Code.{table_count, tables_in, entry_span, entry_table, after_entry, place_named, words, first_word, after_word}
use Rattle.tables.specs.declared.entry.EntrySpan.{EntrySpan}
use Rattle.tables.proofs.EntryLaws.{Reached, reached_start, reached_cut, reached_end, reached_more, count_all}
use Rattle.tables.proofs.WordLaws.{words_none, words_more}
use Rattle.views.specs.declared.level.Tally.{Tally}
use Rattle.views.specs.declared.level.Counts.{Counts}
use Rattle.views.specs.View.{bit_at, table_at, marked_at, counted_at, placed_count}
use Rattle.views.specs.Level.{word_place, sum_within, marked_by, counted_by, text_tried, tallied, tried_above, AllAbove, counts}
use Rattle.views.proofs.NoteLaws.{named_word, unnamed_word}
use Rattle.views.proofs.DeepLaws.{table_here, place_here}
use Rattle.views.proofs.CountLaws.{capped_lt, capped_small, capped_then, within_none}

-- ## The place that a word names

module _ (ts : List Table) (w : List ℕ) (x : Bool) (is_x : x ≡ is_some (table_name w)) where
  pub placed_none : x ≡ false → None ≡ word_place ts w
  unfolding word_place
  placed_none e = sym (rw (unnamed_word w x is_x e))

  pub placed_named : x ≡ true → (p : Option ℕ) → p ≡ place_named ts (take (length w - 1) (drop 1 w)) → p ≡ word_place ts w
  unfolding word_place
  placed_named e p is-p = is-p ∙ sym (rw (named_word w x is_x e))

-- ## One word

abbrev tally : ℕ → ℕ → Tally
tally l n = record { left = l; tried = n }

module _ (m : Bool) (c : ℕ) (t : Tally) where
  pub tally_ended : t.left ≡ 0 → t ≡ tallied m c t
  unfolding tallied
  tally_ended e = sym (rw (eq-eqb t.left 0 e))

  module _ (more : t.left ≡ 0 → ⊥) (x : ℕ) (is_x : x ≡ capped (1 + c)) (y : ℕ) (is_y : y ≡ capped (t.tried + x)) where
    sum_is : y ≡ capped (t.tried + capped (1 + c))
    sum_is = is_y ∙ ap (λ (z : ℕ). capped (t.tried + z)) is_x

    pub tally_match : m ≡ true → tally 0 y ≡ tallied m c t
    unfolding tallied
    tally_match e = ap (tally 0) sum_is ∙ sym (rw (ne_eqb t.left 0 more, e))

    pub tally_miss : m ≡ false → tally (t.left - 1) y ≡ tallied m c t
    unfolding tallied
    tally_miss e = ap (tally (t.left - 1)) sum_is ∙ sym (rw (ne_eqb t.left 0 more, e))

module _ (k : ℕ) (notes : List ℕ) (p : Option ℕ) (t r : Tally) where
  pub tally_nowhere : p ≡ None → r ≡ tallied false 0 t → r ≡ tallied (marked_by k notes p) (counted_by k notes p) t
  tally_nowhere e is-r = is-r ∙ sym (ap (λ (q : Option ℕ). tallied (marked_by k notes q) (counted_by k notes q) t) e)

  pub tally_there : (i : ℕ) → p ≡ Some i → (x : Bool) → x ≡ marked_at k notes i → (y : ℕ) → y ≡ counted_at k notes i → r ≡ tallied x y t
      → r ≡ tallied (marked_by k notes p) (counted_by k notes p) t
  tally_there i e x is_x y is_y is-r =
      is-r ∙ ap₂ (λ (b : Bool) (n : ℕ). tallied b n t) is_x is_y ∙ sym (ap (λ (q : Option ℕ). tallied (marked_by k notes q) (counted_by k notes q) t) e)

-- ## The loop over the words

module _ (k : ℕ) (ts : List Table) (notes : List ℕ) where
  abbrev ends : List ℕ → Bool
  ends w = holds (marked_at k notes) (word_place ts w)

  abbrev tries : List ℕ → ℕ
  tries w = 1 + placed_count k notes (word_place ts w)

-- for one host, at rest
pub record Tallying (k : ℕ) (ts : List Table) (notes : List ℕ) (n : ℕ) (text : List ℕ) (t : Tally) (rest : List ℕ) : Type 0 where
  pub fits : t.tried < 2 ^ 64
  pub sums : text_tried k ts notes n (words text) ≡ capped (t.tried + sum_within t.left (ends k ts notes) (tries k ts notes) (words rest))

tallying_start : (k : ℕ) (ts : List Table) (notes : List ℕ) (n : ℕ) (text : List ℕ) → Tallying k ts notes n text (tally n 0) text
unfolding text_tried
tallying_start k ts notes n text = record { fits = omega arith; sums = ap capped (none_yet (sum_within n (ends k ts notes) (tries k ts notes) (words text))) }
  where
    none_yet : (m : ℕ) → m ≡ 0 + m
    none_yet m = omega arith

module _ (k : ℕ) (ts : List Table) (notes : List ℕ) (n : ℕ) (text : List ℕ) (t : Tally) (rest : List ℕ) (so_far : Tallying k ts notes n text t rest) where
  tallying_all : sum_within t.left (ends k ts notes) (tries k ts notes) (words rest) ≡ 0 → t.tried ≡ text_tried k ts notes n (words text)
  tallying_all e =
      let z : t.tried + 0 ≡ t.tried = omega arith in
      sym (so_far.sums ∙ ap (λ (m : ℕ). capped (t.tried + m)) e ∙ ap capped z ∙ capped_small t.tried so_far.fits)

  tallying_end : words rest ≡ [] → t.tried ≡ text_tried k ts notes n (words text)
  tallying_end e = tallying_all (rw e (within_none t.left (ends k ts notes) (tries k ts notes)))

  tallying_done : t.left ≡ 0 → t.tried ≡ text_tried k ts notes n (words text)
  unfolding sum_within
  tallying_done e = tallying_all (rw e)

  module _ (w next : List ℕ) (more : words rest ≡ w ∷ words next) (p : Option ℕ) (is-p : p ≡ (word_place ts w)) (r : Tally)
      (is-r : r ≡ tallied (marked_by k notes p) (counted_by k notes p) t) where
    told : r ≡ tallied (ends k ts notes w) (placed_count k notes (word_place ts w)) t
    told = is-r ∙ ap (λ (q : Option ℕ). tallied (marked_by k notes q) (counted_by k notes q) t) is-p ∙ by (word_place ts w)
      where
        by : (o : Option ℕ)
            → tallied (marked_by k notes (o)) (counted_by k notes (o)) t ≡ tallied (holds (marked_at k notes) o) (placed_count k notes o) t
        by None = refl
        by (Some i) = refl

    tallying_more : Tallying k ts notes n text r next
    unfolding tallied sum_within
    tallying_more = by t.left refl
      where
        left_over : ℕ → ℕ
        left_over m = sum_within m (ends k ts notes) (tries k ts notes) (words next)

        on : (m : ℕ) (b : Bool) (c : ℕ) → text_tried k ts notes n (words text) ≡ capped (t.tried + ((1 + c) + (when b then 0 else left_over m)))
            → text_tried k ts notes n (words text) ≡ capped (capped (t.tried + capped (1 + c)) + left_over (when b then 0 else m))
        on m true c e = e ∙ sym (capped_then t.tried (1 + c) 0)
        on m false c e = e ∙ sym (capped_then t.tried (1 + c) (left_over m))

        by : (l : ℕ) → t.left ≡ l → Tallying k ts notes n text r next
        by zero e =
            let q : r ≡ t = told ∙ rw (eq-eqb t.left 0 e) in
            record {
              fits = rw q so_far.fits;
              sums = so_far.sums ∙ rw (q, e);
            }
        by (suc m) e =
            let f : t.left ≡ 0 → ⊥ = λ z. omega arith in
            let y : t.left - 1 ≡ m = omega arith in
            let q : r ≡ tally (when ends k ts notes w then 0 else m) (capped (t.tried + capped (1 + placed_count k notes (word_place ts w)))) =
            told ∙ rw (ne_eqb t.left 0 f, y) in
            record {
              fits = rw q (capped_lt (t.tried + capped (1 + placed_count k notes (word_place ts w))));
              sums = on m (ends k ts notes w) (placed_count k notes (word_place ts w)) (so_far.sums ∙ rw (more, e))
                  ∙ sym (ap (λ (z : Tally). capped (z.tried + left_over z.left)) q);
            }

-- for both hosts
pub record Both (ts : List Table) (notes : List ℕ) (client server : ℕ) (text : List ℕ) (c s : Tally) (rest : List ℕ) : Type 0 where
  pub both_client : Tallying 0 ts notes client text c rest
  pub both_server : Tallying 1 ts notes server text s rest

pub both_start : (ts : List Table) (notes : List ℕ) (client server : ℕ) (text : List ℕ)
    → Both ts notes client server text (tally client 0) (tally server 0) text
both_start ts notes client server text = record {
  both_client = tallying_start 0 ts notes client text;
  both_server = tallying_start 1 ts notes server text;
}

module _ (ts : List Table) (notes : List ℕ) (client server : ℕ) (text : List ℕ) (c s : Tally) (rest : List ℕ)
    (so_far : Both ts notes client server text c s rest) (w : List ℕ) (is-w : w ≡ first_word rest) where
  pub both_end : length w ≡ 0
      → counts c.tried s.tried ≡ counts (text_tried 0 ts notes client (words text)) (text_tried 1 ts notes server (words text))
  both_end z =
      let e : words rest ≡ [] = words_none rest w is-w z in
      ap₂ counts (tallying_end 0 ts notes client text c rest so_far.both_client e) (tallying_end 1 ts notes server text s rest so_far.both_server e)

  pub both_done : (x : Bool) → x ≡ (eqb c.left 0 && eqb s.left 0) → x ≡ true
      → counts c.tried s.tried ≡ counts (text_tried 0 ts notes client (words text)) (text_tried 1 ts notes server (words text))
  both_done x is_x e =
      let b : (eqb c.left 0 ≡ true) × (eqb s.left 0 ≡ true) = and_both (eqb c.left 0) (eqb s.left 0) (sym is_x ∙ e) in
      ap₂ counts (tallying_done 0 ts notes client text c rest so_far.both_client (eqb-true c.left 0 b.0))
      (tallying_done 1 ts notes server text s rest so_far.both_server (eqb-true s.left 0 b.1))

  pub both_more : (length w ≡ 0 → ⊥) → (p : Option ℕ) → p ≡ word_place ts w → (d : Tally) → d ≡ tallied (marked_by 0 notes p) (counted_by 0 notes p) c
      → (r : Tally) → r ≡ tallied (marked_by 1 notes p) (counted_by 1 notes p) s → (next : List ℕ) → next ≡ after_word rest
      → Both ts notes client server text d r next
  both_more full p is-p d is_d r is-r next is-next =
      let e : words rest ≡ w ∷ words next = words_more rest w next is-w full is-next in
      record {
        both_client = tallying_more 0 ts notes client text c rest so_far.both_client w next e p is-p d is_d;
        both_server = tallying_more 1 ts notes server text s rest so_far.both_server w next e p is-p r is-r;
      }

-- ## One table

module _ (ts : List Table) (first below : List ℕ) (i : ℕ) (text : List ℕ) (x : Bool) (is_x : x ≡ bit_at i (get_or below 2 0)) where
  pub above_on : x ≡ true → (r : Counts)
      → r ≡ counts (text_tried 0 ts below (get_or first (3 + i) 0) (words text)) (text_tried 1 ts below (get_or first (67 + i) 0) (words text))
      → r ≡ counts (tried_above 0 ts first below i text) (tried_above 1 ts first below i text)
  above_on e r is-r = is-r ∙ sym (rw (← is_x, e))

  pub above_off : x ≡ false
      → counts (get_or below (3 + i) 0) (get_or below (67 + i) 0) ≡ counts (tried_above 0 ts first below i text) (tried_above 1 ts first below i text)
  above_off e = sym (rw (← is_x, e))

-- ## All tables

-- notes with the counts of the table i
module _ (notes : List ℕ) (i x y : ℕ) (long : length notes ≡ 131) (l : i < 64) where
  abbrev counted : List ℕ
  counted = set (set notes (3 + i) x) (67 + i) y

  counted_long : length counted ≡ 131
  counted_long = length-set (set notes (3 + i) x) (67 + i) y ∙ length-set notes (3 + i) x ∙ long

  counted_client : get_or counted (3 + i) 0 ≡ x
  counted_client =
      get_or-set_other (set notes (3 + i) x) (67 + i) (3 + i) y 0 (λ e. omega arith) ∙ get_or-set_same notes (3 + i) x 0 (omega arith)

  counted_server : get_or counted (67 + i) 0 ≡ y
  counted_server = get_or-set_same (set notes (3 + i) x) (67 + i) y 0 (omega (arith, length-set notes (3 + i) x))

  counted_other : (m : ℕ) → (m ≡ 3 + i → ⊥) → (m ≡ 67 + i → ⊥) → get_or counted m 0 ≡ get_or notes m 0
  counted_other m n k = get_or-set_other (set notes (3 + i) x) (67 + i) m y 0 k ∙ get_or-set_other notes (3 + i) m x 0 n

-- the loop over the tables, at i
pub record Raising (t first below : List ℕ) (n : ℕ) (rest notes : List ℕ) (i : ℕ) : Type 0 where
  pub so_far : Reached t n rest i
  pub long : length notes ≡ 131
  pub few : length (tables_in t) ≤ 64
  pub raising : (k j : ℕ) → k < 2 → j < i → get_or notes (3 + 64 * k + j) 0 ≡ tried_above k (tables_in t) first below j (table_at (tables_in t) j).text

pub raising_start : (t first below : List ℕ) (n : ℕ) (rest : List ℕ) → length (tables_in t) ≤ 64 → n ≡ table_count t → rest ≡ drop 2 t
    → Raising t first below n rest (replicate 131 0) 0
raising_start t first below n rest h is-n is-rest = record {
  so_far = reached_start t n is-n rest is-rest;
  long = refl;
  few = h;
  raising = λ k j l m. absurd (omega arith);
}

module _ (t first below : List ℕ) (n : ℕ) (rest notes : List ℕ) (i : ℕ) (g : Raising t first below n rest notes i) where
  raising_all : drop i (tables_in t) ≡ [] → AllAbove (tables_in t) first below notes
  unfolding AllAbove
  raising_all e k j h l = let z : i ≡ length (tables_in t) = count_all t n rest i g.so_far e in g.raising k j h (omega arith)

  pub raising_end : n ≤ i → AllAbove (tables_in t) first below notes
  raising_end l = raising_all (reached_end t n rest i g.so_far l)

  module _ (more : i < n) (span : EntrySpan) (is-span : span ≡ entry_span rest) where
    pub raising_cut : span.cut ≡ true → AllAbove (tables_in t) first below notes
    raising_cut e = raising_all (reached_cut t n rest i g.so_far more span is-span e)

    module _ (whole : span.cut ≡ false) where
      pub raising_place : i < 64
      raising_place = omega (arith, g.few, place_here t n rest i g.so_far more span is-span whole)

      pub raising_client : 3 + i < 131
      raising_client = omega (arith, raising_place)

      pub raising_server : 67 + i < 131
      raising_server = omega (arith, raising_place)

      module _ (text : List ℕ) (is-text : text ≡ (entry_table rest).text) (x : Counts)
          (is_x : x ≡ counts (tried_above 0 (tables_in t) first below i text) (tried_above 1 (tables_in t) first below i text)) where
        text_here : text ≡ (table_at (tables_in t) i).text
        text_here = is-text ∙ sym (ap (λ (y : Table). y.text) (table_here t n rest i g.so_far more span is-span whole))

        abbrev made : List ℕ
        made = counted notes i x.client x.server g.long raising_place

        here : (k m : ℕ) → get_or made (3 + 64 * k + i) 0 ≡ tried_above k (tables_in t) first below i text → ((j : ℕ) → j < i
            → get_or made (3 + 64 * k + j) 0 ≡ get_or notes (3 + 64 * k + j) 0) → k < 2
            → m < i + 1 → get_or made (3 + 64 * k + m) 0 ≡ tried_above k (tables_in t) first below m (table_at (tables_in t) m).text
        here k m now kept h l = by (eqb m i) refl
          where
            by : (b : Bool) → eqb m i ≡ b → get_or made (3 + 64 * k + m) 0 ≡ tried_above k (tables_in t) first below m (table_at (tables_in t) m).text
            by true e =
                subst (λ (j : ℕ). get_or made (3 + 64 * k + j) 0 ≡ tried_above k (tables_in t) first below j (table_at (tables_in t) j).text) (sym (eqb-true m i e))
                (now ∙ ap (tried_above k (tables_in t) first below i) text_here)
            by false e =
                let n : m ≡ i → ⊥ = eqb-false m i e in
                let q : m < i = omega arith in
                kept m q ∙ g.raising k m h q

        all_here : (k m : ℕ) → k < 2 → m < i + 1 → get_or made (3 + 64 * k + m) 0 ≡ tried_above k (tables_in t) first below m (table_at (tables_in t) m).text
        all_here zero m h l =
            here 0 m (counted_client notes i x.client x.server g.long raising_place ∙ ap (λ (y : Counts). y.client) is_x)
            (λ j q. counted_other notes i x.client x.server g.long raising_place (3 + j) (λ e. omega arith) (λ e. omega (arith, raising_place))) h l
        all_here (suc zero) m h l =
            here 1 m (counted_server notes i x.client x.server g.long raising_place ∙ ap (λ (y : Counts). y.server) is_x)
            (λ j q. counted_other notes i x.client x.server g.long raising_place (67 + j) (λ e. omega (arith, raising_place)) (λ e. omega arith)) h l
        all_here (suc (suc k)) m h l = absurd (omega arith)

        pub raising_more : (next : List ℕ) → next ≡ after_entry rest
            → Raising t first below n next (set (set notes (3 + i) x.client) (67 + i) x.server) (i + 1)
        raising_more next is-next = record {
          so_far = reached_more t n rest i g.so_far more span is-span whole next is-next;
          long = counted_long notes i x.client x.server g.long raising_place;
          few = g.few;
          raising = all_here;
        }
