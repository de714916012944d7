-- Laws of the tables of a section five, entry by entry, shaped as the calls and tests of the code hand their facts over.
-- Assumes nothing.
use Rattle.std.specs.Prelude.{None, Option, Some, unwrap_or, Err, Ok, Result, ⊤}
use Prim.Native.Nat.{ℕ, zero, suc, ◌+◌, ◌-◌, ◌*◌, ◌≤◌, ◌<◌}
use mathlib.Core.Bool.{Bool, true, false, true≢false}
use mathlib.Core.List.{List, [], ◌∷◌}
use mathlib.Core.Path.{◌≡◌, refl, sym, ap, ◌∙◌, subst}
use native.Mathlib.Omega.{arith}
use borrow.Author.Tests.{leb-true, leb-false, le-leb, lt-leb, lt-ltb, le-ltb}
use lib.Dec.{leb}
use lib.ListN.{length, take, drop, get_or, length-drop, drop_of_length-le}
use lib.Seq.{length-take-le, drop-drop}
use Rattle.text.specs.Basics.{when◌then◌else◌, ◌>>=◌}
use Rattle.text.specs.Text.{equal_fold}
use Rattle.text.specs.Number.{from_digits}
use Rattle.text.proofs.ScanLaws.{take_rest}
use Rattle.tables.specs.declared.entry.EntrySpan.{EntrySpan}
use Rattle.tables.specs.declared.entry.FrameFault.{FrameFault}
use Rattle.tables.specs.declared.entry.FrameFault.TheVariants as FrameFault
use Rattle.tables.specs.Table.{Table, table, after_count, read_table, read_each, read_tables}
use Rattle.tables.specs.Code.{entries, table_count, tables_in, cut_entry, span_of, entry_span, entry_or, entry_table, after_entry, frame_of}
use Rattle.tables.specs.Code.{place_named, shifted, SoughtFrom}

pub none_some : {A : Type 0} {a : A} → ◌≡◌ {A = Option A} None (Some a) → ⊥
none_some e = let z : ◌≡◌ {A = ℕ} 0 1 = cc in omega arith

pub some_same : {A : Type 0} (x y : A) → ◌≡◌ {A = Option A} (Some x) (Some y) → x ≡ y
some_same x y e = ap (λ (o : Option _). unwrap_or o x) e

-- ## Counts

abbrev pub count_at : ℕ → List ℕ → ℕ
count_at w t = from_digits 256 0 (take w t)

pub count_of_one : (s : List ℕ) → (length s ≡ 0 → ⊥) → count_at 1 s ≡ get_or s 0 0
unfolding from_digits
count_of_one [] h = absurd (h refl)
count_of_one (a ∷ s) h = omega arith

pub count_of_two : (s : List ℕ) → 2 ≤ length s → get_or s 0 0 * 256 + get_or s 1 0 ≡ count_at 2 s
unfolding from_digits
count_of_two [] h = absurd (omega arith)
count_of_two (a ∷ []) h = absurd (omega arith)
count_of_two (a ∷ b ∷ s) h = omega arith

pub count_of_four : (s : List ℕ) → 4 ≤ length s
    → ((get_or s 0 0 * 256 + get_or s 1 0) * 256 + get_or s 2 0) * 256 + get_or s 3 0 ≡ from_digits 256 0 (take 4 s)
unfolding from_digits
count_of_four [] h = absurd (omega arith)
count_of_four (a ∷ []) h = absurd (omega arith)
count_of_four (a ∷ b ∷ []) h = absurd (omega arith)
count_of_four (a ∷ b ∷ c ∷ []) h = absurd (omega arith)
count_of_four (a ∷ b ∷ c ∷ d ∷ s) h = ap (λ (n : ℕ). ((n + b) * 256 + c) * 256 + d) (omega arith)

pub table_count_none : (s : List ℕ) → length s < 2 → 0 ≡ table_count s
unfolding table_count
table_count_none s h = rw (lt-ltb (length s) 2 h)

pub table_count_some : (s : List ℕ) → 2 ≤ length s → get_or s 0 0 * 256 + get_or s 1 0 ≡ table_count s
unfolding table_count
table_count_some s h = rw (le-ltb (length s) 2 h) (count_of_two s h)

pub after_count_none : (s : List ℕ) → length s < 2 → take 0 s ≡ drop 2 s
after_count_none s h = let l : length s ≤ 2 = omega arith in sym (drop_of_length-le s l)

pub after_count_some : (s : List ℕ) → take (length s - 2) (drop 2 s) ≡ drop 2 s
after_count_some s = take_rest s 2

-- counted bytes
pub after_none : (w : ℕ) (t : List ℕ) → length t < w + count_at w t → after_count w t ≡ None
unfolding after_count
after_none w t h = rw (lt-leb (w + count_at w t) (length t) h)

pub after_some : (w : ℕ) (t : List ℕ) → w + count_at w t ≤ length t → after_count w t ≡ Some (take (count_at w t) (drop w t), drop (w + count_at w t) t)
unfolding after_count
after_some w t h = rw (le-leb (w + count_at w t) (length t) h)

-- ## One entry

abbrev name_len : List ℕ → ℕ
name_len t = count_at 1 t

abbrev text_at : List ℕ → List ℕ
text_at t = drop (1 + name_len t) t

abbrev text_len : List ℕ → ℕ
text_len t = count_at 4 (text_at t)

abbrev entry_at : List ℕ → Table × List ℕ
entry_at t = (table (take (name_len t) (drop 1 t)) (take (text_len t) (drop 4 (text_at t))), drop (4 + text_len t) (text_at t))

name_none : (t : List ℕ) → length t < 1 + name_len t → read_table t ≡ None
unfolding read_table
name_none t h = rw (after_none 1 t h)

text_none : (t : List ℕ) → 1 + name_len t ≤ length t → length (text_at t) < 4 + text_len t → read_table t ≡ None
unfolding read_table
text_none t h k = rw (after_some 1 t h, after_none 4 (text_at t) k)

entry_some : (t : List ℕ) → 1 + name_len t ≤ length t → 4 + text_len t ≤ length (text_at t) → read_table t ≡ Some (entry_at t)
unfolding read_table
entry_some t h k = rw (after_some 1 t h, after_some 4 (text_at t) k)

-- a whole entry: where its name, its text and what follows stand
pub record Whole (t : List ℕ) (p : Table × List ℕ) : Type 0 where
  pub within : 1 + length p.0.name + 4 + length p.0.text ≤ length t
  pub name_is : take (length p.0.name) (drop 1 t) ≡ p.0.name
  pub text_is : take (length p.0.text) (drop (1 + length p.0.name + 4) t) ≡ p.0.text
  pub rest_is : drop (1 + length p.0.name + 4 + length p.0.text) t ≡ p.1

module _ (t : List ℕ) (h : 1 + name_len t ≤ length t) (k : 4 + text_len t ≤ length (text_at t)) where
  name_long : length (take (name_len t) (drop 1 t)) ≡ name_len t
  name_long = length-take-le (name_len t) (drop 1 t) (omega (arith, length-drop 1 t))

  text_long : length (take (text_len t) (drop 4 (text_at t))) ≡ text_len t
  text_long = length-take-le (text_len t) (drop 4 (text_at t)) (omega (arith, length-drop 4 (text_at t)))

  entry_whole : Whole t (entry_at t)
  entry_whole = record {
    within = omega (arith, name_long, text_long, length-drop (1 + name_len t) t);
    name_is = rw name_long;
    text_is = rw (name_long, text_long, drop-drop 4 (1 + name_len t) t);
    rest_is = let m : 1 + name_len t + 4 + text_len t ≡ 1 + name_len t + (4 + text_len t) = omega arith in
        rw (name_long, text_long, m, drop-drop (4 + text_len t) (1 + name_len t) t);
  }

  span_some : entry_span t ≡ record { cut = false; name_end = 1 + name_len t; end = 1 + name_len t + 4 + text_len t }
  unfolding entry_span
  span_some = rw (entry_some t h k, name_long, text_long)

pub read_whole : (t : List ℕ) (p : Table × List ℕ) → read_table t ≡ Some p → Whole t p
read_whole t p e = by (leb (1 + name_len t) (length t)) refl (leb (4 + text_len t) (length (text_at t))) refl
  where
    by : (a : Bool) → leb (1 + name_len t) (length t) ≡ a → (b : Bool) → leb (4 + text_len t) (length (text_at t)) ≡ b → Whole t p
    by false f b g = absurd (none_some (sym (name_none t (leb-false (1 + name_len t) (length t) f)) ∙ e))
    by true f false g =
        absurd (none_some (sym (text_none t (leb-true (1 + name_len t) (length t) f) (leb-false (4 + text_len t) (length (text_at t)) g)) ∙ e))
    by true f true g =
        let h : 1 + name_len t ≤ length t = leb-true (1 + name_len t) (length t) f in
        let k : 4 + text_len t ≤ length (text_at t) = leb-true (4 + text_len t) (length (text_at t)) g in
        subst (λ q. Whole t q) (some_same (entry_at t) p (sym (entry_some t h k) ∙ e)) (entry_whole t h k)

-- as entry_span finds it
pub read_count : (t : List ℕ) (p : Table × List ℕ) → read_table t ≡ Some p → get_or t 0 0 ≡ length p.0.name
read_count t p e = by (leb (1 + name_len t) (length t)) refl (leb (4 + text_len t) (length (text_at t))) refl
  where
    by : (a : Bool) → leb (1 + name_len t) (length t) ≡ a → (b : Bool) → leb (4 + text_len t) (length (text_at t)) ≡ b → get_or t 0 0 ≡ length p.0.name
    by false f b g = absurd (none_some (sym (name_none t (leb-false (1 + name_len t) (length t) f)) ∙ e))
    by true f false g =
        absurd (none_some (sym (text_none t (leb-true (1 + name_len t) (length t) f) (leb-false (4 + text_len t) (length (text_at t)) g)) ∙ e))
    by true f true g =
        let h : 1 + name_len t ≤ length t = leb-true (1 + name_len t) (length t) f in
        let k : 4 + text_len t ≤ length (text_at t) = leb-true (4 + text_len t) (length (text_at t)) g in
        let q : entry_at t ≡ p = some_same (entry_at t) p (sym (entry_some t h k) ∙ e) in
        sym (count_of_one t (λ z. omega arith)) ∙ sym (name_long t h k) ∙ ap (λ (x : Table × List ℕ). length x.0.name) q

pub span_empty : (s : List ℕ) → length s ≡ 0 → (r : EntrySpan) → r ≡ cut_entry → r ≡ entry_span s
unfolding entry_span read_table after_count from_digits
span_empty [] h r e = e
span_empty (x ∷ s) h r e = absurd (omega arith)

module _ (s : List ℕ) (full : length s ≡ 0 → ⊥) where
  pub span_short : length s < 1 + get_or s 0 0 + 4 → (r : EntrySpan) → r ≡ cut_entry → r ≡ entry_span s
  unfolding entry_span
  span_short h r is-r = is-r ∙ sym (ap span_of (by (leb (1 + name_len s) (length s)) refl))
    where
      one : name_len s ≡ get_or s 0 0
      one = count_of_one s full

      by : (a : Bool) → leb (1 + name_len s) (length s) ≡ a → read_table s ≡ None
      by false f = name_none s (leb-false (1 + name_len s) (length s) f)
      by true f = text_none s (leb-true (1 + name_len s) (length s) f) (omega (arith, one, length-drop (1 + name_len s) s))

  module _ (long : 1 + get_or s 0 0 + 4 ≤ length s)
      (n : ℕ) (is-n : n ≡ from_digits 256 0 (take 4 (take (length s - (1 + get_or s 0 0)) (drop (1 + get_or s 0 0) s)))) where
    counted : n ≡ text_len s
    counted = is-n ∙ rw (take_rest s (1 + get_or s 0 0), count_of_one s full)

    pub span_cut : length s - (1 + get_or s 0 0 + 4) < n → (r : EntrySpan) → r ≡ cut_entry → r ≡ entry_span s
    unfolding entry_span
    span_cut h r is-r =
        let one : name_len s ≡ get_or s 0 0 = count_of_one s full in
        is-r ∙ sym (ap span_of (text_none s (omega (arith, one)) (omega (arith, one, counted, length-drop (1 + name_len s) s))))

    pub span_whole : n ≤ length s - (1 + get_or s 0 0 + 4)
        → record { cut = false; name_end = 1 + get_or s 0 0; end = 1 + get_or s 0 0 + 4 + n } ≡ entry_span s
    span_whole h =
        let one : name_len s ≡ get_or s 0 0 = count_of_one s full in
        sym (span_some s (omega (arith, one)) (omega (arith, one, counted, length-drop (1 + name_len s) s)) ∙ rw (← counted, one))

module _ (s : List ℕ) (p : Table × List ℕ) (e : read_table s ≡ Some p) where
  pub entry_table_lem : entry_table s ≡ p.0
  unfolding entry_table
  entry_table_lem = ap (λ (o : Option (Table × List ℕ)). (entry_or o).0) e

  pub entry_rest : after_entry s ≡ p.1
  unfolding after_entry
  entry_rest = ap (λ (o : Option (Table × List ℕ)). (entry_or o).1) e

-- the entry that a span tells
pub record Entry (s : List ℕ) (span : EntrySpan) : Type 0 where
  pub read : read_table s ≡ Some (entry_table s, after_entry s)
  pub name_end_lem : span.name_end ≡ 1 + length (entry_table s).name
  pub text_end : span.end ≡ 1 + length (entry_table s).name + 4 + length (entry_table s).text

module _ (s : List ℕ) (span : EntrySpan) (is-span : span ≡ entry_span s) where
  pub cut_read : span.cut ≡ true → read_table s ≡ None
  unfolding entry_span
  cut_read e = by (read_table s) refl
    where
      by : (o : Option (Table × List ℕ)) → read_table s ≡ o → read_table s ≡ None
      by None f = f
      by (Some p) f = absurd (true≢false (sym e ∙ ap (λ (x : EntrySpan). x.cut) (is-span ∙ ap span_of f)))

  module _ (whole : span.cut ≡ false) where
    pub entry_of : Entry s span
    unfolding entry_span
    entry_of = by (read_table s) refl
      where
        by : (o : Option (Table × List ℕ)) → read_table s ≡ o → Entry s span
        by None f = absurd (true≢false (sym (ap (λ (x : EntrySpan). x.cut) (is-span ∙ ap span_of f)) ∙ whole))
        by (Some p) f =
            let i : span ≡ span_of (Some p) = is-span ∙ ap span_of f in
            let t : entry_table s ≡ p.0 = entry_table_lem s p f in
            record { read = f ∙ rw (t, entry_rest s p f); name_end_lem = rw (i, t); text_end = rw (i, t) }

    entry_is : Whole s (entry_table s, after_entry s)
    entry_is = read_whole s (entry_table s, after_entry s) entry_of.read

    pub name_start : 1 ≤ span.name_end
    name_start = omega (arith, entry_of.name_end_lem)

    pub name_within : span.name_end ≤ length s
    name_within = omega (arith, entry_of.name_end_lem, entry_is.within)

    pub text_start : span.name_end + 4 ≤ span.end
    text_start = omega (arith, entry_of.name_end_lem, entry_of.text_end)

    pub text_within : span.end ≤ length s
    text_within = omega (arith, entry_of.text_end, entry_is.within)

    pub text_place : (m : ℕ) → length s < m → span.name_end + 4 < m
    text_place m h = omega (arith, text_start, text_within)

    pub name_part : take (span.name_end - 1) (drop 1 s) ≡ (entry_table s).name
    name_part =
        let m : span.name_end - 1 ≡ length (entry_table s).name = omega (arith, entry_of.name_end_lem) in
        rw m entry_is.name_is

    pub text_part : take (span.end - (span.name_end + 4)) (drop (span.name_end + 4) s) ≡ (entry_table s).text
    text_part =
        let m : span.end - (span.name_end + 4) ≡ length (entry_table s).text = omega (arith, entry_of.name_end_lem, entry_of.text_end) in
        rw (m, entry_of.name_end_lem) entry_is.text_is

    pub rest_part : take (length s - span.end) (drop span.end s) ≡ after_entry s
    rest_part = take_rest s span.end ∙ rw entry_of.text_end entry_is.rest_is

-- ## The frame

pub frame_short : (t : List ℕ) → length t < 2 → Err FrameFault.Cut ≡ frame_of (read_tables t)
unfolding read_tables
frame_short t h = rw (lt-ltb (length t) 2 h)

pub frame_start : (t : List ℕ) → 2 ≤ length t → (n : ℕ) → n ≡ table_count t → (rest : List ℕ) → rest ≡ drop 2 t
    → frame_of (read_tables t) ≡ frame_of (read_each n rest)
unfolding read_tables table_count
frame_start t h n is-n rest is-rest = rw (is-n, is-rest, le-ltb (length t) 2 h)

frame_row : (x : Table) (o : Option (List Table × List ℕ)) → frame_of (o >>= λ r. Some (x ∷ r.0, r.1)) ≡ frame_of o
frame_row x None = refl
frame_row x (Some r) = refl

-- the loop that has the tables up to rest, n of them left
module _ (f : Result ⊤ FrameFault) (n : ℕ) (rest : List ℕ) (so_far : f ≡ frame_of (read_each n rest)) where
  module _ (more : 0 < n) (span : EntrySpan) (is-span : span ≡ entry_span rest) where
    pub frame_cut : span.cut ≡ true → Err FrameFault.Cut ≡ f
    unfolding read_each
    frame_cut e = sym (so_far ∙ by n more)
      where
        by : (k : ℕ) → 0 < k → frame_of (read_each k rest) ≡ Err FrameFault.Cut
        by zero h = absurd (omega arith)
        by (suc k) h = rw (cut_read rest span is-span e)

    pub frame_more : span.cut ≡ false → (next : List ℕ) → next ≡ after_entry rest → f ≡ frame_of (read_each (n - 1) next)
    unfolding read_each
    frame_more e next is-next = so_far ∙ rw is-next (by n more)
      where
        by : (k : ℕ) → 0 < k → frame_of (read_each k rest) ≡ frame_of (read_each (k - 1) (after_entry rest))
        by zero h = absurd (omega arith)
        by (suc k) h =
            let m : suc k - 1 ≡ k = omega arith in
            rw (m, (entry_of rest span is-span e).read) (frame_row (entry_table rest) (read_each k (after_entry rest)))

  module _ (ended : n ≤ 0) where
    done : f ≡ frame_of (Some ([], rest))
    unfolding read_each
    done = let z : n ≡ 0 = omega arith in so_far ∙ rw z

    pub frame_sound : length rest ≡ 0 → Ok tt ≡ f
    frame_sound e = sym (done ∙ by rest e)
      where
        by : (r : List ℕ) → length r ≡ 0 → frame_of (Some ([], r)) ≡ Ok tt
        by [] e = refl
        by (x ∷ r) e = absurd (omega arith)

    pub frame_trailing : (length rest ≡ 0 → ⊥) → Err FrameFault.Trailing ≡ f
    frame_trailing e = sym (done ∙ by rest e)
      where
        by : (r : List ℕ) → (length r ≡ 0 → ⊥) → frame_of (Some ([], r)) ≡ Err FrameFault.Trailing
        by [] e = absurd (e refl)
        by (x ∷ r) e = refl

-- ## The tables one after the other

-- the loop has passed i of the n counted tables of t; rest holds the others
pub record Reached (t : List ℕ) (n : ℕ) (rest : List ℕ) (i : ℕ) : Type 0 where
  pub upto : i ≤ n
  pub passed : i ≤ length (tables_in t)
  pub left : drop i (tables_in t) ≡ entries (n - i) rest

pub reached_start : (t : List ℕ) (n : ℕ) → n ≡ table_count t → (rest : List ℕ) → rest ≡ drop 2 t → Reached t n rest 0
unfolding tables_in
reached_start t n is-n rest is-rest = record {
  upto = omega arith;
  passed = omega arith;
  left = let m : table_count t - 0 ≡ table_count t = omega arith in rw (is-n, is-rest, m);
}

module _ (t : List ℕ) (n : ℕ) (rest : List ℕ) (i : ℕ) (so_far : Reached t n rest i) where
  pub reached_end : n ≤ i → drop i (tables_in t) ≡ []
  unfolding entries
  reached_end h = let z : n - i ≡ 0 = omega arith in so_far.left ∙ rw z

  module _ (more : i < n) (span : EntrySpan) (is-span : span ≡ entry_span rest) where
    pub reached_cut : span.cut ≡ true → drop i (tables_in t) ≡ []
    unfolding entries
    reached_cut e = so_far.left ∙ by (n - i)
      where
        by : (k : ℕ) → entries k rest ≡ []
        by zero = refl
        by (suc k) = rw (cut_read rest span is-span e)

    module _ (whole : span.cut ≡ false) where
      pub reached_here : drop i (tables_in t) ≡ entry_table rest ∷ entries (n - (i + 1)) (after_entry rest)
      unfolding entries
      reached_here =
          let m : n - i ≡ suc (n - (i + 1)) = omega arith in
          so_far.left ∙ rw (m, (entry_of rest span is-span whole).read)

      here_length : length (tables_in t) - i ≡ suc (length (entries (n - (i + 1)) (after_entry rest)))
      here_length = sym (length-drop i (tables_in t)) ∙ ap length reached_here

      pub reached_more : (next : List ℕ) → next ≡ after_entry rest → Reached t n next (i + 1)
      reached_more next is-next = record {
        upto = omega arith;
        passed = omega (arith, here_length);
        left = rw is-next (sym (drop-drop 1 i (tables_in t)) ∙ ap (drop 1) reached_here);
      }

-- all have been passed
pub count_all : (t : List ℕ) (n : ℕ) (rest : List ℕ) (i : ℕ) → Reached t n rest i → drop i (tables_in t) ≡ [] → i ≡ length (tables_in t)
count_all t n rest i h e = omega (arith, h.passed, length-drop i (tables_in t), ap length e)

-- ## The place of a name

-- none of the i tables passed has the name
pub record Sought (t name : List ℕ) (n : ℕ) (rest : List ℕ) (i : ℕ) : Type 0 where
  pub reached : Reached t n rest i
  pub place : place_named (tables_in t) name ≡ shifted i (place_named (drop i (tables_in t)) name)

pub shifted_none : (o : Option ℕ) → o ≡ shifted 0 o
shifted_none None = refl
shifted_none (Some k) = let z : k ≡ 0 + k = omega arith in ap Some z

shifted_more : (i : ℕ) (o : Option ℕ) → shifted i (o >>= λ k. Some (suc k)) ≡ shifted (i + 1) o
shifted_more i None = refl
shifted_more i (Some k) = let z : i + suc k ≡ i + 1 + k = omega arith in ap Some z

pub sought_start : (t name : List ℕ) (n : ℕ) → n ≡ table_count t → (rest : List ℕ) (i : ℕ) → SoughtFrom t name rest i → Sought t name n rest i
sought_start t name n is-n rest i h = record {
  reached = record {
    upto = rw is-n h.sought_upto;
    passed = h.sought_passed;
    left = rw is-n h.sought_left;
  };
  place = h.sought_place;
}

-- from the first table on
pub sought_first : (t name rest : List ℕ) → rest ≡ drop 2 t → SoughtFrom t name rest 0
sought_first t name rest is-rest =
    let r : Reached t (table_count t) rest 0 = reached_start t (table_count t) refl rest is-rest in
    record {
      sought_upto = r.upto;
      sought_passed = r.passed;
      sought_left = r.left;
      sought_place = shifted_none (place_named (tables_in t) name);
    }

module _ (t name : List ℕ) (n : ℕ) (rest : List ℕ) (i : ℕ) (so_far : Sought t name n rest i) where
  missing : drop i (tables_in t) ≡ [] → None ≡ place_named (tables_in t) name
  unfolding place_named
  missing e =
      let z : place_named (tables_in t) name ≡ None = so_far.place ∙ rw e in
      sym (z)

  pub sought_end : n ≤ i → None ≡ place_named (tables_in t) name
  sought_end h = missing (reached_end t n rest i so_far.reached h)

  module _ (more : i < n) (span : EntrySpan) (is-span : span ≡ entry_span rest) where
    pub sought_cut : span.cut ≡ true → None ≡ place_named (tables_in t) name
    sought_cut e = missing (reached_cut t n rest i so_far.reached more span is-span e)

    module _ (whole : span.cut ≡ false) (other : List ℕ) (is-other : other ≡ (entry_table rest).name) (x : Bool) (is_x : x ≡ equal_fold name other) where
      here : place_named (drop i (tables_in t)) name
          ≡ (when x then Some 0 else (place_named (entries (n - (i + 1)) (after_entry rest)) name >>= λ k. Some (suc k)))
      unfolding place_named
      here = rw (reached_here t n rest i so_far.reached more span is-span whole, is_x, is-other)

      pub sought_found : x ≡ true → Some i ≡ place_named (tables_in t) name
      sought_found e =
          let z : place_named (tables_in t) name ≡ Some (i + 0) = so_far.place ∙ rw (here, e) in
          let m : i + 0 ≡ i = omega arith in
          sym (z ∙ ap Some m)

      pub sought_more : x ≡ false → (next : List ℕ) → next ≡ after_entry rest → Sought t name n next (i + 1)
      sought_more e next is-next =
          let r : Reached t n next (i + 1) = reached_more t n rest i so_far.reached more span is-span whole next is-next in
          record {
            reached = r;
            place = so_far.place ∙ rw (here, e, r.left, is-next) (shifted_more i (place_named (entries (n - (i + 1)) (after_entry rest)) name));
          }
