-- The entries of a text, as the code finds, counts, writes and compares them.
--   table_more, table_end  == the entries from a line on
--   Counting, Writing, Comparing == the loops over the lines
--   index-same             == an index compared with that of a sheet
-- Assumes nothing.
use Rattle.std.specs.Prelude.{None, Option, Some, unwrap_or}
use Prim.Native.Nat.{ℕ, zero, suc, ◌+◌, ◌-◌, ◌*◌, ◌/◌, ◌≤◌, ◌<◌}
use mathlib.Core.Bool.{Bool, true, false, not, ◌&&◌, ◌||◌, true≢false}
use mathlib.Core.List.{List, [], ◌∷◌, ◌++◌, append-nil, append_assoc}
use mathlib.Core.Path.{◌≡◌, refl, sym, ap, ap₂, ◌∙◌}
use native.Mathlib.Omega.{arith}
use borrow.Author.Tests.{eqb-true, ltb-true, ltb-false, eq-eqb, ne_eqb}
use lib.Dec.{eqb, ltb}
use lib.ListN.{length, take, drop, length-append, length-drop, drop_of_length-le}
use lib.Seq.{paste-zero, length-take-le, take-length}
use Rattle.text.specs.Basics.{when◌then◌else◌, ◌>>=◌, given, all}
use Rattle.text.specs.Text.{among, first_among, equal, split}
use Rattle.text.specs.Number.{to_digits}
use Rattle.text.specs.Scan.{put_at}
use Rattle.text.proofs.Digits.{div_last, length_to_digits}
use Rattle.text.proofs.PasteLaws.{length_put_at, put_put}
use Rattle.text.proofs.ScanLaws.{take_rest, equal_refl, equal_lengths}
use Rattle.lines.specs.declared.line.LineSpan.{LineSpan}
use Rattle.lines.specs.Line.{Line, line, join, logical_lines, lines}
use Rattle.lines.specs.Rule.{split_separator}
use Rattle.lines.specs.Parts.{is_separator, inside_after, separator_index, after_separator}
use Rattle.lines.specs.Scan.{span_at, scan_line, SpanBounds}
use Rattle.lines.proofs.LineLaws.{scan_line_bounds, line_joined, length_line, logical_lines_drop, logical_lines_end}
use Rattle.lines.proofs.RuleLaws.{split_separator_none, split_separator_some}
use Rattle.index.specs.declared.Entry.{Entry}
use Rattle.index.specs.declared.table.LineEntry.{LineEntry}
use Rattle.index.specs.Index.{range, dropped_pairs, rule_entry, with_entry, rule_table, two_bytes, entry_bytes, table_bytes}
use Rattle.index.specs.Code.{has_rule, entry_by, line_entry, table_from, rules_in, line_bytes}

-- ## The entry of a line

pub separator_index_le : (inside : Bool) (s : List ℕ) → separator_index inside s ≤ length s
unfolding separator_index
separator_index_le inside [] = omega arith
separator_index_le inside (x ∷ t) = by (is_separator inside x) (separator_index_le (inside_after inside x) t)
  where
    by : (b : Bool) → separator_index (inside_after inside x) t ≤ length t
        → (when b then 0 else suc (separator_index (inside_after inside x) t)) ≤ suc (length t)
    by true h = omega arith
    by false h = omega arith

-- what stands before the first separator, all where there is none
before_length : (s : List ℕ) → length (unwrap_or (split_separator false s) (s, [])).0 ≡ separator_index false s
before_length s = by (ltb (separator_index false s) (length s)) refl
  where
    by : (b : Bool) → ltb (separator_index false s) (length s) ≡ b → length (unwrap_or (split_separator false s) (s, [])).0 ≡ separator_index false s
    by true e =
        let l : separator_index false s < length s = ltb-true (separator_index false s) (length s) e in
        rw (split_separator_some s (separator_index false s) refl l) (length-take-le (separator_index false s) s (omega arith))
    by false e =
        let k : length s ≤ separator_index false s = ltb-false (separator_index false s) (length s) e in
        rw (split_separator_none s (separator_index false s) refl k) (omega (arith, separator_index_le false s))

module _ (base n i : ℕ) (raw : List ℕ) (b : Bool) (j : ℕ) (dropped : length raw ≡ length (join raw) + 2 * j) where
  pairs : dropped_pairs raw ≡ j
  pairs = let e : length raw - length (join raw) ≡ j * 2 + 0 = omega arith in ap (λ (k : ℕ). k / 2) e ∙ div_last 2 j 0 (omega arith)

  abbrev sep : ℕ
  sep = separator_index false raw

  -- the entry of the parts of the line
  abbrev parted_entry : List ℕ × List ℕ → Entry
  parted_entry p = record {
    lines = range n (n + dropped_pairs raw);
    rule = range (base + i) (base + i + length raw);
    daemons = range (base + i) (base + i + length p.0);
    clients = range (base + i + length p.0 + 1)
        (base + i + length p.0 + 1 + length (unwrap_or (split_separator false p.1) (p.1, [])).0);
  }

  parted_same : sep < length raw → parted_entry (take sep raw, drop (sep + 1) raw) ≡ entry_by raw (base + i) n j
  unfolding entry_by after_separator
  parted_same h =
      rw (pairs, length-take-le sep raw (omega arith), before_length (drop (sep + 1) raw))

  pub entry_of_line : rule_entry base (line n i raw b) ≡ given (has_rule raw) (entry_by raw (base + i) n j)
  unfolding rule_entry has_rule
  entry_of_line = by (first_among "#" (join raw)) (all (among " \t") (join raw)) (ltb sep (length raw)) refl
    where
      by : (c d s : Bool) → ltb sep (length raw) ≡ s
          → (when c || d then None else (split_separator false raw >>= λ p. Some (parted_entry p)))
          ≡ given (when c then false else when d then false else s) (entry_by raw (base + i) n j)
      by true d s e = refl
      by false true s e = refl
      by false false true e =
          let l : sep < length raw = ltb-true sep (length raw) e in
          rw (split_separator_some raw sep refl l) (ap Some (parted_same l))
      by false false false e = rw (split_separator_none raw sep refl (ltb-false sep (length raw) e))

-- as the calls hand it over
module _ (s : List ℕ) (x : Bool) (is_x : x ≡ first_among "#" (join s)) where
  pub ruled_comment : x ≡ true → false ≡ has_rule s
  unfolding has_rule
  ruled_comment e = rw (← is_x, e)

  module _ (e : x ≡ false) (y : Bool) (is_y : y ≡ all (among " \t") (join s)) where
    pub ruled_blank : y ≡ true → false ≡ has_rule s
    unfolding has_rule
    ruled_blank f = rw (← is_x, e, ← is_y, f)

    pub ruled_parted : y ≡ false → (k : ℕ) → k ≡ separator_index false s → ltb k (length s) ≡ has_rule s
    unfolding has_rule
    ruled_parted f k is-k = rw (← is_x, e, ← is_y, f, is-k)

module _ (raw : List ℕ) (a : ℕ) (is-a : a ≡ separator_index false raw) (rest : List ℕ) (is-rest : rest ≡ after_separator a raw) where
  pub clients_fit : a ≤ length raw → (j : ℕ) → j ≤ length rest → (at m : ℕ) → at + length raw + 1 < m → at + a + 1 + j < m
  unfolding after_separator
  clients_fit h j k at m l = omega (arith, ap length is-rest, length-drop (a + 1) raw)

  pub entry_is : (j : ℕ) → j ≡ separator_index false rest → (at n joins : ℕ)
      → ◌≡◌ {A = Entry} (record {
        lines = range n (n + joins);
        rule = range at (at + length raw);
        daemons = range at (at + a);
        clients = range (at + a + 1) (at + a + 1 + j);
      }) (entry_by raw at n joins)
  unfolding entry_by
  entry_is j is-j at n joins = rw (is-j, is-rest, is-a)

module _ (base : ℕ) (t : List ℕ) (i n : ℕ) (l : LineSpan) (is-l : l ≡ span_at i (scan_line (drop i t))) (h : i < length t) where
  pub line_fits : base + length t ≤ 57360 → base + i + length (take (l.end - i) (drop i t)) + 1 < 18446744073709551616
  line_fits k = omega (
    arith,
    length_line t i l is-l (omega arith),
    (scan_line_bounds t i l (omega arith) is-l).within,
    (scan_line_bounds t i l (omega arith) is-l).from,
  )

  pub lines_fit : n ≤ i + 1 → base + length t ≤ 57360 → n + l.joins < 18446744073709551616
  lines_fit k m = omega (
    arith,
    (scan_line_bounds t i l (omega arith) is-l).within,
    (scan_line_bounds t i l (omega arith) is-l).from,
    (scan_line_bounds t i l (omega arith) is-l).pairs,
  )

  pub line_entry_is : (b : Bool) → b ≡ has_rule (take (l.end - i) (drop i t)) → (e : Entry) → e ≡ entry_by (take (l.end - i) (drop i t)) (base + i) n l.joins
      → ◌≡◌ {A = LineEntry} (record { next = l.end + 1; number = n + l.joins + 1; ruled = b; entry = e })
      (line_entry base t i n (span_at i (scan_line (drop i t))))
  line_entry_is b is_b e is-e = rw (is_b, is-e, is-l)

-- ## The entries from a line on

pub table_start : (base : ℕ) (t : List ℕ) → rule_table base (lines t) ≡ table_from base t 0 1
unfolding table_from lines
table_start base t = refl

pub table_end : (base : ℕ) (t : List ℕ) (i n : ℕ) → length t ≤ i → table_from base t i n ≡ []
unfolding table_from rule_table
table_end base t i n h = ap (rule_table base) (logical_lines_end t i n i h)

pub length_two : (a b : ℕ) → length (two_bytes a b) ≡ 8
unfolding two_bytes
length_two a b = length-append (to_digits 256 4 a) (to_digits 256 4 b) ∙ rw (length_to_digits 256 4 a, length_to_digits 256 4 b)

pub length_entry : (e : Entry) → length (entry_bytes e) ≡ 32
unfolding entry_bytes
length_entry e =
    let a : List ℕ = two_bytes e.lines.start e.lines.end in
    let b : List ℕ = two_bytes e.rule.start e.rule.end in
    let c : List ℕ = two_bytes e.daemons.start e.daemons.end in
    let d : List ℕ = two_bytes e.clients.start e.clients.end in
    omega (
      arith,
      length-append (a ++ b ++ c) d,
      length-append (a ++ b) c,
      length-append a b,
      length_two e.lines.start e.lines.end,
      length_two e.rule.start e.rule.end,
      length_two e.daemons.start e.daemons.end,
      length_two e.clients.start e.clients.end,
    )

pub length_table : (es : List Entry) → length (table_bytes es) ≡ 32 * length es
unfolding table_bytes
length_table [] = refl
length_table (e ∷ es) = length-append (entry_bytes e) (table_bytes es) ∙ rw (length_entry e, length_table es) (omega arith)

pub length_line_bytes : (x : LineEntry) → length (line_bytes x) ≡ 32 * rules_in x
unfolding line_bytes rules_in
length_line_bytes x = by x.ruled
  where
    by : (b : Bool) → length (when b then entry_bytes x.entry else []) ≡ 32 * (when b then 1 else 0)
    by true = length_entry x.entry
    by false = refl

module _ (x : LineEntry) where
  pub rules_one : x.ruled ≡ true → (1 ≡ rules_in x) × (1 ≤ 1)
  unfolding rules_in
  rules_one e = (rw e, omega arith)

  pub rules_none : x.ruled ≡ false → (0 ≡ rules_in x) × (0 ≤ 1)
  unfolding rules_in
  rules_none e = (rw e, omega arith)

module _ (base : ℕ) (t : List ℕ) (i n : ℕ) (h : i < length t) (x : LineEntry) (is_x : x ≡ line_entry base t i n (span_at i (scan_line (drop i t)))) where
  abbrev l : LineSpan
  l = span_at i (scan_line (drop i t))

  table_more : table_from base t i n ≡ with_entry (given x.ruled x.entry) (table_from base t x.next x.number)
  unfolding table_from rule_table
  table_more =
      ap (rule_table base) (logical_lines_drop t i l refl n h)
      ∙ rw is_x (ap (λ (o : Option Entry). with_entry o (rule_table base (logical_lines (n + l.joins + 1) (l.end + 1) (split "\n" (drop (l.end + 1) t)))))
      (entry_of_line base n i (take (l.end - i) (drop i t)) l.ended l.joins (line_joined t i l refl).lengths))

  length_more : length (table_from base t i n) ≡ rules_in x + length (table_from base t x.next x.number)
  unfolding rules_in
  length_more = ap length table_more ∙ by x.ruled
    where
      by : (b : Bool) → length (with_entry (given b x.entry) (table_from base t x.next x.number))
          ≡ (when b then 1 else 0) + length (table_from base t x.next x.number)
      by true = omega arith
      by false = omega arith

  pub bytes_more : table_bytes (table_from base t i n) ≡ line_bytes x ++ table_bytes (table_from base t x.next x.number)
  unfolding line_bytes table_bytes
  bytes_more = ap table_bytes table_more ∙ by x.ruled
    where
      by : (b : Bool) → table_bytes (with_entry (given b x.entry) (table_from base t x.next x.number))
          ≡ (when b then entry_bytes x.entry else []) ++ table_bytes (table_from base t x.next x.number)
      by true = refl
      by false = refl

  line_bounds : SpanBounds (length t) i l
  line_bounds = scan_line_bounds t i l (omega arith) refl

  next_is : x.next ≡ l.end + 1
  next_is = rw is_x

  number_is : x.number ≡ n + l.joins + 1
  number_is = rw is_x

  pub next_within : x.next ≤ length t + 1
  next_within = omega (arith, next_is, line_bounds.within)

  pub next_more : i < x.next
  next_more = omega (arith, next_is, line_bounds.from)

  pub next_less : length t - x.next < length t - i
  next_less = omega (arith, next_more)

  pub next_number : n ≤ i + 1 → x.number ≤ x.next + 1
  next_number k = omega (arith, next_is, number_is, line_bounds.pairs, line_bounds.from)

rules_few : (x : LineEntry) → rules_in x ≤ 1
unfolding rules_in
rules_few x = by x.ruled
  where
    by : (b : Bool) → (when b then 1 else 0) ≤ 1
    by true = omega arith
    by false = omega arith

-- there are no more entries than bytes
table_few : (base : ℕ) (t : List ℕ) (k i n : ℕ) → length t ≤ i + k → length (table_from base t i n) ≤ k
table_few base t zero i n h = omega (arith, ap length (table_end base t i n (omega arith)))
table_few base t (suc k) i n h = by (ltb i (length t)) refl (table_few base t k)
  where
    by : (b : Bool) → ltb i (length t) ≡ b → ((i n : ℕ) → length t ≤ i + k → length (table_from base t i n) ≤ k) → length (table_from base t i n) ≤ suc k
    by true e ih =
        let x : LineEntry = line_entry base t i n (span_at i (scan_line (drop i t))) in
        let lt : i < length t = ltb-true i (length t) e in
        let m : i < x.next = next_more base t i n lt x refl in
        omega (arith, length_more base t i n lt x refl, rules_few x, ih x.next x.number (omega arith))
    by false e ih = omega (arith, ap length (table_end base t i n (ltb-false i (length t) e)))

pub rules_at_most : (base : ℕ) (t : List ℕ) → length (rule_table base (lines t)) ≤ length t
rules_at_most base t = omega (arith, ap length (table_start base t), table_few base t (length t) 0 1 (omega arith))

-- ## Counting

pub record Counting (base : ℕ) (t : List ℕ) (i n count : ℕ) : Type 0 where
  pub within : i ≤ length t + 1
  pub number : n ≤ i + 1
  pub few : count ≤ i
  pub whole : length (rule_table base (lines t)) ≡ count + length (table_from base t i n)

pub counting_start : (base : ℕ) (t : List ℕ) → Counting base t 0 1 0
counting_start base t =
    let z : length (table_from base t 0 1) ≡ 0 + length (table_from base t 0 1) = omega arith in
    record { within = omega arith; number = omega arith; few = omega arith; whole = ap length (table_start base t) ∙ z }

module _ (base : ℕ) (t : List ℕ) (i n count : ℕ) (w : Counting base t i n count) where
  pub counting_end : length t ≤ i → count ≡ length (rule_table base (lines t))
  counting_end h =
      let e : length (table_from base t i n) ≡ 0 = ap length (table_end base t i n h) in
      omega (arith, w.whole)

  pub counting_few : base + length t ≤ 57360 → count ≤ 57361
  counting_few h = omega (arith, w.few, w.within)

  module _ (h : i < length t) (x : LineEntry) (is_x : x ≡ line_entry base t i n (span_at i (scan_line (drop i t)))) (k : ℕ) (is-k : k ≡ rules_in x)
      (one : k ≤ 1) where
    pub counting_more : Counting base t x.next x.number (count + k)
    counting_more = record {
      within = next_within base t i n h x is_x;
      number = next_number base t i n h x is_x w.number;
      few = omega (arith, w.few, next_more base t i n h x is_x);
      whole = omega (arith, w.whole, length_more base t i n h x is_x);
    }

-- ## Writing

pub put_nil : (d : List ℕ) (at : ℕ) → d ≡ put_at d at []
unfolding put_at
put_nil d at = paste-zero d at []

-- the entries of the lines before i stand in o from `at` on, and end at next
pub record Writing (base : ℕ) (t d : List ℕ) (at : ℕ) (o : List ℕ) (next i n : ℕ) : Type 0 where
  pub within : i ≤ length t + 1
  pub number : n ≤ i + 1
  pub done : List ℕ
  pub whole : table_bytes (rule_table base (lines t)) ≡ done ++ table_bytes (table_from base t i n)
  pub text : o ≡ put_at d at done
  pub place : next ≡ at + length done
  pub long : length o ≡ length d

pub writing_start : (base : ℕ) (t d : List ℕ) (at : ℕ) → Writing base t d at d at 0 1
writing_start base t d at = record {
  within = omega arith;
  number = omega arith;
  done = [];
  whole = ap table_bytes (table_start base t);
  text = put_nil d at;
  place = omega arith;
  long = refl;
}

module _ (base : ℕ) (t d : List ℕ) (at : ℕ) (o : List ℕ) (next i n : ℕ) (w : Writing base t d at o next i n) where
  all_done : length t ≤ i → table_bytes (rule_table base (lines t)) ≡ w.done
  unfolding table_bytes
  all_done h = w.whole ∙ ap (λ (es : List Entry). w.done ++ table_bytes es) (table_end base t i n h) ∙ append-nil w.done

  pub writing_end : length t ≤ i → next ≡ at + length (table_bytes (rule_table base (lines t)))
  writing_end h = w.place ∙ ap (λ (s : List ℕ). at + length s) (sym (all_done h))

  pub writing_text : length t ≤ i → o ≡ put_at d at (table_bytes (rule_table base (lines t)))
  writing_text h = w.text ∙ ap (put_at d at) (sym (all_done h))

  module _ (room : at + length (table_bytes (rule_table base (lines t))) ≤ length d)
      (h : i < length t) (x : LineEntry) (is_x : x ≡ line_entry base t i n (span_at i (scan_line (drop i t)))) where
    split_whole : table_bytes (rule_table base (lines t)) ≡ (w.done ++ line_bytes x) ++ table_bytes (table_from base t x.next x.number)
    split_whole =
        w.whole ∙ ap (λ (s : List ℕ). w.done ++ s) (bytes_more base t i n h x is_x)
        ∙ sym (append_assoc w.done (line_bytes x) (table_bytes (table_from base t x.next x.number)))

    lengths : length (table_bytes (rule_table base (lines t)))
        ≡ length w.done + length (line_bytes x) + length (table_bytes (table_from base t x.next x.number))
    lengths = ap length split_whole ∙ length-append (w.done ++ line_bytes x) (table_bytes (table_from base t x.next x.number))
        ∙ ap (λ (k : ℕ). k + length (table_bytes (table_from base t x.next x.number))) (length-append w.done (line_bytes x))

    pub writing_room : next + length (line_bytes x) ≤ length o
    writing_room = omega (arith, lengths, w.place, w.long)

    pub writing_more : (m : ℕ) (o' : List ℕ) → m ≡ next + length (line_bytes x) → o' ≡ put_at o next (line_bytes x)
        → Writing base t d at o' m x.next x.number
    writing_more m o' is_m is-o = record {
      within = next_within base t i n h x is_x;
      number = next_number base t i n h x is_x w.number;
      done = w.done ++ line_bytes x;
      whole = split_whole;
      text = put_put d o o' w.done (line_bytes x) at next is-o w.text w.place (omega (arith, lengths));
      place = omega (arith, w.place, length-append w.done (line_bytes x));
      long = ap length is-o ∙ length_put_at o (line_bytes x) next writing_room ∙ w.long;
    }

-- ## Single entries

-- two texts written one after the other
abbrev pub Wrote : List ℕ → List ℕ → List ℕ → ℕ → ℕ → Type 0
Wrote d o s at n = (n ≡ at + length s) × (o ≡ put_at d at s)

pub wrote_more : (d o p s u : List ℕ) (at n m : ℕ) → Wrote d o s at n → Wrote o p u n m → at + length s ≤ length d → Wrote d p (s ++ u) at m
wrote_more d o p s u at n m w v room =
    (omega (arith, w.0, v.0, length-append s u), put_put d o p s u at n v.1 w.1 w.0 room)

abbrev Four : List ℕ → List ℕ → ℕ → ℕ → ℕ → Type 0
Four d o a at n = (n ≡ at + 4) × (o ≡ put_at d at (to_digits 256 4 a))

abbrev pub Two : List ℕ → List ℕ → ℕ → ℕ → ℕ → ℕ → Type 0
Two d o a b at n = (n ≡ at + 8) × (o ≡ put_at d at (two_bytes a b))

pub put_two : (d o p : List ℕ) (a b at n m : ℕ) → at + 8 ≤ length d → Four d o a at n → Four o p b n m → Two d p a b at m
unfolding two_bytes
put_two d o p a b at n m room w v =
    let x : length (to_digits 256 4 a) ≡ 4 = length_to_digits 256 4 a in
    (omega (arith, w.0, v.0), put_put d o p (to_digits 256 4 a) (to_digits 256 4 b) at n v.1 w.1 (omega (arith, w.0)) (omega arith))

pub two_wrote : (d o : List ℕ) (a b at n : ℕ) → Two d o a b at n → Wrote d o (two_bytes a b) at n
two_wrote d o a b at n w = (omega (arith, w.0, length_two a b), w.1)

pub put_entry : (d o₁ o₂ o₃ o₄ : List ℕ) (a₁ a₂ b₁ b₂ c₁ c₂ u₁ u₂ : ℕ) (at n₁ n₂ n₃ n₄ : ℕ) → at + 32 ≤ length d
    → Two d o₁ a₁ a₂ at n₁ → Two o₁ o₂ b₁ b₂ n₁ n₂ → Two o₂ o₃ c₁ c₂ n₂ n₃ → Two o₃ o₄ u₁ u₂ n₃ n₄
    → (n₄ ≡ at + 32) × (o₄ ≡ put_at d at (entry_bytes (record { lines = range a₁ a₂; rule = range b₁ b₂; daemons = range c₁ c₂; clients = range u₁ u₂ })))
unfolding entry_bytes
put_entry d o₁ o₂ o₃ o₄ a₁ a₂ b₁ b₂ c₁ c₂ u₁ u₂ at n₁ n₂ n₃ n₄ room w₁ w₂ w₃ w₄ =
    let a : List ℕ = two_bytes a₁ a₂ in
    let b : List ℕ = two_bytes b₁ b₂ in
    let c : List ℕ = two_bytes c₁ c₂ in
    let u : List ℕ = two_bytes u₁ u₂ in
    let la : length a ≡ 8 = length_two a₁ a₂ in
    let lb : length b ≡ 8 = length_two b₁ b₂ in
    let lc : length c ≡ 8 = length_two c₁ c₂ in
    let lab : length (a ++ b) ≡ 16 = length-append a b ∙ rw (la, lb) in
    let labc : length (a ++ b ++ c) ≡ 24 = length-append (a ++ b) c ∙ rw (lab, lc) in
    let v₁ : Wrote d o₁ a at n₁ = two_wrote d o₁ a₁ a₂ at n₁ w₁ in
    let v₂ : Wrote d o₂ (a ++ b) at n₂ = wrote_more d o₁ o₂ a b at n₁ n₂ v₁ (two_wrote o₁ o₂ b₁ b₂ n₁ n₂ w₂) (omega arith) in
    let v₃ : Wrote d o₃ (a ++ b ++ c) at n₃ = wrote_more d o₂ o₃ (a ++ b) c at n₂ n₃ v₂ (two_wrote o₂ o₃ c₁ c₂ n₂ n₃ w₃) (omega arith) in
    let v₄ : Wrote d o₄ (a ++ b ++ c ++ u) at n₄ = wrote_more d o₃ o₄ (a ++ b ++ c) u at n₃ n₄ v₃ (two_wrote o₃ o₄ u₁ u₂ n₃ n₄ w₄) (omega arith) in
    (omega (arith, w₁.0, w₂.0, w₃.0, w₄.0), v₄.1)

module _ (x : LineEntry) where
  pub line_room : x.ruled ≡ true → (at : ℕ) (d : List ℕ) → at + length (line_bytes x) ≤ length d → at + 32 ≤ length d
  unfolding rules_in
  line_room e at d h = let k : length (line_bytes x) ≡ 32 = length_line_bytes x ∙ rw e in omega arith

  pub ruled_next : x.ruled ≡ true → (at n : ℕ) → n ≡ at + 32 → n ≡ at + length (line_bytes x)
  unfolding line_bytes
  ruled_next e at n w = rw e (omega (arith, w, length_entry x.entry))

  pub ruled_text : x.ruled ≡ true → (d o : List ℕ) (at : ℕ) → o ≡ put_at d at (entry_bytes x.entry) → o ≡ put_at d at (line_bytes x)
  unfolding line_bytes
  ruled_text e d o at w = rw e w

  pub passed_next : x.ruled ≡ false → (at : ℕ) → at ≡ at + length (line_bytes x)
  unfolding line_bytes
  passed_next e at = rw e (omega arith)

  pub passed_text : x.ruled ≡ false → (d : List ℕ) (at : ℕ) → d ≡ put_at d at (line_bytes x)
  unfolding line_bytes
  passed_text e d at = rw e (put_nil d at)

-- ## Comparing

-- a buffer of k bytes that is written over wholly
pub whole_buffer : (d o s : List ℕ) → o ≡ put_at d 0 s → length s ≡ length d → o ≡ s
unfolding put_at
whole_buffer d o s e h = let k : length d ≤ 0 + length s = omega arith in e ∙ rw (take-length s, drop_of_length-le d k) (append-nil s)

-- bytes compared with what was written over a whole buffer
module _ (d o : List ℕ) where
  pub two_same : (a b : ℕ) → o ≡ put_at d 0 (two_bytes a b) → length d ≡ 8 → (s : List ℕ) (r : Bool) → r ≡ equal s o → r ≡ equal s (two_bytes a b)
  two_same a b w h s r is-r = is-r ∙ ap (equal s) (whole_buffer d o (two_bytes a b) w (length_two a b ∙ sym h))

  pub entry_same : (e : Entry) → o ≡ put_at d 0 (entry_bytes e) → length d ≡ 32 → (s : List ℕ) (r : Bool) → r ≡ equal s o → r ≡ equal s (entry_bytes e)
  entry_same e w h s r is-r = is-r ∙ ap (equal s) (whole_buffer d o (entry_bytes e) w (length_entry e ∙ sym h))

equal_nil : (s : List ℕ) → equal s [] ≡ eqb (length s) 0
unfolding equal
equal_nil [] = refl
equal_nil (y ∷ s) = sym (ne_eqb (suc (length s)) 0 (λ e. absurd (omega arith)))

pub equal_append : (s a b : List ℕ) → equal s (a ++ b) ≡ (equal (take (length a) s) a && equal (drop (length a) s) b)
unfolding equal
equal_append s [] b = refl
equal_append [] (x ∷ a) b = refl
equal_append (y ∷ s) (x ∷ a) b = by (eqb y x) (equal_append s a b)
  where
    by : (c : Bool) → equal s (a ++ b) ≡ (equal (take (length a) s) a && equal (drop (length a) s) b)
        → (c && equal s (a ++ b)) ≡ ((c && equal (take (length a) s) a) && equal (drop (length a) s) b)
    by true h = h
    by false h = refl

module _ (s : List ℕ) (x : LineEntry) where
  pub line_same : x.ruled ≡ true → (b : Bool) → b ≡ equal s (entry_bytes x.entry) → b ≡ equal s (line_bytes x)
  unfolding line_bytes
  line_same e b is_b = rw e is_b

  pub line_empty : x.ruled ≡ false → eqb (length s) 0 ≡ equal s (line_bytes x)
  unfolding line_bytes
  line_empty e = rw e (sym (equal_nil s))

pub part_length : (s : List ℕ) (m : ℕ) → m ≤ length s → m ≡ length (take m s)
part_length s m h = sym (length-take-le m s h)

pub record Comparing (base : ℕ) (t bytes rest : List ℕ) (i n : ℕ) : Type 0 where
  pub within : i ≤ length t + 1
  pub number : n ≤ i + 1
  pub same : equal bytes (table_bytes (rule_table base (lines t))) ≡ equal rest (table_bytes (table_from base t i n))

pub comparing_start : (base : ℕ) (t bytes : List ℕ) → Comparing base t bytes bytes 0 1
comparing_start base t bytes = record {
  within = omega arith;
  number = omega arith;
  same =
      ap (λ (es : List Entry). equal bytes (table_bytes es)) (table_start base t);
}

module _ (base : ℕ) (t bytes rest : List ℕ) (i n : ℕ) (w : Comparing base t bytes rest i n) where
  pub comparing_end : length t ≤ i → eqb (length rest) 0 ≡ equal bytes (table_bytes (rule_table base (lines t)))
  unfolding table_bytes
  comparing_end h = sym (w.same ∙ ap (λ (es : List Entry). equal rest (table_bytes es)) (table_end base t i n h) ∙ equal_nil rest)

  module _ (h : i < length t) (x : LineEntry) (is_x : x ≡ line_entry base t i n (span_at i (scan_line (drop i t)))) (k : ℕ) (is-k : k ≡ rules_in x) where
    abbrev tail : List ℕ
    tail = table_bytes (table_from base t x.next x.number)

    here_same : equal bytes (table_bytes (rule_table base (lines t))) ≡ equal rest (line_bytes x ++ tail)
    here_same = w.same ∙ ap (equal rest) (bytes_more base t i n h x is_x)

    line_length : length (line_bytes x) ≡ 32 * k
    line_length = length_line_bytes x ∙ ap (λ (m : ℕ). 32 * m) (sym is-k)

    pub comparing_short : length rest < 32 * k → false ≡ equal bytes (table_bytes (rule_table base (lines t)))
    comparing_short s = sym (here_same ∙ equal_lengths rest (line_bytes x ++ tail)
        (λ e. absurd (omega (arith, e, length-append (line_bytes x) tail, line_length))))

    module _ (y : Bool) (is_y : y ≡ equal (take (32 * k) rest) (line_bytes x)) where
      parted_same_bytes : equal bytes (table_bytes (rule_table base (lines t))) ≡ (y && equal (drop (32 * k) rest) tail)
      parted_same_bytes =
          here_same ∙ equal_append rest (line_bytes x) tail
          ∙ ap (λ (m : ℕ). equal (take m rest) (line_bytes x) && equal (drop m rest) tail) line_length
          ∙ ap (λ (b : Bool). b && equal (drop (32 * k) rest) tail) (sym is_y)

      pub comparing_differs : not y ≡ true → false ≡ equal bytes (table_bytes (rule_table base (lines t)))
      comparing_differs e = sym (parted_same_bytes ∙ by y e)
        where
          by : (y : Bool) → not y ≡ true → (y && equal (drop (32 * k) rest) tail) ≡ false
          by true e = absurd (true≢false (sym e))
          by false e = refl

      pub comparing_more : not y ≡ false → Comparing base t bytes (take (length rest - 32 * k) (drop (32 * k) rest)) x.next x.number
      comparing_more e = record {
        within = next_within base t i n h x is_x;
        number = next_number base t i n h x is_x w.number;
        same = parted_same_bytes ∙ by y e ∙ ap (λ (s : List ℕ). equal s tail) (sym (take_rest rest (32 * k)));
      }
        where
          by : (y : Bool) → not y ≡ false → (y && equal (drop (32 * k) rest) tail) ≡ equal (drop (32 * k) rest) tail
          by true e = refl
          by false e = absurd (true≢false e)
