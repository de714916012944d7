-- The rule at the places of an entry is the rule of its line, so the search by entries is the search by lines.
--   lines_ind   == what holds of no lines, and of one line more as it is scanned, holds of the lines of a text
--   all_small   == the numbers of the entries of a text have at most four bytes
--   text_same   == what the entries of a sound text find and look at is what its lines do
-- Assumes nothing.
use Rattle.std.specs.Prelude.{None, Option, Some}
use Prim.Native.Nat.{ℕ, zero, suc, ◌+◌, ◌-◌, ◌*◌, ◌≤◌, ◌<◌}
use mathlib.Core.Bool.{Bool, true, false, not, ◌&&◌, ◌||◌, true≢false}
use mathlib.Core.List.{List, [], ◌∷◌}
use mathlib.Core.Path.{◌≡◌, refl, sym, ap, ap₂, subst, ◌∙◌}
use native.Mathlib.Nat.{add-sub_cancel_left}
use native.Mathlib.Omega.{arith}
use borrow.Author.Tests.{eqb-true, eqb-false, ltb-true, ltb-false, lt-ltb, le-ltb}
use lib.Dec.{eqb, ltb}
use lib.ListN.{length, take, drop, length-drop, drop_of_length-le}
use lib.Seq.{length-take-le, take_all, drop-drop}
use Rattle.text.specs.Basics.{when◌then◌else◌, ◌>>=◌, ◌or_else◌, given, is_some, is_empty, all, first, sum_until}
use Rattle.text.specs.Text.{among, first_among, split}
use Rattle.text.proofs.ScanLaws.{take_rest}
use Rattle.section.specs.declared.Fault.{Fault}
use Rattle.section.specs.declared.Fault.TheVariants as F
use Rattle.section.specs.declared.Part.{Part}
use Rattle.section.specs.declared.Refusal.{Refusal}
use Rattle.section.specs.Refusal.{lowest, at_place}
use Rattle.section.specs.Section.{Section, part, bytes_at}
use Rattle.lines.specs.declared.line.LineSpan.{LineSpan}
use Rattle.lines.specs.Line.{Line, line, join, logical_lines, lines, is_comment, is_blank, has_bad_byte, is_too_long}
use Rattle.lines.specs.Rule.{Rule, split_separator, elements, parse_rule}
use Rattle.lines.specs.Command.{trimmed}
use Rattle.lines.specs.Parts.{separator_index, after_separator, words}
use Rattle.lines.specs.Scan.{span_at, scan_line, SpanBounds}
use Rattle.lines.proofs.LineLaws.{scan_line_bounds, line_joined, length_line, line_no_newline, join_part, logical_lines_drop, logical_lines_end}
use Rattle.lines.proofs.RuleLaws.{rule, split_separator_none, split_separator_some, parse_rule_none, parse_rule_some, elements_words}
use Rattle.elements.specs.declared.Found.{Found}
use Rattle.elements.specs.declared.Found.TheVariants as Found
use Rattle.lists.specs.Check.{rule_fault}
use Rattle.rules.specs.declared.Verdict.{Verdict}
use Rattle.rules.specs.declared.Verdict.TheVariants as Ver
use Rattle.rules.specs.declared.File.{File}
use Rattle.rules.specs.declared.Answer.{Answer}
use Rattle.rules.specs.Check.{line_fault_by, line_fault, hosts_fault}
use Rattle.rules.specs.Search.{answer, raw_command, rule_answer, line_answer}
use Rattle.rules.specs.Looked.{of_rule, line_count}
use Rattle.rules.specs.FileCode.{Query, query_found, query_looked}
use Rattle.rules.proofs.JoinLaws.{join_parts, split_separator_join, is_empty_trimmed}
use Rattle.sheet.proofs.FrameLaws.{take_drop_take}
use Rattle.index.specs.declared.Entry.{Entry}
use Rattle.index.specs.Index.{range, rule_entry, with_entry, rule_table}
use Rattle.index.specs.Code.{has_rule, entry_by, SmallRange, Small, AllSmall, between, joined_list, list_at, command_start, command_text, entry_command, joins_in}
use Rattle.index.specs.Code.{entry_rule}
use Rattle.index.specs.Code.{rule_answer_at, entry_answer, entry_looked}
use Rattle.index.proofs.TableLaws.{separator_index_le, entry_of_line}

-- ## The lines of a text, one after the other

module _ (t : List ℕ) (P : List Line → Type 0) (nothing : P [])
    (more : (n i : ℕ) (l : LineSpan) → l ≡ span_at i (scan_line (drop i t)) → i < length t → n ≤ i + 1 → (ls : List Line) → P ls
    → P (line n i (take (l.end - i) (drop i t)) l.ended ∷ ls)) where
  lines_from : (k n i : ℕ) → length t ≤ i + k → n ≤ i + 1 → P (logical_lines n i (split "\n" (drop i t)))
  lines_from zero n i h m = subst P (sym (logical_lines_end t i n i (omega arith))) nothing
  lines_from (suc k) n i h m = by (ltb i (length t)) refl (lines_from k)
    where
      by : (b : Bool) → ltb i (length t) ≡ b
          → ((n i : ℕ) → length t ≤ i + k → n ≤ i + 1 → P (logical_lines n i (split "\n" (drop i t)))) → P (logical_lines n i (split "\n" (drop i t)))
      by true e ih =
          let l : LineSpan = span_at i (scan_line (drop i t)) in
          let lt : i < length t = ltb-true i (length t) e in
          let b : SpanBounds (length t) i l = scan_line_bounds t i l (omega arith) refl in
          subst P (sym (logical_lines_drop t i l refl n lt))
          (more n i l refl lt m (logical_lines (n + l.joins + 1) (l.end + 1) (split "\n" (drop (l.end + 1) t)))
          (ih (n + l.joins + 1) (l.end + 1) (omega (arith, b.from)) (omega (arith, b.from, b.pairs))))
      by false e ih = subst P (sym (logical_lines_end t i n i (ltb-false i (length t) e))) nothing

  pub lines_ind : P (lines t)
  unfolding lines
  lines_ind = lines_from (length t) 1 0 (omega arith) (omega arith)

-- ## Small numbers

module _ (base : ℕ) (t : List ℕ) (few : base + length t + 2 < 4294967296) where
  small_nothing : AllSmall (rule_table base [])
  unfolding rule_table
  small_nothing = tt

  module _ (n i : ℕ) (l : LineSpan) (is-l : l ≡ span_at i (scan_line (drop i t))) (h : i < length t) (m : n ≤ i + 1) where
    small_entry : Small (entry_by (take (l.end - i) (drop i t)) (base + i) n l.joins)
    unfolding entry_by after_separator
    small_entry =
        let raw : List ℕ = take (l.end - i) (drop i t) in
        let b : SpanBounds (length t) i l = scan_line_bounds t i l (omega arith) is-l in
        let k : length raw ≡ l.end - i = length_line t i l is-l (omega arith) in
        let s : separator_index false raw ≤ length raw = separator_index_le false raw in
        let u : separator_index false (drop (separator_index false raw + 1) raw) ≤ length (drop (separator_index false raw + 1) raw)
        = separator_index_le false (drop (separator_index false raw + 1) raw) in
        let v : length (drop (separator_index false raw + 1) raw) ≡ length raw - (separator_index false raw + 1) =
        length-drop (separator_index false raw + 1) raw in
        let bf : i ≤ l.end = b.from in
        let bw : l.end ≤ length t = b.within in
        let bp : 2 * l.joins ≤ l.end - i = b.pairs in
        record {
          small_lines = record { small_start = omega arith; small_end = omega arith };
          small_rule = record { small_start = omega arith; small_end = omega arith };
          small_daemons = record { small_start = omega arith; small_end = omega arith };
          small_clients = record { small_start = omega arith; small_end = omega arith };
        }

    small_more : (ls : List Line) → AllSmall (rule_table base ls) → AllSmall (rule_table base (line n i (take (l.end - i) (drop i t)) l.ended ∷ ls))
    unfolding rule_table
    small_more ls ih =
        subst (λ (o : Option Entry). AllSmall (with_entry o (rule_table base ls)))
        (sym (entry_of_line base n i (take (l.end - i) (drop i t)) l.ended l.joins (line_joined t i l is-l).lengths))
        (by (has_rule (take (l.end - i) (drop i t))))
      where
        by : (c : Bool) → AllSmall (with_entry (given c (entry_by (take (l.end - i) (drop i t)) (base + i) n l.joins)) (rule_table base ls))
        by true = (small_entry, ih)
        by false = ih

  pub all_small : AllSmall (rule_table base (lines t))
  all_small = lines_ind t (λ ls. AllSmall (rule_table base ls)) small_nothing small_more

-- ## Joined parts are no longer than the joined line

split_le : (s : List ℕ) (x : List ℕ × List ℕ) → split_separator false s ≡ Some x → (length x.0 ≤ length s) × (length x.1 ≤ length s)
split_le s x e = by (ltb (separator_index false s) (length s)) refl
  where
    by : (b : Bool) → ltb (separator_index false s) (length s) ≡ b → (length x.0 ≤ length s) × (length x.1 ≤ length s)
    by true k =
        let l : separator_index false s < length s = ltb-true (separator_index false s) (length s) k in
        let same : (take (separator_index false s) s, drop (separator_index false s + 1) s) ≡ x =
        cc (sym (split_separator_some s (separator_index false s) refl l) ∙ e) in
        subst (λ (x : List ℕ × List ℕ). (length x.0 ≤ length s) × (length x.1 ≤ length s)) same
        (omega (arith, length-take-le (separator_index false s) s (omega arith)), omega (arith, length-drop (separator_index false s + 1) s))
    by false k =
        let n : split_separator false s ≡ None = split_separator_none s (separator_index false s) refl (ltb-false (separator_index false s) (length s) k) in
        let z : ◌≡◌ {A = ℕ} 0 1 = cc (sym n ∙ e) in absurd (omega arith)

module _ (s : List ℕ) (ruled : separator_index false s < length s) where
  joined_parts : (length (join (take (separator_index false s) s)) ≤ length (join s)) × (length (join (drop (separator_index false s + 1) s)) ≤ length (join s))
  joined_parts =
      split_le (join s) (join (take (separator_index false s) s), join (drop (separator_index false s + 1) s))
      (split_separator_join false s ∙ ap join_parts (split_separator_some s (separator_index false s) refl ruled))

joined_front : (s : List ℕ) → length (join (take (separator_index false s) s)) ≤ length (join s)
joined_front s = by (ltb (separator_index false s) (length s)) refl
  where
    by : (b : Bool) → ltb (separator_index false s) (length s) ≡ b → length (join (take (separator_index false s) s)) ≤ length (join s)
    by true k = (joined_parts s (ltb-true (separator_index false s) (length s) k)).0
    by false k = rw (take_all (separator_index false s) s (ltb-false (separator_index false s) (length s) k)) (omega arith)

-- ## A sound line

none_both : {A : Type 0} (x y : Option A) → x or_else y ≡ None → (x ≡ None) × (y ≡ None)
none_both None y e = (refl, e)
none_both (Some a) y e = let z : ◌≡◌ {A = ℕ} 0 1 = cc in absurd (omega arith)

place_none : (s n : ℕ) (o : Option Fault) → at_place s n o ≡ None → o ≡ None
place_none s n None e = refl
place_none s n (Some f) e = let z : ◌≡◌ {A = ℕ} 0 1 = cc in absurd (omega arith)

lowest_none : (a b c : Bool) → lowest ((F.Unended, a) ∷ (F.BadByte, b) ∷ (F.LongLine, c) ∷ []) ≡ None → c ≡ false
unfolding lowest
lowest_none true b c e = let z : ◌≡◌ {A = ℕ} 0 1 = cc in absurd (omega arith)
lowest_none false true c e = let z : ◌≡◌ {A = ℕ} 0 1 = cc in absurd (omega arith)
lowest_none false false true e = let z : ◌≡◌ {A = ℕ} 0 1 = cc in absurd (omega arith)
lowest_none false false false e = refl

short_line : (x : Line) → line_fault x ≡ None → length (join x.raw) ≤ 2047
unfolding line_fault_by
short_line x e =
    ltb-false 2047 (length (join x.raw))
    (lowest_none (not x.ended) (not (is_comment x) && has_bad_byte (join x.raw)) (is_too_long (join x.raw))
    (none_both
    (lowest ((F.Unended, not x.ended) ∷ (F.BadByte, not (is_comment x) && has_bad_byte (join x.raw)) ∷ (F.LongLine, is_too_long (join x.raw)) ∷ []))
    (when is_comment x || is_blank x then None else rule_fault (parse_rule x.raw)) e).0)

-- ## The rule at the places of an entry

-- the answer of a file that stands at a place
abbrev pub moved : ℕ → Answer → Answer
moved base a = answer a.verdict a.file a.line (part (base + a.command.place) a.command.len)

abbrev pub in_file : ℕ → Option Answer → Option Answer
in_file base None = None
in_file base (Some a) = Some (moved base a)

in_file_or_else : (base : ℕ) (x y : Option Answer) → in_file base (x or_else y) ≡ in_file base x or_else in_file base y
in_file_or_else base None y = refl
in_file_or_else base (Some a) y = refl

in_file_some : (base : ℕ) (x : Option Answer) → is_some (in_file base x) ≡ is_some x
in_file_some base None = refl
in_file_some base (Some a) = refl

rule_same : (ds ds' cs cs' : List (List ℕ)) (k k' : List ℕ) → ds ≡ ds' → cs ≡ cs' → k ≡ k' → rule ds cs k ≡ rule ds' cs' k'
rule_same ds ds' cs cs' k k' d c e = rw (d, c, e)

module _ (sheet : List ℕ) (p : Part) (inside : p.place + p.len ≤ length sheet) where
  abbrev t : List ℕ
  t = bytes_at sheet p

  abbrev base : ℕ
  base = p.place

  text_length : length t ≡ p.len
  text_length = length-take-le p.len (drop base sheet) (omega (arith, length-drop base sheet))

  module _ (n i : ℕ) (l : LineSpan) (is-l : l ≡ span_at i (scan_line (drop i t))) (h : i < length t) where
    abbrev raw : List ℕ
    raw = take (l.end - i) (drop i t)

    abbrev sep : ℕ
    sep = separator_index false raw

    abbrev rest : List ℕ
    rest = drop (sep + 1) raw

    abbrev second : ℕ
    second = separator_index false rest

    abbrev e : Entry
    e = entry_by raw (base + i) n l.joins

    bounds : SpanBounds (length t) i l
    bounds = scan_line_bounds t i l (omega arith) is-l

    raw_length : length raw ≡ l.end - i
    raw_length = length_line t i l is-l (omega arith)

    -- a part of the line, in the sheet
    in_sheet_lem : (k x : ℕ) → x + k ≤ length raw → take k (drop x raw) ≡ take k (drop (base + i + x) sheet)
    in_sheet_lem k x w =
        let u : base + (i + x) ≡ base + i + x = omega arith in
        take_drop_take k x (l.end - i) (drop i t) (omega (arith, raw_length))
        ∙ ap (take k) (drop-drop x i t)
        ∙ take_drop_take k (i + x) p.len (drop base sheet) (omega (arith, raw_length, bounds.within, bounds.from, text_length))
        ∙ ap (take k) (drop-drop (i + x) base sheet)
        ∙ ap (λ (m : ℕ). take k (drop m sheet)) u

    rest_length : length rest ≡ length raw - (sep + 1)
    rest_length = length-drop (sep + 1) raw

    second_within : second ≤ length rest
    second_within = separator_index_le false rest

    module _ (ruled : sep < length raw) where
      daemons_text : between e.daemons sheet ≡ take sep raw
      unfolding between entry_by
      daemons_text =
          let z : base + i + 0 ≡ base + i = omega arith in
          ap (λ (k : ℕ). take k (drop (base + i) sheet)) (add-sub_cancel_left (base + i) sep)
          ∙ sym (in_sheet_lem sep 0 (omega arith) ∙ ap (λ (m : ℕ). take sep (drop m sheet)) z)

      clients_text : between e.clients sheet ≡ take second rest
      unfolding between entry_by after_separator
      clients_text =
          let z : base + i + (sep + 1) ≡ base + i + sep + 1 = omega arith in
          ap (λ (k : ℕ). take k (drop (base + i + sep + 1) sheet)) (add-sub_cancel_left (base + i + sep + 1) second)
          ∙ sym (in_sheet_lem second (sep + 1) (omega (arith, rest_length, second_within)) ∙ ap (λ (m : ℕ). take second (drop m sheet)) z)

      -- the command, and where it starts
      command_both : (command_text sheet e ≡ drop (second + 1) rest) × (command_start e ≡ base + (i + (length raw - length (drop (second + 1) rest))))
      unfolding between command_start entry_by after_separator
      command_both = by (ltb (base + i + sep + 1 + second) (base + i + length raw)) refl
        where
          by : (b : Bool) → ltb (base + i + sep + 1 + second) (base + i + length raw) ≡ b
              → (take (base + i + length raw - (when b then base + i + sep + 1 + second + 1 else base + i + length raw))
              (drop (when b then base + i + sep + 1 + second + 1 else base + i + length raw) sheet) ≡ drop (second + 1) rest)
              × ((when b then base + i + sep + 1 + second + 1 else base + i + length raw) ≡ base + (i + (length raw - length (drop (second + 1) rest))))
          by true k =
              let lt : base + i + sep + 1 + second < base + i + length raw = ltb-true (base + i + sep + 1 + second) (base + i + length raw) k in
              let d : drop (second + 1) rest ≡ drop (sep + 1 + (second + 1)) raw = drop-drop (second + 1) (sep + 1) raw in
              let len : length (drop (second + 1) rest) ≡ length raw - (sep + 1 + (second + 1)) = ap length d ∙ length-drop (sep + 1 + (second + 1)) raw in
              let z : base + i + (sep + 1 + (second + 1)) ≡ base + i + sep + 1 + second + 1 = omega arith in
              let m : base + i + length raw - (base + i + sep + 1 + second + 1) ≡ length raw - (sep + 1 + (second + 1)) = omega arith in (
                ap (λ (k : ℕ). take k (drop (base + i + sep + 1 + second + 1) sheet)) m
                    ∙ sym (d ∙ sym (take_rest raw (sep + 1 + (second + 1)))
                    ∙ in_sheet_lem (length raw - (sep + 1 + (second + 1))) (sep + 1 + (second + 1)) (omega arith)
                    ∙ ap (λ (k : ℕ). take (length raw - (sep + 1 + (second + 1))) (drop k sheet)) z),
                omega arith,
              )
          by false k =
              let le : base + i + length raw ≤ base + i + sep + 1 + second = ltb-false (base + i + sep + 1 + second) (base + i + length raw) k in
              let w : length rest ≤ second + 1 = omega (arith, rest_length) in
              let m : base + i + length raw - (base + i + length raw) ≡ 0 = omega arith in
              let d : drop (second + 1) rest ≡ [] = drop_of_length-le rest w in
              let u : length raw - 0 ≡ length raw = omega arith in
              (ap (λ (k : ℕ). take k (drop (base + i + length raw) sheet)) m ∙ sym d, rw d (omega arith))

      -- a list by its entry
      list_is : (s : List ℕ) → (l.joins ≡ 0 → join s ≡ s) → length (join s) ≤ 2047 → elements s ≡ list_at (joins_in e) s
      unfolding list_at joined_list entry_by
      list_is s plain short = elements_words s ∙ by (eqb n (n + l.joins)) refl
        where
          by : (b : Bool) → eqb n (n + l.joins) ≡ b
              → words (join s) ≡ words (when not b then (when ltb 2048 (length (join s)) then [] else join s) else s)
          by true k = ap words (plain (omega (arith, eqb-true n (n + l.joins) k)))
          by false k = rw (le-ltb 2048 (length (join s)) (omega arith))

      pub parsed : length (join raw) ≤ 2047 → parse_rule raw ≡ Some (entry_rule sheet e)
      parsed short =
          let jp = joined_parts raw ruled in
          parse_rule_some raw sep refl ruled rest refl second refl
          ∙ ap Some (rule_same (elements (take sep raw)) (list_at (joins_in e) (between e.daemons sheet)) (elements (take second rest))
          (list_at (joins_in e) (between e.clients sheet)) (drop (second + 1) rest) (command_text sheet e)
          (list_is (take sep raw) (λ z. join_part raw 0 sep (line_no_newline t i l is-l z)) (omega (arith, jp.0))
          ∙ ap (list_at (joins_in e)) (sym daemons_text))
          (list_is (take second rest) (λ z. join_part raw (sep + 1) second (line_no_newline t i l is-l z)) (omega (arith, jp.1, joined_front rest))
          ∙ ap (list_at (joins_in e)) (sym clients_text))
          (sym command_both.0))

      module _ (v : Verdict) (f : File) (b : Bool) where
        answer_same : (x : Found) → rule_answer_at sheet base v f e x ≡ in_file base (rule_answer v f (line n i raw b) (entry_rule sheet e) x)
        unfolding entry_by entry_command
        answer_same Found.No = refl
        answer_same Found.Ask = let z : base ≡ base + 0 = omega arith in ap (λ (k : ℕ). Some (answer Ver.Ask f n (part k 0))) z
        answer_same Found.Yes =
            let c : List ℕ = command_text sheet e in
            ap₂ (λ (k : ℕ) (w : Bool). Some (answer v f n (part k (when w then 0 else length c))))
            (command_both.1 ∙ ap (λ (s : List ℕ). base + (i + (length raw - length s))) (sym command_both.0))
            (sym (is_empty_trimmed c))

    -- ## One line

    module _ (v : Verdict) (f : File) (q : Query) where
      abbrev here : Line
      here = line n i raw l.ended

      abbrev own : Rule
      own = entry_rule sheet e

      ruled_line : has_rule raw ≡ true → ((is_comment here || is_blank here) ≡ false) × (sep < length raw)
      unfolding has_rule
      ruled_line = by (first_among "#" (join raw)) (all (among " \t") (join raw)) (ltb sep (length raw)) refl
        where
          by : (c d s : Bool) → ltb sep (length raw) ≡ s → (when c then false else when d then false else s) ≡ true → ((c || d) ≡ false) × (sep < length raw)
          by true d s k e = absurd (true≢false (sym e))
          by false true s k e = absurd (true≢false (sym e))
          by false false s k e = (refl, ltb-true sep (length raw) (k ∙ e))

      unruled_line : has_rule raw ≡ false → (line_answer v f (query_found q) here ≡ None) × (line_count (query_looked q) here ≡ 0)
      unfolding has_rule line_answer line_count
      unruled_line = by (first_among "#" (join raw)) (all (among " \t") (join raw)) (ltb sep (length raw)) refl
        where
          by : (c d s : Bool) → ltb sep (length raw) ≡ s → (when c then false else when d then false else s) ≡ false
              → ((when c || d then None else (parse_rule raw >>= λ u. rule_answer v f here u (query_found q u))) ≡ None)
              × ((when c || d then 0 else of_rule (query_looked q) (parse_rule raw)) ≡ 0)
          by true d s k e = (refl, refl)
          by false true s k e = (refl, refl)
          by false false s k e =
              let z : parse_rule raw ≡ None = parse_rule_none raw sep refl (ltb-false sep (length raw) (k ∙ e)) in
              (rw z, rw z)

      module _ (ruled : has_rule raw ≡ true) (short : length (join raw) ≤ 2047) where
        parsed_own : parse_rule raw ≡ Some own
        parsed_own = parsed (ruled_line ruled).1 short

        line_is : line_answer v f (query_found q) here ≡ rule_answer v f here own (query_found q own)
        unfolding line_answer
        line_is = rw ((ruled_line ruled).0, parsed_own)

        answer_ruled : entry_answer sheet base v f q e ≡ in_file base (line_answer v f (query_found q) here)
        unfolding entry_answer
        answer_ruled = answer_same (ruled_line ruled).1 v f l.ended (query_found q own) ∙ ap (in_file base) (sym line_is)

        looked_ruled : entry_looked sheet q e ≡ line_count (query_looked q) here
        unfolding entry_looked line_count
        looked_ruled = sym (rw ((ruled_line ruled).0, parsed_own))

  -- ## The lines of a sound text

  module _ (v : Verdict) (f : File) (q : Query) where
    abbrev ans : Entry → Option Answer
    ans = entry_answer sheet base v f q

    abbrev lin : Line → Option Answer
    lin = line_answer v f (query_found q)

    pub record Same (ls : List Line) : Type 0 where
      pub answers : first ans (rule_table base ls) ≡ in_file base (first lin ls)
      pub counts : sum_until (λ x. is_some (ans x)) (entry_looked sheet q) (rule_table base ls) ≡ sum_until (λ x. is_some (lin x)) (line_count (query_looked q)) ls

    same_nothing : Same []
    unfolding rule_table first sum_until
    same_nothing = record { answers = refl; counts = refl }

    module _ (x : Line) (ls : List Line) (s : Same ls) where
      same_passed : rule_entry base x ≡ None → lin x ≡ None → line_count (query_looked q) x ≡ 0 → Same (x ∷ ls)
      unfolding rule_table first sum_until
      same_passed en an co = record {
        answers = rw (en, an) s.answers;
        counts = rw (en, an, co) (s.counts ∙ omega arith);
      }

      same_ruled : (e : Entry) → rule_entry base x ≡ Some e → ans e ≡ in_file base (lin x) → entry_looked sheet q e ≡ line_count (query_looked q) x → Same (x ∷ ls)
      unfolding rule_table first sum_until
      same_ruled e en an co = record {
        answers = rw en (ap₂ ◌or_else◌ an s.answers ∙ sym (in_file_or_else base (lin x) (first lin ls)));
        counts = rw (en, co)
            (ap₂ (λ (b : Bool) (k : ℕ). line_count (query_looked q) x + (when b then 0 else k)) (ap (λ (o : Option Answer). is_some o) an ∙ in_file_some base (lin x))
            s.counts);
      }

    module _ (s : Section) where
      abbrev fault : Line → Option Refusal
      fault x = at_place s.order x.number (line_fault x)

      module _ (n i : ℕ) (l : LineSpan) (is-l : l ≡ span_at i (scan_line (drop i t))) (h : i < length t) (m : n ≤ i + 1) (ls : List Line) where
        abbrev this : Line
        this = line n i (take (l.end - i) (drop i t)) l.ended

        same_more : (first fault ls ≡ None → Same ls) → first fault (this ∷ ls) ≡ None → Same (this ∷ ls)
        unfolding first
        same_more ih sound =
            let both = none_both (fault this) (first fault ls) sound in
            let short : length (join this.raw) ≤ 2047 = short_line this (place_none s.order n (line_fault this) both.0) in
            by (has_rule this.raw) refl (ih both.1) short
          where
            entry : (b : Bool) → has_rule this.raw ≡ b → rule_entry base this ≡ given b (entry_by this.raw (base + i) n l.joins)
            entry b k = entry_of_line base n i this.raw l.ended l.joins (line_joined t i l is-l).lengths ∙ rw k

            by : (b : Bool) → has_rule this.raw ≡ b → Same ls → length (join this.raw) ≤ 2047 → Same (this ∷ ls)
            by true k y short =
                same_ruled this ls y (entry_by this.raw (base + i) n l.joins) (entry true k)
                (answer_ruled n i l is-l h v f q k short) (looked_ruled n i l is-l h v f q k short)
            by false k y short =
                same_passed this ls y (entry false k) (unruled_line n i l is-l h v f q k).0 (unruled_line n i l is-l h v f q k).1

      sound_nothing : first fault [] ≡ None → Same []
      sound_nothing e = same_nothing

      pub text_same : hosts_fault s t ≡ None → Same (lines t)
      unfolding hosts_fault
      text_same = lines_ind t (λ ls. first fault ls ≡ None → Same ls) sound_nothing same_more
