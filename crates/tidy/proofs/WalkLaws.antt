-- Laws of a walk over the lines of a sound text, as the loops of the code make it.
--   At text i n == the walk stands at the place i, before the line of number n, and what is left is sound
-- Assumes nothing.
use Rattle.std.specs.Prelude.{None, Option, Some, unwrap_or}
use Prim.Native.Nat.{ℕ, zero, suc, ◌+◌, ◌*◌, ◌-◌, ◌<◌, ◌≤◌}
use native.Mathlib.Nat.{add-sub_cancel_left}
use native.Mathlib.Omega.{arith}
use mathlib.Core.Bool.{Bool, true, false, not, ◌&&◌, ◌||◌, or-true}
use mathlib.Core.List.{List, [], ◌∷◌, ◌++◌}
use mathlib.Core.Path.{◌≡◌, refl, sym, ap, ◌∙◌}
use borrow.Author.Tests.{ltb-false, not-false}
use lib.Dec.{ltb}
use lib.ListN.{length, take, drop}
use Rattle.text.specs.Basics.{when◌then◌else◌, ◌or_else◌, ◌>>=◌, any, first}
use Rattle.text.specs.Text.{among, cons_first, split}
use Rattle.section.specs.declared.Fault.{Fault}
use Rattle.section.specs.declared.Fault.TheVariants as F
use Rattle.section.specs.Refusal.{lowest}
use Rattle.lines.specs.declared.line.LineSpan.{LineSpan}
use Rattle.lines.specs.Line.{Line, line, join, logical_lines, lines, has_bad_byte, is_too_long, is_comment, is_blank}
use Rattle.lines.specs.Scan.{span_at, scan_line, SpanBounds}
use Rattle.lines.proofs.LineLaws.{first_logical_lines_drop, lines_start, scan_line_bounds}
use Rattle.rules.specs.Check.{line_fault_by, line_fault}
use Rattle.lists.specs.Check.{rule_fault, without_except, has_no_element, except_misplaced, has_unknown}
use Rattle.elements.specs.Element.{daemon_reserved, client_reserved, daemon_element, client_element}
use Rattle.lines.specs.Rule.{Rule, split_separator, non_empty, elements, parse_rule}
use Rattle.lines.specs.Command.{has_bad_percent}
use Rattle.tidy.specs.Tidy.{rule_of}
use Rattle.tidy.specs.Code.{Sound, raw_at}

none_both : {A : Type 0} (o u : Option A) → o or_else u ≡ None → (o ≡ None) × (u ≡ None)
none_both None u e = (refl, e)
none_both (Some a) u e = let z : ◌≡◌ {A = ℕ} 0 1 = cc in absurd (omega arith)

lowest_none : (a b c : Bool) → lowest ((F.Unended, a) ∷ (F.BadByte, b) ∷ (F.LongLine, c) ∷ []) ≡ None → (a ≡ false) × (c ≡ false)
unfolding lowest
lowest_none true b c e = let z : ◌≡◌ {A = ℕ} 0 1 = cc in absurd (omega arith)
lowest_none false true c e = let z : ◌≡◌ {A = ℕ} 0 1 = cc in absurd (omega arith)
lowest_none false false true e = let z : ◌≡◌ {A = ℕ} 0 1 = cc in absurd (omega arith)
lowest_none false false false e = (refl, refl)

line_tests : (l : Line) → line_fault l ≡ None → (not l.ended ≡ false) × (ltb 2047 (length (join l.raw)) ≡ false)
unfolding line_fault_by
line_tests l e =
    lowest_none (not l.ended) (not (is_comment l) && has_bad_byte (join l.raw)) (is_too_long (join l.raw))
    (none_both
    (lowest
    ((F.Unended, not l.ended)
    ∷ (F.BadByte, not (is_comment l) && has_bad_byte (join l.raw))
    ∷ (F.LongLine, is_too_long (join l.raw)) ∷ []))
    (when is_comment l || is_blank l then None else rule_fault (Rattle.lines.specs.Rule.parse_rule l.raw)) e).0

no_element : (a b c d e : Bool) → lowest ((F.NoElement, a) ∷ (F.MisplacedExcept, b) ∷ (F.ReservedStart, c) ∷ (F.UnknownElement, d) ∷ (F.BadPercent, e) ∷ [])
    ≡ None
    → a ≡ false
unfolding lowest
no_element true b c d e h = let z : ◌≡◌ {A = ℕ} 0 1 = cc in absurd (omega arith)
no_element false b c d e h = refl

both_elements : (u : Rule) → rule_fault (Some u) ≡ None → (has_no_element u.daemons || has_no_element u.clients) ≡ false
unfolding rule_fault
both_elements u h =
    no_element (has_no_element u.daemons || has_no_element u.clients) (except_misplaced false u.daemons || except_misplaced false u.clients)
    (any daemon_reserved (without_except u.daemons) || any client_reserved (without_except u.clients))
    (has_unknown (daemon_element (λ n h. false)) u.daemons || has_unknown (client_element (λ n h. false)) u.clients) (has_bad_percent u.command) h

-- a rule as its first parting gives it
abbrev parted : Option (List ℕ × List ℕ) → Option Rule
parted o = do
  p ← o
  let q = unwrap_or (split_separator false p.1) (p.1, [])
  Some (record { daemons = elements p.0; clients = elements q.0; command = q.1 })

elements_none : elements [] ≡ []
unfolding elements non_empty split join
elements_none = refl

none_of_none : has_no_element (elements []) ≡ true
unfolding without_except
none_of_none = rw elements_none

unparted : rule_fault (parted None) ≡ None → ⊥
unfolding rule_fault
unparted h = let z : ◌≡◌ {A = ℕ} 0 1 = cc in omega arith

no_daemon : (t : List ℕ) → rule_fault (parted (Some ([], t))) ≡ None → ⊥
no_daemon t h =
    let e : (has_no_element (elements []) || has_no_element (elements (unwrap_or (split_separator false t) (t, [])).0)) ≡ false = both_elements _ h in
    let z : ◌≡◌ {A = Bool} true false = sym (ap (λ (b : Bool). b || has_no_element (elements (unwrap_or (split_separator false t) (t, [])).0)) none_of_none)
    ∙ e in
    let n : ◌≡◌ {A = ℕ} 0 1 = cc in omega arith

no_client : (s : List ℕ) → rule_fault (parted (Some (s, []))) ≡ None → ⊥
unfolding split_separator
no_client s h =
    let e : (has_no_element (elements s) || has_no_element (elements [])) ≡ false = both_elements _ h in
    let z : ◌≡◌ {A = Bool} true false = sym (ap (λ (b : Bool). has_no_element (elements s) || b) none_of_none ∙ or-true (has_no_element (elements s))) ∙ e in
    let n : ◌≡◌ {A = ℕ} 0 1 = cc in omega arith

-- a sound rule has a daemon, a separator and a client
long_rule : (raw : List ℕ) → rule_fault (parse_rule raw) ≡ None → 3 ≤ length raw
unfolding parse_rule split_separator
long_rule [] h = absurd (unparted h)
long_rule (x ∷ []) h = absurd (by (among ":" x) h)
  where
    by : (b : Bool) → rule_fault (parted (when b then Some ([], []) else cons_first x None)) ≡ None → ⊥
    by true k = no_daemon [] k
    by false k = unparted k
long_rule (x ∷ y ∷ []) h = absurd (by (among ":" x) (not (among "[" x) && among ":" y) h)
  where
    by : (b c : Bool) → rule_fault (parted (when b then Some ([], y ∷ []) else cons_first x (when c then Some ([], []) else cons_first y None))) ≡ None → ⊥
    by true c k = no_daemon (y ∷ []) k
    by false true k = no_client (x ∷ []) k
    by false false k = unparted k
long_rule (x ∷ y ∷ z ∷ s) h = omega arith

take_few : (k : ℕ) (l : List ℕ) → length (take k l) ≤ k
take_few zero l = omega arith
take_few (suc k) [] = omega arith
take_few (suc k) (x ∷ l) = omega (arith, take_few k l)

pub record At (text : List ℕ) (i n : ℕ) : Type 0 where
  pub within : i ≤ length text
  pub numbered : n ≤ i + 1
  pub left : first line_fault (logical_lines n i (split "\n" (drop i text))) ≡ None

pub at_start : (text : List ℕ) → Sound text → At text 0 1
unfolding Sound
at_start text h = record { within = omega arith; numbered = omega arith; left = sym (ap (first line_fault) (lines_start text)) ∙ h }

module _ (text : List ℕ) (i n : ℕ) (h : At text i n) (l : i < length text) (r : LineSpan) (is-r : r ≡ span_at i (scan_line (drop i text))) where
  abbrev raw : List ℕ
  raw = take (r.end - i) (drop i text)

  both : (line_fault (line n i raw r.ended) ≡ None)
      × (first line_fault (logical_lines (n + r.joins + 1) (r.end + 1) (split "\n" (drop (r.end + 1) text))) ≡ None)
  both =
      none_both (line_fault (line n i raw r.ended)) (first line_fault (logical_lines (n + r.joins + 1) (r.end + 1) (split "\n" (drop (r.end + 1) text))))
      (sym (first_logical_lines_drop text i r is-r line_fault n l) ∙ h.left)

  bounds : SpanBounds (length text) i r
  bounds = scan_line_bounds text i r (omega arith) is-r

  pub at_ended : r.ended ≡ true
  at_ended = not-false r.ended (line_tests (line n i raw r.ended) both.0).0

  pub at_below : r.end < length text
  at_below = bounds.below at_ended

  pub at_short : length (join (take (r.end - i) (drop i text))) ≤ 2048
  at_short = omega (arith, ltb-false 2047 (length (join raw)) (line_tests (line n i raw r.ended) both.0).1)

  pub at_next : At text (r.end + 1) (n + r.joins + 1)
  at_next = record {
    within = omega (arith, at_below);
    numbered = omega (arith, h.numbered, bounds.pairs, bounds.from);
    left = both.1;
  }

  pub at_raw : raw_at text i ≡ take (r.end - i) (drop i text)
  unfolding raw_at
  at_raw = rw (is-r, add-sub_cancel_left i (scan_line (drop i text)).end)

  pub at_from : i ≤ r.end
  at_from = bounds.from

  pub at_rule : (v : Rule) → rule_of (line 0 0 (take (r.end - i) (drop i text)) true) ≡ Some v → i + 4 ≤ r.end + 1
  unfolding line_fault_by
  at_rule v e = by (is_comment (line n i raw r.ended) || is_blank (line n i raw r.ended)) e tests
    where
      tests : (when is_comment (line n i raw r.ended) || is_blank (line n i raw r.ended) then None else rule_fault (parse_rule raw)) ≡ None
      tests =
          (none_both
          (lowest
          ((F.Unended, not r.ended)
          ∷ (F.BadByte, not (is_comment (line n i raw r.ended)) && has_bad_byte (join raw))
          ∷ (F.LongLine, is_too_long (join raw)) ∷ []))
          (when is_comment (line n i raw r.ended) || is_blank (line n i raw r.ended) then None else rule_fault (parse_rule raw)) both.0).1

      by : (b : Bool) → (when b then None else parse_rule raw) ≡ Some v → (when b then None else rule_fault (parse_rule raw)) ≡ None → i + 4 ≤ r.end + 1
      by true k f = let z : ◌≡◌ {A = ℕ} 0 1 = cc in absurd (omega arith)
      by false k f = omega (arith, long_rule raw f, take_few (r.end - i) (drop i text), at_from)

  pub at_number : length text ≤ 16384 → n < 16385
  at_number k = omega (arith, h.numbered)
