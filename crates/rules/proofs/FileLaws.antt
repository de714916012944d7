-- Laws of the pass over a text, shaped as the calls and tests of the code hand their facts over.
-- A line is read by its kind, its kind and its rule tell what it gives, and the loop goes from line to line.
-- Assumes nothing.
use Rattle.std.specs.Prelude.{Err, None, Ok, Option, Result, Some}
use Prim.Native.Nat.{ℕ, ◌+◌, ◌-◌, ◌*◌, ◌≤◌, ◌<◌}
use native.Mathlib.Nat.{sub-zero}
use native.Mathlib.Omega.{arith}
use mathlib.Core.Bool.{Bool, true, false, not, ◌&&◌, ◌||◌, true≢false}
use mathlib.Core.List.{List, [], ◌∷◌, ◌++◌}
use mathlib.Core.Path.{◌≡◌, refl, sym, ap, ap₂, subst, ◌∙◌}
use borrow.Author.Tests.{eqb-true, ltb-true, ltb-false, lt-ltb, le-ltb, not-false}
use lib.Dec.{eqb, ltb}
use lib.ListN.{length, take, drop, length-drop, drop_of_length-le}
use lib.Seq.{take_at, drop-nil}
use Rattle.text.specs.Basics.{when◌then◌else◌, ◌>>=◌, ◌or_else◌, is_some, all, first, sum_until}
use Rattle.text.specs.Text.{among, first_among, split}
use Rattle.text.proofs.BasicLaws.{and_true, or_false}
use Rattle.section.specs.declared.Fault.{Fault}
use Rattle.section.specs.declared.Fault.TheVariants as F
use Rattle.section.specs.declared.Part.{Part}
use Rattle.section.specs.declared.Refusal.{Refusal}
use Rattle.section.specs.Refusal.{lowest, refusal, at_place}
use Rattle.section.specs.Code.{first_holding}
use Rattle.section.proofs.RefusalLaws.{rising, lowest_first}
use Rattle.section.specs.Section.{Section, part}
use Rattle.lines.specs.declared.line.LineSpan.{LineSpan}
use Rattle.lines.specs.Line.{Line, line, join, logical_lines, lines, has_bad_byte, is_comment, is_blank, is_too_long}
use Rattle.lines.specs.Rule.{Rule, parse_rule}
use Rattle.lines.specs.Parts.{separator_index, after_separator}
use Rattle.lines.specs.Scan.{span_at, scan_line, is_line_byte, SpanBounds}
use Rattle.lines.proofs.LineLaws.{is_no_newline, scan_line_bounds, line_joined, length_line, has_bad_byte_line, line_no_newline, logical_lines_drop, logical_lines_end}
use Rattle.lines.proofs.RuleLaws.{parse_rule_none, parse_rule_parts}
use Rattle.elements.specs.declared.Found.{Found}
use Rattle.elements.specs.declared.Found.TheVariants.{No, Yes, Ask}
use Rattle.elements.specs.declared.Looked.{Looked}
use Rattle.elements.specs.Request.{Request}
use Rattle.elements.specs.Code.{View, counted, looked_for}
use Rattle.elements.proofs.CountLaws.{capped_lt, capped_small, capped_then}
use Rattle.tables.specs.Tried.{capped}
use Rattle.lists.specs.declared.pass.RuleSeen.{RuleSeen}
use Rattle.lists.specs.Code.{NoNewline, checked_of, found_by, line_found, looked_of, line_looked, judged_fault}
use Rattle.lists.specs.PassCode.{rule_seen}
use Rattle.rules.specs.declared.Verdict.{Verdict}
use Rattle.rules.specs.declared.Verdict.TheVariants as Ver
use Rattle.rules.specs.declared.File.{File}
use Rattle.rules.specs.declared.Answer.{Answer}
use Rattle.rules.specs.declared.hosts_file.Tally.{Tally}
use Rattle.rules.specs.declared.hosts_file.LineKind.{LineKind}
use Rattle.rules.specs.declared.hosts_file.LineKind.TheVariants as Kind
use Rattle.rules.specs.declared.hosts_file.Step.{Step}
use Rattle.rules.specs.Check.{line_fault_by}
use Rattle.rules.specs.Search.{answer, rule_answer, line_answer}
use Rattle.rules.specs.FileCode.{Query, query_found, judged_line, fault_at, hosts_fault_at, pass_of, pass_line, pass_text, layout_fault, kind_as, line_kind}
use Rattle.rules.specs.FileCode.{examined_as, is_refused, rule_examined, line_examined}
use Rattle.rules.specs.FileCode.{command_part, ScannedLine, step_of, combined, tallied, query_looked, line_looks, lines_looked, sought_in}
use Rattle.rules.specs.Looked.{of_rule, line_count}
use Rattle.rules.proofs.JoinLaws.{rule_examined_join, is_empty_trimmed}

-- ## The kind of a line

pub kind_lowest : (l : Line)
    → lowest
    ((F.Unended, not l.ended)
    ∷ (F.BadByte, not (is_comment l) && has_bad_byte (join l.raw))
    ∷ (F.LongLine, is_too_long (join l.raw)) ∷ [])
    ≡ layout_fault l
unfolding rising
kind_lowest l =
    lowest_first
    ((F.Unended, not l.ended)
    ∷ (F.BadByte, not (is_comment l) && has_bad_byte (join l.raw))
    ∷ (F.LongLine, is_too_long (join l.raw)) ∷ [])
    refl

module _ (s : List ℕ) (l : LineSpan) (h : ScannedLine s l) where
  pub kind_unended : not l.ended ≡ true → Kind.Faulty F.Unended ≡ line_kind (line 0 0 s l.ended)
  unfolding line_kind first_holding
  kind_unended e = rw e

  module _ (ended : not l.ended ≡ false) (x : Bool) (is_x : x ≡ first_among "#" (join s)) where
    pub kind_bad : (not x && not l.clean) ≡ true → Kind.Faulty F.BadByte ≡ line_kind (line 0 0 s l.ended)
    unfolding line_kind first_holding
    kind_bad e = rw (ended, ← is_x, h.bytes, e)

    module _ (clean : (not x && not l.clean) ≡ false) where
      pub kind_long : 2047 < length s - 2 * l.joins → Kind.Faulty F.LongLine ≡ line_kind (line 0 0 s l.ended)
      unfolding line_kind first_holding
      kind_long k = rw (ended, ← is_x, h.bytes, clean, lt-ltb 2047 (length (join s)) (omega (arith, h.lengths)))

      module _ (short : length s - 2 * l.joins ≤ 2047) where
        pub kind_comment : x ≡ true → Kind.Skipped ≡ line_kind (line 0 0 s l.ended)
        unfolding line_kind first_holding
        kind_comment e = rw (ended, ← is_x, h.bytes, clean, le-ltb 2047 (length (join s)) (omega (arith, h.lengths)), e)

        pub kind_blank : x ≡ false → (y : Bool) → y ≡ all (among " \t") (join s) → y ≡ true → Kind.Skipped ≡ line_kind (line 0 0 s l.ended)
        unfolding line_kind first_holding
        kind_blank e y is_y f = rw (ended, ← is_x, h.bytes, clean, le-ltb 2047 (length (join s)) (omega (arith, h.lengths)), e, ← is_y, f)

        pub kind_rule : x ≡ false → (y : Bool) → y ≡ all (among " \t") (join s) → y ≡ false → Kind.HasRule ≡ line_kind (line 0 0 s l.ended)
        unfolding line_kind first_holding
        kind_rule e y is_y f = rw (ended, ← is_x, h.bytes, clean, le-ltb 2047 (length (join s)) (omega (arith, h.lengths)), e, ← is_y, f)

-- ## What a rule, and a line, tells

module _ (b : Bool) (r : Query) (t : List ℕ) (x : RuleSeen) (is_x : x ≡ rule_seen r.view r.request b t) where
  checked : checked_of (judged_fault r.view (parse_rule t)) ≡ x.check
  unfolding rule_seen
  checked = sym (ap (λ (z : RuleSeen). z.check) is_x)

  pub examined_faulty : (f : Fault) → x.check ≡ Err f → Err f ≡ rule_examined b r t
  unfolding rule_examined
  examined_faulty f e = by (judged_fault r.view (parse_rule t)) (checked ∙ e)
    where
      by : (o : Option Fault) → checked_of o ≡ Err f → Err f ≡ examined_as o (sought_in b r t)
      by None k = let z : ◌≡◌ {A = ℕ} 0 1 = cc in absurd (omega arith)
      by (Some g) k = cc

  pub examined_sound : x.check ≡ (Ok tt) → Ok (looked_for x.found x.looked) ≡ rule_examined b r t
  unfolding rule_examined rule_seen
  examined_sound e = ap (λ (z : RuleSeen). Ok (looked_for z.found z.looked)) is_x ∙ by (judged_fault r.view (parse_rule t)) (checked ∙ e)
    where
      by : (o : Option Fault) → checked_of o ≡ (Ok tt) → Ok (sought_in b r t) ≡ examined_as o (sought_in b r t)
      by None k = refl
      by (Some g) k = let z : ◌≡◌ {A = ℕ} 0 1 = cc in absurd (omega arith)

-- the line as its kind has it, t being what its rule tells
abbrev examined_by : LineKind → Result Looked Fault → Result Looked Fault
examined_by (Kind.Faulty f) t = Err f
examined_by Kind.Skipped t = Ok (looked_for No 0)
examined_by Kind.HasRule t = t

examined_by_kind : (o q : Option Fault) (p : Bool) (x : Looked)
    → examined_by (kind_as o p) (examined_as q x) ≡ examined_as (o or_else (when p then None else q)) (when p then looked_for No 0 else x)
examined_by_kind (Some f) q p x = refl
examined_by_kind None q true x = refl
examined_by_kind None q false x = refl

module _ (b : Bool) (r : Query) (s : List ℕ) (l : LineSpan) (x : LineKind) (is_x : x ≡ line_kind (line 0 0 s l.ended)) where
  examined_kind : examined_by x (rule_examined b r s) ≡ line_examined b r (line 0 0 s l.ended)
  unfolding line_examined line_kind line_fault_by rule_examined
  examined_kind =
      let n : Line = line 0 0 s l.ended in
      rw (is_x, kind_lowest n) (examined_by_kind (layout_fault n) (judged_fault r.view (parse_rule s)) (is_comment n || is_blank n) (sought_in b r s))

  pub line_faulty : (f : Fault) → x ≡ Kind.Faulty f → Err f ≡ line_examined b r (line 0 0 s l.ended)
  line_faulty f e = rw e at examined_kind

  pub line_passed : x ≡ Kind.Skipped → Ok (looked_for No 0) ≡ line_examined b r (line 0 0 s l.ended)
  line_passed e = rw e at examined_kind

  pub line_ruled : x ≡ Kind.HasRule → (y : Result Looked Fault) → y ≡ rule_examined b r s → y ≡ line_examined b r (line 0 0 s l.ended)
  line_ruled e y is_y = is_y ∙ (rw e at examined_kind)

-- whether the line is faulty as its kind has it, t saying whether its rule is
abbrev judged_by : LineKind → Bool → Bool
judged_by (Kind.Faulty f) t = true
judged_by Kind.Skipped t = false
judged_by Kind.HasRule t = t

judged_by_kind : (o q : Option Fault) (p : Bool) → judged_by (kind_as o p) (is_some q) ≡ is_some (o or_else (when p then None else q))
judged_by_kind (Some f) q p = refl
judged_by_kind None q true = refl
judged_by_kind None q false = refl

told_refused : (o : Option Fault) (y : Looked) → is_refused (examined_as o y) ≡ is_some o
told_refused None y = refl
told_refused (Some f) y = refl

module _ (v : View) (s : List ℕ) (l : LineSpan) (x : LineKind) (is_x : x ≡ line_kind (line 0 0 s l.ended)) where
  judged_kind : judged_by x (is_some (judged_fault v (parse_rule s))) ≡ is_some (judged_line v (line 0 0 s l.ended))
  unfolding line_kind line_fault_by
  judged_kind =
      let n : Line = line 0 0 s l.ended in
      rw (is_x, kind_lowest n) (judged_by_kind (layout_fault n) (judged_fault v (parse_rule s)) (is_comment n || is_blank n))

  pub judged_faulty : (f : Fault) → x ≡ Kind.Faulty f → true ≡ is_some (judged_line v (line 0 0 s l.ended))
  judged_faulty f e = rw e at judged_kind

  pub judged_skipped : x ≡ Kind.Skipped → false ≡ is_some (judged_line v (line 0 0 s l.ended))
  judged_skipped e = rw e at judged_kind

  pub judged_ruled : x ≡ Kind.HasRule → (b : Bool) (q : Request) (y : Result Looked Fault) → y ≡ rule_examined b (record { view = v; request = q }) s
      → (r : Bool) → r ≡ is_refused y → r ≡ is_some (judged_line v (line 0 0 s l.ended))
  unfolding rule_examined
  judged_ruled e b q y is_y r is-r =
      is-r ∙ ap is_refused is_y ∙ told_refused (judged_fault v (parse_rule s)) (sought_in b (record { view = v; request = q }) s)
      ∙ (rw e at judged_kind)

-- ## The line with dropped pairs

is_line_byte_no_newline : (x : ℕ) → is_line_byte x ≡ true → is_no_newline x ≡ true
is_line_byte_no_newline x e = by (eqb x 10) refl
  where
    by : (b : Bool) → eqb x 10 ≡ b → not b ≡ true
    by true f = absurd (true≢false (sym e ∙ rw (eqb-true x 10 f)))
    by false f = refl

all_no_newline : (t : List ℕ) → all is_line_byte t ≡ true → NoNewline t
unfolding all
all_no_newline [] e = refl
all_no_newline (x ∷ t) e =
    let f = and_true (is_line_byte x) (all is_line_byte t) e in
    rw (is_line_byte_no_newline x f.0) (all_no_newline t f.1)

-- the tests that a rule has passed
ruled_tests : (a b c p : Bool) → kind_as (first_holding ((F.Unended, a) ∷ (F.BadByte, b) ∷ (F.LongLine, c) ∷ [])) p ≡ Kind.HasRule
    → (b ≡ false) × ((c ≡ false) × (p ≡ false))
unfolding first_holding
ruled_tests true b c p e = let z : ◌≡◌ {A = ℕ} 0 1 = cc in absurd (omega arith)
ruled_tests false true c p e = let z : ◌≡◌ {A = ℕ} 0 1 = cc in absurd (omega arith)
ruled_tests false false true p e = let z : ◌≡◌ {A = ℕ} 0 1 = cc in absurd (omega arith)
ruled_tests false false false true e = let z : ◌≡◌ {A = ℕ} 0 1 = cc in absurd (omega arith)
ruled_tests false false false false e = (refl, (refl, refl))

module _ (s : List ℕ) (l : LineSpan) (x : LineKind) (is_x : x ≡ line_kind (line 0 0 s l.ended)) (ruled : x ≡ Kind.HasRule) where
  tests : (not (first_among "#" (join s)) && has_bad_byte (join s) ≡ false)
      × ((ltb 2047 (length (join s)) ≡ false) × (first_among "#" (join s) || all (among " \t") (join s) ≡ false))
  unfolding line_kind
  tests =
      ruled_tests (not l.ended) (not (first_among "#" (join s)) && has_bad_byte (join s)) (ltb 2047 (length (join s)))
      (first_among "#" (join s) || all (among " \t") (join s))
      (sym is_x ∙ ruled)

  pub ruled_clean : NoNewline (join s)
  unfolding has_bad_byte
  ruled_clean =
      let c : first_among "#" (join s) ≡ false = (or_false (first_among "#" (join s)) (all (among " \t") (join s)) tests.1.1).0 in
      all_no_newline (join s) (not-false (all is_line_byte (join s)) (rw c at tests.0))

  pub ruled_short : length (join s) ≤ 2047
  ruled_short = ltb-false 2047 (length (join s)) tests.1.0

pub plain_line : (s : List ℕ) (l : LineSpan) → ScannedLine s l → l.joins ≡ 0 → NoNewline s
plain_line s l h e = h.plain e

pub unjoined_line : (s : List ℕ) (l : LineSpan) → ScannedLine s l → l.joins ≤ 0 → NoNewline s
unjoined_line s l h e = h.plain (omega arith)

-- the part of a buffer o into which the line s was joined
module _ (s o d : List ℕ) (n : ℕ) (is-n : n ≡ length (join s)) (is-o : o ≡ join s ++ drop (length (join s)) d) where
  joined_part : take n o ≡ join s
  joined_part = rw (is-n, is-o) (take_at (join s) (drop (length (join s)) d) (length (join s)) refl)

  pub joined_length : n ≡ length (take n o)
  joined_length = rw joined_part is-n

  pub joined_clean : NoNewline (join s) → NoNewline (take n o)
  joined_clean h = rw joined_part h

  pub examine_joined : (b : Bool) (r : Query) → NoNewline (join s) → (y : Result Looked Fault) → y ≡ rule_examined b r (take n o) → y ≡ rule_examined b r s
  examine_joined b r h y is_y = is_y ∙ ap (rule_examined b r) joined_part ∙ rule_examined_join b r s h

-- ## The raw command

module _ (at : ℕ) (s : List ℕ) (a : ℕ) (is-a : a ≡ separator_index false s) (t : List ℕ) (is-t : t ≡ after_separator a s)
    (d : ℕ) (is_d : d ≡ separator_index false t) (c : List ℕ) (is_c : c ≡ after_separator d t)
  where
    pub command_within : length c ≤ length s
    unfolding after_separator
    command_within = rw (is_c, length-drop, is-t, length-drop) (omega arith)

    module _ (x : Bool) (is_x : x ≡ all (among " \t") (join c)) where
      command_is : (b : Bool) → ltb a (length s) ≡ b → part (at + (length s - length c)) (when x then 0 else length c) ≡ command_part at s (parse_rule s)
      unfolding command_part after_separator join all
      command_is true e =
          rw (is_x, parse_rule_parts s a is-a (ltb-true a (length s) e) t is-t d is_d c is_c, is_empty_trimmed c)
      command_is false e =
          let k : length s ≤ a = ltb-false a (length s) e in
          let l : length s ≤ a + 1 = omega arith in
          let n : c ≡ [] = is_c ∙ rw (is-t, drop_of_length-le s l) (drop-nil (d + 1)) in
          rw (parse_rule_none s a is-a k, is_x, n, sub-zero)

      pub command_blank : x ≡ true → part (at + (length s - length c)) 0 ≡ command_part at s (parse_rule s)
      command_blank e = ap (λ (b : Bool). part (at + (length s - length c)) (when b then 0 else length c)) (sym e) ∙ command_is (ltb a (length s)) refl

      pub command_full : x ≡ false → part (at + (length s - length c)) (length c) ≡ command_part at s (parse_rule s)
      command_full e = ap (λ (b : Bool). part (at + (length s - length c)) (when b then 0 else length c)) (sym e) ∙ command_is (ltb a (length s)) refl

-- ## What a line gives

-- of what it tells, n being its number and p its raw command
abbrev pass_found : Verdict → File → ℕ → Part → Found → Result (Option Answer) Refusal
pass_found v f n p No = Ok None
pass_found v f n p Yes = Ok (Some (answer v f n p))
pass_found v f n p Ask = Ok (Some (answer Ver.Ask f n (part 0 0)))

abbrev tally : Result (Option Answer) Refusal → ℕ → Tally
tally p n = record { pass = p; looked = n }

abbrev pass_by : ℕ → Verdict → File → ℕ → Part → Result Looked Fault → Tally
pass_by o v f n p (Err g) = tally (Err (refusal g o n)) 0
pass_by o v f n p (Ok x) = tally (pass_found v f n p x.found) x.looked

module _ (o : ℕ) (v : Verdict) (f : File) (b : Bool) (r : Query) (n at : ℕ) (s : List ℕ) (e : Bool) where
  pass_by_found : (u : Rule) (x : Found) (k : ℕ) → tally (pass_found v f n (command_part at s (Some u)) x) k
      ≡ tallied (pass_of None (rule_answer v f (line n at s e) u x)) k
  unfolding command_part
  pass_by_found u No k = refl
  pass_by_found u Yes k = refl
  pass_by_found u Ask k = refl

  -- what the rule q finds and looks at, if it is searched
  abbrev seek : Bool → Option Rule → Looked
  seek c q = looked_for (when c then found_by r.view r.request q else No) (counted c (capped (looked_of r.view r.request q)))

  pass_by_examined : (g : Option Fault) (p c : Bool) (q : Option Rule)
      → pass_by o v f n (command_part at s q) (examined_as g (when p then looked_for No 0 else seek c q))
      ≡ tallied (pass_of (at_place o n g) (when c then (when p then None else (q >>= λ u. rule_answer v f (line n at s e) u (query_found r u))) else None))
      (capped (counted c (when p then 0 else of_rule (query_looked r) q)))
  unfolding capped
  pass_by_examined (Some g) p c q = refl
  pass_by_examined None true true q = refl
  pass_by_examined None true false q = refl
  pass_by_examined None false false q = refl
  pass_by_examined None false true None = refl
  pass_by_examined None false true (Some u) = pass_by_found u (query_found r u) (capped (query_looked r u))

  module _ (t : Result Looked Fault) (is-t : t ≡ line_examined b r (line 0 0 s e)) where
    abbrev given_line : Tally
    given_line = tallied (pass_line o v f b r (line n at s e)) (capped (line_looks b r (line n at s e)))

    line_pass : pass_by o v f n (command_part at s (parse_rule s)) t ≡ given_line
    unfolding line_examined line_fault_by line_found line_looked pass_line line_answer line_count
    line_pass =
        let l : Line = line n at s e in
        rw is-t (pass_by_examined (judged_line r.view l) (is_comment l || is_blank l) b (parse_rule s))

    pub pass_faulty : (g : Fault) → t ≡ Err g → tally (Err (refusal g o n)) 0 ≡ given_line
    pass_faulty g k = rw k at line_pass

    module _ (x : Looked) (found : t ≡ Ok x) where
      pub pass_no : x.found ≡ No → tally (Ok None) x.looked ≡ given_line
      pass_no k = rw (found, k) at line_pass

      pub pass_ask : x.found ≡ Ask → tally (Ok (Some (answer Ver.Ask f n (part 0 0)))) x.looked ≡ given_line
      pass_ask k = rw (found, k) at line_pass

      pub pass_yes : x.found ≡ Yes → (p : Part) → p ≡ command_part at s (parse_rule s) → tally (Ok (Some (answer v f n p))) x.looked ≡ given_line
      pass_yes k p is-p = rw is-p (rw (found, k) at line_pass)

-- ## The step over a line

module _ (t : List ℕ) (i : ℕ) (l : LineSpan) (is-l : l ≡ span_at i (scan_line (drop i t))) where
  pub scanned_line : ScannedLine (take (l.end - i) (drop i t)) l
  scanned_line = record {
    lengths = sym (line_joined t i l is-l).lengths;
    bytes = has_bad_byte_line t i l is-l;
    plain = line_no_newline t i l is-l;
  }

  pub line_within : (m : ℕ) → i < length t → length t < m → i + length (take (l.end - i) (drop i t)) < m
  line_within m h k =
      let w : i ≤ length t = omega arith in
      let b : SpanBounds (length t) i l = scan_line_bounds t i l w is-l in
      omega (arith, length_line t i l is-l w, b.within, b.from)

  pub step_is : (o : ℕ) (v : Verdict) (f : File) (b : Bool) (r : Query) (n : ℕ) (p : Tally)
      → p ≡ tallied (pass_line o v f b r (line n i (take (l.end - i) (drop i t)) l.ended))
      (capped (line_looks b r (line n i (take (l.end - i) (drop i t)) l.ended)))
      → record { next = l.end + 1; number = n + l.joins + 1; tally = p } ≡ step_of o v f b r t i n (span_at i (scan_line (drop i t)))
  step_is o v f b r n p is-p = rw (is-p, is-l)

-- ## The loop over the lines

combined_nothing : (p : Result (Option Answer) Refusal) → combined p (Ok None) ≡ p
combined_nothing (Err g) = refl
combined_nothing (Ok None) = refl
combined_nothing (Ok (Some a)) = refl

-- no fault
abbrev pub Sound : Result (Option Answer) Refusal → Type 0
Sound (Err g) = ⊥
Sound (Ok None) = Unit {0}
Sound (Ok (Some a)) = Unit {0}

combined_faulty : (p : Result (Option Answer) Refusal) (g : Refusal) → Sound p → combined p (Err g) ≡ Err g
combined_faulty (Err f) g h = absurd h
combined_faulty (Ok None) g h = refl
combined_faulty (Ok (Some a)) g h = refl

-- a pass without a fault keeps its number
tallied_sound : (p : Result (Option Answer) Refusal) (k : ℕ) → Sound p → tally p k ≡ tallied p k
tallied_sound (Err g) k h = absurd h
tallied_sound (Ok None) k h = refl
tallied_sound (Ok (Some a)) k h = refl

pub tallied_pass : (p : Result (Option Answer) Refusal) (k : ℕ) → (tallied p k).pass ≡ p
tallied_pass (Err g) k = refl
tallied_pass (Ok None) k = refl
tallied_pass (Ok (Some a)) k = refl

tallied_looked : (p : Result (Option Answer) Refusal) (k : ℕ) → Sound p → (tallied p k).looked ≡ k
tallied_looked (Err g) k h = absurd h
tallied_looked (Ok None) k h = refl
tallied_looked (Ok (Some a)) k h = refl

-- the pass over a first line, with the fault x and the answer y, and over the lines after it, with x' and y'
both_faulty : (x x' : Option Refusal) (y y' : Option Answer) (b : Bool) (g : Refusal)
    → pass_of x (when b then y else None) ≡ Err g → pass_of (x or_else x') (when b then (y or_else y') else None) ≡ Err g
both_faulty (Some h) x' y y' b g e = e
both_faulty None x' (Some a) y' true g e = let z : ◌≡◌ {A = ℕ} 0 1 = cc in absurd (omega arith)
both_faulty None x' None y' true g e = let z : ◌≡◌ {A = ℕ} 0 1 = cc in absurd (omega arith)
both_faulty None x' y y' false g e = let z : ◌≡◌ {A = ℕ} 0 1 = cc in absurd (omega arith)

both_unmatched : (x x' : Option Refusal) (y y' : Option Answer) (b : Bool)
    → pass_of x (when b then y else None) ≡ (Ok None) → pass_of (x or_else x') (when b then (y or_else y') else None) ≡ pass_of x' (when b then y' else None)
both_unmatched (Some h) x' y y' b e = let z : ◌≡◌ {A = ℕ} 0 1 = cc in absurd (omega arith)
both_unmatched None x' (Some a) y' true e = let z : ◌≡◌ {A = ℕ} 0 1 = cc in absurd (omega arith)
both_unmatched None x' None y' true e = refl
both_unmatched None x' y y' false e = refl

both_matched : (x x' : Option Refusal) (y y' : Option Answer) (b : Bool) (a : Answer)
    → pass_of x (when b then y else None) ≡ Ok (Some a)
    → (b ≡ true) × (pass_of (x or_else x') (when b then (y or_else y') else None) ≡ combined (Ok (Some a)) (pass_of x' None))
both_matched (Some h) x' y y' b a e = let z : ◌≡◌ {A = ℕ} 0 1 = cc in absurd (omega arith)
both_matched None (Some h) (Some c) y' true a e = (refl, refl)
both_matched None None (Some c) y' true a e = (refl, e)
both_matched None x' None y' true a e = let z : ◌≡◌ {A = ℕ} 0 1 = cc in absurd (omega arith)
both_matched None x' y y' false a e = let z : ◌≡◌ {A = ℕ} 0 1 = cc in absurd (omega arith)

module _ (o : ℕ) (v : Verdict) (f : File) (r : Query) where
  unfoldable pub pass_lines : Bool → List Line → Result (Option Answer) Refusal
  pass_lines b ls = pass_of (first (fault_at o r.view) ls) (when b then first (line_answer v f (query_found r)) ls else None)

  -- the loop over the text t, of which the pass is whole and the number total, at the line of number n at i; b: whether an answer is looked
  -- for, k: how many elements were looked at
  pub record Passing (whole : Result (Option Answer) Refusal) (total : ℕ) (t : List ℕ) (i n : ℕ) (b : Bool) (found : Result (Option Answer) Refusal) (k : ℕ) : Type 0 where
    pub within : i ≤ length t
    pub number : n ≤ i + 1
    pub sound : Sound found
    pub fresh : b ≡ true → found ≡ Ok None
    pub rest : whole ≡ combined found (pass_lines b (logical_lines n i (split "\n" (drop i t))))
    pub fits : k < 18446744073709551616
    pub counts : capped total ≡ capped (k + lines_looked v f b r (logical_lines n i (split "\n" (drop i t))))

  pub passing_start : (t : List ℕ) (b : Bool) → Passing (pass_text o v f b r t) (lines_looked v f b r (lines t)) t 0 1 b (Ok None) 0
  unfolding pass_lines pass_text hosts_fault_at lines
  passing_start t b = record {
    within = omega arith;
    number = omega arith;
    sound = tt;
    fresh = λ e. refl;
    rest = refl;
    fits = omega arith;
    counts = let z : 0 + lines_looked v f b r (lines t) ≡ lines_looked v f b r (lines t) = omega arith in ap capped (sym z);
  }

  looked_nil : (b : Bool) → lines_looked v f b r [] ≡ 0
  unfolding lines_looked sum_until
  looked_nil true = refl
  looked_nil false = refl

  -- one line further
  looked_unmatched : (b : Bool) (l : Line) (ls : List Line) → pass_line o v f b r l ≡ Ok None
      → lines_looked v f b r (l ∷ ls) ≡ line_looks b r l + lines_looked v f b r ls
  unfolding lines_looked sum_until pass_line
  looked_unmatched false l ls e = refl
  looked_unmatched true l ls e = by (fault_at o r.view l) (line_answer v f (query_found r) l) e
    where
      by : (x : Option Refusal) (y : Option Answer) → pass_of x y ≡ Ok None
          → line_count (query_looked r) l + (when is_some y then 0 else sum_until (λ l. is_some (line_answer v f (query_found r) l)) (line_count (query_looked r)) ls)
          ≡ line_count (query_looked r) l + sum_until (λ l. is_some (line_answer v f (query_found r) l)) (line_count (query_looked r)) ls
      by (Some g) y k = let z : ◌≡◌ {A = ℕ} 0 1 = cc in absurd (omega arith)
      by None (Some a) k = let z : ◌≡◌ {A = ℕ} 0 1 = cc in absurd (omega arith)
      by None None k = refl

  looked_matched : (b : Bool) (l : Line) (ls : List Line) (a : Answer) → pass_line o v f b r l ≡ Ok (Some a)
      → lines_looked v f b r (l ∷ ls) ≡ line_looks b r l + lines_looked v f false r ls
  unfolding lines_looked sum_until pass_line
  looked_matched false l ls a e = refl
  looked_matched true l ls a e = by (fault_at o r.view l) (line_answer v f (query_found r) l) e
    where
      by : (x : Option Refusal) (y : Option Answer) → pass_of x y ≡ Ok (Some a)
          → line_count (query_looked r) l + (when is_some y then 0 else sum_until (λ l. is_some (line_answer v f (query_found r) l)) (line_count (query_looked r)) ls)
          ≡ line_count (query_looked r) l + 0
      by (Some g) y k = let z : ◌≡◌ {A = ℕ} 0 1 = cc in absurd (omega arith)
      by None (Some c) k = refl
      by None None k = let z : ◌≡◌ {A = ℕ} 0 1 = cc in absurd (omega arith)

  -- a line without an ending newline is faulty
  ended_line : (b : Bool) (n at : ℕ) (s : List ℕ) (e : Bool) (q : Result (Option Answer) Refusal) → pass_line o v f b r (line n at s e) ≡ q → Sound q → e ≡ true
  unfolding pass_line line_fault_by lowest
  ended_line b n at s true q k h = refl
  ended_line b n at s false q k h = absurd (subst (λ (p : Result (Option Answer) Refusal). Sound p) (sym k) h)

  pass_lines_nil : (b : Bool) → pass_lines b [] ≡ Ok None
  unfolding pass_lines first
  pass_lines_nil true = refl
  pass_lines_nil false = refl

  module _ (b : Bool) (l : Line) (ls : List Line) where
    pass_lines_faulty : (g : Refusal) → pass_line o v f b r l ≡ Err g → pass_lines b (l ∷ ls) ≡ Err g
    unfolding pass_line pass_lines first
    pass_lines_faulty g e = both_faulty (fault_at o r.view l) (first (fault_at o r.view) ls) (line_answer v f (query_found r) l)
        (first (line_answer v f (query_found r)) ls) b g e

    pass_lines_unmatched : pass_line o v f b r l ≡ (Ok None) → pass_lines b (l ∷ ls) ≡ pass_lines b ls
    unfolding pass_line pass_lines first
    pass_lines_unmatched e = both_unmatched (fault_at o r.view l) (first (fault_at o r.view) ls) (line_answer v f (query_found r) l)
        (first (line_answer v f (query_found r)) ls) b e

    pass_lines_matched : (a : Answer) → pass_line o v f b r l ≡ Ok (Some a) → (b ≡ true) × (pass_lines b (l ∷ ls) ≡ combined (Ok (Some a)) (pass_lines false ls))
    unfolding pass_line pass_lines first
    pass_lines_matched a e = both_matched (fault_at o r.view l) (first (fault_at o r.view) ls) (line_answer v f (query_found r) l)
        (first (line_answer v f (query_found r)) ls) b a e

  module _ {whole : (Result (Option Answer) Refusal)} {total : ℕ} {t : List ℕ} {i n : ℕ} {b : Bool} {found : (Result (Option Answer) Refusal)} {k : ℕ} (inv : Passing whole total t i n b found k) where
    pub passing_end : length t ≤ i → tally found k ≡ tallied whole (capped total)
    passing_end h =
        let p : found ≡ whole = sym (inv.rest ∙ rw (logical_lines_end t i n i h, pass_lines_nil b) (combined_nothing found)) in
        let z : k + 0 ≡ k = omega arith in
        let c : k ≡ capped total = sym (inv.counts ∙ rw (logical_lines_end t i n i h, looked_nil b) (ap capped z ∙ capped_small k inv.fits)) in
        tallied_sound found k inv.sound ∙ ap₂ tallied p c

    module _ (h : i < length t) (st : Step) (is-st : st ≡ step_of o v f b r t i n (span_at i (scan_line (drop i t)))) where
      scanned : LineSpan
      scanned = span_at i (scan_line (drop i t))

      this : Line
      this = line n i (take (scanned.end - i) (drop i t)) scanned.ended

      those : List Line
      those = logical_lines st.number st.next (split "\n" (drop st.next t))

      bounds : SpanBounds (length t) i scanned
      unfolding scanned
      bounds = scan_line_bounds t i scanned inv.within refl

      all_lines_lem : logical_lines n i (split "\n" (drop i t)) ≡ this ∷ those
      unfolding scanned this those
      all_lines_lem = rw is-st (logical_lines_drop t i scanned refl n h)

      this_tally : st.tally ≡ tallied (pass_line o v f b r this) (capped (line_looks b r this))
      unfolding scanned this
      this_tally = ap (λ (x : Step). x.tally) is-st

      this_pass : (q : Result (Option Answer) Refusal) → st.tally.pass ≡ q → pass_line o v f b r this ≡ q
      this_pass q e = sym (ap (λ (x : Tally). x.pass) this_tally ∙ tallied_pass (pass_line o v f b r this) (capped (line_looks b r this))) ∙ e

      this_looked : (q : Result (Option Answer) Refusal) → st.tally.pass ≡ q → Sound q → st.tally.looked ≡ capped (line_looks b r this)
      this_looked q e h = ap (λ (x : Tally). x.looked) this_tally
          ∙ tallied_looked (pass_line o v f b r this) (capped (line_looks b r this)) (subst (λ (p : Result (Option Answer) Refusal). Sound p) (sym (this_pass q e)) h)

      -- the number one line further, m being what the lines after it count
      next_counts : (q : Result (Option Answer) Refusal) → st.tally.pass ≡ q → Sound q → (m : ℕ) → lines_looked v f b r (this ∷ those) ≡ line_looks b r this + m
          → (c : ℕ) → c ≡ capped (k + st.tally.looked) → capped total ≡ capped (c + m)
      next_counts q e h m is_m c is_c =
          inv.counts ∙ ap (λ (ls : List Line). capped (k + lines_looked v f b r ls)) all_lines_lem ∙ ap (λ (x : ℕ). capped (k + x)) is_m
          ∙ sym (ap (λ (x : ℕ). capped (x + m)) (is_c ∙ ap (λ (x : ℕ). capped (k + x)) (this_looked q e h)) ∙ capped_then k (line_looks b r this) m)

      next_is : st.next ≡ scanned.end + 1
      unfolding scanned
      next_is = rw is-st

      number_is : st.number ≡ n + scanned.joins + 1
      unfolding scanned
      number_is = rw is-st

      pub step_less : length t - st.next < length t - i
      step_less = omega (arith, next_is, bounds.from)

      next_within : (q : Result (Option Answer) Refusal) → st.tally.pass ≡ q → Sound q → st.next ≤ length t
      unfolding this
      next_within q e k =
          omega (arith, next_is, bounds.below (ended_line b n i (take (scanned.end - i) (drop i t)) scanned.ended q (this_pass q e) k))

      next_number : st.number ≤ st.next + 1
      next_number = omega (arith, next_is, number_is, bounds.pairs, bounds.from, inv.number)

      pub pass_stop : (g : Refusal) → st.tally.pass ≡ Err g → tally (Err g) 0 ≡ tallied whole (capped total)
      pass_stop g e =
          let w : Err g ≡ whole = sym (inv.rest ∙ rw (all_lines_lem, pass_lines_faulty b this those g (this_pass (Err g) e))
          (combined_faulty found g inv.sound)) in
          ap (λ (p : Result (Option Answer) Refusal). tallied p (capped total)) w

      pub passing_more : st.tally.pass ≡ (Ok None) → (c : ℕ) → c ≡ capped (k + st.tally.looked) → Passing whole total t st.next st.number b found c
      unfolding those
      passing_more e c is_c = record {
        within = next_within (Ok None) e tt;
        number = next_number;
        sound = inv.sound;
        fresh = inv.fresh;
        rest = inv.rest ∙ rw (all_lines_lem, pass_lines_unmatched b this those (this_pass (Ok None) e));
        fits = rw is_c (capped_lt (k + st.tally.looked));
        counts = next_counts (Ok None) e tt (lines_looked v f b r those) (looked_unmatched b this those (this_pass (Ok None) e)) c is_c;
      }

      pub passing_found : (a : Answer) → st.tally.pass ≡ Ok (Some a) → (c : ℕ) → c ≡ capped (k + st.tally.looked)
          → Passing whole total t st.next st.number false (Ok (Some a)) c
      unfolding those
      passing_found a e c is_c =
          let m = pass_lines_matched b this those a (this_pass (Ok (Some a)) e) in
          record {
            within = next_within (Ok (Some a)) e tt;
            number = next_number;
            sound = tt;
            fresh = λ k. absurd (true≢false (sym k));
            rest = inv.rest ∙ rw (inv.fresh m.0, all_lines_lem, m.1);
            fits = rw is_c (capped_lt (k + st.tally.looked));
            counts = next_counts (Ok (Some a)) e tt (lines_looked v f false r those) (looked_matched b this those a (this_pass (Ok (Some a)) e)) c is_c;
          }

-- ## The checks alone

pub pass_empty : (o : ℕ) (v : Verdict) (f : File) (b : Bool) (r : Query) (t : List ℕ) → length t ≡ 0
    → tally (Ok None) 0 ≡ tallied (pass_text o v f b r t) (capped (lines_looked v f b r (lines t)))
unfolding pass_text hosts_fault_at lines logical_lines split first lines_looked sum_until capped
pass_empty o v f true r [] h = refl
pass_empty o v f false r [] h = refl
pass_empty o v f b r (x ∷ t) h = absurd (omega arith)

pub pass_unsought : (o : ℕ) (v : Verdict) (f : File) (r : Query) (t : List ℕ) (p : Tally) (k : ℕ) → p ≡ tallied (pass_text o v f false r t) k
    → p.pass ≡ pass_of (hosts_fault_at o r.view t) None
unfolding pass_text
pass_unsought o v f r t p k is-p = ap (λ (x : Tally). x.pass) is-p ∙ tallied_pass (pass_of (hosts_fault_at o r.view t) None) k

-- ## A pass with its number

module _ (p : Result (Option Answer) Refusal) (k : ℕ) where
  pub tally_faulty : (g : Refusal) → p ≡ Err g → tally (Err g) 0 ≡ tallied p k
  tally_faulty g e = rw e

  pub tally_unmatched : p ≡ (Ok None) → tally (Ok None) k ≡ tallied p k
  tally_unmatched e = rw e

  pub tally_matched : (a : Answer) → p ≡ Ok (Some a) → tally (Ok (Some a)) k ≡ tallied p k
  tally_matched a e = rw e
