-- "Every request then gets the same verdict or ask, file and command bytes; the line moves by the lines removed above it."
--   SameVerdict  == two answers are the same in these, and the line moves by k
--   search_allow, search_deny == the search, where one file is tidied
--   decide_allow, decide_deny == the call with tables, where one file is tidied; refusals are the same
-- Assumes nothing.
use Rattle.std.specs.Prelude.{Err, None, Ok, Option, Some, unwrap_or}
use Prim.Native.Nat.{ℕ, zero, suc, ◌+◌, ◌≤◌, ◌<◌}
use native.Mathlib.Omega.{arith}
use mathlib.Core.Bool.{Bool, true, false, not, ◌&&◌, ◌||◌}
use mathlib.Core.List.{List, [], ◌∷◌, ◌++◌}
use mathlib.Core.Path.{◌≡◌, refl, sym, ap, ap₂, ◌∙◌}
use Rattle.text.specs.Basics.{when◌then◌else◌, ◌>>=◌, ◌or_else◌, first}
use Rattle.section.specs.declared.Fault.TheVariants as F
use Rattle.section.specs.declared.Refusal.{Refusal}
use Rattle.section.specs.Refusal.{Outcome, ◌before◌, fitting}
use Rattle.section.specs.Section as S
use Rattle.section.specs.Section.{part, bytes_at, over_limit}
use Rattle.lines.specs.Line.{Line, lines, is_comment, is_blank}
use Rattle.lines.specs.Rule.{Rule, parse_rule}
use Rattle.tables.specs.Table.{Table, tables_of, tables_frame, match_of, table_name_fault, bad_table_fault}
use Rattle.elements.specs.declared.Found.{Found}
use Rattle.elements.specs.declared.Found.TheVariants as Found
use Rattle.elements.specs.Request.{Request, well_formed, held}
use Rattle.lists.specs.Walk.{rule_found}
use Rattle.rules.specs.declared.Verdict.{Verdict}
use Rattle.rules.specs.declared.Verdict.TheVariants.{Granted, Denied}
use Rattle.rules.specs.declared.File.{File}
use Rattle.rules.specs.declared.File.TheVariants.{Neither, Allow, Deny}
use Rattle.rules.specs.declared.Answer.{Answer}
use Rattle.rules.specs.Check.{line_fault, hosts_fault, missing_fault, depth_fault, tables_fault}
use Rattle.rules.specs.Search.{answer, rule_answer, line_answer, search, decide_over, decide_tables, command_bytes}
use Rattle.tidy.specs.Tidy.{accepts, dropped, removed_above, file_fault}
use Rattle.tidy.specs.Code.{Sound}
use Rattle.tidy.proofs.SearchLaws.{kept_lines, accepted_search}
use Rattle.tidy.proofs.FileLaws.{Moved, dropped_search}
use Rattle.tidy.proofs.CommandLaws.{SameCommand, dropped_command}
use Rattle.tidy.proofs.CheckLaws.{file_parts, hosts_sound}
use Rattle.tidy.proofs.NewFileLaws.{file_stays}

-- b by the texts newAllow and new_deny is as a by allow and deny; its line is k less
pub record SameVerdict (allow deny newAllow new_deny : List ℕ) (k : ℕ) (a b : Answer) : Type 0 where
  pub verdict : b.verdict ≡ a.verdict
  pub file : b.file ≡ a.file
  pub command : command_bytes newAllow new_deny b ≡ command_bytes allow deny a
  pub line : b.line + k ≡ a.line

-- the lines removed above, where that file decides
abbrev pub in_allow : File → ℕ → ℕ
in_allow Neither k = 0
in_allow Allow k = k
in_allow Deny k = 0

abbrev pub in_deny : File → ℕ → ℕ
in_deny Neither k = 0
in_deny Allow k = 0
in_deny Deny k = k

-- ## Answers of a file

found_file : (v : Verdict) (f : File) (l : Line) (u : Rule) (x : Found) (a : Answer) → rule_answer v f l u x ≡ Some a → a.file ≡ f
found_file v f l u Found.No a e = let z : ◌≡◌ {A = ℕ} 0 1 = cc e in absurd (omega arith)
found_file v f l u Found.Yes a e = let z : f ≡ a.file = cc e in sym z
found_file v f l u Found.Ask a e = let z : f ≡ a.file = cc e in sym z

line_file : (v : Verdict) (f : File) (found : Rule → Found) (l : Line) (a : Answer) → line_answer v f found l ≡ Some a → a.file ≡ f
unfolding line_answer
line_file v f found l a = by (is_comment l || is_blank l) (parse_rule l.raw)
  where
    by : (c : Bool) (o : Option Rule) → (when c then None else (o >>= λ u. rule_answer v f l u (found u))) ≡ Some a → a.file ≡ f
    by true o e = let z : ◌≡◌ {A = ℕ} 0 1 = cc e in absurd (omega arith)
    by false None e = let z : ◌≡◌ {A = ℕ} 0 1 = cc e in absurd (omega arith)
    by false (Some u) e = found_file v f l u (found u) a e

first_file : (v : Verdict) (f : File) (found : Rule → Found) (ls : List Line) (a : Answer) → first (line_answer v f found) ls ≡ Some a → a.file ≡ f
unfolding first
first_file v f found [] a e = let z : ◌≡◌ {A = ℕ} 0 1 = cc e in absurd (omega arith)
first_file v f found (l ∷ ls) a e = by (line_answer v f found l) refl e (first_file v f found ls a)
  where
    by : (o : Option Answer) → line_answer v f found l ≡ o → o or_else first (line_answer v f found) ls ≡ Some a
        → (first (line_answer v f found) ls ≡ Some a → a.file ≡ f) → a.file ≡ f
    by None q k ih = ih k
    by (Some b) q k ih = line_file v f found l a (q ∙ k)

-- ## The search

module _ (ts : List Table) (r : Request) (ns : List ℕ) where
  abbrev found : Rule → Found
  found = rule_found (match_of ts) r

  module _ (allow deny : List ℕ) (sound : hosts_fault S.allow allow ≡ None) (ok : accepts allow ns ≡ true) where
    abbrev MovedAllow : Answer → Answer → Type 0
    MovedAllow a b = SameVerdict allow deny (dropped ns allow) deny (in_allow a.file (removed_above ns a.line (lines allow))) a b

    allow_commands : SameCommand Granted Allow found ns allow (dropped ns allow) (first (line_answer Granted Allow found) (lines allow))
        (first (line_answer Granted Allow found) (lines (dropped ns allow)))
    unfolding Sound
    allow_commands = rw (accepted_search Granted Allow ts r allow ns ok) (dropped_command Granted Allow found ns allow (hosts_sound S.allow allow sound))

    others : (z : Option Answer) → first (line_answer Denied Deny found) (lines deny) ≡ z
        → MovedAllow (unwrap_or z (answer Granted Neither 0 (part 0 0))) (unwrap_or z (answer Granted Neither 0 (part 0 0)))
    others None e = record { verdict = refl; file = refl; command = refl; line = omega arith }
    others (Some c) e =
        let is-deny = first_file Denied Deny found (lines deny) c e in
        record { verdict = refl; file = refl; command = rw is-deny; line = rw is-deny (omega arith) }

    by_answers : (x y : Option Answer) → Moved Granted Allow ts r S.allow ns 1 0 (lines allow) x y
        → SameCommand Granted Allow found ns allow (dropped ns allow) x y
        → MovedAllow (unwrap_or (x or_else first (line_answer Denied Deny found) (lines deny)) (answer Granted Neither 0 (part 0 0)))
        (unwrap_or (y or_else first (line_answer Denied Deny found) (lines deny)) (answer Granted Neither 0 (part 0 0)))
    by_answers None None m c = others (first (line_answer Denied Deny found) (lines deny)) refl
    by_answers None (Some b) m c = absurd m
    by_answers (Some a) None m c = absurd m
    by_answers (Some a) (Some b) m c = record {
      verdict = m.0;
      file = m.1;
      command = rw (c.0, c.1.0) c.1.1;
      line = rw c.0 (omega (arith, m.3));
    }

    pub search_allow : MovedAllow (search (match_of ts) allow deny r) (search (match_of ts) (dropped ns allow) deny r)
    unfolding search
    search_allow =
        by_answers (first (line_answer Granted Allow found) (lines allow)) (first (line_answer Granted Allow found) (lines (dropped ns allow)))
        (dropped_search Granted Allow ts r S.allow ns allow sound ok) allow_commands

  module _ (allow deny : List ℕ) (sound : hosts_fault S.deny deny ≡ None) (ok : accepts deny ns ≡ true) where
    abbrev MovedDeny : Answer → Answer → Type 0
    MovedDeny a b = SameVerdict allow deny allow (dropped ns deny) (in_deny a.file (removed_above ns a.line (lines deny))) a b

    deny_commands : SameCommand Denied Deny found ns deny (dropped ns deny) (first (line_answer Denied Deny found) (lines deny))
        (first (line_answer Denied Deny found) (lines (dropped ns deny)))
    unfolding Sound
    deny_commands = rw (accepted_search Denied Deny ts r deny ns ok) (dropped_command Denied Deny found ns deny (hosts_sound S.deny deny sound))

    by_deny : (x y : Option Answer) → Moved Denied Deny ts r S.deny ns 1 0 (lines deny) x y → SameCommand Denied Deny found ns deny (dropped ns deny) x y
        → MovedDeny (unwrap_or x (answer Granted Neither 0 (part 0 0))) (unwrap_or y (answer Granted Neither 0 (part 0 0)))
    by_deny None None m c = record { verdict = refl; file = refl; command = refl; line = omega arith }
    by_deny None (Some b) m c = absurd m
    by_deny (Some a) None m c = absurd m
    by_deny (Some a) (Some b) m c = record {
      verdict = m.0;
      file = m.1;
      command = rw (c.0, c.1.0) c.1.1;
      line = rw c.0 (omega (arith, m.3));
    }

    by_allow : (z : Option Answer) → first (line_answer Granted Allow found) (lines allow) ≡ z
        → MovedDeny (unwrap_or (z or_else first (line_answer Denied Deny found) (lines deny)) (answer Granted Neither 0 (part 0 0)))
        (unwrap_or (z or_else first (line_answer Denied Deny found) (lines (dropped ns deny))) (answer Granted Neither 0 (part 0 0)))
    by_allow None e =
        by_deny (first (line_answer Denied Deny found) (lines deny)) (first (line_answer Denied Deny found) (lines (dropped ns deny)))
        (dropped_search Denied Deny ts r S.deny ns deny sound ok) deny_commands
    by_allow (Some a) e =
        let is-allow = first_file Granted Allow found (lines allow) a e in
        record { verdict = refl; file = refl; command = rw is-allow; line = rw is-allow (omega arith) }

    pub search_deny : MovedDeny (search (match_of ts) allow deny r) (search (match_of ts) allow (dropped ns deny) r)
    unfolding search
    search_deny = by_allow (first (line_answer Granted Allow found) (lines allow)) refl

-- ## The call

-- refused alike, or answered by answers of which p holds
abbrev pub Alike : (Answer → Answer → Type 0) → Outcome Answer → Outcome Answer → Type 0
Alike p (Err g) (Err h) = g ≡ h
Alike p (Err g) (Ok b) = ⊥
Alike p (Ok a) (Err h) = ⊥
Alike p (Ok a) (Ok b) = p a b

alike_fitting : (p : Answer → Answer → Type 0) (f g : Request → Answer) → ((r : Request) → p (f r) (g r)) → (o : Option Request)
    → Alike p (fitting well_formed o (λ r. Ok (f r))) (fitting well_formed o (λ r. Ok (g r)))
alike_fitting p f g h None = refl
alike_fitting p f g h (Some r) = by (well_formed r)
  where
    by : (b : Bool) → Alike p (when b then Ok (f r) else Err (Rattle.section.specs.Refusal.placeless F.BadRequest))
        (when b then Ok (g r) else Err (Rattle.section.specs.Refusal.placeless F.BadRequest))
    by true = h r
    by false = refl

alike_before : (p : Answer → Answer → Type 0) (c d : Option Refusal) (x y : Outcome Answer) → d ≡ c → Alike p x y → Alike p (c before x) (d before y)
alike_before p None d x y e h = rw e h
alike_before p (Some g) d x y e h = rw e refl

abbrev checks : List ℕ → List ℕ → List ℕ → Option Refusal
checks allow deny five =
    over_limit S.allow allow or_else over_limit S.deny deny or_else tables_frame five
    or_else hosts_fault S.allow allow or_else hosts_fault S.deny deny or_else tables_fault allow deny five

-- what is left of them where the allow file, or the deny file, passes its own
without_allow : (allow deny five : List ℕ) → file_fault S.allow allow five ≡ None
    → checks allow deny five
    ≡ ((((None or_else over_limit S.deny deny) or_else None) or_else None) or_else hosts_fault S.deny deny)
    or_else (((((None or_else missing_fault (tables_of five) S.deny deny) or_else None) or_else None) or_else depth_fault (tables_of five) S.deny deny) or_else None)
unfolding tables_fault
without_allow allow deny five e =
    let p = file_parts S.allow allow five e in
    rw (p.0, p.1.0, p.1.1.0, p.1.1.1.0, p.1.1.1.1.0, p.1.1.1.1.1.0, p.1.1.1.1.1.1)

without_deny : (allow deny five : List ℕ) → file_fault S.deny deny five ≡ None
    → checks allow deny five
    ≡ ((((over_limit S.allow allow or_else None) or_else None) or_else hosts_fault S.allow allow) or_else None)
    or_else (((((missing_fault (tables_of five) S.allow allow or_else None) or_else None) or_else depth_fault (tables_of five) S.allow allow) or_else None) or_else None)
unfolding tables_fault
without_deny allow deny five e =
    let p = file_parts S.deny deny five e in
    rw (p.0, p.1.0, p.1.1.0, p.1.1.1.0, p.1.1.1.1.0, p.1.1.1.1.1.0, p.1.1.1.1.1.1)

module _ (allow deny five ns : List ℕ) (o : Option Request) where
  pub decide_allow : file_fault S.allow allow five ≡ None → accepts allow ns ≡ true
      → Alike (λ a b. SameVerdict allow deny (dropped ns allow) deny (in_allow a.file (removed_above ns a.line (lines allow))) a b)
      (decide_tables allow deny five o) (decide_tables (dropped ns allow) deny five o)
  unfolding decide_tables
  decide_allow e ok =
      alike_before (λ a b. SameVerdict allow deny (dropped ns allow) deny (in_allow a.file (removed_above ns a.line (lines allow))) a b)
      (checks allow deny five) (checks (dropped ns allow) deny five) (decide_over (tables_of five) allow deny o)
      (decide_over (tables_of five) (dropped ns allow) deny o)
      (without_allow (dropped ns allow) deny five (file_stays ns S.allow allow five e) ∙ sym (without_allow allow deny five e))
      (alike_fitting (λ a b. SameVerdict allow deny (dropped ns allow) deny (in_allow a.file (removed_above ns a.line (lines allow))) a b)
      (λ r. search (match_of (tables_of five)) allow deny (held r)) (λ r. search (match_of (tables_of five)) (dropped ns allow) deny (held r))
      (λ r. search_allow (tables_of five) (held r) ns allow deny (file_parts S.allow allow five e).1.1.0 ok) o)

  pub decide_deny : file_fault S.deny deny five ≡ None → accepts deny ns ≡ true
      → Alike (λ a b. SameVerdict allow deny allow (dropped ns deny) (in_deny a.file (removed_above ns a.line (lines deny))) a b)
      (decide_tables allow deny five o) (decide_tables allow (dropped ns deny) five o)
  unfolding decide_tables
  decide_deny e ok =
      alike_before (λ a b. SameVerdict allow deny allow (dropped ns deny) (in_deny a.file (removed_above ns a.line (lines deny))) a b)
      (checks allow deny five) (checks allow (dropped ns deny) five) (decide_over (tables_of five) allow deny o)
      (decide_over (tables_of five) allow (dropped ns deny) o)
      (without_deny allow (dropped ns deny) five (file_stays ns S.deny deny five e) ∙ sym (without_deny allow deny five e))
      (alike_fitting (λ a b. SameVerdict allow deny allow (dropped ns deny) (in_deny a.file (removed_above ns a.line (lines deny))) a b)
      (λ r. search (match_of (tables_of five)) allow deny (held r)) (λ r. search (match_of (tables_of five)) allow (dropped ns deny) (held r))
      (λ r. search_deny (tables_of five) (held r) ns allow deny (file_parts S.deny deny five e).1.1.0 ok) o)
