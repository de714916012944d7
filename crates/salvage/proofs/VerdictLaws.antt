-- Whom salvaged texts grant: "bad allow lines only vanish, bad deny lines only deny".
--   good_grants == where the search by the salvaged texts grants, the search by the good lines alone grants
--   good_checks == two texts of good lines are decided, not refused
-- Assumes nothing.
use Rattle.std.specs.Prelude.{None, Option, Some, unwrap_or}
use Prim.Native.Nat.{ℕ, ◌≤◌}
use mathlib.Core.Bool.{Bool, true, false, ◌||◌, true≢false}
use mathlib.Core.List.{List, [], ◌∷◌, ◌++◌, map, flat_map}
use mathlib.Core.Path.{◌≡◌, refl, sym, ap, ap₂, ◌∙◌}
use native.Mathlib.Omega.{arith}
use borrow.Author.Tests.{ltb-false, le-ltb}
use lib.Dec.{ltb}
use lib.ListN.{length, length-append}
use Rattle.text.specs.Basics as Basics
use Rattle.text.specs.Basics.{when◌then◌else◌, ◌>>=◌, ◌or_else◌, holds, is_some, any, first}
use Rattle.text.specs.Text as Text
use Rattle.text.specs.Text.{bytes}
use Rattle.text.proofs.BasicLaws.{or_false}
use Rattle.section.specs.declared.Refusal.{Refusal}
use Rattle.section.specs.declared.Fault.TheVariants as F
use Rattle.section.specs.Refusal.{refusal}
use Rattle.section.specs.Section as S
use Rattle.section.specs.Section.{part, over_limit}
use Rattle.lines.specs.Line as Line
use Rattle.lines.specs.Line.{line, lines, is_comment, is_blank}
use Rattle.lines.specs.Rewrite.{line_bytes}
use Rattle.lines.specs.Rule as Rule
use Rattle.lines.specs.Rule.{parse_rule}
use Rattle.patterns.specs.Pattern as Pattern
use Rattle.tables.specs.Table as Table
use Rattle.tables.specs.Table.{Matcher, tables_of}
use Rattle.elements.specs.declared.Found.{Found}
use Rattle.elements.specs.declared.Found.TheVariants as Found
use Rattle.elements.specs.Request.{Request}
use Rattle.elements.specs.Element as Element
use Rattle.lists.specs.Walk as Walk
use Rattle.lists.specs.Walk.{rule_found}
use Rattle.rules.specs.declared.Verdict.{Verdict}
use Rattle.rules.specs.declared.Verdict.TheVariants.{Granted, Denied, Ask}
use Rattle.rules.specs.declared.File.TheVariants.{Neither, Allow, Deny}
use Rattle.rules.specs.declared.Answer.{Answer}
use Rattle.rules.specs.Check.{tables_fault}
use Rattle.rules.specs.Search.{answer, rule_answer, line_answer, search, decide_over, decide_tables}
use Rattle.rules.proofs.NamingLaws.{or_else_nones}
use Rattle.sheet.specs.Sheet.{Texts, texts_fault}
use Rattle.sheet.proofs.FrameLaws.{given_none}
use Rattle.salvage.specs.Salvage.{bad_line, salvage_line, salvage_hosts, salvaged_by, salvaged, grown}
use Rattle.salvage.proofs.HostsLaws.{salvage_hosts_good, salvage_hosts_lines}
use Rattle.salvage.proofs.BridgeLaws.{judge_tables}
use Rattle.salvage.proofs.CallLaws.{Sound, five_sound}
use Rattle.salvage.proofs.SheetLaws.{nothing, all_all, unrefused, unmissing, undeep, Kept, sound_kept}

-- ## A line of deny

-- whether the rule of a line decides, which its bytes alone tell
module _ (m : Matcher) (r : Request) where
  abbrev denying : Line.Line → Option Answer
  denying l = line_answer Denied Deny (rule_found m r) l

  decides : List ℕ → Bool
  decides s = is_some (denying (line 0 0 s true))

  rule_decides : (l k : Line.Line) (u : Rule.Rule) (f : Found) → is_some (rule_answer Denied Deny l u f) ≡ is_some (rule_answer Denied Deny k u f)
  rule_decides l k u Found.Yes = refl
  rule_decides l k u Found.Ask = refl
  rule_decides l k u Found.No = refl

  line_decides : (l : Line.Line) → is_some (denying l) ≡ decides l.raw
  unfolding line_answer decides
  line_decides l = by (is_comment l || is_blank l) (parse_rule l.raw)
    where
      k : Line.Line
      k = line 0 0 l.raw true

      by : (b : Bool) (o : Option Rule.Rule)
          → is_some (when b then None else (o >>= λ u. rule_answer Denied Deny l u (rule_found m r u)))
          ≡ is_some (when b then None else (o >>= λ u. rule_answer Denied Deny k u (rule_found m r u)))
      by true o = refl
      by false None = refl
      by false (Some u) = rule_decides l k u (rule_found m r u)

  -- `ALL: ALL` decides on every request
  all_decides : decides (bytes "ALL: ALL") ≡ true
  unfolding
      decides line_answer Walk.rule_found_by Walk.included Walk.excluded Basics.all Basics.any Basics.first Line.join
      Rule.split_separator Rule.non_empty Rule.elements Rule.parse_rule
      Text.split Text.equal Text.equal_fold Text.lower Text.split_once
      Element.halves Element.daemon_element Element.daemon_parts Element.daemon_name
      Element.client_element Element.client_parts Table.table_name Table.pattern_with Pattern.host_pattern Pattern.wildcard
  all_decides = refl

  -- a file decides where the bytes of one of its lines do
  file_decides : (ls : List Line.Line) → is_some (first denying ls) ≡ any decides (map (λ (l : Line.Line). l.raw) ls)
  unfolding first any
  file_decides [] = refl
  file_decides (l ∷ ls) = either (denying l) (first denying ls) ∙ ap₂ ◌||◌ (line_decides l) (file_decides ls)
    where
      either : (o q : Option Answer) → is_some (o or_else q) ≡ is_some o || is_some q
      either None q = refl
      either (Some a) q = refl

  -- where lines with `ALL: ALL` for each bad one do not decide, the good ones do not
  good_silent : (bad : Line.Line → Bool) (ls : List Line.Line)
      → any decides (map (λ (l : Line.Line). when bad l then bytes "ALL: ALL" else l.raw) ls) ≡ false
      → any decides (map (λ (l : Line.Line). when bad l then [] else l.raw) ls) ≡ false
  unfolding any
  good_silent bad [] e = refl
  good_silent bad (l ∷ ls) e =
      let others : List (List ℕ) = map (λ (x : Line.Line). when bad x then bytes "ALL: ALL" else x.raw) ls in
      let a = or_false (decides (when bad l then bytes "ALL: ALL" else l.raw)) (any decides others) e in
      rw (by (bad l) a.0, good_silent bad ls a.1)
    where
      by : (b : Bool) → decides (when b then bytes "ALL: ALL" else l.raw) ≡ false → decides (when b then [] else l.raw) ≡ false
      by true k = absurd (true≢false (sym all_decides ∙ k))
      by false k = k

-- ## The search

-- whether a verdict grants
abbrev pub grants : Verdict → Bool
grants Granted = true
grants Denied = false
grants Ask = false

abbrev answer_grants : Option Answer → Bool
answer_grants o = holds (λ (a : Answer). grants a.verdict) o

-- by what the allow file answers, and by what the deny file answers: where the second deny file is silent if the first one is
by_answers : (o q s : Option Answer) → answer_grants q ≡ false → (is_some q ≡ false → is_some s ≡ false)
    → grants (unwrap_or (o or_else q) (answer Granted Neither 0 (part 0 0))).verdict ≡ true
    → grants (unwrap_or (o or_else s) (answer Granted Neither 0 (part 0 0))).verdict ≡ true
by_answers (Some a) q s h k e = e
by_answers None (Some a) s h k e = absurd (true≢false (sym e ∙ h))
by_answers None None None h k e = refl
by_answers None None (Some a) h k e = absurd (true≢false (k refl))

module _ (m : Matcher) (r : Request) where
  -- no rule of deny grants
  line_ungranting : (l : Line.Line) → answer_grants (denying m r l) ≡ false
  unfolding line_answer
  line_ungranting l = by (is_comment l || is_blank l) (parse_rule l.raw)
    where
      rule : (u : Rule.Rule) (f : Found) → answer_grants (rule_answer Denied Deny l u f) ≡ false
      rule u Found.Yes = refl
      rule u Found.Ask = refl
      rule u Found.No = refl

      by : (b : Bool) (o : Option Rule.Rule) → answer_grants (when b then None else (o >>= λ u. rule_answer Denied Deny l u (rule_found m r u))) ≡ false
      by true o = refl
      by false None = refl
      by false (Some u) = rule u (rule_found m r u)

  file_ungranting : (ls : List Line.Line) → answer_grants (first (denying m r) ls) ≡ false
  unfolding first
  file_ungranting [] = refl
  file_ungranting (l ∷ ls) = by (denying m r l) (line_ungranting l) (file_ungranting ls)
    where
      by : (o : Option Answer) → answer_grants o ≡ false → answer_grants (first (denying m r) ls) ≡ false
          → answer_grants (o or_else first (denying m r) ls) ≡ false
      by None h ih = ih
      by (Some a) h ih = h

first_two : (a b c d : Option Refusal) → (a or_else b or_else c or_else d) ≡ None → (a ≡ None) × (b ≡ None)
first_two a b c d e =
    let x = or_else_nones (a or_else b or_else c) d e in
    let y = or_else_nones (a or_else b) c x.0 in
    or_else_nones a b y.0

module _ (ts : Texts) where
  abbrev tables : List Table.Table
  tables = tables_of ts.tables

  -- the good lines of both files, each bad one made empty
  abbrev good_allow : List ℕ
  good_allow = salvage_hosts (bad_line tables) [] ts.allow

  abbrev good_deny : List ℕ
  good_deny = salvage_hosts (bad_line tables) [] ts.deny

  abbrev new_deny : List ℕ
  new_deny = salvage_hosts (bad_line tables) (bytes "ALL: ALL") ts.deny

  deny_silent : (m : Matcher) (r : Request) → is_some (first (denying m r) (lines new_deny)) ≡ false → is_some (first (denying m r) (lines good_deny)) ≡ false
  deny_silent m r e =
      file_decides m r (lines good_deny)
      ∙ ap (any (decides m r)) (salvage_hosts_lines (bad_line tables) (judge_tables tables) [] (nothing tables) ts.deny)
      ∙ good_silent m r (bad_line tables) (lines ts.deny)
      (ap (any (decides m r)) (sym (salvage_hosts_lines (bad_line tables) (judge_tables tables) (bytes "ALL: ALL") (all_all tables) ts.deny))
      ∙ sym (file_decides m r (lines new_deny)) ∙ e)

  pub good_grants : (m : Matcher) (r : Request) → grants (search m (salvaged ts).allow (salvaged ts).deny r).verdict ≡ true
      → grants (search m good_allow good_deny r).verdict ≡ true
  unfolding search salvaged_by
  good_grants m r =
      by_answers (first (line_answer Granted Allow (rule_found m r)) (lines good_allow)) (first (denying m r) (lines new_deny))
      (first (denying m r) (lines good_deny)) (file_ungranting m r (lines new_deny)) (deny_silent m r)

  -- ## The checks

  shorter : (ls : List Line.Line)
      → length (flat_map (salvage_line (bad_line tables) []) ls) ≤ length (flat_map (salvage_line (bad_line tables) (bytes "ALL: ALL")) ls)
  unfolding flat_map
  shorter [] = omega arith
  shorter (l ∷ ls) =
      let a = salvage_line (bad_line tables) [] l in
      let b = salvage_line (bad_line tables) (bytes "ALL: ALL") l in
      let k : length a ≤ length b = by (bad_line tables l) in
      omega (
        arith,
        k,
        shorter ls,
        length-append a (flat_map (salvage_line (bad_line tables) []) ls),
        length-append b (flat_map (salvage_line (bad_line tables) (bytes "ALL: ALL")) ls),
      )
    where
      by : (b : Bool) → length (when b then [] ++ bytes "\n" else line_bytes l) ≤ length (when b then bytes "ALL: ALL" ++ bytes "\n" else line_bytes l)
      by true = omega arith
      by false = omega arith

  deny_shorter : length good_deny ≤ length new_deny
  unfolding salvage_hosts
  deny_shorter = shorter (lines ts.deny)

  allow_small : grown (salvaged ts) ≡ None → over_limit S.allow good_allow ≡ None
  unfolding grown salvaged_by
  allow_small g = (first_two (over_limit S.allow good_allow) (over_limit S.deny new_deny) _ _ g).0

  deny_small : grown (salvaged ts) ≡ None → over_limit S.deny good_deny ≡ None
  unfolding grown salvaged_by
  deny_small g =
      let k : over_limit S.deny new_deny ≡ None = (first_two (over_limit S.allow good_allow) (over_limit S.deny new_deny) _ _ g).1 in
      let n : length new_deny ≤ 16384 = ltb-false 16384 (length new_deny) (given_none (ltb 16384 (length new_deny)) (refusal F.OverLimit 2 0) k) in
      rw (le-ltb 16384 (length good_deny) (omega (arith, deny_shorter, n)))

  -- texts of good lines are decided
  pub good_checks : (o : Option Request) → texts_fault (salvaged ts) ≡ None
      → decide_tables good_allow good_deny ts.tables o ≡ decide_over tables good_allow good_deny o
  unfolding decide_tables tables_fault salvaged_by
  good_checks o e =
      let kept : Kept (salvaged ts) = sound_kept (salvaged ts) e in
      let f : Sound ts.tables = five_sound ts.tables kept.five in
      let allow = salvage_hosts_good (bad_line tables) (judge_tables tables) [] (nothing tables) ts.allow in
      let deny = salvage_hosts_good (bad_line tables) (judge_tables tables) [] (nothing tables) ts.deny in
      rw (
        allow_small kept.small,
        deny_small kept.small,
        f.framed,
        unrefused tables S.allow good_allow allow,
        unrefused tables S.deny good_deny deny,
        unmissing tables S.allow good_allow allow,
        unmissing tables S.deny good_deny deny,
        f.named,
        undeep tables S.allow good_allow allow,
        undeep tables S.deny good_deny deny,
        f.tabled,
      )
