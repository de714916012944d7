-- Dropping what the checker accepts keeps the search's answer, over the lines of a text.
--   CaseBlind m r    what an element finds does not depend on the case of its letters; case_blind: so it is
--   covered_misses   a rule that is covered by one that matches nothing matches nothing
--   search_kept      the first answer along the lines is that along the kept lines
--   accepted_search  the same for an accepted proposal
-- Assumes nothing.
use Rattle.std.specs.Prelude.{None, Option, Some}
use Prim.Native.Nat.{ℕ, ◌+◌}
use mathlib.Core.Bool.{Bool, true, false, not, ◌&&◌, ◌||◌, true≢false}
use mathlib.Core.List.{List, [], ◌∷◌, ◌++◌}
use mathlib.Core.Path.{◌≡◌, refl, sym, ap, ◌∙◌}
use native.Mathlib.Omega.{arith}
use borrow.Author.Tests.{not-true}
use lib.Dec.{eqb}
use lib.ListN.{length}
use Rattle.text.specs.Basics.{when◌then◌else◌, ◌>>=◌, ◌or_else◌, holds, any, all, first}
use Rattle.text.specs.Basics as Basics
use Rattle.text.specs.Text as Text
use Rattle.text.specs.Text.{bytes, equal, equal_fold, is_word}
use Rattle.text.proofs.BasicLaws.{and_true, or_false}
use Rattle.text.proofs.ScanLaws.{eq_of_equal}
use Rattle.lines.specs.Line.{Line, lines, is_comment, is_blank}
use Rattle.lines.specs.Rule.{Rule, is_except, parse_rule}
use Rattle.elements.specs.declared.Found.{Found}
use Rattle.elements.specs.declared.Found.TheVariants as Found
use Rattle.elements.specs.Request.{Request}
use Rattle.elements.specs.Element.{look_at, daemon_element, client_element, daemon_parts, client_parts, halves, daemon_name}
use Rattle.elements.specs.Element as Element
use Rattle.elements.proofs.CaseLaws.{match_of_case, daemon_element_case, client_element_case}
use Rattle.tables.specs.Table.{Table, Matcher, pattern_with, match_of}
use Rattle.patterns.specs.Pattern as Pattern
use Rattle.lists.specs.Walk.{on_found, included, excluded, rule_found_by, rule_found}
use Rattle.rules.specs.declared.Verdict.{Verdict}
use Rattle.rules.specs.declared.File.{File}
use Rattle.rules.specs.declared.Answer.{Answer}
use Rattle.rules.specs.Search.{rule_answer, line_answer}
use Rattle.tidy.specs.Tidy.{rule_of, same_list, all_alone, same_lists, matches_all, covers, covered_by, with_rule, named, witnessed, are_lines, accepts}

-- ## Lists that are the same

pub record CaseBlind (m : Matcher) (r : Request) : Type 0 where
  pub daemons : (x y : List ℕ) → equal_fold x y ≡ true → look_at r (daemon_element m x) ≡ look_at r (daemon_element m y)
  pub clients : (x y : List ℕ) → equal_fold x y ≡ true → look_at r (client_element m x) ≡ look_at r (client_element m y)

is_except_same : (x y : List ℕ) → equal_fold x y ≡ true → is_except x ≡ is_except y
unfolding equal_fold
is_except_same x y e = ap (equal _) (eq_of_equal _ _ e)

all_is_none : is_except (bytes "ALL") ≡ false
unfolding equal_fold equal Text.lower
all_is_none = refl

module _ (m : List ℕ → Found) (blind : (x y : List ℕ) → equal_fold x y ≡ true → m x ≡ m y) where
  mutual
    unfolding included excluded same_list

    included_same : (xs ys : List (List ℕ)) → same_list xs ys ≡ true → included m xs ≡ included m ys
    included_same [] [] e = refl
    included_same [] (y ∷ ys) e = absurd (true≢false (sym e))
    included_same (x ∷ xs) [] e = absurd (true≢false (sym e))
    included_same (x ∷ xs) (y ∷ ys) e =
        let a = and_true (equal_fold x y) (same_list xs ys) e in
        rw (is_except_same x y a.0, blind x y a.0, included_same xs ys a.1, excluded_same xs ys a.1)

    excluded_same : (xs ys : List (List ℕ)) → same_list xs ys ≡ true → excluded m xs ≡ excluded m ys
    excluded_same [] [] e = refl
    excluded_same [] (y ∷ ys) e = absurd (true≢false (sym e))
    excluded_same (x ∷ xs) [] e = absurd (true≢false (sym e))
    excluded_same (x ∷ xs) (y ∷ ys) e =
        let a = and_true (equal_fold x y) (same_list xs ys) e in
        rw (is_except_same x y a.0, included_same xs ys a.1, excluded_same xs ys a.1)

-- the lines that are kept
unfoldable pub kept_lines : List ℕ → List Line → List Line
kept_lines ns [] = []
kept_lines ns (l ∷ ls) = when named ns l then kept_lines ns ls else l ∷ kept_lines ns ls

module _ (m : Matcher) (r : Request) (blind : CaseBlind m r) where
  same_found_lem : (u v : Rule) → same_list u.daemons v.daemons ≡ true → same_list u.clients v.clients ≡ true → rule_found m r u ≡ rule_found m r v
  unfolding rule_found_by
  same_found_lem u v d c =
      rw (
        included_same (λ e. look_at r (daemon_element m e)) blind.daemons u.daemons v.daemons d,
        included_same (λ e. look_at r (client_element m e)) blind.clients u.clients v.clients c,
      )

  -- ## A rule that matches all

  all_daemon : look_at r (daemon_element m (bytes "ALL")) ≡ Found.Yes
  unfolding daemon_element daemon_parts halves daemon_name Text.split_once equal_fold equal Text.lower
  all_daemon = refl

  all_client : look_at r (client_element m (bytes "ALL")) ≡ Found.Yes
  unfolding client_element client_parts halves Text.split_once equal_fold equal Text.lower pattern_with Pattern.host_pattern Pattern.wildcard Basics.first Basics.any
  all_client = refl

  not_except : (w : List ℕ) → is_word "ALL" w ≡ true → is_except w ≡ false
  not_except w e = sym (is_except_same (bytes "ALL") w e) ∙ all_is_none

  alone : (g : List ℕ → Found) → ((x y : List ℕ) → equal_fold x y ≡ true → g x ≡ g y) → g (bytes "ALL") ≡ Found.Yes
      → (ws : List (List ℕ)) → all_alone ws ≡ true → included g ws ≡ Found.Yes
  unfolding included excluded
  alone g b y [] e = absurd (true≢false (sym e))
  alone g b y (w ∷ []) e = rw (not_except w e, ← (b (bytes "ALL") w e), y)
  alone g b y (w ∷ v ∷ ws) e = absurd (true≢false (sym e))

  all_found : (u : Rule) → all_alone u.daemons ≡ true → all_alone u.clients ≡ true → rule_found m r u ≡ Found.Yes
  unfolding rule_found_by
  all_found u d c =
      rw (
        alone (λ e. look_at r (daemon_element m e)) blind.daemons all_daemon u.daemons d,
        alone (λ e. look_at r (client_element m e)) blind.clients all_client u.clients c,
      )

  pub covered_misses : (u v : Rule) → covers u v ≡ true → rule_found m r u ≡ Found.No → rule_found m r v ≡ Found.No
  unfolding covers
  covered_misses u v e n = by (same_list u.daemons v.daemons && same_list u.clients v.clients) refl e
    where
      by : (b : Bool) → (same_list u.daemons v.daemons && same_list u.clients v.clients) ≡ b
          → (b || all_alone u.daemons && all_alone u.clients) ≡ true → rule_found m r v ≡ Found.No
      by true q h = let a = and_true (same_list u.daemons v.daemons) (same_list u.clients v.clients) q in sym (same_found_lem u v a.0 a.1) ∙ n
      by false q h =
          let a = and_true (all_alone u.daemons) (all_alone u.clients) h in
          let z : ◌≡◌ {A = ℕ} 0 1 = cc (sym (all_found u a.0 a.1) ∙ n) in absurd (omega arith)

  -- ## The search

  -- none of these rules matches or asks
  abbrev pub Missed : List Rule → Type 0
  Missed [] = Unit {0}
  Missed (u ∷ us) = (rule_found m r u ≡ Found.No) × Missed us

  missed_any : (us : List Rule) (v : Rule) → Missed us → any (λ u. covers u v) us ≡ true → rule_found m r v ≡ Found.No
  unfolding any
  missed_any [] v h e = absurd (true≢false (sym e))
  missed_any (u ∷ us) v h e = by (covers u v) refl e (λ k. missed_any us v h.1 k)
    where
      by : (b : Bool) → covers u v ≡ b → (b || any (λ u. covers u v) us) ≡ true → (any (λ u. covers u v) us ≡ true → rule_found m r v ≡ Found.No)
          → rule_found m r v ≡ Found.No
      by true q k ih = covered_misses u v q h.0
      by false q k ih = ih k

  module _ (v : Verdict) (f : File) where
    -- a line answers by its rule
    line_none : (l : Line) → rule_of l ≡ None → line_answer v f (rule_found m r) l ≡ None
    unfolding line_answer
    line_none l e = by (is_comment l || is_blank l) (parse_rule l.raw) e
      where
        by : (b : Bool) (o : Option Rule) → (when b then None else o) ≡ None → (when b then None else (o >>= λ u. rule_answer v f l u (rule_found m r u))) ≡ None
        by true o k = refl
        by false None k = refl
        by false (Some u) k = let z : ◌≡◌ {A = ℕ} 0 1 = cc in absurd (omega arith)

    line_rule : (l : Line) (u : Rule) → rule_of l ≡ Some u → line_answer v f (rule_found m r) l ≡ rule_answer v f l u (rule_found m r u)
    unfolding line_answer
    line_rule l u e = by (is_comment l || is_blank l) (parse_rule l.raw) e
      where
        by : (b : Bool) (o : Option Rule) → (when b then None else o) ≡ Some u
            → (when b then None else (o >>= λ w. rule_answer v f l w (rule_found m r w))) ≡ rule_answer v f l u (rule_found m r u)
        by true o k = let z : ◌≡◌ {A = ℕ} 0 1 = cc in absurd (omega arith)
        by false None k = let z : ◌≡◌ {A = ℕ} 0 1 = cc in absurd (omega arith)
        by false (Some w) k = let same : w ≡ u = cc k in ap (λ (x : Rule). rule_answer v f l x (rule_found m r x)) same

    covered_line : (kept : List Rule) (l : Line) → Missed kept → covered_by kept l ≡ true → line_answer v f (rule_found m r) l ≡ None
    covered_line kept l h e = by (rule_of l) refl e
      where
        by : (o : Option Rule) → rule_of l ≡ o → holds (λ w. any (λ u. covers u w) kept) o ≡ true → line_answer v f (rule_found m r) l ≡ None
        by None q k = absurd (true≢false (sym k))
        by (Some u) q k = line_rule l u q ∙ ap (rule_answer v f l u) (missed_any kept u h k)

    pub search_kept : (ns : List ℕ) (kept : List Rule) (ls : List Line) → Missed kept → witnessed ns kept ls ≡ true
        → first (line_answer v f (rule_found m r)) ls ≡ first (line_answer v f (rule_found m r)) (kept_lines ns ls)
    unfolding witnessed kept_lines first
    search_kept ns kept [] h e = refl
    search_kept ns kept (l ∷ ls) h e = by (named ns l) e (λ k. search_kept ns kept ls h k) (λ us m k. search_kept ns us ls m k)
      where
        on : (o : Option Answer) → line_answer v f (rule_found m r) l ≡ o → witnessed ns (with_rule (rule_of l) kept) ls ≡ true
            → ((us : List Rule) → Missed us → witnessed ns us ls ≡ true
            → first (line_answer v f (rule_found m r)) ls ≡ first (line_answer v f (rule_found m r)) (kept_lines ns ls))
            → o or_else first (line_answer v f (rule_found m r)) ls ≡ o or_else first (line_answer v f (rule_found m r)) (kept_lines ns ls)
        on (Some a) q k ih = refl
        on None q k ih = rule (rule_of l) refl
          where
            found : (u : Rule) (x : Found) → rule_found m r u ≡ x → rule_answer v f l u x ≡ None → rule_found m r u ≡ Found.No
            found u Found.No p z = p
            found u Found.Yes p z = let y : ◌≡◌ {A = ℕ} 0 1 = cc in absurd (omega arith)
            found u Found.Ask p z = let y : ◌≡◌ {A = ℕ} 0 1 = cc in absurd (omega arith)

            rule : (o : Option Rule) → rule_of l ≡ o → first (line_answer v f (rule_found m r)) ls ≡ first (line_answer v f (rule_found m r)) (kept_lines ns ls)
            rule None p = ih kept h (rw p at k)
            rule (Some u) p = ih (u ∷ kept) (found u (rule_found m r u) refl (sym (line_rule l u p) ∙ q), h) (rw p at k)

        by : (b : Bool) → (when b then covered_by kept l && witnessed ns kept ls else witnessed ns (with_rule (rule_of l) kept) ls) ≡ true
            → (witnessed ns kept ls ≡ true → first (line_answer v f (rule_found m r)) ls ≡ first (line_answer v f (rule_found m r)) (kept_lines ns ls))
            → ((us : List Rule) → Missed us → witnessed ns us ls ≡ true
            → first (line_answer v f (rule_found m r)) ls ≡ first (line_answer v f (rule_found m r)) (kept_lines ns ls))
            → line_answer v f (rule_found m r) l or_else first (line_answer v f (rule_found m r)) ls
            ≡ first (line_answer v f (rule_found m r)) (when b then kept_lines ns ls else l ∷ kept_lines ns ls)
        by true k ih ih' =
            let a = and_true (covered_by kept l) (witnessed ns kept ls) k in
            rw (covered_line kept l h a.0) (ih a.1)
        by false k ih ih' = on (line_answer v f (rule_found m r) l) refl k ih'

-- what elements find does not depend on case
pub case_blind : (ts : List Table) (r : Request) → CaseBlind (match_of ts) r
case_blind ts r = record {
  daemons = λ x y e. ap (look_at r) (daemon_element_case (match_of ts) (match_of_case ts) x y e);
  clients = λ x y e. ap (look_at r) (client_element_case (match_of ts) (match_of_case ts) x y e);
}

-- so along the lines of a text an accepted proposal keeps the first answer
pub accepted_search : (v : Verdict) (f : File) (ts : List Table) (r : Request) (t ns : List ℕ) → accepts t ns ≡ true
    → first (line_answer v f (rule_found (match_of ts) r)) (lines t) ≡ first (line_answer v f (rule_found (match_of ts) r)) (kept_lines ns (lines t))
unfolding accepts
accepted_search v f ts r t ns e =
    search_kept (match_of ts) r (case_blind ts r) v f ns [] (lines t) tt (and_true (are_lines ns (lines t)) (witnessed ns [] (lines t)) e).1
