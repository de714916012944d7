-- Document 02, request 12: the walk looks at no element twice, so without tables the number is at most that of the elements.
-- Each list, rule, line and file is bounded by the sum of what its elements count; an element that names no table counts one.
-- Assumes nothing.
use Rattle.std.specs.Prelude.{None, Option, Some}
use Prim.Native.Nat.{ℕ, ◌+◌, ◌≤◌}
use mathlib.Core.Bool.{Bool, true, false, ◌||◌}
use mathlib.Core.List.{List, [], ◌∷◌}
use mathlib.Core.Path.{◌≡◌, refl}
use native.Mathlib.Omega.{arith}
use Rattle.text.specs.Basics.{when◌then◌else◌, holds, is_some, any, first, sum, sum_until}
use Rattle.text.proofs.BasicLaws.{or_false}
use Rattle.lines.specs.Line.{Line, lines, is_comment, is_blank}
use Rattle.lines.specs.Rule.{Rule, parse_rule, is_except}
use Rattle.tables.specs.Table.{Table, match_of}
use Rattle.tables.specs.Tried.{looked_with, tried_of}
use Rattle.elements.specs.declared.Found.{Found}
use Rattle.elements.specs.declared.Found.TheVariants.{No, Yes, Ask}
use Rattle.elements.specs.Request.{Request}
use Rattle.elements.specs.Element.{look_at, named_table, daemon_element, client_element, element_looked}
use Rattle.lists.specs.Check.{rule_names}
use Rattle.lists.specs.Walk.{included, rule_found}
use Rattle.lists.specs.Looked.{further_on, looked_included, looked_excluded, rule_looked_by, rule_looked, list_elements, rule_elements}
use Rattle.rules.specs.declared.Verdict.{Verdict}
use Rattle.rules.specs.declared.Verdict.TheVariants.{Granted, Denied}
use Rattle.rules.specs.declared.File.{File}
use Rattle.rules.specs.declared.File.TheVariants.{Allow, Deny}
use Rattle.rules.specs.Check.{line_names}
use Rattle.rules.specs.Search.{line_answer}
use Rattle.rules.specs.Looked.{of_rule, line_count, file_looked, looked, file_elements}

-- ## A list

-- what every element of a list counts
abbrev list_sum : (List ℕ → ℕ) → List (List ℕ) → ℕ
list_sum c ws = sum (λ w. when is_except w then 0 else c w) ws

further_le : (f : Found) (a b k : ℕ) → a ≤ k → b ≤ k → further_on f a b ≤ k
further_le Yes a b k h g = h
further_le No a b k h g = g
further_le Ask a b k h g = omega arith

module _ (m : List ℕ → Found) (c : List ℕ → ℕ) where
  mutual
    unfolding looked_included looked_excluded sum

    pub included_le : (ws : List (List ℕ)) → looked_included m c ws ≤ list_sum c ws
    included_le [] = omega arith
    included_le (w ∷ ws) = by (is_except w)
        (further_le (m w) (looked_excluded m c ws) (looked_included m c ws) (list_sum c ws) (excluded_le ws) (included_le ws))
      where
        by : (b : Bool) → further_on (m w) (looked_excluded m c ws) (looked_included m c ws) ≤ list_sum c ws
            → (when b then 0 else c w + further_on (m w) (looked_excluded m c ws) (looked_included m c ws)) ≤ (when b then 0 else c w) + list_sum c ws
        by true h = omega arith
        by false h = omega arith

    pub excluded_le : (ws : List (List ℕ)) → looked_excluded m c ws ≤ list_sum c ws
    excluded_le [] = omega arith
    excluded_le (w ∷ ws) = by (is_except w) (included_le ws) (excluded_le ws)
      where
        by : (b : Bool) → looked_included m c ws ≤ list_sum c ws → looked_excluded m c ws ≤ list_sum c ws
            → (when b then looked_included m c ws else looked_excluded m c ws) ≤ (when b then 0 else c w) + list_sum c ws
        by true h g = omega arith
        by false h g = omega arith

-- ## Elements that name no table

abbrev names : List ℕ → Bool
names e = holds (λ n. true) (named_table e)

unnamed_one : (c : List ℕ → ℕ) (o : Option (List ℕ)) → holds (λ n. true) o ≡ false → looked_with c o ≡ 1
unnamed_one c None e = refl
unnamed_one c (Some n) e = let z : ◌≡◌ {A = ℕ} 0 1 = cc in absurd (omega arith)

list_ones : (c : List ℕ → ℕ) (ws : List (List ℕ)) → any names ws ≡ false → list_sum (element_looked c) ws ≡ list_elements ws
unfolding any sum element_looked
list_ones c [] e = refl
list_ones c (w ∷ ws) e =
    let f : (names w ≡ false) × (any names ws ≡ false) = or_false (names w) (any names ws) e in
    rw (unnamed_one c (named_table w) f.0, list_ones c ws f.1)

list_le : (m : List ℕ → Found) (c : List ℕ → ℕ) (ws : List (List ℕ)) → any names ws ≡ false → looked_included m (element_looked c) ws ≤ list_elements ws
list_le m c ws e = rw (← (list_ones c ws e)) (included_le m (element_looked c) ws)

module _ (ts : List Table) where
  rule_le : (r : Request) (u : Rule) → rule_names (λ n. true) u ≡ false → rule_looked ts r u ≤ rule_elements u
  unfolding rule_names rule_looked_by rule_elements
  rule_le r u e =
      let f : (any names u.daemons ≡ false) × (any names u.clients ≡ false) = or_false (any names u.daemons) (any names u.clients) e in
      let x : List ℕ → Found = λ e. look_at r (daemon_element (match_of ts) e) in
      let y : List ℕ → Found = λ e. look_at r (client_element (match_of ts) e) in
      let d : looked_included x (element_looked (λ n. tried_of ts n r.server)) u.daemons ≤ list_elements u.daemons =
      list_le x (λ n. tried_of ts n r.server) u.daemons f.0 in
      let k : looked_included y (element_looked (λ n. tried_of ts n r.client)) u.clients ≤ list_elements u.clients =
      list_le y (λ n. tried_of ts n r.client) u.clients f.1 in
      let g : further_on (included x u.daemons) (looked_included y (element_looked (λ n. tried_of ts n r.client)) u.clients) 0 ≤ list_elements
      u.clients =
      further_le (included x u.daemons) (looked_included y (element_looked (λ n. tried_of ts n r.client)) u.clients) 0 (list_elements u.clients) k
      (omega arith) in
      omega arith

  line_le : (r : Request) (l : Line) → line_names (λ n. true) l ≡ false → line_count (rule_looked ts r) l ≤ line_count rule_elements l
  unfolding line_names line_count
  line_le r l = by (is_comment l || is_blank l) (parse_rule l.raw)
    where
      by : (b : Bool) (o : Option Rule) → (when b then false else holds (rule_names (λ n. true)) o) ≡ false
          → (when b then 0 else of_rule (rule_looked ts r) o) ≤ (when b then 0 else of_rule rule_elements o)
      by true o e = omega arith
      by false None e = omega arith
      by false (Some u) e = rule_le r u e

  until_le : (p : Line → Bool) (r : Request) (ls : List Line) → any (line_names (λ n. true)) ls ≡ false
      → sum_until p (line_count (rule_looked ts r)) ls ≤ sum (line_count rule_elements) ls
  unfolding sum_until sum any
  until_le p r [] e = omega arith
  until_le p r (l ∷ ls) e =
      let f : (line_names (λ n. true) l ≡ false) × (any (line_names (λ n. true)) ls ≡ false) =
      or_false (line_names (λ n. true) l) (any (line_names (λ n. true)) ls) e in
      by (p l) (line_le r l f.0) (until_le p r ls f.1)
    where
      by : (b : Bool) → line_count (rule_looked ts r) l ≤ line_count rule_elements l → sum_until p (line_count (rule_looked ts r)) ls ≤ sum (line_count rule_elements) ls
          → line_count (rule_looked ts r) l + (when b then 0 else sum_until p (line_count (rule_looked ts r)) ls) ≤ line_count rule_elements l + sum
          (line_count rule_elements) ls
      by true h g = omega arith
      by false h g = omega arith

  file_le : (v : Verdict) (f : File) (r : Request) (t : List ℕ) → any (line_names (λ n. true)) (lines t) ≡ false → file_looked ts v f r t ≤ file_elements t
  unfolding file_looked file_elements
  file_le v f r t e = until_le (λ l. is_some (line_answer v f (rule_found (match_of ts) r) l)) r (lines t) e

  -- "For rules without tables the number never exceeds the elements in both files"
  pub looked_le : (allow deny : List ℕ) (r : Request) → any (line_names (λ n. true)) (lines allow) ≡ false → any (line_names (λ n. true)) (lines deny) ≡ false
      → looked ts allow deny r ≤ file_elements allow + file_elements deny
  unfolding looked
  looked_le allow deny r a d = by (is_some (first (line_answer Granted Allow (rule_found (match_of ts) r)) (lines allow))) (file_le Granted Allow r allow a)
      (file_le Denied Deny r deny d)
    where
      by : (b : Bool) → file_looked ts Granted Allow r allow ≤ file_elements allow → file_looked ts Denied Deny r deny ≤ file_elements deny
          → file_looked ts Granted Allow r allow + (when b then 0 else file_looked ts Denied Deny r deny) ≤ file_elements allow + file_elements deny
      by true h g = omega arith
      by false h g = omega arith
