-- Document 02, request 12: how many elements the walk of one rule looks at. What it finds is in Walk.antt.
--   looked_included m c ws, looked_excluded m c ws == what included m ws and excluded m ws look at, where c says what an element counts
--   rule_looked ts r u == what the rule u looks at for the request r
--   rule_elements u    == the elements of both lists of u
-- Assumes nothing: these are definitions.
use Rattle.std.specs.Prelude.{ℕ, ◌+◌, List, [], ◌∷◌}
use Rattle.text.specs.Basics.{when◌then◌else◌, sum}
use Rattle.lines.specs.Rule.{Rule, is_except}
use Rattle.tables.specs.Table.{Table, Matcher, match_of}
use Rattle.tables.specs.Tried.{tried_of}
use Rattle.elements.specs.declared.Found.{Found}
use Rattle.elements.specs.declared.Found.TheVariants as Found
use Rattle.elements.specs.Request.{Request}
use Rattle.elements.specs.Element.{look_at, daemon_element, client_element, element_looked}
use Rattle.lists.specs.Walk.{included}

-- what is looked at further after a match, or a miss; asking ends every walk
abbrev pub further_on : Found → ℕ → ℕ → ℕ
further_on Found.Yes matched missed = matched
further_on Found.No matched missed = missed
further_on Found.Ask matched missed = 0

-- "how many elements were looked at .., as the walk in document 01 looks at them": by the recursion of included and excluded
unfoldable mutual
  pub looked_included : (List ℕ → Found) → (List ℕ → ℕ) → List (List ℕ) → ℕ
  looked_included m c [] = 0
  looked_included m c (w ∷ ws) = when is_except w then 0 else c w + further_on (m w) (looked_excluded m c ws) (looked_included m c ws)

  pub looked_excluded : (List ℕ → Found) → (List ℕ → ℕ) → List (List ℕ) → ℕ
  looked_excluded m c [] = 0
  looked_excluded m c (w ∷ ws) = when is_except w then looked_included m c ws else looked_excluded m c ws

-- of a rule, where s and c say what a named table matches, of the server and of the client, and x and y what is tried in it
unfoldable pub rule_looked_by : Matcher → Matcher → (List ℕ → ℕ) → (List ℕ → ℕ) → Request → Rule → ℕ
rule_looked_by s c x y r u =
    looked_included (λ e. look_at r (daemon_element s e)) (element_looked x) u.daemons
    + further_on (included (λ e. look_at r (daemon_element s e)) u.daemons)
    (looked_included (λ e. look_at r (client_element c e)) (element_looked y) u.clients) 0

abbrev pub rule_looked : List Table → Request → Rule → ℕ
rule_looked ts r = rule_looked_by (match_of ts) (match_of ts) (λ n. tried_of ts n r.server) (λ n. tried_of ts n r.client) r

-- "the elements in both files", of one rule; "EXCEPT is none"
abbrev pub list_elements : List (List ℕ) → ℕ
list_elements ws = sum (λ w. when is_except w then 0 else 1) ws

unfoldable pub rule_elements : Rule → ℕ
rule_elements u = list_elements u.daemons + list_elements u.clients
