-- Document 01, "EXCEPT", and of "Search" and "Asking" what one rule finds: the walk.
--   included m ws, excluded m ws == what the list ws finds, before and after an element of it matched, where m says what an element finds
--   rule_found m r u == what the rule u finds of the request r, where m says what a named table matches
-- Assumes nothing: these are definitions.
use Rattle.std.specs.Prelude.{ℕ, List, [], ◌∷◌}
use Rattle.text.specs.Basics.{when◌then◌else◌}
use Rattle.lines.specs.Rule.{Rule, is_except}
use Rattle.tables.specs.Table.{Matcher}
use Rattle.elements.specs.declared.Found.{Found}
use Rattle.elements.specs.declared.Found.TheVariants as Found
use Rattle.elements.specs.Request.{Request}
use Rattle.elements.specs.Element.{look_at, daemon_element, client_element}

-- asking ends every walk; else what follows a match, or a miss
abbrev pub on_found : Found → Found → Found → Found
on_found Found.Yes matched missed = matched
on_found Found.No matched missed = missed
on_found Found.Ask matched missed = Found.Ask

-- "What follows EXCEPT is itself a list. A list matches if some element left of its first EXCEPT matches and the list
-- after it, if any, does not. Elements are looked at left to right until one matches; the right side is looked at only
-- after the left matched."
unfoldable mutual
  pub included : (List ℕ → Found) → List (List ℕ) → Found
  included m [] = Found.No
  included m (w ∷ ws) = when is_except w then Found.No else on_found (m w) (excluded m ws) (included m ws)

  pub excluded : (List ℕ → Found) → List (List ℕ) → Found
  excluded m [] = Found.Yes
  excluded m (w ∷ ws) = when is_except w then on_found (included m ws) Found.No Found.Yes else excluded m ws

-- "A rule's client list is looked at only if its daemon list matched." s and c say what a named table matches: of the server, and of the
-- client
unfoldable pub rule_found_by : Matcher → Matcher → Request → Rule → Found
rule_found_by s c r u =
    on_found (included (λ e. look_at r (daemon_element s e)) u.daemons) (included (λ e. look_at r (client_element c e)) u.clients) Found.No

abbrev pub rule_found : Matcher → Request → Rule → Found
rule_found m = rule_found_by m m
