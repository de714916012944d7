-- Document 01, "Numbers the gate answers with": 7 to 11, of one rule; document 02, request 1: the tables that it names.
--   rule_fault o   == the lowest number given to the rule o, none where a line has no first separator
--   rule_names p u == the rule u names a table of whose name p holds
-- Not here: the test of 11 (lines, Command.antt).
-- Assumes nothing: these are definitions.
use Rattle.std.specs.Prelude.{ℕ, Bool, false, not, ◌&&◌, ◌||◌, List, [], ◌∷◌, None, Option, Some}
use Rattle.text.specs.Basics.{when◌then◌else◌, holds, is_some, any, is_empty}
use Rattle.section.specs.declared.Fault.{Fault}
use Rattle.section.specs.declared.Fault.TheVariants as F
use Rattle.section.specs.Refusal.{lowest}
use Rattle.lines.specs.Rule.{Rule, is_except}
use Rattle.lines.specs.Command.{has_bad_percent}
use Rattle.elements.specs.Element.{Element, daemon_reserved, client_reserved, named_table, daemon_element, client_element}

-- the elements among the words of a list: "EXCEPT is none"
unfoldable pub without_except : List (List ℕ) → List (List ℕ)
without_except [] = []
without_except (w ∷ ws) = when is_except w then without_except ws else w ∷ without_except ws

-- 7: "a list with no element (EXCEPT is none)"
abbrev pub has_no_element : List (List ℕ) → Bool
has_no_element ws = is_empty (without_except ws)

-- 8: "EXCEPT not directly between two elements"; after: whether an element stands directly before
unfoldable pub except_misplaced : Bool → List (List ℕ) → Bool
except_misplaced after [] = not after
except_misplaced after (w ∷ ws) = is_except w && not after || except_misplaced (not (is_except w)) ws

-- 10: "any other element not among the kinds below"; request 1: "`/` before no such name is 10 there". No table is looked at: a
-- missing one is 15.
abbrev pub has_unknown : (List ℕ → Element) → List (List ℕ) → Bool
has_unknown kind ws = any (λ e. not (is_some (kind e))) (without_except ws)

-- the lowest of 7 to 11; 7 too where there is "no first separator"
unfoldable pub rule_fault : Option Rule → Option Fault
rule_fault None = Some F.NoElement
rule_fault (Some r) = lowest
    ((F.NoElement, has_no_element r.daemons || has_no_element r.clients)
    ∷ (F.MisplacedExcept, except_misplaced false r.daemons || except_misplaced false r.clients)
    ∷ (F.ReservedStart, any daemon_reserved (without_except r.daemons) || any client_reserved (without_except r.clients))
    ∷ (F.UnknownElement, has_unknown (daemon_element (λ n h. false)) r.daemons || has_unknown (client_element (λ n h. false)) r.clients)
    ∷ (F.BadPercent, has_bad_percent r.command) ∷ [])

-- of 15 and 16: a table stands as an element or as the half after its `@`
unfoldable pub rule_names : (List ℕ → Bool) → Rule → Bool
rule_names p u = any (λ e. holds p (named_table e)) u.daemons || any (λ e. holds p (named_table e)) u.clients
