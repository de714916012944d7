-- What the inner contracts of the one pass over a rule cite, in which it is checked and looked at. Nothing here needs to be believed for the
-- meaning of document 01: laws tie each to Check and Walk.
--   side_finds m side ws, side_looks m c side ws == what a pass on that side finds of the words that are left, where m says what an element
--                              finds, and what it looks at, where c says what an element counts
--   pass_step kind m p w ws  == the pass p, over the word w, which ws follows
--   pass_from kind m p ws    == what the pass p gives at the end of ws
--   list_seen kind m search ws == what checking the list ws finds and, if it is searched, what it finds and looks at
--   rule_seen q search t     == the lowest fault of the rule in the joined line t and, if it is searched, what it finds of the request q and
--                              looks at
-- Assumes nothing: these are definitions.
use Rattle.std.specs.Prelude.{ℕ, ◌+◌, Bool, true, false, not, List}
use Rattle.text.specs.Basics.{when◌then◌else◌}
use Rattle.lines.specs.Rule.{is_except, parse_rule}
use Rattle.elements.specs.declared.Found.{Found}
use Rattle.elements.specs.declared.Found.TheVariants as N
use Rattle.elements.specs.Request.{Request}
use Rattle.tables.specs.Tried.{capped}
use Rattle.elements.specs.Code.{View, Kind, element_fault, sought, counted}
use Rattle.lists.specs.declared.pass.Side.{Side}
use Rattle.lists.specs.declared.pass.Side.TheVariants as S
use Rattle.lists.specs.declared.pass.ListPass.{ListPass}
use Rattle.lists.specs.declared.pass.Turn.{Turn}
use Rattle.lists.specs.declared.pass.ListSeen.{ListSeen}
use Rattle.lists.specs.declared.pass.RuleSeen.{RuleSeen}
use Rattle.lists.specs.declared.check.ListCheck.{ListCheck}
use Rattle.lists.specs.Walk.{on_found, included, excluded}
use Rattle.lists.specs.Looked.{further_on, looked_included, looked_excluded}
use Rattle.lists.specs.Code.{checked_of, line_found, line_looked, judged_fault}
use Rattle.lists.specs.ListCode.{list_start, list_more, list_end, list_from, list_check, rest_fault, negated, client_finds, client_counts, client_words}

-- ## The sides of EXCEPT

abbrev pub side_finds : (List ℕ → Found) → Side → List (List ℕ) → Found
side_finds m S.Looking ws = included m ws
side_finds m S.Matched ws = excluded m ws
side_finds m S.No ws = N.No
side_finds m S.Yes ws = N.Yes
side_finds m S.Ask ws = N.Ask

abbrev pub side_start : Bool → Side
side_start search = when search then S.Looking else S.No

abbrev pub is_looking : Side → Bool
is_looking S.Looking = true
is_looking S.Matched = false
is_looking S.No = false
is_looking S.Yes = false
is_looking S.Ask = false

abbrev pub side_end : Side → Found
side_end S.Looking = N.No
side_end S.Matched = N.Yes
side_end S.No = N.No
side_end S.Yes = N.Yes
side_end S.Ask = N.Ask

abbrev pub side_of : Found → Side
side_of N.No = S.No
side_of N.Yes = S.Yes
side_of N.Ask = S.Ask

-- after an element, which finds f
abbrev pub side_found : Found → Side
side_found N.No = S.Looking
side_found N.Yes = S.Matched
side_found N.Ask = S.Ask

abbrev pub side_more : Side → Found → Side
side_more S.Looking f = side_found f
side_more S.Matched f = S.Matched
side_more S.No f = S.No
side_more S.Yes f = S.Yes
side_more S.Ask f = S.Ask

-- after EXCEPT, which ws follows
abbrev pub side_turned : (List ℕ → Found) → Side → List (List ℕ) → Side
side_turned m S.Looking ws = S.No
side_turned m S.Matched ws = side_of (negated (included m ws))
side_turned m S.No ws = S.No
side_turned m S.Yes ws = S.Yes
side_turned m S.Ask ws = S.Ask

-- after a word, which ws follows; x: whether it is EXCEPT, f: what it finds if it is looked at
abbrev pub side_step : (List ℕ → Found) → Side → Bool → Found → List (List ℕ) → Side
side_step m side x f ws = when x then side_turned m side ws else side_more side f

-- what is looked at: of the words that are left, of those after EXCEPT, and for one word that counts n
abbrev pub side_looks : (List ℕ → Found) → (List ℕ → ℕ) → Side → List (List ℕ) → ℕ
side_looks m c S.Looking ws = looked_included m c ws
side_looks m c S.Matched ws = looked_excluded m c ws
side_looks m c S.No ws = 0
side_looks m c S.Yes ws = 0
side_looks m c S.Ask ws = 0

abbrev pub turned_looks : (List ℕ → Found) → (List ℕ → ℕ) → Side → List (List ℕ) → ℕ
turned_looks m c S.Looking ws = 0
turned_looks m c S.Matched ws = capped (looked_included m c ws)
turned_looks m c S.No ws = 0
turned_looks m c S.Yes ws = 0
turned_looks m c S.Ask ws = 0

abbrev pub step_looks : (List ℕ → Found) → (List ℕ → ℕ) → Side → Bool → ℕ → List (List ℕ) → ℕ
step_looks m c side x n ws = when x then turned_looks m c side ws else n

abbrev pub turn : Side → ℕ → Turn
turn side n = record { side = side; looked = n }

-- ## A list

abbrev pub list_pass : ListCheck → Bool → Side → ℕ → ListPass
list_pass c after side n = record { check = c; after = after; side = side; looked = n }

abbrev pub list_all : ListCheck → Found → ℕ → ListSeen
list_all c f n = record { check = c; found = f; looked = n }

abbrev pub pass_start : Bool → ListPass
pass_start search = list_pass list_start false (side_start search) 0

unfoldable pub pass_step : Kind → (List ℕ → Found) → ListPass → List ℕ → List (List ℕ) → ListPass
pass_step kind m p w ws =
    list_pass
    (list_more p.check p.after (is_except w) (element_fault kind w))
    (not (is_except w))
    (side_step m p.side (is_except w) (sought (is_looking p.side) (m w)) ws)
    (capped (p.looked + step_looks m kind.looked p.side (is_except w) (counted (is_looking p.side) (capped (kind.looked w))) ws))

abbrev pub pass_end : ListPass → ListSeen
pass_end p = list_all (list_end p.check p.after) (side_end p.side) p.looked

unfoldable pub pass_from : Kind → (List ℕ → Found) → ListPass → List (List ℕ) → ListSeen
pass_from kind m p ws =
    list_all (list_from kind p.after p.check ws) (side_finds m p.side ws) (capped (p.looked + side_looks m kind.looked p.side ws))

unfoldable pub list_seen : Kind → (List ℕ → Found) → Bool → List (List ℕ) → ListSeen
list_seen kind m search ws =
    list_all (list_check kind ws) (sought search (included m ws)) (counted search (capped (looked_included m kind.looked ws)))

-- ## A rule

abbrev pub is_yes : Found → Bool
is_yes f = elim f [ N.No ↦ false | N.Yes ↦ true | N.Ask ↦ false ]

abbrev pub then_found : Found → Found → Found
then_found d c = on_found d c N.No

unfoldable pub rest_seen : View → Request → ListSeen → List ℕ → RuleSeen
rest_seen v q d s = record {
  check = rest_fault v d.check s;
  found = then_found d.found (included (client_finds v q.client q.user q.user_name) (client_words s));
  looked =
      capped (d.looked + further_on d.found (looked_included (client_finds v q.client q.user q.user_name) (client_counts v) (client_words s)) 0);
}

unfoldable pub rule_seen : View → Request → Bool → List ℕ → RuleSeen
rule_seen v q search t = record {
  check = checked_of (judged_fault v (parse_rule t));
  found = sought search (line_found v q t);
  looked = counted search (capped (line_looked v q t));
}
