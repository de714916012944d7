-- What the inner contracts of checking one rule, and of looking at it, cite. Nothing here needs to be believed for the meaning of
-- document 01: the promises of the two calls are stated over Check, Walk and Code.
--   list_start                == what is found before the first element
--   list_check kind ws        == what checking the list ws finds, kind saying what its elements are
--   list_more c after x f     == c, one element further: x says whether that is EXCEPT, f what is wrong with it
--   list_end c after          == c at the list's end
--   list_from kind after c ws == c, checked on through ws; after: whether an element stands directly before
--   lowest_of d c bad         == the lowest fault of a rule with the lists d and c; bad: whether a percent of its command is
--   rest_fault v d s          == the same where s follows the first separator
--   daemon_finds v d s e, client_finds v c u n e == what the element e of a daemon list, of a client list, finds
--   daemon_counts v e, client_counts v e == what it counts
--   list_looked m c ws, rest_looked m c ws == what the list ws finds and looks at, before and after an element of it matched
--   looked_more n l           == l, and n elements that were looked at before it
-- Assumes nothing: these are definitions.
use Rattle.std.specs.Prelude.{ℕ, ◌+◌, Bool, true, false, not, ◌&&◌, ◌||◌, List, [], take, Err, Ok, Result, ⊤}
use Rattle.text.specs.Basics.{when◌then◌else◌, is_some, any, all}
use Rattle.section.specs.declared.Fault.TheVariants as F
use Rattle.lines.specs.Rule.{is_except}
use Rattle.lines.specs.Parts.{separator_index, after_separator, words, trim_blanks, any_bad_percent}
use Rattle.elements.specs.declared.Found.{Found}
use Rattle.elements.specs.declared.Found.TheVariants as N
use Rattle.elements.specs.declared.Looked.{Looked}
use Rattle.elements.specs.declared.User.{User}
use Rattle.elements.specs.declared.element.ElementFault.{ElementFault}
use Rattle.elements.specs.declared.element.ElementFault.TheVariants as E
use Rattle.elements.specs.Code.{View, Kind, client_kind, element_fault, daemon_request, client_request, looked_for}
use Rattle.patterns.specs.Host.{Endpoint}
use Rattle.tables.specs.Tried.{capped}
use Rattle.elements.specs.Element.{daemon_element, client_element, look_at, element_looked}
use Rattle.lists.specs.declared.check.ListCheck.{ListCheck}
use Rattle.lists.specs.Check.{except_misplaced}
use Rattle.lists.specs.Walk.{on_found, included, excluded}
use Rattle.lists.specs.Looked.{looked_included, looked_excluded}
use Rattle.section.specs.declared.Fault.{Fault}

-- ## Checking a list

-- an element of reserved start counts too: 9 is answered before 10
abbrev pub is_unsound : Kind → List ℕ → Bool
is_unsound kind e = kind.reserved e || not (is_some (kind.element e))

abbrev pub is_missing : Result ⊤ ElementFault → Bool
is_missing (Ok tt) = false
is_missing (Err E.Reserved) = false
is_missing (Err E.Unknown) = false
is_missing (Err E.Missing) = true
is_missing (Err E.Deep) = false

abbrev pub is_deep : Result ⊤ ElementFault → Bool
is_deep (Ok tt) = false
is_deep (Err E.Reserved) = false
is_deep (Err E.Unknown) = false
is_deep (Err E.Missing) = false
is_deep (Err E.Deep) = true

abbrev pub checks : Bool → Bool → Bool → Bool → Bool → Bool → ListCheck
checks e m r u n d = record { empty = e; misplaced = m; reserved = r; unsound = u; missing = n; deep = d }

-- an element names a missing table, one that leads too deep
abbrev pub names_missing : Kind → List ℕ → Bool
names_missing kind e = is_missing (element_fault kind e)

abbrev pub names_deep : Kind → List ℕ → Bool
names_deep kind e = is_deep (element_fault kind e)

unfoldable pub list_check : Kind → List (List ℕ) → ListCheck
list_check kind ws =
    checks (all is_except ws) (except_misplaced false ws) (any kind.reserved ws) (any (is_unsound kind) ws)
    (any (names_missing kind) ws) (any (names_deep kind) ws)

abbrev pub list_start : ListCheck
list_start = checks true false false false false false

unfoldable pub list_from : Kind → Bool → ListCheck → List (List ℕ) → ListCheck
list_from kind after c ws =
    checks
    (c.empty && all is_except ws)
    (c.misplaced || except_misplaced after ws)
    (c.reserved || any kind.reserved ws)
    (c.unsound || any (is_unsound kind) ws)
    (c.missing || any (names_missing kind) ws)
    (c.deep || any (names_deep kind) ws)

abbrev pub is_reserved : Result ⊤ ElementFault → Bool
is_reserved (Ok tt) = false
is_reserved (Err E.Reserved) = true
is_reserved (Err E.Unknown) = false
is_reserved (Err E.Missing) = false
is_reserved (Err E.Deep) = false

abbrev pub is_fault : Result ⊤ ElementFault → Bool
is_fault (Ok tt) = false
is_fault (Err E.Reserved) = true
is_fault (Err E.Unknown) = true
is_fault (Err E.Missing) = false
is_fault (Err E.Deep) = false

unfoldable pub list_more : ListCheck → Bool → Bool → Result ⊤ ElementFault → ListCheck
list_more c after x f =
    checks (c.empty && x) (c.misplaced || x && not after) (c.reserved || is_reserved f) (c.unsound || is_fault f)
    (c.missing || is_missing f) (c.deep || is_deep f)

abbrev pub list_end : ListCheck → Bool → ListCheck
list_end c after = checks c.empty (c.misplaced || not after) c.reserved c.unsound c.missing c.deep

-- ## Checking a rule

unfoldable pub naming_fault_of : ListCheck → ListCheck → Result ⊤ Fault
naming_fault_of d c =
    when d.missing || c.missing then Err F.TableName
    else when d.deep || c.deep then Err F.TooDeep
    else Ok tt

unfoldable pub lowest_of : ListCheck → ListCheck → Bool → Result ⊤ Fault
lowest_of d c bad =
    when d.empty || c.empty then Err F.NoElement
    else when d.misplaced || c.misplaced then Err F.MisplacedExcept
    else when d.reserved || c.reserved then Err F.ReservedStart
    else when d.unsound || c.unsound then Err F.UnknownElement
    else when bad then Err F.BadPercent
    else naming_fault_of d c

-- the client list and the command, where s follows the first separator
abbrev pub client_words : List ℕ → List (List ℕ)
client_words s = words (take (separator_index false s) s)

abbrev pub bad_command_after : ℕ → List ℕ → Bool
bad_command_after j s = any_bad_percent (trim_blanks (after_separator j s))

unfoldable pub rest_fault : View → ListCheck → List ℕ → Result ⊤ Fault
rest_fault v d s = lowest_of d (list_check (client_kind v) (client_words s)) (bad_command_after (separator_index false s) s)

-- ## Looking at a list

-- what the list after EXCEPT finds, negated round
abbrev pub negated : Found → Found
negated f = on_found f N.No N.Yes

abbrev pub daemon_finds : View → List ℕ → Endpoint → List ℕ → Found
daemon_finds v daemon server e = look_at (daemon_request daemon server) (daemon_element v.server e)

abbrev pub client_finds : View → Endpoint → User → List ℕ → List ℕ → Found
client_finds v client user name e = look_at (client_request client user name) (client_element v.client e)

abbrev pub daemon_counts : View → List ℕ → ℕ
daemon_counts v = element_looked v.server_tried

abbrev pub client_counts : View → List ℕ → ℕ
client_counts v = element_looked v.client_tried

unfoldable pub list_looked : (List ℕ → Found) → (List ℕ → ℕ) → List (List ℕ) → Looked
list_looked m c ws = looked_for (included m ws) (capped (looked_included m c ws))

unfoldable pub rest_looked : (List ℕ → Found) → (List ℕ → ℕ) → List (List ℕ) → Looked
rest_looked m c ws = looked_for (excluded m ws) (capped (looked_excluded m c ws))

abbrev pub looked_more : ℕ → Looked → Looked
looked_more n l = looked_for l.found (capped (n + l.looked))

abbrev pub negated_looked : Looked → Looked
negated_looked l = looked_for (negated l.found) l.looked
