-- Elements as the code reads them: what the contracts of functions that are called by others cite. Nothing here needs to be believed for
-- the meaning of document 01: its words are those of Request and Element.
--   view_of tables notes          == what the notes on the tables say: what a named table matches, what is tried in it, and whether it may be named
--   element_reference k tables notes e == what the notes say of the table that e names
--   Kind                         == a kind of list: which of its elements are reserved, what they find, how they name tables, and what they count
--   element_fault kind e          == what is wrong with e as an element of that kind
--   daemon_request, client_request == a request by what the elements of a list look at
--   element_seen look q kind e    == what is wrong with e and, if it is looked at, what it finds of the request q and counts
--   kind_seen look q o            == whether o is an element and, if it is looked at, what it finds of the request q
--   with_user r u name            == the request r, with that user
--   held_at q                     == the request q by its places, as it is held
--   at_sign e                     == the place of the `@` that parts e
-- Assumes nothing: these are definitions.
use Rattle.std.specs.Prelude.{ℕ, ◌+◌, Bool, true, false, ◌&&◌, List, [], ◌∷◌, length, drop, None, Option, Some, Err, Ok, Result, ⊤}
use Rattle.text.specs.Basics.{when◌then◌else◌, holds, is_some, all}
use Rattle.text.specs.Text.{in_range, equal_fold}
use Rattle.text.specs.Scan.{index_of}
use Rattle.address.specs.declared.Addr.TheVariants as A
use Rattle.patterns.specs.declared.Name.TheVariants as Name
use Rattle.patterns.specs.Host.{Endpoint, endpoint}
use Rattle.patterns.specs.Pattern.{is_name_byte}
use Rattle.patterns.specs.declared.HostSeen.{HostSeen}
use Rattle.patterns.specs.Code.{host_seen}
use Rattle.tables.specs.Table.{Matcher, is_table_name}
use Rattle.tables.specs.Tried.{capped}
use Rattle.views.specs.declared.NamingFault.{NamingFault}
use Rattle.views.specs.declared.NamingFault.TheVariants as N
use Rattle.views.specs.declared.Reference.{Reference}
use Rattle.views.specs.View.{naming_of, noted_match, noted_tried, reference_of}
use Rattle.elements.specs.declared.User.{User}
use Rattle.elements.specs.declared.User.TheVariants as U
use Rattle.elements.specs.declared.Found.{Found}
use Rattle.elements.specs.declared.Found.TheVariants.{No, Ask}
use Rattle.elements.specs.declared.Looked.{Looked}
use Rattle.elements.specs.declared.element.ElementFault.{ElementFault}
use Rattle.elements.specs.declared.element.ElementSeen.{ElementSeen}
use Rattle.elements.specs.declared.element.KindSeen.{KindSeen}
use Rattle.elements.specs.declared.element.ElementFault.TheVariants as E
use Rattle.elements.specs.declared.request.Request.{Request as Places}
use Rattle.elements.specs.Request.{Request, request_of, user_case, held_host}
use Rattle.elements.specs.Element.{Element, found_if, client_reserved, daemon_reserved, named_table, user_half, daemon_element, client_element, look_at, element_looked}

-- what a named table matches by the word k of the notes
unfoldable pub noted : ℕ → List ℕ → List ℕ → Matcher
noted k tables notes n h = noted_match k tables notes n

pub record View : Type 0 where
  pub server : Matcher
  pub client : Matcher
  pub server_tried : List ℕ → ℕ
  pub client_tried : List ℕ → ℕ
  pub naming : List ℕ → Result ⊤ NamingFault

abbrev pub view_of : List ℕ → List ℕ → View
view_of tables notes = record {
  server = noted 1 tables notes;
  client = noted 0 tables notes;
  server_tried = noted_tried 1 tables notes;
  client_tried = noted_tried 0 tables notes;
  naming = naming_of tables notes;
}

-- what is known of a table that is not named at all
abbrev pub no_reference : Reference
no_reference = record { naming = Ok tt; matches = false; tried = 0 }

-- what the notes say of the table that an element names
abbrev pub reference_with : ℕ → List ℕ → List ℕ → Option (List ℕ) → Reference
reference_with k tables notes None = no_reference
reference_with k tables notes (Some n) = reference_of k tables notes n

unfoldable pub element_reference : ℕ → List ℕ → List ℕ → List ℕ → Reference
element_reference k tables notes e = reference_with k tables notes (named_table e)

-- a matcher that says the same of every table
unfoldable pub saying : Bool → Matcher
saying matched n h = matched

-- whether e, which begins with a slash, names a table and, if it is looked at, whether that matches
abbrev pub table_seen : Bool → Bool → List ℕ → HostSeen
table_seen look matched e = let n : List ℕ = drop 1 e in host_seen (is_table_name n) (look && (is_table_name n && matched))

-- how an element names a table; sound where it names none
abbrev pub naming_with : (List ℕ → Result ⊤ NamingFault) → Option (List ℕ) → Result ⊤ NamingFault
naming_with f None = Ok tt
naming_with f (Some n) = f n

unfoldable pub element_naming : (List ℕ → Result ⊤ NamingFault) → List ℕ → Result ⊤ NamingFault
element_naming f e = naming_with f (named_table e)

-- the two kinds of lists
pub record Kind : Type 0 where
  pub reserved : List ℕ → Bool
  pub element : List ℕ → Element
  pub naming : List ℕ → Result ⊤ NamingFault
  pub looked : List ℕ → ℕ

abbrev pub daemon_kind : View → Kind
daemon_kind v = record {
  reserved = daemon_reserved;
  element = daemon_element v.server;
  naming = element_naming v.naming;
  looked = element_looked v.server_tried;
}

abbrev pub client_kind : View → Kind
client_kind v = record {
  reserved = client_reserved;
  element = client_element v.client;
  naming = element_naming v.naming;
  looked = element_looked v.client_tried;
}

-- what is wrong with an element: 9 before 10, and these before what is wrong with the table that it names
abbrev pub misnamed : Result ⊤ NamingFault → Result ⊤ ElementFault
misnamed (Ok tt) = Ok tt
misnamed (Err N.Missing) = Err E.Missing
misnamed (Err N.Deep) = Err E.Deep

abbrev pub fault_of : Bool → Bool → Result ⊤ NamingFault → Result ⊤ ElementFault
fault_of reserved sound naming = when reserved then Err E.Reserved else when sound then misnamed naming else Err E.Unknown

unfoldable pub element_fault : Kind → List ℕ → Result ⊤ ElementFault
element_fault kind e = fault_of (kind.reserved e) (is_some (kind.element e)) (kind.naming e)

-- what an element finds, if it is looked at
abbrev pub sought : Bool → Found → Found
sought look f = when look then f else No

-- what an element counts, if it is looked at
abbrev pub counted : Bool → ℕ → ℕ
counted look n = when look then n else 0

-- what was found, and how many elements were looked at for it
abbrev pub looked_for : Found → ℕ → Looked
looked_for f n = record { found = f; looked = n }

unfoldable pub kind_seen : Bool → Request → Element → KindSeen
kind_seen look q o = record { sound = is_some o; found = sought look (look_at q o) }

unfoldable pub element_seen : Bool → Request → Kind → List ℕ → ElementSeen
element_seen look q kind e = record {
  fault = element_fault kind e;
  found = sought look (look_at q (kind.element e));
  looked = counted look (capped (kind.looked e));
}

-- a request by what the elements of a daemon list, or of a client list, look at
abbrev pub nobody : Endpoint
nobody = endpoint (record { name = Name.Unknown; addr = A.Unknown }) []

abbrev pub daemon_request : List ℕ → Endpoint → Request
daemon_request d s = request_of d nobody s U.NotFetched []

abbrev pub client_request : Endpoint → User → List ℕ → Request
client_request c u name = request_of [] c nobody u name

-- "Two are alike in all else when at most the user differs"
abbrev pub with_user : Request → User → List ℕ → Request
with_user r u name = record { daemon = r.daemon; client = r.client; server = r.server; user = u; user_name = name }

-- a request as it is held: its names stay at their places
unfoldable pub held_at : Places → Places
held_at q = record {
  daemon = q.daemon;
  client = held_host q.client;
  client_name = q.client_name;
  server = held_host q.server;
  server_name = q.server_name;
  user = q.user;
  user_name = q.user_name;
}

-- the place of the `@` that parts an element, the length where none does
unfoldable pub at_sign : List ℕ → ℕ
at_sign [] = 0
at_sign (x ∷ t) = index_of 64 t + 1

-- a name that is no wildcard, of a daemon or a user
unfoldable pub name_fits : List ℕ → Bool
name_fits t = all is_name_byte t && in_range 1 64 (length t)

abbrev pub name_equals : List ℕ → List ℕ → Bool
name_equals t n = equal_fold t n && name_fits t

-- whether o is a daemon name and, if it is looked at, matches d
unfoldable pub daemon_seen : Bool → Option (List ℕ → Bool) → List ℕ → HostSeen
daemon_seen look o d = host_seen (is_some o) (look && holds (λ f. f d) o)

-- a user half matches a user; what it finds of one where the host half matches
unfoldable pub user_test : List ℕ → User → List ℕ → Bool
user_test t u name = holds (λ f. f (client_request nobody u name)) (user_half t)

abbrev pub ask_if : Bool → Found
ask_if true = Ask
ask_if false = No

unfoldable pub user_found : List ℕ → User → List ℕ → Found
user_found t U.NotFetched name = ask_if (is_some (user_half t))
user_found t U.Unknown name = found_if (user_test t U.Unknown [])
user_found t U.Known name = found_if (user_test t U.Known name)

-- a user's name, where known, is within its size
abbrev pub user_fits : User → List ℕ → Bool
user_fits u name = user_case (client_request nobody u name) true true (in_range 1 64 (length name))
