-- Document 01, "Elements" and "Asking", and document 02, requests 1 and 12: the elements of daemon and client lists, where m says what a
-- named table matches, c what is tried in it.
--   halves e         == what stands before and after the `@` that parts e
--   daemon_reserved e, client_reserved e == e is refused by 9
--   named_table e     == the table that e names
--   daemon_element m e, client_element m e == what e finds of a request, none where it is of no kind
--   element_looked c e == how many elements are looked at with e: itself, and what is tried in the table that it names
-- Assumes nothing: these are definitions.
use Rattle.std.specs.Prelude.{ℕ, Bool, true, false, not, ◌&&◌, ◌||◌, List, [], ◌∷◌, length, None, Option, Some, unwrap_or}
use Rattle.text.specs.Basics.{when◌then◌else◌, ◌>>=◌, ◌or_else◌, given, holds, is_some, all}
use Rattle.text.specs.Text.{bytes, first_among, cons_first, split_once, in_range, equal_fold, is_word}
use Rattle.patterns.specs.Pattern.{wildcard, is_name_byte}
use Rattle.tables.specs.Table.{Matcher, table_name, pattern_with}
use Rattle.tables.specs.Tried.{looked_with}
use Rattle.elements.specs.declared.Found.{Found}
use Rattle.elements.specs.declared.Found.TheVariants.{No, Yes, Ask}
use Rattle.elements.specs.Request.{Request, user_case}

abbrev pub Element : Type 0
Element = Option (Request → Found)

abbrev pub found_if : Bool → Found
found_if true = Yes
found_if false = No

-- "The first `@` not in first place parts an element."
unfoldable pub halves : List ℕ → Option (List ℕ × List ℕ)
halves [] = None
halves (x ∷ t) = cons_first x (split_once (bytes "@") t)

-- 9: "an element, or the half after its @, begins with @ or /"; request 1: "9 stays, in rules, for netgroups and for `/` at the
-- start of a daemon element"
unfoldable pub client_reserved : List ℕ → Bool
client_reserved e = first_among "@" e || holds (λ p. first_among "@" p.1) (halves e)

unfoldable pub daemon_reserved : List ℕ → Bool
daemon_reserved e = first_among "/" e || client_reserved e

-- the half of an element that is a host pattern: after its `@`, or the whole
abbrev pub host_half : List ℕ → List ℕ
host_half e = unwrap_or (halves e >>= λ p. Some p.1) e

-- the table that stands as an element, or as the half after its `@`
unfoldable pub named_table : List ℕ → Option (List ℕ)
named_table e = table_name (host_half e)

-- "1 to 64 of those bytes, a final dot allowed", and no wildcard
unfoldable pub is_plain_name : List ℕ → Bool
is_plain_name t = all is_name_byte t && in_range 1 64 (length t) && not (is_some (wildcard t))

-- "name is ALL or .."; "all wildcards but ALL as a daemon, are 10"
unfoldable pub daemon_name : List ℕ → Option (List ℕ → Bool)
daemon_name t = given (is_word "ALL" t) (λ d. true) or_else given (is_plain_name t) (equal_fold t)

-- "user is ALL, KNOWN, UNKNOWN or .."; "LOCAL and PARANOID before `@` .. are 10"; "a named user half matches an equal known user"
unfoldable pub user_half : List ℕ → Option (Request → Bool)
user_half t =
    given (is_word "ALL" t) (λ r. true)
    or_else given (is_word "KNOWN" t) (λ r. user_case r false false true)
    or_else given (is_word "UNKNOWN" t) (λ r. user_case r false true false)
    or_else given (is_plain_name t) (λ r. user_case r false false (equal_fold t r.user_name))

-- "In daemons: `name@host` against the server's host"; "A daemon element without `@` is such a name and matches an equal daemon"
unfoldable pub daemon_parts : Matcher → List ℕ → Option (List ℕ × List ℕ) → Element
daemon_parts m e None = do
  f ← daemon_name e
  Some λ r. found_if (f r.daemon)
daemon_parts m e (Some p) = do
  f ← daemon_name p.0
  g ← pattern_with m p.1
  Some λ r. found_if (f r.daemon && g r.server)

-- "In clients: `user@host`". "At a `user@host` element whose host half matches, a user not fetched ends the walk with
-- "ask", .. whatever the user half, even ALL". ""Ask" comes nowhere else." Request 1: "`user@/name` with the user not fetched
-- asks when the table matches."
unfoldable pub client_parts : Matcher → List ℕ → Option (List ℕ × List ℕ) → Element
client_parts m e None = do
  g ← pattern_with m e
  Some λ r. found_if (g r.client)
client_parts m e (Some p) = do
  f ← user_half p.0
  g ← pattern_with m p.1
  Some λ r. when g r.client then user_case r Ask (found_if (f r)) (found_if (f r)) else No

unfoldable pub daemon_element : Matcher → List ℕ → Element
daemon_element m e = daemon_parts m e (halves e)

unfoldable pub client_element : Matcher → List ℕ → Element
client_element m e = client_parts m e (halves e)

-- what looking at an element finds; nothing matches one that is of no kind
abbrev pub look_at : Request → Element → Found
look_at r None = No
look_at r (Some f) = f r

-- Request 12: "an element with `@` counts once, the one that asks included"; "a table after an `@` is always tried": whatever stands before it
unfoldable pub element_looked : (List ℕ → ℕ) → List ℕ → ℕ
element_looked c e = looked_with c (named_table e)
