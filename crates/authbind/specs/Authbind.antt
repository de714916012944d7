-- Document 02, request 4, "The whole authbind order", after authbind(1), document 001.
--   tests p a          == the names of the access tests on port p at the address a, in their order
--   walk byuid xs ns   == where the answers xs lead along the tests ns
--   dotted n           == the IPv6 address n is one of those left out (18)
--   next_step o room    == the call: every check, then what comes next for what is asked in o
--   next_of o           == the same as the code answers it
-- Assumes nothing: these are definitions.
use Rattle.std.specs.Prelude.{ℕ, ◌/◌, ◌^◌, Bool, true, false, not, ◌&&◌, ◌||◌, List, [], ◌∷◌, ◌++◌, length, ltb, eqb, Err, Ok, Option, Some}
use Prim.Native.String.{String}
use Rattle.text.specs.Basics.{when◌then◌else◌, ◌>>=◌, given, each}
use Rattle.text.specs.Text.{bytes, equal, in_range}
use Rattle.text.specs.Number.{to_digits, decimal}
use Rattle.section.specs.declared.Fault.TheVariants as F
use Rattle.section.specs.Refusal.{Outcome, placeless, refusing, fitting, ◌>>=◌ as ◌then◌}
use Rattle.address.specs.declared.Addr.{Addr}
use Rattle.address.specs.Address.{addr_case, hex_groups, text_v4, text_v6, addr_text}
use Rattle.byuid.specs.Byuid.{Bind, is_ruled}
use Rattle.authbind.specs.declared.Access.{Access}
use Rattle.authbind.specs.declared.Access.TheVariants.{Absent, Allowed, Other}
use Rattle.authbind.specs.declared.Next.{Next}
use Rattle.authbind.specs.declared.Next.TheVariants as N

-- ## Names

-- "Names are written whole, from `/etc/authbind/` on, .. with `!` before the leaf for 512 to 1023."
abbrev pub file_name : String → ℕ → List ℕ → List ℕ
file_name folder p leaf = bytes "/etc/authbind/" ++ bytes folder ++ (when in_range 512 1023 p then bytes "!" else []) ++ leaf

-- "byport"
abbrev pub by_port : ℕ → List ℕ
by_port p = file_name "byport/" p (decimal p)

-- "byaddr with a comma", or with a colon
abbrev pub by_addr : ℕ → List ℕ → String → List ℕ
by_addr p text mark = file_name "byaddr/" p (text ++ bytes mark ++ decimal p)

-- "the unabbreviated name (eight groups, fewest digits)"
abbrev pub unabbreviated : ℕ → List ℕ
unabbreviated n = hex_groups (to_digits 65536 8 n)

-- "Order: byport; byaddr with a comma; the colon name for IPv4; the unabbreviated name .. for IPv6 if its text differs"
unfoldable pub tests : ℕ → Addr → List (List ℕ)
tests p a = by_port p ∷ by_addr p (addr_text a) "," ∷ addr_case a []
    (λ n. by_addr p (text_v4 n) ":" ∷ [])
    (λ n. when equal (text_v6 n) (unabbreviated n) then [] else by_addr p (unabbreviated n) "," ∷ [])

-- "then byuid"
abbrev pub by_uid : ℕ → ℕ → List ℕ
by_uid p uid = file_name "byuid/" p (decimal uid)

-- ## What comes next

-- "say which file to test next, or the outcome": byuid is read, not tested
pub data Step : Type 0 where
  test read : List ℕ → Step
  granted denied not_ruled : Step

-- what is written: the name, nothing at an outcome
abbrev pub name_of : Step → List ℕ
name_of (test name) = name
name_of (read name) = name
name_of granted = []
name_of denied = []
name_of not_ruled = []

-- ""Allowed" grants, "other" refuses, "absent" goes on." 19: "any answer after the one that settles the matter or after the last test
-- before byuid"
unfoldable pub walk : List ℕ → List Access → List (List ℕ) → Outcome Step
walk byuid [] [] = Ok (read byuid)
walk byuid [] (n ∷ ns) = Ok (test n)
walk byuid (x ∷ xs) [] = Err (placeless F.LateAnswer)
walk byuid (Absent ∷ xs) (n ∷ ns) = walk byuid xs ns
walk byuid (Allowed ∷ []) (n ∷ ns) = Ok granted
walk byuid (Allowed ∷ x ∷ xs) (n ∷ ns) = Err (placeless F.LateAnswer)
walk byuid (Other ∷ []) (n ∷ ns) = Ok denied
walk byuid (Other ∷ x ∷ xs) (n ∷ ns) = Err (placeless F.LateAnswer)

-- ## The call

-- what is asked: to bind, with "the answers of the access tests so far"
pub record Asked : Type 0 where
  pub wanted : Bind
  pub answers : List Access

abbrev pub asked : Bind → List Access → Asked
asked b xs = record { wanted = b; answers = xs }

-- "(allowed, absent, other)": a byte for each; none where one is outside these kinds
abbrev pub access_of : ℕ → Option Access
access_of n = when eqb n 0 then Some Absent else when eqb n 1 then Some Allowed else given (eqb n 2) Other

abbrev pub asking : List ℕ → Bind → Option Asked
asking answers b = each access_of answers >>= λ xs. Some (asked b xs)

-- an unknown address is 13, as it is for byuid
abbrev pub address_known : Asked → Bool
address_known q = addr_case q.wanted.address false (λ n. true) (λ n. true)

-- 18: "those with 80 zero bits and then 16 ones, and those with 96 zero bits and a seventh group not zero"
unfoldable pub dotted : ℕ → Bool
dotted n = eqb (n / 2 ^ 32) 65535 || eqb (n / 2 ^ 32) 0 && not (eqb (n / 2 ^ 16) 0)

abbrev pub left_out : Addr → Bool
left_out a = addr_case a false (λ n. false) dotted

-- 14: "the whole output is longer than the lent output"; an outcome writes nothing
abbrev pub with_room : ℕ → Step → Outcome Step
with_room room s = refusing (given (ltb room (length (name_of s))) (placeless F.NoRoom)) s

-- "A bind outside 1 to 1023, or by root, is not ruled." "Refusals, after 13 and then "not ruled": 18 .., 19 ..; then 14."
unfoldable pub next_step : Option Asked → ℕ → Outcome Step
next_step o room = fitting address_known o λ q.
    let b : Bind = q.wanted in
    when not (is_ruled b.port b.uid) then Ok not_ruled
    else when left_out b.address then Err (placeless F.DottedAddress)
    else (walk (by_uid b.port b.uid) q.answers (tests b.port b.address) then with_room room)

-- what the lent output gets: the name, or nothing
abbrev pub name_written : Outcome Step → Outcome (List ℕ)
name_written (Err r) = Err r
name_written (Ok s) = Ok (name_of s)

-- the outcome as the call answers it
abbrev pub next_of : Outcome Step → Next
next_of (Err r) = N.Refused r
next_of (Ok (test name)) = N.Test (length name)
next_of (Ok (read name)) = N.Read (length name)
next_of (Ok granted) = N.Granted
next_of (Ok denied) = N.Denied
next_of (Ok not_ruled) = N.NotRuled
