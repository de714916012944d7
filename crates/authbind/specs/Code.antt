-- What the contracts of inner functions cite: answers, tests and names as the code takes them. Nothing here needs to be believed: laws tie each to
-- Authbind.
--   is_access b, access_by b == the byte b is of the kinds of an answer; what is taken for it
--   turn_at i s n           == where the answers s lead, from the test i of n on
--   file_of k               == the file of the test k
--   name_for f p a uid      == the name of the file f
--   step_at t p a uid room  == what comes next, where the answers lead to t
-- Assumes nothing: these are definitions.
use Rattle.std.specs.Prelude.{ℕ, suc, Bool, true, false, not, List, [], ◌∷◌, ◌++◌, length, leb, ltb, eqb, Err, Ok, Result}
use Rattle.text.specs.Basics.{when◌then◌else◌}
use Rattle.text.specs.Text.{bytes, equal, in_range}
use Rattle.text.specs.Number.{decimal}
use Rattle.section.specs.declared.Fault.TheVariants as F
use Rattle.section.specs.declared.Refusal.{Refusal}
use Rattle.section.specs.Refusal.{Outcome, placeless}
use Rattle.address.specs.declared.Addr.{Addr}
use Rattle.address.specs.Address.{addr_case, text_v4, text_v6, addr_text}
use Rattle.authbind.specs.declared.Access.{Access}
use Rattle.authbind.specs.declared.Access.TheVariants.{Absent, Allowed, Other}
use Rattle.authbind.specs.declared.File.{File}
use Rattle.authbind.specs.declared.Turn.{Turn}
use Rattle.authbind.specs.declared.Turn.TheVariants as T
use Rattle.authbind.specs.declared.Next.{Next}
use Rattle.authbind.specs.declared.Next.TheVariants as N
use Rattle.authbind.specs.Authbind.{unabbreviated, Step, test, read, granted, denied, with_room}
use Rattle.section.specs.declared.Refusal.{Refusal}

abbrev pub is_access : ℕ → Bool
is_access b = leb b 2

abbrev pub access_by : ℕ → Access
access_by b = when eqb b 0 then Absent else when eqb b 1 then Allowed else Other

-- an answer that is not "absent", and that others follow or not
abbrev pub settled_by : ℕ → Bool → Turn
settled_by x last = when last then (when eqb x 1 then T.Allowed else T.Other) else T.Late

unfoldable pub turn_at : ℕ → List ℕ → ℕ → Turn
turn_at i [] n = when ltb i n then T.Test i else T.Byuid
turn_at i (x ∷ s) n = when leb n i then T.Late else when eqb x 0 then turn_at (suc i) s n else settled_by x (eqb (length s) 0)

-- whether there is a third test
abbrev pub has_third : Addr → Bool
has_third a = addr_case a false (λ n. true) (λ n. not (equal (text_v6 n) (unabbreviated n)))

abbrev pub count_tests : Addr → ℕ
count_tests a = when has_third a then 3 else 2

abbrev pub file_of : ℕ → File
file_of k = when eqb k 0 then File.Port else when eqb k 1 then File.Address else File.Third

-- ## The parts of a name

abbrev pub folder_of : File → List ℕ
folder_of File.Port = bytes "/etc/authbind/byport/"
folder_of File.Address = bytes "/etc/authbind/byaddr/"
folder_of File.Third = bytes "/etc/authbind/byaddr/"
folder_of File.Uid = bytes "/etc/authbind/byuid/"

abbrev pub mark_for : ℕ → List ℕ
mark_for p = when in_range 512 1023 p then bytes "!" else []

-- the address that stands in the name of the third test, and its mark
unfoldable pub third_text : Addr → List ℕ
third_text a = addr_case a [] (λ n. text_v4 n ++ bytes ":") (λ n. unabbreviated n ++ bytes ",")

-- the address that stands in the name of a file, and its mark
unfoldable pub address_in : File → Addr → List ℕ
address_in File.Port a = []
address_in File.Address a = addr_text a ++ bytes ","
address_in File.Third a = third_text a
address_in File.Uid a = []

abbrev pub number_in : File → ℕ → ℕ → ℕ
number_in File.Port p uid = p
number_in File.Address p uid = p
number_in File.Third p uid = p
number_in File.Uid p uid = uid

unfoldable pub name_for : File → ℕ → Addr → ℕ → List ℕ
name_for f p a uid = folder_of f ++ (mark_for p ++ (address_in f a ++ decimal (number_in f p uid)))

-- ## What comes next

-- a name that was written, of a file to test and of the byuid file
abbrev pub test_of : Result ℕ Refusal → Next
test_of (Err r) = N.Refused r
test_of (Ok n) = N.Test n

abbrev pub read_of : Result ℕ Refusal → Next
read_of (Err r) = N.Refused r
read_of (Ok n) = N.Read n

unfoldable pub step_at : Turn → ℕ → Addr → ℕ → ℕ → Outcome Step
step_at (T.Test k) p a uid room = with_room room (test (name_for (file_of k) p a uid))
step_at T.Byuid p a uid room = with_room room (read (name_for File.Uid p a uid))
step_at T.Allowed p a uid room = Ok granted
step_at T.Other p a uid room = Ok denied
step_at T.Late p a uid room = Err (placeless F.LateAnswer)
