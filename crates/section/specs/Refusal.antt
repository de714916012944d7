-- Document 01, "Numbers the gate answers with"; document 02, request 1: 15 to 17.
--   fault_number f    == the paper's number of a fault
--   lowest cs        == of the faults of cs whose tests hold, the one with the lowest number
--   Outcome A        == a refusal, or an answer of type A
--   refusing o a     == the refusal o, else the answer a
--   checked_of o     == what a check answers: the refusal o, or that there is none
--   o before c       == the refusal o, else the outcome c of what comes next
--   fitting p o f    == what f answers to the request in o, where its fields are within their sizes; else 13
--   within_room n t   == t as output into n bytes
--   lent_after out o  == what the lent output out holds after the outcome o
--   within_rooms n m p, first_after, second_after == the same of two outputs
-- Assumes nothing: these are definitions.
use Rattle.std.specs.Prelude.{⊤, ℕ, Bool, ◌||◌, List, [], ◌∷◌, ◌++◌, length, drop, ltb, Err, None, Ok, Option, Result, Some}
use Rattle.text.specs.Basics.{when◌then◌else◌, given}
use Rattle.section.specs.declared.Fault.{Fault}
use Rattle.section.specs.declared.Fault.TheVariants as F
use Rattle.section.specs.declared.Refusal.{Refusal}

-- 0 stands for "answered"; the words of each number are quoted where its test is defined
abbrev pub fault_number : Fault → ℕ
fault_number F.CutShort = 1
fault_number F.OverLimit = 2
fault_number F.TrailingBytes = 3
fault_number F.Unended = 4
fault_number F.BadByte = 5
fault_number F.LongLine = 6
fault_number F.NoElement = 7
fault_number F.MisplacedExcept = 8
fault_number F.ReservedStart = 9
fault_number F.UnknownElement = 10
fault_number F.BadPercent = 11
fault_number F.BadEntry = 12
fault_number F.BadRequest = 13
fault_number F.NoRoom = 14
fault_number F.TableName = 15
fault_number F.TooDeep = 16
fault_number F.BadTable = 17
fault_number F.DottedAddress = 18
fault_number F.LateAnswer = 19
fault_number F.BadProposal = 20
fault_number F.WrongIndex = 21
fault_number F.RetiredForm = 22

-- f, unless the other has a lower number
abbrev pub lower_fault : Fault → Option Fault → Fault
lower_fault f None = f
lower_fault f (Some g) = when ltb (fault_number g) (fault_number f) then g else f

-- "within a line the lowest number"
unfoldable pub lowest : List (Fault × Bool) → Option Fault
lowest [] = None
lowest (c ∷ cs) = when c.1 then Some (lower_fault c.0 (lowest cs)) else lowest cs

-- "A refusal carries number, section (1 to 4, or 0) and line (0 where none; the entry number for 12)"; of the tables
-- "section 5 and the table's number from 1 (0 for the limits of 64 tables and of the whole section)"
abbrev pub refusal : Fault → ℕ → ℕ → Refusal
refusal f s l = record { fault = f; section = s; line = l }

-- the refusal by a fault, if there is one, at a section and a line
abbrev pub at_place : ℕ → ℕ → Option Fault → Option Refusal
at_place s l None = None
at_place s l (Some f) = Some (refusal f s l)

-- "Section is 0 for 3, 13, 14"
abbrev pub placeless : Fault → Refusal
placeless f = refusal f 0 0

-- "A refusal .. writes nothing, and gives no verdict."
abbrev pub Outcome : Type 0 → Type 0
Outcome A = Result A Refusal

infixl 20 ◌>>=◌
abbrev pub ◌>>=◌ : {A B : Type 0} → Outcome A → (A → Outcome B) → Outcome B
Err r >>= f = Err r
Ok a >>= f = f a

abbrev pub refusing : {A : Type 0} → Option Refusal → A → Outcome A
refusing None a = Ok a
refusing (Some r) a = Err r

-- what a check answers: the refusal o, or that there is none
abbrev pub checked_of : Option Refusal → Outcome ⊤
checked_of o = refusing o tt

infixr 15 ◌before◌
abbrev pub ◌before◌ : {A : Type 0} → Option Refusal → Outcome A → Outcome A
None before c = c
Some r before c = Err r

-- 13: "a request field outside its size or its kinds": p says whether every field of a request is within its size, and none
-- stands for a request with a number outside its kinds
abbrev pub fitting : {A B : Type 0} → (A → Bool) → Option A → (A → Outcome B) → Outcome B
fitting p None f = Err (placeless F.BadRequest)
fitting p (Some a) f = when p a then f a else Err (placeless F.BadRequest)

-- 14: "the whole output is longer than the lent output"
abbrev pub within_room : ℕ → List ℕ → Outcome (List ℕ)
within_room room t = refusing (given (ltb room (length t)) (placeless F.NoRoom)) t

-- "Bytes past the output are untouched."
abbrev pub lent_after : List ℕ → Outcome (List ℕ) → List ℕ
lent_after out (Err r) = out
lent_after out (Ok t) = t ++ drop (length t) out

-- what such a call answers: the refusal, else the count of bytes written
abbrev pub written_of : Outcome (List ℕ) → Result ℕ Refusal
written_of (Err r) = Err r
written_of (Ok t) = Ok (length t)

-- "14 if either text doesn't fit, with neither written": a refusal leaves both outputs as they were
abbrev pub within_rooms : ℕ → ℕ → List ℕ × List ℕ → Outcome (List ℕ × List ℕ)
within_rooms room other p = refusing (given (ltb room (length p.0) || ltb other (length p.1)) (placeless F.NoRoom)) p

abbrev pub first_after : List ℕ → Outcome (List ℕ × List ℕ) → List ℕ
first_after out o = lent_after out (o >>= λ p. Ok p.0)

abbrev pub second_after : List ℕ → Outcome (List ℕ × List ℕ) → List ℕ
second_after out o = lent_after out (o >>= λ p. Ok p.1)

abbrev pub written_two_of : Outcome (List ℕ × List ℕ) → Result (ℕ × ℕ) Refusal
written_two_of (Err r) = Err r
written_two_of (Ok p) = Ok ((length p.0), (length p.1))
