-- Document 02, request 8: what gate_index writes, what gate_verdicts answers by it, and what it refuses.
--   IndexWritten    == "a call writes it for an accepted sheet, or refuses by 14"
--   IndexedVerdicts == "Each answer is the one that the request gets alone without an index"; 21, 13 and 14 for the whole call
-- Assumes nothing: these are statements.
use Rattle.std.specs.Prelude.{ℕ, ◌*◌, ◌≤◌, ◌<◌, List, ◌≡◌, length, take, drop, get_or, None, Some}
use Rattle.section.specs.declared.Fault.TheVariants as F
use Rattle.section.specs.declared.Refusal.{Refusal}
use Rattle.section.specs.Refusal.{placeless}
use Rattle.codes.specs.Requests.{RequestNumbers, request}
use Rattle.codes.specs.Answers.{accepted, refused_check, refusal_answer, refused_written, count_written}
use Rattle.index.specs.Index.{read_requests, answer_bytes}
use Rattle.gate.specs.Calls.{Wrote, gate_check, gate_sheet_verdict, gate_index, gate_verdicts}

-- what a call has written at the front of its output
abbrev pub written : Wrote → List ℕ
written w = take w.answer.count w.out

-- the 36 bytes of the answer to the k-th request, from 0
abbrev pub answer_at : ℕ → Wrote → List ℕ
answer_at k w = take 36 (drop (36 * k) (written w))

pub record IndexWritten : Type 0 where
  pub index_or_14 : (sheet out : List ℕ) → gate_check sheet ≡ accepted → ((gate_index sheet out).answer.number ≡ 0 → ⊥)
      → (gate_index sheet out).answer ≡ refused_written (placeless F.NoRoom)
  pub index_refused : (sheet out : List ℕ) (r : Refusal) → gate_check sheet ≡ refused_check r → (gate_index sheet out).answer ≡ refused_written r
  -- a sheet has one index, whatever was lent
  pub one_index : (sheet out other : List ℕ) → (gate_index sheet out).answer.number ≡ 0 → (gate_index sheet other).answer.number ≡ 0
      → written (gate_index sheet out) ≡ written (gate_index sheet other)

-- "answers up to 32 requests, in their order, into a lent buffer": what w has written for the requests ns; d stands where there is no k-th
pub record AnsweredAlone (sheet : List ℕ) (ns : List RequestNumbers) (w : Wrote) : Type 0 where
  pub all_counted : w.answer ≡ count_written (36 * length ns)
  -- "Each answer is the one that the request gets alone without an index;"
  pub each_alone : (k : ℕ) (d : RequestNumbers) → k < length ns → answer_at k w ≡ answer_bytes (gate_sheet_verdict sheet (get_or ns k d))
  -- "a request with a bad field gets its own 13 in its place and the others are still answered."
  pub own_refusal : (k : ℕ) (d : RequestNumbers) → k < length ns → request (get_or ns k d) ≡ None
      → answer_at k w ≡ answer_bytes (refusal_answer (placeless F.BadRequest))

pub record IndexedVerdicts : Type 0 where
  -- by the index that gate_index wrote for the sheet, given room
  pub by_own_index : (sheet lent requests out : List ℕ) (ns : List RequestNumbers) → (gate_index sheet lent).answer.number ≡ 0
      → read_requests requests ≡ Some ns → 36 * length ns ≤ length out
      → AnsweredAlone sheet ns (gate_verdicts sheet (written (gate_index sheet lent)) requests out)
  pub at_most_32 : (requests : List ℕ) (ns : List RequestNumbers) → read_requests requests ≡ Some ns → length ns ≤ 32
  -- "21 for a wrong index, after all sheet checks;"
  pub sheet_first : (sheet index requests out : List ℕ) (r : Refusal) → gate_check sheet ≡ refused_check r
      → (gate_verdicts sheet index requests out).answer ≡ refused_written r
  -- "An index that isn't the one of this very sheet is refused.": whatever the requests and the room are
  pub wrong_index : (sheet lent index requests out : List ℕ) → (gate_index sheet lent).answer.number ≡ 0
      → (index ≡ written (gate_index sheet lent) → ⊥) → (gate_verdicts sheet index requests out).answer ≡ refused_written (placeless F.WrongIndex)
  -- "then 13 for the whole call if there are more than 32 requests or they can't be parted;"
  pub unparted_next : (sheet lent requests out : List ℕ) → (gate_index sheet lent).answer.number ≡ 0 → read_requests requests ≡ None
      → (gate_verdicts sheet (written (gate_index sheet lent)) requests out).answer ≡ refused_written (placeless F.BadRequest)
  -- "then 14."
  pub room_last : (sheet lent requests out : List ℕ) (ns : List RequestNumbers) → (gate_index sheet lent).answer.number ≡ 0
      → read_requests requests ≡ Some ns → length out < 36 * length ns
      → (gate_verdicts sheet (written (gate_index sheet lent)) requests out).answer ≡ refused_written (placeless F.NoRoom)
