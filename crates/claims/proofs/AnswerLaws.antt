-- What an answer says of the outcome.
-- Assumes nothing.
use Rattle.std.specs.Prelude.{Err, Ok}
use Prim.Native.Nat.{ℕ, ◌≤◌}
use native.Mathlib.Omega.{arith}
use mathlib.Core.List.{List, []}
use mathlib.Core.Path.{◌≡◌, refl, ap}
use lib.ListN.{length, drop}
use lib.Seq.{take_at}
use Rattle.section.specs.declared.Fault.{Fault}
use Rattle.section.specs.declared.Fault.TheVariants as F
use Rattle.section.specs.declared.Refusal.{Refusal}
use Rattle.section.specs.Refusal.{Outcome, ◌>>=◌, fault_number, lent_after, first_after, second_after}
use Rattle.section.specs.Section.{bytes_at}
use Rattle.address.specs.declared.Addr.{Addr}
use Rattle.address.specs.declared.Addr.TheVariants as A
use Rattle.address.specs.Address.{read_address}
use Rattle.rules.specs.declared.Answer.{Answer}
use Rattle.rules.specs.declared.Verdict.{Verdict}
use Rattle.rules.specs.declared.Verdict.TheVariants as Ver
use Rattle.rules.specs.Search.{decide, decide_tables, command_bytes}
use Rattle.rules.specs.Looked.{looked_over}
use Rattle.tables.specs.Table.{tables_of}
use Rattle.expansion.specs.Expand.{expand}
use Rattle.byuid.specs.declared.Decision.{Decision as ByuidDecision}
use Rattle.byuid.specs.declared.Decision.TheVariants as B
use Rattle.byuid.specs.Byuid.{decide_byuid}
use Rattle.authbind.specs.Authbind.{Step, next_step, name_written}
use Rattle.portacl.specs.declared.Decision.{Decision as PortaclDecision}
use Rattle.portacl.specs.declared.Decision.TheVariants as P
use Rattle.portacl.specs.Portacl.{decide_portacl}
use Rattle.sheet.specs.declared.Parts.{Parts}
use Rattle.sheet.specs.Sheet.{unpack, pack, upgrade}
use Rattle.station.specs.Station.{decide_sheet, looked_sheet, decide_byuid_sheet, decide_portacl_sheet}
use Rattle.codes.specs.declared.GateCheck.{GateCheck}
use Rattle.codes.specs.Requests.{request, byuid_bind, byuid_file_bind, authbind_asked, portacl_bind, write_by}
use Rattle.codes.specs.Answers.{refusal_answer, word_answer, answer_numbers, accepted, verdict_answer, byuid_answer, portacl_answer, check_answer, parts_answer}
use Rattle.codes.specs.Answers.{written_answer, address_answer}
use Rattle.codes.specs.Answers.{Command, together, command_answer, next_answer, written_two_answer}
use Rattle.carry.specs.Carry.{carry}
use Rattle.salvage.specs.Salvage.{salvage}
use Rattle.tidy.specs.Tidy.{propose, drop_rules}
use Rattle.index.specs.Index.{write_index, verdicts}
use Rattle.gate.specs.Calls.{wrote}
use Rattle.claims.specs.Claims.{Accepted, front, Decision, by_word, by_refusal, EveryDecision, EveryNumber, RefusalWritesNothing}

pub fault_nonzero : (f : Fault) → fault_number f ≡ 0 → ⊥
fault_nonzero F.CutShort e = omega arith
fault_nonzero F.OverLimit e = omega arith
fault_nonzero F.TrailingBytes e = omega arith
fault_nonzero F.Unended e = omega arith
fault_nonzero F.BadByte e = omega arith
fault_nonzero F.LongLine e = omega arith
fault_nonzero F.NoElement e = omega arith
fault_nonzero F.MisplacedExcept e = omega arith
fault_nonzero F.ReservedStart e = omega arith
fault_nonzero F.UnknownElement e = omega arith
fault_nonzero F.BadPercent e = omega arith
fault_nonzero F.BadEntry e = omega arith
fault_nonzero F.BadRequest e = omega arith
fault_nonzero F.NoRoom e = omega arith
fault_nonzero F.TableName e = omega arith
fault_nonzero F.TooDeep e = omega arith
fault_nonzero F.BadTable e = omega arith
fault_nonzero F.DottedAddress e = omega arith
fault_nonzero F.LateAnswer e = omega arith
fault_nonzero F.BadProposal e = omega arith
fault_nonzero F.WrongIndex e = omega arith
fault_nonzero F.RetiredForm e = omega arith

pub check_answered : (o : Outcome Parts) → check_answer o ≡ accepted → (p : Parts) × (o ≡ Ok p)
unfolding check_answer
check_answered (Err r) e = absurd (fault_nonzero r.fault (ap (λ (c : GateCheck). c.number) e))
check_answered (Ok p) e = (p, refl)

pub accepted_parts : (sheet : List ℕ) → Accepted sheet → (p : Parts) × (unpack sheet ≡ Ok p)
accepted_parts sheet e = check_answered (unpack sheet) e

pub parts_accepted : (sheet : List ℕ) (p : Parts) → unpack sheet ≡ Ok p → Accepted sheet
unfolding check_answer
parts_accepted sheet p e = rw e

pub written_answered : (out : List ℕ) (o : Outcome (List ℕ)) → (written_answer o).number ≡ 0 → (t : List ℕ) × (o ≡ Ok t) × (front (wrote out o) ≡ t)
unfolding written_answer
written_answered out (Err r) e = absurd (fault_nonzero r.fault e)
written_answered out (Ok t) e = (t, refl, take_at t (drop (length t) out) (length t) refl)

pub front_answered : (out : List ℕ) (o : Outcome (List ℕ)) (t : List ℕ) → o ≡ Ok t → front (wrote out o) ≡ t
unfolding written_answer
front_answered out o t e = rw e (take_at t (drop (length t) out) (length t) refl)

-- ## Every decision

fault_range : (f : Fault) → (1 ≤ fault_number f) × (fault_number f ≤ 22)
fault_range F.CutShort = (omega arith, omega arith)
fault_range F.OverLimit = (omega arith, omega arith)
fault_range F.TrailingBytes = (omega arith, omega arith)
fault_range F.Unended = (omega arith, omega arith)
fault_range F.BadByte = (omega arith, omega arith)
fault_range F.LongLine = (omega arith, omega arith)
fault_range F.NoElement = (omega arith, omega arith)
fault_range F.MisplacedExcept = (omega arith, omega arith)
fault_range F.ReservedStart = (omega arith, omega arith)
fault_range F.UnknownElement = (omega arith, omega arith)
fault_range F.BadPercent = (omega arith, omega arith)
fault_range F.BadEntry = (omega arith, omega arith)
fault_range F.BadRequest = (omega arith, omega arith)
fault_range F.NoRoom = (omega arith, omega arith)
fault_range F.TableName = (omega arith, omega arith)
fault_range F.TooDeep = (omega arith, omega arith)
fault_range F.BadTable = (omega arith, omega arith)
fault_range F.DottedAddress = (omega arith, omega arith)
fault_range F.LateAnswer = (omega arith, omega arith)
fault_range F.BadProposal = (omega arith, omega arith)
fault_range F.WrongIndex = (omega arith, omega arith)
fault_range F.RetiredForm = (omega arith, omega arith)

refusal_decision : (r : Refusal) → Decision (refusal_answer r)
refusal_decision r = by_refusal r (fault_range r.fault).0 (fault_range r.fault).1

word_decision : (w : ℕ) → 1 ≤ w → w ≤ 6 → Decision (word_answer w)
word_decision w h k = by_word (word_answer w) refl refl h k

pub verdict_decision : (o : Outcome Answer) (n : ℕ) → Decision (verdict_answer o n)
unfolding verdict_answer
verdict_decision (Err r) n = refusal_decision r
verdict_decision (Ok a) n = by a.verdict refl
  where
    by : (v : Verdict) → a.verdict ≡ v → Decision (answer_numbers a n)
    by Ver.Granted e = by_word (answer_numbers a n) refl refl (rw e (omega arith)) (rw e (omega arith))
    by Ver.Denied e = by_word (answer_numbers a n) refl refl (rw e (omega arith)) (rw e (omega arith))
    by Ver.Ask e = by_word (answer_numbers a n) refl refl (rw e (omega arith)) (rw e (omega arith))

pub byuid_decision_lem : (o : Outcome ByuidDecision) → Decision (byuid_answer o)
unfolding byuid_answer
byuid_decision_lem (Err r) = refusal_decision r
byuid_decision_lem (Ok B.Granted) = word_decision 1 (omega arith) (omega arith)
byuid_decision_lem (Ok B.NoLine) = word_decision 4 (omega arith) (omega arith)
byuid_decision_lem (Ok B.NotRuled) = word_decision 5 (omega arith) (omega arith)

pub portacl_decision_lem : (o : Outcome PortaclDecision) → Decision (portacl_answer o)
unfolding portacl_answer
portacl_decision_lem (Err r) = refusal_decision r
portacl_decision_lem (Ok P.Granted) = word_decision 1 (omega arith) (omega arith)
portacl_decision_lem (Ok P.Denied) = word_decision 2 (omega arith) (omega arith)
portacl_decision_lem (Ok P.NotRuled) = word_decision 5 (omega arith) (omega arith)
portacl_decision_lem (Ok P.Exempt) = word_decision 6 (omega arith) (omega arith)

pub every_decision : EveryDecision
every_decision = record {
  verdict_decided = λ allow deny n. verdict_decision (decide allow deny (request n)) (looked_over [] allow deny (request n));
  tables_verdict_decided = λ allow deny tables n. verdict_decision (decide_tables allow deny tables (request n))
      (looked_over (tables_of tables) allow deny (request n));
  sheet_verdict_decided = λ sheet n. verdict_decision (decide_sheet sheet (request n)) (looked_sheet sheet (request n));
  byuid_decided = λ text mark port kind high low uid. byuid_decision_lem (decide_byuid text (byuid_file_bind mark port kind high low uid));
  sheet_byuid_decided = λ sheet port kind high low uid. byuid_decision_lem (decide_byuid_sheet sheet (byuid_bind port kind high low uid));
  portacl_decided = λ text s uid groups protocol port. portacl_decision_lem (decide_portacl text s (portacl_bind uid groups protocol port));
  sheet_portacl_decided = λ sheet s uid groups protocol port. portacl_decision_lem (decide_portacl_sheet sheet s (portacl_bind uid groups protocol port));
}

-- ## Every number

fault_most : (f : Fault) → fault_number f ≤ 22
fault_most f = (fault_range f).1

written_most : (o : Outcome (List ℕ)) → (written_answer o).number ≤ 22
unfolding written_answer
written_most (Err r) = fault_most r.fault
written_most (Ok t) = omega arith

check_most : (o : Outcome Parts) → (check_answer o).number ≤ 22
unfolding check_answer
check_most (Err r) = fault_most r.fault
check_most (Ok p) = omega arith

parts_most : (o : Outcome Parts) → (parts_answer o).number ≤ 22
unfolding parts_answer
parts_most (Err r) = fault_most r.fault
parts_most (Ok p) = omega arith

address_most : (o : Outcome Addr) → (address_answer o).number ≤ 22
unfolding address_answer
address_most (Err r) = fault_most r.fault
address_most (Ok A.Unknown) = omega arith
address_most (Ok (A.V4 n)) = omega arith
address_most (Ok (A.V6 h l)) = omega arith

next_most : (o : Outcome Step) → (next_answer o).number ≤ 22
unfolding next_answer
next_most (Err r) = fault_most r.fault
next_most (Ok s) = omega arith

-- a call with two outputs that is not refused
pub two_answered : (o : Outcome (List ℕ × List ℕ)) → (written_two_answer o).number ≡ 0 → (p : List ℕ × List ℕ) × (o ≡ Ok p)
unfolding written_two_answer
two_answered (Err r) e = absurd (fault_nonzero r.fault e)
two_answered (Ok p) e = (p, refl)

two_most : (o : Outcome (List ℕ × List ℕ)) → (written_two_answer o).number ≤ 22
unfolding written_two_answer
two_most (Err r) = fault_most r.fault
two_most (Ok p) = omega arith

pub every_number : EveryNumber
every_number = record {
  check_number = λ sheet. check_most (unpack sheet);
  unpack_number = λ sheet. parts_most (unpack sheet);
  read_number = λ text. address_most (read_address text);
  pack_number = λ ts out. written_most (pack ts (length out));
  upgrade_number = λ sheet out. written_most (upgrade sheet (length out));
  expand_number = λ command n process out. written_most (expand command (request n) process (length out));
  write_number = λ kind high low out. written_most (write_by kind high low (length out));
  authbind_number = λ port kind high low uid answers out. next_most (next_step (authbind_asked port kind high low uid answers) (length out));
  carry_number = λ list uid plain marked. two_most (carry list uid (length plain) (length marked));
  salvage_number = λ sheet out list. two_most (salvage sheet (length out) (length list));
  propose_number = λ text tables section out. written_most (propose section text tables (length out));
  drop_number = λ text tables section proposal out. written_most (drop_rules section text tables proposal (length out));
  index_number = λ sheet out. written_most (write_index sheet (length out));
  verdicts_number = λ sheet index requests out. written_most (verdicts sheet index requests (length out));
}

-- ## A refusal writes nothing

kept : (out : List ℕ) (o : Outcome (List ℕ)) → ((written_answer o).number ≡ 0 → ⊥) → lent_after out o ≡ out
unfolding written_answer
kept out (Err r) h = refl
kept out (Ok t) h = absurd (h refl)

command_kept : (out : List ℕ) (o : Outcome Command) (k : ℕ) → ((command_answer o k).number ≡ 0 → ⊥) → lent_after out (o >>= λ c. Ok c.text) ≡ out
unfolding command_answer
command_kept out (Err r) k h = refl
command_kept out (Ok c) k h = absurd (h refl)

name_kept : (out : List ℕ) (o : Outcome Step) → ((next_answer o).number ≡ 0 → ⊥) → lent_after out (name_written o) ≡ out
unfolding next_answer
name_kept out (Err r) h = refl
name_kept out (Ok s) h = absurd (h refl)

two_kept : (out other : List ℕ) (o : Outcome (List ℕ × List ℕ)) → ((written_two_answer o).number ≡ 0 → ⊥) → (first_after out o ≡ out)
    × (second_after other o ≡ other)
unfolding written_two_answer
two_kept out other (Err r) h = (refl, refl)
two_kept out other (Ok p) h = absurd (h refl)

pub refusal_writes_nothing : RefusalWritesNothing
refusal_writes_nothing = record {
  packing = λ ts out. kept out (pack ts (length out));
  expanding = λ command n process out. kept out (expand command (request n) process (length out));
  writing = λ kind high low out. kept out (write_by kind high low (length out));
  upgrading = λ sheet out. kept out (upgrade sheet (length out));
  commanding = λ allow deny n process out.
      command_kept out (together (decide allow deny (request n)) (λ a. expand (command_bytes allow deny a) (request n) process (length out)))
      (looked_over [] allow deny (request n));
  sheet_commanding = λ sheet n process out.
      command_kept out (together (decide_sheet sheet (request n)) (λ a. expand (bytes_at sheet a.command) (request n) process (length out)))
      (looked_sheet sheet (request n));
  naming = λ port kind high low uid answers out. name_kept out (next_step (authbind_asked port kind high low uid answers) (length out));
  carrying = λ list uid plain marked. two_kept plain marked (carry list uid (length plain) (length marked));
  salvaging = λ sheet out list. two_kept out list (salvage sheet (length out) (length list));
  proposing = λ text tables section out. kept out (propose section text tables (length out));
  dropping = λ text tables section proposal out. kept out (drop_rules section text tables proposal (length out));
  indexing = λ sheet out. kept out (write_index sheet (length out));
  answering = λ sheet index requests out. kept out (verdicts sheet index requests (length out));
}
