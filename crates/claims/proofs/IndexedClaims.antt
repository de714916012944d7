-- Request 8: by the index that gate_index wrote each request gets its lone answer, and what is refused, in which order.
-- Assumes nothing.
use Rattle.std.specs.Prelude.{Err, None, Ok, Some}
use Prim.Native.Nat.{ℕ, ◌*◌, ◌≤◌, ◌<◌}
use mathlib.Core.Bool.{Bool, true, false}
use mathlib.Core.List.{List}
use mathlib.Core.Path.{◌≡◌, refl, sym, ap, ◌∙◌}
use lib.Dec.{ltb}
use lib.ListN.{length, take, drop, get_or}
use Rattle.text.specs.Basics.{given}
use Rattle.section.specs.declared.Fault.TheVariants as F
use Rattle.section.specs.declared.Refusal.{Refusal}
use Rattle.section.specs.Refusal.{Outcome, refusing, placeless, within_room}
use Rattle.sheet.specs.declared.Parts.{Parts}
use Rattle.sheet.specs.Sheet.{unpack}
use Rattle.station.specs.Station.{decide_sheet, looked_sheet}
use Rattle.codes.specs.declared.GateCheck.{GateCheck}
use Rattle.codes.specs.declared.GateWritten.{GateWritten}
use Rattle.codes.specs.Requests.{RequestNumbers, request}
use Rattle.codes.specs.Answers.{accepted, refused_check, refusal_answer, verdict_answer, check_answer, refused_written, count_written, written_answer}
use Rattle.index.specs.Index.{index_bytes, write_index, read_requests, answer_bytes, answers_to, verdicts}
use Rattle.index.proofs.AnswerLaws.{length_answers}
use Rattle.index.proofs.CallLaws.{some_few, written_index, with_own_index, answer_at_lem, other_index, parted_next, room_last, sheet_first}
use Rattle.gate.specs.Calls.{Wrote, gate_check, gate_sheet_verdict, gate_index, gate_verdicts}
use Rattle.claims.specs.Indexed.{written, answer_at, IndexWritten, AnsweredAlone, IndexedVerdicts}
use Rattle.claims.proofs.AnswerLaws.{fault_nonzero, check_answered, written_answered, front_answered}

-- ## A sheet that is refused

-- the same refusal, of a call that writes
abbrev as_written : GateCheck → GateWritten
as_written c = record { number = c.number; section = c.section; line = c.line; count = 0 }

sheet_refused : (o : Outcome Parts) (r : Refusal) → check_answer o ≡ refused_check r → (g : Refusal) × ((o ≡ Err g) × (refused_written g ≡ refused_written r))
unfolding check_answer
sheet_refused (Err g) r e = (g, (refl, ap as_written e))
sheet_refused (Ok p) r e = absurd (fault_nonzero r.fault (sym (ap (λ (c : GateCheck). c.number) e)))

refused_index : (sheet out : List ℕ) (r : Refusal) → gate_check sheet ≡ refused_check r → (gate_index sheet out).answer ≡ refused_written r
unfolding written_answer write_index
refused_index sheet out r e = let g = sheet_refused (unpack sheet) r e in rw g.1.0 g.1.1

refused_verdicts : (sheet index requests out : List ℕ) (r : Refusal) → gate_check sheet ≡ refused_check r
    → (gate_verdicts sheet index requests out).answer ≡ refused_written r
unfolding written_answer
refused_verdicts sheet index requests out r e =
    let g = sheet_refused (unpack sheet) r e in
    ap written_answer (sheet_first sheet index requests (length out) g.0 g.1.0) ∙ g.1.1

-- ## Writing the index

room_only : (room : ℕ) (t : List ℕ) → ((written_answer (within_room room t)).number ≡ 0 → ⊥)
    → written_answer (within_room room t) ≡ refused_written (placeless F.NoRoom)
unfolding written_answer
room_only room t = by (ltb room (length t))
  where
    by : (b : Bool) → ((written_answer (refusing (given b (placeless F.NoRoom)) t)).number ≡ 0 → ⊥)
        → written_answer (refusing (given b (placeless F.NoRoom)) t) ≡ refused_written (placeless F.NoRoom)
    by true h = refl
    by false h = absurd (h refl)

index_outcome : (sheet : List ℕ) (p : Parts) → unpack sheet ≡ Ok p → (room : ℕ) → write_index sheet room ≡ within_room room (index_bytes sheet p)
unfolding write_index
index_outcome sheet p ok room = rw ok

no_room : (sheet out : List ℕ) → gate_check sheet ≡ accepted → ((gate_index sheet out).answer.number ≡ 0 → ⊥)
    → (gate_index sheet out).answer ≡ refused_written (placeless F.NoRoom)
no_room sheet out e h =
    let p = check_answered (unpack sheet) e in
    let w = index_outcome sheet p.0 p.1 (length out) in
    ap written_answer w
    ∙ room_only (length out) (index_bytes sheet p.0) (λ z. h (ap (λ (o : Outcome (List ℕ)). (written_answer o).number) w ∙ z))

-- ## By the index of the sheet

bad_alone : (sheet : List ℕ) (p : Parts) → unpack sheet ≡ Ok p → (n : RequestNumbers) → request n ≡ None
    → gate_sheet_verdict sheet n ≡ refusal_answer (placeless F.BadRequest)
unfolding decide_sheet looked_sheet verdict_answer
bad_alone sheet p ok n e = rw (ok, e)

module _ (sheet lent : List ℕ) (e : (gate_index sheet lent).answer.number ≡ 0) where
  abbrev index : List ℕ
  index = written (gate_index sheet lent)

  own : (i : List ℕ) × (write_index sheet (length lent) ≡ Ok i) × (index ≡ i)
  own = written_answered lent (write_index sheet (length lent)) e

  parts : (p : Parts) × ((unpack sheet ≡ Ok p) × (own.0 ≡ index_bytes sheet p))
  parts = written_index sheet (length lent) own.0 own.1

  index_is : index ≡ index_bytes sheet parts.0
  index_is = own.2 ∙ parts.1.1

  wrong : (other requests out : List ℕ) → (other ≡ index → ⊥) → (gate_verdicts sheet other requests out).answer ≡ refused_written (placeless F.WrongIndex)
  unfolding written_answer
  wrong other requests out h = ap written_answer (other_index sheet parts.0 parts.1.0 requests (length out) other (λ q. h (q ∙ sym index_is)))

  module _ (requests out : List ℕ) where
    unparted : read_requests requests ≡ None → (gate_verdicts sheet index requests out).answer ≡ refused_written (placeless F.BadRequest)
    unfolding written_answer
    unparted h =
        ap (λ (i : List ℕ). written_answer (verdicts sheet i requests (length out))) index_is
        ∙ ap written_answer (parted_next sheet parts.0 parts.1.0 requests (length out) h)

    module _ (ns : List RequestNumbers) (r : read_requests requests ≡ Some ns) where
      short : length out < 36 * length ns → (gate_verdicts sheet index requests out).answer ≡ refused_written (placeless F.NoRoom)
      unfolding written_answer
      short h =
          ap (λ (i : List ℕ). written_answer (verdicts sheet i requests (length out))) index_is
          ∙ ap written_answer (room_last sheet parts.0 parts.1.0 requests (length out) ns r h)

      module _ (room : 36 * length ns ≤ length out) where
        whole : verdicts sheet index requests (length out) ≡ Ok (answers_to sheet ns)
        whole =
            ap (λ (i : List ℕ). verdicts sheet i requests (length out)) own.2
            ∙ with_own_index sheet requests own.0 (length out) (length lent) ns own.1 r room

        each : (k : ℕ) (d : RequestNumbers) → k < length ns
            → answer_at k (gate_verdicts sheet index requests out) ≡ answer_bytes (gate_sheet_verdict sheet (get_or ns k d))
        each k d h =
            ap (λ (t : List ℕ). take 36 (drop (36 * k) t)) (front_answered out (verdicts sheet index requests (length out)) (answers_to sheet ns) whole)
            ∙ answer_at_lem sheet ns k d h

        answered_alone : AnsweredAlone sheet ns (gate_verdicts sheet index requests out)
        unfolding written_answer
        answered_alone = record {
          all_counted = ap written_answer whole ∙ ap count_written (length_answers sheet ns);
          each_alone = each;
          own_refusal = λ k d h b. each k d h ∙ ap answer_bytes (bad_alone sheet parts.0 parts.1.0 (get_or ns k d) b);
        }

same_parts : (sheet : List ℕ) (p q : Parts) → unpack sheet ≡ Ok p → unpack sheet ≡ Ok q → index_bytes sheet p ≡ index_bytes sheet q
same_parts sheet p q e f = by (unpack sheet) e f
  where
    by : (o : Outcome Parts) → o ≡ Ok p → o ≡ Ok q → index_bytes sheet p ≡ index_bytes sheet q
    by o e f = let z : p ≡ q = cc (sym e ∙ f) in ap (index_bytes sheet) z

pub index_written : IndexWritten
index_written = record {
  index_or_14 = no_room;
  index_refused = refused_index;
  one_index = λ sheet out other e f.
      index_is sheet out e
      ∙ same_parts sheet (parts sheet out e).0 (parts sheet other f).0 (parts sheet out e).1.0 (parts sheet other f).1.0
      ∙ sym (index_is sheet other f);
}

pub indexed_verdicts : IndexedVerdicts
unfolding read_requests
indexed_verdicts = record {
  by_own_index = λ sheet lent requests out ns e r room. answered_alone sheet lent e requests out ns r room;
  at_most_32 = λ requests ns r. some_few 32 requests ns r;
  sheet_first = refused_verdicts;
  wrong_index = λ sheet lent index requests out e h. wrong sheet lent e index requests out h;
  unparted_next = λ sheet lent requests out e h. unparted sheet lent e requests out h;
  room_last = λ sheet lent requests out ns e r h. short sheet lent e requests out ns r h;
}
