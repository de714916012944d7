-- The claims of request 11: a line of the retired form is refused, and a converted text has none and grants what it granted.
-- Assumes nothing.
use Rattle.std.specs.Prelude.{Err, None, Ok, Option, Some}
use Prim.Native.Nat.{ℕ, ◌≤◌}
use native.Mathlib.Omega.{arith}
use mathlib.Core.Bool.{Bool, true, false}
use mathlib.Core.List.{List, []}
use mathlib.Core.Path.{◌≡◌, refl, sym, ap, ◌∙◌}
use borrow.Author.Tests.{le-ltb}
use lib.Dec.{ltb}
use lib.ListN.{length}
use Rattle.text.specs.Basics.{◌or_else◌, given}
use Rattle.text.specs.Text.{in_range}
use Rattle.section.specs.declared.Fault.{Fault}
use Rattle.section.specs.declared.Fault.TheVariants as F
use Rattle.section.specs.declared.Refusal.{Refusal}
use Rattle.section.specs.Refusal.{Outcome, ◌>>=◌, ◌before◌, fault_number, placeless, refusing, within_room, lent_after}
use Rattle.section.specs.Section as S
use Rattle.section.specs.Section.{over_limit}
use Rattle.tables.specs.Table.{tables_frame}
use Rattle.rules.specs.Check.{hosts_fault, tables_fault}
use Rattle.byuid.specs.Byuid.{byuid_fault, FileBind, decide_byuid}
use Rattle.byuid.specs.Convert.{convert_text, convert}
use Rattle.byuid.proofs.ConvertLaws.{convert_line_kept, split_convert_text, byuid_fault_convert_text, convert_text_same, convert_text_again, length_convert_text}
use Rattle.byuid.proofs.ConvertLaws.{decide_byuid_convert_text}
use Rattle.portacl.specs.Portacl.{portacl_fault}
use Rattle.sheet.specs.declared.Parts.{Parts}
use Rattle.sheet.specs.Sheet.{Texts, texts_at, texts_fault, frame, unpack, sheet_of, pack}
use Rattle.sheet.proofs.FrameLaws.{WithinLimits, texts_fault_none, parts_of, sheet_of_in_turn, framed_parts_of, texts_at_parts_of, answered_frame, pack_answered}
use Rattle.sheet.proofs.FrameLaws.{answered_same}
use Rattle.station.specs.Station.{decide_sheet, decide_byuid_sheet}
use Rattle.codes.specs.Requests.{byuid_file_bind}
use Rattle.codes.specs.Answers.{verdict_answer, byuid_answer, check_answer, written_answer, refusal_answer}
use Rattle.gate.specs.Calls.{gate_convert, gate_byuid}
use Rattle.claims.specs.Retired.{front, without_byuid, RetiredRefused, Converted, RefusalNumbers}
use Rattle.claims.proofs.AnswerLaws.{written_answered}

-- ## Refused

lone_refused : (t : List ℕ) (r : Refusal) → length t ≤ 8192 → byuid_fault t ≡ Some r → (o : Option FileBind) → decide_byuid t o ≡ Err r
unfolding decide_byuid
lone_refused t r h e o = rw (le-ltb 8192 (length t) h, e)

module _ (ts : Texts) (r : Refusal) (sound : texts_fault (without_byuid ts) ≡ None) (short : length ts.byuid ≤ 8192)
    (e : byuid_fault ts.byuid ≡ Some r) where
  -- the last of the faults of five texts
  retired_fault_lem : texts_fault ts ≡ Some r
  unfolding texts_fault
  retired_fault_lem =
      rw (e, le-ltb 8192 (length ts.byuid) short)
      (by (over_limit S.allow ts.allow) (over_limit S.deny ts.deny) (over_limit S.byuid []) (over_limit S.portacl ts.portacl) (tables_frame ts.tables)
      (hosts_fault S.allow ts.allow) (hosts_fault S.deny ts.deny) (portacl_fault ts.portacl) (tables_fault ts.allow ts.deny ts.tables)
      (byuid_fault []) sound)
    where
      none_some : (g : Refusal) → Some g ≡ None → ⊥
      none_some g k = let z : ◌≡◌ {A = ℕ} 0 1 = cc in omega arith

      by : (a b c d f g h i j l : Option Refusal) → (a or_else b or_else c or_else d or_else f or_else g or_else h or_else i or_else j or_else l) ≡ None
          → (a or_else b or_else None or_else d or_else f or_else g or_else h or_else i or_else j or_else Some r) ≡ Some r
      by (Some x) b c d f g h i j l k = absurd (none_some x k)
      by None (Some x) c d f g h i j l k = absurd (none_some x k)
      by None None (Some x) d f g h i j l k = absurd (none_some x k)
      by None None None (Some x) f g h i j l k = absurd (none_some x k)
      by None None None None (Some x) g h i j l k = absurd (none_some x k)
      by None None None None None (Some x) h i j l k = absurd (none_some x k)
      by None None None None None None (Some x) i j l k = absurd (none_some x k)
      by None None None None None None None (Some x) j l k = absurd (none_some x k)
      by None None None None None None None None (Some x) l k = absurd (none_some x k)
      by None None None None None None None None None l k = refl

  limits : WithinLimits ts
  limits =
      let w = texts_fault_none (without_byuid ts) sound in
      record { allow = w.allow; deny = w.deny; byuid = short; portacl = w.portacl; tables = w.tables }

  sheet_refused : unpack (sheet_of ts) ≡ Err r
  unfolding unpack
  sheet_refused =
      let is = sheet_of_in_turn ts in
      rw (answered_frame (framed_parts_of ts (sheet_of ts) is limits), texts_at_parts_of ts (sheet_of ts) is, retired_fault_lem)

  pack_refused : (room : ℕ) → pack ts room ≡ Err r
  unfolding pack
  pack_refused room = rw retired_fault_lem

-- what packing tells of its texts
packed_sound : (ts : Texts) (out : List ℕ) → (written_answer (pack ts (length out))).number ≡ 0 → texts_fault ts ≡ None
packed_sound ts out e = let w = written_answered out (pack ts (length out)) e in (pack_answered ts (length out) w.0 w.1).0

pub retired_refused : RetiredRefused
unfolding decide_sheet decide_byuid_sheet check_answer verdict_answer byuid_answer written_answer
retired_refused = record {
  lone_refused = λ text r short e mark port kind high low uid. ap byuid_answer (lone_refused text r short e (byuid_file_bind mark port kind high low uid));
  packing_refused = λ ts r out n short e room.
      let p = pack_refused ts r (packed_sound (without_byuid ts) out n) short e (length room) in
      (ap written_answer p, ap (lent_after room) p);
  check_refused = λ ts r out n short e. rw (sheet_refused ts r (packed_sound (without_byuid ts) out n) short e);
  verdict_refused = λ ts r out n short e q. rw (sheet_refused ts r (packed_sound (without_byuid ts) out n) short e);
  byuid_refused = λ ts r out n short e port kind high low uid. rw (sheet_refused ts r (packed_sound (without_byuid ts) out n) short e);
}

-- ## Converted

-- what was written is the converted text
convert_answered : (t : List ℕ) (room : ℕ) (s : List ℕ) → convert t room ≡ Ok s → s ≡ convert_text t
unfolding convert
convert_answered t room s e = by (over_limit S.byuid t) e
  where
    room_for : (b : Bool) → refusing (given b (placeless F.NoRoom)) (convert_text t) ≡ Ok s → s ≡ convert_text t
    room_for true k = let z : ◌≡◌ {A = ℕ} 0 1 = cc in absurd (omega arith)
    room_for false k = sym (answered_same (convert_text t) s k)

    by : (o : Option Refusal) → (refusing o (convert_text t) >>= within_room room) ≡ Ok s → s ≡ convert_text t
    by None k = room_for (ltb room (length (convert_text t))) k
    by (Some g) k = let z : ◌≡◌ {A = ℕ} 0 1 = cc in absurd (omega arith)

written : (t out : List ℕ) → (gate_convert t out).answer.number ≡ 0 → front (gate_convert t out) ≡ convert_text t
written t out e =
    let w = written_answered out (convert t (length out)) e in
    w.2 ∙ convert_answered t (length out) w.0 w.1

convert_fits : (t out : List ℕ) → length t ≤ 8192 → length t ≤ length out → convert t (length out) ≡ Ok (convert_text t)
unfolding convert
convert_fits t out h k = rw (le-ltb 8192 (length t) h, length_convert_text t, le-ltb (length out) (length t) k)

kept : (out : List ℕ) (o : Outcome (List ℕ)) → ((written_answer o).number ≡ 0 → ⊥) → lent_after out o ≡ out
unfolding written_answer
kept out (Err r) h = refl
kept out (Ok t) h = absurd (h refl)

pub converted : Converted
unfolding written_answer
converted = record {
  converts = λ text out h k. rw (convert_fits text out h k, length_convert_text text);
  as_many = λ text out e. ap length (written text out e) ∙ length_convert_text text;
  not_retired = λ text out e. ap byuid_fault (written text out e) ∙ byuid_fault_convert_text text;
  grants_the_same = λ text out e mark port kind high low uid.
      ap (λ (t : List ℕ). gate_byuid t mark port kind high low uid) (written text out e)
      ∙ ap byuid_answer (decide_byuid_convert_text text (byuid_file_bind mark port kind high low uid));
  same_lines = λ text out e. ap (Rattle.text.specs.Text.split "\n") (written text out e) ∙ split_convert_text text;
  others_stay = convert_line_kept;
  unchanged = λ text out e n. written text out e ∙ convert_text_same text n;
  again = λ text out room e k.
      written (front (gate_convert text out)) room k ∙ ap convert_text (written text out e) ∙ convert_text_again text ∙ sym (written text out e);
  refused_writes_nothing = λ text out. kept out (convert text (length out));
}

-- ## Numbers

fault_number_lem : (f : Fault) → in_range 1 22 (fault_number f) ≡ true
fault_number_lem F.CutShort = refl
fault_number_lem F.OverLimit = refl
fault_number_lem F.TrailingBytes = refl
fault_number_lem F.Unended = refl
fault_number_lem F.BadByte = refl
fault_number_lem F.LongLine = refl
fault_number_lem F.NoElement = refl
fault_number_lem F.MisplacedExcept = refl
fault_number_lem F.ReservedStart = refl
fault_number_lem F.UnknownElement = refl
fault_number_lem F.BadPercent = refl
fault_number_lem F.BadEntry = refl
fault_number_lem F.BadRequest = refl
fault_number_lem F.NoRoom = refl
fault_number_lem F.TableName = refl
fault_number_lem F.TooDeep = refl
fault_number_lem F.BadTable = refl
fault_number_lem F.DottedAddress = refl
fault_number_lem F.LateAnswer = refl
fault_number_lem F.BadProposal = refl
fault_number_lem F.WrongIndex = refl
fault_number_lem F.RetiredForm = refl

pub refusal_numbers : RefusalNumbers
refusal_numbers r = fault_number_lem r.fault
