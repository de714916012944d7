-- Document 02, request 11: "A sheet with a line that this form used to accept is now refused, and a converter for byuid texts rewrites just
-- those lines". What the exported calls answer, as statements.
--   RetiredRefused  == a text or a sheet with such a line is refused by 22 at the first of them
--   Converted       == what gate_convert has written
--   RefusalNumbers  == the numbers that a refusal can have
-- Assumes nothing: these are statements.
use Rattle.std.specs.Prelude.{ℕ, ◌≤◌, true, false, List, [], map, ◌≡◌, length, take, None, Some}
use Rattle.text.specs.Text.{split, in_range}
use Rattle.section.specs.declared.Refusal.{Refusal}
use Rattle.byuid.specs.Byuid.{is_retired, byuid_fault}
use Rattle.byuid.specs.Convert.{convert_line, decided_before}
use Rattle.sheet.specs.Sheet.{Texts, texts, sheet_of}
use Rattle.codes.specs.Requests.{RequestNumbers, byuid_file_bind}
use Rattle.codes.specs.Answers.{byuid_answer, refusal_answer, refused_check, refused_written, count_written}
use Rattle.gate.specs.Calls.{Wrote, gate_byuid, gate_sheet_verdict, gate_sheet_byuid, gate_check, gate_pack, gate_convert}

-- what a call has written at the front of its output
abbrev pub front : Wrote → List ℕ
front w = take w.answer.count w.out

abbrev pub without_byuid : Texts → Texts
without_byuid ts = texts ts.allow ts.deny [] ts.portacl ts.tables

-- "22 with section 3 and the first such line": r is that refusal. By a lone text it comes before 13, whatever is asked; a sheet that is
-- sound but for its byuid text is refused by it in each call
pub record RetiredRefused : Type 0 where
  pub lone_refused : (text : List ℕ) (r : Refusal) → length text ≤ 8192 → byuid_fault text ≡ Some r
      → (mark port kind high low uid : ℕ) → gate_byuid text mark port kind high low uid ≡ refusal_answer r
  pub packing_refused : (ts : Texts) (r : Refusal) (out : List ℕ) → (gate_pack (without_byuid ts) out).answer.number ≡ 0 → length ts.byuid ≤ 8192
      → byuid_fault ts.byuid ≡ Some r → (room : List ℕ) → ((gate_pack ts room).answer ≡ refused_written r) × ((gate_pack ts room).out ≡ room)
  pub check_refused : (ts : Texts) (r : Refusal) (out : List ℕ) → (gate_pack (without_byuid ts) out).answer.number ≡ 0 → length ts.byuid ≤ 8192
      → byuid_fault ts.byuid ≡ Some r → gate_check (sheet_of ts) ≡ refused_check r
  pub verdict_refused : (ts : Texts) (r : Refusal) (out : List ℕ) → (gate_pack (without_byuid ts) out).answer.number ≡ 0 → length ts.byuid ≤ 8192
      → byuid_fault ts.byuid ≡ Some r → (n : RequestNumbers) → gate_sheet_verdict (sheet_of ts) n ≡ refusal_answer r
  pub byuid_refused : (ts : Texts) (r : Refusal) (out : List ℕ) → (gate_pack (without_byuid ts) out).answer.number ≡ 0 → length ts.byuid ≤ 8192
      → byuid_fault ts.byuid ≡ Some r → (port kind high low uid : ℕ) → gate_sheet_byuid (sheet_of ts) port kind high low uid ≡ refusal_answer r

-- of a text that gate_convert has converted
pub record Converted : Type 0 where
  -- "refuses by 2, then 14", and for nothing else
  pub converts : (text out : List ℕ) → length text ≤ 8192 → length text ≤ length out → (gate_convert text out).answer ≡ count_written (length text)
  -- "in as many bytes"
  pub as_many : (text out : List ℕ) → (gate_convert text out).answer.number ≡ 0 → length (front (gate_convert text out)) ≡ length text
  -- no call is refused by 22 for it
  pub not_retired : (text out : List ℕ) → (gate_convert text out).answer.number ≡ 0 → byuid_fault (front (gate_convert text out)) ≡ None
  -- "which grants the same": to every uid, address and port, from the plain and from the marked file, the answer before this request
  pub grants_the_same : (text out : List ℕ) → (gate_convert text out).answer.number ≡ 0 → (mark port kind high low uid : ℕ)
      → gate_byuid (front (gate_convert text out)) mark port kind high low uid ≡ byuid_answer (decided_before text (byuid_file_bind mark port kind high low uid))
  -- "rewrites just those lines .., and leaves every other byte"
  pub same_lines : (text out : List ℕ) → (gate_convert text out).answer.number ≡ 0
      → split "\n" (front (gate_convert text out)) ≡ map convert_line (split "\n" text)
  pub others_stay : (l : List ℕ) → is_retired l ≡ false → convert_line l ≡ l
  pub unchanged : (text out : List ℕ) → (gate_convert text out).answer.number ≡ 0 → byuid_fault text ≡ None → front (gate_convert text out) ≡ text
  pub again : (text out room : List ℕ) → (gate_convert text out).answer.number ≡ 0 → (gate_convert (front (gate_convert text out)) room).answer.number ≡ 0
      → front (gate_convert (front (gate_convert text out)) room) ≡ front (gate_convert text out)
  -- "A refusal .. writes nothing"
  pub refused_writes_nothing : (text out : List ℕ) → ((gate_convert text out).answer.number ≡ 0 → ⊥) → (gate_convert text out).out ≡ out

-- the papers' numbers
abbrev pub RefusalNumbers : Type 0
RefusalNumbers = (r : Refusal) → in_range 1 22 (refusal_answer r).number ≡ true
