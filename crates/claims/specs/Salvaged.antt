-- Document 02, request 9: what gate_salvage makes of a damaged sheet, and what it lists.
-- Assumes nothing: these are statements.
use Rattle.std.specs.Prelude.{ℕ, ◌≤◌, true, ◌&&◌, List, [], map, ◌≡◌, length, take, ltb, eqb, Ok}
use Rattle.text.specs.Basics.{when◌then◌else◌, any, all}
use Rattle.text.specs.Text.{bytes}
use Rattle.lines.specs.Line.{Line, lines}
use Rattle.tables.specs.Table.{tables_of}
use Rattle.sheet.specs.declared.Parts.{Parts}
use Rattle.sheet.specs.Sheet.{Texts, texts_at, frame}
use Rattle.salvage.specs.Salvage.{bad_line, salvage_hosts, changes, list_bytes}
use Rattle.salvage.specs.Listed.{lists}
use Rattle.codes.specs.declared.GateAnswer.{GateAnswer}
use Rattle.codes.specs.Requests.{RequestNumbers}
use Rattle.codes.specs.Answers.{granted, accepted, count_two}
use Rattle.gate.specs.Calls.{WroteTwo, gate_tables_verdict, gate_sheet_verdict, gate_check, gate_salvage}

-- the new sheet and the list, as far as they were written
abbrev pub new_sheet : WroteTwo → List ℕ
new_sheet w = take w.answer.count w.out

abbrev pub changes_listed : WroteTwo → List ℕ
changes_listed w = take w.answer.other_count w.other

-- a sheet comes back as it is, and nothing is listed
pub record Unchanged (sheet out list : List ℕ) : Type 0 where
  pub nothing_listed : (gate_salvage sheet out list).answer ≡ count_two (length sheet) 0
  pub same_bytes : new_sheet (gate_salvage sheet out list) ≡ sheet

-- what stands in a file, line by line: a bad one is replaced, every other one has the bytes that it had
abbrev pub raw_lines : List ℕ → List (List ℕ)
raw_lines t = map (λ (l : Line). l.raw) (lines t)

abbrev pub replaced : List ℕ → List ℕ → List ℕ → List (List ℕ)
replaced five instead t = map (λ (l : Line). when bad_line (tables_of five) l then instead else l.raw) (lines t)

-- the texts ts of a damaged sheet, and what was made of them
pub record Mended (ts : Texts) (new list : List ℕ) : Type 0 where
  pub made_parts : Parts
  pub made_framed : frame new ≡ Ok made_parts
  -- "each bad logical line of allow into nothing and each bad one of deny into `ALL: ALL`", "and leaves every other byte and its order"
  pub allow_lines : raw_lines (texts_at new made_parts).allow ≡ replaced ts.tables [] ts.allow
  pub deny_lines : raw_lines (texts_at new made_parts).deny ≡ replaced ts.tables (bytes "ALL: ALL") ts.deny
  pub tables_stay : (texts_at new made_parts).tables ≡ ts.tables
  -- "It lists section and line of each change, as the damaged sheet numbers them and in its order, and lists nothing else."
  pub all_listed : list ≡ list_bytes (changes ts)
  -- so a line of either file is listed just where it is bad
  pub allow_listed : (n : ℕ) → lists (changes ts) 1 n ≡ any (λ (l : Line). bad_line (tables_of ts.tables) l && eqb l.number n) (lines ts.allow)
  pub deny_listed : (n : ℕ) → lists (changes ts) 2 n ≡ any (λ (l : Line). bad_line (tables_of ts.tables) l && eqb l.number n) (lines ts.deny)

-- the verdict by the good lines of both files alone, each bad one made empty
abbrev pub good_text : List ℕ → List ℕ → List ℕ
good_text five t = salvage_hosts (bad_line (tables_of five)) [] t

abbrev pub good_verdict : Texts → RequestNumbers → GateAnswer
good_verdict ts n = gate_tables_verdict (good_text ts.tables ts.allow) (good_text ts.tables ts.deny) ts.tables n

pub record SalvagedSheets : Type 0 where
  -- "The outcome is an accepted sheet,"
  pub salvaged_accepted : (sheet out list : List ℕ) → (gate_salvage sheet out list).answer.number ≡ 0
      → gate_check (new_sheet (gate_salvage sheet out list)) ≡ accepted
  -- "and salvaging it again changes nothing."
  pub salvaged_again : (sheet out list other-out other_list : List ℕ) → (gate_salvage sheet out list).answer.number ≡ 0
      → (gate_salvage sheet out list).answer.count ≤ length other-out
      → Unchanged (new_sheet (gate_salvage sheet out list)) other-out other_list
  -- so an accepted sheet comes back as it is
  pub sound_unchanged : (sheet out list : List ℕ) → all (λ b. ltb b 256) sheet ≡ true → gate_check sheet ≡ accepted → length sheet ≤ length out
      → Unchanged sheet out list
  pub salvaged_lines : (sheet out list : List ℕ) → (gate_salvage sheet out list).answer.number ≡ 0
      → (p : Parts) × (frame sheet ≡ Ok p)
      × Mended (texts_at sheet p) (new_sheet (gate_salvage sheet out list)) (changes_listed (gate_salvage sheet out list))
  -- a bad line of allow only vanishes, and one of deny only denies: whom the new sheet grants, the damaged one's good lines grant
  pub grants_no_more : (sheet out list : List ℕ) (n : RequestNumbers) → (gate_salvage sheet out list).answer.number ≡ 0
      → (gate_sheet_verdict (new_sheet (gate_salvage sheet out list)) n).word ≡ granted.number
      → (p : Parts) × (frame sheet ≡ Ok p) × ((good_verdict (texts_at sheet p) n).word ≡ granted.number)
