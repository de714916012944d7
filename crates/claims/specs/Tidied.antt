-- Document 02, request 6: the lines that gate_propose proposes to drop, and the file that gate_drop makes by a proposal that it accepts.
-- Assumes nothing: these are statements.
use Rattle.std.specs.Prelude.{ℕ, suc, ◌+◌, ◌≤◌, true, false, ◌&&◌, ◌≡◌, length, take, eqb}
use mathlib.Core.List.{List, [], ◌∷◌, map, flat_map}
use Rattle.text.specs.Basics.{when◌then◌else◌, is_some, any, all}
use Rattle.section.specs.Section as S
use Rattle.section.specs.Section.{part, bytes_at}
use Rattle.lines.specs.Line.{Line, lines}
use Rattle.lines.specs.Rewrite.{line_bytes}
use Rattle.tidy.specs.Tidy.{rule_of, named, removed_above, numbers_of}
use Rattle.sheet.specs.Sheet.{Texts, texts}
use Rattle.codes.specs.declared.GateAnswer.{GateAnswer}
use Rattle.codes.specs.Requests.{RequestNumbers}
use Rattle.codes.specs.Answers.{count_written}
use Rattle.gate.specs.Calls.{Wrote, gate_verdict, gate_tables_verdict, gate_sheet_verdict, gate_pack, gate_propose, gate_drop}

-- what a call has written at the front of its output
abbrev pub front : Wrote → List ℕ
front w = take w.answer.count w.out

-- the lines that gate_propose proposes, and the file that gate_drop wrote
abbrev pub proposed : List ℕ → List ℕ → ℕ → List ℕ → List ℕ
proposed text tables section out = numbers_of (front (gate_propose text tables section out))

abbrev pub new_file : List ℕ → List ℕ → ℕ → List ℕ → List ℕ → List ℕ
new_file text tables section proposal out = front (gate_drop text tables section proposal out)

-- the call is answered, so the proposal is accepted
abbrev pub Proposes : List ℕ → List ℕ → ℕ → List ℕ → Type 0
Proposes text tables section out = (gate_propose text tables section out).answer.number ≡ 0

abbrev pub Drops : List ℕ → List ℕ → ℕ → List ℕ → List ℕ → Type 0
Drops text tables section proposal out = (gate_drop text tables section proposal out).answer.number ≡ 0

-- numbers, each above the one before it, from k on
unfoldable pub Ascend : ℕ → List ℕ → Type 0
Ascend k [] = Unit {0}
Ascend k (n ∷ ns) = (k ≤ n) × Ascend (suc n) ns

-- no number stands twice
unfoldable pub Distinct : List ℕ → Type 0
Distinct [] = Unit {0}
Distinct (n ∷ ns) = (any (eqb n) ns ≡ false) × Distinct ns

abbrev pub Within : List ℕ → List ℕ → Type 0
Within ns ms = (n : ℕ) → any (eqb n) ns ≡ true → any (eqb n) ms ≡ true

-- "as many lines to drop as can be accepted, in order"
pub record TidyProposals : Type 0 where
  pub in_order_lem : (text tables : List ℕ) (section : ℕ) (out : List ℕ) → Proposes text tables section out → Ascend 1 (proposed text tables section out)
  -- what is proposed can be accepted: there is room, as the new file is no longer than the old one
  pub proposed_accepted : (text tables : List ℕ) (section : ℕ) (out room : List ℕ) → Proposes text tables section out → length text ≤ length room
      → Drops text tables section (front (gate_propose text tables section out)) room
  -- a proposal that is accepted names no other line, so one that names each line once is no longer
  pub names_no_other : (text tables : List ℕ) (section : ℕ) (out proposal room : List ℕ) → Proposes text tables section out
      → Drops text tables section proposal room → Within (numbers_of proposal) (proposed text tables section out)
  pub none_longer : (text tables : List ℕ) (section : ℕ) (out proposal room : List ℕ) → Proposes text tables section out
      → Drops text tables section proposal room → Distinct (numbers_of proposal)
      → length (numbers_of proposal) ≤ length (proposed text tables section out)

-- the bytes of each line, its newline too; and of the lines that ns do not name
abbrev pub all_lines : List ℕ → List (List ℕ)
all_lines t = map line_bytes (lines t)

abbrev pub other_lines : List ℕ → List ℕ → List (List ℕ)
other_lines ns t = flat_map (λ l. when named ns l then [] else line_bytes l ∷ []) (lines t)

-- "a new file with only those rules gone"
pub record TidiedFiles : Type 0 where
  pub rules_go : (text tables : List ℕ) (section : ℕ) (proposal out : List ℕ) → Drops text tables section proposal out
      → all (λ n. any (λ l. eqb l.number n && is_some (rule_of l)) (lines text)) (numbers_of proposal) ≡ true
  -- the other lines stay, with the same bytes and in the same order
  pub others_stay : (text tables : List ℕ) (section : ℕ) (proposal out : List ℕ) → Drops text tables section proposal out
      → all_lines (new_file text tables section proposal out) ≡ other_lines (numbers_of proposal) text
  pub no_longer : (text tables : List ℕ) (section : ℕ) (proposal out : List ℕ) → Drops text tables section proposal out
      → length (new_file text tables section proposal out) ≤ length text
  -- it passes the checks that the old file passed, with the same tables: where nothing is dropped it comes back, given room
  pub new_accepted : (text tables : List ℕ) (section : ℕ) (proposal out room : List ℕ) → Drops text tables section proposal out
      → length (new_file text tables section proposal out) ≤ length room
      → Drops (new_file text tables section proposal out) tables section [] room
      × (new_file (new_file text tables section proposal out) tables section [] room ≡ new_file text tables section proposal out)
  -- tidying it again proposes nothing
  pub nothing_again : (text tables : List ℕ) (section : ℕ) (out room other : List ℕ) → Proposes text tables section out
      → Drops text tables section (front (gate_propose text tables section out)) room
      → (gate_propose (new_file text tables section (front (gate_propose text tables section out)) room) tables section other).answer ≡ count_written 0

-- an answer, and the bytes of its raw command: in the text that decided, and in a sheet
pub record Said : Type 0 where
  pub answer : GateAnswer
  pub command : List ℕ

abbrev pub found_in_texts : List ℕ → List ℕ → GateAnswer → Said
found_in_texts allow deny a = record { answer = a; command = bytes_at (when eqb a.file (S.deny).order then deny else allow) (part a.place a.len) }

abbrev pub found_in_sheet : List ℕ → GateAnswer → Said
found_in_sheet sheet a = record { answer = a; command = bytes_at sheet (part a.place a.len) }

-- by two texts, by these and a section five, and by a sheet
abbrev pub by_two_texts : List ℕ → List ℕ → RequestNumbers → Said
by_two_texts allow deny n = found_in_texts allow deny (gate_verdict allow deny n)

abbrev pub by_texts : List ℕ → List ℕ → List ℕ → RequestNumbers → Said
by_texts allow deny tables n = found_in_texts allow deny (gate_tables_verdict allow deny tables n)

abbrev pub by_sheet : List ℕ → RequestNumbers → Said
by_sheet sheet n = found_in_sheet sheet (gate_sheet_verdict sheet n)

-- a section five without tables
abbrev pub no_tables : List ℕ
no_tables = 0 ∷ 0 ∷ []

-- how many physical lines of the text of a section were removed above the line of an answer, where that file decides
abbrev pub removed : ℕ → List ℕ → List ℕ → GateAnswer → ℕ
removed section text ns a = when eqb a.file section then removed_above ns a.line (lines text) else 0

-- "Every request then gets the same verdict or ask, file and command bytes; the line moves by the lines removed above it." A refusal is of
-- the other file, or of the request, and stays as it is
pub record SameVerdict (section : ℕ) (text ns : List ℕ) (old new : Said) : Type 0 where
  pub same_refusal : (old.answer.number ≡ 0 → ⊥) → new.answer ≡ old.answer
  pub same_number : new.answer.number ≡ old.answer.number
  pub same_word : new.answer.word ≡ old.answer.word
  pub same_file : new.answer.file ≡ old.answer.file
  pub same_command : new.command ≡ old.command
  pub line_moves : new.answer.line + removed section text ns old.answer ≡ old.answer.line

abbrev pub with_allow : Texts → List ℕ → Texts
with_allow ts t = texts t ts.deny ts.byuid ts.portacl ts.tables

abbrev pub with_deny : Texts → List ℕ → Texts
with_deny ts t = texts ts.allow t ts.byuid ts.portacl ts.tables

-- for every request, where the file is that of allow, section 1, or of deny, section 2
pub record TidiedVerdicts : Type 0 where
  pub allow_by_texts : (allow deny tables proposal out : List ℕ) (n : RequestNumbers) → Drops allow tables 1 proposal out
      → SameVerdict 1 allow (numbers_of proposal) (by_texts allow deny tables n) (by_texts (new_file allow tables 1 proposal out) deny tables n)
  pub deny_by_texts : (allow deny tables proposal out : List ℕ) (n : RequestNumbers) → Drops deny tables 2 proposal out
      → SameVerdict 2 deny (numbers_of proposal) (by_texts allow deny tables n) (by_texts allow (new_file deny tables 2 proposal out) tables n)
  pub allow_by_two_texts : (allow deny proposal out : List ℕ) (n : RequestNumbers) → Drops allow no_tables 1 proposal out
      → SameVerdict 1 allow (numbers_of proposal) (by_two_texts allow deny n) (by_two_texts (new_file allow no_tables 1 proposal out) deny n)
  pub deny_by_two_texts : (allow deny proposal out : List ℕ) (n : RequestNumbers) → Drops deny no_tables 2 proposal out
      → SameVerdict 2 deny (numbers_of proposal) (by_two_texts allow deny n) (by_two_texts allow (new_file deny no_tables 2 proposal out) n)
  -- and of a sheet: that of the new texts can be packed in the room that the old one took
  pub allow_packs : (ts : Texts) (proposal out room other : List ℕ) → Drops ts.allow ts.tables 1 proposal out
      → (gate_pack ts room).answer.number ≡ 0 → (gate_pack ts room).answer.count ≤ length other
      → (gate_pack (with_allow ts (new_file ts.allow ts.tables 1 proposal out)) other).answer.number ≡ 0
  pub deny_packs : (ts : Texts) (proposal out room other : List ℕ) → Drops ts.deny ts.tables 2 proposal out
      → (gate_pack ts room).answer.number ≡ 0 → (gate_pack ts room).answer.count ≤ length other
      → (gate_pack (with_deny ts (new_file ts.deny ts.tables 2 proposal out)) other).answer.number ≡ 0
  pub allow_by_sheet : (ts : Texts) (proposal out room other : List ℕ) (n : RequestNumbers) → Drops ts.allow ts.tables 1 proposal out
      → (gate_pack ts room).answer.number ≡ 0 → (gate_pack (with_allow ts (new_file ts.allow ts.tables 1 proposal out)) other).answer.number ≡ 0
      → SameVerdict 1 ts.allow (numbers_of proposal) (by_sheet (front (gate_pack ts room)) n)
      (by_sheet (front (gate_pack (with_allow ts (new_file ts.allow ts.tables 1 proposal out)) other)) n)
  pub deny_by_sheet : (ts : Texts) (proposal out room other : List ℕ) (n : RequestNumbers) → Drops ts.deny ts.tables 2 proposal out
      → (gate_pack ts room).answer.number ≡ 0 → (gate_pack (with_deny ts (new_file ts.deny ts.tables 2 proposal out)) other).answer.number ≡ 0
      → SameVerdict 2 ts.deny (numbers_of proposal) (by_sheet (front (gate_pack ts room)) n)
      (by_sheet (front (gate_pack (with_deny ts (new_file ts.deny ts.tables 2 proposal out)) other)) n)
