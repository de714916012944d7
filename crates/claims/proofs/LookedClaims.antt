-- Document 02, request 12: the bound, of the numbers that the calls answer, and the number of a refusal.
-- Assumes nothing.
use Rattle.std.specs.Prelude.{Err, None, Ok, Option, Some}
use Prim.Native.Nat.{ℕ, ◌+◌, ◌≤◌}
use mathlib.Core.Bool.{Bool, true, false}
use mathlib.Core.List.{List, []}
use mathlib.Core.Path.{◌≡◌, refl}
use native.Mathlib.Omega.{arith}
use lib.ListN.{length}
use Rattle.text.specs.Basics.{when◌then◌else◌}
use Rattle.section.specs.declared.Fault.TheVariants as F
use Rattle.section.specs.Refusal.{Outcome, placeless}
use Rattle.section.specs.Section.{bytes_at}
use Rattle.elements.specs.Request.{Request, well_formed, held}
use Rattle.elements.proofs.CountLaws.{capped_le}
use Rattle.tables.specs.Table.{Table, tables_of}
use Rattle.tables.specs.Tried.{capped}
use Rattle.rules.specs.declared.Answer.{Answer}
use Rattle.rules.specs.Search.{decide, decide_tables, command_bytes}
use Rattle.rules.specs.Looked.{looked, number_of, looked_over, file_elements}
use Rattle.rules.proofs.LookedLaws.{looked_le}
use Rattle.expansion.specs.Expand.{expand}
use Rattle.sheet.specs.declared.Parts.{Parts}
use Rattle.sheet.specs.Sheet.{unpack}
use Rattle.station.specs.Station.{decide_sheet, looked_sheet}
use Rattle.codes.specs.Requests.{request}
use Rattle.codes.specs.Answers.{Command, together, verdict_answer, command_answer, parts_answer}
use Rattle.claims.specs.Claims.{texts_of, NamesNoTable, LookedBound, RefusalLooksAtNothing}

-- ## The bound

-- what the answer tells is at most what was counted
told_le : (o : Outcome Answer) (n k : ℕ) → n ≤ k → (verdict_answer o n).looked ≤ k
unfolding verdict_answer
told_le (Err f) n k h = omega arith
told_le (Ok a) n k h = h

over_le : (ts : List Table) (allow deny : List ℕ) (o : Option Request) → NamesNoTable allow → NamesNoTable deny
    → looked_over ts allow deny o ≤ file_elements allow + file_elements deny
unfolding looked_over
over_le ts allow deny None a d = omega arith
over_le ts allow deny (Some r) a d =
    by (well_formed r) (looked_le ts allow deny (held r) a d) (capped_le (looked ts allow deny (held r)))
  where
    by : (b : Bool) → looked ts allow deny (held r) ≤ file_elements allow + file_elements deny
        → capped (looked ts allow deny (held r)) ≤ looked ts allow deny (held r)
        → number_of (when b then Ok (capped (looked ts allow deny (held r))) else Err (placeless F.BadRequest)) ≤ file_elements allow + file_elements deny
    by true h g = omega arith
    by false h g = omega arith

sheet_le : (sheet : List ℕ) (o : Option Request) → NamesNoTable (texts_of sheet).allow → NamesNoTable (texts_of sheet).deny
    → looked_sheet sheet o ≤ file_elements (texts_of sheet).allow + file_elements (texts_of sheet).deny
unfolding looked_sheet parts_answer
sheet_le sheet o = by (unpack sheet) refl
  where
    by : (u : Outcome Parts) → unpack sheet ≡ u → NamesNoTable (texts_of sheet).allow → NamesNoTable (texts_of sheet).deny
        → looked_sheet sheet o ≤ file_elements (texts_of sheet).allow + file_elements (texts_of sheet).deny
    by (Err f) e = rw e (λ a d. omega arith)
    by (Ok p) e = rw e (λ a d. over_le (tables_of (bytes_at sheet p.tables)) (bytes_at sheet p.allow) (bytes_at sheet p.deny) o a d)

pub looked_bound : LookedBound
looked_bound = record {
  bound_by_texts = λ allow deny n a d. told_le (decide allow deny (request n)) (looked_over [] allow deny (request n)) (file_elements allow + file_elements deny)
      (over_le [] allow deny (request n) a d);
  bound_by_tables = λ allow deny tables n a d. told_le (decide_tables allow deny tables (request n)) (looked_over (tables_of tables) allow deny (request n))
      (file_elements allow + file_elements deny) (over_le (tables_of tables) allow deny (request n) a d);
  bound_by_sheet = λ sheet n a d. told_le (decide_sheet sheet (request n)) (looked_sheet sheet (request n))
      (file_elements (texts_of sheet).allow + file_elements (texts_of sheet).deny) (sheet_le sheet (request n) a d);
}

-- ## A refusal

none_told : (o : Outcome Answer) (n : ℕ) → ((verdict_answer o n).number ≡ 0 → ⊥) → (verdict_answer o n).looked ≡ 0
unfolding verdict_answer
none_told (Err f) n h = refl
none_told (Ok a) n h = absurd (h refl)

none_commanded : (o : Outcome Command) (n : ℕ) → ((command_answer o n).number ≡ 0 → ⊥) → (command_answer o n).looked ≡ 0
unfolding command_answer
none_commanded (Err f) n h = refl
none_commanded (Ok c) n h = absurd (h refl)

pub refusal_looks_at_nothing : RefusalLooksAtNothing
refusal_looks_at_nothing = record {
  none_by_texts = λ allow deny n. none_told (decide allow deny (request n)) (looked_over [] allow deny (request n));
  none_by_tables = λ allow deny tables n. none_told (decide_tables allow deny tables (request n)) (looked_over (tables_of tables) allow deny (request n));
  none_by_sheet = λ sheet n. none_told (decide_sheet sheet (request n)) (looked_sheet sheet (request n));
  none_commanded = λ allow deny n process out.
      none_commanded (together (decide allow deny (request n)) (λ a. expand (command_bytes allow deny a) (request n) process (length out)))
      (looked_over [] allow deny (request n));
  none_sheet_commanded = λ sheet n process out.
      none_commanded (together (decide_sheet sheet (request n)) (λ a. expand (bytes_at sheet a.command) (request n) process (length out)))
      (looked_sheet sheet (request n));
}
