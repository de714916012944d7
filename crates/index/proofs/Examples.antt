-- The example of docs/FORMATS.md, and edges of the forms.
-- Assumes nothing.
use Rattle.std.specs.Prelude.{None, Some}
use Prim.Native.Nat.{ℕ}
use mathlib.Core.List.{List, [], ◌∷◌, ◌++◌}
use mathlib.Core.Path.{◌≡◌, refl}
use Rattle.text.specs.Basics.{any, all}
use Rattle.text.specs.Text.{bytes, split}
use Rattle.text.specs.Number.{from_digits, to_digits}
use Rattle.section.specs.Section.{part}
use Rattle.lines.specs.Line.{join, logical_lines, lines}
use Rattle.lines.specs.Rule.{split_separator}
use Rattle.sheet.specs.declared.Parts.{Parts}
use Rattle.codes.specs.Requests.{host_numbers, request_numbers}
use Rattle.index.specs.declared.Entry.{Entry}
use Rattle.index.specs.Index.{range, rule_entry, rule_table, two_bytes, entry_bytes, table_bytes, index_bytes, read_text, read_host, read_request, parted}
use Rattle.index.specs.Index.{read_requests}

abbrev number : ℕ → List ℕ
number n = 0 ∷ 0 ∷ 0 ∷ n ∷ []

abbrev sheet : List ℕ
sheet = number 13 ++ bytes "in.ftpd: 10.\n" ++ number 9 ++ bytes "ALL: ALL\n" ++ number 0 ++ number 0 ++ (0 ∷ 0 ∷ [])

abbrev parts : Parts
parts = record { allow = part 4 13; deny = part 21 9; byuid = part 34 0; portacl = part 38 0; tables = part 38 2 }

abbrev zeros : List ℕ
zeros = number 0 ++ number 0

abbrev asked : List ℕ
asked = (7 ∷ bytes "in.ftpd") ++ (0 ∷ 4 ∷ []) ++ zeros ++ number 0 ++ (10 ∷ 1 ∷ 2 ∷ 3 ∷ 0 ∷ []) ++ (0 ∷ 0 ∷ []) ++ zeros ++ zeros ++ (0 ∷ 1 ∷ 0 ∷ [])

abbrev entry : ℕ → ℕ → ℕ → ℕ → ℕ → ℕ → Entry
entry first last a b c d = record { lines = range first last; rule = range a b; daemons = range a c; clients = range d b }

pub record Table : Type 0 where
  pub example : index_bytes sheet parts
      ≡ number 1 ++ number 1 ++ number 1 ++ number 1 ++ number 4 ++ number 16 ++ number 4 ++ number 11 ++ number 12 ++ number 16
      ++ number 1 ++ number 1 ++ number 21 ++ number 29 ++ number 21 ++ number 24 ++ number 25 ++ number 29
  pub skipped : rule_table 4 (lines (bytes "# x: y\n \na: b\n")) ≡ entry 3 3 13 17 14 15 ∷ []
  pub continued : rule_table 4 (lines (bytes "a: \\\nb\nc:d\n")) ≡ entry 1 2 4 10 5 6 ∷ entry 3 3 11 14 12 13 ∷ []
  pub with_command : rule_table 0 (lines (bytes "a:b:c\n"))
      ≡ record { lines = range 1 1; rule = range 0 5; daemons = range 0 1; clients = range 2 3 } ∷ []
  pub request : read_requests asked
      ≡ Some (request_numbers (bytes "in.ftpd") (host_numbers 0 4 0 167838211) [] (host_numbers 0 0 0 0) [] 1 [] ∷ [])
  pub none_asked : read_requests [] ≡ Some []
  pub cut_short : read_requests (3 ∷ bytes "in") ≡ None

pub table : Table
unfolding index_bytes table_bytes entry_bytes two_bytes to_digits from_digits rule_table rule_entry lines logical_lines split split_separator join any all read_text
    read_host read_request parted read_requests
table = record { example = refl; skipped = refl; continued = refl; with_command = refl; request = refl; none_asked = refl; cut_short = refl }
