-- Examples, computed from the definitions: a definition that answers otherwise is refused here.
-- Assumes nothing.
use Rattle.std.specs.Prelude.{Err, Some}
use Prim.Native.Nat.{ℕ}
use mathlib.Core.Bool.{false}
use mathlib.Core.List.{List, [], ◌∷◌}
use mathlib.Core.Path.{◌≡◌, refl}
use Rattle.text.specs.Basics.{any, all, first}
use Rattle.text.specs.Text.{bytes, equal, split_once, split, lower, equal_fold}
use Rattle.text.specs.Number.{from_digits}
use Rattle.section.specs.declared.Fault.TheVariants as F
use Rattle.section.specs.Refusal.{lowest, refusal}
use Rattle.address.specs.declared.Addr.TheVariants as A
use Rattle.lines.specs.Line.{line, join, logical_lines, lines, has_bad_byte}
use Rattle.lines.specs.Rule.{split_separator, non_empty, elements, parse_rule}
use Rattle.patterns.specs.declared.Name.TheVariants as N
use Rattle.patterns.specs.Host.{Endpoint, endpoint}
use Rattle.patterns.specs.Pattern.{is_name_byte}
use Rattle.tables.specs.Table.{after_count, read_table, read_each, read_tables, is_table_name, table_name, table_named, patterns, leads_past}
use Rattle.tables.specs.Table.{first_table, is_misnamed, table_name_fault}
use Rattle.elements.specs.declared.User.TheVariants as U
use Rattle.elements.specs.Request.{Request, request_of, well_formed}
use Rattle.elements.specs.Element.{halves, named_table}
use Rattle.lists.specs.Check.{rule_names}
use Rattle.rules.specs.Check.{line_fault_by, line_fault, hosts_fault, line_names, naming_fault, tables_fault}
use Rattle.rules.specs.Search.{decide}

abbrev unknown : Endpoint
unknown = endpoint (record { name = N.Unknown; addr = A.Unknown }) []

-- a request without a daemon
abbrev unfit : Request
unfit = request_of [] unknown unknown U.Unknown []

-- a section five of one table, named a, which names itself
abbrev endless : List ℕ
endless = 0 ∷ 1 ∷ 1 ∷ 97 ∷ 0 ∷ 0 ∷ 0 ∷ 2 ∷ 47 ∷ 97 ∷ []

pub record Examples : Type 0 where
  -- "within a line the lowest number": the byte 1, and no ending newline
  pub lowest_number : line_fault (line 1 0 (1 ∷ []) false) ≡ Some F.Unended
  -- "then allow, deny ..; then 13": the byte 1 in a line of allow, and a request outside its sizes
  pub request_last : decide (1 ∷ 10 ∷ []) [] (Some unfit) ≡ Err (refusal F.BadByte 1 1)
  -- 16: "a rule that leads more than four deep"
  pub too_deep : tables_fault (bytes "x:/a\n") [] endless ≡ Some (refusal F.TooDeep 1 1)
  -- "these three follow 12 in that order": deny names a table that is missing, allow one that leads too deep
  pub missing_first : tables_fault (bytes "x:/a\n") (bytes "x:/b\n") endless ≡ Some (refusal F.TableName 2 1)

pub examples : Examples
unfolding any all first equal split_once split lower equal_fold from_digits lowest join logical_lines lines has_bad_byte
    split_separator non_empty elements parse_rule is_name_byte halves named_table rule_names
    after_count read_table read_each read_tables is_table_name table_name table_named patterns leads_past first_table is_misnamed table_name_fault
    line_fault_by hosts_fault line_names naming_fault tables_fault well_formed decide
examples = record { lowest_number = refl; request_last = refl; too_deep = refl; missing_first = refl }
