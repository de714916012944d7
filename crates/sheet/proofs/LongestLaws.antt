-- A sheet of 57,360 bytes is accepted: blank lines alone in three texts, a list of 341 entries, and one table whose name is
-- one byte and whose text is 12,280 spaces. Its checks are computed.
--   reached == it is accepted, and so long
-- Assumes nothing.
use Rattle.std.specs.Prelude.{None, Ok}
use Prim.Native.Char.{code}
use native.Mathlib.Omega.{arith}
use mathlib.Core.Bool.{true}
use mathlib.Core.List.{[], ◌∷◌, ◌++◌}
use mathlib.Core.Path.{◌≡◌, refl}
use lib.ListN.{length, replicate}
use lib.Dec.{ltb}
use Rattle.text.specs.Basics.{any, all, first}
use Rattle.text.specs.Text.{bytes, equal, split, split_once, intercalate}
use Rattle.text.specs.Number.{from_digits, to_digits, numeral, read_decimal}
use Rattle.section.specs.Refusal.{lowest}
use Rattle.lines.specs.Line.{join, logical_lines, lines, has_bad_byte}
use Rattle.lines.specs.Rule.{non_empty}
use Rattle.patterns.specs.Pattern.{is_name_byte}
use Rattle.tables.specs.Table.{after_count, read_table, read_each, read_tables, is_table_name, table_named, patterns, tables_frame, first_table, is_misnamed}
use Rattle.tables.specs.Table.{table_name_fault, is_unsound, bad_table_fault}
use Rattle.rules.specs.Check.{line_fault_by, hosts_fault, line_names, naming_fault, tables_fault}
use Rattle.byuid.specs.Byuid.{read_colon_form, is_retired, retired_fault, byuid_fault}
use Rattle.portacl.specs.Portacl.{read_entry, entries, entry_fault, portacl_fault}
use Rattle.sheet.specs.Sheet.{Texts, texts_fault, unpack, counted, sheet_of}
use Rattle.sheet.proofs.FrameLaws.{parts_of, answered_pack}
use Rattle.sheet.proofs.SheetLaws.{unpack_pack}

abbrev pub longest : Texts
longest = record {
  allow = replicate 16384 (code "\n");
  deny = replicate 16384 (code "\n");
  byuid = replicate 8192 (code "\n");
  portacl = intercalate (bytes ",") (replicate 340 (bytes "uid:0:tcp:0") ++ (bytes "uid:10:tcp:65535" ∷ []));
  tables = 0 ∷ 1 ∷ 1 ∷ code "a" ∷ counted (replicate 12280 (code " "));
}

pub longest_sound : texts_fault longest ≡ None
unfolding
    texts_fault hosts_fault line_fault_by lowest lines logical_lines join has_bad_byte
    portacl_fault entry_fault entries read_entry read_decimal numeral from_digits split split_once equal intercalate
    tables_frame read_tables read_each read_table after_count to_digits
    tables_fault naming_fault line_names table_name_fault bad_table_fault first_table is_misnamed is_unsound is_table_name is_name_byte table_named patterns non_empty
    byuid_fault retired_fault is_retired read_colon_form
    first any all
longest_sound = refl

pub longest_bytes : all (λ b. ltb b 256) (sheet_of longest) ≡ true
unfolding sheet_of to_digits intercalate all
longest_bytes = refl

pub longest_length : length (sheet_of longest) ≡ 57360
unfolding sheet_of to_digits intercalate
longest_length = refl

pub reached : unpack (sheet_of longest) ≡ Ok (parts_of longest)
reached = (unpack_pack longest 57360 (sheet_of longest) (answered_pack longest 57360 longest_sound (omega (arith, longest_length)))).0
