-- Examples, computed from the definitions: a definition that answers otherwise is refused here.
-- Assumes nothing.
use Rattle.std.specs.Prelude.{None, Some}
use Prim.Native.Nat.{ℕ}
use Prim.Native.Char.{code}
use Prim.Native.String.{String}
use mathlib.Core.Bool.{true, false, not}
use mathlib.Core.List.{List, [], ◌∷◌}
use mathlib.Core.Path.{◌≡◌, refl}
use lib.ListN.{take, replicate}
use Rattle.text.specs.Basics.{holds, is_some, any, all, is_empty, first, each}
use Rattle.text.specs.Text.{bytes, equal, split_once, split, lower, equal_fold}
use Rattle.text.specs.Number.{from_digits, numeral, read_decimal}
use Rattle.section.specs.declared.Fault.TheVariants as F
use Rattle.section.specs.Refusal.{refusal, placeless}
use Rattle.address.specs.declared.Addr.TheVariants as A
use Rattle.address.specs.Address.{read_v4, read_group, read_last_group, read_groups, read_compressed, read_v6}
use Rattle.lines.specs.Rule.{non_empty}
use Rattle.patterns.specs.declared.Name.TheVariants as N
use Rattle.patterns.specs.Host.{Endpoint, endpoint}
use Rattle.patterns.specs.Pattern.{wildcard, is_name_byte, domain_pattern, bracket_pattern, leading_fields}
use Rattle.patterns.specs.Pattern.{read_mask, net_mask, dotted_pattern, name_pattern, host_pattern}
use Rattle.tables.specs.Table.{Table, table, after_count, read_table, read_each, read_tables, is_table_name, table_name, table_named, is_missing, patterns}
use Rattle.tables.specs.Table.{pattern_with, in_table, match_of, leads_past, tables_frame, first_table, is_misnamed, table_name_fault, is_bad_pattern, is_unsound}
use Rattle.tables.specs.Table.{bad_table_fault}

abbrev of : String → String → Table
of n t = table (bytes n) (bytes t)

-- a van with a known name
abbrev van : Endpoint
van = endpoint (record { name = N.Known; addr = A.Unknown }) (bytes "van7")

-- a chain of five tables, the last of which holds the van
abbrev chain : List Table
chain = of "a" "x /b" ∷ of "b" "/c" ∷ of "c" "/d" ∷ of "d" "/e" ∷ of "e" "van7" ∷ []

abbrev ring : List Table
ring = of "a" "/b" ∷ of "b" "/a" ∷ []

-- one table, named v, that holds x
abbrev section : List ℕ
section = 0 ∷ 1 ∷ 1 ∷ code "v" ∷ 0 ∷ 0 ∷ 0 ∷ 1 ∷ bytes "x"

pub record Examples : Type 0 where
  -- "its name after a one-byte count .. and its text after a four-byte count"
  pub counted : after_count 1 (2 ∷ bytes "abc") ≡ Some (bytes "ab", bytes "c")
  pub counted_short : after_count 1 (2 ∷ bytes "a") ≡ None
  pub entry_read : read_table (1 ∷ code "v" ∷ 0 ∷ 0 ∷ 0 ∷ 1 ∷ bytes "xy") ≡ Some (of "v" "x", bytes "y")
  -- "a two-byte count of tables, most significant first"
  pub tables_read_lem : read_tables section ≡ Some (of "v" "x" ∷ [], [])
  pub tables_many : tables_frame (1 ∷ 0 ∷ []) ≡ Some (refusal F.CutShort 5 0)
  -- "a cut in section five is 1"; "bytes after its last table are 3"; "the two zero bytes of an empty count"
  pub frame_cut : tables_frame (take 8 section) ≡ Some (refusal F.CutShort 5 0)
  pub frame_trailing : tables_frame (0 ∷ section) ≡ Some (placeless F.TrailingBytes)
  pub frame_empty : tables_frame (0 ∷ 0 ∷ []) ≡ None
  -- "1 to 64 bytes, of those that pattern names may use"
  pub name_longest : is_table_name (replicate 64 (code "v")) ≡ true
  pub name_longer : is_table_name (replicate 65 (code "v")) ≡ false
  pub name_empty : is_table_name [] ≡ false
  pub name_byte : is_table_name (bytes "v@n") ≡ false
  pub name_written_lem : table_name (bytes "/Vans") ≡ Some (bytes "Vans")
  pub name_unsound : table_name (bytes "/v@n") ≡ None
  -- "All comparison ignores ASCII case"
  pub name_in_case : is_missing (of "vans" "x" ∷ []) (bytes "Vans") ≡ false
  pub name_first : table_named (of "v" "x" ∷ of "v" "y" ∷ []) (bytes "v") ≡ Some (of "v" "x")
  -- "parted by spaces, tabs and newlines"
  pub parted : patterns (of "v" "a b\tc\nd,e\r") ≡ (bytes "a" ∷ bytes "b" ∷ bytes "c" ∷ bytes "d,e\r" ∷ [])
  -- "`/name`, tried first of the kinds"
  pub pattern_named : is_some (pattern_with (λ n h. true) (bytes "/12")) ≡ true
  pub pattern_unnamed : is_some (pattern_with (λ n h. true) (bytes "/")) ≡ false
  pub pattern_matches : holds (λ f. f van) (pattern_with (λ n h. equal n (bytes "v")) (bytes "/v")) ≡ true
  -- "a host matches if any pattern in that table matches"
  pub any_matches : in_table (of "v" "x van7 y" ∷ []) 1 (bytes "V") van ≡ true
  pub none_matches : in_table (of "v" "x y" ∷ []) 1 (bytes "v") van ≡ false
  -- "tables may name tables, four deep at most, counted from the rule"
  pub four_match : match_of chain (bytes "b") van ≡ true
  pub five_match : match_of chain (bytes "a") van ≡ false
  pub five_deep : leads_past chain 4 (bytes "a") ≡ true
  pub four_deep_lem : leads_past chain 4 (bytes "b") ≡ false
  pub ring_deep : leads_past ring 4 (bytes "a") ≡ true
  -- "the later's place"
  pub first_number_lem : first_table (λ before t. not (is_empty before)) 1 [] chain ≡ Some 2
  pub given_twice : is_misnamed [] (of "V" "" ∷ []) (of "v" "") ≡ true
  pub named_missing : is_misnamed ring [] (of "c" "x /d") ≡ true
  pub named_well : is_misnamed ring [] (of "c" "x /B") ≡ false
  pub names_refused : table_name_fault (of "v" "x" ∷ of "w" "/V" ∷ of "V" "" ∷ []) ≡ Some (refusal F.TableName 5 3)
  -- "no EXCEPT, no users"
  pub bad_except : is_bad_pattern (bytes "except") ≡ true
  pub bad_user : is_bad_pattern (bytes "x@y") ≡ true
  pub bad_netgroup : is_bad_pattern (bytes "@x") ≡ true
  pub bad_comma : is_bad_pattern (bytes "a,b") ≡ true
  pub bad_name : is_bad_pattern (bytes "/v@n") ≡ true
  pub good_wildcard : is_bad_pattern (bytes "ALL") ≡ false
  pub unsound_name : is_unsound (of "" "x") ≡ true
  pub unsound_pattern : is_unsound (of "v" "x y@z") ≡ true
  pub sound_empty : is_unsound (of "v" "") ≡ false
  -- "0 for the limits of 64 tables and of the whole section"
  pub tables_64 : bad_table_fault (0 ∷ 64 ∷ replicate 320 0) ≡ Some (refusal F.BadTable 5 1)
  pub tables_65 : bad_table_fault (0 ∷ 65 ∷ replicate 325 0) ≡ Some (refusal F.BadTable 5 0)
  pub bytes_12288 : bad_table_fault (replicate 12288 0) ≡ None
  pub bytes_12289 : bad_table_fault (replicate 12289 0) ≡ Some (refusal F.BadTable 5 0)

pub examples : Examples
unfolding any all first each equal split_once split lower equal_fold from_digits numeral read_decimal non_empty
    read_v4 read_group read_last_group read_groups read_compressed read_v6
    wildcard is_name_byte domain_pattern bracket_pattern leading_fields read_mask net_mask dotted_pattern name_pattern host_pattern
    after_count read_table read_each read_tables is_table_name table_name table_named patterns pattern_with in_table leads_past
    tables_frame first_table is_misnamed table_name_fault is_bad_pattern is_unsound bad_table_fault
examples = record {
  counted = refl;
  counted_short = refl;
  entry_read = refl;
  tables_read_lem = refl;
  tables_many = refl;
  frame_cut = refl;
  frame_trailing = refl;
  frame_empty = refl;
  name_longest = refl;
  name_longer = refl;
  name_empty = refl;
  name_byte = refl;
  name_written_lem = refl;
  name_unsound = refl;
  name_in_case = refl;
  name_first = refl;
  parted = refl;
  pattern_named = refl;
  pattern_unnamed = refl;
  pattern_matches = refl;
  any_matches = refl;
  none_matches = refl;
  four_match = refl;
  five_match = refl;
  five_deep = refl;
  four_deep_lem = refl;
  ring_deep = refl;
  first_number_lem = refl;
  given_twice = refl;
  named_missing = refl;
  named_well = refl;
  names_refused = refl;
  bad_except = refl;
  bad_user = refl;
  bad_netgroup = refl;
  bad_comma = refl;
  bad_name = refl;
  good_wildcard = refl;
  unsound_name = refl;
  unsound_pattern = refl;
  sound_empty = refl;
  tables_64 = refl;
  tables_65 = refl;
  bytes_12288 = refl;
  bytes_12289 = refl;
}
