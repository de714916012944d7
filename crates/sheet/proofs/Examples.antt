-- Examples, computed from the definitions: a definition that answers otherwise is refused here.
-- Assumes nothing.
use Rattle.std.specs.Prelude.{Err, Ok}
use Prim.Native.Nat.{ℕ}
use mathlib.Core.List.{List, [], ◌∷◌, ◌++◌}
use mathlib.Core.Path.{◌≡◌, refl}
use lib.ListN.{replicate}
use Rattle.text.specs.Text.{bytes}
use Rattle.text.specs.Number.{from_digits}
use Rattle.section.specs.declared.Fault.TheVariants as F
use Rattle.section.specs.Refusal.{refusal, placeless}
use Rattle.tables.specs.Table.{after_count, read_table, read_each, read_tables, tables_frame}
use Rattle.sheet.specs.Sheet.{Texts, texts, texts_fault, section_at, frame, unpack, pack, four_frame, upgrade}

abbrev zeros : ℕ → List ℕ
zeros n = replicate n 0

-- a sheet whose allow text is the line `x` without a newline (4), and what stands in section five
abbrev unended : List ℕ → List ℕ
unended t = 0 ∷ 0 ∷ 0 ∷ 1 ∷ bytes "x" ++ zeros 12 ++ t

-- five texts: a line that is not ended, and tables
abbrev unended_texts : List ℕ → Texts
unended_texts t = texts (bytes "x") [] [] [] t

pub record Examples : Type 0 where
  -- "P11 reads 18, 17 and 19"; a cut is at the section that is cut
  pub cut_in_portacl : unpack (zeros 15) ≡ Err (refusal F.CutShort 4 0)
  pub no_section_five : unpack (zeros 16) ≡ Err (refusal F.CutShort 5 0)
  pub half_a_count : unpack (zeros 17) ≡ Err (refusal F.CutShort 5 0)
  pub a_byte_after : unpack (zeros 19) ≡ Err (placeless F.TrailingBytes)
  -- "a cut in section five is 1, before 3", and both before the lines
  pub cut_before_lines : unpack (unended []) ≡ Err (refusal F.CutShort 5 0)
  pub cut_table_before_lines : unpack (unended (0 ∷ 1 ∷ 1 ∷ bytes "a")) ≡ Err (refusal F.CutShort 5 0)
  pub trailing_before_lines : unpack (unended (zeros 3)) ≡ Err (placeless F.TrailingBytes)
  -- "checked as in a sheet": the fifth text handed in, and the limits of the others before it
  pub pack_cut : pack (unended_texts []) 100 ≡ Err (refusal F.CutShort 5 0)
  pub pack_trailing : pack (unended_texts (zeros 3)) 0 ≡ Err (placeless F.TrailingBytes)
  pub pack_limit_before_cut : pack (texts [] [] [] (replicate 4097 0) []) 0 ≡ Err (refusal F.OverLimit 4 0)
  -- "a small program appends the two zero bytes of an empty count"; lines need not be sound
  pub upgraded_empty : upgrade (zeros 16) 18 ≡ Ok (zeros 18)
  pub upgraded_unsound : upgrade (unended []) 19 ≡ Ok (unended (zeros 2))
  pub upgrade_without_room : upgrade (zeros 16) 17 ≡ Err (placeless F.NoRoom)
  pub upgrade_cut : upgrade (zeros 15) 100 ≡ Err (refusal F.CutShort 4 0)
  pub upgrade_of_five : upgrade (zeros 18) 100 ≡ Err (placeless F.TrailingBytes)

pub examples : Examples
unfolding texts_fault section_at frame unpack pack four_frame upgrade tables_frame read_tables read_each read_table after_count from_digits
examples = record {
  cut_in_portacl = refl;
  no_section_five = refl;
  half_a_count = refl;
  a_byte_after = refl;
  cut_before_lines = refl;
  cut_table_before_lines = refl;
  trailing_before_lines = refl;
  pack_cut = refl;
  pack_trailing = refl;
  pack_limit_before_cut = refl;
  upgraded_empty = refl;
  upgraded_unsound = refl;
  upgrade_without_room = refl;
  upgrade_cut = refl;
  upgrade_of_five = refl;
}
