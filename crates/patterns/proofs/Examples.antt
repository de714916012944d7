-- Examples, computed from the definitions: a definition that answers otherwise is refused here.
-- Assumes nothing.
use Prim.Native.String.{String}
use mathlib.Core.Bool.{true, false}
use mathlib.Core.Path.{◌≡◌, refl}
use Rattle.text.specs.Basics.{any, all, first, each}
use Rattle.text.specs.Text.{bytes, equal, split_once, split, lower, equal_fold}
use Rattle.text.specs.Number.{from_digits, numeral, read_decimal}
use Rattle.address.specs.declared.Addr.{Addr}
use Rattle.address.specs.declared.Addr.TheVariants.{Unknown, V4, V6}
use Rattle.address.specs.Address.{same_prefix, read_v4, read_group, read_last_group, read_groups, read_compressed, read_v6}
use Rattle.patterns.specs.declared.Name.TheVariants as N
use Rattle.patterns.specs.Host.{Endpoint, endpoint}
use Rattle.patterns.specs.Pattern.{wildcard, is_name_byte, domain_pattern, bracket_pattern, leading_fields, read_mask, net_mask, dotted_pattern}
use Rattle.patterns.specs.Code.{matches_pattern}

abbrev pub known : String → Addr → Endpoint
known name a = endpoint (record { name = N.Known; addr = a }) (bytes name)

pub record Examples : Type 0 where
  -- "LOCAL: known name without a dot"
  pub unknown_local : matches_pattern (wildcard (bytes "LOCAL")) (endpoint (record { name = N.Unknown; addr = Unknown }) (bytes "x")) ≡ false
  -- "a known name longer than the pattern that ends in it"
  pub domain_itself : matches_pattern (domain_pattern (bytes ".x")) (known ".x" Unknown) ≡ false
  -- "compares only the first m bits"
  pub bit_beyond : matches_pattern (bracket_pattern (bytes "[1::1]/64")) (known "x" (V6 0x0001000000000000 2)) ≡ true
  -- "`net` equals the bitwise AND of the address and the mask"
  pub net_with_a_bit : matches_pattern (dotted_pattern (bytes "10.0.0.1/255.0.0.0")) (known "x" (V4 0x0a000001)) ≡ false

pub examples : Examples
unfolding any all first each equal split_once split lower equal_fold from_digits numeral read_decimal
    same_prefix read_v4 read_group read_last_group read_groups read_compressed read_v6
    wildcard is_name_byte domain_pattern bracket_pattern leading_fields read_mask net_mask dotted_pattern
examples = record { unknown_local = refl; domain_itself = refl; bit_beyond = refl; net_with_a_bit = refl }
