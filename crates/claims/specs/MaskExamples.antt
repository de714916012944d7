-- Document 02, request 2: examples of mask lengths, computed.
-- Assumes nothing: these are statements.
use Rattle.std.specs.Prelude.{◌≡◌, Some}
use Rattle.text.specs.Text.{bytes}
use Rattle.section.specs.declared.Fault.TheVariants as F
use Rattle.section.specs.Refusal.{refusal}
use Rattle.section.specs.Section as S
use Rattle.address.specs.declared.Addr.TheVariants.{V4}
use Rattle.elements.specs.declared.Found.TheVariants.{No, Yes}
use Rattle.rules.specs.Check.{hosts_fault}
use Rattle.claims.specs.Examples.{list_finds}

pub record MaskExamples : Type 0 where
  -- "Fitters write `131.155.72.0/23`": "the mask with that many leading ones"
  pub inside : list_finds "131.155.72.0/23" "x" (V4 0x839b49ff) ≡ Yes
  pub outside : list_finds "131.155.72.0/23" "x" (V4 0x839b4a00) ≡ No
  pub no_ones : list_finds "0.0.0.0/0" "x" (V4 0xffffffff) ≡ Yes
  pub all_ones : list_finds "10.1.2.3/32" "x" (V4 0x0a010202) ≡ No
  -- "Net bits outside the mask still match nothing."
  pub net_bits : list_finds "131.155.73.0/23" "x" (V4 0x839b4900) ≡ No
  pub net_bits_of_none : list_finds "10.0.0.0/0" "x" (V4 0x0a000000) ≡ No
  -- "a length of 0 to 32, in fewest digits, after a four-field net": all else stays 10
  pub over : hosts_fault S.allow (bytes "ALL: 10.0.0.0/33\n") ≡ Some (refusal F.UnknownElement 1 1)
  pub more_digits : hosts_fault S.allow (bytes "ALL: 10.0.0.0/08\n") ≡ Some (refusal F.UnknownElement 1 1)
  pub fewer_fields : hosts_fault S.allow (bytes "ALL: 10./8\n") ≡ Some (refusal F.UnknownElement 1 1)
