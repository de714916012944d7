-- Examples, computed from the definitions: a definition that answers otherwise is refused here.
-- Assumes nothing.
use Rattle.std.specs.Prelude.{Err, None, Some}
use mathlib.Core.List.{[]}
use mathlib.Core.Path.{◌≡◌, refl}
use Rattle.text.specs.Basics.{any, each}
use Rattle.text.specs.Text.{bytes, equal, split, split_once, intercalate}
use Rattle.text.specs.Number.{from_digits, numeral, read_decimal}
use Rattle.section.specs.declared.Fault.TheVariants as F
use Rattle.section.specs.Refusal.{refusal, placeless}
use Rattle.address.specs.declared.Addr.TheVariants.{Unknown, V4}
use Rattle.address.specs.Address.{read_v4}
use Rattle.byuid.specs.declared.Decision.TheVariants.{NotRuled, Granted, NoLine}
use Rattle.byuid.specs.declared.Mark.TheVariants.{Plain, Marked}
use Rattle.byuid.specs.Byuid.{read_range, read_net, read_comma_form, read_colon_form, line_grants, is_retired, retired_fault, byuid_fault, byuid_decision, bind}
use Rattle.byuid.specs.Byuid.{file_bind, decide_byuid}
use Rattle.byuid.specs.Convert.{convert_line, convert_text}

pub record Examples : Type 0 where
  -- "A last line without a newline counts."
  pub last_line : byuid_decision (bytes "10.0.0.1,80") Plain 80 (V4 0x0a000001) 432 ≡ Granted
  -- "The request's address is IPv4 or IPv6; an unknown one is 13", also where the port is not ruled
  pub unknown_address : decide_byuid [] (Some (file_bind Plain (bind 0 Unknown 432))) ≡ Err (placeless F.BadRequest)
  -- request 3: "A plain file grants only 1 to 511 and a marked one only 512 to 1023; a request for the other span gets "no line""
  pub plain_511 : byuid_decision (bytes "10.0.0.1,1-1023") Plain 511 (V4 0x0a000001) 432 ≡ Granted
  pub plain_512 : byuid_decision (bytes "10.0.0.1,1-1023") Plain 512 (V4 0x0a000001) 432 ≡ NoLine
  pub marked_511 : byuid_decision (bytes "10.0.0.1,1-1023") Marked 511 (V4 0x0a000001) 432 ≡ NoLine
  pub marked_512 : byuid_decision (bytes "10.0.0.1,1-1023") Marked 512 (V4 0x0a000001) 432 ≡ Granted
  -- request 11: "22 with section 3 and the first such line, after 17 and before 13", also where the bind is not ruled
  pub retired_first : decide_byuid (bytes "x\n10.0.0.0/8:80,90\n10.0.0.0/8:80,90") (Some (file_bind Plain (bind 0 Unknown 0)))
      ≡ Err (refusal F.RetiredForm 3 2)
  -- "a line that this form used to accept": not one with a set bit beyond its length, nor with a min over its max
  pub set_bit : byuid_fault (bytes "10.0.0.1/8:80,90") ≡ None
  pub min_over_max : byuid_fault (bytes "10.0.0.0/8:90,80") ≡ None
  -- "rewrites just those lines as `addr4/len,pmin-pmax`, which grants the same in as many bytes, and leaves every other byte"
  pub rewritten : convert_text (bytes "# x\n10.0.0.0/8:80,90\n10.0.0.1/8:80,90") ≡ bytes "# x\n10.0.0.0/8,80-90\n10.0.0.1/8:80,90"
  pub same_ports : convert_text (bytes "10.0.0.0/8:80,80") ≡ bytes "10.0.0.0/8,80-80"
  -- "not ruled" comes before the span
  pub root_512 : byuid_decision (bytes "10.0.0.1,1-1023") Plain 512 (V4 0x0a000001) 0 ≡ NotRuled

pub examples : Examples
unfolding any each equal split split_once from_digits numeral read_decimal read_v4
    read_range read_net read_comma_form read_colon_form line_grants is_retired retired_fault byuid_fault byuid_decision decide_byuid convert_line convert_text intercalate
examples = record {
  last_line = refl;
  unknown_address = refl;
  plain_511 = refl;
  plain_512 = refl;
  marked_511 = refl;
  marked_512 = refl;
  root_512 = refl;
  retired_first = refl;
  set_bit = refl;
  min_over_max = refl;
  rewritten = refl;
  same_ports = refl;
}
