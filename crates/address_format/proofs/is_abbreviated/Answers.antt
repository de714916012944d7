-- `address_format::is_abbreviated` meets its contract: two zeros in a row or more are written as `::`. Assumes nothing.
use mathlib.Core.Path.{sym, ap, ◌∙◌}
use lib.ListN.{length}
use Rattle.text.proofs.Digits.{length_to_digits}
use Rattle.address_format.proofs.WriteLaws.{is_abbreviated}
use Rattle.address_format.proofs.is_abbreviated.Goals as goal

pub slice_bounds-longest_run-end : goal.slice_bounds-longest_run-end
slice_bounds-longest_run-end c = sym (ap length c.groups-each.ensures ∙ length_to_digits 65536 8 _)

pub longest_run-longest-requires : goal.longest_run-longest-requires
longest_run-longest-requires c = ap length c.groups-each.ensures ∙ length_to_digits 65536 8 _

pub returns : goal.returns
returns c = rw (← c.groups-each.ensures) (is_abbreviated _ _ c.longest_run-longest.ensures.run (ap length
    c.groups-each.ensures ∙ length_to_digits 65536 8 _))
