-- `address_format::put_v6` meets its contract: the groups of the two halves. Assumes nothing.
use mathlib.Core.Path.{ap, ◌∙◌}
use lib.ListN.{length}
use Rattle.text.proofs.Digits.{length_to_digits}
use Rattle.address_format.proofs.put_v6.Goals as goal

pub put_compressed-requires : goal.put_compressed-requires
put_compressed-requires c = (rw c.groups-gs.ensures c.requires, ap length c.groups-gs.ensures ∙ length_to_digits 65536 8 _)

pub returns : goal.returns
returns c = rw (← c.groups-gs.ensures) (record { next = c.put_compressed.ensures.next; written = c.put_compressed.ensures.written })
