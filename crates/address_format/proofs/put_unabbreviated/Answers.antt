-- `address_format::put_unabbreviated` meets its contract: the groups of the two halves. Assumes nothing.
use Rattle.address_format.proofs.put_unabbreviated.Goals as goal

pub put_groups-requires : goal.put_groups-requires
put_groups-requires c = rw c.groups-eight.ensures c.requires

pub returns : goal.returns
returns c = rw (← c.groups-eight.ensures) (record { next = c.put_groups.ensures.next; written = c.put_groups.ensures.written })
