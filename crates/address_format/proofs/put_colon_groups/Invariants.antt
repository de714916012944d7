-- `address_format::put_colon_groups` meets its contract. The loop's invariant is Groups: the first i groups are written, and p is the place after
-- them. Assumes nothing.
use Rattle.address_format.proofs.WriteLaws.{Groups}
use Rattle.address_format.proofs.put_colon_groups.Given as goal

abbrev pub invariant-loop-i : goal.invariant-loop-i
invariant-loop-i l = Groups l.initial.out l.out l.gs l.at l.p l.i
