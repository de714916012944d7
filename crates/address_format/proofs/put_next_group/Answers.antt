-- `address_format::put_next_group` meets its contract: the colon first, and then the group. Assumes nothing.
use mathlib.Core.Path.{◌∙◌}
use lib.ListN.{length-set}
use Rattle.text.specs.Number.{numeral}
use Rattle.address_format.proofs.WriteText.{byte_room, byte_all}
use Rattle.address_format.proofs.put_next_group.Goals as goal

pub put_group-requires : goal.put_group-requires
put_group-requires c = let a = c.args in byte_room a.out.now (numeral 16 4 a.g) a.at 58 c.requires

pub shape_of-out : goal.shape_of-out
shape_of-out c = c.put_group.auto.out ∙ simp length-set

pub returns : goal.returns
returns c = let both = byte_all c.args.out.now (numeral 16 4 c.args.g) c.args.at 58 c.requires _ _ (
  c.put_group.ensures.next,
  c.put_group.ensures.written,
) in
    record { next = both.0; written = both.1 }
