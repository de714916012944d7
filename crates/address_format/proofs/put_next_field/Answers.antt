-- `address_format::put_next_field` meets its contract: the dot first, and then the field. Assumes nothing.
use mathlib.Core.Path.{◌∙◌}
use lib.ListN.{length-set}
use Rattle.text.specs.Number.{decimal}
use Rattle.address_format.proofs.WriteText.{byte_room, byte_all}
use Rattle.address_format.proofs.put_next_field.Goals as goal

pub put_decimal-requires : goal.put_decimal-requires
put_decimal-requires c = let a = c.args in byte_room a.out.now (decimal a.n) a.at 46 c.requires

pub shape_of-out : goal.shape_of-out
shape_of-out c = c.put_decimal.auto.out ∙ simp length-set

pub returns : goal.returns
returns c = let both = byte_all c.args.out.now (decimal c.args.n) c.args.at 46 c.requires _ _ (
  c.put_decimal.ensures.next,
  c.put_decimal.ensures.written,
) in
    record { next = both.0; written = both.1 }
