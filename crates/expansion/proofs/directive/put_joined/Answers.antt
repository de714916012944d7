-- `directive::put_joined` meets its contract: the name, the `@` and the text one after the other. Assumes nothing.
use mathlib.Core.Path.{◌∙◌}
use native.Mathlib.Omega.{arith}
use lib.ListN.{length-set}
use Rattle.expansion.proofs.TextLaws.{name_room, at_room, text_room, text_all}
use Rattle.expansion.proofs.directive.put_joined.Goals as goal

pub put_safe-p-requires : goal.put_safe-p-requires
put_safe-p-requires c = name_room c.args.out.now c.args.name.now c.args.text.now c.args.at c.requires

pub bounds-out-p : goal.bounds-out-p
bounds-out-p c = at_room c.args.out.now c.args.name.now c.args.text.now c.args.at c.requires _ _ (
  c.put_safe-p.ensures.next,
  c.put_safe-p.ensures.written,
)

pub overflow_add-p : goal.overflow_add-p
overflow_add-p c = omega (
  arith,
  at_room c.args.out.now c.args.name.now c.args.text.now c.args.at c.requires _ _ (
    c.put_safe-p.ensures.next,
    c.put_safe-p.ensures.written,
  ),
)

pub put_safe-requires : goal.put_safe-requires
put_safe-requires c = text_room c.args.out.now c.args.name.now c.args.text.now c.args.at c.requires _ _ (
  c.put_safe-p.ensures.next,
  c.put_safe-p.ensures.written,
)

pub shape_of-out : goal.shape_of-out
shape_of-out c = c.put_safe.auto.out ∙ simp length-set c.put_safe-p.auto.out

pub returns : goal.returns
returns c = let both = text_all c.args.out.now c.args.name.now c.args.text.now c.args.at
    c.requires _ _ (c.put_safe-p.ensures.next, c.put_safe-p.ensures.written) _ _ (c.put_safe.ensures.next, c.put_safe.ensures.written) in
    record { next = both.0; written = both.1 }
