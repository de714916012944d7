use borrow.Author.Rules.{rules}
use Rattle.text.proofs.Search.{outright}
use Rattle.address_format.proofs.WriteLaws.{groups_start, groups_room, groups_step, groups_end}
use Rattle.address_format.proofs.put_colon_groups.Goals as goal

pub loop-i-init : goal.loop-i-init
loop-i-init c = outright (search (groups_start, rules))

pub put_next_group-p-requires : goal.put_next_group-p-requires
put_next_group-p-requires c = outright (search (groups_room, rules))

pub loop-i-preserved : goal.loop-i-preserved
loop-i-preserved c = outright (search (groups_step, rules))

pub returns : goal.returns
returns c = let both = groups_end _ _ _ c.requires _ _ _ c.loop-i.invariant c.loop-i-test.false in record { next = both.0; written = both.1 }
