use borrow.Author.Rules.{rules}
use Rattle.text.proofs.Search.{outright}
use Rattle.lines.proofs.RuleLaws.{rest_shorter}
use Rattle.classes.proofs.ClassLaws.{element_place, element_described}
use Rattle.lists.proofs.WalkLaws.{walked_none, group_none, group_except, group_yes, group_ask, included_no}
use Rattle.lists.proofs.walk.daemons_group.Goals as goal

pub loop-rest-init : goal.loop-rest-init
loop-rest-init c = outright (search (walked_none, rules))

pub element-w-requires : goal.element-w-requires
element-w-requires c = outright (search (element_place, rules))

pub returns-then-w-eq0 : goal.returns-then-w-eq0
returns-then-w-eq0 c = outright (search (group_none, rules))

pub returns-then-is_except : goal.returns-then-is_except
returns-then-is_except c = outright (search (group_except, rules))

pub after_element-next-requires : goal.after_element-next-requires
after_element-next-requires c = outright (search (element_place, rules))

pub daemon_found-seen-requires : goal.daemon_found-seen-requires
daemon_found-seen-requires c = outright (search (element_described, rules))

pub returns-in-Yes : goal.returns-in-Yes
returns-in-Yes c = outright (search (group_yes, rules))

pub returns-in-Ask : goal.returns-in-Ask
returns-in-Ask c = outright (search (group_ask, rules))

pub loop-rest-smaller : goal.loop-rest-smaller
loop-rest-smaller c = outright (search (rest_shorter, rules))

pub loop-rest-preserved : goal.loop-rest-preserved
loop-rest-preserved c = outright (search (included_no, rules))
