use borrow.Author.Rules.{rules}
use Rattle.text.proofs.Search.{outright}
use Rattle.lines.proofs.RuleLaws.{rest_shorter}
use Rattle.classes.proofs.ClassLaws.{element_place}
use Rattle.lists.proofs.WalkLaws.{passed_none, follows_none, follows_except, passed_more}
use Rattle.lists.proofs.walk.after_except.Goals as goal

pub loop-w-init : goal.loop-w-init
loop-w-init c = outright (search (passed_none, rules))

pub element-w-requires : goal.element-w-requires
element-w-requires c = outright (search (element_place, rules))

pub returns-then-w-eq0 : goal.returns-then-w-eq0
returns-then-w-eq0 c = outright (search (follows_none, rules))

pub after_element-next-requires : goal.after_element-next-requires
after_element-next-requires c = outright (search (element_place, rules))

pub returns-then-is_except : goal.returns-then-is_except
returns-then-is_except c = outright (search (follows_except, rules))

pub loop-w-smaller : goal.loop-w-smaller
loop-w-smaller c = outright (search (rest_shorter, rules))

pub loop-w-preserved : goal.loop-w-preserved
loop-w-preserved c = outright (search (passed_more, rules))
