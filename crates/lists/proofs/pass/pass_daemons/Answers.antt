use borrow.Author.Rules.{rules}
use Rattle.text.proofs.Search.{outright}
use Rattle.lines.proofs.RuleLaws.{rest_shorter}
use Rattle.classes.proofs.ClassLaws.{element_place, element_described}
use Rattle.lists.proofs.PassLaws.{pass_start_lem, pass_end_lem, pass_more}
use Rattle.lists.proofs.pass.pass_daemons.Goals as goal

pub loop-rest-init : goal.loop-rest-init
loop-rest-init c = outright (search (pass_start_lem, rules))

pub element-e-requires : goal.element-e-requires
element-e-requires c = outright (search (element_place, rules))

pub returns-then-e-eq0 : goal.returns-then-e-eq0
returns-then-e-eq0 c = outright (search (pass_end_lem, rules))

pub after_element-next-requires : goal.after_element-next-requires
after_element-next-requires c = outright (search (element_place, rules))

pub daemon_step-p-requires : goal.daemon_step-p-requires
daemon_step-p-requires c = outright (search (element_described, rules))

pub loop-rest-smaller : goal.loop-rest-smaller
loop-rest-smaller c = outright (search (rest_shorter, rules))

pub loop-rest-preserved : goal.loop-rest-preserved
loop-rest-preserved c = outright (search (pass_more, rules))
