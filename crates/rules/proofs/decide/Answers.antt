-- `decide` meets its contract: the limits, then the contents. Assumes nothing.
use borrow.Author.Rules.{rules}
use Rattle.text.proofs.Search.{outright}
use Rattle.rules.proofs.DecideLaws.{decide_allow, decide_deny, decide_contents, untabled}
use Rattle.rules.proofs.decide.Goals as goal

pub returns-then-over : goal.returns-then-over
returns-then-over c = outright (search (decide_allow, rules))

pub returns-then-over-2 : goal.returns-then-over-2
returns-then-over-2 c = outright (search (decide_deny, rules))

pub rule_texts-requires : goal.rule_texts-requires
rule_texts-requires c = outright (search (untabled, rules))

pub returns : goal.returns
returns c = outright (search (decide_contents, rules))
