-- `rule_texts` meets its contract. Assumes nothing.
use borrow.Author.Rules.{rules}
use Rattle.text.proofs.Search.{outright}
use Rattle.rules.proofs.DecideLaws.{rule_answer_lem, rule_doubtful}
use Rattle.rules.proofs.rule_texts.Goals as goal

pub returns-in-Some : goal.returns-in-Some
returns-in-Some c = outright (search (rule_answer_lem, rules))

pub returns-in-None : goal.returns-in-None
returns-in-None c = outright (search (rule_doubtful, rules))
