-- `rule_framed` meets its contract. Assumes nothing.
use borrow.Author.Rules.{rules}
use Rattle.text.proofs.Search.{outright}
use Rattle.rules.proofs.DecideLaws.{framed_cut, framed_trailing, framed_contents, framed_whole}
use Rattle.rules.proofs.rule_framed.Goals as goal

pub rule_texts-requires : goal.rule_texts-requires
rule_texts-requires c = outright (search (framed_whole, rules))

pub returns-in-Err-Cut : goal.returns-in-Err-Cut
returns-in-Err-Cut c = outright (search (framed_cut, rules))

pub returns-in-Err-Trailing : goal.returns-in-Err-Trailing
returns-in-Err-Trailing c = outright (search (framed_trailing, rules))

pub returns-in-Ok : goal.returns-in-Ok
returns-in-Ok c = outright (search (framed_contents, rules))
