use borrow.Author.Rules.{rules}
use Rattle.text.proofs.Search.{outright}
use Rattle.lines.proofs.RuleLaws.{searched_after, searched_byte, searched_bracket, separator_here, separator_end}
use Rattle.lines.proofs.rule.separator.Goals as goal

pub loop-i-init : goal.loop-i-init
loop-i-init c = outright (search (searched_after, rules))

pub returns-then-b-eq58 : goal.returns-then-b-eq58
returns-then-b-eq58 c = outright (search (separator_here, rules))

pub loop-i-preserved-then-b-eq91 : goal.loop-i-preserved-then-b-eq91
loop-i-preserved-then-b-eq91 c = outright (search (searched_bracket, rules))

pub loop-i-preserved : goal.loop-i-preserved
loop-i-preserved c = outright (search (searched_byte, rules))

pub returns : goal.returns
returns c = outright (search (separator_end, rules))
