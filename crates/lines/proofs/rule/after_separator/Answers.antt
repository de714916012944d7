-- `rule::after_separator` meets its contract: at the end nothing follows, else what stands from i + 1 on. Assumes nothing.
use borrow.Author.Rules.{rules}
use Rattle.text.proofs.Search.{outright}
use Rattle.lines.proofs.RuleLaws.{after_separator_end, after_separator_part}
use Rattle.lines.proofs.rule.after_separator.Goals as goal

pub returns-then-s-i : goal.returns-then-s-i
returns-then-s-i c = outright (search (after_separator_end, rules))

pub returns : goal.returns
returns c = outright (search (after_separator_part, rules))
