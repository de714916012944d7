-- `tell::rule_told` meets its contract: the rule is parted as its places say, since a joined line is its own join. Assumes nothing.
use borrow.Author.Rules.{rules}
use mathlib.Core.Path.{sym}
use lib.Seq.{length-take-le}
use Rattle.text.proofs.Search.{outright}
use Rattle.matters.proofs.TellLaws.{rule_none, rule_no, rule_ask, rule_yes}
use Rattle.matters.proofs.tell.rule_told.Goals as goal

pub returns-then-t-i : goal.returns-then-t-i
returns-then-t-i c = outright (search (rule_none, rules))

pub slice_bounds-daemons_included-end : goal.slice_bounds-daemons_included-end
slice_bounds-daemons_included-end c = sym (length-take-le _ _ c.separator-i.ensures.within)

pub slice_bounds-list_told-end : goal.slice_bounds-list_told-end
slice_bounds-list_told-end c = sym (length-take-le _ _ c.separator-j.ensures.within)

pub returns-in-No : goal.returns-in-No
returns-in-No c = outright (search (rule_no, rules))

pub returns-in-Ask : goal.returns-in-Ask
returns-in-Ask c = outright (search (rule_ask, rules))

pub returns-in-Yes : goal.returns-in-Yes
returns-in-Yes c = outright (search (rule_yes, rules))
