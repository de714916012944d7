-- `pass::pass_rule` meets its contract: the rule is parted as its places say, since a joined line is its own join, and an element
-- of either list finds the same whatever else the request holds. Assumes nothing.
use mathlib.Core.Path.{sym}
use lib.Seq.{length-take-le}
use borrow.Author.Rules.{rules}
use Rattle.text.proofs.Search.{outright}
use Rattle.lists.proofs.PassLaws.{rule_seen_none, rule_seen_some}
use Rattle.lists.proofs.pass.pass_rule.Goals as goal

pub returns-then-t-i : goal.returns-then-t-i
returns-then-t-i c = outright (search (rule_seen_none, rules))

pub slice_bounds-daemons_seen-end : goal.slice_bounds-daemons_seen-end
slice_bounds-daemons_seen-end c = sym (length-take-le _ _ c.separator-i.ensures.within)

pub returns : goal.returns
returns c = outright (search (rule_seen_some, rules))
