use borrow.Author.Rules.{rules}
use Rattle.text.proofs.Search.{outright}
use Rattle.lists.proofs.WalkLaws.{step_shorter, included_done, included_on, excluded_done, excluded_on}
use Rattle.lists.proofs.walk.+daemons_excluded_from_daemons_included_from.Goals as goal

pub daemons_excluded_from-returns-then-next-eq0 : goal.daemons_excluded_from-returns-then-next-eq0
daemons_excluded_from-returns-then-next-eq0 t c = outright (search (excluded_done, rules))

pub daemons_excluded_from-daemons_included_from-requires : goal.daemons_excluded_from-daemons_included_from-requires
daemons_excluded_from-daemons_included_from-requires t c =
    (step_shorter _ _ _ _ _ _ _ _ _ c.next_daemons-next.ensures c.if-next-eq0.false _ c.decreases, search rules)

pub daemons_excluded_from-returns : goal.daemons_excluded_from-returns
daemons_excluded_from-returns t c = outright (search (excluded_on, rules))

pub daemons_included_from-returns-then-next-eq0 : goal.daemons_included_from-returns-then-next-eq0
daemons_included_from-returns-then-next-eq0 t c = outright (search (included_done, rules))

pub daemons_included_from-daemons_excluded_from-requires : goal.daemons_included_from-daemons_excluded_from-requires
daemons_included_from-daemons_excluded_from-requires t c =
    (step_shorter _ _ _ _ _ _ _ _ _ c.next_daemons-next.ensures c.if-next-eq0.false _ c.decreases, search rules)

pub daemons_included_from-returns : goal.daemons_included_from-returns
daemons_included_from-returns t c = outright (search (included_on, rules))
