use borrow.Author.Rules.{rules}
use Rattle.text.proofs.Search.{outright}
use Rattle.lists.proofs.WalkLaws.{step_shorter, included_done, included_on, excluded_done, excluded_on}
use Rattle.lists.proofs.walk.+clients_excluded_from_clients_included_from.Goals as goal

pub clients_excluded_from-returns-then-next-eq0 : goal.clients_excluded_from-returns-then-next-eq0
clients_excluded_from-returns-then-next-eq0 t c = outright (search (excluded_done, rules))

pub clients_excluded_from-clients_included_from-requires : goal.clients_excluded_from-clients_included_from-requires
clients_excluded_from-clients_included_from-requires t c =
    (step_shorter _ _ _ _ _ _ _ _ _ c.next_clients-next.ensures c.if-next-eq0.false _ c.decreases, search rules)

pub clients_excluded_from-returns : goal.clients_excluded_from-returns
clients_excluded_from-returns t c = outright (search (excluded_on, rules))

pub clients_included_from-returns-then-next-eq0 : goal.clients_included_from-returns-then-next-eq0
clients_included_from-returns-then-next-eq0 t c = outright (search (included_done, rules))

pub clients_included_from-clients_excluded_from-requires : goal.clients_included_from-clients_excluded_from-requires
clients_included_from-clients_excluded_from-requires t c =
    (step_shorter _ _ _ _ _ _ _ _ _ c.next_clients-next.ensures c.if-next-eq0.false _ c.decreases, search rules)

pub clients_included_from-returns : goal.clients_included_from-returns
clients_included_from-returns t c = outright (search (included_on, rules))
