-- `element::daemon_name_seen` meets its contract, by the wildcard that was read. Assumes nothing.
use borrow.Author.Rules.{rules}
use Rattle.text.proofs.Search.{outright}
use Rattle.elements.proofs.SeenLaws.{daemon_seen_name, daemon_seen_all, daemon_seen_local, daemon_seen_known, daemon_seen_unknown, daemon_seen_paranoid}
use Rattle.elements.proofs.element.daemon_name_seen.Goals as goal

pub returns-in-Nothing : goal.returns-in-Nothing
returns-in-Nothing c = outright (search (daemon_seen_name, rules))

pub returns-in-All : goal.returns-in-All
returns-in-All c = outright (search (daemon_seen_all, rules))

pub returns-in-Local : goal.returns-in-Local
returns-in-Local c = outright (search (daemon_seen_local, rules))

pub returns-in-Known : goal.returns-in-Known
returns-in-Known c = outright (search (daemon_seen_known, rules))

pub returns-in-Unknown : goal.returns-in-Unknown
returns-in-Unknown c = outright (search (daemon_seen_unknown, rules))

pub returns-in-Paranoid : goal.returns-in-Paranoid
returns-in-Paranoid c = outright (search (daemon_seen_paranoid, rules))
