-- `patterns::pattern::host_seen` meets its contract. By the wildcard that was read. Assumes nothing.
use borrow.Author.Rules.{rules}
use Rattle.text.proofs.Search.{outright}
use Rattle.patterns.proofs.SeenLaws.{seen_form, seen_all, seen_local, seen_known, seen_unknown, seen_paranoid}
use Rattle.patterns.proofs.pattern.host_seen.Goals as goal

pub returns-in-Nothing : goal.returns-in-Nothing
returns-in-Nothing c = outright (search (seen_form, rules))

pub returns-in-All : goal.returns-in-All
returns-in-All c = outright (search (seen_all, rules))

pub returns-in-Local : goal.returns-in-Local
returns-in-Local c = outright (search (seen_local, rules))

pub returns-in-Known : goal.returns-in-Known
returns-in-Known c = outright (search (seen_known, rules))

pub returns-in-Unknown : goal.returns-in-Unknown
returns-in-Unknown c = outright (search (seen_unknown, rules))

pub returns-in-Paranoid : goal.returns-in-Paranoid
returns-in-Paranoid c = outright (search (seen_paranoid, rules))
