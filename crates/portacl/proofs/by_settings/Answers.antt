-- `portacl::by_settings` meets its contract: the tests decide the cases of the definition one after the other.
-- Assumes nothing.
use Rattle.portacl.proofs.DecideLaws.{decided_off, decided_autoport, decided_high, decided_suser, decided_granted, decided_denied}
use borrow.Author.Rules.{rules}
use Rattle.text.proofs.Search.{outright}
use Rattle.portacl.proofs.by_settings.Goals as goal

pub returns-then-settings-eq0 : goal.returns-then-settings-eq0
returns-then-settings-eq0 c = outright (search (decided_off, rules))

pub returns-then-settings-port : goal.returns-then-settings-port
returns-then-settings-port c = outright (search (decided_autoport, rules))

pub returns-then-settings-port-2 : goal.returns-then-settings-port-2
returns-then-settings-port-2 c = outright (search (decided_high, rules))

pub returns-then-settings-uid : goal.returns-then-settings-uid
returns-then-settings-uid c = outright (search (decided_suser, rules))

pub returns-then-granted : goal.returns-then-granted
returns-then-granted c = outright (search (decided_granted, rules))

pub returns-else-granted : goal.returns-else-granted
returns-else-granted c = outright (search (decided_denied, rules))
