-- `portacl::note` meets its contract: both tests are those of the definition. Assumes nothing.
use Rattle.portacl.proofs.NoteLaws.{noted_set, noted_past, noted_other}
use borrow.Author.Rules.{rules}
use Rattle.text.proofs.Search.{outright}
use Rattle.portacl.proofs.note.Goals as goal

pub returns-then-port-ports : goal.returns-then-port-ports
returns-then-port-ports c = outright (search (noted_set, rules))

pub returns-else-port-ports : goal.returns-else-port-ports
returns-else-port-ports c = outright (search (noted_past, rules))

pub returns-else-same_protocol-entry : goal.returns-else-same_protocol-entry
returns-else-same_protocol-entry c = outright (search (noted_other, rules))
