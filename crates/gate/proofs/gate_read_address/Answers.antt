-- What the calls answered, together. Assumes nothing.
use borrow.Author.Rules.{rules}
use Rattle.text.proofs.Search.{outright}
use Rattle.gate.proofs.Laws.{read_by}
use Rattle.gate.proofs.gate_read_address.Goals as goal

pub returns : goal.returns
returns c = outright (search (read_by, rules))
