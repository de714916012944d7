-- What the calls answered, together. Assumes nothing.
use borrow.Author.Rules.{rules}
use Rattle.text.proofs.Search.{outright}
use Rattle.gate.proofs.Laws.{verdict_by}
use Rattle.gate.proofs.gate_verdict.Goals as goal

pub returns : goal.returns
returns c = outright (search (verdict_by, rules))
