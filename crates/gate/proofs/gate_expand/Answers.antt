-- What the calls answered, together. Assumes nothing.
use borrow.Author.Rules.{rules}
use Rattle.gate.proofs.Laws.{expand_answer, expand_holds}
use Rattle.gate.proofs.gate_expand.Goals as goal

pub returns : goal.returns
returns c = record { answer = search (expand_answer, rules); holds = search (expand_holds, rules) }
