-- What the calls answered, together. Assumes nothing.
use borrow.Author.Rules.{rules}
use Rattle.gate.proofs.Laws.{authbind_answer, authbind_holds}
use Rattle.gate.proofs.gate_authbind.Goals as goal

pub returns : goal.returns
returns c = record { answer = search (authbind_answer, rules); holds = search (authbind_holds, rules) }
