-- What the calls answered, together. Assumes nothing.
use borrow.Author.Rules.{rules}
use Rattle.gate.proofs.Laws.{write_answer, write_holds, write_refusal, write_kept}
use Rattle.gate.proofs.gate_write_address.Goals as goal

pub returns-then-is_address : goal.returns-then-is_address
returns-then-is_address c = record { answer = search (write_answer, rules); holds = search (write_holds, rules) }

pub returns : goal.returns
returns c = record { answer = search (write_refusal, rules); holds = search (write_kept, rules) }
