-- What the calls answered, together. Assumes nothing.
use borrow.Author.Rules.{rules}
use Rattle.codes.proofs.AnswerLaws.{written_numbers_lem}
use Rattle.gate.proofs.gate_index.Goals as goal

pub returns : goal.returns
returns c = record { answer = search (written_numbers_lem, rules); holds = search rules }
