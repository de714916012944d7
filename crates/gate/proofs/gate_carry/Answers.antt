-- What the call answered, as numbers, and what it wrote. Assumes nothing.
use borrow.Author.Rules.{rules}
use Rattle.codes.proofs.AnswerLaws.{written_two_numbers_lem}
use Rattle.gate.proofs.gate_carry.Goals as goal

pub returns : goal.returns
returns c = record { answer = search (written_two_numbers_lem, rules); lower = search rules; upper = search rules }
