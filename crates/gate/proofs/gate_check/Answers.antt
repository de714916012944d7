-- What the calls answered, together. Assumes nothing.
use borrow.Author.Rules.{rules}
use Rattle.text.proofs.Search.{outright}
use Rattle.codes.proofs.AnswerLaws.{check_numbers_lem}
use Rattle.gate.proofs.gate_check.Goals as goal

pub returns : goal.returns
returns c = outright (search (check_numbers_lem, rules))
