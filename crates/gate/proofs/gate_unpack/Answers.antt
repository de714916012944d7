-- What the calls answered, together. Assumes nothing.
use borrow.Author.Rules.{rules}
use Rattle.text.proofs.Search.{outright}
use Rattle.codes.proofs.AnswerLaws.{parts_numbers_lem}
use Rattle.gate.proofs.gate_unpack.Goals as goal

pub returns : goal.returns
returns c = outright (search (parts_numbers_lem, rules))
