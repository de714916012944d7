-- A case at a time. Assumes nothing.
use borrow.Author.Rules.{rules}
use Rattle.text.proofs.Search.{outright}
use Rattle.codes.proofs.AnswerLaws.{address_unknown, address_v4, address_v6}
use Rattle.codes.proofs.answer.address_numbers.Goals as goal

pub returns-in-Unknown : goal.returns-in-Unknown
returns-in-Unknown c = outright (search (address_unknown, rules))

pub returns-in-V4 : goal.returns-in-V4
returns-in-V4 c = outright (search (address_v4, rules))

pub returns-in-V6 : goal.returns-in-V6
returns-in-V6 c = outright (search (address_v6, rules))
