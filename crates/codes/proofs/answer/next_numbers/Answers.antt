-- A case at a time. Assumes nothing.
use borrow.Author.Rules.{rules}
use Rattle.text.proofs.Search.{outright}
use Rattle.codes.proofs.AnswerLaws.{next_refused, next_granted, next_denied, next_not_ruled, next_test, next_read}
use Rattle.codes.proofs.answer.next_numbers.Goals as goal

pub returns-in-Refused : goal.returns-in-Refused
returns-in-Refused c = outright (search (next_refused, rules))

pub returns-in-Granted : goal.returns-in-Granted
returns-in-Granted c = outright (search (next_granted, rules))

pub returns-in-Denied : goal.returns-in-Denied
returns-in-Denied c = outright (search (next_denied, rules))

pub returns-in-NotRuled : goal.returns-in-NotRuled
returns-in-NotRuled c = outright (search (next_not_ruled, rules))

pub returns-in-Test : goal.returns-in-Test
returns-in-Test c = outright (search (next_test, rules))

pub returns-in-Read : goal.returns-in-Read
returns-in-Read c = outright (search (next_read, rules))
