-- `byuid::in_span` meets its contract. Assumes nothing.
use borrow.Author.Rules.{rules}
use Rattle.text.proofs.Search.{outright}
use Rattle.byuid.proofs.TextLaws.{plain_span, marked_span}
use Rattle.byuid.proofs.in_span.Goals as goal

pub returns-in-Plain : goal.returns-in-Plain
returns-in-Plain c = outright (search (plain_span, rules))

pub returns-in-Marked : goal.returns-in-Marked
returns-in-Marked c = outright (search (marked_span, rules))
