-- `tidy::repeats::has_rule` meets its contract: the tests of the definition. Assumes nothing.
use borrow.Author.Rules.{rules}
use Rattle.text.proofs.Search.{outright}
use Rattle.tidy.proofs.RepeatLaws.{has_comment, has_blank, has_separator}
use Rattle.tidy.proofs.repeats.has_rule.Goals as goal

pub returns-then-is_comment : goal.returns-then-is_comment
returns-then-is_comment c = outright (search (has_comment, rules))

pub returns-then-is_blank : goal.returns-then-is_blank
returns-then-is_blank c = outright (search (has_blank, rules))

pub returns : goal.returns
returns c = outright (search (has_separator, rules))
