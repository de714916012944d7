-- `table::has_rule` meets its contract. Assumes nothing.
use borrow.Author.Rules.{rules}
use Rattle.text.proofs.Search.{outright}
use Rattle.index.proofs.TableLaws.{ruled_comment, ruled_blank, ruled_parted}
use Rattle.index.proofs.table.has_rule.Goals as goal

pub returns-then-is_comment : goal.returns-then-is_comment
returns-then-is_comment c = outright (search (ruled_comment, rules))

pub returns-then-is_blank : goal.returns-then-is_blank
returns-then-is_blank c = outright (search (ruled_blank, rules))

pub returns : goal.returns
returns c = outright (search (ruled_parted, rules))
