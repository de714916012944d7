-- `rules::hosts_file::kind_of_line` meets its contract: the tests are those of the definition, in its order, over what the scan tells of the line.
-- Assumes nothing.
use borrow.Author.Rules.{rules}
use Rattle.text.proofs.Search.{outright}
use Rattle.rules.proofs.FileLaws.{kind_unended, kind_bad, kind_long, kind_comment, kind_blank, kind_rule}
use Rattle.rules.proofs.hosts_file.kind_of_line.Goals as goal

pub returns-then-not-span : goal.returns-then-not-span
returns-then-not-span c = outright (search (kind_unended, rules))

pub returns-then-comment-span : goal.returns-then-comment-span
returns-then-comment-span c = outright (search (kind_bad, rules))

pub returns-then-raw-span-gt2047 : goal.returns-then-raw-span-gt2047
returns-then-raw-span-gt2047 c = outright (search (kind_long, rules))

pub returns-then-comment : goal.returns-then-comment
returns-then-comment c = outright (search (kind_comment, rules))

pub returns-then-is_blank : goal.returns-then-is_blank
returns-then-is_blank c = outright (search (kind_blank, rules))

pub returns-else-is_blank : goal.returns-else-is_blank
returns-else-is_blank c = outright (search (kind_rule, rules))
