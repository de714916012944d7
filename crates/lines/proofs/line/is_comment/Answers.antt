use borrow.Author.Rules.{rules}
use Rattle.text.proofs.Search.{outright}
use Rattle.lines.proofs.LineLaws.{pair_at_within, comment_skip, comment_here, comment_none}
use Rattle.lines.proofs.line.is_comment.Goals as goal

pub loop-i-preserved : goal.loop-i-preserved
loop-i-preserved c = outright (search (pair_at_within, comment_skip, rules))

pub returns-else-is_pair : goal.returns-else-is_pair
returns-else-is_pair c = outright (search (comment_here, rules))

pub returns : goal.returns
returns c = outright (search (comment_none, rules))
