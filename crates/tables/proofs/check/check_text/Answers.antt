use borrow.Author.Rules.{rules}
use Rattle.text.proofs.Search.{outright}
use Rattle.tables.proofs.WordLaws.{rest_shorter}
use Rattle.tables.proofs.CheckLaws.{text_start, text_end, text_more}
use Rattle.tables.proofs.check.check_text.Goals as goal

pub loop-rest-init : goal.loop-rest-init
loop-rest-init c = outright (search (text_start, rules))

pub returns-then-w-eq0 : goal.returns-then-w-eq0
returns-then-w-eq0 c = outright (search (text_end, rules))

pub loop-rest-smaller : goal.loop-rest-smaller
loop-rest-smaller c = outright (search (rest_shorter, rules))

pub loop-rest-preserved : goal.loop-rest-preserved
loop-rest-preserved c = outright (search (text_more, rules))
