use borrow.Author.Rules.{rules}
use Rattle.text.proofs.Search.{outright}
use Rattle.index.proofs.OtherLaws.{wholes_start, other_byte, other_more, other_word, other_last}
use Rattle.index.proofs.search.is_other.Goals as goal

pub loop-i-init : goal.loop-i-init
loop-i-init c = outright (search (wholes_start, rules))

pub returns-then-not-is_whole : goal.returns-then-not-is_whole
returns-then-not-is_whole c = outright (search (other_byte, rules))

pub loop-i-preserved : goal.loop-i-preserved
loop-i-preserved c = outright (search (other_more, rules))

pub returns-then-s : goal.returns-then-s
returns-then-s c = outright (search (other_word, rules))

pub returns : goal.returns
returns c = outright (search (other_last, rules))
