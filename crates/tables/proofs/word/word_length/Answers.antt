use borrow.Author.Rules.{rules}
use Rattle.text.proofs.ScanLaws.{span_len_end}
use Rattle.text.proofs.Search.{outright}
use Rattle.tables.proofs.WordLaws.{word_passed, word_ended}
use Rattle.tables.proofs.word.word_length.Goals as goal

pub returns-then-is_parting : goal.returns-then-is_parting
returns-then-is_parting c = outright (search (word_ended, rules))

pub loop-i-preserved : goal.loop-i-preserved
loop-i-preserved c = outright (search (word_passed, rules))

pub returns : goal.returns
returns c = outright (search (span_len_end, rules))
