use borrow.Author.Rules.{rules}
use Rattle.text.proofs.Search.{outright}
use Rattle.lines.proofs.CommandLaws.{trimmed_more, unblanked_stop, unblanked_end}
use Rattle.lines.proofs.command.unblanked_length.Goals as goal

pub loop-k-preserved : goal.loop-k-preserved
loop-k-preserved c = outright (search (trimmed_more, rules))

pub returns-then-not-is_blank_byte : goal.returns-then-not-is_blank_byte
returns-then-not-is_blank_byte c = outright (search (unblanked_stop, rules))

pub returns : goal.returns
returns c = outright (search (unblanked_end, rules))
