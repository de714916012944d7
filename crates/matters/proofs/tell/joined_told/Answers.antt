-- `tell::joined_told` meets its contract: the part of the buffer that is written is the join of the line. Assumes nothing.
use borrow.Author.Rules.{rules}
use Rattle.text.proofs.Search.{outright}
use Rattle.rules.proofs.FileLaws.{joined_clean, joined_length}
use Rattle.matters.proofs.TellLaws.{joined_told}
use Rattle.matters.proofs.tell.joined_told.Goals as goal

pub slice_bounds-rule_told-end : goal.slice_bounds-rule_told-end
slice_bounds-rule_told-end c = outright (search (joined_length, rules))

pub rule_told-requires : goal.rule_told-requires
rule_told-requires c = outright (search (joined_clean, rules))

pub returns : goal.returns
returns c = outright (search (joined_told, rules))
