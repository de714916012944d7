-- `tidy::repeats::same_joined` meets its contract: the part of the buffer that is written is the joined line. Assumes nothing.
use borrow.Author.Rules.{rules}
use Rattle.text.proofs.Search.{outright}
use Rattle.tidy.proofs.RepeatLaws.{joined_length, joined_same}
use Rattle.tidy.proofs.repeats.same_joined.Goals as goal

pub slice_bounds-same_rule-end : goal.slice_bounds-same_rule-end
slice_bounds-same_rule-end c = outright (search (joined_length, rules))

pub returns : goal.returns
returns c = outright (search (joined_same, rules))
