-- `rules::hosts_file::examine_joined` meets its contract: the part of the buffer that is written is the join of the line, which tells what the line does.
-- Assumes nothing.
use borrow.Author.Rules.{rules}
use Rattle.text.proofs.Search.{outright}
use Rattle.rules.proofs.FileLaws.{joined_clean, joined_length, examine_joined}
use Rattle.rules.proofs.hosts_file.examine_joined.Goals as goal

pub slice_bounds-examine_rule-end : goal.slice_bounds-examine_rule-end
slice_bounds-examine_rule-end c = outright (search (joined_length, rules))

pub examine_rule-requires : goal.examine_rule-requires
examine_rule-requires c = outright (search (joined_clean, rules))

pub returns : goal.returns
returns c = outright (search (examine_joined, rules))
