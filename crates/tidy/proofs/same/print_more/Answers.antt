-- `tidy::same::print_more` meets its contract: one byte more, unless it parts. Assumes nothing.
use borrow.Author.Rules.{rules}
use Rattle.tidy.proofs.ListLaws.{next_parting, next_byte}
use Rattle.tidy.proofs.same.print_more.Goals as goal

pub returns-then-is_parting : goal.returns-then-is_parting
returns-then-is_parting c = record { print = search (next_parting, rules); small = search rules }

pub returns : goal.returns
returns c = record { print = search (next_byte, rules); small = search rules }
