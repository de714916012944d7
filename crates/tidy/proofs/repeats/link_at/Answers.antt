-- `tidy::repeats::link_at` meets its contract: a number that is no place is 0. Assumes nothing.
use borrow.Author.Rules.{rules}
use Rattle.tidy.proofs.RepeatLaws.{link_past, link_some}
use Rattle.tidy.proofs.repeats.link_at.Goals as goal

pub returns-then-link-gt16384 : goal.returns-then-link-gt16384
returns-then-link-gt16384 c = record { link = search (link_past, rules); small = search rules }

pub returns : goal.returns
returns c = record { link = search (link_some, rules); small = search rules }
