-- `tidy::drop_sound` meets its contract: the proposal, then what stays. Assumes nothing.
use borrow.Author.Rules.{rules}
use Rattle.tidy.proofs.CheckLaws.{other_answer, other_kept, accepted_answer, accepted_written}
use Rattle.tidy.proofs.drop_sound.Goals as goal

pub returns-then-name_lines : goal.returns-then-name_lines
returns-then-name_lines c = record { answer = search (accepted_answer, rules); holds = search (accepted_written, rules) }

pub returns : goal.returns
returns c = record { answer = search (other_answer, rules); holds = search (other_kept, rules) }
