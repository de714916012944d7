-- `verdicts` meets its contract. Assumes nothing.
use borrow.Author.Rules.{rules}
use Rattle.text.proofs.Search.{outright}
use Rattle.index.proofs.CallLaws.{verdicts_refused, verdicts_untouched, unpack_is, index_is, verdicts_answer, verdicts_holds, verdicts_wrong}
use Rattle.index.proofs.CallLaws.{wrong_untouched}
use Rattle.index.proofs.verdicts.Goals as goal

pub is_index-requires : goal.is_index-requires
is_index-requires c = outright (search (unpack_is, rules))

pub answer_parts-requires : goal.answer_parts-requires
answer_parts-requires c = outright (search (unpack_is, index_is, rules))

pub returns-then-is_index : goal.returns-then-is_index
returns-then-is_index c = record { answer = search (verdicts_answer, rules); holds = search (verdicts_holds, rules) }

pub returns-in_err-parts : goal.returns-in_err-parts
returns-in_err-parts c = record { answer = search (verdicts_refused, rules); holds = search (verdicts_untouched, rules) }

pub returns : goal.returns
returns c = record { answer = search (verdicts_wrong, rules); holds = search (wrong_untouched, rules) }
