-- `write_index` meets its contract. Assumes nothing.
use borrow.Author.Rules.{rules}
use Rattle.text.proofs.Search.{outright}
use Rattle.index.proofs.CallLaws.{write_refused, write_untouched, unpack_is, write_answer, write_holds}
use Rattle.index.proofs.write_index.Goals as goal

pub write_parts-requires : goal.write_parts-requires
write_parts-requires c = outright (search (unpack_is, rules))

pub returns-in_err-parts : goal.returns-in_err-parts
returns-in_err-parts c = record { answer = search (write_refused, rules); holds = search (write_untouched, rules) }

pub returns : goal.returns
returns c = record {
  answer = search (write_answer, rules);
  holds = write_holds _ _ c.unpack.ensures _ c.in_ok-parts.was _ _ _ c.write_parts.ensures.holds;
}
