-- `portacl::read_id` meets its contract: the part before the first colon is a number, and the protocol follows.
-- Assumes nothing.
use mathlib.Core.Path.{sym}
use lib.Seq.{length-take-le}
use Rattle.text.specs.Number.{read_decimal}
use Rattle.portacl.specs.Code.{id_data, protocol_data}
use Rattle.portacl.proofs.EntryLaws.{parts_none, number_first_none, number_first_some}
use borrow.Author.Rules.{rules}
use Rattle.portacl.proofs.read_id.Goals as goal

pub returns-then-colon-s : goal.returns-then-colon-s
unfolding id_data
returns-then-colon-s c = let a = c.args in
    search (parts_none (read_decimal 4294967295) (protocol_data a.group), rules)

pub slice_bounds-read_decimal-end : goal.slice_bounds-read_decimal-end
slice_bounds-read_decimal-end c = sym (length-take-le _ _ (search rules))

pub returns-in_err-id : goal.returns-in_err-id
unfolding id_data
returns-in_err-id c = let a = c.args in
    search (number_first_none 4294967295 (protocol_data a.group), rules)

pub returns : goal.returns
unfolding id_data
returns c = let a = c.args in
    number_first_some 4294967295 (protocol_data a.group) a.s.now _ (search rules) (search rules) (search rules) _ c.read_decimal.ensures _ c.in_ok-id.was _
    c.read_protocol.ensures
