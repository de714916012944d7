-- `portacl::read_protocol` meets its contract: the part before the first colon is one of two words, and the port follows.
-- Assumes nothing.
use mathlib.Core.Path.{sym}
use lib.Seq.{length-take-le}
use Rattle.portacl.specs.declared.Protocol.TheVariants.{Tcp, Udp}
use Rattle.portacl.specs.Portacl.{read_word}
use Rattle.portacl.specs.Code.{protocol_data, port_data}
use Rattle.portacl.proofs.EntryLaws.{parts_none, word_first, word_second, word_neither}
use borrow.Author.Rules.{rules}
use Rattle.portacl.proofs.read_protocol.Goals as goal

pub returns-then-colon-s : goal.returns-then-colon-s
unfolding protocol_data
returns-then-colon-s c = let a = c.args in
    search (parts_none (λ t. read_word t ("tcp", Tcp) ("udp", Udp)) (port_data a.group a.id), rules)

pub slice_bounds-equal-end-2 : goal.slice_bounds-equal-end-2
slice_bounds-equal-end-2 c = sym (length-take-le _ _ (search rules))

pub returns-then-equal : goal.returns-then-equal
unfolding protocol_data
returns-then-equal c = let a = c.args in
    search (word_first ("tcp", Tcp) ("udp", Udp) (port_data a.group a.id), rules)

pub slice_bounds-equal-end-4 : goal.slice_bounds-equal-end-4
slice_bounds-equal-end-4 c = sym (length-take-le _ _ (search rules))

pub returns-then-equal-2 : goal.returns-then-equal-2
unfolding protocol_data
returns-then-equal-2 c = let a = c.args in
    search (word_second ("tcp", Tcp) ("udp", Udp) (port_data a.group a.id), rules)

pub returns : goal.returns
unfolding protocol_data
returns c = let a = c.args in
    search (word_neither ("tcp", Tcp) ("udp", Udp) (port_data a.group a.id), rules)
