-- `portacl::read_entry` meets its contract: the part before the first colon is one of two words, and the id follows.
-- Assumes nothing.
use mathlib.Core.Bool.{true, false}
use mathlib.Core.Path.{sym}
use lib.Seq.{length-take-le}
use Rattle.portacl.specs.Portacl.{read_word}
use Rattle.portacl.specs.Code.{entry_data, id_data}
use Rattle.portacl.proofs.EntryLaws.{parts_none, word_first, word_second, word_neither}
use borrow.Author.Rules.{rules}
use Rattle.text.proofs.Search.{outright}
use Rattle.portacl.proofs.read_entry.Goals as goal

pub returns-then-colon-s : goal.returns-then-colon-s
unfolding entry_data
returns-then-colon-s c = search (parts_none (λ t. read_word t ("uid", false) ("gid", true)) id_data, rules)

pub slice_bounds-equal-end-2 : goal.slice_bounds-equal-end-2
slice_bounds-equal-end-2 c = sym (length-take-le _ _ (search rules))

pub returns-then-equal : goal.returns-then-equal
unfolding entry_data
returns-then-equal c = outright (search (word_first ("uid", false) ("gid", true) id_data, rules))

pub slice_bounds-equal-end-4 : goal.slice_bounds-equal-end-4
slice_bounds-equal-end-4 c = sym (length-take-le _ _ (search rules))

pub returns-then-equal-2 : goal.returns-then-equal-2
unfolding entry_data
returns-then-equal-2 c = outright (search (word_second ("uid", false) ("gid", true) id_data, rules))

pub returns : goal.returns
unfolding entry_data
returns c = outright (search (word_neither ("uid", false) ("gid", true) id_data, rules))
