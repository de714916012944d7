-- `element::daemon_seen` meets its contract: the mask and the length tell a name. Assumes nothing.
use borrow.Author.Rules.{rules}
use Rattle.text.proofs.Search.{outright}
use Rattle.elements.proofs.SeenLaws.{names_described, named_daemon}
use Rattle.elements.proofs.element.daemon_seen.Goals as goal

pub name_seen-name-requires : goal.name_seen-name-requires
name_seen-name-requires c = outright (search (names_described, rules))

pub returns-then-is_word_size-mask : goal.returns-then-is_word_size-mask
returns-then-is_word_size-mask c = outright (search (named_daemon, rules))
