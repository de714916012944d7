-- `patterns::pattern::read_wildcard` meets its contract. The words are tried in the definition's order; a text of another length is none of them. Assumes
-- nothing.
use borrow.Author.Rules.{rules}
use Rattle.text.proofs.Search.{outright}
use Rattle.patterns.proofs.PatternLaws.{wildcard_of_sized, wildcard_of_all, wildcard_of_local, wildcard_of_known, wildcard_of_unknown, wildcard_of_paranoid}
use Rattle.patterns.proofs.PatternLaws.{wildcard_of_nothing}
use Rattle.patterns.proofs.pattern.read_wildcard.Goals as goal

pub returns-then-not-is_word_size : goal.returns-then-not-is_word_size
returns-then-not-is_word_size c = outright (search (wildcard_of_sized, rules))

pub returns-then-equal_fold : goal.returns-then-equal_fold
returns-then-equal_fold c = outright (search (wildcard_of_all, rules))

pub returns-then-equal_fold-2 : goal.returns-then-equal_fold-2
returns-then-equal_fold-2 c = outright (search (wildcard_of_local, rules))

pub returns-then-equal_fold-3 : goal.returns-then-equal_fold-3
returns-then-equal_fold-3 c = outright (search (wildcard_of_known, rules))

pub returns-then-equal_fold-4 : goal.returns-then-equal_fold-4
returns-then-equal_fold-4 c = outright (search (wildcard_of_unknown, rules))

pub returns-then-equal_fold-5 : goal.returns-then-equal_fold-5
returns-then-equal_fold-5 c = outright (search (wildcard_of_paranoid, rules))

pub returns : goal.returns
returns c = outright (search (wildcard_of_nothing, rules))
