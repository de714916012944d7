-- `patterns::pattern::plain_sound` meets its contract. The tests of the length, of the last byte and of the bytes are those of the definition. Assumes nothing.
use borrow.Author.Rules.{rules}
use Rattle.text.proofs.Search.{outright}
use Rattle.patterns.proofs.PatternLaws.{name_pattern_empty, name_pattern_long, name_pattern_dot, name_pattern_fits}
use Rattle.patterns.proofs.pattern.plain_sound.Goals as goal

pub returns-then-e-eq0 : goal.returns-then-e-eq0
returns-then-e-eq0 c = outright (search (name_pattern_empty, rules))

pub returns-then-e-gt255 : goal.returns-then-e-gt255
returns-then-e-gt255 c = outright (search (name_pattern_long, rules))

pub returns-then-e-last-eq46 : goal.returns-then-e-last-eq46
returns-then-e-last-eq46 c = outright (search (name_pattern_dot, rules))

pub returns : goal.returns
returns c = outright (search (name_pattern_fits, rules))
