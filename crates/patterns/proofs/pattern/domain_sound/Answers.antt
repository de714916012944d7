-- `patterns::pattern::domain_sound` meets its contract. The tests of the length and of the bytes are those of the definition. Assumes nothing.
use borrow.Author.Rules.{rules}
use Rattle.text.proofs.Search.{outright}
use Rattle.patterns.proofs.PatternLaws.{domain_pattern_short, domain_pattern_long, domain_pattern_fits}
use Rattle.patterns.proofs.pattern.domain_sound.Goals as goal

pub returns-then-e-lt2 : goal.returns-then-e-lt2
returns-then-e-lt2 c = outright (search (domain_pattern_short, rules))

pub returns-then-e-gt255 : goal.returns-then-e-gt255
returns-then-e-gt255 c = outright (search (domain_pattern_long, rules))

pub returns : goal.returns
returns c = outright (search (domain_pattern_fits, rules))
