-- `patterns::pattern::named_seen` meets its contract. By its first byte. Assumes nothing.
use borrow.Author.Rules.{rules}
use Rattle.text.proofs.Search.{outright}
use Rattle.patterns.proofs.SeenLaws.{named_full, named_names, named_domain, named_plain}
use Rattle.patterns.proofs.pattern.named_seen.Goals as goal

pub bounds-e-0 : goal.bounds-e-0
bounds-e-0 c = outright (search (named_full, rules))

pub domain_sound-requires : goal.domain_sound-requires
domain_sound-requires c = outright (search (named_names, rules))

pub returns-then-e-eq46 : goal.returns-then-e-eq46
returns-then-e-eq46 c = outright (search (named_domain, rules))

pub plain_sound-requires : goal.plain_sound-requires
plain_sound-requires c = outright (search (named_names, rules))

pub returns : goal.returns
returns c = outright (search (named_plain, rules))
