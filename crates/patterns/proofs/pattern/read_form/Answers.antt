-- `patterns::pattern::read_form` meets its contract. The first byte decides, then all bytes. Assumes nothing.
use borrow.Author.Rules.{rules}
use Rattle.text.proofs.Search.{outright}
use Rattle.patterns.proofs.PatternLaws.{form_of_nil, form_of_domain, form_of_bracket, form_of_dotted, form_of_plain}
use Rattle.patterns.proofs.pattern.read_form.Goals as goal

pub returns-then-e-eq0 : goal.returns-then-e-eq0
returns-then-e-eq0 c = outright (search (form_of_nil, rules))

pub returns-then-b-eq46 : goal.returns-then-b-eq46
returns-then-b-eq46 c = outright (search (form_of_domain, rules))

pub returns-then-b-eq91 : goal.returns-then-b-eq91
returns-then-b-eq91 c = outright (search (form_of_bracket, rules))

pub returns-then-dotted : goal.returns-then-dotted
returns-then-dotted c = outright (search (form_of_dotted, rules))

pub returns-else-dotted : goal.returns-else-dotted
returns-else-dotted c = outright (search (form_of_plain, rules))
