-- `patterns::pattern::form_seen` meets its contract. By the form that was read. Assumes nothing.
use borrow.Author.Rules.{rules}
use Rattle.text.proofs.Search.{outright}
use Rattle.patterns.proofs.SeenLaws.{seen_domain, seen_plain, seen_bracket, seen_dotted}
use Rattle.patterns.proofs.pattern.form_seen.Goals as goal

pub returns-in-Domain : goal.returns-in-Domain
returns-in-Domain c = outright (search (seen_domain, rules))

pub returns-in-Bracket : goal.returns-in-Bracket
returns-in-Bracket c = outright (search (seen_bracket, rules))

pub returns-in-Dotted : goal.returns-in-Dotted
returns-in-Dotted c = outright (search (seen_dotted, rules))

pub returns-in-Plain : goal.returns-in-Plain
returns-in-Plain c = outright (search (seen_plain, rules))
