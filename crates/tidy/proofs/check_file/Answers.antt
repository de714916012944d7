-- `tidy::check_file` meets its contract: by the number of the section. Assumes nothing.
use borrow.Author.Rules.{rules}
use Rattle.text.proofs.Search.{outright}
use Rattle.tidy.proofs.CheckLaws.{section_allow, section_deny, section_none}
use Rattle.tidy.proofs.check_file.Goals as goal

pub returns-then-section-eq1 : goal.returns-then-section-eq1
returns-then-section-eq1 c = outright (search (section_allow, rules))

pub returns-then-section-eq2 : goal.returns-then-section-eq2
returns-then-section-eq2 c = outright (search (section_deny, rules))

pub returns : goal.returns
returns c = outright (search (section_none, rules))
