-- `sheet::frame::section_at` meets its contract: its count present, its limit, its bytes present.
-- Assumes nothing.
use borrow.Author.Rules.{rules}
use Rattle.text.proofs.Search.{outright}
use Rattle.sheet.proofs.ReadLaws.{count_absent, count_over, bytes_absent, count_place, section_found}
use Rattle.sheet.proofs.frame.section_at.Goals as goal

pub returns-then-rest-lt4 : goal.returns-then-rest-lt4
returns-then-rest-lt4 c = outright (search (count_absent, rules))

pub returns-then-cursor-n : goal.returns-then-cursor-n
returns-then-cursor-n c = outright (search (count_over, rules))

pub returns-then-rest-n : goal.returns-then-rest-n
returns-then-rest-n c = outright (search (bytes_absent, rules))

pub overflow_add-result : goal.overflow_add-result
overflow_add-result c = outright (search (count_place, rules))

pub returns : goal.returns
returns c = outright (search (section_found, rules))
