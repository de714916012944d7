-- Four texts, one after the other. Assumes nothing.
use borrow.Author.Rules.{rules}
use Rattle.text.proofs.Search.{outright}
use Rattle.section.proofs.PartLaws.{four_put}
use Rattle.codes.proofs.request.put_names.Goals as goal

pub returns : goal.returns
returns c = outright (search (four_put, rules))
