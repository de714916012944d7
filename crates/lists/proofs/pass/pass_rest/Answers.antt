-- `pass::pass_rest` meets its contract: the client list ends at the separator, or at the end. Assumes nothing.
use mathlib.Core.Path.{sym}
use lib.Seq.{length-take-le}
use borrow.Author.Rules.{rules}
use Rattle.text.proofs.Search.{outright}
use Rattle.lists.proofs.PassLaws.{rest_seen_is}
use Rattle.lists.proofs.pass.pass_rest.Goals as goal

pub slice_bounds-clients_seen-end : goal.slice_bounds-clients_seen-end
slice_bounds-clients_seen-end c = sym (length-take-le _ _ c.separator-j.ensures.within)

pub returns : goal.returns
returns c = outright (search (rest_seen_is, rules))
