-- `requests::user_from` meets its contract. Assumes nothing.
use borrow.Author.Rules.{rules}
use Rattle.text.proofs.Search.{outright}
use Rattle.index.proofs.RequestLaws.{user_past, user_cut, user_whole, user_end}
use Rattle.index.proofs.requests.user_from.Goals as goal

pub returns-then-bytes-at : goal.returns-then-bytes-at
returns-then-bytes-at c = outright (search (user_past, rules))

pub overflow_add-result : goal.overflow_add-result
overflow_add-result c = outright (search (user_end c.args.daemon c.args.client c.args.server _ c.if-bytes-at.false _ c.text_at.ensures _ c.in_ok-name.was, rules))

pub returns-in_err-name : goal.returns-in_err-name
returns-in_err-name c = outright (search (user_cut, rules))

pub returns : goal.returns
returns c = user_whole c.args.daemon c.args.client c.args.server _ c.if-bytes-at.false _ c.text_at.ensures _ c.in_ok-name.was _ c.byte_at.ensures
