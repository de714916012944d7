-- `requests::client_from` meets its contract. Assumes nothing.
use borrow.Author.Rules.{rules}
use Rattle.text.proofs.Search.{outright}
use Rattle.index.proofs.RequestLaws.{hosts_cut, client_within, client_end, hosts_cut_2, server_within, hosts_both}
use Rattle.index.proofs.requests.client_from.Goals as goal

pub overflow_add-client : goal.overflow_add-client
overflow_add-client c = outright (search (client_end c.args.daemon _ _ c.host_at.ensures _ c.in_ok-client.was, rules))

pub host_at-requires-2 : goal.host_at-requires-2
host_at-requires-2 c = outright (search (client_within, rules))

pub user_from-requires : goal.user_from-requires
user_from-requires c = server_within c.args.daemon _ _ c.host_at.ensures _ c.in_ok-client.was _ c.host_at-2.ensures _ c.in_ok-server.was

pub returns-in_err-client : goal.returns-in_err-client
returns-in_err-client c = outright (search (hosts_cut, rules))

pub returns-in_err-server : goal.returns-in_err-server
returns-in_err-server c = outright (search (hosts_cut_2, rules))

pub returns : goal.returns
returns c = hosts_both c.args.daemon _ _ c.host_at.ensures _ c.in_ok-client.was _ c.host_at-2.ensures _ c.in_ok-server.was _ c.user_from.ensures
