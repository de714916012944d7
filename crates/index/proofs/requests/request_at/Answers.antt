-- `requests::request_at` meets its contract. Assumes nothing.
use borrow.Author.Rules.{rules}
use Rattle.text.proofs.Search.{outright}
use Rattle.index.proofs.RequestLaws.{request_cut, daemon_within, request_whole}
use Rattle.index.proofs.requests.request_at.Goals as goal

pub client_from-requires : goal.client_from-requires
client_from-requires c = outright (search (daemon_within, rules))

pub returns-in_err-daemon : goal.returns-in_err-daemon
returns-in_err-daemon c = outright (search (request_cut, rules))

pub returns : goal.returns
returns c = outright (search (request_whole, rules))
