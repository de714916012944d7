-- `byuid::line::front_v4` meets its contract: the pass over the fields ends at the first byte that is neither digit nor dot. Assumes nothing.
use borrow.Author.Rules.{rules}
use Rattle.text.proofs.Search.{outright}
use Rattle.address.proofs.FieldLaws.{landed_number, landed_field}
use Rattle.byuid.proofs.FrontLaws.{front_failed, front_nothing, front_value}
use Rattle.byuid.proofs.line.front_v4.Goals as goal

pub ended_address-requires : goal.ended_address-requires
ended_address-requires c = outright (search (landed_number, landed_field, rules))

pub returns-in-Failed : goal.returns-in-Failed
returns-in-Failed c = outright (search (front_failed, rules))

pub returns-in_err-m-in-At : goal.returns-in_err-m-in-At
returns-in_err-m-in-At c = outright (search (front_nothing, rules))

pub returns-in_ok-m-in-At : goal.returns-in_ok-m-in-At
returns-in_ok-m-in-At c = outright (search (front_value, rules))
