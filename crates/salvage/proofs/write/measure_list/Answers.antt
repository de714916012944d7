-- `salvage::write::measure_list` meets its contract. Assumes nothing.
use Rattle.salvage.proofs.CallLaws.{list_measured}
use Rattle.salvage.proofs.write.measure_list.Goals as goal

pub measure-of_allow-requires : goal.measure-of_allow-requires
measure-of_allow-requires c = c.requires.allow

pub measure-of_deny-requires : goal.measure-of_deny-requires
measure-of_deny-requires c = c.requires.deny

pub measure-of_byuid-requires : goal.measure-of_byuid-requires
measure-of_byuid-requires c = c.requires.byuid

pub measure-of_portacl-requires : goal.measure-of_portacl-requires
measure-of_portacl-requires c = c.requires.portacl

pub returns : goal.returns
returns c = list_measured _ _ _ _ _ _ _ _ _ _ c.measure-of_allow.ensures.count c.measure-of_deny.ensures.count
    c.measure-of_byuid.ensures.count c.measure-of_portacl.ensures.count
