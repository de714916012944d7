-- `salvage::write::measure_texts` meets its contract. Assumes nothing.
use Rattle.salvage.proofs.CallLaws.{sizes_measured}
use Rattle.salvage.proofs.write.measure_texts.Goals as goal

pub measure-requires : goal.measure-requires
measure-requires c = c.requires.allow

pub measure-requires-2 : goal.measure-requires-2
measure-requires-2 c = c.requires.deny

pub measure-requires-3 : goal.measure-requires-3
measure-requires-3 c = c.requires.byuid

pub measure-requires-4 : goal.measure-requires-4
measure-requires-4 c = c.requires.portacl

pub returns : goal.returns
returns c = record {
  sizes = sizes_measured _ _ _ _ _ _ _ _ _ _ c.measure.ensures.count c.measure-2.ensures.count
      c.measure-3.ensures.count c.measure-4.ensures.count;
  few = (
    c.measure.ensures.few,
    (c.measure-2.ensures.few, (c.measure-3.ensures.few, c.measure-4.ensures.few)),
  );
}
