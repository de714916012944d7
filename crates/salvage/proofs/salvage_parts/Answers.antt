-- `salvage::salvage_parts` meets its contract. Assumes nothing.
use Rattle.salvage.proofs.CallLaws.{texts_small, texts_done}
use Rattle.salvage.proofs.salvage_parts.Goals as goal

pub salvage_texts-requires : goal.salvage_texts-requires
salvage_texts-requires c = texts_small c.args.sheet.now
    c.args.parts _ _ _ _ _
    c.part_of.ensures c.part_of-2.ensures c.part_of-3.ensures
    c.part_of-4.ensures c.part_of-5.ensures c.requires

pub returns : goal.returns
returns c = let both = texts_done c.args.sheet.now c.args.parts _
    _ _ _ _ c.part_of.ensures
    c.part_of-2.ensures
    c.part_of-3.ensures c.part_of-4.ensures
    c.part_of-5.ensures
    c.args.out.now
    c.args.list.now _ _ _
    (c.salvage_texts.ensures.answer, (c.salvage_texts.ensures.sheet, c.salvage_texts.ensures.changes)) in
    record { answer = both.0; sheet = both.1.0; changes = both.1.1 }
