-- `salvage::piece::rule_at` meets its contract: the line that was scanned is the next piece. Assumes nothing.
use borrow.Author.Rules.{rules}
use Rattle.rules.proofs.FileLaws.{scanned_line}
use Rattle.salvage.proofs.PieceLaws.{rule_found_lem}
use Rattle.salvage.proofs.piece.rule_at.Goals as goal

pub is_faulty-requires : goal.is_faulty-requires
is_faulty-requires c = record { classes = search rules; scanned_line = search (scanned_line, rules) }

pub returns : goal.returns
returns c = let both = rule_found_lem _ _ _ _ (search rules) _ c.scan_line-span.ensures.scanned _ c.is_faulty.ensures in
    record { allow = both.0; deny = both.1 }
