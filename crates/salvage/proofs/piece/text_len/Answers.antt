-- `salvage::piece::text_len` meets its contract: by the kind of text. Assumes nothing.
use borrow.Author.Rules.{rules}
use Rattle.salvage.proofs.PieceLaws.{long_entry_bad, long_allow_bad, long_allow, long_deny_bad, long_deny, long_byuid, long_byuid_last}
use Rattle.salvage.proofs.PieceLaws.{long_entry_first, long_entry}
use Rattle.salvage.proofs.piece.text_len.Goals as goal

pub returns-then-bad-3 : goal.returns-then-bad-3
returns-then-bad-3 c = let both = long_entry_bad _ _ _ _ _ (search rules) (search rules) in record { count = both.0; few = both.1 }

pub returns-then-bad : goal.returns-then-bad
returns-then-bad c = let both = long_allow_bad _ _ _ _ _ (search rules) (search rules) in record { count = both.0; few = both.1 }

pub returns-else-bad : goal.returns-else-bad
returns-else-bad c = let both = long_allow _ _ _ _ _ (search rules) (search rules) in record { count = both.0; few = both.1 }

pub returns-then-bad-2 : goal.returns-then-bad-2
returns-then-bad-2 c = let both = long_deny_bad _ _ _ _ _ (search rules) (search rules) in record { count = both.0; few = both.1 }

pub returns-else-bad-2 : goal.returns-else-bad-2
returns-else-bad-2 c = let both = long_deny _ _ _ _ _ (search rules) (search rules) in record { count = both.0; few = both.1 }

pub returns-then-ended : goal.returns-then-ended
returns-then-ended c = let both = long_byuid _ _ _ _ _ (search rules) (search rules) in record { count = both.0; few = both.1 }

pub returns-else-ended : goal.returns-else-ended
returns-else-ended c = let both = long_byuid_last _ _ _ _ _ (search rules) (search rules) in record { count = both.0; few = both.1 }

pub returns-then-alone : goal.returns-then-alone
returns-then-alone c = let both = long_entry_first _ _ _ _ _ (search rules) (search rules) (search rules) in record { count = both.0; few = both.1 }

pub returns-else-alone : goal.returns-else-alone
returns-else-alone c = let both = long_entry _ _ _ _ _ (search rules) (search rules) (search rules) in record { count = both.0; few = both.1 }
