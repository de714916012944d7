-- `salvage::piece::put_kept` meets its contract: by the kind of text. Assumes nothing.
use borrow.Author.Rules.{rules}
use Rattle.text.proofs.Search.{outright}
use Rattle.salvage.proofs.PieceLaws.{kept_room_allow, kept_room_deny, kept_room_byuid, kept_room_portacl, kept_all_allow, kept_all_deny}
use Rattle.salvage.proofs.PieceLaws.{kept_all_byuid, kept_all_portacl}
use Rattle.salvage.proofs.piece.put_kept.Goals as goal

pub put_rule-requires : goal.put_rule-requires
put_rule-requires c = outright (search (kept_room_allow, rules))

pub put_rule-requires-in-Deny : goal.put_rule-requires-in-Deny
put_rule-requires-in-Deny c = outright (search (kept_room_deny, rules))

pub put_bind-requires : goal.put_bind-requires
put_bind-requires c = outright (search (kept_room_byuid, rules))

pub put_entry-requires : goal.put_entry-requires
put_entry-requires c = outright (search (kept_room_portacl, rules))

pub returns-in-Allow : goal.returns-in-Allow
returns-in-Allow c = let both = kept_all_allow _ _ _ _ _ _ _ (search rules) _ _ (search rules) in record { next = both.0; written = both.1 }

pub returns-in-Deny : goal.returns-in-Deny
returns-in-Deny c = let both = kept_all_deny _ _ _ _ _ _ _ (search rules) _ _ (search rules) in record { next = both.0; written = both.1 }

pub returns-in-Byuid : goal.returns-in-Byuid
returns-in-Byuid c = let both = kept_all_byuid _ _ _ _ _ _ _ (search rules) _ _ (search rules) in record { next = both.0; written = both.1 }

pub returns-in-Portacl : goal.returns-in-Portacl
returns-in-Portacl c = let both = kept_all_portacl _ _ _ _ _ _ _ (search rules) _ _ (search rules) in record { next = both.0; written = both.1 }
