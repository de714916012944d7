-- `salvage::piece::piece_at` meets its contract: by the kind of text. Assumes nothing.
use borrow.Author.Rules.{rules}
use Rattle.text.proofs.Search.{outright}
use Rattle.salvage.proofs.PieceLaws.{at_allow, at_deny, at_byuid, at_some, at_portacl, found_allow, found_deny, found_byuid, found_portacl}
use Rattle.salvage.proofs.piece.piece_at.Goals as goal

pub rule_at-requires : goal.rule_at-requires
rule_at-requires c = record { classes = search rules; at_in_bounds = (search (at_allow, rules), search rules) }

pub rule_at-requires-in-Deny : goal.rule_at-requires-in-Deny
rule_at-requires-in-Deny c = record { classes = search rules; at_in_bounds = (search (at_deny, rules), search rules) }

pub bind_at-requires : goal.bind_at-requires
bind_at-requires c = record { text_len_bound = search rules; at_in_bounds = (search (at_byuid, rules), search rules) }

pub entry_at-requires : goal.entry_at-requires
entry_at-requires c = record { text_nonzero = (search (at_some, rules), search rules); at_in_bounds = (search (at_portacl, rules), search rules) }

pub returns-in-Allow : goal.returns-in-Allow
returns-in-Allow c = outright (search (found_allow, rules))

pub returns-in-Deny : goal.returns-in-Deny
returns-in-Deny c = outright (search (found_deny, rules))

pub returns-in-Byuid : goal.returns-in-Byuid
returns-in-Byuid c = outright (search (found_byuid, rules))

pub returns-in-Portacl : goal.returns-in-Portacl
returns-in-Portacl c = outright (search (found_portacl, rules))
