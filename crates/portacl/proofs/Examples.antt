-- Examples, computed from the definitions: a definition that answers otherwise is refused here.
-- Assumes nothing.
use Rattle.std.specs.Prelude.{Err, None, Some}
use mathlib.Core.Bool.{true}
use mathlib.Core.List.{[], ◌∷◌}
use mathlib.Core.Path.{◌≡◌, refl}
use lib.ListN.{replicate}
use Rattle.text.specs.Basics.{any}
use Rattle.text.specs.Text.{bytes, equal, split, split_once}
use Rattle.section.specs.declared.Fault.TheVariants as F
use Rattle.section.specs.Refusal.{refusal}
use Rattle.portacl.specs.declared.Decision.TheVariants.{NotRuled}
use Rattle.portacl.specs.declared.Protocol.TheVariants.{Tcp}
use Rattle.portacl.specs.Portacl.{bind, read_entry, entries, entry_fault, portacl_fault, portacl_decision, decide_portacl}

pub record Examples : Type 0 where
  -- "the entry number for 12"
  pub second_entry : entry_fault 1 (Some (λ b. true) ∷ None ∷ []) ≡ Some (refusal F.BadEntry 4 2)
  -- "In order: enabled 0, not ruled; autoport_exempt not 0 and port 0, exempt"
  pub not_enabled : portacl_decision [] (record { enabled = 0; port_high = 1023; suser_exempt = 1; autoport_exempt = 1 })
      (bind 80 [] Tcp 0) ≡ NotRuled
  -- "then allow, deny and portacl; then 13"
  pub entry_first : decide_portacl (bytes "uid") (record { enabled = 1; port_high = 1023; suser_exempt = 1; autoport_exempt = 1 })
      (Some (bind 80 (replicate 17 0) Tcp 80)) ≡ Err (refusal F.BadEntry 4 1)

pub examples : Examples
unfolding any equal split split_once read_entry entries entry_fault portacl_fault portacl_decision decide_portacl
examples = record { second_entry = refl; not_enabled = refl; entry_first = refl }
