-- Document 02, request 13: what the texts that gate_carry writes grant, by gate_byuid, beside what the list grants, by gate_portacl.
-- Assumes nothing: these are statements.
use Rattle.std.specs.Prelude.{ℕ, ◌+◌, ◌≤◌, ◌<◌, ◌^◌, Bool, ◌&&◌, List, [], ◌≡◌, length, take, eqb}
use Rattle.text.specs.Basics.{when◌then◌else◌}
use Rattle.portacl.specs.declared.Settings.{Settings}
use Rattle.codes.specs.Requests.{settings_of}
use Rattle.codes.specs.Answers.{granted, no_line, word_answer}
use Rattle.gate.specs.Calls.{WroteTwo, gate_byuid, gate_portacl, gate_carry}

-- "portacl, enabled, with both exemptions off, port_high 1023 and no groups, grants both protocols": tcp is 6, udp 17
abbrev pub strict : Settings
strict = settings_of 1 1023 0 0

abbrev pub grants_both : List ℕ → ℕ → ℕ → Bool
grants_both list uid port =
    eqb (gate_portacl list strict uid [] 6 port).word granted.number && eqb (gate_portacl list strict uid [] 17 port).word granted.number

-- "every address", by its numbers
pub data Address : ℕ → ℕ → ℕ → Type 0 where
  v4 : (high low : ℕ) → low < 2 ^ 32 → Address 4 high low
  v6 : (high low : ℕ) → high < 2 ^ 64 → low < 2 ^ 64 → Address 6 high low

-- the two texts that were written
abbrev pub plain_written : WroteTwo → List ℕ
plain_written w = take w.answer.count w.out

abbrev pub marked_written : WroteTwo → List ℕ
marked_written w = take w.answer.other_count w.other

-- the answer to a port of a text's span: granted exactly if portacl grants both, else "no line"
abbrev pub granted_if : Bool → ℕ
granted_if b = when b then granted.number else no_line.number

-- "The new text grants a port in its span to every address exactly if portacl .. grants both protocols."
pub record CarriedOver : Type 0 where
  pub plain_carried : (list : List ℕ) (uid : ℕ) (plain marked : List ℕ) (port kind high low : ℕ) → (gate_carry list uid plain marked).answer.number ≡ 0
      → Address kind high low → 1 ≤ port → port ≤ 511
      → gate_byuid (plain_written (gate_carry list uid plain marked)) 0 port kind high low uid ≡ word_answer (granted_if (grants_both list uid port))
  pub marked_carried : (list : List ℕ) (uid : ℕ) (plain marked : List ℕ) (port kind high low : ℕ) → (gate_carry list uid plain marked).answer.number ≡ 0
      → Address kind high low → 512 ≤ port → port ≤ 1023
      → gate_byuid (marked_written (gate_carry list uid plain marked)) 1 port kind high low uid ≡ word_answer (granted_if (grants_both list uid port))
  -- so byuid's limit is never reached, and as many bytes as a list may have are room enough for each
  pub never_longer : (list : List ℕ) (uid : ℕ) (plain marked : List ℕ) → (gate_carry list uid plain marked).answer.number ≡ 0
      → (gate_carry list uid plain marked).answer.count + (gate_carry list uid plain marked).answer.other_count ≤ length list
  -- "Root is never ruled by byuid, so uid 0 is turned away."
  pub root_turned_away : (list plain marked : List ℕ) → (gate_carry list 0 plain marked).answer.number ≡ 0 → ⊥
