-- Document 02, request 4, as statements about what gate_authbind answers.
--   named w t out, settled w out == the word w with the name t written, and the word alone; late out == 19
-- Assumes nothing: these are statements.
use Rattle.std.specs.Prelude.{ℕ, ◌+◌, ◌*◌, ◌^◌, ◌≤◌, ◌<◌, true, false, List, [], ◌∷◌, ◌++◌, ◌≡◌, length, take, drop, get_or, replicate, leb}
use Rattle.text.specs.Basics.{all}
use Rattle.text.specs.Text.{bytes}
use Rattle.text.specs.Number.{decimal}
use Rattle.section.specs.declared.Fault.TheVariants as F
use Rattle.section.specs.Refusal.{placeless}
use Rattle.address.specs.declared.Addr.{Addr}
use Rattle.address.specs.declared.Addr.TheVariants as A
use Rattle.authbind.specs.Authbind.{tests, by_uid, dotted}
use Rattle.codes.specs.Answers.{granted, denied, test, read, next_with, refused_next}
use Rattle.gate.specs.Calls.{WroteNext, gate_authbind}

-- ## Binds and answers

-- an address by its numbers, not one of those left out
pub data Kept : ℕ → ℕ → ℕ → Addr → Type 0 where
  kept_v4 : (high low : ℕ) → low < 2 ^ 32 → Kept 4 high low (A.V4 low)
  kept_v6 : (high low : ℕ) → dotted (high * 2 ^ 64 + low) ≡ false → Kept 6 high low (A.V6 high low)

-- a bind that is ruled, at such an address
pub record Bindable (port kind high low uid : ℕ) (a : Addr) : Type 0 where
  pub from : 1 ≤ port
  pub to : port ≤ 1023
  pub caller : 1 ≤ uid
  pub address : Kept kind high low a

-- "(allowed, absent, other)" as bytes: 1, 0 and 2
abbrev pub AreAnswers : List ℕ → Type 0
AreAnswers s = all (λ b. leb b 2) s ≡ true

abbrev pub absents : ℕ → List ℕ
absents k = replicate k 0

abbrev pub named : ℕ → List ℕ → List ℕ → WroteNext
named word name out = record { answer = next_with word (length name); out = name ++ drop (length name) out }

abbrev pub settled : ℕ → List ℕ → WroteNext
settled word out = record { answer = next_with word 0; out = out }

abbrev pub late : List ℕ → WroteNext
late out = record { answer = refused_next (placeless F.LateAnswer); out = out }

-- ## The order

-- ""absent" goes on": after k of them comes the test k of the order, from 0 on, and after as many as there are tests "then byuid"
pub record AbsentGoesOn : Type 0 where
  pub next_test : (port kind high low uid : ℕ) (a : Addr) → Bindable port kind high low uid a → (k : ℕ) → k < length (tests port a) → (out : List ℕ)
      → length (get_or (tests port a) k []) ≤ length out
      → gate_authbind port kind high low uid (absents k) out ≡ named test.number (get_or (tests port a) k []) out
  pub then_byuid : (port kind high low uid : ℕ) (a : Addr) → Bindable port kind high low uid a → (out : List ℕ) → length (by_uid port uid) ≤ length out
      → gate_authbind port kind high low uid (absents (length (tests port a))) out ≡ named read.number (by_uid port uid) out

-- ""Allowed" grants, "other" refuses", in any room; "19 for any answer after the one that settles the matter or after the last test before
-- byuid"
pub record AnswerSettles : Type 0 where
  pub allowed_grants : (port kind high low uid : ℕ) (a : Addr) → Bindable port kind high low uid a → (k : ℕ) → k < length (tests port a) → (out : List ℕ)
      → gate_authbind port kind high low uid (absents k ++ (1 ∷ [])) out ≡ settled granted.number out
  pub other_denies : (port kind high low uid : ℕ) (a : Addr) → Bindable port kind high low uid a → (k : ℕ) → k < length (tests port a) → (out : List ℕ)
      → gate_authbind port kind high low uid (absents k ++ (2 ∷ [])) out ≡ settled denied.number out
  pub late_after_settled : (port kind high low uid : ℕ) (a : Addr) → Bindable port kind high low uid a → (k : ℕ) → k < length (tests port a)
      → (x y : ℕ) (s out : List ℕ) → 1 ≤ x → AreAnswers (x ∷ y ∷ s) → gate_authbind port kind high low uid (absents k ++ (x ∷ y ∷ s)) out ≡ late out
  pub late_after_last : (port kind high low uid : ℕ) (a : Addr) → Bindable port kind high low uid a → (y : ℕ) (s out : List ℕ) → AreAnswers (y ∷ s)
      → gate_authbind port kind high low uid (absents (length (tests port a)) ++ (y ∷ s)) out ≡ late out

-- no two tests of one bind have one name
abbrev pub NamesDiffer : Type 0
NamesDiffer = (port : ℕ) (a : Addr) (i j : ℕ) → i < j → j < length (tests port a) → get_or (tests port a) i [] ≡ get_or (tests port a) j [] → ⊥

-- "with `!` before the leaf for 512 to 1023": what is read is the file whose mark gate_byuid is to be told (other-span-no-line)
pub record ReadsItsFile : Type 0 where
  pub reads_plain : (port kind high low uid : ℕ) (a : Addr) → Bindable port kind high low uid a → port ≤ 511 → (out : List ℕ)
      → length (bytes "/etc/authbind/byuid/" ++ decimal uid) ≤ length out
      → gate_authbind port kind high low uid (absents (length (tests port a))) out ≡ named read.number (bytes "/etc/authbind/byuid/" ++ decimal uid) out
  pub reads_marked : (port kind high low uid : ℕ) (a : Addr) → Bindable port kind high low uid a → 512 ≤ port → (out : List ℕ)
      → length (bytes "/etc/authbind/byuid/!" ++ decimal uid) ≤ length out
      → gate_authbind port kind high low uid (absents (length (tests port a))) out ≡ named read.number (bytes "/etc/authbind/byuid/!" ++ decimal uid) out

-- ## The example of authbind(1), step by step: uid 432 binds [2620:106:e002:f00f::21]:80

abbrev pub after_answers : List ℕ → WroteNext
after_answers answers = gate_authbind 80 6 0x26200106e002f00f 0x21 432 answers (replicate 66 0)

abbrev pub name_in : WroteNext → List ℕ
name_in w = take w.answer.count w.out

pub record ManualExample : Type 0 where
  pub by_port_lem : name_in (after_answers []) ≡ bytes "/etc/authbind/byport/80"
  pub by_address : name_in (after_answers (absents 1)) ≡ bytes "/etc/authbind/byaddr/2620:106:e002:f00f::21,80"
  pub unabbreviated : name_in (after_answers (absents 2)) ≡ bytes "/etc/authbind/byaddr/2620:106:e002:f00f:0:0:0:21,80"
  pub by_uid_lem : name_in (after_answers (absents 3)) ≡ bytes "/etc/authbind/byuid/432"
  pub last_test : (after_answers (absents 2)).answer.word ≡ test.number
  pub is_read : (after_answers (absents 3)).answer.word ≡ read.number
