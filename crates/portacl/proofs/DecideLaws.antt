-- Laws that tie what the code computes to the definitions of the decision.
-- Assumes nothing.
use Rattle.std.specs.Prelude.{Err, None, Ok, Option, Result, Some, ⊤}
use Prim.Native.Nat.{ℕ, ◌+◌, ◌<◌, ◌≤◌}
use mathlib.Core.Bool.{Bool, true, false, not, ◌&&◌, ◌||◌, or-false, or_assoc}
use mathlib.Core.List.{List, [], ◌∷◌, map}
use mathlib.Core.Path.{◌≡◌, refl, sym, ap, ap₂, ◌∙◌}
use native.Mathlib.Omega.{arith}
use borrow.Author.Tests.{eq-eqb, ne_eqb, lt-ltb, le-ltb, lt-leb, le-leb}
use lib.Dec.{ltb, eqb}
use lib.ListN.{length}
use Rattle.text.specs.Basics.{◌>>=◌, holds, is_some, any}
use Rattle.text.specs.Text.{bytes, split_once, split}
use Rattle.text.specs.Number.{read_decimal}
use Rattle.section.specs.declared.Fault.TheVariants as F
use Rattle.section.specs.declared.Refusal.{Refusal}
use Rattle.section.specs.Refusal.{refusal, placeless, checked_of}
use Rattle.section.specs.Section as S
use Rattle.portacl.specs.declared.Decision.{Decision}
use Rattle.portacl.specs.declared.Decision.TheVariants.{NotRuled, Exempt, Granted, Denied}
use Rattle.portacl.specs.declared.Entry.{Entry}
use Rattle.portacl.specs.declared.Protocol.{Protocol}
use Rattle.portacl.specs.declared.Protocol.TheVariants.{Tcp, Udp}
use Rattle.portacl.specs.declared.Settings.{Settings}
use Rattle.portacl.specs.Portacl.{bind, Bind, read_word, read_entry, entries, entry_fault, portacl_fault, portacl_decision, decide_portacl}
use Rattle.portacl.specs.Code.{entry_data, id_data, protocol_data, port_data, grants_to, entries_data, walk, decision_of}

-- what an entry that was read grants
abbrev pub grants_of : Option Entry → Option (Bind → Bool)
grants_of None = None
grants_of (Some x) = Some (grants_to x)

step : {A : Type 0} (o : Option A) (f : A → Option Entry) (g : A → Option (Bind → Bool)) → ((a : A) → g a ≡ grants_of (f a)) → (o >>= g) ≡ grants_of (o >>= f)
step None f g h = refl
step (Some a) f g h = h a

read_entry_entry_data : (e : List ℕ) → read_entry e ≡ grants_of (entry_data e)
unfolding read_entry entry_data id_data protocol_data port_data grants_to
read_entry_entry_data e =
    step (split_once (bytes ":") e) _ _ λ a.
    step (read_word a.0 ("uid", false) ("gid", true)) _ _ λ group.
    step (split_once (bytes ":") a.1) _ _ λ c.
    step (read_decimal 4294967295 c.0) _ _ λ id.
    step (split_once (bytes ":") c.1) _ _ λ d.
    step (read_word d.0 ("tcp", Tcp) ("udp", Udp)) _ _ λ protocol.
    step (read_decimal 65535 d.1) _ _ λ port. refl

-- whether there is an entry, from the code's answer
module _ (e : List ℕ) (r : Option Entry) (is-r : r ≡ entry_data e) where
  pub entry_none : r ≡ None → false ≡ is_some (read_entry e)
  entry_none k = rw (read_entry_entry_data e, sym is-r ∙ k)

  pub entry_some : (x : Entry) → r ≡ Some x → true ≡ is_some (read_entry e)
  entry_some x k = rw (read_entry_entry_data e, sym is-r ∙ k)

-- ## The entries

map_read_entry : (l : List (List ℕ)) → map read_entry l ≡ map grants_of (map entry_data l)
map_read_entry [] = refl
map_read_entry (e ∷ l) = ap₂ (λ (o : Option (Bind → Bool)) (os : List (Option (Bind → Bool))). o ∷ os) (read_entry_entry_data e) (map_read_entry l)

pub entries_entries_data : (t : List ℕ) → entries t ≡ map grants_of (entries_data t)
unfolding entries entries_data
entries_entries_data [] = refl
entries_entries_data (x ∷ t) = map_read_entry (split "," (x ∷ t))

-- the refusal by what the walk found
abbrev fault_of : Result Bool ℕ → Option Refusal
fault_of (Err n) = Some (refusal F.BadEntry (S.portacl).order n)
fault_of (Ok g) = None

entry_fault_walk : (b : Bind) (n : ℕ) (g : Bool) (es : List (Option Entry)) → entry_fault n (map grants_of es) ≡ fault_of (walk b n g es)
unfolding entry_fault walk
entry_fault_walk b n g [] = refl
entry_fault_walk b n g (None ∷ es) = refl
entry_fault_walk b n g (Some x ∷ es) = entry_fault_walk b (n + 1) (g || grants_to x b) es

any_walk : (b : Bind) (n : ℕ) (g h : Bool) (es : List (Option Entry)) → walk b n g es ≡ Ok h → h ≡ (g || any (holds λ grants. grants b) (map grants_of es))
unfolding walk any
any_walk b n g h [] e = let q : h ≡ g = cc in q ∙ sym (or-false g)
any_walk b n g h (None ∷ es) e = let z : ◌≡◌ {A = ℕ} 0 1 = cc in absurd (omega arith)
any_walk b n g h (Some x ∷ es) e = any_walk b (n + 1) (g || grants_to x b) h es e ∙ or_assoc g (grants_to x b) (any (holds λ grants. grants b) (map grants_of es))

-- ## The check

module _ (t : List ℕ) (b : Bind) (w : Result Bool ℕ) (is-w : w ≡ walk b 1 false (entries_data t)) where
  portacl_fault_walk : portacl_fault t ≡ fault_of w
  unfolding portacl_fault
  portacl_fault_walk = rw (entries_entries_data t, is-w) (entry_fault_walk b 1 false (entries_data t))

  module _ (n : ℕ) (e : w ≡ Err n) (r : Refusal) (is-r : r ≡ refusal F.BadEntry (S.portacl).order n) where
    fault_bad : portacl_fault t ≡ Some r
    fault_bad = portacl_fault_walk ∙ rw (e, is-r)

    pub check_bad : Err r ≡ checked_of (portacl_fault t)
    check_bad = rw fault_bad

  module _ (g : Bool) (e : w ≡ Ok g) where
    fault_none : portacl_fault t ≡ None
    fault_none = portacl_fault_walk ∙ rw e

    pub check_sound : Ok tt ≡ checked_of (portacl_fault t)
    check_sound = rw fault_none

    granting : g ≡ any (holds λ grants. grants b) (entries t)
    granting = rw (entries_entries_data t) (any_walk b 1 false g (entries_data t) (sym is-w ∙ e))

pub checked_of_refused : (o : Option Refusal) (r : Refusal) → checked_of o ≡ Err r → o ≡ Some r
checked_of_refused None r e = let z : ◌≡◌ {A = ℕ} 0 1 = cc in absurd (omega arith)
checked_of_refused (Some q) r e = cc

pub checked_of_sound : (o : Option Refusal) → checked_of o ≡ Ok tt → o ≡ None
checked_of_sound None e = refl
checked_of_sound (Some q) e = let z : ◌≡◌ {A = ℕ} 0 1 = cc in absurd (omega arith)

-- ## By the settings

module _ (s : Settings) (uid port : ℕ) (granted : Bool) where
  abbrev decided : Decision
  decided = decision_of s uid port granted

  pub decided_off : s.enabled ≡ 0 → NotRuled ≡ decided
  unfolding decision_of
  decided_off e = rw (eq-eqb s.enabled 0 e)

  module _ (on : s.enabled ≡ 0 → ⊥) where
    pub decided_autoport : (not (eqb s.autoport_exempt 0) && eqb port 0) ≡ true → Exempt ≡ decided
    unfolding decision_of
    decided_autoport e = rw (ne_eqb s.enabled 0 on, e)

    module _ (a : (not (eqb s.autoport_exempt 0) && eqb port 0) ≡ false) where
      pub decided_high : s.port_high < port → NotRuled ≡ decided
      unfolding decision_of
      decided_high h = rw (ne_eqb s.enabled 0 on, a, lt-ltb s.port_high port h)

      module _ (h : port ≤ s.port_high) where
        pub decided_suser : (not (eqb s.suser_exempt 0) && eqb uid 0) ≡ true → Exempt ≡ decided
        unfolding decision_of
        decided_suser e = rw (ne_eqb s.enabled 0 on, a, le-ltb s.port_high port h, e)

        module _ (u : (not (eqb s.suser_exempt 0) && eqb uid 0) ≡ false) where
          pub decided_granted : granted ≡ true → Granted ≡ decided
          unfolding decision_of
          decided_granted e = rw (ne_eqb s.enabled 0 on, a, le-ltb s.port_high port h, u, e)

          pub decided_denied : granted ≡ false → Denied ≡ decided
          unfolding decision_of
          decided_denied e = rw (ne_eqb s.enabled 0 on, a, le-ltb s.port_high port h, u, e)

-- ## The decision

module _ (t : List ℕ) (s : Settings) (uid : ℕ) (groups : List ℕ) (protocol : Protocol) (port : ℕ) (o : Bool)
    (is-o : o ≡ ltb (S.portacl).limit (length t)) where
  abbrev b : Bind
  b = bind uid groups protocol port

  abbrev ruling : Result Decision Refusal
  ruling = decide_portacl t s (Some b)

  pub decide_over_lem : o ≡ true → (r : Refusal) → r ≡ refusal F.OverLimit (S.portacl).order 0 → Err r ≡ ruling
  unfolding decide_portacl
  decide_over_lem e r is-r = rw (← is-o, e, is-r)

  module _ (e : o ≡ false) where
    module _ (many : 16 < length groups) (c : Result ⊤ Refusal) (is_c : c ≡ checked_of (portacl_fault t)) where
      pub decide_unsound : (r : Refusal) → c ≡ Err r → Err r ≡ ruling
      unfolding decide_portacl
      decide_unsound r q = rw (← is-o, e, checked_of_refused (portacl_fault t) r (sym is_c ∙ q))

      pub decide_many : c ≡ Ok tt → (r : Refusal) → r ≡ placeless F.BadRequest → Err r ≡ ruling
      unfolding decide_portacl
      decide_many q r is-r = rw (← is-o, e, checked_of_sound (portacl_fault t) (sym is_c ∙ q), lt-leb (length groups) 16 many, is-r)

    module _ (few : length groups ≤ 16) (w : Result Bool ℕ) (is-w : w ≡ walk b 1 false (entries_data t)) where
      pub decide_bad : (n : ℕ) → w ≡ Err n → (r : Refusal) → r ≡ refusal F.BadEntry (S.portacl).order n → Err r ≡ ruling
      unfolding decide_portacl
      decide_bad n q r is-r = rw (← is-o, e, fault_bad t b w is-w n q r is-r)

      pub decide_answer : (g : Bool) → w ≡ Ok g → (d : Decision) → d ≡ decision_of s uid port g → Ok d ≡ ruling
      unfolding decide_portacl portacl_decision decision_of
      decide_answer g q d is_d = rw (← is-o, e, fault_none t b w is-w g q, le-leb (length groups) 16 few, ← (granting t b w is-w g q)) (ap Ok is_d)
