-- Laws of the walk that notes ports, and what is noted in the end: the ports of the entries that grant.
--   notes_here == after a sound text the byte of a port is 1 where an entry grants it, else as it was
-- Assumes nothing.
use Rattle.std.specs.Prelude.{Err, None, Ok, Option, Some}
use Prim.Native.Nat.{ℕ, ◌+◌, ◌-◌, ◌<◌, ◌≤◌}
use mathlib.Core.Bool.{Bool, true, false, not, ◌&&◌, ◌||◌}
use mathlib.Core.List.{List, [], ◌∷◌, map}
use mathlib.Core.Path.{◌≡◌, refl, sym, ap, ◌∙◌}
use native.Mathlib.Omega.{arith}
use borrow.Author.Tests.{le-leb, lt-leb, eqb-true, eqb-false, ltb-false, lt-ltb, le-ltb}
use lib.Dec.{ltb, eqb}
use lib.ListN.{length, take, drop, get_or, set, length-drop, length-set}
use lib.Seq.{get_or-set_same, get_or-set_other}
use Rattle.text.specs.Basics.{when◌then◌else◌, holds, any}
use Rattle.text.specs.Text.{equal}
use Rattle.text.specs.Scan.{index_of}
use Rattle.text.proofs.ScanLaws.{take_rest}
use Rattle.section.specs.declared.Fault.TheVariants as F
use Rattle.section.specs.declared.Refusal.{Refusal}
use Rattle.section.specs.Refusal.{refusal, checked_of}
use Rattle.section.specs.Section as S
use Rattle.portacl.specs.declared.Entry.{Entry}
use Rattle.portacl.specs.declared.Protocol.{Protocol}
use Rattle.portacl.specs.declared.Protocol.TheVariants.{Tcp, Udp}
use Rattle.portacl.specs.Portacl.{bind, Bind, protocol_word, entries, entry_fault, portacl_fault}
use Rattle.portacl.specs.Code.{entry_data, entries_data, grants_to, fault_in, is_for, noted, notes}
use Rattle.portacl.proofs.WalkLaws.{entries_from, next}
use Rattle.portacl.proofs.DecideLaws.{grants_of, entries_entries_data}

-- ## The fault

fault_in_entry_fault : (n : ℕ) (es : List (Option Entry)) → entry_fault n (map grants_of es) ≡ fault_in n es
unfolding entry_fault fault_in
fault_in_entry_fault n [] = refl
fault_in_entry_fault n (None ∷ es) = refl
fault_in_entry_fault n (Some x ∷ es) = fault_in_entry_fault (n + 1) es

pub portacl_fault_fault_in : (t : List ℕ) → portacl_fault t ≡ fault_in 1 (entries_data t)
unfolding portacl_fault
portacl_fault_fault_in t = rw (entries_entries_data t) (fault_in_entry_fault 1 (entries_data t))

-- ## The walk

-- at the place at: n is the next entry's number, and m and u are what was noted so far, of m₀ and u₀
pub record Noting (t : List ℕ) (uid : ℕ) (m₀ u₀ m u : List ℕ) (n at : ℕ) : Type 0 where
  pub within : at ≤ length t + 1
  pub numbered : n ≤ at + 1
  pub long : length m ≡ length m₀
  pub long_too : length u ≡ length u₀
  pub fault : fault_in 1 (entries_data t) ≡ fault_in n (entries_from at t)
  pub over_tcp : notes uid Tcp (entries_data t) m₀ ≡ notes uid Tcp (entries_from at t) m
  pub over_udp : notes uid Udp (entries_data t) u₀ ≡ notes uid Udp (entries_from at t) u

pub note_empty : (t : List ℕ) → length t ≡ 0 → Ok tt ≡ checked_of (portacl_fault t)
unfolding fault_in entries_data
note_empty [] e = rw (portacl_fault_fault_in [])
note_empty (x ∷ t) e = absurd (omega arith)

pub notes_empty : (t : List ℕ) (uid : ℕ) (p : Protocol) (m : List ℕ) → length t ≡ 0 → m ≡ notes uid p (entries_data t) m
unfolding notes entries_data
notes_empty [] uid p m e = refl
notes_empty (x ∷ t) uid p m e = absurd (omega arith)

pub noting_start : (t : List ℕ) (uid : ℕ) (m u : List ℕ) → (length t ≡ 0 → ⊥) → Noting t uid m u m u 1 0
unfolding entries_data entries_from
noting_start [] uid m u n = absurd (n refl)
noting_start (x ∷ t) uid m u n = record {
  within = omega arith;
  numbered = omega arith;
  long = refl;
  long_too = refl;
  fault = rw (le-leb 0 (length (x ∷ t)) (omega arith));
  over_tcp = rw (le-leb 0 (length (x ∷ t)) (omega arith));
  over_udp = rw (le-leb 0 (length (x ∷ t)) (omega arith));
}

length_noted : (uid : ℕ) (p : Protocol) (x : Entry) (m : List ℕ) → length (noted uid p x m) ≡ length m
unfolding noted
length_noted uid p x m = by (is_for uid p x && ltb x.port (length m))
  where
    by : (b : Bool) → length (when b then set m x.port 1 else m) ≡ length m
    by true = length-set m x.port 1
    by false = refl

-- one entry
module _ (uid : ℕ) (p : Protocol) (x : Entry) (m : List ℕ) (s : Bool) (is-s : s ≡ equal (protocol_word x.protocol) (protocol_word p)) where
  module _ (own : (s && not x.group && eqb x.id uid) ≡ true) where
    is_own_lem : is_for uid p x ≡ true
    is_own_lem = rw (← is-s) own

    pub noted_set : x.port < length m → set m x.port 1 ≡ noted uid p x m
    unfolding noted
    noted_set h = rw (is_own_lem, lt-ltb x.port (length m) h)

    pub noted_past : length m ≤ x.port → m ≡ noted uid p x m
    unfolding noted
    noted_past h = rw (is_own_lem, le-ltb x.port (length m) h)

  pub noted_other : (s && not x.group && eqb x.id uid) ≡ false → m ≡ noted uid p x m
  unfolding noted
  noted_other e = let other : is_for uid p x ≡ false = rw (← is-s) e in rw other

module _ (t : List ℕ) (uid : ℕ) (m₀ u₀ m u : List ℕ) (n at : ℕ) (w : Noting t uid m₀ u₀ m u n at) where
  module _ (h : length t < at) where
    pub noting_end : Ok tt ≡ checked_of (portacl_fault t)
    unfolding fault_in entries_from
    noting_end = rw (portacl_fault_fault_in t, w.fault, lt-leb at (length t) h)

    pub noting_end_tcp : m ≡ notes uid Tcp (entries_data t) m₀
    unfolding notes entries_from
    noting_end_tcp = sym (w.over_tcp ∙ rw (lt-leb at (length t) h))

    pub noting_end_udp : u ≡ notes uid Udp (entries_data t) u₀
    unfolding notes entries_from
    noting_end_udp = sym (w.over_udp ∙ rw (lt-leb at (length t) h))

  module _ (h : at ≤ length t) (i : ℕ) (is-i : i ≡ index_of 44 (take (length t - at) (drop at t))) (l : i ≤ length (take (length t - at) (drop at t)))
      (r : Option Entry) (is-r : r ≡ entry_data (take (at + i - at) (drop at t))) where
    more : entries_from at t ≡ entry_data (take (at + i - at) (drop at t)) ∷ entries_from (at + i + 1) t
    more =
        let q : at + i - at ≡ i = omega arith in
        rw (q, next t at i h (rw (take_rest t at) at is-i))

    module _ (e : r ≡ None) where
      none_read : entry_data (take (at + i - at) (drop at t)) ≡ None
      none_read = sym is-r ∙ e

      pub noting_bad : (f : Refusal) → f ≡ refusal F.BadEntry (S.portacl).order n → Err f ≡ checked_of (portacl_fault t)
      unfolding fault_in
      noting_bad f is_f = rw (portacl_fault_fault_in t, w.fault, more, none_read, is_f)

      pub noting_bad_tcp : m ≡ notes uid Tcp (entries_data t) m₀
      unfolding notes
      noting_bad_tcp = sym (w.over_tcp ∙ rw (more, none_read))

      pub noting_bad_udp : u ≡ notes uid Udp (entries_data t) u₀
      unfolding notes
      noting_bad_udp = sym (w.over_udp ∙ rw (more, none_read))

    pub noting_on : (x : Entry) → r ≡ Some x → (m' u' : List ℕ) → m' ≡ noted uid Tcp x m → u' ≡ noted uid Udp x u
        → Noting t uid m₀ u₀ m' u' (n + 1) (at + i + 1)
    unfolding notes fault_in
    noting_on x e m' u' is_m is-u =
        let here = sym is-r ∙ e in
        record {
          within = let k : i ≤ length t - at = rw (take_rest t at, length-drop at t) at l in omega arith;
          numbered = let k = w.numbered in omega arith;
          long = ap length is_m ∙ length_noted uid Tcp x m ∙ w.long;
          long_too = ap length is-u ∙ length_noted uid Udp x u ∙ w.long_too;
          fault = w.fault ∙ rw (more, here);
          over_tcp = w.over_tcp ∙ rw (more, here, is_m);
          over_udp = w.over_udp ∙ rw (more, here, is-u);
        }

-- ## What is noted

-- without groups an entry grants what is the user id's own
pub granted_alone : (uid : ℕ) (p : Protocol) (port : ℕ) (x : Entry) → grants_to x (bind uid [] p port) ≡ (is_for uid p x && eqb x.port port)
unfolding grants_to any
granted_alone uid p port x = by (equal (protocol_word x.protocol) (protocol_word p)) (eqb x.port port) x.group (eqb x.id uid) refl
  where
    by : (a b g q : Bool) → eqb x.id uid ≡ q → (a && b && any (eqb x.id) (when g then [] else uid ∷ [])) ≡ (a && not g && eqb x.id uid && b)
    by false b g q e = refl
    by true false true q e = refl
    by true false false true e = rw e
    by true false false false e = rw e
    by true true true q e = refl
    by true true false true e = rw e
    by true true false false e = rw e

noted_here : (uid : ℕ) (p : Protocol) (x : Entry) (m : List ℕ) (port : ℕ) → port < length m
    → get_or (noted uid p x m) port 0 ≡ (when grants_to x (bind uid [] p port) then 1 else get_or m port 0)
unfolding noted
noted_here uid p x m port h = rw (granted_alone uid p port x) (by (is_for uid p x) (eqb x.port port) refl (ltb x.port (length m)) refl)
  where
    by : (f q : Bool) → eqb x.port port ≡ q → (l : Bool) → ltb x.port (length m) ≡ l
        → get_or (when f && ltb x.port (length m) then set m x.port 1 else m) port 0 ≡ (when f && eqb x.port port then 1 else get_or m port 0)
    by false q e l k = refl
    by true true e true k =
        let same : x.port ≡ port = eqb-true x.port port e in
        rw (e, k, same) (get_or-set_same m port 1 0 h)
    by true true e false k =
        let same : x.port ≡ port = eqb-true x.port port e in
        let far : length m ≤ x.port = ltb-false x.port (length m) k in
        absurd (omega arith)
    by true false e true k = rw (e, k) (get_or-set_other m x.port port 1 0 (λ z. eqb-false x.port port e (sym z)))
    by true false e false k = rw (e, k)

-- whether an entry of es grants the user id alone the port
abbrev pub granting : ℕ → Protocol → ℕ → List (Option Entry) → Bool
granting uid p port es = any (holds λ x. grants_to x (bind uid [] p port)) es

notes_from : (uid : ℕ) (p : Protocol) (n : ℕ) (es : List (Option Entry)) (m : List ℕ) (port : ℕ) → port < length m → fault_in n es ≡ None
    → get_or (notes uid p es m) port 0 ≡ (when granting uid p port es then 1 else get_or m port 0)
unfolding notes fault_in any
notes_from uid p n [] m port h e = refl
notes_from uid p n (None ∷ es) m port h e = let z : ◌≡◌ {A = ℕ} 0 1 = cc in absurd (omega arith)
notes_from uid p n (Some x ∷ es) m port h e =
    notes_from uid p (n + 1) es (noted uid p x m) port (rw (length_noted uid p x m) h) e
    ∙ rw (noted_here uid p x m port h) (by (grants_to x (bind uid [] p port)) (granting uid p port es))
  where
    by : (a b : Bool) → (when b then 1 else when a then 1 else get_or m port 0) ≡ (when a || b then 1 else get_or m port 0)
    by true true = refl
    by true false = refl
    by false b = refl

pub any_granted : (b : Bind) (es : List (Option Entry)) → any (holds λ grants. grants b) (map grants_of es) ≡ any (holds λ x. grants_to x b) es
unfolding any
any_granted b [] = refl
any_granted b (None ∷ es) = any_granted b es
any_granted b (Some x ∷ es) = ap (λ (z : Bool). grants_to x b || z) (any_granted b es)

pub notes_here : (uid : ℕ) (p : Protocol) (t m : List ℕ) (port : ℕ) → port < length m → portacl_fault t ≡ None
    → get_or (notes uid p (entries_data t) m) port 0 ≡ (when any (holds λ grants. grants (bind uid [] p port)) (entries t) then 1 else get_or m port 0)
notes_here uid p t m port h e =
    rw (entries_entries_data t, any_granted (bind uid [] p port) (entries_data t))
    (notes_from uid p 1 (entries_data t) m port h (sym (portacl_fault_fault_in t) ∙ e))
