-- Laws of the two texts: what is written where both have room, and that what is noted is what the list has.
-- Assumes nothing.
use Rattle.std.specs.Prelude.{Err, None, Ok, Result, ⊤}
use Prim.Native.Nat.{ℕ, zero, suc, ◌+◌, ◌<◌, ◌≤◌}
use mathlib.Core.Bool.{Bool, true, false, ◌&&◌}
use mathlib.Core.List.{List, [], ◌++◌}
use mathlib.Core.Path.{◌≡◌, refl, sym, ap, ap₂, ◌∙◌}
use native.Mathlib.Omega.{arith}
use borrow.Author.Tests.{lt-ltb, le-ltb, eq-eqb, ne_eqb}
use lib.Dec.{ltb, eqb}
use lib.ListN.{length, get_or, replicate, length-replicate, get_or-replicate}
use Rattle.text.specs.Basics.{when◌then◌else◌}
use Rattle.text.specs.Scan.{after}
use Rattle.section.specs.declared.Fault.TheVariants as F
use Rattle.section.specs.declared.Refusal.{Refusal}
use Rattle.section.specs.Refusal.{Outcome, refusal, placeless, within_rooms, first_after, second_after, written_two_of, checked_of}
use Rattle.section.specs.Section as S
use Rattle.portacl.specs.declared.Protocol.{Protocol}
use Rattle.portacl.specs.declared.Protocol.TheVariants.{Tcp, Udp}
use Rattle.portacl.specs.Portacl.{portacl_fault}
use Rattle.portacl.specs.Code.{entries_data, notes}
use Rattle.portacl.proofs.NoteLaws.{notes_here}
use Rattle.portacl.proofs.DecideLaws.{checked_of_refused, checked_of_sound}
use Rattle.carry.specs.Carry.{has_entry, carried, port_lines, span_lines, plain_text, marked_text, carry}
use Rattle.carry.specs.Code.{in_both}

-- the answer r to the outcome o, and what the outputs d and e hold afterwards
abbrev pub Did : List ℕ → List ℕ → Outcome (List ℕ × List ℕ) → Result (ℕ × ℕ) Refusal → List ℕ → List ℕ → Type 0
Did d e o r d' e' = (r ≡ written_two_of o) × ((d' ≡ first_after d o) × (e' ≡ second_after e o))

-- ## Both texts

module _ (f : ℕ → Bool) (d e : List ℕ) (n : ℕ) (is-n : n ≡ length (plain_text f)) where
  abbrev both : Outcome (List ℕ × List ℕ)
  both = within_rooms (length d) (length e) (plain_text f, marked_text f)

  pub no_plain_room : length d < n → (r : Refusal) → r ≡ placeless F.NoRoom → Did d e both (Err r) d e
  no_plain_room h r is-r =
      let t : ltb (length d) (length (plain_text f)) ≡ true = rw (← is-n) (lt-ltb (length d) n h) in
      (rw (t, is-r), (rw t, rw t))

  module _ (h : n ≤ length d) (m : ℕ) (is_m : m ≡ length (marked_text f)) where
    fits : ltb (length d) (length (plain_text f)) ≡ false
    fits = rw (← is-n) (le-ltb (length d) n h)

    pub no_marked_room : length e < m → (r : Refusal) → r ≡ placeless F.NoRoom → Did d e both (Err r) d e
    no_marked_room k r is-r =
        let t : ltb (length e) (length (marked_text f)) ≡ true = rw (← is_m) (lt-ltb (length e) m k) in
        (rw (fits, t, is-r), (rw (fits, t), rw (fits, t)))

    pub both_written : m ≤ length e → (a b : ℕ) (d' e' : List ℕ) → (a ≡ length (plain_text f)) × (d' ≡ after (plain_text f) d)
        → (b ≡ length (marked_text f)) × (e' ≡ after (marked_text f) e) → Did d e both (Ok (a, b)) d' e'
    unfolding after
    both_written k a b d' e' w v =
        let t : ltb (length e) (length (marked_text f)) ≡ false = rw (← is_m) (le-ltb (length e) m k) in
        (rw (fits, t, w.0, v.0), (rw (fits, t) w.1, rw (fits, t) v.1))

-- ## What is noted

span_same : (f g : ℕ → Bool) (k p : ℕ) → ((q : ℕ) → q < p + k → f q ≡ g q) → span_lines f k p ≡ span_lines g k p
unfolding span_lines
span_same f g zero p h = refl
span_same f g (suc k) p h =
    ap₂ (λ (s t : List ℕ). s ++ t) (ap (λ (b : Bool). when b then port_lines p else []) (h p (omega arith))) (span_same f g k (suc p) (λ q l. h q (omega arith)))

one_noted : (b : Bool) → eqb (when b then 1 else 0) 1 ≡ b
one_noted true = refl
one_noted false = refl

module _ (t : List ℕ) (uid : ℕ) (sound : portacl_fault t ≡ None) where
  noted_is : (p : Protocol) (q : ℕ) → q < 1024 → eqb (get_or (notes uid p (entries_data t) (replicate 1024 0)) q 0) 1 ≡ has_entry t uid p q
  noted_is p q h =
      let zeros : List ℕ = replicate 1024 0 in
      let long : length zeros ≡ 1024 = length-replicate {A = ℕ} 1024 0 in
      let zero_there : get_or zeros q 0 ≡ 0 = get_or-replicate {A = ℕ} 1024 q 0 0 h in
      ap (λ (n : ℕ). eqb n 1)
      (notes_here uid p t zeros q (rw long h) sound ∙ ap (λ (n : ℕ). when has_entry t uid p q then 1 else n) zero_there)
      ∙ one_noted (has_entry t uid p q)

  both_noted : (q : ℕ) → q < 1024 → in_both (notes uid Tcp (entries_data t) (replicate 1024 0)) (notes uid Udp (entries_data t) (replicate 1024 0)) q
      ≡ carried t uid q
  unfolding in_both carried
  both_noted q h = ap₂ (λ (a b : Bool). a && b) (noted_is Tcp q h) (noted_is Udp q h)

-- ## The call

module _ (t : List ℕ) (uid : ℕ) (d e : List ℕ) (o : Bool) (is-o : o ≡ ltb (S.portacl).limit (length t)) where
  abbrev outcome : Outcome (List ℕ × List ℕ)
  outcome = carry t uid (length d) (length e)

  pub carry_over : o ≡ true → (r : Refusal) → r ≡ refusal F.OverLimit (S.portacl).order 0 → Did d e outcome (Err r) d e
  unfolding carry
  carry_over h r is-r = (rw (← is-o, h, is-r), (rw (← is-o, h), rw (← is-o, h)))

  module _ (h : o ≡ false) (c : Result ⊤ Refusal) (is_c : c ≡ checked_of (portacl_fault t)) where
    pub carry_bad : (r : Refusal) → c ≡ Err r → Did d e outcome (Err r) d e
    unfolding carry
    carry_bad r q =
        let f = checked_of_refused (portacl_fault t) r (sym is_c ∙ q) in
        (rw (← is-o, h, f), (rw (← is-o, h, f), rw (← is-o, h, f)))

    module _ (q : c ≡ Ok tt) where
      sound : portacl_fault t ≡ None
      sound = checked_of_sound (portacl_fault t) (sym is_c ∙ q)

      pub carry_root : uid ≡ 0 → (r : Refusal) → r ≡ placeless F.BadRequest → Did d e outcome (Err r) d e
      unfolding carry
      carry_root z r is-r = let u = eq-eqb uid 0 z in (rw (← is-o, h, sound, u, is-r), (rw (← is-o, h, sound, u), rw (← is-o, h, sound, u)))

      pub carry_written : (uid ≡ 0 → ⊥) → (tcp udp : List ℕ) → tcp ≡ notes uid Tcp (entries_data t) (replicate 1024 0)
          → udp ≡ notes uid Udp (entries_data t) (replicate 1024 0) → (r : Result (ℕ × ℕ) Refusal) (d' e' : List ℕ)
          → Did d e (within_rooms (length d) (length e) (plain_text (in_both tcp udp), marked_text (in_both tcp udp))) r d' e' → Did d e outcome r d' e'
      unfolding carry
      carry_written z tcp udp is-tcp is-udp r d' e' w =
          let f : ℕ → Bool = carried t uid in
          let same : (q : ℕ) → q < 1024 → in_both tcp udp q ≡ f q = λ q l. ap₂ (λ (x y : List ℕ). in_both x y q) is-tcp is-udp ∙ both_noted t uid sound q l in
          let plain : plain_text (in_both tcp udp) ≡ plain_text f = span_same (in_both tcp udp) f 511 1 (λ q l. same q (omega arith)) in
          let marked : marked_text (in_both tcp udp) ≡ marked_text f = span_same (in_both tcp udp) f 512 512 (λ q l. same q (omega arith)) in
          rw (← is-o, h, sound, ne_eqb uid 0 z, ← plain, ← marked) w
