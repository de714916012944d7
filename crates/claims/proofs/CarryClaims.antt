-- Request 13: the lines that are written grant what the list grants, and are never more than the list.
-- Assumes nothing.
use Rattle.std.specs.Prelude.{None, Ok, Option, Some}
use Prim.Native.Nat.{ℕ, ◌+◌, ◌≤◌, ◌<◌, ◌^◌}
use native.Mathlib.Omega.{arith}
use mathlib.Core.Bool.{Bool, true, false, not, ◌&&◌, ◌||◌}
use mathlib.Core.List.{List, [], ◌∷◌, ◌++◌}
use mathlib.Core.Path.{◌≡◌, refl, sym, ap, ap₂, ◌∙◌}
use borrow.Author.Tests.{lt-ltb, le-ltb, le-leb, lt-leb, ne_eqb, eqb-false, ltb-false}
use lib.Dec.{ltb, eqb}
use lib.ListN.{length, take, drop}
use lib.Seq.{take_at}
use mathlib.Core.Bool.{true≢false}
use Rattle.text.specs.Basics.{when◌then◌else◌, ◌or_else◌, given, holds, any}
use Rattle.text.specs.Text.{split}
use Rattle.section.specs.declared.Fault.TheVariants as F
use Rattle.section.specs.declared.Refusal.{Refusal}
use Rattle.section.specs.Refusal.{Outcome, placeless, refusing, within_rooms}
use Rattle.section.specs.Section as S
use Rattle.section.specs.Section.{over_limit}
use Rattle.address.specs.declared.Addr.{Addr}
use Rattle.address.specs.declared.Addr.TheVariants as A
use Rattle.byuid.specs.declared.Decision.TheVariants.{Granted, NoLine}
use Rattle.byuid.specs.declared.Mark.{Mark}
use Rattle.byuid.specs.declared.Mark.TheVariants.{Plain, Marked}
use Rattle.byuid.specs.Byuid.{line_grants, is_ruled, in_span, byuid_decision, bind, file_bind, from_file, address_known, byuid_fault, decide_byuid}
use Rattle.portacl.specs.declared.Protocol.{Protocol}
use Rattle.portacl.specs.declared.Protocol.TheVariants.{Tcp, Udp}
use Rattle.portacl.specs.declared.Decision.TheVariants as P
use Rattle.portacl.specs.Portacl as Portacl
use Rattle.portacl.specs.Portacl.{entries, portacl_fault, portacl_decision, decide_portacl}
use Rattle.carry.specs.Carry.{has_entry, carried, span_lines, plain_text, marked_text, carry}
use Rattle.carry.proofs.SizeLaws.{texts_small}
use Rattle.carry.proofs.GrantLaws.{Somewhere, at_v4, at_v6, span_grants, never_retired}
use Rattle.sheet.proofs.FrameLaws.{bind_answered, refusing_answered, given_none}
use Rattle.sheet.proofs.TextsLaws.{or_else_none}
use Rattle.codes.specs.Requests.{address_of, mark_of, protocol_of, is_port, byuid_bind, byuid_file_bind, portacl_bind}
use Rattle.codes.specs.Answers.{word_answer, byuid_answer, portacl_answer, written_two_answer}
use Rattle.gate.specs.Calls.{gate_byuid, gate_portacl, gate_carry}
use Rattle.claims.specs.CarriedOver.{strict, grants_both, Address, v4, v6, plain_written, marked_written, granted_if, CarriedOver}
use Rattle.claims.proofs.AnswerLaws.{two_answered}

-- ## What was carried over

-- of a call that is answered: the list is sound and within its limit, and both texts are those of its ports
record Carried (list : List ℕ) (uid room other : ℕ) (p : List ℕ × List ℕ) : Type 0 where
  short : length list ≤ 4096
  sound : portacl_fault list ≡ None
  caller : eqb uid 0 ≡ false
  texts : p ≡ (plain_text (carried list uid), marked_text (carried list uid))

carry_answered : (list : List ℕ) (uid room other : ℕ) (p : List ℕ × List ℕ) → carry list uid room other ≡ Ok p → Carried list uid room other p
unfolding carry
carry_answered list uid room other p e =
    let ts : List ℕ × List ℕ = (plain_text (carried list uid), marked_text (carried list uid)) in
    let faults : Option Refusal = over_limit S.portacl list or_else portacl_fault list or_else given (eqb uid 0) (placeless F.BadRequest) in
    let r = bind_answered (refusing faults ts) (within_rooms room other) p e in
    let q = refusing_answered faults ts r.0 r.1 in
    let w = refusing_answered (given (ltb room (length r.0.0) || ltb other (length r.0.1)) (placeless F.NoRoom)) r.0 p r.2 in
    let o = or_else_none (over_limit S.portacl list or_else portacl_fault list) (given (eqb uid 0) (placeless F.BadRequest)) q.0 in
    let l = or_else_none (over_limit S.portacl list) (portacl_fault list) o.0 in
    record {
      short = ltb-false 4096 (length list) (given_none (ltb 4096 (length list)) _ l.0);
      sound = l.1;
      caller = given_none (eqb uid 0) (placeless F.BadRequest) o.1;
      texts = sym (q.1 ∙ w.1);
    }

-- ## By portacl

module _ (list : List ℕ) (uid port : ℕ) (short : length list ≤ 4096) (sound : portacl_fault list ≡ None) (low : port ≤ 1023) where
  listed : (p : Protocol) → decide_portacl list strict (Some (Portacl.bind uid [] p port)) ≡ Ok (when has_entry list uid p port then P.Granted else P.Denied)
  unfolding decide_portacl portacl_decision
  listed p = rw (le-ltb 4096 (length list) short, sound, le-ltb 1023 port low)

  small : is_port port ≡ true
  small = lt-ltb port (2 ^ 16) (omega arith)

  word_is : (b : Bool) → eqb (portacl_answer (Ok (when b then P.Granted else P.Denied))).word 1 ≡ b
  unfolding portacl_answer
  word_is true = refl
  word_is false = refl

  tcp_word : eqb (gate_portacl list strict uid [] 6 port).word 1 ≡ has_entry list uid Tcp port
  unfolding portacl_bind protocol_of
  tcp_word = rw (small, listed Tcp) (word_is (has_entry list uid Tcp port))

  udp_word : eqb (gate_portacl list strict uid [] 17 port).word 1 ≡ has_entry list uid Udp port
  unfolding portacl_bind protocol_of
  udp_word = rw (small, listed Udp) (word_is (has_entry list uid Udp port))

  both_words : grants_both list uid port ≡ carried list uid port
  unfolding carried
  both_words = ap₂ (λ (a b : Bool). a && b) tcp_word udp_word

-- ## By byuid

module _ (t : List ℕ) (m : Mark) (port uid : ℕ) (short : length t ≤ 8192) (kept : byuid_fault t ≡ None) (ruled : is_ruled port uid ≡ true)
    (span : in_span m port ≡ true)
    (b : Bool) where
  line_decided : (a : Addr) → address_known (file_bind m (bind port a uid)) ≡ true → any (line_grants a port) (split "\n" t) ≡ b
      → decide_byuid t (Some (file_bind m (bind port a uid))) ≡ Ok (when b then Granted else NoLine)
  unfolding decide_byuid byuid_decision
  line_decided a k e = rw (le-ltb 8192 (length t) short, kept, k, ruled, span, e)

  address_decided : {kind high low : ℕ} → Address kind high low → is_port port ≡ true → ((a : Addr) → Somewhere a → any (line_grants a port) (split "\n" t) ≡ b)
      → decide_byuid t (from_file m (byuid_bind port kind high low uid)) ≡ Ok (when b then Granted else NoLine)
  unfolding byuid_bind address_of
  address_decided (v4 high low h) small e = rw (lt-ltb low (2 ^ 32) h, small) (line_decided (A.V4 low) refl (e (A.V4 low) (at_v4 low h)))
  address_decided (v6 high low h k) small e = rw small (line_decided (A.V6 high low) refl (e (A.V6 high low) (at_v6 high low h k)))

word_of : (b : Bool) → byuid_answer (Ok (when b then Granted else NoLine)) ≡ word_answer (granted_if b)
unfolding byuid_answer
word_of true = refl
word_of false = refl

-- ## Both together

module _ (list : List ℕ) (uid : ℕ) (plain marked : List ℕ) (e : (gate_carry list uid plain marked).answer.number ≡ 0) where
  f : ℕ → Bool
  f = carried list uid

  found : (p : List ℕ × List ℕ) × (carry list uid (length plain) (length marked) ≡ Ok p)
  found = two_answered (carry list uid (length plain) (length marked)) e

  facts : Carried list uid (length plain) (length marked) found.0
  facts = carry_answered list uid (length plain) (length marked) found.0 found.1

  whole : carry list uid (length plain) (length marked) ≡ Ok (plain_text (carried list uid), marked_text (carried list uid))
  whole = found.1 ∙ ap Ok facts.texts

  plain_is : plain_written (gate_carry list uid plain marked) ≡ plain_text (carried list uid)
  unfolding written_two_answer
  plain_is = rw whole (take_at (plain_text (carried list uid)) (drop (length (plain_text (carried list uid))) plain) (length (plain_text (carried list uid))) refl)

  marked_is : marked_written (gate_carry list uid plain marked) ≡ marked_text (carried list uid)
  unfolding written_two_answer
  marked_is = rw whole (take_at (marked_text (carried list uid)) (drop (length (marked_text (carried list uid))) marked)
      (length (marked_text (carried list uid))) refl)

  longer : (gate_carry list uid plain marked).answer.count + (gate_carry list uid plain marked).answer.other_count ≤ length list
  unfolding written_two_answer
  longer = rw whole (texts_small list uid)

  ruled : (port : ℕ) → 1 ≤ port → port ≤ 1023 → is_ruled port uid ≡ true
  ruled port l h = rw (le-leb 1 port l, le-leb port 1023 h, facts.caller)

  same_word : (port : ℕ) → port ≤ 1023 → word_answer (granted_if (carried list uid port)) ≡ word_answer (granted_if (grants_both list uid port))
  same_word port h = ap (λ (b : Bool). word_answer (granted_if b)) (sym (both_words list uid port facts.short facts.sound h))

  plain_granted : (port : ℕ) {kind high low : ℕ} → Address kind high low → 1 ≤ port → port ≤ 511
      → byuid_answer (decide_byuid (plain_text (carried list uid)) (from_file Plain (byuid_bind port kind high low uid)))
      ≡ word_answer (granted_if (grants_both list uid port))
  plain_granted port a l h =
      let few = texts_small list uid in
      let short = facts.short in
      ap byuid_answer
      (address_decided (plain_text (carried list uid)) Plain port uid (omega arith) (never_retired (carried list uid) 511 1) (ruled port l (omega arith))
      (rw (le-leb 1 port l, le-leb port 511 h))
      (carried list uid port) a (lt-ltb port (2 ^ 16) (omega arith)) (λ x s. span_grants (carried list uid) 511 1 port x s (omega arith) l (omega arith)))
      ∙ word_of (carried list uid port) ∙ same_word port (omega arith)

  marked_granted : (port : ℕ) {kind high low : ℕ} → Address kind high low → 512 ≤ port → port ≤ 1023
      → byuid_answer (decide_byuid (marked_text (carried list uid)) (from_file Marked (byuid_bind port kind high low uid)))
      ≡ word_answer (granted_if (grants_both list uid port))
  marked_granted port a l h =
      let few = texts_small list uid in
      let short = facts.short in
      ap byuid_answer
      (address_decided (marked_text (carried list uid)) Marked port uid (omega arith) (never_retired (carried list uid) 512 512) (ruled port (omega arith) h)
      (rw (le-leb 512 port l, le-leb port 1023 h))
      (carried list uid port) a (lt-ltb port (2 ^ 16) (omega arith)) (λ x s. span_grants (carried list uid) 512 512 port x s (omega arith) l (omega arith)))
      ∙ word_of (carried list uid port) ∙ same_word port h

root_refused : (list plain marked : List ℕ) → (gate_carry list 0 plain marked).answer.number ≡ 0 → ⊥
root_refused list plain marked e = let z : true ≡ false = (facts list 0 plain marked e).caller in true≢false z

pub carried_over : CarriedOver
unfolding byuid_file_bind mark_of
carried_over = record {
  plain_carried = λ list uid plain marked port kind high low e a l h.
      ap (λ (t : List ℕ). gate_byuid t 0 port kind high low uid) (plain_is list uid plain marked e) ∙ plain_granted list uid plain marked e port a l h;
  marked_carried = λ list uid plain marked port kind high low e a l h.
      ap (λ (t : List ℕ). gate_byuid t 1 port kind high low uid) (marked_is list uid plain marked e) ∙ marked_granted list uid plain marked e port a l h;
  never_longer = longer;
  root_turned_away = root_refused;
}
