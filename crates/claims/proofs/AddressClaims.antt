-- Reading what was written gives the address back; leading bits are compared as one by one.
-- Assumes nothing.
use Prim.Native.Nat.{ℕ, ◌<◌, ◌^◌}
use mathlib.Core.Bool.{Bool, true, false}
use mathlib.Core.List.{List}
use mathlib.Core.Path.{◌≡◌, refl, sym, ap, ◌∙◌}
use native.Mathlib.Omega.{arith}
use borrow.Author.Tests.{ltb-true}
use lib.ListN.{length}
use lib.Dec.{ltb}
use Rattle.text.specs.Basics.{given}
use Rattle.section.specs.declared.Fault.TheVariants as F
use Rattle.section.specs.Refusal.{placeless}
use Rattle.address.specs.declared.Addr.{Addr}
use Rattle.address.specs.declared.Addr.TheVariants as A
use Rattle.address.specs.Address.{addr_text, read_address, write_address}
use Rattle.address.proofs.PrefixLaws.{same_prefix_bits}
use Rattle.address.proofs.ReadText.{read_address_addr_text_v4, read_address_addr_text_v6}
use Rattle.sheet.proofs.FrameLaws.{refusing_answered}
use Rattle.codes.specs.Requests.{address_of, write_by}
use Rattle.codes.specs.Answers.{written_answer, address_with, address_answer}
use Rattle.gate.specs.Calls.{wrote}
use Rattle.claims.specs.Claims.{front, ReadWritten, BitByBit}
use Rattle.claims.proofs.AnswerLaws.{written_answered}

address_written : (a : Addr) (out : List ℕ) → (written_answer (write_address a (length out))).number ≡ 0 → front (wrote out (write_address a (length out)))
    ≡ addr_text a
unfolding write_address
address_written a out e =
    let w = written_answered out (write_address a (length out)) e in
    w.2 ∙ sym (refusing_answered (given (ltb (length out) (length (addr_text a))) (placeless F.NoRoom)) (addr_text a) w.0 w.1).1

read_v4_lem : (low : ℕ) → low < 2 ^ 32 → address_answer (read_address (addr_text (A.V4 low))) ≡ address_with 4 0 low
unfolding address_answer
read_v4_lem low h = rw (read_address_addr_text_v4 low h)

read_v6_lem : (high low : ℕ) → high < 2 ^ 64 → low < 2 ^ 64 → address_answer (read_address (addr_text (A.V6 high low))) ≡ address_with 6 high low
unfolding address_answer
read_v6_lem high low h k = rw (read_address_addr_text_v6 high low h k)

module _ (high low room : ℕ) where
  write_v4 : ltb low (2 ^ 32) ≡ true → write_by 4 high low room ≡ write_address (A.V4 low) room
  unfolding write_by address_of
  write_v4 e = rw e

  over_v4 : ltb low (2 ^ 32) ≡ false → (written_answer (write_by 4 high low room)).number ≡ 13
  unfolding write_by address_of written_answer
  over_v4 e = rw e

  write_v6 : write_by 6 high low room ≡ write_address (A.V6 high low) room
  unfolding write_by address_of
  write_v6 = refl

v4 : (high low : ℕ) (out : List ℕ) → (written_answer (write_by 4 high low (length out))).number ≡ 0
    → address_answer (read_address (front (wrote out (write_by 4 high low (length out))))) ≡ address_with 4 0 low
v4 high low out = by (ltb low (2 ^ 32)) refl
  where
    by : (b : Bool) → ltb low (2 ^ 32) ≡ b → (written_answer (write_by 4 high low (length out))).number ≡ 0
        → address_answer (read_address (front (wrote out (write_by 4 high low (length out))))) ≡ address_with 4 0 low
    by true f e =
        let same = write_v4 high low (length out) f in
        ap (λ o. address_answer (read_address (front (wrote out o)))) same
        ∙ ap (λ t. address_answer (read_address t)) (address_written (A.V4 low) out (rw same at e))
        ∙ read_v4_lem low (ltb-true low (2 ^ 32) f)
    by false f e = let z : ◌≡◌ {A = ℕ} 13 0 = sym (over_v4 high low (length out) f) ∙ e in absurd (omega arith)

v6 : (high low : ℕ) (out : List ℕ) → high < 2 ^ 64 → low < 2 ^ 64 → (written_answer (write_by 6 high low (length out))).number ≡ 0
    → address_answer (read_address (front (wrote out (write_by 6 high low (length out))))) ≡ address_with 6 high low
v6 high low out h k e =
    let same = write_v6 high low (length out) in
    ap (λ o. address_answer (read_address (front (wrote out o)))) same
    ∙ ap (λ t. address_answer (read_address t)) (address_written (A.V6 high low) out (rw same at e))
    ∙ read_v6_lem high low h k

pub read_written : ReadWritten
read_written = record { v4 = v4; v6 = v6 }

pub bit_by_bit : BitByBit
bit_by_bit = same_prefix_bits
