-- Both texts together are never longer than the list: a carried port has two entries, and its lines have fewer bytes than these.
--   texts_small == the plain and the marked text of a list have at most as many bytes as the list
-- Assumes nothing.
use Prim.Native.Nat.{ℕ, zero, suc, ◌+◌, ◌≤◌}
use mathlib.Core.Bool.{Bool, true, false, ◌&&◌}
use mathlib.Core.List.{List, []}
use native.Mathlib.Omega.{arith}
use lib.ListN.{length, length-append}
use Rattle.text.specs.Basics.{when◌then◌else◌}
use Rattle.text.specs.Number.{decimal}
use Rattle.portacl.specs.declared.Protocol.TheVariants.{Tcp, Udp}
use Rattle.portacl.proofs.SizeLaws.{weight, sum_if, sum_split, granted_bytes}
use Rattle.carry.specs.Carry.{has_entry, carried, port_lines, span_lines, plain_text, marked_text}
use Rattle.carry.proofs.SpanLaws.{length_port_lines}

-- ## Both texts

span_sum : (a b : ℕ → Bool) (k p : ℕ) → length (span_lines (λ q. a q && b q) k p) ≤ sum_if a k p + sum_if b k p
unfolding span_lines sum_if weight
span_sum a b zero p = omega arith
span_sum a b (suc k) p =
    let ih = span_sum a b k (suc p) in
    let l = length-append (when a p && b p then port_lines p else []) (span_lines (λ q. a q && b q) k (suc p)) in
    omega (arith, by (a p) (b p))
  where
    by : (x y : Bool) → length (when x && y then port_lines p else []) ≤ (when x then 9 + length (decimal p) else 0) + (when y then 9 + length (decimal p) else 0)
    by true true = let l = length_port_lines p in omega arith
    by true false = omega arith
    by false y = omega arith

pub texts_small : (t : List ℕ) (uid : ℕ) → length (plain_text (carried t uid)) + length (marked_text (carried t uid)) ≤ length t
unfolding carried
texts_small t uid =
    let a : ℕ → Bool = λ q. has_entry t uid Tcp q in
    let b : ℕ → Bool = λ q. has_entry t uid Udp q in
    omega (
      arith,
      span_sum a b 511 1,
      span_sum a b 512 512,
      sum_split a 511 512 1,
      sum_split b 511 512 1,
      granted_bytes t uid 1023 1,
    )
