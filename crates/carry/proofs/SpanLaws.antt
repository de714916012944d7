-- Laws of the lines of a port and of a span of ports, as the code measures and writes them.
-- Assumes nothing.
use Prim.Native.Nat.{ℕ, zero, suc, ◌+◌, ◌*◌, ◌<◌, ◌≤◌}
use mathlib.Core.Bool.{Bool, true, false, ◌&&◌}
use mathlib.Core.List.{List, [], ◌∷◌, ◌++◌}
use mathlib.Core.Path.{◌≡◌, refl, sym, ap, ◌∙◌}
use native.Mathlib.Numerals.{add-one}
use native.Mathlib.Omega.{arith}
use lib.Dec.{eqb}
use lib.ListN.{length, get_or, length-append, get_or-eq_default}
use Rattle.text.specs.Basics.{when◌then◌else◌}
use Rattle.text.specs.Text.{bytes}
use Rattle.text.specs.Number.{decimal}
use Rattle.text.specs.Scan.{put_at, after}
use Rattle.text.proofs.Numeral.{length_numeral}
use Rattle.text.proofs.PasteLaws.{length_put_at, after_nil, put_more}
use Rattle.address_format.proofs.WriteText.{Wrote, wrote_nil, front_room, rest_room, rest_all, second_room, third_room, third_all}
use Rattle.carry.specs.Carry.{port_lines, span_lines}
use Rattle.carry.specs.Code.{in_both, lines_if, address_line}

-- ## Both sets

module _ (tcp udp : List ℕ) (p : ℕ) where
  pub past_tcp : length tcp ≤ p → false ≡ in_both tcp udp p
  unfolding in_both
  past_tcp h = rw (get_or-eq_default tcp 0 h)

  pub past_udp : length udp ≤ p → false ≡ in_both tcp udp p
  unfolding in_both
  past_udp h = rw (get_or-eq_default udp 0 h) (by (eqb (get_or tcp p 0) 1))
    where
      by : (b : Bool) → false ≡ (b && false)
      by true = refl
      by false = refl

  pub both_here : (eqb (get_or tcp p 0) 1 && eqb (get_or udp p 0) 1) ≡ in_both tcp udp p
  unfolding in_both
  both_here = refl

-- ## The lines of a port

append_assoc : (s t u : List ℕ) → (s ++ t) ++ u ≡ s ++ (t ++ u)
append_assoc [] t u = refl
append_assoc (x ∷ s) t u = ap (λ (t : List ℕ). x ∷ t) (append_assoc s t u)

-- one line in its parts
line_parts : (net : List ℕ) (p : ℕ) → address_line net p ≡ net ++ (decimal p ++ bytes "\n")
unfolding address_line
line_parts net p = append_assoc net (decimal p) (bytes "\n")

length_line : (net : List ℕ) (p : ℕ) → length (address_line net p) ≡ length net + (length (decimal p) + 1)
length_line net p =
    ap length (line_parts net p) ∙ length-append net (decimal p ++ bytes "\n") ∙ ap (λ (n : ℕ). length net + n) (length-append (decimal p) (bytes "\n"))

module _ (net : List ℕ) (p : ℕ) (d : List ℕ) (at : ℕ) (room : at + length (address_line net p) ≤ length d) where
  pub line_room : at + length net ≤ length d
  line_room = front_room d (address_line net p) net (decimal p ++ bytes "\n") at (line_parts net p) room

  module _ (o : List ℕ) (m : ℕ) (w : Wrote d o net at m) where
    pub line_room_2 : m + length (decimal p) ≤ length o
    line_room_2 = second_room d (address_line net p) net (decimal p) (bytes "\n") at (line_parts net p) room o m w

    module _ (o2 : List ℕ) (m2 : ℕ) (w2 : Wrote o o2 (decimal p) m m2) where
      pub line_room_3 : m2 + 1 ≤ length o2
      line_room_3 = third_room d (address_line net p) net (decimal p) (bytes "\n") at (line_parts net p) room o m w o2 m2 w2

      pub line_all : (q : List ℕ) (k : ℕ) → Wrote o2 q (bytes "\n") m2 k → Wrote d q (address_line net p) at k
      line_all = third_all d (address_line net p) net (decimal p) (bytes "\n") at (line_parts net p) room o m w o2 m2 w2

-- both lines
abbrev line_v4 : ℕ → List ℕ
line_v4 p = address_line (bytes "0.0.0.0/0,") p

abbrev line_v6 : ℕ → List ℕ
line_v6 p = address_line (bytes "::/0,") p

pub lines_parts : (p : ℕ) → port_lines p ≡ line_v4 p ++ line_v6 p
unfolding address_line
lines_parts p =
    ap (λ (t : List ℕ). t ++ bytes "\n") (append_assoc (line_v4 p) (bytes "::/0,") (decimal p))
    ∙ append_assoc (line_v4 p) (bytes "::/0," ++ decimal p) (bytes "\n")

pub length_port_lines : (p : ℕ) → length (port_lines p) ≡ 17 + 2 * length (decimal p)
length_port_lines p =
    let a = ap length (lines_parts p) ∙ length-append (line_v4 p) (line_v6 p) in
    let v4 : length (line_v4 p) ≡ 10 + (length (decimal p) + 1) = length_line (bytes "0.0.0.0/0,") p in
    let v6 : length (line_v6 p) ≡ 5 + (length (decimal p) + 1) = length_line (bytes "::/0,") p in
    omega arith

module _ (p : ℕ) (d : List ℕ) (at : ℕ) (room : at + length (port_lines p) ≤ length d) where
  pub lines_room : at + length (line_v4 p) ≤ length d
  lines_room = front_room d (port_lines p) (line_v4 p) (line_v6 p) at (lines_parts p) room

  module _ (o : List ℕ) (m : ℕ) (w : Wrote d o (line_v4 p) at m) where
    pub lines_room_2 : m + length (line_v6 p) ≤ length o
    lines_room_2 = rest_room d (port_lines p) (line_v4 p) (line_v6 p) at (lines_parts p) room o m w

    pub lines_all : (q : List ℕ) (k : ℕ) → Wrote o q (line_v6 p) m k → Wrote d q (port_lines p) at k
    lines_all = rest_all d (port_lines p) (line_v4 p) (line_v6 p) at (lines_parts p) room o m w

-- where the port is noted, and where it is not
module _ (f : ℕ → Bool) (p : ℕ) (b : Bool) (is_b : b ≡ f p) where
  module _ (e : b ≡ true) where
    lines_there : lines_if f p ≡ port_lines p
    unfolding lines_if
    lines_there = rw (← is_b, e)

    pub len_there : (k : ℕ) → k ≡ length (decimal p) → 17 + 2 * k ≡ length (lines_if f p)
    len_there k is-k = rw (lines_there, is-k) (sym (length_port_lines p))

    pub room_there : (at : ℕ) (d : List ℕ) → at + length (lines_if f p) ≤ length d → at + length (port_lines p) ≤ length d
    room_there at d h = rw lines_there at h

    pub put_there : (d o : List ℕ) (at n : ℕ) → Wrote d o (port_lines p) at n → Wrote d o (lines_if f p) at n
    put_there d o at n w = rw lines_there w

  module _ (e : b ≡ false) where
    lines_none : lines_if f p ≡ []
    unfolding lines_if
    lines_none = rw (← is_b, e)

    pub len_none : 0 ≡ length (lines_if f p)
    len_none = rw lines_none

    pub put_none : (d : List ℕ) (at : ℕ) → Wrote d d (lines_if f p) at at
    put_none d at = rw lines_none (wrote_nil d at)

pub ten_digits : (p k : ℕ) → k ≡ length (decimal p) → k ≤ 10
ten_digits p k e = omega (arith, (length_numeral 10 10 p).0)

pub few_digits : (p k : ℕ) → k ≡ length (decimal p) → 17 + 2 * k ≤ 37
few_digits p k e = omega (arith, (length_numeral 10 10 p).0)

-- ## A span

append_nil : (s : List ℕ) → s ++ [] ≡ s
append_nil [] = refl
append_nil (x ∷ s) = ap (λ (t : List ℕ). x ∷ t) (append_nil s)

-- one port more
pub span_more : (f : ℕ → Bool) (k p : ℕ) → span_lines f (suc k) p ≡ span_lines f k p ++ lines_if f (p + k)
unfolding span_lines lines_if
span_more f zero p = append_nil (when f p then port_lines p else []) ∙ ap (λ (q : ℕ). when f q then port_lines q else []) (omega arith)
span_more f (suc k) p =
    ap (λ (t : List ℕ). (when f p then port_lines p else []) ++ t) (span_more f k (suc p))
    ∙ sym (append_assoc (when f p then port_lines p else []) (span_lines f k (suc p)) (lines_if f (suc p + k)))
    ∙ ap (λ (q : ℕ). ((when f p then port_lines p else []) ++ span_lines f k (suc p)) ++ lines_if f q) (omega arith)

length_more : (f : ℕ → Bool) (k p : ℕ) → length (span_lines f (suc k) p) ≡ length (span_lines f k p) + length (lines_if f (p + k))
length_more f k p = ap length (span_more f k p) ∙ length-append (span_lines f k p) (lines_if f (p + k))

-- fewer ports have no more lines
span_grows : (f : ℕ → Bool) (k m p : ℕ) → k ≤ m → length (span_lines f k p) ≤ length (span_lines f m p)
unfolding span_lines
span_grows f zero m p h = omega arith
span_grows f (suc k) zero p h = absurd (omega arith)
span_grows f (suc k) (suc m) p h =
    let q = span_grows f k m (suc p) (omega arith) in
    omega (
      arith,
      length-append (when f p then port_lines p else []) (span_lines f k (suc p)),
      length-append (when f p then port_lines p else []) (span_lines f m (suc p)),
    )

-- k ports of count are measured: n bytes
pub record Measuring (f : ℕ → Bool) (from count n k : ℕ) : Type 0 where
  pub within : k ≤ count
  pub bytes : n ≡ length (span_lines f k from)
  pub few : n ≤ k * 37

pub measuring_start : (f : ℕ → Bool) (from count : ℕ) → Measuring f from count 0 0
unfolding span_lines
measuring_start f from count = record { within = omega arith; bytes = refl; few = omega arith }

module _ (f : ℕ → Bool) (from count n k : ℕ) (w : Measuring f from count n k) where
  pub measuring_on : k < count → (m : ℕ) → m ≡ length (lines_if f (from + k)) → m ≤ 37 → Measuring f from count (n + m) (k + 1)
  measuring_on h m e few = record {
    within = omega arith;
    bytes = rw (add-one) (let q = length_more f k from in let b = w.bytes in omega arith);
    few = let b = w.few in omega arith;
  }

  pub measuring_end : count ≤ k → n ≡ length (span_lines f count from)
  measuring_end h = let e : k ≡ count = (let b = w.within in omega arith) in w.bytes ∙ ap (λ (j : ℕ). length (span_lines f j from)) e

-- k ports of count are written over the front of d: o, up to n
pub record Putting (f : ℕ → Bool) (from count : ℕ) (d o : List ℕ) (n k : ℕ) : Type 0 where
  pub within : k ≤ count
  pub long : length o ≡ length d
  pub next : n ≡ length (span_lines f k from)
  pub text : o ≡ after (span_lines f k from) d

pub putting_start : (f : ℕ → Bool) (from count : ℕ) (d : List ℕ) → Putting f from count d d 0 0
unfolding span_lines
putting_start f from count d = record { within = omega arith; long = refl; next = refl; text = sym (after_nil d) }

module _ (f : ℕ → Bool) (from count : ℕ) (d o : List ℕ) (n k : ℕ) (w : Putting f from count d o n k) where
  module _ (room : length (span_lines f count from) ≤ length d) (h : k < count) where
    pub putting_room : n + length (lines_if f (from + k)) ≤ length o
    putting_room =
        let more = length_more f k from in
        let all = span_grows f (suc k) count from (omega arith) in
        let e = w.next in
        let l = w.long in
        omega arith

    pub putting_on : (m : ℕ) (o' : List ℕ) → m ≡ n + length (lines_if f (from + k)) → o' ≡ put_at o n (lines_if f (from + k)) → Putting f from count d o' m (k + 1)
    putting_on m o' is_m is-o = record {
      within = omega arith;
      long = ap length is-o ∙ length_put_at o (lines_if f (from + k)) n putting_room ∙ w.long;
      next = rw add-one (let q = length_more f k from in let e = w.next in omega arith);
      text = rw (add-one, span_more f k from) (put_more d o o' (span_lines f k from) (lines_if f (from + k)) n is-o w.text w.next);
    }

  module _ (h : count ≤ k) where
    all_of_them : k ≡ count
    all_of_them = let b = w.within in omega arith

    pub putting_end : n ≡ length (span_lines f count from)
    putting_end = w.next ∙ ap (λ (j : ℕ). length (span_lines f j from)) all_of_them

    pub putting_text : o ≡ after (span_lines f count from) d
    putting_text = w.text ∙ ap (λ (j : ℕ). after (span_lines f j from) d) all_of_them
