-- Laws of texts written into a lent output one after the other: where the first is written, there is room for the rest, and the rest written
-- after it makes the whole.
-- Assumes nothing.
use Prim.Native.Nat.{ℕ, suc, ◌+◌, ◌≤◌}
use mathlib.Core.List.{List, [], ◌∷◌, ◌++◌}
use mathlib.Core.Path.{◌≡◌, refl, sym, ap}
use native.Mathlib.Numerals.{add-one}
use native.Mathlib.Omega.{arith}
use lib.ListN.{length, take, drop, set, length-append}
use lib.Seq.{set_split, append_snoc, paste-zero}
use Rattle.text.specs.Scan.{put_at}
use Rattle.text.proofs.PasteLaws.{length_put_at, put_put}

-- s was written into d from `at` on, which gave o, and n is the place after it
abbrev pub Wrote : List ℕ → List ℕ → List ℕ → ℕ → ℕ → Type 0
Wrote d o s at n = (n ≡ at + length s) × (o ≡ put_at d at s)

pub wrote_nil : (d : List ℕ) (at : ℕ) → Wrote d d [] at at
unfolding put_at
wrote_nil d at = (omega arith, paste-zero d at [])

pub wrote_byte : (d : List ℕ) (at x : ℕ) → at + 1 ≤ length d → Wrote d (set d at x) (x ∷ []) at (at + 1)
unfolding put_at
wrote_byte d at x h = (refl, rw (set_split d at x (omega arith), add-one) (sym (append_snoc (take at d) x (drop (suc at) d))))

-- the text t is a, which is written first, and then u
module _ (d t a u : List ℕ) (at : ℕ) (whole : t ≡ a ++ u) (room : at + length t ≤ length d) where
  pub front_room : at + length a ≤ length d
  front_room = omega (arith, ap length whole, length-append a u)

  module _ (o : List ℕ) (m : ℕ) (w : Wrote d o a at m) where
    pub rest_room : m + length u ≤ length o
    rest_room = rw (w.0, w.1, length_put_at d a at front_room) (omega (arith, ap length whole, length-append a u))

    pub rest_all : (p : List ℕ) (n : ℕ) → Wrote o p u m n → Wrote d p t at n
    rest_all p n v = rw whole (omega (arith, v.0, w.0, length-append a u), put_put d o p a u at m v.1 w.1 w.0 front_room)

-- the rest is b, and then e
module _ (d t a b e : List ℕ) (at : ℕ) (whole : t ≡ a ++ (b ++ e)) (room : at + length t ≤ length d) (o : List ℕ) (m : ℕ) (w : Wrote d o a at m) where
  left : m + length (b ++ e) ≤ length o
  left = rest_room d t a (b ++ e) at whole room o m w

  pub second_room : m + length b ≤ length o
  second_room = front_room o (b ++ e) b e m refl left

  module _ (p : List ℕ) (n : ℕ) (v : Wrote o p b m n) where
    pub third_room : n + length e ≤ length p
    third_room = rest_room o (b ++ e) b e m refl left p n v

    pub third_all : (q : List ℕ) (k : ℕ) → Wrote p q e n k → Wrote d q t at k
    third_all q k u = rest_all d t a (b ++ e) at whole room o m w q k (rest_all o (b ++ e) b e m refl left p n v q k u)

-- a byte first
module _ (d t : List ℕ) (at x : ℕ) (room : at + length (x ∷ t) ≤ length d) where
  pub byte_room : at + 1 + length t ≤ length (set d at x)
  byte_room = rest_room d (x ∷ t) (x ∷ []) t at refl room (set d at x) (at + 1) (wrote_byte d at x (omega arith))

  pub byte_all : (p : List ℕ) (n : ℕ) → Wrote (set d at x) p t (at + 1) n → Wrote d p (x ∷ t) at n
  byte_all = rest_all d (x ∷ t) (x ∷ []) t at refl room (set d at x) (at + 1) (wrote_byte d at x (omega arith))
