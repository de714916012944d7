-- Parts of some bytes: as the code takes one, and texts that were written one after the other.
--   part_in  == the text b among those at the front of a block
--   four_put == what a block holds after four texts were put into it, one after the other
-- Assumes nothing.
use Prim.Native.Nat.{ℕ, ◌+◌, ◌-◌, ◌≤◌, ◌<◌}
use native.Mathlib.Omega.{arith}
use mathlib.Core.List.{List, ◌++◌, append_assoc}
use mathlib.Core.Path.{◌≡◌, sym, ◌∙◌}
use lib.ListN.{length, take, drop, length-append, drop_of_length-le}
use lib.Seq.{take_at, drop_at, take-nil, take_all, length-take-le}
use Rattle.text.specs.Scan.{put_at, after}
use Rattle.text.proofs.ScanLaws.{take_rest}
use Rattle.text.proofs.PasteLaws.{put_first, put_more}

-- ## A part as the code takes it

module _ (s : List ℕ) (at n : ℕ) where
  pub part_none : length s ≤ at → take 0 s ≡ take n (drop at s)
  part_none h = rw (drop_of_length-le s h) (sym (take-nil n))

  pub part_rest : length (take (length s - at) (drop at s)) ≤ n → take (length s - at) (drop at s) ≡ take n (drop at s)
  part_rest h = rw (take_rest s at) (sym (take_all n (drop at s) (rw (take_rest s at) at h)))

  pub part_front : take n (take (length s - at) (drop at s)) ≡ take n (drop at s)
  part_front = rw (take_rest s at)

  pub part_length : n < length (take (length s - at) (drop at s)) → n ≡ length (take n (take (length s - at) (drop at s)))
  part_length h = sym (length-take-le n (take (length s - at) (drop at s)) (omega arith))

-- ## A text among those at the front of a block

pub part_in : (a b c d o : List ℕ) (n k : ℕ) → o ≡ after (a ++ (b ++ c)) d → n ≡ length a → k ≡ length b → take k (drop n o) ≡ b
unfolding after
part_in a b c d o n k e p q =
    let x : List ℕ = drop (length (a ++ (b ++ c))) d in
    let w : o ≡ a ++ (b ++ (c ++ x)) = e ∙ simp append_assoc in
    rw (w, drop_at a (b ++ (c ++ x)) n (sym p)) (take_at b (c ++ x) k (sym q))

-- ## Four texts, one after the other

-- as four calls of put hand it over
module _ (d o1 o2 o3 o4 s1 s2 s3 s4 : List ℕ) (n1 n2 n3 : ℕ) (p1 : n1 ≡ 0 + length s1) (w1 : o1 ≡ put_at d 0 s1) (p2 : n2 ≡ n1 + length s2)
    (w2 : o2 ≡ put_at o1 n1 s2)
    (p3 : n3 ≡ n2 + length s3) (w3 : o3 ≡ put_at o2 n2 s3) (w4 : o4 ≡ put_at o3 n3 s4) where
  two : o2 ≡ after (s1 ++ s2) d
  two = put_more d o1 o2 s1 s2 n1 w2 (put_first d o1 s1 w1) (omega arith)

  three : o3 ≡ after ((s1 ++ s2) ++ s3) d
  three = put_more d o2 o3 (s1 ++ s2) s3 n2 w3 two (omega (arith, length-append s1 s2))

  pub four_put : o4 ≡ after (((s1 ++ s2) ++ s3) ++ s4) d
  four_put = put_more d o3 o4 ((s1 ++ s2) ++ s3) s4 n3 w4 three (omega (arith, length-append s1 s2, length-append (s1 ++ s2) s3))
