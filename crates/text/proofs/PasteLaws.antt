-- Laws of writing into a lent output d: bytes one after the other, and texts one after the other, from a place on or at its front.
-- Assumes nothing.
use Prim.Native.Nat.{ℕ, ◌+◌, ◌-◌, ◌≤◌}
use mathlib.Core.List.{List, [], ◌++◌, append_assoc}
use mathlib.Core.Path.{◌≡◌, refl, sym, ap, ap₂, ◌∙◌}
use native.Mathlib.Omega.{arith}
use borrow.Rule.Slice.PartMut.{put_mid}
use Rattle.std.proofs.lemmas.Slice.{put_mid-paste}
use Rattle.text.specs.Scan.{put_at, after}
use lib.ListN.{length, take, drop, length-append, length-drop}
use lib.Seq.{paste, paste-zero, length-paste, take-paste, drop-paste, take_at, drop_at, drop-drop, take-length}

-- ## A text, byte by byte

-- the output o is d with the first j bytes of s written from `at` on
pub record Pasted (d s o : List ℕ) (at j : ℕ) : Type 0 where
  pub text : o ≡ paste d at s j
  pub within : j ≤ length s
  pub long : length o ≡ length d

pub pasted_start : (d s : List ℕ) (at : ℕ) → Pasted d s d at 0
pasted_start d s at = record { text = paste-zero d at s; within = omega arith; long = refl }

module _ (d s o : List ℕ) (at j : ℕ) (p : Pasted d s o at j) where
  pub pasted_all : length s ≤ j → o ≡ put_at d at s
  unfolding put_at
  pasted_all h = let e : j ≡ length s = omega (arith, p.within) in rw (← e) p.text

-- what the code's copy of s to out[at..at + s.len()] leaves there
pub put_at_mid : (d s o : List ℕ) (at : ℕ) → o ≡ s → put_mid at (at + length s - at) d o ≡ put_at d at s
unfolding put_at
put_at_mid d s o at e = put_mid-paste at (at + length s - at) d o s (length s) e (omega arith) refl

-- ## Texts one after the other

pub length_put_at : (d s : List ℕ) (at : ℕ) → at + length s ≤ length d → length (put_at d at s) ≡ length d
unfolding put_at
length_put_at d s at room = length-paste d at s (length s) room (omega arith)

-- s and then t, from `at` on
pub put_at_append : (d s t : List ℕ) (at : ℕ) → at + length s ≤ length d → put_at (put_at d at s) (at + length s) t ≡ put_at d at (s ++ t)
unfolding put_at
put_at_append d s t at room =
    let e : at + length s + length t ≡ at + length (s ++ t) = omega (arith, length-append s t) in
    rw (
      take-paste d at s (length s) (omega arith) (omega arith),
      ← (drop-drop (length t) (at + length s) (paste d at s (length s))),
      drop-paste d at s (length s) (omega arith) (omega arith),
      drop-drop (length t) (at + length s) d,
      e,
      take-length s,
      take-length t,
      take-length (s ++ t),
      append_assoc (take at d) s t,
    )

-- the same, as two calls of put hand it over
pub put_put : (d o p s t : List ℕ) (at n : ℕ) → p ≡ put_at o n t → o ≡ put_at d at s → n ≡ at + length s → at + length s ≤ length d → p ≡ put_at d at (s ++ t)
put_put d o p s t at n f e q room = f ∙ rw (e, q) (put_at_append d s t at room)

-- ## Texts at the front of an output

pub after_nil : (d : List ℕ) → after [] d ≡ d
unfolding after
after_nil d = refl

pub length_after : (t d : List ℕ) → length t ≤ length d → length (after t d) ≡ length d
unfolding after
length_after t d h = rw (length-append t (drop (length t) d), length-drop (length t) d) (omega arith)

pub text_more : (d o t s : List ℕ) (n : ℕ) → o ≡ after t d → n ≡ length t → put_at o n s ≡ after (t ++ s) d
unfolding put_at after
text_more d o t s n e f =
    rw (e, f, take-length s)
    (ap₂ (λ (x y : List ℕ). x ++ s ++ y) (take_at t (drop (length t) d) (length t) refl)
    (sym (drop-drop (length s) (length t) (t ++ drop (length t) d)) ∙ ap (drop (length s)) (drop_at t (drop (length t) d) (length t) refl)
    ∙ drop-drop (length s) (length t) d ∙ ap (λ (k : ℕ). drop k d) (sym (length-append t s))))

-- the same, as calls of put hand it over: the first text, and each further one
pub put_first : (d o s : List ℕ) → o ≡ put_at d 0 s → o ≡ after s d
put_first d o s e = e ∙ text_more d d [] s 0 (sym (after_nil d)) refl

pub put_more : (d o p t s : List ℕ) (n : ℕ) → p ≡ put_at o n s → o ≡ after t d → n ≡ length t → p ≡ after (t ++ s) d
put_more d o p t s n f e q = f ∙ text_more d o t s n e q
