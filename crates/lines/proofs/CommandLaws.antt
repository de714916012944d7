-- Laws of trimming and of the bytes that a percent takes, shaped as the calls and tests of the code hand their facts over.
-- Assumes nothing.
use Prim.Native.Nat.{ℕ, zero, suc, ◌+◌, ◌-◌, ◌≤◌, ◌<◌}
use native.Mathlib.Numerals.{add-one, sub-one}
use native.Mathlib.Omega.{arith}
use mathlib.Core.Path.{◌≡◌, refl, sym, ap, ◌∙◌}
use mathlib.Core.Bool.{Bool, true, false, not, ◌||◌, or-false}
use mathlib.Core.List.{List, [], ◌∷◌, ◌++◌, reverse, reverse-append, reverse-reverse}
use lib.Dec.{eqb}
use lib.ListN.{length, take, drop, get_or, length-reverse, take-append-drop, drop_of_length-le}
use lib.Seq.{drop-cons, take-suc, take_at, length-take-le}
use borrow.Author.Tests.{ne_eqb}
use Rattle.text.specs.Basics.{any}
use Rattle.text.specs.Text.{among}
use Rattle.text.specs.Scan.{span_len}
use Rattle.text.proofs.ScanLaws.{take_rest}
use Rattle.lines.specs.Line.{join}
use Rattle.lines.specs.Command.{skip_blanks, trimmed, pieces, has_bad_percent}
use Rattle.lines.specs.Parts.{is_blank_byte, unblanked_length, trim_blanks, any_bad_percent}

-- ## Trimming

skip_blanks_drop : (s : List ℕ) → skip_blanks s ≡ drop (span_len is_blank_byte s) s
unfolding skip_blanks span_len is_blank_byte
skip_blanks_drop [] = refl
skip_blanks_drop (x ∷ t) = by (among " \t" x) refl (skip_blanks_drop t)
  where
    by : (b : Bool) → among " \t" x ≡ b → skip_blanks t ≡ drop (span_len is_blank_byte t) t → skip_blanks (x ∷ t) ≡ drop (span_len is_blank_byte (x ∷ t)) (x ∷ t)
    by true e h = rw e h
    by false e h = rw e

-- the bytes of s from e on are blank
pub record Trimmed (s : List ℕ) (e : ℕ) : Type 0 where
  pub within : e ≤ length s
  pub text : skip_blanks (reverse s) ≡ skip_blanks (reverse (take e s))

reverse_take : (s : List ℕ) (e : ℕ) → 0 < e → e ≤ length s → reverse (take e s) ≡ get_or s (e - 1) 0 ∷ reverse (take (e - 1) s)
reverse_take s zero l m = absurd (omega arith)
reverse_take s (suc k) l m = rw (sub-one, take-suc s k 0) (reverse-append (take k s) (get_or s k 0 ∷ []))

module _ (s : List ℕ) (e : ℕ) (h : Trimmed s e) where
  pub unblanked_end : e ≤ 0 → e ≡ unblanked_length s
  unfolding unblanked_length skip_blanks
  unblanked_end l = let z : e ≡ 0 = omega arith in rw (h.text, z)

  module _ (l : 0 < e) (x : Bool) (is_x : x ≡ is_blank_byte (get_or s (e - 1) 0)) where
    pub unblanked_stop : x ≡ false → e ≡ unblanked_length s
    unfolding unblanked_length skip_blanks is_blank_byte
    unblanked_stop f = rw (h.text, reverse_take s e l h.within, ← is_x, f, length-reverse, length-take-le (e - 1) s (omega arith)) (omega arith)

    pub trimmed_more : x ≡ true → Trimmed s (e - 1)
    unfolding skip_blanks is_blank_byte
    trimmed_more f = record { within = omega arith; text = h.text ∙ rw (reverse_take s e l h.within, ← is_x, f) }

-- what stands before the blanks at the end
take_reverse : (p q : List ℕ) → take (length q) (reverse (p ++ q)) ≡ reverse q
take_reverse p q = rw reverse-append (take_at (reverse q) (reverse p) (length q) (length-reverse q))

take_reverse_drop : (k : ℕ) (r : List ℕ) → take (length (drop k r)) (reverse r) ≡ reverse (drop k r)
take_reverse_drop k r =
    ap (λ (u : List ℕ). take (length (drop k r)) (reverse u)) (sym (take-append-drop k r)) ∙ take_reverse (take k r) (drop k r)

take_unblanked : (t : List ℕ) → take (unblanked_length t) t ≡ reverse (skip_blanks (reverse t))
unfolding unblanked_length
take_unblanked t =
    rw (skip_blanks_drop (reverse t))
    (ap (take (length (drop (span_len is_blank_byte (reverse t)) (reverse t)))) (sym (reverse-reverse t))
    ∙ take_reverse_drop (span_len is_blank_byte (reverse t)) (reverse t))

-- the part that the code returns
pub trim_part : (s : List ℕ) (a n : ℕ) → a ≡ span_len is_blank_byte s → n ≡ unblanked_length (take (length s - a) (drop a s))
    → take n (take (length s - a) (drop a s)) ≡ trim_blanks s
unfolding trim_blanks
trim_part s a n e f = rw (f, take_rest s a, e, ← skip_blanks_drop s) (take_unblanked (skip_blanks s))

pub trimmed_join : (t : List ℕ) → trimmed t ≡ trim_blanks (join t)
unfolding trimmed trim_blanks
trimmed_join t = refl

-- ## The bytes that a percent takes

-- a byte that is no percent; a percent before the byte y
any_bad_percent_other : (x : ℕ) (t : List ℕ) → eqb x 37 ≡ false → any_bad_percent (x ∷ t) ≡ any_bad_percent t
unfolding any_bad_percent pieces any
any_bad_percent_other x [] e = rw (or-false, e)
any_bad_percent_other x (y ∷ t) e = rw (or-false, e)

any_bad_percent_pair : (y : ℕ) (t : List ℕ) → any_bad_percent (37 ∷ y ∷ t) ≡ (not (among "aAnNhHucdsp%" y) || any_bad_percent t)
unfolding any_bad_percent pieces any
any_bad_percent_pair y t = refl

-- no percent that stands before the place i is bad
pub record Checked (s : List ℕ) (i : ℕ) : Type 0 where
  pub within : i ≤ length s
  pub text : any_bad_percent s ≡ any_bad_percent (drop i s)

pub checked_none : (s : List ℕ) → Checked s 0
checked_none s = record { within = omega arith; text = refl }

module _ (s : List ℕ) (i : ℕ) (h : Checked s i) where
  pub checked_end : length s ≤ i → false ≡ any_bad_percent s
  unfolding any_bad_percent pieces any
  checked_end l = sym (h.text ∙ rw (drop_of_length-le s l))

  module _ (l : i < length s) where
    pub checked_other : (get_or s i 0 ≡ 37 → ⊥) → Checked s (i + 1)
    checked_other n = record {
      within = omega arith;
      text = h.text ∙ rw (add-one, drop-cons s i 0) (any_bad_percent_other (get_or s i 0) (drop (suc i) s) (ne_eqb (get_or s i 0) 37 n));
    }

    module _ (p : get_or s i 0 ≡ 37) where
      percent_here : drop i s ≡ 37 ∷ drop (i + 1) s
      percent_here = rw (drop-cons s i 0, p, add-one)

      pub bad_end : length s ≤ i + 1 → true ≡ any_bad_percent s
      unfolding any_bad_percent pieces any
      bad_end k = sym (h.text ∙ rw (percent_here, drop_of_length-le s k))

      module _ (k : i + 1 < length s) (x : Bool) (is_x : x ≡ among "aAnNhHucdsp%" (get_or s (i + 1) 0)) where
        taken : any_bad_percent s ≡ (not x || any_bad_percent (drop (i + 2) s))
        taken =
            let two : suc (i + 1) ≡ i + 2 = omega arith in
            h.text ∙ rw (percent_here, drop-cons s (i + 1) 0 k, two, is_x) (any_bad_percent_pair (get_or s (i + 1) 0) (drop (i + 2) s))

        pub bad_byte : x ≡ false → true ≡ any_bad_percent s
        bad_byte f = sym (taken ∙ rw f)

        pub checked_pair : x ≡ true → Checked s (i + 2)
        checked_pair f = record { within = omega arith; text = taken ∙ rw f }

pub has_bad_percent_trimmed : (c : List ℕ) → has_bad_percent c ≡ any_bad_percent (trim_blanks (join c))
unfolding has_bad_percent any_bad_percent trimmed trim_blanks
has_bad_percent_trimmed c = refl
