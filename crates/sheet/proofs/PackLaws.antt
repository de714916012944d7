-- Laws of packing, shaped as the calls and tests of the code hand their facts over.
--   put_count, put_counted, put_sheet == what the writers have written
--   length_sheet_of, sheet_fits == how long a sheet is, and can be
--   pack_refused, pack_no_room, pack_count == the three answers
-- Assumes nothing.
use Rattle.std.specs.Prelude.{Err, None, Ok, Result, ⊤}
use Prim.Native.Nat.{ℕ, ◌+◌, ◌/◌, ◌%◌, ◌≤◌, ◌<◌}
use native.Mathlib.Omega.{arith}
use mathlib.Core.List.{List, [], ◌∷◌, ◌++◌}
use mathlib.Core.Path.{◌≡◌, refl, sym, ap, ◌∙◌}
use borrow.Author.Tests.{lt-ltb}
use lib.ListN.{length, length-append}
use Rattle.text.specs.Number.{to_digits}
use Rattle.text.specs.Scan.{put_at, after}
use Rattle.text.proofs.Digits.{length_to_digits}
use Rattle.text.proofs.PasteLaws.{put_put, put_first, put_more}
use Rattle.section.specs.declared.Fault.TheVariants as F
use Rattle.section.specs.declared.Refusal.{Refusal}
use Rattle.section.specs.Refusal.{placeless, written_of, lent_after, checked_of}
use Rattle.sheet.specs.Sheet.{texts, texts_fault, counted, sheet_of, pack}
use Rattle.sheet.proofs.FrameLaws.{texts_fault_none, answered_pack}
use Rattle.sheet.proofs.TextsLaws.{checked_sound, checked_refused}

-- ## The writers

-- o is d with t written from `at` on, and n is the place after it
abbrev Wrote : List ℕ → List ℕ → List ℕ → ℕ → ℕ → Type 0
Wrote d o t at n = (n ≡ at + length t) × (o ≡ put_at d at t)

pub put_count : (d o : List ℕ) (at n m : ℕ)
    → Wrote d o (n / 256 / 256 / 256 % 256 ∷ n / 256 / 256 % 256 ∷ n / 256 % 256 ∷ n % 256 ∷ []) at m
    → (m ≡ at + 4) × (o ≡ put_at d at (to_digits 256 4 n))
unfolding to_digits
put_count d o at n m w = (omega (arith, w.0), w.1)

length_counted : (t : List ℕ) → length (counted t) ≡ 4 + length t
length_counted t = simp (length-append, length_to_digits 256 4 (length t))

pub put_counted : (d o p t : List ℕ) (at n m : ℕ) → (n ≡ at + 4) × (o ≡ put_at d at (to_digits 256 4 (length t))) → Wrote o p t n m
    → at + 4 + length t ≤ length d → (m ≡ at + 4 + length t) × (p ≡ put_at d at (counted t))
put_counted d o p t at n m w v room =
    let four : length (to_digits 256 4 (length t)) ≡ 4 = length_to_digits 256 4 (length t) in
    (omega (arith, w.0, v.0), put_put d o p (to_digits 256 4 (length t)) t at n v.1 w.1 (omega (arith, w.0)) (omega arith))

-- o is d with the text t after its count written from `at` on, and n is the place after it
abbrev WroteCounted : List ℕ → List ℕ → List ℕ → ℕ → ℕ → Type 0
WroteCounted d o t at n = (n ≡ at + 4 + length t) × (o ≡ put_at d at (counted t))

pub length_sheet_of : (a d b p t : List ℕ) → length (sheet_of (texts a d b p t)) ≡ 16 + length a + length d + length b + length p + length t
unfolding sheet_of
length_sheet_of a d b p t =
    simp length-append
    (omega (arith, length_to_digits 256 4 (length a), length_to_digits 256 4 (length d), length_to_digits 256 4 (length b), length_to_digits 256 4 (length p)))

-- four texts with their counts and then the tables, one after the other
module _ (out a d b p t : List ℕ) (o₁ o₂ o₃ o₄ o₅ : List ℕ) (n₁ n₂ n₃ n₄ n₅ : ℕ) where
  pub put_sheet : WroteCounted out o₁ a 0 n₁ → WroteCounted o₁ o₂ d n₁ n₂ → WroteCounted o₂ o₃ b n₂ n₃ → WroteCounted o₃ o₄ p n₃ n₄ → Wrote o₄ o₅ t n₄ n₅
      → (n₅ ≡ length (sheet_of (texts a d b p t))) × (o₅ ≡ after (sheet_of (texts a d b p t)) out)
  unfolding sheet_of
  put_sheet w₁ w₂ w₃ w₄ w₅ =
      let s₁ = put_first out o₁ (counted a) w₁.1 in
      let s₂ = put_more out o₁ o₂ (counted a) (counted d) n₁ w₂.1 s₁ (omega (arith, w₁.0, length_counted a)) in
      let l₂ = length-append (counted a) (counted d) in
      let e₂ : n₂ ≡ length (counted a ++ counted d) = omega (arith, w₁.0, w₂.0, l₂, length_counted a, length_counted d) in
      let s₃ = put_more out o₂ o₃ (counted a ++ counted d) (counted b) n₂ w₃.1 s₂ e₂ in
      let l₃ = length-append (counted a ++ counted d) (counted b) in
      let e₃ : n₃ ≡ length (counted a ++ counted d ++ counted b) = omega (arith, e₂, w₃.0, l₃, length_counted b) in
      let s₄ = put_more out o₃ o₄ (counted a ++ counted d ++ counted b) (counted p) n₃ w₄.1 s₃ e₃ in
      let l₄ = length-append (counted a ++ counted d ++ counted b) (counted p) in
      let e₄ : n₄ ≡ length (counted a ++ counted d ++ counted b ++ counted p) = omega (arith, e₃, w₄.0, l₄, length_counted p) in
      let l₅ = length-append (counted a ++ counted d ++ counted b ++ counted p) t in
      (omega (arith, e₄, w₅.0, l₅), put_more out o₄ o₅ (counted a ++ counted d ++ counted b ++ counted p) t n₄ w₅.1 s₄ e₄)

-- ## The answers

module _ (a d b p t : List ℕ) (x : Result ⊤ Refusal) (is_x : x ≡ checked_of (texts_fault (texts a d b p t))) where
  pub pack_refused : (r : Refusal) → x ≡ Err r → (out : List ℕ)
      → (Err r ≡ written_of (pack (texts a d b p t) (length out))) × (out ≡ lent_after out (pack (texts a d b p t) (length out)))
  unfolding pack
  pack_refused r e out = rw (checked_refused (texts_fault (texts a d b p t)) r (sym is_x ∙ e)) (refl, refl)

  module _ (e : x ≡ Ok tt) where
    sound : texts_fault (texts a d b p t) ≡ None
    sound = checked_sound (texts_fault (texts a d b p t)) (sym is_x ∙ e)

    -- "the longest sheet is 57,360 bytes"
    pub sheet_fits : 16 + length a + length d + length b + length p + length t ≤ 57360
    sheet_fits = let w = texts_fault_none (texts a d b p t) sound in omega (arith, w.allow, w.deny, w.byuid, w.portacl, w.tables)

    pub pack_no_room : (out : List ℕ) → length out < 16 + length a + length d + length b + length p + length t → (r : Refusal) → r ≡ placeless F.NoRoom
        → (Err r ≡ written_of (pack (texts a d b p t) (length out))) × (out ≡ lent_after out (pack (texts a d b p t) (length out)))
    unfolding pack
    pack_no_room out h r is-r =
        rw (sound, lt-ltb (length out) (length (sheet_of (texts a d b p t))) (omega (arith, length_sheet_of a d b p t)), is-r) (refl, refl)

    pub pack_count : (out o : List ℕ) (n : ℕ) → 16 + length a + length d + length b + length p + length t ≤ length out
        → (n ≡ length (sheet_of (texts a d b p t))) × (o ≡ after (sheet_of (texts a d b p t)) out)
        → (Ok n ≡ written_of (pack (texts a d b p t) (length out))) × (o ≡ lent_after out (pack (texts a d b p t) (length out)))
    unfolding after
    pack_count out o n h w =
        rw (answered_pack (texts a d b p t) (length out) sound (omega (arith, length_sheet_of a d b p t))) (ap Ok w.0, w.1)
