-- Laws of reading a frame, shaped as the calls and tests of the code hand their facts over.
-- Assumes nothing.
use Rattle.std.specs.Prelude.{Err, Ok, Result}
use Prim.Native.Nat.{ℕ, ◌+◌, ◌-◌, ◌*◌, ◌≤◌, ◌<◌}
use native.Mathlib.Omega.{arith}
use mathlib.Core.List.{List, [], ◌∷◌}
use mathlib.Core.Path.{◌≡◌, sym, ap, ◌∙◌}
use lib.ListN.{length, take, drop, get_or, length-drop, drop_of_length-le}
use borrow.Author.Tests.{le-ltb, lt-ltb}
use Rattle.text.specs.Number.{from_digits}
use Rattle.text.proofs.ScanLaws.{take_rest}
use Rattle.section.specs.declared.Cursor.{Cursor}
use Rattle.section.specs.declared.Fault.TheVariants as F
use Rattle.section.specs.declared.Part.{Part}
use Rattle.section.specs.declared.Refusal.{Refusal}
use Rattle.section.specs.Refusal.{◌>>=◌, refusal}
use Rattle.section.specs.Section as S
use Rattle.section.specs.Section.{Section, part}
use Rattle.section.specs.Code.{cursor_at}
use Rattle.sheet.specs.declared.Parts.{Parts}
use Rattle.sheet.specs.Sheet.{section_at, part_end, rest_after, frame}
use Rattle.sheet.specs.Code.{section_of, from_deny, from_byuid, from_portacl}
use Rattle.sheet.proofs.FrameLaws.{section_at_answered}
use Rattle.sheet.specs.declared.Parts.{Parts}

-- ## One section

pub past_end : (s : List ℕ) (at : ℕ) → length s ≤ at → take 0 s ≡ drop at s
past_end s at h = sym (drop_of_length-le s h)

pub from_place : (s : List ℕ) (at : ℕ) → take (length s - at) (drop at s) ≡ drop at s
from_place s at = take_rest s at

pub count_of_four : (s : List ℕ) → 4 ≤ length s
    → ((get_or s 0 0 * 256 + get_or s 1 0) * 256 + get_or s 2 0) * 256 + get_or s 3 0 ≡ from_digits 256 0 (take 4 s)
unfolding from_digits
count_of_four [] h = absurd (omega arith)
count_of_four (a ∷ []) h = absurd (omega arith)
count_of_four (a ∷ b ∷ []) h = absurd (omega arith)
count_of_four (a ∷ b ∷ c ∷ []) h = absurd (omega arith)
count_of_four (a ∷ b ∷ c ∷ d ∷ s) h = ap (λ (n : ℕ). ((n + b) * 256 + c) * 256 + d) (omega arith)

module _ (sheet : List ℕ) (c : Cursor) (rest : List ℕ) (is-rest : rest ≡ drop c.at sheet) where
  pub count_absent : length rest < 4 → (x : Result Part Refusal) → x ≡ Err (refusal F.CutShort c.order 0)
      → x ≡ section_at (section_of c) c.at sheet
  unfolding section_at
  count_absent h x is_x = rw (← is-rest, lt-ltb (length rest) 4 h) is_x

  module _ (four : 4 ≤ length rest) where
    pub count_place : (m k : ℕ) → k ≤ 4 → length sheet < m → c.at + k < m
    count_place m k less h = omega (arith, length-drop c.at sheet, ap length is-rest)

    module _ (n : ℕ) (is-n : n ≡ from_digits 256 0 (take 4 rest)) where
      pub count_over : c.limit < n → (x : Result Part Refusal) → x ≡ Err (refusal F.OverLimit c.order 0)
          → x ≡ section_at (section_of c) c.at sheet
      unfolding section_at
      count_over h x is_x = rw (← is-rest, le-ltb (length rest) 4 four, ← is-n, lt-ltb c.limit n h) is_x

      module _ (within : n ≤ c.limit) where
        pub bytes_absent : length rest - 4 < n → (x : Result Part Refusal) → x ≡ Err (refusal F.CutShort c.order 0)
            → x ≡ section_at (section_of c) c.at sheet
        unfolding section_at
        bytes_absent h x is_x =
            rw (← is-rest, le-ltb (length rest) 4 four, ← is-n, le-ltb c.limit n within, lt-ltb (length rest) (4 + n) (omega arith)) is_x

        pub section_found : n ≤ length rest - 4 → Ok (part (c.at + 4) n) ≡ section_at (section_of c) c.at sheet
        unfolding section_at
        section_found h =
            rw (← is-rest, le-ltb (length rest) 4 four, ← is-n, le-ltb c.limit n within, le-ltb (length rest) (4 + n) (omega arith))

-- ## The frame

-- what was read at a section's cursor
module _ (s : Section) (at : ℕ)
    (sheet : List ℕ) {c : Cursor} (is_c : c ≡ cursor_at s at) {x : Result Part Refusal} (is_x : x ≡ section_at (section_of c) c.at sheet) where
  is_read : x ≡ section_at s at sheet
  is_read = rw is_c at is_x

  refused_at : (g : Refusal) → x ≡ Err g → section_at s at sheet ≡ Err g
  refused_at g e = sym is_read ∙ e

  found_at : (p : Part) → x ≡ Ok p → section_at s at sheet ≡ Ok p
  found_at p e = sym is_read ∙ e

pub found_within : (sheet : List ℕ) (c : Cursor) (x : Result Part Refusal) → x ≡ section_at (section_of c) c.at sheet → (p : Part)
    → x ≡ Ok p → part_end p ≤ length sheet
found_within sheet c x is_x p e =
    let f = section_at_answered (section_of c) c.at sheet p (sym is_x ∙ e) in
    omega (arith, f.place, f.within)

module _ (sheet : List ℕ) (c : Cursor) (x : Result Part Refusal) (is_x : x ≡ section_at (section_of c) c.at sheet) where
  module _ (is_c : c ≡ cursor_at S.allow 0) where
    pub allow_refused : (g : Refusal) → x ≡ Err g → Err g ≡ frame sheet
    unfolding frame
    allow_refused g e = rw (refused_at S.allow 0 sheet is_c is_x g e)

    pub allow_found : (a : Part) → x ≡ Ok a → (y : Result Parts Refusal) → y ≡ from_deny sheet a → y ≡ frame sheet
    unfolding frame from_deny from_byuid from_portacl
    allow_found a e y is_y = rw (found_at S.allow 0 sheet is_c is_x a e) is_y

  module _ (a : Part) (is_c : c ≡ cursor_at S.deny (part_end a)) where
    pub deny_refused : (g : Refusal) → x ≡ Err g → Err g ≡ from_deny sheet a
    unfolding from_deny
    deny_refused g e = rw (refused_at S.deny (part_end a) sheet is_c is_x g e)

    pub deny_found : (d : Part) → x ≡ Ok d → (y : Result Parts Refusal) → y ≡ from_byuid sheet a d → y ≡ from_deny sheet a
    unfolding from_deny
    deny_found d e y is_y = rw (found_at S.deny (part_end a) sheet is_c is_x d e) is_y

  module _ (a d : Part) (is_c : c ≡ cursor_at S.byuid (part_end d)) where
    pub byuid_refused : (g : Refusal) → x ≡ Err g → Err g ≡ from_byuid sheet a d
    unfolding from_byuid
    byuid_refused g e = rw (refused_at S.byuid (part_end d) sheet is_c is_x g e)

    pub byuid_found : (b : Part) → x ≡ Ok b → (y : Result Parts Refusal) → y ≡ from_portacl sheet a d b → y ≡ from_byuid sheet a d
    unfolding from_byuid
    byuid_found b e y is_y = rw (found_at S.byuid (part_end d) sheet is_c is_x b e) is_y

  module _ (a d b : Part) (is_c : c ≡ cursor_at S.portacl (part_end b)) where
    pub portacl_refused : (g : Refusal) → x ≡ Err g → Err g ≡ from_portacl sheet a d b
    unfolding from_portacl
    portacl_refused g e = rw (refused_at S.portacl (part_end b) sheet is_c is_x g e)

    pub portacl_found : (p : Part) → x ≡ Ok p → (t : Part) → t ≡ rest_after sheet p
        → Ok (record { allow = a; deny = d; byuid = b; portacl = p; tables = t }) ≡ from_portacl sheet a d b
    unfolding from_portacl
    portacl_found p e t is-t = rw (found_at S.portacl (part_end b) sheet is_c is_x p e, is-t)
