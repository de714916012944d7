-- Laws of unpacking, shaped as the calls and tests of the code hand their facts over.
-- Assumes nothing.
use Rattle.std.specs.Prelude.{Err, None, Ok, Option, Result, Some, ⊤}
use Prim.Native.Nat.{ℕ}
use native.Mathlib.Omega.{arith}
use mathlib.Core.List.{List}
use mathlib.Core.Path.{◌≡◌, refl, sym, ◌∙◌}
use Rattle.section.specs.Section.{bytes_at}
use Rattle.section.specs.declared.Refusal.{Refusal}
use Rattle.section.specs.Refusal.{◌>>=◌, refusing, checked_of}
use Rattle.sheet.specs.declared.Parts.{Parts}
use Rattle.sheet.specs.Sheet.{texts, texts_at, texts_fault, frame, unpack}

pub texts_in_sheet : (sheet : List ℕ) (p : Parts) (a d b q t : List ℕ) → a ≡ bytes_at sheet p.allow → d ≡ bytes_at sheet p.deny
    → b ≡ bytes_at sheet p.byuid → q ≡ bytes_at sheet p.portacl → t ≡ bytes_at sheet p.tables
    → (x : Result ⊤ Refusal) → x ≡ checked_of (texts_fault (texts a d b q t)) → x ≡ checked_of (texts_fault (texts_at sheet p))
texts_in_sheet sheet p a d b q t is-a is_d is_b is-q is-t x is_x = is_x ∙ rw (is-a, is_d, is_b, is-q, is-t)

module _ (sheet : List ℕ) (x : Result Parts Refusal) (is_x : x ≡ frame sheet) where
  pub unframed : (g : Refusal) → x ≡ Err g → Err g ≡ unpack sheet
  unfolding unpack
  unframed g e = rw (sym is_x ∙ e)

  module _ (p : Parts) (e : x ≡ Ok p) where
    pub is_framed : frame sheet ≡ Ok p
    is_framed = sym is_x ∙ e

    module _ (y : Result ⊤ Refusal) (is_y : y ≡ checked_of (texts_fault (texts_at sheet p))) where
      pub unpack_refused : (g : Refusal) → y ≡ Err g → Err g ≡ unpack sheet
      unfolding unpack
      unpack_refused g f = rw is_framed (by (texts_fault (texts_at sheet p)) (sym is_y ∙ f))
        where
          by : (o : Option Refusal) → checked_of o ≡ Err g → Err g ≡ refusing o p
          by None k = let z : ◌≡◌ {A = ℕ} 0 1 = cc in absurd (omega arith)
          by (Some h) k = cc

      pub unpack_parts : y ≡ Ok tt → Ok p ≡ unpack sheet
      unfolding unpack
      unpack_parts f = rw is_framed (by (texts_fault (texts_at sheet p)) (sym is_y ∙ f))
        where
          by : (o : Option Refusal) → checked_of o ≡ Ok tt → Ok p ≡ refusing o p
          by None k = refl
          by (Some h) k = let z : ◌≡◌ {A = ℕ} 0 1 = cc in absurd (omega arith)
