-- The classes of bytes, one bit for each, by which one reading of an element tells what it may be. Nothing here needs to be believed for the
-- meaning of document 01: laws tie each test of a mask to the definitions of patterns and lines.
--   class_of b     == the class of the byte b
--   Classes l     == l holds the class of every byte
--   mask_from m w  == the classes of the bytes of w, added to m
--   element_at t   == where the first element of t stands, and its mask
--   Describes m w      == what the mask m tells of the element w
-- Assumes nothing: these are definitions.
use Rattle.std.specs.Prelude.{ℕ, ◌+◌, ◌<◌, Bool, not, List, [], ◌∷◌, ◌≡◌, eqb, ltb, length, take, drop, get_or}
use Rattle.std.specs.Int.Bits.{bit_and, bit_or}
use Rattle.text.specs.Basics.{when◌then◌else◌, all}
use Rattle.text.specs.Text.{is_digit}
use Rattle.lines.specs.Parts.{is_parting, parting_length, element_length}
use Rattle.patterns.specs.Pattern.{is_name_byte}
use Rattle.patterns.specs.Code.{is_dotted_byte}
use Rattle.classes.specs.declared.ClassSpan.{ClassSpan}

-- of a name byte: 2 a digit, 4 a dot, 1 any other
abbrev pub name_class : ℕ → ℕ
name_class b = when is_digit b then 2 else when eqb b 46 then 4 else 1

-- else: 8 a slash, 16 `@`, 32 any other byte of an element; 128 parts elements
unfoldable pub class_of : ℕ → ℕ
class_of b = when is_parting b then 128 else when is_name_byte b then name_class b else when eqb b 47 then 8 else when eqb b 64 then 16 else 32

pub record Classes (l : List ℕ) : Type 0 where
  pub long : length l ≡ 256
  pub each : (b : ℕ) → b < 256 → get_or l b 0 ≡ class_of b

abbrev pub class_span : ℕ → ℕ → ℕ → ClassSpan
class_span a e m = record { span = record { start = a; end = e }; mask = m }

-- the classes of the bytes of w, added to m
unfoldable pub mask_from : ℕ → List ℕ → ℕ
mask_from m [] = m
mask_from m (b ∷ w) = mask_from (bit_or m (class_of b)) w

-- the element at the front of t, its place counted from i bytes further to the left
unfoldable pub span_from : ℕ → List ℕ → ClassSpan
span_from i t = let n : ℕ = element_length t in class_span i (i + n) (mask_from 0 (take n t))

unfoldable pub element_at : List ℕ → ClassSpan
element_at t = let a : ℕ = parting_length t in span_from a (drop a t)

-- what a mask tells of all bytes of an element
abbrev pub only_names : ℕ → Bool
only_names m = ltb m 8

abbrev pub only_dotted : ℕ → Bool
only_dotted m = eqb (bit_and m 241) 0

abbrev pub no_sign : ℕ → Bool
no_sign m = eqb (bit_and m 16) 0

pub record Describes (m : ℕ) (w : List ℕ) : Type 0 where
  pub names : only_names m ≡ all is_name_byte w
  pub dotted : only_dotted m ≡ all is_dotted_byte w
  pub no_sign_lem : no_sign m ≡ all (λ b. not (eqb b 64)) w
