-- What the contracts inside the crate, and those of what other crates call, are written in. Nothing here needs to be believed for the meaning
-- of document 01: the calls are stated over Address alone.
--   first_group t      == what the code finds at the front of a text with colons
--   number_of w        == the number of two words, and words_of n the words of a number
--   hex_value b        == the value of a hex digit, 16 where b is none
--   group_value t      == the number of a group
--   groups_from k n gs == the code's answer about k groups that make n, with the groups gs after them, at most eight
--   as_v6 o            == o as the code answers it
-- Assumes nothing: these are definitions.
use Rattle.std.specs.Prelude.{ℕ, suc, ◌+◌, ◌*◌, ◌/◌, ◌%◌, ◌^◌, Bool, true, false, ◌&&◌, ◌||◌, List, [], ◌∷◌, map, length, take, leb, ltb, eqb, None, Option, Some}
use Rattle.text.specs.Basics.{when◌then◌else◌, ◌>>=◌, given, is_empty, all}
use Rattle.text.specs.Text.{starts_with, in_range, char_range, is_digit, split}
use Rattle.text.specs.Number.{from_digits, to_digits, digit_value, read_decimal}
use Rattle.text.specs.Scan.{index_of}
use Rattle.address.specs.Address.{read_v4, read_group, read_last_group}
use Rattle.address.specs.declared.read.Group.{Group}
use Rattle.address.specs.declared.read.Group.TheVariants as G
use Rattle.address.specs.declared.read.Words.{Words}

abbrev pub number_of : Words → ℕ
number_of w = w.high * 2 ^ 64 + w.low

abbrev pub words : ℕ → ℕ → Words
words a b = record { high = a; low = b }

abbrev pub words_of : ℕ → Words
words_of n = words (n / 2 ^ 64) (n % 2 ^ 64)

abbrev pub is_hex : ℕ → Bool
is_hex b = is_digit b || char_range "A" "F" b || char_range "a" "f" b

unfoldable pub hex_value : ℕ → ℕ
hex_value b = when is_hex b then digit_value b else 16

unfoldable pub group_value : List ℕ → Option ℕ
group_value t = given (all is_hex t && in_range 1 4 (length t)) (from_digits 16 0 (map digit_value t))

-- a group that ends at i, before the end or at it
abbrev pub group_at : ℕ → Bool → Option ℕ → Group
group_at i false o = G.Last
group_at i true None = G.Nothing
group_at i true (Some n) = G.More n (i + 1)

unfoldable pub first_group : List ℕ → Group
first_group t = group_at (index_of 58 t) (ltb (index_of 58 t) (length t)) (group_value (take (index_of 58 t) t))

abbrev pub groups_from : ℕ → ℕ → Option (List ℕ) → Option (ℕ × Words)
groups_from k n None = None
groups_from k n (Some gs) = when leb (k + length gs) 8 then Some (k + length gs, words_of (from_digits 65536 n gs)) else None

-- IPv4 text as two groups
abbrev pub read_tail : List ℕ → Option (List ℕ)
read_tail t = read_v4 t >>= λ n. Some (to_digits 65536 2 n)

-- what reads the last of several groups: with IPv4 text among them, or without
abbrev pub reads_last : Bool → List ℕ → Option (List ℕ)
reads_last true = read_last_group
reads_last false = read_group

-- the texts of one side of `::`
abbrev pub side_parts : List ℕ → List (List ℕ)
side_parts t = when is_empty t then [] else split ":" t

-- the first place of the mark m in t, the length where there is none
unfoldable pub place_of : List ℕ → List ℕ → ℕ
place_of m [] = 0
place_of m (x ∷ t) = when starts_with m (x ∷ t) then 0 else suc (place_of m t)

-- the number of eight groups
abbrev pub of_groups : Option (List ℕ) → Option ℕ
of_groups o = o >>= λ gs. given (eqb (length gs) 8) (from_digits 65536 0 gs)

abbrev pub as_v6 : Option ℕ → Option (ℕ × ℕ)
as_v6 None = None
as_v6 (Some n) = Some (n / 2 ^ 64, n % 2 ^ 64)
