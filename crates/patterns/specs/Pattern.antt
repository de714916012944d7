-- Document 01, "Elements": host patterns. A pattern is what it matches, none where it is of no kind.
--   host_pattern e == the pattern that e writes
-- Assumes nothing: these are definitions.
use Rattle.std.specs.Prelude.{ℕ, ◌-◌, ◌^◌, Bool, true, false, not, ◌&&◌, ◌||◌, List, [], ◌∷◌, length, take, drop, leb, ltb, eqb, None, Option, Some}
use Prim.Native.String.{String}
use Rattle.std.specs.Int.Bits.{bit_and}
use Rattle.text.specs.Basics.{when◌then◌else◌, ◌>>=◌, ◌or_else◌, given, any, all, first, each}
use Rattle.text.specs.Text.{bytes, among, starts_with, first_among, last_among, split_once, split, in_range, is_digit, is_letter, equal_fold, is_word}
use Rattle.text.specs.Number.{to_digits, read_decimal}
use Rattle.address.specs.Address.{same_prefix, addr_case, read_v4, read_v6}
use Rattle.patterns.specs.Host.{Endpoint, name_case, name_known, addr_known}

abbrev pub Pattern : Type 0
Pattern = Option (Endpoint → Bool)

-- "ALL matches always. LOCAL: known name without a dot. KNOWN: known name and known address. UNKNOWN: name unknown
-- or address unknown (a paranoid name is neither known nor unknown). PARANOID: name paranoid."
unfoldable pub wildcard : List ℕ → Pattern
wildcard e = first named
    (("ALL", λ h. true)
    ∷ ("LOCAL", λ h. name_known h && not (any (among ".") h.name))
    ∷ ("KNOWN", λ h. name_known h && addr_known h)
    ∷ ("UNKNOWN", λ h. name_case h true false false || not (addr_known h))
    ∷ ("PARANOID", λ h. name_case h false true false) ∷ [])
  where
    named : String × (Endpoint → Bool) → Pattern
    named w = given (is_word w.0 e) w.1

-- "Names in patterns use letters, digits, `-`, `_`, `.`"
unfoldable pub is_name_byte : ℕ → Bool
is_name_byte b = is_letter b || is_digit b || among "-_." b

-- "Begins with `.`: a known name longer than the pattern that ends in it. At least one byte follows the dot."
-- "Domain patterns use the same bytes, 2 to 255 of them."
unfoldable pub domain_pattern : List ℕ → Pattern
domain_pattern e = given (all is_name_byte e && in_range 2 255 (length e))
    λ h. name_known h && ltb (length e) (length h.name) && equal_fold e (drop (length h.name - length e) h.name)

-- "Begins with `[`: `[v6]/m`, m 0 to 128 in fewest digits, compares only the first m bits. `[v6]` alone is /128 (house)."
unfoldable pub bracket_pattern : List ℕ → Pattern
bracket_pattern e = do
  p ← split_once (bytes "]") (drop 1 e)
  n ← read_v6 p.0
  m ← prefix_length p.1
  Some λ h. addr_case h.host.addr false (λ a. false) (same_prefix 128 m n)
  where
    prefix_length : List ℕ → Option ℕ
    prefix_length [] = Some 128
    prefix_length (x ∷ t) = when among "/" x then read_decimal 128 t else None

-- "one to three fields, each followed by a dot (first fields of the address)"
unfoldable pub leading_fields : List ℕ → Option (ℕ → Bool)
leading_fields e = do
  fs ← each (read_decimal 255) (split "." (take (length e - 1) e))
  given (last_among "." e && leb (length fs) 3) λ a. starts_with fs (to_digits 256 4 a)

-- Document 02, request 2: "a length of 0 to 32, in fewest digits, .. meaning the mask with that many leading ones"
abbrev pub length_mask : ℕ → ℕ
length_mask m = 2 ^ 32 - 2 ^ (32 - m)

unfoldable pub read_mask : List ℕ → Option ℕ
read_mask t = read_v4 t or_else (read_decimal 32 t >>= λ m. Some (length_mask m))

-- "net/mask, matched when `net` equals the bitwise AND of the address and the mask"; request 2: "after a four-field net", "Net bits
-- outside the mask still match nothing."
unfoldable pub net_mask : List ℕ → Option (ℕ → Bool)
net_mask e = do
  p ← split_once (bytes "/") e
  net ← read_v4 p.0
  mask ← read_mask p.1
  Some λ a. eqb net (bit_and a mask)

-- "Only digits, dots, slashes: `n.n.n.n`; one to three fields ..; or net/mask .. These match IPv4 addresses only, never a name."
unfoldable pub dotted_pattern : List ℕ → Pattern
dotted_pattern e = do
  f ← (read_v4 e >>= λ n. Some (eqb n)) or_else leading_fields e or_else net_mask e
  Some λ h. addr_case h.host.addr false f (λ a. false)

-- "Otherwise a known name, equal."; names "are 1 to 255 bytes, and don't end in a dot unless they begin with one"
unfoldable pub name_pattern : List ℕ → Pattern
name_pattern e = given (all is_name_byte e && in_range 1 255 (length e) && not (last_among "." e)) λ h. name_known h && equal_fold e h.name

-- "Kinds, tried in this order"
unfoldable pub host_pattern : List ℕ → Pattern
host_pattern e =
    wildcard e or_else
    (when first_among "." e then domain_pattern e
    else when first_among "[" e then bracket_pattern e
    else when all (λ b. is_digit b || among "./" b) e then dotted_pattern e
    else name_pattern e)
