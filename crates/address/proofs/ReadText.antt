-- Reading what was written gives the address back.
-- An IPv4 text is split at its dots into the decimals of its bytes. An IPv6 text either holds no `::` and is split at its colons into the hex
-- groups, or its only `::` stands between the groups before and after a run of zeros. IPv6 text holds a colon, so it is no IPv4 text.
-- Assumes nothing.
use Rattle.std.specs.Prelude.{None, Ok, Option, Some}
use Prim.Native.Nat.{ℕ, zero, suc, ◌+◌, ◌-◌, ◌*◌, ◌^◌, ◌<◌, ◌≤◌}
use Prim.Native.Char.{code}
use mathlib.Core.Bool.{Bool, true, false, ◌||◌, or-true}
use mathlib.Core.List.{List, [], ◌∷◌, ◌++◌, map, append-nil, append_assoc}
use mathlib.Core.Path.{◌≡◌, refl, sym, ap, ◌∙◌}
use native.Mathlib.Omega.{arith}
use borrow.Author.Tests.{eqb-true, ltb-true, lt-ltb, le-leb}
use lib.Dec.{ltb, eqb}
use lib.Arith.{digits_lt, digits_div, digits_mod}
use lib.ListN.{length, replicate, length-append, length-replicate, length-map}
use Rattle.text.specs.Basics.{when◌then◌else◌, is_empty, any, all, each}
use Rattle.text.specs.Text.{bytes, among, equal, split_once, split, intercalate, char_range, is_digit}
use Rattle.text.specs.Number.{from_digits, to_digits, digit_byte, numeral, decimal, read_decimal}
use Rattle.text.proofs.BasicLaws.{and_true}
use Rattle.text.proofs.Digits.{length_to_digits, to_digits_below, from_digits_to_digits}
use Rattle.text.proofs.Numeral.{digit_byte_cases, length_numeral, all_numeral, from_digits_numeral, is_digit_digit_byte, read_decimal_decimal, read_decimal_none}
use Rattle.text.proofs.Intercalate.{any_between, all_append_left, all_append_right, all_false, all_map, each_map, each_none, any_split, free, is_field}
use Rattle.text.proofs.Intercalate.{free_all, is_field_free, is_empty_intercalate, among_one, split_intercalate, split_once_some, split_once_intercalate}
use Rattle.address.specs.declared.Addr.TheVariants as A
use Rattle.address.specs.Address.{read_v4, read_group, read_last_group, read_groups, read_compressed, read_v6, hex_groups, compress, text_v4, text_v6}
use Rattle.address.specs.Address.{addr_text, read_address}

abbrev dot : ℕ
dot = code "."

abbrev colon : ℕ
colon = code ":"

-- ## IPv4

pub read_v4_text_v4 : (n : ℕ) → n < 2 ^ 32 → read_v4 (text_v4 n) ≡ Some n
unfolding read_v4
read_v4_text_v4 n h =
    let ds : List ℕ = to_digits 256 4 n in
    let long : length ds ≡ 4 = length_to_digits 256 4 n in
    let parted : split "." (text_v4 n) ≡ map decimal ds = split_intercalate
    "."
    (map decimal ds)
    (omega (arith, length-map ds decimal))
    (all_map (free dot) decimal (λ d. free_all is_digit dot refl (decimal d) (all_numeral is_digit 10 (omega arith) is_digit_digit_byte 10 d)) ds) in
    let read : each (read_decimal 255) (map decimal ds) ≡ Some ds = each_map
    (read_decimal 255)
    decimal
    (λ d. ltb d 256)
    (λ d e. read_decimal_decimal 255 d (omega (arith, ltb-true d 256 e)) (omega arith))
    ds
    (to_digits_below 256 4 n (omega arith)) in
    rw (parted, read, long, from_digits_to_digits 256 4 n (omega arith) (omega arith))

-- ## Hex groups

abbrev is_hex : ℕ → Bool
is_hex c = is_digit c || char_range "A" "F" c || char_range "a" "f" c

is_hex_digit_byte : (d : ℕ) → d < 16 → is_hex (digit_byte d) ≡ true
is_hex_digit_byte d h =
    digit_byte_cases
    (λ (c : ℕ). is_hex c ≡ true)
    d
    (λ k. rw (le-leb 48 (48 + d) (omega arith), le-leb (48 + d) 57 (omega arith)))
    (λ k. rw (le-leb 97 (97 + (d - 10)) (omega arith), le-leb (97 + (d - 10)) 102 (omega arith))
    (or-true (is_digit (97 + (d - 10)) || char_range "A" "F" (97 + (d - 10)))))

is_hex_numeral : (g : ℕ) → all is_hex (numeral 16 4 g) ≡ true
is_hex_numeral = all_numeral is_hex 16 (omega arith) is_hex_digit_byte 4

free_numeral : (g : ℕ) → free colon (numeral 16 4 g) ≡ true
free_numeral g = free_all is_hex colon refl (numeral 16 4 g) (is_hex_numeral g)

is_field_numeral : (g : ℕ) → is_field colon (numeral 16 4 g) ≡ true
is_field_numeral g = is_field_free colon (numeral 16 4 g) ((length_numeral 16 4 g).1 (omega arith)) (free_numeral g)

read_group_numeral : (g : ℕ) → g < 65536 → read_group (numeral 16 4 g) ≡ Some (g ∷ [])
unfolding read_group
read_group_numeral g h =
    let long = length_numeral 16 4 g in
    rw (
      is_hex_numeral g,
      le-leb 1 (length (numeral 16 4 g)) (long.1 (omega arith)),
      le-leb (length (numeral 16 4 g)) 4 (omega arith),
      from_digits_numeral 16 (omega arith) (omega arith) 4 g (omega arith),
    )

read_last_group_numeral : (g : ℕ) → g < 65536 → read_last_group (numeral 16 4 g) ≡ Some (g ∷ [])
unfolding read_last_group
read_last_group_numeral g h = rw (read_group_numeral g h)

abbrev is_group : ℕ → Bool
is_group g = ltb g 65536

abbrev are_groups : List ℕ → Bool
are_groups gs = all is_group gs

-- a reader of the last group that reads a group reads them all
read_groups_map : (f : List ℕ → Option (List ℕ)) → ((g : ℕ) → g < 65536 → f (numeral 16 4 g) ≡ Some (g ∷ []))
    → (gs : List ℕ) → are_groups gs ≡ true → read_groups f (map (numeral 16 4) gs) ≡ Some gs
unfolding read_groups all
read_groups_map f h [] e = refl
read_groups_map f h (g ∷ []) e = h g (ltb-true g 65536 (and_true (ltb g 65536) true e).0)
read_groups_map f h (g ∷ k ∷ gs) e =
    let a = and_true (ltb g 65536) (are_groups (k ∷ gs)) e in
    rw (read_group_numeral g (ltb-true g 65536 a.0), read_groups_map f h (k ∷ gs) a.1)

fields : (gs : List ℕ) → all (is_field colon) (map (numeral 16 4) gs) ≡ true
fields = all_map (is_field colon) (numeral 16 4) is_field_numeral

-- the texts between colons, also where there is no group
split_hex_groups : (gs : List ℕ) → 0 < length gs → split ":" (hex_groups gs) ≡ map (numeral 16 4) gs
split_hex_groups gs pos =
    split_intercalate ":" (map (numeral 16 4) gs) (omega (arith, length-map gs (numeral 16 4))) (all_map (free colon) (numeral 16 4) free_numeral gs)

side_hex_groups : (gs : List ℕ) → (when is_empty (hex_groups gs) then [] else split ":" (hex_groups gs)) ≡ map (numeral 16 4) gs
unfolding intercalate
side_hex_groups [] = refl
side_hex_groups (g ∷ gs) =
    ap
    (λ (b : Bool). when b then [] else split ":" (hex_groups (g ∷ gs)))
    (is_empty_intercalate colon (bytes ":") (numeral 16 4 g) (map (numeral 16 4) gs) (is_field_numeral g))
    ∙ split_hex_groups (g ∷ gs) (omega arith)

-- ## `::`

read_compressed_hex_groups : (l r : List ℕ) (k : ℕ) → are_groups l ≡ true → are_groups r ≡ true → length (l ++ replicate (suc k) 0 ++ r) ≡ 8
    → read_compressed (hex_groups l, hex_groups r) ≡ Some (l ++ replicate (suc k) 0 ++ r)
unfolding read_compressed
read_compressed_hex_groups l r k e f long =
    let m : length l + suc k + length r ≡ 8 = simp (length-append, length-replicate) at long in
    let n : length (l ++ r) ≡ length l + length r = length-append l r in
    let z : 8 - length (l ++ r) ≡ suc k = omega arith in
    rw (
      side_hex_groups l,
      side_hex_groups r,
      read_groups_map read_group read_group_numeral l e,
      read_groups_map read_last_group read_last_group_numeral r f,
      lt-ltb (length (l ++ r)) 8 (omega arith),
      z,
    )

-- how compress writes the groups gs
data Written (gs t : List ℕ) : Type 0 where
  plain : t ≡ hex_groups gs → Written gs t
  short : (l r : List ℕ) (k : ℕ) → gs ≡ l ++ replicate (suc k) 0 ++ r → t ≡ hex_groups l ++ bytes "::" ++ hex_groups r → Written gs t

written_compress : (k : ℕ) (gs : List ℕ) → Written gs (compress k gs)
unfolding compress
written_compress zero gs = plain refl
written_compress (suc k) gs = by (split_once (replicate (suc (suc k)) 0) gs) refl (written_compress k gs)
  where
    by : (o : Option (List ℕ × List ℕ)) → split_once (replicate (suc (suc k)) 0) gs ≡ o → Written gs (compress k gs) → Written gs (compress (suc k) gs)
    by None e h = rw e h
    by (Some p) e h = short p.0 p.1 (suc k)
        (split_once_some (replicate (suc (suc k)) 0) gs p e ∙ sym (append_assoc p.0 (replicate (suc (suc k)) 0) p.1)) (rw e)

-- groups alone hold no `::`, and the first one after groups stands right behind them
split_once_hex_groups : (gs : List ℕ) → split_once (bytes "::") (hex_groups gs) ≡ None
unfolding split_once
split_once_hex_groups gs = rw (append-nil (hex_groups gs)) at (split_once_intercalate colon (map (numeral 16 4) gs) [] (fields gs))

split_once_compressed : (l r : List ℕ) → split_once (bytes "::") (hex_groups l ++ bytes "::" ++ hex_groups r) ≡ Some (hex_groups l, hex_groups r)
unfolding split_once equal
split_once_compressed l r =
    rw (append_assoc (hex_groups l) (bytes "::") (hex_groups r))
    (split_once_intercalate colon (map (numeral 16 4) l) (bytes "::" ++ hex_groups r) (fields l) ∙ rw (append-nil (hex_groups l)))

-- ## IPv6

abbrev is_colon : ℕ → Bool
is_colon b = eqb b colon

colon_hex_groups : (gs : List ℕ) → 2 ≤ length gs → any is_colon (hex_groups gs) ≡ true
unfolding intercalate any
colon_hex_groups [] h = absurd (omega arith)
colon_hex_groups (g ∷ []) h = absurd (omega arith)
colon_hex_groups (g ∷ k ∷ gs) h = any_between is_colon (numeral 16 4 g) (bytes ":") (hex_groups (k ∷ gs)) refl

colon_written : (gs t : List ℕ) → 2 ≤ length gs → Written gs t → any is_colon t ≡ true
unfolding any
colon_written gs t h (plain e) = rw e (colon_hex_groups gs h)
colon_written gs t h (short l r k d e) = rw e (any_between is_colon (hex_groups l) (bytes "::") (hex_groups r) refl)

read_v6_written : (gs t : List ℕ) → length gs ≡ 8 → are_groups gs ≡ true → Written gs t → read_v6 t ≡ Some (from_digits 65536 0 gs)
unfolding read_v6
read_v6_written gs t long small (plain e) =
    rw (e, split_once_hex_groups gs, split_hex_groups gs (omega arith), read_groups_map read_last_group read_last_group_numeral gs small, long)
read_v6_written gs t long small (short l r k d e) =
    let s : are_groups (l ++ replicate (suc k) 0 ++ r) ≡ true = rw d at small in
    let sl = all_append_left is_group l (replicate (suc k) 0) (all_append_left is_group (l ++ replicate (suc k) 0) r s) in
    let sr = all_append_right is_group (l ++ replicate (suc k) 0) r s in
    rw (e, split_once_compressed l r, read_compressed_hex_groups l r k sl sr (sym (ap length d) ∙ long), ← d, long)

-- IPv4 text has no colon
read_v4_none : (t : List ℕ) → any is_colon t ≡ true → read_v4 t ≡ None
unfolding read_v4
read_v4_none t e =
    let no_digit : (x : ℕ) → is_colon x ≡ true → is_digit x ≡ false = λ x c. ap is_digit (eqb-true x colon c) in
    let no_dot : (x : ℕ) → among "." x ≡ true → is_colon x ≡ false = λ x c. ap is_colon (eqb-true x dot (sym (among_one "." x) ∙ c)) in
    rw (each_none
    (read_decimal 255)
    (any is_colon)
    (λ w c. read_decimal_none 255 w (all_false is_digit is_colon no_digit w c))
    (split "." t)
    (any_split "." is_colon no_dot t ∙ e))

pub read_v4_text_v6 : (n : ℕ) → read_v4 (text_v6 n) ≡ None
read_v4_text_v6 n =
    let gs : List ℕ = to_digits 65536 8 n in
    read_v4_none (text_v6 n) (colon_written gs (text_v6 n) (omega (arith, length_to_digits 65536 8 n)) (written_compress 7 gs))

pub read_v6_text_v6 : (n : ℕ) → n < 2 ^ 128 → read_v6 (text_v6 n) ≡ Some n
read_v6_text_v6 n h =
    let gs : List ℕ = to_digits 65536 8 n in
    read_v6_written gs (text_v6 n) (length_to_digits 65536 8 n) (to_digits_below 65536 8 n (omega arith)) (written_compress 7 gs)
    ∙ ap (λ (m : ℕ). Some m) (from_digits_to_digits 65536 8 n (omega arith) h)

-- ## The calls

pub read_address_addr_text_v4 : (n : ℕ) → n < 2 ^ 32 → read_address (addr_text (A.V4 n)) ≡ Ok (A.V4 n)
unfolding read_address addr_text
read_address_addr_text_v4 n h = rw (read_v4_text_v4 n h)

pub read_address_addr_text_v6 : (high low : ℕ) → high < 2 ^ 64 → low < 2 ^ 64 → read_address (addr_text (A.V6 high low)) ≡ Ok (A.V6 high low)
unfolding read_address addr_text
read_address_addr_text_v6 high low h k =
    rw (read_v4_text_v6 (high * 2 ^ 64 + low), read_v6_text_v6 (high * 2 ^ 64 + low) (digits_lt h k), digits_div high k, digits_mod high k)
