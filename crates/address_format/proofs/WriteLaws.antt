-- Laws of writing addresses: hex groups in fewest digits, groups and fields one after the other, and how long a text can be.
-- Assumes nothing.
use Rattle.std.specs.Prelude.{Err, Ok}
use Prim.Native.Nat.{ℕ, zero, suc, ◌+◌, ◌-◌, ◌*◌, ◌/◌, ◌%◌, ◌^◌, ◌<◌, ◌≤◌}
use mathlib.Core.Bool.{Bool, true, false, not}
use mathlib.Core.List.{List, [], ◌∷◌, ◌++◌, append_assoc, append-nil}
use mathlib.Core.Path.{◌≡◌, refl, sym, ap, subst, ◌∙◌}
use native.Mathlib.Numerals.{add-one}
use native.Mathlib.Omega.{arith}
use native.Mathlib.Nat.{mod-lt, mod-eq_of_lt, div-div-eq-div-mul, mul-add-div_right, mul-add-mod_self_right, mul_assoc, pow-zero, pow-suc, div-lt_iff_lt-mul}
use borrow.Author.Tests.{ltb-true, ltb-false, leb-true, leb-false, lt-ltb, le-ltb}
use lib.Dec.{ltb, leb}
use lib.ListN.{length, take, drop, get_or, set, length-append, length-drop, drop_of_length-le, take-append-drop}
use lib.Seq.{drop-cons, drop-drop, take-length, length-take-le, take-paste}
use Rattle.text.specs.Text.{bytes, equal, intercalate}
use Rattle.text.specs.Number.{to_digits, digit_byte, numeral, decimal}
use Rattle.text.specs.Scan.{put_at, after}
use Rattle.text.proofs.Canonical.{numeral_digit, length_numeral_below}
use Rattle.text.proofs.Digits.{length_to_digits}
use Rattle.text.proofs.Numeral.{length_numeral}
use Rattle.text.proofs.PasteLaws.{length_put_at, put_first}
use Rattle.text.proofs.ScanLaws.{equal_refl, equal_lengths, take_rest}
use Rattle.section.specs.declared.Fault.TheVariants as F
use Rattle.section.specs.declared.Refusal.{Refusal}
use Rattle.section.specs.Refusal.{placeless, written_of, lent_after}
use Rattle.address.specs.declared.Addr.{Addr}
use Rattle.address.specs.declared.Addr.TheVariants as A
use Rattle.address_format.specs.declared.Run.{Run}
use Rattle.address.specs.Address.{hex_groups, compress, text_v4, text_v6, addr_text, write_address}
use Rattle.address_format.specs.WriteCode.{colon_groups, longest_run}
use Rattle.address_format.proofs.WriteText.{Wrote, wrote_nil, wrote_byte, front_room, rest_room, rest_all, second_room, third_room, third_all}
use Rattle.address_format.proofs.WriteRuns.{run_within, compress_plain, compress_run}

-- ## Hex digits

-- a hex digit, below 10 and from 10 on
pub wrote_low : (d : List ℕ) (at x : ℕ) → at + 1 ≤ length d → x < 10 → Wrote d (set d at (48 + x)) (digit_byte x ∷ []) at (at + 1)
wrote_low d at x h l = rw (lt-ltb x 10 l) (wrote_byte d at (48 + x) h)

pub wrote_high : (d : List ℕ) (at x : ℕ) → at + 1 ≤ length d → 10 ≤ x → Wrote d (set d at (97 + (x - 10))) (digit_byte x ∷ []) at (at + 1)
wrote_high d at x h l = rw (le-ltb x 10 l) (wrote_byte d at (97 + (x - 10)) h)

numeral_div : (b k n : ℕ) → b ≤ n → numeral b (suc k) n ≡ numeral b k (n / b) ++ (digit_byte (n % b) ∷ [])
unfolding numeral
numeral_div b k n h = rw (le-ltb n b h)

-- a number of at most two digits
module _ (n : ℕ) (small : n < 256) where
  numeral_two : 16 ≤ n → numeral 16 2 n ≡ (digit_byte (n / 16) ∷ []) ++ (digit_byte (n % 16) ∷ [])
  numeral_two h = rw (numeral_div 16 1 n h, numeral_digit 16 0 (n / 16) (omega arith))

  numeral_pair : numeral 16 4 n ≡ numeral 16 2 n
  numeral_pair = by (ltb n 16) refl
    where
      by : (t : Bool) → ltb n 16 ≡ t → numeral 16 4 n ≡ numeral 16 2 n
      by true e = rw (numeral_digit 16 3 n (ltb-true n 16 e), numeral_digit 16 1 n (ltb-true n 16 e))
      by false e =
          let h : 16 ≤ n = ltb-false n 16 e in
          rw (numeral_div 16 3 n h, numeral_div 16 1 n h, numeral_digit 16 2 (n / 16) (omega arith), numeral_digit 16 0 (n / 16) (omega arith))

-- one of more: its last two digits
numeral_four : (n : ℕ) → 256 ≤ n → numeral 16 4 n ≡ numeral 16 2 (n / 256) ++ ((digit_byte (n / 16 % 16) ∷ []) ++ (digit_byte (n % 16) ∷ []))
numeral_four n h =
    rw (numeral_div 16 3 n (omega arith), numeral_div 16 2 (n / 16) (omega arith), div-div-eq-div-mul n 16 16)
    (append_assoc (numeral 16 2 (n / 256)) (digit_byte (n / 16 % 16) ∷ []) (digit_byte (n % 16) ∷ []))

module _ (d : List ℕ) (at n : ℕ) where
  module _ (small : n < 256) (room : at + length (numeral 16 2 n) ≤ length d) where
    pub pair_room : at + 1 ≤ length d
    pair_room = omega (arith, (length_numeral 16 2 n).1 (omega arith))

    pub pair_one : n < 16 → (o : List ℕ) (m : ℕ) → Wrote d o (digit_byte n ∷ []) at m → Wrote d o (numeral 16 2 n) at m
    pair_one h o m w = rw (numeral_digit 16 1 n h) w

    module _ (h : 16 ≤ n) (o : List ℕ) (m : ℕ) (w : Wrote d o (digit_byte (n / 16) ∷ []) at m) where
      pub pair_last_room : m + 1 ≤ length o
      pair_last_room = rest_room d (numeral 16 2 n) (digit_byte (n / 16) ∷ []) (digit_byte (n % 16) ∷ []) at (numeral_two n small h) room o m w

      pub pair_two : (p : List ℕ) (k : ℕ) → Wrote o p (digit_byte (n % 16) ∷ []) m k → Wrote d p (numeral 16 2 n) at k
      pair_two = rest_all d (numeral 16 2 n) (digit_byte (n / 16) ∷ []) (digit_byte (n % 16) ∷ []) at (numeral_two n small h) room o m w

  module _ (room : at + length (numeral 16 4 n) ≤ length d) where
    pub group_pair_room : n < 256 → at + length (numeral 16 2 n) ≤ length d
    group_pair_room h = rw (← (numeral_pair n h)) room

    pub group_pair : n < 256 → (o : List ℕ) (m : ℕ) → Wrote d o (numeral 16 2 n) at m → Wrote d o (numeral 16 4 n) at m
    group_pair h o m w = rw (numeral_pair n h) w

    module _ (h : 256 ≤ n) where
      abbrev third : List ℕ
      third = digit_byte (n / 16 % 16) ∷ []

      abbrev last : List ℕ
      last = digit_byte (n % 16) ∷ []

      pub group_room : at + length (numeral 16 2 (n / 256)) ≤ length d
      group_room = front_room d (numeral 16 4 n) (numeral 16 2 (n / 256)) (third ++ last) at (numeral_four n h) room

      module _ (o : List ℕ) (m : ℕ) (w : Wrote d o (numeral 16 2 (n / 256)) at m) where
        pub group_third_room : m + 1 ≤ length o
        group_third_room = second_room d (numeral 16 4 n) (numeral 16 2 (n / 256)) third last at (numeral_four n h) room o m w

        module _ (p : List ℕ) (k : ℕ) (v : Wrote o p (digit_byte (n / 16 % 16) ∷ []) m k) where
          pub group_last_room : k + 1 ≤ length p
          group_last_room = third_room d (numeral 16 4 n) (numeral 16 2 (n / 256)) third last at (numeral_four n h) room o m w p k v

          pub group_four : (q : List ℕ) (i : ℕ) → Wrote p q (digit_byte (n % 16) ∷ []) k i → Wrote d q (numeral 16 4 n) at i
          group_four = third_all d (numeral 16 4 n) (numeral 16 2 (n / 256)) third last at (numeral_four n h) room o m w p k v

-- ## Groups and colons

hex_groups_cons : (g : ℕ) (gs : List ℕ) → hex_groups (g ∷ gs) ≡ numeral 16 4 g ++ colon_groups gs
unfolding intercalate colon_groups
hex_groups_cons g [] = sym (append-nil (numeral 16 4 g))
hex_groups_cons g (h ∷ gs) = rw (hex_groups_cons h gs) (simp append_assoc)

length_colon_groups : (gs : List ℕ) → length (colon_groups gs) ≤ 5 * length gs
unfolding colon_groups
length_colon_groups [] = omega arith
length_colon_groups (g ∷ gs) = simp length-append (omega (arith, (length_numeral 16 4 g).0, length_colon_groups gs))

pub length_hex_groups : (gs : List ℕ) → length (hex_groups gs) ≤ 5 * length gs - 1
unfolding intercalate
length_hex_groups [] = omega arith
length_hex_groups (g ∷ gs) = rw (hex_groups_cons g gs, length-append (numeral 16 4 g) (colon_groups gs))
    (omega (arith, (length_numeral 16 4 g).0, length_colon_groups gs))

-- the first i groups of gs are written into d from `at` on, which gave o; p is the place after them
pub record Groups (d o gs : List ℕ) (at p i : ℕ) : Type 0 where
  pub done : List ℕ
  pub wrote : Wrote d o done at p
  pub whole : colon_groups gs ≡ done ++ colon_groups (drop i gs)
  pub long : length o ≡ length d
  pub within : i ≤ length gs

pub groups_start : (d gs : List ℕ) (at : ℕ) → Groups d d gs at at 0
groups_start d gs at = record { done = []; wrote = wrote_nil d at; whole = refl; long = refl; within = omega arith }

colon_groups_next : (gs : List ℕ) (i : ℕ) → i < length gs → colon_groups (drop i gs) ≡ (bytes ":" ++ numeral 16 4 (get_or gs i 0)) ++ colon_groups (drop (i + 1) gs)
unfolding colon_groups
colon_groups_next gs i h = rw (drop-cons gs i 0, add-one)

module _ (d gs : List ℕ) (at : ℕ) (room : at + length (colon_groups gs) ≤ length d) (o : List ℕ) (p i : ℕ) (h : Groups d o gs at p i) where
  module _ (lt : i < length gs) where
    abbrev next : List ℕ
    next = bytes ":" ++ numeral 16 4 (get_or gs i 0)

    left : p + length (colon_groups (drop i gs)) ≤ length o
    left = rest_room d (colon_groups gs) h.done (colon_groups (drop i gs)) at h.whole room o p h.wrote

    whole_next : colon_groups gs ≡ (h.done ++ next) ++ colon_groups (drop (i + 1) gs)
    whole_next = h.whole ∙ rw (colon_groups_next gs i lt) (sym (append_assoc h.done next (colon_groups (drop (i + 1) gs))))

    pub groups_room : p + length (bytes ":" ++ numeral 16 4 (get_or gs i 0)) ≤ length o
    groups_room = front_room o (colon_groups (drop i gs)) next (colon_groups (drop (i + 1) gs)) p (colon_groups_next gs i lt) left

    pub groups_step : (q : List ℕ) (k : ℕ) → Wrote o q (bytes ":" ++ numeral 16 4 (get_or gs i 0)) p k → length q ≡ length o → Groups d q gs at k (i + 1)
    groups_step q k w e =
        record {
          done = h.done ++ next;
          wrote = rest_all d (h.done ++ next)
              h.done next at refl (front_room d (colon_groups gs) (h.done ++ next) (colon_groups (drop (i + 1) gs)) at whole_next room) o p h.wrote q k w;
          whole = whole_next;
          long = e ∙ h.long;
          within = omega arith;
        }

  pub groups_end : length gs ≤ i → Wrote d o (colon_groups gs) at p
  unfolding colon_groups
  groups_end le = let e : colon_groups gs ≡ h.done = h.whole ∙ rw (drop_of_length-le gs le) (append-nil h.done) in rw e h.wrote

-- the first group, and then the others
hex_groups_first : (gs : List ℕ) → (length gs ≡ 0 → ⊥) → hex_groups gs ≡ numeral 16 4 (get_or gs 0 0) ++ colon_groups (take (length gs - 1) (drop 1 gs))
hex_groups_first [] n = absurd (n refl)
hex_groups_first (g ∷ gs) n = rw (take_rest (g ∷ gs) 1) (hex_groups_cons g gs)

module _ (d gs : List ℕ) (at : ℕ) where
  pub hex_groups_none : length gs ≡ 0 → Wrote d d (hex_groups gs) at at
  unfolding intercalate
  hex_groups_none = by gs
    where
      by : (gs : List ℕ) → length gs ≡ 0 → Wrote d d (hex_groups gs) at at
      by [] e = wrote_nil d at
      by (g ∷ gs) e = absurd (omega arith)

  module _ (room : at + length (hex_groups gs) ≤ length d) (n : length gs ≡ 0 → ⊥) where
    pub hex_groups_first_room : at + length (numeral 16 4 (get_or gs 0 0)) ≤ length d
    hex_groups_first_room = front_room d (hex_groups gs) (numeral 16 4 (get_or gs 0 0))
        (colon_groups (take (length gs - 1) (drop 1 gs))) at (hex_groups_first gs n) room

    module _ (o : List ℕ) (p : ℕ) (w : Wrote d o (numeral 16 4 (get_or gs 0 0)) at p) where
      pub hex_groups_rest_room : p + length (colon_groups (take (length gs - 1) (drop 1 gs))) ≤ length o
      hex_groups_rest_room = rest_room d (hex_groups gs) (numeral 16 4 (get_or gs 0 0))
          (colon_groups (take (length gs - 1) (drop 1 gs))) at (hex_groups_first gs n) room o p w

      pub hex_groups_all : (q : List ℕ) (k : ℕ) → Wrote o q (colon_groups (take (length gs - 1) (drop 1 gs))) p k → Wrote d q (hex_groups gs) at k
      hex_groups_all = rest_all d (hex_groups gs) (numeral 16 4 (get_or gs 0 0))
          (colon_groups (take (length gs - 1) (drop 1 gs))) at (hex_groups_first gs n) room o p w

-- ## `::`

module _ (d gs : List ℕ) (at : ℕ) (r : Run) (is-r : r ≡ longest_run gs) (long : length gs ≡ 8) (room : at + length (compress 7 gs) ≤ length d) where
  pub plain_room : r.len < 2 → at + length (hex_groups gs) ≤ length d
  plain_room h = rw (← (compress_plain gs r is-r h 7)) room

  pub plain_all : r.len < 2 → (o : List ℕ) (m : ℕ) → Wrote d o (hex_groups gs) at m → Wrote d o (compress 7 gs) at m
  plain_all h o m w = rw (compress_plain gs r is-r h 7) w

  module _ (h : 2 ≤ r.len) where
    abbrev before : List ℕ
    before = hex_groups (take r.place gs)

    abbrev behind : List ℕ
    behind = hex_groups (take (length gs - (r.place + r.len)) (drop (r.place + r.len) gs))

    whole_run : compress 7 gs ≡ before ++ (bytes "::" ++ behind)
    whole_run =
        compress_run gs r is-r h 7 (omega (arith, run_within gs r is-r))
        ∙ rw (take_rest gs (r.place + r.len)) (append_assoc before (bytes "::") (hex_groups (drop (r.place + r.len) gs)))

    pub run_room : at + length (hex_groups (take r.place gs)) ≤ length d
    run_room = front_room d (compress 7 gs) before (bytes "::" ++ behind) at whole_run room

    module _ (o : List ℕ) (m : ℕ) (w : Wrote d o (hex_groups (take r.place gs)) at m) where
      pub run_mark_room : m + 2 ≤ length o
      run_mark_room = second_room d (compress 7 gs) before (bytes "::") behind at whole_run room o m w

      module _ (p : List ℕ) (k : ℕ) (v : Wrote o p (bytes "::") m k) where
        pub run_behind_room : k + length (hex_groups (take (length gs - (r.place + r.len)) (drop (r.place + r.len) gs))) ≤ length p
        run_behind_room = third_room d (compress 7 gs) before (bytes "::") behind at whole_run room o m w p k v

        pub run_all : (q : List ℕ) (i : ℕ) → Wrote p q (hex_groups (take (length gs - (r.place + r.len)) (drop (r.place + r.len) gs))) k i
            → Wrote d q (compress 7 gs) at i
        run_all = third_all d (compress 7 gs) before (bytes "::") behind at whole_run room o m w p k v

-- ## Where `::` makes a difference

colon_groups_append : (a b : List ℕ) → length (colon_groups (a ++ b)) ≡ length (colon_groups a) + length (colon_groups b)
unfolding colon_groups
colon_groups_append [] b = omega arith
colon_groups_append (g ∷ gs) b = simp length-append (omega (arith, colon_groups_append gs b))

colon_groups_least : (gs : List ℕ) → 2 * length gs ≤ length (colon_groups gs)
unfolding colon_groups
colon_groups_least [] = omega arith
colon_groups_least (g ∷ gs) = simp length-append (omega (arith, (length_numeral 16 4 g).1 (omega arith), colon_groups_least gs))

-- groups with a colon between each two have one byte less, where there are any
hex_groups_most : (gs : List ℕ) → length (hex_groups gs) ≤ length (colon_groups gs)
unfolding intercalate colon_groups
hex_groups_most [] = omega arith
hex_groups_most (g ∷ gs) = rw (hex_groups_cons g gs) (simp length-append (omega arith))

hex_groups_least : (gs : List ℕ) → length (colon_groups gs) ≤ length (hex_groups gs) + 1
unfolding intercalate colon_groups
hex_groups_least [] = omega arith
hex_groups_least (g ∷ gs) = rw (hex_groups_cons g gs) (simp length-append (omega arith))

-- two groups or more have more bytes than `::`
groups_longer : (a b c : List ℕ) → 2 ≤ length b → length (hex_groups a ++ bytes "::" ++ hex_groups c) < length (hex_groups (a ++ b ++ c))
groups_longer a b c h =
    rw (length-append (hex_groups a ++ bytes "::") (hex_groups c), length-append (hex_groups a) (bytes "::"))
    (omega (
      arith,
      hex_groups_least (a ++ b ++ c),
      colon_groups_append (a ++ b) c,
      colon_groups_append a b,
      colon_groups_least b,
      hex_groups_most a,
      hex_groups_most c,
    ))

-- the groups before a run, in it, and behind it
parted : (gs : List ℕ) (p n : ℕ) → take p gs ++ take n (drop p gs) ++ drop (p + n) gs ≡ gs
parted gs p n =
    append_assoc (take p gs) (take n (drop p gs)) (drop (p + n) gs)
    ∙ ap (λ (x : List ℕ). take p gs ++ x) (rw (← (drop-drop n p gs)) (take-append-drop n (drop p gs))) ∙ take-append-drop p gs

module _ (gs : List ℕ) (r : Run) (is-r : r ≡ longest_run gs) (long : length gs ≡ 8) where
  abbreviated : 2 ≤ r.len → equal (compress 7 gs) (hex_groups gs) ≡ false
  abbreviated h = equal_lengths (compress 7 gs) (hex_groups gs) (λ e. omega (arith, e, shorter))
    where
      within : r.place + r.len ≤ length gs
      within = run_within gs r is-r

      two : 2 ≤ length (take r.len (drop r.place gs))
      two = rw (length-take-le r.len (drop r.place gs) (omega (arith, within, length-drop r.place gs))) h

      shorter : length (compress 7 gs) < length (hex_groups gs)
      shorter =
          rw (compress_run gs r is-r h 7 (omega (arith, within, long)))
          (subst (λ (x : List ℕ). length (hex_groups (take r.place gs) ++ bytes "::" ++ hex_groups (drop (r.place + r.len) gs)) < length (hex_groups x))
          (parted gs r.place r.len)
          (groups_longer (take r.place gs) (take r.len (drop r.place gs)) (drop (r.place + r.len) gs) two))

  pub is_abbreviated : leb 2 r.len ≡ not (equal (compress 7 gs) (hex_groups gs))
  is_abbreviated = by (leb 2 r.len) refl
    where
      by : (t : Bool) → leb 2 r.len ≡ t → leb 2 r.len ≡ not (equal (compress 7 gs) (hex_groups gs))
      by true e = rw (e, abbreviated (leb-true 2 r.len e))
      by false e = rw (e, compress_plain gs r is-r (leb-false 2 r.len e) 7, equal_refl (hex_groups gs))

-- ## The digits of an address

to_digits_append : (b j k h l : ℕ) → 0 < b → l < b ^ k → to_digits b (j + k) (h * b ^ k + l) ≡ to_digits b j h ++ to_digits b k l
unfolding to_digits
to_digits_append b j zero h l pos lt =
    let z : l < 1 = rw (pow-zero b) at lt in
    let e : j + 0 ≡ j = omega arith in
    let f : h * b ^ 0 + l ≡ h = rw (pow-zero b) (omega arith) in
    rw (e, f, append-nil (to_digits b j h))
to_digits_append b j (suc k) h l pos lt =
    let e : j + suc k ≡ suc (j + k) = omega arith in
    let f : h * b ^ suc k + l ≡ h * b ^ k * b + l = rw (pow-suc b k, mul_assoc h (b ^ k) b) in
    let m : l / b < b ^ k = (div-lt_iff_lt-mul {k = b} {x = l} {y = b ^ k} pos).1 (rw (pow-suc b k) at lt) in
    rw (e, f, mul-add-div_right pos (h * b ^ k) l, mul-add-mod_self_right (h * b ^ k) b l, to_digits_append b j k h (l / b) pos m)
    (append_assoc (to_digits b j h) (to_digits b k (l / b)) (l % b ∷ []))

to_digits_four : (b n : ℕ) → to_digits b 4 n ≡ n / (b * b * b) % b ∷ n / (b * b) % b ∷ n / b % b ∷ n % b ∷ []
unfolding to_digits
to_digits_four b n = rw (div-div-eq-div-mul n b b, div-div-eq-div-mul n (b * b) b)

pub to_digits_halves : (high low : ℕ) → high < 2 ^ 64 → low < 2 ^ 64
    → high / 2 ^ 48 ∷ high / 2 ^ 32 % 65536 ∷ high / 2 ^ 16 % 65536 ∷ high % 65536 ∷ low / 2 ^ 48 ∷ low / 2 ^ 32 % 65536 ∷ low / 2 ^ 16 % 65536 ∷ low % 65536
    ∷ []
    ≡ to_digits 65536 8 (high * 2 ^ 64 + low)
to_digits_halves high low h l =
    let a : high / 2 ^ 48 % 65536 ≡ high / 2 ^ 48 = mod-eq_of_lt (omega arith) in
    let b : low / 2 ^ 48 % 65536 ≡ low / 2 ^ 48 = mod-eq_of_lt (omega arith) in
    sym (to_digits_append 65536 4 4 high low (omega arith) l ∙ rw (to_digits_four 65536 high, to_digits_four 65536 low, a, b))

abbrev pub dotted : ℕ → List ℕ
dotted n = bytes "." ++ decimal n

pub text_v4_fields : (n : ℕ) → text_v4 n ≡ decimal (n / 2 ^ 24 % 256) ++ (dotted (n / 2 ^ 16 % 256) ++ (dotted (n / 2 ^ 8 % 256) ++ dotted (n % 256)))
unfolding intercalate
text_v4_fields n = rw (to_digits_four 256 n) (simp append_assoc)

-- the four fields, one after the other
module _ (d : List ℕ) (at n : ℕ) (fits : n < 2 ^ 32) (room : at + length (text_v4 n) ≤ length d) where
  abbrev last_two : List ℕ
  last_two = dotted (n / 2 ^ 8 % 256) ++ dotted (n % 256)

  whole : text_v4 n ≡ decimal (n / 2 ^ 24) ++ (dotted (n / 2 ^ 16 % 256) ++ last_two)
  whole = let e : n / 2 ^ 24 % 256 ≡ n / 2 ^ 24 = mod-eq_of_lt (omega arith) in rw e at (text_v4_fields n)

  pub fields_room : at + length (decimal (n / 2 ^ 24)) ≤ length d
  fields_room = front_room d (text_v4 n) (decimal (n / 2 ^ 24)) (dotted (n / 2 ^ 16 % 256) ++ last_two) at whole room

  module _ (o : List ℕ) (m : ℕ) (w : Wrote d o (decimal (n / 2 ^ 24)) at m) where
    pub fields_room_2 : m + length (dotted (n / 2 ^ 16 % 256)) ≤ length o
    fields_room_2 = second_room d (text_v4 n) (decimal (n / 2 ^ 24)) (dotted (n / 2 ^ 16 % 256)) last_two at whole room o m w

    module _ (o2 : List ℕ) (m2 : ℕ) (w2 : Wrote o o2 (dotted (n / 2 ^ 16 % 256)) m m2) where
      left_two : m2 + length last_two ≤ length o2
      left_two = third_room d (text_v4 n) (decimal (n / 2 ^ 24)) (dotted (n / 2 ^ 16 % 256)) last_two at whole room o m w o2 m2 w2

      pub fields_room_3 : m2 + length (dotted (n / 2 ^ 8 % 256)) ≤ length o2
      fields_room_3 = front_room o2 last_two (dotted (n / 2 ^ 8 % 256)) (dotted (n % 256)) m2 refl left_two

      module _ (o3 : List ℕ) (m3 : ℕ) (w3 : Wrote o2 o3 (dotted (n / 2 ^ 8 % 256)) m2 m3) where
        pub fields_room_4 : m3 + length (dotted (n % 256)) ≤ length o3
        fields_room_4 = rest_room o2 last_two (dotted (n / 2 ^ 8 % 256)) (dotted (n % 256)) m2 refl left_two o3 m3 w3

        pub fields_all : (o4 : List ℕ) (m4 : ℕ) → Wrote o3 o4 (dotted (n % 256)) m3 m4 → Wrote d o4 (text_v4 n) at m4
        fields_all o4 m4 w4 =
            third_all d (text_v4 n) (decimal (n / 2 ^ 24)) (dotted (n / 2 ^ 16 % 256)) last_two at whole room o m w o2 m2 w2 o4 m4
            (rest_all o2 last_two (dotted (n / 2 ^ 8 % 256)) (dotted (n % 256)) m2 refl left_two o3 m3 w3 o4 m4 w4)

-- ## How long a text can be

length_field : (n : ℕ) → length (decimal (n % 256)) ≤ 3
length_field n = length_numeral_below 10 10 2 (n % 256) (omega arith) (omega (arith, mod-lt n {m = 256} (omega arith)))

length_text_v4 : (n : ℕ) → length (text_v4 n) ≤ 15
length_text_v4 n =
    rw (text_v4_fields n)
    (simp length-append (omega (arith, length_field (n / 2 ^ 24), length_field (n / 2 ^ 16), length_field (n / 2 ^ 8), length_field n)))

length_compress : (gs : List ℕ) → length gs ≡ 8 → length (compress 7 gs) ≤ 39
length_compress gs e = by (ltb (longest_run gs).len 2) refl
  where
    by : (t : Bool) → ltb (longest_run gs).len 2 ≡ t → length (compress 7 gs) ≤ 39
    by true q = rw (compress_plain gs (longest_run gs) refl (ltb-true (longest_run gs).len 2 q) 7) (omega (arith, length_hex_groups gs))
    by false q =
        let m : 2 ≤ (longest_run gs).len = ltb-false (longest_run gs).len 2 q in
        let w : (longest_run gs).place + (longest_run gs).len ≤ length gs = run_within gs (longest_run gs) refl in
        rw (compress_run gs (longest_run gs) refl m 7 (omega arith))
        (simp length-append
        (omega (
          arith,
          length_hex_groups (take (longest_run gs).place gs),
          length_hex_groups (drop ((longest_run gs).place + (longest_run gs).len) gs),
          length-take-le (longest_run gs).place gs (omega arith),
          length-drop ((longest_run gs).place + (longest_run gs).len) gs,
        )))

pub length_addr_text : (a : Addr) → length (addr_text a) ≤ 39
unfolding addr_text
length_addr_text A.Unknown = omega arith
length_addr_text (A.V4 n) = omega (arith, length_text_v4 n)
length_addr_text (A.V6 high low) = length_compress (to_digits 65536 8 (high * 2 ^ 64 + low)) (length_to_digits 65536 8 (high * 2 ^ 64 + low))

-- ## The calls

pub addr_text_unknown : (a : Addr) → a ≡ A.Unknown → addr_text a ≡ bytes "unknown"
unfolding addr_text
addr_text_unknown a e = rw e

pub addr_text_v4 : (a : Addr) (n : ℕ) → a ≡ A.V4 n → addr_text a ≡ text_v4 n
unfolding addr_text
addr_text_v4 a n e = rw e

pub addr_text_v6 : (a : Addr) (high low : ℕ) → a ≡ A.V6 high low → addr_text a ≡ text_v6 (high * 2 ^ 64 + low)
unfolding addr_text
addr_text_v6 a high low e = rw e

-- the text of a, n bytes, was written at the front of the buffer b, which gave o
module _ (a : Addr) (b o : List ℕ) (n : ℕ) (w : Wrote b o (addr_text a) 0 n) where
  pub buffer_within : length b ≡ 39 → n ≤ length o
  buffer_within e = let l = length_addr_text a in rw (w.0, w.1, length_put_at b (addr_text a) 0 (omega arith)) (omega arith)

  pub buffer_text : take n o ≡ addr_text a
  unfolding put_at
  buffer_text = rw (w.0, w.1, take-paste b 0 (addr_text a) (length (addr_text a)) (omega arith) (omega arith), take-length (addr_text a))

  module _ (d : List ℕ) where
    pub write_refused : length d < n → (r : Refusal) → r ≡ placeless F.NoRoom
        → (Err r ≡ written_of (write_address a (length d))) × (d ≡ lent_after d (write_address a (length d)))
    unfolding write_address
    write_refused h r e = let l : length d < length (addr_text a) = omega (arith, w.0) in
        (rw (e, lt-ltb (length d) (length (addr_text a)) l), rw (lt-ltb (length d) (length (addr_text a)) l))

    pub write_count : n ≤ length d → (p : List ℕ) (k : ℕ) → Wrote d p (take n o) 0 k
        → (Ok k ≡ written_of (write_address a (length d))) × (p ≡ lent_after d (write_address a (length d)))
    unfolding write_address after
    write_count h p k v = let l : length (addr_text a) ≤ length d = omega (arith, w.0) in
        let c : k ≡ length (addr_text a) = v.0 ∙ rw buffer_text (omega arith) in
        let f : p ≡ addr_text a ++ drop (length (addr_text a)) d = rw buffer_text at (put_first d p (take n o) v.1) in
        (rw (le-ltb (length d) (length (addr_text a)) l) (ap (λ (m : ℕ). Ok m) c), rw (le-ltb (length d) (length (addr_text a)) l) f)
