-- Laws of the patterns of addresses: what they match is what their nets and prefixes cover.
-- Assumes nothing.
use Rattle.std.specs.Prelude.{None, Option, Some, unwrap_or}
use Prim.Native.Nat.{ℕ, zero, suc, ◌+◌, ◌-◌, ◌*◌, ◌/◌, ◌%◌, ◌^◌, ◌<◌, ◌≤◌}
use mathlib.Core.Bool.{Bool, true, false, true≢false}
use mathlib.Core.List.{List, [], ◌∷◌}
use mathlib.Core.Path.{◌≡◌, refl, sym, ap, ap₂, ◌∙◌}
use native.Mathlib.Nat.{add-zero, add-suc, mul_comm, div-add-mod', div-div-eq-div-mul, mod-eq_of_lt, pow-zero, pow-suc, div-one}
use native.Mathlib.Omega.{arith}
use borrow.Author.Tests.{eq-eqb, ne_eqb, lt-ltb, leb-true}
use lib.Bits.{bit_and, and_mask}
use lib.Dec.{eqb, leb, ltb}
use lib.Pow.{pow_pos, shl-shr}
use lib.ListN.{length, take, drop}
use lib.Seq.{take_all, take-append-le}
use Rattle.text.specs.Basics.{when◌then◌else◌, ◌>>=◌, ◌or_else◌, given, holds, is_some, all, each}
use Rattle.text.specs.Text.{bytes, among, last_among, starts_with, split_once, split, equal}
use Rattle.text.specs.Number.{from_digits, to_digits, read_decimal}
use Rattle.text.proofs.Digits.{length_to_digits, from_digits_to_digits, to_digits_from_digits}
use Rattle.text.proofs.ScanLaws.{equal_refl, eq_of_equal}
use Rattle.address.specs.Address.{same_prefix, addr_case, read_v4, read_v6}
use Rattle.address.specs.declared.Addr.{Addr}
use Rattle.address.specs.declared.Addr.TheVariants as A
use Rattle.address.proofs.PrefixLaws.{eqb_iff, and_leading}
use Rattle.address.proofs.ReadLaws.{read_decimal_le}
use Rattle.patterns.specs.Host.{Endpoint}
use Rattle.patterns.specs.Pattern.{Pattern, bracket_pattern, leading_fields, read_mask, net_mask, dotted_pattern}
use Rattle.patterns.specs.Code.{leading_net, dotted_fields, fields_net, mask_net, dotted_net, matches_pattern, net_covers, dotted_test, dotted_covers}
use Rattle.patterns.specs.Code.{as_prefix, bracket_prefix, prefix_length, prefix_covers, bracket_covers}
use Rattle.patterns.proofs.DottedLaws.{dotted_fields_pos}

-- ## Leading fields

each_below : (ws : List (List ℕ)) (fs : List ℕ) → each (read_decimal 255) ws ≡ Some fs → all (λ d. ltb d 256) fs ≡ true
unfolding each all
each_below [] fs e = let q : fs ≡ [] = cc in rw q
each_below (w ∷ ws) fs e = by (read_decimal 255 w) refl (each (read_decimal 255) ws) fs e (each_below ws)
  where
    by : (o : Option ℕ) → read_decimal 255 w ≡ o → (r : Option (List ℕ)) (fs : List ℕ) → (o >>= λ y. r >>= λ ys. Some (y ∷ ys)) ≡ Some fs
        → ((ys : List ℕ) → r ≡ Some ys → all (λ d. ltb d 256) ys ≡ true) → all (λ d. ltb d 256) fs ≡ true
    by None p r fs e ih = let z : ◌≡◌ {A = ℕ} 0 1 = cc in absurd (omega arith)
    by (Some y) p None fs e ih = let z : ◌≡◌ {A = ℕ} 0 1 = cc in absurd (omega arith)
    by (Some y) p (Some ys) fs e ih =
        let q : fs ≡ y ∷ ys = cc in
        rw (q, lt-ltb y 256 (omega (arith, read_decimal_le 255 y w p))) (ih ys refl)

-- the first k digits are those of the quotient
take_to_digits : (b k j n : ℕ) → take k (to_digits b (k + j) n) ≡ to_digits b k (n / b ^ j)
unfolding to_digits
take_to_digits b k zero n = rw (add-zero k, pow-zero b, div-one n) (take_all k (to_digits b k n) (omega (arith, length_to_digits b k n)))
take_to_digits b k (suc j) n =
    rw (add-suc k j, take-append-le k (to_digits b (k + j) (n / b)) (n % b ∷ []) (omega (arith, length_to_digits b (k + j) (n / b))))
    (take_to_digits b k j (n / b) ∙ ap (to_digits b k) (div-div-eq-div-mul n b (b ^ j) ∙ ap (λ (p : ℕ). n / p) (mul_comm b (b ^ j) ∙ sym (pow-suc b j))))

equal_digits : (b k x : ℕ) (fs : List ℕ) → 0 < b → all (λ d. ltb d b) fs ≡ true → length fs ≡ k → x < b ^ k → equal fs (to_digits b k x)
    ≡ eqb (from_digits b 0 fs) x
equal_digits b k x fs pos below len lt = by (equal fs (to_digits b k x)) refl
  where
    by : (t : Bool) → equal fs (to_digits b k x) ≡ t → equal fs (to_digits b k x) ≡ eqb (from_digits b 0 fs) x
    by true e = e ∙ sym (eq-eqb (from_digits b 0 fs) x (ap (from_digits b 0) (eq_of_equal fs (to_digits b k x) e) ∙ from_digits_to_digits b k x pos lt))
    by false e = e ∙ sym (ne_eqb (from_digits b 0 fs) x (λ q. true≢false (sym (equal_refl fs) ∙ ap (equal fs) (sym (same q)) ∙ e)))
      where
        same : from_digits b 0 fs ≡ x → to_digits b k x ≡ fs
        same q = ap₂ (to_digits b) (sym len) (sym q) ∙ to_digits_from_digits b 0 fs below

-- k fields that write n, k of 1 to 3, as a net
module _ (fs : List ℕ) (below : all (λ d. ltb d 256) fs ≡ true) (a : ℕ) (small : a < 4294967296) where
  abbrev n : ℕ
  n = from_digits 256 0 fs

  -- with p the weight of the last field, and k more digits before it
  starts : (k j : ℕ) → length fs ≡ k → a / 256 ^ j < 256 ^ k → starts_with fs (to_digits 256 (k + j) a) ≡ eqb n (a / 256 ^ j)
  starts k j len lt = rw (len, take_to_digits 256 k j a) (equal_digits 256 k (a / 256 ^ j) fs (omega arith) below len lt)

  shifted : (k p : ℕ) → k ≤ 32 → p ≡ 2 ^ (32 - k) → eqb n (a / p) ≡ eqb (n * p) (bit_and a (4294967296 - p))
  shifted k p h e =
      let q : ℕ = 2 ^ (32 - k) in
      let m : 4294967296 - q ≡ 4294967295 - (q - 1) = omega (arith, pow_pos (32 - k)) in
      rw (e, m, and_leading 32 k (q - 1) h refl a small)
      (eqb_iff n (a / q) (n * q) (a / q * q) (ap (λ (x : ℕ). x * q)) (λ r. sym (shl-shr n (32 - k)) ∙ ap (λ (x : ℕ). x / q) r ∙ shl-shr (a / q) (32 - k)))

  leading_net_covers : (k : ℕ) → length fs ≡ k → 1 ≤ k → k ≤ 3 → starts_with fs (to_digits 256 4 a)
      ≡ eqb (n * 2 ^ (32 - 8 * k)) (bit_and a (2 ^ 32 - 2 ^ (32 - 8 * k)))
  leading_net_covers zero len h l = absurd (omega arith)
  leading_net_covers (suc zero) len h l = starts 1 3 len (omega arith) ∙ shifted 8 16777216 (omega arith) refl
  leading_net_covers (suc (suc zero)) len h l = starts 2 2 len (omega arith) ∙ shifted 16 65536 (omega arith) refl
  leading_net_covers (suc (suc (suc zero))) len h l = starts 3 1 len (omega arith) ∙ shifted 24 256 (omega arith) refl
  leading_net_covers (suc (suc (suc (suc k)))) len h l = absurd (omega arith)

-- ## What a dotted pattern covers

leading_fields_none : (e : List ℕ) → last_among "." e ≡ false → leading_fields e ≡ None
unfolding leading_fields
leading_fields_none e h = rw h (by (each (read_decimal 255) (split "." (take (length e - 1) e))))
  where
    by : (o : Option (List ℕ)) → ◌≡◌ {A = Option (ℕ → Bool)} (o >>= λ fs. None) None
    by None = refl
    by (Some fs) = refl

-- what holds of a test of each kind and of its net
record Alike (p : (ℕ → Bool) → Bool) (q : ℕ × ℕ → Bool) : Type 0 where
  address : (n : ℕ) → p (eqb n) ≡ q (n, 4294967295)
  masked : (n m : ℕ) → p (λ a. eqb n (bit_and a m)) ≡ q (n, m)
  leading : (fs : List ℕ) → all (λ d. ltb d 256) fs ≡ true → 1 ≤ length fs → length fs ≤ 3
      → p (λ a. starts_with fs (to_digits 256 4 a)) ≡ q (leading_net (length fs) (from_digits 256 0 fs))

-- the test that is read and the net: both are read, and alike, or neither is
module _ (p : (ℕ → Bool) → Bool) (q : ℕ × ℕ → Bool) (like : Alike p q) where
  abbrev Same : Option (ℕ → Bool) → Option (ℕ × ℕ) → Type 0
  Same o r = (is_some o ≡ is_some r) × (holds p o ≡ holds q r)

  or_else_same : (o u : Option (ℕ → Bool)) (r v : Option (ℕ × ℕ)) → Same o r → Same u v → Same (o or_else u) (r or_else v)
  or_else_same None u None v h k = k
  or_else_same None u (Some n) v h k = absurd (true≢false (sym h.0))
  or_else_same (Some f) u None v h k = absurd (true≢false h.0)
  or_else_same (Some f) u (Some n) v h k = h

  address_same : (o : Option ℕ) → Same (o >>= λ n. Some (eqb n)) (o >>= λ n. Some (n, 4294967295))
  address_same None = (refl, refl)
  address_same (Some n) = (refl, like.address n)

  module _ (e : List ℕ) where
    fields_net_same : Same (leading_fields e) (fields_net e)
    unfolding leading_fields fields_net dotted_fields
    fields_net_same = by (last_among "." e) refl (each (read_decimal 255) (split "." (take (length e - 1) e))) refl
      where
        by : (b : Bool) → last_among "." e ≡ b → (o : Option (List ℕ)) → each (read_decimal 255) (split "." (take (length e - 1) e)) ≡ o
            → Same (leading_fields e) (fields_net e)
        by false h o r = rw (leading_fields_none e h, h) (refl, refl)
        by true h None r = rw (h, r) (refl, refl)
        by true h (Some fs) r = rw (h, r) (within (leb (length fs) 3) refl)
          where
            within : (b : Bool) → leb (length fs) 3 ≡ b
                → Same (given b (λ a. starts_with fs (to_digits 256 4 a))) (given b (leading_net (length fs) (from_digits 256 0 fs)))
            within true l =
                (refl, like.leading fs (each_below (split "." (take (length e - 1) e)) fs r) (dotted_fields_pos e fs (rw h r)) (leb-true (length fs) 3 l))
            within false l = (refl, refl)

    mask_net_same : Same (net_mask e) (mask_net e)
    unfolding net_mask mask_net
    mask_net_same = by (split_once (bytes "/") e)
      where
        both : (o r : Option ℕ) → Same (o >>= λ n. r >>= λ m. Some (λ a. eqb n (bit_and a m))) (o >>= λ n. r >>= λ m. Some (n, m))
        both None r = (refl, refl)
        both (Some n) None = (refl, refl)
        both (Some n) (Some m) = (refl, like.masked n m)

        by : (o : Option (List ℕ × List ℕ)) → Same (o >>= λ t. read_v4 t.0 >>= λ n. read_mask t.1 >>= λ m. Some (λ a. eqb n (bit_and a m)))
            (o >>= λ t. read_v4 t.0 >>= λ n. read_mask t.1 >>= λ m. Some (n, m))
        by None = (refl, refl)
        by (Some t) = both (read_v4 t.0) (read_mask t.1)

    dotted_net_alike : holds p (dotted_test e) ≡ holds q (dotted_net e)
    unfolding dotted_test dotted_net
    dotted_net_alike =
        let a : Option (ℕ → Bool) = read_v4 e >>= λ n. Some (eqb n) in
        let n : Option (ℕ × ℕ) = read_v4 e >>= λ n. Some (n, 4294967295) in
        (or_else_same (a or_else leading_fields e) (net_mask e) (n or_else fields_net e) (mask_net e)
        (or_else_same a (leading_fields e) n (fields_net e) (address_same (read_v4 e)) fields_net_same) mask_net_same).1

-- of an address of 32 bits, as the code finds it
module _ (e : List ℕ) (a : ℕ) (small : a < 4294967296) where
  at_address : Alike (λ f. f a) (λ q. eqb q.0 (bit_and a q.1))
  at_address = record {
    address = λ n. ap (eqb n) (sym (and_mask a 32 ∙ mod-eq_of_lt small));
    masked = λ n m. refl;
    leading = λ fs below h l. leading_net_covers fs below a small (length fs) refl h l;
  }

  pub dotted_test_net : (r : Option (ℕ × ℕ)) → r ≡ dotted_net e → (x : Bool) → x ≡ net_covers r a → x ≡ holds (λ f. f a) (dotted_test e)
  dotted_test_net r is-r x k = k ∙ ap (λ (n : Option (ℕ × ℕ)). net_covers n a) is-r ∙ by (dotted_net e)
      ∙ sym (dotted_net_alike (λ f. f a) (λ q. eqb q.0 (bit_and a q.1)) at_address e)
    where
      by : (o : Option (ℕ × ℕ)) → net_covers (o) a ≡ holds (λ q. eqb q.0 (bit_and a q.1)) o
      by None = refl
      by (Some q) = refl

-- ## Patterns of addresses as hosts meet them

-- no address is covered by nothing
none_covers : (x : Addr) → false ≡ addr_case x false (λ a. false) (λ a. false)
none_covers A.Unknown = refl
none_covers (A.V4 a) = refl
none_covers (A.V6 h l) = refl

-- the first m bits of an IPv6 address are those of n
abbrev prefix_test : ℕ → ℕ → Endpoint → Bool
prefix_test n m h = addr_case h.host.addr false (λ a. false) (same_prefix 128 m n)

module _ (e : List ℕ) where
  pub dotted_pattern_matches : (h : Endpoint) → matches_pattern (dotted_pattern e) h ≡ dotted_covers e h.host
  unfolding dotted_pattern dotted_test
  dotted_pattern_matches h = by (dotted_test e)
    where
      by : (o : Option (ℕ → Bool)) → matches_pattern (o >>= λ f. Some (λ h. addr_case h.host.addr false f (λ a. false))) h
          ≡ addr_case h.host.addr false (λ a. holds (λ f. f a) o) (λ a. false)
      by None = none_covers h.host.addr
      by (Some f) = refl

  pub dotted_pattern_sound : is_some (dotted_pattern e) ≡ is_some (dotted_net e)
  unfolding dotted_pattern dotted_test
  dotted_pattern_sound = by (dotted_test e)
      ∙ dotted_net_alike (λ f. true) (λ q. true) (record { address = λ n. refl; masked = λ n m. refl; leading = λ fs below h l. refl }) e
    where
      by : (o : Option (ℕ → Bool)) → is_some {A = Endpoint → Bool} (o >>= λ f. Some (λ h. addr_case h.host.addr false f (λ a. false))) ≡ is_some o
      by None = refl
      by (Some f) = refl

  bracket_pattern_is : bracket_pattern e ≡ (bracket_prefix e >>= λ q. Some (prefix_test q.0 q.1))
  unfolding bracket_pattern bracket_prefix prefix_length
  bracket_pattern_is = by (split_once (bytes "]") (drop 1 e)) refl
    where
      assoc : (o r : Option ℕ) → ◌≡◌ {A = Pattern} (o >>= λ n. r >>= λ m. Some (prefix_test n m))
          (◌>>=◌ {A = ℕ × ℕ} (o >>= λ n. r >>= λ m. Some (n, m)) (λ q. Some (prefix_test q.0 q.1)))
      assoc None r = refl
      assoc (Some n) None = refl
      assoc (Some n) (Some m) = refl

      parts : (a b : List ℕ) → split_once (bytes "]") (drop 1 e) ≡ Some (a, b)
          → bracket_pattern e ≡ (bracket_prefix e >>= λ q. Some (prefix_test q.0 q.1))
      parts a [] q = rw q (assoc (read_v6 a) (Some 128))
      parts a (x ∷ t) q = rw q (assoc (read_v6 a) (when among "/" x then read_decimal 128 t else None))

      by : (o : Option (List ℕ × List ℕ)) → split_once (bytes "]") (drop 1 e) ≡ o
          → bracket_pattern e ≡ (bracket_prefix e >>= λ q. Some (prefix_test q.0 q.1))
      by None q = rw q
      by (Some p) q = parts p.0 p.1 q

  pub bracket_pattern_matches : (h : Endpoint) → matches_pattern (bracket_pattern e) h ≡ bracket_covers e h.host
  unfolding prefix_covers
  bracket_pattern_matches h = rw bracket_pattern_is (by (bracket_prefix e))
    where
      by : (o : Option (ℕ × ℕ)) → matches_pattern (o >>= λ q. Some (prefix_test q.0 q.1)) h
          ≡ addr_case h.host.addr false (λ a. false) (λ a. holds (λ q. same_prefix 128 q.1 q.0 a) o)
      by None = none_covers h.host.addr
      by (Some q) = refl

  pub bracket_pattern_sound : is_some (bracket_pattern e) ≡ is_some (bracket_prefix e)
  bracket_pattern_sound = rw bracket_pattern_is (by (bracket_prefix e))
    where
      by : (o : Option (ℕ × ℕ)) → is_some {A = Endpoint → Bool} (o >>= λ q. Some (prefix_test q.0 q.1)) ≡ is_some o
      by None = refl
      by (Some q) = refl

-- as the code finds them
as_net_sound : (o : Option (ℕ × ℕ)) (r : Option (ℕ × ℕ)) → r ≡ o → (r ≡ None → false ≡ is_some o) × ((n m : ℕ) → r ≡ Some (n, m) → true ≡ is_some o)
as_net_sound None r q = (λ e. refl, λ n m e. let z : ◌≡◌ {A = ℕ} 0 1 = cc in absurd (omega arith))
as_net_sound (Some p) r q = (λ e. let z : ◌≡◌ {A = ℕ} 0 1 = cc in absurd (omega arith), λ n m e. refl)

as_prefix_sound : (o : Option (ℕ × ℕ)) (r : Option (ℕ × ℕ × ℕ)) → r ≡ as_prefix o → (r ≡ None → false ≡ is_some o)
    × ((h l m : ℕ) → r ≡ Some (h, l, m) → true ≡ is_some o)
as_prefix_sound None r q = (λ e. refl, λ h l m e. let z : ◌≡◌ {A = ℕ} 0 1 = cc in absurd (omega arith))
as_prefix_sound (Some p) r q = (λ e. let z : ◌≡◌ {A = ℕ} 0 1 = cc in absurd (omega arith), λ h l m e. refl)

prefix_length_le : (t : List ℕ) (m : ℕ) → prefix_length t ≡ Some m → m ≤ 128
unfolding prefix_length
prefix_length_le [] m q = let z : 128 ≡ m = cc in omega arith
prefix_length_le (x ∷ t) m q = by (among "/" x) q
  where
    by : (b : Bool) → (when b then read_decimal 128 t else None) ≡ Some m → m ≤ 128
    by true q = read_decimal_le 128 m t q
    by false q = let z : ◌≡◌ {A = ℕ} 0 1 = cc in absurd (omega arith)

bracket_prefix_le : (e : List ℕ) (p : ℕ × ℕ) → bracket_prefix e ≡ Some p → p.1 ≤ 128
unfolding bracket_prefix
bracket_prefix_le e p q = by (split_once (bytes "]") (drop 1 e)) q
  where
    read : (t : List ℕ) (o l : Option ℕ) → prefix_length t ≡ l → (o >>= λ n. l >>= λ m. Some (n, m)) ≡ Some p → p.1 ≤ 128
    read t None l k q = let z : ◌≡◌ {A = ℕ} 0 1 = cc in absurd (omega arith)
    read t (Some n) None k q = let z : ◌≡◌ {A = ℕ} 0 1 = cc in absurd (omega arith)
    read t (Some n) (Some m) k q = let z : m ≡ p.1 = cc in omega (arith, prefix_length_le t m k)

    by : (o : Option (List ℕ × List ℕ)) → (o >>= λ t. read_v6 t.0 >>= λ n. prefix_length t.1 >>= λ m. Some (n, m)) ≡ Some p → p.1 ≤ 128
    by None q = let z : ◌≡◌ {A = ℕ} 0 1 = cc in absurd (omega arith)
    by (Some t) q = read t.1 (read_v6 t.0) (prefix_length t.1) refl q

module _ (e : List ℕ) (r : Option (ℕ × ℕ × ℕ)) (is-r : r ≡ as_prefix (bracket_prefix e)) where
  pub bracket_pattern_nothing : r ≡ None → false ≡ is_some (bracket_pattern e)
  bracket_pattern_nothing q = (as_prefix_sound (bracket_prefix e) r is-r).0 q ∙ sym (bracket_pattern_sound e)

  pub bracket_pattern_prefix : (h l m : ℕ) → r ≡ Some (h, l, m) → true ≡ is_some (bracket_pattern e)
  bracket_pattern_prefix h l m q = (as_prefix_sound (bracket_prefix e) r is-r).1 h l m q ∙ sym (bracket_pattern_sound e)

  pub prefix_covers_nothing : r ≡ None → (a : ℕ) → false ≡ prefix_covers e a
  unfolding prefix_covers
  prefix_covers_nothing q a = by (bracket_prefix e) is-r
    where
      by : (o : Option (ℕ × ℕ)) → r ≡ as_prefix o → false ≡ holds (λ p. same_prefix 128 p.1 p.0 a) o
      by None k = refl
      by (Some p) k = let z : ◌≡◌ {A = ℕ} 0 1 = cc in absurd (omega arith)

  module _ (h l m : ℕ) (q : r ≡ Some (h, l, m)) where
    read_all : (p : ℕ × ℕ) → r ≡ as_prefix (Some p) → ◌≡◌ {A = ℕ × ℕ × ℕ} (h, l, m) (p.0 / 2 ^ 64, p.0 % 2 ^ 64, p.1)
    read_all p k = ap (λ (o : Option (ℕ × ℕ × ℕ)). unwrap_or {T = ℕ × ℕ × ℕ} o (h, l, m)) (sym q ∙ k)

    read_high : (p : ℕ × ℕ) → r ≡ as_prefix (Some p) → h ≡ p.0 / 2 ^ 64
    read_high p k = ap (λ (t : ℕ × ℕ × ℕ). t.0) (read_all p k)

    read_low : (p : ℕ × ℕ) → r ≡ as_prefix (Some p) → l ≡ p.0 % 2 ^ 64
    read_low p k = ap (λ (t : ℕ × ℕ × ℕ). t.1) (read_all p k)

    read_length : (p : ℕ × ℕ) → r ≡ as_prefix (Some p) → m ≡ p.1
    read_length p k = ap (λ (t : ℕ × ℕ × ℕ). t.2) (read_all p k)

    pub bracket_prefix_fits : m ≤ 128
    bracket_prefix_fits = by (bracket_prefix e) refl is-r
      where
        by : (o : Option (ℕ × ℕ)) → bracket_prefix e ≡ o → r ≡ as_prefix o → m ≤ 128
        by None j k = let z : ◌≡◌ {A = ℕ} 0 1 = cc in absurd (omega arith)
        by (Some p) j k = omega (arith, read_length p k, bracket_prefix_le e p j)

    pub prefix_covers_prefix : (a : ℕ) (x : Bool) → x ≡ same_prefix 128 m (h * 2 ^ 64 + l) a → x ≡ prefix_covers e a
    unfolding prefix_covers
    prefix_covers_prefix a x k = k ∙ by (bracket_prefix e) is-r
      where
        by : (o : Option (ℕ × ℕ)) → r ≡ as_prefix o → same_prefix 128 m (h * 2 ^ 64 + l) a ≡ holds (λ p. same_prefix 128 p.1 p.0 a) o
        by None k = let z : ◌≡◌ {A = ℕ} 0 1 = cc in absurd (omega arith)
        by (Some p) k =
            rw (read_length p k, read_high p k, read_low p k, div-add-mod' p.0 (2 ^ 64))
