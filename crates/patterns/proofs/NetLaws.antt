-- Laws of the patterns of addresses, as the code reads them.
-- Assumes nothing.
use Rattle.std.specs.Prelude.{None, Option, Some}
use Prim.Native.Nat.{ℕ, zero, suc, ◌+◌, ◌-◌, ◌*◌, ◌/◌, ◌%◌, ◌^◌, ◌<◌, ◌≤◌}
use mathlib.Core.Bool.{Bool, true, false}
use mathlib.Core.List.{List, [], ◌∷◌}
use mathlib.Core.Path.{◌≡◌, refl, sym, ap, ap₂, ◌∙◌}
use native.Mathlib.Nat.{mod-eq_of_lt}
use native.Mathlib.Omega.{arith}
use borrow.Author.Tests.{eq-eqb, ne_eqb}
use lib.ListN.{length, take, drop, get_or}
use Rattle.text.specs.Basics.{◌>>=◌, ◌or_else◌, any}
use Rattle.text.specs.Text.{split_once}
use Rattle.text.specs.Number.{read_decimal}
use Rattle.text.specs.Scan.{index_of}
use Rattle.text.proofs.ScanLaws.{take_rest, split_once_mark, split_once_no_mark}
use Rattle.address.specs.Address.{read_v4, read_v6}
use Rattle.address.proofs.ReadLaws.{read_decimal_le}
use Rattle.patterns.specs.Pattern.{length_mask, read_mask}
use Rattle.patterns.specs.Code.{leading_net, pair_net}
use Rattle.patterns.specs.Code.{as_prefix, prefix_with, prefix_length, bracket_prefix}
use Rattle.address.specs.Code.{as_v6}

-- ## Nets

-- the net of leading fields, shifted into place
pub leading_net_shifted : (n k : ℕ) → 1 ≤ k → k ≤ 3 → n < 256 ^ k
    → Some ((n * 2 ^ (32 - 8 * k) % 4294967296), (4294967295 / 2 ^ (32 - 8 * k) * 2 ^ (32 - 8 * k) % 4294967296)) ≡ Some (leading_net k n)
leading_net_shifted n zero h l p = absurd (omega arith)
leading_net_shifted n (suc zero) h l p = rw (mod-eq_of_lt {n = n * 16777216} {m = 4294967296} (omega arith))
leading_net_shifted n (suc (suc zero)) h l p = rw (mod-eq_of_lt {n = n * 65536} {m = 4294967296} (omega arith))
leading_net_shifted n (suc (suc (suc zero))) h l p = rw (mod-eq_of_lt {n = n * 256} {m = 4294967296} (omega arith))
leading_net_shifted n (suc (suc (suc (suc k)))) h l p = absurd (omega arith)

pub pair_net_values : (x y : Option ℕ) (n m : ℕ) → x ≡ Some n → y ≡ Some m → Some (n, m) ≡ pair_net x y
pair_net_values x y n m p q = rw (p, q)

pub pair_net_read : (o p : Option ℕ) → pair_net (o) (p) ≡ (o >>= λ n. p >>= λ m. Some (n, m))
pair_net_read None p = refl
pair_net_read (Some n) None = refl
pair_net_read (Some n) (Some m) = refl

-- ## A mask, as an address or by its length

module _ (s : List ℕ) (x : Option ℕ) (is_x : x ≡ (read_v4 s)) where
  pub mask_written : (m : ℕ) → x ≡ Some m → Some m ≡ read_mask s
  unfolding read_mask
  mask_written m e = by (read_v4 s) (sym is_x ∙ e)
    where
      by : (o : Option ℕ) → o ≡ Some m → Some m ≡ o or_else (read_decimal 32 s >>= λ k. Some (length_mask k))
      by None k = let z : ◌≡◌ {A = ℕ} 0 1 = cc in absurd (omega arith)
      by (Some n) k = sym k

  module _ (e : x ≡ None) (y : Option ℕ) (is_y : y ≡ (read_decimal 32 s)) where
    by_length : (read_decimal 32 s >>= λ k. Some (length_mask k)) ≡ read_mask s
    unfolding read_mask
    by_length = by (read_v4 s) (sym is_x ∙ e)
      where
        by : (o : Option ℕ) → o ≡ None
            → (read_decimal 32 s >>= λ k. Some (length_mask k)) ≡ o or_else (read_decimal 32 s >>= λ k. Some (length_mask k))
        by None k = refl
        by (Some n) k = let z : ◌≡◌ {A = ℕ} 0 1 = cc in absurd (omega arith)

    pub mask_none : y ≡ None → None ≡ read_mask s
    mask_none f = by (read_decimal 32 s) (sym is_y ∙ f) ∙ by_length
      where
        by : (o : Option ℕ) → o ≡ None → None ≡ (o >>= λ k. Some (length_mask k))
        by None k = refl
        by (Some n) k = let z : ◌≡◌ {A = ℕ} 0 1 = cc in absurd (omega arith)

    module _ (m : ℕ) (f : y ≡ Some m) where
      is_length : read_decimal 32 s ≡ Some m
      is_length = by (read_decimal 32 s) (sym is_y ∙ f)
        where
          by : (o : Option ℕ) → o ≡ Some m → o ≡ Some m
          by None k = let z : ◌≡◌ {A = ℕ} 0 1 = cc in absurd (omega arith)
          by (Some n) k = cc

      pub mask_length : m ≤ 32
      mask_length = read_decimal_le 32 m s is_length

      pub mask_ones : (r : ℕ) → r ≡ length_mask m → Some r ≡ read_mask s
      mask_ones r is-r = ap Some is-r ∙ ap (λ (o : Option ℕ). (o >>= λ k. Some (length_mask k))) (sym is_length) ∙ by_length

-- ## A bracketed pattern

pub prefix_length_none : (s : List ℕ) → length s ≡ 0 → Some 128 ≡ prefix_length s
unfolding prefix_length
prefix_length_none [] h = refl
prefix_length_none (x ∷ s) h = absurd (omega arith)

pub prefix_length_bad : (s : List ℕ) → (length s ≡ 0 → ⊥) → (get_or s 0 0 ≡ 47 → ⊥) → None ≡ prefix_length s
unfolding prefix_length any
prefix_length_bad [] h n = absurd (h refl)
prefix_length_bad (x ∷ s) h n = rw (ne_eqb x 47 n)

pub prefix_length_read : (s : List ℕ) → (length s ≡ 0 → ⊥) → get_or s 0 0 ≡ 47 → (r : Option ℕ) → r ≡ read_decimal 128 (take (length s - 1) (drop 1 s))
    → r ≡ prefix_length s
unfolding prefix_length any
prefix_length_read [] h n r q = absurd (h refl)
prefix_length_read (x ∷ s) h n r q = q ∙ ap (λ (l : List ℕ). (read_decimal 128 l)) (take_rest (x ∷ s) 1) ∙ rw (eq-eqb x 47 n)

pub prefix_with_values : (x : Option (ℕ × ℕ)) (y : Option ℕ) (h l m : ℕ) → x ≡ Some (h, l) → y ≡ Some m → Some (h, l, m) ≡ prefix_with x y
prefix_with_values x y h l m p q = rw (p, q)

prefix_with_read : (o p : Option ℕ) → prefix_with (as_v6 o) (p) ≡ as_prefix (o >>= λ n. p >>= λ m. Some (n, m))
prefix_with_read None p = refl
prefix_with_read (Some n) None = refl
prefix_with_read (Some n) (Some m) = refl

pub bracket_prefix_nil : (e : List ℕ) → length e ≡ 0 → None ≡ as_prefix (bracket_prefix e)
unfolding bracket_prefix split_once
bracket_prefix_nil [] h = refl
bracket_prefix_nil (x ∷ e) h = absurd (omega arith)

-- the text after the opening bracket, as the code has it
module _ (e s : List ℕ) (is-s : s ≡ take (length e - 1) (drop 1 e)) (i : ℕ) (is-i : i ≡ index_of 93 s) where
  pub bracket_prefix_open : i ≡ length s → None ≡ as_prefix (bracket_prefix e)
  unfolding bracket_prefix
  bracket_prefix_open h = rw (← (take_rest e 1), ← is-s, split_once_no_mark 93 s i is-i (omega arith))

  pub bracket_prefix_pair : i ≤ length s → (i ≡ length s → ⊥) → (x : Option (ℕ × ℕ)) (y : Option ℕ) → x ≡ as_v6 (read_v6 (take i s))
      → y ≡ prefix_length (take (length s - (i + 1)) (drop (i + 1) s)) → (r : Option (ℕ × ℕ × ℕ)) → r ≡ prefix_with x y → r ≡ as_prefix (bracket_prefix e)
  unfolding bracket_prefix
  bracket_prefix_pair h k x y is_x is_y r q =
      q ∙ ap₂ prefix_with is_x (is_y ∙ ap (λ (u : List ℕ). (prefix_length u)) (take_rest s (i + 1)))
      ∙ rw (← (take_rest e 1), ← is-s, split_once_mark 93 s i is-i (omega arith)) (prefix_with_read (read_v6 (take i s)) (prefix_length (drop (i + 1) s)))
