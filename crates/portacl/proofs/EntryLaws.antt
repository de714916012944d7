-- Laws of looking for an id, and of reading one entry.
-- Assumes nothing.
use Rattle.std.specs.Prelude.{None, Option, Some}
use Prim.Native.Nat.{ℕ, ◌+◌, ◌-◌, ◌≤◌}
use Prim.Native.String.{String}
use mathlib.Core.Bool.{Bool, true, false}
use mathlib.Core.List.{List, [], ◌∷◌}
use mathlib.Core.Path.{◌≡◌, refl, sym, ◌∙◌}
use native.Mathlib.Omega.{arith}
use borrow.Author.Tests.{eq-eqb, ne_eqb, eqb-true, eqb-false}
use lib.Dec.{eqb}
use lib.ListN.{length, take, drop}
use Rattle.std.specs.List.{list_any}
use Rattle.text.specs.Basics.{◌>>=◌, any}
use Rattle.text.specs.Text.{bytes, equal, split_once}
use Rattle.text.specs.Number.{read_decimal}
use Rattle.text.specs.Scan.{index_of}
use Rattle.text.proofs.ScanLaws.{take_rest, split_once_mark, split_once_no_mark}
use Rattle.portacl.specs.declared.Entry.{Entry}
use Rattle.portacl.specs.Portacl.{read_word}

-- ## Among the ids

eqb_swap : (a b : ℕ) → eqb a b ≡ eqb b a
eqb_swap a b = by (eqb b a) refl
  where
    by : (t : Bool) → eqb b a ≡ t → eqb a b ≡ t
    by true e = eq-eqb a b (sym (eqb-true b a e))
    by false e = ne_eqb a b (λ z. eqb-false b a e (sym z))

-- whether x is one of l, as std's `contains` answers it
pub any_contains : (x : ℕ) (l : List ℕ) (r : Bool) → r ≡ list_any (λ y. eqb y x) l → r ≡ any (eqb x) l
unfolding any
any_contains x l r e = e ∙ by l
  where
    by : (l : List ℕ) → list_any (λ y. eqb y x) l ≡ any (eqb x) l
    by [] = refl
    by (y ∷ l) = rw (eqb_swap y x, by l)

-- ## Numbers and words

-- a number of at most m that was read, and then f of it
module _ (m : ℕ) (f : ℕ → Option Entry) (t : List ℕ) (k : Option ℕ) (is-k : k ≡ read_decimal m t) where
  abbrev number : Option Entry
  number = read_decimal m t >>= f

  pub number_none : k ≡ None → None ≡ number
  number_none e = rw (sym is-k ∙ e)

  pub number_some : (n : ℕ) → k ≡ Some n → (r : Option Entry) → r ≡ f n → r ≡ number
  number_some n e r h = h ∙ rw (sym is-k ∙ e)

-- ## A part up to the first colon, at i, and what follows it

abbrev pub after : List ℕ → ℕ → List ℕ
after s i = take (length s - (i + 1)) (drop (i + 1) s)

-- the part read by f, and g goes on
module _ {A : Type 0} (f : List ℕ → Option A) (g : A → List ℕ → Option Entry) (s : List ℕ) where
  abbrev parts : Option Entry
  parts = do
    p ← split_once (bytes ":") s
    a ← f p.0
    g a p.1

  module _ (i : ℕ) (is-i : i ≡ index_of 58 s) where
    pub parts_none : i ≡ length s → None ≡ parts
    parts_none h = rw (split_once_no_mark 58 s i is-i (omega arith))

    pub parts_some : (i ≡ length s → ⊥) → i ≤ length s → parts ≡ (f (take i s) >>= λ a. g a (after s i))
    parts_some n h = rw (split_once_mark 58 s i is-i (omega arith), take_rest s (i + 1))

-- a number of at most m
module _ (m : ℕ) (g : ℕ → List ℕ → Option Entry) (s : List ℕ) (i : ℕ) (is-i : i ≡ index_of 58 s) (n : i ≡ length s → ⊥) (h : i ≤ length s)
    (k : Option ℕ) (is-k : k ≡ read_decimal m (take i s)) where
  pub number_first_none : k ≡ None → None ≡ parts (read_decimal m) g s
  number_first_none e = rw (parts_some (read_decimal m) g s i is-i n h) (number_none m (λ a. g a (after s i)) (take i s) k is-k e)

  pub number_first_some : (j : ℕ) → k ≡ Some j → (r : Option Entry) → r ≡ g j (after s i) → r ≡ parts (read_decimal m) g s
  number_first_some j e r q = rw (parts_some (read_decimal m) g s i is-i n h) (number_some m (λ a. g a (after s i)) (take i s) k is-k j e r q)

-- one of two words
module _ {A : Type 0} (w v : String × A) (g : A → List ℕ → Option Entry) (s : List ℕ) (i : ℕ) (is-i : i ≡ index_of 58 s) (n : i ≡ length s → ⊥)
    (h : i ≤ length s)
    (x : Bool) (is_x : x ≡ equal (bytes w.0) (take i s)) where
  abbrev word : Option Entry
  word = parts (λ t. read_word t w v) g s

  pub word_first : x ≡ true → (r : Option Entry) → r ≡ g w.1 (after s i) → r ≡ word
  word_first e r q = rw (parts_some (λ t. read_word t w v) g s i is-i n h, ← is_x, e) q

  module _ (e : x ≡ false) (y : Bool) (is_y : y ≡ equal (bytes v.0) (take i s)) where
    pub word_second : y ≡ true → (r : Option Entry) → r ≡ g v.1 (after s i) → r ≡ word
    word_second f r q = rw (parts_some (λ t. read_word t w v) g s i is-i n h, ← is_x, e, ← is_y, f) q

    pub word_neither : y ≡ false → None ≡ word
    word_neither f = rw (parts_some (λ t. read_word t w v) g s i is-i n h, ← is_x, e, ← is_y, f)
