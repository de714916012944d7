-- Laws of reading groups in a row: what the code has read so far, and what each answer follows from.
-- Assumes nothing.
use Rattle.std.specs.Prelude.{None, Option, Some}
use Prim.Native.Nat.{ℕ, ◌+◌, ◌-◌, ◌*◌, ◌/◌, ◌%◌, ◌^◌, ◌<◌, ◌≤◌, suc}
use mathlib.Core.Bool.{Bool, true, false}
use mathlib.Core.List.{List, [], ◌∷◌, ◌++◌}
use mathlib.Core.Path.{◌≡◌, refl, sym, ap, ap₂, ◌∙◌}
use native.Mathlib.Nat.{pow-suc, pow-le-pow_right}
use native.Mathlib.Numerals.{add-one}
use native.Mathlib.Omega.{arith}
use borrow.Author.Tests.{ltb-true, ltb-false, le-leb, lt-leb, lt-ltb, le-ltb}
use lib.Dec.{leb, ltb}
use lib.ListN.{length, drop, take, length-append, length-drop}
use lib.Seq.{drop-drop}
use Rattle.text.specs.Basics.{◌>>=◌, all, when◌then◌else◌, ◌or_else◌}
use Rattle.text.specs.Text.{among, cons_head, split}
use Rattle.text.specs.Number.{from_digits, to_digits}
use Rattle.text.specs.Scan.{index_of}
use Rattle.text.proofs.BasicLaws.{all_append}
use Rattle.address.specs.Address.{read_group, read_v4, read_last_group, read_groups}
use Rattle.address.specs.Code.{number_of, words, words_of, group_value, group_at, first_group, groups_from, read_tail, reads_last, side_parts}
use Rattle.text.proofs.Digits.{length_to_digits, to_digits_below}
use Rattle.text.proofs.ScanLaws.{take_rest, split_mark, split_no_mark}
use Rattle.address.specs.declared.read.Group.{Group}
use Rattle.address.specs.declared.read.Group.TheVariants as G
use Rattle.address.specs.declared.read.Words.{Words}
use Rattle.address.proofs.ReadLaws.{as_number_none, as_number_some}
use Rattle.address.proofs.WordLaws.{number_of_words_of}
use Rattle.address.proofs.GroupLaws.{group_value_lt, read_group_value}

-- ## The first group

module _ (t : List ℕ) (i : ℕ) (is-i : i ≡ index_of 58 t) where
  pub group_last : i ≡ length t → G.Last ≡ first_group t
  unfolding first_group
  group_last e = sym (rw (← is-i, le-ltb i (length t) (omega arith)))

  module _ (more : i ≡ length t → ⊥) (within : i ≤ length t) (v : Option ℕ) (is_v : v ≡ (group_value (take i t))) where
    pub group_nothing : v ≡ None → G.Nothing ≡ first_group t
    unfolding first_group
    group_nothing e = sym (rw (← is-i, lt-ltb i (length t) (omega (arith, more)), as_number_none (group_value (take i t)) (sym is_v ∙ e)))

    pub group_more : (n : ℕ) → v ≡ Some n → G.More n (i + 1) ≡ first_group t
    unfolding first_group
    group_more n e = sym (rw (← is-i, lt-ltb i (length t) (omega (arith, more)), as_number_some (group_value (take i t)) n (sym is_v ∙ e)))

pub group_lt : (t : List ℕ) (v : Option ℕ) (g : ℕ) → v ≡ group_value t → v ≡ Some g → g < 65536
group_lt t v g is_v e = group_value_lt t g (as_number_some (group_value t) g (sym is_v ∙ e))

-- ## Groups in a row

pub split_some : (t : List ℕ) → split ":" t ≡ [] → ⊥
unfolding split
split_some [] e = let z : ◌≡◌ {A = ℕ} 0 1 = cc in omega arith
split_some (x ∷ t) e = by (among ":" x) (split ":" t) e
  where
    by : (b : Bool) (ws : List (List ℕ)) → (when b then [] ∷ ws else cons_head x ws) ≡ [] → ⊥
    by true ws e = let z : ◌≡◌ {A = ℕ} 0 1 = cc in omega arith
    by false [] e = let z : ◌≡◌ {A = ℕ} 0 1 = cc in omega arith
    by false (w ∷ ws) e = let z : ◌≡◌ {A = ℕ} 0 1 = cc in omega arith

-- a group before others
module _ (f : List ℕ → Option (List ℕ)) (w t : List ℕ) where
  pub read_groups_more : read_groups f (w ∷ split ":" t) ≡ (read_group w >>= λ g. read_groups f (split ":" t) >>= λ gs. Some (g ++ gs))
  unfolding read_groups
  read_groups_more = by (split ":" t) refl
    where
      by : (ws : List (List ℕ)) → split ":" t ≡ ws → read_groups f (w ∷ ws) ≡ (read_group w >>= λ g. read_groups f ws >>= λ gs. Some (g ++ gs))
      by [] e = absurd (split_some t e)
      by (v ∷ ws) e = refl

groups_from_cons : (k n g : ℕ) (o : Option (List ℕ)) → groups_from k n (o >>= λ gs. Some ((g ∷ []) ++ gs)) ≡ groups_from (k + 1) (n * 65536 + g) o
unfolding from_digits
groups_from_cons k n g None = refl
groups_from_cons k n g (Some gs) =
    let e : k + suc (length gs) ≡ (k + 1) + length gs = omega arith in
    ap (λ (j : ℕ). when leb j 8 then Some (j, (words_of (from_digits 65536 (n * 65536 + g) gs))) else None) e

-- the groups of t after k groups that make n
unfoldable pub row_from : Bool → ℕ → ℕ → List ℕ → Option (ℕ × Words)
row_from tail k n t = groups_from k n (read_groups (reads_last tail) (split ":" t))

-- what a group found says
module _ (tail : Bool) (k n : ℕ) (t : List ℕ) where
  abbrev colon : ℕ
  colon = index_of 58 t

  by_group : (P : Group → Type 0) → ((b : Bool) (o : Option ℕ) → ltb colon (length t) ≡ b → group_value (take colon t) ≡ o → P (group_at colon b o))
      → P (first_group t)
  unfolding first_group
  by_group P f = f (ltb colon (length t)) (group_value (take colon t)) refl refl

  row_parts : ltb colon (length t) ≡ true
      → row_from tail k n t
      ≡ groups_from k n (read_group (take colon t) >>= λ g. read_groups (reads_last tail) (split ":" (drop (colon + 1) t)) >>= λ gs. Some (g ++ gs))
  unfolding row_from
  row_parts p =
      ap (groups_from k n)
      (ap (read_groups (reads_last tail)) (split_mark ":" 58 refl t colon refl (ltb-true colon (length t) p))
      ∙ read_groups_more (reads_last tail) (take colon t) (drop (colon + 1) t))

  pub row_last : first_group t ≡ G.Last → row_from tail k n t ≡ groups_from k n (reads_last tail t)
  unfolding row_from read_groups
  row_last = by_group (λ g. g ≡ G.Last → row_from tail k n t ≡ groups_from k n (reads_last tail t)) by
    where
      by : (b : Bool) (o : Option ℕ) → ltb colon (length t) ≡ b → group_value (take colon t) ≡ o → group_at colon b o ≡ G.Last
          → row_from tail k n t ≡ groups_from k n (reads_last tail t)
      by true None p q e = let z : ◌≡◌ {A = ℕ} 0 1 = cc in absurd (omega arith)
      by true (Some g) p q e = let z : ◌≡◌ {A = ℕ} 0 1 = cc in absurd (omega arith)
      by false o p q e = rw (split_no_mark ":" 58 refl t colon refl (ltb-false colon (length t) p))

  pub row_nothing : first_group t ≡ G.Nothing → row_from tail k n t ≡ None
  row_nothing = by_group (λ g. g ≡ G.Nothing → row_from tail k n t ≡ None) by
    where
      by : (b : Bool) (o : Option ℕ) → ltb colon (length t) ≡ b → group_value (take colon t) ≡ o → group_at colon b o ≡ G.Nothing → row_from tail k n t ≡ None
      by false o p q e = let z : ◌≡◌ {A = ℕ} 0 1 = cc in absurd (omega arith)
      by true (Some g) p q e = let z : ◌≡◌ {A = ℕ} 0 1 = cc in absurd (omega arith)
      by true None p q e = row_parts p ∙ rw (read_group_value (take colon t), q)

  pub row_more : (g j : ℕ) → first_group t ≡ G.More g j → (row_from tail k n t ≡ row_from tail (k + 1) (n * 65536 + g) (drop j t)) × ((g < 65536) × (j ≤ length t))
  unfolding row_from
  row_more g j = by_group (λ x. x ≡ G.More g j → (row_from tail k n t ≡ row_from tail (k + 1) (n * 65536 + g) (drop j t)) × ((g < 65536) × (j ≤ length t))) by
    where
      by : (b : Bool) (o : Option ℕ) → ltb colon (length t) ≡ b → group_value (take colon t) ≡ o → group_at colon b o ≡ G.More g j
          → (row_from tail k n t ≡ row_from tail (k + 1) (n * 65536 + g) (drop j t)) × ((g < 65536) × (j ≤ length t))
      by false o p q e = let z : ◌≡◌ {A = ℕ} 0 1 = cc in absurd (omega arith)
      by true None p q e = let z : ◌≡◌ {A = ℕ} 0 1 = cc in absurd (omega arith)
      by true (Some h) p q e =
          let same : h ≡ g = cc in
          let at : colon + 1 ≡ j = cc in
          let r : group_value (take colon t) ≡ Some g = q ∙ ap Some same in (
            row_parts p ∙ rw (read_group_value (take colon t), r, at) (groups_from_cons k n g (read_groups (reads_last tail) (split ":" (drop j t)))),
            (group_value_lt (take colon t) g r, omega (arith, ltb-true colon (length t) p)),
          )

-- what holds of every group and of every IPv4 text, and of two rows together, holds of whatever is read
module _ (P : List ℕ → Type 0) (one : (g : ℕ) → g < 65536 → P (g ∷ [])) (two : (n : ℕ) → P (to_digits 65536 2 n))
    (both : (gs hs : List ℕ) → P gs → P hs → P (gs ++ hs)) where
  read_group_all : (t gs : List ℕ) → read_group t ≡ Some gs → P gs
  read_group_all t gs e = by (group_value t) refl (sym (read_group_value t) ∙ e)
    where
      by : (o : Option ℕ) → group_value t ≡ o → (o >>= λ g. Some (g ∷ [])) ≡ Some gs → P gs
      by None v p = let z : ◌≡◌ {A = ℕ} 0 1 = cc in absurd (omega arith)
      by (Some g) v p = let q : g ∷ [] ≡ gs = cc in rw (← q) (one g (group_value_lt t g v))

  read_tail_all : (t gs : List ℕ) → read_tail t ≡ Some gs → P gs
  read_tail_all t gs = by (read_v4 t)
    where
      by : (o : Option ℕ) → (o >>= λ n. Some (to_digits 65536 2 n)) ≡ Some gs → P gs
      by None p = let z : ◌≡◌ {A = ℕ} 0 1 = cc in absurd (omega arith)
      by (Some n) p = let q : to_digits 65536 2 n ≡ gs = cc in rw (← q) (two n)

  reads_last_all : (tail : Bool) (t gs : List ℕ) → reads_last tail t ≡ Some gs → P gs
  unfolding read_last_group
  reads_last_all true t gs = by (read_group t) (read_group_all t gs)
    where
      by : (o : Option (List ℕ)) → (o ≡ Some gs → P gs) → (o or_else read_tail t) ≡ Some gs → P gs
      by None f e = read_tail_all t gs e
      by (Some hs) f e = f e
  reads_last_all false t gs = read_group_all t gs

  read_groups_all : (tail : Bool) (w : List ℕ) (ws : List (List ℕ)) (gs : List ℕ) → read_groups (reads_last tail) (w ∷ ws) ≡ Some gs → P gs
  unfolding read_groups
  read_groups_all tail w [] gs e = reads_last_all tail w gs e
  read_groups_all tail w (v ∷ ws) gs e =
      by (read_group w) (read_group_all w) (read_groups (reads_last tail) (v ∷ ws)) (read_groups_all tail v ws) e
    where
      by : (o : Option (List ℕ)) → ((hs : List ℕ) → o ≡ Some hs → P hs) → (p : Option (List ℕ)) → ((hs : List ℕ) → p ≡ Some hs → P hs)
          → (o >>= λ g. p >>= λ hs. Some (g ++ hs)) ≡ Some gs → P gs
      by None f p k e = let z : ◌≡◌ {A = ℕ} 0 1 = cc in absurd (omega arith)
      by (Some g) f None k e = let z : ◌≡◌ {A = ℕ} 0 1 = cc in absurd (omega arith)
      by (Some g) f (Some hs) k e = let q : g ++ hs ≡ gs = cc in rw (← q) (both g hs (f g refl) (k hs refl))

-- one group at least, so none fits after eight
read_groups_some : (tail : Bool) (w : List ℕ) (ws : List (List ℕ)) (gs : List ℕ) → read_groups (reads_last tail) (w ∷ ws) ≡ Some gs → 0 < length gs
read_groups_some = read_groups_all (λ gs. 0 < length gs) (λ g h. omega arith) (λ n. rw (length_to_digits 65536 2 n) (omega arith))
    (λ gs hs h k. rw (length-append gs hs) (omega arith))

-- every group is below 65536
pub read_groups_below : (tail : Bool) (ws : List (List ℕ)) (gs : List ℕ) → read_groups (reads_last tail) ws ≡ Some gs → all (λ g. ltb g 65536) gs ≡ true
unfolding read_groups all
read_groups_below tail [] gs e = let q : [] ≡ gs = cc in rw (← q)
read_groups_below tail (w ∷ ws) gs e =
    read_groups_all (λ gs. all (λ g. ltb g 65536) gs ≡ true) (λ g h. rw (lt-ltb g 65536 h)) (λ n. to_digits_below 65536 2 n (omega arith))
    (all_append (λ g. ltb g 65536)) tail w ws gs e

groups_from_over : (n : ℕ) (o : Option (List ℕ)) → ((gs : List ℕ) → o ≡ Some gs → 0 < length gs) → groups_from 8 n o ≡ None
groups_from_over n None f = refl
groups_from_over n (Some gs) f = rw (lt-leb (8 + length gs) 8 (omega (arith, f gs refl)))

row_over : (tail : Bool) (n : ℕ) (t : List ℕ) → row_from tail 8 n t ≡ None
unfolding row_from
row_over tail n t = by (split ":" t) refl
  where
    by : (ws : List (List ℕ)) → split ":" t ≡ ws → groups_from 8 n (read_groups (reads_last tail) ws) ≡ None
    by [] e = absurd (split_some t e)
    by (w ∷ ws) e = groups_from_over n (read_groups (reads_last tail) (w ∷ ws)) (read_groups_some tail w ws)

-- ## The last group

module _ (w : Words) (k : ℕ) (few : k < 8) (small : number_of w < 65536 ^ k) where
  pub row_room : number_of w < 5192296858534827628530496329220096
  row_room = omega (arith, pow-le-pow_right {n = 65536} (omega arith) {i = k} {j = 7} (omega arith))

  pub row_room_v4 : (k ≡ 7 → ⊥) → number_of w < 79228162514264337593543950336
  row_room_v4 m = omega (arith, pow-le-pow_right {n = 65536} (omega arith) {i = k} {j = 6} (omega (arith, m)))

  module _ (t : List ℕ) (v : Option ℕ) (u : Words) where
    module _ (is_v : v ≡ (read_v4 t)) where
      pub tail_nothing : v ≡ None → None ≡ groups_from k (number_of w) (read_tail t)
      tail_nothing e = sym (rw (as_number_none (read_v4 t) (sym is_v ∙ e)))

      module _ (n : ℕ) (e : v ≡ Some n) where
        tail_is : groups_from k (number_of w) (read_tail t) ≡ groups_from k (number_of w) (Some (to_digits 65536 2 n))
        tail_is = rw (as_number_some (read_v4 t) n (sym is_v ∙ e))

        pub tail_full : k ≡ 7 → None ≡ groups_from k (number_of w) (read_tail t)
        tail_full h = sym (tail_is ∙ rw (length_to_digits 65536 2 n, lt-leb (k + 2) 8 (omega arith)))

        pub tail_value : (k ≡ 7 → ⊥) → n < 4294967296 → u ≡ words_of (number_of w * 4294967296 + n) → Some ((k + 2), u) ≡ groups_from k (number_of w) (read_tail t)
        unfolding to_digits from_digits
        tail_value m l is-u =
            let x : number_of w * 4294967296 + n ≡ (number_of w * 65536 + n / 65536 % 65536) * 65536 + n % 65536 = omega arith in
            sym (tail_is ∙ rw (le-leb (k + 2) 8 (omega (arith, m)), is-u, x))

    module _ (tail : Bool) (is_v : v ≡ (group_value t)) where
      reads_last_value : (g : ℕ) → group_value t ≡ Some g → reads_last tail t ≡ Some (g ∷ [])
      unfolding read_last_group
      reads_last_value g e = by tail
        where
          by : (b : Bool) → reads_last b t ≡ Some (g ∷ [])
          by true = rw (read_group_value t, e)
          by false = read_group_value t ∙ rw e

      pub last_value : (g : ℕ) → v ≡ Some g → u ≡ words_of (number_of w * 65536 + g) → Some ((k + 1), u) ≡ groups_from k (number_of w) (reads_last tail t)
      unfolding from_digits
      last_value g e is-u = sym (rw (reads_last_value g (as_number_some (group_value t) g (sym is_v ∙ e)), le-leb (k + 1) 8 (omega arith), is-u))

      pub last_nothing : v ≡ None → tail ≡ false → None ≡ groups_from k (number_of w) (reads_last tail t)
      last_nothing e f = sym (rw (f, read_group_value t, as_number_none (group_value t) (sym is_v ∙ e)))

      pub last_tail : v ≡ None → tail ≡ true → (r : Option (ℕ × Words)) → r ≡ groups_from k (number_of w) (read_tail t) → r
          ≡ groups_from k (number_of w) (reads_last tail t)
      unfolding read_last_group
      last_tail e f r h = h ∙ sym (rw (f, read_group_value t, as_number_none (group_value t) (sym is_v ∙ e)))

-- ## The loop over the groups

pub no_groups : (s : List ℕ) (tail : Bool) → length s ≡ 0 → Some (0, (words 0 0)) ≡ groups_from 0 0 (read_groups (reads_last tail) (side_parts s))
unfolding read_groups from_digits
no_groups [] tail e = refl
no_groups (x ∷ s) tail e = absurd (omega arith)

-- at the place at, with count groups passed that make w
pub record Row (s : List ℕ) (tail : Bool) (w : Words) (count at : ℕ) : Type 0 where
  pub within : at ≤ length s
  pub few : count ≤ 8
  pub small : number_of w < 65536 ^ count
  pub rest : groups_from 0 0 (read_groups (reads_last tail) (side_parts s)) ≡ row_from tail count (number_of w) (drop at s)

pub row_start : (s : List ℕ) (tail : Bool) → (length s ≡ 0 → ⊥) → Row s tail (words 0 0) 0 0
unfolding row_from
row_start s tail n = record { within = omega arith; few = omega arith; small = omega arith; rest = by s n }
  where
    by : (s : List ℕ) → (length s ≡ 0 → ⊥) → groups_from 0 0 (read_groups (reads_last tail) (side_parts s)) ≡ row_from tail 0 0 s
    by [] n = absurd (n refl)
    by (x ∷ s) n = refl

module _ (s : List ℕ) (tail : Bool) (w : Words) (count at : ℕ) (r : Row s tail w count at) where
  pub row_many : 8 ≤ count → None ≡ groups_from 0 0 (read_groups (reads_last tail) (side_parts s))
  row_many h =
      let e : count ≡ 8 = omega (arith, r.few) in
      sym (r.rest ∙ ap (λ (k : ℕ). row_from tail k (number_of w) (drop at s)) e ∙ row_over tail (number_of w) (drop at s))

  module _ (g : Group) (is-g : g ≡ first_group (take (length s - at) (drop at s))) where
    is_first : first_group (drop at s) ≡ g
    is_first = ap first_group (sym (take_rest s at)) ∙ sym is-g

    pub row_bad : g ≡ G.Nothing → None ≡ groups_from 0 0 (read_groups (reads_last tail) (side_parts s))
    row_bad e = sym (r.rest ∙ row_nothing tail count (number_of w) (drop at s) (is_first ∙ e))

    pub row_ends : g ≡ G.Last → (a : Option (ℕ × Words)) → a ≡ groups_from count (number_of w) (reads_last tail (take (length s - at) (drop at s)))
        → a ≡ groups_from 0 0 (read_groups (reads_last tail) (side_parts s))
    row_ends e a h = h ∙ ap (λ (t : List ℕ). groups_from count (number_of w) (reads_last tail t)) (take_rest s at)
        ∙ sym (r.rest ∙ row_last tail count (number_of w) (drop at s) (is_first ∙ e))

    module _ (n j : ℕ) (e : g ≡ G.More n j) where
      pub row_group : n < 65536
      row_group = (row_more tail count (number_of w) (drop at s) n j (is_first ∙ e)).1.0

      row_within : at + j ≤ length s
      row_within = omega (arith, r.within, (row_more tail count (number_of w) (drop at s) n j (is_first ∙ e)).1.1, length-drop at s)

      pub row_at : length s < 18446744073709551616 → at + j < 18446744073709551616
      row_at h = omega (arith, row_within)

      pub row_step : count < 8 → (u : Words) → u ≡ words_of (number_of w * 65536 + n) → Row s tail u (count + 1) (at + j)
      row_step h u is-u =
          let v : number_of u ≡ number_of w * 65536 + n = ap number_of is-u ∙ number_of_words_of (number_of w * 65536 + n) in
          record {
            within = row_within;
            few = omega arith;
            small = rw (v, add-one, pow-suc) (omega (arith, r.small, row_group));
            rest = r.rest ∙ (row_more tail count (number_of w) (drop at s) n j (is_first ∙ e)).0 ∙ ap₂ (row_from tail (count + 1)) (sym v) (drop-drop j at s);
          }
