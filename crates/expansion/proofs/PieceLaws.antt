-- Laws of reading a command from its left, and of measuring and writing what each piece writes.
-- Assumes nothing.
use Rattle.std.specs.Prelude.{Err, Ok}
use Prim.Native.Nat.{ℕ, zero, suc, ◌+◌, ◌*◌, ◌<◌, ◌≤◌}
use native.Mathlib.Numerals.{add-one}
use native.Mathlib.Omega.{arith}
use mathlib.Core.Bool.{false, or-false}
use mathlib.Core.List.{List, [], ◌∷◌, ◌++◌, map, flat_map, append_assoc, append-nil}
use mathlib.Core.Path.{◌≡◌, refl, sym, ap, ◌∙◌}
use borrow.Author.Tests.{ne_eqb, lt-ltb, le-ltb}
use lib.Dec.{eqb}
use lib.ListN.{length, drop, get_or, set, length-append, length-set, drop_of_length-le}
use lib.Seq.{drop-cons, drop-drop, get_or-drop}
use Rattle.text.specs.Basics.{any}
use Rattle.text.specs.Scan.{put_at, after}
use Rattle.text.proofs.PasteLaws.{put_first}
use Rattle.section.specs.declared.Fault.TheVariants as F
use Rattle.section.specs.declared.Refusal.{Refusal}
use Rattle.section.specs.Refusal.{Outcome, placeless, within_room, written_of, lent_after}
use Rattle.address_format.proofs.WriteText.{Wrote, wrote_nil, wrote_byte, front_room, rest_room, rest_all}
use Rattle.lines.specs.Command.{pieces}
use Rattle.expansion.specs.Expand.{safe_byte}
use Rattle.expansion.specs.Code.{Texts, inserted_by, piece_by, expansion_by}

-- ## One piece

pub get_d_past : (t : List ℕ) (k : ℕ) → length t ≤ k → 0 ≡ get_or t k 0
get_d_past [] k h = refl
get_d_past (x ∷ t) zero h = absurd (omega arith)
get_d_past (x ∷ t) (suc k) h = get_d_past t k (omega arith)

module _ (x : Texts) where
  expansion_by_nil : expansion_by x [] ≡ []
  unfolding expansion_by pieces flat_map
  expansion_by_nil = refl

  expansion_by_literal : (b : ℕ) (t : List ℕ) → eqb b 37 ≡ false → expansion_by x (b ∷ t) ≡ b ∷ expansion_by x t
  unfolding expansion_by pieces flat_map piece_by any
  expansion_by_literal b [] e = rw (or-false, e)
  expansion_by_literal b (y ∷ t) e = rw (or-false, e)

  expansion_by_directive : (t : List ℕ) → expansion_by x (37 ∷ t) ≡ map safe_byte (inserted_by x (get_or t 0 0)) ++ expansion_by x (drop 1 t)
  unfolding expansion_by pieces flat_map piece_by any
  expansion_by_directive [] = refl
  expansion_by_directive (y ∷ t) = refl

  module _ (t : List ℕ) (i : ℕ) (l : i < length t) where
    pub literal_here : (get_or t i 0 ≡ 37 → ⊥) → expansion_by x (drop i t) ≡ (get_or t i 0 ∷ []) ++ expansion_by x (drop (i + 1) t)
    literal_here n = rw (add-one, drop-cons t i 0) (expansion_by_literal (get_or t i 0) (drop (suc i) t) (ne_eqb (get_or t i 0) 37 n))

    pub directive_here : get_or t i 0 ≡ 37 → (y : ℕ) → y ≡ get_or t (i + 1) 0 → expansion_by x (drop i t)
        ≡ map safe_byte (inserted_by x y) ++ expansion_by x (drop (i + 2) t)
    directive_here p y e =
        let one : suc i ≡ i + 1 = omega arith in
        let none : i + 1 + 0 ≡ i + 1 = omega arith in
        let two : i + 1 + 1 ≡ i + 2 = omega arith in
        let here : drop i t ≡ 37 ∷ drop (i + 1) t = rw (drop-cons t i 0, p, one) in
        let taken : get_or (drop (i + 1) t) 0 0 ≡ y = get_or-drop (i + 1) t 0 0 ∙ rw (none, e) in
        let rest : drop 1 (drop (i + 1) t) ≡ drop (i + 2) t = drop-drop 1 (i + 1) t ∙ rw two in
        rw here (expansion_by_directive (drop (i + 1) t) ∙ rw (taken, rest))

-- ## Measuring

-- the pieces before the place i write n bytes
pub record Measured (x : Texts) (t : List ℕ) (n i : ℕ) : Type 0 where
  pub whole : length (expansion_by x t) ≡ n + length (expansion_by x (drop i t))
  pub small : n ≤ 320 * i
  pub within : i ≤ length t + 1

module _ (x : Texts) (t : List ℕ) where
  pub measured_start : Measured x t 0 0
  measured_start = record { whole = omega arith; small = omega arith; within = omega arith }

  module _ (n i : ℕ) (h : Measured x t n i) where
    pub measured_literal : i < length t → (get_or t i 0 ≡ 37 → ⊥) → Measured x t (n + 1) (i + 1)
    measured_literal l e =
        record {
          whole = omega (arith, h.whole, ap length (literal_here x t i l e), length-append (get_or t i 0 ∷ []) (expansion_by x (drop (i + 1) t)));
          small = omega (arith, h.small);
          within = omega arith;
        }

    pub measured_directive : i < length t → get_or t i 0 ≡ 37 → (y : ℕ) → y ≡ get_or t (i + 1) 0
        → (k : ℕ) → k ≡ length (map safe_byte (inserted_by x y)) → k ≤ 320 → Measured x t (n + k) (i + 2)
    measured_directive l p y e k is-k small =
        record {
          whole = omega
              (arith, h.whole, is-k, ap length (directive_here x t i l p y e), length-append (map safe_byte (inserted_by x y)) (expansion_by x (drop (i + 2) t)));
          small = omega (arith, h.small);
          within = omega arith;
        }

    pub measured_end : length t ≤ i → n ≡ length (expansion_by x t)
    measured_end l = sym (h.whole ∙ rw (drop_of_length-le t l, expansion_by_nil x) (omega arith))

-- ## Writing

-- the pieces before the place i are written at the front of d, n bytes, which gave o
pub record Expanded (x : Texts) (t d o : List ℕ) (n i : ℕ) : Type 0 where
  pub done : List ℕ
  pub wrote : Wrote d o done 0 n
  pub whole : expansion_by x t ≡ done ++ expansion_by x (drop i t)
  pub long : length o ≡ length d
  pub within : i ≤ length t + 1

module _ (x : Texts) (t d : List ℕ) where
  pub expanded_start : Expanded x t d d 0 0
  expanded_start = record { done = []; wrote = wrote_nil d 0; whole = refl; long = refl; within = omega arith }

  module _ (o : List ℕ) (n i : ℕ) (h : Expanded x t d o n i) where
    pub expanded_end : length t ≤ i → (n ≡ length (expansion_by x t)) × (o ≡ put_at d 0 (expansion_by x t))
    expanded_end l =
        let e : expansion_by x t ≡ h.done = h.whole ∙ rw (drop_of_length-le t l, expansion_by_nil x) (append-nil h.done) in
        rw e (omega (arith, h.wrote.0), h.wrote.1)

    module _ (room : length (expansion_by x t) ≤ length d) where
      left : n + length (expansion_by x (drop i t)) ≤ length o
      left = rest_room d (expansion_by x t) h.done (expansion_by x (drop i t)) 0 h.whole (omega arith) o n h.wrote

      -- s is what the next piece writes, and j the place after it
      module _ (s : List ℕ) (j : ℕ) (next : expansion_by x (drop i t) ≡ s ++ expansion_by x (drop j t)) where
        next_room : n + length s ≤ length o
        next_room = front_room o (expansion_by x (drop i t)) s (expansion_by x (drop j t)) n next left

        next_step_lem : j ≤ length t + 1 → (p : List ℕ) (k : ℕ) → Wrote o p s n k → length p ≡ length o → Expanded x t d p k j
        next_step_lem b p k w e =
            let whole_next : expansion_by x t ≡ (h.done ++ s) ++ expansion_by x (drop j t) = h.whole
            ∙ rw next (sym (append_assoc h.done s (expansion_by x (drop j t)))) in
            record {
              done = h.done ++ s;
              wrote = rest_all d (h.done ++ s)
                  h.done s 0 refl (front_room d (expansion_by x t) (h.done ++ s) (expansion_by x (drop j t)) 0 whole_next (omega arith)) o n h.wrote p k w;
              whole = whole_next;
              long = e ∙ h.long;
              within = b;
            }

      module _ (l : i < length t) where
        pub literal_room : (get_or t i 0 ≡ 37 → ⊥) → n < length o
        literal_room e = omega (arith, next_room (get_or t i 0 ∷ []) (i + 1) (literal_here x t i l e))

        pub expanded_literal : (get_or t i 0 ≡ 37 → ⊥) → Expanded x t d (set o n (get_or t i 0)) (n + 1) (i + 1)
        expanded_literal e =
            next_step_lem (get_or t i 0 ∷ []) (i + 1) (literal_here x t i l e) (omega arith) (set o n (get_or t i 0)) (n + 1)
            (wrote_byte o n (get_or t i 0) (next_room (get_or t i 0 ∷ []) (i + 1) (literal_here x t i l e))) (length-set o n (get_or t i 0))

        module _ (p : get_or t i 0 ≡ 37) (y : ℕ) (is_y : y ≡ get_or t (i + 1) 0) where
          pub directive_room : n + length (map safe_byte (inserted_by x y)) ≤ length o
          directive_room = next_room (map safe_byte (inserted_by x y)) (i + 2) (directive_here x t i l p y is_y)

          pub expanded_directive : (q : List ℕ) (k : ℕ) → Wrote o q (map safe_byte (inserted_by x y)) n k → length q ≡ length o → Expanded x t d q k (i + 2)
          expanded_directive = next_step_lem (map safe_byte (inserted_by x y)) (i + 2) (directive_here x t i l p y is_y) (omega arith)

-- ## Where there is room

module _ (x : Texts) (t d : List ℕ) (n : ℕ) (is-n : n ≡ length (expansion_by x t)) where
  abbrev outcome : Outcome (List ℕ)
  outcome = within_room (length d) (expansion_by x t)

  pub room_refused : length d < n → (r : Refusal) → r ≡ placeless F.NoRoom → (Err r ≡ written_of outcome) × (d ≡ lent_after d outcome)
  room_refused h r e = let l : length d < length (expansion_by x t) = omega arith in rw (lt-ltb (length d) (length (expansion_by x t)) l, e) (refl, refl)

  pub room_count : n ≤ length d → (p : List ℕ) (k : ℕ) → (k ≡ length (expansion_by x t)) × (p ≡ put_at d 0 (expansion_by x t))
      → (Ok k ≡ written_of outcome) × (p ≡ lent_after d outcome)
  unfolding after
  room_count h p k w =
      let l : length (expansion_by x t) ≤ length d = omega arith in
      rw (le-ltb (length d) (length (expansion_by x t)) l) (ap (λ (m : ℕ). Ok m) w.0, put_first d p (expansion_by x t) w.1)
