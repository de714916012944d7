-- The halves of a list that were tried: one that is equal to a noted half, but for case, finds what that one does.
--   Looking  == how far the noted halves were looked through
--   Trying   == how far a list was gone through: all noted halves find what they should
-- Assumes nothing.
use Rattle.std.specs.Prelude.{None, Option, Some}
use Prim.Native.Nat.{ℕ, zero, suc, ◌+◌, ◌-◌, ◌*◌, ◌/◌, ◌%◌, ◌≤◌, ◌<◌}
use mathlib.Core.Bool.{Bool, true, false, not, ◌&&◌, ◌||◌, true≢false}
use mathlib.Core.List.{List, [], ◌∷◌}
use mathlib.Core.Path.{◌≡◌, refl, sym, ap, ap₂, ◌∙◌}
use borrow.Author.Tests.{not-true, not-false, eq-eqb, ne_eqb, eqb-true, eqb-false, lt-ltb, le-ltb, ltb-true, leb-true, leb-false}
use native.Mathlib.Omega.{arith}
use lib.Dec.{eqb, ltb, leb}
use lib.ListN.{length, take, drop, get_or, set, length-set, length-drop, drop_of_length-le}
use lib.Pow.{high, low}
use lib.Seq.{drop-drop, get_or-set_same, get_or-set_other}
use Rattle.text.specs.Basics.{when◌then◌else◌, all}
use Rattle.text.specs.Text.{in_range, equal_fold}
use Rattle.text.proofs.BasicLaws.{and_true}
use Rattle.section.specs.Section.{part, bytes_at}
use Rattle.lines.specs.Parts.{words, is_parting, parting_length, element_length, first_element, after_element}
use Rattle.lines.proofs.RuleLaws.{span_len_le}
use Rattle.classes.specs.declared.ClassSpan.{ClassSpan}
use Rattle.classes.specs.Class.{span_from, element_at}
use Rattle.elements.specs.declared.User.TheVariants as U
use Rattle.elements.specs.declared.Found.{Found}
use Rattle.elements.specs.Request.{Request}
use Rattle.elements.specs.Code.{View, at_sign}
use Rattle.elements.specs.Element.{halves}
use Rattle.elements.proofs.ElementLaws.{halves_none, halves_some}
use Rattle.matters.specs.Matters.{same_found, half_holds}
use Rattle.matters.specs.Code.{Finder, finder_by, name_agrees, half_agrees, half_of, asked_half}
use Rattle.matters.specs.Code.{place_number, noted, noted_below, was_tried, noted_room, noted_places, noted_count, tried_by, places_by}
use Rattle.matters.proofs.RuleLaws.{fold_length, clients_alike}
use Rattle.matters.proofs.TellLaws.{Agreeing, agreeing_start, agreeing_end, agreeing_stop, agreeing_more}

-- ## The half of an element that asks

module _ (F : Finder) (e : List ℕ) (x : Bool) (is_x : x ≡ F.asks e) where
  pub asked_quiet : not x ≡ true → take 0 e ≡ asked_half F e
  unfolding asked_half
  asked_quiet q = rw (← is_x) (by x q)
    where
      by : (x : Bool) → not x ≡ true → [] ≡ (when x then half_of (halves e) else [])
      by true q = absurd (true≢false (sym q))
      by false q = refl

  module _ (q : not x ≡ false) (at : ℕ) (is_at : at ≡ at_sign e) where
    asked_halves : asked_half F e ≡ half_of (halves e)
    unfolding asked_half
    asked_halves = rw (← is_x) (by x q)
      where
        by : (x : Bool) → not x ≡ false → (when x then half_of (halves e) else []) ≡ half_of (halves e)
        by true q = refl
        by false q = absurd (true≢false q)

    pub asked_none : at ≡ length e → take 0 e ≡ asked_half F e
    asked_none h = sym (asked_halves ∙ ap half_of (halves_none e at is_at h))

    pub asked_some : (at ≡ length e → ⊥) → take at e ≡ asked_half F e
    asked_some n = sym (asked_halves ∙ ap half_of (halves_some e at is_at n))

-- it is at the front of the element
asked_front : (F : Finder) (e : List ℕ) → (m : ℕ) × (asked_half F e ≡ take m e)
asked_front F e = by (F.asks e) refl
  where
    at : (b : Bool) → F.asks e ≡ true → eqb (at_sign e) (length e) ≡ b → (m : ℕ) × (asked_half F e ≡ take m e)
    at true q h = (0, sym (asked_none F e true (sym q) refl (at_sign e) refl (eqb-true (at_sign e) (length e) h)))
    at false q h = (at_sign e, sym (asked_some F e true (sym q) refl (at_sign e) refl (eqb-false (at_sign e) (length e) h)))

    by : (b : Bool) → F.asks e ≡ b → (m : ℕ) × (asked_half F e ≡ take m e)
    by true q = at (eqb (at_sign e) (length e)) q refl
    by false q = (0, sym (asked_quiet F e false (sym q) refl))

-- an element agrees exactly if its half does; an empty one does
pub half_asked : (F : Finder) (ws : List (List ℕ)) (f : Found) (e : List ℕ) → half_agrees F ws f e ≡ name_agrees F ws f (asked_half F e)
unfolding half_agrees name_agrees asked_half
half_asked F ws f e = by (F.asks e) (halves e)
  where
    by : (b : Bool) (o : Option (List ℕ × List ℕ))
        → (not b || half_holds (λ t. not (in_range 1 64 (length t)) || same_found f (F.clients U.Known t ws)) o)
        ≡ (not (in_range 1 64 (length (when b then half_of o else []))) || same_found f (F.clients U.Known (when b then half_of o else []) ws))
    by true None = refl
    by true (Some p) = refl
    by false o = refl

-- ## Looking through the noted halves

module _ (s ps : List ℕ) (n : ℕ) (h : List ℕ) where
  pub tried_empty : length h ≡ 0 → true ≡ was_tried s ps n h
  unfolding was_tried
  tried_empty z = rw (eq-eqb (length h) 0 z)

  pub record Looking (k : ℕ) : Type 0 where
    pub within : k ≤ n
    pub same : was_tried s ps n h ≡ noted_below s ps h k

  pub looking_start : (length h ≡ 0 → ⊥) → Looking n
  unfolding was_tried
  looking_start z = record { within = omega arith; same = rw (ne_eqb (length h) 0 z) }

  module _ (k : ℕ) (l : Looking k) where
    pub looking_end : k ≤ 0 → false ≡ was_tried s ps n h
    unfolding noted_below
    looking_end z = let e : k ≡ 0 = omega arith in sym (l.same ∙ ap (noted_below s ps h) e)

    pub looking_within : 0 < k → (m : ℕ) → n ≤ m → k - 1 < m
    looking_within z m r = omega (arith, l.within)

    module _ (z : 0 < k) (x : List ℕ) (is_x : x ≡ bytes_at s (part (get_or ps (k - 1) 0 / 65536) (get_or ps (k - 1) 0 % 65536)))
        (b : Bool) (is_b : b ≡ equal_fold x h) where
      looking_at : was_tried s ps n h ≡ (b || noted_below s ps h (k - 1))
      unfolding noted_below noted
      looking_at =
          l.same ∙ by k (k - 1) (omega arith)
          ∙ ap (λ (c : Bool). c || noted_below s ps h (k - 1)) (sym (is_b ∙ ap (λ (y : List ℕ). equal_fold y h) is_x))
        where
          by : (k j : ℕ) → k ≡ suc j
              → noted_below s ps h k ≡ (equal_fold (bytes_at s (part (get_or ps j 0 / 65536) (get_or ps j 0 % 65536))) h || noted_below s ps h j)
          by k j e = rw e

      pub looking_found : b ≡ true → true ≡ was_tried s ps n h
      looking_found e = sym (looking_at ∙ rw e)

      pub looking_more : b ≡ false → Looking (k - 1)
      looking_more e = record { within = omega (arith, l.within); same = looking_at ∙ rw e }

-- a test that holds of all noted halves holds of one that was tried
module _ (s ps h : List ℕ) (q : List ℕ → Bool) (alike : (t : List ℕ) → equal_fold t h ≡ true → q t ≡ true → q h ≡ true) where
  noted_holds : (n : ℕ) → ((k : ℕ) → k < n → q (noted s (get_or ps k 0)) ≡ true) → noted_below s ps h n ≡ true → q h ≡ true
  unfolding noted_below
  noted_holds zero a e = absurd (true≢false (sym e))
  noted_holds (suc n) a e = by (equal_fold (noted s (get_or ps n 0)) h) refl e (λ k. noted_holds n (λ j l. a j (omega arith)) k)
    where
      by : (b : Bool) → equal_fold (noted s (get_or ps n 0)) h ≡ b → (b || noted_below s ps h n) ≡ true → (noted_below s ps h n ≡ true → q h ≡ true) → q h ≡ true
      by true g e ih = alike (noted s (get_or ps n 0)) g (a n (omega arith))
      by false g e ih = ih e

  tried_holds : (n : ℕ) → (length h ≡ 0 → q h ≡ true) → ((k : ℕ) → k < n → q (noted s (get_or ps k 0)) ≡ true) → was_tried s ps n h ≡ true → q h ≡ true
  unfolding was_tried
  tried_holds n z a e = by (eqb (length h) 0) refl e
    where
      by : (b : Bool) → eqb (length h) 0 ≡ b → (b || noted_below s ps h n) ≡ true → q h ≡ true
      by true g e = z (eqb-true (length h) 0 g)
      by false g e = noted_holds n a e

-- ## Noting a place

-- one noted half more of which a test holds
noted_more : (s ps : List ℕ) (n : ℕ) (q : List ℕ → Bool) → ((k : ℕ) → k < n → q (noted s (get_or ps k 0)) ≡ true) → n < length ps
    → (p : ℕ) → q (noted s p) ≡ true → (ps' : List ℕ) → ps' ≡ set ps n p → (n' : ℕ) → n' ≡ n + 1
    → (k : ℕ) → k < n' → q (noted s (get_or ps' k 0)) ≡ true
noted_more s ps n q a room p h ps' is-ps n' is-n k l =
    ap (λ (y : List ℕ). q (noted s (get_or y k 0))) is-ps ∙ by (eqb k n) refl
  where
    by : (b : Bool) → eqb k n ≡ b → q (noted s (get_or (set ps n p) k 0)) ≡ true
    by true e =
        ap (λ (j : ℕ). q (noted s (get_or (set ps n p) j 0))) (eqb-true k n e)
        ∙ ap (λ (y : ℕ). q (noted s y)) (get_or-set_same ps n p 0 room) ∙ h
    by false e =
        ap (λ (y : ℕ). q (noted s y)) (get_or-set_other ps n k p 0 (eqb-false k n e)) ∙ a k (omega (arith, eqb-false k n e))

module _ (ps : List ℕ) (n i m : ℕ) where
  pub note_full : length ps ≤ n → (n ≡ noted_count ps n i m) × (ps ≡ noted_places ps n i m)
  note_full e = rw (le-ltb n (length ps) e) (refl, refl)

  module _ (a : n < length ps) where
    pub note_far : 65536 ≤ i → (n ≡ noted_count ps n i m) × (ps ≡ noted_places ps n i m)
    note_far e = rw (lt-ltb n (length ps) a, le-ltb i 65536 e) (refl, refl)

    module _ (b : i < 65536) where
      pub note_long : 65536 ≤ m → (n ≡ noted_count ps n i m) × (ps ≡ noted_places ps n i m)
      note_long e = rw (lt-ltb n (length ps) a, lt-ltb i 65536 b, le-ltb m 65536 e) (refl, refl)

      pub note_in : m < 65536 → (n + 1 ≡ noted_count ps n i m) × (set ps n (i * 65536 + m) ≡ noted_places ps n i m)
      note_in e = rw (lt-ltb n (length ps) a, lt-ltb i 65536 b, lt-ltb m 65536 e) (refl, refl)

-- ## Trying a half

module _ (F : Finder) (f : Found) (s ps : List ℕ) (n i : ℕ) (h : List ℕ) (y : Bool) (is_y : y ≡ was_tried s ps n h) where
  -- what is answered, and what the places are then
  abbrev pub Answers : Option ℕ → List ℕ → Type 0
  Answers t ps' = (t ≡ tried_by F f s ps n i h) × (ps' ≡ places_by F f s ps n i h)

  pub try_known : y ≡ true → Answers (Some n) ps
  unfolding tried_by places_by
  try_known e = rw (← is_y, e) (refl, refl)

  module _ (e : y ≡ false) (z : Bool) (is-z : z ≡ name_agrees F (words s) f h) where
    pub try_differs : not z ≡ true → Answers None ps
    unfolding tried_by places_by
    try_differs k = rw (← is_y, e, ← is-z, not-true z k) (refl, refl)

    pub try_agrees : not z ≡ false → (n' : ℕ) (ps' : List ℕ) → (n' ≡ noted_count ps n i (length h)) × (ps' ≡ noted_places ps n i (length h))
        → Answers (Some n') ps'
    unfolding tried_by places_by
    try_agrees k n' ps' x = rw (← is_y, e, ← is-z, not-false z k) (ap Some x.0, x.1)

-- ## Places of a list

pub record Suffix (t s : List ℕ) : Type 0 where
  pub from : ℕ
  pub is : t ≡ drop from s

suffix_long : (s t : List ℕ) → Suffix t s → length t ≤ length s
suffix_long s t x = let l = ap length x.is ∙ length-drop x.from s in omega arith

suffix_place : (s t : List ℕ) → Suffix t s → drop (length s - length t) s ≡ t
suffix_place s t x = by (leb x.from (length s)) refl
  where
    l : length t ≡ length s - x.from
    l = ap length x.is ∙ length-drop x.from s

    by : (b : Bool) → leb x.from (length s) ≡ b → drop (length s - length t) s ≡ t
    by true e =
        let k : length s - length t ≡ x.from = omega (arith, leb-true x.from (length s) e, l) in
        ap (λ (j : ℕ). drop j s) k ∙ sym x.is
    by false e =
        let a : length s ≤ length s - length t = omega (arith, leb-false x.from (length s) e, l) in
        let b : length s ≤ x.from = omega (arith, leb-false x.from (length s) e) in
        drop_of_length-le s a ∙ sym (x.is ∙ drop_of_length-le s b)

front_two : (k l : ℕ) (u : List ℕ) → take (length (take k (take l u))) u ≡ take k (take l u)
front_two zero l u = refl
front_two (suc k) zero u = refl
front_two (suc k) (suc l) [] = refl
front_two (suc k) (suc l) (x ∷ u) = ap (λ (t : List ℕ). x ∷ t) (front_two k l u)

first_is : (t : List ℕ) → first_element t ≡ take (element_length (drop (parting_length t) t)) (drop (parting_length t) t)
unfolding first_element
first_is t = refl

after_is : (t : List ℕ) → after_element t ≡ drop (parting_length t + element_length (drop (parting_length t) t)) t
unfolding after_element
after_is t = drop-drop (element_length (drop (parting_length t) t)) (parting_length t) t

-- the bytes at the place that is noted for the half h of the first element of t
module _ (F : Finder) (s t : List ℕ) (x : Suffix t s) (h : List ℕ) (is-h : h ≡ asked_half F (first_element t)) where
  abbrev at : ℕ
  at = length s - length t + parting_length t

  noted_half : length h < 65536 → noted s (place_number at (length h)) ≡ h
  unfolding noted
  noted_half l =
      ap₂ (λ (i m : ℕ). take m (drop i s)) (high at 16 l) (low at 16 l)
      ∙ ap (take (length h)) (sym (drop-drop (parting_length t) (length s - length t) s) ∙ ap (drop (parting_length t)) (suffix_place s t x))
      ∙ front
    where
      u : List ℕ
      u = drop (parting_length t) t

      k : ℕ
      k = (asked_front F (first_element t)).0

      is_front : h ≡ take k (take (element_length u) u)
      is_front = is-h ∙ (asked_front F (first_element t)).1 ∙ ap (take k) (first_is t)

      front : take (length h) u ≡ h
      front = ap (λ (y : List ℕ). take (length y) u) is_front ∙ front_two k (element_length u) u ∙ sym is_front

-- ## The loop over a list

start_is : (t : List ℕ) (a : ClassSpan) → a ≡ element_at t → a.span.start ≡ parting_length t
unfolding element_at span_from
start_is t a is-a = ap (λ (y : ClassSpan). y.span.start) is-a

from_within : (s t : List ℕ) → Suffix t s → (a : ClassSpan) → a ≡ element_at t → length s - length t + a.span.start ≤ length s
from_within s t x a is-a = omega (arith, suffix_long s t x, start_is t a is-a, span_len_le is_parting t)

module _ (v : View) (r : Request) (f : Found) where
  abbrev F : Finder
  F = finder_by v r

  -- a name that is equal to one that agrees, but for case, agrees
  name_alike : (ws : List (List ℕ)) (t t' : List ℕ) → equal_fold t t' ≡ true → name_agrees F ws f t ≡ true → name_agrees F ws f t' ≡ true
  unfolding name_agrees
  name_alike ws t t' e a =
      ap₂ (λ (n : ℕ) (g : Found). not (in_range 1 64 n) || same_found f g) (sym (fold_length t t' e)) (clients_alike v r.client t t' e ws) ∙ a

  name_empty : (ws : List (List ℕ)) (t : List ℕ) → length t ≡ 0 → name_agrees F ws f t ≡ true
  unfolding name_agrees
  name_empty ws t e = ap (λ (n : ℕ). not (in_range 1 64 n) || same_found f (F.clients U.Known t ws)) e

  pub record Trying (s rest ps : List ℕ) (n : ℕ) : Type 0 where
    pub agreeing : Agreeing (half_agrees F (words s) f) s rest
    pub suffix : Suffix rest s
    pub long : length ps ≡ 512
    pub within : n ≤ length ps
    pub tried : (k : ℕ) → k < n → name_agrees F (words s) f (noted s (get_or ps k 0)) ≡ true

  pub trying_start : (s ps : List ℕ) → length ps ≡ 512 → Trying s s ps 0
  trying_start s ps l = record {
    agreeing = agreeing_start (half_agrees F (words s) f) s;
    suffix = record { from = 0; is = refl };
    long = l;
    within = omega arith;
    tried = λ k l. absurd (omega arith);
  }

  module _ (s rest ps : List ℕ) (n : ℕ) (x : Trying s rest ps n) where
    pub trying_within : n ≤ length ps
    trying_within = x.within

    pub trying_shorter : length rest ≤ length s
    trying_shorter = suffix_long s rest x.suffix

    pub trying_fits : (a : ClassSpan) → a ≡ element_at rest → (m : ℕ) → length s < m → length s - length rest + a.span.start < m
    trying_fits a is-a m l = omega (arith, from_within s rest x.suffix a is-a)

    module _ (w : List ℕ) (is-w : w ≡ first_element rest) where
      pub trying_end : length w ≡ 0 → true ≡ all (half_agrees F (words s) f) (words s)
      trying_end z = agreeing_end (half_agrees F (words s) f) s rest x.agreeing w is-w z

      module _ (full : length w ≡ 0 → ⊥) (h : List ℕ) (is-h : h ≡ asked_half F w) where
        as_half : name_agrees F (words s) f h ≡ half_agrees F (words s) f w
        as_half = ap (name_agrees F (words s) f) is-h ∙ sym (half_asked F (words s) f w)

        next_suffix : (next : List ℕ) → next ≡ after_element rest → Suffix next s
        next_suffix next is-next = record {
          from = x.suffix.from + (parting_length rest + element_length (drop (parting_length rest) rest));
          is = is-next ∙ after_is rest
              ∙ ap (drop (parting_length rest + element_length (drop (parting_length rest) rest))) x.suffix.is
              ∙ drop-drop (parting_length rest + element_length (drop (parting_length rest) rest)) x.suffix.from s;
        }

        -- a half that was tried
        trying_known : (y : Bool) → y ≡ was_tried s ps n h → not y ≡ false → (next : List ℕ) → next ≡ after_element rest → Trying s next ps n
        trying_known y is_y k next is-next = record {
          agreeing = agreeing_more (half_agrees F (words s) f) s rest x.agreeing w is-w full true (sym agrees ∙ as_half) refl next is-next;
          suffix = next_suffix next is-next;
          long = x.long;
          within = x.within;
          tried = x.tried;
        }
          where
            agrees : name_agrees F (words s) f h ≡ true
            agrees = tried_holds s ps h (name_agrees F (words s) f) (λ t e a. name_alike (words s) t h e a) n (λ z. name_empty (words s) h z) x.tried
                (sym is_y ∙ not-false y k)

        module _ (z : Bool) (is-z : z ≡ name_agrees F (words s) f h) where
          trying_stop : not z ≡ true → false ≡ all (half_agrees F (words s) f) (words s)
          trying_stop k = agreeing_stop (half_agrees F (words s) f) s rest x.agreeing w is-w full z (is-z ∙ as_half) k

          module _ (k : not z ≡ false) (a : ClassSpan) (is-a : a ≡ element_at rest) where
            abbrev from : ℕ
            from = length s - length rest + a.span.start

            -- one that is noted
            trying_noted : (ps' : List ℕ) → ps' ≡ noted_places ps n from (length h) → (n' : ℕ) → n' ≡ noted_count ps n from (length h)
                → (next : List ℕ) → next ≡ after_element rest → Trying s next ps' n'
            trying_noted ps' is-ps n' is-n next is-next = by (noted_room ps n from (length h)) refl
              where
                is_from : from ≡ length s - length rest + parting_length rest
                is_from = ap (λ (i : ℕ). length s - length rest + i) (start_is rest a is-a)

                here : length h < 65536 → name_agrees F (words s) f (noted s (place_number from (length h))) ≡ true
                here l =
                    ap (λ (i : ℕ). name_agrees F (words s) f (noted s (place_number i (length h)))) is_from
                    ∙ ap (name_agrees F (words s) f) (noted_half F s rest x.suffix h (is-h ∙ ap (asked_half F) is-w) l)
                    ∙ sym is-z ∙ not-false z k

                made : length ps' ≡ length ps → n' ≤ length ps' → ((j : ℕ) → j < n' → name_agrees F (words s) f (noted s (get_or ps' j 0)) ≡ true)
                    → Trying s next ps' n'
                made e l d = record {
                  agreeing = agreeing_more (half_agrees F (words s) f) s rest x.agreeing w is-w full z (is-z ∙ as_half) k next is-next;
                  suffix = next_suffix next is-next;
                  long = e ∙ x.long;
                  within = l;
                  tried = d;
                }

                by : (b : Bool) → noted_room ps n from (length h) ≡ b → Trying s next ps' n'
                by true e =
                    let c = and_true (ltb n (length ps) && ltb from 65536) (ltb (length h) 65536) e in
                    let d = and_true (ltb n (length ps)) (ltb from 65536) c.0 in
                    let room : n < length ps = ltb-true n (length ps) d.0 in
                    let p : ps' ≡ set ps n (place_number from (length h)) =
                    is-ps ∙ ap (λ (b : Bool). when b then set ps n (place_number from (length h)) else ps) e in
                    let q : n' ≡ n + 1 = is-n ∙ ap (λ (b : Bool). when b then n + 1 else n) e in
                    let l : length ps' ≡ length ps = ap length p ∙ length-set ps n (place_number from (length h)) in
                    made l (omega (arith, room, q, l))
                    (noted_more s ps n (name_agrees F (words s) f) x.tried room (place_number from (length h))
                    (here (ltb-true (length h) 65536 c.1)) ps' p n' q)
                by false e =
                    let p : ps' ≡ ps = is-ps ∙ ap (λ (b : Bool). when b then set ps n (place_number from (length h)) else ps) e in
                    let q : n' ≡ n = is-n ∙ ap (λ (b : Bool). when b then n + 1 else n) e in
                    made (ap length p) (omega (arith, x.within, q, ap length p))
                    (λ j l. ap (λ (y : List ℕ). name_agrees F (words s) f (noted s (get_or y j 0))) p ∙ x.tried j (omega arith))

        module _ (a : ClassSpan) (is-a : a ≡ element_at rest) (t : Option ℕ)
            (is-t : t ≡ tried_by F f s ps n (length s - length rest + a.span.start) h) where
          abbrev start : ℕ
          start = length s - length rest + a.span.start

          answered : (b : Bool) → was_tried s ps n h ≡ b → (z : Bool) → name_agrees F (words s) f h ≡ z
              → t ≡ (when b then Some n else when z then Some (noted_count ps n start (length h)) else None)
          unfolding tried_by
          answered b e z g = is-t ∙ rw (e, g)

          pub trying_differs : t ≡ None → false ≡ all (half_agrees F (words s) f) (words s)
          trying_differs d = by (was_tried s ps n h) refl (name_agrees F (words s) f h) refl
            where
              differs : Option ℕ → Bool
              differs x = elim x [ None ↦ true | Some k ↦ false ]

              by : (b : Bool) → was_tried s ps n h ≡ b → (z : Bool) → name_agrees F (words s) f h ≡ z → false ≡ all (half_agrees F (words s) f) (words s)
              by true e z g = absurd (true≢false (ap differs (sym d ∙ answered true e z g)))
              by false e true g = absurd (true≢false (ap differs (sym d ∙ answered false e true g)))
              by false e false g = trying_stop false (sym g) refl

          pub trying_more : (n' : ℕ) → t ≡ Some n' → (ps' : List ℕ) → ps' ≡ places_by F f s ps n (length s - length rest + a.span.start) h
              → (next : List ℕ) → next ≡ after_element rest → Trying s next ps' n'
          unfolding places_by
          trying_more n' d ps' is-ps next is-next = by (was_tried s ps n h) refl (name_agrees F (words s) f h) refl
            where
              agreed : Option ℕ → ℕ
              agreed x = elim x [ None ↦ n' | Some k ↦ k ]

              differs : Option ℕ → Bool
              differs x = elim x [ None ↦ true | Some k ↦ false ]

              placed : (b : Bool) → was_tried s ps n h ≡ b → (z : Bool) → name_agrees F (words s) f h ≡ z
                  → ps' ≡ (when not b && z then noted_places ps n start (length h) else ps)
              placed b e z g = is-ps ∙ rw (e, g)

              by : (b : Bool) → was_tried s ps n h ≡ b → (z : Bool) → name_agrees F (words s) f h ≡ z → Trying s next ps' n'
              by true e z g =
                  rw (ap agreed (sym d ∙ answered true e z g), placed true e z g) (trying_known true (sym e) refl next is-next)
              by false e true g =
                  trying_noted true (sym g) refl a is-a ps' (placed false e true g) n' (ap agreed (sym d ∙ answered false e true g)) next is-next
              by false e false g = absurd (true≢false (ap differs (sym (sym d ∙ answered false e false g))))
