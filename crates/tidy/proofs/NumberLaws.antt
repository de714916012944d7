-- Laws of marks and of numbers as bytes, shaped as the calls and tests of the code hand their facts over.
--   Counting, PutNumbers, Naming == the loops' invariants
--   marked_proposal == the marked lines, in order, are those of the proposal
--   named_by        == after a proposal was read its lines, and they alone, have the mark 2
-- Assumes nothing.
use Rattle.std.specs.Prelude.{Err, None, Ok, Option, Some, unwrap_or}
use Prim.Native.Nat.{ℕ, zero, suc, ◌+◌, ◌*◌, ◌-◌, ◌/◌, ◌%◌, ◌<◌, ◌≤◌}
use native.Mathlib.Numerals.{add-one}
use native.Mathlib.Omega.{arith}
use mathlib.Core.Bool.{Bool, true, false, not, ◌&&◌, ◌||◌, true≢false, or-true}
use mathlib.Core.List.{List, [], ◌∷◌, ◌++◌, append_assoc, append-nil}
use mathlib.Core.Path.{◌≡◌, refl, sym, ap, ap₂, subst, ◌∙◌}
use borrow.Author.Tests.{eq-eqb, ne_eqb, eqb-true, eqb-false, lt-ltb, le-ltb, not-true, not-false}
use lib.Dec.{eqb, ltb}
use lib.ListN.{length, take, drop, get_or, set, length-set, length-append, length-drop, drop_of_length-le}
use lib.Seq.{paste-zero, drop-drop, get_or-set_same, get_or-set_other}
use Rattle.text.specs.Basics.{when◌then◌else◌, ◌>>=◌, holds, any, all}
use Rattle.text.specs.Number.{to_digits, from_digits}
use Rattle.text.specs.Words.{word_bytes, read_words}
use Rattle.text.specs.Scan.{put_at, after}
use Rattle.text.proofs.BasicLaws.{and_true}
use Rattle.text.proofs.ScanLaws.{take_rest}
use Rattle.text.proofs.Digits.{length_to_digits}
use Rattle.text.proofs.PasteLaws.{put_more, length_put_at, after_nil}
use Rattle.section.specs.declared.Fault.TheVariants as F
use Rattle.section.specs.declared.Refusal.{Refusal}
use Rattle.section.specs.Refusal.{placeless, written_of, within_room, lent_after}
use Rattle.lines.specs.Line.{Line, lines}
use Rattle.lines.specs.Rule.{Rule}
use Rattle.tidy.specs.Tidy.{rule_of, covered_by, with_rule, covered_lines, proposal, numbers_of}
use Rattle.tidy.proofs.ProposalLaws.{Ascend, Under, lines_ascend, lines_under}
use Rattle.tidy.specs.Code.{flag, Marked, marked_here, marked_from, marked_bytes, names_marked, set_named, Named}

-- ## One number

pub put_number : (d o : List ℕ) (at n m : ℕ)
    → (m ≡ at + length (n / 256 / 256 / 256 % 256 ∷ n / 256 / 256 % 256 ∷ n / 256 % 256 ∷ n % 256 ∷ []))
    × (o ≡ put_at d at (n / 256 / 256 / 256 % 256 ∷ n / 256 / 256 % 256 ∷ n / 256 % 256 ∷ n % 256 ∷ []))
    → (m ≡ at + 4) × (o ≡ put_at d at (to_digits 256 4 n))
unfolding to_digits
put_number d o at n m w = (omega (arith, w.0), w.1)

pub put_at_nil : (d : List ℕ) (at : ℕ) → put_at d at [] ≡ d
unfolding put_at
put_at_nil d at = sym (paste-zero d at [])

words_append : (a b : List ℕ) → word_bytes (a ++ b) ≡ word_bytes a ++ word_bytes b
unfolding word_bytes
words_append [] b = refl
words_append (n ∷ a) b = ap (λ (t : List ℕ). to_digits 256 4 n ++ t) (words_append a b) ∙ sym (append_assoc (to_digits 256 4 n) (word_bytes a) (word_bytes b))

words_one : (n : ℕ) → word_bytes (n ∷ []) ≡ to_digits 256 4 n
unfolding word_bytes
words_one n = append-nil (to_digits 256 4 n)

pub length_words : (a : List ℕ) → length (word_bytes a) ≡ 4 * length a
unfolding word_bytes
length_words [] = refl
length_words (n ∷ a) = length-append (to_digits 256 4 n) (word_bytes a) ∙ omega (arith, length_to_digits 256 4 n, length_words a)

-- ## The marked lines

pub mark_one : (marks : List ℕ) (n : ℕ) → get_or marks n 0 ≡ 1 → marked_here marks n ≡ n ∷ []
unfolding marked_here
mark_one marks n e = rw (eq-eqb (get_or marks n 0) 1 e)

pub mark_none : (marks : List ℕ) (n : ℕ) → (get_or marks n 0 ≡ 1 → ⊥) → marked_here marks n ≡ []
unfolding marked_here
mark_none marks n e = rw (ne_eqb (get_or marks n 0) 1 e)

pub count_one : (marks : List ℕ) (n : ℕ) → get_or marks n 0 ≡ 1 → 1 ≡ length (marked_here marks n)
count_one marks n e = sym (ap length (mark_one marks n e))

pub count_none : (marks : List ℕ) (n : ℕ) → (get_or marks n 0 ≡ 1 → ⊥) → 0 ≡ length (marked_here marks n)
count_none marks n e = sym (ap length (mark_none marks n e))

from_more : (marks : List ℕ) (n : ℕ) → n < length marks
    → marked_from marks (length marks - n) n ≡ marked_here marks n ++ marked_from marks (length marks - (n + 1)) (n + 1)
unfolding marked_from
from_more marks n l =
    let k : length marks - n ≡ suc (length marks - (n + 1)) = omega arith in
    ap (λ (j : ℕ). marked_from marks j n) k ∙ rw (add-one n)

from_end : (marks : List ℕ) (n : ℕ) → length marks ≤ n → marked_from marks (length marks - n) n ≡ []
unfolding marked_from
from_end marks n l = let k : length marks - n ≡ 0 = omega arith in ap (λ (j : ℕ). marked_from marks j n) k

from_start : (marks : List ℕ) → marked_from marks (length marks) 0 ≡ marked_from marks (length marks - 0) 0
from_start marks = let k : length marks ≡ length marks - 0 = omega arith in ap (λ (j : ℕ). marked_from marks j 0) k

pub record Counting (marks : List ℕ) (count n : ℕ) : Type 0 where
  pub within : n ≤ length marks
  pub few : count ≤ n
  pub so_far : length (marked_from marks (length marks) 0) ≡ count + length (marked_from marks (length marks - n) n)

pub counting_start : (marks : List ℕ) → Counting marks 0 0
counting_start marks = record { within = omega arith; few = omega arith; so_far = omega (arith, ap length (from_start marks)) }

module _ (marks : List ℕ) (count n : ℕ) (h : Counting marks count n) where
  pub counting_end : length marks ≤ n → count ≡ length (marked_from marks (length marks) 0)
  counting_end l = omega (arith, h.so_far, ap length (from_end marks n l))

  pub counting_few : count ≤ length marks
  counting_few = omega (arith, h.few, h.within)

  pub counting_more : n < length marks → (k : ℕ) → (k ≡ length (marked_here marks n)) × (k ≤ 1) → Counting marks (count + k) (n + 1)
  counting_more l k w = record {
    within = omega arith;
    few = omega (arith, h.few, w.1);
    so_far =
        omega (arith, h.so_far, ap length (from_more marks n l), length-append (marked_here marks n) (marked_from marks (length marks - (n + 1)) (n + 1)), w.0);
  }

-- what is written of a line
module _ (d marks : List ℕ) (at n : ℕ) where
  pub room_one : get_or marks n 0 ≡ 1 → at + length (word_bytes (marked_here marks n)) ≤ length d → at + 4 ≤ length d
  room_one e r = omega (arith, r, ap (λ (ns : List ℕ). length (word_bytes ns)) (mark_one marks n e), length_words (n ∷ []))

  module _ (e : get_or marks n 0 ≡ 1) where
    one : word_bytes (marked_here marks n) ≡ to_digits 256 4 n
    one = ap word_bytes (mark_one marks n e) ∙ words_one n

    pub put_one : (m : ℕ) → m ≡ at + 4 → m ≡ at + length (word_bytes (marked_here marks n))
    put_one m w = omega (arith, w, ap length one, length_to_digits 256 4 n)

    pub put_one_kept : (o : List ℕ) → o ≡ put_at d at (to_digits 256 4 n) → o ≡ put_at d at (word_bytes (marked_here marks n))
    put_one_kept o w = w ∙ ap (put_at d at) (sym one)

  module _ (e : get_or marks n 0 ≡ 1 → ⊥) where
    nothing : word_bytes (marked_here marks n) ≡ []
    unfolding word_bytes
    nothing = ap word_bytes (mark_none marks n e)

    pub put_none : at ≡ at + length (word_bytes (marked_here marks n))
    put_none = omega (arith, ap length nothing)

    pub put_none_kept : d ≡ put_at d at (word_bytes (marked_here marks n))
    put_none_kept = sym (ap (put_at d at) nothing ∙ put_at_nil d at)

pub record PutNumbers (d marks out : List ℕ) (at n : ℕ) : Type 0 where
  pub done : List ℕ
  pub within : n ≤ length marks
  pub place : at ≡ length (word_bytes done)
  pub long : length out ≡ length d
  pub text : out ≡ after (word_bytes done) d
  pub rest : marked_from marks (length marks) 0 ≡ done ++ marked_from marks (length marks - n) n
  pub room : length (marked_bytes marks) ≤ length d

pub putting_start : (d marks : List ℕ) → length (marked_bytes marks) ≤ length d → PutNumbers d marks d 0 0
unfolding word_bytes
putting_start d marks r = record {
  done = [];
  within = omega arith;
  place = refl;
  long = refl;
  text = sym (after_nil d);
  rest = from_start marks;
  room = r;
}

module _ (d marks out : List ℕ) (at n : ℕ) (h : PutNumbers d marks out at n) where
  pub putting_end : length marks ≤ n → out ≡ after (marked_bytes marks) d
  unfolding marked_bytes
  putting_end l =
      h.text ∙ ap (λ (ns : List ℕ). after (word_bytes ns) d) (sym (h.rest ∙ (ap (λ (ns : List ℕ). h.done ++ ns) (from_end marks n l) ∙ append-nil h.done)))

  module _ (l : n < length marks) where
    more : marked_from marks (length marks) 0 ≡ (h.done ++ marked_here marks n) ++ marked_from marks (length marks - (n + 1)) (n + 1)
    more =
        h.rest
        ∙ (ap (λ (ns : List ℕ). h.done ++ ns) (from_more marks n l)
        ∙ sym (append_assoc h.done (marked_here marks n) (marked_from marks (length marks - (n + 1)) (n + 1))))

    pub putting_room : at + length (word_bytes (marked_here marks n)) ≤ length out
    unfolding marked_bytes
    putting_room =
        omega (
          arith,
          h.place,
          h.long,
          h.room,
          length_words h.done,
          length_words (marked_here marks n),
          length_words (marked_from marks (length marks) 0),
          ap length more,
          length-append (h.done ++ marked_here marks n) (marked_from marks (length marks - (n + 1)) (n + 1)),
          length-append h.done (marked_here marks n),
        )

    pub putting_more : (o : List ℕ) (m : ℕ) → (m ≡ at + length (word_bytes (marked_here marks n))) × (o ≡ put_at out at (word_bytes (marked_here marks n)))
        → PutNumbers d marks o m (n + 1)
    putting_more o m w = record {
      done = h.done ++ marked_here marks n;
      within = omega arith;
      place = omega (
        arith,
        w.0,
        h.place,
        ap length (words_append h.done (marked_here marks n)),
        length-append (word_bytes h.done) (word_bytes (marked_here marks n)),
      );
      long = ap length w.1 ∙ (length_put_at out (word_bytes (marked_here marks n)) at putting_room ∙ h.long);
      text =
          put_more d out o (word_bytes h.done) (word_bytes (marked_here marks n)) at w.1 h.text h.place
          ∙ ap (λ (t : List ℕ). after t d) (sym (words_append h.done (marked_here marks n)));
      rest = more;
      room = h.room;
    }

-- the answer, and what is written, where there is room or none
module _ (out t : List ℕ) (n : ℕ) (is-n : n ≡ length t) where
  module _ (l : length out < n) where
    over : ltb (length out) (length t) ≡ true
    over = rw (← is-n) (lt-ltb (length out) n l)

    pub no_room : (r : Refusal) → r ≡ placeless F.NoRoom → Err r ≡ written_of (within_room (length out) t)
    no_room r is-r = rw (over, is-r)

    pub no_room_kept : out ≡ lent_after out (within_room (length out) t)
    no_room_kept = rw over

  module _ (l : n ≤ length out) where
    fits : ltb (length out) (length t) ≡ false
    fits = rw (← is-n) (le-ltb (length out) n l)

    pub written : Ok n ≡ written_of (within_room (length out) t)
    written = rw (fits, is-n)

    pub written_kept : (o : List ℕ) → o ≡ after t out → o ≡ lent_after out (within_room (length out) t)
    unfolding after
    written_kept o is-o = is-o ∙ rw fits

length_marked : (marks : List ℕ) (n : ℕ) → n ≡ length (marked_from marks (length marks) 0) → 4 * n ≡ length (marked_bytes marks)
unfolding marked_bytes
length_marked marks n e = omega (arith, e, length_words (marked_from marks (length marks) 0))

module _ (out marks : List ℕ) (n : ℕ) (is-n : n ≡ length (marked_from marks (length marks) 0)) where
  module _ (l : length out < 4 * n) where
    pub numbers_no_room : (r : Refusal) → r ≡ placeless F.NoRoom → Err r ≡ written_of (within_room (length out) (marked_bytes marks))
    numbers_no_room = no_room out (marked_bytes marks) (4 * n) (length_marked marks n is-n) l

    pub numbers_kept : out ≡ lent_after out (within_room (length out) (marked_bytes marks))
    numbers_kept = no_room_kept out (marked_bytes marks) (4 * n) (length_marked marks n is-n) l

  module _ (l : 4 * n ≤ length out) where
    pub numbers_fit_lem : length (marked_bytes marks) ≤ length out
    numbers_fit_lem = omega (arith, length_marked marks n is-n)

    pub numbers_written : Ok (4 * n) ≡ written_of (within_room (length out) (marked_bytes marks))
    numbers_written = written out (marked_bytes marks) (4 * n) (length_marked marks n is-n) l

    pub numbers_held : (o : List ℕ) → o ≡ after (marked_bytes marks) out → o ≡ lent_after out (within_room (length out) (marked_bytes marks))
    numbers_held = written_kept out (marked_bytes marks) (4 * n) (length_marked marks n is-n) l

-- ## Naming

nonzero : List ℕ → ℕ → Bool
nonzero marks n = not (eqb (get_or marks n 0) 0)

past_end : (l : List ℕ) (n : ℕ) → length l ≤ n → ◌≡◌ {A = ℕ} (get_or l n 0) 0
past_end [] n h = refl
past_end (x ∷ l) zero h = absurd (omega arith)
past_end (x ∷ l) (suc n) h = past_end l n (omega arith)

inside : (l : List ℕ) (n : ℕ) → not (eqb (get_or l n 0) 0) ≡ true → n < length l
inside l n e = by (ltb n (length l)) refl
  where
    by : (b : Bool) → ltb n (length l) ≡ b → n < length l
    by true q = borrow.Author.Tests.ltb-true n (length l) q
    by false q =
        absurd (true≢false (sym e ∙ ap not (eq-eqb (get_or l n 0) 0 (past_end l n (borrow.Author.Tests.ltb-false n (length l) q)))))

set_zero : (marks : List ℕ) (m : ℕ) → not (eqb (get_or marks m 0) 0) ≡ true → (k : ℕ) → eqb (get_or (set marks m 2) k 0) 0 ≡ eqb (get_or marks k 0) 0
set_zero marks m e k = by (eqb k m) refl
  where
    by : (b : Bool) → eqb k m ≡ b → eqb (get_or (set marks m 2) k 0) 0 ≡ eqb (get_or marks k 0) 0
    by true q = rw (eqb-true k m q) (ap (λ (x : ℕ). eqb x 0) (get_or-set_same marks m 2 0 (inside marks m e)) ∙ sym (not-true (eqb (get_or marks m 0) 0) e))
    by false q = ap (λ (x : ℕ). eqb x 0) (get_or-set_other marks m k 2 0 (eqb-false k m q))

all_set : (marks : List ℕ) (m : ℕ) → not (eqb (get_or marks m 0) 0) ≡ true → (ns : List ℕ)
    → all (λ n. not (eqb (get_or (set marks m 2) n 0) 0)) ns ≡ all (λ n. not (eqb (get_or marks n 0) 0)) ns
unfolding all
all_set marks m e [] = refl
all_set marks m e (n ∷ ns) = ap₂ (λ (a b : Bool). not a && b) (set_zero marks m e n) (all_set marks m e ns)

zero_same : (marks ns : List ℕ) → all (λ n. not (eqb (get_or marks n 0) 0)) ns ≡ true → (k : ℕ) → eqb (get_or (set_named marks ns) k 0) 0 ≡ eqb (get_or marks k 0) 0
unfolding set_named all
zero_same marks [] e k = refl
zero_same marks (n ∷ ns) e k =
    let a = and_true (not (eqb (get_or marks n 0) 0)) (all (λ n. not (eqb (get_or marks n 0) 0)) ns) e in
    zero_same (set marks n 2) ns (all_set marks n a.0 ns ∙ a.1) k ∙ set_zero marks n a.0 k

set_named_snoc : (marks ns : List ℕ) (n : ℕ) → set_named marks (ns ++ (n ∷ [])) ≡ set (set_named marks ns) n 2
unfolding set_named
set_named_snoc marks [] n = refl
set_named_snoc marks (m ∷ ns) n = set_named_snoc (set marks m 2) ns n

all_two : (p : ℕ → Bool) (s t : List ℕ) → all p (s ++ t) ≡ (all p s && all p t)
unfolding all
all_two p [] t = refl
all_two p (x ∷ s) t = by (p x) (all_two p s t)
  where
    by : (b : Bool) → all p (s ++ t) ≡ (all p s && all p t) → (b && all p (s ++ t)) ≡ ((b && all p s) && all p t)
    by true e = e
    by false e = refl

all_head : (p : ℕ → Bool) (n : ℕ) (ns : List ℕ) → p n ≡ false → all p (n ∷ ns) ≡ false
unfolding all
all_head p n ns e = rw e

all_one : (p : ℕ → Bool) (n : ℕ) → p n ≡ true → all p (n ∷ []) ≡ true
unfolding all
all_one p n e = rw e

pub record Naming (marks₀ p marks : List ℕ) (i : ℕ) : Type 0 where
  pub pre : List ℕ
  pub within : i ≤ length p
  pub read : read_words p ≡ (read_words (drop i p) >>= λ ns. Some (pre ++ ns))
  pub names : marks ≡ set_named marks₀ pre
  pub good : all (λ n. not (eqb (get_or marks₀ n 0) 0)) pre ≡ true
  pub long : length marks ≡ length marks₀

-- nothing before these words
after_nothing : (o : Option (List ℕ)) → o ≡ (o >>= λ ns. Some ([] ++ ns))
after_nothing None = refl
after_nothing (Some ns) = refl

pub naming_start : (marks p : List ℕ) → Naming marks p marks 0
unfolding set_named all
naming_start marks p = record { pre = []; within = omega arith; read = after_nothing (read_words p); names = refl; good = refl; long = refl }

read_short : (t : List ℕ) → 0 < length t → length t < 4 → read_words t ≡ None
unfolding read_words
read_short [] h k = absurd (omega arith)
read_short (a ∷ []) h k = refl
read_short (a ∷ b ∷ []) h k = refl
read_short (a ∷ b ∷ c ∷ []) h k = refl
read_short (a ∷ b ∷ c ∷ d ∷ t) h k = absurd (omega arith)

pub read_four : (t : List ℕ) → 4 ≤ length t → read_words t ≡ (read_words (drop 4 t) >>= λ ns. Some (from_digits 256 0 (take 4 t) ∷ ns))
unfolding read_words
read_four [] h = absurd (omega arith)
read_four (a ∷ []) h = absurd (omega arith)
read_four (a ∷ b ∷ []) h = absurd (omega arith)
read_four (a ∷ b ∷ c ∷ []) h = absurd (omega arith)
read_four (a ∷ b ∷ c ∷ d ∷ t) h = refl

pub refused_names : (marks₀ p marks : List ℕ) → false ≡ true → marks ≡ set_named marks₀ (numbers_of p)
refused_names marks₀ p marks z = absurd (true≢false (sym z))

module _ (marks₀ p marks : List ℕ) (i : ℕ) (h : Naming marks₀ p marks i) where
  refused_by_lem : (o : Option (List ℕ)) → read_words (drop i p) ≡ o → holds (all (λ n. not (eqb (get_or marks₀ n 0) 0))) (o >>= λ ns. Some (h.pre ++ ns)) ≡ false
      → false ≡ names_marked marks₀ p
  unfolding names_marked
  refused_by_lem o e f =
      sym (ap (holds (all (λ n. not (eqb (get_or marks₀ n 0) 0)))) (h.read ∙ ap (λ (x : Option (List ℕ)). x >>= λ ns. Some (h.pre ++ ns)) e) ∙ f)

  pub naming_short : i < length p → length p - i < 4 → false ≡ names_marked marks₀ p
  naming_short l k = refused_by_lem None (read_short (drop i p) (omega (arith, length-drop i p)) (omega (arith, length-drop i p))) refl

  module _ (l : i < length p) (k : 4 ≤ length p - i) (n : ℕ) (is-n : n ≡ from_digits 256 0 (take 4 (take (length p - i) (drop i p)))) where
    head : read_words (drop i p) ≡ (read_words (drop (i + 4) p) >>= λ ns. Some (n ∷ ns))
    head =
        read_four (drop i p) (omega (arith, length-drop i p))
        ∙ rw (drop-drop 4 i p, ← (take_rest p i), ← is-n)

    unnamed : (eqb (get_or marks₀ n 0) 0 ≡ true) → false ≡ names_marked marks₀ p
    unnamed e = by (read_words (drop (i + 4) p)) refl
      where
        false_all : (ns : List ℕ) → all (λ n. not (eqb (get_or marks₀ n 0) 0)) (h.pre ++ (n ∷ ns)) ≡ false
        false_all ns = all_two (λ n. not (eqb (get_or marks₀ n 0) 0)) h.pre (n ∷ ns) ∙ rw (h.good, cons_false ns)
          where
            cons_false : (ns : List ℕ) → all (λ n. not (eqb (get_or marks₀ n 0) 0)) (n ∷ ns) ≡ false
            cons_false ns = all_head (λ n. not (eqb (get_or marks₀ n 0) 0)) n ns (ap not e)

        by : (o : Option (List ℕ)) → read_words (drop (i + 4) p) ≡ o → false ≡ names_marked marks₀ p
        by None q = refused_by_lem None (head ∙ rw q) refl
        by (Some ns) q = refused_by_lem (Some (n ∷ ns)) (head ∙ rw q) (false_all ns)

    here : eqb (get_or marks n 0) 0 ≡ eqb (get_or marks₀ n 0) 0
    here = ap (λ (m : List ℕ). eqb (get_or m n 0) 0) h.names ∙ zero_same marks₀ h.pre h.good n

    pub naming_outside : length marks ≤ n → false ≡ names_marked marks₀ p
    naming_outside m = unnamed (sym here ∙ eq-eqb (get_or marks n 0) 0 (past_end marks n m))

    pub naming_unmarked : get_or marks n 0 ≡ 0 → false ≡ names_marked marks₀ p
    naming_unmarked e = unnamed (sym here ∙ eq-eqb (get_or marks n 0) 0 e)

    pub naming_more : (get_or marks n 0 ≡ 0 → ⊥) → Naming marks₀ p (set marks n 2) (i + 4)
    naming_more e = record {
      pre = h.pre ++ (n ∷ []);
      within = omega arith;
      read = h.read ∙ (ap (λ (x : Option (List ℕ)). x >>= λ ns. Some (h.pre ++ ns)) head ∙ regrouped (read_words (drop (i + 4) p)));
      names = ap (λ (m : List ℕ). set m n 2) h.names ∙ sym (set_named_snoc marks₀ h.pre n);
      good = all_two (λ n. not (eqb (get_or marks₀ n 0) 0)) h.pre (n ∷ [])
          ∙ rw h.good (all_one (λ n. not (eqb (get_or marks₀ n 0) 0)) n (ap not (sym here ∙ ne_eqb (get_or marks n 0) 0 e)));
      long = length-set marks n 2 ∙ h.long;
    }
      where
        regrouped : (o : Option (List ℕ))
            → ((o >>= λ ns. Some (n ∷ ns)) >>= λ ns. Some (h.pre ++ ns)) ≡ (o >>= λ ns. Some ((h.pre ++ (n ∷ [])) ++ ns))
        regrouped None = refl
        regrouped (Some ns) = ap Some (sym (append_assoc h.pre (n ∷ []) ns))

  module _ (l : length p ≤ i) where
    all_read : read_words p ≡ Some h.pre
    unfolding read_words
    all_read = h.read ∙ (ap (λ (t : List ℕ). read_words t >>= λ ns. Some (h.pre ++ ns)) (drop_of_length-le p l) ∙ ap Some (append-nil h.pre))

    pub naming_end : true ≡ names_marked marks₀ p
    unfolding names_marked
    naming_end = sym (ap (holds (all (λ n. not (eqb (get_or marks₀ n 0) 0)))) all_read ∙ h.good)

    pub naming_names : true ≡ true → marks ≡ set_named marks₀ (numbers_of p)
    naming_names z = h.names ∙ ap (set_named marks₀) (sym (ap (λ (o : Option (List ℕ)). unwrap_or o []) all_read))

-- ## The proposal by its marks

-- the numbers ascend, from n on and below m
abbrev pub Rises : ℕ → ℕ → List ℕ → Type 0
Rises n m [] = Unit {0}
Rises n m (k ∷ ns) = (n ≤ k) × ((k < m) × Rises (suc k) m ns)

rises_from : (n k m : ℕ) (ns : List ℕ) → n ≤ k → Rises k m ns → Rises n m ns
rises_from n k m [] h r = tt
rises_from n k m (x ∷ ns) h r = (omega (arith, r.0), r.1)

any_below_lem : (k n m : ℕ) (ns : List ℕ) → k < n → Rises n m ns → any (eqb k) ns ≡ false
unfolding any
any_below_lem k n m [] h r = refl
any_below_lem k n m (x ∷ ns) h r =
    rw (ne_eqb k x (λ e. omega (arith, r.0)), any_below_lem k (suc x) m ns (omega (arith, r.0)) r.1.1)

above : (n x : ℕ) → (n ≡ x → ⊥) → n ≤ x → suc n ≤ x
above n x d l = by (ltb n x) refl
  where
    by : (b : Bool) → ltb n x ≡ b → suc n ≤ x
    by true e = borrow.Author.Tests.ltb-true n x e
    by false e = let h = borrow.Author.Tests.ltb-false n x e in absurd (d (omega arith))

-- the marks from n on are those of ns
from_is : (marks : List ℕ) (k n : ℕ) (ns : List ℕ) → Rises n (n + k) ns → ((j : ℕ) → n ≤ j → eqb (get_or marks j 0) 1 ≡ any (eqb j) ns)
    → marked_from marks k n ≡ ns
unfolding marked_from marked_here any
from_is marks zero n [] r h = refl
from_is marks zero n (x ∷ ns) r h = absurd (omega (arith, r.0, r.1.0))
from_is marks (suc k) n [] r h = rw (h n (omega arith)) (from_is marks k (suc n) [] tt (λ j l. h j (omega arith)))
from_is marks (suc k) n (x ∷ ns) r h =
    by (eqb n x) refl
    (λ q. from_is marks k (suc n) ns (rises_to x ns (omega arith) (subst (λ (y : ℕ). Rises (suc y) (n + suc k) ns) (sym q) r.1.1))
    (λ j l. h j (omega arith) ∙ ap (λ (b : Bool). b || any (eqb j) ns) (ne_eqb j x (λ e. omega arith))))
    (λ q. from_is marks k (suc n) (x ∷ ns) (q, (omega (arith, r.1.0), rises_up (suc x) ns r.1.1)) (λ j l. h j (omega arith)))
  where
    rises_up : (a : ℕ) (xs : List ℕ) → Rises a (n + suc k) xs → Rises a (suc n + k) xs
    rises_up a [] q = tt
    rises_up a (y ∷ xs) q = (q.0, (omega (arith, q.1.0), rises_up (suc y) xs q.1.1))

    rises_to : (x : ℕ) (xs : List ℕ) → n ≤ x → Rises (suc n) (n + suc k) xs → Rises (suc n) (suc n + k) xs
    rises_to x xs l q = rises_up (suc n) xs q

    by : (b : Bool) → eqb n x ≡ b → (n ≡ x → marked_from marks k (suc n) ≡ ns) → (suc n ≤ x → marked_from marks k (suc n) ≡ x ∷ ns)
        → (when eqb (get_or marks n 0) 1 then n ∷ [] else []) ++ marked_from marks k (suc n) ≡ x ∷ ns
    by true e f g =
        let same : n ≡ x = eqb-true n x e in
        rw (h n (omega arith), e) (ap₂ (λ (y : ℕ) (ys : List ℕ). y ∷ ys) same (f same))
    by false e f g =
        let d : n ≡ x → ⊥ = eqb-false n x e in
        let up : suc n ≤ x = above n x d r.0 in
        rw (h n (omega arith), e, any_below_lem n (suc x) (n + suc k) ns (omega arith) r.1.1) (g up)

pub covered_rises : (n m : ℕ) (seen : List Rule) (ls : List Line) → Ascend n ls → Under m ls → Rises n m (covered_lines seen ls)
unfolding covered_lines
covered_rises n m seen [] a u = tt
covered_rises n m seen (l ∷ ls) a u = by (covered_by seen l) (covered_rises (suc l.number) m (with_rule (rule_of l) seen) ls a.1 u.1)
  where
    by : (b : Bool) → Rises (suc l.number) m (covered_lines (with_rule (rule_of l) seen) ls)
        → Rises n m ((when b then l.number ∷ [] else []) ++ covered_lines (with_rule (rule_of l) seen) ls)
    by true h = (a.0, (u.0, h))
    by false h = rises_from n (suc l.number) m (covered_lines (with_rule (rule_of l) seen) ls) (omega (arith, a.0)) h

pub marked_proposal : (t marks : List ℕ) → length t ≤ 16384 → Marked marks (proposal t) → marked_from marks (length marks) 0 ≡ proposal t
unfolding proposal
marked_proposal t marks l m =
    ap (λ (k : ℕ). marked_from marks k 0) m.long
    ∙ from_is marks 16385 0 (covered_lines [] (lines t))
    (rises_from 0 1 16385 (covered_lines [] (lines t)) (omega arith) (covered_rises 1 16385 [] (lines t) (lines_ascend t) (lines_under t l)))
    (λ j k. ap (λ (x : ℕ). eqb x 1) (m.marks_of j) ∙ by (any (eqb j) (covered_lines [] (lines t))))
  where
    by : (b : Bool) → eqb (flag b) 1 ≡ b
    by true = refl
    by false = refl

-- ## What was named

named_get : (ns marks : List ℕ) → all (λ n. not (eqb (get_or marks n 0) 0)) ns ≡ true → (m : ℕ)
    → eqb (get_or (set_named marks ns) m 0) 2 ≡ (eqb (get_or marks m 0) 2 || any (eqb m) ns)
unfolding set_named all any
named_get [] marks e m = by (eqb (get_or marks m 0) 2)
  where
    by : (b : Bool) → b ≡ (b || false)
    by true = refl
    by false = refl
named_get (n ∷ ns) marks e m =
    let a = and_true (not (eqb (get_or marks n 0) 0)) (all (λ n. not (eqb (get_or marks n 0) 0)) ns) e in
    named_get ns (set marks n 2) (all_set marks n a.0 ns ∙ a.1) m ∙ by a.0 (eqb m n) refl
  where
    by : not (eqb (get_or marks n 0) 0) ≡ true → (b : Bool) → eqb m n ≡ b
        → (eqb (get_or (set marks n 2) m 0) 2 || any (eqb m) ns) ≡ (eqb (get_or marks m 0) 2 || (eqb m n || any (eqb m) ns))
    by k true q =
        rw q
        (ap (λ (x : ℕ). eqb x 2 || any (eqb m) ns) (ap (λ (y : ℕ). get_or (set marks n 2) y 0) (eqb-true m n q) ∙ get_or-set_same marks n 2 0 (inside marks n k))
        ∙ sym (or-true (eqb (get_or marks m 0) 2)))
    by k false q = rw q (ap (λ (x : ℕ). eqb x 2 || any (eqb m) ns) (get_or-set_other marks n m 2 0 (eqb-false m n q)))

pub named_by : (t marks : List ℕ) → Marked marks (proposal t) → (p : List ℕ) → names_marked marks p ≡ true → (m : ℕ)
    → eqb (get_or (set_named marks (numbers_of p)) m 0) 2 ≡ any (eqb m) (numbers_of p)
unfolding names_marked
named_by t marks h p e m = by (read_words p) e
  where
    none_two : (b : Bool) → eqb (flag b) 2 ≡ false
    none_two true = refl
    none_two false = refl

    by : (o : Option (List ℕ)) → holds (all (λ n. not (eqb (get_or marks n 0) 0))) o ≡ true
        → eqb (get_or (set_named marks (unwrap_or o [])) m 0) 2 ≡ any (eqb m) (unwrap_or o [])
    by None k = absurd (true≢false (sym k))
    by (Some ns) k =
        named_get ns marks k m
        ∙ ap (λ (b : Bool). b || any (eqb m) ns) (ap (λ (x : ℕ). eqb x 2) (h.marks_of m) ∙ none_two (any (eqb m) (proposal t)))
