-- The two calls, shaped as their calls and tests hand their facts over; and what they answer, for the claims over the exports.
--   with_own_index  == with the index that was written for the sheet, and room, every request gets its lone answer
--   answer_at_lem       == the k-th answer is that of the k-th request
--   other_index     == any other bytes are refused by 21
--   sheet_first, other_index, parted_next, room_last == the order of the refusals
-- Assumes nothing.
use Rattle.std.specs.Prelude.{Err, None, Ok, Option, Result, Some}
use Prim.Native.Nat.{ℕ, zero, suc, ◌+◌, ◌*◌, ◌≤◌, ◌<◌}
use mathlib.Core.Bool.{Bool, true, false, not}
use mathlib.Core.List.{List, [], ◌∷◌, ◌++◌}
use mathlib.Core.Path.{◌≡◌, refl, sym, ap, ◌∙◌}
use native.Mathlib.Omega.{arith}
use borrow.Author.Tests.{lt-ltb, le-ltb}
use lib.ListN.{length, take, drop, get_or}
use lib.Seq.{take_at, drop_at, drop-drop}
use lib.Dec.{ltb}
use Rattle.text.specs.Basics.{◌>>=◌, given}
use Rattle.text.specs.Text.{equal}
use Rattle.text.specs.Scan.{after}
use Rattle.text.proofs.ScanLaws.{equal_refl, eq_of_equal}
use Rattle.section.specs.declared.Fault.TheVariants as F
use Rattle.section.specs.declared.Refusal.{Refusal}
use Rattle.section.specs.Refusal.{Outcome, ◌before◌, placeless, within_room, written_of, lent_after}
use Rattle.tables.proofs.EntryLaws.{some_same}
use Rattle.sheet.specs.declared.Parts.{Parts}
use Rattle.sheet.specs.Sheet.{unpack}
use Rattle.sheet.proofs.FrameLaws.{bind_answered, refusing_answered}
use Rattle.codes.specs.Requests.{RequestNumbers}
use Rattle.index.specs.Index.{index_bytes, write_index, read_request, parted, read_requests, answer_bytes, lone_answer, answers_to, answer_all, verdicts}
use Rattle.index.specs.Code.{counted_of, all_answers, Fitting}
use Rattle.index.proofs.AnswerLaws.{length_answer, length_answers}

-- ## Writing the index

module _ (sheet : List ℕ) (x : Result Parts Refusal) (is_x : x ≡ unpack sheet) where
  module _ (g : Refusal) (e : x ≡ Err g) where
    not_unpacked : unpack sheet ≡ Err g
    not_unpacked = sym is_x ∙ e

    pub write_refused : (n : ℕ) → Err g ≡ written_of (write_index sheet n)
    unfolding write_index
    write_refused n = rw not_unpacked

    pub write_untouched : (out : List ℕ) (n : ℕ) → out ≡ lent_after out (write_index sheet n)
    unfolding write_index
    write_untouched out n = rw not_unpacked

    module _ (index requests : List ℕ) where
      pub verdicts_refused : (n : ℕ) → Err g ≡ written_of (verdicts sheet index requests n)
      unfolding verdicts
      verdicts_refused n = rw not_unpacked

      pub verdicts_untouched : (out : List ℕ) (n : ℕ) → out ≡ lent_after out (verdicts sheet index requests n)
      unfolding verdicts
      verdicts_untouched out n = rw not_unpacked

  module _ (p : Parts) (e : x ≡ Ok p) where
    pub unpack_is : unpack sheet ≡ Ok p
    unpack_is = sym is_x ∙ e

    pub write_answer : (n : ℕ) (r : Result ℕ Refusal) → r ≡ written_of (within_room n (index_bytes sheet p)) → r ≡ written_of (write_index sheet n)
    unfolding write_index
    write_answer n r w = rw unpack_is w

    pub write_holds : (out o : List ℕ) (n : ℕ) → o ≡ lent_after out (within_room n (index_bytes sheet p)) → o ≡ lent_after out (write_index sheet n)
    unfolding write_index
    write_holds out o n w = rw unpack_is w

    module _ (index requests : List ℕ) (b : Bool) (is_b : b ≡ equal index (index_bytes sheet p)) where
      module _ (h : b ≡ true) where
        pub index_is : index ≡ index_bytes sheet p
        index_is = eq_of_equal index (index_bytes sheet p) (sym is_b ∙ h)

        pub verdicts_answer : (n : ℕ) (r : Result ℕ Refusal) → r ≡ written_of (answer_all sheet n (read_requests requests))
            → r ≡ written_of (verdicts sheet index requests n)
        unfolding verdicts
        verdicts_answer n r w = rw (unpack_is, ← is_b, h) w

        pub verdicts_holds : (out o : List ℕ) (n : ℕ) → o ≡ lent_after out (answer_all sheet n (read_requests requests))
            → o ≡ lent_after out (verdicts sheet index requests n)
        unfolding verdicts
        verdicts_holds out o n w = rw (unpack_is, ← is_b, h) w

      module _ (h : b ≡ false) where
        pub verdicts_wrong : (g : Refusal) → g ≡ placeless F.WrongIndex → (n : ℕ) → Err g ≡ written_of (verdicts sheet index requests n)
        unfolding verdicts
        verdicts_wrong g is-g n = rw (unpack_is, ← is_b, h, is-g)

        pub wrong_untouched : (out : List ℕ) (n : ℕ) → out ≡ lent_after out (verdicts sheet index requests n)
        unfolding verdicts
        wrong_untouched out n = rw (unpack_is, ← is_b, h)

-- ## Answering by an index that is right

counted_none : (o : Option (List RequestNumbers)) → counted_of o ≡ None → o ≡ None
counted_none None e = refl
counted_none (Some ns) e = let z : ◌≡◌ {A = ℕ} 0 1 = cc in absurd (omega arith)

counted_some : (o : Option (List RequestNumbers)) (n : ℕ) → counted_of o ≡ Some n → (ns : List RequestNumbers) × ((o ≡ Some ns) × (length ns ≡ n))
counted_some None n e = let z : ◌≡◌ {A = ℕ} 0 1 = cc in absurd (omega arith)
counted_some (Some ns) n e = (ns, (refl, cc))

pub some_few : (k : ℕ) (t : List ℕ) (ns : List RequestNumbers) → parted k t ≡ Some ns → length ns ≤ k
unfolding parted
some_few zero [] ns e = omega (arith, ap length (some_same [] ns e))
some_few zero (x ∷ t) ns e = let z : ◌≡◌ {A = ℕ} 0 1 = cc e in absurd (omega arith)
some_few (suc k) [] ns e = omega (arith, ap length (some_same [] ns e))
some_few (suc k) (x ∷ t) ns e = by (read_request (x ∷ t)) e (some_few k)
  where
    by : (o : Option (RequestNumbers × List ℕ)) → (o >>= λ r. parted k r.1 >>= λ rs. Some (r.0 ∷ rs)) ≡ Some ns
        → ((t : List ℕ) (ns : List RequestNumbers) → parted k t ≡ Some ns → length ns ≤ k) → length ns ≤ suc k
    by None f ih = let z : ◌≡◌ {A = ℕ} 0 1 = cc f in absurd (omega arith)
    by (Some r) f ih = on (parted k r.1) refl f
      where
        on : (o : Option (List RequestNumbers)) → parted k r.1 ≡ o → (o >>= λ rs. Some (r.0 ∷ rs)) ≡ Some ns → length ns ≤ suc k
        on None g f = let z : ◌≡◌ {A = ℕ} 0 1 = cc f in absurd (omega arith)
        on (Some rs) g f = let w = ih r.1 rs g in omega (arith, ap length (some_same (r.0 ∷ rs) ns f))

module _ (sheet requests : List ℕ) (x : Option ℕ) (is_x : x ≡ counted_of (read_requests requests)) where
  abbrev o : Option (List RequestNumbers)
  o = read_requests requests

  module _ (e : x ≡ None) where
    pub all_unparted : (g : Refusal) → g ≡ placeless F.BadRequest → (n : ℕ) → Err g ≡ written_of (answer_all sheet n o)
    all_unparted g is-g n = rw (counted_none o (sym is_x ∙ e), is-g)

    pub unparted_untouched : (out : List ℕ) (n : ℕ) → out ≡ lent_after out (answer_all sheet n o)
    unparted_untouched out n = rw (counted_none o (sym is_x ∙ e))

  module _ (n : ℕ) (e : x ≡ Some n) where
    found : (ns : List RequestNumbers) × ((o ≡ Some ns) × (length ns ≡ n))
    found = counted_some o n (sym is_x ∙ e)

    pub count_few : n ≤ 32
    unfolding read_requests
    count_few = omega (arith, found.1.1, some_few 32 requests found.0 found.1.0)

    long : length (answers_to sheet found.0) ≡ 36 * n
    long = length_answers sheet found.0 ∙ ap (λ (k : ℕ). 36 * k) found.1.1

    module _ (out : List ℕ) (h : length out < 36 * n) where
      short : answer_all sheet (length out) o ≡ Err (placeless F.NoRoom)
      short = ap (answer_all sheet (length out)) found.1.0 ∙ rw (lt-ltb (length out) (length (answers_to sheet found.0)) (omega (arith, long)))

      pub all_no_room : (g : Refusal) → g ≡ placeless F.NoRoom → Err g ≡ written_of (answer_all sheet (length out) o)
      all_no_room g is-g = rw (short, is-g)

      pub no_room_untouched : out ≡ lent_after out (answer_all sheet (length out) o)
      no_room_untouched = rw short

    module _ (out : List ℕ) (h : 36 * n ≤ length out) where
      pub all_fitting : Fitting sheet o (length out)
      all_fitting = record { asked = found.0; parts_asked = found.1.0; room_asked = omega (arith, long) }

      enough : answer_all sheet (length out) o ≡ Ok (answers_to sheet found.0)
      enough = ap (answer_all sheet (length out)) found.1.0 ∙ rw (le-ltb (length out) (length (answers_to sheet found.0)) (omega (arith, long)))

      same_answers : all_answers sheet o ≡ answers_to sheet found.0
      unfolding all_answers
      same_answers = ap (all_answers sheet) found.1.0

      pub all_count : (k : ℕ) → k ≡ length (all_answers sheet o) → Ok k ≡ written_of (answer_all sheet (length out) o)
      all_count k w = ap Ok (w ∙ ap length same_answers) ∙ sym (ap written_of enough)

      pub all_text_lem : (q : List ℕ) → q ≡ after (all_answers sheet o) out → q ≡ lent_after out (answer_all sheet (length out) o)
      unfolding after
      all_text_lem q w = w ∙ ap (λ (s : List ℕ). s ++ drop (length s) out) same_answers ∙ sym (ap (lent_after out) enough)

-- ## What the calls answer

pub written_index : (sheet : List ℕ) (room : ℕ) (i : List ℕ) → write_index sheet room ≡ Ok i → (p : Parts)
    × ((unpack sheet ≡ Ok p) × (i ≡ index_bytes sheet p))
unfolding write_index
written_index sheet room i e =
    let b = bind_answered (unpack sheet) _ i e in
    (b.0, (b.1, sym (refusing_answered (given (ltb room (length (index_bytes sheet b.0))) (placeless F.NoRoom)) (index_bytes sheet b.0) i b.2).1))

module _ (sheet : List ℕ) (p : Parts) (ok : unpack sheet ≡ Ok p) (requests : List ℕ) (room : ℕ) where
  -- with the right index
  right_index : verdicts sheet (index_bytes sheet p) requests room ≡ answer_all sheet room (read_requests requests)
  unfolding verdicts
  right_index = rw (ok, equal_refl (index_bytes sheet p))

  pub parted_next : read_requests requests ≡ None → verdicts sheet (index_bytes sheet p) requests room ≡ Err (placeless F.BadRequest)
  parted_next e = right_index ∙ ap (answer_all sheet room) e

  module _ (ns : List RequestNumbers) (e : read_requests requests ≡ Some ns) where
    pub room_last : room < 36 * length ns → verdicts sheet (index_bytes sheet p) requests room ≡ Err (placeless F.NoRoom)
    room_last h = right_index ∙ ap (answer_all sheet room) e ∙ rw (lt-ltb room (length (answers_to sheet ns)) (omega (arith, length_answers sheet ns)))

    pub all_answered : 36 * length ns ≤ room → verdicts sheet (index_bytes sheet p) requests room ≡ Ok (answers_to sheet ns)
    all_answered h = right_index ∙ ap (answer_all sheet room) e ∙ rw (le-ltb room (length (answers_to sheet ns)) (omega (arith, length_answers sheet ns)))

  pub other_index : (index : List ℕ) → (index ≡ index_bytes sheet p → ⊥) → verdicts sheet index requests room ≡ Err (placeless F.WrongIndex)
  unfolding verdicts
  other_index index h = rw ok (by (equal index (index_bytes sheet p)) refl)
    where
      by : (b : Bool) → equal index (index_bytes sheet p) ≡ b
          → (given (not b) (placeless F.WrongIndex) before answer_all sheet room (read_requests requests)) ≡ Err (placeless F.WrongIndex)
      by true e = absurd (h (eq_of_equal index (index_bytes sheet p) e))
      by false e = refl

pub sheet_first : (sheet index requests : List ℕ) (room : ℕ) (g : Refusal) → unpack sheet ≡ Err g → verdicts sheet index requests room ≡ Err g
unfolding verdicts
sheet_first sheet index requests room g e = rw e

-- "Each answer is the one that the request gets alone without an index"
pub with_own_index : (sheet requests index : List ℕ) (room lent : ℕ) (ns : List RequestNumbers) → write_index sheet lent ≡ Ok index
    → read_requests requests ≡ Some ns → 36 * length ns ≤ room → verdicts sheet index requests room ≡ Ok (answers_to sheet ns)
with_own_index sheet requests index room lent ns w e h =
    let i = written_index sheet lent index w in
    ap (λ (x : List ℕ). verdicts sheet x requests room) i.1.1 ∙ all_answered sheet i.0 i.1.0 requests room ns e h

-- "in their order"
pub answer_at_lem : (sheet : List ℕ) (ns : List RequestNumbers) (k : ℕ) (d : RequestNumbers) → k < length ns
    → take 36 (drop (36 * k) (answers_to sheet ns)) ≡ answer_bytes (lone_answer sheet (get_or ns k d))
unfolding answers_to
answer_at_lem sheet [] k d h = absurd (omega arith)
answer_at_lem sheet (n ∷ ns) zero d h = take_at (answer_bytes (lone_answer sheet n)) (answers_to sheet ns) 36 (length_answer (lone_answer sheet n))
answer_at_lem sheet (n ∷ ns) (suc k) d h =
    let z : 36 * suc k ≡ 36 + 36 * k = omega arith in
    ap (λ (m : ℕ). take 36 (drop m (answer_bytes (lone_answer sheet n) ++ answers_to sheet ns))) z
    ∙ ap (take 36) (sym (drop-drop (36 * k) 36 (answer_bytes (lone_answer sheet n) ++ answers_to sheet ns))
    ∙ ap (drop (36 * k)) (drop_at (answer_bytes (lone_answer sheet n)) (answers_to sheet ns) 36 (length_answer (lone_answer sheet n))))
    ∙ answer_at_lem sheet ns k d (omega arith)
