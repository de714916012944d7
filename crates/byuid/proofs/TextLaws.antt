-- Laws of the lines of a text: what the walk over them knows, and what the decision follows from.
-- Assumes nothing.
use Rattle.std.specs.Prelude.{Err, None, Ok, Option, Result, Some}
use Prim.Native.Nat.{ℕ, ◌+◌, ◌-◌, ◌<◌, ◌≤◌}
use mathlib.Core.Bool.{Bool, true, false, not, ◌&&◌, ◌||◌, or-false, or_assoc}
use mathlib.Core.List.{List, [], ◌∷◌}
use mathlib.Core.Path.{◌≡◌, refl, sym, ap, ◌∙◌}
use native.Mathlib.Omega.{arith}
use borrow.Author.Tests.{ltb-true, ltb-false}
use lib.Dec.{ltb}
use lib.ListN.{length, take, drop, length-drop, drop_of_length-le}
use lib.Seq.{take_all, drop-drop}
use Rattle.text.specs.Basics.{when◌then◌else◌, any}
use Rattle.text.specs.Text.{split, in_range}
use Rattle.text.specs.Scan.{index_of}
use Rattle.text.proofs.ScanLaws.{take_rest, split_mark, split_no_mark}
use Rattle.section.specs.declared.Fault.TheVariants as F
use Rattle.section.specs.declared.Refusal.{Refusal}
use Rattle.section.specs.Refusal.{refusal, placeless, fitting, checked_of}
use Rattle.address.specs.declared.Addr.{Addr}
use Rattle.address.specs.declared.Addr.TheVariants as A
use Rattle.byuid.specs.Byuid.{line_grants, is_retired, retired_fault, byuid_fault, is_ruled, in_span, byuid_decision, bind, file_bind, address_known, decide_byuid}
use Rattle.byuid.specs.Code.{look_of, walk, searched_for, decision_by, answer_by}
use Rattle.byuid.specs.declared.Decision.{Decision}
use Rattle.byuid.specs.declared.Decision.TheVariants.{NotRuled, Granted, NoLine}
use Rattle.byuid.specs.declared.Mark.{Mark}
use Rattle.byuid.specs.declared.Mark.TheVariants.{Plain, Marked}
use Rattle.byuid.proofs.LineLaws.{grants_nil, retired_nil, grants_unknown}

-- ## The walk

-- a line, from the code's answer
look_retires : (a : Addr) (p : ℕ) (l : List ℕ) → look_of a p l ≡ None → is_retired l ≡ true
unfolding look_of
look_retires a p l e = by (is_retired l) e
  where
    by : (b : Bool) → (when b then None else Some (line_grants a p l)) ≡ None → b ≡ true
    by true k = refl
    by false k = let z : ◌≡◌ {A = ℕ} 0 1 = cc in absurd (omega arith)

look_grants : (a : Addr) (p : ℕ) (l : List ℕ) (g : Bool) → look_of a p l ≡ Some g → (is_retired l ≡ false) × (line_grants a p l ≡ g)
unfolding look_of
look_grants a p l g e = by (is_retired l) e
  where
    by : (b : Bool) → (when b then None else Some (line_grants a p l)) ≡ Some g → (b ≡ false) × (line_grants a p l ≡ g)
    by true k = let z : ◌≡◌ {A = ℕ} 0 1 = cc in absurd (omega arith)
    by false k = (refl, cc)

module _ (addr : Addr) (port : ℕ) where
  -- what the walk finds in t, from the number n on
  abbrev pub found : ℕ → Bool → List ℕ → Result Bool ℕ
  found n g t = walk addr port n g (split "\n" t)

  found_end : (n : ℕ) (g : Bool) → found n g [] ≡ Ok g
  unfolding walk split
  found_end n g = rw (retired_nil, grants_nil addr port) (ap Ok (or-false g))

  -- by the first line, and the text after its newline, if any
  found_first : (n : ℕ) (g : Bool) (t : List ℕ) (i : ℕ) → i ≡ index_of 10 t
      → found n g t ≡ (when is_retired (take i t) then Err n else found (n + 1) (g || line_grants addr port (take i t)) (drop (i + 1) t))
  unfolding walk
  found_first n g t i is-i = by (ltb i (length t)) refl
    where
      by : (b : Bool) → ltb i (length t) ≡ b
          → found n g t ≡ (when is_retired (take i t) then Err n else found (n + 1) (g || line_grants addr port (take i t)) (drop (i + 1) t))
      by true e = rw (split_mark "\n" 10 refl t i is-i (ltb-true i (length t) e))
      by false e =
          let h : length t ≤ i = ltb-false i (length t) e in
          let k : length t ≤ i + 1 = omega arith in
          rw (split_no_mark "\n" 10 refl t i is-i h, take_all i t h, drop_of_length-le t k, found_end (n + 1) (g || line_grants addr port t))

  -- at the place `at`: n is the next line's number, and g says whether one so far grants
  pub record Walking (t : List ℕ) (g : Bool) (n at : ℕ) : Type 0 where
    pub within : at ≤ length t + 1
    pub numbered : n ≤ at + 1
    pub so_far : found 1 false t ≡ found n g (drop at t)

  pub walking_start : (t : List ℕ) → Walking t false 1 0
  walking_start t = record { within = omega arith; numbered = omega arith; so_far = refl }

  module _ (t : List ℕ) (g : Bool) (n at : ℕ) (w : Walking t g n at) where
    pub walking_end : length t ≤ at → Ok g ≡ found 1 false t
    walking_end h = sym (w.so_far ∙ ap (found n g) (drop_of_length-le t h) ∙ found_end n g)

    module _ (h : at < length t) (i : ℕ) (is-i : i ≡ index_of 10 (take (length t - at) (drop at t))) (r : Option Bool)
        (is-r : r ≡ look_of addr port (take ((at + i) - at) (drop at t))) where
      abbrev line : List ℕ
      line = take i (drop at t)

      more : found 1 false t ≡ (when is_retired line then Err n else found (n + 1) (g || line_grants addr port line) (drop (at + i + 1) t))
      more =
          let f : at + (i + 1) ≡ at + i + 1 = omega arith in
          w.so_far ∙ found_first n g (drop at t) i (rw (take_rest t at) at is-i) ∙ rw (drop-drop (i + 1) at t, f)

      said : r ≡ look_of addr port line
      said = let e : (at + i) - at ≡ i = omega arith in rw e at is-r

      pub walking_retired : r ≡ None → Err n ≡ found 1 false t
      walking_retired e = sym (more ∙ rw (look_retires addr port line (sym said ∙ e)))

      pub walking_on : (b : Bool) → r ≡ Some b → i ≤ length (take (length t - at) (drop at t)) → Walking t (g || b) (n + 1) (at + i + 1)
      walking_on b e k = record {
        within = omega (arith, ap length (take_rest t at), length-drop at t);
        numbered = let k = w.numbered in omega arith;
        so_far = more ∙ (let q = look_grants addr port line b (sym said ∙ e) in rw (q.0, q.1));
      }

-- ## What the walk finds

-- the refusal by what the walk found
abbrev fault_of : Result Bool ℕ → Option Refusal
fault_of (Err n) = Some (refusal F.RetiredForm 3 n)
fault_of (Ok g) = None

retired_fault_walk : (a : Addr) (p n : ℕ) (g : Bool) (ls : List (List ℕ)) → retired_fault n ls ≡ fault_of (walk a p n g ls)
unfolding retired_fault walk
retired_fault_walk a p n g [] = refl
retired_fault_walk a p n g (l ∷ ls) = by (is_retired l) (retired_fault_walk a p (n + 1) (g || line_grants a p l) ls)
  where
    by : (b : Bool) → retired_fault (n + 1) ls ≡ fault_of (walk a p (n + 1) (g || line_grants a p l) ls)
        → (when b then Some (refusal F.RetiredForm 3 n) else retired_fault (n + 1) ls)
        ≡ fault_of (when b then Err n else walk a p (n + 1) (g || line_grants a p l) ls)
    by true ih = refl
    by false ih = ih

any_walk : (a : Addr) (p n : ℕ) (g h : Bool) (ls : List (List ℕ)) → walk a p n g ls ≡ Ok h → h ≡ (g || any (line_grants a p) ls)
unfolding walk any
any_walk a p n g h [] e = let q : h ≡ g = cc in q ∙ sym (or-false g)
any_walk a p n g h (l ∷ ls) e = by (is_retired l) e (λ k. any_walk a p (n + 1) (g || line_grants a p l) h ls k)
  where
    by : (b : Bool) → (when b then Err n else walk a p (n + 1) (g || line_grants a p l) ls) ≡ Ok h
        → (walk a p (n + 1) (g || line_grants a p l) ls ≡ Ok h → h ≡ ((g || line_grants a p l) || any (line_grants a p) ls))
        → h ≡ (g || (line_grants a p l || any (line_grants a p) ls))
    by true k ih = let z : ◌≡◌ {A = ℕ} 0 1 = cc in absurd (omega arith)
    by false k ih = ih k ∙ or_assoc g (line_grants a p l) (any (line_grants a p) ls)

module _ (t : List ℕ) (a : Addr) (p : ℕ) (w : Result Bool ℕ) (is-w : w ≡ walk a p 1 false (split "\n" t)) where
  byuid_fault_walk : byuid_fault t ≡ fault_of w
  unfolding byuid_fault
  byuid_fault_walk = rw is-w (retired_fault_walk a p 1 false (split "\n" t))

  module _ (n : ℕ) (e : w ≡ Err n) (r : Refusal) (is-r : r ≡ refusal F.RetiredForm 3 n) where
    fault_retired : byuid_fault t ≡ Some r
    fault_retired = byuid_fault_walk ∙ rw (e, is-r)

    pub check_retired : Err r ≡ checked_of (byuid_fault t)
    check_retired = rw fault_retired

  module _ (g : Bool) (e : w ≡ Ok g) where
    fault_none : byuid_fault t ≡ None
    fault_none = byuid_fault_walk ∙ rw e

    pub check_sound : Ok tt ≡ checked_of (byuid_fault t)
    check_sound = rw fault_none

    granting : g ≡ any (line_grants a p) (split "\n" t)
    granting = any_walk a p 1 false g (split "\n" t) (sym is-w ∙ e)

-- ## The decision

pub plain_span : (m : Mark) (p : ℕ) → m ≡ Plain → in_range 1 511 p ≡ in_span m p
plain_span m p e = rw e

pub marked_span : (m : Mark) (p : ℕ) → m ≡ Marked → in_range 512 1023 p ≡ in_span m p
marked_span m p e = rw e

module _ (m : Mark) (p : ℕ) (addr : Addr) (uid : ℕ) (z y : Bool) (is-z : z ≡ is_ruled p uid) (is_y : y ≡ in_span m p) where
  pub searched_address : (z && y) ≡ true → addr ≡ searched_for m p addr uid
  unfolding searched_for
  searched_address e = rw (← is-z, ← is_y, e)

  pub searched_none : (z && y) ≡ false → A.Unknown ≡ searched_for m p addr uid
  unfolding searched_for
  searched_none e = rw (← is-z, ← is_y, e)

module _ (p uid : ℕ) (granted z : Bool) (is-z : z ≡ is_ruled p uid) where
  pub by_not_ruled : not z ≡ true → NotRuled ≡ decision_by p uid granted
  unfolding decision_by
  by_not_ruled e = rw (← is-z, e)

  module _ (e : not z ≡ false) where
    pub by_granted : granted ≡ true → Granted ≡ decision_by p uid granted
    unfolding decision_by
    by_granted f = rw (← is-z, e, f)

    pub by_no_line : granted ≡ false → NoLine ≡ decision_by p uid granted
    unfolding decision_by
    by_no_line f = rw (← is-z, e, f)

module _ (p : ℕ) (addr : Addr) (uid : ℕ) (granted : Bool) where
  pub by_unknown : addr ≡ A.Unknown → (r : Refusal) → r ≡ placeless F.BadRequest → Err r ≡ answer_by p addr uid granted
  by_unknown e r is-r = rw (e, is-r)

  module _ (d : Decision) (is_d : d ≡ decision_by p uid granted) where
    pub by_v4 : (n : ℕ) → addr ≡ A.V4 n → Ok d ≡ answer_by p addr uid granted
    by_v4 n e = rw (e, is_d)

    pub by_v6 : (a b : ℕ) → addr ≡ A.V6 a b → Ok d ≡ answer_by p addr uid granted
    by_v6 a b e = rw (e, is_d)

-- the decision is by whether a line grants at the address that was searched for
decided : (t : List ℕ) (m : Mark) (p : ℕ) (addr : Addr) (uid : ℕ)
    → decision_by p uid (any (line_grants (searched_for m p addr uid) p) (split "\n" t)) ≡ byuid_decision t m p addr uid
unfolding decision_by byuid_decision searched_for
decided t m p addr uid = by (is_ruled p uid) (in_span m p)
  where
    by : (z y : Bool)
        → (when not z then NotRuled else when any (line_grants (when z && y then addr else A.Unknown) p) (split "\n" t) then Granted else NoLine)
        ≡ (when not z then NotRuled else when y && any (line_grants addr p) (split "\n" t) then Granted else NoLine)
    by false y = refl
    by true true = refl
    by true false = rw (grants_unknown p (split "\n" t))

-- the same for an address of any kind
answered_by : (t : List ℕ) (m : Mark) (p : ℕ) (addr : Addr) (uid : ℕ)
    → answer_by p addr uid (any (line_grants (searched_for m p addr uid) p) (split "\n" t))
    ≡ fitting address_known (Some (file_bind m (bind p addr uid))) (λ b. Ok (byuid_decision t m p addr uid))
answered_by t m p A.Unknown uid = refl
answered_by t m p (A.V4 n) uid = ap Ok (decided t m p (A.V4 n) uid)
answered_by t m p (A.V6 a b) uid = ap Ok (decided t m p (A.V6 a b) uid)

module _ (t : List ℕ) (m : Mark) (p : ℕ) (addr : Addr) (uid : ℕ) (x : Bool) (is_x : x ≡ ltb 8192 (length t)) where
  abbrev ruling : Result Decision Refusal
  ruling = decide_byuid t (Some (file_bind m (bind p addr uid)))

  pub over_limit_lem : x ≡ true → (r : Refusal) → r ≡ refusal F.OverLimit 3 0 → Err r ≡ ruling
  unfolding decide_byuid
  over_limit_lem f r e = rw (← is_x, f, e)

  module _ (f : x ≡ false) (a : Addr) (is-a : a ≡ searched_for m p addr uid) (w : Result Bool ℕ) (is-w : w ≡ walk a p 1 false (split "\n" t)) where
    pub decide_retired : (n : ℕ) → w ≡ Err n → (r : Refusal) → r ≡ refusal F.RetiredForm 3 n → Err r ≡ ruling
    unfolding decide_byuid
    decide_retired n e r is-r = rw (← is_x, f, fault_retired t a p w is-w n e r is-r)

    pub decide_answer : (g : Bool) → w ≡ Ok g → (q : Result Decision Refusal) → q ≡ answer_by p addr uid g → q ≡ ruling
    unfolding decide_byuid
    decide_answer g e q is-q =
        is-q ∙ rw (← is_x, f, fault_none t a p w is-w g e)
        (ap (answer_by p addr uid) (granting t a p w is-w g e ∙ ap (λ (b : Addr). any (line_grants b p) (split "\n" t)) is-a) ∙ answered_by t m p addr uid)
