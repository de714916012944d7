-- Laws of the longest run of zeros among the groups of an IPv6 address. The first of the longest runs is what split_once finds at the largest
-- number of zeros for which it finds any, so compress writes `::` for it where it has two zeros or more.
-- Assumes nothing.
use Rattle.std.specs.Prelude.{None, Some}
use Prim.Native.Nat.{ℕ, zero, suc, ◌+◌, ◌-◌, ◌^◌, ◌<◌, ◌≤◌}
use mathlib.Core.Bool.{Bool, true, false, ◌&&◌}
use mathlib.Core.List.{List, [], ◌∷◌, ◌++◌}
use mathlib.Core.Path.{◌≡◌, refl, sym, ap, ◌∙◌}
use native.Mathlib.Omega.{arith}
use native.Mathlib.Nat.{zero-add}
use borrow.Author.Tests.{ltb-true, ltb-false, leb-true, leb-false, eqb-true, eqb-false, eq-eqb, ne_eqb}
use lib.Dec.{ltb, leb, eqb}
use lib.ListN.{length, take, drop, get_or, replicate, length-replicate, length-drop}
use lib.Seq.{drop-cons, drop-length}
use Rattle.text.specs.Text.{bytes, equal, cons_first, split_once}
use Rattle.address_format.specs.declared.Run.{Run}
use Rattle.address.specs.Address.{hex_groups, compress}
use Rattle.address_format.specs.WriteCode.{run_at, longer_zeros, leading_zeros, longer_run, longest_from, longest_run}

zeros_start : (k : ℕ) (gs : List ℕ) → k ≤ leading_zeros gs → equal (replicate k 0) (take k gs) ≡ true
unfolding leading_zeros equal
zeros_start zero gs h = refl
zeros_start (suc k) [] h = absurd (omega arith)
zeros_start (suc k) (g ∷ gs) h = by (eqb g 0) refl h (zeros_start k gs)
  where
    by : (t : Bool) → eqb g 0 ≡ t → suc k ≤ longer_zeros (leading_zeros gs) g → (k ≤ leading_zeros gs → equal (replicate k 0) (take k gs) ≡ true)
        → (eqb 0 g && equal (replicate k 0) (take k gs)) ≡ true
    by true e h ih = let l : suc k ≤ leading_zeros gs + 1 = rw e at h in rw (eq-eqb 0 g (sym (eqb-true g 0 e)), ih (omega arith))
    by false e h ih = let l : suc k ≤ 0 = rw e at h in absurd (omega arith)

zeros_no_start : (k : ℕ) (gs : List ℕ) → leading_zeros gs < k → equal (replicate k 0) (take k gs) ≡ false
unfolding leading_zeros equal
zeros_no_start zero gs h = absurd (omega arith)
zeros_no_start (suc k) [] h = refl
zeros_no_start (suc k) (g ∷ gs) h = by (eqb g 0) refl h (zeros_no_start k gs)
  where
    by : (t : Bool) → eqb g 0 ≡ t → longer_zeros (leading_zeros gs) g < suc k → (leading_zeros gs < k → equal (replicate k 0) (take k gs) ≡ false)
        → (eqb 0 g && equal (replicate k 0) (take k gs)) ≡ false
    by true e h ih = let l : leading_zeros gs + 1 < suc k = rw e at h in rw (eq-eqb 0 g (sym (eqb-true g 0 e)), ih (omega arith))
    by false e h ih = rw (ne_eqb 0 g (λ q. eqb-false g 0 e (sym q)))

leading_zeros_le : (gs : List ℕ) → leading_zeros gs ≤ length gs
unfolding leading_zeros
leading_zeros_le [] = omega arith
leading_zeros_le (g ∷ gs) = by (eqb g 0) refl (leading_zeros_le gs)
  where
    by : (t : Bool) → eqb g 0 ≡ t → leading_zeros gs ≤ length gs → longer_zeros (leading_zeros gs) g ≤ suc (length gs)
    by true e h = rw e (omega arith)
    by false e h = rw e (omega arith)

-- the run r is the first of the longest in gs, which stands from the place p on: split_once finds its zeros there, and no more of them anywhere
record Longest (p : ℕ) (gs : List ℕ) (r : Run) : Type 0 where
  ahead : ℕ
  pub at : r.place ≡ p + ahead
  pub within : ahead + r.len ≤ length gs
  pub found : 0 < r.len → split_once (replicate r.len 0) gs ≡ Some (take ahead gs, drop (ahead + r.len) gs)
  pub longer : (k : ℕ) → r.len < k → split_once (replicate k 0) gs ≡ None

module _ (p g : ℕ) (gs : List ℕ) (r : Run) (l : Longest (suc p) gs r) (z : ℕ) (is-z : z ≡ leading_zeros (g ∷ gs)) where
  starts : (k : ℕ) → k ≤ z → split_once (replicate k 0) (g ∷ gs) ≡ Some ([], drop k (g ∷ gs))
  unfolding split_once
  starts k h = rw (length-replicate {A = ℕ} k 0, zeros_start k (g ∷ gs) (omega arith))

  goes_on : (k : ℕ) → z < k → split_once (replicate k 0) (g ∷ gs) ≡ cons_first g (split_once (replicate k 0) gs)
  unfolding split_once
  goes_on k h = rw (length-replicate {A = ℕ} k 0, zeros_no_start k (g ∷ gs) (omega arith))

  longest_here : r.len ≤ z → Longest p (g ∷ gs) (run_at p z)
  longest_here h =
      record {
        ahead = 0;
        at = omega arith;
        within = omega (arith, leading_zeros_le (g ∷ gs));
        found = λ q. rw (zero-add z) (starts z (omega arith));
        longer = λ k q. goes_on k q ∙ rw (l.longer k (omega arith));
      }

  longest_there : z < r.len → Longest p (g ∷ gs) r
  longest_there h =
      let e : suc l.ahead + r.len ≡ suc (l.ahead + r.len) = omega arith in
      record {
        ahead = suc l.ahead;
        at = omega (arith, l.at);
        within = omega (arith, l.within);
        found = λ q. goes_on r.len h ∙ rw (l.found q, e);
        longer = λ k q. goes_on k (omega arith) ∙ rw (l.longer k q);
      }

  longest_step : Longest p (g ∷ gs) (longer_run r p z)
  longest_step = by (leb r.len z) refl
    where
      by : (t : Bool) → leb r.len z ≡ t → Longest p (g ∷ gs) (longer_run r p z)
      by true e = rw e (longest_here (leb-true r.len z e))
      by false e = rw e (longest_there (leb-false r.len z e))

longest_from_lem : (p : ℕ) (gs : List ℕ) → Longest p gs (longest_from p gs)
unfolding longest_from split_once
longest_from_lem p [] = record { ahead = 0; at = omega arith; within = omega arith; found = λ q. absurd (omega arith); longer = λ k q. refl }
longest_from_lem p (g ∷ gs) = longest_step p g gs (longest_from (suc p) gs) (longest_from_lem (suc p) gs) (leading_zeros (g ∷ gs)) refl

-- the loop from the last group on: what is known at place i
pub record Runs (gs : List ℕ) (i zeros : ℕ) (best : Run) : Type 0 where
  pub within : i ≤ length gs
  pub is_zeros : zeros ≡ leading_zeros (drop i gs)
  pub is_best : best ≡ longest_from i (drop i gs)

pub runs_start : (gs : List ℕ) → Runs gs (length gs) 0 (run_at (length gs) 0)
unfolding leading_zeros longest_from
runs_start gs = record { within = omega arith; is_zeros = rw (drop-length gs); is_best = rw (drop-length gs) }

module _ (gs : List ℕ) (i zeros : ℕ) (best : Run) (h : Runs gs i zeros best) where
  pub runs_few : length gs ≡ 8 → zeros < 2 ^ 32
  runs_few e = omega (arith, h.is_zeros, leading_zeros_le (drop i gs), length-drop i gs)

  pub runs_step : (z : ℕ) (b : Run) → 0 < i → z ≡ longer_zeros zeros (get_or gs (i - 1) 0) → b ≡ longer_run best (i - 1) z → Runs gs (i - 1) z b
  unfolding leading_zeros longest_from
  runs_step z b pos f e = by i pos h f e
    where
      by : (i : ℕ) → 0 < i → Runs gs i zeros best → z ≡ longer_zeros zeros (get_or gs (i - 1) 0) → b ≡ longer_run best (i - 1) z → Runs gs (i - 1) z b
      by zero pos h f e = absurd (omega arith)
      by (suc i) pos h f e =
          let q : suc i - 1 ≡ i = omega arith in
          let d : drop i gs ≡ get_or gs i 0 ∷ drop (suc i) gs = drop-cons gs i 0 (omega (arith, h.within)) in
          let w : z ≡ leading_zeros (get_or gs i 0 ∷ drop (suc i) gs) = rw (← h.is_zeros) (rw q at f) in
          rw q
          (record {
            within = omega (arith, h.within);
            is_zeros = rw d w;
            is_best = rw (d, ← h.is_best, ← w) (rw q at e);
          })

  pub runs_end : i ≤ 0 → best ≡ longest_run gs
  runs_end le = let e : i ≡ 0 = omega arith in rw e at h.is_best

module _ (gs : List ℕ) (r : Run) (is-r : r ≡ longest_run gs) where
  longest : Longest 0 gs r
  longest = rw is-r (longest_from_lem 0 gs)

  pub run_within : r.place + r.len ≤ length gs
  run_within = omega (arith, longest.at, longest.within)

  pub compress_plain : r.len < 2 → (k : ℕ) → compress k gs ≡ hex_groups gs
  unfolding compress
  compress_plain h zero = refl
  compress_plain h (suc k) = rw (longest.longer (suc (suc k)) (omega arith)) (compress_plain h k)

  pub compress_run : 2 ≤ r.len → (k : ℕ) → r.len ≤ suc k → compress k gs
      ≡ hex_groups (take r.place gs) ++ bytes "::" ++ hex_groups (drop (r.place + r.len) gs)
  unfolding compress
  compress_run h zero l = absurd (omega arith)
  compress_run h (suc k) l = by (ltb r.len (suc (suc k))) refl (compress_run h k)
    where
      e : r.place ≡ longest.ahead
      e = longest.at ∙ zero-add longest.ahead

      text : List ℕ
      text = hex_groups (take r.place gs) ++ bytes "::" ++ hex_groups (drop (r.place + r.len) gs)

      by : (t : Bool) → ltb r.len (suc (suc k)) ≡ t → (r.len ≤ suc k → compress k gs ≡ text) → compress (suc k) gs ≡ text
      by true q ih = let m : r.len < suc (suc k) = ltb-true r.len (suc (suc k)) q in rw (longest.longer (suc (suc k)) m) (ih (omega arith))
      by false q ih =
          let n : suc (suc k) ≡ r.len = omega (arith, ltb-false r.len (suc (suc k)) q) in
          let f : split_once (replicate (suc (suc k)) 0) gs ≡ Some (take r.place gs, drop (r.place + r.len) gs) =
          ap (λ (m : ℕ). split_once (replicate m 0) gs) n ∙ rw e (longest.found (omega arith)) in
          rw f

pub runs_within : (gs : List ℕ) (i zeros : ℕ) (best : Run) → Runs gs i zeros best → i ≤ 0 → best.place + best.len ≤ length gs
runs_within gs i zeros best h le = run_within gs best (runs_end gs i zeros best h le)
