-- The tidy program's proposal is the most that can be accepted.
--   covers_through   what covers a rule covers all that this rule covers
--   covered_lines_same what is covered is the same by rules that cover the same
--   proposal_accepted the tidy program's proposal is accepted
--   proposal_most    an accepted proposal names no line but those that the tidy program proposes
--   accepts_proposed  so a proposal is accepted exactly if it names such lines alone
-- Assumes nothing.
use Rattle.std.specs.Prelude.{None, Option, Some}
use Prim.Native.Nat.{ℕ, suc, ◌+◌, ◌*◌, ◌≤◌, ◌<◌}
use mathlib.Core.Bool.{Bool, true, false, not, ◌&&◌, ◌||◌, true≢false, or-true}
use mathlib.Core.List.{List, [], ◌∷◌, ◌++◌, append_assoc}
use mathlib.Core.Path.{◌≡◌, refl, sym, ap, ap₂, ◌∙◌}
use native.Mathlib.Omega.{arith}
use borrow.Author.Tests.{eq-eqb, ne_eqb, eqb-true}
use lib.Dec.{eqb}
use Rattle.text.specs.Basics.{when◌then◌else◌, holds, any, all}
use lib.ListN.{length, take, drop, length-drop}
use Rattle.text.specs.Text.{equal, equal_fold, is_word, split}
use Rattle.text.proofs.BasicLaws.{and_true}
use Rattle.text.proofs.Intercalate.{any_append}
use Rattle.text.proofs.ScanLaws.{equal_refl, eq_of_equal}
use Rattle.lines.specs.Line.{Line, line, logical_lines, lines}
use Rattle.lines.specs.Scan.{span_at, scan_line, SpanBounds}
use Rattle.lines.proofs.LineLaws.{scan_line_bounds, logical_lines_cons, logical_lines_nil}
use Rattle.lines.proofs.RewriteLaws.{line_ind}
use Rattle.lines.specs.Rule.{Rule}
use Rattle.tidy.specs.Tidy.{rule_of, same_list, all_alone, same_lists, matches_all, covers, covered_by, with_rule, named, witnessed, are_lines, accepts}
use Rattle.tidy.specs.Tidy.{covered_lines, proposal}

-- ## Covering

equal_fold_through : (x y z : List ℕ) → equal_fold x y ≡ true → equal_fold y z ≡ true → equal_fold x z ≡ true
unfolding equal_fold
equal_fold_through x y z e f = rw (eq_of_equal _ _ e ∙ eq_of_equal _ _ f) (equal_refl _)

same_list_through : (xs ys zs : List (List ℕ)) → same_list xs ys ≡ true → same_list ys zs ≡ true → same_list xs zs ≡ true
unfolding same_list
same_list_through [] [] [] e f = refl
same_list_through [] [] (z ∷ zs) e f = f
same_list_through [] (y ∷ ys) zs e f = absurd (true≢false (sym e))
same_list_through (x ∷ xs) [] zs e f = absurd (true≢false (sym e))
same_list_through (x ∷ xs) (y ∷ ys) [] e f = absurd (true≢false (sym f))
same_list_through (x ∷ xs) (y ∷ ys) (z ∷ zs) e f =
    let a = and_true (equal_fold x y) (same_list xs ys) e in
    let b = and_true (equal_fold y z) (same_list ys zs) f in
    rw (equal_fold_through x y z a.0 b.0) (same_list_through xs ys zs a.1 b.1)

is_all_back : (x y : List ℕ) → equal_fold x y ≡ true → is_word "ALL" y ≡ is_word "ALL" x
unfolding equal_fold
is_all_back x y e = ap (equal _) (sym (eq_of_equal _ _ e))

all_alone_back : (xs ys : List (List ℕ)) → same_list xs ys ≡ true → all_alone ys ≡ true → all_alone xs ≡ true
unfolding same_list
all_alone_back [] [] e f = f
all_alone_back [] (y ∷ ys) e f = absurd (true≢false (sym e))
all_alone_back (x ∷ xs) [] e f = absurd (true≢false (sym e))
all_alone_back (x ∷ []) (y ∷ []) e f = sym (is_all_back x y (and_true (equal_fold x y) true e).0) ∙ f
all_alone_back (x ∷ []) (y ∷ v ∷ ys) e f = absurd (true≢false (sym f))
all_alone_back (x ∷ w ∷ xs) (y ∷ []) e f = absurd (true≢false (sym (and_true (equal_fold x y) false e).1))
all_alone_back (x ∷ w ∷ xs) (y ∷ v ∷ ys) e f = absurd (true≢false (sym f))

pub covers_through : (w u v : Rule) → covers w u ≡ true → covers u v ≡ true → covers w v ≡ true
unfolding covers
covers_through w u v e f =
    by (same_list w.daemons u.daemons && same_list w.clients u.clients) refl e
    (same_list u.daemons v.daemons && same_list u.clients v.clients) refl f
  where
    by : (b : Bool) → (same_list w.daemons u.daemons && same_list w.clients u.clients) ≡ b
        → (b || all_alone w.daemons && all_alone w.clients) ≡ true
        → (c : Bool) → (same_list u.daemons v.daemons && same_list u.clients v.clients) ≡ c
        → (c || all_alone u.daemons && all_alone u.clients) ≡ true
        → (same_list w.daemons v.daemons && same_list w.clients v.clients || all_alone w.daemons && all_alone w.clients) ≡ true
    by false p h c q k = rw h (or-true (same_list w.daemons v.daemons && same_list w.clients v.clients))
    by true p h true q k =
        let a = and_true (same_list w.daemons u.daemons) (same_list w.clients u.clients) p in
        let b = and_true (same_list u.daemons v.daemons) (same_list u.clients v.clients) q in
        rw (same_list_through w.daemons u.daemons v.daemons a.0 b.0, same_list_through w.clients u.clients v.clients a.1 b.1)
    by true p h false q k =
        let a = and_true (same_list w.daemons u.daemons) (same_list w.clients u.clients) p in
        let b = and_true (all_alone u.daemons) (all_alone u.clients) k in
        rw (all_alone_back w.daemons u.daemons a.0 b.0, all_alone_back w.clients u.clients a.1 b.1)
        (or-true (same_list w.daemons v.daemons && same_list w.clients v.clients))

-- ## The most

-- whatever us cover, vs cover
abbrev pub CoverLess : List Rule → List Rule → Type 0
CoverLess us vs = (v : Rule) → any (λ u. covers u v) us ≡ true → any (λ u. covers u v) vs ≡ true

pub less_both : (o : Option Rule) (us vs : List Rule) → CoverLess us vs → CoverLess (with_rule o us) (with_rule o vs)
unfolding any
less_both None us vs h v e = h v e
less_both (Some u) us vs h v e = by (covers u v) e
  where
    by : (b : Bool) → (b || any (λ u. covers u v) us) ≡ true → (b || any (λ u. covers u v) vs) ≡ true
    by true k = refl
    by false k = h v k

pub less_right : (o : Option Rule) (us vs : List Rule) → CoverLess us vs → CoverLess us (with_rule o vs)
unfolding any
less_right None us vs h v e = h v e
less_right (Some u) us vs h v e = rw (h v e) (or-true (covers u v))

pub less_covered : (us vs : List Rule) (l : Line) → CoverLess us vs → covered_by us l ≡ true → covered_by vs l ≡ true
less_covered us vs l h e = by (rule_of l) e
  where
    by : (o : Option Rule) → holds (λ v. any (λ u. covers u v) us) o ≡ true → holds (λ v. any (λ u. covers u v) vs) o ≡ true
    by None k = k
    by (Some v) k = h v k

-- each line of ls that ns names is among ms
abbrev pub Among : List ℕ → List ℕ → List Line → Type 0
Among ns ms [] = Unit {0}
Among ns ms (l ∷ ls) = (named ns l ≡ true → any (eqb l.number) ms ≡ true) × Among ns ms ls

among_more : (ns ms ks : List ℕ) (ls : List Line) → Among ns ms ls → Among ns (ks ++ ms) ls
among_more ns ms ks [] h = tt
among_more ns ms ks (l ∷ ls) h = (
  λ e. any_append (eqb l.number) ks ms ∙ ap (λ (b : Bool). any (eqb l.number) ks || b) (h.0 e) ∙ or-true (any (eqb l.number) ks),
  among_more ns ms ks ls h.1,
)

most : (ns : List ℕ) (kept seen : List Rule) (ls : List Line) → CoverLess kept seen → witnessed ns kept ls ≡ true → Among ns (covered_lines seen ls) ls
unfolding witnessed covered_lines any
most ns kept seen [] h e = tt
most ns kept seen (l ∷ ls) h e =
    by (named ns l) refl e (λ us g k. most ns us (with_rule (rule_of l) seen) ls g k)
  where
    rest : List ℕ
    rest = covered_lines (with_rule (rule_of l) seen) ls

    by : (b : Bool) → named ns l ≡ b → (when b then covered_by kept l && witnessed ns kept ls else witnessed ns (with_rule (rule_of l) kept) ls) ≡ true
        → ((us : List Rule) → CoverLess us (with_rule (rule_of l) seen) → witnessed ns us ls ≡ true → Among ns rest ls)
        → (named ns l ≡ true → any (eqb l.number) ((when covered_by seen l then l.number ∷ [] else []) ++ rest) ≡ true)
        × Among ns ((when covered_by seen l then l.number ∷ [] else []) ++ rest) ls
    by true q k ih =
        let a = and_true (covered_by kept l) (witnessed ns kept ls) k in
        rw (less_covered kept seen l h a.0) (
          λ e. rw (eq-eqb l.number l.number refl),
          among_more ns rest (l.number ∷ []) ls (ih kept (less_right (rule_of l) kept seen h) a.1),
        )
    by false q k ih = (
      λ e. absurd (true≢false (sym e ∙ q)),
      among_more ns rest (when covered_by seen l then l.number ∷ [] else []) ls (ih (with_rule (rule_of l) kept) (less_both (rule_of l) kept seen h) k),
    )

-- "as many lines to drop as can be accepted": no accepted proposal names another line
pub proposal_most : (t ns : List ℕ) → accepts t ns ≡ true → Among ns (proposal t) (lines t)
unfolding accepts proposal any
proposal_most t ns e = most ns [] [] (lines t) (λ v k. k) (and_true (are_lines ns (lines t)) (witnessed ns [] (lines t)) e).1

-- ## It is accepted

-- the numbers of ls ascend, from n on
abbrev pub Ascend : ℕ → List Line → Type 0
Ascend n [] = Unit {0}
Ascend n (l ∷ ls) = (n ≤ l.number) × Ascend (suc l.number) ls

pub ascend_from : (m n : ℕ) (ls : List Line) → m ≤ n → Ascend n ls → Ascend m ls
ascend_from m n [] h a = tt
ascend_from m n (l ∷ ls) h a = (omega (arith, a.0), a.1)

unfoldable pub Ascending : List ℕ → Type 0
Ascending t = (n at : ℕ) → Ascend n (logical_lines n at (split "\n" t))

pub ascending : (t : List ℕ) → Ascending t
unfolding Ascending
ascending = line_ind Ascending
    (λ n at. rw (logical_lines_nil n at) tt)
    (λ t k h n at. rw (logical_lines_cons t n at k) (
      omega arith,
      ascend_from (suc n) (n + (scan_line t).joins + 1)
          (logical_lines (n + (scan_line t).joins + 1) (at + (scan_line t).end + 1) (split "\n" (drop ((scan_line t).end + 1) t))) (omega arith)
          (h (n + (scan_line t).joins + 1) (at + (scan_line t).end + 1)),
    ))

pub lines_ascend : (t : List ℕ) → Ascend 1 (lines t)
unfolding Ascending lines
lines_ascend t = ascending t 1 0

-- every number is below m
abbrev pub Under : ℕ → List Line → Type 0
Under m [] = Unit {0}
Under m (l ∷ ls) = (l.number < m) × Under m ls

unfoldable UnderText : List ℕ → Type 0
UnderText t = (n at m : ℕ) → n + length t ≤ m → Under m (logical_lines n at (split "\n" t))

few_joins : (t : List ℕ) → (2 * (scan_line t).joins ≤ (scan_line t).end) × ((scan_line t).end ≤ length t)
few_joins t = let b = scan_line_bounds t 0 (span_at 0 (scan_line (drop 0 t))) (omega arith) refl in (omega (arith, b.pairs), omega (arith, b.within))

under_text : (t : List ℕ) → UnderText t
unfolding UnderText
under_text = line_ind UnderText
    (λ n at m l. rw (logical_lines_nil n at) tt)
    (λ t k h n at m l. let f = few_joins t in rw (logical_lines_cons t n at k)
    (omega arith, h (n + (scan_line t).joins + 1) (at + (scan_line t).end + 1) m (omega (arith, l, k, length-drop ((scan_line t).end + 1) t, f.0, f.1))))

pub lines_under : (t : List ℕ) → length t ≤ 16384 → Under 16385 (lines t)
unfolding UnderText lines
lines_under t l = under_text t 1 0 16385 (omega arith)

-- a number below those of ls is not proposed
not_below : (m : ℕ) (seen : List Rule) (ls : List Line) → Ascend (suc m) ls → any (eqb m) (covered_lines seen ls) ≡ false
unfolding covered_lines any
not_below m seen [] a = refl
not_below m seen (l ∷ ls) a =
    by (covered_by seen l) (not_below m (with_rule (rule_of l) seen) ls (ascend_from (suc m) (suc l.number) ls (omega (arith, a.0)) a.1))
  where
    by : (b : Bool) → any (eqb m) (covered_lines (with_rule (rule_of l) seen) ls) ≡ false
        → any (eqb m) ((when b then l.number ∷ [] else []) ++ covered_lines (with_rule (rule_of l) seen) ls) ≡ false
    by true h = rw (ne_eqb m l.number (λ e. omega (arith, a.0))) h
    by false h = h

-- a line is named by the whole proposal exactly if it is covered; pre: what is proposed before it
pub named_covered : (pre : List ℕ) (seen : List Rule) (l : Line) (ls : List Line) → Ascend (suc l.number) ls → any (eqb l.number) pre ≡ false
    → named (pre ++ covered_lines seen (l ∷ ls)) l ≡ covered_by seen l
unfolding covered_lines any
named_covered pre seen l ls a h =
    any_append (eqb l.number) pre (covered_lines seen (l ∷ ls)) ∙ rw h
    (by (covered_by seen l) (not_below l.number (with_rule (rule_of l) seen) ls a))
  where
    by : (b : Bool) → any (eqb l.number) (covered_lines (with_rule (rule_of l) seen) ls) ≡ false
        → any (eqb l.number) ((when b then l.number ∷ [] else []) ++ covered_lines (with_rule (rule_of l) seen) ls) ≡ b
    by true k = rw (eq-eqb l.number l.number refl)
    by false k = k

-- a covered rule adds nothing to what the kept ones cover
through_kept : (o : Option Rule) (seen kept : List Rule) → CoverLess seen kept → holds (λ v. any (λ u. covers u v) kept) o ≡ true
    → CoverLess (with_rule o seen) kept
unfolding any
through_kept None seen kept h e v k = absurd (true≢false (sym e))
through_kept (Some u) seen kept h e v k = by (covers u v) refl k
  where
    through : (ws : List Rule) → any (λ w. covers w u) ws ≡ true → covers u v ≡ true → any (λ w. covers w v) ws ≡ true
    through [] p q = p
    through (w ∷ ws) p q = first (covers w u) refl p (λ z. through ws z q)
      where
        first : (b : Bool) → covers w u ≡ b → (b || any (λ w. covers w u) ws) ≡ true → (any (λ w. covers w u) ws ≡ true → any (λ w. covers w v) ws ≡ true)
            → (covers w v || any (λ w. covers w v) ws) ≡ true
        first true c z ih = rw (covers_through w u v c q)
        first false c z ih = rw (ih z) (or-true (covers w v))

    by : (b : Bool) → covers u v ≡ b → (b || any (λ u. covers u v) seen) ≡ true → any (λ u. covers u v) kept ≡ true
    by true q z = through kept e q
    by false q z = h v z

-- below n nothing more is proposed
abbrev pub Below : ℕ → List ℕ → Type 0
Below n pre = (m : ℕ) → n ≤ m → any (eqb m) pre ≡ false

pub below_more : (b : Bool) (n k : ℕ) (pre : List ℕ) → n ≤ k → Below n pre → Below (suc k) (pre ++ (when b then k ∷ [] else []))
unfolding any
below_more true n k pre l h m e = any_append (eqb m) pre (k ∷ []) ∙ rw (h m (omega arith), ne_eqb m k (λ q. omega arith))
below_more false n k pre l h m e = any_append (eqb m) pre [] ∙ rw (h m (omega arith))

greedy : (n : ℕ) (pre : List ℕ) (seen kept : List Rule) (ls : List Line) → Ascend n ls → Below n pre → CoverLess seen kept
    → witnessed (pre ++ covered_lines seen ls) kept ls ≡ true
unfolding witnessed covered_lines
greedy n pre seen kept [] a p h = refl
greedy n pre seen kept (l ∷ ls) a p h =
    rw (named_covered pre seen l ls a.1 (p l.number a.0))
    (by (covered_by seen l) refl (λ us g. rw (← (regroup (covered_by seen l)))
    (greedy (suc l.number) (pre ++ (when covered_by seen l then l.number ∷ [] else [])) (with_rule (rule_of l) seen) us ls a.1
    (below_more (covered_by seen l) n l.number pre a.0 p) g)))
  where
    regroup : (b : Bool) → (pre ++ (when b then l.number ∷ [] else [])) ++ covered_lines (with_rule (rule_of l) seen) ls
        ≡ pre ++ ((when b then l.number ∷ [] else []) ++ covered_lines (with_rule (rule_of l) seen) ls)
    regroup b = append_assoc pre (when b then l.number ∷ [] else []) (covered_lines (with_rule (rule_of l) seen) ls)

    ns : List ℕ
    ns = pre ++ ((when covered_by seen l then l.number ∷ [] else []) ++ covered_lines (with_rule (rule_of l) seen) ls)

    by : (b : Bool) → covered_by seen l ≡ b → ((us : List Rule) → CoverLess (with_rule (rule_of l) seen) us → witnessed ns us ls ≡ true)
        → (when b then covered_by kept l && witnessed ns kept ls else witnessed ns (with_rule (rule_of l) kept) ls) ≡ true
    by true q ih = let c = less_covered seen kept l h q in rw c (ih kept (through_kept (rule_of l) seen kept h c))
    by false q ih = ih (with_rule (rule_of l) kept) (less_both (rule_of l) seen kept h)

-- every number is that of a line
lines_of : (seen : List Rule) (ls ms : List Line) → ((n : ℕ) → any (λ (l : Line). eqb l.number n) ls ≡ true
    → any (λ (l : Line). eqb l.number n) ms ≡ true)
    → are_lines (covered_lines seen ls) ms ≡ true
unfolding covered_lines any all
lines_of seen [] ms h = refl
lines_of seen (l ∷ ls) ms h =
    by (covered_by seen l)
    (lines_of (with_rule (rule_of l) seen) ls ms (λ n e. h n (rw e (or-true (eqb l.number n)))))
    (h l.number (rw (eq-eqb l.number l.number refl)))
  where
    by : (b : Bool) → are_lines (covered_lines (with_rule (rule_of l) seen) ls) ms ≡ true → any (λ (m : Line). eqb m.number l.number) ms ≡ true
        → are_lines ((when b then l.number ∷ [] else []) ++ covered_lines (with_rule (rule_of l) seen) ls) ms ≡ true
    by true ih e = rw e ih
    by false ih e = ih

pub proposal_accepted : (t : List ℕ) → accepts t (proposal t) ≡ true
unfolding accepts proposal any
proposal_accepted t =
    rw (lines_of [] (lines t) (lines t) (λ n e. e)) (greedy 1 [] [] [] (lines t) (lines_ascend t) (λ m e. refl) (λ v e. e))

-- ## What is accepted, by what is proposed

pub covered_lines_same : (us vs : List Rule) → ((v : Rule) → any (λ u. covers u v) us ≡ any (λ u. covers u v) vs) → (ls : List Line)
    → covered_lines us ls ≡ covered_lines vs ls
unfolding covered_lines any
covered_lines_same us vs h [] = refl
covered_lines_same us vs h (l ∷ ls) =
    ap₂ (λ (b : Bool) (ns : List ℕ). (when b then l.number ∷ [] else []) ++ ns) (by (rule_of l))
    (covered_lines_same (with_rule (rule_of l) us) (with_rule (rule_of l) vs) (more (rule_of l)) ls)
  where
    by : (o : Option Rule) → holds (λ v. any (λ u. covers u v) us) o ≡ holds (λ v. any (λ u. covers u v) vs) o
    by None = refl
    by (Some v) = h v

    more : (o : Option Rule) (v : Rule) → any (λ u. covers u v) (with_rule o us) ≡ any (λ u. covers u v) (with_rule o vs)
    more None v = h v
    more (Some w) v = ap (λ (b : Bool). covers w v || b) (h v)

-- a rule that is covered covers nothing more
pub covered_adds : (us : List Rule) (w : Rule) → any (λ u. covers u w) us ≡ true → (v : Rule) → any (λ u. covers u v) (w ∷ us) ≡ any (λ u. covers u v) us
unfolding any
covered_adds us w e v = by (covers w v) refl
  where
    by : (b : Bool) → covers w v ≡ b → (covers w v || any (λ u. covers u v) us) ≡ any (λ u. covers u v) us
    by true q = rw q (sym (through_kept (Some w) us us (λ x k. k) e v (rw q)))
    by false q = rw q

-- the numbers ns are among ms
abbrev pub Within : List ℕ → List ℕ → Type 0
Within ns ms = (m : ℕ) → any (eqb m) ns ≡ true → any (eqb m) ms ≡ true

pub all_within : (ms ns : List ℕ) → all (λ n. any (eqb n) ms) ns ≡ true → Within ns ms
unfolding all any
all_within ms [] e m k = absurd (true≢false (sym k))
all_within ms (n ∷ ns) e m k =
    let a = and_true (any (eqb n) ms) (all (λ n. any (eqb n) ms) ns) e in by (eqb m n) refl k (λ z. all_within ms ns a.1 m z) a.0
  where
    by : (b : Bool) → eqb m n ≡ b → (b || any (eqb m) ns) ≡ true → (any (eqb m) ns ≡ true → any (eqb m) ms ≡ true) → any (eqb n) ms ≡ true
        → any (eqb m) ms ≡ true
    by true q z ih h = rw (eqb-true m n q) h
    by false q z ih h = ih z

pub within_all : (ms ns : List ℕ) → Within ns ms → all (λ n. any (eqb n) ms) ns ≡ true
unfolding all any
within_all ms [] h = refl
within_all ms (n ∷ ns) h = rw (h n (rw (eq-eqb n n refl)), within_all ms ns (λ m k. h m (rw k (or-true (eqb m n)))))

regroup : (pre : List ℕ) (seen : List Rule) (l : Line) (ls : List Line) (m : ℕ) → any (eqb m) (pre ++ covered_lines seen (l ∷ ls)) ≡ true
    → any (eqb m) ((pre ++ (when covered_by seen l then l.number ∷ [] else [])) ++ covered_lines (with_rule (rule_of l) seen) ls) ≡ true
unfolding covered_lines
regroup pre seen l ls m k =
    ap (any (eqb m)) (append_assoc pre (when covered_by seen l then l.number ∷ [] else []) (covered_lines (with_rule (rule_of l) seen) ls)) ∙ k

fewer : (ns : List ℕ) (n : ℕ) (pre : List ℕ) (seen kept : List Rule) (ls : List Line) → Ascend n ls → Below n pre → CoverLess seen kept
    → Within ns (pre ++ covered_lines seen ls) → witnessed ns kept ls ≡ true
unfolding witnessed
fewer ns n pre seen kept [] a p h w = refl
fewer ns n pre seen kept (l ∷ ls) a p h w =
    by (named ns l) refl
    (λ us g. fewer ns (suc l.number) (pre ++ (when covered_by seen l then l.number ∷ [] else [])) (with_rule (rule_of l) seen) us ls a.1
    (below_more (covered_by seen l) n l.number pre a.0 p) g (λ m k. regroup pre seen l ls m (w m k)))
  where
    by : (b : Bool) → named ns l ≡ b → ((us : List Rule) → CoverLess (with_rule (rule_of l) seen) us → witnessed ns us ls ≡ true)
        → (when named ns l then covered_by kept l && witnessed ns kept ls else witnessed ns (with_rule (rule_of l) kept) ls) ≡ true
    by true q ih =
        let s : covered_by seen l ≡ true = sym (named_covered pre seen l ls a.1 (p l.number a.0)) ∙ w l.number q in
        let c = less_covered seen kept l h s in
        rw (q, c) (ih kept (through_kept (rule_of l) seen kept h c))
    by false q ih = rw q (ih (with_rule (rule_of l) kept) (less_both (rule_of l) seen kept h))

-- a number that is proposed is that of a line
is_line : (seen : List Rule) (ls : List Line) (n : ℕ) → any (eqb n) (covered_lines seen ls) ≡ true → any (λ (l : Line). eqb l.number n) ls ≡ true
unfolding covered_lines any
is_line seen [] n e = e
is_line seen (l ∷ ls) n e = by (covered_by seen l) e (is_line (with_rule (rule_of l) seen) ls n)
  where
    rest : List ℕ
    rest = covered_lines (with_rule (rule_of l) seen) ls

    own : (c : Bool) → eqb n l.number ≡ c → (c || any (eqb n) rest) ≡ true → (any (eqb n) rest ≡ true → any (λ (l : Line). eqb l.number n) ls ≡ true)
        → (eqb l.number n || any (λ (l : Line). eqb l.number n) ls) ≡ true
    own true q k ih = rw (eqb-true n l.number q, eq-eqb l.number l.number refl)
    own false q k ih = rw (ih k) (or-true (eqb l.number n))

    by : (b : Bool) → any (eqb n) ((when b then l.number ∷ [] else []) ++ rest) ≡ true
        → (any (eqb n) rest ≡ true → any (λ (l : Line). eqb l.number n) ls ≡ true)
        → (eqb l.number n || any (λ (l : Line). eqb l.number n) ls) ≡ true
    by true k ih = own (eqb n l.number) refl k ih
    by false k ih = rw (ih k) (or-true (eqb l.number n))

within_lines : (ls : List Line) (ns : List ℕ) → ((n : ℕ) → any (eqb n) ns ≡ true → any (λ (l : Line). eqb l.number n) ls ≡ true) → are_lines ns ls ≡ true
unfolding all any
within_lines ls [] h = refl
within_lines ls (n ∷ ns) h = rw (h n (rw (eq-eqb n n refl)), within_lines ls ns (λ m k. h m (rw k (or-true (eqb m n)))))

-- what is proposed of a proposal's lines
among_within : (ns ms : List ℕ) (ls : List Line) → Among ns ms ls → (n : ℕ) → any (λ (l : Line). eqb l.number n) ls ≡ true → any (eqb n) ns ≡ true
    → any (eqb n) ms ≡ true
unfolding any
among_within ns ms [] a n e k = absurd (true≢false (sym e))
among_within ns ms (l ∷ ls) a n e k = by (eqb l.number n) refl e (λ z. among_within ns ms ls a.1 n z k)
  where
    by : (b : Bool) → eqb l.number n ≡ b → (b || any (λ (l : Line). eqb l.number n) ls) ≡ true
        → (any (λ (l : Line). eqb l.number n) ls ≡ true → any (eqb n) ms ≡ true) → any (eqb n) ms ≡ true
    by true q z ih = let same = eqb-true l.number n q in rw same at (a.0 (rw same k))
    by false q z ih = ih z

pub lines_within : (ls : List Line) (ns : List ℕ) → are_lines ns ls ≡ true → (n : ℕ) → any (eqb n) ns ≡ true → any (λ (l : Line). eqb l.number n) ls ≡ true
unfolding all any
lines_within ls [] e n k = absurd (true≢false (sym k))
lines_within ls (m ∷ ns) e n k =
    let a = and_true (any (λ (l : Line). eqb l.number m) ls) (are_lines ns ls) e in by (eqb n m) refl k (lines_within ls ns a.1 n) a.0
  where
    by : (b : Bool) → eqb n m ≡ b → (b || any (eqb n) ns) ≡ true → (any (eqb n) ns ≡ true → any (λ (l : Line). eqb l.number n) ls ≡ true)
        → any (λ (l : Line). eqb l.number m) ls ≡ true → any (λ (l : Line). eqb l.number n) ls ≡ true
    by true q z ih h = rw (eqb-true n m q) h
    by false q z ih h = ih z

pub accepted_within : (t ns : List ℕ) → accepts t ns ≡ true → Within ns (proposal t)
unfolding accepts
accepted_within t ns e n k =
    let a = and_true (are_lines ns (lines t)) (witnessed ns [] (lines t)) e in
    among_within ns (proposal t) (lines t) (proposal_most t ns (rw e)) n (lines_within (lines t) ns a.0 n k) k

pub within_accepted : (t ns : List ℕ) → Within ns (proposal t) → accepts t ns ≡ true
unfolding accepts proposal any
within_accepted t ns h =
    rw (within_lines (lines t) ns (λ n k. is_line [] (lines t) n (h n k)), fewer ns 1 [] [] [] (lines t) (lines_ascend t) (λ m e. refl) (λ v e. e) h)

pub accepts_proposed : (t ns : List ℕ) → accepts t ns ≡ all (λ n. any (eqb n) (proposal t)) ns
accepts_proposed t ns = by (accepts t ns) refl (all (λ n. any (eqb n) (proposal t)) ns) refl
  where
    by : (a : Bool) → accepts t ns ≡ a → (b : Bool) → all (λ n. any (eqb n) (proposal t)) ns ≡ b → a ≡ b
    by true p true q = refl
    by true p false q = absurd (true≢false (sym (within_all (proposal t) ns (accepted_within t ns p)) ∙ q))
    by false p true q = absurd (true≢false (sym (within_accepted t ns (all_within (proposal t) ns q)) ∙ p))
    by false p false q = refl
