-- The rule of a line and its parts as the code finds them in the joined line; and rules with the same lists are in one bucket.
--   rule_parts  == the lists of a rule are the words of the parts of the joined line
--   bucket_same == rules with the same lists are in one bucket
-- Assumes nothing.
use Rattle.std.specs.Prelude.{None, Option, Some, unwrap_or}
use Prim.Native.Nat.{ℕ, suc, ◌+◌, ◌*◌, ◌%◌, ◌-◌, ◌<◌, ◌≤◌}
use native.Mathlib.Omega.{arith}
use mathlib.Core.Bool.{Bool, true, false, not, ◌&&◌, ◌||◌, true≢false}
use mathlib.Core.List.{List, [], ◌∷◌}
use mathlib.Core.Path.{◌≡◌, refl, sym, ap, ap₂, ◌∙◌}
use borrow.Author.Tests.{eqb-true, ltb-true, ltb-false}
use lib.Dec.{eqb, ltb}
use lib.ListN.{length, take, drop}
use lib.Seq.{take_all}
use Rattle.text.specs.Basics.{when◌then◌else◌, ◌>>=◌}
use Rattle.text.specs.Text.{bytes, among, equal, cons_head, split, equal_fold, lower}
use Rattle.text.proofs.BasicLaws.{and_true}
use Rattle.text.proofs.ScanLaws.{equal_fold_by}
use Rattle.lines.specs.Line.{join}
use Rattle.lines.specs.Rule.{Rule, split_separator, non_empty, elements, parse_rule}
use Rattle.lines.specs.Parts.{separator_index, after_separator, words, is_parting}
use Rattle.lines.proofs.RuleLaws.{split_separator_none, split_separator_some, elements_words}
use Rattle.rules.proofs.JoinLaws.{join_parts, split_separator_join}
use Rattle.tidy.specs.Tidy.{same_list, all_alone, same_lists, matches_all}
use Rattle.tidy.specs.Code.{daemons_part, clients_part, same_text, all_text, print_more, print_next, print_list, bucket_text}

-- ## The parts

before_some : (s : List ℕ) (p : List ℕ × List ℕ) → split_separator false s ≡ Some p
    → (p.0 ≡ daemons_part s) × (p.1 ≡ after_separator (separator_index false s) s)
unfolding daemons_part after_separator
before_some s p e = by (ltb (separator_index false s) (length s)) refl
  where
    by : (b : Bool) → ltb (separator_index false s) (length s) ≡ b
        → (p.0 ≡ take (separator_index false s) s) × (p.1 ≡ drop (separator_index false s + 1) s)
    by true l =
        let q = split_separator_some s (separator_index false s) refl (ltb-true (separator_index false s) (length s) l) in
        let z : ◌≡◌ {A = List ℕ × List ℕ} p (take (separator_index false s) s, drop (separator_index false s + 1) s) = cc (sym e ∙ q) in
        (ap (λ (x : List ℕ × List ℕ). x.0) z, ap (λ (x : List ℕ × List ℕ). x.1) z)
    by false l =
        let q = split_separator_none s (separator_index false s) refl (ltb-false (separator_index false s) (length s) l) in
        let z : ◌≡◌ {A = ℕ} 0 1 = cc (sym e ∙ q) in absurd (omega arith)

before_none : (s : List ℕ) → split_separator false s ≡ None → s ≡ daemons_part s
unfolding daemons_part
before_none s e = by (ltb (separator_index false s) (length s)) refl
  where
    by : (b : Bool) → ltb (separator_index false s) (length s) ≡ b → s ≡ take (separator_index false s) s
    by true l =
        let q = split_separator_some s (separator_index false s) refl (ltb-true (separator_index false s) (length s) l) in
        let z : ◌≡◌ {A = ℕ} 0 1 = cc (sym e ∙ q) in absurd (omega arith)
    by false l = sym (take_all (separator_index false s) s (ltb-false (separator_index false s) (length s) l))

-- the rule of a line that is parted at its first separator
abbrev rule_by : List ℕ × List ℕ → Option (List ℕ × List ℕ) → Rule
rule_by p o = let q : List ℕ × List ℕ = unwrap_or o (p.1, []) in record { daemons = elements p.0; clients = elements q.0; command = q.1 }

rest_words : (s : List ℕ) (o : Option (List ℕ × List ℕ)) → split_separator false s ≡ o → elements (unwrap_or o (s, [])).0 ≡ words (daemons_part (join s))
rest_words s None e = elements_words s ∙ ap words (before_none (join s) (split_separator_join false s ∙ ap join_parts e))
rest_words s (Some q) e = elements_words q.0 ∙ ap words (before_some (join s) (join q.0, join q.1) (split_separator_join false s ∙ ap join_parts e)).0

clients_rest : (t r : List ℕ) → r ≡ after_separator (separator_index false t) t → daemons_part r ≡ clients_part t
unfolding daemons_part clients_part
clients_rest t r e = rw e

pub rule_parts : (raw : List ℕ) (u : Rule) → parse_rule raw ≡ Some u → (u.daemons ≡ words (daemons_part (join raw)))
    × (u.clients ≡ words (clients_part (join raw)))
unfolding parse_rule
rule_parts raw u e = by (split_separator false raw) refl e
  where
    by : (o : Option (List ℕ × List ℕ)) → split_separator false raw ≡ o → (o >>= λ p. Some (rule_by p (split_separator false p.1))) ≡ Some u
        → (u.daemons ≡ words (daemons_part (join raw))) × (u.clients ≡ words (clients_part (join raw)))
    by None q k = let z : ◌≡◌ {A = ℕ} 0 1 = cc k in absurd (omega arith)
    by (Some p) q k =
        let is-u : rule_by p (split_separator false p.1) ≡ u = cc k in
        let h = before_some (join raw) (join p.0, join p.1) (split_separator_join false raw ∙ ap join_parts q) in (
          sym (ap (λ (x : Rule). x.daemons) is-u) ∙ (elements_words p.0 ∙ ap words h.0),
          sym (ap (λ (x : Rule). x.clients) is-u) ∙ (rest_words p.1 (split_separator false p.1) refl
              ∙ ap words (clients_rest (join raw) (join p.1) h.1)),
        )

pub same_of : (a b : List ℕ) (u v : Rule) → parse_rule a ≡ Some u → parse_rule b ≡ Some v → same_text (join a) (join b) ≡ same_lists u v
unfolding same_text
same_of a b u v e f = let x = rule_parts a u e in let y = rule_parts b v f in rw (x.0, x.1, y.0, y.1)

pub all_of : (a : List ℕ) (u : Rule) → parse_rule a ≡ Some u → all_text (join a) ≡ matches_all u
unfolding all_text
all_of a u e = let x = rule_parts a u e in rw (x.0, x.1)

-- ## Buckets

unfoldable print_bytes : ℕ → List ℕ → ℕ
print_bytes h [] = h
print_bytes h (x ∷ t) = print_bytes (print_more h x) t

unfoldable print_words : ℕ → List (List ℕ) → ℕ
print_words h [] = h
print_words h (w ∷ ws) = print_words (print_bytes h w) ws

pub bucket_of : Rule → ℕ
bucket_of u = print_words (print_words 0 u.daemons) u.clients % 2048

print_head : (h x : ℕ) (ws : List (List ℕ)) → print_words h (non_empty (cons_head x ws)) ≡ print_words (print_more h x) (non_empty ws)
unfolding print_words print_bytes non_empty
print_head h x [] = refl
print_head h x ([] ∷ ws) = refl
print_head h x ((y ∷ w) ∷ ws) = refl

print_words_lem : (h : ℕ) (t : List ℕ) → print_list h t ≡ print_words h (words t)
unfolding print_list print_next print_words words split non_empty is_parting
print_words_lem h [] = refl
print_words_lem h (x ∷ t) = by (among " \t," x) (print_words_lem h t) (print_words_lem (print_more h x) t)
  where
    by : (b : Bool) → print_list h t ≡ print_words h (non_empty (split " \t," t))
        → print_list (print_more h x) t ≡ print_words (print_more h x) (non_empty (split " \t," t))
        → print_list (when b then h else print_more h x) t ≡ print_words h (non_empty (when b then [] ∷ split " \t," t else cons_head x (split " \t," t)))
    by true e f = e
    by false e f = f ∙ sym (print_head h x (split " \t," t))

pub bucket_of_lem : (a : List ℕ) (u : Rule) → parse_rule a ≡ Some u → bucket_text (join a) ≡ bucket_of u
unfolding bucket_text bucket_of
bucket_of_lem a u e =
    let x = rule_parts a u e in
    rw (print_words_lem 0 (daemons_part (join a)), print_words_lem (print_words 0 (words (daemons_part (join a)))) (clients_part (join a)), ← x.0, ← x.1)

nil_cons : (b : ℕ) (y : List ℕ) → equal_fold [] (b ∷ y) ≡ false
unfolding equal_fold equal
nil_cons b y = refl

cons_nil : (b : ℕ) (y : List ℕ) → equal_fold (b ∷ y) [] ≡ false
unfolding equal_fold equal
cons_nil b y = refl

bytes_same : (h : ℕ) (x y : List ℕ) → equal_fold x y ≡ true → print_bytes h x ≡ print_bytes h y
unfolding print_bytes
bytes_same h [] [] e = refl
bytes_same h [] (b ∷ y) e = absurd (true≢false (sym e ∙ nil_cons b y))
bytes_same h (a ∷ x) [] e = absurd (true≢false (sym e ∙ cons_nil a x))
bytes_same h (a ∷ x) (b ∷ y) e =
    let f = and_true (eqb (lower a) (lower b)) (equal_fold x y) (sym (equal_fold_by.more a b x y) ∙ e) in
    rw (eqb-true (lower a) (lower b) f.0) (bytes_same (print_more h b) x y f.1)

words_same : (h : ℕ) (xs ys : List (List ℕ)) → same_list xs ys ≡ true → print_words h xs ≡ print_words h ys
unfolding print_words same_list
words_same h [] [] e = refl
words_same h [] (y ∷ ys) e = absurd (true≢false (sym e))
words_same h (x ∷ xs) [] e = absurd (true≢false (sym e))
words_same h (x ∷ xs) (y ∷ ys) e =
    let f = and_true (equal_fold x y) (same_list xs ys) e in
    rw (bytes_same h x y f.0) (words_same (print_bytes h y) xs ys f.1)

pub bucket_same : (u v : Rule) → same_lists u v ≡ true → bucket_of u ≡ bucket_of v
unfolding bucket_of
bucket_same u v e =
    let f = and_true (same_list u.daemons v.daemons) (same_list u.clients v.clients) e in
    rw (words_same 0 u.daemons v.daemons f.0, words_same (print_words 0 v.daemons) u.clients v.clients f.1)

pub bucket_small : (u : Rule) → bucket_of u < 2048
unfolding bucket_of
bucket_small u = omega arith
