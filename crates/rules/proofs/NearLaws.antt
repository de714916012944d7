-- Numbers that stop at the largest of 64 bits are the same whether each part of them stopped there or only the whole.
--   rule_near  == a rule looks at as much by counts that stop as by those that don't
--   total_near == so do both files
-- Assumes nothing.
use Rattle.std.specs.Prelude.{None, Option, Some}
use Prim.Native.Nat.{ℕ, ◌+◌}
use mathlib.Core.Bool.{Bool, true, false, ◌||◌}
use mathlib.Core.List.{List, [], ◌∷◌}
use mathlib.Core.Path.{◌≡◌, refl, ◌∙◌}
use Rattle.text.specs.Basics.{when◌then◌else◌, is_some, first, sum_until}
use Rattle.lines.specs.Line.{Line, lines, is_comment, is_blank}
use Rattle.lines.specs.Rule.{Rule, parse_rule, is_except}
use Rattle.tables.specs.Table.{Matcher}
use Rattle.tables.specs.Tried.{looked_with, capped}
use Rattle.elements.specs.declared.Found.{Found}
use Rattle.elements.specs.declared.Found.TheVariants.{No, Yes, Ask}
use Rattle.elements.specs.Request.{Request}
use Rattle.elements.specs.Element.{look_at, named_table, daemon_element, client_element, element_looked}
use Rattle.elements.proofs.CountLaws.{capped_both}
use Rattle.lists.specs.Walk.{included}
use Rattle.lists.specs.Looked.{further_on, looked_included, looked_excluded, rule_looked_by}
use Rattle.rules.specs.declared.Verdict.{Verdict}
use Rattle.rules.specs.declared.Verdict.TheVariants.{Granted, Denied}
use Rattle.rules.specs.declared.File.{File}
use Rattle.rules.specs.declared.File.TheVariants.{Allow, Deny}
use Rattle.rules.specs.Search.{line_answer}
use Rattle.rules.specs.Looked.{of_rule, line_count}

-- the same as 64 bits say it
abbrev pub Near : {A : Type 0} → (A → ℕ) → (A → ℕ) → Type 0
Near {A} c k = (x : A) → capped (c x) ≡ capped (k x)

-- ## A list

further_near : (f : Found) (a b x y : ℕ) → capped a ≡ capped x → capped b ≡ capped y → capped (further_on f a b) ≡ capped (further_on f x y)
further_near Yes a b x y e g = e
further_near No a b x y e g = g
further_near Ask a b x y e g = refl

module _ (m : List ℕ → Found) (c k : List ℕ → ℕ) (near : Near c k) where
  mutual
    unfolding looked_included looked_excluded

    pub included_near : (ws : List (List ℕ)) → capped (looked_included m c ws) ≡ capped (looked_included m k ws)
    included_near [] = refl
    included_near (w ∷ ws) = by (is_except w) (included_near ws) (excluded_near ws)
      where
        by : (b : Bool) → capped (looked_included m c ws) ≡ capped (looked_included m k ws) → capped (looked_excluded m c ws) ≡ capped (looked_excluded m k ws)
            → capped (when b then 0 else c w + further_on (m w) (looked_excluded m c ws) (looked_included m c ws))
            ≡ capped (when b then 0 else k w + further_on (m w) (looked_excluded m k ws) (looked_included m k ws))
        by true i e = refl
        by false i e = capped_both (c w) (further_on (m w) (looked_excluded m c ws) (looked_included m c ws)) (k w)
            (further_on (m w) (looked_excluded m k ws) (looked_included m k ws)) (near w)
            (further_near (m w) (looked_excluded m c ws) (looked_included m c ws) (looked_excluded m k ws) (looked_included m k ws) e i)

    pub excluded_near : (ws : List (List ℕ)) → capped (looked_excluded m c ws) ≡ capped (looked_excluded m k ws)
    excluded_near [] = refl
    excluded_near (w ∷ ws) = by (is_except w) (included_near ws) (excluded_near ws)
      where
        by : (b : Bool) → capped (looked_included m c ws) ≡ capped (looked_included m k ws) → capped (looked_excluded m c ws) ≡ capped (looked_excluded m k ws)
            → capped (when b then looked_included m c ws else looked_excluded m c ws) ≡ capped (when b then looked_included m k ws else looked_excluded m k ws)
        by true i e = i
        by false i e = e

-- ## A rule

element_near : (x y : List ℕ → ℕ) → Near x y → Near (element_looked x) (element_looked y)
unfolding element_looked
element_near x y near e = by (named_table e)
  where
    by : (o : Option (List ℕ)) → capped (looked_with x o) ≡ capped (looked_with y o)
    by None = refl
    by (Some n) = capped_both 1 (x n) 1 (y n) refl (near n)

pub rule_near : (s c : Matcher) (r : Request) (x x' y y' : List ℕ → ℕ) → Near x x' → Near y y' → Near (rule_looked_by s c x y r) (rule_looked_by s c x' y' r)
unfolding rule_looked_by
rule_near s c r x x' y y' h g u =
    let d : List ℕ → Found = λ e. look_at r (daemon_element s e) in
    let e : List ℕ → Found = λ e. look_at r (client_element c e) in
    capped_both (looked_included d (element_looked x) u.daemons) (further_on (included d u.daemons) (looked_included e (element_looked y) u.clients) 0)
    (looked_included d (element_looked x') u.daemons) (further_on (included d u.daemons) (looked_included e (element_looked y') u.clients) 0)
    (included_near d (element_looked x) (element_looked x') (element_near x x' h) u.daemons)
    (further_near (included d u.daemons) (looked_included e (element_looked y) u.clients) 0 (looked_included e (element_looked y') u.clients) 0
    (included_near e (element_looked y) (element_looked y') (element_near y y' g) u.clients) refl)

-- ## The files

line_near : (c k : Rule → ℕ) → Near c k → Near (line_count c) (line_count k)
unfolding line_count
line_near c k near l = by (is_comment l || is_blank l) (parse_rule l.raw)
  where
    by : (b : Bool) (o : Option Rule) → capped (when b then 0 else of_rule c o) ≡ capped (when b then 0 else of_rule k o)
    by true o = refl
    by false None = refl
    by false (Some u) = near u

until_near : (p : Line → Bool) (c k : Line → ℕ) → Near c k → (ls : List Line) → capped (sum_until p c ls) ≡ capped (sum_until p k ls)
unfolding sum_until
until_near p c k near [] = refl
until_near p c k near (l ∷ ls) = by (p l) (until_near p c k near ls)
  where
    by : (b : Bool) → capped (sum_until p c ls) ≡ capped (sum_until p k ls)
        → capped (c l + (when b then 0 else sum_until p c ls)) ≡ capped (k l + (when b then 0 else sum_until p k ls))
    by true h = capped_both (c l) 0 (k l) 0 (near l) refl
    by false h = capped_both (c l) (sum_until p c ls) (k l) (sum_until p k ls) (near l) h

-- what both files look at, where a rule finds what g says and looks at what c says
abbrev pub until : Verdict → File → (Rule → Found) → (Rule → ℕ) → List ℕ → ℕ
until v f g c t = sum_until (λ l. is_some (line_answer v f g l)) (line_count c) (lines t)

abbrev pub total : (Rule → Found) → (Rule → ℕ) → List ℕ → List ℕ → ℕ
total g c allow deny =
    until Granted Allow g c allow + (when is_some (first (line_answer Granted Allow g) (lines allow)) then 0 else until Denied Deny g c deny)

pub total_near : (g : Rule → Found) (c k : Rule → ℕ) → Near c k → (allow deny : List ℕ) → capped (total g c allow deny) ≡ capped (total g k allow deny)
total_near g c k near allow deny =
    capped_both (until Granted Allow g c allow) (rest c) (until Granted Allow g k allow) (rest k)
    (until_near (λ l. is_some (line_answer Granted Allow g l)) (line_count c) (line_count k) (line_near c k near) (lines allow))
    (by (is_some (first (line_answer Granted Allow g) (lines allow))))
  where
    rest : (Rule → ℕ) → ℕ
    rest c = when is_some (first (line_answer Granted Allow g) (lines allow)) then 0 else until Denied Deny g c deny

    by : (b : Bool) → capped (when b then 0 else until Denied Deny g c deny) ≡ capped (when b then 0 else until Denied Deny g k deny)
    by true = refl
    by false = until_near (λ l. is_some (line_answer Denied Deny g l)) (line_count c) (line_count k) (line_near c k near) (lines deny)
