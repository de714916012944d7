-- The list names just the bad lines.
--   lists_allow, lists_deny == a line of allow, of deny, is listed just where it is bad
-- Assumes nothing.
use Prim.Native.Nat.{ℕ}
use mathlib.Core.Bool.{Bool, true, false, ◌&&◌, ◌||◌, or-false}
use mathlib.Core.List.{List, [], ◌∷◌, ◌++◌, map}
use mathlib.Core.Path.{◌≡◌, refl, ap, ◌∙◌}
use lib.Dec.{eqb}
use Rattle.text.specs.Basics.{when◌then◌else◌, any}
use Rattle.text.specs.Text.{split}
use Rattle.text.proofs.Intercalate.{any_append}
use Rattle.section.specs.Section as S
use Rattle.section.specs.Section.{Section}
use Rattle.lines.specs.Line as Line
use Rattle.lines.specs.Line.{lines}
use Rattle.tables.specs.Table.{tables_of}
use Rattle.byuid.specs.Byuid.{is_retired}
use Rattle.sheet.specs.Sheet.{Texts}
use Rattle.salvage.specs.Salvage.{keep, places, bad_line, in_section, bad_lines, bad_entries, changes_by, changes}
use Rattle.salvage.specs.Listed.{lists}

module _ (k n : ℕ) where
  abbrev test : ℕ × ℕ → Bool
  test c = eqb c.0 k && eqb c.1 n

  other_section : (s : Section) → eqb s.order k ≡ false → (ns : List ℕ) → any test (in_section s ns) ≡ false
  unfolding any
  other_section s e [] = refl
  other_section s e (i ∷ ns) = rw e (other_section s e ns)

  own_section : (s : Section) → eqb s.order k ≡ true → (worse : Line.Line → Bool) (ls : List Line.Line)
      → any test (in_section s (map (λ (l : Line.Line). l.number) (keep worse ls))) ≡ any (λ l. worse l && eqb l.number n) ls
  unfolding any keep
  own_section s e worse [] = refl
  own_section s e worse (l ∷ ls) = by (worse l) (own_section s e worse ls)
    where
      by : (b : Bool) → any test (in_section s (map (λ (l : Line.Line). l.number) (keep worse ls))) ≡ any (λ l. worse l && eqb l.number n) ls
          → any test (in_section s (map (λ (l : Line.Line). l.number) (when b then l ∷ keep worse ls else keep worse ls)))
          ≡ (b && eqb l.number n || any (λ l. worse l && eqb l.number n) ls)
      by true ih = rw e (ap (λ (x : Bool). eqb l.number n || x) ih)
      by false ih = ih

-- of four sections, by each
module _ (ts : Texts) (k n : ℕ) where
  abbrev of_allow : List (ℕ × ℕ)
  of_allow = in_section S.allow (bad_lines (bad_line (tables_of ts.tables)) ts.allow)

  abbrev of_deny : List (ℕ × ℕ)
  of_deny = in_section S.deny (bad_lines (bad_line (tables_of ts.tables)) ts.deny)

  abbrev of_byuid : List (ℕ × ℕ)
  of_byuid = in_section S.byuid (places is_retired 1 (split "\n" ts.byuid))

  abbrev of_portacl : List (ℕ × ℕ)
  of_portacl = in_section S.portacl (bad_entries ts.portacl)

  in_turn_lem : lists (changes ts) k n ≡ (((any (test k n) of_allow || any (test k n) of_deny) || any (test k n) of_byuid) || any (test k n) of_portacl)
  unfolding lists changes_by
  in_turn_lem =
      any_append (test k n) (of_allow ++ of_deny ++ of_byuid) of_portacl
      ∙ ap (λ (b : Bool). b || any (test k n) of_portacl)
      (any_append (test k n) (of_allow ++ of_deny) of_byuid ∙ ap (λ (b : Bool). b || any (test k n) of_byuid) (any_append (test k n) of_allow of_deny))

pub lists_allow : (ts : Texts) (n : ℕ)
    → lists (changes ts) 1 n ≡ any (λ l. bad_line (tables_of ts.tables) l && eqb l.number n) (lines ts.allow)
lists_allow ts n =
    in_turn_lem ts 1 n
    ∙ rw (
      other_section 1 n S.deny refl (bad_lines (bad_line (tables_of ts.tables)) ts.deny),
      other_section 1 n S.byuid refl (places is_retired 1 (split "\n" ts.byuid)),
      other_section 1 n S.portacl refl (bad_entries ts.portacl),
      own_section 1 n S.allow refl (bad_line (tables_of ts.tables)) (lines ts.allow),
    )
    (or-false _ ∙ or-false _ ∙ or-false _)

pub lists_deny : (ts : Texts) (n : ℕ)
    → lists (changes ts) 2 n ≡ any (λ l. bad_line (tables_of ts.tables) l && eqb l.number n) (lines ts.deny)
lists_deny ts n =
    in_turn_lem ts 2 n
    ∙ rw (
      other_section 2 n S.allow refl (bad_lines (bad_line (tables_of ts.tables)) ts.allow),
      other_section 2 n S.byuid refl (places is_retired 1 (split "\n" ts.byuid)),
      other_section 2 n S.portacl refl (bad_entries ts.portacl),
      own_section 2 n S.deny refl (bad_line (tables_of ts.tables)) (lines ts.deny),
    )
    (or-false _ ∙ or-false _)
