-- The checks in the papers' order, each by a pass with the notes that it needs.
-- Assumes nothing.
use Rattle.std.specs.Prelude.{Err, None, Ok, Option, Result, Some}
use Prim.Native.Nat.{ℕ}
use native.Mathlib.Omega.{arith}
use mathlib.Core.Bool.{Bool, true, false, not, ◌||◌}
use mathlib.Core.List.{List, [], ◌∷◌}
use mathlib.Core.Path.{◌≡◌, refl, sym, ap, ap₂, ◌∙◌}
use lib.Dec.{eqb, ltb}
use lib.ListN.{length}
use borrow.Author.Tests.{eq-eqb, ne_eqb}
use Rattle.text.specs.Basics.{when◌then◌else◌, ◌>>=◌, ◌or_else◌, given}
use Rattle.section.specs.declared.Fault.TheVariants as F
use Rattle.section.specs.declared.Refusal.{Refusal}
use Rattle.section.specs.Refusal.{refusal}
use Rattle.section.specs.Section as S
use Rattle.tables.specs.declared.check.TablesCheck.{TablesCheck}
use Rattle.tables.specs.Table.{Table, tables_of, is_missing, leads_past, table_name_fault, bad_table_fault}
use Rattle.tables.specs.Code.{tables_in, tables_checked}
use Rattle.tables.proofs.TableLaws.{names_none, names_some, bad_told}
use Rattle.views.specs.declared.NamingFault.{NamingFault}
use Rattle.views.specs.declared.NamingFault.TheVariants as NamingFault
use Rattle.views.specs.View.{naming_of, Deep}
use Rattle.views.proofs.NamesLaws.{other_place}
use Rattle.views.proofs.ViewLaws.{closed, naming_right, names_only, unjudged}
use Rattle.elements.specs.Code.{View, view_of}
use Rattle.lists.specs.Code.{missing_by, deep_by, is_missing_name, is_deep_name}
use Rattle.rules.specs.declared.Answer.{Answer}
use Rattle.rules.specs.Check.{hosts_fault, naming_fault, missing_fault, depth_fault, tables_fault}
use Rattle.rules.specs.FileCode.{hosts_fault_at, pass_of, combined}
use Rattle.rules.specs.Code.{lines_fault, lines_fault_by, contents_fault, missing_both, depth_both, bad_table_by, from_depth, from_tables, Named}
use Rattle.rules.proofs.NamingLaws.{or_else_assoc, or_else_nones, naming_same, judged_plain, judged_missing, judged_deep}
use Rattle.rules.proofs.SearchLaws.{missing_of, noted_deep_of}

-- ## Two checks, one after the other

passes : (a b : Option Refusal) → combined (pass_of a None) (pass_of b None) ≡ pass_of (a or_else b) None
passes None b = refl
passes (Some f) b = refl

module _ (a b : Option Refusal) (p q s : Result (Option Answer) Refusal) (is-p : p ≡ pass_of a None) (is-q : q ≡ pass_of b None) (is-s : s ≡ combined p q) where
  both : s ≡ pass_of (a or_else b) None
  both = is-s ∙ ap₂ combined is-p is-q ∙ passes a b

pub both_lines : (v : View) (allow deny : List ℕ) (p q : Result (Option Answer) Refusal) → p ≡ pass_of (hosts_fault_at 1 v allow) None → q ≡ pass_of (hosts_fault_at 2 v deny) None
    → (s : Result (Option Answer) Refusal) → s ≡ combined p q → s ≡ pass_of (lines_fault_by v allow deny) None
unfolding lines_fault_by
both_lines v allow deny p q is-p is-q s is-s = both (hosts_fault_at 1 v allow) (hosts_fault_at 2 v deny) p q s is-p is-q is-s

-- what a check answers by its fault
module _ (o : Option Refusal) (p : Result (Option Answer) Refusal) (is-p : p ≡ pass_of o None) where
  pub check_clean : p ≡ (Ok None) → o ≡ None
  check_clean e = by o (sym is-p ∙ e)
    where
      by : (o : Option Refusal) → pass_of o None ≡ (Ok None) → o ≡ None
      by None k = refl
      by (Some f) k = let z : ◌≡◌ {A = ℕ} 0 1 = cc in absurd (omega arith)

  pub check_faulty : (g : Refusal) → p ≡ Err g → (q : Option Refusal) → Err g ≡ pass_of (o or_else q) None
  check_faulty g e q = by o (sym is-p ∙ e)
    where
      by : (o : Option Refusal) → pass_of o None ≡ Err g → Err g ≡ pass_of (o or_else q) None
      by None k = let z : ◌≡◌ {A = ℕ} 0 1 = cc in absurd (omega arith)
      by (Some f) k = sym k

  pub check_never : (a : Answer) → p ≡ Ok (Some a) → ⊥
  check_never a e = by o (sym is-p ∙ e)
    where
      by : (o : Option Refusal) → pass_of o None ≡ Ok (Some a) → ⊥
      by None k = let z : ◌≡◌ {A = ℕ} 0 1 = cc in omega arith
      by (Some f) k = let z : ◌≡◌ {A = ℕ} 0 1 = cc in omega arith

-- ## The lines alone

pub lines_plain : (x allow deny : List ℕ) (p : Result (Option Answer) Refusal) → p ≡ pass_of (lines_fault_by (view_of x []) allow deny) None → p ≡ pass_of (lines_fault allow deny) None
unfolding lines_fault_by lines_fault
lines_plain x allow deny p is-p =
    is-p ∙ ap₂ (λ (a b : Option Refusal). pass_of (a or_else b) None) (text S.allow allow) (text S.deny deny)
  where
    text : (s : S.Section) (t : List ℕ) → hosts_fault_at s.order (view_of x []) t ≡ hosts_fault s t
    text s t = judged_plain s (view_of x []) t (λ n. ap is_deep_name (unjudged x n)) (λ n. ap is_missing_name (unjudged x n))

-- ## Names that are missing

module _ (allow deny t : List ℕ) (sound : lines_fault allow deny ≡ None) where
  lines_sound : (hosts_fault S.allow allow ≡ None) × (hosts_fault S.deny deny ≡ None)
  unfolding lines_fault
  lines_sound = or_else_nones (hosts_fault S.allow allow) (hosts_fault S.deny deny) sound

  module _ (whole : tables_in t ≡ tables_of t) where
    abbrev names : View
    names = view_of t (0 ∷ 0 ∷ [])

    shallow : (n : List ℕ) → deep_by names n ≡ false
    shallow n = ap is_deep_name (names_only t n) ∙ by (is_missing (tables_in t) n)
      where
        by : (b : Bool) → is_deep_name (when b then Err NamingFault.Missing else Ok tt) ≡ false
        by true = refl
        by false = refl

    missing : (n : List ℕ) → missing_by names n ≡ is_missing (tables_of t) n
    missing n = missing_of t (0 ∷ 0 ∷ []) n (other_place t (0 ∷ 0 ∷ []) n (λ e. omega arith)) (λ e. omega arith) ∙ ap (λ (y : List Table). is_missing y n) whole

    lines_missing : lines_fault_by names allow deny ≡ missing_both (tables_of t) allow deny
    unfolding lines_fault_by missing_both
    lines_missing = ap₂ ◌or_else◌
        (judged_missing S.allow names allow shallow lines_sound.0 ∙ naming_same F.TableName (missing_by names) S.allow allow (is_missing (tables_of t)) missing)
        (judged_missing S.deny names deny shallow lines_sound.1 ∙ naming_same F.TableName (missing_by names) S.deny deny (is_missing (tables_of t)) missing)

    module _ (p : Result (Option Answer) Refusal) (is-p : p ≡ pass_of (lines_fault_by names allow deny) None) where
      missing_pass : p ≡ pass_of (missing_both (tables_of t) allow deny) None
      missing_pass = is-p ∙ ap (λ (o : Option Refusal). pass_of o None) lines_missing

      split : tables_fault allow deny t ≡ (missing_both (tables_of t) allow deny or_else from_tables allow deny t)
      unfolding tables_fault missing_both from_tables depth_both
      split =
          let a : Option Refusal = missing_fault (tables_of t) S.allow allow or_else missing_fault (tables_of t) S.deny deny in
          let c : Option Refusal = table_name_fault (tables_of t) in
          let d : Option Refusal = depth_fault (tables_of t) S.allow allow in
          let e : Option Refusal = depth_fault (tables_of t) S.deny deny in
          ap (λ (o : Option Refusal). o or_else bad_table_fault t) (or_else_assoc (a or_else c) d e)
          ∙ or_else_assoc (a or_else c) (d or_else e) (bad_table_fault t) ∙ or_else_assoc a c (d or_else e or_else bad_table_fault t)

      pub naming_faulty : (g : Refusal) → p ≡ Err g → Err g ≡ pass_of (tables_fault allow deny t) None
      naming_faulty g e = rw split (check_faulty (missing_both (tables_of t) allow deny) p missing_pass g e (from_tables allow deny t))

      pub naming_named : p ≡ (Ok None) → Named allow deny t
      naming_named e = record {
        named_whole = whole;
        named_lines = sound;
        named_missing = check_clean (missing_both (tables_of t) allow deny) p missing_pass e;
      }

      pub naming_rest : p ≡ (Ok None) → (q : Result (Option Answer) Refusal) → q ≡ pass_of (from_tables allow deny t) None → q ≡ pass_of (tables_fault allow deny t) None
      naming_rest e q is-q = is-q ∙ sym (rw (split, check_clean (missing_both (tables_of t) allow deny) p missing_pass e))

      pub naming_never : (a : Answer) → p ≡ Ok (Some a) → Ok None ≡ pass_of (tables_fault allow deny t) None
      naming_never a e = absurd (check_never (missing_both (tables_of t) allow deny) p missing_pass a e)

-- ## From the tables on

module _ (allow deny t : List ℕ) (named : Named allow deny t) where
  module _ (c : TablesCheck) (is_c : c ≡ tables_checked (tables_in t)) where
    told : tables_checked (tables_of t) ≡ c
    told = ap tables_checked (sym named.named_whole) ∙ sym is_c

    pub named_sound : c.misnamed ≡ 0 → table_name_fault (tables_of t) ≡ None
    named_sound e = names_none (tables_of t) c.misnamed (sym (ap (λ (x : TablesCheck). x.misnamed) told)) e

    pub named_misnamed : (c.misnamed ≡ 0 → ⊥) → (g : Refusal) → g ≡ refusal F.TableName 5 c.misnamed
        → Err g ≡ pass_of (from_tables allow deny t) None
    unfolding from_tables
    named_misnamed e g is-g = rw (names_some (tables_of t) c.misnamed (sym (ap (λ (x : TablesCheck). x.misnamed) told)) e, is-g)

    bad_same : bad_table_by t c.unsound ≡ bad_table_fault t
    unfolding bad_table_by
    bad_same = sym (bad_told t ∙ rw (told, ← named.named_whole))

    pub named_depth : c.misnamed ≡ 0 → (q : Result (Option Answer) Refusal) → q ≡ pass_of (from_depth allow deny t c.unsound) None → q ≡ pass_of (from_tables allow deny t) None
    unfolding from_tables from_depth
    named_depth e q is-q = is-q ∙ sym (rw (named_sound e, ← bad_same))

  module _ (closing : table_name_fault (tables_of t) ≡ None) (notes : List ℕ) (full : length notes ≡ 1026) (deep : Deep (tables_in t) 4 notes) where
    abbrev v : View
    v = view_of t notes

    filled : length notes ≡ 0 → ⊥
    filled e = omega arith

    many : length notes ≡ 259 → ⊥
    many e = omega arith

    missing_v : (n : List ℕ) → missing_by v n ≡ is_missing (tables_of t) n
    missing_v n = missing_of t notes n (other_place t notes n many) filled ∙ ap (λ (y : List Table). is_missing y n) named.named_whole

    deep_v : (n : List ℕ) → deep_by v n ≡ leads_past (tables_of t) 4 n
    deep_v n =
        ap is_deep_name (naming_right (tables_in t) (closed (tables_in t) (rw named.named_whole closing)) notes deep t n (other_place t notes n many) filled)
        ∙ noted_deep_of (tables_in t) n ∙ ap (λ (y : List Table). leads_past y 4 n) named.named_whole

    none_missing : (missing_fault (tables_of t) S.allow allow ≡ None) × (missing_fault (tables_of t) S.deny deny ≡ None)
    unfolding missing_both
    none_missing = or_else_nones (missing_fault (tables_of t) S.allow allow) (missing_fault (tables_of t) S.deny deny) named.named_missing

    depth_text : (s : S.Section) (u : List ℕ) → hosts_fault s u ≡ None → missing_fault (tables_of t) s u ≡ None
        → hosts_fault_at s.order v u ≡ depth_fault (tables_of t) s u
    depth_text s u plain none_named =
        judged_deep s v u plain (naming_same F.TableName (missing_by v) s u (is_missing (tables_of t)) missing_v ∙ none_named)
        ∙ naming_same F.TooDeep (deep_by v) s u (leads_past (tables_of t) 4) deep_v

    lines_deep : lines_fault_by v allow deny ≡ depth_both (tables_of t) allow deny
    unfolding lines_fault_by depth_both
    lines_deep =
        let sound : (hosts_fault S.allow allow ≡ None) × (hosts_fault S.deny deny ≡ None) = lines_sound allow deny t named.named_lines in
        ap₂ ◌or_else◌ (depth_text S.allow allow sound.0 none_missing.0) (depth_text S.deny deny sound.1 none_missing.1)

    pub depth_checked : (u : ℕ) (p : Result (Option Answer) Refusal) → p ≡ pass_of (lines_fault_by v allow deny) None → (q : Result (Option Answer) Refusal) → q ≡ pass_of (bad_table_by t u) None
        → (s : Result (Option Answer) Refusal) → s ≡ combined p q → s ≡ pass_of (from_depth allow deny t u) None
    unfolding from_depth
    depth_checked u p is-p q is-q s is-s =
        both (depth_both (tables_of t) allow deny) (bad_table_by t u) p q s (is-p ∙ ap (λ (o : Option Refusal). pass_of o None) lines_deep) is-q is-s

-- ## Limits and unsound tables

module _ (t : List ℕ) (u n : ℕ) (is-n : n ≡ length (tables_in t)) (y : Bool) (is_y : y ≡ ltb 12288 (length t)) where
  pub sound_limits : (ltb 64 n || y) ≡ true → (g : Refusal) → g ≡ refusal F.BadTable 5 0 → Err g ≡ pass_of (bad_table_by t u) None
  unfolding bad_table_by
  sound_limits e g is-g = rw (← is-n, ← is_y, e, is-g)

  module _ (e : (ltb 64 n || y) ≡ false) where
    pub sound_all : u ≡ 0 → Ok None ≡ pass_of (bad_table_by t u) None
    unfolding bad_table_by
    sound_all z = rw (← is-n, ← is_y, e, eq-eqb u 0 z)

    pub sound_unsound : (u ≡ 0 → ⊥) → (g : Refusal) → g ≡ refusal F.BadTable 5 u → Err g ≡ pass_of (bad_table_by t u) None
    unfolding bad_table_by
    sound_unsound z g is-g = rw (← is-n, ← is_y, e, ne_eqb u 0 z, is-g)

-- ## Section five by itself

module _ (t : List ℕ) (whole : tables_in t ≡ tables_of t) (c : TablesCheck) (is_c : c ≡ tables_checked (tables_in t)) where
  checked_of_lem : tables_checked (tables_of t) ≡ c
  checked_of_lem = ap tables_checked (sym whole) ∙ sym is_c

  pub five_misnamed : (c.misnamed ≡ 0 → ⊥) → (g : Refusal) → g ≡ refusal F.TableName 5 c.misnamed
      → Err g ≡ pass_of (table_name_fault (tables_of t) or_else bad_table_fault t) None
  five_misnamed e g is-g = rw (names_some (tables_of t) c.misnamed (sym (ap (λ (x : TablesCheck). x.misnamed) checked_of_lem)) e, is-g)

  pub five_named : c.misnamed ≡ 0 → (q : Result (Option Answer) Refusal) → q ≡ pass_of (bad_table_by t c.unsound) None
      → q ≡ pass_of (table_name_fault (tables_of t) or_else bad_table_fault t) None
  unfolding bad_table_by
  five_named e q is-q =
      is-q ∙ sym (rw (names_none (tables_of t) c.misnamed (sym (ap (λ (x : TablesCheck). x.misnamed) checked_of_lem)) e, bad_told t, checked_of_lem, ← whole))

-- ## The lines, then the tables

module _ (allow deny t : List ℕ) (p : Result (Option Answer) Refusal) (is-p : p ≡ pass_of (lines_fault allow deny) None) where
  pub contents_faulty : (g : Refusal) → p ≡ Err g → Err g ≡ pass_of (contents_fault allow deny t) None
  unfolding contents_fault
  contents_faulty g e = check_faulty (lines_fault allow deny) p is-p g e (tables_fault allow deny t)

  pub contents_sound : p ≡ (Ok None) → lines_fault allow deny ≡ None
  contents_sound e = check_clean (lines_fault allow deny) p is-p e

  pub contents_rest : p ≡ (Ok None) → (q : Result (Option Answer) Refusal) → q ≡ pass_of (tables_fault allow deny t) None → q ≡ pass_of (contents_fault allow deny t) None
  unfolding contents_fault
  contents_rest e q is-q = is-q ∙ sym (rw (contents_sound e))

  pub contents_never : (a : Answer) → p ≡ Ok (Some a) → Ok None ≡ pass_of (contents_fault allow deny t) None
  contents_never a e = absurd (check_never (lines_fault allow deny) p is-p a e)
