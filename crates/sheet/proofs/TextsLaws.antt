-- Laws of the checks of five texts, shaped as the calls and tests of the code hand their facts over.
--   tables_limit, tables_named == what the checks of the tables tell of an accepted section five
-- Assumes nothing.
use Rattle.std.specs.Prelude.{Err, None, Ok, Option, Result, Some, ⊤}
use Prim.Native.Nat.{ℕ, ◌≤◌}
use native.Mathlib.Omega.{arith}
use mathlib.Core.Bool.{Bool, true, false, not, ◌||◌, true≢false}
use mathlib.Core.List.{List, []}
use mathlib.Core.Path.{◌≡◌, refl, sym, ap, ◌∙◌}
use borrow.Author.Tests.{ltb-false}
use lib.ListN.{length}
use lib.Dec.{ltb}
use Rattle.text.specs.Basics.{◌>>=◌, ◌or_else◌, given, is_some}
use Rattle.section.specs.declared.Fault.TheVariants as F
use Rattle.section.specs.declared.Refusal.{Refusal}
use Rattle.section.specs.Refusal.{refusal, placeless, checked_of}
use Rattle.section.specs.Section as S
use Rattle.section.specs.Section.{over_limit}
use Rattle.tables.specs.declared.entry.FrameFault.{FrameFault}
use Rattle.tables.specs.declared.entry.FrameFault.TheVariants as FrameFault
use Rattle.tables.specs.Table.{read_tables, tables_of, tables_frame, first_table, table_name_fault, is_unsound, bad_table_fault}
use Rattle.tables.specs.Code.{tables_in, frame_of}
use Rattle.tables.proofs.TableLaws.{tables_in_of, frame_sound, frame_cut, frame_trailing, frame_none}
use Rattle.rules.specs.declared.Answer.{Answer}
use Rattle.rules.specs.Check.{hosts_fault, missing_fault, depth_fault, tables_fault}
use Rattle.rules.specs.Code.{lines_fault, contents_fault as rulesFault}
use Rattle.rules.specs.FileCode.{pass_of}
use Rattle.byuid.specs.Byuid.{byuid_fault}
use Rattle.portacl.specs.Portacl.{portacl_fault}
use Rattle.sheet.specs.Sheet.{texts, texts_fault}
use Rattle.sheet.specs.Code.{checked_by, limits_fault, contents_fault}

-- ## Limits

module _ (a d b p : List ℕ) (x : Bool) (is_x : x ≡ ltb (S.allow).limit (length a)) where
  pub over_allow : x ≡ true → (g : Refusal) → g ≡ refusal F.OverLimit (S.allow).order 0 → Err g ≡ checked_of (limits_fault a d b p)
  unfolding limits_fault
  over_allow e g is-g = rw (← is_x, e, is-g)

  module _ (e : x ≡ false) (y : Bool) (is_y : y ≡ ltb (S.deny).limit (length d)) where
    pub over_deny : y ≡ true → (g : Refusal) → g ≡ refusal F.OverLimit (S.deny).order 0 → Err g ≡ checked_of (limits_fault a d b p)
    unfolding limits_fault
    over_deny f g is-g = rw (← is_x, e, ← is_y, f, is-g)

    module _ (f : y ≡ false) (z : Bool) (is-z : z ≡ ltb (S.byuid).limit (length b)) where
      pub over_byuid : z ≡ true → (g : Refusal) → g ≡ refusal F.OverLimit (S.byuid).order 0 → Err g ≡ checked_of (limits_fault a d b p)
      unfolding limits_fault
      over_byuid h g is-g = rw (← is_x, e, ← is_y, f, ← is-z, h, is-g)

      module _ (h : z ≡ false) (w : Bool) (is-w : w ≡ ltb (S.portacl).limit (length p)) where
        pub over_portacl : w ≡ true → (g : Refusal) → g ≡ refusal F.OverLimit (S.portacl).order 0 → Err g ≡ checked_of (limits_fault a d b p)
        unfolding limits_fault
        over_portacl k g is-g = rw (← is_x, e, ← is_y, f, ← is-z, h, ← is-w, k, is-g)

        pub within_limits : w ≡ false → Ok tt ≡ checked_of (limits_fault a d b p)
        unfolding limits_fault
        within_limits k = rw (← is_x, e, ← is_y, f, ← is-z, h, ← is-w, k)

-- ## The frame of the tables

module _ (t : List ℕ) (f : Result ⊤ FrameFault) (is_f : f ≡ frame_of (read_tables t)) where
  pub tables_framed : f ≡ (Ok tt) → Ok tt ≡ checked_of (tables_frame t)
  tables_framed e = rw (frame_sound t f is_f e)

  pub tables_cut_short : f ≡ Err FrameFault.Cut → (g : Refusal) → g ≡ refusal F.CutShort (S.tables).order 0 → Err g ≡ checked_of (tables_frame t)
  tables_cut_short e g is-g = rw (frame_cut t f is_f e, is-g)

  pub tables_trailing : f ≡ Err FrameFault.Trailing → (g : Refusal) → g ≡ placeless F.TrailingBytes → Err g ≡ checked_of (tables_frame t)
  tables_trailing e g is-g = rw (frame_trailing t f is_f e, is-g)

-- the tables that the code reads are those of a sound frame
pub tables_read_lem : (t : List ℕ) → tables_frame t ≡ None → tables_in t ≡ tables_of t
tables_read_lem t e = tables_in_of t (frame_none t e)

-- ## Contents

pub checked_sound : (o : Option Refusal) → checked_of o ≡ Ok tt → o ≡ None
checked_sound None e = refl
checked_sound (Some g) e = let z : ◌≡◌ {A = ℕ} 0 1 = cc in absurd (omega arith)

pub checked_refused : (o : Option Refusal) (g : Refusal) → checked_of o ≡ Err g → o ≡ Some g
checked_refused None g e = let z : ◌≡◌ {A = ℕ} 0 1 = cc in absurd (omega arith)
checked_refused (Some h) g e = cc

module _ (p : Result (Option Answer) Refusal) where
  pub by_faulty : (g : Refusal) → p ≡ Err g → Err g ≡ checked_by p
  by_faulty g e = rw e

  pub by_unmatched : p ≡ Ok None → Ok tt ≡ checked_by p
  by_unmatched e = rw e

  pub by_matched : (a : Answer) → p ≡ Ok (Some a) → Ok tt ≡ checked_by p
  by_matched a e = rw e

-- a pass that looked for nothing, as a check
pass_checked : (o : Option Refusal) (p : Result (Option Answer) Refusal) → p ≡ pass_of o None → (x : Result ⊤ Refusal) → x ≡ checked_by p → x ≡ checked_of o
pass_checked o p is-p x is_x = is_x ∙ ap checked_by is-p ∙ by o
  where
    by : (o : Option Refusal) → checked_by (pass_of o None) ≡ checked_of o
    by None = refl
    by (Some g) = refl

module _ (a d : List ℕ) (q : Result (Option Answer) Refusal) (is-q : q ≡ pass_of (lines_fault a d) None) (x : Result ⊤ Refusal) (is_x : x ≡ checked_by q) where
  lines_checked : x ≡ checked_of (lines_fault a d)
  lines_checked = pass_checked (lines_fault a d) q is-q x is_x

  pub lines_sound : x ≡ Ok tt → lines_fault a d ≡ None
  lines_sound e = checked_sound (lines_fault a d) (sym lines_checked ∙ e)

  module _ (b p t : List ℕ) where
    pub contents_lines : (g : Refusal) → x ≡ Err g → Err g ≡ checked_of (contents_fault a d b p t)
    unfolding contents_fault
    contents_lines g e = rw (checked_refused (lines_fault a d) g (sym lines_checked ∙ e))

    module _ (e : x ≡ Ok tt) (y : Result ⊤ Refusal) (is_y : y ≡ checked_of (portacl_fault p)) where
      pub contents_portacl : (g : Refusal) → y ≡ Err g → Err g ≡ checked_of (contents_fault a d b p t)
      unfolding contents_fault
      contents_portacl g f = rw (lines_sound e, checked_refused (portacl_fault p) g (sym is_y ∙ f))

      module _ (f : y ≡ Ok tt) (r : Result (Option Answer) Refusal) (is-r : r ≡ pass_of (tables_fault a d t) None) (z : Result ⊤ Refusal) (is-z : z ≡ checked_by r) where
        naming_checked : z ≡ checked_of (tables_fault a d t)
        naming_checked = pass_checked (tables_fault a d t) r is-r z is-z

        pub contents_naming : (g : Refusal) → z ≡ Err g → Err g ≡ checked_of (contents_fault a d b p t)
        unfolding contents_fault
        contents_naming g h =
            rw (lines_sound e, checked_sound (portacl_fault p) (sym is_y ∙ f), checked_refused (tables_fault a d t) g (sym naming_checked ∙ h))

        pub contents_byuid : z ≡ Ok tt → (v : Result ⊤ Refusal) → v ≡ checked_of (byuid_fault b) → v ≡ checked_of (contents_fault a d b p t)
        unfolding contents_fault
        contents_byuid h v is_v =
            rw (lines_sound e, checked_sound (portacl_fault p) (sym is_y ∙ f), checked_sound (tables_fault a d t) (sym naming_checked ∙ h)) is_v

-- rules that are sound leave the texts of the port decisions
ports_left : (o p q b : Option Refusal) → not (is_some (o or_else q)) ≡ true → (o or_else p or_else q or_else b) ≡ (p or_else b)
ports_left None None None b h = refl
ports_left None (Some g) None b h = refl
ports_left None p (Some f) b h = absurd (true≢false (sym h))
ports_left (Some f) p q b h = absurd (true≢false (sym h))

module _ (b p : List ℕ) where
  module _ (y : Result ⊤ Refusal) (is_y : y ≡ checked_of (portacl_fault p)) where
    pub ports_portacl : (g : Refusal) → y ≡ Err g → Err g ≡ checked_of (portacl_fault p or_else byuid_fault b)
    ports_portacl g f = rw (checked_refused (portacl_fault p) g (sym is_y ∙ f))

    pub ports_byuid : y ≡ Ok tt → (v : Result ⊤ Refusal) → v ≡ checked_of (byuid_fault b) → v ≡ checked_of (portacl_fault p or_else byuid_fault b)
    ports_byuid f v is_v = rw (checked_sound (portacl_fault p) (sym is_y ∙ f)) is_v

  pub contents_ports : (a d t : List ℕ) (x : Bool) → x ≡ not (is_some (rulesFault a d t)) → x ≡ true
      → (v : Result ⊤ Refusal) → v ≡ checked_of (portacl_fault p or_else byuid_fault b) → v ≡ checked_of (contents_fault a d b p t)
  unfolding contents_fault rulesFault
  contents_ports a d t x is_x e v is_v =
      is_v ∙ ap checked_of (sym (ports_left (lines_fault a d) (portacl_fault p) (tables_fault a d t) (byuid_fault b) (sym is_x ∙ e)))

-- ## All

or_else_parts : (a b c d e f g h i j : Option Refusal) → (a or_else b or_else c or_else d or_else e or_else f or_else g or_else h or_else i or_else j)
    ≡ (a or_else b or_else c or_else d) or_else (e or_else (f or_else g or_else h or_else i or_else j))
or_else_parts (Some x) b c d e f g h i j = refl
or_else_parts None (Some x) c d e f g h i j = refl
or_else_parts None None (Some x) d e f g h i j = refl
or_else_parts None None None (Some x) e f g h i j = refl
or_else_parts None None None None (Some x) f g h i j = refl
or_else_parts None None None None None f g h i j = refl

pub texts_fault_parts : (a d b p t : List ℕ)
    → texts_fault (texts a d b p t) ≡ limits_fault a d b p or_else (tables_frame t or_else contents_fault a d b p t)
unfolding texts_fault limits_fault contents_fault lines_fault
texts_fault_parts a d b p t =
    or_else_parts (over_limit S.allow a) (over_limit S.deny d) (over_limit S.byuid b) (over_limit S.portacl p) (tables_frame t) (hosts_fault S.allow a)
    (hosts_fault S.deny d) (portacl_fault p) (tables_fault a d t) (byuid_fault b)

module _ (a d b p t : List ℕ) (x : Result ⊤ Refusal) (is_x : x ≡ checked_of (limits_fault a d b p)) where
  pub texts_limits : (g : Refusal) → x ≡ Err g → Err g ≡ checked_of (texts_fault (texts a d b p t))
  texts_limits g e = rw (texts_fault_parts a d b p t, checked_refused (limits_fault a d b p) g (sym is_x ∙ e))

  module _ (e : x ≡ Ok tt) (y : Result ⊤ Refusal) (is_y : y ≡ checked_of (tables_frame t)) where
    pub texts_frame : (g : Refusal) → y ≡ Err g → Err g ≡ checked_of (texts_fault (texts a d b p t))
    texts_frame g f =
        rw (texts_fault_parts a d b p t, checked_sound (limits_fault a d b p) (sym is_x ∙ e), checked_refused (tables_frame t) g (sym is_y ∙ f))

    pub texts_contents : y ≡ Ok tt → (z : Result ⊤ Refusal) → z ≡ checked_of (contents_fault a d b p t) → z ≡ checked_of (texts_fault (texts a d b p t))
    texts_contents f z is-z =
        rw (texts_fault_parts a d b p t, checked_sound (limits_fault a d b p) (sym is_x ∙ e), checked_sound (tables_frame t) (sym is_y ∙ f)) is-z

-- what check_contents asks for
pub frame_checked : (t : List ℕ) (y : Result ⊤ Refusal) → y ≡ checked_of (tables_frame t) → y ≡ Ok tt → tables_frame t ≡ None
frame_checked t y is_y f = checked_sound (tables_frame t) (sym is_y ∙ f)

-- ## Accepted tables

pub or_else_none : (o u : Option Refusal) → o or_else u ≡ None → (o ≡ None) × (u ≡ None)
or_else_none None u e = (refl, e)
or_else_none (Some a) u e = (cc, cc)

-- 17 is the last of the faults of the tables
pub tables_named : (a d t : List ℕ) → tables_fault a d t ≡ None → bad_table_fault t ≡ None
unfolding tables_fault
tables_named a d t e =
    let ts = tables_of t in
    (or_else_none
    (missing_fault ts S.allow a or_else missing_fault ts S.deny d or_else table_name_fault ts or_else depth_fault ts S.allow a or_else depth_fault ts S.deny d)
    (bad_table_fault t)
    e).1

-- "the whole section at most 12,288 bytes"
pub tables_limit : (t : List ℕ) → bad_table_fault t ≡ None → length t ≤ (S.tables).limit
unfolding bad_table_fault
tables_limit t e =
    ltb-false (S.tables).limit (length t)
    (by (ltb 64 (length (tables_of t))) (ltb (S.tables).limit (length t)) (first_table (λ before x. is_unsound x) 1 [] (tables_of t)) e)
  where
    by : (b c : Bool) (o : Option ℕ) → ((given (b || c) 0 or_else o) >>= λ n. Some (refusal F.BadTable (S.tables).order n)) ≡ None → c ≡ false
    by true c o f = let z : ◌≡◌ {A = ℕ} 0 1 = cc in absurd (omega arith)
    by false true o f = let z : ◌≡◌ {A = ℕ} 0 1 = cc in absurd (omega arith)
    by false false o f = refl
