-- The portacl decision by a sheet: a list that gives a decision is sound, so the other texts alone are checked besides.
--   others_refused, others_sound == what the check of the other texts says of the sheet
-- Assumes nothing.
use Rattle.std.specs.Prelude.{Err, None, Ok, Option, Result, Some, ⊤}
use Prim.Native.Nat.{ℕ}
use native.Mathlib.Omega.{arith}
use mathlib.Core.Bool.{Bool, true, false}
use mathlib.Core.List.{List, []}
use mathlib.Core.Path.{◌≡◌, refl, sym, ap, ◌∙◌}
use lib.ListN.{length}
use lib.Dec.{ltb}
use Rattle.text.specs.Basics.{◌or_else◌}
use Rattle.section.specs.declared.Refusal.{Refusal}
use Rattle.section.specs.Refusal.{◌before◌, fitting, ◌>>=◌, checked_of}
use Rattle.section.specs.Section as S
use Rattle.section.specs.Section.{bytes_at, over_limit}
use Rattle.portacl.specs.declared.Decision.{Decision}
use Rattle.portacl.specs.declared.Settings.{Settings}
use Rattle.portacl.specs.Portacl.{Bind, entries, entry_fault, portacl_fault, portacl_decision, groups_fit, decide_portacl}
use Rattle.sheet.specs.declared.Parts.{Parts}
use Rattle.sheet.specs.Sheet.{Texts, texts, texts_at, texts_fault, frame, unpack}
use Rattle.sheet.proofs.TextsLaws.{checked_sound, checked_refused, or_else_none}
use Rattle.station.specs.Station.{decide_portacl_sheet}
use Rattle.station.specs.Code.{without_list}

-- what a decision says of its list
decided_sound : (t : List ℕ) (s : Settings) (o : Option Bind) (d : Decision) → decide_portacl t s o ≡ Ok d → (over_limit S.portacl t ≡ None)
    × (portacl_fault t ≡ None)
unfolding decide_portacl
decided_sound t s o d = by (over_limit S.portacl t) (portacl_fault t)
  where
    by : (a b : Option Refusal) → ((a or_else b) before fitting groups_fit o (λ b. Ok (portacl_decision t s b))) ≡ Ok d → (a ≡ None) × (b ≡ None)
    by None None e = (refl, refl)
    by None (Some g) e = let z : ◌≡◌ {A = ℕ} 0 1 = cc in absurd (omega arith)
    by (Some g) b e = let z : ◌≡◌ {A = ℕ} 0 1 = cc in absurd (omega arith)

-- an empty list has no fault
no_entries : portacl_fault [] ≡ None
unfolding portacl_fault entries entry_fault
no_entries = refl

-- the fault of texts whose list has none
same_fault : (a d b t f : List ℕ) → over_limit S.portacl t ≡ None → portacl_fault t ≡ None → texts_fault (texts a d b t f) ≡ texts_fault (texts a d b [] f)
unfolding texts_fault
same_fault a d b t f o e = rw (o, e, no_entries)

module _ (sheet : List ℕ) (p : Parts) (framed : frame sheet ≡ Ok p) (s : Settings) (o : Option Bind) (t : List ℕ) (is-t : t ≡ bytes_at sheet p.portacl)
    (y : Result Decision Refusal) (is_y : y ≡ decide_portacl t s o) (d : Decision) (e : y ≡ Ok d)
    (c : Result ⊤ Refusal) (is_c : c ≡ checked_of (texts_fault (without_list (texts_at sheet p)))) where
  decided : decide_portacl (bytes_at sheet p.portacl) s o ≡ Ok d
  decided = ap (λ (u : List ℕ). decide_portacl u s o) (sym is-t) ∙ sym is_y ∙ e

  others : texts_fault (texts_at sheet p) ≡ texts_fault (without_list (texts_at sheet p))
  others =
      let k = decided_sound (bytes_at sheet p.portacl) s o d decided in
      same_fault (bytes_at sheet p.allow) (bytes_at sheet p.deny) (bytes_at sheet p.byuid) (bytes_at sheet p.portacl) (bytes_at sheet p.tables) k.0
      k.1

  pub others_refused : (g : Refusal) → c ≡ Err g → Err g ≡ decide_portacl_sheet sheet s o
  unfolding decide_portacl_sheet unpack
  others_refused g h = rw (framed, others, checked_refused (texts_fault (without_list (texts_at sheet p))) g (sym is_c ∙ h))

  pub others_sound : c ≡ Ok tt → Ok d ≡ decide_portacl_sheet sheet s o
  unfolding decide_portacl_sheet unpack
  others_sound h = rw (framed, others, checked_sound (texts_fault (without_list (texts_at sheet p))) (sym is_c ∙ h), decided)

pub list_unframed : (sheet : List ℕ) (x : Result Parts Refusal) → x ≡ frame sheet → (s : Settings) (o : Option Bind) (g : Refusal) → x ≡ Err g
    → Err g ≡ decide_portacl_sheet sheet s o
unfolding decide_portacl_sheet unpack
list_unframed sheet x is_x s o g e = rw (sym is_x ∙ e)

pub others_checked : (sheet : List ℕ) (p : Parts) (a d b q t : List ℕ) → a ≡ bytes_at sheet p.allow → d ≡ bytes_at sheet p.deny
    → b ≡ bytes_at sheet p.byuid → q ≡ [] → t ≡ bytes_at sheet p.tables
    → (x : Result ⊤ Refusal) → x ≡ checked_of (texts_fault (texts a d b q t)) → x ≡ checked_of (texts_fault (without_list (texts_at sheet p)))
others_checked sheet p a d b q t is-a is_d is_b is-q is-t x is_x = is_x ∙ rw (is-a, is_d, is_b, is-q, is-t)
