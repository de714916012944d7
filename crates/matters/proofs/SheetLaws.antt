-- What the call by a sheet rests on: a sheet that gave an answer is sound, and its texts gave it.
-- Assumes nothing.
use Rattle.std.specs.Prelude.{Err, None, Ok, Option, Result, Some}
use Prim.Native.Nat.{ℕ}
use mathlib.Core.Bool.{Bool, true, false, not, true≢false}
use mathlib.Core.List.{List, []}
use mathlib.Core.Path.{◌≡◌, refl, sym, ap, subst, ◌∙◌}
use Rattle.text.specs.Basics.{when◌then◌else◌, ◌or_else◌}
use Rattle.section.specs.declared.Fault.TheVariants as F
use Rattle.section.specs.declared.Refusal.{Refusal}
use Rattle.section.specs.Refusal.{Outcome, placeless, ◌>>=◌, refusing}
use Rattle.section.specs.Section as S
use Rattle.section.specs.Section.{bytes_at, over_limit}
use Rattle.tables.specs.Table.{Table, tables_of, tables_frame, match_of}
use Rattle.tables.specs.Code.{tables_in}
use Rattle.tables.proofs.TableLaws.{tables_in_of, frame_none}
use Rattle.elements.specs.declared.request.Request.{Request as Places}
use Rattle.elements.specs.Request.{Request, well_formed, held}
use Rattle.elements.specs.Places.{request_at}
use Rattle.rules.specs.declared.Answer.{Answer}
use Rattle.rules.specs.declared.Reported.{Reported}
use Rattle.rules.specs.Check.{hosts_fault, tables_fault}
use Rattle.rules.specs.Search.{search, decide_over}
use Rattle.rules.specs.Looked.{reported}
use Rattle.rules.specs.Code.{lines_fault, contents_fault}
use Rattle.rules.proofs.NamingLaws.{or_else_nones}
use Rattle.byuid.specs.Byuid.{byuid_fault}
use Rattle.portacl.specs.Portacl.{portacl_fault}
use Rattle.sheet.specs.declared.Parts.{Parts}
use Rattle.sheet.specs.Sheet.{texts_at, texts_fault, frame, unpack}
use Rattle.station.specs.Station.{in_sheet, decide_sheet}
use Rattle.matters.specs.declared.Place.{Place}
use Rattle.matters.specs.Matters.{place_of, settled, matters_over, name_matters_sheet}
use Rattle.matters.specs.Code.{unfetched_at, unfetched, Unasked, refused_by}
use Rattle.matters.proofs.CallLaws.{fits_unfetched}

refused_answered : {A : Type 0} (g : Refusal) (a : A) → ◌≡◌ {A = Outcome A} (Err g) (Ok a) → ⊥
refused_answered g a e = true≢false (ap (λ (o : Outcome _). elim o [ Err f ↦ true | Ok b ↦ false ]) e)

answered_same : {A : Type 0} (a b : A) → ◌≡◌ {A = Outcome A} (Ok a) (Ok b) → a ≡ b
answered_same a b e = ap (λ (o : Outcome _). elim o [ Err f ↦ a | Ok c ↦ c ]) e

-- ## The calls of a verdict

module _ (o : Outcome Answer) (n : ℕ) where
  pub ruling_refused : (f : Refusal) → (reported o n).ruling ≡ Err f → o ≡ Err f
  ruling_refused f = by o
    where
      by : (o : Outcome Answer) → (reported o n).ruling ≡ Err f → o ≡ Err f
      by (Err g) e = ap Err (ap (λ (x : Result Answer Refusal). elim x [ Err h ↦ h | Ok a ↦ g ]) e)
      by (Ok a) e = absurd (true≢false (ap (λ (x : Result Answer Refusal). elim x [ Err h ↦ false | Ok b ↦ true ]) e))

  pub ruling_answered : (a : Answer) → (reported o n).ruling ≡ Ok a → o ≡ Ok a
  ruling_answered a = by o
    where
      by : (o : Outcome Answer) → (reported o n).ruling ≡ Ok a → o ≡ Ok a
      by (Err g) e = absurd (true≢false (ap (λ (x : Result Answer Refusal). elim x [ Err h ↦ true | Ok b ↦ false ]) e))
      by (Ok b) e = ap Ok (ap (λ (x : Result Answer Refusal). elim x [ Err h ↦ b | Ok c ↦ c ]) e)

-- ## By the parts of a sheet

module _ (sheet : List ℕ) (r : Request) where
  abbrev over : Parts → Request → Outcome Answer
  over p q = decide_over (tables_of (bytes_at sheet p.tables)) (bytes_at sheet p.allow) (bytes_at sheet p.deny) (Some q) >>= λ a. Ok (in_sheet p a)

  abbrev settles : Parts → Option Place
  settles p = settled (match_of (tables_of (bytes_at sheet p.tables))) (bytes_at sheet p.allow) (bytes_at sheet p.deny) (held r)

  abbrev told : Parts → Outcome (Option Place)
  told p = matters_over (tables_of (bytes_at sheet p.tables)) (bytes_at sheet p.allow) (bytes_at sheet p.deny) (Some r)

  unfit : well_formed r ≡ false → (n : ℕ) → refused_by (reported (decide_sheet sheet (Some r)) n).ruling ≡ name_matters_sheet sheet (Some r)
  unfolding decide_sheet name_matters_sheet
  unfit e n = by (unpack sheet)
    where
      by : (u : Outcome Parts) → refused_by (reported (u >>= λ p. over p r) n).ruling ≡ ((u >>= λ p. over p r) >>= λ a. u >>= told)
      by (Err g) = refl
      by (Ok p) = rw e

  module _ (fits : well_formed r ≡ true) where
    refuses : (f : Refusal) → decide_sheet sheet (Some (unfetched r)) ≡ Err f → Err f ≡ name_matters_sheet sheet (Some r)
    unfolding decide_sheet name_matters_sheet
    refuses f = by (unpack sheet)
      where
        by : (u : Outcome Parts) → (u >>= λ p. over p (unfetched r)) ≡ Err f → Err f ≡ ((u >>= λ p. over p r) >>= λ a. u >>= told)
        by (Err g) e = ap Err (sym (ap (λ (o : Outcome Answer). elim o [ Err h ↦ h | Ok a ↦ g ]) e))
        by (Ok p) e = absurd (refused_answered f
            (in_sheet p (search (match_of (tables_of (bytes_at sheet p.tables))) (bytes_at sheet p.allow) (bytes_at sheet p.deny) (held (unfetched r))))
            (sym e ∙ rw (fits_unfetched r fits)))

    module _ (a : Answer) (gives : decide_sheet sheet (Some (unfetched r)) ≡ Ok a) where
      refused_frame : (g : Refusal) → frame sheet ≡ Err g → ⊥
      unfolding decide_sheet unpack
      refused_frame g e = refused_answered g a (sym (rw e) ∙ gives)

      module _ (p : Parts) (framed : frame sheet ≡ Ok p) where
        by_fault : (o : Option Refusal) → texts_fault (texts_at sheet p) ≡ o → o ≡ None
        unfolding decide_sheet unpack
        by_fault None e = refl
        by_fault (Some g) e = absurd (refused_answered g a (sym (rw (framed, e)) ∙ gives))

        sound : texts_fault (texts_at sheet p) ≡ None
        sound = by_fault (texts_fault (texts_at sheet p)) refl

        unpacked : unpack sheet ≡ Ok p
        unfolding unpack
        unpacked = rw (framed, sound)

        gave : a ≡ in_sheet p (search (match_of (tables_of (bytes_at sheet p.tables))) (bytes_at sheet p.allow) (bytes_at sheet p.deny) (held (unfetched r)))
        unfolding decide_sheet
        gave = answered_same _ _ (sym gives ∙ rw (unpacked, fits_unfetched r fits))

        unasked : Unasked (match_of (tables_of (bytes_at sheet p.tables))) (bytes_at sheet p.allow) (bytes_at sheet p.deny) (held r) (place_of a)
        unfolding Unasked
        unasked = sym (ap place_of gave)

        tells : Ok (settles p) ≡ name_matters_sheet sheet (Some r)
        unfolding name_matters_sheet decide_sheet
        tells = rw (unpacked, fits)

        nones : (tables_frame (bytes_at sheet p.tables) ≡ None)
            × (contents_fault (bytes_at sheet p.allow) (bytes_at sheet p.deny) (bytes_at sheet p.tables) ≡ None)
        unfolding texts_fault contents_fault lines_fault
        nones =
            let al : List ℕ = bytes_at sheet p.allow in
            let de : List ℕ = bytes_at sheet p.deny in
            let by : List ℕ = bytes_at sheet p.byuid in
            let po : List ℕ = bytes_at sheet p.portacl in
            let ta : List ℕ = bytes_at sheet p.tables in
            let o4 : Option Refusal = over_limit S.allow al or_else over_limit S.deny de or_else over_limit S.byuid by or_else over_limit S.portacl po in
            let o5 : Option Refusal = o4 or_else tables_frame ta in
            let o6 : Option Refusal = o5 or_else hosts_fault S.allow al in
            let o7 : Option Refusal = o6 or_else hosts_fault S.deny de in
            let o8 : Option Refusal = o7 or_else portacl_fault po in
            let o9 : Option Refusal = o8 or_else tables_fault al de ta in
            let x = or_else_nones o8 (tables_fault al de ta) (or_else_nones o9 (byuid_fault by) sound).0 in
            let y = or_else_nones o7 (portacl_fault po) x.0 in
            let z = or_else_nones o6 (hosts_fault S.deny de) y.0 in
            let w = or_else_nones o5 (hosts_fault S.allow al) z.0 in
            let v = or_else_nones o4 (tables_frame ta) w.0 in
            (v.1, rw (w.1, z.1) x.1)

-- ## As the calls hand their facts over

module _ (sheet names : List ℕ) (q : Places) where
  abbrev own : Request
  own = request_at names q

  abbrev by_sheet_lem : Result (Option Place) Refusal
  by_sheet_lem = name_matters_sheet sheet (Some own)

  module _ (b : Bool) (is_b : b ≡ well_formed own) where
    pub sheet_unfit : not b ≡ true → (n : ℕ) (y : Reported) → y ≡ reported (decide_sheet sheet (Some own)) n → (x : Result (Option Place) Refusal) → x ≡ refused_by y.ruling
        → x ≡ by_sheet_lem
    sheet_unfit e n y is_y x is_x = is_x ∙ ap (λ (z : Reported). refused_by z.ruling) is_y ∙ unfit sheet own (sym is_b ∙ unfits b e) n
      where
        unfits : (b : Bool) → not b ≡ true → b ≡ false
        unfits true e = sym e
        unfits false e = refl

    pub sheet_fits : not b ≡ false → well_formed own ≡ true
    sheet_fits e = sym is_b ∙ by b e
      where
        by : (b : Bool) → not b ≡ false → b ≡ true
        by true e = refl
        by false e = sym e

    module _ (e : not b ≡ false) (u : Places) (is-u : u ≡ unfetched_at q) (n : ℕ) (y : Reported)
        (is_y : y ≡ reported (decide_sheet sheet (Some (request_at names u))) n) where
      pub sheet_refused : (f : Refusal) → y.ruling ≡ Err f → Err f ≡ by_sheet_lem
      unfolding unfetched_at
      sheet_refused f k = refuses sheet own (sheet_fits e) f
          (ruling_refused (decide_sheet sheet (Some (unfetched own))) n f
          (sym (ap (λ (z : Reported). z.ruling) (is_y ∙ ap (λ (p : Places). reported (decide_sheet sheet (Some (request_at names p))) n) is-u)) ∙ k))

      pub sheet_answered : (a : Answer) → y.ruling ≡ Ok a → decide_sheet sheet (Some (request_at names (unfetched_at q))) ≡ Ok a
      sheet_answered a k = ruling_answered (decide_sheet sheet (Some (request_at names (unfetched_at q)))) n a
          (sym (ap (λ (z : Reported). z.ruling) (is_y ∙ ap (λ (p : Places). reported (decide_sheet sheet (Some (request_at names p))) n) is-u)) ∙ k)

  module _ (fits : well_formed own ≡ true) (a : Answer) (gives : decide_sheet sheet (Some (request_at names (unfetched_at q))) ≡ Ok a) where
    given_unfetched : decide_sheet sheet (Some (unfetched own)) ≡ Ok a
    unfolding unfetched_at
    given_unfetched = gives

    module _ (x : Result Parts Refusal) (is_x : x ≡ frame sheet) where
      pub sheet_unframed : (g : Refusal) → x ≡ Err g → Err g ≡ by_sheet_lem
      sheet_unframed g e = absurd (refused_frame sheet own fits a given_unfetched g (sym is_x ∙ e))

      pub sheet_framed : (p : Parts) → x ≡ Ok p → frame sheet ≡ Ok p
      sheet_framed p e = sym is_x ∙ e

    module _ (p : Parts) (framed : frame sheet ≡ Ok p) (al : List ℕ) (is-al : al ≡ bytes_at sheet p.allow) (de : List ℕ)
        (is-de : de ≡ bytes_at sheet p.deny)
        (ta : List ℕ) (is-ta : ta ≡ bytes_at sheet p.tables) where
      pub parts_whole : tables_in ta ≡ tables_of ta
      parts_whole = rw is-ta (tables_in_of (bytes_at sheet p.tables)
          (frame_none (bytes_at sheet p.tables) (nones sheet own fits a given_unfetched p framed).0))

      pub parts_sound : contents_fault al de ta ≡ None
      parts_sound = rw (is-al, is-de, is-ta) (nones sheet own fits a given_unfetched p framed).1

      pub parts_unasked : Unasked (match_of (tables_of ta)) al de (held own) (place_of a)
      parts_unasked = rw (is-al, is-de, is-ta) (unasked sheet own fits a given_unfetched p framed)

      pub parts_settled : (x : Result (Option Place) Refusal) → x ≡ Ok (settled (match_of (tables_of ta)) al de (held own)) → x ≡ by_sheet_lem
      parts_settled x is_x = is_x ∙ rw (is-al, is-de, is-ta) (tells sheet own fits a given_unfetched p framed)
