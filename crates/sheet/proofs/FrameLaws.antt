-- Laws of the station sheet: what an accepted sheet is, and what packing and unpacking make of it.
--   SectionAt, Framed == what an answered section, and an answered frame, says of the sheet; each law has its converse
--   section_at_kept, section_at_cut == a section in the sheet cut after its end, and before it
--   limits_framed == the texts of a framed sheet are within their limits
--   framed_parts_of, texts_at_parts_of == the frame of the sheet of five texts, and the texts found by it
--   sheet_of_texts_at == the sheet of an accepted sheet's texts
-- Assumes nothing.
use Rattle.std.specs.Prelude.{Err, None, Ok, Option, Some}
use Prim.Native.Nat.{ℕ, zero, suc, ◌+◌, ◌-◌, ◌≤◌, ◌<◌, ◌^◌}
use native.Mathlib.Omega.{arith}
use mathlib.Core.Bool.{Bool, true, false}
use mathlib.Core.List.{List, [], ◌∷◌, ◌++◌, append_assoc}
use mathlib.Core.Path.{◌≡◌, refl, sym, ap, subst, ◌∙◌}
use lib.ListN.{length, take, drop, length-drop, length-append, take-append-drop}
use lib.Seq.{take-nil, take-take, take-length, length-take-le, take_at, drop_at, drop-drop, take-append_seam, drop-append_seam}
use lib.Dec.{ltb}
use borrow.Author.Tests.{ltb-false, le-ltb, lt-ltb}
use Rattle.text.specs.Basics.{when◌then◌else◌, ◌or_else◌, given, all}
use Rattle.text.specs.Number.{from_digits, to_digits}
use Rattle.text.proofs.BasicLaws.{all_take, all_drop}
use Rattle.text.proofs.ScanLaws.{take_rest}
use Rattle.text.proofs.Digits.{from_digits_to_digits, to_digits_from_digits, length_to_digits}
use Rattle.section.specs.declared.Fault.TheVariants as F
use Rattle.section.specs.declared.Part.{Part}
use Rattle.section.specs.declared.Refusal.{Refusal}
use Rattle.section.specs.Refusal.{Outcome, ◌>>=◌, refusal, placeless, refusing}
use Rattle.section.specs.Section as S
use Rattle.section.specs.Section.{bytes_at, Section, part, over_limit}
use Rattle.tables.specs.Table.{tables_frame}
use Rattle.sheet.specs.declared.Parts.{Parts}
use Rattle.sheet.specs.Sheet.{Texts, texts_at, texts_fault, section_at, part_end, rest_after, frame, unpack, counted, sheet_of, pack}
use Rattle.sheet.specs.Code.{limits_fault, contents_fault}
use Rattle.sheet.proofs.TextsLaws.{or_else_none, texts_fault_parts, tables_named, tables_limit}

-- ## Outcomes

module _ {A : Type 0} where
  pub if_answered : (b : Bool) (r : Refusal) (o : Outcome A) (a : A) → (when b then Err r else o) ≡ Ok a → (b ≡ false) × (o ≡ Ok a)
  if_answered true r o a e = (cc, cc)
  if_answered false r o a e = (refl, e)

  pub refusing_answered : (o : Option Refusal) (a b : A) → refusing o a ≡ Ok b → (o ≡ None) × (a ≡ b)
  refusing_answered None a b e = (refl, cc)
  refusing_answered (Some r) a b e = (cc, cc)

  pub bind_answered : {B : Type 0} (o : Outcome A) (f : A → Outcome B) (b : B) → (o >>= f) ≡ Ok b → (a : A) × (o ≡ Ok a) × (f a ≡ Ok b)
  bind_answered (Err r) f b e = let z : ◌≡◌ {A = ℕ} 0 1 = cc in absurd (omega arith)
  bind_answered (Ok a) f b e = (a, refl, e)

  pub given_none : (b : Bool) (a : A) → given b a ≡ None → b ≡ false
  given_none true a e = cc
  given_none false a e = refl

  pub answered_same : (a b : A) → ◌≡◌ {A = Outcome A} (Ok a) (Ok b) → a ≡ b
  answered_same a b e = cc

  pub append_five : (a b c d e : List A) → a ++ b ++ c ++ d ++ e ≡ a ++ (b ++ (c ++ (d ++ e)))
  append_five a b c d e = simp append_assoc

  pub take_drop_take : (n at k : ℕ) (l : List A) → at + n ≤ k → take n (drop at (take k l)) ≡ take n (drop at l)
  take_drop_take n zero k l h = take-take n k l (omega arith)
  take_drop_take n (suc at) k [] h = rw (take-nil k)
  take_drop_take n (suc at) zero (x ∷ l) h = absurd (omega arith)
  take_drop_take n (suc at) (suc k) (x ∷ l) h = take_drop_take n at k l (omega arith)

-- ## One section

-- the section s of a sheet, whose count stands at a place
pub record SectionAt (s : Section) (at : ℕ) (sheet : List ℕ) (p : Part) : Type 0 where
  pub place : p.place ≡ at + 4
  pub count : p.len ≡ from_digits 256 0 (take 4 (drop at sheet))
  pub limit : p.len ≤ s.limit
  pub within : at + 4 + p.len ≤ length sheet

pub section_at_answered : (s : Section) (at : ℕ) (sheet : List ℕ) (p : Part) → section_at s at sheet ≡ Ok p → SectionAt s at sheet p
unfolding section_at
section_at_answered s at sheet p e =
    let rest : List ℕ = drop at sheet in
    let n : ℕ = from_digits 256 0 (take 4 rest) in
    let a = if_answered (ltb (length rest) 4) _ _ p e in
    let b = if_answered (ltb s.limit n) _ _ p a.1 in
    let c = if_answered (ltb (length rest) (4 + n)) _ (Ok (part (at + 4) n)) p b.1 in
    let same : part (at + 4) n ≡ p = cc c.1 in
    record {
      place = sym (ap (λ q. q.place) same);
      count = sym (ap (λ q. q.len) same);
      limit = omega (arith, ap (λ q. q.len) same, ltb-false s.limit n b.0);
      within = omega (arith, ap (λ q. q.len) same, ltb-false (length rest) (4 + n) c.0, length-drop at sheet);
    }

module _ {s : Section} {at : ℕ} {sheet : List ℕ} {p : Part} (f : SectionAt s at sheet p) where
  pub answered_section_at : section_at s at sheet ≡ Ok p
  unfolding section_at
  answered_section_at =
      let h : 4 + p.len ≤ length (drop at sheet) = simp length-drop (omega arith) in
      rw (
        ← f.count,
        le-ltb (length (drop at sheet)) 4 (omega arith),
        le-ltb s.limit p.len f.limit,
        le-ltb (length (drop at sheet)) (4 + p.len) h,
        ← f.place,
      )

  -- in the sheet cut after the section's end, and before it
  module _ (k : ℕ) (short : k ≤ length sheet) where
    pub section_at_kept : part_end p ≤ k → SectionAt s at (take k sheet) p
    section_at_kept h = record {
      place = f.place;
      count = f.count ∙ ap (from_digits 256 0) (sym (take_drop_take 4 at k sheet (omega (arith, f.place))));
      limit = f.limit;
      within = rw (length-take-le k sheet short) (omega (arith, f.place));
    }

    pub section_at_cut : k < part_end p → section_at s at (take k sheet) ≡ Err (refusal F.CutShort s.order 0)
    unfolding section_at
    section_at_cut h = by (ltb (length (drop at (take k sheet))) 4) refl
      where
        by : (b : Bool) → ltb (length (drop at (take k sheet))) 4 ≡ b → section_at s at (take k sheet) ≡ Err (refusal F.CutShort s.order 0)
        by true e = rw e
        by false e =
            let cut : List ℕ = drop at (take k sheet) in
            let all : length cut ≡ k - at = length-drop at (take k sheet) ∙ ap (λ m. m - at) (length-take-le k sheet short) in
            let four : 4 ≤ length cut = ltb-false (length cut) 4 e in
            let same : from_digits 256 0 (take 4 cut) ≡ p.len = ap (from_digits 256 0) (take_drop_take 4 at k sheet (omega arith)) ∙ sym f.count in
            rw (e, same, le-ltb s.limit p.len f.limit, lt-ltb (length cut) (4 + p.len) (omega (arith, f.place)))

-- ## The frame

pub record Framed (sheet : List ℕ) (p : Parts) : Type 0 where
  pub allow : SectionAt S.allow 0 sheet p.allow
  pub deny : SectionAt S.deny (part_end p.allow) sheet p.deny
  pub byuid : SectionAt S.byuid (part_end p.deny) sheet p.byuid
  pub portacl : SectionAt S.portacl (part_end p.byuid) sheet p.portacl
  pub tables : p.tables ≡ rest_after sheet p.portacl

pub frame_answered : (sheet : List ℕ) (p : Parts) → frame sheet ≡ Ok p → Framed sheet p
unfolding frame
frame_answered sheet q e =
    let a = bind_answered (section_at S.allow 0 sheet) _ q e in
    let d = bind_answered (section_at S.deny (part_end a.0) sheet) _ q a.2 in
    let b = bind_answered (section_at S.byuid (part_end d.0) sheet) _ q d.2 in
    let p = bind_answered (section_at S.portacl (part_end b.0) sheet) _ q b.2 in
    subst (λ q. Framed sheet q) (answered_same _ q p.2)
    (record {
      allow = section_at_answered S.allow 0 sheet a.0 a.1;
      deny = section_at_answered S.deny (part_end a.0) sheet d.0 d.1;
      byuid = section_at_answered S.byuid (part_end d.0) sheet b.0 b.1;
      portacl = section_at_answered S.portacl (part_end b.0) sheet p.0 p.1;
      tables = refl;
    })

-- p with another part for the tables
abbrev pub with_tables : Parts → Part → Parts
with_tables p t = record { allow = p.allow; deny = p.deny; byuid = p.byuid; portacl = p.portacl; tables = t }

pub answered_frame : {sheet : List ℕ} {p : Parts} → Framed sheet p → frame sheet ≡ Ok p
unfolding frame
answered_frame {sheet} {p} f =
    rw (answered_section_at f.allow, answered_section_at f.deny, answered_section_at f.byuid, answered_section_at f.portacl)
    (ap (λ t. Ok (with_tables p t)) (sym f.tables))

module _ {sheet : List ℕ} {p : Parts} (f : Framed sheet p) where
  -- where the tables begin
  pub portacl_end : part_end p.portacl ≤ length sheet
  portacl_end = omega (arith, f.portacl.place, f.portacl.within)

  pub tables_rest : bytes_at sheet p.tables ≡ drop (part_end p.portacl) sheet
  tables_rest = ap (bytes_at sheet) f.tables ∙ take_rest sheet (part_end p.portacl)

  pub tables_length : length (bytes_at sheet p.tables) ≡ length sheet - part_end p.portacl
  tables_length = ap length tables_rest ∙ length-drop (part_end p.portacl) sheet

-- ## Texts in a sheet

-- a text with its count at a place of the sheet
module _ (at : ℕ) (sheet t rest : List ℕ) (here : drop at sheet ≡ counted t ++ rest) where
  after_count_lem : drop (at + 4) sheet ≡ t ++ rest
  after_count_lem =
      sym (drop-drop 4 at sheet) ∙ ap (drop 4) (here ∙ append_assoc (to_digits 256 4 (length t)) t rest)
      ∙ drop_at (to_digits 256 4 (length t)) (t ++ rest) 4 (length_to_digits 256 4 (length t))

  pub drop_counted : drop (at + 4 + length t) sheet ≡ rest
  drop_counted = sym (drop-drop (length t) (at + 4) sheet) ∙ ap (drop (length t)) after_count_lem ∙ drop-append_seam t rest

  pub bytes_at_counted : bytes_at sheet (part (at + 4) (length t)) ≡ t
  bytes_at_counted = ap (take (length t)) after_count_lem ∙ take-append_seam t rest

  pub section_at_counted : (s : Section) → length t ≤ s.limit → s.limit < 256 ^ 4 → SectionAt s at sheet (part (at + 4) (length t))
  section_at_counted s h fits =
      let digits : List ℕ = to_digits 256 4 (length t) in
      record {
        place = refl;
        count =
            sym
            (ap (λ (l : List ℕ). from_digits 256 0 (take 4 l)) (here ∙ append_assoc digits t rest)
            ∙ ap (from_digits 256 0) (take_at digits (t ++ rest) 4 (length_to_digits 256 4 (length t)))
            ∙ from_digits_to_digits 256 4 (length t) (omega arith) (omega arith));
        limit = h;
        within = omega (arith, length-drop at sheet, simp (length-append, length_to_digits) at (ap length here));
      }

pub length_bytes_at : {s : Section} {at : ℕ} {sheet : List ℕ} {p : Part} → SectionAt s at sheet p → length (bytes_at sheet p) ≡ p.len
length_bytes_at {sheet = sheet} {p} f = length-take-le p.len (drop p.place sheet) (rw length-drop (omega (arith, f.place, f.within)))

-- a section's bytes are its count and its text
module _ {s : Section} {at : ℕ} {sheet : List ℕ} {p : Part} (are-bytes : all (λ b. ltb b 256) sheet ≡ true) (f : SectionAt s at sheet p) where
  count_bytes_at : to_digits 256 4 (length (bytes_at sheet p)) ≡ take 4 (drop at sheet)
  count_bytes_at =
      let four : length (take 4 (drop at sheet)) ≡ 4 = length-take-le 4 (drop at sheet) (rw length-drop (omega (arith, f.within))) in
      let small = all_take (λ b. ltb b 256) 4 (drop at sheet) (all_drop (λ b. ltb b 256) at sheet are-bytes) in
      ap (to_digits 256 4) (length_bytes_at f ∙ f.count) ∙ (rw four at (to_digits_from_digits 256 0 (take 4 (drop at sheet)) small))

  after_bytes_at : bytes_at sheet p ++ drop (part_end p) sheet ≡ drop 4 (drop at sheet)
  after_bytes_at =
      rw (← (drop-drop p.len p.place sheet), take-append-drop p.len (drop p.place sheet), f.place, ← (drop-drop 4 at sheet))

  pub counted_bytes_at : drop at sheet ≡ counted (bytes_at sheet p) ++ drop (part_end p) sheet
  counted_bytes_at =
      rw (count_bytes_at, append_assoc (take 4 (drop at sheet)) (bytes_at sheet p) (drop (part_end p) sheet), after_bytes_at, take-append-drop 4 (drop at sheet))

-- ## Five texts

pub record WithinLimits (ts : Texts) : Type 0 where
  pub allow : length ts.allow ≤ (S.allow).limit
  pub deny : length ts.deny ≤ (S.deny).limit
  pub byuid : length ts.byuid ≤ (S.byuid).limit
  pub portacl : length ts.portacl ≤ (S.portacl).limit
  pub tables : length ts.tables ≤ (S.tables).limit

pub over_limit_none : (s : Section) (t : List ℕ) → over_limit s t ≡ None → length t ≤ s.limit
over_limit_none s t e = ltb-false s.limit (length t) (given_none _ _ e)

module _ (ts : Texts) (e : texts_fault ts ≡ None) where
  pub texts_fault_none : WithinLimits ts
  unfolding texts_fault
  texts_fault_none =
      let n = or_else_none _ _ (or_else_none _ _ e).0 in
      let h = or_else_none _ _ (or_else_none _ _ (or_else_none _ _ (or_else_none _ _ n.0).0).0).0 in
      let p = or_else_none _ _ h.0 in
      let b = or_else_none _ _ p.0 in
      let a = or_else_none _ _ b.0 in
      record {
        allow = over_limit_none S.allow ts.allow a.0;
        deny = over_limit_none S.deny ts.deny a.1;
        byuid = over_limit_none S.byuid ts.byuid b.1;
        portacl = over_limit_none S.portacl ts.portacl p.1;
        tables = tables_limit ts.tables (tables_named ts.allow ts.deny ts.tables n.1);
      }

  pub tables_frame_none : tables_frame ts.tables ≡ None
  tables_frame_none =
      let limits = limits_fault ts.allow ts.deny ts.byuid ts.portacl in
      let contents = contents_fault ts.allow ts.deny ts.byuid ts.portacl ts.tables in
      let parts = texts_fault_parts ts.allow ts.deny ts.byuid ts.portacl ts.tables in
      (or_else_none (tables_frame ts.tables) contents (or_else_none limits (tables_frame ts.tables or_else contents) (sym parts ∙ e)).1).0

-- the texts of a framed sheet are within their limits
pub limits_framed : {sheet : List ℕ} {p : Parts} → Framed sheet p
    → limits_fault (bytes_at sheet p.allow) (bytes_at sheet p.deny) (bytes_at sheet p.byuid) (bytes_at sheet p.portacl) ≡ None
unfolding limits_fault
limits_framed {sheet} {p} f =
    rw (
      le-ltb (S.allow).limit (length (bytes_at sheet p.allow)) (omega (arith, length_bytes_at f.allow, f.allow.limit)),
      le-ltb (S.deny).limit (length (bytes_at sheet p.deny)) (omega (arith, length_bytes_at f.deny, f.deny.limit)),
      le-ltb (S.byuid).limit (length (bytes_at sheet p.byuid)) (omega (arith, length_bytes_at f.byuid, f.byuid.limit)),
      le-ltb (S.portacl).limit (length (bytes_at sheet p.portacl)) (omega (arith, length_bytes_at f.portacl, f.portacl.limit)),
    )

-- the places of five texts in their sheet
abbrev pub parts_of : Texts → Parts
parts_of ts =
    let a : Part = part 4 (length ts.allow) in
    let d : Part = part (part_end a + 4) (length ts.deny) in
    let b : Part = part (part_end d + 4) (length ts.byuid) in
    let p : Part = part (part_end b + 4) (length ts.portacl) in
    record { allow = a; deny = d; byuid = b; portacl = p; tables = part (part_end p) (length ts.tables) }

-- four texts with their counts and then the tables, one after the other
abbrev pub in_turn : Texts → List ℕ
in_turn ts = counted ts.allow ++ (counted ts.deny ++ (counted ts.byuid ++ (counted ts.portacl ++ ts.tables)))

pub sheet_of_in_turn : (ts : Texts) → sheet_of ts ≡ in_turn ts
unfolding sheet_of
sheet_of_in_turn ts = append_five (counted ts.allow) (counted ts.deny) (counted ts.byuid) (counted ts.portacl) ts.tables

module _ (ts : Texts) (sheet : List ℕ) (is : sheet ≡ in_turn ts) where
  at_deny : drop (part_end (parts_of ts).allow) sheet ≡ counted ts.deny ++ (counted ts.byuid ++ (counted ts.portacl ++ ts.tables))
  at_deny = drop_counted 0 sheet ts.allow _ is

  at_byuid : drop (part_end (parts_of ts).deny) sheet ≡ counted ts.byuid ++ (counted ts.portacl ++ ts.tables)
  at_byuid = drop_counted (part_end (parts_of ts).allow) sheet ts.deny _ at_deny

  at_portacl : drop (part_end (parts_of ts).byuid) sheet ≡ counted ts.portacl ++ ts.tables
  at_portacl = drop_counted (part_end (parts_of ts).deny) sheet ts.byuid _ at_byuid

  at_tables : drop (part_end (parts_of ts).portacl) sheet ≡ ts.tables
  at_tables = drop_counted (part_end (parts_of ts).byuid) sheet ts.portacl ts.tables at_portacl

  -- how many bytes are left for the tables
  tables_left : length ts.tables ≡ length sheet - part_end (parts_of ts).portacl
  tables_left = sym (ap length at_tables) ∙ length-drop (part_end (parts_of ts).portacl) sheet

  pub framed_parts_of : WithinLimits ts → Framed sheet (parts_of ts)
  framed_parts_of w = record {
    allow = section_at_counted 0 sheet ts.allow _ is S.allow w.allow (omega arith);
    deny = section_at_counted (part_end (parts_of ts).allow) sheet ts.deny _ at_deny S.deny w.deny (omega arith);
    byuid = section_at_counted (part_end (parts_of ts).deny) sheet ts.byuid _ at_byuid S.byuid w.byuid (omega arith);
    portacl = section_at_counted (part_end (parts_of ts).byuid) sheet ts.portacl ts.tables at_portacl S.portacl w.portacl (omega arith);
    tables = ap (part (part_end (parts_of ts).portacl)) tables_left;
  }

  bytes_at_tables : bytes_at sheet (parts_of ts).tables ≡ ts.tables
  bytes_at_tables = ap (take (length ts.tables)) at_tables ∙ take-length ts.tables

  pub texts_at_parts_of : texts_at sheet (parts_of ts) ≡ ts
  texts_at_parts_of =
      rw (
        bytes_at_counted 0 sheet ts.allow _ is,
        bytes_at_counted (part_end (parts_of ts).allow) sheet ts.deny _ at_deny,
        bytes_at_counted (part_end (parts_of ts).deny) sheet ts.byuid _ at_byuid,
        bytes_at_counted (part_end (parts_of ts).byuid) sheet ts.portacl ts.tables at_portacl,
        bytes_at_tables,
      )

pub sheet_of_texts_at : {sheet : List ℕ} {p : Parts} → all (λ b. ltb b 256) sheet ≡ true → Framed sheet p → sheet_of (texts_at sheet p) ≡ sheet
sheet_of_texts_at {sheet} {p} e f =
    sheet_of_in_turn (texts_at sheet p)
    ∙ rw (
      tables_rest f,
      ← (counted_bytes_at e f.portacl),
      ← (counted_bytes_at e f.byuid),
      ← (counted_bytes_at e f.deny),
      ← (counted_bytes_at e f.allow),
    )

-- ## Unpacking and packing

pub unpack_answered : (sheet : List ℕ) (p : Parts) → unpack sheet ≡ Ok p → Framed sheet p × (texts_fault (texts_at sheet p) ≡ None)
unfolding unpack
unpack_answered sheet p e =
    let b = bind_answered (frame sheet) _ p e in
    let r = refusing_answered (texts_fault (texts_at sheet b.0)) b.0 p b.2 in
    subst (λ q. Framed sheet q × (texts_fault (texts_at sheet q) ≡ None)) r.1 (frame_answered sheet b.0 b.1, r.0)

pub answered_unpack : {sheet : List ℕ} {p : Parts} → Framed sheet p → texts_fault (texts_at sheet p) ≡ None → unpack sheet ≡ Ok p
unfolding unpack
answered_unpack f e = rw (answered_frame f, e)

pub pack_answered : (ts : Texts) (room : ℕ) (sheet : List ℕ) → pack ts room ≡ Ok sheet → (texts_fault ts ≡ None) × (sheet_of ts ≡ sheet)
unfolding pack
pack_answered ts room sheet e =
    let b = bind_answered (refusing (texts_fault ts) (sheet_of ts)) _ sheet e in
    let r = refusing_answered (texts_fault ts) (sheet_of ts) b.0 b.1 in
    (r.0, r.1 ∙ (refusing_answered (given (ltb room (length b.0)) (placeless F.NoRoom)) b.0 sheet b.2).1)

pub answered_pack : (ts : Texts) (room : ℕ) → texts_fault ts ≡ None → length (sheet_of ts) ≤ room → pack ts room ≡ Ok (sheet_of ts)
unfolding pack
answered_pack ts room e h = rw (e, le-ltb room (length (sheet_of ts)) h)
