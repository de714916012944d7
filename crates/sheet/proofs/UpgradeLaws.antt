-- Laws of upgrading a sheet of four sections.
--   four_refused, four_trailing, four_sound == its check, shaped as the calls and tests of the code hand their facts over
--   put_upgraded, upgrade_refused, upgrade_no_room, upgrade_count == what is written, and the three answers
--   upgraded == the frame and the texts of what is written: the same four, and no tables
-- Assumes nothing.
use Rattle.std.specs.Prelude.{Err, None, Ok, Result, ⊤}
use Prim.Native.Nat.{ℕ, ◌+◌, ◌-◌, ◌≤◌, ◌<◌}
use native.Mathlib.Omega.{arith}
use mathlib.Core.List.{List, [], ◌∷◌, ◌++◌}
use mathlib.Core.Path.{◌≡◌, refl, sym, ap, ◌∙◌}
use borrow.Author.Tests.{lt-ltb, le-ltb, ltb-false}
use lib.ListN.{length, take, drop, length-append}
use lib.Seq.{take-append_seam, drop-append_seam}
use Rattle.text.specs.Number.{from_digits}
use Rattle.text.specs.Scan.{put_at, after}
use Rattle.text.proofs.PasteLaws.{put_first, put_more}
use Rattle.section.specs.declared.Fault.TheVariants as F
use Rattle.section.specs.declared.Part.{Part}
use Rattle.section.specs.declared.Refusal.{Refusal}
use Rattle.section.specs.Refusal.{Outcome, placeless, written_of, lent_after, checked_of}
use Rattle.section.specs.Section as S
use Rattle.section.specs.Section.{bytes_at, Section, part}
use Rattle.tables.specs.Table.{read_each, read_tables, tables_frame}
use Rattle.rules.specs.Check.{hosts_fault, tables_fault}
use Rattle.rules.specs.Code.{lines_fault}
use Rattle.byuid.specs.Byuid.{byuid_fault}
use Rattle.portacl.specs.Portacl.{portacl_fault}
use Rattle.sheet.specs.declared.Parts.{Parts}
use Rattle.sheet.specs.Sheet.{Texts, texts, texts_at, texts_fault, part_end, frame, unpack, nothing_after, four_frame, upgrade}
use Rattle.sheet.specs.Code.{contents_fault}
use Rattle.sheet.proofs.TextsLaws.{checked_sound, checked_refused, texts_fault_parts}
use Rattle.sheet.proofs.FrameLaws.{given_none, take_drop_take, SectionAt, Framed, frame_answered, answered_frame, answered_unpack, with_tables}
use Rattle.sheet.proofs.FrameLaws.{portacl_end, limits_framed}

-- ## The check

module _ (sheet : List ℕ) (x : Result Parts Refusal) (is_x : x ≡ frame sheet) where
  pub four_refused : (g : Refusal) → x ≡ Err g → Err g ≡ checked_of (four_frame sheet)
  unfolding four_frame
  four_refused g e = rw (sym is_x ∙ e)

  module _ (p : Parts) (e : x ≡ Ok p) where
    pub four_trailing : 0 < p.tables.len → (g : Refusal) → g ≡ placeless F.TrailingBytes → Err g ≡ checked_of (four_frame sheet)
    unfolding four_frame
    four_trailing h g is-g = rw (sym is_x ∙ e, lt-ltb 0 p.tables.len h, is-g)

    pub four_sound : p.tables.len ≤ 0 → Ok tt ≡ checked_of (four_frame sheet)
    unfolding four_frame
    four_sound h = rw (sym is_x ∙ e, le-ltb 0 p.tables.len h)

-- ## The answers

-- o is d with t written from `at` on, and n is the place after it
abbrev Wrote : List ℕ → List ℕ → List ℕ → ℕ → ℕ → Type 0
Wrote d o t at n = (n ≡ at + length t) × (o ≡ put_at d at t)

pub put_upgraded : (out sheet o₁ o₂ : List ℕ) (n₁ n₂ : ℕ) → Wrote out o₁ sheet 0 n₁ → Wrote o₁ o₂ (0 ∷ 0 ∷ []) n₁ n₂
    → (n₂ ≡ length (sheet ++ 0 ∷ 0 ∷ [])) × (o₂ ≡ after (sheet ++ 0 ∷ 0 ∷ []) out)
put_upgraded out sheet o₁ o₂ n₁ n₂ w₁ w₂ =
    let s₁ = put_first out o₁ sheet w₁.1 in
    (omega (arith, w₁.0, w₂.0, length-append sheet (0 ∷ 0 ∷ [])), put_more out o₁ o₂ sheet (0 ∷ 0 ∷ []) n₁ w₂.1 s₁ (omega (arith, w₁.0)))

module _ (sheet : List ℕ) (x : Result ⊤ Refusal) (is_x : x ≡ checked_of (four_frame sheet)) where
  pub upgrade_refused : (r : Refusal) → x ≡ Err r → (out : List ℕ)
      → (Err r ≡ written_of (upgrade sheet (length out))) × (out ≡ lent_after out (upgrade sheet (length out)))
  unfolding upgrade
  upgrade_refused r e out = rw (checked_refused (four_frame sheet) r (sym is_x ∙ e)) (refl, refl)

  module _ (e : x ≡ Ok tt) where
    is_four : four_frame sheet ≡ None
    is_four = checked_sound (four_frame sheet) (sym is_x ∙ e)

    pub upgrade_no_room : (out : List ℕ) → length out < length sheet + 2 → (r : Refusal) → r ≡ placeless F.NoRoom
        → (Err r ≡ written_of (upgrade sheet (length out))) × (out ≡ lent_after out (upgrade sheet (length out)))
    unfolding upgrade
    upgrade_no_room out h r is-r =
        rw (is_four, lt-ltb (length out) (length (sheet ++ 0 ∷ 0 ∷ [])) (omega (arith, length-append sheet (0 ∷ 0 ∷ []))), is-r) (refl, refl)

    pub upgrade_count : (out o : List ℕ) (n : ℕ) → length sheet + 2 ≤ length out
        → (n ≡ length (sheet ++ 0 ∷ 0 ∷ [])) × (o ≡ after (sheet ++ 0 ∷ 0 ∷ []) out)
        → (Ok n ≡ written_of (upgrade sheet (length out))) × (o ≡ lent_after out (upgrade sheet (length out)))
    unfolding upgrade after
    upgrade_count out o n h w =
        rw (is_four, le-ltb (length out) (length (sheet ++ 0 ∷ 0 ∷ [])) (omega (arith, length-append sheet (0 ∷ 0 ∷ [])))) (ap Ok w.0, w.1)

-- ## What it makes of a sheet

-- the bytes of a part are the same in a longer sheet
take_drop_more : (n at : ℕ) (l t : List ℕ) → at + n ≤ length l → take n (drop at (l ++ t)) ≡ take n (drop at l)
take_drop_more n at l t h = sym (take_drop_take n at (length l) (l ++ t) h) ∙ ap (λ (u : List ℕ). take n (drop at u)) (take-append_seam l t)

section_at_more : {s : Section} {at : ℕ} {sheet : List ℕ} {p : Part} (t : List ℕ) → SectionAt s at sheet p → SectionAt s at (sheet ++ t) p
section_at_more {s} {at} {sheet} t f = record {
  place = f.place;
  count = f.count ∙ ap (from_digits 256 0) (sym (take_drop_more 4 at sheet t (omega (arith, f.within))));
  limit = f.limit;
  within = omega (arith, f.within, length-append sheet t);
}

bytes_at_more : {s : Section} {at : ℕ} {sheet : List ℕ} {p : Part} (t : List ℕ) → SectionAt s at sheet p → bytes_at (sheet ++ t) p ≡ bytes_at sheet p
bytes_at_more {sheet = sheet} {p} t f = take_drop_more p.len p.place sheet t (omega (arith, f.place, f.within))

-- the two zero bytes of an empty count: no tables, and nothing after them
pub no_tables_lem : tables_frame (0 ∷ 0 ∷ []) ≡ None
unfolding tables_frame read_tables read_each from_digits
no_tables_lem = refl

-- the four texts of a sheet, with no tables
abbrev pub four_texts : List ℕ → Parts → Texts
four_texts sheet p = texts (bytes_at sheet p.allow) (bytes_at sheet p.deny) (bytes_at sheet p.byuid) (bytes_at sheet p.portacl) (0 ∷ 0 ∷ [])

pub record Upgraded (sheet : List ℕ) (p : Parts) : Type 0 where
  pub was : frame sheet ≡ Ok p
  pub framed : frame (sheet ++ 0 ∷ 0 ∷ []) ≡ Ok (with_tables p (part (length sheet) 2))
  pub found : texts_at (sheet ++ 0 ∷ 0 ∷ []) (with_tables p (part (length sheet) 2)) ≡ four_texts sheet p
  -- accepted where its lines and entries are sound, no rule names a table and no line is of the retired form
  pub accepted : hosts_fault S.allow (bytes_at sheet p.allow) ≡ None → hosts_fault S.deny (bytes_at sheet p.deny) ≡ None
      → portacl_fault (bytes_at sheet p.portacl) ≡ None → tables_fault (bytes_at sheet p.allow) (bytes_at sheet p.deny) (0 ∷ 0 ∷ []) ≡ None
      → byuid_fault (bytes_at sheet p.byuid) ≡ None → unpack (sheet ++ 0 ∷ 0 ∷ []) ≡ Ok (with_tables p (part (length sheet) 2))

module _ (sheet : List ℕ) where
  four_parts : four_frame sheet ≡ None → (p : Parts) × (frame sheet ≡ Ok p) × (p.tables.len ≤ 0)
  unfolding four_frame
  four_parts e = by (frame sheet) refl e
    where
      by : (o : Outcome Parts) → frame sheet ≡ o → nothing_after o ≡ None → (p : Parts) × (frame sheet ≡ Ok p) × (p.tables.len ≤ 0)
      by (Err r) f g = let z : ◌≡◌ {A = ℕ} 0 1 = cc in absurd (omega arith)
      by (Ok p) f g = (p, f, ltb-false 0 p.tables.len (given_none _ _ g))

  module _ (p : Parts) (f : Framed sheet p) (last : p.tables.len ≤ 0) where
    abbrev more : List ℕ
    more = sheet ++ 0 ∷ 0 ∷ []

    abbrev upgraded_parts : Parts
    upgraded_parts = with_tables p (part (length sheet) 2)

    ends : part_end p.portacl ≡ length sheet
    ends = omega (arith, portacl_end f, ap (λ (q : Part). q.len) f.tables)

    framed_more : Framed more upgraded_parts
    framed_more =
        let two : length more ≡ length sheet + 2 = length-append sheet (0 ∷ 0 ∷ []) in
        let left : 2 ≡ length more - part_end p.portacl = omega (arith, ends) in
        record {
          allow = section_at_more (0 ∷ 0 ∷ []) f.allow;
          deny = section_at_more (0 ∷ 0 ∷ []) f.deny;
          byuid = section_at_more (0 ∷ 0 ∷ []) f.byuid;
          portacl = section_at_more (0 ∷ 0 ∷ []) f.portacl;
          tables = ap (λ (n : ℕ). part n 2) (sym ends) ∙ ap (part (part_end p.portacl)) left;
        }

    texts_more : texts_at more upgraded_parts ≡ four_texts sheet p
    texts_more =
        rw (
          bytes_at_more (0 ∷ 0 ∷ []) f.allow,
          bytes_at_more (0 ∷ 0 ∷ []) f.deny,
          bytes_at_more (0 ∷ 0 ∷ []) f.byuid,
          bytes_at_more (0 ∷ 0 ∷ []) f.portacl,
          drop-append_seam sheet (0 ∷ 0 ∷ []),
        )

  texts_sound : (p : Parts) → Framed sheet p → hosts_fault S.allow (bytes_at sheet p.allow) ≡ None → hosts_fault S.deny (bytes_at sheet p.deny) ≡ None
      → portacl_fault (bytes_at sheet p.portacl) ≡ None → tables_fault (bytes_at sheet p.allow) (bytes_at sheet p.deny) (0 ∷ 0 ∷ []) ≡ None
      → byuid_fault (bytes_at sheet p.byuid) ≡ None → texts_fault (four_texts sheet p) ≡ None
  unfolding contents_fault lines_fault
  texts_sound p f allow deny portacl naming byuid =
      rw (
        texts_fault_parts (bytes_at sheet p.allow) (bytes_at sheet p.deny) (bytes_at sheet p.byuid) (bytes_at sheet p.portacl) (0 ∷ 0 ∷ []),
        limits_framed f,
        no_tables_lem,
        allow,
        deny,
        portacl,
        naming,
        byuid,
      )

  pub upgraded : four_frame sheet ≡ None → (p : Parts) × Upgraded sheet p
  upgraded e =
      let h = four_parts e in
      let f = frame_answered sheet h.0 h.1 in
      let found = texts_more h.0 f h.2 in (
        h.0,
        record {
          was = h.1;
          framed = answered_frame (framed_more h.0 f h.2);
          found = found;
          accepted = λ allow deny portacl naming byuid.
              answered_unpack (framed_more h.0 f h.2) (ap texts_fault found ∙ texts_sound h.0 f allow deny portacl naming byuid);
        },
      )
