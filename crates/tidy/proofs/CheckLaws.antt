-- Laws of the checks and of the two calls, shaped as the calls and tests of the code hand their facts over.
--   file-texts      == the checks of a file are those of two texts, the other one empty
--   propose_is, drop_is == the calls, by the checks as the code makes them
--   sound_text      == what a text is that passed them
-- Assumes nothing.
use Rattle.std.specs.Prelude.{Err, None, Ok, Option, Result, Some, ⊤}
use Prim.Native.Nat.{ℕ, zero, suc, ◌+◌, ◌≤◌, ◌<◌}
use native.Mathlib.Omega.{arith}
use mathlib.Core.Bool.{Bool, true, false, not, ◌&&◌, ◌||◌, true≢false}
use mathlib.Core.List.{List, [], ◌∷◌, ◌++◌, flat_map}
use mathlib.Core.Path.{◌≡◌, refl, sym, ap, ap₂, ◌∙◌}
use borrow.Author.Tests.{eq-eqb, ne_eqb, eqb-true, eqb-false, ltb-false, not-true, not-false}
use lib.Dec.{eqb, ltb}
use lib.ListN.{length, take, drop, get_or, set, length-set}
use lib.Seq.{get_or-set_same, get_or-set_other}
use Rattle.text.specs.Basics.{when◌then◌else◌, ◌or_else◌, given, holds, is_some, any, all, first}
use Rattle.text.specs.Text.{split}
use Rattle.text.specs.Words.{word_bytes, read_words}
use Rattle.text.proofs.BasicLaws.{and_true}
use Rattle.section.specs.declared.Fault.{Fault}
use Rattle.section.specs.declared.Fault.TheVariants as F
use Rattle.section.specs.declared.Refusal.{Refusal}
use Rattle.section.specs.Refusal.{Outcome, ◌>>=◌, refusal, placeless, refusing, at_place, within_room, written_of, lent_after, checked_of}
use Rattle.section.specs.Section as S
use Rattle.section.specs.Section.{Section, over_limit}
use Rattle.lines.specs.Line.{Line, lines}
use Rattle.lines.specs.Rewrite.{line_bytes, rewrite}
use Rattle.lines.proofs.LineLaws.{logical_lines_nil}
use Rattle.tables.specs.declared.entry.FrameFault.{FrameFault}
use Rattle.tables.specs.declared.entry.FrameFault.TheVariants as FrameFault
use Rattle.tables.specs.Table.{read_tables, tables_of, tables_frame, is_missing, leads_past, depth, table_name_fault, bad_table_fault}
use Rattle.tables.specs.Code.{tables_in, frame_of}
use Rattle.tables.proofs.TableLaws.{tables_in_of, frame_sound, frame_cut, frame_trailing}
use Rattle.rules.specs.declared.Answer.{Answer}
use Rattle.rules.specs.FileCode.{pass_of}
use Rattle.rules.specs.Check.{line_fault, hosts_fault, naming_fault, missing_fault, depth_fault, tables_fault}
use Rattle.rules.specs.Code.{lines_fault, contents_fault}
use Rattle.tidy.specs.Tidy.{named, accepts, proposal, dropped, section_of, with_section, file_fault, propose, accepted_bytes, numbers_of, drop_rules}
use Rattle.tidy.specs.Code.{checked_by, texts_fault, section_fault, drop_sound, Sound, flag, Marked, marked_here, marked_from, marked_bytes}
use Rattle.tidy.specs.Code.{names_marked, set_named, Named, kept_here, kept_line, kept_bytes}
use Rattle.tidy.proofs.ProposalLaws.{Ascend, accepts_proposed}
use Rattle.tidy.proofs.NumberLaws.{marked_proposal, named_by}

-- ## The checks

module _ (p : Result (Option Answer) Refusal) where
  pub by_faulty : (f : Refusal) → p ≡ Err f → Err f ≡ checked_by p
  by_faulty f e = rw e

  pub by_unmatched : p ≡ (Ok None) → Ok tt ≡ checked_by p
  by_unmatched e = rw e

  pub by_matched : (a : Answer) → p ≡ Ok (Some a) → Ok tt ≡ checked_by p
  by_matched a e = rw e

module _ (allow deny five : List ℕ) (f : Result ⊤ FrameFault) (is_f : f ≡ frame_of (read_tables five)) where
  pub checked_cut : f ≡ Err FrameFault.Cut → (g : Refusal) → g ≡ refusal F.CutShort 5 0
      → Err g ≡ checked_of (tables_frame five or_else contents_fault allow deny five)
  checked_cut k g is-g = rw (frame_cut five f is_f k, is-g)

  pub checked_trailing : f ≡ Err FrameFault.Trailing → (g : Refusal) → g ≡ placeless F.TrailingBytes
      → Err g ≡ checked_of (tables_frame five or_else contents_fault allow deny five)
  checked_trailing k g is-g = rw (frame_trailing five f is_f k, is-g)

  pub checked_contents : f ≡ (Ok tt) → (c : Result ⊤ Refusal) → c ≡ checked_of (contents_fault allow deny five)
      → c ≡ checked_of (tables_frame five or_else contents_fault allow deny five)
  checked_contents k c is_c = is_c ∙ sym (rw (frame_sound five f is_f k))

  pub checked_whole : f ≡ (Ok tt) → tables_in five ≡ tables_of five
  checked_whole k = tables_in_of five (sym is_f ∙ k)

module _ (o : Option Refusal) where
  pub whole_sound : (x : Bool) → x ≡ not (is_some o) → x ≡ true → Ok tt ≡ checked_of o
  whole_sound x is_x e = by o (sym is_x ∙ e)
    where
      by : (o : Option Refusal) → not (is_some o) ≡ true → Ok tt ≡ checked_of o
      by None h = refl
      by (Some g) h = absurd (true≢false (sym h))

  pub whole_passed : (p : Result (Option Answer) Refusal) → p ≡ pass_of o None → (c : Result ⊤ Refusal) → c ≡ checked_by p → c ≡ checked_of o
  whole_passed p is-p c is_c = is_c ∙ (ap checked_by is-p ∙ by o)
    where
      by : (o : Option Refusal) → checked_by (pass_of o None) ≡ checked_of o
      by None = refl
      by (Some g) = refl

module _ (allow deny five : List ℕ) (o : Bool) (is-o : o ≡ ltb 16384 (length allow)) where
  pub over_allow : o ≡ true → (g : Refusal) → g ≡ refusal F.OverLimit 1 0 → Err g ≡ checked_of (texts_fault allow deny five)
  unfolding texts_fault
  over_allow e g is-g = rw (← is-o, e, is-g)

  module _ (e : o ≡ false) (x : Bool) (is_x : x ≡ ltb 16384 (length deny)) where
    pub over_deny : x ≡ true → (g : Refusal) → g ≡ refusal F.OverLimit 2 0 → Err g ≡ checked_of (texts_fault allow deny five)
    unfolding texts_fault
    over_deny k g is-g = rw (← is-o, e, ← is_x, k, is-g)

    pub over_none : x ≡ false → (c : Result ⊤ Refusal) → c ≡ checked_of (tables_frame five or_else contents_fault allow deny five)
        → c ≡ checked_of (texts_fault allow deny five)
    unfolding texts_fault
    over_none k c is_c = is_c ∙ rw (← is-o, e, ← is_x, k)

module _ (n : ℕ) (text five : List ℕ) where
  pub section_allow : n ≡ 1 → (c : Result ⊤ Refusal) → c ≡ checked_of (texts_fault text (take 0 text) five) → c ≡ checked_of (section_fault n text five)
  unfolding section_fault
  section_allow e c is_c = is_c ∙ rw (eq-eqb n 1 e)

  pub section_deny : (n ≡ 1 → ⊥) → n ≡ 2 → (c : Result ⊤ Refusal) → c ≡ checked_of (texts_fault (take 0 text) text five) → c ≡ checked_of (section_fault n text five)
  unfolding section_fault
  section_deny d e c is_c = is_c ∙ rw (ne_eqb n 1 d, eq-eqb n 2 e)

  pub section_none : (n ≡ 1 → ⊥) → (n ≡ 2 → ⊥) → (g : Refusal) → g ≡ placeless F.BadRequest → Err g ≡ checked_of (section_fault n text five)
  unfolding section_fault
  section_none d e g is-g = rw (ne_eqb n 1 d, ne_eqb n 2 e, is-g)

-- ## One text and no other

lines_nil : lines [] ≡ []
unfolding lines
lines_nil = logical_lines_nil 1 0

hosts_nil : (s : Section) → hosts_fault s [] ≡ None
unfolding hosts_fault first
hosts_nil s = ap (first (λ l. at_place s.order l.number (line_fault l))) lines_nil

naming_nil : (f : Fault) (p : List ℕ → Bool) (s : Section) → naming_fault f p s [] ≡ None
unfolding naming_fault first
naming_nil f p s = ap (first (λ l. at_place s.order l.number (given (Rattle.rules.specs.Check.line_names p l) f))) lines_nil

first_alone : (a b c d e f g : Option Refusal)
    → ((a or_else None) or_else b) or_else ((c or_else None) or_else (((((d or_else None) or_else e) or_else f) or_else None) or_else g))
    ≡ (((((a or_else b) or_else c) or_else d) or_else e) or_else f) or_else g
first_alone (Some x) b c d e f g = refl
first_alone None (Some x) c d e f g = refl
first_alone None None (Some x) d e f g = refl
first_alone None None None (Some x) e f g = refl
first_alone None None None None (Some x) f g = refl
first_alone None None None None None (Some x) g = refl
first_alone None None None None None None g = refl

file_allow : (t five : List ℕ) → texts_fault t [] five ≡ file_fault S.allow t five
unfolding texts_fault file_fault contents_fault lines_fault tables_fault
file_allow t five =
    rw (hosts_nil S.deny, naming_nil F.TableName (is_missing (tables_of five)) S.deny, naming_nil F.TooDeep (leads_past (tables_of five) depth) S.deny)
    (first_alone (over_limit S.allow t) (tables_frame five) (hosts_fault S.allow t) (missing_fault (tables_of five) S.allow t) (table_name_fault (tables_of five))
    (depth_fault (tables_of five) S.allow t) (bad_table_fault five))

second_alone : (a b c d e f g : Option Refusal)
    → ((None or_else a) or_else b) or_else ((None or_else c) or_else (((((None or_else d) or_else e) or_else None) or_else f) or_else g))
    ≡ (((((a or_else b) or_else c) or_else d) or_else e) or_else f) or_else g
second_alone (Some x) b c d e f g = refl
second_alone None (Some x) c d e f g = refl
second_alone None None (Some x) d e f g = refl
second_alone None None None (Some x) e f g = refl
second_alone None None None None (Some x) f g = refl
second_alone None None None None None (Some x) g = refl
second_alone None None None None None None g = refl

file_deny : (t five : List ℕ) → texts_fault [] t five ≡ file_fault S.deny t five
unfolding texts_fault file_fault contents_fault lines_fault tables_fault
file_deny t five =
    rw (hosts_nil S.allow, naming_nil F.TableName (is_missing (tables_of five)) S.allow, naming_nil F.TooDeep (leads_past (tables_of five) depth) S.allow)
    (second_alone (over_limit S.deny t) (tables_frame five) (hosts_fault S.deny t) (missing_fault (tables_of five) S.deny t) (table_name_fault (tables_of five))
    (depth_fault (tables_of five) S.deny t) (bad_table_fault five))

-- ## The calls

-- a call by the checks as the code makes them: r answers after a refusal or after none
by_section : (n : ℕ) (t five : List ℕ) (r : Option Refusal → Outcome (List ℕ)) → r (Some (placeless F.BadRequest)) ≡ Err (placeless F.BadRequest)
    → with_section (section_of n) (λ s. r (file_fault s t five)) ≡ r (section_fault n t five)
unfolding section_fault
by_section n t five r k = by (eqb n 1) (eqb n 2)
  where
    by : (a b : Bool)
        → with_section (when a then Some S.allow else when b then Some S.deny else None) (λ s. r (file_fault s t five))
        ≡ r (when a then texts_fault t [] five else when b then texts_fault [] t five else Some (placeless F.BadRequest))
    by true b = ap r (sym (file_allow t five))
    by false true = ap r (sym (file_deny t five))
    by false false = sym k

pub propose_is : (n : ℕ) (t five : List ℕ) (room : ℕ)
    → propose n t five room ≡ (refusing (section_fault n t five) (word_bytes (proposal t)) >>= within_room room)
unfolding propose
propose_is n t five room = by_section n t five (λ o. refusing o (word_bytes (proposal t)) >>= within_room room) refl

pub drop_is : (n : ℕ) (t five p : List ℕ) (room : ℕ)
    → drop_rules n t five p room
    ≡ (refusing (section_fault n t five or_else given (not (accepted_bytes t p)) (placeless F.BadProposal)) (dropped (numbers_of p) t) >>= within_room room)
unfolding drop_rules
drop_is n t five p room =
    by_section n t five (λ o. refusing (o or_else given (not (accepted_bytes t p)) (placeless F.BadProposal)) (dropped (numbers_of p) t) >>= within_room room) refl

-- ## A text that passed

pub none_both : {A : Type 0} (o u : Option A) → o or_else u ≡ None → (o ≡ None) × (u ≡ None)
none_both None u e = (refl, e)
none_both (Some a) u e = let z : ◌≡◌ {A = ℕ} 0 1 = cc in absurd (omega arith)

pub sound_lines : (s : Section) (ls : List Line) → first (λ l. at_place s.order l.number (line_fault l)) ls ≡ None → first line_fault ls ≡ None
unfolding first
sound_lines s [] e = refl
sound_lines s (l ∷ ls) e = by (line_fault l) e (sound_lines s ls)
  where
    by : (o : Option Fault) → at_place s.order l.number o or_else first (λ l. at_place s.order l.number (line_fault l)) ls ≡ None
        → (first (λ l. at_place s.order l.number (line_fault l)) ls ≡ None → first line_fault ls ≡ None) → o or_else first line_fault ls ≡ None
    by None k ih = ih k
    by (Some g) k ih = let z : ◌≡◌ {A = ℕ} 0 1 = cc k in absurd (omega arith)

pub hosts_sound : (s : Section) (t : List ℕ) → hosts_fault s t ≡ None → Sound t
unfolding hosts_fault Sound
hosts_sound s t e = sound_lines s (lines t) e

pub file_parts : (s : Section) (t five : List ℕ) → file_fault s t five ≡ None → (over_limit s t ≡ None) × ((tables_frame five ≡ None) × ((hosts_fault s t ≡ None)
    × ((missing_fault (tables_of five) s t ≡ None) × ((table_name_fault (tables_of five) ≡ None)
    × ((depth_fault (tables_of five) s t ≡ None) × (bad_table_fault five ≡ None))))))
unfolding file_fault
file_parts s t five e =
    let a = over_limit s t in
    by (over_limit s t) (tables_frame five) (hosts_fault s t) (missing_fault (tables_of five) s t) (table_name_fault (tables_of five)) (depth_fault (tables_of five) s t)
    (bad_table_fault five) e
  where
    by : (a b c d e f g : Option Refusal) → (((((a or_else b) or_else c) or_else d) or_else e) or_else f) or_else g ≡ None
        → (a ≡ None) × ((b ≡ None) × ((c ≡ None) × ((d ≡ None) × ((e ≡ None) × ((f ≡ None) × (g ≡ None))))))
    by None None None None None None g h = (refl, (refl, (refl, (refl, (refl, (refl, h))))))
    by (Some x) b c d e f g h = let z : ◌≡◌ {A = ℕ} 0 1 = cc h in absurd (omega arith)
    by None (Some x) c d e f g h = let z : ◌≡◌ {A = ℕ} 0 1 = cc h in absurd (omega arith)
    by None None (Some x) d e f g h = let z : ◌≡◌ {A = ℕ} 0 1 = cc h in absurd (omega arith)
    by None None None (Some x) e f g h = let z : ◌≡◌ {A = ℕ} 0 1 = cc h in absurd (omega arith)
    by None None None None (Some x) f g h = let z : ◌≡◌ {A = ℕ} 0 1 = cc h in absurd (omega arith)
    by None None None None None (Some x) g h = let z : ◌≡◌ {A = ℕ} 0 1 = cc h in absurd (omega arith)

within_limit : (limit n : ℕ) (r : Refusal) → given (ltb limit n) r ≡ None → n ≤ limit
within_limit limit n r e = by (ltb limit n) refl e
  where
    by : (b : Bool) → ltb limit n ≡ b → given b r ≡ None → n ≤ limit
    by true q k = let z : ◌≡◌ {A = ℕ} 0 1 = cc k in absurd (omega arith)
    by false q k = ltb-false limit n q

pub sound_text : (n : ℕ) (t five : List ℕ) → section_fault n t five ≡ None → (length t ≤ 16384) × Sound t
unfolding section_fault
sound_text n t five e = by (eqb n 1) (eqb n 2) e
  where
    of : (s : Section) → s.limit ≡ 16384 → file_fault s t five ≡ None → (length t ≤ 16384) × Sound t
    of s l k =
        let p = file_parts s t five k in
        (omega (arith, within_limit s.limit (length t) (refusal F.OverLimit s.order 0) p.0, l), hosts_sound s t p.1.1.0)

    by : (a b : Bool) → (when a then texts_fault t [] five else when b then texts_fault [] t five else Some (placeless F.BadRequest)) ≡ None → (length t ≤ 16384)
        × Sound t
    by true b k = of S.allow refl (sym (file_allow t five) ∙ k)
    by false true k = of S.deny refl (sym (file_deny t five) ∙ k)
    by false false k = let z : ◌≡◌ {A = ℕ} 0 1 = cc k in absurd (omega arith)

checked_none : (o : Option Refusal) (c : Result ⊤ Refusal) → c ≡ checked_of o → c ≡ Ok tt → o ≡ None
checked_none None c e f = refl
checked_none (Some g) c e f = let z : ◌≡◌ {A = ℕ} 0 1 = cc (sym e ∙ f) in absurd (omega arith)

checked_some : (o : Option Refusal) (c : Result ⊤ Refusal) (g : Refusal) → c ≡ checked_of o → c ≡ Err g → o ≡ Some g
checked_some None c g e f = let z : ◌≡◌ {A = ℕ} 0 1 = cc (sym e ∙ f) in absurd (omega arith)
checked_some (Some h) c g e f = let z : h ≡ g = cc (sym e ∙ f) in ap Some z

-- ## What is accepted and dropped, by the marks

all_ext : (p q : ℕ → Bool) → ((n : ℕ) → p n ≡ q n) → (ns : List ℕ) → all p ns ≡ all q ns
unfolding all
all_ext p q h [] = refl
all_ext p q h (n ∷ ns) = ap₂ (λ (a b : Bool). a && b) (h n) (all_ext p q h ns)

marked_nonzero : (t marks : List ℕ) → Marked marks (proposal t) → (n : ℕ) → any (eqb n) (proposal t) ≡ not (eqb (get_or marks n 0) 0)
marked_nonzero t marks m n = sym (ap (λ (k : ℕ). not (eqb k 0)) (m.marks_of n) ∙ by (any (eqb n) (proposal t)))
  where
    by : (b : Bool) → not (eqb (flag b) 0) ≡ b
    by true = refl
    by false = refl

marked_accepts : (t marks : List ℕ) → Marked marks (proposal t) → (p : List ℕ) → accepted_bytes t p ≡ names_marked marks p
unfolding names_marked
marked_accepts t marks m p = by (read_words p)
  where
    by : (o : Option (List ℕ)) → holds (accepts t) o ≡ holds (all (λ n. not (eqb (get_or marks n 0) 0))) o
    by None = refl
    by (Some ns) = accepts_proposed t ns ∙ all_ext (λ n. any (eqb n) (proposal t)) (λ n. not (eqb (get_or marks n 0) 0)) (marked_nonzero t marks m) ns

flat_ext : (f g : Line → List ℕ) → ((l : Line) → f l ≡ g l) → (ls : List Line) → flat_map f ls ≡ flat_map g ls
unfolding flat_map
flat_ext f g h [] = refl
flat_ext f g h (l ∷ ls) = ap₂ (λ (a b : List ℕ). a ++ b) (h l) (flat_ext f g h ls)

kept_dropped : (t marks : List ℕ) → Marked marks (proposal t) → (p : List ℕ) → names_marked marks p ≡ true → (names : List ℕ)
    → names ≡ set_named marks (numbers_of p)
    → kept_bytes names (lines t) ≡ dropped (numbers_of p) t
unfolding kept_bytes dropped rewrite kept_here
kept_dropped t marks m p e names is-names =
    flat_ext (kept_line names) (λ l. when named (numbers_of p) l then [] else line_bytes l)
    (λ l. ap (λ (b : Bool). when b then [] else line_bytes l)
    (ap (λ (k : List ℕ). eqb (get_or k l.number 0) 2) is-names ∙ named_by t marks m p e l.number)) (lines t)

module _ (t marks out : List ℕ) (short : length t ≤ 16384) (m : Marked marks (proposal t)) where
  marked_are : marked_bytes marks ≡ word_bytes (proposal t)
  unfolding marked_bytes
  marked_are = ap word_bytes (marked_proposal t marks short m)

  pub numbers_made : (r : Result ℕ Refusal) → r ≡ written_of (within_room (length out) (marked_bytes marks)) → r ≡ written_of (within_room (length out) (word_bytes (proposal t)))
  numbers_made r h = h ∙ ap (λ (b : List ℕ). written_of (within_room (length out) b)) marked_are

  pub numbers_written : (o : List ℕ) → o ≡ lent_after out (within_room (length out) (marked_bytes marks))
      → o ≡ lent_after out (within_room (length out) (word_bytes (proposal t)))
  numbers_written o h = h ∙ ap (λ (b : List ℕ). lent_after out (within_room (length out) b)) marked_are

module _ (n : ℕ) (t five : List ℕ) (c : Result ⊤ Refusal) (is_c : c ≡ checked_of (section_fault n t five)) where
  pub passed_short : c ≡ (Ok tt) → length t ≤ 16384
  passed_short e = (sound_text n t five (checked_none (section_fault n t five) c is_c e)).0

  pub passed_sound : c ≡ (Ok tt) → Sound t
  passed_sound e = (sound_text n t five (checked_none (section_fault n t five) c is_c e)).1

  module _ (out : List ℕ) where
    module _ (g : Refusal) (e : c ≡ Err g) where
      fault : section_fault n t five ≡ Some g
      fault = checked_some (section_fault n t five) c g is_c e

      proposes : propose n t five (length out) ≡ Err g
      proposes = propose_is n t five (length out) ∙ rw fault

      pub propose_refused : Err g ≡ written_of (propose n t five (length out))
      propose_refused = rw proposes

      pub propose_unwritten : out ≡ lent_after out (propose n t five (length out))
      propose_unwritten = rw proposes

      drops : (p : List ℕ) → drop_rules n t five p (length out) ≡ Err g
      drops p = drop_is n t five p (length out) ∙ rw fault

      pub drop_refused : (p : List ℕ) → Err g ≡ written_of (drop_rules n t five p (length out))
      drop_refused p = rw (drops p)

      pub drop_unwritten : (p : List ℕ) → out ≡ lent_after out (drop_rules n t five p (length out))
      drop_unwritten p = rw (drops p)

    module _ (e : c ≡ Ok tt) where
      proposing : propose n t five (length out) ≡ within_room (length out) (word_bytes (proposal t))
      proposing = propose_is n t five (length out) ∙ rw (checked_none (section_fault n t five) c is_c e)

      pub propose_made : (r : Result ℕ Refusal) → r ≡ written_of (within_room (length out) (word_bytes (proposal t))) → r ≡ written_of (propose n t five (length out))
      propose_made r h = h ∙ ap written_of (sym proposing)

      pub propose_written : (o : List ℕ) → o ≡ lent_after out (within_room (length out) (word_bytes (proposal t))) → o ≡ lent_after out (propose n t five (length out))
      propose_written o h = h ∙ ap (lent_after out) (sym proposing)

    module _ (e : c ≡ Ok tt) (p : List ℕ) where
      dropping : drop_rules n t five p (length out) ≡ drop_sound t p (length out)
      unfolding drop_sound
      dropping = drop_is n t five p (length out) ∙ rw (checked_none (section_fault n t five) c is_c e)

      pub drop_made : (r : Result ℕ Refusal) → r ≡ written_of (drop_sound t p (length out)) → r ≡ written_of (drop_rules n t five p (length out))
      drop_made r h = h ∙ ap written_of (sym dropping)

      pub drop_written : (o : List ℕ) → o ≡ lent_after out (drop_sound t p (length out)) → o ≡ lent_after out (drop_rules n t five p (length out))
      drop_written o h = h ∙ ap (lent_after out) (sym dropping)

module _ (t out p marks : List ℕ) (m : Marked marks (proposal t)) (x : Bool) (is_x : x ≡ names_marked marks p) where
  accepted_is : accepted_bytes t p ≡ x
  accepted_is = marked_accepts t marks m p ∙ sym is_x

  module _ (k : x ≡ false) where
    turned : drop_sound t p (length out) ≡ Err (placeless F.BadProposal)
    unfolding drop_sound
    turned = let b = accepted_is ∙ k in rw b

    pub other_answer : (g : Refusal) → g ≡ placeless F.BadProposal → Err g ≡ written_of (drop_sound t p (length out))
    other_answer g is-g = rw (turned, is-g)

    pub other_kept : out ≡ lent_after out (drop_sound t p (length out))
    other_kept = rw turned

  module _ (k : x ≡ true) (names : List ℕ) (is-names : x ≡ true → names ≡ set_named marks (numbers_of p)) where
    gone : drop_sound t p (length out) ≡ within_room (length out) (kept_bytes names (lines t))
    unfolding drop_sound
    gone = let b = accepted_is ∙ k in rw (b, kept_dropped t marks m p (sym is_x ∙ k) names (is-names k))

    pub accepted_answer : (r : Result ℕ Refusal) → r ≡ written_of (within_room (length out) (kept_bytes names (lines t))) → r ≡ written_of (drop_sound t p (length out))
    accepted_answer r h = h ∙ ap written_of (sym gone)

    pub accepted_written : (o : List ℕ) → o ≡ lent_after out (within_room (length out) (kept_bytes names (lines t)))
        → o ≡ lent_after out (drop_sound t p (length out))
    accepted_written o h = h ∙ ap (lent_after out) (sym gone)
