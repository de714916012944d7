-- Laws of the decisions by a sheet, shaped as the calls and tests of the code hand their facts over.
--   parts_doubtful, parts_answered == a verdict by the frame and one pass over the texts is the verdict by the sheet
--   command_bytes_lem == the command's bytes in the sheet are those in the file that decided
-- Assumes nothing.
use Rattle.std.specs.Prelude.{Err, None, Ok, Option, Result, Some, ⊤}
use Prim.Native.Nat.{ℕ, ◌+◌, ◌≤◌, ◌<◌}
use native.Mathlib.Omega.{arith}
use mathlib.Core.Bool.{Bool, true, false, not}
use mathlib.Core.List.{List}
use mathlib.Core.Path.{◌≡◌, refl, sym, ap, subst, ◌∙◌}
use borrow.Author.Tests.{le-ltb}
use lib.ListN.{length, take, drop, length-drop}
use lib.Seq.{length-take-le, drop-drop}
use Rattle.text.specs.Basics.{when◌then◌else◌, ◌or_else◌, given}
use Rattle.section.specs.declared.Fault.TheVariants as F
use Rattle.section.specs.declared.Part.{Part}
use Rattle.section.specs.declared.Refusal.{Refusal}
use Rattle.section.specs.Refusal.{◌>>=◌, placeless, refusing, ◌before◌, checked_of}
use Rattle.section.specs.Section as S
use Rattle.section.specs.Section.{bytes_at, Section, part, over_limit}
use Rattle.tables.specs.declared.entry.FrameFault.{FrameFault}
use Rattle.tables.specs.declared.entry.FrameFault.TheVariants as FrameFault
use Rattle.tables.specs.Table.{Table, read_tables, tables_of, match_of}
use Rattle.tables.specs.Code.{tables_in, frame_of}
use Rattle.tables.specs.Tried.{capped}
use Rattle.tables.proofs.TableLaws.{tables_in_of, frame_sound, frame_cut, frame_trailing}
use Rattle.elements.specs.declared.request.Request.{Request as Places}
use Rattle.elements.specs.Request.{Request, well_formed, held}
use Rattle.elements.specs.Places.{request_at}
use Rattle.elements.specs.Code.{held_at}
use Rattle.elements.proofs.HeldLaws.{held_at_lem, held_fits}
use Rattle.rules.specs.declared.File.{File}
use Rattle.rules.specs.declared.File.TheVariants.{Neither, Allow, Deny}
use Rattle.rules.specs.declared.Answer.{Answer}
use Rattle.rules.specs.declared.Reported.{Reported}
use Rattle.rules.specs.declared.search.Searched.{Searched}
use Rattle.rules.specs.Check.{tables_fault}
use Rattle.rules.specs.Search.{answer, search, decide_over, command_bytes}
use Rattle.rules.specs.Looked.{looked, number_of, looked_over, reported}
use Rattle.rules.specs.FileCode.{refused_report, refusing_request}
use Rattle.rules.specs.Code.{lines_fault, searched, finding_of}
use Rattle.rules.specs.Code.{contents_fault as textsContents}
use Rattle.rules.proofs.NamingLaws.{or_else_none}
use Rattle.rules.proofs.PlaceLaws.{file_length, search_within}
use Rattle.byuid.specs.declared.Decision.{Decision as ByuidDecision}
use Rattle.byuid.specs.declared.Mark.TheVariants.{Plain}
use Rattle.byuid.specs.Byuid.{Bind as ByuidBind, from_file, byuid_fault, decide_byuid}
use Rattle.portacl.specs.declared.Decision.{Decision as PortaclDecision}
use Rattle.portacl.specs.declared.Settings.{Settings}
use Rattle.portacl.specs.Portacl.{Bind as PortaclBind, portacl_fault, decide_portacl}
use Rattle.sheet.specs.declared.Parts.{Parts}
use Rattle.sheet.specs.Sheet.{texts_at, texts_fault, frame, unpack}
use Rattle.station.specs.Station.{file_place, in_sheet, decide_sheet, looked_sheet, decide_byuid_sheet, decide_portacl_sheet}
use Rattle.sheet.specs.Code.{limits_fault, contents_fault}
use Rattle.station.specs.Code.{framed_fault, refused_by}
use Rattle.sheet.proofs.FrameLaws.{SectionAt, frame_answered, refusing_answered, take_drop_take}
use Rattle.sheet.proofs.TextsLaws.{checked_sound, checked_refused, texts_fault_parts}

-- ## The port decisions

module _ (sheet : List ℕ) (x : Result Parts Refusal) (is_x : x ≡ unpack sheet) where
  module _ (o : Option ByuidBind) where
    pub byuid_refused : (g : Refusal) → x ≡ Err g → Err g ≡ decide_byuid_sheet sheet o
    unfolding decide_byuid_sheet
    byuid_refused g e = rw (sym is_x ∙ e)

    pub byuid_decided : (p : Parts) → x ≡ Ok p → (t : List ℕ) → t ≡ bytes_at sheet p.byuid
        → (y : Result ByuidDecision Refusal) → y ≡ decide_byuid t (from_file Plain o) → y ≡ decide_byuid_sheet sheet o
    unfolding decide_byuid_sheet
    byuid_decided p e t is-t y is_y = is_y ∙ rw (sym is_x ∙ e, is-t)

  module _ (s : Settings) (o : Option PortaclBind) where
    pub portacl_refused : (g : Refusal) → x ≡ Err g → Err g ≡ decide_portacl_sheet sheet s o
    unfolding decide_portacl_sheet
    portacl_refused g e = rw (sym is_x ∙ e)

    pub portacl_decided : (p : Parts) → x ≡ Ok p → (t : List ℕ) → t ≡ bytes_at sheet p.portacl
        → (y : Result PortaclDecision Refusal) → y ≡ decide_portacl t s o → y ≡ decide_portacl_sheet sheet s o
    unfolding decide_portacl_sheet
    portacl_decided p e t is-t y is_y = is_y ∙ rw (sym is_x ∙ e, is-t)

-- ## What is found by texts

finds_doubt : (x y z : Option Refusal) (g : Refusal) (b : Searched) → None ≡ finding_of (x or_else Some g or_else y or_else z) b
finds_doubt None y z g b = refl
finds_doubt (Some f) y z g b = refl

finds_last : (x : Option Refusal) (g : Refusal) (b : Searched) → None ≡ finding_of (x or_else Some g) b
finds_last None g b = refl
finds_last (Some f) g b = refl

module _ (a d bu po t : List ℕ) (b : Searched) (c : Result ⊤ Refusal) (is_c : c ≡ checked_of (portacl_fault po)) where
  pub find_entry : (g : Refusal) → c ≡ Err g → None ≡ finding_of (contents_fault a d bu po t) b
  unfolding contents_fault
  find_entry g e = rw (checked_refused (portacl_fault po) g (sym is_c ∙ e)) (finds_doubt (lines_fault a d) (tables_fault a d t) (byuid_fault bu) g b)

  module _ (e : c ≡ Ok tt) (k : Result ⊤ Refusal) (is-k : k ≡ checked_of (byuid_fault bu)) where
    pub find_retired : (g : Refusal) → k ≡ Err g → None ≡ finding_of (contents_fault a d bu po t) b
    unfolding contents_fault
    find_retired g h =
        rw (checked_refused (byuid_fault bu) g (sym is-k ∙ h)) (finds_last (lines_fault a d or_else portacl_fault po or_else tables_fault a d t) g b)

    pub find_entries : k ≡ Ok tt → (f : Option Searched) → f ≡ finding_of (textsContents a d t) b → f ≡ finding_of (contents_fault a d bu po t) b
    unfolding contents_fault textsContents
    find_entries h f is_f = is_f ∙ sym (rw (checked_sound (portacl_fault po) (sym is_c ∙ e), checked_sound (byuid_fault bu) (sym is-k ∙ h))
        (ap (λ (o : Option Refusal). finding_of (o or_else tables_fault a d t or_else None) b) (or_else_none (lines_fault a d))
        ∙ ap (λ (o : Option Refusal). finding_of o b) (or_else_none (lines_fault a d or_else tables_fault a d t))))

pub find_whole : (t : List ℕ) (x : Result ⊤ FrameFault) → x ≡ frame_of (read_tables t) → x ≡ (Ok tt) → tables_in t ≡ tables_of t
find_whole t x is_x e = tables_in_of t (sym is_x ∙ e)

module _ (a d bu po t : List ℕ) (b : Searched) (x : Result ⊤ FrameFault) (is_x : x ≡ frame_of (read_tables t)) where
  pub find_cut : x ≡ Err FrameFault.Cut → None ≡ finding_of (framed_fault a d bu po t) b
  unfolding framed_fault
  find_cut e = rw (frame_cut t x is_x e)

  pub find_trailing : x ≡ Err FrameFault.Trailing → None ≡ finding_of (framed_fault a d bu po t) b
  unfolding framed_fault
  find_trailing e = rw (frame_trailing t x is_x e)

  pub find_sound : x ≡ (Ok tt) → (f : Option Searched) → f ≡ finding_of (contents_fault a d bu po t) b → f ≡ finding_of (framed_fault a d bu po t) b
  unfolding framed_fault
  find_sound e f is_f = is_f ∙ sym (rw (frame_sound t x is_x e))

pub find_parts : (sheet : List ℕ) (p : Parts) (a d bu po t : List ℕ) → a ≡ bytes_at sheet p.allow → d ≡ bytes_at sheet p.deny
    → bu ≡ bytes_at sheet p.byuid → po ≡ bytes_at sheet p.portacl → t ≡ bytes_at sheet p.tables → (r : Request) (f : Option Searched)
    → f ≡ finding_of (framed_fault a d bu po t) (searched (search (match_of (tables_of t)) a d r) (capped (looked (tables_of t) a d r)))
    → f ≡ finding_of (framed_fault (bytes_at sheet p.allow) (bytes_at sheet p.deny) (bytes_at sheet p.byuid) (bytes_at sheet p.portacl)
    (bytes_at sheet p.tables))
    (searched (search (match_of (tables_of (bytes_at sheet p.tables))) (bytes_at sheet p.allow) (bytes_at sheet p.deny) r)
    (capped (looked (tables_of (bytes_at sheet p.tables)) (bytes_at sheet p.allow) (bytes_at sheet p.deny) r)))
find_parts sheet p a d bu po t is-a is_d is-bu is-po is-t r f is_f = is_f ∙ rw (is-a, is_d, is-bu, is-po, is-t)

pub placed_in_sheet : (p : Parts) (a : Answer) (n : ℕ) → n ≡ file_place p a.file
    → answer a.verdict a.file a.line (part (n + a.command.place) a.command.len) ≡ in_sheet p a
placed_in_sheet p a n is-n = rw is-n

module _ (sheet : List ℕ) (x : Result Parts Refusal) (is_x : x ≡ unpack sheet) where
  pub refuse_refused : (g : Refusal) → x ≡ Err g → (y : Reported) → y ≡ refused_report g → y ≡ refused_by (unpack sheet)
  refuse_refused g e y is_y = is_y ∙ rw (sym is_x ∙ e)

  pub refuse_parts : (p : Parts) → x ≡ Ok p → (g : Refusal) → g ≡ placeless F.BadRequest
      → (y : Reported) → y ≡ refused_report g → y ≡ refused_by (unpack sheet)
  refuse_parts p e g is-g y is_y = is_y ∙ rw (sym is_x ∙ e, is-g)

-- ## The verdict

module _ {s : Section} {at : ℕ} {sheet : List ℕ} {q : Part} (f : SectionAt s at sheet q) where
  length_text : length (bytes_at sheet q) ≡ q.len
  length_text = length-take-le q.len (drop q.place sheet) (rw length-drop (omega (arith, f.place, f.within)))

  within_limit : over_limit s (bytes_at sheet q) ≡ None
  within_limit = rw (length_text, le-ltb s.limit q.len f.limit)

-- a part of a part
in_part : (sheet : List ℕ) (p q : Part) → q.place + q.len ≤ p.len → bytes_at (bytes_at sheet p) q ≡ bytes_at sheet (part (p.place + q.place) q.len)
in_part sheet p q h = take_drop_take q.len q.place p.len (drop p.place sheet) h ∙ ap (take q.len) (drop-drop q.place p.place sheet)

module _ (sheet : List ℕ) (p : Parts) (framed : frame sheet ≡ Ok p) where
  abbrev a : List ℕ
  a = bytes_at sheet p.allow

  abbrev d : List ℕ
  d = bytes_at sheet p.deny

  abbrev bu : List ℕ
  bu = bytes_at sheet p.byuid

  abbrev po : List ℕ
  po = bytes_at sheet p.portacl

  abbrev t : List ℕ
  t = bytes_at sheet p.tables

  fault_framed : texts_fault (texts_at sheet p) ≡ framed_fault a d bu po t
  unfolding framed_fault limits_fault
  fault_framed =
      let f = frame_answered sheet p framed in
      texts_fault_parts a d bu po t
      ∙ rw (within_limit f.allow, within_limit f.deny, within_limit f.byuid, within_limit f.portacl)

  unpack_framed : unpack sheet ≡ refusing (framed_fault a d bu po t) p
  unfolding unpack
  unpack_framed = rw (framed, fault_framed)

  module _ (names : List ℕ) (q h : Places) (is-h : h ≡ held_at q) where
    abbrev found : Searched
    found = searched (search (match_of (tables_of t)) a d (request_at names h)) (capped (looked (tables_of t) a d (request_at names h)))

    abbrev decided : Reported
    decided = reported (decide_sheet sheet (Some (request_at names q))) (looked_sheet sheet (Some (request_at names q)))

    module _ (f : Option Searched) (is_f : f ≡ finding_of (framed_fault a d bu po t) found) where
      pub parts_doubtful : f ≡ None → (x : Reported) → x ≡ refused_by (unpack sheet) → x ≡ decided
      unfolding decide_sheet
      parts_doubtful e x is_x = is_x ∙ rw unpack_framed (by (framed_fault a d bu po t) (sym is_f ∙ e))
        where
          by : (o : Option Refusal) → finding_of o found ≡ None
              → refused_by (refusing o p)
              ≡ reported (refusing o p >>= λ p. decide_over (tables_of (bytes_at sheet p.tables)) (bytes_at sheet p.allow) (bytes_at sheet p.deny)
              (Some (request_at names q)) >>= λ a. Ok (in_sheet p a)) (looked_sheet sheet (Some (request_at names q)))
          by None k = let z : ◌≡◌ {A = ℕ} 0 1 = cc in absurd (omega arith)
          by (Some g) k = refl

      module _ (y : Searched) (e : f ≡ Some y) where
        abbrev b : Answer
        b = y.answer

        answer_found : (framed_fault a d bu po t ≡ None) × (found ≡ y)
        answer_found = by (framed_fault a d bu po t) (sym is_f ∙ e)
          where
            by : (o : Option Refusal) → finding_of o found ≡ Some y → (o ≡ None) × (found ≡ y)
            by None k = (refl, cc)
            by (Some g) k = let z : ◌≡◌ {A = ℕ} 0 1 = cc in absurd (omega arith)

        pub parts_answered : (c : Answer) → c ≡ in_sheet p b → (s : Bool) → s ≡ well_formed (request_at names h)
            → (x : Reported) → x ≡ refusing_request s c y.looked → x ≡ decided
        unfolding decide_sheet looked_sheet looked_over
        parts_answered c is_c s is-s x is_x =
            is_x ∙ rw (is-s, is_c, unpack_framed, answer_found.0, ← answer_found.1, held_at_lem names q h is-h, held_fits (request_at names q))
            (by (well_formed (request_at names q)) (search (match_of (tables_of t)) a d (held (request_at names q)))
            (capped (looked (tables_of t) a d (held (request_at names q)))))
          where
            by : (z : Bool) (w : Answer) (k : ℕ) → refusing_request z (in_sheet p w) k
                ≡ reported ((when z then Ok w else Err (placeless F.BadRequest)) >>= λ a. Ok (in_sheet p a))
                (number_of (when z then Ok k else Err (placeless F.BadRequest)))
            by true w k = refl
            by false w k = refl

        command_place : file_place p b.file + b.command.place ≤ length sheet
        command_place =
            by b.file
            (subst (λ (x : Searched). x.answer.command.place + x.answer.command.len ≤ file_length a d x.answer.file) answer_found.1
            (search_within (match_of (tables_of t)) a d (request_at names h)))
          where
            by : (f : File) → b.command.place + b.command.len ≤ file_length a d f → file_place p f + b.command.place ≤ length sheet
            by Neither w = omega arith
            by Allow w = let f = frame_answered sheet p framed in omega (arith, length_text f.allow, f.allow.place, f.allow.within)
            by Deny w = let f = frame_answered sheet p framed in omega (arith, length_text f.deny, f.deny.place, f.deny.within)

        pub command_fits : (m : ℕ) → length sheet < m → file_place p b.file + b.command.place < m
        command_fits m l = omega (arith, command_place)

pub over_search : (ts : List Table) (a d : List ℕ) (r : Request) (b : Answer) → decide_over ts a d (Some r) ≡ Ok b → search (match_of ts) a d (held r) ≡ b
over_search ts a d r b e = by (well_formed r) e
  where
    by : (c : Bool) → (when c then Ok (search (match_of ts) a d (held r)) else Err (placeless F.BadRequest)) ≡ Ok b
        → search (match_of ts) a d (held r) ≡ b
    by false k = let z : ◌≡◌ {A = ℕ} 0 1 = cc in absurd (omega arith)
    by true k = cc

-- the command's bytes in the sheet are those in the file that decided
pub command_bytes_lem : (sheet : List ℕ) (p : Parts) → frame sheet ≡ Ok p → (r : Request) (b : Answer)
    → (ts : List Table) → decide_over ts (bytes_at sheet p.allow) (bytes_at sheet p.deny) (Some r) ≡ Ok b
    → bytes_at sheet (in_sheet p b).command ≡ command_bytes (bytes_at sheet p.allow) (bytes_at sheet p.deny) b
command_bytes_lem sheet p framed r b ts e =
    by b.file
    (subst (λ (x : Answer). x.command.place + x.command.len ≤ file_length (bytes_at sheet p.allow) (bytes_at sheet p.deny) x.file)
    (over_search ts (bytes_at sheet p.allow) (bytes_at sheet p.deny) r b e)
    (search_within (match_of ts) (bytes_at sheet p.allow) (bytes_at sheet p.deny) (held r)))
  where
    by : (f : File) → b.command.place + b.command.len ≤ file_length (bytes_at sheet p.allow) (bytes_at sheet p.deny) f
        → take b.command.len (drop (file_place p f + b.command.place) sheet)
        ≡ command_bytes (bytes_at sheet p.allow) (bytes_at sheet p.deny) (answer b.verdict f b.line b.command)
    by Neither w = let h : b.command.len ≡ 0 = omega arith in rw h
    by Allow w =
        let f = frame_answered sheet p framed in
        sym (in_part sheet p.allow b.command (omega (arith, length_text f.allow)))
    by Deny w =
        let f = frame_answered sheet p framed in
        sym (in_part sheet p.deny b.command (omega (arith, length_text f.deny)))

pub decide_unframed : (sheet : List ℕ) (x : Result Parts Refusal) → x ≡ frame sheet → (r : Request) (g : Refusal) → x ≡ Err g
    → (y : Reported) → y ≡ refused_report g → y ≡ reported (decide_sheet sheet (Some r)) (looked_sheet sheet (Some r))
unfolding decide_sheet unpack
decide_unframed sheet x is_x r g e y is_y = is_y ∙ rw (sym is_x ∙ e)
