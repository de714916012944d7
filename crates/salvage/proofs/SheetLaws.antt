-- The salvaged sheet, by the definitions alone.
--   salvage_answered == what an answer says: the new sheet is that of the salvaged texts, and the list is that of the changes
--   salvage_accepted == "The outcome is an accepted sheet"
--   salvage_again    == "salvaging it again changes nothing": the same sheet, and an empty list
--   salvage_sound    == an accepted sheet comes back as it is, with an empty list
--   allow_lines, deny_lines == the lines of allow and deny stay in their order, each bad one replaced
-- Assumes nothing.
use Rattle.std.specs.Prelude.{None, Ok, Option, Some}
use Prim.Native.Nat.{ℕ, ◌+◌, ◌≤◌}
use mathlib.Core.Bool.{Bool, true, false, ◌||◌, true≢false}
use mathlib.Core.List.{List, [], ◌∷◌, ◌++◌, map, flat_map}
use mathlib.Core.Path.{◌≡◌, refl, sym, ap, ap₂, subst, ◌∙◌}
use native.Mathlib.Omega.{arith}
use borrow.Author.Tests.{ltb-false, le-ltb}
use lib.Dec.{ltb}
use lib.ListN.{length}
use Rattle.text.specs.Basics as Basics
use Rattle.text.specs.Basics.{when◌then◌else◌, ◌or_else◌, given, is_some, first}
use Rattle.text.specs.Text as Text
use Rattle.text.specs.Text.{bytes, split}
use Rattle.text.proofs.BasicLaws.{or_false}
use Rattle.section.specs.declared.Fault.{Fault}
use Rattle.section.specs.declared.Fault.TheVariants as F
use Rattle.section.specs.declared.Refusal.{Refusal}
use Rattle.section.specs.Refusal as Refusals
use Rattle.section.specs.Refusal.{Outcome, ◌>>=◌, refusal, at_place, placeless, refusing, ◌before◌, within_room}
use Rattle.section.specs.Section as S
use Rattle.section.specs.Section.{Section}
use Rattle.lines.specs.Line as Line
use Rattle.lines.specs.Line.{line, lines}
use Rattle.lines.specs.Rule as Rule
use Rattle.lines.specs.Command as Command
use Rattle.lines.specs.Scan.{scan, scan_line}
use Rattle.lines.proofs.RewriteLaws.{Whole, whole_nil}
use Rattle.patterns.specs.Pattern as Pattern
use Rattle.tables.specs.Table as Table
use Rattle.tables.specs.Table.{tables_of, is_missing, leads_past, depth, tables_frame, table_name_fault, bad_table_fault}
use Rattle.elements.specs.Element as Element
use Rattle.lists.specs.Check as ListCheck
use Rattle.rules.specs.Check as Check
use Rattle.rules.specs.Check.{line_fault, hosts_fault, line_names, naming_fault, missing_fault, depth_fault, tables_fault}
use Rattle.rules.proofs.NamingLaws.{or_else_nones}
use Rattle.byuid.specs.Byuid.{is_retired, retired_fault, byuid_fault}
use Rattle.byuid.specs.Convert.{convert_text}
use Rattle.byuid.proofs.ConvertLaws.{byuid_fault_convert_text, convert_text_same}
use Rattle.portacl.specs.Portacl.{portacl_fault}
use Rattle.sheet.specs.declared.Parts.{Parts}
use Rattle.sheet.specs.Sheet.{Texts, texts, texts_at, texts_fault, frame, unpack, sheet_of}
use Rattle.sheet.proofs.FrameLaws.{Framed, bind_answered, refusing_answered, given_none, texts_fault_none, parts_of, sheet_of_in_turn, framed_parts_of}
use Rattle.sheet.proofs.FrameLaws.{texts_at_parts_of, answered_frame, frame_answered, answered_unpack, unpack_answered, sheet_of_texts_at}
use Rattle.salvage.specs.Salvage.{keep, places, bad_line, salvage_hosts, salvage_portacl, salvaged_by, salvaged, bad_lines, bad_entries, changes_by}
use Rattle.salvage.specs.Salvage.{changes, list_bytes, five_fault, grown, handed_out, salvage_texts, salvage}
use Rattle.salvage.proofs.HostsLaws.{Stands, none_first, first_none, salvage_hosts_good, salvage_hosts_same, salvage_hosts_lines}
use Rattle.salvage.proofs.PortaclLaws.{salvage_portacl_sound, salvage_portacl_same}
use Rattle.salvage.proofs.BridgeLaws.{judge_tables}
use Rattle.salvage.proofs.CallLaws.{Sound, five_sound}

-- ## What stands instead of a bad line

whole_all : Whole (bytes "ALL: ALL") 0
unfolding scan_line scan
whole_all rest = record { end = refl; ended = refl; joins = refl }

module _ (ts : List Table.Table) where
  nothing_good : (n at : ℕ) → bad_line ts (line n at [] true) ≡ false
  unfolding bad_line Check.line_fault_by Check.line_names Refusals.lowest Basics.all Basics.any Line.join Line.has_bad_byte
  nothing_good n at = refl

  all_good : (n at : ℕ) → bad_line ts (line n at (bytes "ALL: ALL") true) ≡ false
  unfolding
      bad_line Check.line_fault_by Check.line_names Refusals.lowest Basics.all Basics.any Basics.first Line.join Line.has_bad_byte
      Rule.split_separator Rule.non_empty Rule.elements Rule.parse_rule
      Text.split Text.equal Text.equal_fold Text.lower Text.split_once Command.skip_blanks Command.trimmed Command.pieces Command.has_bad_percent
      ListCheck.without_except ListCheck.except_misplaced ListCheck.rule_fault ListCheck.rule_names
      Element.halves Element.client_reserved Element.daemon_reserved Element.named_table Element.daemon_element Element.daemon_parts Element.daemon_name
      Element.client_element Element.client_parts Table.table_name Table.pattern_with Pattern.host_pattern Pattern.wildcard
  all_good n at = refl

  pub nothing : Stands (bad_line ts) []
  nothing = record { joins = 0; whole = whole_nil; good = nothing_good }

  pub all_all : Stands (bad_line ts) (bytes "ALL: ALL")
  all_all = record { joins = 0; whole = whole_all; good = all_good }

  -- ## A text without a bad line

  is_some_none : {A : Type 0} (o : Option A) → is_some o ≡ false → o ≡ None
  is_some_none None e = refl
  is_some_none (Some a) e = absurd (true≢false e)

  -- a line that is not bad is not refused
  good_line : (l : Line.Line) → bad_line ts l ≡ false
      → (line_fault l ≡ None) × ((line_names (is_missing ts) l ≡ false) × (line_names (leads_past ts depth) l ≡ false))
  unfolding bad_line
  good_line l e =
      let a = or_false (is_some (line_fault l) || line_names (is_missing ts) l) (line_names (leads_past ts depth) l) e in
      let b = or_false (is_some (line_fault l)) (line_names (is_missing ts) l) a.0 in
      (is_some_none (line_fault l) b.0, (b.1, a.1))

  line_good : (l : Line.Line) → line_fault l ≡ None → line_names (is_missing ts) l ≡ false → line_names (leads_past ts depth) l ≡ false → bad_line ts l ≡ false
  unfolding bad_line
  line_good l x y z = rw (x, y, z)

  module _ (s : Section) (t : List ℕ) where
    -- no line is bad just where the text is not refused
    module _ (e : keep (bad_line ts) (lines t) ≡ []) where
      pub unrefused : hosts_fault s t ≡ None
      unfolding hosts_fault
      unrefused = none_first (bad_line ts) (λ l. at_place s.order l.number (line_fault l)) (λ l g. rw (good_line l g).0) (lines t) e

      pub unmissing : missing_fault ts s t ≡ None
      unfolding naming_fault
      unmissing = none_first (bad_line ts) (λ l. at_place s.order l.number (given (line_names (is_missing ts) l) F.TableName))
          (λ l g. rw (good_line l g).1.0) (lines t) e

      pub undeep : depth_fault ts s t ≡ None
      unfolding naming_fault
      undeep = none_first (bad_line ts) (λ l. at_place s.order l.number (given (line_names (leads_past ts depth) l) F.TooDeep))
          (λ l g. rw (good_line l g).1.1) (lines t) e

    at_none : (o : Option Fault) (n : ℕ) → at_place s.order n o ≡ None → o ≡ None
    at_none None n e = refl
    at_none (Some f) n e = let z : ◌≡◌ {A = ℕ} 0 1 = cc in absurd (omega arith)

    none_bad : hosts_fault s t ≡ None → missing_fault ts s t ≡ None → depth_fault ts s t ≡ None → keep (bad_line ts) (lines t) ≡ []
    unfolding hosts_fault naming_fault
    none_bad a b c =
        first_none (bad_line ts) (λ l. at_place s.order l.number (line_fault l))
        (λ l. at_place s.order l.number (given (line_names (is_missing ts) l) F.TableName))
        (λ l. at_place s.order l.number (given (line_names (leads_past ts depth) l) F.TooDeep))
        (λ l x y z. line_good l (at_none (line_fault l) l.number x)
        (given_none (line_names (is_missing ts) l) F.TableName (at_none (given (line_names (is_missing ts) l) F.TableName) l.number y))
        (given_none (line_names (leads_past ts depth) l) F.TooDeep (at_none (given (line_names (leads_past ts depth) l) F.TooDeep) l.number z)))
        (lines t) a b c

-- ## The texts

module _ (ts : Texts) where
  abbrev tables : List Table.Table
  tables = tables_of ts.tables

  allow_good : keep (bad_line tables) (lines (salvage_hosts (bad_line tables) [] ts.allow)) ≡ []
  allow_good = salvage_hosts_good (bad_line tables) (judge_tables tables) [] (nothing tables) ts.allow

  deny_good : keep (bad_line tables) (lines (salvage_hosts (bad_line tables) (bytes "ALL: ALL") ts.deny)) ≡ []
  deny_good = salvage_hosts_good (bad_line tables) (judge_tables tables) (bytes "ALL: ALL") (all_all tables) ts.deny

  -- "leaves every other byte and its order": the lines one by one
  pub allow_lines : map (λ (l : Line.Line). l.raw) (lines (salvaged ts).allow) ≡ map (λ l. when bad_line tables l then [] else l.raw) (lines ts.allow)
  unfolding salvaged_by
  allow_lines = salvage_hosts_lines (bad_line tables) (judge_tables tables) [] (nothing tables) ts.allow

  pub deny_lines : map (λ (l : Line.Line). l.raw) (lines (salvaged ts).deny) ≡ map (λ l. when bad_line tables l then bytes "ALL: ALL" else l.raw) (lines
      ts.deny)
  unfolding salvaged_by
  deny_lines = salvage_hosts_lines (bad_line tables) (judge_tables tables) (bytes "ALL: ALL") (all_all tables) ts.deny

  pub salvaged_sound : five_fault ts.tables ≡ None → grown (salvaged ts) ≡ None → texts_fault (salvaged ts) ≡ None
  unfolding texts_fault salvaged_by tables_fault grown
  salvaged_sound five g =
      let f : Sound ts.tables = five_sound ts.tables five in
      let a : List ℕ = salvage_hosts (bad_line tables) [] ts.allow in
      let d : List ℕ = salvage_hosts (bad_line tables) (bytes "ALL: ALL") ts.deny in
      rw (
        g,
        f.framed,
        unrefused tables S.allow a allow_good,
        unrefused tables S.deny d deny_good,
        salvage_portacl_sound ts.portacl,
        unmissing tables S.allow a allow_good,
        unmissing tables S.deny d deny_good,
        f.named,
        undeep tables S.allow a allow_good,
        undeep tables S.deny d deny_good,
        f.tabled,
      )
      (byuid_fault_convert_text ts.byuid)

none_listed : (n : ℕ) (ls : List (List ℕ)) → retired_fault n ls ≡ None → places is_retired n ls ≡ []
unfolding retired_fault places
none_listed n [] e = refl
none_listed n (l ∷ ls) e = by (is_retired l) e (λ h. none_listed (n + 1) ls h)
  where
    by : (b : Bool) → (when b then Some (refusal F.RetiredForm (S.byuid).order n) else retired_fault (n + 1) ls) ≡ None
        → (retired_fault (n + 1) ls ≡ None → places is_retired (n + 1) ls ≡ [])
        → (when b then n ∷ places is_retired (n + 1) ls else places is_retired (n + 1) ls) ≡ []
    by true h ih = let z : ◌≡◌ {A = ℕ} 0 1 = cc in absurd (omega arith)
    by false h ih = ih h

-- the parts of texts without a fault
record Clean (ts : Texts) : Type 0 where
  pub small : grown ts ≡ None
  pub framed : tables_frame ts.tables ≡ None
  pub allow : hosts_fault S.allow ts.allow ≡ None
  pub deny : hosts_fault S.deny ts.deny ≡ None
  pub portacl : portacl_fault ts.portacl ≡ None
  pub named : tables_fault ts.allow ts.deny ts.tables ≡ None
  pub byuid : byuid_fault ts.byuid ≡ None

clean : (ts : Texts) → texts_fault ts ≡ None → Clean ts
unfolding texts_fault grown
clean ts e =
    let b = or_else_nones _ _ e in
    let n = or_else_nones _ _ b.0 in
    let p = or_else_nones _ _ n.0 in
    let d = or_else_nones _ _ p.0 in
    let a = or_else_nones _ _ d.0 in
    let f = or_else_nones _ _ a.0 in
    record { small = f.0; framed = f.1; allow = a.1; deny = d.1; portacl = p.1; named = n.1; byuid = b.1 }

record CleanTables (a d t : List ℕ) : Type 0 where
  pub missing_allow : missing_fault (tables_of t) S.allow a ≡ None
  pub missing_deny : missing_fault (tables_of t) S.deny d ≡ None
  pub names : table_name_fault (tables_of t) ≡ None
  pub deep_allow : depth_fault (tables_of t) S.allow a ≡ None
  pub deep_deny : depth_fault (tables_of t) S.deny d ≡ None
  pub bad : bad_table_fault t ≡ None

clean_tables : (a d t : List ℕ) → tables_fault a d t ≡ None → CleanTables a d t
unfolding tables_fault
clean_tables a d t e =
    let u = or_else_nones _ _ e in
    let v = or_else_nones _ _ u.0 in
    let w = or_else_nones _ _ v.0 in
    let x = or_else_nones _ _ w.0 in
    let y = or_else_nones _ _ x.0 in
    record { missing_allow = y.0; missing_deny = y.1; names = x.1; deep_allow = w.1; deep_deny = v.1; bad = u.1 }

-- texts without a fault stay, and nothing is listed
pub record Kept (ts : Texts) : Type 0 where
  pub same : salvaged ts ≡ ts
  pub listed : changes ts ≡ []
  pub small : grown ts ≡ None
  pub five : five_fault ts.tables ≡ None

pub sound_kept : (ts : Texts) → texts_fault ts ≡ None → Kept ts
unfolding salvaged_by changes_by five_fault byuid_fault
sound_kept ts e =
    let c : Clean ts = clean ts e in
    let n : CleanTables ts.allow ts.deny ts.tables = clean_tables ts.allow ts.deny ts.tables c.named in
    let tb : List Table.Table = tables_of ts.tables in
    let allow = none_bad tb S.allow ts.allow c.allow n.missing_allow n.deep_allow in
    let deny = none_bad tb S.deny ts.deny c.deny n.missing_deny n.deep_deny in
    let portacl = salvage_portacl_same ts.portacl c.portacl in
    record {
      same = rw (
        salvage_hosts_same (bad_line tb) (judge_tables tb) [] (nothing tb) ts.allow allow,
        salvage_hosts_same (bad_line tb) (judge_tables tb) (bytes "ALL: ALL") (all_all tb) ts.deny deny,
        convert_text_same ts.byuid c.byuid,
        portacl.0,
      );
      listed = rw (allow, deny, none_listed 1 (split "\n" ts.byuid) c.byuid, portacl.1);
      small = c.small;
      five = rw (c.framed, n.names, n.bad);
    }

-- ## The sheet

-- the sheet of sound texts is accepted, and salvage leaves it as it is
module _ (ts : Texts) (e : texts_fault ts ≡ None) where
  framed : Framed (sheet_of ts) (parts_of ts)
  framed = framed_parts_of ts (sheet_of ts) (sheet_of_in_turn ts) (texts_fault_none ts e)

  pub sheet_framed : frame (sheet_of ts) ≡ Ok (parts_of ts)
  sheet_framed = answered_frame framed

  pub at_parts : texts_at (sheet_of ts) (parts_of ts) ≡ ts
  at_parts = texts_at_parts_of ts (sheet_of ts) (sheet_of_in_turn ts)

  pub sheet_accepted : unpack (sheet_of ts) ≡ Ok (parts_of ts)
  sheet_accepted = answered_unpack framed (ap texts_fault at_parts ∙ e)

  kept_call : (room other : ℕ) → salvage_texts ts room other ≡ handed_out ts [] room other
  unfolding salvage_texts list_bytes flat_map
  kept_call room other =
      let k : Kept ts = sound_kept ts e in
      ap (λ (o : Option Refusal). o before handed_out (salvaged ts) (list_bytes (changes ts)) room other) k.five
      ∙ ap₂ (λ (n : Texts) (l : List (ℕ × ℕ)). handed_out n (list_bytes l) room other) k.same k.listed

  kept_room : (room other : ℕ) → length (sheet_of ts) ≤ room → handed_out ts [] room other ≡ Ok (sheet_of ts, [])
  unfolding handed_out
  kept_room room other h =
      let k : Kept ts = sound_kept ts e in
      rw (k.small, le-ltb room (length (sheet_of ts)) h, le-ltb other 0 (omega arith))

  texts_again : (room other : ℕ) → length (sheet_of ts) ≤ room → salvage_texts ts room other ≡ Ok (sheet_of ts, [])
  texts_again room other h = kept_call room other ∙ kept_room room other h

  pub sheet_again : (room other : ℕ) → length (sheet_of ts) ≤ room → salvage (sheet_of ts) room other ≡ Ok (sheet_of ts, [])
  unfolding salvage
  sheet_again room other h = rw (answered_frame framed, at_parts) (texts_again room other h)

-- what an answer to five texts says
pub record Answered (ts : Texts) (room : ℕ) (new list : List ℕ) : Type 0 where
  pub sound : texts_fault (salvaged ts) ≡ None
  pub sheet : sheet_of (salvaged ts) ≡ new
  pub listed : list_bytes (changes ts) ≡ list
  pub fits : length new ≤ room

before_answered : {A : Type 0} (o : Option Refusal) (c : Outcome A) (a : A) → (o before c) ≡ Ok a → (o ≡ None) × (c ≡ Ok a)
before_answered None c a e = (refl, e)
before_answered (Some r) c a e = let z : ◌≡◌ {A = ℕ} 0 1 = cc in absurd (omega arith)

pub texts_answered : (ts : Texts) (room other : ℕ) (new list : List ℕ) → salvage_texts ts room other ≡ Ok (new, list) → Answered ts room new list
unfolding salvage_texts handed_out
texts_answered ts room other new list e =
    let a = before_answered (five_fault ts.tables) (handed_out (salvaged ts) (list_bytes (changes ts)) room other) (new, list) e in
    let b = bind_answered (refusing (grown (salvaged ts)) (sheet_of (salvaged ts))) _ (new, list) a.1 in
    let c = refusing_answered (grown (salvaged ts)) (sheet_of (salvaged ts)) b.0 b.1 in
    let d = bind_answered (within_room room b.0) _ (new, list) b.2 in
    let f = refusing_answered (given (ltb room (length b.0)) (placeless F.NoRoom)) b.0 d.0 d.1 in
    let g = bind_answered (within_room other (list_bytes (changes ts))) _ (new, list) d.2 in
    let h = refusing_answered (given (ltb other (length (list_bytes (changes ts)))) (placeless F.NoRoom)) (list_bytes (changes ts)) g.0 g.1 in
    let q : ◌≡◌ {A = List ℕ × List ℕ} (d.0, g.0) (new, list) = cc g.2 in
    let is-new : d.0 ≡ new = ap (λ (p : List ℕ × List ℕ). p.0) q in
    record {
      sound = salvaged_sound ts a.0 c.0;
      sheet = c.1 ∙ f.1 ∙ is-new;
      listed = h.1 ∙ ap (λ (p : List ℕ × List ℕ). p.1) q;
      fits = subst (λ (s : List ℕ). length s ≤ room) (f.1 ∙ is-new) (ltb-false room (length b.0) (given_none (ltb room (length b.0))
          (placeless F.NoRoom) f.0));
    }

module _ (sheet new list : List ℕ) (room other : ℕ) (e : salvage sheet room other ≡ Ok (new, list)) where
  pub salvage_answered : (p : Parts) × (frame sheet ≡ Ok p) × Answered (texts_at sheet p) room new list
  unfolding salvage
  salvage_answered =
      let a = bind_answered (frame sheet) _ (new, list) e in
      (a.0, a.1, texts_answered (texts_at sheet a.0) room other new list a.2)

  pub salvage_accepted : (p : Parts) × (unpack new ≡ Ok p)
  salvage_accepted =
      let a = salvage_answered in
      let new-texts : Texts = salvaged (texts_at sheet a.0) in
      (parts_of new-texts, ap unpack (sym a.2.sheet) ∙ sheet_accepted new-texts a.2.sound)

  pub salvage_again : (room' other' : ℕ) → length new ≤ room' → salvage new room' other' ≡ Ok (new, [])
  salvage_again room' other' h =
      let a = salvage_answered in
      subst (λ (s : List ℕ). length s ≤ room' → salvage s room' other' ≡ Ok (s, [])) a.2.sheet
      (sheet_again (salvaged (texts_at sheet a.0)) a.2.sound room' other') h

pub salvage_sound : (sheet : List ℕ) (p : Parts) (room other : ℕ) → Basics.all (λ b. ltb b 256) sheet ≡ true → unpack sheet ≡ Ok p → length sheet ≤ room
    → salvage sheet room other ≡ Ok (sheet, [])
salvage_sound sheet p room other b e h =
    let u = unpack_answered sheet p e in
    let s : sheet_of (texts_at sheet p) ≡ sheet = sheet_of_texts_at b u.0 in
    subst (λ (t : List ℕ). length t ≤ room → salvage t room other ≡ Ok (t, [])) s (sheet_again (texts_at sheet p) u.1 room other) h
