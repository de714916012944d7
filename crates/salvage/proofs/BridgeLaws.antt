-- What the code makes of a text, by its pieces, is what Salvage says.
--   made_texts_lem  == the new texts
--   made_list_lem   == the list
--   bad_told    == a line is bad by the notes just where it is by the tables
-- Assumes nothing.
use Rattle.std.specs.Prelude.{None, Option, Some}
use Prim.Native.Nat.{ℕ, suc, ◌+◌, ◌<◌, ◌≤◌}
use mathlib.Core.Bool.{Bool, true, false, not, ◌&&◌, ◌||◌, true≢false}
use mathlib.Core.List.{List, [], ◌∷◌, ◌++◌, map, flat_map, append_assoc, append-nil}
use mathlib.Core.Path.{◌≡◌, refl, sym, ap, ap₂, fun_ext, ◌∙◌}
use native.Mathlib.Omega.{arith}
use borrow.Author.Tests.{lt-ltb, ne_eqb}
use lib.Dec.{ltb, eqb}
use lib.ListN.{length, drop}
use Rattle.text.specs.Basics.{when◌then◌else◌, ◌or_else◌, given, holds, is_some, is_empty}
use Rattle.text.specs.Text.{bytes, split, intercalate}
use Rattle.text.proofs.BasicLaws.{or_false}
use Rattle.byuid.proofs.SplitLaws.{split_some}
use Rattle.section.specs.declared.Fault.{Fault}
use Rattle.section.specs.declared.Fault.TheVariants as F
use Rattle.section.specs.Refusal.{lowest}
use Rattle.section.specs.Section as S
use Rattle.section.specs.Section.{Section}
use Rattle.lines.specs.Line.{Line, line, lines, logical_lines, join, is_comment, is_blank, has_bad_byte, is_too_long}
use Rattle.lines.specs.Rule.{Rule, parse_rule}
use Rattle.tables.specs.Table.{Table, tables_of, is_missing, leads_past, depth, table_name_fault}
use Rattle.tables.specs.Code.{tables_in}
use Rattle.elements.specs.Code.{View, view_of}
use Rattle.lists.specs.Check.{rule_fault, rule_names}
use Rattle.lists.specs.Code.{missing_by, deep_by, rules_naming, judged_fault}
use Rattle.rules.specs.Check.{line_fault_by, line_fault, line_names}
use Rattle.rules.specs.Code.{NamingNoted}
use Rattle.rules.specs.FileCode.{judged_line}
use Rattle.byuid.specs.Byuid.{is_retired}
use Rattle.byuid.specs.Convert.{convert_line, convert_text}
use Rattle.sheet.specs.Sheet.{Texts, texts}
use Rattle.salvage.specs.declared.piece.Kind.{Kind}
use Rattle.salvage.specs.declared.piece.Kind.TheVariants as K
use Rattle.salvage.specs.Salvage.{keep, places, bad_line, salvage_line, salvage_hosts, good_entry, salvage_portacl, salvaged_by, salvaged, in_section}
use Rattle.salvage.specs.Salvage.{bad_lines, bad_entries, changes_by, changes, change_bytes, list_bytes}
use Rattle.salvage.specs.Code.{bad_by, plain_lines, stop_of, lines_from, is_bad, section_of, rule_bytes, bind_bytes, entry_bytes, text_bytes, listed_bytes}
use Rattle.salvage.specs.Code.{written_for, written, made_of, made_texts, made_list}
use Rattle.salvage.proofs.HostsLaws.{Judge}
use Rattle.salvage.proofs.PortaclLaws.{empty_same}

-- ## Lines that are judged

-- a line without its newline is faulty
ended_by_lem : (j : Option Rule → Option Fault) (n at : ℕ) (r : List ℕ) (b : Bool) → is_some (line_fault_by j (line n at r b)) ≡ false → b ≡ true
unfolding line_fault_by lowest
ended_by_lem j n at r true e = refl
ended_by_lem j n at r false e = absurd (true≢false e)

moved_by : (j : Option Rule → Option Fault) (n at m pl : ℕ) (r : List ℕ) (b : Bool) → line_fault_by j (line n at r b) ≡ line_fault_by j (line m pl r b)
unfolding line_fault_by
moved_by j n at m pl r b = refl

pub judge_view : (v : View) → Judge (bad_by v)
judge_view v = record {
  moved = λ n at m pl r b. ap (λ (o : Option Fault). is_some o) (moved_by (judged_fault v) n at m pl r b);
  ends = λ n at r b e. ended_by_lem (judged_fault v) n at r b e;
}

names_moved : (p : List ℕ → Bool) (n at m pl : ℕ) (r : List ℕ) (b : Bool) → line_names p (line n at r b) ≡ line_names p (line m pl r b)
unfolding line_names
names_moved p n at m pl r b = refl

pub judge_tables : (ts : List Table) → Judge (bad_line ts)
unfolding bad_line
judge_tables ts = record {
  moved = λ n at m pl r b.
      ap₂ ◌||◌ (ap₂ ◌||◌ (ap (λ (o : Option Fault). is_some o) (moved_by rule_fault n at m pl r b)) (names_moved (is_missing ts) n at m pl r b))
      (names_moved (leads_past ts depth) n at m pl r b);
  ends = λ n at r b e.
      let l : Line = line n at r b in
      let a = or_false (is_some (line_fault l) || line_names (is_missing ts) l) (line_names (leads_past ts depth) l) e in
      ended_by_lem rule_fault n at r b (or_false (is_some (line_fault l)) (line_names (is_missing ts) l) a.0).0;
}

-- a line is bad by a view: by itself, or by the tables that it names
bad_by_lem : (v : View) (l : Line) → bad_by v l ≡ (is_some (line_fault l) || line_names (missing_by v) l || line_names (deep_by v) l)
unfolding line_fault_by line_names judged_fault rule_fault
bad_by_lem v l = by
    (lowest
    ((F.Unended, not l.ended)
    ∷ (F.BadByte, not (is_comment l) && has_bad_byte (join l.raw))
    ∷ (F.LongLine, is_too_long (join l.raw)) ∷ []))
    (is_comment l || is_blank l) (parse_rule l.raw)
  where
    named : (a b : Bool) → is_some (given a F.TableName or_else given b F.TooDeep) ≡ (a || b)
    named true b = refl
    named false true = refl
    named false false = refl

    by : (lay : Option Fault) (c : Bool) (o : Option Rule)
        → is_some (lay or_else (when c then None else (rule_fault o or_else rules_naming v o)))
        ≡ (is_some (lay or_else (when c then None else rule_fault o))
        || (when c then false else holds (rule_names (missing_by v)) o) || (when c then false else holds (rule_names (deep_by v)) o))
    by (Some f) c o = refl
    by None true o = refl
    by None false None = refl
    by None false (Some u) = fault (rule_fault (Some u))
      where
        fault : (o : Option Fault) → is_some (o or_else rules_naming v (Some u)) ≡ (is_some o || rule_names (missing_by v) u || rule_names (deep_by v) u)
        fault (Some f) = refl
        fault None = named (rule_names (missing_by v) u) (rule_names (deep_by v) u)

pub bad_told : (t notes : List ℕ) → NamingNoted t notes → tables_in t ≡ tables_of t → table_name_fault (tables_of t) ≡ None
    → bad_by (view_of t notes) ≡ bad_line (tables_of t)
unfolding bad_line
bad_told t notes h whole sound = fun_ext (λ l.
    bad_by_lem (view_of t notes) l
    ∙ ap₂ (λ (p q : List ℕ → Bool). is_some (line_fault l) || line_names p l || line_names q l)
    (fun_ext (λ n. h.naming_missing n ∙ ap (λ (ts : List Table). is_missing ts n) whole))
    (fun_ext (λ n. h.naming_deep (rw whole sound) n ∙ ap (λ (ts : List Table). leads_past ts depth n) whole)))

-- ## The new texts

module _ (v : View) where
  -- a line of allow or deny
  rule_line : (instead : List ℕ) (l : Line) → rule_bytes instead (bad_by v (line 0 0 l.raw l.ended)) l.raw ≡ salvage_line (bad_by v) instead l
  unfolding rule_bytes
  rule_line instead l =
      rw ((judge_view v).moved 0 0 l.number l.place l.raw l.ended) (by (bad_by v l) refl)
    where
      by : (b : Bool) → bad_by v l ≡ b → (when b then instead else l.raw) ++ bytes "\n" ≡ (when b then instead ++ bytes "\n" else l.raw ++
          (when l.ended then bytes "\n" else []))
      by true e = refl
      by false e = rw ((judge_view v).ends l.number l.place l.raw l.ended e)

  allow_lines : (alone : Bool) (ls : List Line) → written K.Allow v false alone ls ≡ flat_map (salvage_line (bad_by v) []) ls
  unfolding written written_for text_bytes is_bad flat_map
  allow_lines alone [] = refl
  allow_lines alone (l ∷ ls) = ap₂ (λ (s t : List ℕ). s ++ t) (rule_line [] l) (allow_lines (alone && bad_by v (line 0 0 l.raw l.ended)) ls)

  deny_lines : (alone : Bool) (ls : List Line) → written K.Deny v false alone ls ≡ flat_map (salvage_line (bad_by v) (bytes "ALL: ALL")) ls
  unfolding written written_for text_bytes is_bad flat_map
  deny_lines alone [] = refl
  deny_lines alone (l ∷ ls) = ap₂ (λ (s t : List ℕ). s ++ t) (rule_line (bytes "ALL: ALL") l) (deny_lines (alone && bad_by v (line 0 0 l.raw l.ended)) ls)

  made_allow : (t : List ℕ) → made_of K.Allow v false t ≡ salvage_hosts (bad_by v) [] t
  unfolding made_of lines_from salvage_hosts lines
  made_allow t = allow_lines true (logical_lines 1 0 (split "\n" t))

  made_deny : (t : List ℕ) → made_of K.Deny v false t ≡ salvage_hosts (bad_by v) (bytes "ALL: ALL") t
  unfolding made_of lines_from salvage_hosts lines
  made_deny t = deny_lines true (logical_lines 1 0 (split "\n" t))

  -- the lines of byuid
  bind_lines : (alone : Bool) (n at : ℕ) (w : List ℕ) (ws : List (List ℕ))
      → written K.Byuid v false alone (plain_lines n at (w ∷ ws)) ≡ intercalate (bytes "\n") (map convert_line (w ∷ ws))
  unfolding written written_for text_bytes bind_bytes plain_lines intercalate
  bind_lines alone n at w [] = append-nil (convert_line w ++ []) ∙ append-nil (convert_line w)
  bind_lines alone n at w (u ∷ ws) =
      ap (λ (s : List ℕ). (convert_line w ++ bytes "\n") ++ s) (bind_lines (alone && is_bad K.Byuid v w true) (n + 1) (at + length w + 1) u ws)

  first_part : (mark : List (List ℕ)) → 0 < length mark → {A : Type 0} → ((w : List ℕ) (ws : List (List ℕ)) → mark ≡ w ∷ ws → A) → A
  first_part [] h f = absurd (omega arith)
  first_part (w ∷ ws) h f = f w ws refl

  made_byuid : (t : List ℕ) → made_of K.Byuid v false t ≡ convert_text t
  unfolding made_of lines_from stop_of convert_text
  made_byuid t = rw (lt-ltb 0 (length t + 1) (omega arith)) (by (split "\n" t) (split_some "\n" t))
    where
      by : (ws : List (List ℕ)) → 0 < length ws → written K.Byuid v false true (plain_lines 1 0 ws) ≡ intercalate (bytes "\n") (map convert_line ws)
      by [] h = absurd (omega arith)
      by (w ∷ ws) h = bind_lines true 1 0 w ws

  -- the entries of portacl, after some that were kept, or none
  abbrev joined : Bool → List (List ℕ) → List ℕ
  joined true ws = intercalate (bytes ",") ws
  joined false [] = []
  joined false (w ∷ ws) = bytes "," ++ intercalate (bytes ",") (w ∷ ws)

  joined_cons : (alone : Bool) (w : List ℕ) (ws : List (List ℕ)) → ((when alone then [] else bytes ",") ++ w) ++ joined false ws ≡ joined alone (w ∷ ws)
  unfolding intercalate
  joined_cons true w [] = append-nil w
  joined_cons true w (u ∷ ws) = sym (append_assoc w (bytes ",") (intercalate (bytes ",") (u ∷ ws)))
  joined_cons false w [] = append-nil (44 ∷ w)
  joined_cons false w (u ∷ ws) = ap (λ (s : List ℕ). 44 ∷ s) (sym (append_assoc w (bytes ",") (intercalate (bytes ",") (u ∷ ws))))

  one_entry : (alone : Bool) (w : List ℕ) (ws : List (List ℕ))
      → entry_bytes (not (good_entry w)) alone w ++ joined (alone && not (good_entry w)) (keep good_entry ws) ≡ joined alone (keep good_entry (w ∷ ws))
  unfolding entry_bytes keep
  one_entry alone w ws = by (good_entry w) alone
    where
      by : (b a : Bool) → (when not b then [] else (when a then [] else bytes ",") ++ w) ++ joined (a && not b) (keep good_entry ws)
          ≡ joined a (when b then w ∷ keep good_entry ws else keep good_entry ws)
      by true true = joined_cons true w (keep good_entry ws)
      by true false = joined_cons false w (keep good_entry ws)
      by false true = refl
      by false false = refl

  joined_none : (alone : Bool) → joined alone [] ≡ []
  unfolding intercalate
  joined_none true = refl
  joined_none false = refl

  entry_lines : (alone : Bool) (n at : ℕ) (ws : List (List ℕ)) → written K.Portacl v false alone (plain_lines n at ws) ≡ joined alone (keep good_entry ws)
  unfolding written written_for text_bytes is_bad plain_lines keep
  entry_lines alone n at [] = sym (joined_none alone)
  entry_lines alone n at (w ∷ []) =
      ap (λ (s : List ℕ). entry_bytes (not (good_entry w)) alone w ++ s) (sym (joined_none (alone && not (good_entry w)))) ∙ one_entry alone w []
  entry_lines alone n at (w ∷ u ∷ ws) =
      ap (λ (s : List ℕ). entry_bytes (not (good_entry w)) alone w ++ s) (entry_lines (alone && not (good_entry w)) (n + 1) (at + length w + 1) (u ∷ ws))
      ∙ one_entry alone w (u ∷ ws)

  made_portacl : (t : List ℕ) → made_of K.Portacl v false t ≡ salvage_portacl t
  unfolding made_of lines_from stop_of written salvage_portacl
  made_portacl [] = sym empty_same
  made_portacl (x ∷ t) =
      rw (ne_eqb (length (x ∷ t)) 0 (λ z. omega arith), lt-ltb 0 (length (x ∷ t) + 1) (omega arith)) (entry_lines true 1 0 (split "," (x ∷ t)))

  pub made_texts_lem : (ts : Texts) → made_texts v ts ≡ salvaged_by (bad_by v) ts
  unfolding made_texts salvaged_by
  made_texts_lem ts = rw (made_allow ts.allow, made_deny ts.deny, made_byuid ts.byuid, made_portacl ts.portacl)

  -- ## The list

  -- the bad ones of some pieces, by their numbers
  abbrev worse : Kind → Line → Bool
  worse k l = is_bad k v l.raw l.ended

  abbrev numbers_of : Kind → List Line → List ℕ
  numbers_of k ls = map (λ (l : Line). l.number) (keep (worse k) ls)

  listed_lines : (k : Kind) (alone : Bool) (ls : List Line) → written k v true alone ls ≡ list_bytes (in_section (section_of k) (numbers_of k ls))
  unfolding written written_for listed_bytes keep list_bytes flat_map
  listed_lines k alone [] = refl
  listed_lines k alone (l ∷ ls) = by (worse k l) (listed_lines k (alone && worse k l) ls)
    where
      by : (b : Bool) → written k v true (alone && worse k l) ls ≡ flat_map change_bytes (in_section (section_of k) (numbers_of k ls))
          → (when b then change_bytes ((section_of k).order, l.number) else []) ++ written k v true (alone && worse k l) ls
          ≡ flat_map change_bytes (in_section (section_of k) (map (λ (l : Line). l.number) (when b then l ∷ keep (worse k) ls else keep (worse k) ls)))
      by true ih = ap (λ (s : List ℕ). change_bytes ((section_of k).order, l.number) ++ s) ih
      by false ih = ih

  keep_same : (p q : Line → Bool) → ((l : Line) → p l ≡ q l) → (ls : List Line) → keep p ls ≡ keep q ls
  keep_same p q e ls = ap (λ (f : Line → Bool). keep f ls) (fun_ext e)

  rule_allow : (l : Line) → worse K.Allow l ≡ bad_by v l
  unfolding is_bad
  rule_allow l = (judge_view v).moved 0 0 l.number l.place l.raw l.ended

  rule_deny : (l : Line) → worse K.Deny l ≡ bad_by v l
  unfolding is_bad
  rule_deny l = (judge_view v).moved 0 0 l.number l.place l.raw l.ended

  bind_retired : (s : List ℕ) (b : Bool) → is_bad K.Byuid v s b ≡ is_retired s
  unfolding is_bad
  bind_retired s b = refl

  entry_bad : (s : List ℕ) (b : Bool) → is_bad K.Portacl v s b ≡ not (good_entry s)
  unfolding is_bad
  entry_bad s b = refl

  listed_allow : (t : List ℕ) → made_of K.Allow v true t ≡ list_bytes (in_section S.allow (bad_lines (bad_by v) t))
  unfolding made_of lines_from lines
  listed_allow t =
      listed_lines K.Allow true (logical_lines 1 0 (split "\n" t))
      ∙ ap (λ (ls : List Line). list_bytes (in_section S.allow (map (λ (l : Line). l.number) ls)))
      (keep_same (worse K.Allow) (bad_by v) rule_allow (logical_lines 1 0 (split "\n" t)))

  listed_deny : (t : List ℕ) → made_of K.Deny v true t ≡ list_bytes (in_section S.deny (bad_lines (bad_by v) t))
  unfolding made_of lines_from lines
  listed_deny t =
      listed_lines K.Deny true (logical_lines 1 0 (split "\n" t))
      ∙ ap (λ (ls : List Line). list_bytes (in_section S.deny (map (λ (l : Line). l.number) ls)))
      (keep_same (worse K.Deny) (bad_by v) rule_deny (logical_lines 1 0 (split "\n" t)))

  -- parts by their numbers
  plain_places : (k : Kind) (p : List ℕ → Bool) → ((s : List ℕ) (b : Bool) → is_bad k v s b ≡ p s) → (n at : ℕ) (ws : List (List ℕ))
      → numbers_of k (plain_lines n at ws) ≡ places p n ws
  unfolding plain_lines keep places
  plain_places k p e n at [] = refl
  plain_places k p e n at (w ∷ []) = rw (e w false) (by (p w))
    where
      by : (b : Bool) → map (λ (l : Line). l.number) (when b then line n at w false ∷ [] else []) ≡ (when b then n ∷ [] else [])
      by true = refl
      by false = refl
  plain_places k p e n at (w ∷ u ∷ ws) = rw (e w true) (by (p w) (plain_places k p e (n + 1) (at + length w + 1) (u ∷ ws)))
    where
      rest : List Line
      rest = keep (worse k) (plain_lines (n + 1) (at + length w + 1) (u ∷ ws))

      by : (b : Bool) → map (λ (l : Line). l.number) rest ≡ places p (n + 1) (u ∷ ws)
          → map (λ (l : Line). l.number) (when b then line n at w true ∷ rest else rest) ≡ (when b then n ∷ places p (n + 1) (u ∷ ws) else places p (n + 1)
          (u ∷ ws))
      by true ih = ap (λ (ns : List ℕ). n ∷ ns) ih
      by false ih = ih

  listed_byuid : (t : List ℕ) → made_of K.Byuid v true t ≡ list_bytes (in_section S.byuid (places is_retired 1 (split "\n" t)))
  unfolding made_of lines_from stop_of
  listed_byuid t =
      rw (lt-ltb 0 (length t + 1) (omega arith))
      (listed_lines K.Byuid true (plain_lines 1 0 (split "\n" t))
      ∙ ap (λ (ns : List ℕ). list_bytes (in_section S.byuid ns)) (plain_places K.Byuid is_retired bind_retired 1 0 (split "\n" t)))

  listed_portacl : (t : List ℕ) → made_of K.Portacl v true t ≡ list_bytes (in_section S.portacl (bad_entries t))
  unfolding made_of lines_from stop_of written list_bytes flat_map
  listed_portacl [] = refl
  listed_portacl (x ∷ t) =
      rw (ne_eqb (length (x ∷ t)) 0 (λ z. omega arith), lt-ltb 0 (length (x ∷ t) + 1) (omega arith))
      (listed_lines K.Portacl true (plain_lines 1 0 (split "," (x ∷ t)))
      ∙ ap (λ (ns : List ℕ). list_bytes (in_section S.portacl ns)) (plain_places K.Portacl (λ e. not (good_entry e)) entry_bad 1 0 (split "," (x ∷ t))))

list_append : (a b : List (ℕ × ℕ)) → list_bytes (a ++ b) ≡ list_bytes a ++ list_bytes b
unfolding list_bytes flat_map
list_append [] b = refl
list_append (c ∷ a) b = ap (λ (s : List ℕ). change_bytes c ++ s) (list_append a b) ∙ sym (append_assoc (change_bytes c) (list_bytes a) (list_bytes b))

pub made_list_lem : (v : View) (ts : Texts) → made_list v ts ≡ list_bytes (changes_by (bad_by v) ts)
unfolding made_list changes_by
made_list_lem v ts =
    let a : List (ℕ × ℕ) = in_section S.allow (bad_lines (bad_by v) ts.allow) in
    let d : List (ℕ × ℕ) = in_section S.deny (bad_lines (bad_by v) ts.deny) in
    let b : List (ℕ × ℕ) = in_section S.byuid (places is_retired 1 (split "\n" ts.byuid)) in
    let p : List (ℕ × ℕ) = in_section S.portacl (bad_entries ts.portacl) in
    rw (listed_allow v ts.allow, listed_deny v ts.deny, listed_byuid v ts.byuid, listed_portacl v ts.portacl)
    (sym (list_append (a ++ d ++ b) p
    ∙ ap (λ (s : List ℕ). s ++ list_bytes p) (list_append (a ++ d) b ∙ ap (λ (s : List ℕ). s ++ list_bytes b) (list_append a d))
    ∙ append_assoc (list_bytes a ++ list_bytes d) (list_bytes b) (list_bytes p) ∙ append_assoc (list_bytes a) (list_bytes d) (list_bytes b ++ list_bytes p)))
