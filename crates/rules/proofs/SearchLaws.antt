-- The search by notes on the tables finds what the papers' search finds, and doubts just where there is a refusal.
--   view_found_lem    == what a rule finds by the notes is what it finds by the tables
--   noted_none, noted_view == the notes on no tables, and those that a view gives
--   found_doubtful, found_answer == what the search finds
-- Assumes nothing.
use Rattle.std.specs.Prelude.{Err, None, Ok, Option, Some, unwrap_or}
use Prim.Native.Nat.{ℕ, zero, suc, ◌+◌, ◌≤◌}
use native.Mathlib.Omega.{arith}
use mathlib.Core.Bool.{Bool, true, false, not, ◌&&◌, ◌||◌, true≢false, or-false}
use mathlib.Core.List.{List, [], ◌∷◌}
use mathlib.Core.Path.{◌≡◌, refl, sym, ap, ap₂, fun_ext, subst, ◌∙◌}
use lib.Dec.{eqb, ltb}
use lib.ListN.{length, drop, drop_of_length-le}
use borrow.Author.Tests.{eqb-true, lt-ltb, le-ltb, ltb-false}
use Rattle.text.specs.Basics.{when◌then◌else◌, ◌>>=◌, ◌or_else◌, given, holds, is_some, any, first, sum_until}
use Rattle.text.specs.Text.{first_among}
use Rattle.text.specs.Number.{from_digits}
use Rattle.section.specs.declared.Fault.TheVariants as F
use Rattle.section.specs.declared.Refusal.{Refusal}
use Rattle.section.specs.Section as S
use Rattle.section.specs.Section.{part, bytes_at}
use Rattle.patterns.specs.Host.{Endpoint, endpoint}
use Rattle.patterns.specs.Pattern.{Pattern, host_pattern}
use Rattle.patterns.specs.Code.{matches_pattern}
use Rattle.lines.specs.Line.{lines}
use Rattle.lines.specs.Rule.{Rule}
use Rattle.tables.specs.declared.check.TablesCheck.{TablesCheck}
use Rattle.tables.specs.Table.{Table, Matcher, after_count, table_name, table_named, is_missing, pattern_with, in_table, leads_past, match_of, read_table, tables_of}
use Rattle.tables.specs.Table.{table_name_fault, bad_table_fault, first_table}
use Rattle.tables.specs.Tried.{tried_in, tried_of, capped}
use Rattle.tables.specs.Code.{entries, table_count, tables_in, tables_checked, place_named}
use Rattle.tables.proofs.TableLaws.{missing_place, refused_by, names_told, bad_told}
use Rattle.views.specs.declared.NamingFault.{NamingFault}
use Rattle.views.specs.declared.NamingFault.TheVariants as NamingFault
use Rattle.views.specs.View.{naming_of, noted_match, noted_tried, placed_naming, is_deep}
use Rattle.views.specs.Names.{noted_place}
use Rattle.views.specs.Level.{Viewed, ViewedBy}
use Rattle.views.specs.declared.Viewing.{Viewing}
use Rattle.views.proofs.ViewLaws.{view_place, match_client, match_server, tried_client, tried_server, view_notes, closed, naming_right}
use Rattle.elements.specs.declared.Found.{Found}
use Rattle.elements.specs.declared.Found.TheVariants.{No, Ask}
use Rattle.elements.specs.declared.request.Request.{Request as Places}
use Rattle.elements.specs.Request.{Request, user_case}
use Rattle.elements.specs.Places.{request_at}
use Rattle.elements.specs.Element.{halves, daemon_name, user_half, found_if, daemon_parts, client_parts, daemon_element, client_element, look_at, element_looked}
use Rattle.elements.specs.Code.{View, view_of, noted}
use Rattle.elements.proofs.CountLaws.{capped_twice}
use Rattle.lists.specs.Walk.{on_found, included, rule_found_by, rule_found}
use Rattle.lists.specs.Looked.{further_on, looked_included, rule_looked_by, rule_looked}
use Rattle.lists.specs.Code.{missing_by, deep_by, is_missing_name, is_deep_name}
use Rattle.rules.specs.declared.Verdict.TheVariants as Ver
use Rattle.rules.specs.declared.File.TheVariants as File
use Rattle.rules.specs.declared.Answer.{Answer}
use Rattle.rules.specs.declared.hosts_file.Tally.{Tally}
use Rattle.rules.specs.declared.search.Searched.{Searched}
use Rattle.rules.specs.Check.{hosts_fault, naming_fault, missing_fault, depth_fault, tables_fault}
use Rattle.rules.specs.Search.{answer, line_answer, search}
use Rattle.rules.specs.Looked.{file_looked, looked}
use Rattle.rules.specs.FileCode.{Query, query_found, query_looked, hosts_fault_at, pass_of, pass_both, tallied, lines_looked, both_looked}
use Rattle.rules.specs.Code.{Noted, NotedBy, NamingNoted, lines_fault, contents_fault, tables_over, tables_doubtful, searched, finding_of, finding_by}
use Rattle.rules.proofs.NearLaws.{Near, rule_near, total, total_near}
use Rattle.rules.proofs.NamingLaws.{is_some_or_else, naming_same, judged_some}

-- ## What a rule finds

-- a pattern looks at what a named table matches of one host alone
pattern_at : (s m : Matcher) (h : Endpoint) → ((n : List ℕ) → s n h ≡ m n h) → (e : List ℕ)
    → matches_pattern (pattern_with s e) h ≡ matches_pattern (pattern_with m e) h
unfolding pattern_with
pattern_at s m h same e = by (first_among "/" e) (table_name e)
  where
    by : (b : Bool) (o : Option (List ℕ)) → matches_pattern (when b then (o >>= λ n. Some (s n)) else host_pattern e) h
        ≡ matches_pattern (when b then (o >>= λ n. Some (m n)) else host_pattern e) h
    by true None = refl
    by true (Some n) = same n
    by false o = refl

module _ (s m : Matcher) (r : Request) where
  daemon_at_lem : ((n : List ℕ) → s n r.server ≡ m n r.server) → (e : List ℕ) → look_at r (daemon_element s e) ≡ look_at r (daemon_element m e)
  unfolding daemon_element daemon_parts
  daemon_at_lem same e = by (halves e)
    where
      both : (o : Option (List ℕ → Bool)) (p q : Pattern) → matches_pattern p r.server ≡ matches_pattern q r.server
          → look_at r (o >>= λ f. p >>= λ g. Some (λ x. found_if (f x.daemon && g x.server)))
          ≡ look_at r (o >>= λ f. q >>= λ g. Some (λ x. found_if (f x.daemon && g x.server)))
      both None p q k = refl
      both (Some f) p q k = told f p ∙ ap (λ (b : Bool). found_if (f r.daemon && b)) k ∙ sym (told f q)
        where
          told : (f : List ℕ → Bool) (p : Pattern) → look_at r (p >>= λ g. Some (λ x. found_if (f x.daemon && g x.server)))
              ≡ found_if (f r.daemon && matches_pattern p r.server)
          told f None = by_name (f r.daemon)
            where
              by_name : (b : Bool) → No ≡ found_if (b && false)
              by_name true = refl
              by_name false = refl
          told f (Some g) = refl

      by : (h : Option (List ℕ × List ℕ)) → look_at r (daemon_parts s e h) ≡ look_at r (daemon_parts m e h)
      by None = refl
      by (Some p) = both (daemon_name p.0) (pattern_with s p.1) (pattern_with m p.1) (pattern_at s m r.server same p.1)

  pub client_at : ((n : List ℕ) → s n r.client ≡ m n r.client) → (e : List ℕ) → look_at r (client_element s e) ≡ look_at r (client_element m e)
  unfolding client_element client_parts
  client_at same e = by (halves e)
    where
      whole : (p q : Pattern) → matches_pattern p r.client ≡ matches_pattern q r.client
          → look_at r (p >>= λ g. Some (λ x. found_if (g x.client))) ≡ look_at r (q >>= λ g. Some (λ x. found_if (g x.client)))
      whole p q k = told p ∙ ap found_if k ∙ sym (told q)
        where
          told : (p : Pattern) → look_at r (p >>= λ g. Some (λ x. found_if (g x.client))) ≡ found_if (matches_pattern p r.client)
          told None = refl
          told (Some g) = refl

      both : (o : Option (Request → Bool)) (p q : Pattern) → matches_pattern p r.client ≡ matches_pattern q r.client
          → look_at r (o >>= λ f. p >>= λ g. Some (λ x. when g x.client then user_case x Ask (found_if (f x)) (found_if (f x)) else No))
          ≡ look_at r (o >>= λ f. q >>= λ g. Some (λ x. when g x.client then user_case x Ask (found_if (f x)) (found_if (f x)) else No))
      both None p q k = refl
      both (Some f) p q k = told p ∙ ap (λ (b : Bool). when b then user_case r Ask (found_if (f r)) (found_if (f r)) else No) k ∙ sym (told q)
        where
          told : (p : Pattern) → look_at r (p >>= λ g. Some (λ x. when g x.client then user_case x Ask (found_if (f x)) (found_if (f x)) else No))
              ≡ (when matches_pattern p r.client then user_case r Ask (found_if (f r)) (found_if (f r)) else No)
          told None = refl
          told (Some g) = refl

      by : (h : Option (List ℕ × List ℕ)) → look_at r (client_parts s e h) ≡ look_at r (client_parts m e h)
      by None = whole (pattern_with s e) (pattern_with m e) (pattern_at s m r.client same e)
      by (Some p) = both (user_half p.0) (pattern_with s p.1) (pattern_with m p.1) (pattern_at s m r.client same p.1)

pub view_found_lem : (s c m : Matcher) (r : Request) → ((n : List ℕ) → s n r.server ≡ m n r.server) → ((n : List ℕ) → c n r.client ≡ m n r.client)
    → rule_found_by s c r ≡ rule_found m r
unfolding rule_found_by
view_found_lem s c m r server client =
    ap₂ {C = Rule → Found} (λ (d e : List ℕ → Found) (u : Rule). on_found (included d u.daemons) (included e u.clients) No)
    (fun_ext (daemon_at_lem s m r server)) (fun_ext (client_at c m r client))

-- what it looks at differs only by what is tried in a table
pub view_looked_lem : (s c m : Matcher) (x y : List ℕ → ℕ) (r : Request)
    → ((n : List ℕ) → s n r.server ≡ m n r.server) → ((n : List ℕ) → c n r.client ≡ m n r.client)
    → rule_looked_by s c x y r ≡ rule_looked_by m m x y r
unfolding rule_looked_by
view_looked_lem s c m x y r server client =
    ap₂ {C = Rule → ℕ} (λ (d e : List ℕ → Found) (u : Rule). looked_included d (element_looked x) u.daemons
    + further_on (included d u.daemons) (looked_included e (element_looked y) u.clients) 0)
    (fun_ext (daemon_at_lem s m r server)) (fun_ext (client_at c m r client))

-- ## Notes

pub missing_of : (t notes n : List ℕ) → noted_place t notes n ≡ place_named (tables_in t) n → (length notes ≡ 0 → ⊥)
    → is_missing_name (naming_of t notes n) ≡ is_missing (tables_in t) n
unfolding naming_of
missing_of t [] n e full = absurd (full refl)
missing_of t (x ∷ notes) n e full =
    by (noted_place t (x ∷ notes) n) ∙ ap (λ (o : Option ℕ). not (is_some o)) e ∙ sym (missing_place (tables_in t) n)
  where
    by : (o : Option ℕ) → is_missing_name (placed_naming (x ∷ notes) o) ≡ not (is_some o)
    by None = refl
    by (Some i) = sound (is_deep (x ∷ notes) i)
      where
        sound : (b : Bool) → is_missing_name (when b then Err NamingFault.Deep else Ok tt) ≡ false
        sound true = refl
        sound false = refl

-- a missing table leads nowhere
past_missing : (ts : List Table) (n : List ℕ) → is_missing ts n ≡ true → leads_past ts 4 n ≡ false
unfolding leads_past any
past_missing ts n e = by (table_named ts n) refl e
  where
    by : (o : Option Table) → table_named ts n ≡ o → not (is_some o) ≡ true → leads_past ts 4 n ≡ false
    by None q k = rw q
    by (Some t) q k = absurd (true≢false (sym k))

pub noted_deep_of : (ts : List Table) (n : List ℕ)
    → is_deep_name (when is_missing ts n then Err NamingFault.Missing else when leads_past ts 4 n then Err NamingFault.Deep else Ok tt) ≡ leads_past ts 4 n
noted_deep_of ts n = by (is_missing ts n) refl
  where
    by : (b : Bool) → is_missing ts n ≡ b → is_deep_name (when b then Err NamingFault.Missing else when leads_past ts 4 n then Err NamingFault.Deep else Ok tt) ≡ leads_past ts 4 n
    by true e = sym (past_missing ts n e)
    by false e = sound (leads_past ts 4 n)
      where
        sound : (b : Bool) → is_deep_name (when b then Err NamingFault.Deep else Ok tt) ≡ b
        sound true = refl
        sound false = refl

pub noted_view : (t : List ℕ) (r : Request) (notes : List ℕ) → Viewed t r.client r.server notes → (length notes ≡ 0 → ⊥) → Noted t r notes
noted_view t r notes is_v full = record {
  noted_client = match_client t r.client r.server notes is_v;
  noted_server = match_server t r.client r.server notes is_v;
  noted_client_tried = tried_client t r.client r.server notes is_v;
  noted_server_tried = tried_server t r.client r.server notes is_v;
  noted_missing = λ n. missing_of t notes n (found n) full;
  noted_deep = λ e n.
      ap is_deep_name
      (naming_right (tables_in t) (closed (tables_in t) e) notes (view_notes t r.client r.server notes is_v) t n (found n) full)
      ∙ noted_deep_of (tables_in t) n;
}
  where
    found : (n : List ℕ) → noted_place t notes n ≡ place_named (tables_in t) n
    found n = view_place t r.client r.server notes is_v n

entries_none : (k : ℕ) → entries k [] ≡ []
unfolding entries read_table after_count from_digits
entries_none zero = refl
entries_none (suc k) = refl

pub short_none : (t : List ℕ) → length t ≤ 2 → tables_in t ≡ []
unfolding tables_in
short_none t h = rw (drop_of_length-le t h) (entries_none (table_count t))

pub noted_none : (t : List ℕ) (r : Request) → tables_in t ≡ [] → Noted t r (0 ∷ 0 ∷ 0 ∷ [])
unfolding noted_match noted_tried noted_place place_named in_table tried_in leads_past table_named first any sum_until naming_of capped
noted_none t r e = record {
  noted_client = λ n. rw e;
  noted_server = λ n. rw e;
  noted_client_tried = λ n. rw e;
  noted_server_tried = λ n. rw e;
  noted_missing = λ n. rw e;
  noted_deep = λ k n. rw e;
}

-- where there are no tables, and what notes_on gives
module _ (t : List ℕ) (r : Request) where
  pub notes_none : length t ≤ 2 → Noted t r (0 ∷ 0 ∷ 0 ∷ [])
  notes_none h = noted_none t r (short_none t h)

notes_view : (t names : List ℕ) (q : Places) (a b notes : List ℕ) → length notes ≡ 259 → a ≡ bytes_at names q.client_name
    → b ≡ bytes_at names q.server_name → Viewed t (endpoint q.client a) (endpoint q.server b) notes
    → Noted t (request_at names q) notes
notes_view t names q a b notes long is-a is_b is_v =
    noted_view t (request_at names q) notes
    (subst (λ (x : List ℕ). Viewed t (endpoint q.client x) (endpoint q.server (bytes_at names q.server_name)) notes) is-a
    (subst (λ (y : List ℕ). Viewed t (endpoint q.client a) (endpoint q.server y) notes) is_b is_v)) (λ e. omega arith)

pub view_noted : (t names : List ℕ) (q : Places) (a b : List ℕ) (v : Viewing) → length v.notes ≡ 259
    → a ≡ bytes_at names q.client_name → b ≡ bytes_at names q.server_name
    → ViewedBy t (endpoint q.client a) (endpoint q.server b) v → NotedBy t (request_at names q) v
view_noted t names q a b v long is-a is_b is_v = record {
  by_notes = notes_view t names q a b v.notes long is-a is_b is_v.viewed_notes;
  by_clean = is_v.viewed_clean;
}

pub naming_noted : (t : List ℕ) (r : Request) (notes : List ℕ) → Noted t r notes → NamingNoted t notes
naming_noted t r notes h = record { naming_missing = h.noted_missing; naming_deep = h.noted_deep }

-- ## What the search finds

finding_some : (o p : Option Refusal) (a : Searched) → is_some o ≡ is_some p → finding_of o a ≡ finding_of p a
finding_some None None a e = refl
finding_some None (Some g) a e = absurd (true≢false (sym e))
finding_some (Some f) None a e = absurd (true≢false e)
finding_some (Some f) (Some g) a e = refl

finding_pass : (o : Option Refusal) (x : Option Answer) (n : ℕ)
    → finding_by (tallied (pass_of o x) n) ≡ finding_of o (searched (unwrap_or x (answer Ver.Granted File.Neither 0 (part 0 0))) n)
finding_pass (Some f) x n = refl
finding_pass None None n = refl
finding_pass None (Some a) n = refl

or_order : (a b c d e f : Bool) → ((a || (b || c)) || (d || (e || f))) ≡ ((a || d) || ((((b || e) || false) || c) || f))
or_order true b c d e f = refl
or_order false true c true e f = refl
or_order false true c false e f = refl
or_order false false true true e f = refl
or_order false false true false true f = refl
or_order false false true false false f = refl
or_order false false false true e f = refl
or_order false false false false true f = refl
or_order false false false false false f = refl

doubt_some : (l x mis da dd lim uns : Bool) → (lim || (mis || uns)) ≡ true → (l || ((((x || mis) || da) || dd) || (lim || uns))) ≡ true
doubt_some true x mis da dd lim uns h = refl
doubt_some false true mis da dd lim uns h = refl
doubt_some false false true da dd lim uns h = refl
doubt_some false false false true dd lim uns h = refl
doubt_some false false false false true lim uns h = refl
doubt_some false false false false false true uns h = refl
doubt_some false false false false false false uns h = h

or_nones : (a b c : Bool) → (a || (b || c)) ≡ false → (a ≡ false) × ((b ≡ false) × (c ≡ false))
or_nones true b c h = absurd (true≢false h)
or_nones false true c h = absurd (true≢false h)
or_nones false false c h = (refl, (refl, h))

none_of : (o : Option Refusal) → is_some o ≡ false → o ≡ None
none_of None e = refl
none_of (Some f) e = absurd (true≢false e)

first_or : (a b : Bool) → (a || b) ≡ false → a ≡ false
first_or true b h = h
first_or false b h = refl

-- where there are no tables there is no doubt
short_clear : (t : List ℕ) → length t ≤ 2 → false ≡ tables_doubtful t
unfolding tables_doubtful tables_checked first_table
short_clear t h = rw (short_none t h, le-ltb 12288 (length t) (omega arith))

module _ (allow deny t : List ℕ) (whole : tables_in t ≡ tables_of t) (r : Request) where
  abbrev found_answered : Searched
  found_answered = searched (search (match_of (tables_of t)) allow deny r) (capped (looked (tables_of t) allow deny r))

  abbrev found : Option Searched
  found = finding_of (contents_fault allow deny t) found_answered

  doubt : is_some (contents_fault allow deny t) ≡ true → None ≡ found
  doubt e = by (contents_fault allow deny t) e
    where
      by : (o : Option Refusal) → is_some o ≡ true → None ≡ finding_of o found_answered
      by None k = absurd (true≢false (sym k))
      by (Some f) k = refl

  -- the faults of the tables themselves
  abbrev limits : Bool
  limits = ltb 64 (length (tables_in t)) || ltb 12288 (length t)

  abbrev misnamed : Bool
  misnamed = not (eqb (tables_checked (tables_in t)).misnamed 0)

  abbrev unsound : Bool
  unsound = not (eqb (tables_checked (tables_in t)).unsound 0)

  named_some : is_some (table_name_fault (tables_of t)) ≡ misnamed
  named_some = rw (names_told (tables_of t), ← whole) (by (eqb (tables_checked (tables_in t)).misnamed 0))
    where
      by : (b : Bool) → is_some (refused_by F.TableName (when b then None else Some (tables_checked (tables_in t)).misnamed)) ≡ not b
      by true = refl
      by false = refl

  bad_some : is_some (bad_table_fault t) ≡ (limits || unsound)
  bad_some = rw (bad_told t, ← whole) (by limits (eqb (tables_checked (tables_in t)).unsound 0))
    where
      by : (a b : Bool) → is_some (refused_by F.BadTable (given a 0 or_else (when b then None else Some (tables_checked (tables_in t)).unsound))) ≡ (a || not b)
      by true b = refl
      by false true = refl
      by false false = refl

  abbrev ts : List Table
  ts = tables_of t

  -- the faults of the lines and of the tables, each by whether there is one
  contents_some : is_some (contents_fault allow deny t)
      ≡ ((is_some (hosts_fault S.allow allow) || is_some (hosts_fault S.deny deny))
      || (((((is_some (missing_fault ts S.allow allow) || is_some (missing_fault ts S.deny deny)) || misnamed)
      || is_some (depth_fault ts S.allow allow)) || is_some (depth_fault ts S.deny deny)) || (limits || unsound)))
  unfolding contents_fault lines_fault tables_fault
  contents_some =
      let a : Option Refusal = missing_fault ts S.allow allow in
      let b : Option Refusal = missing_fault ts S.deny deny in
      let c : Option Refusal = table_name_fault ts in
      let d : Option Refusal = depth_fault ts S.allow allow in
      let e : Option Refusal = depth_fault ts S.deny deny in
      is_some_or_else (hosts_fault S.allow allow or_else hosts_fault S.deny deny) (a or_else b or_else c or_else d or_else e or_else bad_table_fault t)
      ∙ ap₂ ◌||◌ (is_some_or_else (hosts_fault S.allow allow) (hosts_fault S.deny deny))
      (is_some_or_else (a or_else b or_else c or_else d or_else e) (bad_table_fault t)
      ∙ ap₂ ◌||◌
      (is_some_or_else (a or_else b or_else c or_else d) e
      ∙ ap (λ (x : Bool). x || is_some e)
      (is_some_or_else (a or_else b or_else c) d
      ∙ ap (λ (x : Bool). x || is_some d) (is_some_or_else (a or_else b) c ∙ ap₂ ◌||◌ (is_some_or_else a b) named_some)))
      bad_some)

  pub found_doubtful : (x : Bool) → x ≡ tables_doubtful t → x ≡ true → None ≡ found
  unfolding tables_doubtful
  found_doubtful x is_x e = doubt (contents_some
      ∙ doubt_some (is_some (hosts_fault S.allow allow) || is_some (hosts_fault S.deny deny))
      (is_some (missing_fault ts S.allow allow) || is_some (missing_fault ts S.deny deny)) misnamed (is_some (depth_fault ts S.allow allow))
      (is_some (depth_fault ts S.deny deny)) limits unsound (sym is_x ∙ e))

  module _ (x : Bool) (is_x : x ≡ tables_doubtful t) (e : x ≡ false) where
    clear : (limits ≡ false) × ((misnamed ≡ false) × (unsound ≡ false))
    unfolding tables_doubtful
    clear = or_nones limits misnamed unsound (sym is_x ∙ e)

    module _ (notes : List ℕ) (is-noted : Noted t r notes) where
      abbrev v : View
      v = view_of t notes

      missing_same : (n : List ℕ) → missing_by v n ≡ is_missing ts n
      missing_same n = is-noted.noted_missing n ∙ ap (λ (y : List Table). is_missing y n) whole

      deep_same : (n : List ℕ) → deep_by v n ≡ leads_past ts 4 n
      deep_same n =
          is-noted.noted_deep (rw whole (none_of (table_name_fault (tables_of t)) (named_some ∙ clear.1.0))) n
          ∙ ap (λ (y : List Table). leads_past y 4 n) whole

      text_some : (s : S.Section) (u : List ℕ) → is_some (hosts_fault_at s.order v u)
          ≡ (is_some (hosts_fault s u) || (is_some (missing_fault ts s u) || is_some (depth_fault ts s u)))
      text_some s u = judged_some s v u
          ∙ ap (λ (b : Bool). is_some (hosts_fault s u) || b)
          (ap₂ ◌||◌
          (ap (λ (o : Option Refusal). is_some o) (naming_same F.TableName (missing_by v) s u (is_missing ts) missing_same))
          (ap (λ (o : Option Refusal). is_some o) (naming_same F.TooDeep (deep_by v) s u (leads_past ts 4) deep_same)))

      both_some : is_some (hosts_fault_at 1 v allow or_else hosts_fault_at 2 v deny) ≡ is_some (contents_fault allow deny t)
      both_some =
          is_some_or_else (hosts_fault_at 1 v allow) (hosts_fault_at 2 v deny)
          ∙ ap₂ ◌||◌ (text_some S.allow allow) (text_some S.deny deny)
          ∙ or_order (is_some (hosts_fault S.allow allow)) (is_some (missing_fault ts S.allow allow)) (is_some (depth_fault ts S.allow allow))
          (is_some (hosts_fault S.deny deny)) (is_some (missing_fault ts S.deny deny)) (is_some (depth_fault ts S.deny deny))
          ∙ sym (contents_some ∙ rw (clear.0, clear.1.0, clear.1.1)
          (ap (λ (b : Bool). (is_some (hosts_fault S.allow allow) || is_some (hosts_fault S.deny deny)) || b)
          (or-false _)))

      same_found_lem : query_found (record { view = v; request = r }) ≡ rule_found (match_of ts) r
      unfolding noted
      same_found_lem = view_found_lem v.server v.client (match_of ts) r
          (λ n. is-noted.noted_server n ∙ ap (λ (y : List Table). match_of y n r.server) whole)
          (λ n. is-noted.noted_client n ∙ ap (λ (y : List Table). match_of y n r.client) whole)

      abbrev query : Query
      query = record { view = v; request = r }

      -- what is tried in a table, as 64 bits say it
      server_near : Near v.server_tried (λ n. tried_of ts n r.server)
      server_near n = ap capped (is-noted.noted_server_tried n) ∙ capped_twice (tried_of (tables_in t) n r.server)
          ∙ ap (λ (y : List Table). capped (tried_of y n r.server)) whole

      client_near : Near v.client_tried (λ n. tried_of ts n r.client)
      client_near n = ap capped (is-noted.noted_client_tried n) ∙ capped_twice (tried_of (tables_in t) n r.client)
          ∙ ap (λ (y : List Table). capped (tried_of y n r.client)) whole

      same_looked : Near (query_looked query) (rule_looked ts r)
      unfolding noted
      same_looked u =
          ap (λ (f : Rule → ℕ). capped (f u)) (view_looked_lem v.server v.client (match_of ts) v.server_tried v.client_tried r
          (λ n. is-noted.noted_server n ∙ ap (λ (y : List Table). match_of y n r.server) whole)
          (λ n. is-noted.noted_client n ∙ ap (λ (y : List Table). match_of y n r.client) whole))
          ∙ rule_near (match_of ts) (match_of ts) r v.server_tried (λ n. tried_of ts n r.server) v.client_tried (λ n. tried_of ts n r.client)
          server_near client_near u

      both_looked_lem : capped (both_looked query allow deny) ≡ capped (looked ts allow deny r)
      unfolding both_looked looked file_looked lines_looked
      both_looked_lem = ap (λ (g : Rule → Found). capped (total g (query_looked query) allow deny)) same_found_lem
          ∙ total_near (rule_found (match_of ts) r) (query_looked query) (rule_looked ts r) same_looked allow deny

      pub found_answer : (p : Tally) → p ≡ tallied (pass_both query allow deny) (capped (both_looked query allow deny))
          → (f : Option Searched) → f ≡ finding_by p → f ≡ found
      unfolding pass_both search
      found_answer p is-p f is_f =
          let o : Option Refusal = hosts_fault_at 1 v allow or_else hosts_fault_at 2 v deny in
          let answers : (Rule → Found) → Option Answer = λ g.
          first (line_answer Ver.Granted File.Allow g) (lines allow) or_else first (line_answer Ver.Denied File.Deny g) (lines deny) in
          let end : Answer = answer Ver.Granted File.Neither 0 (part 0 0) in
          is_f ∙ ap finding_by is-p ∙ finding_pass o (answers (query_found query)) (capped (both_looked query allow deny))
          ∙ ap₂ (λ (g : Rule → Found) (n : ℕ). finding_of o (searched (unwrap_or (answers g) end) n)) same_found_lem both_looked_lem
          ∙ finding_some o (contents_fault allow deny t) (searched (unwrap_or (answers (rule_found (match_of ts) r)) end) (capped (looked ts allow deny r)))
          both_some

  pub found_over : (x : Bool) → x ≡ tables_over t → x ≡ true → None ≡ found
  unfolding tables_doubtful
  found_over x is_x e = found_doubtful (tables_doubtful t) refl (rw (← is_x, e))

  pub found_short : length t ≤ 2 → (p : Tally)
      → p ≡ tallied (pass_both (record { view = view_of t (0 ∷ 0 ∷ 0 ∷ []); request = r }) allow deny)
      (capped (both_looked (record { view = view_of t (0 ∷ 0 ∷ 0 ∷ []); request = r }) allow deny))
      → (f : Option Searched) → f ≡ finding_by p → f ≡ found
  found_short h p is-p f is_f = found_answer false (short_clear t h) refl (0 ∷ 0 ∷ 0 ∷ []) (notes_none t r h) p is-p f is_f

-- ## What a pass, and the tables by themselves, tell

module _ (p : Tally) where
  pub by_faulty : (g : Refusal) → p.pass ≡ Err g → None ≡ finding_by p
  by_faulty g e = rw e

  pub by_unmatched : p.pass ≡ (Ok None) → Some (searched (answer Ver.Granted File.Neither 0 (part 0 0)) p.looked) ≡ finding_by p
  by_unmatched e = rw e

  pub by_matched : (a : Answer) → p.pass ≡ Ok (Some a) → Some (searched a p.looked) ≡ finding_by p
  by_matched a e = rw e

module _ (t : List ℕ) (x : Bool) (is_x : x ≡ tables_over t) where
  pub doubt_limits : x ≡ true → true ≡ tables_doubtful t
  unfolding tables_doubtful
  doubt_limits e = rw (← is_x, e)

  pub few_of : x ≡ false → length (tables_in t) ≤ 64
  few_of e = ltb-false 64 (length (tables_in t)) (first_or (ltb 64 (length (tables_in t))) (ltb 12288 (length t)) (sym is_x ∙ e))

  pub doubt_checked : x ≡ false → (c : TablesCheck) → c ≡ tables_checked (tables_in t)
      → (not (eqb c.misnamed 0) || not (eqb c.unsound 0)) ≡ tables_doubtful t
  unfolding tables_doubtful
  doubt_checked e c is_c = rw (← is_x, e, is_c)

-- ## What a finding tells of the texts

module _ (o : Option Refusal) (x : Searched) (f : Option Searched) (is_f : f ≡ finding_of o x) where
  pub sound_answer : (y : Searched) → f ≡ Some y → true ≡ not (is_some o)
  sound_answer y e = by o (sym is_f ∙ e)
    where
      by : (o : Option Refusal) → finding_of o x ≡ Some y → true ≡ not (is_some o)
      by None q = refl
      by (Some g) q = let z : ◌≡◌ {A = ℕ} 0 1 = cc q in absurd (omega arith)

  pub sound_doubtful : f ≡ None → false ≡ not (is_some o)
  sound_doubtful e = by o (sym is_f ∙ e)
    where
      by : (o : Option Refusal) → finding_of o x ≡ None → false ≡ not (is_some o)
      by None q = let z : ◌≡◌ {A = ℕ} 0 1 = cc q in absurd (omega arith)
      by (Some g) q = refl
