-- What the code tells by its notes is what settles, where the texts are sound and the notes are those of the request's hosts.
--   settle_is     == the tie of Code to Matters
--   few_tables    == sound texts have at most 64 tables
--   quiet_settled == where the verdict does not ask, its place settles
-- Assumes nothing.
use Rattle.std.specs.Prelude.{None, Option, Result, Some, unwrap_or, Ok}
use Prim.Native.Nat.{ℕ, ◌≤◌}
use mathlib.Core.Bool.{Bool, true, false, not, ◌&&◌, ◌||◌, true≢false}
use mathlib.Core.List.{List, [], ◌∷◌}
use mathlib.Core.Path.{◌≡◌, refl, sym, ap, ap₂, fun_ext, subst, ◌∙◌}
use borrow.Author.Tests.{ltb-false}
use lib.Dec.{ltb}
use lib.ListN.{length}
use Rattle.text.specs.Basics.{when◌then◌else◌, ◌>>=◌, ◌or_else◌, given, all, first}
use Rattle.text.specs.Text.{in_range}
use Rattle.section.specs.declared.Fault.{Fault}
use Rattle.section.specs.declared.Fault.TheVariants as F
use Rattle.section.specs.declared.Refusal.{Refusal}
use Rattle.section.specs.Refusal.{refusal, at_place}
use Rattle.section.specs.Section as S
use Rattle.section.specs.Section.{Section}
use Rattle.lines.specs.Line.{Line, lines, is_comment, is_blank}
use Rattle.lines.specs.Rule.{Rule, parse_rule}
use Rattle.lines.proofs.RuleLaws.{rule}
use Rattle.tables.specs.Table.{Table, Matcher, tables_of, match_of, table_name_fault, bad_table_fault, first_table, is_unsound}
use Rattle.tables.specs.Code.{tables_in}
use Rattle.elements.specs.declared.User.{User}
use Rattle.elements.specs.declared.User.TheVariants as U
use Rattle.elements.specs.declared.Found.{Found}
use Rattle.elements.specs.declared.Found.TheVariants as Found
use Rattle.elements.specs.Request.{Request}
use Rattle.elements.specs.Code.{View, view_of, with_user, noted, daemon_request, client_request}
use Rattle.elements.specs.Element.{halves, daemon_element, client_element, look_at}
use Rattle.elements.proofs.ElementLaws.{daemon_element_request, client_element_request}
use Rattle.lists.specs.Walk.{on_found, included, rule_found_by, rule_found}
use Rattle.lists.specs.Check.{rule_fault}
use Rattle.lists.specs.Code.{view_found}
use Rattle.lists.specs.ListCode.{daemon_finds, client_finds}
use Rattle.lists.proofs.WalkLaws.{rule_found_lists}
use Rattle.rules.specs.declared.Verdict.{Verdict}
use Rattle.rules.specs.declared.Verdict.TheVariants.{Granted, Denied}
use Rattle.rules.specs.declared.File.{File}
use Rattle.rules.specs.declared.File.TheVariants.{Neither, Allow, Deny}
use Rattle.rules.specs.declared.hosts_file.LineKind.{LineKind}
use Rattle.rules.specs.declared.hosts_file.LineKind.TheVariants as Kind
use Rattle.rules.specs.Check.{line_fault_by, line_fault, hosts_fault, tables_fault, missing_fault, depth_fault}
use Rattle.rules.specs.Search.{search}
use Rattle.rules.specs.FileCode.{layout_fault, kind_as, line_kind}
use Rattle.rules.specs.Code.{Noted, lines_fault, contents_fault}
use Rattle.rules.proofs.UserLaws.{Quiet, QuietVerdict, included_quiet, daemon_quiet, daemon_same, search_same}
use Rattle.rules.proofs.FileLaws.{kind_lowest}
use Rattle.rules.proofs.NamingLaws.{or_else_nones}
use Rattle.rules.proofs.SearchLaws.{view_found_lem, client_at}
use Rattle.matters.specs.declared.Place.{Place}
use Rattle.matters.specs.declared.Told.{Told}
use Rattle.matters.specs.declared.Told.TheVariants as Told
use Rattle.matters.specs.Matters.{place, place_of, same_found, fresh_name, name_finds, asks_at, half_holds, asker_holds, told_by, asked_told, found_told, rule_told}
use Rattle.matters.specs.Matters.{parsed_told, line_told, told_at, text_told, settled}
use Rattle.matters.specs.Code.{Finder, finder_by, name_agrees, half_agrees, asked_list, list_told_on, list_told, clients_told, parsed_by, kind_told_as, kind_told}
use Rattle.matters.specs.Code.{text_told_by, settled_by}
use Rattle.matters.proofs.RuleLaws.{Stated, unknown, named}
use Rattle.matters.proofs.SearchLaws.{settled_same, unsettled}

-- ## One rule

module _ (v : View) (m : Matcher) (r : Request) (server : (n : List ℕ) → v.server n r.server ≡ m n r.server)
    (client : (n : List ℕ) → v.client n r.client ≡ m n r.client) where
  abbrev finds : Finder
  finds = finder_by v r

  -- what a rule finds, by what its lists do
  by_lists : (x : Rule) (u : User) (t : List ℕ) → rule_found m (with_user r u t) x
      ≡ on_found (finds.daemons x.daemons) (finds.clients u t x.clients) Found.No
  by_lists x u t =
      sym (ap (λ (g : Rule → Found). g x) (view_found_lem v.server v.client m (with_user r u t) server client))
      ∙ rule_found_lists v (with_user r u t) x.daemons x.clients x.command

  asks_same : (e : List ℕ) → asks_at m r e ≡ finds.asks e
  asks_same e = ap (same_found Found.Ask)
      (sym (client_at v.client m (with_user r U.NotFetched []) client e) ∙ client_element_request v.client (with_user r U.NotFetched []) e)

  -- a daemon list never asks
  daemons_quiet : (ds : List (List ℕ)) → Quiet (finds.daemons ds)
  daemons_quiet ds = included_quiet (daemon_finds v r.daemon r.server) element ds
    where
      element : (e : List ℕ) → Quiet (daemon_finds v r.daemon r.server e)
      element e = subst Quiet (daemon_element_request v.server (with_user r U.Unknown []) e) (daemon_quiet v.server (with_user r U.Unknown []) tt e)

  module _ (x : Rule) (yes : finds.daemons x.daemons ≡ Found.Yes) where
    clients_found : (u : User) (t : List ℕ) → rule_found m (with_user r u t) x ≡ finds.clients u t x.clients
    clients_found u t = by_lists x u t ∙ ap (λ (d : Found). on_found d (finds.clients u t x.clients) Found.No) yes

    name_same : (f : Found) → name_finds m r x f ≡ name_agrees finds x.clients f
    unfolding name_finds name_agrees
    name_same f = fun_ext (λ t. ap (λ (g : Found). not (in_range 1 64 (length t)) || same_found f g) (clients_found U.Known t))

    half_same : (f : Found) → asker_holds m r (name_finds m r x f) ≡ half_agrees finds x.clients f
    unfolding asker_holds half_agrees
    half_same f = fun_ext (λ e.
        ap₂ (λ (b : Bool) (q : List ℕ → Bool). not b || half_holds q (halves e)) (asks_same e) (name_same f))

    asked_same : (f : Found) → asked_told m r x f ≡ asked_list finds x.clients f
    unfolding asked_told asked_list
    asked_same f =
        ap₂ (λ (q h : List ℕ → Bool). told_by (q fresh_name && all h x.clients) f) (name_same f) (half_same f)

    told_on : (g : Found) → found_told m r x g ≡ list_told_on finds x.clients g
    told_on Found.No = refl
    told_on Found.Yes = refl
    told_on Found.Ask = ap (asked_told m r x) (clients_found U.Unknown []) ∙ asked_same (finds.clients U.Unknown [] x.clients)

    yes_same : rule_told m r x ≡ list_told finds x.clients
    unfolding rule_told list_told
    yes_same = ap (found_told m r x) (clients_found U.NotFetched []) ∙ told_on (finds.clients U.NotFetched [] x.clients)

  rule_same : (x : Rule) → rule_told m r x ≡ clients_told finds (finds.daemons x.daemons) x.clients
  unfolding rule_told
  rule_same x = by (finds.daemons x.daemons) refl (daemons_quiet x.daemons)
    where
      by : (d : Found) → finds.daemons x.daemons ≡ d → Quiet d → rule_told m r x ≡ clients_told finds d x.clients
      by Found.No e q =
          ap (found_told m r x) (by_lists x U.NotFetched [] ∙ ap (λ (d : Found). on_found d (finds.clients U.NotFetched [] x.clients) Found.No) e)
      by Found.Yes e q = yes_same x e
      by Found.Ask e q = absurd q

  parsed_same : (o : Option Rule) → parsed_told m r o ≡ parsed_by finds o
  parsed_same None = refl
  parsed_same (Some x) = rule_same x

  -- ## A sound text

  module _ (s : Section) (ver : Verdict) (f : File) where
    line_same : (l : Line) → at_place s.order l.number (line_fault l) ≡ None → kind_told finds l ≡ line_told m r l
    unfolding kind_told line_told line_kind line_fault_by
    line_same l e = by (layout_fault l) (is_comment l || is_blank l)
        (ap (λ (o : Option Fault). o or_else (when is_comment l || is_blank l then None else rule_fault (parse_rule l.raw))) (sym (kind_lowest l))
        ∙ sound (line_fault l) e)
      where
        sound : (o : Option Fault) → at_place s.order l.number o ≡ None → o ≡ None
        sound None e = refl
        sound (Some g) e = absurd (true≢false (ap (λ (o : Option Refusal). elim o [ None ↦ false | Some x ↦ true ]) e))

        by : (g : Option Fault) (b : Bool) → (g or_else (when b then None else rule_fault (parse_rule l.raw))) ≡ None
            → kind_told_as (kind_as g b) (parsed_by finds (parse_rule l.raw)) ≡ (when b then Told.Passes else parsed_told m r (parse_rule l.raw))
        by None true h = refl
        by None false h = sym (parsed_same (parse_rule l.raw))
        by (Some g) b h = absurd (true≢false (sym (ap (λ (o : Option Fault). elim o [ None ↦ true | Some x ↦ false ]) h)))

    lines_same : (ls : List Line) → first (λ l. at_place s.order l.number (line_fault l)) ls ≡ None
        → first (λ l. told_at ver f l.number (kind_told finds l)) ls ≡ first (λ l. told_at ver f l.number (line_told m r l)) ls
    unfolding first
    lines_same [] e = refl
    lines_same (l ∷ ls) e =
        let k = or_else_nones (at_place s.order l.number (line_fault l)) (first (λ l. at_place s.order l.number (line_fault l)) ls) e in
        ap₂ ◌or_else◌ (ap (told_at ver f l.number) (line_same l k.0)) (lines_same ls k.1)

    text_same : (t : List ℕ) → hosts_fault s t ≡ None → text_told_by ver f finds t ≡ text_told ver f m r t
    unfolding text_told_by text_told hosts_fault
    text_same t e = lines_same (lines t) e

  both_same : (allow deny : List ℕ) → hosts_fault S.allow allow ≡ None → hosts_fault S.deny deny ≡ None → settled_by finds allow deny ≡ settled m allow deny r
  unfolding settled_by settled
  both_same allow deny a d =
      ap₂ (λ (x y : Option (Option Place)). unwrap_or (x or_else y) (Some (place Granted Neither 0)))
      (text_same S.allow Granted Allow allow a) (text_same S.deny Denied Deny deny d)

-- ## Sound texts

module _ (allow deny t : List ℕ) (sound : contents_fault allow deny t ≡ None) where
  parted : (lines_fault allow deny ≡ None) × (tables_fault allow deny t ≡ None)
  unfolding contents_fault
  parted = or_else_nones (lines_fault allow deny) (tables_fault allow deny t) sound

  files : (hosts_fault S.allow allow ≡ None) × (hosts_fault S.deny deny ≡ None)
  unfolding lines_fault
  files = or_else_nones (hosts_fault S.allow allow) (hosts_fault S.deny deny) parted.0

  bad_none : bad_table_fault t ≡ None
  unfolding tables_fault
  bad_none = (or_else_nones
      (missing_fault (tables_of t) S.allow allow or_else missing_fault (tables_of t) S.deny deny or_else table_name_fault (tables_of t)
      or_else depth_fault (tables_of t) S.allow allow or_else depth_fault (tables_of t) S.deny deny)
      (bad_table_fault t) parted.1).1

  pub few_tables : tables_in t ≡ tables_of t → length (tables_in t) ≤ 64
  unfolding bad_table_fault
  few_tables whole = rw whole (ltb-false 64 (length (tables_of t)) (by (ltb 64 (length (tables_of t))) refl bad_none))
    where
      by : (b : Bool) → ltb 64 (length (tables_of t)) ≡ b
          → ((given (b || ltb 12288 (length t)) 0 or_else first_table (λ before x. is_unsound x) 1 [] (tables_of t)) >>= λ n. Some (refusal F.BadTable 5 n)) ≡ None
          → b ≡ false
      by false e h = refl
      by true e h = absurd (true≢false (ap (λ (o : Option Refusal). elim o [ None ↦ false | Some x ↦ true ]) h))

  settled_noted : tables_in t ≡ tables_of t → (r : Request) (notes : List ℕ) → Noted t r notes
      → settled_by (finder_by (view_of t notes) r) allow deny ≡ settled (match_of (tables_of t)) allow deny r
  unfolding noted
  settled_noted whole r notes h =
      both_same (view_of t notes) (match_of (tables_of t)) r
      (λ n. h.noted_server n ∙ ap (λ (y : List Table). match_of y n r.server) whole)
      (λ n. h.noted_client n ∙ ap (λ (y : List Table). match_of y n r.client) whole)
      allow deny files.0 files.1

  pub settle_is : tables_in t ≡ tables_of t → (r : Request) (notes : List ℕ) → Noted t r notes
      → (x : Result (Option Place) Refusal) → x ≡ Ok (settled_by (finder_by (view_of t notes) r) allow deny) → x ≡ Ok (settled (match_of (tables_of t)) allow deny r)
  settle_is whole r notes h x is_x = is_x ∙ ap Ok (settled_noted whole r notes h)

-- ## A verdict that does not ask

pub quiet_settled : (m : Matcher) (allow deny : List ℕ) (r : Request) (t : List ℕ) → QuietVerdict (search m allow deny (with_user r U.NotFetched t)).verdict
    → settled m allow deny r ≡ Some (place_of (search m allow deny (with_user r U.NotFetched t)))
quiet_settled m allow deny r t q = by (settled m allow deny r) refl
  where
    gets : (u : User) (n : List ℕ) → place_of (search m allow deny (with_user r u n)) ≡ place_of (search m allow deny (with_user r U.NotFetched t))
    gets u n = ap place_of (search_same m r t u n allow deny q)

    by : (o : Option Place) → settled m allow deny r ≡ o → o ≡ Some (place_of (search m allow deny (with_user r U.NotFetched t)))
    by (Some p) e = ap Some (sym (settled_same m allow deny r p e U.Unknown [] (unknown [])) ∙ gets U.Unknown [])
    by None e =
        let w = unsettled m allow deny r e in
        absurd (w.2 (gets U.Unknown [] ∙ sym (gets U.Known w.0)))
