-- The entries of an index, read back; and the rule at the places of an entry.
--   entry_read    == the entry that bytes begin with
--   Seeks         == the loop over the entries
--   finds_no, finds_ask, finds_yes == what a rule finds by its two lists
-- Assumes nothing.
use Rattle.std.specs.Prelude.{None, Option, Some}
use Prim.Native.Nat.{ℕ, ◌+◌, ◌-◌, ◌*◌, ◌≤◌, ◌<◌}
use mathlib.Core.Bool.{Bool, true, false, not}
use mathlib.Core.List.{List, [], ◌∷◌, ◌++◌, append_assoc}
use mathlib.Core.Path.{◌≡◌, refl, sym, ap, ap₂, subst, ◌∙◌}
use native.Mathlib.Omega.{arith}
use borrow.Author.Tests.{ltb-true, ltb-false, lt-ltb, le-ltb}
use lib.Dec.{eqb, ltb}
use lib.ListN.{length, take, drop, length-append}
use lib.Seq.{take_at, drop_at, length-take-le}
use Rattle.text.specs.Basics.{when◌then◌else◌, ◌or_else◌, is_some, all, first, sum_until}
use Rattle.text.specs.Text.{among}
use Rattle.text.specs.Number.{from_digits, to_digits}
use Rattle.text.proofs.Digits.{from_digits_to_digits, length_to_digits}
use Rattle.text.proofs.ScanLaws.{take_rest}
use Rattle.section.specs.declared.Part.{Part}
use Rattle.section.specs.Section.{part, bytes_at}
use Rattle.lines.specs.declared.line.JoinedText.{JoinedText}
use Rattle.lines.specs.Line.{join, has_bad_byte}
use Rattle.lines.specs.Parts.{words}
use Rattle.lines.proofs.RuleLaws.{rule}
use Rattle.patterns.specs.Host.{endpoint}
use Rattle.tables.specs.Tried.{capped}
use Rattle.elements.specs.declared.Found.{Found}
use Rattle.elements.specs.declared.Found.TheVariants as Found
use Rattle.elements.specs.declared.Looked.{Looked}
use Rattle.elements.specs.declared.request.Request.{Request as Places}
use Rattle.elements.specs.Request.{Request}
use Rattle.elements.specs.Places.{request_at}
use Rattle.elements.specs.Code.{View, looked_for}
use Rattle.elements.proofs.CountLaws.{capped_lt, capped_small, capped_then, capped_add, capped_left}
use Rattle.lists.specs.Walk.{on_found, included}
use Rattle.lists.specs.Code.{view_found, view_looked}
use Rattle.lists.specs.Looked.{further_on, looked_included}
use Rattle.lists.specs.ListCode.{daemon_finds, client_finds, daemon_counts, client_counts, list_looked, looked_more}
use Rattle.lists.proofs.WalkLaws.{rule_found_lists, rule_looked_lists}
use Rattle.rules.specs.declared.Verdict.{Verdict}
use Rattle.rules.specs.declared.Verdict.TheVariants as Ver
use Rattle.rules.specs.declared.File.{File}
use Rattle.rules.specs.declared.File.TheVariants.{Neither, Allow, Deny}
use Rattle.rules.specs.declared.Answer.{Answer}
use Rattle.rules.specs.declared.search.Searched.{Searched}
use Rattle.rules.specs.Search.{answer}
use Rattle.rules.specs.Code.{searched}
use Rattle.rules.specs.FileCode.{Query, query_found, query_looked}
use Rattle.sheet.specs.declared.Parts.{Parts}
use Rattle.index.specs.declared.Range.{Range}
use Rattle.index.specs.declared.Entry.{Entry}
use Rattle.index.specs.declared.search.Seeking.{Seeking}
use Rattle.index.specs.Index.{range, rules_at, two_bytes, entry_bytes, table_bytes}
use Rattle.index.specs.Code.{number_from, range_at, entry_at, SmallRange, Small, AllSmall, Table, between, joined_list, list_at, command_start, command_text}
use Rattle.index.specs.Code.{entry_command, joins_in, entry_rule}
use Rattle.index.specs.Code.{rule_answer_at, entry_answer, entry_looked, seeking, seek_in, ended_by, seek_then, seek_both}
use Rattle.index.proofs.TableLaws.{length_two, length_entry}

-- ## Numbers

pub number_of : (p s : List ℕ) (x at : ℕ) → length p ≡ at → x < 4294967296 → number_from at (p ++ (to_digits 256 4 x ++ s)) ≡ x
unfolding number_from
number_of p s x at h small =
    ap (λ (t : List ℕ). from_digits 256 0 (take 4 t)) (drop_at p (to_digits 256 4 x ++ s) at h)
    ∙ ap (from_digits 256 0) (take_at (to_digits 256 4 x) s 4 (length_to_digits 256 4 x)) ∙ from_digits_to_digits 256 4 x (omega arith) small

range_of : (p s : List ℕ) (r : Range) (at : ℕ) → length p ≡ at → SmallRange r → range_at at (p ++ (two_bytes r.start r.end ++ s)) ≡ r
unfolding two_bytes
range_of p s r at h small =
    let a : List ℕ = to_digits 256 4 r.start in
    let b : List ℕ = to_digits 256 4 r.end in
    let k : length (p ++ a) ≡ at + 4 = length-append p a ∙ rw (length_to_digits 256 4 r.start, h) in
    ap₂ range
    (ap (λ (t : List ℕ). number_from at (p ++ t)) (append_assoc a b s) ∙ number_of p (b ++ s) r.start at h small.small_start)
    (ap (number_from (at + 4)) (ap (λ (t : List ℕ). p ++ t) (append_assoc a b s) ∙ sym (append_assoc p a (b ++ s)))
    ∙ number_of (p ++ a) s r.end (at + 4) k small.small_end)

pub range_is : (s : List ℕ) (at x y : ℕ) → x ≡ number_from at s → y ≡ number_from (at + 4) s → range x y ≡ range_at at s
range_is s at x y is_x is_y = rw (is_x, is_y)

pub entry_at_is : (s : List ℕ) (a b c d : Range) → a ≡ range_at 0 s → b ≡ range_at 8 s → c ≡ range_at 16 s → d ≡ range_at 24 s
    → ◌≡◌ {A = Entry} (record { lines = a; rule = b; daemons = c; clients = d }) (entry_at s)
unfolding entry_at
entry_at_is s a b c d is-a is_b is_c is_d = rw (is-a, is_b, is_c, is_d)

pub entry_read : (e : Entry) (s : List ℕ) → Small e → entry_at (entry_bytes e ++ s) ≡ e
unfolding entry_at entry_bytes
entry_read e s small =
    let a : List ℕ = two_bytes e.lines.start e.lines.end in
    let b : List ℕ = two_bytes e.rule.start e.rule.end in
    let c : List ℕ = two_bytes e.daemons.start e.daemons.end in
    let d : List ℕ = two_bytes e.clients.start e.clients.end in
    let la : length a ≡ 8 = length_two e.lines.start e.lines.end in
    let lb : length b ≡ 8 = length_two e.rule.start e.rule.end in
    let lc : length c ≡ 8 = length_two e.daemons.start e.daemons.end in
    let lab : length (a ++ b) ≡ 16 = length-append a b ∙ rw (la, lb) in
    let labc : length (a ++ b ++ c) ≡ 24 = length-append (a ++ b) c ∙ rw (lab, lc) in
    let w : List ℕ = (a ++ b ++ c ++ d) ++ s in
    let e₁ : w ≡ a ++ (b ++ (c ++ (d ++ s))) = simp append_assoc in
    let e₂ : w ≡ (a ++ b) ++ (c ++ (d ++ s)) = simp append_assoc in
    let e₃ : w ≡ (a ++ b ++ c) ++ (d ++ s) = simp append_assoc in
    let r₁ : range_at 0 w ≡ e.lines = ap (range_at 0) e₁ ∙ range_of [] (b ++ (c ++ (d ++ s))) e.lines 0 refl small.small_lines in
    let r₂ : range_at 8 w ≡ e.rule = ap (range_at 8) e₁ ∙ range_of a (c ++ (d ++ s)) e.rule 8 la small.small_rule in
    let r₃ : range_at 16 w ≡ e.daemons = ap (range_at 16) e₂ ∙ range_of (a ++ b) (d ++ s) e.daemons 16 lab small.small_daemons in
    let r₄ : range_at 24 w ≡ e.clients = ap (range_at 24) e₃ ∙ range_of (a ++ b ++ c) s e.clients 24 labc small.small_clients in
    by (range_at 0 w) (range_at 8 w) (range_at 16 w) (range_at 24 w) r₁ r₂ r₃ r₄
  where
    by : (p q r u : Range) → p ≡ e.lines → q ≡ e.rule → r ≡ e.daemons → u ≡ e.clients
        → ◌≡◌ {A = Entry} (record { lines = p; rule = q; daemons = r; clients = u }) e
    by p q r u h k l m = rw (h, k, l, m)

-- ## Parts of the sheet

module _ (s : List ℕ) (r : Range) where
  pub between_none : r.end < r.start → take 0 s ≡ between r s
  unfolding between
  between_none h = let e : r.end - r.start ≡ 0 = omega arith in rw e

  pub between_part : (u : List ℕ) → u ≡ bytes_at s (part r.start (r.end - r.start)) → u ≡ between r s
  unfolding between
  between_part u e = e

-- a list that is joined into a buffer
module _ (s d : List ℕ) (x : JoinedText) (is_x : x ≡ record { len = length (join s); clean = not (has_bad_byte (join s)) }) where
  measured : x.len ≡ length (join s)
  measured = ap (λ (z : JoinedText). z.len) is_x

  pub join_over : 2048 < x.len → take 0 d ≡ joined_list s
  unfolding joined_list
  join_over h = rw (lt-ltb 2048 (length (join s)) (omega (arith, measured)))

  module _ (h : x.len ≤ 2048) where
    pub join_room : length d ≡ 2048 → length (join s) ≤ length d
    join_room e = omega (arith, measured)

    pub join_short : (k : ℕ) → k ≡ length (join s) → k ≤ 2048
    join_short k w = omega (arith, measured, w)

    pub join_within : (k : ℕ) (o : List ℕ) → k ≡ length (join s) → o ≡ join s ++ drop (length (join s)) d → take k o ≡ joined_list s
    unfolding joined_list
    join_within k o w v =
        rw (le-ltb 2048 (length (join s)) (omega (arith, measured)), w, v) (take_at (join s) (drop (length (join s)) d) (length (join s)) refl)

pub buffer_part : (o : List ℕ) (k : ℕ) → k ≤ 2048 → length o ≡ 2048 → k ≡ length (take k o)
buffer_part o k h e = sym (length-take-le k o (omega arith))

pub list_joined : (b : Bool) (s u : List ℕ) → b ≡ true → u ≡ joined_list s → words u ≡ list_at b s
unfolding list_at
list_joined b s u e is-u = rw (e, is-u)

pub list_plain : (b : Bool) (s : List ℕ) → b ≡ false → words s ≡ list_at b s
unfolding list_at
list_plain b s e = rw e

-- what a list finds, by the places of a request
module _ (v : View) (names : List ℕ) (q : Places) (b : Bool) (s : List ℕ) where
  module _ (a : List ℕ) (is-a : a ≡ bytes_at names q.daemon) (n : List ℕ) (is-n : n ≡ bytes_at names q.server_name) where
    pub daemons_joined : b ≡ true → (u : List ℕ) → u ≡ joined_list s → (r : Looked)
        → r ≡ list_looked (daemon_finds v a (endpoint q.server n)) (daemon_counts v) (words u)
        → r ≡ list_looked (daemon_finds v (request_at names q).daemon (request_at names q).server) (daemon_counts v) (list_at b s)
    daemons_joined e u is-u r is-r = is-r ∙ rw (is-a, is-n, list_joined b s u e is-u)

    pub daemons_plain : b ≡ false → (r : Looked) → r ≡ list_looked (daemon_finds v a (endpoint q.server n)) (daemon_counts v) (words s)
        → r ≡ list_looked (daemon_finds v (request_at names q).daemon (request_at names q).server) (daemon_counts v) (list_at b s)
    daemons_plain e r is-r = is-r ∙ rw (is-a, is-n, list_plain b s e)

  module _ (a : List ℕ) (is-a : a ≡ bytes_at names q.client_name) (n : List ℕ) (is-n : n ≡ bytes_at names q.user_name) where
    pub clients_joined : b ≡ true → (u : List ℕ) → u ≡ joined_list s
        → (r : Looked) → r ≡ list_looked (client_finds v (endpoint q.client a) q.user n) (client_counts v) (words u)
        → r ≡ list_looked (client_finds v (request_at names q).client (request_at names q).user (request_at names q).user_name) (client_counts v) (list_at b s)
    clients_joined e u is-u r is-r = is-r ∙ rw (is-a, is-n, list_joined b s u e is-u)

    pub clients_plain : b ≡ false → (r : Looked) → r ≡ list_looked (client_finds v (endpoint q.client a) q.user n) (client_counts v) (words s)
        → r ≡ list_looked (client_finds v (request_at names q).client (request_at names q).user (request_at names q).user_name) (client_counts v) (list_at b s)
    clients_plain e r is-r = is-r ∙ rw (is-a, is-n, list_plain b s e)

-- ## What a rule finds

module _ (v : View) (q : Request) (ds cs : List (List ℕ)) (k : List ℕ) where
  abbrev df : List ℕ → Found
  df = daemon_finds v q.daemon q.server

  abbrev cf : List ℕ → Found
  cf = client_finds v q.client q.user q.user_name

  abbrev dl : ℕ
  dl = looked_included df (daemon_counts v) ds

  abbrev cl : ℕ
  cl = looked_included cf (client_counts v) cs

  abbrev rule_looked_lem : Looked
  rule_looked_lem = looked_for (view_found v q (rule ds cs k)) (capped (view_looked v q (rule ds cs k)))

  module _ (x : Looked) (is_x : x ≡ list_looked df (daemon_counts v) ds) where
    daemons_found : x.found ≡ included df ds
    unfolding list_looked
    daemons_found = ap (λ (z : Looked). z.found) is_x

    daemons_looked : x.looked ≡ capped dl
    unfolding list_looked
    daemons_looked = ap (λ (z : Looked). z.looked) is_x

    by_daemons : rule_looked_lem ≡ looked_for (on_found x.found (included cf cs) Found.No) (capped (dl + further_on x.found cl 0))
    by_daemons = ap₂ looked_for
        (rule_found_lists v q ds cs k ∙ ap (λ (f : Found). on_found f (included cf cs) Found.No) (sym daemons_found))
        (ap capped (rule_looked_lists v q ds cs k ∙ ap (λ (f : Found). dl + further_on f cl 0) (sym daemons_found)))

    when_found : (f : Found) → x.found ≡ f → rule_looked_lem ≡ looked_for (on_found f (included cf cs) Found.No) (capped (dl + further_on f cl 0))
    when_found f e = by_daemons ∙ ap (λ (f : Found). looked_for (on_found f (included cf cs) Found.No) (capped (dl + further_on f cl 0))) e

    itself : (f : Found) → x.found ≡ f → x ≡ looked_for f (capped (dl + 0))
    itself f e = let z : dl ≡ dl + 0 = omega arith in by x e (daemons_looked ∙ ap capped z)
      where
        by : (x : Looked) → x.found ≡ f → x.looked ≡ capped (dl + 0) → x ≡ looked_for f (capped (dl + 0))
        by x e h = ap₂ looked_for e h

    pub finds_no : x.found ≡ Found.No → x ≡ rule_looked_lem
    finds_no e = itself Found.No e ∙ sym (when_found Found.No e)

    pub finds_ask : x.found ≡ Found.Ask → x ≡ rule_looked_lem
    finds_ask e = itself Found.Ask e ∙ sym (when_found Found.Ask e)

    pub finds_yes : x.found ≡ Found.Yes → (y : Looked) → y ≡ list_looked cf (client_counts v) cs → (r : Looked) → r ≡ looked_more x.looked y → r ≡ rule_looked_lem
    unfolding list_looked
    finds_yes e y is_y r is-r =
        is-r ∙ ap₂ looked_more daemons_looked is_y
        ∙ ap (looked_for (included cf cs)) (capped_left dl (capped cl) ∙ capped_add dl cl)
        ∙ sym (when_found Found.Yes e)

-- the rule of an entry, by its parts of the sheet
module _ (v : View) (q : Request) (sheet : List ℕ) (e : Entry) (d : List ℕ) (is_d : d ≡ between e.daemons sheet) (x : Looked)
    (is_x : x ≡ list_looked (daemon_finds v q.daemon q.server) (daemon_counts v) (list_at (joins_in e) d)) where
  abbrev entry_looked_lem : Looked
  entry_looked_lem = looked_for (view_found v q (entry_rule sheet e)) (capped (view_looked v q (entry_rule sheet e)))

  daemons_are : x ≡ list_looked (daemon_finds v q.daemon q.server) (daemon_counts v) (list_at (joins_in e) (between e.daemons sheet))
  daemons_are = is_x ∙ ap (λ (u : List ℕ). list_looked (daemon_finds v q.daemon q.server) (daemon_counts v) (list_at (joins_in e) u)) is_d

  abbrev dw : List (List ℕ)
  dw = list_at (joins_in e) (between e.daemons sheet)

  abbrev cw : List (List ℕ)
  cw = list_at (joins_in e) (between e.clients sheet)

  pub entry_no : x.found ≡ Found.No → x ≡ entry_looked_lem
  entry_no h = finds_no v q dw cw (command_text sheet e) x daemons_are h

  pub entry_ask : x.found ≡ Found.Ask → x ≡ entry_looked_lem
  entry_ask h = finds_ask v q dw cw (command_text sheet e) x daemons_are h

  pub entry_yes : x.found ≡ Found.Yes → (c : List ℕ) → c ≡ between e.clients sheet
      → (y : Looked) → y ≡ list_looked (client_finds v q.client q.user q.user_name) (client_counts v) (list_at (joins_in e) c)
      → (r : Looked) → r ≡ looked_more x.looked y → r ≡ entry_looked_lem
  entry_yes h c is_c y is_y r is-r =
      finds_yes v q dw cw (command_text sheet e) x daemons_are h y
      (is_y ∙ ap (λ (u : List ℕ). list_looked (client_finds v q.client q.user q.user_name) (client_counts v) (list_at (joins_in e) u)) is_c) r is-r

-- ## What it answers

pub command_start_next : (e : Entry) → e.clients.end < e.rule.end → e.clients.end + 1 ≡ command_start e
unfolding command_start
command_start_next e h = rw (lt-ltb e.clients.end e.rule.end h)

pub command_start_end : (e : Entry) → e.rule.end ≤ e.clients.end → e.rule.end ≡ command_start e
unfolding command_start
command_start_end e h = rw (le-ltb e.clients.end e.rule.end h)

module _ (sheet : List ℕ) (e : Entry) (p : ℕ) (is-p : p ≡ command_start e) (u : List ℕ) (is-u : u ≡ between (range p e.rule.end) sheet)
    (b : Bool) (is_b : b ≡ all (among " \t") (join u)) where
  text_is : u ≡ command_text sheet e
  text_is = is-u ∙ ap (λ (k : ℕ). between (range k e.rule.end) sheet) is-p

  command_is : part p (when b then 0 else length u) ≡ entry_command sheet e
  unfolding entry_command
  command_is = rw (is_b, text_is, is-p)

  pub command_blank : b ≡ true → part p 0 ≡ entry_command sheet e
  command_blank h = ap (λ (c : Bool). part p (when c then 0 else length u)) (sym h) ∙ command_is

  pub command_full : b ≡ false → part p (length u) ≡ entry_command sheet e
  command_full h = ap (λ (c : Bool). part p (when c then 0 else length u)) (sym h) ∙ command_is

module _ (sheet : List ℕ) (base : ℕ) (v : Verdict) (f : File) (e : Entry) (x : Found) where
  pub answers_no : x ≡ Found.No → None ≡ rule_answer_at sheet base v f e x
  answers_no h = rw h

  pub answers_ask : x ≡ Found.Ask → Some (answer Ver.Ask f e.lines.start (part base 0)) ≡ rule_answer_at sheet base v f e x
  answers_ask h = rw h

  pub answers_yes : x ≡ Found.Yes → (c : Part) → c ≡ entry_command sheet e
      → Some (answer v f e.lines.start c) ≡ rule_answer_at sheet base v f e x
  answers_yes h c is_c = rw (h, is_c)

-- ## The loop over the entries

cons_left : (es : List Entry) (rest : List ℕ) → rest ≡ table_bytes es → 32 ≤ length rest → (e : Entry) × ((fs : List Entry) × (es ≡ e ∷ fs))
unfolding table_bytes
cons_left [] rest b h = absurd (omega (arith, ap length b))
cons_left (e ∷ es) rest b h = (e, (es, refl))

nil_left : (es : List Entry) (rest : List ℕ) → rest ≡ table_bytes es → length rest < 32 → es ≡ []
unfolding table_bytes
nil_left [] rest b h = refl
nil_left (e ∷ es) rest b h = absurd (omega (arith, ap length b, length-append (entry_bytes e) (table_bytes es), length_entry e))

module _ (sheet : List ℕ) (base : ℕ) (v : Verdict) (f : File) (q : Query) where
  abbrev ans : Entry → Option Answer
  ans = entry_answer sheet base v f q

  abbrev upto : List Entry → ℕ
  upto es = sum_until (λ e. is_some (ans e)) (entry_looked sheet q) es

  -- of the entries of a text those in rest are left, and k elements were looked at
  pub record Seeks (whole : List Entry) (rest : List ℕ) (k : ℕ) : Type 0 where
    pub left : List Entry
    pub bytes : rest ≡ table_bytes left
    pub small : AllSmall left
    pub finds : first ans whole ≡ first ans left
    pub fits : k < 18446744073709551616
    pub counts : capped (upto whole) ≡ capped (k + upto left)

  pub seeks_start : (bytes : List ℕ) (es : List Entry) → Table bytes es → Seeks es bytes 0
  seeks_start bytes es h = record {
    left = es;
    bytes = h.table_bytes_lem;
    small = h.table_small;
    finds = refl;
    fits = omega arith;
    counts = let z : 0 + upto es ≡ upto es = omega arith in ap capped (sym z);
  }

  module _ (whole : List Entry) (rest : List ℕ) (k : ℕ) (w : Seeks whole rest k) where
    pub seeks_end : length rest < 32 → ◌≡◌ {A = Seeking} (record { sought = None; looked = k }) (seek_in sheet base v f q whole)
    unfolding seek_in first sum_until
    seeks_end h =
        let n : w.left ≡ [] = nil_left w.left rest w.bytes h in
        let z : k + 0 ≡ k = omega arith in
        sym (ap₂ seeking (w.finds ∙ ap (first ans) n)
        (w.counts ∙ ap (λ (es : List Entry). capped (k + upto es)) n ∙ ap capped z ∙ capped_small k w.fits))

    module _ (h : 32 ≤ length rest) where
      cut_left : (e : Entry) × ((es : List Entry) × (w.left ≡ e ∷ es))
      cut_left = cons_left w.left rest w.bytes h

      abbrev head : Entry
      head = cut_left.0

      abbrev others : List Entry
      others = cut_left.1.0

      rest_is : rest ≡ entry_bytes head ++ table_bytes others
      unfolding table_bytes
      rest_is = w.bytes ∙ ap table_bytes cut_left.1.1

      smalls : Small head × AllSmall others
      smalls = subst AllSmall cut_left.1.1 w.small

      head_is : entry_at rest ≡ head
      head_is = ap entry_at rest_is ∙ entry_read head (table_bytes others) smalls.0

      finds_on : first ans whole ≡ ans head or_else first ans others
      unfolding first
      finds_on = w.finds ∙ ap (first ans) cut_left.1.1

      counts_on : capped (upto whole) ≡ capped (k + (entry_looked sheet q head + (when is_some (ans head) then 0 else upto others)))
      unfolding sum_until
      counts_on = w.counts ∙ ap (λ (es : List Entry). capped (k + upto es)) cut_left.1.1

      rest_on : take (length rest - 32) (drop 32 rest) ≡ table_bytes others
      rest_on = take_rest rest 32 ∙ ap (drop 32) rest_is ∙ drop_at (entry_bytes head) (table_bytes others) 32 (length_entry head)

      module _ (e : Entry) (is-e : e ≡ entry_at rest) (x : Looked)
          (is_x : x ≡ looked_for (query_found q (entry_rule sheet e)) (capped (query_looked q (entry_rule sheet e))))
          (n : ℕ) (is-n : n ≡ capped (k + x.looked)) (o : Option Answer) (is-o : o ≡ rule_answer_at sheet base v f e x.found) where
        is_head : e ≡ head
        is_head = is-e ∙ head_is

        answer_here : rule_answer_at sheet base v f e x.found ≡ ans head
        unfolding entry_answer
        answer_here =
            ap (rule_answer_at sheet base v f e) (ap (λ (z : Looked). z.found) is_x)
            ∙ ap (λ (z : Entry). rule_answer_at sheet base v f z (query_found q (entry_rule sheet z))) is_head

        looked_here : n ≡ capped (k + capped (entry_looked sheet q head))
        unfolding entry_looked
        looked_here = is-n ∙ ap (λ (z : Looked). capped (k + z.looked)) is_x
            ∙ ap (λ (z : Entry). capped (k + capped (query_looked q (entry_rule sheet z)))) is_head

        pub seeks_found : (a : Answer) → o ≡ Some a → ◌≡◌ {A = Seeking} (record { sought = Some a; looked = n }) (seek_in sheet base v f q whole)
        unfolding seek_in
        seeks_found a g =
            let s : ans head ≡ Some a = sym answer_here ∙ sym is-o ∙ g in
            let z : k + (entry_looked sheet q head + 0) ≡ k + entry_looked sheet q head = omega arith in
            sym (ap₂ seeking
            (finds_on ∙ ap (λ (u : Option Answer). u or_else first ans others) s)
            (counts_on ∙ ap (λ (u : Option Answer). capped (k + (entry_looked sheet q head + (when is_some u then 0 else upto others)))) s
            ∙ ap capped z ∙ sym (capped_add k (entry_looked sheet q head)) ∙ sym looked_here))

        pub seeks_more : o ≡ None → Seeks whole (take (length rest - 32) (drop 32 rest)) n
        seeks_more g =
            let s : ans head ≡ None = sym answer_here ∙ sym is-o ∙ g in
            record {
              left = others;
              bytes = rest_on;
              small = smalls.1;
              finds = finds_on ∙ ap (λ (u : Option Answer). u or_else first ans others) s;
              fits = rw is-n (capped_lt (k + x.looked));
              counts =
                  counts_on ∙ ap (λ (u : Option Answer). capped (k + (entry_looked sheet q head + (when is_some u then 0 else upto others)))) s
                  ∙ sym (ap (λ (m : ℕ). capped (m + upto others)) looked_here ∙ capped_then k (entry_looked sheet q head) (upto others));
            }

-- ## Both texts

module _ (n : ℕ) (y : Seeking) (k : ℕ) (is-k : k ≡ capped (n + y.looked)) where
  pub ended_answer : (a : Answer) → y.sought ≡ Some a → searched a k ≡ ended_by n y
  ended_answer a e = rw (is-k, e)

  pub ended_nothing : y.sought ≡ None → searched (answer Ver.Granted Neither 0 (part 0 0)) k ≡ ended_by n y
  ended_nothing e = rw (is-k, e)

module _ (sheet : List ℕ) (p : Parts) (q : Query) (x : Seeking)
    (is_x : x ≡ seek_in sheet p.allow.place Ver.Granted Allow q (rules_at sheet p.allow)) where
  abbrev second : Seeking
  second = seek_in sheet p.deny.place Ver.Denied Deny q (rules_at sheet p.deny)

  both_is : seek_both sheet p q ≡ seek_then x.sought x.looked second
  unfolding seek_both
  both_is = ap (λ (z : Seeking). seek_then z.sought z.looked second) (sym is_x)

  pub both_answer : (a : Answer) → x.sought ≡ Some a → searched a x.looked ≡ seek_both sheet p q
  both_answer a e = sym (both_is ∙ ap (λ (z : Option Answer). seek_then z x.looked second) e)

  pub both_ended : x.sought ≡ None → (y : Seeking) → y ≡ second → (r : Searched) → r ≡ ended_by x.looked y → r ≡ seek_both sheet p q
  both_ended e y is_y r is-r =
      is-r ∙ ap (ended_by x.looked) is_y ∙ sym (both_is ∙ ap (λ (z : Option Answer). seek_then z x.looked second) e)
