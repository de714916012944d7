-- What the functions of tell rest on, one law for each arm.
-- Assumes nothing.
use Rattle.std.specs.Prelude.{None, Ok, Option, Result, Some, unwrap_or}
use Prim.Native.Nat.{ℕ, ◌+◌, ◌-◌, ◌≤◌, ◌<◌}
use mathlib.Core.Bool.{Bool, true, false, not, ◌&&◌, ◌||◌, true≢false}
use mathlib.Core.List.{List, [], ◌∷◌, ◌++◌}
use mathlib.Core.Path.{◌≡◌, refl, sym, ap, ap₂, ◌∙◌}
use borrow.Author.Tests.{eqb-true, ltb-true, ltb-false, eqb-false, le-leb, lt-leb}
use native.Mathlib.Omega.{arith}
use lib.Dec.{eqb, ltb, leb}
use lib.ListN.{length, take, drop}
use lib.Seq.{take_at}
use Rattle.text.specs.Basics.{◌or_else◌, all, first}
use Rattle.text.specs.Text.{in_range, split}
use Rattle.section.specs.declared.Fault.{Fault}
use Rattle.section.specs.declared.Refusal.{Refusal}
use Rattle.section.specs.Refusal.{Outcome}
use Rattle.section.specs.Section.{bytes_at}
use Rattle.lines.specs.declared.line.LineSpan.{LineSpan}
use Rattle.lines.specs.Line.{Line, line, join, logical_lines, lines}
use Rattle.lines.specs.Rule.{parse_rule, split_separator}
use Rattle.lines.specs.Parts.{words, first_element, after_element, separator_index, after_separator}
use Rattle.lines.specs.Scan.{span_at, scan_line, SpanBounds}
use Rattle.lines.proofs.LineLaws.{is_no_newline, scan_line_bounds, first_logical_lines_drop, first_logical_lines_end}
use Rattle.lines.proofs.RuleLaws.{words_none, words_more, parse_rule_none}
use Rattle.patterns.specs.Host.{endpoint}
use Rattle.elements.specs.declared.User.{User}
use Rattle.elements.specs.declared.User.TheVariants as U
use Rattle.elements.specs.declared.Looked.{Looked}
use Rattle.elements.specs.declared.Found.{Found}
use Rattle.elements.specs.declared.Found.TheVariants as Found
use Rattle.elements.specs.declared.request.Request.{Request as Places}
use Rattle.elements.specs.Places.{request_at}
use Rattle.elements.specs.Code.{View, looked_for}
use Rattle.lists.specs.Walk.{included}
use Rattle.lists.specs.Code.{NoNewline}
use Rattle.lists.specs.ListCode.{daemon_finds, client_finds, daemon_counts, client_counts, list_looked}
use Rattle.lists.proofs.JoinedLaws.{parse_rule_joined}
use Rattle.rules.specs.declared.Verdict.{Verdict}
use Rattle.rules.specs.declared.Verdict.TheVariants.{Granted, Denied}
use Rattle.rules.specs.declared.File.{File}
use Rattle.rules.specs.declared.File.TheVariants.{Neither, Allow, Deny}
use Rattle.rules.specs.declared.hosts_file.LineKind.{LineKind}
use Rattle.rules.specs.declared.hosts_file.LineKind.TheVariants as Kind
use Rattle.rules.specs.FileCode.{line_kind}
use Rattle.rules.proofs.JoinLaws.{join_parts, AllParts, rule_by, split_separator_join, joined_all, elements_join}
use Rattle.matters.specs.declared.Place.{Place}
use Rattle.matters.specs.declared.Told.{Told}
use Rattle.matters.specs.declared.Told.TheVariants as Told
use Rattle.matters.specs.declared.Telling.{Telling}
use Rattle.matters.specs.declared.Telling.TheVariants as T
use Rattle.matters.specs.Matters.{place, same_found, fresh_name, told_of, told_by, told_at}
use Rattle.matters.specs.Code.{Finder, finder_by, name_agrees, half_agrees, asked_list, list_told_on, list_told, clients_told, parsed_by, kind_told, text_told_by}
use Rattle.matters.specs.Code.{telling_of, settled_by, ended_by}
use Rattle.section.specs.declared.Refusal.{Refusal}

-- ## A request at places of a block

pub clients_at : (v : View) (names : List ℕ) (q : Places) (u : User) (t : List ℕ) (ws : List (List ℕ)) (a : List ℕ)
    → a ≡ bytes_at names q.client_name → (x : Looked) → x ≡ list_looked (client_finds v (endpoint q.client a) u t) (client_counts v) ws
    → x.found ≡ included (client_finds v (request_at names q).client u t) ws
unfolding list_looked
clients_at v names q u t ws a e x h =
    ap (λ (y : Looked). y.found) h ∙ ap (λ (z : List ℕ). included (client_finds v (endpoint q.client z) u t) ws) e

pub asks_at_lem : (v : View) (names : List ℕ) (q : Places) (e a : List ℕ) → a ≡ bytes_at names q.client_name
    → (n : ℕ) (y : Looked) → y ≡ looked_for (client_finds v (endpoint q.client a) U.NotFetched [] e) n → (r : Bool) → r ≡ same_found Found.Ask y.found
    → r ≡ same_found Found.Ask (client_finds v (request_at names q).client U.NotFetched [] e)
asks_at_lem v names q e a is-a n y is_y r is-r =
    is-r ∙ ap (same_found Found.Ask)
    (ap (λ (z : Looked). z.found) is_y ∙ ap (λ (x : List ℕ). client_finds v (endpoint q.client x) U.NotFetched [] e) is-a)

-- ## A name

module _ (F : Finder) (ws : List (List ℕ)) (f : Found) (t : List ℕ) where
  out_of_range : (eqb (length t) 0 || ltb 64 (length t)) ≡ true → in_range 1 64 (length t) ≡ false
  out_of_range = by (length t)
    where
      by : (n : ℕ) → (eqb n 0 || ltb 64 n) ≡ true → in_range 1 64 n ≡ false
      by n e = with_zero (eqb n 0) refl e
        where
          last : (b : Bool) → (b && false) ≡ false
          last true = refl
          last false = refl

          with_zero : (b : Bool) → eqb n 0 ≡ b → (b || ltb 64 n) ≡ true → (leb 1 n && leb n 64) ≡ false
          with_zero true z e = rw (eqb-true n 0 z)
          with_zero false z e = rw (lt-leb n 64 (ltb-true 64 n e)) (last (leb 1 n))

  in_range_lem : (eqb (length t) 0 || ltb 64 (length t)) ≡ false → in_range 1 64 (length t) ≡ true
  in_range_lem = by (length t)
    where
      by : (n : ℕ) → (eqb n 0 || ltb 64 n) ≡ false → in_range 1 64 n ≡ true
      by n e = with_zero (eqb n 0) refl e
        where
          with_zero : (b : Bool) → eqb n 0 ≡ b → (b || ltb 64 n) ≡ false → (leb 1 n && leb n 64) ≡ true
          with_zero true z e = absurd (true≢false e)
          with_zero false z e = rw (le-leb 1 n (omega (arith, eqb-false n 0 z)), le-leb n 64 (ltb-false 64 n e))

  pub name_none : (eqb (length t) 0 || ltb 64 (length t)) ≡ true → true ≡ name_agrees F ws f t
  unfolding name_agrees
  name_none e = rw (out_of_range e)

  pub name_some : (eqb (length t) 0 || ltb 64 (length t)) ≡ false → (g : Found) → g ≡ F.clients U.Known t ws → (r : Bool) → r ≡ same_found f g
      → r ≡ name_agrees F ws f t
  unfolding name_agrees
  name_some e g is-g r is-r = rw (in_range_lem e, ← is-g) is-r

-- ## The loop over a list

-- q holds of all of s exactly if it does of all of the rest
pub record Agreeing (q : List ℕ → Bool) (s rest : List ℕ) : Type 0 where
  pub same : all q (words s) ≡ all q (words rest)

pub agreeing_start : (q : List ℕ → Bool) (s : List ℕ) → Agreeing q s s
agreeing_start q s = record { same = refl }

module _ (q : List ℕ → Bool) (s rest : List ℕ) (h : Agreeing q s rest) (w : List ℕ) (is-w : w ≡ first_element rest) where
  pub agreeing_end : length w ≡ 0 → true ≡ all q (words s)
  unfolding all
  agreeing_end z = rw (h.same, words_none rest w is-w z)

  module _ (full : length w ≡ 0 → ⊥) (x : Bool) (is_x : x ≡ q w) where
    pub agreeing_stop : not x ≡ true → false ≡ all q (words s)
    unfolding all
    agreeing_stop e = rw (h.same, words_more rest w (after_element rest) is-w full refl, ← is_x, by x e)
      where
        by : (x : Bool) → not x ≡ true → x ≡ false
        by true e = sym e
        by false e = refl

    pub agreeing_more : not x ≡ false → (next : List ℕ) → next ≡ after_element rest → Agreeing q s next
    unfolding all
    agreeing_more e next is-next = record { same = h.same ∙ rw (words_more rest w next is-w full is-next, ← is_x, by x e) }
      where
        by : (x : Bool) → not x ≡ false → x ≡ true
        by true e = refl
        by false e = sym e

-- ## What a list tells

module _ (F : Finder) (ws : List (List ℕ)) (f : Found) (x : Bool) (is_x : x ≡ name_agrees F ws f fresh_name) where
  pub asked_fresh : not x ≡ true → Told.Differs ≡ asked_list F ws f
  unfolding asked_list
  asked_fresh e = rw (← is_x, by x e)
    where
      by : (x : Bool) → not x ≡ true → x ≡ false
      by true e = sym e
      by false e = refl

  module _ (e : not x ≡ false) (y : Bool) (is_y : y ≡ all (half_agrees F ws f) ws) where
    is_true : (b : Bool) → not b ≡ false → b ≡ true
    is_true true e = refl
    is_true false e = sym e

    pub asked_half_lem : not y ≡ true → Told.Differs ≡ asked_list F ws f
    unfolding asked_list
    asked_half_lem k = rw (← is_x, is_true x e, ← is_y, by y k)
      where
        by : (x : Bool) → not x ≡ true → x ≡ false
        by true e = sym e
        by false e = refl

    pub asked_same : not y ≡ false → (r : Told) → r ≡ told_of f → r ≡ asked_list F ws f
    unfolding asked_list
    asked_same k r is-r = rw (← is_x, is_true x e, ← is_y, is_true y k) is-r

module _ (F : Finder) (ws : List (List ℕ)) (g : Found) (is-g : g ≡ F.clients U.NotFetched [] ws) where
  pub list_no : g ≡ Found.No → Told.Passes ≡ list_told F ws
  unfolding list_told
  list_no e = rw (← is-g, e)

  pub list_yes : g ≡ Found.Yes → Told.Decides ≡ list_told F ws
  unfolding list_told
  list_yes e = rw (← is-g, e)

  pub list_ask : g ≡ Found.Ask → (f : Found) → f ≡ F.clients U.Unknown [] ws → (r : Told) → r ≡ asked_list F ws f → r ≡ list_told F ws
  unfolding list_told
  list_ask e f is_f r is-r = rw (← is-g, e, ← is_f) is-r

-- ## What a rule tells

module _ (F : Finder) (t : List ℕ) (i : ℕ) (is-i : i ≡ separator_index false t) where
  pub rule_none : length t ≤ i → Told.Passes ≡ parsed_by F (parse_rule t)
  rule_none l = rw (parse_rule_none t i is-i l)

module _ (v : View) (names : List ℕ) (q : Places) (t : List ℕ) (joined : NoNewline t) (i : ℕ) (is-i : i ≡ separator_index false t) (l : i < length t)
    (a : List ℕ) (is-a : a ≡ bytes_at names q.daemon) (b : List ℕ) (is_b : b ≡ bytes_at names q.server_name)
    (y : Looked) (is_y : y ≡ list_looked (daemon_finds v a (endpoint q.server b)) (daemon_counts v) (words (take i t))) where
  abbrev d : Found
  d = y.found

  is_d : d ≡ included (daemon_finds v a (endpoint q.server b)) (words (take i t))
  unfolding list_looked
  is_d = ap (λ (z : Looked). z.found) is_y

  abbrev F : Finder
  F = finder_by v (request_at names q)

  told_lists : (s : List ℕ) → s ≡ after_separator i t → parsed_by F (parse_rule t) ≡ clients_told F d (words (take (separator_index false s) s))
  told_lists s is-s =
      rw (parse_rule_joined t joined i is-i l s is-s)
      (ap (λ (x : Found). clients_told F x (words (take (separator_index false s) s)))
      (sym (is_d ∙ ap₂ (λ (x y : List ℕ). included (daemon_finds v x (endpoint q.server y)) (words (take i t))) is-a is_b)))

  pub rule_no : d ≡ Found.No → Told.Passes ≡ parsed_by F (parse_rule t)
  rule_no e = sym (told_lists (after_separator i t) refl ∙ ap (λ (x : Found). clients_told F x
      (words (take (separator_index false (after_separator i t)) (after_separator i t)))) e)

  pub rule_ask : d ≡ Found.Ask → Told.Passes ≡ parsed_by F (parse_rule t)
  rule_ask e = sym (told_lists (after_separator i t) refl ∙ ap (λ (x : Found). clients_told F x
      (words (take (separator_index false (after_separator i t)) (after_separator i t)))) e)

  pub rule_yes : d ≡ Found.Yes → (s : List ℕ) → s ≡ after_separator i t → (j : ℕ) → j ≡ separator_index false s
      → (r : Told) → r ≡ list_told F (words (take j s)) → r ≡ parsed_by F (parse_rule t)
  rule_yes e s is-s j is-j r is-r =
      is-r ∙ ap (λ (k : ℕ). list_told F (words (take k s))) is-j
      ∙ sym (told_lists s is-s ∙ ap (λ (x : Found). clients_told F x (words (take (separator_index false s) s))) e)

-- a rule read from a line, and from the joined line
told_rest : (F : Finder) (d t : List ℕ) (o : Option (List ℕ × List ℕ)) → NoNewline (join d) → NoNewline (join t) → AllParts is_no_newline (join_parts o)
    → parsed_by F (Some (rule_by (join d, join t) (join_parts o))) ≡ parsed_by F (Some (rule_by (d, t) o))
told_rest F d t None h k l = rw (elements_join d h, elements_join t k)
told_rest F d t (Some q) h k l = rw (elements_join d h, elements_join q.0 l.0)

told_parts : (F : Finder) (s : List ℕ) (o : Option (List ℕ × List ℕ)) → split_separator false s ≡ o → AllParts is_no_newline (join_parts o)
    → parsed_by F (parse_rule (join s)) ≡ parsed_by F (parse_rule s)
unfolding parse_rule
told_parts F s None e h = rw (split_separator_join false s, e)
told_parts F s (Some p) e h =
    rw (split_separator_join false s, e)
    (ap (λ (o : Option (List ℕ × List ℕ)). parsed_by F (Some (rule_by (join p.0, join p.1) o))) (split_separator_join false p.1)
    ∙ told_rest F p.0 p.1 (split_separator false p.1) h.0 h.1 (joined_all p.1 h.1))

told_join : (F : Finder) (s : List ℕ) → NoNewline (join s) → parsed_by F (parse_rule (join s)) ≡ parsed_by F (parse_rule s)
told_join F s h = told_parts F s (split_separator false s) refl (joined_all s h)

-- the part of a buffer o into which the line s was joined
pub joined_told : (F : Finder) (s o d : List ℕ) (n : ℕ) → n ≡ length (join s) → o ≡ join s ++ drop (length (join s)) d → NoNewline (join s)
    → (r : Told) → r ≡ parsed_by F (parse_rule (take n o)) → r ≡ parsed_by F (parse_rule s)
joined_told F s o d n is-n is-o h r is-r =
    is-r ∙ ap (λ (t : List ℕ). parsed_by F (parse_rule t)) (rw (is-n, is-o) (take_at (join s) (drop (length (join s)) d) (length (join s)) refl))
    ∙ told_join F s h

-- ## What a line tells

module _ (F : Finder) (s : List ℕ) (l : LineSpan) (x : LineKind) (is_x : x ≡ line_kind (line 0 0 s l.ended)) where
  pub line_faulty : (f : Fault) → x ≡ Kind.Faulty f → Told.Passes ≡ kind_told F (line 0 0 s l.ended)
  unfolding kind_told
  line_faulty f e = rw (← is_x, e)

  pub line_skipped : x ≡ Kind.Skipped → Told.Passes ≡ kind_told F (line 0 0 s l.ended)
  unfolding kind_told
  line_skipped e = rw (← is_x, e)

  pub line_ruled : x ≡ Kind.HasRule → (r : Told) → r ≡ parsed_by F (parse_rule s) → r ≡ kind_told F (line 0 0 s l.ended)
  unfolding kind_told
  line_ruled e r is-r = rw (← is_x, e) is-r

-- ## The loop over the lines

module _ (v : Verdict) (f : File) (F : Finder) where
  abbrev at_line : Line → Option (Option Place)
  at_line l = told_at v f l.number (kind_told F l)

  -- a line tells the same wherever it stands
  kind_moved : (n at : ℕ) (s : List ℕ) (e : Bool) → kind_told F (line n at s e) ≡ kind_told F (line 0 0 s e)
  unfolding kind_told line_kind
  kind_moved n at s e = refl

  pub record Telling_from (t : List ℕ) (i n : ℕ) : Type 0 where
    pub within : i ≤ length t + 1
    pub number : n ≤ i + 1
    pub rest : text_told_by v f F t ≡ first at_line (logical_lines n i (split "\n" (drop i t)))

  pub telling_start : (t : List ℕ) → Telling_from t 0 1
  unfolding text_told_by lines
  telling_start t = record { within = omega arith; number = omega arith; rest = refl }

  module _ {t : List ℕ} {i n : ℕ} (inv : Telling_from t i n) where
    pub telling_end : length t ≤ i → T.Nothing ≡ telling_of (text_told_by v f F t)
    telling_end h = sym (ap telling_of (inv.rest ∙ first_logical_lines_end at_line t i n i h))

    module _ (h : i < length t) (l : LineSpan) (is-l : l ≡ span_at i (scan_line (drop i t))) where
      bounds : SpanBounds (length t) i l
      bounds = scan_line_bounds t i l (omega (arith, h)) is-l

      pub telling_less : length t - (l.end + 1) < length t - i
      telling_less = omega (arith, bounds.from, h)

      pub next_fits : (m : ℕ) → length t < m → l.end + 1 < m + 1
      next_fits m k = omega (arith, bounds.within, k)

      pub number_fits : (m : ℕ) → length t < m → n + l.joins + 1 < m + 2
      number_fits m k = omega (arith, bounds.within, bounds.pairs, bounds.from, inv.number, k)

      module _ (k : Told) (is-k : k ≡ kind_told F (line 0 0 (take (l.end - i) (drop i t)) l.ended)) where
        this_line : text_told_by v f F t
            ≡ told_at v f n k or_else first at_line (logical_lines (n + l.joins + 1) (l.end + 1) (split "\n" (drop (l.end + 1) t)))
        this_line =
            inv.rest ∙ first_logical_lines_drop t i l is-l at_line n h
            ∙ ap (λ (x : Told). told_at v f n x or_else first at_line (logical_lines (n + l.joins + 1) (l.end + 1) (split "\n" (drop (l.end + 1) t))))
            (kind_moved n i (take (l.end - i) (drop i t)) l.ended ∙ sym is-k)

        pub telling_decides : k ≡ Told.Decides → T.Settled (place v f n) ≡ telling_of (text_told_by v f F t)
        telling_decides e = sym (ap telling_of this_line ∙ rw e)

        pub telling_differs : k ≡ Told.Differs → T.Matters ≡ telling_of (text_told_by v f F t)
        telling_differs e = sym (ap telling_of this_line ∙ rw e)

        pub telling_more : k ≡ Told.Passes → Telling_from t (l.end + 1) (n + l.joins + 1)
        telling_more e = record {
          within = omega (arith, bounds.within);
          number = omega (arith, bounds.pairs, bounds.from, inv.number);
          rest = this_line ∙ rw e;
        }

-- ## Both files

module _ (F : Finder) (allow deny : List ℕ) (a : Telling) (is-a : a ≡ telling_of (text_told_by Granted Allow F allow)) where
  told_some : (o : Option (Option Place)) → (p : Place) → T.Settled p ≡ telling_of o → Some (Some p) ≡ o
  told_some None p e = absurd (true≢false (ap (λ (t : Telling). elim t [ T.Nothing ↦ false | T.Settled x ↦ true | T.Matters ↦ false ]) e))
  told_some (Some None) p e = absurd (true≢false (ap (λ (t : Telling). elim t [ T.Nothing ↦ false | T.Settled x ↦ true | T.Matters ↦ false ]) e))
  told_some (Some (Some q)) p e =
      ap (λ (t : Telling). Some (Some (elim t [ T.Nothing ↦ p | T.Settled x ↦ x | T.Matters ↦ p ]))) e

  told_none : (o : Option (Option Place)) → T.Matters ≡ telling_of o → Some None ≡ o
  told_none None e = absurd (true≢false (ap (λ (t : Telling). elim t [ T.Nothing ↦ false | T.Settled x ↦ false | T.Matters ↦ true ]) e))
  told_none (Some None) e = refl
  told_none (Some (Some q)) e = absurd (true≢false (ap (λ (t : Telling). elim t [ T.Nothing ↦ false | T.Settled x ↦ false | T.Matters ↦ true ]) e))

  told_nothing : (o : Option (Option Place)) → T.Nothing ≡ telling_of o → None ≡ o
  told_nothing None e = refl
  told_nothing (Some None) e = absurd (true≢false (ap (λ (t : Telling). elim t [ T.Nothing ↦ true | T.Settled x ↦ false | T.Matters ↦ false ]) e))
  told_nothing (Some (Some q)) e = absurd (true≢false (ap (λ (t : Telling). elim t [ T.Nothing ↦ true | T.Settled x ↦ false | T.Matters ↦ false ]) e))

  pub both_settled : (p : Place) → a ≡ T.Settled p → ◌≡◌ {A = Outcome (Option Place)} (Ok (Some p)) (Ok (settled_by F allow deny))
  unfolding settled_by
  both_settled p e = rw (← told_some (text_told_by Granted Allow F allow) p (sym e ∙ is-a))

  pub both_matters : a ≡ T.Matters → ◌≡◌ {A = Outcome (Option Place)} (Ok None) (Ok (settled_by F allow deny))
  unfolding settled_by
  both_matters e = rw (← told_none (text_told_by Granted Allow F allow) (sym e ∙ is-a))

  pub both_ended : a ≡ T.Nothing → (b : Telling) → b ≡ telling_of (text_told_by Denied Deny F deny) → (r : Result (Option Place) Refusal) → r ≡ ended_by b
      → r ≡ Ok (settled_by F allow deny)
  unfolding settled_by
  both_ended e b is_b r is-r =
      is-r ∙ ap ended_by is_b ∙ rw (← told_nothing (text_told_by Granted Allow F allow) (sym e ∙ is-a)) (ended (text_told_by Denied Deny F deny))
    where
      ended : (o : Option (Option Place)) → ended_by (telling_of o) ≡ Ok (unwrap_or o (Some (place Granted Neither 0)))
      ended None = refl
      ended (Some None) = refl
      ended (Some (Some p)) = refl

module _ (t : Telling) where
  pub ended_nothing : t ≡ T.Nothing → Ok (Some (place Granted Neither 0)) ≡ ended_by t
  ended_nothing e = rw e

  pub ended_settled : (p : Place) → t ≡ T.Settled p → Ok (Some p) ≡ ended_by t
  ended_settled p e = rw e

  pub ended_matters : t ≡ T.Matters → Ok None ≡ ended_by t
  ended_matters e = rw e
