-- Laws of the faults of the tables themselves, shaped as the calls and tests of the code hand their facts over.
-- Assumes nothing.
use Rattle.std.specs.Prelude.{None, Option, Some}
use Prim.Native.Nat.{ℕ, zero, suc, ◌+◌, ◌-◌, ◌≤◌, ◌<◌}
use mathlib.Core.Bool.{Bool, true, false, not, ◌||◌, true≢false, or-false}
use mathlib.Core.List.{List, [], ◌∷◌}
use mathlib.Core.Path.{◌≡◌, refl, sym, ap, ap₂, ◌∙◌, subst}
use native.Mathlib.Numerals.{add-one}
use native.Mathlib.Omega.{arith}
use borrow.Author.Tests.{ne_eqb, eqb-true, lt-ltb, le-ltb}
use lib.Dec.{eqb, ltb, leb-suc-suc}
use lib.ListN.{length, take, drop, get_or, length-drop}
use lib.Seq.{drop-nil, get_or-drop}
use Rattle.text.specs.Basics.{when◌then◌else◌, ◌>>=◌, ◌or_else◌, given, holds, is_some, any, first}
use Rattle.text.specs.Text.{first_among, equal, equal_fold, lower}
use Rattle.text.proofs.ScanLaws.{take_rest}
use Rattle.lines.specs.Rule.{is_except}
use Rattle.patterns.specs.Host.{Endpoint}
use Rattle.patterns.specs.Pattern.{host_pattern}
use Rattle.patterns.specs.Code.{pattern_seen}
use Rattle.patterns.specs.declared.HostSeen.{HostSeen}
use Rattle.tables.specs.declared.entry.EntrySpan.{EntrySpan}
use Rattle.tables.specs.declared.check.TextCheck.{TextCheck}
use Rattle.tables.specs.declared.check.TablesCheck.{TablesCheck}
use Rattle.tables.specs.Table.{Table, table, table_named, is_missing, is_table_name, table_name}
use Rattle.tables.specs.Table.{patterns, pattern_with, is_bad_pattern, is_misnamed, is_unsound, first_table}
use Rattle.tables.specs.Code.{entries, table_count, tables_in, entry_span, entry_table, after_entry, place_named, words, first_word, after_word}
use Rattle.tables.specs.Code.{text_checked, word_missing, words_checked, plain_bad, named_before, first_number, number_or, tables_checked, CleanWords, CleanTexts}
use Rattle.tables.proofs.EntryLaws.{Reached, reached_start, reached_cut, reached_here, reached_more, reached_end}
use Rattle.tables.proofs.WordLaws.{words_none, words_more}

-- ## Names

-- a table stands at a place exactly if it is named
pub place_some : (ts : List Table) (n : List ℕ) → is_some (place_named ts n) ≡ is_some (table_named ts n)
unfolding place_named table_named first
place_some [] n = refl
place_some (t ∷ ts) n = by (equal_fold n t.name) (place_named ts n) (table_named ts n) (place_some ts n)
  where
    by : (b : Bool) (o : Option ℕ) (p : Option Table) → is_some o ≡ is_some p
        → is_some (when b then Some 0 else (o >>= λ i. Some (suc i))) ≡ is_some (given b t or_else p)
    by true o p e = refl
    by false None p e = e
    by false (Some i) p e = e

place_missing : (o : Option ℕ) → o ≡ None → o ≡ None
place_missing None e = refl
place_missing (Some i) e = let z : ◌≡◌ {A = ℕ} 0 1 = cc in absurd (omega arith)

place_at : (o : Option ℕ) (k : ℕ) → o ≡ Some k → o ≡ Some k
place_at None k e = let z : ◌≡◌ {A = ℕ} 0 1 = cc in absurd (omega arith)
place_at (Some i) k e = cc

module _ (ts : List Table) (n : List ℕ) (p : Option ℕ) (is-p : p ≡ (place_named ts n)) where
  pub missing_none : p ≡ None → true ≡ is_missing ts n
  missing_none e = sym (ap not (sym (place_some ts n) ∙ ap is_some (place_missing (place_named ts n) (sym is-p ∙ e))))

  pub missing_found : (k : ℕ) → p ≡ Some k → false ≡ is_missing ts n
  missing_found k e = sym (ap not (sym (place_some ts n) ∙ ap is_some (place_at (place_named ts n) k (sym is-p ∙ e))))

  pub before_none : (i : ℕ) → p ≡ None → false ≡ named_before ts n i
  before_none i e = sym (ap (holds (λ k. ltb k i)) (place_missing (place_named ts n) (sym is-p ∙ e)))

  pub before_found : (i k : ℕ) → p ≡ Some k → ltb k i ≡ named_before ts n i
  before_found i k e = sym (ap (holds (λ j. ltb j i)) (place_at (place_named ts n) k (sym is-p ∙ e)))

-- ## One word

slash_except : (w : List ℕ) → first_among "/" w ≡ true → is_except w ≡ false
unfolding any equal_fold equal lower
slash_except [] e = absurd (true≢false (sym e))
slash_except (x ∷ w) e = by (eqb x 47) refl e
  where
    by : (b : Bool) → eqb x 47 ≡ b → (b || false) ≡ true → is_except (x ∷ w) ≡ false
    by true f g = rw (eqb-true x 47 f)
    by false f g = absurd (true≢false (sym g))

pub bad_is : (w : List ℕ) (x : Bool) → x ≡ is_except w → (seen : HostSeen) (look : Bool) (h : Endpoint) → seen ≡ pattern_seen look (host_pattern w) h
    → (x || not seen.sound) ≡ plain_bad w
unfolding pattern_seen
bad_is w x is_x seen look h is_seen = rw (is_x, is_seen)

module _ (ts : List Table) (w : List ℕ) (x : Bool) (is_x : x ≡ first_among "/" w) where
  pub word_plain : x ≡ false → (b : Bool) → b ≡ plain_bad w → text_checked false b ≡ text_checked (word_missing ts w) (is_bad_pattern w)
  unfolding table_name is_bad_pattern pattern_with
  word_plain e b is_b = rw (← is_x, e, is_b)

  module _ (e : x ≡ true) (y : Bool) (is_y : y ≡ is_table_name (take (length w - 1) (drop 1 w))) where
    slash : first_among "/" w ≡ true
    slash = sym is_x ∙ e

    name_of : table_name w ≡ given y (take (length w - 1) (drop 1 w))
    unfolding table_name
    name_of = rw (slash, is_y, take_rest w 1)

    bad_of : is_bad_pattern w ≡ not y
    unfolding is_bad_pattern pattern_with
    bad_of = rw (slash_except w slash, slash, name_of) (by y)
      where
        by : (b : Bool) → not (is_some {A = Endpoint → Bool} (given b (take (length w - 1) (drop 1 w)) >>= λ n. Some (λ h. false))) ≡ not b
        by true = refl
        by false = refl

    pub word_named : y ≡ true → (m : Bool) → m ≡ is_missing ts (take (length w - 1) (drop 1 w))
        → text_checked m false ≡ text_checked (word_missing ts w) (is_bad_pattern w)
    word_named f m is_m = rw (is_m, bad_of, name_of, f)

    pub word_misnamed : y ≡ false → text_checked false true ≡ text_checked (word_missing ts w) (is_bad_pattern w)
    word_misnamed f = rw (bad_of, name_of, f)

-- ## The words of a text

-- what is found of a text whose words up to the rest gave c
abbrev pub text_from : TextCheck → TextCheck → TextCheck
text_from c d = text_checked (c.missing || d.missing) (c.bad || d.bad)

or_assoc : (a b c : Bool) → (a || (b || c)) ≡ ((a || b) || c)
or_assoc true b c = refl
or_assoc false b c = refl

or_none : (a : Bool) → (a || false) ≡ a
or_none true = refl
or_none false = refl

pub text_start : (ts : List Table) (s : List ℕ) → words_checked ts (words s) ≡ text_from (text_checked false false) (words_checked ts (words s))
unfolding words_checked
text_start ts s = refl

-- the loop that has passed a text up to the rest, at the word w
module _ (ts : List Table) (r found : TextCheck) (rest w : List ℕ) (so_far : r ≡ text_from found (words_checked ts (words rest)))
    (is-w : w ≡ first_word rest) where
  pub text_end : length w ≡ 0 → found ≡ r
  unfolding words_checked any
  text_end e = sym (so_far ∙ rw (words_none rest w is-w e) (ap₂ text_checked (or_none found.missing) (or_none found.bad)))

  pub text_more : (length w ≡ 0 → ⊥) → (seen : TextCheck) → seen ≡ text_checked (word_missing ts w) (is_bad_pattern w)
      → (next : List ℕ) → next ≡ after_word rest
      → r ≡ text_from (text_checked (found.missing || seen.missing) (found.bad || seen.bad)) (words_checked ts (words next))
  unfolding words_checked any
  text_more full seen is_seen next is-next =
      so_far
      ∙ rw (words_more rest w next is-w full is-next, is_seen)
      (ap₂ text_checked
      (or_assoc found.missing (word_missing ts w) (any (word_missing ts) (words next)))
      (or_assoc found.bad (is_bad_pattern w) (any is_bad_pattern (words next))))

-- ## The numbers of tables

module _ (before : ℕ) (b : Bool) (n : ℕ) where
  pub number_here : before ≡ 0 → b ≡ true → n ≡ first_number before b n
  number_here e f = rw (e, f)

  pub number_none : before ≡ 0 → b ≡ false → before ≡ first_number before b n
  number_none e f = rw (e, f)

  pub number_kept : (before ≡ 0 → ⊥) → before ≡ first_number before b n
  number_kept e = rw (ne_eqb before 0 e)

abbrev pub number_from : ℕ → Option ℕ → ℕ
number_from m o = when eqb m 0 then number_or o else m

number_more : (m : ℕ) (b : Bool) (k : ℕ) (o : Option ℕ) → (k ≡ 0 → ⊥) → number_from m (given b k or_else o) ≡ number_from (first_number m b k) o
number_more m b k o h = by (eqb m 0) refl b
  where
    by : (z : Bool) → eqb m 0 ≡ z → (b : Bool) → number_from m (given b k or_else o) ≡ number_from (first_number m b k) o
    by true e true = simp (e, ne_eqb k 0 h)
    by true e false = simp e
    by false e b = simp e

number_end : (m : ℕ) → number_from m None ≡ m
number_end m = by (eqb m 0) refl
  where
    by : (z : Bool) → eqb m 0 ≡ z → number_from m None ≡ m
    by true e = rw e (sym (eqb-true m 0 e))
    by false e = rw e

-- ## The names before

before_start : (ts : List Table) (n : List ℕ) → false ≡ named_before ts n 0
before_start ts n = by (place_named ts n)
  where
    by : (o : Option ℕ) → false ≡ holds (λ k. ltb k 0) o
    by None = refl
    by (Some k) = sym (le-ltb k 0 (omega arith))

before_shift : (o : Option ℕ) (i : ℕ) → holds (λ k. ltb k (suc i)) (o >>= λ k. Some (suc k)) ≡ holds (λ k. ltb k i) o
before_shift None i = refl
before_shift (Some k) i = leb-suc-suc (suc k) i

or_true : (a : Bool) → true ≡ (a || true)
or_true true = refl
or_true false = refl

abbrev head_or : Table → List Table → Table
head_or d [] = d
head_or d (x ∷ l) = x

pub before_more : (ts : List Table) (n : List ℕ) (i : ℕ) (t : Table) (us : List Table) → drop i ts ≡ t ∷ us
    → (equal_fold n t.name || named_before ts n i) ≡ named_before ts n (suc i)
unfolding place_named
before_more [] n i t us e = let z : length (t ∷ us) ≡ 0 = ap length (sym e ∙ drop-nil i) in absurd (omega arith)
before_more (x ∷ ts) n zero t us e = by (equal_fold n x.name) refl
  where
    by : (b : Bool) → equal_fold n x.name ≡ b → (equal_fold n t.name || named_before (x ∷ ts) n 0) ≡ named_before (x ∷ ts) n 1
    by true f = rw (← ap (head_or x) e, f)
    by false f =
        let u : equal_fold n t.name ≡ false = rw (← ap (head_or x) e) f in
        ap₂ (λ (a b : Bool). a || b) u (sym (before_start (x ∷ ts) n))
        ∙ sym (rw f (before_shift (place_named ts n) 0 ∙ sym (before_start ts n)))
before_more (x ∷ ts) n (suc i) t us e = by (equal_fold n x.name) refl (before_more ts n i t us e)
  where
    by : (b : Bool) → equal_fold n x.name ≡ b → (equal_fold n t.name || named_before ts n i) ≡ named_before ts n (suc i)
        → (equal_fold n t.name || named_before (x ∷ ts) n (suc i)) ≡ named_before (x ∷ ts) n (suc (suc i))
    by true f ih = rw (f, lt-ltb 0 (suc i) (omega arith), lt-ltb 0 (suc (suc i)) (omega arith)) (sym (or_true (equal_fold n t.name)))
    by false f ih = rw (f, before_shift (place_named ts n) i, before_shift (place_named ts n) (suc i)) ih

-- ## The loop over the tables

not_not : (b : Bool) → not (not b) ≡ b
not_not true = refl
not_not false = refl

abbrev unsound_is : List Table → Table → Bool
unsound_is before x = is_unsound x

-- i tables were passed, those before; what was found of them, and what is left, give the answer
pub record Checked (t : List ℕ) (n : ℕ) (rest : List ℕ) (i misnamed unsound : ℕ) : Type 0 where
  pub reached : Reached t n rest i
  pub before : List Table
  pub named : (m : List ℕ) → is_some (table_named before m) ≡ named_before (tables_in t) m i
  pub misnamed_is : (tables_checked (tables_in t)).misnamed ≡ number_from misnamed (first_table (is_misnamed (tables_in t)) (i + 1) before (drop i (tables_in t)))
  pub unsound_is_lem : (tables_checked (tables_in t)).unsound ≡ number_from unsound (first_table unsound_is (i + 1) before (drop i (tables_in t)))

-- a text that is known to be clean
pub clean_found : (b : Bool) (ts : List Table) (ws : List (List ℕ)) → CleanWords b ts ws → b ≡ true → text_checked false false ≡ words_checked ts ws
unfolding CleanWords
clean_found b ts ws h e = sym (h e)

-- where nothing is known of the texts
pub clean_unknown : (ts : List Table) → CleanTexts false ts
unfolding CleanTexts CleanWords
clean_unknown ts i l e = absurd (true≢false (sym e))

-- no table is counted
pub checked_none : (t : List ℕ) (n : ℕ) → n ≡ table_count t → n ≡ 0
    → ◌≡◌ {A = TablesCheck} (record { misnamed = 0; unsound = 0 }) (tables_checked (tables_in t))
unfolding tables_checked tables_in entries first_table
checked_none t n is-n z = let e : table_count t ≡ 0 = sym is-n ∙ z in rw e

pub checked_start : (t : List ℕ) (n : ℕ) → n ≡ table_count t → (rest : List ℕ) → rest ≡ drop 2 t → Checked t n rest 0 0 0
unfolding tables_checked table_named first
checked_start t n is-n rest is-rest = record {
  reached = reached_start t n is-n rest is-rest;
  before = [];
  named = λ m. before_start (tables_in t) m;
  misnamed_is = refl;
  unsound_is_lem = refl;
}

module _ (t : List ℕ) (n : ℕ) (rest : List ℕ) (i misnamed unsound : ℕ) (so_far : Checked t n rest i misnamed unsound) where
  abbrev ts : List Table
  ts = tables_in t

  abbrev found : TablesCheck
  found = record { misnamed = misnamed; unsound = unsound }

  done : drop i ts ≡ [] → found ≡ tables_checked ts
  unfolding first_table
  done e =
      let a : (tables_checked ts).misnamed ≡ misnamed = so_far.misnamed_is ∙ rw e (number_end misnamed) in
      let b : (tables_checked ts).unsound ≡ unsound = so_far.unsound_is_lem ∙ rw e (number_end unsound) in
      ap₂ (λ (x y : ℕ). record { misnamed = x; unsound = y }) (sym a) (sym b)

  pub checked_end : n ≤ i → found ≡ tables_checked ts
  checked_end h = done (reached_end t n rest i so_far.reached h)

  module _ (more : i < n) (span : EntrySpan) (is-span : span ≡ entry_span rest) where
    pub checked_cut : span.cut ≡ true → found ≡ tables_checked ts
    checked_cut e = done (reached_cut t n rest i so_far.reached more span is-span e)

    pub clean_here : span.cut ≡ false → (text : List ℕ) → text ≡ (entry_table rest).text → (b : Bool) → CleanTexts b ts → CleanWords b ts (words text)
    unfolding CleanTexts
    clean_here whole text is-text b known =
        let here = reached_here t n rest i so_far.reached more span is-span whole in
        let z : i + 0 ≡ i = omega arith in
        let at : get_or ts i (table [] []) ≡ entry_table rest
        = ap (λ (j : ℕ). get_or ts j (table [] [])) (sym z) ∙ sym (get_or-drop i ts 0 (table [] []))
        ∙ ap (λ (l : List Table). get_or l 0 (table [] [])) here in
        let l : length (drop i ts) ≡ suc (length (entries (n - (i + 1)) (after_entry rest))) = ap length here in
        subst (λ (u : List ℕ). CleanWords b ts (words u)) (ap (λ (x : Table). x.text) at ∙ sym is-text)
        (known i (omega (arith, l, length-drop i ts)))

    module _ (whole : span.cut ≡ false) (name : List ℕ) (is_name : name ≡ (entry_table rest).name)
        (text : List ℕ) (is-text : text ≡ (entry_table rest).text) (seen : TextCheck) (is_seen : seen ≡ words_checked ts (words text)) where
      abbrev here : Table
      here = entry_table rest

      abbrev others : List Table
      others = entries (n - (i + 1)) (after_entry rest)

      split_here : drop i ts ≡ here ∷ others
      split_here = reached_here t n rest i so_far.reached more span is-span whole

      module _ (p : List Table → Table → Bool) (found : ℕ) (b : Bool) (is_b : b ≡ p so_far.before here) where
        number_step : number_from found (first_table p (i + 1) so_far.before (drop i ts))
            ≡ number_from (first_number found b (i + 1)) (first_table p (i + 1 + 1) (here ∷ so_far.before) others)
        unfolding first_table
        number_step = rw (split_here, ← is_b) (number_more found b (i + 1) (first_table p (i + 1 + 1) (here ∷ so_far.before) others) (λ z. omega arith))

      named_step : (m : List ℕ) → is_some (table_named (here ∷ so_far.before) m) ≡ named_before ts m (i + 1)
      unfolding table_named first
      named_step m =
          rw (add-one i)
          (by (equal_fold m here.name) (table_named so_far.before m)
          ∙ ap (λ (b : Bool). equal_fold m here.name || b) (so_far.named m)
          ∙ before_more ts m i here others split_here)
        where
          by : (b : Bool) (o : Option Table) → is_some (given b here or_else o) ≡ (b || is_some o)
          by true o = refl
          by false o = refl

      is_misnamed_lem : (twice : Bool) → twice ≡ named_before ts name i → (twice || seen.missing) ≡ is_misnamed ts so_far.before here
      unfolding is_misnamed patterns words_checked words
      is_misnamed_lem twice is-twice =
          let a : twice ≡ not (is_missing so_far.before here.name)
          = is-twice ∙ rw is_name (sym (so_far.named here.name) ∙ sym (not_not (is_some (table_named so_far.before here.name)))) in
          let b : seen.missing ≡ any (word_missing ts) (patterns here) = rw (is_seen, is-text) in
          ap₂ (λ (a b : Bool). a || b) a b

      is_unsound_lem : (sound : Bool) → sound ≡ is_table_name name → (not sound || seen.bad) ≡ is_unsound here
      unfolding is_unsound patterns words_checked words
      is_unsound_lem sound is-sound = rw (is-sound, is_seen, is_name, is-text)

      pub checked_more : (twice : Bool) → twice ≡ named_before ts name i → (a : ℕ) → a ≡ first_number misnamed (twice || seen.missing) (i + 1)
          → (sound : Bool) → sound ≡ is_table_name name → (b : ℕ) → b ≡ first_number unsound (not sound || seen.bad) (i + 1)
          → (next : List ℕ) → next ≡ after_entry rest → Checked t n next (i + 1) a b
      checked_more twice is-twice a is-a sound is-sound b is_b next is-next =
          let r : Reached t n next (i + 1) = reached_more t n rest i so_far.reached more span is-span whole next is-next in
          record {
            reached = r;
            before = here ∷ so_far.before;
            named = named_step;
            misnamed_is = so_far.misnamed_is
                ∙ rw (is-a, r.left, is-next) (number_step (is_misnamed ts) misnamed (twice || seen.missing) (is_misnamed_lem twice is-twice));
            unsound_is_lem = so_far.unsound_is_lem
                ∙ rw (is_b, r.left, is-next) (number_step unsound_is unsound (not sound || seen.bad) (is_unsound_lem sound is-sound));
          }

-- ## Texts that are clean

pub clean_none : (ts : List Table) → words_checked ts [] ≡ text_checked false false
unfolding words_checked any
clean_none ts = refl

pub clean_more : (ts : List Table) (w : List ℕ) (ws : List (List ℕ)) → words_checked ts (w ∷ []) ≡ text_checked false false
    → words_checked ts ws ≡ text_checked false false → words_checked ts (w ∷ ws) ≡ text_checked false false
unfolding words_checked any
clean_more ts w ws a b =
    ap₂ (λ (x y : Bool). text_checked x y)
    (ap₂ (λ (x y : Bool). x || y) (sym (or-false (word_missing ts w)) ∙ ap (λ (c : TextCheck). c.missing) a) (ap (λ (c : TextCheck). c.missing) b))
    (ap₂ (λ (x y : Bool). x || y) (sym (or-false (is_bad_pattern w)) ∙ ap (λ (c : TextCheck). c.bad) a) (ap (λ (c : TextCheck). c.bad) b))

-- a pattern of another kind
pub clean_plain : (ts : List Table) (w : List ℕ) → first_among "/" w ≡ false → is_except w ≡ false → is_some (host_pattern w) ≡ true
    → words_checked ts (w ∷ []) ≡ text_checked false false
unfolding words_checked any
clean_plain ts w e plain sound =
    let p : false ≡ plain_bad w = rw (plain, sound) in
    ap (λ (c : TextCheck). text_checked (c.missing || false) (c.bad || false)) (sym (word_plain ts w (first_among "/" w) refl e false p))

named_slash : (w n : List ℕ) → table_name w ≡ Some n → first_among "/" w ≡ true
unfolding table_name
named_slash w n = by (first_among "/" w)
  where
    by : (x : Bool) → (when x then given (is_table_name (drop 1 w)) (drop 1 w) else None) ≡ Some n → x ≡ true
    by true e = refl
    by false e = ap is_some e

-- the name of a table that is there
pub clean_named : (ts : List Table) (w n : List ℕ) (i : ℕ) → table_name w ≡ Some n → place_named ts n ≡ Some i
    → words_checked ts (w ∷ []) ≡ text_checked false false
unfolding words_checked any is_bad_pattern pattern_with
clean_named ts w n i is-n at =
    let s : first_among "/" w ≡ true = named_slash w n is-n in
    let m : word_missing ts w ≡ false = rw (is-n, ← place_some ts n, at) in
    let b : is_bad_pattern w ≡ false = rw (slash_except w s, s, is-n) in
    ap₂ (λ (x y : Bool). text_checked (x || false) (y || false)) m b
