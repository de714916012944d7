-- Laws of checking one list and one rule, shaped as the calls and tests of the code hand their facts over.
-- Assumes nothing.
use Rattle.std.specs.Prelude.{Err, None, Ok, Option, Result, Some, ⊤}
use Prim.Native.Nat.{ℕ, ◌≤◌, ◌<◌}
use mathlib.Core.Bool.{Bool, true, false, not, ◌&&◌, ◌||◌, true≢false, or-false, and-true, and-false, and_assoc, or_assoc}
use mathlib.Core.List.{List, [], ◌∷◌}
use mathlib.Core.Path.{◌≡◌, refl, sym, ap, ap₂, fun_ext, ◌∙◌}
use lib.ListN.{length, take}
use Rattle.text.specs.Basics.{when◌then◌else◌, ◌or_else◌, given, holds, is_some, any, all}
use Rattle.section.specs.declared.Fault.TheVariants as F
use Rattle.section.specs.Code.{first_holding}
use Rattle.section.proofs.RefusalLaws.{rising, lowest_first}
use Rattle.lines.specs.Command.{has_bad_percent}
use Rattle.lines.specs.Rule.{is_except, parse_rule}
use Rattle.lines.specs.Parts.{separator_index, after_separator, words, trim_blanks, any_bad_percent}
use Rattle.lines.proofs.RuleLaws.{rule, parse_rule_none}
use Rattle.elements.specs.declared.element.ElementFault.{ElementFault}
use Rattle.elements.specs.declared.element.ElementFault.TheVariants as E
use Rattle.views.specs.declared.NamingFault.{NamingFault}
use Rattle.views.specs.declared.NamingFault.TheVariants as N
use Rattle.elements.specs.Code.{View, Kind, daemon_kind, client_kind, naming_with, element_naming, fault_of, element_fault}
use Rattle.elements.specs.Element.{daemon_reserved, client_reserved, named_table, daemon_element, client_element}
use Rattle.elements.proofs.ElementLaws.{daemon_sound, client_sound}
use Rattle.lists.specs.declared.check.ListCheck.{ListCheck}
use Rattle.lists.specs.Check.{except_misplaced, rule_fault, rule_names}
use Rattle.lists.specs.Code.{checked_of, NoNewline, is_missing_name, is_deep_name, missing_by, deep_by, judged_fault}
use Rattle.lists.specs.ListCode.{is_unsound, checks, is_reserved, is_fault, is_missing, is_deep, names_missing, names_deep, list_start, list_check, list_from}
use Rattle.lists.specs.ListCode.{list_more, list_end}
use Rattle.lists.specs.ListCode.{naming_fault_of, lowest_of, client_words, bad_command_after, rest_fault}
use Rattle.lists.proofs.ExceptLaws.{no_element, any_element, except_daemon_start, except_client_start, except_daemon, except_client}
use Rattle.lists.proofs.JoinedLaws.{has_bad_percent_joined, after_separator_joined, parse_rule_joined}
use Rattle.section.specs.declared.Fault.{Fault}

-- ## One list

module _ (kind : Kind) (w : List ℕ) where
  -- what the fault of an element tells
  element_fault_tests : (is_reserved (element_fault kind w) ≡ kind.reserved w) × (is_fault (element_fault kind w) ≡ is_unsound kind w)
  unfolding element_fault
  element_fault_tests = by (kind.reserved w) (is_some (kind.element w)) (kind.naming w)
    where
      by : (r k : Bool) (n : Result ⊤ NamingFault) → (is_reserved (fault_of r k n) ≡ r) × (is_fault (fault_of r k n) ≡ (r || not k))
      by true k n = (refl, refl)
      by false true (Ok tt) = (refl, refl)
      by false true (Err N.Missing) = (refl, refl)
      by false true (Err N.Deep) = (refl, refl)
      by false false n = (refl, refl)

  pub list_from_cons : (after : Bool) (c : ListCheck) (ws : List (List ℕ))
      → list_from kind after c (w ∷ ws) ≡ list_from kind (not (is_except w)) (list_more c after (is_except w) (element_fault kind w)) ws
  unfolding list_from list_more except_misplaced any all
  list_from_cons after c ws =
      rw (
        element_fault_tests.0,
        element_fault_tests.1,
        and_assoc c.empty (is_except w) (all is_except ws),
        or_assoc c.misplaced (is_except w && not after) (except_misplaced (not (is_except w)) ws),
        or_assoc c.reserved (kind.reserved w) (any kind.reserved ws),
        or_assoc c.unsound (is_unsound kind w) (any (is_unsound kind) ws),
        or_assoc c.missing (names_missing kind w) (any (names_missing kind) ws),
        or_assoc c.deep (names_deep kind w) (any (names_deep kind) ws),
      )

  -- of an element that is sound the fault is that of the table that it names
  sound_naming : is_unsound kind w ≡ false
      → (names_missing kind w ≡ is_missing_name (kind.naming w)) × (names_deep kind w ≡ is_deep_name (kind.naming w))
  unfolding element_fault
  sound_naming = by (kind.reserved w) (is_some (kind.element w)) (kind.naming w)
    where
      by : (r k : Bool) (n : Result ⊤ NamingFault) → (r || not k) ≡ false → (is_missing (fault_of r k n) ≡ is_missing_name n) × (is_deep (fault_of r k n) ≡ is_deep_name n)
      by true k n h = absurd (true≢false h)
      by false false n h = absurd (true≢false h)
      by false true (Ok tt) h = (refl, refl)
      by false true (Err N.Missing) h = (refl, refl)
      by false true (Err N.Deep) h = (refl, refl)

pub list_more_is : (c : ListCheck) (after x : Bool) (f : Result ⊤ ElementFault) (r : Bool) → r ≡ is_reserved f → (u : Bool) → u ≡ is_fault f
    → (n : Bool) → n ≡ is_missing f → (d : Bool) → d ≡ is_deep f
    → checks (c.empty && x) (c.misplaced || x && not after) (c.reserved || r) (c.unsound || u) (c.missing || n) (c.deep || d) ≡ list_more c after x f
unfolding list_more
list_more_is c after x f r is-r u is-u n is-n d is_d = rw (is-r, is-u, is-n, is_d)

-- a sound element
module _ (c : ListCheck) (after x : Bool) (f : Result ⊤ ElementFault) (is_f : f ≡ Ok tt) where
  kept : (e m : Bool) → e ≡ (c.empty && x) → m ≡ (c.misplaced || x && not after)
      → checks e m c.reserved c.unsound c.missing c.deep ≡ list_more c after x f
  unfolding list_more
  kept e m is-e is_m = rw (is-e, is_m, is_f, or-false c.reserved, or-false c.unsound, or-false c.missing, or-false c.deep)

  pub sound_except : x ≡ true → checks c.empty (c.misplaced || not after) c.reserved c.unsound c.missing c.deep ≡ list_more c after x f
  sound_except q = kept c.empty (c.misplaced || not after) (rw q (sym (and-true c.empty))) (rw q)

  pub sound_element_lem : x ≡ false → checks false c.misplaced c.reserved c.unsound c.missing c.deep ≡ list_more c after x f
  sound_element_lem q = kept false c.misplaced (rw q (sym (and-false c.empty))) (rw q (sym (or-false c.misplaced)))

pub list_from_start : (kind : Kind) (ws : List (List ℕ)) → list_check kind ws ≡ list_from kind false list_start ws
unfolding list_check list_from
list_from_start kind ws = refl

pub list_from_nil : (kind : Kind) (after : Bool) (c : ListCheck) → list_from kind after c [] ≡ list_end c after
unfolding list_from except_misplaced any all
list_from_nil kind after c = rw (and-true, or-false, or-false, or-false, or-false)

-- ## The lowest fault

module _ (d c : ListCheck) (bad : Bool) where
  pub lowest_of_empty : (d.empty || c.empty) ≡ true → Err F.NoElement ≡ lowest_of d c bad
  unfolding lowest_of
  lowest_of_empty e = rw e

  module _ (e : (d.empty || c.empty) ≡ false) where
    pub lowest_of_misplaced : (d.misplaced || c.misplaced) ≡ true → Err F.MisplacedExcept ≡ lowest_of d c bad
    unfolding lowest_of
    lowest_of_misplaced f = rw (e, f)

    module _ (f : (d.misplaced || c.misplaced) ≡ false) where
      pub lowest_of_reserved : (d.reserved || c.reserved) ≡ true → Err F.ReservedStart ≡ lowest_of d c bad
      unfolding lowest_of
      lowest_of_reserved g = rw (e, f, g)

      module _ (g : (d.reserved || c.reserved) ≡ false) where
        pub lowest_of_unknown : (d.unsound || c.unsound) ≡ true → Err F.UnknownElement ≡ lowest_of d c bad
        unfolding lowest_of
        lowest_of_unknown h = rw (e, f, g, h)

        module _ (h : (d.unsound || c.unsound) ≡ false) where
          pub lowest_of_percent : bad ≡ true → Err F.BadPercent ≡ lowest_of d c bad
          unfolding lowest_of
          lowest_of_percent i = rw (e, f, g, h, i)

          pub lowest_of_naming : bad ≡ false → (r : Result ⊤ Fault) → r ≡ naming_fault_of d c → r ≡ lowest_of d c bad
          unfolding lowest_of
          lowest_of_naming i r is-r = rw (e, f, g, h, i) is-r

module _ (d c : ListCheck) where
  pub naming_fault_of_missing : (d.missing || c.missing) ≡ true → Err F.TableName ≡ naming_fault_of d c
  unfolding naming_fault_of
  naming_fault_of_missing e = rw e

  module _ (e : (d.missing || c.missing) ≡ false) where
    pub naming_fault_of_deep : (d.deep || c.deep) ≡ true → Err F.TooDeep ≡ naming_fault_of d c
    unfolding naming_fault_of
    naming_fault_of_deep f = rw (e, f)

    pub naming_fault_of_sound : (d.deep || c.deep) ≡ false → Ok tt ≡ naming_fault_of d c
    unfolding naming_fault_of
    naming_fault_of_sound f = rw (e, f)

or_swap : (a b c d : Bool) → (a || b || (c || d)) ≡ (a || c || (b || d))
or_swap true b c d = refl
or_swap false true true d = refl
or_swap false true false d = refl
or_swap false false c d = refl

any_or : {A : Type 0} (p q : A → Bool) (s : List A) → any (λ x. p x || q x) s ≡ (any p s || any q s)
unfolding any
any_or p q [] = refl
any_or p q (x ∷ s) = rw (any_or p q s) (or_swap (p x) (q x) (any p s) (any q s))

-- ## The tables that sound elements name

-- how an element names a table, by the name alone
naming_missing : (f : List ℕ → Result ⊤ NamingFault) (e : List ℕ) → is_missing_name (element_naming f e) ≡ holds (λ n. is_missing_name (f n)) (named_table e)
unfolding element_naming
naming_missing f e = by (named_table e)
  where
    by : (o : Option (List ℕ)) → is_missing_name (naming_with f o) ≡ holds (λ n. is_missing_name (f n)) o
    by None = refl
    by (Some n) = refl

naming_deep : (f : List ℕ → Result ⊤ NamingFault) (e : List ℕ) → is_deep_name (element_naming f e) ≡ holds (λ n. is_deep_name (f n)) (named_table e)
unfolding element_naming
naming_deep f e = by (named_table e)
  where
    by : (o : Option (List ℕ)) → is_deep_name (naming_with f o) ≡ holds (λ n. is_deep_name (f n)) o
    by None = refl
    by (Some n) = refl

-- two tests that agree wherever a third fails, of words where it fails everywhere
any_where : (u p q : List ℕ → Bool) → ((w : List ℕ) → u w ≡ false → p w ≡ q w) → (ws : List (List ℕ)) → any u ws ≡ false → any p ws ≡ any q ws
unfolding any
any_where u p q h [] k = refl
any_where u p q h (w ∷ ws) k =
    let e : (u w ≡ false) × (any u ws ≡ false) = or_none (u w) (any u ws) k in
    ap₂ ◌||◌ (h w e.0) (any_where u p q h ws e.1)
  where
    or_none : (a b : Bool) → (a || b) ≡ false → (a ≡ false) × (b ≡ false)
    or_none true b z = absurd (true≢false z)
    or_none false b z = (refl, z)

abbrev names : (List ℕ → Bool) → List (List ℕ) → Bool
names p ws = any (λ e. holds p (named_table e)) ws

module _ (kind : Kind) (f : List ℕ → Result ⊤ NamingFault) (same : (e : List ℕ) → kind.naming e ≡ element_naming f e) (ws : List (List ℕ)) where
  list_naming : (any kind.reserved ws || any (λ e. not (is_some (kind.element e))) ws) ≡ false
      → (any (names_missing kind) ws ≡ names (λ n. is_missing_name (f n)) ws) × (any (names_deep kind) ws ≡ names (λ n. is_deep_name (f n)) ws)
  list_naming h =
      let sound : any (is_unsound kind) ws ≡ false = any_or kind.reserved (λ e. not (is_some (kind.element e))) ws ∙ h in (
        any_where (is_unsound kind) (names_missing kind) (λ e. holds (λ n. is_missing_name (f n)) (named_table e))
            (λ w k. (sound_naming kind w k).0 ∙ ap is_missing_name (same w) ∙ naming_missing f w) ws sound,
        any_where (is_unsound kind) (names_deep kind) (λ e. holds (λ n. is_deep_name (f n)) (named_table e))
            (λ w k. (sound_naming kind w k).1 ∙ ap is_deep_name (same w) ∙ naming_deep f w) ws sound,
      )

-- an unsound element that is not of reserved start is of no kind; the tables are judged where all elements are sound
lowest_checked : (a a' b b' r s u v x m m' n n' p p' q q' : Bool)
    → ((r || u) ≡ false → (m ≡ p) × (n ≡ q)) → ((s || v) ≡ false → (m' ≡ p') × (n' ≡ q'))
    → checked_of
    (first_holding ((F.NoElement, a || a') ∷ (F.MisplacedExcept, b || b') ∷ (F.ReservedStart, r || s) ∷ (F.UnknownElement, u || v) ∷ (F.BadPercent, x) ∷ [])
    or_else (given (p || p') F.TableName or_else given (q || q') F.TooDeep))
    ≡ lowest_of (checks a b r (r || u) m n) (checks a' b' s (s || v) m' n') x
unfolding first_holding lowest_of naming_fault_of
lowest_checked true a' b b' r s u v x m m' n n' p p' q q' h k = refl
lowest_checked false true b b' r s u v x m m' n n' p p' q q' h k = refl
lowest_checked false false true b' r s u v x m m' n n' p p' q q' h k = refl
lowest_checked false false false true r s u v x m m' n n' p p' q q' h k = refl
lowest_checked false false false false true s u v x m m' n n' p p' q q' h k = refl
lowest_checked false false false false false true u v x m m' n n' p p' q q' h k = refl
lowest_checked false false false false false false true v x m m' n n' p p' q q' h k = refl
lowest_checked false false false false false false false true x m m' n n' p p' q q' h k = refl
lowest_checked false false false false false false false false true m m' n n' p p' q q' h k = refl
lowest_checked false false false false false false false false false m m' n n' p p' q q' h k =
    rw ((h refl).0, (h refl).1, (k refl).0, (k refl).1) (by (p || p') (q || q'))
  where
    by : (y z : Bool) → checked_of (given y F.TableName or_else given z F.TooDeep)
        ≡ (when y then Err F.TableName else when z then Err F.TooDeep else Ok tt)
    by true z = refl
    by false true = refl
    by false false = refl

-- ## One rule

-- whether a text is an element needs no tables
module _ (v : View) (ws : List (List ℕ)) where
  unknown_daemons : any (λ e. not (is_some (daemon_element (λ n h. false) e))) ws ≡ any (λ e. not (is_some (daemon_element v.server e))) ws
  unknown_daemons = ap (λ (p : List ℕ → Bool). any p ws) (fun_ext (λ e. ap not (daemon_sound (λ n h. false) v.server e)))

  unknown_clients : any (λ e. not (is_some (client_element (λ n h. false) e))) ws ≡ any (λ e. not (is_some (client_element v.client e))) ws
  unknown_clients = ap (λ (p : List ℕ → Bool). any p ws) (fun_ext (λ e. ap not (client_sound (λ n h. false) v.client e)))

judged_fault_lists : (v : View) (ds cs : List (List ℕ)) (k : List ℕ)
    → checked_of (judged_fault v (Some (rule ds cs k))) ≡ lowest_of (list_check (daemon_kind v) ds) (list_check (client_kind v) cs) (has_bad_percent k)
unfolding judged_fault rule_fault rule_names list_check rising
judged_fault_lists v ds cs k =
    rw (
      no_element ds,
      no_element cs,
      any_element daemon_reserved except_daemon_start ds,
      any_element client_reserved except_client_start cs,
      any_element (λ e. not (is_some (daemon_element (λ n h. false) e))) except_daemon ds,
      any_element (λ e. not (is_some (client_element (λ n h. false) e))) except_client cs,
      unknown_daemons v ds,
      unknown_clients v cs,
      lowest_first
          ((F.NoElement, all is_except ds || all is_except cs)
          ∷ (F.MisplacedExcept, except_misplaced false ds || except_misplaced false cs)
          ∷ (F.ReservedStart, any daemon_reserved ds || any client_reserved cs)
          ∷ (F.UnknownElement, any (λ e. not (is_some (daemon_element v.server e))) ds || any (λ e. not (is_some (client_element v.client e))) cs)
          ∷ (F.BadPercent, has_bad_percent k) ∷ []) refl,
      any_or daemon_reserved (λ e. not (is_some (daemon_element v.server e))) ds,
      any_or client_reserved (λ e. not (is_some (client_element v.client e))) cs,
    )
    (lowest_checked (all is_except ds) (all is_except cs) (except_misplaced false ds) (except_misplaced false cs) (any daemon_reserved ds) (any client_reserved cs)
    (any (λ e. not (is_some (daemon_element v.server e))) ds) (any (λ e. not (is_some (client_element v.client e))) cs) (has_bad_percent k)
    (any (names_missing (daemon_kind v)) ds) (any (names_missing (client_kind v)) cs) (any (names_deep (daemon_kind v)) ds) (any (names_deep (client_kind v)) cs)
    (names (missing_by v) ds) (names (missing_by v) cs) (names (deep_by v) ds) (names (deep_by v) cs)
    (list_naming (daemon_kind v) v.naming (λ e. refl) ds) (list_naming (client_kind v) v.naming (λ e. refl) cs))

pub bad_command_after_is : (j : ℕ) (s k : List ℕ) → k ≡ after_separator j s → (t : List ℕ) → t ≡ trim_blanks k → (b : Bool) → b ≡ any_bad_percent t
    → b ≡ bad_command_after j s
bad_command_after_is j s k is-k t is-t b is_b = rw (← is-k, ← is-t) is_b

pub rest_fault_is : (v : View) (s : List ℕ) (j : ℕ) (d : ListCheck) → j ≡ separator_index false s → (c : ListCheck)
    → c ≡ list_check (client_kind v) (words (take j s))
    → (b : Bool) → b ≡ bad_command_after j s → (r : Result ⊤ Fault) → r ≡ lowest_of d c b → r ≡ rest_fault v d s
unfolding rest_fault
rest_fault_is v s j d is-j c is_c b is_b r is-r = rw (is-r, is_c, is_b, is-j)

module _ (v : View) (t : List ℕ) (i : ℕ) (is-i : i ≡ separator_index false t) where
  pub check_rule_none : length t ≤ i → Err F.NoElement ≡ checked_of (judged_fault v (parse_rule t))
  unfolding judged_fault rule_fault
  check_rule_none l = rw (parse_rule_none t i is-i l)

  pub check_rule_some : NoNewline t → i < length t → (d : ListCheck) → d ≡ list_check (daemon_kind v) (words (take i t))
      → (s : List ℕ) → s ≡ after_separator i t → (r : Result ⊤ Fault) → r ≡ rest_fault v d s → r ≡ checked_of (judged_fault v (parse_rule t))
  unfolding rest_fault
  check_rule_some joined l d is_d s is-s r is-r =
      let k : List ℕ = after_separator (separator_index false s) s in
      let h : NoNewline k = after_separator_joined (separator_index false s) s (rw is-s (after_separator_joined i t joined)) in
      is-r ∙ rw (is_d, parse_rule_joined t joined i is-i l s is-s, ← (has_bad_percent_joined k h)) (sym (judged_fault_lists v (words (take i t)) (client_words s) k))
