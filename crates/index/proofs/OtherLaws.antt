-- Daemon lists of one name that is not the daemon's: they find nothing, and one element is looked at.
--   other_list  == what such a list finds and looks at
--   other_byte, other_more, other_word, other_last == the loop that looks for one
-- Assumes nothing.
use Rattle.std.specs.Prelude.{None, Some}
use Prim.Native.Nat.{ℕ, ◌+◌, ◌≤◌, ◌<◌}
use native.Mathlib.Numerals.{add-one}
use native.Mathlib.Omega.{arith}
use mathlib.Core.Bool.{Bool, true, false, not, ◌&&◌, ◌||◌, true≢false}
use mathlib.Core.List.{List, [], ◌∷◌}
use mathlib.Core.Path.{◌≡◌, refl, sym, ap, ◌∙◌}
use borrow.Author.Tests.{eqb-false, ne_eqb}
use lib.Dec.{eqb}
use lib.ListN.{length, drop, get_or, drop_of_length-le}
use lib.Seq.{drop-cons}
use Rattle.text.specs.Basics.{when◌then◌else◌, ◌>>=◌, ◌or_else◌, given, any, all}
use Rattle.text.specs.Text.{bytes, among, first_among, equal, split_once, split, equal_fold, is_word}
use Rattle.text.proofs.BasicLaws.{and_true, or_false}
use Rattle.text.proofs.ScanLaws.{equal_fold_lengths}
use Rattle.section.specs.Section.{bytes_at}
use Rattle.lines.specs.Rule.{non_empty, is_except}
use Rattle.lines.specs.Parts.{words}
use Rattle.patterns.specs.Host.{Endpoint, endpoint}
use Rattle.tables.specs.Table.{Matcher, table_name}
use Rattle.tables.specs.Tried.{capped}
use Rattle.elements.specs.declared.Found.TheVariants.{No}
use Rattle.elements.specs.declared.request.Request.{Request as Places}
use Rattle.elements.specs.Element.{found_if, halves, named_table, is_plain_name, daemon_name, daemon_parts, daemon_element, look_at, element_looked}
use Rattle.elements.specs.Places.{request_at}
use Rattle.elements.specs.Code.{View, daemon_request, looked_for}
use Rattle.elements.proofs.CountLaws.{capped_small}
use Rattle.lists.specs.Walk.{included}
use Rattle.lists.specs.Looked.{looked_included}
use Rattle.lists.specs.ListCode.{daemon_finds, daemon_counts, list_looked}
use Rattle.index.specs.Code.{list_at, is_whole, is_other}
use Rattle.index.proofs.EntryLaws.{daemons_plain}

-- ## Bytes

pub record WholeByte (x : ℕ) : Type 0 where
  pub unparted : among " \t," x ≡ false
  pub signless : eqb 64 x ≡ false
  pub slashless : eqb x 47 ≡ false

whole_byte : (x : ℕ) → is_whole x ≡ true → WholeByte x
unfolding any
whole_byte x h = record {
  unparted = parted (eqb x 32) (eqb x 9) (eqb x 44) (eqb x 64) (eqb x 47) h;
  signless = ne_eqb 64 x (λ e. eqb-false x 64 (sign (eqb x 32) (eqb x 9) (eqb x 44) (eqb x 64) (eqb x 47) h) (sym e));
  slashless = slash (eqb x 32) (eqb x 9) (eqb x 44) (eqb x 64) (eqb x 47) h;
}
  where
    parted : (a b c d e : Bool) → ((not ((a || b) || c) && not d) && not e) ≡ true → (a || (b || (c || false))) ≡ false
    parted false false false d e h = refl
    parted false false true d e h = absurd (true≢false (sym h))
    parted false true c d e h = absurd (true≢false (sym h))
    parted true b c d e h = absurd (true≢false (sym h))

    sign : (a b c d e : Bool) → ((not ((a || b) || c) && not d) && not e) ≡ true → d ≡ false
    sign a b c false e h = refl
    sign false false false true e h = absurd (true≢false (sym h))
    sign false false true true e h = absurd (true≢false (sym h))
    sign false true c true e h = absurd (true≢false (sym h))
    sign true b c true e h = absurd (true≢false (sym h))

    slash : (a b c d e : Bool) → ((not ((a || b) || c) && not d) && not e) ≡ true → e ≡ false
    slash a b c d false h = refl
    slash a b c d true h = absurd (true≢false (sym (and_true (not ((a || b) || c) && not d) false h).1))

-- ## One element

split_whole : (s : List ℕ) → all is_whole s ≡ true → split " \t," s ≡ s ∷ []
unfolding split all
split_whole [] h = refl
split_whole (x ∷ t) h = let p = and_true (is_whole x) (all is_whole t) h in rw ((whole_byte x p.0).unparted, split_whole t p.1)

one_word : (s : List ℕ) → all is_whole s ≡ true → (length s ≡ 0 → ⊥) → words s ≡ s ∷ []
unfolding words non_empty
one_word [] h n = absurd (n refl)
one_word (x ∷ t) h n = rw (split_whole (x ∷ t) h)

no_sign_lem : (t : List ℕ) → all is_whole t ≡ true → split_once (bytes "@") t ≡ None
unfolding split_once all equal
no_sign_lem [] h = refl
no_sign_lem (y ∷ r) h = let p = and_true (is_whole y) (all is_whole r) h in rw ((whole_byte y p.0).signless, no_sign_lem r p.1)

whole_halves : (s : List ℕ) → all is_whole s ≡ true → halves s ≡ None
unfolding halves all
whole_halves [] h = refl
whole_halves (x ∷ t) h = rw (no_sign_lem t (and_true (is_whole x) (all is_whole t) h).1)

whole_slash : (s : List ℕ) → all is_whole s ≡ true → first_among "/" s ≡ false
unfolding all any
whole_slash [] h = refl
whole_slash (x ∷ t) h = rw (whole_byte x (and_true (is_whole x) (all is_whole t) h).0).slashless

unnamed : (s : List ℕ) → all is_whole s ≡ true → named_table s ≡ None
unfolding named_table table_name
unnamed s h = rw (whole_halves s h, whole_slash s h)

-- ## What it finds

pub record Other (s d : List ℕ) : Type 0 where
  pub whole : all is_whole s ≡ true
  pub some : length s ≡ 0 → ⊥
  pub not_all : is_word "ALL" s ≡ false
  pub not_except : is_except s ≡ false
  pub differs : equal_fold s d ≡ false

other_is : (s d : List ℕ) → is_other s d ≡ true → Other s d
unfolding is_other
other_is s d h =
    let p = and_true (all is_whole s) (not ((eqb (length s) 0 || eqb (length s) 3) || eqb (length s) 6) && not (equal_fold s d)) h in
    let q = and_true (not ((eqb (length s) 0 || eqb (length s) 3) || eqb (length s) 6)) (not (equal_fold s d)) p.1 in
    let l = or_false (eqb (length s) 0 || eqb (length s) 3) (eqb (length s) 6) (unnot _ q.0) in
    let m = or_false (eqb (length s) 0) (eqb (length s) 3) l.0 in
    record {
      whole = p.0;
      some = eqb-false (length s) 0 m.0;
      not_all = equal_fold_lengths (bytes "ALL") s (λ e. eqb-false (length s) 3 m.1 (sym e));
      not_except = equal_fold_lengths (bytes "EXCEPT") s (λ e. eqb-false (length s) 6 l.1 (sym e));
      differs = unnot _ q.1;
    }
  where
    unnot : (b : Bool) → not b ≡ true → b ≡ false
    unnot false e = refl
    unnot true e = absurd (true≢false (sym e))

finds_no : (s d : List ℕ) → Other s d → (m : Matcher) (h : Endpoint) → look_at (daemon_request d h) (daemon_element m s) ≡ No
unfolding daemon_element daemon_parts daemon_name
finds_no s d o m h = rw (whole_halves s o.whole, o.not_all) (by (is_plain_name s))
  where
    by : (b : Bool) → look_at (daemon_request d h) ((None or_else given b (equal_fold s)) >>= λ f. Some (λ r. found_if (f r.daemon))) ≡ No
    by false = refl
    by true = rw o.differs

pub other_list : (s d : List ℕ) → is_other s d ≡ true → (v : View) (h : Endpoint)
    → looked_for No 1 ≡ list_looked (daemon_finds v d h) (daemon_counts v) (words s)
unfolding list_looked included looked_included element_looked
other_list s d e v h =
    let o = other_is s d e in
    rw (one_word s o.whole o.some, o.not_except, finds_no s d o v.server h, unnamed s o.whole, capped_small 1 (omega arith))

module _ (v : View) (names : List ℕ) (q : Places) (b : Bool) (s : List ℕ) (a : List ℕ) (is-a : a ≡ bytes_at names q.daemon)
    (n : List ℕ) (is-n : n ≡ bytes_at names q.server_name) where
  pub daemons_other : b ≡ false → (x : Bool) → x ≡ is_other s a → x ≡ true
      → looked_for No 1 ≡ list_looked (daemon_finds v (request_at names q).daemon (request_at names q).server) (daemon_counts v) (list_at b s)
  daemons_other e x is_x f =
      daemons_plain v names q b s a is-a n is-n e (looked_for No 1) (other_list s a (sym is_x ∙ f) v (endpoint q.server n))

-- ## The loop

module _ (s d : List ℕ) where
  abbrev pub Wholes : ℕ → Type 0
  Wholes i = (i ≤ length s) × (all is_whole s ≡ all is_whole (drop i s))

  pub wholes_start : Wholes 0
  wholes_start = (omega arith, refl)

  next_whole : (i : ℕ) → i < length s → all is_whole (drop i s) ≡ (is_whole (get_or s i 0) && all is_whole (drop (i + 1) s))
  unfolding all
  next_whole i h = rw (add-one, drop-cons s i 0)

  module _ (i : ℕ) (w : Wholes i) where
    pub other_byte : i < length s → (x : Bool) → x ≡ is_whole (get_or s i 0) → not x ≡ true → false ≡ is_other s d
    unfolding is_other
    other_byte h x is_x e = rw (w.1, next_whole i h, ← is_x, un x e)
      where
        un : (b : Bool) → not b ≡ true → b ≡ false
        un false e = refl
        un true e = absurd (true≢false (sym e))

    pub other_more : i < length s → (x : Bool) → x ≡ is_whole (get_or s i 0) → not x ≡ false → Wholes (i + 1)
    other_more h x is_x e = (omega arith, w.1 ∙ next_whole i h ∙ rw (← is_x, un x e))
      where
        un : (b : Bool) → not b ≡ false → b ≡ true
        un true e = refl
        un false e = absurd (true≢false e)

    all_whole : length s ≤ i → all is_whole s ≡ true
    unfolding all
    all_whole h = w.1 ∙ rw (drop_of_length-le s h)

    pub other_word : length s ≤ i → ((eqb (length s) 0 || eqb (length s) 3) || eqb (length s) 6) ≡ true → false ≡ is_other s d
    unfolding is_other
    other_word h e = rw (all_whole h, e)

    pub other_last : length s ≤ i → ((eqb (length s) 0 || eqb (length s) 3) || eqb (length s) 6) ≡ false → (x : Bool) → x ≡ equal_fold s d → not x ≡ is_other s d
    unfolding is_other
    other_last h e x is_x = rw (all_whole h, e, ← is_x)
