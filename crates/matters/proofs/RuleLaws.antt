-- Request 14, of one rule: every user finds what one that stands for it does. A name equal to the half of an element that asks finds what
-- that half does, a name equal to none what a name does that no half can be.
--   told-passes, told-decides == what a rule tells is what every user finds
--   told_differs              == where it tells that it differs, some name finds something else than an unknown user
-- Assumes nothing.
use Rattle.std.specs.Prelude.{None, Option, Some}
use Prim.Native.Nat.{ℕ, ◌+◌, ◌≤◌}
use mathlib.Core.Bool.{Bool, true, false, not, ◌&&◌, ◌||◌, true≢false}
use mathlib.Core.List.{List, [], ◌∷◌, map}
use mathlib.Core.Path.{◌≡◌, refl, sym, ap, ◌∙◌, subst}
use native.Mathlib.Omega.{arith}
use borrow.Author.Tests.{eqb-true, le-leb, leb-true}
use lib.ListN.{length, length-map}
use lib.Dec.{leb, eqb}
use Rattle.text.specs.Basics.{when◌then◌else◌, ◌>>=◌, ◌or_else◌, given, holds, is_some, all, any}
use Rattle.text.specs.Text.{bytes, in_range, char_range, equal, equal_fold, lower, is_word}
use Rattle.text.proofs.BasicLaws.{and_true}
use Rattle.text.proofs.ScanLaws.{eq_of_equal}
use Rattle.lines.specs.Rule.{Rule, is_except}
use Rattle.patterns.specs.Host.{Endpoint}
use Rattle.patterns.specs.Pattern.{is_name_byte, wildcard}
use Rattle.tables.specs.Table.{Matcher, pattern_with}
use Rattle.elements.specs.declared.User.{User}
use Rattle.elements.specs.declared.User.TheVariants as U
use Rattle.elements.specs.declared.Found.{Found}
use Rattle.elements.specs.declared.Found.TheVariants.{No, Yes, Ask}
use Rattle.elements.specs.Request.{Request, user_case}
use Rattle.elements.specs.Code.{View, client_request, with_user}
use Rattle.elements.specs.Element.{halves, found_if, is_plain_name, user_half, client_parts, daemon_element, client_element, look_at}
use Rattle.lists.specs.Walk.{on_found, included, excluded, rule_found_by, rule_found}
use Rattle.lists.specs.ListCode.{client_finds}
use Rattle.rules.proofs.UserLaws.{Quiet, daemon_same, client_same, rule_same, rule_quiet}
use Rattle.matters.specs.declared.Told.{Told}
use Rattle.matters.specs.declared.Told.TheVariants as Told
use Rattle.matters.specs.Matters.{same_found, fresh_name, name_finds, asks_at, half_holds, asker_holds, told_of, told_by, asked_told, found_told, rule_told}

-- ## Findings

pub found_same : (f g : Found) → same_found f g ≡ true → g ≡ f
found_same No No e = refl
found_same No Yes e = absurd (true≢false (sym e))
found_same No Ask e = absurd (true≢false (sym e))
found_same Yes No e = absurd (true≢false (sym e))
found_same Yes Yes e = refl
found_same Yes Ask e = absurd (true≢false (sym e))
found_same Ask No e = absurd (true≢false (sym e))
found_same Ask Yes e = absurd (true≢false (sym e))
found_same Ask Ask e = refl

quiet_unless : (f : Found) → same_found Ask f ≡ false → Quiet f
quiet_unless No e = tt
quiet_unless Yes e = tt
quiet_unless Ask e = absurd (true≢false e)

-- ## Walks that agree on their elements

module _ (m m' : List ℕ → Found) (p : List ℕ → Bool) (agree : (w : List ℕ) → p w ≡ true → m' w ≡ m w) where
  mutual
    unfolding included excluded all

    included_agree : (ws : List (List ℕ)) → all p ws ≡ true → included m' ws ≡ included m ws
    included_agree [] h = refl
    included_agree (w ∷ ws) h =
        let k : (p w ≡ true) × (all p ws ≡ true) = and_true (p w) (all p ws) h in
        rw (agree w k.0, excluded_agree ws k.1, included_agree ws k.1)

    excluded_agree : (ws : List (List ℕ)) → all p ws ≡ true → excluded m' ws ≡ excluded m ws
    excluded_agree [] h = refl
    excluded_agree (w ∷ ws) h =
        let k : (p w ≡ true) × (all p ws ≡ true) = and_true (p w) (all p ws) h in
        rw (excluded_agree ws k.1, included_agree ws k.1)

all_true : (ws : List (List ℕ)) → all (λ w. true) ws ≡ true
unfolding all
all_true [] = refl
all_true (w ∷ ws) = all_true ws

module _ (m : Matcher) (r : Request) (u u' : User) (t t' : List ℕ) (p : List ℕ → Bool)
    (agree : (e : List ℕ) → p e ≡ true → look_at (with_user r u' t') (client_element m e) ≡ look_at (with_user r u t) (client_element m e)) where
  daemon_agree : (e : List ℕ) → look_at (with_user r u' t') (daemon_element m e) ≡ look_at (with_user r u t) (daemon_element m e)
  daemon_agree e = daemon_same m r [] u' t' e ∙ sym (daemon_same m r [] u t e)

  rule_agree : (x : Rule) → all p x.clients ≡ true → rule_found m (with_user r u' t') x ≡ rule_found m (with_user r u t) x
  unfolding rule_found_by
  rule_agree x h = rw (
    included_agree (λ e. look_at (with_user r u t) (daemon_element m e)) (λ e. look_at (with_user r u' t') (daemon_element m e)) (λ w. true)
        (λ w k. daemon_agree w) x.daemons (all_true x.daemons),
    included_agree (λ e. look_at (with_user r u t) (client_element m e)) (λ e. look_at (with_user r u' t') (client_element m e)) p agree x.clients h,
  )

-- ## What an element finds of two names

-- a half tells two users of one state apart or not
abbrev HalfSame : Request → User → List ℕ → List ℕ → Option (Request → Bool) → Type 0
HalfSame r u t t' o = holds (λ f. f (with_user r u t')) o ≡ holds (λ f. f (with_user r u t)) o

module _ (m : Matcher) (r : Request) (u : User) (t t' : List ℕ) where
  look_agree : (e : List ℕ) → ((p : List ℕ × List ℕ) → halves e ≡ Some p → HalfSame r u t t' (user_half p.0))
      → look_at (with_user r u t') (client_element m e) ≡ look_at (with_user r u t) (client_element m e)
  unfolding client_element client_parts
  look_agree e same = by (halves e) refl
    where
      name : (o : Option (Endpoint → Bool)) → look_at (with_user r u t') (o >>= λ g. Some λ q. found_if (g q.client))
          ≡ look_at (with_user r u t) (o >>= λ g. Some λ q. found_if (g q.client))
      name None = refl
      name (Some g) = refl

      fetched : (v : User) (x y : Bool) → x ≡ y
          → user_case (with_user r v t') Ask (found_if x) (found_if x) ≡ user_case (with_user r v t) Ask (found_if y) (found_if y)
      fetched U.NotFetched x y k = refl
      fetched U.Unknown x y k = ap found_if k
      fetched U.Known x y k = ap found_if k

      half : (o : Option (Request → Bool)) (o' : Option (Endpoint → Bool)) → HalfSame r u t t' o
          → look_at (with_user r u t') (o >>= λ f. o' >>= λ g. Some λ q. when g q.client then user_case q Ask (found_if (f q)) (found_if (f q)) else No)
          ≡ look_at (with_user r u t) (o >>= λ f. o' >>= λ g. Some λ q. when g q.client then user_case q Ask (found_if (f q)) (found_if (f q)) else No)
      half None o' k = refl
      half (Some f) None k = refl
      half (Some f) (Some g) k =
          ap (λ (x : Found). when g r.client then x else No) (fetched u (f (with_user r u t')) (f (with_user r u t)) k)

      by : (o : Option (List ℕ × List ℕ)) → halves e ≡ o
          → look_at (with_user r u t') (client_parts m e o) ≡ look_at (with_user r u t) (client_parts m e o)
      by None k = name (pattern_with m e)
      by (Some p) k = half (user_half p.0) (pattern_with m p.1) (same p k)

-- a half tells two names apart only by equality with it, and only where it is a name
known_half : (r : Request) (t t' h : List ℕ) → (is_plain_name h ≡ true → equal_fold h t' ≡ equal_fold h t) → HalfSame r U.Known t t' (user_half h)
unfolding user_half
known_half r t t' h = by (is_word "ALL" h) (is_word "KNOWN" h) (is_word "UNKNOWN" h) (is_plain_name h)
  where
    by : (a b c d : Bool) → (d ≡ true → equal_fold h t' ≡ equal_fold h t)
        → HalfSame r U.Known t t'
        (given a (λ q. true) or_else given b (λ q. user_case q false false true) or_else given c (λ q. user_case q false true false)
        or_else given d (λ q. user_case q false false (equal_fold h q.user_name)))
    by true b c d k = refl
    by false true c d k = refl
    by false false true d k = refl
    by false false false true k = k refl
    by false false false false k = refl

-- an unknown user has no name
unknown_half : (r : Request) (t t' h : List ℕ) → HalfSame r U.Unknown t t' (user_half h)
unfolding user_half
unknown_half r t t' h = by (is_word "ALL" h) (is_word "KNOWN" h) (is_word "UNKNOWN" h) (is_plain_name h)
  where
    by : (a b c d : Bool) → HalfSame r U.Unknown t t'
        (given a (λ q. true) or_else given b (λ q. user_case q false false true) or_else given c (λ q. user_case q false true false)
        or_else given d (λ q. user_case q false false (equal_fold h q.user_name)))
    by true b c d = refl
    by false true c d = refl
    by false false true d = refl
    by false false false true = refl
    by false false false false = refl

-- ## Names that stand for others

-- no name byte is the fresh name's
byte_fresh : (x : ℕ) → is_name_byte x ≡ true → eqb (lower x) 33 ≡ false
unfolding is_name_byte lower any
byte_fresh x e = by (char_range "A" "Z" x) refl (eqb (lower x) 33) refl
  where
    by : (b : Bool) → char_range "A" "Z" x ≡ b → (c : Bool) → eqb (lower x) 33 ≡ c → c ≡ false
    by b f false g = refl
    by true f true g =
        let h : lower x ≡ x + 32 = rw f in
        let k : lower x ≡ 33 = eqb-true (lower x) 33 g in
        let l : leb 65 x ≡ true = (and_true (leb 65 x) (leb x 90) f).0 in
        absurd (omega (arith, leb-true 65 x l))
    by false f true g =
        let h : lower x ≡ x = rw f in
        let k : x ≡ 33 = sym h ∙ eqb-true (lower x) 33 g in
        absurd (true≢false (sym e ∙ ap is_name_byte k))

plain_fresh : (h : List ℕ) → is_plain_name h ≡ true → equal_fold h fresh_name ≡ false
unfolding is_plain_name equal_fold equal all lower
plain_fresh [] e = refl
plain_fresh (x ∷ []) e =
    let f : ((is_name_byte x && true) && in_range 1 64 1 ≡ true) × (not (is_some (wildcard (x ∷ []))) ≡ true) =
    and_true ((is_name_byte x && true) && in_range 1 64 1) (not (is_some (wildcard (x ∷ [])))) e in
    let g : (is_name_byte x && true ≡ true) × (in_range 1 64 1 ≡ true) = and_true (is_name_byte x && true) (in_range 1 64 1) f.0 in
    rw (byte_fresh x (and_true (is_name_byte x) true g.0).0)
plain_fresh (x ∷ y ∷ h) e = by (eqb (lower x) 33)
  where
    by : (b : Bool) → (b && false) ≡ false
    by true = refl
    by false = refl

not_false : (b : Bool) → not b ≡ false → b ≡ true
not_false true e = refl
not_false false e = sym e

not_true : (b : Bool) → not b ≡ true → b ≡ false
not_true true e = sym e
not_true false e = refl

pub fold_length : (h t : List ℕ) → equal_fold h t ≡ true → length h ≡ length t
unfolding equal_fold
fold_length h t e = sym (length-map h lower) ∙ ap length (eq_of_equal (map lower h) (map lower t) e) ∙ length-map t lower

-- names equal but for case find the same of an element
element_alike : (m : Matcher) (r : Request) (t t' : List ℕ) → equal_fold t t' ≡ true → (e : List ℕ)
    → look_at (with_user r U.Known t') (client_element m e) ≡ look_at (with_user r U.Known t) (client_element m e)
unfolding equal_fold
element_alike m r t t' e w =
    look_agree m r U.Known t t' w (λ p q. known_half r t t' p.0 (λ z. ap (equal (map lower p.0)) (sym (eq_of_equal (map lower t) (map lower t') e))))

-- and of a client list
pub clients_alike : (v : View) (c : Endpoint) (t t' : List ℕ) → equal_fold t t' ≡ true → (ws : List (List ℕ))
    → included (client_finds v c U.Known t') ws ≡ included (client_finds v c U.Known t) ws
clients_alike v c t t' e ws =
    included_agree (client_finds v c U.Known t) (client_finds v c U.Known t') (λ w. true)
    (λ w k. element_alike v.client (client_request c U.Known []) t t' e w) ws (all_true ws)

module _ (m : Matcher) (r : Request) (x : Rule) where
  abbrev of : User → List ℕ → Found
  of u t = rule_found m (with_user r u t) x

  -- an unknown user finds the same, whatever bytes stand beside it
  pub unknown_same : (t : List ℕ) → of U.Unknown t ≡ of U.Unknown []
  unknown_same t = rule_agree m r U.Unknown U.Unknown [] t (λ e. true)
      (λ e k. look_agree m r U.Unknown [] t e (λ p q. unknown_half r [] t p.0)) x (all_true x.clients)

  -- names equal but for case find the same
  fold_same : (t t' : List ℕ) → equal_fold t t' ≡ true → of U.Known t' ≡ of U.Known t
  fold_same t t' e = rule_agree m r U.Known U.Known t t' (λ w. true) (λ w k. element_alike m r t t' e w) x (all_true x.clients)

  -- a name that is no half of an element that asks finds what the fresh one does
  fresh_same : (t : List ℕ) → all (asker_holds m r (λ h. not (equal_fold h t))) x.clients ≡ true → of U.Known t ≡ of U.Known fresh_name
  unfolding asker_holds
  fresh_same t h = rule_agree m r U.Known U.Known fresh_name t (asker_holds m r (λ h. not (equal_fold h t))) element x h
    where
      half : (w : List ℕ) (p : List ℕ × List ℕ) → halves w ≡ Some p → half_holds (λ h. not (equal_fold h t)) (halves w) ≡ true → equal_fold p.0 t ≡ false
      half w p q k = not_true (equal_fold p.0 t) (subst (λ o. half_holds (λ h. not (equal_fold h t)) o ≡ true) q k)

      element : (w : List ℕ) → (not (asks_at m r w) || half_holds (λ h. not (equal_fold h t)) (halves w)) ≡ true
          → look_at (with_user r U.Known t) (client_element m w) ≡ look_at (with_user r U.Known fresh_name) (client_element m w)
      element w k = by (asks_at m r w) refl k
        where
          by : (b : Bool) → asks_at m r w ≡ b → (not b || half_holds (λ h. not (equal_fold h t)) (halves w)) ≡ true
              → look_at (with_user r U.Known t) (client_element m w) ≡ look_at (with_user r U.Known fresh_name) (client_element m w)
          by true e k = look_agree m r U.Known fresh_name t w
              (λ p q. known_half r fresh_name t p.0 (λ z. half w p q k ∙ sym (plain_fresh p.0 z)))
          by false e k =
              let q : Quiet (look_at (with_user r U.NotFetched []) (client_element m w)) =
              quiet_unless (look_at (with_user r U.NotFetched []) (client_element m w)) e in
              client_same m r [] U.Known t w q ∙ sym (client_same m r [] U.Known fresh_name w q)

-- ## A half that one test takes and another does not

all_find : (a b : List ℕ → Bool) (xs : List (List ℕ)) → all a xs ≡ true → all b xs ≡ false → (x : List ℕ) × (a x ≡ true) × (b x ≡ false)
unfolding all
all_find a b [] e f = absurd (true≢false f)
all_find a b (x ∷ xs) e f =
    let k : (a x ≡ true) × (all a xs ≡ true) = and_true (a x) (all a xs) e in
    by (b x) refl f k.0 (λ g. all_find a b xs k.1 g)
  where
    by : (c : Bool) → b x ≡ c → (c && all b xs) ≡ false → a x ≡ true → (all b xs ≡ false → (y : List ℕ) × (a y ≡ true) × (b y ≡ false))
        → (y : List ℕ) × (a y ≡ true) × (b y ≡ false)
    by true g h k ih = ih h
    by false g h k ih = (x, k, g)

half_find : (m : Matcher) (r : Request) (a b : List ℕ → Bool) (e : List ℕ) → asker_holds m r a e ≡ true → asker_holds m r b e ≡ false
    → (h : List ℕ) × (a h ≡ true) × (b h ≡ false)
unfolding asker_holds
half_find m r a b e = by (asks_at m r e) (halves e)
  where
    by : (c : Bool) (o : Option (List ℕ × List ℕ)) → (not c || half_holds a o) ≡ true → (not c || half_holds b o) ≡ false
        → (h : List ℕ) × (a h ≡ true) × (b h ≡ false)
    by false o f g = absurd (true≢false g)
    by true None f g = absurd (true≢false g)
    by true (Some p) f g = (p.0, f, g)

-- ## What a rule tells

module _ (m : Matcher) (r : Request) (x : Rule) (f : Found) where
  -- a name that finds f and is of a permitted length
  finds_same : (t : List ℕ) → in_range 1 64 (length t) ≡ true → name_finds m r x f t ≡ true → rule_found m (with_user r U.Known t) x ≡ f
  unfolding name_finds
  finds_same t e g = by (in_range 1 64 (length t)) e g
    where
      by : (b : Bool) → b ≡ true → (not b || same_found f (rule_found m (with_user r U.Known t) x)) ≡ true → rule_found m (with_user r U.Known t) x ≡ f
      by true e g = found_same f (rule_found m (with_user r U.Known t) x) g
      by false e g = absurd (true≢false (sym e))

  finds_other : (t : List ℕ) → name_finds m r x f t ≡ false
      → (h : List ℕ) × (in_range 1 64 (length h) ≡ true) × (same_found f (rule_found m (with_user r U.Known h) x) ≡ false)
  unfolding name_finds
  finds_other t g = by (in_range 1 64 (length t)) refl g
    where
      by : (b : Bool) → in_range 1 64 (length t) ≡ b → (not b || same_found f (rule_found m (with_user r U.Known t) x)) ≡ false
          → (h : List ℕ) × (in_range 1 64 (length h) ≡ true) × (same_found f (rule_found m (with_user r U.Known h) x) ≡ false)
      by true e g = (t, e, g)
      by false e g = absurd (true≢false g)

  -- where the fresh name and every half that asks find f, so does every name
  every_name : name_finds m r x f fresh_name ≡ true → all (asker_holds m r (name_finds m r x f)) x.clients ≡ true
      → (t : List ℕ) → in_range 1 64 (length t) ≡ true → rule_found m (with_user r U.Known t) x ≡ f
  every_name g a t e = by (all (asker_holds m r (λ h. not (equal_fold h t))) x.clients) refl
    where
      by_half : (h : List ℕ) → name_finds m r x f h ≡ true → not (equal_fold h t) ≡ false → rule_found m (with_user r U.Known t) x ≡ f
      by_half h k n =
          let s : equal_fold h t ≡ true = not_false (equal_fold h t) n in
          fold_same m r x h t s ∙ finds_same h (ap (in_range 1 64) (fold_length h t s) ∙ e) k

      by : (b : Bool) → all (asker_holds m r (λ h. not (equal_fold h t))) x.clients ≡ b → rule_found m (with_user r U.Known t) x ≡ f
      by true k = fresh_same m r x t k ∙ finds_same fresh_name refl g
      by false k =
          let w : (w : List ℕ) × (asker_holds m r (name_finds m r x f) w ≡ true) × (asker_holds m r (λ h. not (equal_fold h t)) w ≡ false) =
          all_find (asker_holds m r (name_finds m r x f)) (asker_holds m r (λ h. not (equal_fold h t))) x.clients a k in
          let h : (h : List ℕ) × (name_finds m r x f h ≡ true) × (not (equal_fold h t) ≡ false) =
          half_find m r (name_finds m r x f) (λ h. not (equal_fold h t)) w.0 w.1 w.2 in
          by_half h.0 h.1 h.2

-- the users that the paper names: "unknown or any name of 1 to 64 bytes"
pub data Stated : User → List ℕ → Type 0 where
  unknown : (t : List ℕ) → Stated U.Unknown t
  named : (t : List ℕ) → in_range 1 64 (length t) ≡ true → Stated U.Known t

all_true_list : (p : List ℕ → Bool) → ((w : List ℕ) → p w ≡ true) → (ws : List (List ℕ)) → all p ws ≡ true
unfolding all
all_true_list p h [] = refl
all_true_list p h (w ∷ ws) = rw (h w) (all_true_list p h ws)

module _ (m : Matcher) (r : Request) (x : Rule) where
  abbrev unasked : Found
  unasked = rule_found m (with_user r U.NotFetched []) x

  abbrev nobody : Found
  nobody = rule_found m (with_user r U.Unknown []) x

  abbrev agreed : Bool
  agreed = name_finds m r x nobody fresh_name && all (asker_holds m r (name_finds m r x nobody)) x.clients

  agreed_same : agreed ≡ true → {u : User} {t : List ℕ} → Stated u t → rule_found m (with_user r u t) x ≡ nobody
  agreed_same h (unknown t) = unknown_same m r x t
  agreed_same h (named t e) =
      let k : (name_finds m r x nobody fresh_name ≡ true) × (all (asker_holds m r (name_finds m r x nobody)) x.clients ≡ true) =
      and_true (name_finds m r x nobody fresh_name) (all (asker_holds m r (name_finds m r x nobody)) x.clients) h in
      every_name m r x nobody k.0 k.1 t e

  -- a rule that passes users on, or decides, does so for every user
  pub told_same : (f : Found) → Quiet f → rule_told m r x ≡ told_of f → (u : User) (t : List ℕ) → Stated u t → rule_found m (with_user r u t) x ≡ f
  unfolding rule_told asked_told
  told_same f q e u t s = by unasked refl e
    where
      same_told : (g h : Found) → Quiet g → Quiet h → told_of g ≡ told_of h → g ≡ h
      same_told No No a b e = refl
      same_told No Ask a b e = absurd b
      same_told No Yes a b e = absurd (true≢false (ap passes e))
        where
          passes : Told → Bool
          passes k = elim k [ Told.Passes ↦ true | Told.Decides ↦ false | Told.Differs ↦ false ]
      same_told Yes No a b e = absurd (true≢false (ap decides e))
        where
          decides : Told → Bool
          decides k = elim k [ Told.Passes ↦ false | Told.Decides ↦ true | Told.Differs ↦ false ]
      same_told Yes Yes a b e = refl
      same_told Yes Ask a b e = absurd b
      same_told Ask h a b e = absurd a

      differs : (g : Found) → Quiet g → Told.Differs ≡ told_of g → ⊥
      differs No a e = true≢false (ap (λ (k : Told). elim k [ Told.Passes ↦ false | Told.Decides ↦ false | Told.Differs ↦ true ]) e)
      differs Yes a e = true≢false (ap (λ (k : Told). elim k [ Told.Passes ↦ false | Told.Decides ↦ false | Told.Differs ↦ true ]) e)
      differs Ask a e = a

      fetched : {u : User} {t : List ℕ} → Stated u t → (v : Found) → v ≡ unasked → Quiet v → rule_found m (with_user r u t) x ≡ v
      fetched {u} {t} s v k h = rule_same m r [] u t x (subst Quiet k h) ∙ sym k

      asked : (b : Bool) → agreed ≡ b → told_by b nobody ≡ told_of f → rule_found m (with_user r u t) x ≡ f
      asked true k e = agreed_same k s ∙ same_told nobody f (rule_quiet m (with_user r U.Unknown []) tt x) q e
      asked false k e = absurd (differs f q e)

      by : (v : Found) → v ≡ unasked → found_told m r x v ≡ told_of f → rule_found m (with_user r u t) x ≡ f
      by No k e = fetched s No k tt ∙ same_told No f tt q e
      by Yes k e = fetched s Yes k tt ∙ same_told Yes f tt q e
      by Ask k e = asked agreed refl e

  -- where it differs, a name finds something else than an unknown user
  pub told_differs : rule_told m r x ≡ Told.Differs
      → (t : List ℕ) × (in_range 1 64 (length t) ≡ true) × (same_found nobody (rule_found m (with_user r U.Known t) x) ≡ false)
  unfolding rule_told asked_told asker_holds
  told_differs e = by unasked e
    where
      Other : Type 0
      Other = (t : List ℕ) × (in_range 1 64 (length t) ≡ true) × (same_found nobody (rule_found m (with_user r U.Known t) x) ≡ false)

      other : (f : Found) → Quiet f → told_of f ≡ Told.Differs → ⊥
      other No q e = true≢false (ap (λ (k : Told). elim k [ Told.Passes ↦ true | Told.Decides ↦ false | Told.Differs ↦ false ]) e)
      other Yes q e = true≢false (ap (λ (k : Told). elim k [ Told.Passes ↦ false | Told.Decides ↦ true | Told.Differs ↦ false ]) e)
      other Ask q e = q

      among : all (asker_holds m r (name_finds m r x nobody)) x.clients ≡ false → Other
      among k =
          let w : (w : List ℕ) × (asker_holds m r (λ h. true) w ≡ true) × (asker_holds m r (name_finds m r x nobody) w ≡ false) =
          all_find (asker_holds m r (λ h. true)) (asker_holds m r (name_finds m r x nobody)) x.clients
          (all_true_list (asker_holds m r (λ h. true)) holds_true x.clients) k in
          let h : (h : List ℕ) × (true ≡ true) × (name_finds m r x nobody h ≡ false) = half_find m r (λ h. true) (name_finds m r x nobody) w.0 w.1 w.2 in
          finds_other m r x nobody h.0 h.2
        where
          holds_true : (w : List ℕ) → asker_holds m r (λ h. true) w ≡ true
          holds_true w = any_half (asks_at m r w) (halves w)
            where
              any_half : (b : Bool) (o : Option (List ℕ × List ℕ)) → (not b || half_holds (λ h. true) o) ≡ true
              any_half true None = refl
              any_half true (Some p) = refl
              any_half false o = refl

      asked : (b : Bool) → name_finds m r x nobody fresh_name ≡ b → (c : Bool) → all (asker_holds m r (name_finds m r x nobody)) x.clients ≡ c
          → told_by (b && c) nobody ≡ Told.Differs → Other
      asked true f true g e = absurd (other nobody (rule_quiet m (with_user r U.Unknown []) tt x) e)
      asked true f false g e = among g
      asked false f c g e = finds_other m r x nobody fresh_name f

      by : (v : Found) → found_told m r x v ≡ Told.Differs → Other
      by No e = absurd (other No tt e)
      by Yes e = absurd (other Yes tt e)
      by Ask e = asked (name_finds m r x nobody fresh_name) refl (all (asker_holds m r (name_finds m r x nobody)) x.clients) refl e
