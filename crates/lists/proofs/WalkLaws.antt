-- Laws of the walk through one list and one rule, over what an element finds; shaped as the calls and tests of the code hand their
-- facts over.
-- Assumes nothing.
use Prim.Native.Nat.{ℕ, ◌+◌, ◌-◌, ◌≤◌, ◌<◌}
use native.Mathlib.Omega.{arith}
use mathlib.Core.Bool.{Bool, true, false}
use mathlib.Core.List.{List, [], ◌∷◌}
use mathlib.Core.Path.{◌≡◌, refl, sym, ap, ap₂, subst, fun_ext, ◌∙◌}
use lib.Dec.{leb}
use lib.ListN.{length, take, drop, length-drop, drop_of_length-le}
use lib.Seq.{drop-drop, drop-length}
use borrow.Author.Tests.{leb-true, leb-false, ne_eqb}
use Rattle.text.specs.Basics.{when◌then◌else◌}
use Rattle.text.specs.Text.{split}
use Rattle.text.proofs.ScanLaws.{take_rest}
use Rattle.address.specs.declared.Addr.{Addr}
use Rattle.address.specs.declared.Addr.TheVariants as A
use Rattle.lines.specs.Rule.{is_except, non_empty}
use Rattle.lines.specs.Parts.{separator_index, after_separator, words, parting_length, element_length, first_element, after_element}
use Rattle.lines.proofs.RuleLaws.{words_none, words_more, rest_shorter, rule, parse_rule_none}
use Rattle.patterns.specs.declared.Name.{Name}
use Rattle.patterns.specs.declared.Host.{Host}
use Rattle.patterns.specs.Host.{endpoint}
use Rattle.elements.specs.declared.Found.{Found}
use Rattle.elements.specs.declared.Found.TheVariants.{No, Yes, Ask}
use Rattle.elements.specs.declared.Looked.{Looked}
use Rattle.elements.specs.declared.User.{User}
use Rattle.elements.specs.Request.{Request}
use Rattle.tables.specs.Tried.{capped}
use Rattle.elements.specs.Code.{View, looked_for}
use Rattle.elements.proofs.CountLaws.{capped_lt, capped_small, capped_twice, capped_add, capped_left}
use Rattle.elements.proofs.ElementLaws.{daemon_element_request, client_element_request}
use Rattle.lists.specs.Walk.{on_found, included, excluded, rule_found_by}
use Rattle.lists.specs.Looked.{further_on, looked_included, looked_excluded, rule_looked_by}
use Rattle.lists.specs.Code.{NoNewline, view_found, line_found, view_looked, line_looked}
use Rattle.lists.specs.ListCode.{negated, daemon_finds, client_finds, daemon_counts, client_counts, client_words, list_looked, rest_looked, looked_more}
use Rattle.lists.specs.ListCode.{negated_looked}
use Rattle.lists.specs.declared.walk.Family.{Family}
use Rattle.lists.specs.declared.walk.Family.TheVariants as Family
use Rattle.lists.specs.declared.walk.AddrParts.{AddrParts}
use Rattle.lists.specs.declared.walk.Group.{Group}
use Rattle.lists.specs.WalkCode.{parts, parts_of, addr_of, host_with, host_of, code_of, found_as, turned_found, turned}
use Rattle.lists.specs.WalkCode.{past_except, Ends, Follows, group, group_end, Grouped, Stepped}
use Rattle.lists.proofs.JoinedLaws.{parse_rule_joined}

-- ## One list: the loop over the elements left of an EXCEPT, or up to it, has come to rest, at the element w

-- rest is the end of s
pub ends_all : (s : List ℕ) → Ends s s
ends_all s = record { at = 0; same = refl }

pub ends_next : (s rest next : List ℕ) → Ends s rest → next ≡ after_element rest → Ends s next
unfolding after_element
ends_next s rest next h e =
    let a : ℕ = parting_length rest in
    let n : ℕ = element_length (drop a rest) in
    record { at = h.at + (a + n); same = e ∙ drop-drop n a rest ∙ ap (drop (a + n)) h.same ∙ drop-drop (a + n) h.at s }

ends_then : (s rest next : List ℕ) → Ends s rest → Ends rest next → Ends s next
ends_then s rest next h k =
    record { at = h.at + k.at; same = k.same ∙ ap (drop k.at) h.same ∙ drop-drop k.at h.at s }

ends_within : (s rest : List ℕ) → Ends s rest → length rest ≤ length s
ends_within s rest h = let e : length rest ≡ length s - h.at = ap length h.same ∙ length-drop h.at s in omega arith

drop_place : (j : ℕ) (s : List ℕ) → drop (length s - length (drop j s)) s ≡ drop j s
drop_place j s = by (leb j (length s)) refl
  where
    by : (b : Bool) → leb j (length s) ≡ b → drop (length s - length (drop j s)) s ≡ drop j s
    by true e =
        let l : j ≤ length s = leb-true j (length s) e in
        let k : length s - (length s - j) ≡ j = omega arith in
        rw (length-drop j s, k)
    by false e =
        let l : length s < j = leb-false j (length s) e in
        let k : length s - (length s - j) ≡ length s = omega arith in
        rw (length-drop j s, k) (drop-length s ∙ sym (drop_of_length-le s {i = j} (omega arith)))

ends_place : (s rest : List ℕ) → Ends s rest → drop (length s - length rest) s ≡ rest
ends_place s rest h =
    ap (λ (x : List ℕ). drop (length s - length x) s) h.same ∙ drop_place h.at s ∙ sym h.same

-- what is passed after a match decides nothing, and is not looked at
pub record Passed (s rest : List ℕ) : Type 0 where
  pub same : past_except (words s) ≡ past_except (words rest)
  pub ends : Ends s rest

-- before a match, n elements that decided nothing were looked at
pub record Walked (f : List (List ℕ) → Looked) (s rest : List ℕ) (n : ℕ) : Type 0 where
  pub fits : n < 18446744073709551616
  pub same : f (words s) ≡ looked_more n (f (words rest))
  pub ends : Ends s rest

no_words : words [] ≡ []
unfolding words non_empty split
no_words = refl

pub passed_none : (s : List ℕ) → Passed s s
passed_none s = record { same = refl; ends = ends_all s }

module _ (s rest w : List ℕ) (h : Passed s rest) (is-w : w ≡ first_element rest) where
  pub follows_none : length w ≡ 0 → Follows s (take 0 rest)
  unfolding past_except
  follows_none z = record {
    past = no_words ∙ sym (h.same ∙ ap past_except (words_none rest w is-w z));
    ends = record { at = length s; same = sym (drop-length s) };
  }

  module _ (full : length w ≡ 0 → ⊥) (next : List ℕ) (is-next : next ≡ after_element rest) (x : Bool) (is_x : x ≡ is_except w) where
    pub follows_except : x ≡ true → Follows s next
    unfolding past_except
    follows_except e = record {
      past = sym (h.same ∙ rw (words_more rest w next is-w full is-next, ← is_x, e));
      ends = ends_next s rest next h.ends is-next;
    }

    pub passed_more : x ≡ false → Passed s next
    unfolding past_except
    passed_more e = record { same = h.same ∙ rw (words_more rest w next is-w full is-next, ← is_x, e); ends = ends_next s rest next h.ends is-next }

pub negated_list_is : (l : Looked) (f : Found) → f ≡ negated l.found → looked_for f l.looked ≡ negated_looked l
negated_list_is l f is_f = ap (λ (x : Found). looked_for x l.looked) is_f

pub after_others_is : (n : ℕ) (l : Looked) (k : ℕ) → k ≡ capped (n + l.looked) → looked_for l.found k ≡ looked_more n l
after_others_is n l k is-k = ap (looked_for l.found) is-k

nil_of : (l : List ℕ) → length l ≡ 0 → l ≡ []
nil_of [] z = refl
nil_of (x ∷ l) z = absurd (omega arith)

-- counts in turn
more_more : (n k : ℕ) (l : Looked) → looked_more n (looked_more k l) ≡ looked_more (capped (n + k)) l
more_more n k l =
    let z : n + (k + l.looked) ≡ (n + k) + l.looked = omega arith in
    ap (looked_for l.found) (capped_add n (k + l.looked) ∙ ap capped z ∙ sym (capped_left (n + k) l.looked))

more_none : (n : ℕ) → n < 18446744073709551616 → (f : Found) → looked_more n (looked_for f 0) ≡ looked_for f n
more_none n h f = let z : n + 0 ≡ n = omega arith in ap (looked_for f) (ap capped z ∙ capped_small n h)

-- what was found of one element, then what follows a match, or a miss
abbrev on_looked : Found → Looked → Looked → Looked
on_looked Yes matched missed = matched
on_looked No matched missed = missed
on_looked Ask matched missed = looked_for Ask 0

module _ (m : List ℕ → Found) (c : List ℕ → ℕ) where
  pub walked_none : (s : List ℕ) → Walked (list_looked m c) s s 0
  unfolding list_looked
  walked_none s = record {
    fits = omega arith;
    same =
        let z : 0 + capped (looked_included m c (words s)) ≡ capped (looked_included m c (words s)) = omega arith in
        sym (ap (looked_for (included m (words s))) (ap capped z ∙ capped_twice (looked_included m c (words s))));
    ends = ends_all s;
  }

  looked_nil : list_looked m c [] ≡ looked_for No 0
  unfolding list_looked included looked_included capped
  looked_nil = refl

  looked_except : (w : List ℕ) (ws : List (List ℕ)) → is_except w ≡ true → list_looked m c (w ∷ ws) ≡ looked_for No 0
  unfolding list_looked included looked_included capped
  looked_except w ws e = rw e

  looked_more_lem : (w : List ℕ) (ws : List (List ℕ)) → is_except w ≡ false
      → list_looked m c (w ∷ ws) ≡ looked_more (capped (c w)) (on_looked (m w) (rest_looked m c ws) (list_looked m c ws))
  unfolding list_looked rest_looked included looked_included
  looked_more_lem w ws e = rw e (by (m w))
    where
      by : (y : Found)
          → looked_for (on_found y (excluded m ws) (included m ws)) (capped (c w + further_on y (looked_excluded m c ws) (looked_included m c ws)))
          ≡ looked_more (capped (c w)) (on_looked y (looked_for (excluded m ws) (capped (looked_excluded m c ws)))
          (looked_for (included m ws) (capped (looked_included m c ws))))
      by Yes = ap (looked_for (excluded m ws)) (sym (capped_left (c w) (capped (looked_excluded m c ws)) ∙ capped_add (c w) (looked_excluded m c ws)))
      by No = ap (looked_for (included m ws)) (sym (capped_left (c w) (capped (looked_included m c ws)) ∙ capped_add (c w) (looked_included m c ws)))
      by Ask = ap (looked_for Ask) (sym (capped_left (c w) 0))

  nothing : list_looked m c (words []) ≡ looked_for No 0
  nothing = ap (list_looked m c) no_words ∙ looked_nil

  -- the list after EXCEPT, negated round
  rest_past : (ws : List (List ℕ)) → rest_looked m c ws ≡ negated_looked (list_looked m c (past_except ws))
  unfolding rest_looked list_looked excluded looked_excluded included looked_included past_except capped
  rest_past [] = refl
  rest_past (w ∷ ws) = by (is_except w) (rest_past ws)
    where
      by : (b : Bool) → rest_looked m c ws ≡ negated_looked (list_looked m c (past_except ws))
          → looked_for (when b then on_found (included m ws) No Yes else excluded m ws) (capped (when b then looked_included m c ws else looked_excluded m c ws))
          ≡ negated_looked (list_looked m c (when b then ws else past_except ws))
      by true i = refl
      by false i = i

module _ (m : List ℕ → Found) (c : List ℕ → ℕ) (s rest w : List ℕ) (n : ℕ) (h : Walked (list_looked m c) s rest n) (is-w : w ≡ first_element rest) where
  group_done : (f : Found) (k : ℕ) → list_looked m c (words s) ≡ looked_for f k → (g : Group) → g ≡ group_end f k → Grouped m c s g
  group_done f k e g is-g = subst (Grouped m c s) (sym is-g) (record {
    done = λ z. e;
    more = λ z. absurd (z refl);
    within = omega arith;
    shorter = λ z. absurd (z refl);
  })

  pub group_none : length w ≡ 0 → (g : Group) → g ≡ group_end No n → Grouped m c s g
  group_none z = group_done No n (h.same ∙ ap (λ (ws : List (List ℕ)). looked_more n (list_looked m c ws)) (words_none rest w is-w z)
      ∙ ap (looked_more n) (looked_nil m c) ∙ more_none n h.fits No)

  module _ (full : length w ≡ 0 → ⊥) (x : Bool) (is_x : x ≡ is_except w) where
    pub group_except : x ≡ true → (g : Group) → g ≡ group_end No n → Grouped m c s g
    group_except e = group_done No n
        (h.same ∙ ap (λ (ws : List (List ℕ)). looked_more n (list_looked m c ws)) (words_more rest w (after_element rest) is-w full refl)
        ∙ ap (looked_more n) (looked_except m c w (words (after_element rest)) (sym is_x ∙ e)) ∙ more_none n h.fits No)

    module _ (e : x ≡ false) (y : Looked) (is_y : y ≡ looked_for (m w) (capped (c w))) (k : ℕ) (is-k : k ≡ capped (n + y.looked)) where
      included_more : list_looked m c (words s) ≡ looked_more k (on_looked y.found (rest_looked m c (words (after_element rest)))
          (list_looked m c (words (after_element rest))))
      included_more =
          h.same ∙ ap (λ (ws : List (List ℕ)). looked_more n (list_looked m c ws)) (words_more rest w (after_element rest) is-w full refl)
          ∙ ap (looked_more n) (looked_more_lem m c w (words (after_element rest)) (sym is_x ∙ e))
          ∙ more_more n (capped (c w)) (on_looked (m w) (rest_looked m c (words (after_element rest))) (list_looked m c (words (after_element rest))))
          ∙ rw (is-k, is_y)

      fits_more : k < 18446744073709551616
      fits_more = rw is-k (capped_lt (n + y.looked))

      pub group_ask : y.found ≡ Ask → (g : Group) → g ≡ group_end Ask k → Grouped m c s g
      group_ask a = group_done Ask k (included_more ∙ rw a (more_none k fits_more Ask))

      module _ (next : List ℕ) (is-next : next ≡ after_element rest) where
        ends_past : (l : List ℕ) → Follows next l → Ends s l
        ends_past l f = ends_then s next l (ends_next s rest next h.ends is-next) f.ends

        group_past : y.found ≡ Yes → (l : List ℕ) → Follows next l → list_looked m c (words s) ≡ looked_more k (negated_looked (list_looked m c (words l)))
        group_past a l f =
            included_more
            ∙ rw (a, ← is-next)
            (ap (looked_more k) (rest_past m c (words next) ∙ ap (λ (ws : List (List ℕ)). negated_looked (list_looked m c ws)) (sym f.past)))

        pub group_yes : y.found ≡ Yes → (l : List ℕ) → Follows next l → Grouped m c s (group Yes k (length l))
        group_yes a l f = record {
          done = λ z. group_past a l f ∙ ap (λ (t : List ℕ). looked_more k (negated_looked (list_looked m c (words t)))) (nil_of l z)
              ∙ ap (λ (t : Looked). looked_more k (negated_looked t)) (nothing m c) ∙ more_none k fits_more Yes;
          more = λ z. group_past a l f ∙ ap (λ (t : List ℕ). looked_more k (negated_looked (list_looked m c (words t)))) (sym (ends_place s l (ends_past l f)));
          within = ends_within s l (ends_past l f);
          shorter = λ z. let shorter-rest = rest_shorter rest w next is-w full is-next (length rest) refl in
              omega (arith, shorter-rest, ends_within s rest h.ends, ends_within next l f.ends);
        }

        pub included_no : y.found ≡ No → Walked (list_looked m c) s next k
        included_no a = record {
          fits = fits_more;
          same = included_more ∙ rw (a, ← is-next);
          ends = ends_next s rest next h.ends is-next;
        }

-- ## One step from a list to the list after its EXCEPT

negated_twice : (f : Found) → negated (negated f) ≡ f
negated_twice Yes = refl
negated_twice No = refl
negated_twice Ask = refl

found_code : (f : Found) → found_as (code_of f) ≡ f
found_code Yes = refl
found_code No = refl
found_code Ask = refl

module _ (m : List ℕ → Found) (c : List ℕ → ℕ) (list : List ℕ) (from : ℕ) (s : List ℕ) (is-s : s ≡ drop from list) (g : Group) (h : Grouped m c s g)
    (n k : ℕ) (is-k : k ≡ capped (n + g.looked)) (b : Bool) (t : Found) (is-t : t ≡ turned_found b g.found) (code : ℕ) (is_code : code ≡ code_of t) where
  stepped_done : g.left ≡ 0 → Stepped m c list from b n 0 k code
  stepped_done z = record {
    done = λ y. ap₂ looked_for (ap found_as is_code ∙ found_code t ∙ is-t) is-k
        ∙ ap (λ (l : Looked). looked_more n (turned b l)) (sym (ap (λ (u : List ℕ). list_looked m c (words u)) (sym is-s) ∙ h.done z));
    more = λ y. absurd (y refl);
    shorter = λ y. absurd (y refl);
  }

  stepped_more : (g.left ≡ 0 → ⊥) → Stepped m c list from b n (length list - g.left) k code
  stepped_more z =
      let q : g.left < length s = h.shorter z in
      let e : length s ≡ length list - from = ap length is-s ∙ length-drop from list in
      let p : from + (length s - g.left) ≡ length list - g.left = omega arith in
      let place : drop (length s - g.left) s ≡ drop (length list - g.left) list
      = ap (drop (length s - g.left)) is-s ∙ drop-drop (length s - g.left) from list ∙ ap (λ (j : ℕ). drop j list) p in
      record {
        done = λ y. absurd (omega arith);
        more = λ y. ap (λ (u : List ℕ). looked_more n (list_looked m c (words u))) (sym is-s) ∙ ap (looked_more n) (h.more z)
            ∙ more_more n g.looked (negated_looked (list_looked m c (words (drop (length s - g.left) s))))
            ∙ ap₂ (λ (j : ℕ) (u : List ℕ). looked_more j (negated_looked (list_looked m c (words u)))) (sym is-k) place;
        shorter = λ y. rw (length-drop (length list - g.left) list, length-drop from list) (omega arith);
      }

-- a place that is left lies within the list
pub left_within : (m : List ℕ → Found) (c : List ℕ → ℕ) (list : List ℕ) (from : ℕ) (s : List ℕ) → s ≡ drop from list → (g : Group) → Grouped m c s g
    → g.left ≤ length list
left_within m c list from s is-s g h = let e : length s ≡ length list - from = ap length is-s ∙ length-drop from list in omega (arith, h.within)

-- ## The sides, over the list that begins at a place

module _ (m : List ℕ → Found) (c : List ℕ → ℕ) (s : List ℕ) (from n r k f : ℕ) where
  pub included_done : Stepped m c s from false n r k f → r ≡ 0 → looked_for (found_as f) k ≡ looked_more n (list_looked m c (words (drop from s)))
  included_done h z = h.done z

  pub excluded_done : Stepped m c s from true n r k f → r ≡ 0 → looked_for (found_as f) k ≡ looked_more n (negated_looked (list_looked m c (words (drop from s))))
  excluded_done h z = h.done z

  pub step_shorter : (b : Bool) → Stepped m c s from b n r k f → (r ≡ 0 → ⊥) → (t : ℕ) → length (drop from s) ≡ t → length (drop r s) < t
  step_shorter b h z t e = omega (arith, h.shorter z)

  module _ (k' f' : ℕ) where
    pub included_on : Stepped m c s from false n r k f → (r ≡ 0 → ⊥)
        → looked_for (found_as f') k' ≡ looked_more k (negated_looked (list_looked m c (words (drop r s))))
        → looked_for (found_as f') k' ≡ looked_more n (list_looked m c (words (drop from s)))
    included_on h z e = e ∙ sym (h.more z)

    pub excluded_on : Stepped m c s from true n r k f → (r ≡ 0 → ⊥)
        → looked_for (found_as f') k' ≡ looked_more k (list_looked m c (words (drop r s)))
        → looked_for (found_as f') k' ≡ looked_more n (negated_looked (list_looked m c (words (drop from s))))
    excluded_on h z e =
        let l : Looked = list_looked m c (words (drop r s)) in
        e ∙ ap (λ (x : Found). looked_more k (looked_for x l.looked)) (sym (negated_twice l.found)) ∙ sym (ap negated_looked (h.more z))

-- ## A host and its numbers

host_parts : (h : Host) (p : AddrParts) → p ≡ parts_of h.addr → host_of h.name p.family p.v4 p.high p.low ≡ h
host_parts h p e = rw e (ap (host_with h.name) (by h.addr))
  where
    by : (a : Addr) → addr_of (parts_of a).family (parts_of a).v4 (parts_of a).high (parts_of a).low ≡ a
    by A.Unknown = refl
    by (A.V4 x) = refl
    by (A.V6 x y) = refl

-- ## A list, by the elements left of its first EXCEPT and the list after it

module _ (m : List ℕ → Found) (c : List ℕ → ℕ) (s : List ℕ) (g : Group) (h : Grouped m c s g) where
  pub list_done : g.left ≡ 0 → looked_for g.found g.looked ≡ list_looked m c (words s)
  list_done z = sym (h.done z)

  pub group_within : g.left ≤ length s
  group_within = h.within

  pub list_more_lem : (g.left ≡ 0 → ⊥) → (r : Looked)
      → r ≡ looked_more g.looked (negated_looked (list_looked m c (words (drop (length s - g.left) s)))) → r ≡ list_looked m c (words s)
  list_more_lem z r e = e ∙ sym (h.more z)

module _ (a : Addr) where
  pub parts_unknown : a ≡ A.Unknown → parts Family.Unknown 0 0 0 ≡ parts_of a
  parts_unknown e = rw e

  pub parts_v4 : (x : ℕ) → a ≡ A.V4 x → parts Family.V4 x 0 0 ≡ parts_of a
  parts_v4 x e = rw e

  pub parts_v6 : (x y : ℕ) → a ≡ A.V6 x y → parts Family.V6 0 x y ≡ parts_of a
  parts_v6 x y e = rw e

module _ (f : Family) (v4 high low : ℕ) where
  pub addr_v4 : f ≡ Family.V4 → A.V4 v4 ≡ addr_of f v4 high low
  addr_v4 e = rw e

  pub addr_v6 : f ≡ Family.V6 → A.V6 high low ≡ addr_of f v4 high low
  addr_v6 e = rw e

  pub host_is : (name : Name) (a : Addr) → a ≡ addr_of f v4 high low → host_with name a ≡ host_of name f v4 high low
  host_is name a e = ap (host_with name) e

-- ## What was found, as a number

module _ (k : ℕ) where
  pub found_no : k ≡ 0 → No ≡ found_as k
  found_no e = rw e

  pub found_yes : k ≡ 1 → Yes ≡ found_as k
  found_yes e = rw e

  pub found_ask : (k ≡ 0 → ⊥) → (k ≡ 1 → ⊥) → Ask ≡ found_as k
  found_ask e d = rw (ne_eqb k 0 e, ne_eqb k 1 d)

-- ## What stands from a place on

pub past_end : (s : List ℕ) (at : ℕ) → length s ≤ at → take 0 s ≡ drop at s
past_end s at h = sym (drop_of_length-le s h)

pub from_place : (s : List ℕ) (at : ℕ) → take (length s - at) (drop at s) ≡ drop at s
from_place s at = take_rest s at

-- ## The two lists

module _ (v : View) (name : Name) (family : Family) (v4 high low : ℕ) (h : Host) (is-h : h ≡ host_of name family v4 high low) (list : List ℕ) (from : ℕ)
    (s : List ℕ) (is-s : s ≡ drop from list) (g : Group) (n k : ℕ) (is-k : k ≡ capped (n + g.looked)) (b : Bool) (t : Found)
    (is-t : t ≡ turned_found b g.found) (code : ℕ) (is_code : code ≡ code_of t) where
  module _ (daemon host : List ℕ) (grouped : Grouped (daemon_finds v daemon (endpoint h host)) (daemon_counts v) s g) where
    abbrev daemons_find : List ℕ → Found
    daemons_find = daemon_finds v daemon (endpoint (host_of name family v4 high low) host)

    daemons_at : Grouped daemons_find (daemon_counts v) s g
    daemons_at = subst (λ (x : Host). Grouped (daemon_finds v daemon (endpoint x host)) (daemon_counts v) s g) is-h grouped

    pub daemons_done : g.left ≡ 0
        → Stepped (daemon_finds v daemon (endpoint (host_of name family v4 high low) host)) (daemon_counts v) list from b n 0 k code
    daemons_done = stepped_done daemons_find (daemon_counts v) list from s is-s g daemons_at n k is-k b t is-t code is_code

    pub daemons_more : (g.left ≡ 0 → ⊥)
        → Stepped (daemon_finds v daemon (endpoint (host_of name family v4 high low) host)) (daemon_counts v) list from b n (length list - g.left) k code
    daemons_more = stepped_more daemons_find (daemon_counts v) list from s is-s g daemons_at n k is-k b t is-t code is_code

  module _ (user : User) (host user-name : List ℕ) (grouped : Grouped (client_finds v (endpoint h host) user user-name) (client_counts v) s g) where
    abbrev clients_find : List ℕ → Found
    clients_find = client_finds v (endpoint (host_of name family v4 high low) host) user user-name

    clients_at : Grouped clients_find (client_counts v) s g
    clients_at = subst (λ (x : Host). Grouped (client_finds v (endpoint x host) user user-name) (client_counts v) s g) is-h grouped

    pub clients_done : g.left ≡ 0
        → Stepped (client_finds v (endpoint (host_of name family v4 high low) host) user user-name) (client_counts v) list from b n 0 k code
    clients_done = stepped_done clients_find (client_counts v) list from s is-s g clients_at n k is-k b t is-t code is_code

    pub clients_more : (g.left ≡ 0 → ⊥)
        → Stepped (client_finds v (endpoint (host_of name family v4 high low) host) user user-name) (client_counts v) list from b n (length list - g.left) k code
    clients_more = stepped_more clients_find (client_counts v) list from s is-s g clients_at n k is-k b t is-t code is_code

module _ (v : View) (h : Host) (p : AddrParts) (is-p : p ≡ parts_of h.addr) (s : List ℕ) (from n : ℕ) (f : Found) (code k : ℕ) (is_f : f ≡ found_as code) where
  -- found past an EXCEPT, of a host that is given by its numbers
  past : (m : Host → List ℕ → Found) (c : List ℕ → ℕ)
      → looked_for (found_as code) k ≡ looked_more n
      (negated_looked (list_looked (m (host_of h.name p.family p.v4 p.high p.low)) c (words (drop from s))))
      → looked_for f k ≡ looked_more n (negated_looked (list_looked (m h) c (words (drop from s))))
  past m c e =
      ap (λ (x : Found). looked_for x k) is_f
      ∙ subst (λ (x : Host). looked_for (found_as code) k ≡ looked_more n (negated_looked (list_looked (m x) c (words (drop from s))))) (host_parts h p is-p) e

  pub daemons_past : (daemon host : List ℕ)
      → looked_for (found_as code) k ≡ looked_more n
      (negated_looked (list_looked (daemon_finds v daemon (endpoint (host_of h.name p.family p.v4 p.high p.low) host)) (daemon_counts v)
      (words (drop from s))))
      → looked_for f k ≡ looked_more n (negated_looked (list_looked (daemon_finds v daemon (endpoint h host)) (daemon_counts v) (words (drop from s))))
  daemons_past daemon host = past (λ x. daemon_finds v daemon (endpoint x host)) (daemon_counts v)

  pub clients_past : (user : User) (host user-name : List ℕ)
      → looked_for (found_as code) k ≡ looked_more n
      (negated_looked (list_looked (client_finds v (endpoint (host_of h.name p.family p.v4 p.high p.low) host) user user-name) (client_counts v)
      (words (drop from s))))
      → looked_for f k ≡ looked_more n (negated_looked (list_looked (client_finds v (endpoint h host) user user-name) (client_counts v) (words (drop from s))))
  clients_past user host user-name = past (λ x. client_finds v (endpoint x host) user user-name) (client_counts v)

-- ## One rule

module _ (v : View) (q : Request) where
  pub rule_found_lists : (ds cs : List (List ℕ)) (k : List ℕ)
      → view_found v q (rule ds cs k)
      ≡ on_found (included (daemon_finds v q.daemon q.server) ds) (included (client_finds v q.client q.user q.user_name) cs) No
  unfolding rule_found_by
  rule_found_lists ds cs k =
      ap₂ (λ (d c : List ℕ → Found). on_found (included d ds) (included c cs) No)
      (fun_ext (daemon_element_request v.server q)) (fun_ext (client_element_request v.client q))

  module _ (t : List ℕ) (i : ℕ) (is-i : i ≡ separator_index false t) where
    pub line_found_none : length t ≤ i → No ≡ line_found v q t
    unfolding line_found
    line_found_none l = rw (parse_rule_none t i is-i l)

    module _ (joined : NoNewline t) (l : i < length t) (y : Found) (is_y : y ≡ included (daemon_finds v q.daemon q.server) (words (take i t))) where
      pub line_found_some : (s : List ℕ) → s ≡ after_separator i t → line_found v q t
          ≡ on_found y (included (client_finds v q.client q.user q.user_name) (client_words s)) No
      unfolding line_found
      line_found_some s is-s =
          rw (parse_rule_joined t joined i is-i l s is-s, is_y) (rule_found_lists (words (take i t)) (client_words s) (after_separator (separator_index false s) s))

  pub rule_looked_lists : (ds cs : List (List ℕ)) (k : List ℕ)
      → view_looked v q (rule ds cs k)
      ≡ looked_included (daemon_finds v q.daemon q.server) (daemon_counts v) ds
      + further_on (included (daemon_finds v q.daemon q.server) ds)
      (looked_included (client_finds v q.client q.user q.user_name) (client_counts v) cs) 0
  unfolding rule_looked_by
  rule_looked_lists ds cs k =
      ap₂ (λ (d e : List ℕ → Found). looked_included d (daemon_counts v) ds + further_on (included d ds) (looked_included e (client_counts v) cs) 0)
      (fun_ext (daemon_element_request v.server q)) (fun_ext (client_element_request v.client q))

  module _ (t : List ℕ) (i : ℕ) (is-i : i ≡ separator_index false t) where
    pub line_looked_none : length t ≤ i → line_looked v q t ≡ 0
    unfolding line_looked
    line_looked_none l = rw (parse_rule_none t i is-i l)

    pub line_looked_some : NoNewline t → i < length t → (s : List ℕ) → s ≡ after_separator i t → line_looked v q t
        ≡ looked_included (daemon_finds v q.daemon q.server) (daemon_counts v) (words (take i t))
        + further_on (included (daemon_finds v q.daemon q.server) (words (take i t)))
        (looked_included (client_finds v q.client q.user q.user_name) (client_counts v) (client_words s)) 0
    unfolding line_looked
    line_looked_some joined l s is-s =
        rw (parse_rule_joined t joined i is-i l s is-s) (rule_looked_lists (words (take i t)) (client_words s) (after_separator (separator_index false s) s))
