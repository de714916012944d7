-- Laws of the one pass over a list and a rule, in which it is checked and looked at; shaped as the calls and tests of the code hand their
-- facts over.
-- Assumes nothing.
use Rattle.std.specs.Prelude.{Err, Result, ⊤}
use Prim.Native.Nat.{ℕ, ◌+◌, ◌≤◌, ◌<◌}
use native.Mathlib.Omega.{arith}
use mathlib.Core.Bool.{Bool, true, false, not}
use mathlib.Core.List.{List, [], ◌∷◌}
use mathlib.Core.Path.{◌≡◌, refl, sym, ap, ap₂, ◌∙◌}
use lib.ListN.{length, take}
use Rattle.section.specs.Section.{bytes_at}
use Rattle.section.specs.declared.Fault.TheVariants as F
use Rattle.lines.specs.Rule.{is_except}
use Rattle.lines.specs.Parts.{separator_index, after_separator, words, first_element, after_element}
use Rattle.lines.proofs.RuleLaws.{words_none, words_more}
use Rattle.patterns.specs.Host.{Endpoint, endpoint}
use Rattle.elements.specs.declared.Found.{Found}
use Rattle.elements.specs.declared.Found.TheVariants.{No, Yes, Ask}
use Rattle.elements.specs.declared.User.{User}
use Rattle.elements.specs.declared.Looked.{Looked}
use Rattle.elements.specs.declared.element.ElementSeen.{ElementSeen}
use Rattle.elements.specs.declared.request.Request.{Request as Places}
use Rattle.elements.specs.Request.{Request}
use Rattle.elements.specs.Element.{look_at}
use Rattle.elements.specs.Code.{View, Kind, daemon_kind, client_kind, sought, counted, element_seen, daemon_request, client_request}
use Rattle.tables.specs.Tried.{capped}
use Rattle.elements.proofs.CountLaws.{capped_lt, capped_small, capped_add, capped_left, capped_then}
use Rattle.elements.specs.Places.{request_at}
use Rattle.lists.specs.declared.check.ListCheck.{ListCheck}
use Rattle.lists.specs.declared.pass.Side.{Side}
use Rattle.lists.specs.declared.pass.Side.TheVariants as S
use Rattle.lists.specs.declared.pass.ListPass.{ListPass}
use Rattle.lists.specs.declared.pass.Turn.{Turn}
use Rattle.lists.specs.declared.pass.ListSeen.{ListSeen}
use Rattle.lists.specs.declared.pass.RuleSeen.{RuleSeen}
use Rattle.lists.specs.Walk.{on_found, included, excluded}
use Rattle.lists.specs.Looked.{further_on, looked_included, looked_excluded}
use Rattle.lists.specs.Code.{NoNewline}
use Rattle.lists.specs.ListCode.{list_more, list_end, rest_fault, lowest_of, bad_command_after, negated, daemon_finds, client_finds, client_words}
use Rattle.lists.specs.ListCode.{daemon_counts, client_counts, list_looked, negated_looked}
use Rattle.lists.specs.PassCode.{side_finds, side_start, is_looking, side_end, side_of, side_found, side_more, side_turned, side_step, side_looks, turned_looks}
use Rattle.lists.specs.PassCode.{step_looks, turn}
use Rattle.lists.specs.PassCode.{list_pass, list_all, pass_start, pass_step, pass_end, pass_from, list_seen, is_yes, then_found, rest_seen, rule_seen}
use Rattle.lists.proofs.CheckLaws.{list_from_start, list_from_nil, list_from_cons, rest_fault_is, check_rule_none, check_rule_some}
use Rattle.lists.proofs.WalkLaws.{line_found_none, line_found_some, line_looked_none, line_looked_some}
use Rattle.section.specs.declared.Fault.{Fault}

-- ## The sides of EXCEPT

side_of_finds : (m : List ℕ → Found) (f : Found) (ws : List (List ℕ)) → side_finds m (side_of f) ws ≡ f
side_of_finds m No ws = refl
side_of_finds m Yes ws = refl
side_of_finds m Ask ws = refl

side_found_finds : (m : List ℕ → Found) (f : Found) (ws : List (List ℕ)) → side_finds m (side_found f) ws ≡ on_found f (excluded m ws) (included m ws)
side_found_finds m No ws = refl
side_found_finds m Yes ws = refl
side_found_finds m Ask ws = refl

side_except : (m : List ℕ → Found) (side : Side) (w : List ℕ) (ws : List (List ℕ)) → is_except w ≡ true
    → side_finds m side (w ∷ ws) ≡ side_finds m (side_turned m side ws) ws
unfolding included excluded
side_except m S.Looking w ws e = rw e
side_except m S.Matched w ws e = rw e (sym (side_of_finds m (negated (included m ws)) ws))
side_except m S.No w ws e = refl
side_except m S.Yes w ws e = refl
side_except m S.Ask w ws e = refl

side_more_lem : (m : List ℕ → Found) (side : Side) (w : List ℕ) (ws : List (List ℕ)) → is_except w ≡ false
    → side_finds m side (w ∷ ws) ≡ side_finds m (side_more side (sought (is_looking side) (m w))) ws
unfolding included excluded
side_more_lem m S.Looking w ws e = rw e (sym (side_found_finds m (m w) ws))
side_more_lem m S.Matched w ws e = rw e
side_more_lem m S.No w ws e = refl
side_more_lem m S.Yes w ws e = refl
side_more_lem m S.Ask w ws e = refl

side_step_lem : (m : List ℕ → Found) (side : Side) (w : List ℕ) (ws : List (List ℕ))
    → side_finds m side (w ∷ ws) ≡ side_finds m (side_step m side (is_except w) (sought (is_looking side) (m w)) ws) ws
side_step_lem m side w ws = by (is_except w) refl
  where
    by : (x : Bool) → is_except w ≡ x → side_finds m side (w ∷ ws) ≡ side_finds m (side_step m side x (sought (is_looking side) (m w)) ws) ws
    by true e = side_except m side w ws e
    by false e = side_more_lem m side w ws e

side_start_lem : (m : List ℕ → Found) (search : Bool) (ws : List (List ℕ)) → sought search (included m ws) ≡ side_finds m (side_start search) ws
side_start_lem m true ws = refl
side_start_lem m false ws = refl

side_nil : (m : List ℕ → Found) (side : Side) → side_finds m side [] ≡ side_end side
unfolding included excluded
side_nil m S.Looking = refl
side_nil m S.Matched = refl
side_nil m S.No = refl
side_nil m S.Yes = refl
side_nil m S.Ask = refl

-- what is looked at on a side

side_found_looks : (m : List ℕ → Found) (c : List ℕ → ℕ) (f : Found) (ws : List (List ℕ))
    → side_looks m c (side_found f) ws ≡ further_on f (looked_excluded m c ws) (looked_included m c ws)
side_found_looks m c No ws = refl
side_found_looks m c Yes ws = refl
side_found_looks m c Ask ws = refl

side_of_looks : (m : List ℕ → Found) (c : List ℕ → ℕ) (f : Found) (ws : List (List ℕ)) → side_looks m c (side_of f) ws ≡ 0
side_of_looks m c No ws = refl
side_of_looks m c Yes ws = refl
side_of_looks m c Ask ws = refl

-- nothing more is counted
still : (a : ℕ) → capped (a + 0) ≡ capped (capped (a + 0) + 0)
still a = sym (capped_left (a + 0) 0 ∙ ap capped (let z : (a + 0) + 0 ≡ a + 0 = omega arith in z))

-- one word further, before which a were counted
module _ (m : List ℕ → Found) (c : List ℕ → ℕ) (a : ℕ) (w : List ℕ) (ws : List (List ℕ)) where
  looks_except : (side : Side) → is_except w ≡ true
      → capped (a + side_looks m c side (w ∷ ws)) ≡ capped (capped (a + turned_looks m c side ws) + side_looks m c (side_turned m side ws) ws)
  unfolding looked_included looked_excluded
  looks_except S.Looking e = rw e (still a)
  looks_except S.Matched e = rw e
      (sym (ap (λ (n : ℕ). capped (capped (a + capped (looked_included m c ws)) + n)) (side_of_looks m c (negated (included m ws)) ws)
      ∙ capped_then a (looked_included m c ws) 0 ∙ ap (λ (n : ℕ). capped (a + n))
      (let z : looked_included m c ws + 0 ≡ looked_included m c ws = omega arith in z)))
  looks_except S.No e = still a
  looks_except S.Yes e = still a
  looks_except S.Ask e = still a

  looks_more : (side : Side) → is_except w ≡ false
      → capped (a + side_looks m c side (w ∷ ws))
      ≡ capped (capped (a + counted (is_looking side) (capped (c w))) + side_looks m c (side_more side (sought (is_looking side) (m w))) ws)
  unfolding looked_included looked_excluded
  looks_more S.Looking e = rw e
      (sym (ap (λ (n : ℕ). capped (capped (a + capped (c w)) + n)) (side_found_looks m c (m w) ws)
      ∙ capped_then a (c w) (further_on (m w) (looked_excluded m c ws) (looked_included m c ws))))
  looks_more S.Matched e = rw e
      (sym (capped_left (a + 0) (looked_excluded m c ws)
      ∙ ap capped (let z : (a + 0) + looked_excluded m c ws ≡ a + looked_excluded m c ws = omega arith in z)))
  looks_more S.No e = still a
  looks_more S.Yes e = still a
  looks_more S.Ask e = still a

  looks_step : (side : Side)
      → capped (a + side_looks m c side (w ∷ ws))
      ≡ capped (capped (a + step_looks m c side (is_except w) (counted (is_looking side) (capped (c w))) ws)
      + side_looks m c (side_step m side (is_except w) (sought (is_looking side) (m w)) ws) ws)
  looks_step side = by (is_except w) refl
    where
      by : (x : Bool) → is_except w ≡ x
          → capped (a + side_looks m c side (w ∷ ws))
          ≡ capped (capped (a + step_looks m c side x (counted (is_looking side) (capped (c w))) ws)
          + side_looks m c (side_step m side x (sought (is_looking side) (m w)) ws) ws)
      by true e = looks_except side e
      by false e = looks_more side e

looks_start : (m : List ℕ → Found) (c : List ℕ → ℕ) (search : Bool) (ws : List (List ℕ))
    → counted search (capped (looked_included m c ws)) ≡ capped (0 + side_looks m c (side_start search) ws)
unfolding capped
looks_start m c true ws = let z : 0 + looked_included m c ws ≡ looked_included m c ws = omega arith in ap capped (sym z)
looks_start m c false ws = refl

looks_nil : (m : List ℕ → Found) (c : List ℕ → ℕ) (side : Side) → side_looks m c side [] ≡ 0
unfolding looked_included looked_excluded
looks_nil m c S.Looking = refl
looks_nil m c S.Matched = refl
looks_nil m c S.No = refl
looks_nil m c S.Yes = refl
looks_nil m c S.Ask = refl

pub turn_of_is : (l : Looked) (side : Side) → side ≡ side_of l.found → turn side l.looked ≡ turn (side_of l.found) l.looked
turn_of_is l side is-side = ap (λ (x : Side). turn x l.looked) is-side

module _ (m : List ℕ → Found) (c : List ℕ → ℕ) (side : Side) (s : List ℕ) (r : Turn) where
  pub negated_looking : side ≡ S.Looking → r ≡ turn S.No 0 → r ≡ turn (side_turned m side (words s)) (turned_looks m c side (words s))
  negated_looking e is-r = rw e is-r

  pub negated_matched : side ≡ S.Matched → (l : Looked) → l ≡ list_looked m c (words s) → (g : Looked) → g ≡ negated_looked l
      → r ≡ turn (side_of g.found) g.looked → r ≡ turn (side_turned m side (words s)) (turned_looks m c side (words s))
  unfolding list_looked
  negated_matched e l is-l g is-g is-r = rw (e, is-r, is-g, is-l)

  pub negated_no : side ≡ S.No → r ≡ turn side 0 → r ≡ turn (side_turned m side (words s)) (turned_looks m c side (words s))
  negated_no e is-r = is-r ∙ rw e

  pub negated_yes : side ≡ S.Yes → r ≡ turn side 0 → r ≡ turn (side_turned m side (words s)) (turned_looks m c side (words s))
  negated_yes e is-r = is-r ∙ rw e

  pub negated_ask : side ≡ S.Ask → r ≡ turn side 0 → r ≡ turn (side_turned m side (words s)) (turned_looks m c side (words s))
  negated_ask e is-r = is-r ∙ rw e

  module _ (x : Bool) (f : Found) (n : ℕ) where
    pub side_negated : x ≡ true → r ≡ turn (side_turned m side (words s)) (turned_looks m c side (words s))
        → r ≡ turn (side_step m side x f (words s)) (step_looks m c side x n (words s))
    side_negated e is-r = rw e is-r

module _ (m : List ℕ → Found) (c : List ℕ → ℕ) (side : Side) (s : List ℕ) (x : Bool) (f : Found) (n : ℕ) where
  pub side_kept : x ≡ false → (z : Side) → z ≡ side_more side f → turn z n ≡ turn (side_step m side x f (words s)) (step_looks m c side x n (words s))
  side_kept e z is-z = rw e (ap (λ (y : Side). turn y n) is-z)

-- ## One list

module _ (kind : Kind) (q : Request) (p : ListPass) (e : List ℕ) (ws : List (List ℕ)) where
  step_is : (x : Bool) → x ≡ is_except e → (look : Bool) → look ≡ is_looking p.side → (seen : ElementSeen) → seen ≡ element_seen look q kind e
      → (c : ListCheck) → c ≡ list_more p.check p.after x seen.fault
      → (t : Turn) → t
      ≡ turn (side_step (λ w. look_at q (kind.element w)) p.side x seen.found ws)
      (step_looks (λ w. look_at q (kind.element w)) kind.looked p.side x seen.looked ws)
      → (n : ℕ) → n ≡ capped (p.looked + t.looked)
      → list_pass c (not x) t.side n ≡ pass_step kind (λ w. look_at q (kind.element w)) p e ws
  unfolding pass_step element_seen
  step_is x is_x look is-look seen is_seen c is_c t is-t n is-n = rw (is-n, is_c, is-t, is_seen, is-look, is_x)

pub daemon_step_is : (v : View) (d : List ℕ) (s : Endpoint) (p : ListPass) (e next : List ℕ)
    → (x : Bool) → x ≡ is_except e → (look : Bool) → look ≡ is_looking p.side
    → (seen : ElementSeen) → seen ≡ element_seen look (daemon_request d s) (daemon_kind v) e
    → (c : ListCheck) → c ≡ list_more p.check p.after x seen.fault
    → (t : Turn) → t
    ≡ turn (side_step (daemon_finds v d s) p.side x seen.found (words next))
    (step_looks (daemon_finds v d s) (daemon_counts v) p.side x seen.looked (words next))
    → (n : ℕ) → n ≡ capped (p.looked + t.looked)
    → list_pass c (not x) t.side n ≡ pass_step (daemon_kind v) (daemon_finds v d s) p e (words next)
daemon_step_is v d s p e next = step_is (daemon_kind v) (daemon_request d s) p e (words next)

pub client_step_is : (v : View) (h : Endpoint) (u : User) (name : List ℕ) (p : ListPass) (e next : List ℕ)
    → (x : Bool) → x ≡ is_except e → (look : Bool) → look ≡ is_looking p.side
    → (seen : ElementSeen) → seen ≡ element_seen look (client_request h u name) (client_kind v) e
    → (c : ListCheck) → c ≡ list_more p.check p.after x seen.fault
    → (t : Turn) → t
    ≡ turn (side_step (client_finds v h u name) p.side x seen.found (words next))
    (step_looks (client_finds v h u name) (client_counts v) p.side x seen.looked (words next))
    → (n : ℕ) → n ≡ capped (p.looked + t.looked)
    → list_pass c (not x) t.side n ≡ pass_step (client_kind v) (client_finds v h u name) p e (words next)
client_step_is v h u name p e next = step_is (client_kind v) (client_request h u name) p e (words next)

all_same : {a b : ListCheck} {f g : Found} {m n : ℕ} → a ≡ b → f ≡ g → m ≡ n → list_all a f m ≡ list_all b g n
all_same p q r = rw (p, q, r)

pass_from_cons : (kind : Kind) (m : List ℕ → Found) (p : ListPass) (w : List ℕ) (ws : List (List ℕ))
    → pass_from kind m p (w ∷ ws) ≡ pass_from kind m (pass_step kind m p w ws) ws
unfolding pass_from pass_step
pass_from_cons kind m p w ws =
    all_same (list_from_cons kind w p.after p.check ws) (side_step_lem m p.side w ws) (looks_step m kind.looked p.looked w ws p.side)

pub pass_end_is : (p : ListPass) (c : ListCheck) → c ≡ list_end p.check p.after → (f : Found) → f ≡ side_end p.side
    → list_all c f p.looked ≡ pass_end p
pass_end_is p c is_c f is_f = all_same is_c is_f refl

-- the loop that has passed s up to rest, at the element w
pub record Passing (kind : Kind) (m : List ℕ → Found) (search : Bool) (s rest : List ℕ) (p : ListPass) : Type 0 where
  pub fits : p.looked < 18446744073709551616
  pub so_far : list_seen kind m search (words s) ≡ pass_from kind m p (words rest)

pub pass_start_lem : (kind : Kind) (m : List ℕ → Found) (search : Bool) (s : List ℕ) (p : ListPass) → p ≡ pass_start search
    → Passing kind m search s s p
unfolding list_seen pass_from
pass_start_lem kind m search s p is-p = record {
  fits = rw is-p (omega arith);
  so_far = rw is-p (all_same (list_from_start kind (words s)) (side_start_lem m search (words s)) (looks_start m kind.looked search (words s)));
}

module _ (kind : Kind) (m : List ℕ → Found) (search : Bool) (s rest : List ℕ) (p : ListPass)
    (h : Passing kind m search s rest p) (w : List ℕ) (is-w : w ≡ first_element rest)
  where
    pub pass_end_lem : length w ≡ 0 → (r : ListSeen) → r ≡ list_all (list_end p.check p.after) (side_end p.side) p.looked
        → r ≡ list_seen kind m search (words s)
    unfolding pass_from
    pass_end_lem z r is-r =
        let n : p.looked + 0 ≡ p.looked = omega arith in
        is-r ∙ sym (h.so_far ∙ rw (words_none rest w is-w z)
        (all_same (list_from_nil kind p.after p.check) (side_nil m p.side)
        (ap (λ (k : ℕ). capped (p.looked + k)) (looks_nil m kind.looked p.side) ∙ ap capped n ∙ capped_small p.looked h.fits)))

    pub pass_more : (length w ≡ 0 → ⊥) → (next : List ℕ) → next ≡ after_element rest → (q : ListPass) → q ≡ pass_step kind m p w (words next)
        → Passing kind m search s next q
    unfolding pass_step
    pass_more full next is-next q is-q = record {
      fits = rw is-q (capped_lt _);
      so_far = h.so_far ∙ rw (words_more rest w next is-w full is-next, is-q) (pass_from_cons kind m p w (words next));
    }

-- ## A request at places of a block

module _ (v : View) (names : List ℕ) (q : Places) (search : Bool) (ws : List (List ℕ)) (a b : List ℕ) (r : ListSeen) where
  pub daemons_at : a ≡ bytes_at names q.daemon → b ≡ bytes_at names q.server_name → r
      ≡ list_seen (daemon_kind v) (daemon_finds v a (endpoint q.server b)) search ws
      → r ≡ list_seen (daemon_kind v) (daemon_finds v (request_at names q).daemon (request_at names q).server) search ws
  daemons_at e f h = h ∙ ap₂ (λ (x y : List ℕ). list_seen (daemon_kind v) (daemon_finds v x (endpoint q.server y)) search ws) e f

  pub clients_at : a ≡ bytes_at names q.client_name → b ≡ bytes_at names q.user_name
      → r ≡ list_seen (client_kind v) (client_finds v (endpoint q.client a) q.user b) search ws
      → r ≡ list_seen (client_kind v) (client_finds v (request_at names q).client q.user (request_at names q).user_name) search ws
  clients_at e f h = h ∙ ap₂ (λ (x y : List ℕ). list_seen (client_kind v) (client_finds v (endpoint q.client x) q.user y) search ws) e f

-- ## One rule

abbrev rule_all : Result ⊤ Fault → Found → ℕ → RuleSeen
rule_all c f n = record { check = c; found = f; looked = n }

rule_same : {a b : (Result ⊤ Fault)} {f g : Found} {m n : ℕ} → a ≡ b → f ≡ g → m ≡ n → rule_all a f m ≡ rule_all b g n
rule_same p q r = rw (p, q, r)

sought_yes : (d c : Found) → then_found d (sought (is_yes d) c) ≡ then_found d c
sought_yes No c = refl
sought_yes Yes c = refl
sought_yes Ask c = refl

sought_then : (search : Bool) (d c : Found) → then_found (sought search d) c ≡ sought search (then_found d c)
sought_then true d c = refl
sought_then false d c = refl

sought_no : (search : Bool) → sought search No ≡ No
sought_no true = refl
sought_no false = refl

counted_yes : (a : ℕ) (d : Found) (n : ℕ) → capped (a + counted (is_yes d) (capped n)) ≡ capped (a + further_on d n 0)
counted_yes a No n = refl
counted_yes a Yes n = capped_add a n
counted_yes a Ask n = refl

counted_then : (search : Bool) (d : Found) (a n : ℕ)
    → capped (counted search (capped a) + further_on (sought search d) n 0) ≡ counted search (capped (a + further_on d n 0))
unfolding capped
counted_then true d a n = capped_left a (further_on d n 0)
counted_then false d a n = refl

counted_none : (search : Bool) → counted search (capped 0) ≡ 0
unfolding capped
counted_none true = refl
counted_none false = refl

pub rest_seen_is : (v : View) (q : Request) (d : ListSeen) (s : List ℕ) (j : ℕ) → j ≡ separator_index false s
    → (y : Bool) → y ≡ is_yes d.found
    → (c : ListSeen) → c ≡ list_seen (client_kind v) (client_finds v q.client q.user q.user_name) y (words (take j s))
    → (b : Bool) → b ≡ bad_command_after j s → (k : Result ⊤ Fault) → k ≡ lowest_of d.check c.check b → (f : Found) → f ≡ then_found d.found c.found
    → (n : ℕ) → n ≡ capped (d.looked + c.looked)
    → rule_all k f n ≡ rest_seen v q d s
unfolding rest_seen list_seen
rest_seen_is v q d s j is-j y is_y c is_c b is_b k is-k f is_f n is-n = rule_same
    (rest_fault_is v s j d.check is-j c.check (ap (λ (x : ListSeen). x.check) is_c) b is_b k is-k)
    (is_f ∙ rw (is_c, is_y, is-j) (sought_yes d.found (included (client_finds v q.client q.user q.user_name) (client_words s))))
    (is-n ∙ rw (is_c, is_y, is-j) (counted_yes d.looked d.found (looked_included (client_finds v q.client q.user q.user_name) (client_counts v)
    (client_words s))))

module _ (v : View) (q : Request) (search : Bool) (t : List ℕ) (i : ℕ) (is-i : i ≡ separator_index false t) where
  pub rule_seen_none : length t ≤ i → rule_all (Err F.NoElement) No 0 ≡ rule_seen v q search t
  unfolding rule_seen
  rule_seen_none l = rule_same (check_rule_none v t i is-i l)
      (sym (ap (sought search) (sym (line_found_none v q t i is-i l)) ∙ sought_no search))
      (sym (ap (λ (n : ℕ). counted search (capped n)) (line_looked_none v q t i is-i l) ∙ counted_none search))

  pub rule_seen_some : NoNewline t → i < length t
      → (d : ListSeen) → d ≡ list_seen (daemon_kind v) (daemon_finds v q.daemon q.server) search (words (take i t))
      → (s : List ℕ) → s ≡ after_separator i t → (r : RuleSeen) → r ≡ rest_seen v q d s → r ≡ rule_seen v q search t
  unfolding rule_seen rest_seen list_seen
  rule_seen_some joined l d is_d s is-s r is-r =
      let y : Found = included (daemon_finds v q.daemon q.server) (words (take i t)) in
      let z : Found = included (client_finds v q.client q.user q.user_name) (client_words s) in
      let a : ℕ = looked_included (daemon_finds v q.daemon q.server) (daemon_counts v) (words (take i t)) in
      let b : ℕ = looked_included (client_finds v q.client q.user q.user_name) (client_counts v) (client_words s) in
      is-r ∙ rule_same
      (check_rule_some v t i is-i joined l d.check (ap (λ (x : ListSeen). x.check) is_d) s is-s (rest_fault v d.check s) refl)
      (ap (λ (x : ListSeen). then_found x.found z) is_d ∙ sought_then search y z
      ∙ ap (sought search) (sym (line_found_some v q t i is-i joined l y refl s is-s)))
      (ap (λ (x : ListSeen). capped (x.looked + further_on x.found b 0)) is_d ∙ counted_then search y a b
      ∙ ap (λ (n : ℕ). counted search (capped n)) (sym (line_looked_some v q t i is-i joined l s is-s)))
