-- The bytes of a list against the ports that it grants: every port granted over a protocol has an entry of its own.
--   granted_bytes == the weights of the ports granted over tcp, and of those over udp, are together at most as many as the list's bytes
-- Assumes nothing.
use Rattle.std.specs.Prelude.{None, Option, Some}
use Prim.Native.Nat.{ℕ, zero, suc, ◌+◌, ◌<◌, ◌≤◌}
use Prim.Native.String.{String}
use mathlib.Core.Bool.{Bool, true, false, not, ◌&&◌, ◌||◌}
use mathlib.Core.List.{List, [], ◌∷◌, ◌++◌, map}
use mathlib.Core.Path.{◌≡◌, refl, sym, ap, ap₂, ◌∙◌}
use native.Mathlib.Omega.{arith}
use borrow.Author.Tests.{ne_eqb, eqb-true}
use lib.Dec.{leb, eqb}
use lib.ListN.{length, length-append}
use Rattle.text.specs.Basics.{when◌then◌else◌, ◌>>=◌, given, holds, any}
use Rattle.text.specs.Text.{bytes, equal, among, cons_head, split, split_once}
use Rattle.text.specs.Number.{from_digits, digit_value, decimal, read_decimal}
use Rattle.text.proofs.Intercalate.{split_once_some}
use Rattle.text.proofs.ScanLaws.{eq_of_equal}
use Rattle.text.proofs.BasicLaws.{and_true}
use Rattle.portacl.specs.declared.Entry.{Entry}
use Rattle.portacl.specs.declared.Protocol.{Protocol}
use Rattle.portacl.specs.declared.Protocol.TheVariants.{Tcp, Udp}
use Rattle.portacl.specs.Portacl.{bind, read_word, protocol_word, entries}
use Rattle.portacl.specs.Code.{entry_data, id_data, protocol_data, port_data, entries_data, grants_to, is_for}
use Rattle.portacl.proofs.NoteLaws.{granting, granted_alone, any_granted}
use Rattle.portacl.proofs.DecideLaws.{entries_entries_data}

-- the bytes that an entry for a port has at least, without its id
unfoldable pub weight : ℕ → ℕ
weight p = 9 + length (decimal p)

-- the weights of those of k ports from p on of which g holds
unfoldable pub sum_if : (ℕ → Bool) → ℕ → ℕ → ℕ
sum_if g zero p = 0
sum_if g (suc k) p = (when g p then weight p else 0) + sum_if g k (suc p)

sum_same : (f g : ℕ → Bool) → ((q : ℕ) → f q ≡ g q) → (k p : ℕ) → sum_if f k p ≡ sum_if g k p
unfolding sum_if
sum_same f g h zero p = refl
sum_same f g h (suc k) p = ap₂ (λ (a b : ℕ). a + b) (ap (λ (b : Bool). when b then weight p else 0) (h p)) (sum_same f g h k (suc p))

pub sum_split : (g : ℕ → Bool) (k m p : ℕ) → sum_if g k p + sum_if g m (p + k) ≡ sum_if g (k + m) p
unfolding sum_if
sum_split g zero m p =
    let e : p + 0 ≡ p = omega arith in
    let f : 0 + m ≡ m = omega arith in
    let there = ap (λ (q : ℕ). sum_if g m q) e in
    let whole = ap (λ (j : ℕ). sum_if g j p) f in
    omega arith
sum_split g (suc k) m p =
    let ih = sum_split g k m (suc p) in
    let e : p + suc k ≡ suc p + k = omega arith in
    let f : suc k + m ≡ suc (k + m) = omega arith in
    let there = ap (λ (q : ℕ). sum_if g m q) e in
    let whole : sum_if g (suc k + m) p ≡ (when g p then weight p else 0) + sum_if g (k + m) (suc p) = ap (λ (j : ℕ). sum_if g j p) f in
    omega arith

sum_none : (k p : ℕ) → sum_if (λ q. false) k p ≡ 0
unfolding sum_if
sum_none zero p = refl
sum_none (suc k) p = omega (arith, sum_none k (suc p))

-- ## One port more

module _ (q : ℕ) (g : ℕ → Bool) where
  sum_past : (k p : ℕ) → q < p → sum_if (λ r. eqb q r || g r) k p ≡ sum_if g k p
  unfolding sum_if
  sum_past zero p h = refl
  sum_past (suc k) p h =
      ap₂ (λ (a b : ℕ). a + b) (ap (λ (b : Bool). when b || g p then weight p else 0) (ne_eqb q p (λ e. omega arith))) (sum_past k (suc p) (omega arith))

  sum_more : (k p : ℕ) → sum_if (λ r. eqb q r || g r) k p ≤ weight q + sum_if g k p
  unfolding sum_if
  sum_more zero p = omega arith
  sum_more (suc k) p = by (eqb q p) refl (sum_more k (suc p))
    where
      by : (b : Bool) → eqb q p ≡ b → sum_if (λ r. eqb q r || g r) k (suc p) ≤ weight q + sum_if g k (suc p)
          → (when eqb q p || g p then weight p else 0) + sum_if (λ r. eqb q r || g r) k (suc p) ≤ weight q + ((when g p then weight p else 0) + sum_if g k (suc p))
      by true e ih =
          let same : q ≡ p = eqb-true q p e in
          let rest = sum_past k (suc p) (omega arith) in
          let here : weight q ≡ weight p = ap weight same in
          rw e (omega arith)
      by false e ih = rw e (omega arith)

-- ## The entries

weights : List (Option Entry) → ℕ
weights [] = 0
weights (None ∷ es) = weights es
weights (Some x ∷ es) = weight x.port + weights es

-- those of the entries of the user id over a protocol
weights_for : ℕ → Protocol → List (Option Entry) → ℕ
weights_for uid p [] = 0
weights_for uid p (None ∷ es) = weights_for uid p es
weights_for uid p (Some x ∷ es) = (when is_for uid p x then weight x.port else 0) + weights_for uid p es

sum_granting : (uid : ℕ) (p : Protocol) (es : List (Option Entry)) (k from : ℕ) → sum_if (λ q. granting uid p q es) k from ≤ weights_for uid p es
unfolding weights_for any
sum_granting uid p [] k from = omega (arith, sum_none k from)
sum_granting uid p (None ∷ es) k from = sum_granting uid p es k from
sum_granting uid p (Some x ∷ es) k from = by (is_for uid p x) refl (sum_granting uid p es k from)
  where
    step : (b : Bool) → is_for uid p x ≡ b → sum_if (λ q. grants_to x (bind uid [] p q) || granting uid p q es) k from
        ≡ sum_if (λ q. b && eqb x.port q || granting uid p q es) k from
    step b e = sum_same _ _ (λ q. ap (λ (z : Bool). z || granting uid p q es) (granted_alone uid p q x ∙ ap (λ (z : Bool). z && eqb x.port q) e)) k from

    by : (b : Bool) → is_for uid p x ≡ b → sum_if (λ q. granting uid p q es) k from ≤ weights_for uid p es
        → sum_if (λ q. grants_to x (bind uid [] p q) || granting uid p q es) k from ≤ (when is_for uid p x then weight x.port else 0) + weights_for uid p es
    by true e ih = let h = sum_more x.port (λ q. granting uid p q es) k from in let s = step true e in rw e (omega arith)
    by false e ih = let s = step false e in rw e (omega arith)

-- an entry is over one protocol
weights_both : (uid : ℕ) (es : List (Option Entry)) → weights_for uid Tcp es + weights_for uid Udp es ≤ weights es
unfolding weights_for weights equal
weights_both uid [] = omega arith
weights_both uid (None ∷ es) = weights_both uid es
weights_both uid (Some x ∷ es) = by x.protocol (not x.group) (eqb x.id uid) (weights_both uid es)
  where
    by : (p : Protocol) (g i : Bool) → weights_for uid Tcp es + weights_for uid Udp es ≤ weights es
        → ((when equal (protocol_word p) (bytes "tcp") && g && i then weight x.port else 0) + weights_for uid Tcp es)
        + ((when equal (protocol_word p) (bytes "udp") && g && i then weight x.port else 0) + weights_for uid Udp es)
        ≤ weight x.port + weights es
    by Tcp true true ih = omega arith
    by Tcp true false ih = omega arith
    by Tcp false i ih = omega arith
    by Udp true true ih = omega arith
    by Udp true false ih = omega arith
    by Udp false i ih = omega arith

-- ## The bytes of an entry

some_same : {A : Type 0} (a b : A) → Some a ≡ Some b → a ≡ b
some_same a b e = cc

bind_some : {A B : Type 0} (o : Option A) (f : A → Option B) (b : B) → (o >>= f) ≡ Some b → (a : A) × (o ≡ Some a) × (f a ≡ Some b)
bind_some None f b e = let z : ◌≡◌ {A = ℕ} 0 1 = cc in absurd (omega arith)
bind_some (Some a) f b e = (a, refl, e)

-- a word of three bytes
three : {A : Type 0} (t : List ℕ) (p q : String × A) (x : A) → length (bytes p.0) ≡ 3 → length (bytes q.0) ≡ 3 → read_word t p q ≡ Some x → length t ≡ 3
three t p q x h k e = by (equal (bytes p.0) t) refl (equal (bytes q.0) t) refl
  where
    by : (b : Bool) → equal (bytes p.0) t ≡ b → (c : Bool) → equal (bytes q.0) t ≡ c → length t ≡ 3
    by true f c g = ap length (sym (eq_of_equal (bytes p.0) t f)) ∙ h
    by false f true g = ap length (sym (eq_of_equal (bytes q.0) t g)) ∙ k
    by false f false g = let r = rw (f, g) at e in let z : ◌≡◌ {A = ℕ} 0 1 = cc in absurd (omega arith)

-- a number is read from its own text
own_text : (m : ℕ) (t : List ℕ) (n : ℕ) → read_decimal m t ≡ Some n → t ≡ decimal n
unfolding read_decimal
own_text m t n e = by (leb v m && equal t (decimal v)) refl
  where
    v : ℕ
    v = from_digits 10 0 (map digit_value t)

    by : (b : Bool) → (leb v m && equal t (decimal v)) ≡ b → t ≡ decimal n
    by true f =
        let same : v ≡ n = some_same v n (sym (ap (λ (b : Bool). given b v) f) ∙ e) in
        eq_of_equal t (decimal v) (and_true (leb v m) (equal t (decimal v)) f).1 ∙ ap decimal same
    by false f = let r : None ≡ Some n = sym (ap (λ (b : Bool). given b v) f) ∙ e in let z : ◌≡◌ {A = ℕ} 0 1 = cc in absurd (omega arith)

parts_length : (t : List ℕ) (p : List ℕ × List ℕ) → split_once (bytes ":") t ≡ Some p → length t ≡ length p.0 + (1 + length p.1)
parts_length t p e =
    let whole = ap length (split_once_some (bytes ":") t p e) in
    let sum = length-append p.0 (bytes ":" ++ p.1) in
    omega arith

entry_bytes_lem : (e : List ℕ) (x : Entry) → entry_data e ≡ Some x → weight x.port ≤ length e
unfolding entry_data id_data protocol_data port_data weight
entry_bytes_lem e x h =
    let a = bind_some (split_once (bytes ":") e) _ x h in
    let g = bind_some (read_word a.0.0 ("uid", false) ("gid", true)) _ x a.2 in
    let c = bind_some (split_once (bytes ":") a.0.1) _ x g.2 in
    let i = bind_some (read_decimal 4294967295 c.0.0) _ x c.2 in
    let d = bind_some (split_once (bytes ":") c.0.1) _ x i.2 in
    let r = bind_some (read_word d.0.0 ("tcp", Tcp) ("udp", Udp)) _ x d.2 in
    let n = bind_some (read_decimal 65535 d.0.1) _ x r.2 in
    let port : n.0 ≡ x.port = ap (λ (y : Entry). y.port) (some_same _ x n.2) in
    let text = ap length (own_text 65535 d.0.1 n.0 n.1) ∙ ap (λ (k : ℕ). length (decimal k)) port in
    omega (
      arith,
      parts_length e a.0 a.1,
      parts_length a.0.1 c.0 c.1,
      parts_length c.0.1 d.0 d.1,
      three a.0.0 ("uid", false) ("gid", true) g.0 refl refl g.1,
      three d.0.0 ("tcp", Tcp) ("udp", Udp) r.0 refl refl r.1,
      text,
    )

-- ## The list

lengths : List (List ℕ) → ℕ
lengths [] = 0
lengths (w ∷ ws) = length w + lengths ws

lengths_split : (t : List ℕ) → lengths (split "," t) ≤ length t
unfolding split lengths
lengths_split [] = omega arith
lengths_split (x ∷ t) = by (among "," x) (lengths_split t)
  where
    more : (ws : List (List ℕ)) → lengths (cons_head x ws) ≡ suc (lengths ws)
    more [] = refl
    more (w ∷ ws) = omega arith

    by : (b : Bool) → lengths (split "," t) ≤ length t → lengths (when b then [] ∷ split "," t else cons_head x (split "," t)) ≤ suc (length t)
    by true ih = omega arith
    by false ih = let m = more (split "," t) in omega arith

weights_lengths : (ws : List (List ℕ)) → weights (map entry_data ws) ≤ lengths ws
unfolding weights lengths
weights_lengths [] = omega arith
weights_lengths (w ∷ ws) = by (entry_data w) refl (weights_lengths ws)
  where
    by : (o : Option Entry) → entry_data w ≡ o → weights (map entry_data ws) ≤ lengths ws → weights (o ∷ map entry_data ws) ≤ length w + lengths ws
    by None e ih = omega arith
    by (Some x) e ih = let l = entry_bytes_lem w x e in omega arith

list_weights : (t : List ℕ) → weights (entries_data t) ≤ length t
unfolding weights entries_data
list_weights [] = omega arith
list_weights (x ∷ t) = omega (arith, weights_lengths (split "," (x ∷ t)), lengths_split (x ∷ t))

-- ## The list and its ports

pub granted_bytes : (t : List ℕ) (uid k from : ℕ)
    → sum_if (λ q. any (holds λ grants. grants (bind uid [] Tcp q)) (entries t)) k from + sum_if
    (λ q. any (holds λ grants. grants (bind uid [] Udp q)) (entries t)) k from ≤ length t
granted_bytes t uid k from =
    let has : (p : Protocol) (q : ℕ) → any (holds λ grants. grants (bind uid [] p q)) (entries t) ≡ granting uid p q (entries_data t)
    = λ p q. rw (entries_entries_data t) (any_granted (bind uid [] p q) (entries_data t)) in
    omega (
      arith,
      sum_same _ (λ q. granting uid Tcp q (entries_data t)) (has Tcp) k from,
      sum_same _ (λ q. granting uid Udp q (entries_data t)) (has Udp) k from,
      sum_granting uid Tcp (entries_data t) k from,
      sum_granting uid Udp (entries_data t) k from,
      weights_both uid (entries_data t),
      list_weights t,
    )
