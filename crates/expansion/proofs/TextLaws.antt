-- Laws of the texts that directives insert: they are those of the definition, and short.
-- Assumes nothing.
use Prim.Native.Nat.{ℕ, ◌+◌, ◌<◌, ◌≤◌}
use native.Mathlib.Numerals.{add-one}
use native.Mathlib.Omega.{arith}
use mathlib.Core.Bool.{Bool, true, false, ◌&&◌, ◌||◌}
use mathlib.Core.List.{List, [], ◌∷◌, ◌++◌, map, map-append, append_assoc, append-nil}
use mathlib.Core.Logic.{inl, inr}
use mathlib.Core.Path.{◌≡◌, refl, sym, ◌∙◌}
use borrow.Author.Tests.{eqb-true, ne_eqb, leb-true}
use lib.Dec.{eqb, leb}
use lib.ListN.{length, take, drop, get_or, set, length-append, length-map, length-set, get_or-map}
use lib.Seq.{paste-suc}
use types.Run.{OneOf}
use Rattle.text.specs.Basics.{when◌then◌else◌, first, any}
use Rattle.text.specs.Text.{bytes, in_range, among, is_digit, is_letter}
use Rattle.text.proofs.BasicLaws.{and_true}
use Rattle.text.proofs.Numeral.{length_numeral}
use Rattle.text.proofs.PasteLaws.{Pasted, pasted_all}
use Rattle.address_format.proofs.WriteLaws.{length_addr_text}
use Rattle.address_format.proofs.WriteText.{Wrote, front_room, rest_room, rest_all, byte_room, byte_all}
use Rattle.section.specs.declared.Part.{Part}
use Rattle.patterns.specs.declared.Host.{Host}
use Rattle.patterns.specs.declared.Name.{Name}
use Rattle.patterns.specs.declared.Name.TheVariants as N
use Rattle.elements.specs.declared.User.{User}
use Rattle.elements.specs.declared.User.TheVariants as U
use Rattle.patterns.specs.Host.{Endpoint, endpoint, name_case}
use Rattle.elements.specs.Request.{Request, user_case, well_formed}
use Rattle.section.specs.Section.{bytes_at}
use Rattle.expansion.specs.Expand.{name_text, host_text, inserted, safe_byte}
use Rattle.expansion.specs.Code.{Texts, texts_of, name_with, host_with, user_state, has_at, before_at, after_at, inserted_by, Short}

-- ## Texts by the state of a name or a user, as an arm of a match hands them over

module _ (host : Host) (t : List ℕ) (s : List ℕ) (q : Part) (is-t : t ≡ take q.len (drop q.place s)) where
  pub name_known_lem : (u p : List ℕ) → host.name ≡ N.Known → t ≡ name_with u p (endpoint host (bytes_at s q))
  name_known_lem u p e = rw e is-t

  pub host_name : (a : List ℕ) → host.name ≡ N.Known → t ≡ host_with (endpoint host (bytes_at s q)) a
  host_name a e = rw e is-t

  pub host_unknown : (n : List ℕ) → host.name ≡ N.Unknown → t ≡ host_with (endpoint host n) (bytes_at s q)
  host_unknown n e = rw e is-t

  pub host_paranoid : (n : List ℕ) → host.name ≡ N.Paranoid → t ≡ host_with (endpoint host n) (bytes_at s q)
  host_paranoid n e = rw e is-t

pub user_named : (user : User) (t : List ℕ) (s : List ℕ) (q : Part) → t ≡ take q.len (drop q.place s) → (u : List ℕ) → user ≡ U.Known
    → t ≡ user_state user u (bytes_at s q)
user_named user t s q is-t u e = rw e is-t

-- ## Bytes that are no directive

-- the byte is none of the keys, as a match hands it over
abbrev NoneOf : List (List ℕ) → ℕ → Type 0
NoneOf [] y = Unit
NoneOf (ks ∷ kss) y = NoneOf kss y × (OneOf ks y → ⊥)

pub after_at_other : (x : Texts) (y : ℕ)
    → NoneOf ((37 ∷ []) ∷ (112 ∷ []) ∷ (115 ∷ []) ∷ (100 ∷ []) ∷ (117 ∷ []) ∷ (72 ∷ []) ∷ (99 ∷ 104 ∷ []) ∷ (78 ∷ []) ∷ (110 ∷ []) ∷ (65 ∷ []) ∷ (97 ∷ [])
    ∷ []) y
    → [] ≡ after_at x y
unfolding after_at
after_at_other x y n =
    let s = n.0.0.0.0.0 in
    sym
    (rw (
      ne_eqb y 97 s.0.0.0.0.0.1,
      ne_eqb y 65 s.0.0.0.0.1,
      ne_eqb y 110 s.0.0.0.1,
      ne_eqb y 78 s.0.0.1,
      ne_eqb y 104 (λ e. s.0.1 (inr e)),
      ne_eqb y 99 (λ e. s.0.1 (inl e)),
      ne_eqb y 72 s.1,
      ne_eqb y 117 n.0.0.0.0.1,
      ne_eqb y 100 n.0.0.0.1,
      ne_eqb y 115 n.0.0.1,
      ne_eqb y 112 n.0.1,
      ne_eqb y 37 n.1,
    ))

-- ## The texts of a request are those of the definition

module _ (y k : ℕ) {G : Type 0} where
  byte_is : (y ≡ k → G) → (eqb y k ≡ false → G) → G
  byte_is t f = by (eqb y k) refl
    where
      by : (b : Bool) → eqb y k ≡ b → G
      by true e = t (eqb-true y k e)
      by false e = f e

-- %c and %s
at_user : (u : User) (name host : List ℕ)
    → (when user_state u false true || false then user_state u (bytes "unknown") name ++ (bytes "@" ++ host) else host)
    ≡ elim u [ U.NotFetched ↦ [] | U.Unknown ↦ [] | U.Known ↦ name ++ bytes "@" ] ++ host
at_user U.NotFetched name host = refl
at_user U.Unknown name host = refl
at_user U.Known name host = sym (append_assoc name (bytes "@") host)

at_daemon : (known : Bool) (daemon host : List ℕ)
    → (when known then daemon ++ (bytes "@" ++ (when known then host else daemon)) else (when known then host else daemon))
    ≡ daemon ++ (when known then bytes "@" ++ host else [])
at_daemon true daemon host = refl
at_daemon false daemon host = sym (append-nil daemon)

user_alone : (u : User) (name : List ℕ) → user_state u (bytes "unknown") name
    ≡ elim u [ U.NotFetched ↦ bytes "unknown" | U.Unknown ↦ bytes "unknown" | U.Known ↦ name ]
user_alone U.NotFetched name = refl
user_alone U.Unknown name = refl
user_alone U.Known name = refl

pub inserted_by_request : (r : Request) (process y : ℕ) → inserted_by (texts_of r process) y ≡ inserted r process y
unfolding inserted_by after_at inserted first
inserted_by_request r process y =
    byte_is y 97 (λ e. rw e) λ a.
    byte_is y 65 (λ e. rw e) λ b.
    byte_is y 110 (λ e. rw e) λ c.
    byte_is y 78 (λ e. rw e) λ d.
    byte_is y 104 (λ e. rw e) λ f.
    byte_is y 72 (λ e. rw e) λ g.
    byte_is y 117 (λ e. rw e (user_alone r.user r.user_name)) λ h.
    byte_is y 99 (λ e. rw e (at_user r.user r.user_name (host_text r.client))) λ i.
    byte_is y 100 (λ e. rw e) λ j.
    byte_is y 115 (λ e. rw e (at_daemon (texts_of r process).server_known r.daemon (host_text r.server))) λ k.
    byte_is y 112 (λ e. rw e) λ l.
    byte_is y 37 (λ e. rw e) λ m.
    rw (a, b, c, d, f, g, h, i, j, k, l, m)

-- ## Sizes

if_short : (b : Bool) (s t : List ℕ) (n : ℕ) → length s ≤ n → length t ≤ n → length (when b then s else t) ≤ n
if_short true s t n h k = h
if_short false s t n h k = k

module _ (x : Texts) (s : Short x) (y : ℕ) where
  short_after : length (after_at x y) ≤ 255
  unfolding after_at
  short_after =
      if_short (eqb y 97) _ _ 255 (omega (arith, s.client_address))
      (if_short (eqb y 65) _ _ 255 (omega (arith, s.server_address))
      (if_short (eqb y 110) _ _ 255 s.client_name
      (if_short (eqb y 78) _ _ 255 s.server_name
      (if_short (eqb y 104 || eqb y 99) _ _ 255 s.client_host
      (if_short (eqb y 72) _ _ 255 s.server_host
      (if_short (eqb y 117) _ _ 255 (omega (arith, s.user))
      (if_short (eqb y 100) _ _ 255 (omega (arith, s.daemon))
      (if_short (eqb y 115) _ _ 255 (if_short x.server_known _ _ 255 s.server_host (omega (arith, s.daemon)))
      (if_short (eqb y 112) _ _ 255 (omega (arith, s.process))
      (if_short (eqb y 37) _ _ 255 (omega (arith, s.percent)) (omega arith)))))))))))

  short_before : length (before_at x y) ≤ 64
  short_before = if_short (eqb y 99) _ _ 64 s.user s.daemon

  pub inserted_by_short : length (inserted_by x y) ≤ 320
  unfolding inserted_by
  inserted_by_short =
      if_short (has_at x y) _ _ 320
      (omega (arith, short_after, short_before, length-append (before_at x y) (bytes "@" ++ after_at x y)))
      (omega (arith, short_after))

in_range_high : (high n : ℕ) → in_range 1 high n ≡ true → n ≤ high
in_range_high high n e = leb-true n high (and_true (leb 1 n) (leb n high) e).1

-- a name, where known, is within its size
abbrev Fits : Endpoint → Type 0
Fits h = name_case h true true (in_range 1 255 (length h.name)) ≡ true

name_short : (h : Endpoint) → Fits h → length (name_text h) ≤ 255
name_short h e = by h.host.name e
  where
    by : (n : Name) → name_case (endpoint (record { name = n; addr = h.host.addr }) h.name) true true (in_range 1 255 (length h.name)) ≡ true
        → length (name_text (endpoint (record { name = n; addr = h.host.addr }) h.name)) ≤ 255
    by N.Unknown e = omega arith
    by N.Paranoid e = omega arith
    by N.Known e = in_range_high 255 (length h.name) e

host_short : (h : Endpoint) → Fits h → length (host_text h) ≤ 255
host_short h e = by h.host.name e
  where
    by : (n : Name) → name_case (endpoint (record { name = n; addr = h.host.addr }) h.name) true true (in_range 1 255 (length h.name)) ≡ true
        → length (host_text (endpoint (record { name = n; addr = h.host.addr }) h.name)) ≤ 255
    by N.Unknown e = omega (arith, length_addr_text h.host.addr)
    by N.Paranoid e = omega (arith, length_addr_text h.host.addr)
    by N.Known e = in_range_high 255 (length h.name) e

user_short : (u : User) (name : List ℕ) → elim u [ U.NotFetched ↦ true | U.Unknown ↦ true | U.Known ↦ in_range 1 64 (length name) ] ≡ true
    → length (user_state u (bytes "unknown") name) ≤ 64
user_short U.NotFetched name e = omega arith
user_short U.Unknown name e = omega arith
user_short U.Known name e = in_range_high 64 (length name) e

pub well_formed_short : (r : Request) (process : ℕ) → well_formed r ≡ true → Short (texts_of r process)
unfolding well_formed
well_formed_short r process w =
    let a = and_true (in_range 1 64 (length r.daemon) && fits r.client && fits r.server)
    (user_case r true true (in_range 1 64 (length r.user_name))) w in
    let b = and_true (in_range 1 64 (length r.daemon) && fits r.client) (fits r.server) a.0 in
    let c = and_true (in_range 1 64 (length r.daemon)) (fits r.client) b.0 in
    record {
      client_address = length_addr_text r.client.host.addr;
      client_name = name_short r.client c.1;
      client_host = host_short r.client c.1;
      server_address = length_addr_text r.server.host.addr;
      server_name = name_short r.server b.1;
      server_host = host_short r.server b.1;
      user = user_short r.user r.user_name a.1;
      daemon = in_range_high 64 (length r.daemon) c.0;
      process = (length_numeral 10 10 process).0;
      percent = omega arith;
    }
  where
    fits : Endpoint → Bool
    fits h = name_case h true true (in_range 1 255 (length h.name))

-- ## What a directive inserts, measured and written

-- t is the text, and h whether an `@` stands before it
module _ (x : Texts) (y : ℕ) (t : List ℕ) (is-t : t ≡ after_at x y) (h : Bool) (is-h : h ≡ has_at x y) where
  alone : h ≡ false → inserted_by x y ≡ t
  unfolding inserted_by
  alone f = rw (← is-h, f) (sym is-t)

  joined : h ≡ true → (b : List ℕ) → b ≡ before_at x y → inserted_by x y ≡ b ++ (bytes "@" ++ t)
  unfolding inserted_by
  joined f b e = rw (← is-h, f, is-t, e)

  pub length_alone : Short x → h ≡ false → (length t ≡ length (map safe_byte (inserted_by x y))) × (length t ≤ 320)
  length_alone s f = rw (length-map (inserted_by x y) safe_byte, ← alone f) (refl, inserted_by_short x s y)

  pub length_joined : Short x → h ≡ true → (b : List ℕ) → b ≡ before_at x y
      → (length b + 1 + length t ≡ length (map safe_byte (inserted_by x y))) × (length b + 1 + length t ≤ 320)
  length_joined s f b e =
      let l : length (inserted_by x y) ≡ length b + 1 + length t = rw (joined f b e, length-append b (bytes "@" ++ t)) (omega arith) in
      rw (length-map (inserted_by x y) safe_byte, ← l) (refl, inserted_by_short x s y)

  module _ (d : List ℕ) (at : ℕ) where
    pub alone_room : at + length (map safe_byte (inserted_by x y)) ≤ length d → h ≡ false → at + length (map safe_byte t) ≤ length d
    alone_room room f = rw (alone f) at room

    pub alone_all : h ≡ false → (o : List ℕ) (m : ℕ) → Wrote d o (map safe_byte t) at m → Wrote d o (map safe_byte (inserted_by x y)) at m
    alone_all f o m w = rw (alone f) w

    module _ (f : h ≡ true) (b : List ℕ) (e : b ≡ before_at x y) where
      pub joined_room : at + length (map safe_byte (inserted_by x y)) ≤ length d → at + length (map safe_byte (b ++ (bytes "@" ++ t))) ≤ length d
      joined_room room = rw (joined f b e) at room

      pub joined_all : (o : List ℕ) (m : ℕ) → Wrote d o (map safe_byte (b ++ (bytes "@" ++ t))) at m → Wrote d o (map safe_byte (inserted_by x y)) at m
      joined_all o m w = rw (joined f b e) w

-- a name, an `@` and a text, one after the other
at_parts : (a t : List ℕ) → map safe_byte (a ++ (bytes "@" ++ t)) ≡ map safe_byte a ++ (64 ∷ map safe_byte t)
unfolding safe_byte any
at_parts a t = map-append safe_byte a (bytes "@" ++ t)

module _ (d a t : List ℕ) (at : ℕ) (room : at + length (map safe_byte (a ++ (bytes "@" ++ t))) ≤ length d) where
  pub name_room : at + length (map safe_byte a) ≤ length d
  name_room = front_room d _ (map safe_byte a) (64 ∷ map safe_byte t) at (at_parts a t) room

  module _ (o : List ℕ) (p : ℕ) (w : Wrote d o (map safe_byte a) at p) where
    left : p + length (64 ∷ map safe_byte t) ≤ length o
    left = rest_room d _ (map safe_byte a) (64 ∷ map safe_byte t) at (at_parts a t) room o p w

    pub at_room : p < length o
    at_room = omega (arith, left)

    pub text_room : p + 1 + length (map safe_byte t) ≤ length (set o p 64)
    text_room = byte_room o (map safe_byte t) p 64 left

    pub text_all : (q : List ℕ) (n : ℕ) → Wrote (set o p 64) q (map safe_byte t) (p + 1) n → Wrote d q (map safe_byte (a ++ (bytes "@" ++ t))) at n
    text_all q n v =
        rest_all d _ (map safe_byte a) (64 ∷ map safe_byte t) at (at_parts a t) room o p w q n (byte_all o (map safe_byte t) p 64 left q n v)

-- the tests of a byte of the house set
pub safe_tests : (b : ℕ) (l : Bool) → l ≡ is_letter b → (d : Bool) → d ≡ is_digit b → (m : Bool) → m ≡ among "@%-_=+:,./" b
    → (l || d || m) ≡ (is_letter b || is_digit b || among "@%-_=+:,./" b)
safe_tests b l is-l d is_d m is_m = rw (is-l, is_d, is_m)

-- one byte of a text
pub safe_step : (d s o : List ℕ) (at j b : ℕ) → Pasted d (map safe_byte s) o at j → b ≡ safe_byte (get_or s j 0)
    → at + length (map safe_byte s) ≤ length d → j < length s → Pasted d (map safe_byte s) (set o (at + j) b) at (j + 1)
safe_step d s o at j b p e room h =
    let k : j < length (map safe_byte s) = rw (length-map s safe_byte) h in
    record {
      text = rw (p.text, e, ← (get_or-map safe_byte s j 0), add-one) (paste-suc d at (map safe_byte s) j (safe_byte 0) (omega arith) k);
      within = omega arith;
      long = length-set o (at + j) b ∙ p.long;
    }

pub safe_room : (d s o : List ℕ) (at j : ℕ) → Pasted d (map safe_byte s) o at j → at + length (map safe_byte s) ≤ length d → j < length s → at + j < length o
safe_room d s o at j p room h = omega (arith, p.long, length-map s safe_byte)

pub safe_all : (d s o : List ℕ) (at j : ℕ) → Pasted d (map safe_byte s) o at j → length s ≤ j → Wrote d o (map safe_byte s) at (at + length s)
safe_all d s o at j p h = (omega (arith, p.within, length-map s safe_byte), pasted_all d (map safe_byte s) o at j p (rw (length-map s safe_byte) h))
