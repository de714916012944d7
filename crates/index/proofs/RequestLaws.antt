-- Requests by the places of their fields, and how many there are.
--   text_placed, host_placed_lem, request_placed == what Index reads, by places
--   fields_within == a request ends within the bytes, and after its start
--   Parting       == the loop that counts requests
-- Assumes nothing.
use Rattle.std.specs.Prelude.{None, Option, Some}
use Prim.Native.Nat.{ℕ, zero, suc, ◌+◌, ◌-◌, ◌*◌, ◌≤◌, ◌<◌}
use mathlib.Core.Bool.{Bool, true, false, true≢false}
use mathlib.Core.List.{List, [], ◌∷◌}
use mathlib.Core.Path.{◌≡◌, refl, sym, ap, ap₂, subst, ◌∙◌}
use native.Mathlib.Numerals.{add-one}
use native.Mathlib.Omega.{arith}
use borrow.Author.Tests.{leb-true, leb-false, ltb-true, ltb-false, le-leb, lt-leb, lt-ltb, le-ltb}
use lib.Dec.{leb, ltb}
use lib.ListN.{length, take, drop, get_or, length-drop, drop_of_length-le}
use lib.Seq.{drop-cons, drop-drop, get_or-drop, take-take}
use Rattle.text.specs.Basics.{when◌then◌else◌, ◌>>=◌, given}
use Rattle.text.specs.Number.{from_digits}
use Rattle.text.proofs.ScanLaws.{take_rest}
use Rattle.section.specs.declared.Part.{Part}
use Rattle.section.specs.Section.{part, bytes_at}
use Rattle.sheet.specs.Sheet.{part_end}
use Rattle.sheet.proofs.ReadLaws.{count_of_four}
use Rattle.sheet.proofs.FrameLaws.{take_drop_take}
use Rattle.codes.specs.declared.request.HostNumbers.{HostNumbers}
use Rattle.codes.specs.Requests.{RequestNumbers, host_numbers, request_numbers}
use Rattle.index.specs.declared.requests.HostFields.{HostFields}
use Rattle.index.specs.declared.requests.Fields.{Fields}
use Rattle.index.specs.Index.{cut, number_at, read_text, read_host, read_request, parted, read_requests}
use Rattle.index.specs.Code.{number_from, text_at, numbers_at, host_fields, host_at, fields_of, user_from, hosts_from, fields_at}
use Rattle.index.specs.Code.{counted_of, numbers_in}

-- ## Numbers

pub four_bytes : (s : List ℕ) (at : ℕ) → at + 4 ≤ length s → (a b c d : ℕ) → a ≡ get_or s at 0 → b ≡ get_or s (at + 1) 0 → c ≡ get_or s (at + 2) 0
    → d ≡ get_or s (at + 3) 0 → ((a * 256 + b) * 256 + c) * 256 + d ≡ number_from at s
unfolding number_from
four_bytes s at h a b c d is-a is_b is_c is_d =
    let z : at + 0 ≡ at = omega arith in
    let g : (k : ℕ) → get_or s (at + k) 0 ≡ get_or (drop at s) k 0 = λ k. sym (get_or-drop at s k 0) in
    rw (is_b, is_c, is_d, g 1, g 2, g 3)
    (ap (λ (x : ℕ). ((x * 256 + get_or (drop at s) 1 0) * 256 + get_or (drop at s) 2 0) * 256 + get_or (drop at s) 3 0)
    (is-a ∙ ap (λ (k : ℕ). get_or s k 0) (sym z) ∙ g 0)
    ∙ count_of_four (drop at s) (omega (arith, length-drop at s)))

eight_of : (s : List ℕ) → 8 ≤ length s → from_digits 256 0 (take 4 s) * 4294967296 + from_digits 256 0 (take 4 (drop 4 s)) ≡ from_digits 256 0 (take 8 s)
unfolding from_digits
eight_of [] h = absurd (omega arith)
eight_of (a ∷ []) h = absurd (omega arith)
eight_of (a ∷ b ∷ []) h = absurd (omega arith)
eight_of (a ∷ b ∷ c ∷ []) h = absurd (omega arith)
eight_of (a ∷ b ∷ c ∷ d ∷ []) h = absurd (omega arith)
eight_of (a ∷ b ∷ c ∷ d ∷ e ∷ []) h = absurd (omega arith)
eight_of (a ∷ b ∷ c ∷ d ∷ e ∷ f ∷ []) h = absurd (omega arith)
eight_of (a ∷ b ∷ c ∷ d ∷ e ∷ f ∷ g ∷ []) h = absurd (omega arith)
eight_of (a ∷ b ∷ c ∷ d ∷ e ∷ f ∷ g ∷ k ∷ s) h = omega arith

pub eight_bytes : (s : List ℕ) (at : ℕ) → at + 8 ≤ length s → (x y : ℕ) → x ≡ number_from at s → y ≡ number_from (at + 4) s
    → x * 4294967296 + y ≡ number_at at 8 s
unfolding number_from
eight_bytes s at h x y is_x is_y =
    ap₂ (λ (m n : ℕ). m * 4294967296 + n) is_x (is_y ∙ ap (λ (t : List ℕ). from_digits 256 0 (take 4 t)) (sym (drop-drop 4 at s)))
    ∙ eight_of (drop at s) (omega (arith, length-drop at s))

one_of : (s : List ℕ) → 0 < length s → from_digits 256 0 (take 1 s) ≡ get_or s 0 0
unfolding from_digits
one_of [] h = absurd (omega arith)
one_of (x ∷ s) h = omega arith

one_byte : (s : List ℕ) (at : ℕ) → at < length s → number_at at 1 s ≡ get_or s at 0
one_byte s at h =
    let z : at + 0 ≡ at = omega arith in
    one_of (drop at s) (omega (arith, length-drop at s)) ∙ get_or-drop at s 0 0 ∙ ap (λ (k : ℕ). get_or s k 0) z

-- ## A text

module _ (t : List ℕ) (at : ℕ) where
  pub text_past : length t ≤ at → None ≡ text_at at t
  unfolding text_at
  text_past h = rw (le-leb (length t) at h)

  module _ (h : at < length t) (n : ℕ) (is-n : n ≡ get_or t at 0) where
    pub text_cut : length t - at ≤ n → None ≡ text_at at t
    unfolding text_at
    text_cut k = rw (lt-leb (length t) at h, ← is-n, le-leb (length t - at) n k)

    pub text_whole : n < length t - at → Some (part (at + 1) n) ≡ text_at at t
    unfolding text_at
    text_whole k = rw (lt-leb (length t) at h, ← is-n, lt-leb (length t - at) n k)

-- what was read of a text at its place
abbrev text_by : List ℕ → Option Part → Option (List ℕ × List ℕ)
text_by s None = None
text_by s (Some p) = Some (bytes_at s p, drop (part_end p) s)

text_placed : (s : List ℕ) (at : ℕ) → read_text (drop at s) ≡ text_by s (text_at at s)
unfolding read_text text_at
text_placed s at = by (leb (length s) at) refl
  where
    -- the count, and the text after it
    second : at < length s → (b : Bool) → leb (length s - at) (get_or s at 0) ≡ b
        → cut (number_at 0 1 (take 1 (drop at s))) (drop 1 (drop at s)) ≡ text_by s (when b then None else Some (part (at + 1) (get_or s at 0)))
    second h b e =
        let n : number_at 0 1 (take 1 (drop at s)) ≡ get_or s at 0 = ap (from_digits 256 0) (take-take 1 1 (drop at s) (omega arith)) ∙ one_byte s at h in
        let l : length (drop (at + 1) s) ≡ length s - (at + 1) = length-drop (at + 1) s in
        ap₂ (λ (k : ℕ) (t : List ℕ). cut k t) n (drop-drop 1 at s) ∙ tell b e
      where
        tell : (b : Bool) → leb (length s - at) (get_or s at 0) ≡ b → cut (get_or s at 0) (drop (at + 1) s)
            ≡ text_by s (when b then None else Some (part (at + 1) (get_or s at 0)))
        tell true e =
            let k : length s - at ≤ get_or s at 0 = leb-true (length s - at) (get_or s at 0) e in
            rw (lt-leb (get_or s at 0) (length (drop (at + 1) s)) (omega (arith, length-drop (at + 1) s)))
        tell false e =
            let k : get_or s at 0 < length s - at = leb-false (length s - at) (get_or s at 0) e in
            rw (le-leb (get_or s at 0) (length (drop (at + 1) s)) (omega (arith, length-drop (at + 1) s)))
            (ap (λ (t : List ℕ). Some (take (get_or s at 0) (drop (at + 1) s), t)) (drop-drop (get_or s at 0) (at + 1) s))

    by : (b : Bool) → leb (length s) at ≡ b
        → (cut 1 (drop at s) >>= λ n. cut (number_at 0 1 n.0) n.1)
        ≡ text_by s (when b then None else when leb (length s - at) (get_or s at 0) then None else Some (part (at + 1) (get_or s at 0)))
    by true e =
        let k : length s ≤ at = leb-true (length s) at e in
        rw (lt-leb 1 (length (drop at s)) (omega (arith, length-drop at s)))
    by false e =
        let k : at < length s = leb-false (length s) at e in
        rw (le-leb 1 (length (drop at s)) (omega (arith, length-drop at s))) (second k (leb (length s - at) (get_or s at 0)) refl)

pub text_within : (s : List ℕ) (at : ℕ) (p : Part) → text_at at s ≡ Some p → (at < part_end p) × (part_end p ≤ length s)
unfolding text_at
text_within s at p e = by (leb (length s) at) (leb (length s - at) (get_or s at 0)) refl refl e
  where
    by : (b c : Bool) → leb (length s) at ≡ b → leb (length s - at) (get_or s at 0) ≡ c
        → (when b then None else when c then None else Some (part (at + 1) (get_or s at 0))) ≡ Some p → (at < part_end p) × (part_end p ≤ length s)
    by true c f g k = let z : ◌≡◌ {A = ℕ} 0 1 = cc k in absurd (omega arith)
    by false true f g k = let z : ◌≡◌ {A = ℕ} 0 1 = cc k in absurd (omega arith)
    by false false f g k =
        let same : part (at + 1) (get_or s at 0) ≡ p = cc k in
        let l : get_or s at 0 < length s - at = leb-false (length s - at) (get_or s at 0) g in
        subst (λ (p : Part). (at < part_end p) × (part_end p ≤ length s)) same (omega arith, omega arith)

-- ## A host

pub numbers_read : (s : List ℕ) (at state kind high low : ℕ) → state ≡ get_or s at 0 → kind ≡ get_or s (at + 1) 0
    → high ≡ number_at (at + 2) 8 s → low ≡ number_at (at + 10) 8 s
    → ◌≡◌ {A = HostNumbers} (record { state = state; kind = kind; high = high; low = low }) (numbers_at at s)
unfolding numbers_at
numbers_read s at state kind high low is_state is-kind is_high is_low = rw (is_state, is-kind, is_high, is_low)

module _ (t : List ℕ) (at : ℕ) where
  pub host_short : length t - at < 18 → None ≡ host_at at t
  unfolding host_at
  host_short h = rw (lt-ltb (length t - at) 18 h)

  module _ (h : 18 ≤ length t - at) (x : Option Part) (is_x : x ≡ text_at (at + 18) t) where
    pub host_cut : x ≡ None → None ≡ host_at at t
    unfolding host_at
    host_cut e = rw (le-ltb (length t - at) 18 h, sym is_x ∙ e)

    pub host_whole : (p : Part) → x ≡ Some p → (n : HostNumbers) → n ≡ numbers_at at t → Some (host_fields n p) ≡ host_at at t
    unfolding host_at
    host_whole p e n is-n = rw (le-ltb (length t - at) 18 h, sym is_x ∙ e, is-n)

abbrev host_placed : List ℕ → Option HostFields → Option ((HostNumbers × List ℕ) × List ℕ)
host_placed s None = None
host_placed s (Some h) = Some ((h.numbers, bytes_at s h.name), drop (part_end h.name) s)

-- the numbers at the front of a host
head_numbers : (s : List ℕ) (at : ℕ) → at + 18 ≤ length s
    → host_numbers (number_at 0 1 (take 18 (drop at s))) (number_at 1 1 (take 18 (drop at s))) (number_at 2 8 (take 18 (drop at s)))
    (number_at 10 8 (take 18 (drop at s)))
    ≡ numbers_at at s
unfolding numbers_at
head_numbers s at h =
    let f : (x k : ℕ) → x + k ≤ 18 → number_at x k (take 18 (drop at s)) ≡ number_at (at + x) k s
    = λ x k w. ap (from_digits 256 0) (take_drop_take k x 18 (drop at s) w ∙ ap (take k) (drop-drop x at s)) in
    let z : at + 0 ≡ at = omega arith in
    let a : number_at 0 1 (take 18 (drop at s)) ≡ get_or s at 0
    = f 0 1 (omega arith) ∙ ap (λ (k : ℕ). number_at k 1 s) z ∙ one_byte s at (omega arith) in
    let b : number_at 1 1 (take 18 (drop at s)) ≡ get_or s (at + 1) 0 = f 1 1 (omega arith) ∙ one_byte s (at + 1) (omega arith) in
    same (number_at 0 1 (take 18 (drop at s))) (get_or s at 0) (number_at 1 1 (take 18 (drop at s))) (get_or s (at + 1) 0)
    (number_at 2 8 (take 18 (drop at s))) (number_at (at + 2) 8 s) (number_at 10 8 (take 18 (drop at s))) (number_at (at + 10) 8 s)
    a b (f 2 8 (omega arith)) (f 10 8 (omega arith))
  where
    same : (a a' b b' c c' d d' : ℕ) → a ≡ a' → b ≡ b' → c ≡ c' → d ≡ d' → host_numbers a b c d ≡ host_numbers a' b' c' d'
    same a a' b b' c c' d d' e f g h = rw (e, f, g, h)

host_placed_lem : (s : List ℕ) (at : ℕ) → at ≤ length s → read_host (drop at s) ≡ host_placed s (host_at at s)
unfolding read_host host_at
host_placed_lem s at h = by (ltb (length s - at) 18) refl
  where
    named : (o : Option Part) → read_text (drop 18 (drop at s)) ≡ text_by s o → at + 18 ≤ length s
        → (read_text (drop 18 (drop at s)) >>= λ name. Some (
          (
            host_numbers (number_at 0 1 (take 18 (drop at s))) (number_at 1 1 (take 18 (drop at s)))
                (number_at 2 8 (take 18 (drop at s))) (number_at 10 8 (take 18 (drop at s))),
            name.0,
          ),
          name.1,
        ))
        ≡ host_placed s (o >>= λ name. Some (host_fields (numbers_at at s) name))
    named None e w = rw e
    named (Some p) e w = rw e (ap (λ (n : HostNumbers). Some ((n, bytes_at s p), drop (part_end p) s)) (head_numbers s at w))

    by : (b : Bool) → ltb (length s - at) 18 ≡ b
        → (cut 18 (drop at s) >>= λ h. read_text h.1 >>= λ name. Some
        ((host_numbers (number_at 0 1 h.0) (number_at 1 1 h.0) (number_at 2 8 h.0) (number_at 10 8 h.0), name.0), name.1))
        ≡ host_placed s (when b then None else (text_at (at + 18) s >>= λ name. Some (host_fields (numbers_at at s) name)))
    by true e =
        let k : length s - at < 18 = ltb-true (length s - at) 18 e in
        rw (lt-leb 18 (length (drop at s)) (omega (arith, length-drop at s)))
    by false e =
        let k : 18 ≤ length s - at = ltb-false (length s - at) 18 e in
        rw (le-leb 18 (length (drop at s)) (omega (arith, length-drop at s)))
        (named (text_at (at + 18) s) (ap read_text (drop-drop 18 at s) ∙ text_placed s (at + 18)) (omega arith))

pub host_within : (s : List ℕ) (at : ℕ) (h : HostFields) → host_at at s ≡ Some h → part_end h.name ≤ length s
unfolding host_at
host_within s at h e = by (ltb (length s - at) 18) (text_at (at + 18) s) refl e
  where
    by : (b : Bool) (o : Option Part) → text_at (at + 18) s ≡ o
        → (when b then None else (o >>= λ name. Some (host_fields (numbers_at at s) name))) ≡ Some h → part_end h.name ≤ length s
    by true o f k = let z : ◌≡◌ {A = ℕ} 0 1 = cc k in absurd (omega arith)
    by false None f k = let z : ◌≡◌ {A = ℕ} 0 1 = cc k in absurd (omega arith)
    by false (Some p) f k =
        let same : host_fields (numbers_at at s) p ≡ h = cc k in
        subst (λ (h : HostFields). part_end h.name ≤ length s) same (text_within s (at + 18) p f).1

-- ## A request

module _ (d : Part) (c s : HostFields) (t : List ℕ) where
  pub user_past : length t ≤ part_end s.name → None ≡ user_from d c s t
  unfolding user_from
  user_past h = rw (le-leb (length t) (part_end s.name) h)

  module _ (h : part_end s.name < length t) (x : Option Part) (is_x : x ≡ text_at (part_end s.name + 1) t) where
    pub user_cut : x ≡ None → None ≡ user_from d c s t
    unfolding user_from
    user_cut e = rw (lt-leb (length t) (part_end s.name) h, sym is_x ∙ e)

    pub user_whole : (p : Part) → x ≡ Some p → (u : ℕ) → u ≡ get_or t (part_end s.name) 0
        → Some (fields_of d c s u p) ≡ user_from d c s t
    unfolding user_from
    user_whole p e u is-u = rw (lt-leb (length t) (part_end s.name) h, sym is_x ∙ e, is-u)

    pub user_end : (p : Part) → x ≡ Some p → (m : ℕ) → length t < m → p.place + p.len < m
    user_end p e m h = omega (arith, (text_within t (part_end s.name + 1) p (sym is_x ∙ e)).1)

module _ (d : Part) (t : List ℕ) (x : Option HostFields) (is_x : x ≡ host_at (part_end d) t) where
  pub hosts_cut : x ≡ None → None ≡ hosts_from d t
  unfolding hosts_from
  hosts_cut e = rw (sym is_x ∙ e)

  module _ (c : HostFields) (e : x ≡ Some c) where
    client_is : host_at (part_end d) t ≡ Some c
    client_is = sym is_x ∙ e

    pub client_within : part_end c.name ≤ length t
    client_within = host_within t (part_end d) c client_is

    pub client_end : (m : ℕ) → length t < m → c.name.place + c.name.len < m
    client_end m h = omega (arith, client_within)

    module _ (y : Option HostFields) (is_y : y ≡ host_at (part_end c.name) t) where
      pub hosts_cut_2 : y ≡ None → None ≡ hosts_from d t
      unfolding hosts_from
      hosts_cut_2 f = rw (client_is, sym is_y ∙ f)

      module _ (s : HostFields) (f : y ≡ Some s) where
        server_is : host_at (part_end c.name) t ≡ Some s
        server_is = sym is_y ∙ f

        pub server_within : part_end s.name ≤ length t
        server_within = host_within t (part_end c.name) s server_is

        pub hosts_both : (r : Option Fields) → r ≡ user_from d c s t → r ≡ hosts_from d t
        unfolding hosts_from
        hosts_both r is-r = is-r ∙ sym (rw (client_is, server_is))

module _ (t : List ℕ) (x : Option Part) (is_x : x ≡ text_at 0 t) where
  pub request_cut : x ≡ None → None ≡ fields_at t
  unfolding fields_at
  request_cut e = rw (sym is_x ∙ e)

  module _ (d : Part) (e : x ≡ Some d) where
    daemon_is : text_at 0 t ≡ Some d
    daemon_is = sym is_x ∙ e

    pub daemon_within : part_end d ≤ length t
    daemon_within = (text_within t 0 d daemon_is).1

    pub request_whole : (r : Option Fields) → r ≡ hosts_from d t → r ≡ fields_at t
    unfolding fields_at
    request_whole r is-r = is-r ∙ sym (rw daemon_is)

-- ## What Index reads

abbrev request_by : List ℕ → Option Fields → Option (RequestNumbers × List ℕ)
request_by s None = None
request_by s (Some f) = Some (numbers_in s f, drop f.end s)

module _ (t : List ℕ) where
  -- from the user on
  user_placed : (d : Part) (c s : HostFields)
      → (cut 1 (drop (part_end s.name) t) >>= λ u. read_text u.1 >>= λ n.
      Some (request_numbers (bytes_at t d) c.numbers (bytes_at t c.name) s.numbers (bytes_at t s.name) (number_at 0 1 u.0) n.0, n.1))
      ≡ request_by t (user_from d c s t)
  unfolding user_from
  user_placed d c s = by (leb (length t) (part_end s.name)) refl
    where
      named : (o : Option Part) → read_text (drop 1 (drop (part_end s.name) t)) ≡ text_by t o → part_end s.name < length t
          → (read_text (drop 1 (drop (part_end s.name) t)) >>= λ n.
          Some (
            request_numbers (bytes_at t d) c.numbers (bytes_at t c.name) s.numbers (bytes_at t s.name)
                (number_at 0 1 (take 1 (drop (part_end s.name) t))) n.0,
            n.1,
          ))
          ≡ request_by t (o >>= λ name. Some (fields_of d c s (get_or t (part_end s.name) 0) name))
      named None e w = rw e
      named (Some p) e w =
          rw e (ap (λ (u : ℕ). Some (
            request_numbers (bytes_at t d) c.numbers (bytes_at t c.name) s.numbers (bytes_at t s.name) u (bytes_at t p),
            drop (part_end p) t,
          ))
          (ap (from_digits 256 0) (take-take 1 1 (drop (part_end s.name) t) (omega arith)) ∙ one_byte t (part_end s.name) w))

      by : (b : Bool) → leb (length t) (part_end s.name) ≡ b
          → (cut 1 (drop (part_end s.name) t) >>= λ u. read_text u.1 >>= λ n.
          Some (request_numbers (bytes_at t d) c.numbers (bytes_at t c.name) s.numbers (bytes_at t s.name) (number_at 0 1 u.0) n.0, n.1))
          ≡ request_by t (when b then None else (text_at (part_end s.name + 1) t >>= λ name. Some (fields_of d c s (get_or t (part_end s.name) 0) name)))
      by true e =
          let k : length t ≤ part_end s.name = leb-true (length t) (part_end s.name) e in
          rw (lt-leb 1 (length (drop (part_end s.name) t)) (omega (arith, length-drop (part_end s.name) t)))
      by false e =
          let k : part_end s.name < length t = leb-false (length t) (part_end s.name) e in
          rw (le-leb 1 (length (drop (part_end s.name) t)) (omega (arith, length-drop (part_end s.name) t)))
          (named (text_at (part_end s.name + 1) t) (ap read_text (drop-drop 1 (part_end s.name) t) ∙ text_placed t (part_end s.name + 1)) k)

  abbrev rest_of : List ℕ → HostNumbers → List ℕ → HostNumbers → List ℕ → List ℕ → Option (RequestNumbers × List ℕ)
  rest_of d c cn s sn u = cut 1 u >>= λ user. read_text user.1 >>= λ n. Some (request_numbers d c cn s sn (number_at 0 1 user.0) n.0, n.1)

  server_placed : (d : Part) (c : HostFields) (o : Option HostFields) → host_at (part_end c.name) t ≡ o → part_end c.name ≤ length t
      → (read_host (drop (part_end c.name) t) >>= λ s. rest_of (bytes_at t d) c.numbers (bytes_at t c.name) s.0.0 s.0.1 s.1)
      ≡ request_by t (o >>= λ s. user_from d c s t)
  server_placed d c None e w = rw (host_placed_lem t (part_end c.name) w, e)
  server_placed d c (Some s) e w = rw (host_placed_lem t (part_end c.name) w, e) (user_placed d c s)

  client_placed : (d : Part) (o : Option HostFields) → host_at (part_end d) t ≡ o → part_end d ≤ length t
      → (read_host (drop (part_end d) t) >>= λ c. read_host c.1 >>= λ s. rest_of (bytes_at t d) c.0.0 c.0.1 s.0.0 s.0.1 s.1)
      ≡ request_by t (o >>= λ c. host_at (part_end c.name) t >>= λ s. user_from d c s t)
  client_placed d None e w = rw (host_placed_lem t (part_end d) w, e)
  client_placed d (Some c) e w =
      rw (host_placed_lem t (part_end d) w, e) (server_placed d c (host_at (part_end c.name) t) refl (host_within t (part_end d) c e))

  daemon_placed : (o : Option Part) → text_at 0 t ≡ o
      → (read_text t >>= λ d. read_host d.1 >>= λ c. read_host c.1 >>= λ s. rest_of d.0 c.0.0 c.0.1 s.0.0 s.0.1 s.1)
      ≡ request_by t (o >>= λ d. hosts_from d t)
  unfolding hosts_from
  daemon_placed None e = rw (text_placed t 0, e)
  daemon_placed (Some d) e = rw (text_placed t 0, e) (client_placed d (host_at (part_end d) t) refl (text_within t 0 d e).1)

  pub request_placed : read_request t ≡ request_by t (fields_at t)
  unfolding read_request fields_at
  request_placed = daemon_placed (text_at 0 t) refl

-- ## Where a request ends

module _ (t : List ℕ) where
  user_ends : (d : Part) (c s : HostFields) (f : Fields) → user_from d c s t ≡ Some f → (0 < f.end) × (f.end ≤ length t)
  unfolding user_from
  user_ends d c s f e = by (leb (length t) (part_end s.name)) (text_at (part_end s.name + 1) t) refl e
    where
      by : (b : Bool) (o : Option Part) → text_at (part_end s.name + 1) t ≡ o
          → (when b then None else (o >>= λ name. Some (fields_of d c s (get_or t (part_end s.name) 0) name))) ≡ Some f → (0 < f.end) × (f.end ≤ length t)
      by true o g k = let z : ◌≡◌ {A = ℕ} 0 1 = cc k in absurd (omega arith)
      by false None g k = let z : ◌≡◌ {A = ℕ} 0 1 = cc k in absurd (omega arith)
      by false (Some p) g k =
          let same : fields_of d c s (get_or t (part_end s.name) 0) p ≡ f = cc k in
          let w = text_within t (part_end s.name + 1) p g in
          subst (λ (f : Fields). (0 < f.end) × (f.end ≤ length t)) same (omega (arith, w.0), w.1)

  hosts_end : (d : Part) (f : Fields) (o : Option HostFields) → (o >>= λ c. host_at (part_end c.name) t >>= λ s. user_from d c s t) ≡ Some f
      → (0 < f.end) × (f.end ≤ length t)
  hosts_end d f None e = let z : ◌≡◌ {A = ℕ} 0 1 = cc e in absurd (omega arith)
  hosts_end d f (Some c) e = by (host_at (part_end c.name) t) e
    where
      by : (o : Option HostFields) → (o >>= λ s. user_from d c s t) ≡ Some f → (0 < f.end) × (f.end ≤ length t)
      by None k = let z : ◌≡◌ {A = ℕ} 0 1 = cc k in absurd (omega arith)
      by (Some s) k = user_ends d c s f k

  fields_end : (f : Fields) (o : Option Part) → (o >>= λ d. hosts_from d t) ≡ Some f → (0 < f.end) × (f.end ≤ length t)
  unfolding hosts_from
  fields_end f None e = let z : ◌≡◌ {A = ℕ} 0 1 = cc e in absurd (omega arith)
  fields_end f (Some d) e = hosts_end d f (host_at (part_end d) t) e

module _ (t : List ℕ) (x : Option Fields) (is_x : x ≡ fields_at t) (f : Fields) (e : x ≡ Some f) where
  fields_are : fields_at t ≡ Some f
  fields_are = sym is_x ∙ e

  ends : (0 < f.end) × (f.end ≤ length t)
  unfolding fields_at
  ends = fields_end t f (text_at 0 t) fields_are

  pub fields_within : f.end ≤ length t
  fields_within = ends.1

  pub fields_some : 0 < f.end
  fields_some = ends.0

  pub rest_shorter : length (take (length t - f.end) (drop f.end t)) < length t
  rest_shorter = omega (arith, ap length (take_rest t f.end), length-drop f.end t, fields_within, fields_some)

-- ## Requests one after the other

pub parted_empty : (k : ℕ) (t : List ℕ) → length t ≤ 0 → parted k t ≡ Some []
unfolding parted
parted_empty zero [] h = refl
parted_empty (suc k) [] h = refl
parted_empty k (x ∷ t) h = absurd (omega arith)

pub parted_none : (t : List ℕ) → 0 < length t → parted 0 t ≡ None
unfolding parted
parted_none [] h = absurd (omega arith)
parted_none (x ∷ t) h = refl

abbrev pub and_then : RequestNumbers → Option (List RequestNumbers) → Option (List RequestNumbers)
and_then n None = None
and_then n (Some ns) = Some (n ∷ ns)

parted_cons_none : (k x : ℕ) (t : List ℕ) → read_request (x ∷ t) ≡ None → parted (suc k) (x ∷ t) ≡ None
unfolding parted
parted_cons_none k x t e = rw e

parted_cons_some : (k x : ℕ) (t : List ℕ) (n : RequestNumbers) (u : List ℕ) → read_request (x ∷ t) ≡ Some (n, u)
    → parted (suc k) (x ∷ t) ≡ and_then n (parted k u)
unfolding parted
parted_cons_some k x t n u e = rw e (by (parted k u))
  where
    by : (o : Option (List RequestNumbers)) → (o >>= λ rs. Some (n ∷ rs)) ≡ and_then n o
    by None = refl
    by (Some rs) = refl

module _ (t : List ℕ) (h : 0 < length t) (k : ℕ) (x : Option Fields) (is_x : x ≡ fields_at t) where
  pub parted_cut : x ≡ None → parted (suc k) t ≡ None
  parted_cut e = by t h (request_placed t ∙ ap (request_by t) (sym is_x ∙ e))
    where
      by : (t : List ℕ) → 0 < length t → read_request t ≡ None → parted (suc k) t ≡ None
      by [] h e = absurd (omega arith)
      by (x ∷ t) h e = parted_cons_none k x t e

  pub parted_more : (f : Fields) → x ≡ Some f → parted (suc k) t ≡ and_then (numbers_in t f) (parted k (drop f.end t))
  parted_more f e = by t h (numbers_in t f) (drop f.end t) (request_placed t ∙ ap (request_by t) (fields_are t x is_x f e))
    where
      by : (t : List ℕ) → 0 < length t → (n : RequestNumbers) (u : List ℕ) → read_request t ≡ Some (n, u) → parted (suc k) t ≡ and_then n (parted k u)
      by [] h n u e = absurd (omega arith)
      by (x ∷ t) h n u e = parted_cons_some k x t n u e

-- ## The loop that counts

abbrev counted_from : ℕ → Option (List RequestNumbers) → Option ℕ
counted_from k None = None
counted_from k (Some ns) = Some (k + length ns)

counted_start : (o : Option (List RequestNumbers)) → counted_of o ≡ counted_from 0 o
counted_start None = refl
counted_start (Some ns) = let z : length ns ≡ 0 + length ns = omega arith in ap Some z

counted_more : (k : ℕ) (n : RequestNumbers) (o : Option (List RequestNumbers)) → counted_from k (and_then n o) ≡ counted_from (k + 1) o
counted_more k n None = refl
counted_more k n (Some ns) = let z : k + length (n ∷ ns) ≡ k + 1 + length ns = omega arith in ap Some z

-- k requests were counted, and rest is left
pub record Parting (bytes rest : List ℕ) (k : ℕ) : Type 0 where
  pub few : k ≤ 32
  pub same : counted_of (read_requests bytes) ≡ counted_from k (parted (32 - k) rest)

pub parting_start : (bytes : List ℕ) → Parting bytes bytes 0
unfolding read_requests
parting_start bytes = record { few = omega arith; same = counted_start (parted 32 bytes) }

module _ (bytes rest : List ℕ) (k : ℕ) (w : Parting bytes rest k) where
  pub parting_end : length rest ≤ 0 → Some k ≡ counted_of (read_requests bytes)
  parting_end h =
      let z : k ≡ k + 0 = omega arith in
      ap Some z ∙ sym (w.same ∙ ap (counted_from k) (parted_empty (32 - k) rest h))

  module _ (h : 0 < length rest) where
    pub parting_full : k ≡ 32 → None ≡ counted_of (read_requests bytes)
    parting_full e =
        let z : 32 - k ≡ 0 = omega arith in
        sym (w.same ∙ ap (λ (j : ℕ). counted_from k (parted j rest)) z ∙ ap (counted_from k) (parted_none rest h))

    module _ (n : k ≡ 32 → ⊥) (x : Option Fields) (is_x : x ≡ fields_at rest) where
      left_is : 32 - k ≡ suc (32 - (k + 1))
      left_is = omega (arith, w.few, n)

      pub parting_cut : x ≡ None → None ≡ counted_of (read_requests bytes)
      parting_cut e =
          sym (w.same ∙ ap (λ (j : ℕ). counted_from k (parted j rest)) left_is
          ∙ ap (counted_from k) (parted_cut rest h (32 - (k + 1)) x is_x e))

      pub parting_more : (f : Fields) → x ≡ Some f → Parting bytes (take (length rest - f.end) (drop f.end rest)) (k + 1)
      parting_more f e = record {
        few = omega (arith, w.few, n);
        same =
            w.same ∙ ap (λ (j : ℕ). counted_from k (parted j rest)) left_is
            ∙ ap (counted_from k) (parted_more rest h (32 - (k + 1)) x is_x f e)
            ∙ counted_more k (numbers_in rest f) (parted (32 - (k + 1)) (drop f.end rest))
            ∙ ap (λ (t : List ℕ). counted_from (k + 1) (parted (32 - (k + 1)) t)) (sym (take_rest rest f.end));
      }
