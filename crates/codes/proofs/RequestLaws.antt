-- What the tests of a number say of what it stands for, and what was read of the request and of the binds that C hands over.
-- Assumes nothing.
use Rattle.std.specs.Prelude.{Err, None, Ok, Option, Some, unwrap_or}
use Prim.Native.Nat.{ℕ, ◌+◌, ◌<◌, ◌≤◌, ◌^◌}
use native.Mathlib.Omega.{arith}
use mathlib.Core.Bool.{Bool, true, false, ◌&&◌, ◌||◌}
use mathlib.Core.List.{List, [], ◌++◌, append_assoc, append-nil}
use mathlib.Core.Path.{◌≡◌, refl, sym, ap, ◌∙◌}
use borrow.Author.Tests.{ne_eqb, lt-ltb, le-ltb, leb-true}
use lib.Dec.{leb, ltb, eqb}
use lib.ListN.{length, replicate, length-append}
use Rattle.text.specs.Basics.{when◌then◌else◌, ◌>>=◌, given, is_some, each}
use Rattle.text.specs.Text.{in_range}
use Rattle.text.specs.Scan.{after}
use Rattle.text.proofs.BasicLaws.{and_true}
use Rattle.section.specs.declared.Fault.TheVariants as F
use Rattle.section.specs.Refusal.{Outcome, placeless, fitting}
use Rattle.section.proofs.PartLaws.{part_in}
use Rattle.address.specs.declared.Addr.{Addr}
use Rattle.address.specs.declared.Addr.TheVariants as A
use Rattle.patterns.specs.declared.Host.{Host}
use Rattle.patterns.specs.Host.{Endpoint, endpoint, name_case}
use Rattle.elements.specs.Request.{Request, request_of, well_formed}
use Rattle.elements.specs.declared.request.Request.{Request as Places}
use Rattle.elements.specs.Places.{request_at}
use Rattle.patterns.specs.declared.Name.{Name}
use Rattle.patterns.specs.declared.Name.TheVariants as N
use Rattle.elements.specs.declared.User.{User}
use Rattle.elements.specs.declared.User.TheVariants as U
use Rattle.byuid.specs.declared.Mark.{Mark}
use Rattle.byuid.specs.declared.Mark.TheVariants.{Plain, Marked}
use Rattle.byuid.specs.Byuid as Byuid
use Rattle.byuid.specs.Byuid.{address_known}
use Rattle.authbind.specs.declared.Access.{Access}
use Rattle.authbind.specs.Authbind.{access_of, asked, asking, next_step}
use Rattle.portacl.specs.declared.Protocol.{Protocol}
use Rattle.portacl.specs.declared.Protocol.TheVariants.{Tcp, Udp}
use Rattle.portacl.specs.Portacl as Portacl
use Rattle.portacl.specs.Portacl.{groups_fit}
use Rattle.codes.specs.declared.request.HostNumbers.{HostNumbers}
use Rattle.codes.specs.declared.request.States.{States}
use Rattle.codes.specs.declared.request.Target.{Target}
use Rattle.codes.specs.Requests.{name_state, user_state, address_of, protocol_of, mark_of, is_port, request_numbers, request, known_name, known_user}
use Rattle.codes.specs.Requests.{host_by, byuid_bind, byuid_file_bind, authbind_asked, portacl_bind}
use Rattle.codes.specs.Code.{name_by, user_by, addr_by, protocol_by, mark_by, host_fits, host_taken, numbers_fit, states_of, with_names}
use Rattle.codes.specs.Code.{placed, unfit, port_by, address_by, address_from, target_of}

-- ## Whether a number is of its kinds

some_given : {X : Type 0} (b : Bool) (x : X) → b ≡ is_some (given b x)
some_given true x = refl
some_given false x = refl

some_two : {X : Type 0} (a b : Bool) (x y : X) → (a || b) ≡ is_some (when a then Some x else given b y)
some_two true b x y = refl
some_two false b x y = some_given b y

some_three : {X : Type 0} (a b c : Bool) (x y z : X) → ((a || b) || c) ≡ is_some (when a then Some x else when b then Some y else given c z)
some_three true b c x y z = refl
some_three false b c x y z = some_two b c y z

pub name_fits_lem : (n : ℕ) → ((eqb n 0 || eqb n 1) || eqb n 2) ≡ is_some (name_state n)
unfolding name_state
name_fits_lem n = some_three (eqb n 0) (eqb n 1) (eqb n 2) N.Unknown N.Paranoid N.Known

pub user_fits_lem : (n : ℕ) → ((eqb n 0 || eqb n 1) || eqb n 2) ≡ is_some (user_state n)
unfolding user_state
user_fits_lem n = some_three (eqb n 0) (eqb n 1) (eqb n 2) U.NotFetched U.Unknown U.Known

pub protocol_fits : (n : ℕ) → (eqb n 6 || eqb n 17) ≡ is_some (protocol_of n)
unfolding protocol_of
protocol_fits n = some_two (eqb n 6) (eqb n 17) Tcp Udp

pub mark_fits : (n : ℕ) → (eqb n 0 || eqb n 1) ≡ is_some (mark_of n)
unfolding mark_of
mark_fits n = some_two (eqb n 0) (eqb n 1) Plain Marked

module _ (kind high low : ℕ) where
  pub v4_fits : kind ≡ 4 → ltb low (2 ^ 32) ≡ is_some (address_of kind high low)
  unfolding address_of
  v4_fits e = rw e (some_given (ltb low (2 ^ 32)) (A.V4 low))

  pub other_fits : (kind ≡ 4 → ⊥) → (eqb kind 0 || eqb kind 6) ≡ is_some (address_of kind high low)
  unfolding address_of
  other_fits h = rw (ne_eqb kind 4 h) (some_two (eqb kind 0) (eqb kind 6) A.Unknown (A.V6 high low))

-- ## What it stands for

first_else : {X : Type 0} (b : Bool) (x : X) → x ≡ unwrap_or (when b then Some x else None) x
first_else true x = refl
first_else false x = refl

pub name_paranoid : (n : ℕ) → n ≡ 1 → N.Paranoid ≡ name_by n
unfolding name_state
name_paranoid n e = rw e

pub name_known_lem : (n : ℕ) → n ≡ 2 → N.Known ≡ name_by n
unfolding name_state
name_known_lem n e = rw e

pub name_else : (n : ℕ) → (n ≡ 1 → ⊥) → (n ≡ 2 → ⊥) → N.Unknown ≡ name_by n
unfolding name_state
name_else n h k = rw (ne_eqb n 1 h, ne_eqb n 2 k) (first_else (eqb n 0) N.Unknown)

pub user_not_fetched : (n : ℕ) → n ≡ 0 → U.NotFetched ≡ user_by n
unfolding user_state
user_not_fetched n e = rw e

pub user_known_lem : (n : ℕ) → n ≡ 2 → U.Known ≡ user_by n
unfolding user_state
user_known_lem n e = rw e

pub user_else : (n : ℕ) → (n ≡ 0 → ⊥) → (n ≡ 2 → ⊥) → U.Unknown ≡ user_by n
unfolding user_state
user_else n h k = rw (ne_eqb n 0 h, ne_eqb n 2 k) (first_else (eqb n 1) U.Unknown)

pub protocol_udp : (n : ℕ) → n ≡ 17 → Udp ≡ protocol_by n
unfolding protocol_of
protocol_udp n e = rw e

pub protocol_else : (n : ℕ) → (n ≡ 17 → ⊥) → Tcp ≡ protocol_by n
unfolding protocol_of
protocol_else n h = rw (ne_eqb n 17 h) (first_else (eqb n 6) Tcp)

pub mark_marked : (n : ℕ) → n ≡ 1 → Marked ≡ mark_by n
unfolding mark_of
mark_marked n e = rw e

pub mark_else : (n : ℕ) → (n ≡ 1 → ⊥) → Plain ≡ mark_by n
unfolding mark_of
mark_else n h = rw (ne_eqb n 1 h) (first_else (eqb n 0) Plain)

module _ (kind high low : ℕ) where
  pub address_v4 : kind ≡ 4 → low < 2 ^ 32 → A.V4 low ≡ addr_by kind high low
  unfolding address_of
  address_v4 e h = rw (e, lt-ltb low (2 ^ 32) h)

  pub address_over : kind ≡ 4 → 2 ^ 32 ≤ low → A.Unknown ≡ addr_by kind high low
  unfolding address_of
  address_over e h = rw (e, le-ltb low (2 ^ 32) h)

  pub address_v6 : kind ≡ 6 → A.V6 high low ≡ addr_by kind high low
  unfolding address_of
  address_v6 e = rw e

  pub address_else : (kind ≡ 4 → ⊥) → (kind ≡ 6 → ⊥) → A.Unknown ≡ addr_by kind high low
  unfolding address_of
  address_else h k = rw (ne_eqb kind 4 h, ne_eqb kind 6 k) (first_else (eqb kind 0) A.Unknown)

module _ (mark port kind high low : ℕ) (b : Bool) (is_b : b ≡ is_some (mark_of mark)) where
  pub address_marked : b ≡ true → (a : Addr) → a ≡ address_by port kind high low → a ≡ address_from mark port kind high low
  unfolding address_from
  address_marked e a is-a = is-a ∙ rw (← is_b, e)

  pub address_unmarked : b ≡ false → A.Unknown ≡ address_from mark port kind high low
  unfolding address_from
  address_unmarked e = rw (← is_b, e)

-- ## What the calls read, together

module _ (h : HostNumbers) where
  pub host_fits_lem : (n : Bool) → n ≡ is_some (name_state h.state) → (a : Bool) → a ≡ is_some (address_of h.kind h.high h.low)
      → (n && a) ≡ host_fits h
  host_fits_lem n is-n a is-a = rw (is-n, is-a)

  pub host_read : (n : Name) → n ≡ name_by h.state → (a : Addr) → a ≡ addr_by h.kind h.high h.low
      → ◌≡◌ {A = Host} (record { name = n; addr = a }) (host_taken h)
  host_read n is-n a is-a = rw (is-n, is-a)

module _ (client server : HostNumbers) (user : ℕ) where
  pub numbers_fit_lem : (c : Bool) → c ≡ host_fits client → (s : Bool) → s ≡ host_fits server → (u : Bool) → u ≡ is_some (user_state user)
      → (c && s && u) ≡ numbers_fit client server user
  unfolding numbers_fit
  numbers_fit_lem c is_c s is-s u is-u = rw (is_c, is-s, is-u)

  pub states_read : (f : Bool) → f ≡ numbers_fit client server user → (c : Host) → c ≡ host_taken client → (s : Host) → s ≡ host_taken server
      → (u : User) → u ≡ user_by user
      → ◌≡◌ {A = States} (record { fit = f; client = c; server = s; user = u }) (states_of client server user)
  states_read f is_f c is_c s is-s u is-u = rw (is_f, is_c, is-s, is-u)

pub target_read : (protocol port : ℕ) (f : Bool) → f ≡ is_some (protocol_of protocol) → (p : Protocol) → p ≡ protocol_by protocol → (n : ℕ) → n ≡ port_by port
    → ◌≡◌ {A = Target} (record { fit = f && ltb port (2 ^ 16); protocol = p; port = n }) (target_of protocol port)
target_read protocol port f is_f p is-p n is-n = rw (is_f, is-p, is-n)

-- ## Names in a block

module _ (d o s1 s2 s3 s4 : List ℕ) (w : o ≡ after (((s1 ++ s2) ++ s3) ++ s4) d) (client server : Host) (user : User) where
  pub four_placed : request_at o (placed (length s1) client (length s2) server (length s3) user (length s4))
      ≡ request_of s1 (endpoint client s2) (endpoint server s3) user s4
  four_placed =
      rw (
        part_in [] s1 (s2 ++ (s3 ++ s4)) d o 0 (length s1) (w ∙ simp append_assoc) refl refl,
        part_in s1 s2 (s3 ++ s4) d o (length s1) (length s2) (w ∙ simp append_assoc) refl refl,
        part_in (s1 ++ s2) s3 s4 d o (length s1 + length s2) (length s3) (w ∙ simp append_assoc) (sym (length-append s1 s2)) refl,
        part_in ((s1 ++ s2) ++ s3) s4 [] d o (length s1 + length s2 + length s3) (length s4) (w ∙ rw (append-nil s4))
            (omega (arith, length-append s1 s2, length-append (s1 ++ s2) s3)) refl,
      )

unfit_refused : (o : List ℕ) → fitting well_formed (Some (request_at o unfit)) Ok ≡ Err (placeless F.BadRequest)
unfolding well_formed
unfit_refused o = refl

-- ## The request

abbrev endpoint_by : Option Name → Option Addr → List ℕ → Option Endpoint
endpoint_by n a name = n >>= λ x. a >>= λ y. Some (endpoint (record { name = x; addr = y }) (known_name x name))

abbrev endpoint_taken : Option Name → Option Addr → List ℕ → Endpoint
endpoint_taken n a name = endpoint (record { name = unwrap_or n N.Unknown; addr = unwrap_or a A.Unknown }) (known_name (unwrap_or n N.Unknown) name)

-- what was taken for the numbers makes the request, where every number is of its kinds
module _ (d cn sn un : List ℕ) (client server : HostNumbers) (user : ℕ) where
  pub request_taken : request (request_numbers d client cn server sn user un)
      ≡ given (states_of client server user).fit (with_names (states_of client server user) d cn sn un)
  unfolding request host_by numbers_fit
  request_taken =
      by (name_state client.state) (address_of client.kind client.high client.low)
      (name_state server.state) (address_of server.kind server.high server.low) (user_state user)
    where
      by : (n : Option Name) (a : Option Addr) (m : Option Name) (b : Option Addr) (u : Option User)
          → (endpoint_by n a cn >>= λ c. endpoint_by m b sn >>= λ s. u >>= λ x. Some (request_of d c s x (known_user x un)))
          ≡ given ((is_some n && is_some a) && (is_some m && is_some b) && is_some u)
          (request_of d (endpoint_taken n a cn) (endpoint_taken m b sn) (unwrap_or u U.Unknown) (known_user (unwrap_or u U.Unknown) un))
      by None a m b u = refl
      by (Some x) None m b u = refl
      by (Some x) (Some y) None b u = refl
      by (Some x) (Some y) (Some z) None u = refl
      by (Some x) (Some y) (Some z) (Some w) None = refl
      by (Some x) (Some y) (Some z) (Some w) (Some v) = refl

  pub read_gathered : (x : States) → x ≡ states_of client server user → (o : List ℕ) (q : Places)
      → fitting well_formed (Some (request_at o q)) Ok ≡ fitting well_formed (given x.fit (with_names x d cn sn un)) Ok
      → fitting well_formed (Some (request_at o q)) Ok ≡ fitting well_formed (request (request_numbers d client cn server sn user un)) Ok
  read_gathered x is_x o q e =
      e ∙ ap (λ (y : States). fitting well_formed (given y.fit (with_names y d cn sn un)) Ok) is_x
      ∙ ap (λ (r : Option Request). fitting well_formed r Ok) (sym request_taken)

-- a name that is known is within its size, and one that is not is left out
name_length : (n : Name) (a : Addr) (t name : List ℕ) → t ≡ known_name n name
    → name_case (endpoint (record { name = n; addr = a }) t) true true (in_range 1 255 (length t)) ≡ true → length t ≤ 255
name_length N.Unknown a t name e h = rw e (omega arith)
name_length N.Paranoid a t name e h = rw e (omega arith)
name_length N.Known a t name e h = leb-true (length t) 255 (and_true (leb 1 (length t)) (leb (length t) 255) h).1

user_length : (v : User) (t name : List ℕ) → t ≡ known_user v name → elim v [ U.NotFetched ↦ true | U.Unknown ↦ true | U.Known ↦ in_range 1 64 (length t) ] ≡ true
    → length t ≤ 64
user_length U.NotFetched t name e h = rw e (omega arith)
user_length U.Unknown t name e h = rw e (omega arith)
user_length U.Known t name e h = leb-true (length t) 64 (and_true (leb 1 (length t)) (leb (length t) 64) h).1

module _ (x : States) (d cn sn un c s u : List ℕ) (is_c : c ≡ known_name x.client.name cn) (is-s : s ≡ known_name x.server.name sn)
    (is-u : u ≡ known_user x.user un) (b : Bool) (is_b : b ≡ well_formed (request_of d (endpoint x.client c) (endpoint x.server s) x.user u)) where
  names_are : request_of d (endpoint x.client c) (endpoint x.server s) x.user u ≡ with_names x d cn sn un
  names_are = rw (is_c, is-s, is-u)

  module _ (fits : (x.fit && b) ≡ true) where
    fit : x.fit ≡ true
    fit = (and_true x.fit b fits).0

    sized : well_formed (request_of d (endpoint x.client c) (endpoint x.server s) x.user u) ≡ true
    sized = sym is_b ∙ (and_true x.fit b fits).1

    -- four names within their sizes are within a block of the most that they have together
    pub gathered_room : length d + length c + length s + length u ≤ 638
    unfolding well_formed
    gathered_room =
        let e3 = and_true
        (in_range 1 64 (length d) && name_case (endpoint x.client c) true true (in_range 1 255 (length c)) && name_case (endpoint x.server s) true true
        (in_range 1 255 (length s)))
        (elim x.user [ U.NotFetched ↦ true | U.Unknown ↦ true | U.Known ↦ in_range 1 64 (length u) ]) sized in
        let e2 = and_true (in_range 1 64 (length d) && name_case (endpoint x.client c) true true (in_range 1 255 (length c)))
        (name_case (endpoint x.server s) true true (in_range 1 255 (length s))) e3.0 in
        let e1 = and_true (in_range 1 64 (length d)) (name_case (endpoint x.client c) true true (in_range 1 255 (length c))) e2.0 in
        let hd : length d ≤ 64 = leb-true (length d) 64 (and_true (leb 1 (length d)) (leb (length d) 64) e1.0).1 in
        let hc : length c ≤ 255 = name_length x.client.name x.client.addr c cn is_c e1.1 in
        let hs : length s ≤ 255 = name_length x.server.name x.server.addr s sn is-s e2.1 in
        let hu : length u ≤ 64 = user_length x.user u un is-u e3.1 in
        omega (arith, hd, hc, hs, hu)

    pub gathered_within : (names : List ℕ) → 638 ≤ length names → length d + length c + length s + length u ≤ length names
    gathered_within names h = omega (arith, gathered_room, h)

    pub gathered_fits : (names o : List ℕ) → o ≡ after (((d ++ c) ++ s) ++ u) names → (q : Places)
        → q ≡ placed (length d) x.client (length c) x.server (length s) x.user (length u)
        → fitting well_formed (Some (request_at o q)) Ok ≡ fitting well_formed (given x.fit (with_names x d cn sn un)) Ok
    gathered_fits names o is-o q is-q =
        ap (λ (r : Request). fitting well_formed (Some r) Ok)
        (ap (request_at o) is-q ∙ four_placed names o d c s u is-o x.client x.server x.user ∙ names_are)
        ∙ ap (λ (y : Bool). fitting well_formed (given y (with_names x d cn sn un)) Ok) (sym fit)

  pub gathered_unfit : (x.fit && b) ≡ false → (o : List ℕ) (q : Places) → q ≡ unfit
      → fitting well_formed (Some (request_at o q)) Ok ≡ fitting well_formed (given x.fit (with_names x d cn sn un)) Ok
  gathered_unfit e o q is-q =
      ap (λ (p : Places). fitting well_formed (Some (request_at o p)) Ok) is-q ∙ unfit_refused o
      ∙ by x.fit b is_b e
    where
      by : (y z : Bool) → z ≡ well_formed (request_of d (endpoint x.client c) (endpoint x.server s) x.user u) → (y && z) ≡ false
          → Err (placeless F.BadRequest) ≡ fitting well_formed (given y (with_names x d cn sn un)) Ok
      by false z is-z k = refl
      by true z is-z k = rw (← names_are, ← is-z, k)

-- ## Binds

module _ (port kind high low uid p : ℕ) (is-p : p ≡ port_by port) {B : Type 0} (f : Byuid.FileBind → Outcome B) where
  pub byuid_read : (m : Mark) (a : Addr) → a ≡ address_by port kind high low
      → fitting address_known (Some (Byuid.file_bind m (Byuid.bind p a uid))) f ≡ fitting address_known (Byuid.from_file m (byuid_bind port kind high low uid)) f
  unfolding port_by address_by byuid_bind
  byuid_read m a is-a = rw (is-p, is-a) (by (is_port port) (address_of kind high low))
    where
      by : (b : Bool) (o : Option Addr)
          → fitting address_known (Some (Byuid.file_bind m (Byuid.bind (when b then port else 0) (when b then unwrap_or o A.Unknown else A.Unknown) uid))) f
          ≡ fitting address_known (Byuid.from_file m (o >>= λ x. given b (Byuid.bind port x uid))) f
      by true None = refl
      by true (Some x) = refl
      by false None = refl
      by false (Some x) = refl

  -- an unknown address, taken for a mark outside its kinds, is refused as the mark is
  pub byuid_file_read : (mark : ℕ) (m : Mark) → m ≡ mark_by mark → (a : Addr) → a ≡ address_from mark port kind high low
      → fitting address_known (Some (Byuid.file_bind m (Byuid.bind p a uid))) f ≡ fitting address_known (byuid_file_bind mark port kind high low uid) f
  unfolding address_from byuid_file_bind
  byuid_file_read mark m is_m a is-a = rw (is_m, is-a) (by (mark_of mark))
    where
      by : (o : Option Mark)
          → fitting address_known
          (Some (Byuid.file_bind (unwrap_or o Plain) (Byuid.bind p (when is_some o then address_by port kind high low else A.Unknown) uid))) f
          ≡ fitting address_known (o >>= λ x. Byuid.from_file x (byuid_bind port kind high low uid)) f
      by None = refl
      by (Some x) = byuid_read x (address_by port kind high low) refl

-- the same with the answers of access tests
no_bind : (room : ℕ) → next_step None room ≡ Err (placeless F.BadRequest)
unfolding next_step
no_bind room = refl

module _ (port kind high low uid p : ℕ) (is-p : p ≡ port_by port) (answers : List ℕ) (room : ℕ) where
  unknown_refused : (q : ℕ) → next_step (asking answers (Byuid.bind q A.Unknown uid)) room ≡ Err (placeless F.BadRequest)
  unfolding next_step
  unknown_refused q = by (each access_of answers)
    where
      by : (o : Option (List Access)) → next_step (o >>= λ xs. Some (asked (Byuid.bind q A.Unknown uid) xs)) room ≡ Err (placeless F.BadRequest)
      by None = refl
      by (Some xs) = refl

  pub authbind_read : (a : Addr) → a ≡ address_by port kind high low
      → next_step (asking answers (Byuid.bind p a uid)) room ≡ next_step (authbind_asked port kind high low uid answers) room
  unfolding port_by address_by byuid_bind authbind_asked
  authbind_read a is-a = rw (is-p, is-a) (by (is_port port) (address_of kind high low))
    where
      refuses : next_step None room ≡ Err (placeless F.BadRequest)
      refuses = no_bind room

      by : (b : Bool) (o : Option Addr)
          → next_step (asking answers (Byuid.bind (when b then port else 0) (when b then unwrap_or o A.Unknown else A.Unknown) uid)) room
          ≡ next_step ((o >>= λ x. given b (Byuid.bind port x uid)) >>= asking answers) room
      by true None = unknown_refused port ∙ sym refuses
      by true (Some x) = refl
      by false None = unknown_refused 0 ∙ sym refuses
      by false (Some x) = unknown_refused 0 ∙ sym refuses

module _ (uid protocol port : ℕ) (groups groups' : List ℕ) (x : Target) (is_x : x ≡ target_of protocol port)
    (is-groups : groups' ≡ (when x.fit then groups else replicate 17 0)) where
  pub portacl_read : {B : Type 0} (f : Portacl.Bind → Outcome B)
      → fitting groups_fit (Some (Portacl.bind uid groups' x.protocol x.port)) f ≡ fitting groups_fit (portacl_bind uid groups protocol port) f
  unfolding port_by portacl_bind
  portacl_read f = rw (is-groups, is_x) (by (protocol_of protocol) (is_port port))
    where
      by : (o : Option Protocol) (b : Bool)
          → fitting groups_fit (Some (Portacl.bind uid (when is_some o && b then groups else replicate 17 0) (unwrap_or o Tcp) (when b then port else 0))) f
          ≡ fitting groups_fit (o >>= λ q. given b (Portacl.bind uid groups q port)) f
      by None b = refl
      by (Some q) true = refl
      by (Some q) false = refl
