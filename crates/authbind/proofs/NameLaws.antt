-- Laws of the names: their parts one after the other, how long they are, and which test has which.
-- Assumes nothing.
use Rattle.std.specs.Prelude.{Err, Ok}
use Prim.Native.Nat.{ℕ, zero, suc, ◌+◌, ◌*◌, ◌^◌, ◌<◌, ◌≤◌}
use mathlib.Core.Bool.{Bool, true, false, not}
use mathlib.Core.List.{List, [], ◌++◌}
use mathlib.Core.Path.{◌≡◌, refl, ap, ◌∙◌}
use native.Mathlib.Omega.{arith}
use borrow.Author.Tests.{lt-ltb, le-ltb, eq-eqb, ne_eqb}
use lib.ListN.{length, take, drop, get_or, length-append}
use lib.Seq.{take-length, take-paste}
use Rattle.text.specs.Basics.{when◌then◌else◌}
use Rattle.text.specs.Text.{bytes, equal, in_range}
use Rattle.text.specs.Number.{to_digits, decimal}
use Rattle.text.specs.Scan.{put_at, after}
use Rattle.text.proofs.Digits.{length_to_digits}
use Rattle.text.proofs.Numeral.{length_numeral}
use Rattle.text.proofs.PasteLaws.{length_put_at, put_first}
use Rattle.section.specs.declared.Fault.TheVariants as F
use Rattle.section.specs.declared.Refusal.{Refusal}
use Rattle.section.specs.Refusal.{placeless, within_room, written_of, lent_after}
use Rattle.address.specs.declared.Addr.{Addr}
use Rattle.address.specs.declared.Addr.TheVariants as A
use Rattle.address.specs.Address.{hex_groups, text_v4, text_v6, addr_text}
use Rattle.address_format.proofs.WriteLaws.{length_addr_text, length_hex_groups, addr_text_v4}
use Rattle.address_format.proofs.WriteText.{Wrote, wrote_nil, front_room, rest_room, rest_all, second_room, third_room, third_all}
use Rattle.authbind.specs.declared.File.{File}
use Rattle.authbind.specs.Authbind.{unabbreviated, tests, by_uid}
use Rattle.authbind.specs.Code.{count_tests, file_of, folder_of, mark_for, third_text, address_in, number_in, name_for}

-- ## Which test has which name

pub file_port : (k : ℕ) → k ≡ 0 → File.Port ≡ file_of k
file_port k e = rw (eq-eqb k 0 e)

pub file_address : (k : ℕ) → (k ≡ 0 → ⊥) → k ≡ 1 → File.Address ≡ file_of k
file_address k n e = rw (ne_eqb k 0 n, eq-eqb k 1 e)

pub file_third : (k : ℕ) → (k ≡ 0 → ⊥) → (k ≡ 1 → ⊥) → File.Third ≡ file_of k
file_third k n m = rw (ne_eqb k 0 n, ne_eqb k 1 m)

module _ (p uid : ℕ) where
  third_name : (a : Addr) (k : ℕ) → suc (suc k) < length (tests p a) → get_or (tests p a) (suc (suc k)) [] ≡ name_for File.Third p a uid
  unfolding tests name_for address_in third_text
  third_name A.Unknown k h = absurd (omega arith)
  third_name (A.V4 n) zero h = refl
  third_name (A.V4 n) (suc k) h = absurd (omega arith)
  third_name (A.V6 high low) k h = by (equal (text_v6 (high * 2 ^ 64 + low)) (unabbreviated (high * 2 ^ 64 + low))) k refl h
    where
      by : (t : Bool) (k : ℕ) → equal (text_v6 (high * 2 ^ 64 + low)) (unabbreviated (high * 2 ^ 64 + low)) ≡ t
          → suc (suc k) < length (tests p (A.V6 high low)) → get_or (tests p (A.V6 high low)) (suc (suc k)) [] ≡ name_for File.Third p (A.V6 high low) uid
      by true k e h = absurd (omega (arith, rw e at h))
      by false zero e h = rw e
      by false (suc k) e h = absurd (omega (arith, rw e at h))

  pub test_name : (a : Addr) (k : ℕ) → k < length (tests p a) → get_or (tests p a) k [] ≡ name_for (file_of k) p a uid
  unfolding tests name_for address_in
  test_name a zero h = refl
  test_name a (suc zero) h = refl
  test_name a (suc (suc k)) h = rw (← (file_third (suc (suc k)) (λ e. omega (arith, e)) (λ e. omega (arith, e)))) (third_name a k h)

  pub byuid_name : (a : Addr) → by_uid p uid ≡ name_for File.Uid p a uid
  unfolding name_for address_in
  byuid_name a = refl

pub count_tests_lem : (p : ℕ) (a : Addr) → count_tests a ≡ length (tests p a)
unfolding tests
count_tests_lem p A.Unknown = refl
count_tests_lem p (A.V4 n) = refl
count_tests_lem p (A.V6 high low) = by (equal (text_v6 (high * 2 ^ 64 + low)) (unabbreviated (high * 2 ^ 64 + low))) refl
  where
    by : (t : Bool) → equal (text_v6 (high * 2 ^ 64 + low)) (unabbreviated (high * 2 ^ 64 + low)) ≡ t
        → count_tests (A.V6 high low) ≡ length (tests p (A.V6 high low))
    by true e = rw e
    by false e = rw e

module _ (a : Addr) (high low : ℕ) (e : a ≡ A.V6 high low) (x : Bool)
    (is_x : x ≡ not (equal (text_v6 (high * 2 ^ 64 + low)) (unabbreviated (high * 2 ^ 64 + low)))) where
  pub three_tests : x ≡ true → 3 ≡ count_tests a
  three_tests t = rw (e, ← is_x, t)

  pub two_tests : x ≡ false → 2 ≡ count_tests a
  two_tests t = rw (e, ← is_x, t)

-- ## How long a name can be

length_folder : (f : File) → length (folder_of f) ≤ 21
length_folder File.Port = omega arith
length_folder File.Address = omega arith
length_folder File.Third = omega arith
length_folder File.Uid = omega arith

length_mark : (p : ℕ) → length (mark_for p) ≤ 1
length_mark p = by (in_range 512 1023 p)
  where
    by : (t : Bool) → length (when t then bytes "!" else []) ≤ 1
    by true = omega arith
    by false = omega arith

length_third : (a : Addr) → length (third_text a) ≤ 40
unfolding third_text addr_text
length_third A.Unknown = omega arith
length_third (A.V4 n) = rw (length-append (text_v4 n) (bytes ":")) (omega (arith, length_addr_text (A.V4 n)))
length_third (A.V6 high low) =
    let gs = to_digits 65536 8 (high * 2 ^ 64 + low) in
    rw (length-append (hex_groups gs) (bytes ",")) (omega (arith, length_hex_groups gs, length_to_digits 65536 8 (high * 2 ^ 64 + low)))

length_address : (f : File) (a : Addr) → length (address_in f a) ≤ 40
unfolding address_in
length_address File.Port a = omega arith
length_address File.Address a = rw (length-append (addr_text a) (bytes ",")) (omega (arith, length_addr_text a))
length_address File.Third a = length_third a
length_address File.Uid a = omega arith

pub length_name : (f : File) (p : ℕ) (a : Addr) (uid : ℕ) → length (name_for f p a uid) ≤ 72
unfolding name_for
length_name f p a uid =
    rw (
      length-append (folder_of f) (mark_for p ++ (address_in f a ++ decimal (number_in f p uid))),
      length-append (mark_for p) (address_in f a ++ decimal (number_in f p uid)),
      length-append (address_in f a) (decimal (number_in f p uid)),
    )
    (omega (arith, length_folder f, length_mark p, length_address f a, (length_numeral 10 10 (number_in f p uid)).0))

-- ## The parts of a name, one after the other

module _ (f : File) (d : List ℕ) (room : 0 + length (folder_of f) ≤ length d) where
  pub port_room : f ≡ File.Port → 0 + 21 ≤ length d
  port_room e = rw e at room

  pub address_room : f ≡ File.Address → 0 + 21 ≤ length d
  address_room e = rw e at room

  pub third_test_room : f ≡ File.Third → 0 + 21 ≤ length d
  third_test_room e = rw e at room

  pub uid_room : f ≡ File.Uid → 0 + 20 ≤ length d
  uid_room e = rw e at room

module _ (f : File) (d o : List ℕ) (m : ℕ) where
  pub port_folder : f ≡ File.Port → Wrote d o (bytes "/etc/authbind/byport/") 0 m → Wrote d o (folder_of f) 0 m
  port_folder e w = rw e w

  pub address_folder : f ≡ File.Address → Wrote d o (bytes "/etc/authbind/byaddr/") 0 m → Wrote d o (folder_of f) 0 m
  address_folder e w = rw e w

  pub third_folder : f ≡ File.Third → Wrote d o (bytes "/etc/authbind/byaddr/") 0 m → Wrote d o (folder_of f) 0 m
  third_folder e w = rw e w

  pub uid_folder : f ≡ File.Uid → Wrote d o (bytes "/etc/authbind/byuid/") 0 m → Wrote d o (folder_of f) 0 m
  uid_folder e w = rw e w

module _ (d : List ℕ) (p at : ℕ) where
  pub mark_room : in_range 512 1023 p ≡ true → at + length (mark_for p) ≤ length d → at + 1 ≤ length d
  mark_room e room = rw e at room

  pub marked : in_range 512 1023 p ≡ true → (o : List ℕ) (m : ℕ) → Wrote d o (bytes "!") at m → Wrote d o (mark_for p) at m
  marked e o m w = rw e w

  pub unmarked : in_range 512 1023 p ≡ false → Wrote d d (mark_for p) at at
  unmarked e = rw e (wrote_nil d at)

-- a text, and the mark behind it
module _ (d t s u : List ℕ) (at : ℕ) (whole : t ≡ s ++ u) (room : at + length t ≤ length d) where
  pub text_room : at + length s ≤ length d
  text_room = front_room d t s u at whole room

  module _ (o : List ℕ) (m : ℕ) (w : Wrote d o s at m) where
    pub behind_room : m + length u ≤ length o
    behind_room = rest_room d t s u at whole room o m w

    pub text_all : (q : List ℕ) (k : ℕ) → Wrote o q u m k → Wrote d q t at k
    text_all q k v = rest_all d t s u at whole room o m w q k v

pub third_v4 : (a : Addr) (n : ℕ) → a ≡ A.V4 n → third_text a ≡ addr_text a ++ bytes ":"
unfolding third_text
third_v4 a n e = rw (addr_text_v4 a n e) (rw e)

pub third_v6 : (a : Addr) (high low : ℕ) → a ≡ A.V6 high low → third_text a ≡ unabbreviated (high * 2 ^ 64 + low) ++ bytes ","
unfolding third_text
third_v6 a high low e = rw e

pub third_none : (a : Addr) → a ≡ A.Unknown → (d : List ℕ) (at : ℕ) → Wrote d d (third_text a) at at
unfolding third_text
third_none a e d at = rw e (wrote_nil d at)

pub in_address : (f : File) (a : Addr) → f ≡ File.Address → address_in f a ≡ addr_text a ++ bytes ","
unfolding address_in
in_address f a e = rw e

pub address_in_room : (f : File) (a : Addr) (d : List ℕ) (at : ℕ) → f ≡ File.Address → at + length (address_in f a) ≤ length d
    → at + length (addr_text a) ≤ length d
unfolding address_in
address_in_room f a d at e room = front_room d (address_in f a) (addr_text a) (bytes ",") at (rw e) room

module _ (f : File) (a : Addr) (d : List ℕ) (at : ℕ) (e : f ≡ File.Third) where
  pub third_in_room : at + length (address_in f a) ≤ length d → at + length (third_text a) ≤ length d
  unfolding address_in
  third_in_room room = rw e at room

  pub third_in : (o : List ℕ) (m : ℕ) → Wrote d o (third_text a) at m → Wrote d o (address_in f a) at m
  unfolding address_in
  third_in o m w = rw e w

pub in_port : (f : File) (a : Addr) → f ≡ File.Port → (d : List ℕ) (at : ℕ) → Wrote d d (address_in f a) at at
unfolding address_in
in_port f a e d at = rw e (wrote_nil d at)

pub in_uid : (f : File) (a : Addr) → f ≡ File.Uid → (d : List ℕ) (at : ℕ) → Wrote d d (address_in f a) at at
unfolding address_in
in_uid f a e d at = rw e (wrote_nil d at)

-- the four parts
module _ (d : List ℕ) (f : File) (p : ℕ) (a : Addr) (uid : ℕ) (room : 0 + length (name_for f p a uid) ≤ length d) where
  abbrev rest : List ℕ
  rest = address_in f a ++ decimal (number_in f p uid)

  whole : name_for f p a uid ≡ folder_of f ++ (mark_for p ++ rest)
  unfolding name_for
  whole = refl

  pub name_room : 0 + length (folder_of f) ≤ length d
  name_room = front_room d (name_for f p a uid) (folder_of f) (mark_for p ++ rest) 0 whole room

  module _ (o : List ℕ) (m : ℕ) (w : Wrote d o (folder_of f) 0 m) where
    pub name_room_2 : m + length (mark_for p) ≤ length o
    name_room_2 = second_room d (name_for f p a uid) (folder_of f) (mark_for p) rest 0 whole room o m w

    module _ (o2 : List ℕ) (m2 : ℕ) (w2 : Wrote o o2 (mark_for p) m m2) where
      left : m2 + length rest ≤ length o2
      left = third_room d (name_for f p a uid) (folder_of f) (mark_for p) rest 0 whole room o m w o2 m2 w2

      pub name_room_3 : m2 + length (address_in f a) ≤ length o2
      name_room_3 = front_room o2 rest (address_in f a) (decimal (number_in f p uid)) m2 refl left

      module _ (o3 : List ℕ) (m3 : ℕ) (w3 : Wrote o2 o3 (address_in f a) m2 m3) (n : ℕ) (is-n : n ≡ number_in f p uid) where
        pub name_room_4 : m3 + length (decimal n) ≤ length o3
        name_room_4 = rw is-n (rest_room o2 rest (address_in f a) (decimal (number_in f p uid)) m2 refl left o3 m3 w3)

        pub name_all : (o4 : List ℕ) (m4 : ℕ) → Wrote o3 o4 (decimal n) m3 m4 → Wrote d o4 (name_for f p a uid) 0 m4
        name_all o4 m4 w4 =
            third_all d (name_for f p a uid) (folder_of f) (mark_for p) rest 0 whole room o m w o2 m2 w2 o4 m4
            (rest_all o2 rest (address_in f a) (decimal (number_in f p uid)) m2 refl left o3 m3 w3 o4 m4 (rw is-n at w4))

-- ## The name in a buffer, and its copy

module _ (t b o : List ℕ) (n : ℕ) (w : Wrote b o t 0 n) where
  pub buffer_within : length t ≤ length b → n ≤ length o
  buffer_within l = rw (w.0, w.1, length_put_at b t 0 (omega arith)) (omega arith)

  buffer_text : take n o ≡ t
  unfolding put_at
  buffer_text = rw (w.0, w.1, take-paste b 0 t (length t) (omega arith) (omega arith), take-length t)

  module _ (d : List ℕ) where
    pub name_refused : length d < n → (r : Refusal) → r ≡ placeless F.NoRoom
        → (Err r ≡ written_of (within_room (length d) t)) × (d ≡ lent_after d (within_room (length d) t))
    name_refused h r e = let l : length d < length t = omega (arith, w.0) in (rw (e, lt-ltb (length d) (length t) l), rw (lt-ltb (length d) (length t) l))

    pub name_count : n ≤ length d → (p : List ℕ) (k : ℕ) → Wrote d p (take n o) 0 k
        → (Ok k ≡ written_of (within_room (length d) t)) × (p ≡ lent_after d (within_room (length d) t))
    unfolding after
    name_count h p k v =
        let l : length t ≤ length d = omega (arith, w.0) in
        let c : k ≡ length t = v.0 ∙ rw buffer_text (omega arith) in
        let f : p ≡ t ++ drop (length t) d = rw buffer_text at (put_first d p (take n o) v.1) in
        (rw (le-ltb (length d) (length t) l) (ap (λ (m : ℕ). Ok m) c), rw (le-ltb (length d) (length t) l) f)
