-- authbind's order: where answers lead, and that no two tests have one name.
-- Assumes nothing.
use Prim.Native.Nat.{ℕ, zero, suc, ◌+◌, ◌*◌, ◌^◌, ◌≤◌, ◌<◌}
use native.Mathlib.Omega.{arith}
use mathlib.Core.Bool.{Bool, true, false, true≢false}
use mathlib.Core.List.{List, [], ◌∷◌, ◌++◌, map, append_assoc, append-nil}
use mathlib.Core.Path.{◌≡◌, refl, sym, ap, subst, ◌∙◌}
use borrow.Author.Tests.{lt-ltb, le-ltb, le-leb, lt-leb, leb-true, ne_eqb}
use lib.Dec.{leb}
use lib.ListN.{length, take, drop, get_or, replicate, length-append}
use lib.Seq.{take_at, drop_at, drop-cons, drop-length}
use Rattle.text.specs.Basics as Basics
use Rattle.text.specs.Basics.{when◌then◌else◌, all}
use Rattle.text.specs.Text as Text
use Rattle.text.specs.Text.{bytes, equal, in_range}
use Rattle.text.specs.Number as Number
use Rattle.text.specs.Number.{decimal}
use Rattle.text.proofs.BasicLaws.{and_true}
use Rattle.text.proofs.ScanLaws.{equal_refl}
use Rattle.section.specs.declared.Fault.TheVariants as F
use Rattle.section.specs.Refusal.{Outcome, placeless, ◌>>=◌}
use Rattle.address.specs.declared.Addr.{Addr}
use Rattle.address.specs.declared.Addr.TheVariants as A
use Rattle.address.specs.Address as Address
use Rattle.address.specs.Address.{text_v4, text_v6, addr_text}
use Rattle.authbind.specs.Authbind as Authbind
use Rattle.authbind.specs.Authbind.{file_name, unabbreviated, tests, by_uid, Step, test, read, granted, denied, walk, dotted, with_room, next_step}
use Rattle.authbind.specs.Code.{is_access, access_by}
use Rattle.authbind.proofs.AnswerLaws.{each_access}
use Rattle.codes.specs.Requests as Requests
use Rattle.codes.specs.Requests.{authbind_asked, byuid_bind, address_of}
use Rattle.codes.specs.Answers as Answers
use Rattle.codes.specs.Answers.{next_answer}
use Rattle.gate.specs.Calls.{wrote_next, gate_authbind}
use Rattle.claims.specs.AuthbindOrder.{Kept, kept_v4, kept_v6, Bindable, AreAnswers, absents, named, settled, late, AbsentGoesOn, AnswerSettles}
use Rattle.claims.specs.AuthbindOrder.{NamesDiffer, ReadsItsFile, ManualExample}

-- ## Past the first checks

module _ (port uid : ℕ) (s : List ℕ) (room : ℕ) (from : 1 ≤ port) (to : port ≤ 1023) (caller : 1 ≤ uid) (kinds : all is_access s ≡ true) where
  kept_walks : {kind high low : ℕ} {a : Addr} → Kept kind high low a
      → next_step (authbind_asked port kind high low uid s) room ≡ (walk (by_uid port uid) (map access_by s) (tests port a) >>= with_room room)
  unfolding next_step authbind_asked byuid_bind address_of
  kept_walks (kept_v4 high low h) = rw (
    lt-ltb low (2 ^ 32) h,
    lt-ltb port (2 ^ 16) (omega arith),
    each_access s,
    kinds,
    le-leb 1 port from,
    le-leb port 1023 to,
    ne_eqb uid 0 (λ e. omega arith),
  )
  kept_walks (kept_v6 high low h) = rw (
    lt-ltb port (2 ^ 16) (omega arith),
    each_access s,
    kinds,
    le-leb 1 port from,
    le-leb port 1023 to,
    ne_eqb uid 0 (λ e. omega arith),
    h,
  )

absents_are : (k : ℕ) (s : List ℕ) → all is_access (absents k ++ s) ≡ all is_access s
unfolding all
absents_are zero s = refl
absents_are (suc k) s = absents_are k s

walk_absents : (byuid : List ℕ) (k : ℕ) (s : List ℕ) (ns : List (List ℕ)) → k ≤ length ns
    → walk byuid (map access_by (absents k ++ s)) ns ≡ walk byuid (map access_by s) (drop k ns)
unfolding walk
walk_absents byuid zero s ns h = refl
walk_absents byuid (suc k) s [] h = absurd (omega arith)
walk_absents byuid (suc k) s (n ∷ ns) h = walk_absents byuid k s ns (omega arith)

-- no answer is over 2
first_kind : (x : ℕ) (s : List ℕ) → all is_access (x ∷ s) ≡ true → is_access x ≡ true
unfolding all
first_kind x s e = (and_true (is_access x) (all is_access s) e).0

over_kinds : (x : ℕ) (s : List ℕ) → all is_access (suc (suc (suc x)) ∷ s) ≡ true → ⊥
over_kinds x s e = omega (arith, leb-true (suc (suc (suc x))) 2 (first_kind (suc (suc (suc x))) s e))

-- what the call answers to k absents and then s
module _ (port kind high low uid : ℕ) (a : Addr) (b : Bindable port kind high low uid a) (out : List ℕ) where
  walks : (k : ℕ) (s : List ℕ) → k ≤ length (tests port a) → all is_access s ≡ true
      → gate_authbind port kind high low uid (absents k ++ s) out
      ≡ wrote_next out (walk (by_uid port uid) (map access_by s) (drop k (tests port a)) >>= with_room (length out))
  walks k s h e =
      ap (wrote_next out)
      (kept_walks port uid (absents k ++ s) (length out) b.from b.to b.caller (absents_are k s ∙ e) b.address
      ∙ ap (λ (o : Outcome Step). o >>= with_room (length out)) (walk_absents (by_uid port uid) k s (tests port a) h))

  none_are : all is_access [] ≡ true
  unfolding all
  none_are = refl

  walks_absents : (k : ℕ) → k ≤ length (tests port a)
      → gate_authbind port kind high low uid (absents k) out ≡ wrote_next out (walk (by_uid port uid) [] (drop k (tests port a)) >>= with_room (length out))
  walks_absents k h = ap (λ (s : List ℕ). gate_authbind port kind high low uid s out) (sym (append-nil (absents k))) ∙ walks k [] h none_are

  test_next : (k : ℕ) → k < length (tests port a) → length (get_or (tests port a) k []) ≤ length out
      → gate_authbind port kind high low uid (absents k) out ≡ named 7 (get_or (tests port a) k []) out
  unfolding walk next_answer
  test_next k h fits =
      walks_absents k (omega arith)
      ∙ rw (drop-cons (tests port a) k [] h, le-ltb (length out) (length (get_or (tests port a) k [])) fits)

  byuid_next : length (by_uid port uid) ≤ length out
      → gate_authbind port kind high low uid (absents (length (tests port a))) out ≡ named 8 (by_uid port uid) out
  unfolding walk next_answer
  byuid_next fits =
      walks_absents (length (tests port a)) (omega arith)
      ∙ rw (drop-length (tests port a), le-ltb (length out) (length (by_uid port uid)) fits)

  allowed : (k : ℕ) → k < length (tests port a) → gate_authbind port kind high low uid (absents k ++ (1 ∷ [])) out ≡ settled 1 out
  unfolding walk next_answer all
  allowed k h = walks k (1 ∷ []) (omega arith) refl ∙ rw (drop-cons (tests port a) k [] h, le-ltb (length out) 0 (omega arith))

  other : (k : ℕ) → k < length (tests port a) → gate_authbind port kind high low uid (absents k ++ (2 ∷ [])) out ≡ settled 2 out
  unfolding walk next_answer all
  other k h = walks k (2 ∷ []) (omega arith) refl ∙ rw (drop-cons (tests port a) k [] h, le-ltb (length out) 0 (omega arith))

  late_settled : (k : ℕ) → k < length (tests port a) → (x y : ℕ) (s : List ℕ) → 1 ≤ x → all is_access (x ∷ y ∷ s) ≡ true
      → gate_authbind port kind high low uid (absents k ++ (x ∷ y ∷ s)) out ≡ late out
  unfolding walk next_answer
  late_settled k h zero y s l e = absurd (omega arith)
  late_settled k h (suc zero) y s l e = walks k (1 ∷ y ∷ s) (omega arith) e ∙ rw (drop-cons (tests port a) k [] h)
  late_settled k h (suc (suc zero)) y s l e = walks k (2 ∷ y ∷ s) (omega arith) e ∙ rw (drop-cons (tests port a) k [] h)
  late_settled k h (suc (suc (suc x))) y s l e = absurd (over_kinds x (y ∷ s) e)

  late_last : (y : ℕ) (s : List ℕ) → all is_access (y ∷ s) ≡ true
      → gate_authbind port kind high low uid (absents (length (tests port a)) ++ (y ∷ s)) out ≡ late out
  unfolding walk next_answer
  late_last y s e = walks (length (tests port a)) (y ∷ s) (omega arith) e ∙ rw (drop-length (tests port a))

pub absent_goes_on : AbsentGoesOn
absent_goes_on = record {
  next_test = λ port kind high low uid a b k h out fits. test_next port kind high low uid a b out k h fits;
  then_byuid = λ port kind high low uid a b out fits. byuid_next port kind high low uid a b out fits;
}

pub answer_settles : AnswerSettles
answer_settles = record {
  allowed_grants = λ port kind high low uid a b k h out. allowed port kind high low uid a b out k h;
  other_denies = λ port kind high low uid a b k h out. other port kind high low uid a b out k h;
  late_after_settled = λ port kind high low uid a b k h x y s out l e. late_settled port kind high low uid a b out k h x y s l e;
  late_after_last = λ port kind high low uid a b y s out e. late_last port kind high low uid a b out y s e;
}

-- ## The file that is read

pub reads_its_file : ReadsItsFile
reads_its_file = record {
  reads_plain = λ port kind high low uid a b most out fits.
      let e : by_uid port uid ≡ bytes "/etc/authbind/byuid/" ++ decimal uid = rw (lt-leb 512 port (omega arith)) in
      byuid_next port kind high low uid a b out (subst (λ (n : List ℕ). length n ≤ length out) (sym e) fits) ∙ ap (λ (n : List ℕ). named 8 n out) e;
  reads_marked = λ port kind high low uid a b least out fits.
      let e : by_uid port uid ≡ bytes "/etc/authbind/byuid/!" ++ decimal uid = rw (le-leb 512 port least, le-leb port 1023 b.to) in
      byuid_next port kind high low uid a b out (subst (λ (n : List ℕ). length n ≤ length out) (sym e) fits) ∙ ap (λ (n : List ℕ). named 8 n out) e;
}

-- ## Names

-- what stands behind equal texts, and before them, is equal
behind : (x y z : List ℕ) → x ++ y ≡ x ++ z → y ≡ z
behind x y z e = sym (drop_at x y (length x) refl) ∙ ap (drop (length x)) e ∙ drop_at x z (length x) refl

front : (x y z : List ℕ) → x ++ z ≡ y ++ z → x ≡ y
front x y z e =
    let l : length y ≡ length x = omega (arith, ap length e, length-append x z, length-append y z) in
    sym (take_at x z (length x) refl) ∙ ap (take (length x)) e ∙ take_at y z (length x) l

-- two leaves in one folder
leaves : (p : ℕ) (x y : List ℕ) → file_name "byaddr/" p x ≡ file_name "byaddr/" p y → x ≡ y
leaves p x y e = behind (bytes "/etc/authbind/" ++ bytes "byaddr/" ++ (when in_range 512 1023 p then bytes "!" else [])) x y e

comma_colon : (p n : ℕ) (t : List ℕ) → file_name "byaddr/" p (t ++ bytes "," ++ decimal n) ≡ file_name "byaddr/" p (t ++ bytes ":" ++ decimal n) → ⊥
comma_colon p n t e =
    let f : bytes "," ++ decimal n ≡ bytes ":" ++ decimal n =
    behind t (bytes "," ++ decimal n) (bytes ":" ++ decimal n)
    (sym (append_assoc t (bytes ",") (decimal n)) ∙ leaves p (t ++ bytes "," ++ decimal n) (t ++ bytes ":" ++ decimal n) e
    ∙ append_assoc t (bytes ":") (decimal n)) in
    let h : ◌≡◌ {A = ℕ} 44 58 = ap (λ (l : List ℕ). get_or l 0 0) f in
    omega (arith, h)

same_text_lem : (p n : ℕ) (t u : List ℕ) → file_name "byaddr/" p (t ++ bytes "," ++ decimal n) ≡ file_name "byaddr/" p (u ++ bytes "," ++ decimal n) → t ≡ u
same_text_lem p n t u e =
    front t u (bytes ",") (front (t ++ bytes ",") (u ++ bytes ",") (decimal n) (leaves p (t ++ bytes "," ++ decimal n) (u ++ bytes "," ++ decimal n) e))

-- the folders' names differ at their third byte
port_address : (p : ℕ) (x y : List ℕ) → file_name "byport/" p x ≡ file_name "byaddr/" p y → ⊥
port_address p x y e = let h : ◌≡◌ {A = ℕ} 112 97 = ap (λ (l : List ℕ). get_or l 16 0) e in omega (arith, h)

third : (p : ℕ) (a : Addr) (j : ℕ) → suc (suc j) < length (tests p a) → get_or (tests p a) 1 [] ≡ get_or (tests p a) (suc (suc j)) [] → ⊥
unfolding tests addr_text
third p A.Unknown j h e = omega arith
third p (A.V4 n) zero h e = comma_colon p p (text_v4 n) e
third p (A.V4 n) (suc j) h e = omega arith
third p (A.V6 high low) j h e = by (equal (text_v6 (high * 2 ^ 64 + low)) (unabbreviated (high * 2 ^ 64 + low))) refl j h e
  where
    by : (t : Bool) → equal (text_v6 (high * 2 ^ 64 + low)) (unabbreviated (high * 2 ^ 64 + low)) ≡ t → (j : ℕ)
        → suc (suc j) < length (tests p (A.V6 high low)) → get_or (tests p (A.V6 high low)) 1 [] ≡ get_or (tests p (A.V6 high low)) (suc (suc j)) [] → ⊥
    by true q j h e = omega (arith, rw q at h)
    by false q (suc j) h e = omega (arith, rw q at h)
    by false q zero h e =
        let f : text_v6 (high * 2 ^ 64 + low) ≡ unabbreviated (high * 2 ^ 64 + low) =
        same_text_lem p p (text_v6 (high * 2 ^ 64 + low)) (unabbreviated (high * 2 ^ 64 + low)) (rw q at e) in
        true≢false (sym (ap (λ (t : List ℕ). equal t (unabbreviated (high * 2 ^ 64 + low))) f ∙ equal_refl (unabbreviated (high * 2 ^ 64 + low))) ∙ q)

-- the first test is another's by its folder
first_test : (p : ℕ) (a : Addr) (j : ℕ) → suc j < length (tests p a) → get_or (tests p a) 0 [] ≡ get_or (tests p a) (suc j) [] → ⊥
unfolding tests
first_test p a zero h e = port_address p (decimal p) (addr_text a ++ bytes "," ++ decimal p) e
first_test p A.Unknown (suc j) h e = omega arith
first_test p (A.V4 n) (suc zero) h e = port_address p (decimal p) (text_v4 n ++ bytes ":" ++ decimal p) e
first_test p (A.V4 n) (suc (suc j)) h e = omega arith
first_test p (A.V6 high low) (suc j) h e = by (equal (text_v6 (high * 2 ^ 64 + low)) (unabbreviated (high * 2 ^ 64 + low))) refl j h e
  where
    by : (t : Bool) → equal (text_v6 (high * 2 ^ 64 + low)) (unabbreviated (high * 2 ^ 64 + low)) ≡ t → (j : ℕ)
        → suc (suc j) < length (tests p (A.V6 high low)) → get_or (tests p (A.V6 high low)) 0 [] ≡ get_or (tests p (A.V6 high low)) (suc (suc j)) [] → ⊥
    by true q j h e = omega (arith, rw q at h)
    by false q (suc j) h e = omega (arith, rw q at h)
    by false q zero h e = port_address p (decimal p) (unabbreviated (high * 2 ^ 64 + low) ++ bytes "," ++ decimal p) (rw q at e)

count_most : (p : ℕ) (a : Addr) → length (tests p a) ≤ 3
unfolding tests
count_most p A.Unknown = omega arith
count_most p (A.V4 n) = omega arith
count_most p (A.V6 high low) = by (equal (text_v6 (high * 2 ^ 64 + low)) (unabbreviated (high * 2 ^ 64 + low))) refl
  where
    by : (t : Bool) → equal (text_v6 (high * 2 ^ 64 + low)) (unabbreviated (high * 2 ^ 64 + low)) ≡ t → length (tests p (A.V6 high low)) ≤ 3
    by true q = rw q (omega arith)
    by false q = rw q (omega arith)

pub names_differ : NamesDiffer
names_differ p a i zero l h e = omega arith
names_differ p a zero (suc j) l h e = first_test p a j h e
names_differ p a (suc zero) (suc zero) l h e = omega arith
names_differ p a (suc zero) (suc (suc j)) l h e = third p a j h e
names_differ p a (suc (suc i)) (suc j) l h e = omega (arith, count_most p a)

pub manual_example : ManualExample
unfolding
    Basics.each Text.equal Text.split_once Text.intercalate Number.to_digits Number.numeral Address.compress Address.addr_text
    Authbind.tests Authbind.walk Authbind.dotted Authbind.next_step Requests.authbind_asked Requests.byuid_bind Requests.address_of Answers.next_answer
manual_example = record { by_port_lem = refl; by_address = refl; unabbreviated = refl; by_uid_lem = refl; last_test = refl; is_read = refl }
