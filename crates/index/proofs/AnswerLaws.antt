-- The answer to one request, and to all, shaped as the calls and tests of the code hand their facts over.
--   answer_fits, answer_unfit == the answer to one request is its lone answer
--   Answering     == the loop that writes them
-- Assumes nothing.
use Rattle.std.specs.Prelude.{None, Ok, Option, Some}
use Prim.Native.Nat.{ℕ, zero, suc, ◌+◌, ◌-◌, ◌*◌, ◌/◌, ◌%◌, ◌≤◌, ◌<◌}
use mathlib.Core.Bool.{Bool, true, false, ◌&&◌, true≢false}
use mathlib.Core.List.{List, [], ◌∷◌, ◌++◌, append-nil, append_assoc}
use mathlib.Core.Path.{◌≡◌, refl, sym, ap, ap₂, ◌∙◌}
use native.Mathlib.Omega.{arith}
use lib.ListN.{length, take, drop, length-append}
use Rattle.text.specs.Basics.{when◌then◌else◌, given}
use Rattle.text.specs.Number.{to_digits}
use Rattle.text.specs.Scan.{put_at, after}
use Rattle.text.proofs.BasicLaws.{and_true}
use Rattle.text.proofs.Digits.{length_to_digits}
use Rattle.text.proofs.PasteLaws.{length_put_at, put_put, after_nil, put_more}
use Rattle.text.proofs.ScanLaws.{take_rest}
use Rattle.section.specs.declared.Fault.TheVariants as F
use Rattle.section.specs.declared.Part.{Part}
use Rattle.section.specs.declared.Refusal.{Refusal}
use Rattle.section.specs.Refusal.{Outcome, ◌>>=◌, placeless, fitting}
use Rattle.section.specs.Section.{part, bytes_at}
use Rattle.patterns.specs.declared.Name.{Name}
use Rattle.patterns.specs.declared.Name.TheVariants as N
use Rattle.patterns.specs.Host.{endpoint}
use Rattle.tables.specs.Table.{tables_of, match_of}
use Rattle.tables.specs.Tried.{capped}
use Rattle.elements.specs.declared.User.{User}
use Rattle.elements.specs.declared.User.TheVariants as U
use Rattle.elements.specs.declared.request.Request.{Request as Places}
use Rattle.elements.specs.Request.{Request, request_of, well_formed, held}
use Rattle.elements.specs.Places.{request_at}
use Rattle.elements.specs.Code.{held_at}
use Rattle.elements.proofs.HeldLaws.{held_at_lem, held_fits}
use Rattle.rules.specs.declared.Answer.{Answer}
use Rattle.rules.specs.declared.Reported.{Reported}
use Rattle.rules.specs.declared.search.Searched.{Searched}
use Rattle.rules.specs.Search.{search}
use Rattle.rules.specs.Looked.{looked, number_of, looked_over}
use Rattle.rules.specs.Code.{searched}
use Rattle.rules.specs.FileCode.{refused_report, refusing_request}
use Rattle.sheet.specs.declared.Parts.{Parts}
use Rattle.sheet.specs.Sheet.{unpack}
use Rattle.station.specs.Station.{in_sheet, decide_sheet, looked_sheet}
use Rattle.codes.specs.declared.GateAnswer.{GateAnswer}
use Rattle.codes.specs.declared.request.HostNumbers.{HostNumbers}
use Rattle.codes.specs.declared.request.States.{States}
use Rattle.codes.specs.Requests.{RequestNumbers, known_name, known_user, request}
use Rattle.codes.specs.Answers.{refusal_answer, answer_numbers, verdict_answer}
use Rattle.codes.specs.Code.{states_of, with_names, verdict_numbers}
use Rattle.codes.proofs.RequestLaws.{request_taken}
use Rattle.index.specs.declared.requests.Fields.{Fields}
use Rattle.index.specs.Index.{two_bytes, answer_bytes, lone_answer, answers_to, parted, read_requests}
use Rattle.index.specs.Code.{searched_at, fields_at, numbers_in, known_part, user_part, named_at, found_numbers, unfit_numbers, Ready, all_answers}
use Rattle.index.specs.Code.{Fitting}
use Rattle.index.proofs.TableLaws.{length_two, Two, Wrote, two_wrote, wrote_more}
use Rattle.index.proofs.RequestLaws.{parted_empty, parted_none, and_then, parted_cut, parted_more}

-- ## An answer as bytes

-- a number in eight bytes, by its two halves
eight_digits : (n : ℕ) → to_digits 256 4 (n / 256 / 256 / 256 / 256) ++ to_digits 256 4 n ≡ to_digits 256 8 n
unfolding to_digits
eight_digits n =
    let m : ℕ = n / 256 / 256 / 256 / 256 in
    let h : List ℕ = to_digits 256 4 m in
    sym (append_assoc (h ++ (n / 256 / 256 / 256 % 256 ∷ []) ++ (n / 256 / 256 % 256 ∷ [])) (n / 256 % 256 ∷ []) (n % 256 ∷ [])
    ∙ append_assoc (h ++ (n / 256 / 256 / 256 % 256 ∷ [])) (n / 256 / 256 % 256 ∷ []) (n / 256 % 256 ∷ n % 256 ∷ [])
    ∙ append_assoc h (n / 256 / 256 / 256 % 256 ∷ []) (n / 256 / 256 % 256 ∷ n / 256 % 256 ∷ n % 256 ∷ []))

whole_answer : (a : GateAnswer)
    → two_bytes a.number a.section ++ two_bytes a.line a.word ++ two_bytes a.file a.place ++ two_bytes a.len
    (a.looked / 256 / 256 / 256 / 256)
    ++ to_digits 256 4 a.looked
    ≡ answer_bytes a
unfolding answer_bytes two_bytes
whole_answer a =
    let x : List ℕ = two_bytes a.number a.section ++ two_bytes a.line a.word ++ two_bytes a.file a.place in
    let u : List ℕ = to_digits 256 4 a.len in
    let k : List ℕ = to_digits 256 4 (a.looked / 256 / 256 / 256 / 256) in
    let v : List ℕ = to_digits 256 4 a.looked in
    append_assoc x (u ++ k) v ∙ ap (λ (s : List ℕ). x ++ s) (append_assoc u k v) ∙ sym (append_assoc x u (k ++ v))
    ∙ ap (λ (s : List ℕ). x ++ u ++ s) (eight_digits a.looked)

pub length_answer : (a : GateAnswer) → length (answer_bytes a) ≡ 36
unfolding answer_bytes
length_answer a =
    let x : List ℕ = two_bytes a.number a.section in
    let y : List ℕ = two_bytes a.line a.word in
    let z : List ℕ = two_bytes a.file a.place in
    let u : List ℕ = to_digits 256 4 a.len in
    let v : List ℕ = to_digits 256 8 a.looked in
    omega (
      arith,
      length-append (x ++ y ++ z ++ u) v,
      length-append (x ++ y ++ z) u,
      length-append (x ++ y) z,
      length-append x y,
      length_two a.number a.section,
      length_two a.line a.word,
      length_two a.file a.place,
      length_to_digits 256 4 a.len,
      length_to_digits 256 8 a.looked,
    )

pub put_answer : (d o₁ o₂ o₃ o₄ o₅ : List ℕ) (number section line word file place len looked : ℕ) (at n₁ n₂ n₃ n₄ n₅ : ℕ) → at + 36 ≤ length d
    → Two d o₁ number section at n₁ → Two o₁ o₂ line word n₁ n₂ → Two o₂ o₃ file place n₂ n₃
    → Two o₃ o₄ len (looked / 256 / 256 / 256 / 256) n₃ n₄ → (n₅ ≡ n₄ + 4) × (o₅ ≡ put_at o₄ n₄ (to_digits 256 4 looked))
    → (n₅ ≡ at + 36)
    × (o₅ ≡ put_at d at (answer_bytes (record {
      number = number;
      section = section;
      line = line;
      word = word;
      file = file;
      place = place;
      len = len;
      looked =
          looked;
    })))
put_answer d o₁ o₂ o₃ o₄ o₅ number section line word file place len looked at n₁ n₂ n₃ n₄ n₅ room w₁ w₂ w₃ w₄ w₅ =
    let k : ℕ = looked / 256 / 256 / 256 / 256 in
    let x : List ℕ = two_bytes number section in
    let y : List ℕ = two_bytes line word in
    let z : List ℕ = two_bytes file place in
    let u : List ℕ = two_bytes len k in
    let v : List ℕ = to_digits 256 4 looked in
    let lx : length x ≡ 8 = length_two number section in
    let ly : length y ≡ 8 = length_two line word in
    let lz : length z ≡ 8 = length_two file place in
    let lu : length u ≡ 8 = length_two len k in
    let lv : length v ≡ 4 = length_to_digits 256 4 looked in
    let lxy : length (x ++ y) ≡ 16 = length-append x y ∙ rw (lx, ly) in
    let lxyz : length (x ++ y ++ z) ≡ 24 = length-append (x ++ y) z ∙ rw (lxy, lz) in
    let lxyzu : length (x ++ y ++ z ++ u) ≡ 32 = length-append (x ++ y ++ z) u ∙ rw (lxyz, lu) in
    let v₁ : Wrote d o₁ x at n₁ = two_wrote d o₁ number section at n₁ w₁ in
    let v₂ : Wrote d o₂ (x ++ y) at n₂ = wrote_more d o₁ o₂ x y at n₁ n₂ v₁ (two_wrote o₁ o₂ line word n₁ n₂ w₂) (omega arith) in
    let v₃ : Wrote d o₃ (x ++ y ++ z) at n₃ = wrote_more d o₂ o₃ (x ++ y) z at n₂ n₃ v₂ (two_wrote o₂ o₃ file place n₂ n₃ w₃) (omega arith) in
    let v₄ : Wrote d o₄ (x ++ y ++ z ++ u) at n₄ = wrote_more d o₃ o₄ (x ++ y ++ z) u at n₃ n₄ v₃ (two_wrote o₃ o₄ len k n₃ n₄ w₄) (omega arith) in
    let v₅ : Wrote d o₅ (x ++ y ++ z ++ u ++ v) at n₅ = wrote_more d o₄ o₅ (x ++ y ++ z ++ u) v at n₄ n₅ v₄ (omega (arith, w₅.0), w₅.1) (omega arith) in (
      omega (arith, w₁.0, w₂.0, w₃.0, w₄.0, w₅.0),
      v₅.1 ∙ ap (put_at d at)
          (whole_answer (record { number = number; section = section; line = line; word = word; file = file; place = place; len = len; looked = looked })),
    )

-- ## The request of an answer

known_part_lem : (s : List ℕ) (n : Name) (p : Part) → bytes_at s (known_part n p) ≡ known_name n (bytes_at s p)
known_part_lem s N.Unknown p = refl
known_part_lem s N.Paranoid p = refl
known_part_lem s N.Known p = refl

user_part_lem : (s : List ℕ) (u : User) (p : Part) → bytes_at s (user_part u p) ≡ known_user u (bytes_at s p)
user_part_lem s U.NotFetched p = refl
user_part_lem s U.Unknown p = refl
user_part_lem s U.Known p = refl

pub known_none : (n : Name) (p : Part) → n ≡ N.Unknown → part 0 0 ≡ known_part n p
known_none n p e = rw e

pub known_paranoid : (n : Name) (p : Part) → n ≡ N.Paranoid → part 0 0 ≡ known_part n p
known_paranoid n p e = rw e

pub known_some : (n : Name) (p : Part) → n ≡ N.Known → p ≡ known_part n p
known_some n p e = rw e

pub user_unfetched : (u : User) (p : Part) → u ≡ U.NotFetched → part 0 0 ≡ user_part u p
user_unfetched u p e = rw e

pub user_unknown : (u : User) (p : Part) → u ≡ U.Unknown → part 0 0 ≡ user_part u p
user_unknown u p e = rw e

pub user_some : (u : User) (p : Part) → u ≡ U.Known → p ≡ user_part u p
user_some u p e = rw e

pub named_is : (x : States) (f : Fields) (c s u : Part) → c ≡ known_part x.client.name f.client.name → s ≡ known_part x.server.name f.server.name
    → u ≡ user_part x.user f.user_name
    → ◌≡◌ {A = Places} (record {
      daemon = f.daemon;
      client = x.client;
      client_name = c;
      server = x.server;
      server_name = s;
      user = x.user;
      user_name =
          u;
    }) (named_at x f)
unfolding named_at
named_is x f c s u is_c is-s is-u = rw (is_c, is-s, is-u)

named_request : (names : List ℕ) (x : States) (f : Fields)
    → request_at names (named_at x f)
    ≡ with_names x (bytes_at names f.daemon) (bytes_at names f.client.name) (bytes_at names f.server.name) (bytes_at names f.user_name)
unfolding named_at
named_request names x f =
    rw (known_part_lem names x.client.name f.client.name, known_part_lem names x.server.name f.server.name, user_part_lem names x.user f.user_name)

-- a request that fits, alone
lone_found : (sheet : List ℕ) (p : Parts) → unpack sheet ≡ Ok p → (r : Request) → well_formed r ≡ true
    → verdict_answer (decide_sheet sheet (Some r)) (looked_sheet sheet (Some r))
    ≡ verdict_numbers (refusing_request true (searched_at sheet p (held r)).answer (searched_at sheet p (held r)).looked)
unfolding decide_sheet looked_sheet looked_over verdict_answer verdict_numbers searched_at
lone_found sheet p ok r w = rw (ok, w)

-- one that does not
lone_refused : (sheet : List ℕ) (p : Parts) → unpack sheet ≡ Ok p → (c : Bool) (r : Request) → (c && well_formed r) ≡ false
    → verdict_answer (decide_sheet sheet (given c r)) (looked_sheet sheet (given c r)) ≡ verdict_numbers (refused_report (placeless F.BadRequest))
unfolding decide_sheet looked_sheet verdict_answer verdict_numbers
lone_refused sheet p ok false r w = rw ok
lone_refused sheet p ok true r w = rw (ok, w)

-- as the calls hand them over
pub found_numbers_lem : (s y : Searched) → y ≡ s → (r : Reported) → r ≡ refusing_request true y.answer y.looked → (a : GateAnswer) → a ≡ verdict_numbers r
    → a ≡ found_numbers s
found_numbers_lem s y is_y r is-r a is-a = is-a ∙ ap verdict_numbers is-r ∙ ap found_numbers is_y

pub unfit_numbers_lem : (g : Refusal) → g ≡ placeless F.BadRequest → (r : Reported) → r ≡ refused_report g → (a : GateAnswer) → a ≡ verdict_numbers r
    → a ≡ unfit_numbers
unfit_numbers_lem g is-g r is-r a is-a = is-a ∙ ap verdict_numbers (is-r ∙ ap refused_report is-g)

module _ (sheet : List ℕ) (p : Parts) (allow deny : List ℕ) (ready : Ready sheet p allow deny) (names : List ℕ) (f : Fields) (x : States)
    (is_x : x ≡ states_of f.client.numbers f.server.numbers f.user) (q : Places) (is-q : q ≡ named_at x f) (h : Places) (is-h : h ≡ held_at q) where
  ok : unpack sheet ≡ Ok p
  ok = ready.accepted

  abbrev own : Request
  own = request_at names q

  asked : request (numbers_in names f) ≡ given x.fit own
  asked =
      request_taken (bytes_at names f.daemon) (bytes_at names f.client.name) (bytes_at names f.server.name) (bytes_at names f.user_name)
      f.client.numbers f.server.numbers f.user
      ∙ ap (λ (y : States). given y.fit (with_names y (bytes_at names f.daemon) (bytes_at names f.client.name) (bytes_at names f.server.name)
      (bytes_at names f.user_name))) (sym is_x)
      ∙ ap (given x.fit) (sym (ap (request_at names) is-q ∙ named_request names x f))

  held_own : request_at names h ≡ held own
  held_own = held_at_lem names q h is-h

  module _ (b : Bool) (is_b : b ≡ well_formed (request_at names h)) where
    fits_own : b ≡ well_formed own
    fits_own = is_b ∙ ap well_formed held_own ∙ held_fits own

    abbrev lone : GateAnswer
    lone = lone_answer sheet (numbers_in names f)

    lone_of : (o : Option Request) → request (numbers_in names f) ≡ o → lone ≡ verdict_answer (decide_sheet sheet o) (looked_sheet sheet o)
    lone_of o e = ap (λ (o : Option Request). verdict_answer (decide_sheet sheet o) (looked_sheet sheet o)) e

    pub answer_fits : (x.fit && b) ≡ true → (a : GateAnswer) → a ≡ found_numbers (searched_at sheet p (request_at names h)) → a ≡ lone
    answer_fits e a is-a =
        let both = and_true x.fit b e in
        let s : request (numbers_in names f) ≡ Some own = asked ∙ ap (λ (c : Bool). given c own) both.0 in
        is-a ∙ ap (λ (r : Request). found_numbers (searched_at sheet p r)) held_own
        ∙ sym (lone_of (Some own) s ∙ lone_found sheet p ok own (sym fits_own ∙ both.1))

    pub answer_unfit : (x.fit && b) ≡ false → (a : GateAnswer) → a ≡ unfit_numbers → a ≡ lone
    answer_unfit e a is-a =
        is-a ∙ sym (lone_of (given x.fit own) asked ∙ lone_refused sheet p ok x.fit own (ap (λ (c : Bool). x.fit && c) (sym fits_own) ∙ e))

-- ## The loop over the requests

pub length_answers : (sheet : List ℕ) (ns : List RequestNumbers) → length (answers_to sheet ns) ≡ 36 * length ns
unfolding answers_to
length_answers sheet [] = refl
length_answers sheet (n ∷ ns) =
    length-append (answer_bytes (lone_answer sheet n)) (answers_to sheet ns) ∙ rw (length_answer (lone_answer sheet n), length_answers sheet ns) (omega arith)

then_some : (n : RequestNumbers) (o : Option (List RequestNumbers)) (ns : List RequestNumbers) → and_then n o ≡ Some ns
    → (ms : List RequestNumbers) × ((o ≡ Some ms) × (ns ≡ n ∷ ms))
then_some n None ns e = let z : ◌≡◌ {A = ℕ} 0 1 = cc in absurd (omega arith)
then_some n (Some ms) ns e = (ms, (refl, cc))

-- the answers to the requests before rest stand at the front of o, and end at next
pub record Answering (sheet : List ℕ) (all : Option (List RequestNumbers)) (d o : List ℕ) (next : ℕ) (rest : List ℕ) : Type 0 where
  pub left : List RequestNumbers
  pub most : ℕ
  pub done : List ℕ
  pub parts_left : parted most rest ≡ Some left
  pub whole : all_answers sheet all ≡ done ++ answers_to sheet left
  pub text : o ≡ after done d
  pub place : next ≡ length done
  pub long : length o ≡ length d
  pub room : length (all_answers sheet all) ≤ length d

pub answering_start : (sheet requests d : List ℕ) → Fitting sheet (read_requests requests) (length d) → Answering sheet (read_requests requests) d d 0 requests
unfolding all_answers read_requests
answering_start sheet requests d h = record {
  left = h.asked;
  most = 32;
  done = [];
  parts_left = h.parts_asked;
  whole = ap (all_answers sheet) h.parts_asked;
  text = sym (after_nil d);
  place = refl;
  long = refl;
  room = rw h.parts_asked h.room_asked;
}

module _ (sheet : List ℕ) (all : Option (List RequestNumbers)) (d o : List ℕ) (next : ℕ) (rest : List ℕ) (w : Answering sheet all d o next rest) where
  none_left : length rest ≤ 0 → w.left ≡ []
  none_left h = cc (sym w.parts_left ∙ parted_empty w.most rest h)

  all_done : length rest ≤ 0 → all_answers sheet all ≡ w.done
  unfolding answers_to
  all_done h = w.whole ∙ ap (λ (ns : List RequestNumbers). w.done ++ answers_to sheet ns) (none_left h) ∙ append-nil w.done

  pub answering_end : length rest ≤ 0 → next ≡ length (all_answers sheet all)
  answering_end h = w.place ∙ ap length (sym (all_done h))

  pub answering_text : length rest ≤ 0 → o ≡ after (all_answers sheet all) d
  answering_text h = w.text ∙ ap (λ (s : List ℕ). after s d) (sym (all_done h))

  module _ (h : 0 < length rest) (x : Option Fields) (is_x : x ≡ fields_at rest) where
    no_cut : x ≡ None → ⊥
    no_cut e = by w.most w.parts_left
      where
        by : (k : ℕ) → parted k rest ≡ Some w.left → ⊥
        by zero k = let z : ◌≡◌ {A = ℕ} 0 1 = cc (sym (parted_none rest h) ∙ k) in omega arith
        by (suc j) k = let z : ◌≡◌ {A = ℕ} 0 1 = cc (sym (parted_cut rest h j x is_x e) ∙ k) in omega arith

    pub answering_cut : x ≡ None → next ≡ length (all_answers sheet all)
    answering_cut e = absurd (no_cut e)

    pub answering_cut_text : x ≡ None → o ≡ after (all_answers sheet all) d
    answering_cut_text e = absurd (no_cut e)

    module _ (f : Fields) (e : x ≡ Some f) where
      -- the requests after this one
      following : (k : ℕ) × ((ms : List RequestNumbers) × ((parted k (drop f.end rest) ≡ Some ms) × (w.left ≡ numbers_in rest f ∷ ms)))
      following = by w.most w.parts_left
        where
          by : (k : ℕ) → parted k rest ≡ Some w.left
              → (k : ℕ) × ((ms : List RequestNumbers) × ((parted k (drop f.end rest) ≡ Some ms) × (w.left ≡ numbers_in rest f ∷ ms)))
          by zero k = let z : ◌≡◌ {A = ℕ} 0 1 = cc (sym (parted_none rest h) ∙ k) in absurd (omega arith)
          by (suc j) k =
              let t = then_some (numbers_in rest f) (parted j (drop f.end rest)) w.left (sym (parted_more rest h j x is_x f e) ∙ k) in
              (j, (t.0, (t.1.0, t.1.1)))

      abbrev own_bytes : List ℕ
      own_bytes = answer_bytes (lone_answer sheet (numbers_in rest f))

      abbrev others : List RequestNumbers
      others = following.1.0

      whole_on : all_answers sheet all ≡ (w.done ++ own_bytes) ++ answers_to sheet others
      unfolding answers_to
      whole_on =
          w.whole ∙ ap (λ (ns : List RequestNumbers). w.done ++ answers_to sheet ns) following.1.1.1
          ∙ sym (append_assoc w.done own_bytes (answers_to sheet others))

      lengths : length (all_answers sheet all) ≡ length w.done + 36 + length (answers_to sheet others)
      lengths =
          ap length whole_on ∙ length-append (w.done ++ own_bytes) (answers_to sheet others)
          ∙ ap (λ (k : ℕ). k + length (answers_to sheet others)) (length-append w.done own_bytes
          ∙ ap (λ (k : ℕ). length w.done + k) (length_answer (lone_answer sheet (numbers_in rest f))))

      pub answering_room : next + 36 ≤ length o
      answering_room = omega (arith, lengths, w.place, w.long, w.room)

      pub answering_more : (a : GateAnswer) → a ≡ lone_answer sheet (numbers_in rest f) → (m : ℕ) (o' : List ℕ) → m ≡ next + 36
          → o' ≡ put_at o next (answer_bytes a)
          → Answering sheet all d o' m (take (length rest - f.end) (drop f.end rest))
      answering_more a is-a m o' is_m is-o =
          let p : o' ≡ put_at o next own_bytes = is-o ∙ ap (λ (b : GateAnswer). put_at o next (answer_bytes b)) is-a in
          let l : length own_bytes ≡ 36 = length_answer (lone_answer sheet (numbers_in rest f)) in
          record {
            left = others;
            most = following.0;
            done = w.done ++ own_bytes;
            parts_left = ap (parted following.0) (take_rest rest f.end) ∙ following.1.1.0;
            whole = whole_on;
            text = put_more d o o' w.done own_bytes next p w.text w.place;
            place = omega (arith, w.place, length-append w.done own_bytes);
            long = ap length p ∙ length_put_at o own_bytes next (omega (arith, answering_room)) ∙ w.long;
            room = w.room;
          }
