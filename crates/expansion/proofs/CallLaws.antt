-- Laws of the call: the buffers hold the texts that they are to hold, and each check refuses as the definition does.
-- Assumes nothing.
use Rattle.std.specs.Prelude.{Err, Result, Some}
use Prim.Native.Nat.{ℕ, ◌+◌, ◌-◌, ◌<◌, ◌≤◌}
use native.Mathlib.Omega.{arith}
use mathlib.Core.Bool.{Bool, true, false, not}
use mathlib.Core.List.{List, [], ◌∷◌, ◌++◌, flat_map, reverse, append_assoc, append-nil}
use mathlib.Core.Path.{◌≡◌, refl, sym, ap, subst, ◌∙◌}
use borrow.Author.Tests.{lt-ltb, le-ltb, not-true, not-false}
use lib.ListN.{length, take, drop, length-append, length-reverse}
use lib.Seq.{take_at}
use Rattle.text.specs.Basics.{when◌then◌else◌}
use Rattle.text.specs.Text.{bytes, among}
use Rattle.text.specs.Number.{decimal}
use Rattle.text.specs.Scan.{put_at, after}
use Rattle.section.specs.declared.Fault.TheVariants as F
use Rattle.section.specs.declared.Refusal.{Refusal}
use Rattle.section.specs.Refusal.{Outcome, lowest, placeless, within_room, written_of, lent_after}
use Rattle.section.specs.Code.{first_holding}
use Rattle.section.proofs.RefusalLaws.{rising, lowest_first}
use Rattle.address.specs.Address.{addr_text}
use Rattle.address_format.proofs.WriteText.{Wrote}
use Rattle.lines.specs.declared.line.JoinedText.{JoinedText}
use Rattle.lines.specs.Line.{join, has_bad_byte, is_too_long}
use Rattle.lines.specs.Command.{Piece, literal, directive, pieces, skip_blanks, trimmed, has_bad_percent}
use Rattle.lines.specs.Parts.{trim_blanks, any_bad_percent}
use Rattle.lines.proofs.CommandLaws.{trimmed_join}
use Rattle.elements.specs.Request.{Request, well_formed, held}
use Rattle.elements.proofs.HeldLaws.{held_fits}
use Rattle.elements.specs.Places.{request_at}
use Rattle.elements.specs.declared.request.Request.{Request as Places}
use Rattle.section.proofs.PartLaws.{part_in, four_put}
use Rattle.expansion.specs.declared.directive.Given.{Given}
use Rattle.expansion.specs.Expand.{piece_text, expansion, expand}
use Rattle.expansion.specs.Code.{Texts, texts_with, texts_of, texts_at, given_at, piece_by, expansion_by, Short, expand_trimmed}
use Rattle.expansion.proofs.TextLaws.{inserted_by_request, well_formed_short}

-- what a call answers, and what the output d holds then, by an outcome
abbrev pub Gave : List ℕ → List ℕ → Result ℕ Refusal → Outcome (List ℕ) → Type 0
Gave d o v x = (v ≡ written_of x) × (o ≡ lent_after d x)

-- ## The texts of a request

same_texts : (r : Request) (u u' p p' m m' c c' s s' n n' : List ℕ) → u ≡ u' → p ≡ p' → m ≡ m' → c ≡ c' → s ≡ s' → n ≡ n'
    → texts_with u p m r c s n ≡ texts_with u' p' m' r c' s' n'
same_texts r u u' p p' m m' c c' s s' n n' e1 e2 e3 e4 e5 e6 =
    ap (λ (x : List ℕ). texts_with x p m r c s n) e1 ∙ ap (λ (x : List ℕ). texts_with u' x m r c s n) e2 ∙ ap (λ (x : List ℕ). texts_with u' p' x r c s n) e3
    ∙ ap (λ (x : List ℕ). texts_with u' p' m' r x s n) e4 ∙ ap (λ (x : List ℕ). texts_with u' p' m' r c' x n) e5
    ∙ ap (λ (x : List ℕ). texts_with u' p' m' r c' s' x) e6

-- the words, and the texts of the addresses and of the process number, stand in the block o one after the other
module _ (q : Places) (names d o1 o2 o3 o : List ℕ) (w a b n process : ℕ) (w1 : Wrote d o1 (bytes "unknownparanoid%") 0 w)
    (w2 : Wrote o1 o2 (addr_text q.client.addr) w a)
    (w3 : Wrote o2 o3 (addr_text q.server.addr) a b) (w4 : Wrote o3 o (decimal process) b n) where
  abbrev words : List ℕ
  words = bytes "unknownparanoid%"

  abbrev ca : List ℕ
  ca = addr_text q.client.addr

  abbrev sa : List ℕ
  sa = addr_text q.server.addr

  laid : o ≡ after (((words ++ ca) ++ sa) ++ decimal process) d
  laid = four_put d o1 o2 o3 o words ca sa (decimal process) w a b w1.0 w1.1 w2.0 w2.1 w3.0 w3.1 w4.1

  given_texts : texts_at names o (given_at q a b n) ≡ texts_of (request_at names q) process
  unfolding texts_at
  given_texts =
      same_texts (request_at names q) _ _ _ _ _ _ _ _ _ _ _ _
      (part_in [] (bytes "unknown") (bytes "paranoid%" ++ (ca ++ (sa ++ decimal process))) d o 0 7 (laid ∙ simp append_assoc) refl refl)
      (part_in (bytes "unknown") (bytes "paranoid") (bytes "%" ++ (ca ++ (sa ++ decimal process))) d o 7 8 (laid ∙ simp append_assoc) refl refl)
      (part_in (bytes "unknownparanoid") (bytes "%") (ca ++ (sa ++ decimal process)) d o 15 1 (laid ∙ simp append_assoc) refl refl)
      (part_in words ca (sa ++ decimal process) d o 16 (a - 16) (laid ∙ simp append_assoc) refl (omega (arith, w1.0, w2.0)))
      (part_in (words ++ ca) sa (decimal process) d o a (b - a) (laid ∙ simp append_assoc) (omega (arith, w1.0, w2.0, length-append words ca))
      (omega (arith, w3.0)))
      (part_in ((words ++ ca) ++ sa) (decimal process) [] d o b (n - b) (laid ∙ rw (append-nil (decimal process)))
      (omega (arith, w1.0, w2.0, w3.0, length-append words ca, length-append (words ++ ca) sa)) (omega (arith, w4.0)))

  module _ (g : Given) (is-g : g ≡ given_at q a b n) where
    texts_are : texts_at names o g ≡ texts_of (request_at names q) process
    texts_are = ap (texts_at names o) is-g ∙ given_texts

    pub request_short : well_formed (request_at names q) ≡ true → Short (texts_at names o g)
    request_short w = subst (λ (x : Texts). Short x) (sym texts_are) (well_formed_short (request_at names q) process w)

    pub request_gave : (d o' t : List ℕ) (v : Result ℕ Refusal) → Gave d o' v (within_room (length d) (expansion_by (texts_at names o g) t))
        → Gave d o' v (within_room (length d) (expansion_by (texts_of (request_at names q) process) t))
    request_gave d o' t v k = subst (λ (x : Texts). Gave d o' v (within_room (length d) (expansion_by x t))) texts_are k

-- ## The checks of a command that is joined and trimmed

pieces_request : (r : Request) (process : ℕ) (ps : List Piece) → flat_map (piece_by (texts_of r process)) ps ≡ flat_map (piece_text r process) ps
unfolding flat_map piece_by piece_text
pieces_request r process [] = refl
pieces_request r process (literal b ∷ ps) = rw (pieces_request r process ps)
pieces_request r process (directive y ∷ ps) = rw (inserted_by_request r process y, pieces_request r process ps)

module _ (t : List ℕ) (r : Request) (process : ℕ) (d : List ℕ) (x : Bool) (is_x : x ≡ any_bad_percent t) where
  pub percent_refused : x ≡ true → (f : Refusal) → f ≡ placeless F.BadPercent → Gave d d (Err f) (expand_trimmed t r process (length d))
  unfolding expand_trimmed lowest
  percent_refused e f g = rw (← is_x, e, g) (refl, refl)

  module _ (sound : x ≡ false) (y : Bool) (is_y : y ≡ well_formed r) where
    pub request_refused : y ≡ false → (f : Refusal) → f ≡ placeless F.BadRequest → Gave d d (Err f) (expand_trimmed t r process (length d))
    unfolding expand_trimmed lowest
    request_refused e f g = rw (← is_x, sound, ← is_y, e, g) (refl, refl)

    pub request_written : y ≡ true → (o : List ℕ) (v : Result ℕ Refusal) → Gave d o v (within_room (length d) (expansion_by (texts_of r process) t))
        → Gave d o v (expand_trimmed t r process (length d))
    unfolding expand_trimmed lowest expansion_by
    request_written e o v g = rw (← is_x, sound, ← is_y, e, ← (pieces_request r process (pieces t))) g

-- ## Joining and trimming

length_skip_blanks : (s : List ℕ) → length (skip_blanks s) ≤ length s
unfolding skip_blanks
length_skip_blanks [] = omega arith
length_skip_blanks (x ∷ t) = by (among " \t" x) (length_skip_blanks t)
  where
    by : (b : Bool) → length (skip_blanks t) ≤ length t → length (when b then skip_blanks t else x ∷ t) ≤ length (x ∷ t)
    by true h = omega arith
    by false h = omega arith

length_trim_blanks : (s : List ℕ) → length (trim_blanks s) ≤ length s
unfolding trim_blanks
length_trim_blanks s =
    rw (length-reverse (skip_blanks (reverse (skip_blanks s))))
    (omega (arith, length_skip_blanks (reverse (skip_blanks s)), length-reverse (skip_blanks s), length_skip_blanks s))

-- the joined command, n bytes, stands at the front of the buffer o
module _ (c o b : List ℕ) (n : ℕ) (is-n : n ≡ length (join c)) (is-o : o ≡ join c ++ drop (length (join c)) b) where
  pub line_text : take n o ≡ join c
  line_text = rw is-o (take_at (join c) (drop (length (join c)) b) n (sym is-n))

  pub line_within : n ≤ length o
  line_within = rw (is-o, is-n, length-append (join c) (drop (length (join c)) b)) (omega arith)

  module _ (t : List ℕ) (is-t : t ≡ trim_blanks (take n o)) where
    line_trimmed : t ≡ trimmed c
    line_trimmed = is-t ∙ rw line_text (sym (trimmed_join c))

    pub line_gave : (x r : Request) → x ≡ r → (process : ℕ) (d p : List ℕ) (v : Result ℕ Refusal) → Gave d p v (expand_trimmed t x process (length d))
        → Gave d p v (expand_trimmed (trimmed c) r process (length d))
    line_gave x r is_x process d p v g = rw (← is_x) (subst (λ (u : List ℕ). Gave d p v (expand_trimmed u x process (length d))) line_trimmed g)

    pub line_short : length (join c) ≤ 2047 → length t ≤ 2047
    line_short h = rw (is-t, line_text) (omega (arith, length_trim_blanks (join c)))

-- ## The checks of a command

module _ (c : List ℕ) (r : Request) (process : ℕ) (d : List ℕ) (j : JoinedText)
    (is-j : j ≡ record { len = length (join c); clean = not (has_bad_byte (join c)) }) where
  is_len : j.len ≡ length (join c)
  is_len = ap (λ (i : JoinedText). i.len) is-j

  is_clean : j.clean ≡ not (has_bad_byte (join c))
  is_clean = ap (λ (i : JoinedText). i.clean) is-j

  -- 5, 6 and 11 rise
  rising_faults : lowest ((F.BadByte, has_bad_byte (join c)) ∷ (F.LongLine, is_too_long (join c)) ∷ (F.BadPercent, has_bad_percent c) ∷ [])
      ≡ first_holding ((F.BadByte, has_bad_byte (join c)) ∷ (F.LongLine, is_too_long (join c)) ∷ (F.BadPercent, has_bad_percent c) ∷ [])
  unfolding rising
  rising_faults = lowest_first ((F.BadByte, has_bad_byte (join c)) ∷ (F.LongLine, is_too_long (join c)) ∷ (F.BadPercent, has_bad_percent c) ∷ []) refl

  pub byte_refused : j.clean ≡ false → (f : Refusal) → f ≡ placeless F.BadByte → Gave d d (Err f) (expand c (Some r) process (length d))
  unfolding expand first_holding
  byte_refused e f g = rw (rising_faults, not-false (has_bad_byte (join c)) (sym is_clean ∙ e), g) (refl, refl)

  pub line_length : j.len ≤ 2047 → length (join c) ≤ 2047
  line_length h = omega (arith, is_len)

  module _ (e : j.clean ≡ true) where
    pub length_refused : 2047 < j.len → (f : Refusal) → f ≡ placeless F.LongLine → Gave d d (Err f) (expand c (Some r) process (length d))
    unfolding expand first_holding
    length_refused h f g =
        let l : 2047 < length (join c) = omega (arith, is_len) in
        rw (rising_faults, not-true (has_bad_byte (join c)) (sym is_clean ∙ e), lt-ltb 2047 (length (join c)) l, g) (refl, refl)

    pub line_written : j.len ≤ 2047 → (o : List ℕ) (v : Result ℕ Refusal) → Gave d o v (expand_trimmed (trimmed c) (held r) process (length d))
        → Gave d o v (expand c (Some r) process (length d))
    unfolding expand expand_trimmed expansion has_bad_percent any_bad_percent lowest
    line_written h o v g = rw (not-true (has_bad_byte (join c)) (sym is_clean ∙ e), le-ltb 2047 (length (join c)) (line_length h)) (rw (held_fits r) at g)
