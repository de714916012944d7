-- Laws of conversion: what the writers have written, and what a converted text says.
--   byuid_fault_convert_text == no line of a converted text is of the retired form
--   decide_byuid_convert_text == it is decided by as the text was before request 11
--   length_convert_text     == it is as long
--   split_convert_text, convert_line_kept == its lines are those of the text, and only the retired ones are changed
--   convert_text_same, convert_text_again == a text without such lines stays, and so does a converted one
-- Assumes nothing.
use Rattle.std.specs.Prelude.{Err, None, Ok, Option, Some}
use Prim.Native.Nat.{ℕ, suc, ◌+◌, ◌-◌, ◌<◌, ◌≤◌}
use mathlib.Core.Bool.{Bool, true, false, not, ◌&&◌, true≢false, and-false}
use mathlib.Core.List.{List, [], ◌∷◌, ◌++◌, map, append_assoc, append-nil}
use mathlib.Core.Path.{◌≡◌, refl, sym, ap, ◌∙◌}
use native.Mathlib.Omega.{arith}
use native.Mathlib.Numerals.{add-one}
use borrow.Author.Tests.{lt-ltb, le-ltb, ltb-true, ltb-false, leb-true, leb-false, lt-leb}
use lib.Dec.{leb, ltb}
use lib.ListN.{length, take, drop, get_or, set, length-append, length-map, length-set, length-drop, length-take, drop_of_length-le}
use lib.Seq.{paste-zero, paste-suc, length-take-le, take_all, take-length, drop-drop, drop-cons, set-append_seam}
use Rattle.text.specs.Basics.{when◌then◌else◌, ◌or_else◌, holds, any, all}
use Rattle.text.specs.Text.{bytes, in_range, split_once, split, intercalate}
use Rattle.text.specs.Scan.{index_of, put_at, after}
use Rattle.text.proofs.BasicLaws.{and_true, all_append}
use Rattle.text.proofs.Intercalate.{free, split_intercalate}
use Rattle.text.proofs.PasteLaws.{Pasted, after_nil, text_more}
use Rattle.text.proofs.ScanLaws.{take_rest, split_mark, split_no_mark, split_once_mark, split_once_no_mark}
use Rattle.section.specs.declared.Fault.TheVariants as F
use Rattle.section.specs.declared.Refusal.{Refusal}
use Rattle.section.specs.Refusal.{Outcome, refusal, placeless, ◌before◌, fitting, written_of, lent_after}
use Rattle.section.specs.Section as S
use Rattle.section.specs.Section.{over_limit}
use Rattle.address.specs.declared.Addr.{Addr}
use Rattle.address.specs.declared.Addr.TheVariants as A
use Rattle.address.specs.Address.{read_v4}
use Rattle.byuid.specs.declared.Decision.{Decision}
use Rattle.byuid.specs.declared.Mark.{Mark}
use Rattle.byuid.specs.Byuid.{Range, read_comma_form, read_colon_form, within, line_grants, is_retired, retired_fault, byuid_fault, byuid_decision, FileBind}
use Rattle.byuid.specs.Byuid.{address_known, decide_byuid}
use Rattle.byuid.specs.Convert.{convert_line, convert_text, convert, line_granted, decision_before, decided_before}
use Rattle.byuid.proofs.FormLaws.{no_mark, digits_free, Form, unread, retired_form, new_form, before_free, new_form_v4}
use Rattle.byuid.proofs.FormLaws.{new_form_v6, retired_no_comma_v4, retired_no_comma_v6}
use Rattle.byuid.proofs.LineLaws.{rest}
use Rattle.byuid.proofs.SplitLaws.{split_some, split_all_free, intercalate_split}

-- ## Bytes one by one

pub pasted_step : (d s o : List ℕ) (at j : ℕ) → Pasted d s o at j → at + length s ≤ length d → j < length s → Pasted d s (set o (at + j) (get_or s j 0)) at (j + 1)
pasted_step d s o at j p room h =
    record {
      text = rw (p.text, add-one) (paste-suc d at s j 0 (omega arith) h);
      within = omega arith;
      long = length-set o (at + j) (get_or s j 0) ∙ p.long;
    }

-- ## What becomes of a line

pub convert_line_kept : (l : List ℕ) → is_retired l ≡ false → convert_line l ≡ l
unfolding convert_line
convert_line_kept l e = rw e

pub line_empty : (d l : List ℕ) (at : ℕ) → length l ≡ 0 → d ≡ put_at d at (convert_line l)
unfolding put_at read_colon_form split_once
line_empty d [] at e = paste-zero d at [] ∙ sym (ap (put_at d at) (convert_line_kept [] (unread [] refl)))
line_empty d (x ∷ l) at e = absurd (omega arith)

module _ (l : List ℕ) (e : is_retired l ≡ true) where
  abbrev f : Form l
  f = retired_form l e

  convert_line_form : convert_line l ≡ new_form f
  unfolding convert_line
  convert_line_form = rw (e, f.first, f.second)

  abbrev net : List ℕ
  net = f.address ++ bytes "/" ++ f.len

  free_new : (c : ℕ) → free c net ≡ true → free c (bytes ",") ≡ true → free c f.low ≡ true → free c (bytes "-") ≡ true → free c f.high ≡ true
      → free c (new_form f) ≡ true
  free_new c n k l h m =
      let p : ℕ → Bool = λ b. not (lib.Dec.eqb b c) in
      all_append p (net ++ bytes "," ++ f.low ++ bytes "-") f.high
      (all_append p (net ++ bytes "," ++ f.low) (bytes "-") (all_append p (net ++ bytes ",") f.low (all_append p net (bytes ",") n k) l) h)
      m

  no_colon : free 58 (new_form f) ≡ true
  unfolding all
  no_colon =
      free_new 58 (before_free l f 58 refl refl refl) refl (digits_free 58 refl 65535 f.low f.from f.reads_low) refl
      (digits_free 58 refl 65535 f.high f.to f.reads_high)

  no_newline : free 10 (new_form f) ≡ true
  unfolding all
  no_newline =
      free_new 10 (before_free l f 10 refl refl refl) refl (digits_free 10 refl 65535 f.low f.from f.reads_low) refl
      (digits_free 10 refl 65535 f.high f.to f.reads_high)

  not_again : is_retired (new_form f) ≡ false
  unfolding read_colon_form
  not_again = unread (new_form f) (rw (no_mark 58 [] (new_form f) no_colon))

  length_new : length (new_form f) ≡ length l
  length_new = lengths net f.low f.high ∙ sym (ap length f.whole)
    where
      lengths : (a b c : List ℕ) → length (a ++ bytes "," ++ b ++ bytes "-" ++ c) ≡ length (a ++ bytes ":" ++ (b ++ bytes "," ++ c))
      lengths a b c = simp length-append (omega arith)

pub is_retired_convert_line : (l : List ℕ) → is_retired (convert_line l) ≡ false
is_retired_convert_line l = by (is_retired l) refl
  where
    by : (b : Bool) → is_retired l ≡ b → is_retired (convert_line l) ≡ false
    by true e = ap is_retired (convert_line_form l e) ∙ not_again l e
    by false e = ap is_retired (convert_line_kept l e) ∙ e

pub length_convert_line : (l : List ℕ) → length (convert_line l) ≡ length l
length_convert_line l = by (is_retired l) refl
  where
    by : (b : Bool) → is_retired l ≡ b → length (convert_line l) ≡ length l
    by true e = ap length (convert_line_form l e) ∙ length_new l e
    by false e = ap length (convert_line_kept l e)

free_convert_line : (l : List ℕ) → free 10 l ≡ true → free 10 (convert_line l) ≡ true
free_convert_line l h = by (is_retired l) refl
  where
    by : (b : Bool) → is_retired l ≡ b → free 10 (convert_line l) ≡ true
    by true e = ap (free 10) (convert_line_form l e) ∙ no_newline l e
    by false e = ap (free 10) (convert_line_kept l e) ∙ h

-- ## What a line grants

-- a range with its min over its max holds nothing
over_max : (low high n : ℕ) → leb low high ≡ false → in_range low high n ≡ false
over_max low high n e = by (leb low n) refl
  where
    by : (b : Bool) → leb low n ≡ b → (leb low n && leb n high) ≡ false
    by true q = rw (q, lt-leb n high (omega (arith, leb-true low n q, leb-false low high e)))
    by false q = rw q

module _ (p : ℕ) (l : List ℕ) where
  ignored : is_retired l ≡ false → (n : ℕ) → within p (read_colon_form l) n ≡ false
  unfolding is_retired
  ignored e n = by (read_colon_form l) e
    where
      by : (o : Option (Range × Range)) → holds (λ g. leb g.1.0 g.1.1) o ≡ false → within p o n ≡ false
      by None k = refl
      by (Some g) k = rw (over_max g.1.0 g.1.1 p k) (and-false (in_range g.0.0 g.0.1 n))

  or_colon : (o : Option (Range × Range)) (n : ℕ) → within p (read_colon_form l) n ≡ false → within p o n ≡ within p (o or_else read_colon_form l) n
  or_colon None n e = sym e
  or_colon (Some g) n e = refl

  granted_kept : is_retired l ≡ false → (a : Addr) → line_grants a p l ≡ line_granted a p l
  unfolding line_grants line_granted
  granted_kept e A.Unknown = refl
  granted_kept e (A.V4 n) = or_colon (read_comma_form 32 read_v4 l) n (ignored e n)
  granted_kept e (A.V6 x y) = refl

  granted_new : (e : is_retired l ≡ true) → (a : Addr) → line_grants a p (new_form (retired_form l e)) ≡ line_granted a p l
  unfolding line_grants line_granted
  granted_new e A.Unknown = refl
  granted_new e (A.V4 n) = rw (new_form_v4 l (retired_form l e), retired_no_comma_v4 l e)
  granted_new e (A.V6 x y) = rw (new_form_v6 l (retired_form l e), retired_no_comma_v6 l e)

  pub line_grants_convert_line : (a : Addr) → line_grants a p (convert_line l) ≡ line_granted a p l
  line_grants_convert_line a = by (is_retired l) refl
    where
      by : (b : Bool) → is_retired l ≡ b → line_grants a p (convert_line l) ≡ line_granted a p l
      by true e = ap (line_grants a p) (convert_line_form l e) ∙ granted_new e a
      by false e = ap (line_grants a p) (convert_line_kept l e) ∙ granted_kept e a

-- ## A text

all_converted : (ls : List (List ℕ)) → all (free 10) ls ≡ true → all (free 10) (map convert_line ls) ≡ true
unfolding all
all_converted [] e = refl
all_converted (l ∷ ls) e = let a = and_true (free 10 l) (all (free 10) ls) e in rw (free_convert_line l a.0) (all_converted ls a.1)

-- a converted text has the lines of the text, converted
pub split_convert_text : (t : List ℕ) → split "\n" (convert_text t) ≡ map convert_line (split "\n" t)
unfolding convert_text
split_convert_text t =
    let some : 0 < length (map convert_line (split "\n" t)) = omega (arith, length-map (split "\n" t) convert_line, split_some "\n" t) in
    split_intercalate "\n" (map convert_line (split "\n" t)) some (all_converted (split "\n" t) (split_all_free "\n" t))

none_retired : (n : ℕ) (ls : List (List ℕ)) → retired_fault n (map convert_line ls) ≡ None
unfolding retired_fault
none_retired n [] = refl
none_retired n (l ∷ ls) = rw (is_retired_convert_line l) (none_retired (n + 1) ls)

pub byuid_fault_convert_text : (t : List ℕ) → byuid_fault (convert_text t) ≡ None
unfolding byuid_fault
byuid_fault_convert_text t = rw (split_convert_text t) (none_retired 1 (split "\n" t))

unretired_same : (n : ℕ) (ls : List (List ℕ)) → retired_fault n ls ≡ None → map convert_line ls ≡ ls
unfolding retired_fault
unretired_same n [] e = refl
unretired_same n (l ∷ ls) e = by (is_retired l) refl e (λ h. unretired_same (n + 1) ls h)
  where
    by : (b : Bool) → is_retired l ≡ b → (when b then Some (refusal F.RetiredForm (S.byuid).order n) else retired_fault (n + 1) ls) ≡ None
        → (retired_fault (n + 1) ls ≡ None → map convert_line ls ≡ ls) → convert_line l ∷ map convert_line ls ≡ l ∷ ls
    by true q h ih = let z : ◌≡◌ {A = ℕ} 0 1 = cc in absurd (omega arith)
    by false q h ih = rw (convert_line_kept l q, ih h)

pub convert_text_same : (t : List ℕ) → byuid_fault t ≡ None → convert_text t ≡ t
unfolding byuid_fault convert_text
convert_text_same t e = rw (unretired_same 1 (split "\n" t) e) (intercalate_split "\n" t)

pub convert_text_again : (t : List ℕ) → convert_text (convert_text t) ≡ convert_text t
convert_text_again t = convert_text_same (convert_text t) (byuid_fault_convert_text t)

lengths_same : (m : List ℕ) (ls : List (List ℕ)) → length (intercalate m (map convert_line ls)) ≡ length (intercalate m ls)
unfolding intercalate
lengths_same m [] = refl
lengths_same m (l ∷ []) = length_convert_line l
lengths_same m (l ∷ k ∷ ls) =
    rw (
      length-append (convert_line l ++ m) (intercalate m (map convert_line (k ∷ ls))),
      length-append (convert_line l) m,
      length_convert_line l,
      lengths_same m (k ∷ ls),
      length-append (l ++ m) (intercalate m (k ∷ ls)),
      length-append l m,
    )

pub length_convert_text : (t : List ℕ) → length (convert_text t) ≡ length t
unfolding convert_text
length_convert_text t = lengths_same (bytes "\n") (split "\n" t) ∙ ap length (intercalate_split "\n" t)

any_converted : (a : Addr) (p : ℕ) (ls : List (List ℕ)) → any (line_grants a p) (map convert_line ls) ≡ any (line_granted a p) ls
unfolding any
any_converted a p [] = refl
any_converted a p (l ∷ ls) = rw (line_grants_convert_line p l a, any_converted a p ls)

decided : (t : List ℕ) (m : Mark) (p : ℕ) (a : Addr) (uid : ℕ) → byuid_decision (convert_text t) m p a uid ≡ decision_before t m p a uid
unfolding byuid_decision
decided t m p a uid = rw (split_convert_text t, any_converted a p (split "\n" t))

fitted : (t : List ℕ) (o : Option FileBind)
    → fitting address_known o (λ b. Ok (byuid_decision (convert_text t) b.mark b.asked.port b.asked.address b.asked.uid))
    ≡ fitting address_known o (λ b. Ok (decision_before t b.mark b.asked.port b.asked.address b.asked.uid))
fitted t None = refl
fitted t (Some b) =
    ap (λ (d : Decision). when address_known b then Ok d else Err (placeless F.BadRequest))
    (decided t b.mark b.asked.port b.asked.address b.asked.uid)

alone : (g : Option Refusal) (c : Outcome Decision) → ((g or_else None) before c) ≡ (g before c)
alone None c = refl
alone (Some r) c = refl

-- the decision on a converted text is the one on the text before request 11
pub decide_byuid_convert_text : (t : List ℕ) (o : Option FileBind) → decide_byuid (convert_text t) o ≡ decided_before t o
unfolding decide_byuid decided_before
decide_byuid_convert_text t o =
    rw (byuid_fault_convert_text t, length_convert_text t) (alone (over_limit S.byuid t) _
    ∙ ap (λ (c : Outcome Decision). over_limit S.byuid t before c) (fitted t o))

-- ## A line is written

put_at_parts : (d s : List ℕ) (at : ℕ) → put_at d at s ≡ take at d ++ s ++ drop (at + length s) d
unfolding put_at
put_at_parts d s at = rw (take-length s)

-- a byte of what was written is exchanged
byte_exchanged : (d x y : List ℕ) (at k b c : ℕ) → at ≤ length d → k ≡ at + length x → set (put_at d at (x ++ b ∷ y)) k c ≡ put_at d at (x ++ c ∷ y)
byte_exchanged d x y at k b c h e =
    rw (put_at_parts d (x ++ b ∷ y) at, put_at_parts d (x ++ c ∷ y) at, length-append x (b ∷ y), length-append x (c ∷ y), e)
    (seam (take at d) x y (drop (at + (length x + suc (length y))) d) (at + length x) (rw (length-take-le at d h)))
  where
    seam : (p x y r : List ℕ) (k : ℕ) → k ≡ length p + length x → set (p ++ (x ++ b ∷ y) ++ r) k c ≡ p ++ (x ++ c ∷ y) ++ r
    seam p x y r k e =
        rw (e, ← (length-append p x)) (ap (λ (l : List ℕ). set l (length (p ++ x)) c) (shape b) ∙ set-append_seam (p ++ x) b (y ++ r) c ∙ sym (shape c))
      where
        shape : (b : ℕ) → p ++ (x ++ b ∷ y) ++ r ≡ (p ++ x) ++ b ∷ (y ++ r)
        shape b = simp append_assoc

-- the parts around a mark are one pair
parts_same : (o : Option (List ℕ × List ℕ)) (a b c d : List ℕ) → o ≡ Some (a, b) → o ≡ Some (c, d) → (a ≡ c) × (b ≡ d)
parts_same None a b c d e k = let z : ◌≡◌ {A = ℕ} 0 1 = cc in absurd (omega arith)
parts_same (Some p) a b c d e k =
    let q : p ≡ (a, b) = cc e in
    let r : p ≡ (c, d) = cc k in (
      sym (ap (λ (p : List ℕ × List ℕ). p.0) q) ∙ ap (λ (p : List ℕ × List ℕ). p.0) r,
      sym (ap (λ (p : List ℕ × List ℕ). p.1) q) ∙ ap (λ (p : List ℕ × List ℕ). p.1) r,
    )

not_none : (o : Option (List ℕ × List ℕ)) (p : List ℕ × List ℕ) → o ≡ None → o ≡ Some p → ⊥
not_none None p e k = let z : ◌≡◌ {A = ℕ} 0 1 = cc in omega arith
not_none (Some q) p e k = let z : ◌≡◌ {A = ℕ} 0 1 = cc in omega arith

-- the places of the two marks
module _ (l : List ℕ) (x : Bool) (is_x : x ≡ is_retired l) (e : x ≡ true) (i : ℕ) (is-i : i ≡ index_of 58 l) where
  retired : is_retired l ≡ true
  retired = sym is_x ∙ e

  pub colon_within : i < length l
  unfolding read_colon_form
  colon_within = by (ltb i (length l)) refl
    where
      by : (b : Bool) → ltb i (length l) ≡ b → i < length l
      by true q = ltb-true i (length l) q
      by false q = absurd (true≢false (sym retired ∙ unread l (rw (split_once_no_mark 58 l i is-i (ltb-false i (length l) q)))))

  net_at : (take i l ≡ net l retired) × (drop (i + 1) l ≡ (f l retired).low ++ bytes "," ++ (f l retired).high)
  net_at =
      parts_same (split_once (bytes ":") l) (take i l) (drop (i + 1) l) (net l retired) ((f l retired).low ++ bytes "," ++ (f l retired).high)
      (split_once_mark 58 l i is-i colon_within) (f l retired).first

  length_net : length (net l retired) ≡ i
  length_net = sym (ap length net_at.0) ∙ length-take-le i l (omega (arith, colon_within))

  module _ (j : ℕ) (is-j : j ≡ index_of 44 (rest l i)) where
    at_comma : j ≡ index_of 44 ((f l retired).low ++ bytes "," ++ (f l retired).high)
    at_comma = is-j ∙ rw (take_rest l (i + 1), net_at.1)

    abbrev ports : List ℕ
    ports = (f l retired).low ++ bytes "," ++ (f l retired).high

    comma_in : j < length ports
    comma_in = by (ltb j (length ports)) refl
      where
        by : (b : Bool) → ltb j (length ports) ≡ b → j < length ports
        by true q = ltb-true j (length ports) q
        by false q =
            absurd (not_none (split_once (bytes ",") ports) _ (split_once_no_mark 44 ports j at_comma (ltb-false j (length ports) q)) (f l retired).second)

    length_low : length (f l retired).low ≡ j
    length_low =
        sym (ap length (parts_same (split_once (bytes ",") ports) (take j ports) (drop (j + 1) ports) (f l retired).low (f l retired).high
        (split_once_mark 44 ports j at_comma comma_in) (f l retired).second).0) ∙ length-take-le j ports (omega (arith, comma_in))

    pub comma_within : i + 1 + j < length l
    comma_within = omega (arith, comma_in, colon_within, ap length net_at.1, length-drop (i + 1) l)

    pub line_converted : (d o : List ℕ) (at : ℕ) → at + length l ≤ length d → o ≡ put_at d at l
        → set (set o (at + i) 44) (at + (i + 1 + j)) 45 ≡ put_at d at (convert_line l)
    line_converted d o at h is-o =
        rw (is-o, convert_line_form l retired)
        (ap (λ (t : List ℕ). set (set (put_at d at t) (at + i) 44) (at + (i + 1 + j)) 45) ((f l retired).whole ∙ shape 58)
        ∙ ap (λ (t : List ℕ). set t (at + (i + 1 + j)) 45)
        (byte_exchanged d (net l retired) ((f l retired).low ++ 44 ∷ (f l retired).high) at (at + i) 58 44 (omega (arith, h)) (omega (arith, length_net)))
        ∙ ap (λ (t : List ℕ). set (put_at d at t) (at + (i + 1 + j)) 45) regroup
        ∙ byte_exchanged d (net l retired ++ 44 ∷ (f l retired).low) (f l retired).high at (at + (i + 1 + j)) 44 45 (omega (arith, h))
        (omega (arith, length_net, length_low, length-append (net l retired) (44 ∷ (f l retired).low)))
        ∙ ap (put_at d at) final)
      where
        shape : (c : ℕ) → net l retired ++ (c ∷ []) ++ ((f l retired).low ++ bytes "," ++ (f l retired).high)
            ≡ net l retired ++ c ∷ ((f l retired).low ++ 44 ∷ (f l retired).high)
        shape c = simp append_assoc

        regroup : net l retired ++ 44 ∷ ((f l retired).low ++ 44 ∷ (f l retired).high) ≡ (net l retired ++ 44 ∷ (f l retired).low) ++ 44 ∷ (f l retired).high
        regroup = simp append_assoc

        final : (net l retired ++ 44 ∷ (f l retired).low) ++ 45 ∷ (f l retired).high ≡ new_form (f l retired)
        final = simp append_assoc

pub line_kept : (l : List ℕ) (x : Bool) → x ≡ is_retired l → x ≡ false → (d o : List ℕ) (at : ℕ) → o ≡ put_at d at l → o ≡ put_at d at (convert_line l)
line_kept l x is_x e d o at is-o = is-o ∙ ap (put_at d at) (sym (convert_line_kept l (sym is_x ∙ e)))

-- ## The lines are written

convert_text_nil : convert_text [] ≡ []
unfolding convert_text convert_line is_retired read_colon_form split_once split intercalate
convert_text_nil = refl

more_after : (m w : List ℕ) (ws : List (List ℕ)) → 0 < length ws → intercalate m (w ∷ ws) ≡ w ++ m ++ intercalate m ws
unfolding intercalate
more_after m w [] h = absurd (omega arith)
more_after m w (v ∷ ws) h = refl

-- by the first line, and the text after its newline
first_converted : (t : List ℕ) (n : ℕ) → n ≡ index_of 10 t → n < length t
    → convert_text t ≡ (convert_line (take n t) ++ 10 ∷ []) ++ convert_text (drop (n + 1) t)
unfolding convert_text
first_converted t n is-n h =
    rw (split_mark "\n" 10 refl t n is-n h)
    (more_after (bytes "\n") (convert_line (take n t)) (map convert_line (split "\n" (drop (n + 1) t)))
    (omega (arith, length-map (split "\n" (drop (n + 1) t)) convert_line, split_some "\n" (drop (n + 1) t))))

-- a last line without a newline
last_converted : (t : List ℕ) (n : ℕ) → n ≡ index_of 10 t → length t ≤ n → convert_text t ≡ convert_line t
unfolding convert_text intercalate
last_converted t n is-n h = rw (split_no_mark "\n" 10 refl t n is-n h)

-- a byte more at the end of what was written
after_byte : (d u : List ℕ) (k b : ℕ) → length u < length d → k ≡ length u → set (after u d) k b ≡ after (u ++ b ∷ []) d
unfolding after
after_byte d u k b h e =
    rw (e, drop-cons d (length u) 0 h)
    (set-append_seam u (lib.ListN.get_or d (length u) 0) (drop (suc (length u)) d) b ∙ rw (length-append u (b ∷ [])) shape)
  where
    shape : u ++ b ∷ drop (suc (length u)) d ≡ (u ++ b ∷ []) ++ drop (length u + 1) d
    shape = rw add-one (sym (append_assoc u (b ∷ []) (drop (suc (length u)) d)))

-- at the place `at` of t, the lines before it written to o, which was d
pub record Converting (d t o : List ℕ) (at : ℕ) : Type 0 where
  pub within : at ≤ length t
  pub long : length o ≡ length d
  pub done : List ℕ
  pub place : length done ≡ at
  pub written : o ≡ after done d
  pub left : convert_text t ≡ done ++ convert_text (drop at t)

pub converting_start : (d t : List ℕ) → Converting d t d 0
converting_start d t = record { within = omega arith; long = refl; done = []; place = refl; written = sym (after_nil d); left = refl }

module _ (d t o : List ℕ) (at : ℕ) (w : Converting d t o at) where
  pub converting_end : length t ≤ at → o ≡ after (convert_text t) d
  converting_end h = w.written ∙ ap (λ (u : List ℕ). after u d)
      (sym (w.left ∙ ap (λ (s : List ℕ). w.done ++ convert_text s) (drop_of_length-le t h) ∙ ap (λ (s : List ℕ). w.done ++ s) convert_text_nil
      ∙ append-nil w.done))

  module _ (room : length t ≤ length d) (h : at < length t) (n : ℕ) (is-n : n ≡ index_of 10 (take (length t - at) (drop at t)))
      (in-text : n ≤ length (take (length t - at) (drop at t))) (p : List ℕ)
      (is-p : p ≡ put_at o at (convert_line (take ((at + n) - at) (drop at t)))) where
    found : n ≡ index_of 10 (drop at t)
    found = rw (take_rest t at) at is-n

    pub within_text : at + n ≤ length t
    within_text = omega (arith, ap length (take_rest t at), length-drop at t)

    abbrev line : List ℕ
    line = take n (drop at t)

    put : p ≡ after (w.done ++ convert_line line) d
    put = let e : (at + n) - at ≡ n = omega arith in
        is-p ∙ rw e (text_more d o w.done (convert_line line) at w.written (sym w.place))

    pub converting_last : at + n ≡ length t → p ≡ after (convert_text t) d
    converting_last e =
        let k : length (drop at t) ≤ n = rw (length-drop at t) (omega arith) in
        put ∙ ap (λ (u : List ℕ). after (w.done ++ u) d) (ap convert_line (take_all n (drop at t) k) ∙ sym (last_converted (drop at t) n found k))
        ∙ ap (λ (u : List ℕ). after u d) (sym w.left)

    length_line : length (convert_line line) ≡ n
    length_line = length_convert_line line ∙ length-take-le n (drop at t) (rw (length-drop at t) (omega (arith, within_text)))

    pub converting_on : (at + n ≡ length t → ⊥) → length p ≡ length o → Converting d t (set p (at + n) 10) (at + n + 1)
    converting_on e long =
        let u : List ℕ = w.done ++ convert_line line in
        let lu : length u ≡ at + n = length-append w.done (convert_line line) ∙ omega (arith, w.place, length_line) in
        let k : at + n < length t = omega (arith, within_text, e) in
        record {
          within = omega arith;
          long = length-set p (at + n) 10 ∙ long ∙ w.long;
          done = u ++ 10 ∷ [];
          place = length-append u (10 ∷ []) ∙ omega (arith, lu);
          written = ap (λ (q : List ℕ). set q (at + n) 10) put ∙ after_byte d u (at + n) 10 (omega arith) (sym lu);
          left =
              let j : at + (n + 1) ≡ at + n + 1 = omega arith in
              let q : convert_text (drop at t) ≡ (convert_line line ++ 10 ∷ []) ++ convert_text (drop (at + n + 1) t)
              = first_converted (drop at t) n found (rw (length-drop at t) (omega arith)) ∙ rw (drop-drop (n + 1) at t, j) in
              w.left ∙ ap (λ (s : List ℕ). w.done ++ s) q ∙ simp append_assoc;
        }

-- ## The call

module _ (t out : List ℕ) (x : Bool) (is_x : x ≡ ltb 8192 (length t)) where
  pub convert_over : x ≡ true → (r : Refusal) → r ≡ refusal F.OverLimit 3 0
      → (Err r ≡ written_of (convert t (length out))) × (out ≡ lent_after out (convert t (length out)))
  unfolding convert
  convert_over e r is-r = rw (← is_x, e, is-r) (refl, refl)

  module _ (e : x ≡ false) where
    pub convert_no_room : length out < length t → (r : Refusal) → r ≡ placeless F.NoRoom
        → (Err r ≡ written_of (convert t (length out))) × (out ≡ lent_after out (convert t (length out)))
    unfolding convert
    convert_no_room h r is-r = rw (← is_x, e, length_convert_text t, lt-ltb (length out) (length t) h, is-r) (refl, refl)

    pub convert_count : length t ≤ length out → (o : List ℕ) → o ≡ after (convert_text t) out
        → (Ok (length t) ≡ written_of (convert t (length out))) × (o ≡ lent_after out (convert t (length out)))
    unfolding convert after
    convert_count h o is-o = rw (← is_x, e, length_convert_text t, le-ltb (length out) (length t) h) (ap Ok (sym (length_convert_text t)), is-o)
