-- Laws of the tables that callers need: what the code's own words tell of a section five, of names, and of its refusals.
-- Assumes nothing.
use Rattle.std.specs.Prelude.{None, Option, Some, Err, Ok, Result, ⊤}
use Prim.Native.Nat.{ℕ, zero, suc, ◌+◌, ◌-◌, ◌<◌, ◌≤◌}
use mathlib.Core.Bool.{Bool, true, false, not, ◌||◌}
use mathlib.Core.List.{List, [], ◌∷◌}
use mathlib.Core.Path.{◌≡◌, refl, sym, ap, ◌∙◌, subst}
use native.Mathlib.Omega.{arith}
use borrow.Author.Tests.{leb-true, le-leb, lt-leb, ltb-true, ltb-false, ne_eqb, eqb-true}
use lib.Dec.{leb, ltb, eqb}
use lib.ListN.{length, take, drop, get_or, length-drop}
use lib.Seq.{take-take, take-nil, length-take-le}
use Rattle.text.specs.Basics.{when◌then◌else◌, ◌>>=◌, ◌or_else◌, given, is_some, first}
use Rattle.text.specs.Text.{first_among, equal_fold}
use Rattle.text.specs.Number.{from_digits}
use Rattle.section.specs.declared.Fault.{Fault}
use Rattle.section.specs.declared.Fault.TheVariants as F
use Rattle.section.specs.declared.Refusal.{Refusal}
use Rattle.section.specs.Refusal.{refusal, placeless}
use Rattle.section.specs.Section as S
use Rattle.patterns.specs.Pattern.{host_pattern}
use Rattle.tables.specs.declared.entry.FrameFault.{FrameFault}
use Rattle.tables.specs.declared.entry.FrameFault.TheVariants as FrameFault
use Rattle.tables.specs.Table.{Table, table, after_count, read_table, read_each, read_tables, tables_of, tables_read, table_name, table_named}
use Rattle.tables.specs.Table.{is_missing, patterns, Matcher, pattern_with, framed}
use Rattle.tables.specs.Table.{tables_frame, first_table, is_misnamed, table_name_fault, is_unsound, bad_table_fault}
use Rattle.tables.specs.Code.{followed, entries, table_count, tables_in, frame_of, place_named, words, number_or, tables_checked}
use Rattle.tables.proofs.EntryLaws.{none_some, some_same, count_at}
use Rattle.tables.proofs.CheckLaws.{place_some}

-- ## Reading

abbrev row : Table → Option (List Table × List ℕ) → Option (List Table × List ℕ)
row x o = o >>= λ r. Some (x ∷ r.0, r.1)

entries_read : (k : ℕ) (t : List ℕ) (p : List Table × List ℕ) → read_each k t ≡ Some p → entries k t ≡ p.0
unfolding read_each entries
entries_read zero t p e = ap (λ (q : List Table × List ℕ). q.0) (some_same ([], t) p e)
entries_read (suc k) t p e = by_table (λ u q. entries_read k u q) (read_table t) refl e
  where
    by_rest : (x : Table × List ℕ) (o : Option (List Table × List ℕ)) → ((q : List Table × List ℕ) → o ≡ Some q → entries k x.1 ≡ q.0)
        → row x.0 o ≡ Some p → x.0 ∷ entries k x.1 ≡ p.0
    by_rest x None ih f = absurd (none_some f)
    by_rest x (Some r) ih f =
        ap (λ (us : List Table). x.0 ∷ us) (ih r refl) ∙ ap (λ (q : List Table × List ℕ). q.0) (some_same (x.0 ∷ r.0, r.1) p f)

    by_table : ((u : List ℕ) (q : List Table × List ℕ) → read_each k u ≡ Some q → entries k u ≡ q.0) → (o : Option (Table × List ℕ)) → read_table t ≡ o
        → (o >>= λ x. row x.0 (read_each k x.1)) ≡ Some p → entries (suc k) t ≡ p.0
    by_table ih None f g = absurd (none_some g)
    by_table ih (Some x) f g = ap (followed (entries k)) f ∙ by_rest x (read_each k x.1) (λ q. ih x.1 q) g

-- where the counts fit, the tables are those that the code reads
pub tables_read_lem : (t : List ℕ) (p : List Table × List ℕ) → read_tables t ≡ Some p → tables_in t ≡ p.0
unfolding read_tables tables_in table_count
tables_read_lem t p e = by (ltb (length t) 2) refl e
  where
    by : (b : Bool) → ltb (length t) 2 ≡ b → (when b then None else read_each (count_at 2 t) (drop 2 t)) ≡ Some p
        → entries (when ltb (length t) 2 then 0 else count_at 2 t) (drop 2 t) ≡ p.0
    by true f g = absurd (none_some g)
    by false f g = rw f (entries_read (count_at 2 t) (drop 2 t) p g)

pub tables_none : tables_in [] ≡ []
unfolding tables_in table_count entries
tables_none = refl

-- what a sound frame tells
pub tables_whole : (t : List ℕ) → frame_of (read_tables t) ≡ (Ok tt) → read_tables t ≡ Some (tables_of t, [])
tables_whole t e = by (read_tables t) e
  where
    by : (o : Option (List Table × List ℕ)) → frame_of o ≡ (Ok tt) → o ≡ Some (tables_read o, [])
    by None f = let z : ◌≡◌ {A = ℕ} 0 1 = cc in absurd (omega arith)
    by (Some (ts, [])) f = refl
    by (Some (ts, x ∷ r)) f = let z : ◌≡◌ {A = ℕ} 0 1 = cc in absurd (omega arith)

pub tables_in_of : (t : List ℕ) → frame_of (read_tables t) ≡ (Ok tt) → tables_in t ≡ tables_of t
tables_in_of t e = tables_read_lem t (tables_of t, []) (tables_whole t e)

-- the same of a section five that is not cut short
pub tables_in_uncut : (t : List ℕ) → (frame_of (read_tables t) ≡ Err FrameFault.Cut → ⊥) → tables_in t ≡ tables_of t
tables_in_uncut t n = by (read_tables t) refl
  where
    by : (o : Option (List Table × List ℕ)) → read_tables t ≡ o → tables_in t ≡ tables_read (read_tables t)
    by None f = absurd (n (ap frame_of f))
    by (Some p) f = tables_read_lem t p f ∙ sym (ap tables_read f)

-- ## The frame

-- the refusal of what the counts tell
abbrev pub frame_refusal : Result ⊤ FrameFault → Option Refusal
frame_refusal (Ok tt) = None
frame_refusal (Err FrameFault.Cut) = Some (refusal F.CutShort 5 0)
frame_refusal (Err FrameFault.Trailing) = Some (placeless F.TrailingBytes)

pub frame_told : (t : List ℕ) → tables_frame t ≡ frame_refusal (frame_of (read_tables t))
unfolding tables_frame
frame_told t = by (read_tables t)
  where
    by : (o : Option (List Table × List ℕ)) → framed o ≡ frame_refusal (frame_of o)
    by None = refl
    by (Some (ts, [])) = refl
    by (Some (ts, x ∷ r)) = refl

module _ (t : List ℕ) (f : Result ⊤ FrameFault) (is_f : f ≡ frame_of (read_tables t)) where
  pub frame_sound : f ≡ (Ok tt) → tables_frame t ≡ None
  frame_sound e = frame_told t ∙ rw (← is_f, e)

  pub frame_cut : f ≡ Err FrameFault.Cut → tables_frame t ≡ Some (refusal F.CutShort 5 0)
  frame_cut e = frame_told t ∙ rw (← is_f, e)

  pub frame_trailing : f ≡ Err FrameFault.Trailing → tables_frame t ≡ Some (placeless F.TrailingBytes)
  frame_trailing e = frame_told t ∙ rw (← is_f, e)

-- a section five that is not refused by its frame is sound
pub frame_none : (t : List ℕ) → tables_frame t ≡ None → frame_of (read_tables t) ≡ Ok tt
frame_none t e = by (frame_of (read_tables t)) (sym (frame_told t) ∙ e)
  where
    by : (f : Result ⊤ FrameFault) → frame_refusal f ≡ None → f ≡ Ok tt
    by (Ok tt) g = refl
    by (Err FrameFault.Cut) g = absurd (none_some (sym g))
    by (Err FrameFault.Trailing) g = absurd (none_some (sym g))

-- ## A section cut short

drop_take : {A : Type 0} (a m : ℕ) (l : List A) → drop a (take m l) ≡ take (m - a) (drop a l)
drop_take zero m l = let e : m ≡ m - 0 = omega arith in ap (λ (k : ℕ). take k l) e
drop_take (suc a) zero l = let e : 0 - suc a ≡ 0 = omega arith in rw e
drop_take (suc a) (suc m) [] = sym (take-nil (suc m - suc a))
drop_take (suc a) (suc m) (x ∷ l) = let e : suc m - suc a ≡ m - a = omega arith in rw e (drop_take a m l)

given_some : {A : Type 0} (b : Bool) (a p : A) → given b a ≡ Some p → (b ≡ true) × (p ≡ a)
given_some true a p e = (refl, sym (some_same a p e))
given_some false a p e = absurd (none_some e)

after_read : (w : ℕ) (t : List ℕ) (p : List ℕ × List ℕ) → after_count w t ≡ Some p
    → (w + count_at w t ≤ length t) × (p ≡ (take (count_at w t) (drop w t), drop (w + count_at w t) t))
unfolding after_count
after_read w t p e =
    let f : (leb (w + count_at w t) (length t) ≡ true) × (p ≡ (take (count_at w t) (drop w t), drop (w + count_at w t) t)) =
    given_some (leb (w + count_at w t) (length t)) (take (count_at w t) (drop w t), drop (w + count_at w t) t) p e in
    (leb-true (w + count_at w t) (length t) f.0, f.1)

-- counted bytes in a text cut short: lost, or kept with less after them
data Cut (w : ℕ) (t : List ℕ) (m : ℕ) (p : List ℕ × List ℕ) : Type 0 where
  lost : after_count w (take m t) ≡ None → Cut w t m p
  kept : (k : ℕ) → k < length p.1 → after_count w (take m t) ≡ Some (p.0, take k p.1) → Cut w t m p

after_cut : (w : ℕ) (t : List ℕ) (m : ℕ) (p : List ℕ × List ℕ) → m < length t → after_count w t ≡ Some p → Cut w t m p
unfolding after_count
after_cut w t m p short e = subst (λ q. Cut w t m q) (sym f.1) (by (ltb m w) refl (ltb m (w + n)) refl)
  where
    n : ℕ
    n = count_at w t

    f : (w + n ≤ length t) × (p ≡ (take n (drop w t), drop (w + n) t))
    f = after_read w t p e

    long : length (take m t) ≡ m
    long = length-take-le m t (omega arith)

    same : w ≤ m → count_at w (take m t) ≡ n
    same h = ap (from_digits 256 0) (take-take w m t h)

    by : (b : Bool) → ltb m w ≡ b → (c : Bool) → ltb m (w + n) ≡ c → Cut w t m (take n (drop w t), drop (w + n) t)
    by true g c h = lost (rw (lt-leb (w + count_at w (take m t)) (length (take m t)) (omega (arith, long, ltb-true m w g))))
    by false g true h = lost (rw (same (ltb-false m w g), lt-leb (w + n) (length (take m t)) (omega (arith, long, ltb-true m (w + n) h))))
    by false g false h =
        let l : w + n ≤ m = ltb-false m (w + n) h in
        let k : ℕ = m - (w + n) in
        kept k (rw (length-drop (w + n) t) (omega arith))
        (rw (
          same (ltb-false m w g),
          le-leb (w + n) (length (take m t)) (omega (arith, long)),
          drop_take w m t,
          drop_take (w + n) m t,
          take-take n (m - w) (drop w t) (omega arith),
        ))

-- an entry in a text cut short, in the same way
data CutEntry (t : List ℕ) (m : ℕ) (p : Table × List ℕ) : Type 0 where
  lost_entry : read_table (take m t) ≡ None → CutEntry t m p
  kept_entry : (k : ℕ) → k < length p.1 → read_table (take m t) ≡ Some (p.0, take k p.1) → CutEntry t m p

entry_cut : (t : List ℕ) (m : ℕ) (p : Table × List ℕ) → m < length t → read_table t ≡ Some p → CutEntry t m p
unfolding read_table
entry_cut t m p short e = by_name (after_count 1 t) refl e
  where
    by_text : (n : List ℕ × List ℕ) (j : ℕ) → j < length n.1 → after_count 1 (take m t) ≡ Some (n.0, take j n.1)
        → (o : Option (List ℕ × List ℕ)) → after_count 4 n.1 ≡ o → (o >>= λ x. Some (table n.0 x.0, x.1)) ≡ Some p → CutEntry t m p
    by_text n j l q None f g = absurd (none_some g)
    by_text n j l q (Some x) f g =
        subst (λ y. CutEntry t m y) (some_same (table n.0 x.0, x.1) p g) (cut_text (after_cut 4 n.1 j x l f))
      where
        cut_text : Cut 4 n.1 j x → CutEntry t m (table n.0 x.0, x.1)
        cut_text (lost r) = lost_entry (rw (q, r))
        cut_text (kept i s r) = kept_entry i s (rw (q, r))

    by_name : (o : Option (List ℕ × List ℕ)) → after_count 1 t ≡ o → (o >>= λ n. after_count 4 n.1 >>= λ x. Some (table n.0 x.0, x.1)) ≡ Some p
        → CutEntry t m p
    by_name None f g = absurd (none_some g)
    by_name (Some n) f g = cut_name (after_cut 1 t m n short f)
      where
        cut_name : Cut 1 t m n → CutEntry t m p
        cut_name (lost r) = lost_entry (rw r)
        cut_name (kept j l r) = by_text n j l r (after_count 4 n.1) refl g

-- the tables of a text with nothing after them, cut short
each_cut : (k : ℕ) (t : List ℕ) (m : ℕ) (ts : List Table) → read_each k t ≡ Some (ts, []) → m < length t → read_each k (take m t) ≡ None
unfolding read_each
each_cut zero t m ts e h =
    absurd (let z : length t ≡ 0 = ap (λ (p : List Table × List ℕ). length p.1) (some_same ([], t) (ts, []) e) in omega arith)
each_cut (suc k) t m ts e h = by_table (λ u j us. each_cut k u j us) (read_table t) refl e
  where
    by_rest : ((u : List ℕ) (j : ℕ) (us : List Table) → read_each k u ≡ Some (us, []) → j < length u → read_each k (take j u) ≡ None)
        → (x : Table × List ℕ) (j : ℕ) → j < length x.1 → (o : Option (List Table × List ℕ)) → read_each k x.1 ≡ o → row x.0 o ≡ Some (ts, [])
        → read_each k (take j x.1) ≡ None
    by_rest ih x j l None f g = absurd (none_some g)
    by_rest ih x j l (Some r) f g =
        let z : r.1 ≡ [] = ap (λ (p : List Table × List ℕ). p.1) (some_same (x.0 ∷ r.0, r.1) (ts, []) g) in
        ih x.1 j r.0 (f ∙ ap (λ (y : List ℕ). Some (r.0, y)) z) l

    by_table : ((u : List ℕ) (j : ℕ) (us : List Table) → read_each k u ≡ Some (us, []) → j < length u → read_each k (take j u) ≡ None)
        → (o : Option (Table × List ℕ)) → read_table t ≡ o → (o >>= λ x. row x.0 (read_each k x.1)) ≡ Some (ts, [])
        → (read_table (take m t) >>= λ x. row x.0 (read_each k x.1)) ≡ None
    by_table ih None f g = absurd (none_some g)
    by_table ih (Some x) f g = cut_table (entry_cut t m x h f)
      where
        cut_table : CutEntry t m x → (read_table (take m t) >>= λ x. row x.0 (read_each k x.1)) ≡ None
        cut_table (lost_entry q) = rw q
        cut_table (kept_entry j l q) = rw (q, by_rest ih x j l (read_each k x.1) refl g)

-- "a cut in section five is 1"
pub tables_cut : (t : List ℕ) (m : ℕ) (ts : List Table) → read_tables t ≡ Some (ts, []) → m < length t → read_tables (take m t) ≡ None
unfolding read_tables
tables_cut t m ts e h = by (ltb (length t) 2) refl e (ltb (length (take m t)) 2) refl
  where
    long : length (take m t) ≡ m
    long = length-take-le m t (omega arith)

    by : (b : Bool) → ltb (length t) 2 ≡ b → (when b then None else read_each (count_at 2 t) (drop 2 t)) ≡ Some (ts, [])
        → (c : Bool) → ltb (length (take m t)) 2 ≡ c → (when c then None else read_each (count_at 2 (take m t)) (drop 2 (take m t))) ≡ None
    by true f g c k = absurd (none_some g)
    by false f g true k = refl
    by false f g false k =
        let l : 2 ≤ m = omega (arith, long, ltb-false (length (take m t)) 2 k) in
        rw (take-take 2 m t l, drop_take 2 m t) (each_cut (count_at 2 t) (drop 2 t) (m - 2) ts g (rw (length-drop 2 t) (omega arith)))

-- ## Patterns

-- whether a text is a pattern needs no tables
pub pattern_sound : (m k : Matcher) (e : List ℕ) → is_some (pattern_with m e) ≡ is_some (pattern_with k e)
unfolding pattern_with
pattern_sound m k e = by (first_among "/" e) (table_name e)
  where
    by : (b : Bool) (o : Option (List ℕ)) → is_some (when b then (o >>= λ n. Some (m n)) else host_pattern e)
        ≡ is_some (when b then (o >>= λ n. Some (k n)) else host_pattern e)
    by true None = refl
    by true (Some n) = refl
    by false o = refl

pub patterns_words : (t : Table) → patterns t ≡ words t.text
unfolding patterns words
patterns_words t = refl

-- ## Names

pub missing_place : (ts : List Table) (n : List ℕ) → is_missing ts n ≡ not (is_some (place_named ts n))
missing_place ts n = ap not (sym (place_some ts n))

pub named_none : (ts : List Table) (n : List ℕ) → place_named ts n ≡ None → table_named ts n ≡ None
named_none ts n e = by (table_named ts n) (sym (place_some ts n) ∙ ap is_some e)
  where
    by : (o : Option Table) → is_some o ≡ false → o ≡ None
    by None f = refl
    by (Some t) f = let z : ◌≡◌ {A = ℕ} 0 1 = cc in absurd (omega arith)

pub record Named (ts : List Table) (n : List ℕ) (i : ℕ) (d : Table) : Type 0 where
  pub within : i < length ts
  pub named : table_named ts n ≡ Some (get_or ts i d)

pub named_place : (ts : List Table) (n : List ℕ) (i : ℕ) (d : Table) → place_named ts n ≡ Some i → Named ts n i d
unfolding place_named table_named first
named_place [] n i d e = absurd (none_some e)
named_place (t ∷ ts) n i d e = by (equal_fold n t.name) refl (place_named ts n) refl e (λ k. named_place ts n k d)
  where
    by : (b : Bool) → equal_fold n t.name ≡ b → (o : Option ℕ) → place_named ts n ≡ o
        → (when b then Some 0 else (o >>= λ k. Some (suc k))) ≡ Some i → ((k : ℕ) → place_named ts n ≡ Some k → Named ts n k d) → Named (t ∷ ts) n i d
    by true f o g q ih =
        let z : 0 ≡ i = some_same 0 i q in
        record { within = omega arith; named = rw (← z, f) }
    by false f None g q ih = absurd (none_some q)
    by false f (Some k) g q ih =
        let z : suc k ≡ i = some_same (suc k) i q in
        record { within = omega (arith, (ih k g).within); named = rw (← z, f) (ih k g).named }

-- ## Numbers of tables

-- a number from 1 on, 0 for none
abbrev pub numbered : ℕ → Option ℕ
numbered n = when eqb n 0 then None else Some n

first_from : (p : List Table → Table → Bool) (k : ℕ) (before ts : List Table) (n : ℕ) → first_table p k before ts ≡ Some n → k ≤ n
unfolding first_table
first_from p k before [] n e = absurd (none_some e)
first_from p k before (t ∷ ts) n e = by (p before t) e (first_from p (k + 1) (t ∷ before) ts n)
  where
    by : (b : Bool) → (given b k or_else first_table p (k + 1) (t ∷ before) ts) ≡ Some n → (first_table p (k + 1) (t ∷ before) ts ≡ Some n → k + 1 ≤ n) → k ≤ n
    by true f ih = let z : k ≡ n = some_same k n f in omega arith
    by false f ih = let z : k + 1 ≤ n = ih f in omega arith

pub first_numbered : (p : List Table → Table → Bool) (ts : List Table) → first_table p 1 [] ts ≡ numbered (number_or (first_table p 1 [] ts))
first_numbered p ts = by (first_table p 1 [] ts) (λ n. first_from p 1 [] ts n)
  where
    by : (o : Option ℕ) → ((n : ℕ) → o ≡ Some n → 1 ≤ n) → o ≡ numbered (number_or o)
    by None h = refl
    by (Some n) h = let z : 1 ≤ n = h n refl in rw (ne_eqb n 0 (λ e. omega arith))

-- the refusal by a fault with the number of a table
abbrev pub refused_by : Fault → Option ℕ → Option Refusal
refused_by f o = o >>= λ n. Some (refusal f 5 n)

-- 15, of the tables: the code's number tells it
pub names_told : (ts : List Table) → table_name_fault ts ≡ refused_by F.TableName (numbered (tables_checked ts).misnamed)
unfolding table_name_fault tables_checked
names_told ts = ap (refused_by F.TableName) (first_numbered (is_misnamed ts) ts)

-- 17, of the tables, in the same way
pub unsound_told : (ts : List Table) → first_table (λ before x. is_unsound x) 1 [] ts ≡ numbered (tables_checked ts).unsound
unfolding tables_checked
unsound_told ts = first_numbered (λ before x. is_unsound x) ts

pub bad_told : (t : List ℕ) → bad_table_fault t
    ≡ refused_by F.BadTable
    (given (ltb 64 (length (tables_of t)) || ltb (S.tables).limit (length t)) 0 or_else numbered (tables_checked (tables_of t)).unsound)
unfolding bad_table_fault
bad_told t =
    ap
    (λ (o : Option ℕ). refused_by F.BadTable (given (ltb 64 (length (tables_of t)) || ltb (S.tables).limit (length t)) 0 or_else o))
    (unsound_told (tables_of t))

module _ (ts : List Table) (n : ℕ) where
  module _ (is-n : n ≡ (tables_checked ts).misnamed) where
    pub names_none : n ≡ 0 → table_name_fault ts ≡ None
    names_none e = names_told ts ∙ rw (← is-n, e)

    pub names_some : (n ≡ 0 → ⊥) → table_name_fault ts ≡ Some (refusal F.TableName 5 n)
    names_some e = names_told ts ∙ rw (← is-n, ne_eqb n 0 e)

  module _ (is-n : n ≡ (tables_checked ts).unsound) where
    pub unsound_none : n ≡ 0 → first_table (λ before x. is_unsound x) 1 [] ts ≡ None
    unsound_none e = unsound_told ts ∙ rw (← is-n, e)

    pub unsound_some : (n ≡ 0 → ⊥) → first_table (λ before x. is_unsound x) 1 [] ts ≡ Some n
    unsound_some e = unsound_told ts ∙ rw (← is-n, ne_eqb n 0 e)

-- and no fault is told by 0 alone
pub names_zero : (ts : List Table) → table_name_fault ts ≡ None → (tables_checked ts).misnamed ≡ 0
names_zero ts e = by (eqb (tables_checked ts).misnamed 0) refl (sym (names_told ts) ∙ e)
  where
    by : (b : Bool) → eqb (tables_checked ts).misnamed 0 ≡ b → refused_by F.TableName (when b then None else Some (tables_checked ts).misnamed) ≡ None
        → (tables_checked ts).misnamed ≡ 0
    by true f g = eqb-true (tables_checked ts).misnamed 0 f
    by false f g = absurd (none_some (sym g))

pub unsound_zero : (ts : List Table) → first_table (λ before x. is_unsound x) 1 [] ts ≡ None → (tables_checked ts).unsound ≡ 0
unfolding tables_checked
unsound_zero ts e = ap number_or e
