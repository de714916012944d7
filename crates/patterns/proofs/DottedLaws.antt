-- A dotted pattern read in one pass over its fields is the net that the definitions read.
-- Assumes nothing.
use Rattle.std.specs.Prelude.{None, Option, Some}
use Prim.Native.Nat.{ℕ, zero, suc, ◌+◌, ◌-◌, ◌*◌, ◌^◌, ◌<◌, ◌≤◌}
use native.Mathlib.Nat.{add-zero}
use native.Mathlib.Numerals.{add-one}
use native.Mathlib.Omega.{arith}
use mathlib.Core.Bool.{Bool, true, false, not, ◌&&◌, true≢false}
use mathlib.Core.List.{List, [], ◌∷◌}
use mathlib.Core.Path.{◌≡◌, refl, sym, ap, ap₂, subst, ◌∙◌}
use borrow.Author.Tests.{eqb-true, eqb-false, eq-eqb, ne_eqb, le-leb, lt-leb, ltb-false}
use lib.Dec.{leb, ltb, eqb}
use lib.ListN.{length, take, drop, get_or, drop_of_length-le}
use lib.Seq.{drop-cons}
use Rattle.text.specs.Basics.{when◌then◌else◌, ◌>>=◌, ◌or_else◌, given, any, each}
use Rattle.text.specs.Text.{bytes, among, equal, last_among, split, split_once, cons_first, is_digit}
use Rattle.text.specs.Number.{from_digits, read_decimal}
use Rattle.text.proofs.ScanLaws.{take_rest}
use Rattle.address.specs.Address.{read_v4}
use Rattle.address.specs.Fields.{field_more, field_fits, digits_from, address_from, ended_address, step_of, run_from}
use Rattle.address.specs.declared.fields.Run.{Run}
use Rattle.address.specs.declared.fields.Run.TheVariants as R
use Rattle.address.specs.declared.fields.Step.{Step}
use Rattle.address.specs.declared.fields.Step.TheVariants as S
use Rattle.address.proofs.FieldLaws.{each_from, split_cons, each_split, each_pos, dot_after, digit_after}
use Rattle.address.proofs.FieldLaws.{Follows, Landed, run_failed, run_at, follows_address, address_start, address_end_lem, address_stops}
use Rattle.patterns.specs.Pattern.{read_mask}
use Rattle.patterns.specs.Code.{leading_net, dotted_fields, fields_net, pair_net, mask_net, dotted_net}
use Rattle.patterns.specs.Dotted.{run_dotted, leading_from, mask_after, mask_from, ended_net}
use Rattle.patterns.proofs.TestLaws.{last_among_drop}
use Rattle.patterns.proofs.NetLaws.{pair_net_read}

-- ## Fields that are each followed by a dot

none_after : (x : Bool) (o : Option (List ℕ)) → o ≡ None → (when x then o else None) ≡ None
none_after true o e = e
none_after false o e = refl

none_dot : (v : ℕ) (x : Bool) (o : Option (List ℕ)) → o ≡ None → (when x then (o >>= λ fs. Some (v ∷ fs)) else None) ≡ None
none_dot v true o e = rw e
none_dot v false o e = refl

-- one byte more before r, whose fields are those of s where l says that a dot ends it
dotted_more : (v : ℕ) (d : Bool) (b : ℕ) (r s : List ℕ) (l : Bool) → ((u : ℕ) (x : Bool) → run_dotted u x r ≡ (when l then each_from u x (split "." s) else None))
    → run_dotted v d (b ∷ r) ≡ (when l then each_from v d (split "." (b ∷ s)) else None)
unfolding run_dotted digits_from split each any
dotted_more v d b r s true ih = by (eqb b 46) refl (split_cons s)
  where
    by : (p : Bool) → eqb b 46 ≡ p → (w : List ℕ) × (ws : List (List ℕ)) × (split "." s ≡ w ∷ ws) → run_dotted v d (b ∷ r) ≡ each_from v d (split "." (b ∷ s))
    by true e q = simp e (dot_after v d (run_dotted 0 false r) (each (read_decimal 255) (split "." s)) (ih 0 false ∙ each_split s) d)
    by false e q =
        let g : run_dotted (field_more v b) true r ≡ each_from (field_more v b) true (q.0 ∷ q.1) =
        ih (field_more v b) true ∙ ap (each_from (field_more v b) true) q.2 in
        simp (e, q.2) (digit_after (field_more v b) true (run_dotted (field_more v b) true r) q.0 q.1 g (field_fits v d b))
dotted_more v d b r s false ih = by (eqb b 46) refl
  where
    by : (p : Bool) → eqb b 46 ≡ p → run_dotted v d (b ∷ r) ≡ None
    by true e = simp e (none_dot v d (run_dotted 0 false r) (ih 0 false))
    by false e = simp e (none_after (field_fits v d b) (run_dotted (field_more v b) true r) (ih (field_more v b) true))

run_dotted_lem : (v : ℕ) (d : Bool) (b : ℕ) (t : List ℕ)
    → run_dotted v d (b ∷ t) ≡ (when last_among "." (b ∷ t) then each_from v d (split "." (take (length t) (b ∷ t))) else None)
unfolding run_dotted digits_from split each any
run_dotted_lem v d b [] = by (eqb b 46) refl d
  where
    by : (p : Bool) → eqb b 46 ≡ p → (x : Bool) → run_dotted v x (b ∷ []) ≡ (when last_among "." (b ∷ []) then each_from v x (split "." []) else None)
    by true e true = simp e
    by true e false = simp e
    by false e x = simp e (stop (field_fits v x b))
      where
        stop : (y : Bool) → (when y then run_dotted (field_more v b) true [] else None) ≡ None
        stop true = refl
        stop false = refl
run_dotted_lem v d b (c ∷ t) =
    dotted_more v d b (c ∷ t) (take (length t) (c ∷ t)) (last_among "." (c ∷ t)) (λ u x. run_dotted_lem u x c t)
    ∙ ap (λ (l : Bool). when l then each_from v d (split "." (b ∷ take (length t) (c ∷ t))) else None) (last_among_drop (b ∷ c ∷ t) 1 (omega arith))

-- leading fields, as one pass reads them
dotted_run : (t : List ℕ) → (length t ≡ 0 → ⊥) → dotted_fields t ≡ run_dotted 0 false t
unfolding dotted_fields
dotted_run [] n = absurd (n refl)
dotted_run (b ∷ t) n =
    let e : length (b ∷ t) - 1 ≡ length t = omega arith in
    rw e (sym (run_dotted_lem 0 false b t ∙ ap (λ (o : Option (List ℕ)). when last_among "." (b ∷ t) then o else None) (each_split (take (length t) (b ∷ t)))))

pub dotted_fields_pos : (t fs : List ℕ) → dotted_fields t ≡ Some fs → 0 < length fs
unfolding dotted_fields
dotted_fields_pos t fs e = by (last_among "." t) e
  where
    by : (b : Bool) → (when b then each (read_decimal 255) (split "." (take (length t - 1) t)) else None) ≡ Some fs → 0 < length fs
    by true e = each_pos 0 false (split "." (take (length t - 1) t)) fs (each_split (take (length t - 1) t) ∙ e)
    by false e = let z : ◌≡◌ {A = ℕ} 0 1 = cc in absurd (omega arith)

-- ## Leading fields, by the state of the pass

-- the net of j leading fields that write n, j of 1 to 3
abbrev leading_given : ℕ → ℕ → Option (ℕ × ℕ)
leading_given j n = given (leb j 3 && leb 1 j) (leading_net j n)

leading_cons : (k n v : ℕ) (o : Option (List ℕ)) → ((o >>= λ fs. Some (v ∷ fs)) >>= λ fs. leading_given (k + length fs) (from_digits 256 n fs))
    ≡ (o >>= λ fs. leading_given (k + 1 + length fs) (from_digits 256 (n * 256 + v) fs))
unfolding from_digits
leading_cons k n v None = refl
leading_cons k n v (Some fs) =
    let e : k + suc (length fs) ≡ k + 1 + length fs = omega arith in
    ap (λ (j : ℕ). leading_given j (from_digits 256 (n * 256 + v) fs)) e

leading_full : (k n v : ℕ) (o : Option (List ℕ)) → 3 ≤ k → ((o >>= λ fs. Some (v ∷ fs)) >>= λ fs. leading_given (k + length fs) (from_digits 256 n fs)) ≡ None
leading_full k n v None h = refl
leading_full k n v (Some fs) h = rw (lt-leb (k + suc (length fs)) 3 (omega arith))

module _ (n k v : ℕ) (d : Bool) (b : ℕ) (t : List ℕ) where
  abbrev LeadingSteps : Step → Type 0
  LeadingSteps S.Nothing = leading_from n k v d (b ∷ t) ≡ None
  LeadingSteps S.Stop = leading_from n k v d (b ∷ t) ≡ None
  LeadingSteps (S.Go m j u x) = leading_from n k v d (b ∷ t) ≡ leading_from m j u x t

  dead : (g : Bool) → eqb b 46 ≡ false → field_fits v d b ≡ false → LeadingSteps (when g then S.Nothing else S.Stop)
  unfolding run_dotted
  dead true e f = simp (e, f)
  dead false e f = simp (e, f)

  leading_step : LeadingSteps (step_of n k v d b)
  unfolding run_dotted step_of
  leading_step = by (eqb b 46) d (ltb k 3) (field_fits v d b) refl refl refl refl
    where
      by : (p x l f : Bool) → eqb b 46 ≡ p → d ≡ x → ltb k 3 ≡ l → field_fits v d b ≡ f → LeadingSteps (step_of n k v d b)
      by true true true f e1 e2 e3 e4 = simp (e1, e2, e3) (leading_cons k n v (run_dotted 0 false t))
      by true true false f e1 e2 e3 e4 = simp (e1, e2, e3) (leading_full k n v (run_dotted 0 false t) (ltb-false k 3 e3))
      by true false l f e1 e2 e3 e4 = simp (e1, e2)
      by false x l true e1 e2 e3 e4 = simp (e1, e4)
      by false x l false e1 e2 e3 e4 = simp (e1, e4) (dead (is_digit b) e1 e4)

follows_leading : Follows leading_from None
follows_leading = record {
  fails = λ n k v d b t q. subst (LeadingSteps n k v d b t) q (leading_step n k v d b t);
  goes = λ n k v d b t m l u x q. subst (LeadingSteps n k v d b t) q (leading_step n k v d b t);
}

leading_start : (t : List ℕ) → fields_net t ≡ leading_from 0 0 0 false t
unfolding fields_net dotted_fields run_dotted
leading_start [] = refl
leading_start (b ∷ t) =
    by (dotted_fields (b ∷ t)) refl
    ∙ ap (λ (o : Option (List ℕ)). o >>= λ fs. leading_given (0 + length fs) (from_digits 256 0 fs)) (dotted_run (b ∷ t) (λ z. omega arith))
  where
    by : (o : Option (List ℕ)) → dotted_fields (b ∷ t) ≡ o
        → (o >>= λ fs. given (leb (length fs) 3) (leading_net (length fs) (from_digits 256 0 fs)))
        ≡ (o >>= λ fs. leading_given (0 + length fs) (from_digits 256 0 fs))
    by None e = refl
    by (Some fs) e =
        let p : 0 < length fs = dotted_fields_pos (b ∷ t) fs e in
        let z : 0 + length fs ≡ length fs = omega arith in
        rw (z, le-leb 1 (length fs) (omega arith)) (same (leb (length fs) 3) (leading_net (length fs) (from_digits 256 0 fs)))
      where
        same : (x : Bool) (y : ℕ × ℕ) → given x y ≡ given (x && true) y
        same true y = refl
        same false y = refl

-- ## net/mask, by the state of the pass

slash_stops : (n k v : ℕ) (d : Bool) → step_of n k v d 47 ≡ S.Stop
unfolding step_of
slash_stops n k v d = refl

-- a byte at which the pass does not stop is no slash
no_slash : (n k v : ℕ) (d : Bool) (b : ℕ) → (step_of n k v d b ≡ S.Stop → ⊥) → eqb b 47 ≡ false
no_slash n k v d b h = by (eqb b 47) refl
  where
    by : (x : Bool) → eqb b 47 ≡ x → eqb b 47 ≡ false
    by true e = absurd (h (ap (step_of n k v d) (eqb-true b 47 e) ∙ slash_stops n k v d))
    by false e = e

-- the parts of a text at a slash, the first one byte longer
mask_of : ℕ → ℕ → ℕ → Bool → Option (List ℕ × List ℕ) → Option (ℕ × ℕ)
mask_of n k v d o = o >>= λ p. mask_after (address_from n k v d p.0) p.1

mask_more : (n k v : ℕ) (d : Bool) (b : ℕ) (t : List ℕ) → eqb b 47 ≡ false → mask_from n k v d (b ∷ t) ≡ mask_of n k v d (cons_first b (split_once (bytes "/") t))
unfolding mask_from split_once equal mask_of
mask_more n k v d b t e = simp (slash_not b e)
  where
    slash_not : (b : ℕ) → eqb b 47 ≡ false → eqb 47 b ≡ false
    slash_not b e = ne_eqb 47 b (λ q. eqb-false b 47 e (sym q))

follows_mask : Follows mask_from None
unfolding mask_from mask_of
follows_mask = record {
  fails = λ n k v d b t q. mask_more n k v d b t (no_slash n k v d b (λ z. unlike q z)) ∙ none_of n k v d b q (split_once (bytes "/") t);
  goes = λ n k v d b t m l u x q.
      mask_more n k v d b t (no_slash n k v d b (λ z. unlike_go m l u x q z)) ∙ same_of n k v d b m l u x q (split_once (bytes "/") t);
}
  where
    unlike : {s : Step} → s ≡ S.Nothing → s ≡ S.Stop → ⊥
    unlike q z = let y : ◌≡◌ {A = ℕ} 0 1 = cc in omega arith

    unlike_go : {s : Step} (m l u : ℕ) (x : Bool) → s ≡ S.Go m l u x → s ≡ S.Stop → ⊥
    unlike_go m l u x q z = let y : ◌≡◌ {A = ℕ} 0 1 = cc in omega arith

    none_of : (n k v : ℕ) (d : Bool) (b : ℕ) → step_of n k v d b ≡ S.Nothing → (o : Option (List ℕ × List ℕ)) → mask_of n k v d (cons_first b o) ≡ None
    none_of n k v d b q None = refl
    none_of n k v d b q (Some p) = rw (follows_address.fails n k v d b p.0 q)

    same_of : (n k v : ℕ) (d : Bool) (b m l u : ℕ) (x : Bool) → step_of n k v d b ≡ S.Go m l u x → (o : Option (List ℕ × List ℕ))
        → mask_of n k v d (cons_first b o) ≡ mask_of m l u x o
    same_of n k v d b m l u x q None = refl
    same_of n k v d b m l u x q (Some p) = ap (λ (a : Option ℕ). mask_after a p.1) (follows_address.goes n k v d b p.0 m l u x q)

-- what follows the net: nothing, a slash, or a byte that no dotted pattern has there
module _ (n k v : ℕ) (d : Bool) where
  mask_end : mask_from n k v d [] ≡ None
  unfolding mask_from split_once
  mask_end = refl

  mask_slash : (t : List ℕ) → mask_from n k v d (47 ∷ t) ≡ mask_after (ended_address n k v d) t
  unfolding mask_from split_once equal
  mask_slash t = ap (λ (a : Option ℕ). mask_after a t) (address_end_lem n k v d)

  mask_stops : (b : ℕ) (t : List ℕ) → (b ≡ 47 → ⊥) → step_of n k v d b ≡ S.Stop → mask_from n k v d (b ∷ t) ≡ None
  unfolding mask_of
  mask_stops b t h q = mask_more n k v d b t (ne_eqb b 47 h) ∙ by (split_once (bytes "/") t)
    where
      by : (o : Option (List ℕ × List ℕ)) → mask_of n k v d (cons_first b o) ≡ None
      by None = refl
      by (Some p) = rw (address_stops n k v d b p.0 q)

  leading_stops : (b : ℕ) (t : List ℕ) → step_of n k v d b ≡ S.Stop → leading_from n k v d (b ∷ t) ≡ None
  leading_stops b t q = subst (LeadingSteps n k v d b t) q (leading_step n k v d b t)

-- ## The pattern

-- an address, leading fields, or net/mask
abbrev net_of : Option ℕ → Option (ℕ × ℕ) → Option (ℕ × ℕ) → Option (ℕ × ℕ)
net_of a l m = (a >>= λ n. Some (n, 4294967295)) or_else l or_else m

dotted_start : (e : List ℕ) → dotted_net e ≡ net_of (address_from 0 0 0 false e) (leading_from 0 0 0 false e) (mask_from 0 0 0 false e)
unfolding dotted_net mask_net mask_from
dotted_start e = rw (address_start e, leading_start e) (ap (net_of (address_from 0 0 0 false e) (leading_from 0 0 0 false e)) (by (split_once (bytes "/") e)))
  where
    by : (o : Option (List ℕ × List ℕ)) → (o >>= λ p. read_v4 p.0 >>= λ n. read_mask p.1 >>= λ m. Some (n, m))
        ≡ (o >>= λ p. mask_after (address_from 0 0 0 false p.0) p.1)
    by None = refl
    by (Some p) = ap (λ (a : Option ℕ). mask_after a p.1) (address_start p.0)

net_of_ended : (n k v : ℕ) (d : Bool) → k ≤ 3 → net_of (address_from n k v d []) (leading_from n k v d []) (mask_from n k v d []) ≡ ended_net n k v d
unfolding run_dotted from_digits
net_of_ended n k v true h = rw (address_end_lem n k v true, mask_end n k v true) (last (ended_address n k v true))
  where
    last : (o : Option ℕ) → net_of o None None ≡ (o >>= λ a. Some (a, 4294967295))
    last None = refl
    last (Some a) = refl
net_of_ended n k v false h = rw (address_end_lem n k v false, mask_end n k v false, add-zero k, le-leb k 3 h) (by (eqb k 0) refl)
  where
    by : (x : Bool) → eqb k 0 ≡ x → net_of None (given (leb 1 k) (leading_net k n)) None ≡ given (not x) (leading_net k n)
    by true e = rw (lt-leb 1 k (omega (arith, eqb-true k 0 e)))
    by false e = rw (le-leb 1 k (omega (arith, eqb-false k 0 e)))

module _ (e : List ℕ) (r : Run) (is-r : r ≡ run_from 0 0 0 0 false e) where
  pub dotted_failed : r ≡ R.Failed → None ≡ dotted_net e
  dotted_failed q =
      let a : address_from 0 0 0 false e ≡ None = run_failed address_from None follows_address e r is-r q in
      let l : leading_from 0 0 0 false e ≡ None = run_failed leading_from None follows_leading e r is-r q in
      let m : mask_from 0 0 0 false e ≡ None = run_failed mask_from None follows_mask e r is-r q in
      let z : dotted_net e ≡ None = dotted_start e ∙ rw (a, l, m) in
      sym (z)

  module _ (i n k v : ℕ) (d : Bool) (q : r ≡ R.At i n k v d) where
    state : Landed e i n k v d
    state = (run_at address_from None follows_address e r is-r i n k v d q).1

    pub dotted_number : n < 16777216
    dotted_number = state.number

    pub dotted_field : v ≤ 255
    dotted_field = state.field

    pub dotted_few : k ≤ 3
    dotted_few = state.few

    pub dotted_small : n < 256 ^ k
    dotted_small = state.small

    dotted_at : dotted_net e ≡ net_of (address_from n k v d (drop i e)) (leading_from n k v d (drop i e)) (mask_from n k v d (drop i e))
    dotted_at =
        let a : address_from 0 0 0 false e ≡ address_from n k v d (drop i e) = (run_at address_from None follows_address e r is-r i n k v d q).0 in
        let l : leading_from 0 0 0 false e ≡ leading_from n k v d (drop i e) = (run_at leading_from None follows_leading e r is-r i n k v d q).0 in
        let m : mask_from 0 0 0 false e ≡ mask_from n k v d (drop i e) = (run_at mask_from None follows_mask e r is-r i n k v d q).0 in
        dotted_start e ∙ rw (a, l, m)

    pub dotted_ended : length e ≤ i → (x : Option (ℕ × ℕ)) → x ≡ ended_net n k v d → x ≡ dotted_net e
    dotted_ended h x p =
        let z : dotted_net e ≡ ended_net n k v d = dotted_at ∙ rw (drop_of_length-le e h) (net_of_ended n k v d state.few) in
        p ∙ sym (z)

    module _ (h : i < length e) where
      -- the byte that the pass stopped at, and what follows it
      dotted_stop : dotted_net e ≡ mask_from n k v d (get_or e i 0 ∷ drop (suc i) e)
      dotted_stop =
          let a = address_stops n k v d (get_or e i 0) (drop (suc i) e) (state.stops h) in
          let l = leading_stops n k v d (get_or e i 0) (drop (suc i) e) (state.stops h) in
          dotted_at ∙ rw (drop-cons e i 0 h, a, l)

      pub dotted_stopped : (get_or e i 0 ≡ 47 → ⊥) → None ≡ dotted_net e
      dotted_stopped z = sym (dotted_stop ∙ mask_stops n k v d (get_or e i 0) (drop (suc i) e) z (state.stops h))

      pub dotted_slash : get_or e i 0 ≡ 47 → (x y : Option ℕ) → x ≡ ended_address n k v d
          → y ≡ read_mask (take (length e - (i + 1)) (drop (i + 1) e)) → (p : Option (ℕ × ℕ)) → p ≡ pair_net x y → p ≡ dotted_net e
      dotted_slash z x y is_x is_y p is-p =
          let m : dotted_net e ≡ mask_after (ended_address n k v d) (drop (suc i) e) =
          dotted_stop ∙ ap (λ (b : ℕ). mask_from n k v d (b ∷ drop (suc i) e)) z ∙ mask_slash n k v d (drop (suc i) e) in
          is-p ∙ ap₂ pair_net is_x (is_y ∙ ap (λ (t : List ℕ). (read_mask t)) (take_rest e (i + 1)))
          ∙ pair_net_read (ended_address n k v d) (read_mask (drop (i + 1) e))
          ∙ ap (λ (t : List ℕ). (mask_after (ended_address n k v d) t)) (ap (λ (j : ℕ). drop j e) (add-one i))
          ∙ sym (m)

-- ## A net without a slash

pub ended_address_lem : (n k v : ℕ) (d : Bool) → d ≡ true → (x : Option ℕ) → x ≡ ended_address n k v d → (p : Option (ℕ × ℕ))
    → p ≡ pair_net x (Some 4294967295) → p ≡ ended_net n k v d
ended_address_lem n k v true z x is_x p is-p =
    is-p ∙ ap (λ (y : Option ℕ). pair_net y (Some 4294967295)) is_x ∙ pair_net_read (ended_address n k v true) (Some 4294967295)
ended_address_lem n k v false z x is_x p is-p = absurd (true≢false (sym z))

pub ended_none : (n k v : ℕ) (d : Bool) → d ≡ false → k ≡ 0 → None ≡ ended_net n k v d
ended_none n k v true z q = absurd (true≢false z)
ended_none n k v false z q = rw (eq-eqb k 0 q)

pub ended_fields : (n k v : ℕ) (d : Bool) → d ≡ false → (k ≡ 0 → ⊥) → (p : Option (ℕ × ℕ)) → p ≡ Some (leading_net k n) → p ≡ ended_net n k v d
ended_fields n k v true z q p is-p = absurd (true≢false z)
ended_fields n k v false z q p is-p = rw (ne_eqb k 0 q) is-p
