-- Laws of whole texts, gone over by their pieces, and what is made of them.
--   Measuring, Putting == the loops' invariants
--   made-allow, made-deny, made-byuid, made-portacl == the new texts are those of Salvage
--   listed-allow, listed-deny, listed-byuid, listed-portacl == the lists are those of Salvage
-- Assumes nothing.
use Prim.Native.Nat.{ℕ, suc, ◌+◌, ◌-◌, ◌*◌, ◌<◌, ◌≤◌}
use mathlib.Core.Bool.{Bool, true, false, not, ◌&&◌, true≢false}
use mathlib.Core.List.{List, [], ◌∷◌, ◌++◌, map, flat_map, append_assoc, append-nil}
use mathlib.Core.Path.{◌≡◌, refl, sym, ap, ap₂, ◌∙◌}
use native.Mathlib.Omega.{arith}
use borrow.Author.Tests.{lt-ltb}
use lib.Dec.{ltb, eqb}
use lib.ListN.{length, take, drop, length-append, length-drop}
use lib.Seq.{length-take-le}
use Rattle.text.specs.Basics.{when◌then◌else◌, is_some, is_empty}
use Rattle.text.specs.Text.{bytes, split, split_once, intercalate}
use Rattle.text.specs.Scan.{put_at}
use Rattle.text.proofs.PasteLaws.{length_put_at}
use Rattle.address_format.proofs.WriteText.{Wrote, wrote_nil, front_room, rest_room, rest_all}
use Rattle.section.specs.declared.Fault.{Fault}
use Rattle.section.specs.Refusal.{lowest}
use Rattle.section.specs.Section as S
use Rattle.section.specs.Section.{Section}
use Rattle.lines.specs.Line.{Line, line, lines, logical_lines}
use Rattle.elements.specs.Code.{View}
use Rattle.lists.specs.Code.{judged_fault}
use Rattle.rules.specs.Check.{line_fault_by}
use Rattle.rules.specs.FileCode.{judged_line}
use Rattle.byuid.specs.Byuid.{is_retired}
use Rattle.byuid.specs.Convert.{convert_line, convert_text}
use Rattle.byuid.proofs.SplitLaws.{split_some}
use Rattle.portacl.specs.Portacl.{read_entry}
use Rattle.salvage.specs.declared.piece.Kind.{Kind}
use Rattle.salvage.specs.declared.piece.Kind.TheVariants as K
use Rattle.salvage.specs.declared.piece.Piece.{Piece}
use Rattle.salvage.specs.Salvage.{keep, places, salvage_line, salvage_hosts, good_entry, salvage_portacl, in_section, bad_lines, bad_entries}
use Rattle.salvage.specs.Salvage.{change_bytes, list_bytes}
use Rattle.salvage.specs.Code.{bad_by, plain_lines, stop_of, lines_from, is_bad, Found, section_of, rule_bytes, bind_bytes, entry_bytes, text_bytes}
use Rattle.salvage.specs.Code.{listed_bytes, written_for, written, made_of}
use Rattle.salvage.proofs.PieceLaws.{stop_within, lines_stop}
use Rattle.salvage.proofs.HostsLaws.{Judge}

-- ## The loops

written_nil : (k : Kind) (v : View) (listing alone : Bool) → written k v listing alone [] ≡ []
unfolding written
written_nil k v listing alone = refl

module _ (k : Kind) (v : View) (listing : Bool) (t : List ℕ) where
  abbrev whole : List ℕ
  whole = made_of k v listing t

  -- what is written of the pieces from a place on
  abbrev left : Bool → ℕ → ℕ → List ℕ
  left alone n at = written k v listing alone (lines_from k t at n)

  -- at a place: n is the next piece's number, m the bytes so far
  pub record Measuring (m : ℕ) (alone : Bool) (n at : ℕ) : Type 0 where
    pub within : at ≤ length t + 1
    pub numbered : n ≤ at + 1
    pub few : m ≤ 9 * at
    pub so_far : length whole ≡ m + length (left alone n at)

  pub measuring_start : Measuring 0 true 1 0
  unfolding made_of
  measuring_start = record { within = omega arith; numbered = omega arith; few = omega arith; so_far = omega arith }

  module _ (alone : Bool) (n at : ℕ) (p : Piece) (f : Found k v t at n p) where
    abbrev raw : List ℕ
    raw = take (p.end - at) (drop at t)

    abbrev this : List ℕ
    this = written_for k listing p.bad alone n raw p.ended

    next : left alone n at ≡ this ++ left (alone && p.bad) p.number (p.end + 1)
    unfolding written
    next = ap (written k v listing alone) f.lines ∙ rw (← f.bad)

    length_raw : length raw ≡ p.end - at
    length_raw = length-take-le (p.end - at) (drop at t) (rw (length-drop at t) (omega (arith, f.within)))

  module _ (m : ℕ) (alone : Bool) (n at : ℕ) (w : Measuring m alone n at) where
    pub measuring_end : (stop : ℕ) → stop ≡ stop_of k (length t) → stop ≤ at → m ≡ length whole
    measuring_end stop is_stop h =
        sym (w.so_far ∙ rw (lines_stop k t at n (rw is_stop at h), written_nil k v listing alone) (omega arith))

    pub measuring_few : length t ≤ 16384 → m ≤ 147465
    measuring_few h = omega (arith, w.few, w.within)

    module _ (p : Piece) (f : Found k v t at n p) (j : ℕ)
        (is-j : (j ≡ length (written_for k listing p.bad alone n (take (p.end - at) (drop at t)) p.ended)) × (j ≤ 9 * (length (take (p.end - at)
        (drop at t)) + 1))) where
      pub measuring_on : Measuring (m + j) (alone && p.bad) p.number (p.end + 1)
      measuring_on = record {
        within = omega (arith, f.within);
        numbered = omega (arith, f.numbered, w.numbered, f.from);
        few = omega (arith, is-j.1, length_raw alone n at p f, w.few, f.from);
        so_far = w.so_far ∙ ap (λ (s : List ℕ). m + length s) (next alone n at p f)
            ∙ ap (λ (x : ℕ). m + x) (length-append (this alone n at p f) (left (alone && p.bad) p.number (p.end + 1)))
            ∙ omega (arith, is-j.0);
      }

      pub measuring_fits : length t ≤ 16384 → m + j < 18446744073709551616
      measuring_fits h = omega (arith, is-j.1, length_raw alone n at p f, w.few, f.within, f.from)

  -- what was written so far, from start on
  pub record Putting (d : List ℕ) (start : ℕ) (o : List ℕ) (place : ℕ) (alone : Bool) (n at : ℕ) : Type 0 where
    pub within : at ≤ length t + 1
    pub numbered : n ≤ at + 1
    pub done : List ℕ
    pub wrote : Wrote d o done start place
    pub long : length o ≡ length d
    pub so_far : whole ≡ done ++ left alone n at

  module _ (d : List ℕ) (start : ℕ) where
    pub putting_start : Putting d start d start true 1 0
    unfolding made_of
    putting_start = record { within = omega arith; numbered = omega arith; done = []; wrote = wrote_nil d start; long = refl; so_far = refl }

    module _ (room : start + length whole ≤ length d) (o : List ℕ) (place : ℕ) (alone : Bool) (n at : ℕ) (w : Putting d start o place alone n at) where
      pub putting_end : (stop : ℕ) → stop ≡ stop_of k (length t) → stop ≤ at → Wrote d o whole start place
      putting_end stop is_stop h =
          let e : whole ≡ w.done = w.so_far ∙ ap (λ (ls : List Line). w.done ++ written k v listing alone ls) (lines_stop k t at n (rw is_stop at h))
          ∙ ap (λ (s : List ℕ). w.done ++ s) (written_nil k v listing alone) ∙ append-nil w.done in
          rw e w.wrote

      module _ (p : Piece) (f : Found k v t at n p) where
        rest : List ℕ
        rest = left (alone && p.bad) p.number (p.end + 1)

        parts : whole ≡ w.done ++ (this alone n at p f ++ rest)
        unfolding rest
        parts = w.so_far ∙ ap (λ (s : List ℕ). w.done ++ s) (next alone n at p f)

        room_left : place + length (this alone n at p f ++ rest) ≤ length o
        room_left = rest_room d whole w.done (this alone n at p f ++ rest) start parts room o place w.wrote

        pub putting_room : place + length (written_for k listing p.bad alone n (take (p.end - at) (drop at t)) p.ended) ≤ length o
        putting_room = front_room o (this alone n at p f ++ rest) (this alone n at p f) rest place refl room_left

        pub putting_on : (q : List ℕ) (m : ℕ) → Wrote o q (written_for k listing p.bad alone n (take (p.end - at) (drop at t)) p.ended) place m
            → Putting d start q m (alone && p.bad) p.number (p.end + 1)
        unfolding rest
        putting_on q m u = record {
          within = omega (arith, f.within);
          numbered = omega (arith, f.numbered, w.numbered, f.from);
          done = w.done ++ this alone n at p f;
          wrote = rest_all d (w.done ++ this alone n at p f) w.done (this alone n at p f) start refl
              (omega (
                arith,
                room,
                ap length (parts ∙ sym (append_assoc w.done (this alone n at p f) rest)),
                length-append (w.done ++ this alone n at p f) rest,
              ))
              o place w.wrote q m u;
          long = ap length u.1 ∙ length_put_at o (this alone n at p f) place putting_room ∙ w.long;
          so_far = parts ∙ sym (append_assoc w.done (this alone n at p f) rest);
        }
