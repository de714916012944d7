-- The search by the entries of an accepted sheet is the search that a lone call makes.
--   Accepted       == what is known of an accepted sheet
--   tables-ready   == the parts of its index are the entries of its two texts
--   few_tables     == it has at most 64 tables
--   searched_same  == what is found by notes on the tables
-- Assumes nothing.
use Rattle.std.specs.Prelude.{Err, None, Ok, Option, Some, unwrap_or}
use Prim.Native.Nat.{ℕ, ◌+◌, ◌-◌, ◌*◌, ◌≤◌, ◌<◌}
use mathlib.Core.Bool.{Bool, true, false, ◌&&◌, ◌||◌, and_assoc}
use mathlib.Core.List.{List, [], ◌∷◌, ◌++◌, append_assoc}
use mathlib.Core.Path.{◌≡◌, refl, sym, ap, ap₂, ◌∙◌}
use native.Mathlib.Omega.{arith}
use borrow.Author.Tests.{ltb-false, lt-ltb, le-ltb}
use lib.Dec.{ltb}
use lib.ListN.{length, take, drop, length-append}
use lib.Seq.{take_at, drop_at, drop-drop}
use Rattle.text.specs.Basics.{when◌then◌else◌, ◌>>=◌, ◌or_else◌, given, is_some, first, sum_until}
use Rattle.text.specs.Text.{equal}
use Rattle.text.specs.Number.{to_digits}
use Rattle.text.specs.Scan.{after}
use Rattle.text.proofs.PasteLaws.{length_put_at, put_first, put_more}
use Rattle.text.proofs.ScanLaws.{take_rest, equal_lengths}
use Rattle.section.specs.declared.Fault.TheVariants as F
use Rattle.section.specs.declared.Part.{Part}
use Rattle.section.specs.declared.Refusal.{Refusal}
use Rattle.section.specs.Refusal.{Outcome, refusal, placeless, within_room, written_of, lent_after}
use Rattle.section.specs.Section as Sec
use Rattle.section.specs.Section.{part, bytes_at}
use Rattle.lines.specs.Line.{lines}
use Rattle.lines.specs.Rule.{Rule}
use Rattle.tables.specs.Table.{Table as PatternTable, tables_of, match_of, bad_table_fault, first_table, is_unsound}
use Rattle.tables.specs.Code.{tables_in}
use Rattle.tables.specs.Tried.{capped, tried_of}
use Rattle.elements.specs.declared.Found.{Found}
use Rattle.elements.specs.Request.{Request}
use Rattle.elements.specs.Code.{View, view_of, noted}
use Rattle.elements.proofs.CountLaws.{capped_twice, capped_add, capped_left}
use Rattle.lists.specs.Walk.{rule_found}
use Rattle.lists.specs.Looked.{rule_looked}
use Rattle.rules.specs.declared.Verdict.TheVariants as Ver
use Rattle.rules.specs.declared.File.{File}
use Rattle.rules.specs.declared.File.TheVariants.{Neither, Allow, Deny}
use Rattle.rules.specs.declared.Answer.{Answer}
use Rattle.rules.specs.declared.search.Searched.{Searched}
use Rattle.rules.specs.Check.{hosts_fault, tables_fault}
use Rattle.rules.specs.Search.{answer, line_answer, search}
use Rattle.rules.specs.Looked.{line_count, file_looked, looked}
use Rattle.rules.specs.FileCode.{Query, query_found, query_looked}
use Rattle.rules.specs.Code.{Noted, lines_fault, searched}
use Rattle.rules.proofs.NearLaws.{Near, rule_near, until, total, total_near}
use Rattle.rules.proofs.PlaceLaws.{text_within}
use Rattle.rules.proofs.SearchLaws.{view_found_lem, view_looked_lem, notes_none}
use Rattle.byuid.specs.Byuid.{byuid_fault}
use Rattle.portacl.specs.Portacl.{portacl_fault}
use Rattle.sheet.specs.declared.Parts.{Parts}
use Rattle.sheet.specs.Sheet.{texts_at, texts_fault, unpack}
use Rattle.sheet.specs.Code.{limits_fault, contents_fault}
use Rattle.tables.specs.Table.{tables_frame}
use Rattle.sheet.proofs.TextsLaws.{texts_fault_parts, or_else_none, tables_read_lem, tables_named}
use Rattle.sheet.proofs.FrameLaws.{Framed, length_bytes_at, tables_frame_none, unpack_answered}
use Rattle.sheet.proofs.SheetLaws.{at_most}
use Rattle.station.specs.Station.{file_place, in_sheet}
use Rattle.index.specs.declared.Entry.{Entry}
use Rattle.index.specs.declared.search.Seeking.{Seeking}
use Rattle.index.specs.Index.{rule_table, rules_at, two_bytes, table_bytes, index_bytes}
use Rattle.index.specs.Code.{number_from, AllSmall, Table, seeking, seek_in, ended_by, seek_then, seek_both, searched_at, Ready}
use Rattle.index.proofs.TableLaws.{length_two, length_table, rules_at_most, Two, Wrote, equal_append}
use Rattle.index.proofs.EntryLaws.{number_of}
use Rattle.index.proofs.TextLaws.{all_small, moved, in_file, Same, text_same}

module _ (sheet : List ℕ) (p : Parts) (ok : unpack sheet ≡ Ok p) where
  abbrev al : List ℕ
  al = bytes_at sheet p.allow

  abbrev de : List ℕ
  de = bytes_at sheet p.deny

  abbrev ta : List ℕ
  ta = bytes_at sheet p.tables

  framed : Framed sheet p
  framed = (unpack_answered sheet p ok).0

  sound : texts_fault (texts_at sheet p) ≡ None
  sound = (unpack_answered sheet p ok).1

  pub allow_inside : p.allow.place + p.allow.len ≤ length sheet
  allow_inside = omega (arith, framed.allow.place, framed.allow.within)

  pub deny_inside : p.deny.place + p.deny.len ≤ length sheet
  deny_inside = omega (arith, framed.deny.place, framed.deny.within)

  pub allow_length : length al ≡ p.allow.len
  allow_length = length_bytes_at framed.allow

  pub deny_length : length de ≡ p.deny.len
  deny_length = length_bytes_at framed.deny

  pub sheet_length : length sheet ≤ 57360
  sheet_length = at_most sheet p ok

  contents : contents_fault al de (bytes_at sheet p.byuid) (bytes_at sheet p.portacl) ta ≡ None
  contents =
      let bu : List ℕ = bytes_at sheet p.byuid in
      let po : List ℕ = bytes_at sheet p.portacl in
      (or_else_none (tables_frame ta) (contents_fault al de bu po ta)
      (or_else_none (limits_fault al de bu po) (tables_frame ta or_else contents_fault al de bu po ta) (sym (texts_fault_parts al de bu po ta) ∙ sound)).1).1

  lines_sound : ((hosts_fault Sec.allow al ≡ None) × (hosts_fault Sec.deny de ≡ None)) × (tables_fault al de ta ≡ None)
  unfolding contents_fault lines_fault
  lines_sound =
      let bu : List ℕ = bytes_at sheet p.byuid in
      let po : List ℕ = bytes_at sheet p.portacl in
      let x = or_else_none (lines_fault al de or_else portacl_fault po or_else tables_fault al de ta) (byuid_fault bu) contents in
      let y = or_else_none (lines_fault al de or_else portacl_fault po) (tables_fault al de ta) x.0 in
      let z = or_else_none (lines_fault al de) (portacl_fault po) y.0 in
      (or_else_none (hosts_fault Sec.allow al) (hosts_fault Sec.deny de) z.0, y.1)

  pub tables_whole : tables_in ta ≡ tables_of ta
  tables_whole = tables_read_lem ta (tables_frame_none (texts_at sheet p) sound)

  pub few_tables : length (tables_in ta) ≤ 64
  unfolding bad_table_fault
  few_tables = rw tables_whole (ltb-false 64 (length (tables_of ta)) (by (ltb 64 (length (tables_of ta))) (tables_named al de ta lines_sound.1)))
    where
      by : (b : Bool) → ((given (b || ltb 12288 (length ta)) 0 or_else first_table (λ before x. is_unsound x) 1 [] (tables_of ta))
          >>= λ n. Some (refusal F.BadTable 5 n)) ≡ None → b ≡ false
      by false h = refl
      by true h = let z : ◌≡◌ {A = ℕ} 0 1 = cc in absurd (omega arith)

  -- ## The parts of an index

  abbrev ar : List Entry
  ar = rules_at sheet p.allow

  abbrev dr : List Entry
  dr = rules_at sheet p.deny

  allow_small : AllSmall ar
  allow_small = all_small p.allow.place al (omega (arith, allow_inside, allow_length, sheet_length))

  deny_small : AllSmall dr
  deny_small = all_small p.deny.place de (omega (arith, deny_inside, deny_length, sheet_length))

  -- ## The search by entries

  module _ (q : Query) where
    abbrev g : Rule → Found
    g = query_found q

    abbrev c : Rule → ℕ
    c = query_looked q

    abbrev of_allow_lem : Option Answer
    of_allow_lem = first (line_answer Ver.Granted Allow g) (lines al)

    abbrev of_deny_lem : Option Answer
    of_deny_lem = first (line_answer Ver.Denied Deny g) (lines de)

    same_allow : Same sheet p.allow allow_inside Ver.Granted Allow q (lines al)
    same_allow = text_same sheet p.allow allow_inside Ver.Granted Allow q Sec.allow lines_sound.0.0

    same_deny : Same sheet p.deny deny_inside Ver.Denied Deny q (lines de)
    same_deny = text_same sheet p.deny deny_inside Ver.Denied Deny q Sec.deny lines_sound.0.1

    seek_allow : seek_in sheet p.allow.place Ver.Granted Allow q ar ≡ seeking (in_file p.allow.place of_allow_lem) (capped (until Ver.Granted Allow g c al))
    unfolding seek_in
    seek_allow = ap₂ (λ (o : Option Answer) (n : ℕ). seeking o (capped n)) same_allow.answers same_allow.counts

    seek_deny : seek_in sheet p.deny.place Ver.Denied Deny q dr ≡ seeking (in_file p.deny.place of_deny_lem) (capped (until Ver.Denied Deny g c de))
    unfolding seek_in
    seek_deny = ap₂ (λ (o : Option Answer) (n : ℕ). seeking o (capped n)) same_deny.answers same_deny.counts

    place_of : (f : File) (base : ℕ) → file_place p f ≡ base → (a : Answer) → a.file ≡ f → moved base a ≡ in_sheet p a
    place_of f base e a h = ap (λ (k : ℕ). answer a.verdict a.file a.line (part (k + a.command.place) a.command.len))
        (sym e ∙ ap (file_place p) (sym h))

    abbrev end : Answer
    end = answer Ver.Granted Neither 0 (part 0 0)

    both_lines : seek_both sheet p q ≡ searched (in_sheet p (unwrap_or (of_allow_lem or_else of_deny_lem) end)) (capped (total g c al de))
    unfolding seek_both
    both_lines =
        ap₂ (λ (x y : Seeking). seek_then x.sought x.looked y) seek_allow seek_deny
        ∙ by of_allow_lem of_deny_lem refl refl (until Ver.Granted Allow g c al) (until Ver.Denied Deny g c de)
      where
        by : (x y : Option Answer) → of_allow_lem ≡ x → of_deny_lem ≡ y → (n m : ℕ)
            → seek_then (in_file p.allow.place x) (capped n) (seeking (in_file p.deny.place y) (capped m))
            ≡ searched (in_sheet p (unwrap_or (x or_else y) end)) (capped (n + (when is_some x then 0 else m)))
        by (Some a) y e f n m =
            let z : n ≡ n + 0 = omega arith in
            ap₂ (λ (b : Answer) (k : ℕ). searched b (capped k)) (place_of Allow p.allow.place refl a (text_within Ver.Granted Allow g al a e).file) z
        by None (Some b) e f n m =
            ap₂ searched (place_of Deny p.deny.place refl b (text_within Ver.Denied Deny g de b f).file) (capped_left n (capped m) ∙ capped_add n m)
        by None None e f n m = ap (searched end) (capped_left n (capped m) ∙ capped_add n m)

  -- ## By notes on the tables

  module _ (r : Request) (notes : List ℕ) (is-noted : Noted ta r notes) where
    abbrev ts : List PatternTable
    ts = tables_of ta

    abbrev v : View
    v = view_of ta notes

    abbrev query : Query
    query = record { view = v; request = r }

    same_found_lem : query_found query ≡ rule_found (match_of ts) r
    unfolding noted
    same_found_lem = view_found_lem v.server v.client (match_of ts) r
        (λ n. is-noted.noted_server n ∙ ap (λ (y : List PatternTable). match_of y n r.server) tables_whole)
        (λ n. is-noted.noted_client n ∙ ap (λ (y : List PatternTable). match_of y n r.client) tables_whole)

    server_near : Near v.server_tried (λ n. tried_of ts n r.server)
    server_near n = ap capped (is-noted.noted_server_tried n) ∙ capped_twice (tried_of (tables_in ta) n r.server)
        ∙ ap (λ (y : List PatternTable). capped (tried_of y n r.server)) tables_whole

    client_near : Near v.client_tried (λ n. tried_of ts n r.client)
    client_near n = ap capped (is-noted.noted_client_tried n) ∙ capped_twice (tried_of (tables_in ta) n r.client)
        ∙ ap (λ (y : List PatternTable). capped (tried_of y n r.client)) tables_whole

    same_looked : Near (query_looked query) (rule_looked ts r)
    unfolding noted
    same_looked u =
        ap (λ (f : Rule → ℕ). capped (f u)) (view_looked_lem v.server v.client (match_of ts) v.server_tried v.client_tried r
        (λ n. is-noted.noted_server n ∙ ap (λ (y : List PatternTable). match_of y n r.server) tables_whole)
        (λ n. is-noted.noted_client n ∙ ap (λ (y : List PatternTable). match_of y n r.client) tables_whole))
        ∙ rule_near (match_of ts) (match_of ts) r v.server_tried (λ n. tried_of ts n r.server) v.client_tried (λ n. tried_of ts n r.client)
        server_near client_near u

    searched_query : seek_both sheet p query ≡ searched_at sheet p r
    unfolding searched_at search looked file_looked
    searched_query =
        let last : Answer = answer Ver.Granted Neither 0 (part 0 0) in
        both_lines query
        ∙ ap₂ searched
        (ap (λ (g : Rule → Found). in_sheet p (unwrap_or (first (line_answer Ver.Granted Allow g) (lines al) or_else first (line_answer Ver.Denied Deny g)
        (lines de)) last)) same_found_lem)
        (ap (λ (g : Rule → Found). capped (total g (query_looked query) al de)) same_found_lem
        ∙ total_near (rule_found (match_of ts) r) (query_looked query) (rule_looked ts r) same_looked al de)

-- the same, as the calls hand their facts over
module _ (sheet : List ℕ) (p : Parts) (allow deny : List ℕ) (ready : Ready sheet p allow deny) (t : List ℕ) (is-t : t ≡ bytes_at sheet p.tables) where
  pub ready_few : length (tables_in t) ≤ 64
  ready_few = rw is-t (few_tables sheet p ready.accepted)

  pub searched_same : (r : Request) (notes : List ℕ) → Noted t r notes
      → (x : Searched) → x ≡ seek_both sheet p (record { view = view_of t notes; request = r }) → x ≡ searched_at sheet p r
  searched_same r notes h x is_x =
      is_x ∙ ap (λ (u : List ℕ). seek_both sheet p (record { view = view_of u notes; request = r })) is-t
      ∙ searched_query sheet p ready.accepted r notes (rw is-t at h)

  -- where there are no tables
  pub searched_plain : length t ≤ 2 → (r : Request) (x : Searched)
      → x ≡ seek_both sheet p (record { view = view_of t (0 ∷ 0 ∷ 0 ∷ []); request = r }) → x ≡ searched_at sheet p r
  searched_plain h r x is_x = searched_same r (0 ∷ 0 ∷ 0 ∷ []) (notes_none t r h) x is_x

-- ## The parts of an index

module _ (sheet : List ℕ) (p : Parts) (ok : unpack sheet ≡ Ok p) (index : List ℕ) (is-index : index ≡ index_bytes sheet p) where
  abbrev ra : List Entry
  ra = rules_at sheet p.allow

  abbrev rd : List Entry
  rd = rules_at sheet p.deny

  abbrev front : List ℕ
  front = two_bytes (length ra) (length rd)

  index_parts : index ≡ front ++ (table_bytes ra ++ table_bytes rd)
  unfolding index_bytes
  index_parts = is-index ∙ append_assoc front (table_bytes ra) (table_bytes rd)

  index_length : length index ≡ 8 + (32 * length ra + 32 * length rd)
  index_length = ap length index_parts ∙ length-append front (table_bytes ra ++ table_bytes rd)
      ∙ ap₂ ◌+◌ (length_two (length ra) (length rd)) (length-append (table_bytes ra) (table_bytes rd) ∙ ap₂ ◌+◌ (length_table ra) (length_table rd))

  allow_few : length ra ≤ 57360
  allow_few = omega (
    arith,
    rules_at_most p.allow.place (bytes_at sheet p.allow),
    allow_inside sheet p ok,
    allow_length sheet p ok,
    sheet_length sheet p ok,
  )

  pub index_four : 0 + 4 ≤ length index
  index_four = omega (arith, index_length)

  module _ (n : ℕ) (is-n : n ≡ number_from 0 index) where
    count_is : n ≡ length ra
    unfolding two_bytes
    count_is =
        is-n ∙ ap (number_from 0) (index_parts ∙ append_assoc (to_digits 256 4 (length ra)) (to_digits 256 4 (length rd)) (table_bytes ra ++ table_bytes rd))
        ∙ number_of [] (to_digits 256 4 (length rd) ++ (table_bytes ra ++ table_bytes rd)) (length ra) 0 refl (omega (arith, allow_few))

    pub middle_within : 8 + 32 * n ≤ length index
    middle_within = omega (arith, index_length, count_is)

    allow_part : take (8 + 32 * n - 8) (drop 8 index) ≡ table_bytes ra
    allow_part =
        let k : length (table_bytes ra) ≡ 8 + 32 * n - 8 = omega (arith, length_table ra, count_is) in
        ap (λ (s : List ℕ). take (8 + 32 * n - 8) (drop 8 s)) index_parts
        ∙ ap (take (8 + 32 * n - 8)) (drop_at front (table_bytes ra ++ table_bytes rd) 8 (length_two (length ra) (length rd)))
        ∙ take_at (table_bytes ra) (table_bytes rd) (8 + 32 * n - 8) k

    deny_part : take (length index - (8 + 32 * n)) (drop (8 + 32 * n) index) ≡ table_bytes rd
    unfolding index_bytes
    deny_part =
        let k : length (front ++ table_bytes ra) ≡ 8 + 32 * n
        = omega (arith, length-append front (table_bytes ra), length_two (length ra) (length rd), length_table ra, count_is) in
        take_rest index (8 + 32 * n) ∙ ap (drop (8 + 32 * n)) is-index ∙ drop_at (front ++ table_bytes ra) (table_bytes rd) (8 + 32 * n) k

    pub ready_parts : Ready sheet p (take (8 + 32 * n - 8) (drop 8 index)) (take (length index - (8 + 32 * n)) (drop (8 + 32 * n) index))
    ready_parts = record {
      accepted = ok;
      allow_table = record { table_bytes_lem = allow_part; table_small = allow_small sheet p ok };
      deny_table = record { table_bytes_lem = deny_part; table_small = deny_small sheet p ok };
    }

-- ## Writing and comparing a whole index

module _ (out : List ℕ) (n m : ℕ) (x y : List ℕ) (o₁ : List ℕ) (k₁ : ℕ) (w₁ : Two out o₁ n m 0 k₁) (room : 8 + length x + length y ≤ length out) where
  front_long : length o₁ ≡ length out
  front_long = ap length w₁.1 ∙ length_put_at out (two_bytes n m) 0 (omega (arith, length_two n m))

  pub rules_room : k₁ + length x ≤ length o₁
  rules_room = omega (arith, front_long, w₁.0)

  module _ (o₂ : List ℕ) (k₂ : ℕ) (w₂ : Wrote o₁ o₂ x k₁ k₂) where
    pub rules_room_2 : k₂ + length y ≤ length o₂
    rules_room_2 = omega (arith, front_long, w₁.0, w₂.0, ap length w₂.1 ∙ length_put_at o₁ x k₁ rules_room)

    pub put_index : (o₃ : List ℕ) (k₃ : ℕ) → Wrote o₂ o₃ y k₂ k₃ → (k₃ ≡ 8 + length x + length y) × (o₃ ≡ after (two_bytes n m ++ x ++ y) out)
    put_index o₃ k₃ w₃ =
        let f : List ℕ = two_bytes n m in
        let s₁ : o₁ ≡ after f out = put_first out o₁ f w₁.1 in
        let s₂ : o₂ ≡ after (f ++ x) out = put_more out o₁ o₂ f x k₁ w₂.1 s₁ (omega (arith, w₁.0, length_two n m)) in
        (omega (arith, w₁.0, w₂.0, w₃.0), put_more out o₂ o₃ (f ++ x) y k₂ w₃.1 s₂ (omega (arith, w₁.0, w₂.0, length-append f x, length_two n m)))

module _ (sheet : List ℕ) (p : Parts) (ok : unpack sheet ≡ Ok p) (a d : List ℕ) (is-a : a ≡ bytes_at sheet p.allow)
    (is_d : d ≡ bytes_at sheet p.deny) where
  pub allow_fits : p.allow.place + length a ≤ 57360
  allow_fits = rw is-a (omega (arith, allow_inside sheet p ok, allow_length sheet p ok, sheet_length sheet p ok))

  pub deny_fits : p.deny.place + length d ≤ 57360
  deny_fits = rw is_d (omega (arith, deny_inside sheet p ok, deny_length sheet p ok, sheet_length sheet p ok))

  module _ (n m : ℕ) (is-n : n ≡ length (rule_table p.allow.place (lines a))) (is_m : m ≡ length (rule_table p.deny.place (lines d))) where
    abbrev whole : List ℕ
    whole = index_bytes sheet p

    whole_is : whole ≡ two_bytes n m ++ table_bytes (rule_table p.allow.place (lines a)) ++ table_bytes (rule_table p.deny.place (lines d))
    unfolding index_bytes
    whole_is = rw (is-n, is_m, is-a, is_d)

    whole_length : length whole ≡ 8 + 32 * (n + m)
    whole_length =
        ap length whole_is
        ∙ length-append (two_bytes n m ++ table_bytes (rule_table p.allow.place (lines a))) (table_bytes (rule_table p.deny.place (lines d)))
        ∙ ap₂ ◌+◌ (length-append (two_bytes n m) (table_bytes (rule_table p.allow.place (lines a)))
        ∙ ap₂ ◌+◌ (length_two n m) (length_table (rule_table p.allow.place (lines a)))) (length_table (rule_table p.deny.place (lines d)))
        ∙ omega (arith, is-n, is_m)

    abbrev index_of : List ℕ
    index_of = two_bytes n m ++ table_bytes (rule_table p.allow.place (lines a)) ++ table_bytes (rule_table p.deny.place (lines d))

    module _ (out : List ℕ) where
      abbrev o : Outcome (List ℕ)
      o = within_room (length out) (index_bytes sheet p)

      module _ (h : length out < 8 + 32 * (n + m)) where
        short : o ≡ Err (placeless F.NoRoom)
        short = rw (lt-ltb (length out) (length whole) (omega (arith, whole_length)))

        pub index_no_room : (g : Refusal) → g ≡ placeless F.NoRoom → Err g ≡ written_of o
        index_no_room g is-g = rw (short, is-g)

        pub index_untouched : out ≡ lent_after out o
        index_untouched = rw short

      module _ (h : 8 + 32 * (n + m) ≤ length out) where
        enough : o ≡ Ok (index_bytes sheet p)
        enough = rw (le-ltb (length out) (length whole) (omega (arith, whole_length)))

        pub index_room : 8 + length (table_bytes (rule_table p.allow.place (lines a))) + length
            (table_bytes (rule_table p.deny.place (lines d))) ≤ length out
        index_room = omega (arith, length_table (rule_table p.allow.place (lines a)), length_table (rule_table p.deny.place (lines d)), is-n, is_m)

        pub index_count : (k : ℕ) → k ≡ 8 + length (table_bytes (rule_table p.allow.place (lines a))) + length
            (table_bytes (rule_table p.deny.place (lines d)))
            → Ok k ≡ written_of o
        index_count k e =
            let z : k ≡ length whole = omega (
              arith,
              e,
              whole_length,
              length_table (rule_table p.allow.place (lines a)),
              length_table (rule_table p.deny.place (lines d)),
              is-n,
              is_m,
            ) in
            ap Ok z ∙ sym (ap written_of enough)

        pub index_text : (q : List ℕ) → q ≡ after index_of out → q ≡ lent_after out o
        unfolding after
        index_text q e = e ∙ ap (λ (s : List ℕ). s ++ drop (length s) out) (sym whole_is) ∙ sym (ap (lent_after out) enough)

    -- comparing
    module _ (index : List ℕ) where
      pub index_short : length index < 8 + 32 * n → false ≡ equal index (index_bytes sheet p)
      index_short h = sym (equal_lengths index whole (λ e. absurd (omega (arith, e, whole_length))))

      pub index_same : 8 + 32 * n ≤ length index → (x : Bool) → x ≡ equal (take 8 index) (two_bytes n m)
          → (y : Bool) → y ≡ equal (take (8 + 32 * n - 8) (drop 8 index)) (table_bytes (rule_table p.allow.place (lines a)))
          → (z : Bool) → z ≡ equal (take (length index - (8 + 32 * n)) (drop (8 + 32 * n) index)) (table_bytes (rule_table p.deny.place (lines d)))
          → ((x && y) && z) ≡ equal index (index_bytes sheet p)
      index_same h x is_x y is_y z is-z =
          let f : List ℕ = two_bytes n m in
          let s : List ℕ = table_bytes (rule_table p.allow.place (lines a)) in
          let u : List ℕ = table_bytes (rule_table p.deny.place (lines d)) in
          let lf : length f ≡ 8 = length_two n m in
          let ls : length s ≡ 32 * n = length_table (rule_table p.allow.place (lines a)) ∙ ap (λ (k : ℕ). 32 * k) (sym is-n) in
          let q : 8 + 32 * n - 8 ≡ 32 * n = omega arith in
          let e₁ : x ≡ equal (take (length f) index) f = is_x ∙ ap (λ (k : ℕ). equal (take k index) f) (sym lf) in
          let e₂ : y ≡ equal (take (length s) (drop (length f) index)) s
          = is_y ∙ ap₂ (λ (j k : ℕ). equal (take j (drop k index)) s) (q ∙ sym ls) (sym lf) in
          let e₃ : z ≡ equal (drop (length s) (drop (length f) index)) u
          = is-z ∙ ap (λ (t : List ℕ). equal t u) (take_rest index (8 + 32 * n) ∙ ap₂ (λ (j k : ℕ). drop (j + k) index) (sym lf) (sym ls)
          ∙ sym (drop-drop (length s) (length f) index)) in
          sym (ap (equal index) (whole_is ∙ append_assoc f s u) ∙ equal_append index f (s ++ u)
          ∙ ap₂ ◌&&◌ (sym e₁) (equal_append (drop (length f) index) s u ∙ ap₂ ◌&&◌ (sym e₂) (sym e₃)) ∙ sym (and_assoc x y z))
