-- The lines of a string of indefinite length after its open.
use Rattle.std.proofs.Common.{◌≡◌, ℕ, zero, suc, ◌+◌, ◌-◌, ◌^◌, ◌<◌, ◌≤◌, List, [], ◌∷◌, ◌++◌, length}
use Rattle.std.proofs.Common.{Option, Some, None, refl, sym}
use Rattle.std.proofs.Common.{ap, subst, ◌∙◌, arith, append-nil, append_assoc, length-append, inl, inr}
use Rattle.std.proofs.Common.{Err, Fits, IfSome, w64}
use Rattle.ciborium_ll_grammar.proofs.SpellingLaws.{either_allowed}
use Rattle.ciborium_ll_grammar.specs.declared.spelling.Spelling.{Spelling}
use Rattle.ciborium_ll_grammar.specs.declared.spelling.Spelling.TheVariants.{Any, Shortest}
use Rattle.ciborium_ll.specs.Types.Read.{Ghosts}
use Rattle.ciborium_ll.specs.Types.Header.{Header}
use Rattle.ciborium_ll.specs.Types.Header.TheVariants as h
use Rattle.ciborium_ll.specs.Types.Decoder.{Decoder}
use Rattle.ciborium_ll.specs.Types.Error.{Error}
use Rattle.ciborium_ll.specs.Types.Error.TheVariants as e
use Rattle.ciborium_ll.specs.Decoding.{IsSteady, ReadsPast, DecoderPullAnswer, PullsTitle, view}
use Rattle.ciborium_ll.specs.Faults.{IsInside, opened, deeper, IsRefusedIn}
use Rattle.ciborium_ll.specs.Finishing.{EndsBody}
use Rattle.ciborium_ll.specs.Items.{AreTakenStrings, IsTakenTitle}
use Rattle.ciborium_ll.specs.Skipping.{SkipsInside, MeetsNoTitle, MeetsBody, StopsInside}
use Rattle.ciborium_ll.proofs.DecodingLaws.{IfSome-all, ReadsPast-none, ReadsPast-then}
use Rattle.ciborium_ll.proofs.NestLaws.{alone_bytes, open_alone}
use Rattle.cbor_skip.specs.declared.SkipError.TheVariants as s
use Rattle.cbor_dump.specs.declared.dump.DumpError.{DumpError}
use Rattle.cbor_dump.specs.declared.dump.DumpError.TheVariants as d
use Rattle.ciborium_ll.specs.Title.{IsTitle}
use Rattle.ciborium_ll.specs.Strings.{Kind, kind_header, definite, IsWritable}
use Rattle.ciborium_ll.specs.Elements.{AreWritable}
use Rattle.ciborium_ll.proofs.ElementLaws.{AreWritable-append}
use Rattle.cbor_dump.specs.declared.rows.Meaning.TheVariants as m
use Rattle.cbor_dump.specs.declared.rows.Within.TheVariants as w
use Rattle.cbor_dump.specs.Takings.{IsInMode, IsSteadyNoneWaiting, LeavesBehind, most_bytes, TakesBytes}
use Rattle.cbor_dump.specs.Levels.{Ending, IsTitleFault, Meant}
use Rattle.cbor_dump.specs.Levels.{Line, Nest, StandsWithin, AreOpen, none, more, TitleDue, title_level}
use Rattle.cbor_dump.specs.Dumps.{Draws, fault_lines, IsErrorOfItem, SaysFault, Shows}
use Rattle.cbor_dump.specs.Endings.{ending_before, ending_of}
use Rattle.cbor_dump.specs.StringRows.{EndsString, IsPart, StopsBehindTitle}
use Rattle.cbor_dump.specs.declared.strings.Part.{Part}
use Rattle.cbor_dump.specs.declared.strings.Part.TheVariants as p
use Rattle.cbor_dump.proofs.DumpLaws.{HasBytesAtFault, shows_fault, shows_none, shows_says, shows_then}
use Rattle.cbor_dump.proofs.TitleLaws.{open_place, title_line, break_bytes}
use Rattle.cbor_dump.proofs.StringLaws.{next_offset, add_string, add_open, close_inner, close_last}
use Rattle.cbor_dump.proofs.StringLaws.{not_open, taken_any, taken_none, taken_then}
use Rattle.cbor_dump.proofs.PullLaws.{passes_idle, passes_alike}

-- Bytes with at least one open that is not closed stand inside a string.
open_inside : (kind : Kind) (opens : ℕ) (parts : List ℕ) (bodies : List (List ℕ))
    → AreOpen kind (suc opens) parts bodies
    → IsInside kind parts bodies
open_inside kind zero parts bodies
    (more {outer = x} {title = t} {strings = z} {bodies = b} {others = c} o p are) =
    let empty = not_open kind zero x b o refl in
    rw (empty.0, empty.1) (opened p are)
open_inside kind (suc opens) parts bodies
    (more {outer = x} {title = t} {strings = z} {bodies = b} {others = c} o p are) =
    deeper (open_inside kind opens x b o) (opened p are)

-- A header that is no piece, no open and not refused is a break.
pub only_break : (allowed : Spelling) (kind : Kind) (header : Header) (part : Part) → IsPart allowed kind header part
    → ((len : ℕ) → part ≡ p.Piece len → ⊥) → (part ≡ p.Open → ⊥) → (part ≡ p.Other → ⊥) → header ≡ h.Break
only_break allowed kind header part is piece opens other = grind arith

-- A break stands one level less deep than the titles that it ends.
pub break_level : (header : Header) (inner level : ℕ) → header ≡ h.Break → 0 < inner
    → ((nests : List Nest) (opens : ℕ) → inner ≡ length nests + suc opens
    → level ≡ title_level header nests (suc opens))
    → level ≡ inner - 1
break_level header inner level is some same =
    let at : level ≡ title_level h.Break [] (suc (inner - 1)) =
    subst (λ (x : Header). level ≡ title_level x [] (suc (inner - 1))) is (same [] (inner - 1) (omega (arith, some))) in
    omega (arith, at, some)

-- After a title the next level fits a 64-bit number.
pub level_fits : (inner place len behind waits : ℕ) → inner ≤ place → behind ≡ place + len → 0 < len
    → behind + waits < 2 ^ 64 → Fits w64 (inner + 1)
level_fits inner place len behind waits below moved some fits = omega (arith, below, moved, some, fits)

pub comes_nearer : (place len behind after waits : ℕ) → behind ≡ place + len → 0 < len → behind ≤ after
    → after + waits < 2 ^ 64 → 2 ^ 64 - after < 2 ^ 64 - place
comes_nearer place len behind after waits moved some rises fits = omega (arith, moved, some, rises, fits)

pub level_some : (level inner : ℕ) → level < inner → 0 < inner
level_some level inner above = omega (arith, above)

module _ {R E : Type 0} (source : Ghosts R E) where
  -- All bytes up to here were shown. They end within a string, and the titles in it stand at the level `inner`.
  pub record Within (allowed : Spelling) (depth start : ℕ) (drawn then_drawn : Option (List Line)) (nests : List Nest)
      (items title : List ℕ) (kind : Kind) (inner : ℕ) (old new : Decoder R) : Type 0 where
    pub opens : ℕ
    pub parts : List ℕ
    pub bodies : List (List ℕ)
    pub bytes : List ℕ
    pub are_open : AreOpen kind (suc opens) parts bodies
    pub sound : AreWritable kind bodies
    pub taken : AreTakenStrings allowed kind bytes bodies
    pub one : allowed ≡ Shortest → opens ≡ zero
    pub level : inner ≡ length nests + suc opens
    pub is : title ++ bytes ≡ parts
    pub shows : Shows source depth start drawn then_drawn (items ++ title) bytes Meant old new
    pub passed : old.waiting ≡ None → ReadsPast source old bytes new

  pub within_first : (allowed : Spelling) (depth start : ℕ) (drawn : Option (List Line)) (nests : List Nest)
      (items title : List ℕ)
      (kind : Kind) (inner : ℕ) (decoder : Decoder R) → IsTitle title (kind_header kind None)
      → inner ≡ length nests + 1
      → Within allowed depth start drawn drawn nests items title kind inner decoder decoder
  within_first allowed depth start drawn nests items title kind inner decoder p level = record {
    opens = zero;
    parts = title;
    bodies = [];
    bytes = [];
    are_open = add_open kind zero [] title [] none p;
    sound = tt;
    taken = taken_none allowed kind;
    one = λ on. refl;
    level = level;
    is = append-nil title;
    shows = shows_none source depth start drawn (items ++ title) decoder;
    passed = λ idle. ReadsPast-none source decoder;
  }

  module _ {allowed : Spelling} {depth start : ℕ} {drawn middle : Option (List Line)} {nests : List Nest}
      {items title : List ℕ} {kind : Kind} {inner : ℕ} {old between : Decoder R} (stands : StandsWithin depth nests items)
      (so_far : Within allowed depth start drawn middle nests items title kind inner old between)
      (begun : old.offset ≡ start + length (items ++ title)) where
    -- The open and the bytes after it are the parts of the string.
    before_is : (items ++ title) ++ so_far.bytes ≡ items ++ so_far.parts
    before_is = append_assoc items title so_far.bytes ∙ ap (λ (z : List ℕ). items ++ z) so_far.is

    here : between.offset ≡ start + length ((items ++ title) ++ so_far.bytes)
    here = next_offset source depth start drawn middle (items ++ title) so_far.bytes old between so_far.shows begun

    due_within : TitleDue depth nests (suc so_far.opens) ((items ++ title) ++ so_far.bytes)
    due_within = record {
      items = items;
      kind = kind;
      parts = so_far.parts;
      bodies = so_far.bodies;
      within = stands;
      are_open = so_far.are_open;
      sound = so_far.sound;
      is = before_is;
    }

    pub passed_row : (row : List ℕ) (new : Decoder R) → (between.waiting ≡ None → ReadsPast source between row new)
        → old.waiting ≡ None → ReadsPast source old (so_far.bytes ++ row) new
    passed_row row new went idle = ReadsPast-then source old between new so_far.bytes row (so_far.passed idle)
        (went (passes_idle source old between so_far.bytes (so_far.passed idle) idle))

    pub alike_here : IsInMode allowed old → IsInMode allowed between
    alike_here alike =
        passes_alike source allowed old between so_far.bytes (so_far.passed alike.none_waits) alike

    -- A row at fault shows the bytes that were read before an error within a string.
    pub within_fault : (error : Error E) (then_drawn : Option (List Line)) (row : List ℕ) (offset : ℕ)
        (new : Decoder R) → TakesBytes source between row new → offset ≡ between.offset
        → Draws middle then_drawn (fault_lines inner offset row)
        → (0 < length row → IsTitleFault (ending_of allowed error) kind (suc so_far.opens) row)
        → length row ≤ most_bytes → HasBytesAtFault error row
        → (IsSteadyNoneWaiting source between → IfSome (view source new) (LeavesBehind error row))
        → Shows source depth start drawn then_drawn (items ++ title) (so_far.bytes ++ row) (ending_of allowed error) old
        new
    unfolding due_within
    within_fault error then_drawn row offset new takes at drawn_fault fault few some left =
        shows_then source depth start drawn middle then_drawn (items ++ title) so_far.bytes row old between new
        so_far.shows
        (shows_fault source allowed error depth start middle then_drawn ((items ++ title) ++ so_far.bytes) inner offset
        row between new takes drawn_fault (at ∙ here)
        (λ any. inl (record {
          nests = nests;
          opens = suc so_far.opens;
          due = due_within;
          fault = fault any;
          level = so_far.level;
          within = refl;
        })) few some left)

    -- If the dump answers with the error of the read, the lines end as the dump's error says.
    pub within_fails : {W : Type 0} (error : Error E) (why : DumpError E W) (then_drawn : Option (List Line))
        (row : List ℕ) (offset : ℕ) (new : Decoder R) → SaysFault error why → IsErrorOfItem why
        → TakesBytes source between row new → offset ≡ between.offset
        → Draws middle then_drawn (fault_lines inner offset row)
        → (0 < length row → IsTitleFault (ending_of allowed error) kind (suc so_far.opens) row)
        → length row ≤ most_bytes → HasBytesAtFault error row
        → (IsSteadyNoneWaiting source between → IfSome (view source new) (LeavesBehind error row))
        → Shows source depth start drawn then_drawn (items ++ title) (so_far.bytes ++ row) (ending_before allowed why)
        old new
    within_fails error why then_drawn row offset new says taken takes at drawn_fault fault few some left =
        shows_says source allowed error why depth start drawn then_drawn (items ++ title) (so_far.bytes ++ row) old new
        says taken (within_fault error then_drawn row offset new takes at drawn_fault fault few some left)

    -- A row shows a title within the string.
    pub within_title : (then_drawn : Option (List Line)) (row : List ℕ) (x : Header) (offset level : ℕ)
        (new : Decoder R) → TakesBytes source between row new → offset ≡ between.offset → IsTitle row x
        → level ≡ title_level x nests (suc so_far.opens)
        → Draws middle then_drawn (record {
          level = level;
          offset = offset;
          bytes = row;
          meaning = m.Header x;
          within = w.Nothing;
        } ∷ [])
        → Shows source depth start drawn then_drawn (items ++ title) (so_far.bytes ++ row) Meant old new
    within_title then_drawn row x offset level new takes at p same drawn_line =
        shows_then source depth start drawn middle then_drawn (items ++ title) so_far.bytes row old between new
        so_far.shows (record {
          lines = title_line depth start middle then_drawn ((items ++ title) ++ so_far.bytes) row x level offset
              w.Nothing nests (suc so_far.opens) due_within p same (open_place depth x nests so_far.opens _) (at ∙ here) drawn_line;
          takes = takes;
          left = λ idle. IfSome-all (view source new) _ (λ any. tt);
        })

    parts_then : (row : List ℕ) → title ++ (so_far.bytes ++ row) ≡ so_far.parts ++ row
    parts_then row = sym (append_assoc title so_far.bytes row) ∙ ap (λ (z : List ℕ). z ++ row) so_far.is

    -- After a further open, one more open is not closed.
    pub within_open : (then_drawn : Option (List Line)) (row : List ℕ) (new : Decoder R)
        → allowed ≡ Any → (between.waiting ≡ None → ReadsPast source between row new)
        → IsTitle row (kind_header kind None)
        → Shows source depth start drawn then_drawn (items ++ title) (so_far.bytes ++ row) Meant old new
        → Within allowed depth start drawn then_drawn nests items title kind (inner + 1) old new
    within_open then_drawn row new any went p shows =
        let level = so_far.level in
        record {
          opens = suc so_far.opens;
          parts = so_far.parts ++ row;
          bodies = so_far.bodies;
          bytes = so_far.bytes ++ row;
          are_open = add_open kind (suc so_far.opens) so_far.parts row so_far.bodies so_far.are_open p;
          sound = so_far.sound;
          taken = taken_any allowed kind (so_far.bytes ++ row) so_far.bodies any;
          one = λ on. absurd cc;
          level = omega (arith, level);
          is = parts_then row;
          passed = passed_row row new went;
          shows = shows;
        }

    -- If several opens are not closed, the dump is not strict.
    several : (opens : ℕ) → so_far.opens ≡ suc opens → allowed ≡ Any
    several opens e = elim (either_allowed allowed) [
      | inl on ↦ absurd (let none = so_far.one on in omega (arith, none, e))
      | inr any ↦ any
    ]

    -- A break that closes one of several opens leaves the others open.
    inner_break : (opens : ℕ) → so_far.opens ≡ suc opens → allowed ≡ Any → (then_drawn : Option (List Line))
        (row : List ℕ) (level : ℕ) (new : Decoder R)
        → (between.waiting ≡ None → ReadsPast source between row new) → IsTitle row h.Break
        → level ≡ length nests + suc opens
        → Shows source depth start drawn then_drawn (items ++ title) (so_far.bytes ++ row) Meant old new
        → Within allowed depth start drawn then_drawn nests items title kind level old new
    inner_break opens e any then_drawn row level new went p same shows = record {
      opens = opens;
      parts = so_far.parts ++ row;
      bodies = so_far.bodies;
      bytes = so_far.bytes ++ row;
      are_open = subst (λ (z : List ℕ). AreOpen kind (suc opens) (so_far.parts ++ z) so_far.bodies)
          (sym (break_bytes row p)) (close_inner kind opens so_far.parts so_far.bodies
          (subst (λ (n : ℕ). AreOpen kind (suc n) so_far.parts so_far.bodies) e so_far.are_open));
      sound = so_far.sound;
      taken = taken_any allowed kind (so_far.bytes ++ row) so_far.bodies any;
      one = λ on. absurd cc;
      level = same;
      is = parts_then row;
      passed = passed_row row new went;
      shows = shows;
    }

    pub within_break : (then_drawn : Option (List Line)) (row : List ℕ) (level : ℕ) (new : Decoder R)
        → (between.waiting ≡ None → ReadsPast source between row new) → IsTitle row h.Break
        → level ≡ title_level h.Break nests (suc so_far.opens) → (level ≡ length nests → ⊥)
        → Shows source depth start drawn then_drawn (items ++ title) (so_far.bytes ++ row) Meant old new
        → Within allowed depth start drawn then_drawn nests items title kind level old new
    within_break then_drawn row level new went p same further shows =
        let less : so_far.opens ≡ suc (so_far.opens - 1) = omega (arith, same, further) in
        inner_break (so_far.opens - 1) less (several (so_far.opens - 1) less) then_drawn row level new went p
        (omega (arith, same, less)) shows

    -- The break that closes the last open ends the string.
    pub within_ends : (row : List ℕ) (level : ℕ) → IsTitle title (kind_header kind None) → IsTitle row h.Break
        → level ≡ title_level h.Break nests (suc so_far.opens) → level ≡ length nests
        → EndsString allowed kind (so_far.bytes ++ row)
    within_ends row level q p same last =
        let one : so_far.opens ≡ zero = omega (arith, same, last) in
        subst (λ (z : List ℕ). EndsString allowed kind (so_far.bytes ++ z)) (sym (break_bytes row p))
        (close_last allowed kind title so_far.bytes so_far.parts so_far.bodies
        (subst (λ (n : ℕ). AreOpen kind (suc n) so_far.parts so_far.bodies) one so_far.are_open) q so_far.is
        so_far.sound so_far.taken)

    -- The rows of a piece show its title and its body.
    pub within_piece : {how : Ending} (titled_drawn then_drawn : Option (List Line)) (row body : List ℕ)
        (titled new : Decoder R)
        → Shows source depth start drawn titled_drawn (items ++ title) (so_far.bytes ++ row) Meant old titled
        → Shows source depth start titled_drawn then_drawn ((items ++ so_far.parts) ++ row) body how titled new
        → Shows source depth start drawn then_drawn (items ++ title) (so_far.bytes ++ (row ++ body)) how old new
    within_piece {how} titled_drawn then_drawn row body titled new first shows =
        let same : (items ++ so_far.parts) ++ row ≡ (items ++ title) ++ (so_far.bytes ++ row) =
        ap (λ (z : List ℕ). z ++ row) (sym before_is) ∙ append_assoc (items ++ title) so_far.bytes row in
        let second = subst (λ (z : List ℕ). Shows source depth start titled_drawn then_drawn z body how titled new) same
        shows in
        subst (λ (z : List ℕ). Shows source depth start drawn then_drawn (items ++ title) z how old new)
        (append_assoc so_far.bytes row body)
        (shows_then source depth start drawn titled_drawn then_drawn (items ++ title) (so_far.bytes ++ row) body old
        titled new first second)

    pub within_whole : (then_drawn : Option (List Line)) (row body : List ℕ) (len : ℕ) (new : Decoder R)
        → IsTitle row (kind_header kind (Some len)) → IsTakenTitle allowed row (kind_header kind (Some len))
        → length body ≡ len → IsWritable kind body
        → (between.waiting ≡ None → ReadsPast source between (row ++ body) new)
        → Shows source depth start drawn then_drawn (items ++ title) (so_far.bytes ++ (row ++ body)) Meant old new
        → Within allowed depth start drawn then_drawn nests items title kind inner old new
    within_whole then_drawn row body len new p g long written went shows =
        let p' = subst (λ (n : ℕ). IsTitle row (kind_header kind (Some n))) (sym long) p in
        let g' = subst (λ (n : ℕ). IsTakenTitle allowed row (kind_header kind (Some n))) (sym long) g in
        record {
          opens = so_far.opens;
          parts = so_far.parts ++ (row ++ body);
          bodies = so_far.bodies ++ (body ∷ []);
          bytes = so_far.bytes ++ (row ++ body);
          are_open = add_string kind so_far.opens so_far.parts (row ++ body) so_far.bodies (body ∷ []) so_far.are_open
              (definite p');
          sound = AreWritable-append kind so_far.bodies (body ∷ []) so_far.sound (written, tt);
          taken = taken_then allowed kind so_far.bytes row body so_far.bodies so_far.taken p' g';
          one = so_far.one;
          level = so_far.level;
          is = parts_then (row ++ body);
          shows = shows;
          passed = passed_row (row ++ body) new went;
        }

    -- After the bytes so far a title is due within the opens.
    pub piece_due : TitleDue depth nests (suc so_far.opens) (items ++ so_far.parts)
    piece_due = record {
      items = items;
      kind = kind;
      parts = so_far.parts;
      bodies = so_far.bodies;
      within = stands;
      are_open = so_far.are_open;
      sound = so_far.sound;
      is = refl;
    }

    pub piece_offset : (row : List ℕ) (new : Decoder R) → TakesBytes source between row new
        → new.offset ≡ start + length ((items ++ so_far.parts) ++ row)
    piece_offset row new takes =
        let moved = takes.offset in
        let cut = ap length before_is in
        omega (arith, moved, here, cut, length-append (items ++ so_far.parts) row)

    -- ---- how the read of the string stops

    skips_inside : IsTitle title (kind_header kind None) → IsInMode allowed old → SkipsInside source kind old between
    skips_inside p alike = record {
      behind = so_far.bytes;
      bodies = so_far.bodies;
      inside = subst (λ (z : List ℕ). IsInside kind (z ++ so_far.bytes) so_far.bodies)
          (alone_bytes title (kind_header kind None) p (open_alone kind))
          (subst (λ (z : List ℕ). IsInside kind z so_far.bodies) (sym so_far.is)
          (open_inside kind so_far.opens so_far.parts so_far.bodies so_far.are_open));
      taken = subst (λ (mode : Spelling). AreTakenStrings mode kind so_far.bytes so_far.bodies) (sym alike.mode)
          so_far.taken;
      sound = so_far.sound;
      passed = so_far.passed alike.none_waits;
    }

    -- If no title came within a string, a skip with a buffer of any room stops the same way.
    no_title_stops : (room : ℕ) (error : Error E) (new : Decoder R) → MeetsNoTitle source kind old error new
        → StopsInside source kind room old error new
    no_title_stops room error new meets = grind arith

    body_stops : (room : ℕ) (error : Error E) (new : Decoder R) → MeetsBody source kind room old error new
        → StopsInside source kind room old error new
    body_stops room error new meets = grind arith

    -- If no title came, the read of the string stops as a skip does.
    pub within_no_title : {W : Type 0} → IsTitle title (kind_header kind None) → (error : Error E)
        (new : Decoder R) → DecoderPullAnswer source between (Err error) new → (why : DumpError E W) → SaysFault error why
        → IsInMode allowed old → StopsBehindTitle source kind None 0 old (Err why) new
    within_no_title p error new fails (d.Item (s.Read other)) says alike =
        let same : other ≡ error = cc in
        record {
          room = most_bytes;
          held = omega arith;
          holds = subst (λ (x : Error E). StopsInside source kind most_bytes old x new) (sym same)
              (no_title_stops most_bytes error new (record {
                between = between;
                part = skips_inside p alike;
                fails = fails;
              }));
        }
    within_no_title p error new fails (d.Item (s.Break at)) says alike = absurd cc
    within_no_title p error new fails (d.Item (s.Deep at)) says alike = absurd cc
    within_no_title p error new fails (d.Rows fault) says alike = tt

    -- If a title came that may not stand in the string, the read of the string stops as a skip does.
    pub within_other : {W : Type 0} → IsTitle title (kind_header kind None) → (header : Header)
        (place : ℕ) (new : Decoder R) → PullsTitle source between header new → IsRefusedIn allowed kind header
        → place ≡ between.offset → (why : DumpError E W) → SaysFault (e.Syntax place) why
        → IsInMode allowed old → StopsBehindTitle source kind None 0 old (Err why) new
    within_other p header place new pulled refused at (d.Item (s.Read other)) says alike =
        let same : other ≡ e.Syntax place = cc in
        record {
          room = most_bytes;
          held = omega arith;
          holds = subst (λ (x : Error E). StopsInside source kind most_bytes old x new) (sym same)
              (inr (inl (record {
                between = between;
                part = skips_inside p alike;
                other = record {
                  header = header;
                  pulled = pulled;
                  refused = subst (λ (mode : Spelling). IsRefusedIn mode kind header) (sym (alike_here alike).mode)
                      refused;
                  place = at;
                };
              })));
        }
    within_other p header place new pulled refused at (d.Item (s.Break other)) says alike = absurd cc
    within_other p header place new pulled refused at (d.Item (s.Deep other)) says alike = absurd cc
    within_other p header place new pulled refused at (d.Rows fault) says alike = tt

    -- If the body of a piece failed, the read of the string stops as a skip does.
    pub within_body : {W : Type 0} → IsTitle title (kind_header kind None) → (len place : ℕ)
        (titled new : Decoder R) → PullsTitle source between (kind_header kind (Some len)) titled
        → (IsSteady source between → IsSteady source titled) → (why : DumpError E W)
        → StopsBehindTitle source kind (Some len) place titled (Err why) new → place ≡ between.offset
        → IsInMode allowed old → StopsBehindTitle source kind None 0 old (Err why) new
    within_body p len place titled new pulled steady (d.Item (s.Read error)) stops at alike =
        record {
          room = stops.room;
          held = stops.held;
          holds = body_stops stops.room error new (record {
            between = between;
            part = skips_inside p alike;
            titled = titled;
            len = len;
            pulled = pulled;
            steady = λ holds. steady ((so_far.passed alike.none_waits).steady holds);
            ends = subst (λ (n : ℕ). EndsBody source kind [] len stops.room n titled (Err error) new) at stops.holds;
          });
        }
    within_body p len place titled new pulled steady (d.Item (s.Break other)) stops at alike = absurd stops
    within_body p len place titled new pulled steady (d.Item (s.Deep other)) stops at alike = absurd stops
    within_body p len place titled new pulled steady (d.Rows fault) stops at alike = tt
