-- The lines of titles, and what is due after them.
use Rattle.std.proofs.lemmas.Bool.Decides.{nat_tests}
use Rattle.std.proofs.Common.{◌≡◌, ℕ, ◌+◌, ◌-◌, ◌≤◌, List, [], ◌∷◌, ◌++◌, length, Option, refl, sym}
use Rattle.std.proofs.Common.{ap, subst, ◌∙◌, arith, append-nil, length-append, Bool, Result, Ok, Err, OnOk, IfSome}
use Rattle.std.proofs.Common.{inl, suc}
use Rattle.ciborium_ll_grammar.specs.declared.spelling.Spelling.{Spelling}
use Rattle.ciborium_ll.specs.Types.Read.{Ghosts}
use Rattle.ciborium_ll.specs.Types.Decoder.{Decoder}
use Rattle.ciborium_ll.specs.Types.Header.{Header}
use Rattle.ciborium_ll.specs.Types.Header.TheVariants as h
use Rattle.ciborium_ll.specs.Title.{IsTitle}
use Rattle.ciborium_ll.specs.Strings.{Kind, Bytes, kind_header}
use Rattle.ciborium_ll.specs.Items.{Completes, positive, negative, float, simple, byte_string, text_string, open_bytes}
use Rattle.ciborium_ll.specs.Items.{open_text, AreItems, IsItem, IsTakenTitle}
use Rattle.ciborium_ll.proofs.NestLaws.{alone_bytes, title_some}
use Rattle.cbor_skip.specs.Due.{IsNest}
use Rattle.cbor_skip.proofs.ItemSteps.{item_of}
use Rattle.cbor_dump.specs.declared.rows.Meaning.TheVariants as m
use Rattle.cbor_dump.specs.declared.walk.Walk.{Walk}
use Rattle.cbor_dump.specs.Takings.{IsSteadyNoneWaiting, IsTitleRow, LeavesBehind, TakesBytes, most_bytes}
use Rattle.ciborium_ll.specs.Decoding.{view}
use Rattle.ciborium_ll.proofs.DecodingLaws.{IfSome-all}
use Rattle.cbor_dump.specs.Endings.{LeavesAs, ending, ending_of}
use Rattle.cbor_dump.specs.Levels.{Line, Nest, StandsBehind, StandsWithin, outside, inside, none, TitleDue}
use Rattle.cbor_dump.specs.Levels.{Ending, Meant, title_level}
use Rattle.ciborium_ll.specs.Types.Error.{Error}
use Rattle.cbor_dump.specs.Dumps.{AreRowsTaken, Draws, EndsTitles, fault_lines, Lines, Shows, ShowsBehind}
use Rattle.ciborium_ll.specs.Decoding.{ReadsPast}
use Rattle.ciborium_ll.proofs.DecodingLaws.{ReadsPast-none}
use Rattle.cbor_dump.specs.Sequences.{ReadsItems}
use Rattle.cbor_dump.specs.StringRows.{IsRest}
use Rattle.cbor_dump.specs.declared.dump.DumpError.{DumpError}
use Rattle.cbor_dump.specs.TitleRows.{DrawsTitle, ShowsAll, ShowsTitle, StopsAlone, EndsAtTitle}
use Rattle.cbor_dump.specs.Takings.{IsInMode}
use Rattle.cbor_dump.specs.Walks.{IsItemAlone, IsDue, IsBehindItem, Breaks}
use Rattle.cbor_dump.proofs.ItemRows.{nothing}
use Rattle.cbor_dump.proofs.RowLaws.{title_filled}
use Rattle.cbor_dump.proofs.WalkLaws.{stands_any}
use Rattle.cbor_dump.specs.declared.rows.Within.{Within}
use Rattle.cbor_dump.specs.declared.rows.Within.TheVariants as w
use Rattle.cbor_dump.specs.Levels.{IsPlace, IsTitlePlace}
use Rattle.cbor_dump.specs.Keys.{IsKeyOf}
use Rattle.cbor_dump.specs.declared.key.Key.{Key}
use Rattle.cbor_dump.proofs.TakingLaws.{takes_none}
use Rattle.cbor_dump.proofs.DumpLaws.{lines_one, shows_fault, shows_nothing, shows_read}
use Rattle.cbor_dump.proofs.DumpLaws.{shows_says, shows_then, title_fault, title_row}

-- ---- levels

pub nest_level : (x : Header) (nests : List Nest) (opens : ℕ) → IsNest x
    → title_level x nests opens ≡ length nests + opens
nest_level x nests opens p = grind (arith, nat_tests)

pub value_level : (x : Header) (nests : List Nest) (opens : ℕ) → IsItemAlone x
    → title_level x nests opens ≡ length nests + opens
value_level x nests opens p = grind (arith, nat_tests)

pub string_level : (k : Kind) (len : Option ℕ) (nests : List Nest) (opens : ℕ)
    → title_level (kind_header k len) nests opens ≡ length nests + opens
string_level k len nests opens = grind (arith, nat_tests)

-- A title outside of strings has the place of the item that is due.
pub nest_place : (depth : ℕ) (x : Header) (nests : List Nest) (before : List ℕ) (within : Within) → IsNest x
    → IsPlace depth nests before within → IsTitlePlace depth x nests 0 before within
nest_place depth x nests before within p here = grind (arith, nat_tests)

pub value_place : (depth : ℕ) (x : Header) (nests : List Nest) (before : List ℕ) (within : Within) → IsItemAlone x
    → IsPlace depth nests before within → IsTitlePlace depth x nests 0 before within
value_place depth x nests before within p here = grind (arith, nat_tests)

pub string_place : (depth : ℕ) (k : Kind) (len : Option ℕ) (nests : List Nest) (before : List ℕ) (within : Within)
    → IsPlace depth nests before within → IsTitlePlace depth (kind_header k len) nests 0 before within
string_place depth k len nests before within here = grind (arith, nat_tests)

-- Within an open no title has a place.
pub open_place : (depth : ℕ) (x : Header) (nests : List Nest) (opens : ℕ) (before : List ℕ)
    → IsTitlePlace depth x nests (suc opens) before w.Nothing
open_place depth x nests opens before = grind (arith, nat_tests)

-- ---- lines

-- Outside of strings a title is due within no open.
pub due_here : (depth : ℕ) (nests : List Nest) (before : List ℕ) → StandsWithin depth nests before
    → TitleDue depth nests 0 before
due_here depth nests before within = record {
  items = before;
  kind = Bytes;
  parts = [];
  bodies = [];
  within = within;
  are_open = none;
  sound = tt;
  is = sym (append-nil before);
}

pub title_line : (depth start : ℕ) (old new : Option (List Line)) (before title : List ℕ) (x : Header)
    (level place : ℕ) (within : Within) (nests : List Nest) (opens : ℕ) → TitleDue depth nests opens before
    → IsTitle title x → level ≡ title_level x nests opens → IsTitlePlace depth x nests opens before within
    → place ≡ start + length before
    → Draws old new (record { level = level; offset = place; bytes = title; meaning = m.Header x; within = within }
    ∷ [])
    → Lines depth start old new before title Meant
title_line depth start old new before title x level place within nests opens due p same here at drawn =
    lines_one depth start old new before _ drawn at (title_filled title x p)
    (record { nests = nests; opens = opens; due = due; is_title = p; level = same; within = here }) (tt, tt)

-- The row of a title outside of strings stands at the level of the walk.
pub walk_line : (allowed : Spelling) (depth whole start : ℕ) (old new : Option (List Line)) (before title : List ℕ)
    (x : Header)
    (level place : ℕ) (within : Within) (walk : Walk) (due : IsDue allowed depth whole walk before) → IsTitle title x
    → title_level x due.nests 0 ≡ length due.nests + 0
    → (IsPlace depth due.nests before within → IsTitlePlace depth x due.nests 0 before within)
    → level ≡ walk.used
    → ((allowed : Spelling) (depth whole : ℕ) (before : List ℕ) (due : IsDue allowed depth whole walk before)
    → IsPlace depth due.nests before within)
    → place ≡ start + length before
    → Draws old new (record { level = level; offset = place; bytes = title; meaning = m.Header x; within = within }
    ∷ [])
    → Lines depth start old new before title Meant
walk_line allowed depth whole start old new before title x level place within walk due p plain placed same here at
    drawn =
    let used = due.keeps.used in
    let counted : length due.nests ≡ length due.nests + 0 = omega arith in
    title_line depth start old new before title x level place within due.nests 0
    (due_here depth due.nests before (whole, stands_any allowed depth whole due.nests before due.within)) p
    (same ∙ (used ∙ (counted ∙ sym plain))) (placed (here allowed depth whole before due)) at drawn

pub break_line : (allowed : Spelling) (depth whole start : ℕ) (old new : Option (List Line)) (before title : List ℕ)
    (level place : ℕ)
    (closed : Bool) (walk : Walk) → Breaks allowed depth whole closed walk before → IsTitle title h.Break
    → level ≡ walk.used
    → place ≡ start + length before
    → Draws old new (record {
      level = level;
      offset = place;
      bytes = title;
      meaning = m.Header h.Break;
      within = w.Nothing;
    } ∷ [])
    → Lines depth start old new before title Meant
break_line allowed depth whole start old new before title level place closed walk breaks p same at drawn =
    title_line depth start old new before title h.Break level place w.Nothing breaks.nests 0
    (due_here depth breaks.nests before (whole, stands_any allowed depth whole breaks.nests before breaks.within)) p
    (same ∙ breaks.level) refl at drawn

-- ---- items

-- An item follows if one was due, and the key names it.
pub behind_item : (allowed : Spelling) (depth whole : ℕ) (walk : Walk) (x : Header) (key : Key)
    (before title rest : List ℕ)
    → IsDue allowed depth whole walk before → walk.used ≤ walk.depth → IsTitle title x → IsKeyOf x rest key
    → ((levels : ℕ) → IsItem allowed levels (title ++ rest))
    → IsBehindItem allowed depth whole walk key (before ++ (title ++ rest))
behind_item allowed depth whole walk x key before title rest due within p named is_item =
    let used = due.keeps.used in
    let same = due.keeps.same_depth in
    record {
      before = before;
      item = title ++ rest;
      levels = depth - length due.nests;
      nests = due.nests;
      within = due.within;
      keeps = due.keeps;
      left = omega (arith, used, same, within);
      is_item = is_item (depth - length due.nests);
      is = refl;
      names = record { header = x; title = title; rest = rest; is_title = p; is = refl; named = named };
    }

-- A title that is an item, and the key names it.
pub behind_alone : (allowed : Spelling) (depth whole : ℕ) (walk : Walk) (x : Header) (key : Key) (before title : List ℕ)
    → IsDue allowed depth whole walk before → walk.used ≤ walk.depth → IsTitle title x → IsKeyOf x [] key
    → ((levels : ℕ) → IsItem allowed levels title)
    → IsBehindItem allowed depth whole walk key (before ++ title)
behind_alone allowed depth whole walk x key before title due within p named is_item =
    subst (λ (z : List ℕ). IsBehindItem allowed depth whole walk key (before ++ z)) (append-nil title)
    (behind_item allowed depth whole walk x key before title [] due within p named
    (λ levels. subst (λ (z : List ℕ). IsItem allowed levels z) (sym (append-nil title)) (is_item levels)))

value_completes : (allowed : Spelling) (x : Header) → IsItemAlone x → (levels : ℕ) → Completes allowed levels x []
value_completes allowed x p levels = grind (arith, nat_tests, positive, negative, float, simple)

pub value_item : (allowed : Spelling) (x : Header) (title : List ℕ) → IsItemAlone x → IsTitle title x
    → IsTakenTitle allowed title x → (levels : ℕ) → IsItem allowed levels title
value_item allowed x title value p g levels =
    subst (λ (z : List ℕ). IsItem allowed levels z) (append-nil title)
    (item_of allowed levels title [] x p g (value_completes allowed x value levels))

rest_completes : (allowed : Spelling) (k : Kind) (len : Option ℕ) (bytes : List ℕ) → IsRest allowed k len bytes
    → (levels : ℕ) → Completes allowed levels (kind_header k len) bytes
rest_completes allowed k len bytes p levels = grind (arith, nat_tests, byte_string, text_string, open_bytes, open_text)

pub string_item : (allowed : Spelling) (k : Kind) (len : Option ℕ) (title bytes : List ℕ)
    → IsTitle title (kind_header k len) → IsTakenTitle allowed title (kind_header k len) → IsRest allowed k len bytes
    → (levels : ℕ) → IsItem allowed levels (title ++ bytes)
string_item allowed k len title bytes p g rest levels = grind (arith, nat_tests, item_of, bytes, rest_completes)

-- The one title of a break is the byte `ff`.
pub break_bytes : (title : List ℕ) → IsTitle title h.Break → title ≡ 0xff ∷ []
break_bytes title p = alone_bytes title h.Break p refl

-- Outside of all nests the bytes are items.
outside_items : (allowed : Spelling) (depth whole : ℕ) (nests : List Nest) (before : List ℕ)
    → StandsBehind allowed depth whole nests before → length nests ≡ 0 → AreItems allowed depth whole before
outside_items allowed depth whole nests before p q = grind (arith, nat_tests)

pub walk_ended : (allowed : Spelling) (depth whole : ℕ) (walk : Walk) (before : List ℕ)
    → IsDue allowed depth whole walk before → walk.used ≡ 0 → AreItems allowed depth whole before
walk_ended allowed depth whole walk before due empty = grind (arith, nat_tests, outside_items, whole, due)

-- Each nest has a title, so there are at most as many nests as bytes.
pub nests_few : (allowed : Spelling) (depth whole : ℕ) (nests : List Nest) (before : List ℕ)
    → StandsBehind allowed depth whole nests before → length nests ≤ length before
nests_few allowed depth whole nests before (outside i) = omega arith
nests_few allowed depth whole nests before
    (inside {nests = outer} {before = b} {title = t} {items = i} {header = x} w e p g more are) =
    let few = nests_few allowed depth whole outer b w in
    let some = title_some t x p in
    omega (arith, few, some, length-append b (t ++ i), length-append t i)

module _ {R E : Type 0} (source : Ghosts R E) where
  -- Items were read, and after them the beginning of one more. An item is due after the beginning.
  pub record Comes (allowed : Spelling) (depth : ℕ) (walk : Walk) (old new : Decoder R) : Type 0 where
    pub count : ℕ
    pub between : Decoder R
    pub reads : ReadsItems source depth count old between
    pub bytes : List ℕ
    pub passed : ReadsPast source between bytes new
    pub due : IsDue allowed depth 0 walk bytes
    pub alike : IsInMode allowed between

  -- All bytes up to here were shown, and an item is due.
  pub record UpTo (allowed : Spelling) (depth : ℕ) (drawn then_drawn : Option (List Line)) (walk : Walk)
      (old new : Decoder
      R)
      : Type 0 where
    pub bytes : List ℕ
    pub shows : Shows source depth old.offset drawn then_drawn [] bytes Meant old new
    pub whole : ℕ
    pub due : IsDue allowed depth whole walk bytes
    pub came : IsInMode allowed old → Comes allowed depth walk old new

  pub title_only : {how : Ending} (depth start : ℕ) (drawn then_drawn : Option (List Line)) (before title : List ℕ)
      (decoder : Decoder R) → Lines depth start drawn then_drawn before title how
      → ((bytes left : List ℕ) → LeavesAs how bytes left)
      → ShowsBehind source depth start drawn then_drawn before title [] how decoder decoder
  title_only {how} depth start drawn then_drawn before title decoder lines left =
      grind (arith, nat_tests, append-nil, takes_none, IfSome-all)

  -- If nothing is read after a title, the ending makes no claim about the bytes that are left.
  alone_leaves : {W : Type 0} (allowed : Spelling) (depth whole : ℕ) (header : Header) (place : ℕ) (before : List ℕ)
      (result : Result (Unit {0}) (DumpError E W)) → StopsAlone allowed depth whole header place before result
      → (bytes left : List ℕ) → LeavesAs (ending allowed result) bytes left
  alone_leaves allowed depth whole header place before result p bytes left = grind (arith, nat_tests)

  alone_stops : {W : Type 0} (allowed : Spelling) (depth whole : ℕ) (header : Header) (place : ℕ) (before : List ℕ)
      (decoder : Decoder R)
      (result : Result (Unit {0}) (DumpError E W)) → StopsAlone allowed depth whole header place before result
      → EndsAtTitle source allowed depth whole header place before decoder result decoder
  alone_stops allowed depth whole header place before decoder result p = grind (arith, nat_tests, nat_tests)

  none_passed : {W : Type 0} (decoder : Decoder R) (result : Result (Unit {0}) (DumpError E W))
      → OnOk result (ReadsPast source decoder [] decoder)
  none_passed decoder result = grind (arith, nat_tests, ReadsPast-none)

  pub title_alone : {W : Type 0} (depth whole start : ℕ) (drawn then_drawn : Option (List Line))
      (before title : List ℕ) (header : Header) (walk : Walk) (allowed : Spelling) (place : ℕ)
      (result : Result (Unit {0}) (DumpError E W)) (decoder : Decoder R)
      → DrawsTitle allowed depth whole start drawn then_drawn before title header walk place result
      → ShowsTitle source depth whole start drawn then_drawn before title header walk allowed place result decoder
      decoder
  title_alone depth whole start drawn then_drawn before title header walk allowed place result decoder draws = record {
    bytes = [];
    shows = title_only depth start drawn then_drawn before title decoder draws.lines
        (alone_leaves allowed depth whole header place before result draws.stops);
    due = rw (append-nil title) draws.due;
    passed = λ alike. none_passed decoder result;
    stops = λ alike. alone_stops allowed depth whole header place before decoder result draws.stops;
  }

  -- A row at fault shows the bytes that were read of a title before an error.
  pub up_fails : (allowed : Spelling) (error : Error E) (depth : ℕ) (drawn middle then_drawn : Option (List Line))
      (walk : Walk) (row : List ℕ) (place level : ℕ) (old between new : Decoder R)
      → (up : UpTo allowed depth drawn middle walk old between)
      → TakesBytes source between row new → place ≡ between.offset → level ≡ walk.used
      → Draws middle then_drawn (fault_lines level place row) → IsTitleRow allowed error row
      → length row ≤ most_bytes
      → (IsSteadyNoneWaiting source between → IfSome (view source new) (LeavesBehind error row))
      → Shows source depth old.offset drawn then_drawn [] (up.bytes ++ row) (ending_of allowed error) old new
  up_fails allowed error depth drawn middle then_drawn walk row place level old between new up takes at same drawn_fault
      fault few left =
      let used = up.due.keeps.used in
      let moved = up.shows.takes.offset in
      let due = due_here depth up.due.nests up.bytes
      (up.whole, stands_any allowed depth up.whole up.due.nests up.bytes up.due.within) in
      shows_then source depth old.offset drawn middle then_drawn [] up.bytes row old between new up.shows
      (shows_fault source allowed error depth old.offset middle then_drawn up.bytes level place row between new takes
      drawn_fault (omega (arith, at, moved))
      (λ any. inl (record {
        nests = up.due.nests;
        opens = 0;
        due = due;
        fault = title_row allowed due.kind 0 error row fault any;
        level = omega (arith, same, used);
        within = refl;
      })) few (title_fault allowed error row fault) left)

  -- The rows show the title that was read, and the rest of the string that it begins.
  pub up_title : {W : Type 0} (allowed : Spelling) (depth whole place : ℕ) (header : Header) (drawn middle then_drawn :
      Option (List Line)) (before : List ℕ)
      (walk : Walk) (row : List ℕ) (result : Result (Unit {0}) (DumpError E W)) (old between titled new : Decoder R)
      → Shows source depth old.offset drawn middle [] before Meant old between → TakesBytes source between row titled
      → (title : ShowsTitle source depth whole old.offset middle then_drawn before row header walk allowed place result
      titled new)
      → Shows source depth old.offset drawn then_drawn [] (before ++ (row ++ title.bytes)) (ending allowed result) old
      new
  up_title allowed depth whole place header drawn middle then_drawn before walk row result old between titled new shows
      takes title =
      shows_then source depth old.offset drawn middle then_drawn [] before (row ++ title.bytes) old between new shows
      (shows_read source depth old.offset middle then_drawn before row title.bytes between titled new takes
      title.shows)

  -- If no title came, the dump ends as its answer says.
  pub up_ended : {W : Type 0} (allowed : Spelling) (depth : ℕ) (drawn middle then_drawn : Option (List Line))
      (walk : Walk)
      (row : List ℕ) (place level : ℕ) (old between new : Decoder R) (error : Error E)
      (result : Result E (DumpError E W)) → (up : UpTo allowed depth drawn middle walk old between)
      → TakesBytes source between row new → place ≡ between.offset → level ≡ walk.used
      → Draws middle then_drawn (fault_lines level place row) → EndsTitles error level (length row) result
      → IsTitleRow allowed error row → length row ≤ most_bytes
      → (IsSteadyNoneWaiting source between → IfSome (view source new) (LeavesBehind error row)) → AreRowsTaken result
      → ShowsAll source allowed depth drawn then_drawn result old new
  up_ended allowed depth drawn middle then_drawn walk row place level old between new error (Ok fault) up takes at same
      drawn_fault ends row_fault few left taken =
      let none = nothing row ends.2 in
      let shows = shows_then source depth old.offset drawn middle then_drawn [] up.bytes row old between new up.shows
      (shows_nothing source depth old.offset middle then_drawn up.bytes level place row between new takes drawn_fault
      ends.2) in
      let items = walk_ended allowed depth up.whole walk up.bytes up.due (sym same ∙ ends.1) in
      record {
        bytes = up.bytes ++ row;
        shows = shows;
        whole = (
          up.whole,
          subst (λ (z : List ℕ). AreItems allowed depth up.whole z)
              (sym (ap (λ (z : List ℕ). up.bytes ++ z) none ∙ append-nil up.bytes)) items,
        );
      }
  up_ended allowed depth drawn middle then_drawn walk row place level old between new error (Err why) up takes at same
      drawn_fault ends row_fault few left taken = record {
        bytes = up.bytes ++ row;
        shows =
            shows_says source allowed error why depth old.offset drawn then_drawn [] (up.bytes ++ row) old new ends.0
            taken
            (up_fails allowed error depth drawn middle then_drawn walk row place level old between new up takes at same
            drawn_fault row_fault few left);
        whole = tt;
      }
