-- The lines of a dump, one after the other.
use Rattle.std.proofs.lemmas.Bool.Decides.{nat_tests}
use Rattle.std.proofs.Common.{◌≡◌, ℕ, ◌+◌, List, [], ◌∷◌, ◌++◌, length, Option, refl, sym, ap, subst, ◌∙◌}
use Rattle.std.proofs.Common.{append_assoc, append-nil, arith, ◌<◌, ◌≤◌, IfSome}
use Rattle.ciborium_ll_grammar.specs.declared.spelling.Spelling.{Spelling}
use Rattle.ciborium_ll.specs.Types.Read.{Ghosts}
use Rattle.ciborium_ll.specs.Types.Decoder.{Decoder}
use Rattle.cbor_dump.specs.Levels.{Line, bytes_of, FitsRow, Stands, AllStand, Ending, Meant}
use Rattle.cbor_dump.specs.Levels.{IsTitleFault, IsTextFault}
use Rattle.cbor_dump.specs.Endings.{HasMeaning, AreMeant, EndAtFault, EndAs, LeavesAs, ending_before, ending_of}
use Rattle.cbor_dump.specs.Endings.{bytes_at_fault, fault_part}
use Rattle.cbor_dump.specs.Parts.{IsCutText, IsFullPart, IsPartRow}
use Rattle.cbor_dump.specs.declared.rows.Meaning.{Meaning}
use Rattle.cbor_dump.specs.declared.rows.Meaning.TheVariants as m
use Rattle.cbor_dump.specs.declared.rows.Within.TheVariants as w
use Rattle.ciborium_ll.specs.Strings.{Kind, Text}
use Rattle.ciborium_ll.specs.Decoding.{view}
use Rattle.ciborium_ll.proofs.DecodingLaws.{IfSome-all}
use Rattle.ciborium_ll.proofs.NestLaws.{title_some}
use Rattle.ciborium_ll.proofs.TextLaws.{IsCharacters-nil}
use Rattle.ciborium_ll.specs.Types.Error.{Error}
use Rattle.ciborium_ll.specs.Types.Error.TheVariants as e
use Rattle.cbor_dump.specs.Takings.{IsSteadyNoneWaiting, IsTitleRow, LeavesBehind, TakesBytes, most_bytes}
use Rattle.cbor_dump.specs.Dumps.{Draws, IsRefusal, IsErrorOfItem, Lines, SaysFault, Shows, ShowsBehind, fault_lines}
use Rattle.cbor_dump.specs.declared.dump.DumpError.{DumpError}
use Rattle.cbor_dump.proofs.TakingLaws.{takes_none, takes_then}

-- If a row was refused, not each row was taken.
pub not_taken : {E W : Type 0} (why : DumpError E W) → IsRefusal why → IsErrorOfItem why → ⊥
not_taken why p q = grind (arith, nat_tests)

-- ---- lines

pub draws_none : (old : Option (List Line)) → Draws old old []
draws_none old = grind (arith, nat_tests, append-nil)

draws_then : (old middle new : Option (List Line)) (first second : List Line) → Draws old middle first
    → Draws middle new second → Draws old new (first ++ second)
draws_then old middle new first second p q = grind (arith, nat_tests, append_assoc)

bytes_then : (first second : List Line) → bytes_of (first ++ second) ≡ bytes_of first ++ bytes_of second
bytes_then [] second = refl
bytes_then (line ∷ first) second =
    ap (λ (z : List ℕ). line.bytes ++ z) (bytes_then first second)
    ∙ sym (append_assoc line.bytes (bytes_of first) (bytes_of second))

-- A line that has its meaning stands under any ending.
stands_meant : (how : Ending) (depth : ℕ) (before : List ℕ) (meaning : Meaning) (line : Line)
    → Stands Meant depth before meaning line → Stands how depth before meaning line
stands_meant how depth before meaning line p = grind (arith, nat_tests)

stand_then : (how : Ending) (depth start : ℕ) (before : List ℕ) (first second : List Line)
    → AllStand Meant depth start before first → AllStand how depth start (before ++ bytes_of first) second
    → AllStand how depth start before (first ++ second)
stand_then how depth start before [] second a b =
    subst (λ (z : List ℕ). AllStand how depth start z second) (append-nil before) b
stand_then how depth start before (line ∷ first) second a b = (
  a.0,
  a.1,
  stands_meant how depth before line.meaning line a.2,
  stand_then how depth start (before ++ line.bytes) first second a.3
      (subst (λ (z : List ℕ). AllStand how depth start z second)
      (sym (append_assoc before line.bytes (bytes_of first))) b),
)

-- ---- how lines end

-- Lines that have their meaning, after others that do, have their meaning.
meant_then : (first second : List Line) → AreMeant first → AreMeant second → AreMeant (first ++ second)
meant_then [] second a b = b
meant_then (line ∷ first) second a b = (a.0, meant_then first second a.1 b)

fault_behind : (line : Line) (lines : List Line) → HasMeaning line.meaning → EndAtFault lines
    → EndAtFault (line ∷ lines)
fault_behind line lines p q = grind (arith, nat_tests)

-- Lines that end at fault still do so after lines that have their meaning.
fault_then : (first second : List Line) → AreMeant first → EndAtFault second → EndAtFault (first ++ second)
fault_then [] second a b = b
fault_then (line ∷ first) second a b = fault_behind line (first ++ second) a.0 (fault_then first second a.1 b)

ends_then : (how : Ending) (first second : List Line) → AreMeant first → EndAs how second
    → EndAs how (first ++ second)
ends_then how first second p q = grind (arith, nat_tests, meant_then, fault_then)

-- If the error is `Syntax`, some bytes were read.
abbrev pub HasBytesAtFault : {E : Type 0} → Error E → List ℕ → Type 0
HasBytesAtFault (e.Syntax at) bytes = 0 < length bytes
HasBytesAtFault error bytes = Unit {0}

pub title_fault : {E : Type 0} (allowed : Spelling) (error : Error E) (bytes : List ℕ) → IsTitleRow allowed error bytes
    → HasBytesAtFault error bytes
title_fault allowed error bytes p = grind (arith, nat_tests, title_some)

pub part_fault : {E : Type 0} (kind : Kind) (left : ℕ) (error : Error E) (bytes : List ℕ) → 0 < left
    → IsPartRow kind left error bytes → HasBytesAtFault error bytes
part_fault kind left error bytes p q = grind (arith, nat_tests, IsCharacters-nil)

-- The row of the bytes that were read before an error ends as the error says.
pub read_ends : {E : Type 0} (allowed : Spelling) (error : Error E) (level offset : ℕ) (bytes : List ℕ)
    → HasBytesAtFault error bytes → EndAs (ending_of allowed error) (fault_lines level offset bytes)
read_ends allowed error level offset bytes p = grind (arith, nat_tests)

-- ---- rows at fault

-- Bytes that were read of a title before an error are a title at fault.
pub title_row : {E : Type 0} (allowed : Spelling) (kind : Kind) (opens : ℕ) (error : Error E) (bytes : List ℕ)
    → IsTitleRow allowed error bytes → 0 < length bytes → IsTitleFault (ending_of allowed error) kind opens bytes
title_row allowed kind opens error bytes p q = grind (arith, nat_tests)

full_cut : (left : ℕ) (bytes : List ℕ) → IsCutText left bytes → IsFullPart Text left bytes
full_cut left bytes cut = (let many = cut.many in omega (arith, many), cut.soon)

-- Bytes that were read of a body before an error are a full part of a text at fault.
pub part_row : {E : Type 0} (allowed : Spelling) (kind : Kind) (left : ℕ) (error : Error E) (bytes : List ℕ)
    → IsPartRow kind left error bytes → 0 < length bytes
    → (kind ≡ Text) × IsTextFault (ending_of allowed error) left bytes × IsFullPart Text left bytes
part_row allowed kind left error bytes p q = grind (arith, nat_tests, full_cut)

-- The bytes that are left after an error are as few as the ending says.
pub leaves_as : {E : Type 0} (allowed : Spelling) (error : Error E) (bytes : List ℕ) (known : Option (List ℕ))
    → IfSome known (LeavesBehind error bytes) → IfSome known (LeavesAs (ending_of allowed error) bytes)
leaves_as allowed error bytes known p = grind (arith, nat_tests, IfSome-all)

-- A line that has its meaning has no bytes at fault.
no_fault : (meaning : Meaning) (bytes : List ℕ) → HasMeaning meaning → fault_part meaning bytes ≡ []
no_fault meaning bytes p = grind (arith, nat_tests)

pub fault_behind_meant : (first second : List Line) → AreMeant first
    → bytes_at_fault (first ++ second) ≡ bytes_at_fault second
fault_behind_meant [] second meant = refl
fault_behind_meant (line ∷ first) second meant =
    ap (λ (z : List ℕ). z ++ bytes_at_fault (first ++ second)) (no_fault line.meaning line.bytes meant.0)
    ∙ fault_behind_meant first second meant.1

-- If no line was drawn, the lines have no bytes.
pub lines_none : (depth start : ℕ) (drawn : Option (List Line)) (before : List ℕ)
    → Lines depth start drawn drawn before [] Meant
lines_none depth start drawn before =
    record { lines = []; drawn = draws_none drawn; stand = tt; joined = refl; ends = tt }

-- Lines of some bytes and then lines of more bytes are the lines of both.
pub lines_then : {how : Ending} (depth start : ℕ) (old middle new : Option (List Line))
    (before first second : List ℕ) → Lines depth start old middle before first Meant
    → Lines depth start middle new (before ++ first) second how
    → Lines depth start old new before (first ++ second) how
lines_then {how} depth start old middle new before first second a b = record {
  lines = a.lines ++ b.lines;
  drawn = draws_then old middle new a.lines b.lines a.drawn b.drawn;
  stand = stand_then how depth start before a.lines b.lines a.stand
      (subst (λ (z : List ℕ). AllStand how depth start (before ++ z) b.lines) (sym a.joined) b.stand);
  joined = bytes_then a.lines b.lines ∙ (ap (λ (z : List ℕ). z ++ bytes_of b.lines) a.joined
      ∙ ap (λ (z : List ℕ). first ++ z) b.joined);
  ends = ends_then how a.lines b.lines a.ends b.ends;
}

-- A row that fits and stands at its level is a line of its bytes.
pub lines_one : {how : Ending} (depth start : ℕ) (old new : Option (List Line)) (before : List ℕ) (line : Line)
    → Draws old new (line ∷ []) → line.offset ≡ start + length before → FitsRow line.bytes
    → Stands how depth before line.meaning line → EndAs how (line ∷ [])
    → Lines depth start old new before line.bytes how
lines_one depth start old new before line drawn offset filled stands ends = record {
  lines = line ∷ [];
  drawn = drawn;
  stand = (offset, filled, stands, tt);
  joined = append-nil line.bytes;
  ends = ends;
}

module _ {R E : Type 0} (source : Ghosts R E) where
  pub shows_none : (depth start : ℕ) (drawn : Option (List Line)) (before : List ℕ) (decoder : Decoder R)
      → Shows source depth start drawn drawn before [] Meant decoder decoder
  shows_none depth start drawn before decoder =
      record {
        lines = lines_none depth start drawn before;
        takes = takes_none source decoder;
        left = λ idle. IfSome-all (view source decoder) _ (λ any. tt);
      }

  pub shows_then : {how : Ending} (depth start : ℕ) (drawn middle then_drawn : Option (List Line))
      (before first second : List ℕ) (old between new : Decoder R)
      → Shows source depth start drawn middle before first Meant old between
      → Shows source depth start middle then_drawn (before ++ first) second how between new
      → Shows source depth start drawn then_drawn before (first ++ second) how old new
  unfolding lines_then
  shows_then {how} depth start drawn middle then_drawn before first second old between new a b = record {
    lines = lines_then depth start drawn middle then_drawn before first second a.lines b.lines;
    takes = takes_then source old between new first second a.takes b.takes;
    left = λ idle. subst (λ (z : List ℕ). IfSome (view source new) (LeavesAs how z))
        (sym (fault_behind_meant a.lines.lines b.lines.lines a.lines.ends)) (b.left (a.takes.consumed idle).1);
  }

  -- Bytes were read, and lines of these and further bytes were drawn. The lines show all these bytes.
  pub shows_read : {how : Ending} (depth start : ℕ) (drawn then_drawn : Option (List Line)) (before row bytes : List ℕ)
      (old between new : Decoder R) → TakesBytes source old row between
      → ShowsBehind source depth start drawn then_drawn before row bytes how between new
      → Shows source depth start drawn then_drawn before (row ++ bytes) how old new
  shows_read depth start drawn then_drawn before row bytes old between new takes behind = record {
    lines = behind.lines;
    takes = takes_then source old between new row bytes takes behind.takes;
    left = λ idle. behind.left (takes.consumed idle).1;
  }

  -- The line of a title and the lines of the bytes after it show both.
  pub title_then : {how : Ending} (depth start : ℕ) (drawn middle then_drawn : Option (List Line))
      (before title bytes : List ℕ) (old new : Decoder R) → Lines depth start drawn middle before title Meant
      → Shows source depth start middle then_drawn (before ++ title) bytes how old new
      → ShowsBehind source depth start drawn then_drawn before title bytes how old new
  unfolding lines_then
  title_then {how} depth start drawn middle then_drawn before title bytes old new first rest = record {
    lines = lines_then depth start drawn middle then_drawn before title bytes first rest.lines;
    takes = rest.takes;
    left = λ idle. subst (λ (z : List ℕ). IfSome (view source new) (LeavesAs how z))
        (sym (fault_behind_meant first.lines rest.lines.lines first.ends)) (rest.left idle);
  }

  -- If the dump answers with the error of the read, the lines end as the dump's error says.
  pub shows_says : {W : Type 0} (allowed : Spelling) (error : Error E) (why : DumpError E W) (depth start : ℕ)
      (drawn then_drawn : Option (List Line)) (before bytes : List ℕ) (old new : Decoder R) → SaysFault error why
      → IsErrorOfItem why → Shows source depth start drawn then_drawn before bytes (ending_of allowed error) old new
      → Shows source depth start drawn then_drawn before bytes (ending_before allowed why) old new
  shows_says allowed error why depth start drawn then_drawn before bytes old new p q r =
      grind (arith, nat_tests, ending_of)

  -- A row at fault shows the bytes that were read before an error. If no byte was read, there is no row.
  pub shows_fault : (allowed : Spelling) (error : Error E) (depth start : ℕ) (drawn then_drawn : Option (List Line))
      (before : List ℕ) (level offset : ℕ) (row : List ℕ) (old new : Decoder R) → TakesBytes source old row new
      → Draws drawn then_drawn (fault_lines level offset row) → offset ≡ start + length before
      → (0 < length row → Stands (ending_of allowed error) depth before m.Fault
      (record { level = level; offset = offset; bytes = row; meaning = m.Fault; within = w.Nothing }))
      → length row ≤ most_bytes → HasBytesAtFault error row
      → (IsSteadyNoneWaiting source old → IfSome (view source new) (LeavesBehind error row))
      → Shows source depth start drawn then_drawn before row (ending_of allowed error) old new
  unfolding lines_one
  shows_fault allowed error depth start drawn then_drawn before level offset [] old new takes draws at stands few some
      left = record {
        lines = record {
          lines = [];
          drawn = draws;
          stand = tt;
          joined = refl;
          ends = read_ends allowed error level offset [] some;
        };
        takes = takes;
        left = λ idle. leaves_as allowed error [] (view source new) (left idle);
      }
  shows_fault allowed error depth start drawn then_drawn before level offset (byte ∷ bytes) old new takes draws at
      stands
      few some left = record {
        lines = lines_one depth start drawn then_drawn before _ draws at (omega arith, few) (stands (omega arith))
            (read_ends allowed error level offset (byte ∷ bytes) some);
        takes = takes;
        left = λ idle. subst (λ (z : List ℕ). IfSome (view source new) (LeavesAs (ending_of allowed error) z))
            (sym (append-nil (byte ∷ bytes))) (leaves_as allowed error (byte ∷ bytes) (view source new) (left idle));
      }

  -- If no byte was read, no line is added and none is at fault.
  pub shows_nothing : (depth start : ℕ) (drawn then_drawn : Option (List Line)) (before : List ℕ) (level offset : ℕ)
      (row : List ℕ) (old new : Decoder R) → TakesBytes source old row new
      → Draws drawn then_drawn (fault_lines level offset row) → length row ≡ 0
      → Shows source depth start drawn then_drawn before row Meant old new
  shows_nothing depth start drawn then_drawn before level offset row old new p q r =
      grind (arith, nat_tests, IfSome-all, view)
