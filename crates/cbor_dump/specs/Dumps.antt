-- The lines of `dump` and of its parts. The bytes of the lines, joined, are the consumed bytes, and each line stands at
-- its level.
use Rattle.std.specs.Prelude.{◌≡◌, ◌⊎◌, ℕ, ◌+◌, ◌<◌, ◌≤◌, List, [], ◌∷◌, ◌++◌, length, Option, Some, None, IfSome}
use Rattle.std.specs.Prelude.{Result, Ok, Err}
use Rattle.ciborium_ll.specs.Types.Read.{Ghosts}
use Rattle.ciborium_ll.specs.Types.Decoder.{Decoder}
use Rattle.ciborium_ll.specs.Types.Error.{Error}
use Rattle.ciborium_ll.specs.Types.Error.TheVariants as e
use Rattle.cbor_skip.specs.declared.SkipError.TheVariants as s
use Rattle.cbor_dump.specs.declared.dump.DumpError.{DumpError}
use Rattle.cbor_dump.specs.declared.dump.DumpError.TheVariants as d
use Rattle.cbor_dump.specs.declared.rows.Meaning.TheVariants as m
use Rattle.cbor_dump.specs.declared.rows.Within.TheVariants as w
use Rattle.ciborium_ll.specs.Decoding.{offset_limit, view, ReadsPast}
use Rattle.cbor_dump.specs.Takings.{EndsRow, IsSteadyNoneWaiting, ReadsOn, RefusesRead, StopsBy, TakesBytes, most_bytes}
use Rattle.cbor_dump.specs.Levels.{Line, Ending, Meant, bytes_of, AllStand}
use Rattle.cbor_dump.specs.Endings.{EndAs, LeavesAs, bytes_at_fault}

-- Each line was taken, though a fault may follow the lines. After both lines of `01 ff` the error is `Item(Break(1))`.
abbrev pub IsErrorOfItem : {E W : Type 0} → DumpError E W → Type 0
IsErrorOfItem (d.Item error) = Unit {0}
IsErrorOfItem (d.Rows fault) = ⊥

-- Each line was taken, whatever the answer says otherwise. For `01` it can be `Ok`, and for `01 ff` the error of an
-- item.
abbrev pub AreRowsTaken : {A E W : Type 0} → Result A (DumpError E W) → Type 0
AreRowsTaken (Ok value) = Unit {0}
AreRowsTaken (Err error) = IsErrorOfItem error

-- The answer is this error of the read, unless a row was refused. For `Syntax(1)`, as `81 1c` gives, it is
-- `Item(Read(Syntax(1)))`.
abbrev pub SaysFault : {E W : Type 0} → Error E → DumpError E W → Type 0
SaysFault error (d.Item why) = why ≡ s.Read error
SaysFault error (d.Rows fault) = Unit {0}

-- The error is that of a refused row, and not that of an item, as `Item(Break(1))` for `01 ff`.
abbrev pub IsRefusal : {E W : Type 0} → DumpError E W → Type 0
IsRefusal (d.Item error) = ⊥
IsRefusal (d.Rows fault) = Unit {0}

-- The answer is the error of a refused row. If only the row of `82` is taken, it is so for `82 01 02`.
abbrev pub IsRefused : {A E W : Type 0} → Result A (DumpError E W) → Type 0
IsRefused (Ok value) = ⊥
IsRefused (Err error) = IsRefusal error

-- The error is that of the end: outside of all nests the reader failed before a byte of a title came. If the bytes end
-- after `01`, it is, and if they end after `81` or `19`, it is not.
abbrev pub IsEndOf : {E : Type 0} → Error E → ℕ → ℕ → Type 0
IsEndOf (e.Io fault) level len = (level ≡ 0) × (len ≡ 0)
IsEndOf error level len = ⊥

-- The error is that of a title after which nothing more is read. It can be `Item(Break(1))`, as for `01 ff`, and not
-- `Item(Read(TooLong))`.
abbrev pub IsAlone : {E W : Type 0} → DumpError E W → Type 0
IsAlone (d.Item (s.Read error)) = ⊥
IsAlone error = Unit {0}

-- The answer of a dump whose read of a title failed with this error, after it read this many bytes of the title. At the
-- end, outside of all nests, the sequence ends. Otherwise the answer says the fault. If the bytes end after `01`, it is
-- `Ok`, and if they end after `81`, it is an error.
abbrev pub EndsTitles : {E W : Type 0} → Error E → ℕ → ℕ → Result E (DumpError E W) → Type 0
EndsTitles error level len (Ok fault) = (error ≡ e.Io fault) × (level ≡ 0) × (len ≡ 0)
EndsTitles error level len (Err why) = SaysFault error why × (IsEndOf error level len → ⊥)

-- If a header waits, a dump draws no row, reads nothing, and answers that a header waits. It is so if a caller pulled
-- the title `82` and pushed its header back.
pub record AnswersWaiting {R E S W : Type 0} (rows : S) (old : Decoder R) (result : Result E (DumpError E W))
    (then_rows : S) (new : Decoder R) : Type 0 where
  pub answer : result ≡ Err (d.Item (s.Read e.Waiting))
  pub no_row : then_rows ≡ rows
  pub refuses : RefusesRead old new

-- The lines so far, if they are told, grow by these lines. After the line of `82` those of `01` and `02` make three.
abbrev pub Draws : Option (List Line) → Option (List Line) → List Line → Type 0
Draws None new lines = Unit {0}
Draws (Some old) None lines = ⊥
Draws (Some old) (Some new) lines = new ≡ old ++ lines

-- The lines so far, and this line after them. The line of `01` after that of `81` makes two.
abbrev pub with_line : Option (List Line) → Line → Option (List Line)
with_line None line = None
with_line (Some lines) line = Some (lines ++ line ∷ [])

-- A row was refused. If it had been taken, the lines would have grown by these lines. If those of `82` and `01` were
-- taken and that of `02` was refused, these are all three.
pub record DrawsRefused (old new : Option (List Line)) (lines : List Line) : Type 0 where
  pub row : Line
  pub draws : Draws old (with_line new row) lines

-- The line of the bytes that were read before a fault, if there are any. `19` gives one line, and no bytes give none.
abbrev pub fault_lines : ℕ → ℕ → List ℕ → List Line
fault_lines level offset [] = []
fault_lines level offset (byte ∷ bytes) =
    record { level = level; offset = offset; bytes = byte ∷ bytes; meaning = m.Fault; within = w.Nothing } ∷ []

-- After the bytes before, which begin at the start, lines of these bytes were drawn. Each line stands at its level, and
-- the lines end as `ending` says. After `82` the bytes `01 02` have two lines at the level 1.
pub record Lines (depth start : ℕ) (old new : Option (List Line)) (before bytes : List ℕ) (ending : Ending)
    : Type 0 where
  pub lines : List Line
  pub drawn : Draws old new lines
  pub stand : AllStand ending depth start before lines
  pub joined : bytes_of lines ≡ bytes
  pub ends : EndAs ending lines

-- A row of these bytes was refused. If it had been taken, it would stand at its level. After `81` the row of `01` would
-- stand at the level 1.
pub record LinesRefused (depth start : ℕ) (old new : Option (List Line)) (before bytes : List ℕ) : Type 0 where
  pub row : Line
  pub lines : Lines depth start old (with_line new row) before bytes Meant

module _ {R E W : Type 0} (source : Ghosts R E) where
  -- A dump or a part of it leaves its decoder as the read that ended it does. If a row was refused, either no read
  -- failed, or the row has the bytes that were read before one failed. At the break in `01 ff` no read failed.
  abbrev pub StopsDump : DumpError E W → Decoder R → Decoder R → Type 0
  StopsDump (d.Item (s.Read error)) old new = StopsBy source error old new
  StopsDump (d.Item (s.Break at)) old new = ReadsOn source old new
  StopsDump (d.Item (s.Deep at)) old new = ReadsOn source old new
  StopsDump (d.Rows fault) old new = ReadsOn source old new ⊎ ((error : Error E) × StopsBy source error old new)

  -- How a part of a dump leaves its decoder. On `Ok`, as after the title `01`, no read failed.
  abbrev pub LeavesPart : Result (Unit {0}) (DumpError E W) → Decoder R → Decoder R → Type 0
  LeavesPart (Ok done) old new = ReadsOn source old new
  LeavesPart (Err error) old new = StopsDump error old new

  -- How a dump leaves its decoder. At its end, as after `01 02`, the reader failed once.
  abbrev pub LeavesDecoder : Result E (DumpError E W) → Decoder R → Decoder R → Type 0
  LeavesDecoder (Ok fault) old new = StopsBy source (e.Io fault) old new
  LeavesDecoder (Err error) old new = StopsDump error old new

module _ {R E : Type 0} (source : Ghosts R E) where
  -- The lines that were drawn have exactly the consumed bytes. If told bytes end too early, `left` says how many are
  -- left. In `81 19 01` the lines have `81 19`, and 1 byte is left.
  pub record Shows (depth start : ℕ) (drawn then_drawn : Option (List Line)) (before bytes : List ℕ)
      (ending : Ending) (old new : Decoder R) : Type 0 where
    pub lines : Lines depth start drawn then_drawn before bytes ending
    pub takes : TakesBytes source old bytes new
    pub left : IsSteadyNoneWaiting source old → IfSome (view source new) (LeavesAs ending (bytes_at_fault lines.lines))

  -- As `Shows`, but the lines have also the bytes of `row`, which were consumed before. For the row `42` and the bytes
  -- `01 02` there are two lines.
  pub record ShowsBehind (depth start : ℕ) (drawn then_drawn : Option (List Line)) (before row bytes : List ℕ)
      (ending : Ending) (old new : Decoder R) : Type 0 where
    pub lines : Lines depth start drawn then_drawn before (row ++ bytes) ending
    pub takes : TakesBytes source old bytes new
    pub left : IsSteadyNoneWaiting source old → IfSome (view source new) (LeavesAs ending (bytes_at_fault lines.lines))

  -- A row was refused. The rows before it and this row have exactly the consumed bytes, and each stands at its level:
  -- as `Shows` says, if the row had been taken. If the row of `01` in `82 01 02` was refused, the consumed bytes are
  -- `82 01`.
  pub record ShowsRefused (depth start : ℕ) (drawn then_drawn : Option (List Line)) (before : List ℕ)
      (old new : Decoder R) : Type 0 where
    pub row : Line
    pub how : Ending
    pub bytes : List ℕ
    pub shows : Shows depth start drawn (with_line then_drawn row) before bytes how old new

  -- The bytes of a title were consumed before, and then a row was refused: the title's or a later row. After `42` it is
  -- that of `42` or that of the body `01 02`.
  pub record ShowsBehindRefused (depth start : ℕ) (drawn then_drawn : Option (List Line)) (before title : List ℕ)
      (old new : Decoder R) : Type 0 where
    pub row : Line
    pub how : Ending
    pub bytes : List ℕ
    pub shows : ShowsBehind depth start drawn (with_line then_drawn row) before title bytes how old new

  -- The bytes that a dump left are shown at the level, in at most one line. The bytes came one by one until the line
  -- was full or a read failed, and no read followed. If the reader is steady, no header waits, at most 16 bytes are
  -- told and the offset fits them, the line has all of them. The bytes `1c 01` make one line, and no bytes make none.
  pub record ShowsLeft (level : ℕ) (drawn then_drawn : Option (List Line)) (old new : Decoder R) : Type 0 where
    pub bytes : List ℕ
    pub draws : Draws drawn then_drawn (fault_lines level old.offset bytes)
    pub few : length bytes ≤ most_bytes
    pub takes : TakesBytes source old bytes new
    pub between : Decoder R
    pub passed : ReadsPast source old bytes between
    pub ends : EndsRow source (length bytes) between new
    pub all : (due : List ℕ) → IsSteadyNoneWaiting source old → view source old ≡ Some due → length due ≤ most_bytes
        → old.offset + length due < offset_limit → bytes ≡ due
