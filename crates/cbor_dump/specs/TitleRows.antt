-- The rows of a title, and the rows of the string that it begins.
use Rattle.std.specs.Prelude.{◌≡◌, ℕ, false, List, [], ◌++◌, Option, Result, Ok, Err, OnOk}
use Rattle.ciborium_ll_grammar.specs.declared.spelling.Spelling.{Spelling}
use Rattle.ciborium_ll.specs.Types.Read.{Ghosts}
use Rattle.ciborium_ll.specs.Types.Decoder.{Decoder}
use Rattle.ciborium_ll.specs.Types.Error.{Error}
use Rattle.ciborium_ll.specs.Types.Header.{Header}
use Rattle.ciborium_ll.specs.Types.Header.TheVariants as h
use Rattle.ciborium_ll.specs.Strings.{Kind, kind_header}
use Rattle.ciborium_ll.specs.Decoding.{ReadsPast}
use Rattle.ciborium_ll.specs.Skipping.{SkipsString}
use Rattle.cbor_skip.specs.declared.SkipError.TheVariants as s
use Rattle.cbor_skip.specs.Due.{IsNest}
use Rattle.cbor_dump.specs.declared.dump.DumpError.{DumpError}
use Rattle.cbor_dump.specs.declared.dump.DumpError.TheVariants as d
use Rattle.cbor_dump.specs.declared.walk.Walk.{Walk}
use Rattle.cbor_dump.specs.Levels.{Line, Nest, StandsBehind, closes_one}
use Rattle.cbor_dump.specs.Dumps.{Lines, Shows, ShowsBehind}
use Rattle.cbor_dump.specs.Endings.{ending}
use Rattle.cbor_dump.specs.Walks.{IsDueBehind, IsDeepest}
use Rattle.cbor_dump.specs.Takings.{ThroughSomeRoom, IsInMode}
use Rattle.cbor_dump.specs.Sequences.{IsSequence}

-- After the bytes an item is due, and a break may not stand in its place. That is so after `82 01`.
pub record IsUnclosed (allowed : Spelling) (depth whole : ℕ) (before : List ℕ) : Type 0 where
  pub nests : List Nest
  pub within : StandsBehind allowed depth whole nests before
  pub not_closable : closes_one nests 0 ≡ false

-- After the bytes an item is due, and the header that came is that of a string. After `81` the header of `42` is that
-- of a byte string of 2 bytes.
pub record IsStringDue (allowed : Spelling) (depth whole : ℕ) (before : List ℕ) (header : Header) (kind : Kind)
    (len : Option ℕ) : Type 0 where
  pub nests : List Nest
  pub within : StandsBehind allowed depth whole nests before
  pub is : header ≡ kind_header kind len

module _ {E W : Type 0} where
  -- A title that begins no string ends a dump at the title's place: a break that may not stand there, or a nest too
  -- deep (RFC 7049, 2.2). After `81` a break may not stand, and to the depth 1 a second `81` is too deep.
  abbrev pub StopsAlone : Spelling → ℕ → ℕ → Header → ℕ → List ℕ → Result (Unit {0}) (DumpError E W) → Type 0
  StopsAlone allowed depth whole header place before (Ok done) = Unit {0}
  StopsAlone allowed depth whole header place before (Err (d.Item (s.Read error))) = ⊥
  StopsAlone allowed depth whole header place before (Err (d.Item (s.Break at))) =
      IsUnclosed allowed depth whole before × (header ≡ h.Break) × (at ≡ place)
  StopsAlone allowed depth whole header place before (Err (d.Item (s.Deep at))) =
      IsDeepest allowed depth whole before × IsNest header × (at ≡ place)
  StopsAlone allowed depth whole header place before (Err (d.Rows fault)) = Unit {0}

  -- A title was drawn, after which nothing more is read. On `Ok` an item is due after it. After `82` the title `01` has
  -- a line at the level 1.
  pub record DrawsTitle (allowed : Spelling) (depth whole start : ℕ) (drawn then_drawn : Option (List Line))
      (before title : List ℕ) (header : Header) (walk : Walk) (place : ℕ)
      (result : Result (Unit {0}) (DumpError E W)) : Type 0 where
    pub lines : Lines depth start drawn then_drawn before title (ending allowed result)
    pub due : OnOk result (IsDueBehind allowed depth whole walk (before ++ title))
    pub stops : StopsAlone allowed depth whole header place before result

module _ {R E : Type 0} (source : Ghosts R E) where
  -- A string of this length failed as a skip of it does, through a buffer of at most a row's 16 bytes (RFC 7049, 2.2).
  -- After `62` the body `ff 61` gives `Syntax`.
  abbrev pub FailsInString : Kind → Option ℕ → Decoder R → Error E → Decoder R → Type 0
  FailsInString kind len old error new = ThroughSomeRoom (λ room. SkipsString source kind len room old (Err error) new)

module _ {R E W : Type 0} (source : Ghosts R E) where
  -- A title ends a dump, or the string that it begins does. The string stops as a skip of it does (RFC 7049, 2.2).
  -- After `81` the title `ff` ends it, and so does `62` with the body `ff 61`.
  abbrev pub EndsAtTitle : Spelling → ℕ → ℕ → Header → ℕ → List ℕ → Decoder R → Result (Unit {0}) (DumpError E W)
      → Decoder R → Type 0
  EndsAtTitle allowed depth whole header place before old (Ok done) new = Unit {0}
  EndsAtTitle allowed depth whole header place before old (Err (d.Item (s.Read error))) new =
      (kind : Kind) × (len : Option ℕ) × IsStringDue allowed depth whole before header kind len
      × FailsInString source kind len old error new
  EndsAtTitle allowed depth whole header place before old (Err (d.Item (s.Break at))) new =
      IsUnclosed allowed depth whole before × (header ≡ h.Break) × (at ≡ place) × (new ≡ old)
  EndsAtTitle allowed depth whole header place before old (Err (d.Item (s.Deep at))) new =
      IsDeepest allowed depth whole before × IsNest header × (at ≡ place) × (new ≡ old)
  EndsAtTitle allowed depth whole header place before old (Err (d.Rows fault)) new = Unit {0}

  -- A title that was read before was shown, and the string that it begins. On `Ok` an item is due after it. For `42`
  -- the lines are those of `42` and of its body `01 02`.
  pub record ShowsTitle (depth whole start : ℕ) (drawn then_drawn : Option (List Line)) (before title : List ℕ)
      (header : Header) (walk : Walk) (allowed : Spelling) (place : ℕ) (result : Result (Unit {0}) (DumpError E W))
      (old new : Decoder R) : Type 0 where
    pub bytes : List ℕ
    pub shows : ShowsBehind source depth start drawn then_drawn before title bytes (ending allowed result) old new
    pub due : OnOk result (IsDueBehind allowed depth whole walk (before ++ (title ++ bytes)))
    pub passed : IsInMode allowed old → OnOk result (ReadsPast source old bytes new)
    pub stops : IsInMode allowed old → EndsAtTitle allowed depth whole header place before old result new

module _ {R E W : Type 0} (source : Ghosts R E) where
  -- The lines that were drawn have exactly the consumed bytes, and each stands at its level. At most the last line
  -- before an error is at fault (`ending`). On `Ok` the bytes are a sequence of items (RFC 8742), in any spelling or in
  -- the shortest one. The bytes `82 01 02` have three lines.
  pub record ShowsAll (allowed : Spelling) (depth : ℕ) (drawn then_drawn : Option (List Line)) (result : Result E
      (DumpError E W))
      (old new : Decoder R) : Type 0 where
    pub bytes : List ℕ
    pub shows : Shows source depth old.offset drawn then_drawn [] bytes (ending allowed result) old new
    pub whole : OnOk result (IsSequence allowed depth bytes)
