-- The rows of a string.
use Rattle.std.specs.Prelude.{◌≡◌, ℕ, List, [], ◌∷◌, ◌++◌, length, Option, Some, None, Result, Ok}
use Rattle.std.specs.Prelude.{Err}
use Rattle.std.specs.Prelude.{OnOk}
use Rattle.ciborium_ll_grammar.specs.declared.spelling.Spelling.{Spelling}
use Rattle.ciborium_ll_grammar.specs.declared.spelling.Spelling.TheVariants.{Any}
use Rattle.ciborium_ll.specs.Types.Read.{Ghosts}
use Rattle.ciborium_ll.specs.Types.Decoder.{Decoder}
use Rattle.ciborium_ll.specs.Types.Error.{Error}
use Rattle.ciborium_ll.specs.Types.Header.{Header}
use Rattle.ciborium_ll.specs.Types.Header.TheVariants as h
use Rattle.ciborium_ll.specs.Strings.{Kind, Bytes, Text, kind_header, AreStrings, IsWritable}
use Rattle.ciborium_ll.specs.Elements.{AreWritable}
use Rattle.ciborium_ll.specs.Faults.{IsRefusedIn}
use Rattle.ciborium_ll.specs.Items.{AreTakenStrings}
use Rattle.ciborium_ll.specs.Decoding.{ReadsPast}
use Rattle.ciborium_ll.specs.Skipping.{StopsInside}
use Rattle.cbor_skip.specs.declared.SkipError.TheVariants as s
use Rattle.cbor_dump.specs.declared.dump.DumpError.{DumpError}
use Rattle.cbor_dump.specs.declared.dump.DumpError.TheVariants as d
use Rattle.cbor_dump.specs.declared.strings.Kind.{Kind as CodeKind}
use Rattle.cbor_dump.specs.declared.strings.Kind.TheVariants as k
use Rattle.cbor_dump.specs.declared.strings.Part.{Part}
use Rattle.cbor_dump.specs.declared.strings.Part.TheVariants as p
use Rattle.cbor_dump.specs.declared.rows.Meaning.{Meaning}
use Rattle.cbor_dump.specs.declared.rows.Meaning.TheVariants as m
use Rattle.cbor_dump.specs.declared.key.KeyBody.{KeyBody}
use Rattle.cbor_dump.specs.Keys.{IsKept}
use Rattle.cbor_dump.specs.Levels.{Line}
use Rattle.cbor_dump.specs.Dumps.{Shows}
use Rattle.cbor_dump.specs.Endings.{ending}
use Rattle.cbor_dump.specs.Parts.{FailsInBody}
use Rattle.cbor_dump.specs.Takings.{ThroughSomeRoom, IsInMode}

-- The kind of a string in the code, as the grammar has it: `Bytes` for `41`, and `Text` for `61`.
abbrev pub kind_of : CodeKind → Kind
kind_of k.Bytes = Bytes
kind_of k.Text = Text

-- The meaning of a part of a body: that of `01` after `41` is `Bytes`.
abbrev pub meaning_of : CodeKind → Meaning
meaning_of k.Bytes = m.Bytes
meaning_of k.Text = m.Text

-- The role of a header within an open of the kind. A strict read refuses a further open (RFC 7049, 2.2.2). After `5f`
-- the title `41` begins a piece of one byte, `5f` is a further open, and `01` may not stand.
abbrev pub IsPart : Spelling → Kind → Header → Part → Type 0
IsPart allowed kind header p.Break = header ≡ h.Break
IsPart allowed kind header (p.Piece len) = header ≡ kind_header kind (Some len)
IsPart allowed kind header p.Open = (header ≡ kind_header kind None) × (allowed ≡ Any)
IsPart allowed kind header p.Other = IsRefusedIn allowed kind header

-- The bytes are strings of the kind and then a break, and each body of a text is UTF-8 (RFC 7049, 2.2.2). If only the
-- shortest spelling is taken, each string has a definite length and a strict title (3.9). `41 61 ff` ends a byte
-- string.
pub record EndsString (allowed : Spelling) (kind : Kind) (bytes : List ℕ) : Type 0 where
  pub strings : List ℕ
  pub bodies : List (List ℕ)
  pub are_strings : AreStrings kind strings bodies
  pub taken : AreTakenStrings allowed kind strings bodies
  pub sound : AreWritable kind bodies
  pub is : bytes ≡ strings ++ 0xff ∷ []

-- The bytes that follow the title of a string of this length (RFC 7049, 2.2.2): two bytes after `42`, and strings and a
-- break after `5f`, as `41 61 ff`.
abbrev pub IsRest : Spelling → Kind → Option ℕ → List ℕ → Type 0
IsRest allowed kind (Some len) bytes = (length bytes ≡ len) × IsWritable kind bytes
IsRest allowed kind None bytes = EndsString allowed kind bytes

module _ {R E : Type 0} (source : Ghosts R E) where
  -- After an open the read of a string failed as that of a skip does (RFC 7049, 2.2.2). The skip has a buffer of at
  -- most a row's 16 bytes. After `5f` the byte `1c` gives `Syntax`.
  abbrev pub FailsInside : Kind → Decoder R → Error E → Decoder R → Type 0
  FailsInside kind old error new = ThroughSomeRoom (λ room. StopsInside source kind room old error new)

module _ {R E W : Type 0} (source : Ghosts R E) where
  -- The read of the bytes that follow a string's title stops as a skip of the string does. The place is that of the
  -- title of a body (RFC 7049, 2.2). After `62` at 0 the body `ff 61` stops it with `Syntax` at 0.
  abbrev pub StopsBehindTitle : Kind → Option ℕ → ℕ → Decoder R → Result (Unit {0}) (DumpError E W) → Decoder R → Type 0
  StopsBehindTitle kind len place old (Ok done) new = Unit {0}
  StopsBehindTitle kind (Some len) place old (Err (d.Item (s.Read error))) new =
      FailsInBody source kind len place old error new
  StopsBehindTitle kind None place old (Err (d.Item (s.Read error))) new = FailsInside source kind old error new
  StopsBehindTitle kind len place old (Err (d.Item (s.Break at))) new = ⊥
  StopsBehindTitle kind len place old (Err (d.Item (s.Deep at))) new = ⊥
  StopsBehindTitle kind len place old (Err (d.Rows fault)) new = Unit {0}

  -- The bytes that follow a string's title were shown, or a beginning of them. For a definite length they are the body,
  -- and the body of a text is UTF-8. Otherwise they are strings and a break. After `5f` they can be `41 61 ff`.
  pub record ShowsBehindTitle (depth start : ℕ) (drawn then_drawn : Option (List Line)) (before : List ℕ) (kind : Kind)
      (len : Option ℕ) (allowed : Spelling) (place : ℕ) (result : Result (Unit {0}) (DumpError E W))
      (old new : Decoder R)
      : Type 0 where
    pub bytes : List ℕ
    pub shows : Shows source depth start drawn then_drawn before bytes (ending allowed result) old new
    pub whole : OnOk result (IsRest allowed kind len bytes)
    pub passed : IsInMode allowed old → OnOk result (ReadsPast source old bytes new)
    pub stops : IsInMode allowed old → StopsBehindTitle kind len place old result new

  -- As `ShowsBehindTitle`, and what was kept is the body, if the string is short and of definite length. After `42` it
  -- is `01 02`.
  pub record ShowsKept (depth start : ℕ) (drawn then_drawn : Option (List Line)) (before : List ℕ) (kind : Kind)
      (len : Option ℕ) (allowed : Spelling) (place : ℕ) (result : Result (Unit {0}) (DumpError E W)) (kept : KeyBody)
      (old new : Decoder R) : Type 0 where
    pub behind :
        ShowsBehindTitle depth start drawn then_drawn before kind len allowed place result old new
    pub keeps : OnOk result (IsKept len behind.bytes kept)
