-- The read of a part of a body, compared with a skip of the string.
use Rattle.std.specs.Prelude.{◌≡◌, ℕ, ◌<◌, ◌≤◌, ◌⊎◌, min, Bool, true, false, List, [], ◌++◌, length, take}
use Rattle.std.specs.Prelude.{Result, Ok, Err}
use Rattle.ciborium_ll.specs.Types.Read.{Ghosts}
use Rattle.ciborium_ll.specs.Types.Decoder.{Decoder}
use Rattle.ciborium_ll.specs.Types.Error.{Error}
use Rattle.ciborium_ll.specs.Types.Error.TheVariants as e
use Rattle.ciborium_ll.specs.Strings.{Kind, Bytes, Text}
use Rattle.ciborium_ll.specs.Decoding.{ReadsPast}
use Rattle.ciborium_ll.specs.Finishing.{EndsBody, IsNoText}
use Rattle.ciborium_ll_text.specs.Text.{IsCharacters}
use Rattle.ciborium_ll_text.specs.declared.state.State.{State}
use Rattle.ciborium_ll_text.specs.declared.state.State.TheVariants as t
use Rattle.ciborium_ll_text.specs.States.{after}
use Rattle.cbor_dump.specs.Takings.{ThroughSomeRoom, most_bytes, most_text, widest_text}

-- The bytes so far end between two characters (Unicode, Table 3-7), as `c3 a9` does.
abbrev pub is_between : State → Bool
is_between t.Between = true
is_between state = false

-- The bytes so far end inside a character (Unicode, Table 3-7), as `c3` does.
abbrev pub is_inside : State → Bool
is_inside t.Between = false
is_inside t.Damaged = false
is_inside state = true

-- The bytes are characters, or they begin no text of a body that has `left` bytes left. If one byte is left, `c3`
-- begins no text.
abbrev pub IsSound : ℕ → List ℕ → Bool → Type 0
IsSound left bytes true = IsCharacters bytes
IsSound left bytes false = IsNoText [] left bytes

-- The bytes of a row of a text, up to the end of the character that the eighth byte is in: at most 11 bytes. Each
-- shorter front of at least 8 bytes ends inside a character (Unicode, Table 3-7). Seven `61` and `c3 a9` are such, and
-- nine `61` are none.
pub record EndsSoon (bytes : List ℕ) : Type 0 where
  pub few : length bytes ≤ widest_text
  pub inside : (count : ℕ) → most_text ≤ count → count < length bytes
      → is_inside (after t.Between (take count bytes)) ≡ true

-- The first bytes of a text that was cut, of a body that has `left` bytes left. They end inside a character (RFC 3629,
-- 4), as seven `61` and a `c3` do.
pub record IsCutText (left : ℕ) (bytes : List ℕ) : Type 0 where
  pub many : most_text ≤ length bytes
  pub soon : EndsSoon bytes
  pub due : length bytes < left
  pub no_text : IsCharacters bytes → ⊥
  pub more : List ℕ
  pub goes_on : IsCharacters (bytes ++ more)

-- The bytes are as many as a row has, of a body that has `left` bytes left: 16, or 8 of a text with the rest of their
-- last character, or all that is left. A byte string of 20 bytes has parts of 16 and 4 bytes.
abbrev pub IsFullPart : Kind → ℕ → List ℕ → Type 0
IsFullPart Bytes left bytes = min left most_bytes ≤ length bytes
IsFullPart Text left bytes = (min left most_text ≤ length bytes) × EndsSoon bytes

-- The bytes that were read of a body that has `left` bytes left, if the read stopped with this error. For `Syntax` they
-- are a full part of a text's body that is no text, or begins none. Otherwise there are none, or they are the first
-- bytes of a text that was cut. If 2 bytes are left, they can be `ff 61` for `Syntax`.
abbrev pub IsPartRow : {E : Type 0} → Kind → ℕ → Error E → List ℕ → Type 0
IsPartRow kind left (e.Syntax at) bytes = (kind ≡ Text) × IsNoText [] left bytes × IsFullPart Text left bytes
IsPartRow kind left error bytes = (bytes ≡ []) ⊎ ((kind ≡ Text) × IsCutText left bytes)

module _ {R E : Type 0} (source : Ghosts R E) where
  -- The read of a body that has `left` bytes left failed as that of a skip does. The skip has a buffer of at most a
  -- row's 16 bytes (RFC 7049, 2.1; RFC 3629, 4). If 2 bytes of a text are left, `ff 61` can give `Syntax`.
  abbrev pub FailsInBody : Kind → ℕ → ℕ → Decoder R → Error E → Decoder R → Type 0
  FailsInBody kind left place old error new =
      ThroughSomeRoom (λ room. EndsBody source kind [] left room place old (Err error) new)

  -- Bytes of a text that had `left` bytes left were read. Or the read failed as the read of the whole body does
  -- (RFC 7049, 2.1; RFC 3629, 4). If 2 bytes are left, `c3 a9` can give `Ok(true)`, and not `Ok(false)`.
  abbrev pub ReadsTextPart : ℕ → List ℕ → Decoder R → Result Bool (Error E) → Decoder R → Type 0
  ReadsTextPart left bytes old (Ok whole) new = ReadsPast source old bytes new × IsSound left bytes whole
  ReadsTextPart left bytes old (Err error) new = (place : ℕ) → FailsInBody Text left place old error new

  -- Bytes of a body of either kind were read. Or the read failed as the read of the whole body does (RFC 7049, 2.1;
  -- RFC 3629, 4). After `41` the byte `ff` can be read.
  abbrev pub ReadsPart : Kind → ℕ → ℕ → List ℕ → Decoder R → Result (Unit {0}) (Error E) → Decoder R → Type 0
  ReadsPart kind left place bytes old (Ok done) new = ReadsPast source old bytes new
  ReadsPart kind left place bytes old (Err error) new = FailsInBody kind left place old error new
