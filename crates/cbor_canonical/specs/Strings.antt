-- Strings of any form, and the strings that are written for them.
use Rattle.std.specs.Prelude.{◌≡◌, ℕ, zero, suc, ◌<◌, ◌^◌, List, [], ◌∷◌, ◌++◌, length, Option, Some, None}
use Rattle.ciborium_ll_text.specs.Text.{joined}
use Rattle.ciborium_ll_grammar.specs.Title.{IsTitle}
use Rattle.ciborium_ll_grammar.specs.Strings.{Kind, Bytes, Text, kind_header, AreStrings, IsWritable}
use Rattle.ciborium_ll_grammar.specs.Elements.{AreWritable, body_spelling}
use Rattle.cbor_deterministic.specs.Fronts.{InFront}
use Rattle.cbor_canonical.specs.declared.Stop.{Stop}
use Rattle.cbor_canonical.specs.declared.Stop.TheVariants as stop
use Rattle.cbor_canonical.specs.declared.strings.StringKind.{StringKind}
use Rattle.cbor_canonical.specs.declared.strings.StringKind.TheVariants as k
use Rattle.cbor_canonical.specs.declared.strings.Step.{Step}
use Rattle.cbor_canonical.specs.declared.strings.Step.TheVariants as s

-- The kind of string in the words of the grammar: `Text` for a text, as `61 61`.
abbrev pub kind_of : StringKind → Kind
kind_of k.Bytes = Bytes
kind_of k.Text = Text

-- The bytes begin with a body of this length, which a string of the kind may have. `01 02 03` begins with the body
-- `01 02` of length 2.
pub record IsBody (kind : Kind) (len : ℕ) (bytes body rest : List ℕ) : Type 0 where
  pub whole : bytes ≡ body ++ rest
  pub is : length body ≡ len
  pub writable : IsWritable kind body

-- The bytes begin with no such body. `01` begins with none of length 2, and `ff` with none of a text of length 1.
abbrev pub HasNoBody : Kind → ℕ → List ℕ → Type 0
HasNoBody kind len bytes = (body rest : List ℕ) → IsBody kind len bytes body rest → ⊥

-- The bytes are a string of definite length with this body. `42 01 02` and `58 02 01 02` have the body `01 02`.
pub record IsChunk (kind : Kind) (body bytes : List ℕ) : Type 0 where
  pub title : List ℕ
  pub is_title : IsTitle title (kind_header kind (Some (length body)))
  pub writable : IsWritable kind body
  pub whole : bytes ≡ title ++ body

-- The next part of an open string: a break, a further open or a string of definite length (RFC 8949, 3.2.3). In a byte
-- string `ff`, `5f` and `41 01` are such parts.
abbrev pub IsStep : Kind → List ℕ → Step → Type 0
IsStep kind bytes (s.Closed rest) = bytes ≡ 0xff ∷ rest.now
IsStep kind bytes (s.Opened rest) = InFront (λ title. IsTitle title (kind_header kind None)) bytes rest.now
IsStep kind bytes (s.Chunk body rest) = InFront (IsChunk kind body.now) bytes rest.now

-- `Closes kind opens bytes`: the bytes begin with strings of the kind and breaks that end that many opens (RFC 8949,
-- 3.2.3). In a byte string `41 01 ff` closes one open.
pub data Closes (kind : Kind) : ℕ → List ℕ → Type 0 where
  all_closed : {bytes : List ℕ} → Closes kind zero bytes
  by_break : {opens : ℕ} {rest : List ℕ} → Closes kind opens rest → Closes kind (suc opens) (0xff ∷ rest)
  by_chunk : {opens : ℕ} {title rest : List ℕ} (body : List ℕ) → IsTitle title (kind_header kind (Some (length body)))
      → IsWritable kind body → Closes kind (suc opens) rest → Closes kind (suc opens) (title ++ (body ++ rest))
  by_open : {opens : ℕ} {title rest : List ℕ} → IsTitle title (kind_header kind None)
      → Closes kind (suc (suc opens)) rest → Closes kind (suc opens) (title ++ rest)

-- The bytes begin with no strings of the kind and breaks that end one or more opens (RFC 8949, 3.2.3). In a byte string
-- `61 61 ff` begins with none, and neither does `41 01`, since no break follows.
abbrev pub HasNoStep : Kind → List ℕ → Type 0
HasNoStep kind bytes = (opens : ℕ) → Closes kind (suc opens) bytes → ⊥

-- The bytes are strings of the kind and a break, and then this rest. Their bodies are joined after the old bytes.
-- `41 01 41 02 ff` are the bodies `01` and `02`, joined to `01 02`.
pub record Gathers (kind : Kind) (bytes rest old new : List ℕ) : Type 0 where
  pub strings : List ℕ
  pub bodies : List (List ℕ)
  pub are : AreStrings kind strings bodies
  pub writable : AreWritable kind bodies
  pub whole : bytes ≡ strings ++ 0xff ∷ rest
  pub wrote : new ≡ old ++ joined bodies

-- Why the bytes begin with no strings of the kind and a break: there are none, or the lent memory is too small. For
-- `41 01` without a break it is `Malformed`, or `Room`.
abbrev pub FailsGather : Kind → List ℕ → Stop → Type 0
FailsGather kind bytes stop.Malformed = (strings rest : List ℕ) (bodies : List (List ℕ))
    → AreStrings kind strings bodies → AreWritable kind bodies → bytes ≡ strings ++ 0xff ∷ rest → ⊥
FailsGather kind bytes (stop.NoSimple left) = ⊥
FailsGather kind bytes (stop.Duplicate left) = ⊥
FailsGather kind bytes stop.Room = Unit {0}

-- The bytes that follow a title of this length are the body, or strings and a break. After `5f` the bytes `41 01 ff`
-- have the body `01`.
pub data IsContent (kind : Kind) : Option ℕ → List ℕ → List ℕ → Type 0 where
  told : {body : List ℕ} → IsWritable kind body → IsContent kind (Some (length body)) body body
  until_break : {strings : List ℕ} {bodies : List (List ℕ)} → AreStrings kind strings bodies
      → AreWritable kind bodies → IsContent kind None (strings ++ 0xff ∷ []) (joined bodies)

-- The bytes follow a title of this length, and the string is written after a title that has its length. After `5f` the
-- bytes `41 01 ff` are written as `41 01`.
pub record IsStringTurned (kind : Kind) (len : Option ℕ) (bytes written : List ℕ) : Type 0 where
  pub body : List ℕ
  pub content : IsContent kind len bytes body
  pub range : length body < 2 ^ 64
  pub spelled : written ≡ body_spelling kind body

-- Why no content of a string of this length begins the bytes: there is none, or the lent memory is too small. With the
-- length 2, it is `Malformed` or `Room` for `01`.
abbrev pub FailsString : Kind → Option ℕ → List ℕ → Stop → Type 0
FailsString kind len bytes stop.Malformed = (content body rest : List ℕ) → IsContent kind len content body
    → bytes ≡ content ++ rest → ⊥
FailsString kind len bytes (stop.NoSimple left) = ⊥
FailsString kind len bytes (stop.Duplicate left) = ⊥
FailsString kind len bytes stop.Room = Unit {0}
