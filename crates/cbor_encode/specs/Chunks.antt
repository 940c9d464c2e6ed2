-- The strings within a string of indefinite length.
use Rattle.std.specs.Prelude.{◌≡◌, List, ℕ, zero, suc, ◌++◌, None}
use Rattle.ciborium_ll_grammar.specs.declared.spelling.Spelling.{Spelling}
use Rattle.ciborium_ll_grammar.specs.declared.spelling.Spelling.TheVariants.{Shortest}
use Rattle.ciborium_ll_grammar.specs.Title.{IsTitle}
use Rattle.ciborium_ll_grammar.specs.Strings.{Kind, kind_header, AreStrings}
use Rattle.ciborium_ll_grammar.specs.Elements.{AreWritable}
use Rattle.ciborium_ll_grammar.specs.Items.{AreTakenStrings}

-- The bytes are strings of the kind, joined, and each body of a text is UTF-8. If `allowed` is `Shortest`, the strings
-- have definite lengths and shortest titles (RFC 8949, 3.2.3 and 4.1). `41 01 41 02` are two byte strings.
pub record HasChunks (allowed : Spelling) (kind : Kind) (strings : List ℕ) : Type 0 where
  pub bodies : List (List ℕ)
  pub are : AreStrings kind strings bodies
  pub taken : AreTakenStrings allowed kind strings bodies
  pub writable : AreWritable kind bodies

-- `IsAmong kind opens strings bodies`: after its open the bytes begin a string with these bodies, and this many opens
-- are not closed (RFC 7049, 2.2.2). After `5f` the bytes `41 01 5f 41 02` leave two.
pub data IsAmong (kind : Kind) : ℕ → List ℕ → List (List ℕ) → Type 0 where
  alone : {strings : List ℕ} {bodies : List (List ℕ)} → AreStrings kind strings bodies → IsAmong kind 1 strings bodies
  further : {opens : ℕ} (outer title strings : List ℕ) (bodies others : List (List ℕ))
      → IsAmong kind opens outer bodies → IsTitle title (kind_header kind None) → AreStrings kind strings others
      → IsAmong kind (suc opens) (outer ++ (title ++ strings)) (bodies ++ others)

-- The bytes begin such a string, and each body of a text is UTF-8. If `allowed` is `Shortest`, they are strings of
-- definite lengths with shortest titles. After `5f` the bytes `5f 41 01` do for `Any`.
pub record BeginsChunks (allowed : Spelling) (kind : Kind) (opens : ℕ) (strings : List ℕ) : Type 0 where
  pub bodies : List (List ℕ)
  pub among : IsAmong kind opens strings bodies
  pub shallow : allowed ≡ Shortest → opens ≡ 1
  pub taken : AreTakenStrings allowed kind strings bodies
  pub writable : AreWritable kind bodies

-- The bytes are all strings after an open, or begin them: this many opens are not closed. After `5f` the bytes `41 01`
-- are all strings if its break is due, and begin them if a further string is due.
abbrev pub AreWithin : Spelling → Kind → ℕ → List ℕ → Type 0
AreWithin allowed kind zero strings = HasChunks allowed kind strings
AreWithin allowed kind (suc opens) strings = BeginsChunks allowed kind (suc opens) strings
