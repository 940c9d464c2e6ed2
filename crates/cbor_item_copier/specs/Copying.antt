-- A copier of an item, by the states of its checker and its copier of elements.
use Rattle.std.specs.Prelude.{◌≡◌, ℕ, List, [], ◌∷◌, ◌++◌}
use Rattle.ciborium_ll_grammar.specs.declared.spelling.Spelling.{Spelling}
use Rattle.ciborium_ll_grammar.specs.declared.spelling.Spelling.TheVariants.{Any}
use Rattle.cbor_copier.specs.declared.copier.Copier.{Copier}
use Rattle.cbor_copier.specs.Copying as copy
use Rattle.cbor_copier.specs.Spots.{Spot as Elements, putting}
use Rattle.cbor_copier.specs.Steps.{IsFed as AreElementsFed}
use Rattle.cbor_checker.specs.declared.phase.Phase.{Phase}
use Rattle.cbor_checker.specs.declared.phase.Phase.TheVariants as p
use Rattle.cbor_checker.specs.Checking.{spot_of}
use Rattle.cbor_checker.specs.Spots.{Spot}
use Rattle.cbor_checker.specs.Steps.{IsFed}
use Rattle.cbor_item_copier.specs.declared.copier.ItemCopier.{ItemCopier}
use Rattle.cbor_item_copier.specs.declared.progress.End.{End}
use Rattle.cbor_item_copier.specs.declared.progress.Progress.{Progress}
use Rattle.cbor_item_copier.specs.declared.progress.Progress.TheVariants as r
use Rattle.cbor_item_copier.specs.Telling.{end_of, progress_of}

-- The most bytes that a `usize` counts, 2^64 - 1. Each element has a byte, so an item whose bytes are counted has at
-- most as many elements.
abbrev pub most : ℕ
most = 18446744073709551615

-- The bytes that are copied of all bytes so far, by the phase of the checker: all of them except the byte at fault. The
-- copied bytes of `82 ff` are `82`.
abbrev pub AreTaken : Phase → List ℕ → List ℕ → Type 0
AreTaken (p.Faulted fault) fed bytes = (byte : ℕ) × (fed ≡ bytes ++ byte ∷ [])
AreTaken phase fed bytes = fed ≡ bytes

-- `AreFed allowed depth fed item elements output`: these bytes came to a copy of one item to the depth. They led a
-- checker to the spot `item`. The bytes that the checker takes led a copier of elements to the spot `elements`, and put
-- this output out. If any spelling is allowed, `18 01` puts out `01`.
pub record AreFed (allowed : Spelling) (depth : ℕ) (fed : List ℕ) (item : Spot) (elements : Elements) (output : List ℕ)
    : Type 0 where
  pub checked : IsFed allowed depth fed item
  pub bytes : List ℕ
  pub taken : AreTaken item.phase fed bytes
  pub copied : AreElementsFed Any most bytes elements output

-- The bytes that were put out and are to be written: `01` after `18 01` without room.
abbrev pub pending_of : Copier → List ℕ
pending_of copier = copy.pending copier

-- How many bytes are to be written, or are held back of a title or a character that is not whole: two after `19 01`.
abbrev pub kept_len : Copier → ℕ
kept_len copier = copy.held copier

-- The bytes that a copier of an item put out and is to write: `01` after `82 01` with room for one byte.
abbrev pub pending : ItemCopier → List ℕ
pending c = pending_of c.copier

-- How many bytes the copier is to write, or holds back of a title or a character that is not whole: one after `18`.
abbrev pub held : ItemCopier → ℕ
held c = kept_len c.copier

-- The state of the checker. After `82 01` one more item is due.
abbrev pub item_spot : ItemCopier → Spot
item_spot c = spot_of c.checker

-- The state of the copier of elements, apart from the pending bytes. After `82 18` it holds `18` back.
abbrev pub elements_spot : ItemCopier → Elements
elements_spot c = putting [] (copy.spot_of c.copier)

-- The bytes `fed` came to a copy of one item to the depth, and the bytes `given` were written: all that was put out
-- except for the pending bytes. After `82 01` with room for one byte, `given` is `82`.
abbrev pub IsItemCopied : Spelling → ℕ → List ℕ → List ℕ → ItemCopier → Type 0
IsItemCopied allowed depth fed given c = AreFed allowed depth fed (item_spot c) (elements_spot c) (given ++ pending c)

-- ---- in the words of the grammar

-- `HasCopied allowed depth read written copier`: the copier has read exactly the bytes `read` for an item to the depth,
-- and for `Shortest` in its shortest spelling. It has written exactly the bytes `written` (RFC 7049, 2.1 to 2.4 and
-- 3.9). If any spelling is allowed, a copier that took `82 18 01` has read these, and has written `82 01` if there was
-- room. A caller needs no more of this word: `new` and `feed` say when it holds, and `Tells` says what follows for the
-- bytes. How a copier keeps what it has read is its own.
unfoldable pub HasCopied : Spelling → ℕ → List ℕ → List ℕ → ItemCopier → Type 0
HasCopied allowed depth read written copier = IsItemCopied allowed depth read written copier

-- The copier's answer, with the number that is due or the place of a fault: `More 1` after `82 01`, and `Room` if some
-- of it is pending. The law `one_answer` says that the bytes decide it.
unfoldable pub Answers : ItemCopier → Progress → Type 0
Answers copier progress = progress ≡ progress_of (pending copier) (item_spot copier)

-- The answer to a piece is the copier's, unless it is `TooLong`: then nothing is pending. After `82 01` with nothing
-- pending, `More 1` and `TooLong` are such answers, and `More 2` is none.
abbrev pub AnswersPiece : ItemCopier → Progress → Type 0
AnswersPiece copier r.TooLong = pending copier ≡ []
AnswersPiece copier progress = Answers copier progress

-- The copier's answer if no more bytes come: `Short 1` after `82 01`. The law `one_answer` says that the bytes decide
-- it.
unfoldable pub AnswersEnd : ItemCopier → End → Type 0
AnswersEnd copier end = end ≡ end_of (pending copier) (item_spot copier)
