-- The meaning of a checker's answers for the bytes that it has read, in the words of the grammar (RFC 7049, 2.1 to
-- 2.4).
use Rattle.std.specs.Prelude.{◌≡◌, ℕ, ◌+◌, ◌<◌, ◌≤◌, ◌^◌, ◌⊎◌, List, [], ◌++◌, length, take}
use Rattle.ciborium_ll_grammar.specs.declared.spelling.Spelling.{Spelling}
use Rattle.ciborium_ll_grammar.specs.Items.{IsItem}
use Rattle.cbor_checker.specs.declared.progress.End.{End}
use Rattle.cbor_checker.specs.declared.progress.End.TheVariants as e
use Rattle.cbor_checker.specs.declared.progress.Feed.{Feed}
use Rattle.cbor_checker.specs.declared.progress.Progress.{Progress}
use Rattle.cbor_checker.specs.declared.progress.Progress.TheVariants as r

-- An item begins with these bytes: it is made of them and of more bytes, or of them alone (RFC 7049, 2.1 to 2.4). With
-- depth 1 an item begins with `82 01`, and none with `ff`.
abbrev pub BeginsItem : Spelling → ℕ → List ℕ → Type 0
BeginsItem allowed depth bytes = (more : List ℕ) × IsItem allowed depth (bytes ++ more)

-- An item begins with these bytes, and goes on after them (RFC 7049, 2.1 to 2.4). With depth 1 it does after `82 01`,
-- and not after `82 01 02`.
pub record GoesOn (allowed : Spelling) (depth : ℕ) (bytes : List ℕ) : Type 0 where
  pub begins : BeginsItem allowed depth bytes
  pub unended : IsItem allowed depth bytes → ⊥

-- All bytes that make these bytes an item are at least this many (RFC 7049, 2.1 to 2.4): 1 after `82 01`, and 2 after
-- `19`.
abbrev pub LacksAtLeast : Spelling → ℕ → List ℕ → ℕ → Type 0
LacksAtLeast allowed depth bytes due = (more : List ℕ) → IsItem allowed depth (bytes ++ more) → due ≤ length more

-- The meaning of an answer for all bytes so far (RFC 7049, 2.1 to 2.4). `More`: an item goes on after them, and lacks at
-- least `due` bytes. `Ended`: they are one item, of this length. `Fault`: no item begins with them. `TooLong`: an item
-- goes on after them, and no `usize` counts one byte more. An end, a fault and an item that goes on exclude one another.
-- So an end and a fault come exactly if their lines hold, which the law `exact_answers` says. With depth 1, `82 01` gets
-- `More(1)`, `82 01 02` gets `Ended(3)`, and `ff` gets a fault.
abbrev pub Tells : Spelling → ℕ → List ℕ → Progress → Type 0
Tells allowed depth bytes (r.More due) = GoesOn allowed depth bytes × (1 ≤ due) × LacksAtLeast allowed depth bytes due
Tells allowed depth bytes (r.Ended len) = IsItem allowed depth bytes × (len ≡ length bytes)
Tells allowed depth bytes (r.Fault fault) = BeginsItem allowed depth bytes → ⊥
Tells allowed depth bytes r.TooLong = GoesOn allowed depth bytes × (length bytes + 1 ≡ 2 ^ 64)

-- The meaning of the last answer for all bytes (RFC 7049, 2.1 to 2.4). `Between`: there are none, or they are one item.
-- `Short`: an item goes on after them, and there are some. `Fault`: no item begins with them. With depth 1, `82 01` gets
-- `Short(1)`.
abbrev pub TellsEnd : Spelling → ℕ → List ℕ → End → Type 0
TellsEnd allowed depth bytes e.Between = (bytes ≡ []) ⊎ IsItem allowed depth bytes
TellsEnd allowed depth bytes (e.Short due) = (0 < length bytes) × Tells allowed depth bytes (r.More due)
TellsEnd allowed depth bytes (e.Fault fault) = Tells allowed depth bytes (r.Fault fault)

-- The answer is that more bytes are due: so is the `More(2)` of `19`, and `TooLong` is not.
abbrev pub IsMore : Progress → Type 0
IsMore (r.More due) = Unit {0}
IsMore progress = ⊥

-- The answer is that the item has ended, as `Ended(3)` for `82 01 02`.
abbrev pub IsEnd : Progress → Type 0
IsEnd (r.Ended len) = Unit {0}
IsEnd progress = ⊥

-- The answer is a fault, as `Break(0)` for `ff`.
abbrev pub IsFault : Progress → Type 0
IsFault (r.Fault fault) = Unit {0}
IsFault progress = ⊥

-- A checker that has read some bytes reads a piece, and answers so (RFC 7049, 2.1 to 2.4). `goes`: it takes a byte only
-- if an item goes on after all bytes before it. So an end or a fault comes with the first byte that shows it, and no
-- byte is taken after that one. `all`: it takes all bytes if more are due. `long`: it leaves a byte that it can't count.
-- With depth 1, after `82 01` it takes one byte of `02 03`, and answers `Ended(3)`.
pub record Reads (allowed : Spelling) (depth : ℕ) (read piece : List ℕ) (feed : Feed) : Type 0 where
  pub taken : feed.taken ≤ length piece
  pub goes : (len : ℕ) → len < feed.taken → GoesOn allowed depth (read ++ take len piece)
  pub all : IsMore feed.progress → feed.taken ≡ length piece
  pub long : feed.progress ≡ r.TooLong → feed.taken < length piece
  pub tells : Tells allowed depth (read ++ take feed.taken piece) feed.progress
  pub fits : length read + feed.taken < 2 ^ 64
