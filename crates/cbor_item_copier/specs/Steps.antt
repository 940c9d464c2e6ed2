-- The steps of a copier of an item by some bytes more.
use Rattle.std.specs.Prelude.{◌≡◌, ℕ, ◌+◌, ◌<◌, ◌≤◌, ◌^◌, ◌⊎◌, List, [], ◌++◌, length, take, drop, Option, Some, None}
use Rattle.ciborium_ll_grammar.specs.declared.spelling.Spelling.{Spelling}
use Rattle.cbor_item_copier.specs.declared.copier.ItemCopier.{ItemCopier}
use Rattle.cbor_item_copier.specs.Copying.{IsItemCopied, held, pending}

-- `taken` bytes were taken, and `written` bytes were written to the start of the room. They are all that the copier put
-- out, or the room is full. If any spelling is allowed, `82 18 01` with enough room gives `taken` 3 and `written` 2.
pub record Written (old : ItemCopier) (bytes room : List ℕ) (taken written : ℕ) (out : List ℕ) (new : ItemCopier)
    : Type 0 where
  pub some : 0 < taken
  pub all : taken ≤ length bytes
  pub within : written ≤ length room
  pub kept : drop written out ≡ drop written room
  pub full : (pending new ≡ []) ⊎ (written ≡ length room)
  pub grown : written + held new ≤ held old + taken
  pub copied : (allowed : Spelling) (depth : ℕ) (fed given : List ℕ) → IsItemCopied allowed depth fed given old
      → IsItemCopied allowed depth (fed ++ take taken bytes) (given ++ take written out) new

-- No byte was taken or written, since no more bytes can be counted after 2^64 - 1.
pub record Stops (old : ItemCopier) (room out : List ℕ) (new : ItemCopier) : Type 0 where
  pub none : pending new ≡ pending old
  pub held_same : held new ≡ held old
  pub same : out ≡ room
  pub copied : (allowed : Spelling) (depth : ℕ) (fed given : List ℕ) → IsItemCopied allowed depth fed given old
      → IsItemCopied allowed depth fed given new × (length fed + 1 ≡ 2 ^ 64)

-- A step, by the numbers of bytes that were taken and written, or `None` if it stops. With room for one byte the
-- numbers of `82 01` may be 2 and 1.
abbrev pub Takes : ItemCopier → List ℕ → List ℕ → Option (ℕ × ℕ) → List ℕ → ItemCopier → Type 0
Takes old bytes room (Some both) out new = Written old bytes room both.0 both.1 out new
Takes old bytes room None out new = Stops old room out new

-- Bytes of a piece were taken up to the place `next`. `before` bytes were written before them, and then more: all that
-- the copier put out, or the room is full. In a room of 2 bytes, from the place 1 of `82 01` on and with `before` 1,
-- `next` and `end` are 2.
pub record WrittenTo (old : ItemCopier) (bytes : List ℕ) (at : ℕ) (room : List ℕ) (before next end : ℕ) (out : List ℕ)
    (new : ItemCopier) : Type 0 where
  pub some : at < next
  pub all : next ≤ length bytes
  pub more : before ≤ end
  pub within : end ≤ length room
  pub kept : drop end out ≡ drop end room
  pub full : (pending new ≡ []) ⊎ (end ≡ length room)
  pub grown : at + end + held new ≤ next + before + held old
  pub copied : (allowed : Spelling) (depth : ℕ) (fed given : List ℕ)
      → IsItemCopied allowed depth (fed ++ take at bytes) (given ++ take before room) old
      → IsItemCopied allowed depth (fed ++ take next bytes) (given ++ take end out) new

-- A step from a place of a piece on, by the ends of the bytes that were taken and written, or `None` if it stops. If
-- any spelling is allowed, the ends of `82 18 01` from the place 1 on, with one byte written before, may be 3 and 2.
abbrev pub TakesAt : ItemCopier → List ℕ → ℕ → List ℕ → ℕ → Option (ℕ × ℕ) → List ℕ → ItemCopier → Type 0
TakesAt old bytes at room before (Some ends) out new = WrittenTo old bytes at room before ends.0 ends.1 out new
TakesAt old bytes at room before None out new = Stops old room out new
