-- A number of items at the beginning of a sequence (RFC 8742), and the answers of `skip_items`.
use Rattle.std.specs.Prelude.{◌≡◌, ℕ, ◌+◌, ◌<◌, List, ◌++◌, length, Some, Result, Ok, Err}
use Rattle.ciborium_ll_grammar.specs.declared.spelling.Spelling.{Spelling}
use Rattle.ciborium_ll.specs.Types.Read.{Ghosts}
use Rattle.ciborium_ll.specs.Types.Decoder.{Decoder}
use Rattle.ciborium_ll.specs.Items.{AreItems}
use Rattle.ciborium_ll.specs.Decoding.{view, spelling_of}
use Rattle.cbor_skip.specs.declared.SkipError.{SkipError}
use Rattle.cbor_skip.specs.ItemFaults.{BeginsWithItem}
use Rattle.cbor_skip.specs.SkippingTold.{SkipsTold}

-- The bytes begin with this many items to the depth, in any spelling or in the shortest (RFC 8742, 2, and RFC 7049,
-- 3.9). `01 80 05` begins with two items, and `05` is the rest.
pub record BeginsWithItems (allowed : Spelling) (depth count : ℕ) (bytes : List ℕ) : Type 0 where
  pub items : List ℕ
  pub rest : List ℕ
  pub are_items : AreItems allowed depth count items
  pub is : bytes ≡ items ++ rest

module _ {R E : Type 0} (source : Ghosts R E) where
  -- The bytes began with this many items, and exactly the bytes that follow are left. If two items of `01 80 05` are
  -- skipped, `05` is left.
  pub record SkipsAllItems (count depth : ℕ) (due : List ℕ) (old new : Decoder R) : Type 0 where
    pub front : BeginsWithItems (spelling_of old) depth count due
    pub left : view source new ≡ Some front.rest
    pub offset : new.offset ≡ old.offset + length front.items

  -- Fewer items were skipped, and the bytes after them begin with no item. The decoder meets the end there, or the
  -- fault that stops the read of an item. If two items of `01 ff` are to be skipped, it meets `ff` after one.
  pub record SkipsFewItems (count depth : ℕ) (due : List ℕ) (old : Decoder R) (error : SkipError E) (new : Decoder R)
      : Type 0 where
    pub few : ℕ
    pub fewer : few < count
    pub before : List ℕ
    pub ahead : List ℕ
    pub are_items : AreItems (spelling_of old) depth few before
    pub is : due ≡ before ++ ahead
    pub no_item : BeginsWithItem (spelling_of old) depth ahead → ⊥
    pub between : Decoder R
    pub at : between.offset ≡ old.offset + length before
    pub met : SkipsTold source (spelling_of old) depth ahead between (Err error) new

  -- `skip_items` with told bytes, by its answer. For two items of `01 80 05` it is `Ok`, and of `01 ff` an error.
  abbrev pub SkipsItemsTold : ℕ → ℕ → List ℕ → Decoder R → Result (Unit {0}) (SkipError E) → Decoder R → Type 0
  SkipsItemsTold count depth due old (Ok done) new = SkipsAllItems count depth due old new
  SkipsItemsTold count depth due old (Err error) new = SkipsFewItems count depth due old error new
