-- The show of items that stand in byte strings (RFC 8949, 8, and RFC 8610, G.3).
use Rattle.std.specs.Prelude.{◌≡◌, ℕ, zero, suc, List, Some, Result, Ok, Err}
use Rattle.ciborium_ll.specs.Types.Read.{Ghosts as Reader}
use Rattle.ciborium_ll.specs.Types.Write.{Ghosts as Writer}
use Rattle.ciborium_ll.specs.Types.Decoder.{Decoder}
use Rattle.ciborium_ll.specs.Decoding.{view}
use Rattle.ciborium_ll.specs.Encoding.{WritesAll}
use Rattle.ciborium_ll.specs.Sides.{Sides, sides}
use Rattle.cbor_embedded.specs.declared.Embedded.{Embedded}
use Rattle.cbor_diag.specs.declared.DiagError.{DiagError}
use Rattle.cbor_diag.specs.declared.DiagError.TheVariants as d
use Rattle.cbor_diag.specs.declared.layout.Style.{Style}
use Rattle.cbor_diag.specs.HeldStops.{Inside, nothing_inside}
use Rattle.cbor_diag.specs.ItemStops.{ItemStopsAt, ShowsItemAt}
use Rattle.cbor_diag.specs.ItemTexts.{IsItemText}
use Rattle.cbor_diag.specs.Places.{Place, first_line, place_of}

module _ {R E W F : Type 0} (source : Reader R E) (sink : Writer W F) where
  -- A decoder over the bytes of an item showed the item, and the writer failed with this error. `inside` says the same
  -- of the strings within the item. For the item `81 01` the text can be `[`.
  pub record ItemFails (inside : Inside W F) (place : Place) (item : List ℕ) (old : W) (fault : F) (new : W)
      : Type 0 where
    pub before : Decoder R
    pub after : Decoder R
    pub told : view source before ≡ Some item
    pub stops : ItemStopsAt source sink inside place (sides before old) (d.Write fault) (sides after new)

  -- How the show of an item in memory ends if the writer fails, if at most this many strings may contain one another.
  -- With 1, `41 00` is shown in quotes in a string that is shown as an item.
  abbrev pub fails_inside : ℕ → Inside W F
  fails_inside zero = nothing_inside
  fails_inside (suc strings) = ItemFails (fails_inside strings)

  -- The show of an item in memory, by its answer. For the item `81 01` it can be `Ok` after `[1]`.
  abbrev pub ShowsInside : ℕ → Place → List ℕ → W → Result (Unit {0}) F → W → Type 0
  ShowsInside strings place item old (Ok done) new =
      (text : List ℕ) × IsItemText place item text × WritesAll sink old text new
  ShowsInside strings place item old (Err fault) new = ItemFails (fails_inside strings) place item old fault new

module _ {I G R E W F : Type 0} (memory : Reader I G) (source : Reader R E) (sink : Writer W F) where
  -- The show of an item, by its answer. Byte strings are shown as items as `embedded` says, to this depth and in a
  -- memory of this room. At most this many strings may contain one another. Over `41 00` the text can be `<<0>>`.
  abbrev pub ShowsEmbedded : Style → Embedded → ℕ → ℕ → ℕ → Sides R W → Result (Unit {0}) (DiagError E F) → Sides R W
      → Type 0
  ShowsEmbedded style embedded strings depth room old result new =
      ShowsItemAt source sink (fails_inside memory sink strings) (place_of (first_line style embedded) strings depth room)
      old result new
