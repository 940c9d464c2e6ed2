-- A decoder after the items that it passed over, and the bytes that are left.
use Rattle.std.proofs.Common.{◌≡◌, ℕ, List, ◌++◌, Some, None, ap, inl, inr, ◌∙◌}
use Rattle.ciborium_ll_grammar.specs.declared.spelling.Spelling.{Spelling}
use Rattle.ciborium_ll.specs.Types.Decoder.{Decoder}
use Rattle.ciborium_ll.specs.Types.Read.{Ghosts}
use Rattle.ciborium_ll.specs.Decoding.{IsFreshAs, spelling_of, view}
use Rattle.ciborium_ll.specs.Items.{AreItems}
use Rattle.cbor_skip.specs.declared.SkipError.{SkipError}
use Rattle.cbor_skip.specs.Skipping.{ReadsCounted, StopsCounted, allowed_by}
use Rattle.cbor_skip.proofs.StrictnessLaws.{strict_settled}
use Rattle.tool_files.proofs.InputLaws.{consumed_rest}

-- If no header waits, the bytes to come are those of the reader.
ahead_of : {R E : Type 0} (source : Ghosts R E) (d : Decoder R) (ahead : List ℕ) → d.waiting ≡ None
    → view source d ≡ Some ahead → source.ahead d.reader ≡ Some ahead
ahead_of source d ahead none told = rw none at told

module _ {R E : Type 0} (source : Ghosts R E) (allowed : Spelling) (start : R) (count depth : ℕ) (old : Decoder R)
    (fresh : IsFreshAs allowed start 0 old) where
  spelling : allowed_by old ≡ allowed
  spelling = strict_settled old.waiting (spelling_of old) fresh.none_waits ∙ fresh.mode

  module _ (new : Decoder R) (reads : ReadsCounted source count depth old new) where
    -- No header waits.
    none_waits_then : new.waiting ≡ None
    none_waits_then =
        elim reads.passed.waiting [
          | inl same ↦ ap (λ (d : Decoder R). d.waiting) same.1 ∙ fresh.none_waits
          | inr none ↦ none
        ]

    -- The items stand in the spelling of the decoder.
    pub items_then : AreItems allowed depth count reads.items
    items_then = rw spelling at reads.are_items

    -- The bytes after the items are told.
    pub bytes_then : (due : List ℕ) → source.ahead start ≡ Some due
        → (ahead : List ℕ) × (source.ahead new.reader ≡ Some ahead) × (due ≡ reads.items ++ ahead)
    bytes_then due told =
        let view_told : view source old ≡ Some due = rw (fresh.none_waits, fresh.reader) told in
        let left = consumed_rest due reads.items (view source new) (rw view_told at reads.passed.consumed) in
        (left.0, ahead_of source new left.0 none_waits_then left.1, left.2)

  -- The items before a fault stand in the spelling of the decoder.
  pub few_items : (room : ℕ) (error : SkipError E) (new : Decoder R)
      (stops : StopsCounted source count depth room old error new) → AreItems allowed depth stops.before stops.items
  few_items room error new stops = rw spelling at stops.are_items

  -- The bytes after the items before a fault are told.
  pub few_bytes : (room : ℕ) (error : SkipError E) (new : Decoder R)
      (stops : StopsCounted source count depth room old error new) (due : List ℕ) → source.ahead start ≡ Some due
      → (ahead : List ℕ) × (due ≡ stops.items ++ ahead)
  few_bytes room error new stops due told =
      let view_told : view source old ≡ Some due = rw (fresh.none_waits, fresh.reader) told in
      let left = consumed_rest due stops.items (view source stops.between) (rw view_told at stops.passed.consumed) in
      (left.0, left.2)
