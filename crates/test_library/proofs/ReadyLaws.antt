-- A fresh decoder over a steady reader that tells its bytes, and a writer with room for as many, are ready for a copy.
use Rattle.std.proofs.Common.{◌≡◌, ℕ, ◌+◌, ◌<◌, ◌≤◌, IsTrue, List, length, Some, subst, sym, ap, ◌∙◌, inr, arith}
use Rattle.ciborium_ll.specs.Types.Spelling.TheVariants.{Any}
use Rattle.ciborium_ll.specs.Types.Read.{Ghosts as Reader}
use Rattle.ciborium_ll.specs.Types.Write.{Ghosts as Writer}
use Rattle.ciborium_ll.specs.Types.Decoder.{Decoder}
use Rattle.ciborium_ll.specs.Decoding.{IsFresh, offset_limit}
use Rattle.ciborium_ll.specs.Copying.{IsReadyForTitles}
use Rattle.ciborium_ll.specs.Exactly.{OnlyBytesStop}
use Rattle.ciborium_ll.specs.Premises.{longest_affix}
use Rattle.ciborium_ll.specs.Sides.{sides}
use Rattle.ciborium_ll.proofs.PremiseLaws.{fresh_can_read}

module _ {D S E F : Type 0} (source : Reader D E) (sink : Writer S F) where
  still_steady : (reader : D) (decoder : Decoder D) → IsFresh reader 0 decoder → IsTrue (source.steady reader)
      → IsTrue (source.steady decoder.reader)
  still_steady reader decoder fresh steady = subst (λ (r : D). IsTrue (source.steady r)) (sym fresh.reader) steady

  pub ready_for_elements : (count size room : ℕ) (reader : D) (decoder : Decoder D) (writer : S)
      (due written : List ℕ) → IsFresh reader 0 decoder → IsTrue (source.steady reader)
      → source.ahead reader ≡ Some due → sink.written writer ≡ Some written → sink.room writer ≡ Some room
      → length due ≤ room
      → length due + longest_affix < offset_limit → length due + size < offset_limit
      → OnlyBytesStop source sink Any count size decoder writer due written
  ready_for_elements count size room reader decoder writer due written fresh steady ahead output space enough title
      chunk =
      record {
        mode = fresh.mode;
        none_waits = fresh.none_waits;
        due-told = ap source.ahead fresh.reader ∙ ahead;
        steady = still_steady reader decoder fresh steady;
        written-told = output;
        room = room;
        room-told = space;
        enough = inr enough;
        fits-title = omega (arith, fresh.offset, title);
        fits-chunk = omega (arith, fresh.offset, chunk);
      }

  pub ready_for_titles : (room : ℕ) (reader : D) (decoder : Decoder D) (writer : S) (due written : List ℕ)
      → IsFresh reader 0 decoder → IsTrue (source.steady reader)
      → source.ahead reader ≡ Some due → sink.written writer ≡ Some written → sink.room writer ≡ Some room
      → length due ≤ room
      → length due + longest_affix < offset_limit → IsReadyForTitles source sink (sides decoder writer) due written
  ready_for_titles room reader decoder writer due written fresh steady ahead output space enough title = record {
    lenient = fresh.mode;
    can_read = fresh_can_read source 0 reader decoder due fresh steady ahead title (omega (arith, title));
    can_write = record { told = output; room = room; room-told = space; enough = enough };
  }
