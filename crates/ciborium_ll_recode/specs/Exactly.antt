-- The condition under which a copy of elements succeeds, and the bytes that it wrote and left, in terms of `Shortens`
-- alone.
use Rattle.std.specs.Prelude.{◌≡◌, ℕ, ◌+◌, ◌<◌, ◌≤◌, ◌^◌, ◌⊎◌, ◌↔◌, List, [], ◌++◌, length, Some, None}
use Rattle.std.specs.Prelude.{Result, IsOk, IsTrue}
use Rattle.ciborium_ll_io.specs.declared.io.Read.{Ghosts as Reader}
use Rattle.ciborium_ll_io.specs.declared.io.Write.{Ghosts as Writer}
use Rattle.ciborium_ll_grammar.specs.declared.spelling.Spelling.{Spelling}
use Rattle.ciborium_ll_grammar.specs.declared.spelling.Spelling.TheVariants.{Any}
use Rattle.ciborium_ll_grammar.specs.Shortening.{Shortens}
use Rattle.ciborium_ll_decoder.specs.declared.dec.Decoder.{Decoder}
use Rattle.ciborium_ll_decoder.specs.declared.copy.RecodeError.{RecodeError}

module _ {R E W F : Type 0} (source : Reader R E) (sink : Writer W F) where
  -- Only the bytes can stop a copy. No header waits, the reader gives the bytes that it tells, and the offset fits
  -- them, with the 8 bytes of the longest affix and with the buffer's length to spare. The writer has room for the copy
  -- of `count` elements if that many are next, and otherwise for as many bytes as are due. For one element of
  -- `18 17 05`, this is room for 1 byte. `IsReady` follows from it, and rests on more definitions.
  pub record OnlyBytesStop (allowed : Spelling) (count room-in : ℕ) (decoder : Decoder R) (writer : W)
      (due written : List ℕ) : Type 0 where
    pub mode : decoder.spelling ≡ allowed
    pub none_waits : decoder.waiting ≡ None
    pub due-told : source.ahead decoder.reader ≡ Some due
    pub steady : IsTrue (source.steady decoder.reader)
    pub written-told : sink.written writer ≡ Some written
    pub room : ℕ
    pub room-told : sink.room writer ≡ Some room
    pub enough : ((copy : List ℕ) × (rest : List ℕ) × Shortens Any count due copy rest × (length copy ≤ room))
        ⊎ (length due ≤ room)
    pub fits-title : decoder.offset + length due + 8 < 2 ^ 64
    pub fits-chunk : decoder.offset + length due + room-in < 2 ^ 64

  -- `Ok` comes exactly if `count` elements are next. Exactly their copy was then appended, and exactly the bytes that
  -- follow are ahead. A copy of the copy is the same bytes. If one element of `18 17 01` is due and the copy is not
  -- strict, it writes `17`, and `01` is ahead.
  pub record CopiesExactly (allowed : Spelling) (count : ℕ) (due written : List ℕ)
      (result : Result (Unit {0}) (RecodeError E F)) (decoder : Decoder R) (writer : W) : Type 0 where
    pub just : IsOk result ↔ ((copy : List ℕ) × (rest : List ℕ) × Shortens allowed count due copy rest)
    pub copied : (copy rest : List ℕ) → Shortens allowed count due copy rest
        → (sink.written writer ≡ Some (written ++ copy)) × (source.ahead decoder.reader ≡ Some rest)
    pub again : (copy rest : List ℕ) → Shortens allowed count due copy rest → Shortens allowed count copy copy []
