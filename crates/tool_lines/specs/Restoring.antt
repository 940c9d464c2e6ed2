-- The faults that the reader and the writer of a buffered copy keep, put back into the error of the copy.
use Rattle.std.specs.Prelude.{◌≡◌, IfSome, Option, Result, Ok, Err}
use Rattle.ciborium_ll_decoder.specs.declared.dec.Error.TheVariants as e
use Rattle.ciborium_ll_buffers.specs.declared.buffered.FaultKept.{FaultKept}
use Rattle.ciborium_ll_streams.specs.declared.streams.ReadFault.{ReadFault}
use Rattle.ciborium_ll_streams.specs.declared.streams.WriteFault.{WriteFault}
use Rattle.ciborium_ll_decoder.specs.declared.copy.RecodeError.{RecodeError}
use Rattle.ciborium_ll_decoder.specs.declared.copy.RecodeError.TheVariants as r

-- The error of a copy, with a fault of std in the place of each that was kept aside. If a fault was kept, it is that
-- one. With `End` kept, `Io` becomes `Io(End)`, and `Syntax(1)` stays as it is.
abbrev pub Restores : Option ReadFault → Option WriteFault → RecodeError FaultKept FaultKept
    → RecodeError ReadFault WriteFault → Type 0
Restores read write (r.Read (e.Io failed)) error = (fault : ReadFault) × (error ≡ r.Read (e.Io fault))
    × IfSome read (λ kept. fault ≡ kept)
Restores read write (r.Read (e.Syntax place)) error = error ≡ r.Read (e.Syntax place)
Restores read write (r.Read e.TooLong) error = error ≡ r.Read e.TooLong
Restores read write (r.Read e.Waiting) error = error ≡ r.Read e.Waiting
Restores read write (r.Write failed) error = (fault : WriteFault) × (error ≡ r.Write fault)
    × IfSome write (λ kept. fault ≡ kept)

-- The outcome of a copy, whose error has its fault of std in the same way. `Ok` stays `Ok`, even if `End` was kept.
abbrev pub RestoresCopy : Option ReadFault → Option WriteFault → Result (Unit {0}) (RecodeError FaultKept FaultKept)
    → Result (Unit {0}) (RecodeError ReadFault WriteFault) → Type 0
RestoresCopy read write (Ok done) outcome = outcome ≡ Ok done
RestoresCopy read write (Err error) outcome = (own : RecodeError ReadFault WriteFault) × (outcome ≡ Err own)
    × Restores read write error own

-- The outcome of a flush, with the fault that was kept: with `Zero` kept, an error becomes `Zero`.
abbrev pub RestoresFlush : Option WriteFault → Result (Unit {0}) FaultKept → Result (Unit {0}) WriteFault → Type 0
RestoresFlush write (Ok done) outcome = outcome ≡ Ok done
RestoresFlush write (Err failed) outcome = (fault : WriteFault) × (outcome ≡ Err fault)
    × IfSome write (λ kept. fault ≡ kept)
