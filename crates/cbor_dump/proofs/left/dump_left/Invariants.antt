use Rattle.std.proofs.Common.{◌-◌, [], length}
use Rattle.ciborium_ll.specs.Decoding.{ReadsPast}
use Rattle.cbor_dump.specs.Takings.{Keeps, taken_bytes}
use Rattle.cbor_dump.proofs.left.dump_left.Given as goal

abbrev pub invariant-bytes : goal.invariant-bytes
invariant-bytes g l = Keeps g.R.Read [] (taken_bytes l.taken) l.fn.decoder l.decoder
    × ReadsPast g.R.Read l.fn.decoder (taken_bytes l.taken) l.decoder

-- Each byte leaves room for one byte less.
abbrev pub decreases-bytes : goal.decreases-bytes
decreases-bytes g l = 16 - length (taken_bytes l.taken)
