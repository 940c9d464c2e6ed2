use Rattle.std.proofs.Common.{◌≡◌, ◌-◌, ◌^◌}
use Rattle.ciborium_ll.specs.Decoding.{IsWaiting}
use Rattle.cbor_dump.specs.Takings.{ReadsOn}
use Rattle.cbor_dump.proofs.TitleLaws.{UpTo}
use Rattle.cbor_dump.proofs.dump.dump.Given as goal

abbrev pub invariant-titles : goal.invariant-titles
invariant-titles g l =
    UpTo g.R.Read l.spelling l.depth (g.S.Rows.drawn l.fn.rows) (g.S.Rows.drawn l.rows) l.walk
    l.fn.decoder l.decoder
    × (IsWaiting l.fn.decoder → (l.decoder ≡ l.fn.decoder) × (l.rows ≡ l.fn.rows))
    × ReadsOn g.R.Read l.fn.decoder l.decoder

-- Each title takes at least one byte.
abbrev pub decreases-titles : goal.decreases-titles
decreases-titles g l = 2 ^ 64 - l.decoder.offset
