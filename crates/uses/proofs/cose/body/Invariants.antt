use Rattle.std.proofs.Common.{◌≡◌, ℕ, ◌+◌, List, length, None}
use Rattle.ciborium_ll.specs.Decoding.{ReadsPast}
use Rattle.uses.proofs.cose.body.Given as goal

abbrev pub invariant-chunks : goal.invariant-chunks
invariant-chunks g l = (read : List ℕ) × (length read + l.left ≡ l.len)
    × ReadsPast g.R.Read l.initial.decoder read l.decoder
    × (l.decoder.waiting ≡ None)

abbrev pub decreases-chunks : goal.decreases-chunks
decreases-chunks g l = l.left
