use Rattle.std.proofs.Common.{◌≡◌, ℕ, ◌+◌, ◌-◌, length, ◌<◌, ◌≤◌, min, None, take, true}
use Rattle.ciborium_ll.specs.Decoding.{ReadsPast}
use Rattle.ciborium_ll_text.specs.States.{after, tail_due}
use Rattle.ciborium_ll_text.specs.declared.state.State.TheVariants.{Between}
use Rattle.cbor_dump.specs.Parts.{is_inside}
use Rattle.cbor_dump.specs.Takings.{Keeps, ReadsOn, most_text, taken_bytes, widest_text}
use Rattle.cbor_dump.proofs.taken.Taken.read_text.Given as goal

abbrev pub invariant-more : goal.invariant-more
invariant-more g l = record {
  keeps : Keeps g.R.Read (taken_bytes l.fn.self) (taken_bytes l.self) l.fn.decoder l.decoder;
  most : length (taken_bytes l.self) ≤ l.left;
  some : 0 < l.left → 0 < length (taken_bytes l.self);
  room : length (taken_bytes l.self) + tail_due (after Between (taken_bytes l.self)) ≤ widest_text;
  inside : (count : ℕ) → most_text ≤ count → count < length (taken_bytes l.self)
      → is_inside (after Between (take count (taken_bytes l.self))) ≡ true;
  many : min l.left most_text ≤ length (taken_bytes l.self);
  passed : l.fn.decoder.waiting ≡ None → ReadsPast g.R.Read l.fn.decoder (taken_bytes l.self) l.decoder;
  moves : ReadsOn g.R.Read l.fn.decoder l.decoder;
}

-- Each byte leaves room for one byte less.
abbrev pub decreases-more : goal.decreases-more
decreases-more g l = 16 - length (taken_bytes l.self)
