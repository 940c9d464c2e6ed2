use Rattle.std.proofs.Common.{◌≡◌, drop}
use Rattle.uses.proofs.MapLaws.{Midway}
use Rattle.uses.proofs.maps.write_strings.Given as goal

abbrev pub invariant-entries : goal.invariant-entries
invariant-entries g l = record {
  midway : Midway g.W.Write l.fn.entries (drop l.entry-index l.fn.entries) l.fn.encoder.writer l.encoder.writer;
  target : g.W.Write.target l.encoder.writer ≡ g.W.Write.target l.fn.encoder.writer;
}
