use Rattle.ciborium_ll.specs.Decoding.{MovesOn}
use Rattle.uses.specs.Settings.{ReadsEntries}
use Rattle.uses.proofs.settings.read_settings.Given as goal

abbrev pub invariant-entries : goal.invariant-entries
invariant-entries g l = record {
  entries : ReadsEntries g.R.Read l._read l.initial.decoder l.initial.settings l.decoder l.settings;
  moves_on : MovesOn g.R.Read l.initial.decoder l.decoder;
}
