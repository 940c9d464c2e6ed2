use Rattle.uses.proofs.Steps.{texts_written}
use Rattle.uses.proofs.maps.write_entry.Goals as goal

pub returns-clause-bytes : goal.returns-clause-bytes
returns-clause-bytes g c = texts_written g.W.Write _ _ _ _ _ _ _ c.in_ok-text.ensures.written.value c.text-2.ensures.written.value
