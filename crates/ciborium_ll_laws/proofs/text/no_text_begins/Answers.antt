use Rattle.ciborium_ll_text.proofs.TextLaws.{no_text_begins}
use Rattle.ciborium_ll_laws.proofs.text.no_text_begins.Goals as goal

pub returns : goal.returns
returns c = no_text_begins
