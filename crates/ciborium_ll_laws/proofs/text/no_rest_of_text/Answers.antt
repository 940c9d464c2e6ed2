use Rattle.ciborium_ll_text.proofs.TextLaws.{no_rest_of_text}
use Rattle.ciborium_ll_laws.proofs.text.no_rest_of_text.Goals as goal

pub returns : goal.returns
returns c = no_rest_of_text
