use Rattle.ciborium_ll_text.proofs.TextLaws.{IsCharacters-rest}
use Rattle.ciborium_ll_laws.proofs.text.rest_of_text.Goals as goal

pub returns : goal.returns
returns c = IsCharacters-rest
