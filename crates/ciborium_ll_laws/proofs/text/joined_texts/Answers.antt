use Rattle.ciborium_ll_text.proofs.TextLaws.{IsCharacters-append}
use Rattle.ciborium_ll_laws.proofs.text.joined_texts.Goals as goal

pub returns : goal.returns
returns c = IsCharacters-append
