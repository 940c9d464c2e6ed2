use Rattle.std.proofs.Common.{[], append-nil, sym}
use Rattle.ciborium_ll_grammar.specs.declared.spelling.Spelling.TheVariants.{Any}
use Rattle.cbor_parser.specs.Parsing.{at_title}
use Rattle.cbor_parser.proofs.ElementTokens.{tokens_elements}
use Rattle.cbor_parser.proofs.OneParse.{one_parse}
use Rattle.cbor_parser.proofs.RunTokens.{run_tokens}
use Rattle.cbor_parser.proofs.laws.whole_elements.Goals as goal

pub returns-clause-elements : goal.returns-clause-elements
returns-clause-elements c = tokens_elements

pub returns-clause-tokens : goal.returns-clause-tokens
returns-clause-tokens c = λ bytes are. run_tokens are.0 bytes are.1 are.2

pub returns-clause-between : goal.returns-clause-between
returns-clause-between c = λ bytes tokens parser are is.
    let found = run_tokens are.0 bytes are.1 are.2 in
    let whole = at_title {title = []} found.1 tt (sym (append-nil bytes)) in
    sym (one_parse Any bytes found.0 tokens _ _ whole is.parsed).1
