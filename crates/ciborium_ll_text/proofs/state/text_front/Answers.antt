use Rattle.std.proofs.Common.{◌∙◌}
use Rattle.ciborium_ll_text.proofs.LastEndLaws.{front_of_end, state_of_end}
use Rattle.ciborium_ll_text.proofs.StateLaws.{told_whole}
use Rattle.ciborium_ll_text.proofs.state.text_front.Goals as goal

pub front_len-len-requires-clause-behind : goal.front_len-len-requires-clause-behind
front_len-len-requires-clause-behind c =
    told_whole c.args.bytes.now c.args.kept c.args.state c.run-behind.result c.run-behind.ensures c.requires.told

pub returns-clause-front : goal.returns-clause-front
returns-clause-front c =
    front_of_end c.args.bytes.now c.front_len-len.result c.front_len-len.ensures

pub returns-clause-state : goal.returns-clause-state
returns-clause-state c =
    told_whole c.args.bytes.now c.args.kept c.args.state c.run-behind.result c.run-behind.ensures c.requires.told
    ∙ state_of_end c.args.bytes.now c.front_len-len.result c.front_len-len.ensures
