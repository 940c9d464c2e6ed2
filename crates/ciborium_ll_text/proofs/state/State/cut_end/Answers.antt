use Rattle.ciborium_ll_text.proofs.LastEndLaws.{cut_character}
use Rattle.ciborium_ll_text.proofs.state.State.cut_end.Goals as goal

pub overflow_sub-len-else-bytes-len-ge192 : goal.overflow_sub-len-else-bytes-len-ge192
overflow_sub-len-else-bytes-len-ge192 c =
    (cut_character c.args.bytes.now c.args.self c.requires.told c.requires.inside).more c.if-bytes-len-ge192.false

pub overflow_sub-result-else-bytes-len-ge192-2 : goal.overflow_sub-result-else-bytes-len-ge192-2
overflow_sub-result-else-bytes-len-ge192-2 c =
    (cut_character c.args.bytes.now c.args.self c.requires.told c.requires.inside).most c.if-bytes-len-ge192.false
    c.if-bytes-len-ge192-2.false

pub returns-then-bytes-len-ge192 : goal.returns-then-bytes-len-ge192
returns-then-bytes-len-ge192 c =
    (cut_character c.args.bytes.now c.args.self c.requires.told c.requires.inside).one c.if-bytes-len-ge192.true

pub returns-then-bytes-len-ge192-2 : goal.returns-then-bytes-len-ge192-2
returns-then-bytes-len-ge192-2 c =
    (cut_character c.args.bytes.now c.args.self c.requires.told c.requires.inside).two c.if-bytes-len-ge192.false
    c.if-bytes-len-ge192-2.true

pub returns-else-bytes-len-ge192-2 : goal.returns-else-bytes-len-ge192-2
returns-else-bytes-len-ge192-2 c =
    (cut_character c.args.bytes.now c.args.self c.requires.told c.requires.inside).three c.if-bytes-len-ge192.false
    c.if-bytes-len-ge192-2.false
