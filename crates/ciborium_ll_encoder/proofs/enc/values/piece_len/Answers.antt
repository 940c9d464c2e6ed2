use Rattle.std.proofs.Common.{◌<◌, arith}
use Rattle.std.specs.Str.{IsCharBoundary}
use Rattle.ciborium_ll_encoder.proofs.PieceLaws.{at_no_tail, near_limit, past_tail, some_within}
use Rattle.ciborium_ll_encoder.proofs.enc.values.piece_len.Goals as goal
use Rattle.ciborium_ll_encoder.proofs.enc.values.piece_len.Goals.{In-shorter, After-shorter}

-- At a later byte of a character the length is not 0.
some_left : (c : In-shorter) → 0 < c.shorter.len
some_left c =
    past_tail c.args.text.now c.shorter.len c.utf8.text (omega arith)
    (rw c.as_bytes-bytes.ensures.value at (c.is_continuation.ensures.0 c.shorter-test.true))

-- After the loop a character begins at the length.
boundary : (c : After-shorter) → IsCharBoundary c.args.text.now c.shorter.len
boundary c =
    at_no_tail c.args.text.now c.shorter.len (omega arith)
    (λ tail. let found = c.is_continuation.ensures.1 (rw c.as_bytes-bytes.ensures.value tail) in
    let missed = c.shorter-test.false in cc (missed, found))

pub overflow_sub-len : goal.overflow_sub-len
overflow_sub-len c = some_left c

pub shorter-smaller : goal.shorter-smaller
shorter-smaller c = omega (arith, some_left c)

pub returns-clause-some : goal.returns-clause-some
returns-clause-some c =
    some_within c.args.limit c.args.text.now c.shorter.len c.utf8.text (omega arith) c.requires.four
    c.shorter.invariant.longest

pub returns-clause-back : goal.returns-clause-back
returns-clause-back c =
    near_limit c.utf8.text (boundary c) c.shorter.invariant.longest c.shorter.invariant.within c.requires.longer
