use Rattle.std.proofs.Common.{◌≡◌, ℕ, ◌+◌, ◌%◌, ◌<◌, ◌≤◌, List, [], ◌∷◌, ◌++◌, length, length-append, slice_index, ◌∙◌}
use Rattle.std.proofs.Common.{arith, rules}
use Rattle.ciborium_ll_grammar.specs.Title.{affix_len}
use Rattle.cbor_checker.specs.Walking.{spot_at}
use Rattle.cbor_checker.specs.Steps.{with_byte}
use Rattle.cbor_checker.proofs.BlockedLaws.{step_early, step_cut, step_whole, step_none, step_refused}
use Rattle.cbor_checker.proofs.walk.Walk.title_step.Goals as goal

-- If one more byte makes the title long enough, the title has exactly the bytes that its first byte announces.
one_more : (front : List ℕ) (byte : ℕ) → length front ≤ affix_len (slice_index front 0 % 32)
    → affix_len (slice_index (front ++ byte ∷ []) 0 % 32) < length (front ++ byte ∷ [])
    → length (front ++ byte ∷ []) ≡ 1 + affix_len (slice_index (front ++ byte ∷ []) 0 % 32)
one_more [] byte short long = omega (arith, long)
one_more (first ∷ rest) byte short long = omega (arith, short, long, length-append rest (byte ∷ []))

pub returns-then-begins_none-clause-spot : goal.returns-then-begins_none-clause-spot
returns-then-begins_none-clause-spot c =
    step_none (with_byte c.args.byte (spot_at c.args.self.now)) _ (search rules) (search rules)

pub returns-in-Some-clause-spot : goal.returns-in-Some-clause-spot
returns-in-Some-clause-spot c =
    step_early (with_byte c.args.byte (spot_at c.args.self.now)) _ c.row_of-row.result (search rules) (search rules)
    (search rules) c.in-Some.fault (search rules) (search rules) (search rules)

pub returns-in_default-clause-spot : goal.returns-in_default-clause-spot
returns-in_default-clause-spot c =
    step_cut (with_byte c.args.byte (spot_at c.args.self.now)) _ c.row_of-row.result (search rules) (search rules)
    (search rules) (search rules) (search rules) (search rules)

pub returns-in-Some-header-clause-spot : goal.returns-in-Some-header-clause-spot
returns-in-Some-header-clause-spot c =
    step_whole (with_byte c.args.byte (spot_at c.args.self.now)) _ c.in-Some-header.header (search rules)
    (search rules) (search rules)

pub returns-in-None-clause-spot : goal.returns-in-None-clause-spot
returns-in-None-clause-spot c =
    step_refused (with_byte c.args.byte (spot_at c.args.self.now)) _ (search rules) (search rules)

pub taken_header-header-requires : goal.taken_header-header-requires
taken_header-header-requires c =
    let is = c.bytes-bytes.ensures ∙ c.push.ensures in
    let long = c.len.ensures _ c.row_of-row.ensures.affix in
    let all : affix_len (slice_index c.bytes-bytes.result.now 0 % 32) < length c.bytes-bytes.result.now =
    omega (arith, long, c.if-bytes-len.false) in
    rw is (one_more c.args.self.now.front c.args.byte c.args.self.now.begun (rw is at all))
