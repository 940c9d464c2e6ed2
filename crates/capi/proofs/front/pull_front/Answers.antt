use Rattle.std.proofs.Common.{rules, arith, slice_index, ◌%◌, ◌≤◌}
use Rattle.capi.proofs.FrontParts.{chunk_told, number_titles, numbered_form, open_told}
use Rattle.capi.proofs.front.pull_front.Goals as goal

pub returns-then-first-gt27 : goal.returns-then-first-gt27
returns-then-first-gt27 c =
    open_told c.args.bytes.now c.in_ok-front.front.now c.pull_open.new.header c.args.header.now c.pull_open.result
    c.in_ok-front.ensures.cases (search rules) (omega arith) c.pull_open.ensures.none c.pull_open.ensures.taken
    c.pull_open.ensures.len c.pull_open.ensures.value c.pull_open.ensures.kind c.pull_open.ensures.form

pub returns : goal.returns
returns c =
    let first = slice_index c.in_ok-front.front.now 0 in
    let most : first % 32 ≤ 27 = omega (arith, c.if-first-gt27.false) in
    chunk_told c.args.bytes.now c.in_ok-front.front.now c.from_be_bytes-word.result
    (record { value = c.number_of-header.result; kind = c.kind_of-header.result; indefinite = 0 })
    c.args.header.now _ c.in_ok-front.ensures.cases (search rules) (number_titles first most)
    c.from_be_bytes-word.ensures c.kind_of-header.ensures c.number_of-header.ensures
    (numbered_form first most) (search rules)
