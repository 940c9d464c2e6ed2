use Rattle.std.proofs.Common.{◌-◌, ◌+◌, ◌<◌, Some, arith, length}
use Rattle.std.proofs.lemmas.Result.{err_from_is_err_and}
use Rattle.ciborium_ll_grammar.specs.Strings.{kind_header}
use Rattle.ciborium_ll_grammar.specs.Title.{title_len}
use Rattle.cbor_canonical.specs.Strings.{kind_of}
use Rattle.cbor_canonical.proofs.RoomRuns.{grows_gathered, lacks_gathered}
use Rattle.cbor_canonical.proofs.RoomStrings.{string_title, told_grows}
use Rattle.cbor_canonical.proofs.StringRuns.{told_turned, open_turned}
use Rattle.cbor_canonical.proofs.strings.rewrite_string.Goals as goal

pub returns-in_ok-end-in-Some-clause-written : goal.returns-in_ok-end-in-Some-clause-written
returns-in_ok-end-in-Some-clause-written c =
    rw c.in-Some.is (told_turned (kind_of c.args.kind) c.in-Some.len c.args.bytes.now c.in-Some-take_body.body.now
    c.in-Some-take_body.rest.now c.args.at c.in_ok-end-in-Some.end c.args.out.now c.put_string.new.out
    c.in-Some-take_body.ensures c.put_string.ensures.range c.in_ok-end-in-Some.ensures.written)

pub returns-in_ok-after-in-None-clause-written : goal.returns-in_ok-after-in-None-clause-written
returns-in_ok-after-in-None-clause-written c =
    rw c.in-None.is (open_turned (kind_of c.args.kind) c.args.bytes.now c.in_ok-rest-in-None.rest.now c.args.at
    c.in_ok-rest-in-None.end c.in_ok-after-in-None.after c.args.out.now c.gather.new.out c.insert_title.new.out
    c.requires c.in_ok-rest-in-None.ensures.written (rw c.header-header.ensures at c.insert_title.ensures.range)
    (rw c.header-header.ensures at c.in_ok-after-in-None.ensures.written))

pub returns-in_ok-end-in-Some-clause-room : goal.returns-in_ok-end-in-Some-clause-room
returns-in_ok-end-in-Some-clause-room c = λ title places is.
    told_grows (kind_of c.args.kind) c.in-Some.len c.args.bytes.now c.in-Some-take_body.body.now
    c.in-Some-take_body.rest.now c.in-Some-take_body.ensures title (rw c.in-Some.is at is) c.args.at
    c.in_ok-end-in-Some.end c.args.out.now c.put_string.new.out c.requires c.in_ok-end-in-Some.ensures.written

pub returns-in_ok-after-in-None-clause-room : goal.returns-in_ok-after-in-None-clause-room
returns-in_ok-after-in-None-clause-room c = λ title places is.
    let end = c.in_ok-rest-in-None.end in
    grows_gathered title (kind_header (kind_of c.args.kind) c.args.len) is (length c.args.bytes.now)
    (length c.in_ok-rest-in-None.rest.now) c.args.at end c.in_ok-after-in-None.after
    (title_len (kind_header (kind_of c.args.kind) (Some (end - c.args.at))))
    (string_title (kind_of c.args.kind) (end - c.args.at)) c.in_ok-rest-in-None.ensures.written.from
    c.in_ok-rest-in-None.ensures.room (rw c.header-header.ensures at c.in_ok-after-in-None.ensures.reach)

pub returns-in_err-after-in-None-clause-room : goal.returns-in_err-after-in-None-clause-room
returns-in_err-after-in-None-clause-room c = λ title places is.
    let p = err_from_is_err_and c.from_residual-in_err-after-in-None.result
    c.from_residual-in_err-after-in-None.ensures.1 in
    let end = c.in_ok-rest-in-None.end in
    let few : length c.args.out.now < end + title_len c.header-header.result =
    omega (arith, c.in_err-after-in-None.ensures.room, c.gather.auto.out) in
    rw p.1 (lacks_gathered title (kind_header (kind_of c.args.kind) c.args.len) is (length c.args.bytes.now)
    (length c.in_ok-rest-in-None.rest.now) c.args.at end
    (title_len (kind_header (kind_of c.args.kind) (Some (end - c.args.at)))) (length c.args.out.now)
    (length title + length c.args.bytes.now) places p.0
    (string_title (kind_of c.args.kind) (end - c.args.at)) c.in_ok-rest-in-None.ensures.written.from
    c.in_ok-rest-in-None.ensures.room
    (rw c.header-header.ensures at few))
