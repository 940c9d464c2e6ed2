use Rattle.std.proofs.Common.{rules, ◌≡◌, ◌<◌, ◌≤◌, ◌++◌, length, arith, length-append, length-take-le}
use Rattle.ciborium_ll.proofs.DecodingLaws.{exit_is}
use Rattle.ciborium_ll.proofs.BodyLaws.{ReadsPast-read}
use Rattle.uses.proofs.cose.body.Goals as goal

pub chunks-preserved : goal.chunks-preserved
chunks-preserved g c =
    let kept = c.chunks.invariant in
    let reads = c.in_ok-read_exact.ensures.reads.read in
    let read = c.read_exact.new.data in
    let fits : c.min-size.result ≤ length c.chunks.buffer = search rules in (
      kept.0 ++ read,
      omega (
        arith,
        kept.1,
        length-append kept.0 read,
        c.read_exact.auto.data,
        length-take-le c.min-size.result c.chunks.buffer fits,
      ),
      ReadsPast-read g.R.Read c.offset-start.new.self c.chunks.decoder c.read_exact.new.self kept.0 read kept.2 reads
          c.in_ok-read_exact.ensures.reads.steady,
      reads.none_waits,
    )

pub returns-in_err-read_exact-clause-fails : goal.returns-in_err-read_exact-clause-fails
returns-in_err-read_exact-clause-fails g c =
    let same = exit_is c.from_residual.result c.in_err-read_exact.field-0.0 c.from_residual.ensures.1 in
    let kept = c.chunks.invariant in
    let fits : c.min-size.result ≤ length c.chunks.buffer = search rules in
    let some : 0 < c.min-size.result = search rules in
    let asked = length-take-le c.min-size.result c.chunks.buffer fits in
    let fewer : c.min-size.result ≤ c.chunks.left = search rules in
    let held : c.min-size.result ≤ 64 = search rules in
    rw same (record {
      read = kept.0;
      asked = c.read_exact.new.data;
      between = c.chunks.decoder;
      passed = rw c.offset-start.ensures.same at kept.2;
      some = omega (arith, asked, c.read_exact.auto.data, some);
      within = omega (arith, asked, c.read_exact.auto.data, fewer, kept.1);
      held = omega (arith, asked, c.read_exact.auto.data, held);
      fails = c.in_err-read_exact.ensures.reads.read;
    })

pub returns-clause-took : goal.returns-clause-took
returns-clause-took g c = search rules
