use Rattle.std.proofs.Common.{rules, [], ◌∷◌, ◌++◌, Ok, Err, refl, subst, arith, length-append, ◌∙◌}
use Rattle.ciborium_ll_decoder.specs.declared.copy.RecodeError.TheVariants as r
use Rattle.ciborium_ll_decoder.specs.declared.dec.Decoder.{Decoder}
use Rattle.ciborium_ll.specs.Copying.{Copies}
use Rattle.ciborium_ll_recode.specs.Sides.{sides_of}
use Rattle.ciborium_ll_decoder.proofs.BodyCopyLaws.{write_refused}
use Rattle.ciborium_ll_decoder.proofs.DecodingLaws.{exit_is, MovesOn-none, MovesOn-then}
use Rattle.ciborium_ll.proofs.CopyingLaws.{Copies-none, Copies-push, AreTitles-shortest}
use Rattle.ciborium_ll.proofs.CopyingTold.{copy_says}
use Rattle.ciborium_ll.proofs.laws.copy.copy_headers.Goals as goal

pub headers-init : goal.headers-init
headers-init g c = (
  [],
  refl,
  Copies-none g.R.Read g.W.Write (sides_of c.args.decoder.now c.args.encoder.now),
  MovesOn-none g.R.Read c.args.decoder.now,
  refl,
)

pub headers-preserved : goal.headers-preserved
headers-preserved g c =
    let headers = c.headers.invariant.0 in
    let header = c.in_ok-header.header in
    let old = sides_of c.args.decoder.now c.args.encoder.now in (
      headers ++ header ∷ [],
      omega (arith, c.headers.invariant.1, length-append headers (header ∷ [])),
      -- The decoder is as the header's pull left it.
      subst (λ (d : Decoder g.row.R.Denot). Copies g.R.Read g.W.Write (headers ++ header ∷ []) old
          (sides_of d c.push.new.self)) {x = c.pull.new.self} (search rules)
          (Copies-push g.R.Read g.W.Write {old = old} {new = sides_of c.pull.new.self c.push.new.self}
          c.headers.invariant.2 c.in_ok-header.ensures.header c.in_ok-header.ensures.moves_on.steady (search rules)),
      MovesOn-then g.R.Read _ _ _ c.headers.invariant.3 c.in_ok-header.ensures.moves_on,
      c.push.ensures.target ∙ c.headers.invariant.4,
    )

pub returns-in_err-header : goal.returns-in_err-header
returns-in_err-header g c =
    rw (exit_is _ _ c.from_residual.ensures.1) (copy_says g.R.Read g.W.Write c.args.count _ _ (Err (r.Read _)) (record {
      headers = c.headers.invariant.0;
      fewer = omega (arith, c.headers.invariant.1, c.headers-test.true);
      between = c.headers.decoder;
      copied = c.headers.invariant.2;
      stopped = c.in_err-header.ensures.header;
    }) (MovesOn-then g.R.Read _ _ _ c.headers.invariant.3 c.in_err-header.ensures.moves_on) c.headers.invariant.4)

pub returns-in_err-map_err : goal.returns-in_err-map_err
returns-in_err-map_err g c =
    let failed = write_refused c.push.result c.map_err.result _ c.in_err-map_err.was (search rules) in
    let old = sides_of c.args.decoder.now c.args.encoder.now in
    let new = sides_of c.pull.new.self c.push.new.self in
    rw (rw failed.2 at (exit_is _ _ c.from_residual-in_err-map_err.ensures.1))
    (copy_says g.R.Read g.W.Write c.args.count old new (Err (r.Write failed.0)) (record {
      headers = c.headers.invariant.0;
      fewer = omega (arith, c.headers.invariant.1, c.headers-test.true);
      between = sides_of c.headers.decoder c.headers.encoder;
      copied = c.headers.invariant.2;
      last = c.in_ok-header.header;
      pulled = c.in_ok-header.ensures.header;
      stopped = rw failed.1 at c.push.ensures.title;
    }) (MovesOn-then g.R.Read _ _ _ c.headers.invariant.3 c.in_ok-header.ensures.moves_on)
    (c.push.ensures.target ∙ c.headers.invariant.4))

pub returns : goal.returns
returns g c = copy_says g.R.Read g.W.Write c.args.count _ _ (Ok (tt {0})) (record {
  headers = c.headers.invariant.0;
  all = omega (arith, c.headers.invariant.1, c.headers-test.false, c.headers.auto._copied-end);
  copied = c.headers.invariant.2;
  again = AreTitles-shortest c.headers.invariant.2.titles;
}) c.headers.invariant.3 c.headers.invariant.4
