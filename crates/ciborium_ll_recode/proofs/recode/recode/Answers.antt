use Rattle.std.proofs.Common.{rules, refl, ◌≡◌, ◌∙◌, ℕ, Ok, Err, length, arith, subst}
use Rattle.ciborium_ll_recode.specs.Recoding.{CopiesRun}
use Rattle.ciborium_ll_recode.specs.Sides.{sides_of}
use Rattle.ciborium_ll_decoder.proofs.DecodingLaws.{exit_is, MovesOn-none, MovesOn-then}
use Rattle.ciborium_ll_recode.proofs.CopyLaws.{run_none, run_behind, one_stops, added_run, copies_all}
use Rattle.ciborium_ll_recode.proofs.RecodeReadyLaws.{recode_told, recode_exactly}
use Rattle.ciborium_ll_recode.proofs.ExactlyLaws.{exactly}
use Rattle.ciborium_ll_recode.proofs.RecodeAnyhowLaws.{recode_anyhow}
use Rattle.ciborium_ll_recode.proofs.recode.recode.Goals as goal

pub elements-init : goal.elements-init
elements-init g c = record {
  so_far = run_none g.R.Read g.W.Write (sides_of c.args.decoder.now c.args.encoder.now);
  moves_on = MovesOn-none g.R.Read c.args.decoder.now;
  target = refl;
}

pub elements-preserved : goal.elements-preserved
elements-preserved g c =
    let old = sides_of c.args.decoder.now c.args.encoder.now in
    let now = sides_of c.elements.decoder c.elements.encoder in
    let behind = run_behind g.R.Read g.W.Write c.args.count c.elements._copied old now c.elements-test.true
    c.elements.invariant.so_far in
    let is_ok : c.copy_element.result ≡ Ok (tt {0}) = search rules in
    let copied = rw is_ok at c.copy_element.ensures.copied in
    record {
      so_far = added_run g.R.Read g.W.Write c.elements._copied old
          (sides_of c.copy_element.new.decoder c.copy_element.new.encoder)
          (copied c.args.count c.elements._copied old behind);
      moves_on = MovesOn-then g.R.Read _ _ _ c.elements.invariant.moves_on c.copy_element.ensures.moves_on;
      target = c.copy_element.ensures.target ∙ c.elements.invariant.target;
    }

pub returns-in_err-copy_element : goal.returns-in_err-copy_element
returns-in_err-copy_element g c =
    let error = c.in_err-copy_element.field-0.0 in
    let same = exit_is c.from_residual.result error c.from_residual.ensures.1 in
    let room = length c.args.buffer.now in
    let old = sides_of c.args.decoder.now c.args.encoder.now in
    let now = sides_of c.elements.decoder c.elements.encoder in
    let behind = run_behind g.R.Read g.W.Write c.args.count c.elements._copied old now c.elements-test.true
    c.elements.invariant.so_far in
    let stops = one_stops _ _ c.args.count c.elements._copied room (length c.elements.buffer) old now error behind
    c.elements.auto.buffer in
    record {
      copied = record {
        -- The search refuses an error of no element here.
        copied = rw same (stops (search rules));
        moves_on = MovesOn-then g.R.Read _ _ _ c.elements.invariant.moves_on c.copy_element.ensures.moves_on;
        target = c.copy_element.ensures.target ∙ c.elements.invariant.target;
      };
      told = λ allowed due written ready. rw same (recode_told _ _ _ _ _ _ _ ready _ (Err error)
          (stops c.in_err-copy_element.ensures));
      exactly = λ allowed due written alone. rw same (exactly _ _ _ _ old _ _ alone _ (Err error)
          (stops c.in_err-copy_element.ensures));
      front = λ allowed due written ready. rw same (recode_exactly _ _ _ _ _ _ _ ready _ (Err error)
          (stops c.in_err-copy_element.ensures));
      anyhow = λ allowed due written told. rw same (recode_anyhow _ _ _ room _ _ _ told _ (Err error)
          (stops c.in_err-copy_element.ensures));
    }

pub returns : goal.returns
returns g c =
    let old = sides_of c.args.decoder.now c.args.encoder.now in
    let now = sides_of c.elements.decoder c.elements.encoder in
    let counted : c.elements._copied ≡ c.args.count = omega
    (arith, c.elements-test.false, c.elements.auto._copied-end) in
    let run = subst (λ (n : ℕ). CopiesRun g.R.Read g.W.Write n old now) counted c.elements.invariant.so_far in
    let all = copies_all g.R.Read g.W.Write c.args.count old now run in
    record {
      copied = record {
        copied = all;
        moves_on = c.elements.invariant.moves_on;
        target = c.elements.invariant.target;
      };
      told = λ allowed due written ready. recode_told _ _ _ _ _ _ _ ready _ (Ok (tt {0})) all;
      exactly = λ allowed due written alone. exactly _ _ _ _ old _ _ alone _ (Ok (tt {0})) all;
      front = λ allowed due written ready. recode_exactly _ _ _ _ _ _ _ ready _ (Ok (tt {0})) all;
      anyhow =
          λ allowed due written told. recode_anyhow _ _ _ (length c.args.buffer.now) _ _ _ told _ (Ok (tt {0})) all;
    }
