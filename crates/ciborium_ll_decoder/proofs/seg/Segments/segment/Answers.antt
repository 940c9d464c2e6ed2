use Rattle.std.proofs.Common.{rules, refl}
use Rattle.ciborium_ll_text.proofs.FrontLaws.{IsStuck-nil}
use Rattle.ciborium_ll_decoder.proofs.LoanLaws.{string_back}
use Rattle.ciborium_ll_decoder.proofs.seg.Segments.segment.Goals as goal

pub invariant_of-result : goal.invariant_of-result
invariant_of-result g c = record {
  counted = search rules;
  none_waits = c.requires;
  stuck = IsStuck-nil;
  told = refl;
  text_alone = λ _. refl;
}

pub returns : goal.returns
returns g c = ((refl, λ w. string_back c.args.self.now _ _), search rules)
