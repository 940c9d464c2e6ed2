use Rattle.std.proofs.Common.{ℕ, List, length, ◌<◌, refl, rules, sym, subst}
use Rattle.ciborium_ll_grammar.specs.Strings.{Text}
use Rattle.cbor_view.specs.Segments.{IsFirstSegment}
use Rattle.cbor_view.proofs.SegmentLaws.{as_segments, first_text, texts_left}
use Rattle.cbor_view.proofs.segments.TextSegmentsIterator.next.Goals as goal

pub next_segment-requires : goal.next_segment-requires
next_segment-requires c = as_segments c.args.self.now.rest.now c.args.self.now.are

pub invariant_of-self : goal.invariant_of-self
invariant_of-self c = record {
  are = texts_left c.args.self.now.rest.now c.in-Some.body.now c.in-Some.rest.now c.args.self.now.are
      c.in-Some.ensures.first;
}

pub text_of-requires : goal.text_of-requires
text_of-requires c =
    first_text c.args.self.now.rest.now c.in-Some.body.now c.in-Some.rest.now c.args.self.now.are
    c.in-Some.ensures.first

pub returns-in-Some-clause-steps : goal.returns-in-Some-clause-steps
returns-in-Some-clause-steps c bodies s =
    subst (λ (v : List ℕ). IsFirstSegment Text bodies v c.in-Some.rest.now) (sym c.text_of.ensures)
    (c.in-Some.ensures.first Text bodies s)

pub returns-in-Some-clause-goes : goal.returns-in-Some-clause-goes
returns-in-Some-clause-goes c =
    let shorter : length c.in-Some.rest.now < length c.args.self.now.rest.now = c.in-Some.ensures.shorter in
    search rules

pub returns-in-None-clause-steps : goal.returns-in-None-clause-steps
returns-in-None-clause-steps c bodies s = (c.in-None.ensures.first Text bodies s, refl)
