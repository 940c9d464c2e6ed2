use Rattle.std.proofs.Common.{◌≡◌, ◌∙◌, ◌+◌, [], ◌++◌, append-nil, append_assoc, take, length, sym, ap, rules, arith}
use Rattle.ciborium_ll_text.proofs.Lists.{rest_long}
use Rattle.cbor_copier.specs.Copying.{spot_of}
use Rattle.cbor_copier.specs.Spots.{Spot, putting}
use Rattle.cbor_copier.specs.Telling.{is_due}
use Rattle.cbor_copier.proofs.KeptLaws.{given_grows}
use Rattle.cbor_copier.proofs.RunLaws.{is_answer, fed_behind, drop_later, more_given, never_long, not_more}
use Rattle.cbor_copier.proofs.TellLaws.{copier_tells, too_long}
use Rattle.cbor_copier.proofs.copier.Copier.take.Goals as goal

pub pieces-preserved : goal.pieces-preserved
pieces-preserved c =
    let before = c.pieces.self in
    let went = c.advance-len.ensures in
    let bytes = c.args.bytes.now in
    let long = rest_long bytes c.pieces.at in
    let none : before.pending ≡ [] = more_given before.pending before.phase (sym c.progress.ensures ∙ c.in-More.is) in
    record {
      within = omega (arith, long, went.some.1, c.pieces.invariant.within);
      written = search rules;
      long = search rules;
      kept = went.rest ∙ drop_later c.pieces.written c.advance-len.result.1 c.pieces.out c.args.out.now went.within.0
          c.pieces.invariant.kept;
      copied = λ allowed count fed given is.
          fed_behind allowed count fed _ bytes c.pieces.at c.advance-len.result.0
          (putting [] (spot_of c.advance-len.new.self))
          (went.copied allowed count (fed ++ take c.pieces.at bytes) given (c.pieces.invariant.copied allowed count fed
          given is));
      full = search rules;
      grown = omega (arith, c.pieces.invariant.grown, went.grown, ap length none);
      stays = λ off given.
          let same = c.pieces.invariant.stays off given in
          let phase = ap (λ (spot : Spot). is_due spot.phase) same.2 in
          absurd (not_more before.pending before.phase (phase ∙ off) (sym c.progress.ensures ∙ c.in-More.is));
    }

pub returns-in_default-clause-tells : goal.returns-in_default-clause-tells
returns-in_default-clause-tells c = λ allowed count fed given is.
    copier_tells c.pieces.self c.progress.result c.progress.ensures allowed count
    (fed ++ take c.pieces.at c.args.bytes.now)
    (given ++ take c.pieces.written c.pieces.out) (c.pieces.invariant.copied allowed count fed given is)

pub returns-then-self-clause-tells : goal.returns-then-self-clause-tells
returns-then-self-clause-tells c = λ allowed count fed given is.
    too_long c.pieces.self (sym c.in-More.is ∙ c.progress.ensures) (omega (arith, c.if-self.true)) allowed count
    (fed ++ take c.pieces.at c.args.bytes.now) (given ++ take c.pieces.written c.pieces.out)
    (c.pieces.invariant.copied allowed count fed given is)

pub returns-clause-tells : goal.returns-clause-tells
returns-clause-tells c = λ allowed count fed given is.
    let all : c.pieces.at ≡ length c.args.bytes.now = search rules in
    rw (← all) (copier_tells c.pieces.self c.progress-2.result c.progress-2.ensures allowed count
    (fed ++ take c.pieces.at c.args.bytes.now) (given ++ take c.pieces.written c.pieces.out)
    (c.pieces.invariant.copied allowed count fed given is))

pub returns-in_default-clause-answers : goal.returns-in_default-clause-answers
returns-in_default-clause-answers c =
    is_answer c.progress.result c.pieces.self.pending c.pieces.self.phase c.progress.ensures

pub returns-clause-answers : goal.returns-clause-answers
returns-clause-answers c =
    is_answer c.progress-2.result c.pieces.self.pending c.pieces.self.phase c.progress-2.ensures

pub pieces-init : goal.pieces-init
pieces-init c =
    let gave = c.give-written.ensures in
    let old = spot_of c.args.self.now in
    record {
      within = omega arith;
      written = search rules;
      long = search rules;
      kept = gave.rest;
      copied = λ allowed count fed given is. rw (append-nil fed, append_assoc given, gave.given) is;
      full = search rules;
      grown = omega (
        arith,
        given_grows old 0 c.give-written.result (length old.put + length old.front) c.args.out.now
            c.give-written.new.out c.give-written.new.self (omega arith) (omega arith) (search rules) gave.given,
      );
      stays = search rules;
    }

pub returns-in_default-clause-long : goal.returns-in_default-clause-long
returns-in_default-clause-long c = λ is.
    absurd (never_long c.pieces.self.pending c.pieces.self.phase (sym c.progress.ensures ∙ is))

pub returns-clause-long : goal.returns-clause-long
returns-clause-long c = λ is.
    absurd (never_long c.pieces.self.pending c.pieces.self.phase (sym c.progress-2.ensures ∙ is))
