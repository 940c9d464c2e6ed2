use Rattle.std.proofs.Common.{◌≡◌, ◌∙◌, ◌++◌, ℕ, List, false, length, take, sym, ap, subst, rules, arith}
use Rattle.cbor_checker.specs.Telling.{is_due}
use Rattle.cbor_copier.proofs.RunLaws.{drop_later}
use Rattle.cbor_checker.proofs.OneSpot.{one_spot}
use Rattle.cbor_checker.specs.Spots.{Spot}
use Rattle.cbor_item_copier.specs.declared.copier.ItemCopier.{ItemCopier}
use Rattle.cbor_item_copier.specs.Copying.{item_spot, elements_spot, pending}
use Rattle.cbor_item_copier.specs.Reading.{Tells}
use Rattle.cbor_item_copier.specs.declared.progress.Progress.{Progress}
use Rattle.cbor_item_copier.specs.declared.progress.Progress.TheVariants as r
use Rattle.cbor_item_copier.specs.Telling.{progress_of}
use Rattle.cbor_item_copier.proofs.FitLaws.{never_room}
use Rattle.cbor_item_copier.proofs.TellLaws.{more_due, never_long, not_more, tells_long}
use Rattle.cbor_item_copier.proofs.copier.ItemCopier.take.Goals as goal

pub pieces-preserved : goal.pieces-preserved
pieces-preserved c =
    let wrote = c.in-Some.ensures in
    let before = c.pieces.self in
    let so_far = c.pieces.invariant in
    record {
      within = wrote.all;
      written = search rules;
      long = search rules;
      kept = wrote.kept ∙ drop_later c.pieces.written c.in-Some.end c.pieces.out c.args.out.now wrote.more so_far.kept;
      copied = λ allowed depth fed given was.
          wrote.copied allowed depth fed given (so_far.copied allowed depth fed given was);
      full = search rules;
      grown = omega (arith, wrote.grown, so_far.grown);
      stays = λ off given.
          let same = so_far.stays off given in
          let phase : is_due (item_spot before).phase ≡ false =
          ap (λ (z : ItemCopier). is_due (item_spot z).phase) same.2 ∙ off in
          absurd (not_more (pending before) (item_spot before) c.in-More.field-0 phase
          (sym c.answer.ensures.answers ∙ c.in-More.is));
    }

pub returns-in_default-clause-tells : goal.returns-in_default-clause-tells
returns-in_default-clause-tells c = λ allowed depth fed given was.
    c.answer.ensures.tells allowed depth (fed ++ take c.pieces.at c.args.bytes.now)
    (given ++ take c.pieces.written c.pieces.out) (c.pieces.invariant.copied allowed depth fed given was)

pub returns-in-None-clause-tells : goal.returns-in-None-clause-tells
returns-in-None-clause-tells c = λ allowed depth fed given was.
    let copier = c.pieces.self in
    let stops = c.in-None.ensures in
    let so_far = c.pieces.invariant.copied allowed depth fed given was in
    let now = fed ++ take c.pieces.at c.args.bytes.now in
    subst (λ (z : List ℕ). Tells allowed depth now (given ++ take c.pieces.written z) r.TooLong) (sym stops.same)
    (tells_long (pending copier) allowed depth now (given ++ take c.pieces.written c.pieces.out) (item_spot copier)
    (elements_spot copier) c.in-More.field-0
    (sym c.in-More.is ∙ c.answer.ensures.answers) so_far (stops.copied allowed depth now _ so_far).1)

pub returns-clause-tells : goal.returns-clause-tells
returns-clause-tells c = λ allowed depth fed given was.
    let bytes = c.args.bytes.now in
    let all : c.pieces.at ≡ length bytes = search rules in
    subst (λ (n : ℕ). Tells allowed depth (fed ++ take n bytes) (given ++ take c.pieces.written c.pieces.out)
    c.answer-2.result) all
    (c.answer-2.ensures.tells allowed depth (fed ++ take c.pieces.at bytes)
    (given ++ take c.pieces.written c.pieces.out) (c.pieces.invariant.copied allowed depth fed given was))

pub returns-in_default-clause-fits : goal.returns-in_default-clause-fits
returns-in_default-clause-fits c =
    let so_far = c.pieces.invariant in
    never_room c.args.self.now c.pieces.self c.answer.result (length c.args.bytes.now) (length c.args.out.now) c.pieces.at
    c.pieces.written c.answer.ensures.answers (rw (← so_far.long) so_far.full) so_far.grown so_far.within

pub returns-clause-fits : goal.returns-clause-fits
returns-clause-fits c =
    let so_far = c.pieces.invariant in
    never_room c.args.self.now c.pieces.self c.answer-2.result (length c.args.bytes.now) (length c.args.out.now)
    c.pieces.at c.pieces.written c.answer-2.ensures.answers (rw (← so_far.long) so_far.full) so_far.grown so_far.within

pub returns-in_default-clause-long : goal.returns-in_default-clause-long
returns-in_default-clause-long c = λ is.
    absurd (never_long (pending c.pieces.self) (item_spot c.pieces.self) (sym c.answer.ensures.answers ∙ is))

pub returns-in_default-clause-cut : goal.returns-in_default-clause-cut
returns-in_default-clause-cut c = λ allowed depth fed given was is.
    absurd (never_long (pending c.pieces.self) (item_spot c.pieces.self) (sym c.answer.ensures.answers ∙ is))

pub returns-clause-long : goal.returns-clause-long
returns-clause-long c = λ is.
    absurd (never_long (pending c.pieces.self) (item_spot c.pieces.self) (sym c.answer-2.ensures.answers ∙ is))

pub returns-clause-cut : goal.returns-clause-cut
returns-clause-cut c = λ allowed depth fed given was is.
    absurd (never_long (pending c.pieces.self) (item_spot c.pieces.self) (sym c.answer-2.ensures.answers ∙ is))

pub returns-in-None-clause-cut : goal.returns-in-None-clause-cut
returns-in-None-clause-cut c = λ allowed depth fed given was is.
    let copier = c.pieces.self in
    let so_far = c.pieces.invariant.copied allowed depth fed given was in
    let now = fed ++ take c.pieces.at c.args.bytes.now in
    let behind = (c.in-None.ensures.copied allowed depth now _ so_far).0 in
    let same = one_spot allowed depth now _ _ behind.checked so_far.checked in
    let due = more_due (pending copier) (item_spot copier) c.in-More.field-0
    (sym c.in-More.is ∙ c.answer.ensures.answers) in
    ap (λ (z : Spot). is_due z.phase) same ∙ due.1

-- Nothing was taken or written, so the answer is that of the copier before the call.
answers_same : (old new : ItemCopier) (taken written : ℕ) (progress : Progress)
    → (taken ≡ 0) × (written ≡ 0) × (new ≡ old) → progress ≡ progress_of (pending new) (item_spot new)
    → (taken ≡ 0) × (written ≡ 0) × (new ≡ old) × (progress ≡ progress_of (pending old) (item_spot old))
answers_same old new taken written progress same is = (
  same.0,
  same.1,
  same.2,
  subst (λ (z : ItemCopier). progress ≡ progress_of (pending z) (item_spot z)) same.2 is,
)

pub returns-in_default-clause-stays : goal.returns-in_default-clause-stays
returns-in_default-clause-stays c = λ off given.
    answers_same c.args.self.now c.pieces.self c.pieces.at c.pieces.written c.answer.result
    (c.pieces.invariant.stays off given) c.answer.ensures.answers

pub returns-in-None-clause-stays : goal.returns-in-None-clause-stays
returns-in-None-clause-stays c = λ off given.
    let copier = c.pieces.self in
    let same = c.pieces.invariant.stays off given in
    let phase : is_due (item_spot copier).phase ≡ false =
    ap (λ (z : ItemCopier). is_due (item_spot z).phase) same.2 ∙ off in
    absurd (not_more (pending copier) (item_spot copier) c.in-More.field-0 phase
    (sym c.answer.ensures.answers ∙ c.in-More.is))

pub returns-clause-stays : goal.returns-clause-stays
returns-clause-stays c = λ off given.
    let all : c.pieces.at ≡ length c.args.bytes.now = search rules in
    answers_same c.args.self.now c.pieces.self (length c.args.bytes.now) c.pieces.written c.answer-2.result
    (rw all at c.pieces.invariant.stays off given) c.answer-2.ensures.answers
