use Rattle.std.proofs.Common.{take, refl, rules}
use Rattle.cbor_checker.specs.Checking.{spot_of}
use Rattle.cbor_item_copier.specs.Copying.{item_spot}
use Rattle.cbor_item_copier.proofs.StateLaws.{same_fed}
use Rattle.cbor_item_copier.proofs.StepLaws.{step_fed}
use Rattle.cbor_item_copier.proofs.copier.ItemCopier.step.Goals as goal

pub returns-then-taken-eq0 : goal.returns-then-taken-eq0
returns-then-taken-eq0 c = record {
  none = refl;
  held_same = refl;
  same = refl;
  copied = λ allowed depth fed given was.
      let left = c.check-taken.ensures.none allowed depth fed was.checked (search rules) in (
        same_fed allowed depth fed _ (item_spot c.args.self.now) (spot_of c.check-taken.new.checker) _ left.0 was,
        left.1,
      );
}

pub returns : goal.returns
returns c = record {
  some = search rules;
  all = c.check-taken.ensures.within;
  within = c.copy.ensures.written;
  kept = c.copy.ensures.kept;
  full = c.copy.ensures.full;
  grown = search rules;
  copied = λ allowed depth fed given was.
      let old = c.args.self.now in
      let bytes = c.args.bytes.now in
      let taken = c.check-taken.result in
      let kept = c.copied_len-copied.result in
      let new = spot_of c.check-taken.new.checker in
      let checked = c.check-taken.ensures.taken allowed depth fed was.checked in
      step_fed allowed depth fed bytes taken kept (item_spot old) new c.requires.due c.check-taken.ensures.within
      checked.0 c.copied_len-copied.ensures checked.1 given (take c.copy.result c.copy.new.out) old.copier
      c.copy.new.copier (c.copy.ensures.copied fed given) was;
}
