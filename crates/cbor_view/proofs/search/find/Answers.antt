use Rattle.std.proofs.Common.{ℕ, ◌∙◌, refl, subst, ◌++◌}
use Rattle.ciborium_ll_grammar.specs.declared.spelling.Spelling.TheVariants.{Any}
use Rattle.ciborium_ll_grammar.specs.Items.{IsItem}
use Rattle.cbor_view.specs.Pairs.{IsKey}
use Rattle.cbor_view.proofs.NestLaws.{pair_takes}
use Rattle.cbor_view.proofs.SearchLaws.{first_here, first_later, later_back, no_pair}
use Rattle.cbor_view.proofs.search.find.Goals as goal

pub pairs-init : goal.pairs-init
pairs-init c = record { levels = refl; there = λ value f. f; back = λ other value q m. q }

pub returns-then-is_key : goal.returns-then-is_key
returns-then-is_key c =
    let took = c.in-Some.ensures.steps in
    let same = c.pairs.invariant.levels in
    let e = c.args.pairs.now.depth in
    record {
      found = c.pairs.invariant.there c.in-Some.value.bytes.now
          (first_here (IsKey c.args.key.now) e c.pairs.left.rest.now c.in-Some.other.bytes.now
          c.in-Some.value.bytes.now c.next.new.self.rest.now
          (subst (λ (d : ℕ). IsItem Any d c.in-Some.other.bytes.now) same took.is_key)
          (subst (λ (d : ℕ). IsItem Any d c.in-Some.value.bytes.now) same took.is_value) took.whole
          (c.is_key.ensures.0 c.if-is_key.true));
      depth = took.value_levels ∙ same;
    }

pub pairs-preserved : goal.pairs-preserved
pairs-preserved c =
    let took = c.in-Some.ensures.steps in
    let same = c.pairs.invariant.levels in
    let e = c.args.pairs.now.depth in
    let key = subst (λ (d : ℕ). IsItem Any d c.in-Some.other.bytes.now) same took.is_key in
    let item = subst (λ (d : ℕ). IsItem Any d c.in-Some.value.bytes.now) same took.is_value in
    record {
      levels = took.same_levels ∙ same;
      there = λ value f. c.pairs.invariant.there value
          (first_later (IsKey c.args.key.now) e c.pairs.left.rest.now c.in-Some.other.bytes.now
          c.in-Some.value.bytes.now c.next.new.self.rest.now value key item took.whole
          (λ m. let t = c.is_key.ensures.1 m in let f = c.if-is_key.false in cc) f);
      back = λ other value q m. later_back (IsKey c.args.key.now) e c.pairs.left.rest.now c.in-Some.other.bytes.now
          c.in-Some.value.bytes.now c.next.new.self.rest.now other value key item took.whole
          (λ n. let t = c.is_key.ensures.1 n in let f = c.if-is_key.false in cc)
          (c.pairs.invariant.back other value q m) m;
    }

pub pairs-smaller : goal.pairs-smaller
pairs-smaller c =
    let took = c.in-Some.ensures.steps in
    pair_takes c.pairs.left.depth c.pairs.left.rest.now c.in-Some.other.bytes.now c.in-Some.value.bytes.now
    (c.in-Some.value.bytes.now ++ c.next.new.self.rest.now) c.next.new.self.rest.now took.is_key took.whole
    took.is_value
    refl

pub returns : goal.returns
returns c = record {
  found = λ other value q m.
      no_pair c.args.pairs.now.depth c.pairs.left.rest.now other value (c.pairs.invariant.back other value q m)
      c.in_default.ensures.steps.none_left;
  depth = tt;
}
