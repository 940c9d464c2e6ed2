use Rattle.std.proofs.Common.{◌≡◌, ◌+◌, ◌-◌, ◌++◌, ℕ, List, length, take, drop, refl, sym, ap, subst, ◌∙◌, arith}
use Rattle.std.proofs.Common.{append-nil, append_assoc}
use Rattle.std.proofs.lemmas.List.{length-drop, length-take-le}
use Rattle.ciborium_ll_grammar.specs.declared.spelling.Spelling.TheVariants.{Any}
use Rattle.cbor_checker.specs.Reading.{IsMore}
use Rattle.tool_files.proofs.FenceLaws.{fence_behind, fence_ended, fence_fault, fence_lost, fence_more, none_taken}
use Rattle.tool_files.proofs.RecodeLaws.{fed_all, fed_more, fed_rest}
use Rattle.tool_files.proofs.fence.Fence.pass.Goals as goal

pub items-init : goal.items-init
items-init g c = record {
  within = omega arith;
  depth = refl;
  source = refl;
  failures = refl;
  fenced = λ items given was. rw (append-nil given) was;
}

pub items-preserved-in-Ended : goal.items-preserved-in-Ended
items-preserved-in-Ended g c =
    let bytes = c.args.bytes.now in
    let at = c.items.at in
    let taken = c.feed-fed.result.taken in
    let rest = take (length bytes - at) (drop at bytes) in
    let old = c.items.self in
    record {
      within = omega (
        arith,
        c.feed-fed.ensures.taken,
        length-take-le (length bytes - at) (drop at bytes) (omega (arith, length-drop at bytes)),
        c.items.invariant.within,
      );
      depth = c.items.invariant.depth;
      source = c.items.invariant.source;
      failures = c.items.invariant.failures;
      fenced = λ items given was. rw (← fed_more given bytes at taken) (fence_ended items (given ++ take at bytes)
          (take taken rest) old _ c.feed-fed.result.progress c.feed-fed.new.self refl
          (λ part read. (c.feed-fed.ensures.read Any old.depth part read).0)
          (λ part read. (c.feed-fed.ensures.read Any old.depth part read).1.tells)
          (λ part read. none_taken Any old.depth part rest _ (c.feed-fed.ensures.read Any old.depth part read).1)
          c.in-Ended.field-0 c.in-Ended.is c.new-self.ensures (omega (arith, c.if-self-gt0.true)) (c.items.invariant.fenced items given was));
    }

pub items-preserved : goal.items-preserved
items-preserved g c =
    let bytes = c.args.bytes.now in
    let at = c.items.at in
    let taken = c.feed-fed.result.taken in
    let rest = take (length bytes - at) (drop at bytes) in
    let old = c.items.self in
    record {
      within = omega (
        arith,
        c.feed-fed.ensures.taken,
        length-take-le (length bytes - at) (drop at bytes) (omega (arith, length-drop at bytes)),
        c.items.invariant.within,
      );
      depth = c.items.invariant.depth;
      source = c.items.invariant.source;
      failures = c.items.invariant.failures;
      fenced = λ items given was. rw (← fed_more given bytes at taken) (fence_lost items (given ++ take at bytes)
          (take taken rest) old _ c.feed-fed.result.progress c.feed-fed.new.self refl
          (λ part read. (c.feed-fed.ensures.read Any old.depth part read).0)
          (λ part read. (c.feed-fed.ensures.read Any old.depth part read).1.tells)
          (λ part read. none_taken Any old.depth part rest _ (c.feed-fed.ensures.read Any old.depth part read).1)
          c.in-TooLong.is refl (c.items.invariant.fenced items given was));
    }

pub returns-in-More-clause-fenced : goal.returns-in-More-clause-fenced
returns-in-More-clause-fenced g c = λ items given was.
    let bytes = c.args.bytes.now in
    let at = c.items.at in
    let taken = c.feed-fed.result.taken in
    let rest = take (length bytes - at) (drop at bytes) in
    let old = c.items.self in
    let all : at + taken ≡ length bytes = omega (
      arith,
      c.feed-fed.ensures.all (subst IsMore (sym c.in-More.is) tt),
      length-take-le (length bytes - at) (drop at bytes) (omega (arith, length-drop at bytes)),
      c.items.invariant.within,
    ) in
    rw (← fed_all given bytes (at + taken) all, ← fed_more given bytes at taken) (fence_more items
    (given ++ take at bytes) (take taken rest) old _ c.feed-fed.result.progress c.feed-fed.new.self refl
    (λ part read. (c.feed-fed.ensures.read Any old.depth part read).0)
    (λ part read. (c.feed-fed.ensures.read Any old.depth part read).1.tells)
    (λ part read. none_taken Any old.depth part rest _ (c.feed-fed.ensures.read Any old.depth part read).1)
    c.in-More.field-0 c.in-More.is refl refl
    (c.items.invariant.fenced items given was))

pub returns-in-Fault-clause-fenced : goal.returns-in-Fault-clause-fenced
returns-in-Fault-clause-fenced g c = λ items given was.
    let bytes = c.args.bytes.now in
    let at = c.items.at in
    let taken = c.feed-fed.result.taken in
    let rest = take (length bytes - at) (drop at bytes) in
    let old = c.items.self in
    let whole : given ++ bytes ≡ (given ++ take at bytes) ++ (take taken rest ++ drop (at + taken) bytes) =
    fed_rest given bytes (at + taken)
    ∙ (ap (λ (z : List ℕ). z ++ drop (at + taken) bytes) (sym (fed_more given bytes at taken))
    ∙ append_assoc (given ++ take at bytes) (take taken rest) (drop (at + taken) bytes)) in
    rw whole (fence_fault items
    (given ++ take at bytes) (take taken rest) old _ c.feed-fed.result.progress c.feed-fed.new.self refl
    (λ part read. (c.feed-fed.ensures.read Any old.depth part read).0)
    (λ part read. (c.feed-fed.ensures.read Any old.depth part read).1.tells)
    (λ part read. none_taken Any old.depth part rest _ (c.feed-fed.ensures.read Any old.depth part read).1)
    c.in-Fault.field-0 (drop (at + taken) bytes) c.in-Fault.is refl refl
    (c.items.invariant.fenced items given was))

pub returns-else-self-gt0-clause-fenced : goal.returns-else-self-gt0-clause-fenced
returns-else-self-gt0-clause-fenced g c = λ items given was.
    rw (fed_rest given c.args.bytes.now c.items.at)
    (fence_behind items (given ++ take c.items.at c.args.bytes.now) (drop c.items.at c.args.bytes.now) c.items.self
    (c.items.invariant.fenced items given was) (omega (arith, c.if-self-gt0.false)))

pub returns-after-items-clause-fenced : goal.returns-after-items-clause-fenced
returns-after-items-clause-fenced g c = λ items given was.
    let all : c.items.at ≡ length c.args.bytes.now = omega (arith, c.items-test.false, c.items.invariant.within) in
    rw (← fed_all given c.args.bytes.now c.items.at all) (c.items.invariant.fenced items given was)
