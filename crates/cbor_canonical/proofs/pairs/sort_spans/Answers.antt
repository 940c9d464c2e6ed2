use Rattle.std.proofs.Common.{ap, rules}
use Rattle.std.specs.Ordering.{is_lt}
use Rattle.std.proofs.lemmas.Fn.{always_returns_same}
use Rattle.std.proofs.lemmas.List.Sorted.{ranks_by}
use Rattle.cbor_canonical.specs.declared.pairs.Span.{Span}
use Rattle.cbor_canonical.specs.Places.{key_at}
use Rattle.cbor_canonical.proofs.SortRuns.{order_cmp, order_total, order_ranks, one_rank, span_before, sorted_keys}
use Rattle.cbor_canonical.proofs.pairs.sort_spans.Goals as goal

pub returns-clause-sorted : goal.returns-clause-sorted
returns-clause-sorted c =
    let o = c.args.order in
    let out = c.args.out.now in
    sorted_keys o out c.sort_unstable_by.new.self
    (c.sort_unstable_by.ensures.sorted (span_before o out) (ranks_by (order_total o) (λ (s : Span). key_at out s))
    (always_returns_same _ _ _ (λ a r q k. (
      ap is_lt (one_rank o r (order_cmp o (key_at out a.0.now) (key_at out a.1.0.now)) (key_at out a.0.now)
          (key_at out a.1.0.now) (search rules) (order_ranks o (key_at out a.0.now) (key_at out a.1.0.now))),
      search rules,
    ))))
