use Rattle.std.proofs.Common.{◌≡◌, ℕ, ◌+◌, ◌-◌, List, ◌++◌, rules, length, take, drop, sym, ap, ◌∙◌, subst}
use Rattle.std.proofs.lemmas.List.{take_rest}
use Rattle.std.specs.Io.KnownBytes.{Appends}
use Rattle.std.proofs.KnownBytes.{Appends-trans}
use lib.Seq.{take-add}
use Rattle.ciborium_ll_streams.proofs.streams.write_calls.Goals as goal

-- The first `a` bytes, followed by the `n` bytes of one more write, are the first `a + n` bytes.
sent_more : (a n : ℕ) (xs : List ℕ) → take a xs ++ take n (take (length xs - a) (drop a xs)) ≡ take (a + n) xs
sent_more a n xs = ap (λ l. take a xs ++ take n l) (take_rest xs a) ∙ sym (take-add a n xs)

pub loop-sent-preserved : goal.loop-sent-preserved
loop-sent-preserved g c =
    let kept = c.loop-sent.invariant in
    record {
      within = search rules;
      bytes = subst (Appends _ _) (sent_more c.loop-sent.sent c.in-Ok.count c.args.bytes.now)
          (Appends-trans _ _ _ _ _ kept.bytes c.in-Ok.ensures.bytes);
      empty = search rules;
    }
