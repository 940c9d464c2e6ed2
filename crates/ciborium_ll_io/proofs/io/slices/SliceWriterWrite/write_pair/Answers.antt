use Rattle.std.proofs.Common.{◌≡◌, ℕ, ◌+◌, ◌-◌, ◌≤◌, List, ◌++◌, length, take, drop, refl, ap, ◌∙◌, arith}
use Rattle.std.proofs.lemmas.Slice.{take-put_mid}
use borrow.Rule.Slice.PartMut.{put_mid}
use Rattle.ciborium_ll_io.proofs.SliceLaws.{behind_grown}
use Rattle.ciborium_ll_io.proofs.io.slices.SliceWriterWrite.write_pair.Goals as goal

-- A slice equals `first` after the bytes that were put into it.
behind_put : (a end : ℕ) (xs ys first : List ℕ) → a ≤ length xs → end ≡ a + length ys → drop a xs ≡ drop a first
    → drop end (put_mid a (end - a) xs ys) ≡ drop end first
behind_put a end xs ys first within is behind = rw is (behind_grown a (length ys) xs ys first within refl behind)

pub returns-clause-bytes : goal.returns-clause-bytes
returns-clause-bytes c =
    let copied = c.copy_pair.ensures.copied in
    take-put_mid _ _ _ _ _ (grind (arith, copied)) c.args.self.now.within
    ∙ ap (λ l. take c.args.self.now.filled c.args.self.now.buffer.now ++ l) copied

pub invariant_of-self-2-clause-behind : goal.invariant_of-self-2-clause-behind
invariant_of-self-2-clause-behind c =
    let long = ap length c.copy_pair.ensures.copied in
    behind_put _ _ _ _ _ c.args.self.now.within (omega arith) c.args.self.now.behind
