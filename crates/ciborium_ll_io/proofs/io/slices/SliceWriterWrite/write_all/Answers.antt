use Rattle.std.proofs.Common.{◌+◌, ◌++◌, length, take, sym, ap, ◌∙◌}
use Rattle.std.proofs.lemmas.Slice.{take-put_mid}
use Rattle.ciborium_ll_io.proofs.SliceLaws.{behind_grown}
use Rattle.ciborium_ll_io.proofs.io.slices.SliceWriterWrite.write_all.Goals as goal

pub returns-clause-bytes : goal.returns-clause-bytes
returns-clause-bytes c =
    let copied = c.copy_chunk.ensures.copied in
    take-put_mid _ _ _ _ _ (ap (λ l. c.args.self.now.filled + length l) (sym copied)) c.args.self.now.within
    ∙ ap (λ l. take c.args.self.now.filled c.args.self.now.buffer.now ++ l) copied

pub invariant_of-self-2-clause-behind : goal.invariant_of-self-2-clause-behind
invariant_of-self-2-clause-behind c =
    behind_grown _ _ _ _ _ c.args.self.now.within (ap length c.copy_chunk.ensures.copied) c.args.self.now.behind
