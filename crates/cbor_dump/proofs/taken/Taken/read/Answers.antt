use Rattle.std.proofs.Common.{◌+◌, arith, subst, sym, List, ℕ}
use Rattle.std.proofs.lemmas.Slice.{take-put_mid}
use Rattle.ciborium_ll.specs.Decoding.{ReadsAll}
use Rattle.cbor_dump.specs.Takings.{Keeps, taken_bytes}
use Rattle.cbor_dump.proofs.TakingLaws.{keeps_read, keeps_failed, same_front}
use Rattle.cbor_dump.proofs.taken.Taken.read.Goals as goal

pub returns-in_err-read_exact-clause-keeps : goal.returns-in_err-read_exact-clause-keeps
returns-in_err-read_exact-clause-keeps g c =
    let taken = c.args.self.now in
    subst (λ (z : List ℕ). Keeps g.R.Read (taken_bytes taken) z c.args.decoder.now c.read_exact.new.self)
    (sym (same_front taken.len taken.bytes _ (omega arith)))
    (keeps_failed g.R.Read (taken_bytes taken) c.read_exact.new.data c.in_err-read_exact.field-0.0 _ _
    c.in_err-read_exact.ensures.reads.read c.read_exact.ensures.reads.steady)

pub returns-clause-keeps : goal.returns-clause-keeps
returns-clause-keeps g c =
    let taken = c.args.self.now in
    let read = c.read_exact.new.data in
    let all : ReadsAll g.R.Read c.args.decoder.now read c.read_exact.new.self = c.in_ok-read_exact.ensures.reads.read in
    let keeps = keeps_read g.R.Read (taken_bytes taken) read _ _ all c.read_exact.ensures.reads.steady in
    rw (take-put_mid taken.len _ taken.bytes read (taken.len + c.min.result) (omega arith) (omega arith)) keeps
