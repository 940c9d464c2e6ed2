use Rattle.std.proofs.Common.{arith}
use Rattle.cbor_dump.proofs.LeaveLaws.{row_read}
use Rattle.cbor_dump.proofs.PartLaws.{bytes_part, fault_part}
use Rattle.cbor_dump.proofs.RowLaws.{row_few}
use Rattle.cbor_dump.proofs.strings.read_part.Goals as goal

pub returns-in-Bytes-clause-reads : goal.returns-in-Bytes-clause-reads
returns-in-Bytes-clause-reads g c = λ some none.
    let value = c.min.ensures in
    rw c.in-Bytes.is
    (bytes_part g.R.Read c.args.left c.args.place c.min.result _ _ _ _ c.read.result c.requires.none none some
    (omega (arith, value, some)) (omega (arith, value)) c.read.ensures.reads)

pub returns-else-branch-clause-reads : goal.returns-else-branch-clause-reads
returns-else-branch-clause-reads g c = λ some none.
    let read = c.in_ok-read_text-in-Text.ensures in
    rw c.in-Text.is
    (fault_part g.R.Read c.args.left c.args.place _ _ _ read.most (row_few c.read_text.new.self)
    (rw c.if-branch.false at (read.reads some none)))

pub returns-in-Bytes-clause-moves : goal.returns-in-Bytes-clause-moves
returns-in-Bytes-clause-moves g c = row_read g.R.Read _ _ _ _ _ _ c.read.ensures.reads
