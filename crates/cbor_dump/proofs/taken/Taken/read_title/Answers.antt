use Rattle.std.proofs.Common.{◌≡◌, ◌%◌, ◌∙◌, ℕ, List, length, get_or, Err, Some, None, ap, subst, sym, arith}
use Rattle.ciborium_ll.specs.Title.{affix_len}
use Rattle.ciborium_ll.proofs.DecodingLaws.{IfSome-all, exit_is}
use Rattle.cbor_skip.proofs.StrictnessLaws.{taken_when}
use Rattle.cbor_dump.specs.Takings.{Leaves, taken_bytes}
use Rattle.cbor_dump.proofs.LeaveLaws.{reads_then, row_read, stops_then}
use Rattle.cbor_dump.proofs.TakingLaws.{keeps_then}
use Rattle.cbor_dump.proofs.PullLaws.{first_byte, first_fails, first_passed, less_left, more_passed, passes_idle}
use Rattle.cbor_dump.proofs.PullLaws.{row_first, row_means, row_nothing, row_pulled, row_refused, second_fails}
use Rattle.cbor_dump.proofs.PullLaws.{waits_no_read, waits_refused}
use Rattle.cbor_dump.proofs.taken.Taken.read_title.Goals as goal

pub returns-in_err-read-clause-pulls : goal.returns-in_err-read-clause-pulls
returns-in_err-read-clause-pulls g c = λ alike at.
    let same = exit_is c.from_residual.result c.in_err-read.field-0.0 c.from_residual.ensures.1 in
    let reads = c.in_err-read.ensures.reads in
    let empty = ap length c.requires.none in
    let counted = reads.counted in
    rw same
    (first_fails g.R.Read _ _ _ reads.bytes alike.none_waits (omega (arith, counted, empty)) reads.reads.read)

pub returns-in_err-read-clause-waits : goal.returns-in_err-read-clause-waits
returns-in_err-read-clause-waits g c = λ waits.
    let same = exit_is c.from_residual.result c.in_err-read.field-0.0 c.from_residual.ensures.1 in
    let refused = waits_refused g.R.Read 1 _ _ c.in_err-read.field-0.0 _ _ waits c.in_err-read.ensures.reads in
    (same ∙ ap Err refused.0, c.in_err-read.ensures.none ∙ c.requires.none, refused.1)

pub returns-in_err-read_affix-clause-waits : goal.returns-in_err-read_affix-clause-waits
returns-in_err-read_affix-clause-waits g c = λ waits.
    absurd (waits_no_read g.R.Read 1 _ _ _ _ waits c.in_ok-read.ensures.reads)

pub returns-in-Some-clause-waits : goal.returns-in-Some-clause-waits
returns-in-Some-clause-waits g c = λ waits.
    absurd (waits_no_read g.R.Read 1 _ _ _ _ waits c.in_ok-read.ensures.reads)

pub returns-in-None-clause-waits : goal.returns-in-None-clause-waits
returns-in-None-clause-waits g c = λ waits.
    absurd (waits_no_read g.R.Read 1 _ _ _ _ waits c.in_ok-read.ensures.reads)

pub returns-in_err-read-clause-row : goal.returns-in_err-read-clause-row
returns-in_err-read-clause-row g c =
    let same = exit_is c.from_residual.result c.in_err-read.field-0.0 c.from_residual.ensures.1 in
    rw same (row_nothing g.R.Read c.args.spelling 1 _ _ _ _ _ c.in_err-read.ensures.reads _
    (c.in_err-read.ensures.none ∙ c.requires.none))

pub returns-in_err-read-clause-left : goal.returns-in_err-read-clause-left
returns-in_err-read-clause-left g c =
    let same = exit_is c.from_residual.result c.in_err-read.field-0.0 c.from_residual.ensures.1 in
    let reads = c.in_err-read.ensures.reads in
    let counted = reads.counted in
    let empty = ap length c.requires.none in
    let none = c.in_err-read.ensures.none ∙ c.requires.none in
    rw same (λ idle. less_left g.R.Read 1 _ _ _ _ _ reads idle.steady _
    (λ left less. subst (λ (z : List ℕ). Leaves z left) (sym none) (omega (arith, less, counted, empty))))

pub returns-in_err-read_affix-clause-row : goal.returns-in_err-read_affix-clause-row
returns-in_err-read_affix-clause-row g c =
    let residual = c.from_residual-in_err-read_affix in
    let same = exit_is residual.result c.in_err-read_affix.field-0.0 residual.ensures.1 in
    let first = c.in_ok-read.ensures.reads in
    let announced : c.affix_len.result ≡ affix_len (get_or (taken_bytes c.read.new.self) 0 0 % 32) =
    rw c.bytes.ensures at c.affix_len.ensures.value in
    let one = first_byte g.R.Read _ _ _ _ c.requires.none first in
    let some = c.in_err-read_affix.ensures.some in
    rw same (row_first g.R.Read c.args.spelling _ _ _ _ _ _ c.in_err-read_affix.ensures.reads _ _
    (c.in_err-read_affix.ensures.none ∙ one) (omega (arith, some, announced)))

pub returns-in_err-read_affix-clause-left : goal.returns-in_err-read_affix-clause-left
returns-in_err-read_affix-clause-left g c =
    let residual = c.from_residual-in_err-read_affix in
    let same = exit_is residual.result c.in_err-read_affix.field-0.0 residual.ensures.1 in
    let first = c.in_ok-read.ensures.reads in
    let announced : c.affix_len.result ≡ affix_len (get_or (taken_bytes c.read.new.self) 0 0 % 32) =
    rw c.bytes.ensures at c.affix_len.ensures.value in
    let one = first_byte g.R.Read _ _ _ _ c.requires.none first in
    let row = c.in_err-read_affix.ensures.none ∙ one in
    let reads = c.in_err-read_affix.ensures.reads in
    let counted = reads.counted in
    rw same (λ idle. less_left g.R.Read _ _ _ _ _ _ reads (first.reads.steady idle.steady) _
    (λ left less. subst (λ (z : List ℕ). Leaves z left) (sym row) (omega (arith, less, counted, announced))))

pub returns-in_err-read_affix-clause-keeps : goal.returns-in_err-read_affix-clause-keeps
returns-in_err-read_affix-clause-keeps g c =
    keeps_then g.R.Read _ _ _ _ _ _ c.read.ensures.keeps c.read_affix.ensures.keeps

pub returns-in_err-read_affix-clause-pulls : goal.returns-in_err-read_affix-clause-pulls
returns-in_err-read_affix-clause-pulls g c = λ alike at.
    let residual = c.from_residual-in_err-read_affix in
    let same = exit_is residual.result c.in_err-read_affix.field-0.0 residual.ensures.1 in
    let first = c.in_ok-read.ensures.reads in
    let announced : c.affix_len.result ≡ affix_len (get_or (taken_bytes c.read.new.self) 0 0 % 32) =
    rw c.bytes.ensures at c.affix_len.ensures.value in
    rw same (second_fails g.R.Read _ _ _ _ _ _ _ _ c.requires.none first announced c.affix_len.ensures.few
    c.in_err-read_affix.ensures.reads)

pub returns-in-None-clause-row : goal.returns-in-None-clause-row
returns-in-None-clause-row g c =
    let first = c.in_ok-read.ensures.reads in
    let announced : c.affix_len.result ≡ affix_len (get_or (taken_bytes c.read.new.self) 0 0 % 32) =
    rw c.bytes.ensures at c.affix_len.ensures.value in
    let means = row_means g.R.Read c.args.spelling _ _ _ _ _ _ _ _ None c.requires.none first announced
    c.affix_len.ensures.few c.in_ok-read_affix.ensures.reads c.bytes-2.ensures c.in-None.ensures in
    means

pub returns-in-None-clause-left : goal.returns-in-None-clause-left
returns-in-None-clause-left g c =
    λ idle. IfSome-all _ _ (λ any. tt)

pub returns-in-None-clause-pulls : goal.returns-in-None-clause-pulls
returns-in-None-clause-pulls g c = λ alike at.
    let first = c.in_ok-read.ensures.reads in
    let announced : c.affix_len.result ≡ affix_len (get_or (taken_bytes c.read.new.self) 0 0 % 32) =
    rw c.bytes.ensures at c.affix_len.ensures.value in
    let means = row_means g.R.Read c.args.spelling _ _ _ _ _ _ _ _ None c.requires.none first announced
    c.affix_len.ensures.few c.in_ok-read_affix.ensures.reads c.bytes-2.ensures c.in-None.ensures in
    let idle = alike.none_waits in
    let begun = first_passed g.R.Read 1 _ _ _ _ c.requires.none idle first in
    let passed = more_passed g.R.Read _ _ _ _ _ _ begun (passes_idle g.R.Read _ _ _ begun idle)
    c.in_ok-read_affix.ensures.reads in
    row_refused g.R.Read c.args.spelling _ _ _ alike passed c.args.place at means

pub returns-in-Some-clause-title : goal.returns-in-Some-clause-title
returns-in-Some-clause-title g c =
    let first = c.in_ok-read.ensures.reads in
    let announced : c.affix_len.result ≡ affix_len (get_or (taken_bytes c.read.new.self) 0 0 % 32) =
    rw c.bytes.ensures at c.affix_len.ensures.value in
    let means = row_means g.R.Read c.args.spelling _ _ _ _ _ _ _ _ (Some c.in-Some.header) c.requires.none
    first
    announced c.affix_len.ensures.few c.in_ok-read_affix.ensures.reads c.bytes-2.ensures c.in-Some.ensures in
    means.0

pub returns-in-Some-clause-taken : goal.returns-in-Some-clause-taken
returns-in-Some-clause-taken g c =
    let first = c.in_ok-read.ensures.reads in
    let announced : c.affix_len.result ≡ affix_len (get_or (taken_bytes c.read.new.self) 0 0 % 32) =
    rw c.bytes.ensures at c.affix_len.ensures.value in
    let means = row_means g.R.Read c.args.spelling _ _ _ _ _ _ _ _ (Some c.in-Some.header) c.requires.none
    first
    announced c.affix_len.ensures.few c.in_ok-read_affix.ensures.reads c.bytes-2.ensures c.in-Some.ensures in
    taken_when c.args.spelling _ c.in-Some.header means.1

pub returns-in-Some-clause-passes : goal.returns-in-Some-clause-passes
returns-in-Some-clause-passes g c = λ none.
    let one = first_passed g.R.Read 1 _ _ _ _ c.requires.none none c.in_ok-read.ensures.reads in
    more_passed g.R.Read _ _ _ _ _ _ one (passes_idle g.R.Read _ _ _ one none) c.in_ok-read_affix.ensures.reads

pub returns-in-Some-clause-pulls : goal.returns-in-Some-clause-pulls
returns-in-Some-clause-pulls g c = λ alike at.
    let first = c.in_ok-read.ensures.reads in
    let announced : c.affix_len.result ≡ affix_len (get_or (taken_bytes c.read.new.self) 0 0 % 32) =
    rw c.bytes.ensures at c.affix_len.ensures.value in
    let means = row_means g.R.Read c.args.spelling _ _ _ _ _ _ _ _ (Some c.in-Some.header) c.requires.none
    first
    announced c.affix_len.ensures.few c.in_ok-read_affix.ensures.reads c.bytes-2.ensures c.in-Some.ensures in
    let idle = alike.none_waits in
    let begun = first_passed g.R.Read 1 _ _ _ _ c.requires.none idle first in
    let passed = more_passed g.R.Read _ _ _ _ _ _ begun (passes_idle g.R.Read _ _ _ begun idle)
    c.in_ok-read_affix.ensures.reads in
    row_pulled g.R.Read c.args.spelling _ _ _ alike passed c.in-Some.header means

pub returns-in-None-clause-keeps : goal.returns-in-None-clause-keeps
returns-in-None-clause-keeps g c =
    keeps_then g.R.Read _ _ _ _ _ _ c.read.ensures.keeps c.read_affix.ensures.keeps

pub returns-in-Some-clause-keeps : goal.returns-in-Some-clause-keeps
returns-in-Some-clause-keeps g c =
    keeps_then g.R.Read _ _ _ _ _ _ c.read.ensures.keeps c.read_affix.ensures.keeps

pub read_affix-requires : goal.read_affix-requires
read_affix-requires g c = record { none_waits = c.in_ok-read.ensures.reads.reads.read.none_waits }

-- ---- how the reads leave the decoder

pub returns-in_err-read-clause-moves : goal.returns-in_err-read-clause-moves
returns-in_err-read-clause-moves g c =
    let same = exit_is c.from_residual.result c.in_err-read.field-0.0 c.from_residual.ensures.1 in
    rw same (row_read g.R.Read _ _ _ _ _ _ c.in_err-read.ensures.reads)

pub returns-in_err-read_affix-clause-moves : goal.returns-in_err-read_affix-clause-moves
returns-in_err-read_affix-clause-moves g c =
    let residual = c.from_residual-in_err-read_affix in
    let same = exit_is residual.result c.in_err-read_affix.field-0.0 residual.ensures.1 in
    rw same (stops_then g.R.Read c.in_err-read_affix.field-0.0 _ _ _
    (row_read g.R.Read _ _ _ _ _ _ c.in_ok-read.ensures.reads)
    (row_read g.R.Read _ _ _ _ _ _ c.in_err-read_affix.ensures.reads))

pub returns-in-None-clause-moves : goal.returns-in-None-clause-moves
returns-in-None-clause-moves g c =
    reads_then g.R.Read _ _ _ (row_read g.R.Read _ _ _ _ _ _ c.in_ok-read.ensures.reads)
    (row_read g.R.Read _ _ _ _ _ _ c.in_ok-read_affix.ensures.reads)

pub returns-in-Some-clause-moves : goal.returns-in-Some-clause-moves
returns-in-Some-clause-moves g c =
    reads_then g.R.Read _ _ _ (row_read g.R.Read _ _ _ _ _ _ c.in_ok-read.ensures.reads)
    (row_read g.R.Read _ _ _ _ _ _ c.in_ok-read_affix.ensures.reads)
