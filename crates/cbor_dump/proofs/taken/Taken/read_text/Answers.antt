use Rattle.std.proofs.Common.{◌≡◌, ◌++◌, true, ℕ, List, length, arith, ap, subst, sym, ◌∙◌}
use Rattle.std.proofs.Common.{length-append}
use Rattle.ciborium_ll.proofs.DecodingLaws.{exit_is}
use Rattle.ciborium_ll.specs.Strings.{Text}
use Rattle.ciborium_ll_text.specs.States.{after, tail_due}
use Rattle.ciborium_ll_text.specs.declared.state.State.TheVariants.{Between}
use Rattle.cbor_dump.specs.Parts.{is_inside, is_between, EndsSoon}
use Rattle.cbor_dump.specs.Takings.{taken_bytes}
use Rattle.cbor_dump.proofs.LeaveLaws.{reads_then, row_read, stops_then}
use Rattle.cbor_dump.proofs.TakingLaws.{keeps_then}
use Rattle.cbor_dump.specs.Parts.{IsCutText}
use Rattle.cbor_dump.specs.Takings.{Leaves}
use Rattle.cbor_dump.proofs.ItemRows.{nothing}
use Rattle.cbor_dump.proofs.PartLaws.{cut_text, due_few, first_part, inside_more, next_part, state_due, inside_some}
use Rattle.cbor_dump.proofs.PartLaws.{sound_of}
use Rattle.cbor_dump.proofs.PullLaws.{first_passed, less_left, more_passed, part_cut, part_nothing, passes_idle}
use Rattle.cbor_dump.proofs.PullLaws.{several_leave}
use Rattle.cbor_dump.proofs.taken.Taken.read_text.Goals.{then-more-test+else-is_cut, else-more-test}
use Rattle.cbor_dump.proofs.taken.Taken.read_text.Goals as goal

pub returns-in_err-read-2-clause-keeps : goal.returns-in_err-read-2-clause-keeps
returns-in_err-read-2-clause-keeps g c =
    keeps_then g.R.Read _ _ _ _ _ _ c.more.invariant.keeps c.read-in-more.ensures.keeps

pub returns-in_err-read-clause-reads : goal.returns-in_err-read-clause-reads
returns-in_err-read-clause-reads g c = λ some none.
    let reads = c.in_err-read.ensures.reads in
    let same = exit_is c.from_residual.result c.in_err-read.field-0.0 c.from_residual.ensures.1 in
    rw same (λ place. first_part g.R.Read Text c.args.left place c.min.result _ _ _ _ _ c.requires.none none some
    (omega (arith, some)) (omega arith) reads)

pub more-init : goal.more-init
more-init g c =
    let row = taken_bytes c.read.new.self in
    let reads = c.in_ok-read.ensures.reads in
    let counted = reads.counted in
    let empty = ap length c.requires.none in
    let long = ap length reads.behind in
    let both = length-append (taken_bytes c.args.self.now) reads.bytes in
    let asked = c.min.ensures in
    record {
      keeps = c.read.ensures.keeps;
      most = omega (arith, counted, empty, long, both, asked);
      some = λ any. omega (arith, counted, empty, long, both, asked, any);
      room = let few = due_few (after Between row) in omega (arith, counted, empty, long, both, asked, few);
      inside = λ count least less. absurd (omega (arith, counted, empty, long, both, asked, least, less));
      many = omega (arith, counted, empty, long, both, asked);
      passed = λ none. first_passed g.R.Read _ _ _ _ _ c.requires.none none reads;
      moves = row_read g.R.Read _ _ _ _ _ _ reads;
    }

pub more-preserved : goal.more-preserved
more-preserved g c =
    let row = taken_bytes c.more.self in
    let next = taken_bytes c.read-in-more.new.self in
    let so_far = c.more.invariant in
    let reads = c.in_ok-read-2.ensures.reads in
    let counted = reads.counted in
    let inside : is_inside (after Between row) ≡ true =
    ap (λ (z : List ℕ). is_inside (after Between z)) (sym c.bytes.ensures) ∙ (sym c.is_cut.ensures ∙ c.if-is_cut.true)
    in
    let some = inside_some row inside in
    let room = so_far.room in
    let one : length reads.bytes ≡ 1 = omega (arith, counted, some, room) in
    let less = state_due row reads.bytes inside one in
    let moved : tail_due (after Between next) ≡ tail_due (after Between (row ++ reads.bytes)) =
    ap (λ (z : List ℕ). tail_due (after Between z)) reads.behind in
    let long = ap length reads.behind in
    let both = length-append row reads.bytes in
    let value = c.len.ensures.value in
    let test = c.more-test.true in
    record {
      keeps = keeps_then g.R.Read _ _ _ _ _ _ so_far.keeps c.read-in-more.ensures.keeps;
      most = omega (arith, long, both, one, value, test);
      some = λ any. omega (arith, long, both, one);
      room = omega (arith, long, both, one, moved, less, room);
      inside = inside_more row next reads.bytes reads.behind one so_far.inside inside;
      many = let many = so_far.many in omega (arith, many, long, both, one);
      passed = λ none.
          let passed = so_far.passed none in
          more_passed g.R.Read 1 row next _ _ _ passed (passes_idle g.R.Read _ _ _ passed none) reads;
      moves = reads_then g.R.Read _ _ _ so_far.moves (row_read g.R.Read _ _ _ _ _ _ reads);
    }

pub returns-in_err-read-2-clause-reads : goal.returns-in_err-read-2-clause-reads
returns-in_err-read-2-clause-reads g c = λ some none.
    let row = taken_bytes c.more.self in
    let residual = c.from_residual-in_err-read-2 in
    let same = exit_is residual.result c.in_err-read-2.field-0.0 residual.ensures.1 in
    let inside : is_inside (after Between row) ≡ true =
    ap (λ (z : List ℕ). is_inside (after Between z)) (sym c.bytes.ensures) ∙ (sym c.is_cut.ensures ∙ c.if-is_cut.true)
    in
    let due_here = inside_some row inside in
    let room = c.more.invariant.room in
    let value = c.len.ensures.value in
    let test = c.more-test.true in
    rw same (λ place. next_part g.R.Read c.args.left place row _ _ _ _ _ (c.more.invariant.passed none) none
    (omega (arith, value, test)) (omega (arith, due_here, room)) inside c.in_err-read-2.ensures.reads)

pub returns-in_err-read-clause-row : goal.returns-in_err-read-clause-row
returns-in_err-read-clause-row g c = λ some.
    let same = exit_is c.from_residual.result c.in_err-read.field-0.0 c.from_residual.ensures.1 in
    rw same (part_nothing g.R.Read Text c.args.left _ _ _ _ _ _ c.in_err-read.ensures.reads _
    (c.in_err-read.ensures.none ∙ c.requires.none))

pub returns-in_err-read-clause-left : goal.returns-in_err-read-clause-left
returns-in_err-read-clause-left g c = λ some.
    let same = exit_is c.from_residual.result c.in_err-read.field-0.0 c.from_residual.ensures.1 in
    let reads = c.in_err-read.ensures.reads in
    let counted = reads.counted in
    let none = c.in_err-read.ensures.none ∙ c.requires.none in
    rw same (λ idle. less_left g.R.Read _ _ _ _ _ _ reads idle.steady _
    (λ left less. subst (λ (z : List ℕ). Leaves z left) (sym none) (omega (arith, less, counted))))

pub returns-in_err-read-2-clause-row : goal.returns-in_err-read-2-clause-row
returns-in_err-read-2-clause-row g c = λ some.
    let row = taken_bytes c.more.self in
    let residual = c.from_residual-in_err-read-2 in
    let same = exit_is residual.result c.in_err-read-2.field-0.0 residual.ensures.1 in
    let inside : is_inside (after Between row) ≡ true =
    ap (λ (z : List ℕ). is_inside (after Between z)) (sym c.bytes.ensures) ∙ (sym c.is_cut.ensures ∙ c.if-is_cut.true)
    in
    let many = c.more.invariant.many in
    let value = c.len.ensures.value in
    let test = c.more-test.true in
    let room = c.more.invariant.room in
    let soon : EndsSoon row = record { few = omega (arith, room); inside = c.more.invariant.inside } in
    let cut = cut_text c.args.left row inside (omega (arith, many, value, test)) soon (omega (arith, value, test)) in
    rw same (part_cut g.R.Read c.args.left _ _ _ _ _ _ c.in_err-read-2.ensures.reads _
    (subst (λ (z : List ℕ). IsCutText c.args.left z) (sym c.in_err-read-2.ensures.none) cut))

pub returns-in_err-read-2-clause-left : goal.returns-in_err-read-2-clause-left
returns-in_err-read-2-clause-left g c = λ some.
    let residual = c.from_residual-in_err-read-2 in
    let same = exit_is residual.result c.in_err-read-2.field-0.0 residual.ensures.1 in
    let many = c.more.invariant.many in
    let value = c.len.ensures.value in
    let test = c.more-test.true in
    let reads = c.in_err-read-2.ensures.reads in
    let counted = reads.counted in
    let long = ap length c.in_err-read-2.ensures.none in
    rw same (λ idle. less_left g.R.Read _ _ _ _ _ _ reads
    (c.more.invariant.keeps.takes.consumed idle).1.steady _
    (λ left less. several_leave (taken_bytes c.read-in-more.new.self) left
    (omega (arith, many, value, test, long))
    (nothing left (omega (arith, less, counted)))))

pub returns-clause-sound : goal.returns-clause-sound
returns-clause-sound g c =
    let row = taken_bytes c.more.self in
    let same : c.is_text.result ≡ is_between (after Between row) =
    c.is_text.ensures ∙ ap (λ (z : List ℕ). is_between (after Between z)) c.bytes-2.ensures in
    sound_of c.args.left row c.is_text.result same c.more.invariant.most (λ less.
    elim c.more-test.branch [
      | then-more-test+else-is_cut w ↦ ap (λ (z : List ℕ). is_inside (after Between z)) (sym w.bytes.ensures)
          ∙ (sym w.is_cut.ensures ∙ w.if-is_cut.false)
      | else-more-test w ↦ absurd
          (let value = c.len.ensures.value in let test = w.more-test.false in omega (arith, value, test, less))
    ])

pub returns-clause-reads : goal.returns-clause-reads
returns-clause-reads g c = λ some none. (c.more.invariant.passed none, returns-clause-sound g c)

pub returns-clause-full : goal.returns-clause-full
returns-clause-full g c =
    let room = c.more.invariant.room in
    (c.more.invariant.many, record { few = omega (arith, room); inside = c.more.invariant.inside })

-- ---- how the reads leave the decoder

pub returns-in_err-read-clause-moves : goal.returns-in_err-read-clause-moves
returns-in_err-read-clause-moves g c =
    let same = exit_is c.from_residual.result c.in_err-read.field-0.0 c.from_residual.ensures.1 in
    rw same (row_read g.R.Read _ _ _ _ _ _ c.in_err-read.ensures.reads)

pub returns-in_err-read-2-clause-moves : goal.returns-in_err-read-2-clause-moves
returns-in_err-read-2-clause-moves g c =
    let residual = c.from_residual-in_err-read-2 in
    let same = exit_is residual.result c.in_err-read-2.field-0.0 residual.ensures.1 in
    rw same (stops_then g.R.Read c.in_err-read-2.field-0.0 _ _ _ c.more.invariant.moves
    (row_read g.R.Read _ _ _ _ _ _ c.in_err-read-2.ensures.reads))
