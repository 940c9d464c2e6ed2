use Rattle.std.proofs.Common.{length, [], refl, sym, ◌∙◌}
use Rattle.test_library.proofs.ReadyLaws.{ready_for_elements}
use Rattle.test_library.proofs.exactly.copies_elements.Goals as goal

pub returns : goal.returns
returns c =
    let due = c.args.bytes.now in
    let writer = c.from-encoder.result.writer in
    let output = c.from-encoder.ensures in
    let exact = c.recode.ensures.exactly _ due []
    (ready_for_elements _ _ c.args.count 8 (length c.args.space.now) c.new.result c.from-decoder.result writer due
    [] c.from-decoder.ensures refl c.new.ensures.ahead
    (rw (sym output) at c.new-2.ensures.written) (rw (sym output) at c.new-2.ensures.room) c.requires.room
    c.requires.fits c.requires.fits) in
    let told = c.is_ok.ensures.value in
    (λ held. exact.just.0 (sym told ∙ held), λ copy. told ∙ exact.just.1 copy)
