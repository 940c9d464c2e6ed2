use Rattle.std.proofs.Common.{rules, take, ◌≡◌, List, None, ℕ, sym, subst}
use Rattle.ciborium_ll_grammar.specs.Items.{AreItems}
use Rattle.ciborium_ll_decoder.specs.Decoding.{ReadsPast, spelling_of}
use Rattle.ciborium_ll_buffers.specs.contracts.buffered.BufferedReaderRead.TheImpl.{ghosts}
use Rattle.ciborium_ll_buffers.specs.Buffers.{buffered_read_ahead}
use Rattle.cbor_ahead.proofs.PassLaws.{front_taken, none_counted, none_waits, passes_items}
use Rattle.cbor_ahead.proofs.pass.pass_items.Goals as goal

pub returns-then-is_waiting-clause-reads : goal.returns-then-is_waiting-clause-reads
returns-then-is_waiting-clause-reads g c = none_counted _ c.args.depth c.args.decoder

pub returns-clause-reads : goal.returns-clause-reads
returns-clause-reads g c =
    let old = c.args.decoder in
    let len = c.whole_items-run.result.len in
    let count = c.whole_items-run.result.count in
    let ahead = c.buffer-ahead.result.now in
    let none : old.waiting ≡ None =
    none_waits old.waiting c.is_waiting.result c.is_waiting.ensures c.if-is_waiting.false in
    let spelling : c.spelling-spelling.result ≡ spelling_of old =
    rw c.offset-offset.ensures.same at c.spelling-spelling.ensures in
    let reader : old.reader ≡ c.into_inner-reader.result =
    sym (rw c.offset-offset.ensures.same at c.into_inner-reader.ensures) in
    let front_of_buffer = take len (buffered_read_ahead c.into_inner-reader.result) in
    let passed : ReadsPast (ghosts g.row.T g.T.Read g.T.Read-dict) old front_of_buffer c.with_spelling-passed.result =
    search rules in
    let front = front_taken len c.min-room.result ahead c.whole_items-run.ensures.within in
    let items = subst (λ (z : List ℕ). AreItems c.spelling-spelling.result c.args.depth count z) front
    c.whole_items-run.ensures.items in
    passes_items _ old c.with_spelling-passed.result c.args.depth count _ none
    (rw (spelling, c.buffer-ahead.ensures) at items) passed
