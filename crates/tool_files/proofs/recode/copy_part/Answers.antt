use Rattle.std.proofs.Common.{rules, ◌≡◌, Some, length, arith, ◌∙◌}
use Rattle.std.specs.Io.Chain.{chain_remaining}
use Rattle.ciborium_ll_grammar.specs.declared.spelling.Spelling.TheVariants.{Any}
use Rattle.tool_files.specs.Recodes.{copies_none, copies_rest}
use Rattle.tool_files.proofs.PartLaws.{bytes_then, few_bytes, few_items, items_then}
use Rattle.tool_files.proofs.recode.copy_part.Goals as goal

pub returns-in-Err : goal.returns-in-Err
returns-in-Err g c = λ due written tells all.
    let stops = c.in-Err.ensures.skipped in
    let left = few_bytes _ Any c.new.result c.args.options.skip c.args.options.depth c.from-decoder.result
    c.from-decoder.ensures 512 c.in-Err.error c.skip_items.new.decoder stops due (c.new.ensures.ahead ∙ tells) in
    copies_none stops.before stops.items left.0 stops.more
    (few_items _ Any c.new.result c.args.options.skip c.args.options.depth c.from-decoder.result
    c.from-decoder.ensures 512 c.in-Err.error c.skip_items.new.decoder stops) left.1 (search rules) all

pub returns : goal.returns
returns g c = λ due written tells all.
    let reads = c.in_default.ensures.skipped in
    let left = bytes_then _ Any c.new.result c.args.options.skip c.args.options.depth c.from-decoder.result
    c.from-decoder.ensures c.skip_items.new.decoder reads due (c.new.ensures.ahead ∙ tells) in
    let rest : chain_remaining (λ s. Some s.now) g.R.Read.remaining c.chain.result ≡ Some left.0 = grind (
      arith,
      left.1,
      c.chain.ensures.bytes,
      c.into_parts-source.ensures.held,
      c.into_parts-source.ensures.source,
      c.into_inner-2.ensures,
      c.offset-start.ensures.same,
    ) in
    let from : c.offset-start.result ≡ length reads.items =
    omega (arith, c.offset-start.ensures.value, reads.passed.offset, c.from-decoder.ensures.offset) in
    copies_rest reads.items left.0 c.copy_items-writer.result.2 c.copy_items-writer.result.0
    (items_then _ Any c.new.result c.args.options.skip c.args.options.depth c.from-decoder.result
    c.from-decoder.ensures c.skip_items.new.decoder reads) left.2
    (c.copy_items-writer.ensures.copies left.0 written rest all)
    (rw from at c.moved.ensures)
