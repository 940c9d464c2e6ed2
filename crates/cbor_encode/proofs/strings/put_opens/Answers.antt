use Rattle.std.proofs.Common.{rules, ◌≡◌, refl, arith}
use Rattle.ciborium_ll_grammar.specs.declared.spelling.Spelling.TheVariants.{Any}
use Rattle.ciborium_ll_grammar.proofs.SpellingLaws.{any_allowed}
use Rattle.cbor_encode.proofs.StringLaws.{chunks_open}
use Rattle.cbor_encode.specs.Scalars.{kind_of}
use Rattle.cbor_encode.proofs.strings.put_opens.Goals as goal

pub opens-preserved : goal.opens-preserved
opens-preserved c =
    let loose : c.args.spelling ≡ Any = any_allowed c.args.spelling (search rules) in
    record {
      within = omega arith;
      some = omega arith;
      counted = omega (arith, c.if-take_word.ensures.shorter refl);
      chunks = chunks_open c.args.spelling (kind_of c.args.is_text) c.opens.opens c.opens.strings.items
          c.put_chunk.new.out.items loose c.opens.invariant.some
          (rw c.string_header-open.ensures at c.in_ok-put_chunk.ensures.wrote) c.opens.invariant.chunks;
    }
