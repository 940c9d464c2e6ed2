use Rattle.std.proofs.Common.{rules, ◌≡◌, ◌++◌, ◌∙◌, ◌≤◌, ◌+◌, ℕ, List, [], Ok, Err, Some, refl, sym, ap, arith, length, length-take-le, drop, take}
use Rattle.ciborium_ll_decoder.specs.declared.copy.RecodeError.TheVariants as r
use Rattle.ciborium_ll_decoder.proofs.BodyCopyLaws.{write_refused}
use Rattle.ciborium_ll_decoder.proofs.DecodingLaws.{exit_is}
use Rattle.ciborium_ll_grammar.specs.declared.spelling.Spelling.TheVariants.{Any}
use Rattle.cbor_copier.specs.declared.progress.Progress.TheVariants as p
use Rattle.cbor_copier.proofs.ReadLaws.{fresh_clear}
use Rattle.tool_lines.proofs.PromptLaws.{breaks, comes, held_first, held_long, held_next}
use Rattle.tool_lines.proofs.PromptLaws.{end_rest, kept_rest, only_more, piece_fits, piece_len, read_failed}
use Rattle.tool_lines.proofs.PromptLaws.{read_refused, whole_told}
use Rattle.std.proofs.Math.Seq.{drop-length, take-length}
use Rattle.tool_lines.proofs.prompt.copy_pieces.Goals as goal

pub pieces-init : goal.pieces-init
pieces-init g c = record {
  whole = search rules;
  room = search rules;
  few = omega arith;
  none = (fresh_clear Any c.args.count [] c.new-copier.result c.new-copier.ensures).1;
  held = λ due written tells all. held_first _ _ c.args.count due written c.new-copier.result c.args.reader.now
      c.args.writer.now.sink c.new-copier.ensures tells all;
}

pub slice_bounds-piece-end : goal.slice_bounds-piece-end
slice_bounds-piece-end g c = omega (arith, c.pieces.invariant.few, c.pieces.invariant.whole)

pub slice_bounds-feed-end : goal.slice_bounds-feed-end
slice_bounds-feed-end g c =
    sym (length-take-le c.pieces.given c.pieces.piece (omega (arith, c.pieces.invariant.few, c.pieces.invariant.whole)))

pub returns-in_err-map_err : goal.returns-in_err-map_err
returns-in_err-map_err g c = λ due written tells all.
    let failed = write_refused c.send.result c.map_err.result _ c.in_err-map_err.was (search rules) in
    let held = c.pieces.invariant.held due written tells all in
    let output = take c.feed-copied.result.written c.feed-copied.new.out in
    let fits = c.feed-copied.ensures.fits c.pieces.invariant.none
    (piece_fits c.pieces.given c.pieces.piece c.pieces.out c.pieces.invariant.few c.pieces.invariant.room) in
    let told = whole_told c.args.count _ _ c.feed-copied.result.progress
    ((c.feed-copied.ensures.read Any c.args.count held.fed held.given held.copied).1.tells) fits in
    rw (rw failed.2 at (exit_is _ _ c.from_residual.ensures.1))
    (breaks _ _ c.args.count due written held c.feed-copied.result.taken c.feed-copied.result.progress output told
    8192 c.send.new.writer.sink (piece_len c.pieces.given 8192 c.pieces.piece c.pieces.invariant.few)
    (rw failed.1 at (c.send.ensures.some (written ++ held.given) held.all)))

pub returns-in-Ended : goal.returns-in-Ended
returns-in-Ended g c = λ due written tells all.
    let held = c.pieces.invariant.held due written tells all in
    let output = take c.feed-copied.result.written c.feed-copied.new.out in
    let told = rw c.in-Ended.is at ((c.feed-copied.ensures.read Any c.args.count held.fed held.given held.copied).1.tells) in
    let sent : c.send.result ≡ Ok (tt {0}) = search rules in
    (comes _ _ c.args.count due written held c.feed-copied.result.taken p.Ended output told 8192 c.pieces.reader
    c.send.new.writer.sink (piece_len c.pieces.given 8192 c.pieces.piece c.pieces.invariant.few) held.tells
    (rw sent at (c.send.ensures.all (written ++ held.given) held.all))).0

pub returns-in-Syntax : goal.returns-in-Syntax
returns-in-Syntax g c = λ due written tells all.
    let held = c.pieces.invariant.held due written tells all in
    let output = take c.feed-copied.result.written c.feed-copied.new.out in
    let told = rw c.in-Syntax.is at ((c.feed-copied.ensures.read Any c.args.count held.fed held.given held.copied).1.tells) in
    let sent : c.send.result ≡ Ok (tt {0}) = search rules in
    (comes _ _ c.args.count due written held c.feed-copied.result.taken (p.Syntax c.in-Syntax.place) output told 8192
    c.pieces.reader c.send.new.writer.sink (piece_len c.pieces.given 8192 c.pieces.piece c.pieces.invariant.few)
    held.tells (rw sent at (c.send.ensures.all (written ++ held.given) held.all))).0

pub returns-in_err-given : goal.returns-in_err-given
returns-in_err-given g c = λ due written tells all.
    let failed = read_refused c.read_piece.result c.map_err-in-pieces.result _ c.in_err-given.was (search rules) in
    let held = c.pieces.invariant.held due written tells all in
    let piece = take c.pieces.given c.pieces.piece in
    let taken = c.feed-copied.result.taken in
    let output = take c.feed-copied.result.written c.feed-copied.new.out in
    let fits = c.feed-copied.ensures.fits c.pieces.invariant.none
    (piece_fits c.pieces.given c.pieces.piece c.pieces.out c.pieces.invariant.few c.pieces.invariant.room) in
    let is = only_more c.feed-copied.result.progress c.in-More.is fits in
    let told = rw is at ((c.feed-copied.ensures.read Any c.args.count held.fed held.given held.copied).1.tells) in
    let whole : taken ≡ length piece = c.feed-copied.ensures.all (rw is tt) in
    let sent : c.send.result ≡ Ok (tt {0}) = search rules in
    let keeps = rw failed.1 at c.read_piece.ensures.keeps in
    let known = kept_rest _ _ held.rest keeps held.tells in
    let come = comes _ _ c.args.count due written held taken p.More output told 8192 c.read_piece.new.reader
    c.send.new.writer.sink (piece_len c.pieces.given 8192 c.pieces.piece c.pieces.invariant.few) known
    (rw sent at (c.send.ensures.all (written ++ held.given) held.all)) in
    rw (rw failed.2 at (exit_is _ _ c.from_residual-in_err-given.ensures.1))
    (read_failed _ _ c.args.count due written 8192 failed.0 come.0
    (come.2 ∙ ap (λ (n : ℕ). drop n piece) whole ∙ drop-length piece)
    (λ end. come.3 ∙ end_rest _ held.rest (c.read_piece.ensures.end (failed.1 ∙ ap Err end)) known))

pub pieces-preserved : goal.pieces-preserved
pieces-preserved g c =
    let fits = c.feed-copied.ensures.fits c.pieces.invariant.none
    (piece_fits c.pieces.given c.pieces.piece c.pieces.out c.pieces.invariant.few c.pieces.invariant.room) in
    let is = only_more c.feed-copied.result.progress c.in-More.is fits in
    let piece = take c.pieces.given c.pieces.piece in
    let output = take c.feed-copied.result.written c.feed-copied.new.out in
    let read : c.read_piece.result ≡ Ok c.in_ok-given.given = search rules in
    let some = rw read at c.read_piece.ensures.some in
    record {
      whole = c.type_inv.piece;
      room = search rules;
      few = some.1;
      none = c.feed-copied.ensures.none fits;
      held = λ due written tells all.
          let held = c.pieces.invariant.held due written tells all in
          let whole : take c.feed-copied.result.taken piece ≡ piece =
          ap (λ (n : ℕ). take n piece) (c.feed-copied.ensures.all (rw is tt)) ∙ take-length piece in
          let told = rw is at ((c.feed-copied.ensures.read Any c.args.count held.fed held.given held.copied).1.tells) in
          let copied = (c.feed-copied.ensures.read Any c.args.count held.fed held.given held.copied).0 in
          let sent : c.send.result ≡ Ok (tt {0}) = search rules in
          held_next _ _ c.args.count due written held output (take c.in_ok-given.given c.read_piece.new.piece)
          c.feed-copied.new.self c.read_piece.new.reader c.send.new.writer.sink (rw whole at copied)
          (rw sent at (c.send.ensures.all (written ++ held.given) held.all)) (rw read at c.read_piece.ensures.bytes)
          (omega (
            arith,
            some.0,
            length-take-le c.in_ok-given.given c.read_piece.new.piece
                (omega (arith, some.1, c.type_inv.piece)),
          ))
          (rw whole at told);
    }

pub returns-after-pieces : goal.returns-after-pieces
returns-after-pieces g c = λ due written tells all.
    held_long _ _ c.args.count due written (c.pieces.invariant.held due written tells all) 8192
    (piece_len c.pieces.given 8192 c.pieces.piece c.pieces.invariant.few) (omega (arith, c.pieces-test.false))

pub returns-in-TooLong : goal.returns-in-TooLong
returns-in-TooLong g c = λ due written tells all.
    let held = c.pieces.invariant.held due written tells all in
    let output = take c.feed-copied.result.written c.feed-copied.new.out in
    let told = rw c.in-TooLong.is at ((c.feed-copied.ensures.read Any c.args.count held.fed held.given held.copied).1.tells) in
    let sent : c.send.result ≡ Ok (tt {0}) = search rules in
    let come = comes _ _ c.args.count due written held c.feed-copied.result.taken p.TooLong output told 8192
    c.pieces.reader c.send.new.writer.sink (piece_len c.pieces.given 8192 c.pieces.piece c.pieces.invariant.few)
    held.tells (rw sent at (c.send.ensures.all (written ++ held.given) held.all)) in
    (p.TooLong, come.0, omega (arith, told.2, ap length come.1))
