use Rattle.std.proofs.Common.{◌≡◌, ℕ, ◌+◌, ◌++◌, ap, subst, sym, suc, ◌∙◌, refl, inr, le_refl, arith}
use Rattle.ciborium_ll.specs.Decoding.{PullsTitle, spelling_of}
use Rattle.ciborium_ll.proofs.DecodingLaws.{exit_is, IfSome-all, ReadsPast-then}
use Rattle.ciborium_ll.specs.Types.Header.{Header}
use Rattle.ciborium_ll.specs.Types.Error.TheVariants.{Syntax}
use Rattle.ciborium_ll.specs.Items.{IsTakenTitle}
use Rattle.ciborium_ll.specs.Title.{IsTitle}
use Rattle.ciborium_ll.proofs.NestLaws.{title_some}
use Rattle.cbor_dump.specs.Endings.{ending_of}
use Rattle.cbor_dump.specs.Levels.{Meant, Refused, title_level}
use Rattle.cbor_dump.specs.Takings.{taken_bytes}
use Rattle.cbor_dump.specs.StringRows.{kind_of}
use Rattle.cbor_dump.proofs.DumpLaws.{not_taken, title_fault, title_row}
use Rattle.cbor_dump.proofs.StringLaws.{taken_all}
use Rattle.cbor_dump.proofs.LeaveLaws.{dump_then, reads_on, reads_then, refused_stops, says_stops, stops_then}
use Rattle.cbor_dump.proofs.RowLaws.{row_few}
use Rattle.cbor_dump.proofs.PullLaws.{passes_idle, passes_alike}
use Rattle.cbor_dump.proofs.PieceLaws.{alike_here, passed_row, within_no_title, within_other, within_body}
use Rattle.cbor_dump.proofs.PieceLaws.{within_break, within_ends, within_fails, within_fault, within_first}
use Rattle.cbor_dump.proofs.PieceLaws.{within_open, within_title}
use Rattle.cbor_dump.proofs.PieceLaws.{within_piece, within_whole, piece_due, piece_offset, only_break, break_level}
use Rattle.cbor_dump.proofs.PieceLaws.{level_fits, comes_nearer, level_some}
use Rattle.cbor_dump.proofs.strings.pieces.Goals as goal

pub parts-init : goal.parts-init
parts-init g c = record {
  within = λ depth start nests items title stands p level at.
      within_first g.R.Read c.args.spelling depth start _ nests items title (kind_of c.args.kind) _ _ p
      (omega
      (arith, level));
  moves = reads_on g.R.Read c.args.decoder.now;
  above = omega arith;
  below = let behind = c.requires.behind in omega (arith, behind);
}

pub returns-in-Err : goal.returns-in-Err
returns-in-Err g c = record {
  shows = λ depth start nests items title stands p level at all.
      let so_far = c.parts.invariant.within depth start nests items title stands p level at in
      let row = taken_bytes c.read_title.new.self in
      let takes = taken_all g.R.Read _ row _ _ c.new-taken.ensures
      (rw c.offset-place.ensures.same at c.read_title.ensures.keeps) in
      let place = c.offset-place.ensures.value in
      record {
        bytes = so_far.bytes ++ row;
        shows = within_fails g.R.Read stands so_far at c.in-Err.error c.fault.result _ row c.offset-place.result _ c.fault.ensures.says all takes place
            (c.fault.ensures.draws all)
            (title_row c.args.spelling (kind_of c.args.kind) (suc so_far.opens) c.in-Err.error row
            (rw c.in-Err.is at c.read_title.ensures.row)) (row_few c.read_title.new.self)
            (title_fault c.args.spelling c.in-Err.error row (rw c.in-Err.is at c.read_title.ensures.row))
            (rw (c.offset-place.ensures.same, c.in-Err.is) at c.read_title.ensures.left);
        whole = tt;
        passed = λ alike. tt;
        stops = λ alike.
            let fails = (rw (c.offset-place.ensures.same, c.in-Err.is) at c.read_title.ensures.pulls)
            (alike_here g.R.Read stands so_far at alike) place in
            within_no_title g.R.Read stands so_far at p c.in-Err.error _ fails c.fault.result c.fault.ensures.says
            alike;
      };
  refused = λ depth start nests items title stands p level at all.
      let so_far = c.parts.invariant.within depth start nests items title stands p level at in
      let row = taken_bytes c.read_title.new.self in
      let takes = taken_all g.R.Read _ row _ _ c.new-taken.ensures
      (rw c.offset-place.ensures.same at c.read_title.ensures.keeps) in
      let but = c.fault.ensures.refused all in
      record {
        row = but.row;
        how = ending_of c.args.spelling c.in-Err.error;
        bytes = so_far.bytes ++ row;
        shows = within_fault g.R.Read stands so_far at c.in-Err.error _ row c.offset-place.result _ takes
            c.offset-place.ensures.value but.draws
            (title_row c.args.spelling (kind_of c.args.kind) (suc so_far.opens) c.in-Err.error row
            (rw c.in-Err.is at c.read_title.ensures.row)) (row_few c.read_title.new.self)
            (title_fault c.args.spelling c.in-Err.error row (rw c.in-Err.is at c.read_title.ensures.row))
            (rw (c.offset-place.ensures.same, c.in-Err.is) at c.read_title.ensures.left);
      };
  moves = says_stops g.R.Read c.in-Err.error c.fault.result _ _ c.fault.ensures.says
      (stops_then g.R.Read c.in-Err.error _ _ _ c.parts.invariant.moves
      (rw (c.offset-place.ensures.same, c.in-Err.is) at c.read_title.ensures.moves));
}

pub returns-in-Other : goal.returns-in-Other
returns-in-Other g c = record {
  shows = λ depth start nests items title stands p level at all.
      let so_far = c.parts.invariant.within depth start nests items title stands p level at in
      let row = taken_bytes c.read_title.new.self in
      let takes = taken_all g.R.Read _ row _ _ c.new-taken.ensures
      (rw c.offset-place.ensures.same at c.read_title.ensures.keeps) in
      let place = c.offset-place.ensures.value in
      record {
        bytes = so_far.bytes ++ row;
        shows = within_fails g.R.Read stands so_far at (Syntax c.offset-place.result) c.fault-in-Other.result _ row c.offset-place.result _
            c.fault-in-Other.ensures.says all takes place (c.fault-in-Other.ensures.draws all)
            (λ any. inr (omega arith, (c.in-Ok.header, c.in-Ok.ensures.title, c.in-Other.ensures)))
            (row_few c.read_title.new.self) (title_some row c.in-Ok.header c.in-Ok.ensures.title)
            (λ idle. IfSome-all _ _ (λ any. tt));
        whole = tt;
        passed = λ alike. tt;
        stops = λ alike.
            let pulls = (rw c.offset-place.ensures.same at c.in-Ok.ensures.pulls)
            (alike_here g.R.Read stands so_far at alike) place in
            within_other g.R.Read stands so_far at p c.in-Ok.header c.offset-place.result _ pulls.0 c.in-Other.ensures place
            c.fault-in-Other.result c.fault-in-Other.ensures.says alike;
      };
  refused = λ depth start nests items title stands p level at all.
      let so_far = c.parts.invariant.within depth start nests items title stands p level at in
      let row = taken_bytes c.read_title.new.self in
      let takes = taken_all g.R.Read _ row _ _ c.new-taken.ensures
      (rw c.offset-place.ensures.same at c.read_title.ensures.keeps) in
      let but = c.fault-in-Other.ensures.refused all in
      record {
        row = but.row;
        how = Refused c.args.spelling;
        bytes = so_far.bytes ++ row;
        shows = within_fault g.R.Read stands so_far at (Syntax c.offset-place.result) _ row c.offset-place.result _
            takes c.offset-place.ensures.value but.draws
            (λ any. inr (omega arith, (c.in-Ok.header, c.in-Ok.ensures.title, c.in-Other.ensures)))
            (row_few c.read_title.new.self) (title_some row c.in-Ok.header c.in-Ok.ensures.title)
            (λ idle. IfSome-all _ _ (λ any. tt));
      };
  moves = says_stops g.R.Read (Syntax c.offset-place.result) c.fault-in-Other.result _ _ c.fault-in-Other.ensures.says
      (reads_then g.R.Read _ _ _ c.parts.invariant.moves
      (rw c.offset-place.ensures.same at c.in-Ok.ensures.moves));
}

pub returns-in_err-shown : goal.returns-in_err-shown
returns-in_err-shown g c =
    let error = c.in_err-shown.field-0.0 in
    let same = exit_is c.from_residual.result error c.from_residual.ensures.1 in
    rw same (record {
      shows = λ depth start nests items title stands p level at all.
          absurd (not_taken error c.in_err-shown.ensures.refusal all);
      refused = λ depth start nests items title stands p level at all.
          let so_far = c.parts.invariant.within depth start nests items title stands p level at in
          let row = taken_bytes c.read_title.new.self in
          let takes = taken_all g.R.Read _ row _ _ c.new-taken.ensures
          (rw c.offset-place.ensures.same at c.read_title.ensures.keeps) in
          let but = c.in_err-shown.ensures.refused c.in_err-shown.ensures.refusal in
          record {
            row = but.row;
            how = Meant;
            bytes = so_far.bytes ++ row;
            shows = within_title g.R.Read stands so_far at
                _ row c.in-Ok.header c.offset-place.result c.title_level-at.result _ takes
                c.offset-place.ensures.value c.in-Ok.ensures.title
                (c.title_level-at.ensures nests so_far.opens so_far.level) but.draws;
          };
      moves = refused_stops g.R.Read error _ _ c.in_err-shown.ensures.refusal
          (reads_then g.R.Read _ _ _ c.parts.invariant.moves
          (rw c.offset-place.ensures.same at c.in-Ok.ensures.moves));
    })

pub returns-in_err-body-in-Piece : goal.returns-in_err-body-in-Piece
returns-in_err-body-in-Piece g c =
    let error = c.in_err-body-in-Piece.field-0.0 in
    let same = exit_is c.from_residual-in_err-body-in-Piece.result error c.from_residual-in_err-body-in-Piece.ensures.1 in
    rw same (record {
      shows = λ depth start nests items title stands p level at all.
          let so_far = c.parts.invariant.within depth start nests items title stands p level at in
          let row = taken_bytes c.read_title.new.self in
          let takes = taken_all g.R.Read _ row _ _ c.new-taken.ensures
          (rw c.offset-place.ensures.same at c.read_title.ensures.keeps) in
          let place = c.offset-place.ensures.value in
          let titled : IsTitle row c.in-Ok.header = c.in-Ok.ensures.title in
          let is = c.in-Piece.ensures in
          let title_row = subst (λ (x : Header). IsTitle row x) is titled in
          let inner = so_far.level in
          let due = piece_due g.R.Read stands so_far at in
          let rest = (c.in_err-body-in-Piece.ensures.shows depth start (suc so_far.opens) nests (items ++ so_far.parts) row
          c.args.spelling due
          title_row (ap (λ (n : ℕ). n + 1) inner) (piece_offset g.R.Read stands so_far at row _ takes) all).behind in
          let first = within_title g.R.Read stands so_far at
          _ row c.in-Ok.header c.offset-place.result c.title_level-at.result _ takes place titled
          (c.title_level-at.ensures nests so_far.opens inner) (c.in_ok-shown.ensures.draws tt) in
          record {
            bytes = so_far.bytes ++ (row ++ rest.bytes);
            shows = within_piece g.R.Read stands so_far at _ _ row rest.bytes _ _ first rest.shows;
            whole = tt;
            passed = λ alike. tt;
            stops = λ alike.
                let here = alike_here g.R.Read stands so_far at alike in
                let went = (rw c.offset-place.ensures.same at c.in-Ok.ensures.passes) here.none_waits in
                let pulls = (rw c.offset-place.ensures.same at c.in-Ok.ensures.pulls) here place in
                let pulled = subst (λ (x : Header). PullsTitle g.R.Read c.parts.decoder x c.read_title.new.decoder) is
                pulls.0 in
                within_body g.R.Read stands so_far at p c.in-Piece.len _ _ _ pulled pulls.1 error
                (rest.stops (passes_alike g.R.Read c.args.spelling _ _ row went here)) place alike;
          };
      refused = λ depth start nests items title stands p level at all.
          let so_far = c.parts.invariant.within depth start nests items title stands p level at in
          let row = taken_bytes c.read_title.new.self in
          let takes = taken_all g.R.Read _ row _ _ c.new-taken.ensures
          (rw c.offset-place.ensures.same at c.read_title.ensures.keeps) in
          let titled : IsTitle row c.in-Ok.header = c.in-Ok.ensures.title in
          let title_row = subst (λ (x : Header). IsTitle row x) c.in-Piece.ensures titled in
          let inner = so_far.level in
          let rest = c.in_err-body-in-Piece.ensures.refused depth start (suc so_far.opens) nests (items ++ so_far.parts)
          row (piece_due g.R.Read stands so_far at) title_row (ap (λ (n : ℕ). n + 1) inner)
          (piece_offset g.R.Read stands so_far at row _ takes) all in
          let first = within_title g.R.Read stands so_far at
          _ row c.in-Ok.header c.offset-place.result c.title_level-at.result _ takes c.offset-place.ensures.value titled
          (c.title_level-at.ensures nests so_far.opens inner) (c.in_ok-shown.ensures.draws tt) in
          record {
            row = rest.row;
            how = rest.how;
            bytes = so_far.bytes ++ (row ++ rest.bytes);
            shows = within_piece g.R.Read stands so_far at _ _ row rest.bytes _ _ first rest.shows;
          };
      moves = dump_then g.R.Read error _ _ _ (reads_then g.R.Read _ _ _ c.parts.invariant.moves
          (rw c.offset-place.ensures.same at c.in-Ok.ensures.moves)) c.in_err-body-in-Piece.ensures.moves;
    })

pub parts-preserved-in-Continue-branch-2 : goal.parts-preserved-in-Continue-branch-2
parts-preserved-in-Continue-branch-2 g c = record {
  within = λ depth start nests items title stands p level at.
      let so_far = c.parts.invariant.within depth start nests items title stands p level at in
      let row = taken_bytes c.read_title.new.self in
      let takes = taken_all g.R.Read _ row _ _ c.new-taken.ensures
      (rw c.offset-place.ensures.same at c.read_title.ensures.keeps) in
      let place = c.offset-place.ensures.value in
      let titled : IsTitle row c.in-Ok.header = c.in-Ok.ensures.title in
      let is = c.in-Piece.ensures in
      let title_row = subst (λ (x : Header). IsTitle row x) is titled in
      let taken : IsTakenTitle c.args.spelling row c.in-Ok.header = c.in-Ok.ensures.taken in
      let taken_row = subst (λ (x : Header). IsTakenTitle c.args.spelling row x) is taken in
      let inner = so_far.level in
      let due = piece_due g.R.Read stands so_far at in
      let rest = (c.in_ok-body-in-Piece.ensures.shows depth start (suc so_far.opens) nests
      (items ++ so_far.parts) row (spelling_of c.read_title.new.decoder) due title_row (ap (λ (n : ℕ). n + 1) inner)
      (piece_offset
      g.R.Read stands so_far at row _ takes) tt).behind in
      let went = rw c.offset-place.ensures.same at c.in-Ok.ensures.passes in
      let first = within_title g.R.Read stands so_far at
      _ row c.in-Ok.header c.offset-place.result c.title_level-at.result _ takes place titled
      (c.title_level-at.ensures nests so_far.opens inner) (c.in_ok-shown.ensures.draws tt) in
      let shows = within_piece g.R.Read stands so_far at _ _ row rest.bytes _ _ first rest.shows in
      within_whole g.R.Read stands so_far at
      _ row rest.bytes c.in-Piece.len _ title_row taken_row rest.whole.0 rest.whole.1
      (λ idle. let titled = went idle in
      ReadsPast-then g.R.Read _ _ _ row rest.bytes titled
      (rest.passed (record { none_waits = passes_idle g.R.Read _ _ row titled idle; mode = refl }))) shows;
  moves = reads_then g.R.Read _ _ _ (reads_then g.R.Read _ _ _ c.parts.invariant.moves
      (rw c.offset-place.ensures.same at c.in-Ok.ensures.moves)) c.in_ok-body-in-Piece.ensures.moves;
  above = c.parts.invariant.above;
  below =
      let row = taken_bytes c.read_title.new.self in
      let takes = taken_all g.R.Read _ row _ _ c.new-taken.ensures
      (rw c.offset-place.ensures.same at c.read_title.ensures.keeps) in
      let moved = takes.offset in
      let rises = c.body.ensures.rises in
      let inner = c.parts.invariant.below in
      omega (arith, inner, moved, rises);
}

pub parts-preserved-in-Open : goal.parts-preserved-in-Open
parts-preserved-in-Open g c = record {
  within = λ depth start nests items title stands p level at.
      let so_far = c.parts.invariant.within depth start nests items title stands p level at in
      let row = taken_bytes c.read_title.new.self in
      let takes = taken_all g.R.Read _ row _ _ c.new-taken.ensures
      (rw c.offset-place.ensures.same at c.read_title.ensures.keeps) in
      let place = c.offset-place.ensures.value in
      let titled : IsTitle row c.in-Ok.header = c.in-Ok.ensures.title in
      let title_row = subst (λ (x : Header). IsTitle row x) c.in-Open.ensures.0 titled in
      let went = rw c.offset-place.ensures.same at c.in-Ok.ensures.passes in
      let first = within_title g.R.Read stands so_far at
      _ row c.in-Ok.header c.offset-place.result c.title_level-at.result _ takes place titled
      (c.title_level-at.ensures nests so_far.opens so_far.level) (c.in_ok-shown.ensures.draws tt) in
      within_open g.R.Read stands so_far at
      _ row _ c.in-Open.ensures.1 went title_row first;
  moves = reads_then g.R.Read _ _ _ c.parts.invariant.moves
      (rw c.offset-place.ensures.same at c.in-Ok.ensures.moves);
  above = let inner = c.parts.invariant.above in omega (arith, inner);
  below =
      let row = taken_bytes c.read_title.new.self in
      let takes = taken_all g.R.Read _ row _ _ c.new-taken.ensures
      (rw c.offset-place.ensures.same at c.read_title.ensures.keeps) in
      let moved = takes.offset in
      let some = title_some row c.in-Ok.header c.in-Ok.ensures.title in
      let inner = c.parts.invariant.below in
      omega (arith, inner, moved, some);
}

pub returns-then-at-level : goal.returns-then-at-level
returns-then-at-level g c = record {
  shows = λ depth start nests items title stands p level at all.
      let so_far = c.parts.invariant.within depth start nests items title stands p level at in
      let row = taken_bytes c.read_title.new.self in
      let takes = taken_all g.R.Read _ row _ _ c.new-taken.ensures
      (rw c.offset-place.ensures.same at c.read_title.ensures.keeps) in
      let place = c.offset-place.ensures.value in
      let titled : IsTitle row c.in-Ok.header = c.in-Ok.ensures.title in
      let is = only_break c.args.spelling (kind_of c.args.kind) c.in-Ok.header c.part_of-part.result
      c.part_of-part.ensures c.in_default-part.not-Piece c.in_default-part.not-Open c.in_default.not-Other in
      let title_row = subst (λ (x : Header). IsTitle row x) is titled in
      let higher = c.title_level-at.ensures nests so_far.opens so_far.level in
      let same = subst (λ (x : Header). c.title_level-at.result ≡ title_level x nests (suc so_far.opens)) is higher in
      let went = rw c.offset-place.ensures.same at c.in-Ok.ensures.passes in
      record {
        bytes = so_far.bytes ++ row;
        shows = within_title g.R.Read stands so_far at
            _ row c.in-Ok.header c.offset-place.result c.title_level-at.result _ takes place titled higher
            (c.in_ok-shown.ensures.draws tt);
        whole = within_ends g.R.Read stands so_far at
            row c.title_level-at.result p title_row same (c.if-at-level.true ∙ level);
        passed = λ alike. passed_row g.R.Read stands so_far at row _ went alike.none_waits;
        stops = λ alike. tt;
      };
  refused = λ depth start nests items title stands p level at never. absurd never;
  moves = reads_then g.R.Read _ _ _ c.parts.invariant.moves
      (rw c.offset-place.ensures.same at c.in-Ok.ensures.moves);
}

pub parts-preserved : goal.parts-preserved
parts-preserved g c = record {
  within = λ depth start nests items title stands p level at.
      let so_far = c.parts.invariant.within depth start nests items title stands p level at in
      let row = taken_bytes c.read_title.new.self in
      let takes = taken_all g.R.Read _ row _ _ c.new-taken.ensures
      (rw c.offset-place.ensures.same at c.read_title.ensures.keeps) in
      let place = c.offset-place.ensures.value in
      let titled : IsTitle row c.in-Ok.header = c.in-Ok.ensures.title in
      let is = only_break c.args.spelling (kind_of c.args.kind) c.in-Ok.header c.part_of-part.result
      c.part_of-part.ensures c.in_default-part.not-Piece c.in_default-part.not-Open c.in_default.not-Other in
      let title_row = subst (λ (x : Header). IsTitle row x) is titled in
      let higher = c.title_level-at.ensures nests so_far.opens so_far.level in
      let same = subst (λ (x : Header). c.title_level-at.result ≡ title_level x nests (suc so_far.opens)) is higher in
      let went = rw c.offset-place.ensures.same at c.in-Ok.ensures.passes in
      let first = within_title g.R.Read stands so_far at
      _ row c.in-Ok.header c.offset-place.result c.title_level-at.result _ takes place titled higher
      (c.in_ok-shown.ensures.draws tt) in
      within_break g.R.Read stands so_far at
      _ row c.title_level-at.result _ went title_row same (λ e. c.if-at-level.false (e ∙ sym level)) first;
  moves = reads_then g.R.Read _ _ _ c.parts.invariant.moves
      (rw c.offset-place.ensures.same at c.in-Ok.ensures.moves);
  above =
      let is = only_break c.args.spelling (kind_of c.args.kind) c.in-Ok.header c.part_of-part.result
      c.part_of-part.ensures c.in_default-part.not-Piece c.in_default-part.not-Open c.in_default.not-Other in
      let inner = c.parts.invariant.above in
      let at = break_level c.in-Ok.header c.parts.inner c.title_level-at.result is (omega (arith, inner))
      c.title_level-at.ensures in
      let other : c.title_level-at.result ≡ c.args.level → ⊥ = c.if-at-level.false in
      omega (arith, at, inner, other);
  below =
      let row = taken_bytes c.read_title.new.self in
      let takes = taken_all g.R.Read _ row _ _ c.new-taken.ensures
      (rw c.offset-place.ensures.same at c.read_title.ensures.keeps) in
      let moved = takes.offset in
      let is = only_break c.args.spelling (kind_of c.args.kind) c.in-Ok.header c.part_of-part.result
      c.part_of-part.ensures c.in_default-part.not-Piece c.in_default-part.not-Open c.in_default.not-Other in
      let above = c.parts.invariant.above in
      let inner = c.parts.invariant.below in
      let at = break_level c.in-Ok.header c.parts.inner c.title_level-at.result is (omega (arith, above))
      c.title_level-at.ensures in
      omega (arith, inner, moved, at);
}

pub overflow_add-inner : goal.overflow_add-inner
overflow_add-inner g c = let few = c.requires.few in omega (arith, few)

pub read_title-requires : goal.read_title-requires
read_title-requires g c = record { none = c.new-taken.ensures }

pub title_level-at-requires : goal.title_level-at-requires
title_level-at-requires g c = record { some = level_some _ _ c.parts.invariant.above }

pub overflow_add-inner-in-Piece : goal.overflow_add-inner-in-Piece
overflow_add-inner-in-Piece g c =
    let row = taken_bytes c.read_title.new.self in
    let takes = taken_all g.R.Read _ row _ _ c.new-taken.ensures
    (rw c.offset-place.ensures.same at c.read_title.ensures.keeps) in
    let some = title_some row c.in-Ok.header c.in-Ok.ensures.title in
    level_fits _ _ _ _ _ c.parts.invariant.below takes.offset some c.read_title.new.decoder.covered

pub parts-smaller-in-Continue-branch-2 : goal.parts-smaller-in-Continue-branch-2
parts-smaller-in-Continue-branch-2 g c =
    let row = taken_bytes c.read_title.new.self in
    let takes = taken_all g.R.Read _ row _ _ c.new-taken.ensures
    (rw c.offset-place.ensures.same at c.read_title.ensures.keeps) in
    let some = title_some row c.in-Ok.header c.in-Ok.ensures.title in
    comes_nearer _ _ _ _ _ takes.offset some c.body.ensures.rises c.body.new.decoder.covered

pub overflow_add-inner-in-Open : goal.overflow_add-inner-in-Open
overflow_add-inner-in-Open g c =
    let row = taken_bytes c.read_title.new.self in
    let takes = taken_all g.R.Read _ row _ _ c.new-taken.ensures
    (rw c.offset-place.ensures.same at c.read_title.ensures.keeps) in
    let some = title_some row c.in-Ok.header c.in-Ok.ensures.title in
    level_fits _ _ _ _ _ c.parts.invariant.below takes.offset some c.read_title.new.decoder.covered

pub parts-smaller-in-Open : goal.parts-smaller-in-Open
parts-smaller-in-Open g c =
    let row = taken_bytes c.read_title.new.self in
    let takes = taken_all g.R.Read _ row _ _ c.new-taken.ensures
    (rw c.offset-place.ensures.same at c.read_title.ensures.keeps) in
    let some = title_some row c.in-Ok.header c.in-Ok.ensures.title in
    comes_nearer _ _ _ _ _ takes.offset some (le_refl _) c.read_title.new.decoder.covered

pub parts-smaller : goal.parts-smaller
parts-smaller g c =
    let row = taken_bytes c.read_title.new.self in
    let takes = taken_all g.R.Read _ row _ _ c.new-taken.ensures
    (rw c.offset-place.ensures.same at c.read_title.ensures.keeps) in
    let some = title_some row c.in-Ok.header c.in-Ok.ensures.title in
    comes_nearer _ _ _ _ _ takes.offset some (le_refl _) c.read_title.new.decoder.covered
