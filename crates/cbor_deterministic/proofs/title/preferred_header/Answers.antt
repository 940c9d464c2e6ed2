use Rattle.std.proofs.Common.{sym, ◌∙◌}
use Rattle.cbor_deterministic.proofs.TitleRuns.{told, untold, refused_fails, never_fails, small_fails, loose_fails}
use Rattle.cbor_deterministic.proofs.TitleRuns.{wide_fails}
use Rattle.cbor_deterministic.proofs.TitleRuns.{indefinite_fails, preferred_parts}
use Rattle.cbor_deterministic.proofs.title.preferred_header.Goals as goal

pub returns-in_default : goal.returns-in_default
returns-in_default c = λ rest. refused_fails c.args.bytes.now rest c.in_default.ensures.none

pub returns-in_default-header : goal.returns-in_default-header
returns-in_default-header c = λ rest.
    never_fails c.in-Some.title c.args.bytes.now rest c.in-Some.ensures.parts c.in-Some.ensures.bytes
    c.in_default-header.ensures.none.0 c.in_default-header.ensures.none.1

pub returns-then-is_small_simple : goal.returns-then-is_small_simple
returns-then-is_small_simple c = λ rest.
    small_fails c.in-Some.title c.args.bytes.now rest c.in-Some.ensures.parts c.in-Some.ensures.bytes
    c.in-Some-header.header c.in-Some-header.ensures.some
    (told c.is_small_simple.result c.if-is_small_simple.true c.is_small_simple.ensures)

pub returns-else-is_small_simple : goal.returns-else-is_small_simple
returns-else-is_small_simple c = λ rest.
    loose_fails c.in-Some.title c.args.bytes.now rest c.in-Some.ensures.parts c.in-Some.ensures.bytes
    c.in-Some-header.header c.in-Some-header.ensures.some (sym c.is_refused_when_strict.ensures ∙ c.if-is_refused_when_strict.true)
    (untold c.is_small_simple.result c.if-is_small_simple.false c.is_small_simple.ensures)

pub returns-then-is_wide : goal.returns-then-is_wide
returns-then-is_wide c = λ rest.
    wide_fails c.in-Some.title c.args.bytes.now rest c.in-Some.ensures.parts c.in-Some.ensures.bytes
    c.in-Some-header.header c.in-Some-header.ensures.some
    (told c.is_wide.result c.if-is_wide.true c.is_wide.ensures)

pub returns-then-is_indefinite : goal.returns-then-is_indefinite
returns-then-is_indefinite c = λ rest.
    indefinite_fails c.in-Some.title c.args.bytes.now rest c.in-Some.ensures.parts c.in-Some.ensures.bytes
    c.in-Some-header.header c.in-Some-header.ensures.some
    (told c.is_indefinite.result c.if-is_indefinite.true c.is_indefinite.ensures)

pub returns : goal.returns
returns c =
    preferred_parts c.in-Some.title c.args.bytes.now c.args.bytes.now c.in-Some.ensures.parts c.in-Some.ensures.bytes
    c.in-Some-header.header c.in-Some-header.ensures.some (sym c.is_refused_when_strict.ensures ∙ c.if-is_refused_when_strict.false)
    (untold c.is_wide.result c.if-is_wide.false c.is_wide.ensures)
    (untold c.is_indefinite.result c.if-is_indefinite.false c.is_indefinite.ensures)
