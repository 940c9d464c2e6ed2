-- Rows of bodies that were held.
use Rattle.std.proofs.Common.{◌≡◌, ℕ, ◌+◌, ◌-◌, ◌≤◌, List, [], ◌∷◌, ◌++◌, length, take, Option, Some, None, sym, arith}
use Rattle.std.proofs.Common.{append_assoc, drop}
use Rattle.std.proofs.Math.Nat.{add-sub_cancel_left}
use Rattle.std.proofs.Math.Seq.{take-add}
use Rattle.std.proofs.lemmas.Bool.Decides.{nat_tests}
use Rattle.std.proofs.lemmas.List.{append-nil, length-take-le}
use Rattle.cbor_dump.specs.declared.rows.Meaning.TheVariants as m
use Rattle.cbor_dump.specs.declared.rows.Within.TheVariants as w
use Rattle.cbor_dump.specs.Dumps.{Draws}
use Rattle.cbor_dump.specs.Levels.{Line}
use Rattle.tool_files.specs.Embeds.{HandsOn, more, none}

-- The line of some bytes of a body.
abbrev pub body_line : ℕ → ℕ → List ℕ → Line
body_line level offset bytes =
    record { level = level; offset = offset; bytes = bytes; meaning = m.Bytes; within = w.Nothing }

draws_none : (rows : Option (List Line)) → Draws rows rows []
draws_none None = tt
draws_none (Some lines) = sym (append-nil lines)

draws_more : (old middle new : Option (List Line)) (first second : List Line) → Draws old middle first
    → Draws middle new second → Draws old new (first ++ second)
draws_more old middle new first second p q = grind (arith, nat_tests, append_assoc)

-- Before the first row nothing was handed on.
pub hands_none : (level offset : ℕ) (rows : Option (List Line)) → HandsOn level offset rows rows []
hands_none level offset rows = record { lines = []; drawn = draws_none rows; are = none }

-- One row more hands on its bytes too.
hands_more : (level offset : ℕ) (old middle new : Option (List Line)) (front bytes whole : List ℕ)
    → HandsOn level offset old middle front
    → Draws middle new (body_line level (offset + length front) bytes ∷ []) → whole ≡ front ++ bytes
    → HandsOn level offset old new whole
hands_more level offset old middle new front bytes whole p q is =
    let line = body_line level (offset + length front) bytes ∷ [] in
    record {
      lines = p.lines ++ line;
      drawn = draws_more old middle new p.lines line p.drawn q;
      are = rw is (more bytes p.are);
    }

-- The row has the next bytes of a body.
pub hands_next : (level offset : ℕ) (old middle new : Option (List Line)) (at count : ℕ) (whole : List ℕ)
    → at ≤ length whole → HandsOn level offset old middle (take at whole)
    → Draws middle new (body_line level (offset + at) (take ((at + count) - at) (drop at whole)) ∷ [])
    → HandsOn level offset old new (take (at + count) whole)
hands_next level offset old middle new at count whole within p q =
    hands_more level offset old middle new (take at whole) (take count (drop at whole)) (take (at + count) whole) p
    (rw (length-take-le at whole within) (rw (add-sub_cancel_left at count) at q)) (take-add at count whole)
