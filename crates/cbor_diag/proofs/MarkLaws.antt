-- Headers that are pulled with the marks of their titles.
use Rattle.std.proofs.Common.{◌≡◌, ℕ, ◌-◌, Bool, true, List, ◌++◌, codes, decimal, length, arith, refl}
use Rattle.ciborium_ll.specs.Types.Read.{Ghosts}
use Rattle.ciborium_ll.specs.Types.Decoder.{Decoder}
use Rattle.ciborium_ll.specs.Types.Header.{Header}
use Rattle.ciborium_ll.specs.Decoding.{PullsTitle}
use Rattle.cbor_diag.specs.declared.marks.Mark.{Mark}
use Rattle.cbor_diag.specs.Marks.{PullsMarked, is_marked, mark_text, title_mark}
use Rattle.cbor_diag.specs.Notation.{simple_notation}

-- The offset rises by the length of the title, so the mark is that of the title.
pub marked_is : {R E : Type 0} (source : Ghosts R E) (exact : Bool) (old pulled new : Decoder R) (header : Header)
    (mark : Mark) (start stop : ℕ) → PullsTitle source old header pulled → new ≡ pulled → start ≡ old.offset
    → stop ≡ pulled.offset → mark ≡ title_mark exact header (stop - start)
    → PullsMarked source exact old (record { header = header; mark = mark }) new
marked_is source exact old pulled new header mark start stop title same begins ends is =
    let len : stop - start ≡ length title.title = omega (arith, begins, ends, title.offset) in
    rw same (record { pulled = title; mark = rw len at is })

-- A simple value with a mark is shown by its number.
pub simple_marked : (number : ℕ) (mark : Mark) (digits text : List ℕ) → is_marked mark ≡ true → digits ≡ decimal number
    → text ≡ mark_text mark
    → ((codes "simple(" ++ digits) ++ text) ++ codes ")" ≡ simple_notation number mark
simple_marked number mark digits text is same marks = rw (is, same, marks) refl
