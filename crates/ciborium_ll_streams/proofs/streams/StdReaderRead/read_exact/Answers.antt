use Rattle.std.proofs.Common.{◌≡◌, ℕ, ◌-◌, ◌<◌, List, Result, OnErr, length, length-append, take, drop, rules, subst}
use Rattle.std.proofs.Common.{take-append-drop, arith}
use Rattle.std.specs.declared.option.Option.{Option}
use Rattle.std.specs.Io.KnownBytes.{Consumes, Keeps}
use Rattle.std.proofs.KnownBytes.{Consumes-kept, Consumes-trans}
use Rattle.std.proofs.lemmas.List.{take_all}
use Rattle.std.proofs.lemmas.Slice.{take-put_mid_below}
use borrow.Rule.Slice.PartMut.{put_mid}
use Rattle.ciborium_ll_io.specs.Transfer.{ConsumesPart}
use Rattle.ciborium_ll_streams.proofs.FillLaws.{filled_more}
use Rattle.ciborium_ll_streams.proofs.streams.StdReaderRead.read_exact.Goals as goal

-- A reader that gave no byte kept its bytes.
none_read : (a b : Option (List ℕ)) (bs : List ℕ) (count : ℕ) → count ≡ 0 → Consumes a b (take count bs) → Keeps a b
none_read a b bs count none p = grind arith

-- If a read fails with only `n` bytes of `xs` filled, a beginning of `xs` was consumed, but not all of it.
filled_part : {X E : Type 0} (r : Result X E) (a b c : Option (List ℕ)) (n k : ℕ) (xs ys : List ℕ) → n < length xs
    → length ys ≡ length (take k (drop n xs)) → Consumes a b (take n xs) → Keeps b c
    → OnErr r (ConsumesPart a c (put_mid n k xs ys))
filled_part r a b c n k xs ys within size done kept =
    let front : take n (put_mid n k xs ys) ≡ take n xs = take-put_mid_below n k xs ys n (omega arith) (omega arith) in
    let same : length (put_mid n k xs ys) ≡ length xs =
    grind (arith, length-append {A = ℕ}, take-append-drop k (drop n xs), take-append-drop n xs) in
    let part : ConsumesPart a c (put_mid n k xs ys) =
    (n, rw front (Consumes-kept a b c (take n xs) done kept), omega arith) in
    grind arith

pub loop-filled-preserved : goal.loop-filled-preserved
loop-filled-preserved g c =
    let from = c.loop-filled.filled in
    let kept = c.loop-filled.invariant in
    let joined = filled_more from (length c.loop-filled.«data» - from) c.in-Ok.count c.loop-filled.«data»
    c.read.new.buf kept.within c.in-Ok.ensures.bound.0 in
    record {
      within = search rules;
      failures = search rules;
      bytes = subst (Consumes _ _) joined (Consumes-trans _ _ _ _ _ kept.bytes c.in-Ok.ensures.bytes.0);
      empty = search rules;
    }

pub returns-in-Ok-eq0-clause-part : goal.returns-in-Ok-eq0-clause-part
returns-in-Ok-eq0-clause-part g c =
    let none = none_read _ _ _ _ c.in-Ok-eq0.field-0-test c.in-Ok-eq0.ensures.bytes.0 in
    rw c.failed.ensures.same (filled_part _ _ _ _ _ _ _ _ c.loop-filled-test.true c.read.auto.buf
    c.loop-filled.invariant.bytes none)

pub returns-in-Err-clause-part : goal.returns-in-Err-clause-part
returns-in-Err-clause-part g c =
    rw c.failed-in-Err.ensures.same (filled_part _ _ _ _ _ _ _ _ c.loop-filled-test.true c.read.auto.buf
    c.loop-filled.invariant.bytes c.in-Err.ensures.bytes)

pub returns-clause-bytes : goal.returns-clause-bytes
returns-clause-bytes g c =
    subst (Consumes _ _) (take_all _ _ c.loop-filled-test.false) c.loop-filled.invariant.bytes
