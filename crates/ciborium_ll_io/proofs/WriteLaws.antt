-- Laws of two writes, one after the other, and of the facts that a writer tells.
use Rattle.std.proofs.Common.{◌≡◌, ℕ, ◌+◌, ◌≤◌, ◌<◌, List, ◌++◌, length, Option, Some, Result, Ok, Err, IfSome, IsErr}
use Rattle.std.proofs.Common.{OnOk, OnErr, arith, length-append}
use Rattle.std.proofs.Math.Seq.{take-append-add}
use Rattle.std.proofs.lemmas.List.{take-append-le}
use Rattle.std.proofs.KnownBytes.{Appends-trans}
use Rattle.std.specs.Io.KnownBytes.{Appends}
use Rattle.ciborium_ll_io.specs.declared.io.Write.{Ghosts}
use Rattle.ciborium_ll_io.specs.Transfer.{Shrinks, AppendsFront}
use Rattle.ciborium_ll_io.specs.Writes.{WritesAll, WritesFront, WritesBytes}

pub Shrinks-zero : (room : Option ℕ) → Shrinks room room 0
Shrinks-zero room = grind arith

pub Shrinks-trans : (a b c : Option ℕ) (m n : ℕ) → Shrinks a b m → Shrinks b c n → Shrinks a c (m + n)
Shrinks-trans a b c m n p q = grind arith

-- A beginning of `xs` is a beginning of `xs ++ ys`.
pub AppendsFront-longer : (w w' : Option (List ℕ)) (r r' : Option ℕ) (xs ys : List ℕ) → AppendsFront w w' r r' xs
    → AppendsFront w w' r r' (xs ++ ys)
AppendsFront-longer w w' r r' xs ys f =
    let within : f.0 ≤ length xs = f.1.2 in
    (f.0, (rw take-append-le f.1.0, f.1.1, omega (arith, length-append xs ys)))

-- All of `xs` and then a beginning of `ys` make a beginning of `xs ++ ys`.
pub AppendsFront-after : (w w' w'' : Option (List ℕ)) (r r' r'' : Option ℕ) (xs ys : List ℕ) → Appends w w' xs
    → Shrinks r r' (length xs) → AppendsFront w' w'' r' r'' ys → AppendsFront w w'' r r'' (xs ++ ys)
AppendsFront-after w w' w'' r r' r'' xs ys p s f = (
  length xs + f.0,
  (
    rw take-append-add (Appends-trans w w' w'' xs _ p f.1.0),
    Shrinks-trans r r' r'' (length xs) f.0 s f.1.1,
    omega (arith, f.1.2, length-append xs ys),
  ),
)

-- If `xs` were appended, and then a beginning of `ys` by a write that failed, a beginning of `xs ++ ys` was appended.
pub front_after : {T F : Type 0} (w w' w'' : Option (List ℕ)) (r r' r'' : Option ℕ) (result : Result T F)
    (xs ys : List ℕ) → Appends w w' xs → Shrinks r r' (length xs) → OnErr result (AppendsFront w' w'' r' r'' ys)
    → OnErr result (AppendsFront w w'' r r'' (xs ++ ys))
front_after w w' w'' r r' r'' (Ok done) xs ys p s f = tt
front_after w w' w'' r r' r'' (Err fault) xs ys p s f = AppendsFront-after w w' w'' r r' r'' xs ys p s f

-- A room that is too small for `xs` is too small for `xs ++ ys`.
full_longer : (room : Option ℕ) (xs ys : List ℕ) → IfSome room (λ n. n < length xs)
    → IfSome room (λ n. n < length (xs ++ ys))
full_longer room xs ys full = grind (arith, length-append xs ys)

-- If the room after `xs` is too small for `ys`, the room before was too small for `xs ++ ys`.
full_after : (room room' : Option ℕ) (xs ys : List ℕ) → Shrinks room room' (length xs)
    → IfSome room' (λ n. n < length ys) → IfSome room (λ n. n < length (xs ++ ys))
full_after room room' xs ys shrunk full = grind (arith, length-append xs ys)

-- ---- bytes and room that are told

pub appends_told : (known known' : Option (List ℕ)) (written bytes : List ℕ) → known ≡ Some written
    → Appends known known' bytes → known' ≡ Some (written ++ bytes)
appends_told known known' written bytes e a = grind arith

pub shrinks_told : (room room' : Option ℕ) (n count : ℕ) → room ≡ Some n → Shrinks room room' count → (m : ℕ)
    × (room' ≡ Some m) × (n ≡ m + count)
shrinks_told room room' n count e s = grind arith

-- ---- writes

module _ {W F : Type 0} (sink : Ghosts W F) where
  -- A failed write of `xs` is a failed write of `xs ++ ys`.
  pub WritesBytes-stopped : {T : Type 0} (old new : W) (result : Result T F) (xs ys : List ℕ) → IsErr result
      → WritesFront sink old xs new → WritesBytes sink old result (xs ++ ys) new
  WritesBytes-stopped old new (Ok done) xs ys e f = absurd cc
  WritesBytes-stopped old new (Err fault) xs ys e f = record
      { front = AppendsFront-longer _ _ _ _ xs ys f.front; full = full_longer _ xs ys f.full; failures = f.failures }

  -- A write of all of `xs` and then a write of `ys` make a write of `xs ++ ys`.
  pub WritesBytes-then : {T : Type 0} (old mid new : W) (result : Result T F) (xs ys : List ℕ)
      → WritesAll sink old xs mid → WritesBytes sink mid result ys new → WritesBytes sink old result (xs ++ ys) new
  WritesBytes-then old mid new (Ok done) xs ys all next = record {
    appended = Appends-trans _ _ _ xs ys all.appended next.appended;
    room = rw length-append (Shrinks-trans _ _ _ (length xs) (length ys) all.room next.room);
    failures = cc (all.failures, next.failures);
  }
  WritesBytes-then old mid new (Err fault) xs ys all next = record {
    front = AppendsFront-after _ _ _ _ _ _ xs ys all.appended all.room next.front;
    full = full_after _ _ xs ys all.room next.full;
    failures = cc (all.failures, next.failures);
  }

  -- The six clauses of one write make `WritesBytes`.
  pub WritesBytes-of : {T : Type 0} (old new : W) (result : Result T F) (xs : List ℕ)
      → OnOk result (Appends (sink.written old) (sink.written new) xs)
      → OnOk result (Shrinks (sink.room old) (sink.room new) (length xs))
      → OnOk result (sink.failures new ≡ sink.failures old)
      → OnErr result (AppendsFront (sink.written old) (sink.written new) (sink.room old) (sink.room new) xs)
      → OnErr result (IfSome (sink.room old) (λ n. n < length xs))
      → OnErr result (sink.failures new ≡ sink.failures old + 1) → WritesBytes sink old result xs new
  WritesBytes-of old new (Ok done) xs bytes fills ok front full err =
      record { appended = bytes; room = fills; failures = ok }
  WritesBytes-of old new (Err fault) xs bytes fills ok front full err =
      record { front = front; full = full; failures = err }
