use Rattle.std.proofs.Common.{List, ℕ, [], ◌∷◌, ◌++◌, Option, Result, Ok, Err, OnOk}
use Rattle.std.specs.Io.KnownBytes.{Appends}
use Rattle.std.proofs.KnownBytes.{Appends-trans}
use Rattle.ciborium_ll_io.proofs.WriteLaws.{front_after}
use Rattle.ciborium_ll_io.proofs.io.Write.write_pair.Goals as goal

-- If `xs` were appended, and then `ys` by a write that succeeded, `xs ++ ys` were appended.
bytes_after : {T F : Type 0} (w w' w'' : Option (List ℕ)) (result : Result T F) (xs ys : List ℕ) → Appends w w' xs
    → OnOk result (Appends w' w'' ys) → OnOk result (Appends w w'' (xs ++ ys))
bytes_after w w' w'' (Ok done) xs ys first second = Appends-trans w w' w'' xs ys first second
bytes_after w w' w'' (Err fault) xs ys first second = tt

pub returns-clause-bytes : goal.returns-clause-bytes
returns-clause-bytes g c =
    bytes_after _ _ _ c.write_all-2.result (c.args.first ∷ []) c.args.rest.now c.in_ok-write_all.ensures.bytes
    c.write_all-2.ensures.bytes

pub returns-clause-front : goal.returns-clause-front
returns-clause-front g c =
    front_after _ _ _ _ _ _ c.write_all-2.result (c.args.first ∷ []) c.args.rest.now c.in_ok-write_all.ensures.bytes
    c.in_ok-write_all.ensures.fills c.write_all-2.ensures.front
