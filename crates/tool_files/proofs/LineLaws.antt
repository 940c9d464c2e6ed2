-- The text of lines, of which some were written and some wait.
use Rattle.std.proofs.Common.{◌≡◌, ℕ, ◌-◌, ◌≤◌, List, [], ◌++◌, Option, append_assoc, arith, drop, length, sym, subst, take}
use Rattle.std.proofs.Common.{◌+◌, ◌∙◌, ap, length-drop, length-take-le, take-append-drop, take-take}
use Rattle.std.proofs.lemmas.List.{drop-take, take-append-le, take_all}
use Rattle.std.specs.List.{copy_within}
use Rattle.std.specs.Io.KnownBytes.{Appends, Keeps, append_known}
use Rattle.std.specs.Prelude.{Result, Ok, Err, IsOk, OnOk}
use Rattle.ciborium_ll_buffers.proofs.BufferLaws.{append_known-sent, kept_Appends}

-- If a front of the bytes that wait is written, and the rest waits on, the text is the same.
pub front_sent : (a b : Option (List ℕ)) (bytes : List ℕ) (count len : ℕ) → count ≤ len
    → Appends a b (take count bytes) → Keeps (append_known a (take len bytes)) (append_known b (drop count (take len bytes)))
front_sent a b bytes count len within appended =
    let parts : take len bytes ≡ take count bytes ++ drop count (take len bytes) =
    rw (sym (take-take count len bytes within)) (sym (take-append-drop count (take len bytes))) in
    grind (arith, append_assoc, parts)

-- The bytes after a front are moved to its place.
pub rest_moved : (bytes : List ℕ) (count len : ℕ) → count ≤ len → len ≤ length bytes
    → take (len - count) (copy_within bytes count len 0) ≡ drop count (take len bytes)
rest_moved bytes count len within all =
    let rest = drop count bytes in
    let n = len - count in
    let whole : count + n ≡ len = omega (arith, within) in
    let fits : n ≤ length (take n rest) =
    omega (arith, length-take-le n rest (omega (arith, length-drop count bytes, all)), within) in
    take-append-le n (take n rest) (drop (0 + n) bytes) fits
    ∙ (take_all n (take n rest) (omega (arith, length-take-le n rest (omega (arith, length-drop count bytes, all))))
    ∙ (sym (drop-take count n bytes) ∙ ap (λ m. drop count (take m bytes)) whole))

-- If a call wrote a front of the bytes that wait, and the rest waits on, the text is the same.
pub sent : {A B C : Type 0} (result : Result A B) (written : Result A C) (a b text : Option (List ℕ)) (bytes : List ℕ)
    (count len : ℕ) → count ≤ len → OnOk result (IsOk written)
    → OnOk written (Appends a b (take count bytes)) → text ≡ append_known b (drop count (take len bytes))
    → OnOk result (Keeps (append_known a (take len bytes)) text)
sent (Ok x) (Ok y) a b text bytes count len within ok appended is =
    subst (Keeps _) (sym is) (front_sent a b bytes count len within appended)
sent (Ok x) (Err y) a b text bytes count len within ok appended is = absurd (cc)
sent (Err x) written a b text bytes count len within ok appended is = tt

-- If a call wrote a part after all bytes that waited, the part is appended to the text.
pub part_written : {A B C : Type 0} (result : Result A B) (written : Result A C) (a b text old : Option (List ℕ))
    (waiting part : List ℕ) → waiting ≡ [] → OnOk result (IsOk written) → OnOk written (Appends a b part)
    → Keeps old (append_known a waiting) → text ≡ append_known b waiting → OnOk result (Appends old text part)
part_written (Ok x) (Ok y) a b text old waiting part none ok appended kept is =
    subst (λ z. Appends old z part) (sym is)
    (kept_Appends old (append_known a waiting) (append_known b waiting) part kept
    (append_known-sent a b waiting part none appended))
part_written (Ok x) (Err y) a b text old waiting part none ok appended kept is = absurd (cc)
part_written (Err x) written a b text old waiting part none ok appended kept is = tt
