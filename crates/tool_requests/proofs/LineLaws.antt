-- The bytes that lie within one line.
use Rattle.std.proofs.Common.{◌≡◌, ◌≢◌, ◌<◌, ◌≤◌, ◌==◌, ℕ, List, [], ◌∷◌, length, take, Bool, false, not, refl, arith}
use Rattle.std.proofs.Common.{length-take}
use Rattle.std.specs.List.{AllWithin}
use Rattle.std.proofs.lemmas.List.{get_or-take}
use Rattle.tool_requests.specs.Line.{IsOneLine, line_feed}

-- The bytes before the first line feed lie within one line.
pub one_line : (bytes : List ℕ) (n : ℕ) → n ≤ length bytes → AllWithin (λ byte. byte ≢ line_feed) bytes 0 n
    → IsOneLine (take n bytes)
one_line bytes n within before = λ k d below.
    let near : k < n = omega (arith, length-take n bytes) in
    rw (get_or-take n bytes k d near) (before k d (omega arith) near)

-- A list that is found to be empty has no byte.
pub none_held : (items : List ℕ) (size : ℕ) (empty : Bool) → size ≡ length items → empty ≡ (size == 0)
    → not empty ≡ false → items ≡ []
none_held [] size empty counted is nothing = refl
none_held (byte ∷ rest) size empty counted is nothing = grind (arith)
