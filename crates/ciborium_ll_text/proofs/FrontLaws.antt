-- Longest fronts that are text, and the rests after them, which are stuck.
use Rattle.std.proofs.lemmas.Bool.Decides.{nat_tests}
use Rattle.std.specs.Str.{IsValidUpTo}
use Rattle.std.proofs.Common.{◌≡◌, ℕ, ◌≤◌, List, [], ◌∷◌, ◌++◌, length, take, drop, refl, sym, ap, subst, ◌∙◌, arith}
use Rattle.std.proofs.Common.{append_assoc, append-nil, length-append, length-take-le, IsTrue, nat_eq}
use Rattle.ciborium_ll_text.specs.Text.{IsCharacters, IsFront, IsStuck, BeginsNoText}
use Rattle.ciborium_ll_text.proofs.Lists.{length_zero}
use Rattle.ciborium_ll_text.proofs.TextLaws.{IsCharacters-append, IsCharacters-nil, front_of_valid}

-- The empty list is stuck.
pub IsStuck-nil : IsStuck []
IsStuck-nil [] rest e text = refl
IsStuck-nil (byte ∷ front) rest e text = cc

-- The rest after the longest front is stuck.
pub IsStuck-rest : (bytes front rest : List ℕ) → IsFront bytes front rest → IsStuck rest
IsStuck-rest bytes front rest f other more e text =
    let longer : bytes ≡ (front ++ other) ++ more = f.parts ∙ ap (λ (z : List ℕ). front ++ z) e
    ∙ sym (append_assoc front other more) in
    let least = f.longest (front ++ other) more longer (IsCharacters-append front other f.text text) in
    length_zero other (omega (arith, least, length-append front other))

-- Stuck bytes have an empty longest front.
pub IsFront-stuck : (bytes : List ℕ) → IsStuck bytes → IsFront (bytes ++ []) [] bytes
IsFront-stuck bytes stuck = grind (arith, nat_tests, append-nil, IsCharacters-nil)

-- The front that std finds is the longest front.
pub IsFront-valid : (bytes text : List ℕ) (n : ℕ) → text ≡ take n bytes → n ≤ length bytes → IsValidUpTo bytes n
    → IsFront bytes text (drop (length text) bytes)
IsFront-valid bytes text n e within valid =
    let counted : length text ≡ n = ap length e ∙ length-take-le n bytes within in
    subst (λ (z : List ℕ). IsFront bytes z (drop (length text) bytes)) (sym e)
    (subst (λ (k : ℕ). IsFront bytes (take n bytes) (drop k bytes)) (sym counted) (front_of_valid bytes n valid))

-- If no text begins with some bytes, no text begins with these bytes and more.
pub no_text_behind : (read more : List ℕ) → BeginsNoText read → BeginsNoText (read ++ more)
no_text_behind read more none = grind (arith, nat_tests, append_assoc)

-- ---- bytes that are text as a whole

-- Bytes are UTF-8 if they are as long as their longest front that is UTF-8.
front_whole : (bytes front rest : List ℕ) → IsFront bytes front rest → length front ≡ length bytes → IsCharacters bytes
front_whole bytes front rest f e = grind (arith, length_zero, length-append, append-nil)

whole_front : (bytes front rest : List ℕ) → IsFront bytes front rest → IsCharacters bytes → length front ≡ length bytes
whole_front bytes front rest f c =
    let l = f.longest bytes [] (sym (append-nil bytes)) c in
    omega (arith, l, ap (length {A = ℕ}) f.parts, length-append front rest)

same_told : (m n : ℕ) → IsTrue (nat_eq m n) → m ≡ n
same_told m n e = grind (arith, nat_tests)

told_same : (m n : ℕ) → m ≡ n → IsTrue (nat_eq m n)
told_same m n e = grind (arith, nat_tests)

-- The test of the lengths decides whether the bytes are UTF-8.
pub text_told : (bytes front rest : List ℕ) → IsFront bytes front rest
    → (IsTrue (nat_eq (length front) (length bytes)) → IsCharacters bytes)
    × (IsCharacters bytes → IsTrue (nat_eq (length front) (length bytes)))
text_told bytes front rest f = grind (arith, front_whole, same_told, told_same, whole_front)
