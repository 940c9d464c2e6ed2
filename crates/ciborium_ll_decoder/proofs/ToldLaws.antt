-- The bytes that are left of told bytes after some of them are read.
use Rattle.std.proofs.Common.{◌≡◌, ℕ, ◌≤◌, List, ◌∷◌, ◌++◌, take, drop, Option, Some, sym, ap, arith}
use Rattle.std.specs.Io.KnownBytes.{Consumes}
use Rattle.ciborium_ll_decoder.specs.Decoding.{next_read}

pub consumes_told : (known known' : Option (List ℕ)) (due bytes : List ℕ) → known ≡ Some due
    → Consumes known known' bytes → (rest : List ℕ) × (known' ≡ Some rest) × (due ≡ bytes ++ rest)
consumes_told known known' due bytes e c = grind arith

-- A read inside a title asks for at most 8 bytes.
pub next_read_small : (read : List ℕ) → next_read read ≤ 8
next_read_small read = grind arith

-- After a read of the first byte, if there is one, the bytes after it are left.
pub first_gone : (rest read left : List ℕ) → rest ≡ read ++ left → read ≡ take 1 rest → left ≡ drop 1 rest
first_gone rest read left e f = grind arith

pub refused_byte : (rest left : List ℕ) (byte : ℕ) → rest ≡ byte ∷ left → left ≡ drop 1 rest
refused_byte rest left byte e = sym (ap (drop 1) e)
