-- A front of bytes, and the place of a fault, by the rest of the bytes.
use Rattle.std.proofs.Common.{◌≡◌, ℕ, List, ◌-◌, ◌∙◌, ap, arith, length, length-append, take}
use Rattle.std.proofs.Math.Seq.{take-append_seam}
use Rattle.cbor_deterministic.specs.declared.Why.{Why}
use Rattle.cbor_deterministic.specs.Fronts.{InFront, NoneInFront}

-- A front of the rest gives a front of the bytes, with the same bytes after it. A fault of the rest gives a fault of
-- the bytes.
pub record Leads (P : List ℕ → Type 0) (S : List ℕ → Why → ℕ → Type 0) (bytes : List ℕ) (Q : List ℕ → Type 0)
    (T : List ℕ → Why → ℕ → Type 0) (rest : List ℕ) : Type 0 where
  pub there : (more : List ℕ) → InFront Q rest more → InFront P bytes more
  pub stops : (why : Why) (left : ℕ) → T rest why left → S bytes why left

-- If all bytes of the first kind are of the second kind, a front of the first kind is one of the second kind.
pub map_front : (P Q : List ℕ → Type 0) (bytes rest : List ℕ) → ((w : List ℕ) → P w → Q w) → InFront P bytes rest
    → InFront Q bytes rest
map_front P Q bytes rest f i = record { front = i.front; is = f i.front i.is; whole = i.whole }

pub map_none : (P Q : List ℕ → Type 0) (bytes : List ℕ) → ((w : List ℕ) → Q w → P w) → NoneInFront P bytes
    → NoneInFront Q bytes
map_none P Q bytes f none rest i = none rest (map_front Q P bytes rest f i)

-- The length of a front is the difference of the lengths of the bytes and of the rest.
pub front_is : (P : List ℕ → Type 0) (rest behind : List ℕ) (f : InFront P rest behind)
    → take (length rest - length behind) rest ≡ f.front
front_is P rest behind f =
    let l : length rest - length behind ≡ length f.front =
    omega (arith, ap length f.whole, length-append f.front behind) in
    ap (λ (n : ℕ). take n rest) l ∙ ap (λ (z : List ℕ). take (length f.front) z) f.whole
    ∙ take-append_seam f.front behind
