-- Floats written in a smaller width.
use Rattle.std.proofs.Common.{◌≡◌, ℕ, ◌<◌, ◌^◌, refl, subst}
use Rattle.ciborium_ll_grammar.specs.declared.hdr.Float.{Float}
use Rattle.ciborium_ll_grammar.specs.declared.hdr.Float.TheVariants as f
use Rattle.cbor_deterministic.specs.Floats.{half, single, double, parts, IsWidened, HasNarrower, IsFloatOf, double_of}
use Rattle.cbor_deterministic.specs.Floats.{single_of, half_of}
use Rattle.cbor_canonical.specs.Narrowing.{IsNarrowestOf}

half_go : (n m : ℕ) → n < 2 ^ 32 → IsWidened half single (parts half m) (parts single n) → (x : Float) → x ≡ f.Single n
    → (bits : ℕ) → IsFloatOf x bits → IsFloatOf (f.Half m) bits
half_go n m u i x e bits (double_of r) = absurd cc
half_go n m u i x e bits (single_of {n = k} r v) =
    let g : k ≡ n = cc in
    half_of n u i r (subst (λ (z : ℕ). IsWidened single double (parts single z) (parts double bits)) g v)
half_go n m u i x e bits (half_of b r v q t) = absurd cc

-- A float of 16 bits is the narrowest form of the float of 32 bits that is the same.
pub half_narrowest : (n m : ℕ) → n < 2 ^ 32 → IsWidened half single (parts half m) (parts single n)
    → IsNarrowestOf (f.Single n) (f.Half m)
half_narrowest n m u i = record {
  not_wide = λ w. w;
  same = λ bits x. half_go n m u i (f.Single n) refl bits x;
}

-- A float of 32 bits is its own narrowest form if no smaller width holds it.
pub single_narrowest : (n : ℕ) → (HasNarrower half single (parts single n) → ⊥)
    → IsNarrowestOf (f.Single n) (f.Single n)
single_narrowest n q = record { not_wide = q; same = λ bits x. x }

single_go : (n m : ℕ) → IsWidened single double (parts single m) (parts double n) → (x : Float) → x ≡ f.Double n
    → (bits : ℕ) → IsFloatOf x bits → IsFloatOf (f.Single m) bits
single_go n m i x e bits (double_of r) =
    let g : n ≡ bits = cc in
    single_of r (subst (λ (z : ℕ). IsWidened single double (parts single m) (parts double z)) g i)
single_go n m i x e bits (single_of r v) = absurd cc
single_go n m i x e bits (half_of b r v q t) = absurd cc

-- The narrowest form of a float of 64 bits is that of the float of 32 bits that is the same.
pub double_narrowest : (n m : ℕ) (narrow : Float) → IsWidened single double (parts single m) (parts double n)
    → IsNarrowestOf (f.Single m) narrow → IsNarrowestOf (f.Double n) narrow
double_narrowest n m narrow i s = record {
  not_wide = s.not_wide;
  same = λ bits x. s.same bits (single_go n m i (f.Double n) refl bits x);
}
