-- The bits of a float that is subnormal in half its width.
use Rattle.std.proofs.Common.{◌≡◌, ℕ, ◌+◌, ◌-◌, ◌*◌, ◌/◌, ◌%◌, ◌<◌, ◌≤◌, ◌^◌, refl, sym, ◌∙◌, ap, subst, arith}
use Rattle.std.proofs.lemmas.Nat.{pow_pos}
use Rattle.cbor_deterministic.specs.Floats.{Parts, half, single, double, parts, IsWidened, subnormal}
use Rattle.cbor_deterministic.proofs.FloatTests.{whole_of, same_parts, rest_fits}
use Rattle.cbor_deterministic.proofs.Exists.{power_fits}

-- A number of 23 bits after a sign is the mantissa of a float of 32 bits with exponent 0.
pub placed32 : (s q : ℕ) → q < 8388608
    → parts single (s * 2147483648 + q) ≡ record { sign = s; exponent = 0; mantissa = q }
placed32 s q l =
    let n : ℕ = s * 2147483648 + q in
    same_parts (n / 2147483648) s (n / 8388608 % 256) 0 (n % 8388608) q (omega arith) (omega arith) (omega arith)

pub placed16 : (s q : ℕ) → q < 1024 → parts half (s * 32768 + q) ≡ record { sign = s; exponent = 0; mantissa = q }
placed16 s q l =
    let n : ℕ = s * 32768 + q in
    same_parts (n / 32768) s (n / 1024 % 32) 0 (n % 1024) q (omega arith) (omega arith) (omega arith)

pub record Below (limit s : ℕ) (wide : Parts → Type 0) (q : ℕ) : Type 0 where
  pub fits : q < limit
  pub is : wide (record { sign = s; exponent = 0; mantissa = q })

-- A float of 64 bits that is subnormal in 32 bits, by its mantissa there.
pub narrow32 : (s x m : ℕ) → m < 2 ^ 52 → 874 ≤ x → x < 897 → m % 2 ^ (926 - x) ≡ 0
    → Below 8388608 s (λ a. IsWidened single double a (record { sign = s; exponent = x; mantissa = m }))
    (2 ^ (x - 874) + m / 2 ^ (926 - x))
narrow32 s x m u l h e =
    let zeros : 52 - (x - 874) ≡ 926 - x = omega arith in
    let r : ℕ = m / 2 ^ (926 - x) in
    let a : Parts = record { sign = s; exponent = 0; mantissa = 2 ^ (x - 874) + r } in
    let w : r * 2 ^ (926 - x) ≡ m = whole_of m (2 ^ (926 - x)) (pow_pos (926 - x)) e in
    let v : r * 2 ^ (52 - (x - 874)) ≡ m = ap (λ (z : ℕ). r * 2 ^ z) zeros ∙ w in
    let y : x - 874 + 1 + 896 - 23 ≡ x = omega arith in
    let f : m / 2 ^ (52 - (x - 874)) < 2 ^ (x - 874) = rest_fits m (x - 874) 52 (omega arith) u in
    let g : r < 2 ^ (x - 874) = subst (λ (z : ℕ). m / 2 ^ z < 2 ^ (x - 874)) zeros f in
    record {
      fits = power_fits (x - 874) r 23 (omega arith) g;
      is = subst (λ (b : Parts). IsWidened single double a b)
          (same_parts s s (x - 874 + 1 + 896 - 23) x (r * 2 ^ (52 - (x - 874))) m refl y v)
          (subnormal (omega arith) g);
    }

-- A float of 32 bits that is subnormal in 16 bits, by its mantissa there.
pub narrow16 : (s x m : ℕ) → m < 2 ^ 23 → 103 ≤ x → x < 113 → m % 2 ^ (126 - x) ≡ 0
    → Below 1024 s (λ a. IsWidened half single a (record { sign = s; exponent = x; mantissa = m }))
    (2 ^ (x - 103) + m / 2 ^ (126 - x))
narrow16 s x m u l h e =
    let zeros : 23 - (x - 103) ≡ 126 - x = omega arith in
    let r : ℕ = m / 2 ^ (126 - x) in
    let a : Parts = record { sign = s; exponent = 0; mantissa = 2 ^ (x - 103) + r } in
    let w : r * 2 ^ (126 - x) ≡ m = whole_of m (2 ^ (126 - x)) (pow_pos (126 - x)) e in
    let v : r * 2 ^ (23 - (x - 103)) ≡ m = ap (λ (z : ℕ). r * 2 ^ z) zeros ∙ w in
    let y : x - 103 + 1 + 112 - 10 ≡ x = omega arith in
    let f : m / 2 ^ (23 - (x - 103)) < 2 ^ (x - 103) = rest_fits m (x - 103) 23 (omega arith) u in
    let g : r < 2 ^ (x - 103) = subst (λ (z : ℕ). m / 2 ^ z < 2 ^ (x - 103)) zeros f in
    record {
      fits = power_fits (x - 103) r 10 (omega arith) g;
      is = subst (λ (b : Parts). IsWidened half single a b)
          (same_parts s s (x - 103 + 1 + 112 - 10) x (r * 2 ^ (23 - (x - 103))) m refl y v)
          (subnormal (omega arith) g);
    }

pub record Narrowed (limit n : ℕ) (narrow : Parts → Type 0) (p : ℕ → Parts) : Type 0 where
  pub fits : n < limit
  pub is : narrow (p n)

-- The sum in the code gives the bits of the float of 32 bits.
pub summed32 : (s x m : ℕ) → s < 2 → m < 2 ^ 52 → 874 ≤ x → x < 897 → m % 2 ^ (926 - x) ≡ 0 → (one zeros : ℕ)
    → one ≡ 2 ^ (x - 874) → zeros ≡ 2 ^ (926 - x)
    → Narrowed 4294967296 (s * 2147483648 + one + m / zeros)
    (λ a. IsWidened single double a (record { sign = s; exponent = x; mantissa = m })) (parts single)
summed32 s x m b u l h e one zeros p q =
    let w = narrow32 s x m u l h e in
    let k : 2 ^ (x - 874) + m / 2 ^ (926 - x) ≡ one + m / zeros = rw (p, q) refl in
    let f : one + m / zeros < 8388608 = subst (λ (z : ℕ). z < 8388608) k w.fits in
    let i = subst (λ (z : ℕ). IsWidened single double (record { sign = s; exponent = 0; mantissa = z })
    (record { sign = s; exponent = x; mantissa = m })) k w.is in
    let o : s * 2147483648 + (one + m / zeros) ≡ s * 2147483648 + one + m / zeros = omega arith in
    let j = subst (λ (z : Parts). IsWidened single double z (record { sign = s; exponent = x; mantissa = m }))
    (sym (placed32 s (one + m / zeros) f)) i in
    record {
      fits = omega arith;
      is = subst (λ (z : ℕ). IsWidened single double (parts single z)
          (record { sign = s; exponent = x; mantissa = m })) o j;
    }

pub summed16 : (s x m : ℕ) → s < 2 → m < 2 ^ 23 → 103 ≤ x → x < 113 → m % 2 ^ (126 - x) ≡ 0 → (one zeros : ℕ)
    → one ≡ 2 ^ (x - 103) → zeros ≡ 2 ^ (126 - x)
    → Narrowed 65536 (s * 32768 + one + m / zeros)
    (λ a. IsWidened half single a (record { sign = s; exponent = x; mantissa = m })) (parts half)
summed16 s x m b u l h e one zeros p q =
    let w = narrow16 s x m u l h e in
    let k : 2 ^ (x - 103) + m / 2 ^ (126 - x) ≡ one + m / zeros = rw (p, q) refl in
    let f : one + m / zeros < 1024 = subst (λ (z : ℕ). z < 1024) k w.fits in
    let i = subst (λ (z : ℕ). IsWidened half single (record { sign = s; exponent = 0; mantissa = z })
    (record { sign = s; exponent = x; mantissa = m })) k w.is in
    let o : s * 32768 + (one + m / zeros) ≡ s * 32768 + one + m / zeros = omega arith in
    let j = subst (λ (z : Parts). IsWidened half single z (record { sign = s; exponent = x; mantissa = m }))
    (sym (placed16 s (one + m / zeros) f)) i in
    record {
      fits = omega arith;
      is = subst (λ (z : ℕ). IsWidened half single (parts half z)
          (record { sign = s; exponent = x; mantissa = m })) o j;
    }
