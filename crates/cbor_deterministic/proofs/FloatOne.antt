-- Each float is exactly one float of the next width.
use Rattle.std.proofs.Common.{◌≡◌, ℕ, zero, suc, ◌+◌, ◌-◌, ◌*◌, ◌/◌, ◌<◌, ◌≤◌, ◌^◌, refl, sym, ◌∙◌, ap, subst, arith}
use Rattle.std.proofs.Common.{Bool, true, false, nat_lt}
use Rattle.std.proofs.lemmas.Bool.Decides.{nat_tests}
use Rattle.std.proofs.lemmas.Nat.{pow_pos, pow_below, pow-add}
use Rattle.std.proofs.lemmas.Grind.{pow_more}
use Rattle.std.proofs.Math.Nat.{mul-div_cancel}
use Rattle.cbor_deterministic.specs.Floats.{Parts, half, single, double, parts, IsWidened, zero_float, normal, special}
use Rattle.cbor_deterministic.specs.Floats.{subnormal}
use Rattle.cbor_deterministic.proofs.FloatTests.{same_parts}

-- ---- the first 1 of a number

pub record Leading (n : ℕ) : Type 0 where
  pub p : ℕ
  pub r : ℕ
  pub is : n ≡ 2 ^ p + r
  pub rest : r < 2 ^ p

next_leading : (n : ℕ) (l : Leading n) (b : Bool) → nat_lt (l.r + 1) (2 ^ l.p) ≡ b → Leading (suc n)
next_leading n l true e = record {
  p = l.p;
  r = l.r + 1;
  is = let i = l.is in omega arith;
  rest = grind (arith, nat_tests);
}
next_leading n l false e =
    let full : l.r + 1 ≡ 2 ^ l.p = let h = l.rest in grind (arith, nat_tests) in
    let twice : 2 ^ (l.p + 1) ≡ 2 ^ l.p * 2 = pow_more 2 l.p in
    record {
      p = l.p + 1;
      r = 0;
      is = let i = l.is in omega (arith, full, twice);
      rest = pow_pos (l.p + 1);
    }

pub leading : (n : ℕ) → 0 < n → Leading n
leading zero l = absurd (omega arith)
leading (suc zero) l = record { p = 0; r = 0; is = refl; rest = omega arith }
leading (suc (suc n)) l =
    let k = leading (suc n) (omega arith) in
    next_leading (suc n) k (nat_lt (k.r + 1) (2 ^ k.p)) refl

-- A number whose first 1 is at bit p is less than 2 ^ q, if p < q.
no_less : (p q r s : ℕ) → p < q → r < 2 ^ p → 2 ^ p + r ≡ 2 ^ q + s → ⊥
no_less p q r s l h e =
    let more : 2 ^ (p + 1) ≡ 2 ^ p * 2 = pow_more 2 p in
    let split : 2 ^ (p + 1 + (q - (p + 1))) ≡ 2 ^ (p + 1) * 2 ^ (q - (p + 1)) = pow-add 2 (p + 1) (q - (p + 1)) in
    let is : p + 1 + (q - (p + 1)) ≡ q = omega arith in
    let whole : 2 ^ q ≡ 2 ^ (p + 1) * 2 ^ (q - (p + 1)) = ap (λ (z : ℕ). 2 ^ z) (sym is) ∙ split in
    let some = pow_pos (q - (p + 1)) in
    let least = grow (2 ^ (p + 1)) (2 ^ (q - (p + 1))) some in
    omega (arith, more, whole, least)
  where
    grow : (a b : ℕ) → 0 < b → a ≤ a * b
    grow a zero l = absurd (omega arith)
    grow a (suc b) l = omega arith

pub one_leading : (p q r s : ℕ) → r < 2 ^ p → s < 2 ^ q → 2 ^ p + r ≡ 2 ^ q + s → (p ≡ q) × (r ≡ s)
one_leading p q r s h g e = go (nat_lt p q) (nat_lt q p) refl refl
  where
    same : p ≡ q → (p ≡ q) × (r ≡ s)
    same i = (i, let j = ap (λ (z : ℕ). 2 ^ z) i in omega arith)

    go : (a b : Bool) → nat_lt p q ≡ a → nat_lt q p ≡ b → (p ≡ q) × (r ≡ s)
    go true b x y = absurd (no_less p q r s (grind (arith, nat_tests)) h e)
    go false true x y = absurd (no_less q p s r (grind (arith, nat_tests)) g (sym e))
    go false false x y = same (grind (arith, nat_tests))

-- ---- 16 bits in 32

-- The first 1 of a number that is less than 2 ^ k stands below bit k.
small : (m p r k : ℕ) → m ≡ 2 ^ p + r → m < 2 ^ k → p < k
small m p r k i h = go (nat_lt p k) (nat_lt k p) refl refl
  where
    go : (a b : Bool) → nat_lt p k ≡ a → nat_lt k p ≡ b → p < k
    go true b x y = grind (arith, nat_tests)
    go false true x y =
        let l : k < p = grind (arith, nat_tests) in
        let q = pow_below k p l in absurd (omega arith)
    go false false x y =
        let e : k ≡ p = grind (arith, nat_tests) in
        let q = ap (λ (z : ℕ). 2 ^ z) e in absurd (omega arith)

pub record Widened16 (a : Parts) : Type 0 where
  pub b : Parts
  pub is : IsWidened half single a b
  pub sign : b.sign ≡ a.sign
  pub exponent : b.exponent < 256
  pub mantissa : b.mantissa < 2 ^ 23

fits_behind : (r p k : ℕ) → p ≤ k → r < 2 ^ p → r * 2 ^ (k - p) < 2 ^ k
fits_behind r p k l h =
    let e : p + (k - p) ≡ k = omega arith in
    let q : 2 ^ p * 2 ^ (k - p) ≡ 2 ^ k = sym (pow-add 2 p (k - p)) ∙ ap (λ (z : ℕ). 2 ^ z) e in
    let some = pow_pos (k - p) in
    subst (λ (z : ℕ). r * 2 ^ (k - p) < z) q (mul_below r (2 ^ p) (2 ^ (k - p)) some h)
  where
    mul_below : (a b c : ℕ) → 0 < c → a < b → a * c < b * c
    mul_below a b zero l h = absurd (omega arith)
    mul_below a b (suc c) l h = let i = less c in omega arith
      where
        less : (n : ℕ) → a * n ≤ b * n
        less zero = omega arith
        less (suc n) = let j = less n in omega arith

pub widened16 : (s e m : ℕ) → e < 32 → m < 2 ^ 10 → Widened16 (record { sign = s; exponent = e; mantissa = m })
widened16 s e m l h = go (nat_lt e 31) (nat_lt 0 e) (nat_lt 0 m) refl refl refl
  where
    go : (x y z : Bool) → nat_lt e 31 ≡ x → nat_lt 0 e ≡ y → nat_lt 0 m ≡ z
        → Widened16 (record { sign = s; exponent = e; mantissa = m })
    go false y z u v w =
        let is : e ≡ 31 = grind (arith, nat_tests) in
        subst (λ (n : ℕ). Widened16 (record { sign = s; exponent = n; mantissa = m })) (sym is) (record {
          b = record { sign = s; exponent = 255; mantissa = m * 2 ^ 13 };
          is = special h;
          sign = refl;
          exponent = omega arith;
          mantissa = omega arith;
        })
    go true true z u v w =
        let lo : 0 < e = grind (arith, nat_tests) in
        let hi : e < 31 = grind (arith, nat_tests) in
        record {
          b = record { sign = s; exponent = e + 112; mantissa = m * 2 ^ 13 };
          is = normal lo hi h;
          sign = refl;
          exponent = omega arith;
          mantissa = omega arith;
        }
    go true false false u v w =
        let x : e ≡ 0 = grind (arith, nat_tests) in
        let y : m ≡ 0 = grind (arith, nat_tests) in
        subst (λ (n : ℕ). Widened16 (record { sign = s; exponent = n; mantissa = m })) (sym x)
        (subst (λ (n : ℕ). Widened16 (record { sign = s; exponent = 0; mantissa = n })) (sym y) (record {
          b = record { sign = s; exponent = 0; mantissa = 0 };
          is = zero_float;
          sign = refl;
          exponent = omega arith;
          mantissa = omega arith;
        }))
    go true false true u v w =
        let x : e ≡ 0 = grind (arith, nat_tests) in
        let some : 0 < m = grind (arith, nat_tests) in
        let k = leading m some in
        let n = k.is in
        let low : k.p < 10 = small m k.p k.r 10 n h in
        subst (λ (n : ℕ). Widened16 (record { sign = s; exponent = n; mantissa = m })) (sym x)
        (subst (λ (n : ℕ). Widened16 (record { sign = s; exponent = 0; mantissa = n })) (sym k.is) (record {
          b = record { sign = s; exponent = k.p + 1 + 112 - 10; mantissa = k.r * 2 ^ (23 - k.p) };
          is = subnormal low k.rest;
          sign = refl;
          exponent = omega arith;
          mantissa = fits_behind k.r k.p 23 (omega arith) k.rest;
        }))

-- ---- 32 bits in 64

pub record Widened32 (a : Parts) : Type 0 where
  pub b : Parts
  pub is : IsWidened single double a b
  pub sign : b.sign ≡ a.sign
  pub exponent : b.exponent < 2048
  pub mantissa : b.mantissa < 2 ^ 52

pub widened32 : (s e m : ℕ) → e < 256 → m < 2 ^ 23 → Widened32 (record { sign = s; exponent = e; mantissa = m })
widened32 s e m l h = go (nat_lt e 255) (nat_lt 0 e) (nat_lt 0 m) refl refl refl
  where
    go : (x y z : Bool) → nat_lt e 255 ≡ x → nat_lt 0 e ≡ y → nat_lt 0 m ≡ z
        → Widened32 (record { sign = s; exponent = e; mantissa = m })
    go false y z u v w =
        let is : e ≡ 255 = grind (arith, nat_tests) in
        subst (λ (n : ℕ). Widened32 (record { sign = s; exponent = n; mantissa = m })) (sym is) (record {
          b = record { sign = s; exponent = 2047; mantissa = m * 2 ^ 29 };
          is = special h;
          sign = refl;
          exponent = omega arith;
          mantissa = omega arith;
        })
    go true true z u v w =
        let lo : 0 < e = grind (arith, nat_tests) in
        let hi : e < 255 = grind (arith, nat_tests) in
        record {
          b = record { sign = s; exponent = e + 896; mantissa = m * 2 ^ 29 };
          is = normal lo hi h;
          sign = refl;
          exponent = omega arith;
          mantissa = omega arith;
        }
    go true false false u v w =
        let x : e ≡ 0 = grind (arith, nat_tests) in
        let y : m ≡ 0 = grind (arith, nat_tests) in
        subst (λ (n : ℕ). Widened32 (record { sign = s; exponent = n; mantissa = m })) (sym x)
        (subst (λ (n : ℕ). Widened32 (record { sign = s; exponent = 0; mantissa = n })) (sym y) (record {
          b = record { sign = s; exponent = 0; mantissa = 0 };
          is = zero_float;
          sign = refl;
          exponent = omega arith;
          mantissa = omega arith;
        }))
    go true false true u v w =
        let x : e ≡ 0 = grind (arith, nat_tests) in
        let some : 0 < m = grind (arith, nat_tests) in
        let k = leading m some in
        let n = k.is in
        let low : k.p < 23 = small m k.p k.r 23 n h in
        subst (λ (n : ℕ). Widened32 (record { sign = s; exponent = n; mantissa = m })) (sym x)
        (subst (λ (n : ℕ). Widened32 (record { sign = s; exponent = 0; mantissa = n })) (sym k.is) (record {
          b = record { sign = s; exponent = k.p + 1 + 896 - 23; mantissa = k.r * 2 ^ (52 - k.p) };
          is = subnormal low k.rest;
          sign = refl;
          exponent = omega arith;
          mantissa = fits_behind k.r k.p 52 (omega arith) k.rest;
        }))

-- ---- only one float

cancel : (a b c : ℕ) → 0 < c → a * c ≡ b * c → a ≡ b
cancel a b c l e = sym (mul-div_cancel a l) ∙ ap (λ (z : ℕ). z / c) e ∙ mul-div_cancel b l

-- Only one float of 16 bits is a given float of 32 bits.
one_half_go : (a a' b b' : Parts) → IsWidened half single a b → IsWidened half single a' b' → b.sign ≡ b'.sign
    → b.exponent ≡ b'.exponent
    → b.mantissa ≡ b'.mantissa → a ≡ a'
one_half_go a a' b b' (zero_float {s = s}) (zero_float {s = s'}) f g j = same_parts s s' 0 0 0 0 f refl refl
one_half_go a a' b b' (zero_float {s = s}) (normal {s = s'} {e = e'} {m = m'} l' u' h') f g j = absurd (omega arith)
one_half_go a a' b b' (zero_float {s = s}) (special {s = s'} {m = m'} h') f g j = absurd (omega arith)
one_half_go a a' b b' (zero_float {s = s}) (subnormal {s = s'} {p = p'} {r = r'} l' h') f g j = absurd (omega arith)
one_half_go a a' b b' (normal {s = s} {e = e} {m = m} l u h) (zero_float {s = s'}) f g j = absurd (omega arith)
one_half_go a a' b b' (normal {s = s} {e = e} {m = m} l u h) (normal {s = s'} {e = e'} {m = m'} l' u' h') f g j =
    same_parts s s' e e' m m' f (omega arith) (omega arith)
one_half_go a a' b b' (normal {s = s} {e = e} {m = m} l u h) (special {s = s'} {m = m'} h') f g j = absurd (omega arith)
one_half_go a a' b b' (normal {s = s} {e = e} {m = m} l u h) (subnormal {s = s'} {p = p'} {r = r'} l' h') f g j =
    absurd (omega arith)
one_half_go a a' b b' (special {s = s} {m = m} h) (zero_float {s = s'}) f g j = absurd (omega arith)
one_half_go a a' b b' (special {s = s} {m = m} h) (normal {s = s'} {e = e'} {m = m'} l' u' h') f g j =
    absurd (omega arith)
one_half_go a a' b b' (special {s = s} {m = m} h) (special {s = s'} {m = m'} h') f g j =
    same_parts s s' 31 31 m m' f refl (omega arith)
one_half_go a a' b b' (special {s = s} {m = m} h) (subnormal {s = s'} {p = p'} {r = r'} l' h') f g j =
    absurd (omega arith)
one_half_go a a' b b' (subnormal {s = s} {p = p} {r = r} l h) (zero_float {s = s'}) f g j = absurd (omega arith)
one_half_go a a' b b' (subnormal {s = s} {p = p} {r = r} l h) (normal {s = s'} {e = e'} {m = m'} l' u' h') f g j =
    absurd (omega arith)
one_half_go a a' b b' (subnormal {s = s} {p = p} {r = r} l h) (special {s = s'} {m = m'} h') f g j =
    absurd (omega arith)
one_half_go a a' b b' (subnormal {s = s} {p = p} {r = r} l h) (subnormal {s = s'} {p = p'} {r = r'} l' h') f g j =
    (let q : p ≡ p' = omega arith in
    let w : r * 2 ^ (23 - p) ≡ r' * 2 ^ (23 - p) = j ∙ ap (λ (z : ℕ). r' * 2 ^ (23 - z)) (sym q) in
    let v = cancel r r' (2 ^ (23 - p)) (pow_pos (23 - p)) w in
    same_parts s s' 0 0 (2 ^ p + r) (2 ^ p' + r') f refl cc)

pub one_half : (a a' b : Parts) → IsWidened half single a b → IsWidened half single a' b → a ≡ a'
one_half a a' b x y = one_half_go a a' b b x y refl refl refl

-- Only one float of 32 bits is a given float of 64 bits.
one_single_go : (a a' b b' : Parts) → IsWidened single double a b → IsWidened single double a' b' → b.sign ≡ b'.sign
    → b.exponent ≡ b'.exponent
    → b.mantissa ≡ b'.mantissa → a ≡ a'
one_single_go a a' b b' (zero_float {s = s}) (zero_float {s = s'}) f g j = same_parts s s' 0 0 0 0 f refl refl
one_single_go a a' b b' (zero_float {s = s}) (normal {s = s'} {e = e'} {m = m'} l' u' h') f g j = absurd (omega arith)
one_single_go a a' b b' (zero_float {s = s}) (special {s = s'} {m = m'} h') f g j = absurd (omega arith)
one_single_go a a' b b' (zero_float {s = s}) (subnormal {s = s'} {p = p'} {r = r'} l' h') f g j = absurd (omega arith)
one_single_go a a' b b' (normal {s = s} {e = e} {m = m} l u h) (zero_float {s = s'}) f g j = absurd (omega arith)
one_single_go a a' b b' (normal {s = s} {e = e} {m = m} l u h) (normal {s = s'} {e = e'} {m = m'} l' u' h') f g j =
    same_parts s s' e e' m m' f (omega arith) (omega arith)
one_single_go a a' b b' (normal {s = s} {e = e} {m = m} l u h) (special {s = s'} {m = m'} h') f g j =
    absurd (omega arith)
one_single_go a a' b b' (normal {s = s} {e = e} {m = m} l u h) (subnormal {s = s'} {p = p'} {r = r'} l' h') f g j =
    absurd (omega arith)
one_single_go a a' b b' (special {s = s} {m = m} h) (zero_float {s = s'}) f g j = absurd (omega arith)
one_single_go a a' b b' (special {s = s} {m = m} h) (normal {s = s'} {e = e'} {m = m'} l' u' h') f g j =
    absurd (omega arith)
one_single_go a a' b b' (special {s = s} {m = m} h) (special {s = s'} {m = m'} h') f g j =
    same_parts s s' 255 255 m m' f refl (omega arith)
one_single_go a a' b b' (special {s = s} {m = m} h) (subnormal {s = s'} {p = p'} {r = r'} l' h') f g j =
    absurd (omega arith)
one_single_go a a' b b' (subnormal {s = s} {p = p} {r = r} l h) (zero_float {s = s'}) f g j = absurd (omega arith)
one_single_go a a' b b' (subnormal {s = s} {p = p} {r = r} l h) (normal {s = s'} {e = e'} {m = m'} l' u' h') f g j =
    absurd (omega arith)
one_single_go a a' b b' (subnormal {s = s} {p = p} {r = r} l h) (special {s = s'} {m = m'} h') f g j =
    absurd (omega arith)
one_single_go a a' b b' (subnormal {s = s} {p = p} {r = r} l h) (subnormal {s = s'} {p = p'} {r = r'} l' h') f g j =
    (let q : p ≡ p' = omega arith in
    let w : r * 2 ^ (52 - p) ≡ r' * 2 ^ (52 - p) = j ∙ ap (λ (z : ℕ). r' * 2 ^ (52 - z)) (sym q) in
    let v = cancel r r' (2 ^ (52 - p)) (pow_pos (52 - p)) w in
    same_parts s s' 0 0 (2 ^ p + r) (2 ^ p' + r') f refl cc)

pub one_single : (a a' b : Parts) → IsWidened single double a b → IsWidened single double a' b → a ≡ a'
one_single a a' b x y = one_single_go a a' b b x y refl refl refl

-- A float of 16 bits is only one float of 32 bits.
half_once_go : (a a' b b' : Parts) → IsWidened half single a b → IsWidened half single a' b' → a.sign ≡ a'.sign
    → a.exponent ≡ a'.exponent
    → a.mantissa ≡ a'.mantissa → b ≡ b'
half_once_go a a' b b' (zero_float {s = s}) (zero_float {s = s'}) f g j = same_parts s s' 0 0 0 0 f refl refl
half_once_go a a' b b' (zero_float {s = s}) (normal {s = s'} {e = e'} {m = m'} l' u' h') f g j = absurd (omega arith)
half_once_go a a' b b' (zero_float {s = s}) (special {s = s'} {m = m'} h') f g j = absurd (omega arith)
half_once_go a a' b b' (zero_float {s = s}) (subnormal {s = s'} {p = p'} {r = r'} l' h') f g j =
    absurd (let some = pow_pos p' in omega arith)
half_once_go a a' b b' (normal {s = s} {e = e} {m = m} l u h) (zero_float {s = s'}) f g j = absurd (omega arith)
half_once_go a a' b b' (normal {s = s} {e = e} {m = m} l u h) (normal {s = s'} {e = e'} {m = m'} l' u' h') f g j =
    same_parts s s' (e + 112) (e' + 112) (m * 2 ^ 13) (m' * 2 ^ 13) f (omega arith) (omega arith)
half_once_go a a' b b' (normal {s = s} {e = e} {m = m} l u h) (special {s = s'} {m = m'} h') f g j =
    absurd (omega arith)
half_once_go a a' b b' (normal {s = s} {e = e} {m = m} l u h) (subnormal {s = s'} {p = p'} {r = r'} l' h') f g j =
    absurd (omega arith)
half_once_go a a' b b' (special {s = s} {m = m} h) (zero_float {s = s'}) f g j = absurd (omega arith)
half_once_go a a' b b' (special {s = s} {m = m} h) (normal {s = s'} {e = e'} {m = m'} l' u' h') f g j =
    absurd (omega arith)
half_once_go a a' b b' (special {s = s} {m = m} h) (special {s = s'} {m = m'} h') f g j =
    same_parts s s' 255 255 (m * 2 ^ 13) (m' * 2 ^ 13) f refl (omega arith)
half_once_go a a' b b' (special {s = s} {m = m} h) (subnormal {s = s'} {p = p'} {r = r'} l' h') f g j =
    absurd (omega arith)
half_once_go a a' b b' (subnormal {s = s} {p = p} {r = r} l h) (zero_float {s = s'}) f g j =
    absurd (let some = pow_pos p in omega arith)
half_once_go a a' b b' (subnormal {s = s} {p = p} {r = r} l h) (normal {s = s'} {e = e'} {m = m'} l' u' h') f g j =
    absurd (omega arith)
half_once_go a a' b b' (subnormal {s = s} {p = p} {r = r} l h) (special {s = s'} {m = m'} h') f g j =
    absurd (omega arith)
half_once_go a a' b b' (subnormal {s = s} {p = p} {r = r} l h) (subnormal {s = s'} {p = p'} {r = r'} l' h') f g j =
    (let q = one_leading p p' r r' h h' j in
    let v = q.0 in
    let w = q.1 in
    same_parts s s' (p + 1 + 112 - 10) (p' + 1 + 112 - 10) (r * 2 ^ (23 - p)) (r' * 2 ^ (23 - p')) f (omega arith) cc)

pub half_once : (a b b' : Parts) → IsWidened half single a b → IsWidened half single a b' → b ≡ b'
half_once a b b' x y = half_once_go a a b b' x y refl refl refl

-- A float of 32 bits is only one float of 64 bits.
single_once_go : (a a' b b' : Parts) → IsWidened single double a b → IsWidened single double a' b' → a.sign ≡ a'.sign
    → a.exponent ≡ a'.exponent
    → a.mantissa ≡ a'.mantissa → b ≡ b'
single_once_go a a' b b' (zero_float {s = s}) (zero_float {s = s'}) f g j = same_parts s s' 0 0 0 0 f refl refl
single_once_go a a' b b' (zero_float {s = s}) (normal {s = s'} {e = e'} {m = m'} l' u' h') f g j = absurd (omega arith)
single_once_go a a' b b' (zero_float {s = s}) (special {s = s'} {m = m'} h') f g j = absurd (omega arith)
single_once_go a a' b b' (zero_float {s = s}) (subnormal {s = s'} {p = p'} {r = r'} l' h') f g j =
    absurd (let some = pow_pos p' in omega arith)
single_once_go a a' b b' (normal {s = s} {e = e} {m = m} l u h) (zero_float {s = s'}) f g j = absurd (omega arith)
single_once_go a a' b b' (normal {s = s} {e = e} {m = m} l u h) (normal {s = s'} {e = e'} {m = m'} l' u' h') f g j =
    same_parts s s' (e + 896) (e' + 896) (m * 2 ^ 29) (m' * 2 ^ 29) f (omega arith) (omega arith)
single_once_go a a' b b' (normal {s = s} {e = e} {m = m} l u h) (special {s = s'} {m = m'} h') f g j =
    absurd (omega arith)
single_once_go a a' b b' (normal {s = s} {e = e} {m = m} l u h) (subnormal {s = s'} {p = p'} {r = r'} l' h') f g j =
    absurd (omega arith)
single_once_go a a' b b' (special {s = s} {m = m} h) (zero_float {s = s'}) f g j = absurd (omega arith)
single_once_go a a' b b' (special {s = s} {m = m} h) (normal {s = s'} {e = e'} {m = m'} l' u' h') f g j =
    absurd (omega arith)
single_once_go a a' b b' (special {s = s} {m = m} h) (special {s = s'} {m = m'} h') f g j =
    same_parts s s' 2047 2047 (m * 2 ^ 29) (m' * 2 ^ 29) f refl (omega arith)
single_once_go a a' b b' (special {s = s} {m = m} h) (subnormal {s = s'} {p = p'} {r = r'} l' h') f g j =
    absurd (omega arith)
single_once_go a a' b b' (subnormal {s = s} {p = p} {r = r} l h) (zero_float {s = s'}) f g j =
    absurd (let some = pow_pos p in omega arith)
single_once_go a a' b b' (subnormal {s = s} {p = p} {r = r} l h) (normal {s = s'} {e = e'} {m = m'} l' u' h') f g j =
    absurd (omega arith)
single_once_go a a' b b' (subnormal {s = s} {p = p} {r = r} l h) (special {s = s'} {m = m'} h') f g j =
    absurd (omega arith)
single_once_go a a' b b' (subnormal {s = s} {p = p} {r = r} l h) (subnormal {s = s'} {p = p'} {r = r'} l' h') f g j =
    (let q = one_leading p p' r r' h h' j in
    let v = q.0 in
    let w = q.1 in
    same_parts s s' (p + 1 + 896 - 23) (p' + 1 + 896 - 23) (r * 2 ^ (52 - p)) (r' * 2 ^ (52 - p')) f (omega arith) cc)

pub single_once : (a b b' : Parts) → IsWidened single double a b → IsWidened single double a b' → b ≡ b'
single_once a b b' x y = single_once_go a a b b' x y refl refl refl

-- Bits with the same parts are the same.
pub same_half : (n n' : ℕ) → parts half n ≡ parts half n' → n ≡ n'
same_half n n' e =
    let s = ap (λ (c : Parts). c.sign) e in
    let x = ap (λ (c : Parts). c.exponent) e in
    let m = ap (λ (c : Parts). c.mantissa) e in
    omega (arith, s, x, m)

pub same_single : (n n' : ℕ) → parts single n ≡ parts single n' → n ≡ n'
same_single n n' e =
    let s = ap (λ (c : Parts). c.sign) e in
    let x = ap (λ (c : Parts). c.exponent) e in
    let m = ap (λ (c : Parts). c.mantissa) e in
    omega (arith, s, x, m)

pub same_double : (n n' : ℕ) → parts double n ≡ parts double n' → n ≡ n'
same_double n n' e =
    let s = ap (λ (c : Parts). c.sign) e in
    let x = ap (λ (c : Parts). c.exponent) e in
    let m = ap (λ (c : Parts). c.mantissa) e in
    omega (arith, s, x, m)
