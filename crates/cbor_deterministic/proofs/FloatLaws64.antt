-- The floats of 64 bits that 32 bits hold.
use Rattle.std.proofs.Common.{◌≡◌, ℕ, ◌+◌, ◌-◌, ◌*◌, ◌/◌, ◌%◌, ◌<◌, ◌≤◌, ◌^◌, ◌⊎◌, inl, inr, refl, sym, ◌∙◌, ap, subst}
use Rattle.std.proofs.Common.{arith, true, nat_eq}
use Rattle.std.proofs.Common.{Bool, false, nat_lt}
use Rattle.std.proofs.lemmas.Bool.Decides.{nat_tests}
use Rattle.std.proofs.lemmas.Nat.{pow_pos}
use Rattle.cbor_deterministic.specs.Floats.{Parts, single, double, IsWidened, zero_float, normal, special, subnormal}
use Rattle.cbor_deterministic.specs.Floats.{HasNarrower}
use Rattle.cbor_deterministic.proofs.FloatTests.{test_is, is_test, whole_of, none_over, same_parts, rest_fits}

-- The exponent and the mantissa of a float of 64 bits that 32 bits hold.
data Shape (x m : ℕ) : Type 0 where
  is_zero : x ≡ 0 → m ≡ 0 → Shape x m
  is_normal : (n : ℕ) → 896 < x → x < 1151 → m ≡ n * 2 ^ 29 → Shape x m
  is_special : (n : ℕ) → x ≡ 2047 → m ≡ n * 2 ^ 29 → Shape x m
  is_subnormal : (p r : ℕ) → p < 23 → x ≡ p + 874 → m ≡ r * 2 ^ (52 - p) → Shape x m

shape : (a b : Parts) → IsWidened single double a b → Shape b.exponent b.mantissa
shape a b zero_float = is_zero refl refl
shape a b (normal {e = e} {m = m} l u q) = is_normal m (omega arith) (omega arith) refl
shape a b (special {m = m} q) = is_special m refl refl
shape a b (subnormal {p = p} {r = r} l q) = is_subnormal p r l (omega arith) refl

abbrev pub Narrower : ℕ → ℕ → ℕ → Type 0
Narrower s x m = HasNarrower single double (record { sign = s; exponent = x; mantissa = m })

shaped : (s x m : ℕ) → Narrower s x m → Shape x m
shaped s x m h = shape h.a (record { sign = s; exponent = x; mantissa = m }) h.widened

pub zero_test : (s x m : ℕ) → x ≡ 0 → (nat_eq m 0 ≡ true → Narrower s x m) × (Narrower s x m → nat_eq m 0 ≡ true)
zero_test s x m e = (there, λ h. back (shaped s x m h))
  where
    there : nat_eq m 0 ≡ true → Narrower s x m
    there t = record {
      a = record { sign = s; exponent = 0; mantissa = 0 };
      widened = subst (λ (b : Parts). IsWidened single double (record { sign = s; exponent = 0; mantissa = 0 }) b)
          (same_parts s s 0 x 0 m refl (sym e) (sym (test_is m t))) zero_float;
    }

    back : Shape x m → nat_eq m 0 ≡ true
    back (is_zero p q) = is_test m q
    back (is_normal n p q r) = absurd (omega arith)
    back (is_special n p r) = absurd (omega arith)
    back (is_subnormal p r l q o) = absurd (omega arith)

pub normal_test : (s x m : ℕ) → m < 2 ^ 52 → (896 < x) × (x < 1151) ⊎ (x ≡ 2047)
    → (nat_eq (m % 536870912) 0 ≡ true → Narrower s x m) × (Narrower s x m → nat_eq (m % 536870912) 0 ≡ true)
normal_test s x m u c = (λ t. there c (test_is (m % 536870912) t), λ h. is_test (m % 536870912) (back (shaped s x m h)))
  where
    fits : m / 536870912 < 2 ^ 23
    fits = omega arith

    there : (896 < x) × (x < 1151) ⊎ (x ≡ 2047) → m % 536870912 ≡ 0 → Narrower s x m
    there (inl p) e =
        let l = p.0 in
        let h = p.1 in
        let a : Parts = record { sign = s; exponent = x - 896; mantissa = m / 536870912 } in
        let w : m / 536870912 * 536870912 ≡ m = whole_of m 536870912 (omega arith) e in
        let y : x - 896 + 896 ≡ x = omega arith in
        record {
          a = a;
          widened = subst (λ (b : Parts). IsWidened single double a b)
              (same_parts s s (x - 896 + 896) x (m / 536870912 * 536870912) m refl y w)
              (normal (omega arith) (omega arith) fits);
        }
    there (inr p) e =
        let a : Parts = record { sign = s; exponent = 255; mantissa = m / 536870912 } in
        let w : m / 536870912 * 536870912 ≡ m = whole_of m 536870912 (omega arith) e in
        record {
          a = a;
          widened = subst (λ (b : Parts). IsWidened single double a b)
              (same_parts s s 2047 x (m / 536870912 * 536870912) m refl (sym p) w) (special fits);
        }

    low : (896 < x) × (x < 1151) ⊎ (x ≡ 2047) → 896 < x
    low (inl p) = p.0
    low (inr p) = omega arith

    back : Shape x m → m % 536870912 ≡ 0
    back (is_zero p q) = let l = low c in absurd (omega arith)
    back (is_normal n p q r) = none_over n 536870912 m r
    back (is_special n p r) = none_over n 536870912 m r
    back (is_subnormal p r l q o) = let k = low c in absurd (omega arith)

pub subnormal_test : (s x m : ℕ) → m < 2 ^ 52 → 874 ≤ x → x < 897
    → (nat_eq (m % 2 ^ (926 - x)) 0 ≡ true → Narrower s x m) × (Narrower s x m → nat_eq (m % 2 ^ (926 - x)) 0 ≡ true)
subnormal_test s x m u l h =
    (λ t. there (test_is (m % 2 ^ (926 - x)) t), λ n. is_test (m % 2 ^ (926 - x)) (back (shaped s x m n)))
  where
    p : ℕ
    p = x - 874

    zeros : 52 - (x - 874) ≡ 926 - x
    zeros = omega arith

    there : m % 2 ^ (926 - x) ≡ 0 → Narrower s x m
    there e =
        let r : ℕ = m / 2 ^ (926 - x) in
        let a : Parts = record { sign = s; exponent = 0; mantissa = 2 ^ (x - 874) + r } in
        let w : r * 2 ^ (926 - x) ≡ m = whole_of m (2 ^ (926 - x)) (pow_pos (926 - x)) e in
        let v : r * 2 ^ (52 - (x - 874)) ≡ m = ap (λ (z : ℕ). r * 2 ^ z) zeros ∙ w in
        let y : x - 874 + 1 + 896 - 23 ≡ x = omega arith in
        let f : m / 2 ^ (52 - (x - 874)) < 2 ^ (x - 874) = rest_fits m (x - 874) 52 (omega arith) u in
        let g : r < 2 ^ (x - 874) = subst (λ (z : ℕ). m / 2 ^ z < 2 ^ (x - 874)) zeros f in
        record {
          a = a;
          widened = subst (λ (b : Parts). IsWidened single double a b)
              (same_parts s s (x - 874 + 1 + 896 - 23) x (r * 2 ^ (52 - (x - 874))) m refl y v)
              (subnormal (omega arith) g);
        }

    back : Shape x m → m % 2 ^ (926 - x) ≡ 0
    back (is_zero p q) = absurd (omega arith)
    back (is_normal n p q r) = absurd (omega arith)
    back (is_special n p r) = absurd (omega arith)
    back (is_subnormal p r k q o) =
        let z : 52 - p ≡ 926 - x = omega arith in
        none_over r (2 ^ (926 - x)) m (o ∙ ap (λ (j : ℕ). r * 2 ^ j) z)

pub no_test : (s x m : ℕ) → 0 < x → (x < 874) ⊎ ((1150 < x) × (x ≡ 2047 → ⊥)) → Narrower s x m → ⊥
no_test s x m l c n = go c (shaped s x m n)
  where
    go : (x < 874) ⊎ ((1150 < x) × (x ≡ 2047 → ⊥)) → Shape x m → ⊥
    go c (is_zero p q) = omega arith
    go (inl k) (is_normal n p q r) = omega arith
    go (inl k) (is_special n p r) = omega arith
    go (inl k) (is_subnormal p r u q o) = omega arith
    go (inr k) (is_normal n p q r) = let j = k.0 in omega arith
    go (inr k) (is_special n p r) = k.1 p
    go (inr k) (is_subnormal p r u q o) = let j = k.0 in omega arith

-- A test decides whether 32 bits hold the float.
by_test : (s x m : ℕ) (b : Bool) → (b ≡ true → Narrower s x m) × (Narrower s x m → b ≡ true)
    → Narrower s x m ⊎ (Narrower s x m → ⊥)
by_test s x m true t = inl (t.0 refl)
by_test s x m false t = inr (λ n. let e = t.1 n in absurd cc)

-- Either 32 bits hold a float of 64 bits, or they do not.
pub decide : (s x m : ℕ) → m < 2 ^ 52 → Narrower s x m ⊎ (Narrower s x m → ⊥)
decide s x m u = go (nat_lt 0 x) (nat_lt x 874) (nat_lt 1150 x) (nat_lt 896 x) (nat_eq x 2047) refl refl refl refl refl
  where
    go : (a b c d e : Bool) → nat_lt 0 x ≡ a → nat_lt x 874 ≡ b → nat_lt 1150 x ≡ c → nat_lt 896 x ≡ d
        → nat_eq x 2047 ≡ e
        → Narrower s x m ⊎ (Narrower s x m → ⊥)
    go false b c d e p q r v w = by_test s x m _ (zero_test s x m (grind (arith, nat_tests)))
    go true b c d true p q r v w = by_test s x m _ (normal_test s x m u (inr (grind (arith, nat_tests))))
    go true true c d false p q r v w =
        let k : 0 < x = grind (arith, nat_tests) in
        let l : x < 874 = grind (arith, nat_tests) in
        inr (no_test s x m k (inl l))
    go true false true d false p q r v w =
        let k : 0 < x = grind (arith, nat_tests) in
        let l : 1150 < x = grind (arith, nat_tests) in
        inr (no_test s x m k (inr (l, λ i. absurd (grind (arith, nat_tests)))))
    go true false false true false p q r v w =
        let k : 896 < x = grind (arith, nat_tests) in
        let l : x < 1151 = grind (arith, nat_tests) in
        by_test s x m _ (normal_test s x m u (inl (k, l)))
    go true false false false false p q r v w =
        let k : 874 ≤ x = grind (arith, nat_tests) in
        let l : x < 897 = grind (arith, nat_tests) in
        by_test s x m _ (subnormal_test s x m u k l)
