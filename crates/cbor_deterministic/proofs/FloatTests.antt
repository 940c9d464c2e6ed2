-- Tests of numbers, and parts of floats.
use Rattle.std.proofs.Common.{◌≡◌, ℕ, ◌+◌, ◌-◌, ◌*◌, ◌/◌, ◌%◌, ◌<◌, ◌≤◌, ◌^◌, sym, ◌∙◌, ap, subst, arith}
use Rattle.std.proofs.Common.{true, nat_eq}
use Rattle.std.proofs.lemmas.Bool.Decides.{nat_tests}
use Rattle.std.proofs.lemmas.Nat.{pow-add, pow_pos, pow_below}
use Rattle.std.proofs.Math.Nat.{mul-mod_left, div-lt_iff_lt-mul, mod-eq_of_lt}
use Rattle.cbor_deterministic.specs.Floats.{Parts}

pub test_is : (n : ℕ) → nat_eq n 0 ≡ true → n ≡ 0
test_is n e = grind (arith, nat_tests)

pub is_test : (n : ℕ) → n ≡ 0 → nat_eq n 0 ≡ true
is_test n e = grind (arith, nat_tests)

pub whole_of : (n k : ℕ) → 0 < k → n % k ≡ 0 → n / k * k ≡ n
whole_of n k l e = omega (arith, e)

pub none_over : (m k n : ℕ) → n ≡ m * k → n % k ≡ 0
none_over m k n e = ap (λ (z : ℕ). z % k) e ∙ mul-mod_left m k

pub same_parts : (s s' e e' m m' : ℕ) → s ≡ s' → e ≡ e' → m ≡ m'
    → ◌≡◌ {A = Parts} (record { sign = s; exponent = e; mantissa = m })
    (record { sign = s'; exponent = e'; mantissa = m' })
same_parts s s' e e' m m' p q r = cc

-- If a number is less than 2 ^ k, its quotient by 2 ^ (k - p) is less than 2 ^ p.
pub rest_fits : (n p k : ℕ) → p ≤ k → n < 2 ^ k → n / 2 ^ (k - p) < 2 ^ p
rest_fits n p k l h =
    let e : p + (k - p) ≡ k = omega arith in
    let q : 2 ^ p * 2 ^ (k - p) ≡ 2 ^ k = sym (pow-add 2 p (k - p)) ∙ ap (λ (z : ℕ). 2 ^ z) e in
    (div-lt_iff_lt-mul (pow_pos (k - p))).1 (subst (λ (z : ℕ). n < z) (sym q) h)

-- A 1 that is shifted by k bits stays within a width of more than k bits.
pub shifted : (k w : ℕ) → k < w → 1 * 2 ^ k % 2 ^ w ≡ 2 ^ k
shifted k w l =
    let b = pow_below k w l in
    let e : 1 * 2 ^ k ≡ 2 ^ k = omega arith in
    ap (λ (z : ℕ). z % 2 ^ w) e ∙ mod-eq_of_lt b
