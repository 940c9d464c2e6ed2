-- Lemmas about blocks of sixteen bytes, lane by lane.
use Rattle.std.proofs.Common.{◌≡◌, ℕ, zero, suc, ◌+◌, ◌-◌, ◌*◌, ◌/◌, ◌%◌, ◌^◌, ◌<◌, ◌≤◌, true, not, cond}
use Rattle.std.proofs.Common.{eqb, List, [], ◌∷◌, map, length, get_or, replicate, bit_and, bit_or, bit_xor, refl, sym}
use Rattle.std.proofs.Common.{ap, ◌∙◌, arith, w8, Fits, subst, eqb-true}
use Rattle.std.proofs.lemmas.List.{get_or-map, ext_get_or, length-map}
use Rattle.std.proofs.lemmas.Nat.{and_le_r}
use Rattle.std.proofs.lemmas.Simd.{Each1-all, Each1-weaker, Each1-zip2, Each2-splat, below_from_Fits, length-zip2}
use Rattle.std.proofs.lemmas.Simd.{get_or-zip2, get_or-replicate, get_or-chunk, mask_l-mod, swz_l, SwzOk}
use Rattle.std.proofs.lemmas.Simd.{SwzOk-from_below, length-swz_l, get_or-swz_l_below}
use lib.Lanes.{zip2, chunk, mask_l, top, Each1}
use Rattle.simdutf8.specs.Classes.{IsClass}
use Rattle.simdutf8.specs.Steps.{Step}
use Rattle.simdutf8.specs.Tables.{first_high, first_low, second_high}
use Rattle.simdutf8.proofs.Lanes.{lane_fits}
use Rattle.simdutf8.proofs.Pairs.{fault, fault-Step, lookup_class}

-- The list is a block: sixteen bytes.
abbrev pub IsBlock : List ℕ → Type 0
IsBlock v = (length v ≡ 16) × Each1 (Fits w8) v

abbrev pub down : ℕ → ℕ → ℕ
down a b = a / 2 ^ b

-- The upper halves of a block are places in a table of sixteen.
pub high_ok : (v : List ℕ) → IsBlock v → SwzOk w8 16 16 0 (zip2 down v (replicate 16 4))
high_ok v fits =
    let small = Each1-weaker (λ a. a < 256) (λ a. a / 16 < 16) (λ a h. omega arith) v (below_from_Fits w8 v fits.1) in
    SwzOk-from_below w8 16 1 16 0 (zip2 down v (replicate 16 4)) refl
    (omega (arith, length-zip2 down v (replicate 16 4) fits.0))
    (Each1-zip2 down (λ j. j < 16) v (replicate 16 4) (Each2-splat (λ a b. down a b < 16) v 16 4 small))

-- The lower halves of a block are places in a table of sixteen.
pub low_ok : (v : List ℕ) → IsBlock v → SwzOk w8 16 16 0 (zip2 bit_and v (replicate 16 15))
low_ok v fits =
    let small = Each1-all (λ a. bit_and a 15 < 16) (λ a. omega (arith, and_le_r a 15)) v in
    SwzOk-from_below w8 16 1 16 0 (zip2 bit_and v (replicate 16 15)) refl
    (omega (arith, length-zip2 bit_and v (replicate 16 15) fits.0))
    (Each1-zip2 bit_and (λ j. j < 16) v (replicate 16 15) (Each2-splat (λ a b. bit_and a b < 16) v 16 15 small))

-- A look-up at places below 16 gives the entry of the table for each byte.
pub looked_up : (t : List ℕ) (g : ℕ → ℕ) (v js : List ℕ) → IsBlock v → js ≡ map g v
    → ((x : ℕ) → x < 256 → g x < 16) → swz_l w8 16 t 0 js ≡ map (λ x. get_or t (g x) 0) v
looked_up t g v js fits e small =
    let long : length js ≡ 16 = ap length e ∙ length-map v g ∙ fits.0 in
    ext_get_or 0 _ _ (length-swz_l w8 16 t 0 js ∙ long ∙ sym (length-map v (λ x. get_or t (g x) 0) ∙ fits.0)) (λ i h.
    let lt : i < 16 = omega (arith, length-swz_l w8 16 t 0 js) in
    let within : i < length v = omega (arith, fits.0) in
    let is : get_or js i 0 ≡ g (get_or v i 0) = ap (λ l. get_or l i 0) e ∙ get_or-map g v i 0 0 within in
    let below : get_or js i 0 < 16 = omega (arith, small (get_or v i 0) (lane_fits v i fits.1)) in
    let place : 16 * ((0 + i) / 16) + get_or js i 0 ≡ get_or js i 0 = omega arith in
    get_or-swz_l_below w8 16 t 0 js i (omega arith) below
    ∙ ap (λ k. get_or t k 0) (place ∙ is) ∙ sym (get_or-map (λ x. get_or t (g x) 0) v i 0 0 within))

-- A lane of the combined vector is the function of both lanes.
pub lane : (f : ℕ → ℕ → ℕ) (xs ys : List ℕ) → length xs ≡ 16 → length ys ≡ 16 → (i : ℕ) → i < 16
    → get_or (zip2 f xs ys) i 0 ≡ f (get_or xs i 0) (get_or ys i 0)
lane f xs ys p q i h = get_or-zip2 f xs ys i 0 0 0 (omega arith) (omega arith)

pub long : (f : ℕ → ℕ → ℕ) (xs ys : List ℕ) → length xs ≡ 16 → length ys ≡ 16 → length (zip2 f xs ys) ≡ 16
long f xs ys p q = length-zip2 f xs ys (p ∙ sym q) ∙ p

-- The three look-ups combined are the classes of sixteen pairs.
pub classes_are : (first second a b c : List ℕ) → IsBlock first → IsBlock second → a ≡ map first_high first
    → b ≡ map first_low first → c ≡ map second_high second
    → (length (zip2 bit_and (zip2 bit_and a b) c) ≡ 16)
    × ((i : ℕ) → i < 16 → IsClass (get_or first i 0) (get_or second i 0)
    (get_or (zip2 bit_and (zip2 bit_and a b) c) i 0))
classes_are first second a b c p q ea eb ec =
    let la : length a ≡ 16 = ap length ea ∙ length-map first first_high ∙ p.0 in
    let lb : length b ≡ 16 = ap length eb ∙ length-map first first_low ∙ p.0 in
    let lc : length c ≡ 16 = ap length ec ∙ length-map second second_high ∙ q.0 in
    let lab = long bit_and a b la lb in (
      long bit_and _ c lab lc,
      λ i h. rw (
        lane bit_and _ _ lab lc i h,
        lane bit_and _ _ la lb i h,
        ea,
        eb,
        ec,
        get_or-map first_high first i 0 0 (omega (arith, p.0)),
        get_or-map first_low first i 0 0 (omega (arith, p.0)),
        get_or-map second_high second i 0 0 (omega (arith, q.0)),
      )
          (lookup_class _ _ (lane_fits first i p.1) (lane_fits second i q.1)),
    )

-- ---- all lanes are 0

abbrev pub differs : ℕ → ℕ → ℕ
differs a b = cond (not (eqb a b)) 255 0

flag : (x : ℕ) → (◌≡◌ {A = ℕ} (cond (top 7 (differs x 0)) 1 0) 0) → x ≡ 0
flag x = grind (arith, eqb-true)

none_differ : (xs : List ℕ) → mask_l (map (top 7) (zip2 differs xs (replicate (length xs) 0))) ≡ 0 → (i : ℕ)
    → get_or xs i 0 ≡ 0
none_differ [] e i = refl
none_differ (x ∷ xs) e zero = flag x (omega arith)
none_differ (x ∷ xs) e (suc i) = none_differ xs (omega arith) i

pub zero_of_mask : (xs : List ℕ) → length xs ≡ 16
    → eqb (mask_l (map (top 7) (zip2 differs xs (replicate 16 0))) % 2 ^ 64) 0 ≡ true → (i : ℕ) → get_or xs i 0 ≡ 0
zero_of_mask xs l t =
    let lanes = zip2 differs xs (replicate 16 0) in
    let short = mask_l-mod (map (top 7) lanes) 64
    (omega (arith, length-map lanes (top 7), length-zip2 differs xs (replicate 16 0) (l ∙ refl), l)) in
    none_differ xs (ap (λ n. mask_l (map (top 7) (zip2 differs xs (replicate n 0)))) l ∙ sym short ∙ eqb-true _ _ t)

-- If all lanes of the test are 0, each byte may follow the three before it.
pub steps_are : (x y z b classes third fourth : List ℕ) → IsBlock x → IsBlock y → IsBlock z → IsBlock b
    → length classes ≡ 16 → length third ≡ 16 → length fourth ≡ 16
    → ((i : ℕ) → i < 16 → IsClass (get_or z i 0) (get_or b i 0) (get_or classes i 0))
    → ((i : ℕ) → i < 16 → get_or third i 0 ≡ get_or y i 0 - 96)
    → ((i : ℕ) → i < 16 → get_or fourth i 0 ≡ get_or x i 0 - 112)
    → ((i : ℕ) → get_or (zip2 bit_xor (zip2 bit_and (zip2 bit_or third fourth) (replicate 16 128)) classes) i 0 ≡ 0)
    → (i : ℕ) → i < 16 → Step (get_or x i 0) (get_or y i 0) (get_or z i 0) (get_or b i 0)
steps_are x y z b classes third fourth px py pz pb lc l3 l4 class three two zeros i h =
    let late = long bit_or third fourth l3 l4 in
    let must = long bit_and (zip2 bit_or third fourth) (replicate 16 128) late refl in
    let is : get_or (zip2 bit_xor (zip2 bit_and (zip2 bit_or third fourth) (replicate 16 128)) classes) i 0 ≡ fault
    (get_or x i 0) (get_or y i 0) (get_or classes i 0) =
    rw (
      lane bit_xor _ _ must lc i h,
      lane bit_and _ _ late refl i h,
      lane bit_or _ _ l3 l4 i h,
      get_or-replicate
          {A = ℕ} 16 i 128 0 h,
      three i h,
      two i h,
    ) refl in
    (fault-Step (get_or x i 0) (get_or y i 0) (get_or z i 0) (get_or b i 0) (get_or classes i 0) (lane_fits x i px.1)
    (lane_fits y i py.1) (lane_fits z i pz.1) (lane_fits b i pb.1) (class i h)).0
    (sym is ∙ zeros i)

-- The lanes of four loads at neighbouring places are the bytes at these places.
pub moved : (x : List ℕ) (at i : ℕ) → 3 ≤ at → at ≤ i → i < at + 16
    → Step (get_or (chunk (at - 3) 16 x) (i - at) 0) (get_or (chunk (at - 2) 16 x) (i - at) 0)
    (get_or (chunk (at - 1) 16 x) (i - at) 0) (get_or (chunk at 16 x) (i - at) 0)
    → Step (get_or x (i - 3) 0) (get_or x (i - 2) 0) (get_or x (i - 1) 0) (get_or x i 0)
moved x at i p q r st =
    let l : i - at < 16 = omega arith in
    let n3 : at - 3 + (i - at) ≡ i - 3 = omega arith in
    let n2 : at - 2 + (i - at) ≡ i - 2 = omega arith in
    let n1 : at - 1 + (i - at) ≡ i - 1 = omega arith in
    let n0 : at + (i - at) ≡ i = omega arith in
    let e3 = get_or-chunk (at - 3) 16 x (i - at) 0 l ∙ ap (λ (z : ℕ). get_or x z 0) n3 in
    let e2 = get_or-chunk (at - 2) 16 x (i - at) 0 l ∙ ap (λ (z : ℕ). get_or x z 0) n2 in
    let e1 = get_or-chunk (at - 1) 16 x (i - at) 0 l ∙ ap (λ (z : ℕ). get_or x z 0) n1 in
    let e0 = get_or-chunk at 16 x (i - at) 0 l ∙ ap (λ (z : ℕ). get_or x z 0) n0 in
    subst (λ (z : ℕ). Step z (get_or x (i - 2) 0) (get_or x (i - 1) 0) (get_or x i 0)) e3
    (subst (λ (z : ℕ). Step (get_or (chunk (at - 3) 16 x) (i - at) 0) z (get_or x (i - 1) 0) (get_or x i 0)) e2
    (subst (λ (z : ℕ). Step (get_or (chunk (at - 3) 16 x) (i - at) 0) (get_or (chunk (at - 2) 16 x) (i - at) 0) z
    (get_or x i 0)) e1
    (subst (λ (z : ℕ). Step (get_or (chunk (at - 3) 16 x) (i - at) 0) (get_or (chunk (at - 2) 16 x) (i - at) 0)
    (get_or (chunk (at - 1) 16 x) (i - at) 0) z) e0 st)))
