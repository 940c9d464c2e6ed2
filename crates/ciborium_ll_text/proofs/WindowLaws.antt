-- If each byte may follow the three before it, the last three bytes give the state.
use Rattle.std.proofs.Common.{◌≡◌, ℕ, zero, suc, ◌+◌, ◌-◌, ◌<◌, ◌≤◌, ◌⊎◌, List, length, take, get_or, sym, ap, ◌∙◌}
use Rattle.std.proofs.Common.{subst, arith}
use Rattle.std.proofs.lemmas.Bool.Decides.{nat_tests}
use Rattle.std.proofs.lemmas.List.{take_all}
use Rattle.simdutf8.specs.Steps.{Step, first, second, later, least_after, most_after, IsContinuation}
use Rattle.ciborium_ll_text.specs.declared.state.State.{State}
use Rattle.ciborium_ll_text.specs.declared.state.State.TheVariants as s
use Rattle.ciborium_ll_text.specs.States.{is_from, after_first, after_next, after_byte, after}
use Rattle.ciborium_ll_text.specs.Windows.{MayFollow, after_window}
use Rattle.ciborium_ll_text.proofs.StateLaws.{First, ascii, two, e0, three_low, ed, three_high, f0, four, f4, none}
use Rattle.ciborium_ll_text.proofs.StateLaws.{first_view, after-run}

-- ---- one byte more

-- If no character is open after three bytes, their state is `Between`.
closed : (x y z : ℕ) → x < 0xf0 → y < 0xe0 → z < 0xc0 → after_window x y z ≡ s.Between
unfolding after_window
closed x y z p q r = grind (arith, nat_tests)

-- A byte that begins a character gives the state by itself.
begun : (y z b : ℕ) → (b < 0x80) ⊎ (0xc0 ≤ b) → after_first b ≡ after_window y z b
unfolding is_from after_first after_window
begun y z b p = grind (arith, nat_tests)

-- After a last byte of at least c0, the window gives the state after this byte.
window_first : (x y z : ℕ) → 0xc0 ≤ z → after_window x y z ≡ after_first z
unfolding after_window
window_first x y z p = grind (arith, nat_tests)

-- A second byte in its range moves the window on by one byte.
second_goes : (y z b : ℕ) (state : State) → First z state → (0xc2 ≤ z) × (z ≤ 0xf4)
    → (least_after z ≤ b) × (b ≤ most_after z) → after_byte state b ≡ after_window y z b
unfolding is_from after_next after_window
second_goes y z b s.Between (ascii p) r t = absurd (omega arith)
second_goes y z b s.OneDue (two p) r t = grind (arith, nat_tests)
second_goes y z b s.BehindE0 (e0 p) r t = grind (arith, nat_tests)
second_goes y z b s.TwoDue (three_low p) r t = grind (arith, nat_tests)
second_goes y z b s.BehindEd (ed p) r t = grind (arith, nat_tests)
second_goes y z b s.TwoDue (three_high p) r t = grind (arith, nat_tests)
second_goes y z b s.BehindF0 (f0 p) r t = grind (arith, nat_tests)
second_goes y z b s.ThreeDue (four p) r t = grind (arith, nat_tests)
second_goes y z b s.BehindF4 (f4 p) r t = grind (arith, nat_tests)
second_goes y z b s.Damaged (none p) r t = absurd (omega (arith, p))

-- A later byte moves the window on by one byte.
later_goes : (x y z b : ℕ) → (0xf0 ≤ x) ⊎ (0xe0 ≤ y) → IsContinuation z → IsContinuation b → (0xf0 ≤ x → y < 0xc0)
    → after_byte (after_window x y z) b ≡ after_window y z b
unfolding is_from after_next after_window
later_goes x y z b p q r inv = grind (arith, nat_tests)

-- A byte that may follow the three before it moves the window on by one byte.
window_step : (x y z b : ℕ) → Step x y z b → (0xf0 ≤ x → y < 0xc0)
    → after_byte (after_window x y z) b ≡ after_window y z b
window_step x y z b (first p q) inv = ap (λ (t : State). after_byte t b) (closed x y z p.0 p.1 p.2) ∙ begun y z b q
window_step x y z b (second p q r) inv = grind (arith, nat_tests, window_first, second_goes, first_view)
window_step x y z b (later p q r) inv = later_goes x y z b p q r inv

-- If `b` may follow `x`, `y` and `z`, and `y` is at least f0, `z` is below c0.
window_later : (x y z b : ℕ) → Step x y z b → 0xf0 ≤ y → z < 0xc0
window_later x y z b (first p q) h = p.2
window_later x y z b (second p q r) h = absurd (omega arith)
window_later x y z b (later p q r) h = q.1

-- ---- whole lists

-- The last three bytes give the state after the first `i` bytes. The byte after a third last byte of at least f0 is
-- below c0.
pub record IsWindow (state : State) (x : List ℕ) (i : ℕ) : Type 0 where
  pub told : after state (take i x) ≡ after_window (get_or x (i - 3) 0) (get_or x (i - 2) 0) (get_or x (i - 1) 0)
  pub later : 0xf0 ≤ get_or x (i - 3) 0 → get_or x (i - 2) 0 < 0xc0

back_one : (i : ℕ) → i + 1 - 3 ≡ i - 2
back_one i = omega arith

back_again : (i : ℕ) → i + 1 - 2 ≡ i - 1
back_again i = omega arith

back_here : (i : ℕ) → i + 1 - 1 ≡ i
back_here i = omega arith

-- If the window gives the state after `i` bytes, it gives the state after `i + 1` bytes.
window_more : (state : State) (x : List ℕ) (i : ℕ) → i < length x → IsWindow state x i
    → Step (get_or x (i - 3) 0) (get_or x (i - 2) 0) (get_or x (i - 1) 0) (get_or x i 0) → IsWindow state x (i + 1)
window_more state x i l w st = record {
  told =
      rw (back_one i, back_again i, back_here i)
      (after-run state x i l ∙ (ap (λ (t : State). after_byte t (get_or x i 0)) w.told
      ∙ window_step (get_or x (i - 3) 0) (get_or x (i - 2) 0) (get_or x (i - 1) 0) (get_or x i 0) st w.later));
  later =
      rw (back_one i, back_again i) (λ h. window_later (get_or x (i - 3) 0) (get_or x (i - 2) 0) (get_or x (i - 1) 0)
      (get_or x i 0) st h);
}

-- If the window gives the state after three bytes, it gives the state after `k` bytes more.
windows_on : (state : State) (x : List ℕ) (k : ℕ) → 3 + k ≤ length x → IsWindow state x 3
    → MayFollow x 3 (length x) → IsWindow state x (3 + k)
windows_on state x zero l w all = w
windows_on state x (suc k) l w all =
    let before = windows_on state x k (omega arith) w all in
    let next : 3 + suc k ≡ 3 + k + 1 = omega arith in
    subst (λ (z : ℕ). IsWindow state x z) (sym next)
    (window_more state x (3 + k) (omega arith) before (all (3 + k) (omega arith) (omega arith)))

-- The last three bytes give the state after all bytes.
pub windows_whole : (state : State) (x : List ℕ) → 3 ≤ length x → IsWindow state x 3 → MayFollow x 3 (length x)
    → after state x ≡ after_window (get_or x (length x - 3) 0) (get_or x (length x - 2) 0) (get_or x (length x - 1) 0)
windows_whole state x l w all =
    let n : 3 + (length x - 3) ≡ length x = omega arith in
    let last = subst (λ (z : ℕ). IsWindow state x z) n (windows_on state x (length x - 3) (omega arith) w all) in
    sym (ap (after state) (take_all (length x) x (omega arith))) ∙ last.told
