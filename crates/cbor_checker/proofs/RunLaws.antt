-- The spots after a run of plain items in a nest whose items are counted, and after the title of a nest.
use Rattle.std.proofs.Common.{◌≡◌, ℕ, zero, suc, ◌+◌, ◌-◌, ◌<◌, ◌≤◌, List, [], ◌∷◌, ◌++◌, length, refl, sym, ap, subst}
use Rattle.std.proofs.Common.{◌∙◌, arith, Some, None, length-append, zero-add, add-zero, add-one, ◌*◌, take, drop}
use Rattle.std.proofs.Common.{Bool, slice_index, true}
use Rattle.std.proofs.lemmas.Bool.Decides.{nat_tests}
use Rattle.ciborium_ll_grammar.specs.declared.remaining.Remaining.{Remaining}
use Rattle.cbor_checker.specs.declared.phase.Phase.TheVariants as p
use Rattle.cbor_parser.specs.declared.strings.Within.TheVariants as w
use Rattle.ciborium_ll_grammar.specs.Remaining.{next}
use Rattle.cbor_checker.specs.Stack.{innermost, others}
use Rattle.cbor_checker.specs.Plain.{ArePlain, counted_behind, lowered, more, none, passed, placed}
use Rattle.cbor_checker.specs.Plain.{IsNestTitle}
use Rattle.cbor_checker.specs.Spots.{Spot, item_done, settled, item_due, item_entered, nested}
use Rattle.cbor_checker.specs.Steps.{Leads, stay}
use Rattle.cbor_checker.proofs.ItemLeads.{due, from_due, title_leads}
use Rattle.cbor_checker.proofs.LeadLaws.{leads_more}
use Rattle.cbor_checker.proofs.SettledLaws.{settled_alike, nested_goes}
use Rattle.std.proofs.lemmas.List.{length-take-le, take_rest}
use Rattle.std.proofs.Math.Seq.{take-add}
use Rattle.ciborium_ll_text.proofs.Lists.{Below, rest_long}
use Rattle.ciborium_ll_grammar.specs.Title.{Array, Major, Map, Small, major_code, numbered_header}
use Rattle.ciborium_ll_grammar.specs.declared.remaining.Remaining.TheVariants as l
use Rattle.cbor_checker.proofs.PlainLaws.{one_taken}

-- ---- the nest with fewer items

next_lowered : (level : Remaining) (count n : ℕ) → counted_behind level ≡ Some count
    → next (lowered (suc n) level) ≡ Some (lowered n level)
next_lowered level count n e = grind (arith, nat_tests)

last_lowered : (level : Remaining) (count : ℕ) → counted_behind level ≡ Some count → next (lowered 0 level) ≡ None
last_lowered level count e = grind (arith, nat_tests)

-- A level that is lowered to its own count stays as it is.
lowered_same : (level : Remaining) (count : ℕ) → counted_behind level ≡ Some count → lowered count level ≡ level
lowered_same level count e = grind (arith, nat_tests)

-- ---- the spot after the items

run_leads : (s : Spot) (rest : List Remaining) (level : Remaining) (tags : Bool) (all count left last : ℕ)
    (bytes : List ℕ) → counted_behind level ≡ Some all → (tags ≡ true → 0 < s.depth)
    → ArePlain s.allowed tags s.offset s.place count last bytes
    → Leads (record (due s) { levels = lowered (count + left) level ∷ rest }) bytes
    (record (due s) { levels = lowered left level ∷ rest; place = last; offset = s.offset + length bytes })
run_leads s rest level tags all zero left last bytes is deep none = rw (zero-add left, add-zero s.offset) stay
run_leads s rest level tags all (suc count) left last bytes is deep (more {last = place} {bytes = xs} {item = item}
    start so_far one) =
    let here : suc count + left ≡ count + suc left = omega arith in
    let long : s.offset + length (xs ++ item) ≡ s.offset + length xs + length item =
    omega (arith, length-append xs item) in
    let sum : ℕ = s.offset + length xs in
    let m : Spot = record (due s) { levels = lowered (suc left) level ∷ rest; place = place; offset = sum } in
    let goes = rw (next_lowered level all left is, settled) at (one m refl refl refl refl deep) in
    rw (here, long) (leads_more _ m _ xs item
    (run_leads s rest level tags all count (suc left) place xs is deep so_far) goes)

stack_of : (levels : List Remaining) (level : Remaining) (left : ℕ) → Some level ≡ innermost levels
    → counted_behind level ≡ Some left → levels ≡ lowered left level ∷ others levels
stack_of levels level left e all = let same = lowered_same level left all in grind (arith, nat_tests)

-- The spot with other nests, another place and another offset.
abbrev moved : ℕ → List Remaining → ℕ → ℕ → Spot → Spot
moved depth levels place offset s = record s { depth = depth; levels = levels; place = place; offset = offset }

-- Bytes that lead on in the lowered level lead on in the innermost level.
module _ (s : Spot) (level : Remaining) (tags : Bool) (left : ℕ) (at : s.phase ≡ p.Title)
    (clear : length s.front ≡ 0) (in_none : s.within ≡ w.Nothing) (is : Some level ≡ innermost s.levels)
    (all : counted_behind level ≡ Some left) (deep : tags ≡ true → 0 < s.depth) where
  from_stack : {bytes : List ℕ} (count : ℕ) (To : Spot → Spot) → left ≡ count
      → Leads (record (due s) { levels = lowered count level ∷ others s.levels }) bytes (To (due s))
      → Leads s bytes (To s)
  from_stack {bytes} count To e leads =
      let known : s.levels ≡ lowered count level ∷ others s.levels =
      stack_of s.levels level left is all ∙ ap (λ (z : ℕ). lowered z level ∷ others s.levels) e in
      from_due s at clear in_none To (subst (λ (z : List Remaining). Leads (record (due s) { levels = z }) bytes
      (To (due s))) (sym known) leads)

  -- After some of the items, another item is due in the nest.
  pub run_goes : (last : ℕ) (bytes : List ℕ) (behind : ℕ) → 0 < behind → behind ≤ left + 1
      → ArePlain s.allowed tags s.offset s.place (left + 1 - behind) last bytes
      → Leads s bytes (moved s.depth (lowered (behind - 1) level ∷ others s.levels) last (s.offset + length bytes) s)
  run_goes last bytes behind some fits plain =
      from_stack (left + 1 - behind + (behind - 1))
      (λ z. moved z.depth (lowered (behind - 1) level ∷ others z.levels) last (z.offset + length bytes) z) (omega arith)
      (run_leads s (others s.levels) level tags left (left + 1 - behind) (behind - 1) last bytes all deep plain)

  -- After all items, the nest is done.
  pub run_ends : (last : ℕ) (bytes : List ℕ) (count : ℕ) → count ≡ suc left
      → ArePlain s.allowed tags s.offset s.place count last bytes
      → Leads s bytes (item_done (moved (s.depth + 1) (others s.levels) last (s.offset + length bytes) s))
  run_ends last bytes zero e plain = absurd (omega arith)
  run_ends last bytes (suc count) e (more {last = place} {bytes = xs} {item = item} start so_far one) =
      let rest : List Remaining = others s.levels in
      let m : Spot = record (due s) { levels = lowered 0 level ∷ rest; place = place; offset = s.offset + length xs } in
      let u : Spot = placed start (length item) m in
      let long : s.offset + length (xs ++ item) ≡ s.offset + length xs + length item =
      omega (arith, length-append xs item) in
      let done : item_done u ≡ settled (suc s.depth) rest u = rw (last_lowered level left all, settled) refl in
      let to = done ∙ sym (settled_alike rest (suc s.depth) u (suc s.depth) rest) in
      from_stack (count + 0)
      (λ z. item_done (moved (z.depth + 1) (others z.levels) last (z.offset + length (xs ++ item)) z)) (omega arith)
      (rw (long, add-one s.depth) (leads_more _ m _ xs item
      (run_leads s rest level tags left count 0 place xs all deep so_far)
      (subst (Leads m item) to (one m refl refl refl refl deep))))

-- ---- the title of a nest

below_one : (b : ℕ) → b < 256 → Below (b ∷ [])
below_one b byte i less = grind (arith, nat_tests)

title_enters : (b n : ℕ) (major : Major) (inner level : Remaining) → b ≡ 32 * major_code major + n → n < 24 → b < 256
    → next inner ≡ Some level
    → ((u : Spot) → item_entered (numbered_header major Small n) u ≡ nested u.depth inner u) → IsNestTitle b level
title_enters b n major inner level e small byte left enters = λ s at clear none deep.
    let header = numbered_header major Small n in
    let title = one_taken s.allowed b n major e small in
    let u : Spot = record (due s) { place = s.offset; offset = s.offset + 1 } in
    let new = nested_goes u _ inner level (λ zero. omega (arith, zero, deep)) left refl ∙ sym (enters u) in
    from_due s at clear none (λ (z : Spot). item_due (z.depth - 1) (level ∷ z.levels) (passed 1 z))
    (subst (Leads (due s) (b ∷ [])) (sym new)
    (title_leads (b ∷ []) 1 (due s) header (below_one b byte) refl refl (omega arith) (omega arith)
    title.0 title.1 (λ more. absurd (omega (arith, more)))))

-- The title of an array with `k + 1` items leaves `k` items after the next item.
pub array_enters : (b k : ℕ) → b ≡ 129 + k → k < 23 → IsNestTitle b (l.Items k)
array_enters b k e small =
    title_enters b (suc k) Array (l.Items (suc k)) (l.Items k) (omega (arith, e)) (omega (arith, small))
    (omega (arith, e, small)) refl (λ spot. refl)

-- The title of a map with `k + 1` pairs leaves a value and `k` pairs after the next item.
pub map_enters : (b k : ℕ) → b ≡ 161 + k → k < 23 → IsNestTitle b (l.Value k)
map_enters b k e small =
    title_enters b (suc k) Map (l.Pairs (suc k)) (l.Value k) (omega (arith, e)) (omega (arith, small))
    (omega (arith, e, small)) refl (λ spot. refl)

-- ---- the items after the title

one_byte : (xs : List ℕ) → 0 < length xs → slice_index xs 0 ∷ [] ≡ take 1 xs
one_byte xs some = grind (arith, nat_tests)

module _ (s : Spot) (level : Remaining) (tags : Bool) (left last len : ℕ) (xs : List ℕ) (at : s.phase ≡ p.Title)
    (clear : length s.front ≡ 0) (in_none : s.within ≡ w.Nothing) (deep : 0 < s.depth) (le : len ≤ length xs - 1)
    (enters : IsNestTitle (slice_index xs 0) level) (all : counted_behind level ≡ Some left)
    (deeper : tags ≡ true → 1 < s.depth) where
  -- The spot after the title of the nest.
  abbrev m : Spot
  m = item_due (s.depth - 1) (level ∷ s.levels) (passed 1 (due s))

  abbrev items : List ℕ
  items = take len (take (length xs - 1) (drop 1 xs))

  leads_in : 0 < length xs → (To : Spot → Spot) → Leads m items (To (due s)) → Leads s (take (1 + len) xs) (To s)
  leads_in some To rest =
      from_due s at clear in_none To (rw (take-add 1 len xs)
      (leads_more (due s) m (To (due s)) (take 1 xs) (take len (drop 1 xs))
      (rw (← one_byte xs some) (enters (due s) refl refl refl deep)) (rw (take_rest xs 1) at rest)))

  long : length items ≡ len
  long = length-take-le len (take (length xs - 1) (drop 1 xs)) (omega (arith, rest_long xs 1, le))

  -- With `tags`, a level is left within the nest.
  within : tags ≡ true → 0 < m.depth
  within are = omega (arith, deeper are)

  -- After some of the items, another item is due in the nest.
  pub nest_goes : 0 < length xs → (behind : ℕ) → 0 < behind → behind ≤ left + 1
      → ArePlain s.allowed tags (s.offset + 1) s.offset (left + 1 - behind) last items → Leads s (take (1 + len) xs)
      (moved (s.depth - 1) (lowered (behind - 1) level ∷ s.levels) last (s.offset + 1 + len) s)
  nest_goes some behind due_more fits plain =
      leads_in some (λ z. moved (z.depth - 1) (lowered (behind - 1) level ∷ z.levels) last (z.offset + 1 + len) z)
      (rw long at (run_goes m level tags left refl refl refl refl all within last items behind due_more fits plain))

  -- After all items, the nest is done.
  pub nest_ends : 0 < length xs → (count : ℕ) → count ≡ suc left
      → ArePlain s.allowed tags (s.offset + 1) s.offset count last items
      → Leads s (take (1 + len) xs) (item_done (record s { place = last; offset = s.offset + 1 + len }))
  nest_ends some count counts plain =
      let given_back : s.depth - 1 + 1 ≡ s.depth = omega (arith, deep) in
      leads_in some (λ (z : Spot). item_done (record z { place = last; offset = z.offset + 1 + len }))
      (rw (long, given_back) at (run_ends m level tags left refl refl refl refl all within last items count counts plain))
