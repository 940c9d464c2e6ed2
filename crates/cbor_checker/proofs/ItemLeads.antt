-- The spots after a whole title, and after an item whose bytes are all there.
use Rattle.std.proofs.Common.{◌≡◌, ℕ, ◌+◌, ◌/◌, ◌%◌, ◌<◌, ◌≤◌, List, [], ◌∷◌, ◌++◌, length, take, slice_index, refl}
use Rattle.std.proofs.Common.{sym, ap, subst, ◌∙◌, arith, append_assoc, None, length-append, zero, suc, ◌-◌, true}
use Rattle.std.proofs.Common.{length-drop, drop, Some, inl, inr, add-zero}
use Rattle.std.proofs.lemmas.Bool.Decides.{nat_tests}
use Rattle.std.proofs.lemmas.List.{get_or-take, length-take-le, get_or-drop}
use Rattle.ciborium_ll_text.proofs.Lists.{Below, below_rest, below_take, length_zero}
use Rattle.ciborium_ll_grammar.specs.declared.spelling.Spelling.{Spelling}
use Rattle.ciborium_ll_grammar.specs.declared.spelling.Spelling.TheVariants.{Any}
use Rattle.ciborium_ll_grammar.specs.declared.hdr.Header.{Header}
use Rattle.ciborium_ll_grammar.specs.declared.hdr.table.TitleKind.{TitleKind}
use Rattle.ciborium_ll_grammar.specs.Title.{IsTitle, affix_len, AreBytes, title_len}
use Rattle.ciborium_ll_grammar.specs.Items.{IsTakenTitle}
use Rattle.ciborium_ll_grammar.specs.TitleRows.{IsTitleKind}
use Rattle.ciborium_ll_grammar.proofs.AffixLaws.{announced, refused_affix, title_or_refused}
use Rattle.cbor_checker.specs.declared.phase.Phase.TheVariants as p
use Rattle.cbor_parser.specs.declared.strings.Within.{Within}
use Rattle.cbor_checker.specs.Blocked.{blocked, is_single}
use Rattle.cbor_checker.specs.Spots.{Spot, entered, at_phase, body_placed, bytes_due, item_done, item_entered, text_due}
use Rattle.cbor_checker.specs.Steps.{Leads, TitleStep, stay, go, with_byte, counted_by}
use Rattle.cbor_checker.proofs.BlockedLaws.{blocked_none, step_whole, value_entered, value_free}
use Rattle.cbor_checker.proofs.LeadLaws.{title_one, between_ends, bytes_lead, due_alike, leads_more, left_alike}
use Rattle.cbor_checker.proofs.LeadLaws.{text_leads}
use Rattle.std.proofs.Math.Seq.{take-add}
use Rattle.ciborium_ll_text.specs.declared.state.State.TheVariants as s
use Rattle.ciborium_ll_text.specs.States.{after}
use Rattle.ciborium_ll_grammar.specs.declared.hdr.Header.TheVariants as h
use Rattle.ciborium_ll_grammar.proofs.TitleLaws.{shortest_no_longer}
use Rattle.cbor_parser.specs.declared.strings.Within.TheVariants as w
use Rattle.cbor_checker.specs.Plain.{IsPlainItem, passed}

-- The kind of this first byte allows a title to stand there.
pub record MayStand (within : Within) (depth place b : ℕ) : Type 0 where
  pub kind : TitleKind
  pub is : IsTitleKind kind (b / 32) (b % 32)
  pub free : blocked within depth place kind ≡ None

-- A title isn't whole before a byte that belongs to it.
is_cut : (t fs r : List ℕ) (b x : ℕ) (header : Header) → IsTitle t header → t ≡ (b ∷ fs) ++ x ∷ r
    → length fs < affix_len (b % 32)
is_cut t fs r b x header is e =
    let a = announced t header is in
    let heads : a.byte ≡ b = cc in
    let tails : a.affix ≡ fs ++ x ∷ r = cc in
    let long : length a.affix ≡ affix_len (b % 32) = rw heads at a.long in
    let whole = ap length tails in
    omega (arith, long, whole, length-append fs (x ∷ r))

-- The spot with this front and this offset.
abbrev at_front : Spot → List ℕ → ℕ → Spot
at_front u front n = record u { front = front; offset = n }

-- The bytes of a title after its first byte, which is in the front, lead to the spot after the whole title.
module _ (u : Spot) (b : ℕ) (header : Header) (at : u.phase ≡ p.Title) (may : MayStand u.within u.depth u.place b) where
  cut_step : (fs r : List ℕ) (x k : ℕ) → IsTitle (b ∷ fs ++ x ∷ r) header
      → IsTakenTitle u.allowed (b ∷ fs ++ x ∷ r) header → TitleStep (at_front u (b ∷ fs) k) (at_front u (b ∷ fs) k)
  cut_step fs r x k is taken =
      blocked_none (at_front u (b ∷ fs) k) may.kind b fs refl (is_cut _ fs r b x header is refl) may.is
      (x ∷ r, header, is, taken) may.free

  affix_leads : (x : ℕ) (r fs : List ℕ) (k n : ℕ) → Below (x ∷ r) → IsTitle (b ∷ fs ++ x ∷ r) header
      → IsTakenTitle u.allowed (b ∷ fs ++ x ∷ r) header → n ≡ k + length (x ∷ r)
      → Leads (at_front u (b ∷ fs) k) (x ∷ r) (entered u.within header (at_front u [] n))
  affix_leads x [] fs k n below is taken e =
      let s = at_front u (b ∷ fs) k in
      rw e (go x (below 0 (omega arith)) (title_one x s _ at (step_whole (with_byte x s) _ header is taken refl)) stay)
  affix_leads x (y ∷ ys) fs k n below is taken e =
      let front = fs ++ x ∷ [] in
      let is' : IsTitle (b ∷ front ++ y ∷ ys) header = rw append_assoc is in
      let taken' : IsTakenTitle u.allowed (b ∷ front ++ y ∷ ys) header = rw append_assoc taken in
      go x (below 0 (omega arith)) (title_one x (at_front u (b ∷ fs) k) _ at (cut_step front ys y (k + 1) is' taken'))
      (affix_leads y ys front (k + 1) n (below_rest x (y ∷ ys) below) is' taken' (omega (arith, e)))

-- All bytes of a title lead to the spot after the title, if none of them came before.
fresh_leads : (t : List ℕ) (n : ℕ) (s : Spot) (header : Header) → Below t → s.phase ≡ p.Title → n ≡ length t → 0 < n
    → IsTitle t header → IsTakenTitle s.allowed t header
    → (1 < n → MayStand s.within s.depth s.offset (slice_index t 0))
    → Leads (record s { front = [] }) t
    (entered s.within header (record s { front = []; place = s.offset; offset = s.offset + n }))
fresh_leads [] n s header below at long some is taken may = absurd (omega arith)
fresh_leads (b ∷ []) n s header below at long some is taken may =
    let empty : Spot = record s { front = [] } in
    rw long (go b (below 0 (omega arith))
    (title_one b empty _ at (step_whole (with_byte b empty) _ header is taken refl)) stay)
fresh_leads (b ∷ y ∷ ys) n s header below at long some is taken may =
    let u : Spot = record s { place = s.offset } in
    let stands = may (omega arith) in
    go b (below 0 (omega arith))
    (title_one b (record s { front = [] }) _ at (cut_step u b header at stands [] ys y (s.offset + 1) is taken))
    (affix_leads u b header at stands y ys [] (s.offset + 1) _ (below_rest b (y ∷ ys) below) is taken (omega arith))

-- If the first byte announces `n - 1` bytes, the first `n` bytes are as long as a title that begins so.
pub front_whole : (xs : List ℕ) (n : ℕ) → n ≤ length xs → n ≡ 1 + affix_len (slice_index xs 0 % 32)
    → length (take n xs) ≡ 1 + affix_len (slice_index (take n xs) 0 % 32)
front_whole xs n le whole =
    let first = get_or-take n xs 0 0 (omega (arith, whole)) in rw first (length-take-le n xs le ∙ whole)

-- A whole title at the start of a list leads to the spot after the title.
pub title_leads : (xs : List ℕ) (n : ℕ) (s : Spot) (header : Header) → Below xs → s.phase ≡ p.Title
    → length s.front ≡ 0 → 0 < n → n ≤ length xs → IsTitle (take n xs) header
    → IsTakenTitle s.allowed (take n xs) header
    → (1 < n → MayStand s.within s.depth s.offset (slice_index xs 0))
    → Leads s (take n xs) (entered s.within header (record s { place = s.offset; offset = s.offset + n }))
title_leads xs n s header below at clear some le is taken may =
    let same : s ≡ record s { front = [] } = ap (λ (z : List ℕ). record s { front = z }) (length_zero s.front clear) in
    subst (λ (z : Spot).
    Leads z (take n xs) (entered z.within header (record z { place = z.offset; offset = z.offset + n }))) (sym same)
    (fresh_leads (take n xs) n s header (below_take n xs le below) at (sym (length-take-le n xs le)) some is taken
    (rw (get_or-take n xs 0 0 some) may))

-- ---- an item is due

-- An item is due, and nothing of its title came.
abbrev pub due : Spot → Spot
due s = record s { phase = p.Title; front = []; within = w.Nothing }

due_is : (s : Spot) → s.phase ≡ p.Title → length s.front ≡ 0 → s.within ≡ w.Nothing → s ≡ due s
due_is s at clear in_none = let none = length_zero s.front clear in grind (arith, nat_tests)

pub from_due : {bytes : List ℕ} (s : Spot) → s.phase ≡ p.Title → length s.front ≡ 0 → s.within ≡ w.Nothing
    → (To : Spot → Spot) → Leads (due s) bytes (To (due s)) → Leads s bytes (To s)
from_due {bytes} s at clear in_none To = subst (λ (z : Spot). Leads z bytes (To z)) (sym (due_is s at clear in_none))

-- A plain item leads to the spot after an item, with any empty front.
pub plain_leads : (xs front : List ℕ) (n offset : ℕ) (s new : Spot) → IsPlainItem s.allowed (take n xs) → n ≤ length xs
    → s.phase ≡ p.Title → length s.front ≡ 0 → s.within ≡ w.Nothing → length front ≡ 0 → offset ≡ s.offset + n
    → new ≡ item_done (record s { front = front; place = s.offset; offset = offset }) → Leads s (take n xs) new
plain_leads xs front n offset s new plain le at clear in_none none counts e =
    let behind : offset ≡ s.offset + length (take n xs) = omega (arith, counts, length-take-le n xs le) in
    rw (e, length_zero front none, behind) (plain s at clear in_none refl)

-- ---- a title and the body after it

below_drop : (n : ℕ) (xs : List ℕ) → Below xs → Below (drop n xs)
below_drop n xs below = λ i less.
    let same = get_or-drop n xs i 0 in let b = below (n + i) (omega (arith, less, length-drop n xs)) in
    omega (arith, same, b)

none_left : (len : ℕ) → len - len ≡ 0
none_left len = omega arith

bytes_come : (xs : List ℕ) (len : ℕ) (u : Spot) → Below xs → len ≤ length xs
    → Leads (bytes_due len (due u)) (take len xs) (item_done (counted_by len (due u)))
bytes_come xs zero u below le = rw (add-zero u.offset) stay
bytes_come xs (suc k) u below le =
    bytes_lead xs (suc k) (suc k) (at_phase (p.Bytes (suc k)) (due u)) _ below refl (omega arith) le (omega arith)
    (rw (none_left (suc k)) (sym (due_alike 0 (counted_by (suc k) (due u)) (p.Bytes (suc k)))))

text_come : (xs : List ℕ) (len : ℕ) (u : Spot) → Below xs → len ≤ length xs → s.Between ≡ after s.Between (take len xs)
    → Leads (text_due len (due u)) (take len xs) (item_done (counted_by len (due u)))
text_come xs zero u below le ends = rw (add-zero u.offset) stay
text_come xs (suc k) u below le ends =
    text_leads xs (suc k) (suc k) s.Between s.Between (at_phase (p.Text (suc k) s.Between) (due u)) _ below refl
    (omega arith) le (omega arith) ends (between_ends _)
    (rw (none_left (suc k)) (sym (left_alike true 0 s.Between (counted_by (suc k) (due u)) (p.Text (suc k) s.Between))))

-- A title of `n` bytes, which is taken and may stand there, and a body of `len` bytes are a plain item.
module _ (xs : List ℕ) (n len all : ℕ) (allowed : Spelling) (below : Below xs) (some : 0 < n) (sum : all ≡ n + len)
    (le : all ≤ length xs) (may : 1 < n → (d place : ℕ) → MayStand w.Nothing d place (slice_index xs 0)) where
  titled_item : (header : Header) → IsTitle (take n xs) header × IsTakenTitle allowed (take n xs) header
      → ((s : Spot) → Leads (item_entered header (passed n (due s))) (take len (drop n xs))
      (item_done (counted_by len (passed n (due s))))) → IsPlainItem allowed (take all xs)
  titled_item header title body = λ s at clear in_none same.
      let long = length-take-le all xs le in
      let moved : s.offset + length (take all xs) ≡ s.offset + n + len = omega arith in
      let bytes : take all xs ≡ take n xs ++ take len (drop n xs) = ap (λ (z : ℕ). take z xs) sum ∙ take-add n len xs in
      let from = due s in
      let to : passed (length (take all xs)) from ≡ counted_by len (passed n from) =
      ap (λ (z : ℕ). record from { place = s.offset; offset = z }) moved in
      let first = title_leads xs n from header below refl refl some (omega arith) title.0 (rw same title.1)
      (λ more. may more s.depth s.offset) in
      from_due s at clear in_none (λ (z : Spot). item_done (passed (length (take all xs)) z))
      (rw (to, bytes) (leads_more from (item_entered header (passed n from)) _ (take n xs) (take len (drop n xs)) first
      (body s)))

  -- A byte string is a plain item.
  pub bytes_item : IsTitle (take n xs) (h.Bytes (Some len)) × IsTakenTitle allowed (take n xs) (h.Bytes (Some len))
      → IsPlainItem allowed (take all xs)
  bytes_item title =
      titled_item (h.Bytes (Some len)) title (λ s. bytes_come (drop n xs) len (passed n (due s)) (below_drop n xs below)
      (omega (arith, length-drop n xs)))

  -- A text with its shortest title is a plain item.
  pub text_item : IsTitle (take n xs) (h.Text (Some len)) × IsTakenTitle allowed (take n xs) (h.Text (Some len))
      → title_len (h.Text (Some len)) ≡ n → s.Between ≡ after s.Between (take len (drop n xs))
      → IsPlainItem allowed (take all xs)
  text_item title shortest ends =
      titled_item (h.Text (Some len)) title (λ s.
      let u = passed n (due s) in
      let here : (s.offset + n) - title_len (h.Text (Some len)) ≡ s.offset = omega (arith, shortest) in
      let placed : body_placed len u ≡ u = ap (λ (z : ℕ). record u { place = z }) here in
      rw placed (text_come (drop n xs) len u (below_drop n xs below) (omega (arith, length-drop n xs)) ends))

-- If a text's title has one byte, its shortest title has one byte.
pub one_long : (t : List ℕ) (len : ℕ) → IsTitle t (h.Text (Some len)) → length t ≡ 1 → title_len (h.Text (Some len)) ≡ 1
one_long t len is long =
    let least : 0 < title_len (h.Text (Some len)) = omega arith in
    let most = shortest_no_longer t (h.Text (Some len)) is in
    omega (arith, least, most, long)

-- A title that is an item by itself is a plain item.
pub title_item : (xs : List ℕ) (n : ℕ) (allowed : Spelling) (header : Header) → Below xs → 0 < n → n ≤ length xs
    → (1 < n → (d place : ℕ) → MayStand w.Nothing d place (slice_index xs 0))
    → IsTitle (take n xs) header × IsTakenTitle allowed (take n xs) header
    → ((u : Spot) → item_entered header u ≡ item_done u) → IsPlainItem allowed (take n xs)
title_item xs n allowed header below some le may title ends =
    titled_item xs n 0 n allowed below some (omega arith) le may header title
    (λ s. rw (ends (passed n (due s)), add-zero (s.offset + n)) stay)

-- ---- a longer title of a number, a float or a simple value

below_bytes : (xs : List ℕ) → Below xs → AreBytes xs
below_bytes [] below = tt
below_bytes (x ∷ xs) below = (below 0 (omega arith), below_bytes xs (below_rest x xs below))

pub value_item : (xs : List ℕ) (n : ℕ) (kind : TitleKind) → Below xs → is_single kind ≡ true → 1 < n → n ≤ length xs
    → n ≡ 1 + affix_len (slice_index xs 0 % 32) → IsTitleKind kind (slice_index xs 0 / 32) (slice_index xs 0 % 32)
    → IsPlainItem Any (take n xs)
value_item [] n kind below value more le long is = absurd (omega arith)
value_item (b ∷ xs) n kind below value more le long is =
    let affix : List ℕ = take (affix_len (b % 32)) xs in
    let counts : n ≡ suc (affix_len (b % 32)) = omega (arith, long) in
    let fits : affix_len (b % 32) ≤ length xs = omega (arith, le, long) in
    let bytes = below_bytes affix (below_take (affix_len (b % 32)) xs fits (below_rest b xs below)) in
    let some : 0 < affix_len (b % 32) = omega (arith, more, long) in
    elim (title_or_refused b affix (below 0 (omega arith)) bytes (length-take-le (affix_len (b % 32)) xs fits)) [
      | inl r ↦ absurd (let none = refused_affix b r in omega (arith, none, some))
      | inr t ↦ title_item (b ∷ xs) n Any t.0 below (omega (arith, more)) le
          (λ more d place. record { kind = kind; is = is; free = value_free d place kind value }) (rw counts t.1, tt)
          (λ u. value_entered b affix (b ∷ affix) t.0 kind u t.1 refl some is value)
    ]
