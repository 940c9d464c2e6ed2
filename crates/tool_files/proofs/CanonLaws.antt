-- The places of refusals, and the encodings of one item more.
use Rattle.std.proofs.Common.{◌≡◌, ◌≤◌, ◌+◌, ◌-◌, ℕ, List, [], ◌++◌, length, arith, Option, None, Some}
use Rattle.std.proofs.Common.{IfSome, length-append, append_assoc, refl, sym, ◌∙◌, ap, subst, ◌^◌, ◌<◌, min, ◌∷◌}
use Rattle.ciborium_ll_grammar.specs.declared.spelling.Spelling.{Spelling}
use Rattle.ciborium_ll_grammar.specs.declared.spelling.Spelling.TheVariants.{Any}
use Rattle.ciborium_ll_grammar.specs.Faults.{Answer, BodyDue, Due, FirstFault, In, Point, Syntax}
use Rattle.ciborium_ll_grammar.specs.Faults.{CutTitle, NoTitle, LongTitle, OtherTitle, DamagedText, CutBody}
use Rattle.ciborium_ll_grammar.specs.Faults.{CutDamagedText}
use Rattle.ciborium_ll_grammar.specs.Elements.{Mark}
use Rattle.ciborium_ll_grammar.specs.Items.{AreItems, more_items, no_items}
use Rattle.ciborium_ll_grammar.proofs.AloneLaws.{title_some}
use Rattle.cbor_skip.specs.Due.{ReachesItem, at_body, at_item, at_piece, at_string}
use Rattle.cbor_skip.specs.ItemFaults.{HasItemFault}
use Rattle.cbor_deterministic.specs.declared.Order.{Order}
use Rattle.cbor_canonical.specs.Canonical.{IsCanonical}
use Rattle.cbor_canonical.specs.Refusals.{HasRefusal, IsUnwritten}
use Rattle.cbor_canonical.specs.declared.CanonicalError.{CanonicalError}
use Rattle.cbor_canonical.specs.declared.CanonicalError.TheVariants.{Refused, Memory}
use Rattle.cbor_canonical.specs.declared.Why.{Why}
use Rattle.cbor_canonical.specs.declared.Why.TheVariants as w
use Rattle.tool_files.specs.Given.{IsWhole}
use Rattle.tool_files.specs.Canon.{AreRewritten, AreUnwritten, IsErrorAt, more}

-- ---- places

-- The place of a body at this point is at most this number.
abbrev IsPlaceWithin : Point → ℕ → Type 0
IsPlaceWithin (BodyDue kind len start) most = start ≤ most
IsPlaceWithin Due most = Unit {0}
IsPlaceWithin (In kind) most = Unit {0}

reach_within : (allowed : Spelling) (depth : ℕ) (before : List ℕ) (point : Point)
    → ReachesItem allowed depth before point
    → IsPlaceWithin point (length before)
reach_within allowed depth before point (at_item due) = tt
reach_within allowed depth before point (at_string due inside taken writable) = tt
reach_within allowed depth before point (at_body kind reach title taken) = omega arith
reach_within allowed depth before point (at_piece {bytes = b} {title = t} reach title taken) =
    omega (arith, length-append b t)

same_place : (m n : ℕ) → Syntax m ≡ Syntax n → m ≡ n
same_place m n same = grind (arith, same)

fault_within : (allowed : Spelling) (before : List ℕ) (marks : List Mark) (point : Point) (ahead : List ℕ)
    (answer : Answer)
    (written : List ℕ) (consumed at : ℕ) → FirstFault allowed before marks point ahead answer written consumed
    → answer ≡ Syntax at → IsPlaceWithin point (length before) → at ≤ length before
fault_within allowed before marks point ahead answer written consumed at (CutTitle due cut) is within =
    absurd (grind (arith, is))
fault_within allowed before marks point ahead answer written consumed at (NoTitle due refused) is within =
    omega (arith, same_place _ _ is)
fault_within allowed before marks point ahead answer written consumed at (LongTitle header rest due title none all) is
    within = omega (arith, same_place _ _ is)
fault_within allowed before marks point ahead answer written consumed at (OtherTitle header rest title misplaced all) is
    within = omega (arith, same_place _ _ is)
fault_within allowed before marks point ahead answer written consumed at (DamagedText front rest a b c d e f) is
    within =
    omega (arith, same_place _ _ is, within)
fault_within allowed before marks point ahead answer written consumed at (CutBody front rest a b c d e f) is within =
    absurd (grind (arith, is))
fault_within allowed before marks point ahead answer written consumed at (CutDamagedText front rest a b c d e f) is
    within = omega (arith, same_place _ _ is, within)

-- A fault of an item is within its bytes.
syntax_within : (allowed : Spelling) (depth : ℕ) (bytes : List ℕ) (at : ℕ) (fault : HasItemFault allowed depth bytes)
    → fault.answer ≡ Syntax at → at ≤ length bytes
syntax_within allowed depth bytes at fault is = omega (
  arith,
  fault_within allowed fault.before [] fault.point fault.ahead fault.answer fault.written fault.consumed at fault.fault
      is (reach_within allowed depth fault.before fault.point fault.reach),
  ap (length {A = ℕ}) fault.is,
  length-append fault.before fault.ahead,
)

-- A place among the bytes after the items that were rewritten, from the start of all the bytes.
abbrev IsMoved : ℕ → ℕ → List ℕ → Why → ℕ → Type 0
IsMoved start depth ahead why moved = (at : ℕ) × HasRefusal depth ahead why at × (moved ≡ start + at)

moved_to : (start depth : ℕ) (ahead : List ℕ) (why : Why) (place moved : ℕ) → start + length ahead < 2 ^ 64
    → HasRefusal depth ahead why place → moved ≡ min (start + place) (2 ^ 64 - 1) → IsMoved start depth ahead why moved
moved_to start depth ahead w.Cut place moved fits refused is =
    let within = refused.2 in (place, refused, omega (arith, is, within, fits))
moved_to start depth ahead w.Malformed place moved fits refused is =
    let within = syntax_within Any depth ahead place refused.0 refused.1 in
    (place, refused, omega (arith, is, within, fits))
moved_to start depth ahead w.Break place moved fits refused is =
    let within = refused.1 in
    let all = ap (length {A = ℕ}) refused.0.is in
    let parts = length-append refused.0.before (255 ∷ refused.0.rest) in
    (place, refused, omega (arith, is, within, fits, all, parts))
moved_to start depth ahead w.Deep place moved fits refused is =
    let within = refused.1 in
    let all = ap (length {A = ℕ}) refused.0.is in
    let parts = length-append refused.0.before (refused.0.title ++ refused.0.rest) in
    (place, refused, omega (arith, is, within, fits, all, parts))
moved_to start depth ahead w.NoSimple place moved fits refused is =
    let k = refused.2 in
    let all = ap (length {A = ℕ}) k.is in
    let parts = length-append k.before (0xf8 ∷ k.number ∷ k.rest) in
    (place, refused, omega (arith, is, k.place_is, fits, all, parts))
moved_to start depth ahead w.DuplicateKey place moved fits refused is =
    let k = refused.2 in
    let within : place ≤ length ahead =
    omega (
      arith,
      k.place_is,
      ap (length {A = ℕ}) k.is,
      length-append k.before (k.title ++ (k.front ++ (k.key ++ (k.between ++ (k.again ++ k.rest))))),
      length-append k.title (k.front ++ (k.key ++ (k.between ++ (k.again ++ k.rest)))),
      length-append k.front (k.key ++ (k.between ++ (k.again ++ k.rest))),
      length-append k.key (k.between ++ (k.again ++ k.rest)),
      length-append k.between (k.again ++ k.rest),
      length-append k.before (k.title ++ (k.front ++ (k.key ++ k.between))),
      length-append k.title (k.front ++ (k.key ++ k.between)),
      length-append k.front (k.key ++ k.between),
      length-append k.key k.between,
    ) in
    (place, refused, omega (arith, is, within, fits))

-- ---- items and their encodings

module _ (order : Order) (depth : ℕ) where
  -- The error of `canonical` at the bytes after rewritten items is that of all the bytes.
  pub unwritten_there : (bytes before encodings ahead : List ℕ) (start : ℕ) (error moved : CanonicalError)
      → AreRewritten order depth before encodings → bytes ≡ before ++ ahead → (ahead ≡ [] → ⊥)
      → start + length ahead ≡ length bytes → length bytes < 2 ^ 64 → IsUnwritten depth ahead error
      → IsErrorAt start error moved → AreUnwritten order depth bytes moved
  unwritten_there bytes before encodings ahead start (Refused r) (Refused m) are whole some sum fits refused is =
      let first : start ≡ length before = omega (
        arith,
        sum,
        ap (length {A = ℕ}) whole,
        length-append before ahead,
      ) in
      let to = moved_to start depth ahead r.why r.place m.place (omega (arith, sum, fits)) refused is.1 in
      record {
        before = before;
        encodings = encodings;
        ahead = ahead;
        are = are;
        is = whole;
        some = some;
        at = to.0;
        refused = subst (λ (why : Why). HasRefusal depth ahead why to.0) (sym is.0) to.1;
        place = omega (arith, to.2, first);
      }
  unwritten_there bytes before encodings ahead start (Refused r) Memory are whole some sum fits refused is = absurd is
  unwritten_there bytes before encodings ahead start Memory (Refused m) are whole some sum fits refused is = absurd is
  unwritten_there bytes before encodings ahead start Memory Memory are whole some sum fits refused is = record {
    before = before;
    encodings = encodings;
    ahead = ahead;
    are = are;
    is = whole;
    front = refused;
  }

  -- Some bytes begin with items whose encodings these are, and the rest follows.
  pub record Rewrites (bytes encodings rest : List ℕ) : Type 0 where
    pub items : List ℕ
    pub are : AreRewritten order depth items encodings
    pub whole : bytes ≡ items ++ rest

  -- One more item, and its encoding.
  pub rewrites_more : (bytes encodings rest behind encoding : List ℕ) → Rewrites bytes encodings rest
      → IsCanonical order depth rest behind encoding → Rewrites bytes (encodings ++ encoding) behind
  rewrites_more bytes encodings rest behind encoding so_far one = record {
    items = so_far.items ++ one.item;
    are = more so_far.are one.is;
    whole = so_far.whole ∙ ap (λ (z : List ℕ). so_far.items ++ z) one.whole
        ∙ sym (append_assoc so_far.items one.item behind);
  }

-- An item has a byte.
item_some : (depth k : ℕ) (w : List ℕ) → AreItems Any depth k w → k ≡ 1 → 0 < length w
item_some depth k w no_items one = absurd (omega arith)
item_some depth k w (more_items {title = t} {rest = r} {others = o} p s c others) one =
    omega (arith, title_some t _ p, length-append t (r ++ o))

-- The rest after an item is shorter.
pub rest_shorter : (order : Order) (depth : ℕ) (bytes rest encoding : List ℕ)
    → IsCanonical order depth bytes rest encoding → length rest < length bytes
rest_shorter order depth bytes rest encoding one = omega (
  arith,
  item_some depth 1 one.item one.is.is_item refl,
  ap (length {A = ℕ}) one.whole,
  length-append one.item rest,
)

-- All bytes of a reader are in a vector that was empty.
pub given : (known : Option (List ℕ)) (old new : List ℕ) → old ≡ [] → IfSome known (λ xs. new ≡ old ++ xs)
    → IsWhole known new
given None old new empty read = tt
given (Some all) old new empty read = read ∙ ap (λ (z : List ℕ). z ++ all) empty
