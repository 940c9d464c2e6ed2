-- If there is no fault, some bytes make an item of the bytes so far.
use Rattle.std.proofs.Common.{◌≡◌, ℕ, zero, suc, ◌*◌, ◌<◌, ◌⊎◌, inl, inr, true, List, [], ◌∷◌, ◌++◌, length}
use Rattle.std.proofs.Common.{le-leb, refl, sym, arith, append_assoc}
use Rattle.std.proofs.Math.ListN.{replicate}
use Rattle.std.proofs.lemmas.Bool.Decides.{nat_tests}
use Rattle.std.proofs.lemmas.List.{length-replicate}
use Rattle.ciborium_ll_grammar.specs.declared.spelling.Spelling.{Spelling}
use Rattle.ciborium_ll_grammar.specs.declared.hdr.Header.{Header}
use Rattle.ciborium_ll_grammar.specs.Title.{IsTitle, IsCutTitle, AreBytes, numbered, Unsigned, Small}
use Rattle.ciborium_ll_grammar.specs.Items.{AreItems, IsItem, no_items, more_items, positive}
use Rattle.ciborium_ll_grammar.specs.Strings.{Kind}
use Rattle.ciborium_ll_grammar.proofs.AffixLaws.{AreBytes-append}
use Rattle.ciborium_ll_text.specs.declared.state.State.{State}
use Rattle.ciborium_ll_text.specs.declared.state.State.TheVariants as s
use Rattle.ciborium_ll_text.specs.States.{is_from, after_first, after_next, after_byte, after, may_end}
use Rattle.ciborium_ll_text.proofs.EndLaws.{none_left}
use Rattle.ciborium_ll_grammar.specs.declared.remaining.Remaining.{Remaining}
use Rattle.ciborium_ll_grammar.specs.declared.remaining.Remaining.TheVariants as l
use Rattle.cbor_checker.specs.declared.phase.Phase.{Phase}
use Rattle.cbor_checker.specs.declared.phase.Phase.TheVariants as p
use Rattle.cbor_checker.specs.declared.phase.Fault.{Fault}
use Rattle.cbor_parser.specs.declared.strings.Within.{Within}
use Rattle.cbor_parser.specs.declared.strings.Within.TheVariants as w
use Rattle.cbor_checker.specs.Spots.{Spot}
use Rattle.cbor_parser.specs.Strings.{kind_of}
use Rattle.cbor_parser.specs.Titles.{SomeTaken}
use Rattle.cbor_checker.specs.Steps.{titled, TitleStep, StepIn, IsFed, fresh, more}
use Rattle.cbor_checker.proofs.Waiting.{Takes, Ends, EndsStrings, BodyThen, AnyBody, TextBody, TitleDue, StringDone}
use Rattle.cbor_checker.proofs.Waiting.{WaitsIn}
use Rattle.cbor_checker.proofs.StringLaws.{end_back}
use Rattle.cbor_checker.proofs.StepLaws.{fed_same}
use Rattle.cbor_checker.proofs.TitleDueLaws.{title_enters}
use Rattle.cbor_checker.proofs.KeptLaws.{Ready, string_kept, bytes_kept, entered_kept}

-- ---- the end of levels and strings

-- Zeros are items in their shortest spelling.
zeros : (s : Spelling) (d n : ℕ) → (items : List ℕ) × AreItems s d n items
zeros s d zero = ([], no_items)
zeros s d (suc n) =
    let (others, are) = zeros s d n in
    (0 ∷ others, more_items (numbered Unsigned Small 0 (omega arith)) (grind arith) positive are)

-- Each level ends with some number of items and an end.
level_ending : (level : Remaining) → (n : ℕ) × (end : List ℕ) × Takes level n end
level_ending (l.Items n) = (n, [], (refl, refl))
level_ending (l.Pairs n) = (2 * n, [], (refl, refl))
level_ending (l.Value n) = (suc (2 * n), [], (refl, refl))
level_ending l.OpenItems = (0, 0xff ∷ [], (tt, refl))
level_ending l.OpenPairs = (0, 0xff ∷ [], ((0, omega arith), refl))
level_ending l.OpenValue = (1, 0xff ∷ [], ((0, omega arith), refl))

some_ends : (s : Spelling) (levels : List Remaining) (d : ℕ) → (y : List ℕ) × Ends s d levels y
some_ends s [] d = ([], refl)
some_ends s (level ∷ levels) d =
    let (rest, behind) = some_ends s levels (suc d) in
    let (n, end, takes) = level_ending level in
    let (items, are) = zeros s d n in (items ++ (end ++ rest), search)

some_strings : (s : Spelling) (k : Kind) (n : ℕ) (Then : List ℕ → Type 0) → (y : List ℕ) × Then y
    → (z : List ℕ) × EndsStrings s k n Then z
some_strings s k zero Then (y, behind) = (0xff ∷ y, end_back s k Then (0xff ∷ []) y refl behind)
some_strings s k (suc n) Then o =
    let (y, behind) = some_strings s k n Then o in
    (0xff ∷ y, end_back s k (EndsStrings s k n Then) (0xff ∷ []) y refl behind)

some_done : (s : Spelling) (i : Within) (d : ℕ) (levels : List Remaining) → (y : List ℕ) × StringDone s i d levels y
some_done s w.Nothing d levels = some_ends s levels d
some_done s (w.Open k n) d levels = some_strings s (kind_of k) n (Ends s d levels) (some_ends s levels d)

some_due : (s : Spelling) (i : Within) (d : ℕ) (levels : List Remaining) → (y : List ℕ) × TitleDue s i d levels y
some_due s w.Nothing d levels =
    let (rest, behind) = some_ends s levels d in
    let (item, is_item) = zeros s d 1 in
    (item ++ rest, inl (search))
some_due s i d levels = some_done s i d levels

-- ---- the end of a text

-- Some byte continues a text that may end with `n + 1` more bytes.
some_byte : (state : State) (n : ℕ) → may_end state (suc n) ≡ true → (b : ℕ) × (may_end (after_byte state b) n ≡ true)
unfolding is_from after_first after_next
some_byte s.Between n may = (0, le-leb 0 n (omega arith))
some_byte s.BehindE0 n may = (0xa0, grind (arith, nat_tests))
some_byte s.BehindF0 n may = (0x90, grind (arith, nat_tests))
some_byte state n may = (0x80, grind (arith, nat_tests))

some_body : (state : State) (n : ℕ) → may_end state n ≡ true
    → (b : List ℕ) × (length b ≡ n) × (after state b ≡ s.Between)
some_body state zero may = ([], refl, none_left state may)
some_body state (suc n) may =
    let (b, goes) = some_byte state n may in
    let (body, long, ends) = some_body (after_byte state b) n goes in (b ∷ body, omega (arith, long), ends)

-- ---- spots that are sound

-- No title came, or a part of a title that is taken and may stand there.
abbrev pub FrontSound : Spot → Type 0
FrontSound spot = (spot.front ≡ []) ⊎ (AreBytes spot.front × IsCutTitle spot.front
    × SomeTaken spot.allowed spot.front × ((behind : List ℕ) (x : Header) (fault : Fault)
    → IsTitle (spot.front ++ behind) x
    → (titled x spot).phase ≡ p.Faulted fault → ⊥))

abbrev pub Sound : Spot → Type 0
Sound spot = Ready spot.phase × (spot.phase ≡ p.Title → FrontSound spot)

-- ---- each spot that bytes lead to is sound

byte_front : (spot : Spot) (b : ℕ) → b < 256 → FrontSound spot → AreBytes (spot.front ++ b ∷ [])
byte_front spot b byte sound = grind (arith, AreBytes-append)

title_sound : (spot new : Spot) → TitleStep spot new → spot.phase ≡ p.Title → AreBytes spot.front → Sound new
title_sound spot new step e bytes = grind (arith, entered_kept)

step_sound : (phase : Phase) (spot new : Spot) (b : ℕ) → phase ≡ spot.phase → Sound spot → b < 256
    → StepIn phase spot b new → Sound new
step_sound phase spot new b e sound byte step =
    grind (arith, title_sound, byte_front, bytes_kept, string_kept)

pub fed_sound : (s : Spelling) (d : ℕ) (fed : List ℕ) (spot : Spot) → IsFed s d fed spot → Sound spot
fed_sound s d fed spot fresh = (tt, λ at. inl refl)
fed_sound s d fed spot (more {bytes = a} {spot = before} b byte is step) =
    step_sound before.phase before spot b refl (fed_sound s d a before is) byte step

-- ---- a sound spot without a fault waits for some bytes

abbrev NoFault : Spot → Type 0
NoFault spot = (fault : Fault) → spot.phase ≡ p.Faulted fault → ⊥

body_goes : (Sound : List ℕ → Type 0) (n : ℕ) (spot : Spot) → (b : List ℕ) × (length b ≡ n) × Sound b
    → (y : List ℕ) × BodyThen n Sound (StringDone spot.allowed spot.within spot.depth spot.levels) y
body_goes Sound n spot (body, long, sound) =
    let (rest, behind) = some_done spot.allowed spot.within spot.depth spot.levels in
    (body ++ rest, search)

first_goes : (spot : Spot) → spot.front ≡ []
    → (y : List ℕ) × TitleDue spot.allowed spot.within spot.depth spot.levels (spot.front ++ y)
first_goes spot clear = rw clear (some_due spot.allowed spot.within spot.depth spot.levels)

-- A sound spot without a fault waits for some bytes, if this spot does with a title due.
live_in : (phase : Phase) (spot : Spot) → phase ≡ spot.phase → Ready phase → NoFault spot
    → (phase ≡ p.Title → (y : List ℕ) × WaitsIn p.Title spot y) → (y : List ℕ) × WaitsIn phase spot y
live_in p.Title spot e ready goes title = title refl
live_in (p.Bytes n) spot e ready goes title = body_goes AnyBody n spot (replicate n 0, length-replicate n 0, tt)
live_in (p.Text zero state) spot e ready goes title = absurd ready
live_in (p.Text (suc n) state) spot e ready goes title =
    body_goes (TextBody state) (suc n) spot (some_body state (suc n) ready)
live_in p.Ended spot e ready goes title = ([], refl)
live_in (p.Faulted fault) spot e ready goes title = absurd (goes fault (sym e))

title_goes : (spot : Spot) → FrontSound spot
    → (y : List ℕ) × TitleDue spot.allowed spot.within spot.depth spot.levels (spot.front ++ y)
title_goes spot (inl clear) = first_goes spot clear
title_goes spot (inr (bytes, c, (behind, header, is_title, taken), may)) =
    let at = titled header spot in
    let before = record spot { front = [] } in
    let kept = entered_kept spot.within header before in
    let goes = live_in at.phase at refl kept.2 (λ fault is. may behind header fault is_title is)
    (λ title. first_goes at kept.0) in
    let due = (title_enters spot.within before (spot.front ++ behind) goes.0 header refl refl is_title taken).1
    goes.1 in (behind ++ goes.0, rw append_assoc at due)

-- If there is no fault, some bytes make an item of the bytes so far.
pub fed_goes : (s : Spelling) (d : ℕ) (fed : List ℕ) (spot : Spot) → IsFed s d fed spot → NoFault spot
    → (y : List ℕ) × IsItem s d (fed ++ y)
fed_goes s d fed spot is goes =
    let sound = fed_sound s d fed spot is in
    let o = live_in spot.phase spot refl sound.0 goes (λ at. title_goes spot (sound.1 at)) in
    (o.0, (fed_same s d fed spot is o.0).1 o.1)
