-- The kind of a first byte decides whether a title with this beginning may stand there.
use Rattle.std.proofs.Common.{◌≡◌, ℕ, zero, suc, ◌/◌, ◌%◌, ◌<◌, ◌≤◌, true, List, [], ◌∷◌, ◌++◌, length, Some, None}
use Rattle.std.proofs.Common.{refl, arith, slice_index, length-drop}
use Rattle.ciborium_ll_grammar.specs.declared.hdr.Header.{Header}
use Rattle.ciborium_ll_grammar.specs.declared.hdr.table.TitleKind.{TitleKind}
use Rattle.ciborium_ll_grammar.specs.Title.{affix_len, IsTitle}
use Rattle.ciborium_ll_grammar.specs.Items.{IsTakenTitle}
use Rattle.ciborium_ll_grammar.specs.TitleRows.{IsTitleKind, IsRow}
use Rattle.ciborium_ll_grammar.specs.declared.hdr.table.Row.{Row}
use Rattle.ciborium_ll_grammar.proofs.TitleKinds.{kind_of, Numbered, numbered_title, kind_at, parted}
use Rattle.ciborium_ll_grammar.specs.declared.remaining.Remaining.{Remaining}
use Rattle.ciborium_ll_grammar.specs.declared.remaining.Remaining.TheVariants as l
use Rattle.cbor_checker.specs.declared.phase.Phase.TheVariants as p
use Rattle.cbor_parser.specs.declared.strings.Within.{Within}
use Rattle.cbor_parser.specs.declared.strings.Within.TheVariants as w
use Rattle.cbor_checker.specs.declared.phase.Fault.{Fault}
use Rattle.cbor_checker.specs.Blocked.{blocked, is_single}
use Rattle.cbor_checker.specs.Spots.{Spot, at_phase, settled, string_done, item_done, item_entered, refused}
use Rattle.cbor_parser.specs.Titles.{IsNoTakenTitle, NoneTaken, SomeTaken}
use Rattle.cbor_parser.proofs.TakenLaws.{none_begins}
use Rattle.cbor_checker.specs.Steps.{titled, TitleStep, cut, early, whole, none}

-- ---- no fault after a whole item

pub settled_sound : (levels : List Remaining) (d : ℕ) (spot : Spot) (fault : Fault)
    → (settled d levels spot).phase ≡ p.Faulted fault → ⊥
settled_sound (l.Items zero ∷ gs) d spot fault is = settled_sound gs (suc d) spot fault is
settled_sound (l.Pairs zero ∷ gs) d spot fault is = settled_sound gs (suc d) spot fault is
settled_sound gs d spot fault is = cc

pub string_sound : (i : Within) (spot : Spot) (fault : Fault) → (string_done i spot).phase ≡ p.Faulted fault → ⊥
string_sound i spot fault is = grind (arith, settled_sound)

-- ---- a number, a float or a simple value

-- A number, a float or a simple value may stand wherever an item is due.
pub value_free : (d place : ℕ) (kind : TitleKind) → is_single kind ≡ true → blocked w.Nothing d place kind ≡ None
value_free d place kind v = grind arith

-- If the first byte announces more bytes, the title of a number, a float or a simple value ends its item.
pub value_entered : (byte : ℕ) (v t : List ℕ) (x : Header) (kind : TitleKind) (spot : Spot) → IsTitle t x → t ≡ byte ∷ v
    → 0 < affix_len (byte % 32) → IsTitleKind kind (byte / 32) (byte % 32) → is_single kind ≡ true
    → item_entered x spot ≡ item_done spot
value_entered byte v t x kind spot q e more i value =
    let o = numbered_title byte v t x q e more in
    let known = rw (kind_at kind byte o.major o.code more i) at value in rw o.is (grind arith)

-- ---- a title that may stand there, and one that may not

module _ (spot : Spot) (kind : TitleKind) (byte : ℕ) (bytes : List ℕ) (front : spot.front ≡ byte ∷ bytes)
    (is_cut : length bytes < affix_len (byte % 32)) (is_kind : IsTitleKind kind (byte / 32) (byte % 32))
    (some : SomeTaken spot.allowed spot.front) where
  title_of : (behind : List ℕ) (x : Header) → IsTitle (spot.front ++ behind) x
      → (o : Numbered byte x) × kind ≡ kind_of o.major
  title_of behind x q =
      let more : 0 < affix_len (byte % 32) = omega (arith, is_cut) in
      let o = numbered_title byte (bytes ++ behind) (spot.front ++ behind) x q (rw front refl) more in
      (o, kind_at kind byte o.major o.code more is_kind)

  blocked_early : (fault : Fault) → blocked spot.within spot.depth spot.place kind ≡ Some fault
      → TitleStep spot (at_phase (p.Faulted fault) spot)
  blocked_early fault b =
      early fault (rw front is_cut) some (λ behind x q.
      let (o, same) = title_of behind x q in
      let known = rw same at b in rw o.is (grind arith))

  pub blocked_none : blocked spot.within spot.depth spot.place kind ≡ None → TitleStep spot spot
  blocked_none b =
      cut (rw front is_cut) some (λ behind x fault q is.
      let (o, same) = title_of behind x q in
      let known = rw same at b in
      let faulted = rw o.is at is in grind (arith, settled_sound, string_sound))

-- ---- the spot after a byte of a title, as the code finds it

module _ (spot new : Spot) (row : Row) (some : 0 < length spot.front) (says : IsRow (slice_index spot.front 0) row)
    (goes : SomeTaken spot.allowed spot.front) where
  abbrev Short : Type 0
  Short = length spot.front ≤ affix_len (slice_index spot.front 0 % 32)

  pub step_early : (fault : Fault) → Short → blocked spot.within spot.depth spot.place row.kind ≡ Some fault
      → new ≡ at_phase (p.Faulted fault) spot → TitleStep spot new
  step_early fault short b e = rw e (blocked_early spot row.kind _ _ (parted spot.front some)
      (omega (arith, short, some, length-drop 1 spot.front)) says.kind goes fault b)

  pub step_cut : Short → blocked spot.within spot.depth spot.place row.kind ≡ None → new ≡ spot → TitleStep spot new
  step_cut short b e = rw e (blocked_none spot row.kind _ _ (parted spot.front some)
      (omega (arith, short, some, length-drop 1 spot.front)) says.kind goes b)

pub step_whole : (spot new : Spot) (header : Header) → IsTitle spot.front header
    → IsTakenTitle spot.allowed spot.front header → new ≡ titled header spot → TitleStep spot new
step_whole spot new header q g e = rw e (whole header q g)

pub step_none : (spot new : Spot) → NoneTaken spot.allowed spot.front → new ≡ refused (record spot { front = [] })
    → TitleStep spot new
step_none spot new never e = rw e (none never)

pub step_refused : (spot new : Spot) → IsNoTakenTitle spot.allowed spot.front
    → new ≡ refused (record spot { front = [] }) → TitleStep spot new
step_refused spot new never e = step_none spot new (none_begins spot.allowed spot.front never) e
