-- The results of `next`: it gives the first item, pair or segment that is left, and leaves the others.
use Rattle.std.specs.Prelude.{◌≡◌, ◌+◌, ℕ, List, [], ◌++◌, Option, Some, None, MatchOption, IfSome}
use Rattle.ciborium_ll_grammar.specs.declared.spelling.Spelling.TheVariants.{Any}
use Rattle.ciborium_ll_grammar.specs.Items.{IsItem}
use Rattle.ciborium_ll_grammar.specs.Strings.{Kind, Text}
use denote.Ref.{Bor}
use Rattle.cbor_view.specs.declared.item.Item.{Item}
use Rattle.cbor_view.specs.declared.nests.Elements.{Elements}
use Rattle.cbor_view.specs.declared.nests.Entries.{Entries}
use Rattle.cbor_view.specs.declared.segments.Segments.{Segments}
use Rattle.cbor_view.specs.declared.segments.TextSegments.{TextSegments}
use Rattle.cbor_view.specs.Held.{item_bytes, item_depth, elements_bytes, elements_due, elements_depth}
use Rattle.cbor_view.specs.Held.{entries_bytes, entries_due, entries_depth, segments_bytes, texts_bytes}
use Rattle.cbor_view.specs.Segments.{AreSegments, IsFirstSegment}

-- A count is one less than before, and an indefinite length stays indefinite. 1 follows 2, and no count follows 0.
abbrev pub CountsDown : Option ℕ → Option ℕ → Type 0
CountsDown (Some old) (Some new) = old ≡ new + 1
CountsDown (Some old) None = ⊥
CountsDown None (Some new) = ⊥
CountsDown None None = Unit {0}

-- The call took the first item, and left the others. It takes `01` of `01 82 02 03`.
pub record TakesItem (old : Elements) (item : Item) (new : Elements) : Type 0 where
  pub whole : elements_bytes old ≡ item_bytes item ++ elements_bytes new
  pub is_item : IsItem Any (elements_depth old) (item_bytes item)
  pub levels : item_depth item ≡ elements_depth old
  pub counted : CountsDown (elements_due old) (elements_due new)
  pub same_levels : elements_depth new ≡ elements_depth old

-- No item was left, as after both items of `82 01 02`, and nothing changed.
pub record HasNoItem (old new : Elements) : Type 0 where
  pub none_left : elements_bytes old ≡ []
  pub counted : IfSome (elements_due old) (λ count. count ≡ 0)
  pub same : new ≡ old

-- `next` gives the first item of those that are left, or `None` exactly if none is left. For `82 01 02` it gives `01`,
-- `02` and then `None`.
abbrev pub GivesItem : Elements → Option Item → Elements → Type 0
GivesItem old result new = MatchOption result (HasNoItem old new) (λ item. TakesItem old item new)

-- The call took the first pair, and left the others. It takes `01` and `02` of `01 02 03 04`.
pub record TakesPair (old : Entries) (key value : Item) (new : Entries) : Type 0 where
  pub whole : entries_bytes old ≡ item_bytes key ++ (item_bytes value ++ entries_bytes new)
  pub is_key : IsItem Any (entries_depth old) (item_bytes key)
  pub is_value : IsItem Any (entries_depth old) (item_bytes value)
  pub key_levels : item_depth key ≡ entries_depth old
  pub value_levels : item_depth value ≡ entries_depth old
  pub counted : CountsDown (entries_due old) (entries_due new)
  pub same_levels : entries_depth new ≡ entries_depth old

-- No pair was left, as after the pair of `a1 01 02`, and nothing changed.
pub record HasNoPair (old new : Entries) : Type 0 where
  pub none_left : entries_bytes old ≡ []
  pub counted : IfSome (entries_due old) (λ count. count ≡ 0)
  pub same : new ≡ old

-- `next` gives the first pair of those that are left, or `None` exactly if none is left. For `a1 01 02` it gives `01`
-- with `02`, and then `None`.
abbrev pub GivesPair : Entries → Option (Item × Item) → Entries → Type 0
GivesPair old result new = MatchOption result (HasNoPair old new) (λ pair. TakesPair old pair.0 pair.1 new)

-- `next` gives the body of the first segment that is left, or `None` exactly if none is left, and then changes nothing.
-- With `42 01 02 ff` left it gives `01 02`, and with `ff` left `None`.
abbrev pub GivesSegment : Segments → Option (Bor (List ℕ)) → Segments → Type 0
GivesSegment old result new = (kind : Kind) (bodies : List (List ℕ)) → AreSegments kind (segments_bytes old) bodies
    → MatchOption result ((bodies ≡ []) × (new ≡ old))
    (λ body. IsFirstSegment kind bodies body.now (segments_bytes new))

-- `next` gives the body of the first segment of a text string that is left. It gives `None` exactly if none is left,
-- and then changes nothing. For `7f 61 61 61 62 ff` it gives "a", "b" and then `None`.
abbrev pub GivesText : TextSegments → Option (Bor (List ℕ)) → TextSegments → Type 0
GivesText old result new = (bodies : List (List ℕ)) → AreSegments Text (texts_bytes old) bodies
    → MatchOption result ((bodies ≡ []) × (new ≡ old))
    (λ body. IsFirstSegment Text bodies body.now (texts_bytes new))
