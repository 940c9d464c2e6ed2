-- The bytes after a spot that make a whole item of all.
use Rattle.std.proofs.Common.{◌≡◌, ℕ, zero, suc, ◌*◌, ◌⊎◌, true, List, [], ◌∷◌, ◌++◌, length}
use Rattle.ciborium_ll_grammar.specs.declared.spelling.Spelling.{Spelling}
use Rattle.ciborium_ll_grammar.specs.Items.{AreItems, AreTakenStrings, IsItem}
use Rattle.ciborium_ll_grammar.specs.Strings.{Kind, AreStrings}
use Rattle.ciborium_ll_grammar.specs.Elements.{AreWritable}
use Rattle.ciborium_ll_text.specs.declared.state.State.{State}
use Rattle.ciborium_ll_text.specs.declared.state.State.TheVariants as s
use Rattle.ciborium_ll_text.specs.States.{after}
use Rattle.ciborium_ll_grammar.specs.declared.remaining.Remaining.{Remaining}
use Rattle.ciborium_ll_grammar.specs.declared.remaining.Remaining.TheVariants as l
use Rattle.cbor_checker.specs.declared.phase.Phase.{Phase}
use Rattle.cbor_checker.specs.declared.phase.Phase.TheVariants as p
use Rattle.cbor_parser.specs.declared.strings.Within.{Within}
use Rattle.cbor_parser.specs.declared.strings.Within.TheVariants as w
use Rattle.cbor_parser.specs.Strings.{kind_of}
use Rattle.cbor_checker.specs.Levels.{ends_before}
use Rattle.cbor_checker.specs.Spots.{Spot}

-- A level takes this many items and then this end.
abbrev pub Takes : Remaining → ℕ → List ℕ → Type 0
Takes (l.Items more) count end = (count ≡ more) × (end ≡ [])
Takes (l.Pairs more) count end = (count ≡ 2 * more) × (end ≡ [])
Takes (l.Value more) count end = (count ≡ suc (2 * more)) × (end ≡ [])
Takes l.OpenItems count end = Unit {0} × (end ≡ 0xff ∷ [])
Takes l.OpenPairs count end = ((pairs : ℕ) × (count ≡ 2 * pairs)) × (end ≡ 0xff ∷ [])
Takes l.OpenValue count end = ((pairs : ℕ) × (count ≡ suc (2 * pairs))) × (end ≡ 0xff ∷ [])

-- The bytes end the level, and then come bytes with the property `Then`.
pub record EndsLevel (allowed : Spelling) (level : Remaining) (depth : ℕ) (Then : List ℕ
    → Type 0) (bytes : List ℕ) : Type 0 where
  pub count : ℕ
  pub items : List ℕ
  pub end : List ℕ
  pub rest : List ℕ
  pub takes : Takes level count end
  pub are_items : AreItems allowed depth count items
  pub behind : Then rest
  pub is : bytes ≡ items ++ (end ++ rest)

-- The bytes end all levels.
abbrev pub Ends : Spelling → ℕ → List Remaining → List ℕ → Type 0
Ends allowed depth [] bytes = bytes ≡ []
Ends allowed depth (level ∷ levels) bytes = EndsLevel allowed level depth (Ends allowed (suc depth) levels) bytes

-- The bytes are an item, and then come bytes with the property `Then`.
pub record ItemThen (allowed : Spelling) (depth : ℕ) (Then : List ℕ → Type 0) (bytes : List ℕ) : Type 0 where
  pub item : List ℕ
  pub rest : List ℕ
  pub is_item : IsItem allowed depth item
  pub behind : Then rest
  pub is : bytes ≡ item ++ rest

-- A break ends the innermost level, and then come bytes with the property `Then`.
pub record BreakThen (level : Remaining) (Then : List ℕ → Type 0) (bytes : List ℕ) : Type 0 where
  pub rest : List ℕ
  pub may : ends_before level ≡ true
  pub behind : Then rest
  pub is : bytes ≡ 0xff ∷ rest

abbrev pub Breaks : Spelling → ℕ → List Remaining → List ℕ → Type 0
Breaks allowed depth [] bytes = ⊥
Breaks allowed depth (level ∷ levels) bytes = BreakThen level (Ends allowed (suc depth) levels) bytes

-- The bytes that are due if an item is due: an item, or a break in its place.
abbrev pub ItemDue : Spelling → ℕ → List Remaining → List ℕ → Type 0
ItemDue allowed depth levels bytes = ItemThen allowed depth
    (Ends allowed depth levels) bytes ⊎ Breaks allowed depth levels bytes

-- The bytes end an open string, and then come bytes with the property `Then`.
pub record EndsString (allowed : Spelling) (kind : Kind) (Then : List ℕ → Type 0) (bytes : List ℕ) : Type 0 where
  pub strings : List ℕ
  pub bodies : List (List ℕ)
  pub rest : List ℕ
  pub are : AreStrings kind strings bodies
  pub taken : AreTakenStrings allowed kind strings bodies
  pub sound : AreWritable kind bodies
  pub behind : Then rest
  pub is : bytes ≡ strings ++ 0xff ∷ rest

-- The bytes after the innermost open string: they end this many more open strings, and then come bytes with the
-- property `Then`.
abbrev pub Behind : Spelling → Kind → ℕ → (List ℕ → Type 0) → List ℕ → Type 0
Behind allowed kind zero Then bytes = Then bytes
Behind allowed kind (suc more) Then bytes = EndsString allowed kind (Behind allowed kind more Then) bytes

-- The bytes end all open strings.
abbrev pub EndsStrings : Spelling → Kind → ℕ → (List ℕ → Type 0) → List ℕ → Type 0
EndsStrings allowed kind more Then bytes = EndsString allowed kind (Behind allowed kind more Then) bytes

-- The bytes that are due if a title is due, for an item or within an open string.
abbrev pub TitleDue : Spelling → Within → ℕ → List Remaining → List ℕ → Type 0
TitleDue allowed w.Nothing depth levels bytes = ItemDue allowed depth levels bytes
TitleDue allowed (w.Open kind more) depth levels bytes =
    EndsStrings allowed (kind_of kind) more (Ends allowed depth levels) bytes

-- The bytes that are due after a string of a definite length.
abbrev pub StringDone : Spelling → Within → ℕ → List Remaining → List ℕ → Type 0
StringDone allowed w.Nothing depth levels bytes = Ends allowed depth levels bytes
StringDone allowed (w.Open kind more) depth levels bytes =
    EndsStrings allowed (kind_of kind) more (Ends allowed depth levels) bytes

-- A body of this many bytes, and then come bytes with the property `Then`.
pub record BodyThen (len : ℕ) (Sound Then : List ℕ → Type 0) (bytes : List ℕ) : Type 0 where
  pub body : List ℕ
  pub rest : List ℕ
  pub long : length body ≡ len
  pub sound : Sound body
  pub behind : Then rest
  pub is : bytes ≡ body ++ rest

abbrev pub AnyBody : List ℕ → Type 0
AnyBody body = Unit {0}

abbrev pub TextBody : State → List ℕ → Type 0
TextBody state body = after state body ≡ s.Between

abbrev pub WaitsIn : Phase → Spot → List ℕ → Type 0
WaitsIn p.Title spot bytes = TitleDue spot.allowed spot.within spot.depth spot.levels (spot.front ++ bytes)
WaitsIn (p.Bytes len) spot bytes = BodyThen len AnyBody
    (StringDone spot.allowed spot.within spot.depth spot.levels) bytes
WaitsIn (p.Text len state) spot bytes =
    BodyThen len (TextBody state) (StringDone spot.allowed spot.within spot.depth spot.levels) bytes
WaitsIn p.Ended spot bytes = bytes ≡ []
WaitsIn (p.Faulted fault) spot bytes = ⊥

-- These bytes after the spot complete the item of all bytes.
abbrev pub Waits : Spot → List ℕ → Type 0
Waits spot bytes = WaitsIn spot.phase spot bytes
