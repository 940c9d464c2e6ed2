-- Where the fault of an item stands within it.
use Rattle.std.specs.Prelude.{Option, ◌+◌, ◌*◌, suc}
use Rattle.std.specs.Prelude.{◌≡◌, ℕ, ◌<◌, ◌≤◌, Bool, List, ◌∷◌, ◌++◌, length}
use Rattle.ciborium_ll_grammar.specs.declared.spelling.Spelling.TheVariants.{Any}
use Rattle.ciborium_ll_grammar.specs.declared.hdr.Header.TheVariants as h
use Rattle.ciborium_ll_grammar.specs.Items.{IsItem}
use Rattle.ciborium_ll_grammar.specs.Title.{IsTitle}
use Rattle.cbor_deterministic.specs.declared.TheConstants.{MAX_DEPTH}
use Rattle.cbor_deterministic.specs.Spellings.{Encodes}
use Rattle.cbor_deterministic.specs.Values.{Value, Same}
use Rattle.ciborium_ll_grammar.specs.declared.hdr.Header.{Header}
use Rattle.ciborium_ll_grammar.specs.Items.{AreItems}
use Rattle.cbor_skip.specs.Due.{ItemDue, TakesMore}
use Rattle.cbor_canonical.specs.declared.Stop.{Stop}
use Rattle.cbor_canonical.specs.declared.Stop.TheVariants as stop

-- After a beginning of an item to the depth a further item is due to a number of levels. P holds of the levels and of
-- the bytes that stand there. After `82 01` of depth 1 an item of no level is due.
pub record MeetsAt (P : ℕ → List ℕ → Type 0) (depth : ℕ) (bytes : List ℕ) : Type 0 where
  pub before : List ℕ
  pub tail : List ℕ
  pub levels : ℕ
  pub due : (outer : Bool) → (closable : Bool) × ItemDue Any outer depth before levels closable
  pub is : P levels tail
  pub whole : bytes ≡ before ++ tail

-- The same within a nest of this header, after a number of its items: after `01 02` of an array of three items.
pub record MeetsIn (P : ℕ → List ℕ → Type 0) (depth : ℕ) (header : Header) (bytes : List ℕ) : Type 0 where
  pub count : ℕ
  pub items : List ℕ
  pub more : List ℕ
  pub takes : TakesMore header count
  pub are : AreItems Any depth count items
  pub meets : MeetsAt P depth more
  pub whole : bytes ≡ items ++ more

-- The same within a pair of a map: in its key, or after its key, in its value, as after `01` of `01 f8 18`.
pub record MeetsPart (P : ℕ → List ℕ → Type 0) (depth : ℕ) (bytes : List ℕ) : Type 0 where
  pub count : ℕ
  pub items : List ℕ
  pub more : List ℕ
  pub few : count < 2
  pub are : AreItems Any depth count items
  pub meets : MeetsAt P depth more
  pub whole : bytes ≡ items ++ more

-- A simple value from 24 to 31 begins the bytes, and they are this many (RFC 8949, 3.3). Two bytes, `f8 18`, are such
-- ones.
pub record IsNoValue (left levels : ℕ) (bytes : List ℕ) : Type 0 where
  pub number : ℕ
  pub rest : List ℕ
  pub least : 24 ≤ number
  pub most : number < 32
  pub is : bytes ≡ 0xf8 ∷ number ∷ rest
  pub left_is : left ≡ length bytes

-- A map with two keys of the same value begins the bytes (RFC 8949, 5.6). From the later of the two on they are this
-- many. From the second key of `a2 01 00 18 01 00` on they are 3.
pub record IsSameKey (left levels : ℕ) (bytes : List ℕ) : Type 0 where
  pub title : List ℕ
  pub count : Option ℕ
  pub inner : ℕ
  pub deeper : levels ≡ suc inner
  pub is_title : IsTitle title (h.Map count)
  pub pairs : ℕ
  pub front : List ℕ
  pub before : AreItems Any inner (2 * pairs) front
  pub key : List ℕ
  pub is_key : IsItem Any inner key
  pub more : ℕ
  pub between : List ℕ
  pub after : AreItems Any inner (2 * more + 1) between
  pub again : List ℕ
  pub is_again : IsItem Any inner again
  pub value : Value
  pub other : Value
  pub key_encodes : Encodes value key
  pub again_encodes : Encodes other again
  pub same : Same value other
  pub rest : List ℕ
  pub is : bytes ≡ title ++ (front ++ (key ++ (between ++ (again ++ rest))))
  pub left_is : left ≡ length (again ++ rest)

-- The fault for which a call stops stands in the item that begins the bytes: a simple value from 24 to 31 as in `81 f8
-- 18`, or a key that its map has twice as in `a2 01 00 01 00`. It says nothing for the other stops.
abbrev pub MeetsFault : ℕ → Stop → List ℕ → Type 0
MeetsFault depth (stop.NoSimple left) bytes = MeetsAt (IsNoValue left) depth bytes
MeetsFault depth (stop.Duplicate left) bytes = depth ≤ MAX_DEPTH → MeetsAt (IsSameKey left) depth bytes
MeetsFault depth stop.Malformed bytes = Unit {0}
MeetsFault depth stop.Room bytes = Unit {0}

-- The same for the bytes after the title of a nest, as `f8 18` after `81`.
abbrev pub MeetsWithin : ℕ → Header → Stop → List ℕ → Type 0
MeetsWithin depth header (stop.NoSimple left) bytes = MeetsIn (IsNoValue left) depth header bytes
MeetsWithin depth header (stop.Duplicate left) bytes =
    depth ≤ MAX_DEPTH → MeetsIn (IsSameKey left) depth header bytes
MeetsWithin depth header stop.Malformed bytes = Unit {0}
MeetsWithin depth header stop.Room bytes = Unit {0}

-- The same for the bytes of a pair, as `01 f8 18`.
abbrev pub MeetsInPair : ℕ → Stop → List ℕ → Type 0
MeetsInPair depth (stop.NoSimple left) bytes = MeetsPart (IsNoValue left) depth bytes
MeetsInPair depth (stop.Duplicate left) bytes = depth ≤ MAX_DEPTH → MeetsPart (IsSameKey left) depth bytes
MeetsInPair depth stop.Malformed bytes = Unit {0}
MeetsInPair depth stop.Room bytes = Unit {0}
