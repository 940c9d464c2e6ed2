-- Why an item of any spelling is not rewritten, and where.
use Rattle.std.specs.Prelude.{Option, suc, ◌+◌, ◌*◌}
use Rattle.std.specs.Prelude.{◌≡◌, ℕ, ◌<◌, ◌≤◌, Bool, false, List, ◌∷◌, ◌++◌, length, Result, Ok, Err}
use Rattle.ciborium_ll_grammar.specs.declared.spelling.Spelling.TheVariants.{Any}
use Rattle.ciborium_ll_grammar.specs.declared.hdr.Header.TheVariants as h
use Rattle.ciborium_ll_grammar.specs.Items.{AreItems, IsItem}
use Rattle.ciborium_ll_grammar.specs.Title.{IsTitle}
use Rattle.cbor_deterministic.specs.Spellings.{Encodes}
use Rattle.cbor_deterministic.specs.Values.{Value, Same}
use Rattle.ciborium_ll_grammar.specs.Faults.{Short, Syntax}
use Rattle.ciborium_ll_decoder.specs.declared.dec.Error.TheVariants as e
use Rattle.cbor_skip.specs.declared.SkipError.{SkipError}
use Rattle.cbor_skip.specs.declared.SkipError.TheVariants as s
use Rattle.cbor_skip.specs.Due.{ItemDue}
use Rattle.cbor_skip.specs.ItemFaults.{HasDeepNest, HasEarlyBreak, HasItemFault, BeginsWithItem}
use Rattle.cbor_deterministic.specs.Fronts.{NoneInFront}
use Rattle.cbor_deterministic.specs.Laws.{IsSpelling}
use Rattle.cbor_canonical.specs.Canonical.{IsFittingSpelling}
use Rattle.cbor_canonical.specs.declared.CanonicalError.{CanonicalError}
use Rattle.cbor_canonical.specs.declared.CanonicalError.TheVariants.{Refused, Memory}
use Rattle.cbor_canonical.specs.declared.Refusal.{Refusal}
use Rattle.cbor_canonical.specs.declared.Why.{Why}
use Rattle.cbor_canonical.specs.declared.Why.TheVariants as w

-- After a beginning of an item a further item is due, and a simple value from 24 to 31 stands there (RFC 8949, 3.3). The
-- place is its offset. With depth 1, in `82 01 f8 18` it is 2.
pub record HasNoSimple (depth : ℕ) (bytes : List ℕ) (place : ℕ) : Type 0 where
  pub before : List ℕ
  pub number : ℕ
  pub rest : List ℕ
  pub levels : ℕ
  pub closable : Bool
  pub item_due : ItemDue Any false depth before levels closable
  pub least : 24 ≤ number
  pub most : number < 32
  pub is : bytes ≡ before ++ 0xf8 ∷ number ∷ rest
  pub place_is : place ≡ length before

-- After a beginning of an item a further item is due, and a map stands there that has two keys of the same value (RFC
-- 8949, 5.6). The place is the offset of the later of the two. With depth 1, in `a2 01 00 01 00` it is 3.
pub record HasSameKey (depth : ℕ) (bytes : List ℕ) (place : ℕ) : Type 0 where
  pub before : List ℕ
  pub title : List ℕ
  pub count : Option ℕ
  pub levels : ℕ
  pub closable : Bool
  pub item_due : ItemDue Any false depth before (suc levels) closable
  pub is_title : IsTitle title (h.Map count)
  -- Pairs that come before the first of the two keys.
  pub pairs : ℕ
  pub front : List ℕ
  pub front_items : AreItems Any levels (2 * pairs) front
  pub key : List ℕ
  pub is_key : IsItem Any levels key
  -- The value of the first key, and pairs that come before the second one.
  pub more : ℕ
  pub between : List ℕ
  pub between_items : AreItems Any levels (2 * more + 1) between
  pub again : List ℕ
  pub is_again : IsItem Any levels again
  pub value : Value
  pub other : Value
  pub key_encodes : Encodes value key
  pub again_encodes : Encodes other again
  pub same : Same value other
  pub rest : List ℕ
  pub is : bytes ≡ before ++ (title ++ (front ++ (key ++ (between ++ (again ++ rest)))))
  pub place_is : place ≡ length (before ++ (title ++ (front ++ (key ++ between))))

-- `HasRefusal depth bytes why place`: no item to the depth begins the bytes, and `why` stops the read of one at this
-- offset. Or an item begins them that spells no value, with a simple value from 24 to 31 at this offset (RFC 8949,
-- 3.3). Or it spells no value whose maps have no key twice (5.6), with the later of two such keys at this offset. To a
-- depth of 1 `82 01` is `Cut` at 2, `f8 18` is `NoSimple` at 0, and `a2 01 02 01 03` is `DuplicateKey` at 3.
abbrev pub HasRefusal : ℕ → List ℕ → Why → ℕ → Type 0
HasRefusal depth bytes w.Cut place =
    (fault : HasItemFault Any depth bytes) × (fault.answer ≡ Short) × (place ≡ length bytes)
HasRefusal depth bytes w.Malformed place = (fault : HasItemFault Any depth bytes) × (fault.answer ≡ Syntax place)
HasRefusal depth bytes w.Break place = (fault : HasEarlyBreak Any depth bytes) × (place ≡ length fault.before)
HasRefusal depth bytes w.Deep place = (fault : HasDeepNest Any depth bytes) × (place ≡ length fault.before)
HasRefusal depth bytes w.NoSimple place =
    BeginsWithItem Any depth bytes × NoneInFront IsSpelling bytes × HasNoSimple depth bytes place
HasRefusal depth bytes w.DuplicateKey place =
    BeginsWithItem Any depth bytes × NoneInFront IsFittingSpelling bytes × HasSameKey depth bytes place

-- Why nothing is written: the bytes are refused. Or an item begins them, and no memory is left. For `1c` it is
-- `Malformed` at 0, and for `01` it can be `Memory` alone.
abbrev pub IsUnwritten : ℕ → List ℕ → CanonicalError → Type 0
IsUnwritten depth bytes (Refused refusal) = HasRefusal depth bytes refusal.why refusal.place
IsUnwritten depth bytes Memory = BeginsWithItem Any depth bytes

-- The error refuses for this reason at this place. `Cut` at 2 does so for `Cut` and 2, and `Memory` for no reason.
abbrev pub HasWhy : Why → ℕ → CanonicalError → Type 0
HasWhy why place (Refused refusal) = (refusal.why ≡ why) × (refusal.place ≡ place)
HasWhy why place Memory = ⊥

-- The refusal for the error of a skip over this many bytes, or the offset after it without an error. Over 3 bytes
-- `Break` at 1 gives `Break` at 1, and an error of the reader gives `Cut` at 3.
abbrev pub IsRefusalOf : {E : Type 0} → ℕ → ℕ → Result (Unit {0}) (SkipError E) → Result ℕ Refusal → Type 0
IsRefusalOf len offset (Ok done) (Ok skipped) = skipped ≡ offset
IsRefusalOf len offset (Err (s.Break place)) (Err refusal) = (refusal.why ≡ w.Break) × (refusal.place ≡ place)
IsRefusalOf len offset (Err (s.Deep place)) (Err refusal) = (refusal.why ≡ w.Deep) × (refusal.place ≡ place)
IsRefusalOf len offset (Err (s.Read (e.Syntax place))) (Err refusal) =
    (refusal.why ≡ w.Malformed) × (refusal.place ≡ place)
IsRefusalOf len offset (Err (s.Read error)) (Err refusal) = (refusal.why ≡ w.Cut) × (refusal.place ≡ len)
IsRefusalOf len offset skipped result = ⊥
