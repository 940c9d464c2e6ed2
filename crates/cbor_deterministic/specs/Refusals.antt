-- Why no item in the deterministic encoding stands at the start of some bytes. The place is the first at which they
-- can't go on as an item.
use Rattle.std.specs.Prelude.{◌≡◌, ℕ, zero, suc, ◌+◌, ◌<◌, ◌≤◌, ◌⊎◌, List, [], ◌++◌, length, take, Some}
use Rattle.ciborium_ll_text.specs.Text.{IsCharacters}
use Rattle.ciborium_ll_grammar.specs.declared.hdr.Header.{Header}
use Rattle.ciborium_ll_grammar.specs.declared.hdr.Header.TheVariants as h
use Rattle.ciborium_ll_grammar.specs.Title.{IsTitle, shortest_title, IsSmallSimple, IsCutTitle, BeginsRefused}
use Rattle.ciborium_ll_grammar.specs.Remaining.{IsNest}
use Rattle.cbor_deterministic.specs.declared.Why.{Why}
use Rattle.cbor_deterministic.specs.declared.Why.TheVariants.{Cut, NoTitle, NotShortest, Indefinite, NoSimple, NoText}
use Rattle.cbor_deterministic.specs.declared.Why.TheVariants.{KeyOrder, DuplicateKey, Deep}
use Rattle.cbor_deterministic.specs.declared.Order.{Order}
use Rattle.cbor_deterministic.specs.Orders.{Precedes}
use Rattle.cbor_deterministic.specs.Preferred.{IsWide, IsIndefinite, IsPreferredTitle}
use Rattle.cbor_deterministic.specs.Deterministic.{IsDeterministic}

-- The title is not the shortest title of its header, or it has a float that fits a smaller width (RFC 8949, 4.1).
-- `18 17` is longer than `17`.
abbrev pub IsLonger : List ℕ → Header → Type 0
IsLonger title header = ¬ (title ≡ shortest_title header) ⊎ IsWide header

-- Why the bytes begin with no title of the preferred serialization (RFC 8949, 3, 3.2, 3.3 and 4.1). `19 01` is `Cut`,
-- `1c` is `NoTitle`, `18 17` is `NotShortest`, `9f` is `Indefinite`, and `f8 18` is `NoSimple`.
pub data FailsTitle : List ℕ → Why → Type 0 where
  cut_title : {bytes : List ℕ} → IsCutTitle bytes → FailsTitle bytes Cut
  no_title : {bytes : List ℕ} → BeginsRefused bytes → FailsTitle bytes NoTitle
  longer : {title : List ℕ} {header : Header} (rest : List ℕ) → IsTitle title header → IsLonger title header
      → FailsTitle (title ++ rest) NotShortest
  indefinite : {title : List ℕ} {header : Header} (rest : List ℕ) → IsTitle title header → IsIndefinite header
      → FailsTitle (title ++ rest) Indefinite
  small_simple : {title : List ℕ} {header : Header} (rest : List ℕ) → IsTitle title header → IsSmallSimple header
      → FailsTitle (title ++ rest) NoSimple

-- Why a key may not follow the key `above`: it is the same key, or it comes before `above` (RFC 8949, 4.2.1 and 5.6).
-- After `03` the key `01` is `KeyOrder`, and `03` is `DuplicateKey`.
pub data FailsOrder (order : Order) : List ℕ → List ℕ → Why → Type 0 where
  duplicate : {key : List ℕ} → FailsOrder order key key DuplicateKey
  out_of_order : {above key : List ℕ} → Precedes order key above → FailsOrder order above key KeyOrder

mutual
  -- `FailsItem order depth bytes why left`: an item to the depth is due at the start of the bytes. From the first place
  -- at which they can't go on as an item, `left` bytes are left. To a depth of 1 `82 01 18 17` fails with
  -- `NotShortest`, and 2 bytes are left.
  pub data FailsItem (order : Order) : ℕ → List ℕ → Why → ℕ → Type 0 where
    at_title : {depth : ℕ} {bytes : List ℕ} {why : Why} → FailsTitle bytes why
        → FailsItem order depth bytes why (length bytes)
    after_title : {depth left : ℕ} {title rest : List ℕ} {header : Header} {why : Why} → IsPreferredTitle title header
        → FailsWithin order depth header (length (title ++ rest)) rest why left
        → FailsItem order depth (title ++ rest) why left

  -- `FailsWithin order depth header at bytes why left`: the bytes follow a title of the header, from which `at` bytes
  -- are left. A body is cut, and the place is the end of the bytes. Or the body is not UTF-8 or no level is left, and
  -- the place is the title. Otherwise the contents of the nest have a fault. After `43` the bytes `01 02` fail with
  -- `Cut`, and no byte is left.
  pub data FailsWithin (order : Order) : ℕ → Header → ℕ → List ℕ → Why → ℕ → Type 0 where
    cut_bytes : {depth len at : ℕ} {bytes : List ℕ} → length bytes < len
        → FailsWithin order depth (h.Bytes (Some len)) at bytes Cut 0
    cut_text : {depth len at : ℕ} {bytes : List ℕ} → length bytes < len
        → FailsWithin order depth (h.Text (Some len)) at bytes Cut 0
    no_text : {depth len at : ℕ} {bytes : List ℕ} → len ≤ length bytes → (IsCharacters (take len bytes) → ⊥)
        → FailsWithin order depth (h.Text (Some len)) at bytes NoText at
    too_deep : {header : Header} {at : ℕ} {bytes : List ℕ} → IsNest header
        → FailsWithin order zero header at bytes Deep at
    in_tag : {depth number at left : ℕ} {bytes : List ℕ} {why : Why} → FailsItem order depth bytes why left
        → FailsWithin order (suc depth) (h.Tag number) at bytes why left
    in_array : {depth count at left : ℕ} {bytes : List ℕ} {why : Why} → FailsItems order depth count bytes why left
        → FailsWithin order (suc depth) (h.Array (Some count)) at bytes why left
    in_map : {depth count at left : ℕ} {bytes : List ℕ} {why : Why} → FailsPairs order depth count [] bytes why left
        → FailsWithin order (suc depth) (h.Map (Some count)) at bytes why left

  -- This many items are due, and the first item or a later item has a fault. Two items fail in `01 18 17` with
  -- `NotShortest`, and 2 bytes are left.
  pub data FailsItems (order : Order) : ℕ → ℕ → List ℕ → Why → ℕ → Type 0 where
    in_first : {depth count left : ℕ} {bytes : List ℕ} {why : Why} → FailsItem order depth bytes why left
        → FailsItems order depth (suc count) bytes why left
    after_first : {depth count left : ℕ} {first bytes : List ℕ} {why : Why} → IsDeterministic order depth first
        → FailsItems order depth count bytes why left
        → FailsItems order depth (suc count) (first ++ bytes) why left

  -- This many pairs are due, with keys after `above`. The first key has a fault or may not stand there, its value has a
  -- fault, or a later pair has a fault. Two pairs fail in `03 04 01 02` with `KeyOrder`, and 2 bytes are left.
  pub data FailsPairs (order : Order) : ℕ → ℕ → List ℕ → List ℕ → Why → ℕ → Type 0 where
    in_key : {depth count left : ℕ} {above bytes : List ℕ} {why : Why} → FailsItem order depth bytes why left
        → FailsPairs order depth (suc count) above bytes why left
    at_key : {depth count : ℕ} {above key : List ℕ} {why : Why} (bytes : List ℕ) → IsDeterministic order depth key
        → FailsOrder order above key why
        → FailsPairs order depth (suc count) above (key ++ bytes) why (length (key ++ bytes))
    in_value : {depth count left : ℕ} {above key bytes : List ℕ} {why : Why} → IsDeterministic order depth key
        → Precedes order above key → FailsItem order depth bytes why left
        → FailsPairs order depth (suc count) above (key ++ bytes) why left
    after_pair : {depth count left : ℕ} {above key value bytes : List ℕ} {why : Why} → IsDeterministic order depth key
        → Precedes order above key → IsDeterministic order depth value → FailsPairs order depth count key bytes why left
        → FailsPairs order depth (suc count) above (key ++ (value ++ bytes)) why left

-- `HasRefusal order depth bytes why place`: no item in the deterministic encoding stands at the start of the bytes, for
-- this reason. The place is the first offset at which they can't go on as an item. To a depth of 1 `82 01 18 17` is
-- refused with `NotShortest` at 2.
pub record HasRefusal (order : Order) (depth : ℕ) (bytes : List ℕ) (why : Why) (place : ℕ) : Type 0 where
  pub left : ℕ
  pub sum : place + left ≡ length bytes
  pub fails : FailsItem order depth bytes why left
