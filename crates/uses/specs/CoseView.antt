-- A signed message, COSE_Sign1 (RFC 9052, 4.2), in any spelling, and its parts.
use Rattle.std.specs.Prelude.{◌≡◌, ℕ, List, ◌++◌, Option, Some, None}
use Rattle.std.specs.Borrow.{Bor}
use Rattle.ciborium_ll.specs.Types.Header.TheVariants as h
use Rattle.ciborium_ll.specs.Title.{IsTitle}
use Rattle.ciborium_ll.specs.Items.{IsItem}
use Rattle.cbor_view.specs.Held.{item_bytes}
use Rattle.ciborium_ll_grammar.specs.declared.spelling.Spelling.TheVariants.{Any}
use Rattle.ciborium_ll_grammar.specs.Title.{HasFirstTitle}
use Rattle.cbor_view.specs.Views.{IsBytesOf, IsOpenedBy}
use Rattle.cbor_view.specs.Faults.{HasFault}
use Rattle.uses.specs.declared.cose_view.Message.{Message}
use Rattle.uses.specs.declared.cose_view.MessageError.{MessageError}
use Rattle.uses.specs.declared.cose_view.MessageError.TheVariants as m
use Rattle.uses.specs.declared.cose_view.TheConstants.{MESSAGE_DEPTH}

-- The item is this item with the tag of a COSE_Sign1, 18 (RFC 9052, 2): `d2 80` is `80` with this tag.
abbrev pub IsTagged : List ℕ → List ℕ → Type 0
IsTagged item inner = HasFirstTitle item (h.Tag 18) inner

-- The bytes are an array of four items of a definite length (RFC 7049, 2.1): `84 01 02 03 04`, for example.
pub record IsFour (bytes first second third fourth : List ℕ) : Type 0 where
  pub title : List ℕ
  pub is_title : IsTitle title (h.Array (Some 4))
  pub whole : bytes ≡ title ++ (first ++ (second ++ (third ++ fourth)))
  pub levels : ℕ
  pub is_first : IsItem Any levels first
  pub is_second : IsItem Any levels second
  pub is_third : IsItem Any levels third
  pub is_fourth : IsItem Any levels fourth

-- The bytes are a payload: null if it is detached, or a byte string of definite length with this body (RFC 9052, 4.2).
-- The bytes `f6` are a detached payload, and `41 01` has the body `01`.
abbrev pub IsPayloadOf : List ℕ → Option (List ℕ) → Type 0
IsPayloadOf bytes None = IsTitle bytes (h.Simple 22)
IsPayloadOf bytes (Some body) = IsBytesOf bytes body

-- The item is a COSE_Sign1 with these parts: tag 18 and an array of four items (RFC 9052, 2 and 4.2). They are the byte
-- string of the protected parameters, the map of the unprotected parameters, the payload, and the byte string of the
-- signature. The item `d2 84 40 a0 f6 40` has empty parts and a detached payload.
pub record IsSign1 (item protected unprotected signature : List ℕ) (payload : Option (List ℕ)) : Type 0 where
  pub inner : List ℕ
  pub is_tagged : IsTagged item inner
  pub first : List ℕ
  pub third : List ℕ
  pub fourth : List ℕ
  pub is_four : IsFour inner first unprotected third fourth
  pub is_protected : IsBytesOf first protected
  pub count : Option ℕ
  pub is_map : IsOpenedBy unprotected (h.Map count)
  pub is_payload : IsPayloadOf third payload
  pub is_signature : IsBytesOf fourth signature

-- The bytes of the payload, if there is one: `01` for the payload `41 01`, and none for `f6`.
abbrev pub payload_body : Option (Bor (List ℕ)) → Option (List ℕ)
payload_body None = None
payload_body (Some body) = Some body.now

-- The item is a COSE_Sign1, and the message has its parts. The message of `d2 84 40 a0 f6 40` has no payload.
abbrev pub IsMessage : List ℕ → Message → Type 0
IsMessage item message =
    IsSign1 item message.protected.now (item_bytes message.unprotected) message.signature.now
    (payload_body message.payload)

-- The bytes begin with an item to the depth that has this property. If the property is to have one byte, `80 05` begins
-- so, and `81 05` does not.
pub record BeginsToDepth (Has : List ℕ → Type 0) (bytes : List ℕ) : Type 0 where
  pub item : List ℕ
  pub rest : List ℕ
  pub is : bytes ≡ item ++ rest
  pub is_item : IsItem Any MESSAGE_DEPTH item
  pub has : Has item

-- The bytes begin with a COSE_Sign1, and the message has its parts (RFC 9052, 4.2). In `d2 84 40 a0 f6 40 05` the byte
-- `05` follows it.
abbrev pub BeginsMessage : List ℕ → Message → Type 0
BeginsMessage bytes message = BeginsToDepth (λ item. IsMessage item message) bytes

-- The item is no COSE_Sign1 with its tag: `84 40 a0 f6 40`, for example, which has no tag.
abbrev pub IsNoSign1 : List ℕ → Type 0
IsNoSign1 item = (protected unprotected signature : List ℕ) (payload : Option (List ℕ))
    → IsSign1 item protected unprotected signature payload → ⊥

-- The reason that the bytes begin with no COSE_Sign1: `NoSign1` for `d2 80`.
abbrev pub FailsMessage : List ℕ → MessageError → Type 0
FailsMessage bytes (m.Item fault) = HasFault MESSAGE_DEPTH bytes fault
FailsMessage bytes m.NoSign1 = BeginsToDepth IsNoSign1 bytes
