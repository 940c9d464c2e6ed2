use Rattle.std.proofs.Common.{ℕ, List, subst}
use Rattle.ciborium_ll.specs.Types.Header.TheVariants as h
use Rattle.cbor_view.specs.Views.{IsBytesOf, IsOpenedBy}
use Rattle.uses.specs.CoseView.{IsFour, IsPayloadOf}
use Rattle.uses.proofs.CoseViewLaws.{message_items, one_split}
use Rattle.uses.proofs.cose_view.message_of.Goals as goal

pub returns-in_default : goal.returns-in_default
returns-in_default c = λ p u s b is. c.in_default.ensures is.inner is.is_tagged

pub returns-in_default-four_of : goal.returns-in_default-four_of
returns-in_default-four_of c = λ p u s b is.
    let same = one_split c.args.item.now.bytes.now is.inner c.in-Some.inner.bytes.now (h.Tag 18) is.is_tagged
    c.in-Some.ensures in
    c.in_default-four_of.ensures is.first u is.third is.fourth
    (subst (λ (w : List ℕ). IsFour w is.first u is.third is.fourth) same is.is_four)

pub returns-in_default-byte_string : goal.returns-in_default-byte_string
returns-in_default-byte_string c = λ p u s b is.
    let same = message_items c.args.item.now.bytes.now c.in-Some.inner.bytes.now _ _ _ _ c.in-Some.ensures
    c.in-Some-four_of.ensures p u s b is in
    c.in_default-byte_string.ensures p (subst (λ (w : List ℕ). IsBytesOf w p) same.0 is.is_protected)

pub returns-in_default-entries : goal.returns-in_default-entries
returns-in_default-entries c = λ p u s b is.
    let same = message_items c.args.item.now.bytes.now c.in-Some.inner.bytes.now _ _ _ _ c.in-Some.ensures
    c.in-Some-four_of.ensures p u s b is in
    c.in_default-entries.ensures is.count (subst (λ (w : List ℕ). IsOpenedBy w (h.Map is.count)) same.1 is.is_map)

pub returns-in_default-payload_of : goal.returns-in_default-payload_of
returns-in_default-payload_of c = λ p u s b is.
    let same = message_items c.args.item.now.bytes.now c.in-Some.inner.bytes.now _ _ _ _ c.in-Some.ensures
    c.in-Some-four_of.ensures p u s b is in
    c.in_default-payload_of.ensures b (subst (λ (w : List ℕ). IsPayloadOf w b) same.2 is.is_payload)

pub returns-in_default-byte_string-2 : goal.returns-in_default-byte_string-2
returns-in_default-byte_string-2 c = λ p u s b is.
    let same = message_items c.args.item.now.bytes.now c.in-Some.inner.bytes.now _ _ _ _ c.in-Some.ensures
    c.in-Some-four_of.ensures p u s b is in
    c.in_default-byte_string-2.ensures s (subst (λ (w : List ℕ). IsBytesOf w s) same.3 is.is_signature)
