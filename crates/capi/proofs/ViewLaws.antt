-- The parts of an item in memory.
use Rattle.std.proofs.Common.{◌≡◌, ◌≢◌, ◌<◌, ◌+◌, ◌∙◌, ℕ, List, [], ◌++◌, length, Option, MatchOption}
use Rattle.std.proofs.Common.{Some, None, ap, sym, subst, arith, append-nil}
use denote.Ref.{Bor}
use Rattle.ciborium_ll_grammar.specs.declared.spelling.Spelling.TheVariants.{Any}
use Rattle.ciborium_ll_grammar.specs.declared.hdr.Header.{Header}
use Rattle.ciborium_ll_grammar.specs.declared.hdr.Header.TheVariants as h
use Rattle.ciborium_ll_grammar.specs.Items.{IsItem}
use Rattle.ciborium_ll_grammar.proofs.ItemLaws.{one_item}
use Rattle.ciborium_ll_grammar.proofs.FrontLaws.{first_or_none, no_title_there}
use Rattle.ciborium_ll_grammar.proofs.TitleLaws.{one_title}
use Rattle.cbor_view.specs.declared.item.Item.{Item}
use Rattle.cbor_view.specs.Held.{item_bytes, item_depth}
use Rattle.cbor_view.specs.Pairs.{HasFirst, HasNone}
use Rattle.ciborium_ll_grammar.specs.Title.{HasFirstTitle, HasNoTitle}
use Rattle.cbor_view.specs.Views.{IsBytesOf, IsTextOf}
use Rattle.capi.specs.declared.answer.CllAnswer.{CllAnswer}
use Rattle.capi.specs.declared.answer.CllAnswer.TheVariants as a
use Rattle.capi.specs.declared.header.CllHeader.{CllHeader}
use Rattle.capi.specs.declared.item.CllItem.{CllItem}
use Rattle.capi.specs.Headers.{Says}
use Rattle.capi.specs.Pulling.{BeginsWithTitle}
use Rattle.capi.specs.Viewing.{AreWithin, Finds, HasWithin, IsView}

-- ---- an item

-- The bytes of an item and more bytes are not one item.
pub no_view : (item : CllItem) (first rest : List ℕ) → item.bytes.now ≡ first ++ rest → IsItem Any item.depth first
    → 0 < length rest → IsView item → ⊥
no_view item first rest whole is_item more view =
    let one = one_item Any Any item.depth item.depth first item.bytes.now rest [] is_item view.is_item
    (sym whole ∙ sym (append-nil item.bytes.now)) in
    absurd (omega (arith, more, ap (length {A = ℕ}) one.1))

-- ---- the title

-- Bytes that are split after a title begin with a title.
pub title_told : (bytes rest : List ℕ) (header : Header) (parts : CllHeader) → HasFirstTitle bytes header rest
    → Says parts header → (front : BeginsWithTitle bytes) × Says parts front.header
title_told bytes rest header parts split says = (
  record { title = split.title; header = header; rest = rest; is_title = split.is_title; is = split.whole },
  says,
)

pub no_title : (bytes : List ℕ) → HasNoTitle bytes → BeginsWithTitle bytes → ⊥
no_title bytes none front = no_title_there bytes front.title front.rest front.header none front.is_title front.is

-- Bytes are split after a title in one way.
pub one_split : (bytes rest other : List ℕ) (header mine : Header) → HasFirstTitle bytes header rest
    → HasFirstTitle bytes mine other → (header ≡ mine) × (rest ≡ other)
one_split bytes rest other header mine split is =
    let one = one_title split.title is.title rest other header mine split.is_title is.is_title
    (sym split.whole ∙ is.whole) in (one.1, one.2)

-- ---- the body of a string

pub bytes_split : (bytes body : List ℕ) → IsBytesOf bytes body → HasFirstTitle bytes (h.Bytes (Some (length body))) body
bytes_split bytes body is = record { title = is.title; is_title = is.is_title; whole = is.whole }

pub text_split : (bytes body : List ℕ) → IsTextOf bytes body → HasFirstTitle bytes (h.Text (Some (length body))) body
text_split bytes body is = record { title = is.title; is_title = is.is_title; whole = is.whole }

-- The contents after the title of a byte string are its body if they are as long as it says.
pub bytes_told : (bytes contents body : List ℕ) (len : Option ℕ) → HasFirstTitle bytes (h.Bytes len) contents
    → body ≡ contents → len ≡ Some (length contents) → IsBytesOf bytes body
bytes_told bytes contents body len split same long =
    let is = subst (λ (n : Option ℕ). HasFirstTitle bytes (h.Bytes n) contents) long split in
    subst (λ (v : List ℕ). IsBytesOf bytes v) (sym same)
    (record { title = is.title; is_title = is.is_title; whole = is.whole })

pub text_told : (bytes contents body : List ℕ) (len : Option ℕ) → HasFirstTitle bytes (h.Text len) contents
    → body ≡ contents → len ≡ Some (length contents) → IsTextOf bytes body
text_told bytes contents body len split same long =
    let is = subst (λ (n : Option ℕ). HasFirstTitle bytes (h.Text n) contents) long split in
    subst (λ (v : List ℕ). IsTextOf bytes v) (sym same)
    (record { title = is.title; is_title = is.is_title; whole = is.whole })

-- The header of a byte string says how long its body is.
pub bytes_header : (bytes contents body : List ℕ) (header : Header) → HasFirstTitle bytes header contents
    → IsBytesOf bytes body → header ≡ h.Bytes (Some (length contents))
bytes_header bytes contents body header split is =
    let one = one_split bytes contents body header (h.Bytes (Some (length body))) split (bytes_split bytes body is) in
    one.0 ∙ ap (λ (v : List ℕ). h.Bytes (Some (length v))) (sym one.1)

pub text_header : (bytes contents body : List ℕ) (header : Header) → HasFirstTitle bytes header contents
    → IsTextOf bytes body → header ≡ h.Text (Some (length contents))
text_header bytes contents body header split is =
    let one = one_split bytes contents body header (h.Text (Some (length body))) split (text_split bytes body is) in
    one.0 ∙ ap (λ (v : List ℕ). h.Text (Some (length v))) (sym one.1)

-- The length in the header of a byte string is that of its body.
pub bytes_length : (bytes contents body : List ℕ) (len : Option ℕ) → HasFirstTitle bytes (h.Bytes len) contents
    → IsBytesOf bytes body → len ≡ Some (length contents)
bytes_length bytes contents body len split is = len_of (bytes_header bytes contents body (h.Bytes len) split is)
  where
    len_of : h.Bytes len ≡ h.Bytes (Some (length contents)) → len ≡ Some (length contents)
    len_of same = cc

pub text_length : (bytes contents body : List ℕ) (len : Option ℕ) → HasFirstTitle bytes (h.Text len) contents
    → IsTextOf bytes body → len ≡ Some (length contents)
text_length bytes contents body len split is = len_of (text_header bytes contents body (h.Text len) split is)
  where
    len_of : h.Text len ≡ h.Text (Some (length contents)) → len ≡ Some (length contents)
    len_of same = cc

-- A split after a title of a header that is equal to another one is a split of that.
pub split_as : (bytes contents : List ℕ) (header mine : Header) → HasFirstTitle bytes header contents → header ≡ mine
    → HasFirstTitle bytes mine contents
split_as bytes contents header mine split same = subst (λ (x : Header). HasFirstTitle bytes x contents) same split

-- Bytes with no title are no string.
pub no_split : (bytes contents : List ℕ) (header : Header) → HasNoTitle bytes → HasFirstTitle bytes header contents → ⊥
no_split bytes contents header none split = first_or_none bytes contents header none split

pub bytes_found : (bytes contents : List ℕ) (header : Header) (len : Option ℕ) (result : Option (Bor (List ℕ)))
    → HasFirstTitle bytes header contents → header ≡ h.Bytes len
    → MatchOption result (len ≢ Some (length contents)) (λ body. (body.now ≡ contents) × (len ≡ Some (length contents)))
    → MatchOption result ((body : List ℕ) → IsBytesOf bytes body → ⊥) (λ body. IsBytesOf bytes body.now)
bytes_found bytes contents header len None split same other = λ body is.
    other (bytes_length bytes contents body len (split_as bytes contents header (h.Bytes len) split same) is)
bytes_found bytes contents header len (Some body) split same found =
    bytes_told bytes contents body.now len (split_as bytes contents header (h.Bytes len) split same) found.0 found.1

pub text_found : (bytes contents : List ℕ) (header : Header) (len : Option ℕ) (result : Option (Bor (List ℕ)))
    → HasFirstTitle bytes header contents → header ≡ h.Text len
    → MatchOption result (len ≢ Some (length contents)) (λ body. (body.now ≡ contents) × (len ≡ Some (length contents)))
    → MatchOption result ((body : List ℕ) → IsTextOf bytes body → ⊥) (λ body. IsTextOf bytes body.now)
text_found bytes contents header len None split same other = λ body is.
    other (text_length bytes contents body len (split_as bytes contents header (h.Text len) split same) is)
text_found bytes contents header len (Some body) split same found =
    text_told bytes contents body.now len (split_as bytes contents header (h.Text len) split same) found.0 found.1

-- ---- the items in an item

-- The items in an item stand in its contents.
pub within_split : (depth : ℕ) (bytes contents items : List ℕ) (header : Header) (levels : ℕ)
    → HasFirstTitle bytes header contents → HasWithin depth bytes items levels → AreWithin header depth contents items levels
within_split depth bytes contents items header levels split has =
    let one = one_split bytes contents has.contents header has.header split has.split in
    subst (λ (v : List ℕ). AreWithin header depth v items levels) (sym one.1)
    (subst (λ (x : Header). AreWithin x depth has.contents items levels) (sym one.0) has.within)

pub within_found : (depth : ℕ) (bytes contents : List ℕ) (header : Header) (result : Option (Bor (List ℕ) × ℕ))
    → HasFirstTitle bytes header contents
    → MatchOption result ((items : List ℕ) (levels : ℕ) → AreWithin header depth contents items levels → ⊥)
    (λ found. AreWithin header depth contents found.0.now found.1)
    → MatchOption result ((items : List ℕ) (levels : ℕ) → HasWithin depth bytes items levels → ⊥)
    (λ found. HasWithin depth bytes found.0.now found.1)
within_found depth bytes contents header None split none = λ items levels has.
    none items levels (within_split depth bytes contents items header levels split has)
within_found depth bytes contents header (Some found) split is =
    record { header = header; contents = contents; split = split; within = is }

-- ---- the value of a key

-- What a search in a view found is handed out.
pub finds_value : (Matches : List ℕ → Type 0) (item : CllItem) (view : Item) (found : Option Item) (answer : CllAnswer)
    (old new : CllItem) → item_bytes view ≡ item.bytes.now → item_depth view ≡ item.depth → IsView item
    → MatchOption found (HasNone Matches (item_depth view) (item_bytes view))
    (λ value. HasFirst Matches (item_depth view) (item_bytes view) (item_bytes value))
    → MatchOption found ((answer ≡ a.Absent) × (new ≡ old))
    (λ value. (answer ≡ a.Ok) × (new.bytes.now ≡ item_bytes value) × (item.depth ≡ new.depth + 1))
    → Finds Matches item answer old new
finds_value Matches item view None answer old new bytes depth is none told =
    let has : HasNone Matches item.depth item.bytes.now =
    subst (λ (d : ℕ). HasNone Matches d item.bytes.now) depth
    (subst (λ (v : List ℕ). HasNone Matches (item_depth view) v) bytes none) in
    subst (λ (x : CllAnswer). Finds Matches item x old new) (sym told.0) (has, told.1, is)
finds_value Matches item view (Some value) answer old new bytes depth is first told =
    let has : HasFirst Matches item.depth item.bytes.now new.bytes.now =
    subst (λ (v : List ℕ). HasFirst Matches item.depth item.bytes.now v) (sym told.1)
    (subst (λ (d : ℕ). HasFirst Matches d item.bytes.now (item_bytes value)) depth
    (subst (λ (v : List ℕ). HasFirst Matches (item_depth view) v (item_bytes value)) bytes first)) in
    subst (λ (x : CllAnswer). Finds Matches item x old new) (sym told.0) (has, told.2, is)
