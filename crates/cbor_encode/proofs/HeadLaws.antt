-- Titles with marks.
use Rattle.std.proofs.Common.{◌≡◌, ℕ, List, ◌++◌, Some, refl, sym, subst, ap, ◌∙◌, arith}
use Rattle.std.proofs.Common.{append_assoc, None, ◌<◌}
use Rattle.ciborium_ll_grammar.specs.declared.spelling.Spelling.{Spelling}
use Rattle.ciborium_ll_grammar.specs.declared.spelling.Spelling.TheVariants.{Any, Shortest}
use Rattle.ciborium_ll_grammar.specs.declared.hdr.Header.{Header}
use Rattle.ciborium_ll_grammar.specs.declared.hdr.Minor.{Minor}
use Rattle.ciborium_ll_grammar.specs.Title.{IsTitle, IsSmallSimple, IsInRange, shortest_title, Major, Size}
use Rattle.ciborium_ll_grammar.specs.Title.{Small, One, Two, Four, Eight, numbered_header}
use Rattle.ciborium_ll_grammar.specs.Parts.{IsMinor, minor_number, parts_bytes}
use Rattle.ciborium_ll_grammar.specs.Items.{IsTakenTitle}
use Rattle.ciborium_ll_grammar.proofs.TitleLaws.{IsTitle-shortest}
use Rattle.ciborium_ll_grammar.proofs.PartsLaws.{means, means_title}
use Rattle.ciborium_ll_grammar.specs.declared.hdr.Header.TheVariants as h
use Rattle.ciborium_ll_grammar.specs.declared.hdr.Minor.TheVariants as minors
use Rattle.ciborium_ll_grammar.specs.Title.{Other}
use Rattle.cbor_encode.specs.Adding.{Adds, IsHead, HasBody, HasNumber}
use Rattle.cbor_encode.specs.Scalars.{IsMeant}

numbered_means : (major : Major) (minor : Minor) (number : ℕ) (header : Header) → minor_number minor ≡ Some number
    → ((size : Size) → numbered_header major size number ≡ header) → means major minor ≡ Some header
numbered_means major minor number header same reads =
    grind (arith, reads Small, reads One, reads Two, reads Four, reads Eight)

-- A minor with the number of a header makes a title of this header.
pub marked_title : (header : Header) (code number : ℕ) (minor : Minor) → HasNumber header code number → IsMinor minor
    → minor_number minor ≡ Some number → IsTitle (parts_bytes code minor) header
marked_title header code number minor has is same =
    subst (λ (z : ℕ). IsTitle (parts_bytes z minor) header) has.same
    (means_title has.major minor header is (numbered_means has.major minor number header same has.reads))

-- A simple value has a title of one byte if it is below 24.
pub simple_small : (number : ℕ) → number < 24 → IsTitle (parts_bytes 7 (minors.Small number)) (h.Simple number)
simple_small number less = means_title Other (minors.Small number) (h.Simple number) less refl

-- Each simple value has a title of two bytes.
pub simple_one : (number : ℕ) → number < 256 → IsTitle (parts_bytes 7 (minors.One number)) (h.Simple number)
simple_one number less = means_title Other (minors.One number) (h.Simple number) less refl

shortest_taken : (allowed : Spelling) (header : Header) (bytes : List ℕ) → (IsSmallSimple header → ⊥)
    → bytes ≡ shortest_title header → IsTakenTitle allowed bytes header
shortest_taken Shortest header bytes meant same = record { shortest = same; meant = meant }
shortest_taken Any header bytes meant same = tt

-- The shortest title is taken in each mode.
pub shortest_head : (allowed : Spelling) (header : Header) (bytes : List ℕ) → IsMeant header None → IsInRange header
    → bytes ≡ shortest_title header → IsHead allowed header bytes
shortest_head allowed header bytes meant range same = record {
  title = subst (λ (z : List ℕ). IsTitle z header) (sym same) (IsTitle-shortest header range);
  taken = shortest_taken allowed header bytes (λ small. (let some = meant small in grind (arith, some))) same;
}

-- Two calls add a title and a body.
pub body_added : (allowed : Spelling) (header : Header) (title body before within after : List ℕ)
    → IsHead allowed header title → within ≡ before ++ title → after ≡ within ++ body
    → Adds (HasBody allowed header body) before after
body_added allowed header title body before within after head first second = record {
  added = title ++ body;
  parts = second ∙ ap (λ (z : List ℕ). z ++ body) first ∙ append_assoc before title body;
  is = record { title = title; head = head; parts = refl };
}
