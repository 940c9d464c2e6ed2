-- The elements that the bytes of a copy have led to, and their output.
use Rattle.std.proofs.Common.{◌≡◌, ℕ, suc, ◌+◌, ◌-◌, ◌<◌, true, List, [], ◌∷◌, ◌++◌, length, Some, ◌⊎◌}
use Rattle.ciborium_ll_grammar.specs.declared.spelling.Spelling.{Spelling}
use Rattle.ciborium_ll_grammar.specs.declared.spelling.Spelling.TheVariants.{Shortest}
use Rattle.ciborium_ll_grammar.specs.declared.hdr.Header.{Header}
use Rattle.ciborium_ll_grammar.specs.Title.{IsTitle, title_len, IsCutTitle, AreBytes}
use Rattle.ciborium_ll_grammar.specs.Items.{IsTakenTitle}
use Rattle.ciborium_ll_grammar.specs.Strings.{Kind, kind_header, IsWritable}
use Rattle.ciborium_ll_grammar.specs.Elements.{AreWritable, Mark, Open, pieces, spelling, IsRun, IsStrictSpelling}
use Rattle.ciborium_ll_grammar.specs.Faults.{Point, Due, In, IsRefusedIn, with_front}
use Rattle.ciborium_ll_grammar.proofs.OpenStrings.{IsInsideAt}
use Rattle.ciborium_ll_text.specs.declared.state.State.TheVariants as s
use Rattle.ciborium_ll_text.specs.States.{after, may_end}
use Rattle.cbor_copier.specs.declared.phase.Phase.{Phase}
use Rattle.cbor_copier.specs.declared.phase.Phase.TheVariants as p
use Rattle.cbor_parser.specs.declared.strings.StringKind.{StringKind}
use Rattle.cbor_parser.specs.declared.strings.StringKind.TheVariants as k
use Rattle.cbor_parser.specs.declared.strings.Within.{Within}
use Rattle.cbor_parser.specs.declared.strings.Within.TheVariants as w
use Rattle.cbor_parser.specs.Strings.{kind_of}
use Rattle.cbor_parser.specs.Titles.{SomeTaken}
use Rattle.cbor_copier.specs.Spots.{Spot, putting}
use Rattle.cbor_copier.specs.Reading.{AreSpelled, NoneGoOn, FaultsAt}

-- The bytes are all elements except the last `left`.
pub record RunLeft (count left : ℕ) (bytes : List ℕ) (marks : List Mark) : Type 0 where
  pub before : ℕ
  pub run : IsRun before bytes marks
  pub counted : before + left ≡ count

-- After the elements, a string of the kind is open, and `more` strings within that string.
pub record InOpen (kind : Kind) (more count left : ℕ) (bytes : List ℕ) (marks : List Mark) : Type 0 where
  pub elements : List ℕ
  pub element_marks : List Mark
  pub opens : List ℕ
  pub bodies : List (List ℕ)
  pub run : RunLeft count left elements element_marks
  pub inside : IsInsideAt kind (suc more) opens bodies
  pub sound : AreWritable kind bodies
  pub is : bytes ≡ elements ++ opens
  pub marks_are : marks ≡ element_marks ++ Open kind ∷ pieces kind bodies

-- A header that may not stand there.
abbrev pub Misplaced : Spelling → Within → Header → Type 0
Misplaced allowed w.Nothing header = ⊥
Misplaced allowed (w.Open kind more) header = IsRefusedIn allowed (kind_of kind) header

-- No string is open within an open string.
abbrev pub IsFlat : Within → Type 0
IsFlat (w.Open kind (suc more)) = ⊥
IsFlat i = Unit {0}

-- The bytes are the marks' shortest spelling, and at most one string is open.
pub record IsTight (bytes : List ℕ) (marks : List Mark) (i : Within) : Type 0 where
  pub spelled : IsStrictSpelling bytes marks []
  pub flat : IsFlat i

-- So it is if only the shortest spelling is taken.
abbrev pub Tight : Spelling → List ℕ → List Mark → Within → Type 0
Tight allowed bytes marks i = allowed ≡ Shortest → IsTight bytes marks i

-- A string of the kind may stand there.
abbrev pub OfKind : Within → StringKind → Type 0
OfKind w.Nothing kind = Unit {0}
OfKind (w.Open outer more) kind = outer ≡ kind

abbrev pub place_of : Within → Point
place_of w.Nothing = Due
place_of (w.Open kind more) = In (kind_of kind)

-- The place that a fault of a body names.
abbrev pub body_place : Within → List ℕ → List ℕ → Header → ℕ
body_place w.Nothing before title header = length (before ++ title) - title_len header
body_place (w.Open kind more) before title header = length before

-- No title came, or a part of a title that may stand there.
abbrev pub FrontAt : Spelling → Within → ℕ → ℕ → List ℕ → Type 0
FrontAt allowed i at place front = (front ≡ []) ⊎ (AreBytes front × IsCutTitle front
    × ((more : List ℕ) (header : Header) → IsTitle (front ++ more) header → Misplaced allowed i header → ⊥)
    × (place ≡ at) × (0 < length front) × SomeTaken allowed front)

-- A title is due: that of the next element, or one within open strings.
pub data Here (allowed : Spelling) (count left : ℕ) (bytes : List ℕ) (marks : List Mark) : Within → Type 0 where
  between : RunLeft count left bytes marks → 0 < left → Tight allowed bytes marks w.Nothing
      → Here allowed count left bytes marks w.Nothing
  in_open : {kind : StringKind} {more : ℕ} → InOpen (kind_of kind) more count left bytes marks → 0 < left
      → Tight allowed bytes marks (w.Open kind more) → Here allowed count left bytes marks (w.Open kind more)

-- The bytes so far lead to a spot with a title due.
pub record Titling (allowed : Spelling) (count : ℕ) (bytes : List ℕ) (spot : Spot) (output : List ℕ) : Type 0 where
  pub before : List ℕ
  pub marks : List Mark
  pub here : Here allowed count spot.left before marks spot.within
  pub is : bytes ≡ before ++ spot.front
  pub out : output ≡ spelling marks
  pub front : FrontAt allowed spot.within (length before) spot.place spot.front

-- A body of `len` bytes is due after its title. A fault in the body names this place.
pub record Begun (allowed : Spelling) (kind : StringKind) (count left place len : ℕ) (before title : List ℕ)
    (marks : List Mark) (i : Within) : Type 0 where
  pub here : Here allowed count left before marks i
  pub of_kind : OfKind i kind
  pub is_title : IsTitle title (kind_header (kind_of kind) (Some len))
  pub taken : IsTakenTitle allowed title (kind_header (kind_of kind) (Some len))
  pub named : place ≡ body_place i before title (kind_header (kind_of kind) (Some len))

-- The bytes so far lead to a spot with `left` bytes of a body due.
pub record Bodying (allowed : Spelling) (kind : StringKind) (left count : ℕ) (bytes : List ℕ) (spot : Spot)
    (output : List ℕ) : Type 0 where
  pub before : List ℕ
  pub title : List ℕ
  pub part : List ℕ
  pub marks : List Mark
  pub len : ℕ
  pub begun : Begun allowed kind count spot.left spot.place len before title marks spot.within
  pub is : bytes ≡ (before ++ title) ++ (part ++ spot.front)
  pub long : length (part ++ spot.front) + left ≡ len
  pub out : output ≡ with_front marks (kind_of kind) len part
  pub sound : IsWritable (kind_of kind) part

-- There is a fault at this place.
abbrev pub Broken : Spelling → ℕ → ℕ → List ℕ → List ℕ → Type 0
Broken allowed place count bytes output = NoneGoOn allowed count bytes × FaultsAt allowed place count bytes output

abbrev pub HoldsIn : Spelling → Phase → ℕ → List ℕ → Spot → List ℕ → Type 0
HoldsIn allowed p.Title count bytes spot output = Titling allowed count bytes spot output
HoldsIn allowed (p.Bytes left) count bytes spot output =
    Bodying allowed k.Bytes left count bytes spot output × (spot.front ≡ []) × (0 < left)
HoldsIn allowed (p.Text left state) count bytes spot output =
    Bodying allowed k.Text left count bytes spot output × (state ≡ after s.Between spot.front)
    × (may_end state left ≡ true) × (0 < left)
HoldsIn allowed p.Ended count bytes spot output = AreSpelled allowed count bytes output
HoldsIn allowed (p.Faulted place) count bytes spot output = Broken allowed place count bytes output

-- The bytes so far lead to the spot. The output of the last byte does not count.
abbrev pub Holds : Spelling → ℕ → List ℕ → Spot → List ℕ → Type 0
Holds allowed count bytes spot output = HoldsIn allowed spot.phase count bytes (putting [] spot) output

-- A spot that holds no bytes back.
abbrev pub clear : Spelling → Phase → Within → ℕ → ℕ → ℕ → List ℕ → Spot
clear allowed phase i left place offset put = record {
  allowed = allowed;
  phase = phase;
  front = [];
  within = i;
  left = left;
  place = place;
  offset = offset;
  put = put;
}
