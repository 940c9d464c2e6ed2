-- The way of a copy through elements in bytes, the part due at each point, and the first fault, which stops the copy.
-- If only the shortest spelling is allowed, a few more things are faults, none of them before the first fault.
use Rattle.std.specs.Prelude.{◌≡◌, ℕ, ◌+◌, ◌-◌, ◌<◌, ◌≤◌, ◌⊎◌, min, List, [], ◌∷◌, ◌++◌, length, take}
use Rattle.std.specs.Prelude.{Some, None}
use Rattle.ciborium_ll_grammar.specs.declared.spelling.Spelling.{Spelling}
use Rattle.ciborium_ll_grammar.specs.declared.spelling.Spelling.TheVariants.{Shortest}
use Rattle.ciborium_ll_grammar.specs.declared.hdr.Header.{Header}
use Rattle.ciborium_ll_grammar.specs.Title.{IsTitle, shortest_title, title_len, IsCutTitle, BeginsRefused}
use Rattle.ciborium_ll_grammar.specs.Strings.{Kind, Text, kind_header, AreStrings, IsMisplaced, IsWritable, most_kept}
use Rattle.ciborium_ll_text.specs.Text.{IsCharacters, BeginsNoText}
use Rattle.ciborium_ll_grammar.specs.Elements.{AreWritable, Mark, Open, pieces, spelling, IsRun, IsStrictSpelling}
use Rattle.ciborium_ll_grammar.specs.Items.{IsTakenTitle}

-- ---- how far a copy comes

-- The bytes are within strings that are not closed: opens of the kind, each with strings after it. The bodies are the
-- bodies so far (RFC 7049, 2.2.2). `5f 41 01` is within a byte string, with the body `01`.
pub data IsInside (kind : Kind) : List ℕ → List (List ℕ) → Type 0 where
  opened : {title strings : List ℕ} {bodies : List (List ℕ)} → IsTitle title (kind_header kind None)
      → AreStrings kind strings bodies
      → IsInside kind (title ++ strings) bodies
  deeper : {outer inner : List ℕ} {bodies others : List (List ℕ)} → IsInside kind outer bodies
      → IsInside kind inner others
      → IsInside kind (outer ++ inner) (bodies ++ others)

-- A point in elements, by the part due there: an element; within a string of the kind, a further string or its end; or
-- a body of this length. The last number is the place of the body's fault. After `62`, a body of two bytes is due.
pub data Point : Type 0 where
  Due : Point
  In : Kind → Point
  BodyDue : Kind → ℕ → ℕ → Point

-- `Reaches count bytes marks point`: the bytes are a part of `count` elements, left the marks, and lead to the point.
-- If `count` is 2, the bytes `81 62` lead to a body of two bytes.
pub data Reaches (count : ℕ) : List ℕ → List Mark → Point → Type 0 where
  due : {before : ℕ} {bytes : List ℕ} {marks : List Mark} → before < count → IsRun before bytes marks
      → Reaches count bytes marks Due
  inside : {before : ℕ} {bytes opens : List ℕ} {marks : List Mark} {bodies : List (List ℕ)} {kind : Kind}
      → before < count
      → IsRun before bytes marks → IsInside kind opens bodies → AreWritable kind bodies
      → Reaches count (bytes ++ opens) (marks ++ Open kind ∷ pieces kind bodies) (In kind)
  -- The place is the end of the title less the length of the shortest title: late, if the title is a longer one.
  body : {bytes title : List ℕ} {marks : List Mark} {len : ℕ} (kind : Kind) → Reaches count bytes marks Due
      → IsTitle title (kind_header kind (Some len))
      → Reaches count (bytes ++ title) marks (BodyDue kind len
      (length (bytes ++ title) - title_len (kind_header kind (Some len))))
  body_inside : {bytes title : List ℕ} {marks : List Mark} {len : ℕ} {kind : Kind} → Reaches count bytes marks (In kind)
      → IsTitle title (kind_header kind (Some len)) → Reaches count (bytes ++ title) marks
      (BodyDue kind len (length bytes))

-- ---- the first fault

-- A title is due at the point. After `5f` one is due, and after `62` a body.
abbrev pub IsAtTitle : Point → Type 0
IsAtTitle Due = Unit {0}
IsAtTitle (In kind) = Unit {0}
IsAtTitle (BodyDue kind len start) = ⊥

-- A decoder refuses this header within a string of the kind. A strict decoder refuses a further open too. After `5f`, a
-- decoder refuses the title `01`, and a strict decoder refuses `5f` too.
abbrev pub IsRefusedIn : Spelling → Kind → Header → Type 0
IsRefusedIn allowed kind header = IsMisplaced kind header ⊎ ((allowed ≡ Shortest) × (header ≡ kind_header kind None))

-- The bytes end too early, or the bytes at this offset are not of the grammar. For `19 01` the answer is `Short`, and
-- for `1c` it is `Syntax 0`.
pub data Answer : Type 0 where
  Short : Answer
  Syntax : ℕ → Answer

-- The bytes that a copy has written within a body: the spelling of the marks, the shortest title of a string of this
-- length, and a front of the body. For the front `61` of a text of three bytes, and no marks, they are `63 61`.
abbrev pub with_front : List Mark → Kind → ℕ → List ℕ → List ℕ
with_front marks kind len front = spelling marks ++ (shortest_title (kind_header kind (Some len)) ++ front)

-- `FirstFault allowed before marks point ahead answer written consumed`: the bytes before left the marks, and the bytes
-- ahead are at fault at this point. `written` is everything written, and `consumed` counts the bytes ahead that are
-- consumed (RFC 7049, 2.1, 2.2.2, 2.3 and 3.9). After `81`, the byte `1c` has the answer `Syntax 1`.
pub data FirstFault (allowed : Spelling) (before : List ℕ) (marks : List Mark) :
    Point → List ℕ → Answer → List ℕ → ℕ → Type 0 where
  -- A title is due, and the bytes end before it or within it.
  CutTitle : {point : Point} {ahead : List ℕ} → IsAtTitle point → IsCutTitle ahead
      → FirstFault allowed before marks point ahead Short (spelling marks) (min 1 (length ahead))
  -- A title is due, and no title begins with the byte that comes.
  NoTitle : {point : Point} {ahead : List ℕ} → IsAtTitle point → BeginsRefused ahead
      → FirstFault allowed before marks point ahead (Syntax (length before)) (spelling marks) 1
  -- A title is due, only strict titles are taken, and the title is not the shortest or is a simple value from 24 to 31.
  LongTitle : {point : Point} {title ahead : List ℕ} (header : Header) (rest : List ℕ) → IsAtTitle point
      → IsTitle title header → (IsTakenTitle allowed title header → ⊥) → ahead ≡ title ++ rest
      → FirstFault allowed before marks point ahead (Syntax (length before)) (spelling marks) (length title)
  -- A title comes that may not stand within this string.
  OtherTitle : {kind : Kind} {title ahead : List ℕ} (header : Header) (rest : List ℕ) → IsTitle title header
      → IsRefusedIn allowed kind header
      → ahead ≡ title ++ rest
      → FirstFault allowed before marks (In kind) ahead (Syntax (length before)) (spelling marks) (length title)
  -- The whole body of a text is there, and is not UTF-8. The copy consumed the bytes that it writes.
  DamagedText : {len start consumed : ℕ} {ahead : List ℕ} (front rest : List ℕ) → len ≤ length ahead
      → (IsCharacters (take len ahead) → ⊥)
      → take len ahead ≡ front ++ rest → IsCharacters front → length front ≤ consumed → consumed ≤ len
      → FirstFault allowed before marks (BodyDue Text len start) ahead (Syntax start) (with_front marks Text len front)
      consumed
  -- The bytes end within a body.
  CutBody : {kind : Kind} {len start consumed : ℕ} {ahead : List ℕ} (front rest : List ℕ) → length ahead < len
      → ahead ≡ front ++ rest
      → IsWritable kind front → length front ≤ consumed → consumed ≤ length front + most_kept kind → consumed
      ≤ length ahead
      → FirstFault allowed before marks (BodyDue kind len start) ahead Short (with_front marks kind len front) consumed
  -- The bytes end within the body of a text, and no text begins with them. The copy consumed the bytes that it writes.
  CutDamagedText : {len start consumed : ℕ} {ahead : List ℕ} (front rest : List ℕ) → length ahead < len
      → BeginsNoText ahead
      → ahead ≡ front ++ rest → IsCharacters front → length front ≤ consumed → consumed ≤ length ahead
      → FirstFault allowed before marks (BodyDue Text len start) ahead (Syntax start) (with_front marks Text len front)
      consumed

-- ---- both over whole lists

-- The bytes begin with `count` elements, in their shortest spelling if only this is taken. `81 01 02` begins with two
-- elements and has the rest `02`.
pub record BeginsWithElements (allowed : Spelling) (count : ℕ) (bytes : List ℕ) : Type 0 where
  pub elements : List ℕ
  pub marks : List Mark
  pub rest : List ℕ
  pub run : IsRun count elements marks
  pub is : bytes ≡ elements ++ rest
  pub spelled : allowed ≡ Shortest → IsStrictSpelling elements marks []

-- The shortest title of a body that is due, which alone is taken for `Shortest`. For a byte string of 256 bytes it is
-- `59 01 00`.
abbrev pub due_title : Point → List ℕ
due_title Due = []
due_title (In kind) = []
due_title (BodyDue kind len start) = shortest_title (kind_header kind (Some len))

-- A fault stops a copy of `count` elements. If `allowed` is `Shortest`, everything before it is in its shortest
-- spelling. By the laws `run_or_fault` and `no_fault`, any bytes begin with `count` elements (`BeginsWithElements`) or
-- have a fault, never both. If `count` is 2, `81` has a fault, and `81 01` has none.
pub record HasFault (allowed : Spelling) (count : ℕ) (bytes : List ℕ) : Type 0 where
  pub before : List ℕ
  pub marks : List Mark
  pub point : Point
  pub ahead : List ℕ
  pub answer : Answer
  pub written : List ℕ
  pub consumed : ℕ
  pub reach : Reaches count before marks point
  pub is : bytes ≡ before ++ ahead
  pub spelled : allowed ≡ Shortest → IsStrictSpelling before marks (due_title point)
  pub fault : FirstFault allowed before marks point ahead answer written consumed
