-- The faults of a parser in the words of elements, as `recode` and a decoder name them.
use Rattle.std.specs.Prelude.{◌≡◌, ℕ, ◌≤◌, List, ◌++◌, length}
use Rattle.ciborium_ll_grammar.specs.declared.spelling.Spelling.{Spelling}
use Rattle.ciborium_ll_grammar.specs.Elements.{IsRun, Mark}
use Rattle.ciborium_ll_grammar.specs.Faults.{HasFault, Syntax}

-- A copy of some number of elements stops at this offset, at the first fault of the bytes (RFC 7049, 2.1 and 2.2). If
-- `allowed` is `Shortest`, it takes that spelling alone (3.9). For `82 1c` it is 1.
abbrev pub FaultsAt : Spelling → List ℕ → ℕ → Type 0
FaultsAt allowed bytes place = (count : ℕ) × (fault : HasFault allowed count bytes) × (fault.answer ≡ Syntax place)

-- The bytes have a fault at this offset, whatever follows them, if the body of a text that is under way may end. After
-- `63 61 ff` one more byte is enough, and the fault is at 0.
abbrev pub IsNamed : Spelling → List ℕ → ℕ → Type 0
IsNamed allowed bytes place =
    (least : ℕ) × ((more : List ℕ) → least ≤ length more → FaultsAt allowed (bytes ++ more) place)

-- The bytes are some number of elements (RFC 7049, 2.1 and 2.2). `82 01` are two elements.
abbrev pub AreElements : List ℕ → Type 0
AreElements bytes = (count : ℕ) × (marks : List Mark) × IsRun count bytes marks
