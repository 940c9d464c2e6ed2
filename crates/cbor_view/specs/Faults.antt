-- Why no item begins some bytes, in the words of `cbor_skip`.
use Rattle.std.specs.Prelude.{◌≡◌, ℕ, List, length}
use Rattle.ciborium_ll_grammar.specs.declared.spelling.Spelling.TheVariants.{Any}
use Rattle.ciborium_ll_grammar.specs.Faults.{Short as EndsShort, Syntax as IsSyntax}
use Rattle.cbor_skip.specs.ItemFaults.{HasDeepNest, HasEarlyBreak, HasItemFault}
use Rattle.ciborium_ll_decoder.specs.declared.dec.Error.TheVariants as e
use Rattle.cbor_skip.specs.declared.SkipError.{SkipError}
use Rattle.cbor_skip.specs.declared.SkipError.TheVariants as s
use Rattle.cbor_view.specs.declared.parse.Fault.{Fault}
use Rattle.cbor_view.specs.declared.parse.Fault.TheVariants.{Short, Syntax, Break, Deep}

-- The reason why no item begins the bytes: they end too early, or a fault, a break or a nest stands at this offset. To
-- a depth of 1 `82 01` is `Short`, `1c` is `Syntax` at 0, and `81 ff` is `Break` at 1.
abbrev pub HasFault : ℕ → List ℕ → Fault → Type 0
HasFault depth bytes Short = (fault : HasItemFault Any depth bytes) × (fault.answer ≡ EndsShort)
HasFault depth bytes (Syntax place) = (fault : HasItemFault Any depth bytes) × (fault.answer ≡ IsSyntax place)
HasFault depth bytes (Break place) = (fault : HasEarlyBreak Any depth bytes) × (place ≡ length fault.before)
HasFault depth bytes (Deep place) = (fault : HasDeepNest Any depth bytes) × (place ≡ length fault.before)

-- The error names a fault of the bytes, as each error over memory does. `Syntax` at 0 is such an error, and `TooLong`
-- is none.
abbrev pub IsOfBytes : {E : Type 0} → SkipError E → Type 0
IsOfBytes (s.Read (e.Io fault)) = Unit {0}
IsOfBytes (s.Read (e.Syntax place)) = Unit {0}
IsOfBytes (s.Read e.TooLong) = ⊥
IsOfBytes (s.Read e.Waiting) = ⊥
IsOfBytes (s.Break place) = Unit {0}
IsOfBytes (s.Deep place) = Unit {0}

-- The error names this fault: `Io` names `Short`, and `Deep` at 1 names `Deep` at 1. `TooLong` names none.
abbrev pub NamesFault : {E : Type 0} → SkipError E → Fault → Type 0
NamesFault (s.Read (e.Io cause)) fault = fault ≡ Short
NamesFault (s.Read (e.Syntax place)) fault = fault ≡ Syntax place
NamesFault (s.Read e.TooLong) fault = ⊥
NamesFault (s.Read e.Waiting) fault = ⊥
NamesFault (s.Break place) fault = fault ≡ Break place
NamesFault (s.Deep place) fault = fault ≡ Deep place
