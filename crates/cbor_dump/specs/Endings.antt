-- The lines of a dump that are at fault: at most the last line.
use Rattle.std.specs.Prelude.{◌≡◌, ◌⊎◌, ℕ, List, [], ◌∷◌, ◌++◌, Result, Ok, Err}
use Rattle.ciborium_ll_grammar.specs.declared.spelling.Spelling.{Spelling}
use Rattle.ciborium_ll.specs.Types.Error.{Error}
use Rattle.ciborium_ll.specs.Types.Error.TheVariants as e
use Rattle.cbor_skip.specs.declared.SkipError.TheVariants as s
use Rattle.cbor_dump.specs.declared.dump.DumpError.{DumpError}
use Rattle.cbor_dump.specs.declared.dump.DumpError.TheVariants as d
use Rattle.cbor_dump.specs.declared.rows.Meaning.{Meaning}
use Rattle.cbor_dump.specs.declared.rows.Meaning.TheVariants as m
use Rattle.cbor_dump.specs.Levels.{Line, Ending, Meant, Refused, Failed, Stopped}
use Rattle.cbor_dump.specs.Takings.{Leaves}

-- The line says what its bytes mean, and not that they are at fault. The line of the title `01` does, and that of `1c`,
-- which is no title, does not.
abbrev pub HasMeaning : Meaning → Type 0
HasMeaning m.Fault = ⊥
HasMeaning meaning = Unit {0}

-- Each line says what its bytes mean, as the lines of `82`, `01` and `02` do.
abbrev pub AreMeant : List Line → Type 0
AreMeant [] = Unit {0}
AreMeant (line ∷ lines) = HasMeaning line.meaning × AreMeant lines

-- The last line is at fault, and each earlier line says what its bytes mean. It is so for the lines of `81` and `1c`.
abbrev pub EndAtFault : List Line → Type 0
EndAtFault [] = ⊥
EndAtFault (line ∷ []) = line.meaning ≡ m.Fault
EndAtFault (line ∷ (next ∷ lines)) = HasMeaning line.meaning × EndAtFault (next ∷ lines)

-- The lines end as the ending says. For `Refused` the last line is at fault, as `1c`, and for `Failed` it may be, as a
-- cut `19`.
abbrev pub EndAs : Ending → List Line → Type 0
EndAs Meant lines = AreMeant lines
EndAs (Refused allowed) lines = EndAtFault lines
EndAs Failed lines = AreMeant lines ⊎ EndAtFault lines
EndAs Stopped lines = AreMeant lines ⊎ EndAtFault lines

-- The bytes of a line that is at fault: `1c` gives `1c`. Another line gives none.
abbrev pub fault_part : Meaning → List ℕ → List ℕ
fault_part m.Fault bytes = bytes
fault_part meaning bytes = []

-- The bytes of the lines at fault. At most one line is at fault. The lines of `81` and `1c` give `1c`.
abbrev pub bytes_at_fault : List Line → List ℕ
bytes_at_fault [] = []
bytes_at_fault (line ∷ lines) = fault_part line.meaning line.bytes ++ bytes_at_fault lines

-- If the reader failed, as many bytes are left after the bytes at fault as `Leaves` says: after `1a` at most three.
abbrev pub LeavesAs : Ending → List ℕ → List ℕ → Type 0
LeavesAs Failed bytes left = Leaves bytes left
LeavesAs how bytes left = Unit {0}

-- How the lines of a dump end after a read stopped. The last line is at fault if the bytes are no item, and otherwise
-- it may be. For the error of `1c` it is `Refused`, and for that of a cut `19` it is `Failed`.
abbrev pub ending_of : {E : Type 0} → Spelling → Error E → Ending
ending_of allowed (e.Syntax at) = Refused allowed
ending_of allowed (e.Io fault) = Failed
ending_of allowed error = Stopped

-- How the lines end before an error of the dump. A break that may not stand there and the title of a nest too deep have
-- their meaning (RFC 7049, 2.2). For `Break(1)`, as `01 ff` gives, it is `Meant`.
abbrev pub ending_before : {E W : Type 0} → Spelling → DumpError E W → Ending
ending_before allowed (d.Item (s.Read error)) = ending_of allowed error
ending_before allowed (d.Item why) = Meant
ending_before allowed (d.Rows fault) = Stopped

-- How the lines end, by the answer. On `Ok` each line says what its bytes mean. If each row is taken, it is `Meant` for
-- `82 01 02`, and `Refused` for `82 1c`.
abbrev pub ending : {A E W : Type 0} → Spelling → Result A (DumpError E W) → Ending
ending allowed (Ok value) = Meant
ending allowed (Err error) = ending_before allowed error
