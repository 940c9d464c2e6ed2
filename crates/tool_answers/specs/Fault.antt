-- The texts of the program about an error.
use Rattle.std.specs.Prelude.{◌≡◌, ℕ, List, ◌++◌, Option, Some, None, codes, decimal}
use Rattle.tool_answers.specs.declared.fault.Fault.{Fault}
use Rattle.tool_answers.specs.declared.fault.Fault.TheVariants as f
use Rattle.tool_answers.specs.declared.fault.ToolError.{ToolError}
use Rattle.tool_answers.specs.declared.fault.ToolError.TheVariants as e
use Rattle.ciborium_ll_decoder.specs.declared.dec.Error.TheVariants as d
use Rattle.ciborium_ll_streams.specs.declared.streams.ReadFault.{ReadFault}
use Rattle.ciborium_ll_streams.specs.declared.streams.WriteFault.{WriteFault}
use Rattle.ciborium_ll_streams.specs.declared.streams.WriteFault.TheVariants as w
use Rattle.ciborium_ll_decoder.specs.declared.copy.RecodeError.{RecodeError}
use Rattle.ciborium_ll_decoder.specs.declared.copy.RecodeError.TheVariants as r

-- The fault of an error that ended a run: `Write` for an error of the writer.
abbrev pub fault_of : ToolError → Fault
fault_of e.Memory = f.Memory
fault_of (e.Read error) = f.Read
fault_of (e.Write error) = f.Write

-- The error of a run whose write failed: the writer's own, if it has one. After `Zero`, which has none, it is any error
-- with the fault `Write`.
abbrev pub IsWriteError : WriteFault → ToolError → Type 0
IsWriteError w.Zero error = fault_of error ≡ f.Write
IsWriteError (w.Failed own) error = error ≡ e.Write own

-- The fault of an error that ended a copy of raw bytes: `Syntax(1)` if the decoder refused `1c` at the offset 1.
abbrev pub fault_of_copy : RecodeError ReadFault WriteFault → Fault
fault_of_copy (r.Read (d.Io error)) = f.Read
fault_of_copy (r.Read (d.Syntax place)) = f.Syntax place
fault_of_copy (r.Read d.TooLong) = f.TooLong
fault_of_copy (r.Read d.Waiting) = f.Read
fault_of_copy (r.Write error) = f.Write

-- The text of a fault: `syntax 3` for bytes at the offset 3 that may not stand there.
abbrev pub fault_text : Fault → List ℕ
fault_text (f.Syntax place) = codes "syntax " ++ decimal place
fault_text f.TooLong = codes "too long"
fault_text f.Read = codes "read"
fault_text f.Write = codes "write"
fault_text f.Memory = codes "memory"

-- The text that `{}` writes of the error of a run: "there is no memory left" for `Memory`. The text of std's own error
-- is open (`None`).
abbrev pub tool_error_text : ToolError → Option (List ℕ)
tool_error_text e.Memory = Some (codes "there is no memory left")
tool_error_text (e.Read error) = None
tool_error_text (e.Write error) = None
