-- The messages of the errors of readers and writers over those of std. The text of std's own error is open.
use Rattle.std.specs.Prelude.{ℕ, List, Option, Some, None, codes}
use Rattle.ciborium_ll_streams.specs.declared.streams.ReadFault.{ReadFault}
use Rattle.ciborium_ll_streams.specs.declared.streams.ReadFault.TheVariants as reading
use Rattle.ciborium_ll_streams.specs.declared.streams.WriteFault.{WriteFault}
use Rattle.ciborium_ll_streams.specs.declared.streams.WriteFault.TheVariants as writing

-- The text that `{}` writes for an error of `StdReader`: "the reader has ended" for `End`. The text of std's own error
-- is open (`None`).
abbrev pub read_fault_text : ReadFault → Option (List ℕ)
read_fault_text reading.End = Some (codes "the reader has ended")
read_fault_text (reading.Failed error) = None

-- The text that `{}` writes for an error of `StdWriter`: "the writer takes no more bytes" for `Zero`. The text of std's
-- own error is open (`None`).
abbrev pub write_fault_text : WriteFault → Option (List ℕ)
write_fault_text writing.Zero = Some (codes "the writer takes no more bytes")
write_fault_text (writing.Failed error) = None
