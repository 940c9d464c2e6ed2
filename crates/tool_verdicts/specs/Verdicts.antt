-- The texts of the program about an input, and how it ends.
use Rattle.std.specs.Prelude.{ℕ, ◌+◌, ◌-◌, ◌^◌, min, List, ◌++◌, Option, Some, None, codes, decimal}
use Rattle.std.specs.IoError.{error_kind}
use Rattle.std.specs.declared.io.ErrorKind.{ErrorKind}
use Rattle.std.specs.declared.io.ErrorKind.TheVariants as k
use Rattle.cbor_deterministic.specs.RefusalTexts.{why_text}
use Rattle.tool_verdicts.specs.declared.verdict.TextFault.{TextFault}
use Rattle.tool_verdicts.specs.declared.verdict.TextReason.{TextReason}
use Rattle.tool_verdicts.specs.declared.verdict.TextReason.TheVariants as t
use Rattle.tool_verdicts.specs.declared.verdict.Status.{Status}
use Rattle.tool_verdicts.specs.declared.verdict.Status.TheVariants as s
use Rattle.tool_verdicts.specs.declared.verdict.Verdict.{Verdict}
use Rattle.tool_verdicts.specs.declared.verdict.Verdict.TheVariants as v

-- The number that a script sees: 0 for `Well`, and 1 for `Malformed`.
abbrev pub status_code : Status → ℕ
status_code s.Well = 0
status_code s.Malformed = 1
status_code s.Usage = 2
status_code s.Failed = 3
status_code s.Gone = 141

-- How the program ends after a write to its output failed. A shell says 141 of a program that a closed pipe ended.
abbrev pub output_status : ErrorKind → Status
output_status k.BrokenPipe = s.Gone
output_status kind = s.Failed

-- How the program ends. Input that is not as wanted is so by its own bytes. After a failure this is not known. For
-- `Short(2)` this is `Malformed`, and for `TooLong` it is `Failed`.
abbrev pub verdict_status : Verdict → Status
verdict_status (v.Well items bytes) = s.Well
verdict_status (v.Syntax place) = s.Malformed
verdict_status (v.Short place) = s.Malformed
verdict_status (v.Break place) = s.Malformed
verdict_status (v.Deep place) = s.Malformed
verdict_status (v.More place) = s.Malformed
verdict_status (v.NoJson place) = s.Malformed
verdict_status (v.Refused refusal) = s.Malformed
verdict_status v.TooLong = s.Failed
verdict_status (v.Failed error) = s.Failed
verdict_status (v.Text fault) = s.Malformed
verdict_status (v.Output error) = output_status (error_kind error)

-- The place in an input that begins at the offset `start` of another one, at most the greatest number: 3 for 2 after one
-- byte.
abbrev pub place_moved : ℕ → ℕ → ℕ
place_moved start place = min (start + place) (2 ^ 64 - 1)

-- The verdict on an input that begins at the offset `start` of another one: `Break(3)` for `Break(2)` after one byte.
abbrev pub verdict_moved : ℕ → Verdict → Verdict
verdict_moved start (v.Syntax place) = v.Syntax (place_moved start place)
verdict_moved start (v.Short place) = v.Short (place_moved start place)
verdict_moved start (v.Break place) = v.Break (place_moved start place)
verdict_moved start (v.Deep place) = v.Deep (place_moved start place)
verdict_moved start (v.More place) = v.More (place_moved start place)
verdict_moved start (v.NoJson place) = v.NoJson (place_moved start place)
verdict_moved start (v.Refused refusal) =
    v.Refused (record { why = refusal.why; place = place_moved start refusal.place })
verdict_moved start verdict = verdict

-- The text of a reason why a text spells no bytes: "half a byte" for `HalfByte`.
abbrev pub reason_text : TextReason → List ℕ
reason_text t.NoDigit = codes "no hexadecimal digit"
reason_text t.HalfByte = codes "half a byte"
reason_text t.OpenComment = codes "a comment without an end"
reason_text t.OpenQuotes = codes "quotes without an end"

-- The line of a fault in a text: `line 2, column 5: half a byte`.
abbrev pub text_fault_text : TextFault → List ℕ
text_fault_text fault = codes "line " ++ (decimal fault.line ++ (codes ", column " ++ (decimal fault.column
    ++ (codes ": " ++ reason_text fault.reason))))

-- The line of a verdict: `ok 2 3` for two items in three bytes, and `syntax 1` for a fault at the offset 1. The text of
-- std's own error is open.
abbrev pub verdict_text : Verdict → Option (List ℕ)
verdict_text (v.Well items bytes) = Some (codes "ok " ++ (decimal items ++ (codes " " ++ decimal bytes)))
verdict_text (v.Syntax place) = Some (codes "syntax " ++ decimal place)
verdict_text (v.Short place) = Some (codes "short " ++ decimal place)
verdict_text (v.Break place) = Some (codes "break " ++ decimal place)
verdict_text (v.Deep place) = Some (codes "deep " ++ decimal place)
verdict_text (v.More place) = Some (codes "more " ++ decimal place)
verdict_text (v.NoJson place) = Some (codes "no-json " ++ decimal place)
verdict_text (v.Refused refusal) =
    Some (codes "refused " ++ (decimal refusal.place ++ (codes ": " ++ why_text refusal.why)))
verdict_text (v.Text fault) = Some (text_fault_text fault)
verdict_text v.TooLong = Some (codes "too long")
verdict_text (v.Failed error) = None
verdict_text (v.Output error) = None
