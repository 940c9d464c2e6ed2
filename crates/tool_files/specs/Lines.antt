-- The text of lines that are written many at a time, and of a page that passes lines on.
use Rattle.std.specs.Prelude.{ℕ, List, take}
use Rattle.std.specs.declared.option.Option.{Option}
use Rattle.std.specs.Io.KnownBytes.{append_known}
use Rattle.tool_files.specs.declared.items.Page.{Page}
use Rattle.tool_files.specs.declared.lines.Lines.{Lines}

module _ {W : Type 0} where
  -- The bytes that wait: `61 0a 62`, if a line `a` and the beginning `b` of one more were added.
  abbrev pub lines_waiting : Lines W → List ℕ
  lines_waiting lines = take lines.len lines.bytes

  -- The bytes so far, if the writer tells its bytes: those, and then the bytes that wait. `61 0a` in the writer and `62`
  -- that waits are `61 0a 62`.
  abbrev pub lines_text : (W → Option (List ℕ)) → Lines W → Option (List ℕ)
  lines_text contents lines = append_known (contents lines.writer) (lines_waiting lines)

  -- The text of a page that was not passed on: `31 0a`, if `1` and a line feed were kept.
  abbrev pub page_text : Page W → List ℕ
  page_text page = take page.len page.bytes
