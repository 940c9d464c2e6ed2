use Rattle.std.proofs.Common.{◌≡◌, ◌-◌, ◌^◌, List, length}
use Rattle.tool_verdicts.specs.Parts.{AddsSpans, IsAtMost, ReadsSpans}
use Rattle.tool_verdicts.specs.declared.part.Span.{Span}
use Rattle.tool_verdicts.proofs.part.index.Given as goal

abbrev pub invariant-items : goal.invariant-items
invariant-items g l = record {
  few : IsAtMost l.most l.items;
  places : List Span;
  counted : length places ≡ l.items;
  reads : ReadsSpans g.R.Read l.depth l.fn.decoder places l.decoder;
  adds : AddsSpans (g.S.Spans.taken l.fn.spans) (g.S.Spans.taken l.spans) places;
  start : l.start ≡ l.fn.decoder.offset;
  buffer : length l.buffer ≡ 512;
}

-- Each item takes at least one byte.
abbrev pub decreases-items : goal.decreases-items
decreases-items g l = 2 ^ 64 - l.decoder.offset
