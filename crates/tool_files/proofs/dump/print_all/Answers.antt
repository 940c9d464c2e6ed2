use Rattle.tool_files.proofs.KeptLaws.{told_reads, told_taken}
use Rattle.tool_files.proofs.dump.print_all.Goals as goal

pub returns : goal.returns
returns g c = record {
  between = c.print_rows-outcome.new.decoder;
  dumped = λ taken.
      let kept = c.show_left-outcome.result in
      let told = c.with_fault.result in
      let all = told_taken kept told c.with_fault.ensures taken in
      let same = c.show_left-outcome.ensures.stays all in
      told_reads g.R.Read c.args.options.depth c.args.decoder.now c.print_rows-outcome.new.decoder kept told
      c.with_fault.ensures taken (rw same (c.print_rows-outcome.ensures.reads (rw same at all)));
  at = c.offset-offset.ensures.value;
}
