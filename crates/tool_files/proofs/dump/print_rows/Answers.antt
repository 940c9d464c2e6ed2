use Rattle.std.proofs.Common.{subst, ◌↔◌, IsOk}
use Rattle.ciborium_ll_grammar.specs.declared.spelling.Spelling.{Spelling}
use Rattle.cbor_dump.specs.Sequences.{IsSequence}
use Rattle.tool_verdicts.proofs.FoundLaws.{dump_found}
use Rattle.tool_files.proofs.KeptLaws.{told_answers}
use Rattle.tool_files.proofs.dump.print_rows.Goals as goal

pub returns-clause-exactly : goal.returns-clause-exactly
returns-clause-exactly g c = λ due ready all.
    subst (λ (mode : Spelling). IsOk c.dump.result ↔ IsSequence mode c.args.depth due) c.requires.alike.mode
    (c.dump.ensures.exactly due c.requires.alike ready all)

pub returns-clause-told : goal.returns-clause-told
returns-clause-told g c = λ due ready all told is.
    rw c.requires.alike.mode at (dump_found g.R.Read c.args.depth due c.args.decoder.now c.dump.new.decoder told
    (told_answers g.R.Read c.args.depth c.args.decoder.now c.dump.new.decoder due c.dump.result told is all
    (c.dump.ensures.told due c.requires.alike ready all)))
