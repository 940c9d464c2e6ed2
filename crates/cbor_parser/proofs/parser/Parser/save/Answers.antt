use Rattle.std.proofs.Common.{refl, rules}
use Rattle.cbor_parser.proofs.parser.Parser.save.Goals as goal

pub returns-clause-keeps : goal.returns-clause-keeps
returns-clause-keeps c = λ allowed before tokens is.
    record {
      parser = c.args.self.now;
      holds = record {
        phase = c.numbers-phase.ensures;
        strict = search rules;
        kept = c.save-kept_len.ensures.saved;
        few = c.save-kept_len.ensures.most;
        within = c.numbers-strings.ensures;
        offset = refl;
      };
      pushed = is;
    }
