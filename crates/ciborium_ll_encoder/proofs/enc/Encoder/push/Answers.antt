use Rattle.ciborium_ll_grammar.proofs.TitleLaws.{shortest_or_longer}
use Rattle.ciborium_ll_encoder.proofs.enc.Encoder.push.Goals as goal

pub returns : goal.returns
returns g c = record {
  title = rw c.shortest.ensures.bytes at c.push_title.ensures.title;
  shortest = shortest_or_longer c.args.header;
  target = c.push_title.ensures.target;
}
