use Rattle.capi.proofs.CopyLaws.{same_target}
use Rattle.capi.proofs.copy_onto.Goals as goal

pub returns : goal.returns
returns g c = record {
  copied = c.copy_counted.ensures.copied;
  counted = c.copy_counted.ensures.counted;
  target = same_target c.copy_counted.ensures.target;
}
