use Rattle.std.proofs.Common.{rules, arith, refl, sym, ap, length, ◌++◌}
use Rattle.ciborium_ll_decoder.proofs.ChunkLaws.{chunk_pulled}
use Rattle.ciborium_ll_decoder.proofs.seg.Segment+R+Bytes.pull.Goals as goal

pub returns : goal.returns
returns g c =
    let read = c.read.new.data in
    let none = c.args.self.now.text_alone refl in
    chunk_pulled g.R.Read (length c.args.buffer.now) c.args.self.now _ _ (record {
      read = read;
      reads = record {
        some_unread = omega (arith, c.if-self-eq0.false);
        sound = c.if-self.false;
        count = search rules;
        reads = c.in_ok-read.ensures.bytes;
        unread = search rules;
        place = refl;
      };
      split = (sym (ap (λ z. z ++ read) none), none);
      still_sound = c.if-self.false;
    }) refl c.in_ok-read.ensures.moves_on
