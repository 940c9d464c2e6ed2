use Rattle.std.proofs.Common.{rules, ◌≡◌, ℕ, List, [], length, false, subst, sym, arith}
use Rattle.std.proofs.lemmas.List.{length-take}
use Rattle.ciborium_ll.specs.Decoding.{ReadsPast}
use Rattle.cbor_dump.specs.Takings.{EndsRow, taken_bytes}
use Rattle.cbor_dump.proofs.TakingLaws.{keeps_none, keeps_then, less_room}
use Rattle.ciborium_ll.proofs.DecodingLaws.{ReadsPast-none}
use Rattle.cbor_dump.proofs.LeftLaws.{on_ok, one_passed, shows_left}
use Rattle.cbor_dump.proofs.left.dump_left.Goals as goal

pub returns : goal.returns
returns g c =
    let more = c.read_one.ensures.keeps in
    let keeps = keeps_then g.R.Read [] _ _ _ _ _ c.bytes.invariant.0 more in
    let row = c.read_one.new.self in
    let stopped : c.read_one.result ≡ false = search rules in
    let ends = c.read_one.ensures.ends stopped in
    record {
      shows = on_ok c.fault_row.result (λ draws. shows_left g.R.Read c.args.level _ _ c.args.decoder.now _
          c.read_one.new.decoder (taken_bytes row) keeps
          (subst (λ (z : List ℕ). ReadsPast g.R.Read c.args.decoder.now z c.bytes.decoder) (sym ends.0)
          c.bytes.invariant.1)
          (subst (λ (z : List ℕ). EndsRow g.R.Read (length z) c.bytes.decoder c.read_one.new.decoder) (sym ends.0)
          ends.1) (omega (arith, length-take row.len row.bytes, row.within))
          (λ idle. (c.bytes.invariant.0.takes.consumed idle).1)
          (rw c.offset-offset.ensures.value at draws)) c.fault_row.ensures.draws;
    }

pub bytes-init : goal.bytes-init
bytes-init g c = (
  keeps_none g.R.Read [] _ _ _ c.new-taken.ensures c.offset-offset.ensures.same,
  rw (c.new-taken.ensures, c.offset-offset.ensures.same) (ReadsPast-none g.R.Read c.args.decoder.now),
)

pub bytes-preserved : goal.bytes-preserved
bytes-preserved g c = (
  keeps_then g.R.Read [] _ _ _ _ _ c.bytes.invariant.0 c.read_one.ensures.keeps,
  one_passed g.R.Read _ _ _ _ _ c.bytes.invariant.1 (c.read_one.ensures.came c.bytes-test.true),
)

pub bytes-smaller : goal.bytes-smaller
bytes-smaller g c =
    let row = c.read_one.new.self in
    less_room _ _ (c.read_one.ensures.one c.bytes-test.true) (omega (arith, length-take row.len row.bytes, row.within))
