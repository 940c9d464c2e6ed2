use Rattle.std.proofs.Common.{◌≡◌, length, rules}
use Rattle.ciborium_ll_decoder.specs.Decoding.{HoldsAffix}
use Rattle.ciborium_ll_decoder.proofs.DecodingLaws.{exit_is}
use Rattle.ciborium_ll_decoder.proofs.StrictLaws.{affix_taken, none_unread, open_affix, open_taken, small_affix}
use Rattle.ciborium_ll_decoder.proofs.StrictLaws.{small_taken}
use Rattle.ciborium_ll_decoder.proofs.dec.Decoder.minor.Goals as goal
use Rattle.ciborium_ll_decoder.proofs.dec.Decoder.minor.Goals.{in-One+in_ok-minor-in-One, in-Two+in_ok-minor-in-Two}
use Rattle.ciborium_ll_decoder.proofs.dec.Decoder.minor.Goals.{in-Four+in_ok-minor-in-Four}
use Rattle.ciborium_ll_decoder.proofs.dec.Decoder.minor.Goals.{in-Eight+in_ok-minor-in-Eight}

pub returns-in_err-read-in-Within-clause-minor : goal.returns-in_err-read-in-Within-clause-minor
returns-in_err-read-in-Within-clause-minor g c =
    let error = c.in_err-read-in-Within.field-0.0 in
    let small = rw c.in-Within.is at c.requires.affix in
    let empty : length c.read.new.data ≡ 0 = search rules in
    none_unread g.R.Read c.args.first c.args.self.now c.read.new.self c.read.new.data c.from_residual.result error
    (exit_is c.from_residual.result error c.from_residual.ensures.1) (small_affix _ small) c.requires.none_waits
    empty c.in_err-read-in-Within.ensures.bytes

pub returns-in_err-read-in-Open-clause-minor : goal.returns-in_err-read-in-Open-clause-minor
returns-in_err-read-in-Open-clause-minor g c =
    let answer = c.from_residual-in_err-read-in-Open in
    let error = c.in_err-read-in-Open.field-0.0 in
    let is_open = rw c.in-Open.is at c.requires.affix in
    let empty : length c.read-in-Open.new.data ≡ 0 = search rules in
    none_unread g.R.Read c.args.first c.args.self.now c.read-in-Open.new.self _ answer.result error
    (exit_is answer.result error answer.ensures.1) (open_affix _ is_open) c.requires.none_waits
    empty c.in_err-read-in-Open.ensures.bytes

pub returns-in_err-minor-in-One-clause-minor : goal.returns-in_err-minor-in-One-clause-minor
returns-in_err-minor-in-One-clause-minor g c =
    let answer = c.from_residual-in_err-minor-in-One in
    rw (exit_is answer.result c.in_err-minor-in-One.field-0.0 answer.ensures.1)
    (c.in_err-minor-in-One.ensures.minor c.args.first (rw c.in-One.is at c.requires.affix))

pub returns-in_err-minor-in-Two-clause-minor : goal.returns-in_err-minor-in-Two-clause-minor
returns-in_err-minor-in-Two-clause-minor g c =
    let answer = c.from_residual-in_err-minor-in-Two in
    rw (exit_is answer.result c.in_err-minor-in-Two.field-0.0 answer.ensures.1)
    (c.in_err-minor-in-Two.ensures.minor c.args.first (rw c.in-Two.is at c.requires.affix))

pub returns-in_err-minor-in-Four-clause-minor : goal.returns-in_err-minor-in-Four-clause-minor
returns-in_err-minor-in-Four-clause-minor g c =
    let answer = c.from_residual-in_err-minor-in-Four in
    rw (exit_is answer.result c.in_err-minor-in-Four.field-0.0 answer.ensures.1)
    (c.in_err-minor-in-Four.ensures.minor c.args.first (rw c.in-Four.is at c.requires.affix))

pub returns-in_err-minor-in-Eight-clause-minor : goal.returns-in_err-minor-in-Eight-clause-minor
returns-in_err-minor-in-Eight-clause-minor g c =
    let answer = c.from_residual-in_err-minor-in-Eight in
    rw (exit_is answer.result c.in_err-minor-in-Eight.field-0.0 answer.ensures.1)
    (c.in_err-minor-in-Eight.ensures.minor c.args.first (rw c.in-Eight.is at c.requires.affix))

pub returns-clause-minor : goal.returns-clause-minor
returns-clause-minor g c =
    let holds : HoldsAffix g.R.Read c.args.first c.args.self.now c.match-affix.minor c.match-affix.self =
    elim c.match-affix.branch [
      | in-One+in_ok-minor-in-One w ↦ rw (w.self-is, w.minor-is) (w.in_ok-minor-in-One.ensures.minor c.args.first
          (rw w.in-One.is at c.requires.affix))
      | in-Two+in_ok-minor-in-Two w ↦ rw (w.self-is, w.minor-is) (w.in_ok-minor-in-Two.ensures.minor c.args.first
          (rw w.in-Two.is at c.requires.affix))
      | in-Four+in_ok-minor-in-Four w ↦ rw (w.self-is, w.minor-is) (w.in_ok-minor-in-Four.ensures.minor c.args.first
          (rw w.in-Four.is at c.requires.affix))
      | in-Eight+in_ok-minor-in-Eight w ↦ rw (w.self-is, w.minor-is) (w.in_ok-minor-in-Eight.ensures.minor c.args.first
          (rw w.in-Eight.is at c.requires.affix))
    ] in
    affix_taken g.R.Read c.args.first c.args.self.now c.match-affix.self c.match-affix.minor c.taken.result holds
    c.taken.ensures.taken

pub returns-clause-moves_on : goal.returns-clause-moves_on
returns-clause-moves_on g c =
    elim c.match-affix.branch [
      | in-One+in_ok-minor-in-One w ↦ rw w.self-is w.one.ensures.moves_on
      | in-Two+in_ok-minor-in-Two w ↦ rw w.self-is w.two.ensures.moves_on
      | in-Four+in_ok-minor-in-Four w ↦ rw w.self-is w.four.ensures.moves_on
      | in-Eight+in_ok-minor-in-Eight w ↦ rw w.self-is w.eight.ensures.moves_on
    ]

pub returns-in-Within-clause-minor : goal.returns-in-Within-clause-minor
returns-in-Within-clause-minor g c =
    let small = rw c.in-Within.is at c.requires.affix in
    let empty : length c.read.new.data ≡ 0 = search rules in
    small_taken g.R.Read c.args.first c.from.result c.args.self.now c.read.new.self c.read.new.data small c.from.ensures
    empty c.in_ok-read-in-Within.ensures.bytes

pub returns-in-Open-clause-minor : goal.returns-in-Open-clause-minor
returns-in-Open-clause-minor g c =
    let is_open = rw c.in-Open.is at c.requires.affix in
    let empty : length c.read-in-Open.new.data ≡ 0 = search rules in
    open_taken g.R.Read c.args.first c.args.self.now c.read-in-Open.new.self c.read-in-Open.new.data is_open empty
    c.in_ok-read-in-Open.ensures.bytes
