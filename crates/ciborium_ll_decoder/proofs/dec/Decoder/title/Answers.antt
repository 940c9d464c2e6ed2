use Rattle.std.proofs.Common.{◌≡◌, ◌/◌, length, length-append, rules, arith, ap, sym, inl, inr, get_or, ◌<◌}
use Rattle.ciborium_ll_decoder.proofs.DecodingLaws.{exit_is, MovesOn-then}
use Rattle.ciborium_ll_grammar.specs.Parts.{minor_affix, parts_bytes}
use Rattle.ciborium_ll_grammar.proofs.TitleLaws.{shortest_no_longer}
use Rattle.ciborium_ll_grammar.proofs.LongerLaws.{parts_header, parts_taken, parts_refused}
use Rattle.ciborium_ll_decoder.proofs.StrictLaws.{parts_read, affix_stopped, first_parts, first_refused, not_full}
use Rattle.ciborium_ll_decoder.proofs.StrictLaws.{open_refused, title_pulled, title_refused}
use Rattle.ciborium_ll_decoder.proofs.dec.Decoder.title.Goals as goal

pub returns-in_err-minor-clause-header : goal.returns-in_err-minor-clause-header
returns-in_err-minor-clause-header g c =
    let answer = c.from_residual-in_err-minor in
    let same = exit_is answer.result c.in_err-minor.field-0.0 answer.ensures.1 in
    let one : length c.read.new.data ≡ 1 = search rules in
    affix_stopped g.R.Read _ answer.result c.in_err-minor.field-0.0 c.args.self.now c.read.new.self c.minor.new.self
    c.read.new.data same c.requires.none_waits c.in_ok-read.ensures.bytes c.in_ok-read.ensures.moves_on.steady one
    c.in_err-minor.ensures.minor

pub returns-in_default-clause-header : goal.returns-in_default-clause-header
returns-in_default-clause-header g c =
    let none = c.requires.none_waits in
    let first = c.in_ok-read.ensures.bytes in
    let one : length c.read.new.data ≡ 1 = search rules in
    let byte : get_or c.read.new.data 0 0 / 32 < 8 = search rules in
    let answer = rw c.in_default.is at c.in_ok-minor.ensures.minor in
    elim answer [
      | inl reserved ↦ inl (first_refused g.R.Read c.args.self.now c.read.new.self c.minor.new.self
          c.read.new.data none first one reserved.1 reserved.0)
      | inr refuses ↦ (
          let minor = refuses.read in
          let h = parts_header _ minor byte refuses.holds.is_minor refuses.longer in
          let read = parts_read g.R.Read c.args.self.now c.read.new.self c.minor.new.self c.read.new.data minor none
          first refuses.holds.all one refuses.holds.code in
          inr (title_refused g.R.Read c.args.self.now c.minor.new.self _ h.0 h.1 none (search rules)
          (parts_refused _ minor h.0 byte refuses.holds.is_minor h.1 refuses.longer) read)
          )
    ]

pub returns-in-Some-header-clause-header : goal.returns-in-Some-header-clause-header
returns-in-Some-header-clause-header g c =
    let none = c.requires.none_waits in
    let first = c.in_ok-read.ensures.bytes in
    let one : length c.read.new.data ≡ 1 = search rules in
    let byte : get_or c.read.new.data 0 0 / 32 < 8 = search rules in
    let affix = rw c.in-Some.is at c.in_ok-minor.ensures.minor in
    let minor = c.in-Some.minor in
    let header = c.in-Some-header.header in
    let t = c.in-Some-header.ensures.some in
    let read = parts_read g.R.Read c.args.self.now c.read.new.self c.minor.new.self c.read.new.data minor none first
    affix.holds.all one affix.holds.code in
    title_pulled g.R.Read c.args.self.now c.minor.new.self _ header t none
    (λ on. parts_taken _ minor header byte affix.holds.is_minor t (affix.taken (rw (sym first.mode) at on))) read

pub returns-in-Some-header-clause-covered : goal.returns-in-Some-header-clause-covered
returns-in-Some-header-clause-covered g c =
    let first = c.in_ok-read.ensures.bytes in
    let one : length c.read.new.data ≡ 1 = search rules in
    let affix = rw c.in-Some.is at c.in_ok-minor.ensures.minor in
    let minor = c.in-Some.minor in
    let title = parts_bytes (get_or c.read.new.data 0 0 / 32) minor in
    let least = shortest_no_longer title c.in-Some-header.header c.in-Some-header.ensures.some in
    let parted = ap length (first_parts c.read.new.data minor one affix.holds.code) in
    omega (
      arith,
      least,
      parted,
      length-append c.read.new.data (minor_affix minor),
      first.offset,
      affix.holds.all.offset,
    )

pub header-requires-clause-kind : goal.header-requires-clause-kind
header-requires-clause-kind g c =
    let affix = rw c.in-Some.is at c.in_ok-minor.ensures.minor in
    rw affix.holds.code at c.row_of-row.ensures.kind

pub returns-in-None-clause-header : goal.returns-in-None-clause-header
returns-in-None-clause-header g c =
    let affix = rw c.in-Some.is at c.in_ok-minor.ensures.minor in
    let one : length c.read.new.data ≡ 1 = search rules in
    let never = c.in-None.ensures.none in
    inl (open_refused g.R.Read c.args.self.now c.read.new.self c.minor.new.self c.read.new.data c.in-Some.minor
    c.requires.none_waits c.in_ok-read.ensures.bytes affix.holds.all one affix.holds.code never.0 never.1)

-- ---- after the first byte

pub returns-in_err-minor-clause-moves_on : goal.returns-in_err-minor-clause-moves_on
returns-in_err-minor-clause-moves_on g c =
    MovesOn-then g.R.Read _ _ _ c.in_ok-read.ensures.moves_on c.minor.ensures.moves_on

pub returns-in_err-minor-clause-full : goal.returns-in_err-minor-clause-full
returns-in_err-minor-clause-full g c =
    not_full g.R.Read c.args.self.now c.read.new.self c.read.new.data c.in_ok-read.ensures.bytes (search rules)

pub returns-in_default-clause-moves_on : goal.returns-in_default-clause-moves_on
returns-in_default-clause-moves_on g c =
    MovesOn-then g.R.Read _ _ _ c.in_ok-read.ensures.moves_on c.minor.ensures.moves_on

pub returns-in_default-clause-full : goal.returns-in_default-clause-full
returns-in_default-clause-full g c =
    not_full g.R.Read c.args.self.now c.read.new.self c.read.new.data c.in_ok-read.ensures.bytes (search rules)

pub returns-in-Some-header-clause-moves_on : goal.returns-in-Some-header-clause-moves_on
returns-in-Some-header-clause-moves_on g c =
    MovesOn-then g.R.Read _ _ _ c.in_ok-read.ensures.moves_on c.minor.ensures.moves_on

pub returns-in-Some-header-clause-full : goal.returns-in-Some-header-clause-full
returns-in-Some-header-clause-full g c =
    not_full g.R.Read c.args.self.now c.read.new.self c.read.new.data c.in_ok-read.ensures.bytes (search rules)

pub returns-in-None-clause-moves_on : goal.returns-in-None-clause-moves_on
returns-in-None-clause-moves_on g c =
    MovesOn-then g.R.Read _ _ _ c.in_ok-read.ensures.moves_on c.minor.ensures.moves_on

pub returns-in-None-clause-full : goal.returns-in-None-clause-full
returns-in-None-clause-full g c =
    not_full g.R.Read c.args.self.now c.read.new.self c.read.new.data c.in_ok-read.ensures.bytes (search rules)
