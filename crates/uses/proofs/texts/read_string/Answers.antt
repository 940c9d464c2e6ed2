use Rattle.std.proofs.Common.{rules, subst, ◌≡◌, Err, ap, ◌∙◌, string_bytes}
use Rattle.std.specs.Str.{IsUtf8}
use Rattle.ciborium_ll.proofs.DecodingLaws.{exit_is}
use Rattle.ciborium_ll.specs.Decoding.{MovesOn}
use Rattle.ciborium_ll.specs.Types.Decoder.{Decoder}
use Rattle.uses.specs.Texts.{GathersText, ReadsText, StopsText}
use Rattle.uses.proofs.TextLaws.{reads_text, stops_text, text_is_utf8, text_moves_on}
use Rattle.uses.proofs.texts.read_string.Goals as goal

pub returns-in_err-read_segments-clause-stops : goal.returns-in_err-read_segments-clause-stops
returns-in_err-read_segments-clause-stops g c =
    let same = exit_is c.from_residual-in_err-read_segments.result c.in_err-read_segments.field-0.0
    c.from_residual-in_err-read_segments.ensures.1 in
    let pulled = rw (c.offset-place.ensures.same, c.in-Text.is) at c.in_ok-len.ensures.header in
    let stops = rw c.text-segments.ensures.fresh at c.in_err-read_segments.ensures.stops in
    rw same (subst (λ (d : Decoder g.row.R.Denot). StopsText g.R.Read c.args.limit c.args.decoder.now
    c.in_err-read_segments.field-0.0 d) (search rules) (stops_text g.R.Read c.in-Text.len c.args.decoder.now c.pull.new.self
    c.text-segments.result.decoder.now pulled c.text-segments.ensures.back c.args.limit c.in_err-read_segments.field-0.0
    c.read_segments.new.segments.decoder.now stops))

pub returns-clause-whole : goal.returns-clause-whole
returns-clause-whole g c =
    let pulled = rw (c.offset-place.ensures.same, c.in-Text.is) at c.in_ok-len.ensures.header in
    let gathers = rw c.text-segments.ensures.fresh at c.in_ok-read_segments.ensures.gathers in
    let steady = rw c.offset-place.ensures.same at c.in_ok-len.ensures.moves_on.steady in
    let bytes : string_bytes c.in-Ok.text ≡ c.read_segments.new.text.bytes.items =
    ap (λ v. v.items) (c.in-Ok.ensures.ok ∙ c.into_vec.ensures.bytes) in
    rw bytes (subst (λ (d : Decoder g.row.R.Denot). ReadsText g.R.Read c.args.limit c.args.decoder.now
    c.read_segments.new.text.bytes.items d) (search rules) (reads_text g.R.Read c.in-Text.len c.args.decoder.now c.pull.new.self
    c.text-segments.result.decoder.now pulled c.text-segments.ensures.back c.args.limit
    c.read_segments.new.text.bytes.items c.read_segments.new.segments.decoder.now steady gathers))

pub unreachable-requires : goal.unreachable-requires
unreachable-requires g c =
    let pulled = rw (c.offset-place.ensures.same, c.in-Text.is) at c.in_ok-len.ensures.header in
    let gathers = rw c.text-segments.ensures.fresh at c.in_ok-read_segments.ensures.gathers in
    let steady = rw c.offset-place.ensures.same at c.in_ok-len.ensures.moves_on.steady in
    let read = reads_text g.R.Read c.in-Text.len c.args.decoder.now c.pull.new.self
    c.text-segments.result.decoder.now pulled c.text-segments.ensures.back c.args.limit
    c.read_segments.new.text.bytes.items c.read_segments.new.segments.decoder.now steady gathers in
    let utf8 : IsUtf8 c.into_vec.result.items = rw c.into_vec.ensures.bytes (text_is_utf8 g.R.Read c.args.limit
    c.args.decoder.now c.read_segments.new.text.bytes.items c.read_segments.new.segments.decoder.now read) in
    let fails = c.in-Err.ensures.succeeds utf8 in
    cc

pub returns-clause-steps : goal.returns-clause-steps
returns-clause-steps g c =
    let pulled = rw (c.offset-place.ensures.same, c.in-Text.is) at c.in_ok-len.ensures.header in
    let gathers = rw c.text-segments.ensures.fresh at c.in_ok-read_segments.ensures.gathers in
    let bytes : string_bytes c.in-Ok.text ≡ c.read_segments.new.text.bytes.items =
    ap (λ v. v.items) (c.in-Ok.ensures.ok ∙ c.into_vec.ensures.bytes) in
    rw bytes (subst (λ (d : Decoder g.row.R.Denot). GathersText g.R.Read c.args.limit c.args.decoder.now
    c.read_segments.new.text.bytes.items d) (search rules) (record {
      len = c.in-Text.len;
      titled = c.pull.new.self;
      pulled = pulled;
      pushed = c.text-segments.result.decoder.now;
      back = c.text-segments.ensures.back;
      done = gathers;
    }))

pub returns-in_err-read_segments-clause-moves_on : goal.returns-in_err-read_segments-clause-moves_on
returns-in_err-read_segments-clause-moves_on g c =
    let pulled = rw (c.offset-place.ensures.same, c.in-Text.is) at c.in_ok-len.ensures.header in
    let first = rw c.offset-place.ensures.same at c.in_ok-len.ensures.moves_on in
    subst (λ (d : Decoder g.row.R.Denot). MovesOn g.R.Read c.args.decoder.now d) (search rules)
    (text_moves_on g.R.Read c.in-Text.len c.args.decoder.now c.pull.new.self
    c.text-segments.result.decoder.now pulled c.text-segments.ensures.back c.read_segments.new.segments.decoder.now
    first
    c.text-segments.ensures.back.refusals c.read_segments.ensures.moves_on)

pub returns-clause-moves_on : goal.returns-clause-moves_on
returns-clause-moves_on g c =
    let pulled = rw (c.offset-place.ensures.same, c.in-Text.is) at c.in_ok-len.ensures.header in
    let first = rw c.offset-place.ensures.same at c.in_ok-len.ensures.moves_on in
    subst (λ (d : Decoder g.row.R.Denot). MovesOn g.R.Read c.args.decoder.now d) (search rules)
    (text_moves_on g.R.Read c.in-Text.len c.args.decoder.now c.pull.new.self
    c.text-segments.result.decoder.now pulled c.text-segments.ensures.back c.read_segments.new.segments.decoder.now
    first
    c.text-segments.ensures.back.refusals c.read_segments.ensures.moves_on)
