use Rattle.std.proofs.Common.{◌∙◌, ◌<◌, ◌≤◌, ℕ, sym, inl, arith}
use Rattle.ciborium_ll_io.specs.declared.io.Read.{Ghosts}
use Rattle.ciborium_ll_grammar.specs.declared.hdr.Header.{Header}
use Rattle.ciborium_ll_decoder.specs.declared.dec.Decoder.{Decoder}
use Rattle.ciborium_ll_decoder.specs.Decoding.{PullsTitle}
use Rattle.ciborium_ll_decoder.proofs.DecodingLaws.{exit_is, MovesOn-then}
use Rattle.ciborium_ll_grammar.specs.Strings.{Bytes, Text}
use Rattle.ciborium_ll_decoder.proofs.NestLaws.{title_some}
use Rattle.ciborium_ll_grammar.proofs.TitleLaws.{shortest_no_longer}
use Rattle.cbor_skip.proofs.ItemSteps.{reads_plain, reads_string}
use Rattle.cbor_skip.proofs.StartSteps.{begins_nest, break_start, nest_start, string_pulled, string_stops, value_start}
use Rattle.cbor_skip.proofs.skip_title.Goals as goal

-- A title that was pulled has at least one byte.
pull_rises : {R E : Type 0} (source : Ghosts R E) {old new : Decoder R} {header : Header}
    → PullsTitle source old header new → old.offset < new.offset
pull_rises source pulled = omega (arith, title_some pulled.title _ pulled.is_title, pulled.offset)

-- The offset also rises if the decoder reads more after the title.
rises_behind : {old between new : ℕ} → old < between → between ≤ new → old < new
rises_behind risen rises = omega (arith, risen, rises)

pub skip_bytes-requires-clause-covered : goal.skip_bytes-requires-clause-covered
skip_bytes-requires-clause-covered g c =
    let pulled = string_pulled g.R.Read Bytes c.in-Bytes.len c.in_ok-header.header (sym c.start.ensures ∙ c.in-Bytes.is)
    c.in_ok-header.ensures.header in
    omega (arith, shortest_no_longer pulled.title _ pulled.is_title, pulled.offset)

pub skip_text-requires-clause-covered : goal.skip_text-requires-clause-covered
skip_text-requires-clause-covered g c =
    let pulled = string_pulled g.R.Read Text c.in-Text.len c.in_ok-header.header (sym c.start.ensures ∙ c.in-Text.is)
    c.in_ok-header.ensures.header in
    omega (arith, shortest_no_longer pulled.title _ pulled.is_title, pulled.offset)

pub returns-in-Value-clause-begun : goal.returns-in-Value-clause-begun
returns-in-Value-clause-begun g c = λ depth.
    reads_plain g.R.Read c.in_ok-header.ensures.header c.pull_title.ensures.moves_on.steady
    (value_start c.in_ok-header.header (sym c.start.ensures ∙ c.in-Value.is))

pub returns-in-Break-clause-rises : goal.returns-in-Break-clause-rises
returns-in-Break-clause-rises g c = λ ok. pull_rises g.R.Read c.in_ok-header.ensures.header

pub returns-in-Value-clause-rises : goal.returns-in-Value-clause-rises
returns-in-Value-clause-rises g c = λ ok. pull_rises g.R.Read c.in_ok-header.ensures.header

pub returns-in-Nest-clause-rises : goal.returns-in-Nest-clause-rises
returns-in-Nest-clause-rises g c = λ ok. pull_rises g.R.Read c.in_ok-header.ensures.header

pub returns-in_err-header-clause-begun : goal.returns-in_err-header-clause-begun
returns-in_err-header-clause-begun g c =
    rw (exit_is c.from_residual.result c.in_err-header.field-0.0 c.from_residual.ensures.1)
    (inl c.in_err-header.ensures.header)

pub returns-in-Break-clause-begun : goal.returns-in-Break-clause-begun
returns-in-Break-clause-begun g c =
    rw (break_start c.in_ok-header.header (sym c.start.ensures ∙ c.in-Break.is)) at c.in_ok-header.ensures.header

pub nest_begun-requires : goal.nest_begun-requires
nest_begun-requires g c = nest_start c.in_ok-header.header c.in-Nest.nest (sym c.start.ensures ∙ c.in-Nest.is)

pub returns-in-Nest-clause-begun : goal.returns-in-Nest-clause-begun
returns-in-Nest-clause-begun g c =
    begins_nest g.R.Read c.in_ok-header.header c.in-Nest.nest c.nest_begun.result (sym c.start.ensures ∙ c.in-Nest.is)
    c.nest_begun.ensures c.in_ok-header.ensures.header

-- ---- strings

pub returns-in_ok-skip_bytes-in-Bytes-clause-begun : goal.returns-in_ok-skip_bytes-in-Bytes-clause-begun
returns-in_ok-skip_bytes-in-Bytes-clause-begun g c = λ depth.
    let pulled = string_pulled g.R.Read Bytes c.in-Bytes.len c.in_ok-header.header (sym c.start.ensures ∙ c.in-Bytes.is)
    c.in_ok-header.ensures.header in
    reads_string g.R.Read Bytes c.in-Bytes.len pulled c.pull_title.ensures.moves_on.steady
    c.in_ok-skip_bytes-in-Bytes.ensures.skipped

pub returns-in_ok-skip_text-in-Text-clause-begun : goal.returns-in_ok-skip_text-in-Text-clause-begun
returns-in_ok-skip_text-in-Text-clause-begun g c = λ depth.
    let pulled = string_pulled g.R.Read Text c.in-Text.len c.in_ok-header.header (sym c.start.ensures ∙ c.in-Text.is)
    c.in_ok-header.ensures.header in
    reads_string g.R.Read Text c.in-Text.len pulled c.pull_title.ensures.moves_on.steady
    c.in_ok-skip_text-in-Text.ensures.skipped

pub returns-in_ok-skip_bytes-in-Bytes-clause-rises : goal.returns-in_ok-skip_bytes-in-Bytes-clause-rises
returns-in_ok-skip_bytes-in-Bytes-clause-rises g c = λ ok.
    rises_behind (pull_rises g.R.Read c.in_ok-header.ensures.header) c.skip_bytes.ensures.moves_on.rises

pub returns-in_ok-skip_text-in-Text-clause-rises : goal.returns-in_ok-skip_text-in-Text-clause-rises
returns-in_ok-skip_text-in-Text-clause-rises g c = λ ok.
    rises_behind (pull_rises g.R.Read c.in_ok-header.ensures.header) c.skip_text.ensures.moves_on.rises

pub returns-in_err-skip_bytes-in-Bytes-clause-begun : goal.returns-in_err-skip_bytes-in-Bytes-clause-begun
returns-in_err-skip_bytes-in-Bytes-clause-begun g c =
    let pulled = string_pulled g.R.Read Bytes c.in-Bytes.len c.in_ok-header.header (sym c.start.ensures ∙ c.in-Bytes.is)
    c.in_ok-header.ensures.header in
    let residual = c.from_residual-in_err-skip_bytes-in-Bytes in
    let same = exit_is residual.result c.in_err-skip_bytes-in-Bytes.field-0.0 residual.ensures.1 in
    rw same (string_stops g.R.Read Bytes c.in-Bytes.len pulled c.pull_title.ensures.moves_on.steady
    c.in_err-skip_bytes-in-Bytes.ensures.skipped)

pub returns-in_err-skip_text-in-Text-clause-begun : goal.returns-in_err-skip_text-in-Text-clause-begun
returns-in_err-skip_text-in-Text-clause-begun g c =
    let pulled = string_pulled g.R.Read Text c.in-Text.len c.in_ok-header.header (sym c.start.ensures ∙ c.in-Text.is)
    c.in_ok-header.ensures.header in
    let residual = c.from_residual-in_err-skip_text-in-Text in
    let same = exit_is residual.result c.in_err-skip_text-in-Text.field-0.0 residual.ensures.1 in
    rw same (string_stops g.R.Read Text c.in-Text.len pulled c.pull_title.ensures.moves_on.steady
    c.in_err-skip_text-in-Text.ensures.skipped)

pub returns-in_ok-skip_bytes-in-Bytes-clause-moves_on : goal.returns-in_ok-skip_bytes-in-Bytes-clause-moves_on
returns-in_ok-skip_bytes-in-Bytes-clause-moves_on g c =
    MovesOn-then g.R.Read _ _ _ c.pull_title.ensures.moves_on c.skip_bytes.ensures.moves_on

pub returns-in_err-skip_bytes-in-Bytes-clause-moves_on : goal.returns-in_err-skip_bytes-in-Bytes-clause-moves_on
returns-in_err-skip_bytes-in-Bytes-clause-moves_on g c =
    MovesOn-then g.R.Read _ _ _ c.pull_title.ensures.moves_on c.skip_bytes.ensures.moves_on

pub returns-in_ok-skip_text-in-Text-clause-moves_on : goal.returns-in_ok-skip_text-in-Text-clause-moves_on
returns-in_ok-skip_text-in-Text-clause-moves_on g c =
    MovesOn-then g.R.Read _ _ _ c.pull_title.ensures.moves_on c.skip_text.ensures.moves_on

pub returns-in_err-skip_text-in-Text-clause-moves_on : goal.returns-in_err-skip_text-in-Text-clause-moves_on
returns-in_err-skip_text-in-Text-clause-moves_on g c =
    MovesOn-then g.R.Read _ _ _ c.pull_title.ensures.moves_on c.skip_text.ensures.moves_on
