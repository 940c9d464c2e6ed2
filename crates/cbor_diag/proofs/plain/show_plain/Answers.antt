use Rattle.std.proofs.Common.{ap, refl}
use Rattle.ciborium_ll.specs.Types.Header.{Header}
use Rattle.ciborium_ll.specs.Items.{positive, negative, float, simple}
use Rattle.ciborium_ll.specs.Strings.{Bytes, Text}
use Rattle.ciborium_ll.proofs.DecodingLaws.{MovesOn-none}
use Rattle.cbor_diag.specs.ItemTexts.{scalar, float as float_text}
use Rattle.cbor_diag.specs.Notation.{header_notation}
use Rattle.cbor_diag.proofs.ShowLaws.{float_said, said_text}
use Rattle.cbor_diag.proofs.ItemLaws.{scalar_read, string_read}
use Rattle.cbor_diag.proofs.ItemTextLaws.{plain_said, string_shown}
use Rattle.cbor_diag.proofs.plain.show_plain.Goals as goal

pub returns-in-Positive-clause-reads : goal.returns-in-Positive-clause-reads
returns-in-Positive-clause-reads g c = λ before outer depth pulled steady.
    scalar_read g.R.Read outer depth before c.args.decoder.now steady c.args.marked.header c.said.result
    (rw c.in-Positive.is positive) pulled c.said.ensures.writing

pub returns-in-Positive-clause-text : goal.returns-in-Positive-clause-text
returns-in-Positive-clause-text g c = rw c.in-Positive.is (record {
  written = said_text g.W.Write _ _ c.show_positive.result c.said.result _
      c.said.ensures.same c.show_positive.ensures;
  unread = refl;
})

pub returns-in-Positive-clause-moves_on : goal.returns-in-Positive-clause-moves_on
returns-in-Positive-clause-moves_on g c = MovesOn-none g.R.Read c.args.decoder.now

pub returns-in-Positive-clause-shown : goal.returns-in-Positive-clause-shown
returns-in-Positive-clause-shown g c = λ place same free.
    plain_said g.R.Read g.W.Write place c.args.marked.header c.args.marked.mark _ _ _ _ c.show_positive.result c.said.result
    (scalar (ap (λ (z : Header). header_notation z c.args.marked.mark) c.in-Positive.is)) c.said.ensures.same c.show_positive.ensures

pub returns-in-Negative-clause-reads : goal.returns-in-Negative-clause-reads
returns-in-Negative-clause-reads g c = λ before outer depth pulled steady.
    scalar_read g.R.Read outer depth before c.args.decoder.now steady c.args.marked.header c.said-in-Negative.result
    (rw c.in-Negative.is negative) pulled c.said-in-Negative.ensures.writing

pub returns-in-Negative-clause-text : goal.returns-in-Negative-clause-text
returns-in-Negative-clause-text g c = rw c.in-Negative.is (record {
  written = said_text g.W.Write _ _ c.show_negative.result c.said-in-Negative.result _
      c.said-in-Negative.ensures.same c.show_negative.ensures;
  unread = refl;
})

pub returns-in-Negative-clause-moves_on : goal.returns-in-Negative-clause-moves_on
returns-in-Negative-clause-moves_on g c = MovesOn-none g.R.Read c.args.decoder.now

pub returns-in-Negative-clause-shown : goal.returns-in-Negative-clause-shown
returns-in-Negative-clause-shown g c = λ place same free.
    plain_said g.R.Read g.W.Write place c.args.marked.header c.args.marked.mark _ _ _ _ c.show_negative.result c.said-in-Negative.result
    (scalar (ap (λ (z : Header). header_notation z c.args.marked.mark) c.in-Negative.is)) c.said-in-Negative.ensures.same c.show_negative.ensures

pub returns-in-Simple-clause-reads : goal.returns-in-Simple-clause-reads
returns-in-Simple-clause-reads g c = λ before outer depth pulled steady.
    scalar_read g.R.Read outer depth before c.args.decoder.now steady c.args.marked.header c.said-in-Simple.result
    (rw c.in-Simple.is simple) pulled c.said-in-Simple.ensures.writing

pub returns-in-Simple-clause-text : goal.returns-in-Simple-clause-text
returns-in-Simple-clause-text g c = rw c.in-Simple.is (record {
  written = said_text g.W.Write _ _ c.show_simple.result c.said-in-Simple.result _
      c.said-in-Simple.ensures.same c.show_simple.ensures;
  unread = refl;
})

pub returns-in-Simple-clause-moves_on : goal.returns-in-Simple-clause-moves_on
returns-in-Simple-clause-moves_on g c = MovesOn-none g.R.Read c.args.decoder.now

pub returns-in-Simple-clause-shown : goal.returns-in-Simple-clause-shown
returns-in-Simple-clause-shown g c = λ place same free.
    plain_said g.R.Read g.W.Write place c.args.marked.header c.args.marked.mark _ _ _ _ c.show_simple.result c.said-in-Simple.result
    (scalar (ap (λ (z : Header). header_notation z c.args.marked.mark) c.in-Simple.is)) c.said-in-Simple.ensures.same c.show_simple.ensures

pub returns-in-Float-clause-reads : goal.returns-in-Float-clause-reads
returns-in-Float-clause-reads g c = λ before outer depth pulled steady.
    scalar_read g.R.Read outer depth before c.args.decoder.now steady c.args.marked.header c.said-in-Float.result
    (rw c.in-Float.is float) pulled c.said-in-Float.ensures.writing

pub returns-in-Float-clause-text : goal.returns-in-Float-clause-text
returns-in-Float-clause-text g c =
    float_said g.R.Read g.W.Write c.args.is_exact c.args.marked.header c.args.marked.mark c.in-Float.float _ _ c.show_float.result c.said-in-Float.result
    c.in-Float.is refl c.said-in-Float.ensures.same c.show_float.ensures

pub returns-in-Float-clause-moves_on : goal.returns-in-Float-clause-moves_on
returns-in-Float-clause-moves_on g c = MovesOn-none g.R.Read c.args.decoder.now

pub returns-in-Float-clause-shown : goal.returns-in-Float-clause-shown
returns-in-Float-clause-shown g c = λ place same free.
    rw c.in-Float.is (plain_said g.R.Read g.W.Write place _ c.args.marked.mark _ _ _ _ c.show_float.result
    c.said-in-Float.result (float_text (rw same c.show_float.ensures.is_text)) c.said-in-Float.ensures.same c.show_float.ensures.written)

pub returns-in-Bytes-clause-reads : goal.returns-in-Bytes-clause-reads
returns-in-Bytes-clause-reads g c = λ before outer depth pulled steady.
    string_read g.R.Read outer depth before c.args.decoder.now steady Bytes c.in-Bytes.len c.show_bytes.new.decoder
    c.show_bytes.result (rw c.in-Bytes.is at pulled) c.show_bytes.ensures.reads

pub returns-in-Bytes-clause-text : goal.returns-in-Bytes-clause-text
returns-in-Bytes-clause-text g c = rw c.in-Bytes.is c.show_bytes.ensures.text

pub returns-in-Bytes-clause-moves_on : goal.returns-in-Bytes-clause-moves_on
returns-in-Bytes-clause-moves_on g c = c.show_bytes.ensures.moves_on

pub returns-in-Bytes-clause-shown : goal.returns-in-Bytes-clause-shown
returns-in-Bytes-clause-shown g c = λ place same free.
    rw c.in-Bytes.is (string_shown g.R.Read g.W.Write place c.args.is_exact Bytes c.in-Bytes.len c.args.marked.mark 64 _ _
    c.show_bytes.result same (rw c.in-Bytes.is at free) c.show_bytes.ensures.text)

pub returns-in-Text-clause-reads : goal.returns-in-Text-clause-reads
returns-in-Text-clause-reads g c = λ before outer depth pulled steady.
    string_read g.R.Read outer depth before c.args.decoder.now steady Text c.in-Text.len c.show_text.new.decoder
    c.show_text.result (rw c.in-Text.is at pulled) c.show_text.ensures.reads

pub returns-in-Text-clause-text : goal.returns-in-Text-clause-text
returns-in-Text-clause-text g c = rw c.in-Text.is c.show_text.ensures.text

pub returns-in-Text-clause-moves_on : goal.returns-in-Text-clause-moves_on
returns-in-Text-clause-moves_on g c = c.show_text.ensures.moves_on

pub returns-in-Text-clause-shown : goal.returns-in-Text-clause-shown
returns-in-Text-clause-shown g c = λ place same free.
    rw c.in-Text.is (string_shown g.R.Read g.W.Write place c.args.is_exact Text c.in-Text.len c.args.marked.mark 64 _ _
    c.show_text.result same (rw c.in-Text.is at free) c.show_text.ensures.text)
