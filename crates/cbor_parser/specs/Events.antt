-- The event of a title.
use Rattle.std.specs.Prelude.{ℕ, List, []}
use Rattle.ciborium_ll_grammar.specs.declared.hdr.Header.{Header}
use Rattle.ciborium_ll_grammar.specs.declared.hdr.Header.TheVariants as h
use Rattle.cbor_parser.specs.declared.event.Event.{Event}
use Rattle.cbor_parser.specs.declared.event.Event.TheVariants as e
use Rattle.cbor_parser.specs.declared.strings.Within.{Within}
use Rattle.cbor_parser.specs.declared.strings.Within.TheVariants as w

-- The event of a title of this header within strings: a close, if it is a break (RFC 7049, 2.2.2). After `5f`, the byte
-- `ff` has the event `Close`.
abbrev pub within_event : Header → ℕ → Event
within_event h.Break offset = e.Close offset
within_event header offset = e.Header header offset

-- The event of a title of this header (RFC 7049, 2.2.1 and 2.2.2). After `9f`, the byte `ff` has the event `Header` of
-- a break.
abbrev pub title_event : Within → Header → ℕ → Event
title_event w.Nothing header offset = e.Header header offset
title_event (w.Open kind more) header offset = within_event header offset

-- The bytes that an event carries from earlier pieces: `c3` for the text `c3 a4` whose second byte alone is in the piece,
-- and none for a header.
abbrev pub carried_bytes : Event → List ℕ
carried_bytes (e.Text carried left) = carried
carried_bytes event = []
