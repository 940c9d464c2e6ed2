-- The role of a title within an item.
use Rattle.ciborium_ll_grammar.specs.declared.hdr.Header.{Header}
use Rattle.ciborium_ll_grammar.specs.declared.hdr.Header.TheVariants as h
use Rattle.ciborium_ll_grammar.specs.declared.hdr.start.Start.{Start}
use Rattle.ciborium_ll_grammar.specs.declared.hdr.start.Start.TheVariants as s

-- The role of a title of the header: a value, a string with its length, a *nest* or the end of an indefinite form. A
-- nest is a tag, an array or a map, which items follow (RFC 7049, 2.1 to 2.4). `01` is a value, and `82` is a nest.
abbrev pub start_of : Header → Start
start_of (h.Positive number) = s.Value
start_of (h.Negative number) = s.Value
start_of (h.Float float) = s.Value
start_of (h.Simple number) = s.Value
start_of (h.Bytes len) = s.Bytes len
start_of (h.Text len) = s.Text len
start_of (h.Tag number) = s.Nest (h.Tag number)
start_of (h.Array len) = s.Nest (h.Array len)
start_of (h.Map len) = s.Nest (h.Map len)
start_of h.Break = s.Break
