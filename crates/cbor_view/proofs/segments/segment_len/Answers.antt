use Rattle.ciborium_ll_grammar.specs.Strings.{Bytes}
use Rattle.cbor_view.proofs.SegmentLaws.{segment_header}
use Rattle.cbor_view.proofs.segments.segment_len.Goals as goal

pub returns-in-Some : goal.returns-in-Some
returns-in-Some c = (Bytes, c.in-Some.ensures)

pub returns-in-None : goal.returns-in-None
returns-in-None c = segment_header c.args.header c.text_len.result c.in-None.ensures c.text_len.ensures
