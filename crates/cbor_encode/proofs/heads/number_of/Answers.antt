use Rattle.std.proofs.Common.{rules, refl, sym}
use Rattle.ciborium_ll_grammar.specs.Title.{Unsigned, Negative, ByteString, TextString, Array, Map, Tag}
use Rattle.cbor_encode.proofs.heads.number_of.Goals as goal

pub returns-in-Positive : goal.returns-in-Positive
returns-in-Positive c = record { major = Unsigned; same = refl; reads = λ size. sym c.in-Positive.is }

pub returns-in-Negative : goal.returns-in-Negative
returns-in-Negative c = record { major = Negative; same = refl; reads = λ size. sym c.in-Negative.is }

pub returns-in-Bytes-Some : goal.returns-in-Bytes-Some
returns-in-Bytes-Some c = record { major = ByteString; same = refl; reads = λ size. search rules }

pub returns-in-Text-Some : goal.returns-in-Text-Some
returns-in-Text-Some c = record { major = TextString; same = refl; reads = λ size. search rules }

pub returns-in-Array-Some : goal.returns-in-Array-Some
returns-in-Array-Some c = record { major = Array; same = refl; reads = λ size. search rules }

pub returns-in-Map-Some : goal.returns-in-Map-Some
returns-in-Map-Some c = record { major = Map; same = refl; reads = λ size. search rules }

pub returns-in-Tag : goal.returns-in-Tag
returns-in-Tag c = record { major = Tag; same = refl; reads = λ size. sym c.in-Tag.is }
