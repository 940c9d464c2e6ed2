-- The two sides of a copy, as the copy of a body has them, and with an encoder in place of its writer.
use Rattle.ciborium_ll_decoder.specs.declared.dec.Decoder.{Decoder}
use Rattle.ciborium_ll_encoder.specs.declared.enc.Encoder.{Encoder}
use Rattle.ciborium_ll_encoder.specs.Encoding.{writer_of}
pub use Rattle.ciborium_ll_decoder.specs.BodyCopies.{Sides, sides}

-- A decoder, and the writer that an encoder writes to. These are, for example, a decoder over `18 17` and a writer with
-- room for 1 byte.
abbrev pub sides_of : {R W : Type 0} → Decoder R → Encoder W → Sides R W
sides_of decoder encoder = sides decoder (writer_of encoder)
