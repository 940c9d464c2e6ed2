-- The damaged body of a text: the bytes that all reads of the body gave together.
use Rattle.std.proofs.Common.{◌≡◌, ℕ, ◌≤◌, List, ◌++◌, length, arith, append_assoc, length-append}
use Rattle.ciborium_ll_io.specs.declared.io.Read.{Ghosts as Reader}
use Rattle.ciborium_ll_decoder.specs.declared.dec.Decoder.{Decoder}
use Rattle.ciborium_ll_decoder.specs.declared.dec.Error.TheVariants as e
use Rattle.ciborium_ll_grammar.specs.Strings.{Kind, Text}
use Rattle.ciborium_ll_text.specs.Text.{IsCharacters}
use Rattle.ciborium_ll_decoder.specs.Decoding.{ReadsPast}
use Rattle.ciborium_ll_decoder.specs.Finishing.{IsNoText, StopsRest}
use Rattle.ciborium_ll_decoder.proofs.DecodingLaws.{ReadsPast-then}

module _ {R E : Type 0} (source : Reader R E) (kind : Kind) (kept : List ℕ) (unread : ℕ) where
  -- The kept bytes and the bytes that were read are a front that is text, and more bytes. Together they are no text.
  pub record ReadsDamage (old new : Decoder R) : Type 0 where
    pub textual : kind ≡ Text
    pub read : List ℕ
    pub front : List ℕ
    pub more : List ℕ
    pub parts : kept ++ read ≡ front ++ more
    pub sound : IsCharacters front
    pub within : length read ≤ unread
    pub no_text : IsNoText kept unread read
    pub passed : ReadsPast source old read new

  abbrev pub damage_read : (room place at : ℕ) (old new : Decoder R)
      → StopsRest source kind kept unread room place old (e.Syntax at) new → ReadsDamage old new
  damage_read room place at old new stops =
      let part = stops.part in
      let damage = stops.stops.1 in
      record {
        textual = damage.textual;
        read = part.read ++ damage.last;
        front = part.front;
        more = part.left ++ damage.last;
        parts = rw (← append_assoc kept part.read damage.last, part.parts)
            (append_assoc part.front part.left damage.last);
        sound = rw damage.textual at part.sound;
        within = omega (arith, stops.filled, damage.all, part.within, length-append part.read damage.last);
        no_text = damage.no_text;
        passed = ReadsPast-then source old stops.between new part.read damage.last part.passed damage.passed;
      }
