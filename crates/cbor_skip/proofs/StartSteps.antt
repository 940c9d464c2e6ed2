-- The beginning that a title makes tells the title's header.
use Rattle.std.proofs.Common.{◌≡◌, ℕ, Option, Err, [], arith, inr}
use Rattle.ciborium_ll_io.specs.declared.io.Read.{Ghosts}
use Rattle.ciborium_ll_grammar.specs.declared.spelling.Spelling.{Spelling}
use Rattle.ciborium_ll_grammar.specs.declared.hdr.Header.{Header}
use Rattle.ciborium_ll_grammar.specs.declared.hdr.Header.TheVariants as h
use Rattle.ciborium_ll_grammar.specs.Items.{Completes, positive, negative, float, simple}
use Rattle.ciborium_ll_grammar.specs.declared.hdr.start.Start.TheVariants as s
use Rattle.ciborium_ll_grammar.specs.declared.hdr.start.Start.{Start}
use Rattle.ciborium_ll_grammar.specs.Starts.{start_of}
use Rattle.ciborium_ll_grammar.specs.Strings.{Kind, Bytes, Text, kind_header}
use Rattle.ciborium_ll_decoder.specs.declared.dec.Error.{Error}
use Rattle.ciborium_ll_decoder.specs.Skipping.{SkipsString}
use Rattle.ciborium_ll_decoder.specs.declared.dec.Decoder.{Decoder}
use Rattle.ciborium_ll_decoder.specs.Decoding.{PullsTitle, IsSteady}
use Rattle.cbor_skip.specs.declared.Begun.{Begun}
use Rattle.cbor_skip.specs.Due.{IsNest}
use Rattle.cbor_skip.specs.Skipping.{BeginsNest, IsBegun, StopsTitle}

abbrev pub string_begun : Kind → Option ℕ → Start
string_begun Bytes len = s.Bytes len
string_begun Text len = s.Text len

string_start : (kind : Kind) (len : Option ℕ) (header : Header) → start_of header ≡ string_begun kind len
    → header ≡ kind_header kind len
string_start kind len header e = grind arith

pub break_start : (header : Header) → start_of header ≡ s.Break → header ≡ h.Break
break_start header e = grind arith

pub nest_start : (header nest : Header) → start_of header ≡ s.Nest nest → IsNest nest
nest_start header nest e = grind arith

nest_same : (header nest : Header) → start_of header ≡ s.Nest nest → header ≡ nest
nest_same header nest e = grind arith

-- The title's start and its header make the same beginning.
pub begins_nest : {R E : Type 0} (source : Ghosts R E) {old new : Decoder R} (header nest : Header) (begun : Begun)
    → start_of header ≡ s.Nest nest → BeginsNest nest begun → PullsTitle source old header new
    → IsBegun source begun old new
begins_nest source header nest begun e begins pulled =
    let same = nest_same header nest e in
    let is = nest_start header nest e in
    grind arith

-- A value is an item by itself.
pub value_start : {allowed : Spelling} {depth : ℕ} (header : Header) → start_of header ≡ s.Value
    → Completes allowed depth header []
value_start header e = grind (arith, positive, negative, float, simple)

module _ {R E : Type 0} (source : Ghosts R E) (kind : Kind) (len : Option ℕ) {old titled : Decoder R} where
  -- If the title starts a string, the header of this string was pulled.
  pub string_pulled : (header : Header) → start_of header ≡ string_begun kind len → PullsTitle source old header titled
      → PullsTitle source old (kind_header kind len) titled
  string_pulled header e pulled = rw (string_start kind len header e) at pulled

  -- If the read of the string fails after its title, the read of the title and the string stops.
  pub string_stops : {room : ℕ} {error : Error E} {new : Decoder R}
      → PullsTitle source old (kind_header kind len) titled → (IsSteady source old → IsSteady source titled)
      → SkipsString source kind len room titled (Err error) new → StopsTitle source room old error new
  string_stops pulled steady fails = inr (record {
    kind = kind;
    len = len;
    titled = titled;
    pulled = pulled;
    steady = steady;
    fails = fails;
  })
