-- The write of an item after its header, compared with a read of the item.
use Rattle.std.proofs.Common.{◌≡◌, ℕ, suc, Bool, [], Option, Result, Err, IfErr, inr, arith}
use Rattle.ciborium_ll_grammar.specs.declared.spelling.Spelling.{Spelling}
use Rattle.ciborium_ll.specs.Types.Read.{Ghosts}
use Rattle.ciborium_ll.specs.Types.Header.{Header}
use Rattle.ciborium_ll.specs.Types.Decoder.{Decoder}
use Rattle.ciborium_ll.specs.Strings.{Kind, kind_header}
use Rattle.ciborium_ll.specs.Items.{Completes, float, negative, positive, simple}
use Rattle.ciborium_ll.specs.Decoding.{IsSteady, PullsTitle}
use Rattle.ciborium_ll.specs.Skipping.{SkipsString}
use Rattle.cbor_skip.specs.declared.SkipError.{SkipError}
use Rattle.cbor_skip.specs.Skipping.{ReadsWithin, SkipsWithin, allowed_by}
use Rattle.cbor_skip.proofs.ItemSteps.{reads_plain, reads_string, reads_nest, stops_here, stops_nest}
use Rattle.cbor_diag.specs.Showing.{ReadsFrom}
use Rattle.cbor_json.specs.declared.JsonError.{JsonError}
use Rattle.cbor_json.specs.Reading.{IsWriting, OnReading, OnString}
use Rattle.cbor_json.specs.Roles.{IsScalar}
use Rattle.cbor_json.proofs.ReadingLaws.{reading_whole, reading_stops, reading_string}

-- The header of a number or a simple value completes an item.
scalar_completes : (allowed : Spelling) (depth : ℕ) (header : Header) → IsScalar header
    → Completes allowed depth header []
scalar_completes allowed depth header is = grind (arith, float, negative, positive, simple)

module _ {R E : Type 0} (source : Ghosts R E) (outer : Bool) (depth : ℕ) (before : Decoder R) where
  -- The read of an item from the decoder before its title, by the answer.
  abbrev pub ItemRead : Decoder R → Result (Unit {0}) (SkipError E) → Type 0
  ItemRead new answer = ReadsFrom source outer depth 64 before answer new

module _ {R E F : Type 0} (source : Ghosts R E) (outer : Bool) (depth : ℕ) (before titled : Decoder R)
    (steady : IsSteady source before → IsSteady source titled) where
  -- An item that is its header alone was read whole.
  pub scalar_read : (header : Header) (result : Result (Unit {0}) (JsonError E F)) → IsScalar header
      → PullsTitle source before header titled → IfErr result IsWriting
      → OnReading (ItemRead source outer depth before titled) result
  scalar_read header result is pulled writing =
      reading_whole (ItemRead source outer depth before titled) result (reads_plain source pulled steady
      (scalar_completes (allowed_by before) depth header is)) writing

  -- The write of a string reads the item as a skip does.
  pub string_read : (kind : Kind) (len : Option ℕ) (new : Decoder R) (result : Result (Unit {0}) (JsonError E F))
      → PullsTitle source before (kind_header kind len) titled
      → OnString (λ answer. SkipsString source kind len 64 titled answer new) result
      → OnReading (ItemRead source outer depth before new) result
  string_read kind len new result pulled reads =
      reading_string (λ answer. SkipsString source kind len 64 titled answer new)
      (ItemRead source outer depth before new) result (λ whole. reads_string source kind len pulled steady whole)
      (λ fault fails. stops_here source (inr (record {
        kind = kind;
        len = len;
        titled = titled;
        pulled = pulled;
        steady = steady;
        fails = fails;
      }))) reads

  -- If all items of a nest were read, the nest was read.
  pub nest_read : (levels : ℕ) (header : Header) (new : Decoder R) (result : Result (Unit {0}) (JsonError E F))
      → suc levels ≡ depth → PullsTitle source before header titled → ReadsWithin source header levels titled new
      → IfErr result IsWriting → OnReading (ItemRead source outer depth before new) result
  nest_read levels header new result level pulled inner writing =
      reading_whole (ItemRead source outer depth before new) result (reads_nest source level pulled steady inner)
      writing

  -- If the read of a nest's items stops, the read of the nest stops.
  pub nest_stops : (levels : ℕ) (header : Header) (new : Decoder R) (error : JsonError E F) → suc levels ≡ depth
      → PullsTitle source before header titled
      → OnReading (λ answer. SkipsWithin source header levels 64 titled answer new) (Err error)
      → OnReading (ItemRead source outer depth before new) (Err error)
  nest_stops levels header new error level pulled reads =
      reading_stops (λ answer. SkipsWithin source header levels 64 titled answer new)
      (ItemRead source outer depth before new) error (λ stop stops. stops_nest source level pulled steady stops) reads
