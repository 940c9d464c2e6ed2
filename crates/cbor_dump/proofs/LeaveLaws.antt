-- How the reads of a dump leave its decoder.
use Rattle.std.proofs.Common.{ℕ, List, Result, Ok, Err, IfErr, arith}
use Rattle.ciborium_ll.specs.Types.Read.{Ghosts}
use Rattle.ciborium_ll.specs.Types.Decoder.{Decoder}
use Rattle.ciborium_ll.specs.Types.Error.{Error}
use Rattle.ciborium_ll.specs.Types.Error.TheVariants as e
use Rattle.ciborium_ll.specs.Decoding.{Reads}
use Rattle.ciborium_ll.proofs.DecodingLaws.{MovesOn-none, MovesOn-then}
use Rattle.cbor_dump.specs.declared.dump.DumpError.{DumpError}
use Rattle.cbor_dump.specs.Takings.{ReadsBy, ReadsMore, ReadsOn, RefusesLast, StopsBy}
use Rattle.cbor_dump.specs.Dumps.{EndsTitles, IsAlone, IsRefusal, LeavesDecoder, LeavesPart, SaysFault, StopsDump}

module _ {R E : Type 0} (source : Ghosts R E) where
  -- A decoder that reads nothing moves on to itself.
  pub reads_on : (decoder : Decoder R) → ReadsOn source decoder decoder
  reads_on decoder = grind (arith, MovesOn-none)

  -- Two reads that do not fail, one after the other, do not fail.
  pub reads_then : (old between new : Decoder R) → ReadsOn source old between → ReadsOn source between new
      → ReadsOn source old new
  reads_then old between new first second = grind (arith, MovesOn-then)

  refused_then : (old between new : Decoder R) → ReadsOn source old between → RefusesLast source between new
      → RefusesLast source old new
  refused_then old between new first second = record {
    between = second.between;
    reads = reads_then old between second.between first second.reads;
    refuses = second.refuses;
  }

  pub stops_then : (error : Error E) (old between new : Decoder R) → ReadsOn source old between
      → StopsBy source error between new → StopsBy source error old new
  stops_then (e.Io fault) old between new first second = grind (arith, MovesOn-then)
  stops_then (e.Syntax at) old between new first second = reads_then old between new first second
  stops_then e.TooLong old between new first second = refused_then old between new first second
  stops_then e.Waiting old between new first second = refused_then old between new first second

  -- One read leaves the decoder as its answer says.
  one_read : (result : Result (Unit {0}) (Error E)) (bytes : List ℕ) (old new : Decoder R)
      → Reads source old result bytes new → ReadsBy source result old new
  one_read (Ok done) bytes old new reads = grind arith
  one_read (Err (e.Io fault)) bytes old new reads = grind arith
  one_read (Err (e.Syntax at)) bytes old new reads = absurd reads.read
  one_read (Err e.TooLong) bytes old new reads =
      record {
        between = old;
        reads = reads_on old;
        refuses = record { untouched = reads.read.2; counted = reads.refusals };
      }
  one_read (Err e.Waiting) bytes old new reads =
      record {
        between = old;
        reads = reads_on old;
        refuses = record { untouched = reads.read.1; counted = reads.refusals };
      }

  pub row_read : (count : ℕ) (before after : List ℕ) (result : Result (Unit {0}) (Error E)) (old new : Decoder R)
      → ReadsMore source count before after old result new → ReadsBy source result old new
  row_read count before after result old new reads = one_read result reads.bytes old new reads.reads

module _ {R E W : Type 0} (source : Ghosts R E) where
  -- A dump that answers with the error of a read leaves the decoder as that read did.
  pub says_stops : (error : Error E) (why : DumpError E W) (old new : Decoder R) → SaysFault error why
      → StopsBy source error old new → StopsDump source why old new
  says_stops error why old new says stops = grind arith

  -- A dump that stops at a refused row leaves the decoder as its reads did, if none failed.
  pub refused_stops : (why : DumpError E W) (old new : Decoder R) → IsRefusal why → ReadsOn source old new
      → StopsDump source why old new
  refused_stops why old new refused reads = grind arith

  pub dump_then : (why : DumpError E W) (old between new : Decoder R) → ReadsOn source old between
      → StopsDump source why between new → StopsDump source why old new
  dump_then why old between new first second = grind (arith, reads_then, stops_then)

  -- An answer after which nothing more is read leaves the decoder unchanged.
  pub alone_leaves : (result : Result (Unit {0}) (DumpError E W)) (decoder : Decoder R) → IfErr result IsAlone
      → LeavesPart source result decoder decoder
  alone_leaves result decoder alone = grind (arith, reads_on)

  -- If the read of a title fails, the dump leaves the decoder as that read did.
  pub ended_leaves : (error : Error E) (level len : ℕ) (result : Result E (DumpError E W)) (old new : Decoder R)
      → EndsTitles error level len result → StopsBy source error old new → LeavesDecoder source result old new
  ended_leaves error level len result old new ends stops = grind (arith, says_stops)

-- The error of a refused row is no error of a read.
pub refusal_alone : {E W : Type 0} (why : DumpError E W) → IsRefusal why → IsAlone why
refusal_alone why refused = grind arith
