-- Laws of the loop over the integers of an array.
use Rattle.std.proofs.Common.{ℕ, suc, ◌<◌, ℤ, pos, [], ◌++◌, Option, Result, Ok, Err, true, false, subst, sym, inr}
use Rattle.std.proofs.Common.{arith}
use Rattle.ciborium_ll.specs.Types.Read.{Ghosts}
use Rattle.ciborium_ll.specs.Types.Header.TheVariants as h
use Rattle.ciborium_ll.specs.Types.Decoder.{Decoder}
use Rattle.ciborium_ll.specs.Decoding.{IsSteady, PullsTitle}
use Rattle.ciborium_ll.proofs.DecodingLaws.{ReadsPast-none, ReadsPast-pull}
use Rattle.ciborium_ll.proofs.NestLaws.{title_some}
use Rattle.uses.specs.declared.sums.SumError.{SumError}
use Rattle.uses.specs.declared.sums.SumError.TheVariants as s
use Rattle.uses.specs.Sums.{HaveSum, none, more, AddsInteger, ReadsIntegers, StopsNext, SumsOrStops}
use Rattle.uses.specs.Sums.{SumsBehind}

module _ {R E : Type 0} (source : Ghosts R E) where
  pub reads_none : (old : Decoder R) → ReadsIntegers source old 0 (pos 0) old
  reads_none old = record { bytes = []; have_sum = none; passed = ReadsPast-none source old }

  pub reads_more : (old now new : Decoder R) (count : ℕ) (total sum : ℤ) → ReadsIntegers source old count total now
      → AddsInteger source total now sum new → (IsSteady source now → IsSteady source new)
      → ReadsIntegers source old (suc count) sum new
  reads_more old now new count total sum reads adds steady = record {
    bytes = reads.bytes ++ adds.pulled.title;
    have_sum = subst (λ (z : ℤ). HaveSum (suc count) (reads.bytes ++ adds.pulled.title) z) (sym adds.sum-is)
        (more adds.number reads.have_sum adds.pulled.is_title adds.is_integer);
    passed = ReadsPast-pull source old now new reads.bytes adds.header adds.pulled reads.passed steady;
  }

  -- A title takes at least one byte.
  pub adds_rises : (total sum : ℤ) (old new : Decoder R) → AddsInteger source total old sum new
      → old.offset < new.offset
  adds_rises total sum old new adds =
      omega (arith, adds.pulled.offset, title_some adds.pulled.title adds.header adds.pulled.is_title)

  -- A stop of an array of indefinite length is also a stop of an array of a definite length.
  pub stops_counted : (total : ℤ) (old new : Decoder R) (error : SumError E) → StopsNext source true total old error new
      → StopsNext source false total old error new
  stops_counted total old new (s.Read error) stops = stops
  stops_counted total old new (s.NoArray at) stops = absurd stops
  stops_counted total old new (s.NoNumber at) stops = record {
    header = stops.header;
    pulled = stops.pulled;
    place = stops.place;
    no_integer = stops.no_integer;
    no_end = λ closable. absurd cc;
  }
  stops_counted total old new (s.OutOfRange at) stops = stops

  -- The sum of the integers after the header is the sum of the array.
  pub opens_array : (len : Option ℕ) (old opened new : Decoder R) (result : Result ℤ (SumError E))
      → PullsTitle source old (h.Array len) opened → SumsBehind source (h.Array len) opened result new
      → SumsOrStops source old result new
  opens_array len old opened new (Ok total) pulled sums = record
      { len = len; opened = opened; pulled = pulled; sums = sums }
  opens_array len old opened new (Err (s.Read error)) pulled sums =
      inr (record { len = len; opened = opened; pulled = pulled; sums = sums })
  opens_array len old opened new (Err (s.NoArray at)) pulled sums = absurd sums.stops
  opens_array len old opened new (Err (s.NoNumber at)) pulled sums =
      record { len = len; opened = opened; pulled = pulled; sums = sums }
  opens_array len old opened new (Err (s.OutOfRange at)) pulled sums =
      record { len = len; opened = opened; pulled = pulled; sums = sums }
