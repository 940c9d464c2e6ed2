-- The reads and writes of the loop over the items of a sequence, and of one item in either form.
use Rattle.std.proofs.Common.{◌≡◌, ℕ, ◌+◌, Option, Result, Ok, Err, ◌∙◌, ap, sym, subst}
use Rattle.ciborium_ll.specs.Types.Read.{Ghosts}
use Rattle.ciborium_ll.specs.Types.Write.{Ghosts as Sink}
use Rattle.ciborium_ll.specs.Types.Error.{Error}
use Rattle.ciborium_ll.specs.Types.Header.{Header}
use Rattle.ciborium_ll.specs.Decoding.{DecoderPullAnswer}
use Rattle.ciborium_ll.specs.Sides.{Sides, sides}
use Rattle.ciborium_ll.specs.Types.Decoder.{Decoder}
use Rattle.cbor_skip.specs.Skipping.{ReadsItem, SkipsItem}
use Rattle.cbor_dump.specs.Sequences.{IsEnd, ReadsItems}
use Rattle.cbor_json.specs.declared.JsonError.{JsonError}
use Rattle.cbor_json.specs.declared.JsonError.TheVariants as j
use Rattle.cbor_json.specs.Reading.{CountsWritten, OnReading}
use Rattle.tool_verdicts.specs.Parts.{IsBelow}
use Rattle.tool_verdicts.specs.Lines.{AreLines, CountsLines, EndsLines, FollowsItem, IsEndOfItems, LineStops, LineWritten}
use Rattle.tool_verdicts.specs.Lines.{OnlyWritten, ReadsLines, WritesLines}
use Rattle.tool_verdicts.specs.declared.items.Ending.{Ending}
use Rattle.tool_verdicts.specs.declared.items.Ending.TheVariants as g
use Rattle.tool_verdicts.specs.declared.items.Form.{Form}

module _ {R E F : Type 0} (source : Ghosts R E) where
  -- After whole items the write of one more item ends as its error says.
  pub reads_end : (depth : ℕ) (most : Option ℕ) (count place stop : ℕ) (old between new : Decoder R)
      (error : JsonError E F) (result : Result (Ending E) (JsonError E F)) → IsBelow most count
      → ReadsItems source depth count old between
      → OnReading (λ answer. SkipsItem source depth 64 between answer new) (Err error)
      → EndsLines error place stop result → place ≡ between.offset → stop ≡ new.offset
      → ReadsLines source depth most old result new
  reads_end depth most count place stop old between new error (Ok g.Enough) below reads fails is here there = absurd is
  reads_end depth most count place stop old between new error (Ok (g.More at)) below reads fails is here there =
      absurd is
  reads_end depth most count place stop old between new error (Ok (g.End fault)) below reads fails is here there = (
    record {
      count = count;
      between = between;
      reads = reads;
      fails =
          subst (λ (x : JsonError E F). OnReading (λ answer. SkipsItem source depth 64 between answer new) (Err x)) is.0
          fails;
      still = sym there ∙ (is.1 ∙ here);
    },
    below,
  )
  reads_end depth most count place stop old between new error (Err (j.Read stops)) below reads fails is here there = (
    record {
      count = count;
      between = between;
      reads = reads;
      fails =
          subst (λ (x : JsonError E F). OnReading (λ answer. SkipsItem source depth 64 between answer new) (Err x))
          (sym is.0) fails;
      no_end = λ is_end. is.1 (subst (λ (x : JsonError E F). IsEndOfItems x place stop) is.0
          (subst (λ (n : ℕ). IsEnd stops place n) (sym there)
          (subst (λ (n : ℕ). IsEnd stops n new.offset) (sym here) is_end)));
    },
    below,
  )
  reads_end depth most count place stop old between new error (Err (j.NoJson at)) below reads fails is here there = tt
  reads_end depth most count place stop old between new error (Err (j.Write fault)) below reads fails is here there = tt

-- The reader fails as often as the answer says.
pub lines_fail : {E F : Type 0} (error : JsonError E F) (place stop old between new : ℕ)
    (result : Result (Ending E) (JsonError E F)) → EndsLines error place stop result → between ≡ old
    → CountsWritten (Err error) between new → CountsLines result old new
lines_fail error place stop old between new (Ok g.Enough) is same counts = absurd is
lines_fail error place stop old between new (Ok (g.More at)) is same counts = absurd is
lines_fail error place stop old between new (Ok (g.End fault)) is same counts =
    let P : JsonError _ _ → Type 0 = λ x. CountsWritten (Err x) between new in
    let once : new ≡ between + 1 = subst P is.0 counts in
    once ∙ ap (λ (n : ℕ). n + 1) same
lines_fail error place stop old between new (Err other) is same counts =
    subst (λ (n : ℕ). CountsWritten (Err other) n new) same
    (subst (λ (x : JsonError _ _). CountsWritten (Err x) between new) (sym is.0) counts)

module _ {I G R E W F : Type 0} (memory : Ghosts I G) (source : Ghosts R E) (sink : Sink W F) (form : Form) (depth : ℕ)
  where
    -- After whole lines the write of one more line ends as its error says.
    pub lines_end : (most : Option ℕ) (count place stop : ℕ) (old between new : Sides R W) (error : JsonError E F)
        (result : Result (Ending E) (JsonError E F)) → AreLines source sink form depth count old between
        → LineStops memory source sink form depth between error new → EndsLines error place stop result
        → WritesLines memory source sink form depth most old result new
    lines_end most count place stop old between new error (Ok g.Enough) lines stops is = absurd is
    lines_end most count place stop old between new error (Ok (g.More at)) lines stops is = absurd is
    lines_end most count place stop old between new error (Ok (g.End fault)) lines stops is = record {
      count = count;
      between = between;
      lines = lines;
      stops = subst (λ (x : JsonError E F). LineStops memory source sink form depth between x new) is.0 stops;
    }
    lines_end most count place stop old between new error (Err other) lines stops is = record {
      count = count;
      between = between;
      lines = lines;
      stops = subst (λ (x : JsonError E F). LineStops memory source sink form depth between x new) (sym is.0) stops;
    }

    -- One item was written on a line, and the pull after it gave this answer.
    pub only_written : (place stop : ℕ) (old : Sides R W) (between new : Decoder R) (writer : W)
        (next : Result Header (Error E)) (ending : Ending E)
        → LineWritten source sink form depth old (sides between writer) → ReadsItem source depth old.decoder between
        → DecoderPullAnswer source between next new → FollowsItem next place stop ending → place ≡ between.offset
        → stop ≡ new.offset → OnlyWritten memory source sink form depth old ending (sides new writer)
    only_written place stop old between new writer next ending line reads pulls follows here there = record {
      between = between;
      line = line;
      reads = reads;
      next = next;
      pulls = pulls;
      follows = subst (λ (n : ℕ). FollowsItem next n new.offset ending) here
          (subst (λ (n : ℕ). FollowsItem next place n ending) there follows);
    }
