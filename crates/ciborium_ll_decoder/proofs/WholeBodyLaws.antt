-- A body that one read gives whole.
use Rattle.std.proofs.Common.{[], ◌≡◌, ℕ, ◌<◌, ◌≤◌, List, length, None, Ok, Err, refl, sym, ap, append-nil}
use Rattle.std.proofs.Common.{length-append, inl, arith}
use Rattle.ciborium_ll_text.proofs.Lists.{length_zero}
use Rattle.ciborium_ll_io.specs.declared.io.Read.{Ghosts as Reader}
use Rattle.ciborium_ll_decoder.specs.declared.dec.Decoder.{Decoder}
use Rattle.ciborium_ll_decoder.specs.declared.dec.Error.{Error}
use Rattle.ciborium_ll_decoder.specs.declared.dec.Error.TheVariants as e
use Rattle.ciborium_ll_grammar.specs.Strings.{Kind, Text, IsWritable}
use Rattle.ciborium_ll_decoder.specs.Decoding.{IsSteady, ReadsAll, ReadsBytes}
use Rattle.ciborium_ll_decoder.specs.Finishing.{EndsBody, StopsReading}
use Rattle.ciborium_ll_decoder.proofs.DecodingLaws.{ReadsPast-none}
use Rattle.ciborium_ll_decoder.proofs.BodyLaws.{writable_nil, ReadsPast-read}
use Rattle.ciborium_ll_text.specs.Text.{IsCharacters, IsFront}
use Rattle.ciborium_ll_text.proofs.FrontLaws.{IsStuck-nil}

-- Bytes are text if their longest front that is text is all of them.
pub all_in_front : (bytes front rest : List ℕ) → IsFront bytes front rest → length front ≡ length bytes
    → IsCharacters bytes
all_in_front bytes front rest found all = grind (arith, length_zero, length, length-append {A = ℕ}, append-nil {A = ℕ})

pub front_of_all : (bytes front rest : List ℕ) → IsFront bytes front rest → IsCharacters bytes
    → length front ≡ length bytes
front_of_all bytes front rest found whole =
    let longest = found.longest bytes [] (sym (append-nil bytes)) whole in
    omega (arith, longest, ap length found.parts, length-append front rest)

module _ {R E : Type 0} (source : Reader R E) (kind : Kind) (len room place : ℕ) (old : Decoder R) where
  -- An empty body takes no read.
  pub empty_ends : len ≡ 0 → EndsBody source kind [] len room place old (Ok (tt {0})) old
  empty_ends h0 = grind arith

  -- If one read is to take the whole body, that read is the last one.
  at_once : (count : ℕ) (error : Error E) (new : Decoder R) → count ≡ len → len ≤ room
      → StopsReading source kind [] len [] place count old error new
      → EndsBody source kind [] len room place old (Err error) new
  at_once count error new all held stops = record {
    between = old;
    part = record {
      read = [];
      front = [];
      left = [];
      parts = refl;
      few = omega arith;
      stuck = IsStuck-nil;
      sound = writable_nil kind;
      within = omega arith;
      passed = ReadsPast-none source old;
    };
    count = count;
    filled = omega (arith, all, held);
    stops = stops;
  }

  module _ (read : List ℕ) (new : Decoder R) (all : length read ≡ len) where
    -- The bytes of the one read may be the body, so the answer is `Ok`.
    pub whole_ends : IsWritable kind read → ReadsAll source old read new
        → (IsSteady source old → IsSteady source new) → EndsBody source kind [] len room place old (Ok (tt {0})) new
    whole_ends sound reads steady = grind arith

    -- The bytes of the one read are no text, so the answer is `Syntax`.
    pub damaged_ends : len ≤ room → (IsWritable kind read → ⊥) → ReadsAll source old read new
        → (IsSteady source old → IsSteady source new)
        → EndsBody source kind [] len room place old (Err (e.Syntax place)) new
    damaged_ends held unsound reads steady =
        let passed = ReadsPast-read source old old new [] read (ReadsPast-none source old) reads steady in
        let textual : kind ≡ Text = grind arith in
        let no_text : IsCharacters read → ⊥ = grind arith in
        at_once (length read) (e.Syntax place) new all held (refl, search inl)

  -- The one read failed, so the read of the body stops. The buffer holds as many bytes as the read was to take.
  pub unread_ends : (read : List ℕ) (new : Decoder R) (error : Error E) → old.waiting ≡ None → length read ≡ len
      → 0 < len → len ≤ room → ReadsBytes source old (Err error) read new
      → EndsBody source kind [] len room place old (Err error) new
  unread_ends read new error none all some held fails = at_once (length read) error new all held (grind arith)
