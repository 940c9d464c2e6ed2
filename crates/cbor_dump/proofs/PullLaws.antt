-- A title that was read byte by byte, as `pull` reads it.
use Rattle.std.proofs.lemmas.Bool.Decides.{nat_tests}
use Rattle.std.proofs.Common.{◌≡◌, ℕ, ◌<◌, ◌%◌, List, [], ◌∷◌, length, take, Option, Some}
use Rattle.std.proofs.Common.{None}
use Rattle.std.proofs.Common.{IfSome, Ok, Err, refl, sym, ap, subst, ◌∙◌, arith}
use Rattle.std.proofs.KnownBytes.{Consumes-nil}
use Rattle.std.specs.Io.KnownBytes.{Consumes}
use Rattle.ciborium_ll_grammar.specs.declared.spelling.Spelling.{Spelling}
use Rattle.ciborium_ll.specs.Types.Read.{Ghosts}
use Rattle.ciborium_ll.specs.Types.Header.{Header}
use Rattle.ciborium_ll.specs.Types.Decoder.{Decoder}
use Rattle.ciborium_ll.specs.Types.Error.{Error}
use Rattle.ciborium_ll.specs.Types.Error.TheVariants as e
use Rattle.ciborium_ll.specs.Title.{IsCutTitle, affix_len}
use Rattle.ciborium_ll.specs.Decoding.{view, Begins, IsSteady, IsUntouched, ReadsPast, DecoderPullAnswer, ReadsAll}
use Rattle.ciborium_ll.specs.Decoding.{IsWaiting, ReadsBytes}
use Rattle.ciborium_ll.proofs.DecodingLaws.{ReadsPast-none}
use Rattle.ciborium_ll.proofs.BodyLaws.{view_none, ReadsPast-read}
use Rattle.ciborium_ll.specs.Strings.{Kind, Text}
use Rattle.cbor_dump.specs.Parts.{IsCutText, IsPartRow}
use Rattle.cbor_dump.specs.Takings.{IsInMode, IsTitleRow, Leaves, LeavesBehind, AnswersTitle, PullsRow, ReadsMore, RefusesRead}
use Rattle.std.proofs.Common.{append-nil, get_or, length-append, ◌++◌, ◌≤◌, Result}
use Rattle.ciborium_ll.proofs.DecodingLaws.{IfSome-all}
use Rattle.cbor_dump.proofs.TakingLaws.{one_of}
use Rattle.cbor_dump.proofs.ItemRows.{nothing}

-- ---- answers

pub same_error : {A E : Type 0} (one other : E) → ◌≡◌ {A = Result A E} (Err one) (Err other) → one ≡ other
same_error one other same = cc

pub no_error : {A E : Type 0} (value : A) (error : E) → ◌≡◌ {A = Result A E} (Ok value) (Err error) → ⊥
no_error value error same = cc

-- ---- bytes that are told

begins_none : (due : List ℕ) → Begins [] due
begins_none due = (due, refl)

cut_none : (due : List ℕ) → length due < 1 → IsCutTitle due × ([] ≡ take 1 due)
cut_none due less = rw (nothing due (omega (arith, less))) (tt, refl)

cut_here : (known : Option (List ℕ)) → IfSome known (λ due. length due < 1)
    → IfSome known (λ due. IsCutTitle due × ([] ≡ take 1 due))
cut_here known p = grind (arith, nat_tests, cut_none)

begins_of : (known known' : Option (List ℕ)) (bytes : List ℕ) → Consumes known known' bytes
    → IfSome known (Begins bytes)
begins_of known known' bytes p = grind (arith, nat_tests)

cut_behind : (known known' : Option (List ℕ)) (byte : ℕ) → Consumes known known' (byte ∷ [])
    → IfSome known' (λ due. length due < affix_len (byte % 32))
    → IfSome known (λ due. IsCutTitle due × (byte ∷ [] ≡ take 1 due))
cut_behind known known' byte p q = grind (arith, nat_tests, nat_tests)

each_less : (known : Option (List ℕ)) (count : ℕ) (row : List ℕ)
    → ((left : List ℕ) → length left < count → Leaves row left) → IfSome known (λ due. length due < count)
    → IfSome known (Leaves row)
each_less known count row p q = grind (arith, nat_tests)

-- After a row of several bytes at fault, no byte is left.
pub several_leave : (row left : List ℕ) → 1 < length row → left ≡ [] → Leaves row left
several_leave row left p q = grind (arith, nat_tests)

module _ {R E : Type 0} (source : Ghosts R E) where
  -- ---- bytes that passed

  -- If no header waits, none waits after the read.
  pub passes_idle : (old new : Decoder R) (bytes : List ℕ) → ReadsPast source old bytes new → old.waiting ≡ None
      → new.waiting ≡ None
  passes_idle old new bytes passed none = grind (arith, nat_tests)

  pub passes_alike : (allowed : Spelling) (old new : Decoder R) (bytes : List ℕ) → ReadsPast source old bytes new
      → IsInMode allowed old → IsInMode allowed new
  passes_alike allowed old new bytes passed alike = grind (arith, nat_tests, passes_idle)

  -- One read of all its bytes passes them.
  pub passes_one : (old new : Decoder R) (bytes : List ℕ) → ReadsAll source old bytes new
      → (IsSteady source old → IsSteady source new) → ReadsPast source old bytes new
  passes_one old new bytes all steady = grind (arith, nat_tests, ReadsPast-read, ReadsPast-none)

  -- If bytes were read, and more bytes then came into the row, all bytes of the row were read.
  pub more_passed : (count : ℕ) (before row : List ℕ) (old between new : Decoder R) → ReadsPast source old before between
      → between.waiting ≡ None → ReadsMore source count before row between (Ok tt) new
      → ReadsPast source old row new
  more_passed count before row old between new passed none reads =
      subst (λ (z : List ℕ). ReadsPast source old z new) (sym reads.behind)
      (ReadsPast-read source old between new before reads.bytes passed reads.reads.read reads.reads.steady)

  -- The first bytes that came into a row are the bytes that were read.
  pub first_passed : (count : ℕ) (before row : List ℕ) (old new : Decoder R) → before ≡ [] → old.waiting ≡ None
      → ReadsMore source count before row old (Ok tt) new → ReadsPast source old row new
  first_passed count before row old new empty none reads = grind (arith, nat_tests, more_passed, ReadsPast-none)

  -- ---- a header waits

  -- If a header waits, no read answers `Ok`.
  pub waits_no_read : (count : ℕ) (before after : List ℕ) (old new : Decoder R) → IsWaiting old
      → ReadsMore source count before after old (Ok tt) new → ⊥
  waits_no_read count before after old new waits reads = let never = rw reads.reads.read.none_waited at waits in cc

  pub waits_refused : (count : ℕ) (before after : List ℕ) (error : Error E) (old new : Decoder R) → IsWaiting old
      → ReadsMore source count before after old (Err error) new → (error ≡ e.Waiting) × RefusesRead old new
  waits_refused count before after error old new p q = grind (arith, nat_tests, nat_tests)

  -- A row for which one byte was read has exactly this byte.
  pub first_byte : (before one : List ℕ) (old new : Decoder R) → before ≡ []
      → ReadsMore source 1 before one old (Ok tt) new → one ≡ get_or one 0 0 ∷ []
  first_byte before one old new none reads = grind (arith, nat_tests, one_of, length-append)

  -- A read of no bytes leaves the row and the decoder unchanged.
  pub reads_none : (before : List ℕ) (decoder : Decoder R) → decoder.waiting ≡ None
      → ReadsMore source 0 before before decoder (Ok tt) decoder
  reads_none before decoder none = grind (arith, nat_tests, Consumes-nil, append-nil)

  -- A first byte and its affix were read into a row. The answer about these bytes is the answer about the row.
  pub row_means : (allowed : Spelling) (count : ℕ) (before one row shown : List ℕ) (old between new : Decoder R)
      (result : Option Header) → before ≡ [] → ReadsMore source 1 before one old (Ok tt) between
      → count ≡ affix_len (get_or one 0 0 % 32) → count ≤ 8 → ReadsMore source count one row between (Ok tt) new
      → shown ≡ row
      → ((first : ℕ) (affix : List ℕ) → shown ≡ first ∷ affix → length affix ≡ affix_len (first % 32)
      → AnswersTitle allowed shown result) → AnswersTitle allowed row result
  row_means allowed count before one row shown old between new result none first announced few second same says =
      let is = first_byte before one old between none first in
      let counted = second.counted in
      let long = ap length is in
      subst (λ (z : List ℕ). AnswersTitle allowed z result) same
      (says (get_or one 0 0) second.bytes
      (same ∙ (second.behind ∙ ap (λ (z : List ℕ). z ++ second.bytes) is))
      (omega (arith, counted, long, announced, few)))

  -- ---- rows of a read that fails

  -- After a failed read an empty row is the row of a title.
  pub row_nothing : (allowed : Spelling) (count : ℕ) (before after : List ℕ) (error : Error E) (old new : Decoder R)
      → ReadsMore source count before after old (Err error) new → (row : List ℕ) → row ≡ []
      → IsTitleRow allowed error row
  row_nothing allowed count before after error old new p row q = grind (arith, nat_tests)

  pub row_first : (allowed : Spelling) (count : ℕ) (before after : List ℕ) (error : Error E) (old new : Decoder R)
      → ReadsMore source count before after old (Err error) new → (byte : ℕ) (row : List ℕ) → row ≡ byte ∷ []
      → 0 < affix_len (byte % 32) → IsTitleRow allowed error row
  row_first allowed count before after error old new p byte row q r = grind (arith, nat_tests)

  -- After a failed read an empty row is the row of a body's part.
  pub part_nothing : (kind : Kind) (left count : ℕ) (before after : List ℕ) (error : Error E) (old new : Decoder R)
      → ReadsMore source count before after old (Err error) new → (row : List ℕ) → row ≡ []
      → IsPartRow kind left error row
  part_nothing kind left count before after error old new p row q = grind (arith, nat_tests)

  pub part_cut : (left count : ℕ) (before after : List ℕ) (error : Error E) (old new : Decoder R)
      → ReadsMore source count before after old (Err error) new → (row : List ℕ) → IsCutText left row
      → IsPartRow Text left error row
  part_cut left count before after error old new p row q = grind (arith, nat_tests)

  -- After a failed read a steady reader leaves fewer bytes than the read asked for.
  pub less_left : (count : ℕ) (before after : List ℕ) (error : Error E) (old new : Decoder R)
      → (reads : ReadsMore source count before after old (Err error) new) → IsSteady source old → (row : List ℕ)
      → ((left : List ℕ) → length left < length reads.bytes → Leaves row left)
      → IfSome (view source new) (LeavesBehind error row)
  less_left count before after error old new reads p row q =
      grind (arith, nat_tests, nat_tests, view_none, each_less, IfSome-all)

  -- ---- a read that fails

  -- If the decoder is untouched, its bytes are the same.
  pub untouched_view : (old new : Decoder R) → IsUntouched old new → view source new ≡ view source old
  untouched_view old new same = rw (same.waiting, same.reader) refl

  -- If the read of the first byte fails, `pull` fails with the same error.
  pub first_fails : (error : Error E) (old new : Decoder R) (bytes : List ℕ) → old.waiting ≡ None
      → length bytes ≡ 1 → ReadsBytes source old (Err error) bytes new → DecoderPullAnswer source old (Err error) new
  first_fails (e.Io fault) old new bytes none one fails =
      let ahead = view_none old.waiting (source.ahead old.reader) none in
      let behind = view_none new.waiting (source.ahead new.reader) fails.none_waits in
      record {
        read = [];
        within_first = omega arith;
        began = IfSome-all (view source old) (Begins []) begins_none;
        offset = let moved = fails.offset in omega (arith, moved);
        fitted = let fits = fails.fitted in let moved = fails.offset in omega (arith, fits, moved, one);
        none_waited = none;
        none_waits = fails.none_waits;
        failures = fails.failures;
        steady = λ steady.
            let still = fails.steady steady in (
              rw (ahead, behind, still.0) (Consumes-nil (source.ahead old.reader)),
              cut_here (view source old) (subst (λ (z : Option (List ℕ)). IfSome z (λ due. length due < 1)) (sym ahead)
                  (subst (λ (n : ℕ). IfSome (source.ahead old.reader) (λ due. length due < n)) one still.1)),
            );
      }
  first_fails (e.Syntax place) old new bytes none one fails = absurd fails
  first_fails e.TooLong old new bytes none one fails = grind (arith, nat_tests, untouched_view, Consumes-nil)
  first_fails e.Waiting old new bytes none one fails = absurd (let waits = rw none at fails.0 in cc)

  -- If the read of the affix fails, `pull` fails with the same error.
  pub affix_fails : (error : Error E) (old between new : Decoder R) (byte : ℕ) (bytes : List ℕ)
      → ReadsAll source old (byte ∷ []) between → (IsSteady source old → IsSteady source between)
      → length bytes ≡ affix_len (byte % 32) → ReadsBytes source between (Err error) bytes new
      → DecoderPullAnswer source old (Err error) new
  affix_fails (e.Io fault) old between new byte bytes first steady long fails =
      let passed = passes_one old between (byte ∷ []) first steady in
      let middle = view_none between.waiting (source.ahead between.reader) first.none_waits in
      let behind = view_none new.waiting (source.ahead new.reader) fails.none_waits in
      let moved = first.offset in
      let still = fails.offset in
      record {
        read = byte ∷ [];
        within_first = omega arith;
        began = begins_of (view source old) (view source between) (byte ∷ []) passed.consumed;
        offset = omega (arith, moved, still);
        fitted = let fits = fails.fitted in omega (arith, fits, still, long);
        none_waited = first.none_waited;
        none_waits = fails.none_waits;
        failures = let one = first.failures in let two = fails.failures in omega (arith, one, two);
        steady = λ holds.
            let kept = fails.steady (steady holds) in (
              subst (λ (z : Option (List ℕ)). Consumes (view source old) z (byte ∷ []))
                  (middle ∙ (sym kept.0 ∙ sym behind)) passed.consumed,
              cut_behind (view source old) (view source between) byte passed.consumed
                  (subst (λ (z : Option (List ℕ)). IfSome z (λ due. length due < affix_len (byte % 32))) (sym middle)
                  (subst (λ (n : ℕ). IfSome (source.ahead between.reader) (λ due. length due < n)) long kept.1)),
            );
      }
  affix_fails (e.Syntax place) old between new byte bytes first steady long fails = absurd fails
  affix_fails e.TooLong old between new byte bytes first steady long fails =
      let passed = passes_one old between (byte ∷ []) first steady in
      let same = fails.2 in
      let moved = first.offset in
      let still = same.offset in
      record {
        read = byte ∷ [];
        within_first = omega arith;
        bytes = subst (λ (z : Option (List ℕ)). Consumes (view source old) z (byte ∷ []))
            (sym (untouched_view between new same)) passed.consumed;
        offset = omega (arith, moved, still);
        full = let full = fails.1 in omega (arith, full, still, long);
        untouched = λ empty. absurd cc;
        none_waited = first.none_waited;
        none_waits = same.waiting ∙ first.none_waits;
        failures = ap source.failures same.reader ∙ first.failures;
      }
  affix_fails e.Waiting old between new byte bytes first steady long fails = grind (arith, nat_tests)

  -- If the read of the affix fails after a first byte in a row, `pull` fails with the same error.
  pub second_fails : (error : Error E) (count : ℕ) (before one after : List ℕ) (old between new : Decoder R)
      → before ≡ [] → ReadsMore source 1 before one old (Ok tt) between → count ≡ affix_len (get_or one 0 0 % 32)
      → count ≤ 8 → ReadsMore source count one after between (Err error) new → DecoderPullAnswer source old (Err error) new
  second_fails error count before one after old between new none first announced few second =
      let is = first_byte before one old between none first in
      let all : first.bytes ≡ get_or one 0 0 ∷ [] =
      sym (first.behind ∙ ap (λ (z : List ℕ). z ++ first.bytes) none) ∙ is in
      let counted = second.counted in
      let long = ap length is in
      affix_fails error old between new (get_or one 0 0) second.bytes
      (subst (λ (z : List ℕ). ReadsAll source old z between) all first.reads.read) first.reads.steady
      (omega (arith, counted, long, announced, few)) second.reads.read

  -- ---- a title that was read whole

  module _ (allowed : Spelling) (old new : Decoder R) (row : List ℕ) (alike : IsInMode allowed old)
      (passed : ReadsPast source old row new) where
    behind_row : new.waiting ≡ None
    behind_row = passes_idle old new row passed alike.none_waits

    pub row_pulled : (header : Header) → AnswersTitle allowed row (Some header) → PullsRow source old (Ok header) new
    row_pulled header means = grind (arith, nat_tests, behind_row)

    pub row_refused : (place : ℕ) → place ≡ old.offset → AnswersTitle allowed row None
        → PullsRow source old (Err (e.Syntax place)) new
    row_refused place p q = grind (arith, nat_tests, nat_tests, behind_row)
