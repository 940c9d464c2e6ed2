-- A title that a decoder read, by the bytes of its parts.
use Rattle.std.proofs.Common.{[], ◌≡◌, ℕ, ◌+◌, List, ◌∷◌, length, refl, ap, ◌∙◌, inl, inr, arith, append-nil, sym, take, true, false}
use Rattle.std.proofs.Common.{length-append, get_or, ◌*◌, ◌/◌, ◌%◌, ◌++◌, ◌<◌, Bool, Option, None, Some, Result, Ok, Err}
use Rattle.std.proofs.Common.{MatchResult, if◌then◌else◌, ◌&&◌, ◌-◌, ◌^◌}
use Rattle.std.proofs.lemmas.Bool.Decides.{nat_tests}
use Rattle.std.proofs.KnownBytes.{Consumes-trans}
use Rattle.std.specs.Io.KnownBytes.{Consumes}
use Rattle.ciborium_ll_io.specs.declared.io.Read.{Ghosts}
use Rattle.ciborium_ll_decoder.specs.declared.dec.Decoder.{Decoder}
use Rattle.ciborium_ll_decoder.specs.declared.dec.Error.{Error}
use Rattle.ciborium_ll_decoder.specs.declared.dec.Error.TheVariants as e
use Rattle.ciborium_ll_decoder.specs.Decoding.{PullsTitle, RefusesTitleWhole, view, failures_of, IsSteady, DecoderPullAnswer}
use Rattle.ciborium_ll_decoder.specs.Decoding.{ReadsAll, ReadsMinor, HoldsAffix, ReadsAffix, ReadsBytes, RefusesTitle}
use Rattle.ciborium_ll_decoder.specs.Decoding.{spelling_of}
use Rattle.ciborium_ll_text.proofs.Lists.{length_zero}
use Rattle.ciborium_ll_decoder.proofs.BodyLaws.{view_none}
use Rattle.ciborium_ll_grammar.specs.Spellings.{is_shortest}
use Rattle.ciborium_ll_grammar.specs.declared.spelling.Spelling.{Spelling}
use Rattle.ciborium_ll_grammar.specs.declared.spelling.Spelling.TheVariants.{Any, Shortest}
use Rattle.ciborium_ll_grammar.specs.declared.hdr.Minor.{Minor}
use Rattle.ciborium_ll_grammar.specs.declared.hdr.Minor.TheVariants as m
use Rattle.ciborium_ll_grammar.specs.declared.hdr.Header.{Header}
use Rattle.ciborium_ll_grammar.specs.Title.{IsTitle, IsStrictTitle, affix_len, IsRefused, IsNeverOpen, IsReserved}
use Rattle.ciborium_ll_grammar.specs.Parts.{IsMinor, refused_when_strict, minor_affix, minor_code, parts_bytes}
use Rattle.ciborium_ll_grammar.proofs.LongerLaws.{parts_header, parts_taken, parts_refused}

-- ---- a title that was read

-- A list of length 1 is its first byte alone.
one_byte : (read : List ℕ) → length read ≡ 1 → read ≡ get_or read 0 0 ∷ []
one_byte [] one = absurd (omega (arith, one))
one_byte (x ∷ []) one = refl
one_byte (x ∷ y ∷ read) one = absurd (omega (arith, one))

-- The first byte and then the affix are the bytes of the parts.
pub first_parts : (read : List ℕ) (b : Minor) → length read ≡ 1 → get_or read 0 0 % 32 ≡ minor_code b
    → parts_bytes (get_or read 0 0 / 32) b ≡ read ++ minor_affix b
first_parts read b one code =
    let byte : 32 * (get_or read 0 0 / 32) + minor_code b ≡ get_or read 0 0 = omega (arith, code) in
    rw (one_byte read one) (ap (λ (z : ℕ). z ∷ minor_affix b) byte)

-- A number below 24 stands within the first byte, and has no affix.
pub small_affix : (minor : ℕ) → minor < 24 → affix_len minor ≡ 0
small_affix minor small = grind (arith, nat_tests)

-- The minor of an open has no affix.
pub open_affix : (minor : ℕ) → minor ≡ 31 → affix_len minor ≡ 0
open_affix minor is = rw is refl

-- A decoder that refuses a title is strict, and the title is not strict.
pub refuses_strictly : (spelling : Spelling) (refused : Bool) → (is_shortest spelling && refused) ≡ true
    → (spelling ≡ Shortest) × (refused ≡ true)
refuses_strictly Any refused e = absurd cc
refuses_strictly Shortest refused e = (refl, e)

-- A strict decoder takes strict titles alone.
pub takes_strictly : (spelling : Spelling) (refused : Bool) → (is_shortest spelling && refused) ≡ false
    → spelling ≡ Shortest → refused ≡ false
takes_strictly Any refused e is = absurd cc
takes_strictly Shortest refused e is = e

module _ {R E : Type 0} (source : Ghosts R E) where
  -- The decoder read these bytes, and no header waited before or after.
  pub record TitleRead (old : Decoder R) (title : List ℕ) (new : Decoder R) : Type 0 where
    pub bytes : Consumes (view source old) (view source new) title
    pub offset : new.offset ≡ old.offset + length title
    pub none_waits : new.waiting ≡ None
    pub failures : failures_of source new ≡ failures_of source old
    pub mode : spelling_of new ≡ spelling_of old

  pub title_read : (old between new : Decoder R) (read title : List ℕ) (b : Minor) → old.waiting ≡ None
      → ReadsAll source old read between → ReadsAll source between (minor_affix b) new → title ≡ read ++ minor_affix b
      → TitleRead old title new
  title_read old between new read title b none first affix is =
      grind (arith, view_none, Consumes-trans, length-append {A = ℕ})

  -- The first byte and the affix were read, so the decoder read the bytes of the parts.
  pub parts_read : (old between new : Decoder R) (read : List ℕ) (b : Minor) → old.waiting ≡ None
      → ReadsAll source old read between → ReadsAll source between (minor_affix b) new → length read ≡ 1
      → get_or read 0 0 % 32 ≡ minor_code b → TitleRead old (parts_bytes (get_or read 0 0 / 32) b) new
  parts_read old between new read b none first affix one code =
      title_read old between new read _ b none first affix (first_parts read b one code)

  -- If a first byte was read, the offset was not the greatest number.
  pub not_full : {A : Type 0} (old between : Decoder R) (read : List ℕ) → ReadsAll source old read between
      → length read ≡ 1 → old.offset ≡ 2 ^ 64 - 1 → A
  not_full old between read first one full = absurd (omega (arith, first.offset, one, full, between.covered))

  -- The decoder read a title that it takes, so `pull` gives the header.
  pub title_pulled : (old new : Decoder R) (title : List ℕ) (header : Header) → IsTitle title header
      → old.waiting ≡ None → (spelling_of old ≡ Shortest → IsStrictTitle title header) → TitleRead old title new
      → PullsTitle source old header new
  title_pulled old new title header is_title none allowed read = search arith

  -- A strict decoder read a title that is not strict, so it refuses the title.
  pub title_refused : (old new : Decoder R) (title : List ℕ) (header : Header) → IsTitle title header
      → old.waiting ≡ None → spelling_of old ≡ Shortest → (IsStrictTitle title header → ⊥) → TitleRead old title new
      → RefusesTitleWhole source old old.offset new
  title_refused old new title header is_title none allowed refused read = search

  -- ---- a title that was read at once

  -- One read of all bytes of a title reads the title.
  whole_read : (old new : Decoder R) (title : List ℕ) → ReadsAll source old title new → TitleRead old title new
  whole_read old new title read = grind (arith, view_none)

  -- The decoder read the bytes of these parts and takes them, so `pull` gives the header.
  pub parts_pulled : (old new : Decoder R) (first : ℕ) (minor : Minor) (header : Header) (bytes : List ℕ) → first < 256
      → IsMinor minor → parts_bytes (first / 32) minor ≡ bytes → IsTitle (parts_bytes (first / 32) minor) header
      → (spelling_of new ≡ Shortest → refused_when_strict (first / 32) minor ≡ false) → ReadsAll source old bytes new
      → PullsTitle source old header new
  parts_pulled old new first minor header bytes byte is_minor is is_title taken read =
      title_pulled old new _ header is_title read.none_waited
      (λ on. parts_taken _ minor header (omega (arith, byte)) is_minor is_title (taken (read.mode ∙ on)))
      (whole_read old new _ (rw is read))

  -- The decoder read the bytes of these parts. It is strict and they are not, so it refuses them.
  pub parts_turned_down : (old new : Decoder R) (first : ℕ) (minor : Minor) (bytes : List ℕ) → first < 256
      → IsMinor minor → parts_bytes (first / 32) minor ≡ bytes → spelling_of new ≡ Shortest
      → refused_when_strict (first / 32) minor ≡ true → ReadsAll source old bytes new
      → RefusesTitleWhole source old old.offset new
  parts_turned_down old new first minor bytes byte is_minor is on refused read =
      let major : first / 32 < 8 = omega (arith, byte) in
      let h = parts_header (first / 32) minor major is_minor refused in
      title_refused old new _ h.0 h.1 read.none_waited (sym read.mode ∙ on)
      (parts_refused _ minor h.0 major is_minor h.1 refused) (whole_read old new _ (rw is read))

  -- The decoder read a title of one byte with the minor 31. No decoder refuses it.
  pub open_pulled : (old new : Decoder R) (first : ℕ) (header : Header) (affix : List ℕ) → first < 256
      → first % 32 ≡ 31 → IsTitle (first ∷ []) header
      → ReadsAll source old (first ∷ take (affix_len (first % 32)) affix) new → PullsTitle source old header new
  open_pulled old new first header affix byte is_open is_title read =
      let alone : parts_bytes (first / 32) m.Open ≡ first ∷ [] =
      ap (λ (x : ℕ). x ∷ []) (omega (arith, is_open)) in
      parts_pulled old new first m.Open header _ byte tt alone (rw alone is_title) (λ on. refl)
      (rw (open_affix _ is_open) at read)

  -- The byte that was read begins no title, so the decoder refuses it.
  refuses : (old new : Decoder R) (read : List ℕ) → old.waiting ≡ None → length read ≡ 1 → IsRefused (get_or read 0 0)
      → TitleRead old read new → RefusesTitle source old old.offset new
  refuses old new read none one refused title = search (one_byte, arith)

  -- The decoder refuses a first byte with a reserved minor.
  pub first_refused : (old between new : Decoder R) (read : List ℕ) → old.waiting ≡ None
      → ReadsAll source old read between → length read ≡ 1 → new ≡ between → IsReserved (get_or read 0 0 % 32)
      → RefusesTitle source old old.offset new
  first_refused old between new read none first one same reserved =
      refuses old new read none one (inl reserved) (grind (arith, view_none))

  -- The decoder refuses a first byte with the minor 31 if its major type has no indefinite form.
  pub open_refused : (old between new : Decoder R) (read : List ℕ) (b : Minor) → old.waiting ≡ None
      → ReadsAll source old read between → ReadsAll source between (minor_affix b) new → length read ≡ 1
      → get_or read 0 0 % 32 ≡ minor_code b → minor_code b ≡ 31 → IsNeverOpen (get_or read 0 0 / 32)
      → RefusesTitle source old old.offset new
  open_refused old between new read b none first affix one code is never =
      refuses old new read none one (inr (code ∙ is, never))
      (title_read old between new read read b none first affix (grind (arith, append-nil {A = ℕ})))

  -- If the read of the affix fails, `pull` answers with the error of that read.
  affix_unread : (old between new : Decoder R) (x : ℕ) (error : Error E) → old.waiting ≡ None
      → ReadsAll source old (x ∷ []) between → (IsSteady source old → IsSteady source between)
      → ReadsMinor source x between (Err error) new → DecoderPullAnswer source old (Err error) new
  affix_unread old between new x (e.Io fault) none first steady affix =
      let before = view_none old.waiting (source.ahead old.reader) none in
      let after = view_none new.waiting (source.ahead new.reader) affix.none_waits in
      let taken = first.bytes in
      record {
        read = x ∷ [];
        within_first = omega arith;
        began = rw before (grind arith);
        offset = affix.offset ∙ first.offset;
        fitted = omega (arith, affix.offset, affix.fitted);
        none_waited = none;
        none_waits = affix.none_waits;
        failures = rw (affix.failures, first.failures) refl;
        steady = λ s. let cut = affix.steady (steady s) in rw (before, after, cut.0) (taken, grind arith);
      }
  affix_unread old between new x e.TooLong none first steady affix =
      let before = view_none old.waiting (source.ahead old.reader) none in
      let after = view_none between.waiting (source.ahead between.reader) first.none_waits in
      let bytes : Consumes (view source old) (view source between) (x ∷ []) = rw (before, after) first.bytes in
      rw affix.1 (search arith)
  affix_unread old between new x e.Waiting none first steady affix = absurd affix
  affix_unread old between new x (e.Syntax place) none first steady affix = absurd affix

  -- If the read of the affix fails, the answer of the whole call is that of a `pull` that fails there.
  pub affix_stopped : {A : Type 0} (P : A → Type 0) (answer : Result A (Error E)) (error : Error E)
      (old between new : Decoder R) (read : List ℕ) → answer ≡ Err error → old.waiting ≡ None
      → ReadsAll source old read between → (IsSteady source old → IsSteady source between) → length read ≡ 1
      → ReadsMinor source (get_or read 0 0) between (Err error) new
      → MatchResult answer P (λ error. DecoderPullAnswer source old (Err error) new)
  affix_stopped P answer error old between new read is none first steady one affix =
      rw is (affix_unread old between new (get_or read 0 0) error none (rw (one_byte read one) at first) steady affix)

  -- ---- the affix of a first byte

  -- The decoder takes an affix that it read, unless it is strict and refuses the number.
  pub affix_taken : (first : ℕ) (old new : Decoder R) (minor : Minor) (answer : Option Minor)
      → HoldsAffix source first old minor new
      → answer ≡ (if is_shortest (spelling_of new) && refused_when_strict (first / 32) minor then None else Some minor)
      → ReadsMinor source first old (Ok answer) new
  affix_taken first old new minor answer holds is = grind arith

  -- A number within the first byte needs no further read.
  pub small_taken : (first number : ℕ) (old new : Decoder R) (read : List ℕ) → first % 32 < 24 → number ≡ first % 32
      → length read ≡ 0 → ReadsAll source old read new → ReadsAffix source first old (m.Small number) new
  small_taken first number old new read small is empty reads = grind (arith, length_zero)

  -- An open needs no further read.
  pub open_taken : (first : ℕ) (old new : Decoder R) (read : List ℕ) → first % 32 ≡ 31 → length read ≡ 0
      → ReadsAll source old read new → ReadsAffix source first old m.Open new
  open_taken first old new read is empty reads = grind (arith, length_zero)

  -- A read of no bytes failed, so the read of an affix of no bytes failed.
  pub none_unread : (first : ℕ) (old new : Decoder R) (bytes : List ℕ) (answer : Result (Option Minor) (Error E))
      (error : Error E) → answer ≡ Err error → affix_len (first % 32) ≡ 0 → old.waiting ≡ None → length bytes ≡ 0
      → ReadsBytes source old (Err error) bytes new → ReadsMinor source first old answer new
  none_unread first old new bytes answer error is h7 waits empty fails = grind arith
