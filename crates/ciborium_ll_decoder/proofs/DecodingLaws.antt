-- The common parts of the relations of the decoder's calls.
use Rattle.std.proofs.Common.{refl, ◌+◌, [], ◌≡◌, ℕ, ◌⊎◌, List, ◌++◌, Option, Some, None, IfSome, Result, Ok}
use Rattle.std.proofs.Common.{Err, IsErrAnd, ◌<◌, ◌≤◌, ◌-◌, ◌^◌, ◌∙◌, arith, append_assoc, append-nil, length-append}
use Rattle.std.proofs.Common.{length, take, drop, take-append-drop, sym, inr}
use Rattle.std.proofs.KnownBytes.{Consumes-trans}
use Rattle.std.specs.Io.KnownBytes.{Consumes}
use Rattle.ciborium_ll_grammar.specs.declared.spelling.Spelling.TheVariants.{Any}
use Rattle.ciborium_ll_grammar.specs.declared.hdr.Header.{Header}
use Rattle.ciborium_ll_io.specs.declared.io.Read.{Ghosts}
use Rattle.ciborium_ll_decoder.specs.declared.dec.Decoder.{Decoder}
use Rattle.ciborium_ll_decoder.specs.declared.dec.Error.{Error}
use Rattle.ciborium_ll_decoder.specs.declared.dec.Error.TheVariants as e
use Rattle.ciborium_ll_text.proofs.Lists.{length_zero}
use Rattle.ciborium_ll_grammar.specs.Title.{shortest_title, title_len, IsInRange}
use Rattle.ciborium_ll_grammar.proofs.TitleLaws.{IsTitle-shortest}
use Rattle.ciborium_ll_decoder.specs.Decoding.{Begins, IsSteady, MovesOn, ReadsPast, PullsTitle, DecoderPullAnswer, RefusesTitle}
use Rattle.ciborium_ll_decoder.specs.Decoding.{TakesBack, PullsAgain, failures_of, spelling_of}

-- The exit of a `?` answers with the error that it was given. A caller that names this lemma needs no search.
pub exit_is : {T E : Type 0} (answer : Result T E) (error : E) → IsErrAnd answer (λ given. given ≡ error)
    → answer ≡ Err error
exit_is answer error is = grind arith

-- A header waits, or none waits: not both.
pub waits_for_none : (waiting : Option Header) (header : Header) → waiting ≡ Some header → waiting ≡ None → ⊥
waits_for_none waiting header waits h3 = grind arith

-- A decoder that read on is nearer to the last offset.
pub nearer : {R : Type 0} (old between new : Decoder R) → old.offset < between.offset → between.offset ≤ new.offset
    → 2 ^ 64 - new.offset < 2 ^ 64 - old.offset
nearer old between new risen rises = omega (arith, risen, rises, new.covered)

-- A `pull` of a waiting header gives that header, and leaves the reader alone.
pub waiting_pulled : {R E : Type 0} (source : Ghosts R E) (old new : Decoder R) (header : Header) → IsInRange header
    → old.waiting ≡ Some header → new.waiting ≡ None → new.reader ≡ old.reader
    → new.offset ≡ old.offset + title_len header → spelling_of new ≡ spelling_of old → PullsTitle source old header new
waiting_pulled source old new header range waits taken reader offset mode =
    search (IsTitle-shortest, arith)

-- A `pull` of a waiting header does not fail.
not_again : {R E : Type 0} (source : Ghosts R E) (old new : Decoder R) (header : Header) (error : Error E)
    → old.waiting ≡ Some header → DecoderPullAnswer source old (Err error) new → ⊥
not_again source old new header error waits pulled = grind arith

-- A header that was pushed back is the next header that `pull` gives.
pub pulls_again : {R E : Type 0} (source : Ghosts R E) (old pulled pushed new : Decoder R) (header : Header)
    (result : Result Header (Error E)) → PullsTitle source old header pulled
    → TakesBack source pulled header pushed → DecoderPullAnswer source pushed result new → PullsAgain source old result new
pulls_again source old pulled pushed new header (Ok again) first back second =
    let waited = rw back.waits at second.waited in
    let pulls = rw waited.0 at first in
    let takes = rw waited.0 at back in
    let reader = waited.2 ∙ back.reader in
    let offset : new.offset ≡ pulled.offset = grind (arith, waited) in
    search
pulls_again source old pulled pushed new header (Err error) first back second =
    absurd (not_again source pushed new header error back.waits second)

-- A fact about every value holds of the value of an option, if there is one.
pub IfSome-all : {A : Type 0} (option : Option A) (P : A → Type 0) → ((value : A) → P value) → IfSome option P
IfSome-all option P all = grind arith

-- A fact about the value of an option holds of that value.
pub IfSome-at : {A : Type 0} (option : Option A) (value : A) (P : A → Type 0) → option ≡ Some value
    → IfSome option P → P value
IfSome-at option value P e holds = grind arith

begins_more : (front bytes more : List ℕ) → Begins front bytes → Begins front (bytes ++ more)
begins_more front bytes more begins =
    (begins.0 ++ more, rw begins.1 (append_assoc front begins.0 more))

-- The title of a waiting header goes first, also if more bytes follow.
pub waited_more : {D : Type 0} (title : Header → List ℕ) (old between new : D) (bytes more : List ℕ)
    (waiting waiting' : Option Header) → (between ≡ old → (bytes ≡ []) × (waiting' ≡ waiting))
    → IfSome waiting (λ h. (between ≡ old) ⊎ Begins (title h) bytes)
    → IfSome waiting' (λ h. (new ≡ between) ⊎ Begins (title h) more)
    → IfSome waiting (λ h. (new ≡ old) ⊎ Begins (title h) (bytes ++ more))
waited_more title old between new bytes more waiting waiting' same first second = grind (arith, begins_more)

-- Without a waiting header nothing is said of one.
none_waited : (waiting : Option Header) (P : Header → Type 0) → waiting ≡ None → IfSome waiting P
none_waited waiting P none = rw none tt

-- A list loses its first bytes.
pub consumes_front : (old new : Option (List ℕ)) (len : ℕ) (left : List ℕ) → old ≡ Some left
    → new ≡ Some (drop len left) → Consumes old new (take len left)
consumes_front old new len left was is = rw (was, is) (sym (take-append-drop len left))

module _ {R E : Type 0} (source : Ghosts R E) where
  -- Without a call nothing changed.
  pub MovesOn-none : (decoder : Decoder R) → MovesOn source decoder decoder
  MovesOn-none decoder = record { steady = λ s. s; mode = refl; refusals = refl; rises = omega arith }

  -- One call after others moves the decoder on.
  pub MovesOn-then : (old between new : Decoder R) → MovesOn source old between → MovesOn source between new
      → MovesOn source old new
  MovesOn-then old between new first second = grind arith

  -- Bytes that the reader gave are passed.
  pub ReadsPast-given : (old new : Decoder R) (bytes : List ℕ) → old.waiting ≡ None → new.waiting ≡ None
      → Consumes (source.ahead old.reader) (source.ahead new.reader) bytes → new.offset ≡ old.offset + length bytes
      → failures_of source new ≡ failures_of source old → spelling_of new ≡ spelling_of old
      → (IsSteady source old → IsSteady source new) → ReadsPast source old bytes new
  ReadsPast-given old new bytes none still consumed offset failures mode steady = record {
    consumed = rw (none, still) consumed;
    offset = offset;
    waiting = inr still;
    waited = none_waited old.waiting _ none;
    failures = failures;
    steady = steady;
    mode = mode;
  }

  -- Without a call no bytes passed.
  pub ReadsPast-none : (decoder : Decoder R) → ReadsPast source decoder [] decoder
  ReadsPast-none decoder = grind arith

  stayed : (old new : Decoder R) (bytes : List ℕ) → ReadsPast source old bytes new → new ≡ old
      → (bytes ≡ []) × (new.waiting ≡ old.waiting)
  stayed old new bytes passed same = grind (arith, length_zero)

  -- One more title passed.
  pub ReadsPast-pulled : (old between new : Decoder R) (bytes : List ℕ) (header : Header)
      (title : PullsTitle source between header new) → ReadsPast source old bytes between
      → (IsSteady source old → IsSteady source new) → ReadsPast source old (bytes ++ title.title) new
  ReadsPast-pulled old between new bytes header title passed steady =
      let waited = waited_more shortest_title old between new bytes title.title old.waiting between.waiting in
      grind (arith, Consumes-trans, length-append {A = ℕ}, stayed, append-nil {A = ℕ}, waited)

  pub ReadsPast-pull : (old between new : Decoder R) (bytes : List ℕ) (header : Header)
      (title : PullsTitle source between header new) → ReadsPast source old bytes between
      → (IsSteady source between → IsSteady source new) → ReadsPast source old (bytes ++ title.title) new
  ReadsPast-pull old between new bytes header title passed steady =
      ReadsPast-pulled old between new bytes header title passed (λ s. steady (passed.steady s))

  -- Bytes passed, and then more bytes.
  pub ReadsPast-then : (old between new : Decoder R) (bytes more : List ℕ) → ReadsPast source old bytes between
      → ReadsPast source between more new → ReadsPast source old (bytes ++ more) new
  ReadsPast-then old between new bytes more first second =
      let waited = waited_more shortest_title old between new bytes more old.waiting between.waiting in
      grind (arith, Consumes-trans, length-append {A = ℕ}, stayed, waited)

  -- A decoder that is not strict refuses first bytes alone.
  pub lenient_refuses : (old : Decoder R) (place : ℕ) (new : Decoder R) → spelling_of old ≡ Any
      → DecoderPullAnswer source old (Err (e.Syntax place)) new → RefusesTitle source old place new
  lenient_refuses old place new lenient h4 = grind arith

-- If no header waited before, none waits after the bytes.
pub passes_settled : {R E : Type 0} (source : Ghosts R E) (old new : Decoder R) (bytes : List ℕ)
    → ReadsPast source old bytes new → old.waiting ≡ None → new.waiting ≡ None
passes_settled source old new bytes passed h5 = grind arith

-- The bytes also passed for another decoder with the same reader and offset, on which no header waits either.
pub passes_same : {R E : Type 0} (source : Ghosts R E) (old now now' : Decoder R) (bytes : List ℕ)
    → ReadsPast source old bytes now → now.waiting ≡ None → now'.reader ≡ now.reader → now'.offset ≡ now.offset
    → now'.waiting ≡ None → spelling_of now' ≡ spelling_of now → ReadsPast source old bytes now'
passes_same source old now now' bytes passed none reader offset none' mode = grind arith
