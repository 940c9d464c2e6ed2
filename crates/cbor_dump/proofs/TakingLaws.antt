-- The bytes of a row, read by read.
use Rattle.std.proofs.lemmas.Bool.Decides.{nat_tests}
use Rattle.std.proofs.Common.{◌≡◌, ℕ, ◌+◌, ◌%◌, ◌^◌, List, [], ◌∷◌, ◌++◌, length, Some, None, Result, Err, refl}
use Rattle.std.proofs.Common.{sym, ap, subst}
use Rattle.std.proofs.Common.{◌∙◌, inl, inr}
use Rattle.std.specs.Io.KnownBytes.{Consumes}
use Rattle.std.specs.Result.{result_ok}
use Rattle.std.proofs.Common.{arith, append_assoc, append-nil, length-append}
use Rattle.std.proofs.Common.{◌<◌, ◌≤◌, ◌-◌, suc, take, take_all, get_or}
use Rattle.std.proofs.lemmas.List.{take-append-le, length-take}
use Rattle.std.proofs.KnownBytes.{Consumes-nil, Consumes-trans}
use Rattle.ciborium_ll.specs.Types.Read.{Ghosts}
use Rattle.ciborium_ll.specs.Types.Header.{Header}
use Rattle.ciborium_ll.specs.Types.Decoder.{Decoder}
use Rattle.ciborium_ll.specs.Types.Error.{Error}
use Rattle.ciborium_ll.specs.Types.Error.TheVariants as e
use Rattle.ciborium_ll.specs.Title.{IsTitle, IsStrictTitle, IsCutTitle, affix_len}
use Rattle.ciborium_ll.specs.Decoding.{view, next_read, IsSteady, ReadsAll, ReadsBytes, ReadFails, IsUntouched}
use Rattle.ciborium_ll.specs.Decoding.{DecoderPullAnswer, PullsTitle, spelling_of}
use Rattle.ciborium_ll.proofs.AffixLaws.{announced, refused_affix}
use Rattle.ciborium_ll.proofs.CopyingTold.{consumes_told, next_read_small}
use Rattle.cbor_dump.proofs.ItemRows.{nothing}
use Rattle.cbor_dump.specs.Takings.{TakesBytes, Keeps, AnswersTitle}

-- Bytes that follow a front leave the front unchanged.
pub same_front : (n : ℕ) (xs ys : List ℕ) → n ≤ length xs → take n (take n xs ++ ys) ≡ take n xs
same_front n xs ys h =
    let long = length-take n xs in
    let fits : n ≤ length (take n xs) = omega (arith, long) in
    take-append-le n (take n xs) ys fits ∙ take_all n (take n xs) (omega (arith, long))

-- One more byte leaves room for one byte less.
pub less_room : (before after : ℕ) → after ≡ suc before → after ≤ 16 → 16 - after < 16 - before
less_room before after one most = omega (arith, one, most)

module _ {R E : Type 0} (source : Ghosts R E) where
  -- A decoder that reads nothing has taken no bytes.
  pub takes_none : (decoder : Decoder R) → TakesBytes source decoder [] decoder
  takes_none decoder = record {
    offset = omega arith;
    consumed = λ idle. (Consumes-nil (view source decoder), idle);
  }

  -- Two reads, one after the other, take the bytes of both.
  pub takes_then : (old middle new : Decoder R) (first second : List ℕ) → TakesBytes source old first middle
      → TakesBytes source middle second new → TakesBytes source old (first ++ second) new
  takes_then old middle new first second a b = record {
    offset = let p = a.offset in let q = b.offset in omega (arith, p, q, length-append first second);
    consumed = λ idle.
        let one = a.consumed idle in
        let two = b.consumed one.1 in
        (Consumes-trans _ _ _ first second one.0 two.0, two.1);
  }

  pub keeps_none : (before after : List ℕ) (old new : Decoder R) → after ≡ before → new ≡ old
      → Keeps source before after old new
  keeps_none before after old new same still = record {
    bytes = [];
    appended = same ∙ sym (append-nil before);
    takes = subst (λ (z : Decoder R). TakesBytes source old [] z) (sym still) (takes_none old);
  }

  pub keeps_then : (before between after : List ℕ) (old middle new : Decoder R) → Keeps source before between old middle
      → Keeps source between after middle new → Keeps source before after old new
  keeps_then before between after old middle new first second = record {
    bytes = first.bytes ++ second.bytes;
    appended = second.appended ∙ (ap (λ (z : List ℕ). z ++ second.bytes) first.appended
        ∙ append_assoc before first.bytes second.bytes);
    takes = takes_then old middle new first.bytes second.bytes first.takes second.takes;
  }

  -- A read that succeeds adds all its bytes.
  pub keeps_read : (before read : List ℕ) (old new : Decoder R) → ReadsAll source old read new
      → (IsSteady source old → IsSteady source new) → Keeps source before (before ++ read) old new
  keeps_read before read old new all steady = record {
    bytes = read;
    appended = refl;
    takes = record {
      offset = all.offset;
      consumed = λ idle. (
        rw (idle.none_waits, all.none_waits) all.bytes,
        record { steady = steady idle.steady; none_waits = all.none_waits },
      );
    };
  }

  -- A read that failed consumes nothing.
  failed_takes : (old new : Decoder R) (count : ℕ) → ReadFails source old count new
      → (IsSteady source old → IsSteady source new) → TakesBytes source old [] new
  failed_takes old new count fails steady = record {
    offset = let p = fails.offset in omega (arith, p);
    consumed = λ idle. (
      rw (idle.none_waits, fails.none_waits, (fails.steady idle.steady).0) (Consumes-nil (source.ahead old.reader)),
      record { steady = steady idle.steady; none_waits = fails.none_waits },
    );
  }

  untouched_takes : (old new : Decoder R) → IsUntouched old new → (IsSteady source old → IsSteady source new)
      → TakesBytes source old [] new
  untouched_takes old new same steady = record {
    offset = let p = same.offset in omega (arith, p);
    consumed = λ idle. (
      rw (same.waiting, same.reader) (Consumes-nil (view source old)),
      record { steady = steady idle.steady; none_waits = same.waiting ∙ idle.none_waits },
    );
  }

  pub keeps_failed : (before bytes : List ℕ) (error : Error E) (old new : Decoder R)
      → ReadsBytes source old (Err error) bytes new
      → (IsSteady source old → IsSteady source new) → Keeps source before before old new
  keeps_failed before bytes error old new p q = grind (arith, nat_tests, append-nil, failed_takes, untouched_takes)

-- A title that begins a first byte and its affix is all of these bytes.
whole_front : (header : Header) (first : ℕ) (affix title rest : List ℕ) → IsTitle title header
    → first ∷ affix ≡ title ++ rest → length affix ≡ affix_len (first % 32) → title ≡ first ∷ affix
whole_front header first affix title rest is_title e long =
    let a = announced title header is_title in
    let both : a.byte ∷ (a.affix ++ rest) ≡ first ∷ affix =
    sym (ap (λ (z : List ℕ). z ++ rest) a.is) ∙ sym e in
    let heads : a.byte ≡ first = cc in
    let tails : a.affix ++ rest ≡ affix = cc in
    let lengths = ap length tails in
    let announces : affix_len (a.byte % 32) ≡ affix_len (first % 32) =
    ap (λ (z : ℕ). affix_len (z % 32)) heads in
    let many = a.long in
    let none : length rest ≡ 0 =
    omega (arith, lengths, announces, many, long, length-append a.affix rest) in
    let last = nothing rest none in
    sym (e ∙ (ap (λ (z : List ℕ). title ++ z) last ∙ append-nil title))

-- A list of length one has its one element.
pub one_of : (one : List ℕ) → length one ≡ 1 → one ≡ get_or one 0 0 ∷ []
one_of [] e = absurd (omega (arith, e))
one_of (byte ∷ more) e = ap (λ (z : List ℕ). byte ∷ z) (nothing more (omega (arith, e)))

module _ {R E : Type 0} (source : Ghosts R E) (old : Decoder R) (first : ℕ) (affix bytes : List ℕ)
    (told : view source old ≡ Some bytes) (parts : bytes ≡ first ∷ affix)
    (long : length affix ≡ affix_len (first % 32)) where
  -- A title that was pulled is all of the bytes.
  pulled_all : (header : Header) (title : List ℕ) → IsTitle title header → (new : Decoder R)
      → Consumes (view source old) (view source new) title → title ≡ bytes
  pulled_all header title is_title new consumed =
      let gone = consumes_told _ _ bytes title told consumed in
      whole_front header first affix title gone.0 is_title (sym parts ∙ gone.2) long ∙ sym parts

  pub pull_means : old.waiting ≡ None → (header : Header) (new : Decoder R) → PullsTitle source old header new
      → AnswersTitle (spelling_of old) bytes (Some header)
  pull_means none header new pulled =
      let same = pulled_all header pulled.title pulled.is_title new pulled.bytes in (
        subst (λ (z : List ℕ). IsTitle z header) same pulled.is_title,
        λ on. subst (λ (z : List ℕ). IsStrictTitle z header) same (pulled.strict on none),
      )

  pub fault_means : IsSteady source old → old.offset ≡ 0 → (error : Error E) (new : Decoder R)
      → DecoderPullAnswer source old (Err error) new → AnswersTitle (spelling_of old) bytes None
  fault_means steady start (e.Io fault) new fails =
      let cut = (rw told at (fails.steady steady).1).0 in
      let less : IsCutTitle (first ∷ affix) = subst IsCutTitle parts cut in
      absurd (omega (arith, less, long))
  fault_means steady start (e.Syntax place) new (inl refused) =
      let gone = consumes_told _ _ bytes (refused.byte ∷ []) told refused.bytes in
      let both : refused.byte ∷ gone.0 ≡ first ∷ affix = sym gone.2 ∙ parts in
      let heads : refused.byte ≡ first = cc in
      let none = refused_affix refused.byte refused.refused in
      let same : affix_len (refused.byte % 32) ≡ affix_len (first % 32) =
      ap (λ (z : ℕ). affix_len (z % 32)) heads in
      let last = nothing affix (omega (arith, long, none, same)) in
      inl (
        refused.byte,
        refused.refused,
        parts ∙ (ap (λ (z : List ℕ). first ∷ z) last ∙ ap (λ (z : ℕ). z ∷ []) (sym heads)),
      )
  fault_means steady start (e.Syntax place) new (inr longer) =
      let same = pulled_all longer.header longer.title longer.is_title new longer.bytes in
      inr (
        longer.strict,
        (
          longer.header,
          subst (λ (z : List ℕ). IsTitle z longer.header) same longer.is_title,
          λ strict. longer.not_strict
              (subst (λ (z : List ℕ). IsStrictTitle z longer.header) (sym same) strict),
        ),
      )
  fault_means steady start e.TooLong new passes =
      let full : 2 ^ 64 ≤ new.offset + next_read passes.read = passes.full in
      absurd (omega (
        arith,
        full,
        start,
        passes.offset,
        passes.within_first,
        next_read_small passes.read,
      ))
  fault_means steady start e.Waiting new never = absurd never

  -- The pull of all bytes says whether they are a title.
  pub whole_means : IsSteady source old → old.offset ≡ 0 → old.waiting ≡ None → (result : Result Header (Error E))
      → (new : Decoder R) → DecoderPullAnswer source old result new
      → AnswersTitle (spelling_of old) bytes (result_ok result)
  whole_means p q r result new s = grind (arith, nat_tests, pull_means, fault_means)
