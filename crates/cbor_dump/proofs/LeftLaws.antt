-- The bytes that a dump leaves, byte by byte.
use Rattle.std.proofs.lemmas.Bool.Decides.{nat_tests}
use Rattle.std.proofs.Common.{◌∷◌}
use Rattle.std.proofs.Common.{◌≡◌, ℕ, ◌+◌, ◌<◌, ◌≤◌, List, [], ◌++◌, length, Option, Some, Result, Ok, Err, OnOk, sym}
use Rattle.std.proofs.Common.{ap, Bool, IsTrue, is_ok}
use Rattle.std.proofs.Common.{◌∙◌, subst, arith, append-nil, length-append}
use Rattle.ciborium_ll.specs.Types.Read.{Ghosts}
use Rattle.ciborium_ll.specs.Types.Decoder.{Decoder}
use Rattle.ciborium_ll.specs.Decoding.{offset_limit, view, ReadsPast, ReadsBytes}
use Rattle.ciborium_ll.specs.Types.Error.{Error}
use Rattle.ciborium_ll.proofs.BodyLaws.{view_none, ReadsPast-read}
use Rattle.ciborium_ll.proofs.DecodingLaws.{IfSome-at}
use Rattle.cbor_dump.proofs.ItemRows.{nothing}
use Rattle.ciborium_ll.proofs.CopyingTold.{consumes_told}
use Rattle.cbor_dump.specs.Dumps.{Draws, ShowsLeft, fault_lines}
use Rattle.cbor_dump.specs.Levels.{Line}
use Rattle.cbor_dump.specs.Takings.{EndsRow, IsSteadyNoneWaiting, Keeps, ReadsMore, TakesBytes, most_bytes}

-- A fact about `Ok` gives each fact that follows from it.
pub on_ok : {A E : Type 0} {P Q : Type 0} (result : Result A E) → (P → Q) → OnOk result P → OnOk result Q
on_ok result p q = grind (arith, nat_tests)

module _ {R E : Type 0} (source : Ghosts R E) where
  -- If the offset has room for the bytes that are left, the read of one more byte fails only if none is left.
  next_fails : (error : Error E) (byte : ℕ) (old new : Decoder R) → IsSteadyNoneWaiting source old
      → ReadsBytes source old (Err error) (byte ∷ []) new → (left : List ℕ) → view source new ≡ Some left
      → new.offset + length left < offset_limit → left ≡ []
  next_fails error byte old new p q left r s = grind (arith, nat_tests, view_none, IfSome-at, nothing)

  none_left : (count : ℕ) (old new : Decoder R) → IsSteadyNoneWaiting source old → EndsRow source count old new → (left : List ℕ)
      → view source new ≡ Some left → count + length left ≤ most_bytes → new.offset + length left < offset_limit
      → left ≡ []
  none_left count old new p q left r s t = grind (arith, nat_tests, nothing, next_fails)

  -- If all bytes fit a row and the offset, the row took all of them.
  taken_all : (old between new : Decoder R) (bytes : List ℕ) → Keeps source [] bytes old new
      → (IsSteadyNoneWaiting source old → IsSteadyNoneWaiting source between) → EndsRow source (length bytes) between new → (due : List ℕ)
      → IsSteadyNoneWaiting source old → view source old ≡ Some due
      → length due ≤ most_bytes → old.offset + length due < offset_limit → bytes ≡ due
  taken_all old between new bytes keeps still ends due idle told few fits =
      let consumed = keeps.takes.consumed idle in
      let gone = consumes_told _ _ due keeps.bytes told consumed.0 in
      let long = ap length gone.2 in
      let same : bytes ≡ keeps.bytes = keeps.appended in
      let counted = ap length same in
      let none : gone.0 ≡ [] = none_left (length bytes) between new (still idle) ends gone.0 gone.1
      (omega (arith, counted, long, few, length-append keeps.bytes gone.0))
      (omega (arith, counted, long, fits, keeps.takes.offset, length-append keeps.bytes gone.0)) in
      same ∙ sym (gone.2 ∙ (ap (λ (z : List ℕ). keeps.bytes ++ z) none ∙ append-nil keeps.bytes))

  -- If one more byte came, it follows the bytes of the row.
  pub one_passed : (old between new : Decoder R) (before after : List ℕ) → ReadsPast source old before between
      → ReadsMore source 1 before after between (Ok tt) new → ReadsPast source old after new
  one_passed old between new before after passed reads =
      subst (λ (z : List ℕ). ReadsPast source old z new) (sym reads.behind)
      (ReadsPast-read source old between new before reads.bytes passed reads.reads.read reads.reads.steady)

  -- If a byte came, the read of it succeeded.
  pub one_came : (before after : List ℕ) (old new : Decoder R) (result : Result (Unit {0}) (Error E)) (came : Bool)
      → came ≡ is_ok result → ReadsMore source 1 before after old result new → IsTrue came
      → ReadsMore source 1 before after old (Ok tt) new
  one_came before after old new result came p q r = grind (arith, nat_tests)

  pub shows_left : (level : ℕ) (drawn then_drawn : Option (List Line)) (old between new : Decoder R) (bytes : List ℕ)
      → Keeps source [] bytes old new → ReadsPast source old bytes between → EndsRow source (length bytes) between new
      → length bytes ≤ most_bytes
      → (IsSteadyNoneWaiting source old → IsSteadyNoneWaiting source between)
      → Draws drawn then_drawn (fault_lines level old.offset bytes)
      → ShowsLeft source level drawn then_drawn old new
  shows_left level drawn then_drawn old between new bytes keeps passed ends few still draws = record {
    bytes = bytes;
    draws = draws;
    few = few;
    takes = subst (λ (z : List ℕ). TakesBytes source old z new) (sym keeps.appended) keeps.takes;
    between = between;
    passed = passed;
    ends = ends;
    all = taken_all old between new bytes keeps still ends;
  }
