-- A fresh decoder over a reader that tells its bytes, and the title with which they begin.
use Rattle.std.proofs.Common.{◌≡◌, ℕ, IsTrue, List, Some, length, subst, sym, ap, refl, ◌∙◌, ◌↔◌, arith}
use Rattle.ciborium_ll_grammar.specs.declared.spelling.Spelling.{Spelling}
use Rattle.ciborium_ll_grammar.specs.declared.spelling.Spelling.TheVariants.{Any}
use Rattle.ciborium_ll.specs.Types.Read.{Ghosts}
use Rattle.ciborium_ll.specs.Types.Header.{Header}
use Rattle.ciborium_ll.specs.Types.Decoder.{Decoder}
use Rattle.ciborium_ll.specs.Title.{IsCutTitle, BeginsRefused}
use Rattle.ciborium_ll.specs.Decoding.{IsFreshAs, PullsTitle, view}
use Rattle.ciborium_ll.proofs.AffixLaws.{title_not_cut}
use Rattle.ciborium_ll.proofs.BodyLaws.{view_none}
use Rattle.ciborium_ll.proofs.CopyingTold.{consumes_told}
use Rattle.ciborium_ll.proofs.TitleLaws.{title_refused}
use Rattle.capi.specs.declared.answer.CllAnswer.{CllAnswer}
use Rattle.capi.specs.declared.answer.CllAnswer.TheVariants as a
use Rattle.capi.specs.declared.header.CllHeader.{CllHeader}
use Rattle.capi.specs.Answers.{code}
use Rattle.capi.specs.Headers.{Says}
use Rattle.capi.specs.Pulling.{CllPull, BeginsWithTitle}

-- Bytes that end within a title do not begin with a title.
pub front_not_cut : (bytes : List ℕ) → BeginsWithTitle bytes → IsCutTitle bytes → ⊥
front_not_cut bytes front cut = title_not_cut front.title front.rest front.header front.is_title
    (subst IsCutTitle front.is cut)

-- Bytes that begin with a refused byte do not begin with a title.
pub front_not_refused : (bytes : List ℕ) → BeginsWithTitle bytes → BeginsRefused bytes → ⊥
front_not_refused bytes front refused =
    title_refused front.title front.rest front.header front.is_title (subst BeginsRefused front.is refused)

-- Only the answer `Ok` has the number of `Ok`.
pub code_ok : (answer : CllAnswer) (result : ℕ) → result ≡ code answer → (result ≡ code a.Ok) ↔ (answer ≡ a.Ok)
code_ok a.Ok result is = (λ same. refl, λ same. is)
code_ok a.Short result is = (λ same. absurd (omega (arith, is, same)), λ same. absurd cc)
code_ok a.Syntax result is = (λ same. absurd (omega (arith, is, same)), λ same. absurd cc)
code_ok a.Room result is = (λ same. absurd (omega (arith, is, same)), λ same. absurd cc)
code_ok a.TooLong result is = (λ same. absurd (omega (arith, is, same)), λ same. absurd cc)
code_ok a.BreakDue result is = (λ same. absurd (omega (arith, is, same)), λ same. absurd cc)
code_ok a.TooDeep result is = (λ same. absurd (omega (arith, is, same)), λ same. absurd cc)
code_ok a.Argument result is = (λ same. absurd (omega (arith, is, same)), λ same. absurd cc)
code_ok a.NotShortest result is = (λ same. absurd (omega (arith, is, same)), λ same. absurd cc)
code_ok a.Indefinite result is = (λ same. absurd (omega (arith, is, same)), λ same. absurd cc)
code_ok a.KeyOrder result is = (λ same. absurd (omega (arith, is, same)), λ same. absurd cc)
code_ok a.DuplicateKey result is = (λ same. absurd (omega (arith, is, same)), λ same. absurd cc)
code_ok a.Absent result is = (λ same. absurd (omega (arith, is, same)), λ same. absurd cc)

-- If the answer is `Ok` exactly under a condition, the number is that of `Ok` exactly under it.
pub code_exactly : {Holds : Type 0} (answer : CllAnswer) (result : ℕ) → result ≡ code answer → (answer ≡ a.Ok) ↔ Holds
    → (result ≡ code a.Ok) ↔ Holds
code_exactly answer result is exact =
    let same = code_ok answer result is in (λ ok. exact.0 (same.0 ok), λ holds. same.1 (exact.1 holds))

-- Only the answer `Short` has the number of `Short`.
is_short : (answer : CllAnswer) (result : ℕ) → result ≡ code answer → result ≡ code a.Short → answer ≡ a.Short
is_short a.Short result is same = refl
is_short a.Ok result is same = absurd (omega (arith, is, same))
is_short a.Syntax result is same = absurd (omega (arith, is, same))
is_short a.Room result is same = absurd (omega (arith, is, same))
is_short a.TooLong result is same = absurd (omega (arith, is, same))
is_short a.BreakDue result is same = absurd (omega (arith, is, same))
is_short a.TooDeep result is same = absurd (omega (arith, is, same))
is_short a.Argument result is same = absurd (omega (arith, is, same))
is_short a.NotShortest result is same = absurd (omega (arith, is, same))
is_short a.Indefinite result is same = absurd (omega (arith, is, same))
is_short a.KeyOrder result is same = absurd (omega (arith, is, same))
is_short a.DuplicateKey result is same = absurd (omega (arith, is, same))
is_short a.Absent result is same = absurd (omega (arith, is, same))

-- A consequence of the answer `Short` is a consequence of its number.
pub code_short : {Holds : Type 0} (answer : CllAnswer) (result : ℕ) → result ≡ code answer
    → (answer ≡ a.Short → Holds) → result ≡ code a.Short → Holds
code_short answer result is holds same = holds (is_short answer result is same)

-- The number is that of `Ok` exactly if a title comes first.
pub pulled_exactly : (bytes : List ℕ) (answer : CllAnswer) (old new : CllHeader) (consumed result : ℕ)
    → result ≡ code answer → CllPull bytes answer old new consumed → (result ≡ code a.Ok) ↔ BeginsWithTitle bytes
pulled_exactly bytes a.Ok old new consumed result is pulled = (λ same. pulled.0, λ front. is)
pulled_exactly bytes a.Short old new consumed result is pulled =
    (λ same. absurd (omega (arith, is, same)), λ front. absurd (front_not_cut bytes front pulled.0))
pulled_exactly bytes a.Syntax old new consumed result is pulled =
    (λ same. absurd (omega (arith, is, same)), λ front. absurd (front_not_refused bytes front pulled.0))
pulled_exactly bytes a.Room old new consumed result is pulled = absurd pulled
pulled_exactly bytes a.TooLong old new consumed result is pulled = absurd pulled
pulled_exactly bytes a.BreakDue old new consumed result is pulled = absurd pulled
pulled_exactly bytes a.TooDeep old new consumed result is pulled = absurd pulled
pulled_exactly bytes a.Argument old new consumed result is pulled = absurd pulled
pulled_exactly bytes a.NotShortest old new consumed result is pulled = absurd pulled
pulled_exactly bytes a.Indefinite old new consumed result is pulled = absurd pulled
pulled_exactly bytes a.KeyOrder old new consumed result is pulled = absurd pulled
pulled_exactly bytes a.DuplicateKey old new consumed result is pulled = absurd pulled
pulled_exactly bytes a.Absent old new consumed result is pulled = absurd pulled

module _ {R E : Type 0} (source : Ghosts R E) (allowed : Spelling) (reader : R) (decoder : Decoder R)
    (fresh : IsFreshAs allowed reader 0 decoder) where
  -- All bytes that the reader has ahead are due.
  pub due_ahead : (due : List ℕ) → source.ahead reader ≡ Some due → view source decoder ≡ Some due
  due_ahead due ahead =
      view_none decoder.waiting (source.ahead decoder.reader) fresh.none_waits ∙ ap source.ahead fresh.reader ∙ ahead

  pub still_steady : IsTrue (source.steady reader) → IsTrue (source.steady decoder.reader)
  still_steady steady = subst (λ (r : R). IsTrue (source.steady r)) (sym fresh.reader) steady

-- The bytes that were due began with the title that was pulled.
module _ {R E : Type 0} (source : Ghosts R E) where
  pub pulled_front : (reader : R) (due : List ℕ) (header : Header) (old new : Decoder R) (parts : CllHeader)
      (consumed : ℕ) → consumed ≡ new.offset → PullsTitle source old header new
      → IsFreshAs Any reader 0 old → source.ahead reader ≡ Some due → Says parts header
      → (front : BeginsWithTitle due) × Says parts front.header × (consumed ≡ length front.title)
  pulled_front reader due header old new parts consumed behind pulled fresh ahead says =
      let told = due_ahead source Any reader old fresh due ahead in
      let gone = consumes_told _ _ due pulled.title told pulled.bytes in (
        record { title = pulled.title; header = header; rest = gone.0; is_title = pulled.is_title; is = gone.2 },
        says,
        omega (arith, behind, pulled.offset, fresh.offset),
      )
