-- From a spot a beginning of some bytes leads to a fault. The proofs take the steps off at the beginning, one by one.
use Rattle.std.proofs.Common.{◌≡◌, ℕ, ◌+◌, ◌<◌, true, List, [], ◌∷◌, ◌++◌, length, sym, ap, subst, ◌∙◌}
use Rattle.std.proofs.Common.{append_assoc}
use Rattle.ciborium_ll_grammar.specs.declared.spelling.Spelling.{Spelling}
use Rattle.ciborium_ll_grammar.specs.Strings.{Kind, Bytes, Text}
use Rattle.ciborium_ll_grammar.specs.declared.remaining.Remaining.{Remaining}
use Rattle.cbor_checker.specs.declared.phase.Phase.{Phase}
use Rattle.cbor_checker.specs.declared.phase.Phase.TheVariants as p
use Rattle.cbor_checker.specs.declared.phase.Fault.{Fault}
use Rattle.cbor_parser.specs.declared.strings.StringKind.TheVariants as sk
use Rattle.cbor_parser.specs.declared.strings.Within.{Within}
use Rattle.cbor_parser.specs.declared.strings.Within.TheVariants as w
use Rattle.cbor_checker.specs.Spots.{Spot, settled}
use Rattle.cbor_checker.specs.Steps.{start, Step, StepIn, IsFed, fresh, more}
use Rattle.cbor_checker.specs.Telling.{is_due}
use Rattle.cbor_checker.proofs.SettledLaws.{settled_alike, settled_anyhow}

-- A beginning of the bytes leads from the spot to the fault.
pub data Runs (fault : Fault) : Spot → List ℕ → Type 0 where
  faulted : {spot : Spot} {due : List ℕ} → spot.phase ≡ p.Faulted fault → Runs fault spot due
  goes : {spot next : Spot} {due : List ℕ} (byte : ℕ) → byte < 256 → Step spot byte next → Runs fault next due
      → Runs fault spot (byte ∷ due)

-- A run from the spot of a checker that was fed bytes is a run over all bytes.
pub fed_runs : (fault : Fault) (s : Spelling) (d : ℕ) (fed due : List ℕ) (spot : Spot) → IsFed s d fed spot
    → Runs fault spot due → Runs fault (start s d) (fed ++ due)
fed_runs fault s d fed due spot fresh runs = runs
fed_runs fault s d fed due spot (more {bytes = a} {spot = before} b byte is step) runs =
    rw (append_assoc a (b ∷ []) due) (fed_runs fault s d a (b ∷ due) before is (goes b byte step runs))

-- If the spot stands at a fault, this is the fault of the run.
pub fault_of : (fault other : Fault) (spot : Spot) (due : List ℕ) → spot.phase ≡ p.Faulted other
    → Runs fault spot due → fault ≡ other
fault_of fault other spot due at (faulted is) = let both = sym is ∙ at in cc
fault_of fault other spot due at (goes {next = m} b byte step runs) =
    let no : ⊥ = subst (λ (z : Phase). StepIn z spot b m) at step in absurd no

-- A byte is due at the spot, and the next byte leads to a next spot.
pub record Next (fault : Fault) (phase : Phase) (spot : Spot) (b : ℕ) (rest : List ℕ) : Type 0 where
  pub next : Spot
  pub is_byte : b < 256
  pub step : StepIn phase spot b next
  pub runs : Runs fault next rest

off : (phase : Phase) (fault : Fault) → is_due phase ≡ true → phase ≡ p.Faulted fault → ⊥
off phase fault due at = let both = sym due ∙ ap is_due at in cc

pub next_of : {fault : Fault} {spot : Spot} {b : ℕ} {rest : List ℕ} (phase : Phase) → is_due phase ≡ true
    → phase ≡ spot.phase → Runs fault spot (b ∷ rest) → Next fault phase spot b rest
next_of {fault} phase on e (faulted at) = absurd (off phase fault on (e ∙ at))
next_of phase on e (goes {next = m} b byte step runs) =
    record { next = m; is_byte = byte; step = rw e step; runs = runs }

pub some_due : {fault : Fault} {spot : Spot} (phase : Phase) → is_due phase ≡ true → phase ≡ spot.phase
    → Runs fault spot [] → ⊥
some_due {fault} phase on e (faulted at) = off phase fault on (e ∙ at)

-- A run leads over `due`, the rest of `all` bytes, from a spot that is given by its place and its offset.
pub record On (fault : Fault) (all : ℕ) (to : ℕ → ℕ → Spot) (due : List ℕ) : Type 0 where
  pub place : ℕ
  pub offset : ℕ
  pub counts : offset + length due ≡ all
  pub runs : Runs fault (to place offset) due

pub on_to : {fault : Fault} {all : ℕ} {to : ℕ → ℕ → Spot} {due : List ℕ} (to' : ℕ → ℕ → Spot)
    → ((a n : ℕ) → to a n ≡ to' a n) → On fault all to due → On fault all to' due
on_to {fault} {due = due} to' same o = record {
  place = o.place;
  offset = o.offset;
  counts = o.counts;
  runs = subst (λ (z : Spot). Runs fault z due) (same o.place o.offset) o.runs;
}

-- ---- spots without a part of a title

-- A title is due.
abbrev pub at : Spelling → Within → ℕ → List Remaining → ℕ → ℕ → Spot
at s i d gs a n = record (start s d) { within = i; levels = gs; place = a; offset = n }

-- A string of the kind is open, and `n` further strings in it.
abbrev pub inside : Kind → ℕ → Within
inside Bytes n = w.Open sk.Bytes n
inside Text n = w.Open sk.Text n

-- The spot is after an item, or after the title of a nest.
abbrev pub behind : Spelling → ℕ → List Remaining → ℕ → ℕ → Spot
behind s d gs a n = settled d gs (at s w.Nothing 0 [] a n)

-- This spot does not depend on the part that was due, the open strings or the nests before.
pub settled_with : (gs : List Remaining) (d : ℕ) (s : Spelling) (i : Within) (c : ℕ) (fs : List Remaining) (a n : ℕ)
    → settled d gs (at s i c fs a n) ≡ behind s d gs a n
settled_with gs d s i c fs a n =
    settled_alike gs d (at s i 0 [] a n) c fs ∙ settled_anyhow gs d (at s w.Nothing 0 [] a n) p.Title i
