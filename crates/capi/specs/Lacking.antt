-- The number of bytes that are due if `cll_skip`, `cll_recode` and `cll_strict` answer that the bytes end too early.
use Rattle.std.specs.Prelude.{ℕ, ◌≤◌, List, ◌++◌, drop, length}
use Rattle.ciborium_ll_grammar.specs.declared.spelling.Spelling.{Spelling}
use Rattle.ciborium_ll.specs.Faults.{BeginsWithElements}
use Rattle.cbor_checker.specs.declared.progress.Progress.TheVariants as r
use Rattle.cbor_checker.specs.declared.checker.Checker.{Checker}
use Rattle.cbor_checker.specs.Checking.{Answers, HasRead}
use Rattle.cbor_skip.specs.ItemFaults.{BeginsWithItem}

-- A checker that has read exactly these bytes lacks this many more: the rest of a title or of a body (RFC 7049, 2.1), or
-- 1. After `43 01` it lacks 2.
pub record CheckerLacks (allowed : Spelling) (depth : ℕ) (bytes : List ℕ) (due : ℕ) : Type 0 where
  pub checker : Checker
  pub has_read : HasRead allowed depth bytes checker
  pub lacks : Answers checker (r.More due)

-- All bytes that complete an item are at least this many, and at least one. 0 says that no bytes do. Any other number
-- says that some bytes do, and that a checker lacks this many (RFC 7049, 2.1 to 2.4). To a depth of 1, `82 01` lacks 1,
-- and `1c` has 0.
pub record ItemLacks (allowed : Spelling) (depth : ℕ) (bytes : List ℕ) (due : ℕ) : Type 0 where
  pub least : (more : List ℕ) → BeginsWithItem allowed depth (bytes ++ more) → (1 ≤ due) × (due ≤ length more)
  pub some : 1 ≤ due → (more : List ℕ) × BeginsWithItem allowed depth (bytes ++ more)
  pub checker : 1 ≤ due → CheckerLacks allowed depth bytes due

-- The number of bytes that `count` elements lack, as `ItemLacks` has it. The whole ones among them end at the offset
-- `whole`, and the bytes after it begin one more. A checker takes that one as an item: a string, or the title of a nest
-- (RFC 7049, 2.1 and 2.2). Two elements lack 2 after `01 43 01`.
pub record ElementsLack (allowed : Spelling) (count : ℕ) (bytes : List ℕ) (whole due : ℕ) : Type 0 where
  pub least : (more : List ℕ) → BeginsWithElements allowed count (bytes ++ more) → (1 ≤ due) × (due ≤ length more)
  pub some : 1 ≤ due → (more : List ℕ) × BeginsWithElements allowed count (bytes ++ more)
  pub checker : 1 ≤ due → CheckerLacks allowed 1 (drop whole bytes) due
