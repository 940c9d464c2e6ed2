-- Opens that are not closed, counted, as a loop over titles counts them.
use Rattle.std.specs.Prelude.{ℕ, zero, suc, List, ◌++◌, None}
use Rattle.ciborium_ll_grammar.specs.Title.{IsTitle}
use Rattle.ciborium_ll_grammar.specs.Strings.{Kind, kind_header, AreStrings}

-- `IsInsideAt kind opens bytes bodies`: the bytes are within a string, with this many opens that are not closed (RFC
-- 7049, 2.2.2).
pub data IsInsideAt (kind : Kind) : ℕ → List ℕ → List (List ℕ) → Type 0 where
  one_open : {title strings : List ℕ} {bodies : List (List ℕ)} → IsTitle title (kind_header kind None)
      → AreStrings kind strings bodies → IsInsideAt kind (suc zero) (title ++ strings) bodies
  more_open : {opens : ℕ} {outer title strings : List ℕ} {bodies others : List (List ℕ)}
      → IsInsideAt kind opens outer bodies → IsTitle title (kind_header kind None) → AreStrings kind strings others
      → IsInsideAt kind (suc opens) (outer ++ (title ++ strings)) (bodies ++ others)
