-- Elements that are no longer than their marks' spelling are that spelling.
use Rattle.std.proofs.Common.{◌≡◌, ℕ, ◌≤◌, List, length, arith}
use Rattle.ciborium_ll_grammar.specs.declared.hdr.Header.{Header}
use Rattle.ciborium_ll_grammar.specs.Title.{IsTitle, shortest_title}
use Rattle.ciborium_ll_grammar.specs.Elements.{Mark, spelling, IsRun}
use Rattle.ciborium_ll_grammar.proofs.TitleLaws.{shortest_or_longer}
use Rattle.ciborium_ll_grammar.proofs.ElementLaws.{least_run}

-- A title that is no longer than the shortest title of its header is this shortest title.
pub tight_title : (t : List ℕ) (x : Header) → IsTitle t x → length t ≤ length (shortest_title x) → t ≡ shortest_title x
tight_title t x p l = grind (arith, shortest_or_longer x t p)

-- A run that is no longer than the spelling of its marks is this spelling.
pub tight_run : (n : ℕ) (w : List ℕ) (ms : List Mark) → IsRun n w ms → length w ≤ length (spelling ms) → w ≡ spelling ms
tight_run n w ms r l = grind (arith, least_run n w ms r)
