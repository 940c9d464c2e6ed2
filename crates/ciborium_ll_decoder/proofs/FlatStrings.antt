-- Strings that are no longer than the spelling of their bodies have no open.
use Rattle.std.proofs.Common.{ℕ, ◌≤◌, List, length, Option, Some, arith, length-append}
use Rattle.ciborium_ll_grammar.specs.Title.{IsTitle, IsStrictTitle, shortest_title}
use Rattle.ciborium_ll_grammar.specs.Strings.{Kind, kind_header, AreStrings, none as no_strings, more as more_strings}
use Rattle.ciborium_ll_grammar.specs.Strings.IsString.{definite, indefinite}
use Rattle.ciborium_ll_grammar.specs.Elements.{pieces, spelling}
use Rattle.ciborium_ll_grammar.specs.StrictElements.{AreFlat, none, more}
use Rattle.ciborium_ll_grammar.proofs.TitleLaws.{shortest_no_longer}
use Rattle.ciborium_ll_grammar.proofs.TightLaws.{tight_title}
use Rattle.ciborium_ll_grammar.proofs.ElementLaws.{respell_all, pieces-append, spelling-append}

-- A title of a string is strict if it is no longer than the shortest title of its header.
pub strict_title : (k : Kind) (o : Option ℕ) (t : List ℕ) → IsTitle t (kind_header k o)
    → length t ≤ length (shortest_title (kind_header k o)) → IsStrictTitle t (kind_header k o)
strict_title k o t p l = record { shortest = tight_title t (kind_header k o) p l; meant = grind arith }

-- Strings have no open if they are no longer than the spelling of their pieces.
pub flat : (k : Kind) (w : List ℕ) (bs : List (List ℕ)) → AreStrings k w bs → length w ≤ length (spelling (pieces k bs))
    → AreFlat k w bs
flat k w bs no_strings l = none
flat k w bs (more_strings {rest = y} {others = es} (definite {title = t} {body = b} p) ss) l =
    let rest = (respell_all k y es ss).shorter in
    let title = shortest_no_longer t _ p in
    more p (strict_title k (Some (length b)) t p (omega (arith, length-append {A = ℕ})))
    (flat k y es ss (omega (arith, length-append {A = ℕ})))
flat k w bs (more_strings {rest = y} {others = es} (indefinite {title = t} {strings = z} {bodies = cs} p q) ss) l =
    let inner = (respell_all k z cs q).shorter in
    let rest = (respell_all k y es ss).shorter in
    let less = rw (pieces-append, spelling-append) at l in
    absurd (omega (arith, length-append {A = ℕ}))
