-- Bytes that are their own shortest spelling, and the bytes that continue them.
use Rattle.std.proofs.Common.{◌≡◌, ℕ, List, [], ◌∷◌, ◌++◌, refl, ◌∙◌, append-nil}
use Rattle.std.specs.List.{AllByRecursion}
use Rattle.ciborium_ll_grammar.specs.Strings.{Kind}
use Rattle.ciborium_ll_grammar.specs.Elements.{Mark, Close, pieces, open_marks, spelling, IsNoSmallSimple, IsStrictSpelling}
use Rattle.ciborium_ll_grammar.proofs.ElementLaws.{spelling-append}

pub meant_append : (ms ns : List Mark) → AllByRecursion IsNoSmallSimple ms → AllByRecursion IsNoSmallSimple ns
    → AllByRecursion IsNoSmallSimple (ms ++ ns)
meant_append [] ns p q = q
meant_append (m ∷ ms) ns p q = (p.0, meant_append ms ns p.1 q)

pub pieces_meant : (k : Kind) (bs : List (List ℕ)) → AllByRecursion IsNoSmallSimple (pieces k bs)
pieces_meant k [] = tt
pieces_meant k (b ∷ bs) = (tt, pieces_meant k bs)

pub open_meant : (k : Kind) (bs : List (List ℕ)) → AllByRecursion IsNoSmallSimple (open_marks k bs)
open_meant k bs = (tt, meant_append (pieces k bs) (Close ∷ []) (pieces_meant k bs) (tt, tt))

pub spelled_none : IsStrictSpelling [] [] []
spelled_none = record { same = refl; meant = tt }

-- If no more bytes follow the spelling, the bytes are the spelling of the marks.
pub spelled_alone : (bytes : List ℕ) (marks : List Mark) → IsStrictSpelling bytes marks [] → bytes ≡ spelling marks
spelled_alone bytes marks s = s.same ∙ append-nil (spelling marks)

-- Bytes that are their spelling stay so with more marks in their spelling after them.
pub spelled_then : (bytes : List ℕ) (marks : List Mark) (more : List ℕ) (others : List Mark)
    → IsStrictSpelling bytes marks [] → more ≡ spelling others → AllByRecursion IsNoSmallSimple others
    → IsStrictSpelling (bytes ++ more) (marks ++ others) []
spelled_then bytes marks more others s e meant = record {
  same = simp (append-nil, spelling-append) (cc (spelled_alone bytes marks s));
  meant = meant_append marks others s.meant meant;
}

-- Bytes that are their spelling stay so with the title of a body after them.
pub spelled_title : (bytes : List ℕ) (marks : List Mark) (title more : List ℕ) → IsStrictSpelling bytes marks []
    → title ≡ more → IsStrictSpelling (bytes ++ title) marks more
spelled_title bytes marks title more s e = record { same = cc (spelled_alone bytes marks s); meant = s.meant }
