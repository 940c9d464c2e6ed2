-- Titles that are taken, and titles that are not.
use Rattle.std.proofs.Common.{◌≡◌, ℕ, ◌<◌, true, false, List, ◌++◌, Option, Some, None, IfSome, IfNone, refl}
use Rattle.std.proofs.Common.{[], ◌∷◌, subst, arith, inl, inr}
use Rattle.ciborium_ll_grammar.specs.declared.spelling.Spelling.{Spelling}
use Rattle.ciborium_ll_grammar.specs.declared.spelling.Spelling.TheVariants.{Shortest}
use Rattle.ciborium_ll_grammar.specs.declared.hdr.Header.{Header}
use Rattle.ciborium_ll_grammar.specs.declared.hdr.Minor.{Minor}
use Rattle.ciborium_ll_grammar.specs.Title.{BeginsRefused, IsNeverOpen, IsTitle}
use Rattle.ciborium_ll_grammar.specs.Parts.{IsMinor, minor_code, parts_bytes, refused_when_strict}
use Rattle.ciborium_ll_grammar.specs.Items.{IsTakenTitle}
use Rattle.ciborium_ll_grammar.proofs.TitleLaws.{one_title, title_refused}
use Rattle.ciborium_ll_grammar.proofs.LongerLaws.{parts_header, parts_refused, parts_taken}
use Rattle.cbor_parser.specs.Titles.{IsNoTakenTitle, NoneTaken}

-- The bytes of longer parts are no title that is taken.
pub longer_title : (major : ℕ) (minor : Minor) (xs : List ℕ) → major < 8 → IsMinor minor
    → refused_when_strict major minor ≡ true → parts_bytes major minor ≡ xs → IsNoTakenTitle Shortest xs
longer_title major minor xs l p longer is =
    let o = parts_header major minor l p longer in
    rw (← is) (inr (o.0, o.1, λ taken. parts_refused major minor o.0 l p o.1 longer taken))

-- The header of parts that are not longer has a title that is taken.
pub some_taken : (header : Option Header) (s : Spelling) (major : ℕ) (minor : Minor) (xs : List ℕ) → major < 8
    → IsMinor minor → (s ≡ Shortest → refused_when_strict major minor ≡ false) → parts_bytes major minor ≡ xs
    → IfSome header (IsTitle (parts_bytes major minor)) → IfSome header (IsTakenTitle s xs)
some_taken (Some header) Shortest major minor xs l p shortest is title =
    rw (← is) (parts_taken major minor header l p title (shortest refl))
some_taken header s major minor xs l p shortest is title = tt

-- The bytes of parts without a header are no title.
pub none_means : (header : Option Header) (s : Spelling) (major : ℕ) (minor : Minor) (xs : List ℕ)
    → parts_bytes major minor ≡ xs → IfNone header ((minor_code minor ≡ 31) × IsNeverOpen major)
    → IfNone header (IsNoTakenTitle s xs)
none_means (Some header) s major minor xs is none = tt
none_means None s major minor xs is none = rw (← is) (inl (inr (grind (arith, none))))

-- No title that is taken begins with bytes that are none.
pub none_begins : (s : Spelling) (xs : List ℕ) → IsNoTakenTitle s xs → NoneTaken s xs
none_begins s xs (inl refused) = λ more title rest header is_title taken e.
    title_refused title rest header is_title (refused_more xs more title rest refused e)
  where
    refused_more : (xs more title rest : List ℕ) → BeginsRefused xs → xs ++ more ≡ title ++ rest
        → BeginsRefused (title ++ rest)
    refused_more [] more title rest r e = absurd r
    refused_more (b ∷ a) more title rest r e = subst BeginsRefused e r
none_begins s xs (inr (x, is, never)) = λ more title rest header is_title taken e.
    let o = one_title xs title more rest x header is is_title e in never (rw (o.0, o.1) taken)
