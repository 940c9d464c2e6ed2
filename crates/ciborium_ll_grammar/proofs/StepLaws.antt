-- The steps of a loop over titles.
use Rattle.std.proofs.Common.{ℕ, zero, suc, List, [], ◌∷◌, ◌++◌, None, append_assoc}
use Rattle.std.proofs.lemmas.List.{append-nil}
use Rattle.ciborium_ll_grammar.specs.Title.{IsTitle}
use Rattle.ciborium_ll_grammar.specs.Strings.{Kind, kind_header, IsString, indefinite, AreStrings, none, more}
use Rattle.ciborium_ll_grammar.specs.Elements.{AreWritable, Mark, Open, Close, pieces, IsElement, string, IsRun, done}
use Rattle.ciborium_ll_grammar.specs.Elements.{next}
use Rattle.ciborium_ll_grammar.specs.Faults.{IsInside, opened, deeper}
use Rattle.ciborium_ll_grammar.proofs.OpenStrings.{IsInsideAt, one_open, more_open}
use Rattle.ciborium_ll_grammar.proofs.ElementLaws.{AreStrings-append}

-- Strings and one more string are a list of strings.
AreStrings-add : (k : Kind) (w v : List ℕ) (bs cs : List (List ℕ)) → AreStrings k w bs → IsString k v cs
    → AreStrings k (w ++ v) (bs ++ cs)
AreStrings-add k w v bs cs s p = simp append-nil at (AreStrings-append k w bs s (v ++ []) (cs ++ []) (more p none))

-- Bytes within counted opens are inside a string.
pub counted : (k : Kind) (j : ℕ) (u : List ℕ) (bs : List (List ℕ)) → IsInsideAt k j u bs → IsInside k u bs
counted k j u bs (one_open p s) = opened p s
counted k j u bs (more_open {outer = x} {bodies = ds} q p s) = deeper (counted k _ x ds q) (opened p s)

-- Within opens, one more string adds its bodies.
pub add_string : (k : Kind) (j : ℕ) (u w : List ℕ) (bs cs : List (List ℕ)) → IsInsideAt k j u bs → IsString k w cs
    → IsInsideAt k j (u ++ w) (bs ++ cs)
add_string k j u w bs cs (one_open {strings = x} p s) q =
    simp append_assoc (one_open p (AreStrings-add k x w bs cs s q))
add_string k j u w bs cs (more_open {strings = x} {others = es} i p s) q =
    simp append_assoc (more_open i p (AreStrings-add k x w es cs s q))

-- Within opens, one more open adds one to the count.
pub add_open : (k : Kind) (j : ℕ) (u t : List ℕ) (bs : List (List ℕ)) → IsInsideAt k j u bs
    → IsTitle t (kind_header k None) → IsInsideAt k (suc j) (u ++ t) bs
add_open k j u t bs i p = simp append-nil at (more_open i p none)

-- Bytes within opens are within at least one.
pub never : (k : Kind) (u : List ℕ) (bs : List (List ℕ)) → IsInsideAt k zero u bs → ⊥
never k u bs i = elim i [ ]

-- A break within two or more opens closes the innermost open.
pub close_inner : (k : Kind) (j : ℕ) (u : List ℕ) (bs : List (List ℕ)) → IsInsideAt k (suc (suc j)) u bs
    → IsInsideAt k (suc j) (u ++ 0xff ∷ []) bs
close_inner k j u bs (more_open {others = es} i p s) =
    simp append_assoc (add_string k (suc j) _ _ _ es i (indefinite p s))

-- A break within the only open completes an element.
pub close_last : (k : Kind) (u : List ℕ) (bs : List (List ℕ)) → IsInsideAt k (suc zero) u bs → AreWritable k bs
    → IsElement (u ++ 0xff ∷ []) (Open k ∷ (pieces k bs ++ Close ∷ []))
close_last k u bs (one_open {title = t} {strings = x} p s) ok =
    rw (append_assoc t x (0xff ∷ [])) (string k (indefinite p s) ok)
close_last k u bs (more_open {outer = y} {bodies = ds} i p s) ok = absurd (never k y ds i)

-- A run and one more element are a run.
pub add_element : (n : ℕ) (u : List ℕ) (ms : List Mark) → IsRun n u ms → (w : List ℕ) (ns : List Mark) → IsElement w ns
    → IsRun (suc n) (u ++ w) (ms ++ ns)
add_element n u ms done w ns e = simp append-nil at (next e done)
add_element n u ms (next {rest = b} p r) w ns e = simp append_assoc (next p (add_element _ b _ r w ns e))
