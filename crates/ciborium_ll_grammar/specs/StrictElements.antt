-- Elements as a strict decoder takes them, title by title.
use Rattle.std.specs.Prelude.{ℕ, zero, suc, List, [], ◌∷◌, ◌++◌, length, Some, None}
use Rattle.ciborium_ll_grammar.specs.declared.hdr.Header.{Header}
use Rattle.ciborium_ll_grammar.specs.Title.{IsTitle, IsStrictTitle}
use Rattle.ciborium_ll_grammar.specs.Strings.{Kind, kind_header, IsWritable}
use Rattle.ciborium_ll_grammar.specs.Elements.{AreWritable, Mark, Plain, Whole, IsPlain, open_marks}

-- The bytes are strings of a definite length with strict titles, joined, and these are their bodies (RFC 7049, 2.2.2
-- and 3.9). `41 01 42 02 03` are two such strings.
pub data AreFlat (kind : Kind) : List ℕ → List (List ℕ) → Type 0 where
  none : AreFlat kind [] []
  more : {title body rest : List ℕ} {bodies : List (List ℕ)} → IsTitle title (kind_header kind (Some (length body)))
      → IsStrictTitle title (kind_header kind (Some (length body))) → AreFlat kind rest bodies
      → AreFlat kind ((title ++ body) ++ rest) (body ∷ bodies)

-- The bytes are an element whose titles are all strict. Strings within an open have definite lengths. The open and the
-- break have one title each (RFC 7049, 2.1, 2.2.2, 2.3 and 3.9). `41 05` is such an element, and `58 01 05` is none.
pub data IsStrictElement : List ℕ → List Mark → Type 0 where
  plain : {title : List ℕ} (header : Header) → IsTitle title header → IsStrictTitle title header → IsPlain header
      → IsStrictElement title (Plain header ∷ [])
  whole : {title body : List ℕ} (kind : Kind) → IsTitle title (kind_header kind (Some (length body)))
      → IsStrictTitle title (kind_header kind (Some (length body))) → IsWritable kind body
      → IsStrictElement (title ++ body) (Whole kind body ∷ [])
  parts : {title strings : List ℕ} {bodies : List (List ℕ)} (kind : Kind) → IsTitle title (kind_header kind None)
      → AreFlat kind strings bodies → AreWritable kind bodies
      → IsStrictElement (title ++ (strings ++ 0xff ∷ [])) (open_marks kind bodies)

-- The bytes are `count` of these elements, joined. By the law `strict_run`, these are exactly the runs that are their
-- own spelling, without a simple value from 24 to 31. `81 01` are two such elements.
pub data AreStrictElements : ℕ → List ℕ → List Mark → Type 0 where
  done : AreStrictElements zero [] []
  next : {count : ℕ} {first rest : List ℕ} {marks others : List Mark} → IsStrictElement first marks
      → AreStrictElements count rest others
      → AreStrictElements (suc count) (first ++ rest) (marks ++ others)
