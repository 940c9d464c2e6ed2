-- The bytes of a text that may begin a character. A segment keeps them.
use Rattle.std.specs.Prelude.{ℕ, List, [], ◌∷◌}
use Rattle.ciborium_ll_decoder.specs.declared.seg.Kept.{Kept}
use Rattle.ciborium_ll_decoder.specs.declared.seg.Kept.TheVariants as k

-- The kept bytes, in order. `Two(0xe2, 0x82)` keeps `e2 82`, which may begin `e2 82 ac`.
abbrev pub kept_bytes : Kept → List ℕ
kept_bytes k.Nothing = []
kept_bytes (k.One first) = first ∷ []
kept_bytes (k.Two first second) = first ∷ second ∷ []
kept_bytes (k.Three first second third) = first ∷ second ∷ third ∷ []
