-- A string that lends its decoder to a segment, and gets it back.
use Rattle.ciborium_ll_grammar.specs.declared.spelling.Spelling.TheVariants.{Shortest}
use Rattle.std.proofs.Common.{◌≡◌, ◌≤◌, ap}
use Rattle.std.proofs.Props.{props}
use Rattle.std.specs.Borrow.{MutBor}
use Rattle.ciborium_ll_decoder.specs.Segments.{string_spelling}
use Rattle.ciborium_ll_decoder.specs.declared.dec.Decoder.{Decoder}
use Rattle.ciborium_ll_decoder.specs.declared.seg.Parser.{Ghosts as Parser}
use Rattle.ciborium_ll_decoder.specs.declared.seg.Segments.{Segments}
use Rattle.ciborium_ll_decoder.specs.Progress.{opens_of}

-- A string with another decoder is the same string with either proof that a strict string has at most one open.
pub string_back : {R P : Type 0} {parser : Parser P} (s : Segments R P parser) (lent : MutBor (Decoder R))
    (few : string_spelling s ≡ Shortest → opens_of s.progress ≤ 1)
    → record s { decoder = lent; shallow = few } ≡ record s { decoder = lent }
string_back s lent few =
    let once : IsProp (string_spelling s ≡ Shortest → opens_of s.progress ≤ 1) = hlevel props in
    ap (λ (fact : string_spelling s ≡ Shortest → opens_of s.progress ≤ 1).
    let same : Segments _ _ _ = record s { decoder = lent; shallow = fact } in same)
    (once few s.shallow)
