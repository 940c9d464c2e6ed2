use Rattle.std.proofs.Common.{◌≡◌, ℕ, ◌-◌, ◌<◌, ◌*◌, ◌+◌, ◌/◌, ◌%◌, List, [], ◌∷◌, length, get_or, take, drop, take_all}
use Rattle.std.proofs.Common.{ap, ◌∙◌, arith}
use Rattle.ciborium_ll_grammar.specs.declared.hdr.Minor.{Minor}
use Rattle.ciborium_ll_grammar.specs.Parts.{minor_code, minor_affix, parts_bytes}
use Rattle.ciborium_ll_grammar.proofs.titles.title_of.Goals as goal

-- The parts that were read from bytes have these bytes.
parts_back : (bytes : List ℕ) (minor : Minor) → 0 < length bytes → minor_code minor ≡ get_or bytes 0 0 % 32
    → minor_affix minor ≡ take (length bytes - 1) (drop 1 bytes) → parts_bytes (get_or bytes 0 0 / 32) minor ≡ bytes
parts_back [] minor some code affix = absurd (omega arith)
parts_back (b ∷ bytes) minor some code affix =
    let first : 32 * (b / 32) + minor_code minor ≡ b = omega arith in
    let rest : minor_affix minor ≡ bytes = affix ∙ take_all (length (b ∷ bytes) - 1) bytes (omega arith) in
    ap (λ x. x ∷ minor_affix minor) first ∙ ap (λ x. b ∷ x) rest

pub returns-clause-bytes : goal.returns-clause-bytes
returns-clause-bytes c =
    parts_back _ _ (omega arith) c.in_ok-minor.ensures.code c.in_ok-minor.ensures.affix
