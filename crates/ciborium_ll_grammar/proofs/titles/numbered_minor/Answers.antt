use Rattle.std.proofs.Common.{◌≡◌, ℕ, ◌*◌, ◌+◌, ◌/◌, ◌%◌, List, ◌∷◌, length, take, take_all, arith, rules}
use Rattle.std.specs.Int.{to_be_bytes, w64}
use Rattle.std.proofs.lemmas.Nat.{be_bytes_8}
use Rattle.ciborium_ll_grammar.specs.declared.hdr.Minor.TheVariants as m
use Rattle.ciborium_ll_grammar.specs.Title.{affix_len}
use Rattle.ciborium_ll_grammar.specs.Parts.{parts_bytes}
use Rattle.ciborium_ll_grammar.proofs.titles.numbered_minor.Goals as goal

eight_parts : (first n : ℕ) (bytes : List ℕ) → first % 32 ≡ 27 → length bytes ≡ 8 → to_be_bytes w64 n ≡ bytes
    → parts_bytes (first / 32) (m.Eight n) ≡ first ∷ take (affix_len (first % 32)) bytes
eight_parts first n bytes is long e =
    let same : 32 * (first / 32) + 27 ≡ first = omega arith in
    let all : take 8 bytes ≡ bytes = take_all 8 bytes (omega arith) in
    rw is cc

pub returns-in-27-clause-bytes : goal.returns-in-27-clause-bytes
returns-in-27-clause-bytes c =
    let is : c.args.first % 32 ≡ 27 = omega arith in
    let long : length c.args.bytes ≡ 8 = search rules in
    eight_parts _ _ _ is long (be_bytes_8 c.args.bytes _ long (search rules) (omega arith))
