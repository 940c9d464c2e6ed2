use Rattle.std.proofs.Common.{◌≡◌, ◌≢◌, Ok, refl, inl, inr, rules}
use Rattle.hex.specs.Hex.{decode_of}
use Rattle.tool_requests.specs.Word.{no_bytes}
use Rattle.tool_requests.proofs.WordLaws.{IsHexWord-decoded, IsHexWord-nil, IsHexWord-refused}
use Rattle.tool_requests.proofs.WordLaws.{bytes_of_word-none, no_word}
use Rattle.tool_requests.proofs.word.bytes_of.Goals as goal

pub returns-then-eq : goal.returns-then-eq
returns-then-eq c =
    let same : c.args.word.now ≡ no_bytes = search rules in
    record { hex = (λ _. inl same, λ _. refl); some = rw same cc; none = _ }

pub returns-then-is_empty : goal.returns-then-is_empty
returns-then-is_empty c =
    let none = no_word c.args.word.now c.if-is_empty.ensures in
    record {
      hex = (λ some. cc some, λ hex. absurd (IsHexWord-nil (rw none at hex)));
      some = _;
      none = rw none refl;
    }

pub returns-in-Ok-clause-hex : goal.returns-in-Ok-clause-hex
returns-in-Ok-clause-hex c =
    let digits : decode_of c.args.word.now ≡ Ok c.in-Ok.bytes.items = c.in-Ok.ensures.ok in
    (λ _. IsHexWord-decoded c.args.word.now c.in-Ok.bytes.items c.if-is_empty.ensures digits, λ _. refl)

pub returns-in-Err : goal.returns-in-Err
returns-in-Err c =
    let other : c.args.word.now ≢ no_bytes = λ same. let e = rw same at c.if-eq.ensures in cc e in
    elim c.in-Err.ensures.err [
      | inl memory ↦ absurd (search rules)
      | inr bad ↦ record {
        hex = (λ some. cc some, λ hex. absurd (IsHexWord-refused c.args.word.now c.in-Err.field-0 other bad hex));
        some = _;
        none = bytes_of_word-none c.args.word.now c.in-Err.field-0 other bad;
      }
    ]
