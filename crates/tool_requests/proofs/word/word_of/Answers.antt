use Rattle.std.proofs.Common.{◌≡◌, arith, string_bytes}
use Rattle.std.proofs.lemmas.Result.{IfOk-weaker}
use Rattle.hex.specs.Hex.{IsBytes, encode_lower}
use Rattle.tool_requests.proofs.WordLaws.{bytes_of_word-encode_lower}
use Rattle.tool_requests.proofs.word.word_of.Goals as goal

pub returns-clause-back : goal.returns-clause-back
returns-clause-back c =
    let fits : IsBytes c.args.bytes.now = λ i. let f = c.type_inv.bytes i in omega arith in
    let back = bytes_of_word-encode_lower c.args.bytes.now (c.if-is_empty.ensures) fits in
    IfOk-weaker c.encode.result (λ word. string_bytes word ≡ encode_lower c.args.bytes.now) _
    (λ word h. rw h back) c.encode.ensures
