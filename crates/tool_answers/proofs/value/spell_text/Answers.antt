use Rattle.std.proofs.Common.{◌≡◌, []}
use Rattle.tool_answers.proofs.value.spell_text.Goals as goal

pub returns : goal.returns
returns c =
    let wrote = c.in_ok-text.ensures.written.value in
    let empty : c.from-encoder.result.writer.bytes.items ≡ [] = cc in
    let all = rw empty at wrote.bytes.appended in
    record { marks = wrote.marks; written = wrote.written; whole = cc all }
