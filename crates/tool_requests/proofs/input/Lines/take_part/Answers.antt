use Rattle.std.proofs.Common.{◌≢◌, take}
use Rattle.std.proofs.lemmas.List.Elements.{All-append}
use Rattle.tool_requests.specs.Line.{line_feed}
use Rattle.tool_requests.proofs.input.Lines.take_part.Goals as goal

pub returns : goal.returns
returns g c =
    let part = take c.line_length-length.result c.in-Ok.part.now in
    rw c.in_ok-extend_from_slice.ensures.items (All-append (λ byte. byte ≢ line_feed) c.args.line.now.items part
    c.requires c.line_length-length.ensures.line)
