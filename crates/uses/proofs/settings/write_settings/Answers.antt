use Rattle.ciborium_ll.proofs.EncodingLaws.{WritesBytes-stopped, WritesBytes-then, text_bytes}
use Rattle.uses.specs.Settings.{settings_bytes}
use Rattle.uses.proofs.settings.write_settings.Goals as goal

pub returns-in_err-push-clause-bytes : goal.returns-in_err-push-clause-bytes
unfolding settings_bytes
returns-in_err-push-clause-bytes g c =
    WritesBytes-stopped g.W.Write _ _ _ _ _ c.from_residual.ensures.0 c.in_err-push.ensures.title

pub returns-in_err-push-2-clause-bytes : goal.returns-in_err-push-2-clause-bytes
unfolding settings_bytes
returns-in_err-push-2-clause-bytes g c =
    WritesBytes-then g.W.Write _ _ _ _ _ _ c.in_ok-push.ensures.title
    (WritesBytes-stopped g.W.Write _ _ _ _ _ c.from_residual-in_err-push-2.ensures.0 c.in_err-push-2.ensures.title)

pub returns-in_err-text-clause-bytes : goal.returns-in_err-text-clause-bytes
unfolding settings_bytes
returns-in_err-text-clause-bytes g c =
    WritesBytes-then g.W.Write _ _ _ _ _ _ c.in_ok-push.ensures.title
    (WritesBytes-then g.W.Write _ _ _ _ _ _ c.in_ok-push-2.ensures.title
    (WritesBytes-stopped g.W.Write _ _ _ _ _ c.from_residual-in_err-text.ensures.0
    (text_bytes g.W.Write _ _ _ _ c.in_err-text.ensures.written.value)))

pub returns-in_err-push-3-clause-bytes : goal.returns-in_err-push-3-clause-bytes
unfolding settings_bytes
returns-in_err-push-3-clause-bytes g c =
    WritesBytes-then g.W.Write _ _ _ _ _ _ c.in_ok-push.ensures.title
    (WritesBytes-then g.W.Write _ _ _ _ _ _ c.in_ok-push-2.ensures.title
    (WritesBytes-then g.W.Write _ _ _ _ _ _ (text_bytes g.W.Write _ _ _ _ c.in_ok-text.ensures.written.value)
    (WritesBytes-stopped g.W.Write _ _ _ _ _ c.from_residual-in_err-push-3.ensures.0
    c.in_err-push-3.ensures.title)))

pub returns-clause-bytes : goal.returns-clause-bytes
unfolding settings_bytes
returns-clause-bytes g c =
    WritesBytes-then g.W.Write _ _ _ _ _ _ c.in_ok-push.ensures.title
    (WritesBytes-then g.W.Write _ _ _ _ _ _ c.in_ok-push-2.ensures.title
    (WritesBytes-then g.W.Write _ _ _ _ _ _ (text_bytes g.W.Write _ _ _ _ c.in_ok-text.ensures.written.value)
    (WritesBytes-then g.W.Write _ _ _ _ _ _ c.in_ok-push-3.ensures.title c.push-4.ensures.title)))
