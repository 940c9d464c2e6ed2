use Rattle.std.proofs.Common.{◌≡◌, ◌<◌, ◌≤◌, ◌∙◌, sym, take, get_or, arith}
use Rattle.ciborium_ll_text.specs.States.{after}
use Rattle.ciborium_ll_text.specs.Windows.{after_window}
use Rattle.ciborium_ll_text.proofs.RowLaws.{same_shift}
use Rattle.ciborium_ll_text.proofs.WindowLaws.{IsWindow, windows_whole}
use Rattle.ciborium_ll_text.proofs.state.State.run_blocks.Goals as goal
use Rattle.ciborium_ll_text.proofs.state.State.run_blocks.Goals.{else-bytes-ge240-via-then-bytes-ge240+else-bytes-ge192}
use Rattle.ciborium_ll_text.proofs.state.State.run_blocks.Goals.{else-bytes-ge240-via-else-bytes-ge240}

pub returns : goal.returns
returns c =
    let x = c.args.bytes.now in
    let later : 0xf0 ≤ get_or x 0 0 → get_or x 1 0 < 0xc0 = elim c.else-bytes-ge240.branch [
      | else-bytes-ge240-via-then-bytes-ge240+else-bytes-ge192 w ↦ λ h. w.if-bytes-ge192.false
      | else-bytes-ge240-via-else-bytes-ge240 w ↦ λ h. absurd (omega (arith, w.if-bytes-ge240.false))
    ] in
    let same = same_shift c.run_rows-first.result c.behind_window-window.result
    (sym c.shift.ensures ∙ (c.if-shift.false ∙ c.shift-2.ensures)) in
    let told : after c.args.self (take 3 x) ≡ after_window (get_or x 0 0) (get_or x 1 0) (get_or x 2 0) =
    sym c.run_rows-first.ensures ∙ (same ∙ c.behind_window-window.ensures) in
    let window : IsWindow c.args.self x 3 = record { told = told; later = later } in
    c.behind_window.ensures
    ∙ sym (windows_whole c.args.self x (omega arith) window (c.all_follow.ensures c.if-not-all_follow.false))
