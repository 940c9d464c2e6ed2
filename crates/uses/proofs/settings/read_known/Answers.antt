use Rattle.std.proofs.Common.{refl}
use Rattle.uses.specs.Settings.{is_host, is_port}
use Rattle.uses.proofs.SettingsLaws.{entry_read, text_read, title_read}
use Rattle.uses.proofs.settings.read_known.Goals as goal

pub returns-in_ok-read_string-in-1-clause-known : goal.returns-in_ok-read_string-in-1-clause-known
returns-in_ok-read_string-in-1-clause-known g c =
    let key = rw c.in-1.is at c.in_ok-read_number.ensures.number in
    let text = c.in_ok-read_string-in-1.ensures.whole in
    entry_read g.R.Read key c.in_ok-read_number.ensures.moves_on text.passed
    (is_host text.bytes key.is_title (text_read g.R.Read text) refl)

pub returns-in_ok-read_number-in-2-clause-known : goal.returns-in_ok-read_number-in-2-clause-known
returns-in_ok-read_number-in-2-clause-known g c =
    let key = rw c.in-2.is at c.in_ok-read_number.ensures.number in
    let number = c.in_ok-read_number-in-2.ensures.number in
    entry_read g.R.Read key c.in_ok-read_number.ensures.moves_on
    (title_read g.R.Read number c.in_ok-read_number-in-2.ensures.moves_on)
    (is_port key.is_title number.is_title refl refl)
