-- The text of a float, written piece by piece.
use Rattle.std.proofs.Common.{◌≡◌, ℕ, List, ◌++◌, Result}
use Rattle.std.specs.Float.{Float}
use Rattle.ciborium_ll.specs.Types.Write.{Ghosts}
use Rattle.ciborium_ll.specs.Types.Float.{Float as Raw}
use Rattle.cbor_floats.specs.Floats.{float_value, IsNumberText}
use Rattle.cbor_diag.specs.Floats.{float_mark, IsFloatText}
use Rattle.cbor_diag.specs.Writing.{ShowsMarked, ShowsOne}

-- The text of a float is the text of its value and the mark of its width.
pub float_shown : {W F : Type 0} (sink : Ghosts W F) (float : Raw) (value : Float) (mark : List ℕ) (old new : W)
    (result : Result (Unit {0}) F) → float_value float ≡ value → float_mark float ≡ mark
    → ShowsMarked sink (IsNumberText value) mark old result new → ShowsOne sink (IsFloatText float) old result new
float_shown sink float value mark old new result values marks shown = record {
  text = shown.text ++ mark;
  is_text = (shown.text, rw values shown.is_text, rw marks);
  written = shown.written;
}
