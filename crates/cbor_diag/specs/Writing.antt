-- The write of a text if contracts tell only some facts of the text.
use Rattle.std.specs.Prelude.{List, ℕ, ◌++◌, Result}
use Rattle.ciborium_ll.specs.Types.Write.{Ghosts}
use Rattle.ciborium_ll.specs.Encoding.{WritesBytes}

module _ {W F : Type 0} (sink : Ghosts W F) where
  -- A text with these facts was written, or the writer failed and a beginning of it was written. If the text is `1.0`,
  -- a writer that failed can have written `1.`.
  pub record ShowsOne (IsText : List ℕ → Type 0) (old : W) (result : Result (Unit {0}) F) (new : W) : Type 0 where
    pub text : List ℕ
    pub is_text : IsText text
    pub written : WritesBytes sink old result text new

  -- A text with these facts was written, and a mark after it; or the writer failed, and a beginning was written. The
  -- text `1.0` and the mark `_2` are `1.0_2`.
  pub record ShowsMarked (IsText : List ℕ → Type 0) (mark : List ℕ) (old : W) (result : Result (Unit {0}) F)
      (new : W) : Type 0 where
    pub text : List ℕ
    pub is_text : IsText text
    pub written : WritesBytes sink old result (text ++ mark) new
