-- `skip_bytes` and `skip_text` read a string to its end, after its header. The old decoder is after that header. The
-- bytes of the string are those of the header's shortest title, and then those that are consumed.
use Rattle.std.specs.Prelude.{◌≡◌, ℕ, ◌-◌, ◌⊎◌, List, [], ◌∷◌, ◌++◌, Option, Some, None, Result, Ok, Err}
use Rattle.ciborium_ll_io.specs.declared.io.Read.{Ghosts}
use Rattle.ciborium_ll_decoder.specs.declared.dec.Decoder.{Decoder}
use Rattle.ciborium_ll_decoder.specs.declared.dec.Error.{Error}
use Rattle.ciborium_ll_decoder.specs.declared.dec.Error.TheVariants as e
use Rattle.ciborium_ll_grammar.specs.declared.spelling.Spelling.{Spelling}
use Rattle.ciborium_ll_grammar.specs.Title.{shortest_title, title_len}
use Rattle.ciborium_ll_grammar.specs.Strings.{Kind, kind_header, IsString}
use Rattle.ciborium_ll_grammar.specs.Elements.{AreWritable}
use Rattle.ciborium_ll_grammar.specs.Faults.{IsInside, IsRefusedIn}
use Rattle.ciborium_ll_grammar.specs.Items.{AreTakenStrings}
use Rattle.ciborium_ll_decoder.specs.Decoding.{IsSteady, MovesOn, ReadsPast, DecoderPullAnswer, PullsTitle, spelling_of}
use Rattle.ciborium_ll_decoder.specs.Finishing.{EndsBody}
use Rattle.ciborium_ll_decoder.specs.Segments.{PullsOther}

-- After an open these strings stand, and then its break. If only the shortest spelling is taken, the strings have a
-- definite length, each under a strict title (RFC 7049, 2.2.2 and 3.9). After `5f` these may be `42 01 02 ff`.
abbrev pub IsTakenBehind : Spelling → Kind → Option ℕ → List ℕ → List (List ℕ) → Type 0
IsTakenBehind allowed kind (Some len) behind bodies = Unit {0}
IsTakenBehind allowed kind None behind bodies =
    (strings : List ℕ) × (behind ≡ strings ++ 0xff ∷ []) × AreTakenStrings allowed kind strings bodies

module _ {R E : Type 0} (source : Ghosts R E) (kind : Kind) where
  -- The decoder read all of the string: the bytes after its header make one string, and its bodies are sound. A strict
  -- decoder read it in its shortest spelling (RFC 7049, 2.2.2 and 3.9). After the header of `42` these may be `01 02`.
  pub record SkipsWhole (len : Option ℕ) (old new : Decoder R) : Type 0 where
    pub behind : List ℕ
    pub bodies : List (List ℕ)
    pub is_string : IsString kind (shortest_title (kind_header kind len) ++ behind) bodies
    pub taken : IsTakenBehind (spelling_of old) kind len behind bodies
    pub sound : AreWritable kind bodies
    pub passed : ReadsPast source old behind new

  -- The decoder read a beginning of a string of indefinite length, after its open: further opens, and whole strings. A
  -- strict decoder read strings of a definite length alone, each under a strict title (RFC 7049, 2.2.2 and 3.9). After
  -- `5f` this may be `42 01 02`.
  pub record SkipsInside (old between : Decoder R) : Type 0 where
    pub behind : List ℕ
    pub bodies : List (List ℕ)
    pub inside : IsInside kind (shortest_title (kind_header kind None) ++ behind) bodies
    pub taken : AreTakenStrings (spelling_of old) kind behind bodies
    pub sound : AreWritable kind bodies
    pub passed : ReadsPast source old behind between

  -- After that beginning a title is due, and `pull` failed (RFC 7049, 2.2.2). In `5f 1c` it failed at `1c`.
  pub record MeetsNoTitle (old : Decoder R) (error : Error E) (new : Decoder R) : Type 0 where
    pub between : Decoder R
    pub part : SkipsInside old between
    pub fails : DecoderPullAnswer source between (Err error) new

  -- After that beginning a title came at this offset that may not stand within the string (RFC 7049, 2.2.2). In `5f 01`
  -- this is `01`.
  pub record MeetsOther (old : Decoder R) (at : ℕ) (new : Decoder R) : Type 0 where
    pub between : Decoder R
    pub part : SkipsInside old between
    pub other : PullsOther source (IsRefusedIn (spelling_of between) kind) between at new

  -- After that beginning the title of a segment came, and the read of its body failed. The body's place is the offset
  -- of that title (RFC 7049, 2.2.2). In `5f 42 01` from offset 0 on, this place is 1.
  pub record MeetsBody (room : ℕ) (old : Decoder R) (error : Error E) (new : Decoder R) : Type 0 where
    pub between : Decoder R
    pub part : SkipsInside old between
    pub titled : Decoder R
    pub len : ℕ
    pub pulled : PullsTitle source between (kind_header kind (Some len)) titled
    pub steady : IsSteady source old → IsSteady source titled
    pub ends : EndsBody source kind [] len room between.offset titled (Err error) new

  -- The read of a string of indefinite length fails in one of these ways (RFC 7049, 2.2.2). In `5f 1c` there is no
  -- title, and in `5f 41` no whole body.
  abbrev pub StopsInside : ℕ → Decoder R → Error E → Decoder R → Type 0
  StopsInside room old (e.Io fault) new = MeetsNoTitle old (e.Io fault) new ⊎ MeetsBody room old (e.Io fault) new
  StopsInside room old (e.Syntax at) new = MeetsNoTitle old (e.Syntax at) new ⊎
      (MeetsOther old at new ⊎ MeetsBody room old (e.Syntax at) new)
  StopsInside room old e.TooLong new = MeetsNoTitle old e.TooLong new ⊎ MeetsBody room old e.TooLong new
  StopsInside room old e.Waiting new = ⊥

  -- The decoder reads a string of this length to its end, through a buffer of `room` bytes. The place of a lone body is
  -- the offset at which the header's shortest title would begin. For `58 01 61` from offset 0 on, it is 1.
  abbrev pub SkipsString : Option ℕ → ℕ → Decoder R → Result (Unit {0}) (Error E) → Decoder R → Type 0
  SkipsString len room old (Ok done) new = SkipsWhole len old new
  SkipsString None room old (Err error) new = StopsInside room old error new
  SkipsString (Some len) room old (Err error) new =
      EndsBody source kind [] len room (old.offset - title_len (kind_header kind (Some len))) old (Err error) new

  -- `skip_bytes` and `skip_text`, and the facts that they keep. After the header of `42`, `Ok` raises the offset by 2.
  pub record SkipsOver (len : Option ℕ) (room : ℕ) (old : Decoder R) (result : Result (Unit {0}) (Error E))
      (new : Decoder R) : Type 0 where
    pub skipped : SkipsString len room old result new
    pub moves_on : MovesOn source old new
