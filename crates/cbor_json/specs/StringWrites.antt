-- The effect of the write of a string, by its answer, and of the copies of its bodies.
use Rattle.std.specs.Prelude.{◌≡◌, ℕ, ◌+◌, ◌≤◌, List, [], ◌++◌, length, Option, Result, Ok, Err}
use Rattle.ciborium_ll.specs.Types.Read.{Ghosts as Reader}
use Rattle.ciborium_ll.specs.Types.Write.{Ghosts as Writer}
use Rattle.ciborium_ll.specs.Types.Decoder.{Decoder}
use Rattle.ciborium_ll.specs.Types.Error.{Error}
use Rattle.ciborium_ll.specs.Types.RecodeError.{RecodeError}
use Rattle.ciborium_ll.specs.Types.RecodeError.TheVariants as r
use Rattle.ciborium_ll.specs.Strings.{Kind, IsWritable, most_kept}
use Rattle.ciborium_ll.specs.Elements.{AreWritable}
use Rattle.ciborium_ll.specs.Text.{joined}
use Rattle.ciborium_ll.specs.Decoding.{ReadsPast}
use Rattle.ciborium_ll.specs.Encoding.{WritesAll, WritesFront}
use Rattle.ciborium_ll.specs.Finishing.{StopsRest}
use Rattle.ciborium_ll.specs.Sides.{Sides}
use Rattle.cbor_skip.specs.declared.SkipError.TheVariants as s
use Rattle.cbor_diag.specs.declared.strings.held.Held.{Held}
use Rattle.cbor_diag.specs.declared.strings.held.Held.TheVariants as h
use Rattle.cbor_diag.specs.declared.strings.quotes.Quotes.{Quotes}
use Rattle.cbor_diag.specs.Passing.{passed_held, passed_text}
use Rattle.cbor_diag.specs.StringShows.{BeginsBodies, IsTitled, MeetsNoBody, StringRead}
use Rattle.cbor_json.specs.declared.JsonError.{JsonError}
use Rattle.cbor_json.specs.declared.JsonError.TheVariants as j
use Rattle.cbor_json.specs.StringTexts.{quoted_json}

-- ---- the content of a string, by the text of its bytes

module _ {R E W F : Type 0} (source : Reader R E) (sink : Writer W F) (kind : Kind) (len : Option ℕ)
    (text : List ℕ → List ℕ) where
  -- A whole string was read after its header, and the text of its bodies was written. After `7f` the bytes `61 61 61 62
  -- ff` have the bodies `61` and `62`, and joined they are `61 62`.
  pub record ContentWritten (old new : Sides R W) : Type 0 where
    pub reads : StringRead source kind len old.decoder new.decoder
    pub sound : AreWritable kind reads.bodies
    pub written : WritesAll sink old.writer (text (joined reads.bodies)) new.writer

  -- The read of a string stopped at a title that is due, or within a body, through a buffer of this room. The text of
  -- the bytes that were handed out was written. After `7f`, in `61 61 1c` it stopped at `1c`, with the text of `61`.
  pub data ContentStopped (room : ℕ) (old : Sides R W) (error : Error E) (new : Sides R W) : Type 0 where
    at_title : (behind : List ℕ) (bodies : List (List ℕ)) (between : Decoder R) → BeginsBodies kind len behind bodies
        → ReadsPast source old.decoder behind between → WritesAll sink old.writer (text (joined bodies)) new.writer
        → MeetsNoBody source kind between error new.decoder → ContentStopped room old error new
    in_body : (behind : List ℕ) (bodies : List (List ℕ)) (count place : ℕ) (between : Decoder R)
        → IsTitled kind len behind bodies count → ReadsPast source old.decoder behind between
        → (ends : StopsRest source kind [] count room place between error new.decoder)
        → WritesAll sink old.writer (text (joined bodies ++ ends.part.front)) new.writer
        → ContentStopped room old error new

  -- The writer failed within the text of these bytes of the content, which were read. Those of a text are whole
  -- characters, and up to three more bytes were read after them. Of the content `61 62` it can have written the text of
  -- `61`.
  pub record ContentUnwritten (old new : Sides R W) : Type 0 where
    pub behind : List ℕ
    pub bodies : List (List ℕ)
    pub count : ℕ
    pub between : Decoder R
    pub titled : IsTitled kind len behind bodies count
    pub passed : ReadsPast source old.decoder behind between
    pub bytes : List ℕ
    pub kept : List ℕ
    pub read : ReadsPast source between (bytes ++ kept) new.decoder
    pub within : length bytes + length kept ≤ count
    pub few : length kept ≤ most_kept kind
    pub sound : IsWritable kind bytes
    pub stopped : WritesFront sink old.writer (text (joined bodies ++ bytes)) new.writer

  -- The copy of the bodies of a string to a writer, by its answer. After `42` it can be `Ok` for `01 02`.
  abbrev pub CopiesContent : ℕ → Sides R W → Result (Unit {0}) (RecodeError E F) → Sides R W → Type 0
  CopiesContent room old (Ok done) new = ContentWritten old new
  CopiesContent room old (Err (r.Read error)) new = ContentStopped room old error new
  CopiesContent room old (Err (r.Write fault)) new = ContentUnwritten old new

module _ {R E W F : Type 0} (source : Reader R E) (sink : Writer W F) (kind : Kind) (quotes : Quotes)
    (len : Option ℕ) where
  -- The copy of the bodies of a string as they stand between quotes, and the bytes that are held after it. After the
  -- content `61` by base64 the byte `61` is held.
  abbrev pub CopiesQuoted : ℕ → Sides R W → Result (Unit {0}) (RecodeError E F) → Held → Sides R W → Type 0
  CopiesQuoted room old (Ok done) held new =
      (copied : ContentWritten source sink kind len (passed_text quotes h.Nothing) old new)
      × (held ≡ passed_held quotes h.Nothing (joined copied.reads.bodies))
  CopiesQuoted room old (Err error) held new =
      CopiesContent source sink kind len (passed_text quotes h.Nothing) room old (Err error) new

  -- ---- a whole string

  module _ (opening : List ℕ) where
    -- The beginning of a string's text, by the bytes of its content that were handed out. Its closing quote is missing,
    -- and of base64 the last bytes that make no group of three. For `61` of a text it is `"a`.
    abbrev pub begun_json : List ℕ → List ℕ
    begun_json content = opening ++ passed_text quotes h.Nothing content

    -- The writer failed: before the content, within it, or after it. Of `"a"` it can have written `"a`.
    pub data StringUnwritten (old new : Sides R W) : Type 0 where
      at_opening : new.decoder ≡ old.decoder → WritesFront sink old.writer opening new.writer
          → StringUnwritten old new
      within : ContentUnwritten source sink kind len begun_json old new → StringUnwritten old new
      at_end : (reads : StringRead source kind len old.decoder new.decoder)
          → WritesFront sink old.writer (quoted_json opening quotes (joined reads.bodies)) new.writer
          → StringUnwritten old new

    -- The write of a string after its header, through a buffer of this room. After `62` it can be `Ok` for `61 62`,
    -- with the text `"ab"`.
    abbrev pub WritesString : ℕ → Sides R W → Result (Unit {0}) (JsonError E F) → Sides R W → Type 0
    WritesString room old (Ok done) new =
        ContentWritten source sink kind len (quoted_json opening quotes) old new
    WritesString room old (Err (j.Read (s.Read error))) new =
        ContentStopped source sink kind len begun_json room old error new
    WritesString room old (Err (j.Read (s.Break place))) new = ⊥
    WritesString room old (Err (j.Read (s.Deep place))) new = ⊥
    WritesString room old (Err (j.NoJson place)) new = ⊥
    WritesString room old (Err (j.Write fault)) new = StringUnwritten old new
