-- A byte string that is read into the lent memory before it is shown, and a show of it that fails.
use Rattle.std.specs.Prelude.{◌≡◌, ℕ, ◌-◌, List, [], ◌++◌, length, codes, Option, Some, Result, Ok, Err}
use Rattle.ciborium_ll.specs.Types.Read.{Ghosts as Reader}
use Rattle.ciborium_ll.specs.Types.Write.{Ghosts as Writer}
use Rattle.ciborium_ll.specs.Types.Decoder.{Decoder}
use Rattle.ciborium_ll.specs.Types.Error.{Error}
use Rattle.ciborium_ll.specs.Types.Header.TheVariants as h
use Rattle.ciborium_ll.specs.Title.{title_len}
use Rattle.ciborium_ll.specs.Strings.{Bytes}
use Rattle.ciborium_ll.specs.Encoding.{WritesAll, WritesFront}
use Rattle.ciborium_ll.specs.Finishing.{ReadsRest, StopsRest}
use Rattle.ciborium_ll.specs.Sides.{Sides}
use Rattle.cbor_skip.specs.declared.SkipError.TheVariants as s
use Rattle.cbor_diag.specs.declared.DiagError.{DiagError}
use Rattle.cbor_diag.specs.declared.DiagError.TheVariants as d
use Rattle.cbor_diag.specs.declared.marks.Mark.{Mark}
use Rattle.cbor_diag.specs.declared.strings.TheConstants.{BUFFER_SIZE}
use Rattle.cbor_diag.specs.declared.strings.quotes.Quotes.TheVariants as q
use Rattle.cbor_diag.specs.ItemTexts.{IsItemText, IsShown}
use Rattle.cbor_diag.specs.Marks.{mark_text}
use Rattle.cbor_diag.specs.Places.{IsEmbedded, Place, place_inside}
use Rattle.cbor_diag.specs.StringShows.{quoted_body}

-- How the show of an item in memory ends if the writer fails: by its place, its bytes, the writer before it, the error
-- and the writer after it.
abbrev pub Inside : Type 0 → Type 0 → Type 1
Inside W F = Place → List ℕ → W → F → W → Type 0

-- No item in memory is shown.
abbrev pub nothing_inside : {W F : Type 0} → Inside W F
nothing_inside place item old fault new = ⊥

module _ {W F : Type 0} (sink : Writer W F) (inside : Inside W F) where
  -- `KeptStops place mark body old fault new`: the show of a body in memory ended with the writer's error. Its title has
  -- the mark. For the body `00` it can end after `<<`.
  pub data KeptStops (place : Place) (mark : Mark) (body : List ℕ) (old : W) (fault : F) : W → Type 0 where
    -- The body is shown in quotes.
    quoted : {new : W} → (IsEmbedded place (h.Bytes (Some (length body))) body → ⊥)
        → WritesFront sink old (quoted_body q.Hex body ++ mark_text mark) new → KeptStops place mark body old fault new
    -- Before the item.
    opening : {new : W} → IsEmbedded place (h.Bytes (Some (length body))) body
        → WritesFront sink old (codes "<<") new → KeptStops place mark body old fault new
    -- Within the item.
    within : {opened new : W} → IsEmbedded place (h.Bytes (Some (length body))) body
        → WritesAll sink old (codes "<<") opened → inside (place_inside (length body) place) body opened fault new
        → KeptStops place mark body old fault new
    -- After the item.
    closing : {text : List ℕ} {new : W} → IsEmbedded place (h.Bytes (Some (length body))) body
        → IsItemText (place_inside (length body) place) body text
        → WritesFront sink old (codes "<<" ++ (text ++ (codes ">>" ++ mark_text mark))) new
        → KeptStops place mark body old fault new

  -- The text of a body in memory was written. For the body `00` it can be `<<0>>`.
  pub record KeptShown (place : Place) (mark : Mark) (body : List ℕ) (old new : W) : Type 0 where
    pub text : List ℕ
    pub shown : IsShown place (h.Bytes (Some (length body))) mark body text
    pub written : WritesAll sink old text new

  -- The show of a body in memory, by its answer. For the body `00` it can be `Ok` after `<<0>>`.
  abbrev pub ShowsKept : Place → Mark → List ℕ → W → Result (Unit {0}) F → W → Type 0
  ShowsKept place mark body old (Ok done) new = KeptShown place mark body old new
  ShowsKept place mark body old (Err fault) new = KeptStops place mark body old fault new

module _ {R E W F : Type 0} (source : Reader R E) (sink : Writer W F) (inside : Inside W F) where
  -- The read of a body of this length stopped, and nothing of the string was written. It can stop after `42 01`.
  pub record HeldCut (len : ℕ) (old : Sides R W) (error : Error E) (new : Sides R W) : Type 0 where
    pub ends : StopsRest source Bytes [] len BUFFER_SIZE (old.decoder.offset - title_len (h.Bytes (Some len)))
        old.decoder error new.decoder
    pub unwritten : new.writer ≡ old.writer

  -- A body of this length was read, and then the writer failed. After `41 00` it can fail after `<<`.
  pub record HeldUnshown (place : Place) (mark : Mark) (len : ℕ) (old : Sides R W) (fault : F) (new : Sides R W)
      : Type 0 where
    pub ends : ReadsRest source Bytes [] len old.decoder new.decoder
    pub stops : KeptStops sink inside place mark ends.read old.writer fault new.writer

  -- The show of a byte string that is read into the memory ended with this error, after its header.
  abbrev pub HeldStops : Place → Mark → ℕ → Sides R W → DiagError E F → Sides R W → Type 0
  HeldStops place mark len old (d.Read (s.Read error)) new = HeldCut len old error new
  HeldStops place mark len old (d.Read (s.Break at)) new = ⊥
  HeldStops place mark len old (d.Read (s.Deep at)) new = ⊥
  HeldStops place mark len old (d.Write fault) new = HeldUnshown place mark len old fault new

module _ {R E : Type 0} (source : Reader R E) where
  -- The read of a body of this length, by its answer. The place is that of its title. A body that was read whole was
  -- kept. If the length is 2, it can be `01 02`.
  abbrev pub KeepsBody : ℕ → ℕ → Decoder R → Result (Unit {0}) (Error E) → Decoder R → Option (List ℕ) → Type 0
  KeepsBody len place old (Ok done) new kept =
      (ends : ReadsRest source Bytes [] len old new) × (kept ≡ Some ends.read)
  KeepsBody len place old (Err error) new kept = StopsRest source Bytes [] len BUFFER_SIZE place old error new
