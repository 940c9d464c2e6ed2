-- A text that is read whole, segment by segment.
use Rattle.std.specs.Prelude.{◌≡◌, ℕ, ◌+◌, ◌-◌, ◌<◌, ◌≤◌, ◌^◌, ◌⊎◌, min, List, [], ◌∷◌, ◌++◌, length, Option, Some}
use Rattle.std.specs.Prelude.{None}
use Rattle.std.specs.Prelude.{Result, Ok, Err}
use Rattle.ciborium_ll.specs.Types.Read.{Ghosts}
use Rattle.ciborium_ll.specs.Types.Header.{Header}
use Rattle.ciborium_ll.specs.Types.Header.TheVariants as h
use Rattle.ciborium_ll.specs.Types.Decoder.{Decoder}
use Rattle.ciborium_ll.specs.Types.Error.{Error}
use Rattle.ciborium_ll.specs.Types.Body.{Body}
use Rattle.ciborium_ll.specs.Types.Progress.{Progress}
use Rattle.ciborium_ll.specs.Types.Progress.TheVariants as p
use Rattle.ciborium_ll.specs.Text.{joined}
use Rattle.ciborium_ll.specs.Strings.{IsString, Text}
use Rattle.ciborium_ll.specs.Elements.{AreWritable}
use Rattle.ciborium_ll.specs.Chunks.{GoesOnTo}
use Rattle.ciborium_ll.specs.Decoding.{ReadsPast, DecoderPullAnswer, PullsTitle, TakesBack, spelling_of}
use Rattle.ciborium_ll.specs.Finishing.{BeginsRest, EndsBody, ReadsRest}
use Rattle.ciborium_ll.specs.Segments.{PullsOther}
use Rattle.uses.specs.declared.texts.TextError.{TextError}
use Rattle.uses.specs.declared.texts.TextError.TheVariants as t

-- The header begins no text: `41` begins none, and `61` begins a text.
abbrev pub BeginsOther : Header → Type 0
BeginsOther header = (len : Option ℕ) → header ≡ h.Text len → ⊥

-- The greatest number of segments of a text of at most `limit` bytes: one more than the limit, because the only segment
-- of an empty text is empty. For a limit of 3 it is 4. It is never above 2^64 - 2.
abbrev pub most_segments : ℕ → ℕ
most_segments limit = min (limit + 1) (2 ^ 64 - 2)

module _ {R E : Type 0} (source : Ghosts R E) where
  -- ---- the text that was read

  -- Exactly the bytes of one string were consumed (RFC 7049, 2.1 and 2.2.2). Its bodies are UTF-8, each by itself, and
  -- joined they are the text. There are no more bodies than the limit allows. With a limit of 2, `7f 61 61 61 62 ff`
  -- gives the text `61 62`.
  pub record ReadsText (limit : ℕ) (old : Decoder R) (text : List ℕ) (new : Decoder R) : Type 0 where
    pub bytes : List ℕ
    pub bodies : List (List ℕ)
    pub is_string : IsString Text bytes bodies
    pub sound : AreWritable Text bodies
    pub whole : text ≡ joined bodies
    pub few : length bodies ≤ most_segments limit
    pub passed : ReadsPast source old bytes new

  -- ---- the steps of the read

  -- `Gathers progress old bodies progress' new`: `advance` announced these bodies, one after the other. Each was read
  -- whole, and the decoder is after it (RFC 7049, 2.1 and 2.2.2). In `7f 61 61 61 62 ff` they are `61` and `62`.
  pub data Gathers (progress : Progress) (old : Decoder R) : List (List ℕ) → Progress → Decoder R → Type 0 where
    none : Gathers progress old [] progress old
    more : {bodies : List (List ℕ)} {last : Progress} {now titled new : Decoder R} (body : Body)
        → Gathers progress old bodies last now
        → (announced : GoesOnTo source Text (spelling_of old) last now (Ok (Some body)) titled)
        → (reads : ReadsRest source Text [] body.length titled new)
        → Gathers progress old (bodies ++ reads.read ∷ []) announced.after new

  -- After these bodies `advance` gave this answer and left this decoder. In `7f 61 61 ff`, after the body `61` it gave
  -- `None`.
  pub record AdvancesBehind (progress : Progress) (old : Decoder R) (bodies : List (List ℕ))
      (answer : Result (Option Body) (Error E)) (new : Decoder R) : Type 0 where
    pub last : Progress
    pub now : Decoder R
    pub gathers : Gathers progress old bodies last now
    pub advances : GoesOnTo source Text (spelling_of old) last now answer new

  -- The bodies up to the end of the string were read. Joined, they are the text, and there are no more than the limit
  -- allows. In `7f 61 61 61 62 ff` there are two.
  pub record GathersAll (limit : ℕ) (progress : Progress) (old : Decoder R) (text : List ℕ) (new : Decoder R) : Type 0
    where
      pub bodies : List (List ℕ)
      pub whole : text ≡ joined bodies
      pub few : length bodies ≤ most_segments limit
      pub ends : AdvancesBehind progress old bodies (Ok None) new

  -- The header of a text came and was given back, and then `Done` happened. In `61 61` the header of `61` waits again.
  pub record IsBehindHeader (Done : Decoder R → Decoder R → Type 0) (old new : Decoder R) : Type 0 where
    pub len : Option ℕ
    pub titled : Decoder R
    pub pulled : PullsTitle source old (h.Text len) titled
    pub pushed : Decoder R
    pub back : TakesBack source titled (h.Text len) pushed
    pub done : Done pushed new

  -- The header of a text came, and its segments were read up to the end of the string (RFC 7049, 2.1 and 2.2.2). Over
  -- `7f 61 61 61 62 ff` the text is `61 62`.
  abbrev pub GathersText : ℕ → Decoder R → List ℕ → Decoder R → Type 0
  GathersText limit old text new = IsBehindHeader (λ pushed left. GathersAll limit (p.Open 0) pushed text left) old new

  -- ---- the reasons that no text was read

  -- `advance` failed after the bodies that were read: in `7f 61 61 1c`, for example, after `61`.
  pub record FailsAtTitle (progress : Progress) (old : Decoder R) (error : Error E) (new : Decoder R) : Type 0 where
    pub bodies : List (List ℕ)
    pub fails : AdvancesBehind progress old bodies (Err error) new

  -- `advance` announced a body with which the text is longer than the limit, and nothing of the body was read: at the
  -- title `64`, for example, with a limit of 3.
  pub record MeetsLongBody (limit : ℕ) (progress : Progress) (old new : Decoder R) : Type 0 where
    pub bodies : List (List ℕ)
    pub body : Body
    pub goes_on : AdvancesBehind progress old bodies (Ok (Some body)) new
    pub too_long : limit < length (joined bodies) + body.length

  -- More segments were read than the limit allows, and nothing after the last segment. With a limit of 0, 2 segments
  -- are too many.
  pub record MeetsTooMany (limit : ℕ) (progress : Progress) (old new : Decoder R) : Type 0 where
    pub bodies : List (List ℕ)
    pub last : Progress
    pub gathers : Gathers progress old bodies last new
    pub too_many : most_segments limit < length bodies

  -- A beginning of a body was read, of at least one byte, and there was no memory for the text with it. Both bytes of
  -- the body `61 62` may have been read.
  pub record LacksMemory (len : ℕ) (old new : Decoder R) : Type 0 where
    pub begins : BeginsRest source Text [] len old new
    pub some : 0 < length begins.read

  -- The reason that a body was not read whole, or not appended. After `62`, if only `61` is due, the read failed.
  abbrev pub BodyStops : Body → Decoder R → TextError E → Decoder R → Type 0
  BodyStops body old (t.Read error) new = EndsBody source Text [] body.length 64 body.place old (Err error) new
  BodyStops body old (t.NoText at) new = ⊥
  BodyStops body old t.TooLong new = ⊥
  BodyStops body old t.Memory new = LacksMemory body.length old new

  -- `advance` announced a body, which was not read whole or not appended: in `7f 61 61 61 ff`, for example, the body
  -- `ff`, which is no text.
  pub record StopsInSegment (progress : Progress) (old : Decoder R) (error : TextError E) (new : Decoder R) : Type 0 where
    pub bodies : List (List ℕ)
    pub body : Body
    pub titled : Decoder R
    pub goes_on : AdvancesBehind progress old bodies (Ok (Some body)) titled
    pub stops : BodyStops body titled error new

  -- The reason that the segments of a text were not read whole (RFC 7049, 2.2.2). With a limit of 3, the title `64`
  -- gives `TooLong`.
  abbrev pub SegmentsStop : ℕ → Progress → Decoder R → TextError E → Decoder R → Type 0
  SegmentsStop limit progress old (t.Read error) new =
      FailsAtTitle progress old error new ⊎ StopsInSegment progress old (t.Read error) new
  SegmentsStop limit progress old (t.NoText at) new = ⊥
  SegmentsStop limit progress old t.TooLong new =
      MeetsLongBody limit progress old new ⊎ MeetsTooMany limit progress old new
  SegmentsStop limit progress old t.Memory new = StopsInSegment progress old t.Memory new

  -- The header of a text came, and its segments were not read whole. For `61 ff`, the body is no text.
  abbrev pub StopsInText : ℕ → Decoder R → TextError E → Decoder R → Type 0
  StopsInText limit old error new =
      IsBehindHeader (λ pushed left. SegmentsStop limit (p.Open 0) pushed error left) old new

  -- The reason that `read_string` gave no text: `pull` failed, a header came that begins no text, or its segments were
  -- not read whole (RFC 7049, 2.1). For `41 61` from the offset 0 on, this is `NoText(0)`.
  abbrev pub StopsText : ℕ → Decoder R → TextError E → Decoder R → Type 0
  StopsText limit old (t.Read error) new =
      DecoderPullAnswer source old (Err error) new ⊎ StopsInText limit old (t.Read error) new
  StopsText limit old (t.NoText at) new = PullsOther source BeginsOther old at new
  StopsText limit old t.TooLong new = StopsInText limit old t.TooLong new
  StopsText limit old t.Memory new = StopsInText limit old t.Memory new
