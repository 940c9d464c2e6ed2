-- The calls on strings, which lend a decoder piece by piece.
use Rattle.std.specs.Prelude.{◌≡◌, ℕ, ◌≤◌, suc, ◌+◌, ◌-◌, ◌<◌, ◌^◌, ◌⊎◌, List, [], ◌++◌, length}
use Rattle.std.specs.Prelude.{Option, Some, None, Result, Ok, Err}
use Rattle.std.specs.Borrow.{GName}
use Rattle.ciborium_ll_io.specs.declared.io.Read.{Ghosts}
use Rattle.ciborium_ll_grammar.specs.declared.hdr.Header.{Header}
use Rattle.ciborium_ll_grammar.specs.declared.hdr.Header.TheVariants as h
use Rattle.ciborium_ll_grammar.specs.declared.spelling.Spelling.{Spelling}
use Rattle.ciborium_ll_grammar.specs.declared.spelling.Spelling.TheVariants.{Shortest}
use Rattle.ciborium_ll_decoder.specs.declared.dec.Decoder.{Decoder}
use Rattle.ciborium_ll_decoder.specs.declared.dec.Error.{Error}
use Rattle.ciborium_ll_decoder.specs.declared.dec.Error.TheVariants as e
use Rattle.ciborium_ll_decoder.specs.declared.seg.Body.{Body}
use Rattle.ciborium_ll_decoder.specs.declared.seg.Parser.{Ghosts as Parser}
use Rattle.ciborium_ll_decoder.specs.declared.seg.Progress.{Progress}
use Rattle.ciborium_ll_decoder.specs.declared.seg.Segments.{Segments}
use Rattle.ciborium_ll_decoder.specs.declared.seg.Progress.TheVariants as p
use Rattle.ciborium_ll_grammar.specs.Title.{IsTitle}
use Rattle.ciborium_ll_grammar.specs.Strings.{Kind, kind_header, IsMisplaced}
use Rattle.ciborium_ll_decoder.specs.Decoding.{ReadsPast, DecoderPullAnswer, PullsTitle, TakesBack, spelling_of}

-- ---- what a string is to its callers

module _ {R P : Type 0} {parser : Parser P} where
  -- The decoder that the string holds: at offset 2, if `5f 41` was read from offset 0 on.
  abbrev pub string_decoder : Segments R P parser → Decoder R
  string_decoder s = s.decoder.now

  -- The reference by which the string holds its decoder. `advance` over `5f 41` keeps it.
  abbrev pub string_reference : Segments R P parser → GName
  string_reference s = s.decoder.ghost_name

  -- How far the string's titles were read: to `Open(1)` after `5f 41`.
  abbrev pub progress_of : Segments R P parser → Progress
  progress_of s = s.progress

  -- Whether the string is strict. A strict string takes no open within an open: it refuses the second title of `7f 7f`.
  abbrev pub string_spelling : Segments R P parser → Spelling
  string_spelling s = s.spelling

  -- None of the string's titles was read. Over `5f 41 01 ff` the title `5f` is due, and the progress is `Open(0)`.
  abbrev pub IsAtBeginning : Segments R P parser → Type 0
  IsAtBeginning s = s.progress ≡ p.Open 0

module _ {R E P : Type 0} {parser : Parser P} (source : Ghosts R E) where
  -- `bytes` and `text` of a decoder give this string. Its header waits again, it is as strict as the decoder, and it
  -- holds the decoder by this reference. After `58 02` was pulled from offset 0 on, the decoder is back at 1, as `42`
  -- has one byte.
  pub record BeginsString (old : Decoder R) (header : Header) (reference : GName) (string : Segments R P parser) :
      Type 0 where
    pub back : TakesBack source old header (string_decoder string)
    pub fresh : IsAtBeginning string
    pub mode : string_spelling string ≡ spelling_of old
    pub same_reference : string_reference string ≡ reference

-- ---- opens and breaks in a row

-- `Nests kind opens bytes left`: the bytes are opens of the kind and breaks in a row. They lead from `opens` opens that
-- aren't closed to `left` of them, and leave at least one after each title (RFC 7049, 2.2.2). For byte strings
-- `5f 5f ff` leads from no open to one.
pub data Nests (kind : Kind) (opens : ℕ) : List ℕ → ℕ → Type 0 where
  in_place : Nests kind opens [] opens
  deeper : {bytes title : List ℕ} {left : ℕ} → Nests kind opens bytes left → IsTitle title (kind_header kind None)
      → Nests kind opens (bytes ++ title) (suc left)
  back : {bytes title : List ℕ} {left : ℕ} → Nests kind opens bytes (suc (suc left)) → IsTitle title h.Break
      → Nests kind opens (bytes ++ title) (suc left)

-- ---- the segments of a string

-- The header may not stand inside this many opens: it is neither of the kind nor a break, or it is a break outside of
-- any open (RFC 7049, 2.2.2). The header of `01` may not stand inside `5f`.
abbrev pub IsMisplacedAt : Kind → ℕ → Header → Type 0
IsMisplacedAt kind opens header = ((opens ≡ 0) × (header ≡ h.Break)) ⊎ IsMisplaced kind header

-- A string refuses this header there. A strict string refuses a further open, too (RFC 7049, 2.2.2): the second byte of
-- `5f 5f`.
abbrev pub IsRefusedAt : Spelling → Kind → ℕ → Header → Type 0
IsRefusedAt allowed kind opens header =
    IsMisplacedAt kind opens header ⊎ ((0 < opens) × (allowed ≡ Shortest) × (header ≡ kind_header kind None))

module _ {A E : Type 0} where
  -- The string gives an answer that stays again: it has ended, it is damaged, or it is nested too deep. After damage at
  -- the place 2 this is `Syntax(2)`.
  abbrev pub GivesAgain : Progress → Result (Option A) (Error E) → Type 0
  GivesAgain (p.Open opens) result = Unit {0}
  GivesAgain p.Ended result = result ≡ Ok None
  GivesAgain (p.Damaged place) result = result ≡ Err (e.Syntax place)
  GivesAgain p.TooDeep result = result ≡ Err e.TooLong

module _ {R E : Type 0} (source : Ghosts R E) where
  -- `pull` gave a title at this offset whose header may not stand there. `FindsOther`, `StopsAtOther` and `MeetsOther`
  -- say by which rule, and what came before. In `5f 61` from offset 0 on, the offset is 1.
  pub record PullsOther (IsRefused : Header → Type 0) (old : Decoder R) (at : ℕ) (new : Decoder R) : Type 0 where
    pub header : Header
    pub pulled : PullsTitle source old header new
    pub refused : IsRefused header
    pub place : at ≡ old.offset

module _ {R E : Type 0} (source : Ghosts R E) (kind : Kind) where
  -- A title with a length announces a segment. A lone string ends with it (RFC 7049, 2.2.2). For byte strings `42`
  -- announces a body of two bytes.
  pub record FindsBody (opens : ℕ) (old : Decoder R) (body : Body) (progress : Progress) (new : Decoder R) : Type 0
    where
      pub pulled : PullsTitle source old (kind_header kind (Some body.length)) new
      pub place : body.place ≡ old.offset
      pub after : ((opens ≡ 0) × (progress ≡ p.Ended)) ⊎ ((0 < opens) × (progress ≡ p.Open opens))

  -- The break of the only open that isn't closed ends the string (RFC 7049, 2.2.2). In `5f 41 01 ff` this is `ff`.
  pub record ClosesString (opens : ℕ) (old : Decoder R) (progress : Progress) (new : Decoder R) : Type 0 where
    pub pulled : PullsTitle source old h.Break new
    pub last : opens ≡ 1
    pub after : progress ≡ p.Ended

  -- A further open comes inside as many opens as can be counted: 2^64 - 1.
  pub record NestsTooDeep (opens : ℕ) (old : Decoder R) (progress : Progress) (new : Decoder R) : Type 0 where
    pub pulled : PullsTitle source old (kind_header kind None) new
    pub most : opens ≡ 2 ^ 64 - 1
    pub after : progress ≡ p.TooDeep

  -- A break comes that leaves an open (RFC 7049, 2.2.2). In `5f 5f ff ff` this is the first `ff`.
  pub record ClosesInner (opens : ℕ) (old : Decoder R) (progress : Progress) (new : Decoder R) : Type 0 where
    pub pulled : PullsTitle source old h.Break new
    pub inner : 1 < opens
    pub after : progress ≡ p.Open (opens - 1)

module _ {R E : Type 0} (source : Ghosts R E) (kind : Kind) (allowed : Spelling) where
  -- A header that may not stand there damages the string at the place of its title (RFC 7049, 2.2.2). In `5f 01` this
  -- is `01`.
  pub record FindsOther (opens : ℕ) (old : Decoder R) (at : ℕ) (progress : Progress) (new : Decoder R) : Type 0 where
    pub other : PullsOther source (IsRefusedAt allowed kind opens) old at new
    pub after : progress ≡ p.Damaged at

  -- The titles of a string lead to this answer, inside `opens` opens. Inside one open `41` leads to a body of 1 byte.
  abbrev pub EndsAdvance : ℕ → Decoder R → Result (Option Body) (Error E) → Progress → Decoder R → Type 0
  EndsAdvance opens old (Ok (Some body)) progress new = FindsBody source kind opens old body progress new
  EndsAdvance opens old (Ok None) progress new = ClosesString source kind opens old progress new
  EndsAdvance opens old (Err (e.Io fault)) progress new = DecoderPullAnswer source old (Err (e.Io fault)) new
      × (progress ≡ p.Open opens)
  EndsAdvance opens old (Err (e.Syntax place)) progress new =
      (DecoderPullAnswer source old (Err (e.Syntax place)) new × (progress ≡ p.Damaged place)) ⊎ FindsOther opens old
      place progress new
  EndsAdvance opens old (Err e.TooLong) progress new =
      (DecoderPullAnswer source old (Err e.TooLong) new × (progress ≡ p.Open opens)) ⊎
      NestsTooDeep source kind opens old progress new
  EndsAdvance opens old (Err e.Waiting) progress new = ⊥

  -- A further open leads on (RFC 7049, 2.2.2). In `5f 5f` the second byte leads on, if the string is not strict.
  pub record Deepens (opens : ℕ) (old : Decoder R) (progress : Progress) (new : Decoder R) : Type 0 where
    pub pulled : PullsTitle source old (kind_header kind None) new
    pub after : progress ≡ p.Open (opens + 1)
    -- A strict string takes the first open alone.
    pub level : allowed ≡ Shortest → opens ≡ 0

  -- One title of a string, as the loop takes it (RFC 7049, 2.2.2). The title `5f` may lead from 0 opens to 1.
  abbrev pub StepsOver : ℕ → Decoder R → Result (Option Body) (Error E) → Progress → Decoder R → Type 0
  StepsOver opens old (Ok (Some body)) progress new = FindsBody source kind opens old body progress new
  StepsOver opens old (Ok None) progress new = ClosesString source kind opens old progress new ⊎
      (Deepens opens old progress new ⊎ ClosesInner source kind opens old progress new)
  StepsOver opens old (Err error) progress new = EndsAdvance opens old (Err error) progress new

  -- `advance` inside `opens` opens: opens and breaks in a row, and then the title that decides. Inside no open, over
  -- `5f 5f ff 41`, these are `5f 5f ff` and then `41`.
  pub record AdvancesFrom (opens : ℕ) (old : Decoder R) (result : Result (Option Body) (Error E))
      (progress : Progress) (new : Decoder R) : Type 0 where
    pub nest : List ℕ
    pub left : ℕ
    pub nests : Nests kind opens nest left
    pub between : Decoder R
    pub passed : ReadsPast source old nest between
    -- In a strict string only the first open leads on.
    pub shallow : allowed ≡ Shortest → opens + length nest ≤ 1
    pub ends : EndsAdvance left between result progress new

  -- `advance` from a progress. If titles are due, they lead on. Otherwise the string gives an answer that stays again,
  -- and reads nothing. After all of `5f 41 01 ff` this answer is `Ok(None)`.
  abbrev pub AdvancesTo : Progress → Decoder R → Result (Option Body) (Error E) → Progress → Decoder R → Type 0
  AdvancesTo (p.Open opens) old result progress new = AdvancesFrom opens old result progress new
  AdvancesTo p.Ended old result progress new = (result ≡ Ok None) × (progress ≡ p.Ended) × (new ≡ old)
  AdvancesTo (p.Damaged place) old result progress new = (result ≡ Err (e.Syntax place))
      × (progress ≡ p.Damaged place) × (new ≡ old)
  AdvancesTo p.TooDeep old result progress new = (result ≡ Err e.TooLong) × (progress ≡ p.TooDeep) × (new ≡ old)
