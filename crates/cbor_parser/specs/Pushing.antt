-- What was pushed to a parser, and what an answer says of it.
use Rattle.std.specs.Prelude.{◌≡◌, ℕ, ◌+◌, ◌<◌, ◌≤◌, ◌^◌, List, [], ◌∷◌, ◌++◌, length, take}
use Rattle.ciborium_ll_grammar.specs.declared.spelling.Spelling.{Spelling}
use Rattle.ciborium_ll_grammar.specs.declared.hdr.Header.{Header}
use Rattle.ciborium_ll_grammar.specs.declared.hdr.Header.TheVariants as h
use Rattle.ciborium_ll_grammar.specs.Title.{IsTitle}
use Rattle.ciborium_ll_text.specs.Text.{IsCharacters}
use Rattle.cbor_parser.specs.declared.event.Event.{Event}
use Rattle.cbor_parser.specs.declared.event.Event.TheVariants as e
use Rattle.cbor_parser.specs.declared.event.Pushed.{Pushed}
use Rattle.cbor_parser.specs.declared.parser.Parser.{Parser}
use Rattle.cbor_parser.specs.declared.strings.Within.{Within}
use Rattle.cbor_parser.specs.Phases.{phase_after, text_left}
use Rattle.cbor_parser.specs.Events.{title_event}
use Rattle.cbor_parser.specs.Parsing.{AreTokens, AtFault, IsNoTitleIn, IsParsed, IsTitleIn, Point, Token, due_of}
use Rattle.cbor_parser.specs.Parsing.{left_of, point_at, point_of, token}

-- These bytes were pushed to the parser and taken, and the events named these tokens, the last one first (RFC 7049, 2.1
-- to 2.4). If `allowed` is `Shortest`, only the shortest spelling is taken (3.9). After the pieces `82 19` and `01`,
-- these are the bytes `82 19 01` and the token `Array(Some(2))`.
pub record HasPushed (allowed : Spelling) (bytes : List ℕ) (tokens : List Token) (parser : Parser) : Type 0 where
  pub parsed : IsParsed allowed bytes tokens (point_of parser)
  pub spelling : parser.spelling ≡ allowed
  pub offset : parser.offset ≡ length bytes

-- More of the last body: with the part `06`, the body `05` of the last token becomes `05 06`.
abbrev pub grown : List Token → List ℕ → List Token
grown [] part = []
grown (last ∷ tokens) part = record last { body = last.body ++ part } ∷ tokens

-- The bytes are these tokens, after which the strings `within` are open, and then a title of this header at the offset.
-- `82 19 01 00` are the token `Array(Some(2))` and a title at 1, and no string is open.
pub record EndsWithTitle (allowed : Spelling) (bytes : List ℕ) (tokens : List Token) (within : Within) (header : Header)
    (offset : ℕ) : Type 0 where
  pub done : List ℕ
  pub title : List ℕ
  pub are : AreTokens allowed done tokens within
  pub is_title : IsTitle title header
  pub whole : bytes ≡ done ++ title
  pub place : offset ≡ length done

-- `Tells allowed before tokens part all event new`: what an event says, if these bytes and tokens came before, the part
-- of the piece was taken, and `all` are the bytes of the piece. After `42 05`, the piece `06 82` has the event
-- `Body(0)` with the part `06`. A body that lacks bytes takes the whole piece.
abbrev pub Tells : Spelling → List ℕ → List Token → List ℕ → List ℕ → Event → Parser → Type 0
Tells allowed before tokens part all (e.Need due) new =
    (part ≡ all) × HasPushed allowed (before ++ part) tokens new × (due ≡ due_of (point_of new))
Tells allowed before tokens part all (e.Header header offset) new =
    HasPushed allowed (before ++ part) (token header [] ∷ tokens) new
    × ((within : Within) × EndsWithTitle allowed (before ++ part) tokens within header offset
    × (e.Header header offset ≡ title_event within header offset))
Tells allowed before tokens part all (e.Close offset) new =
    HasPushed allowed (before ++ part) (token h.Break [] ∷ tokens) new
    × ((within : Within) × EndsWithTitle allowed (before ++ part) tokens within h.Break offset
    × (e.Close offset ≡ title_event within h.Break offset))
Tells allowed before tokens part all (e.Body left) new =
    HasPushed allowed (before ++ part) (grown tokens part) new × (left ≡ left_of (point_of new))
    × (0 < left → part ≡ all)
Tells allowed before tokens part all (e.Text carried left) new =
    HasPushed allowed (before ++ part) (grown tokens (carried ++ part)) new × IsCharacters (carried ++ part)
    × (left ≡ left_of (point_of new))
Tells allowed before tokens part all (e.Fault place) new =
    HasPushed allowed (before ++ part) tokens new × (point_of new ≡ AtFault place)
Tells allowed before tokens part all e.TooLong new =
    HasPushed allowed before tokens new × (part ≡ []) × (2 ^ 64 ≤ length before + length all)

-- The event may take no byte of a piece that has some: a fault, as a second time after `1c`, or a piece that is too
-- long.
abbrev pub Stops : Event → Type 0
Stops (e.Fault place) = Unit {0}
Stops e.TooLong = Unit {0}
Stops event = ⊥

-- What an answer says of a piece, if these bytes and tokens came before: `Tells` of the bytes that were taken. Of the
-- piece `06 82` it says that `06` was taken, if one byte was.
abbrev pub Pushes : Spelling → List ℕ → List Token → List ℕ → Pushed → Parser → Type 0
Pushes allowed before tokens piece pushed new =
    Tells allowed before tokens (take pushed.taken piece) piece pushed.event new

-- The point after a part of a text, with this many bytes left: `InText` with none of a character, or a title is due.
-- After `62 61` one byte is left, and after `62 61 62` a title is due.
abbrev pub text_point : Within → ℕ → ℕ → Point
text_point within left place = point_at (text_left left place) within []

-- `Enters allowed before title start end event point`: what an event says of a whole title from `start` to `end` within
-- the strings `before`, and the point that it leads to. A fault has the place `start`. The title `42` leads to a body.
abbrev pub Enters : Spelling → Within → List ℕ → ℕ → ℕ → Event → Point → Type 0
Enters allowed before title start end (e.Header header offset) point =
    (after : Within) × IsTitleIn allowed before title header after × (offset ≡ start)
    × (point ≡ point_at (phase_after before start end header) after [])
    × (e.Header header offset ≡ title_event before header offset)
Enters allowed before title start end (e.Close offset) point =
    (after : Within) × IsTitleIn allowed before title h.Break after × (offset ≡ start)
    × (point ≡ point_at (phase_after before start end h.Break) after [])
    × (e.Close offset ≡ title_event before h.Break offset)
Enters allowed before title start end (e.Fault place) point =
    IsNoTitleIn allowed before title × (place ≡ start) × (point ≡ AtFault start)
Enters allowed before title start end event point = ⊥
