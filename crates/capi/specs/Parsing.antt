-- The results of the calls of a parser. C keeps the parser in memory of its own.
use Rattle.std.specs.Prelude.{◌≡◌, ◌≤◌, ℕ, List, [], ◌++◌, take}
use Rattle.ciborium_ll_grammar.specs.declared.spelling.Spelling.{Spelling}
use Rattle.ciborium_ll_grammar.specs.declared.hdr.Header.TheVariants as h
use Rattle.ciborium_ll_grammar.specs.declared.limits.TheConstants.{MOST_KEPT}
use Rattle.cbor_parser.specs.declared.event.Event.{Event}
use Rattle.cbor_parser.specs.declared.event.Event.TheVariants as e
use Rattle.cbor_parser.specs.declared.event.Pushed.{Pushed}
use Rattle.cbor_parser.specs.declared.parser.Parser.{Parser}
use Rattle.cbor_parser.specs.declared.strings.Within.TheVariants as w
use Rattle.cbor_parser.specs.Events.{carried_bytes}
use Rattle.cbor_parser.specs.Parsing.{AtFault, AtTitle, IsParsed, Point, Token, due_of}
use Rattle.cbor_parser.specs.Pushing.{Pushes}
use Rattle.cbor_parser.specs.Saving.{Holds, Keeps}
use Rattle.capi.specs.declared.answer.CllAnswer.{CllAnswer}
use Rattle.capi.specs.declared.answer.CllAnswer.TheVariants as a
use Rattle.capi.specs.declared.answer.CllReport.{CllReport}
use Rattle.capi.specs.declared.header.CllHeader.{CllHeader}
use Rattle.capi.specs.declared.parser.CllEvent.{CllEvent}
use Rattle.capi.specs.declared.parser.CllParser.{CllParser}
use Rattle.capi.specs.Answers.{Reports, code}
use Rattle.capi.specs.Headers.{Says}

-- This memory holds a parser to which these bytes were pushed, and which found these tokens, the last one first. For
-- `Shortest` it takes that spelling alone. The mark is "headings" in ASCII. After `cll_parser_push` took `82` and then
-- `19`, it holds one with `82 19` and the token `Array(Some(2))`.
pub record IsParseKept (allowed : Spelling) (bytes : List ℕ) (tokens : List Token) (parser : CllParser) : Type 0 where
  pub mark : parser.mark ≡ 7522525836485748595
  pub state : Keeps allowed bytes tokens parser.state

-- This memory holds this parser. After `82 19` its point is a title that has begun with `19`.
pub record HoldsParser (memory : CllParser) (parser : Parser) : Type 0 where
  pub mark : memory.mark ≡ 7522525836485748595
  pub state : Holds memory.state parser

-- This memory holds a parser, even if no bytes lead to its state. With the mark 0 it does not.
abbrev pub IsParser : CllParser → Type 0
IsParser memory = (parser : Parser) × HoldsParser memory parser

-- This memory holds no parser. Memory with the mark 0 holds none.
abbrev pub IsNoParser : CllParser → Type 0
IsNoParser memory = IsParser memory → ⊥

-- The answer that stands for an event: `Need`, as after `19`, has `Short`, and a header has `Ok`.
abbrev pub event_answer : Event → CllAnswer
event_answer (e.Need due) = a.Short
event_answer (e.Fault place) = a.Syntax
event_answer e.TooLong = a.TooLong
event_answer event = a.Ok

-- The number of an event's kind, as the C header has it. A header has 1.
abbrev pub event_kind : Event → ℕ
event_kind (e.Header header offset) = 1
event_kind (e.Close offset) = 2
event_kind (e.Body left) = 3
event_kind (e.Text carried left) = 4
event_kind event = 0

-- The offset of a title or of a fault, or how many bytes are due. After `19` it is 2, and for the second header of
-- `82 01` it is 1.
abbrev pub event_place : Event → ℕ
event_place (e.Need due) = due
event_place (e.Header header offset) = offset
event_place (e.Close offset) = offset
event_place (e.Fault place) = place
event_place event = 0

-- How many bytes the body still lacks after the part: 1 after the part `05` of `42 05`.
abbrev pub event_left : Event → ℕ
event_left (e.Body left) = left
event_left (e.Text carried left) = left
event_left event = 0

-- The parts are all 0, as if no title gave any.
pub record IsNoTitle (parts : CllHeader) : Type 0 where
  pub value : parts.value ≡ 0
  pub kind : parts.kind ≡ 0
  pub indefinite : parts.indefinite ≡ 0

-- The parts are those of the event's title. A close is the title of a break, and no other event has one: then all parts
-- are 0. For `19 03 e8` they are kind 0, value 1000 and form 0.
abbrev pub GivesTitle : Event → CllHeader → Type 0
GivesTitle (e.Header header offset) parts = Says parts header
GivesTitle (e.Close offset) parts = Says parts h.Break
GivesTitle event parts = IsNoTitle parts

-- The event has this kind and these numbers, no header, and no carried bytes. With `Argument` all are 0.
pub record IsPlain (event : CllEvent) (kind consumed place left : ℕ) : Type 0 where
  pub kind_is : event.kind ≡ kind
  pub consumed_is : event.consumed ≡ consumed
  pub place_is : event.place ≡ place
  pub left_is : event.left ≡ left
  pub none : IsNoTitle event.header
  pub none_carried : event.carried_len ≡ 0

-- The answer and the event of a call say what `push` of `cbor_parser` returns: the same number of bytes, the same event
-- in numbers, and the bytes that it carries. For a text `c3 a4` whose second byte alone is in the piece, `carried`
-- begins with `c3`, and `carried_len` is 1.
pub record Gives (pushed : Pushed) (answer : CllAnswer) (event : CllEvent) : Type 0 where
  pub answer_is : answer ≡ event_answer pushed.event
  pub consumed_is : event.consumed ≡ pushed.taken
  pub kind_is : event.kind ≡ event_kind pushed.event
  pub place_is : event.place ≡ event_place pushed.event
  pub left_is : event.left ≡ event_left pushed.event
  pub title : GivesTitle pushed.event event.header
  pub carried : take event.carried_len event.carried ≡ carried_bytes pushed.event
  pub few : event.carried_len ≤ MOST_KEPT

-- After this answer a call may take nothing of a piece: `Syntax`, `TooLong` or `Argument`.
abbrev pub Stops : CllAnswer → Type 0
Stops a.Syntax = Unit {0}
Stops a.TooLong = Unit {0}
Stops a.Argument = Unit {0}
Stops answer = ⊥

-- The number is that of an answer after which a caller pushes no more: a fault, too many bytes, or no parser. 2 is
-- such a number.
abbrev pub StopsPieces : ℕ → Type 0
StopsPieces number = (answer : CllAnswer) × (number ≡ code answer) × Stops answer

-- The result of `cll_parser_push` for a piece, and for a parser to which some bytes were pushed. `gives`: it is what
-- `push` of `cbor_parser` returns. `pushes`: that says of the bytes taken which tokens they are (RFC 7049, 2.1 to 2.4).
-- `holds`, `is_kept`: the memory then holds the parser with these bytes and tokens. `stays`: a fault stays. After
-- `42 05`, the piece `06 82` is `Ok` with a part of a byte string, one byte is taken, and none is left.
pub record PushesPiece (allowed : Spelling) (before : List ℕ) (tokens : List Token) (bytes : List ℕ)
    (answer : CllAnswer) (event : CllEvent) (new : CllParser) : Type 0 where
  pub pushed : Pushed
  pub parser : Parser
  pub gives : Gives pushed answer event
  pub pushes : Pushes allowed before tokens bytes pushed parser
  pub holds : HoldsParser new parser
  pub is_kept : (after : List Token) × IsParseKept allowed (before ++ take event.consumed bytes) after new
  pub stays : (place : ℕ) → IsParsed allowed before tokens (AtFault place)
      → (answer ≡ a.Syntax) × (event.consumed ≡ 0) × (event.place ≡ place)

-- The meaning of an answer and its number at the point that all bytes lead to. The bytes may end there. Or this many
-- bytes of a title or a body are due, at least 1. Or there is a fault. After `42 05` the answer is `Short` with 1.
abbrev pub SaysAt : Point → CllAnswer → ℕ → Type 0
SaysAt point a.Ok number = (point ≡ AtTitle w.Nothing []) × (number ≡ 0)
SaysAt point a.Short number =
    (point ≡ AtTitle w.Nothing [] → ⊥) × ((place : ℕ) → point ≡ AtFault place → ⊥) × (number ≡ due_of point)
SaysAt point a.Syntax number = point ≡ AtFault number
SaysAt point answer number = ⊥

-- The result of `cll_parser_end`: the answer says which point all bytes lead to (RFC 7049, 2.1 to 2.4). After `5f` it is
-- `Short` with 1, since the break is due.
pub record EndsParse (allowed : Spelling) (bytes : List ℕ) (tokens : List Token) (answer : CllAnswer)
    (report : CllReport) : Type 0 where
  pub point : Point
  pub parsed : IsParsed allowed bytes tokens point
  pub says : SaysAt point answer report.place
  pub reports : Reports report 0 0 report.place
