-- The events of a parser, by their numbers.
use Rattle.std.proofs.Common.{◌≡◌, ◌∙◌, ◌≤◌, ◌++◌, ℕ, zero, suc, List, [], take, Option, Some, None}
use Rattle.std.proofs.Common.{append-nil, ap, arith, subst, sym}
use Rattle.std.specs.Prelude.{IfSome}
use Rattle.ciborium_ll_grammar.specs.declared.spelling.Spelling.{Spelling}
use Rattle.cbor_parser.specs.declared.event.Event.{Event}
use Rattle.cbor_parser.specs.declared.event.Event.TheVariants as e
use Rattle.cbor_parser.specs.declared.event.Pushed.{Pushed}
use Rattle.cbor_parser.specs.declared.parser.Parser.{Parser}
use Rattle.cbor_parser.specs.Parsing.{AtFault, IsParsed, Token, point_of}
use Rattle.cbor_parser.specs.Pushing.{HasPushed, Pushes, Tells}
use Rattle.cbor_parser.specs.Saving.{Holds}
use Rattle.cbor_parser.proofs.OneParse.{one_parse}
use Rattle.capi.specs.declared.answer.CllAnswer.{CllAnswer}
use Rattle.capi.specs.declared.parser.CllEvent.{CllEvent}
use Rattle.capi.specs.declared.parser.CllParser.{CllParser}
use Rattle.capi.specs.Parsing.{Gives, HoldsParser, IsParseKept, IsParser, PushesPiece, event_answer}
use Rattle.capi.specs.Parsing.{event_place}

-- ---- the memory

-- Memory with the mark and the numbers of a parser holds it.
pub is_parser : (memory : CllParser) (found : Option Parser) → memory.mark ≡ 7522525836485748595
    → IfSome found (Holds memory.state) → IfSome found (λ parser. IsParser memory)
is_parser memory None mark holds = tt
is_parser memory (Some parser) mark holds = (parser, record { mark = mark; state = holds })

-- Memory that holds a parser keeps what was pushed to it.
pub is_kept : (allowed : Spelling) (bytes : List ℕ) (tokens : List Token) (memory : CllParser) (parser : Parser)
    → HoldsParser memory parser → HasPushed allowed bytes tokens parser → IsParseKept allowed bytes tokens memory
is_kept allowed bytes tokens memory parser holds pushed =
    record { mark = holds.mark; state = record { parser = parser; holds = holds.state; pushed = pushed } }

-- ---- a piece

-- After an event the parser has the bytes that were taken, and some tokens.
has_pushed : (allowed : Spelling) (before : List ℕ) (tokens : List Token) (part all : List ℕ) (event : Event)
    (new : Parser) → Tells allowed before tokens part all event new
    → (after : List Token) × HasPushed allowed (before ++ part) after new
has_pushed allowed before tokens part all (e.Need due) new told = (_, told.1)
has_pushed allowed before tokens part all (e.Header header offset) new told = (_, told.0)
has_pushed allowed before tokens part all (e.Close offset) new told = (_, told.0)
has_pushed allowed before tokens part all (e.Body left) new told = (_, told.0)
has_pushed allowed before tokens part all (e.Text carried left) new told = (_, told.0)
has_pushed allowed before tokens part all (e.Fault place) new told = (_, told.0)
has_pushed allowed before tokens part all e.TooLong new told = (
  tokens,
  subst (λ (bytes : List ℕ). HasPushed allowed bytes tokens new)
      (sym (append-nil before) ∙ ap (λ (x : List ℕ). before ++ x) (sym told.1)) told.0,
)

-- A fault is where the bytes have come to.
at_fault : (allowed : Spelling) (bytes : List ℕ) (tokens others : List Token) (place : ℕ) (parser : Parser)
    → HasPushed allowed bytes tokens parser → IsParsed allowed bytes others (AtFault place)
    → point_of parser ≡ AtFault place
at_fault allowed bytes tokens others place parser was is =
    (one_parse allowed bytes tokens others _ (AtFault place) was.parsed is).1

-- The relation of a push follows from the event of the parser and its numbers.
module _ (allowed : Spelling) (before : List ℕ) (tokens : List Token) (bytes : List ℕ) (pushed : Pushed)
    (answer : CllAnswer) (event : CllEvent) (old now : Parser) (new : CllParser) where
  pub pushes_piece : HasPushed allowed before tokens old → Pushes allowed before tokens bytes pushed now
      → ((place : ℕ) → point_of old ≡ AtFault place → (pushed.taken ≡ 0) × (pushed.event ≡ e.Fault place) × (now ≡ old))
      → Gives pushed answer event → HoldsParser new now
      → PushesPiece allowed before tokens bytes answer event new
  pushes_piece was told stays gives holds =
      let (after, has) = has_pushed allowed before tokens _ bytes pushed.event now told in
      record {
        pushed = pushed;
        parser = now;
        gives = gives;
        pushes = told;
        holds = holds;
        is_kept = (
          after,
          is_kept allowed _ after new now holds (subst
              (λ (n : ℕ). HasPushed allowed (before ++ take n bytes) after now) (sym gives.consumed_is) has),
        );
        stays = λ place fault.
            let (none, is, same) = stays place (at_fault allowed before tokens tokens place old was fault) in (
              gives.answer_is ∙ ap event_answer is,
              gives.consumed_is ∙ none,
              gives.place_is ∙ ap event_place is,
            );
      }

-- ---- an end

-- If a push of no bytes answers a fault, the parser is at that fault.
pub end_fault : (allowed : Spelling) (bytes : List ℕ) (tokens : List Token) (old new : Parser) (taken place : ℕ)
    (event : Event) → taken ≤ 0 → event ≡ e.Fault place → HasPushed allowed bytes tokens old
    → Tells allowed bytes tokens (take taken []) [] event new → point_of old ≡ AtFault place
end_fault allowed bytes tokens old new zero place event few is was told =
    let (pushed, at) = rw is at told in
    (one_parse allowed bytes tokens tokens _ _ was.parsed
    (subst (λ (x : List ℕ). IsParsed allowed x tokens (point_of new)) (append-nil bytes) pushed.parsed)).1 ∙ at
end_fault allowed bytes tokens old new (suc taken) place event few is was told = absurd (omega (arith, few))
