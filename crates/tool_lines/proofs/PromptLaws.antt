-- A copy in pieces, from one piece to the next.
use Rattle.std.proofs.Common.{◌≡◌, ℕ, ◌+◌, ◌<◌, ◌≤◌, ◌^◌, List, [], ◌∷◌, ◌++◌, length, take, drop, Option, Some, None}
use Rattle.std.proofs.Common.{Result, Ok, Err, MatchResult, IsErrAnd, ◌⊎◌, inl, inr}
use Rattle.std.proofs.Common.{rules, refl, sym, ap, ◌∙◌, arith, append_assoc, append-nil, length-append}
use Rattle.std.specs.Io.KnownBytes.{Appends, Consumes, IsAtEnd, Keeps}
use Rattle.ciborium_ll_io.specs.Transfer.{AppendsPart}
use Rattle.std.proofs.lemmas.List.{take-append-drop, length-take}
use Rattle.std.proofs.Math.Seq.{take-length, drop-length}
use Rattle.ciborium_ll_grammar.specs.declared.spelling.Spelling.TheVariants.{Any}
use Rattle.cbor_copier.specs.declared.copier.Copier.{Copier}
use Rattle.cbor_copier.specs.declared.progress.Progress.{Progress}
use Rattle.cbor_copier.specs.declared.progress.Progress.TheVariants as p
use Rattle.cbor_copier.specs.Copying.{HasCopied}
use Rattle.cbor_copier.specs.Reading.{IsRoom, Tells, TellsWhole}
use Rattle.ciborium_ll_decoder.specs.declared.dec.Error.TheVariants as e
use Rattle.ciborium_ll_decoder.specs.declared.copy.RecodeError.{RecodeError}
use Rattle.ciborium_ll_decoder.specs.declared.copy.RecodeError.TheVariants as r
use Rattle.ciborium_ll_streams.specs.declared.streams.ReadFault.{ReadFault}
use Rattle.ciborium_ll_streams.specs.declared.streams.ReadFault.TheVariants as f
use Rattle.ciborium_ll_streams.specs.declared.streams.WriteFault.{WriteFault}
use Rattle.tool_lines.specs.Prompt.{Breaks, Comes, CopiesPrompt, Stands, TellsAll, TellsSome}

-- If there is room, the answer is `More`.
pub only_more : (says : Progress) → (says ≡ p.More) ⊎ (says ≡ p.Room) → (IsRoom says → ⊥) → says ≡ p.More
only_more says (inl is) some = is
only_more says (inr is) some = absurd (some (rw is tt))

-- An answer other than `Room` is told of all output.
pub whole_told : (count : ℕ) (bytes output : List ℕ) (says : Progress) → Tells Any count bytes output says
    → (IsRoom says → ⊥) → TellsWhole Any count bytes output says
whole_told count bytes output p.More told some = told
whole_told count bytes output p.Room told some = absurd (some tt)
whole_told count bytes output p.Ended told some = told
whole_told count bytes output (p.Syntax place) told some = told
whole_told count bytes output p.TooLong told some = told

-- Known bytes that begin with these.
pub consumed_known : (old new : Option (List ℕ)) (bytes rest : List ℕ) → Consumes old new bytes → old ≡ Some rest
    → (rest' : List ℕ) × (new ≡ Some rest') × (rest ≡ bytes ++ rest')
consumed_known None new bytes rest is known = absurd cc
consumed_known (Some xs) None bytes rest is known = absurd is
consumed_known (Some xs) (Some ys) bytes rest is known = (ys, refl, search rules)

pub kept_rest : (old new : Option (List ℕ)) (rest : List ℕ) → Keeps old new → old ≡ Some rest → new ≡ Some rest
kept_rest None new rest keeps known = absurd cc
kept_rest (Some xs) None rest keeps known = absurd keeps
kept_rest (Some xs) (Some ys) rest keeps known = ap Some keeps ∙ known

pub end_rest : (known : Option (List ℕ)) (rest : List ℕ) → IsAtEnd known → known ≡ Some rest → rest ≡ []
end_rest None rest end is = absurd cc
end_rest (Some xs) rest end is = search rules

module _ {R W : Type 0} (left : R → Option (List ℕ)) (got : W → Option (List ℕ)) (count : ℕ) (due written : List ℕ) where
  -- The copier took `fed` and put out `given`, which is written. This piece comes next, and then what the reader has.
  pub record Held (piece : List ℕ) (copier : Copier) (pieces : ℕ) (reader : R) (writer : W) : Type 0 where
    pub fed : List ℕ
    pub given : List ℕ
    pub rest : List ℕ
    pub copied : HasCopied Any count fed given copier
    pub split : due ≡ fed ++ piece ++ rest
    pub tells : left reader ≡ Some rest
    pub all : got writer ≡ Some (written ++ given)
    pub many : pieces ≤ length fed + length piece
    pub told : 0 < pieces → TellsWhole Any count fed given p.More

  pub held_first : (copier : Copier) (reader : R) (writer : W) → HasCopied Any count [] [] copier
      → left reader ≡ Some due → got writer ≡ Some written → Held [] copier 0 reader writer
  held_first copier reader writer copied tells all = record {
    fed = [];
    given = [];
    rest = due;
    copied = copied;
    split = refl;
    tells = tells;
    all = all ∙ ap Some (sym (append-nil written));
    many = omega arith;
    told = λ some. absurd (omega (arith, some));
  }

  module _ {piece : List ℕ} {copier : Copier} {pieces : ℕ} {reader : R} {writer : W}
      (held : Held piece copier pieces reader writer) (taken : ℕ) (says : Progress) (output : List ℕ)
      (told : TellsWhole Any count (held.fed ++ take taken piece) (held.given ++ output) says) where
    parted : due ≡ (held.fed ++ take taken piece) ++ drop taken piece ++ held.rest
    parted =
        held.split ∙ ap (λ (xs : List ℕ). held.fed ++ xs ++ held.rest) (sym (take-append-drop taken piece))
        ∙ ap (λ (xs : List ℕ). xs ++ held.rest) (sym (append_assoc held.fed (take taken piece) (drop taken piece)))

    fewer : (most : ℕ) → length piece ≤ most → length (drop taken piece) ≤ most
    fewer most few =
        omega (arith, few, ap length (take-append-drop taken piece), length-append (take taken piece) (drop taken piece))

    pub stands : (most : ℕ) (reader' : R) → length piece ≤ most → left reader' ≡ Some held.rest
        → Stands left most count due says (held.given ++ output) reader'
    stands most reader' few tells = record {
      fed = held.fed ++ take taken piece;
      ahead = drop taken piece;
      rest = held.rest;
      split = parted;
      few = fewer most few;
      tells = tells;
      told = told;
    }

    -- All output of the piece is written.
    pub comes : (most : ℕ) (reader' : R) (writer' : W) → length piece ≤ most → left reader' ≡ Some held.rest
        → TellsAll got (written ++ held.given) output writer'
        → (comes : Comes left got most count due written says reader' writer')
        × (comes.stands.fed ≡ held.fed ++ take taken piece) × (comes.stands.ahead ≡ drop taken piece)
        × (comes.stands.rest ≡ held.rest)
    unfolding stands
    comes most reader' writer' few tells all = (
      record {
        output = held.given ++ output;
        stands = stands most reader' few tells;
        all = all ∙ ap Some (append_assoc written held.given output);
      },
      refl,
      refl,
      refl,
    )

    -- A beginning of the output of the piece is written.
    pub breaks : (most : ℕ) (writer' : W) → length piece ≤ most
        → TellsSome got (written ++ held.given) output writer'
        → Breaks left got most count due written reader writer'
    breaks most writer' few some = record {
      output = held.given ++ output;
      says = says;
      stands = stands most reader few held.tells;
      some = record {
        front = held.given ++ some.front;
        lost = some.lost;
        parted = ap (λ (xs : List ℕ). held.given ++ xs) some.parted
            ∙ sym (append_assoc held.given some.front some.lost);
        tells = some.tells ∙ ap Some (append_assoc written held.given some.front);
      };
    }

  -- A whole piece was taken, and the next one came.
  pub held_next : {piece : List ℕ} {copier : Copier} {pieces : ℕ} {reader : R} {writer : W}
      (held : Held piece copier pieces reader writer) (output bytes : List ℕ) (copier' : Copier) (reader' : R)
      (writer' : W) → HasCopied Any count (held.fed ++ piece) (held.given ++ output) copier'
      → TellsAll got (written ++ held.given) output writer' → Consumes (left reader) (left reader') bytes
      → 0 < length bytes → TellsWhole Any count (held.fed ++ piece) (held.given ++ output) p.More
      → Held bytes copier' (pieces + 1) reader' writer'
  held_next {piece = piece} held output bytes copier' reader' writer' copied all consumes some told =
      let known = consumed_known _ _ bytes held.rest consumes held.tells in record {
        fed = held.fed ++ piece;
        given = held.given ++ output;
        rest = known.0;
        copied = copied;
        split = held.split ∙ ap (λ (xs : List ℕ). held.fed ++ piece ++ xs) known.2
            ∙ sym (append_assoc (held.fed ++ piece) bytes known.0);
        tells = known.1;
        all = all ∙ ap Some (append_assoc written held.given output);
        many = omega (arith, held.many, some, length-append held.fed piece);
        told = λ many. told;
      }

  -- Too many pieces came.
  pub held_long : {piece : List ℕ} {copier : Copier} {pieces : ℕ} {reader : R} {writer : W}
      (held : Held piece copier pieces reader writer) (most : ℕ) → length piece ≤ most → 2 ^ 64 ≤ pieces + 1
      → CopiesPrompt left got most count due written (Err (r.Read e.TooLong)) reader writer
  held_long {piece = piece} held most few many = (
    p.More,
    record {
      output = held.given;
      stands = record {
        fed = held.fed;
        ahead = piece;
        rest = held.rest;
        split = held.split;
        few = few;
        tells = held.tells;
        told = held.told (omega (arith, many));
      };
      all = held.all;
    },
    omega (arith, held.many, many, few),
  )

  -- A read failed after all bytes before it were taken.
  pub read_failed : {reader : R} {writer : W} (most : ℕ) (fault : ReadFault)
      (comes : Comes left got most count due written p.More reader writer) → comes.stands.ahead ≡ []
      → (fault ≡ f.End → comes.stands.rest ≡ [])
      → CopiesPrompt left got most count due written (Err (r.Read (e.Io fault))) reader writer
  read_failed most f.End comes none end = (
    comes,
    sym (comes.stands.split ∙ ap (λ (xs : List ℕ). comes.stands.fed ++ comes.stands.ahead ++ xs) (end refl)
        ∙ append-nil _ ∙ ap (λ (xs : List ℕ). comes.stands.fed ++ xs) none ∙ append-nil _),
  )
  read_failed most (f.Failed error) comes none end = (comes, none)

-- What a failed read makes of an answer.
pub read_refused : {A : Type 0} (read : Result A ReadFault) (answer : Result A (RecodeError ReadFault WriteFault))
    (error : RecodeError ReadFault WriteFault) → answer ≡ Err error
    → MatchResult read (λ some. answer ≡ Ok some) (λ fault. IsErrAnd answer (λ error. error ≡ r.Read (e.Io fault)))
    → (fault : ReadFault) × (read ≡ Err fault) × (error ≡ r.Read (e.Io fault))
read_refused read answer error is cases = grind arith

-- Known bytes to which these were appended.
pub appended_known : (old new : Option (List ℕ)) (bytes written : List ℕ) → Appends old new bytes
    → old ≡ Some written → new ≡ Some (written ++ bytes)
appended_known None new bytes written is known = absurd cc
appended_known (Some xs) None bytes written is known = absurd is
appended_known (Some xs) (Some ys) bytes written is known = search rules

-- A writer got a beginning of these bytes.
pub some_written : {W : Type 0} (got : W → Option (List ℕ)) (written bytes : List ℕ) (old writer : W)
    → got old ≡ Some written → AppendsPart (got old) (got writer) bytes → TellsSome got written bytes writer
some_written got written bytes old writer known part = record {
  front = take part.0 bytes;
  lost = drop part.0 bytes;
  parted = sym (take-append-drop part.0 bytes);
  tells = appended_known _ _ (take part.0 bytes) written part.1 known;
}

-- A writer got all of these bytes, and a call that keeps them failed.
pub all_written : {W : Type 0} (got : W → Option (List ℕ)) (written bytes : List ℕ) (between writer : W)
    → got between ≡ Some (written ++ bytes) → Keeps (got between) (got writer) → TellsSome got written bytes writer
all_written got written bytes between writer known keeps = record {
  front = bytes;
  lost = [];
  parted = sym (append-nil bytes);
  tells = kept_rest _ _ _ keeps known;
}

-- A piece of at most 8192 bytes, and eight more, fit into 8200 bytes.
pub piece_len : (given most : ℕ) (piece : List ℕ) → given ≤ most → length (take given piece) ≤ most
piece_len given most piece few = omega (arith, few, length-take given piece)

pub piece_fits : (given : ℕ) (piece out : List ℕ) → given ≤ 8192 → length out ≡ 8200
    → length (take given piece) + 8 ≤ length out
piece_fits given piece out few room = omega (arith, room, piece_len given 8192 piece few)
