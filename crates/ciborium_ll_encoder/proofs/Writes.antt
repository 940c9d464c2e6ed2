-- Writes in two steps, in the terms of the contracts of the steps. From these lemmas the prover finds the clauses of a
-- function that makes these calls, whatever the form of its body.
use Rattle.std.proofs.Common.{◌≡◌, ℕ, ◌<◌, ◌≤◌, max, List, [], ◌∷◌, ◌++◌, length, append-nil, sym, ◌∙◌, arith}
use Rattle.std.proofs.Common.{Option, None, Some, Result, Ok, Err, IsErr, OnOk}
use Rattle.std.specs.Option.{unwrap_or}
use Rattle.std.specs.Str.{IsUtf8}
use Rattle.ciborium_ll_io.specs.declared.io.Write.{Ghosts}
use Rattle.ciborium_ll_grammar.specs.Title.{shortest_title}
use Rattle.ciborium_ll_grammar.specs.Strings.{Kind, Text, kind_header, IsWritable}
use Rattle.ciborium_ll_grammar.specs.Values.{least_limit, value_limit, ArePieces, in_one, in_pieces}
use Rattle.ciborium_ll_encoder.specs.Encoding.{WritesAll, WritesFront, WritesBytes, WritesPieces, WritesValue}
use Rattle.ciborium_ll_encoder.specs.Encoding.{WritesFewest}
use Rattle.ciborium_ll_grammar.specs.Elements.{Whole, spelling, pieces, open_marks}
use Rattle.ciborium_ll_grammar.proofs.ElementLaws.{open_spelled}
use Rattle.ciborium_ll_grammar.proofs.ValueLaws.{pieces_exist, fewest_segments}
use Rattle.ciborium_ll_text.proofs.Utf8Laws.{from_std}
use Rattle.ciborium_ll_encoder.proofs.EncodingLaws.{WritesBytes-stopped, WritesBytes-then}

-- The limit is the requested one or the value's length, and at least the least limit of the kind.
limit_is : (k : Kind) (segment : Option ℕ) (value : List ℕ)
    → max (least_limit k) (unwrap_or segment (length value)) ≡ value_limit k segment value
limit_is k segment value = grind arith

module _ {W F : Type 0} (sink : Ghosts W F) where
  -- A value was written as one string of a definite length.
  pub value_in_one : {T : Type 0} {old new : W} {result : Result T F} {kind : Kind} {segment : Option ℕ}
      {value body : List ℕ} {limit : ℕ} → limit ≡ max (least_limit kind) (unwrap_or segment (length value))
      → length value ≤ limit → body ≡ value
      → WritesBytes sink old result (shortest_title (kind_header kind (Some (length value))) ++ body) new
      → WritesValue sink kind segment value old result new
  value_in_one {kind = kind} {segment = segment} {value = value} is fits same bytes = record {
    marks = Whole kind value ∷ [];
    written = in_one (rw (sym (limit_is kind segment value) ∙ sym is) fits);
    bytes = rw append-nil (rw same at bytes);
  }

  module _ {T : Type 0} {old new : W} {result : Result T F} {kind : Kind} {segment : Option ℕ} {value : List ℕ}
      {limit : ℕ} (is : limit ≡ max (least_limit kind) (unwrap_or segment (length value)))
      (longer : limit < length value) where
    -- A longer value was written in pieces.
    in_open : (members : List (List ℕ)) → ArePieces kind limit value members → WritesBytes sink old result
        (shortest_title (kind_header kind None) ++ (spelling (pieces kind members) ++ 0xff ∷ [])) new
        → WritesValue sink kind segment value old result new
    in_open members are bytes =
        let same = is ∙ limit_is kind segment value in
        record {
          marks = open_marks kind members;
          written = in_pieces members (rw same at longer) (rw same at are);
          bytes = rw open_spelled bytes;
        }

    -- The open of a longer value was not written.
    pub value_unopened : IsErr result → IsWritable kind value
        → WritesFront sink old (shortest_title (kind_header kind None)) new
        → WritesValue sink kind segment value old result new
    value_unopened fails sound front =
        let p = pieces_exist kind limit value (omega arith) sound longer in
        in_open p.0 p.1 (WritesBytes-stopped sink old new result _ _ fails front)

    -- One piece of a longer value was not written.
    pub value_cut : {opened : W} {fault : F} → IsErr result
        → WritesAll sink old (shortest_title (kind_header kind None)) opened
        → WritesPieces sink {T = T} kind limit value opened (Err fault) new
        → WritesValue sink kind segment value old result new
    value_cut {opened = opened} fails all p =
        in_open p.members p.are_pieces (WritesBytes-then sink old opened new result _ _ all
        (WritesBytes-stopped sink opened new result _ _ fails p.bytes))

    -- The pieces of a longer value were written, and then its break, or not.
    pub value_closed : {opened last : W} {done : T} → WritesAll sink old (shortest_title (kind_header kind None)) opened
        → WritesPieces sink {T = T} kind limit value opened (Ok done) last
        → WritesBytes sink last result (0xff ∷ []) new → WritesValue sink kind segment value old result new
    value_closed {opened = opened} {last = last} all p close =
        in_open p.members p.are_pieces (WritesBytes-then sink old opened new result _ _ all
        (WritesBytes-then sink opened last new result _ _ p.bytes close))

  -- A text that is written in pieces is written in as few as the limit allows.
  pub in_fewest : {T : Type 0} (old new : W) (result : Result T F) (segment : Option ℕ) (text : List ℕ) → IsUtf8 text
      → WritesValue sink Text segment text old result new
      → OnOk result (0 < length text → WritesFewest sink (value_limit Text segment text) text old new)
  in_fewest old new (Ok done) segment text is_text writes = λ some.
      let fewest = fewest_segments _ text writes.marks writes.written (from_std text is_text) some in
      search
  in_fewest old new (Err fault) segment text is_text writes = tt

-- The lemmas on values of bytes and of text.
pub ruleset values = (value_in_one, value_unopened, value_cut, value_closed)
