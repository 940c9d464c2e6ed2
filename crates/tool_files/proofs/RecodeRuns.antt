-- A copy of items from a reader to a writer, from one piece to the next.
use Rattle.std.proofs.Common.{◌≡◌, ℕ, ◌+◌, ◌≤◌, ◌^◌, ◌==◌, Bool, true, false, List, [], ◌++◌, length}
use Rattle.std.proofs.Common.{Option, Some, None, Result, Ok, Err, cond, IsErrAnd, MatchResult}
use Rattle.std.proofs.Common.{refl, sym, ap, subst, ◌∙◌, arith, append_assoc, append-nil, length-append}
use Rattle.std.proofs.lemmas.Bool.{eqb-true, eqb-false}
use Rattle.std.specs.Io.KnownBytes.{Consumes, IsAtEnd, Keeps}
use Rattle.std.specs.declared.io.Error.{Error}
use Rattle.ciborium_ll_grammar.specs.declared.spelling.Spelling.TheVariants.{Any}
use Rattle.ciborium_ll_text.proofs.Lists.{length_zero}
use Rattle.cbor_checker.specs.declared.phase.Fault.{Fault}
use Rattle.cbor_checker.specs.declared.phase.Fault.TheVariants as f
use Rattle.cbor_item_copier.specs.declared.copier.ItemCopier.{ItemCopier}
use Rattle.cbor_item_copier.specs.Copying.{HasCopied}
use Rattle.cbor_item_copier.proofs.ReadLaws.{fresh_clear}
use Rattle.tool_verdicts.specs.declared.verdict.Verdict.{Verdict}
use Rattle.tool_verdicts.specs.declared.verdict.Verdict.TheVariants as v
use Rattle.tool_verdicts.specs.Parts.{IsAtMost}
use Rattle.tool_files.specs.Recodes.{CopiesItems, Feeds, IsLeft, IsOutput, Stands, StopAt, all_copied}
use Rattle.tool_files.specs.Recodes.{enough_copied, whole_items}
use Rattle.tool_files.specs.Recodes.{TellsAll, TellsSome, TooMany, end_said, fault_said, stopped, within}
use Rattle.tool_files.proofs.RecodeLaws.{consumed_known, end_known, kept_known}

-- Without a byte nothing is put out.
none_out : (depth : ℕ) (part front : List ℕ) (copier : ItemCopier) → HasCopied Any depth part front copier
    → part ≡ [] → front ≡ []
none_out depth part front copier was empty = (fresh_clear Any depth front copier (rw empty at was)).0

-- Bytes that are told later follow those at which a copy stops.
stop_later : (depth : ℕ) (bytes more : List ℕ) (verdict : Verdict) (output : List ℕ) → StopAt depth bytes verdict output
    → StopAt depth (bytes ++ more) verdict output
stop_later depth bytes more verdict output stop = record {
  before = stop.before;
  outputs = stop.outputs;
  fed = stop.fed;
  front = stop.front;
  rest = stop.rest ++ more;
  fault = stop.fault;
  count = stop.count;
  are = stop.are;
  told = stop.told;
  names = stop.names;
  begins_none = stop.begins_none;
  is = ap (λ (z : List ℕ). z ++ more) stop.is ∙ append_assoc stop.before (stop.fed ++ stop.rest) more
      ∙ ap (λ (z : List ℕ). stop.before ++ z) (append_assoc stop.fed stop.rest more);
  written = stop.written;
  said = stop.said;
}

many_later : (depth : ℕ) (bytes more output : List ℕ) → TooMany depth bytes output
    → TooMany depth (bytes ++ more) output
many_later depth bytes more output many = record {
  fed = many.fed;
  rest = many.rest ++ more;
  within = many.within;
  is = ap (λ (z : List ℕ). z ++ more) many.is ∙ append_assoc many.fed many.rest more;
  many = omega (arith, many.many, length-append bytes more);
}

-- The output of a piece, by why the copy stops in it.
output_of : (depth : ℕ) (most left : Option ℕ) (bytes more output : List ℕ)
    (stop : Option (Result (Unit {0}) Verdict)) (start : ℕ) (copier : ItemCopier)
    → Feeds depth most left bytes output stop start copier → IsOutput depth (bytes ++ more) output
unfolding many_later
output_of depth most left bytes more output None start copier feeds = within bytes more refl feeds.within
output_of depth most left bytes more output (Some (Ok done)) start copier feeds =
    whole_items feeds.count feeds.before (feeds.rest ++ more) feeds.are
    (ap (λ (z : List ℕ). z ++ more) feeds.is ∙ append_assoc feeds.before feeds.rest more)
output_of depth most left bytes more output (Some (Err v.TooLong)) start copier feeds =
    within feeds.fed (feeds.rest ++ more) (many_later depth bytes more output feeds).is feeds.within
output_of depth most left bytes more output (Some (Err verdict)) start copier feeds =
    stopped verdict (stop_later depth bytes more verdict output feeds)

-- The verdict names a place at which no item goes on.
abbrev IsStop : Verdict → Type 0
IsStop (v.Syntax place) = Unit {0}
IsStop (v.Break place) = Unit {0}
IsStop (v.Deep place) = Unit {0}
IsStop verdict = ⊥

said_stop : (start : ℕ) (fault : Fault) → IsStop (fault_said start fault)
said_stop start (f.Syntax place) = tt
said_stop start (f.Break place) = tt
said_stop start (f.Deep place) = tt

-- A number of copied items is at most the limit.
at_most : (most rest : Option ℕ) (count : ℕ) → IsLeft most rest count → IsAtMost most count
at_most None None count limit = tt
at_most (Some most) (Some rest) count limit = omega (arith, limit.0)
at_most None (Some rest) count limit = absurd limit
at_most (Some most) None count limit = absurd limit

module _ {R W : Type 0} (left : R → Option (List ℕ)) (got : W → Option (List ℕ)) (depth : ℕ) (most : Option ℕ)
    (due written : List ℕ) where
  -- The copy took `fed` and put out `given`, which is written. What the reader has comes next.
  pub record Held (rest_wanted : Option ℕ) (start read : ℕ) (copier : ItemCopier) (reader : R) (writer : W) : Type 0 where
    pub fed : List ℕ
    pub given : List ℕ
    pub rest : List ℕ
    pub stands : Stands depth most rest_wanted start fed given copier
    pub long : length fed ≡ read
    pub split : due ≡ fed ++ rest
    pub tells : left reader ≡ Some rest
    pub all : got writer ≡ Some (written ++ given)

  pub held_first : (rest_wanted : Option ℕ) (copier : ItemCopier) (reader : R) (writer : W)
      → Stands depth most rest_wanted 0 [] [] copier → left reader ≡ Some due → got writer ≡ Some written
      → Held rest_wanted 0 0 copier reader writer
  held_first rest_wanted copier reader writer stands tells all = record {
    fed = [];
    given = [];
    rest = due;
    stands = stands;
    long = refl;
    split = refl;
    tells = tells;
    all = all ∙ ap Some (sym (append-nil written));
  }

  module _ {rest_wanted : Option ℕ} {start read : ℕ} {copier : ItemCopier} {reader : R} {writer : W}
      (held : Held rest_wanted start read copier reader writer)
      (reader' : R) where
    pub read_failed : (error : Error) → Keeps (left reader) (left reader')
        → CopiesItems left got depth most due written (Err (v.Failed error)) reader' writer
    read_failed error keeps = (
      held.given,
      record {
        fed = held.fed;
        rest = held.rest;
        within = held.stands.within;
        is = held.split;
        tells = kept_known _ _ held.rest keeps held.tells;
      },
      held.all,
    )

    -- All items are whole if the next one would begin at the end.
    end_by : (ended : Bool) → (start == read) ≡ ended → due ≡ held.fed
        → CopiesItems left got depth most due written (cond ended (Ok tt) (Err (v.Short read))) reader' writer
    end_by true is all =
        let s = held.stands.within in
        let empty : s.part ≡ [] = length_zero s.part (omega (
          arith,
          eqb-true start read is,
          held.stands.start_is,
          held.long,
          ap (length {A = ℕ}) s.is,
          length-append s.before s.part,
        )) in
        let clear = none_out depth s.part s.front copier held.stands.copied empty in
        let whole : due ≡ s.before =
        all ∙ s.is ∙ ap (λ (z : List ℕ). s.before ++ z) empty ∙ append-nil s.before in
        let output : held.given ≡ s.outputs =
        s.written ∙ ap (λ (z : List ℕ). s.outputs ++ z) clear ∙ append-nil s.outputs in
        (held.given, all_copied (at_most most rest_wanted s.count held.stands.limit) (rw (whole, output) s.are), held.all)
    end_by false is all =
        let s = held.stands.within in (
          held.given,
          record {
            before = s.before;
            outputs = s.outputs;
            part = s.part;
            front = s.front;
            due = s.due;
            count = s.count;
            are = s.are;
            told = s.told;
            is = all ∙ s.is;
            written = s.written;
          },
          omega (
            arith,
            eqb-false start read is,
            held.stands.start_is,
            held.long,
            ap (length {A = ℕ}) s.is,
            length-append s.before s.part,
          ),
          sym held.long ∙ ap (length {A = ℕ}) (sym all),
          held.all,
        )

    module _ (bytes : List ℕ) (consumed : Consumes (left reader) (left reader') bytes) where
      known : (rest : List ℕ) × (left reader' ≡ Some rest) × (held.rest ≡ bytes ++ rest)
      known = consumed_known _ _ bytes held.rest consumed held.tells

      parted : due ≡ (held.fed ++ bytes) ++ known.0
      parted = held.split ∙ ap (λ (z : List ℕ). held.fed ++ z) known.2 ∙ sym (append_assoc held.fed bytes known.0)

      pub read_ended : bytes ≡ [] → IsAtEnd (left reader')
          → CopiesItems left got depth most due written (end_said start read) reader' writer
      read_ended empty end =
          let rest = end_known _ known.0 end known.1 in
          end_by (start == read) refl
          (parted ∙ ap (λ (z : List ℕ). (held.fed ++ bytes) ++ z) rest ∙ append-nil (held.fed ++ bytes)
          ∙ ap (λ (z : List ℕ). held.fed ++ z) empty ∙ append-nil held.fed)

      pub read_long : 2 ^ 64 ≤ read + length bytes
          → CopiesItems left got depth most due written (Err v.TooLong) reader' writer
      read_long many = (
        held.given,
        record {
          fed = held.fed;
          rest = held.rest;
          within = held.stands.within;
          is = held.split;
          many = omega (
            arith,
            many,
            held.long,
            ap (length {A = ℕ}) parted,
            length-append (held.fed ++ bytes) known.0,
            length-append held.fed bytes,
          );
        },
        held.all,
      )

      module _ (output : List ℕ) (stop : Option (Result (Unit {0}) Verdict)) (rest' : Option ℕ) (start' : ℕ)
          (copier' : ItemCopier) (writer' : W)
          (feeds : Feeds depth most rest' (held.fed ++ bytes) (held.given ++ output) stop start' copier') where
        -- A beginning of the output of the piece is written.
        pub send_failed : (error : Error) → TellsSome got (written ++ held.given) output writer'
            → CopiesItems left got depth most due written (Err (v.Output error)) reader' writer'
        send_failed error some = (
          held.given ++ output,
          rw parted (output_of depth most rest' (held.fed ++ bytes) known.0 (held.given ++ output) stop start' copier' feeds),
          record {
            front = held.given ++ some.front;
            lost = some.lost;
            parted = ap (λ (z : List ℕ). held.given ++ z) some.parted
                ∙ sym (append_assoc held.given some.front some.lost);
            tells = some.tells ∙ ap Some (append_assoc written held.given some.front);
          },
        )

        all_sent : TellsAll got (written ++ held.given) output writer'
            → TellsAll got written (held.given ++ output) writer'
        all_sent all = all ∙ ap Some (append_assoc written held.given output)

        stopped_by : (answer : Result (Unit {0}) Verdict)
            → Feeds depth most rest' (held.fed ++ bytes) (held.given ++ output) (Some answer) start' copier'
            → TellsAll got written (held.given ++ output) writer'
            → CopiesItems left got depth most due written answer reader' writer'
        stopped_by (Ok done) front sent = (
          held.given ++ output,
          enough_copied (record {
            count = front.count;
            enough = front.enough;
            before = front.before;
            rest = front.rest ++ known.0;
            are = front.are;
            is = parted ∙ ap (λ (z : List ℕ). z ++ known.0) front.is ∙ append_assoc front.before front.rest known.0;
          }),
          sent,
        )
        stopped_by (Err v.TooLong) many all = (held.given ++ output, rw parted (many_later depth _ known.0 _ many), all)
        stopped_by (Err (v.Syntax place)) stop all =
            (held.given ++ output, rw parted (stop_later depth _ known.0 _ _ stop), all)
        stopped_by (Err (v.Break place)) stop all =
            (held.given ++ output, rw parted (stop_later depth _ known.0 _ _ stop), all)
        stopped_by (Err (v.Deep place)) stop all =
            (held.given ++ output, rw parted (stop_later depth _ known.0 _ _ stop), all)
        stopped_by (Err verdict) stop all = absurd (subst IsStop (sym stop.said) (said_stop _ stop.fault))

        -- The copy stops in the piece.
        pub stops : (answer : Result (Unit {0}) Verdict) → stop ≡ Some answer
            → TellsAll got (written ++ held.given) output writer'
            → CopiesItems left got depth most due written answer reader' writer'
        stops answer is all =
            stopped_by answer (subst (λ (z : Option (Result (Unit {0}) Verdict)). Feeds depth most rest'
            (held.fed ++ bytes) (held.given ++ output) z start' copier') is feeds) (all_sent all)

        -- The copy goes on after the piece.
        pub held_next : stop ≡ None → TellsAll got (written ++ held.given) output writer'
            → Held rest' start' (read + length bytes) copier' reader' writer'
        held_next is all = record {
          fed = held.fed ++ bytes;
          given = held.given ++ output;
          rest = known.0;
          stands = subst (λ (z : Option (Result (Unit {0}) Verdict)). Feeds depth most rest' (held.fed ++ bytes)
              (held.given ++ output) z start' copier') is feeds;
          long = omega (arith, held.long, length-append held.fed bytes);
          split = parted;
          tells = known.1;
          all = all_sent all;
        }

-- ---- answers that hand on an error

pub read_refused : (read : Result ℕ Error) (answer : Result ℕ Verdict) (error : Verdict) → answer ≡ Err error
    → MatchResult read (λ some. answer ≡ Ok some) (λ fault. IsErrAnd answer (λ error. error ≡ v.Failed fault))
    → (fault : Error) × (read ≡ Err fault) × (error ≡ v.Failed fault)
read_refused read answer error is cases = grind arith

pub send_refused : (sent : Result (Unit {0}) Error) (answer : Result (Unit {0}) Verdict) (error : Verdict)
    → answer ≡ Err error
    → MatchResult sent (λ done. answer ≡ Ok done) (λ fault. IsErrAnd answer (λ error. error ≡ v.Output fault))
    → (fault : Error) × (sent ≡ Err fault) × (error ≡ v.Output fault)
send_refused sent answer error is cases = grind arith

pub exit_is : {T E : Type 0} (answer : Result T E) (error : E) → IsErrAnd answer (λ given. given ≡ error)
    → answer ≡ Err error
exit_is answer error is = grind arith
