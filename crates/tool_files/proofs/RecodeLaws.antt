-- A copy of items, from one piece of a copier to the next.
use Rattle.std.proofs.Common.{◌≡◌, ℕ, ◌+◌, ◌-◌, ◌<◌, ◌≤◌, ◌⊎◌, inl, inr, List, [], ◌∷◌, ◌++◌}
use Rattle.std.proofs.Common.{length, refl, sym, ap, subst, ◌∙◌, arith, append_assoc, append-nil, length-append}
use Rattle.std.proofs.Common.{take, drop, Option, Some, None, Err, rules}
use Rattle.std.specs.Io.KnownBytes.{Appends, Consumes, IsAtEnd, Keeps}
use Rattle.std.proofs.lemmas.Bool.Decides.{nat_tests}
use Rattle.std.proofs.lemmas.List.{take-append-drop, take_rest}
use Rattle.std.proofs.Math.Seq.{take-add, take-length}
use Rattle.ciborium_ll_grammar.specs.declared.spelling.Spelling.TheVariants.{Any}
use Rattle.cbor_checker.specs.declared.phase.Fault.{Fault}
use Rattle.cbor_checker.specs.declared.phase.Fault.TheVariants as f
use Rattle.cbor_checker.specs.declared.progress.Progress.{Progress as Checked}
use Rattle.cbor_checker.specs.declared.progress.Progress.TheVariants as c
use Rattle.cbor_checker.specs.Checking.{Answers, HasRead}
use Rattle.cbor_checker.specs.Reading.{GoesOn, LacksAtLeast}
use Rattle.cbor_checker.specs.Spots.{Spot}
use Rattle.cbor_checker.specs.Steps as checks
use Rattle.cbor_checker.specs.Telling as checker
use Rattle.cbor_copier.specs.Steps as copies
use Rattle.cbor_item_copier.specs.declared.copier.ItemCopier.{ItemCopier}
use Rattle.cbor_item_copier.specs.declared.progress.Progress.{Progress}
use Rattle.cbor_item_copier.specs.declared.progress.Progress.TheVariants as r
use Rattle.cbor_item_copier.specs.Copying as item
use Rattle.cbor_item_copier.specs.Copying.{elements_spot, held, item_spot, most, pending}
use Rattle.cbor_item_copier.specs.Reading.{IsRoom, Tells, TellsWhole}
use Rattle.cbor_item_copier.specs.Telling.{of_checker, progress_of}
use Rattle.cbor_item_copier.proofs.ReadLaws.{few_held, fresh_clear}
use Rattle.cbor_item_copier.proofs.StateLaws.{fresh_fed, one_fed}
use Rattle.cbor_item_copier.proofs.TellLaws.{copier_tells, more_due}
use Rattle.tool_files.specs.Recodes.{AreRespelled, EndWithin, Names, StopAt, Stands, TooMany, fault_place}
use Rattle.tool_files.specs.Recodes.{CopiesFront, Feeds, IsLeft, TellsSome, fault_said, more}
use Rattle.tool_verdicts.specs.declared.verdict.Verdict.{Verdict}
use Rattle.tool_files.proofs.RecodeItems.{fault_begins_none}
use Rattle.tool_files.proofs.RecodePlaces.{place_read}

-- ---- before the first byte

-- The states before the first byte of an item, and the output.
fresh_spots : (depth : ℕ) (copier : ItemCopier) → item.HasCopied Any depth [] [] copier
    → (item_spot copier ≡ checks.start Any depth) × (elements_spot copier ≡ copies.start Any most)
    × (pending copier ≡ [])
unfolding item.HasCopied
fresh_spots depth copier was =
    one_fed Any depth [] (pending copier) [] (item_spot copier) (checks.start Any depth) (elements_spot copier)
    (copies.start Any most) was
    (fresh_fed Any depth (checks.start Any depth) (copies.start Any most) [] checks.fresh copies.fresh)

fresh_due : (depth : ℕ) (bytes : List ℕ) (spot : Spot) → bytes ≡ [] → spot ≡ checks.start Any depth
    → r.More 1 ≡ progress_of bytes spot
fresh_due depth bytes spot given start = rw (given, start) refl

-- A copy of items stands at the start of an item, after these items.
pub fresh_stands : (depth : ℕ) (most left : Option ℕ) (start count : ℕ) (items outputs : List ℕ) (copier : ItemCopier)
    → item.HasCopied Any depth [] [] copier → AreRespelled depth count items outputs → start ≡ length items
    → IsLeft most left count → Stands depth most left start items outputs copier
unfolding item.HasCopied
fresh_stands depth most left start count items outputs copier was are is limit =
    let spots = fresh_spots depth copier was in
    let told = copier_tells copier (r.More 1) (fresh_due depth (pending copier) (item_spot copier) spots.2 spots.0)
    Any depth [] [] was in
    record {
      within = record {
        before = items;
        outputs = outputs;
        part = [];
        front = [];
        due = 1;
        count = count;
        are = are;
        told = told;
        is = sym (append-nil items);
        written = sym (append-nil outputs);
      };
      copied = was;
      none = spots.2;
      start_is = is;
      limit = limit;
    }

-- Nothing is held back before the first byte.
pub fresh_held : (depth : ℕ) (copier : ItemCopier) → item.HasCopied Any depth [] [] copier → held copier ≡ 0
fresh_held depth copier was = (fresh_clear Any depth [] copier was).2

-- If nothing is pending, at most eight bytes are held back.
pub few : (copier : ItemCopier) → pending copier ≡ [] → held copier ≤ 8
few copier given = few_held copier given

-- ---- after a piece of a copier

-- The fault of an answer is that of the checker.
named : (bytes : List ℕ) (spot : Spot) (fault : Fault) → r.Fault fault ≡ progress_of bytes spot
    → checker.progress_of spot ≡ c.Fault fault
named [] spot fault is = of_fault (checker.progress_of spot) is
  where
    of_fault : (progress : Checked) → r.Fault fault ≡ of_checker progress → progress ≡ c.Fault fault
    of_fault (c.Fault found) same = cc
    of_fault (c.More due) same = absurd cc
    of_fault (c.Ended len) same = absurd cc
    of_fault c.TooLong same = absurd cc
named (byte ∷ bytes) spot fault is = absurd cc

-- An item that goes on lacks at least one byte.
lacks_one : {depth : ℕ} (bytes : List ℕ) → GoesOn Any depth bytes → LacksAtLeast Any depth bytes 1
lacks_one bytes on [] is = absurd (on.unended (rw append-nil at is))
lacks_one bytes on (x ∷ behind) is = omega arith

module _ (depth : ℕ) (most left : Option ℕ) (start : ℕ) (fed given : List ℕ) (old new : ItemCopier)
    (stands : Stands depth most left start fed given old)
    (bytes out : List ℕ) (progress : Progress)
    (copied : item.HasCopied Any depth (stands.within.part ++ bytes) (stands.within.front ++ out) new)
    (tells : Tells Any depth (stands.within.part ++ bytes) (stands.within.front ++ out) progress)
    (answers : item.AnswersPiece new progress) where
  all_fed : fed ++ bytes ≡ stands.within.before ++ (stands.within.part ++ bytes)
  all_fed = ap (λ (z : List ℕ). z ++ bytes) stands.within.is
      ∙ append_assoc stands.within.before stands.within.part bytes

  all_given : given ++ out ≡ stands.within.outputs ++ (stands.within.front ++ out)
  all_given = ap (λ (z : List ℕ). z ++ out) stands.within.written
      ∙ append_assoc stands.within.outputs stands.within.front out

  end_within : (due : ℕ)
      → TellsWhole Any depth (stands.within.part ++ bytes) (stands.within.front ++ out) (r.More due)
      → EndWithin depth (fed ++ bytes) (given ++ out)
  end_within due told = record {
    before = stands.within.before;
    outputs = stands.within.outputs;
    part = stands.within.part ++ bytes;
    front = stands.within.front ++ out;
    due = due;
    count = stands.within.count;
    are = stands.within.are;
    told = told;
    is = all_fed;
    written = all_given;
  }

  -- More bytes of the item are due.
  pub stands_on : (due : ℕ) → progress ≡ r.More due → Stands depth most left start (fed ++ bytes) (given ++ out) new
  unfolding end_within item.Answers
  stands_on due is =
      let answer : r.More due ≡ progress_of (pending new) (item_spot new) =
      subst (item.AnswersPiece new) is answers in
      let told = subst (Tells Any depth (stands.within.part ++ bytes) (stands.within.front ++ out)) is tells in
      record {
        within = end_within due told;
        copied = copied;
        none = (more_due (pending new) (item_spot new) due answer).0;
        start_is = stands.start_is;
        limit = stands.limit;
      }

  -- The item has ended.
  pub one_more : (len : ℕ) → progress ≡ r.Ended len
      → AreRespelled depth (stands.within.count + 1) (fed ++ bytes) (given ++ out)
  one_more len is =
      let told = subst (Tells Any depth (stands.within.part ++ bytes) (stands.within.front ++ out)) is tells in
      rw (all_fed, all_given) (more stands.within.are told.0.0 told.1)

  -- An item that ends takes a byte.
  pub some_taken : (len : ℕ) → progress ≡ r.Ended len → 0 < length bytes
  some_taken len is =
      let told = subst (Tells Any depth (stands.within.part ++ bytes) (stands.within.front ++ out)) is tells in
      let due = stands.within.told.0 in
      omega (arith, due.1, due.2 bytes told.0.0)

  -- The checker names the fault.
  pub names : (fault : Fault) → progress ≡ r.Fault fault → Names depth (stands.within.part ++ bytes) fault
  unfolding HasRead Answers item.Answers item.HasCopied
  names fault is =
      let answer : r.Fault fault ≡ progress_of (pending new) (item_spot new) =
      subst (item.AnswersPiece new) is answers in
      record {
        checker = new.checker;
        has_read = copied.checked;
        answers = sym (named (pending new) (item_spot new) fault answer);
      }

  -- The place of the fault is within the bytes so far.
  pub place_fits : (fault : Fault) → progress ≡ r.Fault fault → fault_place fault + start ≤ length (fed ++ bytes)
  place_fits fault is =
      let found = names fault is in
      omega (
        arith,
        place_read Any depth (stands.within.part ++ bytes) found.checker fault found.has_read found.answers,
        stands.start_is,
        ap (length {A = ℕ}) all_fed,
        length-append stands.within.before (stands.within.part ++ bytes),
      )

  -- No item goes on from these bytes.
  pub stop_at : (fault : Fault) (verdict : Verdict) (all rest : List ℕ) → progress ≡ r.Fault fault
      → verdict ≡ fault_said start fault → all ≡ (fed ++ bytes) ++ rest → StopAt depth all verdict (given ++ out)
  stop_at fault verdict all rest is said whole = record {
    before = stands.within.before;
    outputs = stands.within.outputs;
    fed = stands.within.part ++ bytes;
    front = stands.within.front ++ out;
    rest = rest;
    fault = fault;
    count = stands.within.count;
    are = stands.within.are;
    told = subst (Tells Any depth (stands.within.part ++ bytes) (stands.within.front ++ out)) is tells;
    names = names fault is;
    begins_none = fault_begins_none depth stands.within.count stands.within.before stands.within.outputs (stands.within.part ++ bytes)
        (stands.within.front ++ out) fault stands.within.are
        (subst (Tells Any depth (stands.within.part ++ bytes) (stands.within.front ++ out)) is tells)
        (names fault is);
    is = whole ∙ ap (λ (z : List ℕ). z ++ rest) all_fed
        ∙ append_assoc stands.within.before (stands.within.part ++ bytes) rest;
    written = all_given;
    said = said ∙ ap (λ (z : ℕ). fault_said z fault) stands.start_is;
  }

  -- No more bytes can be counted.
  pub too_many : (all rest : List ℕ) → progress ≡ r.TooLong → 0 < length rest → all ≡ (fed ++ bytes) ++ rest
      → TooMany depth all (given ++ out)
  too_many all rest is some whole =
      let long = subst (Tells Any depth (stands.within.part ++ bytes) (stands.within.front ++ out)) is tells in
      let on : GoesOn Any depth (stands.within.part ++ bytes) = long.0.0 in
      record {
        fed = fed ++ bytes;
        rest = rest;
        within = end_within 1 ((on, omega arith, lacks_one (stands.within.part ++ bytes) on), long.1);
        is = whole;
        many = omega (
          arith,
          some,
          long.0.1,
          ap (length {A = ℕ}) whole,
          length-append (fed ++ bytes) rest,
          ap (length {A = ℕ}) all_fed,
          length-append stands.within.before (stands.within.part ++ bytes),
        );
      }

-- Before the first item all items that are wanted are left.
pub first_left : (most : Option ℕ) → (most ≡ Some 0 → ⊥) → IsLeft most most 0
first_left None some = tt
first_left (Some most) some = (omega arith, grind (arith, nat_tests, some))

-- As many items as are wanted were copied.
pub front_copied : (depth : ℕ) (most : Option ℕ) (count : ℕ) (before rest bytes output : List ℕ) → most ≡ Some count
    → AreRespelled depth count before output → bytes ≡ before ++ rest → CopiesFront depth most bytes output
front_copied depth most count before rest bytes output enough are is = record {
  count = count;
  enough = enough;
  before = before;
  rest = rest;
  are = are;
  is = is;
}

-- If there is room, the answer is `TooLong`.
pub only_long : (progress : Progress) → (progress ≡ r.Room) ⊎ (progress ≡ r.TooLong) → (IsRoom progress → ⊥)
    → progress ≡ r.TooLong
only_long progress (inl is) room = absurd (room (rw is tt))
only_long progress (inr is) room = is

-- ---- a piece of the input, from a place on

-- The bytes that a copier took are the next bytes of the piece.
pub fed_more : (fed piece : List ℕ) (at taken : ℕ)
    → (fed ++ take at piece) ++ take taken (take (length piece - at) (drop at piece)) ≡ fed ++ take (at + taken) piece
fed_more fed piece at taken = rw (append_assoc, take_rest piece at, take-add at taken piece) refl

-- The bytes after them are the rest of the piece.
pub fed_rest : (fed piece : List ℕ) (at : ℕ) → fed ++ piece ≡ (fed ++ take at piece) ++ drop at piece
fed_rest fed piece at =
    ap (λ (z : List ℕ). fed ++ z) (sym (take-append-drop at piece))
    ∙ sym (append_assoc fed (take at piece) (drop at piece))

-- A whole piece was taken.
pub fed_all : (fed piece : List ℕ) (at : ℕ) → at ≡ length piece → fed ++ take at piece ≡ fed ++ piece
fed_all fed piece at is = ap (λ (z : List ℕ). fed ++ z) (ap (λ (n : ℕ). take n piece) is ∙ take-length piece)

-- A fault stops the copy.
pub feeds_stop : (depth : ℕ) (most left : Option ℕ) (bytes given : List ℕ) (from : ℕ) (fault : Fault) (verdict : Verdict) (start : ℕ)
    (copier : ItemCopier) → verdict ≡ fault_said from fault → StopAt depth bytes verdict given
    → Feeds depth most left bytes given (Some (Err verdict)) start copier
feeds_stop depth most left bytes given from (f.Syntax place) verdict start copier is stop = rw is (rw is at stop)
feeds_stop depth most left bytes given from (f.Break place) verdict start copier is stop = rw is (rw is at stop)
feeds_stop depth most left bytes given from (f.Deep place) verdict start copier is stop = rw is (rw is at stop)

-- ---- what the reader and the writer tell

-- Known bytes that begin with these.
pub consumed_known : (old new : Option (List ℕ)) (bytes rest : List ℕ) → Consumes old new bytes → old ≡ Some rest
    → (rest' : List ℕ) × (new ≡ Some rest') × (rest ≡ bytes ++ rest')
consumed_known None new bytes rest is known = absurd cc
consumed_known (Some xs) None bytes rest is known = absurd is
consumed_known (Some xs) (Some ys) bytes rest is known = (ys, refl, search rules)

pub kept_known : (old new : Option (List ℕ)) (rest : List ℕ) → Keeps old new → old ≡ Some rest → new ≡ Some rest
kept_known None new rest keeps known = absurd cc
kept_known (Some xs) None rest keeps known = absurd keeps
kept_known (Some xs) (Some ys) rest keeps known = ap Some keeps ∙ known

pub end_known : (known : Option (List ℕ)) (rest : List ℕ) → IsAtEnd known → known ≡ Some rest → rest ≡ []
end_known None rest end is = absurd cc
end_known (Some xs) rest end is = search rules

-- Known bytes to which these were appended.
appended_known : (old new : Option (List ℕ)) (bytes written : List ℕ) → Appends old new bytes
    → old ≡ Some written → new ≡ Some (written ++ bytes)
appended_known None new bytes written is known = absurd cc
appended_known (Some xs) None bytes written is known = absurd is
appended_known (Some xs) (Some ys) bytes written is known = search rules

-- A writer got a beginning of these bytes.
pub some_written : {W : Type 0} (got : W → Option (List ℕ)) (written bytes : List ℕ) (old writer : W) (count : ℕ)
    → got old ≡ Some written → Appends (got old) (got writer) (take count bytes) → TellsSome got written bytes writer
some_written got written bytes old writer count known part = record {
  front = take count bytes;
  lost = drop count bytes;
  parted = sym (take-append-drop count bytes);
  tells = appended_known _ _ (take count bytes) written part known;
}
