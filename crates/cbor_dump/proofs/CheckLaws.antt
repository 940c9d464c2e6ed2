-- A dump reads as a check does. It stops at the same fault as a check, with the same error.
use Rattle.std.proofs.lemmas.Bool.Decides.{nat_tests}
use Rattle.std.proofs.Common.{◌≡◌, ℕ, zero, suc, ◌+◌, ◌-◌, ◌<◌, ◌≤◌, Bool, false, List, [], ◌++◌, length}
use Rattle.std.proofs.Common.{Result, Ok, Err, IsOk, ◌↔◌, refl, sym, ap, subst, ◌∙◌, inl, inr, arith}
use Rattle.std.proofs.Common.{append_assoc, append-nil}
use Rattle.ciborium_ll_grammar.specs.declared.spelling.Spelling.{Spelling}
use Rattle.ciborium_ll.specs.Types.Read.{Ghosts}
use Rattle.ciborium_ll.specs.Types.Header.{Header}
use Rattle.ciborium_ll.specs.Types.Header.TheVariants as h
use Rattle.ciborium_ll.specs.Types.Decoder.{Decoder}
use Rattle.ciborium_ll.specs.Types.Error.{Error}
use Rattle.ciborium_ll.specs.Title.{IsTitle}
use Rattle.ciborium_ll.specs.Items.{AreItems, no_items, IsItem, IsTakenTitle}
use Rattle.ciborium_ll.specs.Decoding.{IsSteady, ReadsPast, DecoderPullAnswer, PullsTitle, spelling_of}
use Rattle.ciborium_ll.proofs.DecodingLaws.{ReadsPast-none, ReadsPast-then}
use Rattle.cbor_skip.specs.declared.SkipError.{SkipError}
use Rattle.cbor_skip.specs.declared.SkipError.TheVariants as s
use Rattle.cbor_skip.specs.Due.{TakesMore, may_close, ItemDue, here, within}
use Rattle.cbor_skip.specs.Skipping.{StopsDue, StopsItem, allowed_by}
use Rattle.ciborium_ll.specs.Premises.{CanRead}
use Rattle.cbor_dump.specs.declared.dump.DumpError.{DumpError}
use Rattle.cbor_dump.specs.declared.dump.DumpError.TheVariants as d
use Rattle.cbor_dump.specs.declared.sequence.Sequence.{Sequence}
use Rattle.cbor_dump.specs.declared.sequence.Stopped.{Stopped}
use Rattle.cbor_dump.specs.declared.walk.Walk.{Walk}
use Rattle.cbor_dump.specs.Takings.{ThroughSomeRoom, IsInMode, most_bytes}
use Rattle.cbor_dump.specs.Levels.{Nest, StandsBehind, outside, inside, closes_one}
use Rattle.cbor_dump.specs.Dumps.{AreRowsTaken, IsEndOf, IsErrorOfItem, EndsTitles}
use Rattle.cbor_dump.specs.Walks.{IsDue, IsDueBehind, whole_behind}
use Rattle.cbor_dump.specs.TitleRows.{EndsAtTitle}
use Rattle.cbor_dump.specs.Sequences.{IsSequence, IsEnd}
use Rattle.cbor_dump.specs.Checking.{AnswersAs, AnswersTold, ReadsAsCheck}
use Rattle.cbor_dump.proofs.SequenceLaws.{one_more, check_told, check_exactly}
use Rattle.cbor_dump.proofs.TitleLaws.{Comes, walk_ended, nests_few}
use Rattle.cbor_dump.proofs.WalkLaws.{due_first}
use Rattle.cbor_dump.proofs.PullLaws.{passes_alike}
use Rattle.cbor_skip.proofs.StrictnessLaws.{strict_settled}

-- ---- an item is due

-- An item is due, and the title of a nest and some of its items come. If the nest takes more, an item is due within it.
deepen : {allowed : Spelling} {outer closable : Bool} {depth levels : ℕ} {bytes : List ℕ}
    → ItemDue allowed outer depth bytes levels closable → (deeper count : ℕ) (title items : List ℕ) (header : Header)
    → levels ≡ suc deeper → IsTitle title header → IsTakenTitle allowed title header
    → TakesMore header count → AreItems allowed deeper count items
    → ItemDue allowed outer depth (bytes ++ (title ++ items)) deeper (may_close header count)
deepen {allowed = allowed} {outer = outer} {depth = depth} here deeper count title items header same p g more are =
    let one : ItemDue allowed outer (suc deeper) (title ++ (items ++ [])) deeper (may_close header count) =
    within p g more are here in
    subst (λ (n : ℕ). ItemDue allowed outer n (title ++ items) deeper (may_close header count)) (sym same)
    (subst (λ (z : List ℕ). ItemDue allowed outer (suc deeper) (title ++ z) deeper (may_close header count))
    (append-nil items) one)
deepen {allowed = allowed} {outer = outer} {depth = depth}
    (within {title = t} {items = i} {more = m} p' g' more' are' inner) deeper count title items header same p g more
    are =
    subst (λ (z : List ℕ). ItemDue allowed outer depth z deeper (may_close header count))
    (sym (append_assoc t (i ++ m) (title ++ items)
    ∙ ap (λ (z : List ℕ). t ++ z) (append_assoc i m (title ++ items))))
    (within p' g' more' are' (deepen inner deeper count title items header same p g more are))

no_item : (allowed : Spelling) (depth : ℕ) (items : List ℕ) → AreItems allowed depth 0 items → items ≡ []
no_item allowed depth items no_items = refl

-- An item that is due within nests, listed from the innermost, is due within them from the outermost too.
pub stands_due : (allowed : Spelling) (depth : ℕ) (nests : List Nest) (bytes : List ℕ)
    → StandsBehind allowed depth 0 nests bytes → (levels : ℕ) → length nests + levels ≡ depth
    → ItemDue allowed false depth bytes levels (closes_one nests 0)
stands_due allowed depth nests bytes (outside are) levels left =
    let same : depth ≡ levels = omega (arith, left) in
    subst (λ (n : ℕ). ItemDue allowed false depth bytes n false) same
    (subst (λ (z : List ℕ). ItemDue allowed false depth z depth false) (sym (no_item allowed depth bytes are)) here)
stands_due allowed depth nests bytes
    (inside {levels = l} {count = n} {nests = outer} {before = b} {title = t} {items = i} {header = x} w e p g more are)
    levels left =
    let same : l ≡ levels = omega (arith, e, left) in
    subst (λ (k : ℕ). ItemDue allowed false depth (b ++ (t ++ i)) k (may_close x n)) same
    (deepen (stands_due allowed depth outer b w (suc l) e) l n t i x refl p g more are)

-- There are at most as many nests as levels.
stands_few : (allowed : Spelling) (depth : ℕ) (nests : List Nest) (bytes : List ℕ)
    → StandsBehind allowed depth 0 nests bytes → length nests + (depth - length nests) ≡ depth
stands_few allowed depth nests bytes p = grind (arith, nat_tests)

-- ---- answers

both_ok : {E W : Type 0} (checked : Result (Sequence E) (Stopped E)) (result : Result E (DumpError E W))
    → AnswersAs checked result → IsOk result → IsOk checked
both_ok checked result p q = grind (arith, nat_tests)

ok_both : {E W : Type 0} (checked : Result (Sequence E) (Stopped E)) (result : Result E (DumpError E W))
    → AnswersAs checked result → IsOk checked → IsOk result
ok_both checked result p q = grind (arith, nat_tests)

-- If bytes were read, the error is not the end.
further : {R E : Type 0} (error : SkipError E) (between new : Decoder R) → between.offset < new.offset
    → IsEnd error between.offset new.offset → ⊥
further error between new p q = grind (arith, nat_tests)

-- A decoder in the mode of the dump is as strict as the dump.
strict_alike : {R : Type 0} (allowed : Spelling) (decoder : Decoder R) → IsInMode allowed decoder
    → allowed_by decoder ≡ allowed
strict_alike allowed decoder alike = grind (arith, nat_tests, strict_settled)

module _ {R E : Type 0} (source : Ghosts R E) where
  -- ---- the walk of a dump

  pub comes_first : (allowed : Spelling) (depth : ℕ) (walk : Walk) (decoder : Decoder R) → IsDue allowed depth 0 walk []
      → IsInMode allowed decoder → Comes source allowed depth walk decoder decoder
  comes_first allowed depth walk decoder due alike = record {
    count = 0;
    between = decoder;
    reads = record { bytes = []; are_items = no_items; passed = ReadsPast-none source decoder };
    bytes = [];
    passed = ReadsPast-none source decoder;
    due = due;
    alike = alike;
  }

  -- A title and the bytes after it were read, and an item is due after them.
  comes_by : (allowed : Spelling) (depth used : ℕ) (walk new_walk : Walk) (old now new : Decoder R)
      (come : Comes source allowed depth walk old now) → (more : List ℕ) → ReadsPast source now more new
      → new_walk.used ≡ used → IsDueBehind allowed depth 0 new_walk (come.bytes ++ more)
      → Comes source allowed depth new_walk old new
  comes_by allowed depth zero walk new_walk old now new come more passed same due =
      let all = come.bytes ++ more in
      let whole : IsDue allowed depth 1 new_walk all =
      subst (λ (n : ℕ). IsDue allowed depth (whole_behind 0 n) new_walk all) same due in
      let items = walk_ended allowed depth 1 new_walk all whole same in
      let behind = ReadsPast-then source come.between now new come.bytes more come.passed passed in
      let items' = subst (λ (b : Spelling). IsItem b depth all) (sym (strict_alike allowed come.between come.alike))
      items in
      record {
        count = suc come.count;
        between = new;
        reads = one_more source depth come.count old come.between new come.reads
            (record { item = all; is_item = items'; passed = behind });
        bytes = [];
        passed = ReadsPast-none source new;
        due = due_first allowed depth new_walk same whole.keeps.same_depth whole.keeps.room whole.keeps.wide;
        alike = passes_alike source allowed come.between new all behind come.alike;
      }
  comes_by allowed depth (suc used) walk new_walk old now new come more passed same due = record {
    count = come.count;
    between = come.between;
    reads = come.reads;
    bytes = come.bytes ++ more;
    passed = ReadsPast-then source come.between now new come.bytes more come.passed passed;
    due = subst (λ (n : ℕ). IsDue allowed depth (whole_behind 0 n) new_walk (come.bytes ++ more)) same due;
    alike = come.alike;
  }

  pub comes_next : (allowed : Spelling) (depth : ℕ) (walk new_walk : Walk) (old now titled new : Decoder R)
      (come : Comes source allowed depth walk old now) (row bytes : List ℕ) → ReadsPast source now row titled
      → ReadsPast source titled bytes new → IsDueBehind allowed depth 0 new_walk (come.bytes ++ (row ++ bytes))
      → Comes source allowed depth new_walk old new
  comes_next allowed depth walk new_walk old now titled new come row bytes one two due =
      comes_by allowed depth new_walk.used walk new_walk old now new come (row ++ bytes)
      (ReadsPast-then source now titled new row bytes one two) refl due

  pub comes_alike : (allowed : Spelling) (depth : ℕ) (walk : Walk) (old now : Decoder R)
      → Comes source allowed depth walk old now → IsInMode allowed now
  comes_alike allowed depth walk old now come = grind (arith, nat_tests, passes_alike)

  -- ---- how the dump stops

  module _ (allowed : Spelling) (depth : ℕ) (walk : Walk) (old now : Decoder R)
      (come : Comes source allowed depth walk old now) where
    -- A read that stops within these nests stops the read of the item that contains them.
    stops_in : (room : ℕ) (nests : List Nest) → StandsBehind allowed depth 0 nests come.bytes → (levels : ℕ)
        → length nests + levels ≡ depth → (error : SkipError E) (new : Decoder R)
        → StopsDue source levels (closes_one nests 0) room now error new
        → StopsItem source false depth room come.between error new
    stops_in room nests stands levels left error new stops = record {
      bytes = come.bytes;
      levels = levels;
      closable = closes_one nests 0;
      due = subst (λ (b : Spelling). ItemDue b false depth come.bytes levels (closes_one nests 0))
          (sym (strict_alike allowed come.between come.alike))
          (stands_due allowed depth nests come.bytes stands levels left);
      between = now;
      passed = come.passed;
      stops = stops;
    }

    -- If the error does not end the dump, it is not the end of a sequence.
    not_ended : (error : Error E) (len : ℕ) (new : Decoder R) → new.offset ≡ now.offset + len
        → (IsEndOf error walk.used len → ⊥) → IsEnd (s.Read error) come.between.offset new.offset → ⊥
    not_ended error len new p q r = grind (arith, nat_tests, nat_tests, nests_few)

    -- If the read of a title fails, the dump reads as a check does.
    pub comes_end : {W : Type 0} (error : Error E) (len : ℕ) (new : Decoder R) (result : Result E (DumpError E W))
        → walk.used ≤ depth → DecoderPullAnswer source now (Err error) new → new.offset ≡ now.offset + len
        → EndsTitles error walk.used len result → AreRowsTaken result
        → ReadsAsCheck source depth old result new
    comes_end error len new (Ok fault) few fails moved says taken =
        let used = come.due.keeps.used in
        let items = walk_ended allowed depth 0 walk come.bytes come.due says.1 in
        let none = no_item allowed depth come.bytes items in
        let stopped = stops_in most_bytes come.due.nests come.due.within (depth - length come.due.nests)
        (omega (arith, used, few)) (s.Read error) new (inl fails) in
        let counted = ap length none in
        let at = come.passed.offset in
        let here = says.2 in
        record {
          checked = Ok (record { items = come.count; bytes = length come.reads.bytes; «end» = fault });
          answers = refl;
          checks = record {
            room = most_bytes;
            held = omega arith;
            holds = record {
              between = come.between;
              reads = come.reads;
              counted = refl;
              fails = subst (λ (x : Error E). StopsItem source false depth most_bytes come.between (s.Read x) new)
                  says.0 stopped;
              still = omega (arith, moved, counted, at, here);
            };
          };
        }
    comes_end error len new (Err (d.Item why)) few fails moved says taken =
        let used = come.due.keeps.used in
        let stopped = stops_in most_bytes come.due.nests come.due.within (depth - length come.due.nests)
        (omega (arith, used, few)) (s.Read error) new (inl fails) in
        record {
          checked = Err (record { items = come.count; place = come.between.offset; error = why });
          answers = refl;
          checks = record {
            room = most_bytes;
            held = omega arith;
            holds = record {
              between = come.between;
              reads = come.reads;
              place = refl;
              fails = subst (λ (x : SkipError E). StopsItem source false depth most_bytes come.between x new)
                  (sym says.0) stopped;
              no_end = λ is_end. not_ended error len new moved says.1
                  (subst (λ (x : SkipError E). IsEnd x come.between.offset new.offset) says.0 is_end);
            };
          };
        }
    comes_end error len new (Err (d.Rows fault)) few fails moved says taken = absurd taken

    -- A check through a buffer of some room stops with this error, at a title or within a string.
    abbrev Stops : SkipError E → Decoder R → Type 0
    Stops error new = ThroughSomeRoom (λ room. StopsItem source false depth room come.between error new)

    title_stops : (error : SkipError E) (W : Type 0) (header : Header) (place : ℕ) (titled new : Decoder R)
        → PullsTitle source now header titled → (IsSteady source now → IsSteady source titled) → place ≡ now.offset
        → EndsAtTitle {R = R} {E = E} {W = W} source allowed depth 0 header place come.bytes titled
        (Err (d.Item error)) new
        → Stops error new
    title_stops (s.Read error) W header place titled new pulled steady at stops =
        let due = stops.2 in
        let fails = stops.3 in
        record {
          room = fails.room;
          held = fails.held;
          holds = stops_in fails.room due.nests due.within (depth - length due.nests)
              (stands_few allowed depth due.nests come.bytes due.within)
              (s.Read error) new (inr (record {
                kind = stops.0;
                len = stops.1;
                titled = titled;
                pulled = subst (λ (x : Header). PullsTitle source now x titled) due.is pulled;
                steady = steady;
                fails = fails.holds;
              }));
        }
    title_stops (s.Break at) W header place titled new pulled steady same stops =
        let due = stops.0 in
        record {
          room = most_bytes;
          held = omega arith;
          holds = stops_in most_bytes due.nests due.within (depth - length due.nests)
              (stands_few allowed depth due.nests come.bytes due.within)
              (s.Break at) new (record {
                not_closable = due.not_closable;
                place = stops.2 ∙ same;
                pulled = subst (λ (x : Decoder R). PullsTitle source now h.Break x) (sym stops.3)
                    (subst (λ (x : Header). PullsTitle source now x titled) stops.1 pulled);
              });
        }
    title_stops (s.Deep at) W header place titled new pulled steady same stops =
        let due = stops.0 in
        record {
          room = most_bytes;
          held = omega arith;
          holds = stops_in most_bytes due.nests due.within 0 (let full = due.full in omega (arith, full)) (s.Deep at) new
              (record {
                none_left = refl;
                place = stops.2 ∙ same;
                header = header;
                is_nest = stops.1;
                pulled = subst (λ (x : Decoder R). PullsTitle source now header x) (sym stops.3) pulled;
              });
        }

    pub comes_title : {W : Type 0} (error : DumpError E W) (header : Header) (place : ℕ) (titled new : Decoder R)
        → PullsTitle source now header titled → (IsSteady source now → IsSteady source titled) → place ≡ now.offset
        → titled.offset ≤ new.offset → now.offset < titled.offset
        → EndsAtTitle source allowed depth 0 header place come.bytes titled (Err error) new → IsErrorOfItem error
        → ReadsAsCheck source depth old (Err error) new
    comes_title {W = W} (d.Item why) header place titled new pulled steady at rises some stops taken =
        let there = title_stops why W header place titled new pulled steady at stops in
        record {
          checked = Err (record { items = come.count; place = come.between.offset; error = why });
          answers = refl;
          checks = record {
            room = there.room;
            held = there.held;
            holds = record {
              between = come.between;
              reads = come.reads;
              place = refl;
              fails = there.holds;
              no_end =
                  let moved = come.passed.offset in further why come.between new (omega (arith, moved, rises, some));
            };
          };
        }
    comes_title (d.Rows fault) header place titled new pulled steady at rises some stops taken = absurd taken

  -- ---- the bytes are told

  module _ (depth : ℕ) (old : Decoder R) (due : List ℕ) (ready : CanRead source most_bytes old due) where
    -- A reader that is ready for a buffer of 16 bytes is ready for a smaller buffer.
    ready_for : (room : ℕ) → room ≤ most_bytes → CanRead source room old due
    ready_for room held = grind (arith, nat_tests)

    pub answers_told : {W : Type 0} (result : Result E (DumpError E W)) (new : Decoder R)
        → ReadsAsCheck source depth old result new → AnswersTold source depth due old result new
    answers_told result new reads = grind (arith, nat_tests, check_told, ready_for)

    -- If the bytes are told, a dump answers `Ok` exactly if they are a sequence of items.
    pub answers_exactly : {W : Type 0} (result : Result E (DumpError E W)) (new : Decoder R)
        → ReadsAsCheck source depth old result new → IsOk result ↔ IsSequence (spelling_of old) depth due
    answers_exactly result new reads = grind (arith, nat_tests, check_exactly, ready_for, both_ok, ok_both)
