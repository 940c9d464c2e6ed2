use Rattle.std.proofs.Common.{rules, refl, sym, ap, ◌∙◌, arith, append-nil, ◌≡◌, ◌+◌, ◌-◌, ◌++◌, ◌≤◌, ◌<◌, ℕ}
use Rattle.std.proofs.Common.{List, length, take, drop, length-append}
use Rattle.std.proofs.lemmas.List.{length-drop, length-take-le}
use Rattle.ciborium_ll_grammar.specs.declared.spelling.Spelling.TheVariants.{Any}
use Rattle.cbor_item_copier.proofs.PieceLaws.{given_front}
use Rattle.cbor_item_copier.specs.Reading.{IsRoom}
use Rattle.tool_files.specs.Recodes.{fault_place, fault_said}
use Rattle.tool_files.proofs.RecodeLaws.{fed_all, fed_more, fed_rest, feeds_stop, few, fresh_held, fresh_stands}
use Rattle.tool_files.proofs.RecodeLaws.{front_copied}
use Rattle.tool_files.proofs.RecodeLaws.{one_more, only_long, place_fits, some_taken, stands_on, stop_at, too_many}
use Rattle.tool_files.proofs.recode.ItemsCopy.feed.Goals as goal

pub items-init : goal.items-init
items-init c = record {
  within = omega arith;
  room = omega (arith, few c.args.self.now.copier c.requires.after.stands.none);
  long = refl;
  depth = refl;
  stands = λ most fed given stands long. rw (append-nil fed, append-nil given) stands;
}

pub items-preserved-in-More : goal.items-preserved-in-More
items-preserved-in-More c =
    let k = length c.items.out - c.items.written in
    let piece = c.args.piece.now in
    let taken = c.feed-copied.result.taken in
    let rest = take (length piece - c.items.at) (drop c.items.at piece) in
    let new_out = c.feed-copied.new.out in
    let out_len : length new_out ≡ k = search rules in
    record {
      within = omega (
        arith,
        c.feed-copied.ensures.taken,
        length-take-le (length piece - c.items.at)
            (drop c.items.at piece) (omega (arith, length-drop c.items.at piece)),
        c.items.invariant.within,
      );
      room = omega (arith, c.feed-copied.ensures.grown, c.items.invariant.room);
      long = search rules;
      depth = c.items.invariant.depth;
      stands = λ most fed given was long.
          let s = c.items.invariant.stands most fed given was long in
          let on = stands_on c.args.self.now.depth _ _ c.items.self.start _ _ c.items.self.copier c.feed-copied.new.self s
          (take taken rest) (take c.feed-copied.result.written new_out) c.feed-copied.result.progress
          (c.feed-copied.ensures.read Any c.args.self.now.depth s.within.part s.within.front s.copied).0
          (c.feed-copied.ensures.read Any c.args.self.now.depth s.within.part s.within.front s.copied).1.tells
          c.feed-copied.ensures.is c.in-More.field-0 c.in-More.is in
          rw (
            ← fed_more fed piece c.items.at taken,
            ← given_front c.items.written c.feed-copied.result.written k c.items.out new_out
                (omega (arith, c.items.auto.written-fits)) refl out_len (omega (arith, out_len)) given,
          ) on;
    }

pub items-smaller : goal.items-smaller
items-smaller c =
    let k = length c.items.out - c.items.written in
    let piece = c.args.piece.now in
    let taken = c.feed-copied.result.taken in
    let rest = take (length piece - c.items.at) (drop c.items.at piece) in
    let new_out = c.feed-copied.new.out in
    let rest_len = length-take-le (length piece - c.items.at) (drop c.items.at piece)
    (omega (arith, length-drop c.items.at piece)) in
    let after = c.requires.after in
    let s = c.items.invariant.stands after.most after.fed after.given after.stands after.long in
    let on = some_taken c.args.self.now.depth _ _ c.items.self.start _ _ c.items.self.copier c.feed-copied.new.self s
    (take taken rest) (take c.feed-copied.result.written new_out) c.feed-copied.result.progress
    (c.feed-copied.ensures.read Any c.args.self.now.depth s.within.part s.within.front s.copied).0
    (c.feed-copied.ensures.read Any c.args.self.now.depth s.within.part s.within.front s.copied).1.tells
    c.feed-copied.ensures.is c.in-Ended.field-0 c.in-Ended.is in
    omega (
      arith,
      on,
      length-take-le taken rest c.feed-copied.ensures.taken,
      c.feed-copied.ensures.taken,
      rest_len,
      c.items.invariant.within,
    )

pub items-preserved : goal.items-preserved
items-preserved c =
    let k = length c.items.out - c.items.written in
    let piece = c.args.piece.now in
    let taken = c.feed-copied.result.taken in
    let rest = take (length piece - c.items.at) (drop c.items.at piece) in
    let new_out = c.feed-copied.new.out in
    let out_len : length new_out ≡ k = search rules in
    let rest_len = length-take-le (length piece - c.items.at) (drop c.items.at piece)
    (omega (arith, length-drop c.items.at piece)) in
    let within : c.items.at + taken ≤ length piece = omega (
      arith,
      c.feed-copied.ensures.taken,
      rest_len,
      c.items.invariant.within,
    ) in
    let fresh = rw c.items.invariant.depth at c.new-self.ensures in
    record {
      within = within;
      room = omega (
        arith,
        c.feed-copied.ensures.grown,
        c.items.invariant.room,
        fresh_held c.args.self.now.depth c.new-self.result fresh,
      );
      long = search rules;
      depth = c.items.invariant.depth;
      stands = λ most fed given was long.
          let s = c.items.invariant.stands most fed given was long in
          let on = one_more c.args.self.now.depth _ _ c.items.self.start _ _ c.items.self.copier c.feed-copied.new.self s
          (take taken rest) (take c.feed-copied.result.written new_out) c.feed-copied.result.progress
          (c.feed-copied.ensures.read Any c.args.self.now.depth s.within.part s.within.front s.copied).0
          (c.feed-copied.ensures.read Any c.args.self.now.depth s.within.part s.within.front s.copied).1.tells
          c.feed-copied.ensures.is c.in-Ended.field-0 c.in-Ended.is in
          let are = rw (
            fed_more fed piece c.items.at taken,
            given_front c.items.written c.feed-copied.result.written k c.items.out new_out
                (omega (arith, c.items.auto.written-fits)) refl out_len (omega (arith, out_len)) given,
          ) at on in
          fresh_stands c.args.self.now.depth most c.goes_on.new.left (c.args.read + (c.items.at + taken))
          (s.within.count + 1) _ _ c.new-self.result fresh are
          (omega (
            arith,
            long,
            length-append fed (take (c.items.at + taken) piece),
            length-take-le (c.items.at + taken) piece within,
          )) (c.goes_on.ensures.more (search rules) most s.within.count s.limit);
    }

pub fault_verdict-requires : goal.fault_verdict-requires
fault_verdict-requires c =
    let k = length c.items.out - c.items.written in
    let piece = c.args.piece.now in
    let taken = c.feed-copied.result.taken in
    let rest = take (length piece - c.items.at) (drop c.items.at piece) in
    let new_out = c.feed-copied.new.out in
    let rest_len = length-take-le (length piece - c.items.at) (drop c.items.at piece)
    (omega (arith, length-drop c.items.at piece)) in
    let after = c.requires.after in
    let s = c.items.invariant.stands after.most after.fed after.given after.stands after.long in
    let on = place_fits c.args.self.now.depth _ _ c.items.self.start _ _ c.items.self.copier c.feed-copied.new.self s
    (take taken rest) (take c.feed-copied.result.written new_out) c.feed-copied.result.progress
    (c.feed-copied.ensures.read Any c.args.self.now.depth s.within.part s.within.front s.copied).0
    (c.feed-copied.ensures.read Any c.args.self.now.depth s.within.part s.within.front s.copied).1.tells
    c.feed-copied.ensures.is c.in-Fault.fault c.in-Fault.is in
    let within : c.items.at + taken ≤ length piece = omega (
      arith,
      c.feed-copied.ensures.taken,
      rest_len,
      c.items.invariant.within,
    ) in
    let fits : fault_place c.in-Fault.fault + c.items.self.start ≤ 18446744073709551615 = omega (
      arith,
      on,
      ap (length {A = ℕ}) (fed_more after.fed piece c.items.at taken),
      c.requires.counted,
      after.long,
      length-append after.fed (take (c.items.at + taken) piece),
      length-take-le (c.items.at + taken) piece within,
    ) in
    search (fits, rules)

pub returns-in-Fault-clause-feeds : goal.returns-in-Fault-clause-feeds
returns-in-Fault-clause-feeds c = λ most fed given was long.
    let k = length c.items.out - c.items.written in
    let piece = c.args.piece.now in
    let taken = c.feed-copied.result.taken in
    let rest = take (length piece - c.items.at) (drop c.items.at piece) in
    let new_out = c.feed-copied.new.out in
    let out_len : length new_out ≡ k = search rules in
    let said : c.fault_verdict.result ≡ fault_said c.items.self.start c.in-Fault.fault = search rules in
    let whole = fed_rest fed piece (c.items.at + taken)
    ∙ ap (λ (z : List ℕ). z ++ drop (c.items.at + taken) piece) (sym (fed_more fed piece c.items.at taken)) in
    let s = c.items.invariant.stands most fed given was long in
    let on = stop_at c.args.self.now.depth _ _ c.items.self.start _ _ c.items.self.copier c.feed-copied.new.self s
    (take taken rest) (take c.feed-copied.result.written new_out) c.feed-copied.result.progress
    (c.feed-copied.ensures.read Any c.args.self.now.depth s.within.part s.within.front s.copied).0
    (c.feed-copied.ensures.read Any c.args.self.now.depth s.within.part s.within.front s.copied).1.tells
    c.feed-copied.ensures.is c.in-Fault.fault c.fault_verdict.result (fed ++ piece)
    (drop (c.items.at + taken) piece) c.in-Fault.is said whole in
    feeds_stop c.args.self.now.depth most c.items.self.left _ _ _ c.in-Fault.fault c.fault_verdict.result _ _ said
    (rw (← given_front c.items.written c.feed-copied.result.written k c.items.out new_out
    (omega (arith, c.items.auto.written-fits)) refl out_len (omega (arith, out_len)) given) on)

pub returns-in-Room-clause-feeds : goal.returns-in-Room-clause-feeds
returns-in-Room-clause-feeds c = λ most fed given was long.
    let k = length c.items.out - c.items.written in
    let piece = c.args.piece.now in
    let taken = c.feed-copied.result.taken in
    let rest = take (length piece - c.items.at) (drop c.items.at piece) in
    let new_out = c.feed-copied.new.out in
    let out_len : length new_out ≡ k = search rules in
    let rest_len = length-take-le (length piece - c.items.at) (drop c.items.at piece)
    (omega (arith, length-drop c.items.at piece)) in
    let whole = fed_rest fed piece (c.items.at + taken)
    ∙ ap (λ (z : List ℕ). z ++ drop (c.items.at + taken) piece) (sym (fed_more fed piece c.items.at taken)) in
    let t = c.items.invariant.stands most fed given was long in
    let lacks : IsRoom c.feed-copied.result.progress → ⊥ = c.feed-copied.ensures.fits t.none
    (omega (
      arith,
      rest_len,
      out_len,
      c.requires.room,
      c.items.invariant.room,
      c.items.invariant.long,
      c.items.auto.written-fits,
    )) in
    let is = only_long c.feed-copied.result.progress c.in-Room.is lacks in
    let some : 0 < length (drop (c.items.at + taken) piece) =
    omega (arith, c.feed-copied.ensures.long is, rest_len, length-drop (c.items.at + taken) piece) in
    let s = c.items.invariant.stands most fed given was long in
    let on = too_many c.args.self.now.depth _ _ c.items.self.start _ _ c.items.self.copier c.feed-copied.new.self s
    (take taken rest) (take c.feed-copied.result.written new_out) c.feed-copied.result.progress
    (c.feed-copied.ensures.read Any c.args.self.now.depth s.within.part s.within.front s.copied).0
    (c.feed-copied.ensures.read Any c.args.self.now.depth s.within.part s.within.front s.copied).1.tells
    c.feed-copied.ensures.is (fed ++ piece) (drop (c.items.at + taken) piece) is some whole in
    rw (← given_front c.items.written c.feed-copied.result.written k c.items.out new_out
    (omega (arith, c.items.auto.written-fits)) refl out_len (omega (arith, out_len)) given) on

pub returns-clause-after : goal.returns-clause-after
returns-clause-after c =
    let after = c.requires.after in
    let all : c.items.at ≡ length c.args.piece.now = omega (arith, c.items-test.false, c.items.invariant.within) in
    let stands = c.items.invariant.stands after.most after.fed after.given after.stands after.long in
    record {
      most = after.most;
      fed = after.fed ++ c.args.piece.now;
      given = after.given ++ take c.items.written c.items.out;
      stands = rw (c.items.invariant.depth, ← fed_all after.fed c.args.piece.now c.items.at all) stands;
      long = omega (arith, after.long, length-append after.fed c.args.piece.now);
    }

pub returns-clause-feeds : goal.returns-clause-feeds
returns-clause-feeds c = λ most fed given stands long.
    let all : c.items.at ≡ length c.args.piece.now = omega (arith, c.items-test.false, c.items.invariant.within) in
    rw (← fed_all fed c.args.piece.now c.items.at all) (c.items.invariant.stands most fed given stands long)

pub returns-then-not-goes_on-clause-feeds : goal.returns-then-not-goes_on-clause-feeds
returns-then-not-goes_on-clause-feeds c = λ most fed given was long.
    let k = length c.items.out - c.items.written in
    let piece = c.args.piece.now in
    let taken = c.feed-copied.result.taken in
    let rest = take (length piece - c.items.at) (drop c.items.at piece) in
    let new_out = c.feed-copied.new.out in
    let out_len : length new_out ≡ k = search rules in
    let s = c.items.invariant.stands most fed given was long in
    let on = one_more c.args.self.now.depth _ _ c.items.self.start _ _ c.items.self.copier c.feed-copied.new.self s
    (take taken rest) (take c.feed-copied.result.written new_out) c.feed-copied.result.progress
    (c.feed-copied.ensures.read Any c.args.self.now.depth s.within.part s.within.front s.copied).0
    (c.feed-copied.ensures.read Any c.args.self.now.depth s.within.part s.within.front s.copied).1.tells
    c.feed-copied.ensures.is c.in-Ended.field-0 c.in-Ended.is in
    let are = rw (
      fed_more fed piece c.items.at taken,
      given_front c.items.written c.feed-copied.result.written k c.items.out new_out
          (omega (arith, c.items.auto.written-fits)) refl out_len (omega (arith, out_len)) given,
    ) at on in
    front_copied c.args.self.now.depth most (s.within.count + 1) (fed ++ take (c.items.at + taken) piece)
    (drop (c.items.at + taken) piece) (fed ++ piece) _ (c.goes_on.ensures.last (search rules) most s.within.count s.limit)
    are (fed_rest fed piece (c.items.at + taken))
