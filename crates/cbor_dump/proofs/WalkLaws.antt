-- The steps of a walk: what it keeps of the nests within which an item is due.
use Rattle.std.proofs.lemmas.Bool.Decides.{nat_tests}
use Rattle.std.proofs.Common.{◌≡◌, ℕ, zero, suc, ◌+◌, ◌-◌, ◌*◌, ◌<◌, ◌≤◌, true, false, List, [], ◌∷◌, ◌++◌}
use Rattle.std.proofs.Common.{length, set, refl, sym, ap, subst, ◌∙◌, arith, append_assoc}
use Rattle.std.proofs.Common.{append-nil, Option, Some, None}
use Rattle.std.proofs.lemmas.List.{get_or-set_same, get_or-set_other, length-set}
use Rattle.ciborium_ll_grammar.specs.declared.spelling.Spelling.{Spelling}
use Rattle.ciborium_ll_grammar.specs.declared.spelling.Spelling.TheVariants.{Any}
use Rattle.ciborium_ll.specs.Types.Header.{Header}
use Rattle.ciborium_ll.specs.Types.Header.TheVariants as h
use Rattle.ciborium_ll.specs.Title.{IsTitle}
use Rattle.ciborium_ll.specs.Items.{Completes, tag, array, pairs, open_array, open_pairs, AreItems, no_items, IsItem}
use Rattle.ciborium_ll.specs.Items.{IsTakenTitle}
use Rattle.cbor_skip.specs.Types.Remaining.{Remaining}
use Rattle.cbor_skip.specs.Due.{TakesMore}
use Rattle.cbor_skip.specs.Remaining.{IsRemaining, is_done, closes, is_value}
use Rattle.cbor_skip.specs.Types.Remaining.TheVariants as r
use Rattle.cbor_skip.proofs.RemainingLaws.{takes_more}
use Rattle.cbor_skip.proofs.ItemSteps.{item_of, items_item}
use Rattle.cbor_skip.proofs.StrictnessLaws.{items_looser}
use Rattle.cbor_dump.specs.declared.walk.Walk.{Walk}
use Rattle.cbor_dump.specs.Levels.{Nest, StandsBehind, StandsWithin, outside, inside, closes_one, title_level}
use Rattle.cbor_dump.specs.Levels.{index_in, IsBehindKey, IsPairPlace, IsPlace, IsPlaceIn}
use Rattle.cbor_dump.specs.Keys.{IsKeyOf, NamesItem}
use Rattle.cbor_dump.specs.declared.key.Key.{Key}
use Rattle.cbor_dump.specs.declared.key.Key.TheVariants as keys
use Rattle.cbor_dump.specs.Walks.{remaining_at, AreKept, KeepsNests, IsDue, IsDueBehind, IsBehindItem, Breaks}
use Rattle.cbor_dump.specs.Walks.{AreAt, IsDeepest, IsKeyKept, index_at, place_of}
use Rattle.cbor_dump.specs.declared.rows.Within.{Within}
use Rattle.cbor_dump.specs.declared.rows.Within.TheVariants as w

-- ---- all items of a nest

-- If no more items remain, the items complete the nest.
all_read : (allowed : Spelling) (x : Header) (d count : ℕ) (items : List ℕ) (remaining : Remaining)
    → IsRemaining x count remaining
    → is_done remaining ≡ true → AreItems allowed d count items → Completes allowed (suc d) x items
all_read allowed x d count items remaining is done i = grind (arith, tag, array, pairs)

-- If a break may close the nest, the items and a break complete it.
all_closed : (allowed : Spelling) (x : Header) (d count : ℕ) (items : List ℕ) (remaining : Remaining)
    → IsRemaining x count remaining
    → closes remaining ≡ true → AreItems allowed d count items → Completes allowed (suc d) x (items ++ 0xff ∷ [])
all_closed allowed x d count items remaining is may i = grind (arith, open_array, open_pairs)

-- ---- what is kept

-- A write above the nests leaves the nests as kept.
kept_below : (levels : List Remaining) (nests : List Nest) (at : ℕ) (x : Remaining) → length nests ≤ at
    → AreKept levels nests → AreKept (set levels at x) nests
kept_below levels [] at x few kept = tt
kept_below levels (nest ∷ nests) at x few kept =
    let inner = kept_below levels nests at x (omega (arith, few)) kept.2 in
    grind (arith, get_or-set_other, inner)

-- A write at the end of the nests keeps one more nest.
kept_more : (levels : List Remaining) (nests : List Nest) (nest : Nest) (at : ℕ) (x : Remaining) → at ≡ length nests
    → at < length levels → IsRemaining nest.header nest.count x → is_done x ≡ false → AreKept levels nests
    → AreKept (set levels at x) (nest ∷ nests)
kept_more levels nests nest at x end room is some kept =
    grind (arith, nat_tests, levels, get_or-set_same, is, some, kept_below)

-- A write above the nests leaves their indexes.
at_below : (indexes : List (Option ℕ)) (nests : List Nest) (at : ℕ) (x : Option ℕ) → length nests ≤ at
    → AreAt indexes nests → AreAt (set indexes at x) nests
at_below indexes [] at x few kept = tt
at_below indexes (nest ∷ nests) at x few kept =
    let inner = at_below indexes nests at x (omega (arith, few)) kept.1 in
    grind (arith, get_or-set_other, inner)

-- A write at the end of the nests keeps one more index.
at_more : (indexes : List (Option ℕ)) (nests : List Nest) (nest : Nest) (at : ℕ) (x : Option ℕ) → at ≡ length nests
    → at < length indexes → x ≡ index_in nest.header nest.count → AreAt indexes nests
    → AreAt (set indexes at x) (nest ∷ nests)
at_more indexes nests nest at x end room is kept =
    grind (arith, nat_tests, indexes, get_or-set_same, is, at_below)

-- ---- the innermost nest

-- A nest has its title and its items, after the bytes before it.
record Inner (allowed : Spelling) (depth whole : ℕ) (nest : Nest) (outer : List Nest) (bytes : List ℕ) : Type 0 where
  before : List ℕ
  title : List ℕ
  items : List ℕ
  levels : ℕ
  within : StandsBehind allowed depth whole outer before
  level : length outer + suc levels ≡ depth
  is_title : IsTitle title nest.header
  taken : IsTakenTitle allowed title nest.header
  takes_more : TakesMore nest.header nest.count
  are_items : AreItems allowed levels nest.count items
  is : bytes ≡ before ++ (title ++ items)

inner_of : (allowed : Spelling) (depth whole : ℕ) (nest : Nest) (outer : List Nest) (bytes : List ℕ)
    → StandsBehind allowed depth whole (nest ∷ outer) bytes
    → Inner allowed depth whole nest outer bytes
inner_of allowed depth whole nest outer bytes
    (inside {levels = l} {before = b} {title = t} {items = i} w e p g more are) = record {
      before = b;
      title = t;
      items = i;
      levels = l;
      within = w;
      level = e;
      is_title = p;
      taken = g;
      takes_more = more;
      are_items = are;
      is = refl;
    }

-- If a nest is due more items, an item in it leaves it open with one item more.
goes_on : (allowed : Spelling) (depth whole levels : ℕ) (nest : Nest) (outer : List Nest) (bytes item : List ℕ)
    → Inner allowed depth whole nest outer bytes → suc (length outer) + levels ≡ depth → IsItem allowed levels item
    → TakesMore nest.header (suc nest.count)
    → StandsBehind allowed depth whole (record { header = nest.header; count = suc nest.count } ∷ outer) (bytes ++ item)
goes_on allowed depth whole levels nest outer bytes item inner level is_item more =
    let same : levels ≡ inner.levels = let e = inner.level in omega (arith, e, level) in
    let all : inner.before ++ (inner.title ++ (inner.items ++ item)) ≡ bytes ++ item =
    sym (ap (λ (z : List ℕ). z ++ item) inner.is ∙ (append_assoc inner.before (inner.title ++ inner.items) item
    ∙ ap (λ (z : List ℕ). inner.before ++ z) (append_assoc inner.title inner.items item))) in
    let item' = subst (λ (n : ℕ). IsItem allowed n item) same is_item in
    subst (λ (z : List ℕ). StandsBehind allowed depth whole (record { header = nest.header; count = suc nest.count }
    ∷ outer) z)
    all
    (inside inner.within inner.level inner.is_title inner.taken more
    (items_item allowed inner.levels nest.count inner.items item inner.are_items item'))

-- A nest is a key that a dump does not name.
nest_key : (x : Header) (count : ℕ) (rest : List ℕ) → TakesMore x count → IsKeyOf x rest keys.Other
nest_key x count rest more = grind arith

empty_key : (x : Header) (count : ℕ) (rest : List ℕ) (remaining : Remaining) → IsRemaining x count remaining
    → IsKeyOf x rest keys.Other
empty_key x count rest remaining is = grind arith

-- If its items complete a nest, an item ends one level further out.
ends_nest : (allowed : Spelling) (depth whole : ℕ) (nest : Nest) (outer : List Nest) (bytes more rest : List ℕ)
    (walk : Walk)
    (inner : Inner allowed depth whole nest outer bytes) → rest ≡ inner.items ++ more
    → Completes allowed (suc inner.levels) nest.header rest → KeepsNests depth walk outer
    → IsBehindItem allowed depth whole walk keys.Other (bytes ++ more)
ends_nest allowed depth whole nest outer bytes more rest walk inner e completes keeps = record {
  before = inner.before;
  item = inner.title ++ rest;
  levels = suc inner.levels;
  nests = outer;
  within = inner.within;
  keeps = keeps;
  left = inner.level;
  is_item = item_of allowed (suc inner.levels) inner.title rest nest.header inner.is_title inner.taken completes;
  is =
      ap (λ (z : List ℕ). z ++ more) inner.is ∙ (append_assoc inner.before (inner.title ++ inner.items) more
      ∙ (ap (λ (z : List ℕ). inner.before ++ z) (append_assoc inner.title inner.items more)
      ∙ ap (λ (z : List ℕ). inner.before ++ (inner.title ++ z)) (sym e)));
  names = record {
    header = nest.header;
    title = inner.title;
    rest = rest;
    is_title = inner.is_title;
    is = refl;
    named = nest_key nest.header nest.count rest inner.takes_more;
  };
}

-- ---- the walk

-- Bytes in the shortest spelling are bytes in any spelling.
pub stands_any : (allowed : Spelling) (depth whole : ℕ) (nests : List Nest) (bytes : List ℕ)
    → StandsBehind allowed depth whole nests bytes → StandsBehind Any depth whole nests bytes
stands_any allowed depth whole nests bytes (outside are) =
    outside (items_looser Any allowed (λ no. absurd cc) depth whole bytes are)
stands_any allowed depth whole nests bytes
    (inside {levels = l} {count = n} {nests = outer} {before = b} {items = i} w e p g more are) =
    inside (stands_any allowed depth whole outer b w) e p tt more
    (items_looser Any allowed (λ no. absurd cc) l n i are)

-- Within a nest no further item is whole.
within_nest : (allowed : Spelling) (depth whole used : ℕ) (walk : Walk) (bytes : List ℕ) → walk.used ≡ used → 0 < used
    → IsDue allowed depth whole walk bytes → IsDueBehind allowed depth whole walk bytes
within_nest allowed depth whole zero walk bytes same some due = absurd (omega (arith, some))
within_nest allowed depth whole (suc used) walk bytes same some due = grind (arith, nat_tests)

-- Outside of all nests one more item is whole.
due_outside : (allowed : Spelling) (depth whole : ℕ) (walk : Walk) (bytes : List ℕ) → walk.used ≡ 0
    → IsDue allowed depth (suc whole) walk bytes → IsDueBehind allowed depth whole walk bytes
due_outside allowed depth whole walk bytes none due = grind (arith, nat_tests)

pub due_first : (allowed : Spelling) (depth : ℕ) (walk : Walk) → walk.used ≡ 0 → walk.depth ≡ depth
    → length walk.levels ≡ 256 → length walk.indexes ≡ 256
    → IsDue allowed depth 0 walk []
due_first allowed depth walk used same room wide = grind (arith, outside, no_items)

-- If all levels are used, an item is due at the deepest level.
pub deepest : (allowed : Spelling) (depth whole : ℕ) (walk : Walk) (before : List ℕ)
    → IsDue allowed depth whole walk before
    → walk.used ≡ walk.depth → IsDeepest allowed depth whole before
deepest allowed depth whole walk before due full = grind arith

-- The title of an empty nest is an item.
pub enters_empty : (allowed : Spelling) (depth whole : ℕ) (walk : Walk) (before title : List ℕ) (header : Header)
    (x : Remaining)
    → IsDue allowed depth whole walk before → IsTitle title header → IsTakenTitle allowed title header
    → walk.used ≤ walk.depth → (walk.used ≡ walk.depth → ⊥)
    → IsRemaining header 0 x → is_done x ≡ true → IsBehindItem allowed depth whole walk keys.Other (before ++ title)
enters_empty allowed depth whole walk before title header x due p g within room is done =
    let levels = depth - suc (length due.nests) in
    let used = due.keeps.used in
    let same = due.keeps.same_depth in
    record {
      before = before;
      item = title;
      levels = suc levels;
      nests = due.nests;
      within = due.within;
      keeps = due.keeps;
      left = omega (arith, used, same, within, room);
      is_item = subst (λ (z : List ℕ). IsItem allowed (suc levels) z) (append-nil title)
          (item_of allowed (suc levels) title [] header p g (all_read allowed header levels 0 [] x is done no_items));
      is = refl;
      names = record {
        header = header;
        title = title;
        rest = [];
        is_title = p;
        is = sym (append-nil title);
        named = empty_key header 0 [] x is;
      };
    }

-- The title of a nest with items due opens one more level.
pub enters_within : (allowed : Spelling) (depth whole : ℕ) (walk new : Walk) (before title : List ℕ) (header : Header)
    (x : Remaining) (y : Option ℕ)
    → IsDue allowed depth whole walk before → IsTitle title header → IsTakenTitle allowed title header
    → walk.used ≤ walk.depth → walk.depth ≤ 256
    → (walk.used ≡ walk.depth → ⊥) → IsRemaining header 0 x → is_done x ≡ false → y ≡ index_in header 0
    → new.levels ≡ set walk.levels walk.used x → new.indexes ≡ set walk.indexes walk.used y
    → new.used ≡ walk.used + 1 → new.depth ≡ walk.depth
    → IsDueBehind allowed depth whole new (before ++ title)
enters_within allowed depth whole walk new before title header x y due p g within shallow room is some first written
    placed one deep =
    let levels = depth - suc (length due.nests) in
    let used = due.keeps.used in
    let same = due.keeps.same_depth in
    let long = due.keeps.room in
    let wide = due.keeps.wide in
    let nest : Nest = record { header = header; count = 0 } in
    let all : before ++ (title ++ []) ≡ before ++ title = ap (λ (z : List ℕ). before ++ z) (append-nil title) in
    let more = takes_more header 0 x is some in
    let level : length due.nests + suc levels ≡ depth = omega (arith, used, same, within, room) in
    let fits : walk.used < length walk.levels = omega (arith, used, same, within, room, shallow, long) in
    within_nest allowed depth whole new.used new (before ++ title) refl (omega (arith, one)) (record {
      nests = nest ∷ due.nests;
      within = subst (λ (z : List ℕ). StandsBehind allowed depth whole (nest ∷ due.nests) z) all
          (inside due.within level p g more.0 no_items);
      keeps = record {
        kept = subst (λ (z : List Remaining). AreKept z (nest ∷ due.nests)) (sym written)
            (kept_more walk.levels due.nests nest walk.used x used fits is some due.keeps.kept);
        used = omega (arith, one, used);
        same_depth = deep ∙ same;
        room = ap length written ∙ (length-set walk.levels walk.used x ∙ long);
        placed = subst (λ (z : List (Option ℕ)). AreAt z (nest ∷ due.nests)) (sym placed)
            (at_more walk.indexes due.nests nest walk.used y used
            (omega (arith, used, same, within, room, shallow, wide)) first due.keeps.placed);
        wide = ap length placed ∙ (length-set walk.indexes walk.used y ∙ wide);
      };
      keyed = λ earlier none. absurd cc;
    })

-- ---- a break

level_open : (nests : List Nest) → closes_one nests 0 ≡ false → title_level h.Break nests 0 ≡ length nests
level_open nests e = grind (arith, nat_tests)

level_closed : (nests : List Nest) → closes_one nests 0 ≡ true → title_level h.Break nests 0 ≡ length nests - 1
level_closed nests e = grind (arith, nat_tests)

breaks_not : (allowed : Spelling) (depth whole : ℕ) (walk : Walk) (before : List ℕ)
    (due : IsDue allowed depth whole walk before)
    → closes_one due.nests 0 ≡ false → Breaks allowed depth whole false walk before
breaks_not allowed depth whole walk before due none = record {
  nests = due.nests;
  within = due.within;
  level = due.keeps.used ∙ sym (level_open due.nests none);
  may = none;
  behind = λ e. absurd cc;
}

-- Outside of all nests no break may stand.
outside_no_break : (nests : List Nest) → length nests ≡ 0 → closes_one nests 0 ≡ false
outside_no_break nests e = grind arith

pub break_outside : (allowed : Spelling) (depth whole : ℕ) (walk : Walk) (before : List ℕ)
    → IsDue allowed depth whole walk before → walk.used ≡ 0
    → Breaks allowed depth whole false walk before
break_outside allowed depth whole walk before due none = grind (arith, nat_tests, breaks_not, before, outside_no_break)

-- A break may stand exactly if the innermost nest may be closed.
closes_as_kept : (depth : ℕ) (walk : Walk) (nests : List Nest) → KeepsNests depth walk nests → (walk.used ≡ 0 → ⊥)
    → closes_one nests 0 ≡ closes (remaining_at walk.levels (walk.used - 1))
closes_as_kept depth walk nests keeps some = grind (arith, takes_more)

pub break_refused : (allowed : Spelling) (depth whole : ℕ) (walk : Walk) (before : List ℕ)
    → IsDue allowed depth whole walk before
    → (walk.used ≡ 0 → ⊥)
    → closes (remaining_at walk.levels (walk.used - 1)) ≡ false → Breaks allowed depth whole false walk before
break_refused allowed depth whole walk before due some refused =
    grind (arith, nat_tests, breaks_not, before, closes_as_kept, some)

closed_behind : (allowed : Spelling) (depth whole : ℕ) (walk new : Walk) (before : List ℕ) (nests : List Nest)
    → StandsBehind allowed depth whole nests before
    → KeepsNests depth walk nests → (walk.used ≡ 0 → ⊥) → closes (remaining_at walk.levels (walk.used - 1)) ≡ true
    → new.levels ≡ walk.levels → new.indexes ≡ walk.indexes → new.used ≡ walk.used - 1 → new.depth ≡ walk.depth
    → IsBehindItem allowed depth whole new keys.Other (before ++ 0xff ∷ [])
closed_behind allowed depth whole walk new before [] within keeps some may same still less deep =
    absurd (some keeps.used)
closed_behind allowed depth whole walk new before (nest ∷ nests) within keeps some may same still less deep =
    let used = keeps.used in
    let kept = keeps.kept in
    let at : walk.used - 1 ≡ length nests = omega (arith, used) in
    let remaining = remaining_at walk.levels (length nests) in
    let closing : closes remaining ≡ true = subst (λ (k : ℕ). closes (remaining_at walk.levels k) ≡ true) at may in
    let inner = inner_of allowed depth whole nest nests before within in
    let completes =
    all_closed allowed nest.header inner.levels nest.count inner.items remaining kept.0 closing inner.are_items in
    ends_nest allowed depth whole nest nests before (0xff ∷ []) (inner.items ++ 0xff ∷ []) new inner refl completes
    (record {
      kept = subst (λ (z : List Remaining). AreKept z nests) (sym same) kept.2;
      used = less ∙ at;
      same_depth = deep ∙ keeps.same_depth;
      room = ap length same ∙ keeps.room;
      placed = subst (λ (z : List (Option ℕ)). AreAt z nests) (sym still) keeps.placed.1;
      wide = ap length still ∙ keeps.wide;
    })

pub break_closes : (allowed : Spelling) (depth whole : ℕ) (walk new : Walk) (before : List ℕ)
    → IsDue allowed depth whole walk before
    → (walk.used ≡ 0 → ⊥)
    → closes (remaining_at walk.levels (walk.used - 1)) ≡ true
    → new.levels ≡ walk.levels → new.indexes ≡ walk.indexes → new.used ≡ walk.used - 1 → new.depth ≡ walk.depth
    → Breaks allowed depth whole true new before
break_closes allowed depth whole walk new before due some may same still less deep =
    let closing = closes_as_kept depth walk due.nests due.keeps some ∙ may in
    let used = due.keeps.used in
    record {
      nests = due.nests;
      within = due.within;
      level = less ∙ (ap (λ (k : ℕ). k - 1) used ∙ sym (level_closed due.nests closing));
      may = closing;
      behind = λ e. closed_behind allowed depth whole walk new before due.nests due.within due.keeps some may same still
          less deep;
    }

-- ---- the end of an item

-- An item outside of all nests is one more whole item.
outside_more : (allowed : Spelling) (depth whole levels : ℕ) (nests : List Nest) (before item : List ℕ)
    → StandsBehind allowed depth whole nests before
    → length nests ≡ 0 → levels ≡ depth → IsItem allowed levels item → StandsBehind allowed depth (suc whole) []
    (before ++ item)
outside_more allowed depth whole levels nests before item stands none same is_item = grind (arith, outside, items_item)

pub end_outside : (allowed : Spelling) (depth whole : ℕ) (walk : Walk) (key : Key) (bytes : List ℕ)
    → IsBehindItem allowed depth whole walk key bytes → walk.used ≡ 0
    → IsDueBehind allowed depth whole walk bytes
end_outside allowed depth whole walk key bytes behind none =
    let used = behind.keeps.used in
    let left = behind.left in
    let empty : length behind.nests ≡ 0 = omega (arith, used, none) in
    let same : behind.levels ≡ depth = omega (arith, left, empty) in
    due_outside allowed depth whole walk bytes none (record {
      nests = [];
      within = subst (λ (z : List ℕ). StandsBehind allowed depth (suc whole) [] z) (sym behind.is)
          (outside_more allowed depth whole behind.levels behind.nests behind.before behind.item behind.within empty
          same
          behind.is_item);
      keeps = record {
        kept = tt;
        used = none;
        same_depth = behind.keeps.same_depth;
        room = behind.keeps.room;
        placed = tt;
        wide = behind.keeps.wide;
      };
      keyed = tt;
    })

-- The end of an item changes how many items remain in the innermost nest.
pub record Steps (walk new : Walk) (after : Remaining) (next : Option ℕ) : Type 0 where
  pub counts : (x : Header) (count : ℕ) → IsRemaining x count (remaining_at walk.levels (walk.used - 1))
      → IsRemaining x (suc count) after
  pub some : walk.used ≡ 0 → ⊥
  pub within : walk.used ≤ 256
  pub written : new.levels ≡ set walk.levels (walk.used - 1) after
  pub indexes : (x : Header) (count : ℕ) → index_at walk.indexes (walk.used - 1) ≡ index_in x count
      → next ≡ index_in x (suc count)
  pub placed : new.indexes ≡ set walk.indexes (walk.used - 1) next
  pub deep : new.depth ≡ walk.depth

-- The last item within a nest is the one that came.
key_kept : (allowed : Spelling) (depth whole levels : ℕ) (nest : Nest) (outer : List Nest) (before item : List ℕ)
    (key : Key)
    → StandsBehind allowed depth whole (nest ∷ outer) before → suc (length outer) + levels ≡ depth
    → IsItem allowed levels item → NamesItem item key → (earlier : ℕ) → suc nest.count ≡ suc earlier
    → IsBehindKey depth nest.header earlier outer (before ++ item) key
key_kept allowed depth whole levels nest outer before item key stands left is_item names earlier same =
    let count : nest.count ≡ earlier = omega (arith, same) in
    record {
      before = before;
      item = item;
      levels = levels;
      due = subst (λ (n : ℕ). StandsWithin depth (record { header = nest.header; count = n } ∷ outer) before) count
          (whole, stands_any allowed depth whole (nest ∷ outer) before stands);
      left = left;
      is_item = items_looser Any allowed (λ no. absurd cc) levels 1 item is_item;
      is = refl;
      names = names;
    }

more_due : (allowed : Spelling) (depth whole : ℕ) (walk new : Walk) (after : Remaining) (step : Option ℕ)
    → Steps walk new after step
    → (nests : List Nest) (before item : List ℕ) (levels : ℕ) → StandsBehind allowed depth whole nests before
    → KeepsNests depth walk nests → length nests + levels ≡ depth → IsItem allowed levels item
    → NamesItem item new.key → is_done after ≡ false → new.used ≡ walk.used
    → IsDue allowed depth whole new (before ++ item)
more_due allowed depth whole walk new after step s [] before item levels stands keeps left is_item names rest same =
    absurd (s.some keeps.used)
more_due allowed depth whole walk new after step s (nest ∷ nests) before item levels stands keeps left is_item names
    rest same =
    let used = keeps.used in
    let few = s.within in
    let at : walk.used - 1 ≡ length nests = omega (arith, used) in
    let kept = keeps.kept in
    let long = keeps.room in
    let wide = keeps.wide in
    let count = nest.count in
    let place : step ≡ index_in nest.header (suc count) =
    s.indexes nest.header count
    (subst (λ (k : ℕ). index_at walk.indexes k ≡ index_in nest.header count) (sym at) keeps.placed.0) in
    let is : IsRemaining nest.header (suc count) after =
    s.counts nest.header count
    (subst (λ (k : ℕ). IsRemaining nest.header count (remaining_at walk.levels k)) (sym at) kept.0) in
    let next : Nest = record { header = nest.header; count = suc count } in
    let inner = inner_of allowed depth whole nest nests before stands in
    let more = takes_more nest.header (suc count) after is rest in
    record {
      nests = next ∷ nests;
      within = goes_on allowed depth whole levels nest nests before item inner left is_item more.0;
      keeps = record {
        kept = subst (λ (z : List Remaining). AreKept z (next ∷ nests)) (sym s.written)
            (kept_more walk.levels nests next (walk.used - 1) after at (omega (arith, used, long, few)) is rest
            kept.2);
        used = same ∙ used;
        same_depth = s.deep ∙ keeps.same_depth;
        room = ap length s.written ∙ (length-set walk.levels (walk.used - 1) after ∙ long);
        placed = subst (λ (z : List (Option ℕ)). AreAt z (next ∷ nests)) (sym s.placed)
            (at_more walk.indexes nests next (walk.used - 1) step at (omega (arith, used, wide, few)) place
            keeps.placed.1);
        wide = ap length s.placed ∙ (length-set walk.indexes (walk.used - 1) step ∙ wide);
      };
      keyed = key_kept allowed depth whole levels nest nests before item new.key stands left is_item names;
    }

pub end_goes_on : (allowed : Spelling) (depth whole : ℕ) (walk new : Walk) (after : Remaining) (step : Option ℕ)
    → Steps walk new after step
    → (bytes : List ℕ)
    → IsBehindItem allowed depth whole walk new.key bytes → is_done after ≡ false → new.used ≡ walk.used
    → IsDueBehind allowed depth whole new bytes
end_goes_on allowed depth whole walk new after step s bytes behind rest same =
    let some = s.some in
    within_nest allowed depth whole new.used new bytes refl (omega (arith, same, some))
    (subst (λ (z : List ℕ). IsDue allowed depth whole new z) (sym behind.is)
    (more_due allowed depth whole walk new after step s behind.nests behind.before behind.item behind.levels
    behind.within behind.keeps behind.left behind.is_item behind.names rest same))

level_ends : (allowed : Spelling) (depth whole : ℕ) (walk new : Walk) (after : Remaining) (step : Option ℕ)
    → Steps walk new after step
    → (nests : List Nest) (before item : List ℕ) (levels : ℕ) → StandsBehind allowed depth whole nests before
    → KeepsNests depth walk nests → length nests + levels ≡ depth → IsItem allowed levels item
    → is_done after ≡ true → new.used ≡ walk.used - 1
    → IsBehindItem allowed depth whole new keys.Other (before ++ item)
level_ends allowed depth whole walk new after step s [] before item levels stands keeps left is_item done less =
    absurd (s.some keeps.used)
level_ends allowed depth whole walk new after step s (nest ∷ nests) before item levels stands keeps left is_item done
    less =
    let used = keeps.used in
    let few = s.within in
    let at : walk.used - 1 ≡ length nests = omega (arith, used) in
    let kept = keeps.kept in
    let count = nest.count in
    let is : IsRemaining nest.header (suc count) after =
    s.counts nest.header count
    (subst (λ (k : ℕ). IsRemaining nest.header count (remaining_at walk.levels k)) (sym at) kept.0) in
    let inner = inner_of allowed depth whole nest nests before stands in
    let level = inner.level in
    let same : levels ≡ inner.levels = omega (arith, level, left) in
    let item' = subst (λ (n : ℕ). IsItem allowed n item) same is_item in
    let all = items_item allowed inner.levels count inner.items item inner.are_items item' in
    let completes = all_read allowed nest.header inner.levels (suc count) (inner.items ++ item) after is done all in
    ends_nest allowed depth whole nest nests before item (inner.items ++ item) new inner refl completes (record {
      kept = subst (λ (z : List Remaining). AreKept z nests) (sym s.written)
          (kept_below walk.levels nests (walk.used - 1) after (omega (arith, at)) kept.2);
      used = less ∙ at;
      same_depth = s.deep ∙ keeps.same_depth;
      room = ap length s.written ∙ (length-set walk.levels (walk.used - 1) after ∙ keeps.room);
      placed = subst (λ (z : List (Option ℕ)). AreAt z nests) (sym s.placed)
          (at_below walk.indexes nests (walk.used - 1) step (omega (arith, at)) keeps.placed.1);
      wide = ap length s.placed ∙ (length-set walk.indexes (walk.used - 1) step ∙ keeps.wide);
    })

pub end_of_level : (allowed : Spelling) (depth whole : ℕ) (walk new : Walk) (after : Remaining) (step : Option ℕ)
    → Steps walk new after step
    → (key : Key) (bytes : List ℕ)
    → IsBehindItem allowed depth whole walk key bytes → is_done after ≡ true
    → new.used ≡ walk.used - 1 → IsBehindItem allowed depth whole new keys.Other bytes
end_of_level allowed depth whole walk new after step s key bytes behind done less =
    subst (λ (z : List ℕ). IsBehindItem allowed depth whole new keys.Other z) (sym behind.is)
    (level_ends allowed depth whole walk new after step s behind.nests behind.before behind.item behind.levels
    behind.within behind.keeps behind.left behind.is_item done less)

-- ---- the place of the item that is due

-- Outside of all nests the item that is due has no place.
no_place : (depth : ℕ) (nests : List Nest) (before : List ℕ) → length nests ≡ 0 → IsPlace depth nests before w.Nothing
no_place depth nests before none = grind arith

pub place_outside : (allowed : Spelling) (depth whole : ℕ) (walk : Walk) (before : List ℕ)
    (due : IsDue allowed depth whole walk before) → walk.used ≡ 0 → IsPlace depth due.nests before w.Nothing
place_outside allowed depth whole walk before due none =
    no_place depth due.nests before (sym due.keeps.used ∙ none)

-- A value is due after an odd number of items.
odd_pairs : (count more len half : ℕ) → count + 2 * more + 1 ≡ 2 * len → count ≡ 2 * half → ⊥
odd_pairs count more len half e f = omega (arith, e, f)

-- A key is due after an even number of items.
even_pairs : (count more len half : ℕ) → count + 2 * more ≡ 2 * len → count ≡ suc (2 * half) → ⊥
even_pairs count more len half e f = omega (arith, e, f)

odd_open : (count more half : ℕ) → count ≡ 2 * more + 1 → count ≡ 2 * half → ⊥
odd_open count more half e f = omega (arith, e, f)

even_open : (count more half : ℕ) → count ≡ 2 * more → count ≡ suc (2 * half) → ⊥
even_open count more half e f = omega (arith, e, f)

-- If a value remains, the nest is a map, and no key is due.
value_remains : (x : Header) (count : ℕ) (remaining : Remaining) → IsRemaining x count remaining
    → is_value remaining ≡ true
    → (len : Option ℕ) × (x ≡ h.Map len) × ((half : ℕ) → count ≡ 2 * half → ⊥)
value_remains (h.Map (Some len)) count (r.Value more) is due =
    (Some len, refl, λ half even. odd_pairs count more len half is even)
value_remains (h.Map None) count r.OpenValue is due =
    (None, refl, λ half even. odd_open count is.0 half is.1 even)
value_remains x count remaining is due = absurd (grind arith)

-- If no value remains, no value of a map is due.
no_value : (x : Header) (count : ℕ) (remaining : Remaining) → IsRemaining x count remaining
    → is_value remaining ≡ false → (len : Option ℕ) → x ≡ h.Map len → (half : ℕ) → count ≡ suc (2 * half) → ⊥
no_value x count remaining is none len same half odd = grind (arith, even_pairs, even_open)

-- A value has the place that its key names.
value_place : (depth : ℕ) (x : Header) (count : ℕ) (nests : List Nest) (before : List ℕ) (key : Key)
    (remaining : Remaining) → IsRemaining x count remaining → is_value remaining ≡ true
    → ((earlier : ℕ) → count ≡ suc earlier → IsBehindKey depth x earlier nests before key)
    → IsPlaceIn depth x count nests before (w.Key key)
value_place depth x count nests before key remaining is due keyed =
    let map = value_remains x count remaining is due in
    let place : IsPairPlace depth x count nests before (w.Key key) = record {
      key_due = λ half even. absurd (map.2 half even);
      value_due = λ half odd. (key, refl, keyed (2 * half) odd);
    } in
    subst (λ (y : Header). IsPlaceIn depth y count nests before (w.Key key)) (sym map.1)
    (subst (λ (y : Header). IsPairPlace depth y count nests before (w.Key key)) map.1 place)

-- The place of an item that is no value is its index, if it has one.
index_place : (depth : ℕ) (x : Header) (count : ℕ) (nests : List Nest) (before : List ℕ) (within : Within)
    (remaining : Remaining) → IsRemaining x count remaining → is_value remaining ≡ false
    → within ≡ place_of (index_in x count) → IsPlaceIn depth x count nests before within
index_place depth (h.Map len) count nests before within remaining is none same = record {
  key_due = λ half even. same;
  value_due = λ half odd. absurd (no_value (h.Map len) count remaining is none len refl half odd);
}
index_place depth x count nests before within remaining is none same = grind arith

value_kept : (depth : ℕ) (walk : Walk) (nests : List Nest) (before : List ℕ) → KeepsNests depth walk nests
    → IsKeyKept depth nests before walk.key → (walk.used ≡ 0 → ⊥)
    → is_value (remaining_at walk.levels (walk.used - 1)) ≡ true → IsPlace depth nests before (w.Key walk.key)
value_kept depth walk [] before keeps keyed some due = absurd (some keeps.used)
value_kept depth walk (nest ∷ nests) before keeps keyed some due =
    let used = keeps.used in
    let at : walk.used - 1 ≡ length nests = omega (arith, used) in
    value_place depth nest.header nest.count nests before walk.key (remaining_at walk.levels (length nests))
    keeps.kept.0 (subst (λ (n : ℕ). is_value (remaining_at walk.levels n) ≡ true) at due) keyed

pub place_value : (allowed : Spelling) (depth whole : ℕ) (walk : Walk) (before : List ℕ)
    (due : IsDue allowed depth whole walk before) → (walk.used ≡ 0 → ⊥)
    → is_value (remaining_at walk.levels (walk.used - 1)) ≡ true → IsPlace depth due.nests before (w.Key walk.key)
place_value allowed depth whole walk before due some value =
    value_kept depth walk due.nests before due.keeps due.keyed some value

index_kept : (depth : ℕ) (walk : Walk) (nests : List Nest) (before : List ℕ) (within : Within)
    → KeepsNests depth walk nests → (walk.used ≡ 0 → ⊥)
    → is_value (remaining_at walk.levels (walk.used - 1)) ≡ false
    → within ≡ place_of (index_at walk.indexes (walk.used - 1)) → IsPlace depth nests before within
index_kept depth walk [] before within keeps some none same = absurd (some keeps.used)
index_kept depth walk (nest ∷ nests) before within keeps some none same =
    let used = keeps.used in
    let at : walk.used - 1 ≡ length nests = omega (arith, used) in
    index_place depth nest.header nest.count nests before within (remaining_at walk.levels (length nests))
    keeps.kept.0 (subst (λ (n : ℕ). is_value (remaining_at walk.levels n) ≡ false) at none)
    (same ∙ ap place_of (ap (index_at walk.indexes) at ∙ keeps.placed.0))

pub place_index : (allowed : Spelling) (depth whole : ℕ) (walk : Walk) (before : List ℕ) (within : Within)
    (due : IsDue allowed depth whole walk before) → (walk.used ≡ 0 → ⊥)
    → is_value (remaining_at walk.levels (walk.used - 1)) ≡ false
    → within ≡ place_of (index_at walk.indexes (walk.used - 1)) → IsPlace depth due.nests before within
place_index allowed depth whole walk before within due some none same =
    index_kept depth walk due.nests before within due.keeps some none same
