-- Laws of the rewriting, and of its refusals.
use Rattle.std.proofs.Common.{◌≡◌, ℕ, ◌-◌, ◌<◌, ◌≤◌, List, [], ◌∷◌, ◌++◌, length, length-append, refl, sym, ◌∙◌}
use Rattle.std.proofs.Common.{ap, subst, arith, append-nil, append_assoc, false}
use Rattle.std.proofs.Common.{Result, Ok, Err, MatchResult}
use Rattle.cbor_skip.specs.Due.{ItemDue}
use Rattle.cbor_deterministic.specs.declared.TheConstants.{MAX_DEPTH}
use Rattle.cbor_canonical.specs.Meeting.{IsSameKey}
use Rattle.cbor_canonical.specs.Refusals.{HasSameKey}
use Rattle.ciborium_ll_io.specs.declared.io.Read.{Ghosts}
use Rattle.ciborium_ll_grammar.specs.declared.spelling.Spelling.{Spelling}
use Rattle.ciborium_ll_grammar.specs.declared.spelling.Spelling.TheVariants.{Any}
use Rattle.ciborium_ll_grammar.specs.Items.{IsItem}
use Rattle.ciborium_ll_decoder.specs.declared.dec.Decoder.{Decoder}
use Rattle.ciborium_ll_decoder.specs.declared.dec.Error.TheVariants as e
use Rattle.ciborium_ll_decoder.specs.Decoding.{spelling_of}
use Rattle.ciborium_ll_grammar.specs.Faults.{Syntax}
use Rattle.cbor_skip.specs.declared.SkipError.{SkipError}
use Rattle.cbor_skip.specs.declared.SkipError.TheVariants as s
use Rattle.cbor_skip.specs.ItemFaults.{BeginsWithItem}
use Rattle.cbor_skip.specs.SkippingTold.{SkipsTold}
use Rattle.cbor_skip.proofs.DueLaws.{no_item_fault, no_early_break, no_deep_nest}
use Rattle.cbor_deterministic.specs.declared.Order.{Order}
use Rattle.cbor_deterministic.specs.Deterministic.{HasDeterministic}
use Rattle.cbor_deterministic.specs.Deterministic.{IsDeterministic}
use Rattle.cbor_deterministic.specs.Spellings.{Encodes}
use Rattle.cbor_deterministic.specs.Values.{Value, Same}
use Rattle.cbor_deterministic.proofs.OneValue.{one_value}
use Rattle.cbor_deterministic.proofs.Law.{one_deterministic, some_value}
use Rattle.cbor_canonical.specs.Canonical.{IsRewritten, IsCanonical, IsFittingSpelling}
use Rattle.cbor_canonical.specs.Meeting.{MeetsAt, IsNoValue}
use Rattle.cbor_canonical.specs.Refusals.{HasRefusal, HasNoSimple, HasWhy, IsRefusalOf, IsUnwritten}
use Rattle.ciborium_ll_grammar.proofs.ItemLaws.{one_item}
use Rattle.cbor_deterministic.specs.Laws.{IsSpelling}
use Rattle.cbor_canonical.proofs.SpelledLaws.{none_more}
use Rattle.cbor_canonical.specs.Room.{IsTooSmall, LacksMemory}
use Rattle.cbor_canonical.specs.Runs.{Turns, FailsItem}
use Rattle.cbor_canonical.specs.declared.Stop.{Stop}
use Rattle.cbor_canonical.specs.declared.Stop.TheVariants as st
use Rattle.cbor_canonical.specs.declared.CanonicalError.{CanonicalError}
use Rattle.cbor_canonical.specs.declared.CanonicalError.TheVariants.{Refused, Memory}
use Rattle.cbor_canonical.specs.declared.Refusal.{Refusal}
use Rattle.cbor_canonical.specs.declared.Why.{Why}
use Rattle.cbor_canonical.specs.declared.Why.TheVariants as w
use Rattle.cbor_canonical.proofs.SameLaws.{same_trans, same_sym}

-- ---- laws

one_of : (v u : Value) (f : List ℕ) → Encodes v f → Encodes u f → v ≡ u
one_of v u f e i = (one_value v f e u f [] [] i refl).0

pub the_encoding : (ord : Order) (d other : ℕ) (v same : Value) (f w u : List ℕ) → IsRewritten ord d f w → Encodes v f
    → Same v same → IsDeterministic ord other u → Encodes same u → w ≡ u
the_encoding ord d other v same f w u r ev s iu eu =
    let o = one_of r.value v f r.spelled ev in
    one_deterministic ord d other r.same same w u r.is_deterministic r.encodes iu eu
    (same_trans (same_sym r.to) (subst (λ (z : Value). Same z same) (sym o) s))

pub again : (ord : Order) (d other : ℕ) (f w : List ℕ) → IsDeterministic ord other f → IsRewritten ord d f w → w ≡ f
again ord d other f w i r =
    let v = some_value ord other f i in
    let o = one_of r.value v.value f r.spelled v.encodes in
    one_deterministic ord d other r.same v.value w f r.is_deterministic r.encodes i v.encodes
    (subst (λ (z : Value). Same r.same z) o (same_sym r.to))

pub refused_has_none : (d place : ℕ) (bytes item rest : List ℕ) (why : Why) → HasRefusal d bytes why place
    → IsItem Any d item → IsFittingSpelling item → bytes ≡ item ++ rest → ⊥
refused_has_none d place bytes item rest w.Cut h i g z =
    no_item_fault Any d bytes (record { item = item; rest = rest; is_item = i; is = z }) h.0
refused_has_none d place bytes item rest w.Malformed h i g z =
    no_item_fault Any d bytes (record { item = item; rest = rest; is_item = i; is = z }) h.0
refused_has_none d place bytes item rest w.Break h i g z =
    no_early_break Any d bytes (record { item = item; rest = rest; is_item = i; is = z }) h.0
refused_has_none d place bytes item rest w.Deep h i g z =
    no_deep_nest Any d bytes (record { item = item; rest = rest; is_item = i; is = z }) h.0
refused_has_none d place bytes item rest w.NoSimple h i g z =
    h.1 rest (record { front = item; is = record { value = g.value; encodes = g.encodes }; whole = z })
refused_has_none d place bytes item rest w.DuplicateKey h i g z =
    h.1 rest (record { front = item; is = g; whole = z })

-- ---- the check that an item is there

module _ {R E : Type 0} (source : Ghosts R E) where
  refusal_go : (d offset : ℕ) (bytes : List ℕ) (old new : Decoder R) (skipped : Result (Unit {0}) (SkipError E))
      (result : Result ℕ Refusal) → SkipsTold source Any d bytes old skipped new → old.offset ≡ 0
      → offset ≡ new.offset → IsRefusalOf (length bytes) offset skipped result
      → MatchResult result (λ len. (front : BeginsWithItem Any d bytes) × (len ≡ length front.item))
      (λ r. HasRefusal d bytes r.why r.place)
  refusal_go d offset bytes old new (Ok done) (Ok other) told start end is =
      (told.front, omega (arith, is, end, told.offset, start))
  refusal_go d offset bytes old new (Ok done) (Err r) told start end is = absurd is
  refusal_go d offset bytes old new (Err (s.Break place)) (Ok other) told start end is = absurd is
  refusal_go d offset bytes old new (Err (s.Break place)) (Err r) told start end is =
      rw is.0 (told.fault, omega (arith, is.1, told.place, start))
  refusal_go d offset bytes old new (Err (s.Deep place)) (Ok other) told start end is = absurd is
  refusal_go d offset bytes old new (Err (s.Deep place)) (Err r) told start end is =
      rw is.0 (told.fault, omega (arith, is.1, told.place, start))
  refusal_go d offset bytes old new (Err (s.Read (e.Syntax place))) (Ok other) told start end is = absurd is
  refusal_go d offset bytes old new (Err (s.Read (e.Syntax place))) (Err r) told start end is =
      let named : told.0 ≡ r.place = omega (arith, told.1, start, is.1) in
      rw is.0 (told.2.fault, told.2.answered ∙ ap Syntax named)
  refusal_go d offset bytes old new (Err (s.Read (e.Io fault))) (Ok other) told start end is = absurd is
  refusal_go d offset bytes old new (Err (s.Read (e.Io fault))) (Err r) told start end is =
      rw is.0 (told.fault, told.answered, is.1)
  refusal_go d offset bytes old new (Err (s.Read e.TooLong)) result told start end is = absurd told
  refusal_go d offset bytes old new (Err (s.Read e.Waiting)) result told start end is = absurd told

  pub refusal_said : (d offset : ℕ) (bytes : List ℕ) (old new : Decoder R) (skipped : Result (Unit {0}) (SkipError E))
      (result : Result ℕ Refusal) → SkipsTold source (spelling_of old) d bytes old skipped new
      → spelling_of old ≡ Any → old.offset ≡ 0 → offset ≡ new.offset → IsRefusalOf (length bytes) offset skipped result
      → MatchResult result (λ len. (front : BeginsWithItem Any d bytes) × (len ≡ length front.item))
      (λ r. HasRefusal d bytes r.why r.place)
  refusal_said d offset bytes old new skipped result told mode start end is =
      refusal_go d offset bytes old new skipped result
      (subst (λ (b : Spelling). SkipsTold source b d bytes old skipped new) mode told) start end is

-- ---- the answer

-- An item begins its own bytes.
pub alone : (d : ℕ) (item : List ℕ) → IsItem Any d item → BeginsWithItem Any d item
alone d item i = record { item = item; rest = []; is_item = i; is = sym (append-nil item) }

-- What a call writes for an item alone.
pub item_written : (ord : Order) (d : ℕ) (item rest start written : List ℕ) → start ≡ [] → IsItem Any d item
    → Turns (IsRewritten ord d) item rest start written → IsRewritten ord d item written
item_written ord d item rest start written e i t =
    let one = one_item Any Any d d t.front item rest [] t.is.is_item i (sym t.whole ∙ sym (append-nil item)) in
    subst (λ (z : List ℕ). IsRewritten ord d z written) one.0
    (subst (λ (z : List ℕ). IsRewritten ord d t.front z)
    (sym (t.wrote ∙ ap (λ (z : List ℕ). z ++ t.written) e)) t.is)

-- An item that is rewritten at the start of the output begins the bytes.
pub first_written : (ord : Order) (d : ℕ) (bytes rest start written : List ℕ) → start ≡ []
    → Turns (IsRewritten ord d) bytes rest start written → IsCanonical ord d bytes rest written
first_written ord d bytes rest start written e t = record {
  item = t.front;
  whole = t.whole;
  is = subst (λ (z : List ℕ). IsRewritten ord d t.front z)
      (sym (t.wrote ∙ ap (λ (z : List ℕ). z ++ t.written) e)) t.is;
}

-- What is refused of an item is refused of the bytes that it begins.
pub unwritten_more : (d : ℕ) (bytes item rest : List ℕ) (error : CanonicalError) → IsItem Any d item
    → bytes ≡ item ++ rest → IsUnwritten d item error → IsUnwritten d bytes error
unwritten_more d bytes item rest Memory i z q =
    record { item = item; rest = rest; is_item = i; is = z }
unwritten_more d bytes item rest (Refused r) i z q = go r.why r.place q
  where
    all : BeginsWithItem Any d bytes
    all = record { item = item; rest = rest; is_item = i; is = z }

    go : (why : Why) (place : ℕ) → HasRefusal d item why place → HasRefusal d bytes why place
    go w.Cut place h = absurd (no_item_fault Any d item (alone d item i) h.0)
    go w.Malformed place h = absurd (no_item_fault Any d item (alone d item i) h.0)
    go w.Break place h = absurd (no_early_break Any d item (alone d item i) h.0)
    go w.Deep place h = absurd (no_deep_nest Any d item (alone d item i) h.0)
    go w.NoSimple place h = (
      all,
      none_more IsSpelling d bytes item rest (λ f s. s) i z h.1,
      record {
        before = h.2.before;
        number = h.2.number;
        rest = h.2.rest ++ rest;
        levels = h.2.levels;
        closable = h.2.closable;
        item_due = h.2.item_due;
        least = h.2.least;
        most = h.2.most;
        is = z ∙ ap (λ (v : List ℕ). v ++ rest) h.2.is
            ∙ append_assoc h.2.before (0xf8 ∷ h.2.number ∷ h.2.rest) rest;
        place_is = h.2.place_is;
      },
    )
    go w.DuplicateKey place h =
        let k = h.2 in (
          all,
          none_more IsFittingSpelling d bytes item rest
              (λ f s. record { value = s.value; encodes = s.encodes }) i z h.1,
          record {
            before = k.before;
            title = k.title;
            count = k.count;
            levels = k.levels;
            closable = k.closable;
            item_due = k.item_due;
            is_title = k.is_title;
            pairs = k.pairs;
            front = k.front;
            front_items = k.front_items;
            key = k.key;
            is_key = k.is_key;
            more = k.more;
            between = k.between;
            between_items = k.between_items;
            again = k.again;
            is_again = k.is_again;
            value = k.value;
            other = k.other;
            key_encodes = k.key_encodes;
            again_encodes = k.again_encodes;
            same = k.same;
            rest = k.rest ++ rest;
            is = z ∙ ap (λ (v : List ℕ). v ++ rest) k.is ∙ simp append_assoc;
            place_is = k.place_is;
          },
        )

-- Memory that is too small for an item is too small for the bytes that it begins.
pub lacks_memory : (order : Order) (d room places : ℕ) (bytes item rest : List ℕ) → IsItem Any d item
    → bytes ≡ item ++ rest → IsTooSmall (length item) room places
    → ((len : ℕ) → HasDeterministic order d bytes len → room < len) → LacksMemory order d bytes room places
lacks_memory order d room places bytes item rest i z small kept = record {
  front = record { item = item; rest = rest; is_item = i; is = z };
  small = small;
  kept = kept;
}

-- A simple value that a call meets is one in the item, at the place that many bytes before the end.
no_simple_there : (d left place : ℕ) (bytes : List ℕ) → MeetsAt (IsNoValue left) d bytes
    → place ≡ length bytes - left → HasNoSimple d bytes place
no_simple_there d left place bytes m e =
    let due = m.due false in
    let long = m.is.left_is in
    record {
      before = m.before;
      number = m.is.number;
      rest = m.is.rest;
      levels = m.levels;
      closable = due.0;
      item_due = due.1;
      least = m.is.least;
      most = m.is.most;
      is = m.whole ∙ ap (λ (z : List ℕ). m.before ++ z) m.is.is;
      place_is = omega (arith, e, long, ap (length {A = ℕ}) m.whole, length-append m.before m.tail);
    }

pub no_simple : (d left : ℕ) (bytes : List ℕ) (stop : Stop) (error : CanonicalError)
    → HasWhy w.NoSimple (length bytes - left) error → BeginsWithItem Any d bytes → stop ≡ st.NoSimple left
    → FailsItem d bytes stop → IsUnwritten d bytes error
no_simple d left bytes stop (Refused r) e i s q =
    let f = subst (λ (z : Stop). FailsItem d bytes z) s q in
    rw e.0 (i, f.0, no_simple_there d left r.place bytes f.1 e.1)
no_simple d left bytes stop Memory e i s q = i

-- A key that a call meets is in the item, at the place that many bytes before the end.
same_key_there : (d left place : ℕ) (bytes : List ℕ) → MeetsAt (IsSameKey left) d bytes
    → place ≡ length bytes - left → HasSameKey d bytes place
same_key_there d left place bytes m e =
    let due = m.due false in
    let k = m.is in
    let whole : bytes ≡ m.before ++ (k.title ++ (k.front ++ (k.key ++ (k.between ++ (k.again ++ k.rest))))) =
    m.whole ∙ ap (λ (z : List ℕ). m.before ++ z) k.is in
    record {
      before = m.before;
      title = k.title;
      count = k.count;
      levels = k.inner;
      closable = due.0;
      item_due = subst (λ (n : ℕ). ItemDue Any false d m.before n due.0) k.deeper due.1;
      is_title = k.is_title;
      pairs = k.pairs;
      front = k.front;
      front_items = k.before;
      key = k.key;
      is_key = k.is_key;
      more = k.more;
      between = k.between;
      between_items = k.after;
      again = k.again;
      is_again = k.is_again;
      value = k.value;
      other = k.other;
      key_encodes = k.key_encodes;
      again_encodes = k.again_encodes;
      same = k.same;
      rest = k.rest;
      is = whole;
      place_is = omega (
        arith,
        e,
        k.left_is,
        ap (length {A = ℕ}) whole,
        length-append m.before (k.title ++ (k.front ++ (k.key ++ (k.between ++ (k.again ++ k.rest))))),
        length-append k.title (k.front ++ (k.key ++ (k.between ++ (k.again ++ k.rest)))),
        length-append k.front (k.key ++ (k.between ++ (k.again ++ k.rest))),
        length-append k.key (k.between ++ (k.again ++ k.rest)),
        length-append k.between (k.again ++ k.rest),
        length-append m.before (k.title ++ (k.front ++ (k.key ++ k.between))),
        length-append k.title (k.front ++ (k.key ++ k.between)),
        length-append k.front (k.key ++ k.between),
        length-append k.key k.between,
      );
    }

pub duplicate_key : (d left : ℕ) (bytes : List ℕ) (stop : Stop) (error : CanonicalError)
    → HasWhy w.DuplicateKey (length bytes - left) error → BeginsWithItem Any d bytes → stop ≡ st.Duplicate left
    → d ≤ MAX_DEPTH → FailsItem d bytes stop → IsUnwritten d bytes error
duplicate_key d left bytes stop (Refused r) e i s shallow q =
    let f = subst (λ (z : Stop). FailsItem d bytes z) s q in
    rw e.0 (i, f.0, same_key_there d left r.place bytes (f.1 shallow) e.1)
duplicate_key d left bytes stop Memory e i s shallow q = i

pub item_there : (d : ℕ) (bytes : List ℕ) (stop : Stop) → BeginsWithItem Any d bytes → stop ≡ st.Malformed
    → FailsItem d bytes stop → ⊥
item_there d bytes stop i s q =
    (subst (λ (z : Stop). FailsItem d bytes z) s q).0 i.rest
    (record { front = i.item; is = i.is_item; whole = i.is })
