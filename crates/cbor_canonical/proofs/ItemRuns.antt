-- The rewriting of each kind of item.
use Rattle.std.proofs.Common.{◌≡◌, ℕ, suc, ◌+◌, ◌<◌, ◌≤◌, ◌^◌, ◌⊎◌, inl, inr, List, [], ◌∷◌, ◌++◌, length}
use Rattle.std.proofs.Common.{Option, Some, None, refl, sym, ◌∙◌, ap, subst, arith, append_assoc, append-nil, take}
use Rattle.ciborium_ll_text.specs.Text.{joined}
use Rattle.ciborium_ll_grammar.specs.declared.spelling.Spelling.TheVariants.{Any}
use Rattle.ciborium_ll_grammar.specs.declared.hdr.Header.{Header}
use Rattle.ciborium_ll_grammar.specs.declared.hdr.Header.TheVariants as h
use Rattle.ciborium_ll_grammar.specs.declared.hdr.Float.{Float as AnyFloat}
use Rattle.ciborium_ll_grammar.specs.Title.{HasFirstTitle, IsTitle, shortest_title, IsInRange, IsSmallSimple}
use Rattle.ciborium_ll_grammar.specs.Strings.{Kind, Bytes as OfBytes, Text as OfText, kind_header}
use Rattle.ciborium_ll_grammar.specs.Elements.{body_spelling}
use Rattle.ciborium_ll_grammar.specs.Items.{Completes as CompletesAny, AreItems, IsItem, no_items as none_any}
use Rattle.ciborium_ll_grammar.specs.Items.{positive as any_positive, negative as any_negative, simple as any_simple}
use Rattle.ciborium_ll_grammar.specs.Items.{float as any_float, byte_string as any_bytes, text_string as any_text}
use Rattle.ciborium_ll_grammar.specs.Items.{open_bytes as any_open_bytes, open_text as any_open_text, tag as any_tag}
use Rattle.ciborium_ll_grammar.specs.Items.{array as any_array, open_array as any_open_array}
use Rattle.ciborium_ll_grammar.proofs.TitleLaws.{title_in_range}
use Rattle.cbor_deterministic.specs.declared.Order.{Order}
use Rattle.cbor_deterministic.specs.Preferred.{IsIndefinite, IsWide}
use Rattle.cbor_deterministic.specs.Floats.{IsFloatOf, double_of, single_of, half_of}
use Rattle.cbor_deterministic.specs.Values.{Value, Values, Unsigned, Negative, Bytes, Text, Array, Tagged, Simple}
use Rattle.cbor_deterministic.specs.Values.{Float}
use Rattle.cbor_deterministic.specs.Values.{End, Item, item_count, Same, SameAll, same_unsigned, same_negative}
use Rattle.cbor_deterministic.specs.Values.{same_bytes}
use Rattle.cbor_deterministic.specs.Values.{same_text, same_array, same_tagged, same_simple, same_float, same_end}
use Rattle.cbor_deterministic.specs.Values.{same_item}
use Rattle.cbor_deterministic.specs.Fitting.{Fits, fits_unsigned, fits_negative, fits_bytes, fits_text, fits_array}
use Rattle.cbor_deterministic.specs.Fitting.{fits_tagged, fits_simple, fits_float, AllFit, fits_end, fits_item}
use Rattle.cbor_deterministic.specs.Deterministic.{Completes, AreDeterministic, item, no_items}
use Rattle.cbor_deterministic.specs.Deterministic.{more_items}
use Rattle.cbor_deterministic.specs.Deterministic.Completes.{positive as c_positive, negative as c_negative}
use Rattle.cbor_deterministic.specs.Deterministic.Completes.{simple as c_simple, float as c_float, tag as c_tag}
use Rattle.cbor_deterministic.specs.Deterministic.Completes.{byte_string as c_bytes, text_string as c_text}
use Rattle.cbor_deterministic.specs.Deterministic.Completes.{array as c_array}
use Rattle.cbor_deterministic.specs.Spellings.{Follows, encodes, EncodeAll, encode_end, encode_item}
use Rattle.cbor_deterministic.specs.Spellings.{follows_positive, follows_negative, follows_simple, follows_float}
use Rattle.cbor_deterministic.specs.Spellings.{follows_bytes, follows_text, follows_tag, follows_array}
use Rattle.cbor_deterministic.specs.Spellings.{follows_open_bytes, follows_open_text, follows_open_array}
use Rattle.cbor_deterministic.proofs.TitleRuns.{shortest_preferred}
use Rattle.cbor_deterministic.proofs.FloatFacts.{float_bits}
use Rattle.ciborium_ll_grammar.proofs.ItemJoins.{item_before}
use Rattle.cbor_skip.proofs.ItemSteps.{item_of}
use Rattle.cbor_canonical.specs.Narrowing.{IsNarrowestOf}
use Rattle.cbor_canonical.specs.Canonical.{IsRewritten}
use Rattle.cbor_canonical.specs.Strings.{IsContent, told, until_break, IsStringTurned}
use Rattle.cbor_canonical.specs.Runs.{Turns, IsCompleted, AreRewritten, none_rewritten, more_rewritten, EndsNest}
use Rattle.cbor_canonical.specs.Runs.{counted}
use Rattle.cbor_canonical.specs.Runs.{at_break, TurnsItems}
use Rattle.cbor_canonical.specs.Writing.{Adds, Extends, Inserts}
use Rattle.cbor_canonical.proofs.StringRuns.{joined_writable}
use Rattle.std.proofs.lemmas.List.{length-take-le}

-- Two pieces that were written one after the other are one piece.
pub two_pieces : (old mid new a b : List ℕ) → mid ≡ old ++ a → new ≡ mid ++ b → new ≡ old ++ (a ++ b)
two_pieces old mid new a b e f = f ∙ ap (λ (z : List ℕ). z ++ b) e ∙ append_assoc old a b

-- A shortest title and contents are the rewriting of an item whose value is the same.
pub made : {ord : Order} (d : ℕ) (y x : Header) (v w : Value) (t front rest : List ℕ) → IsTitle t y
    → CompletesAny Any d y front → Follows y v front → Fits v → IsInRange x → (IsSmallSimple x → ⊥)
    → (IsIndefinite x → ⊥) → (IsWide x → ⊥) → Completes ord d x rest → Follows x w rest → Same v w
    → IsRewritten ord d (t ++ front) (shortest_title x ++ rest)
made d y x v w t front rest p c f fit r s i wide k g to =
    let q = shortest_preferred x r s i wide in
    record {
      is_item = item_of Any d t front y p tt c;
      value = v;
      same = w;
      spelled = encodes p f;
      fits = fit;
      is_deterministic = item q k;
      encodes = encodes q.is_title g;
      to = to;
    }

-- ---- numbers

-- A call writes a title without contents.
alone : (P : List ℕ → List ℕ → Type 0) (x : Header) (bytes old new : List ℕ) → P [] (shortest_title x)
    → new ≡ old ++ shortest_title x → Turns P bytes bytes old new
alone P x bytes old new is e = record { front = []; written = shortest_title x; is = is; whole = refl; wrote = e }

single : {ord : Order} (d : ℕ) (y x : Header) (v : Value) → ((t : List ℕ) → IsTitle t y → IsRewritten ord d (t ++ [])
    (shortest_title x ++ [])) → IsCompleted ord d y [] (shortest_title x)
single {ord = o} d y x v f t p =
    subst (λ (z : List ℕ). IsRewritten o d (t ++ []) z) (append-nil (shortest_title x)) (f t p)

module _ {ord : Order} (d : ℕ) (y : Header) (bytes old new : List ℕ) where
  pub positive_turned : (n : ℕ) → y ≡ h.Positive n → new ≡ old ++ shortest_title y
      → Turns (IsCompleted ord d y) bytes bytes old new
  positive_turned n e w = rw e (alone (IsCompleted ord d (h.Positive n)) (h.Positive n) bytes old new
      (single d (h.Positive n) (h.Positive n) (Unsigned n) (λ t p.
      let r = title_in_range t (h.Positive n) p in
      made d (h.Positive n) (h.Positive n) (Unsigned n) (Unsigned n) t [] [] p any_positive follows_positive
      (fits_unsigned r) r (λ u. u) (λ u. u) (λ u. u) c_positive follows_positive same_unsigned))
      (rw e at w))

  pub negative_turned : (n : ℕ) → y ≡ h.Negative n → new ≡ old ++ shortest_title y
      → Turns (IsCompleted ord d y) bytes bytes old new
  negative_turned n e w = rw e (alone (IsCompleted ord d (h.Negative n)) (h.Negative n) bytes old new
      (single d (h.Negative n) (h.Negative n) (Negative n) (λ t p.
      let r = title_in_range t (h.Negative n) p in
      made d (h.Negative n) (h.Negative n) (Negative n) (Negative n) t [] [] p any_negative follows_negative
      (fits_negative r) r (λ u. u) (λ u. u) (λ u. u) c_negative follows_negative same_negative))
      (rw e at w))

  pub number_turned : ((n : ℕ) × (y ≡ h.Positive n)) ⊎ ((n : ℕ) × (y ≡ h.Negative n)) → new ≡ old ++ shortest_title y
      → Turns (IsCompleted ord d y) bytes bytes old new
  number_turned (inl e) w = positive_turned e.0 e.1 w
  number_turned (inr e) w = negative_turned e.0 e.1 w

  pub simple_turned : (n : ℕ) → y ≡ h.Simple n → (n < 24) ⊎ (32 ≤ n)
      → new ≡ old ++ shortest_title (h.Simple n) → Turns (IsCompleted ord d y) bytes bytes old new
  simple_turned n e big w = rw e (alone (IsCompleted ord d (h.Simple n)) (h.Simple n) bytes old new
      (single d (h.Simple n) (h.Simple n) (Simple n) (λ t p.
      let r = title_in_range t (h.Simple n) p in
      made d (h.Simple n) (h.Simple n) (Simple n) (Simple n) t [] [] p any_simple (follows_simple (small big))
      (fits_simple (range big r)) r (small big) (λ u. u) (λ u. u) c_simple (follows_simple (small big)) same_simple))
      w)
    where
      small : (n < 24) ⊎ (32 ≤ n) → (24 ≤ n) × (n < 32) → ⊥
      small (inl l) s = omega (arith, s.0)
      small (inr l) s = omega (arith, s.1)

      range : (n < 24) ⊎ (32 ≤ n) → n < 2 ^ 8 → (n < 24) ⊎ ((32 ≤ n) × (n < 2 ^ 8))
      range (inl l) r = inl l
      range (inr l) r = inr (l, r)

pub float_fits : (x : AnyFloat) (bits : ℕ) → IsFloatOf x bits → bits < 2 ^ 64
float_fits x bits (double_of l) = l
float_fits x bits (single_of l i) = l
float_fits x bits (half_of b l i m j) = m

pub float_turned : {ord : Order} (d : ℕ) (y : Header) (x narrow : AnyFloat) (bytes old new : List ℕ) → y ≡ h.Float x
    → IsNarrowestOf x narrow → IsInRange (h.Float narrow) → new ≡ old ++ shortest_title (h.Float narrow)
    → Turns (IsCompleted ord d y) bytes bytes old new
float_turned {ord = o} d y x narrow bytes old new e n r w =
    rw e (alone (IsCompleted o d (h.Float x)) (h.Float narrow) bytes old new
    (single d (h.Float x) (h.Float narrow) (Float 0) (λ t p.
    let b = float_bits x (title_in_range t (h.Float x) p) in
    made d (h.Float x) (h.Float narrow) (Float b.bits) (Float b.bits) t [] [] p any_float (follows_float b.is)
    (fits_float (float_fits x b.bits b.is)) r (λ u. u) (λ u. u) n.not_wide c_float
    (follows_float (n.same b.bits b.is)) same_float)) w)

-- ---- strings

pub string_turned : {ord : Order} (d : ℕ) (k : Kind) (len : Option ℕ) (y : Header) (bytes rest old new : List ℕ)
    → y ≡ kind_header k len → Turns (IsStringTurned k len) bytes rest old new
    → Turns (IsCompleted ord d y) bytes rest old new
string_turned {ord = o} d k len y bytes rest old new e t = rw e (record {
  front = t.front;
  written = t.written;
  is = subst (λ (z : List ℕ). IsCompleted o d (kind_header k len) t.front z) (sym t.is.spelled)
      (go k len t.front t.is.body t.is.content t.is.range);
  whole = t.whole;
  wrote = t.wrote;
})
  where
    go : (k : Kind) (len : Option ℕ) (front body : List ℕ) → IsContent k len front body → length body < 2 ^ 64
        → IsCompleted o d (kind_header k len) front (body_spelling k body)
    go OfBytes len front body (told w) r i p =
        made d (h.Bytes (Some (length front))) (h.Bytes (Some (length front))) (Bytes front) (Bytes front) i front front
        p (any_bytes refl) (follows_bytes refl) (fits_bytes r) r (λ u. u) (λ u. u) (λ u. u) (c_bytes refl)
        (follows_bytes refl) same_bytes
    go OfText len front body (told w) r i p =
        made d (h.Text (Some (length front))) (h.Text (Some (length front))) (Text front) (Text front) i front front p
        (any_text refl w) (follows_text refl w) (fits_text r w) r (λ u. u) (λ u. u) (λ u. u) (c_text refl w)
        (follows_text refl w) same_text
    go OfBytes len front body (until_break {strings = s} {bodies = bs} q a) r i p =
        made d (h.Bytes None) (h.Bytes (Some (length (joined bs)))) (Bytes (joined bs)) (Bytes (joined bs)) i
        (s ++ 0xff ∷ []) (joined bs) p (any_open_bytes q tt) (follows_open_bytes q) (fits_bytes r) r (λ u. u) (λ u. u)
        (λ u. u) (c_bytes refl) (follows_bytes refl) same_bytes
    go OfText len front body (until_break {strings = s} {bodies = bs} q a) r i p =
        let w = joined_writable OfText bs a in
        made d (h.Text None) (h.Text (Some (length (joined bs)))) (Text (joined bs)) (Text (joined bs)) i
        (s ++ 0xff ∷ []) (joined bs) p (any_open_text q tt a) (follows_open_text q a) (fits_text r w) r (λ u. u)
        (λ u. u) (λ u. u) (c_text refl w) (follows_text refl w) same_text

-- ---- one item

pub item_turned : {ord : Order} (d : ℕ) (x : Header) (bytes rest more old new : List ℕ)
    → HasFirstTitle bytes x rest → Turns (IsCompleted ord d x) rest more old new
    → Turns (IsRewritten ord d) bytes more old new
item_turned d x bytes rest more old new f g = record {
  front = f.title ++ g.front;
  written = g.written;
  is = g.is f.title f.is_title;
  whole = f.whole ∙ ap (λ (z : List ℕ). f.title ++ z) g.whole ∙ sym (append_assoc f.title g.front more);
  wrote = g.wrote;
}

pub tag_turned : {ord : Order} (e d n : ℕ) (y : Header) (bytes rest old mid new : List ℕ) → y ≡ h.Tag n → suc d ≡ e
    → mid ≡ old ++ shortest_title (h.Tag n) → Turns (IsRewritten ord d) bytes rest mid new
    → Turns (IsCompleted ord e y) bytes rest old new
tag_turned {ord = o} e d n y bytes rest old mid new is deep b g = rw (is, ← deep) (record {
  front = g.front;
  written = shortest_title (h.Tag n) ++ g.written;
  is = λ t p.
      let r = g.is in
      let l = title_in_range t (h.Tag n) p in
      made (suc d) (h.Tag n) (h.Tag n) (Tagged n r.value) (Tagged n r.same) t g.front g.written p (any_tag r.is_item)
      (follows_tag r.spelled) (fits_tagged l r.fits) l (λ u. u) (λ u. u) (λ u. u) (c_tag r.is_deterministic)
      (follows_tag r.encodes) (same_tagged r.to);
  whole = g.whole;
  wrote = two_pieces old mid new (shortest_title (h.Tag n)) g.written b g.wrote;
})

-- The contents of a nest complete an item a level above.
pub nest_turned : {ord : Order} (e d : ℕ) (y x : Header) (bytes rest : List ℕ) (at end : ℕ) (old new : List ℕ)
    → y ≡ x → suc d ≡ e → Extends (Turns (IsCompleted ord (suc d) x) bytes rest) at end old new
    → Extends (Turns (IsCompleted ord e y) bytes rest) at end old new
nest_turned e d y x bytes rest at end old new is deep g = rw (is, ← deep) g

-- ---- items

-- One item and n items after it, joined, are n + 1 items.
pub join : (d n : ℕ) (w others : List ℕ) → IsItem Any d w → AreItems Any d n others
    → AreItems Any d (suc n) (w ++ others)
join d n w others i is = item_before Any d n w others i is

pub record AllOf (ord : Order) (d n : ℕ) (bytes written : List ℕ) : Type 0 where
  pub items : AreItems Any d n bytes
  pub values : Values
  pub same : Values
  pub spelled : EncodeAll values bytes
  pub fits : AllFit values
  pub count : item_count values ≡ n
  pub encodes : EncodeAll same written
  pub same_count : item_count same ≡ n
  pub are : AreDeterministic ord d n written
  pub to : SameAll values same

pub all_of : {ord : Order} (d n : ℕ) (bytes written : List ℕ) → AreRewritten ord d n bytes written
    → AllOf ord d n bytes written
all_of d n bytes written none_rewritten = record {
  items = none_any;
  values = End;
  same = End;
  spelled = encode_end;
  fits = fits_end;
  count = refl;
  encodes = encode_end;
  same_count = refl;
  are = no_items;
  to = same_end;
}
all_of d n bytes written (more_rewritten {count = m} {bytes = f} {others = fs} {written = w} {more = ws} r rs) =
    let a = all_of d m fs ws rs in
    record {
      items = join d m f fs r.is_item a.items;
      values = Item r.value a.values;
      same = Item r.same a.same;
      spelled = encode_item r.spelled a.spelled;
      fits = fits_item r.fits a.fits;
      count = ap suc a.count;
      encodes = encode_item r.encodes a.encodes;
      same_count = ap suc a.same_count;
      are = more_items r.is_deterministic a.are;
      to = same_item r.to a.to;
    }

-- The items of an array, and its end, complete the array.
array_completes : (d n : ℕ) (o : Option ℕ) (items tail : List ℕ) → EndsNest o n tail → AreItems Any d n items
    → CompletesAny Any (suc d) (h.Array o) (items ++ tail)
array_completes d n o items tail counted i =
    subst (λ (z : List ℕ). CompletesAny Any (suc d) (h.Array (Some n)) z) (sym (append-nil items)) (any_array i)
array_completes d n o items tail at_break i = any_open_array i

array_follows : (n : ℕ) (o : Option ℕ) (vs : Values) (items tail : List ℕ) → EndsNest o n tail → item_count vs ≡ n
    → EncodeAll vs items → Follows (h.Array o) (Array vs) (items ++ tail)
array_follows n o vs items tail counted c i =
    subst (λ (z : List ℕ). Follows (h.Array (Some n)) (Array vs) z) (sym (append-nil items)) (follows_array c i)
array_follows n o vs items tail at_break c i = follows_open_array i

pub array_turned : {ord : Order} (d n : ℕ) (o : Option ℕ) (bytes rest start body old mid new : List ℕ)
    → IsInRange (h.Array (Some n)) → mid ≡ old ++ shortest_title (h.Array (Some n))
    → TurnsItems ord d o n bytes rest start body → ((w : List ℕ) → body ≡ start ++ w → new ≡ mid ++ w)
    → Turns (IsCompleted ord (suc d) (h.Array o)) bytes rest old new
array_turned d n o bytes rest start body old mid new r b g f = record {
  front = g.items ++ g.tail;
  written = shortest_title (h.Array (Some n)) ++ g.written;
  is = λ t p.
      let a = all_of d n g.items g.written g.are in
      made (suc d) (h.Array o) (h.Array (Some n)) (Array a.values) (Array a.same) t (g.items ++ g.tail) g.written p
      (array_completes d n o g.items g.tail g.ends a.items) (array_follows n o a.values g.items g.tail g.ends a.count
      a.spelled) (fits_array (subst (λ (m : ℕ). m < 2 ^ 64) (sym a.count) r) a.fits) r (λ u. u) (λ u. u) (λ u. u)
      (c_array a.are) (follows_array a.same_count a.encodes) (same_array a.to);
  whole = g.whole ∙ sym (append_assoc g.items g.tail rest);
  wrote = two_pieces old mid new (shortest_title (h.Array (Some n))) g.written b (f g.written g.wrote);
}

-- ---- the loop over items

pub record ItemsSoFar (ord : Order) (d n : ℕ) (bytes rest old now : List ℕ) : Type 0 where
  pub items : List ℕ
  pub written : List ℕ
  pub are : AreRewritten ord d n items written
  pub whole : bytes ≡ items ++ rest
  pub wrote : now ≡ old ++ written

pub items_start : {ord : Order} (d : ℕ) (bytes old : List ℕ) → ItemsSoFar ord d 0 bytes bytes old old
items_start d bytes old = record {
  items = [];
  written = [];
  are = none_rewritten;
  whole = refl;
  wrote = sym (append-nil old);
}

rewritten_more : {ord : Order} (d n : ℕ) (bytes written f w : List ℕ) → AreRewritten ord d n bytes written
    → IsRewritten ord d f w → AreRewritten ord d (suc n) (bytes ++ f) (written ++ w)
rewritten_more d n bytes written f w none_rewritten r = simp append-nil at (more_rewritten r none_rewritten)
rewritten_more d n bytes written f w
    (more_rewritten {count = m} {bytes = x} {others = xs} {written = y} {more = ys} q qs) r =
    simp append_assoc (more_rewritten q (rewritten_more d m xs ys f w qs r))

pub items_more : {ord : Order} (d n m : ℕ) (bytes rest after old now next : List ℕ)
    → ItemsSoFar ord d n bytes rest old now → m ≡ n + 1 → Turns (IsRewritten ord d) rest after now next
    → ItemsSoFar ord d m bytes after old next
items_more {ord = o} d n m bytes rest after old now next s e t = record {
  items = s.items ++ t.front;
  written = s.written ++ t.written;
  are = subst (λ (k : ℕ). AreRewritten o d k (s.items ++ t.front) (s.written ++ t.written)) (omega arith)
      (rewritten_more d n s.items s.written t.front t.written s.are t.is);
  whole = s.whole ∙ ap (λ (z : List ℕ). s.items ++ z) t.whole ∙ sym (append_assoc s.items t.front after);
  wrote = two_pieces old now next s.written t.written s.wrote t.wrote;
}

pub items_done : {ord : Order} (d n : ℕ) (o : Option ℕ) (bytes rest old now : List ℕ)
    → ItemsSoFar ord d n bytes rest old now → o ≡ Some n → TurnsItems ord d o n bytes rest old now
items_done {ord = r} d n o bytes rest old now s e = record {
  items = s.items;
  written = s.written;
  tail = [];
  are = s.are;
  ends = subst (λ (p : Option ℕ). EndsNest p n []) (sym e) counted;
  whole = s.whole;
  wrote = s.wrote;
}

pub items_closed : {ord : Order} (d n : ℕ) (o : Option ℕ) (bytes rest after old now : List ℕ)
    → ItemsSoFar ord d n bytes rest old now → o ≡ None → rest ≡ 0xff ∷ after
    → TurnsItems ord d o n bytes after old now
items_closed d n o bytes rest after old now s e z = record {
  items = s.items;
  written = s.written;
  tail = 0xff ∷ [];
  are = s.are;
  ends = subst (λ (p : Option ℕ). EndsNest p n (0xff ∷ [])) (sym e) at_break;
  whole = s.whole ∙ ap (λ (y : List ℕ). s.items ++ y) z;
  wrote = s.wrote;
}

-- ---- arrays, by their form

ends_told : (n m : ℕ) (tail : List ℕ) → EndsNest (Some n) m tail → m ≡ n
ends_told n m tail counted = refl

pub array_told : {ord : Order} (d n done : ℕ) (o : Option ℕ) (bytes rest : List ℕ) (at start end : ℕ)
    (old mid new : List ℕ) → o ≡ Some n → IsInRange (h.Array (Some n))
    → Adds (shortest_title (h.Array (Some n))) at start old mid
    → Extends (TurnsItems ord d o done bytes rest) start end mid new
    → Extends (Turns (IsCompleted ord (suc d) (h.Array o)) bytes rest) at end old new
array_told {ord = r} d n done o bytes rest at start end old mid new e range b g = record {
  is = array_turned d n o bytes rest (take start mid) (take end new) (take at old) (take start mid) (take end new)
      range b.is (subst (λ (m : ℕ). TurnsItems r d o m bytes rest (take start mid) (take end new))
      (ends_told n done g.is.tail (rw e at g.is.ends)) g.is) (λ w x. x);
  from = omega (arith, b.from, g.from);
  within = g.within;
}

pub array_open : {ord : Order} (d n : ℕ) (o : Option ℕ) (bytes rest : List ℕ) (at end after : ℕ)
    (old now new : List ℕ) → at ≤ length old → IsInRange (h.Array (Some n))
    → Extends (TurnsItems ord d o n bytes rest) at end old now
    → Inserts (shortest_title (h.Array (Some n))) at end after now new
    → Extends (Turns (IsCompleted ord (suc d) (h.Array o)) bytes rest) at after old new
array_open d n o bytes rest at end after old now new l range g w =
    let title : List ℕ = shortest_title (h.Array (Some n)) in
    record {
      is = array_turned d n o bytes rest (take at old) (take end now) (take at old) (take at old ++ title)
          (take after new) range refl g.is
          (λ v x. w.moved (take at old) v x (length-take-le at old l) ∙ sym (append_assoc (take at old) title v));
      from = omega (arith, g.from, w.from);
      within = w.within;
    }
