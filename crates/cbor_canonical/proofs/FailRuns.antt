-- If a call fails at some bytes, these begin with nothing that the call reads.
use Rattle.std.proofs.Common.{◌≡◌, ℕ, zero, suc, ◌*◌, ◌<◌, ◌≤◌, ◌⊎◌, inl, inr, List, [], ◌∷◌, ◌++◌, length, Bool, true}
use Rattle.std.proofs.Common.{Option, Some, None, refl, sym, ◌∙◌, ap, subst, arith, append_assoc, append-nil, false}
use Rattle.std.proofs.Common.{nat_lt}
use Rattle.std.proofs.Common.{length-append}
use Rattle.std.proofs.lemmas.Bool.Decides.{nat_tests}
use Rattle.ciborium_ll_grammar.specs.declared.spelling.Spelling.TheVariants.{Any}
use Rattle.ciborium_ll_grammar.specs.declared.hdr.Header.{Header}
use Rattle.ciborium_ll_grammar.specs.declared.hdr.Header.TheVariants as h
use Rattle.ciborium_ll_grammar.specs.Title.{HasFirstTitle, HasNoTitle, IsTitle, IsSmallSimple}
use Rattle.ciborium_ll_grammar.specs.Strings.{Kind, Bytes as OfBytes, Text as OfText, kind_header}
use Rattle.ciborium_ll_grammar.specs.Elements.{AreWritable}
use Rattle.ciborium_ll_grammar.specs.Items.{Completes as CompletesAny, AreItems, IsItem, no_items as none_any}
use Rattle.ciborium_ll_grammar.specs.Items.{more_items as more_any, byte_string as any_bytes, text_string as any_text}
use Rattle.ciborium_ll_grammar.specs.Items.{open_bytes as any_open_bytes, open_text as any_open_text, tag as any_tag}
use Rattle.ciborium_ll_grammar.specs.Items.{array as any_array, open_array as any_open_array, pairs as any_pairs}
use Rattle.ciborium_ll_grammar.specs.Items.{open_pairs as any_open_pairs, positive as any_positive}
use Rattle.ciborium_ll_grammar.specs.Items.{negative as any_negative, float as any_float, simple as any_simple}
use Rattle.cbor_skip.specs.Due.{IsNest}
use Rattle.ciborium_ll_grammar.proofs.TitleLaws.{one_title}
use Rattle.ciborium_ll_grammar.proofs.AloneLaws.{title_some}
use Rattle.ciborium_ll_grammar.proofs.StringLaws.{break_title}
use Rattle.ciborium_ll_grammar.proofs.ItemLaws.{one_item as one_any}
use Rattle.cbor_skip.proofs.ItemSteps.{item_of}
use Rattle.cbor_deterministic.specs.declared.Order.{Order}
use Rattle.cbor_deterministic.specs.Fronts.{InFront, NoneInFront}
use Rattle.cbor_deterministic.specs.Laws.{IsSpelling}
use Rattle.cbor_deterministic.specs.Values.{Value, Values, Pairs, item_count, pair_count}
use Rattle.cbor_deterministic.specs.Fitting.{Fits, fits_array, fits_map, fits_tagged, AllFit, fits_end, fits_item}
use Rattle.cbor_deterministic.specs.Fitting.{PairsFit, fits_none, fits_pair}
use Rattle.cbor_deterministic.specs.Spellings.{Follows, Encodes, encodes, EncodeAll, encode_end, encode_item}
use Rattle.cbor_deterministic.specs.Spellings.{EncodePairs, encode_none, encode_pair, follows_simple, follows_tag}
use Rattle.cbor_deterministic.specs.Spellings.{follows_array, follows_open_array, follows_map, follows_open_map}
use Rattle.cbor_deterministic.proofs.OneValue.{one_value}
use Rattle.cbor_canonical.specs.Canonical.{IsRewritten, IsFittingSpelling}
use Rattle.cbor_canonical.specs.Strings.{IsContent, told, until_break, FailsString}
use Rattle.cbor_canonical.specs.Runs.{Turns}
use Rattle.cbor_canonical.specs.Runs.{AreRewritten, none_rewritten, more_rewritten, EndsNest, counted, at_break}
use Rattle.cbor_canonical.specs.Runs.{ArePairsOf, no_pairs, more_pairs, IsMissed, ArePairMissed, AreJoined, none_joined}
use Rattle.cbor_canonical.specs.Runs.{more_joined, FailsItem, FailsRest, FailsNest}
use Rattle.cbor_canonical.specs.Runs.{Entry}
use Rattle.cbor_canonical.specs.declared.Stop.{Stop}
use Rattle.cbor_canonical.specs.declared.Stop.TheVariants as st
use Rattle.ciborium_ll_grammar.proofs.ItemJoins.{item_before}
use Rattle.cbor_canonical.specs.Meeting.{MeetsFault}
use Rattle.cbor_canonical.specs.Runs.{FailsAfter, FailsItems, FailsPairs, FailsPair}
use Rattle.cbor_canonical.proofs.MeetRuns.{fault_nest, fault_more, fault_tag, fault_key, fault_value, fault_pairs}
use Rattle.cbor_canonical.proofs.MeetRuns.{takes_item, small_met}
use Rattle.ciborium_ll_grammar.proofs.FrontLaws.{no_title_there}

-- ---- items that were read

-- An item to the depth that is a spelling of a value.
pub record IsRead (d : ℕ) (w : List ℕ) : Type 0 where
  pub is_item : IsItem Any d w
  pub value : Value
  pub spelled : Encodes value w

pub record IsPairRead (d : ℕ) (w : List ℕ) : Type 0 where
  pub key : List ℕ
  pub value : List ℕ
  pub key_is : IsRead d key
  pub value_is : IsRead d value
  pub whole : w ≡ key ++ value

read_of : {ord : Order} (d : ℕ) (f w : List ℕ) → IsRewritten ord d f w → IsRead d f
read_of d f w r = record { is_item = r.is_item; value = r.value; spelled = r.spelled }

pub read_all : {ord : Order} (d n : ℕ) (bytes written : List ℕ) → AreRewritten ord d n bytes written
    → AreJoined (IsRead d) n bytes
read_all d n bytes written none_rewritten = none_joined
read_all d n bytes written (more_rewritten {bytes = f} {others = fs} {written = w} {more = ws} r rs) =
    more_joined (read_of d f w r) (read_all d _ fs ws rs)

pub read_pairs : {ord : Order} (d n : ℕ) (bytes : List ℕ) (es : List Entry) → ArePairsOf ord d bytes es
    → length es ≡ n → AreJoined (IsPairRead d) n bytes
read_pairs {ord = ord} d n bytes es q e = subst (λ (m : ℕ). AreJoined (IsPairRead d) m bytes) e (go bytes es q)
  where
    go : (w : List ℕ) (xs : List Entry) → ArePairsOf ord d w xs → AreJoined (IsPairRead d) (length xs) w
    go w xs no_pairs = none_joined
    go w xs (more_pairs {bytes = f} {others = o} {entry = x} {entries = ys} r rs) =
        more_joined (record {
          key = r.key;
          value = r.value;
          key_is = read_of d r.key x.key r.key_is;
          value_is = read_of d r.value x.value r.value_is;
          whole = r.whole;
        }) (go o ys rs)

pub are_read : (d n : ℕ) (w : List ℕ) → AreJoined (IsRead d) n w → AreItems Any d n w
are_read d n w none_joined = none_any
are_read d n w (more_joined {count = k} {first = f} {others = o} p ps) =
    item_before Any d k f o p.is_item (are_read d k o ps)

pub pairs_read : (d n : ℕ) (w : List ℕ) → AreJoined (IsPairRead d) n w → AreItems Any d (2 * n) w
pairs_read d n w none_joined = none_any
pairs_read d n w (more_joined {count = k} {first = f} {others = o} p ps) =
    let two : suc (suc (2 * k)) ≡ 2 * suc k = omega arith in
    subst (λ (j : ℕ). AreItems Any d j (f ++ o)) two
    (subst (λ (z : List ℕ). AreItems Any d (suc (suc (2 * k))) z)
    (sym (ap (λ (z : List ℕ). z ++ o) p.whole ∙ append_assoc p.key p.value o))
    (item_before Any d (suc (2 * k)) p.key (p.value ++ o) p.key_is.is_item
    (item_before Any d (2 * k) p.value o p.value_is.is_item (pairs_read d k o ps))))

-- The same bytes and the same rest.
abbrev SameFront : List ℕ → List ℕ → List ℕ → List ℕ → Type 0
SameFront f g s t = (f ≡ g) × (s ≡ t)

agree : (d : ℕ) (stop : Stop) (f g s t : List ℕ) → IsRead d f → IsMissed d stop g → f ++ s ≡ g ++ t → SameFront f g s t
agree d st.Malformed f g s t p q z = one_any Any Any d d f g s t p.is_item q z
agree d (st.NoSimple left) f g s t p q z =
    let o = one_value p.value f p.spelled q.value g s t q.encodes z in (o.1, o.2)
agree d (st.Duplicate left) f g s t p q z =
    let o = one_value p.value f p.spelled q.value g s t q.encodes z in (o.1, o.2)
agree d st.Room f g s t p q z = absurd q

agree_pairs : (d : ℕ) (stop : Stop) (f g s t : List ℕ) → IsPairRead d f → ArePairMissed d stop g → f ++ s ≡ g ++ t
    → SameFront f g s t
agree_pairs d stop f g s t p q z =
    let y : p.key ++ (p.value ++ s) ≡ q.key ++ (q.value ++ t) =
    sym (append_assoc p.key p.value s) ∙ ap (λ (v : List ℕ). v ++ s) (sym p.whole) ∙ z
    ∙ ap (λ (v : List ℕ). v ++ t) q.whole ∙ append_assoc q.key q.value t in
    let a = agree d stop p.key q.key (p.value ++ s) (q.value ++ t) p.key_is q.key_is y in
    let b = agree d stop p.value q.value s t p.value_is q.value_is a.1 in
    let e = p.whole in
    let i = q.whole in
    let j = a.0 in
    let k = b.0 in
    (cc, b.1)

break_follows : (x : Header) (v : Value) (r : List ℕ) → Follows x v r → x ≡ h.Break → ⊥
break_follows x v r f e = grind arith

value_break : (v : Value) (w u r : List ℕ) → Encodes v w → w ++ u ≡ 0xff ∷ r → ⊥
value_break v w u r (encodes {title = t} {rest = y} {header = x} {value = b} p f) z =
    break_follows x b y f (one_title t (0xff ∷ []) (y ++ u) r x h.Break p break_title (sym (append_assoc t y u) ∙ z)).1

read_break : (d : ℕ) (f s r : List ℕ) → IsRead d f → f ++ s ≡ 0xff ∷ r → ⊥
read_break d f s r p z = value_break p.value f s r p.spelled z

pair_break : (d : ℕ) (f s r : List ℕ) → IsPairRead d f → f ++ s ≡ 0xff ∷ r → ⊥
pair_break d f s r p z =
    read_break d p.key (p.value ++ s) r p.key_is
    (sym (append_assoc p.key p.value s) ∙ ap (λ (v : List ℕ). v ++ s) (sym p.whole) ∙ z)

value_some : (v : Value) (w : List ℕ) → Encodes v w → 0 < length w
value_some v w (encodes {title = t} {rest = y} {header = x} p f) = omega (arith, length-append t y, title_some t x p)

read_some : (d : ℕ) (f : List ℕ) → IsRead d f → 0 < length f
read_some d f p = value_some p.value f p.spelled

pair_some : (d : ℕ) (f : List ℕ) → IsPairRead d f → 0 < length f
pair_some d f p = omega (arith, ap (length {A = ℕ}) p.whole, length-append p.key p.value, read_some d p.key p.key_is)

item_some : (d k : ℕ) (w : List ℕ) → AreItems Any d k w → k ≡ 1 → 0 < length w
item_some d k w none_any e = absurd (omega arith)
item_some d k w (more_any {title = t} {rest = r} {others = o} {header = x} p s c q) e =
    omega (arith, length-append t (r ++ o), title_some t x p)

missed_some : (d : ℕ) (stop : Stop) (f : List ℕ) → IsMissed d stop f → 0 < length f
missed_some d st.Malformed f q = item_some d 1 f q refl
missed_some d (st.NoSimple left) f q = value_some q.value f q.encodes
missed_some d (st.Duplicate left) f q = value_some q.value f q.encodes
missed_some d st.Room f q = absurd q

pair_missed_some : (d : ℕ) (stop : Stop) (f : List ℕ) → ArePairMissed d stop f → 0 < length f
pair_missed_some d stop f q =
    omega (arith, ap (length {A = ℕ}) q.whole, length-append q.key q.value, missed_some d stop q.key q.key_is)

-- ---- arrays and maps

module _ (P Q : List ℕ → Type 0)
    (agrees : (f g s t : List ℕ) → P f → Q g → f ++ s ≡ g ++ t → SameFront f g s t)
    (no_break : (f s r : List ℕ) → P f → f ++ s ≡ 0xff ∷ r → ⊥)
    (some : (f : List ℕ) → P f → 0 < length f) (missed : (f : List ℕ) → Q f → 0 < length f) where
  past : (m n : ℕ) (read w rest more : List ℕ) → AreJoined P m read → AreJoined Q n w → m < n
      → read ++ rest ≡ w ++ more → (r : List ℕ) × InFront Q rest r
  past m n read w rest more none_joined none_joined l z = absurd (omega arith)
  past m n read w rest more none_joined (more_joined {first = g} {others = u} q qs) l z =
      (u ++ more, record { front = g; is = q; whole = z ∙ append_assoc g u more })
  past m n read w rest more (more_joined p ps) none_joined l z = absurd (omega arith)
  past m n read w rest more (more_joined {first = f} {others = o} p ps) (more_joined {first = g} {others = u} q qs) l
      z =
      let a = agrees f g (o ++ rest) (u ++ more) p q (simp append_assoc at z) in
      past _ _ o u rest more ps qs (omega arith) a.1

  closes : (m n : ℕ) (read w rest r : List ℕ) → AreJoined P m read → AreJoined Q n w → n ≤ m
      → read ++ rest ≡ w ++ 0xff ∷ r → (v : List ℕ) × (rest ≡ 0xff ∷ v)
  closes m n read w rest r none_joined none_joined l z = (r, z)
  closes m n read w rest r none_joined (more_joined q qs) l z = absurd (omega arith)
  closes m n read w rest r (more_joined {first = f} {others = o} p ps) none_joined l z =
      absurd (no_break f (o ++ rest) r p (sym (append_assoc f o rest) ∙ z))
  closes m n read w rest r (more_joined {first = f} {others = o} p ps) (more_joined {first = g} {others = u} q qs) l z =
      let a = agrees f g (o ++ rest) (u ++ 0xff ∷ r) p q (simp append_assoc at z) in
      closes _ _ o u rest r ps qs (omega arith) a.1

  joined_length : (m : ℕ) (read : List ℕ) → AreJoined P m read → m ≤ length read
  joined_length m read none_joined = omega arith
  joined_length m read (more_joined {first = f} {others = o} p ps) =
      omega (arith, length-append f o, some f p, joined_length _ o ps)

  -- The array or the map fails if the next item or pair fails.
  nest_stops : (o : Option ℕ) (m : ℕ) (bytes read rest : List ℕ) → bytes ≡ read ++ rest → AreJoined P m read
      → ((n : ℕ) → o ≡ Some n → m < n) → ((v : List ℕ) → o ≡ None → rest ≡ 0xff ∷ v → ⊥) → NoneInFront Q rest
      → FailsNest Q o bytes
  nest_stops o m bytes read rest w ps count open_end fails n items tail r qs ends z = go o tail ends count open_end
      (sym w ∙ z)
    where
      go : (o : Option ℕ) (tail : List ℕ) → EndsNest o n tail → ((n : ℕ) → o ≡ Some n → m < n)
          → ((v : List ℕ) → o ≡ None → rest ≡ 0xff ∷ v → ⊥) → read ++ rest ≡ items ++ (tail ++ r) → ⊥
      go o tail counted count open_end z =
          let f = past m n read items rest r ps qs (count n refl) z in fails f.0 f.1
      go o tail at_break count open_end z = both (nat_lt m n) refl
        where
          both : (b : Bool) → nat_lt m n ≡ b → ⊥
          both true e =
              let l : m < n = grind (arith, nat_tests) in
              let f = past m n read items rest (0xff ∷ r) ps qs l z in fails f.0 f.1
          both false e =
              let l : n ≤ m = grind (arith, nat_tests) in
              let v = closes m n read items rest r ps qs l z in open_end v.0 refl v.1

  -- If as many items or pairs were read as there are bytes, no break follows.
  nest_over : (o : Option ℕ) (m : ℕ) (bytes read rest : List ℕ) → bytes ≡ read ++ rest → AreJoined P m read → o ≡ None
      → length bytes ≤ m → FailsNest Q o bytes
  nest_over o m bytes read rest w ps e l =
      let k : length rest ≡ 0 =
      omega (arith, ap (length {A = ℕ}) w, length-append read rest, joined_length m read ps) in
      nest_stops o m bytes read rest w ps (λ n i. absurd (mixed n i e)) (λ v i j. no_byte v (ap (length {A = ℕ}) j) k)
      (λ r f. none_left r f k)
    where
      mixed : (n : ℕ) → o ≡ Some n → o ≡ None → ⊥
      mixed n i j = cc

      no_byte : (v : List ℕ) → length rest ≡ length (0xff ∷ v) → length rest ≡ 0 → ⊥
      no_byte v i j = omega arith

      none_left : (r : List ℕ) → InFront Q rest r → length rest ≡ 0 → ⊥
      none_left r f j =
          omega (arith, ap (length {A = ℕ}) f.whole, length-append f.front r, missed f.front f.is)

module _ (d : ℕ) (stop : Stop) (o : Option ℕ) (m : ℕ) (bytes read rest : List ℕ) (w : bytes ≡ read ++ rest) where
  pub items_stop : AreJoined (IsRead d) m read → ((n : ℕ) → o ≡ Some n → m < n)
      → ((v : List ℕ) → o ≡ None → rest ≡ 0xff ∷ v → ⊥) → FailsItem d rest stop → FailsItems d o bytes stop
  items_stop ps count open_end fails = (
    nest_stops (IsRead d) (IsMissed d stop) (agree d stop) (read_break d) (read_some d) (missed_some d stop)
        o m bytes read rest w ps count open_end fails.0,
    fault_more d m (h.Array o) stop bytes read rest w (takes_item o m count) (are_read d m read ps) fails.1,
  )

  pub items_over : AreJoined (IsRead d) m read → o ≡ None → length bytes ≤ m → FailsNest (IsMissed d stop) o bytes
  items_over ps e l =
      nest_over (IsRead d) (IsMissed d stop) (agree d stop) (read_break d) (read_some d) (missed_some d stop)
      o m bytes read rest w ps e l

  pub pairs_stop : AreJoined (IsPairRead d) m read → ((n : ℕ) → o ≡ Some n → m < n)
      → ((v : List ℕ) → o ≡ None → rest ≡ 0xff ∷ v → ⊥) → FailsPair d rest stop → FailsPairs d o bytes stop
  pairs_stop ps count open_end fails = (
    nest_stops (IsPairRead d) (ArePairMissed d stop) (agree_pairs d stop) (pair_break d) (pair_some d)
        (pair_missed_some d stop) o m bytes read rest w ps count open_end fails.0,
    fault_pairs d m o stop bytes read rest w (pairs_read d m read ps) count fails.1,
  )

  pub pairs_over : AreJoined (IsPairRead d) m read → o ≡ None → length bytes ≤ m
      → FailsNest (ArePairMissed d stop) o bytes
  pairs_over ps e l =
      nest_over (IsPairRead d) (ArePairMissed d stop) (agree_pairs d stop) (pair_break d) (pair_some d)
      (pair_missed_some d stop) o m bytes read rest w ps e l

-- ---- one pair

pub key_stops : (d : ℕ) (stop : Stop) (bytes : List ℕ) → FailsItem d bytes stop → FailsPair d bytes stop
key_stops d stop bytes fails = (
  λ r f. fails.0 (f.is.value ++ r) (record {
    front = f.is.key;
    is = f.is.key_is;
    whole = f.whole ∙ ap (λ (v : List ℕ). v ++ r) f.is.whole ∙ append_assoc f.is.key f.is.value r;
  }),
  fault_key d stop bytes fails.1,
)

pub value_stops : {ord : Order} (d : ℕ) (stop : Stop) (bytes after old new : List ℕ)
    → Turns (IsRewritten ord d) bytes after old new → FailsItem d after stop → FailsPair d bytes stop
value_stops d stop bytes after old new t fails = (
  λ r f.
      let a = agree d stop t.front f.is.key after (f.is.value ++ r) (read_of d t.front t.written t.is) f.is.key_is
      (sym t.whole ∙ f.whole ∙ ap (λ (v : List ℕ). v ++ r) f.is.whole ∙ append_assoc f.is.key f.is.value r) in
      fails.0 r (record { front = f.is.value; is = f.is.value_is; whole = a.1 }),
  fault_value d stop bytes t.front after t.whole t.is.is_item fails.1,
)

-- ---- after a title

-- The contents that complete an item which the call misses.
abbrev pub Completing : ℕ → Stop → Header → List ℕ → Type 0
Completing d st.Malformed y r = CompletesAny Any d y r
Completing d (st.NoSimple left) y r = (v : Value) × Follows y v r
Completing d (st.Duplicate left) y r = (v : Value) × Follows y v r × Fits v
Completing d st.Room y r = ⊥

record ItemParts (d : ℕ) (w : List ℕ) : Type 0 where
  pub title : List ℕ
  pub rest : List ℕ
  pub header : Header
  pub is_title : IsTitle title header
  pub completes : CompletesAny Any d header rest
  pub whole : w ≡ title ++ rest

item_parts : (d k : ℕ) (w : List ℕ) → AreItems Any d k w → k ≡ 1 → ItemParts d w
item_parts d k w none_any e = absurd (omega arith)
item_parts d k w (more_any {count = j} {title = t} {rest = r} {others = o} {header = x} p s c q) e = record {
  title = t;
  rest = r;
  header = x;
  is_title = p;
  completes = c;
  whole = ap (λ (v : List ℕ). t ++ v) (ap (λ (v : List ℕ). r ++ v) (nothing j o q (omega arith)) ∙ append-nil r);
}
  where
    nothing : (j : ℕ) (y : List ℕ) → AreItems Any d j y → j ≡ 0 → y ≡ []
    nothing j y none_any z = refl
    nothing j y (more_any p s c q) z = absurd (omega arith)

record ValueParts (v : Value) (w : List ℕ) : Type 0 where
  pub title : List ℕ
  pub rest : List ℕ
  pub header : Header
  pub is_title : IsTitle title header
  pub follows : Follows header v rest
  pub whole : w ≡ title ++ rest

value_parts : (v : Value) (w : List ℕ) → Encodes v w → ValueParts v w
value_parts v w (encodes {title = t} {rest = r} {header = x} p f) =
    record { title = t; rest = r; header = x; is_title = p; follows = f; whole = refl }

pub after_title : (d : ℕ) (stop : Stop) (y : Header) (t bytes rest : List ℕ) → IsTitle t y
    → InFront (IsMissed d stop) (t ++ bytes) rest → InFront (Completing d stop y) bytes rest
after_title d st.Malformed y t bytes rest p f =
    let q = item_parts d 1 f.front f.is refl in
    let o = one_title t q.title bytes (q.rest ++ rest) y q.header p q.is_title
    (f.whole ∙ ap (λ (v : List ℕ). v ++ rest) q.whole ∙ append_assoc q.title q.rest rest) in
    record {
      front = q.rest;
      is = subst (λ (x : Header). CompletesAny Any d x q.rest) (sym o.1) q.completes;
      whole = o.2;
    }
after_title d (st.NoSimple left) y t bytes rest p f =
    let q = value_parts f.is.value f.front f.is.encodes in
    let o = one_title t q.title bytes (q.rest ++ rest) y q.header p q.is_title
    (f.whole ∙ ap (λ (v : List ℕ). v ++ rest) q.whole ∙ append_assoc q.title q.rest rest) in
    record {
      front = q.rest;
      is = (f.is.value, subst (λ (x : Header). Follows x f.is.value q.rest) (sym o.1) q.follows);
      whole = o.2;
    }
after_title d (st.Duplicate left) y t bytes rest p f =
    let q = value_parts f.is.value f.front f.is.encodes in
    let o = one_title t q.title bytes (q.rest ++ rest) y q.header p q.is_title
    (f.whole ∙ ap (λ (v : List ℕ). v ++ rest) q.whole ∙ append_assoc q.title q.rest rest) in
    record {
      front = q.rest;
      is = (f.is.value, subst (λ (x : Header). Follows x f.is.value q.rest) (sym o.1) q.follows, f.is.fits);
      whole = o.2;
    }
after_title d st.Room y t bytes rest p f = absurd f.is

-- The contents fail if no contents complete such an item.
pub none_completes : (d : ℕ) (stop : Stop) (y : Header) (bytes : List ℕ)
    → ((r : List ℕ) → Completing d stop y r → ⊥) → (t : List ℕ) → IsTitle t y
    → NoneInFront (IsMissed d stop) (t ++ bytes)
none_completes d stop y bytes q t p rest f = let g = after_title d stop y t bytes rest p f in q g.front g.is

pub no_title_stops : (d : ℕ) (bytes : List ℕ) → HasNoTitle bytes → FailsItem d bytes st.Malformed
no_title_stops d bytes q = (
  λ rest f.
      let i = item_parts d 1 f.front f.is refl in
      no_title_there bytes i.title (i.rest ++ rest) i.header q i.is_title
      (f.whole ∙ ap (λ (v : List ℕ). v ++ rest) i.whole ∙ append_assoc i.title i.rest rest),
  tt,
)

pub item_stops : (d : ℕ) (stop : Stop) (x : Header) (bytes rest : List ℕ) → HasFirstTitle bytes x rest
    → FailsAfter d x rest (length bytes) stop → FailsItem d bytes stop
item_stops d stop x bytes rest f fails =
    subst (λ (v : List ℕ). NoneInFront (IsMissed d stop) v × MeetsFault d stop v) (sym f.whole)
    (fails f.title f.is_title (ap (length {A = ℕ}) f.whole))

-- What fails after each title of a nest fails after one that stands at an offset.
pub after_stops : (e d left : ℕ) (stop : Stop) (y x : Header) (bytes : List ℕ) → y ≡ x → suc d ≡ e
    → FailsRest (suc d) x bytes stop → FailsAfter e y bytes left stop
after_stops e d left stop y x bytes is deep fails = rw (is, ← deep) (λ t p l. fails t p)

break_completes : (d : ℕ) (x : Header) (r : List ℕ) → CompletesAny Any d x r → x ≡ h.Break → ⊥
break_completes d x r c e = grind arith

pub break_stops : (d left : ℕ) (y : Header) (bytes : List ℕ) → y ≡ h.Break → FailsAfter d y bytes left st.Malformed
break_stops d left y bytes e t p l =
    (none_completes d st.Malformed y bytes (λ r c. break_completes d y r c e) t p, tt)

-- The header of a tag, an array or a map.
abbrev pub IsNestOf : Header → Type 0
IsNestOf y = ((n : ℕ) × (y ≡ h.Tag n)) ⊎ (((o : Option ℕ) × (y ≡ h.Array o)) ⊎ ((o : Option ℕ) × (y ≡ h.Map o)))

deep_completes : (d : ℕ) (x : Header) (r : List ℕ) → CompletesAny Any d x r → d ≡ 0 → IsNest x → ⊥
deep_completes d x r any_positive e n = n
deep_completes d x r any_negative e n = n
deep_completes d x r any_float e n = n
deep_completes d x r any_simple e n = n
deep_completes d x r (any_bytes l) e n = n
deep_completes d x r (any_text l w) e n = n
deep_completes d x r (any_open_bytes q f) e n = n
deep_completes d x r (any_open_text q f a) e n = n
deep_completes d x r (any_tag i) e n = omega arith
deep_completes d x r (any_array i) e n = omega arith
deep_completes d x r (any_pairs i) e n = omega arith
deep_completes d x r (any_open_array i) e n = omega arith
deep_completes d x r (any_open_pairs k i) e n = omega arith

nest_of : (y : Header) → IsNestOf y → IsNest y
nest_of y (inl n) = subst IsNest (sym n.1) tt
nest_of y (inr (inl n)) = subst IsNest (sym n.1) tt
nest_of y (inr (inr n)) = subst IsNest (sym n.1) tt

pub deep_stops : (d left : ℕ) (y : Header) (bytes : List ℕ) → d ≡ 0 → IsNestOf y
    → FailsAfter d y bytes left st.Malformed
deep_stops d left y bytes e n t p l =
    (none_completes d st.Malformed y bytes (λ r c. deep_completes d y r c e (nest_of y n)) t p, tt)

simple_follows : (x : Header) (v : Value) (r : List ℕ) → Follows x v r → IsSmallSimple x → ⊥
simple_follows x v r (follows_simple m) s = m s
simple_follows x v r f s = grind arith

pub small_stops : (d n left : ℕ) (y : Header) (bytes : List ℕ) → y ≡ h.Simple n → (24 ≤ n) × (n < 32)
    → FailsAfter d y bytes left (st.NoSimple left)
small_stops d n left y bytes e l t p long = (
  none_completes d (st.NoSimple left) y bytes (λ r c. simple_follows y c.0 r c.1 (subst IsSmallSimple (sym e) l)) t p,
  small_met d n left y t bytes e l p long,
)

-- ---- strings

content_of : (d : ℕ) (k : Kind) (len : Option ℕ) (r : List ℕ) → CompletesAny Any d (kind_header k len) r
    → (body : List ℕ) × IsContent k len r body
content_of d OfBytes len r (any_bytes l) = (r, subst (λ (n : ℕ). IsContent OfBytes (Some n) r r) l (told tt))
content_of d OfText len r (any_text l w) = (r, subst (λ (n : ℕ). IsContent OfText (Some n) r r) l (told w))
content_of d OfBytes len r (any_open_bytes q f) = (_, until_break q (every _))
  where
    every : (bs : List (List ℕ)) → AreWritable OfBytes bs
    every [] = tt
    every (b ∷ bs) = (tt, every bs)
content_of d OfText len r (any_open_text q f a) = (_, until_break q a)

pub string_stops : (d left : ℕ) (stop : Stop) (k : Kind) (len : Option ℕ) (y : Header) (bytes : List ℕ)
    → y ≡ kind_header k len → FailsString k len bytes stop → FailsAfter d y bytes left stop
string_stops d at st.Malformed k len y bytes e fails = λ t p l. (
  λ rest f.
      let g = after_title d st.Malformed y t bytes rest p f in
      let c = content_of d k len g.front (subst (λ (x : Header). CompletesAny Any d x g.front) e g.is) in
      fails g.front c.0 rest c.1 g.whole,
  tt,
)
string_stops d at (st.NoSimple left) k len y bytes e fails = absurd fails
string_stops d at (st.Duplicate left) k len y bytes e fails = absurd fails
string_stops d at st.Room k len y bytes e fails = λ t p l. (λ rest f. f.is, tt)

-- ---- nests

tag_missed : (d n : ℕ) (stop : Stop) (r : List ℕ) → Completing (suc d) stop (h.Tag n) r → IsMissed d stop r
tag_missed d n st.Malformed r (any_tag i) = i
tag_missed d n (st.NoSimple left) r (v, follows_tag {value = u} e) = record { value = u; encodes = e }
tag_missed d n (st.Duplicate left) r (v, follows_tag {value = u} e, fits_tagged l f) =
    record { value = u; encodes = e; fits = f }
tag_missed d n st.Room r c = c

pub tag_stops : (e d n left : ℕ) (stop : Stop) (y : Header) (bytes : List ℕ) → y ≡ h.Tag n → suc d ≡ e
    → FailsItem d bytes stop → FailsAfter e y bytes left stop
tag_stops e d n left stop y bytes is deep fails = rw (is, ← deep) (λ t p l. (
  λ rest f.
      let g = after_title (suc d) stop (h.Tag n) t bytes rest p f in
      fails.0 rest (record { front = g.front; is = tag_missed d n stop g.front g.is; whole = g.whole }),
  fault_nest d (h.Tag n) stop t bytes p (fault_tag d n stop bytes fails.1),
))

-- The items or the pairs of a nest, and its end.
record NestParts (P : List ℕ → Type 0) (o : Option ℕ) (r : List ℕ) : Type 0 where
  pub done : ℕ
  pub items : List ℕ
  pub tail : List ℕ
  pub joined : AreJoined P done items
  pub ends : EndsNest o done tail
  pub whole : r ≡ items ++ tail

told_parts : (P : List ℕ → Type 0) (n : ℕ) (r : List ℕ) → AreJoined P n r → NestParts P (Some n) r
told_parts P n r j =
    record { done = n; items = r; tail = []; joined = j; ends = counted; whole = sym (append-nil r) }

open_parts : (P : List ℕ → Type 0) (n : ℕ) (r : List ℕ) → AreJoined P n r → NestParts P None (r ++ 0xff ∷ [])
open_parts P n r j = record { done = n; items = r; tail = 0xff ∷ []; joined = j; ends = at_break; whole = refl }

items_joined : (d n : ℕ) (w : List ℕ) → AreItems Any d n w → AreJoined (λ v. IsItem Any d v) n w
items_joined d n w none_any = none_joined
items_joined d n w (more_any {title = t} {rest = r} {others = o} {header = x} p s c q) =
    subst (λ (v : List ℕ). AreJoined (λ v. IsItem Any d v) n v) (append_assoc t r o)
    (more_joined (item_of Any d t r x p tt c) (items_joined d _ o q))

values_joined : (vs : Values) (w : List ℕ) → EncodeAll vs w → AreJoined IsSpelling (item_count vs) w
values_joined vs w encode_end = none_joined
values_joined vs w (encode_item {value = v} {bytes = f} {others = o} e es) =
    more_joined (record { value = v; encodes = e }) (values_joined _ o es)

fitting_joined : (vs : Values) (w : List ℕ) → EncodeAll vs w → AllFit vs → AreJoined IsFittingSpelling (item_count vs) w
fitting_joined vs w encode_end fits_end = none_joined
fitting_joined vs w (encode_item {value = v} {bytes = f} {others = o} e es) (fits_item g gs) =
    more_joined (record { value = v; encodes = e; fits = g }) (fitting_joined _ o es gs)

array_parts : (d : ℕ) (stop : Stop) (o : Option ℕ) (r : List ℕ) → Completing (suc d) stop (h.Array o) r
    → NestParts (IsMissed d stop) o r
array_parts d st.Malformed o r (any_array {count = n} i) = told_parts _ n r (items_joined d n r i)
array_parts d st.Malformed o r (any_open_array {count = n} {items = w} i) = open_parts _ n w (items_joined d n w i)
array_parts d (st.NoSimple left) o r (v, follows_array {values = vs} c e) =
    told_parts _ _ r (subst (λ (m : ℕ). AreJoined IsSpelling m r) c (values_joined vs r e))
array_parts d (st.NoSimple left) o r (v, follows_open_array {values = vs} {bytes = w} e) =
    open_parts _ _ w (values_joined vs w e)
array_parts d (st.Duplicate left) o r (v, follows_array {values = vs} c e, fits_array l f) =
    told_parts _ _ r (subst (λ (m : ℕ). AreJoined IsFittingSpelling m r) c (fitting_joined vs r e f))
array_parts d (st.Duplicate left) o r (v, follows_open_array {values = vs} {bytes = w} e, fits_array l f) =
    open_parts _ _ w (fitting_joined vs w e f)
array_parts d st.Room o r c = absurd c

pub array_stops : (d : ℕ) (stop : Stop) (o : Option ℕ) (bytes : List ℕ) → FailsItems d o bytes stop
    → FailsRest (suc d) (h.Array o) bytes stop
array_stops d stop o bytes fails t p = (
  λ rest f.
      let g = after_title (suc d) stop (h.Array o) t bytes rest p f in
      let q = array_parts d stop o g.front g.is in
      fails.0 q.done q.items q.tail rest q.joined q.ends
      (g.whole ∙ ap (λ (v : List ℕ). v ++ rest) q.whole ∙ append_assoc q.items q.tail rest),
  fault_nest d (h.Array o) stop t bytes p fails.1,
)

two_items : (d n k : ℕ) (w : List ℕ) → AreItems Any d k w → k ≡ 2 * n → AreJoined (ArePairMissed d st.Malformed) n w
two_items d zero k w none_any e = none_joined
two_items d (suc n) k w none_any e = absurd (omega arith)
two_items d zero k w (more_any p s c q) e = absurd (omega arith)
two_items d (suc n) k w (more_any {title = t} {rest = r} p s c none_any) e = absurd (omega arith)
two_items d (suc n) k w (more_any {title = t} {rest = r} {header = x} p s c
    (more_any {count = j} {title = t'} {rest = r'} {others = o} {header = x'} p' s' c' q)) e =
    subst (λ (v : List ℕ). AreJoined (ArePairMissed d st.Malformed) (suc n) v)
    (append_assoc (t ++ r) (t' ++ r') o ∙ append_assoc t r ((t' ++ r') ++ o)
    ∙ ap (λ (v : List ℕ). t ++ (r ++ v)) (append_assoc t' r' o))
    (more_joined (record {
      key = t ++ r;
      value = t' ++ r';
      key_is = item_of Any d t r x p tt c;
      value_is = item_of Any d t' r' x' p' tt c';
      whole = refl;
    }) (two_items d n j o q (omega arith)))

pairs_joined : (d left : ℕ) (ps : Pairs) (w : List ℕ) → EncodePairs ps w
    → AreJoined (ArePairMissed d (st.NoSimple left)) (pair_count ps) w
pairs_joined d left ps w encode_none = none_joined
pairs_joined d left ps w (encode_pair {key = k} {value = v} {key_bytes = f} {value_bytes = g} {others = o} e i es) =
    subst (λ (z : List ℕ). AreJoined (ArePairMissed d (st.NoSimple left)) (pair_count ps) z) (append_assoc f g o)
    (more_joined (record {
      key = f;
      value = g;
      key_is = record { value = k; encodes = e };
      value_is = record { value = v; encodes = i };
      whole = refl;
    }) (pairs_joined d left _ o es))

fitting_pairs : (d left : ℕ) (ps : Pairs) (w : List ℕ) → EncodePairs ps w → PairsFit ps
    → AreJoined (ArePairMissed d (st.Duplicate left)) (pair_count ps) w
fitting_pairs d left ps w encode_none fits_none = none_joined
fitting_pairs d left ps w (encode_pair {key = k} {value = v} {key_bytes = f} {value_bytes = g} {others = o} e i es)
    (fits_pair a b q fs) =
    subst (λ (z : List ℕ). AreJoined (ArePairMissed d (st.Duplicate left)) (pair_count ps) z) (append_assoc f g o)
    (more_joined (record {
      key = f;
      value = g;
      key_is = record { value = k; encodes = e; fits = a };
      value_is = record { value = v; encodes = i; fits = b };
      whole = refl;
    }) (fitting_pairs d left _ o es fs))

map_parts : (d : ℕ) (stop : Stop) (o : Option ℕ) (r : List ℕ) → Completing (suc d) stop (h.Map o) r
    → NestParts (ArePairMissed d stop) o r
map_parts d st.Malformed o r (any_pairs {count = n} i) = told_parts _ n r (two_items d n (2 * n) r i refl)
map_parts d st.Malformed o r (any_open_pairs {items = w} n i) = open_parts _ n w (two_items d n (2 * n) w i refl)
map_parts d (st.NoSimple left) o r (v, follows_map {pairs = ps} c e) =
    told_parts _ _ r (subst (λ (m : ℕ). AreJoined (ArePairMissed d (st.NoSimple left)) m r) c
    (pairs_joined d left ps r e))
map_parts d (st.NoSimple left) o r (v, follows_open_map {pairs = ps} {bytes = w} e) =
    open_parts _ _ w (pairs_joined d left ps w e)
map_parts d (st.Duplicate left) o r (v, follows_map {pairs = ps} c e, fits_map l f) =
    told_parts _ _ r (subst (λ (m : ℕ). AreJoined (ArePairMissed d (st.Duplicate left)) m r) c
    (fitting_pairs d left ps r e f))
map_parts d (st.Duplicate left) o r (v, follows_open_map {pairs = ps} {bytes = w} e, fits_map l f) =
    open_parts _ _ w (fitting_pairs d left ps w e f)
map_parts d st.Room o r c = absurd c

pub map_stops : (d : ℕ) (stop : Stop) (o : Option ℕ) (bytes : List ℕ) → FailsPairs d o bytes stop
    → FailsRest (suc d) (h.Map o) bytes stop
map_stops d stop o bytes fails t p = (
  λ rest f.
      let g = after_title (suc d) stop (h.Map o) t bytes rest p f in
      let q = map_parts d stop o g.front g.is in
      fails.0 q.done q.items q.tail rest q.joined q.ends
      (g.whole ∙ ap (λ (v : List ℕ). v ++ rest) q.whole ∙ append_assoc q.items q.tail rest),
  fault_nest d (h.Map o) stop t bytes p fails.1,
)
