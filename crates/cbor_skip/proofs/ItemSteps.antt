-- The steps of the read of an item, over any reader.
use Rattle.std.proofs.Common.{◌≡◌, ℕ, suc, ◌<◌, Bool, true, false, List, [], ◌∷◌, ◌++◌, length, Option}
use Rattle.std.proofs.Common.{Some, None, Err, refl, sym, subst, ◌∙◌, inl, arith}
use Rattle.ciborium_ll_io.specs.declared.io.Read.{Ghosts}
use Rattle.ciborium_ll_grammar.specs.declared.spelling.Spelling.{Spelling}
use Rattle.ciborium_ll_grammar.specs.declared.spelling.Spelling.TheVariants.{Shortest}
use Rattle.ciborium_ll_grammar.specs.declared.hdr.Header.{Header}
use Rattle.ciborium_ll_grammar.specs.declared.hdr.Header.TheVariants as h
use Rattle.ciborium_ll_decoder.specs.declared.dec.Decoder.{Decoder}
use Rattle.ciborium_ll_decoder.specs.declared.dec.Error.{Error}
use Rattle.ciborium_ll_grammar.specs.Title.{IsTitle, shortest_title}
use Rattle.ciborium_ll_grammar.specs.Strings.{Kind, kind_header, IsString, AreStrings, IsWritable}
use Rattle.ciborium_ll_grammar.specs.Strings.IsString.{definite, indefinite}
use Rattle.ciborium_ll_grammar.specs.Elements.{AreWritable}
use Rattle.ciborium_ll_grammar.specs.Items.{Completes, byte_string, text_string, open_bytes, open_text, tag, array}
use Rattle.ciborium_ll_grammar.specs.Items.{pairs, open_array, open_pairs, AreItems, no_items}
use Rattle.ciborium_ll_grammar.specs.Items.{AreTakenStrings}
use Rattle.ciborium_ll_decoder.specs.Decoding.{ReadsPast, DecoderPullAnswer, PullsTitle, IsSteady, spelling_of}
use Rattle.ciborium_ll_decoder.specs.Skipping.{IsTakenBehind, SkipsWhole}
use Rattle.std.proofs.lemmas.List.{append_cancel_right}
use Rattle.ciborium_ll_grammar.proofs.TitleLaws.{IsTitle-shortest, title_in_range}
pub use Rattle.ciborium_ll_grammar.proofs.ItemJoins.{item_of, items_item}
use Rattle.ciborium_ll_grammar.proofs.StringLaws.{fronts}
use Rattle.ciborium_ll_decoder.proofs.NestLaws.{alone_bytes}
use Rattle.ciborium_ll_decoder.proofs.DecodingLaws.{ReadsPast-none, ReadsPast-pull, ReadsPast-pulled, ReadsPast-then}
use Rattle.cbor_skip.specs.declared.SkipError.{SkipError}
use Rattle.cbor_skip.specs.declared.SkipError.TheVariants as s
use Rattle.cbor_skip.specs.Types.Remaining.{Remaining}
use Rattle.cbor_skip.specs.Due.{ItemDue, here, within, item_count, may_close}
use Rattle.cbor_skip.specs.Remaining.{IsRemaining, is_done, closes}
use Rattle.cbor_skip.specs.Skipping.{StopsDue, StopsTitle, StopsItem, ReadsItem, ReadsWithin, StopsWithin}
use Rattle.cbor_skip.specs.Skipping.{allowed_by}
use Rattle.cbor_skip.proofs.RemainingLaws.{takes_more}
use Rattle.cbor_skip.proofs.StrictnessLaws.{completes_looser, items_looser, due_looser, strict_by, pulled_taken}
use Rattle.cbor_skip.proofs.StrictnessLaws.{pulled_keeps, passed_keeps}

-- ---- lists of items

-- Fewer than one item are no bytes.
pub no_items_read : (s : Spelling) (d count : ℕ) (items : List ℕ) → count < 1 → AreItems s d count items → items ≡ []
no_items_read s d count items less i = grind arith

-- The items that a header counts complete the nest.
pub counted_completes : {s : Spelling} {d n : ℕ} {items : List ℕ} (x : Header) → item_count x ≡ Some n
    → AreItems s d n items → Completes s (suc d) x items
counted_completes x is i = grind (arith, tag, array, pairs)

-- ---- a string after its header

completes_body : (s : Spelling) (d : ℕ) (k : Kind) (b : List ℕ) → IsWritable k b
    → Completes s d (kind_header k (Some (length b))) b
completes_body s d k b sound = grind (arith, byte_string, text_string)

completes_open : (s : Spelling) (d : ℕ) (k : Kind) (x : List ℕ) (bs : List (List ℕ)) → AreStrings k x bs
    → AreTakenStrings s k x bs → AreWritable k bs → Completes s d (kind_header k None) (x ++ 0xff ∷ [])
completes_open s d k x bs strings taken sound = grind (arith, open_bytes, open_text)

-- The bytes after the title of a string complete the item.
string_completes : (s : Spelling) (d : ℕ) (k : Kind) (len : Option ℕ) (t rest w : List ℕ) (bs : List (List ℕ))
    → IsTitle t (kind_header k len) → IsString k w bs → t ++ rest ≡ w → IsTakenBehind s k len rest bs → AreWritable k bs
    → Completes s d (kind_header k len) rest
string_completes s d k len t rest w bs p (definite {title = t'} {body = b} p') e taken sound =
    let f = fronts k t t' rest b len (Some (length b)) p p' e in
    rw (f.1, f.2) (completes_body s d k b sound.0)
string_completes s d k len t rest w bs p (indefinite {title = t'} {strings = x} p' strings) e taken sound =
    let f = fronts k t t' rest (x ++ 0xff ∷ []) len None p p' e in
    let parts = rw (f.1, f.2) at taken in
    let one = append_cancel_right x parts.0 (0xff ∷ []) parts.1 in
    rw (f.1, f.2) (completes_open s d k x bs strings (rw (sym one) at parts.2) sound)

module _ {R E : Type 0} (source : Ghosts R E) where
  -- ---- one item

  -- If a title is pulled first, its bytes are read.
  pulled_first : {old titled : Decoder R} {x : Header} (title : PullsTitle source old x titled)
      → (IsSteady source old → IsSteady source titled) → ReadsPast source old title.title titled
  pulled_first title steady = ReadsPast-pulled source _ _ _ [] _ title (ReadsPast-none source _) steady

  -- If a title is pulled and completed, an item is read.
  reads_item : {d : ℕ} {old titled new : Decoder R} {x : Header} {rest : List ℕ} → PullsTitle source old x titled
      → (IsSteady source old → IsSteady source titled) → Completes (allowed_by old) d x rest
      → ReadsPast source titled rest new → ReadsItem source d old new
  reads_item title steady completes passed = record {
    item = _;
    is_item = item_of _ _ _ _ _ title.is_title (pulled_taken source title) completes;
    passed = ReadsPast-then source _ _ _ _ _ (pulled_first title steady) passed;
  }

  pub reads_plain : {d : ℕ} {old titled : Decoder R} {x : Header} → PullsTitle source old x titled
      → (IsSteady source old → IsSteady source titled) → Completes (allowed_by old) d x []
      → ReadsItem source d old titled
  reads_plain title steady completes = reads_item title steady completes (ReadsPast-none source _)

  pub reads_string : {d : ℕ} {old titled new : Decoder R} (k : Kind) (len : Option ℕ)
      → PullsTitle source old (kind_header k len) titled → (IsSteady source old → IsSteady source titled)
      → SkipsWhole source k len titled new → ReadsItem source d old new
  reads_string {d = d} {old = old} {titled = titled} k len title steady whole =
      let x = kind_header k len in
      let shortest = IsTitle-shortest x (title_in_range title.title x title.is_title) in
      let completes =
      string_completes (spelling_of titled) d k len (shortest_title x) whole.behind _ whole.bodies shortest
      whole.is_string refl whole.taken whole.sound in
      let keeps : allowed_by old ≡ Shortest → spelling_of titled ≡ Shortest =
      λ on. title.mode ∙ (strict_by old.waiting (spelling_of old) on).0 in
      reads_item title steady (completes_looser _ _ keeps d x whole.behind completes) whole.passed

  pub reads_nest : {d levels : ℕ} {old titled new : Decoder R} {x : Header} → suc levels ≡ d
      → PullsTitle source old x titled → (IsSteady source old → IsSteady source titled)
      → ReadsWithin source x levels titled new → ReadsItem source d old new
  reads_nest level title steady inner =
      let completes = completes_looser _ _ (pulled_keeps source title) _ _ inner.rest inner.completes in
      rw (sym level) (reads_item title steady completes inner.passed)

  -- An error at the beginning of an item stops the read of the item.
  pub stops_here : {outer : Bool} {d room : ℕ} {old : Decoder R} {error : SkipError E} {new : Decoder R}
      → StopsDue source d outer room old error new → StopsItem source outer d room old error new
  stops_here {outer = outer} {d = d} {old = old} stops =
      let due : ItemDue (allowed_by old) outer d [] d outer = here in
      let passed = ReadsPast-none source old in
      search

  -- A failure of the item's title, or of the string after the title, stops the read of the item.
  pub title_stops : {outer : Bool} {d room room' : ℕ} {old before : Decoder R} {error : Error E} {new : Decoder R}
      → before ≡ old → room' ≡ room
      → StopsTitle source room' before error new → StopsItem source outer d room old (s.Read error) new
  title_stops {room = room} {error = error} {new = new} same same_room stops =
      stops_here (subst (λ (first : Decoder R). StopsTitle source room first error new) same (rw same_room at stops))

  pub pull_stops : {outer : Bool} {d room : ℕ} {old before : Decoder R} {error : Error E} {new : Decoder R}
      → before ≡ old → DecoderPullAnswer source before (Err error) new → StopsItem source outer d room old (s.Read error) new
  pull_stops same fails = title_stops same refl (inl fails)

  -- An error within a nest, after its title, stops the read of the item.
  pub stops_nest : {outer : Bool} {d levels room : ℕ} {old titled : Decoder R} {x : Header} {error : SkipError E}
      {new : Decoder R}
      → suc levels ≡ d → PullsTitle source old x titled → (IsSteady source old → IsSteady source titled)
      → StopsWithin source x levels room titled error new → StopsItem source outer d room old error new
  stops_nest {outer = outer} {levels = levels} {old = old} level title steady stops =
      let inner = stops.stops in
      let keeps = pulled_keeps source title in
      let items = items_looser _ _ keeps _ _ _ stops.are_items in
      let due = due_looser _ _ (λ on. passed_keeps source stops.passed (keeps on)) _ _ _ _ _ inner.due in
      let passed = ReadsPast-then source _ _ _ _ _ (pulled_first title steady)
      (ReadsPast-then source _ _ _ _ _ stops.passed inner.passed) in
      let whole : ItemDue (allowed_by old) outer (suc levels) _ inner.levels inner.closable =
      within title.is_title (pulled_taken source title) stops.takes_more items due in
      rw (sym level) (search)

  -- ---- items within a nest

  -- After the nest's header `count` items were read, and `remaining` is due.
  pub record SoFar (x : Header) (d : ℕ) (old now : Decoder R) (remaining : Remaining) : Type 0 where
    pub count : ℕ
    pub is_remaining : IsRemaining x count remaining
    pub items : List ℕ
    pub are_items : AreItems (allowed_by old) d count items
    pub passed : ReadsPast source old items now

  pub none_read : {x : Header} {d : ℕ} {old : Decoder R} {remaining : Remaining} → IsRemaining x 0 remaining
      → SoFar x d old old remaining
  none_read is = record { count = 0; is_remaining = is; items = _; are_items = no_items; passed = ReadsPast-none source _ }

  pub one_more : {x : Header} {d : ℕ} {old now new : Decoder R} {remaining after : Remaining}
      → SoFar x d old now remaining → ((count : ℕ) → IsRemaining x count remaining → IsRemaining x (suc count) after)
      → ReadsItem source d now new → SoFar x d old new after
  one_more so_far goes_on item =
      let one = items_looser _ _ (passed_keeps source so_far.passed) _ _ _ item.is_item in
      search (
        goes_on so_far.count so_far.is_remaining,
        items_item _ _ _ _ _ so_far.are_items one,
        ReadsPast-then source _ _ _ _ _ so_far.passed item.passed,
      )

  -- If one more item is due and stops, the read of the nest stops. The buffer has the same length as at first.
  pub stops_within : {x : Header} {d room room' : ℕ} {old now new : Decoder R} {error : SkipError E}
      {remaining : Remaining} → SoFar x d old now remaining → is_done remaining ≡ false → room' ≡ room
      → StopsItem source (closes remaining) d room' now error new → StopsWithin source x d room old error new
  stops_within {x = x} {d = d} {room = room} {now = now} {new = new} {error = error} {remaining = remaining} so_far
      some same stops =
      let more = takes_more x so_far.count remaining so_far.is_remaining some in
      let stopped : StopsItem source (may_close x so_far.count) d room now error new = rw more.1 (rw same at stops) in
      search

  -- If nothing remains, the whole nest was read.
  pub ended : {x : Header} {d : ℕ} {old now : Decoder R} {remaining : Remaining} → SoFar x d old now remaining
      → is_done remaining ≡ true → ReadsWithin source x d old now
  ended {x = x} so_far done =
      let all : item_count x ≡ Some so_far.count = grind arith in
      let completes = counted_completes x all so_far.are_items in
      search

  -- If a break may stand after the items, the items and the break complete the nest.
  all_closed : (s : Spelling) (x : Header) (d count : ℕ) (items : List ℕ) (remaining : Remaining)
      → IsRemaining x count remaining → closes remaining ≡ true → AreItems s d count items
      → Completes s (suc d) x (items ++ 0xff ∷ [])
  all_closed s x d count items remaining is may i = grind (arith, open_array, open_pairs)

  pub closed : {x : Header} {d : ℕ} {old now new : Decoder R} {remaining : Remaining} → SoFar x d old now remaining
      → closes remaining ≡ true → PullsTitle source now h.Break new → (IsSteady source now → IsSteady source new)
      → ReadsWithin source x d old new
  closed {x = x} {remaining = remaining} so_far may title steady = record {
    rest = so_far.items ++ 0xff ∷ [];
    completes = all_closed _ x _ _ _ remaining so_far.is_remaining may so_far.are_items;
    passed = rw (alone_bytes title.title h.Break title.is_title refl) at
        (ReadsPast-pull source _ _ _ _ _ title so_far.passed steady);
  }
