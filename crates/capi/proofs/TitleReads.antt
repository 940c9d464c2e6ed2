-- The title and the body with which bytes begin, and the faults if they do not.
use Rattle.std.proofs.Common.{◌≡◌, ◌≢◌, ℕ, zero, suc, ◌+◌, ◌≤◌, Bool, false, List, [], ◌∷◌, ◌++◌, length, take, drop}
use Rattle.std.proofs.Common.{refl, sym, ap, subst, ◌∙◌, arith, append_assoc, append-nil, length-append}
use Rattle.std.proofs.lemmas.List.{drop_at, length-take-le, take-append-drop}
use Rattle.ciborium_ll.specs.Types.Header.{Header}
use Rattle.ciborium_ll.specs.Types.Header.TheVariants as h
use Rattle.ciborium_ll_grammar.specs.declared.spelling.Spelling.TheVariants.{Any}
use Rattle.ciborium_ll_grammar.specs.Title.{IsTitle}
use Rattle.ciborium_ll_grammar.specs.Strings.{Kind, Text}
use Rattle.ciborium_ll_grammar.specs.Items.{AreItems, Completes, more_items}
use Rattle.ciborium_ll_grammar.specs.Items.{positive, negative, float, simple, byte_string, text_string, open_bytes}
use Rattle.ciborium_ll_grammar.specs.Items.{open_text, tag, array, pairs, open_array, open_pairs}
use Rattle.ciborium_ll_grammar.specs.Faults.{Answer, FirstFault, Point, Syntax, BodyDue, CutTitle}
use Rattle.ciborium_ll_grammar.specs.Faults.{NoTitle, LongTitle, OtherTitle, DamagedText, CutBody, CutDamagedText}
use Rattle.ciborium_ll_grammar.proofs.StringLaws.{break_title}
use Rattle.ciborium_ll_grammar.proofs.TitleLaws.{one_title}
use Rattle.cbor_skip.specs.Due.{IsNest, ItemDue, ReachesItem, at_body, at_piece, here}
use Rattle.cbor_skip.specs.ItemFaults.{BeginsWithItem}
use Rattle.capi.specs.declared.answer.CllAnswer.{CllAnswer}
use Rattle.capi.specs.declared.answer.CllAnswer.TheVariants as a
use Rattle.capi.specs.declared.answer.CllReport.{CllReport}
use Rattle.capi.specs.declared.header.CllHeader.{CllHeader}
use Rattle.capi.specs.declared.titles.CllTitle.{CllTitle}
use Rattle.capi.specs.Answers.{Reports}
use Rattle.capi.specs.Lacking.{ItemLacks}
use Rattle.capi.specs.Pulling.{BeginsWithTitle, CllPull}
use Rattle.capi.specs.Skipping.{Skips}
use Rattle.capi.specs.Titles.{BeginsWithBody, HasBody, HasNoBody, IsBody, IsEntry, ReadsTitle, StopsAt}
use Rattle.capi.proofs.PullLaws.{front_not_cut, front_not_refused}

-- ---- what begins with a title and its body

-- Some bytes begin with the body of a title of the header.
record BodyInFront (header : Header) (bytes : List ℕ) : Type 0 where
  pub body : List ℕ
  pub rest : List ℕ
  pub is_body : IsBody header body
  pub is : bytes ≡ body ++ rest

-- No body follows a title of most headers.
no_body : (header : Header) (bytes : List ℕ) → IsBody header [] → BodyInFront header bytes
no_body header bytes none = record { body = []; rest = bytes; is_body = none; is = refl }

-- What completes a header begins with its body.
body_in : (depth : ℕ) (header : Header) (bytes : List ℕ) → Completes Any depth header bytes
    → BodyInFront header bytes
body_in depth header bytes positive = no_body header bytes refl
body_in depth header bytes negative = no_body header bytes refl
body_in depth header bytes float = no_body header bytes refl
body_in depth header bytes simple = no_body header bytes refl
body_in depth header bytes (byte_string same) =
    record { body = bytes; rest = []; is_body = same; is = sym (append-nil bytes) }
body_in depth header bytes (text_string same text) =
    record { body = bytes; rest = []; is_body = (same, text); is = sym (append-nil bytes) }
body_in depth header bytes (open_bytes strings taken) = no_body header bytes refl
body_in depth header bytes (open_text strings taken texts) = no_body header bytes refl
body_in depth header bytes (tag item) = no_body header bytes refl
body_in depth header bytes (array items) = no_body header bytes refl
body_in depth header bytes (pairs items) = no_body header bytes refl
body_in depth header bytes (open_array items) = no_body header bytes refl
body_in depth header bytes (open_pairs count items) = no_body header bytes refl

-- The parts of an item, joined in another order, are the same bytes.
joined_parts : (title body inner others rest : List ℕ)
    → (title ++ ((body ++ inner) ++ others)) ++ rest ≡ title ++ (body ++ (inner ++ (others ++ rest)))
joined_parts title body inner others rest = simp append_assoc

-- Items begin with a title and its body.
items_begin : (depth count : ℕ) (items rest : List ℕ) → AreItems Any depth (suc count) items
    → BeginsWithBody (items ++ rest)
items_begin depth count items rest
    (more_items {title = title} {rest = inner} {others = others} {header = header} is_title taken completes behind) =
    let front = body_in depth header inner completes in
    let parts : (title ++ (inner ++ others)) ++ rest ≡ (title ++ ((front.body ++ front.rest) ++ others)) ++ rest =
    ap (λ (z : List ℕ). (title ++ (z ++ others)) ++ rest) front.is in
    record {
      title = title;
      body = front.body;
      rest = front.rest ++ (others ++ rest);
      header = header;
      is_title = is_title;
      is_body = front.is_body;
      is = parts ∙ joined_parts title front.body front.rest others rest;
    }

-- Bytes that begin with an item begin with a title and its body.
pub item_begins : (depth : ℕ) (bytes : List ℕ) → BeginsWithItem Any depth bytes → BeginsWithBody bytes
item_begins depth bytes front =
    subst BeginsWithBody (sym front.is) (items_begin depth zero front.item front.rest front.is_item)

-- A title that begins no string of a definite length is all that is read of it.
bare_begins : (title rest : List ℕ) (header : Header) → IsTitle title header → IsBody header []
    → BeginsWithBody (title ++ rest)
bare_begins title rest header is_title none =
    record { title = title; body = []; rest = rest; header = header; is_title = is_title; is_body = none; is = refl }

-- A break that stands in place of the first item is a title.
break_begins : (bytes before rest : List ℕ) (levels : ℕ) → ItemDue Any false 0 before levels false
    → bytes ≡ before ++ 0xff ∷ rest → BeginsWithBody bytes
break_begins bytes before rest levels here is =
    subst BeginsWithBody (sym is) (bare_begins (0xff ∷ []) rest h.Break break_title refl)

-- A nest for which there are no levels at all begins with its title.
nest_begins : (header : Header) (bytes before title rest : List ℕ) (closable : Bool)
    → ItemDue Any false 0 before 0 closable → IsTitle title header → IsNest header
    → bytes ≡ before ++ (title ++ rest) → BeginsWithBody bytes
nest_begins (h.Tag number) bytes before title rest closable here is_title nest is =
    subst BeginsWithBody (sym is) (bare_begins title rest _ is_title refl)
nest_begins (h.Array len) bytes before title rest closable here is_title nest is =
    subst BeginsWithBody (sym is) (bare_begins title rest _ is_title refl)
nest_begins (h.Map len) bytes before title rest closable here is_title nest is =
    subst BeginsWithBody (sym is) (bare_begins title rest _ is_title refl)
nest_begins (h.Positive number) bytes before title rest closable due is_title nest is = absurd nest
nest_begins (h.Negative number) bytes before title rest closable due is_title nest is = absurd nest
nest_begins (h.Bytes len) bytes before title rest closable due is_title nest is = absurd nest
nest_begins (h.Text len) bytes before title rest closable due is_title nest is = absurd nest
nest_begins (h.Float value) bytes before title rest closable due is_title nest is = absurd nest
nest_begins (h.Simple number) bytes before title rest closable due is_title nest is = absurd nest
nest_begins h.Break bytes before title rest closable due is_title nest is = absurd nest

-- ---- the place of a fault

-- The place of a fault lies within the bytes.
place_reached : (before : List ℕ) (kind : Kind) (len start : ℕ)
    → ReachesItem Any 0 before (BodyDue kind len start) → start ≤ length before
place_reached before kind len start (at_body {bytes = bytes} {title = title} mine reach is_title taken) = omega arith
place_reached before kind len start (at_piece {bytes = bytes} {title = title} reach is_title taken) =
    omega (arith, length-append bytes title)

place_within : (before ahead written : List ℕ) (point : Point) (answer : Answer) (place consumed : ℕ)
    → ReachesItem Any 0 before point → FirstFault Any before [] point ahead answer written consumed
    → answer ≡ Syntax place → place ≤ length before
place_within before ahead written point answer place consumed reach (CutTitle at cut) is = absurd cc
place_within before ahead written point answer place consumed reach (NoTitle at refused) is =
    let same : length before ≡ place = cc in omega (arith, same)
place_within before ahead written point answer place consumed reach (LongTitle header rest at title taken parts) is =
    absurd (taken (tt {0}))
place_within before ahead written point answer place consumed reach (OtherTitle header rest title refused parts) is =
    let same : length before ≡ place = cc in omega (arith, same)
place_within before ahead written point answer place consumed reach
    (DamagedText {len = len} {start = start} front rest whole damaged parts text least most) is =
    let same : start ≡ place = cc in omega (arith, same, place_reached before Text len start reach)
place_within before ahead written point answer place consumed reach
    (CutBody front rest cut parts writable least most there) is =
    absurd cc
place_within before ahead written point answer place consumed reach
    (CutDamagedText {len = len} {start = start} front rest cut damaged parts text least most) is =
    let same : start ≡ place = cc in omega (arith, same, place_reached before Text len start reach)

-- ---- the answer if no title with its body comes next

-- A skip finds a fault there.
module _ (rest : List ℕ) (none : BeginsWithBody rest → ⊥) where
  -- No item comes first.
  pub no_item : (depth : ℕ) → BeginsWithItem Any depth rest → ⊥
  no_item depth front = none (item_begins depth rest front)

  -- If the bytes are not cut off, they are not of the grammar.
  only_syntax : (answer : CllAnswer) (told : CllReport) → Skips 0 rest answer told → answer ≢ a.Short
      → answer ≡ a.Syntax
  only_syntax a.Ok told skips other = absurd (no_item 0 skips.0)
  only_syntax a.Short told skips other = absurd (other refl)
  only_syntax a.Syntax told skips other = refl
  only_syntax a.BreakDue told skips other =
      let fault = skips.0 in
      absurd (none (break_begins rest fault.before fault.rest fault.levels fault.item_due fault.is))
  only_syntax a.TooDeep told skips other =
      let fault = skips.0 in
      absurd (none (nest_begins fault.header rest fault.before fault.title fault.rest fault.closable fault.item_due
      fault.is_title fault.is_nest fault.is))
  only_syntax a.Room told skips other = absurd skips
  only_syntax a.TooLong told skips other = absurd skips
  only_syntax a.Argument told skips other = absurd skips
  only_syntax a.NotShortest told skips other = absurd skips
  only_syntax a.Indefinite told skips other = absurd skips
  only_syntax a.KeyOrder told skips other = absurd skips
  only_syntax a.DuplicateKey told skips other = absurd skips
  only_syntax a.Absent told skips other = absurd skips

  -- The skip met a fault of the grammar.
  syntax_told : (answer : CllAnswer) (told : CllReport) → Skips 0 rest answer told → answer ≢ a.Short
      → Skips 0 rest a.Syntax told
  syntax_told answer told skips other =
      subst (λ (x : CllAnswer). Skips 0 rest x told) (only_syntax answer told skips other) skips

  -- The place of the fault is not after the bytes.
  pub place_told : (answer : CllAnswer) (told : CllReport) → Skips 0 rest answer told → answer ≢ a.Short
      → told.place ≤ length rest
  place_told answer told skips other =
      let met = syntax_told answer told skips other in
      let fault = met.0 in
      let most = place_within fault.before fault.ahead fault.written fault.point fault.answer told.place fault.consumed
      fault.reach fault.fault met.1 in
      omega (arith, most, ap length fault.is, length-append fault.before fault.ahead)

-- The bytes are cut off.
pub stops_short : (bytes : List ℕ) (taken filled : ℕ) (told report : CllReport) (due : ℕ)
    → Skips 0 (drop taken bytes) a.Short told → ItemLacks Any 1 (drop taken bytes) due
    → Reports report taken filled due → StopsAt bytes taken filled a.Short report
stops_short bytes taken filled told report due skips lacks reports =
    let same : report.place ≡ due = reports.place_is in (
      skips.0,
      skips.1,
      subst (ItemLacks Any 1 (drop taken bytes)) (sym same) lacks,
      subst (λ (n : ℕ). Reports report taken filled n) (sym same) reports,
    )

-- The bytes are not of the grammar.
pub stops_fault : (bytes : List ℕ) (taken filled : ℕ) → (BeginsWithBody (drop taken bytes) → ⊥)
    → (answer : CllAnswer) (told report : CllReport) (place : ℕ)
    → Skips 0 (drop taken bytes) answer told → answer ≢ a.Short → place ≡ taken + told.place
    → Reports report taken filled place → StopsAt bytes taken filled answer report
stops_fault bytes taken filled none answer told report place skips other is reports =
    let met = syntax_told (drop taken bytes) none answer told skips other in
    subst (λ (x : CllAnswer). StopsAt bytes taken filled x report)
    (sym (only_syntax (drop taken bytes) none answer told skips other))
    (met.0, told.place, met.1, subst (λ (n : ℕ). Reports report taken filled n) is reports)

-- ---- one title

-- Bytes that begin with a title and its body begin with a title.
title_of : (bytes : List ℕ) → BeginsWithBody bytes → BeginsWithTitle bytes
title_of bytes front = record {
  title = front.title;
  header = front.header;
  rest = front.body ++ front.rest;
  is_title = front.is_title;
  is = front.is;
}

-- If no title comes first, no title with its body does.
pub none_pulled : (bytes : List ℕ) (answer : CllAnswer) (old new : CllHeader) (consumed : ℕ)
    → CllPull bytes answer old new consumed → answer ≢ a.Ok → BeginsWithBody bytes → ⊥
none_pulled bytes a.Ok old new consumed pulled other front = other refl
none_pulled bytes a.Short old new consumed pulled other front = front_not_cut bytes (title_of bytes front) pulled.0
none_pulled bytes a.Syntax old new consumed pulled other front = front_not_refused bytes (title_of bytes front) pulled.0
none_pulled bytes a.Room old new consumed pulled other front = pulled
none_pulled bytes a.TooLong old new consumed pulled other front = pulled
none_pulled bytes a.BreakDue old new consumed pulled other front = pulled
none_pulled bytes a.TooDeep old new consumed pulled other front = pulled
none_pulled bytes a.Argument old new consumed pulled other front = pulled
none_pulled bytes a.NotShortest old new consumed pulled other front = pulled
none_pulled bytes a.Indefinite old new consumed pulled other front = pulled
none_pulled bytes a.KeyOrder old new consumed pulled other front = pulled
none_pulled bytes a.DuplicateKey old new consumed pulled other front = pulled
none_pulled bytes a.Absent old new consumed pulled other front = pulled

module _ (bytes : List ℕ) (consumed : ℕ) (front : BeginsWithTitle bytes)
    (whole : consumed ≡ length front.title) where
  -- The rest after the title.
  behind : drop consumed bytes ≡ front.rest
  behind = ap (drop consumed) front.is ∙ drop_at front.title front.rest consumed (sym whole)

  -- If no body of the title follows, no title with its body comes first.
  pub none_follows : HasNoBody front.header (drop consumed bytes) → BeginsWithBody bytes → ⊥
  none_follows none other =
      let same = one_title front.title other.title front.rest (other.body ++ other.rest) front.header other.header
      front.is_title other.is_title (sym front.is ∙ other.is) in
      none other.body other.rest (behind ∙ same.2)
      (subst (λ (x : Header). IsBody x other.body) (sym same.1) other.is_body)

  -- If the body follows, the title and the body come first.
  pub body_follows : (start len : ℕ) (entry : CllTitle) → HasBody front.header (drop consumed bytes) len
      → IsEntry entry front.header start (start + consumed) → ReadsTitle bytes start entry (consumed + len)
  body_follows start len entry has is_entry = record {
    front = record {
      title = front.title;
      body = take len (drop consumed bytes);
      rest = drop len (drop consumed bytes);
      header = front.header;
      is_title = front.is_title;
      is_body = has.1;
      is = front.is ∙ ap (λ (z : List ℕ). front.title ++ z)
          (sym behind ∙ sym (take-append-drop len (drop consumed bytes)));
    };
    is_entry = subst (λ (n : ℕ). IsEntry entry front.header start (start + n)) whole is_entry;
    length_is = omega (arith, whole, length-take-le len (drop consumed bytes) has.0);
  }
