-- Elements and items: a string is both, and the title of any other element but a break begins an item.
use Rattle.std.proofs.Common.{◌≡◌, ℕ, zero, suc, ◌*◌, ◌↔◌, List, [], ◌∷◌, ◌++◌, length}
use Rattle.std.proofs.Common.{Some, None, refl, sym, ap, subst, ◌∙◌, arith, append_assoc, append-nil}
use Rattle.std.specs.List.{AllByRecursion}
use Rattle.ciborium_ll_grammar.specs.declared.spelling.Spelling.{Spelling}
use Rattle.ciborium_ll_grammar.specs.declared.spelling.Spelling.TheVariants.{Any, Shortest}
use Rattle.ciborium_ll.specs.Types.Header.{Header}
use Rattle.ciborium_ll.specs.Types.Header.TheVariants as h
use Rattle.ciborium_ll.specs.Title.{IsTitle, IsStrictTitle, numbered, Unsigned, Small}
use Rattle.ciborium_ll.specs.Strings.{Kind, Bytes, Text, kind_header, AreStrings, IsWritable}
use Rattle.ciborium_ll.specs.Strings.{none as no_strings, more as more_strings}
use Rattle.ciborium_ll.specs.Strings.IsString.{definite, indefinite}
use Rattle.ciborium_ll.specs.Elements.{AreWritable, Mark, Plain, Whole, IsPlain, IsElement, IsNoSmallSimple, IsRun, spelling}
use Rattle.ciborium_ll.specs.Elements.{IsStrictRun, open_marks}
use Rattle.ciborium_ll.specs.Elements.{plain as plain_element, string, done as run_done}
use Rattle.ciborium_ll.specs.StrictElements.{AreFlat, none as no_flat, more as more_flat, IsStrictElement}
use Rattle.ciborium_ll.specs.StrictElements.{plain, whole, parts, AreStrictElements, done, next}
use Rattle.ciborium_ll.specs.Items.{AreItems, IsItem, IsTakenTitle, AreTakenStrings, no_items, more_items, Completes}
use Rattle.ciborium_ll.specs.Items.{positive, negative, float, simple, byte_string, text_string, open_bytes, open_text}
use Rattle.ciborium_ll.specs.Items.{tag, array, pairs, open_array, open_pairs}
use Rattle.ciborium_ll.specs.Faults.{BeginsWithElements}
use Rattle.ciborium_ll.proofs.ElementLaws.{bytes_writable}
use Rattle.ciborium_ll.proofs.StepLaws.{add_element}
use Rattle.ciborium_ll.proofs.NestLaws.{alone_bytes, open_alone}
use Rattle.cbor_skip.proofs.ItemSteps.{item_of}

-- The law of elements in their shortest spelling, if a copy takes only these.
abbrev pub StrictLaw : Spelling → Type 0
StrictLaw allowed = allowed ≡ Shortest → (count : ℕ) (bytes : List ℕ) (marks : List Mark)
    → IsStrictRun count bytes marks ↔ AreStrictElements count bytes marks

-- No law is needed if a copy takes any spelling.
pub no_law : StrictLaw Any
no_law on count bytes marks = absurd cc

-- The copy takes the element.
abbrev IsTakenElement : Spelling → List ℕ → List Mark → Type 0
IsTakenElement Shortest word marks = IsStrictElement word marks
IsTakenElement Any word marks = IsElement word marks

-- ---- an element

-- An element is a title that begins no string, or an item.
pub data Shape (allowed : Spelling) (word : List ℕ) : Type 0 where
  titled : (header : Header) → IsTitle word header → IsTakenTitle allowed word header → IsPlain header
      → Shape allowed word
  whole_item : IsItem allowed 1 word → Shape allowed word

string_completes : (allowed : Spelling) (kind : Kind) (body : List ℕ) → IsWritable kind body
    → Completes allowed 1 (kind_header kind (Some (length body))) body
string_completes allowed Bytes body sound = byte_string refl
string_completes allowed Text body sound = text_string refl sound

open_completes : (allowed : Spelling) (kind : Kind) (strings : List ℕ) (bodies : List (List ℕ))
    → AreStrings kind strings bodies → AreTakenStrings allowed kind strings bodies → AreWritable kind bodies
    → Completes allowed 1 (kind_header kind None) (strings ++ 0xff ∷ [])
open_completes allowed Bytes strings bodies are taken sound = open_bytes are taken
open_completes allowed Text strings bodies are taken sound = open_text are taken sound

any_shape : (word : List ℕ) (marks : List Mark) → IsElement word marks → Shape Any word
any_shape word marks (plain_element header is_title is_plain) = titled header is_title tt is_plain
any_shape word marks (string kind (definite {title = t} {body = b} is_title) sound) =
    whole_item (item_of Any 1 t b (kind_header kind (Some (length b))) is_title tt
    (string_completes Any kind b sound.0))
any_shape word marks (string kind (indefinite {title = t} {strings = u} {bodies = bs} is_title are) sound) =
    whole_item (item_of Any 1 t (u ++ 0xff ∷ []) (kind_header kind None) is_title tt
    (open_completes Any kind u bs are tt sound))

flat_strings : (kind : Kind) (u : List ℕ) (bs : List (List ℕ)) → AreFlat kind u bs → AreStrings kind u bs
flat_strings kind u bs no_flat = no_strings
flat_strings kind u bs (more_flat {rest = v} {bodies = cs} is_title allowed flat) =
    more_strings (definite is_title) (flat_strings kind v cs flat)

open_strict : (kind : Kind) (t : List ℕ) → IsTitle t (kind_header kind None) → IsStrictTitle t (kind_header kind None)
open_strict Bytes t is_title = record {
  shortest = alone_bytes t (kind_header Bytes None) is_title (open_alone Bytes);
  meant = λ small. small;
}
open_strict Text t is_title = record {
  shortest = alone_bytes t (kind_header Text None) is_title (open_alone Text);
  meant = λ small. small;
}

strict_shape : (word : List ℕ) (marks : List Mark) → IsStrictElement word marks → Shape Shortest word
strict_shape word marks (plain header is_title allowed is_plain) = titled header is_title allowed is_plain
strict_shape word marks (whole {title = t} {body = b} kind is_title allowed sound) =
    whole_item (item_of Shortest 1 t b (kind_header kind (Some (length b))) is_title allowed
    (string_completes Shortest kind b sound))
strict_shape word marks (parts {title = t} {strings = u} {bodies = bs} kind is_title flat sound) =
    whole_item (item_of Shortest 1 t (u ++ 0xff ∷ []) (kind_header kind None) is_title (open_strict kind t is_title)
    (open_completes Shortest kind u bs (flat_strings kind u bs flat) flat sound))

-- The bytes are one element.
record One (word : List ℕ) : Type 0 where
  same : List ℕ
  marks : List Mark
  element : IsStrictElement same marks
  is : word ≡ same

one_of : (n : ℕ) (word : List ℕ) (marks : List Mark) → n ≡ 1 → AreStrictElements n word marks → One word
one_of n word marks single done = absurd (omega (arith, single))
one_of n word marks single (next {first = w} {marks = ms} element done) =
    record { same = w; marks = ms; element = element; is = append-nil w }
one_of n word marks single (next {count = m} first (next second rest)) = absurd (omega (arith, single))

run_of_one : (word : List ℕ) (marks : List Mark) → IsElement word marks → IsRun 1 word marks
run_of_one word marks element = add_element 0 [] [] run_done word marks element

-- An element that is taken has one of the two shapes.
pub shape_of : (allowed : Spelling) → StrictLaw allowed → (word : List ℕ) (marks : List Mark) → IsElement word marks
    → (allowed ≡ Shortest → (word ≡ spelling marks) × AllByRecursion IsNoSmallSimple marks) → Shape allowed word
shape_of Any law word marks element spelled = any_shape word marks element
shape_of Shortest law word marks element spelled =
    let own = spelled refl in
    let one = one_of 1 word marks refl
    ((law refl 1 word marks).0 (record { run = run_of_one word marks element; same = own.0; meant = own.1 })) in
    subst (Shape Shortest) (sym one.is) (strict_shape one.same one.marks one.element)

-- ---- an item

-- Bytes that begin with an element that is taken begin with one element.
taken_front : (allowed : Spelling) → StrictLaw allowed → (word rest bytes : List ℕ) (marks : List Mark)
    → IsTakenElement allowed word marks → bytes ≡ word ++ rest → BeginsWithElements allowed 1 bytes
taken_front Any law word rest bytes marks element is = record {
  elements = word;
  marks = marks;
  rest = rest;
  run = run_of_one word marks element;
  is = is;
  spelled = λ on. absurd cc;
}
taken_front Shortest law word rest bytes marks element is =
    let strict = (law refl 1 (word ++ []) (marks ++ [])).1 (next element done) in
    record {
      elements = word ++ [];
      marks = marks ++ [];
      rest = rest;
      run = strict.run;
      is = is ∙ ap (λ (z : List ℕ). z ++ rest) (sym (append-nil word));
      spelled = λ on. record {
        same = strict.same ∙ sym (append-nil (spelling (marks ++ [])));
        meant = strict.meant;
      };
    }

taken_title : (allowed : Spelling) (title : List ℕ) (header : Header) → IsTitle title header
    → IsTakenTitle allowed title header → IsPlain header → IsTakenElement allowed title (Plain header ∷ [])
taken_title Shortest title header is_title taken is_plain = plain header is_title taken is_plain
taken_title Any title header is_title taken is_plain = plain_element header is_title is_plain

taken_whole : (allowed : Spelling) (kind : Kind) (title body : List ℕ)
    → IsTitle title (kind_header kind (Some (length body)))
    → IsTakenTitle allowed title (kind_header kind (Some (length body))) → IsWritable kind body
    → IsTakenElement allowed (title ++ body) (Whole kind body ∷ [])
taken_whole Shortest kind title body is_title taken sound = whole kind is_title taken sound
taken_whole Any kind title body is_title taken sound = string kind (definite is_title) (sound, tt)

taken_open : (allowed : Spelling) (kind : Kind) (title strings : List ℕ) (bodies : List (List ℕ))
    → IsTitle title (kind_header kind None) → AreStrings kind strings bodies
    → AreTakenStrings allowed kind strings bodies → AreWritable kind bodies
    → IsTakenElement allowed (title ++ (strings ++ 0xff ∷ [])) (open_marks kind bodies)
taken_open Shortest kind title strings bodies is_title are taken sound = parts kind is_title taken sound
taken_open Any kind title strings bodies is_title are taken sound = string kind (indefinite is_title are) sound

module _ (allowed : Spelling) (law : StrictLaw allowed) (title : List ℕ) where
  -- A title that begins no string is an element by itself.
  title_front : (rest bytes : List ℕ) (header : Header) → IsTitle title header → IsTakenTitle allowed title header
      → IsPlain header → bytes ≡ title ++ rest → BeginsWithElements allowed 1 bytes
  title_front rest bytes header is_title taken is_plain is =
      taken_front allowed law title rest bytes (Plain header ∷ [])
      (taken_title allowed title header is_title taken is_plain) is

  whole_front : (kind : Kind) (len : ℕ) (body bytes : List ℕ) → length body ≡ len
      → IsTitle title (kind_header kind (Some len)) → IsTakenTitle allowed title (kind_header kind (Some len))
      → IsWritable kind body → bytes ≡ title ++ (body ++ []) → BeginsWithElements allowed 1 bytes
  whole_front kind len body bytes long is_title taken sound is =
      taken_front allowed law (title ++ body) [] bytes (Whole kind body ∷ [])
      (taken_whole allowed kind title body
      (subst (λ (n : ℕ). IsTitle title (kind_header kind (Some n))) (sym long) is_title)
      (subst (λ (n : ℕ). IsTakenTitle allowed title (kind_header kind (Some n))) (sym long) taken) sound)
      (is ∙ sym (append_assoc title body []))

  open_front : (kind : Kind) (strings bytes : List ℕ) (bodies : List (List ℕ)) → IsTitle title (kind_header kind None)
      → AreStrings kind strings bodies → AreTakenStrings allowed kind strings bodies → AreWritable kind bodies
      → bytes ≡ title ++ ((strings ++ 0xff ∷ []) ++ []) → BeginsWithElements allowed 1 bytes
  open_front kind strings bytes bodies is_title are taken sound is =
      taken_front allowed law (title ++ (strings ++ 0xff ∷ [])) [] bytes (open_marks kind bodies)
      (taken_open allowed kind title strings bodies is_title are taken sound)
      (is ∙ sym (append_assoc title (strings ++ 0xff ∷ []) []))

  item_front : (depth : ℕ) (rest bytes : List ℕ) (header : Header) → IsTitle title header
      → IsTakenTitle allowed title header → Completes allowed depth header rest → bytes ≡ title ++ (rest ++ [])
      → BeginsWithElements allowed 1 bytes
  item_front depth rest bytes header is_title taken positive is =
      title_front (rest ++ []) bytes header is_title taken tt is
  item_front depth rest bytes header is_title taken negative is =
      title_front (rest ++ []) bytes header is_title taken tt is
  item_front depth rest bytes header is_title taken float is =
      title_front (rest ++ []) bytes header is_title taken tt is
  item_front depth rest bytes header is_title taken simple is =
      title_front (rest ++ []) bytes header is_title taken tt is
  item_front depth rest bytes header is_title taken (byte_string {len = n} long) is =
      whole_front Bytes n rest bytes long is_title taken tt is
  item_front depth rest bytes header is_title taken (text_string {len = n} long sound) is =
      whole_front Text n rest bytes long is_title taken sound is
  item_front depth rest bytes header is_title taken (open_bytes {strings = u} {bodies = bs} are flat) is =
      open_front Bytes u bytes bs is_title are flat (bytes_writable bs) is
  item_front depth rest bytes header is_title taken (open_text {strings = u} {bodies = bs} are flat sound) is =
      open_front Text u bytes bs is_title are flat sound is
  item_front depth rest bytes header is_title taken (tag items) is =
      title_front (rest ++ []) bytes header is_title taken tt is
  item_front depth rest bytes header is_title taken (array items) is =
      title_front (rest ++ []) bytes header is_title taken tt is
  item_front depth rest bytes header is_title taken (pairs items) is =
      title_front (rest ++ []) bytes header is_title taken tt is
  item_front depth rest bytes header is_title taken (open_array items) is =
      title_front (rest ++ []) bytes header is_title taken tt is
  item_front depth rest bytes header is_title taken (open_pairs count items) is =
      title_front (rest ++ []) bytes header is_title taken tt is

-- An item begins with an element.
pub first_of : (allowed : Spelling) → StrictLaw allowed → (depth : ℕ) (item : List ℕ) → IsItem allowed depth item
    → BeginsWithElements allowed 1 item
first_of allowed law depth item (more_items {title = t} {rest = r} {header = x} is_title taken completes no_items) =
    item_front allowed law t depth r item x is_title taken completes refl

-- ---- contents that complete a title

zero_taken : (allowed : Spelling) → IsTakenTitle allowed (0 ∷ []) (h.Positive 0)
zero_taken Shortest = record { shortest = refl; meant = λ small. small }
zero_taken Any = tt

pub zero_title : IsTitle (0 ∷ []) (h.Positive 0)
zero_title = numbered Unsigned Small 0 (omega arith)

pub zero_item : (allowed : Spelling) (depth : ℕ) → IsItem allowed depth (0 ∷ [])
zero_item allowed depth = more_items zero_title (zero_taken allowed) positive no_items

zeros : (allowed : Spelling) (depth n : ℕ) → (items : List ℕ) × AreItems allowed depth n items
zeros allowed depth zero = ([], no_items)
zeros allowed depth (suc n) =
    let others = zeros allowed depth n in
    ((0 ∷ []) ++ ([] ++ others.0), more_items zero_title (zero_taken allowed) positive others.1)

completed : (allowed : Spelling) (header : Header) → IsPlain header → (header ≡ h.Break → ⊥)
    → (rest : List ℕ) × Completes allowed 1 header rest
completed allowed (h.Positive n) is_plain goes = ([], positive)
completed allowed (h.Negative n) is_plain goes = ([], negative)
completed allowed (h.Float f) is_plain goes = ([], float)
completed allowed (h.Simple n) is_plain goes = ([], simple)
completed allowed (h.Tag n) is_plain goes = let one = zeros allowed 0 1 in (one.0, tag one.1)
completed allowed (h.Array (Some n)) is_plain goes = let items = zeros allowed 0 n in (items.0, array items.1)
completed allowed (h.Array None) is_plain goes = ([] ++ 0xff ∷ [], open_array no_items)
completed allowed (h.Map (Some n)) is_plain goes = let items = zeros allowed 0 (2 * n) in (items.0, pairs items.1)
completed allowed (h.Map None) is_plain goes = ([] ++ 0xff ∷ [], open_pairs 0 no_items)
completed allowed h.Break is_plain goes = absurd (goes refl)
completed allowed (h.Bytes len) is_plain goes = absurd is_plain
completed allowed (h.Text len) is_plain goes = absurd is_plain

-- Some bytes after a title make it an item.
pub title_item : (allowed : Spelling) (title : List ℕ) (header : Header) → IsTitle title header
    → IsTakenTitle allowed title header → IsPlain header → (header ≡ h.Break → ⊥)
    → (rest : List ℕ) × IsItem allowed 1 (title ++ rest)
title_item allowed title header is_title taken is_plain goes =
    let rest = completed allowed header is_plain goes in
    (rest.0, item_of allowed 1 title rest.0 header is_title taken rest.1)

-- A break is one byte.
pub break_long : (title : List ℕ) → IsTitle title h.Break → length title ≡ 1
break_long title is_title = ap length (alone_bytes title h.Break is_title refl)
