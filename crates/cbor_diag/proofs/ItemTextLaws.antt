-- The texts of items, as they are written one after the other.
use Rattle.std.proofs.lemmas.Bool.Decides.{nat_tests}
use native.Mathlib.Nat.{zero-add, suc-add}
use Rattle.std.proofs.Common.{◌≡◌, ◌∙◌, ℕ, zero, suc, ◌+◌, ◌-◌, ◌<◌, Bool, true, false, List, [], ◌∷◌, ◌++◌, codes}
use Rattle.std.proofs.Common.{length, None, Some, if◌then◌else◌, Option, Result, Ok, Err, IsErr, OnOk, arith, refl, subst, append-nil}
use Rattle.std.proofs.Math.Nat.{mul-mod_right, mul-add-mod_self_left}
use Rattle.ciborium_ll.specs.Types.Read.{Ghosts as Reader}
use Rattle.ciborium_ll.specs.Types.Decoder.{Decoder}
use Rattle.ciborium_ll.specs.Types.Error.{Error}
use Rattle.ciborium_ll.specs.Types.Header.{Header}
use Rattle.ciborium_ll.specs.Types.Header.TheVariants as h
use Rattle.ciborium_ll.specs.Strings.{Kind, kind_header}
use Rattle.ciborium_ll.specs.Decoding.{IsSteady, ReadsPast, DecoderPullAnswer, PullsTitle}
use Rattle.ciborium_ll.specs.Sides.{Sides, sides}
use Rattle.ciborium_ll_decoder.proofs.DecodingLaws.{ReadsPast-none, ReadsPast-pulled, ReadsPast-then}
use Rattle.ciborium_ll_decoder.proofs.NestLaws.{alone_bytes}
use Rattle.cbor_skip.specs.declared.SkipError.{SkipError}
use Rattle.cbor_skip.specs.declared.SkipError.TheVariants as s
use Rattle.cbor_skip.specs.Types.Remaining.{Remaining}
use Rattle.cbor_skip.specs.Remaining.{IsRemaining, is_done, closes, is_value}
use Rattle.cbor_diag.specs.declared.DiagError.{DiagError}
use Rattle.cbor_diag.specs.declared.DiagError.TheVariants as d
use Rattle.cbor_diag.specs.declared.marks.Mark.{Mark}
use Rattle.cbor_diag.specs.Marks.{title_mark}
use Rattle.cbor_diag.specs.OpenShows.{IsBodiesText, ShowsStringBy}
use Rattle.cbor_diag.specs.StringShows.{StringRead, is_indefinite, kind_quotes, string_text}
use Rattle.cbor_diag.specs.Showing.{ShowsHeader, said_of}
use Rattle.ciborium_ll.proofs.PiecesWritten.{writes_nothing}
use Rattle.ciborium_ll.specs.Types.Write.{Ghosts as Writer}
use Rattle.ciborium_ll.specs.Encoding.{WritesAll, WritesBytes, WritesFront}
use Rattle.ciborium_ll.proofs.EncodingLaws.{WritesBytes-stopped, WritesBytes-then}
use Rattle.cbor_diag.proofs.QuoteLaws.{wrote_both}
use Rattle.cbor_diag.specs.ItemTexts.{indent, new_line, nest_opening, nest_closing, nest_last, nest_end}
use Rattle.cbor_diag.specs.ItemTexts.{item_lead, is_value_at, is_first_at, IsAll, IsShown, string, nest}
use Rattle.cbor_diag.specs.ItemTexts.{none, more, RestShown, WithinShown}
use Rattle.cbor_diag.specs.ItemStops.{WithinBegun, RestStops, plain, opening, within, closing, WithinStops, title, lead}
use Rattle.cbor_diag.specs.ItemStops.{item, ComesNoItem, ItemStopsAt, no_item, behind, ShowsRest, ShowsWithin, ShowsItemAt}
use Rattle.cbor_diag.specs.HeldStops.{Inside}
use Rattle.cbor_diag.specs.Places.{IsEmbedded, Place, is_held, place_within}

-- ---- lines

-- The indents of two levels, one after the other, are the indent of their sum.
indent_parts : (far deeper : ℕ) → indent far ++ indent deeper ≡ indent (far + deeper)
indent_parts zero deeper = rw zero-add
indent_parts (suc far) deeper = simp (suc-add, indent_parts far deeper)

module _ {W F : Type 0} {sink : Writer W F} {old now : W} (far : ℕ)
    (begun : WritesAll sink old (new_line far) now) where
  -- Two more spaces give the new line of the next level.
  pub line_more : {new : W} → WritesAll sink now (codes "  ") new → WritesAll sink old (new_line (far + 1)) new
  line_more all = rw (indent_parts far 1) at (wrote_both begun all)

  -- If the writer fails at two spaces of a new line, it wrote a beginning of the line.
  pub line_stops : {T : Type 0} (level : ℕ) (new : W) (result : Result T F) → far < level → IsErr result
      → WritesFront sink now (codes "  ") new → WritesBytes sink old result (new_line level) new
  line_stops level new result less fails stopped =
      let deeper = level - suc far in
      let text : new_line far ++ indent (suc deeper) ≡ new_line level =
      grind (arith, indent_parts far (suc deeper), less) in
      rw text at (WritesBytes-then sink old now new result (new_line far) (indent (suc deeper)) begun
      (WritesBytes-stopped sink now new result (codes "  ") (indent deeper) fails stopped))

-- ---- the answer of a write

module _ {E W F : Type 0} (sink : Writer W F) {old new : W} {text : List ℕ}
    {said : Result (Unit {0}) (DiagError E F)} where
  -- A write that succeeded wrote its whole text.
  pub said_wrote : (answer : Result (Unit {0}) F) {done : Unit {0}} → said ≡ said_of answer → said ≡ Ok done
      → WritesBytes sink old answer text new → WritesAll sink old text new
  said_wrote answer same is wrote = grind arith

  -- A write that failed wrote a beginning of its text.
  pub said_failed : (answer : Result (Unit {0}) F) {error : DiagError E F} → said ≡ said_of answer → said ≡ Err error
      → WritesBytes sink old answer text new → (fault : F) × (error ≡ d.Write fault) × WritesFront sink old text new
  said_failed answer same is wrote = grind arith

-- ---- items that contain no others

-- The bodies that were read give the text of the string.
bodies_text_is : {R E : Type 0} {source : Reader R E} (kind : Kind) (len : Option ℕ) (mark : Mark)
    {old new : Decoder R} (reads : StringRead source kind len old new)
    → IsBodiesText kind len mark reads.behind (string_text (is_indefinite len) (kind_quotes kind) mark reads.bodies)
bodies_text_is kind len mark reads = record { bodies = reads.bodies; is_string = reads.is_string; text_is = refl }

-- No truth value is both.
clash : (value : Bool) → value ≡ true → value ≡ false → ⊥
clash value yes_is no_is = grind arith

-- A string that is not read into the memory is shown as no item.
pub unheld : (place : Place) (header : Header) (body : List ℕ) → is_held place header ≡ false
    → IsEmbedded place header body → ⊥
unheld place header body free is = clash (is_held place header) is.0 free

module _ {R E W F : Type 0} (source : Reader R E) (sink : Writer W F) (place : Place) where
  -- If the text of a header was written, the item was shown.
  pub plain_said : (header : Header) (mark : Mark) (text : List ℕ) (decoder : Decoder R) (old new : W) (answer : Result (Unit {0}) F)
      (result : Result (Unit {0}) (DiagError E F)) → IsShown place header mark [] text
      → result ≡ said_of answer → WritesBytes sink old answer text new
      → OnOk result (RestShown source sink place header mark (sides decoder old) (sides decoder new))
  plain_said header mark text decoder old new answer result shown same wrote = grind (arith, ReadsPast-none)

  -- If the show of a string succeeds, the item was shown.
  pub string_shown : (exact : Bool) (kind : Kind) (len : Option ℕ) (mark : Mark) (room : ℕ) (old new : Sides R W)
      (result : Result (Unit {0}) (DiagError E F)) → place.line.style.is_exact ≡ exact
      → is_held place (kind_header kind len) ≡ false
      → ShowsStringBy source sink kind exact len mark room old result new
      → OnOk result (RestShown source sink place (kind_header kind len) mark old new)
  string_shown exact kind len mark room old new (Err error) same free shows = tt
  string_shown true kind None mark room old new (Ok done) same free shows = record {
    rest = shows.rest;
    text = shows.text;
    shown = string kind None (rw same shows.is_text) (unheld place (kind_header kind None) shows.rest free);
    passed = shows.passed;
    written = shows.written;
  }
  string_shown true kind (Some len) mark room old new (Ok done) same free shows = record {
    rest = shows.reads.behind;
    text = _;
    shown = string kind (Some len) (rw same (bodies_text_is kind (Some len) mark shows.reads))
        (unheld place (kind_header kind (Some len)) shows.reads.behind free);
    passed = shows.reads.passed;
    written = shows.written;
  }
  string_shown false kind len mark room old new (Ok done) same free shows = record {
    rest = shows.reads.behind;
    text = _;
    shown = string kind len (rw same (bodies_text_is kind len mark shows.reads))
        (unheld place (kind_header kind len) shows.reads.behind free);
    passed = shows.reads.passed;
    written = shows.written;
  }

-- ---- the items of a tag, an array or a map

-- The items that remain say whether the next item is a value. After whole pairs it is a key, and otherwise a value.
pub value_next : (header : Header) (count : ℕ) (remaining : Remaining) → IsRemaining header count remaining
    → is_value remaining ≡ is_value_at header count
value_next header count remaining is = grind (arith, nat_tests, mul-mod_right, mul-add-mod_self_left)

-- If no item remains, the items are all, and no break follows them.
pub all_done : (header : Header) (count : ℕ) (remaining : Remaining) → IsRemaining header count remaining
    → is_done remaining ≡ true → IsAll header count × (nest_end header ≡ [])
all_done header count remaining is done = grind arith

-- If a break may stand, the items are all, and the break ends them.
pub all_closed : (header : Header) (count : ℕ) (remaining : Remaining) → IsRemaining header count remaining
    → closes remaining ≡ true → IsAll header count × (nest_end header ≡ 0xff ∷ [])
all_closed header count remaining is may = grind arith

module _ {R E W F : Type 0} (source : Reader R E) (sink : Writer W F) (place : Place) (header : Header) (mark : Mark)
  where
    -- The items so far were read and shown, and these items remain.
    pub record ItemsFar (old : Sides R W) (remaining : Remaining) (first : Bool) (now : Sides R W) : Type 0 where
      pub count : ℕ
      pub is_remaining : IsRemaining header count remaining
      pub begun : WithinBegun source sink place header mark count old now
      pub counted : first ≡ is_first_at count

    pub items_begin : (now : Sides R W) (remaining : Remaining) → IsRemaining header 0 remaining
        → ItemsFar now remaining true now
    items_begin now remaining is = record {
      count = 0;
      is_remaining = is;
      begun = record {
        items = [];
        text = [];
        shown = none;
        passed = ReadsPast-none source now.decoder;
        written = writes_nothing sink now.writer;
      };
      counted = refl;
    }

module _ {R E W F : Type 0} {source : Reader R E} {sink : Writer W F} {place : Place}
    {header : Header} {mark : Mark} {old now : Sides R W} {remaining : Remaining} {first : Bool}
    (far : ItemsFar source sink place header mark old remaining first now) where
  -- The text before the next item follows from the number of items before it.
  lead_is : {value : Bool} → value ≡ is_value remaining
      → item_lead header mark place.line.style.layout place.line.level value first
      ≡ item_lead header mark place.line.style.layout place.line.level (is_value_at header far.count) (is_first_at far.count)
  lead_is is_value = rw (is_value ∙ value_next header far.count remaining far.is_remaining, far.counted)

  -- If no item came, the show of the items ends there.
  pub title_stops : {inside : Inside W F} (error : SkipError E) (new : Decoder R) → ComesNoItem source now.decoder error new
      → WithinStops source sink inside place header mark old (d.Read error) (sides new now.writer)
  title_stops error new came = title far.begun came

  module _ {value : Bool} {next : Header} {titled : Decoder R} (is_value : value ≡ is_value remaining)
      (pulled : PullsTitle source now.decoder next titled) where
    -- If the writer fails before the next item, the show of the items ends there.
    pub lead_stops : {inside : Inside W F} {error : DiagError E F} (new : W) → ((fault : F) × (error ≡ d.Write fault)
        × WritesFront sink now.writer (item_lead header mark place.line.style.layout place.line.level value first) new)
        → WithinStops source sink inside place header mark old error (sides titled new)
    lead_stops new (fault, is, stopped) = rw is (lead far.begun pulled (rw (lead_is is_value) at stopped))

    module _ {led : W} (leads : WritesAll sink now.writer (item_lead header mark place.line.style.layout place.line.level value first) led) where
      -- If the show of the next item ends with an error, the show of the items does.
      pub item_stops : {inside : Inside W F} {new : Sides R W} {error : DiagError E F}
          → RestStops source sink inside place next (title_mark place.line.style.is_exact next (length pulled.title))
          (sides titled led) error new
          → WithinStops source sink inside place header mark old error new
      item_stops stops = item far.begun pulled (rw (lead_is is_value) at leads) stops

      -- One more item was shown.
      pub items_more : {after : Remaining} {new : Sides R W}
          → ((count : ℕ) → IsRemaining header count remaining → IsRemaining header (suc count) after)
          → (IsSteady source now.decoder → IsSteady source titled)
          → RestShown source sink place next (title_mark place.line.style.is_exact next (length pulled.title))
          (sides titled led) new
          → ItemsFar source sink place header mark old after false new
      items_more {new} goes_on steady shown =
          let first_part = ReadsPast-pulled source now.decoder now.decoder titled [] next pulled
          (ReadsPast-none source now.decoder) steady in
          record {
            count = suc far.count;
            is_remaining = goes_on far.count far.is_remaining;
            begun = record {
              items = far.begun.items ++ (pulled.title ++ shown.rest);
              text = _;
              shown = more far.begun.shown pulled.is_title shown.shown;
              passed = ReadsPast-then source old.decoder now.decoder new.decoder far.begun.items
                  (pulled.title ++ shown.rest) far.begun.passed
                  (ReadsPast-then source now.decoder titled new.decoder pulled.title shown.rest first_part shown.passed);
              written = wrote_both far.begun.written (wrote_both (rw (lead_is is_value) at leads) shown.written);
            };
            counted = refl;
          }

  -- If the items are all, the content of the header was shown.
  all_shown : (new : Decoder R) → IsAll header far.count
      → ReadsPast source old.decoder (far.begun.items ++ nest_end header) new
      → WithinShown source sink place header mark old first (sides new now.writer)
  all_shown new all passed = record {
    count = far.count;
    items = far.begun.items;
    text = far.begun.text;
    all = all;
    shown = far.begun.shown;
    passed = passed;
    written = far.begun.written;
    counted = far.counted;
  }

  -- If no item remains, the content of the header was shown.
  pub items_done : is_done remaining ≡ true → WithinShown source sink place header mark old first now
  items_done done = grind (arith, all_done, all_shown, append-nil)

  -- If a break ended the items, the content of the header was shown.
  pub items_closed : (titled : Decoder R) → closes remaining ≡ true → PullsTitle source now.decoder h.Break titled
      → (IsSteady source now.decoder → IsSteady source titled)
      → WithinShown source sink place header mark old first (sides titled now.writer)
  items_closed titled may pulled steady =
      let all = all_closed header far.count remaining far.is_remaining may in
      all_shown titled all.0 (rw (all.1, ← alone_bytes pulled.title h.Break pulled.is_title refl) (ReadsPast-pulled source
      old.decoder now.decoder titled far.begun.items h.Break pulled far.begun.passed
      (λ first. steady (far.begun.passed.steady first))))

  -- A break in place of an item ends the items if it may stand there. Otherwise it is an error.
  pub break_shown : (inside : Inside W F) (may : Bool) (new : Decoder R) (result : Result Bool (DiagError E F)) (at : ℕ)
      → PullsTitle source now.decoder h.Break new
      → result ≡ (if may then Ok first else Err (d.Read (s.Break at)))
      → (may ≡ true → WithinShown source sink place header mark old first (sides new now.writer))
      → ShowsWithin source sink inside place header mark old result (sides new now.writer)
  break_shown inside may new result at pulled same closed = grind (arith, title_stops)

-- ---- a tag, an array or a map

module _ {R E W F : Type 0} {source : Reader R E} {sink : Writer W F} (inside : Inside W F) {header : Header} {mark : Mark}
    (place : Place) {inner : Place} {decoder : Decoder R} {old opened : W} (is_inner : inner ≡ place_within header place)
    (opens : WritesAll sink old (nest_opening header mark) opened) where
  -- The items and the text after them show the nest, or the writer fails at that text.
  pub nest_shown : {empty : Bool} {between : Sides R W} (new : W) (answer : Result (Unit {0}) F)
      (result : Result (Unit {0}) (DiagError E F))
      → WithinShown source sink inner header mark (sides decoder opened) empty between → result ≡ said_of answer
      → WritesBytes sink between.writer answer
      (nest_last header mark place.line.style.layout place.line.level empty ++ nest_closing header) new
      → ShowsRest source sink inside place header mark (sides decoder old) result (sides between.decoder new)
  nest_shown {empty} {between} new (Err fault) result shown same ends =
      let items = subst (λ (p : Place). WithinShown source sink p header mark (sides decoder opened) empty between)
      is_inner shown in
      rw same (closing opens items ends)
  nest_shown {empty} {between} new (Ok done) result shown same ends =
      let items = subst (λ (p : Place). WithinShown source sink p header mark (sides decoder opened) empty between)
      is_inner shown in
      rw same (record {
        rest = items.items ++ nest_end header;
        text = _;
        shown = nest items.all items.shown;
        passed = items.passed;
        written = wrote_both opens (wrote_both items.written (rw items.counted at ends));
      })

  -- If the show of the items ends with an error, the show of the nest does.
  pub within_stops : {new : Sides R W} {error : DiagError E F}
      → WithinStops source sink inside inner header mark (sides decoder opened) error new
      → RestStops source sink inside place header mark (sides decoder old) error new
  within_stops {new} {error} stops =
      within opens (subst (λ (p : Place). WithinStops source sink inside p header mark (sides decoder opened) error new)
      is_inner stops)

module _ {R E W F : Type 0} (source : Reader R E) (sink : Writer W F) (inside : Inside W F) where
  -- If the writer fails before the items, the show of the nest ends with that failure.
  pub opening_stops : {header : Header} {mark : Mark} {place : Place} {decoder : Decoder R} {old new : W}
      {error : DiagError E F}
      → ((fault : F) × (error ≡ d.Write fault) × WritesFront sink old (nest_opening header mark) new)
      → RestStops source sink inside place header mark (sides decoder old) error (sides decoder new)
  opening_stops (fault, is, stopped) = rw is (opening stopped)

  -- The show of an item that contains no others is the show of its rest.
  pub plain_shown : (place : Place) (header : Header) (mark : Mark) (old new : Sides R W)
      (result : Result (Unit {0}) (DiagError E F)) → is_held place header ≡ false
      → ShowsHeader source sink place.line.style.is_exact header mark old result new
      → OnOk result (RestShown source sink place header mark old new)
      → ShowsRest source sink inside place header mark old result new
  plain_shown place header mark old new (Ok done) free shows shown = shown
  plain_shown place header mark old new (Err error) free shows shown = plain free shows

  -- A title and the rest of its item show the item.
  pub item_shown : (place : Place) {header : Header} {before titled : Decoder R} (writer : W) (new : Sides R W)
      (result : Result (Unit {0}) (DiagError E F)) → (pulled : PullsTitle source before header titled)
      → (IsSteady source before → IsSteady source titled)
      → ShowsRest source sink inside place header (title_mark place.line.style.is_exact header (length pulled.title))
      (sides titled writer) result new
      → ShowsItemAt source sink inside place (sides before writer) result new
  item_shown place writer new (Err error) pulled steady shown = behind pulled shown
  item_shown place {header} {before} {titled} writer new (Ok done) pulled steady shown =
      let first_part = ReadsPast-pulled source before before titled [] header pulled (ReadsPast-none source before) steady in
      record {
        title = pulled.title;
        header = header;
        rest = shown.rest;
        text = shown.text;
        is_title = pulled.is_title;
        shown = shown.shown;
        passed = ReadsPast-then source before titled new.decoder pulled.title shown.rest first_part shown.passed;
        written = shown.written;
      }

  -- If no title was pulled, nothing was written.
  pub none_came : {place : Place} {before old new : Decoder R} {error : Error E} {writer : W} → before ≡ old
      → DecoderPullAnswer source before (Err error) new
      → ItemStopsAt source sink inside place (sides old writer) (d.Read (s.Read error)) (sides new writer)
  none_came {new} {error} same fails = no_item {error = s.Read error}
      (subst (λ (first : Decoder R). DecoderPullAnswer source first (Err error) new) same fails)
