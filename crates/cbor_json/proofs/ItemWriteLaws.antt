-- The texts of items, as they are written one after the other.
use Rattle.std.proofs.Common.{◌≡◌, ◌∙◌, ℕ, suc, Bool, true, false, [], ◌++◌, if◌then◌else◌, Option}
use Rattle.std.proofs.Common.{Result, Ok, Err, refl, subst, arith, append-nil}
use Rattle.ciborium_ll.specs.Types.Read.{Ghosts as Reader}
use Rattle.ciborium_ll.specs.Types.Write.{Ghosts as Writer}
use Rattle.ciborium_ll.specs.Types.Decoder.{Decoder}
use Rattle.ciborium_ll.specs.Types.Error.{Error}
use Rattle.ciborium_ll.specs.Types.Header.{Header}
use Rattle.ciborium_ll.specs.Types.Header.TheVariants as h
use Rattle.ciborium_ll.specs.Strings.{Kind, kind_header}
use Rattle.ciborium_ll.specs.Decoding.{IsSteady, ReadsPast, DecoderPullAnswer, PullsTitle}
use Rattle.ciborium_ll.specs.Encoding.{WritesAll, WritesBytes, WritesFront}
use Rattle.ciborium_ll.specs.Sides.{Sides, sides}
use Rattle.ciborium_ll.proofs.PiecesWritten.{writes_nothing}
use Rattle.ciborium_ll_decoder.proofs.DecodingLaws.{ReadsPast-none, ReadsPast-pulled, ReadsPast-then}
use Rattle.ciborium_ll_decoder.proofs.NestLaws.{alone_bytes}
use Rattle.cbor_skip.specs.declared.SkipError.{SkipError}
use Rattle.cbor_skip.specs.declared.SkipError.TheVariants as s
use Rattle.cbor_skip.specs.Types.Remaining.{Remaining}
use Rattle.cbor_skip.specs.Remaining.{IsRemaining, is_done, closes, is_value}
use Rattle.cbor_diag.specs.Writing.{ShowsOne}
use Rattle.cbor_diag.specs.ItemStops.{ComesNoItem}
use Rattle.cbor_diag.specs.ItemTexts.{IsAll, is_first_at, is_value_at, nest_end}
use Rattle.cbor_diag.proofs.ItemTextLaws.{all_closed, all_done, value_next}
use Rattle.cbor_diag.proofs.QuoteLaws.{wrote_both}
use Rattle.cbor_json.specs.declared.JsonError.{JsonError}
use Rattle.cbor_json.specs.declared.JsonError.TheVariants as j
use Rattle.cbor_json.specs.declared.role.Role.{Role}
use Rattle.cbor_json.specs.ItemTexts.{item_lead, more, nest as nest_json, nest_closing, nest_opening, none}
use Rattle.cbor_json.specs.ItemTexts.{scalar as scalar_json, string as string_text, RestWritten, WithinWritten}
use Rattle.cbor_json.specs.ItemStops.{ItemStops, RestStops, WithinBegun, WithinStops, WritesItem, WritesRest}
use Rattle.cbor_json.specs.ItemStops.{WritesWithin, behind, closing, item, lead, no_item, opening, scalar, string}
use Rattle.cbor_json.specs.ItemStops.{title, within}
use Rattle.cbor_json.specs.Reading.{said_of}
use Rattle.cbor_json.specs.Roles.{has_json, item_role}
use Rattle.cbor_json.specs.Scalars.{IsScalarJson}
use Rattle.cbor_json.specs.StringTexts.{string_opening, string_quotes}
use Rattle.cbor_json.specs.StringWrites.{WritesString}

-- ---- items that contain no others

module _ {R E W F : Type 0} (source : Reader R E) (sink : Writer W F) (role : Role) (place : ℕ) where
  -- The text of an integer, a float or a simple value decides the answer.
  pub scalar_written : (header : Header) (decoder : Decoder R) (old new : W) (answer : Result (Unit {0}) F)
      (result : Result (Unit {0}) (JsonError E F)) → has_json role header ≡ true → result ≡ said_of answer
      → ShowsOne sink (IsScalarJson role.is_key header) old answer new
      → WritesRest source sink role header place (sides decoder old) result (sides decoder new)
  scalar_written header decoder old new (Ok done) result has same shown = rw same (record {
    rest = [];
    text = shown.text;
    json = scalar_json has shown.is_text;
    passed = ReadsPast-none source decoder;
    written = shown.written;
  })
  scalar_written header decoder old new (Err fault) result has same shown =
      rw same (scalar shown.text has shown.is_text shown.written)

  -- The write of a string is that of its item.
  pub string_written : (kind : Kind) (len : Option ℕ) (old new : Sides R W) (result : Result (Unit {0}) (JsonError E F))
      → has_json role (kind_header kind len) ≡ true
      → WritesString source sink kind (string_quotes kind role.base) len (string_opening kind role.base) 64 old result
      new → WritesRest source sink role (kind_header kind len) place old result new
  string_written kind len old new (Ok done) has writes = record {
    rest = writes.reads.behind;
    text = _;
    json = string_text kind len has writes.reads.is_string;
    passed = writes.reads.passed;
    written = writes.written;
  }
  string_written kind len old new (Err error) has writes = string kind len has writes

-- ---- the items of a tag, an array or a map

module _ {R E W F : Type 0} (source : Reader R E) (sink : Writer W F) (role : Role) (header : Header) where
  -- The items so far were read and written, and these items remain.
  pub record ItemsFar (old : Sides R W) (remaining : Remaining) (first : Bool) (now : Sides R W) : Type 0 where
    pub count : ℕ
    pub is_remaining : IsRemaining header count remaining
    pub begun : WithinBegun source sink role header count old now
    pub counted : first ≡ is_first_at count

  pub items_begin : (now : Sides R W) (remaining : Remaining) → IsRemaining header 0 remaining
      → ItemsFar now remaining true now
  items_begin now remaining is = record {
    count = 0;
    is_remaining = is;
    begun = record {
      items = [];
      text = [];
      json = none;
      passed = ReadsPast-none source now.decoder;
      written = writes_nothing sink now.writer;
    };
    counted = refl;
  }

module _ {R E W F : Type 0} {source : Reader R E} {sink : Writer W F} {role : Role} {header : Header}
    {old now : Sides R W} {remaining : Remaining} {first : Bool}
    (far : ItemsFar source sink role header old remaining first now) where
  -- Whether the next item is a value follows from the number of items before it.
  value_is : {value : Bool} → value ≡ is_value remaining → value ≡ is_value_at header far.count
  value_is is_value = is_value ∙ value_next header far.count remaining far.is_remaining

  -- So does the text before it.
  lead_is : {value : Bool} → value ≡ is_value remaining
      → item_lead value first ≡ item_lead (is_value_at header far.count) (is_first_at far.count)
  lead_is is_value = rw (value_is is_value, far.counted)

  -- If no item came, the write of the items ends there.
  pub title_stops : (error : SkipError E) (new : Decoder R) → ComesNoItem source now.decoder error new
      → WithinStops source sink role header old (j.Read error) (sides new now.writer)
  title_stops error new came = title far.begun came

  module _ {value : Bool} {next : Header} {titled : Decoder R} (is_value : value ≡ is_value remaining)
      (pulled : PullsTitle source now.decoder next titled) where
    -- If the writer fails before the next item, the write of the items ends there.
    pub lead_stops : {error : JsonError E F} (new : W) → ((fault : F) × (error ≡ j.Write fault)
        × WritesFront sink now.writer (item_lead value first) new)
        → WithinStops source sink role header old error (sides titled new)
    lead_stops new (fault, is, stopped) = rw is (lead far.begun pulled (rw (lead_is is_value) at stopped))

    module _ {led : W} (leads : WritesAll sink now.writer (item_lead value first) led) {inner : Role} {place : ℕ}
        (within_role : inner ≡ item_role role header value) (here : place ≡ now.decoder.offset) where
      -- The role of the next item follows from the number of items before it.
      role_is : inner ≡ item_role role header (is_value_at header far.count)
      role_is = rw (← value_is is_value) within_role

      -- If the write of the next item ends with an error, the write of the items does.
      pub item_stops : {new : Sides R W} {error : JsonError E F}
          → RestStops source sink inner next place (sides titled led) error new
          → WithinStops source sink role header old error new
      item_stops stops = item far.begun pulled (rw (lead_is is_value) at leads) (rw (role_is, here) at stops)

      -- One more item was written.
      pub items_more : {after : Remaining} {new : Sides R W}
          → ((count : ℕ) → IsRemaining header count remaining → IsRemaining header (suc count) after)
          → (IsSteady source now.decoder → IsSteady source titled)
          → RestWritten source sink inner next (sides titled led) new
          → ItemsFar source sink role header old after false new
      items_more {new} goes_on steady written =
          let first_part = ReadsPast-pulled source now.decoder now.decoder titled [] next pulled
          (ReadsPast-none source now.decoder) steady in
          record {
            count = suc far.count;
            is_remaining = goes_on far.count far.is_remaining;
            begun = record {
              items = far.begun.items ++ (pulled.title ++ written.rest);
              text = _;
              json = more far.begun.json pulled.is_title (rw role_is at written.json);
              passed = ReadsPast-then source old.decoder now.decoder new.decoder far.begun.items
                  (pulled.title ++ written.rest) far.begun.passed
                  (ReadsPast-then source now.decoder titled new.decoder pulled.title written.rest first_part written.passed);
              written = wrote_both far.begun.written (wrote_both (rw (lead_is is_value) at leads) written.written);
            };
            counted = refl;
          }

  -- If the items are all, the content of the header was written.
  all_written : (new : Decoder R) → IsAll header far.count
      → ReadsPast source old.decoder (far.begun.items ++ nest_end header) new
      → WithinWritten source sink role header old (sides new now.writer)
  all_written new all passed = record {
    count = far.count;
    items = far.begun.items;
    text = far.begun.text;
    all = all;
    json = far.begun.json;
    passed = passed;
    written = far.begun.written;
  }

  -- If no item remains, the content of the header was written.
  pub items_done : is_done remaining ≡ true → WithinWritten source sink role header old now
  items_done done = grind (arith, all_done, all_written, append-nil)

  -- If a break ended the items, the content of the header was written.
  pub items_closed : (titled : Decoder R) → closes remaining ≡ true → PullsTitle source now.decoder h.Break titled
      → (IsSteady source now.decoder → IsSteady source titled)
      → WithinWritten source sink role header old (sides titled now.writer)
  items_closed titled may pulled steady =
      let all = all_closed header far.count remaining far.is_remaining may in
      all_written titled all.0 (rw (all.1, ← alone_bytes pulled.title h.Break pulled.is_title refl) (ReadsPast-pulled source
      old.decoder now.decoder titled far.begun.items h.Break pulled far.begun.passed
      (λ first. steady (far.begun.passed.steady first))))

  -- A break in place of an item ends the items if it may stand there. Otherwise it is an error.
  pub break_written : (may : Bool) (new : Decoder R) (result : Result (Unit {0}) (JsonError E F)) (place : ℕ)
      → PullsTitle source now.decoder h.Break new
      → result ≡ (if may then Ok (tt {0}) else Err (j.Read (s.Break place)))
      → (may ≡ true → WithinWritten source sink role header old (sides new now.writer))
      → WritesWithin source sink role header old result (sides new now.writer)
  break_written may new result place pulled same closed = grind (arith, title_stops)

-- ---- a tag, an array or a map

module _ {R E W F : Type 0} {source : Reader R E} {sink : Writer W F} {role : Role} {header : Header} (place : ℕ)
    {decoder : Decoder R} {old opened : W} (has : has_json role header ≡ true)
    (opens : WritesAll sink old (nest_opening header) opened) where
  -- The items and the text after them are the nest, or the writer fails at that text.
  pub nest_written : {between : Sides R W} (new : W) (answer : Result (Unit {0}) F)
      (result : Result (Unit {0}) (JsonError E F))
      → WithinWritten source sink role header (sides decoder opened) between → result ≡ said_of answer
      → WritesBytes sink between.writer answer (nest_closing header) new
      → WritesRest source sink role header place (sides decoder old) result (sides between.decoder new)
  nest_written new (Err fault) result inside same ends = rw same (closing has opens inside ends)
  nest_written new (Ok done) result inside same ends =
      rw same (record {
        rest = inside.items ++ nest_end header;
        text = _;
        json = nest_json has inside.all inside.json;
        passed = inside.passed;
        written = wrote_both opens (wrote_both inside.written ends);
      })

  -- If the write of the items ends with an error, the write of the nest does.
  pub within_stops : {new : Sides R W} {error : JsonError E F}
      → WithinStops source sink role header (sides decoder opened) error new
      → RestStops source sink role header place (sides decoder old) error new
  within_stops stops = within has opens stops

module _ {R E W F : Type 0} (source : Reader R E) (sink : Writer W F) where
  -- If the writer fails before the items, the write of the nest ends with that failure.
  pub opening_stops : {role : Role} {header : Header} {place : ℕ} {decoder : Decoder R} {old new : W}
      {error : JsonError E F} → has_json role header ≡ true
      → ((fault : F) × (error ≡ j.Write fault) × WritesFront sink old (nest_opening header) new)
      → RestStops source sink role header place (sides decoder old) error (sides decoder new)
  opening_stops has (fault, is, stopped) = rw is (opening has stopped)

  -- A title and the rest of its item are the item.
  pub item_written : (role : Role) {header : Header} {place : ℕ} {before titled : Decoder R} (writer : W)
      (new : Sides R W) (result : Result (Unit {0}) (JsonError E F)) → PullsTitle source before header titled
      → (IsSteady source before → IsSteady source titled) → place ≡ before.offset
      → WritesRest source sink role header place (sides titled writer) result new
      → WritesItem source sink role (sides before writer) result new
  item_written role writer new (Err error) pulled steady here written = behind pulled (rw here at written)
  item_written role {header} {place} {before} {titled} writer new (Ok done) pulled steady here written =
      let first_part = ReadsPast-pulled source before before titled [] header pulled (ReadsPast-none source before) steady in
      record {
        title = pulled.title;
        header = header;
        rest = written.rest;
        text = written.text;
        is_title = pulled.is_title;
        json = written.json;
        passed = ReadsPast-then source before titled new.decoder pulled.title written.rest first_part written.passed;
        written = written.written;
      }

  -- If no title was pulled, nothing was written.
  pub none_came : {role : Role} {before old new : Decoder R} {error : Error E} {writer : W} → before ≡ old
      → DecoderPullAnswer source before (Err error) new
      → ItemStops source sink role (sides old writer) (j.Read (s.Read error)) (sides new writer)
  none_came {new} {error} same fails = no_item {error = s.Read error}
      (subst (λ (first : Decoder R). DecoderPullAnswer source first (Err error) new) same fails)
