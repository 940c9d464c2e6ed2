-- The text that was written of an item before its write ended with an error.
use Rattle.std.specs.Prelude.{◌≡◌, ℕ, true, false, List, Option, Result, Ok, Err}
use Rattle.ciborium_ll.specs.Types.Read.{Ghosts as Reader}
use Rattle.ciborium_ll.specs.Types.Write.{Ghosts as Writer}
use Rattle.ciborium_ll.specs.Types.Decoder.{Decoder}
use Rattle.ciborium_ll.specs.Types.Header.{Header}
use Rattle.ciborium_ll.specs.Decoding.{ReadsPast, PullsTitle}
use Rattle.ciborium_ll.specs.Encoding.{WritesAll, WritesFront}
use Rattle.ciborium_ll.specs.Sides.{Sides, sides}
use Rattle.ciborium_ll.specs.Strings.{Kind, kind_header}
use Rattle.cbor_skip.specs.Due.{IsNest}
use Rattle.cbor_skip.specs.declared.SkipError.{SkipError}
use Rattle.cbor_skip.specs.declared.SkipError.TheVariants as s
use Rattle.cbor_diag.specs.ItemStops.{ComesNoItem}
use Rattle.cbor_diag.specs.ItemTexts.{is_first_at, is_value_at}
use Rattle.cbor_diag.specs.declared.strings.TheConstants.{BUFFER_SIZE}
use Rattle.cbor_json.specs.declared.JsonError.{JsonError}
use Rattle.cbor_json.specs.declared.JsonError.TheVariants as j
use Rattle.cbor_json.specs.declared.role.Role.{Role}
use Rattle.cbor_json.specs.ItemTexts.{AreJson, ItemWritten, RestWritten, WithinWritten, item_lead, nest_closing}
use Rattle.cbor_json.specs.ItemTexts.{nest_opening}
use Rattle.cbor_json.specs.Roles.{has_json, item_role}
use Rattle.cbor_json.specs.Scalars.{IsScalarJson}
use Rattle.cbor_json.specs.StringTexts.{string_opening, string_quotes}
use Rattle.cbor_json.specs.StringWrites.{WritesString}

module _ {R E W F : Type 0} (source : Reader R E) (sink : Writer W F) where
  -- After the header `count` items were read, and their text was written. It can be `01` after `82`, with the text `1`.
  pub record WithinBegun (role : Role) (header : Header) (count : ℕ) (old now : Sides R W) : Type 0 where
    pub items : List ℕ
    pub text : List ℕ
    pub json : AreJson role header count items text
    pub passed : ReadsPast source old.decoder items now.decoder
    pub written : WritesAll sink old.writer text now.writer

  mutual
    -- `RestStops role header place old error new`: after its header, which stands at the place, the write of an item of
    -- this role ended with the error. After `81` a break `ff` ends it, and its text is `[`.
    pub data RestStops : Role → Header → ℕ → Sides R W → JsonError E F → Sides R W → Type 0 where
      -- The item has no JSON, and nothing was written.
      no_json : {role : Role} {header : Header} {place : ℕ} {now : Sides R W} → has_json role header ≡ false
          → RestStops role header place now (j.NoJson place) now
      -- The writer failed within an integer, a float or a simple value.
      scalar : {role : Role} {header : Header} {place : ℕ} {old : Sides R W} {fault : F} {new : W} (text : List ℕ)
          → has_json role header ≡ true → IsScalarJson role.is_key header text → WritesFront sink old.writer text new
          → RestStops role header place old (j.Write fault) (sides old.decoder new)
      -- The write of a string ended.
      string : {role : Role} {place : ℕ} {old new : Sides R W} {error : JsonError E F} (kind : Kind) (len : Option ℕ)
          → has_json role (kind_header kind len) ≡ true
          → WritesString source sink kind (string_quotes kind role.base) len (string_opening kind role.base) BUFFER_SIZE
          old (Err error) new → RestStops role (kind_header kind len) place old error new
      -- No level is left, and nothing was written.
      deep : {role : Role} {header : Header} {place : ℕ} {now : Sides R W} → has_json role header ≡ true
          → IsNest header → RestStops role header place now (j.Read (s.Deep place)) now
      -- The writer failed before the items.
      opening : {role : Role} {header : Header} {place : ℕ} {old : Sides R W} {fault : F} {new : W}
          → has_json role header ≡ true → WritesFront sink old.writer (nest_opening header) new
          → RestStops role header place old (j.Write fault) (sides old.decoder new)
      -- The write of the items ended.
      within : {role : Role} {header : Header} {place : ℕ} {old new : Sides R W} {error : JsonError E F} {opened : W}
          → has_json role header ≡ true → WritesAll sink old.writer (nest_opening header) opened
          → WithinStops role header (sides old.decoder opened) error new → RestStops role header place old error new
      -- The writer failed after the items.
      closing : {role : Role} {header : Header} {place : ℕ} {old between : Sides R W} {fault : F} {opened new : W}
          → has_json role header ≡ true → WritesAll sink old.writer (nest_opening header) opened
          → WithinWritten source sink role header (sides old.decoder opened) between
          → WritesFront sink between.writer (nest_closing header) new
          → RestStops role header place old (j.Write fault) (sides between.decoder new)

    -- `WithinStops role header old error new`: after the header, which has this role, some items were written. The
    -- write ended with the error at the next item that was due. In `82 01 1c` it ended at `1c`, after the item `01`.
    pub data WithinStops : Role → Header → Sides R W → JsonError E F → Sides R W → Type 0 where
      -- No item came, and nothing more was written.
      title : {role : Role} {count : ℕ} {header : Header} {old between : Sides R W} {error : SkipError E}
          {new : Decoder R} → WithinBegun role header count old between
          → ComesNoItem source between.decoder error new
          → WithinStops role header old (j.Read error) (sides new between.writer)
      -- The writer failed before the item.
      lead : {role : Role} {count : ℕ} {header next : Header} {old between : Sides R W} {titled : Decoder R} {fault : F}
          {new : W} → WithinBegun role header count old between → PullsTitle source between.decoder next titled
          → WritesFront sink between.writer (item_lead (is_value_at header count) (is_first_at count)) new
          → WithinStops role header old (j.Write fault) (sides titled new)
      -- The write of the item ended.
      item : {role : Role} {count : ℕ} {header next : Header} {old between new : Sides R W} {titled : Decoder R}
          {led : W} {error : JsonError E F} → WithinBegun role header count old between
          → PullsTitle source between.decoder next titled
          → WritesAll sink between.writer (item_lead (is_value_at header count) (is_first_at count)) led
          → RestStops (item_role role header (is_value_at header count)) next between.decoder.offset (sides titled led)
          error new → WithinStops role header old error new

  -- The write of an item ended with the error. No title came, or a break, and nothing was written; or it ended after
  -- its title. For `ff` nothing is written, and for `81 ff` the text is `[`.
  pub data ItemStops (role : Role) (old : Sides R W) : JsonError E F → Sides R W → Type 0 where
    no_item : {error : SkipError E} {new : Decoder R} → ComesNoItem source old.decoder error new
        → ItemStops role old (j.Read error) (sides new old.writer)
    behind : {header : Header} {titled : Decoder R} {error : JsonError E F} {new : Sides R W}
        → PullsTitle source old.decoder header titled
        → RestStops role header old.decoder.offset (sides titled old.writer) error new → ItemStops role old error new

  -- The write of the rest of an item, by its answer. After `82` it can be `Ok` for `01 02`, and not for `01 ff`.
  abbrev pub WritesRest : Role → Header → ℕ → Sides R W → Result (Unit {0}) (JsonError E F) → Sides R W → Type 0
  WritesRest role header place old (Ok done) new = RestWritten source sink role header old new
  WritesRest role header place old (Err error) new = RestStops role header place old error new

  -- The write of the content of a header, by its answer. After `81` it can be `Ok` for `01`.
  abbrev pub WritesWithin : Role → Header → Sides R W → Result (Unit {0}) (JsonError E F) → Sides R W → Type 0
  WritesWithin role header old (Ok done) new = WithinWritten source sink role header old new
  WritesWithin role header old (Err error) new = WithinStops role header old error new

  -- The write of an item, by its answer. It can be `Ok` for `82 01 02`, and not for `82 01 ff`.
  abbrev pub WritesItem : Role → Sides R W → Result (Unit {0}) (JsonError E F) → Sides R W → Type 0
  WritesItem role old (Ok done) new = ItemWritten source sink role old new
  WritesItem role old (Err error) new = ItemStops role old error new
