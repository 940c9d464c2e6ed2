-- Settings: a map whose keys are numbers (RFC 7049, 2.1).
use Rattle.std.specs.Prelude.{◌≡◌, ℕ, zero, suc, List, [], ◌++◌, Bool, true, false, Some, None, MatchOption, string_bytes}
use Rattle.ciborium_ll_grammar.specs.declared.spelling.Spelling.TheVariants.{Any}
use Rattle.ciborium_ll.specs.Types.Read.{Ghosts}
use Rattle.ciborium_ll.specs.Types.Header.TheVariants as h
use Rattle.ciborium_ll.specs.Types.Decoder.{Decoder}
use Rattle.ciborium_ll.specs.Text.{joined}
use Rattle.ciborium_ll.specs.Title.{IsTitle, shortest_title}
use Rattle.ciborium_ll.specs.Strings.{IsString, Text}
use Rattle.ciborium_ll.specs.Elements.{AreWritable, body_spelling}
use Rattle.ciborium_ll.specs.Items.{IsItem}
use Rattle.ciborium_ll.specs.Decoding.{PullsTitle, ReadsPast}
use Rattle.uses.specs.declared.settings.Settings.{Settings}
use Rattle.uses.specs.declared.settings.TheConstants.{SETTINGS_DEPTH}

-- The bytes are a text string, whose bodies are UTF-8, each by itself, and joined are the text (RFC 7049, 2.1 and
-- 2.2.2). The bytes `7f 61 61 61 62 ff` are the text `ab`.
pub record IsText (bytes text : List ℕ) : Type 0 where
  pub bodies : List (List ℕ)
  pub is_string : IsString Text bytes bodies
  pub sound : AreWritable Text bodies
  pub whole : text ≡ joined bodies

-- `IsEntry bytes old new`: the bytes are a key and its value, and they turn the settings `old` into `new`. After
-- `01 61 61` the host is `a`, after `02 05` the port is 5, and `03 80` changes nothing (RFC 7049, 2.1).
pub data IsEntry : List ℕ → Settings → Settings → Type 0 where
  is_host : {key : List ℕ} {old new : Settings} (value : List ℕ) → IsTitle key (h.Positive 1)
      → MatchOption new.host ⊥ (λ text. IsText value (string_bytes text)) → new.port ≡ old.port
      → IsEntry (key ++ value) old new
  is_port : {key value : List ℕ} {number : ℕ} {old new : Settings} → IsTitle key (h.Positive 2)
      → IsTitle value (h.Positive number) → new.port ≡ Some number → new.host ≡ old.host
      → IsEntry (key ++ value) old new
  is_other : {key value : List ℕ} {number : ℕ} {settings : Settings} → IsTitle key (h.Positive number)
      → (number ≡ 1 → ⊥) → (number ≡ 2 → ⊥) → IsItem Any SETTINGS_DEPTH value
      → IsEntry (key ++ value) settings settings

-- `AreEntries count bytes old new`: the bytes are `count` entries, joined, and they turn the settings `old` into `new`
-- (RFC 7049, 2.1). After `01 61 61 02 05`, two entries, the host is `a` and the port is 5.
pub data AreEntries : ℕ → List ℕ → Settings → Settings → Type 0 where
  no_entries : {settings : Settings} → AreEntries zero [] settings settings
  one_more : {count : ℕ} {bytes entry : List ℕ} {old between new : Settings} → AreEntries count bytes old between
      → IsEntry entry between new → AreEntries (suc count) (bytes ++ entry) old new

-- The shortest spelling of a map with this host and this port: for the host `a` and the port 5 the bytes
-- `a2 01 61 61 02 05` (RFC 7049, 2.1 and 3.9).
unfoldable pub settings_bytes : List ℕ → ℕ → List ℕ
settings_bytes host port =
    shortest_title (h.Map (Some 2)) ++ (shortest_title (h.Positive 1) ++ (body_spelling Text host
    ++ (shortest_title (h.Positive 2) ++ shortest_title (h.Positive port))))

module _ {R E : Type 0} (source : Ghosts R E) where
  -- An entry was read: `02 05`, for example, after which the port is 5.
  pub record ReadsEntry (old : Decoder R) (before : Settings) (new : Decoder R) (after : Settings) : Type 0 where
    pub bytes : List ℕ
    pub is_entry : IsEntry bytes before after
    pub passed : ReadsPast source old bytes new

  -- A key was read that is neither the host's nor the port's: `03`, for example.
  pub record ReadsOtherKey (old new : Decoder R) : Type 0 where
    pub number : ℕ
    pub pulled : PullsTitle source old (h.Positive number) new
    pub no_host : number ≡ 1 → ⊥
    pub no_port : number ≡ 2 → ⊥

  -- By the answer, an entry was read, or a key alone that is neither the host's nor the port's and changes no settings.
  -- Over `02 05` the entry is read, and over `03 80` only `03`.
  abbrev pub ReadsKnown : Decoder R → Settings → Bool → Decoder R → Settings → Type 0
  ReadsKnown old before true new after = ReadsEntry old before new after
  ReadsKnown old before false new after = ReadsOtherKey old new × (after ≡ before)

  -- `count` entries of a map were read: 2, for example, if `02 05 03 80` was read.
  pub record ReadsEntries (count : ℕ) (old : Decoder R) (before : Settings) (new : Decoder R) (after : Settings)
      : Type 0 where
    pub bytes : List ℕ
    pub are_entries : AreEntries count bytes before after
    pub passed : ReadsPast source old bytes new

  -- A map was read, whose entries turn no settings into these (RFC 7049, 2.1). After `a1 02 05` the port is 5, and
  -- there is no host.
  pub record ReadsSettings (old : Decoder R) (settings : Settings) (new : Decoder R) : Type 0 where
    pub count : ℕ
    pub opened : Decoder R
    pub pulled : PullsTitle source old (h.Map (Some count)) opened
    pub empty : Settings
    pub no_host : empty.host ≡ None
    pub no_port : empty.port ≡ None
    pub entries : ReadsEntries count opened empty new settings
