-- Laws of settings that are read entry by entry.
use Rattle.std.proofs.Common.{ℕ, suc, List, [], ◌++◌}
use Rattle.ciborium_ll_grammar.specs.declared.spelling.Spelling.TheVariants.{Any}
use Rattle.ciborium_ll.specs.Types.Read.{Ghosts}
use Rattle.ciborium_ll.specs.Types.Header.{Header}
use Rattle.ciborium_ll.specs.Types.Decoder.{Decoder}
use Rattle.ciborium_ll.specs.Decoding.{MovesOn, PullsTitle, ReadsPast}
use Rattle.ciborium_ll.proofs.DecodingLaws.{ReadsPast-none, ReadsPast-pulled, ReadsPast-then}
use Rattle.cbor_skip.specs.Skipping.{ReadsItem}
use Rattle.cbor_skip.proofs.StrictnessLaws.{items_looser}
use Rattle.uses.specs.declared.settings.Settings.{Settings}
use Rattle.uses.specs.declared.settings.TheConstants.{SETTINGS_DEPTH}
use Rattle.uses.specs.Settings.{IsEntry, IsText, ReadsEntries, ReadsEntry, ReadsOtherKey, is_other, one_more}
use Rattle.uses.specs.Texts.{ReadsText}

module _ {R E : Type 0} (source : Ghosts R E) where
  -- If a title was pulled, its bytes were read.
  pub title_read : {old new : Decoder R} {header : Header} (title : PullsTitle source old header new)
      → MovesOn source old new → ReadsPast source old title.title new
  title_read title keeps = ReadsPast-pulled source _ _ _ [] _ title (ReadsPast-none source _) keeps.steady

  -- The bytes of a text that was read are a text string.
  pub text_read : {limit : ℕ} {old new : Decoder R} {text : List ℕ} (reads : ReadsText source limit old text new)
      → IsText reads.bytes text
  text_read reads = record { bodies = reads.bodies; is_string = reads.is_string; sound = reads.sound; whole = reads.whole }

  -- A key and then its value are an entry.
  pub entry_read : {old keyed new : Decoder R} {header : Header} {value : List ℕ} {before after : Settings}
      (key : PullsTitle source old header keyed) → MovesOn source old keyed → ReadsPast source keyed value new
      → IsEntry (key.title ++ value) before after → ReadsEntry source old before new after
  entry_read key keeps passed entry = record {
    bytes = _;
    is_entry = entry;
    passed = ReadsPast-then source _ _ _ _ _ (title_read key keeps) passed;
  }

  -- Another key and then its skipped value are an entry that changes nothing.
  pub other_read : {old keyed new : Decoder R} {settings : Settings} (key : ReadsOtherKey source old keyed)
      → MovesOn source old keyed → ReadsItem source SETTINGS_DEPTH keyed new
      → ReadsEntry source old settings new settings
  other_read key keeps item =
      entry_read key.pulled keeps item.passed
      (is_other key.pulled.is_title key.no_host key.no_port
      (items_looser Any _ (λ never. absurd cc) _ _ _ item.is_item))

  -- Entries and then one more entry are entries.
  pub entries_more : {count : ℕ} {old now new : Decoder R} {before between after : Settings}
      → ReadsEntries source count old before now between → ReadsEntry source now between new after
      → ReadsEntries source (suc count) old before new after
  entries_more so_far entry = record {
    bytes = _;
    are_entries = one_more so_far.are_entries entry.is_entry;
    passed = ReadsPast-then source _ _ _ _ _ so_far.passed entry.passed;
  }
