-- Items whose titles are the shortest are items.
use Rattle.std.proofs.Common.{ℕ, suc, zero, List, Result, Ok, Err, arith}
use Rattle.std.specs.Result.{IfOk}
use Rattle.ciborium_ll_grammar.specs.declared.spelling.Spelling.{Spelling}
use Rattle.ciborium_ll_grammar.specs.declared.spelling.Spelling.TheVariants.{Any, Shortest}
use Rattle.ciborium_ll_grammar.specs.declared.hdr.Header.{Header}
use Rattle.ciborium_ll_grammar.specs.Items.{Completes, positive, negative, float, simple, byte_string, text_string}
use Rattle.ciborium_ll_grammar.specs.Items.{open_bytes, open_text, tag, array, pairs, open_array, open_pairs, AreItems}
use Rattle.ciborium_ll_grammar.specs.Items.{no_items, more_items}
use Rattle.cbor_encode.specs.Sequences.{AreSequence}

mutual
  loose_completion : {depth : ℕ} {header : Header} {rest : List ℕ} → Completes Shortest depth header rest
      → Completes Any depth header rest
  loose_completion (byte_string same) = byte_string same
  loose_completion (text_string same text) = text_string same text
  loose_completion (open_bytes are taken) = open_bytes are tt
  loose_completion (open_text are taken text) = open_text are tt text
  loose_completion (tag item) = tag (loose_items item)
  loose_completion (array items) = array (loose_items items)
  loose_completion (pairs items) = pairs (loose_items items)
  loose_completion (open_array items) = open_array (loose_items items)
  loose_completion (open_pairs count items) = open_pairs count (loose_items items)
  loose_completion scalar = grind (arith, positive, negative, float, simple)

  loose_items : {depth count : ℕ} {bytes : List ℕ} → AreItems Shortest depth count bytes
      → AreItems Any depth count bytes
  loose_items no_items = no_items
  loose_items (more_items title taken completes items) =
      more_items title tt (loose_completion completes) (loose_items items)

-- Items in any mode are items.
pub any_items : (allowed : Spelling) (depth count : ℕ) (bytes : List ℕ) → AreItems allowed depth count bytes
    → AreItems Any depth count bytes
any_items Shortest depth count bytes items = loose_items items
any_items Any depth count bytes items = items

pub any_sequence : (allowed : Spelling) (depth : ℕ) (bytes : List ℕ) → AreSequence allowed depth bytes
    → AreSequence Any depth bytes
any_sequence allowed depth bytes are = record {
  count = are.count;
  are = any_items allowed depth are.count bytes are.are;
}

pub any_result : {T E : Type 0} (allowed : Spelling) (depth : ℕ) (bytes : T → List ℕ) (result : Result T E)
    → IfOk result (λ value. AreItems allowed depth (suc zero) (bytes value))
    → IfOk result (λ value. AreItems Any depth (suc zero) (bytes value))
any_result allowed depth bytes (Ok value) items = any_items allowed depth (suc zero) (bytes value) items
any_result allowed depth bytes (Err error) items = items
