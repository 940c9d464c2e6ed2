-- An item in its shortest spelling is also an item in any spelling. A decoder's strictness says which titles it gave.
use Rattle.std.proofs.Common.{◌≡◌, ℕ, Bool, List, Option, None, arith}
use Rattle.ciborium_ll_io.specs.declared.io.Read.{Ghosts}
use Rattle.ciborium_ll_grammar.specs.declared.spelling.Spelling.{Spelling}
use Rattle.ciborium_ll_grammar.specs.declared.spelling.Spelling.TheVariants.{Any, Shortest}
use Rattle.ciborium_ll_grammar.specs.declared.hdr.Header.{Header}
use Rattle.ciborium_ll_decoder.specs.declared.dec.Decoder.{Decoder}
use Rattle.ciborium_ll_grammar.specs.Title.{IsStrictTitle}
use Rattle.ciborium_ll_grammar.specs.Strings.{Kind}
use Rattle.ciborium_ll_grammar.specs.Items.{Completes, positive, negative, float, simple, byte_string, text_string}
use Rattle.ciborium_ll_grammar.specs.Items.{open_bytes, open_text, tag, array, pairs, open_array, open_pairs, AreItems}
use Rattle.ciborium_ll_grammar.specs.Items.{no_items, more_items, IsTakenTitle}
use Rattle.ciborium_ll_decoder.specs.Decoding.{ReadsPast, PullsTitle, spelling_of}
use Rattle.cbor_skip.specs.Due.{ItemDue, here, within, IsTakenInside}
use Rattle.cbor_skip.specs.Skipping.{allowed_unless_waiting, allowed_by}

-- ---- any spelling

mutual
  completes_any : {d : ℕ} {x : Header} {r : List ℕ} → Completes Shortest d x r → Completes Any d x r
  completes_any (byte_string l) = byte_string l
  completes_any (text_string l k) = text_string l k
  completes_any (open_bytes q g) = open_bytes q tt
  completes_any (open_text q g k) = open_text q tt k
  completes_any (tag i) = tag (items_any i)
  completes_any (array i) = array (items_any i)
  completes_any (pairs i) = pairs (items_any i)
  completes_any (open_array i) = open_array (items_any i)
  completes_any (open_pairs n i) = open_pairs n (items_any i)
  completes_any c = grind (arith, positive, negative, float, simple)

  items_any : {d n : ℕ} {u : List ℕ} → AreItems Shortest d n u → AreItems Any d n u
  items_any no_items = no_items
  items_any (more_items p g c i) = more_items p tt (completes_any c) (items_any i)

due_any : {outer closable : Bool} {d levels : ℕ} {u : List ℕ} → ItemDue Shortest outer d u levels closable
    → ItemDue Any outer d u levels closable
due_any here = here
due_any (within p g more i due) = within p tt more (items_any i) (due_any due)

-- ---- a spelling no shorter

looser : (b b' : Spelling) → (b ≡ Shortest → b' ≡ Shortest) → (P : Spelling → Type 0) → (P Shortest → P Any) → P b'
    → P b
looser b b' keeps P any p = grind arith

pub items_looser : (b b' : Spelling) → (b ≡ Shortest → b' ≡ Shortest) → (d n : ℕ) (u : List ℕ) → AreItems b' d n u
    → AreItems b d n u
items_looser b b' keeps d n u i = looser b b' keeps (λ s. AreItems s d n u) items_any i

pub completes_looser : (b b' : Spelling) → (b ≡ Shortest → b' ≡ Shortest) → (d : ℕ) (x : Header) (r : List ℕ)
    → Completes b' d x r → Completes b d x r
completes_looser b b' keeps d x r c = looser b b' keeps (λ s. Completes s d x r) completes_any c

pub due_looser : (b b' : Spelling) → (b ≡ Shortest → b' ≡ Shortest) → (outer : Bool) (d : ℕ) (u : List ℕ) (levels : ℕ)
    (closable : Bool) → ItemDue b' outer d u levels closable → ItemDue b outer d u levels closable
due_looser b b' keeps outer d u levels closable due =
    looser b b' keeps (λ s. ItemDue s outer d u levels closable) due_any due

pub taken_when : (b : Spelling) (t : List ℕ) (x : Header) → (b ≡ Shortest → IsStrictTitle t x) → IsTakenTitle b t x
taken_when b t x strict = grind arith

pub inside_when : (b : Spelling) (k : Kind) (u : List ℕ) (bs : List (List ℕ))
    → (b ≡ Shortest → IsTakenInside Shortest k u bs)
    → IsTakenInside b k u bs
inside_when b k u bs strict = grind arith

-- ---- the strictness of a decoder

pub strict_by : (w : Option Header) (b : Spelling) → allowed_unless_waiting w b ≡ Shortest → (b ≡ Shortest) × (w ≡ None)
strict_by w b e = grind arith

pub strict_settled : (w : Option Header) (b : Spelling) → w ≡ None → allowed_unless_waiting w b ≡ b
strict_settled w b e = grind arith

-- If no header waits on a strict decoder, its strictness is its mode.
pub strict_mode : (w : Option Header) (b : Spelling) → (b ≡ Shortest → w ≡ None) → allowed_unless_waiting w b ≡ b
strict_mode w b none = grind arith

module _ {R E : Type 0} (source : Ghosts R E) where
  -- A title that the decoder gave is taken.
  pub pulled_taken : {old new : Decoder R} {x : Header} (p : PullsTitle source old x new)
      → IsTakenTitle (allowed_by old) p.title x
  pulled_taken p = taken_when _ p.title _ (λ on. grind arith)

  -- A decoder that is strict stays strict after a title.
  pub pulled_keeps : {old new : Decoder R} {x : Header} → PullsTitle source old x new → allowed_by old ≡ Shortest
      → allowed_by new ≡ Shortest
  pulled_keeps p on = grind arith

  pub passed_keeps : {old new : Decoder R} {bytes : List ℕ} → ReadsPast source old bytes new → allowed_by old ≡ Shortest
      → allowed_by new ≡ Shortest
  passed_keeps p on = grind arith

  -- A title that the decoder gave after `bytes` is taken.
  pub behind_taken : {old at new : Decoder R} {bytes : List ℕ} {x : Header} → ReadsPast source old bytes at
      → (p : PullsTitle source at x new) → IsTakenTitle (allowed_by old) p.title x
  behind_taken passed p = taken_when _ p.title _ (λ on. let still = passed_keeps passed on in grind arith)

  -- If no header waited on a strict decoder, none waits after the bytes that it read.
  pub none_behind : {old new : Decoder R} {bytes : List ℕ} → ReadsPast source old bytes new
      → (spelling_of old ≡ Shortest → old.waiting ≡ None) → spelling_of new ≡ Shortest → new.waiting ≡ None
  none_behind p none on = grind arith
