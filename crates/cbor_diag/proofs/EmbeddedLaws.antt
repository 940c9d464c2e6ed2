-- Items that stand in byte strings, and are shown out of memory.
use Rattle.std.proofs.Common.{◌≡◌, ◌∙◌, ℕ, suc, ◌+◌, ◌-◌, Bool, true, false, List, [], ◌∷◌, ◌++◌, codes}
use Rattle.std.proofs.Common.{length, Some, Result, Ok, Err, ap, refl, sym, subst, arith, append-nil, length-append}
use Rattle.ciborium_ll_grammar.specs.declared.spelling.Spelling.{Spelling}
use Rattle.ciborium_ll_grammar.specs.declared.spelling.Spelling.TheVariants.{Any}
use Rattle.ciborium_ll.specs.Types.Read.{Ghosts as Reader}
use Rattle.ciborium_ll.specs.Types.Write.{Ghosts as Writer}
use Rattle.ciborium_ll.specs.Types.Decoder.{Decoder}
use Rattle.ciborium_ll.specs.Types.Header.TheVariants as h
use Rattle.ciborium_ll.specs.Title.{IsInRange}
use Rattle.ciborium_ll.specs.Strings.{Bytes, definite}
use Rattle.ciborium_ll.specs.Items.{IsItem}
use Rattle.ciborium_ll.specs.Decoding.{ReadsPast, spelling_of}
use Rattle.ciborium_ll.specs.Encoding.{WritesAll, WritesBytes}
use Rattle.ciborium_ll.proofs.CopyingTold.{consumes_told}
use Rattle.ciborium_ll.proofs.ItemLaws.{one_item}
use Rattle.ciborium_ll.proofs.TitleLaws.{IsTitle-shortest}
use Rattle.cbor_skip.specs.declared.SkipError.{SkipError}
use Rattle.cbor_skip.specs.Skipping.{ReadsItem, SkipsItem, allowed_by}
use Rattle.ciborium_ll.specs.Premises.{CanRead}
use Rattle.cbor_skip.proofs.SkippingToldLaws.{skip_exactly}
use Rattle.cbor_diag.specs.declared.layout.Line.{Line}
use Rattle.cbor_diag.specs.declared.marks.Mark.{Mark}
use Rattle.cbor_diag.specs.declared.strings.quotes.Quotes.TheVariants as q
use Rattle.cbor_diag.specs.HeldStops.{Inside, KeptStops, ShowsKept, closing, quoted, within}
use Rattle.cbor_diag.specs.ItemStops.{ItemStopsAt}
use Rattle.cbor_diag.specs.EmbeddedShows.{ItemFails}
use Rattle.cbor_diag.specs.declared.DiagError.TheVariants as d
use Rattle.ciborium_ll.specs.Sides.{sides}
use Rattle.cbor_diag.specs.ItemTexts.{IsItemText, IsShown, embedded, string}
use Rattle.cbor_diag.specs.Marks.{mark_text, title_mark}
use Rattle.cbor_diag.specs.OpenShows.{IsBodiesText, IsStringText}
use Rattle.cbor_diag.specs.Places.{IsEmbedded, Place, line_inside, place_inside, place_of}
use Rattle.cbor_diag.specs.StringShows.{quoted_body}

-- A list of no length is empty.
nothing : (bytes : List ℕ) → length bytes ≡ 0 → bytes ≡ []
nothing [] none = refl
nothing (byte ∷ bytes) none = absurd (omega (arith, none))

-- ---- the read of an item in memory

module _ {R E : Type 0} (source : Reader R E) (depth : ℕ) (item : List ℕ) (old : Decoder R)
    (ready : CanRead source 64 old item) (mode : spelling_of old ≡ Any) (is_item : IsItem Any depth item) where
  -- The read of an item does not stop.
  pub never_stops : (new : Decoder R) (error : SkipError E) → SkipsItem source depth 64 old (Err error) new → ⊥
  never_stops new error stops =
      let ok = (skip_exactly source depth 64 old item ready new (Err error) stops).1 (record {
        item = item;
        rest = [];
        is_item = subst (λ (b : Spelling). IsItem b depth item) (sym mode) is_item;
        is = sym (append-nil item);
      }) in
      absurd cc

  -- The read of one item reads all of it.
  pub all_read : (new : Decoder R) (read : List ℕ) → ReadsPast source old read new → ReadsItem source depth old new
      → item ≡ read
  all_read new read passed reads =
      let gone = consumes_told _ _ item read ready.told passed.consumed in
      let first = consumes_told _ _ item reads.item ready.told reads.passed.consumed in
      let one = one_item Any (allowed_by old) depth depth item reads.item [] first.0 is_item reads.is_item
      (append-nil item ∙ first.2) in
      let counted = ap length gone.2 ∙ length-append read gone.0 in
      let none : gone.0 ≡ [] =
      nothing gone.0 (omega (arith, counted, passed.offset, reads.passed.offset, ap length one.0)) in
      gone.2 ∙ (ap (λ (z : List ℕ). read ++ z) none ∙ append-nil read)

-- ---- the text of a string

-- The place of the item in a string that leaves this much memory.
pub inside_place : (line inner : Line) (strings levels len space : ℕ) → inner ≡ line_inside line
    → place_of inner strings (levels - 1) space ≡ place_inside len (place_of line (suc strings) levels (len + space))
inside_place line inner strings levels len space is =
    let left : (len + space) - len ≡ space = omega arith in
    rw (is, left) refl

-- The text of a byte string in quotes, in plain and in exact notation.
definite_body : (mark : Mark) (body : List ℕ) → IsInRange (h.Bytes (Some (length body)))
    → IsBodiesText Bytes (Some (length body)) mark body (quoted_body q.Hex body ++ mark_text mark)
definite_body mark body range = record {
  bodies = body ∷ [];
  is_string = definite (IsTitle-shortest (h.Bytes (Some (length body))) range);
  text_is = ap (λ (z : List ℕ). z ++ mark_text mark) (sym (append-nil (quoted_body q.Hex body)));
}

definite_text : (exact : Bool) (mark : Mark) (body : List ℕ) → IsInRange (h.Bytes (Some (length body)))
    → IsStringText exact Bytes (Some (length body)) mark body (quoted_body q.Hex body ++ mark_text mark)
definite_text true mark body range = definite_body mark body range
definite_text false mark body range = definite_body mark body range

-- The text of a byte string that is shown as an item.
embedded_text : (place : Place) (mark : Mark) (body text : List ℕ) → IsEmbedded place (h.Bytes (Some (length body))) body
    → IsItemText (place_inside (length body) place) body text
    → IsShown place (h.Bytes (Some (length body))) mark body (codes "<<" ++ (text ++ (codes ">>" ++ mark_text mark)))
embedded_text place mark body text is item =
    let here = subst (λ (z : List ℕ). IsEmbedded place (h.Bytes (Some (length body))) z) item.is is in
    let inner = subst (λ (z : List ℕ). IsShown (place_inside (length z) place) item.header
    (title_mark place.line.style.is_exact item.header (length item.title)) item.rest text) item.is item.shown in
    subst (λ (z : List ℕ). IsShown place (h.Bytes (Some (length body))) mark z
    (codes "<<" ++ (text ++ (codes ">>" ++ mark_text mark)))) (sym item.is) (embedded here item.is_title inner)

module _ {W F : Type 0} (sink : Writer W F) (inside : Inside W F) (place : Place) (mark : Mark) (body : List ℕ) (old new : W)
  where
    -- A string that is no item is shown in quotes.
    pub quoted_kept : (answer : Result (Unit {0}) F) → IsInRange (h.Bytes (Some (length body)))
        → (IsEmbedded place (h.Bytes (Some (length body))) body → ⊥)
        → WritesBytes sink old answer (quoted_body q.Hex body ++ mark_text mark) new
        → ShowsKept sink inside place mark body old answer new
    quoted_kept (Ok done) range none wrote = record {
      text = quoted_body q.Hex body ++ mark_text mark;
      shown = string Bytes (Some (length body)) (definite_text place.line.style.is_exact mark body range) none;
      written = wrote;
    }
    quoted_kept (Err fault) range none wrote = quoted none wrote

    -- A string that is an item is shown as the item.
    pub embedded_kept : (answer : Result (Unit {0}) F) (text : List ℕ)
        → IsEmbedded place (h.Bytes (Some (length body))) body
        → IsItemText (place_inside (length body) place) body text
        → WritesBytes sink old answer (codes "<<" ++ (text ++ (codes ">>" ++ mark_text mark))) new
        → ShowsKept sink inside place mark body old answer new
    embedded_kept (Ok done) text is item wrote = record {
      text = codes "<<" ++ (text ++ (codes ">>" ++ mark_text mark));
      shown = embedded_text place mark body text is item;
      written = wrote;
    }
    embedded_kept (Err fault) text is item wrote = closing is item wrote

    -- If the writer fails within the item, it fails within the string.
    pub embedded_stops : (fault : F) {opened : W} (inner : Place)
        → IsEmbedded place (h.Bytes (Some (length body))) body → WritesAll sink old (codes "<<") opened
        → inner ≡ place_inside (length body) place → inside inner body opened fault new
        → KeptStops sink inside place mark body old fault new
    embedded_stops fault {opened} inner is opens same fails =
        within is opens (subst (λ (p : Place). inside p body opened fault new) same fails)

module _ {R E W F : Type 0} (source : Reader R E) (sink : Writer W F) (inside : Inside W F) (place : Place) (item : List ℕ)
  where
    -- If the writer fails, the show of the item in memory fails.
    pub item_fails : (before after : Decoder R) (old new : W) (fault : F) → CanRead source 64 before item
        → ItemStopsAt source sink inside place (sides before old) (d.Write fault) (sides after new)
        → ItemFails source sink inside place item old fault new
    item_fails before after old new fault ready stops =
        record { before = before; after = after; told = ready.told; stops = stops }
