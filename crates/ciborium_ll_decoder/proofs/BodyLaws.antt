-- Bodies, chunk by chunk: the bytes that are handed out, those that are kept, and a read after the bytes that passed.
use Rattle.std.proofs.Common.{[], ◌≡◌, ℕ, ◌<◌, ◌≤◌, List, ◌∷◌, ◌++◌, length, Option, None, sym, ap, subst, ◌∙◌, arith}
use Rattle.std.proofs.Common.{append_assoc, append-nil}
use Rattle.ciborium_ll_io.specs.declared.io.Read.{Ghosts as Reader}
use Rattle.ciborium_ll_grammar.specs.declared.hdr.Header.{Header}
use Rattle.ciborium_ll_decoder.specs.declared.dec.Decoder.{Decoder}
use Rattle.ciborium_ll_decoder.specs.declared.seg.Kept.{Kept}
use Rattle.ciborium_ll_grammar.specs.Strings.{Kind, Bytes, IsWritable, most_kept}
use Rattle.ciborium_ll_grammar.specs.Elements.{AreWritable}
use Rattle.ciborium_ll_text.specs.Text.{IsCharacters, IsFront, IsStuck, BeginsNoText}
use Rattle.ciborium_ll_decoder.specs.Kept.{kept_bytes}
use Rattle.ciborium_ll_decoder.specs.Decoding.{behind_waiting, IsSteady, ReadsPast, ReadsAll}
use Rattle.ciborium_ll_decoder.specs.Chunks.{IsSplit}
use Rattle.ciborium_ll_decoder.proofs.DecodingLaws.{ReadsPast-then}
use Rattle.ciborium_ll_text.proofs.TextLaws.{IsCharacters-append, IsCharacters-rest, no_text_begins}

-- ---- kinds

-- The bytes of a split are its front and its rest.
pub split_parts : (kind : Kind) (bytes front rest : List ℕ) → IsSplit kind bytes front rest → bytes ≡ front ++ rest
split_parts kind bytes front rest s = grind (arith, append-nil {A = ℕ})

pub writable_nil : (kind : Kind) → IsWritable kind []
writable_nil kind = grind arith

pub writable_chunk : (kind : Kind) (front bytes chunk rest : List ℕ) → IsWritable kind front
    → IsSplit kind bytes chunk rest → IsWritable kind (front ++ chunk)
writable_chunk kind front bytes chunk rest w s = grind (arith, IsCharacters-append)

-- A body that may be written is sound by itself.
pub sound_body : (k : Kind) (b : List ℕ) → IsWritable k b → AreWritable k (b ∷ [])
sound_body k b w = (w, tt)

pub three_kept : (kept : Kept) → length (kept_bytes kept) ≤ 3
three_kept kept = grind arith

pub few_kept : (kind : Kind) (kept : Kept) → (kind ≡ Bytes → kept_bytes kept ≡ []) → length (kept_bytes kept)
    ≤ most_kept kind
few_kept kind kept h2 = grind arith

-- A front that is text, and then some bytes that are stuck, are together no text.
pub stuck_is_no_text : (read front kept : List ℕ) → read ≡ front ++ kept → IsCharacters front → IsStuck kept
    → 0 < length kept → IsCharacters read → ⊥
stuck_is_no_text read front kept e text stuck some whole =
    let none = stuck kept [] (sym (append-nil kept)) (IsCharacters-rest front kept text (rw e at whole)) in
    grind arith

-- A front that is text, and then more than three bytes that must be kept, begin no text.
pub too_much_is_no_text : (read front kept more chunk left : List ℕ) → read ≡ front ++ (kept ++ more)
    → IsCharacters front → IsFront (kept ++ more) chunk left → 3 < length left → BeginsNoText read
too_much_is_no_text read front kept more chunk left e text split much = λ others whole.
    let joined : read ++ others ≡ front ++ ((kept ++ more) ++ others) = ap (λ (z : List ℕ). z ++ others) e
    ∙ append_assoc front (kept ++ more) others in
    no_text_begins (kept ++ more) chunk left others split much
    (IsCharacters-rest front ((kept ++ more) ++ others) text (subst IsCharacters joined whole))

-- ---- reads

pub view_none : (waiting : Option Header) (ahead : Option (List ℕ)) → waiting ≡ None → behind_waiting waiting ahead
    ≡ ahead
view_none waiting ahead e = grind arith

-- After the bytes that passed, a read gave more bytes.
pub ReadsPast-read : {R E : Type 0} (source : Reader R E) (old now new : Decoder R) (bytes read : List ℕ)
    → ReadsPast source old bytes now → ReadsAll source now read new
    → (IsSteady source now → IsSteady source new) → ReadsPast source old (bytes ++ read) new
ReadsPast-read source old now new bytes read passed reads steady =
    let alone : ReadsPast source now read new = grind arith in
    ReadsPast-then source old now new bytes read passed alone
