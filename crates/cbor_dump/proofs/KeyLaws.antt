-- The keys that strings are.
use Rattle.std.proofs.Common.{◌≡◌, ℕ, ◌≤◌, List, Option, Some, refl, sym, subst, arith}
use Rattle.ciborium_ll.specs.Strings.{kind_header}
use Rattle.cbor_dump.specs.declared.key.Key.{Key}
use Rattle.cbor_dump.specs.declared.key.Key.TheVariants as keys
use Rattle.cbor_dump.specs.declared.key.KeyBody.{KeyBody}
use Rattle.cbor_dump.specs.declared.strings.Kind.{Kind as CodeKind}
use Rattle.cbor_dump.specs.declared.strings.Kind.TheVariants as k
use Rattle.cbor_dump.specs.Keys.{IsKept, IsKeyOf, IsStringKey, most_key}
use Rattle.cbor_dump.specs.StringRows.{kind_of}

-- A short string is named by what was kept of its body.
string_kept : (named : KeyBody → Key) (len : ℕ) (kept : KeyBody) (rest : List ℕ) → len ≤ most_key
    → IsKept (Some len) rest kept → IsStringKey named len rest (named kept)
string_kept named len kept rest few keeps = record {
  short = λ any. (kept, refl, keeps few);
  long = λ many. absurd (omega (arith, few, many));
}

pub kept_text : (len : Option ℕ) (kind : CodeKind) (count : ℕ) (kept : KeyBody) (rest : List ℕ) → len ≡ Some count
    → kind ≡ k.Text → count ≤ most_key → IsKept len rest kept
    → IsKeyOf (kind_header (kind_of kind) len) rest (keys.Text kept)
kept_text len kind count kept rest same text few keeps =
    subst (λ (z : Option ℕ). IsKeyOf (kind_header (kind_of kind) z) rest (keys.Text kept)) (sym same)
    (subst (λ (z : CodeKind). IsKeyOf (kind_header (kind_of z) (Some count)) rest (keys.Text kept)) (sym text)
    (string_kept keys.Text count kept rest few (subst (λ (z : Option ℕ). IsKept z rest kept) same keeps)))

pub kept_bytes : (len : Option ℕ) (kind : CodeKind) (count : ℕ) (kept : KeyBody) (rest : List ℕ) → len ≡ Some count
    → kind ≡ k.Bytes → count ≤ most_key → IsKept len rest kept
    → IsKeyOf (kind_header (kind_of kind) len) rest (keys.Bytes kept)
kept_bytes len kind count kept rest same bytes few keeps =
    subst (λ (z : Option ℕ). IsKeyOf (kind_header (kind_of kind) z) rest (keys.Bytes kept)) (sym same)
    (subst (λ (z : CodeKind). IsKeyOf (kind_header (kind_of z) (Some count)) rest (keys.Bytes kept)) (sym bytes)
    (string_kept keys.Bytes count kept rest few (subst (λ (z : Option ℕ). IsKept z rest kept) same keeps)))
