-- The JSON of strings (RFC 8949, section 6.1; RFC 8259, section 7).
use Rattle.std.specs.Prelude.{◌≡◌, ℕ, List, [], ◌∷◌, ◌++◌}
use Rattle.ciborium_ll.specs.Strings.{Kind, Bytes, Text}
use Rattle.ciborium_ll.specs.Text.{joined}
use Rattle.cbor_diag.specs.declared.strings.quotes.Quotes.{Quotes}
use Rattle.cbor_diag.specs.declared.strings.quotes.Quotes.TheVariants as q
use Rattle.cbor_diag.specs.Notation.{body_text}
use Rattle.cbor_json.specs.declared.role.Base.{Base}
use Rattle.cbor_json.specs.declared.role.Base.TheVariants as b

-- How the content of a string is written: a text by its characters, and a byte string in its base (RFC 8949, 6.1). `61
-- 61` is written as `a`, and `41 61` by base64url as `YQ`.
abbrev pub string_quotes : Kind → Base → Quotes
string_quotes Text base = q.Text
string_quotes Bytes b.Url = q.Base64Url
string_quotes Bytes b.Negative = q.Base64Url
string_quotes Bytes b.Standard = q.Base64
string_quotes Bytes b.Sixteen = q.Base16

-- The content of a string of the kind may be written so: a text by its characters, and a byte string in some other way.
-- `41 61` is not written as `a`.
abbrev pub IsQuotesOf : Kind → Quotes → Type 0
IsQuotesOf Text quotes = quotes ≡ q.Text
IsQuotesOf Bytes quotes = quotes ≡ q.Text → ⊥

-- The text before the content of a string: a quote, which is 34. After it a negative bignum has a `~`, which is 126
-- (RFC 8949, 6.1). `c3 41 01` begins with `"~`.
abbrev pub string_opening : Kind → Base → List ℕ
string_opening Bytes b.Negative = 34 ∷ 126 ∷ []
string_opening kind base = 34 ∷ []

-- A string with this opening and this content: `"a"` for the content `61` of a text.
abbrev pub quoted_json : List ℕ → Quotes → List ℕ → List ℕ
quoted_json opening quotes content = (opening ++ body_text quotes content) ++ 34 ∷ []

-- A string with these bodies, which are joined: an item of the indefinite form is made definite (RFC 8949, 6.1). The
-- bodies `61` and `62` of a text give `"ab"`.
abbrev pub string_json : Kind → Base → List (List ℕ) → List ℕ
string_json kind base bodies = quoted_json (string_opening kind base) (string_quotes kind base) (joined bodies)
