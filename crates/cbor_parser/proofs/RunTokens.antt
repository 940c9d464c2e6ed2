-- Elements are whole tokens.
use Rattle.std.proofs.Common.{◌≡◌, ℕ, zero, suc, List, [], ◌∷◌, ◌++◌, length, Some, None, refl, sym, subst}
use Rattle.std.proofs.Common.{append-nil, append_assoc}
use Rattle.ciborium_ll_grammar.specs.declared.spelling.Spelling.TheVariants.{Any}
use Rattle.ciborium_ll_grammar.specs.declared.hdr.Header.{Header}
use Rattle.ciborium_ll_grammar.specs.declared.hdr.Header.TheVariants as h
use Rattle.ciborium_ll_grammar.specs.Title.{IsTitle}
use Rattle.ciborium_ll_grammar.specs.Strings.{AreStrings, Bytes, IsString, IsWritable, Kind, Text, definite, indefinite}
use Rattle.ciborium_ll_grammar.specs.Strings.{kind_header}
use Rattle.ciborium_ll_grammar.specs.Strings as strings
use Rattle.ciborium_ll_grammar.specs.Elements.{AreWritable, IsElement, IsPlain, IsRun, Mark, done, next, plain, string}
use Rattle.ciborium_ll_grammar.proofs.ElementLaws.{AreWritable-left, AreWritable-right}
use Rattle.ciborium_ll_grammar.proofs.StringLaws.{break_title}
use Rattle.ciborium_ll_text.proofs.TextLaws.{IsCharacters-nil}
use Rattle.cbor_parser.specs.declared.strings.StringKind.TheVariants as sk
use Rattle.cbor_parser.specs.declared.strings.Within.{Within}
use Rattle.cbor_parser.specs.declared.strings.Within.TheVariants as w
use Rattle.cbor_parser.specs.Strings.{within_after}
use Rattle.cbor_parser.specs.Parsing.{AreTokens, IsBody, Token, body_len, more, none}

-- This many strings of a kind are open.
abbrev place_of : Kind → ℕ → Within
place_of k zero = w.Nothing
place_of Bytes (suc m) = w.Open sk.Bytes m
place_of Text (suc m) = w.Open sk.Text m

-- The bytes are some tokens, and these strings are open after them.
record Tokens (bytes : List ℕ) (v : Within) : Type 0 where
  tokens : List Token
  are : AreTokens Any bytes tokens v

definite_stands : (k : Kind) (j n : ℕ)
    → within_after Any (place_of k j) (kind_header k (Some n)) ≡ Some (place_of k j)
definite_stands Bytes zero n = refl
definite_stands Text zero n = refl
definite_stands Bytes (suc j) n = refl
definite_stands Text (suc j) n = refl

open_stands : (k : Kind) (j : ℕ) → within_after Any (place_of k j) (kind_header k None) ≡ Some (place_of k (suc j))
open_stands Bytes zero = refl
open_stands Text zero = refl
open_stands Bytes (suc j) = refl
open_stands Text (suc j) = refl

break_stands : (k : Kind) (j : ℕ) → within_after Any (place_of k (suc j)) h.Break ≡ Some (place_of k j)
break_stands Bytes zero = refl
break_stands Text zero = refl
break_stands Bytes (suc j) = refl
break_stands Text (suc j) = refl

is_body : (k : Kind) (n : ℕ) (y : List ℕ) → IsWritable k y → IsBody (kind_header k (Some n)) y
is_body Bytes n y ok = tt
is_body Text n y ok = ok

kind_len : (k : Kind) (n : ℕ) → n ≡ body_len (kind_header k (Some n))
kind_len Bytes n = refl
kind_len Text n = refl

no_len : (k : Kind) → 0 ≡ body_len (kind_header k None)
no_len Bytes = refl
no_len Text = refl

open_body : (k : Kind) → IsBody (kind_header k None) []
open_body Bytes = tt
open_body Text = IsCharacters-nil

-- One token more.
add : (d t y : List ℕ) (x : Header) (u v : Within) → Tokens d u → IsTitle t x → within_after Any u x ≡ Some v
    → length y ≡ body_len x → IsBody x y → Tokens (d ++ (t ++ y)) v
add d t y x u v o is stands long text =
    record {
      tokens = _;
      are = more o.are (record { is_title = is; taken = tt; stands = stands }) long text;
    }

-- One token more, without a body.
add_title : (d t : List ℕ) (x : Header) (u v : Within) → Tokens d u → IsTitle t x → within_after Any u x ≡ Some v
    → 0 ≡ body_len x → IsBody x [] → Tokens (d ++ t) v
add_title d t x u v o is stands long text =
    subst (λ (z : List ℕ). Tokens (d ++ z) v) (append-nil t) (add d t [] x u v o is stands long text)

mutual
  string_tokens : (k : Kind) (j : ℕ) (d b : List ℕ) (bs : List (List ℕ)) → IsString k b bs → AreWritable k bs
      → Tokens d (place_of k j) → Tokens (d ++ b) (place_of k j)
  string_tokens k j d b bs (definite {title = t} {body = y} is) ok o =
      add d t y (kind_header k (Some (length y))) _ _ o is (definite_stands k j (length y)) (kind_len k (length y))
      (is_body k (length y) y ok.0)
  string_tokens k j d b bs (indefinite {title = t} {strings = s} is inner) ok o =
      let open_ = add_title d t (kind_header k None) _ _ o is (open_stands k j) (no_len k) (open_body k) in
      let within = strings_tokens k (suc j) (d ++ t) s bs inner ok open_ in
      let closed = add_title ((d ++ t) ++ s) (0xff ∷ []) h.Break _ _ within break_title (break_stands k j) refl tt in
      subst (λ (z : List ℕ). Tokens z (place_of k j)) (simp append_assoc) closed

  strings_tokens : (k : Kind) (j : ℕ) (d b : List ℕ) (bs : List (List ℕ)) → AreStrings k b bs → AreWritable k bs
      → Tokens d (place_of k j) → Tokens (d ++ b) (place_of k j)
  strings_tokens k j d b bs strings.none ok o = subst (λ (z : List ℕ). Tokens z (place_of k j)) (sym (append-nil d)) o
  strings_tokens k j d b bs (strings.more {first = f} {rest = r} {bodies = cs} {others = es} one others) ok o =
      let first = string_tokens k j d f cs one (AreWritable-left k cs es ok) o in
      subst (λ (z : List ℕ). Tokens z (place_of k j)) (append_assoc d f r)
      (strings_tokens k j (d ++ f) r es others (AreWritable-right k cs es ok) first)

plain_tokens : (d t : List ℕ) (x : Header) → IsTitle t x → IsPlain x → Tokens d w.Nothing → Tokens (d ++ t) w.Nothing
plain_tokens d t (h.Bytes n) is no_string o = absurd no_string
plain_tokens d t (h.Text n) is no_string o = absurd no_string
plain_tokens d t x is no_string o = add_title d t x _ _ o is refl refl tt

element_tokens : (d b : List ℕ) (ms : List Mark) → IsElement b ms → Tokens d w.Nothing → Tokens (d ++ b) w.Nothing
element_tokens d b ms (plain x is no_string) o = plain_tokens d b x is no_string o
element_tokens d b ms (string {bodies = bs} k is ok) o = string_tokens k zero d b bs is ok o

run_on : (n : ℕ) (b : List ℕ) (ms : List Mark) → IsRun n b ms → (d : List ℕ) → Tokens d w.Nothing
    → Tokens (d ++ b) w.Nothing
run_on n b ms done d o = subst (λ (z : List ℕ). Tokens z w.Nothing) (sym (append-nil d)) o
run_on n b ms (next {first = f} {rest = r} {marks = ns} {others = os} one others) d o =
    subst (λ (z : List ℕ). Tokens z w.Nothing) (append_assoc d f r)
    (run_on _ r os others (d ++ f) (element_tokens d f ns one o))

-- Elements are whole tokens.
pub run_tokens : (n : ℕ) (b : List ℕ) (ms : List Mark) → IsRun n b ms
    → (tokens : List Token) × AreTokens Any b tokens w.Nothing
run_tokens n b ms run =
    let o = run_on n b ms run [] (record { tokens = []; are = none }) in (o.tokens, o.are)
