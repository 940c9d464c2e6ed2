-- Strings, and the strings within a string of indefinite length.
use Rattle.std.proofs.Common.{◌≡◌, ℕ, zero, suc, ◌+◌, ◌-◌, ◌<◌, Bool, true, false, List, [], ◌∷◌, ◌++◌, refl, sym}
use Rattle.std.proofs.Common.{subst, ◌∙◌, ap, arith, Result, Ok, Err, OnOk}
use Rattle.std.specs.Bool.{beq}
use Rattle.std.proofs.Common.{not, append_assoc, append-nil, Option, Some, None, length}
use Rattle.ciborium_ll_text.specs.Text.{IsCharacters}
use Rattle.ciborium_ll_grammar.specs.declared.spelling.Spelling.{Spelling}
use Rattle.ciborium_ll_grammar.specs.declared.spelling.Spelling.TheVariants.{Any, Shortest}
use Rattle.ciborium_ll_grammar.specs.Title.{IsTitle}
use Rattle.ciborium_ll_grammar.specs.Strings.{Kind, Bytes, Text, kind_header, IsString, definite, indefinite, AreStrings}
use Rattle.ciborium_ll_grammar.specs.Strings.{none}
use Rattle.ciborium_ll_grammar.specs.Strings.{more as one_more, IsWritable}
use Rattle.ciborium_ll_grammar.specs.StrictElements.{AreFlat}
use Rattle.ciborium_ll_grammar.specs.StrictElements as flat
use Rattle.ciborium_ll_grammar.specs.Items.{Completes, byte_string, text_string, open_bytes, open_text, AreTakenStrings}
use Rattle.ciborium_ll_grammar.specs.Items.{IsTakenTitle}
use Rattle.ciborium_ll_grammar.proofs.ElementLaws.{AreStrings-append, AreWritable-append}
use Rattle.cbor_encode.specs.Adding.{Adds, HasBody}
use Rattle.cbor_encode.specs.declared.heads.Mark.{Mark}
use Rattle.cbor_encode.specs.Chunks.{AreWithin, BeginsChunks, HasChunks, IsAmong, alone, further}
use Rattle.cbor_encode.specs.Scalars.{IsMeant, kind_of}

-- The header of a string is no simple value from 24 to 31.
pub string_meant : (kind : Kind) (len : Option ℕ) (mark : Option Mark) → IsMeant (kind_header kind len) mark
string_meant Bytes len mark small = absurd small
string_meant Text len mark small = absurd small

-- The body of a string completes it.
pub string_completes : (allowed : Spelling) (depth : ℕ) (is_text : Bool) (body : List ℕ)
    → (is_text ≡ true → IsCharacters body)
    → Completes allowed depth (kind_header (kind_of is_text) (Some (length body))) body
string_completes allowed depth true body text = text_string refl (text refl)
string_completes allowed depth false body text = byte_string refl

-- Strings and a break complete an open.
pub open_completes : (allowed : Spelling) (depth : ℕ) (is_text : Bool) (strings : List ℕ)
    → HasChunks allowed (kind_of is_text) strings
    → Completes allowed depth (kind_header (kind_of is_text) None) (strings ++ 0xff ∷ [])
open_completes allowed depth true strings chunks = open_text chunks.are chunks.taken chunks.writable
open_completes allowed depth false strings chunks = open_bytes chunks.are chunks.taken

none_taken : (allowed : Spelling) (kind : Kind) → AreTakenStrings allowed kind [] []
none_taken Shortest kind = flat.none
none_taken Any kind = tt

-- No bytes are no strings within an open string.
pub no_chunks : (allowed : Spelling) (kind : Kind) → HasChunks allowed kind []
no_chunks allowed kind = record { bodies = []; are = none; taken = none_taken allowed kind; writable = tt }

-- After its open a string has no bytes yet.
pub chunks_begin : (allowed : Spelling) (kind : Kind) → AreWithin allowed kind 1 []
chunks_begin allowed kind =
    record { bodies = []; among = alone none; shallow = λ on. refl; taken = none_taken allowed kind; writable = tt }

flat_then : (kind : Kind) (strings : List ℕ) (bodies : List (List ℕ)) (last : List ℕ) (others : List (List ℕ))
    → AreFlat kind strings bodies → AreFlat kind last others → AreFlat kind (strings ++ last) (bodies ++ others)
flat_then kind strings bodies last others flat.none one = one
flat_then kind strings bodies last others
    (flat.more {title = title} {body = body} {rest = rest} {bodies = more} is allowed are) one =
    subst (λ (z : List ℕ). AreFlat kind z (body ∷ (more ++ others))) (sym (append_assoc (title ++ body) rest last))
    (flat.more is allowed (flat_then kind rest more last others are one))

taken_then : (allowed : Spelling) (kind : Kind) (strings : List ℕ) (bodies : List (List ℕ)) (title body : List ℕ)
    → AreTakenStrings allowed kind strings bodies → IsTitle title (kind_header kind (Some (length body)))
    → IsTakenTitle allowed title (kind_header kind (Some (length body)))
    → AreTakenStrings allowed kind (strings ++ (title ++ body)) (bodies ++ body ∷ [])
taken_then Shortest kind strings bodies title body are is taken =
    flat_then kind strings bodies (title ++ body) (body ∷ []) are
    (subst (λ (z : List ℕ). AreFlat kind z (body ∷ [])) (append-nil (title ++ body)) (flat.more is taken flat.none))
taken_then Any kind strings bodies title body are is taken = tt

one_string : (kind : Kind) (title body : List ℕ) → IsTitle title (kind_header kind (Some (length body)))
    → AreStrings kind (title ++ body) (body ∷ [])
one_string kind title body is =
    subst (λ (z : List ℕ). AreStrings kind z (body ∷ [])) (append-nil (title ++ body)) (one_more (definite is) none)

-- ---- one string more

strings_then : (k : Kind) (u w : List ℕ) (bs cs : List (List ℕ)) → AreStrings k u bs → AreStrings k w cs
    → AreStrings k (u ++ w) (bs ++ cs)
strings_then k u w bs cs are last = AreStrings-append k u bs are w cs last

among_more : (k : Kind) (opens : ℕ) (u w : List ℕ) (bs cs : List (List ℕ)) → IsAmong k opens u bs
    → AreStrings k w cs → IsAmong k opens (u ++ w) (bs ++ cs)
among_more k opens u w bs cs (alone are) last = alone (strings_then k u w bs cs are last)
among_more k opens u w bs cs (further outer title strings ds es among is are) last =
    simp append_assoc (further outer title (strings ++ w) ds (es ++ cs) among is (strings_then k strings w es cs are
    last))

among_open : (k : Kind) (opens : ℕ) (u title : List ℕ) (bs : List (List ℕ)) → IsAmong k opens u bs
    → IsTitle title (kind_header k None) → IsAmong k (suc opens) (u ++ title) bs
among_open k opens u title bs among is = simp append-nil at (further u title [] bs [] among is none)

string_alone : (k : Kind) (string : List ℕ) (cs : List (List ℕ)) → IsString k string cs → AreStrings k string cs
string_alone k string cs is = simp append-nil at (one_more is none)

among_break : (k : Kind) (opens : ℕ) (u : List ℕ) (bs : List (List ℕ)) → IsAmong k (suc (suc opens)) u bs
    → IsAmong k (suc opens) (u ++ 0xff ∷ []) bs
among_break k opens u bs (further outer title strings ds es among is are) =
    simp append_assoc (among_more k (suc opens) outer _ ds es among (string_alone k _ es (indefinite is are)))

among_none : (k : Kind) (u : List ℕ) (bs : List (List ℕ)) → IsAmong k zero u bs → ⊥
among_none k u bs among = elim among [ ]

among_last : (k : Kind) (u : List ℕ) (bs : List (List ℕ)) → IsAmong k (suc zero) u bs → AreStrings k u bs
among_last k u bs (alone are) = are
among_last k u bs (further outer title strings ds es among is are) = absurd (among_none k outer ds among)

-- A string that a call adds follows those within an open string.
chunks_more : (allowed : Spelling) (kind : Kind) (opens : ℕ) (body before after : List ℕ) → 0 < opens
    → Adds (HasBody allowed (kind_header kind (Some (length body))) body) before after → IsWritable kind body
    → AreWithin allowed kind opens before → AreWithin allowed kind opens after
chunks_more allowed kind zero body before after some adds writable chunks = absurd (omega (arith, some))
chunks_more allowed kind (suc opens) body before after some adds writable chunks =
    let title = adds.is.title in
    let head = adds.is.head in
    subst (BeginsChunks allowed kind (suc opens))
    (sym (adds.parts ∙ ap (λ (z : List ℕ). before ++ z) adds.is.parts)) (record {
      bodies = chunks.bodies ++ body ∷ [];
      among = among_more kind (suc opens) before (title ++ body) chunks.bodies (body ∷ []) chunks.among
          (one_string kind title body head.title);
      shallow = chunks.shallow;
      taken = taken_then allowed kind before chunks.bodies title body chunks.taken head.title head.taken;
      writable = AreWritable-append kind chunks.bodies (body ∷ []) chunks.writable (writable, tt);
    })

-- An open without strings that a call adds, with its break.
chunks_empty : (allowed : Spelling) (kind : Kind) (opens : ℕ) (before after : List ℕ) → allowed ≡ Any → 0 < opens
    → Adds (HasBody allowed (kind_header kind None) (0xff ∷ [])) before after → AreWithin allowed kind opens before
    → AreWithin allowed kind opens after
chunks_empty Shortest kind opens before after loose some adds chunks = absurd (cc)
chunks_empty Any kind zero before after loose some adds chunks = absurd (omega (arith, some))
chunks_empty Any kind (suc opens) before after loose some adds chunks =
    let title = adds.is.title in
    subst (BeginsChunks Any kind (suc opens))
    (sym (adds.parts ∙ ap (λ (z : List ℕ). before ++ z) adds.is.parts)) (record {
      bodies = chunks.bodies;
      among = simp append-nil at (among_more kind (suc opens) before (title ++ 0xff ∷ []) chunks.bodies [] chunks.among
          (string_alone kind (title ++ 0xff ∷ []) [] (indefinite adds.is.head.title none)));
      shallow = chunks.shallow;
      taken = tt;
      writable = chunks.writable;
    })

-- The same of the answer of a call that adds a string.
pub string_added : {T E : Type 0} (allowed : Spelling) (kind : Kind) (body before after : List ℕ) (result : Result T E)
    → OnOk result (Adds (HasBody allowed (kind_header kind (Some (length body))) body) before after)
    → IsWritable kind body
    → OnOk result ((opens : ℕ) → 0 < opens → AreWithin allowed kind opens before → AreWithin allowed kind opens after)
string_added allowed kind body before after (Ok x) adds writable = λ opens some chunks.
    chunks_more allowed kind opens body before after some adds writable chunks
string_added allowed kind body before after (Err e) adds writable = adds

pub empty_added : {T E : Type 0} (allowed : Spelling) (kind : Kind) (before after : List ℕ) (result : Result T E)
    → allowed ≡ Any → OnOk result (Adds (HasBody allowed (kind_header kind None) (0xff ∷ [])) before after)
    → OnOk result ((opens : ℕ) → 0 < opens → AreWithin allowed kind opens before → AreWithin allowed kind opens after)
empty_added allowed kind before after (Ok x) loose adds = λ opens some chunks.
    chunks_empty allowed kind opens before after loose some adds chunks
empty_added allowed kind before after (Err e) loose adds = adds

-- An open that a call adds.
pub chunks_open : (allowed : Spelling) (kind : Kind) (opens : ℕ) (before after : List ℕ) → allowed ≡ Any → 0 < opens
    → Adds (HasBody allowed (kind_header kind None) []) before after → AreWithin allowed kind opens before
    → AreWithin allowed kind (opens + 1) after
chunks_open Shortest kind opens before after loose some adds chunks = absurd (cc)
chunks_open Any kind zero before after loose some adds chunks = absurd (omega (arith, some))
chunks_open Any kind (suc opens) before after loose some adds chunks =
    let more : suc opens + 1 ≡ suc (suc opens) = omega arith in
    let title = adds.is.title in
    let added : after ≡ before ++ title =
    adds.parts ∙ ap (λ (z : List ℕ). before ++ z) (adds.is.parts ∙ append-nil title) in
    rw more (subst (BeginsChunks Any kind (suc (suc opens))) (sym added) (record {
      bodies = chunks.bodies;
      among = among_open kind (suc opens) before title chunks.bodies chunks.among adds.is.head.title;
      shallow = λ on. absurd (cc);
      taken = tt;
      writable = chunks.writable;
    }))

-- A break closes one of several opens.
pub chunks_break : (allowed : Spelling) (kind : Kind) (opens : ℕ) (before after : List ℕ) → 1 < opens
    → after ≡ before ++ 0xff ∷ [] → AreWithin allowed kind opens before → AreWithin allowed kind (opens - 1) after
chunks_break allowed kind zero before after some added chunks = absurd (omega (arith, some))
chunks_break allowed kind (suc zero) before after some added chunks = absurd (omega (arith, some))
chunks_break Shortest kind (suc (suc opens)) before after some added chunks =
    absurd (let only = chunks.shallow refl in omega (arith, only))
chunks_break Any kind (suc (suc opens)) before after some added chunks =
    let fewer : suc (suc opens) - 1 ≡ suc opens = omega arith in
    rw (fewer, added) (record {
      bodies = chunks.bodies;
      among = among_break kind opens before chunks.bodies chunks.among;
      shallow = λ on. absurd (cc);
      taken = tt;
      writable = chunks.writable;
    })

-- If one open is left, all strings are there.
pub chunks_end : (allowed : Spelling) (kind : Kind) (strings : List ℕ) → AreWithin allowed kind 1 strings
    → AreWithin allowed kind 0 strings
chunks_end allowed kind strings chunks = record {
  bodies = chunks.bodies;
  are = among_last kind strings chunks.bodies chunks.among;
  taken = chunks.taken;
  writable = chunks.writable;
}

-- A body may be written if it is that of a byte string or is UTF-8.
pub body_writable : (is_text : Bool) (body : List ℕ) → (is_text ≡ true → IsCharacters body)
    → IsWritable (kind_of is_text) body
body_writable true body text = text refl
body_writable false body text = tt

-- Two kinds are the same if a test does not find them different.
pub same_kind : (found wanted : Bool) → not (beq found wanted) ≡ false → wanted ≡ true → found ≡ true
same_kind true wanted same text = refl
same_kind false true same text = sym same
same_kind false false same text = text
