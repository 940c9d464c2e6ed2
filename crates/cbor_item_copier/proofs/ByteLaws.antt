-- Elements whose bodies are any numbers, with a byte in place of each.
use Rattle.std.proofs.Common.{◌≡◌, ℕ, ◌%◌, List, [], ◌∷◌, ◌++◌, length, refl, ap, arith}
use Rattle.std.specs.List.{AllByRecursion}
use Rattle.ciborium_ll_grammar.specs.declared.hdr.Header.{Header}
use Rattle.ciborium_ll_grammar.specs.Title.{IsTitle, AreBytes}
use Rattle.ciborium_ll_grammar.specs.Strings.{Kind, Bytes, Text, IsString, definite, indefinite, AreStrings, none, more}
use Rattle.ciborium_ll_grammar.specs.Strings.{IsWritable}
use Rattle.ciborium_ll_grammar.specs.Elements.{AreWritable, Mark, Plain, string_marks, IsElement, plain, string, IsRun}
use Rattle.ciborium_ll_grammar.specs.Elements.{done, next}
use Rattle.ciborium_ll_grammar.proofs.AffixLaws.{AreBytes-append}
use Rattle.ciborium_ll_grammar.proofs.ElementLaws.{AreWritable-append, AreWritable-left, AreWritable-right}
use Rattle.cbor_copier.proofs.LiveLaws.{title_bytes}
use Rattle.ciborium_ll_text.specs.Text.{IsCharacter, IsCharacters, joined}

-- ---- titles and texts are bytes

character_bytes : {c : List ℕ} → IsCharacter c → AreBytes c
character_bytes q = grind arith

joined_bytes : (cs : List (List ℕ)) → AllByRecursion IsCharacter cs → AreBytes (joined cs)
joined_bytes [] each = tt
joined_bytes (c ∷ cs) each = AreBytes-append c (joined cs) (character_bytes each.0) (joined_bytes cs each.1)

text_bytes : {t : List ℕ} → IsCharacters t → AreBytes t
text_bytes text = rw text.whole (joined_bytes text.characters text.each)

-- ---- a byte in place of each number

abbrev pub as_bytes : List ℕ → List ℕ
as_bytes [] = []
as_bytes (b ∷ bytes) = b % 256 ∷ as_bytes bytes

pub are_bytes : (xs : List ℕ) → AreBytes (as_bytes xs)
are_bytes [] = tt
are_bytes (b ∷ xs) = (omega arith, are_bytes xs)

pub same_bytes : (xs : List ℕ) → AreBytes xs → as_bytes xs ≡ xs
same_bytes [] sound = refl
same_bytes (b ∷ xs) sound =
    let same : b % 256 ≡ b = omega (arith, sound.0) in
    let rest = same_bytes xs sound.1 in cc

pub as_append : (a b : List ℕ) → as_bytes (a ++ b) ≡ as_bytes a ++ as_bytes b
as_append [] b = refl
as_append (x ∷ a) b = ap (λ (z : List ℕ). x % 256 ∷ z) (as_append a b)

as_long : (xs : List ℕ) → length (as_bytes xs) ≡ length xs
as_long [] = refl
as_long (x ∷ xs) = let rest = as_long xs in omega arith

title_as : (t r : List ℕ) (x : Header) → IsTitle t x → as_bytes (t ++ r) ≡ t ++ as_bytes r
title_as t r x q = rw (as_append t r, same_bytes t (title_bytes q))

body_as : (k : Kind) (b : List ℕ) → IsWritable k b → IsWritable k (as_bytes b)
body_as Bytes b sound = tt
body_as Text b sound = rw (same_bytes b (text_bytes sound)) sound

mutual
  string_as : (k : Kind) (w : List ℕ) (bs : List (List ℕ)) → IsString k w bs → AreWritable k bs
      → (cs : List (List ℕ)) × IsString k (as_bytes w) cs × AreWritable k cs
  string_as k w bs (definite {title = t} {body = b} q) sound = (
    as_bytes b ∷ [],
    rw (title_as t b _ q) (definite (rw (← as_long b) at q)),
    (body_as k b sound.0, tt),
  )
  string_as k w bs (indefinite {title = t} {strings = u} {bodies = cs} q are) sound =
      let o = strings_as k u cs are sound in
      (o.0, rw (title_as t (u ++ 0xff ∷ []) _ q, as_append u (0xff ∷ [])) (indefinite q o.1), o.2)

  strings_as : (k : Kind) (w : List ℕ) (bs : List (List ℕ)) → AreStrings k w bs → AreWritable k bs
      → (cs : List (List ℕ)) × AreStrings k (as_bytes w) cs × AreWritable k cs
  strings_as k w bs none sound = ([], none, tt)
  strings_as k w bs (more {first = x} {rest = y} {bodies = cs} {others = ds} is are) sound =
      let a = string_as k x cs is (AreWritable-left k cs ds sound) in
      let b = strings_as k y ds are (AreWritable-right k cs ds sound) in
      (a.0 ++ b.0, rw (as_append x y) (more a.1 b.1), AreWritable-append k a.0 b.0 a.2 b.2)

element_as : (w : List ℕ) (ms : List Mark) → IsElement w ms → (ns : List Mark) × IsElement (as_bytes w) ns
element_as w ms (plain x q is_plain) = (Plain x ∷ [], rw (same_bytes w (title_bytes q)) (plain x q is_plain))
element_as w ms (string {bodies = bs} k is sound) =
    let o = string_as k w bs is sound in (string_marks o.1, string k o.1 o.2)

-- Elements stay as many if a byte replaces each number.
pub run_as : (n : ℕ) (w : List ℕ) (ms : List Mark) → IsRun n w ms → (ns : List Mark) × IsRun n (as_bytes w) ns
run_as n w ms done = ([], done)
run_as n w ms (next {count = m} {first = x} {rest = y} {marks = ns} {others = os} element rest) =
    let a = element_as x ns element in
    let b = run_as m y os rest in
    (a.0 ++ b.0, rw (as_append x y) (next a.1 b.1))
