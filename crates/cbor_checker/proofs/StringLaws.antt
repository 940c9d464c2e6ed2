-- The contents of an open string after a title.
use Rattle.std.proofs.Common.{◌≡◌, ℕ, zero, suc, List, [], ◌∷◌, ◌++◌, length, Some, None, refl, ap}
use Rattle.std.proofs.Common.{◌∙◌, arith, append_assoc}
use Rattle.std.proofs.lemmas.Bool.Decides.{nat_tests}
use Rattle.ciborium_ll_grammar.specs.declared.spelling.Spelling.{Spelling}
use Rattle.ciborium_ll_grammar.specs.declared.spelling.Spelling.TheVariants.{Any, Shortest}
use Rattle.ciborium_ll_grammar.specs.Title.{IsTitle}
use Rattle.ciborium_ll_grammar.specs.Strings.{Kind, kind_header, AreStrings, none, more, IsWritable}
use Rattle.ciborium_ll_grammar.specs.Strings.IsString.{definite, indefinite}
use Rattle.ciborium_ll_grammar.specs.Elements.{AreWritable}
use Rattle.ciborium_ll_grammar.specs.Items.{IsTakenTitle, AreTakenStrings}
use Rattle.ciborium_ll_grammar.specs.StrictElements.{AreFlat, none as no_flat, more as more_flat}
use Rattle.ciborium_ll_grammar.proofs.ElementLaws.{AreWritable-left, AreWritable-right, AreWritable-append}
use Rattle.ciborium_ll_text.specs.declared.state.State.TheVariants as s
use Rattle.ciborium_ll_text.proofs.Lists.{length_zero}
use Rattle.cbor_checker.specs.Spots.{Spot, bytes_due, string_done, text_due}
use Rattle.cbor_checker.proofs.Waiting.{EndsString, BodyThen, AnyBody, TextBody, StringDone, Waits}
use Rattle.cbor_checker.proofs.LevelLaws.{Same, string_ends}

-- ---- bodies

-- A body without bytes left waits for the bytes that may follow the string.
pub no_body : (P : List ℕ → Type 0) (spot : Spot) (y : List ℕ) → spot.front ≡ [] → P []
    → Same (BodyThen 0 P (StringDone spot.allowed spot.within spot.depth spot.levels) y)
    (Waits (string_done spot.within spot) y)
no_body P spot y clear sound =
    let same = string_ends spot.within spot y clear refl in (
      λ b. let is : y ≡ b.rest = b.is ∙ ap (λ (z : List ℕ). z ++ b.rest) (length_zero b.body b.long) in
          same.0 (rw is b.behind),
      λ waits. record { body = []; rest = y; long = refl; sound = sound; behind = same.1 waits; is = refl },
    )

pub bytes_body : (len : ℕ) (spot : Spot) (y : List ℕ) → spot.front ≡ []
    → Same (BodyThen len AnyBody (StringDone spot.allowed spot.within spot.depth spot.levels) y)
    (Waits (bytes_due len spot) y)
bytes_body zero spot y clear = no_body AnyBody spot y clear tt
bytes_body (suc len) spot y clear = (λ b. b, λ b. b)

pub text_body : (len : ℕ) (spot : Spot) (y : List ℕ) → spot.front ≡ []
    → Same (BodyThen len (TextBody s.Between) (StringDone spot.allowed spot.within spot.depth spot.levels) y)
    (Waits (text_due len spot) y)
text_body zero spot y clear = no_body (TextBody s.Between) spot y clear refl
text_body (suc len) spot y clear = (λ b. b, λ b. b)

-- ---- an open string

pub taken_none : (s : Spelling) (k : Kind) → AreTakenStrings s k [] []
taken_none s k = grind (arith, nat_tests, no_flat)

-- One more string of a definite length is taken.
taken_more : (s : Spelling) (k : Kind) (t b rest : List ℕ) (bs : List (List ℕ))
    → IsTitle t (kind_header k (Some (length b))) → IsTakenTitle s t (kind_header k (Some (length b)))
    → AreTakenStrings s k rest bs → AreTakenStrings s k ((t ++ b) ++ rest) (b ∷ bs)
taken_more s k t b rest bs p g others = grind (arith, nat_tests, more_flat)

flat_strings : {k : Kind} {u : List ℕ} {bs : List (List ℕ)} → AreFlat k u bs → AreStrings k u bs
flat_strings no_flat = none
flat_strings (more_flat q g f) = more (definite q) (flat_strings f)

-- The start of the bytes that end an open string: a break, a string of a definite length, or a further open.
pub data First (s : Spelling) (k : Kind) (Then : List ℕ → Type 0) (y : List ℕ) : Type 0 where
  breaks : (rest : List ℕ) → Then rest → y ≡ 0xff ∷ rest → First s k Then y
  whole : (t b far : List ℕ) → IsTitle t (kind_header k (Some (length b)))
      → IsTakenTitle s t (kind_header k (Some (length b))) → IsWritable k b → EndsString s k Then far
      → y ≡ t ++ (b ++ far) → First s k Then y
  opens : (t far : List ℕ) → s ≡ Any → IsTitle t (kind_header k None) → EndsString s k (EndsString s k Then) far
      → y ≡ t ++ far → First s k Then y

module _ (s : Spelling) (k : Kind) (Then : List ℕ → Type 0) where
  ends_with : (strings : List ℕ) (bodies : List (List ℕ)) (rest : List ℕ) → AreStrings k strings bodies
      → AreTakenStrings s k strings bodies → AreWritable k bodies → Then rest
      → EndsString s k Then (strings ++ 0xff ∷ rest)
  ends_with u bs rest are taken sound k =
      record { strings = u; bodies = bs; rest = rest; are = are; taken = taken; sound = sound; behind = k; is = refl }

  -- After the title of a string within an open string, its body and the rest end the open string.
  pub body_back : (t y : List ℕ) (len : ℕ) → IsTitle t (kind_header k (Some len))
      → IsTakenTitle s t (kind_header k (Some len)) → BodyThen len (IsWritable k) (EndsString s k Then) y
      → EndsString s k Then (t ++ y)
  body_back t y len p g b =
      let o = b.behind in
      let title : IsTitle t (kind_header k (Some (length b.body))) = rw b.long p in
      let taken : IsTakenTitle s t (kind_header k (Some (length b.body))) = rw b.long g in
      let is : t ++ y ≡ ((t ++ b.body) ++ o.strings) ++ 0xff ∷ o.rest =
      ap (λ (z : List ℕ). t ++ z) (b.is ∙ ap (λ (z : List ℕ). b.body ++ z) o.is) ∙ simp append_assoc in
      rw is (ends_with ((t ++ b.body) ++ o.strings) (b.body ∷ o.bodies) o.rest (more (definite title) o.are)
      (taken_more s k t b.body o.strings o.bodies title taken o.taken) (b.sound, o.sound) o.behind)

  pub open_back : (t y : List ℕ) → s ≡ Any → IsTitle t (kind_header k None)
      → EndsString s k (EndsString s k Then) y → EndsString s k Then (t ++ y)
  open_back t y any p i =
      let o = i.behind in
      let is : t ++ y ≡ ((t ++ (i.strings ++ 0xff ∷ [])) ++ o.strings) ++ 0xff ∷ o.rest =
      ap (λ (z : List ℕ). t ++ z) (i.is ∙ ap (λ (z : List ℕ). i.strings ++ 0xff ∷ z) o.is) ∙ simp append_assoc in
      rw is (ends_with _ (i.bodies ++ o.bodies) o.rest (more (indefinite p i.are) o.are) (rw any tt)
      (AreWritable-append k i.bodies o.bodies i.sound o.sound) o.behind)

  pub end_back : (t y : List ℕ) → t ≡ 0xff ∷ [] → Then y → EndsString s k Then (t ++ y)
  end_back t y e behind = rw e (ends_with [] [] y none (taken_none s k) tt behind)

-- If any spelling is taken, the bytes that end an open string have such a start. The same holds for the shortest
-- spelling.
any_first : (k : Kind) (Then : List ℕ → Type 0) (u rest y : List ℕ) (bs : List (List ℕ)) → AreStrings k u bs
    → AreWritable k bs → Then rest → y ≡ u ++ 0xff ∷ rest → First Any k Then y
any_first k Then u rest y bs none sound behind e = breaks rest behind e
any_first k Then u rest y bs
    (more {rest = v} {bodies = cs} {others = ds} (definite {title = t} {body = b} q) others) sound behind e =
    whole t b (v ++ 0xff ∷ rest) q tt sound.0 (ends_with Any k Then v ds rest others tt sound.1 behind)
    (e ∙ simp append_assoc)
any_first k Then u rest y bs
    (more {rest = v} {bodies = cs} {others = ds} (indefinite {title = t} {strings = z} q inner) others) sound behind e =
    opens t (z ++ 0xff ∷ (v ++ 0xff ∷ rest)) refl q
    (ends_with Any k (EndsString Any k Then) z cs (v ++ 0xff ∷ rest) inner tt (AreWritable-left k cs ds sound)
    (ends_with Any k Then v ds rest others tt (AreWritable-right k cs ds sound) behind)) (e ∙ simp append_assoc)

strict_first : (k : Kind) (Then : List ℕ → Type 0) (u rest y : List ℕ) (bs : List (List ℕ)) → AreFlat k u bs
    → AreWritable k bs → Then rest → y ≡ u ++ 0xff ∷ rest → First Shortest k Then y
strict_first k Then u rest y bs no_flat sound behind e = breaks rest behind e
strict_first k Then u rest y bs (more_flat {title = t} {body = b} {rest = v} {bodies = cs} q g f) sound behind e =
    whole t b (v ++ 0xff ∷ rest) q g sound.0 (ends_with Shortest k Then v cs rest (flat_strings f) f sound.1 behind)
    (e ∙ simp append_assoc)

pub first_of : (s : Spelling) (k : Kind) (Then : List ℕ → Type 0) (y : List ℕ) → EndsString s k Then y
    → First s k Then y
first_of Shortest k Then y o = strict_first k Then o.strings o.rest y o.bodies o.taken o.sound o.behind o.is
first_of Any k Then y o = any_first k Then o.strings o.rest y o.bodies o.are o.sound o.behind o.is
