-- A text has a full cut for each limit of at least 4 bytes.
use Rattle.std.proofs.lemmas.Bool.Decides.{nat_tests}
use Rattle.std.proofs.Common.{◌≡◌, ℕ, ◌+◌, ◌<◌, ◌≤◌, List, [], ◌∷◌, ◌++◌, length, refl, sym, ap, ◌∙◌, subst, inl, inr}
use Rattle.std.proofs.Common.{arith, append_assoc}
use Rattle.std.proofs.lemmas.Bool.{cases_lt}
use Rattle.std.proofs.lemmas.List.{append-nil, length-append}
use Rattle.std.specs.List.{AllByRecursion}
use Rattle.ciborium_ll_text.specs.Text.{IsCharacter, joined, IsCharacters}
use Rattle.ciborium_ll_text.specs.Cuts.{IsMember, IsNonempty, IsFilled, AreFilled, IsFullCut}
use Rattle.ciborium_ll_text.proofs.TextLaws.{character_length, character_is_text, IsCharacters-append}
use Rattle.ciborium_ll_text.proofs.CutLaws.{one_character}

-- A full cut of the member so far and the characters after it. Its first member begins with the member so far.
record Filling (limit : ℕ) (member : List ℕ) (characters : List (List ℕ)) : Type 0 where
  first : List ℕ
  others : List (List ℕ)
  more : List ℕ
  begins : first ≡ member ++ more
  whole : member ++ joined characters ≡ first ++ joined others
  each : AllByRecursion (IsMember limit) (first ∷ others)
  nonempty : AllByRecursion IsNonempty (first ∷ others)
  filled : AreFilled limit (first ∷ others)

-- A member is filled if the first character of the next member has no room.
no_room : (limit : ℕ) (member character rest following : List ℕ) → IsCharacter character → following ≡ character ++ rest
    → limit < length member + length character
    → IsFilled limit member following
no_room limit member character rest following p e l x r q f = grind (arith, nat_tests, one_character)

-- The member so far and the characters after it have a full cut.
filling : (limit : ℕ) → 4 ≤ limit → (member : List ℕ) → IsMember limit member → IsNonempty member → (cs : List (List ℕ))
    → AllByRecursion IsCharacter cs → Filling limit member cs
filling limit four member ok some [] all = record {
  first = member;
  others = [];
  more = [];
  begins = sym (append-nil member);
  whole = refl;
  each = (ok, tt);
  nonempty = (some, tt);
  filled = tt;
}
filling limit four member ok some (c ∷ cs) all =
    let n = character_length c all.0 in
    elim (cases_lt limit (length member + length c)) [
      | inl l ↦
          (let f = filling limit four c (character_is_text c all.0, omega arith) (omega arith) cs all.1 in
          record {
            first = member;
            others = f.first ∷ f.others;
            more = [];
            begins = sym (append-nil member);
            whole = ap (λ (z : List ℕ). member ++ z) f.whole;
            each = (ok, f.each);
            nonempty = (some, f.nonempty);
            filled = (no_room limit member c f.more f.first all.0 f.begins l, f.filled);
          })
      | inr l ↦
          (let f = filling limit four (member ++ c)
          (IsCharacters-append member c ok.0 (character_is_text c all.0), omega (arith, length-append member c))
          (omega (arith, length-append member c)) cs all.1 in
          record {
            first = f.first;
            others = f.others;
            more = c ++ f.more;
            begins = f.begins ∙ append_assoc member c f.more;
            whole = sym (append_assoc member c (joined cs)) ∙ f.whole;
            each = f.each;
            nonempty = f.nonempty;
            filled = f.filled;
          })
    ]

-- Joined characters have a full cut.
full_cut_of : (limit : ℕ) → 4 ≤ limit → (cs : List (List ℕ)) → AllByRecursion IsCharacter cs
    → (members : List (List ℕ)) × IsFullCut (joined cs) limit members
full_cut_of limit four [] all = ([], record { cut = record { whole = refl; each = tt }; nonempty = tt; filled = tt })
full_cut_of limit four (c ∷ cs) all =
    let n = character_length c all.0 in
    let f = filling limit four c (character_is_text c all.0, omega arith) (omega arith) cs all.1 in (
      f.first ∷ f.others,
      record {
        cut = record { whole = f.whole; each = f.each };
        nonempty = f.nonempty;
        filled =
            f.filled;
      },
    )

-- A text has a full cut for each limit of at least 4 bytes.
pub full_cut : (text : List ℕ) (limit : ℕ) → IsCharacters text → 4 ≤ limit → (members : List (List ℕ))
    × IsFullCut text limit members
full_cut text limit u four =
    let f = full_cut_of limit four u.characters u.each in
    (f.0, subst (λ (z : List ℕ). IsFullCut z limit f.0) (sym u.whole) f.1)
