-- The bytes after the longest front that is UTF-8, by the state after the front.
use Rattle.std.proofs.Common.{◌≡◌, ◌≢◌, ℕ, List, [], ◌∷◌, ◌++◌, length, drop, refl, sym, ap, subst, ◌∙◌, ◌↔◌}
use Rattle.std.proofs.Common.{inl, inr, arith, append-nil, append_assoc}
use Rattle.std.proofs.lemmas.Bool.{cases_lt}
use Rattle.std.proofs.lemmas.List.{drop_at}
use Rattle.std.specs.List.{AllByRecursion}
use Rattle.ciborium_ll_text.specs.declared.state.State.TheVariants as s
use Rattle.ciborium_ll_text.specs.States.{after}
use Rattle.ciborium_ll_text.specs.Text.{IsCharacter, IsCharacters, IsFront, IsStuck, BeginsNoText, joined}
use Rattle.ciborium_ll_text.proofs.FrontLaws.{IsStuck-rest}
use Rattle.ciborium_ll_text.proofs.Lists.{front_of_front}
use Rattle.ciborium_ll_text.proofs.StateLaws.{none_goes_on, some_goes_on, text_from}
use Rattle.ciborium_ll_text.proofs.TextLaws.{IsCharacters-append, IsCharacters-nil, IsCharacters-rest}
use Rattle.ciborium_ll_text.proofs.TextLaws.{character_is_text, character_length, no_rest_of_text}
use Rattle.capi.specs.declared.answer.CllAnswer.{CllAnswer}
use Rattle.capi.specs.declared.answer.CllAnswer.TheVariants as a
use Rattle.capi.specs.declared.answer.CllReport.{CllReport}
use Rattle.capi.specs.Answers.{Reports}
use Rattle.capi.specs.Texts.{FindsText, IsCutCharacter}

-- ---- bytes that no front can take are the beginning of one character

-- The first character of a text that begins with such bytes is longer than they are.
cut_in : (rest more : List ℕ) (characters : List (List ℕ)) → IsStuck rest → rest ≢ []
    → AllByRecursion IsCharacter characters → rest ++ more ≡ joined characters → IsCutCharacter rest
cut_in [] more [] stuck some each whole = absurd (some refl)
cut_in (byte ∷ rest) more [] stuck some each whole = absurd cc
cut_in rest more (character ∷ characters) stuck some each whole =
    elim (cases_lt (length rest) (length character)) [
      | inl longer ↦ (
          let beyond = front_of_front rest character more (joined characters) whole (omega (arith, longer)) in
          record {
            more = beyond.0;
            is_character = subst IsCharacter beyond.1 each.0;
            begins = some;
            goes_on = λ none.
                let same = beyond.1 ∙ ap (λ (z : List ℕ). rest ++ z) none ∙ append-nil rest in
                omega (arith, longer, ap length same);
          })
      | inr within ↦ (
          let inside = front_of_front character rest (joined characters) more (sym whole) (omega (arith, within)) in
          let none = stuck character inside.0 inside.1 (character_is_text character each.0) in
          absurd (omega (arith, ap length none, (character_length character each.0).0)))
    ]

pub cut_character : (bytes : List ℕ) → IsStuck bytes → bytes ≢ [] → (more : List ℕ) → IsCharacters (bytes ++ more)
    → IsCutCharacter bytes
cut_character bytes stuck some more text =
    cut_in bytes more text.characters stuck some text.each text.whole

-- ---- the front by the state after it

module _ (bytes text rest : List ℕ) (front : IsFront bytes text rest) where
  -- No bytes follow the front if the state is between two characters.
  pub nothing_behind : after s.Between rest ≡ s.Between → rest ≡ []
  nothing_behind ends = IsStuck-rest bytes text rest front rest [] (sym (append-nil rest)) (text_from rest ends)

  pub finds_all : (report : CllReport) → after s.Between rest ≡ s.Between → Reports report (length text) 0 0
      → FindsText bytes a.Ok report
  finds_all report ends reports =
      let none = nothing_behind ends in
      let same : text ≡ bytes =
      sym (append-nil text) ∙ sym (ap (λ (z : List ℕ). text ++ z) none) ∙ sym front.parts in (
        subst IsCharacters same front.text,
        subst (λ (z : List ℕ). Reports report (length z) 0 0) same reports,
      )

  -- A character is cut off if the state is inside a character.
  pub finds_cut : (report : CllReport) → after s.Between rest ≢ s.Between → after s.Between rest ≢ s.Damaged
      → Reports report (length text) 0 0 → FindsText bytes a.Short report
  finds_cut report inside goes reports =
      let on = some_goes_on rest goes in (
        record { text = text; rest = rest; is_front = front },
        cut_character rest (IsStuck-rest bytes text rest front)
            (λ none. inside (ap (after s.Between) none)) on.0 on.1,
        reports,
      )

  -- No text begins after the front if the state is damaged.
  pub finds_damage : (report : CllReport) → after s.Between rest ≡ s.Damaged
      → Reports report (length text) 0 (length text) → FindsText bytes a.Syntax report
  finds_damage report damaged reports = (
    record { text = text; rest = rest; is_front = front },
    λ more. none_goes_on rest more damaged,
    reports,
  )

-- ---- the answers

-- With any bytes after them, the bytes are UTF-8 exactly if the bytes after the front are.
goes_with : (bytes text rest more : List ℕ) → bytes ≡ text ++ rest → IsCharacters text
    → IsCharacters (bytes ++ more) ↔ IsCharacters (rest ++ more)
goes_with bytes text rest more parts front =
    let same : bytes ++ more ≡ text ++ (rest ++ more) =
    ap (λ (z : List ℕ). z ++ more) parts ∙ append_assoc text rest more in (
      λ whole. IsCharacters-rest text (rest ++ more) front (subst IsCharacters same whole),
      λ behind. subst IsCharacters (sym same) (IsCharacters-append text (rest ++ more) front behind),
    )

-- The same holds for the bytes after those that were consumed.
goes_behind : (bytes text rest : List ℕ) (consumed : ℕ) → bytes ≡ text ++ rest → IsCharacters text
    → consumed ≡ length text
    → (more : List ℕ) → IsCharacters (bytes ++ more) ↔ IsCharacters (drop consumed bytes ++ more)
goes_behind bytes text rest consumed parts front counted more =
    let left : drop consumed bytes ≡ rest =
    ap (drop consumed) parts ∙ ap (λ (n : ℕ). drop n (text ++ rest)) counted ∙ drop_at text rest (length text) refl in
    subst (λ (z : List ℕ). IsCharacters (bytes ++ more) ↔ IsCharacters (z ++ more)) (sym left)
    (goes_with bytes text rest more parts front)

pub found_pieces : (bytes : List ℕ) (answer : CllAnswer) (report : CllReport) → FindsText bytes answer report
    → (more : List ℕ) → IsCharacters (bytes ++ more) ↔ IsCharacters (drop report.consumed bytes ++ more)
found_pieces bytes a.Ok report found =
    goes_behind bytes bytes [] report.consumed (sym (append-nil bytes)) found.0 found.1.consumed_is
found_pieces bytes a.Short report found =
    let front = found.0 in
    goes_behind bytes front.text front.rest report.consumed front.is_front.parts front.is_front.text
    found.2.consumed_is
found_pieces bytes a.Syntax report found =
    let front = found.0 in
    goes_behind bytes front.text front.rest report.consumed front.is_front.parts front.is_front.text
    found.2.consumed_is
found_pieces bytes a.Room report found = absurd found
found_pieces bytes a.TooLong report found = absurd found
found_pieces bytes a.BreakDue report found = absurd found
found_pieces bytes a.TooDeep report found = absurd found
found_pieces bytes a.Argument report found = absurd found
found_pieces bytes a.NotShortest report found = absurd found
found_pieces bytes a.Indefinite report found = absurd found
found_pieces bytes a.KeyOrder report found = absurd found
found_pieces bytes a.DuplicateKey report found = absurd found
found_pieces bytes a.Absent report found = absurd found

-- The answer is `Ok` exactly if the bytes are UTF-8.
pub found_exactly : (bytes : List ℕ) (answer : CllAnswer) (report : CllReport) → FindsText bytes answer report
    → (answer ≡ a.Ok) ↔ IsCharacters bytes
found_exactly bytes a.Ok report found = (λ same. found.0, λ text. refl)
found_exactly bytes a.Short report found = (
  λ same. absurd cc,
  λ text. absurd (found.1.begins (no_rest_of_text bytes found.0.text found.0.rest found.0.is_front text)),
)
found_exactly bytes a.Syntax report found = (
  λ same. absurd cc,
  λ text.
      let none = no_rest_of_text bytes found.0.text found.0.rest found.0.is_front text in
      absurd (subst BeginsNoText none found.1 [] IsCharacters-nil),
)
found_exactly bytes a.Room report found = absurd found
found_exactly bytes a.TooLong report found = absurd found
found_exactly bytes a.BreakDue report found = absurd found
found_exactly bytes a.TooDeep report found = absurd found
found_exactly bytes a.Argument report found = absurd found
found_exactly bytes a.NotShortest report found = absurd found
found_exactly bytes a.Indefinite report found = absurd found
found_exactly bytes a.KeyOrder report found = absurd found
found_exactly bytes a.DuplicateKey report found = absurd found
found_exactly bytes a.Absent report found = absurd found
