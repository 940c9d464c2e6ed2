-- Texts joined and parted, and the longest front that is text.
use Rattle.std.proofs.lemmas.Bool.Decides.{nat_tests}
use Rattle.std.proofs.Common.{◌≡◌, ℕ, zero, suc, ◌<◌, ◌≤◌, List, [], ◌∷◌, ◌++◌, length, take, drop, refl, sym, ap}
use Rattle.std.proofs.Common.{◌∙◌, subst, inl, inr, arith, append_assoc}
use Rattle.std.proofs.lemmas.Bool.{cases_lt}
use Rattle.std.proofs.lemmas.Str.{IsUtf8-append, IsUtf8-past_char}
use Rattle.std.proofs.lemmas.List.{append-nil, length-append, take-append-drop, length-take, take_at}
use Rattle.std.specs.Str.{IsUtf8, IsValidUpTo}
use Rattle.std.specs.List.{AllByRecursion}
use Rattle.std.proofs.Math.Utf8.{encode, encodes}
use Rattle.ciborium_ll_text.specs.Text.{IsCharacter, joined}
use Rattle.ciborium_ll_text.specs.Text.{IsCharacters, IsFront}
use Rattle.ciborium_ll_text.proofs.Lists.{same_front, front_of_front}
use Rattle.ciborium_ll_text.proofs.Utf8Laws.{to_std, from_std, text_or_none}

-- Two texts joined are a text.
pub IsCharacters-append : (a b : List ℕ) → IsCharacters a → IsCharacters b → IsCharacters (a ++ b)
IsCharacters-append a b p q = from_std (a ++ b) (IsUtf8-append a b (to_std a p) (to_std b q))

-- If whole characters of std and the bytes after them are UTF-8, these bytes are UTF-8.
past : (cs : List ℕ) (b : List ℕ) → IsUtf8 (encodes cs ++ b) → IsUtf8 b
past [] b u = u
past (c ∷ cs) b u = past cs b (IsUtf8-past_char (encodes (c ∷ cs) ++ b) (encodes cs ++ b) c u
    (append_assoc (encode c) (encodes cs) b))

-- If a text and the bytes after it are a text, these bytes are a text.
pub IsCharacters-rest : (a b : List ℕ) → IsCharacters a → IsCharacters (a ++ b) → IsCharacters b
IsCharacters-rest a b p q =
    let u = to_std a p in
    from_std b (past u.0 b (subst (λ (x : List ℕ). IsUtf8 (x ++ b)) (sym u.1.1) (to_std (a ++ b) q)))

-- ---- fronts

-- The empty list is a text.
pub IsCharacters-nil : IsCharacters []
IsCharacters-nil = record { characters = []; each = tt; whole = refl }

-- A list has at most one longest front.
pub one_front : (x a r b s : List ℕ) → IsFront x a r → IsFront x b s → (a ≡ b) × (r ≡ s)
one_front x a r b s p q = grind (arith, nat_tests, same_front)

-- A character has from one to four bytes.
pub character_length : (c : List ℕ) → IsCharacter c → (0 < length c) × (length c ≤ 4)
character_length c p = grind arith

-- One character is a text.
pub character_is_text : (c : List ℕ) → IsCharacter c → IsCharacters c
character_is_text c p = record { characters = c ∷ []; each = (p, tt); whole = sym (append-nil c) }

-- More than three bytes after the longest front begin no text.
damned : (x a r y : List ℕ) (cs : List (List ℕ)) → IsFront x a r → 3 < length r → AllByRecursion IsCharacter cs
    → r ++ y ≡ joined cs → ⊥
damned x a r y [] f l all e = let n = ap length e in omega (arith, length-append r y)
damned x a r y (c ∷ cs) f l all e =
    let k = character_length c all.0 in
    let m = front_of_front c r (joined cs) y (sym e) (omega arith) in
    let parts : x ≡ (a ++ c) ++ m.0 = f.parts ∙ (ap (λ (z : List ℕ). a ++ z) m.1 ∙ sym (append_assoc a c m.0)) in
    let longer = f.longest (a ++ c) m.0 parts (IsCharacters-append a c f.text (character_is_text c all.0)) in
    omega (arith, length-append a c)

-- No text begins with bytes that have more than three bytes after their longest front.
pub no_text_begins : (x a r y : List ℕ) → IsFront x a r → 3 < length r → IsCharacters (x ++ y) → ⊥
no_text_begins x a r y f l u =
    let whole : IsCharacters (a ++ (r ++ y)) = subst IsCharacters
    (ap (λ (z : List ℕ). z ++ y) f.parts ∙ append_assoc a r y) u in
    let rest = IsCharacters-rest a (r ++ y) f.text whole in
    damned x a r y rest.characters f l rest.each rest.whole

-- A front that is text is the longest front if no longer front is text.
pub front_at : (x : List ℕ) (n : ℕ) → n ≤ length x → IsCharacters (take n x)
    → ((m : ℕ) → n < m → m ≤ length x → IsCharacters (take m x) → ⊥)
    → IsFront x (take n x) (drop n x)
front_at x n l u none =
    record {
      parts = sym (take-append-drop n x);
      text = u;
      longest = λ b s e v. (elim (cases_lt n (length b)) [
        | inl k ↦ absurd (none (length b) k (omega (arith, ap length e, length-append b s))
            (subst IsCharacters (sym (ap (take (length b)) e ∙ take_at b s (length b) refl)) v))
        | inr k ↦ omega (arith, length-take n x)
      ]);
    }

-- The longest front ends at the fault that std finds.
pub front_of_valid : (x : List ℕ) (n : ℕ) → IsValidUpTo x n → IsFront x (take n x) (drop n x)
front_of_valid x n v =
    let k = v.short in
    front_at x n (omega arith) (from_std (take n x) v.front) (λ m l r u. v.longest m l (to_std (take m x) u))

-- A list has a longest front if no front of more than `n` bytes is text.
front_from : (n : ℕ) (x : List ℕ) → n ≤ length x → ((m : ℕ) → n < m → m ≤ length x → IsCharacters (take m x) → ⊥)
    → (a : List ℕ) × (r : List ℕ) × IsFront x a r
front_from zero x l none = (take 0 x, drop 0 x, front_at x 0 l IsCharacters-nil none)
front_from (suc n) x l none =
    elim (text_or_none (take (suc n) x)) [
      | inl u ↦ (take (suc n) x, drop (suc n) x, front_at x (suc n) l u none)
      | inr v ↦ front_from n x (omega arith) (λ m k r u. (elim (cases_lt (suc n) m) [
        | inl j ↦ none m j r u
        | inr j ↦ (let e : m ≡ suc n = omega arith in v (subst (λ (z : ℕ). IsCharacters (take z x)) e u))
      ]))
    ]

-- A list has a longest front.
pub some_front : (x : List ℕ) → (a : List ℕ) × (r : List ℕ) × IsFront x a r
some_front x = front_from (length x) x (omega arith) (λ m k r u. absurd (omega arith))

-- The longest front of a text is the whole text.
pub front_of_text : (x : List ℕ) → IsCharacters x → IsFront x x []
front_of_text x u = grind (arith, nat_tests, append-nil, length-append)

-- A text has no rest after its longest front.
pub no_rest_of_text : (x a r : List ℕ) → IsFront x a r → IsCharacters x → r ≡ []
no_rest_of_text x a r f u = (one_front x a r x [] f (front_of_text x u)).1
