-- What `is_shortest` says of a spelling.
use Rattle.std.proofs.Common.{◌≡◌, ◌⊎◌, inl, inr, true, false, refl}
use Rattle.ciborium_ll_grammar.specs.Spellings.{is_shortest}
use Rattle.ciborium_ll_grammar.specs.declared.spelling.Spelling.{Spelling}
use Rattle.ciborium_ll_grammar.specs.declared.spelling.Spelling.TheVariants.{Any, Shortest}

pub only_shortest : (allowed : Spelling) → is_shortest allowed ≡ true → allowed ≡ Shortest
only_shortest Any e = absurd cc
only_shortest Shortest e = refl

pub any_allowed : (allowed : Spelling) → is_shortest allowed ≡ false → allowed ≡ Any
any_allowed Any e = refl
any_allowed Shortest e = absurd cc

pub either_allowed : (allowed : Spelling) → (allowed ≡ Shortest) ⊎ (allowed ≡ Any)
either_allowed Shortest = inl refl
either_allowed Any = inr refl
