-- Elements that a copy keeps as they are, in the words of the grammar: each is in its shortest spelling.
use Rattle.std.proofs.Common.{◌≡◌, ℕ, zero, suc, ◌+◌, ◌-◌, ◌<◌, ◌≤◌, List, [], ◌++◌, length, take, drop, refl, arith}
use Rattle.std.proofs.Math.Seq.{take-add}
use Rattle.ciborium_ll_grammar.specs.declared.spelling.Spelling.TheVariants.{Shortest}
use Rattle.ciborium_ll_grammar.specs.Elements.{Mark, done, IsStrictRun}
use Rattle.ciborium_ll_grammar.proofs.RunJoins.{strict_more}
use Rattle.ciborium_ll_grammar.proofs.SpelledLaws.{spelled_alone}
use Rattle.cbor_copier.specs.Plain.{IsKept}
use Rattle.cbor_copier.specs.Reading.{AreSpelled}
use Rattle.cbor_copier.specs.Steps.{fresh}
use Rattle.cbor_copier.proofs.TellLaws.{told}

-- An element that a copy keeps is one that a strict copier takes.
strict_alone : (bytes : List ℕ) → IsKept bytes → (marks : List Mark) × IsStrictRun 1 bytes marks
strict_alone bytes kept =
    let alone : AreSpelled Shortest 1 bytes bytes = told (kept Shortest 1 1 0 0 [] [] fresh) in
    let strictly = alone.run.strictly refl in (
      alone.marks,
      record {
        run = alone.run.run;
        same = spelled_alone bytes alone.marks strictly;
        meant = strictly.meant;
      },
    )

-- No element has no bytes.
pub none_strict : (count : ℕ) → count ≡ 0 → IsStrictRun count [] []
none_strict zero is = record { run = done; same = refl; meant = tt }
none_strict (suc count) is = absurd (omega (arith, is))

-- One more element that a copy keeps follows such elements.
pub strict_kept : (most left at len : ℕ) (xs : List ℕ) → at ≤ length xs → 0 < left → left ≤ most
    → ((marks : List Mark) × IsStrictRun (most - left) (take at xs) marks) → IsKept (take len (drop at xs))
    → (marks : List Mark) × IsStrictRun (most - (left - 1)) (take (at + len) xs) marks
strict_kept most left at len xs within some fits so_far kept =
    let one = strict_alone (take len (drop at xs)) kept in
    let count : suc (most - left) ≡ most - (left - 1) = omega (arith, some, fits) in (
      so_far.0 ++ one.0,
      rw (take-add at len xs, ← count) (strict_more (most - left) (take at xs) (take len (drop at xs))
          so_far.0 one.0 so_far.1 one.1),
    )
