-- What is written at an offset of the output, and what is put before a content.
use Rattle.std.proofs.Common.{◌≡◌, ℕ, ◌+◌, ◌-◌, ◌≤◌, List, ◌++◌, length, take, drop, sym, ◌∙◌, ap, ap₂}
use Rattle.std.proofs.Common.{subst, arith, append_assoc, length-append, take-add}
use Rattle.std.proofs.lemmas.List.{length-take-le, length-drop}
use Rattle.std.proofs.lemmas.Slice.{take-put_mid}
use borrow.Rule.Slice.PartMut.{put_mid, mid_of, same_len_mid}
use Rattle.std.proofs.Math.Seq.{take-append_seam, drop-append_seam}
use Rattle.ciborium_ll_text.proofs.Lists.{same_front}
use Rattle.cbor_canonical.specs.Writing.{Adds, Inserts}

-- The end of what is added is as far from its start as the added bytes are many.
pub adds_reach : (bytes : List ℕ) (at end : ℕ) (old new : List ℕ) → at ≤ length old → Adds bytes at end old new
    → end ≡ at + length bytes
adds_reach bytes at end old new l w =
    omega (
      arith,
      length-take-le end new w.within,
      length-take-le at old l,
      ap (length {A = ℕ}) w.is,
      length-append (take at old) bytes,
    )

-- Bytes that are added after others are added together.
pub adds_both : (xs ys : List ℕ) (at mid end : ℕ) (old now new : List ℕ) → Adds xs at mid old now
    → Adds ys mid end now new → Adds (xs ++ ys) at end old new
adds_both xs ys at mid end old now new f g = record {
  is = g.is ∙ ap (λ (z : List ℕ). z ++ ys) f.is ∙ append_assoc (take at old) xs ys;
  from = omega (arith, f.from, g.from);
  within = g.within;
}

-- A title that is written after a content, and then turned before it, is put before the content.
pub inserted : (title : List ℕ) (at end after : ℕ) (old now turned : List ℕ) → at ≤ end → end ≤ length old
    → Adds title end after old now
    → turned ≡ drop (length (mid_of at (after - at) now) - (after - end)) (mid_of at (after - at) now)
    ++ take (length (mid_of at (after - at) now) - (after - end)) (mid_of at (after - at) now)
    → Inserts title at end after old (put_mid at (after - at) now turned)
inserted title at end after old now turned l m w t = record {
  moved = λ front content e a. go front content e a;
  from = w.from;
  within = subst (λ (n : ℕ). after ≤ n) (sym (same_len_mid at (after - at) now turned (rotated ∙ sym lasts)))
      w.within;
}
  where
    mid : List ℕ
    mid = mid_of at (after - at) now

    lasts : length mid ≡ after - at
    lasts = length-take-le (after - at) (drop at now) (omega (arith, w.within, length-drop at now))

    rotated : length turned ≡ after - at
    rotated =
        omega (
          arith,
          ap (length {A = ℕ}) t,
          length-append (drop (length mid - (after - end)) mid) (take (length mid - (after - end)) mid),
          length-drop (length mid - (after - end)) mid,
          length-take-le (length mid - (after - end)) mid (omega arith),
          lasts,
        )

    go : (front content : List ℕ) → take end old ≡ front ++ content → length front ≡ at
        → take after (put_mid at (after - at) now turned) ≡ front ++ (title ++ content)
    go front content e a =
        let all : take after now ≡ front ++ (content ++ title) =
        w.is ∙ ap (λ (z : List ℕ). z ++ title) e ∙ append_assoc front content title in
        let n : after ≡ at + (after - at) = omega (arith, l, w.from) in
        let split : take at now ++ mid ≡ front ++ (content ++ title) =
        sym (take-add at (after - at) now) ∙ ap (λ (j : ℕ). take j now) (sym n) ∙ all in
        let both = same_front (take at now) front mid (content ++ title)
        (length-take-le at now (omega (arith, w.within, w.from)) ∙ sym a) split in
        let c : length mid - (after - end) ≡ length content =
        omega (
          arith,
          lasts,
          length-take-le end old m,
          ap (length {A = ℕ}) e,
          length-append front content,
          w.from,
        ) in
        let r : turned ≡ title ++ content =
        t ∙ ap (λ (j : ℕ). drop j mid ++ take j mid) c
        ∙ ap (λ (z : List ℕ). drop (length content) z ++ take (length content) z) both.1
        ∙ ap₂ (λ (x y : List ℕ). x ++ y) (drop-append_seam content title) (take-append_seam content title) in
        take-put_mid at (after - at) now turned after (omega (arith, rotated)) (omega (arith, w.within, w.from))
        ∙ ap₂ (λ (x y : List ℕ). x ++ y) both.0 r
