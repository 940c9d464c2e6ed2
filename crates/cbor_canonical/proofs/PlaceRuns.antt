-- The pairs at places of the output.
use Rattle.std.proofs.Common.{◌≡◌, ℕ, zero, suc, ◌+◌, ◌-◌, ◌*◌, ◌≤◌, ◌<◌, List, [], ◌∷◌, ◌++◌, length, take, drop, map}
use Rattle.std.proofs.Common.{refl, sym, ◌∙◌, ap, ap₂, subst, arith, append_assoc, length-append, drop-drop}
use Rattle.std.proofs.Common.{take-take, take-add, Bool, true, false, nat_eq, slice_index_or, slice_set, get_or-set_same}
use Rattle.std.proofs.Common.{get_or-set_other, get_or-drop, take-suc, ◌/◌, ◌%◌}
use Rattle.std.proofs.lemmas.List.{length-drop, length-take-le, length-map, take_more_set, drop-take, get_or-map, get_or-take}
use Rattle.std.proofs.lemmas.Bool.Decides.{nat_tests}
use Rattle.std.proofs.Math.Seq.{take-append_seam, drop-append_seam}
use Rattle.std.specs.List.{AllByRecursion}
use Rattle.std.specs.List.Sorted.{IsPermutation}
use Rattle.std.proofs.lemmas.List.Elements.{recursion_from_All, All-from_recursion}
use Rattle.std.proofs.lemmas.List.Sorted.{All-permutation}
use Rattle.cbor_canonical.specs.declared.pairs.Span.{Span}
use Rattle.cbor_canonical.specs.Places.{key_at, value_at, entry_at, entries_at, spans_of, IsWithin, bounds}
use Rattle.cbor_canonical.specs.Places.{HoldsTwo, IsSaved}
use Rattle.cbor_canonical.specs.Writing.{Adds}
use Rattle.cbor_canonical.proofs.PairRuns.{joined_last}
use Rattle.cbor_canonical.specs.Places.{nowhere}
use Rattle.cbor_canonical.specs.Runs.{Entry, joined_pairs}

-- The bytes that stand after a front, by their offset and length.
pub part_there : (front part rest out : List ℕ) (at n : ℕ) → out ≡ front ++ (part ++ rest) → at ≡ length front
    → n ≡ length part → take n (drop at out) ≡ part
part_there front part rest out at n w a l =
    ap (λ (z : List ℕ). take n (drop at z)) w ∙ ap (λ (m : ℕ). take n (drop m (front ++ (part ++ rest)))) a
    ∙ ap (take n) (drop-append_seam front (part ++ rest)) ∙ ap (λ (m : ℕ). take m (part ++ rest)) l
    ∙ take-append_seam part rest

-- Pairs that stand one after the other are found at their places.
pub entries_there : (front rest out : List ℕ) (at : ℕ) (es : List Entry) → out ≡ front ++ (joined_pairs es ++ rest)
    → at ≡ length front → entries_at out (spans_of at es) ≡ es
entries_there front rest out at [] w a = refl
entries_there front rest out at (e ∷ es) w a =
    let k : out ≡ front ++ (e.key ++ (e.value ++ (joined_pairs es ++ rest))) =
    w ∙ ap (λ (z : List ℕ). front ++ z) (append_assoc e.key (e.value ++ joined_pairs es) rest
    ∙ ap (λ (z : List ℕ). e.key ++ z) (append_assoc e.value (joined_pairs es) rest)) in
    let v : out ≡ (front ++ e.key) ++ (e.value ++ (joined_pairs es ++ rest)) =
    k ∙ sym (append_assoc front e.key (e.value ++ (joined_pairs es ++ rest))) in
    let m : out ≡ ((front ++ e.key) ++ e.value) ++ (joined_pairs es ++ rest) =
    v ∙ sym (append_assoc (front ++ e.key) e.value (joined_pairs es ++ rest)) in
    let b : at + length e.key ≡ length (front ++ e.key) = omega (arith, length-append front e.key, a) in
    let c : at + length e.key + length e.value ≡ length ((front ++ e.key) ++ e.value) =
    omega (arith, length-append (front ++ e.key) e.value, b) in
    ap₂ (λ (x : Entry) (xs : List Entry). x ∷ xs)
    (ap₂ (λ (x y : List ℕ). record { key = x; value = y })
    (part_there front e.key (e.value ++ (joined_pairs es ++ rest)) out at (at + length e.key - at) k a (omega arith))
    (part_there (front ++ e.key) e.value (joined_pairs es ++ rest) out (at + length e.key)
    (at + length e.key + length e.value - (at + length e.key)) v b (omega arith)))
    (entries_there ((front ++ e.key) ++ e.value) rest out (at + length e.key + length e.value) es m c)

-- The places of pairs that stand one after the other lie between two offsets.
pub all_within : (low at end : ℕ) (es : List Entry) → low ≤ at → at + length (joined_pairs es) ≤ end
    → AllByRecursion (IsWithin low end) (spans_of at es)
all_within low at end [] l m = tt
all_within low at end (e ∷ es) l m =
    let n = length-append e.key (e.value ++ joined_pairs es) in
    let k = length-append e.value (joined_pairs es) in (
      (omega (arith, l), omega arith, omega arith, omega (arith, m, n, k)),
      all_within low (at + length e.key + length e.value) end es (omega (arith, l)) (omega (arith, m, n, k)),
    )

-- What holds of each place holds of each one in another order.
pub all_moved : (P : Span → Type 0) (ss ts : List Span) → IsPermutation ss ts → AllByRecursion P ss → AllByRecursion P ts
all_moved P ss ts p a = recursion_from_All P ts (All-permutation P ss ts p (All-from_recursion P ss a))

-- Two parts that meet are one part.
pub parts_meet : (a b c : ℕ) (out : List ℕ) → a ≤ b → b ≤ c
    → take (b - a) (drop a out) ++ take (c - b) (drop b out) ≡ take (c - a) (drop a out)
parts_meet a b c out l m =
    let n : c - a ≡ (b - a) + (c - b) = omega (arith, l, m) in
    let k : b ≡ a + (b - a) = omega (arith, l) in
    sym (ap (λ (j : ℕ). take j (drop a out)) n ∙ take-add (b - a) (c - b) (drop a out)
    ∙ ap (λ (z : List ℕ). take (b - a) (drop a out) ++ take (c - b) z)
    (drop-drop (b - a) a out ∙ ap (λ (j : ℕ). drop j out) (omega (arith, l))))

-- ---- bytes saved in the ends of keys

-- A cell that was filled keeps where its pair starts and ends.
pub bounds_kept : (ss : List Span) (at n : ℕ) → map bounds (slice_set ss at (record {
  start = (slice_index_or ss at nowhere).start;
  key_end = n;
  end = (slice_index_or ss at nowhere).end;
})) ≡ map bounds ss
bounds_kept [] at n = refl
bounds_kept (s ∷ ss) zero n = refl
bounds_kept (s ∷ ss) (suc at) n = ap (λ (z : List (ℕ × ℕ)). bounds s ∷ z) (bounds_kept ss at n)

-- One more cell is filled.
pub saved_more : (bytes : List ℕ) (ss : List Span) (at low high : ℕ) → at < length ss → low < 256 → high < 256
    → low ≡ slice_index_or bytes (2 * at) 0 → high ≡ slice_index_or bytes (2 * at + 1) 0
    → ((cell : ℕ) (other : Span) → cell < at → HoldsTwo bytes cell (slice_index_or ss cell other))
    → (cell : ℕ) (other : Span) → cell < at + 1 → HoldsTwo bytes cell (slice_index_or (slice_set ss at (record {
      start = (slice_index_or ss at nowhere).start;
      key_end = low + 256 * high;
      end = (slice_index_or ss at nowhere).end;
    })) cell other)
saved_more bytes ss at low high l low_fits high_fits low_is high_is all cell other m = go (nat_eq at cell) refl
  where
    put : Span
    put = record {
      start = (slice_index_or ss at nowhere).start;
      key_end = low + 256 * high;
      end = (slice_index_or ss at nowhere).end;
    }

    holds : HoldsTwo bytes at put
    holds = (
      subst (λ (n : ℕ). n < 256) low_is low_fits,
      subst (λ (n : ℕ). n < 256) high_is high_fits,
      ap₂ (λ (x y : ℕ). x + 256 * y) low_is high_is,
    )

    go : (same : Bool) → same ≡ nat_eq at cell → HoldsTwo bytes cell (slice_index_or (slice_set ss at put) cell other)
    go true e =
        let i : at ≡ cell = grind (arith, nat_tests) in
        subst (λ (c : ℕ). HoldsTwo bytes c (slice_index_or (slice_set ss at put) c other)) i
        (subst (λ (s : Span). HoldsTwo bytes at s) (sym (get_or-set_same ss at put other l)) holds)
    go false e =
        let n : cell ≡ at → ⊥ = λ z. grind (arith, nat_tests) in
        subst (λ (s : Span). HoldsTwo bytes cell s) (sym (get_or-set_other ss at cell put other n))
        (all cell other (grind (arith, nat_tests)))

-- The upper byte of a cell is the byte of an odd index.
pub saved_high : (bytes : List ℕ) (ss : List Span) (at : ℕ) (s : Span) → s ≡ slice_index_or ss (at / 2) s
    → IsSaved bytes ss → at < length bytes → (at % 2 ≡ 0 → ⊥) → s.key_end / 256 % 256 ≡ slice_index_or bytes at 0
saved_high bytes ss at s e saved l odd =
    let two : 2 * (at / 2) + 1 ≡ at = omega (arith, odd) in
    let h = saved (at / 2) s (omega arith) in
    let key = subst (λ (z : Span). HoldsTwo bytes (at / 2) z) (sym e) h.1 in
    split_high (slice_index_or bytes (2 * (at / 2)) 0) (slice_index_or bytes (2 * (at / 2) + 1) 0) s.key_end key.0 key.1
    key.2 ∙ ap (λ (i : ℕ). slice_index_or bytes i 0) two
  where
    split_high : (low high n : ℕ) → low < 256 → high < 256 → n ≡ low + 256 * high → n / 256 % 256 ≡ high
    split_high low high n a b e = omega (arith, a, b, e)

-- A byte that is saved has a cell.
pub cell_there : (bytes : List ℕ) (ss : List Span) (at : ℕ) (other : Span) → IsSaved bytes ss → at < length bytes
    → length ss ≤ at / 2 → ⊥
cell_there bytes ss at other saved l m = let h = saved (at / 2) other (omega arith) in omega (arith, h.0)

-- One more saved byte is written.
pub put_more : (bytes out old : List ℕ) (ss : List Span) (at from next end byte : ℕ) → from ≤ next → next < length bytes
    → end < length out → take end out ≡ take at old ++ take (next - from) (drop from bytes)
    → byte ≡ slice_index_or bytes next 0
    → take (end + 1) (slice_set out end byte) ≡ take at old ++ take (next + 1 - from) (drop from bytes)
put_more bytes out old ss at from next end byte f l m e b =
    let n : next + 1 - from ≡ suc (next - from) = omega (arith, f) in
    let i : from + (next - from) ≡ next = omega (arith, f) in
    let k : next - from < length (drop from bytes) = omega (arith, l, f, length-drop from bytes) in
    take_more_set out end byte m ∙ ap (λ (z : List ℕ). z ++ byte ∷ []) e
    ∙ append_assoc (take at old) (take (next - from) (drop from bytes)) (byte ∷ [])
    ∙ ap (λ (z : List ℕ). take at old ++ z)
    (ap (λ (x : ℕ). take (next - from) (drop from bytes) ++ x ∷ []) (b ∙ sym (get_or-drop from bytes (next - from) 0
    ∙ ap (λ (j : ℕ). slice_index_or bytes j 0) i))
    ∙ sym (take-suc (drop from bytes) (next - from) 0 k) ∙ ap (λ (j : ℕ). take j (drop from bytes)) (sym n))

-- ---- pairs that are moved

-- A part of a part is a part.
pub part_of_part : (out : List ℕ) (at end start stop : ℕ) → at ≤ start → start ≤ stop → stop ≤ end
    → take (stop - at - (start - at)) (drop (start - at) (take (end - at) (drop at out)))
    ≡ take (stop - start) (drop start out)
part_of_part out at end start stop l m n =
    let k : end - at ≡ (start - at) + (end - start) = omega (arith, l, m, n) in
    let j : stop - at - (start - at) ≡ stop - start = omega (arith, l, m) in
    let i : at + (start - at) ≡ start = omega (arith, l) in
    ap₂ (λ (x y : ℕ). take x (drop (start - at) (take y (drop at out)))) j k
    ∙ ap (take (stop - start)) (drop-take (start - at) (end - start) (drop at out))
    ∙ take-take (stop - start) (end - start) (drop (start - at) (drop at out)) (omega (arith, n))
    ∙ ap (take (stop - start)) (drop-drop (start - at) at out ∙ ap (λ (x : ℕ). drop x out) i)

-- A pair between the offsets is found in the part between them.
pub piece_is : (out : List ℕ) (at end : ℕ) (s : Span) → IsWithin at end s
    → take (s.end - at - (s.start - at)) (drop (s.start - at) (take (end - at) (drop at out)))
    ≡ key_at out s ++ value_at out s
piece_is out at end s w =
    part_of_part out at end s.start s.end w.0 (omega (arith, w.1, w.2)) w.3
    ∙ sym (parts_meet s.start s.key_end s.end out w.1 w.2)

-- What holds of each place holds of the one of an index.
pub all_at : (P : Span → Type 0) (ss : List Span) (i : ℕ) (d : Span) → i < length ss → AllByRecursion P ss
    → P (slice_index_or ss i d)
all_at P [] i d l a = absurd (omega arith)
all_at P (s ∷ ss) zero d l a = a.0
all_at P (s ∷ ss) (suc i) d l a = all_at P ss i d (omega arith) a.1

-- The pair of the last place is the last pair.
pub entries_last : (out : List ℕ) (ss : List Span) (s : Span)
    → entries_at out (ss ++ s ∷ []) ≡ entries_at out ss ++ entry_at out s ∷ []
entries_last out [] s = refl
entries_last out (t ∷ ss) s = ap (λ (z : List Entry). entry_at out t ∷ z) (entries_last out ss s)

-- Places with the same bounds have the same bounds at each index.
pub same_bounds : (ss sp : List Span) (i : ℕ) → i < length ss → map bounds sp ≡ map bounds ss
    → bounds (slice_index_or sp i nowhere) ≡ bounds (slice_index_or ss i nowhere)
same_bounds ss sp i l e =
    let long : length sp ≡ length ss = sym (length-map sp bounds) ∙ ap (length {A = ℕ × ℕ}) e ∙ length-map ss bounds in
    sym (get_or-map bounds sp i nowhere (0, 0) (omega (arith, l, long)))
    ∙ ap (λ (z : List (ℕ × ℕ)). slice_index_or z i (0, 0)) e ∙ get_or-map bounds ss i nowhere (0, 0) l

-- The saved bytes of one more pair are written.
pub moved_more : (old now new : List ℕ) (at end place after next done : ℕ) (ss sp : List Span) (s : Span)
    → map bounds sp ≡ map bounds ss → next < done → done ≤ length ss → at ≤ end → end ≤ length old
    → s ≡ slice_index_or sp next nowhere
    → ((bytes : List ℕ) → IsSaved bytes sp → s.end - at ≤ length bytes
    → Adds (take (s.end - at - (s.start - at)) (drop (s.start - at) bytes)) place after now new)
    → IsSaved (take (end - at) (drop at old)) sp
    → (AllByRecursion (IsWithin at end) (take done ss)
    → take place now ≡ take at old ++ joined_pairs (entries_at old (take next ss)))
    → AllByRecursion (IsWithin at end) (take done ss)
    → take after new ≡ take at old ++ joined_pairs (entries_at old (take (next + 1) ss))
moved_more old now new at end place after next done ss sp s kept l m ends within is put saved before all =
    let t : Span = slice_index_or ss next nowhere in
    let same : bounds s ≡ bounds t = ap bounds is ∙ same_bounds ss sp next (omega (arith, l, m)) kept in
    let start : s.start ≡ t.start = ap (λ (b : ℕ × ℕ). b.0) same in
    let stop : s.end ≡ t.end = ap (λ (b : ℕ × ℕ). b.1) same in
    let w : IsWithin at end t = subst (IsWithin at end) (get_or-take done ss next nowhere l)
    (all_at (IsWithin at end) (take done ss) next nowhere (omega (arith, l, m, length-take-le done ss m)) all) in
    let p = put (take (end - at) (drop at old)) saved (omega (
      arith,
      w.3,
      stop,
      length-take-le (end - at) (drop at old) (omega (arith, within, length-drop at old)),
    )) in
    let piece : take (s.end - at - (s.start - at)) (drop (s.start - at) (take (end - at) (drop at old)))
    ≡ key_at old t ++ value_at old t =
    ap₂ (λ (x y : ℕ). take (x - at - (y - at)) (drop (y - at) (take (end - at) (drop at old)))) stop start
    ∙ piece_is old at end t w in
    let suc_is : next + 1 ≡ suc next = omega arith in
    let one : take (next + 1) ss ≡ take next ss ++ t ∷ [] =
    ap (λ (j : ℕ). take j ss) suc_is ∙ take-suc ss next nowhere (omega (arith, l, m)) in
    p.is ∙ ap₂ (λ (x y : List ℕ). x ++ y) (before all) piece
    ∙ append_assoc (take at old) (joined_pairs (entries_at old (take next ss))) (key_at old t ++ value_at old t)
    ∙ ap (λ (z : List ℕ). take at old ++ z) (sym (joined_last (entries_at old (take next ss)) (entry_at old t))
    ∙ ap joined_pairs (sym (entries_last old (take next ss) t)
    ∙ ap (λ (z : List Span). entries_at old z) (sym one)))
