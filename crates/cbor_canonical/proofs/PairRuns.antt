-- Pairs that are read one after the other, and their places in the output.
use Rattle.std.proofs.Common.{◌≡◌, ℕ, ◌+◌, ◌≤◌, List, [], ◌∷◌, ◌++◌, length, take, Option, Some, None}
use Rattle.std.proofs.Common.{refl, sym, ◌∙◌, ap, subst, arith, append_assoc, append-nil, length-append, take_at, min}
use Rattle.std.proofs.lemmas.List.{length-take, length-take-le}
use Rattle.std.proofs.lemmas.Bool.Decides.{nat_tests}
use Rattle.cbor_deterministic.specs.declared.Order.{Order}
use Rattle.cbor_canonical.specs.Canonical.{IsRewritten}
use Rattle.cbor_canonical.specs.declared.pairs.Span.{Span}
use Rattle.cbor_canonical.specs.Writing.{Adds, Extends}
use Rattle.cbor_canonical.proofs.WriteRuns.{adds_reach, adds_both}
use Rattle.cbor_canonical.specs.Places.{spans_of, span_of, WritesPair, WritesPairs, PutsSpan}
use Rattle.cbor_canonical.specs.Runs.{Turns, EndsNest, counted, at_break, IsPairOf, ArePairsOf, no_pairs, more_pairs}
use Rattle.cbor_canonical.specs.Runs.{Entry, joined_pairs}

-- ---- the entries of pairs

pub pairs_last : {ord : Order} (d : ℕ) (bytes f : List ℕ) (es : List Entry) (e : Entry) → ArePairsOf ord d bytes es
    → IsPairOf ord d f e → ArePairsOf ord d (bytes ++ f) (es ++ e ∷ [])
pairs_last d bytes f es e no_pairs r = simp append-nil at (more_pairs r no_pairs)
pairs_last d bytes f es e (more_pairs {bytes = x} {others = xs} {entry = y} {entries = ys} q qs) r =
    simp append_assoc (more_pairs q (pairs_last d xs f ys e qs r))

pub joined_last : (es : List Entry) (e : Entry) → joined_pairs (es ++ e ∷ []) ≡ joined_pairs es ++ (e.key ++ e.value)
joined_last [] e = ap (λ (z : List ℕ). e.key ++ z) (append-nil e.value)
joined_last (f ∷ es) e =
    ap (λ (z : List ℕ). f.key ++ (f.value ++ z)) (joined_last es e)
    ∙ ap (λ (z : List ℕ). f.key ++ z) (sym (append_assoc f.value (joined_pairs es) (e.key ++ e.value)))
    ∙ sym (append_assoc f.key (f.value ++ joined_pairs es) (e.key ++ e.value))

pub spans_last : (at : ℕ) (es : List Entry) (e : Entry)
    → spans_of at (es ++ e ∷ []) ≡ spans_of at es ++ span_of (at + length (joined_pairs es)) e ∷ []
spans_last at [] e = ap (λ (n : ℕ). span_of n e ∷ []) (omega arith)
spans_last at (f ∷ es) e =
    let n : ℕ = at + length f.key + length f.value in
    let m : n + length (joined_pairs es) ≡ at + length (joined_pairs (f ∷ es)) =
    omega (arith, length-append f.key (f.value ++ joined_pairs es), length-append f.value (joined_pairs es)) in
    ap (λ (z : List Span). span_of at f ∷ z) (spans_last n es e
    ∙ ap (λ (k : ℕ). spans_of n es ++ span_of k e ∷ []) m)

-- ---- the loop over pairs

pub record PairsSoFar (ord : Order) (d n : ℕ) (bytes rest : List ℕ) (at end : ℕ) (old now : List ℕ)
    (spans : List Span) : Type 0 where
  pub entries : List Entry
  pub pairs : List ℕ
  pub are : ArePairsOf ord d pairs entries
  pub count : length entries ≡ n
  pub whole : bytes ≡ pairs ++ rest
  pub wrote : Adds (joined_pairs entries) at end old now
  pub places : take n spans ≡ spans_of at entries
  pub held : n ≤ length spans

pub pairs_start : {ord : Order} (d : ℕ) (bytes : List ℕ) (at : ℕ) (old : List ℕ) (spans : List Span)
    → at ≤ length old → PairsSoFar ord d 0 bytes bytes at at old old spans
pairs_start d bytes at old spans l = record {
  entries = [];
  pairs = [];
  are = no_pairs;
  count = refl;
  whole = refl;
  wrote = record { is = sym (append-nil (take at old)); from = omega arith; within = l };
  places = refl;
  held = omega arith;
}

-- A place that was put down has room.
one_more : (n : ℕ) (ss ts : List Span) (s : Span) → n ≤ length ss → PutsSpan n s ss ts → n + 1 ≤ length ts
one_more n ss ts s l p =
    let long : min (n + 1) (length ts) ≡ n + 1 =
    sym (length-take (n + 1) ts) ∙ ap (length {A = Span}) p ∙ length-append (take n ss) (s ∷ [])
    ∙ ap (λ (j : ℕ). j + 1) (length-take-le n ss l) in
    grind (arith, nat_tests)

-- What stands before the rest of the places stays.
pub kept_twice : (n : ℕ) (ss xs ys : List Span) → n ≤ length ss
    → take n (take n (take n ss ++ xs) ++ ys) ≡ take n ss
kept_twice n ss xs ys l =
    let one : take n (take n ss ++ xs) ≡ take n ss = take_at (take n ss) xs n (length-take-le n ss l) in
    ap (λ (z : List Span). take n (z ++ ys)) one ∙ take_at (take n ss) ys n (length-take-le n ss l)

pub pairs_go_on : {ord : Order} (d n m : ℕ) (bytes rest after : List ℕ) (at end next : ℕ) (old now new : List ℕ)
    (spans others : List Span) → at ≤ length old → length now ≡ length old
    → PairsSoFar ord d n bytes rest at end old now spans → m ≡ n + 1
    → WritesPair ord d rest after end next now new n spans others
    → PairsSoFar ord d m bytes after at next old new others
pairs_go_on d n m bytes rest after at end next old now new spans others l k s e t =
    let r : end ≡ at + length (joined_pairs s.entries) = adds_reach (joined_pairs s.entries) at end old now l s.wrote in
    record {
      entries = s.entries ++ t.entry ∷ [];
      pairs = s.pairs ++ t.front;
      are = pairs_last d s.pairs t.front s.entries t.entry s.are t.is;
      count = omega (arith, length-append s.entries (t.entry ∷ []), s.count);
      whole = s.whole ∙ ap (λ (z : List ℕ). s.pairs ++ z) t.whole ∙ sym (append_assoc s.pairs t.front after);
      wrote = subst (λ (z : List ℕ). Adds z at next old new) (sym (joined_last s.entries t.entry))
          (adds_both (joined_pairs s.entries) (t.entry.key ++ t.entry.value) at end next old now new s.wrote t.wrote);
      places = ap (λ (j : ℕ). take j others) e ∙ t.put
          ∙ ap (λ (z : List Span). z ++ span_of end t.entry ∷ []) s.places
          ∙ ap (λ (j : ℕ). spans_of at s.entries ++ span_of j t.entry ∷ []) r
          ∙ sym (spans_last at s.entries t.entry);
      held = subst (λ (j : ℕ). j ≤ length others) (sym e) (one_more n spans others _ s.held t.put);
    }

pub pairs_done : {ord : Order} (d n : ℕ) (o : Option ℕ) (bytes rest : List ℕ) (at end : ℕ) (old now : List ℕ)
    (spans : List Span) → PairsSoFar ord d n bytes rest at end old now spans → o ≡ Some n
    → WritesPairs ord d o n bytes rest at end old now spans
pairs_done d n o bytes rest at end old now spans s e = record {
  entries = s.entries;
  turns = record {
    pairs = s.pairs;
    tail = [];
    are = s.are;
    ends = subst (λ (p : Option ℕ). EndsNest p (length s.entries) []) (ap Some s.count ∙ sym e) counted;
    whole = s.whole;
  };
  number = s.count;
  wrote = s.wrote;
  places = s.places;
  held = s.held;
}

pub pairs_closed : {ord : Order} (d n : ℕ) (o : Option ℕ) (bytes rest after : List ℕ) (at end : ℕ)
    (old now : List ℕ) (spans : List Span) → PairsSoFar ord d n bytes rest at end old now spans → o ≡ None
    → rest ≡ 0xff ∷ after → WritesPairs ord d o n bytes after at end old now spans
pairs_closed d n o bytes rest after at end old now spans s e z = record {
  entries = s.entries;
  turns = record {
    pairs = s.pairs;
    tail = 0xff ∷ [];
    are = s.are;
    ends = subst (λ (p : Option ℕ). EndsNest p (length s.entries) (0xff ∷ [])) (sym e) at_break;
    whole = s.whole ∙ ap (λ (y : List ℕ). s.pairs ++ y) z;
  };
  number = s.count;
  wrote = s.wrote;
  places = s.places;
  held = s.held;
}

-- A key and a value that were written one after the other are a pair, if its place is put down.
pub pair_turned : {ord : Order} (d : ℕ) (bytes after rest : List ℕ) (at mid end : ℕ) (old now new : List ℕ)
    (n : ℕ) (before spans others : List Span) → at ≤ length old → length now ≡ length old
    → Extends (Turns (IsRewritten ord d) bytes after) at mid old now
    → Extends (Turns (IsRewritten ord d) after rest) mid end now new
    → take n spans ≡ take n before
    → PutsSpan n (record { start = at; key_end = mid; end = end }) spans others
    → WritesPair ord d bytes rest at end old new n before others
pair_turned d bytes after rest at mid end old now new n before spans others l k f g same p =
    let a : Adds f.is.written at mid old now = record { is = f.is.wrote; from = f.from; within = f.within } in
    let b : Adds g.is.written mid end now new = record { is = g.is.wrote; from = g.from; within = g.within } in
    let i = adds_reach f.is.written at mid old now l a in
    let j = adds_reach g.is.written mid end now new (omega (arith, f.within)) b in
    record {
      front = f.is.front ++ g.is.front;
      entry = record { key = f.is.written; value = g.is.written };
      is = record { key = f.is.front; value = g.is.front; key_is = f.is.is; value_is = g.is.is; whole = refl };
      whole = f.is.whole ∙ ap (λ (z : List ℕ). f.is.front ++ z) g.is.whole
          ∙ sym (append_assoc f.is.front g.is.front rest);
      wrote = adds_both f.is.written g.is.written at mid end old now new a b;
      put = p ∙ ap (λ (z : List Span). z ++ record { start = at; key_end = mid; end = end } ∷ []) same
          ∙ ap (λ (m : ℕ). take n before ++ record { start = at; key_end = m; end = end } ∷ []) i
          ∙ ap (λ (m : ℕ). take n before ++ record { start = at; key_end = at + length f.is.written; end = m } ∷ [])
          (j ∙ ap (λ (m : ℕ). m + length g.is.written) i);
    }
