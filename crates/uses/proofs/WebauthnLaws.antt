-- Laws of the value of a text key in a map, and of its offset.
use Rattle.std.proofs.Common.{◌≡◌, ℕ, ◌+◌, ◌-◌, ◌≤◌, List, [], ◌++◌, length, Option, Err}
use Rattle.std.proofs.Common.{IsOk, sym, ◌∙◌, ap, subst, arith, length-append}
use Rattle.std.specs.Prelude.{◌↔◌}
use Rattle.ciborium_ll_grammar.specs.declared.spelling.Spelling.TheVariants.{Any}
use Rattle.ciborium_ll.specs.Types.Header.{Header}
use Rattle.ciborium_ll.specs.Types.Header.TheVariants as h
use Rattle.ciborium_ll.specs.Items.{IsItem}
use Rattle.ciborium_ll.proofs.ItemJoins.{item_some, two_items}
use Rattle.ciborium_ll.proofs.ItemLaws.{one_item}
use Rattle.cbor_view.specs.Views.{IsOpenedBy, IsTextOf, Opens, closed}
use Rattle.cbor_view.proofs.NestLaws.{closed_longer, one_map}
use Rattle.cbor_view.proofs.OpenLaws.{one_opening}
use Rattle.uses.specs.declared.cose.Span.{Span}
use Rattle.uses.specs.declared.webauthn.Attestation.{Attestation}
use Rattle.uses.specs.declared.webauthn.AttestationError.{AttestationError}
use Rattle.uses.specs.declared.webauthn.TheConstants.{ATTESTATION_DEPTH}
use Rattle.uses.specs.Webauthn.{BeginsAttestation, BeginsWith, HasPart, HasValueAt, IsAttestation, IsFirstAt, here}
use Rattle.uses.specs.Webauthn.{later}

-- ---- pairs one by one

module _ (e : ℕ) (key : List ℕ) where
  -- If the first key is another, the value is that of a later key.
  value_back : (w other value last : List ℕ) (place : ℕ) (found : List ℕ) → IsItem Any e other
      → IsItem Any e value → w ≡ other ++ (value ++ last) → (IsTextOf other key → ⊥)
      → IsFirstAt e key w place found → (at : ℕ) × IsFirstAt e key last at found
  value_back w other value last place found i j z n (here others p q m) =
      absurd (n (rw (two_items _ _ _ _ _ _ _ _ _ _ p q i j z).0 at m))
  value_back w other value last place found i j z n (later p q k f) =
      (_, rw (two_items _ _ _ _ _ _ _ _ _ _ p q i j z).2 at f)

  -- No pairs have no key.
  no_first : (w : List ℕ) (place : ℕ) (found : List ℕ) → IsFirstAt e key w place found → w ≡ [] → ⊥
  no_first w place found f z = grind (arith, item_some, length-append {A = ℕ})

  -- Pairs have one first value, at one place.
  one_first : (w w' : List ℕ) (p p' : ℕ) (v v' : List ℕ) → w ≡ w' → IsFirstAt e key w p v
      → IsFirstAt e key w' p' v' → (p ≡ p') × (v ≡ v')
  one_first w w' p p' v v' z (here o i j m) (here o' i' j' m') =
      let two = two_items _ _ _ _ _ _ _ _ _ _ i j i' j' z in (ap length two.0, two.1)
  one_first w w' p p' v v' z (here o i j m) (later i' j' n f) =
      absurd (n (rw (two_items _ _ _ _ _ _ _ _ _ _ i j i' j' z).0 at m))
  one_first w w' p p' v v' z (later i j n f) (here o' i' j' m) =
      absurd (n (rw (← (two_items _ _ _ _ _ _ _ _ _ _ i j i' j' z).0) at m))
  one_first w w' p p' v v' z (later i j n f) (later i' j' n' f') =
      let two = two_items _ _ _ _ _ _ _ _ _ _ i j i' j' z in
      let more = one_first _ _ _ _ v v' two.2 f f' in
      (omega (arith, ap length two.0, ap length two.1, more.0), more.1)

-- ---- a map

module _ (d : ℕ) (key bytes : List ℕ) where
  -- A map has one first value of a key, at one place.
  one_value : (p p' : ℕ) (v v' : List ℕ) → HasValueAt d key bytes p v → HasValueAt d key bytes p' v'
      → (p ≡ p') × (v ≡ v')
  one_value p p' v v' a b =
      let one = one_map a.title b.title a.pairs b.pairs a.count b.count a.is_title b.is_title (sym a.whole ∙ b.whole) in
      let first = one_first (d - 1) key a.pairs b.pairs a.at b.at v v' one.2 a.first b.first in
      (omega (arith, a.is, b.is, ap length one.0, first.0), first.1)

  -- An item that is no map has no value of a key.
  pub no_map : ((count : Option ℕ) → IsOpenedBy bytes (h.Map count) → ⊥) → (p : ℕ) (v : List ℕ)
      → HasValueAt d key bytes p v → ⊥
  no_map none p v has = none has.count (record {
    title = has.title;
    contents = closed has.count has.pairs;
    is_title = has.is_title;
    whole = has.whole;
  })

  -- These pairs of the map are left, from this offset on, and a first value of the map is one of theirs.
  pub record LeftAt (place e : ℕ) (rest : List ℕ) : Type 0 where
    pub levels : d ≡ e + 1
    pub room : place + length rest ≤ length bytes
    pub there : (p : ℕ) (v : List ℕ) → IsFirstAt e key rest p v → HasValueAt d key bytes (place + p) v
    pub back : (p : ℕ) (v : List ℕ) → HasValueAt d key bytes p v → (q : ℕ) × IsFirstAt e key rest q v

  -- After the title of a map all pairs are left.
  pub left_all : (e : ℕ) (due : Option ℕ) (rest contents : List ℕ) (header : Header)
      → Opens d bytes (h.Map due) (closed due rest) → d ≡ e + 1 → Opens d bytes header contents
      → LeftAt (length bytes - length contents) e rest
  left_all e due rest contents header pairs levels split =
      let less : d - 1 ≡ e = omega (arith, levels) in
      let same : length contents ≡ length (closed due rest) = ap length (one_opening d bytes _ _ _ _ split pairs).1 in
      let sizes : length bytes ≡ length pairs.title + length (closed due rest) =
      ap length pairs.whole ∙ length-append pairs.title (closed due rest) in
      record {
        levels = levels;
        room = omega (arith, same, sizes, closed_longer due rest);
        there = λ p v f. record {
          count = due;
          title = pairs.title;
          pairs = rest;
          at = p;
          is_title = pairs.is_title;
          whole = pairs.whole;
          first = rw less f;
          is = omega (arith, same, sizes);
        };
        back = λ p v has.
            let one = one_map has.title pairs.title has.pairs rest has.count due has.is_title pairs.is_title
            (sym has.whole ∙ pairs.whole) in
            (has.at, rw (← one.2) (rw (← less) has.first));
      }

  module _ (place e : ℕ) (w other value last : List ℕ) (left : LeftAt place e w) (i : IsItem Any e other)
      (j : IsItem Any e value) (z : w ≡ other ++ (value ++ last)) where
    -- If the next key is the text, its value is the value of the key.
    pub left_here : IsTextOf other key → HasValueAt d key bytes (place + length other) value
    left_here m = left.there (length other) value (rw z (here last i j m))

    -- If the next key is another, the pairs after it are left.
    pub left_more : (IsTextOf other key → ⊥) → LeftAt (place + length other + length value) e last
    left_more n =
        let sizes : length w ≡ length other + (length value + length last) = ap length z ∙ simp length-append in
        record {
          levels = left.levels;
          room = omega (arith, left.room, sizes);
          there = λ p v f.
              let at : place + (length other + length value + p) ≡ place + length other + length value + p =
              omega arith in
              rw at at (left.there (length other + length value + p) v (rw z (later i j n f)));
          back = λ p v has.
              let found = left.back p v has in value_back e key w other value last found.0 v i j z n found.1;
        }

  -- If no pairs are left, the map has no value of the key.
  pub left_none : (place e : ℕ) (w : List ℕ) → LeftAt place e w → w ≡ [] → (p : ℕ) (v : List ℕ)
      → HasValueAt d key bytes p v → ⊥
  left_none place e w left z p v has = let found = left.back p v has in no_first e key w found.0 v found.1 z

  -- If the value of the key is no such part, the map has no such part.
  pub no_part : (StandsAt : List ℕ → ℕ → Span → Type 0) (p : ℕ) (v : List ℕ) → HasValueAt d key bytes p v
      → ((span : Span) → StandsAt v p span → ⊥) → (span : Span) → HasPart StandsAt d key bytes span → ⊥
  no_part StandsAt p v has none span part =
      let one = one_value part.place p part.value v part.has_value has in
      none span (rw one.1 at (rw one.0 at part.stands))

-- ---- the object

-- The item that begins the bytes has a property.
pub begun : {Has : List ℕ → Type 0} {bytes item : List ℕ} → (rest : List ℕ) × (bytes ≡ item ++ rest)
    → IsItem Any ATTESTATION_DEPTH item → Has item → BeginsWith Has bytes
begun whole is_item has = record { item = _; rest = whole.0; is = whole.1; is_item = is_item; has = has }

-- If the item that begins the bytes is no attestation object, the bytes begin with none.
pub lacks : {Missing : List ℕ → Type 0} {bytes : List ℕ} (error : AttestationError)
    → ((item : List ℕ) (parts : Attestation) → IsAttestation parts item → Missing item → ⊥) → BeginsWith Missing bytes
    → IsOk {T = Attestation} {E = AttestationError} (Err error) ↔ ((parts : Attestation) × BeginsAttestation bytes parts)
lacks {Missing} error none a = (
  λ never. absurd cc,
  λ found.
      let b = found.1 in
      let one = one_item _ _ _ _ a.item b.item a.rest b.rest a.is_item b.is_item (sym a.is ∙ b.is) in
      absurd (none b.item found.0 b.has (subst Missing one.0 a.has)),
)
