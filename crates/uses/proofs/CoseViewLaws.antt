-- Laws of a signed message that is seen as a tree.
use Rattle.std.proofs.Common.{◌≡◌, ℕ, suc, List, [], ◌∷◌, ◌++◌, Option, Some, None}
use Rattle.std.proofs.Common.{refl, sym, ◌∙◌, ap, subst, arith, append-nil}
use Rattle.ciborium_ll.specs.Types.Header.{Header}
use Rattle.ciborium_ll.specs.Types.Header.TheVariants as h
use Rattle.ciborium_ll.specs.Items.{IsItem}
use Rattle.ciborium_ll_grammar.specs.declared.spelling.Spelling.TheVariants.{Any}
use Rattle.ciborium_ll_grammar.proofs.ItemLaws.{one_item}
use Rattle.ciborium_ll_grammar.proofs.TitleLaws.{one_title}
use Rattle.cbor_view.specs.declared.item.Item.{Item}
use Rattle.cbor_view.specs.declared.nests.Elements.{Elements}
use Rattle.cbor_view.specs.Held.{elements_bytes, elements_depth, elements_due, item_bytes}
use Rattle.cbor_view.specs.Nexts.{CountsDown, TakesItem}
use Rattle.ciborium_ll_grammar.specs.Title.{HasFirstTitle}
use Rattle.cbor_view.specs.Views.{HasItems, IsOpenedBy, Opens, closed}
use Rattle.cbor_view.proofs.NestLaws.{items_due}
use Rattle.uses.specs.declared.cose_view.Message.{Message}
use Rattle.uses.specs.declared.cose_view.TheConstants.{MESSAGE_DEPTH}
use Rattle.uses.specs.CoseView.{BeginsMessage, BeginsToDepth, IsFour, IsNoSign1, IsSign1}

-- ---- four items

-- A tagged item has one item after its tag.
pub one_split : (bytes inner other : List ℕ) (header : Header) → HasFirstTitle bytes header inner
    → HasFirstTitle bytes header other → inner ≡ other
one_split bytes inner other header a b =
    (one_title a.title b.title inner other header header a.is_title b.is_title (sym a.whole ∙ b.whole)).2

-- An array has one sequence of four items.
pub one_four : (bytes a b c d a' b' c' d' : List ℕ) → IsFour bytes a b c d → IsFour bytes a' b' c' d'
    → (a ≡ a') × (b ≡ b') × (c ≡ c') × (d ≡ d')
one_four bytes a b c d a' b' c' d' f g =
    let opened = one_title f.title g.title (a ++ (b ++ (c ++ d))) (a' ++ (b' ++ (c' ++ d'))) (h.Array (Some 4))
    (h.Array (Some 4)) f.is_title g.is_title (sym f.whole ∙ g.whole) in
    let first = one_item Any Any f.levels g.levels a a' (b ++ (c ++ d)) (b' ++ (c' ++ d')) f.is_first g.is_first
    opened.2 in
    let second = one_item Any Any f.levels g.levels b b' (c ++ d) (c' ++ d') f.is_second g.is_second first.1 in
    let third = one_item Any Any f.levels g.levels c c' d d' f.is_third g.is_third second.1 in
    (first.0, second.0, third.0, third.1)

-- An array of another length is no array of four.
pub no_four : (bytes contents a b c d : List ℕ) (due : Option ℕ) (depth : ℕ)
    → Opens depth bytes (h.Array due) contents → (due ≡ Some 4 → ⊥) → IsFour bytes a b c d → ⊥
no_four bytes contents a b c d due depth opens other four =
    let one = one_title opens.title four.title contents (a ++ (b ++ (c ++ d))) (h.Array due) (h.Array (Some 4))
    opens.is_title four.is_title (sym opens.whole ∙ four.whole) in
    other (same_count due (Some 4) one.1)
  where
    same_count : (count other : Option ℕ) → h.Array count ≡ h.Array other → count ≡ other
    same_count count other z = cc

-- What is no array is no array of four.
pub no_array : (bytes a b c d : List ℕ) → ((count : Option ℕ) → IsOpenedBy bytes (h.Array count) → ⊥)
    → IsFour bytes a b c d → ⊥
no_array bytes a b c d none four =
    none (Some 4) (record {
      title = four.title;
      contents = a ++ (b ++ (c ++ d));
      is_title = four.is_title;
      whole = four.whole;
    })

-- After one item of some, there is one less.
pub one_fewer : (due left : Option ℕ) (count : ℕ) → due ≡ Some (suc count) → CountsDown due left → left ≡ Some count
one_fewer None left count z counts = absurd cc
one_fewer (Some n) None count z counts = absurd counts
one_fewer (Some n) (Some m) count z counts =
    let same : n ≡ suc count = cc in
    ap (λ (k : ℕ). Some k) (omega (arith, same, counts))

no_bytes : (depth : ℕ) (bytes : List ℕ) → ∥ HasItems depth (Some 0) bytes ∥₁ → bytes ≡ []
no_bytes depth [] are = refl
no_bytes depth (byte ∷ bytes) are =
    absurd (omega (arith, items_due depth (Some 0) (byte ∷ bytes) are (omega arith)))

none_left : (left : Elements) → elements_due left ≡ Some 0 → elements_bytes left ≡ []
none_left left none =
    no_bytes left.depth left.rest.now
    (subst (λ (due : Option ℕ). ∥ HasItems left.depth due left.rest.now ∥₁) none left.are)

-- The items of an array of four were taken, one by one.
pub four_taken : (depth : ℕ) (bytes : List ℕ) (old one two three last : Elements) (a b c d : Item)
    → Opens depth bytes (h.Array (elements_due old)) (closed (elements_due old) (elements_bytes old))
    → elements_due old ≡ Some 4 → TakesItem old a one → TakesItem one b two → TakesItem two c three
    → TakesItem three d last → IsFour bytes (item_bytes a) (item_bytes b) (item_bytes c) (item_bytes d)
four_taken depth bytes old one two three last a b c d opens due first second third fourth =
    let due1 = one_fewer (elements_due old) (elements_due one) 3 due first.counted in
    let due2 = one_fewer (elements_due one) (elements_due two) 2 due1 second.counted in
    let due3 = one_fewer (elements_due two) (elements_due three) 1 due2 third.counted in
    let due4 = one_fewer (elements_due three) (elements_due last) 0 due3 fourth.counted in
    let none = none_left last due4 in
    let known = subst (λ (n : Option ℕ). Opens depth bytes (h.Array n) (closed n (elements_bytes old))) due opens in
    let same2 = second.same_levels ∙ first.same_levels in
    let same3 = third.same_levels ∙ same2 in
    let end : elements_bytes three ≡ item_bytes d =
    fourth.whole ∙ ap (λ (u : List ℕ). item_bytes d ++ u) none ∙ append-nil (item_bytes d) in
    let whole : elements_bytes old ≡ item_bytes a ++ (item_bytes b ++ (item_bytes c ++ item_bytes d)) =
    first.whole ∙ ap (λ (u : List ℕ). item_bytes a ++ u)
    (second.whole ∙ ap (λ (u : List ℕ). item_bytes b ++ u)
    (third.whole ∙ ap (λ (u : List ℕ). item_bytes c ++ u) end)) in
    record {
      title = known.title;
      is_title = known.is_title;
      whole = known.whole ∙ ap (λ (u : List ℕ). known.title ++ u) whole;
      levels = elements_depth old;
      is_first = first.is_item;
      is_second = subst (λ (n : ℕ). IsItem Any n (item_bytes b)) first.same_levels second.is_item;
      is_third = subst (λ (n : ℕ). IsItem Any n (item_bytes c)) same2 third.is_item;
      is_fourth = subst (λ (n : ℕ). IsItem Any n (item_bytes d)) same3 fourth.is_item;
    }

-- ---- a tag

-- An item with another tag has no tag 18.
pub tag_other : (depth : ℕ) (bytes inner : List ℕ) (number : ℕ) → Opens depth bytes (h.Tag number) inner
    → (number ≡ 18 → ⊥) → (other : List ℕ) → HasFirstTitle bytes (h.Tag 18) other → ⊥
tag_other depth bytes inner number opens differs other split =
    let one = one_title opens.title split.title inner other (h.Tag number) (h.Tag 18) opens.is_title split.is_title
    (sym opens.whole ∙ split.whole) in
    differs (same_tag number 18 one.1)
  where
    same_tag : (n m : ℕ) → h.Tag n ≡ h.Tag m → n ≡ m
    same_tag n m z = cc

-- An item that is no tag has no tag 18.
pub no_tag : (bytes : List ℕ) → ((number : ℕ) → IsOpenedBy bytes (h.Tag number) → ⊥) → (inner : List ℕ)
    → HasFirstTitle bytes (h.Tag 18) inner → ⊥
no_tag bytes none inner split =
    none 18 (record { title = split.title; contents = inner; is_title = split.is_title; whole = split.whole })

-- ---- a message

-- A message has one sequence of four items.
pub message_items : (item inner a b c d : List ℕ) → HasFirstTitle item (h.Tag 18) inner → IsFour inner a b c d
    → (protected unprotected signature : List ℕ) (payload : Option (List ℕ))
    → (is : IsSign1 item protected unprotected signature payload)
    → (is.first ≡ a) × (unprotected ≡ b) × (is.third ≡ c) × (is.fourth ≡ d)
message_items item inner a b c d tagged four protected unprotected signature payload is =
    let same = one_split item is.inner inner (h.Tag 18) is.is_tagged tagged in
    one_four inner is.first unprotected is.third is.fourth a b c d
    (subst (λ (u : List ℕ). IsFour u is.first unprotected is.third is.fourth) same is.is_four) four

-- If the item that begins the bytes is no message, the bytes begin with none.
pub no_message : (bytes : List ℕ) → BeginsToDepth IsNoSign1 bytes → (message : Message) × BeginsMessage bytes message
    → ⊥
no_message bytes a found =
    let b = found.1 in
    let one = one_item Any Any MESSAGE_DEPTH MESSAGE_DEPTH a.item b.item a.rest b.rest a.is_item b.is_item
    (sym a.is ∙ b.is) in
    (subst (λ (u : List ℕ). IsNoSign1 u) one.0 a.has) _ _ _ _ b.has
