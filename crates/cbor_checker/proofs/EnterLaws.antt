-- The bytes that are due after a whole title.
use Rattle.std.proofs.Common.{◌≡◌, ℕ, zero, suc, ◌*◌, List, [], ◌∷◌, ◌++◌, Some, None, refl, subst, inl, inr}
use Rattle.std.proofs.Common.{append_assoc, append-nil, arith}
use Rattle.ciborium_ll_grammar.specs.declared.hdr.Header.{Header}
use Rattle.ciborium_ll_grammar.specs.declared.hdr.Header.TheVariants as h
use Rattle.ciborium_ll_grammar.specs.Title.{IsTitle, numbered, alone}
use Rattle.ciborium_ll_grammar.specs.Items.{Completes, positive, negative, float, simple, byte_string, text_string}
use Rattle.ciborium_ll_grammar.specs.Items.{open_bytes, open_text, tag, array, pairs, open_array, open_pairs, AreItems}
use Rattle.ciborium_ll_grammar.specs.Items.{no_items, more_items, IsItem, IsTakenTitle, AreTakenStrings}
use Rattle.ciborium_ll_grammar.specs.Strings.{Kind, Bytes, Text, AreStrings}
use Rattle.ciborium_ll_grammar.specs.Elements.{AreWritable}
use Rattle.ciborium_ll_grammar.proofs.TitleLaws.{one_title}
use Rattle.ciborium_ll_grammar.proofs.StringLaws.{break_title}
use Rattle.ciborium_ll_grammar.proofs.ElementLaws.{bytes_writable}
use Rattle.ciborium_ll_text.proofs.StateLaws.{text_ends, text_from}
use Rattle.ciborium_ll_grammar.specs.declared.remaining.Remaining.{Remaining}
use Rattle.ciborium_ll_grammar.specs.declared.remaining.Remaining.TheVariants as l
use Rattle.cbor_parser.specs.declared.strings.Within.TheVariants as w
use Rattle.cbor_checker.specs.Spots.{Spot, nested, broken, body_placed, item_entered}
use Rattle.cbor_checker.proofs.Waiting.{Takes, Ends, Breaks, ItemDue, Waits, EndsString}
use Rattle.cbor_checker.proofs.LevelLaws.{item_of, settles}
use Rattle.cbor_checker.proofs.StringLaws.{bytes_body, text_body}

ruleset plain_completes = (positive, negative, float, simple)

-- ---- the break has one title

pub break_bytes : (t : List ℕ) (x : Header) → IsTitle t x → x ≡ h.Break → t ≡ 0xff ∷ []
break_bytes t x (numbered m s n p) e = absurd (grind arith)
break_bytes t x (alone m x' o) e = grind arith

module _ (spot : Spot) (clear : spot.front ≡ []) (plain : spot.within ≡ w.Nothing) where
  -- ---- after a title, an item is completed

  abbrev Behind : List ℕ → Type 0
  Behind = Ends spot.allowed spot.depth spot.levels

  nest_on : (d : ℕ) (level : Remaining) (n : ℕ) (items end rest y : List ℕ) → suc d ≡ spot.depth
      → AreItems spot.allowed d n items → Takes level n end → Behind rest → y ≡ items ++ (end ++ rest)
      → Waits (nested spot.depth level spot) y
  nest_on d level n items end rest y same i t k e =
      let behind : Ends spot.allowed (suc d) spot.levels rest = rw same k in
      subst (λ (n : ℕ). Waits (nested n level spot) y) same ((settles (level ∷ spot.levels) d spot y clear).0 (search))

  completes_on : (d : ℕ) (x : Header) (r rest y : List ℕ) → Completes spot.allowed d x r → d ≡ spot.depth → Behind rest
      → y ≡ r ++ rest → Waits (item_entered x spot) y
  completes_on d x r rest y (byte_string {len = n} long) same k e = (bytes_body n spot y clear).0 (rw plain (search))
  completes_on d x r rest y (text_string {len = n} long sound) same k e =
      let ends = text_ends r sound in (text_body n (body_placed n spot) y clear).0 (rw plain (search))
  completes_on d x r rest y (open_bytes {bodies = bs} i g) same k e =
      let sound = bytes_writable bs in let is = rw append_assoc at e in rw clear (search)
  completes_on d x r rest y (open_text i g sound) same k e = let is = rw append_assoc at e in rw clear (search)
  completes_on d x r rest y (tag i) same k e = nest_on _ (l.Items 1) 1 r [] rest y same i (refl, refl) k e
  completes_on d x r rest y (array {count = n} i) same k e =
      nest_on _ (l.Items n) n r [] rest y same i (refl, refl) k e
  completes_on d x r rest y (pairs {count = n} i) same k e =
      nest_on _ (l.Pairs n) (2 * n) r [] rest y same i (refl, refl) k e
  completes_on d x r rest y (open_array {count = n} {items = u} i) same k e =
      nest_on _ l.OpenItems n u _ rest y same i (tt, refl) k (rw append_assoc at e)
  completes_on d x r rest y (open_pairs {items = u} n i) same k e =
      nest_on _ l.OpenPairs (2 * n) u _ rest y same i ((n, refl), refl) k (rw append_assoc at e)
  completes_on d x r rest y c same k e = rw e ((settles spot.levels spot.depth spot rest clear).0 k)

  -- If an item begins with the title `t`, the spot after the title waits for the bytes `y` after `t`.
  item_on : (t y item rest : List ℕ) (x : Header) → IsTitle t x → IsItem spot.allowed spot.depth item → Behind rest
      → t ++ y ≡ item ++ rest → Waits (item_entered x spot) y
  item_on t y item rest x p (more_items {title = t'} {rest = r} {header = x'} p' g c no_items) k e =
      let o = one_title t t' y (r ++ rest) x x' p p' (simp (e, append_assoc, append-nil)) in
      rw o.1 (completes_on spot.depth x' r rest y c refl k o.2)

  -- If a break begins with the title `t`, the spot after the title waits for the bytes `y` after `t`.
  breaks_on : (levels : List Remaining) (t y : List ℕ) (x : Header) → IsTitle t x
      → Breaks spot.allowed spot.depth levels (t ++ y) → levels ≡ spot.levels → Waits (item_entered x spot) y
  breaks_on [] t y x p o same = absurd o
  breaks_on (level ∷ levels) t y x p o same =
      let b = one_title t (0xff ∷ []) y o.rest x h.Break p break_title o.is in
      let may = o.may in
      rw b.1 (subst (λ (z : List Remaining). Waits (broken z spot) y) same
      (rw (may, broken) ((settles levels (suc spot.depth) spot y clear).0 (rw b.2 o.behind))))

  pub enters : (t y : List ℕ) (x : Header) → IsTitle t x → ItemDue spot.allowed spot.depth spot.levels (t ++ y)
      → Waits (item_entered x spot) y
  enters t y x p (inl o) = item_on t y o.item o.rest x p o.is_item o.behind o.is
  enters t y x p (inr o) = breaks_on spot.levels t y x p o refl

  -- ---- and back

  break_back : (levels : List Remaining) (y : List ℕ) → Waits (broken levels spot) y
      → Breaks spot.allowed spot.depth levels (0xff ∷ y)
  break_back (l.OpenItems ∷ levels) y waits =
      let behind = (settles levels (suc spot.depth) spot y clear).1 waits in search
  break_back (l.OpenValue ∷ levels) y waits =
      let behind = (settles levels (suc spot.depth) spot y clear).1 waits in search
  break_back levels y waits = absurd waits

  module _ (t y : List ℕ) (x : Header) (p : IsTitle t x) (g : IsTakenTitle spot.allowed t x) where
    item_back : (r rest : List ℕ) → Completes spot.allowed spot.depth x r → Behind rest → y ≡ r ++ rest
        → ItemDue spot.allowed spot.depth spot.levels (t ++ y)
    item_back r rest c k e =
        let is_item = item_of spot.allowed spot.depth t r x p g c in
        let there : t ++ y ≡ (t ++ r) ++ rest = simp (e, append_assoc) in inl (search)

    -- If the bytes that a nest takes complete the header, the spot after its title waits for a rest of the item.
    nest_back : (depth : ℕ) (level : Remaining) → depth ≡ spot.depth
        → ((d n : ℕ) (items end : List ℕ) → Takes level n end → AreItems spot.allowed d n items
        → Completes spot.allowed (suc d) x (items ++ end))
        → Waits (nested depth level spot) y → ItemDue spot.allowed spot.depth spot.levels (t ++ y)
    nest_back zero level same completes waits = absurd waits
    nest_back (suc d) level same completes waits =
        let o = (settles (level ∷ spot.levels) d spot y clear).1 waits in
        item_back (o.items ++ o.end) o.rest
        (rw same at (completes d o.count o.items o.end o.takes o.are_items)) (rw same at o.behind)
        (rw append_assoc o.is)

    strings_back : (k : Kind) → EndsString spot.allowed k Behind (spot.front ++ y)
        → ((u : List ℕ) (bs : List (List ℕ)) → AreStrings k u bs → AreTakenStrings spot.allowed k u bs → AreWritable k
        bs
        → Completes spot.allowed spot.depth x (u ++ 0xff ∷ []))
        → ItemDue spot.allowed spot.depth spot.levels (t ++ y)
    strings_back k waits completes =
        let o = rw clear at waits in
        item_back (o.strings ++ 0xff ∷ []) o.rest (completes o.strings o.bodies o.are o.taken o.sound) o.behind
        (rw append_assoc o.is)

  pub entered_back : (t y : List ℕ) (x : Header) → IsTitle t x → IsTakenTitle spot.allowed t x
      → Waits (item_entered x spot) y → ItemDue spot.allowed spot.depth spot.levels (t ++ y)
  entered_back t y (h.Bytes (Some n)) p g waits =
      let b = rw plain at ((bytes_body n spot y clear).1 waits) in
      item_back t y _ p g b.body b.rest (byte_string b.long) b.behind b.is
  entered_back t y (h.Text (Some n)) p g waits =
      let b = rw plain at ((text_body n (body_placed n spot) y clear).1 waits) in
      item_back t y _ p g b.body b.rest (text_string b.long (text_from b.body b.sound)) b.behind b.is
  entered_back t y (h.Bytes None) p g waits =
      strings_back t y _ p g Bytes waits (λ u bs are taken sound. open_bytes are taken)
  entered_back t y (h.Text None) p g waits =
      strings_back t y _ p g Text waits (λ u bs are taken sound. open_text are taken sound)
  entered_back t y (h.Tag n) p g waits =
      nest_back t y _ p g spot.depth _ refl (λ d m u end o i. rw (o.1, append-nil) (tag (rw o.0 at i))) waits
  entered_back t y (h.Array None) p g waits =
      nest_back t y _ p g spot.depth _ refl (λ d m u end o i. rw o.1 (open_array i)) waits
  entered_back t y (h.Array (Some n)) p g waits =
      nest_back t y _ p g spot.depth _ refl (λ d m u end o i. rw (o.1, append-nil) (array (rw o.0 at i))) waits
  entered_back t y (h.Map None) p g waits =
      nest_back t y _ p g spot.depth _ refl (λ d m u end o i. rw o.1 (open_pairs o.0.0 (rw o.0.1 at i))) waits
  entered_back t y (h.Map (Some n)) p g waits =
      nest_back t y _ p g spot.depth _ refl (λ d m u end o i. rw (o.1, append-nil) (pairs (rw o.0 at i))) waits
  entered_back t y h.Break p g waits = inr (rw (break_bytes t h.Break p refl) (break_back spot.levels y waits))
  entered_back t y x p g waits =
      item_back t y x p g [] y (search plain_completes) ((settles spot.levels spot.depth spot y clear).1 waits) refl
