-- A run over whole items.
use Rattle.std.proofs.Common.{◌≡◌, ℕ, suc, ◌+◌, ◌-◌, ◌*◌, ◌<◌, true, List, [], ◌∷◌, ◌++◌, Some, None, refl, sym}
use Rattle.std.proofs.Common.{subst, ◌∙◌, arith, append_assoc}
use Rattle.std.proofs.lemmas.Bool.Decides.{nat_tests}
use Rattle.ciborium_ll_grammar.specs.declared.spelling.Spelling.{Spelling}
use Rattle.ciborium_ll_grammar.specs.declared.hdr.Header.{Header}
use Rattle.ciborium_ll_grammar.specs.declared.hdr.Header.TheVariants as h
use Rattle.ciborium_ll_grammar.specs.Title.{title_len}
use Rattle.ciborium_ll_grammar.specs.Strings.{Kind, Bytes, Text, AreStrings}
use Rattle.ciborium_ll_grammar.specs.Elements.{AreWritable}
use Rattle.ciborium_ll_grammar.specs.Items.{AreTakenStrings, Completes, positive, negative, float, simple, byte_string}
use Rattle.ciborium_ll_grammar.specs.Items.{text_string, open_bytes, open_text, tag, array, pairs, open_array}
use Rattle.ciborium_ll_grammar.specs.Items.{open_pairs, AreItems, no_items, more_items}
use Rattle.ciborium_ll_grammar.proofs.ElementLaws.{bytes_writable}
use Rattle.ciborium_ll_grammar.proofs.StringLaws.{break_title}
use Rattle.ciborium_ll_text.proofs.StateLaws.{text_ends}
use Rattle.cbor_checker.specs.declared.phase.Fault.{Fault}
use Rattle.cbor_parser.specs.declared.strings.StringKind.TheVariants as sk
use Rattle.cbor_parser.specs.declared.strings.Within.{Within}
use Rattle.cbor_parser.specs.declared.strings.Within.TheVariants as w
use Rattle.ciborium_ll_grammar.specs.Remaining.{contents, next}
use Rattle.cbor_checker.specs.Spots.{broken, settled, item_entered, bytes_due, text_due}
use Rattle.cbor_skip.specs.Due.{IsNest, TakesMore, may_close}
use Rattle.ciborium_ll_grammar.specs.declared.remaining.Remaining.{Remaining}
use Rattle.cbor_checker_laws.proofs.Levels.{reached, reached_first, reached_next, reached_closes, takes_nest}
use Rattle.cbor_checker_laws.proofs.Runs.{On, on_to, at, behind, settled_with}
use Rattle.cbor_checker_laws.proofs.TitleRuns.{taken_on}
use Rattle.cbor_checker_laws.proofs.StringRuns.{bytes_on, text_on, Inside, break_taken, strings_taken_on}

-- The title of a nest leads into the nest.
nest_entered : (x : Header) (s : Spelling) (d : ℕ) (gs : List Remaining) (a n : ℕ) → IsNest x
    → item_entered x (at s w.Nothing (suc d) gs a n) ≡ settled d (contents x ∷ gs) (at s w.Nothing (suc d) gs a n)
nest_entered x s d gs a n nest = grind (arith, nat_tests)

module _ (fault : Fault) (all : ℕ) (s : Spelling) where
  -- The run is after an item or the title of a nest.
  abbrev pub Behind : ℕ → List Remaining → List ℕ → Type 0
  Behind d gs due = On fault all (behind s d gs) due

  on_behind : (i : Within) (c d : ℕ) (fs gs : List Remaining) {due : List ℕ}
      → On fault all (λ a n. settled d gs (at s i c fs a n)) due → Behind d gs due
  on_behind i c d fs gs o = on_to (behind s d gs) (settled_with gs d s i c fs) o

  -- The run leads over a break that ends the outermost string.
  string_closed_on : (k : Kind) (d : ℕ) (gs : List Remaining) (rest : List ℕ) → Inside fault all s d gs k 0 (0xff ∷ rest)
      → Behind d gs rest
  string_closed_on Bytes d gs rest o =
      on_behind (w.Open sk.Bytes 0) d d gs gs (taken_on h.Break (0xff ∷ []) rest break_title (break_taken s) o)
  string_closed_on Text d gs rest o =
      on_behind (w.Open sk.Text 0) d d gs gs (taken_on h.Break (0xff ∷ []) rest break_title (break_taken s) o)

  open_completes : (k : Kind) (d : ℕ) (gs : List Remaining) (u rest : List ℕ) (bs : List (List ℕ)) → AreStrings k u bs
      → AreTakenStrings s k u bs → AreWritable k bs → Inside fault all s d gs k 0 ((u ++ 0xff ∷ []) ++ rest)
      → Behind d gs rest
  open_completes k d gs u rest bs are taken sound o =
      string_closed_on k d gs rest
      (strings_taken_on fault all s d gs k u bs 0 (0xff ∷ rest) are taken sound (rw append_assoc at o))

  -- ---- a nest

  -- The run is after the title of the nest.
  pub nest_begun : (x : Header) (c : ℕ) (gs : List Remaining) (due : List ℕ) → IsNest x
      → On fault all (λ a n. item_entered x (at s w.Nothing (suc c) gs a n)) due → Behind c (reached x 0 ∷ gs) due
  nest_begun x c gs due nest o =
      rw (reached_first x) (on_behind w.Nothing (suc c) c gs (contents x ∷ gs)
      (on_to _ (λ a n. nest_entered x s c gs a n nest) o))

  -- If the nest takes one more item, this item is due.
  pub nest_due : (x : Header) (m d : ℕ) (gs : List Remaining) (due : List ℕ) → TakesMore x m
      → Behind d (reached x m ∷ gs) due → On fault all (at s w.Nothing d (reached x (suc m) ∷ gs)) due
  nest_due x m d gs due takes o = on_to _ (λ a n. rw (reached_next x m takes, settled) refl) o

  -- The run leads over a break that ends the nest.
  nest_closed_on : (x : Header) (m c : ℕ) (gs : List Remaining) (rest : List ℕ) → TakesMore x m → may_close x m ≡ true
      → Behind c (reached x m ∷ gs) (0xff ∷ rest) → Behind (suc c) gs rest
  nest_closed_on x m c gs rest takes may o =
      on_behind w.Nothing c (suc c) (reached x (suc m) ∷ gs) gs
      (on_to _ (λ a n. rw (reached_closes x m takes ∙ may, broken) refl)
      (taken_on h.Break (0xff ∷ []) rest break_title (break_taken s) (nest_due x m c gs (0xff ∷ rest) takes o)))

  -- `whole_nest` leads the run over a nest of `count` items, and `open_nest` over a nest that a break ends.
  whole_nest : (x : Header) (count c : ℕ) (u : List ℕ) (gs : List Remaining) (rest : List ℕ) → next (reached x count) ≡ None
      → IsNest x → (Behind c (reached x 0 ∷ gs) (u ++ rest) → Behind c (reached x count ∷ gs) rest)
      → On fault all (λ a n. item_entered x (at s w.Nothing (suc c) gs a n)) (u ++ rest) → Behind (suc c) gs rest
  whole_nest x count c u gs rest last nest over o =
      on_to _ (λ a n. rw (last, settled) refl) (over (nest_begun x c gs (u ++ rest) nest o))

  open_nest : (x : Header) (count c : ℕ) (u : List ℕ) (gs : List Remaining) (rest : List ℕ) → may_close x count ≡ true
      → TakesMore x count
      → (Behind c (reached x 0 ∷ gs) (u ++ 0xff ∷ rest) → Behind c (reached x count ∷ gs) (0xff ∷ rest))
      → On fault all (λ a n. item_entered x (at s w.Nothing (suc c) gs a n)) ((u ++ 0xff ∷ []) ++ rest)
      → Behind (suc c) gs rest
  open_nest x count c u gs rest may takes over o =
      nest_closed_on x count c gs rest takes may
      (over (nest_begun x c gs (u ++ 0xff ∷ rest) (takes_nest x count takes) (rw append_assoc at o)))

  mutual
    -- The run leads over the bytes that complete an item after its title.
    pub completes_on : {c : ℕ} {x : Header} {r : List ℕ} → Completes s c x r → (gs : List Remaining) (rest : List ℕ)
        → On fault all (λ a n. item_entered x (at s w.Nothing c gs a n)) (r ++ rest) → Behind c gs rest
    completes_on {c} positive gs rest o = on_behind w.Nothing c c gs gs o
    completes_on {c} negative gs rest o = on_behind w.Nothing c c gs gs o
    completes_on {c} float gs rest o = on_behind w.Nothing c c gs gs o
    completes_on {c} simple gs rest o = on_behind w.Nothing c c gs gs o
    completes_on {c} {r = r} (byte_string {len = len} long) gs rest o =
        on_behind w.Nothing c c gs gs (bytes_on s w.Nothing c gs r rest
        (subst (λ (z : ℕ). On fault all (λ a n. bytes_due z (at s w.Nothing c gs a n)) (r ++ rest)) (sym long) o))
    completes_on {c} {r = r} (text_string {len = len} long sound) gs rest o =
        let k = title_len (h.Text (Some len)) in
        let placed : On fault all (λ a n. text_due len (at s w.Nothing c gs a n)) (r ++ rest) =
        record { place = o.offset - k; offset = o.offset; counts = o.counts; runs = o.runs } in
        on_behind w.Nothing c c gs gs (text_on s w.Nothing c gs r rest (text_ends r sound)
        (subst (λ (z : ℕ). On fault all (λ a n. text_due z (at s w.Nothing c gs a n)) (r ++ rest)) (sym long) placed))
    completes_on {c} (open_bytes {strings = u} {bodies = bs} are taken) gs rest o =
        open_completes Bytes c gs u rest bs are taken (bytes_writable bs) o
    completes_on {c} (open_text {strings = u} {bodies = bs} are taken sound) gs rest o =
        open_completes Text c gs u rest bs are taken sound o
    completes_on (tag {depth = c} {number = number} {item = u} i) gs rest o =
        whole_nest (h.Tag number) 1 c u gs rest refl tt
        (λ b. items_on i (h.Tag number) 0 1 gs rest (omega arith) (λ k less. less) b) o
    completes_on (array {depth = c} {count = m} {items = u} i) gs rest o =
        whole_nest (h.Array (Some m)) m c u gs rest (grind (arith, nat_tests)) tt
        (λ b. items_on i (h.Array (Some m)) 0 m gs rest (omega arith) (λ k less. less) b) o
    completes_on (pairs {depth = c} {count = m} {items = u} i) gs rest o =
        whole_nest (h.Map (Some m)) (2 * m) c u gs rest (grind (arith, nat_tests)) tt
        (λ b. items_on i (h.Map (Some m)) 0 (2 * m) gs rest (omega arith) (λ k less. less) b) o
    completes_on (open_array {depth = c} {count = m} {items = u} i) gs rest o =
        open_nest (h.Array None) m c u gs rest refl tt
        (λ b. items_on i (h.Array None) 0 m gs (0xff ∷ rest) (omega arith) (λ k less. tt) b) o
    completes_on (open_pairs {depth = c} {items = u} m i) gs rest o =
        open_nest (h.Map None) (2 * m) c u gs rest (grind (arith, nat_tests)) tt
        (λ b. items_on i (h.Map None) 0 (2 * m) gs (0xff ∷ rest) (omega arith) (λ k less. tt) b) o

    -- The run leads over `k` items in a nest.
    pub items_on : {d k : ℕ} {u : List ℕ} → AreItems s d k u
        → (x : Header) (m end : ℕ) (gs : List Remaining) (rest : List ℕ) → m + k ≡ end → ((i : ℕ) → i < end → TakesMore x i)
        → Behind d (reached x m ∷ gs) (u ++ rest) → Behind d (reached x end ∷ gs) rest
    items_on {d} no_items x m end gs rest e takes o =
        let same : m ≡ end = omega (arith, e) in
        subst (λ (z : ℕ). Behind d (reached x z ∷ gs) rest) same o
    items_on {d} (more_items {title = t} {rest = r} {others = v} {header = y} q taken completes others) x m end gs rest
        e takes o =
        let here = nest_due x m d gs (t ++ (r ++ (v ++ rest))) (takes m (omega (arith, e))) (simp append_assoc at o) in
        items_on others x (suc m) end gs rest (omega (arith, e)) takes
        (completes_on completes (reached x (suc m) ∷ gs) (v ++ rest) (taken_on y t (r ++ (v ++ rest)) q taken here))
