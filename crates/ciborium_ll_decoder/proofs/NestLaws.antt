-- Opens and breaks in a row, and the first title of a string. The file re-exports the lemmas on titles of one byte.
use Rattle.std.proofs.Common.{Err, [], ◌≡◌, ℕ, suc, ◌+◌, ◌≤◌, ◌⊎◌, List, ◌++◌, length, Option, Some, None}
use Rattle.std.proofs.Common.{Result, Ok, refl, sym, ap, ◌∙◌, inl, inr, arith, append_assoc, append-nil, length-append}
use Rattle.ciborium_ll_io.specs.declared.io.Read.{Ghosts}
use Rattle.ciborium_ll_decoder.specs.declared.dec.Decoder.{Decoder}
use Rattle.ciborium_ll_decoder.specs.declared.dec.Error.{Error}
use Rattle.ciborium_ll_decoder.specs.declared.dec.Error.TheVariants as e
use Rattle.ciborium_ll_decoder.specs.declared.seg.Body.{Body}
use Rattle.ciborium_ll_decoder.specs.declared.seg.Progress.{Progress}
use Rattle.ciborium_ll_decoder.specs.declared.seg.Progress.TheVariants as p
use Rattle.ciborium_ll_grammar.specs.declared.spelling.Spelling.{Spelling}
use Rattle.ciborium_ll_grammar.specs.declared.spelling.Spelling.TheVariants.{Shortest}
use Rattle.ciborium_ll_grammar.specs.Title.{IsTitle, shortest_title, title_len, IsInRange}
use Rattle.ciborium_ll_grammar.specs.Strings.{Kind, kind_header}
use Rattle.ciborium_ll_grammar.proofs.OpenStrings.{IsInsideAt}
use Rattle.ciborium_ll_decoder.specs.Decoding.{Begins, ReadsPast, TakesBack, spelling_of}
use Rattle.ciborium_ll_decoder.specs.Segments.{Nests, in_place, deeper, back, FindsBody, EndsAdvance, AdvancesFrom}
use Rattle.ciborium_ll_grammar.proofs.TitleLaws.{one_title, IsTitle-shortest}
pub use Rattle.ciborium_ll_grammar.proofs.AloneLaws.{alone_bytes, open_alone, open_length, open_in_range, title_some}
use Rattle.ciborium_ll_grammar.proofs.StepLaws.{add_open, close_inner}
use Rattle.ciborium_ll_decoder.proofs.DecodingLaws.{IfSome-at}

-- ---- opens and breaks in a row

-- A row of opens and breaks that leaves no open is empty, and no open was there before.
pub nests_zero : (k : Kind) (opens : ℕ) (nest : List ℕ) (left : ℕ) → Nests k opens nest left → left ≡ 0
    → (nest ≡ []) × (opens ≡ 0)
nests_zero k opens nest left n e = grind arith

-- Each open takes a byte, so `left` is at most `opens` plus the number of bytes.
pub nests_counted : (k : Kind) (opens : ℕ) (nest : List ℕ) (left : ℕ) → Nests k opens nest left → left
    ≤ opens + length nest
nests_counted k opens nest left in_place = grind arith
nests_counted k opens nest left (deeper {bytes = x} {title = t} {left = j} n p) =
    grind (arith, title_some, length-append {A = ℕ}, nests_counted k opens x j n)
nests_counted k opens nest left (back {bytes = x} {title = t} {left = j} n p) =
    grind (arith, length-append {A = ℕ}, nests_counted k opens x (suc (suc j)) n)

-- A row without bytes leaves as many opens as before.
pub nests_none : (k : Kind) (opens : ℕ) (nest : List ℕ) (left : ℕ) → Nests k opens nest left → length nest ≡ 0
    → (nest ≡ []) × (left ≡ opens)
nests_none k opens nest left n e = grind (arith, title_some, length-append {A = ℕ})

-- ---- within a string

-- Opens and breaks in a row that follow bytes inside a string lead on inside that string.
pub nest_inside : (k : Kind) (opens left : ℕ) (u nest : List ℕ) (bs : List (List ℕ)) → IsInsideAt k opens u bs
    → Nests k opens nest left → IsInsideAt k left (u ++ nest) bs
nest_inside k opens left u nest bs i in_place = grind (arith, append-nil {A = ℕ})
nest_inside k opens left u nest bs i (deeper {bytes = x} {title = t} n p) =
    grind (arith, append_assoc {A = ℕ}, add_open, nest_inside k opens _ u x bs i n)
nest_inside k opens left u nest bs i (back {bytes = x} {title = t} n p) =
    grind (arith, append_assoc {A = ℕ}, alone_bytes, close_inner, nest_inside k opens _ u x bs i n)

-- The row begins with an open. After it, one open is not closed.
pub record FirstOpen (k : Kind) (nest : List ℕ) (left : ℕ) : Type 0 where
  pub title : List ℕ
  pub more : List ℕ
  pub is_title : IsTitle title (kind_header k None)
  pub whole : nest ≡ title ++ more
  pub behind : Nests k 1 more left

first_then : (k : Kind) (nest title : List ℕ) (left left' : ℕ) → (first : FirstOpen k nest left)
    → Nests k 1 (first.more ++ title) left' → FirstOpen k (nest ++ title) left'
first_then k nest title left left' first behind = grind arith

pub nest_first : (k : Kind) (nest : List ℕ) (left : ℕ) → Nests k 0 nest left
    → ((nest ≡ []) × (left ≡ 0)) ⊎ FirstOpen k nest left
nest_first k nest left in_place = inl (refl, refl)
nest_first k nest left (deeper {bytes = x} {title = t} {left = j} n p) =
    elim (nest_first k x j n) [
      | inl none ↦ (
          let whole : x ++ t ≡ t ++ [] = rw none.0 (sym (append-nil t)) in
          let behind : Nests k 1 [] (suc j) = rw none.1 in_place in
          search inr
          )
      | inr first ↦ inr (first_then k x t j left first (deeper first.behind p))
    ]
nest_first k nest left (back {bytes = x} {title = t} {left = j} n p) =
    elim (nest_first k x (suc (suc j)) n) [
      | inl none ↦ absurd (omega (arith, none.1))
      | inr first ↦ inr (first_then k x t (suc (suc j)) left first (back first.behind p))
    ]

-- ---- the first title of a string waits

same_length : (k : Kind) (a b : Option ℕ) → kind_header k a ≡ kind_header k b → a ≡ b
same_length k a b e = grind arith

module _ {R E : Type 0} (source : Ghosts R E) (k : Kind) where
  -- If the first title is a waiting header of the kind, and `advance` ends with it, the header is that of a body.
  waiting_found : (allowed : Spelling) (len : Option ℕ) (old new : Decoder R) (result : Result (Option Body) (Error E))
      (progress : Progress) → old.waiting ≡ Some (kind_header k len)
      → EndsAdvance source k allowed 0 old result progress new → (body : Body) × (result ≡ Ok (Some body))
      × (len ≡ Some body.length) × FindsBody source k 0 old body progress new
  waiting_found allowed len old new (Ok (Some body)) progress waits ends =
      (body, refl, same_length k len (Some body.length) (rw waits at ends.pulled.waited).0, ends)
  waiting_found allowed len old new (Ok None) progress waits ends = absurd (let f = ends.last in cc)
  waiting_found allowed len old new (Err (e.Io fault)) progress waits ends = absurd cc
  waiting_found allowed len old new (Err (e.Syntax place)) progress waits ends = grind (arith, same_length)
  waiting_found allowed len old new (Err e.TooLong) progress waits ends = grind arith
  waiting_found allowed len old new (Err e.Waiting) progress waits ends = absurd ends

  -- `advance` over a waiting header of the kind finds a body, or passes over the open that the header is.
  waiting_first : (allowed : Spelling) (len : Option ℕ) (old new : Decoder R) (result : Result (Option Body) (Error E))
      (progress : Progress) → IsInRange (kind_header k len) → old.waiting ≡ Some (kind_header k len)
      → (all : AdvancesFrom source k allowed 0 old result progress new)
      → ((body : Body) × (result ≡ Ok (Some body)) × (len ≡ Some body.length)
      × FindsBody source k 0 old body progress new)
      ⊎ ((len ≡ None) × (first : FirstOpen k all.nest all.left) × (first.title ≡ shortest_title (kind_header k len)))
  waiting_first allowed len old new result progress range waits all =
      let title = shortest_title (kind_header k len) in
      let is_title = IsTitle-shortest (kind_header k len) range in
      let waited = IfSome-at old.waiting _ (λ h. (all.between ≡ old) ⊎ Begins (shortest_title h) all.nest) waits
      all.passed.waited in
      elim (nest_first k all.nest all.left all.nests) [
        | inl none ↦ elim waited [
          | inl same ↦ inl (waiting_found allowed len old new result progress waits (rw (same, none.1) at all.ends))
          | inr begins ↦ absurd (let e = ap length (sym none.0 ∙ begins.1) in
              omega (arith, e, title_some title _ is_title, length-append {A = ℕ}))
        ]
        | inr first ↦ elim waited [
          | inl same ↦ absurd (let moved = ap (λ d. d.offset) same in let e = ap length first.whole in
              omega (arith, moved, e, title_some first.title _ first.is_title, length-append {A = ℕ}))
          | inr begins ↦ (
              let one = one_title first.title title first.more begins.0 _ _ first.is_title is_title
              (sym first.whole ∙ begins.1) in
              inr (sym (same_length k None len one.1), first, one.0)
              )
        ]
      ]

  -- The effect of `advance` over the waiting header of a string of a definite length.
  pub record FindsOnly (len : ℕ) (pulled : Decoder R) (result : Result (Option Body) (Error E))
      (progress : Progress) (new : Decoder R) : Type 0 where
    pub body : Body
    pub found : result ≡ Ok (Some body)
    pub length-is : body.length ≡ len
    pub place : body.place + title_len (kind_header k (Some len)) ≡ pulled.offset
    pub reader : new.reader ≡ pulled.reader
    pub offset : new.offset ≡ pulled.offset
    pub none_waits : new.waiting ≡ None
    pub mode : spelling_of new ≡ spelling_of pulled
    pub ended : progress ≡ p.Ended

  only_found : (len : ℕ) (pulled pushed new : Decoder R) (body : Body) (progress : Progress)
      → TakesBack source pulled (kind_header k (Some len)) pushed → Some len ≡ Some body.length
      → FindsBody source k 0 pushed body progress new → FindsOnly len pulled (Ok (Some body)) progress new
  only_found len pulled pushed new body progress taken lengths found = grind arith

  pub advance_definite : (allowed : Spelling) (len : ℕ) (pulled pushed new : Decoder R)
      (result : Result (Option Body) (Error E)) (progress : Progress) → IsInRange (kind_header k (Some len))
      → TakesBack source pulled (kind_header k (Some len)) pushed
      → AdvancesFrom source k allowed 0 pushed result progress new → FindsOnly len pulled result progress new
  advance_definite allowed len pulled pushed new result progress range taken all =
      elim (waiting_first allowed (Some len) pushed new result progress range taken.waits all) [
        | inl only ↦ rw only.1 (only_found len pulled pushed new only.0 progress taken only.2 only.3)
        | inr first ↦ absurd (let none = first.0 in cc)
      ]

  -- If the waiting open and then more bytes passed, these bytes passed from the decoder before the push.
  passes_behind : (pulled pushed between : Decoder R) (more : List ℕ) → pulled.waiting ≡ None
      → TakesBack source pulled (kind_header k None) pushed
      → ReadsPast source pushed (shortest_title (kind_header k None) ++ more) between → ReadsPast source pulled more between
  passes_behind pulled pushed between more h4 taken passed = grind arith

  -- `advance` over a waiting open is `advance` inside one open, from the decoder before the push.
  pub advance_opened : (allowed : Spelling) (pulled pushed new : Decoder R) (result : Result (Option Body) (Error E))
      (progress : Progress) → pulled.waiting ≡ None
      → TakesBack source pulled (kind_header k None) pushed → AdvancesFrom source k allowed 0 pushed result progress new
      → AdvancesFrom source k allowed 1 pulled result progress new
  advance_opened allowed pulled pushed new result progress none taken all =
      elim (waiting_first allowed None pushed new result progress (open_in_range k) taken.waits all) [
        | inl only ↦ absurd (let some = only.2 in cc)
        | inr opened ↦ (
            let first = opened.1 in
            let whole : all.nest ≡ shortest_title (kind_header k None) ++ first.more =
            first.whole ∙ ap (λ (z : List ℕ). z ++ first.more) opened.2 in
            let passed = passes_behind pulled pushed all.between first.more none taken (rw whole at all.passed) in
            let shallow : allowed ≡ Shortest → 1 + length first.more ≤ 1 = grind (arith, open_length) in
            search
            )
      ]
