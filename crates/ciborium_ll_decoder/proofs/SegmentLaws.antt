-- The segments of a string, read one by one after its open.
use Rattle.std.proofs.Common.{[], ◌≡◌, ℕ, ◌<◌, ◌≤◌, ◌⊎◌, List, ◌∷◌, ◌++◌, length, Option, Some, None}
use Rattle.std.proofs.Common.{Result, Ok, refl, sym, ap, ◌∙◌, inl, inr, arith, append_assoc, append-nil, length-append}
use Rattle.ciborium_ll_io.specs.declared.io.Read.{Ghosts as Reader}
use Rattle.ciborium_ll_decoder.specs.declared.dec.Decoder.{Decoder}
use Rattle.ciborium_ll_decoder.specs.declared.dec.Error.{Error}
use Rattle.ciborium_ll_decoder.specs.declared.seg.Body.{Body}
use Rattle.ciborium_ll_decoder.specs.declared.seg.Progress.{Progress}
use Rattle.ciborium_ll_decoder.specs.declared.seg.Progress.TheVariants as p
use Rattle.ciborium_ll_grammar.specs.declared.spelling.Spelling.{Spelling}
use Rattle.ciborium_ll_grammar.specs.declared.spelling.Spelling.TheVariants.{Shortest}
use Rattle.ciborium_ll_grammar.specs.Title.{shortest_title}
use Rattle.ciborium_ll_grammar.specs.Strings.{Kind, kind_header, definite, none}
use Rattle.ciborium_ll_grammar.proofs.OpenStrings.{IsInsideAt, one_open, more_open}
use Rattle.ciborium_ll_grammar.specs.Elements.{AreWritable, Piece, spelling, pieces}
use Rattle.ciborium_ll_grammar.specs.Faults.{IsRefusedIn}
use Rattle.ciborium_ll_decoder.specs.Decoding.{ReadsPast, IsSteady, TakesBack, spelling_of}
use Rattle.ciborium_ll_decoder.specs.Finishing.{ReadsRest}
use Rattle.ciborium_ll_decoder.specs.Segments.{PullsOther, FindsOther, EndsAdvance, AdvancesFrom, AdvancesTo}
use Rattle.ciborium_ll_grammar.proofs.TitleLaws.{IsTitle-shortest}
use Rattle.ciborium_ll_grammar.proofs.StepLaws.{add_string}
use Rattle.ciborium_ll_grammar.proofs.ElementLaws.{AreWritable-append, pieces-append, spelling-append}
use Rattle.ciborium_ll_decoder.proofs.BodyLaws.{sound_body}
use Rattle.ciborium_ll_decoder.proofs.DecodingLaws.{ReadsPast-none, ReadsPast-pulled, ReadsPast-then, passes_settled}
use Rattle.ciborium_ll_decoder.proofs.NestLaws.{title_some, nests_none, nest_inside, advance_opened, open_in_range}

-- Each open takes a byte.
pub opens_counted : (k : Kind) (j : ℕ) (u : List ℕ) (bs : List (List ℕ)) → IsInsideAt k j u bs → j ≤ length u
opens_counted k j u bs (one_open {title = t} {strings = x} p s) = grind (arith, title_some, length-append {A = ℕ})
opens_counted k j u bs (more_open {opens = i} {outer = y} {title = t} {strings = x} {bodies = ds} q p s) =
    grind (arith, title_some, length-append {A = ℕ}, opens_counted k i y ds q)

pub some_open : (k : Kind) (opens : ℕ) (u : List ℕ) (bs : List (List ℕ)) → IsInsideAt k opens u bs → 0 < opens
some_open k opens u bs i = grind arith

-- Inside an open a break is not misplaced. A header that `advance` refuses there may not stand within the string.
pub other_inside : {R E : Type 0} (source : Reader R E) (k : Kind) (allowed : Spelling) (opens : ℕ) (old : Decoder R)
    (at : ℕ) (progress : Progress) (new : Decoder R) → spelling_of old ≡ allowed → 0 < opens
    → FindsOther source k allowed opens old at progress new
    → PullsOther source (IsRefusedIn (spelling_of old) k) old at new
other_inside source k allowed opens old at progress new same some found = grind arith

pub sound_none : (k : Kind) → AreWritable k []
sound_none k = tt

pub piece_spelled : (k : Kind) (bodies : List (List ℕ)) (b : List ℕ) → spelling (pieces k (bodies ++ b ∷ []))
    ≡ spelling (pieces k bodies ++ Piece k b ∷ [])
piece_spelled k bodies b = ap spelling (pieces-append k bodies (b ∷ []))

module _ {R E : Type 0} (source : Reader R E) (k : Kind) where
  -- `opens` opens are not closed: the first one, and those among the bytes after it. The string has these bodies so
  -- far.
  pub record IsAmong (opens : ℕ) (bodies : List (List ℕ)) (opened now : Decoder R) : Type 0 where
    pub strings : List ℕ
    pub within : IsInsideAt k opens (shortest_title (kind_header k None) ++ strings) bodies
    pub sound : AreWritable k bodies
    pub passed : ReadsPast source opened strings now
    -- In a strict string one open is not closed, and the bytes are the spelling of the pieces.
    pub tight : spelling_of opened ≡ Shortest → (opens ≡ 1) × (strings ≡ spelling (pieces k bodies))

  -- The open waits.
  pub record IsAtFront (bodies : List (List ℕ)) (opened : Decoder R) (progress : Progress) (now : Decoder R) : Type 0
    where
      pub fresh : progress ≡ p.Open 0
      pub back : TakesBack source opened (kind_header k None) now
      pub nothing : bodies ≡ []

  pub record IsOnWay (bodies : List (List ℕ)) (opened : Decoder R) (progress : Progress) (now : Decoder R) : Type 0
    where
      pub opens : ℕ
      pub counts : progress ≡ p.Open opens
      pub among : IsAmong opens bodies opened now

  -- The invariant of the loop, with the bodies so far.
  pub record StringSoFar (bodies : List (List ℕ)) (opened : Decoder R) (progress : Progress) (now : Decoder R) :
      Type 0 where
    pub none_waits : opened.waiting ≡ None
    pub far : IsAtFront bodies opened progress now ⊎ IsOnWay bodies opened progress now
    pub steady : IsSteady source opened → IsSteady source now

  -- The effect of the next call of `advance`.
  pub record AdvancesAmong (bodies : List (List ℕ)) (opened now : Decoder R) (result : Result (Option Body) (Error E))
      (progress : Progress) (new : Decoder R) : Type 0 where
    pub left : ℕ
    pub between : Decoder R
    pub among : IsAmong left bodies opened between
    pub ends : EndsAdvance source k (spelling_of opened) left between result progress new
    pub rises : now.offset ≤ between.offset
    pub steady : IsSteady source opened → IsSteady source new

  -- After the first open, that open alone is not closed.
  among_first : (opened : Decoder R) → IsAmong 1 [] opened opened
  among_first opened =
      let title = shortest_title (kind_header k None) in
      let within : IsInsideAt k 1 (title ++ []) [] =
      one_open (IsTitle-shortest (kind_header k None) (open_in_range k)) none in
      let passed = ReadsPast-none source opened in
      search (sound_none, arith)

  -- `advance` passes over more opens and breaks.
  among_nest : {opens : ℕ} {bodies : List (List ℕ)} {opened begun : Decoder R} (now : Decoder R)
      {result : Result (Option Body) (Error E)} {progress : Progress} {new : Decoder R}
      → IsAmong opens bodies opened begun → AdvancesFrom source k (spelling_of opened) opens begun result progress new
      → now.offset ≤ begun.offset → (IsSteady source opened → IsSteady source new)
      → AdvancesAmong bodies opened now result progress new
  among_nest {opens} {bodies} {opened} {begun} now among all before steady =
      let within =
      rw append_assoc at (nest_inside k opens all.left (shortest_title (kind_header k None) ++ among.strings)
      all.nest bodies among.within all.nests) in
      let passed = ReadsPast-then source opened begun all.between among.strings all.nest among.passed all.passed in
      let tight : spelling_of opened ≡ Shortest → (all.left ≡ 1)
      × (among.strings ++ all.nest ≡ spelling (pieces k bodies)) =
      grind (arith, nests_none, append-nil {A = ℕ}) in
      let further : IsAmong all.left bodies opened all.between = search in
      let rises : now.offset ≤ all.between.offset = omega (arith, before, all.passed.offset) in
      search

  pub advances_among : (bodies : List (List ℕ)) (opened now : Decoder R) (allowed : Spelling)
      (result : Result (Option Body) (Error E)) (progress progress' : Progress) (new : Decoder R)
      → allowed ≡ spelling_of opened → StringSoFar bodies opened progress now
      → AdvancesTo source k allowed progress now result progress' new
      → (IsSteady source now → IsSteady source new) → AdvancesAmong bodies opened now result progress' new
  advances_among bodies opened now allowed result progress progress' new same so_far goes_on steady =
      elim so_far.far [
        | inl start ↦ (
            let from : AdvancesFrom source k (spelling_of opened) 0 now result progress' new =
            rw (same, start.fresh) at goes_on in
            let all = advance_opened source k (spelling_of opened) opened now new result progress' so_far.none_waits
            start.back from in
            rw start.nothing (among_nest now (among_first opened) all (omega (arith, start.back.offset))
            (λ s. steady (so_far.steady s)))
            )
        | inr way ↦ (
            let all : AdvancesFrom source k (spelling_of opened) way.opens now result progress' new =
            rw (same, way.counts) at goes_on in
            among_nest now way.among all (omega arith) (λ s. steady (so_far.steady s))
            )
      ]

  -- ---- one segment more

  spelled : (bodies : List (List ℕ)) (b : List ℕ)
      → spelling (pieces k bodies) ++ (shortest_title (kind_header k (Some (length b))) ++ b)
      ≡ spelling (pieces k (bodies ++ b ∷ []))
  spelled bodies b = rw (piece_spelled k bodies b, spelling-append, append-nil) refl

  pub segment_added : (bodies : List (List ℕ)) (opened now new ended : Decoder R) (body : Body) (progress : Progress)
      → opened.waiting ≡ None → AdvancesAmong bodies opened now (Ok (Some body)) progress new
      → (reads : ReadsRest source k [] body.length new ended) → (IsSteady source new → IsSteady source ended)
      → StringSoFar (bodies ++ reads.read ∷ []) opened progress ended
  segment_added bodies opened now new ended body progress settled all reads steady =
      let among = all.among in
      let t = all.ends.pulled.title in
      let b = reads.read in
      let is_title = rw (sym reads.all) at all.ends.pulled.is_title in
      let pulled = ReadsPast-pulled source opened all.between new among.strings
      (kind_header k (Some body.length)) all.ends.pulled among.passed all.steady in
      let counts : progress ≡ p.Open all.left = grind (arith, some_open) in
      let within = rw append_assoc at (add_string k all.left (shortest_title (kind_header k None) ++ among.strings)
      (t ++ b) bodies (b ∷ []) among.within (definite is_title)) in
      let sound = AreWritable-append k bodies (b ∷ []) among.sound (sound_body k b reads.sound) in
      let passed =
      rw append_assoc at (ReadsPast-then source opened new ended (among.strings ++ t) b pulled reads.passed) in
      let tight : spelling_of opened ≡ Shortest → (all.left ≡ 1)
      × (among.strings ++ (t ++ b) ≡ spelling (pieces k (bodies ++ b ∷ []))) = λ on.
      let only = all.ends.pulled.strict (among.passed.mode ∙ on)
      (passes_settled source opened all.between among.strings among.passed settled) in
      let before = among.tight on in
      (before.0, rw (before.1, only.shortest, sym reads.all) (spelled bodies b)) in
      let steadily : IsSteady source opened → IsSteady source ended = λ s. steady (all.steady s) in
      search inr

  -- After its open a string has one open that is not closed, and no bodies.
  pub so_far_opened : (opened now : Decoder R) (progress : Progress) → opened.waiting ≡ None → progress ≡ p.Open 1
      → now ≡ opened → StringSoFar [] opened progress now
  so_far_opened opened now progress settled begun same = grind (arith, among_first)

  -- A segment takes at least one byte.
  pub announced_rises : (bodies : List (List ℕ)) (opened now new : Decoder R) (body : Body) (progress : Progress)
      → AdvancesAmong bodies opened now (Ok (Some body)) progress new → now.offset < new.offset
  announced_rises bodies opened now new body progress all = grind arith
