-- Titles with their bodies, one after the other: a run can grow by one, and all runs over the same bytes agree.
use Rattle.std.proofs.Common.{◌≡◌, ◌≢◌, ℕ, ◌+◌, ◌<◌, ◌≤◌, ◌⊎◌, ◌↔◌, List, [], ◌∷◌, ◌++◌, length, take, drop, set}
use Rattle.std.proofs.Common.{get_or, refl, sym, ap, subst, ◌∙◌, arith, inl, inr, append_assoc, append-nil}
use Rattle.std.proofs.Common.{length-append, Some, None}
use Rattle.std.proofs.lemmas.Bool.{cases_lt}
use Rattle.std.proofs.Math.Seq.{take-add}
use Rattle.std.proofs.lemmas.List.{drop_all, drop_more, length-drop, length-take-le, set_at, take-append-drop, take_at}
use Rattle.ciborium_ll.specs.Types.Header.{Header}
use Rattle.ciborium_ll.specs.Types.Header.TheVariants as h
use Rattle.ciborium_ll_grammar.specs.Title.{IsTitle}
use Rattle.ciborium_ll_grammar.proofs.AloneLaws.{title_some}
use Rattle.ciborium_ll_grammar.proofs.TitleLaws.{one_title}
use Rattle.ciborium_ll_text.proofs.Lists.{same_front}
use Rattle.capi.specs.declared.answer.CllAnswer.{CllAnswer}
use Rattle.capi.specs.declared.answer.CllAnswer.TheVariants as a
use Rattle.capi.specs.declared.answer.CllReport.{CllReport}
use Rattle.capi.specs.declared.titles.CllTitle.{CllTitle}
use Rattle.capi.specs.Answers.{Reports, code}
use Rattle.capi.specs.Titles.{AreTitles, BeginsWithBody, FillsTitles, Gives, HasTitles, IsBody, IsEntry, IsFilled}
use Rattle.capi.specs.Titles.{ReadsTitle, StopsAt, StopsTitles, no_titles, more_titles}
use Rattle.capi.proofs.DeterministicLaws.{reports_as}
use Rattle.capi.proofs.PullLaws.{code_ok}

-- ---- a run grows by one title

-- One more title with its body makes the run longer.
pub titles_grow : (start : ℕ) (bytes : List ℕ) (entries : List CllTitle) → AreTitles start bytes entries
    → (title body : List ℕ) (header : Header) (entry : CllTitle) → IsTitle title header → IsBody header body
    → IsEntry entry header (start + length bytes) (start + length bytes + length title)
    → AreTitles start (bytes ++ (title ++ body)) (entries ++ entry ∷ [])
titles_grow start bytes entries no_titles title body header entry is_title is_body is_entry =
    let at : start + 0 ≡ start = omega arith in
    let here = subst (λ (n : ℕ). IsEntry entry header n (n + length title)) at is_entry in
    subst (λ (z : List ℕ). AreTitles start (title ++ z) (entry ∷ [])) (append-nil body)
    (more_titles body is_title is_body here no_titles)
titles_grow start bytes entries
    (more_titles {title = first} {rest = rest} {entry = one} {entries = others} inner is is_inner one_is run)
    title body header entry is_title is_body is_entry =
    let after : start + length (first ++ (inner ++ rest)) ≡ start + length first + length inner + length rest =
    omega (arith, length-append first (inner ++ rest), length-append inner rest) in
    let next = subst (λ (n : ℕ). IsEntry entry header n (n + length title)) after is_entry in
    let grown = titles_grow (start + length first + length inner) rest others run title body header entry is_title
    is_body next in
    let parts : first ++ (inner ++ (rest ++ (title ++ body))) ≡ (first ++ (inner ++ rest)) ++ (title ++ body) =
    simp append_assoc in
    subst (λ (z : List ℕ). AreTitles start z (one ∷ (others ++ entry ∷ []))) parts
    (more_titles inner is is_inner one_is grown)

-- A title and its body after the bytes of a run make the run longer.
module _ (bytes : List ℕ) (taken len : ℕ) (entry : CllTitle) (reads : ReadsTitle (drop taken bytes) taken entry len)
    (within : taken ≤ length bytes) where
  -- The title and its body are the bytes after the run.
  next_bytes : take len (drop taken bytes) ≡ reads.front.title ++ reads.front.body
  next_bytes =
      let front = reads.front in
      let parts : drop taken bytes ≡ (front.title ++ front.body) ++ front.rest =
      front.is ∙ sym (append_assoc front.title front.body front.rest) in
      let whole : length (front.title ++ front.body) ≡ len =
      omega (arith, reads.length_is, length-append front.title front.body) in
      ap (take len) parts ∙ take_at (front.title ++ front.body) front.rest len whole

  -- They do not pass the end of the bytes.
  pub step_within : taken + len ≤ length bytes
  step_within =
      let front = reads.front in
      omega (
        arith,
        within,
        reads.length_is,
        length-drop taken bytes,
        ap length front.is,
        length-append front.title (front.body ++ front.rest),
        length-append front.body front.rest,
      )

  -- The run with the title and its body is a run with one more entry.
  pub titles_step : (entries : List CllTitle) → AreTitles 0 (take taken bytes) entries
      → AreTitles 0 (take (taken + len) bytes) (entries ++ entry ∷ [])
  titles_step entries run =
      let front = reads.front in
      let here : taken ≡ 0 + length (take taken bytes) = omega (arith, length-take-le taken bytes within) in
      let placed = subst (λ (n : ℕ). IsEntry entry front.header n (n + length front.title)) here reads.is_entry in
      let grown = titles_grow 0 (take taken bytes) entries run front.title front.body front.header entry front.is_title
      front.is_body placed in
      let joined : take taken bytes ++ (front.title ++ front.body) ≡ take (taken + len) bytes =
      ap (λ (z : List ℕ). take taken bytes ++ z) (sym next_bytes) ∙ sym (take-add taken len bytes) in
      subst (λ (z : List ℕ). AreTitles 0 z (entries ++ entry ∷ [])) joined grown

-- One more entry is filled.
pub fill_step : (old new entries : List CllTitle) (filled : ℕ) (entry : CllTitle) → IsFilled old entries new
    → filled ≡ length entries → length entries < length old
    → IsFilled old (entries ++ entry ∷ []) (set new filled entry)
fill_step old new entries filled entry is many room =
    let next : drop (length entries) old ≡ get_or old (length entries) entry ∷ drop (length entries + 1) old =
    drop_more old (length entries) entry room in
    let parts : new ≡ entries ++ get_or old (length entries) entry ∷ drop (length entries + 1) old =
    is ∙ ap (λ (z : List CllTitle). entries ++ z) next in
    let put : set new filled entry ≡ entries ++ entry ∷ drop (length entries + 1) old =
    ap (λ (z : List CllTitle). set z filled entry) parts
    ∙ set_at entries (get_or old (length entries) entry) (drop (length entries + 1) old) entry filled (sym many) in
    let long : length entries + 1 ≡ length (entries ++ entry ∷ []) =
    omega (arith, length-append entries (entry ∷ [])) in
    put ∙ sym (append_assoc entries (entry ∷ []) (drop (length entries + 1) old))
    ∙ ap (λ (n : ℕ). (entries ++ entry ∷ []) ++ drop n old) long

-- ---- all runs over the same bytes agree

-- Two empty bodies at the start of the same bytes leave the same rest.
bare_body : (body other rest more : List ℕ) → body ≡ [] → other ≡ [] → body ++ rest ≡ other ++ more
    → (body ≡ other) × (rest ≡ more)
bare_body body other rest more none is_none same = same_front body other rest more (ap length (none ∙ sym is_none)) same

-- A header has one body at the start of some bytes.
one_body : (header : Header) (body other rest more : List ℕ) → IsBody header body → IsBody header other
    → body ++ rest ≡ other ++ more → (body ≡ other) × (rest ≡ more)
one_body (h.Bytes (Some len)) body other rest more is is_other same =
    same_front body other rest more (is ∙ sym is_other) same
one_body (h.Text (Some len)) body other rest more is is_other same =
    same_front body other rest more (is.0 ∙ sym is_other.0) same
one_body (h.Bytes None) body other rest more is is_other same = bare_body body other rest more is is_other same
one_body (h.Text None) body other rest more is is_other same = bare_body body other rest more is is_other same
one_body (h.Positive number) body other rest more is is_other same = bare_body body other rest more is is_other same
one_body (h.Negative number) body other rest more is is_other same = bare_body body other rest more is is_other same
one_body (h.Array len) body other rest more is is_other same = bare_body body other rest more is is_other same
one_body (h.Map len) body other rest more is is_other same = bare_body body other rest more is is_other same
one_body (h.Tag number) body other rest more is is_other same = bare_body body other rest more is is_other same
one_body (h.Simple number) body other rest more is is_other same = bare_body body other rest more is is_other same
one_body (h.Float value) body other rest more is is_other same = bare_body body other rest more is is_other same
one_body h.Break body other rest more is is_other same = bare_body body other rest more is is_other same

-- Entries with the same parts and places are the same.
one_entry : (entry other : CllTitle) (header : Header) (start end : ℕ) → IsEntry entry header start end
    → IsEntry other header start end → entry ≡ other
one_entry entry other header start end is is_other =
    let kind = is.kind_is ∙ sym is_other.kind_is in
    let value = is.value_is ∙ sym is_other.value_is in
    let form = is.indefinite_is ∙ sym is_other.indefinite_is in
    let begins = is.start_is ∙ sym is_other.start_is in
    let ends = is.end_is ∙ sym is_other.end_is in
    let parts : entry ≡ record {
      value = entry.value;
      start = entry.start;
      end = entry.end;
      kind = entry.kind;
      indefinite = entry.indefinite;
    } = refl in
    let others : other ≡ record {
      value = other.value;
      start = other.start;
      end = other.end;
      kind = other.kind;
      indefinite = other.indefinite;
    } = refl in
    cc

-- The first titles of two runs are the same, with their bodies and entries, and so are the rests.
record SameFirst (title other body inner rest more : List ℕ) (entry one : CllTitle) : Type 0 where
  pub titles : title ≡ other
  pub bodies : body ≡ inner
  pub rests : rest ≡ more
  pub entries : entry ≡ one

same_first : (start : ℕ) (title other body inner rest more : List ℕ) (header mine : Header) (entry one : CllTitle)
    → IsTitle title header → IsTitle other mine → IsBody header body → IsBody mine inner
    → IsEntry entry header start (start + length title) → IsEntry one mine start (start + length other)
    → title ++ (body ++ rest) ≡ other ++ (inner ++ more) → SameFirst title other body inner rest more entry one
same_first start title other body inner rest more header mine entry one is_title is_other is_body is_inner is_entry
    is_one same =
    let titles = one_title title other (body ++ rest) (inner ++ more) header mine is_title is_other same in
    let bodies = one_body header body inner rest more is_body
    (subst (λ (x : Header). IsBody x inner) (sym titles.1) is_inner) titles.2 in
    let ends : start + length other ≡ start + length title = ap (λ (z : List ℕ). start + length z) (sym titles.0) in
    let here = subst (λ (n : ℕ). IsEntry one mine start n) ends is_one in
    record {
      titles = titles.0;
      bodies = bodies.0;
      rests = bodies.1;
      entries = one_entry entry one header start (start + length title) is_entry
          (subst (λ (x : Header). IsEntry one x start (start + length title)) (sym titles.1) here);
    }

-- Two runs of as many titles over the same bytes are the same.
same_titles : (start : ℕ) (bytes others rest more : List ℕ) (entries ones : List CllTitle)
    → AreTitles start bytes entries → AreTitles start others ones → bytes ++ rest ≡ others ++ more
    → length entries ≡ length ones → (bytes ≡ others) × (entries ≡ ones)
same_titles start bytes others rest more entries ones no_titles no_titles same many = (refl, refl)
same_titles start bytes others rest more entries ones no_titles (more_titles body is is_body is_entry run) same many =
    absurd (omega (arith, many))
same_titles start bytes others rest more entries ones (more_titles body is is_body is_entry run) no_titles same many =
    absurd (omega (arith, many))
same_titles start bytes others rest more entries ones
    (more_titles {title = t} {rest = r} {header = x} {entry = e} {entries = es} b is is_body is_entry run)
    (more_titles {title = u} {rest = s} {header = y} {entry = f} {entries = fs} c is' is_body' is_entry' run')
    same many =
    let first = same_first start t u b c (r ++ rest) (s ++ more) x y e f is is' is_body is_body' is_entry is_entry'
    (simp append_assoc at same) in
    let at : start + length u + length c ≡ start + length t + length b =
    omega (arith, ap length first.titles, ap length first.bodies) in
    let next = same_titles (start + length t + length b) r s rest more es fs run
    (subst (λ (n : ℕ). AreTitles n s fs) at run') first.rests (omega (arith, many)) in (
      cc (first.titles, first.bodies, next.0),
      cc (first.entries, next.1),
    )

-- After the shorter of two runs over the same bytes comes a title with its body.
longer_begins : (start : ℕ) (bytes others rest more : List ℕ) (entries ones : List CllTitle)
    → AreTitles start bytes entries → AreTitles start others ones → bytes ++ rest ≡ others ++ more
    → length entries < length ones → BeginsWithBody rest
longer_begins start bytes others rest more entries ones no_titles no_titles same less = absurd (omega (arith, less))
longer_begins start bytes others rest more entries ones no_titles
    (more_titles {title = u} {rest = s} {header = y} c is is_body is_entry run) same less =
    record {
      title = u;
      body = c;
      rest = s ++ more;
      header = y;
      is_title = is;
      is_body = is_body;
      is = simp append_assoc at same;
    }
longer_begins start bytes others rest more entries ones (more_titles body is is_body is_entry run) no_titles same less =
    absurd (omega (arith, less))
longer_begins start bytes others rest more entries ones
    (more_titles {title = t} {rest = r} {header = x} {entry = e} {entries = es} b is is_body is_entry run)
    (more_titles {title = u} {rest = s} {header = y} {entry = f} {entries = fs} c is' is_body' is_entry' run')
    same less =
    let first = same_first start t u b c (r ++ rest) (s ++ more) x y e f is is' is_body is_body' is_entry is_entry'
    (simp append_assoc at same) in
    let at : start + length u + length c ≡ start + length t + length b =
    omega (arith, ap length first.titles, ap length first.bodies) in
    longer_begins (start + length t + length b) r s rest more es fs run
    (subst (λ (n : ℕ). AreTitles n s fs) at run') first.rests (omega (arith, less))

-- ---- the call

-- No title begins where there are no bytes.
nothing_begins : (bytes : List ℕ) (taken : ℕ) → taken ≡ length bytes → BeginsWithBody (drop taken bytes) → ⊥
nothing_begins bytes taken all front =
    let empty : drop taken bytes ≡ [] = drop_all taken bytes (omega (arith, all)) in
    let some = title_some front.title front.header front.is_title in
    omega (arith, some, ap length (sym empty ∙ front.is), length-append front.title (front.body ++ front.rest))

-- Fronts of the same bytes that are the same have the same length.
same_taken : (bytes : List ℕ) (taken other : ℕ) → taken ≤ length bytes → other ≤ length bytes
    → take taken bytes ≡ take other bytes → taken ≡ other
same_taken bytes taken other within inside same =
    omega (arith, ap length same, length-take-le taken bytes within, length-take-le other bytes inside)

-- Both fronts of the bytes begin the same bytes.
both_begin : (bytes : List ℕ) (taken other : ℕ)
    → take taken bytes ++ drop taken bytes ≡ take other bytes ++ drop other bytes
both_begin bytes taken other = take-append-drop taken bytes ∙ sym (take-append-drop other bytes)

module _ (room : ℕ) (bytes : List ℕ) (taken other : ℕ) (entries ones : List CllTitle) where
  -- A run that fills the room or the bytes is not shorter than another run.
  not_shorter : HasTitles room bytes taken entries → AreTitles 0 (take other bytes) ones → length ones ≤ room
      → length entries < length ones → ⊥
  not_shorter has run in_room less =
      let front = longer_begins 0 (take taken bytes) (take other bytes) (drop taken bytes) (drop other bytes) entries
      ones has.are_titles run (both_begin bytes taken other) less in
      elim has.ends [
        | inl full ↦ omega (arith, full, in_room, less)
        | inr all ↦ nothing_begins bytes taken all front
      ]

  -- Two runs with as many entries take as many bytes.
  equal_runs : AreTitles 0 (take taken bytes) entries → AreTitles 0 (take other bytes) ones → taken ≤ length bytes
      → other ≤ length bytes → length entries ≡ length ones → (taken ≡ other) × (entries ≡ ones)
  equal_runs run next within inside many =
      let same = same_titles 0 (take taken bytes) (take other bytes) (drop taken bytes) (drop other bytes) entries ones
      run next (both_begin bytes taken other) many in
      (same_taken bytes taken other within inside same.0, same.1)

-- Only one run fills the room or the bytes.
one_run : (room : ℕ) (bytes : List ℕ) (taken other : ℕ) (entries ones : List CllTitle)
    → HasTitles room bytes taken entries → HasTitles room bytes other ones → (taken ≡ other) × (entries ≡ ones)
one_run room bytes taken other entries ones has had =
    elim (cases_lt (length entries) (length ones)) [
      | inl less ↦ absurd (not_shorter room bytes taken other entries ones has had.are_titles had.in_room less)
      | inr most ↦ (
          elim (cases_lt (length ones) (length entries)) [
            | inl less ↦ absurd (not_shorter room bytes other taken ones entries had has.are_titles has.in_room less)
            | inr least ↦ equal_runs room bytes taken other entries ones has.are_titles had.are_titles has.within had.within
                (omega (arith, most, least))
          ]
          )
    ]

-- A run that fills the room or the bytes does not stop before a fault.
none_stops : (room : ℕ) (bytes : List ℕ) (taken other : ℕ) (entries ones : List CllTitle)
    → HasTitles room bytes taken entries → StopsTitles room bytes other ones → ⊥
none_stops room bytes taken other entries ones has stops =
    elim (cases_lt (length entries) (length ones)) [
      | inl less ↦ not_shorter room bytes taken other entries ones has stops.are_titles (omega (arith, stops.in_room)) less
      | inr most ↦ (
          elim (cases_lt (length ones) (length entries)) [
            | inl less ↦ stops.none (longer_begins 0 (take other bytes) (take taken bytes) (drop other bytes)
                (drop taken bytes) ones entries stops.are_titles has.are_titles (both_begin bytes other taken) less)
            | inr least ↦ (
                let same = equal_runs room bytes taken other entries ones has.are_titles stops.are_titles has.within
                (omega (arith, stops.within)) (omega (arith, most, least)) in
                elim has.ends [
                  | inl full ↦ omega (arith, full, stops.in_room, least)
                  | inr all ↦ omega (arith, all, stops.within, same.0)
                ]
                )
          ]
          )
    ]

module _ (bytes : List ℕ) (old new entries : List CllTitle) (taken filled : ℕ) where
  -- A run that came to the end of the room or of the bytes is all that the call gives.
  pub titles_fill : (report : CllReport) → AreTitles 0 (take taken bytes) entries → taken ≤ length bytes
      → IsFilled old entries new → filled ≡ length entries → length entries ≤ length old
      → (length entries ≡ length old) ⊎ (taken ≡ length bytes) → Reports report taken filled 0
      → FillsTitles bytes old a.Ok new report
  titles_fill report run within is_filled counted in_room ends reports =
      let same : taken ≡ report.consumed = sym reports.consumed_is in (
        entries,
        subst (λ (n : ℕ). HasTitles (length old) bytes n entries) same
            (record { are_titles = run; within = within; in_room = in_room; ends = ends }),
        is_filled,
        reports_as report report.consumed (length entries) 0 taken filled 0 reports same counted refl,
      )

  -- A run before a fault is all that the call gives.
  pub titles_stop : (answer : CllAnswer) (report : CllReport) → AreTitles 0 (take taken bytes) entries
      → taken < length bytes → IsFilled old entries new → filled ≡ length entries → length entries < length old
      → (BeginsWithBody (drop taken bytes) → ⊥) → StopsAt bytes taken filled answer report
      → FillsTitles bytes old answer new report
  titles_stop a.Short report run within is_filled counted in_room none stops =
      let same : taken ≡ report.consumed = sym stops.3.consumed_is in (
        entries,
        subst (λ (n : ℕ). StopsTitles (length old) bytes n entries) same
            (record { are_titles = run; within = within; in_room = in_room; none = none }),
        is_filled,
        subst (λ (n : ℕ). StopsAt bytes n (length entries) a.Short report) same
            (subst (λ (n : ℕ). StopsAt bytes taken n a.Short report) counted stops),
      )
  titles_stop a.Syntax report run within is_filled counted in_room none stops =
      let same : taken ≡ report.consumed = sym stops.3.consumed_is in (
        entries,
        subst (λ (n : ℕ). StopsTitles (length old) bytes n entries) same
            (record { are_titles = run; within = within; in_room = in_room; none = none }),
        is_filled,
        subst (λ (n : ℕ). StopsAt bytes n (length entries) a.Syntax report) same
            (subst (λ (n : ℕ). StopsAt bytes taken n a.Syntax report) counted stops),
      )
  titles_stop a.Ok report run within is_filled counted in_room none stops = absurd stops
  titles_stop a.Room report run within is_filled counted in_room none stops = absurd stops
  titles_stop a.TooLong report run within is_filled counted in_room none stops = absurd stops
  titles_stop a.BreakDue report run within is_filled counted in_room none stops = absurd stops
  titles_stop a.TooDeep report run within is_filled counted in_room none stops = absurd stops
  titles_stop a.Argument report run within is_filled counted in_room none stops = absurd stops
  titles_stop a.NotShortest report run within is_filled counted in_room none stops = absurd stops
  titles_stop a.Indefinite report run within is_filled counted in_room none stops = absurd stops
  titles_stop a.KeyOrder report run within is_filled counted in_room none stops = absurd stops
  titles_stop a.DuplicateKey report run within is_filled counted in_room none stops = absurd stops
  titles_stop a.Absent report run within is_filled counted in_room none stops = absurd stops

-- Only one run stops before a fault.
one_stop : (room : ℕ) (bytes : List ℕ) (taken other : ℕ) (entries ones : List CllTitle)
    → StopsTitles room bytes taken entries → StopsTitles room bytes other ones → (taken ≡ other) × (entries ≡ ones)
one_stop room bytes taken other entries ones stops stopped =
    elim (cases_lt (length entries) (length ones)) [
      | inl less ↦ absurd (stops.none (longer_begins 0 (take taken bytes) (take other bytes) (drop taken bytes)
          (drop other bytes) entries ones stops.are_titles stopped.are_titles (both_begin bytes taken other) less))
      | inr most ↦ (
          elim (cases_lt (length ones) (length entries)) [
            | inl less ↦ absurd (stopped.none (longer_begins 0 (take other bytes) (take taken bytes) (drop other bytes)
                (drop taken bytes) ones entries stopped.are_titles stops.are_titles (both_begin bytes other taken)
                less))
            | inr least ↦ equal_runs room bytes taken other entries ones stops.are_titles stopped.are_titles
                (omega (arith, stops.within)) (omega (arith, stopped.within)) (omega (arith, most, least))
          ]
          )
    ]

-- Entries that fill the same beginning are the same.
same_entries : (old new entries ones : List CllTitle) → IsFilled old entries new → IsFilled old ones new
    → length entries ≡ length ones → entries ≡ ones
same_entries old new entries ones filled others many =
    (sym (take_at entries (drop (length entries) old) (length ones) many)
    ∙ ap (take (length ones)) (sym filled ∙ others))
    ∙ take_at ones (drop (length ones) old) (length ones) refl

-- The call gives the one run of its kind.
given : (Holds : ℕ → List CllTitle → Type 0) (old new : List CllTitle) (report : CllReport) (ones : List CllTitle)
    → Gives old report.consumed ones new report
    → ((other : ℕ) (others : List CllTitle) → Holds other others → (other ≡ report.consumed) × (others ≡ ones))
    → Holds report.consumed ones → (taken : ℕ) (entries : List CllTitle)
    → Holds taken entries ↔ Gives old taken entries new report
given Holds old new report ones gives one holds taken entries = (
  λ has.
      let same = one taken entries has in (
        sym same.0,
        gives.1 ∙ ap length (sym same.1),
        subst (λ (z : List CllTitle). IsFilled old z new) (sym same.1) gives.2,
      ),
  λ told.
      let same = same_entries old new ones entries gives.2 told.2 (sym gives.1 ∙ told.1) in
      subst (λ (n : ℕ). Holds n entries) told.0 (subst (Holds report.consumed) same holds),
)

module _ (bytes : List ℕ) (old new : List CllTitle) (report : CllReport) where
  -- The entries that the call gives, and whether it met a fault.
  record Ended (answer : CllAnswer) : Type 0 where
    pub ones : List CllTitle
    pub gives : Gives old report.consumed ones new report
    pub ends : ((answer ≡ a.Ok) × HasTitles (length old) bytes report.consumed ones)
        ⊎ ((answer ≢ a.Ok) × StopsTitles (length old) bytes report.consumed ones)

  ends_with : (answer : CllAnswer) → FillsTitles bytes old answer new report → Ended answer
  ends_with a.Ok (ones, had, filled, reports) =
      record { ones = ones; gives = (refl, reports.written_is, filled); ends = inl (refl, had) }
  ends_with a.Short (ones, stops, filled, fault) =
      record { ones = ones; gives = (refl, fault.3.written_is, filled); ends = inr (λ same. absurd cc, stops) }
  ends_with a.Syntax (ones, stops, filled, fault) =
      record { ones = ones; gives = (refl, fault.3.written_is, filled); ends = inr (λ same. absurd cc, stops) }
  ends_with a.Room (ones, stops, filled, none) = absurd none
  ends_with a.TooLong (ones, stops, filled, none) = absurd none
  ends_with a.BreakDue (ones, stops, filled, none) = absurd none
  ends_with a.TooDeep (ones, stops, filled, none) = absurd none
  ends_with a.Argument (ones, stops, filled, none) = absurd none
  ends_with a.NotShortest (ones, stops, filled, none) = absurd none
  ends_with a.Indefinite (ones, stops, filled, none) = absurd none
  ends_with a.KeyOrder (ones, stops, filled, none) = absurd none
  ends_with a.DuplicateKey (ones, stops, filled, none) = absurd none
  ends_with a.Absent (ones, stops, filled, none) = absurd none

  module _ (answer : CllAnswer) (fills : FillsTitles bytes old answer new report) (taken : ℕ)
      (entries : List CllTitle) where
    -- The call answers `Ok` with these titles exactly if they fill the room or the bytes.
    pub fills_exactly : HasTitles (length old) bytes taken entries
        ↔ (answer ≡ a.Ok) × Gives old taken entries new report
    fills_exactly =
        let told = ends_with answer fills in
        elim told.ends [
          | inl had ↦ (
              let only = given (HasTitles (length old) bytes) old new report told.ones told.gives
              (λ other others has. one_run (length old) bytes other report.consumed others told.ones has had.1) had.1 taken
              entries in
              (λ has. (had.0, only.0 has), λ gives. only.1 gives.1)
              )
          | inr stops ↦ (
            λ has. absurd (none_stops (length old) bytes taken report.consumed entries told.ones has stops.1),
            λ gives. absurd (stops.0 gives.0),
          )
        ]

    -- The call meets a fault after these titles exactly if no whole title follows them.
    pub stops_exactly : StopsTitles (length old) bytes taken entries
        ↔ (answer ≢ a.Ok) × Gives old taken entries new report
    stops_exactly =
        let told = ends_with answer fills in
        elim told.ends [
          | inl had ↦ (
            λ stops. absurd (none_stops (length old) bytes report.consumed taken told.ones entries had.1 stops),
            λ gives. absurd (gives.0 had.0),
          )
          | inr stops ↦ (
              let only = given (StopsTitles (length old) bytes) old new report told.ones told.gives
              (λ other others has. one_stop (length old) bytes other report.consumed others told.ones has stops.1) stops.1
              taken entries in
              (λ has. (stops.0, only.0 has), λ gives. only.1 gives.1)
              )
        ]

-- ---- by the number of the answer

module _ {Holds Given : Type 0} (answer : CllAnswer) (result : ℕ) (is : result ≡ code answer) where
  -- An answer that is `Ok` exactly under a condition has the number of `Ok` exactly under it.
  pub ok_by_number : Holds ↔ (answer ≡ a.Ok) × Given → Holds ↔ (result ≡ code a.Ok) × Given
  ok_by_number exact =
      let same = code_ok answer result is in (
        λ holds. let told = exact.0 holds in (same.1 told.0, told.1),
        λ told. exact.1 (same.0 told.0, told.1),
      )

  -- An answer that is a fault exactly under a condition has another number than `Ok` exactly under it.
  pub fault_by_number : Holds ↔ (answer ≢ a.Ok) × Given → Holds ↔ (result ≢ code a.Ok) × Given
  fault_by_number exact =
      let same = code_ok answer result is in (
        λ holds. let told = exact.0 holds in (λ ok. told.0 (same.0 ok), told.1),
        λ told. exact.1 (λ ok. told.0 (same.1 ok), told.1),
      )
