-- The spots after a whole title, a whole body and a whole element.
use Rattle.std.proofs.Common.{◌≡◌, ℕ, zero, suc, ◌+◌, ◌-◌, ◌<◌, ◌≤◌, List, [], ◌∷◌, ◌++◌, length, Some, None}
use Rattle.std.proofs.Common.{refl, sym, ap, arith, inl, inr, ◌∙◌, append_assoc, append-nil, le-leb, replicate}
use Rattle.std.proofs.Common.{length-append}
use Rattle.ciborium_ll_grammar.specs.declared.spelling.Spelling.{Spelling}
use Rattle.ciborium_ll_grammar.specs.declared.spelling.Spelling.TheVariants.{Any, Shortest}
use Rattle.ciborium_ll_grammar.specs.declared.hdr.Header.{Header}
use Rattle.ciborium_ll_grammar.specs.declared.hdr.Header.TheVariants as h
use Rattle.ciborium_ll_grammar.specs.Title.{AreBytes, IsStrictTitle, IsTitle, numbered, alone, Other, Small}
use Rattle.ciborium_ll_grammar.specs.Title.{shortest_title}
use Rattle.ciborium_ll_grammar.specs.Items.{IsTakenTitle}
use Rattle.ciborium_ll_grammar.specs.Strings.{Kind, kind_header, IsWritable, none}
use Rattle.ciborium_ll_grammar.specs.Strings.IsString.{definite}
use Rattle.ciborium_ll_grammar.specs.Elements.{AreWritable, Mark, Plain, Whole as WholeMark, Open, Piece, Close, pieces}
use Rattle.ciborium_ll_grammar.specs.Elements.{spelling, mark_spelling, IsElement, plain, string, IsRun, IsPlain}
use Rattle.ciborium_ll_grammar.specs.Elements.{IsNoSmallSimple, IsStrictSpelling}
use Rattle.ciborium_ll_grammar.specs.Faults.{Point, Reaches, due, inside, with_front, OtherTitle, FirstFault, Syntax}
use Rattle.ciborium_ll_grammar.specs.Faults.{Answer, BeginsWithElements, IsRefusedIn, due_title}
use Rattle.ciborium_ll_grammar.proofs.StepLaws.{add_string, add_open, close_inner, close_last, add_element, counted}
use Rattle.ciborium_ll_grammar.proofs.OpenStrings.{IsInsideAt, one_open}
use Rattle.ciborium_ll_grammar.proofs.ElementLaws.{spelling-append, pieces-append, AreWritable-append}
use Rattle.ciborium_ll_text.proofs.TextLaws.{IsCharacters-nil}
use Rattle.cbor_copier.specs.declared.phase.Phase.{Phase}
use Rattle.cbor_parser.specs.declared.strings.StringKind.{StringKind}
use Rattle.cbor_parser.specs.declared.strings.StringKind.TheVariants as k
use Rattle.cbor_parser.specs.declared.strings.Within.{Within}
use Rattle.cbor_parser.specs.declared.strings.Within.TheVariants as w
use Rattle.cbor_parser.specs.Strings.{closed, kind_of, piece_within}
use Rattle.cbor_copier.specs.Spots.{Spot, putting, elements_due, element_done, string_done, body_due, entered, refused}
use Rattle.cbor_copier.specs.Spots.{piece_entered, string_open, within_entered}
use Rattle.cbor_copier.specs.Reading.{IsTakenRun, ComesTo}
use Rattle.std.proofs.lemmas.List.{length-replicate}
use Rattle.ciborium_ll_grammar.proofs.AffixLaws.{AreBytes-zeros, AreBytes-append}
use Rattle.ciborium_ll_grammar.proofs.SpelledLaws.{spelled_then}
use Rattle.ciborium_ll_grammar.proofs.StrictFaultLaws.{no_fault}
use Rattle.cbor_copier.proofs.KeptLaws.{due_kept, body_kept}
use Rattle.cbor_copier.proofs.Reached.{RunLeft, InOpen, Here, between, in_open, OfKind, place_of, body_place}
use Rattle.cbor_copier.proofs.Reached.{Misplaced, IsFlat, Tight, Titling, Begun, Bodying, Broken, Holds, clear}

-- ---- the bytes that are due are a part of the elements

pub reaches : {allowed : Spelling} {count left : ℕ} {bytes : List ℕ} {marks : List Mark} {i : Within}
    → Here allowed count left bytes marks i → Reaches count bytes marks (place_of i)
reaches (between r some tight) = due (omega (arith, r.counted)) r.run
reaches (in_open {kind = kind} {more = more} o some tight) =
    rw (o.is, o.marks_are) (inside {before = o.run.before} (omega (arith, o.run.counted)) o.run.run
    (counted (kind_of kind) (suc more) o.opens o.bodies o.inside) o.sound)

pub some_due : {allowed : Spelling} {count left : ℕ} {bytes : List ℕ} {marks : List Mark} {i : Within}
    → Here allowed count left bytes marks i → 0 < left
some_due (between r some tight) = some
some_due (in_open o some tight) = some

pub here_tight : {allowed : Spelling} {count left : ℕ} {bytes : List ℕ} {marks : List Mark} {i : Within}
    → Here allowed count left bytes marks i → Tight allowed bytes marks i
here_tight (between r some tight) = tight
here_tight (in_open o some tight) = tight

-- Everything before a point is in its shortest spelling, if only this is taken.
abbrev pub Spelled : Spelling → List ℕ → List Mark → Point → Type 0
Spelled allowed before marks at = allowed ≡ Shortest → IsStrictSpelling before marks (due_title at)

pub here_spelled : {allowed : Spelling} {count left : ℕ} {bytes : List ℕ} {marks : List Mark} {i : Within}
    → Here allowed count left bytes marks i → Spelled allowed bytes marks (place_of i)
here_spelled (between r some tight) = λ short. (tight short).spelled
here_spelled (in_open o some tight) = λ short. (tight short).spelled

-- A title that may not stand there is a fault.
pub misplaced_fault : {allowed : Spelling} {before title ahead : List ℕ} {marks : List Mark} (i : Within)
    (header : Header) (rest : List ℕ) → IsTitle title header → Misplaced allowed i header → ahead ≡ title ++ rest
    → FirstFault allowed before marks (place_of i) ahead (Syntax (length before)) (spelling marks) (length title)
misplaced_fault w.Nothing header rest q bad is = absurd bad
misplaced_fault (w.Open kind more) header rest q bad is = OtherTitle header rest q bad is

pub comes_at : {allowed : Spelling} {count consumed : ℕ} {bytes before ahead output written : List ℕ}
    {marks : List Mark} {at : Point} {answer : Answer} → Reaches count before marks at
    → Spelled allowed before marks at → bytes ≡ before ++ ahead
    → FirstFault allowed before marks at ahead answer written consumed → output ≡ written
    → ComesTo allowed count bytes answer output
comes_at {consumed = consumed} {before = before} {ahead = ahead} {written = written} {marks = marks} {at = at}
    {answer = answer} reach spelled is fault out = record {
      fault = record {
        before = before;
        marks = marks;
        point = at;
        ahead = ahead;
        answer = answer;
        written = written;
        consumed = consumed;
        reach = reach;
        is = is;
        spelled = spelled;
        fault = fault;
      };
      answered = refl;
      written = sym out;
    }

longer : {allowed : Spelling} {count : ℕ} {bytes : List ℕ} (more : List ℕ) → BeginsWithElements allowed count bytes
    → BeginsWithElements allowed count (bytes ++ more)
longer {bytes = bytes} more o = record {
  elements = o.elements;
  marks = o.marks;
  rest = o.rest ++ more;
  run = o.run;
  is = simp (o.is, append_assoc);
  spelled = o.spelled;
}

-- If a fault names this place for all bytes that follow, once `need` bytes do, the bytes so far are at this fault.
pub breaks : {allowed : Spelling} {place count : ℕ} {bytes output before : List ℕ} {marks : List Mark} {at : Point}
    (ahead : List ℕ) → Reaches count before marks at → Spelled allowed before marks at → bytes ≡ before ++ ahead
    → (need : ℕ) → ((more : List ℕ) → AreBytes more → need ≤ length more → (consumed : ℕ)
    × FirstFault allowed before marks at (ahead ++ more) (Syntax place) output consumed)
    → Broken allowed place count bytes output
breaks {allowed} {place} {count} {bytes} {output} ahead reach spelled is need each =
    let zeros : List ℕ = replicate need 0 in
    let sound = AreBytes-zeros need in
    let long = length-replicate {A = ℕ} need 0 in
    let fault : (more : List ℕ) → AreBytes more → need ≤ length more
    → ComesTo allowed count (bytes ++ more) (Syntax place) output =
    λ more are enough. comes_at reach spelled (simp (is, append_assoc)) (each more are enough).1 refl in (
      λ more are run. no_fault allowed count _ (rw (append_assoc bytes more) at (longer zeros run))
          (fault (more ++ zeros) (AreBytes-append more zeros are sound)
          (omega (arith, long, length-append more zeros))).fault,
      record { more = zeros; more_bytes = sound; comes_to = fault zeros sound (omega (arith, long)) },
    )

-- ---- more bytes after the bytes so far

module _ {count left : ℕ} {bytes : List ℕ} {marks : List Mark} where
  -- One more element leaves one element fewer.
  pub one_more : {rest : ℕ} {others : List Mark} {more : List ℕ} → RunLeft count left bytes marks → rest + 1 ≡ left
      → IsElement more others → RunLeft count rest (bytes ++ more) (marks ++ others)
  one_more r one e = record {
    before = suc r.before;
    run = add_element r.before bytes marks r.run _ _ e;
    counted = omega (arith, r.counted, one);
  }

  module _ {kind : Kind} {more : ℕ} (o : InOpen kind more count left bytes marks) where
    -- More strings within open strings add their bodies to the marks.
    grown : (n : ℕ) (x : List ℕ) (bodies : List (List ℕ)) → IsInsideAt kind (suc n) (o.opens ++ x) (o.bodies ++ bodies)
        → AreWritable kind bodies → InOpen kind n count left (bytes ++ x) (marks ++ pieces kind bodies)
    grown n x bodies at sound =
        let is : bytes ++ x ≡ o.elements ++ (o.opens ++ x) = simp (o.is, append_assoc) in
        let marks_are : marks ++ pieces kind bodies ≡ o.element_marks ++ Open kind ∷ pieces kind (o.bodies ++ bodies) =
        simp (o.marks_are, pieces-append, append_assoc) in
        search (AreWritable-append kind o.bodies bodies o.sound sound)

    -- Bytes within open strings without a body add no mark.
    grown_by : (n : ℕ) (x : List ℕ) → IsInsideAt kind (suc n) (o.opens ++ x) o.bodies
        → InOpen kind n count left (bytes ++ x) marks
    grown_by n x at = rw (append-nil marks) at (grown n x [] (rw (append-nil o.bodies) at) tt)

  -- A break closes the innermost of several open strings.
  pub closes : {kind : Kind} {more : ℕ} → InOpen kind (suc more) count left bytes marks
      → InOpen kind more count left (bytes ++ 0xff ∷ []) marks
  closes {kind} {more} o = grown_by o more _ (close_inner kind more o.opens o.bodies o.inside)

-- A break that closes the last open string ends an element.
pub closes_last : {kind : Kind} {count left rest : ℕ} {bytes : List ℕ} {marks : List Mark}
    → InOpen kind zero count left bytes marks → rest + 1 ≡ left
    → RunLeft count rest (bytes ++ 0xff ∷ []) (marks ++ Close ∷ [])
closes_last {kind} o one =
    rw (o.is, o.marks_are, append_assoc o.elements, append_assoc o.element_marks)
    (one_more o.run one (close_last kind o.opens o.bodies o.inside o.sound))

-- ---- the shortest spelling

-- A title that only the shortest spelling has.
pub taken_strictly : (allowed : Spelling) (title : List ℕ) (header : Header) → IsTakenTitle allowed title header
    → allowed ≡ Shortest → IsStrictTitle title header
taken_strictly Any title header taken short = absurd cc
taken_strictly Shortest title header taken short = taken

-- One more mark in its shortest spelling.
pub tight_mark : {allowed : Spelling} {bytes : List ℕ} {marks : List Mark} {i : Within} (j : Within) (mark : Mark)
    (more : List ℕ) → Tight allowed bytes marks i
    → (allowed ≡ Shortest → (more ≡ mark_spelling mark) × IsNoSmallSimple mark × IsFlat j)
    → Tight allowed (bytes ++ more) (marks ++ mark ∷ []) j
tight_mark {bytes = bytes} {marks = marks} j mark more tight says = λ short. record {
  spelled = spelled_then bytes marks more (mark ∷ []) (tight short).spelled
      ((says short).0 ∙ sym (append-nil (mark_spelling mark))) ((says short).1, tt);
  flat = (says short).2;
}

-- If no element is left, the bytes are all elements.
pub run_all : {count : ℕ} {bytes : List ℕ} {marks : List Mark} → RunLeft count zero bytes marks
    → IsRun count bytes marks
run_all r = let e : r.before ≡ _ = omega (arith, r.counted) in rw e at r.run

pub all_taken : {allowed : Spelling} {count : ℕ} {bytes : List ℕ} {marks : List Mark} {i : Within}
    → RunLeft count zero bytes marks → Tight allowed bytes marks i → IsTakenRun allowed count bytes marks
all_taken r tight = record { run = run_all r; strictly = λ short. (tight short).spelled }

-- A string has ended. The string is an element, or a piece of an open string.
abbrev pub Behind : Spelling → Within → ℕ → ℕ → List ℕ → List Mark → Type 0
Behind allowed w.Nothing count left bytes marks =
    RunLeft count (left - 1) bytes marks × Tight allowed bytes marks w.Nothing
Behind allowed (w.Open kind more) count left bytes marks = Here allowed count left bytes marks (w.Open kind more)

pub record StringBehind (allowed : Spelling) (i : Within) (count left : ℕ) (bytes output : List ℕ) : Type 0 where
  pub marks : List Mark
  pub behind : Behind allowed i count left bytes marks
  pub out : spelling marks ≡ output

-- A body with its shortest title is the spelling of its mark.
body_spelled : (allowed : Spelling) (kind outer : StringKind) (title body : List ℕ)
    → IsTakenTitle allowed title (kind_header (kind_of kind) (Some (length body))) → outer ≡ kind
    → allowed ≡ Shortest
    → title ++ body ≡ shortest_title (kind_header (kind_of outer) (Some (length body))) ++ body
body_spelled allowed kind outer title body taken same short =
    let is = taken_strictly allowed title _ taken short in
    rw same (ap (λ (z : List ℕ). z ++ body) is.shortest)

pub string_behind : {allowed : Spelling} {count left : ℕ} {before : List ℕ} {marks : List Mark} {i : Within}
    (kind : StringKind) (title body : List ℕ) → Here allowed count left before marks i → OfKind i kind
    → IsTitle title (kind_header (kind_of kind) (Some (length body)))
    → IsTakenTitle allowed title (kind_header (kind_of kind) (Some (length body))) → IsWritable (kind_of kind) body
    → StringBehind allowed i count left ((before ++ title) ++ body)
    (with_front marks (kind_of kind) (length body) body)
string_behind {allowed} {marks = marks} kind title body (between r some tight) of_kind q taken sound = record {
  marks = marks ++ WholeMark (kind_of kind) body ∷ [];
  behind = (
    rw append_assoc (one_more r (omega (arith, some)) (string (kind_of kind) (definite q) (sound, tt))),
    rw append_assoc (tight_mark w.Nothing (WholeMark (kind_of kind) body) (title ++ body) tight
        (λ short. (body_spelled allowed kind kind title body taken refl short, tt, tt))),
  );
  out = simp (spelling-append, append-nil);
}
string_behind {allowed} {marks = marks} kind title body (in_open {kind = outer} {more = more} o some tight) of_kind q
    taken sound =
    let K = kind_of outer in
    record {
      marks = marks ++ Piece K body ∷ [];
      behind = in_open (rw append_assoc (grown o more (title ++ body) (body ∷ [])
          (add_string K (suc more) o.opens (title ++ body) o.bodies (body ∷ []) o.inside
          (definite (rw (← of_kind) at q)))
          (rw (← of_kind) at sound, tt))) some
          (rw append_assoc (tight_mark (w.Open outer more) (Piece K body) (title ++ body) tight
          (λ short. (body_spelled allowed kind outer title body taken of_kind short, tt, (tight short).flat))));
      out = rw (← of_kind) (simp (spelling-append, append-nil));
    }

-- ---- the spots that the bytes lead to

-- If a title is due after these bytes, a spot with an empty front waits for the title.
pub title_due : {allowed : Spelling} {count : ℕ} {bytes : List ℕ} {marks : List Mark} {spot : Spot}
    → Here allowed count spot.left bytes marks spot.within → spot.front ≡ []
    → Titling allowed count bytes spot (spelling marks)
title_due {bytes = bytes} {spot = spot} here bare =
    let is : bytes ≡ bytes ++ spot.front = simp (bare, append-nil) in search inl

pub due_leads : {allowed : Spelling} {count : ℕ} {bytes : List ℕ} {marks : List Mark} (left : ℕ) (spot : Spot)
    → RunLeft count left bytes marks → Tight allowed bytes marks w.Nothing → spot.front ≡ []
    → Holds allowed count bytes (elements_due left spot) (spelling marks)
due_leads {marks = marks} zero spot r tight bare = record { marks = marks; run = all_taken r tight; spelled = refl }
due_leads (suc left) spot r tight bare = title_due (between r (omega arith) tight) bare

done_leads : (allowed : Spelling) (count : ℕ) (bytes : List ℕ) (marks : List Mark) (i : Within) (spot : Spot)
    → i ≡ spot.within → Behind allowed i count spot.left bytes marks → spot.front ≡ []
    → Holds allowed count bytes (string_done i spot) (spelling marks)
done_leads allowed count bytes marks w.Nothing spot e r bare = due_leads (spot.left - 1) spot r.0 r.1 bare
done_leads allowed count bytes marks (w.Open kind more) spot e here bare = title_due (rw e at here) bare

-- A part of a body came, and the rest of the body is due.
module _ {allowed : Spelling} {kind : StringKind} {count len : ℕ} {before title : List ℕ} {marks : List Mark} where
  body_rest : {more : ℕ} {spot : Spot} (part : List ℕ)
      → Begun allowed kind count spot.left spot.place len before title marks spot.within
      → IsWritable (kind_of kind) part → length part + more ≡ len → spot.front ≡ []
      → Bodying allowed kind more count ((before ++ title) ++ part) spot (with_front marks (kind_of kind) len part)
  body_rest {more} {spot} part b sound long bare =
      let all : part ++ spot.front ≡ part = simp (bare, append-nil) in
      let counts : length (part ++ spot.front) + more ≡ len = rw all long in
      search (b, counts, ap (λ (z : List ℕ). (before ++ title) ++ z) (sym all))

pub body_leads : {allowed : Spelling} {count len : ℕ} {before title : List ℕ} {marks : List Mark} (kind : StringKind)
    (more : ℕ) (spot : Spot) (part : List ℕ)
    → Begun allowed kind count spot.left spot.place len before title marks spot.within
    → IsWritable (kind_of kind) part → length part + more ≡ len → spot.front ≡ []
    → Holds allowed count ((before ++ title) ++ part) (body_due kind more spot)
    (with_front marks (kind_of kind) len part)
body_leads {len = len} {title = title} kind zero spot part b sound long bare =
    let e : len ≡ length part = omega (arith, long) in
    let o = string_behind kind title part b.here b.of_kind (rw e at b.is_title) (rw e at b.taken) sound in
    rw (e, ← o.out) (done_leads _ _ _ _ spot.within spot refl o.behind bare)
body_leads k.Bytes (suc more) spot part b sound long bare = (body_rest part b sound long bare, bare, omega arith)
body_leads k.Text (suc more) spot part b sound long bare =
    (body_rest part b sound long bare, rw bare, le-leb 0 (suc more) (omega arith), omega arith)

-- ---- a whole title

break_bytes : {t : List ℕ} {x : Header} → IsTitle t x → x ≡ h.Break → t ≡ 0xff ∷ []
break_bytes (alone Other header o) e = refl
break_bytes (alone major header o) e = absurd cc
break_bytes (numbered Other Small n q) e = absurd cc
break_bytes (numbered major size n q) e = absurd cc

-- An empty list is a body of either kind.
empty_writable : (kind : StringKind) → IsWritable (kind_of kind) []
empty_writable k.Bytes = tt
empty_writable k.Text = IsCharacters-nil

module _ (allowed : Spelling) (count : ℕ) (before title : List ℕ) (marks : List Mark) where
  -- The title leads to this spot, which puts out the rest of the output.
  abbrev Leads : Spot → Type 0
  Leads new = Holds allowed count (before ++ title) new (spelling marks ++ new.put)

  string_titled : (kind : StringKind) (len : ℕ) (spot : Spot) → Here allowed count spot.left before marks spot.within
      → OfKind spot.within kind → IsTitle title (kind_header (kind_of kind) (Some len))
      → IsTakenTitle allowed title (kind_header (kind_of kind) (Some len)) → spot.front ≡ []
      → spot.place ≡ body_place spot.within before title (kind_header (kind_of kind) (Some len))
      → spot.put ≡ shortest_title (kind_header (kind_of kind) (Some len)) → Leads (body_due kind len spot)
  string_titled kind len spot here of_kind q taken bare named out =
      let b : Begun allowed kind count spot.left spot.place len before title marks spot.within = assumption in
      rw (body_kept kind len spot).2
      (simp (append-nil, ← out) at (body_leads kind len spot [] b (empty_writable kind) (omega arith) bare))

  -- A whole element with this last mark leads to the spot after an element.
  element_titled : (spot : Spot) (mark : Mark) → RunLeft count (spot.left - 1) (before ++ title) (marks ++ mark ∷ [])
      → Tight allowed (before ++ title) (marks ++ mark ∷ []) w.Nothing
      → spot.front ≡ [] → spot.put ≡ mark_spelling mark → Leads (element_done spot)
  element_titled spot mark r tight bare out =
      rw (due_kept (spot.left - 1) spot).2
      (simp (spelling-append, append-nil, ← out) at (due_leads {allowed = allowed} (spot.left - 1) spot r tight bare))

  -- A title is due at the new spot.
  due_titled : (new : Spot) (others : List Mark) → Here allowed count new.left (before ++ title) others new.within
      → new.front ≡ [] → spelling others ≡ spelling marks ++ new.put
      → Titling allowed count (before ++ title) (putting [] new) (spelling marks ++ new.put)
  due_titled new others here bare out = rw out at (title_due {spot = putting [] new} here bare)

  module _ (phase : Phase) (left place offset : ℕ) (some : 0 < left) (named : place ≡ length before)
      (counted : offset ≡ length (before ++ title)) where
    -- The spot with an empty front, which puts out these bytes.
    abbrev old : Within → List ℕ → Spot
    old i put = clear allowed phase i left place offset put

    -- An open within an open string leads to one more open string.
    inner_titled : (kind : StringKind) (more : ℕ) (o : InOpen (kind_of kind) more count left before marks)
        → Any ≡ allowed → IsTitle title (kind_header (kind_of kind) None)
        → Leads (string_open kind (suc more) (old (w.Open kind more) []))
    inner_titled kind more o any q =
        due_titled _ marks (in_open (grown_by o (suc more) title
        (add_open (kind_of kind) (suc more) o.opens title o.bodies o.inside q)) some
        (λ short. let both : Any ≡ Shortest = any ∙ short in absurd cc)) refl (simp append-nil)

    misplaced_titled : (kind : StringKind) (more : ℕ) → Here allowed count left before marks (w.Open kind more)
        → (header : Header) → IsRefusedIn allowed (kind_of kind) header → IsTitle title header
        → Leads (refused (old (w.Open kind more) []))
    misplaced_titled kind more here header bad q =
        breaks title (reaches here) (here_spelled here) refl 0 (λ y are long.
        (length title, rw (named, append-nil) (misplaced_fault (w.Open kind more) header y q bad refl)))

    -- An open within an open string is a fault, if only the shortest spelling is taken.
    open_within : (by : Spelling) (kind : StringKind) (more : ℕ)
        → Here allowed count left before marks (w.Open kind more) → by ≡ allowed
        → IsTitle title (kind_header (kind_of kind) None)
        → Leads (within_entered (piece_within by kind more None) (kind_header (kind_of kind) None)
        (old (w.Open kind more) []))
    open_within Any k.Bytes more (in_open o enough tight) e q = inner_titled k.Bytes more o e q
    open_within Any k.Text more (in_open o enough tight) e q = inner_titled k.Text more o e q
    open_within Shortest k.Bytes more here e q = misplaced_titled k.Bytes more here _ (inr (sym e, refl)) q
    open_within Shortest k.Text more here e q = misplaced_titled k.Text more here _ (inr (sym e, refl)) q

    break_titled : (kind : StringKind) (more : ℕ) → Here allowed count left before marks (w.Open kind more)
        → IsTitle title h.Break → Leads (piece_entered (closed kind more) h.Break (old (w.Open kind more) []))
    break_titled kind zero (in_open o enough tight) q =
        element_titled (old (w.Open kind zero) (shortest_title h.Break)) Close
        (rw (break_bytes q refl) (closes_last o (omega (arith, some))))
        (rw (break_bytes q refl) (tight_mark w.Nothing Close (0xff ∷ []) tight (λ short. (refl, tt, tt)))) refl refl
    break_titled kind (suc more) (in_open o enough tight) q =
        due_titled _ marks (in_open (rw (break_bytes q refl) (closes o)) some (λ short. absurd (tight short).flat)) refl
        (simp append-nil)

    -- The title of an element that is no string leads to the spot after an element.
    plain_titled : (header : Header) → RunLeft count left before marks → Tight allowed before marks w.Nothing
        → IsPlain header → IsTitle title header → IsTakenTitle allowed title header
        → Leads (element_done (old w.Nothing (shortest_title header)))
    plain_titled header r tight is_plain q taken =
        element_titled (old w.Nothing (shortest_title header)) (Plain header)
        (one_more r (omega (arith, some)) (plain header q is_plain))
        (tight_mark w.Nothing (Plain header) title tight (λ short.
        let is = taken_strictly allowed title header taken short in (is.shortest, is.meant, tt))) refl refl

    open_titled : (kind : StringKind) → RunLeft count left before marks → Tight allowed before marks w.Nothing
        → IsTitle title (kind_header (kind_of kind) None)
        → IsTakenTitle allowed title (kind_header (kind_of kind) None)
        → Leads (string_open kind zero (old w.Nothing (shortest_title (kind_header (kind_of kind) None))))
    open_titled kind r tight q taken =
        let inside : IsInsideAt (kind_of kind) 1 title [] = rw (append-nil title) at (one_open q none) in
        due_titled _ (marks ++ Open (kind_of kind) ∷ []) (in_open (search) some
        (tight_mark (w.Open kind zero) (Open (kind_of kind)) title tight
        (λ short. ((taken_strictly allowed title _ taken short).shortest, tt, tt)))) refl
        (simp (spelling-append, append-nil))

    pub title_leads : (i : Within) (header : Header) → Here allowed count left before marks i → IsTitle title header
        → IsTakenTitle allowed title header → Leads (entered i header (old i []))
    title_leads w.Nothing (h.Bytes (Some len)) here q taken =
        string_titled k.Bytes len _ here tt q taken refl (rw counted refl) refl
    title_leads w.Nothing (h.Text (Some len)) here q taken =
        string_titled k.Text len _ here tt q taken refl (rw counted refl) refl
    title_leads w.Nothing (h.Bytes None) (between r enough tight) q taken = open_titled k.Bytes r tight q taken
    title_leads w.Nothing (h.Text None) (between r enough tight) q taken = open_titled k.Text r tight q taken
    title_leads w.Nothing header (between r enough tight) q taken = plain_titled header r tight tt q taken
    title_leads (w.Open k.Bytes more) (h.Bytes (Some len)) here q taken =
        string_titled k.Bytes len _ here refl q taken refl named refl
    title_leads (w.Open k.Text more) (h.Text (Some len)) here q taken =
        string_titled k.Text len _ here refl q taken refl named refl
    title_leads (w.Open k.Bytes more) (h.Bytes None) here q taken = open_within allowed k.Bytes more here refl q
    title_leads (w.Open k.Text more) (h.Text None) here q taken = open_within allowed k.Text more here refl q
    title_leads (w.Open k.Bytes more) h.Break here q taken = break_titled k.Bytes more here q
    title_leads (w.Open k.Text more) h.Break here q taken = break_titled k.Text more here q
    title_leads (w.Open k.Bytes more) header here q taken =
        misplaced_titled k.Bytes more here header (inl tt) q
    title_leads (w.Open k.Text more) header here q taken =
        misplaced_titled k.Text more here header (inl tt) q
