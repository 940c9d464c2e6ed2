-- What a part of a piece makes of tokens.
use Rattle.std.proofs.Common.{◌≡◌, ℕ, zero, suc, ◌+◌, ◌-◌, ◌<◌, List, [], ◌∷◌, ◌++◌, length, Some, None}
use Rattle.std.proofs.Common.{refl, sym, ap, subst, ◌∙◌, arith, append-nil, append_assoc, length-append}
use Rattle.ciborium_ll_grammar.specs.declared.spelling.Spelling.{Spelling}
use Rattle.ciborium_ll_grammar.specs.declared.hdr.Header.{Header}
use Rattle.ciborium_ll_grammar.specs.declared.hdr.Header.TheVariants as h
use Rattle.ciborium_ll_grammar.specs.Title.{IsCutTitle}
use Rattle.ciborium_ll_text.specs.Text.{IsCharacters, IsStuck}
use Rattle.ciborium_ll_text.proofs.FrontLaws.{IsStuck-nil}
use Rattle.ciborium_ll_text.proofs.TextLaws.{IsCharacters-append, IsCharacters-nil}
use Rattle.cbor_parser.specs.declared.event.Event.{Event}
use Rattle.cbor_parser.specs.declared.event.Event.TheVariants as e
use Rattle.cbor_parser.specs.declared.parser.Parser.{Parser}
use Rattle.cbor_parser.specs.declared.strings.Within.{Within}
use Rattle.cbor_parser.specs.declared.strings.Within.TheVariants as w
use Rattle.cbor_parser.specs.Phases.{bytes_left, phase_after}
use Rattle.cbor_parser.specs.Parsing.{AreTokens, AtFault, AtTitle, CanEnd, InBytes, InText, IsParsed, IsPart}
use Rattle.cbor_parser.specs.Parsing.{IsTitleIn, Point, Token, at_title, bytes, in_body, left_of, more, no_text}
use Rattle.cbor_parser.specs.Parsing.{no_title, none, point_at, point_of, text, token}
use Rattle.cbor_parser.specs.Events.{title_event}
use Rattle.cbor_parser.specs.Pushing.{EndsWithTitle, Enters, HasPushed, Tells, grown, text_point}
use Rattle.cbor_parser.proofs.TextEnds.{any_end}

-- Nothing was pushed.
pub nothing : (allowed : Spelling) (front : List ℕ) → front ≡ [] → IsParsed allowed [] [] (AtTitle w.Nothing front)
nothing allowed front e =
    subst (λ (f : List ℕ). IsParsed allowed [] [] (AtTitle w.Nothing f)) (sym e) (at_title none tt refl)

-- Three lists and more of the last one.
joined : (b d t y part : List ℕ) → b ≡ d ++ (t ++ y) → b ++ part ≡ d ++ (t ++ (y ++ part))
joined b d t y part is =
    ap (λ (z : List ℕ). z ++ part) is
    ∙ (append_assoc d (t ++ y) part ∙ ap (λ (z : List ℕ). d ++ z) (append_assoc t y part))

-- ---- titles

-- Within a body, no title is due.
not_title : (within : Within) (place : ℕ) (header : Header) (part body : List ℕ) (point : Point) (other : Within)
    (title : List ℕ) → IsPart within place header part body point → point ≡ AtTitle other title → ⊥
not_title within place header part body point other title (bytes long due) e = cc e
not_title within place header part body point other title (text chars stuck can long due) e = cc e
not_title within place header part body point other title (no_text chars stuck can long) e = cc e

-- A part of a title.
pub title_on : (allowed : Spelling) (b : List ℕ) (tokens : List Token) (within : Within) (title part : List ℕ)
    → IsParsed allowed b tokens (AtTitle within title) → IsCutTitle (title ++ part)
    → IsParsed allowed (b ++ part) tokens (AtTitle within (title ++ part))
title_on allowed b tokens within title part (at_title {done = d} are cut is) goes =
    at_title are goes (ap (λ (z : List ℕ). z ++ part) is ∙ append_assoc d title part)
title_on allowed b tokens within title part (in_body are title' part' is) goes =
    absurd (not_title _ _ _ _ _ _ within title part' refl)

-- A whole title, from `start` to `end`.
entered : (allowed : Spelling) (b d t : List ℕ) (tokens : List Token) (before after : Within) (start end : ℕ)
    (header : Header) → AreTokens allowed d tokens before → IsTitleIn allowed before t header after → b ≡ d ++ t
    → start ≡ length d → end ≡ length (d ++ t)
    → IsParsed allowed b (token header [] ∷ tokens) (point_at (phase_after before start end header) after [])
entered allowed b d t tokens before after start end (h.Bytes (Some (suc len))) are is_title is from to =
    in_body are is_title (bytes {len = suc len} {body = []} (omega arith) (omega arith))
    (is ∙ ap (λ (z : List ℕ). d ++ z) (sym (append-nil t)))
entered allowed b d t tokens before after start end (h.Text (Some (suc len))) are is_title is from to =
    rw (from, to)
    (in_body are is_title
    (text {len = suc len} {body = []} {carried = []} IsCharacters-nil IsStuck-nil (any_end (suc len)) (omega arith)
    (omega arith))
    (is ∙ ap (λ (z : List ℕ). d ++ z) (sym (append-nil t))))
entered allowed b d t tokens before after start end (h.Text (Some zero)) are is_title is from to =
    at_title (more {body = []} are is_title refl IsCharacters-nil) tt
    (is ∙ (ap (λ (z : List ℕ). d ++ z) (sym (append-nil t)) ∙ sym (append-nil (d ++ (t ++ [])))))
entered allowed b d t tokens before after start end (h.Text None) are is_title is from to =
    at_title (more {body = []} are is_title refl IsCharacters-nil) tt
    (is ∙ (ap (λ (z : List ℕ). d ++ z) (sym (append-nil t)) ∙ sym (append-nil (d ++ (t ++ [])))))
entered allowed b d t tokens before after start end header are is_title is from to =
    at_title (more {body = []} are is_title refl tt) tt
    (is ∙ (ap (λ (z : List ℕ). d ++ z) (sym (append-nil t)) ∙ sym (append-nil (d ++ (t ++ [])))))

-- What is pushed with a whole title, and where it begins.
whole_title : (allowed : Spelling) (b d part : List ℕ) (tokens : List Token) (within after : Within)
    (front title : List ℕ)
    (start end offset : ℕ) (header : Header) (new : Parser) → AreTokens allowed d tokens within → b ≡ d ++ front
    → title ≡ front ++ part → start ≡ length b - length front → end ≡ length b + length part
    → IsTitleIn allowed within title header after → offset ≡ start
    → point_of new ≡ point_at (phase_after within start end header) after [] → new.spelling ≡ allowed
    → new.offset ≡ end
    → HasPushed allowed (b ++ part) (token header [] ∷ tokens) new
    × EndsWithTitle allowed (b ++ part) tokens within header offset
whole_title allowed b d part tokens within after front title start end offset header new are is e from to is_title place
    point spelling counted =
    let whole : b ++ part ≡ d ++ title =
    ap (λ (z : List ℕ). z ++ part) is ∙ (append_assoc d front part ∙ ap (λ (z : List ℕ). d ++ z) (sym e)) in
    let long = ap length is ∙ length-append d front in
    let at : start ≡ length d = omega (arith, from, long) in
    let ends : end ≡ length (d ++ title) = to ∙ (sym (length-append b part) ∙ ap length whole) in (
      record {
        parsed = subst (λ (q : Point). IsParsed allowed (b ++ part) (token header [] ∷ tokens) q) (sym point)
            (entered allowed (b ++ part) d title tokens within after start end header are is_title whole at ends);
        spelling = spelling;
        offset = counted ∙ (to ∙ sym (length-append b part));
      },
      record {
        done = d;
        title = title;
        are = are;
        is_title = is_title.is_title;
        whole = whole;
        place = place ∙ at;
      },
    )

-- The event of a whole title that is taken.
pub enters_of : (allowed : Spelling) (before after : Within) (title : List ℕ) (start end : ℕ) (header : Header)
    (point : Point) → IsTitleIn allowed before title header after
    → point ≡ point_at (phase_after before start end header) after []
    → Enters allowed before title start end (title_event before header start) point
enters_of allowed w.Nothing after title start end header point is e = (after, is, refl, e, refl)
enters_of allowed (w.Open kind m) after title start end h.Break point is e = (after, is, refl, e, refl)
enters_of allowed (w.Open kind m) after title start end header point is e = (after, is, refl, e, refl)

-- What an event says of a whole title.
pub title_tells : (allowed : Spelling) (b part all : List ℕ) (tokens : List Token) (within : Within)
    (front title : List ℕ)
    (start end : ℕ) (event : Event) (new : Parser) → IsParsed allowed b tokens (AtTitle within front)
    → title ≡ front ++ part → start ≡ length b - length front → end ≡ length b + length part
    → Enters allowed within title start end event (point_of new) → new.spelling ≡ allowed → new.offset ≡ end
    → Tells allowed b tokens part all event new
title_tells allowed b part all tokens within front title start end (e.Header header offset)
    new (at_title {done = d} are cut is) e from to (after, is_title, place, point, event) spelling counted =
    let o = whole_title allowed b d part tokens within after front title start end offset header new are is e from to
    is_title place point spelling counted in
    (o.0, (within, o.1, event))
title_tells allowed b part all tokens within front title start end (e.Close offset)
    new (at_title {done = d} are cut is) e from to (after, is_title, place, point, event) spelling counted =
    let o = whole_title allowed b d part tokens within after front title start end offset h.Break new are is e from to
    is_title place point spelling counted in
    (o.0, (within, o.1, event))
title_tells allowed b part all tokens within front title start end (e.Fault place)
    new (at_title {done = d} are cut is) e from to (bad, same, point) spelling counted =
    let whole : b ++ part ≡ d ++ title =
    ap (λ (z : List ℕ). z ++ part) is ∙ (append_assoc d front part ∙ ap (λ (z : List ℕ). d ++ z) (sym e)) in
    let long = ap length is ∙ length-append d front in
    let at : start ≡ length d = omega (arith, from, long) in (
      record {
        parsed = subst (λ (q : Point). IsParsed allowed (b ++ part) tokens q) (sym (point ∙ ap AtFault at))
            (no_title are bad whole);
        spelling = spelling;
        offset = counted ∙ (to ∙ sym (length-append b part));
      },
      point ∙ ap AtFault (sym same),
    )
title_tells allowed b part all tokens within front title start end (e.Need due) new (at_title are cut is) e from to
    enters spelling counted = elim enters [ ]
title_tells allowed b part all tokens within front title start end (e.Body left) new (at_title are cut is) e from to
    enters spelling counted = elim enters [ ]
title_tells allowed b part all tokens within front title start end (e.Text carried left) new (at_title are cut is) e
    from
    to enters spelling counted = elim enters [ ]
title_tells allowed b part all tokens within front title start end e.TooLong new (at_title are cut is) e from to enters
    spelling counted = elim enters [ ]
title_tells allowed b part all tokens within front title start end event new (in_body are title' part' is) e from to
    enters spelling counted = absurd (not_title _ _ _ _ _ _ within front part' refl)

-- ---- bodies

-- A part of a body of a byte string.
pub bytes_on : (allowed : Spelling) (b : List ℕ) (tokens : List Token) (within : Within) (left : ℕ)
    → IsParsed allowed b tokens (InBytes within left) → (part : List ℕ) (rest : ℕ) → length part + rest ≡ left
    → IsParsed allowed (b ++ part) (grown tokens part) (point_at (bytes_left rest) within [])
bytes_on allowed b tokens within left (in_body {done = d} {title = t} are is_title (bytes {body = y} long due) is) part
    zero e =
    at_title (more are is_title (omega (arith, long, e, length-append y part)) tt) tt
    (joined b d t y part is ∙ sym (append-nil (d ++ (t ++ (y ++ part)))))
bytes_on allowed b tokens within left (in_body {done = d} {title = t} are is_title (bytes {body = y} long due) is) part
    (suc rest) e =
    in_body are is_title (bytes (omega (arith, long, e, length-append y part)) (omega arith)) (joined b d t y part is)

-- What the body lacks.
pub bytes_lack : (rest : ℕ) (within : Within) → rest ≡ left_of (point_at (bytes_left rest) within [])
bytes_lack zero within = refl
bytes_lack (suc rest) within = refl

pub text_lacks : (rest place : ℕ) (within : Within) → rest ≡ left_of (text_point within rest place)
text_lacks zero place within = refl
text_lacks (suc rest) place within = refl

-- A part of a text.
pub text_on : (allowed : Spelling) (b : List ℕ) (tokens : List Token) (within : Within) (carried : List ℕ)
    (left place : ℕ)
    → IsParsed allowed b tokens (InText within carried left place) → (part : List ℕ) (rest : ℕ)
    → length part + rest ≡ left → IsCharacters (carried ++ part)
    → IsParsed allowed (b ++ part) (grown tokens (carried ++ part)) (text_point within rest place)
text_on allowed b tokens within carried left place
    (in_body {done = d} {title = t} {tokens = ts} are is_title (text {len = len} {body = y} chars stuck can long due)
    is) part rest e whole =
    by_rest rest refl
  where
    all : b ++ part ≡ d ++ (t ++ (y ++ (carried ++ part)))
    all = joined b d t (y ++ carried) part is ∙ ap (λ (z : List ℕ). d ++ (t ++ z)) (append_assoc y carried part)

    body : IsCharacters (y ++ (carried ++ part))
    body = IsCharacters-append y (carried ++ part) chars whole

    counted : length (y ++ (carried ++ part)) + rest ≡ len
    counted = omega (arith, long, e, length-append y (carried ++ part), length-append carried part)

    by_rest : (n : ℕ) → n ≡ rest
        → IsParsed allowed (b ++ part) (token (h.Text (Some len)) (y ++ (carried ++ part)) ∷ ts)
        (text_point within n place)
    by_rest zero same =
        at_title (more are is_title (omega (arith, counted, same)) body) tt
        (all ∙ sym (append-nil (d ++ (t ++ (y ++ (carried ++ part))))))
    by_rest (suc n) same =
        in_body are is_title
        (text {len = len} {carried = []} body IsStuck-nil (any_end (suc n)) (omega (arith, counted, same))
        (omega arith))
        (all ∙ ap (λ (z : List ℕ). d ++ (t ++ z)) (sym (append-nil (y ++ (carried ++ part)))))

-- More of a character that is cut.
pub text_cut : (allowed : Spelling) (b : List ℕ) (tokens : List Token) (within : Within) (carried : List ℕ)
    (left place : ℕ)
    → IsParsed allowed b tokens (InText within carried left place) → (part : List ℕ) (rest : ℕ)
    → length part + rest ≡ left → IsStuck (carried ++ part) → CanEnd (carried ++ part) rest → 0 < rest
    → IsParsed allowed (b ++ part) tokens (InText within (carried ++ part) rest place)
text_cut allowed b tokens within carried left place
    (in_body {done = d} {title = t} are is_title (text {body = y} chars stuck can long due) is) part rest e held goes
    some =
    in_body are is_title
    (text chars held goes (omega (arith, long, e, length-append carried part)) some)
    (joined b d t (y ++ carried) part is ∙ ap (λ (z : List ℕ). d ++ (t ++ z)) (append_assoc y carried part))

-- Bytes with which no text goes on.
pub text_fault : (allowed : Spelling) (b : List ℕ) (tokens : List Token) (within : Within) (carried : List ℕ)
    (left place : ℕ) → IsParsed allowed b tokens (InText within carried left place) → (part : List ℕ) (rest : ℕ)
    → length part + rest ≡ left → IsStuck (carried ++ part) → (CanEnd (carried ++ part) rest → ⊥)
    → IsParsed allowed (b ++ part) tokens (AtFault place)
text_fault allowed b tokens within carried left place
    (in_body {done = d} {title = t} are is_title (text {body = y} chars stuck can long due) is) part rest e held stops =
    in_body are is_title
    (no_text chars held stops (omega (arith, long, e, length-append carried part)))
    (joined b d t (y ++ carried) part is ∙ ap (λ (z : List ℕ). d ++ (t ++ z)) (append_assoc y carried part))

-- If nothing is under way, the bytes are whole tokens.
pub whole_tokens : (allowed : Spelling) (b : List ℕ) (tokens : List Token) (within : Within)
    → IsParsed allowed b tokens (AtTitle within []) → AreTokens allowed b tokens within
whole_tokens allowed b tokens within (at_title {done = d} are cut is) =
    subst (λ (x : List ℕ). AreTokens allowed x tokens within) (sym (is ∙ append-nil d)) are
whole_tokens allowed b tokens within (in_body are title part is) = absurd (not_title _ _ _ _ _ _ within [] part refl)
