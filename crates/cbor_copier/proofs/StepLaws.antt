-- One more byte leads on in terms of the elements so far. So do all bytes so far, and they lead to one spot.
use Rattle.std.proofs.Common.{◌⊎◌, ◌≡◌, ℕ, zero, suc, ◌+◌, ◌-◌, ◌%◌, ◌<◌, ◌≤◌, Bool, true, false, List, [], ◌∷◌, ◌++◌}
use Rattle.std.proofs.Common.{length, take, drop, refl, sym, ap, subst, ◌∙◌, arith, inl, inr, append_assoc, append-nil}
use Rattle.std.proofs.Common.{length-append, length-take-le, take-append-drop}
use Rattle.std.proofs.Math.Seq.{take-append-add}
use Rattle.ciborium_ll_grammar.specs.declared.spelling.Spelling.{Spelling}
use Rattle.ciborium_ll_grammar.specs.declared.hdr.Header.{Header}
use Rattle.ciborium_ll_grammar.specs.Title.{IsTitle, IsCutTitle, BeginsRefused, AreBytes, affix_len}
use Rattle.ciborium_ll_grammar.specs.Strings.{IsWritable}
use Rattle.ciborium_ll_grammar.specs.Elements.{Mark, spelling, done}
use Rattle.ciborium_ll_grammar.specs.Faults.{BodyDue, Reaches, body, body_inside, IsAtTitle, Syntax, with_front}
use Rattle.ciborium_ll_grammar.specs.Faults.{FirstFault, LongTitle, NoTitle, DamagedText}
use Rattle.ciborium_ll_grammar.proofs.AffixLaws.{title_or_refused, AreBytes-append, AreBytes-take, refused_affix}
use Rattle.ciborium_ll_grammar.proofs.AffixLaws.{title_not_cut}
use Rattle.ciborium_ll_grammar.proofs.SpelledLaws.{spelled_none, spelled_title}
use Rattle.ciborium_ll_text.specs.declared.state.State.{State}
use Rattle.ciborium_ll_text.specs.declared.state.State.TheVariants as s
use Rattle.ciborium_ll_text.specs.States.{after, after_byte, may_end}
use Rattle.ciborium_ll_text.specs.Text.{IsCharacters}
use Rattle.ciborium_ll_text.proofs.EndLaws.{none_left, text_may_end}
use Rattle.ciborium_ll_text.proofs.StateLaws.{after-append, text_ends, text_from}
use Rattle.ciborium_ll_text.proofs.TextLaws.{IsCharacters-append}
use Rattle.ciborium_ll_grammar.proofs.TitleKinds.{affix_most}
use Rattle.cbor_copier.specs.declared.phase.Phase.{Phase}
use Rattle.cbor_copier.specs.declared.phase.Phase.TheVariants as p
use Rattle.cbor_parser.specs.declared.strings.StringKind.{StringKind}
use Rattle.cbor_parser.specs.declared.strings.StringKind.TheVariants as k
use Rattle.cbor_parser.specs.declared.strings.Within.{Within}
use Rattle.cbor_parser.specs.declared.strings.Within.TheVariants as w
use Rattle.cbor_parser.specs.Strings.{kind_of}
use Rattle.cbor_parser.specs.Titles.{NoneTaken, SomeTaken}
use Rattle.cbor_copier.specs.Spots.{Spot, putting, body_due}
use Rattle.cbor_copier.specs.Steps.{title_place, with_byte, TitleStep, cut, early, whole, none, start, with_char}
use Rattle.cbor_copier.specs.Steps.{char_put, text_left, byte_put, StepIn, IsFed, fresh, more, titled}
use Rattle.cbor_copier.proofs.EnterLaws.{reaches, breaks, some_due, misplaced_fault, title_leads, body_leads, due_leads}
use Rattle.cbor_copier.proofs.EnterLaws.{Spelled, here_spelled, here_tight, taken_strictly}
use Rattle.cbor_copier.proofs.KeptLaws.{body_kept, enters, steps}
use Rattle.cbor_copier.proofs.Reached.{Misplaced, place_of, FrontAt, Titling, Begun, Bodying, Broken, HoldsIn}
use Rattle.cbor_copier.proofs.Reached.{Holds}
use Rattle.ciborium_ll_grammar.proofs.TitleLaws.{one_title}
use Rattle.ciborium_ll_text.proofs.Lists.{same_front}

-- ---- a title that was begun

-- The bytes end a title that begins with this front.
pub record Continued (front bytes : List ℕ) : Type 0 where
  pub more : List ℕ
  pub more_bytes : AreBytes more
  pub rest : List ℕ
  pub header : Header
  pub is_title : IsTitle (front ++ more) header
  pub is : bytes ≡ more ++ rest

-- Eight bytes end each title that was begun.
pub continued : (front bytes : List ℕ) → 0 < length front → AreBytes front → AreBytes bytes → IsCutTitle front
    → 8 ≤ length bytes → Continued front bytes
continued [] bytes some are are' is_cut long = absurd (omega (arith, some))
continued (first ∷ front) bytes some are are' is_cut long =
    let lacks = affix_len (first % 32) - length front in
    let behind = take lacks bytes in
    let fits = length-take-le lacks bytes (omega (arith, long, affix_most (first % 32))) in
    elim (title_or_refused first (front ++ behind) are.0
    (AreBytes-append front behind are.1 (AreBytes-take lacks bytes are'))
    (omega (arith, is_cut, fits, length-append front behind))) [
      | inl r ↦ absurd (omega (arith, refused_affix first r, is_cut))
      | inr o ↦ record {
        more = behind;
        more_bytes = AreBytes-take lacks bytes are';
        rest = drop lacks bytes;
        header = o.0;
        is_title = o.1;
        is = sym (take-append-drop lacks bytes);
      }
    ]

continued_fault : {allowed : Spelling} {before front bytes : List ℕ} {marks : List Mark} (i : Within)
    (o : Continued front bytes) → Misplaced allowed i o.header
    → FirstFault allowed before marks (place_of i) (front ++ bytes) (Syntax (length before)) (spelling marks)
    (length (front ++ o.more))
continued_fault i o bad = misplaced_fault i o.header o.rest o.is_title bad (simp (o.is, append_assoc))

-- The bytes begin with a whole title.
record Titled (bytes : List ℕ) : Type 0 where
  title : List ℕ
  rest : List ℕ
  header : Header
  is_title : IsTitle title header
  is : bytes ≡ title ++ rest

-- Nine bytes begin with a whole title, or none begins so.
first_title : (bytes : List ℕ) → AreBytes bytes → 9 ≤ length bytes → BeginsRefused bytes ⊎ Titled bytes
first_title [] are long = absurd (omega (arith, long))
first_title (b ∷ bytes) are long =
    let n = affix_len (b % 32) in
    let fits = length-take-le n bytes (omega (arith, long, affix_most (b % 32))) in
    elim (title_or_refused b (take n bytes) are.0 (AreBytes-take n bytes are.1) fits) [
      | inl r ↦ inl r
      | inr o ↦ inr (record {
        title = b ∷ take n bytes;
        rest = drop n bytes;
        header = o.0;
        is_title = o.1;
        is = ap (λ (z : List ℕ). b ∷ z) (sym (take-append-drop n bytes));
      })
    ]

pub at_title : (i : Within) → IsAtTitle (place_of i)
at_title w.Nothing = tt
at_title (w.Open kind others) = tt

-- ---- a byte of a title

front_place : (allowed : Spelling) (i : Within) (front bytes before : List ℕ) (spot : Spot)
    → spot.offset ≡ length bytes → bytes ≡ before ++ front
    → FrontAt allowed i (length before) spot.place front → title_place front spot ≡ length before
front_place allowed i [] bytes before spot counted is f = counted ∙ simp (is, append-nil)
front_place allowed i (byte ∷ front) bytes before spot counted is (inl e) = absurd cc
front_place allowed i (byte ∷ front) bytes before spot counted is (inr o) = o.3

pub front_bytes : (allowed : Spelling) (i : Within) (at place b : ℕ) (front : List ℕ) → b < 256
    → FrontAt allowed i at place front → AreBytes (front ++ b ∷ [])
front_bytes allowed i at place b front byte (inl e) = rw e (byte, tt)
front_bytes allowed i at place b front byte (inr o) = AreBytes-append front (b ∷ []) o.0 (byte, tt)

module _ (count b : ℕ) (byte : b < 256) (bytes output : List ℕ) (spot : Spot)
    (due : Titling spot.allowed count bytes (putting [] spot) output) (counted : spot.offset ≡ length bytes) where
  whole_is : bytes ++ b ∷ [] ≡ due.before ++ (spot.front ++ b ∷ [])
  whole_is = simp (due.is, append_assoc)

  named : title_place spot.front spot ≡ length due.before
  named = front_place spot.allowed spot.within spot.front bytes due.before spot counted due.is due.front

  sound : AreBytes (spot.front ++ b ∷ [])
  sound = front_bytes spot.allowed spot.within (length due.before) spot.place b spot.front byte due.front

  broken_title : (need : ℕ) → ((y : List ℕ) → AreBytes y → need ≤ length y → (consumed : ℕ)
      × FirstFault spot.allowed due.before due.marks (place_of spot.within) ((spot.front ++ b ∷ []) ++ y)
      (Syntax (length due.before)) (spelling due.marks) consumed)
      → Broken spot.allowed (with_byte b spot).place count (bytes ++ b ∷ []) (output ++ [])
  broken_title need each =
      breaks (spot.front ++ b ∷ []) (reaches due.here) (here_spelled due.here) whole_is need
      (rw (named, append-nil output, due.out) each)

  -- No title that is taken begins so.
  none_fault : NoneTaken spot.allowed (spot.front ++ b ∷ []) → (y : List ℕ) → AreBytes y → 8 ≤ length y → (consumed : ℕ)
      × FirstFault spot.allowed due.before due.marks (place_of spot.within) ((spot.front ++ b ∷ []) ++ y)
      (Syntax (length due.before)) (spelling due.marks) consumed
  none_fault never y are long =
      let all = (spot.front ++ b ∷ []) ++ y in
      elim (first_title all (AreBytes-append (spot.front ++ b ∷ []) y sound are)
      (omega (arith, long, length-append (spot.front ++ b ∷ []) y, length-append spot.front (b ∷ [])))) [
        | inl r ↦ (1, NoTitle (at_title spot.within) r)
        | inr o ↦ (
          length o.title,
          LongTitle o.header o.rest (at_title spot.within) o.is_title
              (λ taken. never y o.title o.rest o.header o.is_title taken o.is) o.is,
        )
      ]

  title_step : (new : Spot) → TitleStep (with_byte b spot) new → spot.phase ≡ p.Title
      → Holds spot.allowed count (bytes ++ b ∷ []) new (output ++ new.put)
  title_step new (cut c some may) e =
      let front : FrontAt spot.allowed spot.within (length due.before) (title_place spot.front spot)
      (spot.front ++ b ∷ []) =
      inr (
        sound,
        c,
        λ y header q bad. may y header q ((enters spot.within header _).misplaced bad),
        named,
        omega (arith, length-append spot.front (b ∷ [])),
        some,
      ) in
      subst (λ (z : Phase). HoldsIn spot.allowed z count (bytes ++ b ∷ []) (with_byte b spot) (output ++ [])) (sym e)
      (search (whole_is, append-nil output ∙ due.out))
  title_step new (early c some all) e =
      broken_title 8 (λ y are long.
      let o = continued (spot.front ++ b ∷ []) y (omega (arith, length-append spot.front (b ∷ []))) sound are c long in
      (_, continued_fault spot.within o ((enters spot.within o.header _).faults (all o.more o.header o.is_title))))
  title_step new (whole header q taken) e =
      rw (whole_is, due.out) (title_leads spot.allowed count due.before (spot.front ++ b ∷ []) due.marks spot.phase
      spot.left
      (title_place spot.front spot) (spot.offset + 1) (some_due due.here) named
      (omega (arith, counted, ap length whole_is, length-append bytes (b ∷ []))) spot.within header due.here q taken)
  title_step new (none never) e = broken_title 8 (none_fault never)

-- ---- a byte of a body

pub body_reached : {allowed : Spelling} {kind : StringKind} {count left place len : ℕ} {before title : List ℕ}
    {marks : List Mark} (i : Within) → Begun allowed kind count left place len before title marks i
    → Reaches count (before ++ title) marks (BodyDue (kind_of kind) len place)
body_reached {kind} w.Nothing b = rw b.named (body (kind_of kind) (reaches b.here) b.is_title)
body_reached (w.Open outer others) b = rw b.named (body_inside (rw b.of_kind at (reaches b.here)) b.is_title)

-- Everything before a body is in its shortest spelling, if only this is taken.
pub body_tight : {allowed : Spelling} {kind : StringKind} {count left place len : ℕ} {before title : List ℕ}
    {marks : List Mark} {i : Within} → Begun allowed kind count left place len before title marks i
    → Spelled allowed (before ++ title) marks (BodyDue (kind_of kind) len place)
body_tight {allowed} {before = before} {title = title} {marks = marks} b = λ short.
    spelled_title before marks title _ (here_tight b.here short).spelled
    (taken_strictly allowed title _ b.taken short).shortest

module _ (kind : StringKind) (count left b : ℕ) (bytes output : List ℕ) (spot : Spot)
    (due : Bodying spot.allowed kind (suc left) count bytes spot output) where
  body_is : bytes ++ b ∷ [] ≡ (due.before ++ due.title) ++ (due.part ++ (spot.front ++ b ∷ []))
  body_is = simp (due.is, append_assoc)

  body_long : length (due.part ++ (spot.front ++ b ∷ [])) + left ≡ due.len
  body_long =
      omega (
        arith,
        due.long,
        length-append due.part spot.front,
        length-append due.part (spot.front ++ b ∷ []),
        length-append spot.front (b ∷ []),
      )

  -- A byte of a body is put out with the bytes that were held back.
  put_leads : (new : Spot)
      → Begun spot.allowed kind count new.left new.place due.len due.before due.title due.marks new.within
      → new.front ≡ [] → new.put ≡ spot.front ++ b ∷ []
      → IsWritable (kind_of kind) (due.part ++ (spot.front ++ b ∷ []))
      → Holds spot.allowed count (bytes ++ b ∷ []) (body_due kind left new) (output ++ (body_due kind left new).put)
  put_leads new begun bare out sound =
      let all : output ++ (body_due kind left new).put
      ≡ with_front due.marks (kind_of kind) due.len (due.part ++ (spot.front ++ b ∷ [])) =
      simp ((body_kept kind left new).2, out, due.out, append_assoc) in
      rw (body_is, all) (body_leads kind left new _ begun sound body_long bare)

-- ---- a byte of a text

some_left : (state : State) (left : ℕ) → may_end state left ≡ true → (state ≡ s.Between → ⊥) → 0 < left
some_left state zero may inner = absurd (inner (none_left state may))
some_left state (suc left) may inner = omega arith

module _ (count left b : ℕ) (bytes output : List ℕ) (spot : Spot) (state : State)
    (due : Bodying spot.allowed k.Text (suc left) count bytes spot output)
    (state_is : state ≡ after s.Between spot.front) where
  -- The bytes of the body so far.
  abbrev ahead : List ℕ
  ahead = due.part ++ (spot.front ++ b ∷ [])

  behind_char : after_byte state b ≡ after s.Between (spot.front ++ b ∷ [])
  behind_char = simp (state_is, after-append)

  behind_body : after_byte state b ≡ after s.Between ahead
  behind_body = rw (after-append s.Between due.part, text_ends due.part due.sound) behind_char

  ahead_long : length ahead + left ≡ due.len
  ahead_long = body_long k.Text count left b bytes output spot due

  front_is : (y : List ℕ) → take due.len (ahead ++ y) ≡ ahead ++ take left y
  front_is y = rw (← ahead_long) (take-append-add ahead y left)

  -- If the text may not end after the byte, no text begins with these bytes.
  no_text : may_end (after_byte state b) left ≡ false → (y : List ℕ) → left ≤ length y
      → IsCharacters (take due.len (ahead ++ y)) → ⊥
  no_text never y fits text =
      let ends : after (after_byte state b) (take left y) ≡ s.Between =
      rw (behind_body, ← after-append s.Between ahead) (text_ends (ahead ++ take left y) (rw (front_is y) at text)) in
      let may = rw (length-take-le left y fits) at (text_may_end (after_byte state b) (take left y) ends) in cc

  broken_text : may_end (after_byte state b) left ≡ false
      → Broken spot.allowed spot.place count (bytes ++ b ∷ []) (output ++ [])
  broken_text never =
      breaks ahead (body_reached spot.within due.begun) (body_tight due.begun)
      (body_is k.Text count left b bytes output spot due) left
      (λ y are long. (
        length due.part,
        rw (append-nil output, due.out)
            (DamagedText {len = due.len} {consumed = length due.part} {ahead = ahead ++ y} due.part
            ((spot.front ++ b ∷ []) ++ take left y) (omega (arith, ahead_long, long, length-append ahead y))
            (no_text never y long) (front_is y ∙ append_assoc due.part (spot.front ++ b ∷ []) (take left y)) due.sound
            (omega arith) (omega (arith, ahead_long, length-append due.part (spot.front ++ b ∷ [])))),
      ))

  text_step : (may : Bool) (next : State) → next ≡ after_byte state b → may_end (after_byte state b) left ≡ may
      → Holds spot.allowed count (bytes ++ b ∷ []) (text_left may left next (with_char b spot))
      (output ++ (text_left may left next (with_char b spot)).put)
  text_step false next e never = broken_text never
  text_step true s.Between e may =
      put_leads k.Text count left b bytes output spot due (char_put (with_char b spot)) due.begun refl refl
      (IsCharacters-append due.part (spot.front ++ b ∷ []) due.sound
      (text_from (spot.front ++ b ∷ []) (sym behind_char ∙ sym e)))
  text_step true next e may = (
    search (body_is k.Text count left b bytes output spot due, ahead_long, append-nil output ∙ due.out),
    e ∙ behind_char,
    rw (← e) at may,
    some_left next left (rw (← e) at may) (λ between. cc),
  )

-- ---- one more byte

step_holds : (phase : Phase) (count b : ℕ) (bytes output : List ℕ) (spot new : Spot) → phase ≡ spot.phase → b < 256
    → spot.offset ≡ length bytes → HoldsIn spot.allowed phase count bytes (putting [] spot) output
    → StepIn phase spot b new → Holds spot.allowed count (bytes ++ b ∷ []) new (output ++ new.put)
step_holds p.Title count b bytes output spot new at byte counted o step =
    title_step count b byte bytes output spot o counted new step (sym at)
step_holds (p.Bytes (suc left)) count b bytes output spot new at byte counted o step =
    rw step (put_leads k.Bytes count left b bytes output (putting [] spot) o.0 (byte_put b spot) o.0.begun o.1
    (rw o.1) tt)
step_holds (p.Text (suc left) state) count b bytes output spot new at byte counted o step =
    rw step (text_step count left b bytes output (putting [] spot) state o.0 o.1 _ (after_byte state b) refl refl)
step_holds phase count b bytes output spot new at byte counted o step = absurd step

-- ---- all

start_counts : (allowed : Spelling) (count : ℕ)
    → ((start allowed count).offset ≡ 0) × ((start allowed count).allowed ≡ allowed)
start_counts allowed zero = (refl, refl)
start_counts allowed (suc count) = (refl, refl)

pub fed_counts : (allowed : Spelling) (count : ℕ) (bytes output : List ℕ) (spot : Spot)
    → IsFed allowed count bytes spot output → spot.offset ≡ length bytes
fed_counts allowed count bytes output spot fresh = (start_counts allowed count).0
fed_counts allowed count bytes output spot (more {bytes = a} {output = before} {spot = old} b new byte is step) =
    omega (
      arith,
      fed_counts allowed count a before old is,
      (steps old.phase old new b step).0,
      length-append a (b ∷ []),
    )

-- The spelling stays.
pub fed_allowed : (allowed : Spelling) (count : ℕ) (bytes output : List ℕ) (spot : Spot)
    → IsFed allowed count bytes spot output → spot.allowed ≡ allowed
fed_allowed allowed count bytes output spot fresh = (start_counts allowed count).1
fed_allowed allowed count bytes output spot (more {bytes = a} {output = before} {spot = old} b new byte is step) =
    (steps old.phase old new b step).2 ∙ fed_allowed allowed count a before old is

pub fed_holds : (allowed : Spelling) (count : ℕ) (bytes output : List ℕ) (spot : Spot)
    → IsFed allowed count bytes spot output → Holds allowed count bytes spot output
fed_holds allowed count bytes output spot fresh =
    due_leads {allowed = allowed} count _ (record { before = 0; run = done; counted = omega arith })
    (λ short. record { spelled = spelled_none; flat = tt }) refl
fed_holds allowed count bytes output spot (more {bytes = a} {output = before} {spot = old} b new byte is step) =
    let same = fed_allowed allowed count a before old is in
    subst (λ (z : Spelling). Holds z count (a ++ b ∷ []) new (before ++ new.put)) same
    (step_holds old.phase count b a before old new refl byte (fed_counts allowed count a before old is)
    (subst (λ (z : Spelling). Holds z count a old before) (sym same) (fed_holds allowed count a before old is)) step)

-- ---- the same bytes lead to one spot, and put out the same bytes

whole_cut : {xs : List ℕ} {x : Header} → IsTitle xs x → IsCutTitle xs → ⊥
whole_cut {xs} {x} q c = title_not_cut xs [] x q (rw append-nil c)

some_none : (allowed : Spelling) (front : List ℕ) → SomeTaken allowed front → NoneTaken allowed front → ⊥
some_none allowed front some never =
    let title = front ++ some.0 in
    never some.0 title [] some.1 some.2 some.3 (sym (append-nil title))

title_one : (spot a b : Spot) → TitleStep spot a → TitleStep spot b → a ≡ b
title_one spot a b (cut c some may) (cut d some' may') = refl
title_one spot a b (cut c some may) (early d some' all) =
    absurd (may some.0 some.1 some.2 (all some.0 some.1 some.2))
title_one spot a b (cut c some may) (whole x q t) = absurd (whole_cut q c)
title_one spot a b (cut c some may) (none never) = absurd (some_none spot.allowed spot.front some never)
title_one spot a b (early d some all) (cut c some' may) =
    absurd (may some.0 some.1 some.2 (all some.0 some.1 some.2))
title_one spot a b (early c some all) (early d some' all') = refl
title_one spot a b (early c some all) (whole x q t) = absurd (whole_cut q c)
title_one spot a b (early c some all) (none never) = absurd (some_none spot.allowed spot.front some never)
title_one spot a b (whole x q t) (cut c some may) = absurd (whole_cut q c)
title_one spot a b (whole x q t) (early c some all) = absurd (whole_cut q c)
title_one spot a b (whole x q t) (whole x' q' t') =
    ap (λ (z : Header). titled z spot) (one_title spot.front spot.front [] [] x x' q q' refl).1
title_one spot a b (whole x q t) (none never) = absurd (never [] spot.front [] x q t refl)
title_one spot a b (none never) (cut c some may) = absurd (some_none spot.allowed spot.front some never)
title_one spot a b (none never) (early c some all) = absurd (some_none spot.allowed spot.front some never)
title_one spot a b (none never) (whole x q t) = absurd (never [] spot.front [] x q t refl)
title_one spot a b (none never) (none never') = refl

step_one : (phase : Phase) (spot a b : Spot) (byte : ℕ) → StepIn phase spot byte a → StepIn phase spot byte b → a ≡ b
step_one p.Title spot a b byte f g = title_one (with_byte byte spot) a b f g
step_one (p.Bytes (suc n)) spot a b byte f g = f ∙ sym g
step_one (p.Text (suc n) state) spot a b byte f g = f ∙ sym g
step_one phase spot a b byte f g = absurd f

pub same_last : (xs ys : List ℕ) (b c : ℕ) → xs ++ b ∷ [] ≡ ys ++ c ∷ [] → (xs ≡ ys) × (b ≡ c)
same_last xs ys b c e =
    let o = same_front xs ys (b ∷ []) (c ∷ [])
    (omega (arith, ap length e, length-append xs (b ∷ []), length-append ys (c ∷ []))) e in
    (o.0, cc o.1)

one_from : (allowed : Spelling) (count : ℕ) (fed output : List ℕ) (a : Spot) → IsFed allowed count fed a output
    → (other others : List ℕ) (b : Spot) → IsFed allowed count other b others → fed ≡ other
    → (a ≡ b) × (output ≡ others)
one_from allowed count fed output a fresh other others b fresh e = (refl, refl)
one_from allowed count fed output a fresh other others b (more {bytes = ys} c new byte is step) e =
    absurd (omega (arith, ap length e, length-append ys (c ∷ [])))
one_from allowed count fed output a (more {bytes = xs} c new byte is step) other others b fresh e =
    absurd (omega (arith, ap length e, length-append xs (c ∷ [])))
one_from allowed count fed output a (more {bytes = xs} {output = out} {spot = s} c new byte is step) other others b
    (more {bytes = ys} {output = out'} {spot = t} c' new' byte' is' step') e =
    let o = same_last xs ys c c' e in
    let same = one_from allowed count xs out s is ys out' t is' o.0 in
    let one : new ≡ new' = step_one s.phase s new new' c step (rw (← o.1, ← same.0) at step') in
    (ap (putting []) one, cc (same.1, one))

pub one_spot : (allowed : Spelling) (count : ℕ) (fed output others : List ℕ) (a b : Spot)
    → IsFed allowed count fed a output → IsFed allowed count fed b others → (a ≡ b) × (output ≡ others)
one_spot allowed count fed output others a b f g = one_from allowed count fed output a f fed others b g refl
