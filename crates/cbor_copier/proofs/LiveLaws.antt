-- If there is no fault, some bytes make that many elements of the bytes so far.
use Rattle.std.proofs.Common.{◌≡◌, ℕ, zero, suc, ◌-◌, ◌<◌, true, List, [], ◌∷◌, ◌++◌, length, refl, ◌∙◌, arith, inl}
use Rattle.std.proofs.Common.{inr, append_assoc, append-nil, length-append, replicate}
use Rattle.std.proofs.lemmas.Bool.Decides.{nat_tests}
use Rattle.std.proofs.lemmas.List.{length-replicate}
use Rattle.ciborium_ll_grammar.specs.declared.spelling.Spelling.{Spelling}
use Rattle.ciborium_ll_grammar.specs.declared.hdr.Header.{Header}
use Rattle.ciborium_ll_grammar.specs.declared.hdr.Header.TheVariants as h
use Rattle.ciborium_ll_grammar.specs.Title.{AreBytes, IsTitle, Major, Unsigned, Size, Small, affix_of, alone}
use Rattle.ciborium_ll_grammar.specs.Title.{major_code}
use Rattle.ciborium_ll_grammar.specs.Title.{numbered}
use Rattle.ciborium_ll_grammar.proofs.TitleLaws.{minor_below}
use Rattle.ciborium_ll_grammar.specs.Strings.{IsWritable}
use Rattle.ciborium_ll_grammar.specs.Elements.{Close, Mark, Plain, IsElement, plain}
use Rattle.ciborium_ll_grammar.proofs.AffixLaws.{AreBytes-zeros, AreBytes-append}
use Rattle.ciborium_ll_text.specs.declared.state.State.{State}
use Rattle.ciborium_ll_text.specs.declared.state.State.TheVariants as s
use Rattle.ciborium_ll_text.specs.States.{is_from, after_first, after_next, after_byte, after, may_end}
use Rattle.ciborium_ll_text.proofs.EndLaws.{none_left}
use Rattle.ciborium_ll_text.proofs.StateLaws.{after-append, text_from}
use Rattle.ciborium_ll_text.proofs.TextLaws.{IsCharacters-append}
use Rattle.cbor_copier.specs.declared.phase.Phase.{Phase}
use Rattle.cbor_copier.specs.declared.phase.Phase.TheVariants as p
use Rattle.cbor_parser.specs.declared.strings.StringKind.{StringKind}
use Rattle.cbor_parser.specs.declared.strings.StringKind.TheVariants as k
use Rattle.cbor_parser.specs.declared.strings.Within.{Within}
use Rattle.cbor_parser.specs.declared.strings.Within.TheVariants as w
use Rattle.cbor_parser.specs.Strings.{kind_of}
use Rattle.cbor_copier.specs.Spots.{Spot, putting, entered}
use Rattle.cbor_copier.specs.Reading.{SomeGoOn}
use Rattle.cbor_copier.proofs.EnterLaws.{one_more, closes, closes_last, Behind, string_behind, all_taken, some_due}
use Rattle.cbor_copier.proofs.EnterLaws.{tight_mark, title_leads}
use Rattle.cbor_copier.proofs.KeptLaws.{enters}
use Rattle.cbor_copier.proofs.Reached.{RunLeft, InOpen, Here, between, in_open, Tight, Titling, Bodying, HoldsIn, clear}

-- If the elements go on after `more`, they go on before `more`.
before_those : {allowed : Spelling} {count : ℕ} {bytes : List ℕ} (more : List ℕ) → AreBytes more
    → SomeGoOn allowed count (bytes ++ more) → SomeGoOn allowed count bytes
before_those {bytes = bytes} more are o = record {
  more = more ++ o.more;
  more_bytes = AreBytes-append more o.more are o.more_bytes;
  marks = o.marks;
  run = rw (append_assoc bytes more) at o.run;
}

zero_element : IsElement (0 ∷ []) (Plain (h.Positive 0) ∷ [])
zero_element = plain (h.Positive 0) (numbered Unsigned Small 0 (omega arith)) tt

pub run_goes : {allowed : Spelling} {count : ℕ} {bytes : List ℕ} {marks : List Mark} (left : ℕ)
    → RunLeft count left bytes marks → Tight allowed bytes marks w.Nothing → SomeGoOn allowed count bytes
run_goes {bytes = bytes} {marks = marks} zero r tight =
    record { more = []; more_bytes = tt; marks = marks; run = rw (append-nil bytes) (all_taken r tight) }
run_goes (suc left) r tight =
    before_those (0 ∷ []) (omega arith, tt) (run_goes left (one_more r (omega arith) zero_element)
    (tight_mark w.Nothing (Plain (h.Positive 0)) (0 ∷ []) tight (λ short. (refl, λ small. small, tt))))

open_goes : {allowed : Spelling} {kind : StringKind} {count left : ℕ} {bytes : List ℕ} {marks : List Mark} (more : ℕ)
    → InOpen (kind_of kind) more count left bytes marks → 0 < left → Tight allowed bytes marks (w.Open kind more)
    → SomeGoOn allowed count bytes
open_goes {left = left} zero o some tight =
    before_those (0xff ∷ []) (omega arith, tt) (run_goes (left - 1) (closes_last o (omega (arith, some)))
    (tight_mark w.Nothing Close (0xff ∷ []) tight (λ short. (refl, tt, tt))))
open_goes {kind = kind} (suc more) o some tight =
    before_those (0xff ∷ []) (omega arith, tt)
    (open_goes {kind = kind} more (closes o) some (λ short. absurd (tight short).flat))

here_goes : {allowed : Spelling} {count left : ℕ} {bytes : List ℕ} {marks : List Mark} {i : Within}
    → Here allowed count left bytes marks i → SomeGoOn allowed count bytes
here_goes (between r some tight) = run_goes _ r tight
here_goes (in_open {kind = kind} {more = more} o some tight) = open_goes {kind = kind} more o some tight

behind_goes : (allowed : Spelling) (i : Within) (count left : ℕ) (bytes : List ℕ) (marks : List Mark)
    → Behind allowed i count left bytes marks → SomeGoOn allowed count bytes
behind_goes allowed w.Nothing count left bytes marks r = run_goes (left - 1) r.0 r.1
behind_goes allowed (w.Open kind more) count left bytes marks here = here_goes here

-- ---- a body

body_goes : {allowed : Spelling} {kind : StringKind} {left count : ℕ} {bytes output : List ℕ} {spot : Spot}
    (end : List ℕ) (o : Bodying allowed kind left count bytes spot output) → length end ≡ left → AreBytes end
    → IsWritable (kind_of kind) (o.part ++ (spot.front ++ end)) → SomeGoOn allowed count bytes
body_goes {kind} {bytes = bytes} {spot = spot} end o long are sound =
    let whole = o.part ++ (spot.front ++ end) in
    let exact : o.len ≡ length whole =
    omega (
      arith,
      o.long,
      long,
      length-append o.part spot.front,
      length-append o.part (spot.front ++ end),
      length-append spot.front end,
    ) in
    let all : bytes ++ end ≡ (o.before ++ o.title) ++ whole = simp (o.is, append_assoc) in
    let behind = string_behind kind o.title whole o.begun.here o.begun.of_kind (rw exact at o.begun.is_title)
    (rw exact at o.begun.taken) sound in
    before_those end are (rw all (behind_goes _ spot.within _ _ _ _ behind.behind))

-- ---- the end of a text

-- A byte that brings a text nearer to its end.
next_of : State → ℕ
next_of s.Between = 0
next_of s.BehindE0 = 0xa0
next_of s.BehindF0 = 0x90
next_of state = 0x80

next_may : (state : State) (n : ℕ) → may_end state (suc n) ≡ true → may_end (after_byte state (next_of state)) n ≡ true
unfolding is_from after_first after_next next_of
next_may state n may = grind (arith, nat_tests)

next_byte : (state : State) → next_of state < 256
unfolding next_of
next_byte state = grind arith

-- Bytes of this length that end a text from this state.
record End (state : State) (n : ℕ) : Type 0 where
  bytes : List ℕ
  are_bytes : AreBytes bytes
  ends : after state bytes ≡ s.Between
  long : length bytes ≡ n

end_of : (n : ℕ) (state : State) → may_end state n ≡ true → End state n
end_of zero state may = record { bytes = []; are_bytes = tt; ends = none_left state may; long = refl }
end_of (suc n) state may =
    let o = end_of n (after_byte state (next_of state)) (next_may state n may) in
    record {
      bytes = next_of state ∷ o.bytes;
      are_bytes = (next_byte state, o.are_bytes);
      ends = o.ends;
      long = omega (arith, o.long);
    }

text_goes : {allowed : Spelling} {left count : ℕ} {bytes output : List ℕ} {spot : Spot} {state : State}
    → Bodying allowed k.Text left count bytes spot output → state ≡ after s.Between spot.front
    → may_end state left ≡ true → SomeGoOn allowed count bytes
text_goes {left} {spot = spot} {state = state} o state_is may =
    let end = end_of left state may in
    let all = spot.front ++ end.bytes in
    body_goes end.bytes o end.long end.are_bytes (IsCharacters-append o.part all o.sound
    (text_from all (after-append s.Between spot.front end.bytes ∙ rw (← state_is) end.ends)))

-- ---- all

abbrev pub NoFault : Phase → Type 0
NoFault phase = (place : ℕ) × (phase ≡ p.Faulted place) → ⊥

-- A spot without a fault goes on, if it does with a title due.
goes_by : (allowed : Spelling) (phase : Phase) (count : ℕ) (bytes output : List ℕ) (spot : Spot)
    → (Titling allowed count bytes spot output → SomeGoOn allowed count bytes)
    → HoldsIn allowed phase count bytes spot output → NoFault phase → SomeGoOn allowed count bytes
goes_by allowed p.Title count bytes output spot title o goes = title o
goes_by allowed (p.Bytes left) count bytes output spot title o goes =
    body_goes (replicate left 0) o.0 (length-replicate {A = ℕ} left 0) (AreBytes-zeros left) tt
goes_by allowed (p.Text left state) count bytes output spot title o goes = text_goes o.0 o.1 o.2
goes_by allowed p.Ended count bytes output spot title o goes =
    record { more = []; more_bytes = tt; marks = o.marks; run = rw (append-nil bytes) o.run }
goes_by allowed (p.Faulted place) count bytes output spot title o goes = absurd (goes (place, refl))

-- A spot with a title due and an empty front goes on.
clear_goes : {allowed : Spelling} {count : ℕ} {bytes output : List ℕ} {spot : Spot} → spot.front ≡ []
    → Titling allowed count bytes spot output → SomeGoOn allowed count bytes
clear_goes bare o = rw (o.is, bare, append-nil o.before) (here_goes o.here)

-- The bytes of a title are bytes.
affix_bytes : (size : Size) (n : ℕ) → AreBytes (affix_of size n)
affix_bytes size n = grind arith

major_below : (major : Major) → major_code major < 8
major_below major = grind arith

pub title_bytes : {title : List ℕ} {header : Header} → IsTitle title header → AreBytes title
title_bytes (numbered major size n fits) =
    (omega (arith, minor_below size n fits, major_below major), affix_bytes size n)
title_bytes (alone major header is_open) = (omega (arith, major_below major), tt)

bytes_behind : (front more : List ℕ) → AreBytes (front ++ more) → AreBytes more
bytes_behind [] more are = are
bytes_behind (b ∷ front) more are = bytes_behind front more are.1

title_goes : {allowed : Spelling} {count : ℕ} {bytes output : List ℕ} {spot : Spot}
    → Titling allowed count bytes spot output → SomeGoOn allowed count bytes
title_goes {allowed} {count} {bytes} {output} {spot} o =
    elim o.front [
      | inl bare ↦ clear_goes bare o
      | inr f ↦ (
          let (more, header, is_title, taken) = f.5 in
          let title = spot.front ++ more in
          let are = bytes_behind spot.front more (title_bytes is_title) in
          let old = clear allowed p.Title spot.within spot.left (length o.before) (length (o.before ++ title)) [] in
          let new = entered spot.within header old in
          let all : bytes ++ more ≡ o.before ++ title = simp (o.is, append_assoc) in
          let is = enters spot.within header old in
          before_those more are (rw all (goes_by allowed new.phase count (o.before ++ title) _ (putting [] new)
          (clear_goes is.front) (title_leads allowed count o.before title o.marks p.Title spot.left old.place old.offset
          (some_due o.here) refl refl spot.within header o.here is_title taken)
          (λ fault. f.2 more header is_title (is.faults fault))))
          )
    ]

pub holds_goes : (allowed : Spelling) (phase : Phase) (count : ℕ) (bytes output : List ℕ) (spot : Spot)
    → HoldsIn allowed phase count bytes spot output → NoFault phase → SomeGoOn allowed count bytes
holds_goes allowed phase count bytes output spot o goes =
    goes_by allowed phase count bytes output spot title_goes o goes
