-- The bytes that are due after a whole title, wherever it stands.
use Rattle.std.proofs.Common.{◌≡◌, ℕ, zero, suc, List, [], ◌∷◌, ◌++◌, length, Option, Some, None, refl}
use Rattle.ciborium_ll_grammar.specs.declared.spelling.Spelling.{Spelling}
use Rattle.ciborium_ll_grammar.specs.declared.spelling.Spelling.TheVariants.{Any, Shortest}
use Rattle.ciborium_ll_grammar.specs.declared.hdr.Header.{Header}
use Rattle.ciborium_ll_grammar.specs.declared.hdr.Header.TheVariants as h
use Rattle.ciborium_ll_grammar.specs.Title.{IsTitle}
use Rattle.ciborium_ll_grammar.specs.Items.{IsTakenTitle}
use Rattle.ciborium_ll_grammar.specs.Strings.{IsWritable, kind_header}
use Rattle.ciborium_ll_grammar.proofs.TitleLaws.{one_title}
use Rattle.ciborium_ll_grammar.proofs.StringLaws.{break_title}
use Rattle.ciborium_ll_text.proofs.StateLaws.{text_ends, text_from}
use Rattle.cbor_parser.specs.declared.strings.StringKind.{StringKind}
use Rattle.cbor_parser.specs.declared.strings.StringKind.TheVariants as sk
use Rattle.cbor_parser.specs.declared.strings.Within.{Within}
use Rattle.cbor_parser.specs.declared.strings.Within.TheVariants as w
use Rattle.cbor_parser.specs.Strings.{closed, kind_of, piece_within}
use Rattle.cbor_checker.specs.declared.phase.Phase.TheVariants as ph
use Rattle.cbor_checker.specs.Spots.{Spot, bytes_due, entered, piece_entered, text_due, within_entered}
use Rattle.cbor_checker.proofs.Waiting.{Behind, Ends, EndsString, EndsStrings, BodyThen, TitleDue, Waits}
use Rattle.cbor_checker.proofs.LevelLaws.{Same, settles}
use Rattle.cbor_checker.proofs.StringLaws.{bytes_body, text_body, First, breaks, whole, opens, first_of, body_back}
use Rattle.cbor_checker.proofs.StringLaws.{open_back, end_back}
use Rattle.cbor_checker.proofs.EnterLaws.{enters, entered_back, break_bytes}

-- ---- the bytes that are due of either kind

abbrev kind_due : StringKind → ℕ → Spot → Spot
kind_due sk.Bytes len spot = bytes_due len spot
kind_due sk.Text len spot = text_due len spot

piece_is : (k : StringKind) (len : ℕ) (spot : Spot)
    → piece_entered (kind_header (kind_of k) (Some len)) spot ≡ kind_due k len spot
piece_is sk.Bytes len spot = refl
piece_is sk.Text len spot = refl

-- The spot after the title of a string of the kind.
kind_is : (k : StringKind) (n : ℕ) (len : Option ℕ) (spot : Spot)
    → entered (w.Open k n) (kind_header (kind_of k) len) spot
    ≡ within_entered (piece_within spot.allowed k n len) (kind_header (kind_of k) len) spot
kind_is sk.Bytes n len spot = refl
kind_is sk.Text n len spot = refl

break_is : (k : StringKind) (n : ℕ) (spot : Spot)
    → entered (w.Open k n) h.Break spot ≡ within_entered (Some (closed k n)) h.Break spot
break_is sk.Bytes n spot = refl
break_is sk.Text n spot = refl

-- Strings are open, and a title is due.
abbrev open_at : StringKind → ℕ → Spot → Spot
open_at k n spot = record spot { phase = ph.Title; within = w.Open k n }

itself : (A : Type 0) → Same A A
itself A = (λ a. a, λ a. a)

-- If only the shortest spelling is taken, no bytes follow an open within an open string. Otherwise the spot waits for
-- those after one more open string.
opened : (s : Spelling) (k : StringKind) (n : ℕ) (spot : Spot) (y : List ℕ)
    → Same ((s ≡ Any) × Waits (open_at k (suc n) spot) y)
    (Waits (within_entered (piece_within s k n None) (kind_header (kind_of k) None) spot) y)
opened Shortest k n spot y = (λ o. absurd (cc o.0), λ no. absurd no)
opened Any sk.Bytes n spot y = (λ o. o.1, λ waits. (refl, waits))
opened Any sk.Text n spot y = (λ o. o.1, λ waits. (refl, waits))

sound_as : {len : ℕ} {P Q Then : List ℕ → Type 0} {y : List ℕ} → BodyThen len P Then y → ((b : List ℕ) → P b → Q b)
    → BodyThen len Q Then y
sound_as b f =
    record { body = b.body; rest = b.rest; long = b.long; sound = f b.body b.sound; behind = b.behind; is = b.is }

-- The bytes that are due after strings that are open within others, and after a body.
module _ (spot : Spot) (y : List ℕ) (clear : spot.front ≡ []) where
  open_same : (k : StringKind) (n : ℕ)
      → Same (EndsStrings spot.allowed (kind_of k) n (Ends spot.allowed spot.depth spot.levels) y)
      (Waits (open_at k n spot) y)
  open_same k n = rw clear (itself _)

  closes : (k : StringKind) (n : ℕ)
      → Same (Behind spot.allowed (kind_of k) n (Ends spot.allowed spot.depth spot.levels) y)
      (Waits (within_entered (Some (closed k n)) h.Break spot) y)
  closes k zero = settles spot.levels spot.depth spot y clear
  closes k (suc n) = open_same k n

  body_same : (k : StringKind) (n len : ℕ)
      → Same (BodyThen len (IsWritable (kind_of k))
      (EndsStrings spot.allowed (kind_of k) n (Ends spot.allowed spot.depth spot.levels)) y)
      (Waits (kind_due k len (record spot { within = w.Open k n })) y)
  body_same sk.Bytes n len = bytes_body len (record spot { within = w.Open sk.Bytes n }) y clear
  body_same sk.Text n len =
      let same = text_body len (record spot { within = w.Open sk.Text n }) y clear in (
        λ b. same.0 (sound_as b text_ends),
        λ waits. sound_as (same.1 waits) text_from,
      )

-- ---- within an open string

module _ (k : StringKind) (n : ℕ) (spot : Spot) (y : List ℕ) (clear : spot.front ≡ []) (t : List ℕ) where
  abbrev Inner : List ℕ → Type 0
  Inner = Behind spot.allowed (kind_of k) n (Ends spot.allowed spot.depth spot.levels)

  string_on : (x : Header) → IsTitle t x → First spot.allowed (kind_of k) Inner (t ++ y)
      → Waits (entered (w.Open k n) x spot) y
  string_on x p (breaks rest behind e) =
      let o = one_title t (0xff ∷ []) y rest x h.Break p break_title e in
      rw (o.1, break_is k n spot) ((closes spot y clear k n).0 (rw o.2 behind))
  string_on x p (whole t' b far q g sound behind e) =
      let o = one_title t t' y (b ++ far) x _ p q e in
      rw (o.1, kind_is k n (Some (length b)) spot, piece_is k (length b) (record spot { within = w.Open k n }))
      ((body_same spot y clear k n (length b)).0
      (record { body = b; rest = far; long = refl; sound = sound; behind = behind; is = o.2 }))
  string_on x p (opens t' far any q behind e) =
      let o = one_title t t' y far x _ p q e in
      let inner = (open_same spot y clear k (suc n)).0 (rw o.2 behind) in
      rw (o.1, kind_is k n None spot) ((opened _ k n spot y).0 (any, inner))

  -- After the title of a string of the kind.
  piece_off : (len : Option ℕ) → IsTitle t (kind_header (kind_of k) len)
      → IsTakenTitle spot.allowed t (kind_header (kind_of k) len)
      → Waits (within_entered (piece_within spot.allowed k n len) (kind_header (kind_of k) len) spot) y
      → EndsString spot.allowed (kind_of k) Inner (t ++ y)
  piece_off (Some len) p g waits =
      let body = rw (piece_is k len (record spot { within = w.Open k n })) at waits in
      body_back _ (kind_of k) _ t y len p g ((body_same spot y clear k n len).1 body)
  piece_off None p g waits =
      let o = (opened _ k n spot y).1 waits in
      open_back _ (kind_of k) _ t y o.0 p ((open_same spot y clear k (suc n)).1 o.1)

string_off : (k : StringKind) (n : ℕ) (spot : Spot) (t y : List ℕ) (x : Header) → spot.front ≡ [] → IsTitle t x
    → IsTakenTitle spot.allowed t x → Waits (entered (w.Open k n) x spot) y
    → EndsStrings spot.allowed (kind_of k) n (Ends spot.allowed spot.depth spot.levels) (t ++ y)
string_off sk.Bytes n spot t y (h.Bytes len) clear p g waits = piece_off sk.Bytes n spot y clear t len p g waits
string_off sk.Text n spot t y (h.Text len) clear p g waits = piece_off sk.Text n spot y clear t len p g waits
string_off k n spot t y h.Break clear p g waits =
    end_back _ (kind_of k) _ t y (break_bytes t h.Break p refl)
    ((closes spot y clear k n).1 (rw (break_is k n spot) at waits))
string_off k n spot t y x clear p g waits = absurd waits

-- ---- all

-- After a title that is taken, the spot waits for the rest of the bytes that were due.
pub title_enters : (i : Within) (spot : Spot) (t y : List ℕ) (x : Header) → spot.front ≡ [] → spot.within ≡ i
    → IsTitle t x → IsTakenTitle spot.allowed t x
    → Same (TitleDue spot.allowed i spot.depth spot.levels (t ++ y)) (Waits (entered i x spot) y)
title_enters w.Nothing spot t y x clear inside p g =
    (λ o. enters spot clear inside t y x p o, λ waits. entered_back spot clear inside t y x p g waits)
title_enters (w.Open k n) spot t y x clear inside p g = (
  λ o. string_on k n spot y clear t x p (first_of spot.allowed (kind_of k) _ (t ++ y) o),
  string_off k n spot t y x clear p g,
)
