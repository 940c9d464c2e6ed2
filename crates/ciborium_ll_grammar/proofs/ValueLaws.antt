-- Each value has pieces under a limit, and its spelling is one element.
use Rattle.std.proofs.Common.{◌≡◌, ℕ, zero, suc, ◌^◌, ◌<◌, ◌≤◌, List, [], ◌∷◌, ◌++◌, length, take, drop, Some, None}
use Rattle.std.proofs.Common.{refl, sym, ap, ◌∙◌, inl, inr, arith}
use Rattle.std.proofs.lemmas.Bool.{cases_lt}
use Rattle.std.proofs.lemmas.List.{append-nil, length-append, take-append-drop, length-take-le, length-drop}
use Rattle.std.specs.List.{AllByRecursion}
use Rattle.ciborium_ll_grammar.specs.Title.{IsTitle, shortest_title}
use Rattle.ciborium_ll_grammar.specs.Strings.{Kind, Bytes, Text, kind_header, AreStrings, none, more, IsWritable}
use Rattle.ciborium_ll_grammar.specs.Strings.IsString.{definite, indefinite}
use Rattle.ciborium_ll_text.specs.Text.{joined, IsCharacters}
use Rattle.ciborium_ll_grammar.specs.Elements.{AreWritable, Mark, Whole, Close, spelling, pieces, open_marks, IsElement}
use Rattle.ciborium_ll_grammar.specs.Elements.{string}
use Rattle.ciborium_ll_text.specs.Cuts.{IsMember}
use Rattle.ciborium_ll_grammar.specs.Values.{least_limit, AreFullPieces, AreBytePieces, ArePieces, IsWritten, in_one}
use Rattle.ciborium_ll_grammar.specs.Values.{in_pieces, segments, HasFewestSegments}
use Rattle.ciborium_ll_text.proofs.Lists.{same_front}
use Rattle.ciborium_ll_grammar.proofs.TitleLaws.{IsTitle-shortest}
use Rattle.ciborium_ll_grammar.proofs.ElementLaws.{open_spelled, bytes_writable}
use Rattle.ciborium_ll_grammar.proofs.AloneLaws.{open_in_range}
use Rattle.ciborium_ll_text.proofs.CutLaws.{fewest, one_full}
use Rattle.ciborium_ll_text.proofs.FullCutLaws.{full_cut}

-- ---- pieces of bytes

-- A piece of exactly `limit` bytes and full pieces after it are full pieces.
pub full_piece_first : (limit : ℕ) (piece : List ℕ) (members : List (List ℕ)) → length piece ≡ limit
    → AreFullPieces limit members → AreFullPieces limit (piece ∷ members)
full_piece_first limit piece members l c = grind arith

-- Bytes that are not empty have full pieces, by induction on their length.
full_pieces_of : (fuel limit : ℕ) (value : List ℕ) → length value < fuel → 0 < length value → 0 < limit
    → (members : List (List ℕ)) × AreBytePieces limit value members
full_pieces_of zero limit value l some one = absurd (omega arith)
full_pieces_of (suc fuel) limit value l some one =
    elim (cases_lt limit (length value)) [
      | inl longer ↦
          (let c = full_pieces_of fuel limit (drop limit value) (omega (arith, length-drop limit value))
          (omega (arith, length-drop limit value)) one in (
            take limit value ∷ c.0,
            (
              sym (take-append-drop limit value) ∙ ap (λ (z : List ℕ). take limit value ++ z) c.1.0,
              full_piece_first limit _ c.0 (length-take-le limit value (omega arith)) c.1.1,
            ),
          ))
      | inr fits ↦ (value ∷ [], (sym (append-nil value), (some, fits)))
    ]

-- Bytes that are not empty have full pieces for each limit of at least one byte.
pub byte_pieces : (value : List ℕ) (limit : ℕ) → 0 < length value → 0 < limit
    → (members : List (List ℕ)) × AreBytePieces limit value members
byte_pieces value limit some one = full_pieces_of (suc (length value)) limit value (omega arith) some one

-- ---- there is at most one list of pieces

-- Joined full pieces are not empty.
full_piece_some : (limit : ℕ) (piece : List ℕ) (members : List (List ℕ)) → AreFullPieces limit (piece ∷ members)
    → 0 < length (joined (piece ∷ members))
full_piece_some limit piece [] c = omega (arith, c.0, length-append piece [])
full_piece_some limit piece (x ∷ xs) c =
    omega (arith, full_piece_some limit x xs c.1, length-append piece (joined (x ∷ xs)))

-- Bytes have at most one list of full pieces.
same_full_pieces : (limit : ℕ) (cs ds : List (List ℕ)) → AreFullPieces limit cs → AreFullPieces limit ds
    → joined cs ≡ joined ds → cs ≡ ds
same_full_pieces limit [] ds a b e = absurd a
same_full_pieces limit cs [] a b e = absurd b
same_full_pieces limit (c ∷ []) (d ∷ []) a b e = cc (append-nil c, append-nil d)
same_full_pieces limit (c ∷ []) (d ∷ x ∷ ds) a b e = absurd (grind
    (arith, full_piece_some limit x ds b.1, ap length e, length-append {A = ℕ}))
same_full_pieces limit (c ∷ y ∷ cs) (d ∷ []) a b e = absurd (grind
    (arith, full_piece_some limit y cs a.1, ap length e, length-append {A = ℕ}))
same_full_pieces limit (c ∷ y ∷ cs) (d ∷ x ∷ ds) a b e =
    let f = same_front c d _ _ (a.0 ∙ sym b.0) e in
    cc (f.0, same_full_pieces limit (y ∷ cs) (x ∷ ds) a.1 b.1 f.1)

-- A value has at most one list of pieces.
same_pieces : (k : Kind) (limit : ℕ) (value : List ℕ) (cs ds : List (List ℕ)) → ArePieces k limit value cs
    → ArePieces k limit value ds → cs ≡ ds
same_pieces Bytes limit value cs ds p q = same_full_pieces limit cs ds p.1 q.1 (sym p.0 ∙ q.0)
same_pieces Text limit value cs ds p q = one_full value limit cs ds p q

-- ---- the marks of a value

-- A value has at most one list of marks under a limit.
pub one_writing : (k : Kind) (limit : ℕ) (value : List ℕ) (ms ns : List Mark) → IsWritten k limit value ms
    → IsWritten k limit value ns → ms ≡ ns
one_writing k limit value ms ns p q = grind (arith, same_pieces)

-- A value that is longer than the limit has pieces.
pub pieces_exist : (k : Kind) (limit : ℕ) (value : List ℕ) → least_limit k ≤ limit → IsWritable k value
    → limit < length value → (members : List (List ℕ)) × ArePieces k limit value members
pieces_exist Bytes limit value l s m = byte_pieces value limit (omega arith) l
pieces_exist Text limit value l s m = full_cut value limit s l

-- Each value has marks under a limit.
pub some_writing : (k : Kind) (limit : ℕ) (value : List ℕ) → least_limit k ≤ limit → IsWritable k value
    → (ms : List Mark) × IsWritten k limit value ms
some_writing k limit value l s =
    elim (cases_lt limit (length value)) [
      | inl longer ↦ (let p = pieces_exist k limit value l s longer in (open_marks k p.0, in_pieces p.0 longer p.1))
      | inr fits ↦ (Whole k value ∷ [], in_one fits)
    ]

-- ---- the marks are those of one element

-- The shortest title of a string's length is a title of the string.
title_of_length : (k : Kind) (n : ℕ) → n < 2 ^ 64
    → IsTitle (shortest_title (kind_header k (Some n))) (kind_header k (Some n))
title_of_length k n p = IsTitle-shortest (kind_header k (Some n)) (grind arith)

-- The spelling of pieces is strings with the same bodies.
piece_strings : (k : Kind) (members : List (List ℕ)) → length (joined members) < 2 ^ 64
    → AreStrings k (spelling (pieces k members)) members
piece_strings k [] l = none
piece_strings k (x ∷ xs) l =
    let n = length-append x (joined xs) in
    more (definite (title_of_length k (length x) (omega arith))) (piece_strings k xs (omega arith))

-- Members that are texts are writable.
text_members : (limit : ℕ) (members : List (List ℕ)) → AllByRecursion (IsMember limit) members
    → AreWritable Text members
text_members limit [] all = tt
text_members limit (x ∷ xs) all = (all.0.0, text_members limit xs all.1)

-- Joined pieces are the value, and a copy may write each piece.
pub sound_pieces : (k : Kind) (limit : ℕ) (value : List ℕ) (members : List (List ℕ)) → ArePieces k limit value members
    → (value ≡ joined members) × AreWritable k members
sound_pieces Bytes limit value members p = (p.0, bytes_writable members)
sound_pieces Text limit value members p = (p.cut.whole, text_members limit members p.cut.each)

-- The spelling of a value's marks is one element.
pub written_element : (k : Kind) (limit : ℕ) (value : List ℕ) (ms : List Mark) → IsWritten k limit value ms
    → IsWritable k value → length value < 2 ^ 64 → IsElement (spelling ms) ms
written_element k limit value ms (in_one l) s n =
    rw append-nil (string k (definite (title_of_length k (length value) n)) (s, tt))
written_element k limit value ms (in_pieces members l p) s n =
    let q = sound_pieces k limit value members p in
    let len = ap length q.0 in
    let open_title = IsTitle-shortest (kind_header k None) (open_in_range k) in
    rw open_spelled (string k (indefinite open_title (piece_strings k members (omega arith))) q.1)

-- ---- fewest segments

-- The segments of pieces and a close are the bodies of the pieces.
pub segments_of_pieces : (k : Kind) (members : List (List ℕ)) → segments (pieces k members ++ Close ∷ []) ≡ members
segments_of_pieces k [] = refl
segments_of_pieces k (x ∷ xs) = ap (λ (z : List (List ℕ)). x ∷ z) (segments_of_pieces k xs)

-- A text that is not empty has at least one member.
some_members : (text : List ℕ) (members : List (List ℕ)) → 0 < length text → text ≡ joined members → 1 ≤ length members
some_members text [] some e = absurd (omega (arith, ap length e))
some_members text (x ∷ xs) some e = omega arith

-- The segments of a text are texts, and no cut has fewer members.
pub fewest_segments : (limit : ℕ) (text : List ℕ) (ms : List Mark) → IsWritten Text limit text ms
    → IsCharacters text → 0 < length text → HasFewestSegments limit text ms
fewest_segments limit text ms (in_one l) u some =
    record {
      cut = record { whole = sym (append-nil text); each = ((u, l), tt) };
      nonempty = (some, tt);
      fewest = λ members c. some_members text members some c.whole;
    }
fewest_segments limit text ms (in_pieces members l p) u some =
    record {
      cut = rw segments_of_pieces p.cut;
      nonempty = rw segments_of_pieces p.nonempty;
      fewest = λ others c. rw segments_of_pieces (fewest text limit members others p c);
    }
