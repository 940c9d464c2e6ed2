-- A value written piece by piece.
use Rattle.std.proofs.Common.{◌≡◌, ℕ, zero, suc, get_or, ◌+◌, ◌<◌, ◌≤◌, List, [], ◌∷◌, ◌++◌, length, take, drop}
use Rattle.std.proofs.Common.{Some, Result, Ok, IsErr, sym, ap, ◌∙◌, inl, inr, arith}
use Rattle.std.proofs.Common.{append_assoc}
use Rattle.std.proofs.lemmas.Bool.{cases_lt}
use Rattle.std.proofs.lemmas.List.{append-nil, take-append-drop, length-take-le, length-drop}
use Rattle.std.proofs.lemmas.Str.{IsUtf8-take, IsUtf8-drop, IsCharBoundary-past_char, IsCharBoundary-start}
use Rattle.std.proofs.lemmas.Str.{length-encode}
use Rattle.std.specs.Str.{IsUtf8, IsCharBoundary}
use Rattle.std.specs.Char.{len_utf8}
use Rattle.ciborium_ll_io.specs.declared.io.Write.{Ghosts}
use Rattle.ciborium_ll_grammar.specs.Title.{shortest_title}
use Rattle.ciborium_ll_grammar.specs.Strings.{Kind, Bytes, Text, kind_header}
use Rattle.ciborium_ll_text.specs.Text.{joined, IsCharacter, IsTail}
use Rattle.ciborium_ll_grammar.specs.Elements.{body_spelling, spelling, pieces}
use Rattle.ciborium_ll_text.specs.Cuts.{AreFilled}
use Rattle.ciborium_ll_grammar.specs.Values.{ArePieces}
use Rattle.ciborium_ll_encoder.specs.Encoding.{WritesAll, WritesFront, WritesBytes, WritesPieces}
use Rattle.ciborium_ll_grammar.proofs.ElementLaws.{pieces-append, spelling-append}
use Rattle.ciborium_ll_encoder.proofs.EncodingLaws.{WritesBytes-then, WritesBytes-stopped}
use Rattle.ciborium_ll_text.proofs.TextLaws.{character_length}
use Rattle.ciborium_ll_text.proofs.Utf8Laws.{written, from_std}
use Rattle.ciborium_ll_text.proofs.CutLaws.{starts}
use Rattle.ciborium_ll_grammar.proofs.ValueLaws.{full_piece_first}

-- ---- pieces before a rest

-- With any pieces of the rest after them, the members `done` are pieces of the value.
abbrev pub Leads : Kind → ℕ → List ℕ → List (List ℕ) → List ℕ → Type 0
Leads kind limit value done rest = (others : List (List ℕ)) → ArePieces kind limit rest others
    → ArePieces kind limit value (done ++ others)

-- A piece of as many bytes as the limit goes before any pieces of the rest.
pub bytes_lead : (limit : ℕ) (value piece behind : List ℕ) → value ≡ piece ++ behind → length piece ≡ limit
    → Leads Bytes limit value (piece ∷ []) behind
bytes_lead limit value piece behind whole len others o =
    (whole ∙ ap (◌++◌ piece) o.0, full_piece_first limit piece others len o.1)

-- ---- places of a text

-- No place of the text after `n` is within the limit. A place is the beginning of a character, or the end.
abbrev pub IsLastWithin : ℕ → List ℕ → ℕ → Type 0
IsLastWithin limit text n = (other : ℕ) → n < other → other ≤ limit → ¬ (IsCharBoundary text other)

-- At `n`, the last place of a text within the limit.
module _ {limit n : ℕ} {text : List ℕ} (u : IsUtf8 text) (b : IsCharBoundary text n) (last : IsLastWithin limit text n)
  where
    -- The end of a character after `n` is a place, so it is past the limit.
    too_far : (character rest : List ℕ) → IsCharacter character → drop n text ≡ character ++ rest
        → limit < n + length character
    too_far character rest p e =
        let w = written character p in
        let size : len_utf8 w.char ≡ length character = sym (length-encode w.char) ∙ ap length w.is in
        elim (cases_lt limit (n + length character)) [
          | inl cut ↦ cut
          | inr fits ↦ absurd (last (n + length character) (omega (arith, (character_length character p).0)) fits
              (rw size at (IsCharBoundary-past_char text rest n w.char b.0 (IsUtf8-drop text n u b)
              (e ∙ ap (λ (z : List ℕ). z ++ rest) (sym w.is)))))
        ]

    -- The last place is at most three bytes before the limit.
    pub near_limit : n ≤ limit → limit < length text → limit ≤ n + 3
    near_limit within longer =
        let left : 0 < length (drop n text) = omega (arith, length-drop n text) in
        let s = starts (drop n text) (from_std (drop n text) (IsUtf8-drop text n u b)) left in
        omega (arith, (character_length s.char s.ok).1, too_far s.char s.rest s.ok s.is)

    -- The text before `n` is a filled member: the first character after `n` does not fit.
    filled_first : (others : List (List ℕ)) → drop n text ≡ joined others → AreFilled limit others
        → AreFilled limit (take n text ∷ others)
    filled_first [] e f = tt
    filled_first (x ∷ xs) e f = (
      λ character rest p g.
          let same : drop n text ≡ character ++ (rest ++ joined xs) = rw (g, append_assoc) at e in
          omega (arith, length-take-le n text b.0, too_far character (rest ++ joined xs) p same),
      f,
    )

    -- The text before `n` goes before any pieces of the rest.
    pub text_leads : {piece behind : List ℕ} → piece ≡ take n text → behind ≡ drop n text → n ≤ limit → 0 < n
        → Leads Text limit text (piece ∷ []) behind
    text_leads p q within some others o =
        let len = length-take-le n text b.0 in
        let rest : drop n text ≡ joined others = sym q ∙ o.cut.whole in
        rw p (record {
          cut = record {
            whole = sym (take-append-drop n text) ∙ ap (◌++◌ (take n text)) rest;
            each = ((from_std (take n text) (IsUtf8-take text n u b), omega arith), o.cut.each);
          };
          nonempty = (omega arith, o.nonempty);
          filled = filled_first others rest o.filled;
        })

-- The first character fits a limit of at least 4, so the last place is not 0.
pub some_within : (limit : ℕ) (text : List ℕ) (n : ℕ) → IsUtf8 text → 0 < length text → 4 ≤ limit
    → IsLastWithin limit text n → 0 < n
some_within limit text zero u l four last =
    let s = starts text (from_std text u) l in
    let far = too_far u (IsCharBoundary-start text u) last s.char s.rest s.ok s.is in
    absurd (omega (arith, (character_length s.char s.ok).1))
some_within limit text (suc n) u l four last = omega arith

-- No text begins with a later byte of a character.
pub past_tail : (text : List ℕ) (n : ℕ) → IsUtf8 text → n < length text → IsTail (get_or text n 0) → 0 < n
past_tail text n u l tail = let start = IsCharBoundary-start text u in grind arith

-- An offset at which no later byte of a character stands is a place.
pub at_no_tail : (text : List ℕ) (n : ℕ) → n ≤ length text → ¬ (IsTail (get_or text n 0)) → IsCharBoundary text n
at_no_tail text n within none = grind arith

-- ---- the pieces of a rest that fits

-- Bytes within the limit are one piece.
pub bytes_last : (limit : ℕ) (rest : List ℕ) → 0 < length rest → length rest ≤ limit
    → ArePieces Bytes limit rest (rest ∷ [])
bytes_last limit rest some fits = (sym (append-nil rest), (some, fits))

-- A text within the limit is one piece.
pub text_last : (limit : ℕ) (rest : List ℕ) → IsUtf8 rest → 0 < length rest → length rest ≤ limit
    → ArePieces Text limit rest (rest ∷ [])
text_last limit rest u some fits = record {
  cut = record { whole = sym (append-nil rest); each = ((from_std rest u, fits), tt) };
  nonempty = (some, tt);
  filled = tt;
}

-- ---- pieces that are written

module _ {W F : Type 0} (sink : Ghosts W F) where
  -- The first pieces of a value were written, and the rest is left.
  pub record Progress (kind : Kind) (limit : ℕ) (value : List ℕ) (old : W) (rest : List ℕ) (current : W) : Type 0 where
    pub done : List (List ℕ)
    pub leads : Leads kind limit value done rest
    pub written : WritesAll sink old (spelling (pieces kind done)) current

  -- The title of a piece, and then its bytes.
  abbrev pub titled : Kind → List ℕ → List ℕ → List ℕ
  titled kind piece body = shortest_title (kind_header kind (Some (length piece))) ++ body

  module _ {k : Kind} {limit : ℕ} {value rest : List ℕ} {old current new : W} (piece body : List ℕ)
      (same : body ≡ piece) (p : Progress k limit value old rest current) where
    -- One more piece is written.
    pub Progress-more : (behind : List ℕ) → Leads k limit rest (piece ∷ []) behind
        → WritesAll sink current (titled k piece body) new → Progress k limit value old behind new
    Progress-more behind leads all = record {
      done = p.done ++ piece ∷ [];
      leads = λ others o. rw append_assoc (p.leads (piece ∷ others) (leads others o));
      written = simp (pieces-append, spelling-append, append-nil)
          (WritesBytes-then sink {T = Unit {0}} old current new (Ok (tt {0})) _ _ p.written (rw same at all));
    }

    -- The writer failed at a piece that others follow.
    pub Progress-stopped : {T : Type 0} (result : Result T F) → IsErr result → (behind : List ℕ)
        (others : List (List ℕ)) → Leads k limit rest (piece ∷ []) behind → ArePieces k limit behind others
        → WritesFront sink current (titled k piece body) new → WritesPieces sink k limit value old result new
    Progress-stopped result e behind others leads o front = record {
      members = p.done ++ (piece ∷ others);
      are_pieces = p.leads (piece ∷ others) (leads others o);
      bytes = simp (pieces-append, spelling-append) (WritesBytes-then sink old current new result _ _ p.written
          (WritesBytes-stopped sink current new result (body_spelling k piece) _ e (rw same at front)));
    }

    -- The rest is written as the last piece.
    pub Progress-last : {T : Type 0} (result : Result T F) → piece ≡ rest → ArePieces k limit rest (rest ∷ [])
        → WritesBytes sink current result (titled k piece body) new → WritesPieces sink k limit value old result new
    Progress-last result is last next = record {
      members = p.done ++ piece ∷ [];
      are_pieces = rw is (p.leads (rest ∷ []) last);
      bytes = simp (pieces-append, spelling-append, append-nil)
          (WritesBytes-then sink old current new result _ _ p.written (rw same at next));
    }
