-- The lines of a string after its title.
use Rattle.std.proofs.lemmas.Bool.Decides.{nat_tests}
use Rattle.std.proofs.Common.{◌≡◌, ℕ, zero, suc, ◌+◌, ◌-◌, ◌<◌, ◌≤◌, List, [], ◌∷◌, ◌++◌, length, Option, Some, None}
use Rattle.std.proofs.Common.{Result, Err, inr, refl, sym, ap, subst, ◌∙◌, arith, append-nil, append_assoc}
use Rattle.std.proofs.Common.{length-append, IfSome, OnOk}
use Rattle.ciborium_ll_grammar.specs.declared.spelling.Spelling.{Spelling}
use Rattle.ciborium_ll_grammar.specs.declared.spelling.Spelling.TheVariants.{Any}
use Rattle.ciborium_ll.specs.Types.Read.{Ghosts}
use Rattle.ciborium_ll.specs.Types.Decoder.{Decoder}
use Rattle.ciborium_ll.specs.Title.{IsTitle, IsStrictTitle}
use Rattle.ciborium_ll.specs.Strings.{Kind, Bytes, Text, kind_header, IsString, indefinite, AreStrings, IsWritable}
use Rattle.ciborium_ll.specs.Strings.AreStrings.{none as no_strings, more as more_strings}
use Rattle.ciborium_ll.specs.Elements.{AreWritable}
use Rattle.ciborium_ll.specs.Items.{AreTakenStrings, IsTakenTitle}
use Rattle.ciborium_ll.specs.StrictElements.{AreFlat, none as no_flat, more as more_flat}
use Rattle.ciborium_ll.specs.Types.Error.{Error}
use Rattle.ciborium_ll.specs.Decoding.{ReadsPast}
use Rattle.cbor_dump.specs.declared.dump.DumpError.{DumpError}
use Rattle.ciborium_ll.proofs.DecodingLaws.{ReadsPast-then}
use Rattle.ciborium_ll.proofs.TextLaws.{IsCharacters-append}
use Rattle.ciborium_ll.proofs.TitleLaws.{one_title}
use Rattle.ciborium_ll.proofs.ElementLaws.{AreStrings-append}
use Rattle.cbor_dump.specs.declared.rows.Meaning.{Meaning}
use Rattle.cbor_dump.specs.declared.rows.Meaning.TheVariants as m
use Rattle.cbor_dump.specs.declared.rows.Within.TheVariants as w
use Rattle.cbor_dump.specs.declared.strings.Kind.{Kind as CodeKind}
use Rattle.cbor_dump.specs.declared.strings.Kind.TheVariants as k
use Rattle.cbor_dump.specs.declared.key.KeyBody.{KeyBody}
use Rattle.cbor_dump.specs.Keys.{IsKept, body_bytes, most_key}
use Rattle.cbor_dump.specs.Parts.{FailsInBody}
use Rattle.cbor_dump.specs.Takings.{IsSteadyNoneWaiting, LeavesBehind, most_bytes, TakesBytes, Keeps}
use Rattle.cbor_dump.specs.Levels.{Line, Nest, AreOpen, more, TitleDue, HasBody, HasNoText, FitsRow, Stands}
use Rattle.cbor_dump.specs.Levels.{Ending, IsTextFault, Meant}
use Rattle.cbor_dump.specs.Parts.{IsFullPart, IsPartRow}
use Rattle.ciborium_ll.specs.Decoding.{view}
use Rattle.ciborium_ll.proofs.DecodingLaws.{IfSome-all}
use Rattle.cbor_dump.specs.Dumps.{Draws, fault_lines, SaysFault, Shows}
use Rattle.cbor_dump.specs.Endings.{HasMeaning, ending_of}
use Rattle.cbor_dump.specs.StringRows.{EndsString, StopsBehindTitle, kind_of, meaning_of}
use Rattle.cbor_dump.proofs.DumpLaws.{lines_one, part_fault, part_row, shows_fault, shows_then}
use Rattle.cbor_dump.proofs.PullLaws.{passes_idle}

-- ---- bodies

writable_then : (kind : Kind) (front behind : List ℕ) → IsWritable kind front → IsWritable kind behind
    → IsWritable kind (front ++ behind)
writable_then kind front behind p q = grind (arith, nat_tests, IsCharacters-append, front)

pub writable_none : (kind : Kind) → IsWritable kind []
writable_none kind = grind (arith, nat_tests)

-- A title of a string of this length stands after some bytes. Parts of its body stand at this level.
pub record AtBody (depth opens : ℕ) (nests : List Nest) (outer title : List ℕ) (kind : Kind) (len level : ℕ)
    : Type 0 where
  pub due : TitleDue depth nests opens outer
  pub is_title : IsTitle title (kind_header kind (Some len))
  pub below : level ≡ length nests + opens + 1

body_here : (depth opens : ℕ) (nests : List Nest) (outer title : List ℕ) (kind : Kind) (len level : ℕ)
    → AtBody depth opens nests outer title kind len level → (front bytes : List ℕ)
    → length front + length bytes ≤ len → IsFullPart kind (len - length front) bytes → (offset : ℕ) (meaning : Meaning)
    → HasBody depth ((outer ++ title) ++ front) kind
    (record { level = level; offset = offset; bytes = bytes; meaning = meaning; within = w.Nothing })
body_here depth opens nests outer title kind len level at front bytes fits full offset meaning = record {
  nests = nests;
  opens = opens;
  outer = outer;
  title = title;
  front = front;
  len = len;
  due = at.due;
  is_title = at.is_title;
  is = append_assoc outer title front;
  fits = fits;
  full = full;
  level = let e = at.below in omega (arith, e);
  within = refl;
}

no_text : (how : Ending) (kind : Kind) (depth : ℕ) (before : List ℕ) (line : Line) → kind ≡ Text
    → (body : HasBody depth before kind line) → IsTextFault how (body.len - length body.front) line.bytes
    → HasNoText how depth before line
no_text how Bytes depth before line is body fault = absurd cc
no_text how Text depth before line is body fault = record { body = body; fault = fault }

part_meant : (kind : CodeKind) → HasMeaning (meaning_of kind)
part_meant kind = grind (arith, nat_tests)

part_stands : (kind : CodeKind) (depth : ℕ) (before : List ℕ) (line : Line)
    → HasBody depth before (kind_of kind) line → IsWritable (kind_of kind) line.bytes
    → Stands Meant depth before (meaning_of kind) line
part_stands k.Bytes depth before line body written = body
part_stands k.Text depth before line body written = (body, written)

-- A part that fits is kept after the front.
pub push_kept : (len left : ℕ) (front bytes : List ℕ) (kept then_kept : KeyBody) → length front + left ≡ len
    → length bytes ≤ left → body_bytes kept ≡ front
    → (length (body_bytes kept) + length bytes ≤ most_key → body_bytes then_kept ≡ body_bytes kept ++ bytes)
    → len ≤ most_key → body_bytes then_kept ≡ front ++ bytes
push_kept len left front bytes kept then_kept counted few same pushed short =
    let size : length (body_bytes kept) ≡ length front = ap length same in
    pushed (omega (arith, counted, few, short, size)) ∙ ap (λ (z : List ℕ). z ++ bytes) same

-- Of a string of indefinite length any bytes are kept.
pub any_kept : {E W : Type 0} (result : Result (Unit {0}) (DumpError E W)) (bytes : List ℕ) (kept : KeyBody)
    → OnOk result (IsKept None bytes kept)
any_kept result bytes kept = grind (arith, nat_tests)

module _ {R E : Type 0} (source : Ghosts R E) where
  -- The bytes of a row that was empty are those that were read.
  pub taken_all : (nothing row : List ℕ) (old new : Decoder R) → nothing ≡ [] → Keeps source nothing row old new
      → TakesBytes source old row new
  taken_all nothing row old new empty keeps = grind (arith, nat_tests)

  -- A front of a body was shown, and this many bytes are left.
  pub record SoFar (depth start : ℕ) (drawn then_drawn : Option (List Line)) (before : List ℕ) (kind : Kind)
      (len left : ℕ) (old new : Decoder R) : Type 0 where
    pub front : List ℕ
    pub shows : Shows source depth start drawn then_drawn before front Meant old new
    pub counted : length front + left ≡ len
    pub written : IsWritable kind front
    pub passed : old.waiting ≡ None → ReadsPast source old front new

  -- A front of a body was shown, and it is kept if the body is short.
  pub record KeptSoFar (depth start : ℕ) (drawn then_drawn : Option (List Line)) (before : List ℕ) (kind : Kind)
      (len left : ℕ) (kept : KeyBody) (old new : Decoder R) : Type 0 where
    pub shown : SoFar depth start drawn then_drawn before kind len left old new
    pub keeps : len ≤ most_key → body_bytes kept ≡ shown.front

  -- The next line begins at the offset after the bytes that were shown.
  pub next_offset : (depth start : ℕ) (drawn then_drawn : Option (List Line)) (before bytes : List ℕ)
      (old new : Decoder R) → Shows source depth start drawn then_drawn before bytes Meant old new
      → old.offset ≡ start + length before → new.offset ≡ start + length (before ++ bytes)
  next_offset depth start drawn then_drawn before bytes old new shows at =
      grind (arith, nat_tests, shows, length-append)

  -- A row at fault shows the bytes that were read of a body, after the front that was shown.
  pub part_fails : (allowed : Spelling) (error : Error E) (depth start opens : ℕ) (nests : List Nest)
      (outer title : List ℕ)
      (kind : Kind) (len left level offset : ℕ) (drawn middle then_drawn : Option (List Line)) (bytes : List ℕ)
      (old between new : Decoder R) → AtBody depth opens nests outer title kind len level
      → old.offset ≡ start + length (outer ++ title)
      → (so_far : SoFar depth start drawn middle (outer ++ title) kind len left old between)
      → TakesBytes source between bytes new → length bytes ≤ left → offset ≡ between.offset
      → Draws middle then_drawn (fault_lines level offset bytes) → IsPartRow kind left error bytes
      → length bytes ≤ most_bytes → 0 < left
      → (IsSteadyNoneWaiting source between → IfSome (view source new) (LeavesBehind error bytes))
      → Shows source depth start drawn then_drawn (outer ++ title) (so_far.front ++ bytes) (ending_of allowed error) old
      new
  unfolding body_here
  part_fails allowed error depth start opens nests outer title kind len left level offset drawn middle then_drawn bytes
      old between new at begun so_far takes few here drawn_fault row fit some left_behind =
      let counted = so_far.counted in
      let rest : left ≡ len - length so_far.front = omega (arith, counted) in
      shows_then source depth start drawn middle then_drawn (outer ++ title) so_far.front bytes old between new
      so_far.shows (shows_fault source allowed error depth start middle then_drawn ((outer ++ title) ++ so_far.front)
      level offset bytes between new takes drawn_fault
      (here ∙ next_offset depth start drawn middle (outer ++ title) so_far.front old between so_far.shows begun)
      (λ any. let fault = part_row allowed kind left error bytes row any in
      inr (no_text (ending_of allowed error) kind depth _ _ fault.0
      (body_here depth opens nests outer title kind len level at so_far.front bytes (omega (arith, counted, few))
      (subst (λ (k : Kind). IsFullPart k (len - length so_far.front) bytes) (sym fault.0)
      (subst (λ (n : ℕ). IsFullPart Text n bytes) rest fault.2)) offset m.Fault)
      (subst (λ (n : ℕ). IsTextFault (ending_of allowed error) n bytes) rest fault.1))) fit
      (part_fault kind left error bytes some row) left_behind)

  pub part_shown : (depth start opens : ℕ) (nests : List Nest) (outer title : List ℕ) (kind : CodeKind)
      (len left level offset : ℕ) (drawn middle then_drawn : Option (List Line)) (bytes : List ℕ)
      (old between new : Decoder R) → AtBody depth opens nests outer title (kind_of kind) len level
      → old.offset ≡ start + length (outer ++ title)
      → (so_far : SoFar depth start drawn middle (outer ++ title) (kind_of kind) len left old between)
      → TakesBytes source between bytes new → length bytes ≤ left → offset ≡ between.offset
      → IsWritable (kind_of kind) bytes → IsFullPart (kind_of kind) left bytes
      → (between.waiting ≡ None → ReadsPast source between bytes new)
      → Draws middle then_drawn (record {
        level = level;
        offset = offset;
        bytes = bytes;
        meaning = meaning_of kind;
        within = w.Nothing;
      } ∷ []) → FitsRow bytes
      → (shown : SoFar depth start drawn then_drawn (outer ++ title) (kind_of kind) len (left - length bytes) old new)
      × (shown.front ≡ so_far.front ++ bytes)
  part_shown depth start opens nests outer title kind len left level offset drawn middle then_drawn bytes old between
      new at begun so_far takes few here written full went drawn_line filled =
      let counted = so_far.counted in
      let rest : left ≡ len - length so_far.front = omega (arith, counted) in
      let fits : length so_far.front + length bytes ≤ len = omega (arith, counted, few) in (
        record {
          front = so_far.front ++ bytes;
          shows = shows_then source depth start drawn middle then_drawn (outer ++ title) so_far.front bytes old between
              new so_far.shows (record {
                lines = lines_one depth start middle then_drawn ((outer ++ title) ++ so_far.front) _ drawn_line
                    (here ∙ next_offset depth start drawn middle (outer ++ title) so_far.front old between so_far.shows
                    begun) filled
                    (part_stands kind depth ((outer ++ title) ++ so_far.front) _
                    (body_here depth opens nests outer title (kind_of kind) len level at so_far.front bytes fits
                    (subst (λ (n : ℕ). IsFullPart (kind_of kind) n bytes) rest full) offset (meaning_of kind)) written)
                    (part_meant kind, tt);
                takes = takes;
                left = λ idle. IfSome-all (view source new) _ (λ any. tt);
              });
          counted = omega (arith, counted, few, length-append so_far.front bytes);
          written = writable_then (kind_of kind) so_far.front bytes so_far.written written;
          passed = λ none. ReadsPast-then source old between new so_far.front bytes (so_far.passed none)
              (went (passes_idle source old between so_far.front (so_far.passed none) none));
        },
        refl,
      )

-- ---- opens

-- A string within an open joins the strings of that open.
pub add_string : (kind : Kind) (opens : ℕ) (parts string : List ℕ) (bodies others : List (List ℕ))
    → AreOpen kind (suc opens) parts bodies → IsString kind string others
    → AreOpen kind (suc opens) (parts ++ string) (bodies ++ others)
add_string kind opens parts string bodies others
    (more {outer = x} {title = t} {strings = s} {bodies = b} {others = c} o p are) is =
    let strings' : AreStrings kind (s ++ (string ++ [])) (c ++ (others ++ [])) =
    AreStrings-append kind s c are (string ++ []) (others ++ []) (more_strings is no_strings) in
    let strings : AreStrings kind (s ++ string) (c ++ others) =
    rw (append-nil string, append-nil others) at strings' in
    rw (append_assoc x (t ++ s) string, append_assoc t s string, append_assoc b c others) (more o p strings)

-- A string of definite length after others is one more of them.
flat_then : (kind : Kind) (strings title body : List ℕ) (bodies : List (List ℕ)) → AreFlat kind strings bodies
    → IsTitle title (kind_header kind (Some (length body)))
    → IsStrictTitle title (kind_header kind (Some (length body)))
    → AreFlat kind (strings ++ (title ++ body)) (bodies ++ (body ∷ []))
flat_then kind strings title body bodies no_flat p g =
    subst (λ (z : List ℕ). AreFlat kind z (body ∷ [])) (append-nil (title ++ body)) (more_flat p g no_flat)
flat_then kind strings title body bodies (more_flat {title = t} {body = b} {rest = z} {bodies = c} q f flat) p g =
    subst (λ (y : List ℕ). AreFlat kind y (b ∷ (c ++ (body ∷ [])))) (sym (append_assoc (t ++ b) z (title ++ body)))
    (more_flat q f (flat_then kind z title body c flat p g))

pub taken_then : (allowed : Spelling) (kind : Kind) (strings title body : List ℕ) (bodies : List (List ℕ))
    → AreTakenStrings allowed kind strings bodies → IsTitle title (kind_header kind (Some (length body)))
    → IsTakenTitle allowed title (kind_header kind (Some (length body)))
    → AreTakenStrings allowed kind (strings ++ (title ++ body)) (bodies ++ (body ∷ []))
taken_then allowed kind strings title body bodies p q r = grind (arith, nat_tests, flat_then)

-- If any spelling is taken, all strings are taken.
pub taken_any : (allowed : Spelling) (kind : Kind) (strings : List ℕ) (bodies : List (List ℕ)) → allowed ≡ Any
    → AreTakenStrings allowed kind strings bodies
taken_any allowed kind strings bodies p = grind (arith, nat_tests)

pub taken_none : (allowed : Spelling) (kind : Kind) → AreTakenStrings allowed kind [] []
taken_none allowed kind = grind (arith, nat_tests, no_flat)

-- A further open after others leaves one more open.
pub add_open : (kind : Kind) (opens : ℕ) (parts title : List ℕ) (bodies : List (List ℕ))
    → AreOpen kind opens parts bodies → IsTitle title (kind_header kind None)
    → AreOpen kind (suc opens) (parts ++ title) bodies
add_open kind opens parts title bodies o p =
    let added : AreOpen kind (suc opens) (parts ++ (title ++ [])) (bodies ++ []) = more o p no_strings in
    rw (append-nil title, append-nil bodies) at added

-- A break after several opens closes the last of them.
pub close_inner : (kind : Kind) (opens : ℕ) (parts : List ℕ) (bodies : List (List ℕ))
    → AreOpen kind (suc (suc opens)) parts bodies → AreOpen kind (suc opens) (parts ++ 0xff ∷ []) bodies
close_inner kind opens parts bodies (more {outer = x} {title = t} {strings = s} {bodies = b} {others = c} o p are) =
    rw (append_assoc x (t ++ s) (0xff ∷ []), append_assoc t s (0xff ∷ []))
    (add_string kind opens x (t ++ (s ++ 0xff ∷ [])) b c o (indefinite p are))

-- If no open is left, there are no bytes and no bodies.
pub not_open : (kind : Kind) (opens : ℕ) (parts : List ℕ) (bodies : List (List ℕ)) → AreOpen kind opens parts bodies
    → opens ≡ 0 → (parts ≡ []) × (bodies ≡ [])
not_open kind opens parts bodies p q = grind (arith, nat_tests)

pub close_last : (allowed : Spelling) (kind : Kind) (title bytes parts : List ℕ) (bodies : List (List ℕ))
    → AreOpen kind (suc zero) parts bodies → IsTitle title (kind_header kind None) → title ++ bytes ≡ parts
    → AreWritable kind bodies → AreTakenStrings allowed kind bytes bodies
    → EndsString allowed kind (bytes ++ 0xff ∷ [])
close_last allowed kind title bytes parts bodies
    (more {outer = x} {title = t} {strings = s} {bodies = b} {others = c} o p are) q e sound taken =
    let empty = not_open kind zero x b o refl in
    let same : title ++ bytes ≡ t ++ s = e ∙ ap (λ (z : List ℕ). z ++ (t ++ s)) empty.0 in
    let both = one_title title t bytes s (kind_header kind None) (kind_header kind None) q p same in
    let all : b ++ c ≡ c = ap (λ (z : List (List ℕ)). z ++ c) empty.1 in
    record {
      strings = s;
      bodies = c;
      are_strings = are;
      taken = subst (λ (z : List ℕ). AreTakenStrings allowed kind z c) both.2
          (subst (λ (z : List (List ℕ)). AreTakenStrings allowed kind bytes z) all taken);
      sound = subst (λ (z : List (List ℕ)). AreWritable kind z) all sound;
      is = ap (λ (z : List ℕ). z ++ 0xff ∷ []) both.2;
    }

-- ---- how the read of a body stops

module _ {R E W : Type 0} (source : Ghosts R E) where
  -- If the body failed, the rest of the string stops with the same error.
  pub body_stops : (kind : Kind) (len place : ℕ) (old new : Decoder R) (error : Error E) (why : DumpError E W)
      → SaysFault error why → FailsInBody source kind len place old error new
      → StopsBehindTitle source kind (Some len) place old (Err why) new
  body_stops kind len place old new error why p q = grind (arith, nat_tests, nat_tests)

  -- The place does not matter for a string of indefinite length.
  pub any_place : (kind : Kind) (place other : ℕ) (old new : Decoder R) (result : Result (Unit {0}) (DumpError E W))
      → StopsBehindTitle source kind None place old result new → StopsBehindTitle source kind None other old result new
  any_place kind place other old new result p = grind (arith, nat_tests)
