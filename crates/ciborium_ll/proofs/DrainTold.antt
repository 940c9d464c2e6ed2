-- The meaning of a drain if the bytes are told: the premises turn the general statement into an exact statement.
use Rattle.std.proofs.Common.{◌≡◌, ◌⊎◌, ℕ, ◌+◌, ◌-◌, ◌*◌, ◌<◌, ◌≤◌, ◌↔◌, All, List, [], ◌∷◌, ◌++◌, length, take, drop}
use Rattle.std.proofs.Common.{sum, Option, Some, Result, Ok, Err, IfOk, refl, sym, ap, ◌∙◌, inl, inr, arith}
use Rattle.std.proofs.Common.{append_assoc, append-nil, length-append, length-take-le, suc-mul, div-add-mod', mod-lt}
use Rattle.std.specs.Io.KnownBytes.{prepend_known}
use Rattle.std.specs.Option.{option_map}
use Rattle.std.proofs.Math.Seq.{take-append_seam, take-append-add}
use Rattle.std.proofs.lemmas.List.{take-append-drop, take-append-le}
use Rattle.std.proofs.lemmas.List.Sums.{sum_by-cons}
use Rattle.std.specs.List.{AllByRecursion}
use Rattle.std.proofs.lemmas.List.Elements.{All-take, recursion_from_All}
use Rattle.ciborium_ll_io.specs.declared.io.Read.{Ghosts as Reader}
use Rattle.ciborium_ll_io.specs.declared.io.Write.{Ghosts as Writer}
use Rattle.ciborium_ll_decoder.specs.declared.dec.Error.TheVariants as e
use Rattle.ciborium_ll_decoder.specs.declared.copy.RecodeError.{RecodeError}
use Rattle.ciborium_ll_decoder.specs.declared.copy.RecodeError.TheVariants as r
use Rattle.ciborium_ll.specs.declared.laws.drains.Drained.{Drained}
use Rattle.ciborium_ll.specs.declared.laws.drains.End.{End}
use Rattle.ciborium_ll.specs.declared.laws.drains.End.TheVariants as end
use Rattle.ciborium_ll_decoder.specs.declared.seg.Parser.{Ghosts as Parser}
use Rattle.ciborium_ll_decoder.specs.declared.seg.Segment.{Segment}
use Rattle.ciborium_ll_grammar.specs.Strings.{Kind, Bytes, Text, IsWritable, most_kept}
use Rattle.ciborium_ll_text.specs.Text.{IsCharacters}
use Rattle.ciborium_ll_decoder.specs.Kept.{kept_bytes}
use Rattle.ciborium_ll_decoder.specs.Chunks.{EndsInCharacter, KeepsTooMuch, rest}
use Rattle.ciborium_ll.specs.Drains.{DrainsEach, gains, calls_for, IsEnough, AddUp, DrainsSome, DrainsAll, DrainsSizes}
use Rattle.ciborium_ll.specs.Drains.{DrainFails, DrainUnwritten, EndsDrain, Drains, IsDrainable, WritesBody, LeavesRest}
use Rattle.ciborium_ll.specs.Drains.{FindsNoText, EndsTold, DrainsTold, SaysEnded}
use Rattle.ciborium_ll_decoder.proofs.BodyLaws.{view_none, split_parts, stuck_is_no_text, too_much_is_no_text}
use Rattle.ciborium_ll_decoder.proofs.ToldLaws.{consumes_told}
use Rattle.ciborium_ll_io.proofs.WriteLaws.{appends_told, shrinks_told}
use Rattle.ciborium_ll_text.proofs.Lists.{front_of_front, length_zero}
use Rattle.ciborium_ll.proofs.DrainLaws.{each_some}

-- ---- sizes

gains-bytes : (sizes : List ℕ) → gains Bytes sizes ≡ sum sizes
gains-bytes [] = refl
gains-bytes (size ∷ sizes) = grind (arith, gains-bytes sizes, sum_by-cons)

-- Sizes that add up to the bytes are enough for bytes.
add_up : {kind : Kind} {sizes : List ℕ} {bytes count : ℕ} → kind ≡ Bytes → AddUp sizes bytes count
    → IsEnough kind sizes bytes count
add_up is adds = grind (arith, gains-bytes)

-- The sum of the gains is at least the number of sizes times the least gain.
least_gains : (kind : Kind) (size : ℕ) (sizes : List ℕ) → AllByRecursion (λ other. size ≤ other) sizes
    → length sizes * (size - most_kept kind) ≤ gains kind sizes
least_gains kind size [] all = omega arith
least_gains kind size (first ∷ sizes) all =
    let rest = least_gains kind size sizes all.1 in
    let one = suc-mul (length sizes) (size - most_kept kind) in
    omega (arith, rest, one, all.0, sum_by-cons (λ (n : ℕ). n - most_kept kind) first sizes)

pub calls_enough : (kind : Kind) (size bytes : ℕ) (sizes : List ℕ) → most_kept kind < size
    → All (λ other. size ≤ other) sizes → calls_for kind size bytes < length sizes
    → IsEnough kind sizes bytes (calls_for kind size bytes)
calls_enough kind size bytes sizes large all fewer =
    let gain = size - most_kept kind in
    let count = calls_for kind size bytes in
    let long = length-take-le count sizes (omega (arith, fewer)) in
    let gained = least_gains kind size (take count sizes)
    (recursion_from_All (λ other. size ≤ other) (take count sizes)
    (All-take (λ other. size ≤ other) count sizes all)) in
    let least = rw long at gained in
    let parts = div-add-mod' (bytes + gain - 1) gain in
    let some : 0 < gain = omega (arith, large) in
    let small = mod-lt (bytes + gain - 1) some in
    record { fewer = fewer; enough = omega (arith, least, parts, small, large) }

-- ---- bytes that are told

-- If the reader tells the rest of a body, it tells the bytes due, and their front is the unread part of the body.
body_told : (kept : List ℕ) (unread : ℕ) (ahead : Option (List ℕ)) (body : List ℕ)
    → prepend_known kept (option_map (take unread) ahead) ≡ Some body
    → (due : List ℕ) × (ahead ≡ Some due) × (body ≡ kept ++ take unread due)
body_told kept unread ahead body e = grind arith

module _ {R E P W F : Type 0} {parser : Parser P} {source : Reader R E} {sink : Writer W F}
    {old : Segment R P parser} {writer : W} {body written : List ℕ} (sizes : List ℕ)
    (ready : IsDrainable source sink old writer body written) where
  -- The progress of a drain: the rest of the body, and the bytes that are told after the body.
  record Came (used : List ℕ) (new : Segment R P parser) (writer' : W) : Type 0 where
    some : DrainsSome source sink used old writer new writer'
    more : List ℕ
    beyond : List ℕ
    ahead : source.ahead new.decoder.now.reader ≡ Some (more ++ beyond)
    counted : length more ≡ new.unread
    parts : body ≡ some.given ++ (kept_bytes new.kept ++ more)
    left : rest source new ≡ Some (kept_bytes new.kept ++ more)
    output : sink.written writer' ≡ Some (written ++ some.given)

  came : {used : List ℕ} {new : Segment R P parser} {writer' : W} → DrainsEach source sink used old writer new writer'
      → Came used new writer'
  came {used} {new} {writer'} each =
      let some = each_some source sink each in
      let kept = kept_bytes old.kept in
      let read = some.read in
      let told = body_told kept old.unread (source.ahead old.decoder.now.reader) body ready.body-told in
      let due = told.0 in
      let before = view_none old.decoder.now.waiting (source.ahead old.decoder.now.reader) old.none_waits in
      let after = view_none new.decoder.now.waiting (source.ahead new.decoder.now.reader) new.none_waits in
      let behind = consumes_told _ _ due read (before ∙ told.1) some.passed.consumed in
      let others = behind.0 in
      let known = sym after ∙ behind.1 in
      let more = take new.unread others in
      let sum : old.unread ≡ length read + new.unread = omega (arith, some.unread) in
      let front : take old.unread due ≡ read ++ more = cc (behind.2, sum, take-append-add read others new.unread) in
      record {
        some = some;
        more = more;
        beyond = drop new.unread others;
        ahead = known ∙ ap Some (sym (take-append-drop new.unread others));
        counted = grind (arith, told.2, front, sum, ready.whole, length-append);
        parts = grind (arith, told.2, front, append_assoc, some.parts);
        left = cc known;
        output = appends_told _ _ written some.given ready.can_write.told some.written.appended;
      }

  module _ (new : Segment R P parser) (writer' : W) where
    -- ---- the body has ended

    all_told : (calls : ℕ) → DrainsAll source sink sizes old writer calls new writer'
        → WritesBody source sink sizes body written calls new writer'
    all_told calls all =
        let before = all.comes.before in
        let others = all.size ∷ all.comes.others in
        let c = came all.comes.each in
        let nothing : kept_bytes all.between.kept ++ c.more ≡ [] =
        grind (arith, length_zero c.more, c.counted, all.ends.none_unread, all.ends.none_kept) in
        let whole : body ≡ c.some.given = rw (nothing, append-nil) at c.parts in
        let same = all.ends.same in
        let front : take (calls - 1) sizes ≡ before =
        grind (arith, all.counted, all.comes.parts, take-append_seam before others) in
        record {
          sound = rw whole c.some.sound;
          output = rw whole c.output;
          left = rw (same.kept, same.unread, all.ends.decoder) (c.left ∙ ap Some nothing);
          some_calls = omega (arith, all.counted);
          no_more = grind (arith, all.counted, all.comes.parts, length-append);
          needed = grind (arith, whole, front, c.some.most);
          soon = λ count enough. grind (
            arith,
            c.some.needed count,
            all.comes.parts,
            take-append-le count before others,
            enough.enough,
            ready.whole,
            all.counted,
          );
        }

    -- ---- the sizes are used up

    rest_told : (calls : ℕ) → DrainsSizes source sink sizes old writer calls new writer'
        → LeavesRest source sink sizes body written calls old new writer'
    rest_told calls all =
        let c = came all.each in
        record {
          all_sizes = all.counted;
          given = c.some.given;
          behind = kept_bytes new.kept ++ c.more;
          parts = c.parts;
          sound = c.some.sound;
          output = c.output;
          left = c.left;
          least = grind (arith, c.some.least, c.some.unread);
          too_few = λ count enough. let due = c.some.needed count enough.fewer in
              omega (arith, due, enough.enough, ready.whole);
        }

    -- ---- the body is no text

    damaged : {used : List ℕ} {between : Segment R P parser} (room : ℕ) (c : Came used between writer') (kind : Kind)
        → parser.kind ≡ kind → IsWritable kind c.some.given
        → EndsInCharacter source between new ⊎ KeepsTooMuch source room between new
        → (kind ≡ Text) × IsCharacters c.some.given × (IsCharacters body → ⊥)
    damaged {between} room c Bytes is sound cause = absurd (grind (arith, between.text_alone is, cause, is))
    damaged {between} room c Text is sound (inl ends) =
        let kept = kept_bytes between.kept in
        let parts : body ≡ c.some.given ++ kept =
        grind (arith, length_zero c.more, c.counted, ends.none_unread, c.parts, append-nil kept) in
        (refl, sound, stuck_is_no_text body c.some.given kept parts sound between.stuck ends.some_kept)
    damaged {between} room c Text is sound (inr keeps) =
        let kept = kept_bytes between.kept in
        let read = keeps.read in
        let given = c.some.given in
        -- Bytes that are read on are the front of the rest.
        let told = consumes_told _ _ (c.more ++ c.beyond) read c.ahead keeps.reads.reads.bytes in
        let fits : length read ≤ length c.more = omega (arith, keeps.reads.unread, c.counted) in
        let on = front_of_front read c.more told.0 c.beyond (sym told.2) fits in
        let parts : body ≡ (given ++ (kept ++ read)) ++ on.0 =
        cc (c.parts, on.1, append_assoc kept read on.0, append_assoc given (kept ++ read) on.0) in
        let none = too_much_is_no_text (given ++ (kept ++ read)) given kept read keeps.front keeps.left refl sound
        (rw is at keeps.split) keeps.too_much in
        (refl, sound, λ whole. none on.0 (rw parts at whole))

    damage_told : (at : ℕ) → DrainFails source sink sizes old writer (e.Syntax at) new writer'
        → FindsNoText source sink body written at old writer'
    damage_told at stops =
        let c = came stops.comes.each in
        let found : (parser.kind ≡ Text) × IsCharacters c.some.given × (IsCharacters body → ⊥) =
        elim stops.fails.cause [
          | inl stays ↦ absurd (cc (stays.damaged-before, c.some.damaged, ready.sound))
          | inr found ↦ damaged stops.size c parser.kind refl c.some.sound found
        ] in
        record {
          textual = found.0;
          no_text = found.2;
          place = stops.fails.place ∙ c.some.place;
          given = c.some.given;
          behind = kept_bytes stops.between.kept ++ c.more;
          parts = c.parts;
          sound = found.1;
          output = c.output;
        }

    -- ---- no side fails

    no_failure : (fault : E) → DrainFails source sink sizes old writer (e.Io fault) new writer' → ⊥
    no_failure fault stops = grind (arith, came, length-append)

    no_overflow : DrainFails source sink sizes old writer e.TooLong new writer' → ⊥
    no_overflow stops = grind (arith, came)

    no_refusal : DrainUnwritten source sink sizes old writer new writer' → ⊥
    no_refusal stops =
        let c = came stops.comes.each in
        let can = ready.can_write in
        let told = shrinks_told _ _ can.room _ can.room-told c.some.written.room in
        let full = rw told.1 at stops.stopped.full in
        let kept = kept_bytes stops.between.kept in
        let split = ap length (split_parts parser.kind (kept ++ stops.gives.read) stops.chunk _ stops.gives.split) in
        let whole = ap length c.parts in
        grind (arith, full, told.2, split, whole, can.enough, c.counted, stops.gives.reads.unread, length-append)

    -- ---- a drain, by its answer

    ends_told : (calls : ℕ) (how : End) → EndsDrain source sink sizes old writer calls how new writer'
        → EndsTold source sink sizes body written old calls how new writer'
    ends_told calls how all = grind (arith, all_told, rest_told)

    pub drains_told : (result : Result Drained (RecodeError E F))
        → Drains source sink sizes old writer result new writer'
        → DrainsTold source sink sizes body written old result new writer'
    drains_told result drains = grind (arith, ends_told, damage_told, no_failure, no_overflow, no_refusal)

    -- ---- the end depends on the body and the sizes alone

    -- If some first sizes are enough, the drain ends by the call after them.
    ends_soon : (calls : ℕ) (how : End) → EndsTold source sink sizes body written old calls how new writer'
        → (count : ℕ) → IsEnough parser.kind sizes (length body) count → (how ≡ end.Ended) × (calls ≤ count + 1)
    ends_soon calls how told count enough = grind arith

    pub bytes_exactly : (result : Result Drained (RecodeError E F)) → parser.kind ≡ Bytes
        → DrainsTold source sink sizes body written old result new writer'
        → SaysEnded result ↔ ((count : ℕ) × AddUp sizes (length body) count)
    bytes_exactly (Ok drained) is told = (
      λ same.
          let all = rw same at told in
          (drained.calls - 1, record { fewer = omega (arith, all.some_calls, all.no_more); enough = all.needed }),
      λ adds. (ends_soon drained.calls drained.end told adds.0 (add_up is adds.1)).0,
    )
    bytes_exactly (Err (r.Read (e.Syntax at))) is told = absurd (cc told.textual)
    bytes_exactly (Err error) is told = absurd told

    pub bytes_soonest : (result : Result Drained (RecodeError E F)) (count : ℕ) → parser.kind ≡ Bytes
        → AddUp sizes (length body) count → DrainsTold source sink sizes body written old result new writer'
        → IfOk result (λ drained. drained.calls ≤ count + 1)
    bytes_soonest (Ok drained) count is adds told = (ends_soon drained.calls drained.end told count (add_up is adds)).1
    bytes_soonest (Err error) count is adds told = tt

    pub text_exactly : (result : Result Drained (RecodeError E F)) (count : ℕ) → parser.kind ≡ Text
        → IsEnough parser.kind sizes (length body) count
        → DrainsTold source sink sizes body written old result new writer' → SaysEnded result ↔ IsCharacters body
    text_exactly result count is enough told = grind (arith, ends_soon)
