use Rattle.std.proofs.Common.{ℕ, List, take, rules, arith, sym, ap, inr, ◌∙◌, ◌≡◌, ◌<◌, ◌≤◌, ◌-◌, [], ◌++◌, length}
use Rattle.std.proofs.Common.{drop, length-append, Result, IfOk, IsErrAnd}
use Rattle.std.proofs.lemmas.List.{take_rest, take_at}
use Rattle.ciborium_ll_decoder.specs.Kept.{kept_bytes}
use Rattle.ciborium_ll_text.specs.Text.{IsFront}
use Rattle.ciborium_ll_decoder.proofs.DecodingLaws.{exit_is}
use Rattle.ciborium_ll_decoder.proofs.ChunkLaws.{fill_stopped, none_stopped, ReadsOn-behind, ReadsOn-none, chunk_left}
use Rattle.ciborium_ll_decoder.proofs.ChunkLaws.{chunk_consumed}
use Rattle.ciborium_ll_text.proofs.FrontLaws.{IsFront-stuck, IsStuck-rest}
use Rattle.ciborium_ll_text.proofs.LastEndLaws.{stuck_end}
use Rattle.ciborium_ll_decoder.proofs.seg.Segment+R+Text.pull_front.Goals as goal

-- A front of bytes is no longer than the bytes.
front_within : (bytes front rest : List ℕ) → IsFront bytes front rest → length front ≤ length bytes
front_within bytes front rest is = grind (arith, length-append {A = ℕ})

-- The filled bytes begin with the kept bytes.
kept_in_front : (count : ℕ) (filled kept read : List ℕ) → filled ≡ kept ++ read → count ≡ length kept
    → take count filled ≡ kept
kept_in_front count filled kept read whole counted = rw whole (take_at kept read count (sym counted))

kept_within : (count : ℕ) (filled kept read : List ℕ) → filled ≡ kept ++ read → count ≡ length kept
    → count ≤ length filled
kept_within count filled kept read whole counted = grind (arith, length-append {A = ℕ})

-- An answer that is an error has no chunk.
no_chunk : {T E : Type 0} (answer : Result T E) (error : E) (P : T → Type 0) → IsErrAnd answer (λ given. given ≡ error)
    → IfOk answer P
no_chunk answer error P is = grind arith

pub text_front-state-requires-clause-within : goal.text_front-state-requires-clause-within
text_front-state-requires-clause-within g c =
    kept_within c.len-kept.result c.fill.new.filled _ _ c.in_ok-fill.ensures.filled.whole c.len-kept.ensures

pub text_front-state-requires-clause-told : goal.text_front-state-requires-clause-told
text_front-state-requires-clause-told g c =
    rw (kept_in_front c.len-kept.result c.fill.new.filled _ _ c.in_ok-fill.ensures.filled.whole c.len-kept.ensures)
    (rw c.fill.ensures.same.kept at c.fill.new.self.told)

pub text_front-state-requires-clause-stuck : goal.text_front-state-requires-clause-stuck
text_front-state-requires-clause-stuck g c =
    rw (kept_in_front c.len-kept.result c.fill.new.filled _ _ c.in_ok-fill.ensures.filled.whole c.len-kept.ensures)
    (stuck_end _ c.args.self.now.stuck)

pub returns-then-size-kept-clause-chunk : goal.returns-then-size-kept-clause-chunk
returns-then-size-kept-clause-chunk g c =
    let same = c.read_nothing.ensures.same in
    record {
      read = [];
      reads = ReadsOn-none g.R.Read (length c.args.buffer.now) c.min-size.result c.len-kept.result c.args.self.now
          c.read_nothing.new.self c.if-self-eq0.false c.if-self.false c.len-kept.ensures c.min-size.ensures
          c.if-size-kept.true same c.in_ok-read_nothing.ensures.read;
      split = rw same.kept (IsFront-stuck (kept_bytes c.args.self.now.kept) c.args.self.now.stuck);
      still_sound = same.damaged ∙ c.if-self.false;
    }

pub invariant_of-self-clause-stuck : goal.invariant_of-self-clause-stuck
invariant_of-self-clause-stuck g c =
    rw (c.in-Some.ensures.some ∙ take_rest c.fill.new.filled (length c.text_front-state.result.0.now))
    (IsStuck-rest _ _ _ c.text_front-state.ensures.front)

pub invariant_of-self-clause-told : goal.invariant_of-self-clause-told
invariant_of-self-clause-told g c =
    rw (c.in-Some.ensures.some ∙ take_rest c.fill.new.filled (length c.text_front-state.result.0.now))
    c.text_front-state.ensures.state

pub returns-in-None-clause-chunk : goal.returns-in-None-clause-chunk
returns-in-None-clause-chunk g c =
    let fill = c.in_ok-fill.ensures.filled in
    let text = c.text_front-state.result.0.now in
    let damage = c.damage-in-None.ensures in
    let same = c.fill.ensures.same in
    let behind : 3 < length (drop (length text) c.fill.new.filled) =
    rw (take_rest c.fill.new.filled (length text)) at c.in-None.ensures.none in
    let fewer = ap (λ (n : ℕ). n - (c.min-size.result - c.len-kept.result)) same.unread in
    rw damage.error (record {
      place = same.place;
      same_place = damage.place ∙ same.place;
      damaged = damage.damaged;
      cause = inr (inr (record {
        read = fill.read;
        reads = ReadsOn-behind g.R.Read (length c.args.buffer.now) c.min-size.result c.len-kept.result c.args.self.now _
            c.if-self-eq0.false c.if-self.false c.len-kept.ensures c.min-size.ensures c.fill.new.filled
            c.if-size-kept.false (search rules) fill.read fill.whole (rw damage.same fill.reads) (damage.unread ∙ fewer)
            (damage.place ∙ same.place);
        front = text;
        left = drop (length text) c.fill.new.filled;
        split = rw (← fill.whole) c.text_front-state.ensures.front;
        too_much = behind;
      }));
      none_kept = inr damage.kept;
    })

pub slice_bounds-keep-count : goal.slice_bounds-keep-count
slice_bounds-keep-count g c = front_within _ _ _ c.text_front-state.ensures.front

pub slice_bounds-keep-start : goal.slice_bounds-keep-start
slice_bounds-keep-start g c = front_within _ _ _ c.text_front-state.ensures.front

pub returns-in-Some-clause-chunk : goal.returns-in-Some-clause-chunk
returns-in-Some-clause-chunk g c =
    let fill = c.in_ok-fill.ensures.filled in
    let text = c.text_front-state.result.0.now in
    let same = c.fill.ensures.same in
    let behind = c.in-Some.ensures.some ∙ take_rest c.fill.new.filled (length text) in
    let fewer = ap (λ (n : ℕ). n - (c.min-size.result - c.len-kept.result)) same.unread in
    record {
      read = fill.read;
      reads = ReadsOn-behind g.R.Read (length c.args.buffer.now) c.min-size.result c.len-kept.result c.args.self.now _
          c.if-self-eq0.false c.if-self.false c.len-kept.ensures c.min-size.ensures c.fill.new.filled
          c.if-size-kept.false (search rules) fill.read fill.whole fill.reads fewer same.place;
      split = rw (← fill.whole, behind) c.text_front-state.ensures.front;
      still_sound = same.damaged ∙ c.if-self.false;
    }

pub returns-in-Some-clause-left : goal.returns-in-Some-clause-left
returns-in-Some-clause-left g c =
    chunk_left g.R.Read (length c.args.buffer.now) c.args.self.now _ c.text_front-state.result.0.now
    (returns-in-Some-clause-chunk g c)

pub returns-in-Some-clause-rest : goal.returns-in-Some-clause-rest
returns-in-Some-clause-rest g c =
    chunk_consumed g.R.Read (length c.args.buffer.now) c.args.self.now _ c.text_front-state.result.0.now
    (returns-in-Some-clause-chunk g c)

pub returns-then-size-kept-clause-left : goal.returns-then-size-kept-clause-left
returns-then-size-kept-clause-left g c =
    chunk_left g.R.Read (length c.args.buffer.now) c.args.self.now _ [] (returns-then-size-kept-clause-chunk g c)

pub returns-then-size-kept-clause-rest : goal.returns-then-size-kept-clause-rest
returns-then-size-kept-clause-rest g c =
    chunk_consumed g.R.Read (length c.args.buffer.now) c.args.self.now _ [] (returns-then-size-kept-clause-chunk g c)

-- ---- reads that fail

pub returns-in_err-read_nothing-clause-chunk : goal.returns-in_err-read_nothing-clause-chunk
returns-in_err-read_nothing-clause-chunk g c =
    none_stopped g.R.Read (length c.args.buffer.now) c.min-size.result c.len-kept.result c.args.self.now
    c.read_nothing.new.self c.if-self-eq0.false c.if-self.false c.len-kept.ensures c.min-size.ensures _ _
    (exit_is c.from_residual.result c.in_err-read_nothing.field-0.0 c.from_residual.ensures.1) c.if-size-kept.true
    c.read_nothing.ensures.same c.in_err-read_nothing.ensures.read

pub returns-in_err-fill-clause-chunk : goal.returns-in_err-fill-clause-chunk
returns-in_err-fill-clause-chunk g c =
    let answer = c.from_residual-in_err-fill in
    fill_stopped g.R.Read (length c.args.buffer.now) c.min-size.result c.len-kept.result c.args.self.now
    c.fill.new.self c.if-self-eq0.false c.if-self.false c.len-kept.ensures c.min-size.ensures c.fill.new.filled
    c.if-size-kept.false (search rules) _ _ (exit_is answer.result c.in_err-fill.field-0.0 answer.ensures.1)
    c.fill.ensures.same c.in_err-fill.ensures.filled

pub returns-in_err-read_nothing-clause-left : goal.returns-in_err-read_nothing-clause-left
returns-in_err-read_nothing-clause-left g c =
    no_chunk c.from_residual.result c.in_err-read_nothing.field-0.0 _ c.from_residual.ensures.1

pub returns-in_err-read_nothing-clause-rest : goal.returns-in_err-read_nothing-clause-rest
returns-in_err-read_nothing-clause-rest g c =
    no_chunk c.from_residual.result c.in_err-read_nothing.field-0.0 _ c.from_residual.ensures.1

pub returns-in_err-fill-clause-left : goal.returns-in_err-fill-clause-left
returns-in_err-fill-clause-left g c =
    no_chunk c.from_residual-in_err-fill.result c.in_err-fill.field-0.0 _ c.from_residual-in_err-fill.ensures.1

pub returns-in_err-fill-clause-rest : goal.returns-in_err-fill-clause-rest
returns-in_err-fill-clause-rest g c =
    no_chunk c.from_residual-in_err-fill.result c.in_err-fill.field-0.0 _ c.from_residual-in_err-fill.ensures.1

-- ---- facts that each pull keeps
