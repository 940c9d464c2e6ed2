-- A character that an earlier piece began, joined with bytes at the beginning of a piece.
use Rattle.std.proofs.Common.{◌≡◌, ℕ, ◌-◌, ◌<◌, ◌≤◌, true, false, List, ◌++◌, length, take, drop, subst, arith}
use Rattle.ciborium_ll_text.specs.Text.{IsCharacters, IsFront, IsStuck}
use Rattle.ciborium_ll_text.specs.declared.state.State.{State}
use Rattle.ciborium_ll_text.specs.declared.state.State.TheVariants as s
use Rattle.ciborium_ll_text.specs.States.{after, may_end}
use Rattle.cbor_parser.specs.Parsing.{CanEnd}
use Rattle.cbor_parser.proofs.TextEnds.{ends_so, longer, part_of, part_within, stops_so, stuck_whole}

-- `joined` are the bytes that are kept and the first `n` bytes of the piece. `front` is the text at their beginning,
-- and `state` is the state after the rest.
module _ (carried piece joined front : List ℕ) (state : State) (n : ℕ) (there : n ≤ length piece)
    (is : joined ≡ carried ++ take n piece) (longest : IsFront joined front (drop (length front) joined)) where
  same : IsFront (carried ++ take n piece) front (drop (length front) joined)
  same = subst (λ (x : List ℕ). IsFront x front (drop (length front) joined)) is longest

  -- A text ends the character that was kept.
  pub part_more : IsStuck carried → 0 < length front → length carried < length front
  part_more stuck some = longer carried (take n piece) front (drop (length front) joined) stuck same some

  -- It has no more bytes than those that are looked at.
  pub part_most : length front - length carried ≤ n
  part_most = part_within carried piece front (drop (length front) joined) n there same

  -- It is the bytes that were kept and bytes of the piece.
  pub part_text : IsStuck carried → 0 < length front
      → IsCharacters (carried ++ take (length front - length carried) piece)
  part_text stuck some =
      let more = part_more stuck some in
      part_of carried piece front (drop (length front) joined) n there same (omega (arith, more))

  -- Without a text, no character ends.
  pub held : length front ≡ 0 → IsStuck (carried ++ take n piece)
  held none = subst IsStuck is (stuck_whole joined front longest none)

  module _ (told : state ≡ after s.Between (drop (length front) joined)) (left : ℕ) (none : length front ≡ 0) where
    -- The state says that some bytes end the character.
    pub goes : may_end state left ≡ true → CanEnd (carried ++ take n piece) left
    goes may = subst (λ (x : List ℕ). CanEnd x left) is (ends_so joined front state left none told may)

    -- The state says that none do.
    pub stops : may_end state left ≡ false → CanEnd (carried ++ take n piece) left → ⊥
    stops never = subst (λ (x : List ℕ). CanEnd x left → ⊥) is (stops_so joined front state left none told never)
