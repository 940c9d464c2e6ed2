-- How many bytes of a title or of a character are held back at most.
use Rattle.std.specs.Prelude.{ℕ, zero, ◌-◌, ◌%◌, Bool, true, false, List, slice_index}
use Rattle.ciborium_ll_grammar.specs.declared.limits.TheConstants.{LONGEST_AFFIX}
use Rattle.ciborium_ll_grammar.specs.Title.{affix_len}
use Rattle.ciborium_ll_text.specs.declared.state.State.{State}
use Rattle.ciborium_ll_text.specs.declared.state.State.TheVariants as s
use Rattle.ciborium_ll_text.specs.States.{tail_due}
use Rattle.cbor_copier.specs.declared.phase.Phase.{Phase}
use Rattle.cbor_copier.specs.declared.phase.Phase.TheVariants as p

-- How many bytes of a character are held back at most, by how many more bytes end it. A character has at most four
-- (Unicode, Table 3-7): if two more end it, as after `e2`, at most two came.
abbrev pub most_cut : State → ℕ
most_cut s.Between = 0
most_cut s.Damaged = 0
most_cut state = 4 - tail_due state

-- How many bytes of a title or a character are held back at most. For a title it is the length of the affix that its
-- first byte announces (RFC 7049, 2.1): two for `19`. At a fault it is that of the longest affix.
abbrev pub most_front : Phase → List ℕ → ℕ
most_front p.Title front = affix_len (slice_index front 0 % 32)
most_front (p.Text left state) front = most_cut state
most_front (p.Faulted place) front = LONGEST_AFFIX
most_front phase front = 0

-- If a body is due, it has bytes left: so it is with `Bytes(2)` after `42` and with `Title`, and not with `Bytes(0)`.
abbrev pub has_left : Phase → Bool
has_left (p.Bytes zero) = false
has_left (p.Text zero state) = false
has_left phase = true
