use Rattle.std.proofs.Common.{◌≡◌, ℕ, ◌+◌, ◌≤◌, ap, arith, refl, Result, IfOk}
use Rattle.ciborium_ll_grammar.specs.declared.hdr.Header.{Header}
use Rattle.ciborium_ll_grammar.specs.Title.{title_len}
use Rattle.ciborium_ll_decoder.proofs.DecodingLaws.{waiting_pulled, waits_for_none}
use Rattle.ciborium_ll_decoder.proofs.dec.Decoder.pull.Goals as goal

-- A title is no longer than the bytes read so far.
covered_by : {E : Type 0} (result : Result Header E) (count before after : ℕ) → after ≡ before + count
    → IfOk result (λ header. title_len header ≤ count) → IfOk result (λ header. title_len header ≤ after)
covered_by result count before after is covered = grind arith

pub returns-in-Some : goal.returns-in-Some
returns-in-Some g c =
    let header = c.in-Some.header in
    let waited = c.in-Some.is in
    record {
      header = waiting_pulled g.R.Read c.args.self.now _ header c.title_len.ensures.range waited refl refl
          (ap (λ (n : ℕ). c.args.self.now.offset + n) c.title_len.ensures.value) refl;
      covered = omega (arith, c.title_len.ensures.value);
      full = λ none most. absurd (waits_for_none _ header waited none);
      moves_on = record { steady = λ s. s; mode = refl; refusals = refl; rises = omega arith };
    }

pub returns-in-Some-at_hand : goal.returns-in-Some-at_hand
returns-in-Some-at_hand g c =
    let read = c.in-Some-at_hand.ensures.read in
    let new = c.at_hand.new.self in
    record {
      header = c.header_of.ensures.header c.args.self.now refl read;
      covered = covered_by c.header_of.result _ c.args.self.now.offset new.offset read.offset c.header_of.ensures.covered;
      full = λ none most. absurd (omega (arith, read.offset, most, new.covered));
      moves_on = c.in-Some-at_hand.ensures.moves_on;
    }
