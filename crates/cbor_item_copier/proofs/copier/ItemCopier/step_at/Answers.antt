use Rattle.std.proofs.Common.{◌≡◌, ◌≤◌, ◌+◌, ◌-◌, ◌++◌, length, take, drop, refl, inl, inr, rules, arith}
use Rattle.std.proofs.lemmas.List.{take_all, length-drop}
use Rattle.std.proofs.lemmas.List.Edits.{length-between}
use Rattle.cbor_item_copier.proofs.PieceLaws.{out_kept, given_front, fed_front}
use Rattle.cbor_item_copier.proofs.copier.ItemCopier.step_at.Goals as goal

pub returns : goal.returns
returns c =
    let wrote = c.in_ok-taken.ensures in
    let bytes = c.args.bytes.now in
    let at = c.args.at in
    let len = c.step_len-len.result in
    let before = c.args.written in
    let taken = c.in_ok-taken.taken in
    let more = c.in_ok-taken.more in
    let out = c.args.out.now in
    let new = c.step.new.self in
    let k = length out - before in
    let room : take k (drop before out) ≡ drop before out =
    take_all k (drop before out) (omega (arith, length-drop before out)) in
    let room_len : length (take k (drop before out)) ≡ k = search rules in
    let long : length c.step.new.out ≡ k = search rules in
    let few = wrote.within in
    let fits = c.step_len-len.ensures.some.1 in
    let within : at + len ≤ length bytes = omega (arith, fits, c.requires.some) in
    let piece = length-between bytes at (at + len) within in
    let all = wrote.all in
    record {
      some = omega (arith, wrote.some);
      all = omega (arith, all, piece, within);
      more = omega arith;
      within = omega (arith, few, room_len, c.requires.room);
      kept = out_kept before more k out c.step.new.out c.requires.room refl long (take k (drop before out)) room
          wrote.kept;
      full = elim wrote.full [
        | inl none ↦ inl none
        | inr all ↦ inr (omega (arith, all, room_len, c.requires.room))
      ];
      grown = omega (arith, wrote.grown);
      copied = λ allowed depth fed given was.
          rw (
            ← fed_front fed bytes at len taken all within,
            ← given_front before more k out c.step.new.out c.requires.room refl long (omega (arith, few, room_len))
                given,
          )
          (wrote.copied allowed depth (fed ++ take at bytes) (given ++ take before out) was);
    }
