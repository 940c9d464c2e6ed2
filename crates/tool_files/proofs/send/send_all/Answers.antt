use Rattle.std.proofs.Common.{◌≡◌, ℕ, ◌+◌, ◌-◌, List, ◌++◌, Option, arith, length, take, drop, sym, ap, ◌∙◌, subst}
use Rattle.std.proofs.Common.{rules}
use Rattle.std.proofs.lemmas.List.{take_rest}
use Rattle.std.specs.Io.KnownBytes.{Appends, Keeps}
use Rattle.std.proofs.KnownBytes.{Appends-trans}
use lib.Seq.{take-add}
use Rattle.tool_files.proofs.send.send_all.Goals as goal
use Rattle.tool_files.proofs.send.send_all.Goals.{in-Ok, in-Err+else-ne}

-- The first `a` bytes, followed by the `n` bytes of one more write, are the first `a + n` bytes.
sent_more : (a n : ℕ) (xs : List ℕ) → take a xs ++ take n (take (length xs - a) (drop a xs)) ≡ take (a + n) xs
sent_more a n xs = ap (λ l. take a xs ++ take n l) (take_rest xs a) ∙ sym (take-add a n xs)

-- After a write that failed the writer has what it had.
sent_same : (a b c : Option (List ℕ)) (bs : List ℕ) → Appends a b bs → Keeps b c → Appends a c bs
sent_same a b c bs sent kept = grind arith

pub calls-preserved : goal.calls-preserved
calls-preserved g c =
    let sent = c.calls.invariant in
    elim c.match-write.branch [
      | in-Ok w ↦ rw w.sent-is (record {
        within = search rules;
        bytes = subst (Appends _ _) (sent_more c.calls.sent w.in-Ok.count c.args.bytes.now)
            (Appends-trans _ _ _ _ _ sent.bytes w.in-Ok.ensures.bytes);
      })
      | in-Err+else-ne w ↦ rw w.sent-is (record {
        within = sent.within;
        bytes = sent_same _ _ _ _ sent.bytes w.in-Err.ensures.bytes;
      })
    ]
