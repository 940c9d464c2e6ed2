use Rattle.std.proofs.Common.{◌≡◌, ℕ, ◌+◌, ◌%◌, List, ◌++◌, length, get_or, slice_index, Option, Some, None}
use Rattle.std.proofs.Common.{take-append-drop, sym, ap, ◌∙◌, arith}
use Rattle.std.proofs.lemmas.List.{get_or-take}
use Rattle.std.specs.List.{IsSplitAt}
use Rattle.std.specs.Option.{IfSome, MatchOption}
use denote.Bor.{Bor}
use Rattle.ciborium_ll_grammar.specs.Title.{affix_len}
use Rattle.ciborium_ll_grammar.proofs.titles.split_title.Goals as goal

-- Two parts that bytes were split into, if they were.
abbrev Parts : Type 0
Parts = Option (Bor (List ℕ) × Bor (List ℕ))

joined : (bytes : List ℕ) (n : ℕ) (o : Parts) (N : Type 0)
    → MatchOption o N (λ p. IsSplitAt bytes n p.0.now p.1.now) → IfSome o (λ p. bytes ≡ p.0.now ++ p.1.now)
joined bytes n (Some p) N h = rw (h.1, h.2) (sym (take-append-drop n bytes))
joined bytes n None N h = tt

-- The first part begins with the byte that says how long it is.
announced : (bytes : List ℕ) (n : ℕ) (o : Parts) (N : Type 0)
    → MatchOption o N (λ p. IsSplitAt bytes (1 + n) p.0.now p.1.now) → n ≡ affix_len (get_or bytes 0 0 % 32)
    → IfSome o (λ p. length p.0.now ≡ 1 + affix_len (slice_index p.0.now 0 % 32))
announced bytes n (Some p) N h e =
    let same : get_or p.0.now 0 0 ≡ get_or bytes 0 0 =
    ap (λ l. get_or l 0 0) h.1 ∙ get_or-take (1 + n) bytes 0 0 (omega arith) in
    h.3 ∙ ap (λ k. 1 + k) (e ∙ ap (λ b. affix_len (b % 32)) (sym same))
announced bytes n None N h e = tt

pub returns-clause-parts : goal.returns-clause-parts
returns-clause-parts c = joined c.args.bytes.now _ _ _ c.split_at_checked.ensures.cases

pub returns-clause-title : goal.returns-clause-title
returns-clause-title c =
    announced c.args.bytes.now c.len.result _ _ c.split_at_checked.ensures.cases
    (c.len.ensures _ c.row_of.ensures.affix)
