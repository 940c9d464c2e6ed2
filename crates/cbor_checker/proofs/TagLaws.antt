-- A tag, and a plain item with a tag.
use Rattle.std.proofs.Common.{◌≡◌, Bool, ℕ, suc, ◌+◌, ◌-◌, ◌/◌, ◌%◌, ◌<◌, ◌≤◌, List, ◌∷◌, ◌++◌, length, refl, sym, subst}
use Rattle.std.proofs.Common.{◌∙◌, ap, arith, drop, drop-drop, length-append, length-drop, slice_index, take, true}
use Rattle.std.proofs.Common.{None, add-zero, zero, zero-add}
use Rattle.std.proofs.lemmas.Bool.Decides.{nat_tests}
use Rattle.std.proofs.lemmas.List.{length-take-le}
use Rattle.std.proofs.Math.Seq.{take-add}
use Rattle.ciborium_ll_text.proofs.Lists.{Below}
use Rattle.ciborium_ll_grammar.specs.declared.spelling.Spelling.{Spelling}
use Rattle.ciborium_ll_grammar.specs.declared.hdr.Header.TheVariants as h
use Rattle.ciborium_ll_grammar.specs.declared.hdr.table.TitleKind.TheVariants as k
use Rattle.ciborium_ll_grammar.specs.Title.{IsTitle}
use Rattle.ciborium_ll_grammar.specs.Items.{IsTakenTitle}
use Rattle.ciborium_ll_grammar.specs.TitleRows.{IsTitleKind}
use Rattle.ciborium_ll_grammar.specs.declared.remaining.Remaining.TheVariants as l
use Rattle.cbor_parser.specs.declared.strings.Within.TheVariants as w
use Rattle.cbor_checker.specs.Blocked.{blocked}
use Rattle.cbor_checker.specs.Plain.{IsPlacedItem, IsPlainItem, IsTagTitle, passed, placed}
use Rattle.cbor_checker.specs.Spots.{Spot, item_done, item_due, settled}
use Rattle.cbor_checker.specs.Steps.{Leads}
use Rattle.cbor_checker.proofs.ItemLeads.{due, from_due, title_leads}
use Rattle.cbor_checker.proofs.LeadLaws.{leads_more}
use Rattle.cbor_checker.proofs.PlainLaws.{without_tag}
use Rattle.cbor_checker.proofs.SettledLaws.{nested_goes, settled_alike}

tag_free : (depth place : ℕ) → 0 < depth → blocked w.Nothing depth place k.Tag ≡ None
tag_free depth place some = grind (arith, nat_tests)

-- A whole title of a tag, which is taken, takes a level.
pub tag_title : (xs : List ℕ) (n number : ℕ) (allowed : Spelling) → Below xs → 0 < n → n ≤ length xs
    → IsTitleKind k.Tag (slice_index xs 0 / 32) (slice_index xs 0 % 32) → IsTitle (take n xs) (h.Tag number)
    → IsTakenTitle allowed (take n xs) (h.Tag number) → IsTagTitle allowed (take n xs)
tag_title xs n number allowed below some le kind is taken = λ s at clear none same deep.
    let u : Spot = record (due s) { place = s.offset; offset = s.offset + n } in
    let new = nested_goes u _ (l.Items 1) (l.Items 0) (λ zero. omega (arith, zero, deep)) refl refl in
    from_due s at clear none
    (λ (z : Spot). item_due (z.depth - 1) (l.Items 0 ∷ z.levels) (passed (length (take n xs)) z))
    (rw (length-take-le n xs le) (subst (Leads (due s) (take n xs)) (sym new)
    (title_leads xs n (due s) (h.Tag number) below refl refl some le is (rw same taken)
    (λ more. record { kind = k.Tag; is = kind; free = tag_free s.depth s.offset deep }))))

-- A tag and a plain item after it are an item.
with_tag : (xs : List ℕ) (at n len : ℕ) (allowed : Spelling) → at + n + len ≤ length xs
    → IsTagTitle allowed (take n (drop at xs)) → IsPlainItem allowed (take len (drop (at + n) xs))
    → IsPlacedItem allowed true n (take (n + len) (drop at xs))
with_tag xs at n len allowed le tag item = λ s here clear none same deep.
    let rest : List ℕ = drop at xs in
    let one : List ℕ = take n rest in
    let two : List ℕ = take len (drop (at + n) xs) in
    let parts : take (n + len) rest ≡ one ++ two =
    take-add n len rest ∙ ap (λ (z : List ℕ). one ++ take len z) (drop-drop n at xs) in
    let long : length one ≡ n = length-take-le n rest (omega (arith, le, length-drop at xs)) in
    let all : s.offset + length (one ++ two) ≡ s.offset + n + length two = omega (arith, long, length-append one two) in
    let m : Spot = item_due (s.depth - 1) (l.Items 0 ∷ s.levels) (passed n (due s)) in
    let u : Spot = passed (length two) m in
    let given_back : suc (s.depth - 1) ≡ s.depth = omega (arith, deep refl) in
    let to : item_done u ≡ item_done (record u { depth = s.depth; levels = s.levels }) =
    ap (λ (z : ℕ). settled z s.levels u) given_back ∙ sym (settled_alike s.levels s.depth u s.depth s.levels) in
    from_due s here clear none (λ (z : Spot). item_done (placed n (length (take (n + len) rest)) z))
    (rw (parts, all) (leads_more (due s) m _ one two (rw long at (tag (due s) refl refl refl same (deep refl)))
    (subst (Leads m two) to (item m refl refl refl same))))

-- A plain item is an item with a tag or without.
pub tag_or_none : (xs : List ℕ) (at n len : ℕ) (allowed : Spelling) → at + n + len ≤ length xs
    → (0 < n → IsTagTitle allowed (take n (drop at xs))) → IsPlainItem allowed (take len (drop (at + n) xs))
    → IsPlacedItem allowed true n (take (n + len) (drop at xs))
tag_or_none xs at zero len allowed le tag item =
    rw (zero-add len) (without_tag allowed true (take len (drop at xs)) (rw (add-zero at) at item))
tag_or_none xs at (suc n) len allowed le tag item = with_tag xs at (suc n) len allowed le (tag (omega arith)) item
