-- The bytes that a quoting writer has written to the writer within, step by step.
use Rattle.std.proofs.Common.{◌+◌, ◌≡◌, ℕ, ◌-◌, ◌<◌, Bool, true, false, List, ◌++◌, length, take, Option, Some}
use Rattle.std.proofs.Common.{None, IfSome, sym, subst, arith, length-append}
use Rattle.std.proofs.Math.Logic.{∥∥₁_elim, ∥∥₁_map}
use Rattle.std.proofs.lemmas.List.{length-take-le}
use Rattle.std.proofs.Props.{props}
use mathlib.Core.HLevel.{⊥_prop}
use Rattle.std.specs.Io.KnownBytes.{Appends}
use Rattle.ciborium_ll.specs.Types.Write.{Ghosts}
use Rattle.ciborium_ll.specs.Transfer.{Shrinks, AppendsFirst, AppendsFront}
use Rattle.ciborium_ll.specs.Encoding.{WritesAll, WritesFront}
use Rattle.ciborium_ll.proofs.EncodingLaws.{AppendsFront-longer}
use Rattle.cbor_diag.specs.declared.strings.quotes.Quotes.{Quotes}
use Rattle.cbor_diag.specs.declared.strings.held.Held.TheVariants as h
use Rattle.cbor_diag.specs.Passing.{passed_held, passed_text}
use Rattle.cbor_diag.proofs.PassedLaws.{passed_text-append}
use Rattle.cbor_diag.proofs.QuoteLaws.{wrote_both, wrote_first}
use Rattle.cbor_diag.specs.Quoting.{failure_count, IsQuoted, WritesUntil, quotes_code, writer_code}

-- ---- numbers

-- Quotes with the same number are the same.
pub same_quotes : (quotes quotes' : Quotes) → quotes_code quotes ≡ quotes_code quotes' → quotes ≡ quotes'
same_quotes quotes quotes' p = grind arith

-- If the count of failures is zero, no write failed.
pub none_failed : (failed : Bool) → failure_count failed ≡ 0 → failed ≡ false
none_failed failed none = grind arith

one_failed : (failed : Bool) → failure_count failed ≡ 1 → failed ≡ true
one_failed failed one = grind arith

-- ---- facts that have one proof at most

Appends-prop : (a b : Option (List ℕ)) (bytes : List ℕ) → IsProp (Appends a b bytes)
Appends-prop None b bytes = search props
Appends-prop (Some x) None bytes = ⊥_prop
Appends-prop (Some x) (Some y) bytes = search props

Shrinks-prop : (a b : Option ℕ) (n : ℕ) → IsProp (Shrinks a b n)
Shrinks-prop None b n = search props
Shrinks-prop (Some x) None n = ⊥_prop
Shrinks-prop (Some x) (Some y) n = search props

full-prop : (room : Option ℕ) (n : ℕ) → IsProp (IfSome room (λ m. m < n))
full-prop None n = search props
full-prop (Some m) n = search props

-- A room that is too small for `xs` is too small for `xs` and `ys`.
full_longer : (room : Option ℕ) (xs ys : List ℕ) → IfSome room (λ n. n < length xs)
    → IfSome room (λ n. n < length (xs ++ ys))
full_longer room xs ys full = grind (arith, length-append)

-- How many bytes of a beginning were appended, from the facts that the writer tells.
front_count : Option (List ℕ) → Option (List ℕ) → Option ℕ → Option ℕ → ℕ
front_count (Some x) (Some y) r r' = length y - length x
front_count (Some x) None r r' = 0
front_count None w' (Some x) (Some y) = x - y
front_count None w' (Some x) None = 0
front_count None w' None r' = 0

-- The first bytes were appended, as many as the count says.
front_told : (w w' : Option (List ℕ)) (r r' : Option ℕ) (bytes : List ℕ) → AppendsFront w w' r r' bytes
    → AppendsFirst w w' r r' bytes (front_count w w' r r')
unfolding front_count
front_told w w' r r' bytes f = grind (arith, length-append, length-take-le)

module _ {W F : Type 0} (sink : Ghosts W F) where
  -- A failed write follows from its truncated statement.
  merely_front : (old : W) (text : List ℕ) (new : W) → ∥ WritesFront sink old text new ∥₁
      → WritesFront sink old text new
  merely_front old text new merely =
      let w = sink.written old in let w' = sink.written new in
      let r = sink.room old in let r' = sink.room new in
      let count = front_count w w' r r' in
      record {
        front = (
          count,
          (
            ∥∥₁_elim merely (Appends-prop w w' (take count text)) (λ f. (front_told w w' r r' text f.front).0),
            ∥∥₁_elim merely (Shrinks-prop r r' count) (λ f. (front_told w w' r r' text f.front).1),
            ∥∥₁_elim merely (search props) (λ f. (front_told w w' r r' text f.front).2),
          ),
        );
        full = ∥∥₁_elim merely (full-prop r (length text)) (λ f. f.full);
        failures = ∥∥₁_elim merely (search props) (λ f. f.failures);
      }

  merely_all : (old : W) (text : List ℕ) (new : W) → ∥ WritesAll sink old text new ∥₁ → WritesAll sink old text new
  merely_all old text new merely = record {
    appended = ∥∥₁_elim merely (Appends-prop (sink.written old) (sink.written new) text) (λ f. f.appended);
    room = ∥∥₁_elim merely (Shrinks-prop (sink.room old) (sink.room new) (length text)) (λ f. f.room);
    failures = ∥∥₁_elim merely (search props) (λ f. f.failures);
  }

  -- A beginning of `xs` is a beginning of `xs` and `ys`.
  pub front_longer : (old new : W) (xs ys : List ℕ) → WritesFront sink old xs new → WritesFront sink old (xs ++ ys) new
  front_longer old new xs ys f = grind (arith, AppendsFront-longer, full_longer)

  -- ---- step by step

  module _ (began : List ℕ) (quotes : Quotes) (failed : Bool) (given more all : List ℕ) (now : W)
      (joined : all ≡ given ++ more) (so_far : ∥ IsQuoted sink began quotes failed given now ∥₁) where
    -- The text of the given bytes, and the text of further bytes after them.
    abbrev first : List ℕ
    first = passed_text quotes h.Nothing given

    abbrev next : List ℕ
    next = passed_text quotes (passed_held quotes h.Nothing given) more

    -- A further write keeps the relation between the given and the written bytes.
    quoted_step : (before after : Bool) (new : W) → failed ≡ before
        → ((old : W) → WritesUntil sink before old first now → WritesUntil sink after old (first ++ next) new)
        → ∥ IsQuoted sink began quotes after all new ∥₁
    quoted_step before after new same step = ∥∥₁_map
        (subst (λ (b : Bool). ∥ IsQuoted sink began quotes b given now ∥₁) same so_far)
        (λ quoted old is. rw (joined, passed_text-append quotes h.Nothing given more) (step old (quoted old is)))

    -- More bytes were given, and all of them were written.
    pub quoted_more : (new : W) → failed ≡ false → WritesAll sink now next new
        → ∥ IsQuoted sink began quotes failed all new ∥₁
    quoted_more new sound wrote = rw sound (quoted_step false false new sound (λ old told. wrote_both told wrote))

    -- More bytes were given, and the writer failed at them.
    pub quoted_fails : (new : W) (fault : F) → failed ≡ false → WritesFront sink now next new
        → ∥ IsQuoted sink began quotes true all new ∥₁
    quoted_fails new fault sound stopped =
        quoted_step false true new sound (λ old told. wrote_first told fault stopped)

    -- More bytes were given after a failure, and none was written.
    pub quoted_behind : failed ≡ true → ∥ IsQuoted sink began quotes failed all now ∥₁
    quoted_behind broken = rw broken (quoted_step true true now broken (λ old told. front_longer old now _ _ told))

  -- ---- in the end

  -- If no failure was counted, all bytes were written. Otherwise the writer failed.
  pub quoted_ends : (began : List ℕ) (quotes quotes' : Quotes) (failed : Bool) (given : List ℕ) (old now : W)
      (count count' : ℕ) → began ≡ writer_code sink old → quotes' ≡ quotes
      → ∥ IsQuoted sink began quotes' failed given now ∥₁ → count ≡ 0 → count' ≡ failure_count failed
      → (count' ≡ count → WritesAll sink old (passed_text quotes h.Nothing given) now)
      × (count' ≡ count + 1 → WritesFront sink old (passed_text quotes h.Nothing given) now)
  quoted_ends began quotes quotes' failed given old now count count' is kind quoted none counted =
      let in_all : (b : Bool) → failed ≡ b → ∥ WritesUntil sink b old (passed_text quotes h.Nothing given) now ∥₁ =
      λ b same. ∥∥₁_map quoted (λ since. rw (same, kind) at (since old (sym is))) in (
        λ same. merely_all old _ now (in_all false (none_failed failed (omega arith))),
        λ more. merely_front old _ now (in_all true (one_failed failed (omega arith))),
      )
