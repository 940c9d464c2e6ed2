-- A fresh decoder over a steady reader that tells its bytes can read them.
use Rattle.std.proofs.Common.{◌≡◌, ℕ, ◌+◌, ◌<◌, IsTrue, List, length, Some, subst, sym, ap, ◌∙◌, arith}
use Rattle.ciborium_ll_io.specs.declared.io.Read.{Ghosts}
use Rattle.ciborium_ll_grammar.specs.declared.spelling.Spelling.{Spelling}
use Rattle.ciborium_ll_decoder.specs.declared.dec.Decoder.{Decoder}
use Rattle.ciborium_ll_decoder.specs.Decoding.{IsFreshAs, offset_limit}
use Rattle.ciborium_ll_decoder.specs.Premises.{CanRead, longest_affix}
use Rattle.ciborium_ll_decoder.proofs.BodyLaws.{view_none}

pub fresh_can_read : {R E : Type 0} (source : Ghosts R E) {allowed : Spelling} (room : ℕ) (reader : R)
    (decoder : Decoder R) (due : List ℕ) → IsFreshAs allowed reader 0 decoder → IsTrue (source.steady reader)
    → source.ahead reader ≡ Some due → length due + longest_affix < offset_limit → length due + room < offset_limit
    → CanRead source room decoder due
fresh_can_read {R} source room reader decoder due fresh steady ahead title chunk = record {
  none_waits = λ on. fresh.none_waits;
  steady = subst (λ (r : R). IsTrue (source.steady r)) (sym fresh.reader) steady;
  told = view_none decoder.waiting (source.ahead decoder.reader) fresh.none_waits ∙ ap source.ahead fresh.reader
      ∙ ahead;
  fits-title = omega (arith, fresh.offset, title);
  fits-chunk = omega (arith, fresh.offset, chunk);
}
