-- Floats in the smallest width that holds them.
use Rattle.std.specs.Prelude.{ℕ}
use Rattle.ciborium_ll_grammar.specs.declared.hdr.Float.{Float}
use Rattle.cbor_deterministic.specs.Floats.{IsFloatOf}
use Rattle.cbor_deterministic.specs.Preferred.{IsWideFloat}

-- No smaller width holds the second float, and it has the same 64 bits as the first float (RFC 8949, 4.1). The
-- narrowest form of 1.0 in 32 bits, `3f 80 00 00`, is `3c 00`.
pub record IsNarrowestOf (float narrow : Float) : Type 0 where
  pub not_wide : IsWideFloat narrow → ⊥
  pub same : (bits : ℕ) → IsFloatOf float bits → IsFloatOf narrow bits
