-- The parts of a title give its role within an item.
use Rattle.std.proofs.Common.{◌≡◌, ℕ, ◌<◌, arith}
use Rattle.ciborium_ll_grammar.specs.declared.hdr.Header.{Header}
use Rattle.ciborium_ll_grammar.specs.declared.hdr.Minor.{Minor}
use Rattle.ciborium_ll_grammar.specs.declared.hdr.Minor.TheVariants as m
use Rattle.ciborium_ll_grammar.specs.declared.hdr.start.Start.TheVariants as s
use Rattle.ciborium_ll_grammar.specs.Title.{IsTitle, Major, Other, major_code}
use Rattle.ciborium_ll_grammar.specs.Parts.{IsMinor, parts_bytes}
use Rattle.ciborium_ll_grammar.specs.Starts.{start_of}
use Rattle.ciborium_ll_grammar.proofs.AffixLaws.{major_with}
use Rattle.ciborium_ll_grammar.proofs.PartsLaws.{means_back}

-- A title of the major type 0 or 1 is a value.
value_of : (major : Major) (minor : Minor) (header : Header) → major_code major < 2 → IsMinor minor
    → IsTitle (parts_bytes (major_code major) minor) header → start_of header ≡ s.Value
value_of major minor header below p t = grind (arith, means_back major minor header p t)

pub number_value : (major : ℕ) (minor : Minor) (header : Header) → major < 2 → IsMinor minor
    → IsTitle (parts_bytes major minor) header → start_of header ≡ s.Value
number_value major minor header below p t =
    let k = major_with major (omega arith) in
    value_of k.0 minor header (rw k.1 below) p (rw (← k.1) at t)

-- The title of a simple value or of a float is a value.
pub other_value : (minor : Minor) (header : Header) → IsMinor minor → (minor ≡ m.Open → ⊥)
    → IsTitle (parts_bytes 7 minor) header → start_of header ≡ s.Value
other_value minor header p some t = grind (arith, means_back Other minor header p t)
