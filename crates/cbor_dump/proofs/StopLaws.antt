-- How a title ends a dump, or how the string that it begins ends it.
use Rattle.std.proofs.Common.{arith}
use Rattle.std.proofs.lemmas.Bool.Decides.{nat_tests}
use Rattle.std.proofs.Common.{ℕ, ◌-◌, List, Option, Err}
use Rattle.ciborium_ll_grammar.specs.declared.spelling.Spelling.{Spelling}
use Rattle.ciborium_ll.specs.Types.Read.{Ghosts}
use Rattle.ciborium_ll.specs.Types.Decoder.{Decoder}
use Rattle.ciborium_ll.specs.Title.{title_len}
use Rattle.ciborium_ll.specs.Strings.{Kind, kind_header}
use Rattle.cbor_dump.specs.declared.dump.DumpError.{DumpError}
use Rattle.cbor_dump.specs.StringRows.{StopsBehindTitle}
use Rattle.cbor_dump.specs.TitleRows.{IsStringDue, EndsAtTitle}

module _ {R E W : Type 0} (source : Ghosts R E) where
  -- If the rest of a string stops, it stops as a skip of the string does.
  pub rest_stops : (allowed : Spelling) (depth whole : ℕ) (kind : Kind) (len : Option ℕ) (place : ℕ) (before : List ℕ)
      (old new : Decoder R) (why : DumpError E W) → IsStringDue allowed depth whole before (kind_header kind len)
      kind len
      → StopsBehindTitle source kind len (old.offset - title_len (kind_header kind len)) old (Err why) new
      → EndsAtTitle source allowed depth whole (kind_header kind len) place before old (Err why) new
  rest_stops allowed depth whole kind len place before old new why p q = grind (arith, nat_tests)
