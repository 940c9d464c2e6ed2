-- Laws of titles that are joined, and of the copy of one more header.
use Rattle.std.proofs.Common.{◌≡◌, ℕ, List, [], ◌∷◌, ◌++◌, Ok, append_assoc, append-nil}
use Rattle.ciborium_ll_io.specs.declared.io.Read.{Ghosts as Reader}
use Rattle.ciborium_ll_io.specs.declared.io.Write.{Ghosts as Writer}
use Rattle.ciborium_ll_grammar.specs.declared.hdr.Header.{Header}
use Rattle.ciborium_ll_grammar.specs.Title.{IsTitle, shortest_title}
use Rattle.ciborium_ll_decoder.specs.Decoding.{IsSteady, PullsTitle}
use Rattle.ciborium_ll_io.specs.Writes.{WritesAll}
use Rattle.ciborium_ll.specs.Copying.{AreTitles, none, next, shortest_titles, Copies}
use Rattle.ciborium_ll_decoder.specs.BodyCopies.{Sides}
use Rattle.ciborium_ll_grammar.proofs.TitleLaws.{IsTitle-shortest, title_in_range}
use Rattle.ciborium_ll_decoder.proofs.DecodingLaws.{ReadsPast-none, ReadsPast-pull}
use Rattle.ciborium_ll_io.proofs.WriteLaws.{WritesBytes-then}
use Rattle.ciborium_ll.proofs.PiecesWritten.{writes_nothing}

-- Titles of headers and one more title are titles of all these headers.
AreTitles-push : {bytes title : List ℕ} {headers : List Header} {header : Header} → AreTitles bytes headers
    → IsTitle title header → AreTitles (bytes ++ title) (headers ++ header ∷ [])
AreTitles-push none t = rw append-nil at (next t none)
AreTitles-push {title} (next {title = first} {rest = rest} p ts) t =
    rw (append_assoc first rest title) (next p (AreTitles-push ts t))

shortest_titles-push : (headers : List Header) (header : Header)
    → shortest_titles (headers ++ header ∷ []) ≡ shortest_titles headers ++ shortest_title header
shortest_titles-push [] header = append-nil (shortest_title header)
shortest_titles-push (h ∷ hs) header = rw (shortest_titles-push hs header, append_assoc)

-- The shortest titles of headers are titles of these headers.
pub AreTitles-shortest : {bytes : List ℕ} {headers : List Header} → AreTitles bytes headers
    → AreTitles (shortest_titles headers) headers
AreTitles-shortest none = none
AreTitles-shortest (next {title = t} {header = h} p ts) =
    next (IsTitle-shortest h (title_in_range t h p)) (AreTitles-shortest ts)

module _ {R E W F : Type 0} (source : Reader R E) (sink : Writer W F) where
  -- A copy of no headers changes nothing.
  pub Copies-none : (start : Sides R W) → Copies source sink [] start start
  Copies-none start = record {
    bytes = [];
    titles = none;
    passed = ReadsPast-none source start.decoder;
    written = writes_nothing sink start.writer;
  }

  -- A copy of headers and then of one more header is a copy of all these headers.
  pub Copies-push : {headers : List Header} {header : Header} {old between new : Sides R W}
      → Copies source sink headers old between → PullsTitle source between.decoder header new.decoder
      → (IsSteady source between.decoder → IsSteady source new.decoder)
      → WritesAll sink between.writer (shortest_title header) new.writer
      → Copies source sink (headers ++ header ∷ []) old new
  Copies-push {headers} {header} {old} {between} {new} copied pulled steady written = record {
    bytes = copied.bytes ++ pulled.title;
    titles = AreTitles-push copied.titles pulled.is_title;
    passed = ReadsPast-pull source old.decoder between.decoder new.decoder copied.bytes header pulled copied.passed steady;
    written = rw (shortest_titles-push headers header) (WritesBytes-then sink {T = Unit {0}} old.writer between.writer
        new.writer (Ok (tt {0})) (shortest_titles headers) (shortest_title header) copied.written written);
  }
