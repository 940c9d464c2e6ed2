-- The copy of the bodies of a string, one after the other.
use Rattle.std.proofs.Common.{◌≡◌, ℕ, List, [], ◌∷◌, ◌++◌, Option, Some, None, Result, Ok, Err, sym, arith}
use Rattle.std.proofs.Common.{append_assoc, append-nil, length-append}
use Rattle.ciborium_ll_grammar.specs.declared.spelling.Spelling.{Spelling}
use Rattle.ciborium_ll.specs.Types.Read.{Ghosts as Reader}
use Rattle.ciborium_ll.specs.Types.Write.{Ghosts as Writer}
use Rattle.ciborium_ll.specs.Types.Decoder.{Decoder}
use Rattle.ciborium_ll.specs.Types.Error.{Error}
use Rattle.ciborium_ll.specs.Types.Body.{Body}
use Rattle.ciborium_ll.specs.Types.Progress.{Progress}
use Rattle.ciborium_ll.specs.Types.Progress.TheVariants as p
use Rattle.ciborium_ll.specs.Types.RecodeError.{RecodeError}
use Rattle.ciborium_ll.specs.Types.RecodeError.TheVariants as r
use Rattle.ciborium_ll.specs.Title.{IsInRange, shortest_title}
use Rattle.ciborium_ll.specs.Strings.{Kind, kind_header}
use Rattle.ciborium_ll.specs.Text.{joined}
use Rattle.ciborium_ll.specs.Decoding.{IsSteady, TakesBack}
use Rattle.ciborium_ll.specs.Encoding.{WritesAll}
use Rattle.ciborium_ll.specs.Finishing.{EndsBody}
use Rattle.ciborium_ll.specs.Recoding.{CopiesBody}
use Rattle.ciborium_ll.specs.Segments.{AdvancesTo}
use Rattle.ciborium_ll.specs.Sides.{Sides, sides}
use Rattle.ciborium_ll.proofs.PiecesWritten.{writes_nothing}
use Rattle.ciborium_ll.proofs.StringReads.{ReadSoFar, read_more, read_start, read_whole}
use Rattle.ciborium_ll.proofs.TitleLaws.{IsTitle-shortest}
use Rattle.cbor_diag.proofs.QuoteLaws.{wrote_both, wrote_first}
use Rattle.cbor_diag.proofs.StringShowLaws.{titled, untitled}
use Rattle.cbor_json.specs.Reading.{OnCopy}
use Rattle.cbor_json.specs.StringWrites.{CopiesContent, at_title, in_body}

-- One more body at the end.
joined-push : (bodies : List (List ℕ)) (body : List ℕ) → joined (bodies ++ body ∷ []) ≡ joined bodies ++ body
joined-push [] body = append-nil body
joined-push (b ∷ bs) body = rw (joined-push bs body) (sym (append_assoc b (joined bs) body))

-- A copy of a body reads it to its end if it does not fail.
pub body_reads : {R E W F : Type 0} (source : Reader R E) (sink : Writer W F) (kind : Kind) (len room place : ℕ)
    (old new : Sides R W) (result : Result (Unit {0}) (RecodeError E F))
    → CopiesBody source sink kind len room place old result new
    → OnCopy (λ answer. EndsBody source kind [] len room place old.decoder answer new.decoder) result
body_reads source sink kind len room place old new (Ok done) copied = copied.ends
body_reads source sink kind len room place old new (Err (r.Read error)) copied = copied.ends
body_reads source sink kind len room place old new (Err (r.Write fault)) copied = tt

module _ {R E W F : Type 0} (source : Reader R E) (sink : Writer W F) (k : Kind) (len : Option ℕ) (opened : Decoder R)
    (w : W) where
  -- The loop has read and copied these bodies.
  pub record CopiedFar (progress : Progress) (now : Decoder R) (w' : W) : Type 0 where
    pub bodies : List (List ℕ)
    pub far : ReadSoFar source k len (shortest_title (kind_header k len)) opened bodies progress now
    pub written : WritesAll sink w (joined bodies) w'

  pub content_start : (progress : Progress) (now : Decoder R) → progress ≡ p.Open 0 → IsInRange (kind_header k len)
      → opened.waiting ≡ None → TakesBack source opened (kind_header k len) now → CopiedFar progress now w
  content_start progress now fresh range settled back = record {
    bodies = [];
    far = rw fresh (read_start source k len (shortest_title (kind_header k len)) opened now
        (IsTitle-shortest (kind_header k len) range) settled back);
    written = writes_nothing sink w;
  }

module _ {R E W F : Type 0} {source : Reader R E} {sink : Writer W F} {k : Kind} {len : Option ℕ} {opened : Decoder R}
    {w w' : W} {progress : Progress} {now : Decoder R} (allowed : Spelling)
    (so_far : CopiedFar source sink k len opened w progress now w') (new : Decoder R)
    (steady : IsSteady source now → IsSteady source new) (progress' : Progress) (room : ℕ) where
  abbrev Copies : Result (Unit {0}) (RecodeError E F) → Sides R W → Type 0
  Copies result ended = CopiesContent source sink k len (λ bytes. bytes) room (sides opened w) result ended

  -- If the string has ended, its bodies were copied.
  pub content_ended : AdvancesTo source k allowed progress now (Ok None) progress' new
      → Copies (Ok (tt {0})) (sides new w')
  content_ended advances =
      let whole = read_whole source k allowed _ opened now new so_far.bodies progress progress' steady len so_far.far
      advances in
      record {
        reads = record {
          behind = whole.behind;
          bodies = so_far.bodies;
          is_string = whole.is_string;
          passed = whole.passed;
        };
        sound = whole.sound;
        written = so_far.written;
      }

  -- If no title came, the copy stops there.
  pub content_fails : (error : Error E) → AdvancesTo source k allowed progress now (Err error) progress' new
      → Copies (Err (r.Read error)) (sides new w')
  content_fails error advances =
      let none = untitled k allowed progress' steady len error so_far.far advances in
      at_title none.1 so_far.bodies none.0 none.2 none.3 so_far.written none.4

  module _ (body : Body) (advances : AdvancesTo source k allowed progress now (Ok (Some body)) progress' new) where
    -- If the copy of a body stops, the copy of the string does.
    pub content_stops : (error : RecodeError E F) (ended : Sides R W)
        → CopiesBody source sink k body.length room body.place (sides new w') (Err error) ended
        → Copies (Err error) ended
    content_stops (r.Read error) ended stops =
        let here = titled k allowed progress' steady len body so_far.far advances in
        in_body here.0 so_far.bodies body.length body.place new here.1 here.2 stops.ends
        (wrote_both so_far.written stops.written)
    content_stops (r.Write fault) ended stops =
        let here = titled k allowed progress' steady len body so_far.far advances in
        record {
          behind = here.0;
          bodies = so_far.bodies;
          count = body.length;
          between = new;
          titled = here.1;
          passed = here.2;
          bytes = stops.front ++ stops.chunk;
          kept = stops.kept;
          read = rw append_assoc stops.passed;
          within = omega (arith, stops.within, stops.filled, length-append stops.front stops.chunk);
          few = stops.few;
          sound = stops.sound;
          stopped = wrote_first so_far.written fault (wrote_first stops.written fault stops.stopped);
        }

    -- If a body was copied, the loop goes on with one more body.
    pub content_more : (ended : Decoder R) (last : W)
        → CopiesBody source sink k body.length room body.place (sides new w') (Ok (tt {0})) (sides ended last)
        → CopiedFar source sink k len opened w progress' ended last
    content_more ended last copied =
        let read = copied.ends.read in
        record {
          bodies = so_far.bodies ++ read ∷ [];
          far = read_more source k allowed _ opened now new so_far.bodies progress progress' steady len body ended
              so_far.far advances copied.ends;
          written = rw (joined-push so_far.bodies read) (wrote_both so_far.written copied.written);
        }
