-- Laws of the bytes that each call takes.
use Rattle.std.proofs.Common.{◌≡◌, ℕ, ◌+◌, List, [], ◌∷◌, ◌++◌, length, Option, Some, None}
use Rattle.std.proofs.Common.{◌-◌}
use Rattle.std.proofs.Common.{refl, sym, subst, ◌∙◌, arith, length-append}
use Rattle.std.proofs.KnownBytes.{Consumes-trans}
use Rattle.ciborium_ll_grammar.specs.declared.spelling.Spelling.{Spelling}
use Rattle.ciborium_ll_grammar.specs.declared.spelling.Spelling.TheVariants.{Shortest}
use Rattle.ciborium_ll.specs.Types.Read.{Ghosts}
use Rattle.ciborium_ll.specs.Types.Header.{Header}
use Rattle.ciborium_ll.specs.Types.Header.TheVariants as h
use Rattle.ciborium_ll.specs.Types.Decoder.{Decoder}
use Rattle.ciborium_ll.specs.Title.{shortest_title}
use Rattle.ciborium_ll.specs.Items.{Completes, IsItem}
use Rattle.ciborium_ll.specs.Decoding.{view, IsSteady, ReadsPast, PullsTitle, spelling_of}
use Rattle.ciborium_ll.proofs.CopyingTold.{consumes_told}
use Rattle.ciborium_ll.proofs.DecodingLaws.{ReadsPast-none, passes_settled}
use Rattle.cbor_skip.specs.Skipping.{ReadsWithin, allowed_by}
use Rattle.cbor_skip.proofs.ItemSteps.{item_of}
use Rattle.cbor_skip.proofs.StrictnessLaws.{strict_settled}
use Rattle.uses.specs.declared.cose.Span.{Span}
use Rattle.uses.specs.declared.cose.TheConstants.{MAP_DEPTH}
use Rattle.uses.specs.declared.cose.CoseError.{CoseError}
use Rattle.uses.specs.Cose.{IsByteString, IsMap, IsPayload, BeginsSign1, Due}
use Rattle.uses.specs.Cose.{TagDue, ArrayDue, ProtectedDue}
use Rattle.uses.specs.Cose.{UnprotectedDue, PayloadDue, SignatureDue, IsAllowed, ReachesPart}
use Rattle.uses.specs.Cose.{to_tag, to_array}
use Rattle.uses.specs.Cose.{to_protected, to_unprotected, to_payload, to_signature, Took, TookBody}
use Rattle.uses.specs.Cose.{TookString, TookPayload, TookMap, StopsAtPart, StopsSign1}

module _ {R E : Type 0} (source : Ghosts R E) where
  pub took_pull : (old new : Decoder R) (header : Header) → spelling_of old ≡ Shortest → old.waiting ≡ None
      → PullsTitle source old header new → Took source old (shortest_title header) new
  took_pull old new header allowed none pulled =
      let same : pulled.title ≡ shortest_title header = (pulled.strict allowed none).shortest in
      subst (λ (w : List ℕ). Took source old w new) same (record {
        consumed = pulled.bytes;
        offset = pulled.offset;
        none_waits = pulled.none_waits;
        mode = pulled.mode;
      })

  pub took_passed : (old new : Decoder R) (bytes : List ℕ) → ReadsPast source old bytes new → new.waiting ≡ None
      → Took source old bytes new
  took_passed old new bytes passed none = record {
    consumed = passed.consumed;
    offset = passed.offset;
    none_waits = none;
    mode = passed.mode;
  }

  pub took_then : (old between new : Decoder R) (bytes more : List ℕ) → Took source old bytes between
      → Took source between more new → Took source old (bytes ++ more) new
  took_then old between new bytes more first second = record {
    consumed = Consumes-trans _ _ _ bytes more first.consumed second.consumed;
    offset = omega (arith, first.offset, second.offset, length-append bytes more);
    none_waits = second.none_waits;
    mode = second.mode ∙ first.mode;
  }

  -- The title of a map and then its items are a map.
  pub took_map : (old titled new : Decoder R) (len : Option ℕ) (span : Span) → spelling_of old ≡ Shortest
      → old.waiting ≡ None → PullsTitle source old (h.Map len) titled → ReadsWithin source (h.Map len) (MAP_DEPTH - 1)
      titled new → span.start ≡ old.offset → span.end ≡ new.offset → TookMap source old span new
  took_map old titled new len span allowed none pulls within start end =
      let header = h.Map len in
      let title = took_pull old titled header allowed none pulls in
      let rest = took_passed titled new within.rest within.passed
      (passes_settled source titled new within.rest within.passed pulls.none_waits) in
      let whole = took_then old titled new (shortest_title header) within.rest title rest in
      let mode : allowed_by titled ≡ Shortest =
      strict_settled titled.waiting (spelling_of titled) pulls.none_waits ∙ (pulls.mode ∙ allowed) in
      let completes = subst (λ (s : Spelling). Completes s MAP_DEPTH header within.rest) mode within.completes in
      let spelled = pulls.strict allowed none in
      let is_item = item_of Shortest MAP_DEPTH pulls.title within.rest header pulls.is_title spelled completes in
      let same : pulls.title ≡ shortest_title header = spelled.shortest in
      record {
        bytes = shortest_title header ++ within.rest;
        is_map = record {
          is_item = subst (λ (w : List ℕ). IsItem Shortest MAP_DEPTH (w ++ within.rest)) same is_item;
          len = len;
          rest = within.rest;
          is = refl;
          starts = start;
          ends = end ∙ whole.offset;
        };
        took = whole;
      }

  -- The title of a byte string and then its body are a byte string.
  pub took_string : (old titled new : Decoder R) (len : ℕ) (span : Span) → spelling_of old ≡ Shortest
      → old.waiting ≡ None
      → PullsTitle source old (h.Bytes (Some len)) titled → TookBody source len titled span new
      → TookString source old span new
  took_string old titled new len span allowed none pulls body =
      let title : Took source old (shortest_title (h.Bytes (Some (length body.body)))) titled =
      subst (λ (n : ℕ). Took source old (shortest_title (h.Bytes (Some n))) titled) (sym body.all)
      (took_pull old titled (h.Bytes (Some len)) allowed none pulls) in
      let whole = took_then old titled new (shortest_title (h.Bytes (Some (length body.body)))) body.body title
      body.took in
      record {
        bytes = shortest_title (h.Bytes (Some (length body.body))) ++ body.body;
        is_string = record {
          body = body.body;
          is = refl;
          ends = body.ends ∙ whole.offset;
          starts = omega (arith, body.starts, body.ends, body.took.offset);
        };
        took = whole;
      }

  -- All parts, one after the other, are a COSE_Sign1.
  pub began : (bytes : List ℕ) (first tagged opened one two three last : Decoder R) (protected unprotected : Span)
      (payload : Option Span) (signature : Span)
      → view source first ≡ Some bytes → first.offset ≡ 0
      → Took source first (0xd2 ∷ []) tagged → Took source tagged (0x84 ∷ []) opened
      → TookString source opened protected one
      → TookMap source one unprotected two → TookPayload source two payload three
      → TookString source three signature last
      → BeginsSign1 bytes
      (record { protected = protected; unprotected = unprotected; payload = payload; signature = signature })
  began bytes first tagged opened one two three last protected unprotected payload signature told start tag array p u
      b s =
      let head = took_then first tagged opened (0xd2 ∷ []) (0x84 ∷ []) tag array in
      let with_p = took_then first opened one _ p.bytes head p.took in
      let with_u = took_then first one two _ u.bytes with_p u.took in
      let with_b = took_then first two three _ b.bytes with_u b.took in
      let with_s = took_then first three last _ s.bytes with_b s.took in
      let all : List ℕ = ((((0xd2 ∷ 0x84 ∷ []) ++ p.bytes) ++ u.bytes) ++ b.bytes) ++ s.bytes in
      let front = consumes_told (view source first) (view source last) bytes all told with_s.consumed in
      let at_p : opened.offset ≡ 2 = omega (arith, start, tag.offset, array.offset) in
      let at_u : one.offset ≡ 2 + length p.bytes = omega (arith, at_p, p.took.offset) in
      let at_b : two.offset ≡ 2 + length p.bytes + length u.bytes = omega (arith, at_u, u.took.offset) in
      let at_s : three.offset ≡ 2 + length p.bytes + length u.bytes + length b.bytes =
      omega (arith, at_b, b.took.offset) in
      record {
        protected = p.bytes;
        unprotected = u.bytes;
        payload = b.bytes;
        signature = s.bytes;
        rest = front.0;
        is = front.2;
        is_protected = subst (λ (n : ℕ). IsByteString p.bytes n protected) at_p p.is_string;
        is_unprotected = subst (λ (n : ℕ). IsMap u.bytes n unprotected) at_u u.is_map;
        is_payload = subst (λ (n : ℕ). IsPayload b.bytes n payload) at_b b.is_payload;
        is_signature = subst (λ (n : ℕ). IsByteString s.bytes n signature) at_s s.is_string;
      }

  -- ---- the part that the read reached

  -- The bytes `before` were taken from the first decoder on, and the part `due` is due after them.
  pub record Came (first : Decoder R) (before : List ℕ) (due : Due) (now : Decoder R) : Type 0 where
    pub took : Took source first before now
    pub reached : ReachesPart before due

  pub came_none : (first : Decoder R) → first.waiting ≡ None → Came first [] TagDue first
  came_none first none = record { took = took_passed first first [] (ReadsPast-none source first) none; reached = to_tag }

  module _ (first : Decoder R) (start : first.offset ≡ 0) where
    pub came_tag : (tagged : Decoder R) → Took source first (0xd2 ∷ []) tagged → Came first (0xd2 ∷ []) ArrayDue tagged
    came_tag tagged took = record { took = took; reached = to_array }

    pub came_array : (tagged opened : Decoder R) → Took source first (0xd2 ∷ []) tagged
        → Took source tagged (0x84 ∷ []) opened → Came first (0xd2 ∷ 0x84 ∷ []) ProtectedDue opened
    came_array tagged opened tag array = record {
      took = took_then first tagged opened (0xd2 ∷ []) (0x84 ∷ []) tag array;
      reached = to_protected;
    }

    at_before : (before : List ℕ) (now : Decoder R) → Took source first before now → now.offset ≡ length before
    at_before before now took = omega (arith, start, took.offset)

    pub came_protected : (before : List ℕ) (now new : Decoder R) (span : Span) → Came first before ProtectedDue now
        → (string : TookString source now span new) → Came first (before ++ string.bytes) UnprotectedDue new
    came_protected before now new span came string = record {
      took = took_then first now new before string.bytes came.took string.took;
      reached = to_unprotected before string.bytes span came.reached
          (subst (λ (n : ℕ). IsByteString string.bytes n span) (at_before before now came.took) string.is_string);
    }

    pub came_unprotected : (before : List ℕ) (now new : Decoder R) (span : Span) → Came first before UnprotectedDue now
        → (map : TookMap source now span new) → Came first (before ++ map.bytes) PayloadDue new
    came_unprotected before now new span came map = record {
      took = took_then first now new before map.bytes came.took map.took;
      reached = to_payload before map.bytes span came.reached
          (subst (λ (n : ℕ). IsMap map.bytes n span) (at_before before now came.took) map.is_map);
    }

    pub came_payload : (before : List ℕ) (now new : Decoder R) (span : Option Span) → Came first before PayloadDue now
        → (payload : TookPayload source now span new) → Came first (before ++ payload.bytes) SignatureDue new
    came_payload before now new span came payload = record {
      took = took_then first now new before payload.bytes came.took payload.took;
      reached = to_signature before payload.bytes span came.reached
          (subst (λ (n : ℕ). IsPayload payload.bytes n span) (at_before before now came.took) payload.is_payload);
    }

    -- If the read stops at the part that is due, no COSE_Sign1 was read.
    pub stopped : (bytes before : List ℕ) (due : Due) (now ended : Decoder R) (error : CoseError E)
        → view source first ≡ Some bytes → spelling_of first ≡ Shortest → ((d : Decoder R) → IsSteady source d)
        → Came first before due now → StopsAtPart source (IsAllowed due) now error ended → StopsSign1 source bytes error
    stopped bytes before due now ended error told allowed steady came stops =
        let left = consumes_told (view source first) (view source now) bytes before told came.took.consumed in
        record {
          before = before;
          rest = left.0;
          is = left.2;
          due = due;
          reached = came.reached;
          decoder = now;
          told = left.1;
          place = at_before before now came.took;
          none_waits = came.took.none_waits;
          strict = came.took.mode ∙ allowed;
          steady = steady now;
          ended = ended;
          stops = stops;
        }
