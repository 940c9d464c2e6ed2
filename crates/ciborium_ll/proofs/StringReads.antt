-- A string that a caller reads body by body, by a loop over `advance`: the bodies read, and the bytes.
use Rattle.std.proofs.Common.{◌≡◌, ℕ, ◌⊎◌, List, [], ◌∷◌, ◌++◌, length, Option, Some, None, Ok, Result, refl, sym}
use Rattle.std.proofs.Common.{ap, ◌∙◌, inl, inr, arith, append_assoc}
use Rattle.ciborium_ll_io.specs.declared.io.Read.{Ghosts as Reader}
use Rattle.ciborium_ll_grammar.specs.declared.spelling.Spelling.{Spelling}
use Rattle.ciborium_ll_grammar.specs.declared.hdr.Header.TheVariants as h
use Rattle.ciborium_ll_decoder.specs.declared.dec.Decoder.{Decoder}
use Rattle.ciborium_ll_decoder.specs.declared.dec.Error.{Error}
use Rattle.ciborium_ll_decoder.specs.declared.seg.Body.{Body}
use Rattle.ciborium_ll_decoder.specs.declared.seg.Progress.{Progress}
use Rattle.ciborium_ll_decoder.specs.declared.seg.Progress.TheVariants as p
use Rattle.ciborium_ll_grammar.specs.Title.{IsTitle}
use Rattle.ciborium_ll_grammar.specs.Strings.{Kind, kind_header, IsString, definite, none}
use Rattle.ciborium_ll_grammar.specs.Elements.{AreWritable}
use Rattle.ciborium_ll_decoder.specs.Decoding.{IsSteady, ReadsPast, TakesBack}
use Rattle.ciborium_ll_decoder.specs.Finishing.{ReadsRest}
use Rattle.ciborium_ll_decoder.specs.Segments.{AdvancesFrom, AdvancesTo, EndsAdvance}
use Rattle.ciborium_ll_grammar.proofs.ElementLaws.{AreWritable-append}
use Rattle.ciborium_ll_grammar.proofs.OpenStrings.{IsInsideAt, one_open}
use Rattle.ciborium_ll_grammar.proofs.StepLaws.{add_string}
use Rattle.ciborium_ll_grammar.proofs.TitleLaws.{title_in_range}
use Rattle.ciborium_ll_decoder.proofs.DecodingLaws.{ReadsPast-none, ReadsPast-pulled, ReadsPast-then, passes_same}
use Rattle.ciborium_ll_decoder.proofs.NestLaws.{FindsOnly, advance_definite, advance_opened, alone_bytes, nest_inside}
use Rattle.ciborium_ll_decoder.proofs.BodyLaws.{sound_body}
use Rattle.ciborium_ll_decoder.proofs.SegmentLaws.{some_open}
use Rattle.ciborium_ll_decoder.proofs.SkipLaws.{close_string}

module _ {R E : Type 0} (source : Reader R E) (k : Kind) where
  -- No body was read, and the header was given back.
  pub record IsAtHeader (len : Option ℕ) (opened : Decoder R) (bodies : List (List ℕ)) (progress : Progress)
      (now : Decoder R) : Type 0 where
    pub fresh : progress ≡ p.Open 0
    pub back : TakesBack source opened (kind_header k len) now
    pub nothing : bodies ≡ []

  -- The one body of a string of a definite length was read.
  pub record HasReadBody (len : ℕ) (opened : Decoder R) (bodies : List (List ℕ)) (now : Decoder R) : Type 0 where
    pub reads : ReadsRest source k [] len opened now
    pub one : bodies ≡ reads.read ∷ []

  -- After the title and the bodies read, `opens` opens are not closed.
  pub record HasOpens (title : List ℕ) (opens : ℕ) (opened : Decoder R) (bodies : List (List ℕ)) (now : Decoder R) :
      Type 0 where
    pub strings : List ℕ
    pub within : IsInsideAt k opens (title ++ strings) bodies
    pub sound : AreWritable k bodies
    pub passed : ReadsPast source opened strings now

  abbrev pub HasBegun : Option ℕ → List ℕ → Decoder R → List (List ℕ) → Progress → Decoder R → Type 0
  HasBegun (Some len) title opened bodies progress now = HasReadBody len opened bodies now × (progress ≡ p.Ended)
  HasBegun None title opened bodies progress now =
      (opens : ℕ) × (progress ≡ p.Open opens) × HasOpens title opens opened bodies now

  -- The invariant of a loop after the title of a string, whose header was given back: these bodies were read.
  pub record ReadSoFar (len : Option ℕ) (title : List ℕ) (opened : Decoder R) (bodies : List (List ℕ))
      (progress : Progress) (now : Decoder R) : Type 0 where
    pub is_title : IsTitle title (kind_header k len)
    pub settled : opened.waiting ≡ None
    pub far : IsAtHeader len opened bodies progress now ⊎ HasBegun len title opened bodies progress now

  -- The whole string was read.
  pub record HasReadString (title : List ℕ) (opened : Decoder R) (bodies : List (List ℕ)) (new : Decoder R) : Type 0
    where
      pub behind : List ℕ
      pub is_string : IsString k (title ++ behind) bodies
      pub sound : AreWritable k bodies
      pub passed : ReadsPast source opened behind new

  -- `advance` went on within `left` opens that are not closed.
  pub record Advanced (allowed : Spelling) (title : List ℕ) (opened : Decoder R) (bodies : List (List ℕ))
      (result : Result (Option Body) (Error E)) (after : Progress) (new : Decoder R) : Type 0 where
    pub left : ℕ
    pub between : Decoder R
    pub has : HasOpens title left opened bodies between
    pub ends : EndsAdvance source k allowed left between result after new
    pub steady : IsSteady source opened → IsSteady source new

  pub read_start : (len : Option ℕ) (title : List ℕ) (opened now : Decoder R) → IsTitle title (kind_header k len)
      → opened.waiting ≡ None → TakesBack source opened (kind_header k len) now
      → ReadSoFar len title opened [] (p.Open 0) now
  read_start len title opened now is_title settled back = record {
    is_title = is_title;
    settled = settled;
    far = inl (record { fresh = refl; back = back; nothing = refl });
  }

  -- A title and its body are a string.
  one_body : (title body : List ℕ) (len : ℕ) → length body ≡ len → IsTitle title (kind_header k (Some len))
      → IsString k (title ++ body) (body ∷ [])
  one_body title body len all is_title = definite (rw (sym all) at is_title)

  module _ (allowed : Spelling) {title : List ℕ} {opened new : Decoder R} {bodies : List (List ℕ)} {after : Progress}
    where
      -- `advance` passes further opens and breaks.
      nested : (opens : ℕ) (from : Decoder R) (result : Result (Option Body) (Error E))
          → HasOpens title opens opened bodies from → AdvancesFrom source k allowed opens from result after new
          → (IsSteady source from → IsSteady source new) → Advanced allowed title opened bodies result after new
      nested opens from result has all steady = record {
        left = all.left;
        between = all.between;
        has = record {
          strings = has.strings ++ all.nest;
          within = rw (← append_assoc title has.strings all.nest)
              (nest_inside k opens all.left (title ++ has.strings) all.nest bodies has.within all.nests);
          sound = has.sound;
          passed = ReadsPast-then source opened from all.between has.strings all.nest has.passed all.passed;
        };
        ends = all.ends;
        steady = λ s. steady (has.passed.steady s);
      }

      module _ {now : Decoder R} {last : Progress} where
        -- If the string has a definite length, `advance` finds the one body, and after it the end.
        pub lone_advanced : (len : ℕ) (result : Result (Option Body) (Error E))
            → ReadSoFar (Some len) title opened bodies last now → AdvancesTo source k allowed last now result after new
            → ((bodies ≡ []) × FindsOnly source k len opened result after new) ⊎
            ((result ≡ Ok None) × HasReadBody len opened bodies new)
        lone_advanced len result so_far advances = grind (arith, advance_definite, title_in_range)

        -- If `advance` finds a body of such a string, it is the first body, and the decoder stands after the title.
        pub lone_titled : (len : ℕ) (body : Body) → ReadSoFar (Some len) title opened bodies last now
            → AdvancesTo source k allowed last now (Ok (Some body)) after new
            → (bodies ≡ []) × (body.length ≡ len) × (after ≡ p.Ended) × ReadsPast source opened [] new
        lone_titled len body so_far advances = elim (lone_advanced len (Ok (Some body)) so_far advances) [
          | inl (nothing, only) ↦ (
            nothing,
            cc (only.found, only.length-is),
            only.ended,
            passes_same source opened opened new [] (ReadsPast-none source opened) so_far.settled only.reader only.offset
                only.none_waits only.mode,
          )
          | inr done ↦ absurd (cc done.0)
        ]

        -- If the string has an indefinite length, `advance` goes on within the opens that are not closed.
        pub advanced : (IsSteady source now → IsSteady source new) → (result : Result (Option Body) (Error E))
            → ReadSoFar None title opened bodies last now → AdvancesTo source k allowed last now result after new
            → Advanced allowed title opened bodies result after new
        advanced steady result so_far advances = elim so_far.far [
          | inl start ↦ nested 1 opened result (rw start.nothing (record {
            strings = [];
            within = one_open so_far.is_title none;
            sound = tt;
            passed = ReadsPast-none source opened;
          })) (advance_opened source k allowed opened now new result after so_far.settled start.back
              (rw start.fresh at advances)) (λ s. steady (rw start.back.reader s))
          | inr way ↦ nested way.0 now result way.2 (rw way.1 at advances) steady
        ]

  -- ---- strings of both kinds

  module _ (allowed : Spelling) (title : List ℕ) (opened now new : Decoder R) (bodies : List (List ℕ))
      (last after : Progress) (steady : IsSteady source now → IsSteady source new) where
    begun_more : (len : Option ℕ) (body : Body) (ended : Decoder R) → ReadSoFar len title opened bodies last now
        → AdvancesTo source k allowed last now (Ok (Some body)) after new
        → (reads : ReadsRest source k [] body.length new ended)
        → HasBegun len title opened (bodies ++ reads.read ∷ []) after ended
    begun_more (Some len) body ended so_far advances reads =
        let lone = lone_titled allowed len body so_far advances in (
          record {
            reads = record {
              read = reads.read;
              all = reads.all ∙ lone.1;
              sound = reads.sound;
              passed = ReadsPast-then source opened new ended [] reads.read lone.3 reads.passed;
            };
            one = ap (λ (z : List (List ℕ)). z ++ reads.read ∷ []) lone.0;
          },
          lone.2,
        )
    begun_more None body ended so_far advances reads =
        let all = advanced allowed steady (Ok (Some body)) so_far advances in
        let t = all.ends.pulled.title in
        let b = reads.read in (
          all.left,
          elim all.ends.after [
            | inl first ↦ absurd (let zero = first.0 in omega (arith, zero, some_open k all.left _ _ all.has.within))
            | inr more ↦ more.1
          ],
          record {
            strings = all.has.strings ++ (t ++ b);
            within = rw (← append_assoc title all.has.strings (t ++ b))
                (add_string k all.left (title ++ all.has.strings) (t ++ b) bodies (b ∷ []) all.has.within
                (one_body t b body.length reads.all all.ends.pulled.is_title));
            sound = AreWritable-append k bodies (b ∷ []) all.has.sound (sound_body k b reads.sound);
            passed = rw (← append_assoc all.has.strings t b)
                (ReadsPast-then source opened new ended (all.has.strings ++ t) b (ReadsPast-pulled source opened all.between
                new all.has.strings _ all.ends.pulled all.has.passed all.steady) reads.passed);
          },
        )

    -- A loop that reads the next body keeps the invariant.
    pub read_more : (len : Option ℕ) (body : Body) (ended : Decoder R)
        → ReadSoFar len title opened bodies last now → AdvancesTo source k allowed last now (Ok (Some body)) after new
        → (reads : ReadsRest source k [] body.length new ended)
        → ReadSoFar len title opened (bodies ++ reads.read ∷ []) after ended
    read_more len body ended so_far advances reads = record {
      is_title = so_far.is_title;
      settled = so_far.settled;
      far = inr (begun_more len body ended so_far advances reads);
    }

    -- If `advance` finds the end, the whole string was read.
    pub read_whole : (len : Option ℕ) → ReadSoFar len title opened bodies last now
        → AdvancesTo source k allowed last now (Ok None) after new → HasReadString title opened bodies new
    read_whole (Some len) so_far advances = elim (lone_advanced allowed len (Ok None) so_far advances) [
      | inl only ↦ absurd (cc only.1.found)
      | inr (same, done) ↦ record {
        behind = done.reads.read;
        is_string = rw done.one (one_body title done.reads.read len done.reads.all so_far.is_title);
        sound = rw done.one (sound_body k done.reads.read done.reads.sound);
        passed = done.reads.passed;
      }
    ]
    read_whole None so_far advances =
        let all = advanced allowed steady (Ok None) so_far advances in
        let strings = all.has.strings in
        let break = alone_bytes all.ends.pulled.title h.Break all.ends.pulled.is_title refl in
        record {
          behind = strings ++ 0xff ∷ [];
          is_string = rw (← append_assoc title strings (0xff ∷ []))
              (close_string k (title ++ strings) bodies (rw all.ends.last at all.has.within));
          sound = all.has.sound;
          passed = rw break at (ReadsPast-pulled source opened all.between new strings h.Break all.ends.pulled
              all.has.passed all.steady);
        }
