-- `pull` by hand: the call lends out of its own reference inside a result, and the borrow checker does not follow that.
--   1. The string is lent to `advance`, under a lifetime that is made for that call and ends with it.
--   2. If `advance` gave a body, the string is lent on to `segment`, and the segment leaves in the result.
--   3. If `advance` gave none, nothing is lent, and the string stays as `advance` left it.
-- A comment in brackets lists the owned things at that point, the head first. The locals come last and are not named.
use Rattle.ciborium_ll_decoder.proofs.AdvanceLaws.{none_waits_for_body, given_again}
use mathlib.Core.Path.{◌≡◌, refl, sym, ap, ◌∙◌, subst}
use mathlib.Core.List.{[], ◌∷◌, List, ◌++◌}
use Prim.Native.Nat.{ℕ}
use seplogic.Ra.Ura.{Ura}
use mir.Syntax.{Body as Code, Fn, Dict, named, Args, Ty, a_type, dcons, dnil}
use mir.Val.{Val, has_ty, vptr, vcons, vnil, WT, of_list}
use mir.Facts.{and_yes}
use lib.Dec.{lit<, T}
use base.Logic.{SProp, ent, sep, emp, id⊢}
use base.Fml.{Lft, GName, Fml, ftrue, flft, fdead, fres}
use base.Share.{left, right}
use borrow.Within.Token.{Rest, within_token, within_end}
use prog.Wp.{Env, WpFn, Wp, after_seq}
use prog.Model.{Model}
use types.Logic.{Logic, sem}
use types.Part.{whole, agg}
use types.Match.{live, vrt, in_variant, look_tag}
use types.Kit.{rewrite, ‵, raw, ◌⊛◌, some, later, given, at_ret, ◌$◌, ◌∵◌, !, qed, by, move, keep, use0, use1, use2}
use types.Kit.{use3, drop, split, split3, join, pick, learn, fsplit, fsplit3, fjoin, fpack, await, suffices, frame}
use types.Kit.{done, any_q, post, Post as Then, feq_i}
use types.Run.{switches_on, load, from, stop, fld, addr, of_opd, and_then, no_more, first, exec, returns, enter, lit}
use types.ByLocal.{get_in, get_tag, alloc_all, pass_all, free_all, look_at, get, through, sets, sets_last, env}
use types.ByLocal.{lands_as}
use types.Tokens.{lft_new}
use contract.Monad.{fact, fact_i}
use contract.BorrowLft.{◌⊑◌, ⊑_trans, meet_⊑_right}
use contract.Lifetimes.{Lfts, Shares, AllOutlive}
use contract.Running.{Running, MachineTables, tables, tables_of}
use sound.WpLaws.{WpFn-mono}
use denote.RattleType.{RattleType, owns, Valss}
use denote.Signature.{plain, named_lft, mut_ref_to}
use denote.Ref.{MutRef, MutBor, mut_vals, mut_Tells}
use denote.Struct.Laws.{makes}
use denote.Param.{param, layout, bounded}
use denote.Param.Laws.{Laws, param_laws}
use denote.Lend.{LentAgain, lends_again, comes_back}
use denote.Steps.{owned, nothing, heard, peeks, only}
use denote.Laws.{Is, shows}
use denote.Follow.{follows, follows_if, follows_by, such_by}
use denote.Triple.Call.{calls_at}
use denote.Triple.Clauses.{Clauses, Ended, closing, lasts}
use denote.Triple.Entry.{on_entry, alive}
use denote.Triple.Spec.{Meets, triple_of}
use denote.Triple.Table.{framed}
use denote.Triple.Walked.{Stays, walk_of, ends_at, walked, walk_Meets, Goes-spent_ref, stay_dropped}
use Rattle.std.proofs.VecSteps.Shapes.{arm_body, after, head}
use Rattle.std.proofs.VecSteps.Element.{Some-of, none_of}
use Rattle.ciborium_ll_decoder.proofs.seg.Body.TheLaws as body_laws
use Rattle.std.specs.Prelude.{Some, None, Ok, Err}
use Rattle.std.specs.contracts.option.Option as option
use Rattle.ciborium_ll_decoder.specs.Chunks.{GoesOnTo, IsWhole, SegmentsPull}
use Rattle.ciborium_ll_decoder.specs.Decoding.{waiting_of}
use Rattle.ciborium_ll_decoder.specs.Segments.{GivesAgain, string_spelling}
use Rattle.ciborium_ll_decoder.specs.Lend.{with_decoder, HoldsDecoder, SegmentsAdvance, advance_answer, lent_reference}
use Rattle.ciborium_ll_io.specs.declared.io.Read as read
use Rattle.ciborium_ll_decoder.specs.declared.seg.Parser as parser
use Rattle.ciborium_ll_decoder.specs.declared.dec.Decoder.{Decoder}
use Rattle.ciborium_ll_decoder.specs.declared.seg.Body.{Body}
use Rattle.ciborium_ll_decoder.specs.contracts.dec.Decoder as decoder
use Rattle.ciborium_ll_decoder.specs.contracts.seg.Body as body
use Rattle.ciborium_ll_decoder.specs.contracts.seg.Segments as segments
use Rattle.ciborium_ll_decoder.specs.contracts.seg.Segments.pull as pull
use Rattle.ciborium_ll_decoder.specs.contracts.seg.Segments.advance as advance
use Rattle.ciborium_ll_decoder.proofs.seg.Segments.advance.Symbol.{name as #advance}
use Rattle.ciborium_ll_decoder.specs.contracts.seg.Segments.segment as lend
use Rattle.ciborium_ll_decoder.proofs.seg.Segments.segment.Symbol.{name as #segment}
use mir.MapTy.{inst_fn}
use denote.Exit.{no}
use denote.Enum.Row.{tagged_with}
use denote.Enum.Enum.{form_of, in_a_row}
use denote.Enum.Declared.{shape}
use denote.Struct.Members.{Lone}
use Rattle.std.proofs.option.Option.TheLaws as option_laws
use Rattle.std.proofs.result.Result.TheLaws as result_laws
use Rattle.ciborium_ll_decoder.proofs.dec.Error.TheLaws as error_laws
use Rattle.ciborium_ll_decoder.proofs.seg.Segment.TheLaws as segment_laws
use Rattle.std.specs.contracts.result.Result as result
use Rattle.ciborium_ll_decoder.specs.declared.seg.Segments.{Segments}
use Rattle.ciborium_ll_decoder.specs.contracts.dec.Error as error
use Rattle.ciborium_ll_decoder.specs.contracts.seg.Segment as segment
use Rattle.ciborium_ll_decoder.proofs.seg.Segments.pull.Code as code

abbrev pub body_of : ℕ → ℕ → Body
body_of length place = record { length = length; place = place }

-- ---- steps that the arms share

module _ {M : Type 1} {𝓤 : Ura M} (𝓛 : Logic 𝓤) where
  open 𝓛 use {H}

  -- The ownership of x gives the ownership of `Ok(x)`.
  pub ok_of : (X Y : RattleType) (x : X.Denot) (value : Val) → ent 𝓤 (sem 𝓛 (X.own_val x (value ∷ [])))
      (sem 𝓛 ((result.the_row X Y).own_val (Ok x) (live 0 (of_list (value ∷ [])) ∷ [])))
  ok_of X Y x value =
      qed 𝓛 (‵ (X.own_val x (value ∷ [])) ∷ []) ∵ nothing ! $ move ! (1 ∷ 0 ∷ []) $ fjoin ! $ feq_i ! (List Val)
      (value ∷ []) (value ∷ []) refl $ fjoin ! $
      fpack ! (Valss (X ∷ [])) (in_a_row (X ∷ []) (owns (X ∷ []) (x, tt)) (value ∷ [])) (value ∷ [], tt) $
      feq_i ! (List Val) (live 0 (of_list (value ∷ [])) ∷ []) (live 0 (of_list (value ∷ [])) ∷ []) refl $ fjoin ! $
      fpack ! (List Val) (tagged_with (form_of (shape (result.the_type X Y)))
      (form_of (shape (result.the_type X Y))).payload ((result.the_type X Y).to (Ok x))
      (live 0 (of_list (value ∷ [])) ∷ [])) (value ∷ []) $ done !

-- ---- the function, and the types that it meets

module _ (R P E : RattleType) (reads : read.Ghosts R.Denot E.Denot) (reads_dict : Dict)
    (kind : parser.Ghosts P.Denot) (kind_dict : Dict) where
  abbrev pub arguments : Args
  arguments = bounded (a_type ∷ a_type ∷ a_type ∷ []) (R, (P, (E, tt))) (dcons reads_dict (dcons kind_dict dnil))

  abbrev pub function : Fn
  function = inst_fn arguments code.function

  -- The `match` on the answer of `advance`, with the code after it.
  abbrev pub matching : Code
  matching = head (after 2 function.body)

  abbrev pub leaving : Code
  leaving = after 3 function.body

  abbrev pub Reader : RattleType
  Reader = param 0 R

  abbrev pub Kind : RattleType
  Kind = param 1 P

  abbrev pub Fault : RattleType
  Fault = error.the_row (param 2 E)

  abbrev pub String : Type 0
  String = Segments R.Denot P.Denot kind

  abbrev pub StringRow : Lfts 5 → RattleType
  StringRow lifetimes = segments.the_row (named_lft 5 1 tt lifetimes) Reader Kind kind

  -- The type of the answer of `advance`.
  abbrev pub Advance : RattleType
  Advance = result.the_row (option.the_row body.the_row) Fault

  abbrev pub ended : Ended
  ended = pull.ended R P E reads reads_dict kind kind_dict

  abbrev pub stayed : Stays ended.signature.params ended.kept
  stayed = (stay_dropped (mut_ref_to (0 ∷ []) tt (plain StringRow)) no, tt)

  -- A machine value that has this type and is well formed.
  abbrev pub Good : Ty → Val → Type 0
  Good type value = T (has_ty type value) × WT value

  pub one : (values : List Val) → Lone values → values ≡ only values ∷ []
  one [] t = absurd t
  one (value ∷ []) t = refl
  one (value ∷ next ∷ values) t = absurd t

  module _ (R-laws : Laws R) (P-laws : Laws P) (E-laws : Laws E) where
    abbrev pub Fault-laws : Laws Fault
    Fault-laws = error_laws.the_row_laws (param 2 E) (param_laws 2 E E-laws)

    abbrev pub Advance-laws : Laws Advance
    Advance-laws = result_laws.the_row_laws (option.the_row body.the_row) Fault
        (option_laws.the_row_laws body.the_row body_laws.the_row_laws) Fault-laws

    -- The three answers of `advance`, each with its machine value.
    pub by_answer : {Z : Type 1} (answer : Advance.Denot) (value : Val) → Is Advance answer (value ∷ [])
        → ((b : Body) (u : Val) → Is body.the_row b (u ∷ []) → answer ≡ Ok (Some b) → value
        ≡ live 0 (vcons (live 1 (vcons u vnil)) vnil) → Z)
        → (answer ≡ Ok None → value ≡ live 0 (vcons (live 0 vnil) vnil) → Z)
        → ((e : Fault.Denot) (u : Val) → answer ≡ Err e → value ≡ live 1 (vcons u vnil) → Z) → Z
    by_answer (Ok (Some b)) value is at_body at_none at_error =
        let outer = is.1.1.1.1.0 in
        let inner = outer.1.1.1.1.0 in
        let us : List Val = outer.1.1.0.0 in
        let lone = one us (body_laws.the_row_laws.single b us inner) in
        at_body b (only us) (subst (λ (vs : List Val). Is body.the_row b vs) lone inner) refl
        (ap only is.1.0 ∙ ap (λ vs. live 0 (of_list vs)) (is.1.1.1.0
        ∙ ap (λ (vs : List Val). vs ++ []) (outer.1.0 ∙ ap (λ vs. live 1 (of_list vs) ∷ [])
        (outer.1.1.1.0 ∙ ap (λ (vs : List Val). vs ++ []) lone))))
    by_answer (Ok None) value is at_body at_none at_error =
        let outer = is.1.1.1.1.0 in
        at_none refl (ap only is.1.0 ∙ ap (λ vs. live 0 (of_list vs))
        (is.1.1.1.0 ∙ ap (λ (vs : List Val). vs ++ []) (outer.1.0 ∙ ap (λ vs. live 0 (of_list vs) ∷ [])
        outer.1.1.1.0)))
    by_answer (Err e) value is at_body at_none at_error =
        let us : List Val = is.1.1.0.0 in
        at_error e (only us) refl (ap only is.1.0 ∙ ap (λ vs. live 1 (of_list vs))
        (is.1.1.1.0 ∙ ap (λ (vs : List Val). vs ++ []) (one us (Fault-laws.single e us is.1.1.1.1.0))))

    -- ---- the walk

    module _ {M : Type 1} {𝓤 : Ura M} (𝓛 : Logic 𝓤) (𝓜 : Model 𝓤 𝓛.H) (𝓡 : Running 𝓤 𝓛.H 𝓜)
        (advances : Meets 𝓛 (advance.signature R P E reads reads_dict kind kind_dict) (𝓡.run
        (𝓡.env (#advance arguments)))
        (advance.spec R P E reads reads_dict kind kind_dict 𝓛 𝓜.mem 𝓡.returns))
        (lends : Meets 𝓛 (lend.signature R P E reads reads_dict kind kind_dict)
        (𝓡.run (𝓡.env (#segment arguments)))
        (lend.spec R P E reads reads_dict kind kind_dict 𝓛 𝓜.mem 𝓡.returns)) where
      open 𝓛 use {H, A}

      abbrev 𝓣 : MachineTables 𝓤 H 𝓜
      𝓣 = tables 𝓤 H 𝓜 𝓡 𝓡.env

      abbrev pub spec : Clauses 𝓤 ended
      spec = pull.clauses R P E reads reads_dict kind kind_dict 𝓛 𝓜.mem 𝓡.returns

      module _ (lifetimes : Lfts 5) (shares : Shares 5) (within : AllOutlive 5 ended.signature.outlives lifetimes)
          (block at : ℕ) (name : GName) (old : String) where
        -- The lifetime of the reference, and that of the string.
        abbrev outer : Lft
        outer = lifetimes.0

        abbrev inner : Lft
        inner = lifetimes.1.0

        abbrev Row : RattleType
        Row = StringRow lifetimes

        abbrev Part : RattleType
        Part = segment.the_row (named_lft 5 0 tt lifetimes) Reader Kind kind

        abbrev Pull : RattleType
        Pull = result.the_row (option.the_row Part) Fault

        abbrev Part-laws : Laws Part
        Part-laws = segment_laws.the_row_laws (named_lft 5 0 tt lifetimes) Reader Kind kind (param_laws 0 R R-laws)
            (param_laws 1 P P-laws)

        abbrev Option-laws : Laws (option.the_row Part)
        Option-laws = option_laws.the_row_laws Part Part-laws

        abbrev Pull-laws : Laws Pull
        Pull-laws = result_laws.the_row_laws (option.the_row Part) Fault Option-laws Fault-laws

        -- The reference to the string, under this name and at this value.
        abbrev reference : GName → String → MutBor String
        reference n s = record { ref_ptr = (block, at); ghost_name = n; now = s }

        abbrev Lent : Lft → GName → String → Fml
        Lent lifetime n s = (MutRef (named 0) lifetime Row).own_val (reference n s) (vptr block at ∷ [])

        abbrev bound : (walk_of 𝓛 ended stayed spec).Ghost
        bound = ((lifetimes, shares, within, (reference name old, tt), (vptr block at ∷ [], tt)), tt)

        abbrev Post : Val → SProp 𝓤
        Post = (walk_of 𝓛 ended stayed spec).post bound

        -- The code after the `match`.
        abbrev behind : Env 𝓤 H → Then 𝓤 H
        behind locals =
            let rest = post 𝓤 H (at_ret locals Post) in any_q (after_seq 𝓤 H (Wp 𝓤 H 𝓣.C 𝓣.Λ locals leaving rest) rest)

        -- The rows, as the clause names them.
        abbrev StringIn : RattleType
        StringIn = segments.the_row (record { mir = named 1; lft = [] }) (param 0 R) (param 1 P) kind

        abbrev DecoderIn : RattleType
        DecoderIn = decoder.the_row (param 0 R)

        abbrev Advanced : Pull.Denot → String → Type 0
        Advanced answer new = SegmentsAdvance reads kind.kind old (advance_answer answer) new

        -- How the string ends: by the decoder that a segment leaves, or without a segment.
        abbrev Tied : Pull.Denot → Type 0
        Tied answer =
            (ends : (Decoder R.Denot → String) × String) × ((d : Decoder R.Denot) → (new : String) × Advanced answer new
            × HoldsDecoder answer new × (ends.0 d ≡ with_decoder new d)) × Advanced answer ends.1

        abbrev Pulls : Pull.Denot → Type 0
        Pulls answer = SegmentsPull reads kind.kind (string_spelling old) old.progress old.decoder.now answer

        -- The promise of `advance` on the string also holds of its decoder.
        goes_on : (result : Advance.Denot) (new : String) → SegmentsAdvance reads kind.kind old result new
            → GoesOnTo reads kind.kind (string_spelling old) old.progress old.decoder.now result new.decoder.now
        goes_on result new is =
            record { after = new.progress; advanced = is.advances; opens = is.opens; moves_on = is.moves_on }

        -- The end of each arm: the answer leaves, the string follows its segment, and the clauses hold.
        leaves : (value : Val) (answer : Pull.Denot) (new : String) → Advanced answer new → HoldsDecoder answer new
            → Pulls answer
            → ent 𝓤 (sep 𝓤 (alive 𝓛 ended.signature lifetimes shares)
            (sep 𝓤 (sem 𝓛 (Pull.own_val answer (value ∷ [])))
            (sem 𝓛 (follows_if StringIn DecoderIn name (lent_reference answer) (with_decoder new) new))))
            (Post value)
        unfolding such_by
        leaves value answer new advanced holds pulls =
            qed 𝓛 (raw (alive 𝓛 ended.signature lifetimes shares) ∷ ‵ (Pull.own_val answer (value ∷ [])) ∷ ‵
            (follows_if StringIn DecoderIn name (lent_reference answer) (with_decoder new) new) ∷ []) ∵
            suffices ! _ (ends_at 𝓛 ended stayed spec bound value answer (tt, tt) (tt, tt)) $
            nothing ! $ nothing ! $ fjoin ! $ move ! (0 ∷ 2 ∷ []) $ join ! $ move ! (1 ∷ 0 ∷ []) $ join ! $ frame ! $
            fpack ! (Tied answer) (λ ends. follows_if StringIn DecoderIn name (lent_reference answer) ends.0.0 ends.0.1)
            ((with_decoder new, new), (λ d. (new, advanced, holds, refl)), advanced) $
            use0 𝓛 (raw (fact 𝓤 (GivesAgain old.progress answer)))
            (fact_i 𝓤 _ (emp 𝓤) (given_again reads kind.kind (string_spelling old) old.progress old.decoder.now answer
            pulls)) $
            use0 𝓛 (raw (fact 𝓤 (Pulls answer))) (fact_i 𝓤 _ (emp 𝓤) pulls) $ join ! $ move ! (1 ∷ 0 ∷ []) $ join !
            $ done !

        walk : lifetimes.1.1.0 ⊑ R.lives → lifetimes.1.1.1.0 ⊑ P.lives → lifetimes.1.1.1.1.0 ⊑ E.lives
            → ent 𝓤 (on_entry 𝓛 ended.signature lifetimes shares bound.0.3 bound.0.4)
            (WpFn 𝓤 H 𝓣.C 𝓣.Λ function (vptr block at ∷ []) Post)
        unfolding follows_by
        walk in-R in-P in-E =
            qed 𝓛 ((‵ (flft outer shares.0) ⊛ ‵ (flft inner shares.1.0) ⊛ ‵ (flft lifetimes.1.1.0 shares.1.1.0) ⊛ ‵
            (flft lifetimes.1.1.1.0 shares.1.1.1.0) ⊛ ‵ (flft lifetimes.1.1.1.1.0 shares.1.1.1.1.0) ⊛ ‵ ftrue) ∷ ‵
            (owns (MutRef (named 0) outer Row ∷ []) bound.0.3 bound.0.4) ∷ []) ∵
            move ! (1 ∷ []) $ fsplit ! $ move ! (2 ∷ []) $ split ! $ move ! (1 ∷ []) $ split ! $ move ! (1 ∷ []) $ split
            ! $ move ! (1 ∷ []) $ split ! $ move ! (1 ∷ []) $ split ! $ keep ! (5 ∷ 6 ∷ 4 ∷ 3 ∷ 2 ∷ 0 ∷ []) $
            -- [the outer token; the reference; the other tokens]
            enter ! 𝓣.C 𝓣.Λ function (vptr block at ∷ []) _ $ alloc_all ! (λ l. pass_all ! refl ((tt, tt), tt) $
            let locals : Env 𝓤 H = env function.locals l in
            sets ! (addr ! (through ! refl (stop !))) refl (tt, tt) $
            -- Opened: a lifetime inside the outer one, for the call of `advance`, with half of the outer token.
            use1 𝓛 (‵ (flft outer (left shares.0)) ⊛ ‵ (flft outer (right shares.0))) (𝓛.lfts.lft_split outer shares.0)
            $ split ! $
            lft_new ! tt (λ fresh.
            let call : Lft = fresh ∷ outer in
            use2 𝓛 (‵ (flft call (left shares.0)) ⊛ raw (Rest 𝓛 fresh (left shares.0)))
            (within_token 𝓛 fresh outer (left shares.0)) $ split ! $
            -- [the call's token; the way to end it; the other half; the reference; the other tokens]

            -- Lent: the string, to `advance`, under a name of its own.
            move ! (3 ∷ 2 ∷ []) $ use2 𝓛 (later (some (λ (again : GName). ‵ (Lent call again old) ⊛ ‵
            (LentAgain Row outer call (right shares.0) name block at again old))))
            (lends_again 𝓛 Row (named 0) outer call (right shares.0) name block at (named 0) old) $ await ! tt $ pick !
            (λ again. split ! $
            -- [the loan; the way back; the call's token; the way to end it; the other tokens]
            let Advances = triple_of 𝓛 (advance.signature R P E reads reads_dict kind kind_dict)
            (advance.spec R P E reads reads_dict kind kind_dict 𝓛 𝓜.mem 𝓡.returns) in
            let in_outer : call ⊑ outer = meet_⊑_right (fresh ∷ []) outer in
            let to : (l : Lft) → outer ⊑ l → call ⊑ l = λ l bound. ⊑_trans call outer l in_outer bound in
            let third = to lifetimes.1.1.1.0 within.1.1.0 in
            let inside : AllOutlive 5 ended.signature.outlives (call, lifetimes.1) =
            (to inner within.0, (to lifetimes.1.1.0 within.1.0, (third, (within.1.1.1.0, tt)))) in
            let given_advance : Advances.Ghost = (
              (
                (call, lifetimes.1),
                (left shares.0, shares.1),
                inside,
                (reference again old, tt),
                (vptr block at ∷ [], tt),
              ),
              tt,
            ) in
            nothing ! $ use0 𝓛 (raw (fact 𝓤 (lifetimes.1.1.1.1.0 ⊑ E.lives))) (fact_i 𝓤 _ (emp 𝓤) in-E) $ join ! $ use0
            𝓛 (raw (fact 𝓤 (lifetimes.1.1.1.0 ⊑ P.lives))) (fact_i 𝓤 _ (emp 𝓤) in-P) $ join ! $ use0 𝓛
            (raw (fact 𝓤 (lifetimes.1.1.0 ⊑ R.lives))) (fact_i 𝓤 _ (emp 𝓤) in-R) $ join ! $
            nothing ! $ move ! (2 ∷ 0 ∷ []) $ fjoin ! $
            nothing ! $ move ! (9 ∷ 0 ∷ []) $ join ! $ move ! (8 ∷ 0 ∷ []) $ join ! $ move ! (7 ∷ 0 ∷ []) $ join ! $
            move ! (6 ∷ 0 ∷ []) $ join ! $ move ! (4 ∷ 0 ∷ []) $ join ! $ join ! $ join ! $ use1 𝓛
            (raw (Advances.pre given_advance)) (id⊢ 𝓤 (Advances.pre given_advance)) $
            -- The call of `advance`: its answer, the string that it left, and its promises.
            calls_at ! (framed 𝓤 H 𝓜 𝓣) Advances advances given_advance (and_then ! (get ! refl) (no_more !)) (λ value.
            use1 𝓛 (later (some (λ (answer : Advance.Denot). ((‵ (flft call (left shares.0)) ⊛ ‵
            (flft inner shares.1.0) ⊛ ‵ (flft lifetimes.1.1.0 shares.1.1.0) ⊛ ‵
            (flft lifetimes.1.1.1.0 shares.1.1.1.0) ⊛ ‵ (flft lifetimes.1.1.1.1.0 shares.1.1.1.1.0) ⊛ ‵ ftrue) ⊛
            ‵ (Advance.own_val answer (value ∷ []))) ⊛
            some (λ (news : String × Unit {0}). ‵ (lasts (advance.ended R P E reads reads_dict kind kind_dict)
            given_advance.0.0 given_advance.0.3 news) ⊛
            raw (fact 𝓤 (SegmentsAdvance reads kind.kind old answer news.0)))))) (id⊢ 𝓤 _) $
            await ! tt $ pick ! (λ answer. split ! $ split ! $ move ! (2 ∷ []) $ pick ! (λ news. split ! $ move !
            (1 ∷ []) $
            heard ! _ (λ promised.
            let new : String = news.0 in
            -- [the loan's last value; the tokens; the answer; the way back; the way to end]

            -- Given back: the lifetime of the call ends. The reference is whole again, at the value that `advance`
            -- left.
            fsplit ! $ fsplit ! $ move ! (3 ∷ []) $ split ! $ move ! (1 ∷ []) $ split ! $ move ! (1 ∷ []) $ split ! $
            move ! (1 ∷ []) $ split ! $ move ! (1 ∷ []) $ split ! $
            move ! (5 ∷ 11 ∷ []) $ use2 𝓛 (later (‵ (fdead call) ⊛ ‵ (flft outer (left shares.0))))
            (within_end 𝓛 fresh outer (left shares.0)) $ await ! tt $ split ! $
            move ! (0 ∷ 11 ∷ 7 ∷ []) $ use3 𝓛 (later (‵ (Lent outer name new) ⊛ ‵ (flft outer (right shares.0))))
            (comes_back 𝓛 Row (named 0) outer call (right shares.0) name block at again old new) $ await ! tt $
            split ! $
            move ! (2 ∷ 1 ∷ []) $ use2 𝓛 (‵ (flft outer shares.0)) (𝓛.lfts.lft_join outer shares.0) $
            move ! (3 ∷ []) $ drop ! $ move ! (6 ∷ []) $ drop ! $ move ! (6 ∷ []) $ drop ! $
            nothing ! $ move ! (3 ∷ 0 ∷ []) $ join ! $ move ! (3 ∷ 0 ∷ []) $ join ! $ move ! (3 ∷ 0 ∷ []) $ join ! $
            move ! (3 ∷ 0 ∷ []) $ join ! $ move ! (1 ∷ 0 ∷ []) $ join ! $ move ! (2 ∷ []) $
            -- [the answer; the tokens; the reference]
            peeks ! Advance (Is Advance) (shows 𝓛 Advance) answer (value ∷ []) (λ is.
            let good_answer = (((Advance-laws).lawful 𝓛).typed answer (value ∷ []) is).0 in
            by_answer answer value is
            -- The arm of a body.
            (λ b u is_body e is_value.
            let found : SegmentsAdvance reads kind.kind old (Ok (Some b)) new =
            subst (λ r. SegmentsAdvance reads kind.kind old r new) e promised in
            let none_waits = none_waits_for_body reads kind.kind (string_spelling old) old.progress old.decoder.now b
            new.progress
            new.decoder.now found.advances in
            let good_body : Good (layout body.the_row) u =
            (((body_laws.the_row_laws).lawful 𝓛).typed b (u ∷ []) is_body).0 in
            drop ! $ lands_as ! is_value refl (subst (Good (layout Advance))
            is_value good_answer) $
            first ! $ switches_on ! (get_tag ! (vrt ! refl (fld ! refl (stop !))) (whole !)) $
            exec ! 𝓣.C 𝓣.Λ locals (arm_body 0 matching) (behind locals) $
            switches_on ! (load ! (from ! (vrt ! refl (fld ! refl (vrt ! refl (fld ! refl (stop !))))))
            (look_tag ! 16 (in_variant ! 0 0 refl refl (whole !)))) $
            exec ! 𝓣.C 𝓣.Λ locals (arm_body 0 (arm_body 0 matching)) (behind locals) $
            sets ! (of_opd ! (get_in ! (vrt ! refl (fld ! refl (vrt ! refl (fld ! refl (stop !)))))
            (in_variant ! 1 0 refl refl (in_variant ! 0 0 refl refl (whole !))))) refl good_body $
            sets ! (addr ! (through ! refl (stop !))) refl (tt, tt) $
            -- Lent on: the reference, to `segment`, with the body.
            let Lends = triple_of 𝓛 (lend.signature R P E reads reads_dict kind kind_dict)
            (lend.spec R P E reads reads_dict kind kind_dict 𝓛 𝓜.mem 𝓡.returns) in
            let given_segment : Lends.Ghost =
            ((lifetimes, shares, within, (reference name new, (b, tt)), (vptr block at ∷ [], (u ∷ [], tt))), tt) in
            use0 𝓛 (raw (fact 𝓤 (waiting_of new.decoder.now ≡ None))) (fact_i 𝓤 _ (emp 𝓤) none_waits) $
            use0 𝓛 (raw (fact 𝓤 (lifetimes.1.1.1.1.0 ⊑ E.lives))) (fact_i 𝓤 _ (emp 𝓤) in-E) $ join ! $ use0 𝓛
            (raw (fact 𝓤 (lifetimes.1.1.1.0 ⊑ P.lives))) (fact_i 𝓤 _ (emp 𝓤) in-P) $ join ! $ use0 𝓛
            (raw (fact 𝓤 (lifetimes.1.1.0 ⊑ R.lives))) (fact_i 𝓤 _ (emp 𝓤) in-R) $ join ! $
            nothing ! $ owned ! body.the_row (Is body.the_row) (makes body.the_type body_laws.the_plain 𝓛) b (u ∷ [])
            is_body $ fjoin ! $
            move ! (3 ∷ 0 ∷ []) $ fjoin ! $ move ! (2 ∷ 0 ∷ []) $ join ! $ join ! $ use1 𝓛
            (raw (Lends.pre given_segment)) (id⊢ 𝓤 (Lends.pre given_segment)) $
            calls_at ! (framed 𝓤 H 𝓜 𝓣) Lends lends given_segment
            (and_then ! (get ! refl) (and_then ! (get ! refl) (no_more !))) (λ part_value.
            use1 𝓛 (later (some (λ (part : Part.Denot). (raw (alive 𝓛 ended.signature lifetimes shares) ⊛ ‵
            (Part.own_val part (part_value ∷ []))) ⊛
            some (λ (ends : Unit {0} × (Unit {0} × Unit {0})). ‵
            (lasts (lend.ended R P E reads reads_dict kind kind_dict) lifetimes given_segment.0.3 ends) ⊛
            (‵ (follows StringIn DecoderIn name part.decoder.ghost_name (with_decoder new)) ⊛ raw
            (fact 𝓤 (part.decoder.now ≡ new.decoder.now)) ⊛ raw (fact 𝓤 (IsWhole b part))))))) (id⊢ 𝓤 _) $
            await ! tt $ pick ! (λ part. split ! $ split ! $ move ! (2 ∷ []) $ pick !
            (λ ends. split ! $ drop ! $ split3 ! $ move ! (1 ∷ 2 ∷ []) $ heard ! _
            (λ lent. heard ! _ (λ is_whole. move ! (2 ∷ []) $
            -- [the segment; the fact that the string follows it; the tokens]
            -- Given back: the segment, as `Ok(Some(segment))`.
            let some_value : Val = live 1 (vcons part_value vnil) in let out : Val = live 0 (vcons some_value vnil) in
            peeks ! Part (Is Part) (shows 𝓛 Part) part (part_value ∷ [])
            (λ is_part. lands_as ! refl refl ((Part-laws.lawful 𝓛).typed part (part_value ∷ []) is_part).0 $
            use1 𝓛 (‵ ((option.the_row Part).own_val (Some part) (some_value ∷ []))) (Some-of 𝓛 Part part part_value) $
            peeks ! (option.the_row Part) (Is (option.the_row Part)) (shows 𝓛 (option.the_row Part)) (Some part)
            (some_value ∷ []) (λ is_some.
            sets ! (agg ! (and_then ! (lit ! tt) (and_then ! (get ! refl) (no_more !)))) refl
            ((Option-laws.lawful 𝓛).typed (Some part) (some_value ∷ []) is_some).0 $
            use1 𝓛 (‵ (Pull.own_val (Ok (Some part)) (out ∷ [])))
            (ok_of 𝓛 (option.the_row Part) Fault (Some part) some_value) $
            peeks ! Pull (Is Pull) (shows 𝓛 Pull) (Ok (Some part)) (out ∷ []) (λ is_out.
            let good_out = ((Pull-laws.lawful 𝓛).typed (Ok (Some part)) (out ∷ []) is_out).0 in
            sets_last ! (agg ! (and_then ! (lit ! tt) (and_then ! (get ! refl) (no_more !)))) refl good_out $
            exec ! 𝓣.C 𝓣.Λ locals leaving (at_ret locals Post) $ sets ! (of_opd ! (get ! refl)) refl good_out $
            returns ! (look_at ! 0 refl) $ free_all ! refl $ move ! (2 ∷ 0 ∷ 1 ∷ []) $
            let stands : body_of part.unread part.place ≡ b = ap (λ (length : ℕ). body_of length part.place)
            is_whole.unread ∙ ap (λ (place : ℕ). body_of b.length place) is_whole.place in
            by ! (leaves out (Ok (Some part)) new (subst (λ (c : Body). SegmentsAdvance reads kind.kind old (Ok (Some c))
            new) (sym stands) found) lent
            (record {
              body = b;
              goes_on = subst (λ (d : Decoder R.Denot). GoesOnTo reads kind.kind (string_spelling old) old.progress
                  old.decoder.now (Ok (Some b)) d) (sym lent) (goes_on (Ok (Some b)) new found);
              whole = is_whole;
            })))))))))))
            -- The arm of the end: nothing is lent. The last value of the string is the value that `advance` left.
            (λ e is_value.
            let out : Val = live 0 (vcons (live 0 vnil) vnil) in
            let found : SegmentsAdvance reads kind.kind old (Ok None) new = subst (λ r. SegmentsAdvance reads kind.kind old r new)
            e promised in
            drop ! $ move ! (1 ∷ []) $ fsplit3 ! $ drop ! $ use1 𝓛 (‵ (fres name (StringIn.coded.code new)))
            (𝓛.names.obs-res name (StringIn.coded.code new)) $ move ! (1 ∷ []) $ drop ! $
            -- [the string's last value; the tokens]
            -- Given back: `Ok(None)`.
            use0 𝓛 (‵ ((option.the_row Part).own_val None (live 0 vnil ∷ []))) (none_of 𝓛 Part) $
            use1 𝓛 (‵ (Pull.own_val (Ok None) (out ∷ []))) (ok_of 𝓛 (option.the_row Part) Fault None (live 0 vnil)) $
            move ! (2 ∷ 0 ∷ 1 ∷ []) $
            lands_as ! is_value refl (tt, (record { fits = lit< tt }, ((record { fits = lit< tt }, tt), tt))) $
            first ! $ switches_on ! (get_tag ! (vrt ! refl (fld ! refl (stop !))) (whole !)) $
            exec ! 𝓣.C 𝓣.Λ locals (arm_body 0 matching) (behind locals) $
            switches_on ! (load ! (from ! (vrt ! refl (fld ! refl (vrt ! refl (fld ! refl (stop !))))))
            (look_tag ! 17 (in_variant ! 0 0 refl refl (whole !)))) $
            exec ! 𝓣.C 𝓣.Λ locals (arm_body 1 (arm_body 0 matching)) (behind locals) $
            sets ! (agg ! (and_then ! (lit ! tt) (no_more !))) refl (tt, (record { fits = lit< tt }, tt)) $
            sets_last ! (agg ! (and_then ! (lit ! tt) (and_then ! (get ! refl) (no_more !)))) refl
            (tt, (record { fits = lit< tt }, ((record { fits = lit< tt }, tt), tt))) $
            exec ! 𝓣.C 𝓣.Λ locals leaving (at_ret locals Post) $
            sets ! (of_opd ! (get ! refl)) refl (
              tt,
              (
                record {
                  fits =
                      lit< tt;
                },
                ((record { fits = lit< tt }, tt), tt),
              ),
            ) $
            returns ! (look_at ! 0 refl) $ free_all ! refl $ by !
            (leaves out (Ok None) new found tt (new.decoder.now, goes_on (Ok None) new found)))
            -- The arm of an error, which is handed on: nothing is lent. The last value of the string is the value that
            -- `advance` left.
            (λ x u e is_value.
            let out : Val = live 1 (vcons u vnil) in
            let found : SegmentsAdvance reads kind.kind old (Err x) new = subst (λ r. SegmentsAdvance reads kind.kind old r new) e
            promised in
            rewrite ! 0 (λ (r : Advance.Denot). ‵ (Advance.own_val r (value ∷ []))) e refl $ rewrite ! 0
            (λ (w : Val). ‵ (Advance.own_val (Err x) (w ∷ []))) is_value refl $
            use1 𝓛 (‵ (Pull.own_val (Err x) (out ∷ []))) (id⊢ 𝓤 _) $
            peeks ! Pull (Is Pull) (shows 𝓛 Pull) (Err x) (out ∷ []) (λ is_out.
            let good_out = ((Pull-laws.lawful 𝓛).typed (Err x) (out ∷ []) is_out).0 in
            let good_error : Good (layout Fault) u =
            ((and_yes (has_ty (layout Fault) u) _ good_out.0).0, good_out.1.1.0) in
            move ! (2 ∷ []) $ fsplit3 ! $ drop ! $ use1 𝓛 (‵ (fres name (StringIn.coded.code new)))
            (𝓛.names.obs-res name (StringIn.coded.code new)) $ move ! (1 ∷ []) $ drop ! $ move ! (2 ∷ 1 ∷ 0 ∷ []) $
            -- [the tokens; the result; the string's last value]
            lands_as ! is_value refl (subst (Good (layout Advance)) is_value
            good_answer) $
            first ! $ switches_on ! (get_tag ! (vrt ! refl (fld ! refl (stop !))) (whole !)) $
            exec ! 𝓣.C 𝓣.Λ locals (arm_body 1 matching) (behind locals) $
            sets ! (of_opd ! (get_in ! (vrt ! refl (fld ! refl (stop !))) (in_variant ! 1 0 refl refl (whole !)))) refl
            good_error $ sets ! (of_opd ! (get ! refl)) refl good_error $
            -- Given back: `Err(error)`.
            sets_last ! (agg ! (and_then ! (lit ! tt) (and_then ! (get ! refl) (no_more !)))) refl good_out $
            exec ! 𝓣.C 𝓣.Λ locals leaving (at_ret locals Post) $ sets ! (of_opd ! (get ! refl)) refl good_out $
            returns ! (look_at ! 0 refl) $ free_all ! refl $ by !
            (leaves out (Err x) new found tt (new.decoder.now, goes_on (Err x) new found))))))))))))

      -- The walk proves the contract.
      pub meets : Meets 𝓛 ended.signature (WpFn 𝓤 H 𝓣.C 𝓣.Λ function) (closing 𝓛 ended spec)
      unfolding tables_of
      meets =
          walk_Meets 𝓛 ended stayed (
            Goes-spent_ref 𝓛 5 (0 ∷ []) tt
                (plain (StringRow)),
            tt,
          ) spec (WpFn 𝓤 H 𝓣.C 𝓣.Λ function)
          (WpFn-mono 𝓤 H 𝓛.laws (tables_of 𝓤 H 𝓜 𝓣) function)
          (walked 𝓛 ended stayed spec (WpFn 𝓤 H 𝓣.C 𝓣.Λ function) (λ lifetimes. (mut_vals, tt))
          (λ lifetimes. (
            mut_Tells (named 0) lifetimes.0 (StringRow
                lifetimes),
            tt,
          ))
          (λ lifetimes shares bounds a _ are. qed 𝓛 (raw (on_entry 𝓛 ended.signature lifetimes shares a
          (mut_vals a.0, tt)) ∷ (given (lifetimes.1.1.0 ⊑ R.lives) (‵ ftrue) ⊛ given (lifetimes.1.1.1.0 ⊑ P.lives)
          (‵ ftrue) ⊛ given (lifetimes.1.1.1.1.0 ⊑ E.lives) (‵ ftrue) ⊛ ‵ ftrue) ∷ []) ∵
          move ! (1 ∷ []) $ split3 ! $ learn ! (λ in-R. drop ! $ learn !
          (λ in-P. drop ! $ split ! $ learn ! (λ in-E. drop ! $ drop ! $
          by ! (walk lifetimes shares bounds a.0.ref_ptr.0 a.0.ref_ptr.1 a.0.ghost_name a.0.now in-R in-P in-E))))))
