-- `new` makes a count of zero: a struct of no bytes that owns nothing. This proof is by hand, because the call makes a
-- struct with `also_owns`.
use Rattle.std.proofs.Common.{[], ◌∷◌, refl}
use Rattle.std.proofs.raw_atomic.Walks.{proved}
use mir.Val.{Val, vstruct, vcons, vnil}
use base.Fml.{ftrue}
use types.Kit.{‵, raw, ◌$◌, ◌∵◌, !, qed, done, keep, join, suffices}
use types.Run.{no_more, and_then, returns, enter}
use types.Part.{agg}
use types.ByLocal.{alloc_all, pass_all, free_all, look_at, get, sets}
use denote.Shadow.{pure_i}
use denote.Steps.{nothing}
use denote.Triple.Entry.{on_entry}
use denote.Triple.Walked.{says, ends_at}
use Rattle.ciborium_ll_io.specs.declared.io.failures.Failures.{Failures}
use Rattle.ciborium_ll_io.specs.contracts.io.failures.Failures as T
use Rattle.ciborium_ll_io.specs.contracts.io.failures.Failures.new as f
use Rattle.ciborium_ll_io.proofs.io.failures.Failures.new.Statement.{statement}
use Rattle.ciborium_ll_io.proofs.io.failures.Failures.new.Code as code

-- The value as the machine stores it, and as a contract sees it.
abbrev stored : Val
stored = vstruct (vcons (vstruct vnil) vnil)

abbrev none_yet : Failures
none_yet = record { marker = record {}; count = 0 }

pub new_spec : {M : Type 1} → statement M
new_spec 𝓤 𝓛 𝓜 𝓡 wired =
    let c = f.clauses 𝓛 𝓜.mem 𝓡.returns in
    proved 𝓛 f.ended tt c 𝓜 𝓡 tt
    f.Key.name code.function (code.unfolded 𝓤 𝓛.H 𝓜 𝓡 wired)
    (λ κs. tt) (λ κs. tt) (λ κs qs bounds a _ are.
    qed 𝓛 (raw (on_entry 𝓛 f.signature κs qs a tt) ∷ ‵ ftrue ∷ []) ∵ keep ! [] $
    enter ! _ _ _ _ _ $ alloc_all ! (λ l. pass_all ! refl tt $
    -- The walk makes the marker, and then the struct around it.
    sets ! (agg ! (no_more !)) refl (tt, tt) $ sets ! (agg ! (and_then ! (get ! refl) (no_more !))) refl
    (tt, (tt, tt)) $
    returns ! (look_at ! 0 refl) $ free_all ! refl $
    pure_i ! ((T.the_row).own_val none_yet (stored ∷ [])) ((λ vss. (tt, ((λ uss. (tt, tt)), tt))), tt)
    (((vstruct vnil ∷ [], tt), (refl, ((tt, (refl, tt)), tt))), tt) $
    suffices ! _ (ends_at 𝓛 f.ended tt c ((κs, qs, bounds, a, tt), tt) stored none_yet tt tt) $ says ! refl $
    nothing ! $ join ! $ nothing ! $ done !))
