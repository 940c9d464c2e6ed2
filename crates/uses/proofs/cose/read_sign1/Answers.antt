use Rattle.std.proofs.Common.{rules, ◌≡◌, refl}
use Rattle.ciborium_ll.proofs.DecodingLaws.{exit_is}
use Rattle.uses.specs.Cose.{TagDue, ArrayDue, ProtectedDue, UnprotectedDue, PayloadDue, SignatureDue}
use Rattle.uses.proofs.CoseLaws.{began, stopped, came_none, came_tag, came_array, came_protected}
use Rattle.uses.proofs.CoseLaws.{came_unprotected, came_payload}
use Rattle.uses.proofs.cose.read_sign1.Goals as goal

pub returns-clause-begins : goal.returns-clause-begins
returns-clause-begins c =
    let fresh = c.strict-decoder.ensures in
    began _ c.args.bytes.now c.strict-decoder.result _ _ _ _ _ _ _ _ _ _ (search rules) fresh.offset
    c.in_ok-title.ensures.took c.in_ok-title-2.ensures.took c.in_ok-protected.ensures.took
    c.in_ok-unprotected.ensures.took c.in_ok-payload.ensures.took c.in_ok-signature.ensures.took

pub returns-in_err-title-clause-stops : goal.returns-in_err-title-clause-stops
returns-in_err-title-clause-stops c =
    let fresh = c.strict-decoder.ensures in
    let first = c.strict-decoder.result in
    let start = fresh.offset in
    let untitled = came_none _ first fresh.none_waits in
    let same = exit_is c.from_residual.result c.in_err-title.field-0.0 c.from_residual.ensures.1 in
    rw same (stopped _ first start c.args.bytes.now _ TagDue _ _ _ (search rules) fresh.mode (λ decoder. refl) untitled
    c.in_err-title.ensures.stops)

pub returns-in_err-title-2-clause-stops : goal.returns-in_err-title-2-clause-stops
returns-in_err-title-2-clause-stops c =
    let fresh = c.strict-decoder.ensures in
    let first = c.strict-decoder.result in
    let start = fresh.offset in
    let tagged = came_tag _ first start _ c.in_ok-title.ensures.took in
    let same = exit_is c.from_residual-in_err-title-2.result c.in_err-title-2.field-0.0
    c.from_residual-in_err-title-2.ensures.1 in
    rw same (stopped _ first start c.args.bytes.now _ ArrayDue _ _ _ (search rules) fresh.mode (λ decoder. refl) tagged
    c.in_err-title-2.ensures.stops)

pub returns-in_err-protected-clause-stops : goal.returns-in_err-protected-clause-stops
returns-in_err-protected-clause-stops c =
    let fresh = c.strict-decoder.ensures in
    let first = c.strict-decoder.result in
    let start = fresh.offset in
    let opened = came_array _ first start _ _ c.in_ok-title.ensures.took c.in_ok-title-2.ensures.took in
    let same = exit_is c.from_residual-in_err-protected.result c.in_err-protected.field-0.0
    c.from_residual-in_err-protected.ensures.1 in
    rw same (stopped _ first start c.args.bytes.now _ ProtectedDue _ _ _ (search rules) fresh.mode
    (λ decoder. refl) opened
    c.in_err-protected.ensures.stops)

pub returns-in_err-unprotected-clause-stops : goal.returns-in_err-unprotected-clause-stops
returns-in_err-unprotected-clause-stops c =
    let fresh = c.strict-decoder.ensures in
    let first = c.strict-decoder.result in
    let start = fresh.offset in
    let opened = came_array _ first start _ _ c.in_ok-title.ensures.took c.in_ok-title-2.ensures.took in
    let protected = came_protected _ first start _ _ _ _ opened c.in_ok-protected.ensures.took in
    let same = exit_is c.from_residual-in_err-unprotected.result c.in_err-unprotected.field-0.0
    c.from_residual-in_err-unprotected.ensures.1 in
    rw same (stopped _ first start c.args.bytes.now _ UnprotectedDue _ _ _ (search rules) fresh.mode
    (λ decoder. refl) protected
    c.in_err-unprotected.ensures.stops)

pub returns-in_err-payload-clause-stops : goal.returns-in_err-payload-clause-stops
returns-in_err-payload-clause-stops c =
    let fresh = c.strict-decoder.ensures in
    let first = c.strict-decoder.result in
    let start = fresh.offset in
    let opened = came_array _ first start _ _ c.in_ok-title.ensures.took c.in_ok-title-2.ensures.took in
    let protected = came_protected _ first start _ _ _ _ opened c.in_ok-protected.ensures.took in
    let unprotected = came_unprotected _ first start _ _ _ _ protected c.in_ok-unprotected.ensures.took in
    let same = exit_is c.from_residual-in_err-payload.result c.in_err-payload.field-0.0
    c.from_residual-in_err-payload.ensures.1 in
    rw same (stopped _ first start c.args.bytes.now _ PayloadDue _ _ _ (search rules) fresh.mode
    (λ decoder. refl) unprotected
    c.in_err-payload.ensures.stops)

pub returns-in_err-signature-clause-stops : goal.returns-in_err-signature-clause-stops
returns-in_err-signature-clause-stops c =
    let fresh = c.strict-decoder.ensures in
    let first = c.strict-decoder.result in
    let start = fresh.offset in
    let opened = came_array _ first start _ _ c.in_ok-title.ensures.took c.in_ok-title-2.ensures.took in
    let protected = came_protected _ first start _ _ _ _ opened c.in_ok-protected.ensures.took in
    let unprotected = came_unprotected _ first start _ _ _ _ protected c.in_ok-unprotected.ensures.took in
    let paid = came_payload _ first start _ _ _ _ unprotected c.in_ok-payload.ensures.took in
    let same = exit_is c.from_residual-in_err-signature.result c.in_err-signature.field-0.0
    c.from_residual-in_err-signature.ensures.1 in
    rw same (stopped _ first start c.args.bytes.now _ SignatureDue _ _ _ (search rules) fresh.mode
    (λ decoder. refl) paid
    c.in_err-signature.ensures.stops)
