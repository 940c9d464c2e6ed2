use Rattle.std.proofs.Common.{refl}
use Rattle.uses.specs.declared.webauthn.AttestationError.TheVariants as w
use Rattle.uses.proofs.WebauthnLaws.{begun, lacks}
use Rattle.uses.proofs.webauthn.read_attestation.Goals as goal

pub returns-in_default-clause-fails : goal.returns-in_default-clause-fails
returns-in_default-clause-fails c =
    let found = c.in-Ok.ensures in begun found.whole found.item (rw found.depth at c.in_default.ensures)

pub returns-in_default-clause-exactly : goal.returns-in_default-clause-exactly
returns-in_default-clause-exactly c =
    lacks w.NoFormat (λ item parts is missing. missing parts.format is.format) (returns-in_default-clause-fails c)

pub returns-in_default-find_statement-clause-fails : goal.returns-in_default-find_statement-clause-fails
returns-in_default-find_statement-clause-fails c =
    let found = c.in-Ok.ensures in
    begun found.whole found.item
    ((_, rw found.depth at c.in-Some.ensures), rw found.depth at c.in_default-find_statement.ensures)

pub returns-in_default-find_statement-clause-exactly : goal.returns-in_default-find_statement-clause-exactly
returns-in_default-find_statement-clause-exactly c =
    lacks w.NoStatement (λ item parts is missing. missing.1 parts.statement is.statement)
    (returns-in_default-find_statement-clause-fails c)

pub returns-in_default-find_auth_data-clause-fails : goal.returns-in_default-find_auth_data-clause-fails
returns-in_default-find_auth_data-clause-fails c =
    let found = c.in-Ok.ensures in
    begun found.whole found.item (
      (_, rw found.depth at c.in-Some.ensures),
      (_, rw found.depth at c.in-Some-find_statement.ensures),
      rw found.depth at c.in_default-find_auth_data.ensures,
    )

pub returns-in_default-find_auth_data-clause-exactly : goal.returns-in_default-find_auth_data-clause-exactly
returns-in_default-find_auth_data-clause-exactly c =
    lacks w.NoAuthData (λ item parts is missing. missing.2 parts.auth_data is.auth_data)
    (returns-in_default-find_auth_data-clause-fails c)

pub returns-clause-begins : goal.returns-clause-begins
returns-clause-begins c =
    let found = c.in-Ok.ensures in
    begun found.whole found.item (record {
      format = rw found.depth at c.in-Some.ensures;
      statement = rw found.depth at c.in-Some-find_statement.ensures;
      auth_data = rw found.depth at c.in-Some-find_auth_data.ensures;
    })

pub returns-clause-exactly : goal.returns-clause-exactly
returns-clause-exactly c = (λ yes. (_, returns-clause-begins c), λ found. refl)
