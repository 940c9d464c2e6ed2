-- The claims set of a CBOR Web Token (RFC 8392, 3): a map with the keys 1 to 7.
use Rattle.std.specs.Prelude.{ℕ, ◌+◌, List, [], ◌++◌, Option, Some, None, is_some, if◌then◌else◌}
use Rattle.std.specs.Borrow.{Bor}
use Rattle.ciborium_ll.specs.Types.Header.TheVariants as h
use Rattle.ciborium_ll.specs.Title.{shortest_title}
use Rattle.ciborium_ll.specs.Strings.{Bytes, Text}
use Rattle.ciborium_ll.specs.Elements.{body_spelling}
use Rattle.uses.specs.declared.claims.Claims.{Claims}

-- The shortest title of the key, and a text as one string, or nothing if the claim is not there (RFC 8392, 3.1.1 to
-- 3.1.3). The issuer `a` is `01 61 61`.
abbrev pub name_claim : ℕ → Option (Bor (List ℕ)) → List ℕ
name_claim key None = []
name_claim key (Some text) = shortest_title (h.Positive key) ++ body_spelling Text text.now

-- The shortest titles of the key and of a number of seconds, or nothing if the claim is not there (RFC 8392, 3.1.4 to
-- 3.1.6). The tag of RFC 7049, 2.4.1, is left out. The time 5 of the expiry is `04 05`.
abbrev pub time_claim : ℕ → Option ℕ → List ℕ
time_claim key None = []
time_claim key (Some seconds) = shortest_title (h.Positive key) ++ shortest_title (h.Positive seconds)

-- The key 7 and a byte string, or nothing if the claim is not there (RFC 8392, 3.1.7). The identifier `0b` is
-- `07 41 0b`.
abbrev pub id_claim : Option (Bor (List ℕ)) → List ℕ
id_claim None = []
id_claim (Some bytes) = shortest_title (h.Positive 7) ++ body_spelling Bytes bytes.now

-- The claims that are texts, joined: `iss`, `sub` and `aud` with the keys 1, 2 and 3 (RFC 8392, 4). With the issuer `a`
-- alone they are `01 61 61`.
unfoldable pub names_bytes : Claims → List ℕ
names_bytes claims =
    name_claim 1 claims.issuer ++ (name_claim 2 claims.subject ++ name_claim 3 claims.audience)

-- The claims that are times, joined: `exp`, `nbf` and `iat` with the keys 4, 5 and 6 (RFC 8392, 4). With the expiry 5
-- alone they are `04 05`.
unfoldable pub times_bytes : Claims → List ℕ
times_bytes claims =
    time_claim 4 claims.expires ++ (time_claim 5 claims.not_before ++ time_claim 6 claims.issued_at)

-- The number 1 if there is something, and 0 otherwise.
abbrev pub one_of : {A : Type 0} → Option A → ℕ
one_of claim = if is_some claim then 1 else 0

-- The number of claims that are there: 2 for an issuer and an expiry alone.
abbrev pub claim_count : Claims → ℕ
claim_count claims =
    one_of claims.issuer + one_of claims.subject + one_of claims.audience + one_of claims.expires
    + one_of claims.not_before + one_of claims.issued_at + one_of claims.id

-- The shortest title of a map with the number of claims (RFC 7049, 2.1 and 3.9). For two claims it is `a2`.
unfoldable pub claims_title : Claims → List ℕ
claims_title claims = shortest_title (h.Map (Some (claim_count claims)))

-- The claims set: the title of the map, and the claims in the order of their keys (RFC 8392, 3 and 4). With the issuer
-- `a` and the expiry 5 it is `a2 01 61 61 04 05`.
unfoldable pub claims_bytes : Claims → List ℕ
claims_bytes claims = claims_title claims ++ (names_bytes claims ++ (times_bytes claims ++ id_claim claims.id))
