use Rattle.std.proofs.Common.{rules}
use Rattle.ciborium_ll_grammar.specs.Title.{One, Two, Four, Eight}
use Rattle.cbor_deterministic.proofs.FlatLaws.{long_integer, least_one, least_two, least_four, least_eight}
use Rattle.cbor_deterministic.proofs.flat.integer_len.Goals as goal

pub returns-in-24-clause-flat : goal.returns-in-24-clause-flat
returns-in-24-clause-flat c = λ more.
    long_integer c.args.bytes.now c.requires.some One c.one_byte.result 1 c.requires.major c.in-24.is (search rules)
    (least_one c.one_byte.result c.if-one_byte-ge24.true) c.one_byte.ensures

pub returns-in-25-clause-flat : goal.returns-in-25-clause-flat
returns-in-25-clause-flat c = λ more.
    long_integer c.args.bytes.now c.requires.some Two c.two_bytes.result 2 c.requires.major c.in-25.is (search rules)
    (least_two c.two_bytes.result c.if-two_bytes-ge256.true) c.two_bytes.ensures

pub returns-in-26-clause-flat : goal.returns-in-26-clause-flat
returns-in-26-clause-flat c = λ more.
    long_integer c.args.bytes.now c.requires.some Four c.four_bytes.result 4 c.requires.major c.in-26.is (search rules)
    (least_four c.four_bytes.result c.if-four_bytes-ge65536.true) c.four_bytes.ensures

pub returns-in-27-clause-flat : goal.returns-in-27-clause-flat
returns-in-27-clause-flat c = λ more.
    long_integer c.args.bytes.now c.requires.some Eight c.eight_bytes.result 8 c.requires.major c.in-27.is
    (search rules) (least_eight c.eight_bytes.result c.if-eight_bytes-ge4294967296.true) c.eight_bytes.ensures
