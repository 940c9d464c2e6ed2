use Rattle.std.proofs.Common.{subst}
use Rattle.ciborium_ll.specs.Types.Header.{Header}
use Rattle.ciborium_ll.specs.Items.{IsTakenTitle}
use Rattle.ciborium_ll.specs.Title.{IsTitle}
use Rattle.cbor_dump.specs.Takings.{taken_bytes}
use Rattle.cbor_dump.proofs.RefusedLaws.{behind_refused}
use Rattle.cbor_dump.proofs.LeaveLaws.{alone_leaves}
use Rattle.cbor_dump.proofs.TitleLaws.{title_alone}
use Rattle.cbor_dump.proofs.dump.title.Goals as goal

pub returns-in-Break : goal.returns-in-Break
returns-in-Break g c = record {
  shows = λ depth whole start before due p taken place offset all.
      let titled = subst (λ (x : Header). IsTitle (taken_bytes c.args.taken.now) x) c.in-Break.is p in
      let alone = title_alone g.R.Read depth whole start _ _ before _ _ _ c.args.spelling c.args.place _ _
      (c.break_title.ensures.draws c.args.spelling depth whole start before due titled place all) in
      rw c.in-Break.is alone;
  refused = λ depth whole start before due p place offset but.
      let titled = subst (λ (x : Header). IsTitle (taken_bytes c.args.taken.now) x) c.in-Break.is p in
      behind_refused g.R.Read depth start _ _ before _ _
      (c.break_title.ensures.refused c.args.spelling depth whole start before due titled place but);
  moves = alone_leaves g.R.Read c.break_title.result c.args.decoder.now c.break_title.ensures.alone;
}

pub returns-in-Tag : goal.returns-in-Tag
returns-in-Tag g c = record {
  shows = λ depth whole start before due p taken place offset all.
      title_alone g.R.Read depth whole start _ _ before _ _ _ c.args.spelling c.args.place _ _
      (c.nest.ensures.draws c.args.spelling depth whole start before due p taken place all);
  refused = λ depth whole start before due p place offset but.
      behind_refused g.R.Read depth start _ _ before _ _
      (c.nest.ensures.refused c.args.spelling depth whole start before due p place but);
  moves = alone_leaves g.R.Read c.nest.result c.args.decoder.now c.nest.ensures.alone;
}

pub returns-in-Positive : goal.returns-in-Positive
returns-in-Positive g c = record {
  shows = λ depth whole start before due p taken place offset all.
      title_alone g.R.Read depth whole start _ _ before _ _ _ c.args.spelling c.args.place _ _
      (c.value.ensures.draws c.args.spelling depth whole start before due p taken place all);
  refused = λ depth whole start before due p place offset but.
      behind_refused g.R.Read depth start _ _ before _ _
      (c.value.ensures.refused c.args.spelling depth whole start before due p place but);
  moves = alone_leaves g.R.Read c.value.result c.args.decoder.now c.value.ensures.alone;
}

pub returns-in-Bytes : goal.returns-in-Bytes
returns-in-Bytes g c = record {
  shows = λ depth whole start before due p taken place offset all.
      let row = taken_bytes c.args.taken.now in
      let titled = subst (λ (x : Header). IsTitle row x) c.in-Bytes.is p in
      let took = subst (λ (x : Header). IsTakenTitle c.args.spelling row x) c.in-Bytes.is taken in
      rw c.in-Bytes.is (c.string.ensures.shows depth whole start before due titled took place offset all);
  refused = λ depth whole start before due p place offset but.
      let titled = subst (λ (x : Header). IsTitle (taken_bytes c.args.taken.now) x) c.in-Bytes.is p in
      c.string.ensures.refused depth whole start before due titled place offset but;
  moves = c.string.ensures.moves;
}

pub returns-in-Text : goal.returns-in-Text
returns-in-Text g c = record {
  shows = λ depth whole start before due p taken place offset all.
      let row = taken_bytes c.args.taken.now in
      let titled = subst (λ (x : Header). IsTitle row x) c.in-Text.is p in
      let took = subst (λ (x : Header). IsTakenTitle c.args.spelling row x) c.in-Text.is taken in
      rw c.in-Text.is (c.string-in-Text.ensures.shows depth whole start before due titled took place offset all);
  refused = λ depth whole start before due p place offset but.
      let titled = subst (λ (x : Header). IsTitle (taken_bytes c.args.taken.now) x) c.in-Text.is p in
      c.string-in-Text.ensures.refused depth whole start before due titled place offset but;
  moves = c.string-in-Text.ensures.moves;
}
