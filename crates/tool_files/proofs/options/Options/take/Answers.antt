use Rattle.std.proofs.Common.{rules, ◌≡◌, ◌≤◌, ◌<◌, ◌+◌, ◌++◌, ◌∷◌, [], codes, length, map, arith, refl, IsOk}
use Rattle.std.specs.Prelude.{string_bytes, vec_capacity, vec_len}
use Rattle.std.proofs.lemmas.List.{append-nil}
use Rattle.tool_files.specs.Arguments.{IsHelp, IsOption, SpellsSetting, choices_of, ended, file, help, helps}
use Rattle.tool_files.specs.Arguments.{hyphens, look, option, texts, with_file}
use Rattle.tool_files.proofs.ArgumentLaws.{asks_after, asks_behind, asks_nothing, empty_of, no_longer, texts_pushed}
use Rattle.tool_files.proofs.ArgumentLaws.{with_files_more}
use Rattle.tool_files.proofs.options.Options.take.Goals as goal

pub words-preserved-then-not-is_option : goal.words-preserved-then-not-is_option
words-preserved-then-not-is_option c =
    let is = c.in-Some.ensures.cases.0 in
    let none : IsOption (string_bytes c.in-Some.first.now) → ⊥ = search rules in
    let count : length c.words.behind.now ≡ length c.in-Some.rest.now + 1 = grind (arith, is) in
    let room : vec_len c.words.files < vec_capacity c.words.files = omega (arith, c.words.invariant.room, count) in
    let pushed : IsOk c.push.result = c.push.ensures.succeeds room in
    let items : c.push.new.self.items ≡ c.words.files.items ++ (c.as_str-name.result ∷ []) =
    grind (arith, c.push.ensures.items, pushed) in
    let more : texts c.push.new.self.items ≡ texts c.words.files.items ++ (string_bytes c.in-Some.first.now ∷ []) =
    texts_pushed c.words.files.items c.push.new.self.items c.as_str-name.result (string_bytes c.in-Some.first.now) items
    c.as_str-name.ensures.value in
    record {
      room = omega (arith, c.words.invariant.room, count, c.push.ensures.upper_bound, c.push.ensures.capacity);
      back = λ wish asks. rw (
        more,
        ← with_files_more (texts c.words.files.items)
            (string_bytes c.in-Some.first.now) wish,
      ) (c.words.invariant.back (with_file (string_bytes c.in-Some.first.now) wish)
          (file c.in-Some.first.now c.in-Some.rest.now wish is none asks refl));
      on = λ wish asks. let left = c.words.invariant.on wish asks in
          asks_after c.args.word (choices_of c.words.self) c.in-Some.first.now c.words.behind.now c.in-Some.rest.now is
          left.0 none left.1;
    }

pub returns-then-eq-clause-ok : goal.returns-then-eq-clause-ok
returns-then-eq-clause-ok c =
    let hyphen : string_bytes c.in-Some.first.now ≡ codes "--" = search rules in
    rw c.add_all.ensures (c.words.invariant.back (look (choices_of c.words.self)
    (map string_bytes c.in-Some.rest.now)) (hyphens c.in-Some.first.now c.in-Some.rest.now
    c.in-Some.ensures.cases.0 hyphen refl))

pub returns-then-is_help-clause-ok : goal.returns-then-is_help-clause-ok
returns-then-is_help-clause-ok c =
    let is_help : IsHelp (string_bytes c.in-Some.first.now) = search rules in
    c.words.invariant.back help (helps c.in-Some.first.now c.in-Some.rest.now c.in-Some.ensures.cases.0 is_help refl)

pub returns-in_default-parse-clause-err : goal.returns-in_default-parse-clause-err
returns-in_default-parse-clause-err c =
    let is_option : IsOption (string_bytes c.in-Some.first.now) = search rules in
    let no_hyphens : string_bytes c.in-Some.first.now ≡ codes "--" → ⊥ = search rules in
    let no_help : IsHelp (string_bytes c.in-Some.first.now) → ⊥ = search rules in
    λ wish asks. let left = c.words.invariant.on wish asks in
    asks_nothing c.args.word (choices_of c.words.self) c.in-Some.first.now c.words.behind.now c.in-Some.rest.now
    c.in-Some.ensures.cases.0 left.0 is_option no_hyphens no_help
    (λ setting behind known spelled. c.in_default-parse.ensures.none setting behind known
    (rw c.as_str-name.ensures.value spelled)) left.1

pub words-preserved : goal.words-preserved
words-preserved c =
    let is = c.in-Some.ensures.cases.0 in
    let is_option : IsOption (string_bytes c.in-Some.first.now) = search rules in
    let parsed = c.in-Some-parse.ensures.some in
    let spelled : SpellsSetting c.in-Some-parse.setting (string_bytes c.in-Some.first.now) c.in-Some.rest.now
    c.in-Some-parse.more.now = rw c.as_str-name.ensures.value at parsed.2 in
    let count : length c.words.behind.now ≡ length c.in-Some.rest.now + 1 = grind (arith, is) in
    let fewer : length c.in-Some-parse.more.now ≤ length c.in-Some.rest.now = no_longer _ _ _ _ spelled in
    record {
      room = omega (arith, c.words.invariant.room, count, fewer);
      back = λ wish asks. c.words.invariant.back wish (option c.in-Some.first.now c.in-Some.rest.now
          c.in-Some-parse.more.now c.in-Some-parse.setting is is_option parsed.0 spelled (rw c.set.ensures at asks));
      on = λ wish asks. let left = c.words.invariant.on wish asks in (
        left.0,
        rw c.set.ensures (asks_behind c.args.word (choices_of c.words.self) c.in-Some.first.now
            c.words.behind.now c.in-Some.rest.now is left.0 c.in-Some-parse.setting c.in-Some-parse.more.now is_option
            spelled left.1),
      );
    }

pub returns-clause-ok : goal.returns-clause-ok
returns-clause-ok c =
    let none : c.words.behind.now ≡ [] = empty_of c.words.behind.now c.in_default.ensures.cases in
    rw (← append-nil (texts c.words.files.items)) (c.words.invariant.back (look (choices_of c.words.self) [])
    (ended none refl))
