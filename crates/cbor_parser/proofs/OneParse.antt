-- Bytes are the same tokens, however they were pushed.
use Rattle.std.proofs.Common.{◌≡◌, ℕ, ◌+◌, ◌≤◌, List, [], ◌∷◌, ◌++◌, length, Some, None, inl}
use Rattle.std.proofs.Common.{inr}
use Rattle.std.proofs.Common.{refl, sym, ap, subst, ◌∙◌, arith, append-nil, append_assoc, length-append}
use Rattle.std.proofs.lemmas.Bool.{cases_lt}
use Rattle.ciborium_ll_grammar.specs.declared.spelling.Spelling.{Spelling}
use Rattle.ciborium_ll_grammar.specs.declared.hdr.Header.{Header}
use Rattle.ciborium_ll_grammar.specs.Title.{BeginsRefused, IsCutTitle, IsTitle}
use Rattle.ciborium_ll_grammar.proofs.TitleLaws.{one_title, title_refused}
use Rattle.ciborium_ll_grammar.proofs.AffixLaws.{refused_affix, title_not_cut}
use Rattle.ciborium_ll_text.specs.Text.{IsCharacters, IsStuck}
use Rattle.ciborium_ll_text.proofs.Lists.{front_of_front, length_zero, same_front}
use Rattle.ciborium_ll_text.proofs.TextLaws.{IsCharacters-rest}
use Rattle.cbor_parser.specs.declared.strings.Within.{Within}
use Rattle.cbor_parser.specs.declared.strings.Within.TheVariants as w
use Rattle.cbor_parser.specs.Phases.{text_place}
use Rattle.cbor_parser.specs.Strings.{within_after}
use Rattle.cbor_parser.specs.Parsing.{AreTokens, AtFault, AtTitle, IsBody}
use Rattle.cbor_parser.specs.Parsing.{IsNoTitleIn, IsParsed, IsPart, IsTitleIn, Point, Token, at_title, body_len, bytes}
use Rattle.cbor_parser.specs.Parsing.{in_body, more, no_text, no_title, none, text, token}

-- The same tokens, the first one first. The first title stands within these strings, at this offset.
data Tail (allowed : Spelling) : Within → ℕ → List ℕ → List Token → Point → Type 0 where
  cut : {v : Within} {n : ℕ} {b : List ℕ} → IsCutTitle b → Tail allowed v n b [] (AtTitle v b)
  bad : {v : Within} {n : ℕ} {b : List ℕ} → IsNoTitleIn allowed v b → Tail allowed v n b [] (AtFault n)
  part : {v after : Within} {n : ℕ} {b t y body : List ℕ} {x : Header} {q : Point} → IsTitleIn allowed v t x after
      → IsPart after (text_place v n (n + length t) x) x y body q → b ≡ t ++ y
      → Tail allowed v n b (token x body ∷ []) q
  whole : {v after : Within} {n : ℕ} {b t y rest : List ℕ} {x : Header} {ts : List Token} {q : Point}
      → IsTitleIn allowed v t x after → length y ≡ body_len x → IsBody x y
      → Tail allowed after (n + (length t + length y)) rest ts q → b ≡ t ++ (y ++ rest)
      → Tail allowed v n b (token x y ∷ ts) q

-- The first tokens, the last one first, and those after them.
behind : List Token → List Token → List Token
behind [] us = us
behind (t ∷ ts) us = behind ts (t ∷ us)

behind_back : (ts us : List Token) → behind (behind ts us) [] ≡ behind us ts
unfolding behind
behind_back [] us = refl
behind_back (t ∷ ts) us = behind_back ts (t ∷ us)

behind_one : (ts us : List Token) → behind ts [] ≡ behind us [] → ts ≡ us
unfolding behind
behind_one ts us e = sym (behind_back ts []) ∙ (ap (λ (z : List Token). behind z []) e ∙ behind_back us [])

to_tail : (allowed : Spelling) (d : List ℕ) (ts : List Token) (v : Within) → AreTokens allowed d ts v → (rest : List ℕ)
    (us : List Token) (q : Point) → Tail allowed v (length d) rest us q
    → Tail allowed w.Nothing 0 (d ++ rest) (behind ts us) q
unfolding behind
to_tail allowed d ts v none rest us q tail = tail
to_tail allowed d ts v
    (more {before = c} {title = t} {body = y} {header = x} {tokens = vs} {within = u} are is long body) rest us q tail =
    let n : length (c ++ (t ++ y)) ≡ length c + (length t + length y) =
    omega (arith, length-append c (t ++ y), length-append t y) in
    rw (append_assoc c (t ++ y) rest)
    (to_tail allowed c vs u are ((t ++ y) ++ rest) _ q
    (whole is long body (subst (λ (k : ℕ). Tail allowed v k rest us q) n tail) (append_assoc t y rest)))

parsed_tail : (allowed : Spelling) (b : List ℕ) (ts : List Token) (q : Point) → IsParsed allowed b ts q
    → Tail allowed w.Nothing 0 b (behind ts []) q
unfolding behind
parsed_tail allowed b ts q (at_title {done = d} {title = t} {tokens = us} {within = v} are begun is) =
    rw is (to_tail allowed d us v are t [] (AtTitle v t) (cut begun))
parsed_tail allowed b ts q (no_title {done = d} {title = t} {tokens = us} {within = v} are refused is) =
    rw is (to_tail allowed d us v are t [] (AtFault (length d)) (bad refused))
parsed_tail allowed b ts q
    (in_body {done = d} {title = t} {part = y} {body = z} {header = x} {tokens = us} {before = v} {within = u} are title
    piece is) =
    rw is (to_tail allowed d us v are (t ++ y) (token x z ∷ []) q
    (part title (subst (λ (k : ℕ). IsPart u (text_place v (length d) k x) x y z q) (length-append d t) piece) refl))

-- ---- one body

-- A text before a cut character is all the text that there is.
shorter : (b c b' c' : List ℕ) → IsCharacters b → IsStuck c → IsCharacters b' → b ++ c ≡ b' ++ c' → length b ≤ length b'
    → (b ≡ b') × (c ≡ c')
shorter b c b' c' is_text held is_text' e l =
    let (m, is, rest) = front_of_front b b' c c' e l in
    let chars = IsCharacters-rest b m is_text (subst IsCharacters is is_text') in
    let none = held m c' rest chars in
    (sym (is ∙ (ap (λ (z : List ℕ). b ++ z) none ∙ append-nil b)), rest ∙ ap (λ (z : List ℕ). z ++ c') none)

one_cut : (b c b' c' : List ℕ) → IsCharacters b → IsStuck c → IsCharacters b' → IsStuck c' → b ++ c ≡ b' ++ c'
    → (b ≡ b') × (c ≡ c')
one_cut b c b' c' is_text held is_text' held' e = (elim (cases_lt (length b) (length b')) [
  | inl l ↦ shorter b c b' c' is_text held is_text' e (omega (arith, l))
  | inr l ↦ (let o = shorter b' c' b c is_text' held' is_text (sym e) l in (sym o.0, sym o.1))
])

parts_one : (v v' : Within) (n n' : ℕ) (x x' : Header) (y y' z z' : List ℕ) (q q' : Point) → IsPart v n x y z q
    → IsPart v' n' x' y' z' q' → v ≡ v' → n ≡ n' → x ≡ x' → y ≡ y' → (z ≡ z') × (q ≡ q')
parts_one v v' n n' x x' y y' z z' q q' (bytes {len = m} {left = k} long due)
    (bytes {len = m'} {left = k'} long' due') a b c d =
    let len : m ≡ m' = cc c in
    let lens = ap length d in
    let left : k ≡ k' = omega (arith, len, long, long', lens) in
    (d, rw (a, left) refl)
parts_one v v' n n' x x' y y' z z' q q' (bytes long due) (text chars held can long' due') a b c d = absurd (cc c)
parts_one v v' n n' x x' y y' z z' q q' (bytes long due) (no_text chars held can long') a b c d = absurd (cc c)
parts_one v v' n n' x x' y y' z z' q q' (text chars held can long due) (bytes long' due') a b c d = absurd (cc c)
parts_one v v' n n' x x' y y' z z' q q' (no_text chars held can long) (bytes long' due') a b c d = absurd (cc c)
parts_one v v' n n' x x' y y' z z' q q' (text {len = m} {left = k} {carried = r} chars held can long due)
    (text {len = m'} {left = k'} {carried = r'} chars' held' can' long' due') a b c d =
    let len : m ≡ m' = cc c in
    let o = one_cut z r z' r' chars held chars' held' d in
    let one = ap length o.0 in
    let other = ap length o.1 in
    let left : k ≡ k' = omega (arith, len, long, long', one, other) in
    (o.0, rw (a, o.1, left, b) refl)
parts_one v v' n n' x x' y y' z z' q q' (no_text chars held can long)
    (no_text {carried = r'} chars' held' can' long') a b c d =
    ((one_cut z _ z' r' chars held chars' held' d).0, ap AtFault b)
parts_one v v' n n' x x' y y' z z' q q' (text {len = m} {left = k} {carried = r} chars held can long due)
    (no_text {len = m'} {left = k'} {carried = r'} chars' held' can' long') a b c d =
    let len : m ≡ m' = cc c in
    let o = one_cut z r z' r' chars held chars' held' d in
    let one = ap length o.0 in
    let other = ap length o.1 in
    let left : k ≡ k' = omega (arith, len, long, long', one, other) in
    absurd (can' (rw (sym o.1, sym left) can))
parts_one v v' n n' x x' y y' z z' q q' (no_text {len = m} {left = k} {carried = r} chars held can long)
    (text {len = m'} {left = k'} {carried = r'} chars' held' can' long' due') a b c d =
    let len : m ≡ m' = cc c in
    let o = one_cut z r z' r' chars held chars' held' d in
    let one = ap length o.0 in
    let other = ap length o.1 in
    let left : k ≡ k' = omega (arith, len, long, long', one, other) in
    absurd (can (rw (o.1, left) can'))

-- A part of a body that goes on is no whole body.
not_whole : (v : Within) (n : ℕ) (x : Header) (y z : List ℕ) (q : Point) → IsPart v n x y z q → (body rest : List ℕ)
    → length body ≡ body_len x → IsBody x body → y ≡ body ++ rest → ⊥
not_whole v n x y z q (bytes {len = m} long due) body rest all is e =
    let lens = ap length e in omega (arith, long, due, all, lens, length-append body rest)
not_whole v n x y z q (text {len = m} {carried = r} chars held can long due) body rest all is e =
    let lens = ap length e in omega (arith, long, due, all, lens, length-append body rest, length-append z r)
not_whole v n x y z q (no_text {len = m} {left = k} {carried = r} chars held can long) body rest all is e =
    let lens = ap length e in
    let left : k ≡ 0 = omega (arith, long, all, lens, length-append body rest, length-append z r) in
    let none : rest ≡ [] =
    length_zero rest (omega (arith, long, all, lens, length-append body rest, length-append z r)) in
    let same : z ++ r ≡ body = e ∙ (ap (λ (l : List ℕ). body ++ l) none ∙ append-nil body) in
    let ends : IsCharacters r = IsCharacters-rest z r chars (subst IsCharacters (sym same) is) in
    can (rw left ([], refl, subst IsCharacters (sym (append-nil r)) ends))

-- ---- one title

-- A refused byte is no cut title.
refused_not_cut : (b : List ℕ) → BeginsRefused b → IsCutTitle b → ⊥
refused_not_cut [] refused begun = refused
refused_not_cut (byte ∷ rest) refused begun = omega (arith, begun, refused_affix byte refused)

title_whole : (b : List ℕ) (x : Header) → IsTitle b x → IsCutTitle b → ⊥
title_whole b x is begun = title_not_cut b [] x is (subst IsCutTitle (sym (append-nil b)) begun)

bad_not_cut : (allowed : Spelling) (v : Within) (b : List ℕ) → IsNoTitleIn allowed v b → IsCutTitle b → ⊥
bad_not_cut allowed v b (inl (inl refused)) begun = refused_not_cut b refused begun
bad_not_cut allowed v b (inl (inr (x, is, longer))) begun = title_whole b x is begun
bad_not_cut allowed v b (inr (x, is, misplaced)) begun = title_whole b x is begun

bad_not_title : (allowed : Spelling) (v after : Within) (b t y : List ℕ) (x : Header) → IsNoTitleIn allowed v b
    → IsTitleIn allowed v t x after → b ≡ t ++ y → ⊥
bad_not_title allowed v after b t y x (inl (inl refused)) title e =
    title_refused t y x title.is_title (subst BeginsRefused e refused)
bad_not_title allowed v after b t y x (inl (inr (x', is, longer))) title e =
    let o = one_title b t [] y x' x is title.is_title (append-nil b ∙ e) in
    longer (rw (o.0, o.1) title.taken)
bad_not_title allowed v after b t y x (inr (x', is, misplaced)) title e =
    let o = one_title b t [] y x' x is title.is_title (append-nil b ∙ e) in
    let no : within_after allowed v x ≡ None = subst (λ (z : Header). within_after allowed v z ≡ None) o.1 misplaced in
    cc (no, title.stands)

-- ---- one tail

abbrev Same : List Token → Point → List Token → Point → Type 0
Same ts q us q' = (ts ≡ us) × (q ≡ q')

-- The strings that are open after one title.
one_after : (allowed : Spelling) (v v' u u' : Within) (x x' : Header) → within_after allowed v x ≡ Some u
    → within_after allowed v' x' ≡ Some u' → v ≡ v' → x ≡ x' → u ≡ u'
one_after allowed v v' u u' x x' e e' a b =
    let same : within_after allowed v x ≡ within_after allowed v' x' = rw (a, b) refl in
    let some : Some u ≡ Some u' = sym e ∙ (same ∙ e') in cc some

tail_one : (allowed : Spelling) (v v' : Within) (n n' : ℕ) (b b' : List ℕ) (ts us : List Token) (q q' : Point)
    → Tail allowed v n b ts q → Tail allowed v' n' b' us q' → v ≡ v' → n ≡ n' → b ≡ b' → Same ts q us q'
tail_one allowed v v' n n' b b' ts us q q' (cut begun) (cut begun') s m e = (refl, rw (s, e) refl)
tail_one allowed v v' n n' b b' ts us q q' (cut begun) (bad refused) s m e =
    absurd (bad_not_cut allowed v' b' refused (subst IsCutTitle e begun))
tail_one allowed v v' n n' b b' ts us q q' (cut begun) (part {t = t} {y = y} {x = x} title piece is) s m e =
    absurd (title_not_cut t y x title.is_title (subst IsCutTitle (e ∙ is) begun))
tail_one allowed v v' n n' b b' ts us q q' (cut begun)
    (whole {t = t} {y = y} {rest = r} {x = x} title long body tail is) s m e =
    absurd (title_not_cut t (y ++ r) x title.is_title (subst IsCutTitle (e ∙ is) begun))
tail_one allowed v v' n n' b b' ts us q q' (bad refused) (cut begun) s m e =
    absurd (bad_not_cut allowed v b refused (subst IsCutTitle (sym e) begun))
tail_one allowed v v' n n' b b' ts us q q' (bad refused) (bad refused') s m e = (refl, ap AtFault m)
tail_one allowed v v' n n' b b' ts us q q' (bad refused)
    (part {after = u} {t = t} {y = y} {x = x} title piece is) s m e =
    absurd (bad_not_title allowed v' u b' t y x (rw (sym s, sym e) refused) title is)
tail_one allowed v v' n n' b b' ts us q q' (bad refused)
    (whole {after = u} {t = t} {y = y} {rest = r} {x = x} title long body tail is) s m e =
    absurd (bad_not_title allowed v' u b' t (y ++ r) x (rw (sym s, sym e) refused) title is)
tail_one allowed v v' n n' b b' ts us q q' (part {t = t} {y = y} {x = x} title piece is) (cut begun) s m e =
    absurd (title_not_cut t y x title.is_title (subst IsCutTitle (sym e ∙ is) begun))
tail_one allowed v v' n n' b b' ts us q q' (part {after = u} {t = t} {y = y} {x = x} title piece is)
    (bad refused) s m e =
    absurd (bad_not_title allowed v u b t y x (rw (s, e) refused) title is)
tail_one allowed v v' n n' b b' ts us q q' (part {after = u} {t = t} {y = y} {body = z} {x = x} title piece is)
    (part {after = u'} {t = t'} {y = y'} {body = z'} {x = x'} title' piece' is') s m e =
    let o = one_title t t' y y' x x' title.is_title title'.is_title (sym is ∙ (e ∙ is')) in
    let after = one_after allowed v v' u u' x x' title.stands title'.stands s o.1 in
    let place : text_place v n (n + length t) x ≡ text_place v' n' (n' + length t') x' = rw (s, m, o.0, o.1) refl in
    let same = parts_one u u' _ _ x x' y y' z z' q q' piece piece' after place o.1 o.2 in
    (rw (o.1, same.0) refl, same.1)
tail_one allowed v v' n n' b b' ts us q q' (part {after = u} {t = t} {y = y} {body = z} {x = x} title piece is)
    (whole {t = t'} {y = y'} {rest = r} {x = x'} title' long body tail is') s m e =
    let o = one_title t t' y (y' ++ r) x x' title.is_title title'.is_title (sym is ∙ (e ∙ is')) in
    absurd (not_whole u _ x y z q piece y' r (long ∙ ap body_len (sym o.1)) (rw o.1 body) o.2)
tail_one allowed v v' n n' b b' ts us q q' (whole {t = t} {y = y} {rest = r} {x = x} title long body tail is)
    (cut begun) s m e =
    absurd (title_not_cut t (y ++ r) x title.is_title (subst IsCutTitle (sym e ∙ is) begun))
tail_one allowed v v' n n' b b' ts us q q'
    (whole {after = u} {t = t} {y = y} {rest = r} {x = x} title long body tail is) (bad refused) s m e =
    absurd (bad_not_title allowed v u b t (y ++ r) x (rw (s, e) refused) title is)
tail_one allowed v v' n n' b b' ts us q q' (whole {t = t'} {y = y'} {rest = r} {x = x'} title' long body tail is')
    (part {after = u} {t = t} {y = y} {body = z} {x = x} title piece is) s m e =
    let o = one_title t t' y (y' ++ r) x x' title.is_title title'.is_title (sym is ∙ (sym e ∙ is')) in
    absurd (not_whole u _ x y z q' piece y' r (long ∙ ap body_len (sym o.1)) (rw o.1 body) o.2)
tail_one allowed v v' n n' b b' ts us q q'
    (whole {after = u} {t = t} {y = y} {rest = r} {x = x} {ts = vs} title long body tail is)
    (whole {after = u'} {t = t'} {y = y'} {rest = r'} {x = x'} {ts = ws} title' long' body' tail' is') s m e =
    let o = one_title t t' (y ++ r) (y' ++ r') x x' title.is_title title'.is_title (sym is ∙ (e ∙ is')) in
    let after = one_after allowed v v' u u' x x' title.stands title'.stands s o.1 in
    let same = same_front y y' r r' (long ∙ (ap body_len o.1 ∙ sym long')) o.2 in
    let place : n + (length t + length y) ≡ n' + (length t' + length y') = rw (m, o.0, same.0) refl in
    let (tokens, points) = tail_one allowed u u' _ _ r r' vs ws q q' tail tail' after place same.1 in
    (rw (o.1, same.0, tokens) refl, points)

-- The same bytes are the same tokens, and lead to the same point.
pub one_parse : (allowed : Spelling) (b : List ℕ) (ts us : List Token) (q q' : Point) → IsParsed allowed b ts q
    → IsParsed allowed b us q' → (ts ≡ us) × (q ≡ q')
one_parse allowed b ts us q q' one other =
    let o = tail_one allowed w.Nothing w.Nothing 0 0 b b _ _ q q' (parsed_tail allowed b ts q one)
    (parsed_tail allowed b us q' other) refl refl refl in
    (behind_one ts us o.0, o.1)
