-- Lists of the spans of a line.
use Rattle.std.proofs.Common.{◌≡◌, ℕ, suc, ◌+◌, ◌<◌, Bool, true, List, [], ◌∷◌, ◌++◌, length, take, drop, map, set, refl, sym, ap, subst, ◌∙◌, append_assoc, append-nil, add-one, arith}
use Rattle.std.proofs.lemmas.List.{take_more_set, map-append, drop-drop, drop-set-lt}
use Rattle.cs_syntax.specs.Matching.{Tree}
use Rattle.cs_match.specs.Span.{IsFirstOf, AreSpansFrom, HasNoMatchOf, SpansAreUnique, FirstSpansBeginAll}
use Rattle.cs_match.specs.SpanList.{first_spans}
use Rattle.cs_match.specs.declared.spans.Span.{Span}
use Rattle.cs_match.proofs.SpanLemmas.{unique}

same_pair : (p q : ℕ × ℕ) → p.0 ≡ q.0 → p.1 ≡ q.1 → p ≡ q
same_pair (a, b) (c, d) e f = rw (e, f) refl

pub all_unique : SpansAreUnique
all_unique whole t s from least [] [] p q = refl
all_unique whole t s from least [] (y ∷ ys) p q = absurd (p refl y.0 y.1 q.0.is)
all_unique whole t s from least (x ∷ xs) [] p q = absurd (q refl x.0 x.1 p.0.is)
all_unique whole t s from least (x ∷ xs) (y ∷ ys) p q =
    let u = unique whole t s from least x.0 x.1 y.0 y.1 p.0 q.0 in
    let P : ℕ → Type 0 = λ e. AreSpansFrom true whole t s e (suc e) ys in
    let rest = all_unique whole t s x.1 (suc x.1) xs ys p.1 (subst P (sym u.1) q.1) in
    ap (λ z. z ∷ xs) (same_pair x y u.0 u.1) ∙ ap (λ zs. y ∷ zs) rest

pub begin_all : FirstSpansBeginAll
begin_all whole t s from least [] all p q = (all, refl)
begin_all whole t s from least (x ∷ xs) [] p q = absurd (q refl x.0 x.1 p.0.is)
begin_all whole t s from least (x ∷ xs) (y ∷ ys) p q =
    let u = unique whole t s from least x.0 x.1 y.0 y.1 p.0 q.0 in
    let P : ℕ → Type 0 = λ e. AreSpansFrom true whole t s e (suc e) ys in
    let rest = begin_all whole t s x.1 (suc x.1) xs ys p.1 (subst P (sym u.1) q.1) in
    (rest.0, ap (λ z. z ∷ ys) (sym (same_pair x y u.0 u.1)) ∙ ap (λ zs. x ∷ zs) rest.1)

-- What follows the spans that are listed follows the start of the line.
abbrev pub Continues : Bool → Tree → List ℕ → List (ℕ × ℕ) → ℕ → ℕ → Type 0
Continues whole t s listed from least =
    (all : Bool) (rest : List (ℕ × ℕ)) → AreSpansFrom all whole t s from least rest → AreSpansFrom all whole t s 0 0 (listed ++ rest)

module _ (whole : Bool) (t : Tree) (s : List ℕ) where
  pub continues_none : Continues whole t s [] 0 0
  continues_none all rest h = h

  pub continues_more : (listed : List (ℕ × ℕ)) (from least start end : ℕ) → Continues whole t s listed from least →
      IsFirstOf whole t s from least start end → Continues whole t s (listed ++ (start, end) ∷ []) end (end + 1)
  continues_more listed from least start end given first all rest h =
      let P : List (ℕ × ℕ) → Type 0 = AreSpansFrom all whole t s 0 0 in
      let Q : ℕ → Type 0 = λ next. AreSpansFrom all whole t s end next rest in
      subst P (sym (append_assoc listed ((start, end) ∷ []) rest)) (given all ((start, end) ∷ rest) (first, subst Q (add-one end) h))

  pub continues_to : (listed : List (ℕ × ℕ)) (from least : ℕ) (all : Bool) → Continues whole t s listed from least →
      (all ≡ true → HasNoMatchOf whole t s from least) → AreSpansFrom all whole t s 0 0 listed
  continues_to listed from least all given none =
      let P : List (ℕ × ℕ) → Type 0 = AreSpansFrom all whole t s 0 0 in
      subst P (append-nil listed) (given all [] none)

-- a span that is written after those that are listed
pub listed_more : (count : ℕ) (buffer : List Span) (span : Span) → count < length buffer →
    first_spans (count + 1) (set buffer count span) ≡ first_spans count buffer ++ (span.start, span.end) ∷ []
listed_more count buffer span h =
    let pair : Span → ℕ × ℕ = λ x. (x.start, x.end) in
    ap (map pair) (take_more_set buffer count span h) ∙ map-append pair (take count buffer) (span ∷ [])

-- what it leaves
pub rest_more : (count : ℕ) (buffer old : List Span) (span : Span) → drop count buffer ≡ drop count old →
    drop (count + 1) (set buffer count span) ≡ drop (count + 1) old
rest_more count buffer old span h =
    let one : (xs : List Span) → drop 1 (drop count xs) ≡ drop (count + 1) xs = λ xs. drop-drop 1 count xs in
    drop-set-lt (count + 1) buffer count span (omega arith) ∙ sym (one buffer) ∙ ap (drop 1) h ∙ one old
