-- Which nodes of a form match.
use Rattle.std.proofs.Common.{◌≡◌, ℕ, zero, suc, ◌+◌, ◌<◌, ◌≤◌, Bool, true, false, not, ◌&&◌, ◌||◌, eqb, List, [], ◌∷◌, ◌++◌, length, map, get_or, refl, sym, ap, subst, ◌∙◌, ◌⊎◌, inl, inr, Option, Some, None, arith, length-append}
use Rattle.cs_index.proofs.candidates.Intersection.{has_below}
use Rattle.cs_index.proofs.writer.ListsBelow.{list_each}
use Rattle.cs_trigram.proofs.SetLemmas.{all_weaker, members_all}
use Rattle.std.specs.Cmp.{both_ways as same_tests}
use Rattle.std.proofs.lemmas.Bool.{true≢false, cases_Bool, eqb-true, eq-eqb, ne_eqb, or_left, or_right, cases_lt}
use Rattle.std.proofs.Math.ListN.{get_or-append}
use Rattle.std.proofs.lemmas.List.{get_or-append-add, length-map}
use Rattle.std.proofs.lemmas.List.Folds.{list_all-append, list_any-append}
use Rattle.std.specs.Prelude.{IfSome}
use Rattle.std.specs.List.{AllByRecursion, list_all, list_any}
use Rattle.cs_trigram.specs.Trigram.{has, Ascends}
use Rattle.cs_trigram.specs.Query.{matches_set}
use Rattle.cs_trigram.specs.declared.queries.Query.{Query}
use Rattle.cs_index.specs.declared.reading.form.FormNode.{FormNode}
use Rattle.cs_index.specs.Form.{members_match, node_matches, joined, queries_match, matched_from, matched, number_matches, numbers, Exist, IsRequired, IsWithin, IsForm, Grows, Gathers}

-- ---- nodes one after the other

pub matched-append : (known : List Bool) (ns : List FormNode) (n : FormNode) → matched_from known (ns ++ n ∷ [])
    ≡ matched_from known ns ++ node_matches (matched_from known ns) n ∷ []
matched-append known [] n = refl
matched-append known (m ∷ ns) n = matched-append (known ++ node_matches known m ∷ []) ns n

pub length-matched : (known : List Bool) (ns : List FormNode) → length (matched_from known ns) ≡ length known + length ns
length-matched known [] = omega arith
length-matched known (n ∷ ns) = let tail = length-matched (known ++ node_matches known n ∷ []) ns in let one =
    length-append known (node_matches known n ∷ []) in omega (arith, tail, one)

-- ---- members

module _ (p q : ℕ → Bool) where
  all_alike : (ms : List ℕ) → AllByRecursion (λ m. p m ≡ q m) ms → list_all p ms ≡ list_all q ms
  all_alike [] h = refl
  all_alike (m ∷ ms) h = λ i. h.0 i && all_alike ms h.1 i

  any_alike : (ms : List ℕ) → AllByRecursion (λ m. p m ≡ q m) ms → list_any p ms ≡ list_any q ms
  any_alike [] h = refl
  any_alike (m ∷ ms) h = λ i. h.0 i || any_alike ms h.1 i

-- members that match alike
pub members_alike : (is_and : Bool) (one other : List Bool) (ms : List ℕ) →
    AllByRecursion (λ m. get_or one m false ≡ get_or other m false) ms → members_match is_and one ms
    ≡ members_match is_and other ms
members_alike true one other ms h = all_alike (λ m. get_or one m false) (λ m. get_or other m false) ms h
members_alike false one other ms h = any_alike (λ m. get_or one m false) (λ m. get_or other m false) ms h

pub exist_more : (lists : ℕ) (earlier later : List FormNode) (ms : List ℕ) → length earlier ≤ length later →
    Exist lists earlier ms → Exist lists later ms
exist_more lists earlier later ms more h = all_weaker (λ m. m < numbers lists earlier) (λ m. m < numbers lists later)
    (λ m below. omega (arith, below, more)) ms h

-- members match as before in a form that grew
pub members_grown : (lists : ℕ) (earlier later : List FormNode) (g : Grows lists earlier later) (bits : List Bool) →
    length bits ≡ lists → (is_and : Bool) (ms : List ℕ) → Exist lists earlier ms →
    members_match is_and (matched bits later) ms ≡ members_match is_and (matched bits earlier) ms
members_grown lists earlier later g bits len is_and ms h = members_alike is_and (matched bits later)
    (matched bits earlier) ms (all_weaker (λ m. m < numbers lists earlier)
    (λ m. get_or (matched bits later) m false ≡ get_or (matched bits earlier) m false) (g.same bits len) ms h)

-- the members of a node exist
node_exists : (lists : ℕ) (ns ms : List FormNode) (k : ℕ) (d : FormNode) →
    AllByRecursion (λ (m : FormNode). Exist lists ns m.members.items) ms → k < length ms →
    Exist lists ns (get_or ms k d).members.items
node_exists lists ns ms k d h below = list_each (λ (m : FormNode). Exist lists ns m.members.items) ms k d below h

-- ---- a form grows

pub grows_on : (lists : ℕ) (a b c : List FormNode) → Grows lists a b → Grows lists b c → Grows lists a c
grows_on lists a b c g h = record {
  form = h.form;
  more = omega (arith, g.more, h.more);
  same = λ bits len n below. h.same bits len n (omega (arith, below, g.more)) ∙ g.same bits len n below;
}

module _ (lists : ℕ) (ns : List FormNode) (form : IsForm lists ns) (n : FormNode) (there : Exist lists ns n.members.items) where
  abbrev later : List FormNode
  later = ns ++ n ∷ []

  long : (bits : List Bool) → length bits ≡ lists → length (matched bits ns) ≡ numbers lists ns
  long bits len = let e = length-matched (false ∷ true ∷ bits) ns in omega (arith, e, len)

  before : (bits : List Bool) → length bits ≡ lists → (k : ℕ) → k < numbers lists ns → number_matches bits later k
      ≡ number_matches bits ns k
  before bits len k below =
      ap (λ known. get_or known k false) (matched-append (false ∷ true ∷ bits) ns n)
      ∙ get_or-append (matched bits ns) (node_matches (matched bits ns) n ∷ []) false k (omega (arith, below, long bits len))

  alike : (bits : List Bool) → length bits ≡ lists → (m : FormNode) → Exist lists ns m.members.items →
      node_matches (matched bits later) m ≡ node_matches (matched bits ns) m
  alike bits len m h = members_alike m.is_and (matched bits later) (matched bits ns) m.members.items
      (all_weaker (λ k. k < numbers lists ns) (λ k. get_or (matched bits later) k false ≡ get_or (matched bits ns) k
      false) (before bits len) m.members.items h)

  pub pushed_matches : (bits : List Bool) → length bits ≡ lists → number_matches bits later (2 + lists + length ns)
      ≡ node_matches (matched bits later) n
  pushed_matches bits len =
      let at : 2 + lists + length ns ≡ length (matched bits ns) + 0 = omega (arith, long bits len) in
      ap (λ known. get_or known (2 + lists + length ns) false) (matched-append (false ∷ true ∷ bits) ns n)
      ∙ ap (λ k. get_or (matched bits ns ++ node_matches (matched bits ns) n ∷ []) k false) at
      ∙ get_or-append-add (matched bits ns) (node_matches (matched bits ns) n ∷ []) 0 false
      ∙ sym (alike bits len n there)

  more_exist : (ms : List FormNode) → AllByRecursion (λ (m : FormNode). Exist lists ns m.members.items) ms →
      AllByRecursion (λ (m : FormNode). Exist lists later m.members.items) (ms ++ n ∷ [])
  more_exist [] h = (exist_more lists ns later n.members.items (let l = length-append ns (n ∷ []) in omega (arith, l)) there, tt)
  more_exist (m ∷ ms) h = (
    exist_more lists ns later m.members.items (let l = length-append ns (n ∷ []) in
        omega (arith, l)) h.0,
    more_exist ms h.1,
  )

  pub grows_push : Grows lists ns later
  grows_push =
      let l = length-append ns (n ∷ []) in
      record {
        form = record {
          exist = more_exist ns form.exist;
          matches = λ bits len k below d. each bits len k d below (split k below);
        };
        more = omega (arith, l);
        same = before;
      }
    where
      split : (k : ℕ) → k < length later → (k < length ns) ⊎ (k ≡ length ns)
      split k below = let l = length-append ns (n ∷ []) in
          elim (cases_lt k (length ns)) [ inl less ↦ inl less | inr more ↦ inr (omega (arith, below, l, more)) ]

      each : (bits : List Bool) → length bits ≡ lists → (k : ℕ) (d : FormNode) → k < length later →
          (k < length ns) ⊎ (k ≡ length ns) → number_matches bits later (2 + lists + k)
          ≡ node_matches (matched bits later) (get_or later k d)
      each bits len k d below (inl less) =
          before bits len (2 + lists + k) (omega (arith, less)) ∙ form.matches bits len k less d
          ∙ sym (alike bits len (get_or ns k d) (node_exists lists ns ns k d form.exist less))
          ∙ ap (node_matches (matched bits later)) (sym (get_or-append ns (n ∷ []) d k less))
      each bits len k d below (inr is) =
          ap (λ j. number_matches bits later (2 + lists + j)) is ∙ pushed_matches bits len
          ∙ ap (node_matches (matched bits later))
          (sym (ap (λ j. get_or later j d) (let z : k ≡ length ns + 0 = omega (arith, is) in z)
          ∙ get_or-append-add ns (n ∷ []) 0 d))

-- ---- members gathered one by one

pub length_map : (set : ℕ → Bool) (xs : List ℕ) → length (map set xs) ≡ length xs
length_map set xs = length-map xs set

joined-unit : (is_and b : Bool) → joined is_and b is_and ≡ b
joined-unit true true = refl
joined-unit true false = refl
joined-unit false true = refl
joined-unit false false = refl

joined-assoc : (is_and a b c : Bool) → joined is_and (joined is_and a b) c ≡ joined is_and a (joined is_and b c)
joined-assoc true true b c = refl
joined-assoc true false b c = refl
joined-assoc false true b c = refl
joined-assoc false false b c = refl

queries-push : (is_and : Bool) (set : ℕ → Bool) (qs : List Query) (q : Query) → queries_match is_and set (qs ++ q ∷ [])
    ≡ joined is_and (queries_match is_and set qs) (matches_set q set)
queries-push true set qs q = list_all-append (λ k. matches_set k set) qs (q ∷ [])
    ∙ ap (λ b. list_all (λ k. matches_set k set) qs && b) (joined-unit true (matches_set q set))
queries-push false set qs q = list_any-append (λ k. matches_set k set) qs (q ∷ [])
    ∙ ap (λ b. list_any (λ k. matches_set k set) qs || b) (joined-unit false (matches_set q set))

module _ (trigrams : List ℕ) where
  -- a query more
  pub gathers_step : (a b c : List FormNode) (n m m' : FormNode) (taken : List Query) (q : Query) →
      Exist (length trigrams) a n.members.items → Gathers trigrams a b n m (λ set. queries_match n.is_and set taken) →
      Gathers trigrams b c m m' (matches_set q) →
      Gathers trigrams a c n m' (λ set. queries_match n.is_and set (taken ++ q ∷ []))
  gathers_step a b c n m m' taken q there g h = record {
    grows = grows_on (length trigrams) a b c g.grows h.grows;
    kind = h.kind ∙ g.kind;
    exist = h.exist;
    matches = λ set within.
        let len = length_map set trigrams in
        let bits : List Bool = map set trigrams in
        let keeps_m : node_matches (matched bits c) m ≡ node_matches (matched bits b) m =
        members_grown (length trigrams) b c h.grows bits len m.is_and m.members.items g.exist in
        let keeps_n : node_matches (matched bits c) n ≡ node_matches (matched bits b) n =
        members_grown (length trigrams) b c h.grows bits len n.is_and n.members.items
        (exist_more (length trigrams) a b n.members.items g.grows.more there) in
        h.matches set within
        ∙ (λ i. joined (g.kind i) ((keeps_m ∙ g.matches set within
        ∙ ap (λ v. joined n.is_and v (queries_match n.is_and set taken)) (sym keeps_n)) i) (matches_set q set))
        ∙ joined-assoc n.is_and (node_matches (matched bits c) n) (queries_match n.is_and set taken) (matches_set q set)
        ∙ ap (joined n.is_and (node_matches (matched bits c) n)) (sym (queries-push n.is_and set taken q));
  }

  -- a number more
  pub gathers_number : (a b : List FormNode) (n m : FormNode) (q : Query) (number : ℕ) → Grows (length trigrams) a b →
      ((set : ℕ → Bool) → IsWithin trigrams set → number_matches (map set trigrams) b number ≡ matches_set q set) →
      m.is_and ≡ n.is_and → Exist (length trigrams) b m.members.items
      → ((bits : List Bool) → length bits ≡ length trigrams → node_matches (matched bits b) m
      ≡ joined n.is_and (node_matches (matched bits b) n) (number_matches bits b number)) →
      Gathers trigrams a b n m (matches_set q)
  gathers_number a b n m q number g is kind exist added = record {
    grows = g;
    kind = kind;
    exist = exist;
    matches = λ set within. added (map set trigrams) (length_map set trigrams)
        ∙ ap (joined n.is_and (node_matches (matched (map set trigrams) b) n)) (is set within);
  }

  -- the gathered members match as the queries do
  pub gathers_all : (a b : List FormNode) (n m : FormNode) (wanted : (ℕ → Bool) → Bool) → Gathers trigrams a b n m wanted →
      n.members.items ≡ [] → (set : ℕ → Bool) → IsWithin trigrams set → node_matches (matched (map set trigrams) b) m
      ≡ joined n.is_and n.is_and (wanted set)
  gathers_all a b n m wanted g none set within = g.matches set within ∙ ap (λ v. joined n.is_and v (wanted set))
      (ap (members_match n.is_and (matched (map set trigrams) b)) none ∙ empty n.is_and)
    where
      empty : (is_and : Bool) → members_match is_and (matched (map set trigrams) b) [] ≡ is_and
      empty true = refl
      empty false = refl

pub joined-first : (is_and b : Bool) → joined is_and is_and b ≡ b
joined-first true b = refl
joined-first false b = refl

-- ---- members once each

module _ (p : ℕ → Bool) where
  pub all_at : (xs : List ℕ) (g : ℕ) → list_all p xs ≡ true → has xs g ≡ true → p g ≡ true
  all_at [] g h there = absurd (true≢false (sym there))
  all_at (x ∷ xs) g h there = elim (cases_Bool (p x)) [
    | inl holds ↦ elim (cases_Bool (eqb x g)) [
      | inl here ↦ subst (λ k. p k ≡ true) (eqb-true x g here) holds
      | inr apart ↦ all_at xs g (sym (ap (λ b. b && list_all p xs) holds) ∙ h) (sym (ap (λ b. b || has xs g) apart) ∙ there)
    ]
    | inr fails ↦ absurd (true≢false (sym h ∙ ap (λ b. b && list_all p xs) fails))
  ]

  pub all_from : (xs : List ℕ) → ((g : ℕ) → has xs g ≡ true → p g ≡ true) → list_all p xs ≡ true
  all_from [] f = refl
  all_from (x ∷ xs) f = (λ i. f x (or_left (eqb x x) (has xs x) (eq-eqb x x refl)) i
      && all_from xs (λ g h. f g (or_right (eqb x g) (has xs g) h)) i)

  any_from : (xs : List ℕ) (g : ℕ) → has xs g ≡ true → p g ≡ true → list_any p xs ≡ true
  any_from [] g there holds = absurd (true≢false (sym there))
  any_from (x ∷ xs) g there holds = elim (cases_Bool (eqb x g)) [
    | inl here ↦ or_left (p x) (list_any p xs) (subst (λ k. p k ≡ true) (sym (eqb-true x g here)) holds)
    | inr apart ↦ or_right (p x) (list_any p xs) (any_from xs g (sym (ap (λ b. b || has xs g) apart) ∙ there) holds)
  ]

  any_in : (xs ys : List ℕ) → ((g : ℕ) → has xs g ≡ true → has ys g ≡ true) → list_any p xs ≡ true → list_any p ys ≡ true
  any_in [] ys f h = absurd (true≢false (sym h))
  any_in (x ∷ xs) ys f h = elim (cases_Bool (p x)) [
    | inl holds ↦ any_from ys x (f x (or_left (eqb x x) (has xs x) (eq-eqb x x refl))) holds
    | inr fails ↦ any_in xs ys (λ g there. f g (or_right (eqb x g) (has xs g) there)) (sym (ap (λ b. b || list_any p xs) fails) ∙ h)
  ]

-- the same members match alike
pub members_same : (is_and : Bool) (known : List Bool) (xs ys : List ℕ) → ((g : ℕ) → has xs g ≡ has ys g) →
    members_match is_and known xs ≡ members_match is_and known ys
members_same true known xs ys same =
    let p : ℕ → Bool = λ m. get_or known m false in
    same_tests (list_all p xs) (list_all p ys) (λ h. all_from p ys (λ g there. all_at p xs g h (same g ∙ there)))
    (λ h. all_from p xs (λ g there. all_at p ys g h (sym (same g) ∙ there)))
members_same false known xs ys same =
    let p : ℕ → Bool = λ m. get_or known m false in
    same_tests (list_any p xs) (list_any p ys) (any_in p xs ys (λ g there. sym (same g) ∙ there))
    (any_in p ys xs (λ g there. same g ∙ there))

-- a member that decides
pub members_zero : (is_and : Bool) (known : List Bool) (ms : List ℕ) (m : ℕ) → has ms m ≡ true → get_or known m false
    ≡ not is_and → members_match is_and known ms ≡ not is_and
members_zero true known ms m there is = elim (cases_Bool (list_all (λ k. get_or known k false) ms)) [
  | inl all ↦ absurd (true≢false (sym (all_at (λ k. get_or known k false) ms m all there) ∙ is))
  | inr not_all ↦ not_all
]
members_zero false known ms m there one = any_from (λ k. get_or known k false) ms m there one

-- the same members exist
pub exist_same : (n : ℕ) (xs ys : List ℕ) → ((g : ℕ) → has xs g ≡ has ys g) → AllByRecursion (λ m. m < n) xs →
    AllByRecursion (λ m. m < n) ys
exist_same n xs ys same all = members_all (λ m. m < n) ys (λ g there. has_below n xs g all (same g ∙ there))

-- ---- numbers that are no nodes

prefix_kept : (known : List Bool) (ns : List FormNode) (k : ℕ) → k < length known → get_or (matched_from known ns) k false
    ≡ get_or known k false
prefix_kept known [] k h = refl
prefix_kept known (n ∷ ns) k h =
    let l = length-append known (node_matches known n ∷ []) in
    prefix_kept (known ++ node_matches known n ∷ []) ns k (omega (arith, l, h)) ∙ get_or-append known (node_matches known n ∷ []) false k h

pub nothing_matches : (bits : List Bool) (ns : List FormNode) → number_matches bits ns 0 ≡ false
nothing_matches bits ns = prefix_kept (false ∷ true ∷ bits) ns 0 (omega arith)

pub everything_matches : (bits : List Bool) (ns : List FormNode) → number_matches bits ns 1 ≡ true
everything_matches bits ns = prefix_kept (false ∷ true ∷ bits) ns 1 (omega arith)

at_map : (set : ℕ → Bool) (xs : List ℕ) (k : ℕ) → k < length xs → get_or (map set xs) k false ≡ set (get_or xs k 0)
at_map set [] k h = absurd (omega (arith, h))
at_map set (x ∷ xs) zero h = refl
at_map set (x ∷ xs) (suc k) h = at_map set xs k (omega (arith, h))

pub list_matches : (set : ℕ → Bool) (trigrams : List ℕ) (ns : List FormNode) (k : ℕ) → k < length trigrams →
    number_matches (map set trigrams) ns (2 + k) ≡ set (get_or trigrams k 0)
list_matches set trigrams ns k h =
    let l = length_map set trigrams in
    let two : 2 + k ≡ suc (suc k) = omega arith in
    prefix_kept (false ∷ true ∷ map set trigrams) ns (2 + k) (omega (arith, l, h))
    ∙ ap (λ n. get_or (false ∷ true ∷ map set trigrams) n false) two ∙ at_map set trigrams k h

pub list_bit : (bits : List Bool) (ns : List FormNode) (k : ℕ) → k < length bits → number_matches bits ns (2 + k) ≡ get_or bits k false
list_bit bits ns k h = let two : 2 + k ≡ suc (suc k) = omega arith in prefix_kept (false ∷ true ∷ bits) ns (2 + k)
    (omega (arith, h)) ∙ ap (λ n. get_or (false ∷ true ∷ bits) n false) two

-- a list that is a member of what has to match
pub required_member : (lists : ℕ) (ns : List FormNode) (n at : ℕ) (members : List ℕ) →
    ((bits : List Bool) → length bits ≡ lists → number_matches bits ns n ≡ members_match true (matched bits ns) members)
    → (at < lists) × (has members (2 + at) ≡ true) → IsRequired lists ns n at
required_member lists ns n at members is there = (
  there.0,
  λ bits long holds.
      sym (list_bit bits ns at (omega (arith, long, there.0)))
      ∙ all_at (λ m. get_or (matched bits ns) m false) members (2 + at) (sym (is bits long) ∙ holds) there.1,
)

pub one_member : (bits : List Bool) (ns : List FormNode) (n : ℕ) → number_matches bits ns n ≡ members_match true (matched bits ns) (n ∷ [])
one_member bits ns n = sym (joined-unit true (number_matches bits ns n))

pub some_map : (o : Option ℕ) (P Q : ℕ → Type 0) → ((n : ℕ) → P n → Q n) → IfSome o P → IfSome o Q
some_map None P Q f h = tt
some_map (Some n) P Q f h = f n h

pub has_item : (xs : List ℕ) (k d : ℕ) → k < length xs → has xs (get_or xs k d) ≡ true
has_item [] k d h = absurd (omega (arith, h))
has_item (x ∷ xs) zero d h = or_left (eqb x x) (has xs x) (eq-eqb x x refl)
has_item (x ∷ xs) (suc k) d h = or_right (eqb x (get_or xs k d)) (has xs (get_or xs k d)) (has_item xs k d (omega (arith, h)))

pub members_none : (is_and : Bool) (known : List Bool) (ms : List ℕ) → length ms < 1 → members_match is_and known ms ≡ is_and
members_none true known [] h = refl
members_none false known [] h = refl
members_none is_and known (m ∷ ms) h = absurd (omega (arith, h))

-- ---- ascending trigrams

pub ascends_order : (xs : List ℕ) → Ascends xs → (i j : ℕ) → i ≤ j → j < length xs → get_or xs i 0 ≤ get_or xs j 0
ascends_order [] up i j h below = absurd (omega (arith, below))
ascends_order (x ∷ xs) up zero zero h below = omega arith
ascends_order (x ∷ []) up zero (suc j) h below = absurd (omega (arith, below))
ascends_order (x ∷ y ∷ ys) up zero (suc j) h below = let r : y ≤ get_or (y ∷ ys) j 0 =
    ascends_order (y ∷ ys) up.1 0 j (omega arith) (omega (arith, below)) in let s = up.0 in omega (arith, r, s)
ascends_order (x ∷ xs) up (suc i) zero h below = absurd (omega (arith, h))
ascends_order (x ∷ []) up (suc i) (suc j) h below = absurd (omega (arith, below))
ascends_order (x ∷ y ∷ ys) up (suc i) (suc j) h below = ascends_order (y ∷ ys) up.1 i j (omega (arith, h)) (omega (arith, below))

pub not_between : (xs : List ℕ) (g i : ℕ) → ((k : ℕ) → k < i → k < length xs → get_or xs k 0 < g) →
    ((k : ℕ) → i ≤ k → k < length xs → g < get_or xs k 0) → has xs g ≡ false
not_between [] g i low high = refl
not_between (x ∷ xs) g zero low high =
    let above : g < x = high 0 (omega arith) (omega arith) in
    (λ j. ne_eqb x g (λ e. absurd (omega (arith, e, above))) j || not_between xs g 0
    (λ k h b. absurd (omega (arith, h))) (λ k h b. high (suc k) (omega arith) (omega (arith, b))) j)
not_between (x ∷ xs) g (suc i) low high =
    let under : x < g = low 0 (omega arith) (omega arith) in
    (λ j. ne_eqb x g (λ e. absurd (omega (arith, e, under))) j || not_between xs g i
    (λ k h b. low (suc k) (omega (arith, h)) (omega (arith, b)))
    (λ k h b. high (suc k) (omega (arith, h)) (omega (arith, b))) j)

pub gathers_wanted : (trigrams : List ℕ) (a b : List FormNode) (n m : FormNode) (wanted wanted' : (ℕ → Bool) → Bool) →
    ((set : ℕ → Bool) → wanted set ≡ wanted' set) → Gathers trigrams a b n m wanted → Gathers trigrams a b n m wanted'
gathers_wanted trigrams a b n m wanted wanted' same g = record {
  grows = g.grows;
  kind = g.kind;
  exist = g.exist;
  matches = λ set within. g.matches set within ∙ ap (joined n.is_and (node_matches (matched (map set trigrams) b) n)) (same set);
}

pub form_none : (lists : ℕ) → IsForm lists []
form_none lists = record { exist = tt; matches = λ bits len k below node. absurd (omega (arith, below)) }
