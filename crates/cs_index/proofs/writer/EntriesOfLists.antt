-- The trigrams of each name in the posting lists of all trigrams.
use Rattle.std.proofs.Common.{◌≡◌, ℕ, ◌+◌, ◌<◌, ◌≤◌, false, cond, eqb, ◌||◌, ◌&&◌, List, [], ◌∷◌, ◌++◌, length, refl, sym, ap, subst, ◌∙◌, inl, inr, arith}
use Rattle.std.proofs.Math.Bool.{and-true, and-false, or-false}
use Rattle.cs_index.specs.AscendingIds.{AscendWithin, IsPostingList, next_after}
use Rattle.cs_index.specs.PostingLists.{set_at, entries_of}
use Rattle.cs_trigram.specs.Trigram.{has, set_of_numbers, Ascends}
use Rattle.std.proofs.lemmas.Bool.{cases_Bool, cases_lt, eq-eqb, ne_eqb, lt-ltb, le-ltb}
use Rattle.std.specs.List.{AllByRecursion}
use Rattle.cs_index.specs.Encoding.{PostingList, Entry}
use Rattle.cs_index.specs.Gathering.{trigrams_in, lists_below}
use Rattle.cs_index.specs.Written.{ids_of, with_id}
use Rattle.cs_index.proofs.encoding.Inversion.{has-set_at, ascends_set_at}
use Rattle.cs_index.proofs.writer.ListsBelow.{below_ascends, below_is, has_below, some_ids}
use Rattle.cs_trigram.proofs.SetLemmas.{ascends_set, has-set_of_numbers, ascends_same}

-- ---- the set of a name

-- no trigram from the bound on has ids
abbrev pub AreBelow : ℕ → (ℕ → List ℕ) → Type 0
AreBelow n f = (g : ℕ) → n ≤ g → f g ≡ []

has_set : (n : ℕ) (f : ℕ → List ℕ) (g k : ℕ) → AreBelow n f → has (set_at k (lists_below n f)) g ≡ has (f g) k
has_set n f g k below =
    ap (λ ps. has (set_at k ps) g) (below_is n f)
    ∙ has-set_at f g k (trigrams_in (lists_below n f))
    ∙ ap (λ b. b && has (f g) k) (has_below n f g)
    ∙ elim (cases_lt g n) [
      | inl less ↦ ap (λ b. (b && some_ids (f g)) && has (f g) k) (lt-ltb g n less) ∙ some (f g)
      | inr past ↦ ap (λ b. (b && some_ids (f g)) && has (f g) k) (le-ltb g n past) ∙ sym (ap (λ ids. has ids k) (below g past))
    ]
  where
    some : (ids : List ℕ) → (some_ids ids && has ids k) ≡ has ids k
    some [] = refl
    some (id ∷ ids) = refl

set_ascends : (n : ℕ) (f : ℕ → List ℕ) (k : ℕ) → Ascends (set_at k (lists_below n f))
set_ascends n f k = subst (λ ps. Ascends (set_at k ps)) (sym (below_is n f))
    (ascends_set_at f k (trigrams_in (lists_below n f)) (below_ascends n f))

-- A new id is appended to the lists of some trigrams.
pub record WereGiven (f more : ℕ → List ℕ) (id : ℕ) (gs : List ℕ) : Type 0 where
  pub ids : (g k : ℕ) → has (more g) k ≡ (has (f g) k || (has gs g && eqb id k))
  pub fresh : (g : ℕ) → has (f g) id ≡ false

-- the sets of earlier names stay, and that of the last name is the one added
set_earlier : (n : ℕ) (f more : ℕ → List ℕ) (id k : ℕ) (gs : List ℕ) → AreBelow n f → AreBelow n more →
    WereGiven f more id gs → k < id → set_at k (lists_below n more) ≡ set_at k (lists_below n f)
set_earlier n f more id k gs below below' given less =
    ascends_same _ _ (set_ascends n more k) (set_ascends n f k) (λ g.
    has_set n more g k below' ∙ given.ids g k
    ∙ ap (λ b. has (f g) k || (has gs g && b)) (ne_eqb id k (λ e. absurd (omega (arith, e, less))))
    ∙ ap (λ b. has (f g) k || b) (and-false (has gs g)) ∙ or-false (has (f g) k)
    ∙ sym (has_set n f g k below))

set_last : (n : ℕ) (f more : ℕ → List ℕ) (id : ℕ) (gs : List ℕ) → AreBelow n more → WereGiven f more id gs →
    set_at id (lists_below n more) ≡ set_of_numbers gs
set_last n f more id gs below' given =
    ascends_same _ (set_of_numbers gs) (set_ascends n more id) (ascends_set gs) (λ g.
    has_set n more g id below' ∙ given.ids g id
    ∙ ap (λ b. b || (has gs g && eqb id id)) (given.fresh g)
    ∙ ap (λ b. has gs g && b) (eq-eqb id id refl)
    ∙ and-true (has gs g)
    ∙ sym (has-set_of_numbers g gs))

-- ---- names

entries_same : (first : ℕ) (names : List (List ℕ)) (ps qs : List PostingList) → ((k : ℕ) → k < first + length names →
    set_at k ps ≡ set_at k qs) → entries_of first names ps ≡ entries_of first names qs
entries_same first [] ps qs same = refl
entries_same first (n ∷ names) ps qs same =
    let here : set_at first ps ≡ set_at first qs = same first (omega arith) in
    let rest = entries_same (first + 1) names ps qs (λ k h. same k (omega (arith, h))) in
    λ i. (n, here i) ∷ rest i

entries_push : (first : ℕ) (names : List (List ℕ)) (name : List ℕ) (ps : List PostingList) →
    entries_of first (names ++ name ∷ []) ps ≡ entries_of first names ps ++ (name, set_at (first + length names) ps) ∷ []
entries_push first [] name ps = ap (λ k. (name, set_at k ps) ∷ []) (let z : first ≡ first + 0 = omega arith in z)
entries_push first (n ∷ names) name ps =
    ap (λ (es : List Entry). (n, set_at first ps) ∷ es) (entries_push (first + 1) names name ps
    ∙ ap (λ k. entries_of (first + 1) names ps ++ (name, set_at k ps) ∷ []) (let z : first + 1 + length names
    ≡ first + length (n ∷ names) = omega arith in z))

-- one more name
pub entries_added : (n : ℕ) (names : List (List ℕ)) (name : List ℕ) (f more : ℕ → List ℕ) (gs : List ℕ) →
    AreBelow n f → AreBelow n more → WereGiven f more (length names) gs →
    entries_of 0 (names ++ name ∷ []) (lists_below n more)
    ≡ entries_of 0 names (lists_below n f) ++ (name, set_of_numbers gs) ∷ []
entries_added n names name f more gs below below' given =
    let id : ℕ = length names in
    entries_push 0 names name (lists_below n more)
    ∙ (λ i. entries_same 0 names (lists_below n more) (lists_below n f)
    (λ k h. set_earlier n f more id k gs below below' given (omega (arith, h))) i
    ++ (
      name,
      (ap (λ k. set_at k (lists_below n more)) (let z : 0 + length names ≡ id = omega arith in z)
          ∙ set_last n f more id gs below' given) i,
    ) ∷ [])

-- ---- one more id

pub rise_end : (name_count next : ℕ) (ids : List ℕ) (id : ℕ) → AscendWithin name_count next ids → next_after next ids ≤ id →
    id < name_count → AscendWithin name_count next (ids ++ id ∷ [])
rise_end name_count next [] id up h bound = (h, bound, tt)
rise_end name_count next (x ∷ ids) id up h bound = (up.0, up.1, rise_end name_count (x + 1) ids id up.2 h bound)

pub each_gathered : (name_count : ℕ) (lists : List PostingList) (g id : ℕ) → AllByRecursion (IsPostingList name_count) lists →
    next_after 0 (ids_of lists g) ≤ id → id < name_count → AllByRecursion (IsPostingList name_count) (with_id lists g id)
each_gathered name_count [] g id all above bound = (((λ e. cc), (omega arith, bound, tt)), tt)
each_gathered name_count (p ∷ lists) g id all above bound =
    elim (cases_Bool (eqb p.0 g)) [
      | inl here ↦
          let last : next_after 0 p.1 ≤ id = subst (λ ids. next_after 0 ids ≤ id) (ap (λ b. cond b p.1
          (ids_of lists g)) here) above in
          subst (AllByRecursion (IsPostingList name_count)) (sym (ap (λ b. cond b ((
            p.0,
            p.1
                ++ id ∷ [],
          ) ∷ lists) (p ∷ with_id lists g id)) here))
          (((λ e. no_end p.1 e), rise_end name_count 0 p.1 id all.0.1 last bound), all.1)
      | inr apart ↦
          let rest : next_after 0 (ids_of lists g) ≤ id = subst (λ ids. next_after 0 ids ≤ id) (ap (λ b. cond b p.1
          (ids_of lists g)) apart) above in
          subst (AllByRecursion (IsPostingList name_count)) (sym (ap (λ b. cond b ((
            p.0,
            p.1
                ++ id ∷ [],
          ) ∷ lists) (p ∷ with_id lists g id)) apart))
          (all.0, each_gathered name_count lists g id all.1 rest bound)
    ]
  where
    no_end : (ids : List ℕ) → ids ++ id ∷ [] ≡ [] → ⊥
    no_end [] e = cc
    no_end (x ∷ ids) e = cc
