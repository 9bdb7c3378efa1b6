-- The equations of `matches_set` and of `mentions`, one for each variant.
use Rattle.std.proofs.Common.{◌≡◌, ℕ, ◌≤◌, ◌&&◌, ◌||◌, Bool, true, false, List, [], ◌∷◌, ◌++◌, length, Vec, Global, sym, ◌∙◌, ap, arith}
use Rattle.std.specs.Prelude.{nat_eq}
use Rattle.std.specs.List.{list_all}
use Rattle.std.proofs.Math.Bool.{and-true, or-false, or-true, or_assoc}
use Rattle.std.proofs.lemmas.List.Folds.{list_all-map, list_all-append, list_any-append}
use Rattle.cs_tree.proofs.NameLemmas.{list_any-map}
use Rattle.cs_trigram.specs.Trigram.{set_of_numbers}
use Rattle.cs_trigram.proofs.SplitTrigramLemmas.{sequence-short}
use Rattle.cs_trigram.specs.Query.{matches_set, matches_set_step, mentions, mentions_step}
use Rattle.cs_trigram.specs.Analysis.{has_trigrams, all_match, some_matches, some_mentions, has_any}
use Rattle.cs_trigram.specs.declared.queries.Query.{Query, Query-F, fold-roll-Query}
use Rattle.cs_trigram.specs.declared.queries.Query.TheVariants.{All, Nothing, Tri, And, Or, rolls-All, rolls-Nothing, rolls-Tri, rolls-And, rolls-Or}

module _ (set : ℕ → Bool) where
  pub matches_set-All : matches_set All set ≡ true
  matches_set-All = ap (λ q. matches_set q set) (sym rolls-All) ∙ fold-roll-Query Bool (matches_set_step set) Query-F.All

  pub matches_set-Nothing : matches_set Nothing set ≡ false
  matches_set-Nothing = ap (λ q. matches_set q set) (sym rolls-Nothing) ∙ fold-roll-Query Bool (matches_set_step set) Query-F.Nothing

  pub matches_set-Tri : (n : ℕ) → matches_set (Tri n) set ≡ set n
  matches_set-Tri n = ap (λ q. matches_set q set) (sym (rolls-Tri n)) ∙ fold-roll-Query Bool (matches_set_step set) (Query-F.Tri n)

  pub matches_set-And : (members : Vec Query Global) → matches_set (And members) set ≡ all_match members.items set
  matches_set-And members =
      ap (λ q. matches_set q set) (sym (rolls-And members)) ∙ fold-roll-Query Bool (matches_set_step set) (Query-F.And members)
      ∙ list_all-map (λ b. b) (λ q. matches_set q set) members.items

  pub matches_set-Or : (members : Vec Query Global) → matches_set (Or members) set ≡ some_matches members.items set
  matches_set-Or members =
      ap (λ q. matches_set q set) (sym (rolls-Or members)) ∙ fold-roll-Query Bool (matches_set_step set) (Query-F.Or members)
      ∙ list_any-map (λ q. matches_set q set) (λ b. b) members.items

module _ (g : ℕ) where
  pub mentions-All : mentions All g ≡ false
  mentions-All = ap (λ q. mentions q g) (sym rolls-All) ∙ fold-roll-Query Bool (mentions_step g) Query-F.All

  pub mentions-Tri : (n : ℕ) → mentions (Tri n) g ≡ nat_eq g n
  mentions-Tri n = ap (λ q. mentions q g) (sym (rolls-Tri n)) ∙ fold-roll-Query Bool (mentions_step g) (Query-F.Tri n)

  pub mentions-And : (members : Vec Query Global) → mentions (And members) g ≡ some_mentions members.items g
  mentions-And members =
      ap (λ q. mentions q g) (sym (rolls-And members)) ∙ fold-roll-Query Bool (mentions_step g) (Query-F.And members)
      ∙ list_any-map (λ q. mentions q g) (λ b. b) members.items

  pub mentions-Or : (members : Vec Query Global) → mentions (Or members) g ≡ some_mentions members.items g
  mentions-Or members =
      ap (λ q. mentions q g) (sym (rolls-Or members)) ∙ fold-roll-Query Bool (mentions_step g) (Query-F.Or members)
      ∙ list_any-map (λ q. mentions q g) (λ b. b) members.items

  pub mentions_push : (queries : List Query) (q : Query) → some_mentions (queries ++ q ∷ []) g ≡ (some_mentions queries g || mentions q g)
  mentions_push queries q =
      list_any-append (λ x. mentions x g) queries (q ∷ []) ∙ ap (λ b. some_mentions queries g || b) (or-false (mentions q g))

-- one more member
pub all_match_push : (set : ℕ → Bool) (queries : List Query) (q : Query) → all_match (queries ++ q ∷ []) set
    ≡ (all_match queries set && matches_set q set)
all_match_push set queries q =
    list_all-append (λ x. matches_set x set) queries (q ∷ []) ∙ ap (λ b. all_match queries set && b) (and-true (matches_set q set))

pub some_matches_push : (set : ℕ → Bool) (queries : List Query) (q : Query) → some_matches (queries ++ q ∷ []) set
    ≡ (some_matches queries set || matches_set q set)
some_matches_push set queries q =
    list_any-append (λ x. matches_set x set) queries (q ∷ []) ∙ ap (λ b. some_matches queries set || b) (or-false (matches_set q set))

-- one more string
pub text_step : (set : ℕ → Bool) (members : List Query) (q : Query) (w : List ℕ) (ws : List (List ℕ)) →
    matches_set q set ≡ has_trigrams set w →
    (some_matches (members ++ q ∷ []) set || has_any set ws) ≡ (some_matches members set || has_any set (w ∷ ws))
text_step set members q w ws e =
    ap (λ b. b || has_any set ws) (some_matches_push set members q ∙ ap (λ b. some_matches members set || b) e)
    ∙ or_assoc (some_matches members set) (has_trigrams set w) (has_any set ws)

-- a string without a trigram is required trivially
pub short_there : (set : ℕ → Bool) (rest : List (List ℕ)) (w : List ℕ) (b : Bool) → length w ≤ 2 → (b || has_any set (w ∷ rest)) ≡ true
short_there set rest w b le =
    ap (λ (ns : List ℕ). b || (list_all set (set_of_numbers ns) || has_any set rest)) (sequence-short w (omega arith)) ∙ or-true b
