-- The names that a search selects.
use Rattle.std.proofs.Common.{◌≡◌, ℕ, ◌<◌, Bool, true, false, cond, List, [], ◌∷◌, ◌++◌, length, get_or, map, refl, sym, ap, subst, ◌∙◌, append-nil, Option, Some, None, Result, Ok, Err, arith}
use Rattle.std.specs.Prelude.{All, filter, slice_get, IfOk, String, string_bytes, Vec}
use Rattle.std.specs.Result.{IsOkAnd}
use Rattle.std.specs.List.{range_with_len, cons_option}
use Rattle.std.specs.declared.alloc.Global.{Global}
use Rattle.std.proofs.lemmas.List.{map-append}
use Rattle.std.proofs.lemmas.List.Elements.{All-filter, All-from_get_or, filter-append, filter_map-append}
use Rattle.std.proofs.lemmas.List.FromFn.{get_or-range_with_len, length-range_with_len}
use Rattle.std.proofs.lemmas.Option.{slice_get-get_or}
use Rattle.cs_syntax.specs.Matching.{Tree}
use Rattle.cs_match.specs.Decidability.{MatchingIsDecidable}
use Rattle.cs_tree.specs.declared.fault.IoFault.{IoFault}
use Rattle.cs_trigram.specs.declared.queries.Query.{Query}
use Rattle.cs_index.specs.declared.fault.IndexFault.{IndexFault}
use Rattle.cs_index.specs.OpenedParts.{Parts}
use Rattle.cs_index.specs.Answerable.{is_answerable}
use Rattle.cs_index.specs.Candidates.{candidates_of, name_matches}
use Rattle.cs_index.specs.NameReading.{HasName, IsName}
use Rattle.cs_index.specs.declared.reading.name_reader.NameReader.{NameReader}
use Rattle.cs_search.specs.declared.stored.Plan.{Plan}
use Rattle.cs_search.specs.IndexSearch.{names_at, AreKept, DecidesNames}
use Rattle.cs_search.specs.Selections.{Selects}

-- the candidates are ids of names
pub candidates_below : (parts : Parts) (query : Query) → All (λ id. id < length parts.names) (candidates_of parts query)
unfolding candidates_of
candidates_below parts query =
    let n = length parts.names in
    All-filter (name_matches parts query) (λ id. id < n) (range_with_len 0 n)
    (All-from_get_or (λ id. id < n) (range_with_len 0 n) 0
    (λ i low.
    let within : i < n = subst (λ k. i < k) (length-range_with_len 0 n) low in
    omega (arith, within, get_or-range_with_len 0 n i 0 within)))

-- there is a test that is that of the program
pub decided : MatchingIsDecidable → (program : Option Tree) → (keeps : List ℕ → Bool) × DecidesNames keeps program
decided decidable None = (λ name. true, λ name. refl)
decided decidable (Some tree) = decidable tree

-- an id of a name is read as that name
pub name_read : (names : List (List ℕ)) (id : ℕ) (answer : Result (Unit {0}) IndexFault) (reader : NameReader) →
    id < length names → IsName (slice_get names id) answer reader →
    IsOkAnd answer (λ _. HasName reader (get_or names id []))
name_read names id answer reader low is = subst (λ (name : Option (List ℕ)). IsName name answer reader)
    (slice_get-get_or names id [] low) is

pub kept_none : (file : Option Tree) (names : List (List ℕ)) → AreKept file names [] []
unfolding names_at
kept_none file names = λ keeps decides. refl

module _ (file : Option Tree) (names : List (List ℕ)) (ids : List ℕ) (id : ℕ) (texts : List (String Global))
    (low : id < length names) (kept : AreKept file names ids texts) where
  abbrev name : List ℕ
  name = get_or names id []

  one_more : (keeps : List ℕ → Bool) → filter keeps (names_at names (ids ++ id ∷ []))
      ≡ filter keeps (names_at names ids) ++ cond (keeps name) (name ∷ []) []
  unfolding names_at
  one_more keeps =
      ap (filter keeps) (filter_map-append (slice_get names) ids (id ∷ [])
      ∙ ap (λ (o : Option (List ℕ)). names_at names ids ++ cons_option o []) (slice_get-get_or names id [] low))
      ∙ filter-append keeps (names_at names ids) (name ∷ [])

  module _ (passes : Bool) (tested : (keeps : List ℕ → Bool) → DecidesNames keeps file → passes ≡ keeps name) where
    after : (keeps : List ℕ → Bool) → DecidesNames keeps file → filter keeps (names_at names (ids ++ id ∷ []))
        ≡ map string_bytes texts ++ cond passes (name ∷ []) []
    after keeps decides = one_more keeps ∙ sym (λ i. kept keeps decides i ++ cond (tested keeps decides i) (name ∷ []) [])

    -- the name is kept
    pub kept_more : (text : String Global) → string_bytes text ≡ name → passes ≡ true →
        AreKept file names (ids ++ id ∷ []) (texts ++ text ∷ [])
    kept_more text same is = λ keeps decides.
        map-append string_bytes texts (text ∷ []) ∙ ap (λ (t : List ℕ). map string_bytes texts ++ t ∷ []) same
        ∙ sym (after keeps decides ∙ ap (λ t. map string_bytes texts ++ cond t (name ∷ []) []) is)

    -- the name is not kept
    pub kept_same : passes ≡ false → AreKept file names (ids ++ id ∷ []) texts
    kept_same is = λ keeps decides.
        sym (after keeps decides ∙ ap (λ t. map string_bytes texts ++ cond t (name ∷ []) []) is ∙ append-nil (map string_bytes texts))

-- the kept names of the candidates are selected
pub selects : (plan : Plan) (parts : Parts) (file : Option Tree) (ids : List ℕ)
    (result : Result (Result (Vec (String Global) Global) IndexFault) IoFault) → file ≡ plan.file →
    ids ≡ candidates_of parts plan.query → is_answerable parts plan.query ≡ true →
    IfOk result (λ answer. IsOkAnd answer (λ names. AreKept file parts.names ids names.items)) → IfOk result (Selects plan parts)
selects plan parts file ids (Ok (Ok names)) is are whole kept = (
  subst (λ (program : Option Tree). AreKept program parts.names (candidates_of parts plan.query) names.items) is
      (subst (λ (l : List ℕ). AreKept file parts.names l names.items) are kept),
  whole,
)
selects plan parts file ids (Ok (Err fault)) is are whole kept = absurd kept
selects plan parts file ids (Err fault) is are whole kept = tt
