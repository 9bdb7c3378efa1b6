-- What the merge has at a name, and what the merged paths cover.
use Rattle.std.proofs.Common.{◌≡◌, ℕ, Bool, true, false, not, cond, ◌||◌, List, refl, sym, ap, ◌∙◌, ◌⊎◌, inl, inr, Option, None, Some}
use Rattle.cs_merge.proofs.Common.{Paths, bytes_cmp, true≢false, or_cases, or_left, or_right, nat_list_cmp_total, is_covered, least, alike, find-append, contains-union, option_or, merge_files, merge_paths}
use Rattle.std.specs.FinMap as map
use Rattle.cs_tree.specs.PathSet as set
use Rattle.cs_tree.proofs.LeastLemmas.{least_says, least_is_unique, covered-least, covered-union}
use Rattle.cs_merge.specs.Replacing.{IsCoveredBy}

module _ {X : Type 0} where
  pub get-merge_files : (paths : Paths) (old newer : map.FinMap bytes_cmp X) (name : List ℕ) →
      map.get (merge_files paths old newer) name ≡ option_or (map.get newer name)
      (cond (not (is_covered paths name)) (map.get old name) None)
  get-merge_files paths old newer name =
      map.get-from_entries nat_list_cmp_total _ name
      ∙ find-append name (map.entries newer) (map.entries kept)
      ∙ ap (λ o. option_or o (map.find bytes_cmp name (map.entries kept))) (sym (map.get-entries newer name))
      ∙ ap (option_or (map.get newer name)) (sym (map.get-entries kept name)
      ∙ map.get-retain_keys old _ name (λ x e. ap (λ n. not (is_covered paths n)) (sym (alike name x e))))
    where
      kept : map.FinMap bytes_cmp X
      kept = map.retain_keys old (λ n. not (is_covered paths n))

  pub or_none : (o : Option X) → option_or o None ≡ o
  or_none None = refl
  or_none (Some x) = refl

  -- at a covered name the newer index takes precedence
  pub newer_at : (paths : Paths) (old newer : map.FinMap bytes_cmp X) (name : List ℕ) → is_covered paths name ≡ true →
      map.get (merge_files paths old newer) name ≡ map.get newer name
  newer_at paths old newer name h =
      get-merge_files paths old newer name
      ∙ ap (λ b. option_or (map.get newer name) (cond (not b) (map.get old name) None)) h
      ∙ or_none (map.get newer name)

  -- at any other name the newer index has nothing, so the old file stays
  pub old_at : (paths : Paths) (old newer : map.FinMap bytes_cmp X) (name : List ℕ) → map.get newer name ≡ None →
      is_covered paths name ≡ false → map.get (merge_files paths old newer) name ≡ map.get old name
  old_at paths old newer name none h =
      get-merge_files paths old newer name
      ∙ ap (λ b. option_or (map.get newer name) (cond (not b) (map.get old name) None)) h
      ∙ ap (λ o. option_or o (map.get old name)) none

  -- the paths cover the names of a map
  pub old_under : (paths : Paths) (old newer : map.FinMap bytes_cmp X) (name : List ℕ) →
      ((q : List ℕ) (x : X) → map.get newer q ≡ Some x → is_covered paths q ≡ true) → is_covered paths name ≡ false →
      map.get (merge_files paths old newer) name ≡ map.get old name
  old_under paths old newer name under h = old_at paths old newer name (lacks (map.get newer name) refl) h
    where
      lacks : (o : Option X) → map.get newer name ≡ o → map.get newer name ≡ None
      lacks None e = e
      lacks (Some x) e = absurd (true≢false (sym (under name x e) ∙ h))

  -- a file of the merge is a file of one of the two indexes
  pub merged_from : (paths : Paths) (old newer : map.FinMap bytes_cmp X) (name : List ℕ) (x : X) →
      map.get (merge_files paths old newer) name ≡ Some x → (map.get newer name ≡ Some x) ⊎ (map.get old name ≡ Some x)
  merged_from paths old newer name x h = parts (map.get newer name) (map.get old name) (not (is_covered paths name))
      (sym (get-merge_files paths old newer name) ∙ h)
    where
      parts : (n o : Option X) (b : Bool) → option_or n (cond b o None) ≡ Some x → (n ≡ Some x) ⊎ (o ≡ Some x)
      parts (Some y) o b e = inl e
      parts None o true e = inr e
      parts None o false e = cc

-- ---- paths

pub covered-merge_paths : (p q : Paths) (name : List ℕ) → is_covered (merge_paths p q) name ≡ (is_covered p name || is_covered q name)
covered-merge_paths p q name = covered-least (set.union p q) name ∙ covered-union p q name

pub path_from : (p q : Paths) (path : List ℕ) → set.contains (merge_paths p q) path ≡ true →
    (set.contains p path ≡ true) ⊎ (set.contains q path ≡ true)
path_from p q path h = or_cases (set.contains p path) (set.contains q path)
    (sym (contains-union p q path) ∙ (least_says (set.union p q) path h).member)

pub covered_left : (p q : Paths) (name : List ℕ) → is_covered p name ≡ true → is_covered (merge_paths p q) name ≡ true
covered_left p q name h = covered-merge_paths p q name ∙ or_left (is_covered p name) (is_covered q name) h

pub covered_right : (p q : Paths) (name : List ℕ) → is_covered q name ≡ true → is_covered (merge_paths p q) name ≡ true
covered_right p q name h = covered-merge_paths p q name ∙ or_right (is_covered p name) (is_covered q name) h

-- ---- covered files are replaced

pub paths_replaced : (p q : Paths) → IsCoveredBy p q → merge_paths p q ≡ least q
paths_replaced p q by = least_is_unique (set.union p q) q (λ name. covered-union p q name ∙ by_old name (is_covered p name) refl)
  where
    by_old : (name : List ℕ) (b : Bool) → is_covered p name ≡ b → (is_covered p name || is_covered q name) ≡ is_covered q name
    by_old name true e = ap (λ b. b || is_covered q name) e ∙ sym (by name e)
    by_old name false e = ap (λ b. b || is_covered q name) e

pub files_replaced : {X : Type 0} (p q : Paths) (old newer : map.FinMap bytes_cmp X) → IsCoveredBy p q →
    ((name : List ℕ) (x : X) → map.get old name ≡ Some x → is_covered p name ≡ true) → merge_files q old newer ≡ newer
files_replaced {X} p q old newer by under =
    map.same_map nat_list_cmp_total alike (merge_files q old newer) newer (λ name. by_cover name (is_covered q name) refl)
  where
    nothing_old : (name : List ℕ) (o : Option X) → map.get old name ≡ o → is_covered q name ≡ false → map.get old name ≡ None
    nothing_old name None e h = e
    nothing_old name (Some x) e h = absurd (true≢false (sym (by name (under name x e)) ∙ h))

    by_cover : (name : List ℕ) (b : Bool) → is_covered q name ≡ b → map.get (merge_files q old newer) name ≡ map.get newer name
    by_cover name true h = newer_at q old newer name h
    by_cover name false h =
        get-merge_files q old newer name
        ∙ ap (λ b. option_or (map.get newer name) (cond (not b) (map.get old name) None)) h
        ∙ ap (option_or (map.get newer name)) (nothing_old name (map.get old name) refl h)
        ∙ or_none (map.get newer name)
