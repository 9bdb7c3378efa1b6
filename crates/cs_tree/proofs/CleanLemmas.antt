-- Lists of elements, and the path that they make.
use Rattle.std.proofs.Common.{◌≡◌, ℕ, List, [], ◌∷◌, ◌++◌, length, Bool, true, false, ◌||◌, ◌≢◌, cond, eqb, Some, None, refl, sym, ap, ◌∙◌}
use Rattle.std.specs.Prelude.{nat_lt, Result, Ok, Err, OnOk, bytes_eq}
use Rattle.std.specs.Path.{slash}
use Rattle.std.proofs.lemmas.List.Folds.{list_any-append}
use Rattle.cs_tree.specs.Cover.{begins}
use Rattle.std.specs.List.{fold}
use Rattle.cs_tree.specs.Clean.{elements, with_element, path_of, absolute, clean_path, has_nul, longest_path}
use Rattle.cs_tree.specs.Cleaning.{clean_fault}
use Rattle.cs_tree.specs.PathParts.{parts_path, parts_fault}
use Rattle.cs_tree.specs.declared.paths.PathFault.TheVariants.{Empty, Nul, TooLong}
use Rattle.cs_tree.proofs.SplitLemmas.{elements-append}

pub on_ok : {A E : Type 0} {P Q : Type 0} (answer : Result A E) → (P → Q) → OnOk answer P → OnOk answer Q
on_ok (Ok x) f h = f h
on_ok (Err e) f h = tt

pub steps-append : (above : List (List ℕ)) (xs ys : List (List ℕ)) → fold with_element above (xs ++ ys)
    ≡ fold with_element (fold with_element above xs) ys
steps-append above [] ys = refl
steps-append above (x ∷ xs) ys = steps-append (with_element above x) xs ys

pub steps-one : (above now : List (List ℕ)) (element : List ℕ) (pieces later : List (List ℕ)) → pieces
    ≡ element ∷ later → now ≡ with_element above element → fold with_element now later ≡ fold with_element above pieces
steps-one above now element pieces later e is = ap (λ a. fold with_element a later) is ∙ ap (fold with_element above) (sym e)

-- ---- a text that is joined to a folder, or not

pub path_absolute : (folder text : List ℕ) → begins (slash ∷ []) text ≡ true → absolute folder text ≡ text
path_absolute folder text h = ap (λ b. cond b text (folder ++ slash ∷ text)) h

path_relative : (folder text : List ℕ) → begins (slash ∷ []) text ≡ false → absolute folder text ≡ folder ++ slash ∷ text
path_relative folder text h = ap (λ b. cond b text (folder ++ slash ∷ text)) h

pub cleaned_absolute : (folder text : List ℕ) → begins (slash ∷ []) text ≡ true → parts_path [] text ≡ clean_path folder text
cleaned_absolute folder text h = ap (λ t. path_of (fold with_element [] (elements t))) (sym (path_absolute folder text h))

pub cleaned_relative : (folder text : List ℕ) → begins (slash ∷ []) text ≡ false → parts_path folder text ≡ clean_path folder text
cleaned_relative folder text h =
    ap path_of (sym (steps-append [] (elements folder) (elements text)))
    ∙ ap (λ es. path_of (fold with_element [] es)) (sym (elements-append folder text))
    ∙ ap (λ t. path_of (fold with_element [] (elements t))) (sym (path_relative folder text h))

-- the error of the parts is that of the path
fault_of : (parts_nul nul : Bool) (parts path : List ℕ) → parts_nul ≡ nul → parts ≡ path →
    cond parts_nul (Some Nul) (cond (nat_lt longest_path (length parts)) (Some TooLong) None)
    ≡ cond nul (Some Nul) (cond (nat_lt longest_path (length path)) (Some TooLong) None)
fault_of parts_nul nul parts path e f = ap
    (λ b. cond b (Some Nul) (cond (nat_lt longest_path (length parts)) (Some TooLong) None)) e
    ∙ ap (λ p. cond nul (Some Nul) (cond (nat_lt longest_path (length p)) (Some TooLong) None)) f

not_empty : (folder text : List ℕ) → bytes_eq text [] ≡ false → cond (has_nul (absolute folder text)) (Some Nul)
    (cond (nat_lt longest_path (length (clean_path folder text))) (Some TooLong) None) ≡ clean_fault folder text
not_empty folder text h = sym (ap (λ b. cond b (Some Empty)
    (cond (has_nul (absolute folder text)) (Some Nul)
    (cond (nat_lt longest_path (length (clean_path folder text))) (Some TooLong) None))) h)

pub fault_absolute : (folder text : List ℕ) → bytes_eq text [] ≡ false → begins (slash ∷ []) text ≡ true →
    parts_fault [] text ≡ clean_fault folder text
fault_absolute folder text some h =
    fault_of (has_nul [] || has_nul text) (has_nul (absolute folder text)) (parts_path [] text) (clean_path folder text)
    (ap has_nul (sym (path_absolute folder text h))) (cleaned_absolute folder text h)
    ∙ not_empty folder text some

pub fault_relative : (folder text : List ℕ) → bytes_eq text [] ≡ false → begins (slash ∷ []) text ≡ false →
    parts_fault folder text ≡ clean_fault folder text
fault_relative folder text some h =
    fault_of (has_nul folder || has_nul text) (has_nul (absolute folder text)) (parts_path folder text) (clean_path folder text)
    (sym (ap has_nul (path_relative folder text h) ∙ list_any-append (λ b. eqb b 0) folder (slash ∷ text))) (cleaned_relative folder text h)
    ∙ not_empty folder text some

pub some_text : (text : List ℕ) → length text ≢ 0 → bytes_eq text [] ≡ false
some_text [] h = absurd (h refl)
some_text (b ∷ text) h = refl
