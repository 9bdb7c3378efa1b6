-- What the deepest of some folders says, and where a repository begins.
use denote.Ref.{Bor}
use Rattle.std.proofs.Common.{◌≡◌, refl, ℕ, ◌+◌, Bool, true, false, List, [], ◌∷◌, ◌++◌, length, take, drop, get_or, append_assoc, ◌-◌, ◌<◌, sym, ap, ◌∙◌, arith}
use Rattle.std.specs.Prelude.{Option, Some, None, is_some}
use Rattle.std.specs.List.{IsLastAndRest}
use Rattle.std.proofs.lemmas.List.{drop-drop, drop-map, map-append, length-map, take_more, take_rest}
use Rattle.std.proofs.Math.Seq.{drop-append_seam}
use Rattle.cs_listing.specs.Rules.{Rule, decide, or_else}
use Rattle.cs_listing.specs.MatchWork.{rules_work}
use Rattle.cs_listing.specs.Models.{names, folder_of, folders_of, rules_in, rules_if}
use Rattle.cs_listing.specs.Layers.{FolderRules, rule_bytes, Repository, rules_at, deepest, begins_here, repository_of, last_name}
use Rattle.cs_listing.specs.LayersWork.{files_work}
use Rattle.cs_listing.specs.declared.rules.Decision.{Decision}
use Rattle.cs_listing.specs.declared.rules.Rules.{Rules}
use Rattle.cs_listing.specs.declared.layers.RuleFile.{RuleFile}
use Rattle.cs_listing.specs.declared.layers.FolderRules.{FolderRules as OwnFolder}
use Rattle.cs_listing.proofs.RuleLemmas.{or_else_then, or_else_none}

-- what the file of a folder says of a path
abbrev file_says : RuleFile → Bool → FolderRules → List (List ℕ) → Option Decision
file_says kind is_folder folder path = decide (rules_at kind folder) path is_folder

one_more : (first : FolderRules) (folders : List FolderRules) → 1 + length folders ≡ length (first ∷ folders)
one_more first folders = omega arith

-- what is left of a path below one more folder
drop_more : (first : FolderRules) (folders : List FolderRules) (path : List (List ℕ)) →
    drop (length folders) (drop 1 path) ≡ drop (length (first ∷ folders)) path
drop_more first folders path = drop-drop (length folders) 1 path
    ∙ ap (λ n. drop n path) (one_more first folders)

deepest_append : (kind : RuleFile) (is_folder : Bool) (folders : List FolderRules) (folder : FolderRules) (path : List (List ℕ)) →
    deepest kind is_folder (folders ++ folder ∷ []) path
    ≡ or_else (file_says kind is_folder folder (drop (length folders) path)) (deepest kind is_folder folders path)
deepest_append kind is_folder [] folder path = sym (or_else_none (file_says kind is_folder folder path))
deepest_append kind is_folder (first ∷ folders) folder path =
    ap (λ o. or_else o (file_says kind is_folder first path)) (deepest_append kind is_folder folders folder (drop 1 path))
    ∙ or_else_then (file_says kind is_folder folder (drop (length folders) (drop 1 path))) (deepest kind is_folder folders (drop 1 path))
    (file_says kind is_folder first path)
    ∙ ap (λ p. or_else (file_says kind is_folder folder p) (deepest kind is_folder (first ∷ folders) path))
    (drop_more first folders path)

-- what is left of a path below the folders above
below : (above : List OwnFolder) (path : List (Bor (List ℕ))) →
    drop (length (folders_of above)) (names path) ≡ names (drop (length above) path)
below above path = ap (λ n. drop n (names path)) (length-map above folder_of) ∙ drop-map (λ (name : Bor (List ℕ)). name.now) (length above) path

deepest_last : (kind : RuleFile) (is_folder : Bool) (folders above : List OwnFolder) (folder : OwnFolder) (path : List (Bor (List ℕ))) →
    IsLastAndRest folders folder above →
    deepest kind is_folder (folders_of folders) (names path)
    ≡ or_else (file_says kind is_folder (folder_of folder) (names (drop (length above) path)))
    (deepest kind is_folder (folders_of above) (names path))
deepest_last kind is_folder folders above folder path last =
    ap (λ fs. deepest kind is_folder (folders_of fs) (names path)) last.0
    ∙ ap (λ fs. deepest kind is_folder fs (names path)) (map-append folder_of above (folder ∷ []))
    ∙ deepest_append kind is_folder (folders_of above) (folder_of folder) (names path)
    ∙ ap (λ p. or_else (file_says kind is_folder (folder_of folder) p) (deepest kind is_folder (folders_of above) (names path))) (below above path)

or_else_some : {A : Type 0} (said other : Option A) → is_some said ≡ true → or_else said other ≡ said
or_else_some None other is = cc
or_else_some (Some x) other is = refl

or_else_no : {A : Type 0} (said other : Option A) → is_some said ≡ false → or_else said other ≡ other
or_else_no None other is = refl
or_else_no (Some x) other is = cc

-- the deepest folder says it, or those above do
pub deepest_says : (kind : RuleFile) (is_folder : Bool) (folders above : List OwnFolder) (folder : OwnFolder)
    (path : List (Bor (List ℕ))) (said : Option Decision) → IsLastAndRest folders folder above →
    said ≡ decide (rules_at kind (folder_of folder)) (names (drop (length above) path)) is_folder → is_some said ≡ true →
    deepest kind is_folder (folders_of folders) (names path) ≡ said
deepest_says kind is_folder folders above folder path said last e is =
    deepest_last kind is_folder folders above folder path last
    ∙ ap (λ o. or_else o (deepest kind is_folder (folders_of above) (names path))) (sym e)
    ∙ or_else_some said (deepest kind is_folder (folders_of above) (names path)) is

pub deepest_passes : (kind : RuleFile) (is_folder : Bool) (folders above : List OwnFolder) (folder : OwnFolder)
    (path : List (Bor (List ℕ))) (said : Option Decision) → IsLastAndRest folders folder above →
    said ≡ decide (rules_at kind (folder_of folder)) (names (drop (length above) path)) is_folder → is_some said ≡ false →
    deepest kind is_folder (folders_of folders) (names path) ≡ deepest kind is_folder (folders_of above) (names path)
deepest_passes kind is_folder folders above folder path said last e is =
    deepest_last kind is_folder folders above folder path last
    ∙ ap (λ o. or_else o (deepest kind is_folder (folders_of above) (names path))) (sym e)
    ∙ or_else_no said (deepest kind is_folder (folders_of above) (names path)) is

-- ---- work

files_append : (kind : RuleFile) (folders : List FolderRules) (folder : FolderRules) (path : List (List ℕ)) →
    files_work kind (folders ++ folder ∷ []) path
    ≡ files_work kind folders path + rules_work (rules_at kind folder) (drop (length folders) path)
files_append kind [] folder path = omega arith
files_append kind (first ∷ folders) folder path =
    let rest = files_append kind folders folder (drop 1 path) in
    let same = ap (λ p. rules_work (rules_at kind folder) p) (drop_more first folders path) in
    omega (arith, rest, same)

pub files_last : (kind : RuleFile) (folders above : List OwnFolder) (folder : OwnFolder) (path : List (Bor (List ℕ))) →
    IsLastAndRest folders folder above →
    files_work kind (folders_of folders) (names path)
    ≡ files_work kind (folders_of above) (names path) + rules_work (rules_at kind (folder_of folder)) (names (drop (length above) path))
files_last kind folders above folder path last =
    ap (λ fs. files_work kind (folders_of fs) (names path)) last.0
    ∙ ap (λ fs. files_work kind fs (names path)) (map-append folder_of above (folder ∷ []))
    ∙ files_append kind (folders_of above) (folder_of folder) (names path)
    ∙ ap (λ p. files_work kind (folders_of above) (names path) + rules_work (rules_at kind (folder_of folder)) p) (below above path)

-- ---- repositories

abbrev begins_with_rules : List Rule → List FolderRules → List (List ℕ) → Repository
begins_with_rules exclude folders path = record { exclude = exclude; folders = folders; path = path }

-- no repository begins in any of the folders
abbrev pub HasNone : List FolderRules → Type 0
HasNone folders = (path : List (List ℕ)) → repository_of folders path ≡ None

begins : (above lower : List FolderRules) (folder : FolderRules) (exclude : List Rule) (path : List (List ℕ)) →
    folder.exclude ≡ Some exclude → HasNone lower →
    repository_of (above ++ folder ∷ lower) path
    ≡ Some (begins_with_rules exclude (folder ∷ lower) (drop (length above) path))
begins [] lower folder exclude path some has =
    ap (λ o. or_else o (begins_here folder.exclude (folder ∷ lower) path)) (has (drop 1 path))
    ∙ ap (λ e. begins_here e (folder ∷ lower) path) some
begins (first ∷ above) lower folder exclude path some has =
    ap (λ o. or_else o (begins_here first.exclude (first ∷ (above ++ folder ∷ lower)) path))
    (begins above lower folder exclude (drop 1 path) some has)
    ∙ ap (λ p. Some (begins_with_rules exclude (folder ∷ lower) p)) (drop_more first above path)

-- the repository that begins at a folder, with none below it
pub begins_at : (above lower : List OwnFolder) (folder : OwnFolder) (exclude : List Rule) (path : List (Bor (List ℕ))) →
    (folder_of folder).exclude ≡ Some exclude → HasNone (folders_of lower) →
    repository_of (folders_of (above ++ folder ∷ lower)) (names path)
    ≡ Some (begins_with_rules exclude (folders_of (folder ∷ lower)) (names (drop (length above) path)))
begins_at above lower folder exclude path some has =
    ap (λ fs. repository_of fs (names path)) (map-append folder_of above (folder ∷ lower))
    ∙ begins (folders_of above) (folders_of lower) (folder_of folder) exclude (names path) some has
    ∙ ap (λ p. Some (begins_with_rules exclude (folders_of (folder ∷ lower)) p)) (below above path)

-- the code's own words for it
pub repository_found : (all upper above lower : List OwnFolder) (folder : OwnFolder) (exclude : Rules) (path : List (Bor (List ℕ))) →
    IsLastAndRest upper folder above → all ≡ upper ++ lower → HasNone (folders_of lower) → folder.exclude ≡ Some exclude →
    repository_of (folders_of all) (names path)
    ≡ Some (begins_with_rules (rules_in exclude) (folders_of (take (length all - length above) (drop (length above) all)))
    (names (take (length path - length above) (drop (length above) path))))
repository_found all upper above lower folder exclude path last split has some =
    let whole = split ∙ ap (λ fs. fs ++ lower) last.0 ∙ append_assoc above (folder ∷ []) lower in
    let rest = take_rest all (length above) ∙ ap (drop (length above)) whole ∙ drop-append_seam above (folder ∷ lower) in
    ap (λ fs. repository_of (folders_of fs) (names path)) whole
    ∙ begins_at above lower folder (rules_in exclude) path (ap rules_if some) has
    ∙ ap (λ fs. Some (begins_with_rules (rules_in exclude) (folders_of fs) (names (drop (length above) path)))) (sym rest)
    ∙ ap (λ p. Some (begins_with_rules (rules_in exclude) (folders_of (take (length all - length above) (drop (length above) all))) (names p)))
    (sym (take_rest path (length above)))

-- ---- names

pub last_of : (path : List (List ℕ)) (name : List ℕ) → last_name (path ++ name ∷ []) ≡ name
last_of [] name = refl
last_of (first ∷ []) name = refl
last_of (first ∷ second ∷ path) name = last_of (second ∷ path) name

-- ---- the bytes of rule files

pub rule_bytes_more : (folders : List FolderRules) (last : FolderRules) → rule_bytes (folders ++ last ∷ []) ≡ rule_bytes folders + last.bytes
rule_bytes_more [] last = omega arith
rule_bytes_more (folder ∷ folders) last = omega (arith, rule_bytes_more folders last)

pub folders_more : (folders : List OwnFolder) (i : ℕ) (folder : OwnFolder) → i < length folders → folder ≡ get_or folders i folder →
    folders_of (take (i + 1) folders) ≡ folders_of (take i folders) ++ folder_of folder ∷ []
folders_more folders i folder low is =
    ap folders_of (take_more folders i folder low ∙ ap (λ y. take i folders ++ y ∷ []) (sym is)) ∙ map-append folder_of (take i folders) (folder ∷ [])
