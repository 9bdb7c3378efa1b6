-- The files by which a repository names its folder, and the nearest repository.
use Rattle.std.specs.Prelude.{Option, Some, None, bytes_eq}
use Rattle.std.specs.Str.{is_utf8, IsUtf8}
use Rattle.std.proofs.Common.{◌≡◌, refl, ℕ, Bool, true, false, not, ◌&&◌, cond, List, [], ◌∷◌, ◌++◌, length, take, drop, reverse, eqb, ne_eqb, arith, sym, ap, subst, ◌∙◌}
use Rattle.std.proofs.lemmas.Str.{is_utf8-from_IsUtf8, IsUtf8-from_is_utf8}
use Rattle.std.proofs.lemmas.List.{reverse-append}
use Rattle.cs_tree.specs.Snapshot.{Snapshot, item_at}
use Rattle.cs_tree.specs.Clean.{with_slashes}
use Rattle.cs_listing.specs.Rules.{or_else}
use Rattle.cs_listing.specs.FolderReads.{InTree}
use Rattle.cs_listing.specs.GitFolders.{first_line, path_in, path_after, repository_begun, repository_above}

-- ---- the line after a beginning

is_empty_text : (line : List ℕ) → bytes_eq line [] ≡ eqb (length line) 0
is_empty_text [] = refl
is_empty_text (b ∷ line) = sym (ne_eqb (length (b ∷ line)) 0 (omega arith))

is_no_text : (line : List ℕ) (b : Bool) → is_utf8 line ≡ b → ¬ (IsUtf8 line) → is_utf8 line ≡ false
is_no_text line true e broken = absurd (broken (IsUtf8-from_is_utf8 line e))
is_no_text line false e broken = e

module _ (beginning text rest line : List ℕ) (begins : bytes_eq (take (length beginning) text) beginning ≡ true)
    (after : rest ≡ drop (length beginning) text) (first : line ≡ first_line rest) where
  is_line : path_after beginning text ≡ path_in line
  is_line =
      ap (λ b. cond b (path_in (first_line (drop (length beginning) text))) None) begins
      ∙ ap path_in (sym (first ∙ ap first_line after))

  pub empty_line : eqb (length line) 0 ≡ true → None ≡ path_after beginning text
  empty_line empty = sym (is_line ∙ ap (λ b. cond (not b && is_utf8 line) (Some line) None) (is_empty_text line ∙ empty))

  pub no_text : ¬ (IsUtf8 line) → None ≡ path_after beginning text
  no_text broken = sym (is_line
      ∙ ap (λ b. cond (not (bytes_eq line []) && b) (Some line) None) (is_no_text line (is_utf8 line) refl broken)
      ∙ no_more (not (bytes_eq line [])))
    where
      no_more : (b : Bool) → cond (b && false) (Some line) None ≡ None
      no_more true = refl
      no_more false = refl

  pub is_path : (path : List ℕ) → path ≡ line → IsUtf8 line → eqb (length line) 0 ≡ false → Some path ≡ path_after beginning text
  is_path path same utf8 some =
      ap (λ p. Some p) same
      ∙ sym (is_line
      ∙ ap (λ b. cond (not (bytes_eq line []) && b) (Some line) None) (is_utf8-from_IsUtf8 line utf8)
      ∙ ap (λ b. cond (not b && true) (Some line) None) (is_empty_text line ∙ some))

-- ---- the nearest repository

pub nearest_more : (s now : Option Snapshot) (names : List (List ℕ)) (name stem : List ℕ) (found before later : Option (List ℕ × List ℕ)) →
    now ≡ s → stem ≡ with_slashes (name ∷ reverse names) → later ≡ or_else found before →
    InTree now (λ items. found ≡ repository_begun items stem) → InTree s (λ items. before ≡ repository_above items (reverse names)) →
    InTree s (λ items. later ≡ repository_above items (reverse (names ++ name ∷ [])))
nearest_more s now names name stem found before later same at is one so_far =
    by_model s (subst (λ o. InTree o (λ items. found ≡ repository_begun items stem)) same one) so_far
  where
    by_model : (o : Option Snapshot) → InTree o (λ items. found ≡ repository_begun items stem) →
        InTree o (λ items. before ≡ repository_above items (reverse names)) →
        InTree o (λ items. later ≡ repository_above items (reverse (names ++ name ∷ [])))
    by_model None one so_far = tt
    by_model (Some tree) one so_far =
        let items = item_at tree in
        is
        ∙ ap (λ f. or_else f before) (one ∙ ap (repository_begun items) at)
        ∙ ap (or_else (repository_begun items (with_slashes (name ∷ reverse names)))) so_far
        ∙ sym (ap (repository_above items) (reverse-append names (name ∷ [])))
