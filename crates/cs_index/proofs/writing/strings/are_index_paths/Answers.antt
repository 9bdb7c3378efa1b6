use Rattle.std.proofs.Common.{◌≡◌, ◌∙◌, ap, sym, ◌&&◌, false, List, ℕ, map, string_bytes, inl, inr}
use Rattle.std.proofs.lemmas.Bool.{true≢false, cases_Bool}
use Rattle.std.proofs.lemmas.List.Folds.{list_all-map}
use Rattle.cs_tree.specs.Cover.{is_alone}
use Rattle.cs_tree.specs.NamesAscending.{are_ascending}
use Rattle.cs_index.specs.Built.{is_storable, are_reduced}
use Rattle.cs_index.proofs.names.ReducedPaths.{reduced_is, reduced_up}
use Rattle.cs_index.proofs.writing.strings.are_index_paths.Goals as goal

unordered : (ps : List (List ℕ)) → are_ascending ps ≡ false → false ≡ are_reduced ps
unordered ps down =
    elim (cases_Bool (are_reduced ps)) [
      | inl reduced ↦ absurd (true≢false (sym (reduced_up ps reduced) ∙ down))
      | inr not ↦ sym not
    ]

pub returns-then-not-are_texts : goal.returns-then-not-are_texts
returns-then-not-are_texts c =
    sym (ap (λ b. b && are_reduced (map string_bytes c.args.paths.now))
    (list_all-map is_storable string_bytes c.args.paths.now ∙ sym c.are_texts.ensures ∙ c.if-not-are_texts.true))

pub returns-then-not-ascend : goal.returns-then-not-ascend
returns-then-not-ascend c =
    unordered (map string_bytes c.args.paths.now) (sym c.ascend.ensures ∙ c.if-not-ascend.true)
    ∙ sym (ap (λ b. b && are_reduced (map string_bytes c.args.paths.now))
    (list_all-map is_storable string_bytes c.args.paths.now ∙ sym c.are_texts.ensures ∙ c.if-not-are_texts.false))

pub returns : goal.returns
returns c =
    c.none_covers_another.ensures
    ∙ sym (list_all-map (is_alone (map string_bytes c.args.paths.now)) string_bytes c.args.paths.now)
    ∙ reduced_is (map string_bytes c.args.paths.now) (sym c.ascend.ensures ∙ c.if-not-ascend.false)
    ∙ sym (ap (λ b. b && are_reduced (map string_bytes c.args.paths.now))
    (list_all-map is_storable string_bytes c.args.paths.now ∙ sym c.are_texts.ensures ∙ c.if-not-are_texts.false))
