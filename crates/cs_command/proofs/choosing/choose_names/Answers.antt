use Rattle.std.proofs.Common.{List, map, sym, subst}
use Rattle.std.specs.Prelude.{string_bytes}
use Rattle.std.specs.List.{filter_map}
use Rattle.std.proofs.lemmas.Result.{err_from_is_err_and}
use Rattle.cs_listing.specs.Models.{chosen_in}
use Rattle.cs_command.specs.declared.words.WordItem.{WordItem}
use Rattle.cs_command.specs.Choices.{ChoosesAll, choice_in, IsChoiceIn}
use Rattle.cs_command.proofs.ChoiceLemmas.{no_choice, next_choice, type_in_first, type_in_more}
use Rattle.cs_command.proofs.choosing.choose_names.Goals as goal

pub returns-in_err-choose_by-clause-fault : goal.returns-in_err-choose_by-clause-fault
returns-in_err-choose_by-clause-fault c =
    let p = err_from_is_err_and c.from_residual.result c.from_residual.ensures.1 in
    let fault = c.in_err-choose_by.field-0.0 in
    let P : List WordItem → Type 0 = λ items. IsChoiceIn items fault in
    rw (p.1, p.2) (λ known. c.items.invariant.typed fault (subst P (sym c.in-Some.ensures.cases.0)
    (type_in_first c.in-Some.item.now c.in-Some.behind.now fault (c.in_err-choose_by.ensures.fault known))))

pub items-preserved : goal.items-preserved
items-preserved c =
    let of_item = choice_in (map string_bytes c.args.words.now) in
    let cases = c.in-Some.ensures.cases in
    record {
      chosen = λ new h.
          let P : List WordItem → Type 0 = λ items. ChoosesAll (filter_map of_item items) (chosen_in c.items.choices) new in
          c.items.invariant.chosen new (subst P (sym cases.0)
          (next_choice (of_item c.in-Some.item.now) (filter_map of_item c.in-Some.behind.now) (chosen_in c.items.choices)
          (chosen_in c.choose_by.new.choices) new c.in_ok-choose_by.ensures.chosen h));
      typed = λ fault h.
          let P : List WordItem → Type 0 = λ items. IsChoiceIn items fault in
          c.items.invariant.typed fault (subst P (sym cases.0) (type_in_more c.in-Some.item.now c.in-Some.behind.now fault h));
    }

pub returns-clause-all : goal.returns-clause-all
returns-clause-all c =
    c.items.invariant.chosen (chosen_in c.items.choices)
    (no_choice (choice_in (map string_bytes c.args.words.now)) c.items.rest.now (chosen_in c.items.choices) c.in_default.ensures.cases)
