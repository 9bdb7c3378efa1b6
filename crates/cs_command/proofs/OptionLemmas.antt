-- One more item of a list.
use Rattle.std.proofs.Common.{◌≡◌, List, [], ◌∷◌, length, refl, sym, ap, arith}
use Rattle.cs_command.specs.declared.words.WordItem.{WordItem}
use Rattle.cs_command.specs.Options.{with_item, options_after}
use Rattle.cs_command.specs.declared.options.Options.{Options}

pub no_item : (options : Options) (items : List WordItem) → length items ≡ 0 → options_after options items ≡ options
unfolding options_after
no_item options [] none = refl
no_item options (item ∷ items) none = absurd (omega (arith, none))

pub next_item : (options after : Options) (item : WordItem) (items : List WordItem) → after ≡ with_item options item
    → options_after options (item ∷ items) ≡ options_after after items
unfolding options_after
next_item options after item items is = ap (λ o. options_after o items) (sym is)
