-- The stages of a request.
use Rattle.std.proofs.Common.{◌≡◌, ℕ, Bool, true, List, sym, ap, ◌∙◌}
use Rattle.std.specs.Prelude.{if◌then◌else◌, Option, Some, None, Ok, Err}
use Rattle.cs_syntax.specs.Matching.{Tree}
use Rattle.cs_command.specs.LetterCase.{case_of}
use Rattle.cs_command.specs.declared.letter_case.LetterCase.{LetterCase}
use Rattle.cs_command.specs.declared.settings.Limits.{Limits}
use Rattle.cs_command.specs.declared.settings.Switches.{Switches}
use Rattle.cs_command.specs.declared.words.WordItem.{WordItem}
use Rattle.cs_command.specs.Choices.{choices_of, may_update}
use Rattle.cs_command.specs.Patterns.{pattern_in}
use Rattle.cs_command.specs.Requests.{RequestView, asked_pattern, request_by}
use Rattle.cs_command.specs.Texts.{TextsView, needs_pattern, texts_of}
use Rattle.cs_command.specs.Values.{and_then, number_in, colour_in, limits_in}
use Rattle.cs_command.specs.declared.fault.RequestFault.{RequestFault}
use Rattle.cs_command.specs.declared.options.Options.{Options}
use Rattle.cs_command.proofs.StageLemmas.{and_then_ok, and_then_err}

pub asked : (words : List (List ℕ)) (switches : Switches) (case : LetterCase) (texts : TextsView) (needs : Bool) → needs ≡ true
    → needs ≡ needs_pattern switches.task
    → asked_pattern words switches case texts ≡ and_then (pattern_in words switches.pattern case texts.patterns) (λ t. Ok (Some t))
asked words switches case texts needs wanted is =
    ap (λ (b : Bool). if b then and_then (pattern_in words switches.pattern case texts.patterns) (λ t. Ok (Some t)) else Ok None) (sym is ∙ wanted)

module _ (words : List (List ℕ)) (items : List WordItem) (options : Options) where
  pub bad_limits : (fault : RequestFault) → limits_in words options.values ≡ Err fault → request_by words items options ≡ Err fault
  bad_limits fault a = and_then_err _ _ fault a

  module _ (limits : Limits) (a : limits_in words options.values ≡ Ok limits) where
    pub bad_colour : (fault : RequestFault) → colour_in words options.values.colour ≡ Err fault → request_by words items options ≡ Err fault
    bad_colour fault b = and_then_ok _ _ limits a ∙ and_then_err _ _ fault b

    module _ (colour : Option Bool) (b : colour_in words options.values.colour ≡ Ok colour) where
      pub bad_depth : (fault : RequestFault) → number_in words options.values.depth ≡ Err fault → request_by words items options ≡ Err fault
      bad_depth fault d = and_then_ok _ _ limits a ∙ and_then_ok _ _ colour b ∙ and_then_err _ _ fault d

      module _ (depth : Option ℕ) (d : number_in words options.values.depth ≡ Ok depth) (texts : TextsView)
          (ts : texts ≡ texts_of options.switches.task items) (case : LetterCase) (cs : case ≡ case_of items) where
        same : asked_pattern words options.switches (case_of items) (texts_of options.switches.task items)
            ≡ asked_pattern words options.switches case texts
        same =
            ap (asked_pattern words options.switches (case_of items)) (sym ts)
            ∙ ap (λ k. asked_pattern words options.switches k texts) (sym cs)

        pub bad_pattern : (fault : RequestFault) → asked_pattern words options.switches case texts ≡ Err fault
            → request_by words items options ≡ Err fault
        bad_pattern fault e =
            and_then_ok _ _ limits a ∙ and_then_ok _ _ colour b ∙ and_then_ok _ _ depth d ∙ and_then_err _ _ fault (same ∙ e)

        abbrev pub view_by : Bool → TextsView → Option Tree → RequestView
        view_by updates texts pattern = record {
          switches = options.switches;
          limits = limits;
          colour = colour;
          choices = choices_of words options.switches.files depth items;
          updates = updates;
          paths = texts.paths;
          pattern = pattern;
        }

        pub requested : (updates : Bool) → updates ≡ may_update options.switches items → (pattern : Option Tree)
            → asked_pattern words options.switches case texts ≡ Ok pattern → request_by words items options ≡ Ok (view_by updates texts pattern)
        requested updates us pattern e =
            and_then_ok _ _ limits a ∙ and_then_ok _ _ colour b ∙ and_then_ok _ _ depth d ∙ and_then_ok _ _ pattern (same ∙ e)
            ∙ ap (λ (t : TextsView). Ok (view_by (may_update options.switches items) t pattern)) (sym ts)
            ∙ ap (λ (u : Bool). Ok (view_by u texts pattern)) (sym us)
