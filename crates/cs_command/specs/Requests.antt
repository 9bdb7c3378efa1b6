-- What words ask for: first the options, then their values, and then the patterns.
use Rattle.std.specs.Prelude.{ℕ, ◌≡◌, ◌≢◌, ◌⊎◌, Bool, if◌then◌else◌, List, Option, Some, None, Result, Ok, Err}
use Rattle.cs_syntax.specs.Matching.{Tree}
use Rattle.cs_listing.specs.Choices.{Settings}
use Rattle.cs_listing.specs.Models.{chosen_in}
use Rattle.cs_command.specs.LetterCase.{case_of}
use Rattle.cs_command.specs.Words.{items_of}
use Rattle.cs_command.specs.declared.letter_case.LetterCase.{LetterCase}
use Rattle.cs_command.specs.declared.settings.Limits.{Limits}
use Rattle.cs_command.specs.declared.settings.Switches.{Switches}
use Rattle.cs_command.specs.declared.words.WordItem.{WordItem}
use Rattle.cs_command.specs.Choices.{Choice, choices_of, ChoosesAll, IsChoiceIn, may_update}
use Rattle.cs_command.specs.Options.{options_of}
use Rattle.cs_command.specs.Patterns.{pattern_in}
use Rattle.cs_command.specs.Texts.{TextsView, needs_pattern, texts_of}
use Rattle.cs_command.specs.Values.{and_then, number_in, colour_in, limits_in}
use Rattle.cs_command.specs.declared.fault.RequestFault.{RequestFault}
use Rattle.cs_command.specs.declared.fault.RequestFault.TheVariants.{Item as BadItem, Memory}
use Rattle.cs_command.specs.declared.options.Options.{Options}
use Rattle.cs_command.specs.declared.request.Request.{Request}

pub record RequestView : Type 0 where
  pub switches : Switches
  pub limits : Limits
  -- whether there are colours; none if the terminal decides
  pub colour : Option Bool
  pub choices : List Choice
  -- whether the state of the project may be updated
  pub updates : Bool
  -- the words that are paths
  pub paths : List ℕ
  -- what is searched for, if lines are searched
  pub pattern : Option Tree

-- what is searched for
abbrev pub asked_pattern : List (List ℕ) → Switches → LetterCase → TextsView → Result (Option Tree) RequestFault
asked_pattern words switches case texts =
    if needs_pattern switches.task
    then and_then (pattern_in words switches.pattern case texts.patterns) (λ t. Ok (Some t))
    else Ok None

-- the values of the options, and then the patterns
abbrev pub request_by : List (List ℕ) → List WordItem → Options → Result RequestView RequestFault
request_by words items options =
    let switches = options.switches in
    let texts = texts_of switches.task items in
    and_then (limits_in words options.values) (λ limits.
    and_then (colour_in words options.values.colour) (λ colour.
    and_then (number_in words options.values.depth) (λ depth.
    and_then (asked_pattern words switches (case_of items) texts) (λ pattern.
    Ok (record {
      switches = switches;
      limits = limits;
      colour = colour;
      choices = choices_of words switches.files depth items;
      updates = may_update switches items;
      paths = texts.paths;
      pattern = pattern;
    })))))

abbrev pub request_of : List (List ℕ) → Result RequestView RequestFault
request_of words = elim (items_of words) [ Ok items ↦ request_by words items (options_of items) | Err fault ↦ Err (BadItem fault) ]

-- a request, beside the choices that make its own
abbrev pub view_of : List Choice → Request → RequestView
view_of choices request = record {
  switches = request.switches;
  limits = request.limits;
  colour = request.colour;
  choices = choices;
  updates = request.updates;
  paths = request.paths.items;
  pattern = request.pattern;
}

-- a request that is wanted: its choices are made from those without options
abbrev pub IsRequestBy : Result RequestView RequestFault → Settings → Request → Type 0
IsRequestBy wanted base request =
    (choices : List Choice) × (wanted ≡ Ok (view_of choices request)) × ChoosesAll choices base (chosen_in request.choices)

-- an error that is wanted, or a type that is not there; which types there are is not said
abbrev pub IsFaultBy : Result RequestView RequestFault → List WordItem → RequestFault → Type 0
IsFaultBy wanted items fault = fault ≢ Memory → (wanted ≡ Err fault) ⊎ IsChoiceIn items fault

-- the request of words
abbrev pub IsRequest : List (List ℕ) → Settings → Request → Type 0
IsRequest words base request = IsRequestBy (request_of words) base request

-- the error of words
abbrev pub IsRequestFault : List (List ℕ) → RequestFault → Type 0
IsRequestFault words fault =
    fault ≢ Memory → (request_of words ≡ Err fault) ⊎ ((items : List WordItem) × (items_of words ≡ Ok items) × IsChoiceIn items fault)
