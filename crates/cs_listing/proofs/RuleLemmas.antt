-- What the last rule says.
use Rattle.std.proofs.Common.{◌≡◌, refl, ℕ, Bool, false, cond, List, [], ◌∷◌, ◌++◌, map, length, eqb, sym, ap, ◌∙◌, subst, ◌+◌, arith, append_assoc}
use denote.Ref.{Bor}
use Rattle.std.specs.Prelude.{Option, Some, None, nat_lt, filter_map}
use Rattle.std.specs.Path.{slash}
use Rattle.std.specs.List.{IsLastAndRest, cons_option}
use Rattle.std.proofs.lemmas.List.{map-append, append-nil}
use Rattle.std.proofs.lemmas.List.Elements.{filter_map-append}
use Rattle.cs_listing.specs.Rules.{Rule, applies, decide, or_else}
use Rattle.cs_listing.specs.Models.{rule_of, glob_of, names}
use Rattle.cs_listing.specs.Globs.{Element}
use Rattle.cs_listing.specs.GlobText.{glob_in}
use Rattle.cs_listing.specs.MatchWork.{path_work, rules_work}
use Rattle.cs_listing.specs.Classes.{ends_with_byte}
use Rattle.cs_listing.specs.RuleFiles.{without_last, rule_with, rule_saying, rule_of_line}
use Rattle.cs_listing.specs.Reading.{AddsRule}
use Rattle.cs_listing.specs.declared.rules.Decision.{Decision}
use Rattle.cs_listing.specs.declared.rules.Rule.{Rule as OwnRule}
use Rattle.cs_listing.proofs.LineLemmas.{shorter}

pub or_else_then : {A : Type 0} (a b c : Option A) → or_else (or_else a b) c ≡ or_else a (or_else b c)
or_else_then None b c = refl
or_else_then (Some x) b c = refl

pub or_else_none : {A : Type 0} (a : Option A) → or_else a None ≡ a
or_else_none None = refl
or_else_none (Some x) = refl

abbrev says : Rule → List (List ℕ) → Bool → Option Decision
says rule path is_folder = cond (applies rule path is_folder) (Some rule.decision) None

decide_append : (rules : List Rule) (rule : Rule) (path : List (List ℕ)) (is_folder : Bool) →
    decide (rules ++ rule ∷ []) path is_folder ≡ or_else (says rule path is_folder) (decide rules path is_folder)
decide_append [] rule path is_folder = sym (or_else_none (says rule path is_folder))
decide_append (first ∷ rules) rule path is_folder =
    ap (λ o. or_else o (says first path is_folder)) (decide_append rules rule path is_folder)
    ∙ or_else_then (says rule path is_folder) (decide rules path is_folder) (says first path is_folder)

-- the last rule decides if it applies, and else those before it
pub decide_last : (rules rest : List OwnRule) (rule : OwnRule) (path : List (List ℕ)) (is_folder : Bool) → IsLastAndRest rules rule rest →
    decide (map rule_of rules) path is_folder ≡ or_else (says (rule_of rule) path is_folder) (decide (map rule_of rest) path is_folder)
decide_last rules rest rule path is_folder last =
    ap (λ rs. decide (map rule_of rs) path is_folder) last.0
    ∙ ap (λ rs. decide rs path is_folder) (map-append rule_of rest (rule ∷ []))
    ∙ decide_append (map rule_of rest) (rule_of rule) path is_folder

-- ---- the work of the rules

work_append : (rules : List Rule) (rule : Rule) (path : List (List ℕ)) →
    rules_work (rules ++ rule ∷ []) path ≡ rules_work rules path + path_work rule.glob path
work_append [] rule path = omega arith
work_append (first ∷ rules) rule path = omega (arith, work_append rules rule path)

pub work_last : (rules rest : List OwnRule) (rule : OwnRule) (path : List (List ℕ)) → IsLastAndRest rules rule rest →
    rules_work (map rule_of rules) path ≡ rules_work (map rule_of rest) path + path_work (rule_of rule).glob path
work_last rules rest rule path last =
    ap (λ rs. rules_work (map rule_of rs) path) last.0
    ∙ ap (λ rs. rules_work rs path) (map-append rule_of rest (rule ∷ []))
    ∙ work_append (map rule_of rest) (rule_of rule) path

-- ---- the rules of lines

abbrev pub rule_made : Decision → Bool → List Element → Rule
rule_made decision only_folders glob = record { decision = decision; only_folders = only_folders; glob = glob }

some_text : (decision : Decision) (only_folders : Bool) (text : List ℕ) → eqb (length text) 0 ≡ false →
    rule_with decision only_folders text ≡ Some (rule_made decision only_folders (glob_in text))
some_text decision only_folders [] some = cc
some_text decision only_folders (b ∷ text) some = refl

-- the rule of a text is added
pub rule_added : (text glob_text : List ℕ) (before after : List OwnRule) (rule : OwnRule) → glob_text ≡ without_last slash text →
    eqb (length glob_text) 0 ≡ false → rule.only_folders ≡ nat_lt (length glob_text) (length text) →
    glob_of rule.glob.items ≡ glob_in glob_text → after ≡ before ++ rule ∷ [] → AddsRule (rule_saying rule.decision text) before after
rule_added text glob_text before after rule e some folders glob pushed =
    let made = some_text rule.decision (ends_with_byte slash text) (without_last slash text) (sym (ap (λ t. eqb (length t) 0) e) ∙ some)
    ∙ ap (λ o. Some (rule_made rule.decision o (glob_in (without_last slash text))))
    (sym (folders ∙ ap (λ t. nat_lt (length t) (length text)) e ∙ shorter slash text))
    ∙ ap (λ g. Some (rule_made rule.decision rule.only_folders g)) (sym (glob ∙ ap glob_in e)) in
    subst (λ o. AddsRule o before after) (sym made) (ap (map rule_of) pushed ∙ map-append rule_of before (rule ∷ []))

adds : (o : Option Rule) (before after : List OwnRule) → AddsRule o before after → map rule_of after ≡ map rule_of before ++ cons_option o []
adds None before after h = ap (map rule_of) h ∙ sym (append-nil (map rule_of before))
adds (Some rule) before after h = h

-- one more text
pub text_more : (decision : Decision) (first before after : List OwnRule) (texts : List (List ℕ)) (text : List ℕ) →
    map rule_of before ≡ map rule_of first ++ filter_map (rule_saying decision) texts →
    AddsRule (rule_saying decision text) before after →
    map rule_of after ≡ map rule_of first ++ filter_map (rule_saying decision) (texts ++ text ∷ [])
text_more decision first before after texts text so_far one =
    adds (rule_saying decision text) before after one ∙ ap (λ rs. rs ++ cons_option (rule_saying decision text) []) so_far
    ∙ append_assoc (map rule_of first) (filter_map (rule_saying decision) texts) (cons_option (rule_saying decision text) [])
    ∙ ap (λ rs. map rule_of first ++ rs) (sym (filter_map-append (rule_saying decision) texts (text ∷ [])))

-- the same between spaces
pub saying_more : (decision : Decision) (first before after : List OwnRule) (texts : List (Bor (List ℕ))) (text : Bor (List ℕ)) →
    map rule_of before ≡ map rule_of first ++ filter_map (rule_saying decision) (names texts) →
    AddsRule (rule_saying decision text.now) before after →
    map rule_of after ≡ map rule_of first ++ filter_map (rule_saying decision) (names (texts ++ text ∷ []))
saying_more decision first before after texts text so_far one =
    text_more decision first before after (names texts) text.now so_far one
    ∙ ap (λ ts. map rule_of first ++ filter_map (rule_saying decision) ts)
    (sym (map-append (λ (name : Bor (List ℕ)). name.now) texts (text ∷ [])))

-- one more line
pub line_more : (before after : List OwnRule) (lines : List (Bor (List ℕ))) (line : Bor (List ℕ)) →
    map rule_of before ≡ filter_map rule_of_line (names lines) → AddsRule (rule_of_line line.now) before after →
    map rule_of after ≡ filter_map rule_of_line (names (lines ++ line ∷ []))
line_more before after lines line so_far added =
    adds (rule_of_line line.now) before after added ∙ ap (λ rs. rs ++ cons_option (rule_of_line line.now) []) so_far
    ∙ sym (ap (filter_map rule_of_line) (map-append (λ (name : Bor (List ℕ)). name.now) lines (line ∷ []))
    ∙ filter_map-append rule_of_line (names lines) (line.now ∷ []))
