-- Rules with a mark that the last name of a path lacks do not apply to it.
use lib.Arith.{bin_ind}
use lib.Bits.{or_step, or_self, or_zero_r}
use Rattle.std.proofs.Common.{◌≡◌, ◌≢◌, refl, ℕ, ◌+◌, ◌/◌, ◌≤◌, ◌<◌, Bool, true, false, cond, List, [], ◌∷◌, ◌++◌, map, length, get_or, take, sym, ap, ◌∙◌, subst, ◌⊎◌, inl, inr, arith, bit_or}
use Rattle.std.specs.Prelude.{Option, Some, None}
use Rattle.std.proofs.lemmas.Nat.{or_comm, or_shr}
use Rattle.std.proofs.lemmas.Bool.{eqb-true, and_parts, false≢true, false_from_ne_true}
use Rattle.std.proofs.lemmas.List.{length-append, take_more, get_or-map}
use Rattle.std.specs.List.{IsLastAndRest}
use Rattle.cs_listing.specs.Globs.{matches_name, matches_path}
use Rattle.cs_listing.specs.Models.{tokens_of, glob_of, rule_of}
use Rattle.cs_listing.specs.Rules.{applies, decide, or_else}
use Rattle.cs_listing.specs.MatchWork.{path_work, rules_work}
use Rattle.cs_listing.specs.declared.rules.Decision.{Decision}
use Rattle.cs_listing.specs.Layers.{last_name}
use Rattle.cs_listing.specs.Marks.{of_first, of_last, with_all, has_mark, first_mark, last_mark, name_marks, token_mark, tokens_marks, element_marks, glob_marks, rule_marks}
use Rattle.cs_listing.specs.declared.glob.Token.{Token}
use Rattle.cs_listing.specs.declared.glob.Token.TheVariants.{Byte, Any, Class, Star}
use Rattle.cs_listing.specs.declared.glob.Element.{Element}
use Rattle.cs_listing.specs.declared.glob.Element.TheVariants.{Folders, One}
use Rattle.cs_listing.specs.declared.rules.Rule.{Rule}
use Rattle.cs_listing.proofs.RuleLemmas.{decide_last, work_last}
use Rattle.cs_listing.proofs.NameLemmas.{or_cases, and_right}

pub last_is : {A : Type 0} (number : A → ℕ) (xs : List A) (x : A) → of_last number (xs ++ x ∷ []) ≡ number x
last_is number [] x = refl
last_is number (y ∷ []) x = refl
last_is number (y ∷ z ∷ xs) x = last_is number (z ∷ xs) x

-- ---- parts of a number's bits

or_assoc : (c a b : ℕ) → bit_or (bit_or a b) c ≡ bit_or a (bit_or b c)
or_assoc =
    bin_ind (λ (c : ℕ). (a b : ℕ) → bit_or (bit_or a b) c ≡ bit_or a (bit_or b c)) (λ a b. or_zero_r (bit_or a b) ∙ sym (ap (bit_or a) (or_zero_r b)))
    (λ c ih a b.
    let p : bit_or (bit_or a b / 2) (c / 2) ≡ bit_or (a / 2) (bit_or b c / 2) =
    ap (λ x. bit_or x (c / 2)) (or_shr a b 1) ∙ ih (a / 2) (b / 2) ∙ sym (ap (bit_or (a / 2)) (or_shr b c 1)) in
    omega (arith, or_step (bit_or a b) c, or_step a (bit_or b c), or_step a b, or_step b c, p))

-- each bit of the first is one of the second
abbrev pub IsPart : ℕ → ℕ → Type 0
IsPart some all = bit_or all some ≡ all

none_part : (all : ℕ) → IsPart 0 all
none_part all = or_zero_r all

both_part : (a b all : ℕ) → IsPart a all → IsPart b all → IsPart (bit_or a b) all
both_part a b all first second = sym (or_assoc b all a) ∙ ap (λ x. bit_or x b) first ∙ second

part_of_more : (some all more : ℕ) → IsPart some all → IsPart some (bit_or all more)
part_of_more some all more is =
    or_assoc some all more ∙ ap (bit_or all) (or_comm more some) ∙ sym (or_assoc more all some) ∙ ap (λ x. bit_or x more) is

last_part : (all some : ℕ) → IsPart some (bit_or all some)
last_part all some = or_assoc some all some ∙ ap (bit_or all) (or_self some)

-- ---- the bits of a list

part_of_all : {A : Type 0} (number : A → ℕ) (some all : ℕ) (xs : List A) → IsPart some all → IsPart some (with_all number all xs)
part_of_all number some all [] is = is
part_of_all number some all (x ∷ xs) is =
    part_of_all number some (bit_or all (number x)) xs (part_of_more some all (number x) is)

-- those of each one are part of a number
abbrev AreParts : {A : Type 0} → (A → ℕ) → List A → ℕ → Type 0
AreParts number [] all = Unit {0}
AreParts number (x ∷ xs) all = IsPart (number x) all × AreParts number xs all

each_part : {A : Type 0} (number : A → ℕ) (all : ℕ) (xs : List A) → AreParts number xs (with_all number all xs)
each_part number all [] = tt
each_part number all (x ∷ xs) = (
  part_of_all number (number x) (bit_or all (number x)) xs (last_part all (number x)),
  each_part number (bit_or all (number x)) xs,
)

all_part : {A : Type 0} (number : A → ℕ) (some : ℕ) (xs : List A) (all : ℕ) → IsPart some all → AreParts number xs all →
    IsPart (with_all number some xs) all
all_part number some [] all is are = is
all_part number some (x ∷ xs) all is are =
    all_part number (bit_or some (number x)) xs all (both_part some (number x) all is are.0) are.1

-- ---- tokens

tokens_have : (tokens : List Token) (name : List ℕ) (all : ℕ) → matches_name (tokens_of tokens) name ≡ true → AreParts has_mark name all →
    AreParts (token_mark has_mark) tokens all
tokens_have [] name all is are = tt
tokens_have (Byte b ∷ tokens) [] all is are = cc
tokens_have (Byte b ∷ tokens) (c ∷ name) all is are =
    let parts = and_parts _ _ is in
    (subst (λ x. IsPart (has_mark x) all) (sym (eqb-true b c parts.0)) are.0, tokens_have tokens name all parts.1 are.1)
tokens_have (Any ∷ tokens) [] all is are = cc
tokens_have (Any ∷ tokens) (c ∷ name) all is are = (none_part all, tokens_have tokens name all is are.1)
tokens_have (Class negated ranges ∷ tokens) [] all is are = cc
tokens_have (Class negated ranges ∷ tokens) (c ∷ name) all is are =
    (none_part all, tokens_have tokens name all (and_right _ _ is) are.1)
tokens_have (Star ∷ tokens) [] all is are = (none_part all, tokens_have tokens [] all is are)
tokens_have (Star ∷ tokens) (c ∷ name) all is are =
    or_cases _ _ is (λ now. (none_part all, tokens_have tokens (c ∷ name) all now are))
    (λ more. tokens_have (Star ∷ tokens) name all more are.1)

-- the mark is none or that of the name
abbrev IsMarkOf : ℕ → ℕ → Type 0
IsMarkOf own named = (own ≡ 0) ⊎ (own ≡ named)

mark_part : (own named all : ℕ) → IsMarkOf own named → IsPart named all → IsPart own all
mark_part own named all (inl none) is = subst (λ m. IsPart m all) (sym none) (none_part all)
mark_part own named all (inr same) is = subst (λ m. IsPart m all) (sym same) is

begins_alike : (tokens : List Token) (name : List ℕ) → matches_name (tokens_of tokens) name ≡ true →
    IsMarkOf (of_first (token_mark first_mark) tokens) (of_first first_mark name)
begins_alike [] name is = inl refl
begins_alike (Byte b ∷ tokens) [] is = cc
begins_alike (Byte b ∷ tokens) (c ∷ name) is = inr (ap first_mark (eqb-true b c (and_parts _ _ is).0))
begins_alike (Any ∷ tokens) name is = inl refl
begins_alike (Class negated ranges ∷ tokens) name is = inl refl
begins_alike (Star ∷ tokens) name is = inl refl

ends_later : (own c : ℕ) (name : List ℕ) → IsMarkOf own (of_last last_mark name) → IsMarkOf own (of_last last_mark (c ∷ name))
ends_later own c [] (inl e) = inl e
ends_later own c [] (inr e) = inl e
ends_later own c (next ∷ name) ends = ends

ends_alike : (tokens : List Token) (name : List ℕ) → matches_name (tokens_of tokens) name ≡ true →
    IsMarkOf (of_last (token_mark last_mark) tokens) (of_last last_mark name)
ends_alike [] name is = inl refl
ends_alike (Any ∷ []) name is = inl refl
ends_alike (Class negated ranges ∷ []) name is = inl refl
ends_alike (Star ∷ []) name is = inl refl
ends_alike (Byte b ∷ []) [] is = cc
ends_alike (Byte b ∷ []) (c ∷ []) is = inr (ap last_mark (eqb-true b c (and_parts _ _ is).0))
ends_alike (Byte b ∷ []) (c ∷ next ∷ name) is = absurd (false≢true (and_right _ _ is))
ends_alike (Byte b ∷ token ∷ tokens) [] is = cc
ends_alike (Byte b ∷ token ∷ tokens) (c ∷ name) is = ends_later _ c name (ends_alike (token ∷ tokens) name (and_right _ _ is))
ends_alike (Any ∷ token ∷ tokens) [] is = cc
ends_alike (Any ∷ token ∷ tokens) (c ∷ name) is = ends_later _ c name (ends_alike (token ∷ tokens) name is)
ends_alike (Class negated ranges ∷ token ∷ tokens) [] is = cc
ends_alike (Class negated ranges ∷ token ∷ tokens) (c ∷ name) is =
    ends_later _ c name (ends_alike (token ∷ tokens) name (and_right _ _ is))
ends_alike (Star ∷ token ∷ tokens) [] is = ends_alike (token ∷ tokens) [] is
ends_alike (Star ∷ token ∷ tokens) (c ∷ name) is =
    or_cases _ _ is (λ now. ends_alike (token ∷ tokens) (c ∷ name) now)
    (λ more. ends_later _ c name (ends_alike (Star ∷ token ∷ tokens) name more))

tokens_part : (tokens : List Token) (name : List ℕ) → matches_name (tokens_of tokens) name ≡ true → IsPart (tokens_marks tokens) (name_marks name)
tokens_part tokens name is =
    let first = of_first first_mark name in
    let last = of_last last_mark name in
    let all = name_marks name in
    let begins = mark_part _ first all (begins_alike tokens name is)
    (part_of_all has_mark first (bit_or first last) name (part_of_more first first last (or_self first))) in
    let ends = mark_part _ last all (ends_alike tokens name is) (part_of_all has_mark last (bit_or first last) name (last_part first last)) in
    all_part (token_mark has_mark) _ tokens all (both_part _ _ all begins ends)
    (tokens_have tokens name all is (each_part has_mark (bit_or first last) name))

-- ---- globs

-- a glob that matches no name has elements `**` only
no_name : (glob : List Element) → matches_path (glob_of glob) [] ≡ true → glob_marks glob ≡ 0
no_name [] is = refl
no_name (Folders ∷ []) is = refl
no_name (Folders ∷ element ∷ glob) is = no_name (element ∷ glob) is
no_name (One tokens ∷ glob) is = cc

-- its marks are those of the last name
abbrev HasMarks : List Element → List (List ℕ) → Type 0
HasMarks glob path = IsPart (glob_marks glob) (name_marks (last_name path))

below : (glob : List Element) (folder : List ℕ) (path : List (List ℕ)) → matches_path (glob_of glob) path ≡ true →
    HasMarks glob path → HasMarks glob (folder ∷ path)
below glob folder [] is has = subst (λ m. IsPart m (name_marks folder)) (sym (no_name glob is)) (none_part (name_marks folder))
below glob folder (name ∷ path) is has = has

glob_has : (glob : List Element) (path : List (List ℕ)) → matches_path (glob_of glob) path ≡ true → HasMarks glob path
glob_has [] path is = none_part (name_marks (last_name path))
glob_has (Folders ∷ []) path is = none_part (name_marks (last_name path))
glob_has (Folders ∷ element ∷ glob) [] is = glob_has (element ∷ glob) [] is
glob_has (Folders ∷ element ∷ glob) (name ∷ path) is =
    or_cases _ _ is (λ now. glob_has (element ∷ glob) (name ∷ path) now)
    (λ later. below (Folders ∷ element ∷ glob) name path later (glob_has (Folders ∷ element ∷ glob) path later))
glob_has (One tokens ∷ glob) [] is = cc
glob_has (One tokens ∷ []) (name ∷ []) is = tokens_part tokens.items name (and_parts _ _ is).0
glob_has (One tokens ∷ []) (name ∷ next ∷ path) is = absurd (false≢true (and_right _ _ is))
glob_has (One tokens ∷ element ∷ glob) (name ∷ path) is =
    let rest = and_right _ _ is in below (element ∷ glob) name path rest (glob_has (element ∷ glob) path rest)

-- a rule with a mark that the name lacks
pub lacks_mark : (rule : Rule) (path : List (List ℕ)) (is_folder : Bool) (marks : ℕ) → marks ≡ name_marks (last_name path) →
    bit_or marks (rule_marks rule) ≢ marks → applies (rule_of rule) path is_folder ≡ false
lacks_mark rule path is_folder marks e lacks =
    false_from_ne_true (applies (rule_of rule) path is_folder)
    (λ is. lacks (subst (λ m. IsPart (rule_marks rule) m) (sym e) (glob_has rule.glob.items path (and_right _ _ is))))

-- ---- the rules from the last one on

last_of_first : (rules : List Rule) (at : ℕ) (rule : Rule) → at < length rules → rule ≡ get_or rules at rule →
    IsLastAndRest (take (at + 1) rules) rule (take at rules)
last_of_first rules at rule less is =
    let more = take_more rules at rule less ∙ ap (λ r. take at rules ++ r ∷ []) (sym is) in
    (more, omega (arith, ap length more, length-append (take at rules) (rule ∷ [])))

-- The rules from an index on do not apply.
pub record HasAsked (rules : List Rule) (path : List (List ℕ)) (is_folder : Bool) (at start now : ℕ) : Type 0 where
  pub within : at ≤ length rules
  pub decided : decide (map rule_of rules) path is_folder ≡ decide (map rule_of (take at rules)) path is_folder
  pub rises : start ≤ now
  pub work : now + rules_work (map rule_of (take at rules)) path ≤ start + rules_work (map rule_of rules) path

module _ (rules : List Rule) (path : List (List ℕ)) (is_folder : Bool) (before at start now : ℕ) (rule : Rule)
    (has : HasAsked rules path is_folder before start now) (e : before ≡ at + 1) (is : rule ≡ get_or rules at rule) where
  less : at < length rules
  less = omega (arith, has.within, e)

  last : IsLastAndRest (take (at + 1) rules) rule (take at rules)
  last = last_of_first rules at rule less is

  decided_by : decide (map rule_of rules) path is_folder
      ≡ or_else (cond (applies (rule_of rule) path is_folder) (Some rule.decision) None) (decide (map rule_of (take at rules)) path is_folder)
  decided_by = has.decided ∙ ap (λ n. decide (map rule_of (take n rules)) path is_folder) e
      ∙ decide_last (take (at + 1) rules) (take at rules) rule path is_folder last

  work_is : rules_work (map rule_of (take before rules)) path
      ≡ rules_work (map rule_of (take at rules)) path + path_work (rule_of rule).glob path
  work_is = ap (λ n. rules_work (map rule_of (take n rules)) path) e ∙ work_last (take (at + 1) rules) (take at rules) rule path last

  pub asked_more : (then : ℕ) → applies (rule_of rule) path is_folder ≡ false → (now ≤ then) × (then ≤ now + path_work (rule_of rule).glob path) →
      HasAsked rules path is_folder at start then
  asked_more then not counts = record {
    within = omega (arith, less);
    decided = decided_by ∙ ap (λ b. or_else (cond b (Some rule.decision) None) (decide (map rule_of (take at rules)) path is_folder)) not;
    rises = omega (arith, has.rises, counts.0);
    work = omega (arith, has.work, work_is, counts.1);
  }

  -- the rule has a mark that the last name lacks
  pub asked_skipped : (marks needed then : ℕ) (own : List ℕ) → marks ≡ name_marks (last_name path) → own ≡ map rule_marks rules →
      needed ≡ get_or own at needed → bit_or marks needed ≢ marks → then ≡ now → HasAsked rules path is_folder at start then
  asked_skipped marks needed then own named marked read lacks same =
      let needed_is : needed ≡ rule_marks rule =
      read ∙ ap (λ ms. get_or ms at needed) marked ∙ get_or-map rule_marks rules at rule needed less ∙ ap rule_marks (sym is) in
      asked_more then
      (lacks_mark rule path is_folder marks named (λ is. lacks (ap (bit_or marks) needed_is ∙ is)))
      (omega (arith, same), omega (arith, same))

  pub asked_found : (then : ℕ) → applies (rule_of rule) path is_folder ≡ true → (now ≤ then) × (then ≤ now + path_work (rule_of rule).glob path) →
      (Some rule.decision ≡ decide (map rule_of rules) path is_folder) × (start ≤ then) × (then ≤ start + rules_work (map rule_of rules) path)
  asked_found then does counts = (
    sym (decided_by ∙ ap (λ b. or_else (cond b (Some rule.decision) None) (decide (map rule_of (take at rules)) path is_folder)) does),
    omega (arith, has.rises, counts.0),
    omega (arith, has.work, work_is, counts.1),
  )
