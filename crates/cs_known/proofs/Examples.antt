-- Which files are skipped, at some states and options.
use Rattle.std.proofs.Common.{◌≡◌, ◌∙◌, ℕ, Bool, true, false, not, List, [], ◌∷◌, Some, None, refl, ap, arith, codes}
use Rattle.std.specs.FinMap as map'
use Rattle.std.proofs.lemmas.Cmp.{nat_list_cmp_total}
use Rattle.cs_tree.specs.declared.tree.Stamp.{Stamp}
use Rattle.cs_trigram.specs.Trigram.{has}
use Rattle.cs_trigram.specs.declared.queries.Query.TheVariants.{All, Nothing}
use Rattle.cs_trigram.proofs.QueryLemmas.{matches_set-All, matches_set-Nothing}
use Rattle.cs_index.specs.OpenedParts.{Parts, files_in, files_read}
use Rattle.cs_lines.specs.declared.binary.BinaryFiles.TheVariants.{WithoutMatch, Binary, Text}
use Rattle.cs_lines.specs.declared.form.Mode.TheVariants.{Lines, Counts, Others}
use Rattle.cs_lines.specs.declared.form.ShowOptions.{ShowOptions}
use Rattle.cs_state.specs.Known.{HasNumbers, Kept, indexed, binary, apart}
use Rattle.cs_state.specs.StampedNames.{IsLearnable, number_text, stamped}
use Rattle.cs_state.specs.StampedNames as names'
use Rattle.cs_known.specs.Skipped.{IsSkipped, known_as, matches_some, prints_nothing}

-- ---- a state with a text, a binary file, and a text apart

abbrev stamp : Stamp
stamp = record { device = 1; inode = 2; size = 3; modified = 4; changed = 5 }

abbrev name_as : List ℕ → Kept → List ℕ
name_as name kept = stamped (known_as name stamp kept)

abbrev parts : Parts
parts = record {
  paths = [];
  names = name_as (codes "/a") indexed ∷ name_as (codes "/b") binary ∷ name_as (codes "/c") apart ∷ [];
  entries = [];
  postings = [];
}

abbrev plain : ShowOptions
plain = record {
  mode = Lines;
  most = None;
  before = 0;
  after = 0;
  invert = false;
  form = record {
    bare = false;
    heading = false;
    number = false;
    column = false;
    only = false;
    each = false;
    nul = false;
    colour = false;
    spaced = false;
  };
}

abbrev inverted : ShowOptions
inverted = record plain { invert = true }

abbrev counted : ShowOptions
counted = record plain { mode = Counts }

abbrev others : ShowOptions
others = record plain { mode = Others }

-- ---- a text

-- the set of trigrams of `/a` is empty
set_of_a : map'.get (files_in parts) (name_as (codes "/a") indexed) ≡ Some []
unfolding number_text names'.number_within
set_of_a = map'.get-from_entries nat_list_cmp_total (files_read parts) (name_as (codes "/a") indexed)

-- whether nothing is printed of `/a`, by whether it is a candidate
abbrev nothing_unless : Bool → Bool
nothing_unless candidate = not candidate

an_unmatched_text_prints_nothing : prints_nothing plain WithoutMatch Nothing parts (name_as (codes "/a") indexed) indexed ≡ true
an_unmatched_text_prints_nothing = ap nothing_unless (ap (matches_some Nothing) set_of_a ∙ matches_set-Nothing (has []))

also_from_a_count : prints_nothing counted Text Nothing parts (name_as (codes "/a") indexed) indexed ≡ true
also_from_a_count = ap nothing_unless (ap (matches_some Nothing) set_of_a ∙ matches_set-Nothing (has []))

a_candidate_is_read : prints_nothing plain WithoutMatch All parts (name_as (codes "/a") indexed) indexed ≡ false
a_candidate_is_read = ap nothing_unless (ap (matches_some All) set_of_a ∙ matches_set-All (has []))

an_unmatched_text_is_read_with_v : prints_nothing inverted WithoutMatch Nothing parts (name_as (codes "/a") indexed) indexed ≡ false
an_unmatched_text_is_read_with_v = refl

an_unmatched_text_is_read_with_L : prints_nothing others WithoutMatch Nothing parts (name_as (codes "/a") indexed) indexed ≡ false
an_unmatched_text_is_read_with_L = refl

-- ---- other files

a_binary_file_prints_nothing : prints_nothing plain WithoutMatch All parts (name_as (codes "/b") binary) binary ≡ true
a_binary_file_prints_nothing = refl

also_with_v : prints_nothing inverted WithoutMatch All parts (name_as (codes "/b") binary) binary ≡ true
also_with_v = refl

also_with_L : prints_nothing others WithoutMatch All parts (name_as (codes "/b") binary) binary ≡ true
also_with_L = refl

a_binary_file_is_read_with_a : prints_nothing plain Text Nothing parts (name_as (codes "/b") binary) binary ≡ false
a_binary_file_is_read_with_a = refl

a_binary_file_that_is_named_is_read : prints_nothing plain Binary Nothing parts (name_as (codes "/b") binary) binary ≡ false
a_binary_file_that_is_named_is_read = refl

a_text_apart_is_read : prints_nothing plain WithoutMatch Nothing parts (name_as (codes "/c") apart) apart ≡ false
a_text_apart_is_read = refl

-- ---- what is skipped

small : HasNumbers stamp
small = (omega arith, omega arith, omega arith, omega arith, omega arith)

a_is_skipped : IsLearnable (codes "/a") → IsSkipped plain WithoutMatch Nothing parts (codes "/a") (Some stamp)
a_is_skipped learnable = record {
  stamp = stamp;
  kept = indexed;
  is_seen = refl;
  known = (small, (learnable, (0, omega arith, refl)));
  silent = an_unmatched_text_prints_nothing;
}

b_is_skipped : IsLearnable (codes "/b") → IsSkipped inverted WithoutMatch All parts (codes "/b") (Some stamp)
b_is_skipped learnable = record {
  stamp = stamp;
  kept = binary;
  is_seen = refl;
  known = (small, (learnable, (1, omega arith, refl)));
  silent = refl;
}

a_file_without_a_stamp_is_read : IsSkipped plain WithoutMatch Nothing parts (codes "/a") None → ⊥
a_file_without_a_stamp_is_read skipped = let seen = skipped.is_seen in cc
