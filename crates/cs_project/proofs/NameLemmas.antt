-- The names of paths.
use Rattle.std.proofs.Common.{◌≡◌, ℕ, Bool, true, false, if◌then◌else◌, List, ◌++◌, length, drop, None, sym, ap, subst, ◌∙◌}
use Rattle.std.specs.Prelude.{nat_eq}
use Rattle.std.specs.List.{starts_with}
use Rattle.std.specs.Str.{IsCharBoundary}
use Rattle.std.specs.Str.Pattern.{FindsTextPrefix, StripsPrefix}
use Rattle.std.proofs.lemmas.Str.Pattern.{starts_text}
use Rattle.cs_project.specs.Names.{name_below}

-- the name of a path that begins with the folder
pub name_stripped : (path stem prefix rest : List ℕ) → StripsPrefix (FindsTextPrefix stem) path rest →
    prefix ++ rest ≡ name_below stem prefix path
name_stripped path stem prefix rest strips =
    let begins : true ≡ starts_with nat_eq path stem = starts_text true stem path (strips.0, strips.1, subst (λ n. IsCharBoundary path n) (sym strips.1.0) strips.1.2) in
    ap (λ r. prefix ++ r) (strips.2 ∙ ap (λ n. drop n path) strips.1.0)
    ∙ ap (λ (b : Bool). if b then prefix ++ drop (length stem) path else path) begins

-- the name of any other path
pub name_whole : (path stem prefix : List ℕ) → FindsTextPrefix stem path None → path ≡ name_below stem prefix path
name_whole path stem prefix lacks =
    let begins : false ≡ starts_with nat_eq path stem = starts_text false stem path lacks in
    ap (λ (b : Bool). if b then prefix ++ drop (length stem) path else path) begins
