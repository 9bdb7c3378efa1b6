use Rattle.std.proofs.Common.{◌≡◌, ℕ, Bool, false, List, ◌∷◌, refl, sym, ◌∙◌, ap}
use Rattle.std.specs.Prelude.{None}
use Rattle.std.specs.Option.{option_map}
use Rattle.cs_syntax.specs.ItemViews.{atom_tree}
use Rattle.cs_syntax.specs.Escapes.{escape, char_token, escaped_tree, is_unsupported_escape}
use Rattle.cs_syntax.proofs.escapes.escape.Goals as goal

-- an escape that is supported and has no tree of its own stands for one character
is_char : (fold : Bool) (e : ℕ) (rest text : List ℕ) → text ≡ e ∷ rest → is_unsupported_escape e ≡ false →
    escaped_tree e ≡ None → char_token fold text ≡ escape fold text
is_char fold e rest text s l t = rw (s, l, t) refl

pub returns-in-None-clause-value : goal.returns-in-None-clause-value
returns-in-None-clause-value c = λ lexeme.
    let e = c.in-Some.field-0-0.now in
    let none : escaped_tree e ≡ None = sym (c.escaped_atom.ensures lexeme) ∙ ap (option_map (atom_tree lexeme)) c.in-None.is in
    let left : is_unsupported_escape e ≡ false = sym c.is_unsupported_escape.ensures ∙ c.if-is_unsupported_escape.false in
    c.char_token.ensures.value lexeme ∙ is_char c.args.fold e _ c.args.text.now c.in-Some.ensures.cases.0 left none
