use Rattle.std.proofs.Common.{nat_eq, ◌≡◌, ◌≤◌, ◌++◌, [], zero, suc, ◌∷◌, ℕ, List, Option, None, Some, length, take, refl, sym, ap, subst, ◌∙◌, arith, append-nil, length-append}
use Rattle.std.specs.Prelude.{IfSome}
use Rattle.std.specs.List.{list_any}
use Rattle.cs_tree.specs.StreamModels.{SourceModel, ends}
use Rattle.cs_tree.specs.Transfers.{Consumes, IsAt}
use Rattle.std.proofs.lemmas.Bool.{false≢true}
use Rattle.cs_lines.specs.Buffer.{pending_bytes}
use Rattle.cs_lines.specs.Shown.{is_binary}
use Rattle.cs_lines.proofs.ReadLemmas.{more_read, nothing_read, read_refused, read_within}
use Rattle.cs_lines.proofs.buffer.LineBuffer.begin_with.Goals as goal

take_first : (n : ℕ) (a b : List ℕ) → n ≤ length a → take n (a ++ b) ≡ take n a
take_first zero a b h = refl
take_first (suc n) [] b h = let wrong : ⊥ = omega (arith, h) in absurd wrong
take_first (suc n) (x ∷ a) b h = ap (λ (xs : List ℕ). x ∷ xs) (take_first n a b (omega (arith, h)))

-- the first bytes, if there are enough
enough : (model later : Option SourceModel) (first : List ℕ) → Consumes model later first → 8000 ≤ length first →
    IfSome model (λ source. is_binary first ≡ is_binary source.bytes)
enough None later first read h = tt
enough (Some source) None first read h = absurd read
enough (Some source) (Some rest) first read h =
    ap (list_any (λ b. nat_eq b 0)) (sym (ap (take 8000) read.0 ∙ take_first 8000 first rest.bytes h))

-- all bytes
all : (model later : Option SourceModel) (first : List ℕ) → Consumes model later first → IsAt ends later →
    IfSome model (λ source. is_binary first ≡ is_binary source.bytes)
all None later first read end = tt
all (Some source) None first read end = absurd read
all (Some source) (Some rest) first read end =
    ap is_binary (sym (read.0 ∙ ap (λ (r : List ℕ). first ++ r) end.0 ∙ append-nil first))

pub returns-clause-first : goal.returns-clause-first
returns-clause-first g c =
    let i = c.pieces.invariant in
    let first = pending_bytes c.pieces.self in
    let some : 8000 ≤ length first = omega (arith, c.pieces-test.false, ap (λ (t : List ℕ). length t) c.pending.ensures) in
    (i.read, enough (g.R.Source.model c.args.input.now) (g.R.Source.model c.pieces.input) first i.read some)

pub pieces-init : goal.pieces-init
pieces-init g c =
    let none = c.begin.ensures.pending in
    let source = g.R.Source.model c.args.input.now in
    record {
      room = omega (arith, ap (λ (t : List ℕ). length t) none, c.begin.ensures.left);
      read = subst (Consumes source source) (sym none) (nothing_read source);
      ended = λ e. absurd (false≢true (sym c.begin.ensures.ended ∙ e));
      failed = refl;
      keeps = g.met.R.Source.keeps_refl c.args.input.now;
    }

pub pieces-preserved : goal.pieces-preserved
pieces-preserved g c =
    let i = c.pieces.invariant in
    let f = c.in_ok-fill.ensures in
    let t = f.text in
    let old = pending_bytes c.pieces.self in
    let source = g.R.Source.model c.args.input.now in
    record {
      room = omega (arith, i.room, f.left, t.size, ap (λ (x : List ℕ). length x) t.text, length-append old t.bytes);
      read = subst (Consumes source (g.R.Source.model c.fill.new.input)) (sym t.text)
          (more_read source (g.R.Source.model c.pieces.input) (g.R.Source.model c.fill.new.input) old t.bytes i.read t.consumed);
      ended = f.ended;
      failed = f.failed ∙ i.failed;
      keeps = g.met.R.Source.keeps_trans c.args.input.now c.pieces.input c.fill.new.input i.keeps f.keeps;
    }

pub returns-clause-read : goal.returns-clause-read
returns-clause-read g c =
    let i = c.pieces.invariant in
    read_within c.args.limit (g.R.Source.model c.args.input.now) (g.R.Source.model c.pieces.input) (pending_bytes c.pieces.self) i.read (omega (arith, i.room))

pub returns-in_err-fill-clause-read : goal.returns-in_err-fill-clause-read
returns-in_err-fill-clause-read g c =
    let i = c.pieces.invariant in
    let refused = c.in_err-fill.ensures.text in
    read_refused c.args.limit c.pieces.self.left c.in_err-fill.field-0.0 (g.R.Source.model c.args.input.now) (g.R.Source.model c.pieces.input)
    (g.R.Source.model c.fill.new.input) (pending_bytes c.pieces.self) (pending_bytes c.fill.new.self) i.read i.room refused.0 refused.1
