-- Fault injection: a tree that forwards its calls to another one, except for one call, which fails.
use Rattle.std.specs.Prelude.{◌≡◌, ◌≢◌, ◌⊎◌, ℕ, Option, Result, Err}
use Rattle.cs_tree.specs.Snapshot.{Snapshot}
use Rattle.cs_tree.specs.StreamModels.{SourceModel}
use Rattle.cs_tree.specs.Trees.{KeepsOpen}
use Rattle.cs_tree.specs.declared.fault.TreeFault.{TreeFault}
use Rattle.cs_tree.specs.declared.fault.TreeFault.TheVariants.{Failed}
use Rattle.cs_fakes.specs.declared.fuse_tree.FuseTree.{FuseTree}

-- the number of the call that will fail, counted from 1 for the next call; 0 for none
abbrev pub calls_left : {T : Type 0} → FuseTree T → ℕ
calls_left fuse = fuse.left

-- the tree to which calls are forwarded
abbrev pub inner_tree : {T : Type 0} → FuseTree T → T
inner_tree fuse = fuse.inner

-- If `calls_left` is 1, the call fails and leaves the inner tree unchanged. Otherwise it is forwarded.
abbrev pub Blows : {A T : Type 0} → FuseTree T → FuseTree T → Result A TreeFault → Type 0 → Type 0
Blows fuse later result forwarded =
    ((calls_left fuse ≡ 1) × (result ≡ Err Failed) × (inner_tree later ≡ inner_tree fuse))
    ⊎ ((calls_left fuse ≢ 1) × forwarded)

-- this part of the inner tree's model does not change
abbrev pub KeepsInner : {A T : Type 0} → (T → A) → FuseTree T → FuseTree T → Type 0
KeepsInner model fuse later = model (inner_tree later) ≡ model (inner_tree fuse)

-- the model of the inner tree's open file does not change
abbrev pub KeepsInnerOpen : {T : Type 0} → (T → Option Snapshot) → (T → Option SourceModel) → FuseTree T → FuseTree T → Type 0
KeepsInnerOpen snapshot opened fuse later =
    KeepsOpen (snapshot (inner_tree fuse)) (opened (inner_tree fuse)) (opened (inner_tree later))
