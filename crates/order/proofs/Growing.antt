-- The children of a row in a table of parents: ascending rows, each with that parent.
use mathlib.Core.Path.{◌≡◌, refl}
use mathlib.Core.List.{List, [], ◌∷◌}
use mathlib.Core.Bool.{Bool, true, false, cond}
use Prim.Native.Nat.{ℕ, zero, suc, ◌+◌, ◌<◌}
use native.Mathlib.Omega.{arith}
use lib.ListN.{get_or}
use lib.Dec.{eqb}
use borrow.Author.Tests.{eqb-true}
use Rattle.rows.specs.Table.{children_of}

-- rows before row e with the parent p
abbrev pub Children : List ℕ → ℕ → ℕ → List ℕ → Type 0
Children parent p e [] = Unit {0}
Children parent p e (j ∷ js) = (j < e) × (get_or parent j 0 ≡ p) × Children parent p e js

children_of_lem : (parent : List ℕ) (p e k b : ℕ) → b + k ≡ e → Children parent p e (children_of p parent k b)
unfolding children_of
children_of_lem parent p e zero b h = tt
children_of_lem parent p e (suc k) b h = go (eqb (get_or parent b 0) p) refl (children_of_lem parent p e k (suc b) (omega arith))
  where
    go : (t : Bool) → eqb (get_or parent b 0) p ≡ t → Children parent p e (children_of p parent k (suc b))
        → Children parent p e (cond t (b ∷ children_of p parent k (suc b)) (children_of p parent k (suc b)))
    go true x ih = (omega arith, eqb-true (get_or parent b 0) p x, ih)
    go false x ih = ih

pub all_children : (parent : List ℕ) (n p : ℕ) → Children parent p n (children_of p parent n 0)
all_children parent n p = children_of_lem parent p n n 0 (omega arith)
