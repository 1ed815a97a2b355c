-- Depths in one tree: `depth` counts the level of a row, and rows that are laid on one node of a document lie at one level ("It fails,
-- giving empty, .. inside one tree when the two lie at different depths.").
use mathlib.Core.Path.{◌≡◌, sym, ap, ◌∙◌}
use mathlib.Core.Logic.{◌≢◌}
use mathlib.Core.Option.{none, some}
use Prim.Native.Nat.{ℕ, zero, suc, ◌≤◌, ◌<◌}
use native.Mathlib.Omega.{arith}
use lib.ListN.{length}
use Rattle.meaning.specs.Document.{Doc}
use Rattle.meaning.specs.TreeQuery.{Lab, node, Table, at, Live, Root, Tree, Laying}
use Rattle.meaning.specs.Gluing.{depth}
use Rattle.theory.proofs.Levels.{root_level, level_bound}
use Rattle.theory.proofs.Gluing.{laid, laying_congruent}

module _ {T : Table} (tr : Tree T) where
  abbrev lev : ℕ → ℕ
  lev = tr.lev

  depth_of : (n i : ℕ) → Live T i → lev i < n → depth n T i ≡ lev i
  depth_of zero i li lt = absurd (omega arith)
  depth_of (suc n) i (none, l, e) lt = rw e (sym (root_level tr i (l, e)))
  depth_of (suc n) i (some p, l, e) lt =
      let o = tr.linked i p l e in let o1 : lev i ≡ suc (lev p) = o.1 in
      rw e (ap suc (depth_of n p o.0 (omega arith)) ∙ sym o1)

  pub depth_level : (i : ℕ) → Live T i → depth (length T) T i ≡ lev i
  depth_level i li = depth_of (length T) i li (level_bound tr i li)

  module _ (D : Doc) (h : ℕ → ℕ) (lay : Laying D T h) where
    edge_lower : (i p : ℕ) (l : Lab) → at T i ≡ some (node (some p) l) → h p < h i
    edge_lower i p l e = (laid D T h lay i e).2.lower

    top_lowest : (n i : ℕ) → Live T i → lev i < n → h tr.top ≤ h i
    top_lowest zero i li lt = absurd (omega arith)
    top_lowest (suc n) i (none, l, e) lt = let z = ap h (tr.single i (l, e)) in omega arith
    top_lowest (suc n) i (some p, l, e) lt =
        let o = tr.linked i p l e in let o1 : lev i ≡ suc (lev p) = o.1 in
        let a = top_lowest n p o.0 (omega arith) in let b = edge_lower i p l e in omega arith

    -- a root and a row that has a parent
    not_one : (x y q : ℕ) (k : Lab) → Root T x → at T y ≡ some (node (some q) k) → h x ≢ h y
    not_one x y q k rx ey e =
        let a = top_lowest (suc (lev q)) q (tr.linked y q k ey).0 (omega arith) in
        let b = edge_lower y q k ey in let c = ap h (tr.single x rx) in omega arith

    levels_one : (n x y : ℕ) → Live T x → Live T y → lev x < n → h x ≡ h y → lev x ≡ lev y
    levels_one zero x y lx ly lt e = absurd (omega arith)
    levels_one (suc n) x y (none, l, ex) (none, k, ey) lt e = root_level tr x (l, ex) ∙ sym (root_level tr y (k, ey))
    levels_one (suc n) x y (none, l, ex) (some q, k, ey) lt e = absurd (not_one x y q k (l, ex) ey e)
    levels_one (suc n) x y (some p, l, ex) (none, k, ey) lt e = absurd (not_one y x p l (k, ey) ex (sym e))
    levels_one (suc n) x y (some p, l, ex) (some q, k, ey) lt e =
        let ox = tr.linked x p l ex in let ox1 : lev x ≡ suc (lev p) = ox.1 in
        let oy = tr.linked y q k ey in let oy1 : lev y ≡ suc (lev q) = oy.1 in
        let z = levels_one n p q ox.0 oy.0 (omega arith) (laying_congruent D T h lay x y p q l k ex ey e) in
        omega arith

    -- two rows that are laid on one node lie at one level
    pub level_laid : (x y : ℕ) → Live T x → Live T y → h x ≡ h y → lev x ≡ lev y
    level_laid x y lx ly = levels_one (suc (lev x)) x y lx ly (omega arith)
