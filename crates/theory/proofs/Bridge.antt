-- "It selects (m,n) when its nodes can be laid on document nodes": a tree query selects what the tree that is read off it takes.
-- From the rows to the tree each tree lies where its row lies; the other direction stands in Back.
use mathlib.Core.Path.{◌≡◌, refl, ap, subst, ◌∙◌}
use mathlib.Core.Logic.{◌↔◌, inl, inr}
use mathlib.Core.Option.{Option, none, some}
use mathlib.Core.List.{List, [], ◌∷◌}
use Prim.Native.Nat.{ℕ, zero, suc}
use native.Mathlib.Decide.{ℕ_discrete}
use lib.ListN.{length}
use Rattle.meaning.specs.Basics.{is}
use Rattle.meaning.specs.Document.{Doc}
use Rattle.meaning.specs.TreeQuery.{Lab, node, Query, TreeQuery, RowKept, Laying, Selects}
use Rattle.meaning.specs.Tree.{Forest, bare, tree, Tag, kids_from, tag_of, plant, grow, tree_of, Under, Lays, MarkOn, OnPair, Takes}
use Rattle.theory.proofs.Look.{never}
use Rattle.theory.proofs.Children.{Among, row_of_kid, one_top}
use Rattle.theory.proofs.Back.{rows_select}

-- a tree (a, k) can be laid directly below v
abbrev Spot : Doc → (Tag → ℕ → Type 0) → Option ℕ → Tag → Forest Tag → Type 0
Spot D On v a k = (w : ℕ) × Under D v w × On a w × Lays D On k (some w)

plant_lays : (D : Doc) (On : Tag → ℕ → Type 0) (tag : ℕ → Tag) (f : ℕ → Forest Tag) (js : List ℕ) (v : Option ℕ)
    → ((j : ℕ) → Among j js → Spot D On v (tag j) (f j)) → Lays D On (plant tag f js) v
plant_lays D On tag f [] v g = tt
plant_lays D On tag f (j ∷ js) v g = (g j (inl refl), plant_lays D On tag f js v (λ i x. g i (inr x)))

module _ (D : Doc) (m n : ℕ) (Q : Query) (h : ℕ → ℕ) (lay : Laying D Q.rows h) (hs : h Q.s ≡ m) (hd : h Q.d ≡ n) where
  mark_on : (j s m' : ℕ) → h s ≡ m' → MarkOn (is (ℕ_discrete j s)) (h j) m'
  mark_on j s m' e = go (ℕ_discrete j s)
    where
      go : (c : Dec (j ≡ s)) → MarkOn (is c) (h j) m'
      go (yes p) = ap h p ∙ e
      go (no np) = tt

  -- a child of u lies below where u lies
  row_spot : (u v : Option ℕ) (j : ℕ) (k : Forest Tag) → ((l : Lab) → RowKept D h j (some (node u l)) → Under D v (h j))
      → Lays D (OnPair D m n) k (some (h j))
      → Among j (kids_from u Q.rows 0) → Spot D (OnPair D m n) v (tag_of Q j) k
  row_spot u v j k under x c =
      let w = row_of_kid u Q.rows j c in
      let o : RowKept D h j (some (node u w.0)) = subst (RowKept D h j) w.1 (lay j) in
      (h j, under w.0 o, (rw w.1 o.1, mark_on j Q.s m hs, mark_on j Q.d n hd), x)

  grow_lays : (f i : ℕ) → Lays D (OnPair D m n) (grow f Q i) (some (h i))
  grow_lays zero i = tt
  grow_lays (suc f) i = plant_lays D (OnPair D m n) (tag_of Q) (grow f Q) (kids_from (some i) Q.rows 0) (some (h i))
      (λ j c. row_spot (some i) (some (h i)) j (grow f Q j) (λ l o. o.2) (grow_lays f j) c)

  tree_lays : Lays D (OnPair D m n) (tree_of Q) none
  tree_lays = plant_lays D (OnPair D m n) (tag_of Q) (grow (length Q.rows) Q) (kids_from none Q.rows 0) none
      (λ j c. row_spot none none j (grow (length Q.rows) Q j) (λ l o. o.0) (grow_lays (length Q.rows) j) c)

-- a tree with a node takes exactly where it can be laid
takes_lays : (f : Forest Tag) → (a : Tag) × (k : Forest Tag) × (f ≡ tree a k bare) → (D : Doc) (m n : ℕ)
    → Takes f D m n ↔ Lays D (OnPair D m n) f none
takes_lays bare (a, k, e) D m n = never cc
takes_lays (tree b j r) w D m n = (λ x. x, λ x. x)

pub tree_means : (Q : Query) → TreeQuery Q → (D : Doc) (m n : ℕ) → Selects Q D m n ↔ Takes (tree_of Q) D m n
tree_means Q q D m n =
    let t = takes_lays (tree_of Q) (one_top Q q) D m n in
    (λ (h, lay, hs, hd). t.1 (tree_lays D m n Q h lay hs hd), λ x. rows_select D m n Q q (t.0 x))
