-- A tree as a table of rows again, in preorder: with one top, one s and one d it is a tree query, and the tree is what is read off it.
-- So the minimal tree is a tree query too, and "no tree query with the same meaning has fewer nodes" speaks of it as of any other.
use mathlib.Core.Path.{◌≡◌, refl, sym, ap, subst, ◌∙◌}
use mathlib.Core.Logic.{◌≢◌, inl, inr}
use mathlib.Core.Option.{Option, none, some}
use mathlib.Core.Bool.{Bool, true, false}
use mathlib.Core.List.{List, [], ◌∷◌, ◌++◌, map, append-nil}
use Prim.Native.Nat.{ℕ, zero, suc, ◌+◌, ◌≤◌, ◌<◌}
use native.Mathlib.Decide.{ℕ_discrete}
use native.Mathlib.Omega.{arith}
use lib.ListN.{length, length-map}
use Rattle.meaning.specs.Basics.{is, look, mapped}
use Rattle.meaning.specs.TreeQuery.{Lab, Row, node, Table, at, Query, Live, Root, TreeQuery}
use Rattle.meaning.specs.Gluing.{depth, depth_row}
use Rattle.meaning.specs.Tree.{Forest, bare, tree, Tag, size, same_link, choose, kids_from, lab_row, tag_of, plant, grow, tree_of}
use Rattle.theory.proofs.Count.{count, src, dst}
use Rattle.theory.proofs.Look.{never, look_lt, look_map}
use Rattle.theory.proofs.Children.{same_link_lem, link_same}
use Rattle.theory.proofs.Marks.{QueryTree}
use Rattle.theory.proofs.Entries.{Entry, entries, length_entries, Later, entry_later, Part, part_head, part_kids, part_rest, part_self, Below, entry_parent, Marked, place_of, place_marked, marked_place}

abbrev row_of : Entry → Row
row_of x = node x.up x.tag.lab

abbrev pub table_of : Forest Tag → Query
table_of F = record { rows = map row_of (entries F none 0); s = place_of src F; d = place_of dst F }

-- ------------------------------------------------------------------ it is a tree query
-- where every parent stands before its children, the number of a row is enough fuel for its depth
depth_enough : (T : Table) → ((i p : ℕ) (l : Lab) → at T i ≡ some (node (some p) l) → p < i) → (n i : ℕ) → i < n → depth n T i ≡ depth (suc n) T i
depth_enough T before zero i lt = absurd (omega arith)
depth_enough T before (suc n) i lt = go (at T i) refl (depth_enough T before n)
  where
    go : (r : Option Row) → at T i ≡ r → ((p : ℕ) → p < n → depth n T p ≡ depth (suc n) T p) → depth_row (depth n T) r ≡ depth_row (depth (suc n) T) r
    go none e ih = refl
    go (some (node none l)) e ih = refl
    go (some (node (some p) l)) e ih = let z = before i p l e in ap suc (ih p (omega arith))

module _ (F : Forest Tag) where
  row_at : (i : ℕ) (x : Entry) → look (entries F none 0) i ≡ some x → at (table_of F).rows i ≡ some (row_of x)
  row_at i x e = look_map row_of (entries F none 0) i ∙ ap (mapped row_of) e

  entry_at : (i : ℕ) (u : Option ℕ) (l : Lab) → at (table_of F).rows i ≡ some (node u l)
      → (x : Entry) × (look (entries F none 0) i ≡ some x) × (x.up ≡ u)
  entry_at i u l e = go (look (entries F none 0) i) refl
    where
      go : (o : Option Entry) → look (entries F none 0) i ≡ o → (x : Entry) × (look (entries F none 0) i ≡ some x) × (x.up ≡ u)
      go none eo = let z = look_map row_of (entries F none 0) i in never cc
      go (some x) eo = let z = row_at i x eo in (x, eo, cc)

module _ (a : Tag) (k : Forest Tag) where
  abbrev F : Forest Tag
  F = tree a k bare

  abbrev T : Table
  T = (table_of (tree a k bare)).rows

  -- a row's parent is a row before it
  parent_before : (i p : ℕ) (l : Lab) → at T i ≡ some (node (some p) l) → (p < i) × Live T p
  parent_before zero p l e = never cc
  parent_before (suc i) p l e = go (entry_at F (suc i) (some p) l e)
    where
      go : (x : Entry) × (look (entries F none 0) (suc i) ≡ some x) × (x.up ≡ some p) → (p < suc i) × Live T p
      go (x, ex, eu) = up (entry_parent a k i x ex)
        where
          up : Below (entries F none 0) (suc i) x → (p < suc i) × Live T p
          up (j, y, lt, ey, ej, h) =
              let z : j ≡ p = cc in
              (omega arith, (y.up, y.tag.lab, row_at F p y (subst (λ n. look (entries F none 0) n ≡ some y) z ey)))

  top_first_lem : (i : ℕ) → Root T i → i ≡ 0
  top_first_lem zero r = refl
  top_first_lem (suc i) (l, e) = let (x, ex, eu) = entry_at F (suc i) none l e in let (j, y, lt, ey, ej, h) = entry_parent a k i x ex in never cc

  -- the depth of a row is its level
  linked : (i p : ℕ) (l : Lab) → at T i ≡ some (node (some p) l) → Live T p × (depth (length T) T i ≡ suc (depth (length T) T p))
  linked i p l e =
      let (lt, live) = parent_before i p l e in
      let lt' = look_lt T i e in
      (live, rw e (ap suc (depth_enough T (λ j p' l' e'. (parent_before j p' l' e').0) (length (map row_of (entries k (some 0) 1 ++ []))) p (omega arith))))

  live_place : (q : Tag → Bool) → count q F ≡ 1 → Live T (place_of q F)
  live_place q one = let (x, e, t) = place_marked q F one in (x.up, x.tag.lab, row_at F (place_of q F) x e)

  one_top_query : count src (tree a k bare) ≡ 1 → count dst (tree a k bare) ≡ 1 → TreeQuery (table_of (tree a k bare))
  one_top_query oneS oneD = record {
    tree = record { lev = depth (length T) T; linked = linked; top = 0; top_lev = refl; single = top_first_lem };
    s_live = live_place src oneS;
    d_live = live_place dst oneD;
  }

-- a tree with one top, one s and one d is a tree query
pub table_query : (F : Forest Tag) → QueryTree F → TreeQuery (table_of F)
table_query F t = rw t.top (one_top_query t.root t.below (rw t.top at t.source) (rw t.top at t.dest))

-- ------------------------------------------------------------------ the children of a row
-- the numbers of a forest's trees, its nodes numbered from b on
abbrev tops : Forest Tag → ℕ → List ℕ
tops bare b = []
tops (tree a k r) b = b ∷ tops r (suc b + size k)

-- the entries whose parent is u, numbered from b on
abbrev kids : Option ℕ → List Entry → ℕ → List ℕ
kids u xs b = kids_from u (map row_of xs) b

kids_append : (u : Option ℕ) (xs ys : List Entry) (b : ℕ) → kids u (xs ++ ys) b ≡ kids u xs b ++ kids u ys (b + length xs)
kids_append u [] ys b = ap (kids u ys) (let z : b ≡ b + 0 = omega arith in z)
kids_append u (x ∷ xs) ys b =
    let z : suc b + length xs ≡ b + suc (length xs) = omega arith in
    go (same_link u x.up) (rw z at (kids_append u xs ys (suc b)))
  where
    go : (t : Bool) → kids u (xs ++ ys) (suc b) ≡ kids u xs (suc b) ++ kids u ys (b + suc (length xs))
        → choose t b (kids u (xs ++ ys) (suc b)) ≡ choose t b (kids u xs (suc b)) ++ kids u ys (b + suc (length xs))
    go true e = ap (λ js. b ∷ js) e
    go false e = e

-- the children in a forest: the first top, those below it, those of the later trees
kids_tree : (u : Option ℕ) (a : Tag) (k r : Forest Tag) (p : Option ℕ) (b : ℕ) (t : Bool) (js ks : List ℕ) → same_link u p ≡ t
    → kids u (entries k (some b) (suc b)) (suc b) ≡ js → kids u (entries r p (suc b + size k)) (suc b + size k) ≡ ks
    → kids u (entries (tree a k r) p b) b ≡ choose t b (js ++ ks)
kids_tree u a k r p b t js ks et ej ek =
    let z = kids_append u (entries k (some b) (suc b)) (entries r p (suc b + size k)) (suc b) in
    let l = length_entries k (some b) (suc b) in
    rw (et, z, l, ej, ek)

-- u is none of the n numbers from b on
abbrev Out : Option ℕ → ℕ → ℕ → Type 0
Out u b n = (i : ℕ) → b ≤ i → i < b + n → u ≢ some i

out_number : (j b n : ℕ) → ((i : ℕ) → b ≤ i → i < b + n → j ≢ i) → Out (some j) b n
out_number j b n ne i lo hi e = let z : j ≡ i = cc in ne i lo hi z

link_other : (u v : Option ℕ) → u ≢ v → same_link u v ≡ false
link_other u v ne = go (same_link u v) refl
  where
    go : (t : Bool) → same_link u v ≡ t → t ≡ false
    go false e = refl
    go true e = absurd (ne (same_link_lem u v e))

kids_none : (f : Forest Tag) (p : Option ℕ) (b : ℕ) (u : Option ℕ) → u ≢ p → Out u b (size f) → kids u (entries f p b) b ≡ []
kids_none bare p b u ne out = refl
kids_none (tree a k r) p b u ne out =
    kids_tree u a k r p b false [] [] (link_other u p ne) (kids_none k (some b) (suc b) u (out b (omega arith) (omega arith)) (λ i lo hi. out i (omega arith) (omega arith)))
    (kids_none r p (suc b + size k) u ne (λ i lo hi. out i (omega arith) (omega arith)))

kids_tops : (f : Forest Tag) (p : Option ℕ) (b : ℕ) → Out p b (size f) → kids p (entries f p b) b ≡ tops f b
kids_tops bare p b out = refl
kids_tops (tree a k r) p b out =
    kids_tree p a k r p b true [] (tops r (suc b + size k)) (link_same p) (kids_none k (some b) (suc b) p (out b (omega arith) (omega arith)) (λ i lo hi. out i (omega arith) (omega arith)))
    (kids_tops r p (suc b + size k) (λ i lo hi. out i (omega arith) (omega arith)))

-- the children of node b + i are the trees below it
kids_entry : (f : Forest Tag) (p : Option ℕ) (b : ℕ) → Out p b (size f) → (i : ℕ) (x : Entry) → look (entries f p b) i ≡ some x
    → (n : ℕ) → n ≡ b + i → kids (some n) (entries f p b) b ≡ tops x.kids (suc n)
kids_entry bare p b out i x e n en = never cc
kids_entry (tree a k r) p b out zero x e n en =
    let z : b ≡ n = omega arith in
    let q : x.kids ≡ k = cc in
    subst (λ (m : ℕ). kids (some m) (entries (tree a k r) p b) b ≡ tops x.kids (suc m)) z (rw q
    (kids_tree (some b) a k r p b false (tops k (suc b)) [] (link_other (some b) p (λ e'. out b (omega arith) (omega arith) (sym e')))
    (kids_tops k (some b) (suc b) (out_number b (suc b) (size k) (λ i lo hi e'. omega arith)))
    (kids_none r p (suc b + size k) (some b) (λ e'. out b (omega arith) (omega arith) (sym e')) (out_number b (suc b + size k) (size r) (λ i lo hi e'. omega arith)))
    ∙ append-nil (tops k (suc b))))
kids_entry (tree a k r) p b out (suc i) x e n en =
    go (kids_entry k (some b) (suc b) (out_number b (suc b) (size k) (λ i lo hi e'. omega arith)) i x)
    (λ j. kids_entry r p (suc b + size k) (λ i lo hi. out i (omega arith) (omega arith)) j x) (entry_later a k r p b i x e)
  where
    go : (look (entries k (some b) (suc b)) i ≡ some x → (n : ℕ) → n ≡ suc b + i → kids (some n) (entries k (some b) (suc b)) (suc b) ≡ tops x.kids (suc n))
        → ((j : ℕ) → look (entries r p (suc b + size k)) j ≡ some x → (n : ℕ) → n ≡ suc b + size k + j → kids (some n) (entries r p (suc b + size k)) (suc b + size k) ≡ tops x.kids (suc n))
        → Later a k r p b i x → kids (some n) (entries (tree a k r) p b) b ≡ tops x.kids (suc n)
    go ik ir (inl e') =
        let lt = look_lt (entries k (some b) (suc b)) i e' in
        let l = length_entries k (some b) (suc b) in
        let ne : some n ≢ p = λ q. out n (omega arith) (omega arith) (sym q) in
        kids_tree (some n) a k r p b false (tops x.kids (suc n)) [] (link_other (some n) p ne) (ik e' n (omega arith))
        (kids_none r p (suc b + size k) (some n) ne (out_number n (suc b + size k) (size r) (λ i lo hi q. omega arith)))
        ∙ append-nil (tops x.kids (suc n))
    go ik ir (inr (j, ej, e')) =
        let lt = look_lt (entries r p (suc b + size k)) j e' in
        let l = length_entries r p (suc b + size k) in
        let ne : some n ≢ p = λ q. out n (omega arith) (omega arith) (sym q) in
        kids_tree (some n) a k r p b false [] (tops x.kids (suc n)) (link_other (some n) p ne)
        (kids_none k (some b) (suc b) (some n) (λ q. let z : n ≡ b = cc in omega arith) (out_number n (suc b) (size k) (λ i lo hi q. omega arith)))
        (ir j e' n (omega arith))

-- ------------------------------------------------------------------ the tree that is read off
module _ (F : Forest Tag) (t : QueryTree F) where
  mark_at : (q : Tag → Bool) → count q F ≡ 1 → (i : ℕ) (x : Entry) → look (entries F none 0) i ≡ some x → is (ℕ_discrete i (place_of q F)) ≡ q x.tag
  mark_at q one i x e = go (ℕ_discrete i (place_of q F)) (q x.tag) refl (place_marked q F one)
    where
      go : (c : Dec (i ≡ place_of q F)) (t : Bool) → q x.tag ≡ t → Marked q (entries F none 0) (place_of q F) → is c ≡ t
      go (yes p) true et w = refl
      go (yes p) false et (y, ey, ty) = let e' : look (entries F none 0) i ≡ some y = ap (look (entries F none 0)) p ∙ ey in never cc
      go (no np) true et w = absurd (np (marked_place q F one i (x, e, et)))
      go (no np) false et w = refl

  tag_at : (i : ℕ) (x : Entry) → look (entries F none 0) i ≡ some x → tag_of (table_of F) i ≡ x.tag
  tag_at i x e = λ j. record { lab = lab_row (row_at F i x e j); src = mark_at src t.source i x e j; dst = mark_at dst t.dest i x e j }

  plant_tops : (f : Forest Tag) (p : Option ℕ) (b : ℕ) → Part (entries F none 0) f p b → (n : ℕ) → size f ≤ n
      → plant (tag_of (table_of F)) (grow n (table_of F)) (tops f b) ≡ f
  plant_tops bare p b part n le = refl
  plant_tops (tree a k r) p b part zero le = absurd (omega arith)
  plant_tops (tree a k r) p b part (suc n) le =
      let e = part_head (entries F none 0) a k r p b part in
      let g : tag_of (table_of F) b ≡ a = tag_at b (record { up = p; tag = a; kids = k }) e in
      let c : kids_from (some b) (table_of F).rows 0 ≡ tops k (suc b) = kids_entry F none 0 (λ i lo hi q. never cc) b (record { up = p; tag = a; kids = k }) e b (omega arith) in
      let x : plant (tag_of (table_of F)) (grow n (table_of F)) (tops k (suc b)) ≡ k = plant_tops k (some b) (suc b) (part_kids (entries F none 0) a k r p b part) n (omega arith) in
      let y : plant (tag_of (table_of F)) (grow (suc n) (table_of F)) (tops r (suc b + size k)) ≡ r = plant_tops r p (suc b + size k) (part_rest (entries F none 0) a k r p b part) (suc n) (omega arith) in
      λ i. tree (g i) ((ap (plant (tag_of (table_of F)) (grow n (table_of F))) c ∙ x) i) (y i)

  -- what is read off the table of a tree is the tree
  pub tree_of_table : tree_of (table_of F) ≡ F
  tree_of_table =
      let l = length-map (entries F none 0) row_of in
      let l' = length_entries F none 0 in
      ap (plant (tag_of (table_of F)) (grow (length (table_of F).rows) (table_of F))) (kids_tops F none 0 (λ i lo hi e. never cc))
      ∙ plant_tops F none 0 (part_self F none) (length (table_of F).rows) (omega arith)
