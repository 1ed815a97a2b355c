-- What the factors of a normal form are made of: labels of the tree, steps, and projections of such factors joined.
-- So the normal form has no intersection, no inverse, and no label but the tree's.
use mathlib.Core.Bool.{Bool, true, false, cond}
use mathlib.Core.List.{List, [], ◌∷◌, ◌++◌, map}
use Prim.Native.Nat.{ℕ}
use Rattle.meaning.specs.Expression.{Expr, empty, self, child, parent, label, comp, proj1, proj2, Simple}
use Rattle.meaning.specs.TreeQuery.{Lab, any, lab}
use Rattle.meaning.specs.Tree.{Forest, bare, tree, Tag}
use Rattle.meaning.specs.Normal.{joined, all, labelled, branch, onward, chains, src_in, dst_in, both_in, either_in, some_tree, off, ups, downs, above_factor, longer, around, factors, normal}
use Rattle.theory.proofs.Labels.{LabelsIn, LabIn, LabsIn}

abbrev pub Each : {A : Type 0} → (A → Type 0) → List A → Type 0
Each P [] = Unit {0}
Each P (x ∷ xs) = P x × Each P xs

each_map : {A : Type 0} (P P' : A → Type 0) → ((x : A) → P x → P' x) → (xs : List A) → Each P xs → Each P' xs
each_map P P' f [] h = tt
each_map P P' f (x ∷ xs) (h, hs) = (f x h, each_map P P' f xs hs)

-- the labels and the branches of a forest, as factors
abbrev pub Parts : (Expr → Type 0) → Forest Tag → Type 0
Parts P bare = Unit {0}
Parts P (tree b j r) = Each P (labelled b.lab []) × P (branch (child ∷ labelled b.lab (onward (chains j)))) × Parts P j × Parts P r

module _ (P : Expr → Type 0) where
  each_app : (xs ys : List Expr) → Each P xs → Each P ys → Each P (xs ++ ys)
  each_app [] ys h g = g
  each_app (x ∷ xs) ys (h, hs) g = (h, each_app xs ys hs g)

  each_cond : (b : Bool) (xs ys : List Expr) → Each P xs → Each P ys → Each P (cond b xs ys)
  each_cond true xs ys h g = h
  each_cond false xs ys h g = g

  pub labelled_each : (l : Lab) (xs : List Expr) → Each P (labelled l []) → Each P xs → Each P (labelled l xs)
  labelled_each any xs h g = g
  labelled_each (lab l) xs (h, t) g = (h, g)

  off_each : (p : Tag → Forest Tag → Bool) (k : Forest Tag) (l : List Expr) → Parts P k → Each P l → Each P (off p k l)
  off_each p bare l f h = h
  off_each p (tree b j r) l (g, e, fj, fr) h =
      let ih = off_each p r l fr h in
      each_cond (p b j) (off p r l) (branch (child ∷ labelled b.lab (onward (chains j))) ∷ off p r l) ih (e, ih)

  own_each : (l : Lab) (p : Tag → Forest Tag → Bool) (k : Forest Tag) (xs : List Expr) → Each P (labelled l []) → Parts P k → Each P xs
      → Each P (labelled l (off p k xs))
  own_each l p k xs h f g = labelled_each l (off p k xs) h (off_each p k xs f g)

  module _ (hc : P child) (hp : P parent) where
    ups_each : (k : Forest Tag) → Parts P k → Each P (ups k)
    ups_each bare f = tt
    ups_each (tree b j r) (g, e, fj, fr) =
        let own : List Expr = labelled b.lab (off src_in j (parent ∷ [])) in
        let o = own_each b.lab src_in j (parent ∷ []) g fj (hp, tt) in
        each_cond (src_in b j) (ups j ++ own) (ups r) (each_app (ups j) own (ups_each j fj) o) (ups_each r fr)

    downs_each : (k : Forest Tag) → Parts P k → Each P (downs k)
    downs_each bare f = tt
    downs_each (tree b j r) (g, e, fj, fr) =
        each_cond (dst_in b j) (child ∷ labelled b.lab (off dst_in j (downs j))) (downs r)
        (hc, own_each b.lab dst_in j (downs j) g fj (downs_each j fj)) (downs_each r fr)

-- Where P holds of the parts and the steps, and P' of what has P and of a second projection of what has P, P' holds of the factors
module _
    (P P' : Expr → Type 0) (hc : P child) (hp : P parent) (weak : (e : Expr) → P e → P' e)
    (above : (way : List Expr) → Each P way → P' (proj2 (all way)))
  where
    above_each : (way l : List Expr) → Each P way → Each P' l → Each P' (above_factor way l)
    above_each [] l h g = g
    above_each (x ∷ xs) l h g = (above (x ∷ xs) h, g)

    longer_each : (way : List Expr) (a : Tag) (k : Forest Tag) → Each P (labelled a.lab []) → Parts P k → Each P way → Each P (longer way a k)
    longer_each way a k g f h =
        each_app P way (labelled a.lab (off both_in k (child ∷ []))) h (own_each P a.lab both_in k (child ∷ []) g f (hc, tt))

    around_each : (way : List Expr) (a : Tag) (k : Forest Tag) → Each P (labelled a.lab []) → Parts P k → Each P way → Each P' (around way a k)
    around_each way a k g f h =
        let own : List Expr = labelled a.lab (off either_in k (downs k)) in
        let u = each_map P P' weak (ups k) (ups_each P hc hp k f) in
        let o = each_map P P' weak own (own_each P a.lab either_in k (downs k) g f (downs_each P hc hp k f)) in
        each_app P' (ups k) (above_factor way own) u (above_each way own h o)

    pub factors_each : (f : Forest Tag) (way : List Expr) → Parts P f → Each P way → Each P' (factors f way)
    factors_each bare way f h = tt
    factors_each (tree a k r) way (g, e, fk, fr) h =
        let F : List Expr = factors k (longer way a k) in
        let x = factors_each k (longer way a k) fk (longer_each way a k g fk h) in
        each_cond P' (both_in a k) (cond (some_tree both_in k) F (around way a k)) (factors r way)
        (each_cond P' (some_tree both_in k) F (around way a k) x (around_each way a k g fk h)) (factors_each r way fr h)

-- ------------------------------------------------------------------ what holds of every normal form
-- P holds of the labels in A and of the signs that a normal form uses
record Kept (A : ℕ → Type 0) (P : Expr → Type 0) : Type 0 where
  none : P empty
  one : P self
  down : P child
  up : P parent
  name : (l : ℕ) → A l → P (label l)
  both : (e f : Expr) → P e → P f → P (comp e f)
  first : (e : Expr) → P e → P (proj1 e)
  second : (e : Expr) → P e → P (proj2 e)

module _ (A : ℕ → Type 0) (P : Expr → Type 0) (K : Kept A P) where
  joined_kept : (x : Expr) (ys : List Expr) → P x → Each P ys → P (joined x ys)
  joined_kept x [] h g = h
  joined_kept x (y ∷ ys) h (g, gs) = joined_kept (comp x y) ys (K.both x y h g) gs

  all_kept : (xs : List Expr) → Each P xs → P (all xs)
  all_kept [] h = K.one
  all_kept (x ∷ xs) (h, hs) = joined_kept x xs h hs

  lab_kept : (l : Lab) → LabIn A l → Each P (labelled l [])
  lab_kept any h = tt
  lab_kept (lab l) h = (K.name l h, tt)

  branches_kept : (cs : List (List Expr)) → Each (Each P) cs → Each P (map branch cs)
  branches_kept [] h = tt
  branches_kept (c ∷ cs) (h, hs) = (K.first (all c) (all_kept c h), branches_kept cs hs)

  onward_kept : (cs : List (List Expr)) → Each (Each P) cs → Each P (onward cs)
  onward_kept [] h = tt
  onward_kept (c ∷ []) (h, t) = h
  onward_kept (c ∷ (d ∷ cs)) h = branches_kept (c ∷ (d ∷ cs)) h

  chains_kept : (j : Forest Tag) → LabsIn A j → Each (Each P) (chains j)
  chains_kept bare h = tt
  chains_kept (tree b j r) (h, hj, hr) =
      ((K.down, labelled_each P b.lab (onward (chains j)) (lab_kept b.lab h) (onward_kept (chains j) (chains_kept j hj))), chains_kept r hr)

  parts_kept : (f : Forest Tag) → LabsIn A f → Parts P f
  parts_kept bare h = tt
  parts_kept (tree b j r) (h, hj, hr) =
      (lab_kept b.lab h, (branches_kept (chains (tree b j bare)) (chains_kept (tree b j bare) (h, hj, tt))).0, parts_kept j hj, parts_kept r hr)

  normal_kept : (f : Forest Tag) → LabsIn A f → P (normal f)
  normal_kept bare h = K.none
  normal_kept (tree a k r) h =
      let f : Forest Tag = tree a k r in
      let second : (way : List Expr) → Each P way → P (proj2 (all way)) = λ way g. K.second (all way) (all_kept way g) in
      all_kept (factors f []) (factors_each P P K.down K.up (λ e p. p) second f [] (parts_kept f h) tt)

-- the labels of the normal form are labels of the tree
pub normal_labels : (P : ℕ → Type 0) (f : Forest Tag) → LabsIn P f → LabelsIn P (normal f)
normal_labels P f h =
    normal_kept P (LabelsIn P)
    (record { none = tt; one = tt; down = tt; up = tt; name = λ l p. p; both = λ e g p q. (p, q); first = λ e p. p; second = λ e p. p }) f h

labs_any : (f : Forest Tag) → LabsIn (λ _. Unit {0}) f
labs_any bare = tt
labs_any (tree a k r) = (go a.lab, labs_any k, labs_any r)
  where
    go : (l : Lab) → LabIn (λ _. Unit {0}) l
    go any = tt
    go (lab l) = tt

-- demand 3: "the normal form has no intersection and no inverse"
pub normal_simple : (f : Forest Tag) → Simple (normal f)
normal_simple f =
    normal_kept (λ _. Unit {0}) Simple
    (record { none = tt; one = tt; down = tt; up = tt; name = λ l p. tt; both = λ e g p q. (p, q); first = λ e p. p; second = λ e p. p }) f (labs_any f)
