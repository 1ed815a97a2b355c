-- The canonical document of a tree: its own nodes, wildcards wearing a label c. The tree takes its own s and d there; and with a label c
-- that another tree does not bear, that tree lies there only by folding. So trees that take the same pairs fold onto each other.
use mathlib.Core.Path.{◌≡◌, refl, sym, ap, subst, ◌∙◌}
use mathlib.Core.Logic.{◌↔◌, ◌≢◌, inl, inr}
use mathlib.Core.Option.{Option, none, some}
use mathlib.Core.Bool.{Bool, true, false}
use mathlib.Core.List.{List, [], ◌∷◌, map}
use Prim.Native.Nat.{ℕ, zero, suc, ◌+◌, ◌≤◌, ◌<◌, max}
use native.Mathlib.Omega.{arith}
use lib.ListN.{length, get_or, length-map}
use Rattle.meaning.specs.Basics.{look, mapped}
use Rattle.meaning.specs.Document.{DocRow, Doc, doc_row, In, Child, Document}
use Rattle.meaning.specs.Expression.{Agree}
use Rattle.meaning.specs.TreeQuery.{Lab, any, lab, Query, TreeQuery, Fits, Selects}
use Rattle.meaning.specs.Tree.{Forest, bare, tree, Tag, size, Any, tree_of, Under, Lays, MarkOn, OnPair, Takes}
use Rattle.meaning.specs.Folding.{LabLe, MarkLe, TagLe, Folds, Onto}
use Rattle.meaning.specs.Image.{lab_code}
use Rattle.theory.proofs.Count.{count, src, dst}
use Rattle.theory.proofs.Look.{never, look_lt, look_there, look_map}
use Rattle.theory.proofs.Labels.{LabIn, LabsIn}
use Rattle.theory.proofs.Folding.{Equal, any_map, on_pair_mono, folds_lays}
use Rattle.theory.proofs.Bridge.{tree_means}
use Rattle.theory.proofs.Marks.{QueryTree, query_tree}
use Rattle.theory.proofs.Entries.{Entry, entries, Part, part_head, part_kids, part_rest, part_self, Has, Below, entry_parent, Deep, entry_deep, Marked, place_of, place_marked, marked_place}

-- ------------------------------------------------------------------ the document
-- a wildcard wears c
abbrev worn : ℕ → Lab → ℕ
worn c any = c
worn c (lab l) = l

abbrev parent_number : Option ℕ → ℕ
parent_number none = 0
parent_number (some p) = p

abbrev doc_entry : ℕ → Entry → DocRow
doc_entry c x = record { parent = parent_number x.up; label = worn c x.tag.lab }

abbrev pub canon : ℕ → Forest Tag → Doc
canon c F = map (doc_entry c) (entries F none 0)

get_d_look : {A : Type 0} (xs : List A) (i : ℕ) (x d : A) → look xs i ≡ some x → get_or xs i d ≡ x
get_d_look [] i x d e = never cc
get_d_look (y ∷ xs) zero x d e = cc
get_d_look (y ∷ xs) (suc i) x d e = get_d_look xs i x d e

module _ (c : ℕ) (F : Forest Tag) where
  canon_row : (i : ℕ) (x : Entry) → look (entries F none 0) i ≡ some x → doc_row (canon c F) i ≡ doc_entry c x
  canon_row i x e =
      get_d_look (canon c F) i (doc_entry c x) (record { parent = 0; label = 0 }) (look_map (doc_entry c) (entries F none 0) i ∙ ap (mapped (doc_entry c)) e)

  canon_in : (i : ℕ) (x : Entry) → look (entries F none 0) i ≡ some x → In (canon c F) i
  canon_in i x e = let l = length-map (entries F none 0) (doc_entry c) in let z = look_lt (entries F none 0) i e in omega arith

  in_canon : (i : ℕ) → In (canon c F) i → (x : Entry) × (look (entries F none 0) i ≡ some x)
  in_canon i lt = let l = length-map (entries F none 0) (doc_entry c) in look_there (entries F none 0) i (omega arith)

-- every node but the root has its parent before it
pub canon_document : (c : ℕ) (a : Tag) (k : Forest Tag) → Document (canon c (tree a k bare))
canon_document c a k = (omega arith, up)
  where
    up : (n : ℕ) → 0 < n → n < length (canon c (tree a k bare)) → (doc_row (canon c (tree a k bare)) n).parent < n
    up zero lo hi = absurd (omega arith)
    up (suc i) lo hi = go (in_canon c (tree a k bare) (suc i) hi)
      where
        go : (x : Entry) × (look (entries (tree a k bare) none 0) (suc i) ≡ some x) → (doc_row (canon c (tree a k bare)) (suc i)).parent < suc i
        go (x, e) =
            let w = entry_parent a k i x e in
            let q : (doc_row (canon c (tree a k bare)) (suc i)).parent ≡ w.0 = ap (λ z. z.parent) (canon_row c (tree a k bare) (suc i) x e) ∙ ap parent_number w.4 in
            let lt = w.2 in omega arith

-- ------------------------------------------------------------------ a tree lies on its own document
fits_worn : (c : ℕ) (l : Lab) → Fits l (worn c l)
fits_worn c any = tt
fits_worn c (lab l) = refl

module _ (c : ℕ) (F : Forest Tag) (oneS : count src F ≡ 1) (oneD : count dst F ≡ 1) where
  -- node on node
  abbrev OwnPair : Tag → ℕ → Type 0
  OwnPair = OnPair (canon c F) (place_of src F) (place_of dst F)

  own_mark : (q : Tag → Bool) → count q F ≡ 1 → (i : ℕ) (x : Entry) → look (entries F none 0) i ≡ some x → MarkOn (q x.tag) i (place_of q F)
  own_mark q one i x e = go (q x.tag) refl
    where
      go : (t : Bool) → q x.tag ≡ t → MarkOn t i (place_of q F)
      go false et = tt
      go true et = marked_place q F one i (x, e, et)

  own_on : (i : ℕ) (x : Entry) → look (entries F none 0) i ≡ some x → OwnPair x.tag i
  own_on i x e =
      (subst (λ r. Fits x.tag.lab r.label) (sym (canon_row c F i x e)) (fits_worn c x.tag.lab), own_mark src oneS i x e, own_mark dst oneD i x e)

  own_lays : (f : Forest Tag) (p b : ℕ) → Part (entries F none 0) f (some p) b → p < b → Lays (canon c F) OwnPair f (some p)
  own_lays bare p b part lt = tt
  own_lays (tree a k r) p b part lt =
      let e = part_head (entries F none 0) a k r (some p) b part in
      let x : Entry = record { up = some p; tag = a; kids = k } in (
        (
          b,
          record { inside = canon_in c F b x e; lower = lt; above = ap (λ z. z.parent) (canon_row c F b x e) },
          own_on b x e,
          own_lays k b (suc b) (part_kids (entries F none 0) a k r (some p) b part) (omega arith),
        ),
        own_lays r p (suc b + size k) (part_rest (entries F none 0) a k r (some p) b part) (omega arith),
      )

-- a tree takes its own s and d on its own document
pub own_takes : (c : ℕ) (a : Tag) (k : Forest Tag) → count src (tree a k bare) ≡ 1 → count dst (tree a k bare) ≡ 1
    → Takes (tree a k bare) (canon c (tree a k bare)) (place_of src (tree a k bare)) (place_of dst (tree a k bare))
own_takes c a k oneS oneD =
    let F : Forest Tag = tree a k bare in
    let x : Entry = record { up = none; tag = a; kids = k } in
    ((0, canon_in c F 0 x refl, own_on c F oneS oneD 0 x refl, own_lays c F oneS oneD k 0 1 (part_kids (entries F none 0) a k bare none 0 (part_self F none)) (omega arith)), tt)

-- ------------------------------------------------------------------ what lies on the canonical document folds
-- a label that is not c fits only where the tree bears it
lab_le : (c : ℕ) (l l' : Lab) → LabIn (λ x. x ≢ c) l → Fits l (worn c l') → LabLe l l'
lab_le c any l' av fit = tt
lab_le c (lab l) any av fit = av fit
lab_le c (lab l) (lab l') av fit = fit

module _ (c : ℕ) (a₀ : Tag) (k₀ : Forest Tag) (oneS : count src (tree a₀ k₀ bare) ≡ 1) (oneD : count dst (tree a₀ k₀ bare) ≡ 1) where
  abbrev F : Forest Tag
  F = tree a₀ k₀ bare

  abbrev S : List Entry
  S = entries (tree a₀ k₀ bare) none 0

  abbrev D : Doc
  D = canon c (tree a₀ k₀ bare)

  abbrev On : Tag → ℕ → Type 0
  On = OnPair (canon c (tree a₀ k₀ bare)) (place_of src (tree a₀ k₀ bare)) (place_of dst (tree a₀ k₀ bare))

  mark_le : (q : Tag → Bool) → count q F ≡ 1 → (t : Bool) (i : ℕ) (x : Entry) → look S i ≡ some x → MarkOn t i (place_of q F) → MarkLe t (q x.tag)
  mark_le q one false i x e on = tt
  mark_le q one true i x e on = go (place_marked q F one)
    where
      go : Marked q S (place_of q F) → MarkLe true (q x.tag)
      go (y, e', t) = let e'' : look S i ≡ some y = ap (look S) on ∙ e' in let z : q x.tag ≡ true = cc in rw z tt

  tag_le : (t : Tag) (i : ℕ) (x : Entry) → look S i ≡ some x → LabIn (λ l. l ≢ c) t.lab → On t i → TagLe t x.tag
  tag_le t i x e av (fit, s, d) =
      (lab_le c t.lab x.tag.lab av (subst (λ r. Fits t.lab r.label) (canon_row c F i x e) fit), mark_le src oneS t.src i x e s, mark_le dst oneD t.dst i x e d)

  -- a child on the document is a child in the tree
  child_entry : (i j : ℕ) (y : Entry) → look S i ≡ some y → Child D i j → (x : Entry) × (look S j ≡ some x) × Has x.tag x.kids y.kids
  child_entry i zero y e ch = let lt = ch.lower in absurd (omega arith)
  child_entry i (suc j) y e ch = go (in_canon c F (suc j) ch.inside)
    where
      go : (x : Entry) × (look S (suc j) ≡ some x) → (x : Entry) × (look S (suc j) ≡ some x) × Has x.tag x.kids y.kids
      go (x, ex) = up (entry_parent a₀ k₀ j x ex)
        where
          up : Below S (suc j) x → (x : Entry) × (look S (suc j) ≡ some x) × Has x.tag x.kids y.kids
          up (i', y', lt, e', u, h) =
              let q : i ≡ i' = sym ch.above ∙ ap (λ z. z.parent) (canon_row c F (suc j) x ex) ∙ ap parent_number u in
              let e'' : look S i ≡ some y' = ap (look S) q ∙ e' in
              let z : y' ≡ y = cc in
              (x, ex, subst (λ w. Has x.tag x.kids w.kids) z h)

  lays_folds : (g : Forest Tag) (i : ℕ) (y : Entry) → look S i ≡ some y → LabsIn (λ l. l ≢ c) g → Lays D On g (some i) → Folds g y.kids
  lays_folds bare i y e av x = tt
  lays_folds (tree t u r) i y e (av, avu, avr) ((j, ch, on, lu), lr) =
      (go (child_entry i j y e ch) (λ x ex. lays_folds u j x ex avu lu), lays_folds r i y e avr lr)
    where
      go : (x : Entry) × (look S j ≡ some x) × Has x.tag x.kids y.kids → ((x : Entry) → look S j ≡ some x → Folds u x.kids)
          → Any (Onto t u) y.kids
      go (x, ex, h) ih = any_map (λ b k (eb, ek). (subst (TagLe t) eb (tag_le t j x ex av on), subst (Folds u) ek (ih x ex))) y.kids h

  -- a tree without the label c that takes this tree's own s and d folds onto its top or onto a node below
  pub takes_folds : (t : Tag) (u : Forest Tag) → LabsIn (λ l. l ≢ c) (tree t u bare) → Takes (tree t u bare) D (place_of src F) (place_of dst F)
      → Deep (Onto t u) F
  takes_folds t u (av, avu, tt') ((v, lt, on, lu), z) =
      let w = in_canon c F v lt in
      entry_deep (Onto t u) F none 0 v w.0 w.1 (tag_le t v w.0 w.1 av on, lays_folds u v w.0 w.1 avu lu)

-- ------------------------------------------------------------------ a label that is found nowhere
-- above every label of the forest
abbrev pub fresh : Forest Tag → ℕ
fresh bare = 0
fresh (tree a k r) = lab_code a.lab + (fresh k + fresh r)

pub fresh_labels : (f : Forest Tag) (c : ℕ) → fresh f ≤ c → LabsIn (λ l. l ≢ c) f
fresh_labels bare c le = tt
fresh_labels (tree a k r) c le = (go a.lab (omega arith), fresh_labels k c (omega arith), fresh_labels r c (omega arith))
  where
    go : (l : Lab) → lab_code l ≤ c → LabIn (λ x. x ≢ c) l
    go any le' = tt
    go (lab l) le' = λ e. omega arith

-- what takes no less than a tree folds onto its top or onto a node below
pub contained_folds : (a : Tag) (k : Forest Tag) (b : Tag) (j : Forest Tag) → count src (tree a k bare) ≡ 1 → count dst (tree a k bare) ≡ 1
    → ((D : Doc) → Document D → (m n : ℕ) → Takes (tree a k bare) D m n → Takes (tree b j bare) D m n) → Deep (Onto b j) (tree a k bare)
contained_folds a k b j oneS oneD le =
    let c : ℕ = fresh (tree b j bare) in
    takes_folds c a k oneS oneD b j (fresh_labels (tree b j bare) c (omega arith))
    (le (canon c (tree a k bare)) (canon_document c a k) (place_of src (tree a k bare)) (place_of dst (tree a k bare)) (own_takes c a k oneS oneD))

-- .. and what folds so takes no less
module _ (D : Doc) (m n : ℕ) (b : Tag) (j : Forest Tag) where
  under_in : (v : Option ℕ) (w : ℕ) → Under D v w → In D w
  under_in none w u = u
  under_in (some v) w u = u.inside

  deep_lays : (f : Forest Tag) (v : Option ℕ) → Deep (Onto b j) f → Lays D (OnPair D m n) f v
      → (w : ℕ) × In D w × OnPair D m n b w × Lays D (OnPair D m n) j (some w)
  deep_lays bare v x l = absurd x
  deep_lays (tree a k r) v (inl (p, o)) ((w, u, on, l), l') =
      (w, under_in v w u, on_pair_mono D m n b a w p on, folds_lays D (OnPair D m n) (on_pair_mono D m n) j k (some w) o l)
  deep_lays (tree a k r) v (inr (inl x)) ((w, u, on, l), l') = deep_lays k (some w) x l
  deep_lays (tree a k r) v (inr (inr x)) (l, l') = deep_lays r v x l'

  pub folds_contained : (a : Tag) (k : Forest Tag) → Deep (Onto b j) (tree a k bare) → Takes (tree a k bare) D m n → Takes (tree b j bare) D m n
  folds_contained a k x l = (deep_lays (tree a k bare) none x l, tt)

-- ------------------------------------------------------------------ heights
-- the number of levels
abbrev pub height : {A : Type 0} → Forest A → ℕ
height bare = 0
height (tree a k r) = max (suc (height k)) (height r)

any_height : (P : Tag → Forest Tag → Type 0) (h : ℕ) (g : Forest Tag) → ((b : Tag) (j : Forest Tag) → P b j → h ≤ height j) → Any P g
    → suc h ≤ height g
any_height P h bare low x = absurd x
any_height P h (tree b j r) low (inl p) = let z = low b j p in omega arith
any_height P h (tree b j r) low (inr x) = let z = any_height P h r low x in omega arith

folds_height : (f g : Forest Tag) → Folds f g → height f ≤ height g
folds_height bare g x = omega arith
folds_height (tree a k r) g (x, y) =
    let p = any_height (Onto a k) (height k) g (λ b j o. folds_height k j o.1) x in let q = folds_height r g y in omega arith

deep_height : (a : Tag) (k f : Forest Tag) → Deep (Onto a k) f → suc (height k) ≤ height f
deep_height a k bare x = absurd x
deep_height a k (tree b j r) (inl (t, o)) = let z = folds_height k j o in omega arith
deep_height a k (tree b j r) (inr (inl x)) = let z = deep_height a k j x in omega arith
deep_height a k (tree b j r) (inr (inr x)) = let z = deep_height a k r x in omega arith

-- a tree that is not lower folds onto the top or nowhere
deep_top : (a : Tag) (k : Forest Tag) (b : Tag) (j : Forest Tag) → height j ≤ height k → Deep (Onto a k) (tree b j bare) → Onto a k b j
deep_top a k b j le (inl o) = o
deep_top a k b j le (inr (inl x)) = let z = deep_height a k j x in absurd (omega arith)
deep_top a k b j le (inr (inr x)) = absurd x

-- "the paper's minimality claims": two trees that take the same pairs on every document fold onto each other, top onto top
pub mutual_folds : (a : Tag) (k : Forest Tag) (b : Tag) (j : Forest Tag) → count src (tree a k bare) ≡ 1 → count dst (tree a k bare) ≡ 1
    → count src (tree b j bare) ≡ 1 → count dst (tree b j bare) ≡ 1 → Agree (Takes (tree a k bare)) (Takes (tree b j bare))
    → Onto a k b j × Onto b j a k
mutual_folds a k b j sa da sb db eq =
    let x : Deep (Onto a k) (tree b j bare) = contained_folds b j a k sb db (λ D good m n. (eq D good m n).1) in
    let y : Deep (Onto b j) (tree a k bare) = contained_folds a k b j sa da (λ D good m n. (eq D good m n).0) in
    let hx = deep_height a k (tree b j bare) x in
    let hy = deep_height b j (tree a k bare) y in
    (deep_top a k b j (omega arith) x, deep_top b j a k (omega arith) y)

-- .. and so do the trees of two tree queries
pub agree_equal : (f g : Forest Tag) → QueryTree f → QueryTree g → Agree (Takes f) (Takes g) → Equal f g
agree_equal f g x y eq =
    let (o, o') = mutual_folds x.root x.below y.root y.below (rw x.top at x.source) (rw x.top at x.dest) (rw y.top at y.source) (rw y.top at y.dest)
    (rw (x.top, y.top) at eq) in
    rw (x.top, y.top) ((inl o, tt), (inl o', tt))

-- ------------------------------------------------------------------ no tree query is empty
-- a tree query selects a pair on some document
pub inhabited : (Q : Query) → TreeQuery Q → (D : Doc) × Document D × ((m : ℕ) × (n : ℕ) × Selects Q D m n)
inhabited Q q = go (tree_of Q) (query_tree Q q) (tree_means Q q)
  where
    go : (f : Forest Tag) → QueryTree f → ((D : Doc) (m n : ℕ) → Selects Q D m n ↔ Takes f D m n)
        → (D : Doc) × Document D × ((m : ℕ) × (n : ℕ) × Selects Q D m n)
    go f t means =
        let F : Forest Tag = tree t.root t.below bare in (
          canon 0 F,
          canon_document 0 t.root t.below,
          (
            place_of src F,
            place_of dst F,
            (means (canon 0 F) (place_of src F) (place_of dst F)).1
                (rw t.top (own_takes 0 t.root t.below (rw t.top at t.source) (rw t.top at t.dest))),
          ),
        )
