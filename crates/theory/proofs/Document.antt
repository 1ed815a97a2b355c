-- Document tables and finite labelled trees are the same thing: each tree, built from a label and the trees below it, has a table with the same
-- nodes, labels and children, and each document table is the table of such a tree.
use mathlib.Core.Path.{◌≡◌, refl, sym, ap, subst, ◌∙◌}
use mathlib.Core.Logic.{◌↔◌, ◌⊎◌, inl, inr}
use mathlib.Core.List.{[], ◌∷◌, ◌++◌}
use Prim.Native.Nat.{ℕ, zero, suc, ◌+◌, ◌-◌, ◌≤◌, ◌<◌}
use native.Mathlib.Decide.{dec_lt, ℕ_discrete}
use native.Mathlib.Omega.{arith}
use lib.ListN.{length, length-append, get_or-append}
use lib.Seq.{get_or-append-add}
use Rattle.meaning.specs.Basics.{dec_both}
use Rattle.meaning.specs.Document.{Doc, doc_row, label_of, In, Child, Document}
use Rattle.meaning.specs.Tree.{Forest, bare, tree, size}

-- ------------------------------------------------------------------ finite labelled trees
-- the nodes of a forest: the first tree's top, those below it, those of the later brothers
abbrev pub Node : Forest ℕ → Type 0
Node bare = ⊥
Node (tree a k r) = Unit {0} ⊎ (Node k ⊎ Node r)

abbrev pub label_at : (f : Forest ℕ) → Node f → ℕ
label_at bare p = 0
label_at (tree a k r) (inl p) = a
label_at (tree a k r) (inr (inl p)) = label_at k p
label_at (tree a k r) (inr (inr p)) = label_at r p

-- p is one of the tops
abbrev pub Top : (f : Forest ℕ) → Node f → Type 0
Top bare p = ⊥
Top (tree a k r) (inl p) = Unit {0}
Top (tree a k r) (inr (inl p)) = ⊥
Top (tree a k r) (inr (inr p)) = Top r p

-- what lies below p, and where it stands
abbrev pub kids : (f : Forest ℕ) → Node f → Forest ℕ
kids bare p = bare
kids (tree a k r) (inl p) = k
kids (tree a k r) (inr (inl p)) = kids k p
kids (tree a k r) (inr (inr p)) = kids r p

abbrev pub out : (f : Forest ℕ) (p : Node f) → Node (kids f p) → Node f
out bare p q = p
out (tree a k r) (inl p) q = inr (inl q)
out (tree a k r) (inr (inl p)) q = inr (inl (out k p q))
out (tree a k r) (inr (inr p)) q = inr (inr (out r p q))

-- q is a child of p: one of the tops there
abbrev pub Below : (f : Forest ℕ) → Node f → Node f → Type 0
Below f p q = (x : Node (kids f p)) × Top (kids f p) x × (out f p x ≡ q)

-- the table D has the nodes of f, each once, with their labels and their children
pub record TableOf (f : Forest ℕ) (D : Doc) : Type 0 where
  pub number : Node f → ℕ
  pub inside : (p : Node f) → In D (number p)
  pub once : (p q : Node f) → number p ≡ number q → p ≡ q
  pub every : (n : ℕ) → In D n → (p : Node f) × (number p ≡ n)
  pub labels : (p : Node f) → label_of D (number p) ≡ label_at f p
  pub children : (p q : Node f) → Below f p q ↔ Child D (number p) (number q)

-- ------------------------------------------------------------------ numbers in preorder
abbrev number_in : (f : Forest ℕ) → Node f → ℕ
number_in bare p = 0
number_in (tree a k r) (inl p) = 0
number_in (tree a k r) (inr (inl p)) = suc (number_in k p)
number_in (tree a k r) (inr (inr p)) = suc (size k + number_in r p)

number_lt : (f : Forest ℕ) (p : Node f) → number_in f p < size f
number_lt bare p = absurd p
number_lt (tree a k r) (inl p) = omega arith
number_lt (tree a k r) (inr (inl p)) = let z = number_lt k p in omega arith
number_lt (tree a k r) (inr (inr p)) = let z = number_lt r p in omega arith

number_once : (f : Forest ℕ) (p q : Node f) → number_in f p ≡ number_in f q → p ≡ q
number_once bare p q e = absurd p
number_once (tree a k r) (inl p) (inl q) e = refl
number_once (tree a k r) (inl p) (inr (inl q)) e = absurd (omega arith)
number_once (tree a k r) (inl p) (inr (inr q)) e = absurd (omega arith)
number_once (tree a k r) (inr (inl p)) (inl q) e = absurd (omega arith)
number_once (tree a k r) (inr (inl p)) (inr (inl q)) e = ap (λ z. inr (inl z)) (number_once k p q (omega arith))
number_once (tree a k r) (inr (inl p)) (inr (inr q)) e = let z = number_lt k p in absurd (omega arith)
number_once (tree a k r) (inr (inr p)) (inl q) e = absurd (omega arith)
number_once (tree a k r) (inr (inr p)) (inr (inl q)) e = let z = number_lt k q in absurd (omega arith)
number_once (tree a k r) (inr (inr p)) (inr (inr q)) e = ap (λ z. inr (inr z)) (number_once r p q (omega arith))

number_every : (f : Forest ℕ) (n : ℕ) → n < size f → (p : Node f) × (number_in f p ≡ n)
number_every bare n lt = absurd (omega arith)
number_every (tree a k r) zero lt = (inl tt, refl)
number_every (tree a k r) (suc n) lt = go (λ l. number_every k n l) (λ l. number_every r (n - size k) l) (dec_lt n (size k))
  where
    go : (n < size k → (p : Node k) × (number_in k p ≡ n)) → (n - size k < size r → (p : Node r) × (number_in r p ≡ n - size k)) → Dec (n < size k)
        → (p : Node (tree a k r)) × (number_in (tree a k r) p ≡ suc n)
    go in_k in_r (yes l) = let w = in_k l in (inr (inl w.0), ap suc w.1)
    go in_k in_r (no nl) = let w = in_r (omega arith) in let e = w.1 in (inr (inr w.0), omega arith)

-- ------------------------------------------------------------------ the table
-- the rows of a forest whose tops have the parent number u, numbered from b
abbrev rows_of : Forest ℕ → ℕ → ℕ → Doc
rows_of bare u b = []
rows_of (tree a k r) u b = record { parent = u; label = a } ∷ (rows_of k b (suc b) ++ rows_of r u (suc b + size k))

-- the parent number of a node there
abbrev parent_in : (f : Forest ℕ) → ℕ → ℕ → Node f → ℕ
parent_in bare u b p = u
parent_in (tree a k r) u b (inl p) = u
parent_in (tree a k r) u b (inr (inl p)) = parent_in k b (suc b) p
parent_in (tree a k r) u b (inr (inr p)) = parent_in r u (suc b + size k) p

length_rows : (f : Forest ℕ) (u b : ℕ) → length (rows_of f u b) ≡ size f
length_rows bare u b = refl
length_rows (tree a k r) u b =
    let x = length_rows k b (suc b) in
    let y = length_rows r u (suc b + size k) in
    let z = length-append (rows_of k b (suc b)) (rows_of r u (suc b + size k)) in omega arith

row_at : (f : Forest ℕ) (u b : ℕ) (p : Node f) → doc_row (rows_of f u b) (number_in f p) ≡ record { parent = parent_in f u b p; label = label_at f p }
row_at bare u b p = absurd p
row_at (tree a k r) u b (inl p) = refl
row_at (tree a k r) u b (inr (inl p)) =
    get_or-append (rows_of k b (suc b)) (rows_of r u (suc b + size k)) (record { parent = 0; label = 0 }) (number_in k p)
    (rw (length_rows k b (suc b)) (number_lt k p))
    ∙ row_at k b (suc b) p
row_at (tree a k r) u b (inr (inr p)) =
    ap (doc_row (rows_of k b (suc b) ++ rows_of r u (suc b + size k))) (ap (λ z. z + number_in r p) (sym (length_rows k b (suc b))))
    ∙ get_or-append-add (rows_of k b (suc b)) (rows_of r u (suc b + size k)) (number_in r p) (record { parent = 0; label = 0 })
    ∙ row_at r u (suc b + size k) p

-- ------------------------------------------------------------------ parents
parent_top : (f : Forest ℕ) (u b : ℕ) (q : Node f) → Top f q → parent_in f u b q ≡ u
parent_top bare u b q t = absurd q
parent_top (tree a k r) u b (inl q) t = refl
parent_top (tree a k r) u b (inr (inl q)) t = absurd t
parent_top (tree a k r) u b (inr (inr q)) t = parent_top r u (suc b + size k) q t

parent_out : (f : Forest ℕ) (u b : ℕ) (p : Node f) (x : Node (kids f p)) → Top (kids f p) x
    → (parent_in f u b (out f p x) ≡ b + number_in f p) × (number_in f p < number_in f (out f p x))
parent_out bare u b p x t = absurd p
parent_out (tree a k r) u b (inl p) x t = let z = parent_top k b (suc b) x t in (omega arith, omega arith)
parent_out (tree a k r) u b (inr (inl p)) x t = let (e, l) = parent_out k b (suc b) p x t in (omega arith, omega arith)
parent_out (tree a k r) u b (inr (inr p)) x t = let (e, l) = parent_out r u (suc b + size k) p x t in (omega arith, omega arith)

parent_below : (f : Forest ℕ) (u b : ℕ) (p q : Node f) → Below f p q → (parent_in f u b q ≡ b + number_in f p) × (number_in f p < number_in f q)
parent_below f u b p q (x, t, e) = subst (λ z. (parent_in f u b z ≡ b + number_in f p) × (number_in f p < number_in f z)) e (parent_out f u b p x t)

-- every node is a top or some node's child
kin : (f : Forest ℕ) (q : Node f) → Top f q ⊎ ((p : Node f) × Below f p q)
kin bare q = absurd q
kin (tree a k r) (inl q) = inl tt
kin (tree a k r) (inr (inl q)) = go (kin k q)
  where
    go : Top k q ⊎ ((p : Node k) × Below k p q) → Top (tree a k r) (inr (inl q)) ⊎ ((p : Node (tree a k r)) × Below (tree a k r) p (inr (inl q)))
    go (inl t) = inr (inl tt, (q, t, refl))
    go (inr (p, l)) = inr (inr (inl p), (l.0, l.1, ap (λ z. inr (inl z)) l.2))
kin (tree a k r) (inr (inr q)) = go (kin r q)
  where
    go : Top r q ⊎ ((p : Node r) × Below r p q) → Top (tree a k r) (inr (inr q)) ⊎ ((p : Node (tree a k r)) × Below (tree a k r) p (inr (inr q)))
    go (inl t) = inl t
    go (inr (p, l)) = inr (inr (inr p), (l.0, l.1, ap (λ z. inr (inr z)) l.2))

-- a tree has one top
top_one : (a : ℕ) (k : Forest ℕ) (q : Node (tree a k bare)) → Top (tree a k bare) q → q ≡ inl tt
top_one a k (inl q) t = refl
top_one a k (inr (inl q)) t = absurd t
top_one a k (inr (inr q)) t = absurd q

-- ------------------------------------------------------------------ the theorem
module _ (a : ℕ) (k : Forest ℕ) where
  abbrev F : Forest ℕ
  F = tree a k bare

  abbrev D : Doc
  D = rows_of F 0 0

  in_table : (q : Node F) → In D (number_in F q)
  in_table q = subst (λ z. number_in F q < z) (sym (length_rows F 0 0)) (number_lt F q)

  found : (n : ℕ) → In D n → (p : Node F) × (number_in F p ≡ n)
  found n lt = number_every F n (subst (λ z. n < z) (length_rows F 0 0) lt)

  parent_of : (q : Node F) → (doc_row D (number_in F q)).parent ≡ parent_in F 0 0 q
  parent_of q = ap (λ z. z.parent) (row_at F 0 0 q)

  up : (p q : Node F) → Below F p q → Child D (number_in F p) (number_in F q)
  up p q l =
      let w = parent_below F 0 0 p q l in
      record { inside = in_table q; lower = w.1; above = parent_of q ∙ w.0 ∙ (let z : 0 + number_in F p ≡ number_in F p = omega arith in z) }

  down : (p q : Node F) → Child D (number_in F p) (number_in F q) → Below F p q
  down p q c = go (kin F q)
    where
      go : Top F q ⊎ ((x : Node F) × Below F x q) → Below F p q
      go (inl t) = let z = ap (number_in F) (top_one a k q t) in let l = c.lower in absurd (omega arith)
      go (inr (x, l)) =
          let e : 0 + number_in F x ≡ number_in F p = sym (parent_below F 0 0 x q l).0 ∙ sym (parent_of q) ∙ c.above in
          subst (λ z. Below F z q) (number_once F x p (omega arith)) l

  good : Document D
  good = (omega arith, λ n pos lt. at n pos (found n lt))
    where
      at : (n : ℕ) → 0 < n → (p : Node F) × (number_in F p ≡ n) → (doc_row D n).parent < n
      at n pos (q, e) = go (kin F q)
        where
          go : Top F q ⊎ ((x : Node F) × Below F x q) → (doc_row D n).parent < n
          go (inl t) = let z = ap (number_in F) (top_one a k q t) in absurd (omega arith)
          go (inr (x, l)) =
              let w = parent_below F 0 0 x q l in
              let lt = w.1 in
              let p : (doc_row D n).parent ≡ 0 + number_in F x = ap (λ z. (doc_row D z).parent) (sym e) ∙ parent_of q ∙ w.0 in omega arith

  -- "every finite labelled tree" is a document
  pub tree_document : (E : Doc) × Document E × TableOf (tree a k bare) E
  tree_document = (
    D,
    good,
    record {
      number = number_in F;
      inside = in_table;
      once = number_once F;
      every = found;
      labels = λ p. ap (λ z. z.label) (row_at F 0 0 p);
      children = λ p q. (up p q, down p q);
    },
  )

-- ------------------------------------------------------------------ and back: the tree of a document
module _ (D : Doc) where
  -- M puts the tops of k on the children of row u with numbers under n, one on each
  record Brood (u n : ℕ) (k : Forest ℕ) (M : Node k → ℕ) : Type 0 where
    tops : (q : Node k) → Top k q → Child D u (M q) × (M q < n)
    one : (p q : Node k) → Top k p → Top k q → M p ≡ M q → p ≡ q
    all : (m : ℕ) → Child D u m → m < n → (q : Node k) × Top k q × (M q ≡ m)

  -- N puts each node on a row with its label, and its children on that row's children
  abbrev Laid : (f : Forest ℕ) → (Node f → ℕ) → Type 0
  Laid f N = (p : Node f) → In D (N p) × (label_of D (N p) ≡ label_at f p) × Brood (N p) (length D) (kids f p) (λ q. N (out f p q))

  -- such trees for the children of row u with numbers under n
  abbrev Grown : ℕ → ℕ → Type 0
  Grown u n = (k : Forest ℕ) × (M : Node k → ℕ) × Brood u n k M × Laid k M

  abbrev on : {K R : Type 0} → ℕ → (K → ℕ) → (R → ℕ) → Unit {0} ⊎ (K ⊎ R) → ℕ
  on b M N (inl p) = b
  on b M N (inr (inl q)) = M q
  on b M N (inr (inr q)) = N q

  laid_on : (b : ℕ) (k r : Forest ℕ) (M : Node k → ℕ) (N : Node r → ℕ) → In D b → Brood b (length D) k M → Laid k M → Laid r N
      → Laid (tree (label_of D b) k r) (on b M N)
  laid_on b k r M N i w lk lr (inl p) = (i, refl, w)
  laid_on b k r M N i w lk lr (inr (inl p)) = lk p
  laid_on b k r M N i w lk lr (inr (inr p)) = lr p

  -- row n is one of them ..
  taken : (u n : ℕ) → Child D u n → Grown n (length D) → Grown u n → Grown u (suc n)
  taken u n c (k, M, w, lk) (r, N, v, lr) =
      (F, on n M N, record { tops = tops; one = one; all = λ m d lt. all m d lt (ℕ_discrete m n) }, laid_on n k r M N c.inside w lk lr)
    where
      F : Forest ℕ
      F = tree (label_of D n) k r

      tops : (q : Node F) → Top F q → Child D u (on n M N q) × (on n M N q < suc n)
      tops (inl q) t = (c, omega arith)
      tops (inr (inl q)) t = absurd t
      tops (inr (inr q)) t = let (d, lt) = v.tops q t in (d, omega arith)

      one : (p q : Node F) → Top F p → Top F q → on n M N p ≡ on n M N q → p ≡ q
      one (inl p) (inl q) t t' e = refl
      one (inl p) (inr (inl q)) t t' e = absurd t'
      one (inl p) (inr (inr q)) t t' e = let (d, lt) = v.tops q t' in absurd (omega arith)
      one (inr (inl p)) q t t' e = absurd t
      one (inr (inr p)) (inl q) t t' e = let (d, lt) = v.tops p t in absurd (omega arith)
      one (inr (inr p)) (inr (inl q)) t t' e = absurd t'
      one (inr (inr p)) (inr (inr q)) t t' e = ap (λ z. inr (inr z)) (v.one p q t t' e)

      all : (m : ℕ) → Child D u m → m < suc n → Dec (m ≡ n) → (q : Node F) × Top F q × (on n M N q ≡ m)
      all m d lt (yes e) = (inl tt, tt, sym e)
      all m d lt (no ne) = let (q, t, e) = v.all m d (omega arith) in (inr (inr q), t, e)

  -- .. or not
  passed : (u n : ℕ) → ¬ Child D u n → Grown u n → Grown u (suc n)
  passed u n nc (k, M, w, lk) = (
    k,
    M,
    record {
      tops = λ q t. let (d, lt) = w.tops q t in (d, omega arith);
      one = w.one;
      all = λ m d lt. w.all m d (let ne : ¬ (m ≡ n) = λ e. nc (subst (Child D u) e d) in omega arith);
    },
    lk,
  )

  -- row by row, given what lies below the rows behind u
  brood : (u : ℕ) → ((v : ℕ) → u < v → v < length D → Grown v (length D)) → (n : ℕ) → n ≤ length D → Grown u n
  brood u rec zero le = (bare, λ q. 0, record { tops = λ q. absurd q; one = λ p. absurd p; all = λ m c lt. absurd (omega arith) }, λ p. absurd p)
  brood u rec (suc n) le = go (dec_both (dec_lt u n) (ℕ_discrete (doc_row D n).parent u)) (brood u rec n (omega arith))
    where
      go : Dec ((u < n) × ((doc_row D n).parent ≡ u)) → Grown u n → Grown u (suc n)
      go (yes (lt, e)) = taken u n (record { inside = omega arith; lower = lt; above = e }) (rec n lt (omega arith))
      go (no ne) = passed u n (λ c. ne (c.lower, c.above))

  grown : (b u : ℕ) → length D ≤ b + u → Grown u (length D)
  grown zero u le = brood u (λ v lt i. absurd (omega arith)) (length D) (omega arith)
  grown (suc b) u le = brood u (λ v lt i. grown b v (omega arith)) (length D) (omega arith)

  -- what lies below row 0, and the top on row 0
  module _ (good : Document D) (k : Forest ℕ) (M : Node k → ℕ) (w : Brood 0 (length D) k M) (lk : Laid k M) where
    abbrev T : Forest ℕ
    T = tree (label_of D 0) k bare

    abbrev N : Node (tree (label_of D 0) k bare) → ℕ
    N = on 0 M (λ _. 0)

    laid : Laid T N
    laid = laid_on 0 k bare M (λ _. 0) good.0 w lk (λ p. absurd p)

    below_child : (p q : Node T) → Below T p q → Child D (N p) (N q)
    below_child p q (x, t, e) = subst (λ z. Child D (N p) (N z)) e ((laid p).2.tops x t).0

    once_below : (b : ℕ) (p q : Node T) → N p < b → N p ≡ N q → p ≡ q
    once_below zero p q lt e = absurd (omega arith)
    once_below (suc b) p q lt e = go (kin T p) (kin T q) (once_below b)
      where
        go : Top T p ⊎ ((x : Node T) × Below T x p) → Top T q ⊎ ((y : Node T) × Below T y q) → ((x y : Node T) → N x < b → N x ≡ N y → x ≡ y) → p ≡ q
        go (inl t) (inl t') ih = top_one (label_of D 0) k p t ∙ sym (top_one (label_of D 0) k q t')
        go (inl t) (inr (y, d)) ih = let z = ap N (top_one (label_of D 0) k p t) in let s = below_child y q d in absurd (omega arith)
        go (inr (x, d)) (inl t) ih = let z = ap N (top_one (label_of D 0) k q t) in let s = below_child x p d in absurd (omega arith)
        go (inr (x, d)) (inr (y, d')) ih =
            let c = below_child x p d in
            let x≡y = ih x y (omega arith) (sym c.above ∙ ap (λ z. (doc_row D z).parent) e ∙ (below_child y q d').above) in
            let (v, t, ev) = d in
            let (z, t', ez) = subst (λ m. Below T m q) (sym x≡y) d' in
            sym ev ∙ ap (out T x) ((laid x).2.one v z t t' (ap N ev ∙ e ∙ ap N (sym ez))) ∙ ez

    every_below : (b n : ℕ) → n < b → In D n → (p : Node T) × (N p ≡ n)
    every_below zero n lt i = absurd (omega arith)
    every_below (suc b) zero lt i = (inl tt, refl)
    every_below (suc b) (suc n) lt i =
        let s = good.1 (suc n) (omega arith) i in
        let (p, e) = every_below b (doc_row D (suc n)).parent (omega arith) (omega arith) in
        let (x, t, ex) = (laid p).2.all (suc n) (record { inside = i; lower = omega arith; above = sym e }) i in
        (out T p x, ex)

    child_below : (p q : Node T) → Child D (N p) (N q) → Below T p q
    child_below p q c = let (x, t, e) = (laid p).2.all (N q) c c.inside in (x, t, once_below (suc (N q)) (out T p x) q (omega arith) e)

    stands : TableOf T D
    stands = record {
      number = N;
      inside = λ p. (laid p).0;
      once = λ p q e. once_below (suc (N p)) p q (omega arith) e;
      every = λ n i. every_below (suc n) n (omega arith) i;
      labels = λ p. (laid p).1;
      children = λ p q. (below_child p q, child_below p q);
    }

  -- every document is a finite labelled tree
  pub document_tree : Document D → (a : ℕ) × (k : Forest ℕ) × TableOf (tree a k bare) D
  document_tree good = let (k, M, w, lk) = grown (length D) 0 (omega arith) in (label_of D 0, k, stands good k M w lk)
