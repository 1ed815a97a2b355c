-- The plain tree query of an expression (paper, figures 9 and 10): it is a tree query and selects the pairs of the expression, it has at most
-- one node more than the expression has steps, and its labels are labels of the expression. One induction over the expression shows all three.
use mathlib.Core.Path.{◌≡◌, refl, sym, ap, ◌∙◌}
use mathlib.Core.Logic.{◌↔◌, ◌⊎◌, inl, inr}
use mathlib.Core.Option.{Option, none, some}
use mathlib.Core.List.{[], ◌∷◌}
use Prim.Native.Nat.{ℕ, zero, suc, ◌+◌, ◌≤◌}
use native.Mathlib.Omega.{arith}
use lib.ListN.{length}
use Rattle.meaning.specs.Basics.{mapped}
use Rattle.meaning.specs.Document.{Doc, In, Child, label_of}
use Rattle.meaning.specs.Expression.{Expr, empty, self, child, parent, label, comp, inter, proj1, proj2, inv, pairs, steps}
use Rattle.meaning.specs.TreeQuery.{Lab, any, lab, node, Table, at, Query, nodes, Root, Linked, TreeQuery, Fits, Laying, Selects}
use Rattle.meaning.specs.Gluing.{Glued, across, within, placed, composed, then_within, intersected, two, one_node, two_nodes, both_at_s, both_at_d, exchanged, plain}
use Rattle.theory.proofs.Look.{never}
use Rattle.theory.proofs.Labels.{LabelsIn}
use Rattle.theory.proofs.Gluing.{live_glued, laying_up, laying_down, still_glued}
use Rattle.theory.proofs.Apart.{Bears, bears_glued, AcrossO, across_glued, Within, within_glued}

-- ------------------------------------------------------------------ two operands glued
-- R is a tree query with the meaning S; it has fewer nodes than P and Q together, and no other labels
record Glues (S : Doc → ℕ → ℕ → Type 0) (P Q R : Query) : Type 0 where
  valid : TreeQuery R
  means : (D : Doc) (m n : ℕ) → S D m n ↔ Selects R D m n
  short : suc (nodes R) ≤ nodes P + nodes Q
  labels : (c : ℕ) → Bears R.rows c → Bears P.rows c ⊎ Bears Q.rows c

abbrev GluesO : (Doc → ℕ → ℕ → Type 0) → Query → Query → Option Query → Type 0
GluesO S P Q none = (D : Doc) (m n : ℕ) → S D m n → ⊥
GluesO S P Q (some R) = Glues S P Q R

-- the meanings of composition and of intersection
abbrev Comp : Query → Query → Doc → ℕ → ℕ → Type 0
Comp P Q D m n = (k : ℕ) × Selects P D m k × Selects Q D k n

abbrev Both : Query → Query → Doc → ℕ → ℕ → Type 0
Both P Q D m n = Selects P D m n × Selects Q D m n

module _ (P Q : Query) (vp : TreeQuery P) (vq : TreeQuery Q) where
  abbrev A : Table
  A = P.rows

  abbrev B : Table
  B = Q.rows

  -- "Composition glues the first's d to the second's s"
  composed_glues : GluesO (Comp P Q) P Q (composed P Q)
  composed_glues = go (across A P.d B Q.s) (across_glued vp.tree vq.tree P.d Q.s vp.d_live vq.s_live)
    where
      go : (o : Option Glued) → AcrossO A B P.d Q.s o → GluesO (Comp P Q) P Q (placed o P.s (length A + Q.d))
      go none c = λ D m n (k, (f, lay, fs, fd), (f', lay', fs', fd')). c D f f' lay lay' (fd ∙ sym fs')
      go (some g) a = record {
        valid = record { tree = a.tree; s_live = a.live_a P.s vp.s_live; d_live = a.live_b Q.d vq.d_live };
        means = λ D m n. (
          λ (k, (f, lay, fs, fd), (f', lay', fs', fd')).
              let (h, w, hA, hB) = a.down D f f' lay lay' (fd ∙ sym fs') in (h, w, hA P.s vp.s_live ∙ fs, hB Q.d ∙ fd'),
          λ (h, lay, hs, hd).
              let (layA, layB) = a.up D h lay in
              (h (g.to P.d), ((λ i. h (g.to i)), layA, hs, refl), ((λ j. h (g.to (length A + j))), layB, ap h (sym a.same), hd)),
        );
        short = a.short;
        labels = a.labels;
      }

  -- "intersection glues s to s, then d to d in that result"
  intersected_glues : GluesO (Both P Q) P Q (intersected P Q)
  intersected_glues = go (across A P.s B Q.s) (across_glued vp.tree vq.tree P.s Q.s vp.s_live vq.s_live)
    where
      go : (o : Option Glued) → AcrossO A B P.s Q.s o → GluesO (Both P Q) P Q (then_within o P.s P.d (length A + Q.d))
      go none c = λ D m n ((f, lay, fs, fd), (f', lay', fs', fd')). c D f f' lay lay' (fs ∙ sym fs')
      go (some g) a = next (within g.rows x y) (within_glued a.tree x y (a.live_a P.d vp.d_live) (a.live_b Q.d vq.d_live))
        where
          x : ℕ
          x = g.to P.d

          y : ℕ
          y = g.to (length A + Q.d)

          both : (D : Doc) (m n : ℕ) → Both P Q D m n → (h : ℕ → ℕ) × Laying D g.rows h × (h (g.to P.s) ≡ m) × (h x ≡ n) × (h x ≡ h y)
          both D m n ((f, lay, fs, fd), (f', lay', fs', fd')) =
              let (h, w, hA, hB) = a.down D f f' lay lay' (fs ∙ sym fs') in
              (h, w, hA P.s vp.s_live ∙ fs, hA P.d vp.d_live ∙ fd, hA P.d vp.d_live ∙ fd ∙ sym fd' ∙ sym (hB Q.d))

          next : (o : Option Glued) → Within g.rows x y o → GluesO (Both P Q) P Q (placed o (g.to P.s) x)
          next none c = λ D m n s. let (h, lay, hs, hd, e) = both D m n s in c D h lay e
          next (some g') (r, tree) = record {
            valid =
                record { tree = tree; s_live = live_glued r (g.to P.s) (a.live_a P.s vp.s_live); d_live = live_glued r x (a.live_a P.d vp.d_live) };
            means = λ D m n. (
              λ s. let (h, lay, hs, hd, e) = both D m n s in
                  let still = still_glued r D h lay e in
                  ((λ i. h (r.from i)), laying_down r D h lay e, still (g.to P.s) ∙ hs, still x ∙ hd),
              λ (h, lay, hs, hd).
                  let (layA, layB) = a.up D (λ i. h (g'.to i)) (laying_up r D h lay) in (
                    ((λ i. h (g'.to (g.to i))), layA, hs, hd),
                    ((λ j. h (g'.to (g.to (length A + j)))), layB, ap (λ z. h (g'.to z)) (sym a.same) ∙ hs, ap h (sym r.same) ∙ hd),
                  ),
            );
            short = omega (arith, r.fewer, a.short);
            labels = λ c b. a.labels c (bears_glued r c b);
          }

abbrev pub TreeO : Option Query → Type 0
TreeO none = Unit {0}
TreeO (some Q) = TreeQuery Q

-- ------------------------------------------------------------------ one node, and one edge
one_valid : (l : Lab) → TreeQuery (one_node l)
one_valid l = record {
  tree = record { lev = λ _. 0; linked = linked; top = 0; top_lev = refl; single = single };
  s_live = (none, l, refl);
  d_live = (none, l, refl);
}
  where
    linked : Linked (node none l ∷ []) (λ _. 0)
    linked zero p k e = never cc
    linked (suc i) p k e = never cc

    single : (i : ℕ) → Root (node none l ∷ []) i → i ≡ 0
    single zero r = refl
    single (suc i) (k, e) = never cc

one_selects : (l : Lab) (D : Doc) (m n : ℕ) → ((m ≡ n) × In D m × Fits l (label_of D m)) ↔ Selects (one_node l) D m n
one_selects l D m n =
    (λ (e, i, f). ((λ _. m), lay i f, refl, e), λ (h, lay, hs, hd). (sym hs ∙ hd, rw hs at (lay 0).0, rw hs at (lay 0).1))
  where
    lay : In D m → Fits l (label_of D m) → Laying D (node none l ∷ []) (λ _. m)
    lay i f zero = (i, f, tt)
    lay i f (suc j) = tt

abbrev edge : Table
edge = node none any ∷ node (some 0) any ∷ []

two_valid : TreeQuery (two_nodes 0 1)
two_valid = record {
  tree = record { lev = λ i. i; linked = linked; top = 0; top_lev = refl; single = single };
  s_live = (none, any, refl);
  d_live = (some 0, any, refl);
}
  where
    linked : Linked edge (λ i. i)
    linked zero p k e = never cc
    linked (suc zero) p k e = let z : 0 ≡ p = cc in ((none, any, ap (at edge) (sym z)), ap suc z)
    linked (suc (suc i)) p k e = never cc

    single : (i : ℕ) → Root edge i → i ≡ 0
    single zero r = refl
    single (suc zero) (k, e) = never cc
    single (suc (suc i)) (k, e) = never cc

two_selects : (D : Doc) (m n : ℕ) → Child D m n ↔ Selects (two_nodes 0 1) D m n
two_selects D m n = (λ c. (h, lay c, refl, refl), λ (h, lay, hs, hd). rw (hs, hd) at (lay 1).2)
  where
    h : ℕ → ℕ
    h zero = m
    h (suc i) = n

    lay : Child D m n → Laying D edge h
    lay c zero = (omega (arith, c.inside, c.lower), tt, tt)
    lay c (suc zero) = (c.inside, tt, c)
    lay c (suc (suc i)) = tt

-- ------------------------------------------------------------------ the plain tree query
abbrev pub Means : (Doc → ℕ → ℕ → Type 0) → Option Query → Type 0
Means S none = (D : Doc) (m n : ℕ) → S D m n → ⊥
Means S (some Q) = TreeQuery Q × ((D : Doc) (m n : ℕ) → S D m n ↔ Selects Q D m n)

abbrev pub AtMost : ℕ → Option Query → Type 0
AtMost n none = Unit {0}
AtMost n (some Q) = nodes Q ≤ n

-- each label of the rows has the property P
abbrev pub RowsIn : (ℕ → Type 0) → Option Query → Type 0
RowsIn P none = Unit {0}
RowsIn P (some Q) = (i : ℕ) (u : Option ℕ) (l : ℕ) → at Q.rows i ≡ some (node u (lab l)) → P l

-- what is proved of e and its tree query Q together
abbrev Built : (ℕ → Type 0) → Expr → Query → Type 0
Built P e Q = record {
  valid : TreeQuery Q;
  means : (D : Doc) (m n : ℕ) → pairs e D m n ↔ Selects Q D m n;
  few : nodes Q ≤ suc (steps e);
  labels : LabelsIn P e → RowsIn P (some Q);
}

abbrev BuiltO : (ℕ → Type 0) → Expr → Option Query → Type 0
BuiltO P e none = (D : Doc) (m n : ℕ) → pairs e D m n → ⊥
BuiltO P e (some Q) = Built P e Q

module _ (P : ℕ → Type 0) where
  one_labels : (l : Lab) → ((c : ℕ) → l ≡ lab c → P c) → RowsIn P (some (one_node l))
  one_labels l f zero u c e = f c cc
  one_labels l f (suc i) u c e = never cc

  two_labels : RowsIn P (some (two_nodes 0 1))
  two_labels zero u c e = never cc
  two_labels (suc zero) u c e = never cc
  two_labels (suc (suc i)) u c e = never cc

  -- two operands that are built, glued
  glues_built : (e e₁ e₂ : Expr) (S : Doc → ℕ → ℕ → Type 0) {Q₁ Q₂ : Query} → Built P e₁ Q₁ → Built P e₂ Q₂
      → steps e ≡ steps e₁ + steps e₂ → (LabelsIn P e → LabelsIn P e₁ × LabelsIn P e₂)
      → ((D : Doc) (m n : ℕ) → pairs e D m n ↔ S D m n) → (o : Option Query) → GluesO S Q₁ Q₂ o → BuiltO P e o
  glues_built e e₁ e₂ S w₁ w₂ es split eq none g = λ D m n a. g D m n ((eq D m n).0 a)
  glues_built e e₁ e₂ S {Q₁} {Q₂} w₁ w₂ es split eq (some R) g = record {
    valid = g.valid;
    means = λ D m n. (λ a. (g.means D m n).0 ((eq D m n).0 a), λ a. (eq D m n).1 ((g.means D m n).1 a));
    few = omega (arith, es, g.short, w₁.few, w₂.few);
    labels = λ p i u l e. side p l (g.labels l (i, u, e));
  }
    where
      side : LabelsIn P e → (l : ℕ) → Bears Q₁.rows l ⊎ Bears Q₂.rows l → P l
      side p l (inl (i, u, e)) = w₁.labels (split p).0 i u l e
      side p l (inr (i, u, e)) = w₂.labels (split p).1 i u l e

  -- "Projections move one mark to the other's node, inverse exchanges them."
  proj1_built : (e : Expr) (o : Option Query) → BuiltO P e o → BuiltO P (proj1 e) (mapped both_at_s o)
  proj1_built e none w = λ D m n (q, ka). w D m ka.0 ka.1
  proj1_built e (some Q) w = record {
    valid = record { tree = w.valid.tree; s_live = w.valid.s_live; d_live = w.valid.s_live };
    means = λ D m n. (
      λ (q, ka). let (h, lay, hs, hd) = (w.means D m ka.0).0 ka.1 in (h, lay, hs, hs ∙ q),
      λ (h, lay, hs, hd). (sym hs ∙ hd, (h Q.d, (w.means D m (h Q.d)).1 (h, lay, hs, refl))),
    );
    few = w.few;
    labels = w.labels;
  }

  inv_built : (e : Expr) (o : Option Query) → BuiltO P e o → BuiltO P (inv e) (mapped exchanged o)
  inv_built e none w = λ D m n a. w D n m a
  inv_built e (some Q) w = record {
    valid = record { tree = w.valid.tree; s_live = w.valid.d_live; d_live = w.valid.s_live };
    means = λ D m n.
        (λ a. let (h, lay, hs, hd) = (w.means D n m).0 a in (h, lay, hd, hs), λ (h, lay, hs, hd). (w.means D n m).1 (h, lay, hd, hs));
    few = w.few;
    labels = w.labels;
  }

  -- a second projection is the first of the inverse
  proj2_built : (e : Expr) (o : Option Query) → BuiltO P e o → BuiltO P (proj2 e) (mapped both_at_d o)
  proj2_built e none w = proj1_built (inv e) none (inv_built e none w)
  proj2_built e (some Q) w = proj1_built (inv e) (some (exchanged Q)) (inv_built e (some Q) w)

  comp_built : (e f : Expr) (p q : Option Query) → BuiltO P e p → BuiltO P f q → BuiltO P (comp e f) (two composed p q)
  comp_built e f none q w v = λ D m n (k, a, b). w D m k a
  comp_built e f (some Q) none w v = λ D m n (k, a, b). v D k n b
  comp_built e f (some Q) (some R) w v = glues_built (comp e f) e f (Comp Q R) w v refl (λ p. p)
      (λ D m n. (λ (k, a, b). (k, (w.means D m k).0 a, (v.means D k n).0 b), λ (k, a, b). (k, (w.means D m k).1 a, (v.means D k n).1 b)))
      (composed Q R) (composed_glues Q R w.valid v.valid)

  inter_built : (e f : Expr) (p q : Option Query) → BuiltO P e p → BuiltO P f q → BuiltO P (inter e f) (two intersected p q)
  inter_built e f none q w v = λ D m n (a, b). w D m n a
  inter_built e f (some Q) none w v = λ D m n (a, b). v D m n b
  inter_built e f (some Q) (some R) w v = glues_built (inter e f) e f (Both Q R) w v refl (λ p. p)
      (λ D m n. (λ (a, b). ((w.means D m n).0 a, (v.means D m n).0 b), λ (a, b). ((w.means D m n).1 a, (v.means D m n).1 b)))
      (intersected Q R) (intersected_glues Q R w.valid v.valid)

  child_built : BuiltO P child (plain child)
  child_built = record { valid = two_valid; means = two_selects; few = omega arith; labels = λ _. two_labels }

  plain_built : (e : Expr) → BuiltO P e (plain e)
  plain_built empty = λ D m n a. a
  plain_built self = record {
    valid = one_valid any;
    means = λ D m n. (λ (e, i). (one_selects any D m n).0 (e, i, tt), λ s. let (e, i, f) = (one_selects any D m n).1 s in (e, i));
    few = omega arith;
    labels = λ _. one_labels any (λ c e. never cc);
  }
  plain_built (label l) = record {
    valid = one_valid (lab l);
    means = one_selects (lab l);
    few = omega arith;
    labels = λ p. one_labels (lab l) (λ c e. rw (let z : l ≡ c = cc in z) at p);
  }
  plain_built child = child_built
  plain_built parent = inv_built child (plain child) child_built
  plain_built (comp e f) = comp_built e f (plain e) (plain f) (plain_built e) (plain_built f)
  plain_built (inter e f) = inter_built e f (plain e) (plain f) (plain_built e) (plain_built f)
  plain_built (proj1 e) = proj1_built e (plain e) (plain_built e)
  plain_built (proj2 e) = proj2_built e (plain e) (plain_built e)
  plain_built (inv e) = inv_built e (plain e) (plain_built e)

plain_facts : (P : ℕ → Type 0) (e : Expr) → Means (pairs e) (plain e) × AtMost (suc (steps e)) (plain e) × (LabelsIn P e → RowsIn P (plain e))
plain_facts P e = go (plain e) (plain_built P e)
  where
    go : (o : Option Query) → BuiltO P e o → Means (pairs e) o × AtMost (suc (steps e)) o × (LabelsIn P e → RowsIn P o)
    go none w = (w, tt, λ _. tt)
    go (some Q) w = ((w.valid, w.means), w.few, w.labels)

-- the word and its tree query select the same pairs, and empty is given only where no document yields any pair
pub plain_means : (e : Expr) → Means (pairs e) (plain e)
plain_means e = (plain_facts (λ _. ⊥) e).0

pub means_tree : (S : Doc → ℕ → ℕ → Type 0) (o : Option Query) → Means S o → TreeO o
means_tree S none w = tt
means_tree S (some Q) w = w.0

-- the plain tree has at most one node more than the expression has steps
pub few_nodes : (e : Expr) → AtMost (suc (steps e)) (plain e)
few_nodes e = (plain_facts (λ _. ⊥) e).1

-- each label of the plain tree is a label of the expression
pub plain_labels : (P : ℕ → Type 0) (e : Expr) → LabelsIn P e → RowsIn P (plain e)
plain_labels P e = (plain_facts P e).2
