-- Factors in a row: from node to node by one factor after another, and what the joined factors, a label and branches select then.
use mathlib.Core.Path.{◌≡◌, refl, sym, subst}
use mathlib.Core.Logic.{◌↔◌}
use mathlib.Core.List.{List, [], ◌∷◌, ◌++◌, map}
use Prim.Native.Nat.{ℕ}
use native.Mathlib.Omega.{arith}
use Rattle.meaning.specs.Document.{Doc, In, label_of}
use Rattle.meaning.specs.Expression.{Expr, empty, self, child, parent, label, comp, inter, proj1, proj2, inv, pairs}
use Rattle.meaning.specs.TreeQuery.{Lab, any, lab, Fits}
use Rattle.meaning.specs.Normal.{joined, all, labelled, branch, onward}

-- from m to n by the factors, one after another
abbrev pub Run : Doc → List Expr → ℕ → ℕ → Type 0
Run D [] m n = (m ≡ n) × In D m
Run D (x ∷ xs) m n = (k : ℕ) × pairs x D m k × Run D xs k n

module _ (D : Doc) where
  pub pairs_in : (e : Expr) (m n : ℕ) → pairs e D m n → In D m × In D n
  pairs_in empty m n s = absurd s
  pairs_in self m n (e, i) = (i, rw e at i)
  pairs_in (label l) m n (e, i, f) = (i, rw e at i)
  pairs_in child m n c = let a = c.inside in let b = c.lower in (omega arith, a)
  pairs_in parent m n c = let a = c.inside in let b = c.lower in (a, omega arith)
  pairs_in (comp e f) m n (k, a, b) = ((pairs_in e m k a).0, (pairs_in f k n b).1)
  pairs_in (inter e f) m n (a, b) = pairs_in e m n a
  pairs_in (proj1 e) m n (q, (k, a)) = let i = (pairs_in e m k a).0 in (i, rw q at i)
  pairs_in (proj2 e) m n (q, (k, a)) = let i = (pairs_in e k m a).1 in (i, rw q at i)
  pairs_in (inv e) m n a = let w = pairs_in e n m a in (w.1, w.0)

  pub run_in : (xs : List Expr) (m n : ℕ) → Run D xs m n → In D m × In D n
  run_in [] m n (e, i) = (i, rw e at i)
  run_in (x ∷ xs) m n (k, s, r) = ((pairs_in x m k s).0, (run_in xs k n r).1)

  pub joined_run : (x : Expr) (ys : List Expr) (m n : ℕ) → pairs (joined x ys) D m n ↔ Run D (x ∷ ys) m n
  joined_run x [] m n = (λ s. (n, s, (refl, (pairs_in x m n s).1)), λ (k, s, q). subst (pairs x D m) q.0 s)
  joined_run x (y ∷ ys) m n =
      let w = joined_run (comp x y) ys m n in
      (λ s. let z = w.0 s in (z.1.0, z.1.1, (z.0, z.1.2, z.2)), λ (k, s, r). w.1 (r.0, (k, s, r.1), r.2))

  pub all_run : (xs : List Expr) (m n : ℕ) → pairs (all xs) D m n ↔ Run D xs m n
  all_run [] m n = (λ s. s, λ s. s)
  all_run (x ∷ xs) m n = joined_run x xs m n

  pub app_run : (xs ys : List Expr) (m n : ℕ) → Run D (xs ++ ys) m n ↔ ((k : ℕ) × Run D xs m k × Run D ys k n)
  app_run [] ys m n = (λ r. (m, (refl, (run_in ys m n r).0), r), λ (k, q, r). subst (λ z. Run D ys z n) (sym q.0) r)
  app_run (x ∷ xs) ys m n = (
    λ (l, s, r). let z = (app_run xs ys l n).0 r in (z.0, (l, s, z.1), z.2),
    λ (k, a, b). (a.0, a.1, (app_run xs ys a.0 n).1 (k, a.2, b)),
  )

  pub labelled_run : (l : Lab) (xs : List Expr) (m n : ℕ) → Run D (labelled l xs) m n ↔ (Fits l (label_of D m) × Run D xs m n)
  labelled_run any xs m n = (λ r. (tt, r), λ (f, r). r)
  labelled_run (lab l) xs m n =
      (λ (k, s, r). (s.2, subst (λ z. Run D xs z n) (sym s.0) r), λ (f, r). (m, (refl, (run_in xs m n r).0, f), r))

  -- ---------------------------------------------------------------- branches and chains
  -- the chain can be run from w
  abbrev pub Start : List Expr → ℕ → Type 0
  Start c w = (k : ℕ) × Run D c w k

  abbrev pub Starts : List (List Expr) → ℕ → Type 0
  Starts [] w = Unit {0}
  Starts (c ∷ cs) w = Start c w × Starts cs w

  pub branches_run : (cs : List (List Expr)) (w k : ℕ) → Run D (map branch cs) w k ↔ ((w ≡ k) × In D w × Starts cs w)
  branches_run [] w k = (λ (e, i). (e, i, tt), λ (e, i, t). (e, i))
  branches_run (c ∷ cs) w k =
      let ih = branches_run cs w k in (
        λ (u, s, r). let y = ih.0 (subst (λ z. Run D (map branch cs) z k) (sym s.0) r) in
            (y.0, y.1, ((s.1.0, (all_run c w s.1.0).0 s.1.1), y.2)),
        λ (e, i, s). (w, (refl, (s.0.0, (all_run c w s.0.0).1 s.0.1)), ih.1 (e, i, s.1)),
      )

  pub onward_start : (cs : List (List Expr)) (w : ℕ) → In D w → Start (onward cs) w ↔ Starts cs w
  onward_start [] w i = (λ s. tt, λ t. (w, (refl, i)))
  onward_start (c ∷ []) w i = (λ s. (s, tt), λ (s, t). s)
  onward_start (c ∷ (d ∷ cs)) w i =
      (λ (k, r). ((branches_run (c ∷ (d ∷ cs)) w k).0 r).2, λ s. (w, (branches_run (c ∷ (d ∷ cs)) w w).1 (refl, i, s)))
