-- The normal form of a tree selects what the tree selects (01, Normal form; demand 2).
-- A list of factors is read as a run from node to node; then the branches, the way up from s, the way down to d and the way from the top
-- are each the laying of a part of the tree.
use mathlib.Core.Path.{◌≡◌, refl, sym, subst}
use mathlib.Core.Logic.{◌↔◌}
use mathlib.Core.Option.{some}
use mathlib.Core.Bool.{Bool, true, false, cond}
use mathlib.Core.List.{List, [], ◌∷◌, ◌++◌, map}
use Prim.Native.Nat.{ℕ, ◌+◌}
use native.Mathlib.Omega.{arith}
use Rattle.meaning.specs.Document.{Doc, In, Child, label_of}
use Rattle.meaning.specs.Expression.{Expr, child, parent, pairs}
use Rattle.meaning.specs.TreeQuery.{Lab, Fits}
use Rattle.meaning.specs.Tree.{Forest, bare, tree, Tag, Lays, MarkOn, OnPair, Takes}
use Rattle.meaning.specs.Normal.{labelled, branch, onward, chains, in_tree, src_in, dst_in, both_in, either_in, some_tree, off, ups, downs, above_factor, longer, around, factors, normal}
use Rattle.theory.proofs.Count.{bit, count, src, dst, marks}
use Rattle.theory.proofs.Run.{Run, Starts, pairs_in, run_in, joined_run, all_run, app_run, labelled_run, branches_run, onward_start}
use Rattle.theory.proofs.Ways.{on, aside, off_aside, count_ways, lays_ways, aside_count, aside_either, on_dst, either_counts, way_ind, factors_ind}

mark_off : (b : Bool) (w m : ℕ) → bit b ≡ 0 → MarkOn b w m
mark_off false w m e = tt
mark_off true w m e = absurd (omega arith)

module _ (D : Doc) (m n : ℕ) where
  -- the forest is laid below v, s on m and d on n
  abbrev L : Forest Tag → ℕ → Type 0
  L f v = Lays D (OnPair D m n) f (some v)

  on_unmarked : (b : Tag) (w : ℕ) → bit b.src ≡ 0 → bit b.dst ≡ 0 → Fits b.lab (label_of D w) → OnPair D m n b w
  on_unmarked b w s d f = (f, mark_off b.src w m s, mark_off b.dst w n d)

  -- "A branch is written as a chain"
  chains_lay : (j : Forest Tag) → marks j ≡ 0 → (w : ℕ) → Starts D (chains j) w ↔ L j w
  chains_lay bare e w = (λ t. t, λ t. t)
  chains_lay (tree b j r) e w =
      let ij : (u : ℕ) → Starts D (chains j) u ↔ L j u = λ u. chains_lay j (omega arith) u in
      let ir = chains_lay r (omega arith) w in (
        λ (s, ss). let u : ℕ = s.1.0 in let c : Child D w u = s.1.1 in
            let y = (labelled_run D b.lab (onward (chains j)) u s.0).0 s.1.2 in
            ((u, c, on_unmarked b u (omega arith) (omega arith) y.0, (ij u).0 ((onward_start D (chains j) u c.inside).0 (s.0, y.1))), ir.0 ss),
        λ (s, ls). let u : ℕ = s.0 in let c : Child D w u = s.1 in
            let y = (onward_start D (chains j) u c.inside).1 ((ij u).1 s.3) in
            ((y.0, (u, c, (labelled_run D b.lab (onward (chains j)) u y.0).1 (s.2.0, y.1))), ir.1 ls),
      )

  -- "A node's own factors are its label, if any, and then one first projection for each child off those ways", and what follows them
  own_run : (a : Lab) (p : Tag → Forest Tag → Bool) (k : Forest Tag) (l : List Expr) → marks (aside p k) ≡ 0 → (w v : ℕ)
      → Run D (labelled a (off p k l)) w v ↔ (Fits a (label_of D w) × L (aside p k) w × Run D l w v)
  own_run a p k l e w v = (to, from)
    where
      A : Forest Tag
      A = aside p k

      to : Run D (labelled a (off p k l)) w v → Fits a (label_of D w) × L A w × Run D l w v
      to x =
          let y = (labelled_run D a (off p k l) w v).0 x in
          let z = (app_run D (map branch (chains A)) l w v).0 (rw (off_aside p k l) at y.1) in
          let b = (branches_run D (chains A) w z.0).0 z.1 in
          (y.0, (chains_lay A e w).0 b.2, subst (λ t. Run D l t v) (sym b.0) z.2)

      from : Fits a (label_of D w) × L A w × Run D l w v → Run D (labelled a (off p k l)) w v
      from (f, s, r) =
          (labelled_run D a (off p k l) w v).1 (
            f,
            rw (off_aside p k l) ((app_run D (map branch (chains A)) l w v).1
                (w, (branches_run D (chains A) w w).1 (refl, (run_in D l w v r).0, (chains_lay A e w).1 s), r)),
          )

  -- a node's own factors behind others, and then one step
  step_run : (xs : List Expr) (a : Lab) (p : Tag → Forest Tag → Bool) (k : Forest Tag) (x : Expr) → marks (aside p k) ≡ 0 → (u v : ℕ)
      → Run D (xs ++ labelled a (off p k (x ∷ []))) u v ↔ ((w : ℕ) × Run D xs u w × Fits a (label_of D w) × L (aside p k) w × pairs x D w v)
  step_run xs a p k x e u v = (
    λ r. let (w, r₁, r₂) = (app_run D xs (labelled a (off p k (x ∷ []))) u v).0 r in
        let (f, l, r₃) = (own_run a p k (x ∷ []) e w v).0 r₂ in
        (w, r₁, f, l, (joined_run D x [] w v).1 r₃),
    λ (w, r, f, l, s). (app_run D xs (labelled a (off p k (x ∷ []))) u v).1
        (w, r, (own_run a p k (x ∷ []) e w v).1 (f, l, (joined_run D x [] w v).0 s)),
  )

  -- ---------------------------------------------------------------- the way to a mark
  -- The factors W of the way to the mark q, which lies on x; the other mark is not there. R is their run, up to v or down from v
  module _
      (q q' : Tag → Bool) (x : ℕ) (R : List Expr → ℕ → Type 0) (W : Forest Tag → List Expr) (next : Tag → Forest Tag → List Expr)
      (on_one : (b : Tag) (w : ℕ) → bit (q' b) ≡ 0 → OnPair D m n b w ↔ (Fits b.lab (label_of D w) × MarkOn (q b) w x))
      (way-bare : (v : ℕ) → R (W bare) v ↔ (In D v × (v ≡ x)))
      (way-tree : (b : Tag) (j r : Forest Tag) → W (tree b j r) ≡ cond (in_tree q b j) (next b j) (W r))
      (way_next : (b : Tag) (j : Forest Tag) → count q (aside (in_tree q) j) + count q' (aside (in_tree q) j) ≡ 0 → (v : ℕ)
      → R (next b j) v ↔ ((w : ℕ) × Child D v w × Fits b.lab (label_of D w) × L (aside (in_tree q) j) w × R (W j) w))
    where
      -- the factors lay the tree f that holds the mark, or the node v above it has the mark (y)
      abbrev Right : List Expr → Bool → Forest Tag → Type 0
      Right xs y f = count q' f ≡ 0 → (v : ℕ) → R xs v ↔ (In D v × MarkOn y v x × L f v)

      higher : (b : Tag) (j : Forest Tag) → Right (W j) (q b) (on (in_tree q) j) → Right (next b j) false (tree b j bare)
      higher b j ih o v =
          let z = count_ways q' (in_tree q) j in let z' = aside_count q j in
          let s = way_next b j (omega arith) v in (
            λ r. let (w, c, f, a, l) = s.0 r in let (i, y, l') = (ih (omega arith) w).0 l in
                ((pairs_in D child v w c).0, tt, ((w, c, (on_one b w (omega arith)).1 (f, y), (lays_ways D (OnPair D m n) (in_tree q) j (some w)).1 (l', a)), tt)),
            λ (i, t, l). let (w, c, y, l') = l.0 in let (f, y') = (on_one b w (omega arith)).0 y in
                let (l₁, l₂) = (lays_ways D (OnPair D m n) (in_tree q) j (some w)).0 l' in
                s.1 (w, c, f, l₂, (ih (omega arith) w).1 (c.inside, y', l₁)),
          )

      way_run : (y : Bool) (k : Forest Tag) → bit y + count q k ≡ 1 → Right (W k) y (on (in_tree q) k)
      way_run =
          way_ind q W next way-tree Right
          (λ o v. (λ r. let (i, e) = (way-bare v).0 r in (i, e, tt), λ (i, e, t). (way-bare v).1 (i, e)))
          higher

  -- "for each node from s up to just below t, its own factors and then parent"
  ups_run : (b : Bool) (k : Forest Tag) → bit b + count src k ≡ 1 → count dst (on src_in k) ≡ 0 → (v : ℕ)
      → Run D (ups k) m v ↔ (In D v × MarkOn b v m × L (on src_in k) v)
  ups_run =
      way_run src dst m (λ xs v. Run D xs m v) ups step
      (λ b w e. (λ (f, s, d). (f, s), λ (f, s). (f, s, mark_off b.dst w n e)))
      (λ v. (λ (e, i). (rw e at i, sym e), λ (i, e). (sym e, rw e at i)))
      (λ b j r. refl) up
    where
      step : Tag → Forest Tag → List Expr
      step b j = ups j ++ labelled b.lab (off src_in j (parent ∷ []))

      up : (b : Tag) (j : Forest Tag) → marks (aside src_in j) ≡ 0 → (v : ℕ)
          → Run D (step b j) m v ↔ ((w : ℕ) × Child D v w × Fits b.lab (label_of D w) × L (aside src_in j) w × Run D (ups j) m w)
      up b j e v =
          let s = step_run (ups j) b.lab src_in j parent e m v in
          (λ x. let (w, u, f, l, c) = s.0 x in (w, c, f, l, u), λ (w, c, f, l, u). s.1 (w, u, f, l, c))

  -- "for each node below t down to d, child and its own factors"
  downs_run : (b : Bool) (k : Forest Tag) → bit b + count dst k ≡ 1 → count src (on dst_in k) ≡ 0 → (v : ℕ)
      → Run D (downs k) v n ↔ (In D v × MarkOn b v n × L (on dst_in k) v)
  downs_run =
      way_run dst src n (λ xs v. Run D xs v n) downs (λ b j. child ∷ labelled b.lab (off dst_in j (downs j)))
      (λ b w e. (λ (f, s, d). (f, d), λ (f, d). (f, mark_off b.src w m e, d)))
      (λ v. (λ (e, i). (i, e), λ (i, e). (e, i)))
      (λ b j r. refl)
      (λ b j e v. (
        λ (w, c, x). let (f, l, d) = (own_run b.lab dst_in j (downs j) (omega arith) w n).0 x in (w, c, f, l, d),
        λ (w, c, f, l, d). (w, c, (own_run b.lab dst_in j (downs j) (omega arith) w n).1 (f, l, d)),
      ))

  -- ---------------------------------------------------------------- the way from the top
  abbrev Above : List Expr → ℕ → Type 0
  Above way w = (t : ℕ) × Run D way t w

  -- "if t is not the top, one second projection of the way from the top down to t"
  above_run : (way l : List Expr) (w k : ℕ) → Run D (above_factor way l) w k ↔ (Above way w × Run D l w k)
  above_run [] l w k = (λ r. ((w, (refl, (run_in D l w k r).0)), r), λ (a, r). r)
  above_run (x ∷ xs) l w k = (
    λ (u, s, r). ((s.1.0, (joined_run D x xs s.1.0 w).0 s.1.1), subst (λ z. Run D l z k) (sym s.0) r),
    λ (a, r). (w, (refl, (a.0, (joined_run D x xs a.0 w).1 a.1)), r),
  )

  -- "own factors of each node above t, each followed by child"
  longer_run : (way : List Expr) (a : Tag) (k : Forest Tag) → marks (aside both_in k) ≡ 0 → (u : ℕ)
      → Above (longer way a k) u ↔ ((w : ℕ) × Above way w × Fits a.lab (label_of D w) × L (aside both_in k) w × Child D w u)
  longer_run way a k e u = (
    λ (t, r). let (w, r₁, f, l, c) = (step_run way a.lab both_in k child e t u).0 r in (w, (t, r₁), f, l, c),
    λ (w, r, f, l, c). (r.0, (step_run way a.lab both_in k child e r.0 u).1 (w, r.1, f, l, c)),
  )

  -- the tree is laid with its top at the end of the way
  abbrev Held : List Expr → Tag → Forest Tag → Type 0
  Held way a k = (w : ℕ) × Above way w × OnPair D m n a w × L k w

  -- one node higher: the tree goes on with the only child that holds a mark
  held_longer : (xs way : List Expr) (a : Tag) (k : Forest Tag) (b : Tag) (j : Forest Tag) → bit a.src ≡ 0 → bit a.dst ≡ 0
      → on both_in k ≡ tree b j bare → marks (aside both_in k) ≡ 0 → Run D xs m n ↔ Held (longer way a k) b j → Run D xs m n ↔ Held way a k
  held_longer xs way a k b j s d e c ih = (
    λ r. let (u, ab, o, l) = ih.0 r in
        let (w, ab', f, l', ch) = (longer_run way a k c u).0 ab in
        (w, ab', on_unmarked a w s d f, (lays_ways D (OnPair D m n) both_in k (some w)).1 (rw e ((u, ch, o, l), tt), l')),
    λ (w, ab, o, l). let (l₁, l₂) = (lays_ways D (OnPair D m n) both_in k (some w)).0 l in
        let (z, t) = subst (λ f. L f w) e l₁ in
        ih.1 (z.0, (longer_run way a k c z.0).1 (w, ab, o.0, l₂, z.1), z.2, z.3),
  )

  -- ---------------------------------------------------------------- the lowest node above or at both
  lays_either : (k : Forest Tag) → some_tree both_in k ≡ false → (w : ℕ) → L k w ↔ (L (on src_in k) w × L (on dst_in k) w × L (aside either_in k) w)
  lays_either k e w =
      let P = OnPair D m n in
      let x = lays_ways D P src_in k (some w) in let y = lays_ways D P dst_in (aside src_in k) (some w) in
      rw (aside_either k, ← on_dst k e)
      (λ l. let (s, a) = x.0 l in let (d, b) = y.0 a in (s, d, b), λ (s, d, b). x.1 (s, y.1 (d, b)))

  around_run : (way : List Expr) (a : Tag) (k : Forest Tag) → bit a.src + count src k ≡ 1 → bit a.dst + count dst k ≡ 1
      → some_tree both_in k ≡ false → Run D (around way a k) m n ↔ Held way a k
  around_run way a k es ed e =
      let (cs, cd, ca) = either_counts k e in
      let own : List Expr = labelled a.lab (off either_in k (downs k)) in (
        λ x. let (w, r₁, r₂) = (app_run D (ups k) (above_factor way own) m n).0 x in
            let (i, ms, ls) = (ups_run a.src k es cs w).0 r₁ in
            let (ab, r₃) = (above_run way own w n).0 r₂ in
            let (f, la, r₄) = (own_run a.lab either_in k (downs k) ca w n).0 r₃ in
            let (i', md, ld) = (downs_run a.dst k ed cd w).0 r₄ in
            (w, ab, (f, ms, md), (lays_either k e w).1 (ls, ld, la)),
        λ (w, ab, o, l). let (ls, ld, la) = (lays_either k e w).0 l in
            let i : In D w = (run_in D way ab.0 w ab.1).1 in
            (app_run D (ups k) (above_factor way own) m n).1 (
              w,
              (ups_run a.src k es cs w).1 (i, o.1, ls),
              (above_run way own w n).1 (ab, (own_run a.lab either_in k (downs k) ca w n).1 (o.0, la, (downs_run a.dst k ed cd w).1 (i, o.2, ld))),
            ),
      )

-- demand 2: "its minimal tree query and its normal form select the same pairs"; the premises say that the tree has one s and one d
pub normal_means : (a : Tag) (k : Forest Tag) → count src (tree a k bare) ≡ 1 → count dst (tree a k bare) ≡ 1
    → (D : Doc) (m n : ℕ) → pairs (normal (tree a k bare)) D m n ↔ Takes (tree a k bare) D m n
normal_means a k s d D m n =
    let F : List Expr = factors (tree a k bare) [] in
    let x : Run D F m n ↔ Held D m n [] a k = factors_ind (λ xs way b j. Run D xs m n ↔ Held D m n way b j) (around_run D m n) (held_longer D m n) a k s d in (
      λ p. let (w, ab, o, l) = x.0 ((all_run D F m n).0 p) in ((w, (run_in D [] ab.0 w ab.1).1, o, l), tt),
      λ (h, t). (all_run D F m n).1 (x.1 (h.0, (h.0, (refl, h.1)), h.2, h.3)),
    )
