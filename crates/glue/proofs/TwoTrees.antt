-- Composition and intersection of two tree queries that lie one behind the other: what the code hands to its gluing, and what comes out.
use Rattle.std.specs.Prelude as code
use Rattle.std.specs.Prelude.{Some, None}
use mathlib.Core.Path.{◌≡◌, refl, sym, ap, subst, ◌∙◌}
use mathlib.Core.Logic.{◌≢◌}
use mathlib.Core.Bool.{Bool, true, false, cond}
use mathlib.Core.Option.{Option, none, some}
use mathlib.Core.List.{List}
use Prim.Native.Nat.{ℕ, ◌+◌, ◌≤◌, ◌<◌}
use native.Mathlib.Decide.{ℕ_discrete}
use native.Mathlib.Omega.{arith}
use lib.ListN.{length, drop}
use Rattle.meaning.specs.TreeQuery.{Table, Query, Live, Tree, TreeQuery}
use Rattle.meaning.specs.Gluing.{Glued, glue, join, across, depth, placed, then_within}
use Rattle.theory.proofs.Look.{never, pick_yes, pick_no}
use Rattle.theory.proofs.Join.{length_join}
use Rattle.theory.proofs.Apart.{Safe, AcrossO, safe_join, across_glued, safe_within}
use Rattle.rows.specs.Table.{table}
use Rattle.rows.proofs.Table.{length_table, live_below, below_live}
use Rattle.glue.specs.declared.levels.Joined.{Joined}
use Rattle.glue.specs.declared.trees.Built.{Built}
use Rattle.glue.specs.Levels.{Marked, marked, marked_at, joined_of}
use Rattle.glue.specs.Trees.{query_from, InTree, within_of}

-- ------------------------------------------------------------------ two marks of three
-- the rows with the marks that `choose` takes of the three
module _ (choose : Marked → ℕ) where
  abbrev two_marks : Option Marked → Option Query
  two_marks none = none
  two_marks (some m) = some (record { rows = m.rows; s = m.s; d = choose m })

placed_d : (o : Option Glued) (s d e : ℕ) → two_marks (λ m. m.d) (marked o s d e) ≡ placed o s d
placed_d none s d e = refl
placed_d (some g) s d e = refl

placed_d2 : (o : Option Glued) (s d e : ℕ) → two_marks (λ m. m.d2) (marked o s d e) ≡ placed o s e
placed_d2 none s d e = refl
placed_d2 (some g) s d e = refl

-- a gluing that failed
no_glued : (o : Option Glued) (s d e : ℕ) → none ≡ marked o s d e → o ≡ none
no_glued none s d e q = refl
no_glued (some g) s d e q = never cc

within_marked : (o : Option Glued) (s d e : ℕ) (m : Marked) → marked o s d e ≡ some m → within_of m ≡ then_within o s d e
within_marked none s d e m q = never cc
within_marked (some g) s d e m q = rw (← (let z : record { rows = g.rows; s = g.to s; d = g.to d; d2 = g.to e } ≡ m = cc in z)) refl

-- ------------------------------------------------------------------ between two trees
module _ (p q : Built) (P L : List ℕ) (vp : TreeQuery (query_from 0 p P L)) (vq : TreeQuery (query_from p.rows q P L)) where
  abbrev A : Table
  A = table p.rows P L

  abbrev B : Table
  B = table q.rows (drop p.rows P) (drop p.rows L)

  l_a : length A ≡ p.rows
  l_a = length_table p.rows P L

  l_b : length B ≡ q.rows
  l_b = length_table q.rows (drop p.rows P) (drop p.rows L)

  meeting_live : (both : Bool) → Live A (cond both p.s p.d)
  meeting_live true = vp.s_live
  meeting_live false = vp.d_live

  -- what the two become by their first gluing
  abbrev Met : Bool → Option Glued
  Met both = across A (cond both p.s p.d) B q.s

  module _ (P' : List ℕ) (et : table (p.rows + q.rows) P' L ≡ join A B) (both : Bool) (x : ℕ) (ex : x ≡ cond both p.s p.d) where
    pub across_safe : Safe p.rows (table (p.rows + q.rows) P' L) x (p.rows + q.s)
    across_safe = rw (et, ex) (subst (λ z. Safe z (join A B) (cond both p.s p.d) (z + q.s)) l_a
        (safe_join vp.tree vq.tree (cond both p.s p.d) q.s (meeting_live both) vq.s_live))

    pub across_end : (r : code.Option Joined) (P'' L'' : List ℕ)
        → joined_of r P'' L'' ≡ marked (glue (p.rows + q.rows) (table (p.rows + q.rows) P' L) x (p.rows + q.s)) p.s p.d (p.rows + q.d)
        → joined_of r P'' L'' ≡ marked (Met both) p.s p.d (length A + q.d)
    across_end r P'' L'' e =
        let z : p.rows + q.rows ≡ length (join A B) = omega (arith, length_join A B, l_a, l_b) in
        e ∙ rw (et, z, ex) refl ∙ ap (λ n. marked (glue (length (join A B)) (join A B) (cond both p.s p.d) (n + q.s)) p.s p.d (n + q.d)) (sym l_a)

  -- after the first gluing
  module _ (both : Bool) (t : Joined) (P' L' : List ℕ) (e : joined_of (Some t) P' L' ≡ marked (Met both) p.s p.d (length A + q.d)) where
    glued : AcrossO A B (cond both p.s p.d) q.s (Met both)
    glued = across_glued vp.tree vq.tree (cond both p.s p.d) q.s (meeting_live both) vq.s_live

    pub across_few : t.rows ≤ p.rows + q.rows
    across_few = go (Met both) glued e
      where
        go : (o : Option Glued) → AcrossO A B (cond both p.s p.d) q.s o → some (marked_at t P' L') ≡ marked o p.s p.d (length A + q.d) → t.rows ≤ p.rows + q.rows
        go none a z = never cc
        go (some g) a z =
            let m : marked_at t P' L' ≡ record { rows = g.rows; s = g.to p.s; d = g.to p.d; d2 = g.to (length A + q.d) } = cc in
            let n = ap (λ (w : Marked). length w.rows) m in
            omega (arith, n, length_table t.rows P' L', a.short, l_a, l_b)

    pub across_tree : InTree (marked_at t P' L')
    across_tree = go (Met both) glued e
      where
        go : (o : Option Glued) → AcrossO A B (cond both p.s p.d) q.s o → some (marked_at t P' L') ≡ marked o p.s p.d (length A + q.d) → InTree (marked_at t P' L')
        go none a z = never cc
        go (some g) a z =
            let m : record { rows = g.rows; s = g.to p.s; d = g.to p.d; d2 = g.to (length A + q.d) } ≡ marked_at t P' L' = cc in
            subst InTree m (a.tree, a.live_a p.d vp.d_live, a.live_b q.d vq.d_live)

-- ------------------------------------------------------------------ inside one tree
module _ (t : Joined) (P L : List ℕ) (h : InTree (marked_at t P L)) where
  abbrev T : Table
  T = table t.rows P L

  pub in_tree : Tree T × (t.d < t.rows) × (t.d2 < t.rows)
  in_tree = let (tree, x, y) = h in (tree, live_below t.rows P L t.d x, live_below t.rows P L t.d2 y)

  module _ (a b : ℕ) (ea : a ≡ depth t.rows T t.d) (eb : b ≡ depth t.rows T t.d2) where
    abbrev same? : Dec (depth (length T) T t.d ≡ depth (length T) T t.d2)
    same? = ℕ_discrete (depth (length T) T t.d) (depth (length T) T t.d2)

    l_t : length T ≡ t.rows
    l_t = length_table t.rows P L

    depth_x : a ≡ depth (length T) T t.d
    depth_x = ea ∙ ap (λ z. depth z T t.d) (sym l_t)

    depth_y : b ≡ depth (length T) T t.d2
    depth_y = eb ∙ ap (λ z. depth z T t.d2) (sym l_t)

    pub within_safe : a ≡ b → Safe 0 T t.d t.d2
    within_safe e =
        let (tree, x, y) = in_tree in
        safe_within tree t.d t.d2 (below_live t.rows P L t.d x) (below_live t.rows P L t.d2 y) (sym depth_x ∙ e ∙ depth_y)

    -- "inside one tree when the two lie at different depths"
    pub within_none : a ≢ b → none ≡ within_of (marked_at t P L)
    within_none ne = sym (ap (λ o. placed o t.s t.d) (pick_no same? (glue (length T) T t.d t.d2) none (λ e. ne (depth_x ∙ e ∙ sym depth_y))))

    pub within_end : a ≡ b → (r : code.Option Joined) (P' L' : List ℕ) → joined_of r P' L' ≡ marked (glue t.rows T t.d t.d2) t.s t.d t.d2
        → two_marks (λ m. m.d) (joined_of r P' L') ≡ within_of (marked_at t P L)
    within_end e r P' L' w =
        ap (two_marks (λ m. m.d)) w
        ∙ placed_d (glue t.rows T t.d t.d2) t.s t.d t.d2
        ∙ ap (λ z. placed (glue z T t.d t.d2) t.s t.d) (sym l_t)
        ∙ sym (ap (λ o. placed o t.s t.d) (pick_yes same? (glue (length T) T t.d t.d2) none (sym depth_x ∙ e ∙ depth_y)))
