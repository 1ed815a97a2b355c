-- A sign that is taken: what it leaves pending in the word, and so what its latest operand gives.
use mathlib.Core.Path.{◌≡◌, refl, sym, ap, ◌∙◌}
use mathlib.Core.Bool.{Bool, true, false, cond}
use mathlib.Core.List.{List, [], ◌∷◌, map}
use Prim.Native.Nat.{ℕ, ◌+◌, ◌-◌, ◌%◌, ◌≤◌, ◌<◌}
use native.Mathlib.Omega.{arith}
use lib.ListN.{length, get_or, set}
use lib.Dec.{ltb}
use borrow.Author.Tests.{ltb-true}
use Rattle.meaning.specs.Expression.{Expr, steps}
use Rattle.meaning.specs.Gluing.{plain}
use Rattle.meaning.specs.Limits.{most_pending, most_steps, too_many_pending, too_many_steps}
use Rattle.meaning.specs.Word.{refused, answered, operand, unary, binary, sign_of, is_step, Pending, on_one, on_two, counted, pushed, takes}
use Rattle.theory.proofs.Look.{never}
use Rattle.glue.specs.Rows.{pool_rows}
use Rattle.glue.specs.Trees.{kept, rows_in}
use Rattle.pool.specs.declared.operand.Latest.{Latest}
use Rattle.theory.proofs.Accepted.{all_steps}
use Rattle.pool.specs.Pool.{Pool, pool, operand_at, stack, InOrder, Trees, PoolFor, Passes}
use Rattle.pool.specs.Latest.{Made, Gives, PutFits}
use Rattle.pool.proofs.Signs.{operand_means, unary_means, binary_means}
use Rattle.pool.proofs.Operands.{stack_top, stack_count, plain_tree_lem, trees_of, rows_most, used, order_below, put_stack, put_order}

-- ------------------------------------------------------------------ operand signs
-- there is room for it, and steps are counted
record Pushes (e : Expr) (st st' : Pending) : Type 0 where
  few : length st.operands < most_pending
  operands : st'.operands ≡ e ∷ st.operands
  count : st'.steps ≡ st.steps + steps e
  within : st.steps ≤ most_steps → st'.steps ≤ most_steps

taken_operand : (step : Bool) (e : Expr) (st st' : Pending) (at : ℕ) → steps e ≡ cond step 1 0
    → pushed step e st.operands at st.steps ≡ answered st' → Pushes e st st'
taken_operand step e st st' at k q = go step k (ltb (length st.operands) most_pending) refl q
  where
    counts : (step : Bool) → steps e ≡ cond step 1 0 → length st.operands < most_pending
        → counted step e st.operands at st.steps ≡ answered st' → Pushes e st st'
    counts false k' lt q' =
        let z : st.steps ≡ st'.steps = cc in
        record { few = lt; operands = cc; count = omega arith; within = λ h. omega arith }
    counts true k' lt q' = room (ltb st.steps most_steps) refl q'
      where
        room : (t : Bool) → ltb st.steps most_steps ≡ t
            → cond t (answered (record { operands = e ∷ st.operands; steps = st.steps + 1 })) (refused too_many_steps at) ≡ answered st' → Pushes e st st'
        room true h w =
            let z : st.steps + 1 ≡ st'.steps = cc in
            record { few = lt; operands = cc; count = omega arith; within = λ _. omega (arith, ltb-true st.steps most_steps h) }
        room false h w = never cc

    go : (step : Bool) → steps e ≡ cond step 1 0 → (t : Bool) → ltb (length st.operands) most_pending ≡ t
        → cond t (counted step e st.operands at st.steps) (refused too_many_pending at) ≡ answered st' → Pushes e st st'
    go step k' true h w = counts step k' (ltb-true (length st.operands) most_pending h) w
    go step k' false h w = never cc

module _ (p : Pool) (n v : ℕ) (e : Expr) (es : sign_of v ≡ operand e) where
  pushes : (st st' : Pending) (at : ℕ) → takes v st at ≡ answered st' → Pushes e st st'
  unfolding takes
  pushes st st' at t = taken_operand (is_step v) e st st' at (operand_means v es).0 (rw es at t)

  pub operand_asks : Passes p n v
      → (n < length p.first) × (get_or p.first n 0 + 1 < pool_rows) × (pool_rows ≤ length p.parent) × (pool_rows ≤ length p.label)
  operand_asks (st, st', at, h, t) =
      let w = pushes st st' at t in
      let l = stack_count p n st.operands h.queries in
      let o = h.order in (
        omega (arith, w.few, o.firsts),
        omega (arith, w.few, h.few, h.count, used p n st.operands o.start h.queries),
        o.parents,
        o.labels,
      )

  pub operand_gives : (l : Latest) (P' L' : List ℕ) → Made n (get_or p.first n 0) p.parent p.label l P' L' (plain e)
      → (st st' : Pending) (at : ℕ) → PoolFor p n st → takes v st at ≡ answered st' → Gives p l P' L' st'
  operand_gives l P' L' made st st' at h t =
      let w = pushes st st' at t in
      let c = stack_count p n st.operands h.queries in
      record {
        place = n;
        latest = e;
        rest = st.operands;
        operands = w.operands;
        below = h.queries;
        order = h.order;
        room = omega (arith, w.few);
        made = made;
        count = rw (w.operands, w.count) (omega (arith, h.count));
        few = w.within h.few;
      }

-- ------------------------------------------------------------------ operators on one
record Changes (f : Expr → Expr) (st st' : Pending) : Type 0 where
  latest : Expr
  rest : List Expr
  before : st.operands ≡ latest ∷ rest
  operands : st'.operands ≡ f latest ∷ rest
  count : st'.steps ≡ st.steps

module _ (p : Pool) (n v : ℕ) (f : Expr → Expr) (es : sign_of v ≡ unary f) where
  changes : (st st' : Pending) (at : ℕ) → takes v st at ≡ answered st' → Changes f st st'
  unfolding takes
  changes st st' at t = go st.operands refl (rw es at t)
    where
      go : (xs : List Expr) → st.operands ≡ xs → on_one f xs at st.steps ≡ answered st' → Changes f st st'
      go [] b w = never cc
      go (x ∷ xs) b w = record { latest = x; rest = xs; before = b; operands = cc; count = cc }

  -- the latest operand, and those below it
  under : (st st' : Pending) → PoolFor p n st → (w : Changes f st st')
      → (1 ≤ n) × (operand_at p (n - 1) ≡ plain w.latest) × (stack p (n - 1) ≡ map plain w.rest)
  under st st' h w =
      let c = stack_count p n st.operands h.queries in
      let b = ap length w.before in
      let pos : 1 ≤ n = omega arith in
      let z = sym (stack_top p n pos) ∙ h.queries ∙ ap (map plain) w.before in
      (pos, cc, cc)

  pub unary_asks : Passes p n v → (1 ≤ n) × (n < length p.first) × (n ≤ length p.s) × (n ≤ length p.d)
      × (get_or p.first (n - 1) 0 ≤ get_or p.first n 0)
  unary_asks (st, st', at, h, t) =
      let o = h.order in
      let pos = (under st st' h (changes st st' at t)).0 in
      let q = ap (λ k. get_or p.first k 0) (let z : n - 1 + 1 ≡ n = omega arith in z) in
      (pos, omega (arith, o.few, o.firsts), omega (arith, o.few, o.marks_s), omega (arith, o.few, o.marks_d), omega (arith, o.up (n - 1) (omega arith)))

  pub unary_gives : (l : Latest)
      → ((e : Expr) → operand_at p (n - 1) ≡ plain e → Made (n - 1) (get_or p.first (n - 1) 0) p.parent p.label l p.parent p.label (plain (f e)))
      → (st st' : Pending) (at : ℕ) → PoolFor p n st → takes v st at ≡ answered st' → Gives p l p.parent p.label st'
  unary_gives l made st st' at h t =
      let w = changes st st' at t in
      let (pos, here, below) = under st st' h w in
      let k = ap all_steps w.before in
      record {
        place = n - 1;
        latest = f w.latest;
        rest = w.rest;
        operands = w.operands;
        below = below;
        order = order_below p n (n - 1) h.order (omega arith);
        room = omega (arith, h.order.few);
        made = made w.latest here;
        count = rw w.operands (omega (arith, (unary_means v es w.latest).0, h.count, w.count));
        few = omega (arith, w.count, h.few);
      }

-- ------------------------------------------------------------------ operators on two
-- "the earlier as first"
record Joins (f : Expr → Expr → Expr) (st st' : Pending) : Type 0 where
  latest : Expr
  earlier : Expr
  rest : List Expr
  before : st.operands ≡ latest ∷ (earlier ∷ rest)
  operands : st'.operands ≡ f earlier latest ∷ rest
  count : st'.steps ≡ st.steps

module _ (p : Pool) (n v : ℕ) (f : Expr → Expr → Expr) (es : sign_of v ≡ binary f) where
  joins : (st st' : Pending) (at : ℕ) → takes v st at ≡ answered st' → Joins f st st'
  unfolding takes
  joins st st' at t = go st.operands refl (rw es at t)
    where
      go : (xs : List Expr) → st.operands ≡ xs → on_two f xs at st.steps ≡ answered st' → Joins f st st'
      go [] b w = never cc
      go (x ∷ []) b w = never cc
      go (x ∷ (y ∷ xs)) b w = record { latest = x; earlier = y; rest = xs; before = b; operands = cc; count = cc }

  under_two : (st st' : Pending) → PoolFor p n st → (w : Joins f st st')
      → (2 ≤ n) × (operand_at p (n - 2) ≡ plain w.earlier) × (operand_at p (n - 1) ≡ plain w.latest) × (stack p (n - 2) ≡ map plain w.rest)
  under_two st st' h w =
      let c = stack_count p n st.operands h.queries in
      let b = ap length w.before in
      let pos : 2 ≤ n = omega arith in
      let q : n - 1 - 1 ≡ n - 2 = omega arith in
      let x = sym (stack_top p n (omega arith)) ∙ h.queries ∙ ap (map plain) w.before in
      let y = sym (rw q at (stack_top p (n - 1) (omega arith))) in
      (pos, cc, cc, cc)

  pub binary_asks : Passes p n v → (2 ≤ n) × (InOrder p n × Trees p n)
  binary_asks (st, st', at, h, t) = ((under_two st st' h (joins st st' at t)).0, (h.order, trees_of p n st.operands h.queries))

  pub binary_gives : (l : Latest) (P' L' : List ℕ)
      → ((e g : Expr) → operand_at p (n - 2) ≡ plain e → operand_at p (n - 1) ≡ plain g
      → Made (n - 2) (get_or p.first (n - 2) 0) p.parent p.label l P' L' (plain (f e g)))
      → (st st' : Pending) (at : ℕ) → PoolFor p n st → takes v st at ≡ answered st' → Gives p l P' L' st'
  binary_gives l P' L' made st st' at h t =
      let w = joins st st' at t in
      let (pos, first, second, below) = under_two st st' h w in
      let k = ap all_steps w.before in
      record {
        place = n - 2;
        latest = f w.earlier w.latest;
        rest = w.rest;
        operands = w.operands;
        below = below;
        order = order_below p n (n - 2) h.order (omega arith);
        room = omega (arith, h.order.few);
        made = made w.earlier w.latest first second;
        count = rw w.operands (omega (arith, (binary_means v es w.earlier w.latest).0, h.count, w.count));
        few = omega (arith, w.count, h.few);
      }

-- ------------------------------------------------------------------ the latest operand is put in its place
module _ (p : Pool) (l : Latest) (P' L' : List ℕ) (st : Pending) (g : Gives p l P' L' st) where
  fits : get_or p.first g.place 0 + rows_in l.built ≤ pool_rows
  fits =
      let u = used p g.place g.rest g.order.start g.below in
      let r = rows_most (get_or p.first g.place 0) l.built P' L' g.latest g.made.whole in
      let s = ap all_steps g.operands in
      omega (arith, u, r, s, g.count, g.few, g.room)

  pub gives_fits : PutFits l p.first p.s p.d
  gives_fits = rw g.made.place (g.room, g.order.firsts, g.order.marks_s, g.order.marks_d, fits)

  pub gives_holds : length P' ≡ length p.parent → length L' ≡ length p.label → (F' S' D' : List ℕ) (n' : ℕ) → n' ≡ l.at + 1
      → F' ≡ set p.first (l.at + 1) (get_or p.first l.at 0 + rows_in l.built) → S' ≡ set p.s l.at ((kept l.built).s % 65536) → D' ≡ set p.d l.at ((kept l.built).d % 65536)
      → PoolFor (pool P' L' F' S' D') n' st
  gives_holds lp ll F' S' D' n' en ef es ed =
      let k = g.place in
      let t = plain_tree_lem g.latest in
      rw (en, ef, es, ed, g.made.place) (record {
        order = put_order p k g.order g.room l P' L' (plain g.latest) g.made t fits lp ll;
        queries = put_stack p k g.order g.room l P' L' (plain g.latest) g.made t fits ∙ rw (g.operands, g.below) refl;
        count = g.count;
        few = g.few;
      })
