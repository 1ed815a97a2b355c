-- The operands of the pool: those below the latest stay, and the latest is put in its place. Every sign is such a step.
use Rattle.std.specs.Prelude as code
use Rattle.std.specs.Prelude.{Some, None}
use mathlib.Core.Path.{◌≡◌, refl, sym, ap, subst, ◌∙◌}
use mathlib.Core.Option.{Option}
use mathlib.Core.List.{List, [], ◌∷◌, map}
use Prim.Native.Nat.{ℕ, zero, suc, ◌+◌, ◌-◌, ◌%◌, ◌≤◌, ◌<◌}
use native.Mathlib.Decide.{ℕ_discrete}
use native.Mathlib.Nat.{mod-eq_of_lt}
use native.Mathlib.Omega.{arith}
use lib.ListN.{length, get_or, set, take, drop, length-set, length-map}
use lib.Seq.{get_or-take, get_or-drop, get_or-set_same, get_or-set_other}
use Rattle.meaning.specs.Expression.{Expr, steps}
use Rattle.meaning.specs.Limits.{most_pending}
use Rattle.meaning.specs.TreeQuery.{Query}
use Rattle.meaning.specs.Gluing.{plain}
use Rattle.theory.proofs.Look.{never}
use Rattle.theory.proofs.Plain.{TreeO, AtMost, plain_means, means_tree, few_nodes}
use Rattle.rows.specs.Table.{table, if_rows, query}
use Rattle.rows.proofs.Table.{length_table, at_table, table_is, live_below, rows_some}
use Rattle.glue.specs.declared.trees.Built.{Built}
use Rattle.glue.specs.Rows.{pool_rows}
use Rattle.glue.specs.Trees.{kept, rows_in, built_from}
use Rattle.pool.specs.declared.operand.Latest.{Latest}
use Rattle.theory.proofs.Accepted.{all_steps}
use Rattle.pool.specs.Pool.{Pool, pool, stored, built, operand_at, stack, InOrder, Trees}
use Rattle.pool.specs.Latest.{Made}

-- ------------------------------------------------------------------ rows and marks as they are stored
pub rows_stored : (p : Pool) (k : ℕ) → rows_in (built p k) ≡ get_or p.first (k + 1) 0 - get_or p.first k 0
rows_stored p k = go (get_or p.first (k + 1) 0 - get_or p.first k 0)
  where
    go : (n : ℕ) → rows_in (stored n (get_or p.s k 0) (get_or p.d k 0)) ≡ n
    go zero = refl
    go (suc n) = refl

stored_as : (a n s d : ℕ) (P L : List ℕ) → built_from a (stored n s d) P L ≡ if_rows n (query n (drop a P) (drop a L) s d)
stored_as a zero s d P L = refl
stored_as a (suc n) s d P L = refl

-- ------------------------------------------------------------------ the stack of operands
pub stack_top : (p : Pool) (n : ℕ) → 1 ≤ n → stack p n ≡ operand_at p (n - 1) ∷ stack p (n - 1)
unfolding stack
stack_top p n pos = ap (stack p) (let q : n ≡ suc (n - 1) = omega arith in q)

length_stack : (p : Pool) (n : ℕ) → length (stack p n) ≡ n
unfolding stack
length_stack p zero = refl
length_stack p (suc n) = ap suc (length_stack p n)

pub stack_count : (p : Pool) (n : ℕ) (es : List Expr) → stack p n ≡ map plain es → length es ≡ n
stack_count p n es e = rw length-map at (sym (ap length e)) ∙ length_stack p n

pub plain_tree_lem : (e : Expr) → TreeO (plain e)
plain_tree_lem e = means_tree _ (plain e) (plain_means e)

-- every operand that is a plain tree query is a tree query or empty
pub trees_of : (p : Pool) (n : ℕ) (es : List Expr) → stack p n ≡ map plain es → Trees p n
unfolding stack
trees_of p zero es e k lt = absurd (omega arith)
trees_of p (suc n) [] e k lt = never cc
trees_of p (suc n) (x ∷ es) e k lt = go (trees_of p n es (cc)) (ℕ_discrete k n)
  where
    go : Trees p n → Dec (k ≡ n) → TreeO (operand_at p k)
    go f (yes q) = rw q (subst TreeO (let z : plain x ≡ operand_at p n = cc in z) (plain_tree_lem x))
    go f (no nq) = f k (omega arith)

-- ------------------------------------------------------------------ the rows in use
pub rows_most : (a : ℕ) (o : code.Option Built) (P L : List ℕ) (e : Expr) → built_from a o P L ≡ plain e → rows_in o ≤ suc (steps e)
rows_most a o P L e q = go o (subst (AtMost (suc (steps e))) (sym q) (few_nodes e))
  where
    go : (o : code.Option Built) → AtMost (suc (steps e)) (built_from a o P L) → rows_in o ≤ suc (steps e)
    go None h = omega arith
    go (Some r) h = omega (arith, length_table r.rows (drop a P) (drop a L))

-- each operand has at most one more than it has steps
pub used : (p : Pool) (n : ℕ) (es : List Expr) → get_or p.first 0 0 ≡ 0 → stack p n ≡ map plain es → get_or p.first n 0 ≤ all_steps es + n
unfolding stack operand_at
used p zero es start e = omega arith
used p (suc n) [] start e = never cc
used p (suc n) (x ∷ es) start e =
    let rest = used p n es start (let z : stack p n ≡ map plain es = cc in z) in
    let here = rows_most (get_or p.first n 0) (built p n) p.parent p.label x (cc) in
    let many = rows_stored p n in
    let next = ap (λ z. get_or p.first z 0) (let z : n + 1 ≡ suc n = omega arith in z) in
    omega arith

-- where operands start only rises
rise : (p : Pool) (n : ℕ) → InOrder p n → (i j : ℕ) → i + j ≤ n → get_or p.first i 0 ≤ get_or p.first (i + j) 0
rise p n order i zero le = let q : i + 0 ≡ i = omega arith in rw q (omega arith)
rise p n order i (suc j) le =
    let z = rise p n order i j (omega arith) in
    let w = order.up (i + j) (omega arith) in
    let q = ap (λ x. get_or p.first x 0) (let x : i + j + 1 ≡ i + suc j = omega arith in x) in
    omega arith

pub rises : (p : Pool) (n : ℕ) → InOrder p n → (i j : ℕ) → i ≤ j → j ≤ n → get_or p.first i 0 ≤ get_or p.first j 0
rises p n order i j le jn =
    let z = rise p n order i (j - i) (omega arith) in
    let q = ap (λ x. get_or p.first x 0) (let x : i + (j - i) ≡ j = omega arith in x) in
    omega arith

pub order_below : (p : Pool) (n k : ℕ) → InOrder p n → k ≤ n → InOrder p k
order_below p n k o le = record {
  parents = o.parents;
  labels = o.labels;
  firsts = o.firsts;
  marks_s = o.marks_s;
  marks_d = o.marks_d;
  few = omega (arith, o.few);
  start = o.start;
  up = λ j lt. o.up j (omega arith);
  end = omega (arith, o.end, rises p n o k n le (omega arith));
}

-- ------------------------------------------------------------------ the latest is put in its place
below : (a : ℕ) (P P' : List ℕ) → take a P' ≡ take a P → (i : ℕ) → i < a → get_or P' i 0 ≡ get_or P i 0
below a P P' e i lt = sym (get_or-take a P' i 0 lt) ∙ ap (λ z. get_or z i 0) e ∙ get_or-take a P i 0 lt

same_rows : (a b n : ℕ) (P P' L L' : List ℕ) → take a P' ≡ take a P → take a L' ≡ take a L → b + n ≤ a
    → table n (drop b P') (drop b L') ≡ table n (drop b P) (drop b L)
same_rows a b n P P' L L' ep el le = table_is n (drop b P') (drop b L') (table n (drop b P) (drop b L)) (length_table n (drop b P) (drop b L))
    (λ i lt. at_table n (drop b P) (drop b L) i lt
    ∙ rw (get_or-drop b P' i 0, get_or-drop b L' i 0, get_or-drop b P i 0, get_or-drop b L i 0, below a P P' ep (b + i) (omega arith), below a L L' el (b + i) (omega arith)) refl)

-- marks as they are stored: where there are rows, they are among them
kept_stored : (a : ℕ) (o : code.Option Built) (P L : List ℕ) → rows_in o ≤ pool_rows → TreeO (built_from a o P L)
    → built_from a (stored (rows_in o) ((kept o).s % 65536) ((kept o).d % 65536)) P L ≡ built_from a o P L
kept_stored a None P L few t = refl
kept_stored a (Some r) P L few t =
    let s = live_below r.rows (drop a P) (drop a L) r.s t.s_live in
    let d = live_below r.rows (drop a P) (drop a L) r.d t.d_live in
    let es : r.s % 65536 ≡ r.s = mod-eq_of_lt (omega arith) in
    let ed : r.d % 65536 ≡ r.d = mod-eq_of_lt (omega arith) in
    rw (es, ed) (stored_as a r.rows r.s r.d P L ∙ rows_some r.rows (query r.rows (drop a P) (drop a L) r.s r.d) (λ z. omega arith))

module _ (p : Pool) (k : ℕ) (order : InOrder p k) (room : k < most_pending) (l : Latest) (P' L' : List ℕ) (o : Option Query)
    (made : Made k (get_or p.first k 0) p.parent p.label l P' L' o) (tree : TreeO o) (fits : get_or p.first k 0 + rows_in l.built ≤ pool_rows) where
  abbrev F : List ℕ
  F = p.first

  abbrev F' : List ℕ
  F' = set F (k + 1) (get_or F k 0 + rows_in l.built)

  abbrev p' : Pool
  p' = pool P' L' F' (set p.s k ((kept l.built).s % 65536)) (set p.d k ((kept l.built).d % 65536))

  same_first : (j : ℕ) → j ≤ k → get_or F' j 0 ≡ get_or F j 0
  same_first j le = get_or-set_other F (k + 1) j (get_or F k 0 + rows_in l.built) 0 (λ e. omega arith)

  next_first : get_or F' (k + 1) 0 ≡ get_or F k 0 + rows_in l.built
  next_first = get_or-set_same F (k + 1) (get_or F k 0 + rows_in l.built) 0 (omega (arith, order.firsts))

  put_below : (j : ℕ) → j < k → operand_at p' j ≡ operand_at p j
  unfolding operand_at
  put_below j lt =
      rw (
        same_first j (omega arith),
        same_first (j + 1) (omega arith),
        get_or-set_other p.s k j ((kept l.built).s % 65536) 0 (λ e. omega arith),
        get_or-set_other p.d k j ((kept l.built).d % 65536) 0 (λ e. omega arith),
      )
      (stored_as (get_or F j 0) (get_or F (j + 1) 0 - get_or F j 0) (get_or p.s j 0) (get_or p.d j 0) P' L'
      ∙ ap (λ T. if_rows (get_or F (j + 1) 0 - get_or F j 0) (record { rows = T; s = get_or p.s j 0; d = get_or p.d j 0 }))
      (same_rows (get_or F k 0) (get_or F j 0) (get_or F (j + 1) 0 - get_or F j 0) p.parent P' p.label L' made.parents made.labels
      (omega (arith, order.up j lt, rises p k order (j + 1) k (omega arith) (omega arith))))
      ∙ sym (stored_as (get_or F j 0) (get_or F (j + 1) 0 - get_or F j 0) (get_or p.s j 0) (get_or p.d j 0) p.parent p.label))

  put_here : operand_at p' k ≡ o
  unfolding operand_at
  put_here =
      let n : get_or F k 0 + rows_in l.built - get_or F k 0 ≡ rows_in l.built = omega arith in
      rw (
        same_first k (omega arith),
        next_first,
        get_or-set_same p.s k ((kept l.built).s % 65536) 0 (omega (arith, order.marks_s)),
        get_or-set_same p.d k ((kept l.built).d % 65536) 0 (omega (arith, order.marks_d)),
        n,
      )
      (kept_stored (get_or F k 0) l.built P' L' (omega arith) (subst TreeO (sym made.whole) tree) ∙ made.whole)

  put_rest : (m : ℕ) → m ≤ k → stack p' m ≡ stack p m
  unfolding stack
  put_rest zero le = refl
  put_rest (suc m) le = rw (put_below m (omega arith), put_rest m (omega arith)) refl

  pub put_stack : stack p' (k + 1) ≡ o ∷ stack p k
  unfolding stack
  put_stack = ap (stack p') (let q : k + 1 ≡ suc k = omega arith in q) ∙ rw (put_here, put_rest k (omega arith)) refl

  pub put_order : length P' ≡ length p.parent → length L' ≡ length p.label → InOrder p' (k + 1)
  put_order lp ll = record {
    parents = rw lp order.parents;
    labels = rw ll order.labels;
    firsts = rw length-set order.firsts;
    marks_s = rw length-set order.marks_s;
    marks_d = rw length-set order.marks_d;
    few = omega arith;
    start = same_first 0 (omega arith) ∙ order.start;
    up = λ j lt. go j lt (ℕ_discrete j k);
    end = rw next_first fits;
  }
    where
      go : (j : ℕ) → j < k + 1 → Dec (j ≡ k) → get_or F' j 0 ≤ get_or F' (j + 1) 0
      go j lt (yes q) = rw (q, next_first, same_first k (omega arith)) (omega arith)
      go j lt (no nq) = rw (same_first j (omega arith), same_first (j + 1) (omega arith)) (order.up j (omega arith))
