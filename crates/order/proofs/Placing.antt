-- A row is put in its place among its later brothers without a change to any other list: one turn of the loop, and the tree that is read in the end.
use mathlib.Core.Path.{◌≡◌, refl, sym, ap, ◌∙◌}
use mathlib.Core.Logic.{inl, inr}
use mathlib.Core.List.{List}
use mathlib.Core.Bool.{true, false}
use Prim.Native.Nat.{ℕ, suc, ◌+◌, ◌-◌, ◌<◌, ◌≤◌}
use native.Mathlib.Omega.{arith}
use native.Mathlib.Decide.{ℕ_discrete}
use lib.ListN.{get_or, set, length-set}
use lib.Seq.{get_or-set_same, get_or-set_other}
use borrow.Author.Tests.{eq-eqb, ne_eqb}
use Rattle.meaning.specs.Limits.{most_nodes}
use Rattle.meaning.specs.Tree.{Forest, bare, tree, size}
use Rattle.rows.specs.Rows.{no_row, width, tag_at}
use Rattle.rows.specs.Table.{table_shape, table_tree, TreeTable, ParentsFirst}
use Rattle.rows.proofs.Rows.{lab_code_lem, mark_code_lem}
use Rattle.order.specs.Keys.{key_of}
use Rattle.order.specs.Links.{slot_of, Known, forest_at, Linked, In, Apart, place_by, ordered_by, Ready, PutAmong}
use Rattle.order.specs.Gathering.{Cleared}
use Rattle.order.specs.Contract.{Lent}
use Rattle.order.specs.Sorting.{below_from, Sortable, Sorting, Sorted}
use Rattle.order.proofs.Links.{slot_row, slot_top, slot_le, SameSlot, same_slot, read_is, finite_of}
use Rattle.order.proofs.Inserting.{kept, in_ordered_by, size_ordered_by, width_ordered_by, apart_both, order_agree}
use Rattle.order.proofs.Records.{Keyed, ordered_by_lem}
use Rattle.order.proofs.Below.{known_later, below_open, in_range, unique, apart_below, each_below, few_below, whole_below}
use Rattle.order.proofs.QueryTable.{shape_all}

width_size : (F : Forest ℕ) → width F ≤ size F
width_size bare = omega arith
width_size (tree i k r) = let z = width_size r in omega arith

-- every row's parent stands before it
known : {parent : List ℕ} {n : ℕ} → ParentsFirst parent n → (i : ℕ) → i < n → Known i (get_or parent i 0)
known {parent} O i l = go (ℕ_discrete i 0)
  where
    go : Dec (i ≡ 0) → Known i (get_or parent i 0)
    go (yes e) = inr (rw e (O.top_first (omega arith)))
    go (no d) = inl (O.lower i (omega arith) l)

-- what lies below a row has at most n rows
few : {parent code mark : List ℕ} {n : ℕ} → TreeTable parent code mark n → ParentsFirst parent n → (b k x : ℕ) → b + k ≡ n → Known b x
    → size (below_from parent k b x) ≤ n
few {parent} {n = n} T O b k x e kx =
    let s : n ≤ no_row = omega (arith, T.few) in
    omega (arith, few_below parent n (known O) s b k x e kx, ap size (whole_below parent n (known O) s), (shape_all T).0)

-- ------------------------------------------------------------------ the loop from the last row to the first
pub sorting_none : {parent code mark : List ℕ} {n : ℕ} {fs ns key fs' ns' : List ℕ} → Sortable parent code mark n fs ns key → Cleared (n + 1) fs' ns' × Lent fs' ns'
    → Sortable parent code mark n fs' ns' key × Sorting parent code mark n n fs' ns' key
unfolding below_from ordered_by
sorting_none {n = n} {fs' = fs'} {ns' = ns'} w (h, L) =
    let z : n - n ≡ 0 = omega arith in
    let at : (p : ℕ) → (get_or fs' (slot_of n p) 0 ≡ no_row) × (get_or ns' (slot_of n p) 0 ≡ 0) = λ p. h (slot_of n p) (omega (arith, slot_le n p)) in (
      record { table = w.table; order = w.order; lent = L; keys = w.keys },
      record {
        lists = λ p k. rw z (omega (arith, (at p).0, w.table.few));
        counts = λ p k. rw z (at p).1;
        keys = λ i a b. absurd (omega arith);
      },
    )

-- row j is reached, and s is the slot of its parent
module _ {parent code mark : List ℕ} {n : ℕ} {fs ns key : List ℕ} (W : Sortable parent code mark n fs ns key)
    (j : ℕ) (l : j < n) (S : Sorting parent code mark n (suc j) fs ns key) {s : ℕ} (es : s ≡ slot_of n (get_or parent j 0)) where
  abbrev T : TreeTable parent code mark n
  T = W.table

  abbrev p : ℕ
  p = get_or parent j 0

  -- what lies below x from row b on
  abbrev from : ℕ → ℕ → Forest ℕ
  from b x = below_from parent (n - b) b x

  kp : Known j p
  kp = known W.order j l

  up : (b x : ℕ) → j ≤ b → Known j x → Known b x
  up b x = known_later j b x

  kp' : Known (suc j) p
  kp' = up (suc j) p (omega arith) kp

  -- what lies below row j, and its later brothers
  abbrev D : Forest ℕ
  D = from (suc j) j

  abbrev E : Forest ℕ
  E = from (suc j) p

  -- a slot of a row before j, or of no row, is none of the rows from j on
  slot_off : (x y : ℕ) → Known j x → j ≤ y → y < n → y ≡ slot_of n x → ⊥
  slot_off x y (inl u) a b e = let z = slot_row n x (omega arith) in omega arith
  slot_off x y (inr u) a b e = let z = slot_top n x (omega (arith, T.few)) in omega arith

  slot_fits : s ≤ most_nodes
  slot_fits = omega (arith, slot_le n p, T.few)

  one_more : n - j ≡ suc (n - suc j)
  one_more = omega arith

  list_open : from j p ≡ tree j D E
  list_open = rw one_more (below_open parent (n - suc j) j p true (eq-eqb p p refl))

  list_same : (x : ℕ) → (p ≡ x → ⊥) → from j x ≡ from (suc j) x
  list_same x d = rw one_more (below_open parent (n - suc j) j x false (ne_eqb p x d))

  apart : Apart (tree j D E)
  apart = rw list_open at (apart_below parent (n - j) j p (omega (arith, T.few)) kp)

  room : size (tree j D E) ≤ n
  room = rw list_open at (few T W.order j (n - j) p (omega arith) kp)

  -- a row of these lists comes after j
  later : (x y : ℕ) → In y (from (suc j) x) → (suc j ≤ y) × (y < n)
  later x y m = let z = in_range parent (n - suc j) (suc j) x y m in (z.0, omega (arith, z.1))

  count_here : get_or ns j 0 ≡ width D
  count_here = rw (← slot_row n j l) at (S.counts j (inl (omega arith)))

  -- v is its key, and h is the first of its later brothers
  module _ (v : ℕ) {h : ℕ} (eh : h ≡ get_or fs s 0) where
    abbrev key' : List ℕ
    key' = set key j v

    -- the key of row j puts no later row elsewhere
    same_order : (x : ℕ) → ordered_by key' (from (suc j) x) ≡ ordered_by key (from (suc j) x)
    same_order x = order_agree key key' (from (suc j) x) (λ y m. get_or-set_other key j y v 0 (λ e. omega (arith, (later x y m).0)))

    abbrev k : Forest ℕ
    k = ordered_by key' D

    abbrev r : Forest ℕ
    r = ordered_by key' E

    linked_k : Linked n fs ns (get_or fs j 0) k
    linked_k = rw (same_order j) (rw (← slot_row n j l) at (S.lists j (inl (omega arith))))

    linked_r : Linked n fs ns h r
    linked_r = rw (same_order p, eh, es) (S.lists p kp')

    small_k : size k ≤ n
    small_k = rw (size_ordered_by key' D) (omega (arith, room))

    small_r : size r ≤ n
    small_r = rw (size_ordered_by key' E) (omega (arith, room))

    k_is : forest_at n fs ns (get_or fs j 0) ≡ k
    k_is = read_is n fs ns (get_or fs j 0) k linked_k small_k

    r_is : forest_at n fs ns h ≡ r
    r_is = read_is n fs ns h r linked_r small_r

    pub row_ready : h < 65536 → Ready n fs ns j h
    row_ready low = record {
      few = T.few;
      nexts = omega (arith, W.lent.nexts, T.few);
      inside = l;
      low = low;
      kids = finite_of n fs ns (get_or fs j 0) k linked_k small_k;
      list = finite_of n fs ns h r linked_r small_r;
      apart = rw (k_is, r_is) (apart_both key' j D E apart);
      room = rw (k_is, r_is, size_ordered_by key' D, size_ordered_by key' E) room;
    }

    module _ {ns' : List ℕ} {f : ℕ} (P : PutAmong n fs ns (set key j v) j h ns' f) where
      -- only rows of the list were linked anew
      same_next : (y : ℕ) → (y ≡ j → ⊥) → (In y E → ⊥) → get_or ns' y 0 ≡ get_or ns y 0
      same_next y a b = P.rest y a (λ m. b (in_ordered_by key' E y (rw r_is at m)))

      same_slots : (x : ℕ) → Known j x → get_or ns' (slot_of n x) 0 ≡ get_or ns (slot_of n x) 0
      same_slots x kx =
          same_next (slot_of n x) (λ e. slot_off x j kx (omega arith) l (sym e)) (λ m. let z = later p (slot_of n x) m in slot_off x (slot_of n x) kx (omega (arith, z.0)) z.1 refl)

      count_is : get_or ns' s 0 ≡ width E
      count_is = rw es (same_slots p kp ∙ S.counts p kp')

      pub count_fits : get_or ns' s 0 + 1 < 65536
      count_fits = omega (arith, count_is, width_size E, room, T.few)

      module _ (ev : v ≡ key_of (get_or code j 0) (get_or mark j 0) (get_or ns j 0)) where
        abbrev fs'' : List ℕ
        fs'' = set fs s f

        abbrev ns'' : List ℕ
        ns'' = set ns' s (get_or ns' s 0 + 1)

        -- rows from j on keep their links
        same : (y : ℕ) → j ≤ y → y < n → (get_or fs'' y 0 ≡ get_or fs y 0) × (get_or ns'' y 0 ≡ get_or ns' y 0)
        same y a b =
            let d : y ≡ s → ⊥ = λ e. slot_off p y kp a b (e ∙ es) in
            (get_or-set_other fs s y f 0 d, get_or-set_other ns' s y (get_or ns' s 0 + 1) 0 d)

        placed : Linked n fs'' ns'' f (ordered_by key' (from j p))
        placed =
            let e : ordered_by key' (from j p) ≡ place_by key' j k r = rw list_open (unfold ordered_by in refl) in
            kept n fs ns' fs'' ns'' (ordered_by key' (from j p)) f
            (λ y m. let z = in_range parent (n - j) j p y (in_ordered_by key' (from j p) y m) in same y z.0 (omega (arith, z.1)))
            (rw e (rw (k_is, r_is) at P.linked))

        others : (x : ℕ) → Known j x → (p ≡ x → ⊥) → Linked n fs'' ns'' (get_or fs (slot_of n x) 0) (ordered_by key' (from j x))
        others x kx d =
            let kx' = up (suc j) x (omega arith) kx in
            rw (list_same x d) (
            kept n fs ns fs'' ns'' (ordered_by key' (from (suc j) x)) (get_or fs (slot_of n x) 0)
            (λ y m.
            let i = in_ordered_by key' (from (suc j) x) y m in let z = later x y i in let e = same y (omega (arith, z.0)) z.1 in (
              e.0,
              e.1 ∙ same_next y (λ q. omega (arith, z.0))
                  (λ o. d (sym (unique parent (n - suc j) (suc j) x p y (omega (arith, T.few)) kx' kp' i o))),
            ))
            (rw (same_order x) (S.lists x kx'))
            )

        pub sorting_turn : Sortable parent code mark n (set fs s f) (set ns' s (get_or ns' s 0 + 1)) (set key j v)
            × Sorting parent code mark n j (set fs s f) (set ns' s (get_or ns' s 0 + 1)) (set key j v)
        sorting_turn = (
          record {
            table = T;
            order = W.order;
            lent = record { firsts = length-set fs s f ∙ W.lent.firsts; nexts = length-set ns' s (get_or ns' s 0 + 1) ∙ P.long ∙ W.lent.nexts };
            keys = length-set key j v ∙ W.keys;
          },
          record { lists = λ x kx. list x kx (side x kx); counts = λ x kx. count x kx (side x kx); keys = λ i a b. keyed i a b (ℕ_discrete i j) },
        )
          where
            side : (x : ℕ) → Known j x → SameSlot n x p s
            side x kx = same_slot n x p s (omega (arith, T.few)) (up n x (omega arith) kx) (up n p (omega arith) kp) es

            list : (x : ℕ) → Known j x → SameSlot n x p s → Linked n fs'' ns'' (get_or fs'' (slot_of n x) 0) (ordered_by key' (from j x))
            list x kx (inl (e, u)) = rw (u, e, get_or-set_same fs s f 0 (omega (arith, slot_fits, W.lent.firsts))) placed
            list x kx (inr (d, u)) = rw (get_or-set_other fs s (slot_of n x) f 0 u) (others x kx d)

            count : (x : ℕ) → Known j x → SameSlot n x p s → get_or ns'' (slot_of n x) 0 ≡ width (from j x)
            count x kx (inl (e, u)) = rw (u, e, get_or-set_same ns' s (get_or ns' s 0 + 1) 0 (omega (arith, slot_fits, P.long, W.lent.nexts)), list_open) (omega (arith, count_is))
            count x kx (inr (d, u)) =
                rw (get_or-set_other ns' s (slot_of n x) (get_or ns' s 0 + 1) 0 u, list_same x d) (same_slots x kx ∙ S.counts x (up (suc j) x (omega arith) kx))

            keyed : (i : ℕ) → j ≤ i → i < n → Dec (i ≡ j) → get_or key' i 0 ≡ key_of (get_or code i 0) (get_or mark i 0) (width (from (suc i) i))
            keyed i a b (yes e) = rw e (get_or-set_same key j v 0 (omega (arith, W.keys, T.few)) ∙ ev ∙ ap (key_of (get_or code j 0) (get_or mark j 0)) count_here)
            keyed i a b (no d) = get_or-set_other key j i v 0 d ∙ S.keys i (omega arith) b

-- ------------------------------------------------------------------ the whole tree
module _ {parent code mark : List ℕ} {n : ℕ} {fs ns key : List ℕ} (T : TreeTable parent code mark n) (O : ParentsFirst parent n)
    (S : Sorting parent code mark n 0 fs ns key) where
  abbrev F : Forest ℕ
  F = ordered_by key (table_shape parent n)

  whole : below_from parent n 0 no_row ≡ table_shape parent n
  whole = sym (whole_below parent n (known O) (omega (arith, T.few)))

  keyed : (i k : ℕ) → suc i + k ≡ n → Keyed key (tag_at code mark) i (width (below_from parent k (suc i) i))
  keyed i k e =
      let z : n - suc i ≡ k = omega arith in
      let a = lab_code_lem (get_or code i 0) in
      let b = mark_code_lem (get_or mark i 0) (T.marked i (omega arith)) in
      let s = few T O (suc i) k i e (inl (omega arith)) in
      record {
        is = rw (a, b) (rw z at (S.keys i (omega arith) (omega arith)));
        low = rw a (omega (arith, T.labels i (omega arith)));
        few = omega (arith, width_size (below_from parent k (suc i) i), s, T.few);
      }

  pub sorted_all : Sorted parent code mark n fs ns
  sorted_all =
      let z : n - 0 ≡ n = omega arith in
      let h : Linked n fs ns (get_or fs n 0) F = rw (← slot_top n no_row (omega (arith, T.few)), z, whole) at (S.lists no_row (inr refl)) in
      let s : size F ≡ n = size_ordered_by key (table_shape parent n) ∙ (shape_all T).0 in
      let e = read_is n fs ns (get_or fs n 0) F h (omega arith) in
      let k = rw whole at (each_below parent (Keyed key (tag_at code mark)) n n 0 no_row (omega arith) keyed) in
      record {
        listed = record {
          finite = finite_of n fs ns (get_or fs n 0) F h (omega arith);
          all = rw e s;
          single = rw (e, width_ordered_by key (table_shape parent n)) (shape_all T).1;
        };
        reads = rw e (unfold table_tree in ordered_by_lem key (tag_at code mark) (table_shape parent n) k);
      }
