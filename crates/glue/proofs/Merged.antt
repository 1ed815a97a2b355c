-- One row stands for two, in place: the links and labels of the merged table, once the loops are done.
use mathlib.Core.Path.{◌≡◌, refl, sym, ap, ◌∙◌}
use mathlib.Core.Logic.{◌≢◌, by_cases}
use mathlib.Core.Option.{Option, none, some}
use mathlib.Core.List.{List, map}
use Prim.Native.Nat.{ℕ, suc, ◌+◌, ◌-◌, ◌≤◌, ◌<◌}
use native.Mathlib.Decide.{ℕ_discrete, dec_lt}
use native.Mathlib.Omega.{arith}
use lib.ListN.{length, get_or, set, length-map}
use lib.Seq.{get_or-set_same, get_or-set_other}
use Rattle.meaning.specs.Basics.{mapped}
use Rattle.meaning.specs.TreeQuery.{Row, node, Table, at}
use Rattle.meaning.specs.Gluing.{without, moved, relink, merged}
use Rattle.rows.specs.Rows.{lab_of, no_row}
use Rattle.theory.proofs.Look.{pick_yes, pick_no, look_set_same, look_set_other, look_map}
use Rattle.theory.proofs.Merge.{back, back_low, back_high, move_hit, moved_low, moved_high, at_without, length_without, length_merged}
use Rattle.rows.specs.Table.{parent_of, row_at, table}
use Rattle.glue.specs.Rows.{Relinked, Swept}
use Rattle.rows.proofs.Table.{length_table, at_table, table_is}
use Rattle.glue.proofs.Codes.{relinked_some}
use Rattle.glue.proofs.Sweeping.{here_done}

-- ------------------------------------------------------------------ numbers before and after

pub hit_high : (x y i : ℕ) → i ≡ y → y < x → x - 1 ≡ moved x y i
hit_high x y i e lt = rw (e, move_hit x y) (sym (pick_yes (dec_lt y x) (x - 1) x lt))

pub hit_low : (x y i : ℕ) → i ≡ y → x ≤ y → x ≡ moved x y i
hit_low x y i e le = rw (e, move_hit x y) (sym (pick_no (dec_lt y x) (x - 1) x (λ lt. omega arith)))

pub miss_high : (x y i : ℕ) → y < i → i - 1 ≡ moved x y i
miss_high x y i lt = let a = moved_high x y i lt in omega arith

pub miss_low : (x y i : ℕ) → i ≢ y → i ≤ y → i ≡ moved x y i
miss_low x y i ne le = sym (moved_low x y i (omega arith))

-- no number grows, but where y becomes x
moved_cases : {A : Type 0} (x y i : ℕ) → (y < x → moved x y i ≡ x - 1 → A) → (x ≤ y → moved x y i ≡ x → A) → (i < y → moved x y i ≡ i → A)
    → (y < i → suc (moved x y i) ≡ i → A) → A
moved_cases x y i a b c d = by_cases (ℕ_discrete i y)
    (λ e. by_cases (dec_lt y x) (λ lt. a lt (sym (hit_high x y i e lt))) (λ ge. b (omega arith) (sym (hit_low x y i e (omega arith)))))
    (λ ne. by_cases (dec_lt i y) (λ lt. c lt (moved_low x y i lt)) (λ ge. d (omega arith) (moved_high x y i (omega arith))))

moved_bound : (x y i b : ℕ) → x < b → i < b → moved x y i < b
moved_bound x y i b lx li = moved_cases x y i (λ h e. omega arith) (λ h e. omega arith) (λ h e. omega arith) (λ h e. omega arith)

moved_less : (x y i n : ℕ) → x ≢ y → x < n → y < n → i < n → suc (moved x y i) < n
moved_less x y i n ne lx ly li = moved_cases x y i (λ h e. omega arith) (λ h e. omega arith) (λ h e. omega arith) (λ h e. omega arith)

-- the row of x
pub moved_row : (x y n z : ℕ) → z ≡ moved x y x → x ≢ y → x < n → y < n → suc z < n
moved_row x y n z e ne lx ly = rw e (moved_less x y x n ne lx ly lx)

before_low : (y i : ℕ) → i < y → i ≡ back y i
before_low y i lt = sym (back_low y i lt)

before_high : (y i : ℕ) → y ≤ i → i + 1 ≡ back y i
before_high y i le = let z = back_high y i le in omega arith

pub moved_link : (x y p j : ℕ) → p ≢ no_row → p < 65536 → x < no_row → j ≡ moved x y p → Relinked (moved x y) p j
moved_link x y p j ne lp lx e = relinked_some (moved x y) p j ne (λ q. let z = moved_bound x y p no_row lx (omega arith) in omega arith) e

-- ------------------------------------------------------------------ taking a row out
-- what is left once all rows are renumbered is the row of x
row_of_x : (P₀ L₀ : List ℕ) (x y n : ℕ) (P L : List ℕ) (z p u l : ℕ) → length P ≡ length P₀ → length L ≡ length L₀
    → ((k : ℕ) → k < n - 1 → row_at P L k ≡ relink (moved x y) (row_at P₀ L₀ (back y k))) → x ≢ y → x < n → y < n
    → n ≤ length P₀ → n ≤ length L₀ → z ≡ moved x y x → parent_of p ≡ mapped (moved x y) (parent_of u)
    → table (n - 1) (set P z p) (set L z l) ≡ merged (table n P₀ L₀) x y (parent_of u) (lab_of l)
row_of_x P₀ L₀ x y n P L z p u l len_p len_l done ne lx ly np nl ez el =
    table_is (n - 1) (set P z p) (set L z l) (merged T x y (parent_of u) (lab_of l)) len (λ k lt. go k (ℕ_discrete k z) lt)
  where
    T : Table
    T = table n P₀ L₀

    l_t : length T ≡ n
    l_t = length_table n P₀ L₀

    len : length (merged T x y (parent_of u) (lab_of l)) ≡ n - 1
    len = let w = length_merged T x y (parent_of u) (lab_of l) (omega (arith, l_t)) in omega (arith, l_t)

    R : Table
    R = map (relink (moved x y)) (without T y)

    new : Row
    new = node (mapped (moved x y) (parent_of u)) (lab_of l)

    l_r : length R ≡ n - 1
    l_r = rw length-map (let w = length_without T y (omega (arith, l_t)) in omega (arith, l_t))

    zn : suc z < n
    zn = moved_row x y n z ez ne lx ly

    old : (k : ℕ) → k < n - 1 → back y k < n
    old k lt = by_cases (dec_lt k y) (λ a. let e = back_low y k a in omega arith) (λ a. let e = back_high y k (omega arith) in omega arith)

    go : (k : ℕ) → Dec (k ≡ z) → k < n - 1 → at (merged T x y (parent_of u) (lab_of l)) k ≡ some (row_at (set P z p) (set L z l) k)
    go k (yes e) lt =
        rw (e, get_or-set_same P z p 0 (omega (arith, zn, len_p)), get_or-set_same L z l 0 (omega (arith, zn, len_l)), el, ez)
        (look_set_same R (moved x y x) new (omega (arith, l_r, zn, ez)))
    go k (no nk) lt =
        look_set_other R (moved x y x) k new (λ e. nk (e ∙ sym ez))
        ∙ look_map (relink (moved x y)) (without T y) k
        ∙ ap (mapped (relink (moved x y))) (at_without T y k ∙ at_table n P₀ L₀ (back y k) (old k lt))
        ∙ ap some (sym (done k lt) ∙ rw (get_or-set_other P z k p 0 nk, get_or-set_other L z k l 0 nk) refl)

-- the links up to y are renumbered where they stand, those behind y come one row down, and so do the labels there
module _ (P₀ L₀ P₁ P L : List ℕ) (x y from last : ℕ) (first : (i p : ℕ) → i < from → parent_of (get_or P₀ i 0) ≡ some p → p < from)
    (up : Swept 0 (Relinked (moved x y)) 0 from y P₀ P₁) (down : Swept 0 (Relinked (moved x y)) 1 y last P₁ P) (labels : Swept 0 ◌≡◌ 1 y last L₀ L) where
  row_low : from ≤ y → (k : ℕ) → k < y → row_at P L k ≡ relink (moved x y) (row_at P₀ L₀ (back y k))
  row_low le k lt =
      rw (← before_low y k lt, labels.low k lt, down.low k lt)
      (ap (λ z. node z (lab_of (get_or L₀ k 0))) (by_cases (dec_lt k from) (λ l. stays l) (λ ge. here_done (Relinked (moved x y)) from y P₀ P₁ up k (omega arith) lt)))
    where
      same : (u : Option ℕ) → ((p : ℕ) → u ≡ some p → p < from) → u ≡ mapped (moved x y) u
      same none f = refl
      same (some p) f = let z = f p refl in ap some (miss_low x y p (λ e. omega arith) (omega arith))

      stays : k < from → Relinked (moved x y) (get_or P₀ k 0) (get_or P₁ k 0)
      stays l = ap parent_of (up.low k l) ∙ same (parent_of (get_or P₀ k 0)) (λ p e. first k p l e)

  row_high : (k : ℕ) → y ≤ k → k < last → row_at P L k ≡ relink (moved x y) (row_at P₀ L₀ (back y k))
  row_high k ge lt =
      rw (← before_high y k ge, labels.done k ge lt, ← up.rest (k + 1) (omega arith))
      (ap (λ z. node z (lab_of (get_or L k 0))) (down.done k ge lt))

  rows_done : from ≤ y → (k : ℕ) → k < last → row_at P L k ≡ relink (moved x y) (row_at P₀ L₀ (back y k))
  rows_done le k lt = by_cases (dec_lt k y) (λ l. row_low le k l) (λ ge. row_high k (omega arith) lt)

  -- the row of x is written last
  pub merged_end : (n z p u l : ℕ) → last ≡ n - 1 → from ≤ y → x ≢ y → x < n → y < n → n ≤ length P₀ → n ≤ length L₀ → z ≡ moved x y x
      → Relinked (moved x y) u p → table (n - 1) (set P z p) (set L z l) ≡ merged (table n P₀ L₀) x y (parent_of u) (lab_of l)
  merged_end n z p u l e le = row_of_x P₀ L₀ x y n P L z p u l (down.same ∙ up.same) labels.same (λ k lt. rows_done le k (omega arith))
