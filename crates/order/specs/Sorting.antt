-- Brothers put in order from the last row to the first, where parents stand before their children: when a row is reached, all that lies below it and
-- all its later brothers are in order already. Until then `next` counts its children.
use Rattle.std.specs.Prelude.{◌≡◌, List, cond, ℕ, zero, suc, ◌-◌, ◌≤◌, ◌<◌, length, get_or, eqb}
use Rattle.meaning.specs.Limits.{most_nodes}
use Rattle.meaning.specs.Image.{ordered}
use Rattle.meaning.specs.Tree.{Forest, bare, tree}
use Rattle.rows.specs.Rows.{width, tag_at, map_t}
use Rattle.rows.specs.Table.{table_tree, TreeTable, ParentsFirst}
use Rattle.order.specs.declared.Table.{Table}
use Rattle.order.specs.declared.children.Lists.{Lists}
use Rattle.order.specs.Keys.{key_of}
use Rattle.order.specs.Links.{slot_of, Known, forest_at, Linked, Listed, ordered_by}
use Rattle.order.specs.Contract.{Lent}

-- the children of p among the k rows from j on, each with all below it
unfoldable pub below_from : List ℕ → ℕ → ℕ → ℕ → Forest ℕ
below_from parent zero j p = bare
below_from parent (suc k) j p =
    cond (eqb (get_or parent j 0) p) (tree j (below_from parent k (suc j) j) (below_from parent k (suc j) p)) (below_from parent k (suc j) p)

-- the table may be put in order, and there is room for the lists and keys of its rows
pub record Sortable (parent code mark : List ℕ) (n : ℕ) (fs ns key : List ℕ) : Type 0 where
  pub table : TreeTable parent code mark n
  pub order : ParentsFirst parent n
  pub lent : Lent fs ns
  pub keys : length key ≡ most_nodes

-- a row before b, or no row, has the list of its children from row b on, in order, and their number; the rows from b on have their keys
pub record Sorting (parent code mark : List ℕ) (n b : ℕ) (fs ns key : List ℕ) : Type 0 where
  pub lists : (p : ℕ) → Known b p → Linked n fs ns (get_or fs (slot_of n p) 0) (ordered_by key (below_from parent (n - b) b p))
  pub counts : (p : ℕ) → Known b p → get_or ns (slot_of n p) 0 ≡ width (below_from parent (n - b) b p)
  pub keys : (i : ℕ) → b ≤ i → i < n → get_or key i 0 ≡ key_of (get_or code i 0) (get_or mark i 0) (width (below_from parent (n - suc i) (suc i) i))

-- at the last slot the whole tree is read, in image order
pub record Sorted (parent code mark : List ℕ) (n : ℕ) (fs ns : List ℕ) : Type 0 where
  pub listed : Listed n fs ns
  pub reads : map_t (tag_at code mark) (forest_at n fs ns (get_or fs n 0)) ≡ ordered (table_tree parent code mark n)

abbrev pub IsSorted : Table → Lists → Type 0
IsSorted t l = Sorted t.parent.now t.code.now t.mark.now t.n l.first l.next
