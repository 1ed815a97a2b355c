-- Two tree queries that lie one behind the other in the lent rows, and the one that they become.
use Rattle.std.specs.Prelude as code
use Rattle.std.specs.Prelude.{Bool, true, false, List, ℕ, drop, Some, None}
use Rattle.std.proofs.Math.Option.{Option}
use Rattle.meaning.specs.TreeQuery.{Live, Tree, Query}
use Rattle.meaning.specs.Gluing.{within, placed, composed, intersected}
use Rattle.rows.specs.Table.{query}
use Rattle.glue.specs.declared.trees.Built.{Built}
use Rattle.glue.specs.Rows.{given}
use Rattle.glue.specs.Levels.{Marked}

-- the query in the rows from row a on
abbrev pub query_from : ℕ → Built → List ℕ → List ℕ → Query
query_from a r P L = query r.rows (drop a P) (drop a L) r.s r.d

-- what a table keeps of it: empty has no rows
abbrev pub kept : code.Option Built → Built
kept None = record { rows = 0; s = 0; d = 0 }
kept (Some r) = r

-- how many rows it takes, and which query it is; none is empty
abbrev pub rows_in : code.Option Built → ℕ
rows_in o = (kept o).rows

abbrev pub built_from : ℕ → code.Option Built → List ℕ → List ℕ → Option Query
built_from a o P L = given (λ r. query_from a r P L) o

abbrev pub built_of : code.Option Built → List ℕ → List ℕ → Option Query
built_of o P L = built_from 0 o P L

-- intersection, or composition
abbrev pub chosen : Bool → Query → Query → Option Query
chosen true = intersected
chosen false = composed

-- "then d to d in that result": a tree in which d2 is to be glued to d, and what comes of it
abbrev pub InTree : Marked → Type 0
InTree m = Tree m.rows × Live m.rows m.d × Live m.rows m.d2

abbrev pub within_of : Marked → Option Query
within_of m = placed (within m.rows m.d m.d2) m.s m.d
