-- The climb of the pair question, turn by turn: what each step of it says of the pair.
use mathlib.Core.Path.{◌≡◌, sym, ◌∙◌}
use mathlib.Core.Logic.{◌↔◌}
use mathlib.Core.List.{List}
use mathlib.Core.Bool.{Bool, true, false}
use Prim.Native.Nat.{ℕ, ◌≤◌, ◌<◌}
use native.Mathlib.Omega.{arith}
use lib.ListN.{length, get_or}
use Rattle.meaning.specs.Limits.{most_nodes, most_rows}
use Rattle.meaning.specs.Tree.{Takes}
use Rattle.meaning.specs.Matching.{doc_of, bit_at, table_bytes}
use Rattle.rows.specs.Rows.{FirstRow, tree_rows}
use Rattle.rows.proofs.Marks.{single_first}
use Rattle.pair.specs.Pair.{Asked, Step, OneWay, TwoWays}
use Rattle.document.proofs.Tables.{good_table_lem}
use Rattle.document.proofs.Nodes.{true_false}
use Rattle.pair.proofs.Climbing.{up_less, one_top, one_step, two_swap, two_meet, two_step}
use Rattle.pair.proofs.Selecting.{takes_two_ways}

then : {A B C : Type 0} → A ↔ B → B ↔ C → A ↔ C
then f g = (λ a. g.0 (f.0 a), λ c. f.1 (g.1 c))

-- a test that failed, and one that was passed
pub stuck : {A : Type 0} {r : Bool} → (r ≡ true) ↔ A → r ≡ false → A → ⊥
stuck {A} {r} t e a = true_false (sym (t.1 a) ∙ e)

pub stepped : {A : Type 0} {r : Bool} → (r ≡ true) ↔ A → r ≡ true → A
stepped {A} {r} t e = t.0 e

never : {A B : Type 0} → A ↔ B → (B → ⊥) → (false ≡ true) ↔ A
never f n = (λ e. true_false (sym e), λ a. absurd (n (f.0 a)))

module _ {w mark up P : List ℕ} (q : Asked w mark up P) where
  -- a row whose parent can be read, and a row and a node at which a bit can
  pub linked : (u : ℕ) → u < q.rows → u < most_nodes
  linked u l = omega (arith, q.tree.few)

  pub in_table : (u x : ℕ) → u < q.rows → x < length P → (u < most_nodes) × (x < most_rows) × (table_bytes ≤ length w)
  in_table u x l lx = (linked u l, omega (arith, (good_table_lem P q.labels q.table).few), q.room)

  pub parent_node : (x : ℕ) → x < length P → get_or P x 0 < length P
  parent_node x l = let z = (good_table_lem P q.labels q.table).up_to x l in omega arith

-- ------------------------------------------------------------------ one way
-- the way from row u, with u on x, has been climbed up to row c on y
abbrev pub Climbed : List ℕ → List ℕ → List ℕ → ℕ → ℕ → ℕ → ℕ → Type 0
Climbed w up P u x c y =
    (mark : List ℕ) (q : Asked w mark up P) → u < q.rows → (c < q.rows) × (OneWay w up P q.span u x ↔ OneWay w up P q.span c y)

module _ (w up P : List ℕ) (u x c y : ℕ) (k : Climbed w up P u x c y) (l : y < length P) where
  pub climbed_more : 0 < c → Step w c y → Climbed w up P u x (get_or up c 0) (get_or P y 0)
  climbed_more z s mark q lu =
      let o = k mark q lu in
      let e = one_step q c y z o.0 l in
      let d = up_less q c z o.0 in
      (omega (arith, o.0), then o.1 (λ a. (e.0 a).1, λ b. e.1 (s, b)))

  pub climbed_not : 0 < c → (Step w c y → ⊥) → (mark : List ℕ) (q : Asked w mark up P) → u < q.rows → (false ≡ true) ↔ OneWay w up P q.span u x
  climbed_not z n mark q lu = let o = k mark q lu in never o.1 (λ a. n ((one_step q c y z o.0 l).0 a).0)

  pub climbed_all : c ≡ 0 → (mark : List ℕ) (q : Asked w mark up P) → u < q.rows → (bit_at w 0 y ≡ true) ↔ OneWay w up P q.span u x
  climbed_all e mark q lu = let o = k mark q lu in let z = o.0 in
      let t : OneWay w up P q.span u x ↔ (bit_at w 0 y ≡ true) = then o.1 (rw e (one_top q y (omega arith) l)) in (t.1, t.0)

-- ------------------------------------------------------------------ two ways
-- the ways from rows u and v, u on x and v on y, have been climbed up to row c on z and row e on t
abbrev pub Meeting : List ℕ → List ℕ → List ℕ → ℕ → ℕ → ℕ → ℕ → ℕ → ℕ → ℕ → ℕ → Type 0
Meeting w up P u x v y c z e t =
    (mark : List ℕ) (q : Asked w mark up P) → u < q.rows → v < q.rows
    → (c < q.rows) × (e < q.rows) × (TwoWays w up P q.span u x v y ↔ TwoWays w up P q.span c z e t)

-- .. and one of them is stopped
abbrev pub Stopped : List ℕ → List ℕ → List ℕ → ℕ → ℕ → ℕ → ℕ → Type 0
Stopped w up P u x v y = (mark : List ℕ) (q : Asked w mark up P) → u < q.rows → v < q.rows → TwoWays w up P q.span u x v y → ⊥

meeting_swap : (w up P : List ℕ) (u x v y c z e t : ℕ) → Meeting w up P u x v y c z e t → Meeting w up P v y u x e t c z
meeting_swap w up P u x v y c z e t k mark q lv lu =
    let o = k mark q lu lv in (o.1, o.0, then (two_swap q v y u x, two_swap q u x v y) (then o.2 (two_swap q c z e t, two_swap q e t c z)))

module _ (w up P : List ℕ) (u x v y c z e t : ℕ) (k : Meeting w up P u x v y c z e t) where
  -- the later row, c, steps up
  pub meeting_more : e < c → z < length P → Step w c z → Meeting w up P u x v y (get_or up c 0) (get_or P z 0) e t
  meeting_more le l s mark q lu lv =
      let o = k mark q lu lv in
      let f = two_step q c z e t le o.0 l in
      let d = up_less q c (omega arith) o.0 in
      (omega (arith, o.0), o.1, then o.2 (λ a. (f.0 a).1, λ b. f.1 (s, b)))

  pub meeting_not : e < c → z < length P → (Step w c z → ⊥) → Stopped w up P u x v y
  meeting_not le l no_step mark q lu lv a = let o = k mark q lu lv in no_step ((two_step q c z e t le o.0 l).0 (o.2.0 a)).0

  -- the ways meet, on two nodes or on one
  pub meeting_apart : c ≡ e → (z ≡ t → ⊥) → Stopped w up P u x v y
  meeting_apart r ne mark q lu lv a = let o = k mark q lu lv in ne ((two_meet q c z e t r).0 (o.2.0 a)).0

  pub meeting_all : c ≡ e → z ≡ t → (mark : List ℕ) (q : Asked w mark up P) → u < q.rows → v < q.rows
      → (c < q.rows) × (TwoWays w up P q.span u x v y ↔ OneWay w up P q.span c z)
  meeting_all r f mark q lu lv =
      let o = k mark q lu lv in let m = two_meet q c z e t r in (o.0, then o.2 (λ a. (m.0 a).1, λ b. m.1 (f, b)))

module _ (w up P : List ℕ) (u x v y c z e t : ℕ) (k : Meeting w up P u x v y c z e t) where
  -- the later row, e, steps up
  pub meeting_more_d : c < e → t < length P → Step w e t → Meeting w up P u x v y c z (get_or up e 0) (get_or P t 0)
  meeting_more_d lc l s =
      meeting_swap w up P v y u x (get_or up e 0) (get_or P t 0) c z
      (meeting_more w up P v y u x e t c z (meeting_swap w up P u x v y c z e t k) lc l s)

  pub meeting_not_d : c < e → t < length P → (Step w e t → ⊥) → Stopped w up P u x v y
  meeting_not_d lc l no_step mark q lu lv a =
      meeting_not w up P v y u x e t c z (meeting_swap w up P u x v y c z e t k) lc l no_step mark q lv lu (two_swap q u x v y a)

-- ------------------------------------------------------------------ the pair
-- the pair is selected: a question of the query and the document that the table belongs to
abbrev Selects : (w mark up P : List ℕ) → ℕ → ℕ → Asked w mark up P → Type 0
Selects w mark up P m n q = Takes (tree_rows q.code mark q.span q.rows) (doc_of P q.labels) m n

module _ {w mark up P : List ℕ} {r r' : ℕ} (a : FirstRow mark 0 r) (b : FirstRow mark 1 r') (q : Asked w mark up P) where
  -- s and d stand in their rows
  pub ends_inside : (r < q.rows) × (r' < q.rows)
  ends_inside = rw (single_first mark 0 q.s a, single_first mark 1 q.d b) (q.s.inside, q.d.inside)

  module _ (m n : ℕ) where
    ends_two : Selects w mark up P m n q ↔ TwoWays w up P q.span r m r' n
    ends_two = rw (single_first mark 0 q.s a, single_first mark 1 q.d b) (takes_two_ways q m n)

    pub pair_stopped : (TwoWays w up P q.span r m r' n → ⊥) → (false ≡ true) ↔ Selects w mark up P m n q
    pair_stopped f = never ends_two f

    pub pair_met : (u x : ℕ) → (TwoWays w up P q.span r m r' n ↔ OneWay w up P q.span u x) → (t : Bool) → (t ≡ true) ↔ OneWay w up P q.span u x
        → (t ≡ true) ↔ Selects w mark up P m n q
    pair_met u x f t g = let h = then ends_two f in (λ e. h.1 (g.0 e), λ s. g.1 (h.0 s))
