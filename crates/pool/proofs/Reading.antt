-- An accepted word read once more: the pool holds what is pending, sign by sign, and at the end the plain tree query of the word's expression.
use Rattle.std.specs.Prelude as code
use mathlib.Core.Path.{◌≡◌, refl, sym, ap, subst, ◌∙◌}
use mathlib.Core.List.{List, map}
use Prim.Native.Nat.{ℕ, ◌+◌, ◌≤◌, ◌<◌}
use native.Mathlib.Omega.{arith}
use lib.ListN.{length, get_or, set, length-set}
use lib.Seq.{get_or-set_same}
use Rattle.std.specs.Prelude.{Option, Some, None, IsSome}
use Rattle.meaning.specs.Expression.{Expr}
use Rattle.meaning.specs.Limits.{most_pending}
use Rattle.meaning.specs.Number.{read_number}
use Rattle.meaning.specs.Gluing.{plain}
use Rattle.meaning.specs.Word.{answered, and_then, Pending, read_word}
use Rattle.word.specs.Answer.{got_of}
use Rattle.word.specs.declared.number.Read.{Read}
use Rattle.word.proofs.Numbers.{number_at}
use Rattle.word.proofs.Run.{run_from, nothing_pending}
use Rattle.word.proofs.Accepted.{accepted_start, accepted_end, accepted_number, accepted_sign}
use Rattle.glue.specs.declared.trees.Built.{Built}
use Rattle.glue.specs.Rows.{pool_rows}
use Rattle.glue.specs.Trees.{built_of, built_from}
use Rattle.pool.specs.Pool.{Pool, pool, built, operand_at, stack, PoolFor, PoolForNone, PoolForOnly, Passes, Applies}
use Rattle.pool.proofs.Operands.{stack_count}

-- at place `at` the n operands of the pool are those that are pending
pub record Reading (w : List ℕ) (p : Pool) (n at : ℕ) : Type 0 where
  pub e : Expr
  pub word : read_word w ≡ answered e
  pub st : Pending
  pub rest : run_from w at st ≡ answered e
  pub holds : PoolFor p n st

-- before the first sign
pub holds_start : (P L F S D : List ℕ)
    → (pool_rows ≤ length P) × (pool_rows ≤ length L) × (most_pending < length F) × (most_pending ≤ length S) × (most_pending ≤ length D)
    → PoolForNone (pool P L (set F 0 0) S D)
unfolding stack
holds_start P L F S D (lp, ll, lf, ls, ld) = record {
  order = record {
    parents = lp;
    labels = ll;
    firsts = rw length-set lf;
    marks_s = ls;
    marks_d = ld;
    few = omega arith;
    start = start;
    up = λ k lt. absurd (omega arith);
    end = rw start (omega arith);
  };
  queries = refl;
  count = refl;
  few = omega arith;
}
  where
    start : get_or (set F 0 0) 0 0 ≡ 0
    start = get_or-set_same F 0 0 0 (omega arith)

pub reading_start : (w : List ℕ) (p : Pool) → ((e : Expr) × (read_word w ≡ answered e)) × PoolForNone p → Reading w p 0 0
reading_start w p ((e, q), h) = record { e = e; word = q; st = nothing_pending; rest = accepted_start w q; holds = h }

module _ (w : List ℕ) (p : Pool) (n at : ℕ) (d : Reading w p n at) where
  module _ (lt : at < length w) where
    -- no number of an accepted word is broken
    pub reading_some : (r : Option Read) → got_of at r ≡ read_number w at → IsSome r
    reading_some (Some read) g = refl
    reading_some None g = absurd (accepted_number w at d.st d.rest lt (sym g))

    module _ (read : Read) (g : got_of at (Some read) ≡ read_number w at) where
      -- no sign of an accepted word is refused
      pub reading_passes : Passes p n read.value
      reading_passes = let (st', t, rest) = accepted_sign w at d.st d.rest lt (number_at w at g) in (d.st, st', at, d.holds, t)

      pub reading_next : {p' : Pool} {n' : ℕ} → Applies p n read.value p' n' → Reading w p' n' read.next
      reading_next f =
          let (st', t, rest) = accepted_sign w at d.st d.rest lt (number_at w at g) in
          record { e = d.e; word = d.word; st = st'; rest = rest; holds = f d.st st' at d.holds t }

  pub reading_last : length w ≤ at → (e : Expr) × (read_word w ≡ answered e) × PoolForOnly p e
  reading_last le =
      let only = accepted_end w at d.st d.rest le in
      let l = stack_count p n d.st.operands d.holds.queries in
      let z = ap length only in
      (d.e, d.word, (d.st, only, subst (λ k. PoolFor p k d.st) (let one : n ≡ 1 = omega arith in one) d.holds))

-- after the last
pub last_fits : (p : Pool) (e : Expr) → PoolForOnly p e → (0 + 1 < length p.first) × (0 < length p.s) × (0 < length p.d)
    × (get_or p.first 0 0 ≤ get_or p.first (0 + 1) 0)
last_fits p e (st, only, h) = let o = h.order in
    (omega (arith, o.firsts), omega (arith, o.marks_s), omega (arith, o.marks_d), o.up 0 (omega arith))

pub reading_end : (w : List ℕ) (p : Pool) → (e : Expr) × (read_word w ≡ answered e) × PoolForOnly p e → (r : code.Option Built) → r ≡ built p 0
    → and_then (read_word w) (λ e. answered (plain e)) ≡ answered (built_of r p.parent p.label)
unfolding stack operand_at
reading_end w p (e, word, (st, only, h)) r er =
    let latest = h.queries ∙ ap (map plain) only in
    let here : operand_at p 0 ≡ plain e = cc in
    rw (word, er) (ap answered (sym here ∙ ap (λ a. built_from a (built p 0) p.parent p.label) h.order.start))
