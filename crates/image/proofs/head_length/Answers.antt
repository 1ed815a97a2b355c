-- Each of the three numbers is below 2^32, so that it takes at most five bytes.
use native.Mathlib.Omega.{arith}
use Rattle.image.proofs.Listing.{num_five, length_head}
use Rattle.image.proofs.head_length.Goals as goal

pub overflow_add-result : goal.overflow_add-result
overflow_add-result c = let a = c.args in omega (arith, num_five a.code, num_five a.mark)

pub overflow_add-result-2 : goal.overflow_add-result-2
overflow_add-result-2 c = let a = c.args in omega (arith, num_five a.code, num_five a.mark, num_five a.kids)

pub returns : goal.returns
returns c =
    let a = c.args in
    let l = length_head a.code a.mark a.kids in
    (omega arith, omega (arith, num_five a.code, num_five a.mark, num_five a.kids))
