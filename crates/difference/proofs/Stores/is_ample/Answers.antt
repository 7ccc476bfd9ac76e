use native.Mathlib.Omega.{arith}
use borrow.Author.Tests.{leb-true}
use Rattle.difference.proofs.Saving.{live-few, ample}
use Rattle.difference.proofs.Stores.is_ample.Goals as goal

pub overflow_add-result : goal.overflow_add-result
overflow_add-result c =
    omega (arith, live-few c.requires.0 c.header_of.ensures, live-few c.requires.1 c.header_of-2.ensures)

pub overflow_mul-result : goal.overflow_mul-result
overflow_mul-result c =
    omega (arith, live-few c.requires.0 c.header_of.ensures, live-few c.requires.1 c.header_of-2.ensures)

pub returns : goal.returns
returns c =
    λ e. ample c.requires.0 c.requires.1 c.header_of.ensures c.header_of-2.ensures (leb-true _ _ e)
