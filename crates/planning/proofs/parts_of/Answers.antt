-- `parts_of` meets its contract: each part is the field of its number, and the first five are there.
use Rattle.std.proofs.Common.{arith}
use Rattle.planning.proofs.Places.{number-first, number-next, number-part, number-there}
use Rattle.planning.proofs.parts_of.Goals as goal

pub returns-in_err-types : goal.returns-in_err-types
returns-in_err-types c = rw c.from_residual.ensures (λ r e. number-there _ 0 0 (number-first _) e (omega arith) c.in_err-types.ensures)

pub returns-in_err-left : goal.returns-in_err-left
returns-in_err-left c =
    let q1 = number-next _ _ _ (number-first _) c.in_ok-types.ensures in
    rw c.from_residual-in_err-left.ensures (λ r e. number-there _ _ _ q1 e (omega arith) c.in_err-left.ensures)

pub returns-in_err-right : goal.returns-in_err-right
returns-in_err-right c =
    let q1 = number-next _ _ _ (number-first _) c.in_ok-types.ensures in
    let q2 = number-next _ _ _ q1 c.in_ok-left.ensures in
    rw c.from_residual-in_err-right.ensures (λ r e. number-there _ _ _ q2 e (omega arith) c.in_err-right.ensures)

pub returns-in_err-interface : goal.returns-in_err-interface
returns-in_err-interface c =
    let q1 = number-next _ _ _ (number-first _) c.in_ok-types.ensures in
    let q2 = number-next _ _ _ q1 c.in_ok-left.ensures in
    let q3 = number-next _ _ _ q2 c.in_ok-right.ensures in
    rw c.from_residual-in_err-interface.ensures (λ r e. number-there _ _ _ q3 e (omega arith) c.in_err-interface.ensures)

pub returns-in_err-tests : goal.returns-in_err-tests
returns-in_err-tests c =
    let q1 = number-next _ _ _ (number-first _) c.in_ok-types.ensures in
    let q2 = number-next _ _ _ q1 c.in_ok-left.ensures in
    let q3 = number-next _ _ _ q2 c.in_ok-right.ensures in
    let q4 = number-next _ _ _ q3 c.in_ok-interface.ensures in
    rw c.from_residual-in_err-tests.ensures (λ r e. number-there _ _ _ q4 e (omega arith) c.in_err-tests.ensures)

pub returns : goal.returns
returns c =
    let q1 = number-next _ _ _ (number-first _) c.in_ok-types.ensures in
    let q2 = number-next _ _ _ q1 c.in_ok-left.ensures in
    let q3 = number-next _ _ _ q2 c.in_ok-right.ensures in
    let q4 = number-next _ _ _ q3 c.in_ok-interface.ensures in
    record {
      types = number-part _ _ _ (number-first _) c.in_ok-types.ensures;
      left = number-part _ _ _ q1 c.in_ok-left.ensures;
      interface = number-part _ _ _ q3 c.in_ok-interface.ensures;
      tests = number-part _ _ _ q4 c.in_ok-tests.ensures;
      mode = number-next _ _ _ q4 c.in_ok-tests.ensures;
    }
