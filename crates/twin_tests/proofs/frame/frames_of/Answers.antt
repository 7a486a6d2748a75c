use Rattle.std.proofs.Common.{arith}
use Rattle.elab_step_expr.proofs.Kept.{frees_then, grows_then}
use Rattle.twin_tests.specs.Framing.{IsWindowWord}
use Rattle.twin_tests.proofs.Framed.{frame_grown}
use Rattle.twin_tests.proofs.frame.frames_of.Goals as goal

pub returns-clause-grows : goal.returns-clause-grows
returns-clause-grows c = grows_then c.args.dag.now c.frame_of.new.dag c.frame_of-2.new.dag c.in_ok-first.ensures.grows c.in_ok-second.ensures.grows

pub returns-clause-frees : goal.returns-clause-frees
returns-clause-frees c =
    let names = c.args.set.now.names in
    frees_then (IsWindowWord names 0) (IsWindowWord names 1) c.args.dag.now c.frame_of.new.dag c.frame_of-2.new.dag c.in_ok-first.ensures.frees c.in_ok-second.ensures.frees

pub returns-clause-frames : goal.returns-clause-frames
returns-clause-frames c =
    let largest = c.largest_window-window.ensures.largest in
    record {
      first = frame_grown c.frame_of.new.dag c.frame_of-2.new.dag c.args.set.now c.in_ok-first.first c.in_ok-second.ensures.grows c.in_ok-first.ensures.frame;
      second = c.in_ok-second.ensures.frame;
      first_side = c.in_ok-first.ensures.side;
      second_side = c.in_ok-second.ensures.side;
      first_reach = λ p q here there. let one = largest p here in let other = largest q there in omega (arith, one, other, c.in_ok-first.ensures.count);
      second_reach = λ p q here there. let one = largest p here in let other = largest q there in omega (arith, one, other, c.in_ok-second.ensures.count);
    }
