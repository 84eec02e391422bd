use Rattle.player.specs.Promises.{open_ring}
use Rattle.player.proofs.Obeyed.{answer_is, touches_obeyed, steps_obeyed, reads_obeyed}
use Rattle.player.proofs.player.obey_playing.Goals as goal

pub returns-in-Touch-clause-obeys : goal.returns-in-Touch-clause-obeys
returns-in-Touch-clause-obeys g c =
    let a = c.args in
    rw c.in-Touch.is
    (answer_is c.done_or_refused-answer.ensures.is
    (touches_obeyed (open_ring a.playing) a.playing.some a.cells.now a.spare.now c.touch.new.cells a.spare.now
    a.opening.now a.crossed.now a.touched.now a.opening.now a.crossed.now c.touch.new.touched _ _ c.touch.result c.touch.ensures.promise c.touch.ensures.past))

pub returns-in-Step-clause-obeys : goal.returns-in-Step-clause-obeys
returns-in-Step-clause-obeys g c =
    let a = c.args in
    rw c.in-Step.is
    (answer_is c.done_or_refused-answer-in-Step.ensures.is
    (steps_obeyed (open_ring a.playing) a.playing.some a.cells.now a.spare.now c.step.new.cells c.step.new.spare
    a.opening.now a.crossed.now a.touched.now a.opening.now c.step.new.crossed a.touched.now c.step.result c.step.ensures.promise c.step.ensures.past))

pub returns-in-Read-clause-obeys : goal.returns-in-Read-clause-obeys
returns-in-Read-clause-obeys g c =
    let a = c.args in
    rw c.in-Read.is
    (answer_is c.read_or_refused-answer.ensures.is
    (reads_obeyed (open_ring a.playing) a.playing.some a.cells.now a.spare.now a.cells.now a.spare.now
    a.opening.now a.crossed.now a.touched.now c.read.new.opening c.read.new.crossed c.read.new.touched _ c.read.result c.read.ensures.promise c.read.ensures.kept))
