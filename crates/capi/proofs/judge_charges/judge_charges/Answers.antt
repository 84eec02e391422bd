use Rattle.std.proofs.Common.{◌≡◌, min, length, take, ap, ◌∙◌, arith}
use Rattle.std.proofs.lemmas.List.{length-take-le}
use Rattle.fault.specs.Limits.{most_words}
use Rattle.preset.specs.Loads.{preset_of}
use Rattle.capi.proofs.Judged.{judged-on}
use Rattle.capi.proofs.judge_charges.judge_charges.Goals as goal

pub returns : goal.returns
returns g c =
    let p = c.args.preset in
    let charges = take (length p.entries.now) c.fill_entries.new.strip in
    let work = take c.min-room.result c.args.work.now in
    let size : length work ≡ min (length c.args.crossings.now) most_words = length-take-le c.min-room.result c.args.work.now (omega (arith, c.min-room.ensures)) ∙ c.min-room.ensures ∙ ap (min (length c.args.crossings.now)) c.requires.crossing_room in
    judged-on g.C.Charge.kind (preset_of p) charges p.sound.sized g.C.Sent.sending c.args.crossings.now c.write_entries.new.strip c.args.ring.now c.judge-found.new.ring
    work c.judge-found.new.crossings c.judge-found.result c.crossing_count-count.result c.judge_answer.result
    c.fill_entries.ensures size c.judge-found.ensures c.crossing_count-count.ensures c.write_entries.ensures c.judge_answer.ensures
