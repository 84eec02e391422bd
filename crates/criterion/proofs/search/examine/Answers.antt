use Rattle.criterion.proofs.LabelLaw.{label_law}
use Rattle.criterion.proofs.Sizes.{some-letters}
use Rattle.criterion.proofs.search.examine.Goals as goal

pub returns-in_err-check_room-clause-law : goal.returns-in_err-check_room-clause-law
returns-in_err-check_room-clause-law g c =
    let labelled = g.L.Label.lawful g.C.Charge.kind c.args.label.now in
    label_law g.C.Charge.kind 0 _ labelled (some-letters _ labelled)

pub returns-in_default-clause-law : goal.returns-in_default-clause-law
returns-in_default-clause-law g c =
    let labelled = g.L.Label.lawful g.C.Charge.kind c.args.label.now in
    label_law g.C.Charge.kind 0 _ labelled (some-letters _ labelled)

pub returns-clause-law : goal.returns-clause-law
returns-clause-law g c =
    let labelled = g.L.Label.lawful g.C.Charge.kind c.args.label.now in
    label_law g.C.Charge.kind 0 _ labelled (some-letters _ labelled)
