use Rattle.std.proofs.Common.{Ok, refl, sym, ap, ◌∙◌}
use Rattle.preset.specs.Heads.{head_of}
use Rattle.preset.specs.Presets.{Preset}
use Rattle.preset.proofs.Loading.{front-read}
use Rattle.preset.proofs.preset_strips.PresetStrips.read.Goals as goal

pub loaded-requires : goal.loaded-requires
loaded-requires c =
    let filled = c.in_ok-head.ensures in
    (front-read c.args.input.now (head_of c.in_ok-head.head) c.args.self.now c.fill.new.self c.type_inv.input filled.head filled.strips).sound

pub returns : goal.returns
returns c =
    let filled = c.in_ok-head.ensures in
    let front = front-read c.args.input.now (head_of c.in_ok-head.head) c.args.self.now c.fill.new.self c.type_inv.input filled.head filled.strips in
    ((refl, λ _. tt, filled.strips), record { answer = ap (λ (p : Preset). Ok p) c.loaded.ensures ∙ sym front.is; strips = tt })
