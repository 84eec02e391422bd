use Rattle.std.proofs.Common.{◌≡◌, true, rules}
use Rattle.std.proofs.lemmas.Result.{IfOk-weaker}
use Rattle.preset.specs.Loads.{preset_of}
use Rattle.report.specs.Reports.{same_kind}
use Rattle.report.proofs.OfKind.{compared_so}
use Rattle.report.proofs.comparing.compare_loaded.Goals as goal

pub returns : goal.returns
returns c =
    let so : same_kind c.args.first.kind c.args.second.kind ≡ true = search rules in
    IfOk-weaker c.compare_kind.result _ _ (λ l is. compared_so _ c.args.first.kind _ (preset_of c.args.first) (preset_of c.args.second) l so is) c.compare_kind.ensures
