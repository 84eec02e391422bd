-- A line by its text and by whether it tells of something good. Assumes nothing.
use Rattle.std.specs.Prelude.{◌≡◌, ℕ, Bool, List, string_bytes}
use Rattle.report.specs.declared.report_line.ReportLine.{ReportLine}

pub record LineIs (text : List ℕ) (good : Bool) (l : ReportLine) : Type 0 where
  pub text_is : string_bytes l.text ≡ text
  pub good_is : l.good ≡ good
