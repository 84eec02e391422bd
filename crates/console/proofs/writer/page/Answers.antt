use Rattle.std.proofs.Common.{◌≡◌, string_bytes, ap, ◌∙◌, rules}
use Rattle.console.specs.Grammar.{parsed}
use Rattle.console.specs.Pages.{page_text}
use Rattle.console.proofs.ReadBack.{page_returns}
use Rattle.console.proofs.writer.page.Goals as goal

pub returns : goal.returns
returns c =
    let kind = c.args.kind in
    let letters = c.args.letters.now in
    let entries = c.args.entries.now in
    let is : string_bytes c.push_str.new.self ≡ page_text kind c.args.header letters entries c.args.bytes = search rules in
    record { text = is; back = λ h. ap parsed is ∙ page_returns kind c.args.header letters entries c.args.bytes h }
