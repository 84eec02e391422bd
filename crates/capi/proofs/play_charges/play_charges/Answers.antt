use Rattle.std.proofs.Common.{ℕ, length, take, sym, subst}
use Rattle.std.proofs.lemmas.List.{length-map}
use Rattle.fault.specs.Limits.{most_words}
use Rattle.criterion.specs.Search.{most_shown}
use Rattle.player.specs.Whole.{with_answers}
use Rattle.preset_bench.specs.Finds.{preset_rule, preset_density, preset_found}
use Rattle.capi.specs.Scripts.{script_asks, script_call, handed}
use Rattle.capi.specs.Playing.{PlayFinds}
use Rattle.capi.proofs.play_charges.play_charges.Goals as goal

pub returns : goal.returns
returns g c =
    let K = g.C.Charge.kind in
    let S = g.C.Sent.sending in
    let a = c.args in
    let p = a.preset in
    let charges = take (length p.entries.now) c.fill_entries.new.strip in
    let new = c.play_tables-found.new in
    let at : ℕ → ℕ → Type 0 = λ n room. PlayFinds K S (preset_rule p.header p.letters.now) (preset_density K p.header charges) (handed K a.cells.now a.opening.now a.crossed.now a.touched.now) (script_asks a.script) (with_answers n (length a.answers.now) (preset_found K p.header p.letters.now charges room most_shown)) new.cells a.answers.now new.answers c.play_tables-found.result in
    record {
      charges = charges;
      sent = c.fill_entries.ensures;
      verdict = c.play_tables-found.result;
      finds = subst (λ n. at n most_words) (sym (length-map a.script.calls.now (script_call a.script.rings.now))) (subst (at (length a.script.calls.now)) c.requires.crossing_room c.play_tables-found.ensures);
      told = c.judge_answer.ensures;
    }
