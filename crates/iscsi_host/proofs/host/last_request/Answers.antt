use Rattle.std.proofs.Common.{◌∙◌, ◌≤◌, ◌<◌, ◌-◌, ap, sym, arith, rules, length, option_map, Bor}
use Rattle.iscsi_wire.specs.declared.request.Request.{Request}
use Rattle.iscsi_host.proofs.EffectLemmas.{found_back, passed_back}
use Rattle.iscsi_host.proofs.host.last_request.Goals as goal

pub returns-in-Some : goal.returns-in-Some
returns-in-Some c =
    let inv = c.loop-before.invariant in
    let some : 0 < c.loop-before.before = search rules in
    sym (found_back c.args.effects.now c.loop-before.before c.in-Some.request.now _ some inv.within (sym c.executing.ensures ∙ ap (option_map (λ (r : Bor Request). r.now)) c.in-Some.is)) ∙ inv.last

pub loop-before-preserved : goal.loop-before-preserved
loop-before-preserved c =
    let inv = c.loop-before.invariant in
    let some : 0 < c.loop-before.before = search rules in
    record {
      last = sym (passed_back c.args.effects.now c.loop-before.before _ some inv.within (sym c.executing.ensures ∙ ap (option_map (λ (r : Bor Request). r.now)) c.in_default.is)) ∙ inv.last;
      within = let z : c.loop-before.before - 1 ≤ length c.args.effects.now = omega (arith, inv.within) in z;
    }
