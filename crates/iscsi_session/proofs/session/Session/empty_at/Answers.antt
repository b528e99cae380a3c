use Rattle.iscsi_session.proofs.Names.{◌≡◌, ℕ, ◌∙◌, ap, sym, arith, rules, count_by, Option, Some, None, refl, length-set, [], ◌∷◌, Arrived, number_expected, number_shown, with_place, at_place, holds_from, is_held}
use Rattle.iscsi_rules.specs.declared.effect.Effect.TheVariants.{Empty}
use Rattle.iscsi_session.proofs.KeptLemmas.{started, continued}
use Rattle.iscsi_session.proofs.LogoutLemmas.{Dropped, dropped, answered_some, answered_none}
use Rattle.iscsi_session.proofs.WindowLemmas.{Changed}
use Rattle.iscsi_session.proofs.SoundLemmas.{window_sound, changed_sound, same_sound}
use Rattle.iscsi_session.proofs.session.Session.empty_at.Given.{Over}
use Rattle.iscsi_session.proofs.session.Session.empty_at.Goals as goal
use Rattle.iscsi_session.proofs.session.Session.empty_at.Goals.{In-Some}

-- ---- a request is taken out

record Taken (w new : Arrived) (scope : Option ℕ) (k sn : ℕ) : Type 0 where
  is : new ≡ with_place w k (Some None)
  number : sn ≡ number_shown w k
  left : Dropped scope (number_expected w) w.places k

taken : (over : Over) (c : In-Some over) → Taken c.self.inside.window c.drop_at.new.self c.args.scope c.args.ahead c.in-Some.sn
taken over c =
    let w : Arrived = c.self.inside.window in
    let found = answered_some (holds_from c.args.scope (at_place w c.args.ahead)) (number_shown w c.args.ahead) c.in-Some.sn (sym c.drop_at.ensures.answer ∙ c.in-Some.is) in
    record {
      is = c.drop_at.ensures.state ∙ rw found.0;
      number = found.1;
      left = dropped c.args.scope (number_expected w) w.places c.args.ahead (rw (← c.self.view_is) at c.requires.lowest) found.0;
    }

pub invariant_of-self-2 : goal.invariant_of-self-2
invariant_of-self-2 over c =
    let inv = c.self.invariant in
    let w : Arrived = c.self.inside.window in
    let t = taken over (goal.at.invariant_of-self-2 over c).In-Some in
    let d = t.left in
    let g : Changed w (with_place w c.args.ahead (Some None)) 1 0 = record { first = refl; long = length-set w.places c.args.ahead (Some None); turned = refl; unfinished = refl; held_is = d.held; counted = omega (arith, d.counted); known = d.known } in
    rw t.is (window_sound inv g.unfinished g.long (changed_sound inv.window g (omega (arith, inv.window.turned)) (omega (arith, inv.window.entered))))

pub returns : goal.returns
returns over c =
    let t = taken over (goal.at.returns over c).In-Some in
    record {
      session = rw (← c.self.view_is, t.is, t.left.rest);
      effects = rw (← c.self.view_is, t.is) (continued (Empty c.in-Some.sn ∷ []) started (t.left.effects ∙ rw t.number refl) c.put_empty.ensures.has);
      lowest = rw t.is t.left.clear;
      long = rw (← c.self.view_is, t.is, length-set);
      spent = rw (← c.self.view_is) (omega (arith, t.left.held, ap (λ (v : Arrived). count_by is_held v.places) t.is, c.put_empty.ensures.len));
      capacity = search rules;
    }

-- ---- nothing is taken out

pub invariant_of-self : goal.invariant_of-self
invariant_of-self over c = same_sound c.self.invariant (c.drop_at.ensures.state ∙ rw (answered_none _ (number_shown c.self.inside.window c.args.ahead) (sym c.drop_at.ensures.answer ∙ c.in_default.is)))
