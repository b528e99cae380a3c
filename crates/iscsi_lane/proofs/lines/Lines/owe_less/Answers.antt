use Rattle.std.proofs.Common.{◌≡◌, ◌≤◌, ◌+◌, ◌∙◌, ℕ, List, false, ap, sym, subst, arith, ⊎_elim}
use Rattle.std.proofs.lemmas.Bool.{cases_Bool, or_parts}
use Rattle.iscsi_slots.specs.Slots.{times}
use Rattle.iscsi_lists.specs.Lists.{Listed}
use Rattle.iscsi_outbox_state.specs.declared.lane.Standing.{Standing}
use Rattle.iscsi_outbox_state.specs.Lane.{owes}
use Rattle.iscsi_lane.specs.Hints.{AreHints, Passes}
use Rattle.iscsi_lane.specs.Scoping.{untold_at}
use Rattle.iscsi_lane.specs.Standings.{slots_at}
use Rattle.iscsi_lane.proofs.HintLemmas.{hints_go, hints_stay}
use Rattle.iscsi_lane.proofs.LaneLemmas.{moved_other}
use Rattle.iscsi_lane.proofs.StampLemmas.{once_at, some_at}
use Rattle.iscsi_lane.proofs.LiningLemmas.{less_room, less_under, less_untold, less_up}
use Rattle.iscsi_lane.proofs.TellLemmas.{kept_there}
use Rattle.iscsi_lane.proofs.lines.Lines.owe_less.Goals as goal

pub pass_command-requires-clause-there : goal.pass_command-requires-clause-there
pass_command-requires-clause-there c = subst (λ (d : List ℕ). (t : ℕ) → 1 ≤ times t d → 1 ≤ times t (slots_at c.args.log.now 2)) (sym c.deref.ensures.value)
    (kept_there c.args.log.now c.args.self.now.units c.args.self.now.tags c.args.self.now.due.items _ c.requires.lined.following c.known.ensures.apart (untold_at c.args.log.now.values) c.args.self.now.untold.items c.requires.lined.of_untold)

pub returns-clause-lined : goal.returns-clause-lined
returns-clause-lined c =
    let log = c.args.log.now in
    let now = c.args.self.now in
    let room = less_room log c.owe_less.new.log c.args.left c.owe_less.result c.owe_less.ensures.kept c.owe_less.ensures.gone in
    record {
      following = c.owe_less.ensures.follows;
      up = less_up log c.owe_less.new.log c.args.left c.owe_less.result c.owe_less.ensures.kept c.owe_less.ensures.gone now.stamps.items c.requires.lined.up;
      under = less_under log c.owe_less.new.log c.args.left c.owe_less.result c.owe_less.ensures.kept c.owe_less.ensures.gone now.stamps.items now.next c.requires.lined.under;
      long = c.requires.lined.long ∙ ap (λ n. n + 1) (sym room);
      of_untold = c.requires.lined.of_untold
          ∙ sym (less_untold log c.owe_less.new.log c.args.left c.owe_less.result c.owe_less.ensures.kept c.owe_less.ensures.gone c.args.before c.known.ensures.apart c.known.ensures.values c.requires.there c.requires.is);
      untold_room = let a = c.requires.lined.untold_room in omega (arith, a, room);
      holders = c.pass_command.ensures.holders ∙ ap (λ n. n + 1) (sym room);
      hints =
          let left = c.args.left in
          let order = slots_at log 2 in
          let once = once_at log c.known.ensures.apart 2 left.command in
          let after = c.pass_command.new.holders.items in
          let passes = λ (stopped : left.running ≡ false). subst (λ (d : List ℕ). Passes left.command order d now.holders.items after) c.deref.ensures.value (c.pass_command.ensures.passes stopped) in
          ⊎_elim
          (λ on.
          subst (λ (q : List ℕ). AreHints q after now.untold.items) (sym (ap (λ (u : Listed Standing). slots_at u 2) (c.owe_less.ensures.kept on).1))
          (⊎_elim
          (λ runs. subst (λ (hs : List ℕ). AreHints order hs now.untold.items) (sym (c.pass_command.ensures.runs runs)) c.requires.lined.hints)
          (λ stopped. hints_stay left.command order c.requires.there once now.untold.items now.holders.items after (passes stopped) c.requires.lined.hints)
          (cases_Bool left.running)))
          (λ off.
          subst (λ (q : List ℕ). AreHints q after now.untold.items) (sym (moved_other log c.owe_less.new.log 0 left.command (c.owe_less.ensures.gone off).1 2 (λ e. omega (arith, e))))
          (hints_go left.command order c.requires.there once (some_at log c.known.ensures.apart 2 left.command c.requires.there) now.untold.items now.holders.items after (passes (or_parts left.running left.under_way off).0) c.requires.lined.hints))
          (cases_Bool (owes left));
    }
