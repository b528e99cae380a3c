use Rattle.std.proofs.Common.{◌+◌, ◌∙◌, ℕ, List, filter, refl, ap, sym, subst, arith}
use Rattle.iscsi_outbox_state.specs.declared.lane.Standing.TheVariants.{Left as IsLeft}
use Rattle.std.proofs.lemmas.List.{append-nil}
use Rattle.iscsi_lane.specs.Scoping.{untold_at}
use Rattle.iscsi_lane.specs.Hints.{IsHint, hint_at}
use Rattle.iscsi_lane.specs.Standings.{slots_at}
use Rattle.iscsi_lane.specs.Times.{AllUnder, IsUp}
use Rattle.iscsi_lane.proofs.HintLemmas.{hint_comes}
use Rattle.iscsi_lane.proofs.JoinLemmas.{left_joins, t_order, t_room}
use Rattle.iscsi_lane.proofs.LiningLemmas.{joined_untold}
use Rattle.iscsi_lane.proofs.lines.Lines.enter.Goals as goal

pub returns : goal.returns
returns c p t is_p is_t =
    let log = c.args.log.now in
    let now = c.args.self.now in
    let f = c.requires.lined.following in
    let order = t_order log p t now.units now.tags now.due.items _ f c.known.ensures.values c.requires.lists c.known-2.ensures.ascending c.known-3.ensures.ascending c.known-2.ensures.items c.known-3.ensures.items
    c.args.left.command (IsLeft c.args.left) is_p is_t c.requires.within c.requires.none in
    let room = t_room log p t now.units now.tags now.due.items _ f c.known.ensures.values c.requires.lists c.known-2.ensures.ascending c.known-3.ensures.ascending c.known-2.ensures.items c.known-3.ensures.items
    c.args.left.command (IsLeft c.args.left) is_p is_t c.requires.within c.requires.none in
    let stay = joined_untold log p t c.args.left.command (IsLeft c.args.left) is_p is_t c.requires.lists c.requires.none (let a = c.requires.within in let b = c.known.ensures.values in omega (arith, a, b)) in
    record {
      following = left_joins log p t now.units now.tags now.due.items _ f c.known.ensures.values c.requires.lists c.known-2.ensures.ascending c.known-3.ensures.ascending c.known-2.ensures.items c.known-3.ensures.items
          c.args.left.command (IsLeft c.args.left) is_p is_t c.requires.within c.requires.none c.args.left refl c.enter.new.units c.enter.new.tags c.enter.ensures.units c.enter.ensures.tags;
      up = subst (IsUp c.stamp-self.new.stamps.items) (sym order) c.stamp-self.ensures.up;
      under = subst (AllUnder c.stamp-self.new.stamps.items c.stamp-self.result) (sym order) c.stamp-self.ensures.under;
      long = c.stamp-self.ensures.long ∙ ap (λ n. n + 1) (sym room);
      of_untold = c.requires.lined.of_untold ∙ sym (append-nil (filter (untold_at log.values) (slots_at log 2))) ∙ sym stay;
      untold_room = let a = c.requires.lined.untold_room in omega (arith, a, room);
      holders = c.requires.lined.holders ∙ ap (λ n. n + 1) (sym room);
      hints = λ u among. subst (λ (q : List ℕ). IsHint q (hint_at now.holders.items u)) (sym order) (hint_comes (slots_at log 2) c.args.left.command (hint_at now.holders.items u) (c.requires.lined.hints u among));
    }
