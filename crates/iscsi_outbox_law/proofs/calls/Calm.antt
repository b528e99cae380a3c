-- What a call finds: a box that holds together and has room.
use Rattle.std.proofs.Common.{◌≡◌, ℕ, ◌+◌, ◌≤◌, true, [], length, arith}
use Rattle.iscsi_rules.specs.rules.Settings.{are_distinct}
use Rattle.iscsi_outbox_rules.specs.rules.Calls.{Opening}
use Rattle.iscsi_outbox_rules.specs.rules.Boxes.{Answer, Link, Box}
use Rattle.iscsi_outbox_rules.specs.rules.Words.{contains, is_left}
use Rattle.iscsi_outbox_rules.specs.promises.Room.{Fits, places}
use Rattle.iscsi_outbox_steps.specs.State.{State}
use Rattle.iscsi_outbox_law.specs.private.Pairs.{EachOf}
use Rattle.iscsi_outbox_law.specs.private.Commands.{is_under_way}
use Rattle.iscsi_outbox_law.specs.private.Sound.{IsAnswerSound, IsLinkSound, IsSound}
use Rattle.iscsi_outbox_law.specs.private.Stands.{Stands}
use Rattle.iscsi_outbox_law.proofs.general.PairLemmas.{each-weaken}
use Rattle.iscsi_outbox_law.proofs.connections.Standing.{links_apart}
use Rattle.iscsi_outbox_law.proofs.queues.Rooms.{own_on, replies_queued}
use Rattle.iscsi_outbox_law.proofs.queues.Settling.{IsCalm, all_replies}

module _ (o : Opening) (s : State) (b : Box) (h : Stands o s b) (sound : IsSound o b) (distinct : are_distinct o.session.conns ≡ true) where
  pub scopes_are : EachOf (λ (a : Answer). (k : ℕ) → contains a.out.scope k ≡ true → is_left b k ≡ true) b.undue
  scopes_are = each-weaken (IsAnswerSound b) (λ (a : Answer). (k : ℕ) → contains a.out.scope k ≡ true → is_left b k ≡ true) b.undue (λ a k. k.scope) sound.undue

  pub own_few : EachOf (λ (l : Link). own_on l ≤ o.own) b.links
  own_few = each-weaken (IsLinkSound o b.tasks) (λ (l : Link). own_on l ≤ o.own) b.links (λ l k. k.own) sound.links

  pub calm : IsCalm o b b.undue
  calm = record { homes = sound.homes; apart = links_apart (is_under_way o b.links) o s b h distinct; own = own_few; scopes = scopes_are }

  pub room_there : Fits o b → length b.undue + replies_queued b.links ≤ places o
  room_there fits = let e = all_replies s.limits.cids s.tracked [] s.lane.items b.undue h.answers in let f = fits.replies in omega (arith, e, f)
