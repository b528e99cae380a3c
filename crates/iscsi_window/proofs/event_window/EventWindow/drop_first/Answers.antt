use Rattle.std.proofs.Common.{◌∙◌, Some, None, sym}
use Rattle.iscsi_window.proofs.SoundLemmas.{held_within, keeps_put}
use Rattle.iscsi_window.proofs.event_window.EventWindow.drop_first.Goals as goal

pub invariant_of-self : goal.invariant_of-self
invariant_of-self c =
    let i = c.self.inside in
    keeps_put i.first i.unfinished i.size c.in_ok-k.k (Some None) i.places c.clear.new.places c.self.invariant
    (held_within (record { first = i.first; turned = i.places.turned; unfinished = i.unfinished; places = i.places.items }) c.args.conn c.in_ok-k.k c.self.invariant.1 (sym c.first_held.ensures ∙ c.in_ok-k.was))
    c.clear.ensures
