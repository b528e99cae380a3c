use Rattle.iscsi_session.proofs.Names.{◌≡◌, ◌∙◌, ◌<◌, ◌++◌, length, take, drop, get_or, set, length-set, ap, arith, refl, opened, all_given, written}
use Rattle.iscsi_session.proofs.KeptLemmas.{owed-given, Match-given, roomy_set}
use Rattle.iscsi_session.proofs.SoundLemmas.{sets_sound}
use Rattle.iscsi_session.proofs.session.Session.announce_enabled.Given.{Over}
use Rattle.iscsi_session.proofs.session.Session.announce_enabled.Goals as goal
use Rattle.iscsi_session.proofs.session.Session.announce_enabled.Goals.{After-deref_mut, After-announce}

inside : (over : Over) (c : After-deref_mut over) → c.args.unit < length c.self.inside.sets.items
inside over c = rw (← c.self.view_is) at c.requires.unit

-- the unit was told
told : (over : Over) (c : After-announce over) → c.args.unit < length c.self.inside.sets.items
    → take c.self.inside.sets.len (c.announce.new.sets ++ drop (length c.announce.new.sets) c.self.inside.sets.items) ≡ set c.self.inside.sets.items c.args.unit (all_given (get_or c.self.inside.sets.items c.args.unit (opened 0)))
told over c within =
    let old = c.self.inside.sets.items in
    let now : c.announce.new.sets ≡ set old c.args.unit (all_given (get_or old c.args.unit (opened 0))) = rw (← c.deref_mut.ensures.value) c.announce.ensures.sets in
    written c.self.inside.sets.len c.announce.new.sets old (ap length now ∙ length-set old c.args.unit _) c.self.inside.sets.ok.0 ∙ now

pub announce-requires-clause-room : goal.announce-requires-clause-room
announce-requires-clause-room over c =
    let less = owed-given c.self.inside.sets.items c.args.unit (inside over (goal.at.announce-requires-clause-room over c).After-deref_mut) in
    rw c.deref_mut.ensures.value (omega (arith, less, rw (← c.self.view_is) at c.requires.room))

pub returns-clause-spent : goal.returns-clause-spent
returns-clause-spent over c =
    let within = inside over (goal.at.returns-clause-spent over c).After-deref_mut in
    rw (← c.self.view_is, told over (goal.at.returns-clause-spent over c).After-announce within) (omega (arith, owed-given c.self.inside.sets.items c.args.unit within, rw c.deref_mut.ensures.value at c.announce.ensures.spent))

pub invariant_of-self : goal.invariant_of-self
invariant_of-self over c =
    let within = inside over (goal.at.invariant_of-self over c).After-deref_mut in
    sets_sound c.self.invariant (told over (goal.at.invariant_of-self over c).After-announce within) (length-set c.self.inside.sets.items c.args.unit _) (Match-given c.self.inside.sets.items c.self.inside.live.items c.args.unit c.self.invariant.commands.in_sets within) (roomy_set _ _ c.self.inside.sets.items c.args.unit (all_given (get_or c.self.inside.sets.items c.args.unit (opened 0))) within c.self.invariant.sets refl)
