use Rattle.std.proofs.Common.{true, ◌≡◌, ◌≤◌, ◌<◌, ◌+◌, ◌*◌, ◌==◌, false, ℕ, List, [], ◌∷◌, ◌++◌, length, take, drop, vec_capacity, ap, sym, subst, ◌∙◌, arith, rules}
use Rattle.std.specs.List.{list_any}
use Rattle.std.proofs.lemmas.List.{length-take, length-append, length-drop}
use Rattle.std.proofs.lemmas.Bool.Decides.{nat_tests}
use Rattle.iscsi_slots.specs.Queued.{Queued}
use Rattle.iscsi_commands.specs.declared.entry.Entry.{Entry}
use Rattle.iscsi_commands.specs.declared.live.Live.{Live}
use Rattle.iscsi_commands.specs.Commands.{AreTagsApart}
use Rattle.iscsi_commands.specs.Log.{AreTagged, AreLogged, live_in}
use Rattle.iscsi_commands.proofs.LogLemmas.{logged_with}
use Rattle.iscsi_commands.proofs.RankLemmas.{few_others}
use Rattle.iscsi_commands.proofs.live_commands.LiveCommands.push.Goals as goal

-- how many hints there are stays
pub same_hints : (n : ℕ) (first way second all : List ℕ) → n ≡ length all → length way ≡ length first → first ≡ all → length second ≡ length (take n (way ++ drop (length way) all)) → length (take n (second ++ drop (length second) (take n (way ++ drop (length way) all)))) ≡ length all
same_hints n first way second all is a b c = grind (arith, nat_tests, length-take, length-append, length-drop)

-- those that stand apart are live
pub append-requires-clause-others : goal.append-requires-clause-others
append-requires-clause-others c = grind (arith, nat_tests, few_others)

pub invariant_of-self : goal.invariant_of-self
invariant_of-self c =
    let kept = c.self.invariant in
    let way = c.make_way.ensures in
    let log = c.make_way.new.log.items in
    let e : Entry = record { command = c.args.command; slot = c.args.slot; is_live = true } in
    let lives : live_in log ≡ c.args.self.now.items = way.same ∙ ap (λ (q : Queued Live). q.items) c.self.view_is in
    let hints = c.self.inside.hints.items in
    let long : c.self.inside.hints.len ≡ length hints = search rules in
    let first = c.make_way.auto.hints in
    let second = c.append.auto.hints in
    let room_is : c.self.inside.room ≡ c.args.self.now.room = ap (λ (q : Queued Live). q.room) c.self.view_is in
    let count : c.self.inside.live ≡ length (live_in log) = kept.counted ∙ ap length (sym way.same) in
    let fewer : c.self.inside.live < c.self.inside.room = let few = c.requires.room in let same = ap length lives in omega (arith, few, same, count, room_is) in
    let roomy : 2 * c.self.inside.room + 64 ≤ vec_capacity c.append.new.log = let has_room = kept.has_room in let a = way.capacity in let b = c.append.ensures.capacity in omega (arith, has_room, a, b) in
    let apart : AreTagsApart (live_in log) = subst AreTagsApart (sym way.same) kept.apart in
    let unused : list_any (λ l. l.itt == c.args.command.itt) (live_in log) ≡ false = subst (λ ls. list_any (λ l. l.itt == c.args.command.itt) ls ≡ false) (sym lives) c.requires.unused in
    let others : c.append.new.tags.others.room ≡ c.self.inside.room = c.append.ensures.room ∙ way.room ∙ kept.for_others in
    let tagged : AreTagged (log ++ e ∷ []) c.append.new.tags.places.items c.append.new.tags.crowded.items c.append.new.tags.others.items = subst (λ l. AreTagged l c.append.new.tags.places.items c.append.new.tags.crowded.items c.append.new.tags.others.items) c.append.ensures.log c.append.ensures.tagged in
    subst (λ (l : List Entry). AreLogged l (vec_capacity c.append.new.log) (c.self.inside.live + 1) c.self.inside.room
    (length (take c.self.inside.hints.len (c.append.new.hints ++ drop (length c.append.new.hints) (take c.self.inside.hints.len (c.make_way.new.hints ++ drop (length c.make_way.new.hints) hints)))))
    c.append.new.tags.places.items c.append.new.tags.crowded.items c.append.new.tags.others.items c.append.new.tags.others.room) (sym c.append.ensures.log)
    (logged_with log c.args.command c.args.slot way.ascending apart count fewer way.few roomy kept.short
    (same_hints c.self.inside.hints.len c.deref_mut.result.now c.make_way.new.hints c.append.new.hints hints long first c.deref_mut.ensures.value (second ∙ ap length c.deref_mut-2.ensures.value) ∙ kept.hinted)
    others way.newest unused tagged)
