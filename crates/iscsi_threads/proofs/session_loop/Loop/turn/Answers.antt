use Rattle.std.specs.Prelude.{refl}
use Rattle.std.proofs.Common.{◌≡◌, ℕ, ◌+◌, ◌<◌, ◌≤◌, ◌∙◌, ap, sym, subst, rules, arith, List, [], ◌∷◌, ◌++◌, length, vec_len, vec_capacity, map, true}
use Rattle.std.proofs.lemmas.List.{length-map}
use Rattle.iscsi_rules.specs.declared.event.Event.{Event}
use Rattle.iscsi_rules.specs.declared.effect.Effect.{Effect}
use Rattle.iscsi_rules.specs.rules.Settings.{Setting}
use Rattle.iscsi_session.specs.promises.Settings.{setting_of}
use Rattle.iscsi_rules.specs.rules.Run.{trace_of, next_entry}
use Rattle.iscsi_rules.specs.rules.Agenda.{belongs}
use Rattle.iscsi_session.specs.promises.Refusals.{refusal_of}
use Rattle.iscsi_session.specs.promises.Bounds.{effect_bound_of}
use Rattle.iscsi_threads.proofs.Journals.{heads_after, dones_after, source_of_polled, sources_snoc, range_length}
use Rattle.iscsi_threads.proofs.Turning.{belongs_polled, taken_next, only_memory, cut_after, cut_within, known_next, jobs_after}
use Rattle.iscsi_threads.specs.declared.job.Job.{Job}
use Rattle.iscsi_threads.specs.rules.Desks.{seen, jobs_from, EnterAbove}
use Rattle.iscsi_threads.proofs.DormantLemmas.{enters_above}
use Rattle.iscsi_threads.specs.private.Ends.{Polled}
use Rattle.iscsi_threads.specs.rules.Journal.{cids_of, parts, dones}
use Rattle.iscsi_threads.specs.rules.Outlets.{given, heard, got}
use Rattle.iscsi_threads.proofs.session_loop.Loop.turn.Goals as goal

pub unreachable-requires : goal.unreachable-requires
unreachable-requires c =
    let self = c.args.self.now in
    let o : Setting = setting_of self.options in
    let j = self.journal.items in
    let e = c.poll.new.event in
    let few : length j < o.events = search rules in
    let on : belongs o e ≡ true = belongs_polled o _ _ _ _ e c.in-Some.source (rw c.deref-2.ensures.value at c.in-Some.ensures.some) in
    let bound : c.effect_bound-bound.result ≡ effect_bound_of o (trace_of o j) = c.effect_bound-bound.ensures.bound o j self.stands in
    let room = c.in-Ok.ensures.room in
    let fits : vec_len c.make_room.new.out + effect_bound_of o (trace_of o j) ≤ vec_capacity c.make_room.new.out = omega (arith, bound, room.4) in
    c.step.ensures.room o j self.stands fits (only_memory (refusal_of o j e) c.step.result c.in_default-step.field-0 (taken_next o j e on few) (c.step.ensures.refused o j self.stands) c.in_default-step.is)

pub split_at-requires : goal.split_at-requires
split_at-requires c =
    let self = c.args.self.now in
    let o : Setting = setting_of self.options in
    let before : c.len-before.result ≡ length c.make_room.new.out.items = search rules in
    cut_within _ _ _ _ (c.deref-3.ensures.value ∙ c.in-Ok-step.ensures.effects o self.journal.items self.stands) before

pub note_all-requires-clause-desk : goal.note_all-requires-clause-desk
note_all-requires-clause-desk c =
    let self = c.args.self.now in
    let o : Setting = setting_of self.options in
    let j = self.journal.items in
    let e = c.poll.new.event in
    let bound : c.effect_bound-bound.result ≡ effect_bound_of o (trace_of o j) = c.effect_bound-bound.ensures.bound o j self.stands in
    let before : c.len-before.result ≡ length c.make_room.new.out.items = search rules in
    let whole : c.deref-3.result.now ≡ c.make_room.new.out.items ++ (next_entry o j e).effects = c.deref-3.ensures.value ∙ c.in-Ok-step.ensures.effects o j self.stands in
    let cut = ap length (c.split_at.ensures.back ∙ cut_after _ _ _ _ whole before) in
    let few : length (next_entry o j e).effects ≤ effect_bound_of o (trace_of o j) = c.in-Ok-step.ensures.bound o j self.stands in
    omega (arith, cut, few, bound, c.in-Ok.ensures.room.0)

pub note_all-requires-clause-numbered : goal.note_all-requires-clause-numbered
note_all-requires-clause-numbered c =
    let self = c.args.self.now in
    let o : Setting = setting_of self.options in
    let j = self.journal.items in let e = c.poll.new.event in
    let before : c.len-before.result ≡ length c.make_room.new.out.items = search rules in
    let whole : c.deref-3.result.now ≡ c.make_room.new.out.items ++ (next_entry o j e).effects = c.deref-3.ensures.value ∙ c.in-Ok-step.ensures.effects o j self.stands in
    let effects = c.split_at.ensures.back ∙ cut_after _ _ _ _ whole before in
    subst (EnterAbove (seen c.make_room.new.desk)) (sym effects) (enters_above o j e _ (c.make_room.ensures.desk ∙ self.known))

pub note_all-requires-clause-fresh : goal.note_all-requires-clause-fresh
note_all-requires-clause-fresh c =
    let self = c.args.self.now in
    let o : Setting = setting_of self.options in
    let j = self.journal.items in
    let e = c.poll.new.event in
    let bound : c.effect_bound-bound.result ≡ effect_bound_of o (trace_of o j) = c.effect_bound-bound.ensures.bound o j self.stands in
    let before : c.len-before.result ≡ length c.make_room.new.out.items = search rules in
    let whole : c.deref-3.result.now ≡ c.make_room.new.out.items ++ (next_entry o j e).effects = c.deref-3.ensures.value ∙ c.in-Ok-step.ensures.effects o j self.stands in
    let cut = ap length (c.split_at.ensures.back ∙ cut_after _ _ _ _ whole before) in
    let few : length (next_entry o j e).effects ≤ effect_bound_of o (trace_of o j) = c.in-Ok-step.ensures.bound o j self.stands in
    omega (arith, cut, few, bound, c.in-Ok.ensures.room.1)

pub invariant_of-self-2 : goal.invariant_of-self-2
invariant_of-self-2 c =
    let self = c.args.self.now in
    let o : Setting = setting_of self.options in
    let j = self.journal.items in let from = self.from.items in let cids = cids_of o in
    let e = c.poll.new.event in let f = c.in-Some.source in
    let n = vec_len self.outlets in
    let lists = c.make_room.ensures.lists in
    let size : vec_len c.poll.new.outlets ≡ n = c.poll.ensures.len.1 ∙ c.fill_all.ensures.len ∙ c.spread-has_room.ensures.len in
    let events : c.push_reserved.new.self.items ≡ j ++ e ∷ [] = c.push_reserved.ensures.items ∙ ap (λ (w : List Event). w ++ e ∷ []) lists.1 in
    let places : c.push_reserved-2.new.self.items ≡ from ++ f ∷ [] = c.push_reserved-2.ensures.items ∙ ap (λ (w : List ℕ). w ++ f ∷ []) lists.2 in
    let before : c.len-before.result ≡ length c.make_room.new.out.items = search rules in
    let whole : c.deref-3.result.now ≡ c.make_room.new.out.items ++ (next_entry o j e).effects = c.deref-3.ensures.value ∙ c.in-Ok-step.ensures.effects o j self.stands in
    let effects = c.split_at.ensures.back ∙ cut_after _ _ _ _ whole before in
    let lens : length j ≡ length from = search rules in
    let answers : map heard c.fill_all.new.outlets.items ≡ dones n j from = c.fill_all.ensures.heard ∙ c.spread-has_room.ensures.heard ∙ self.answers in
    let polled : Polled cids (parts cids j) (map got c.poll.new.inlets.items) (dones n j from) (map heard c.poll.new.outlets.items) e f =
    rw (c.deref-2.ensures.value, self.headers, answers) at c.in-Some.ensures.some
    in
    let known = c.make_room.ensures.desk ∙ self.known in
    record {
      sizes = search rules;
      differ = self.differ;
      stands = rw events (c.in-Ok-step.ensures.stands o j self.stands);
      sourced = rw (size, events, places) (sources_snoc cids n j from e f self.sourced (source_of_polled cids n _ _ _ _ e f (rw (length-map, range_length) refl) polled));
      headers = rw events (heads_after cids j _ _ _ e f self.differ polled);
      answers = rw (size, events, places) (dones_after cids n j from _ _ _ e f lens polled);
      known = rw events (known_next o j e _ _ _ known effects c.note_all.ensures.known);
      jobs = rw (size, events) (jobs_after n o j e _ _ (map given c.spread-has_room.new.outlets.items) _ _ _ (c.spread-has_room.ensures.jobs ∙ self.jobs) known effects
          (c.poll.ensures.given ∙ c.fill_all.ensures.given) (c.note_all.ensures.jobs ∙ ap (λ (w : List Job). w ++ jobs_from (seen c.make_room.new.desk) (c.split_at.result.1.now)) lists.0));
    }

pub returns-clause-ok : goal.returns-clause-ok
returns-clause-ok c =
    let self = c.args.self.now in
    let o : Setting = setting_of self.options in
    let j = self.journal.items in
    let e = c.poll.new.event in
    let lists = c.make_room.ensures.lists in (
      c.push_reserved.ensures.items ∙ ap (λ (w : List Event). w ++ e ∷ []) lists.1,
      (c.in-Some.source, c.push_reserved-2.ensures.items ∙ ap (λ (w : List ℕ). w ++ c.in-Some.source ∷ []) lists.2),
      c.in-Ok-step.ensures.numbers o j self.stands,
      c.in-Ok-step.ensures.effects o j self.stands ∙ ap (λ (w : List Effect). w ++ (next_entry o j e).effects) lists.3,
    )
