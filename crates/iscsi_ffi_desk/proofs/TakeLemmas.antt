-- An event, part after part; and what holds of a desk as its outbox changes.
use Rattle.std.proofs.Common.{◌≡◌, ℕ, ◌&&◌, Bool, true, false, List, [], ◌∷◌, ◌++◌, length, filter_map, Option, if◌then◌else◌, append-nil, refl, sym, ap, ◌∙◌, arith}
use Rattle.iscsi_wire.specs.declared.reply.Reply.{Reply}
use Rattle.iscsi_wire.specs.declared.request.Request.{Request}
use Rattle.iscsi_tasks.specs.declared.task.Attr.{Attr}
use Rattle.std.specs.List.{flat_map}
use Rattle.iscsi_rules.specs.declared.effect.Effect.{Effect}
use Rattle.iscsi_rules.specs.declared.effect.Effect.TheVariants.{Deliver, Enable, Enter, Leave, Send}
use Rattle.iscsi_rules.specs.declared.effect.Numbers.{Numbers}
use Rattle.iscsi_outbox_rules.specs.rules.Items.{ticket_enabled}
use Rattle.iscsi_outbox_steps.specs.State.{Limits, State as OutboxState, place_of}
use Rattle.iscsi_outbox_steps.specs.Steps.{as_list, taken}
use Rattle.iscsi_ffi_rules.specs.declared.action.Action.{Action}
use Rattle.iscsi_ffi_rules.specs.rules.Happening.{is_reset, reset}
use Rattle.iscsi_ffi_steps.specs.State.{State}
use Rattle.iscsi_ffi_steps.specs.Steps.{resets_in, start_each, takes, walk_from}
use Rattle.iscsi_ffi_steps.specs.Walk.{Doing, on_effects, sweep, tell_all, touched_by}
use Rattle.iscsi_ffi_desk.specs.Calls.{with_outbox}
use Rattle.iscsi_ffi_desk.specs.Kept.{IsDesk}

-- a call of the outbox leaves its limits as they are, and so what holds of a desk
pub outbox_changed : (s : State) (o : OutboxState) (actions forgets withheld : ℕ) → IsDesk s actions forgets withheld → o.limits ≡ s.outbox.limits → IsDesk (record s { outbox = o }) actions forgets withheld
outbox_changed s o actions forgets withheld h same =
    let cids : length o.limits.cids ≡ length s.outbox.limits.cids = ap (λ (l : Limits). length l.cids) same in
    record {
      few = omega (arith, cids, h.few);
      functions = h.functions ∙ sym cids;
      replies = h.replies ∙ sym cids;
      noted = h.noted ∙ sym cids;
      unwritten = h.unwritten ∙ sym cids;
      awake = h.awake ∙ sym cids;
      over = h.over ∙ sym cids;
      units = h.units ∙ sym (ap (λ (l : Limits). l.units) same);
      actions = h.actions;
      forgets = h.forgets;
      withheld = h.withheld;
    }

module _ (own : Option ℕ) (numbers : Numbers) (effects : List Effect) where
  pub all_taken : (old walked out swept told started : Doing) → walked ≡ (on_effects true effects (walk_from own old)).doing → out ≡ with_outbox (taken effects numbers walked.state.outbox) walked
      → swept ≡ sweep (flat_map (touched_by out.state) effects) out
      → told ≡ tell_all (resets_in swept.state effects) swept
      → started ≡ start_each (filter_map ticket_enabled effects) told
      → started ≡ takes own (record { numbers = numbers; effects = effects }) old
  all_taken old walked out swept told started of_walked of_out of_swept of_told of_started =
      of_started
      ∙ ap (start_each (filter_map ticket_enabled effects)) (of_told
      ∙ ap (λ (d : Doing). tell_all (resets_in d.state effects) d) (of_swept
      ∙ ap (λ (d : Doing). sweep (flat_map (touched_by d.state) effects) d) (of_out
      ∙ ap (λ (d : Doing). with_outbox (taken effects numbers d.state.outbox) d) of_walked)))

-- ---- the two commonest events

abbrev nothing : List Action
nothing = []

no_resets : (shared : Bool) → (if shared then [] else []) ≡ nothing
no_resets true = refl
no_resets false = refl

no_reset : (shared reset : Bool) (actions : List Action) → (if shared then ((if reset && false then actions else []) ++ []) else []) ≡ nothing
no_reset true true actions = refl
no_reset true false actions = refl
no_reset false reset actions = refl

module _ (own : Option ℕ) (numbers : Numbers) (effects : List Effect) (old walked out : Doing) (of_out : out ≡ with_outbox (taken effects numbers walked.state.outbox) walked) where
  pub completion_taken : (ticket unit cid stat_sn : ℕ) (reply : Reply) (swept : Doing) → effects ≡ Leave ticket unit ∷ Send cid stat_sn reply ∷ []
      → walked ≡ (on_effects true (Leave ticket unit ∷ Send cid stat_sn reply ∷ []) (walk_from own old)).doing
      → swept ≡ sweep (as_list (place_of out.state.outbox cid)) out
      → swept ≡ takes own (record { numbers = numbers; effects = effects }) old
  completion_taken ticket unit cid stat_sn reply swept is of_walked of_swept =
      let es = Leave ticket unit ∷ Send cid stat_sn reply ∷ [] in
      all_taken own numbers es old walked out swept swept swept of_walked
      (of_out ∙ ap (λ (xs : List Effect). with_outbox (taken xs numbers walked.state.outbox) walked) is)
      (of_swept ∙ ap (λ (conns : List ℕ). sweep conns out) (sym (append-nil (as_list (place_of out.state.outbox cid)))))
      (sym (ap (λ (actions : List Action). tell_all actions swept) (no_resets swept.state.outbox.limits.shared)))
      refl
      ∙ ap (λ (xs : List Effect). takes own (record { numbers = numbers; effects = xs }) old) (sym is)

  pub command_taken : (r : Request) (ticket unit : ℕ) (attr : Attr) (enabled of : ℕ) (started : Doing) → effects ≡ Deliver r ∷ Enter ticket unit attr ∷ Enable enabled of ∷ []
      → walked ≡ (on_effects true (Deliver r ∷ Enter ticket unit attr ∷ Enable enabled of ∷ []) (walk_from own old)).doing
      → started ≡ start_each (enabled ∷ []) out
      → started ≡ takes own (record { numbers = numbers; effects = effects }) old
  command_taken r ticket unit attr enabled of started is of_walked of_started =
      let es = Deliver r ∷ Enter ticket unit attr ∷ Enable enabled of ∷ [] in
      all_taken own numbers es old walked out out out started of_walked
      (of_out ∙ ap (λ (xs : List Effect). with_outbox (taken xs numbers walked.state.outbox) walked) is)
      refl
      (sym (ap (λ (actions : List Action). tell_all actions out) (no_reset out.state.outbox.limits.shared (is_reset r) (reset out.state.outbox.limits.units r))))
      of_started
      ∙ ap (λ (xs : List Effect). takes own (record { numbers = numbers; effects = xs }) old) (sym is)
