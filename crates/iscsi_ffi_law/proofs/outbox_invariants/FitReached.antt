-- A session and its outbox to which steps lead that are read with room: the box holds together, and has room, and so it is in each item of
-- the next event.
use Rattle.std.proofs.Common.{◌≡◌, ℕ, ◌≤◌, true, List, [], ◌∷◌, ◌++◌, map, count_by, refl, ap, subst, ◌∙◌, arith}
use Rattle.std.specs.Prelude.{sum_by}
use Rattle.std.proofs.lemmas.List.Sums.{sum_by-cons}
use Rattle.iscsi_rules.specs.declared.event.Event.{Event}
use Rattle.iscsi_rules.specs.rules.Settings.{are_distinct}
use Rattle.iscsi_rules.specs.rules.Run.{entry_of}
use Rattle.iscsi_rules.specs.promises.Order.{in_parts}
use Rattle.iscsi_rules.proofs.general.BoolLemmas.{and_both, and_parts}
use Rattle.iscsi_outbox_rules.specs.rules.Boxes.{Box, Link, Outgoing}
use Rattle.iscsi_outbox_rules.specs.rules.Calls.{Call, Opening}
use Rattle.iscsi_outbox_rules.specs.rules.Run.{after_call, after_calls, new_link, opened}
use Rattle.iscsi_outbox_rules.specs.rules.Words.{is_reply}
use Rattle.iscsi_outbox_rules.specs.promises.Room.{Both, FitFrom, FitItems, Fits, FitsCall, Happens, Other, Step, after_step, after_steps, all_are, begun, call_of, calls_of, is_read_with_room}
use Rattle.iscsi_outbox_rules.proofs.room.RoomFollows.{follows_known}
use Rattle.iscsi_outbox_rules.proofs.room.RoomItems.{room_on_the_way}
use Rattle.iscsi_outbox_law.specs.private.Sound.{IsSound, NoneIsFresh}
use Rattle.iscsi_outbox_law.proofs.invariants.SoundRuns.{SoundCall, SoundFrom, SoundItems, follows_sound}

-- these steps lead to it
pub record Reached (o : Opening) (b : Both) : Type 0 where
  pub steps : List Step
  pub is : after_steps o (begun o) steps ≡ b
  pub read : all_are (is_read_with_room o) o (begun o) steps ≡ true

-- ---- one step more

after_push : (o : Opening) (b : Both) (steps : List Step) (s : Step) → after_steps o b (steps ++ s ∷ []) ≡ after_step o (after_steps o b steps) s
after_push o b [] s = refl
after_push o b (x ∷ steps) s = after_push o (after_step o b x) steps s

read_push : (o : Opening) (b : Both) (steps : List Step) (s : Step) → all_are (is_read_with_room o) o b steps ≡ true → is_read_with_room o (after_steps o b steps) s ≡ true → all_are (is_read_with_room o) o b (steps ++ s ∷ []) ≡ true
read_push o b [] s all here = and_both (is_read_with_room o b s) true here refl
read_push o b (x ∷ steps) s all here =
    let parts = and_parts (is_read_with_room o b x) (all_are (is_read_with_room o) o (after_step o b x) steps) all in
    and_both (is_read_with_room o b x) (all_are (is_read_with_room o) o (after_step o b x) (steps ++ s ∷ [])) parts.0 (read_push o (after_step o b x) steps s parts.1 here)

calls_push : (o : Opening) (b : Both) (steps : List Step) (s : Step) → calls_of o b (steps ++ s ∷ []) ≡ calls_of o b steps ++ call_of o (after_steps o b steps) s ∷ []
calls_push o b [] s = refl
calls_push o b (x ∷ steps) s = ap (λ cs. call_of o b x ∷ cs) (calls_push o (after_step o b x) steps s)

box_after : (o : Opening) (b : Both) (steps : List Step) → after_calls o b.box (calls_of o b steps) ≡ (after_steps o b steps).box
box_after o b [] = refl
box_after o b (Happens e ∷ steps) = box_after o (after_step o b (Happens e)) steps
box_after o b (Other c ∷ steps) = box_after o (after_step o b (Other c)) steps

pub reached_begun : (o : Opening) → Reached o (begun o)
reached_begun o = record { steps = []; is = refl; read = refl }

pub reached_step : (o : Opening) (b : Both) (s : Step) → is_read_with_room o b s ≡ true → Reached o b → Reached o (after_step o b s)
reached_step o b s read r = record {
  steps = r.steps ++ s ∷ [];
  is = after_push o (begun o) r.steps s ∙ ap (λ x. after_step o x s) r.is;
  read = read_push o (begun o) r.steps s r.read (ap (λ x. is_read_with_room o x s) r.is ∙ read);
}

-- ---- the last of the boxes

sound_last : (o : Opening) (b : Box) (cs : List Call) → SoundFrom o b cs → IsSound o (after_calls o b cs) × NoneIsFresh (after_calls o b cs)
sound_last o b [] h = h
sound_last o b (c ∷ cs) h = sound_last o (after_call o b c) cs h.1.1

sound_call : (o : Opening) (b : Box) (cs : List Call) (c : Call) → SoundFrom o b (cs ++ c ∷ []) → SoundCall o (after_calls o b cs) c
sound_call o b [] c h = h.1.0
sound_call o b (x ∷ cs) c h = sound_call o (after_call o b x) cs c h.1.1

fits_last : (o : Opening) (b : Box) (cs : List Call) → Fits o b → FitFrom o b cs → Fits o (after_calls o b cs)
fits_last o b [] first h = first
fits_last o b (c ∷ cs) first h = fits_last o (after_call o b c) cs h.1 h.2

fits_call : (o : Opening) (b : Box) (cs : List Call) (c : Call) → FitFrom o b (cs ++ c ∷ []) → FitsCall o (after_calls o b cs) c
fits_call o b [] c h = h.0
fits_call o b (x ∷ cs) c h = fits_call o (after_call o b x) cs c h.2

none_waits : (cs : List (ℕ × ℕ)) → sum_by (λ (l : Link). count_by (λ (out : Outgoing). is_reply out.pdu) l.queue) (map (λ (c : ℕ × ℕ). new_link c.0) cs) ≤ 0
none_waits [] = omega arith
none_waits (c ∷ cs) = omega (arith, sum_by-cons (λ (l : Link). count_by (λ (out : Outgoing). is_reply out.pdu) l.queue) (new_link c.0) (map (λ (d : ℕ × ℕ). new_link d.0) cs), none_waits cs)

fits_opened : (o : Opening) → Fits o (opened o)
fits_opened o = record { replies = omega (arith, none_waits o.session.conns); tasks = omega arith }

module _ (o : Opening) (distinct : are_distinct o.session.conns ≡ true) where
  all_sound : (steps : List Step) → all_are (is_read_with_room o) o (begun o) steps ≡ true → SoundFrom o (opened o) (calls_of o (begun o) steps)
  all_sound steps read = follows_sound o (calls_of o (begun o) steps) (follows_known o steps read) distinct

  pub sound_reached : (b : Both) → Reached o b → IsSound o b.box × NoneIsFresh b.box
  sound_reached b r =
      subst (λ (x : Both). IsSound o x.box × NoneIsFresh x.box) r.is
      (subst (λ (x : Box). IsSound o x × NoneIsFresh x) (box_after o (begun o) r.steps) (sound_last o (opened o) (calls_of o (begun o) r.steps) (all_sound r.steps r.read)))

  pub fits_reached : (b : Both) → Reached o b → Fits o b.box
  fits_reached b r =
      subst (λ (x : Both). Fits o x.box) r.is
      (subst (Fits o) (box_after o (begun o) r.steps) (fits_last o (opened o) (calls_of o (begun o) r.steps) (fits_opened o) (room_on_the_way o r.steps distinct r.read)))

  -- ---- an event more

  abbrev Sounds : Both → Event → Type 0
  Sounds b e = SoundItems o b.box (in_parts (entry_of o.session b.event b.trace e).effects)

  pub sound_event : (b : Both) (e : Event) → is_read_with_room o b (Happens e) ≡ true → Reached o b → SoundItems o b.box (in_parts (entry_of o.session b.event b.trace e).effects)
  sound_event b e read r = subst (λ (x : Both). is_read_with_room o x (Happens e) ≡ true → Sounds x e) r.is there read
    where
      there : is_read_with_room o (after_steps o (begun o) r.steps) (Happens e) ≡ true → Sounds (after_steps o (begun o) r.steps) e
      there may =
          subst (λ (x : Box). SoundCall o x (call_of o (after_steps o (begun o) r.steps) (Happens e))) (box_after o (begun o) r.steps)
          (sound_call o (opened o) (calls_of o (begun o) r.steps) (call_of o (after_steps o (begun o) r.steps) (Happens e))
          (subst (SoundFrom o (opened o)) (calls_push o (begun o) r.steps (Happens e)) (all_sound (r.steps ++ Happens e ∷ []) (read_push o (begun o) r.steps (Happens e) r.read may))))

  abbrev Rooms : Both → Event → Type 0
  Rooms b e = FitItems o b.box (in_parts (entry_of o.session b.event b.trace e).effects)

  pub fits_event : (b : Both) (e : Event) → is_read_with_room o b (Happens e) ≡ true → Reached o b → FitItems o b.box (in_parts (entry_of o.session b.event b.trace e).effects)
  fits_event b e read r = subst (λ (x : Both). is_read_with_room o x (Happens e) ≡ true → Rooms x e) r.is there read
    where
      there : is_read_with_room o (after_steps o (begun o) r.steps) (Happens e) ≡ true → Rooms (after_steps o (begun o) r.steps) e
      there may =
          subst (λ (x : Box). FitsCall o x (call_of o (after_steps o (begun o) r.steps) (Happens e))) (box_after o (begun o) r.steps)
          (fits_call o (opened o) (calls_of o (begun o) r.steps) (call_of o (after_steps o (begun o) r.steps) (Happens e))
          (subst (FitFrom o (opened o)) (calls_push o (begun o) r.steps (Happens e)) (room_on_the_way o (r.steps ++ Happens e ∷ []) distinct (read_push o (begun o) r.steps (Happens e) r.read may))))
