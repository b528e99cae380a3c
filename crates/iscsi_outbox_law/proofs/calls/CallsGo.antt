-- All calls: where each goes in the steps as in the rules, they answer alike. What a call finds is what the calls before it left.
use Rattle.std.proofs.Common.{◌≡◌, ◌<◌, ◌≤◌, ◌-◌, ◌^◌, ◌+◌, ℕ, true, List, [], ◌∷◌, length, map, sum_by, count_by, refl, ap, ◌∙◌, arith}
use Rattle.std.proofs.lemmas.List.Sums.{sum_by-cons}
use Rattle.iscsi_rules.specs.declared.effect.Effect.{Effect}
use Rattle.iscsi_rules.specs.declared.effect.Numbers.{Numbers}
use Rattle.iscsi_rules.specs.rules.Settings.{are_distinct}
use Rattle.iscsi_outbox_rules.specs.promises.Room.{FitFrom, Fits, FitsCall, HasRoom}
use Rattle.iscsi_outbox_rules.specs.rules.Calls.{Opening, Call, Takes, Puts, Stops, Nexts, Writes, Hears, Joins, Loses, Clears}
use Rattle.iscsi_outbox_rules.specs.rules.Boxes.{Outgoing, Link, Box}
use Rattle.iscsi_outbox_rules.specs.rules.Words.{is_reply}
use Rattle.iscsi_outbox_rules.specs.rules.Run.{after_call as after_call_by_rules, after_calls as after_calls_by_rules, answered as answered_by_rules, answered_from as answered_from_by_rules, new_link, opened}
use Rattle.iscsi_outbox_steps.specs.State.{State}
use Rattle.iscsi_outbox_steps.specs.Run.{Gives, Joined, Put, Stopped, after_call, answered, answered_from, begun}
use Rattle.iscsi_outbox_law.specs.rules.Room.{AreFew, AreShort, IsShort, ShortFrom}
use Rattle.iscsi_outbox_law.specs.promises.Called.{after_calls}
use Rattle.iscsi_outbox_law.specs.rules.Said.{said}
use Rattle.iscsi_outbox_law.specs.private.Sound.{IsSound, NoneIsFresh}
use Rattle.iscsi_outbox_law.specs.private.Stands.{Stands}
use Rattle.iscsi_outbox_law.proofs.general.PairLemmas.{each-new}
use Rattle.iscsi_outbox_law.proofs.calls.Clears.{clears_stands}
use Rattle.iscsi_outbox_law.proofs.sending.Giving.{gives_answered}
use Rattle.iscsi_outbox_law.proofs.connections.Joins.{joins_answered, joins_stands}
use Rattle.iscsi_outbox_law.proofs.sending.NextAfter.{nexts_stands}
use Rattle.iscsi_outbox_law.proofs.calls.Opened.{stands_opened}
use Rattle.iscsi_outbox_law.proofs.queues.PutStands.{puts_answered, puts_stands}
use Rattle.iscsi_outbox_law.proofs.invariants.SoundRuns.{SoundCall, SoundFrom}
use Rattle.iscsi_outbox_law.proofs.commands.Stops.{stops_answered, stops_stands}
use Rattle.iscsi_outbox_law.proofs.commands.TurningCount.{call_last}
use Rattle.iscsi_outbox_law.proofs.commands.TurningLast.{last_of}

-- ---- one call

-- what there is room for as a call comes
pub record HasFit (o : Opening) (b : Box) : Type 0 where
  pub fits : Fits o b
  pub time : b.time < 2 ^ 64 - 1
  pub few : AreFew b

pub record Finds (o : Opening) (s : State) (b : Box) (c : Call) : Type 0 where
  pub stands : Stands o s b
  pub sound : IsSound o b
  pub stale : NoneIsFresh b
  pub last : last_of s ≤ length b.tasks
  pub fit : HasFit o b
  pub call : SoundCall o b c
  pub room : FitsCall o b c
  pub fits_after : Fits o (after_call_by_rules o b c)
  pub short : AreShort (after_call_by_rules o b c)

abbrev pub StandsAfter : Opening → State → Box → Call → Type 0
StandsAfter o s b c = Stands o (after_call s c) (after_call_by_rules o b c)

abbrev pub Goes : Opening → State → Box → Call → Type 0
Goes o s b c = (answered s c ≡ said (answered_by_rules o b c)) × StandsAfter o s b c

-- the calls that answer nothing
pub record GoSilently (o : Opening) : Type 0 where
  pub takes : (s : State) (b : Box) (effects : List Effect) (numbers : Numbers) → Finds o s b (Takes effects numbers) → StandsAfter o s b (Takes effects numbers)
  pub writes : (s : State) (b : Box) (cid : ℕ) → Finds o s b (Writes cid) → StandsAfter o s b (Writes cid)
  pub hears : (s : State) (b : Box) (cid exp_stat_sn tag : ℕ) → Finds o s b (Hears cid exp_stat_sn tag) → StandsAfter o s b (Hears cid exp_stat_sn tag)
  pub loses : (s : State) (b : Box) (cid : ℕ) → Finds o s b (Loses cid) → StandsAfter o s b (Loses cid)

-- what calls answer, and what stands after them
abbrev pub AllGo : Opening → List Call → State → Box → Type 0
AllGo o cs s b = (answered_from s cs ≡ map said (answered_from_by_rules o b cs)) × Stands o (after_calls s cs) (after_calls_by_rules o b cs)

module _ (o : Opening) (distinct : are_distinct o.session.conns ≡ true) (silent : GoSilently o) where
  goes : (s : State) (b : Box) (c : Call) → Finds o s b c → Goes o s b c
  goes s b (Takes effects numbers) k = (refl, silent.takes s b effects numbers k)
  goes s b (Puts p) k = (ap Put (puts_answered o s b k.stands k.sound distinct p), puts_stands o s b k.stands k.sound distinct p k.fit.fits k.fit.time)
  goes s b (Stops ticket) k = (ap Stopped (stops_answered o s b k.stands k.sound distinct ticket), stops_stands o s b k.stands k.sound distinct ticket k.fit.fits k.short.time)
  goes s b (Nexts cid) k = (ap Gives (gives_answered o s b k.stands k.sound distinct k.fit.few cid), nexts_stands o s b k.stands k.sound distinct k.fit.few cid)
  goes s b (Writes cid) k = (refl, silent.writes s b cid k)
  goes s b (Hears cid exp_stat_sn tag) k = (refl, silent.hears s b cid exp_stat_sn tag k)
  goes s b (Joins cid n) k = (ap Joined (joins_answered o s b k.stands distinct cid), joins_stands o s b k.stands distinct cid n)
  goes s b (Loses cid) k = (refl, silent.loses s b cid k)
  goes s b (Clears unit) k = (refl, clears_stands o s b k.stands k.sound distinct k.fit.fits unit k.short.time)

  -- ---- call by call

  all_go : (cs : List Call) (s : State) (b : Box) → Stands o s b → last_of s ≤ length b.tasks → HasFit o b → SoundFrom o b cs → FitFrom o b cs → ShortFrom o b cs → AllGo o cs s b
  all_go [] s b h last fit sound room short = (refl, h)
  all_go (c ∷ cs) s b h last fit sound room short =
      let k : Goes o s b c = goes s b c (record {
        stands = h;
        sound = sound.0.0;
        stale = sound.0.1;
        last = last;
        fit = fit;
        call = sound.1.0;
        room = room.0;
        fits_after = room.1;
        short = short.0;
      }) in
      let rest : AllGo o cs (after_call s c) (after_call_by_rules o b c)
      = all_go cs (after_call s c) (after_call_by_rules o b c) k.1 (call_last o s b c last sound.1.0) (record { fits = room.1; time = short.0.time; few = short.0.handed }) sound.1.1 room.2 short.1 in
      (ap (λ x. x ∷ answered_from (after_call s c) cs) k.0 ∙ ap (λ xs. said (answered_by_rules o b c) ∷ xs) rest.0, rest.1)

  -- ---- at first

  none_waits : (conns : List (ℕ × ℕ)) → sum_by (λ (l : Link). count_by (λ (out : Outgoing). is_reply out.pdu) l.queue) (map (λ (c : ℕ × ℕ). new_link c.0) conns) ≡ 0
  none_waits [] = refl
  none_waits (c ∷ conns) = sum_by-cons (λ (l : Link). count_by (λ (out : Outgoing). is_reply out.pdu) l.queue) (new_link c.0) (map (λ (d : ℕ × ℕ). new_link d.0) conns) ∙ ap (λ n. 0 + n) (none_waits conns)

  fit_opened : HasFit o (opened o)
  fit_opened = record {
    fits = record { replies = (let e = none_waits o.session.conns in omega (arith, e)); tasks = omega arith };
    time = omega arith;
    few = each-new (λ (l : Link). length l.handed < 2 ^ 63) (λ (c : ℕ × ℕ). new_link c.0) o.session.conns (λ c. omega arith);
  }

  pub run_goes : (calls : List Call) → SoundFrom o (opened o) calls → HasRoom o calls → IsShort o calls → AllGo o calls (begun o) (opened o)
  run_goes calls sound room short = all_go calls (begun o) (opened o) (stands_opened o) (omega arith) fit_opened sound room short
