-- Whether the journal has room, by what a turn answered.
use Rattle.std.specs.Prelude.{◌≡◌, ℕ, ◌<◌, ◌≤◌, ◌↔◌, length, Result, Err, IsErrOf}
use Rattle.std.proofs.Common.{ap, arith, ⊎_elim}
use Rattle.std.proofs.lemmas.Bool.{cases_lt}
use Rattle.iscsi_rules.specs.rules.Settings.{Setting}
use Rattle.iscsi_threads.specs.declared.fault.LoopFault.{LoopFault}
use Rattle.iscsi_threads.specs.declared.fault.LoopFault.TheVariants.{Exhausted}
use Rattle.iscsi_threads.specs.declared.session_loop.Loop.{Loop}
use Rattle.iscsi_threads.specs.rules.Loops.{SameLoop, journal, setting}
use Rattle.iscsi_threads.specs.promises.Serving.{IsFull, HasRoom}

room_of : {A : Type 0} (r : Result A LoopFault) (n most : ℕ) → (most ≤ n → r ≡ Err Exhausted) → (r ≡ Err Exhausted → ⊥) → n < most
room_of r n most full other = ⊎_elim (λ lt. lt) (λ le. absurd (other (full le))) (cases_lt n most)

same_events : (a b : Loop) → SameLoop a b → (setting b).events ≡ (setting a).events
same_events a b same = ap (λ (o : Setting). o.events) same.setting

-- another answer than `Exhausted`, and nothing was taken
pub room_after : {A : Type 0} (a b : Loop) (r : Result A LoopFault) → SameLoop a b → journal b ≡ journal a
    → (IsErrOf r Exhausted ↔ ((setting a).events ≤ length (journal a))) → (r ≡ Err Exhausted → ⊥) → HasRoom b
room_after a b r same kept iff other =
    let events = same_events a b same in let many : length (journal b) ≡ length (journal a) = ap length kept in
    let room = room_of r (length (journal a)) (setting a).events iff.1 other in omega (arith, events, many, room)

pub full_after : {A : Type 0} (a b : Loop) (r : Result A LoopFault) → SameLoop a b → journal b ≡ journal a
    → (IsErrOf r Exhausted ↔ ((setting a).events ≤ length (journal a))) → r ≡ Err Exhausted → IsFull b
full_after a b r same kept iff is =
    let events = same_events a b same in let many : length (journal b) ≡ length (journal a) = ap length kept in
    let full = iff.0 is in omega (arith, events, many, full)

-- a loop of the same journal
pub room_kept : (a b : Loop) → SameLoop a b → journal b ≡ journal a → HasRoom a → HasRoom b
room_kept a b same kept room =
    let events = same_events a b same in let many : length (journal b) ≡ length (journal a) = ap length kept in
    omega (arith, events, many, room)
