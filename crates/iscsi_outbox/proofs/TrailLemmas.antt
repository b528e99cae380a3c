-- The trail of a connection: the commands at its head of which nothing is under way any more leave it.
use Rattle.std.proofs.Common.{◌≡◌, ◌<◌, ◌≤◌, ℕ, zero, suc, ◌+◌, ◌∙◌, Bool, true, false, List, [], ◌∷◌, length, map, get_or, Option, Some, None, refl, sym, ap, arith, if◌then◌else◌, add-one}
use Rattle.std.proofs.lemmas.Bool.{eqb-true}
use Rattle.std.proofs.Math.ListN.{get_or-map}
use Rattle.iscsi_slots.specs.Slots.{times}
use Rattle.iscsi_lists.specs.Lists.{first_of, without}
use Rattle.iscsi_lists.proofs.ListedLemmas.{first_in}
use Rattle.iscsi_lists.proofs.PlaceLemmas.{times_any}
use Rattle.iscsi_lists.proofs.WithoutLemmas.{length_without, times_same, times_without, without_none}
use Rattle.iscsi_arrivals.specs.declared.stamp.Stamp.{Stamp}
use Rattle.iscsi_arrivals.specs.Counts.{is_under_way_by}
use Rattle.iscsi_outbox_state.specs.Lane.{arrived as arrived_in}
use Rattle.iscsi_tracked.specs.declared.command.Command.{Command}
use Rattle.iscsi_tracked.specs.declared.command.Phase.{Phase}
use Rattle.iscsi_tracked.specs.declared.command.Phase.TheVariants.{Dormant, Fresh, Started, Running, Gone}
use Rattle.iscsi_tracked.specs.Tracked.{AreKnown, IsTrailed, Tracked, arrived, find_place, first_out, has_place, is_at, removed, trail_at}
use Rattle.iscsi_outbox_steps.specs.State.{State, link_at, looks}
use Rattle.iscsi_outbox_steps.specs.Steps.{arrived_command, next_arrived, trail, trailed}
use Rattle.iscsi_outbox.proofs.KnownLemmas.{found_all, found_passes, found_there}

-- the first command of a trail has a place
pub first_has_place : (v : Tracked) (conn place : ℕ) → AreKnown v → conn < length v.trails → first_out conn v ≡ Some place → has_place place v ≡ true
first_has_place v conn place k l e = k.of_one place (first_in place conn v.trails l e)

-- ---- the first command of a trail, if nothing of it is under way any more

pub record Arrives (conn : ℕ) (s : State) (c : Command) : Type 0 where
  pub first : first_out conn s.tracked ≡ Some c.place
  pub found : find_place c.place s.tracked ≡ Some c

kept_is : (test : Stamp → Bool) (d c : Command) (o : Option Stamp) → elim o [ Some stamp ↦ (if test stamp then None else Some d) | None ↦ Some d ] ≡ Some c → d ≡ c
kept_is test d c None e = cc
kept_is test d c (Some stamp) e = elim (test stamp) as (λ b. (if b then None else Some d) ≡ Some c → d ≡ c) [ true ↦ λ e'. cc | false ↦ λ e'. cc ] e

found_arrives : (conn : ℕ) (s : State) (c : Command) (place : ℕ) (o : Option Command) → first_out conn s.tracked ≡ Some place → find_place place s.tracked ≡ o
    → elim o [
      | Some d ↦ elim (d.last_out) [ Some stamp ↦ (if is_under_way_by (looks s) stamp (link_at s conn) then None else Some d) | None ↦ Some d ]
      | None ↦ None
    ] ≡ Some c → Arrives conn s c
found_arrives conn s c place None first is e = cc
found_arrives conn s c place (Some d) first is e =
    let same = kept_is (λ stamp. is_under_way_by (looks s) stamp (link_at s conn)) d c d.last_out e in
    let at : d.place ≡ place = eqb-true d.place place (found_passes (is_at place) s.tracked.commands d is) in
    record {
      first = first ∙ ap Some (sym at ∙ ap (λ (x : Command). x.place) same);
      found = ap (λ n. find_place n s.tracked) (sym (ap (λ (x : Command). x.place) same) ∙ at) ∙ is ∙ ap Some same;
    }

first_arrives : (conn : ℕ) (s : State) (c : Command) (o : Option ℕ) → first_out conn s.tracked ≡ o
    → elim o [
      | Some place ↦ elim (find_place place s.tracked) [
        | Some d ↦ elim (d.last_out) [ Some stamp ↦ (if is_under_way_by (looks s) stamp (link_at s conn) then None else Some d) | None ↦ Some d ]
        | None ↦ None
      ]
      | None ↦ None
    ] ≡ Some c → Arrives conn s c
first_arrives conn s c None is e = cc
first_arrives conn s c (Some place) is e = found_arrives conn s c place (find_place place s.tracked) is refl e

pub arrives : (conn : ℕ) (s : State) (c : Command) → next_arrived conn s ≡ Some c → Arrives conn s c
arrives conn s c e = first_arrives conn s c (first_out conn s.tracked) refl e

pub arrives_there : (conn : ℕ) (s : State) (c : Command) → next_arrived conn s ≡ Some c → has_place c.place s.tracked ≡ true
arrives_there conn s c e = found_there (is_at c.place) s.tracked.commands c (arrives conn s c e).found

-- ---- it leaves the trail

first_times : (slot : ℕ) (xs : List ℕ) → first_of xs ≡ Some slot → 1 ≤ times slot xs
first_times slot [] e = cc
first_times slot (x ∷ xs) e = let same : x ≡ slot = cc in let a = times_same slot x xs same in omega (arith, a)

one_less : (s : ℕ) (xs : List ℕ) → first_of xs ≡ Some s → times s xs ≤ 1 → length (without s xs) + 1 ≡ length xs
one_less s xs first once = let a = first_times s xs first in let b = length_without s xs in omega (arith, a, b, once)

without_twice : (s : ℕ) (xs : List ℕ) → without s (without s xs) ≡ without s xs
without_twice s xs = without_none s (without s xs) (times_without s xs)

-- the trail of a connection as a command comes off all trails
off : (s conn : ℕ) (trails : List (List ℕ)) → get_or (map (without s) trails) conn [] ≡ without s (get_or trails conn [])
off s conn trails = get_or-map (without s) trails conn []

trail_left : (conn : ℕ) (s : State) (c : Command) → trail_at (arrived_command c s).tracked conn ≡ without c.place (trail_at s.tracked conn)
trail_left conn s c =
    let once = off c.place conn s.tracked.trails in
    let twice = off c.place conn (map (without c.place) s.tracked.trails) ∙ ap (without c.place) once ∙ without_twice c.place (trail_at s.tracked conn) in
    let s' = record s { lane = arrived_in c.place s.lane; tracked = arrived c.place s.tracked } in
    elim (c.phase) as (λ p. trail_at (elim p as (λ (q : Phase). State) [ Gone ↦ record s' { tracked = removed c.place s'.tracked } | Dormant ↦ s' | Fresh ↦ s' | Started ↦ s' | Running ↦ s' ]).tracked conn ≡ without c.place (trail_at s.tracked conn)) [
      | Gone ↦ twice
      | Dormant ↦ once
      | Fresh ↦ once
      | Started ↦ once
      | Running ↦ once
    ]

pub trail_shorter : (conn : ℕ) (s : State) (c : Command) → AreKnown s.tracked → next_arrived conn s ≡ Some c → length (trail_at (arrived_command c s).tracked conn) + 1 ≡ length (trail_at s.tracked conn)
trail_shorter conn s c k e =
    let a = arrives conn s c e in
    let t = found_all (is_at c.place) (IsTrailed s.tracked) s.tracked.commands c k.trailed a.found in
    let few = times_any c.place conn s.tracked.trails in
    ap (λ xs. length xs + 1) (trail_left conn s c) ∙ one_less c.place (trail_at s.tracked conn) a.first (omega (arith, few, t.once))

-- ---- the rest of the trail gives the same

trailed_more : (conn n : ℕ) (s : State) (c : Command) → next_arrived conn s ≡ Some c → trailed (suc n) conn s ≡ trailed n conn (arrived_command c s)
trailed_more conn n s c e = ap (λ (o : Option Command). elim o [ Some d ↦ trailed n conn (arrived_command d s) | None ↦ s ]) e

trailed_none : (conn n : ℕ) (s : State) → next_arrived conn s ≡ None → trailed n conn s ≡ s
trailed_none conn zero s e = refl
trailed_none conn (suc n) s e = ap (λ (o : Option Command). elim o [ Some d ↦ trailed n conn (arrived_command d s) | None ↦ s ]) e

pub trail_more : (conn : ℕ) (s : State) (c : Command) → AreKnown s.tracked → next_arrived conn s ≡ Some c → trail conn (arrived_command c s) ≡ trail conn s
trail_more conn s c k e =
    let l = trail_shorter conn s c k e in
    sym (ap (λ n. trailed n conn s) (sym l ∙ add-one (length (trail_at (arrived_command c s).tracked conn))) ∙ trailed_more conn (length (trail_at (arrived_command c s).tracked conn)) s c e)

pub trail_done : (conn : ℕ) (s : State) → next_arrived conn s ≡ None → trail conn s ≡ s
trail_done conn s e = trailed_none conn (length (trail_at s.tracked conn)) s e

pub cids_stay : (c : Command) (s : State) → length (arrived_command c s).limits.cids ≡ length s.limits.cids
cids_stay c s =
    let s' = record s { lane = arrived_in c.place s.lane; tracked = arrived c.place s.tracked } in
    elim (c.phase) as (λ p. length (elim p as (λ (q : Phase). State) [ Gone ↦ record s' { tracked = removed c.place s'.tracked } | Dormant ↦ s' | Fresh ↦ s' | Started ↦ s' | Running ↦ s' ]).limits.cids ≡ length s.limits.cids) [
      | Gone ↦ refl
      | Dormant ↦ refl
      | Fresh ↦ refl
      | Started ↦ refl
      | Running ↦ refl
    ]
