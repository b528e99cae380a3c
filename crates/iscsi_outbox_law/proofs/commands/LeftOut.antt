-- Something of a command that left is under way on a connection just where the lane has it so.
use Rattle.std.proofs.Common.{◌≡◌, ◌≢◌, ℕ, ◌<◌, ◌==◌, ◌&&◌, ◌||◌, cond, Bool, true, false, List, [], ◌∷◌, length, filter, Option, Some, None, refl, ap, sym, subst, ◌∙◌}
use Rattle.std.specs.List.{list_any}
use Rattle.std.proofs.lemmas.Bool.{and_parts, eqb-true, eq-eqb, false≢true, true≢false}
use Rattle.iscsi_arrivals.specs.declared.stamp.Stamp.{Stamp}
use Rattle.iscsi_outbox_rules.specs.rules.Calls.{Opening}
use Rattle.iscsi_outbox_rules.specs.rules.Boxes.{Phase, Dormant, Fresh, Started, Completed, Running, Gone, Task, Handed, Link, Box}
use Rattle.iscsi_outbox_rules.specs.rules.Words.{has_under_way, is_left, is_left_phase, is_live_phase, is_of, is_running_phase, under_way}
use Rattle.iscsi_outbox_rules.specs.rules.Run.{new_link}
use Rattle.iscsi_outbox_state.specs.declared.lane.Undue.{Undue}
use Rattle.iscsi_outbox_state.specs.declared.lane.Standing.{Standing}
use Rattle.iscsi_outbox_state.specs.declared.lane.Standing.TheVariants.{Left as IsLeft, Undue as IsUndue}
use Rattle.iscsi_outbox_state.specs.Lane.{is_command, is_under_way_on}
use Rattle.iscsi_tracked.specs.declared.command.Command.{Command}
use Rattle.iscsi_tracked.specs.Tracked.{Tracked, find_place, is_at, is_out}
use Rattle.iscsi_outbox_steps.specs.State.{State}
use Rattle.iscsi_outbox_steps.specs.Steps.{is_live}
use Rattle.iscsi_outbox_law.specs.private.Pairs.{EachOf}
use Rattle.iscsi_outbox_law.specs.private.Commands.{ArePlaced, IsCommand, IsOut, is_kept, is_under_way, link_in}
use Rattle.iscsi_outbox_law.specs.private.Lanes.{AreLeft, left_at, left_of}
use Rattle.iscsi_outbox_law.specs.private.Sound.{HasHome, HaveHomes}
use Rattle.iscsi_outbox_law.specs.private.Stands.{Stands}
use Rattle.iscsi_outbox_law.proofs.general.PairLemmas.{each-at}
use Rattle.iscsi_outbox_law.proofs.general.Members.{In, any_found, any_from, any_more, filter_in, find_in, in_filter, in_find, index_any, order-weaken, pair_for, pair_of, same_tests}
use Rattle.iscsi_outbox_law.proofs.general.PlaceLemmas.{AreApart, IsPlace, conns_of, one_place, place_found}
use Rattle.iscsi_outbox_law.proofs.queues.Waiting.{live_as}
use Rattle.iscsi_outbox_law.proofs.commands.Homes.{handed_home, under_here}

-- ---- the lane

-- what passes stands there for a command in some place
any_placed : (test : Standing → Bool) → ((a : Undue) → test (IsUndue a) ≡ false) → (items : List Standing) → list_any test items ≡ true → (place : ℕ) × (list_any test (filter (is_command place) items) ≡ true)
any_placed test no_answer [] some = absurd (false≢true some)
any_placed test no_answer (IsUndue a ∷ items) some = any_placed test no_answer items (sym (ap (λ (v : Bool). v || list_any test items) (no_answer a)) ∙ some)
any_placed test no_answer (IsLeft c ∷ items) some = by_test (test (IsLeft c)) refl some (any_placed test no_answer items)
  where
    by_test : (v : Bool) → test (IsLeft c) ≡ v → (v || list_any test items) ≡ true → (list_any test items ≡ true → (place : ℕ) × (list_any test (filter (is_command place) items) ≡ true))
        → (place : ℕ) × (list_any test (filter (is_command place) (IsLeft c ∷ items)) ≡ true)
    by_test true is more rest = (
      c.command,
      (ap (λ (u : Bool). list_any test (cond u (IsLeft c ∷ filter (is_command c.command) items) (filter (is_command c.command) items))) (eq-eqb c.command c.command refl)
          ∙ ap (λ (u : Bool). u || list_any test (filter (is_command c.command) items)) is),
    )
    by_test false is more rest =
        let k : (place : ℕ) × (list_any test (filter (is_command place) items) ≡ true) = rest more in (
          k.0,
          elim (c.command == k.0) as (λ u. list_any test (cond u (IsLeft c ∷ filter (is_command k.0) items) (filter (is_command k.0) items)) ≡ true) [
            | true ↦ ap (λ (u : Bool). u || list_any test (filter (is_command k.0) items)) is ∙ k.1
            | false ↦ k.1
          ],
        )

-- a command that is in a place of the lane
pub record LeftThere (v : Tracked) (test : Standing → Bool) : Type 0 where
  pub command : Command
  pub kept : In command v.commands
  pub gone : is_live command ≡ false
  pub passes : test (IsLeft (left_of command)) ≡ true

any_left : (v : Tracked) (test : Standing → Bool) (place : ℕ) → list_any test (left_at (find_place place v)) ≡ true → LeftThere v test
any_left v test place some = by_found (find_place place v) refl some
  where
    by_found : (x : Option Command) → find_place place v ≡ x → list_any test (left_at x) ≡ true → LeftThere v test
    by_found None is k = absurd (false≢true k)
    by_found (Some c) is k = by_live (is_live c) refl k
      where
        or_no : (u : Bool) → (u || false) ≡ true → u ≡ true
        or_no true e = refl
        or_no false e = e

        by_live : (u : Bool) → is_live c ≡ u → list_any test (cond u [] (IsLeft (left_of c) ∷ [])) ≡ true → LeftThere v test
        by_live true live e = absurd (false≢true e)
        by_live false live e = record { command = c; kept = (find_in (is_at place) v.commands c is).0; gone = live; passes = or_no (test (IsLeft (left_of c))) e }

pub found_there : (v : Tracked) (c : Command) → ArePlaced v → In c v.commands → find_place c.place v ≡ Some c
found_there v c placed at =
    in_find (is_at c.place) v.commands c at (eq-eqb c.place c.place refl)
    (order-weaken (λ (x y : Command). x.place ≢ y.place) (λ (x y : Command). is_at c.place x ≡ true → is_at c.place y ≡ true → ⊥) v.commands
    (λ x y apart here there. apart (eqb-true x.place c.place here ∙ sym (eqb-true y.place c.place there))) placed.apart)

-- the lane has what a command that left passes
pub left_stands : (v : Tracked) (items : List Standing) (test : Standing → Bool) (c : Command) → ArePlaced v → AreLeft v items → In c v.commands → is_live c ≡ false → test (IsLeft (left_of c)) ≡ true → list_any test items ≡ true
left_stands v items test c placed left at gone is = any_whole (is_command c.place) test items (ap (list_any test) there ∙ first)
  where
    there : filter (is_command c.place) items ≡ IsLeft (left_of c) ∷ []
    there = left.each c.place ∙ ap left_at (found_there v c placed at) ∙ ap (λ (u : Bool). cond u [] (IsLeft (left_of c) ∷ [])) gone

    first : (test (IsLeft (left_of c)) || false) ≡ true
    first = ap (λ (u : Bool). u || false) is

    any_whole : (p q : Standing → Bool) (xs : List Standing) → list_any q (filter p xs) ≡ true → list_any q xs ≡ true
    any_whole p q xs some =
        let k : (x : Standing) × In x (filter p xs) × (q x ≡ true) = any_found q (filter p xs) some in
        any_from q xs k.0 (in_filter p xs k.0 k.1).0 k.2

pub stands_left : (v : Tracked) (items : List Standing) (test : Standing → Bool) → ((a : Undue) → test (IsUndue a) ≡ false) → AreLeft v items → list_any test items ≡ true → LeftThere v test
stands_left v items test no_answer left some =
    let k : (place : ℕ) × (list_any test (filter (is_command place) items) ≡ true) = any_placed test no_answer items some in
    any_left v test k.0 (sym (ap (list_any test) (left.each k.0)) ∙ k.1)

-- ---- the commands of both

gone_left : (p : Phase) (u : Bool) → (is_live_phase p || (is_running_phase p || (is_left_phase p && u))) ≡ true → is_live_phase p ≡ false → is_left_phase p ≡ true
gone_left Dormant u kept dead = absurd (true≢false dead)
gone_left Fresh u kept dead = absurd (true≢false dead)
gone_left Started u kept dead = absurd (true≢false dead)
gone_left Completed u kept dead = absurd (false≢true kept)
gone_left Running u kept dead = refl
gone_left Gone u kept dead = refl

left_kept : (p : Phase) (u : Bool) → is_left_phase p ≡ true → u ≡ true → (is_live_phase p || (is_running_phase p || (is_left_phase p && u))) ≡ true
left_kept Dormant u left is = absurd (false≢true left)
left_kept Fresh u left is = absurd (false≢true left)
left_kept Started u left is = absurd (false≢true left)
left_kept Completed u left is = absurd (false≢true left)
left_kept Running u left is = refl
left_kept Gone u left is = is

left_dead : (p : Phase) → is_left_phase p ≡ true → is_live_phase p ≡ false
left_dead Dormant left = absurd (false≢true left)
left_dead Fresh left = absurd (false≢true left)
left_dead Started left = absurd (false≢true left)
left_dead Completed left = absurd (false≢true left)
left_dead Running left = refl
left_dead Gone left = refl

pub out_under : (under : ℕ → Bool) (ticket : ℕ) (l : Link) (x : Option Stamp) → IsOut under ticket l x → elim x [ Some stamp ↦ true | None ↦ false ] ≡ under ticket
out_under under ticket l None h = sym h
out_under under ticket l (Some stamp) h = sym h.0

module _ (o : Opening) (s : State) (b : Box) (h : Stands o s b) (homes : HaveHomes b) (apart : AreApart (conns_of b.links)) where
  pub out_is : (c : Command) (t : Task) → IsCommand (is_under_way o b.links) s.limits.cids b.links c t → is_out c ≡ is_under_way o b.links c.ticket
  out_is c t k = out_under (is_under_way o b.links) c.ticket (link_in b.links c.conn) (c.last_out) k.out

  pub place_of_task : (c : Command) (t : Task) → IsCommand (is_under_way o b.links) s.limits.cids b.links c t → IsPlace b.links t.conn c.conn
  place_of_task c t k = place_found s.limits.cids b.links t.conn c.conn h.links.conns k.conn

  -- what is under way of a command is so on its connection
  pub out_there : (c : Command) (t : Task) → In t b.tasks → IsCommand (is_under_way o b.links) s.limits.cids b.links c t → is_out c ≡ has_under_way o (λ k. k == t.ticket) (link_in b.links c.conn)
  out_there c t at k = out_is c t k ∙ ap (is_under_way o b.links) k.ticket ∙ under_here o b t c.conn homes apart at (place_of_task c t k)

  pub task_of : (c : Command) → In c s.tracked.commands → (t : Task) × In t b.tasks × (is_kept (is_under_way o b.links) t ≡ true) × IsCommand (is_under_way o b.links) s.limits.cids b.links c t
  task_of c at =
      let k : (t : Task) × In t (filter (is_kept (is_under_way o b.links)) b.tasks) × IsCommand (is_under_way o b.links) s.limits.cids b.links c t =
      pair_of (IsCommand (is_under_way o b.links) s.limits.cids b.links) s.tracked.commands (filter (is_kept (is_under_way o b.links)) b.tasks) c at h.commands in
      let f = in_filter (is_kept (is_under_way o b.links)) b.tasks k.0 k.1 in
      (k.0, f.0, f.1, k.2)

  pub command_of : (t : Task) → In t b.tasks → is_kept (is_under_way o b.links) t ≡ true → (c : Command) × In c s.tracked.commands × IsCommand (is_under_way o b.links) s.limits.cids b.links c t
  command_of t at kept =
      pair_for (IsCommand (is_under_way o b.links) s.limits.cids b.links) s.tracked.commands (filter (is_kept (is_under_way o b.links)) b.tasks) t
      (filter_in (is_kept (is_under_way o b.links)) b.tasks t at kept) h.commands

  module _ (p : ℕ) (within : p < length b.links) where
    to_box : list_any (is_under_way_on p) s.lane.items ≡ true → has_under_way o (is_left b) (link_in b.links p) ≡ true
    to_box some =
        let x : LeftThere s.tracked (is_under_way_on p) = stands_left s.tracked s.lane.items (is_under_way_on p) (λ a. refl) h.left some in
        let k = task_of x.command x.kept in
        let parts = and_parts (is_out x.command) (x.command.conn == p) x.passes in
        let dead : is_live_phase k.0.phase ≡ false = sym (live_as x.command k.0 k.3.phase) ∙ x.gone in
        let left : is_left_phase k.0.phase ≡ true = gone_left k.0.phase (is_under_way o b.links k.0.ticket) k.2 dead in
        let here : has_under_way o (λ n. n == k.0.ticket) (link_in b.links p) ≡ true =
        subst (λ n. has_under_way o (λ m. m == k.0.ticket) (link_in b.links n) ≡ true) (eqb-true x.command.conn p parts.1) (sym (out_there x.command k.0 k.1 k.3) ∙ parts.0) in
        let named : is_left b k.0.ticket ≡ true = any_from (λ (t : Task). t.ticket == k.0.ticket && is_left_phase t.phase) b.tasks k.0 k.1
        (ap (λ (v : Bool). v && is_left_phase k.0.phase) (eq-eqb k.0.ticket k.0.ticket refl) ∙ left) in
        any_more (λ (g : Handed). is_of (λ n. n == k.0.ticket) g.out) (λ (g : Handed). is_of (is_left b) g.out) (under_way o (link_in b.links p)) (λ g is. of_more (g.out.ticket) k.0.ticket named is) here
      where
        of_more : (y : Option ℕ) (ticket : ℕ) → is_left b ticket ≡ true → (elim y as (λ (z : Option ℕ). Bool) [ Some n ↦ n == ticket | None ↦ false ]) ≡ true
            → (elim y as (λ (z : Option ℕ). Bool) [ Some n ↦ is_left b n | None ↦ false ]) ≡ true
        of_more None ticket named is = is
        of_more (Some n) ticket named is = ap (is_left b) (eqb-true n ticket is) ∙ named

    from_box : has_under_way o (is_left b) (link_in b.links p) ≡ true → list_any (is_under_way_on p) s.lane.items ≡ true
    from_box some = by_ticket (g.0.out.ticket) refl
      where
        g : (x : Handed) × In x (under_way o (link_in b.links p)) × (is_of (is_left b) x.out ≡ true)
        g = any_found (λ (x : Handed). is_of (is_left b) x.out) (under_way o (link_in b.links p)) some

        by_ticket : (y : Option ℕ) → g.0.out.ticket ≡ y → list_any (is_under_way_on p) s.lane.items ≡ true
        by_ticket None none = absurd (false≢true (sym (ap (λ (z : Option ℕ). elim z as (λ (w : Option ℕ). Bool) [ Some n ↦ is_left b n | None ↦ false ]) none) ∙ g.2))
        by_ticket (Some n) is =
            let left : is_left b n ≡ true = sym (ap (λ (z : Option ℕ). elim z as (λ (w : Option ℕ). Bool) [ Some m ↦ is_left b m | None ↦ false ]) is) ∙ g.2 in
            let k : (t : Task) × In t b.tasks × ((t.ticket == n && is_left_phase t.phase) ≡ true) = any_found (λ (t : Task). t.ticket == n && is_left_phase t.phase) b.tasks left in
            let parts = and_parts (k.0.ticket == n) (is_left_phase k.0.phase) k.2 in
            let same : k.0.ticket ≡ n = eqb-true k.0.ticket n parts.0 in
            let here : has_under_way o (λ m. m == k.0.ticket) (link_in b.links p) ≡ true =
            any_from (λ (x : Handed). is_of (λ m. m == k.0.ticket) x.out) (under_way o (link_in b.links p)) g.0 g.1
            (ap (λ (z : Option ℕ). elim z as (λ (w : Option ℕ). Bool) [ Some m ↦ m == k.0.ticket | None ↦ false ]) is ∙ eq-eqb n k.0.ticket (sym same)) in
            let under : is_under_way o b.links k.0.ticket ≡ true = index_any (has_under_way o (λ m. m == k.0.ticket)) b.links p (new_link 0) within here in
            let x = command_of k.0 k.1 (left_kept k.0.phase (is_under_way o b.links k.0.ticket) parts.1 under) in
            let home : k.0.conn ≡ (link_in b.links p).conn = handed_home o b.tasks k.0 (link_in b.links p) homes.ascending k.1 (each-at (λ (l : Link). EachOf (λ (x : Handed). HasHome b.tasks l.conn x.out) l.handed) b.links p (new_link 0) within homes.handed) here in
            let place : IsPlace b.links k.0.conn x.0.conn = place_of_task x.0 k.0 x.2 in
            let at : x.0.conn ≡ p = one_place b.links x.0.conn p apart place.within within (place.is ∙ home) in
            let out : is_out x.0 ≡ true = out_is x.0 k.0 x.2 ∙ ap (is_under_way o b.links) x.2.ticket ∙ under in
            left_stands s.tracked s.lane.items (is_under_way_on p) x.0 h.placed h.left x.1 (live_as x.0 k.0 x.2.phase ∙ left_dead k.0.phase parts.1)
            (ap (λ (v : Bool). v && (x.0.conn == p)) out ∙ eq-eqb x.0.conn p at)

    pub left_out : list_any (is_under_way_on p) s.lane.items ≡ has_under_way o (is_left b) (link_in b.links p)
    left_out = same_tests (list_any (is_under_way_on p) s.lane.items) (has_under_way o (is_left b) (link_in b.links p)) to_box from_box
