-- The trail of a connection is walked: at its end what the steps take to be under way is so.
use Rattle.std.proofs.Common.{◌≡◌, ℕ, zero, suc, ◌+◌, ◌<◌, ◌≤◌, ◌==◌, ◌&&◌, ◌||◌, ◌⊎◌, inl, inr, ⊎_elim, not, nat_lt, cond, Bool, true, false, List, [], ◌∷◌, length, map, filter, get_or, Option, Some, None, refl, ap, sym, subst, ◌∙◌, arith, lt-ltb, le-ltb}
use Rattle.std.proofs.lemmas.Bool.{and_parts, cases_eq, cases_lt, false≢true, true≢false}
use Rattle.iscsi_slots.specs.Slots.{times}
use Rattle.iscsi_lists.specs.Lists.{first_of, without}
use Rattle.iscsi_lists.proofs.PlaceLemmas.{nth_map}
use Rattle.iscsi_lists.proofs.WithoutLemmas.{length_without, times_other, times_same}
use Rattle.iscsi_arrivals.specs.declared.stamp.Stamp.{Stamp}
use Rattle.iscsi_arrivals.specs.Counts.{is_under_way_by}
use Rattle.iscsi_arrivals.proofs.LastLemmas.{last_under_way}
use Rattle.iscsi_arrivals.proofs.SinceLemmas.{under_way_is}
use Rattle.iscsi_outbox_rules.specs.rules.Calls.{Opening}
use Rattle.iscsi_outbox_rules.specs.rules.Boxes.{Phase, Dormant, Fresh, Started, Completed, Running, Gone, Task, Box}
use Rattle.iscsi_outbox_rules.specs.rules.Words.{has_under_way, is_left_phase, is_live_phase, is_open, is_running_phase, looks_for_arrival}
use Rattle.iscsi_outbox_state.specs.Lane.{arrived as arrived_in}
use Rattle.iscsi_outbox_steps.specs.State.{Limits, State, link_at, looks}
use Rattle.iscsi_outbox_steps.specs.Steps.{arrived_command, next_arrived, trailed}
use Rattle.iscsi_tracked.specs.declared.command.Command.{Command}
use Rattle.iscsi_tracked.specs.declared.command.Phase.{Phase as KeptPhase}
use Rattle.iscsi_tracked.specs.declared.command.Phase.TheVariants.{Dormant as KeptDormant, Fresh as KeptFresh, Started as KeptStarted, Running as KeptRunning, Gone as KeptGone}
use Rattle.iscsi_tracked.specs.Tracked.{arrived as arrived_at, find_place, is_out, removed, trail_at}
use Rattle.iscsi_outbox_law.specs.private.Pairs.{PairsOf, InOrder}
use Rattle.iscsi_outbox_law.specs.private.Commands.{IsCommand, IsLastOut, IsOut, IsTrailed, is_kept, is_under_way, link_in, of_ticket, out_place}
use Rattle.iscsi_outbox_law.specs.private.Sound.{HaveHomes}
use Rattle.iscsi_outbox_law.specs.private.Stands.{Stands, StandsWith}
use Rattle.iscsi_outbox_law.proofs.general.PairLemmas.{each-at}
use Rattle.iscsi_outbox_law.proofs.general.Members.{In, each-in, in_filter, pair_of, pair_for, filter_in}
use Rattle.iscsi_outbox_law.proofs.general.PlaceLemmas.{AreApart, IsPlace, conns_of, one_place, place_found}
use Rattle.iscsi_outbox_law.proofs.connections.Standing.{counts_at}
use Rattle.iscsi_outbox_law.proofs.commands.Homes.{under_here}
use Rattle.iscsi_outbox_law.proofs.commands.LeftOut.{found_there, out_under}
use Rattle.iscsi_outbox_law.proofs.sending.HandedLemmas.{filter_same, pairs_keep}
use Rattle.iscsi_outbox_law.proofs.commands.TrackedLemmas.{out_of}
use Rattle.iscsi_outbox_law.proofs.commands.TrackedChanges.{OnTrail, on_trail}
use Rattle.iscsi_outbox_law.proofs.arrivals.ArrivedOne.{arrived_stands, command_same, less, less_there}

-- what the steps take to be under way while they walk: all that is, and on other connections nothing else
pub record Walks (o : Opening) (b : Box) (cid : ℕ) (under : ℕ → Bool) : Type 0 where
  pub more : (k : ℕ) → is_under_way o b.links k ≡ true → under k ≡ true
  pub here : (t : Task) → In t b.tasks → under t.ticket ≡ true → (is_under_way o b.links t.ticket ≡ true) ⊎ (t.conn ≡ cid)

-- the first command of a trail, and its last PDU
pub record Leads (s : State) (p : ℕ) : Type 0 where
  pub command : Command
  pub kept : In command s.tracked.commands
  pub conn_is : command.conn ≡ p
  pub stamp : Stamp
  pub last : command.last_out ≡ Some stamp
  pub rest : List ℕ
  pub trail : trail_at s.tracked p ≡ command.place ∷ rest
  pub next : next_arrived p s ≡ cond (is_under_way_by (looks s) stamp (link_at s p)) None (Some command)

-- ---- lists and tests

in_times : (q : ℕ) (ps : List ℕ) → 1 ≤ times q ps → In q ps
in_times q [] some = absurd (omega arith)
in_times q (p ∷ ps) some =
    ⊎_elim (λ same. inl (sym same))
    (λ apart. inr (in_times q ps (let e = times_other q p ps apart in omega (arith, some, e))))
    (cases_eq p q)

shown_past : (v : Bool) (n m k : ℕ) → (v && not (nat_lt n k)) ≡ true → n ≤ m → (v && not (nat_lt m k)) ≡ true
shown_past true n m k is le =
    ⊎_elim
    (λ lt. absurd (false≢true (sym (ap not (lt-ltb n k (let z : n < k = omega (arith, lt, le) in z))) ∙ is)))
    (λ ge. ap not (le-ltb m k ge)) (cases_lt m k)
shown_past false n m k is le = absurd (false≢true is)

kept_alike : (p : Phase) (u w : Bool) → (w ≡ true → u ≡ true)
    → ((is_live_phase p || (is_running_phase p || (is_left_phase p && u))) ≡ true → u ≡ w)
    → (is_live_phase p || (is_running_phase p || (is_left_phase p && u))) ≡ (is_live_phase p || (is_running_phase p || (is_left_phase p && w)))
kept_alike Dormant u w more same = refl
kept_alike Fresh u w more same = refl
kept_alike Started u w more same = refl
kept_alike Completed u w more same = refl
kept_alike Running u w more same = refl
kept_alike Gone true w more same = same refl
kept_alike Gone false true more same = more refl
kept_alike Gone false false more same = refl

same_truth : (u w : Bool) → (w ≡ true → u ≡ true) → (u ≡ true → w ≡ true) → u ≡ w
same_truth true w f g = sym (g refl)
same_truth false true f g = f refl
same_truth false false f g = refl

some_stamp : (x : Option Stamp) → (elim x as (λ (y : Option Stamp). Bool) [ Some stamp ↦ true | None ↦ false ]) ≡ true → (stamp : Stamp) × (x ≡ Some stamp)
some_stamp None is = absurd (false≢true is)
some_stamp (Some stamp) is = (stamp, refl)

goes_on : (c : Command) (w : Bool) → cond {A = Option Command} w None (Some c) ≡ None → w ≡ true
goes_on c true none = refl
goes_on c false none = absurd cc

-- ---- the first of a trail

module _ (o : Opening) (b : Box) (homes : HaveHomes b) (apart : AreApart (conns_of b.links)) (cid p : ℕ) (at : IsPlace b.links cid p) where
  module _ (under : ℕ → Bool) (s : State) (h : StandsWith under o s b) where
    task_of : (c : Command) → In c s.tracked.commands → (t : Task) × In t b.tasks × (is_kept under t ≡ true) × IsCommand under s.limits.cids b.links c t
    task_of c kept =
        let k : (t : Task) × In t (filter (is_kept under) b.tasks) × IsCommand under s.limits.cids b.links c t = pair_of (IsCommand under s.limits.cids b.links) s.tracked.commands (filter (is_kept under) b.tasks) c kept h.commands in
        let f = in_filter (is_kept under) b.tasks k.0 k.1 in
        (k.0, f.0, f.1, k.2)

    place_of_task : (c : Command) (t : Task) → IsCommand under s.limits.cids b.links c t → IsPlace b.links t.conn c.conn
    place_of_task c t k = place_found s.limits.cids b.links t.conn c.conn h.links.conns k.conn

    -- by the stamp of its last PDU a command of this connection is under way, or isn't
    module _ (c : Command) (t : Task) (of : In t b.tasks) (k : IsCommand under s.limits.cids b.links c t) (conn : c.conn ≡ p) (stamp : Stamp) (last : c.last_out ≡ Some stamp) where
      last_out : IsLastOut c.ticket (link_in b.links p) stamp
      last_out =
          let e : IsOut under c.ticket (link_in b.links c.conn) (Some stamp) = subst (IsOut under c.ticket (link_in b.links c.conn)) last k.out in
          subst (λ n. IsLastOut c.ticket (link_in b.links n) stamp) conn e.1

      pub told_by : is_under_way o b.links t.ticket ≡ (is_open (link_in b.links p) && not (nat_lt stamp.place (cond (looks_for_arrival o) (link_in b.links p).arrived (link_in b.links p).written)))
      told_by =
          under_here o b t p homes apart of (subst (IsPlace b.links t.conn) conn (place_of_task c t k))
          ∙ ap (λ n. has_under_way o (λ m. m == n) (link_in b.links p)) (sym k.ticket)
          ∙ last_under_way (of_ticket c.ticket) o (link_in b.links p) last_out.place last_out.last
          ∙ ap (λ (x : Stamp). is_open (link_in b.links p) && not (nat_lt x.place (cond (looks_for_arrival o) (link_in b.links p).arrived (link_in b.links p).written))) (sym last_out.stamp)

      pub told_steps : is_under_way_by (looks s) stamp (link_at s p) ≡ is_under_way o b.links t.ticket
      told_steps =
          ap (λ (x : Stamp). is_under_way_by (looks s) x (link_at s p)) last_out.stamp
          ∙ under_way_is (link_at s p) (link_in b.links p) (counts_at under o s b h p at.within) (looks s) last_out.place
          ∙ ap (λ (w : Bool). is_open (link_in b.links p) && not (nat_lt last_out.place (cond w (link_in b.links p).arrived (link_in b.links p).written))) (ap (λ (l : Limits). l.looks) h.sizes.limits)
          ∙ ap (λ (x : Stamp). is_open (link_in b.links p) && not (nat_lt x.place (cond (looks_for_arrival o) (link_in b.links p).arrived (link_in b.links p).written))) (sym last_out.stamp)
          ∙ sym told_by

    -- ---- who goes first

    abbrev by_last : Command → Option Stamp → Option Command
    by_last c x = elim x as (λ (y : Option Stamp). Option Command) [ Some stamp ↦ cond (is_under_way_by (looks s) stamp (link_at s p)) None (Some c) | None ↦ Some c ]

    abbrev by_command : Option Command → Option Command
    by_command x = elim x as (λ (y : Option Command). Option Command) [ Some c ↦ by_last c (c.last_out) | None ↦ None ]

    abbrev by_first : Option ℕ → Option Command
    by_first x = elim x as (λ (y : Option ℕ). Option Command) [ Some place ↦ by_command (find_place place s.tracked) | None ↦ None ]

    leads : (xs : List ℕ) → trail_at s.tracked p ≡ xs → (trail_at s.tracked p ≡ []) ⊎ Leads s p
    leads [] is = inl is
    leads (q ∷ rest) is =
        let on : OnTrail s.tracked p q = on_trail s.tracked p q h.trails (subst (λ ps. 1 ≤ times q ps) (sym is) (let e = times_same q q rest refl in omega (arith, e))) in
        let k : (stamp : Stamp) × (on.command.last_out ≡ Some stamp) = some_stamp (on.command.last_out) on.out in
        inr (record {
          command = on.command;
          kept = on.kept;
          conn_is = on.conn_is;
          stamp = k.0;
          last = k.1;
          rest = rest;
          trail = is ∙ ap (λ n. n ∷ rest) (sym on.place);
          next = ap by_first (ap first_of is) ∙ ap by_command (ap (λ n. find_place n s.tracked) (sym on.place) ∙ found_there s.tracked on.command h.placed on.kept) ∙ ap (by_last on.command) k.1;
        })

    none_leads : trail_at s.tracked p ≡ [] → next_arrived p s ≡ None
    none_leads empty = ap by_first (ap first_of empty)

    out_at : (c : Command) (stamp : Stamp) → In c s.tracked.commands → c.last_out ≡ Some stamp → out_place s.tracked c.place ≡ stamp.place
    out_at c stamp kept last =
        ap out_of (found_there s.tracked c h.placed kept) ∙ ap (λ (x : Option Stamp). elim x as (λ (y : Option Stamp). ℕ) [ Some z ↦ z.place | None ↦ 0 ]) last

    -- ---- at its end

    module _ (ends : next_arrived p s ≡ None) where
      behind : (l : Leads s p) (c : Command) → In c s.tracked.commands → c.conn ≡ p → is_out c ≡ true → out_place s.tracked l.command.place ≤ out_place s.tracked c.place
      behind l c kept conn out =
          let t : IsTrailed s.tracked c = each-in (IsTrailed s.tracked) s.tracked.commands c kept h.trails.trailed in
          let on : 1 ≤ times c.place (trail_at s.tracked p) = subst (λ n. 1 ≤ times c.place (trail_at s.tracked n)) conn (let one = t.out out in omega (arith, one)) in
          let order : InOrder (λ (x y : ℕ). out_place s.tracked x < out_place s.tracked y) (l.command.place ∷ l.rest) =
          subst (InOrder (λ (x y : ℕ). out_place s.tracked x < out_place s.tracked y)) l.trail
          (each-at (InOrder (λ (x y : ℕ). out_place s.tracked x < out_place s.tracked y)) s.tracked.trails p [] (subst (λ n. n < length s.tracked.trails) conn t.conn) h.trails.onward) in
          let in_it : In c.place (l.command.place ∷ l.rest) = in_times c.place (l.command.place ∷ l.rest) (subst (λ ps. 1 ≤ times c.place ps) l.trail on) in
          ⊎_elim (λ same. (let e = ap (out_place s.tracked) same in omega (arith, e)))
          (λ later. (let lt : out_place s.tracked l.command.place < out_place s.tracked c.place = each-in (λ y. out_place s.tracked l.command.place < out_place s.tracked y) l.rest c.place later order.0 in omega (arith, lt))) in_it

      -- what stands on the trail still is under way
      still_out : (c : Command) (t : Task) → In c s.tracked.commands → In t b.tasks → IsCommand under s.limits.cids b.links c t → c.conn ≡ p → is_out c ≡ true → is_under_way o b.links t.ticket ≡ true
      still_out c t kept of k conn out = ⊎_elim none_there some_there (leads (trail_at s.tracked p) refl)
        where
          none_there : trail_at s.tracked p ≡ [] → is_under_way o b.links t.ticket ≡ true
          none_there empty =
              absurd (let z : IsTrailed s.tracked c = each-in (IsTrailed s.tracked) s.tracked.commands c kept h.trails.trailed in
              let one = z.out out in let e = ap (λ n. times c.place (trail_at s.tracked n)) conn in let f = ap (times c.place) empty in omega (arith, one, e, f))

          some_there : Leads s p → is_under_way o b.links t.ticket ≡ true
          some_there l =
              let first = task_of l.command l.kept in
              let goes : is_under_way_by (looks s) l.stamp (link_at s p) ≡ true = goes_on l.command (is_under_way_by (looks s) l.stamp (link_at s p)) (sym l.next ∙ ends) in
              let mine : (stamp : Stamp) × (c.last_out ≡ Some stamp) = some_stamp (c.last_out) out in
              let shown = sym (told_by l.command first.0 first.1 first.3 l.conn_is l.stamp l.last) ∙ sym (told_steps l.command first.0 first.1 first.3 l.conn_is l.stamp l.last) ∙ goes in
              let le : l.stamp.place ≤ mine.0.place = (let e = behind l c kept conn out in let f = out_at l.command l.stamp l.kept l.last in let g = out_at c mine.0 kept mine.1 in omega (arith, e, f, g)) in
              told_by c t of k conn mine.0 mine.1
              ∙ shown_past (is_open (link_in b.links p)) l.stamp.place mine.0.place (cond (looks_for_arrival o) (link_in b.links p).arrived (link_in b.links p).written) shown le

      module _ (walks : Walks o b cid under) where
        under_same : (t : Task) → In t b.tasks → is_kept under t ≡ true → under t.ticket ≡ is_under_way o b.links t.ticket
        under_same t of kept = same_truth (under t.ticket) (is_under_way o b.links t.ticket) (walks.more t.ticket) (λ is. ⊎_elim (λ yes. yes) (on_it is) (walks.here t of is))
          where
            on_it : under t.ticket ≡ true → t.conn ≡ cid → is_under_way o b.links t.ticket ≡ true
            on_it is conn =
                let k : (c : Command) × In c s.tracked.commands × IsCommand under s.limits.cids b.links c t =
                pair_for (IsCommand under s.limits.cids b.links) s.tracked.commands (filter (is_kept under) b.tasks) t (filter_in (is_kept under) b.tasks t of kept) h.commands in
                let place : IsPlace b.links t.conn k.0.conn = place_of_task k.0 t k.2 in
                still_out k.0 t k.1 of k.2 (one_place b.links k.0.conn p apart place.within at.within (place.is ∙ conn ∙ sym at.is))
                (out_under under k.0.ticket (link_in b.links k.0.conn) (k.0.last_out) k.2.out ∙ ap under k.2.ticket ∙ is)

        pub ended : Stands o s b
        ended = record {
          sizes = h.sizes;
          numbers = h.numbers;
          links = h.links;
          queues = h.queues;
          commands = subst (PairsOf (IsCommand (is_under_way o b.links) s.limits.cids b.links) s.tracked.commands)
              (filter_same (is_kept under) (is_kept (is_under_way o b.links)) b.tasks (λ t of. kept_alike t.phase (under t.ticket) (is_under_way o b.links t.ticket) (walks.more t.ticket) (under_same t of)))
              (pairs_keep (IsCommand under s.limits.cids b.links) (IsCommand (is_under_way o b.links) s.limits.cids b.links) s.tracked.commands (filter (is_kept under) b.tasks)
              (λ d t here for k. let f = in_filter (is_kept under) b.tasks t for in
              command_same under (is_under_way o b.links) s.limits.cids b.links d t (ap under k.ticket ∙ under_same t f.0 f.1 ∙ ap (is_under_way o b.links) (sym k.ticket)) k) h.commands);
          placed = h.placed;
          trails = h.trails;
          left = h.left;
          answers = h.answers;
          fence = h.fence;
        }

    -- ---- one step more

    module _ (l : Leads s p) (past : is_under_way_by (looks s) l.stamp (link_at s p) ≡ false) (walks : Walks o b cid under) where
      pub walks_less : Walks o b cid (less under l.command.ticket)
      walks_less = record {
        more = λ k is. ⊎_elim
            (λ same. absurd (true≢false (sym is ∙ ap (is_under_way o b.links) (same ∙ first.3.ticket) ∙ sym (told_steps l.command first.0 first.1 first.3 l.conn_is l.stamp l.last) ∙ past)))
            (λ other. less_there under l.command.ticket k other ∙ walks.more k is) (cases_eq k l.command.ticket);
        here = λ t of is. walks.here t of (and_parts (under t.ticket) (not (t.ticket == l.command.ticket)) is).0;
      }
        where
          first : (t : Task) × In t b.tasks × (is_kept under t ≡ true) × IsCommand under s.limits.cids b.links l.command t
          first = task_of l.command l.kept

      shorter : (ps : List ℕ) → length (without l.command.place ps) ≤ length ps
      shorter ps = let e = length_without l.command.place ps in omega (arith, e)

      one_less : length (without l.command.place (trail_at s.tracked p)) + 1 ≤ length (trail_at s.tracked p)
      one_less =
          let e = length_without l.command.place (trail_at s.tracked p) in
          let f : times l.command.place (trail_at s.tracked p) ≡ times l.command.place (l.command.place ∷ l.rest) = ap (times l.command.place) l.trail in
          let g = times_same l.command.place l.command.place l.rest refl in omega (arith, e, f, g)

      abbrev with_one : State
      with_one = record s { lane = arrived_in l.command.place s.lane; tracked = arrived_at l.command.place s.tracked }

      abbrev gone_one : State
      gone_one = record with_one { tracked = removed l.command.place (arrived_at l.command.place s.tracked) }

      pub fewer_left : length (trail_at (arrived_command l.command s).tracked p) + 1 ≤ length (trail_at s.tracked p)
      fewer_left = by_phase (l.command.phase)
        where
          once : length (get_or (map (without l.command.place) s.tracked.trails) p []) + 1 ≤ length (trail_at s.tracked p)
          once = let e = ap length (nth_map l.command.place p s.tracked.trails) in let f = one_less in omega (arith, e, f)

          twice : length (get_or (map (without l.command.place) (map (without l.command.place) s.tracked.trails)) p []) + 1 ≤ length (trail_at s.tracked p)
          twice = let e = ap length (nth_map l.command.place p (map (without l.command.place) s.tracked.trails)) in let f = shorter (get_or (map (without l.command.place) s.tracked.trails) p []) in let g = once in omega (arith, e, f, g)

          by_phase : (q : KeptPhase) → length (trail_at (elim q as (λ (r : KeptPhase). State) [ KeptGone ↦ gone_one | KeptDormant ↦ with_one | KeptFresh ↦ with_one | KeptStarted ↦ with_one | KeptRunning ↦ with_one ]).tracked p) + 1 ≤ length (trail_at s.tracked p)
          by_phase KeptDormant = once
          by_phase KeptFresh = once
          by_phase KeptStarted = once
          by_phase KeptRunning = once
          by_phase KeptGone = twice

  -- ---- the walk

  pub walk : (n : ℕ) (under : ℕ → Bool) (s : State) → StandsWith under o s b → Walks o b cid under → length (trail_at s.tracked p) ≤ n → Stands o (trailed n p s) b
  walk zero under s h walks few =
      ended under s h (none_leads under s h (none_in (trail_at s.tracked p) few)) walks
    where
      none_in : (ps : List ℕ) → length ps ≤ 0 → ps ≡ []
      none_in [] le = refl
      none_in (q ∷ ps) le = absurd (omega (arith, le))
  walk (suc n) under s h walks few =
      ⊎_elim (λ empty. over (none_leads under s h empty))
      (λ l. by_next l (is_under_way_by (looks s) l.stamp (link_at s p)) refl
      (λ past. walk n (less under l.command.ticket) (arrived_command l.command s) (arrived_stands under o s b h homes l.command l.kept) (walks_less under s h l past walks)
      (let e = fewer_left under s h l past walks in omega (arith, e, few))))
      (leads under s h (trail_at s.tracked p) refl)
    where
      over : next_arrived p s ≡ None → Stands o (trailed (suc n) p s) b
      over none =
          subst (λ (x : Option Command). Stands o (elim x as (λ (y : Option Command). State) [ Some c ↦ trailed n p (arrived_command c s) | None ↦ s ]) b) (sym none) (ended under s h none walks)

      by_next : (l : Leads s p) (w : Bool) → is_under_way_by (looks s) l.stamp (link_at s p) ≡ w → (is_under_way_by (looks s) l.stamp (link_at s p) ≡ false → Stands o (trailed n p (arrived_command l.command s)) b) → Stands o (trailed (suc n) p s) b
      by_next l true is again = over (l.next ∙ ap (λ (w : Bool). cond {A = Option Command} w None (Some l.command)) is)
      by_next l false is again =
          subst (λ (x : Option Command). Stands o (elim x as (λ (y : Option Command). State) [ Some c ↦ trailed n p (arrived_command c s) | None ↦ s ]) b)
          (sym (l.next ∙ ap (λ (w : Bool). cond {A = Option Command} w None (Some l.command)) is)) (again is)
