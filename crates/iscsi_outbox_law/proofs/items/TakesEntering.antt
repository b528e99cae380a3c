-- A command enters, in both.
use Rattle.std.proofs.Common.{◌≡◌, ◌≢◌, ℕ, zero, suc, ◌+◌, ◌<◌, ◌≤◌, ◌==◌, ◌&&◌, ◌||◌, ◌⊎◌, inl, inr, cond, Bool, true, false, List, [], ◌∷◌, ◌++◌, length, filter, count_by, Option, Some, None, refl, ap, sym, subst, ◌∙◌, arith, eq-eqb, ne_eqb}
use Rattle.std.specs.List.{find, list_any}
use Rattle.std.proofs.lemmas.Bool.{and_parts, cases_eq, eqb-true, eqb-false, false≢true, true≢false}
use Rattle.std.proofs.lemmas.List.{length_push}
use Rattle.std.proofs.lemmas.List.Elements.{filter-append}
use Rattle.std.proofs.lemmas.List.Folds.{list_any-append}
use Rattle.iscsi_slots.specs.Slots.{times}
use Rattle.iscsi_lists.specs.Lists.{times_in, without}
use Rattle.iscsi_lists.proofs.PlaceLemmas.{last_there}
use Rattle.iscsi_lists.proofs.WithoutLemmas.{length_without, times_without, times_without_other}
use Rattle.iscsi_arrivals.proofs.CountLemmas.{count-cons}
use Rattle.iscsi_outbox_rules.specs.rules.Calls.{Opening}
use Rattle.iscsi_outbox_rules.specs.rules.Boxes.{Dormant as DormantTask, Task, Outgoing, Handed, Link, Box}
use Rattle.iscsi_outbox_rules.specs.rules.Words.{is_of}
use Rattle.iscsi_outbox_state.specs.Waits.{Entry}
use Rattle.iscsi_outbox_steps.specs.State.{State}
use Rattle.iscsi_outbox_steps.specs.Steps.{is_live}
use Rattle.iscsi_tracked.specs.declared.command.Command.{Command}
use Rattle.iscsi_tracked.specs.declared.command.Entering.{Entering}
use Rattle.iscsi_tracked.specs.Tracked.{Tracked, as_command, entered, find_place, has_place, is_at, next_place}
use Rattle.iscsi_outbox_law.specs.private.Pairs.{EachOf, InOrder, PairsOf, place_in}
use Rattle.iscsi_outbox_law.specs.private.Links.{AreQueues, IsEntry, IsQueue, live_place, place_of_command}
use Rattle.iscsi_outbox_law.specs.private.Commands.{AreCommands, ArePlaced, AreTrails, IsCommand, IsTrailed, is_kept, is_under_way, out_place}
use Rattle.iscsi_outbox_law.specs.private.Lanes.{AreLeft, IsInScope, is_gone, left_at}
use Rattle.iscsi_outbox_law.specs.private.Sound.{HasHome}
use Rattle.iscsi_outbox_law.specs.private.Stands.{Stands}
use Rattle.iscsi_outbox_law.proofs.general.PairLemmas.{each-append, each-weaken, pairs-append}
use Rattle.iscsi_outbox_law.proofs.general.Members.{In, any_found, any_from, each-in, order-weaken}
use Rattle.iscsi_outbox_law.proofs.commands.Homes.{none_under}
use Rattle.iscsi_outbox_law.proofs.commands.TrackedLemmas.{order_push, out_of}
use Rattle.iscsi_outbox_law.proofs.sending.HandedLemmas.{answers_weaken, pairs_keep}

-- ---- lists

module _ {A : Type 0} where
  find_push : (p : A → Bool) (xs : List A) (y : A) → find p (xs ++ y ∷ []) ≡ (elim (find p xs) as (λ (x : Option A). Option A) [ Some z ↦ Some z | None ↦ cond (p y) (Some y) None ])
  find_push p [] y = refl
  find_push p (x ∷ xs) y =
      let rest = find_push p xs y in
      elim (p x) as (λ v. cond v (Some x) (find p (xs ++ y ∷ [])) ≡ (elim (cond v (Some x) (find p xs)) as (λ (w : Option A). Option A) [ Some z ↦ Some z | None ↦ cond (p y) (Some y) None ])) [ true ↦ refl | false ↦ rest ]

-- nothing is of a ticket above all
none_named : (ticket : ℕ) (tasks : List Task) (conn : ℕ) (out : Outgoing) → EachOf (λ (t : Task). t.ticket < ticket) tasks → HasHome tasks conn out → is_of (λ k. k == ticket) out ≡ false
none_named ticket tasks conn out below home = by_ticket (out.ticket) home
  where
    by_ticket : (x : Option ℕ) → (elim x as (λ (y : Option ℕ). Type 0) [ Some k ↦ list_any (λ (t : Task). t.ticket == k && t.conn == conn) tasks ≡ true | None ↦ Unit {0} ])
        → (elim x as (λ (y : Option ℕ). Bool) [ Some k ↦ k == ticket | None ↦ false ]) ≡ false
    by_ticket None k = refl
    by_ticket (Some n) k =
        ne_eqb n ticket (λ same.
        (let t : (x : Task) × In x tasks × ((x.ticket == n && x.conn == conn) ≡ true) = any_found (λ (x : Task). x.ticket == n && x.conn == conn) tasks k in
        let lt : t.0.ticket < ticket = each-in (λ (x : Task). x.ticket < ticket) tasks t.0 t.1 below in
        let e : t.0.ticket ≡ n = eqb-true t.0.ticket n (and_parts (t.0.ticket == n) (t.0.conn == conn) t.2).0 in
        let z : ⊥ = omega (arith, lt, e, same) in z))

none_out : (o : Opening) (ticket : ℕ) (tasks : List Task) (links : List Link) → EachOf (λ (t : Task). t.ticket < ticket) tasks → EachOf (λ (l : Link). EachOf (λ (g : Handed). HasHome tasks l.conn g.out) l.handed) links → is_under_way o links ticket ≡ false
none_out o ticket tasks [] below homes = refl
none_out o ticket tasks (l ∷ links) below homes =
    ap (λ (w : Bool). w || is_under_way o links ticket) (none_under o (λ (g : Handed). is_of (λ k. k == ticket) g.out) l (none_handed l.handed homes.0)) ∙ none_out o ticket tasks links below homes.1
  where
    none_handed : (gs : List Handed) → EachOf (λ (g : Handed). HasHome tasks l.conn g.out) gs → list_any (λ (g : Handed). is_of (λ k. k == ticket) g.out) gs ≡ false
    none_handed [] k = refl
    none_handed (g ∷ gs) k = ap (λ (w : Bool). w || list_any (λ (x : Handed). is_of (λ j. j == ticket) x.out) gs) (none_named ticket tasks l.conn g.out below k.0) ∙ none_handed gs k.1

-- ---- one that enters

module _ (o : Opening) (s : State) (b : Box) (h : Stands o s b) (handed : EachOf (λ (l : Link). EachOf (λ (g : Handed). HasHome b.tasks l.conn g.out) l.handed) b.links)
    (queued : EachOf (λ (l : Link). EachOf (HasHome b.tasks l.conn) l.queue) b.links) (e : Entering) (cid : ℕ) (home : place_in s.limits.cids cid ≡ Some e.conn) (below : EachOf (λ (t : Task). t.ticket < e.ticket) b.tasks)
    (newest : s.tracked.last < e.ticket) (within : e.conn < length s.tracked.trails) (place : ℕ) (free : next_place s.tracked ≡ Some place) where
  abbrev v' : Tracked
  v' = entered e place s.tracked

  abbrev c' : Command
  c' = as_command e place

  abbrev task : Task
  task = record { ticket = e.ticket; conn = cid; unit = e.unit; tag = e.tag; numbered = e.numbered; phase = DormantTask }

  some_free : 1 ≤ times place s.tracked.free
  some_free = last_there place s.tracked.free free

  no_place : has_place place s.tracked ≡ false
  no_place = h.placed.unused place some_free

  apart : (d : Command) → In d s.tracked.commands → d.place ≡ place → ⊥
  apart d at same = true≢false (sym (any_from (is_at place) s.tracked.commands d at (eq-eqb d.place place same)) ∙ no_place)

  older : (d : Command) → In d s.tracked.commands → d.ticket < e.ticket
  older d at = let le : d.ticket ≤ s.tracked.last = each-in (λ (c : Command). c.ticket ≤ s.tracked.last) s.tracked.commands d at h.placed.newest in omega (arith, le, newest)

  each_of : (P : Command → Type 0) → ((d : Command) → In d s.tracked.commands → P d) → EachOf P s.tracked.commands
  each_of P f = walk s.tracked.commands (λ d at. at)
    where
      walk : (ds : List Command) → ((d : Command) → In d ds → In d s.tracked.commands) → EachOf P ds
      walk [] among = tt
      walk (d ∷ ds) among = (f d (among d (inl refl)), walk ds (λ x at. among x (inr at)))

  placed_entered : ArePlaced v'
  placed_entered = record {
    ascending = order_push (λ (c d : Command). c.ticket < d.ticket) s.tracked.commands c' h.placed.ascending (each_of (λ c. c.ticket < e.ticket) older);
    newest = each-append (λ (c : Command). c.ticket ≤ e.ticket) s.tracked.commands (c' ∷ []) (each_of (λ c. c.ticket ≤ e.ticket) (λ d at. (let lt = older d at in omega (arith, lt)))) ((let z : e.ticket ≤ e.ticket = omega arith in z), tt);
    apart = order_push (λ (c d : Command). c.place ≢ d.place) s.tracked.commands c' h.placed.apart (each_of (λ c. c.place ≢ place) (λ d at. apart d at));
    counted = (let one = length_push s.tracked.commands c' in
        let fewer = length_without place s.tracked.free in
        let once = h.placed.free_once place in
        let some = some_free in
        let all = h.placed.counted in omega (arith, one, fewer, once, some, all));
    unused = λ n some. unused_now n some (cases_eq n place);
    free_once = λ n. once_now n (cases_eq n place);
  }
    where
      unused_now : (n : ℕ) → 1 ≤ times n (without place s.tracked.free) → (n ≡ place) ⊎ (n ≡ place → ⊥) → list_any (is_at n) (s.tracked.commands ++ c' ∷ []) ≡ false
      unused_now n some (inl same) = absurd (let none = times_without place s.tracked.free in let k = ap (λ m. times m (without place s.tracked.free)) same in omega (arith, some, none, k))
      unused_now n some (inr other) =
          list_any-append (is_at n) s.tracked.commands (c' ∷ [])
          ∙ ap (λ (w : Bool). w || (is_at n c' || false)) (h.placed.unused n (let k = times_without_other place n s.tracked.free other in omega (arith, some, k)))
          ∙ ap (λ (w : Bool). w || false) (ne_eqb place n (λ same. other (sym same)))

      once_now : (n : ℕ) → (n ≡ place) ⊎ (n ≡ place → ⊥) → times n (without place s.tracked.free) ≤ 1
      once_now n (inl same) = (let none = times_without place s.tracked.free in let k = ap (λ m. times m (without place s.tracked.free)) same in omega (arith, none, k))
      once_now n (inr other) = (let k = times_without_other place n s.tracked.free other in let one = h.placed.free_once n in omega (arith, k, one))

  find_entered : (n : ℕ) → find_place n v' ≡ (elim (find_place n s.tracked) as (λ (x : Option Command). Option Command) [ Some z ↦ Some z | None ↦ cond (place == n) (Some c') None ])
  find_entered n = find_push (is_at n) s.tracked.commands c'

  same_out : (n : ℕ) → out_place v' n ≡ out_place s.tracked n
  same_out n = ap out_of (find_entered n) ∙ by_found (find_place n s.tracked) (place == n)
    where
      by_found : (x : Option Command) (w : Bool) → out_of (elim x as (λ (y : Option Command). Option Command) [ Some z ↦ Some z | None ↦ cond w (Some c') None ]) ≡ out_of x
      by_found (Some z) w = refl
      by_found None true = refl
      by_found None false = refl

  not_trailed : times_in place s.tracked.trails ≡ 0
  not_trailed = by_count (times_in place s.tracked.trails) refl
    where
      by_count : (n : ℕ) → times_in place s.tracked.trails ≡ n → times_in place s.tracked.trails ≡ 0
      by_count zero is = is
      by_count (suc n) is = absurd (true≢false (sym (h.trails.of_one place (omega (arith, is))) ∙ no_place))

  trails_entered : AreTrails v'
  trails_entered = record {
    trailed = each-append (IsTrailed v') s.tracked.commands (c' ∷ [])
        (each-weaken (IsTrailed s.tracked) (IsTrailed v') s.tracked.commands (λ c t. record { conn = t.conn; out = t.out; idle = t.idle; once = t.once }) h.trails.trailed)
        (record { conn = within; out = λ is. absurd (false≢true is); idle = λ is. not_trailed; once = (let z = not_trailed in omega (arith, z)) }, tt);
    of_one = λ n some. list_any-append (is_at n) s.tracked.commands (c' ∷ []) ∙ ap (λ (w : Bool). w || (is_at n c' || false)) (h.trails.of_one n some);
    onward = each-weaken (InOrder (λ (p q : ℕ). out_place s.tracked p < out_place s.tracked q)) (InOrder (λ (p q : ℕ). out_place v' p < out_place v' q)) s.tracked.trails
        (λ ps k. order-weaken (λ (p q : ℕ). out_place s.tracked p < out_place s.tracked q) (λ (p q : ℕ). out_place v' p < out_place v' q) ps (λ p q lt. (let i = same_out p in let j = same_out q in omega (arith, lt, i, j))) k) h.trails.onward;
  }

  -- ---- the commands of both

  commands_entered : AreCommands (is_under_way o b.links) s.limits.cids b.links (b.tasks ++ task ∷ []) v'
  commands_entered =
      subst (PairsOf (IsCommand (is_under_way o b.links) s.limits.cids b.links) (s.tracked.commands ++ c' ∷ [])) (sym (filter-append (is_kept (is_under_way o b.links)) b.tasks (task ∷ [])))
      (pairs-append (IsCommand (is_under_way o b.links) s.limits.cids b.links) s.tracked.commands (c' ∷ []) (filter (is_kept (is_under_way o b.links)) b.tasks) (task ∷ []) h.commands
      (record { ticket = refl; conn = home; unit = refl; tag = refl; numbered = refl; phase = refl; out = none_out o e.ticket b.tasks b.links below handed }, tt))

  -- ---- what waits

  other_place : (k : ℕ) → (k == e.ticket) ≡ false → live_place v' k ≡ live_place s.tracked k
  other_place k isnt =
      ap told (find_push (λ (d : Command). d.ticket == k) s.tracked.commands c') ∙ by_found (find (λ (d : Command). d.ticket == k) s.tracked.commands)
    where
      told : Option Command → Option ℕ
      told x = elim x as (λ (y : Option Command). Option ℕ) [ Some d ↦ cond (is_live d) (Some d.place) None | None ↦ None ]

      differs : (e.ticket == k) ≡ false
      differs = ne_eqb e.ticket k (λ same. eqb-false k e.ticket isnt (sym same))

      by_found : (x : Option Command) → told (elim x as (λ (y : Option Command). Option Command) [ Some z ↦ Some z | None ↦ cond (e.ticket == k) (Some c') None ]) ≡ told x
      by_found (Some z) = refl
      by_found None = ap (λ (w : Bool). told (cond w (Some c') None)) differs

  queues_entered : AreQueues v' s.waits.queues b.links
  queues_entered = pairs_keep (IsQueue s.tracked) (IsQueue v') s.waits.queues b.links (λ q l at for k. one_queue q l for k) h.queues
    where
      one_queue : (q : List Entry) (l : Link) → In l b.links → IsQueue s.tracked q l → IsQueue v' q l
      one_queue q l for k = pairs_keep (IsEntry s.tracked l.conn) (IsEntry v' l.conn) q l.queue (λ x out at there j. record {
        time = j.time;
        pdu = j.pdu;
        sent = j.sent;
        takes = j.takes;
        fenced = j.fenced;
        numbered = j.numbered;
        ends = j.ends;
        command = j.command ∙ sym (by_ticket (out.ticket) (none_named e.ticket b.tasks l.conn out below (each-in (HasHome b.tasks l.conn) l.queue out there (each-in (λ (m : Link). EachOf (HasHome b.tasks m.conn) m.queue) b.links l for queued))));
      }) k
        where
          by_ticket : (x : Option ℕ) → (elim x as (λ (y : Option ℕ). Bool) [ Some k ↦ k == e.ticket | None ↦ false ]) ≡ false → place_of_command v' x ≡ place_of_command s.tracked x
          by_ticket None isnt = refl
          by_ticket (Some n) isnt = other_place n isnt

  -- ---- the lane

  left_entered : AreLeft v' s.lane.items
  left_entered = record {
    each = λ n. h.left.each n ∙ sym (ap left_at (find_entered n) ∙ by_found (find_place n s.tracked) (place == n));
    counted = h.left.counted ∙ sym (none_more s.tracked.commands);
  }
    where
      by_found : (x : Option Command) (w : Bool) → left_at (elim x as (λ (y : Option Command). Option Command) [ Some z ↦ Some z | None ↦ cond w (Some c') None ]) ≡ left_at x
      by_found (Some z) w = refl
      by_found None true = refl
      by_found None false = refl

      none_more : (ds : List Command) → count_by is_gone (ds ++ c' ∷ []) ≡ count_by is_gone ds
      none_more [] = count-cons is_gone c' []
      none_more (d ∷ ds) = count-cons is_gone d (ds ++ c' ∷ []) ∙ ap (λ n. cond (is_gone d) 1 0 + n) (none_more ds) ∙ sym (count-cons is_gone d ds)

  pub entered_stands : Stands o (record s { tracked = v' }) (record b { tasks = b.tasks ++ task ∷ [] })
  entered_stands = record {
    sizes = record { limits = h.sizes.limits; waits = h.sizes.waits; answers = h.sizes.answers; commands = h.sizes.commands; trails = h.sizes.trails };
    numbers = record { time = h.numbers.time; exp = h.numbers.exp; max = h.numbers.max; shown = h.numbers.shown; reached = h.numbers.reached; sent = h.numbers.sent };
    links = h.links;
    queues = queues_entered;
    commands = commands_entered;
    placed = placed_entered;
    trails = trails_entered;
    left = left_entered;
    answers = answers_weaken s.limits.cids s.tracked v'
        (λ before a answer k. each-append (IsInScope before a answer) s.tracked.commands (c' ∷ []) k ((λ dead. absurd (true≢false dead)), tt)) [] s.lane.items b.undue h.answers;
    fence = h.fence;
  }
